-- Which rules a node of each kind may violate, in ascending order, and which the two walks ask there.
use Rattle.std.specs.Prelude.{◌==◌, not, Bool, true, false, List, [], ◌∷◌}
use Rattle.std.specs.List.{list_any}
use Rattle.clu_base.specs.declared.rules.Rule.{Rule}
use Rattle.clu_base.specs.declared.rules.Rule.TheVariants as rule
use Rattle.clu_base.specs.Rules.{number_of}
use Rattle.clu_tree.specs.declared.node.NodeKind.{NodeKind}
use Rattle.clu_tree.specs.declared.node.NodeKind.TheVariants as kind

abbrev pub part : List Rule
part = rule.LiteralRange ∷ []

abbrev pub declaring : List Rule
declaring = rule.LiteralRange ∷ rule.DefinedTwice ∷ []

abbrev pub of_type : List Rule
of_type = rule.NotType ∷ rule.ResultCount ∷ []

abbrev pub selector : List Rule
selector = rule.LiteralRange ∷ rule.Selectors ∷ []

abbrev pub store : List Rule
store = rule.LiteralRange ∷ rule.NoOperation ∷ rule.ArgumentCount ∷ rule.ArgumentType ∷ rule.WhereNotMet ∷ rule.NotInTypeSet ∷ rule.IteratorUse ∷ []

abbrev pub condition : List Rule
condition = rule.NotBool ∷ []

abbrev pub signal : List Rule
signal = rule.LiteralRange ∷ rule.SignalNotListed ∷ rule.SignalTypes ∷ []

abbrev pub jump : List Rule
jump = rule.NotInLoop ∷ []

abbrev pub invoking : List Rule
invoking =
    rule.LiteralRange ∷ rule.NotConstant ∷ rule.NotType ∷ rule.NoOperation ∷ rule.ArgumentCount ∷ rule.ArgumentType ∷ rule.ResultCount ∷
    rule.NotBool ∷ rule.WhereNotMet ∷ rule.NotInTypeSet ∷ rule.IteratorUse ∷ []

abbrev pub of_paren : List Rule
of_paren = rule.NotConstant ∷ rule.NotType ∷ []

abbrev pub constructor : List Rule
constructor = rule.NotConstant ∷ rule.NotType ∷ rule.ArgumentType ∷ rule.Selectors ∷ []

abbrev pub up_down : List Rule
up_down = rule.NotConstant ∷ rule.NotType ∷ rule.UpDown ∷ []

abbrev pub rules_at : NodeKind → List Rule
rules_at kind.Routine = rule.LiteralRange ∷ rule.DefinedTwice ∷ rule.EndName ∷ rule.RoutineTooLarge ∷ []
rules_at kind.Cluster = rule.LiteralRange ∷ rule.DefinedTwice ∷ rule.CvtPlace ∷ rule.ExportMissing ∷ rule.EndName ∷ rule.RoutineTooLarge ∷ []
rules_at kind.Parm = rule.LiteralRange ∷ rule.DefinedTwice ∷ rule.ParameterKind ∷ []
rules_at kind.Exc = rule.LiteralRange ∷ rule.DefinedTwice ∷ rule.SignalTypes ∷ []
rules_at kind.Restrict = rule.LiteralRange ∷ rule.UnknownName ∷ rule.DefinedTwice ∷ rule.CircularEquate ∷ rule.NotType ∷ []
rules_at kind.Oper = declaring
rules_at kind.Equate = declaring
rules_at kind.Decl = declaring
rules_at kind.TypeSet = rule.LiteralRange ∷ rule.UnknownName ∷ rule.DefinedTwice ∷ rule.NotType ∷ []
rules_at kind.Own = rule.LiteralRange ∷ rule.DefinedTwice ∷ rule.ResultCount ∷ rule.AssignType ∷ rule.OwnPlace ∷ []
rules_at kind.Simple = rule.CircularEquate ∷ rule.NotType ∷ rule.Real ∷ rule.ResultCount ∷ rule.CvtPlace ∷ []
rules_at kind.ListT = of_type
rules_at kind.FieldsT = of_type
rules_at kind.RoutineT = of_type
rules_at kind.NameT =
    rule.LiteralRange ∷ rule.UnknownName ∷ rule.CircularEquate ∷ rule.NotType ∷ rule.ResultCount ∷ rule.WhereNotMet ∷ rule.ParameterKind ∷ rule.NotInTypeSet ∷ []
rules_at kind.FieldT = selector
rules_at kind.FieldE = selector
rules_at kind.Init = rule.LiteralRange ∷ rule.DefinedTwice ∷ rule.ResultCount ∷ rule.AssignType ∷ []
rules_at kind.Assign = rule.LiteralRange ∷ rule.UnknownName ∷ rule.ResultCount ∷ rule.AssignType ∷ []
rules_at kind.SetField = store
rules_at kind.SetIndex = store
rules_at kind.For = rule.LiteralRange ∷ rule.UnknownName ∷ rule.ResultCount ∷ rule.AssignType ∷ rule.IteratorUse ∷ []
rules_at kind.While = condition
rules_at kind.If = condition
rules_at kind.Tagcase = rule.NotTagged ∷ rule.TagMissingOrTwice ∷ []
rules_at kind.TagArm = rule.LiteralRange ∷ rule.DefinedTwice ∷ rule.AssignType ∷ rule.TagMissingOrTwice ∷ []
rules_at kind.Return = rule.ReturnValues ∷ []
rules_at kind.Yield = rule.NotInIterator ∷ rule.ReturnValues ∷ []
rules_at kind.Signal = signal
rules_at kind.Resignal = signal
rules_at kind.Exit = rule.LiteralRange ∷ rule.SignalTypes ∷ rule.ExitNoArm ∷ []
rules_at kind.Break = jump
rules_at kind.Continue = jump
rules_at kind.When = rule.LiteralRange ∷ rule.ArmTypes ∷ rule.ArmTwice ∷ []
rules_at kind.Others = rule.LiteralRange ∷ rule.DefinedTwice ∷ rule.ArmTypes ∷ []
rules_at kind.Infix = invoking
rules_at kind.Prefix = invoking
rules_at kind.Get = invoking
rules_at kind.Call = invoking
rules_at kind.Paren = of_paren
rules_at kind.Force = of_paren
rules_at kind.Literal = rule.LiteralRange ∷ rule.NotConstant ∷ rule.NotType ∷ rule.Real ∷ []
rules_at kind.Name =
    rule.LiteralRange ∷ rule.UnknownName ∷ rule.CircularEquate ∷ rule.NotConstant ∷ rule.NotType ∷ rule.NoOperation ∷ rule.ResultCount ∷
    rule.WhereNotMet ∷ rule.ParameterKind ∷ rule.NotInTypeSet ∷ []
rules_at kind.Index =
    rule.NotConstant ∷ rule.NotType ∷ rule.NoOperation ∷ rule.ArgumentCount ∷ rule.ArgumentType ∷ rule.ResultCount ∷ rule.WhereNotMet ∷
    rule.ParameterKind ∷ rule.NotInTypeSet ∷ rule.IteratorUse ∷ []
rules_at kind.Fields = constructor
rules_at kind.Elems = constructor
rules_at kind.OperOf = rule.LiteralRange ∷ rule.NotConstant ∷ rule.NotType ∷ rule.NoOperation ∷ rule.WhereNotMet ∷ rule.NotInTypeSet ∷ []
rules_at kind.Up = up_down
rules_at kind.Down = up_down
rules_at _ = part

-- the rule is one of those
abbrev pub is_asked : NodeKind → Rule → Bool
is_asked k r = list_any (λ s. number_of s == number_of r) (rules_at k)

abbrev pub rules_if : Bool → NodeKind → List Rule
rules_if true k = rules_at k
rules_if false k = []

-- what the walk over the headings asks at a node that is one of a heading or not: of modules, routines and clusters the
-- names and exports alone
abbrev pub rules_of_headings : NodeKind → Bool → List Rule
rules_of_headings kind.Module in_heading = []
rules_of_headings kind.Routine in_heading = rule.DefinedTwice ∷ []
rules_of_headings kind.Cluster in_heading = rule.DefinedTwice ∷ rule.ExportMissing ∷ []
rules_of_headings k in_heading = rules_if in_heading k

-- and the walk over the rest
abbrev pub rules_of_rest : NodeKind → Bool → List Rule
rules_of_rest kind.Module in_heading = part
rules_of_rest kind.Routine in_heading = rule.LiteralRange ∷ rule.EndName ∷ rule.RoutineTooLarge ∷ []
rules_of_rest kind.Cluster in_heading = rule.LiteralRange ∷ rule.CvtPlace ∷ rule.EndName ∷ rule.RoutineTooLarge ∷ []
rules_of_rest k in_heading = rules_if (not in_heading) k
