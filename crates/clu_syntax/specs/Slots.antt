-- Which children a node has, by their kinds and in the order of the text: one row a kind.
use Rattle.std.specs.Prelude.{ℕ, suc, ◌+◌, ◌||◌, if◌then◌else◌, Bool, true, false, List, [], ◌∷◌, Option, Some, None}
use Rattle.clu_tree.specs.declared.node.NodeKind.{NodeKind}
use Rattle.clu_tree.specs.declared.node.NodeKind.TheVariants as k
use Rattle.clu_grammar.specs.Kinds.{is_expression, is_type, is_statement}
use Rattle.clu_syntax.specs.Splits.{is_of}

-- one child of these kinds, or any number of them
pub data Slot : Type 0 where
  one any : (NodeKind → Bool) → Slot

-- constant = expr / type
abbrev pub is_constant : NodeKind → Bool
is_constant kind = is_expression kind || is_type kind

abbrev pub is_right_side : NodeKind → Bool
is_right_side kind = is_constant kind || is_of k.TypeSet kind

abbrev pub is_definition : NodeKind → Bool
is_definition kind = is_of k.Routine kind || is_of k.Cluster kind

-- a condition, or an item of a body
abbrev pub is_of_clause : NodeKind → Bool
is_of_clause kind = is_expression kind || is_of k.Equate kind || is_statement kind

-- {Equate} {stmt}
abbrev pub body : List Slot
body = any (is_of k.Equate) ∷ any is_statement ∷ []

abbrev pub slots : NodeKind → List Slot
slots k.File = any (is_of k.Module) ∷ []
slots k.Module = any (is_of k.Equate) ∷ one is_definition ∷ []
slots k.Routine = any (is_of k.Parm) ∷ any (is_of k.Decl) ∷ any (is_of k.Results) ∷ any (is_of k.Signals) ∷ any (is_of k.Where) ∷ any (is_of k.Equate) ∷ any (is_of k.Own) ∷ any is_statement ∷ []
slots k.Cluster = any (is_of k.Parm) ∷ any (is_of k.Where) ∷ any (is_of k.Equate) ∷ any (is_of k.Own) ∷ any (is_of k.Routine) ∷ []
slots k.Parm = any is_type ∷ []
slots k.Results = any is_type ∷ []
slots k.Signals = any (is_of k.Exc) ∷ []
slots k.Exc = any is_type ∷ []
slots k.Where = any (is_of k.Restrict) ∷ []
slots k.Restrict = any (is_of k.Oper) ∷ any (is_of k.TypeSet) ∷ []
slots k.Oper = one is_type ∷ []
slots k.TypeSet = any (is_of k.Oper) ∷ any (is_of k.Equate) ∷ []
slots k.Equate = one is_right_side ∷ []
slots k.Own = any (is_of k.Decl) ∷ any is_type ∷ any is_expression ∷ []
slots k.Decl = one is_type ∷ []
slots k.ListT = one is_type ∷ []
slots k.FieldsT = any (is_of k.FieldT) ∷ []
slots k.FieldT = one is_type ∷ []
slots k.RoutineT = any is_type ∷ any (is_of k.Results) ∷ any (is_of k.Signals) ∷ []
slots k.NameT = any is_constant ∷ []
slots k.Declare = one (is_of k.Decl) ∷ []
slots k.Init = any (is_of k.Decl) ∷ any is_type ∷ one is_expression ∷ []
slots k.Assign = any is_expression ∷ []
slots k.SetField = one is_expression ∷ one is_expression ∷ []
slots k.SetIndex = one is_expression ∷ one is_expression ∷ one is_expression ∷ []
slots k.CallS = one (is_of k.Call) ∷ []
slots k.While = one is_expression ∷ body
slots k.For = any (is_of k.Decl) ∷ one (is_of k.Call) ∷ body
slots k.If = any is_of_clause ∷ []
slots k.Tagcase = one is_expression ∷ any (is_of k.TagArm) ∷ body
slots k.TagArm = any is_type ∷ body
slots k.Return = any is_expression ∷ []
slots k.Yield = any is_expression ∷ []
slots k.Signal = any is_expression ∷ []
slots k.Exit = any is_expression ∷ []
slots k.Begin = body
slots k.Resignal = one is_statement ∷ []
slots k.Except = one is_statement ∷ any (is_of k.When) ∷ any (is_of k.Others) ∷ []
slots k.When = any (is_of k.Decl) ∷ body
slots k.Others = any is_type ∷ body
slots k.Infix = one is_expression ∷ one is_expression ∷ []
slots k.Prefix = one is_expression ∷ []
slots k.Paren = one is_expression ∷ []
slots k.Index = one is_expression ∷ any is_constant ∷ []
slots k.Get = one is_expression ∷ []
slots k.Call = one is_expression ∷ any is_expression ∷ []
slots k.Fields = one is_type ∷ any (is_of k.FieldE) ∷ []
slots k.FieldE = one is_expression ∷ []
slots k.Elems = one is_type ∷ any is_expression ∷ []
slots k.OperOf = one is_type ∷ []
slots k.Force = one is_type ∷ []
slots k.Up = one is_expression ∷ []
slots k.Down = one is_expression ∷ []
slots _ = []

-- what may stand after a child of this kind
unfoldable pub after : List Slot → NodeKind → Option (List Slot)
after [] kind = None
after (one p ∷ ss) kind = if p kind then Some ss else None
after (any p ∷ ss) kind = if p kind then Some (any p ∷ ss) else after ss kind

-- nothing more has to stand there
unfoldable pub may_end : List Slot → Bool
may_end [] = true
may_end (one p ∷ ss) = false
may_end (any p ∷ ss) = may_end ss

-- children of these kinds stand in these slots
unfoldable pub fit : List Slot → List NodeKind → Bool
fit ss [] = may_end ss
fit ss (kind ∷ kinds) = elim (after ss kind) [ None ↦ false | Some rest ↦ fit rest kinds ]
