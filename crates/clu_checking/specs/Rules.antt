-- The table of rules: when a node violates each of them. V1 to V3 are asked before there is a tree. `bad` says of an Equate
-- or a declaration whether a rule is violated in it, or in an Equate that it leads to.
use Rattle.std.specs.Prelude.{ℕ, Bool, true, false, List, [], ◌∷◌, Option, Some, None}
use Rattle.clu_base.specs.declared.rules.Rule.{Rule}
use Rattle.clu_base.specs.declared.rules.Rule.TheVariants as rule
use Rattle.clu_checking.specs.Files.{File}
use Rattle.clu_checking.specs.NameRules.{v4, v5, v6, v7, v37}
use Rattle.clu_checking.specs.ConstantRules.{v8, v9, v10, v19, v31}
use Rattle.clu_checking.specs.ExpressionRules.{v11, v12, v13, v17, v18, v20, v32}
use Rattle.clu_checking.specs.StatementRules.{v14, v15, v16, v21, v22, v28, v29, v30, v36}
use Rattle.clu_checking.specs.ExceptionRules.{v23, v24, v25, v26, v27}
use Rattle.clu_checking.specs.ModuleRules.{v33, v34, v35}

module _ (f : File) (bad : ℕ → Bool) where
  abbrev pub violates : ℕ → Rule → Bool
  -- an integer literal, an octal code or an identifier is too large
  violates n rule.LiteralRange = v4 f n
  -- the name denotes nothing in scope, in the file or in the library
  violates n rule.UnknownName = v5 f n
  -- the name is in scope already from this module, or stands twice
  violates n rule.DefinedTwice = v6 f bad n
  -- the unfolding of the equate meets itself
  violates n rule.CircularEquate = v7 f n
  -- a constant is wanted and this is none
  violates n rule.NotConstant = v8 f bad n
  -- a type or type set is wanted and this is none
  violates n rule.NotType = v9 f bad n
  -- the type `real` or a real literal
  violates n rule.Real = v10 f n
  -- the type gives no operation of that name
  violates n rule.NoOperation = v11 f n
  -- an invocation has another number of arguments
  violates n rule.ArgumentCount = v12 f n
  -- an argument's type isn't included in the formal's, or what is invoked is no routine
  violates n rule.ArgumentType = v13 f n
  -- an expression has not exactly one result, or a statement another number of variables
  violates n rule.ResultCount = v14 f n
  -- an object's type isn't included in the variable's, or the target is no variable
  violates n rule.AssignType = v15 f n
  -- a condition or an operand of `cand` or `cor` isn't bool
  violates n rule.NotBool = v16 f n
  -- a selector stands twice, or a constructor doesn't fit its type
  violates n rule.Selectors = v17 f n
  -- an actual doesn't meet a `has` clause, or a built-in operation's need
  violates n rule.WhereNotMet = v18 f n
  -- another number or kind of actual parameters
  violates n rule.ParameterKind = v19 f n
  -- an actual doesn't meet an `in` clause
  violates n rule.NotInTypeSet = v20 f n
  -- `tagcase` on no oneof or variant
  violates n rule.NotTagged = v21 f n
  -- an arm names a foreign tag or one twice, or a tag is left without `others`
  violates n rule.TagMissingOrTwice = v22 f n
  -- the declarations of an arm don't fit what is raised
  violates n rule.ArmTypes = v23 f n
  -- a name in two arms of one `except`
  violates n rule.ArmTwice = v24 f n
  -- signal or resignal of a name that is neither in the heading nor `failure`
  violates n rule.SignalNotListed = v25 f n
  -- number or types of a signal, exit or resignalled raise don't fit
  violates n rule.SignalTypes = v26 f bad n
  -- no enclosing `when` arm of that name in the routine
  violates n rule.ExitNoArm = v27 f n
  -- break or continue outside a loop of the routine
  violates n rule.NotInLoop = v28 f n
  -- yield outside an iterator
  violates n rule.NotInIterator = v29 f n
  -- number or types of return or yield don't fit the heading
  violates n rule.ReturnValues = v30 f n
  -- `cvt` or `rep` where it may not stand, or a cluster without exactly one `rep`
  violates n rule.CvtPlace = v31 f n
  -- up or down outside a cluster, or on another type
  violates n rule.UpDown = v32 f n
  -- an exported name without a routine
  violates n rule.ExportMissing = v33 f n
  -- the name after `end` differs
  violates n rule.EndName = v34 f n
  -- a routine, or a cluster's own declarations, have more than 4,000 nodes
  violates n rule.RoutineTooLarge = v35 f n
  -- an iterator is invoked outside `for`, or `for` is over no iterator
  violates n rule.IteratorUse = v36 f n
  -- the initialiser of an own variable names a formal argument
  violates n rule.OwnPlace = v37 f n
  violates n _ = false

-- the rules of the table by their numbers, V4 to V37
abbrev pub all_rules : List Rule
all_rules =
    rule.LiteralRange ∷ rule.UnknownName ∷ rule.DefinedTwice ∷ rule.CircularEquate ∷ rule.NotConstant ∷ rule.NotType ∷
    rule.Real ∷ rule.NoOperation ∷ rule.ArgumentCount ∷ rule.ArgumentType ∷ rule.ResultCount ∷ rule.AssignType ∷
    rule.NotBool ∷ rule.Selectors ∷ rule.WhereNotMet ∷ rule.ParameterKind ∷ rule.NotInTypeSet ∷ rule.NotTagged ∷
    rule.TagMissingOrTwice ∷ rule.ArmTypes ∷ rule.ArmTwice ∷ rule.SignalNotListed ∷ rule.SignalTypes ∷ rule.ExitNoArm ∷
    rule.NotInLoop ∷ rule.NotInIterator ∷ rule.ReturnValues ∷ rule.CvtPlace ∷ rule.UpDown ∷ rule.ExportMissing ∷
    rule.EndName ∷ rule.RoutineTooLarge ∷ rule.IteratorUse ∷ rule.OwnPlace ∷ []

-- the first of the rules that is violated
abbrev pub least : (Rule → Bool) → List Rule → Option Rule
least violated [] = None
least violated (r ∷ rs) = elim (violated r) [ true ↦ Some r | false ↦ least violated rs ]
