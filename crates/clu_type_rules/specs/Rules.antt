-- When a node violates each rule, by what is known of the file. `bad` says of each Equate and of each Decl of an arm whether a rule
-- is violated in it.
use Rattle.std.specs.Prelude.{ℕ, ◌||◌, ◌&&◌, Bool, true, false, List, find, slice_get, get_or, is_some, Option, Some, None}
use Rattle.std.specs.List.{list_any}
use Rattle.clu_base.specs.declared.rules.Rule.{Rule}
use Rattle.clu_base.specs.declared.rules.Rule.TheVariants as rule
use Rattle.clu_tree.specs.declared.node.Node.{Node}
use Rattle.clu_tree.specs.declared.node.NodeKind.TheVariants as kind
use Rattle.clu_syntax.specs.Items.{Item}
use Rattle.clu_syntax.specs.Kinds.{kind_at}
use Rattle.clu_syntax.specs.Nodes.{item_with}
use Rattle.clu_settle.specs.Names.{names_of}
use Rattle.clu_settle.specs.declared.value.Value.TheVariants as value
use Rattle.clu_head.specs.Refused.{is_set}
use Rattle.clu_head.specs.There.{is_there}
use Rattle.clu_bindings.specs.Files.{bound_in}
use Rattle.clu_bindings.specs.Tables.{items_at}
use Rattle.clu_bindings.specs.declared.file.File.{File}
use Rattle.clu_name_rules.specs.declared.tables.Tables.{Tables}
use Rattle.clu_name_rules.specs.Closed.{is_long}
use Rattle.clu_name_rules.specs.NameRules.{is_literal_out_of_range, uses_unknown, is_defined_twice, disagrees_by, leads_to_mark, takes_argument}
use Rattle.clu_name_rules.specs.ConstantRules.{v8, v9, v10, v19, v31}
use Rattle.clu_name_rules.specs.Constructors.{v17}
use Rattle.clu_name_rules.specs.ModuleRules.{lacks_export, is_ended_otherwise, is_too_large}
use Rattle.clu_type_rules.specs.declared.invocation_rules.Fault.TheVariants as fault
use Rattle.clu_type_rules.specs.declared.known.Known.{Known}
use Rattle.clu_type_rules.specs.Bindings.{v15}
use Rattle.clu_type_rules.specs.Constructors.{v13}
use Rattle.clu_type_rules.specs.ExceptionRules.{v23, v26, is_not_listed, lacks_arm}
use Rattle.clu_type_rules.specs.ExpressionRules.{is_up_or_down_misplaced}
use Rattle.clu_type_rules.specs.InvocationRules.{lacks_operation, some_has_fault, misuses_iterator}
use Rattle.clu_type_rules.specs.Known.{kind_in}
use Rattle.clu_type_rules.specs.Leaving.{is_outside_loop, is_outside_iterator}
use Rattle.clu_type_rules.specs.ResultRules.{has_other_number}
use Rattle.clu_type_rules.specs.StatementRules.{has_no_condition, is_on_no_tags, gives_other}
use Rattle.clu_type_rules.specs.Tags.{v22}
use Rattle.clu_type_rules.specs.Unmet.{unmet_at}

module _ (t : Tables) (bad : List Bool) (items : ℕ → Item) (n : ℕ) where
  -- a rule by which types are refused
  abbrev pub violates_of_types : Rule → Bool
  violates_of_types rule.LiteralRange =
      list_any is_long (names_of (slice_get t.file.syntax.now n)) || is_literal_out_of_range (item_with items t.file.syntax.now n (slice_get t.file.syntax.now n)).expression (get_or t.file.values.now n value.Lost)
  violates_of_types rule.UnknownName =
      uses_unknown (kind_at t.file.syntax.now n) (names_of (slice_get t.file.syntax.now n)) (bound_in t.file.names.now n) (items_at t.file.bindings.now.meanings.items t.file.names.now.starts.items n)
  violates_of_types rule.CircularEquate = leads_to_mark t.circular.now (kind_at t.file.syntax.now n) (bound_in t.file.names.now n)
  violates_of_types rule.NotConstant = v8 t bad n
  violates_of_types rule.NotType = v9 t bad items n
  violates_of_types rule.Real = v10 t.file items n
  violates_of_types rule.Selectors = v17 t items n
  violates_of_types rule.ParameterKind = v19 t n
  violates_of_types rule.CvtPlace = v31 t.file items n
  violates_of_types _ = false

module _ (k : Known) (bad : List Bool) (items : ℕ → Item) (n : ℕ) where
  abbrev pub violates : Rule → Bool
  violates rule.DefinedTwice =
      is_defined_twice items k.tables.file.syntax.now k.tables.file.rounds.now k.tables.file.names.now k.tables.items.now.repeated.items k.tables.own.now n
      || disagrees_by k.tables.file.syntax.now k.tables.file.names.now k.tables.circular.now bad k.disagrees.now (kind_at k.tables.file.syntax.now n) n
  violates rule.NoOperation = lacks_operation k n
  violates rule.ArgumentCount = some_has_fault k fault.ArgumentCount n
  violates rule.ArgumentType = v13 k items n
  violates rule.ResultCount = has_other_number k items n
  violates rule.AssignType = v15 k items n
  violates rule.NotBool = has_no_condition k items (kind_in k n) n
  violates rule.WhereNotMet = (unmet_at k.unmet.now n).by_has
  violates rule.NotInTypeSet = (unmet_at k.unmet.now n).by_in
  violates rule.NotTagged = is_on_no_tags k n
  violates rule.TagMissingOrTwice = v22 k items n
  violates rule.ArmTypes = v23 k items n
  violates rule.ArmTwice = is_there kind.When (slice_get k.tables.file.syntax.now n) && is_set (slice_get k.tables.items.now.repeated.items n)
  violates rule.SignalNotListed = is_not_listed k (kind_in k n) n
  violates rule.SignalTypes = v26 k items bad n
  violates rule.ExitNoArm = lacks_arm k n
  violates rule.NotInLoop = is_outside_loop k.tables.file.syntax.now k.tables.file.rounds.now n
  violates rule.NotInIterator = is_outside_iterator k.tables.file.syntax.now k.tables.file.rounds.now k.routines.now.parts.items n
  violates rule.ReturnValues = gives_other k items (kind_in k n) n
  violates rule.UpDown = is_up_or_down_misplaced k (kind_in k n) n
  violates rule.ExportMissing = lacks_export k.tables.items.now k.tables.words.now k.tables.file.syntax.now n
  violates rule.EndName = is_ended_otherwise (slice_get k.tables.file.syntax.now n)
  violates rule.RoutineTooLarge = is_too_large k.tables.file.syntax.now (kind_at k.tables.file.syntax.now n) n
  violates rule.IteratorUse = misuses_iterator k (kind_in k n) n
  violates rule.OwnPlace = takes_argument k.tables.file.syntax.now k.tables.file.rounds.now k.tables.file.names.now n
  violates r = violates_of_types k.tables bad items n r
