-- What is found under the clauses of a node tells the operations that count by the definitions; so V18 and V20 are its bits.
use Rattle.std.proofs.Common.{◌≡◌, ◌∙◌, ℕ, ◌<◌, Bool, false, List, Contains, length, option_map, option_and_then, Option, Some, None, refl, sym, ap, subst}
use Rattle.std.proofs.lemmas.Option.{slice_get-get_or}
use Rattle.clu_types.specs.CluType.{CluType, null_type, bool_type, int_type, char_type, string_type, any_type, stream_type, array_of, sequence_of, record_of, struct_of, oneof_of, variant_of, proc_of, iter_of, cluster_of, parameter, Actuals}
use Rattle.clu_types.specs.Arena.{types_of}
use Rattle.clu_types.specs.declared.term.Term.{Term}
use Rattle.clu_builtin.specs.Table.{operation}
use Rattle.clu_meaning.specs.Scoping.{Scope}
use Rattle.clu_checking.specs.Specifications.{Form, Heading, Specification, heading_named, operations_of}
use Rattle.clu_checking.specs.Files.{File}
use Rattle.clu_checking.specs.Headings.{specification}
use Rattle.clu_checking.specs.Invocations.{asks_at}
use Rattle.clu_checking.specs.Operations.{Asked, where_at, routine_found, exported_operation}
use Rattle.clu_checking.specs.ExpressionRules.{v18, v20}
use Rattle.clu_bindings.specs.declared.file.Headed.{Headed}
use Rattle.clu_bindings.specs.declared.meaning.ModuleId.{ModuleId}
use Rattle.clu_bindings.specs.Modules.{named}
use Rattle.clu_operations.specs.declared.finding.Finding.{Finding}
use Rattle.clu_operations.specs.Modules.{Module, known_of}
use Rattle.clu_operations.specs.Told.{Ask}
use Rattle.clu_typing.specs.declared.facts.Invocations.{Invocations}
use Rattle.clu_typing.specs.Facts.{askers_at}
use Rattle.clu_type_rules.specs.declared.unmet.Unmet.{Unmet}
use Rattle.clu_type_rules.specs.Askers.{asks_by_all, AreFoundAt}
use Rattle.clu_type_rules.specs.Meeting.{AreUnmet}
use Rattle.clu_type_rules.specs.Needs.{AreFine, clauses_at, world}
use Rattle.clu_type_rules.specs.Unmet.{all_met, unmet_at}
use Rattle.clu_passes.specs.Ascending.{SpecificationsAscend}
use Rattle.clu_passes.specs.ConstantTables.{file_with}
use Rattle.clu_passes.specs.FoundTold.{form_seen, TellFile}
use Rattle.clu_passes.specs.Met.{asked_told, found_told, TellCounted}
use Rattle.clu_passes.specs.Settings.{exported_in, found_under, setting_of, AreInSets, AreAskedAt}
use Rattle.clu_passes.proofs.AscendTests.{true_ascends}
use Rattle.clu_passes.proofs.AsksAscend.{asks_ascend}
use Rattle.clu_passes.proofs.Broken.{v18_is, v20_is, list_told}
use Rattle.clu_passes.proofs.FoundUnder.{given_same}
use Rattle.clu_passes.proofs.GivenFor.{for_same}
use Rattle.clu_passes.proofs.ModulesFound.{routine_same}
use Rattle.clu_passes.proofs.OperationsFound.{builtin_if}

-- the operation of a name that a form exports
abbrev exported_by : List ℕ → Option Form → Option Heading
exported_by name (Some form) = heading_named (operations_of form) name
exported_by name None = None

exported_same : (name : List ℕ) (o : Option Specification) → exported_operation name o ≡ exported_by name (option_map (λ s. s.form) o)
exported_same name (Some s) = refl
exported_same name None = refl

module _ (headed : Headed) (scope : Scope) (library : List Specification) (refused : List ℕ) (types : List CluType) (sets : AreInSets headed) (tells : TellFile headed scope library refused types) where
  abbrev f : File
  f = file_with headed.file scope library refused

  -- ---- what counts at a node

  module_same : (name : List ℕ) (given : Actuals) (o : Option ModuleId)
      → option_map found_told (exported_in headed types name given (option_and_then (known_of headed) o)) ≡ option_map (routine_found given) (exported_by name (option_map (form_seen types) (option_and_then (known_of headed) o)))
  module_same name given None = refl
  module_same name given (Some id) = by (known_of headed id) refl
    where
      by : (o : Option Module) → known_of headed id ≡ o → option_map found_told (exported_in headed types name given o) ≡ option_map (routine_found given) (exported_by name (option_map (form_seen types) o))
      by (Some its) known = routine_same types given name its (tells.exported id its known)
      by None known = refl

  pub tells_counted : (n : ℕ) → TellCounted (where_at f n) (specification f) (found_under headed types (clauses_at headed n))
  tells_counted n (cluster_of c actuals) name wanted =
      module_same name actuals (named headed.file.bindings.now.modules c)
      ∙ ap (λ (o : Option Form). option_map (routine_found actuals) (exported_by name o)) (tells.forms c)
      ∙ sym (ap (option_map (routine_found actuals)) (exported_same name (specification f c)))
  tells_counted n (parameter number) name wanted =
      ap (option_map found_told) (sym (given_same headed types sets n number wanted name)) ∙ for_same headed scope library refused types tells n number wanted name
  tells_counted n (array_of t) name wanted = builtin_if (operation (array_of t) name)
  tells_counted n (sequence_of t) name wanted = builtin_if (operation (sequence_of t) name)
  tells_counted n (record_of fields) name wanted = builtin_if (operation (record_of fields) name)
  tells_counted n (struct_of fields) name wanted = builtin_if (operation (struct_of fields) name)
  tells_counted n (oneof_of fields) name wanted = builtin_if (operation (oneof_of fields) name)
  tells_counted n (variant_of fields) name wanted = builtin_if (operation (variant_of fields) name)
  tells_counted n (proc_of args results signals) name wanted = builtin_if (operation (proc_of args results signals) name)
  tells_counted n (iter_of args results signals) name wanted = builtin_if (operation (iter_of args results signals) name)
  tells_counted n null_type name wanted = builtin_if (operation null_type name)
  tells_counted n bool_type name wanted = builtin_if (operation bool_type name)
  tells_counted n int_type name wanted = builtin_if (operation int_type name)
  tells_counted n char_type name wanted = builtin_if (operation char_type name)
  tells_counted n string_type name wanted = builtin_if (operation string_type name)
  tells_counted n any_type name wanted = builtin_if (operation any_type name)
  tells_counted n stream_type name wanted = builtin_if (operation stream_type name)

-- ---- the bits of nodes

module _ (headed : Headed) (scope : Scope) (library : List Specification) (refused : List ℕ) (terms : List Term) (finding : Finding) (invocations : Invocations) (lost : ℕ → Bool) (sets : AreInSets headed) (tells : TellFile headed scope library refused (types_of terms))
    (asked : AreAskedAt (file_with headed.file scope library refused) terms finding invocations lost) (up : SpecificationsAscend library) (made : List Unmet) (found : AreFoundAt headed (setting_of headed terms finding) (world terms finding) invocations made) (n : ℕ) (plain : lost n ≡ false) (there : n < length made) where
  abbrev its_file : File
  its_file = file_with headed.file scope library refused

  abbrev asks : List Ask
  asks = asks_by_all (world terms finding) (askers_at invocations n)

  in_definition : (a : Ask) → Contains asks a → Contains (asks_at its_file n) (asked_told a)
  in_definition a h = subst (λ (l : List Asked). Contains l (asked_told a)) (asked n plain) (list_told asks a h)

  fine : AreFine (setting_of headed terms finding) asks
  fine a h = true_ascends a.of (asks_ascend its_file up n (asked_told a) (in_definition a h))

  its : AreUnmet (found_under headed (types_of terms) (clauses_at headed n)) asks (unmet_at made n)
  its = found n (unmet_at made n) (slice_get-get_or made n all_met there) fine

  counts : TellCounted (where_at its_file n) (specification its_file) (found_under headed (types_of terms) (clauses_at headed n))
  counts = tells_counted headed scope library refused (types_of terms) sets tells n

  pub by_has : v18 its_file n ≡ (unmet_at made n).by_has
  by_has = v18_is its_file n (found_under headed (types_of terms) (clauses_at headed n)) counts asks (asked n plain) (unmet_at made n) its

  pub by_in : v20 its_file n ≡ (unmet_at made n).by_in
  by_in = v20_is its_file n (found_under headed (types_of terms) (clauses_at headed n)) counts asks (asked n plain) (unmet_at made n) its
