-- The types that the specifications of a library show have their components in ascending order.
use Rattle.std.proofs.Common.{◌∙◌, ℕ, Bool, true, false, List, [], ◌∷◌, map}
use Rattle.clu_types.specs.CluType.{CluType, null_type, bool_type, int_type, char_type, string_type, any_type, stream_type, array_of, sequence_of, record_of, struct_of, oneof_of, variant_of, proc_of, iter_of, cluster_of, parameter, CluTypes, no_types, type_and, Fields, no_fields, field_and, Signals, no_signals, signal_and, Actuals, no_actuals, actual_type, actual_const, actual_param}
use Rattle.clu_types.specs.Arena.{types_at, signals_at, types_of}
use Rattle.clu_types.specs.declared.spec.Form.{Form}
use Rattle.clu_types.specs.declared.spec.Form.TheVariants as form
use Rattle.clu_types.specs.declared.spec.OpSpec.{OpSpec}
use Rattle.clu_types.specs.declared.spec.Spec.{Spec}
use Rattle.clu_specs.specs.declared.scope.Scope.{Scope}
use Rattle.clu_specs.specs.Scopes.{scope_of}
use Rattle.clu_specs.specs.Grammar.{AreActuals, AreFields, AreOperations, AreSignals, AreTypes, IsOperation, IsShape, IsType}
use Rattle.clu_specs.specs.Seen.{form_seen, op_seen, seen}
use Rattle.clu_checking.specs.Specifications.{form_told, heading_told, specification_told, type_told}
use Rattle.clu_settle.proofs.Fields.{after_is_before}
use Rattle.clu_passes.specs.Ascending.{ActualsAscend, Ascends, AscendsIf, ComesFirst, FieldsAscend, FormAscends, HeadingsAscend, SignalsAscend, SpecificationsAscend, TypesAscend}
use Rattle.clu_library.specs.Contents.{Contents}
use Rattle.clu_library.specs.Libraries.{AreModules, IsLibrary}
use Rattle.clu_library.specs.LibraryReading.{SeenLibrary, library_seen}
use Rattle.clu_driver.proofs.Ascending.{not_before}

module _ (scope : Scope) where
  first_comes : (name : List ℕ) (fs : Fields) → AreFields scope name fs → ComesFirst name fs
  first_comes name no_fields is = tt
  first_comes name (field_and other t fs) is = after_is_before name other ∙ not_before name other is.1

  mutual
    ascends : (t : CluType) → IsType scope t → Ascends t
    ascends null_type is = tt
    ascends bool_type is = tt
    ascends int_type is = tt
    ascends char_type is = tt
    ascends string_type is = tt
    ascends any_type is = tt
    ascends stream_type is = tt
    ascends (array_of t) is = ascends t is
    ascends (sequence_of t) is = ascends t is
    ascends (record_of fs) is = fields_ascend [] fs is.1
    ascends (struct_of fs) is = fields_ascend [] fs is.1
    ascends (oneof_of fs) is = fields_ascend [] fs is.1
    ascends (variant_of fs) is = fields_ascend [] fs is.1
    ascends (proc_of args results signals) is = (types_ascend args is.0, types_ascend results is.1, signals_ascend [] signals is.2)
    ascends (iter_of args results signals) is = (types_ascend args is.0, types_ascend results is.1, signals_ascend [] signals is.2)
    ascends (cluster_of name given) is = actuals_ascend given is.2
    ascends (parameter n) is = tt

    types_ascend : (ts : CluTypes) → AreTypes scope ts → TypesAscend ts
    types_ascend no_types is = tt
    types_ascend (type_and t ts) is = (ascends t is.0, types_ascend ts is.1)

    fields_ascend : (before : List ℕ) (fs : Fields) → AreFields scope before fs → FieldsAscend fs
    fields_ascend before no_fields is = tt
    fields_ascend before (field_and name t fs) is = (first_comes name fs is.3, ascends t is.2, fields_ascend name fs is.3)

    signals_ascend : (before : List ℕ) (ss : Signals) → AreSignals scope before ss → SignalsAscend ss
    signals_ascend before no_signals is = tt
    signals_ascend before (signal_and name ts ss) is = (types_ascend ts is.3, signals_ascend name ss is.4)

    actuals_ascend : (given : Actuals) → AreActuals scope given → ActualsAscend given
    actuals_ascend no_actuals is = tt
    actuals_ascend (actual_type t rest) is = (ascends t is.0, actuals_ascend rest is.1)
    actuals_ascend (actual_const c rest) is = actuals_ascend rest is.1
    actuals_ascend (actual_param n rest) is = actuals_ascend rest is.1

  module _ (types : List CluType) where
    by_sort : (iter : Bool) (args results : CluTypes) (ss : Signals) → TypesAscend args → TypesAscend results → SignalsAscend ss → Ascends (type_told iter args results ss)
    by_sort true args results ss a r s = (a, r, s)
    by_sort false args results ss a r s = (a, r, s)

    heading_ascends : (op : OpSpec) → IsOperation scope (op_seen types op) → AscendsIf (heading_told types op).type
    heading_ascends op is =
        by_sort op.iter (types_at types op.heading.args) (types_at types op.heading.results) (signals_at types op.heading.signals) (types_ascend (types_at types op.heading.args) is.0)
        (types_ascend (types_at types op.heading.results) is.1) (signals_ascend [] (signals_at types op.heading.signals) is.2)

    headings_ascend : (name : List ℕ) (ops : List OpSpec) → AreOperations scope name (map (op_seen types) ops) → HeadingsAscend (map (heading_told types) ops)
    headings_ascend name [] are = tt
    headings_ascend name (op ∷ ops) are = (heading_ascends op are.2, headings_ascend op.name ops are.3)

    form_shows : (name : List ℕ) (f : Form) → IsShape scope name (form_seen types f) → FormAscends (form_told types f)
    form_shows name (form.Routine op) is = heading_ascends op is.1
    form_shows name (form.Cluster demands ops) is = headings_ascend [] ops is.2

modules_show : (library : SeenLibrary) (previous : List ℕ) (specs : List Spec) → AreModules library previous (map seen specs) → SpecificationsAscend (map specification_told specs)
modules_show library previous [] are = tt
modules_show library previous (s ∷ specs) are = (form_shows (scope_of s.kinds) (types_of s.types) s.name s.form are.0.grammar.shaped, modules_show library s.name specs are.1)

pub library_shows : (l : Contents) → IsLibrary (library_seen l) → SpecificationsAscend (map specification_told l.specs)
library_shows l is = modules_show (library_seen l) [] l.specs is.modules
