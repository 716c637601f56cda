-- The parts of types by number, and lists of numbers that grow by them.
use Rattle.std.specs.Prelude.{◌==◌, List, [], ◌∷◌, ◌++◌, cond, fold}
use Rattle.std.specs.List.{list_any}
use Rattle.clu_types.specs.declared.spec.Demand.{Demand}
use Rattle.clu_types.specs.declared.spec.OpSpec.{OpSpec}
use Rattle.clu_types.specs.declared.term.TypeId.{TypeId}
use Rattle.clu_types.specs.declared.term.Field.{Field}
use Rattle.clu_types.specs.declared.term.Exception.{Exception}
use Rattle.clu_types.specs.declared.term.Heading.{Heading}
use Rattle.clu_types.specs.declared.term.Actual.{Actual}
use Rattle.clu_types.specs.declared.term.Actual.TheVariants as actual
use Rattle.clu_types.specs.declared.term.Term.{Term}
use Rattle.clu_types.specs.declared.term.Term.TheVariants as term

-- ---- the parts

abbrev pub field_types : List Field → List TypeId
field_types [] = []
field_types (f ∷ fs) = f.of ∷ field_types fs

abbrev pub object_types : List Exception → List TypeId
object_types [] = []
object_types (s ∷ ss) = s.objects ++ object_types ss

abbrev pub type_actuals : List Actual → List TypeId
type_actuals [] = []
type_actuals (actual.Of id ∷ rest) = id ∷ type_actuals rest
type_actuals (actual.Const c ∷ rest) = type_actuals rest
type_actuals (actual.ConstParam n ∷ rest) = type_actuals rest

abbrev pub heading_types : Heading → List TypeId
heading_types h = h.args ++ (h.results ++ object_types h.signals)

abbrev pub wanted_types : List Demand → List TypeId
wanted_types [] = []
wanted_types (d ∷ ds) = d.wanted ∷ wanted_types ds

-- the types of a routine's heading and demands
abbrev pub op_types : OpSpec → List TypeId
op_types o = heading_types o.heading ++ wanted_types o.demands

abbrev pub part_types : Term → List TypeId
part_types term.Null = []
part_types term.Bool = []
part_types term.Int = []
part_types term.Char = []
part_types term.Str = []
part_types term.Any = []
part_types term.Stream = []
part_types (term.Array of) = of ∷ []
part_types (term.Sequence of) = of ∷ []
part_types (term.Record fs) = field_types fs
part_types (term.Struct fs) = field_types fs
part_types (term.Oneof fs) = field_types fs
part_types (term.Variant fs) = field_types fs
part_types (term.Proc h) = heading_types h
part_types (term.Iter h) = heading_types h
part_types (term.Cluster name given) = type_actuals given
part_types (term.Param n) = []

-- ---- a list with them at its end, but for those that it has

abbrev pub with_id : List TypeId → TypeId → List TypeId
with_id ids id = cond (list_any (λ (k : TypeId). id.0 == k.0) ids) ids (ids ++ id ∷ [])

abbrev pub with_field : List TypeId → Field → List TypeId
with_field ids f = with_id ids f.of

abbrev pub with_objects : List TypeId → Exception → List TypeId
with_objects ids s = fold with_id ids s.objects

abbrev pub with_actual : List TypeId → Actual → List TypeId
with_actual ids (actual.Of id) = with_id ids id
with_actual ids (actual.Const c) = ids
with_actual ids (actual.ConstParam n) = ids

abbrev pub with_heading : List TypeId → Heading → List TypeId
with_heading ids h = fold with_objects (fold with_id (fold with_id ids h.args) h.results) h.signals

abbrev pub with_wanted : List TypeId → Demand → List TypeId
with_wanted ids d = with_id ids d.wanted

abbrev pub with_op : List TypeId → OpSpec → List TypeId
with_op ids o = fold with_wanted (with_heading ids o.heading) o.demands

abbrev pub with_parts : List TypeId → Term → List TypeId
with_parts ids term.Null = ids
with_parts ids term.Bool = ids
with_parts ids term.Int = ids
with_parts ids term.Char = ids
with_parts ids term.Str = ids
with_parts ids term.Any = ids
with_parts ids term.Stream = ids
with_parts ids (term.Array of) = with_id ids of
with_parts ids (term.Sequence of) = with_id ids of
with_parts ids (term.Record fs) = fold with_field ids fs
with_parts ids (term.Struct fs) = fold with_field ids fs
with_parts ids (term.Oneof fs) = fold with_field ids fs
with_parts ids (term.Variant fs) = fold with_field ids fs
with_parts ids (term.Proc h) = with_heading ids h
with_parts ids (term.Iter h) = with_heading ids h
with_parts ids (term.Cluster name given) = fold with_actual ids given
with_parts ids (term.Param n) = ids
