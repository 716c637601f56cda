-- The types that a term is made of, in the order in which it has them.
use Rattle.std.specs.Prelude.{List, [], ◌∷◌, ◌++◌, map, flat_map}
use Rattle.clu_types.specs.declared.term.TypeId.{TypeId}
use Rattle.clu_types.specs.declared.term.Field.{Field}
use Rattle.clu_types.specs.declared.term.Exception.{Exception}
use Rattle.clu_types.specs.declared.term.Heading.{Heading}
use Rattle.clu_types.specs.declared.term.Actual.{Actual}
use Rattle.clu_types.specs.declared.term.Actual.TheVariants as actual
use Rattle.clu_types.specs.declared.term.Term.{Term}
use Rattle.clu_types.specs.declared.term.Term.TheVariants as term

abbrev pub field_parts : List Field → List TypeId
field_parts fs = map (λ f. f.of) fs

abbrev pub signal_parts : List Exception → List TypeId
signal_parts ss = flat_map (λ s. s.objects) ss

abbrev pub heading_parts : Heading → List TypeId
heading_parts h = h.args ++ h.results ++ signal_parts h.signals

abbrev pub actual_part : Actual → List TypeId
actual_part (actual.Of id) = id ∷ []
actual_part (actual.Const c) = []
actual_part (actual.ConstParam n) = []

abbrev pub actual_parts : List Actual → List TypeId
actual_parts given = flat_map actual_part given

abbrev pub parts_of : Term → List TypeId
parts_of term.Null = []
parts_of term.Bool = []
parts_of term.Int = []
parts_of term.Char = []
parts_of term.Str = []
parts_of term.Any = []
parts_of term.Stream = []
parts_of (term.Array of) = of ∷ []
parts_of (term.Sequence of) = of ∷ []
parts_of (term.Record fs) = field_parts fs
parts_of (term.Struct fs) = field_parts fs
parts_of (term.Oneof fs) = field_parts fs
parts_of (term.Variant fs) = field_parts fs
parts_of (term.Proc h) = heading_parts h
parts_of (term.Iter h) = heading_parts h
parts_of (term.Cluster name given) = actual_parts given
parts_of (term.Param n) = []
