-- Names of one list that stand in another.
use Rattle.std.specs.Prelude.{Bool, List, map, bytes_eq}
use Rattle.std.specs.List.{list_any, list_all}
use Rattle.clu_types.specs.declared.term.Field.{Field}
use Rattle.clu_syntax.specs.Syntax.{Identifier}

abbrev pub names_of_fields : List Field → List Identifier
names_of_fields fields = map (λ (field : Field). field.name) fields

-- each of the names xs is one of ys
abbrev pub has_all : List Identifier → List Identifier → Bool
has_all xs ys = list_all (λ x. list_any (bytes_eq x) ys) xs
