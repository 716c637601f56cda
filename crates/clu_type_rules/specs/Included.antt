-- Whether an object of one type may be one of another, by the numbers of types.
use Rattle.std.specs.Prelude.{◌&&◌, nat_lt, if◌then◌else◌, Bool, true, List, ◌∷◌, length, Option, Some}
use Rattle.clu_types.specs.declared.term.TypeId.{TypeId}
use Rattle.clu_types.specs.declared.term.Term.{Term}
use Rattle.clu_types.specs.Arena.{type_at, types_of}
use Rattle.clu_layout.specs.SameType.{fits}

module _ (terms : List Term) where
  abbrev pub is_included : TypeId → TypeId → Bool
  is_included a b = if nat_lt a.0 (length terms) && nat_lt b.0 (length terms) then fits (type_at (types_of terms) a) (type_at (types_of terms) b) else true

  -- a type that is not known may be included in any, and include any
  abbrev pub may_be : Option TypeId → Option TypeId → Bool
  may_be (Some given) (Some wanted) = is_included given wanted
  may_be _ _ = true

  -- each is included in the one at its place, as far as there are both
  abbrev pub all_may_be : List (Option TypeId) → List TypeId → Bool
  all_may_be (given ∷ more) (wanted ∷ rest) = may_be given (Some wanted) && all_may_be more rest
  all_may_be _ _ = true
