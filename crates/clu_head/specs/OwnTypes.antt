-- The type of a cluster with its own parameters, as a term of an arena.
use Rattle.std.specs.Prelude.{◌≡◌, ℕ, suc, ◌+◌, nat_lt, Bool, true, false, if◌then◌else◌, List, [], ◌∷◌, slice_get, Option, Some, None}
use Rattle.clu_types.specs.declared.spec.ParamKind.{ParamKind}
use Rattle.clu_types.specs.declared.spec.ParamKind.TheVariants as param
use Rattle.clu_types.specs.declared.term.TypeId.{TypeId}
use Rattle.clu_types.specs.declared.term.Actual.{Actual}
use Rattle.clu_types.specs.declared.term.Actual.TheVariants as actual
use Rattle.clu_types.specs.declared.term.Term.{Term}
use Rattle.clu_types.specs.declared.term.Term.TheVariants as term

-- the number of the parameter at a place among those of its module
abbrev pub number_at : ℕ → ℕ
number_at place = if nat_lt place 4294967295 then place + 1 else 4294967295

abbrev pub is_type_parameter : Option ParamKind → Bool
is_type_parameter (Some param.OfType) = true
is_type_parameter _ = false

-- a parameter of this number as an actual for itself
abbrev pub IsOwn : List Term → Bool → ℕ → Actual → Type 0
IsOwn types true n (actual.Of id) = slice_get types id.0 ≡ Some (term.Param n)
IsOwn types false n (actual.ConstParam p) = p ≡ n
IsOwn types _ n _ = ⊥

unfoldable pub IsOwnActual : List Term → Option ParamKind → ℕ → Actual → Type 0
IsOwnActual types kind n a = IsOwn types (is_type_parameter kind) n a

-- parameters of these kinds, from a place on
unfoldable pub AreOwn : List Term → ℕ → List (Option ParamKind) → List Actual → Type 0
AreOwn types place [] [] = Unit {0}
AreOwn types place (k ∷ ks) (a ∷ xs) = IsOwnActual types k (number_at place) a × AreOwn types (suc place) ks xs
AreOwn types place _ _ = ⊥

-- that of the cluster of this name, whose parameters have these kinds
unfoldable pub IsOwnType : List Term → List ℕ → List (Option ParamKind) → Option TypeId → Type 0
IsOwnType types name kinds (Some id) = (actuals : List Actual) × (slice_get types id.0 ≡ Some (term.Cluster name actuals)) × AreOwn types 0 kinds actuals
IsOwnType types name kinds None = ⊥
