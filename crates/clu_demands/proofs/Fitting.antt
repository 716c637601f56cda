-- Actual parameters: their kinds, and the one of a number.
use Rattle.std.proofs.Common.{◌≡◌, ◌↔◌, Bool, true, false, not, true≢false, IsTrue, ℕ, zero, suc, List, [], ◌∷◌, Option, Some, None, slice_get, refl, sym}
use Rattle.std.specs.Bool.{Decides}
use Rattle.clu_types.specs.CluType.{CluType, Actuals}
use Rattle.clu_types.specs.Arena.{type_at, actuals_at}
use Rattle.clu_types.specs.Actual.{nth}
use Rattle.clu_types.specs.declared.spec.ParamKind.{ParamKind}
use Rattle.clu_types.specs.declared.spec.ParamKind.TheVariants as kind
use Rattle.clu_types.specs.contracts.spec.ParamKindPartialEq.TheImpl as kinds
use Rattle.clu_types.specs.declared.term.Actual.{Actual}
use Rattle.clu_types.specs.declared.term.Actual.TheVariants as actual
use Rattle.clu_demands.specs.Kinds.{MayBe, MayBeAll, MayBeOf}
use Rattle.clu_demands.specs.Meeting.{type_in, type_numbered}

pub same_kind : (a b : ParamKind) → Decides ((kinds.ghosts).eq a b) (a ≡ b)
same_kind kind.OfType kind.OfType = (λ e. refl, λ e. refl)
same_kind kind.Null kind.Null = (λ e. refl, λ e. refl)
same_kind kind.Bool kind.Bool = (λ e. refl, λ e. refl)
same_kind kind.Int kind.Int = (λ e. refl, λ e. refl)
same_kind kind.Char kind.Char = (λ e. refl, λ e. refl)
same_kind kind.Str kind.Str = (λ e. refl, λ e. refl)
same_kind _ _ = (λ e. cc, λ e. cc)

-- what isn't so
pub is_not : (r : Bool) (P : Type 0) → (IsTrue r ↔ P) → IsTrue (not r) ↔ (P → ⊥)
is_not true P h = (λ t. absurd (true≢false (sym t)), λ n. absurd (n (h.0 refl)))
is_not false P h = (λ t p. true≢false (sym (h.1 p)), λ n. refl)

-- what actual parameters may be of, told of those of a type
pub fits_seen : (types : List CluType) (actuals : List Actual) (ks : List ParamKind) → MayBeAll actuals ks → MayBeOf (actuals_at types actuals) ks
fits_seen types [] [] h = tt
fits_seen types [] (k ∷ ks) h = h
fits_seen types (a ∷ rest) [] h = absurd h
fits_seen types (actual.Of id ∷ rest) (k ∷ ks) h = (h.0, fits_seen types rest ks h.1)
fits_seen types (actual.Const c ∷ rest) (k ∷ ks) h = (h.0, fits_seen types rest ks h.1)
fits_seen types (actual.ConstParam n ∷ rest) (k ∷ ks) h = (h.0, fits_seen types rest ks h.1)

pub seen_fits : (types : List CluType) (actuals : List Actual) (ks : List ParamKind) → MayBeOf (actuals_at types actuals) ks → MayBeAll actuals ks
seen_fits types [] [] h = tt
seen_fits types [] (k ∷ ks) h = h
seen_fits types (actual.Of id ∷ rest) [] h = h
seen_fits types (actual.Const c ∷ rest) [] h = h
seen_fits types (actual.ConstParam n ∷ rest) [] h = h
seen_fits types (actual.Of id ∷ rest) (k ∷ ks) h = (h.0, seen_fits types rest ks h.1)
seen_fits types (actual.Const c ∷ rest) (k ∷ ks) h = (h.0, seen_fits types rest ks h.1)
seen_fits types (actual.ConstParam n ∷ rest) (k ∷ ks) h = (h.0, seen_fits types rest ks h.1)

-- the type of a number
abbrev pub type_by : List CluType → Option Actual → Option CluType
type_by types None = None
type_by types (Some (actual.Of id)) = Some (type_at types id)
type_by types (Some (actual.Const c)) = None
type_by types (Some (actual.ConstParam p)) = None

type_in_place : (types : List CluType) (given : List Actual) (i : ℕ) → type_in (actuals_at types given) i ≡ type_by types (slice_get given i)
type_in_place types [] i = refl
type_in_place types (actual.Of id ∷ rest) zero = refl
type_in_place types (actual.Const c ∷ rest) zero = refl
type_in_place types (actual.ConstParam p ∷ rest) zero = refl
type_in_place types (actual.Of id ∷ rest) (suc i) = type_in_place types rest i
type_in_place types (actual.Const c ∷ rest) (suc i) = type_in_place types rest i
type_in_place types (actual.ConstParam p ∷ rest) (suc i) = type_in_place types rest i

pub type_numbered-nth : (types : List CluType) (given : List Actual) (n : ℕ) (found : Option Actual) → nth given n ≡ found → type_by types found ≡ type_numbered (actuals_at types given) n
type_numbered-nth types given zero found e = rw (← e) refl
type_numbered-nth types given (suc i) found e = rw (← e) (sym (type_in_place types given i))
