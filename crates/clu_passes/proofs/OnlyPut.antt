-- Actual parameters that put in a type for one type parameter alone change no constant parameter and no other type parameter; and
-- none change anything.
use Rattle.std.proofs.Common.{◌≡◌, ◌∙◌, ℕ, zero, suc, ◌+◌, ◌-◌, ◌<◌, refl, ap, arith}
use Rattle.clu_types.specs.CluType.{CluType, Actuals, no_actuals, actual_param, parameter}
use Rattle.clu_types.specs.Substituted.{type_of_actual, constant_of_actual, type_put}
use Rattle.clu_head.specs.Unchanged.{behind_unchanged, only}
use Rattle.clu_passes.proofs.PutTypes.{KeepConstants}

constant_kept : (place many : ℕ) (t : CluType) (i n : ℕ) (behind : Actuals) → n ≡ suc (place + i) → constant_of_actual (behind_unchanged place many t) i n behind ≡ actual_param n behind
constant_kept place zero t zero n behind e = refl
constant_kept place zero t (suc i) n behind e = refl
constant_kept place (suc many) t zero n behind e = let same : suc place ≡ n = omega (arith, e) in ap (λ (x : ℕ). actual_param x behind) same
constant_kept place (suc many) t (suc i) n behind e = constant_kept (suc place) many t i n behind (omega (arith, e))

pub only_keeps : (number : ℕ) (t : CluType) → KeepConstants (only number t)
only_keeps number t zero behind = refl
only_keeps number t (suc i) behind = constant_kept 0 (number - 1) t i (suc i) behind (omega arith)

type_there : (place many : ℕ) (t other : CluType) → type_of_actual (behind_unchanged place many t) many other ≡ t
type_there place zero t other = refl
type_there place (suc many) t other = type_there (suc place) many t other

type_beside : (place many : ℕ) (t : CluType) (i : ℕ) (other : CluType) → (i ≡ many → ⊥) → type_of_actual (behind_unchanged place many t) i other ≡ other
type_beside place zero t zero other apart = absurd (apart refl)
type_beside place zero t (suc i) other apart = refl
type_beside place (suc many) t zero other apart = refl
type_beside place (suc many) t (suc i) other apart = type_beside (suc place) many t i other (λ e. apart (ap suc e))

pub only_put : (number : ℕ) (t : CluType) → 0 < number → type_put (only number t) number ≡ t
only_put zero t l = absurd (omega (arith, l))
only_put (suc many) t l =
    let same : suc many - 1 ≡ many = omega arith in
    ap (λ (m : ℕ). type_of_actual (behind_unchanged 0 m t) many (parameter (suc many))) same ∙ type_there 0 many t (parameter (suc many))

pub only_beside : (number : ℕ) (t : CluType) → 0 < number → (j : ℕ) → (j ≡ number → ⊥) → type_put (only number t) j ≡ parameter j
only_beside number t l zero apart = refl
only_beside number t l (suc i) apart = type_beside 0 (number - 1) t i (parameter (suc i)) (λ e. apart (omega (arith, e, l)))

-- ---- none

pub none_keep : KeepConstants no_actuals
none_keep zero behind = refl
none_keep (suc i) behind = refl

pub none_put : (j : ℕ) → type_put no_actuals j ≡ parameter j
none_put zero = refl
none_put (suc i) = refl
