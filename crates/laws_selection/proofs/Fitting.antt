-- A register that is taken is free, and one of those in which expressions work.
use Rattle.std.proofs.Common.{◌≡◌, ◌∙◌, ℕ, ◌==◌, Bool, true, false, not, List, [], ◌∷◌, refl, ap}
use Rattle.std.specs.Prelude.{◌&&◌, ◌||◌, if◌then◌else◌, bit_and}
use Rattle.std.specs.List.{list_all}
use Rattle.rv_select.specs.declared.operand.Scope.{Scope}
use Rattle.rv_select.specs.declared.register.Register.{Register}
use Rattle.rv_select.specs.declared.register.TheConstants.{WORK}
use Rattle.rv_select.specs.Operands.{bit, free, free_among, free_of, has_free, has_free_among, has_free_of}
use Rattle.laws_selection.specs.Registers.{has_bit, is_far, is_work, stays, stays_by}
use Rattle.laws_selection.proofs.Growing.{and_true}

pub record Spare (kept : ℕ) (r : Register) : Type 0 where
  pub spare : stays kept r ≡ false
  pub near : is_far r ≡ false

abbrev works : Register → Bool
works r = is_work r && not (is_far r)

not_true : (b : Bool) → not b ≡ true → b ≡ false
not_true true e = absurd (cc)
not_true false e = refl

spare_of : (kept : ℕ) (r : Register) → works r ≡ true → (bit_and kept (bit r) == 0) ≡ true → Spare kept r
unfolding stays
spare_of kept r w e =
    let x = and_true (is_work r) (not (is_far r)) w in
    record { spare = ap (λ b. stays_by b (is_far r) (has_bit kept r)) x.0 ∙ ap not e; near = not_true (is_far r) x.1 }

spare_among : (kept : ℕ) (rs : List Register) → list_all works rs ≡ true → has_free_among kept rs ≡ true → Spare kept (free_among kept rs)
spare_among kept [] w e = absurd (cc)
spare_among kept (r ∷ rs) w e = by (bit_and kept (bit r) == 0) refl e (spare_among kept rs (and_true (works r) (list_all works rs) w).1)
  where
    by : (c : Bool) → (bit_and kept (bit r) == 0) ≡ c → (c || has_free_among kept rs) ≡ true → (has_free_among kept rs ≡ true → Spare kept (free_among kept rs)) → Spare kept (if c then r else free_among kept rs)
    by true is e rest = spare_of kept r (and_true (works r) (list_all works rs) w).0 is
    by false is e rest = rest e

-- of a scope
pub spare_free : (s : Scope) → has_free s ≡ true → Spare s.kept (free s)
unfolding free_of has_free_of
spare_free s e = spare_among s.kept WORK refl e
