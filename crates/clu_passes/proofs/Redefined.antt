-- A declaration of the module comes before another one just if that does to which the name is bound there.
use Rattle.std.proofs.Common.{◌≡◌, ◌∙◌, ◌⊎◌, ℕ, zero, suc, ◌+◌, ◌<◌, ◌≤◌, nat_lt, Bool, true, ◌&&◌, ◌||◌, List, [], ◌∷◌, Option, Some, None, inl, inr, refl, sym, ap, arith}
use Rattle.std.specs.Prelude.{◌==◌, slice_get}
use Rattle.std.proofs.lemmas.Bool.{cases_lt, and_parts, and_from, or_cases, or_left, or_right, ltb-true, lt-ltb, eqb-true, eq-eqb, true≢false}
use Rattle.std.proofs.lemmas.Option.{none-some, same_Some}
use Rattle.clu_base.proofs.Bools.{same_truth}
use Rattle.clu_syntax.specs.Syntax.{Identifier}
use Rattle.clu_names.specs.declared.scopes.Declared.{Declared}
use Rattle.clu_names.specs.Denotes.{is_open, rank, rank_of, found}
use Rattle.clu_names.specs.Latest.{IsUnder, IsBest, is_local}
use Rattle.clu_names.proofs.Best.{found_is}
use Rattle.clu_checking.specs.NameRules as rules_of
use Rattle.clu_checking.specs.NameRules.{is_preceded}
use Rattle.clu_name_rules.specs.NameRules.{same_unit, comes_before, both_before, is_redefined}
use Rattle.clu_passes.specs.Tables.{OpenOfOne}

-- ---- tests

units_same : (a b : Option ℕ) → rules_of.same_unit a b ≡ same_unit a b
units_same (Some a) (Some b) = refl
units_same (Some a) None = refl
units_same None b = refl

is_local_first : (a b : Option ℕ) → same_unit a b ≡ true → is_local a ≡ true
is_local_first (Some a) b h = refl
is_local_first None b h = absurd (true≢false (sym h))

is_local_second : (a b : Option ℕ) → same_unit a b ≡ true → is_local b ≡ true
is_local_second (Some a) (Some b) h = refl
is_local_second (Some a) None h = absurd (true≢false (sym h))
is_local_second None b h = absurd (true≢false (sym h))

ranked : (unit : Option ℕ) (to : ℕ) → is_local unit ≡ true → 0 < rank_of unit to
ranked (Some unit) to h = omega arith
ranked None to h = absurd (true≢false (sym h))

is_local_by : (unit : Option ℕ) (to : ℕ) → 0 < rank_of unit to → is_local unit ≡ true
is_local_by (Some unit) to h = refl
is_local_by None to h = absurd (omega (arith, h))

-- ---- which declaration comes before

abbrev counts : ℕ → Declared → ℕ → Declared → Bool
counts k d own e = nat_lt (rank e) (rank d) || (rank d == rank e && nat_lt k own)

-- what stands no later than one that comes before does so too
counts_too : (j : ℕ) (d : Declared) (b : ℕ) (best : Declared) (own : ℕ) (e : Declared) → IsUnder d j best b → counts j d own e ≡ true → counts b best own e ≡ true
counts_too j d b best own e under h = by (or_cases (nat_lt (rank e) (rank d)) (rank d == rank e && nat_lt j own) h)
  where
    small : rank d ≤ rank best
    small = under.small

    by_rank : rank e < rank best → counts b best own e ≡ true
    by_rank less = or_left (nat_lt (rank e) (rank best)) (rank best == rank e && nat_lt b own) (lt-ltb (rank e) (rank best) less)

    at_rank : rank d ≡ rank e → j < own → (rank d < rank best) ⊎ (rank best ≤ rank d) → counts b best own e ≡ true
    at_rank same before (inl less) = by_rank (omega (arith, less, same))
    at_rank same before (inr more) =
        let equal : rank d ≡ rank best = omega (arith, small, more) in
        let first : b ≤ j = under.first equal in
        or_right (nat_lt (rank e) (rank best)) (rank best == rank e && nat_lt b own)
        (and_from (rank best == rank e) (nat_lt b own) (eq-eqb (rank best) (rank e) (sym equal ∙ same)) (lt-ltb b own (omega (arith, first, before))))

    by : (nat_lt (rank e) (rank d) ≡ true) ⊎ ((rank d == rank e && nat_lt j own) ≡ true) → counts b best own e ≡ true
    by (inl low) = let less : rank e < rank d = ltb-true (rank e) (rank d) low in by_rank (omega (arith, less, small))
    by (inr level) =
        let parts = and_parts (rank d == rank e) (nat_lt j own) level in
        at_rank (eqb-true (rank d) (rank e) parts.0) (ltb-true j own parts.1) (cases_lt (rank d) (rank best))

module _ (n : ℕ) (name : Identifier) (own : ℕ) (e : Declared) where
  abbrev precedes : ℕ → Declared → Bool
  precedes k d = rules_of.same_unit d.unit e.unit && is_open name n d && rules_of.comes_before k d own e

  record Precedes (k : ℕ) (ds : List Declared) : Type 0 where
    pub place : ℕ
    pub its : Declared
    pub there : slice_get ds place ≡ Some its
    pub does : precedes (k + place) its ≡ true

  one_precedes : (k : ℕ) (ds : List Declared) → is_preceded n name own e k ds ≡ true → Precedes k ds
  one_precedes k [] h = absurd (true≢false (sym h))
  one_precedes k (d ∷ ds) h = by (or_cases (precedes k d) (is_preceded n name own e (suc k) ds) h) (one_precedes (suc k) ds)
    where
      by : (precedes k d ≡ true) ⊎ (is_preceded n name own e (suc k) ds ≡ true) → (is_preceded n name own e (suc k) ds ≡ true → Precedes (suc k) ds) → Precedes k (d ∷ ds)
      by (inl here) more = let same : k + 0 ≡ k = omega arith in record { place = 0; its = d; there = refl; does = ap (λ (m : ℕ). precedes m d) same ∙ here }
      by (inr later) more =
          let p : Precedes (suc k) ds = more later in
          let same : k + suc p.place ≡ suc k + p.place = omega arith in
          record { place = suc p.place; its = p.its; there = p.there; does = ap (λ (m : ℕ). precedes m p.its) same ∙ p.does }

  by_one : (k : ℕ) (ds : List Declared) (i : ℕ) (d : Declared) → slice_get ds i ≡ Some d → precedes (k + i) d ≡ true → is_preceded n name own e k ds ≡ true
  by_one k [] i d at does = absurd (none-some d at)
  by_one k (x ∷ ds) zero d at does =
      let same : k ≡ k + 0 = omega arith in
      or_left (precedes k x) (is_preceded n name own e (suc k) ds) (ap (λ (m : ℕ). precedes m x) same ∙ ap (precedes (k + 0)) (same_Some x d at) ∙ does)
  by_one k (x ∷ ds) (suc i) d at does =
      let same : suc k + i ≡ k + suc i = omega arith in
      or_right (precedes k x) (is_preceded n name own e (suc k) ds) (by_one (suc k) ds i d at (ap (λ (m : ℕ). precedes m d) same ∙ does))

  module _ (ds : List Declared) (there : slice_get ds own ≡ Some e) (of_one : OpenOfOne ds n name e) where
    both_is : (k : ℕ) (d : Declared) → slice_get ds k ≡ Some d → both_before k (slice_get ds k) own (slice_get ds own) ≡ comes_before k d own e
    both_is k d at = ap (λ (x : Option Declared). both_before k x own (slice_get ds own)) at ∙ ap (both_before k (Some d) own) there

    -- if one comes before, what the name is bound to does
    best_precedes : (b : Option ℕ) → IsBest (λ j d. is_open name n d ≡ true) ds b → Precedes 0 ds → is_redefined ds own b ≡ true
    best_precedes None none p =
        let parts = and_parts (rules_of.same_unit p.its.unit e.unit && is_open name n p.its) (rules_of.comes_before (0 + p.place) p.its own e) p.does in
        let opened = and_parts (rules_of.same_unit p.its.unit e.unit) (is_open name n p.its) parts.0 in
        absurd (none p.place p.its p.there opened.1)
    best_precedes (Some b) (best, is) p =
        let parts = and_parts (rules_of.same_unit p.its.unit e.unit && is_open name n p.its) (rules_of.comes_before (0 + p.place) p.its own e) p.does in
        let opened = and_parts (rules_of.same_unit p.its.unit e.unit) (is_open name n p.its) parts.0 in
        let under : IsUnder p.its p.place best b = is.best p.place p.its p.there opened.1 in
        let unit : same_unit p.its.unit e.unit ≡ true = sym (units_same p.its.unit e.unit) ∙ opened.0 in
        let positive : 0 < rank p.its = ranked p.its.unit p.its.to (is_local_first p.its.unit e.unit unit) in
        let small : rank p.its ≤ rank best = under.small in
        let its_local : is_local best.unit ≡ true = is_local_by best.unit best.to (omega (arith, positive, small)) in
        let same : 0 + p.place ≡ p.place = omega arith in
        both_is b best is.there
        ∙ and_from (same_unit best.unit e.unit) (counts b best own e) (of_one b best is.there is.passes its_local (is_local_second p.its.unit e.unit unit))
        (counts_too p.place p.its b best own e under (ap (λ (m : ℕ). counts m p.its own e) (sym same) ∙ parts.1))

    -- what the name is bound to is one of those that count
    precedes_best : (b : Option ℕ) → IsBest (λ j d. is_open name n d ≡ true) ds b → is_redefined ds own b ≡ true → is_preceded n name own e 0 ds ≡ true
    precedes_best None none h = absurd (true≢false (sym h))
    precedes_best (Some b) (best, is) h =
        let parts = and_parts (same_unit best.unit e.unit) (counts b best own e) (sym (both_is b best is.there) ∙ h) in
        let same : 0 + b ≡ b = omega arith in
        by_one 0 ds b best is.there
        (and_from (rules_of.same_unit best.unit e.unit && is_open name n best) (rules_of.comes_before (0 + b) best own e)
        (and_from (rules_of.same_unit best.unit e.unit) (is_open name n best) (units_same best.unit e.unit ∙ parts.0) is.passes)
        (ap (λ (m : ℕ). counts m best own e) same ∙ parts.1))

    pub redefined_is : is_preceded n name own e 0 ds ≡ is_redefined ds own (found ds name n)
    redefined_is =
        let best = found_is ds name n in
        same_truth (is_preceded n name own e 0 ds) (is_redefined ds own (found ds name n)) (λ h. best_precedes (found ds name n) best (one_precedes 0 ds h)) (precedes_best (found ds name n) best)
