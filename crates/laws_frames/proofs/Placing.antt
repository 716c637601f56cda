-- Words side by side, in slots for work, or where they lie so already.
use Rattle.std.proofs.Common.{◌≡◌, ◌∙◌, ℕ, zero, suc, ◌+◌, ◌-◌, ◌^◌, ◌<◌, ◌≤◌, Bool, true, false, List, [], ◌∷◌, length, Option, Some, None, slice_get, refl, ap, sym, subst, arith, true≢false}
use Rattle.std.specs.Prelude.{◌&&◌, if◌then◌else◌, min}
use Rattle.std.proofs.lemmas.Bool.{eqb-true}
use Rattle.std.proofs.lemmas.Option.{same_Some}
use Rattle.clu_base.proofs.Lists.{none_is_not}
use Rattle.clu_wir.specs.Plain.{Expr}
use Rattle.clu_wir.specs.Plain as plain
use Rattle.clu_wir.specs.Value.{meant, of_option}
use Rattle.clu_frames.specs.Flattening.{Made, Round, are_row, first_of_row, first_slot, is_slot, row_from, row_sets, row_slot, slot_of}
use Rattle.clu_word_meaning.specs.Words.{Computation, Entry, State, by_value, counted, ends, valued, values, with_steps}
use Rattle.clu_flat_meaning.specs.Machine.{Machine, running}
use Rattle.clu_flat_meaning.proofs.Runs.{Front, Once}
use Rattle.laws_frames.proofs.Relation.{Fit, Keeps, Laws, Outcome, Owes, Place}
use Rattle.laws_frames.proofs.Rows.{AllGood, Homes, Wide, values_run}

by_row : (b : Bool) (f first : ℕ) → (if b then Some f else None) ≡ Some first → (b ≡ true) × (f ≡ first)
by_row true f first e = (refl, same_Some f first e)
by_row false f first e = absurd (none_is_not first e)

is_a_row : (es : List Expr) (o : Option ℕ) (first : ℕ) → row_from es o ≡ Some first → are_row first es ≡ true
is_a_row es None first e = none_is_not first e
is_a_row es (Some f) first e = let k = by_row (are_row f es) f first e in ap (λ n. are_row n es) (sym k.1) ∙ k.0

both_true : (a b : Bool) → a && b ≡ true → (a ≡ true) × (b ≡ true)
both_true true true e = (refl, refl)
both_true true false e = absurd (true≢false (sym e))
both_true false b e = absurd (true≢false (sym e))

is_the_slot : (e : Expr) (first : ℕ) → is_slot first (slot_of e) ≡ true → e ≡ plain.slot first
is_the_slot (plain.slot n) first t = ap plain.slot (eqb-true n first t)
is_the_slot _ first t = absurd (true≢false (sym t))

module _ (p : Place) (Good : Expr → Type 0) (laws : Laws p Good) (once : Once p.shape.code) (entries : ℕ → Entry) where
  -- The words of a row of expressions lie side by side from a slot on.
  pub record Placed (round : Round) (slot top bound : ℕ) (s : ℕ → ℕ) (at : ℕ) (st : State) (c : Machine) (ws : List ℕ) (d : Machine) : Type 0 where
    pub pc : d.pc ≡ at
    pub mode : d.mode ≡ running
    pub tops : d.top ≡ top
    pub sees : Owes p st d
    pub keeps : Keeps p round.work bound s d.stack
    pub row : (i w : ℕ) → slice_get ws i ≡ Some w → d.stack (p.fp + 4 + slot + i) ≡ w
    pub wide : slot + length ws ≤ p.shape.frame

  -- slots that lie side by side already take no steps
  module _ (round : Round) (end bound : ℕ) (s : ℕ → ℕ) (turns : ℕ) (c : Machine) where
    abbrev Goes : List Expr → ℕ → (List ℕ → Computation (Unit {0})) → State → Type 0
    Goes es first f st = (ws : List ℕ) (x : ℕ) → length ws ≡ length es → st.meters.steps ≤ x → ((i w : ℕ) → slice_get ws i ≡ Some w → c.stack (p.fp + 4 + first + i) ≡ w) → (0 < length ws → first + length ws ≤ p.base) →
        Outcome p round end bound s c (f ws turns (with_steps x st))

    rest_high : (ws : List ℕ) (first : ℕ) → (0 < length ws → first + 1 + length ws ≤ p.base) → first < p.base → first + suc (length ws) ≤ p.base
    rest_high [] first h l = omega (arith, l)
    rest_high (w ∷ ws) first h l = omega (arith, h (omega arith))

    first_goes : (es : List Expr) (first w : ℕ) (f : List ℕ → Computation (Unit {0})) (st : State) → first < p.base → c.stack (p.fp + 4 + first) ≡ w → Goes (plain.slot first ∷ es) first f st →
        Goes es (first + 1) (λ ws. f (w ∷ ws)) (counted 1 st)
    first_goes es first w f st l at k = λ ws x n le row high. k (w ∷ ws) x (ap suc n) (omega (arith, le)) (row_of ws row) (λ h. rest_high ws first high l)
      where
        row_of : (ws : List ℕ) → ((i v : ℕ) → slice_get ws i ≡ Some v → c.stack (p.fp + 4 + (first + 1) + i) ≡ v) → (i v : ℕ) → slice_get (w ∷ ws) i ≡ Some v → c.stack (p.fp + 4 + first + i) ≡ v
        row_of ws row zero v e = (let z : p.fp + 4 + first + 0 ≡ p.fp + 4 + first = omega arith in ap c.stack z) ∙ at ∙ same_Some w v e
        row_of ws row (suc i) v e = (let z : p.fp + 4 + first + suc i ≡ p.fp + 4 + (first + 1) + i = omega arith in ap c.stack z) ∙ row i v e

    by_option : (o : Option ℕ) (g : ℕ → Computation (Unit {0})) (st : State) → ((w : ℕ) → o ≡ Some w → Outcome p round end bound s c (g w turns st)) → Outcome p round end bound s c (by_value p.linked entries (of_option o) g turns st)
    unfolding by_value ends
    by_option None g st k = tt
    by_option (Some w) g st k = k w refl

    slots_run : (es : List Expr) (first : ℕ) (f : List ℕ → Computation (Unit {0})) (st : State) → are_row first es ≡ true → AllGood p Good es → ((n w : ℕ) → n < p.base → st.slots n ≡ Some w → c.stack (p.fp + 4 + n) ≡ w) → Goes es first f st →
        Outcome p round end bound s c (values p.linked entries es f turns st)
    unfolding values valued meant
    slots_run [] first f st row good see k = k [] st.meters.steps refl (omega arith) (λ i w h. absurd (none_is_not w h)) (λ l. absurd (omega (arith, l)))
    slots_run (e ∷ es) first f st row good see k =
        let both = both_true (is_slot first (slot_of e)) (are_row (min (first + 1) (2 ^ 32 - 1)) es) row in
        let is : e ≡ plain.slot first = is_the_slot e first both.0 in
        let own : first < p.base = laws.slot_good first (subst Good is good.0) in
        let after : are_row (first + 1) es ≡ true = (let z : first + 1 ≡ min (first + 1) (2 ^ 32 - 1) = omega (arith, own, laws.few) in ap (λ n. are_row n es) z) ∙ both.1 in
        subst (λ x. Outcome p round end bound s c (values p.linked entries (x ∷ es) f turns st)) (sym is)
        (by_option (st.slots first) (λ w. values p.linked entries es (λ ws. f (w ∷ ws))) (counted 1 st)
        (λ w h. slots_run es (first + 1) (λ ws. f (w ∷ ws)) (counted 1 st) after good.1 see (first_goes es first w f st own (see first w own h) (subst (λ x. Goes (x ∷ es) first f st) is k))))

  pub placed_run : (o : Option ℕ) (round : Round) (end bound : ℕ) (s : ℕ → ℕ) (es : List Expr) (work : ℕ) (m : Made) (f : List ℕ → Computation (Unit {0})) (turns : ℕ) (st : State) (c : Machine) → first_of_row es ≡ o → Fit p round → AllGood p Good es → round.work ≤ work →
      Wide p o (work + length es) → Homes p round.region (length m.code) (length (row_sets work es o m).code) → Front (row_sets work es o m).code p.shape.code → c.pc ≡ length m.code → c.mode ≡ running → Owes p st c → Keeps p round.work bound s c.stack →
      ((ws : List ℕ) (d : Machine) (x : ℕ) → length ws ≡ length es → c.high ≤ d.high → Placed round (row_slot work o) c.top bound s (length (row_sets work es o m).code) (with_steps x st) c ws d → Outcome p round end bound s d (f ws turns (with_steps x st))) →
      Outcome p round end bound s c (values p.linked entries es f turns st)
  placed_run None round end bound s es work m f turns st c e fit good low wide homes front pc mode see keep k =
      values_run p Good laws once entries round end bound s es work (length (row_sets work es None m).code) m f turns st c fit good low wide homes (omega arith) front pc mode see keep
      (λ ws d x n r. k ws d x n r.grown (record { pc = r.pc; mode = r.mode; tops = r.tops; sees = r.sees; keeps = r.keeps; row = r.row; wide = omega (arith, wide, n) }))
  placed_run (Some first) round end bound s [] work m f turns st c e fit good low wide homes front pc mode see keep k = absurd (none_is_not first e)
  placed_run (Some first) round end bound s (x ∷ es) work m f turns st c e fit good low wide homes front pc mode see keep k =
      slots_run round end bound s turns c (x ∷ es) first f st (is_a_row (x ∷ es) (first_slot (x ∷ es)) first e) good see.slots
      (λ ws y n le row high. k ws c y n (omega arith) (record {
        pc = pc;
        mode = mode;
        tops = refl;
        sees = record { slots = see.slots; below = see.below; world = see.world; who = see.who; frame = see.frame; room = see.room; pay = see.pay; within = (see.within.0, see.within.1, omega (arith, see.within.2, le), see.within.3, see.within.4) };
        keeps = keep;
        row = row;
        wide = omega (arith, laws.small, high (omega (arith, n)));
      }))
