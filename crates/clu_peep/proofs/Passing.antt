-- The pass over the places: what is left comes of them by rows, and no row is left.
use Rattle.std.proofs.Common.{◌≡◌, ℕ, zero, suc, ◌+◌, List, [], ◌∷◌, ◌++◌, length, Bool, true, false, not, ◌&&◌, ◌||◌, IsTrue, Option, None, refl, sym, ◌∙◌, ap, subst, ⊎_elim, arith, append_assoc}
use Rattle.std.proofs.lemmas.Bool.{and_from, and_parts, and_right, false≢true, not-true, not_from_false, or_cases, or_from, or_right}
use Rattle.clu_wir.specs.Plain.{Expr}
use Rattle.clu_wir.specs.Plain as plain
use Rattle.clu_frames.specs.Labels.{at_last, jump_of, label_of, same}
use Rattle.clu_frames.specs.declared.flat.Flat.{Flat}
use Rattle.clu_frames.specs.Plain.{Step, step_of}
use Rattle.clu_frames.specs.Plain as flat
use Rattle.clu_peep.specs.declared.places.Place.{Place}
use Rattle.clu_peep.specs.declared.steps.Move.{Move}
use Rattle.clu_peep.specs.Steps.{from_slot, is_back, move_of, with_word, word_slot}
use Rattle.clu_peep.specs.Rows.{goes_alone, goes_first, goes_second}
use Rattle.clu_peep.specs.Left.{Adds, Leaves, Removal, Removed, is_settled, is_undone, is_useless, marked, next_goes, passed, places}

-- Removals, one after the other.

pub removed_on : (a b c : List Place) (m n : ℕ) → Removed m a b → Removed n b c → Leaves a c
removed_on a b c m zero r e = (m, subst (λ (l : List Place). Removed m a l) e r)
removed_on a b c m (suc n) r s =
    let first : Leaves a s.0 = removed_on a b s.0 m n r s.1 in
    (suc first.0, (s.0, first.1, s.2))

pub leaves_on : (a b c : List Place) → Leaves a b → Leaves b c → Leaves a c
leaves_on a b c r s = removed_on a b c r.0 s.0 r.1 s.1

one_goes : (a b : List Place) → Removal a b → Leaves a b
one_goes a b r = (suc zero, (a, refl, r))

pub passed-false : (ps : List Place) → passed false ps ≡ ps
passed-false [] = refl
passed-false (y ∷ ps) = refl

-- What makes the place before it go is no move.

label_no_move : (s : Step) (o : Option ℕ) → same (label_of s) o ≡ true → move_of s ≡ None
label_no_move (flat.Set to value) o e = absurd (false≢true e)
label_no_move _ o e = refl

word_no_slot : (to : ℕ) (v : Expr) (o : Option ℕ) → same (with_word to v) o ≡ true → from_slot to v ≡ None
word_no_slot to (plain.slot n) o e = absurd (false≢true e)
word_no_slot to _ o e = refl

word_no_move : (s : Step) (o : Option ℕ) → same (word_slot s) o ≡ true → move_of s ≡ None
word_no_move (flat.Set to value) o e = word_no_slot to value o e
word_no_move _ o e = refl

pub no_move : (x y : Place) → goes_first x y ≡ true → move_of (step_of y.step) ≡ None
no_move x y e = ⊎_elim
    (λ l. label_no_move (step_of y.step) (jump_of (step_of x.step)) l)
    (λ w. word_no_move (step_of y.step) (word_slot (step_of x.step)) (and_parts (not y.is_target) (same (word_slot (step_of y.step)) (word_slot (step_of x.step))) w).1)
    (or_cases (same (label_of (step_of y.step)) (jump_of (step_of x.step))) (not y.is_target && same (word_slot (step_of y.step)) (word_slot (step_of x.step))) e)

not_back : (x y : Place) → move_of (step_of y.step) ≡ None → goes_second x y ≡ false
not_back x y e = and_right (not y.is_target) (is_back (move_of (step_of y.step)) (move_of (step_of x.step))) (ap (λ (m : Option Move). is_back m (move_of (step_of x.step))) e)

not_undone : (front : List Place) (y : Place) → move_of (step_of y.step) ≡ None → is_undone front y ≡ false
not_undone [] y e = refl
not_undone (x ∷ []) y e = not_back x y e
not_undone (x ∷ z ∷ front) y e = not_undone (z ∷ front) y e

-- Settled places, with one more and with one less.

settled_pair : (x y : Place) (back : List Place) → goes_alone x ≡ false → goes_second x y ≡ false → goes_first x y ≡ false → is_settled (y ∷ back) ≡ true → is_settled (x ∷ y ∷ back) ≡ true
settled_pair x y back alone second first rest =
    and_from (not (goes_alone x)) (not (next_goes x (y ∷ back)) && is_settled (y ∷ back)) (not_from_false (goes_alone x) alone)
    (and_from (not (next_goes x (y ∷ back))) (is_settled (y ∷ back)) (not_from_false (next_goes x (y ∷ back)) (or_from (goes_second x y) (goes_first x y) second first)) rest)

settled_one : (x : Place) → goes_alone x ≡ false → is_settled (x ∷ []) ≡ true
settled_one x alone = and_from (not (goes_alone x)) true (not_from_false (goes_alone x) alone) refl

settled_parts : (x : Place) (back : List Place) → is_settled (x ∷ back) ≡ true → (not (goes_alone x) ≡ true) × (not (next_goes x back) ≡ true) × (is_settled back ≡ true)
settled_parts x back e =
    let first = and_parts (not (goes_alone x)) (not (next_goes x back) && is_settled back) e in
    let second = and_parts (not (next_goes x back)) (is_settled back) first.1 in
    (first.0, second.0, second.1)

pub settled_push : (left : List Place) (y : Place) → is_settled left ≡ true → goes_alone y ≡ false → is_undone left y ≡ false → at_last (λ (x : Place). goes_first x y) left ≡ false → is_settled (left ++ y ∷ []) ≡ true
settled_push [] y s alone second first = settled_one y alone
settled_push (x ∷ []) y s alone second first =
    settled_pair x y [] (not-true (goes_alone x) (settled_parts x [] s).0) second first (settled_one y alone)
settled_push (x ∷ z ∷ left) y s alone second first =
    let parts = settled_parts x (z ∷ left) s in
    and_from (not (goes_alone x)) (not (next_goes x (z ∷ left)) && is_settled ((z ∷ left) ++ y ∷ [])) parts.0
    (and_from (not (next_goes x (z ∷ left))) (is_settled ((z ∷ left) ++ y ∷ [])) parts.1
    (settled_push (z ∷ left) y parts.2 alone second first))

pub settled_front : (front : List Place) (x : Place) → is_settled (front ++ x ∷ []) ≡ true → is_settled front ≡ true
settled_front [] x s = refl
settled_front (y ∷ []) x s = settled_one y (not-true (goes_alone y) (settled_parts y (x ∷ []) s).0)
settled_front (y ∷ z ∷ front) x s =
    let parts = settled_parts y ((z ∷ front) ++ x ∷ []) s in
    and_from (not (goes_alone y)) (not (next_goes y (z ∷ front)) && is_settled (z ∷ front)) parts.0
    (and_from (not (next_goes y (z ∷ front))) (is_settled (z ∷ front)) parts.1 (settled_front (z ∷ front) x parts.2))

-- A place that is put behind those that are left.

pub record PutsSoFar (before : List Place) (first : Place) (left : List Place) (y : Place) : Type 0 where
  pub leaves : (back : List Place) → Leaves (before ++ first ∷ back) (left ++ y ∷ back)
  pub settled : goes_alone first ≡ false → is_undone before first ≡ false → IsTrue (is_settled before) → (goes_alone y ≡ false) × (is_undone left y ≡ false) × (is_settled left ≡ true)

-- the last place goes
pub puts_next : (before : List Place) (first : Place) (left : List Place) (y : Place) (front : List Place) (x : Place) → PutsSoFar before first left y → left ≡ front ++ x ∷ [] → goes_first x y ≡ true → PutsSoFar before first front (marked x.is_target y)
puts_next before first left y front x so_far is useless = record {
  leaves = λ back.
      let was : left ++ y ∷ back ≡ front ++ x ∷ y ∷ back = ap (λ (l : List Place). l ++ y ∷ back) is ∙ append_assoc front (x ∷ []) (y ∷ back) in
      let goes_now : Removal (left ++ y ∷ back) (front ++ marked x.is_target y ∷ back) = record {
        front = front;
        gone = x;
        back = y ∷ back;
        was = was;
        is = refl;
        row = or_right (goes_alone x) (is_undone front x || is_useless x (y ∷ back)) (or_right (is_undone front x) (goes_first x y) useless);
      } in
      leaves_on (before ++ first ∷ back) (left ++ y ∷ back) (front ++ marked x.is_target y ∷ back) (so_far.leaves back)
      (one_goes (left ++ y ∷ back) (front ++ marked x.is_target y ∷ back) goes_now);
  settled = λ alone undone s.
      let then_so = so_far.settled alone undone s in (
        then_so.0,
        not_undone front (marked x.is_target y) (no_move x y useless),
        settled_front front x (subst (λ (l : List Place). is_settled l ≡ true) is then_so.2),
      );
}

pub puts_end : (before : List Place) (first : Place) (left : List Place) (y : Place) → PutsSoFar before first left y → Adds before first (left ++ y ∷ []) false
puts_end before first left y so_far = λ back.
    subst (λ (l : List Place). Leaves (before ++ first ∷ back) l)
    (sym (ap (λ (l : List Place). (left ++ y ∷ []) ++ l) (passed-false back) ∙ append_assoc left (y ∷ []) back))
    (so_far.leaves back)

pub puts_settled : (before : List Place) (first : Place) (left : List Place) (y : Place) → PutsSoFar before first left y → at_last (λ (x : Place). goes_first x y) left ≡ false → goes_alone first ≡ false → is_undone before first ≡ false → IsTrue (is_settled before) → IsTrue (is_settled (left ++ y ∷ []))
puts_settled before first left y so_far no_first alone undone s =
    let then_so = so_far.settled alone undone s in
    settled_push left y then_so.2 then_so.0 then_so.1 no_first

-- The pass.

pub record SettlesSoFar (targets : ℕ → Bool) (code : List Flat) (left : List Place) (mark : Bool) (number : ℕ) (rest : List Flat) : Type 0 where
  pub leaves : Leaves (places targets 0 code) (left ++ passed mark (places targets number rest))
  pub settled : IsTrue (is_settled left)
  pub count : number + length rest ≡ length code

pub settles_next : (targets : ℕ → Bool) (code : List Flat) (left : List Place) (mark : Bool) (number : ℕ) (step : Flat) (rest : List Flat) (after : List Place) (next : Bool)
    → SettlesSoFar targets code left mark number (step ∷ rest)
    → Adds left (record { step = step; number = number; is_target = mark || targets number }) after next
    → (IsTrue (is_settled left) → IsTrue (is_settled after))
    → SettlesSoFar targets code after next (number + 1) rest
settles_next targets code left mark number step rest after next so_far adds keeps = record {
  leaves = leaves_on (places targets 0 code) (left ++ passed mark (places targets number (step ∷ rest))) (after ++ passed next (places targets (number + 1) rest)) so_far.leaves (adds (places targets (number + 1) rest));
  settled = keeps so_far.settled;
  count = omega (arith, so_far.count);
}
