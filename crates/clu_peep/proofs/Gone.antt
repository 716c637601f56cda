-- The code without a place that goes by a row is flat as before: no label, call or turn goes.
use Rattle.std.proofs.Common.{◌≡◌, ℕ, ◌+◌, List, [], ◌∷◌, ◌++◌, map, Bool, true, false, not, ◌&&◌, ◌||◌, Option, Some, None, refl, sym, ◌∙◌, ap, ⊎_elim, arith, length-append}
use Rattle.std.specs.List.{list_all}
use Rattle.std.specs.Option.{option_to_list}
use Rattle.std.proofs.lemmas.Bool.{and_from, and_parts, and_right, false≢true, not_from_true, or_cases, or_left, or_right}
use Rattle.clu_frames.specs.Labels.{IsFlat, are_loops, are_numbered, at_last, begins_loop, differ, ends_loop, goes_on, has_loop, is_invoke, is_known, jump_of, label_of, labels_of, loop_to, resumed_slot, same, taken_slot}
use Rattle.clu_frames.specs.Plain.{Step, plain_code, step_of}
use Rattle.clu_frames.specs.Plain as flat
use Rattle.clu_frames.proofs.Numbering.{labels_cons}
use Rattle.clu_peep.specs.declared.places.Place.{Place}
use Rattle.clu_peep.specs.declared.steps.Move.{Move}
use Rattle.clu_peep.specs.Left.{goes, is_undone, is_useless}
use Rattle.clu_peep.specs.Rows.{goes_alone}
use Rattle.clu_peep.specs.Steps.{is_back, is_idle, move_of, word_slot}

-- What goes, by the steps after it.

abbrev takes : ℕ → List Step → Bool
takes slot [] = false
takes slot (x ∷ rest) = same (Some slot) (taken_slot x)

abbrev is_end : List Step → Bool
is_end [] = true
is_end (x ∷ rest) = false

pub record Goes (gone : Step) (back : List Step) : Type 0 where
  pub label : label_of gone ≡ None
  pub call : is_invoke gone ≡ false
  pub take : taken_slot gone ≡ None
  pub resume : resumed_slot gone ≡ None
  -- it is no jump to the end of a loop before its body
  pub jump : (slot end : ℕ) → (same (Some end) (jump_of gone) && takes slot back) ≡ false
  pub last : is_end back ≡ true → goes_on gone ≡ true

-- A move or a word.

abbrev is_set : Step → Bool
is_set (flat.Set to value) = true
is_set _ = false

set_goes : (s : Step) (back : List Step) → is_set s ≡ true → Goes s back
set_goes (flat.Set to value) back e = record { label = refl; call = refl; take = refl; resume = refl; jump = λ slot end. refl; last = λ e. refl }
set_goes _ back e = absurd (false≢true e)

move_is_set : (s : Step) → (move_of s ≡ None → false ≡ true) → is_set s ≡ true
move_is_set (flat.Set to value) some = refl
move_is_set _ some = some refl

idle_is_some : (o : Option Move) → is_idle o ≡ true → o ≡ None → false ≡ true
idle_is_some o idle none = sym (ap is_idle none) ∙ idle

back_is_some : (o other : Option Move) → is_back o other ≡ true → o ≡ None → false ≡ true
back_is_some o other back none = sym (ap (λ (p : Option Move). is_back p other) none) ∙ back

not_same : (o : Option ℕ) → same o None ≡ false
not_same None = refl
not_same (Some n) = refl

word_is_set : (s : Step) (o : Option ℕ) → same o (word_slot s) ≡ true → is_set s ≡ true
word_is_set (flat.Set to value) o e = refl
word_is_set _ o e = sym (not_same o) ∙ e

undone_is_set : (front : List Place) (y : Place) → is_undone front y ≡ true → is_set (step_of y.step) ≡ true
undone_is_set [] y e = absurd (false≢true e)
undone_is_set (x ∷ []) y e =
    move_is_set (step_of y.step) (back_is_some (move_of (step_of y.step)) (move_of (step_of x.step)) (and_parts (not y.is_target) (is_back (move_of (step_of y.step)) (move_of (step_of x.step))) e).1)
undone_is_set (x ∷ z ∷ front) y e = undone_is_set (z ∷ front) y e

-- A jump before its label.

jump_goes : (s t : Step) (back : List Step) → same (label_of t) (jump_of s) ≡ true → Goes s (t ∷ back)
jump_goes s (flat.Label l) back e = by s e
  where
    by : (s : Step) → same (Some l) (jump_of s) ≡ true → Goes s (flat.Label l ∷ back)
    by (flat.Jump k) e = record {
      label = refl;
      call = refl;
      take = refl;
      resume = refl;
      jump = λ slot end. and_right (same (Some end) (Some k)) false refl;
      last = λ e. absurd (false≢true e);
    }
    by _ e = absurd (false≢true e)
jump_goes s _ back e = absurd (false≢true e)

abbrev steps : List Place → List Step
steps ps = plain_code (map (λ (x : Place). x.step) ps)

first_goes : (x : Place) (back : List Place) → is_useless x back ≡ true → Goes (step_of x.step) (steps back)
first_goes x [] e = absurd (false≢true e)
first_goes x (y ∷ back) e = ⊎_elim
    (λ l. jump_goes (step_of x.step) (step_of y.step) (steps back) l)
    (λ w. set_goes (step_of x.step) ((step_of y.step) ∷ steps back) (word_is_set (step_of x.step) (word_slot (step_of y.step)) (and_parts (not y.is_target) (same (word_slot (step_of y.step)) (word_slot (step_of x.step))) w).1))
    (or_cases (same (label_of (step_of y.step)) (jump_of (step_of x.step))) (not y.is_target && same (word_slot (step_of y.step)) (word_slot (step_of x.step))) e)

pub what_goes : (front : List Place) (x : Place) (back : List Place) → goes front x back ≡ true → Goes (step_of x.step) (steps back)
what_goes front x back e = ⊎_elim
    (λ alone. set_goes (step_of x.step) (steps back) (move_is_set (step_of x.step) (idle_is_some (move_of (step_of x.step)) alone)))
    (λ others. ⊎_elim
    (λ undone. set_goes (step_of x.step) (steps back) (undone_is_set front x undone))
    (λ useless. first_goes x back useless)
    (or_cases (is_undone front x) (is_useless x back) others))
    (or_cases (goes_alone x) (is_undone front x || is_useless x back) e)

-- Code without it.

module _ (s : Step) (back : List Step) (g : Goes s back) where
  labels_same : (front : List Step) → labels_of (front ++ s ∷ back) ≡ labels_of (front ++ back)
  labels_same [] = labels_cons s back ∙ ap (λ (o : Option ℕ). option_to_list o ++ labels_of back) g.label
  labels_same (t ∷ front) =
      labels_cons t (front ++ s ∷ back) ∙ ap (λ (l : List ℕ). option_to_list (label_of t) ++ l) (labels_same front) ∙ sym (labels_cons t (front ++ back))

  known_fewer : (labels : List ℕ) (front : List Step) → list_all (is_known labels) (front ++ s ∷ back) ≡ true → list_all (is_known labels) (front ++ back) ≡ true
  known_fewer labels [] e = (and_parts (is_known labels s) (list_all (is_known labels) back) e).1
  known_fewer labels (t ∷ front) e =
      let parts = and_parts (is_known labels t) (list_all (is_known labels) (front ++ s ∷ back)) e in
      and_from (is_known labels t) (list_all (is_known labels) (front ++ back)) parts.0 (known_fewer labels front parts.1)

  abbrev stops : Step → Bool
  stops t = not (goes_on t)

  last_of : (front : List Step) (y : Step) (rest : List Step) → at_last stops (front ++ y ∷ rest) ≡ at_last stops (y ∷ rest)
  last_of [] y rest = refl
  last_of (x ∷ []) y rest = refl
  last_of (x ∷ z ∷ front) y rest = last_of (z ∷ front) y rest

  ends_same : (front rest : List Step) → (is_end rest ≡ true → goes_on s ≡ true) → at_last stops (front ++ s ∷ rest) ≡ true → at_last stops (front ++ rest) ≡ true
  ends_same front [] last e = absurd (false≢true (sym (not_from_true (goes_on s) (last refl)) ∙ sym (last_of front s []) ∙ e))
  ends_same front (y ∷ rest) last e = last_of front y rest ∙ sym (last_of front s (y ∷ rest)) ∙ e

  -- Loops: none of the three places with which one begins goes, nor one between them.

  not_taken : (slot : ℕ) (b : Bool) → (b && same (Some slot) (taken_slot s)) ≡ false
  not_taken slot b = and_right b (same (Some slot) (taken_slot s)) (ap (same (Some slot)) g.take)

  no_call : (slot end : ℕ) (rest : List Step) → begins_loop slot end (s ∷ rest) ≡ true → false ≡ true
  no_call slot end [] e = e
  no_call slot end (y ∷ []) e = e
  no_call slot end (y ∷ z ∷ rest) e = sym g.call ∙ (and_parts (is_invoke s) (same (Some end) (jump_of y) && same (Some slot) (taken_slot z)) e).0

  no_jump : (slot end : ℕ) (x : Step) (rest : List Step) → (same (Some end) (jump_of s) && takes slot rest) ≡ false → begins_loop slot end (x ∷ s ∷ rest) ≡ true → false ≡ true
  no_jump slot end x [] not_jump e = e
  no_jump slot end x (z ∷ rest) not_jump e = sym not_jump ∙ (and_parts (is_invoke x) (same (Some end) (jump_of s) && same (Some slot) (taken_slot z)) e).1

  begun : (slot end : ℕ) (x : Step) (front : List Step) → begins_loop slot end (x ∷ (front ++ s ∷ back)) ≡ true → begins_loop slot end (x ∷ (front ++ back)) ≡ true
  begun slot end x [] e = absurd (false≢true (no_jump slot end x back (g.jump slot end) e))
  begun slot end x (y ∷ []) e =
      let turn = (and_parts (is_invoke x) (same (Some end) (jump_of y) && same (Some slot) (taken_slot s)) e).1 in
      absurd (false≢true (sym (not_taken slot (same (Some end) (jump_of y))) ∙ turn))
  begun slot end x (y ∷ z ∷ front) e = e

  has_still : (slot end : ℕ) (front : List Step) → has_loop slot end (front ++ s ∷ back) ≡ true → has_loop slot end (front ++ back) ≡ true
  has_still slot end [] e = ⊎_elim
      (λ here. absurd (false≢true (no_call slot end back here)))
      (λ later. later)
      (or_cases (begins_loop slot end (s ∷ back)) (has_loop slot end back) e)
  has_still slot end (x ∷ front) e = ⊎_elim
      (λ here. or_left (begins_loop slot end (x ∷ (front ++ back))) (has_loop slot end (front ++ back)) (begun slot end x front here))
      (λ later. or_right (begins_loop slot end (x ∷ (front ++ back))) (has_loop slot end (front ++ back)) (has_still slot end front later))
      (or_cases (begins_loop slot end (x ∷ (front ++ s ∷ back))) (has_loop slot end (front ++ s ∷ back)) e)

  module _ (code less : List Step) (still : (slot end : ℕ) → has_loop slot end code ≡ true → has_loop slot end less ≡ true) where
    to_still : (slot : ℕ) (o : Option ℕ) → loop_to code slot o ≡ true → loop_to less slot o ≡ true
    to_still slot None e = absurd (false≢true e)
    to_still slot (Some end) e = still slot end e

    -- what resumes has the same place after it, as that is a label
    ends_still : (o : Option ℕ) (front : List Step) → ends_loop code o (front ++ s ∷ back) ≡ true → ends_loop less o (front ++ back) ≡ true
    ends_still None front e = refl
    ends_still (Some slot) [] e = absurd (false≢true (sym (ap (loop_to code slot) g.label) ∙ e))
    ends_still (Some slot) (y ∷ front) e = to_still slot (label_of y) e

    ends_behind : (o : Option ℕ) (rest : List Step) → ends_loop code o rest ≡ true → ends_loop less o rest ≡ true
    ends_behind None rest e = refl
    ends_behind (Some slot) [] e = absurd (false≢true e)
    ends_behind (Some slot) (y ∷ rest) e = to_still slot (label_of y) e

    loops_behind : (rest : List Step) → are_loops code rest ≡ true → are_loops less rest ≡ true
    loops_behind [] e = refl
    loops_behind (x ∷ rest) e =
        let parts = and_parts (ends_loop code (resumed_slot x) rest) (are_loops code rest) e in
        and_from (ends_loop less (resumed_slot x) rest) (are_loops less rest) (ends_behind (resumed_slot x) rest parts.0) (loops_behind rest parts.1)

    loops_still : (front : List Step) → are_loops code (front ++ s ∷ back) ≡ true → are_loops less (front ++ back) ≡ true
    loops_still [] e = loops_behind back (and_parts (ends_loop code (resumed_slot s) back) (are_loops code back) e).1
    loops_still (x ∷ front) e =
        let parts = and_parts (ends_loop code (resumed_slot x) (front ++ s ∷ back)) (are_loops code (front ++ s ∷ back)) e in
        and_from (ends_loop less (resumed_slot x) (front ++ back)) (are_loops less (front ++ back)) (ends_still (resumed_slot x) front parts.0) (loops_still front parts.1)

  pub flat_still : (front : List Step) → IsFlat (front ++ s ∷ back) → IsFlat (front ++ back)
  flat_still front f = record {
    few = omega (arith, f.few, length-append front back, length-append front (s ∷ back));
    labels = ap differ (sym (labels_same front)) ∙ f.labels;
    numbered = ap are_numbered (sym (labels_same front)) ∙ f.numbered;
    names = ap (λ (l : List ℕ). list_all (is_known l) (front ++ back)) (sym (labels_same front)) ∙ known_fewer (labels_of (front ++ s ∷ back)) front f.names;
    ends = ends_same front back g.last f.ends;
    loops = loops_still (front ++ s ∷ back) (front ++ back) (λ slot end. has_still slot end front) front f.loops;
  }
