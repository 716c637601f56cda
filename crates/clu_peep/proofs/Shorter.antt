-- What is left is no more than before, in no more words, names no other slots, and is flat as before.
use Rattle.std.proofs.Common.{◌≡◌, ℕ, zero, suc, ◌+◌, ◌-◌, ◌^◌, ◌≤◌, min, List, [], ◌∷◌, ◌++◌, length, map, fold, Bool, true, refl, sym, ◌∙◌, ap, subst, arith, length-append}
use Rattle.std.proofs.lemmas.Bool.{and_from, and_parts}
use Rattle.std.proofs.lemmas.List.{map-append}
use Rattle.clu_wir.specs.Rooms.{plus}
use Rattle.clu_frames.specs.Labels.{IsFlat}
use Rattle.clu_frames.specs.Steps.{code_words, step_words}
use Rattle.clu_frames.specs.Within.{are_within, is_within}
use Rattle.clu_frames.specs.declared.flat.Flat.{Flat}
use Rattle.clu_frames.specs.Plain.{Step, plain_code, step_of}
use Rattle.clu_handlers.specs.declared.region.Region.{Region}
use Rattle.clu_peep.specs.declared.places.Place.{Place}
use Rattle.clu_peep.specs.Left.{Leaves, Removal, Removed, begins, passed, places}
use Rattle.clu_peep.specs.Peeped.{IsPeeped}
use Rattle.clu_peep.proofs.Gone.{flat_still, what_goes}

abbrev pub steps_of : List Place → List Flat
steps_of ps = map (λ (x : Place). x.step) ps

pub places_steps : (targets : ℕ → Bool) (n : ℕ) (code : List Flat) → steps_of (places targets n code) ≡ code
places_steps targets n [] = refl
places_steps targets n (s ∷ code) = ap (λ (l : List Flat). s ∷ l) (places_steps targets (n + 1) code)

passed_steps : (mark : Bool) (ps : List Place) → steps_of (passed mark ps) ≡ steps_of ps
passed_steps mark [] = refl
passed_steps mark (y ∷ ps) = refl

-- the steps before and after a removal
steps_before : (a b : List Place) (r : Removal a b) → steps_of a ≡ steps_of r.front ++ r.gone.step ∷ steps_of r.back
steps_before a b r = ap steps_of r.was ∙ map-append (λ (x : Place). x.step) r.front (r.gone ∷ r.back)

steps_after : (a b : List Place) (r : Removal a b) → steps_of b ≡ steps_of r.front ++ steps_of r.back
steps_after a b r =
    ap steps_of r.is ∙ map-append (λ (x : Place). x.step) r.front (passed r.gone.is_target r.back)
    ∙ ap (λ (l : List Flat). steps_of r.front ++ l) (passed_steps r.gone.is_target r.back)

-- Length.

one_shorter : (front back : List Flat) (s : Flat) → length (front ++ back) ≤ length (front ++ s ∷ back)
one_shorter front back s = omega (arith, length-append front back, length-append front (s ∷ back))

-- Words.

min_more : (x y m : ℕ) → x ≤ y → min x m ≤ min y m
min_more x y m le = omega (arith, le)

min_within : (x m : ℕ) → min x m ≤ m
min_within x m = omega arith

min_adds : (x w m : ℕ) → x ≤ m → x ≤ min (x + w) m
min_adds x w m le = omega (arith, le)

abbrev words_from : ℕ → List Flat → ℕ
words_from n code = fold (λ (m : ℕ) (s : Flat). plus m (step_words s)) n code

words_more : (code : List Flat) (a b : ℕ) → a ≤ b → words_from a code ≤ words_from b code
words_more [] a b le = le
words_more (s ∷ code) a b le =
    words_more code (plus a (step_words s)) (plus b (step_words s)) (min_more (a + step_words s) (b + step_words s) (2 ^ 64 - 1) (omega (arith, le)))

fewer_words : (front back : List Flat) (s : Flat) (n : ℕ) → n ≤ 2 ^ 64 - 1 → words_from n (front ++ back) ≤ words_from n (front ++ s ∷ back)
fewer_words [] back s n le = words_more back n (plus n (step_words s)) (min_adds n (step_words s) (2 ^ 64 - 1) le)
fewer_words (t ∷ front) back s n le = fewer_words front back s (plus n (step_words t)) (min_within (n + step_words t) (2 ^ 64 - 1))

-- Slots.

fewer_slots : (frame : ℕ) (front back : List Flat) (s : Flat) → are_within frame (front ++ s ∷ back) ≡ true → are_within frame (front ++ back) ≡ true
fewer_slots frame [] back s e = (and_parts (is_within frame s) (are_within frame back) e).1
fewer_slots frame (t ∷ front) back s e =
    let parts = and_parts (is_within frame t) (are_within frame (front ++ s ∷ back)) e in
    and_from (is_within frame t) (are_within frame (front ++ back)) parts.0 (fewer_slots frame front back s parts.1)

-- One removal after the other.

pub record IsShorter (before after : List Flat) : Type 0 where
  pub count : length after ≤ length before
  pub words : code_words after ≤ code_words before
  pub within : (frame : ℕ) → are_within frame before ≡ true → are_within frame after ≡ true
  pub flat : IsFlat (plain_code before) → IsFlat (plain_code after)

is_same : (a b : List Flat) → a ≡ b → IsShorter a b
is_same a b e = subst (λ (l : List Flat). IsShorter a l) e (record {
  count = omega arith;
  words = omega arith;
  within = λ frame w. w;
  flat = λ f. f;
})

removal_shorter : (a b : List Place) → Removal a b → IsShorter (steps_of a) (steps_of b)
removal_shorter a b r =
    subst (λ (l : List Flat). IsShorter l (steps_of b)) (sym (steps_before a b r))
    (subst (λ (l : List Flat). IsShorter (steps_of r.front ++ r.gone.step ∷ steps_of r.back) l) (sym (steps_after a b r))
    (record {
      count = one_shorter (steps_of r.front) (steps_of r.back) r.gone.step;
      words = fewer_words (steps_of r.front) (steps_of r.back) r.gone.step 0 (omega arith);
      within = λ frame w. fewer_slots frame (steps_of r.front) (steps_of r.back) r.gone.step w;
      flat = λ f.
          subst IsFlat (sym (map-append step_of (steps_of r.front) (steps_of r.back)))
          (flat_still (step_of r.gone.step) (plain_code (steps_of r.back)) (what_goes r.front r.gone r.back r.row) (plain_code (steps_of r.front))
          (subst IsFlat (map-append step_of (steps_of r.front) (r.gone.step ∷ steps_of r.back)) f));
    }))

shorter_on : (a b c : List Flat) → IsShorter a b → IsShorter b c → IsShorter a c
shorter_on a b c r s = record {
  count = omega (arith, r.count, s.count);
  words = omega (arith, r.words, s.words);
  within = λ frame w. s.within frame (r.within frame w);
  flat = λ f. s.flat (r.flat f);
}

removed_shorter : (n : ℕ) (a b : List Place) → Removed n a b → IsShorter (steps_of a) (steps_of b)
removed_shorter zero a b e = is_same (steps_of a) (steps_of b) (ap steps_of e)
removed_shorter (suc n) a b r =
    shorter_on (steps_of a) (steps_of r.0) (steps_of b) (removed_shorter n a r.0 r.1) (removal_shorter r.0 b r.2)

pub leaves_shorter : (targets : ℕ → Bool) (code : List Flat) (left : List Place) → Leaves (places targets 0 code) left → IsShorter code (steps_of left)
leaves_shorter targets code left r =
    subst (λ (l : List Flat). IsShorter l (steps_of left)) (places_steps targets 0 code) (removed_shorter r.0 (places targets 0 code) left r.1)

pub peeped_shorter : (code : List Flat) (regions : List Region) (shorter : List Flat) (moved : List Region) → IsPeeped code regions shorter moved → IsShorter code shorter
peeped_shorter code regions shorter moved p =
    subst (λ (l : List Flat). IsShorter code l) (sym p.steps) (leaves_shorter (begins regions) code p.left p.leaves)
