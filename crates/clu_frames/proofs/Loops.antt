-- Loops over iterators, in code that is put together.
use Rattle.std.proofs.Common.{◌≡◌, ℕ, List, [], ◌∷◌, ◌++◌, true, Option, Some, None, refl, ⊎_elim}
use Rattle.std.proofs.lemmas.Bool.{and_from, and_parts, false≢true, or_cases, or_left, or_right}
use Rattle.clu_frames.specs.Plain.{Step}
use Rattle.clu_frames.specs.Labels.{are_loops, begins_loop, ends_loop, has_loop, label_of, loop_before, loop_to, resumed_slot}

-- Where a loop begins.

begins_left : (slot end : ℕ) (a b : List Step) → begins_loop slot end a ≡ true → begins_loop slot end (a ++ b) ≡ true
begins_left slot end [] b e = absurd (false≢true e)
begins_left slot end (x ∷ []) b e = absurd (false≢true e)
begins_left slot end (x ∷ y ∷ []) b e = absurd (false≢true e)
begins_left slot end (x ∷ y ∷ z ∷ rest) b e = e

pub has_left : (slot end : ℕ) (a b : List Step) → has_loop slot end a ≡ true → has_loop slot end (a ++ b) ≡ true
has_left slot end [] b e = absurd (false≢true e)
has_left slot end (x ∷ a) b e = ⊎_elim
    (λ here. or_left (begins_loop slot end (x ∷ (a ++ b))) (has_loop slot end (a ++ b)) (begins_left slot end (x ∷ a) b here))
    (λ later. or_right (begins_loop slot end (x ∷ (a ++ b))) (has_loop slot end (a ++ b)) (has_left slot end a b later))
    (or_cases (begins_loop slot end (x ∷ a)) (has_loop slot end a) e)

pub has_right : (slot end : ℕ) (a b : List Step) → has_loop slot end b ≡ true → has_loop slot end (a ++ b) ≡ true
has_right slot end [] b e = e
has_right slot end (x ∷ a) b e = or_right (begins_loop slot end (x ∷ (a ++ b))) (has_loop slot end (a ++ b)) (has_right slot end a b e)

-- What resumes in code with more loops.

abbrev HasMore : List Step → List Step → Type 0
HasMore a b = (slot end : ℕ) → has_loop slot end a ≡ true → has_loop slot end b ≡ true

to_more : (a b : List Step) → HasMore a b → (slot : ℕ) (o : Option ℕ) → loop_to a slot o ≡ true → loop_to b slot o ≡ true
to_more a b more slot None e = e
to_more a b more slot (Some end) e = more slot end e

before_more : (a b : List Step) → HasMore a b → (slot : ℕ) (rest : List Step) → loop_before a slot rest ≡ true → loop_before b slot rest ≡ true
before_more a b more slot [] e = e
before_more a b more slot (x ∷ rest) e = to_more a b more slot (label_of x) e

ends_more : (a b : List Step) → HasMore a b → (o : Option ℕ) (rest : List Step) → ends_loop a o rest ≡ true → ends_loop b o rest ≡ true
ends_more a b more None rest e = refl
ends_more a b more (Some slot) rest e = before_more a b more slot rest e

pub loops_more : (a b : List Step) → HasMore a b → (rest : List Step) → are_loops a rest ≡ true → are_loops b rest ≡ true
loops_more a b more [] e = refl
loops_more a b more (x ∷ rest) e =
    let parts = and_parts (ends_loop a (resumed_slot x) rest) (are_loops a rest) e in
    and_from (ends_loop b (resumed_slot x) rest) (are_loops b rest) (ends_more a b more (resumed_slot x) rest parts.0) (loops_more a b more rest parts.1)

-- More places after those.

ends_longer : (code : List Step) (o : Option ℕ) (xs ys : List Step) → ends_loop code o xs ≡ true → ends_loop code o (xs ++ ys) ≡ true
ends_longer code None xs ys e = refl
ends_longer code (Some slot) [] ys e = absurd (false≢true e)
ends_longer code (Some slot) (x ∷ xs) ys e = e

pub loops_longer : (code xs ys : List Step) → are_loops code xs ≡ true → are_loops code ys ≡ true → are_loops code (xs ++ ys) ≡ true
loops_longer code [] ys e f = f
loops_longer code (x ∷ xs) ys e f =
    let parts = and_parts (ends_loop code (resumed_slot x) xs) (are_loops code xs) e in
    and_from (ends_loop code (resumed_slot x) (xs ++ ys)) (are_loops code (xs ++ ys)) (ends_longer code (resumed_slot x) xs ys parts.0) (loops_longer code xs ys parts.1 f)

pub loops_both : (a b : List Step) → are_loops a a ≡ true → are_loops b b ≡ true → are_loops (a ++ b) (a ++ b) ≡ true
loops_both a b e f =
    loops_longer (a ++ b) a b
    (loops_more a (a ++ b) (λ slot end h. has_left slot end a b h) a e)
    (loops_more b (a ++ b) (λ slot end h. has_right slot end a b h) b f)
