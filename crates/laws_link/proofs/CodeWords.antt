-- The words of each code stand in the image.
use Rattle.std.proofs.Common.{◌≡◌, ◌∙◌, ℕ, zero, suc, ◌+◌, ◌<◌, if◌then◌else◌, List, [], ◌∷◌, ◌++◌, length, Some, slice_get, slice_set, refl, ap, sym, subst, arith}
use Rattle.std.proofs.lemmas.List.{length-append}
use Rattle.std.proofs.lemmas.Option.{same_Some, none-some}
use Rattle.clu_object.specs.declared.object.Hole.{Hole}
use Rattle.clu_object.specs.declared.object.ObjRoutine.{ObjRoutine}
use Rattle.clu_link_meaning.specs.Plan.{Plan, Code, all_of, before, words_of, first_word}
use Rattle.clu_link_meaning.specs.Bounds.{is_own}
use Rattle.laws_link.specs.Laws.{Clear}
use Rattle.clu_link_meaning.specs.Image.{filled, number_of, with_holes, routine_words, code_from, code_words}

pub set_length : {X : Type 0} (xs : List X) (n : ℕ) (x : X) → length (slice_set xs n x) ≡ length xs
set_length [] n x = refl
set_length (y ∷ ys) zero x = refl
set_length (y ∷ ys) (suc n) x = ap suc (set_length ys n x)

pub get_front : {X : Type 0} (xs ys : List X) (i : ℕ) → i < length xs → slice_get (xs ++ ys) i ≡ slice_get xs i
get_front [] ys i l = absurd (omega (arith, l))
get_front (x ∷ xs) ys zero l = refl
get_front (x ∷ xs) ys (suc i) l = get_front xs ys i (omega (arith, l))

pub get_back : {X : Type 0} (xs ys : List X) (i : ℕ) → slice_get (xs ++ ys) (length xs + i) ≡ slice_get ys i
get_back [] ys i = let z : 0 + i ≡ i = omega arith in ap (slice_get ys) z
get_back (x ∷ xs) ys i = let z : suc (length xs) + i ≡ suc (length xs + i) = omega arith in ap (slice_get (x ∷ (xs ++ ys))) z ∙ get_back xs ys i

module _ (p : Plan) where
  pub holes_length : (n : ℕ) (o : ObjRoutine) (own : ℕ) (hs : List Hole) (words : List ℕ) → length (with_holes p n o own hs words) ≡ length words
  holes_length n o own [] words = refl
  holes_length n o own (h ∷ hs) words =
      holes_length n o (if is_own h then suc own else own) hs (filled words h.at (number_of p n o own h)) ∙ set_length (slice_set words h.at _) (suc h.at) _ ∙ set_length words h.at _

  pub routine_length : (n : ℕ) (o : ObjRoutine) → length (routine_words p n o) ≡ length o.code
  routine_length n o = holes_length n o 0 o.holes o.code

  -- there are no other words
  from_length : (k : ℕ) (cs : List Code) → length (code_from p k cs) ≡ all_of words_of cs
  from_length k [] = refl
  from_length k (c ∷ cs) =
      let a : length (routine_words p k c.routine ++ code_from p (suc k) cs) ≡ length (routine_words p k c.routine) + length (code_from p (suc k) cs) = length-append (routine_words p k c.routine) (code_from p (suc k) cs) in
      let r : length (routine_words p k c.routine) ≡ words_of c = routine_length k c.routine in
      let i : length (code_from p (suc k) cs) ≡ all_of words_of cs = from_length (suc k) cs in
      omega (arith, a, r, i)

  pub code_length : length (code_words p) ≡ all_of words_of p.codes
  code_length = from_length 0 p.codes

  -- the words of the code of a number stand where the plan says
  stand_from : (k : ℕ) (cs : List Code) (n : ℕ) (c : Code) (i : ℕ) → slice_get cs n ≡ Some c → i < length c.routine.code →
      slice_get (code_from p k cs) (before words_of cs n + i) ≡ slice_get (routine_words p (k + n) c.routine) i
  stand_from k [] n c i e l = absurd (none-some c e)
  stand_from k (d ∷ ds) zero c i e l =
      let s : d ≡ c = same_Some d c e in
      let z : k + 0 ≡ k = omega arith in
      let o : 0 + i ≡ i = omega arith in
      subst (λ x. slice_get (routine_words p k d.routine ++ code_from p (suc k) ds) (0 + i) ≡ slice_get (routine_words p x c.routine) i) (sym z)
      (subst (λ x. slice_get (routine_words p k d.routine ++ code_from p (suc k) ds) (0 + i) ≡ slice_get (routine_words p k x.routine) i) s
      (ap (slice_get (routine_words p k d.routine ++ code_from p (suc k) ds)) o ∙ get_front (routine_words p k d.routine) _ i (subst (λ m. i < m) (sym (routine_length k d.routine)) (subst (λ x. i < length x.routine.code) (sym s) l))))
  stand_from k (d ∷ ds) (suc n) c i e l =
      let a : length (routine_words p k d.routine) ≡ words_of d = routine_length k d.routine in
      let b : words_of d + before words_of ds n + i ≡ length (routine_words p k d.routine) + (before words_of ds n + i) = omega (arith, a) in
      let z : suc k + n ≡ k + suc n = omega arith in
      ap (slice_get (code_from p k (d ∷ ds))) b ∙ get_back (routine_words p k d.routine) _ (before words_of ds n + i)
      ∙ stand_from (suc k) ds n c i e l ∙ ap (λ m. slice_get (routine_words p m c.routine) i) z

  pub words_stand : (n : ℕ) (c : Code) (i : ℕ) → slice_get p.codes n ≡ Some c → i < length c.routine.code →
      slice_get (code_words p) (first_word p n + i) ≡ slice_get (routine_words p n c.routine) i
  words_stand n c i e l = let z : 0 + n ≡ n = omega arith in stand_from 0 p.codes n c i e l ∙ ap (λ m. slice_get (routine_words p m c.routine) i) z

  -- ---- holes

  pub set_other : {X : Type 0} (xs : List X) (n i : ℕ) (x : X) → (n ≡ i → ⊥) → slice_get (slice_set xs n x) i ≡ slice_get xs i
  set_other [] n i x d = refl
  set_other (y ∷ ys) zero zero x d = absurd (d refl)
  set_other (y ∷ ys) zero (suc i) x d = refl
  set_other (y ∷ ys) (suc n) zero x d = refl
  set_other (y ∷ ys) (suc n) (suc i) x d = set_other ys n i x (λ e. d (ap suc e))

  clear_stays : (n : ℕ) (o : ObjRoutine) (own : ℕ) (hs : List Hole) (words : List ℕ) (i : ℕ) → Clear i hs → slice_get (with_holes p n o own hs words) i ≡ slice_get words i
  clear_stays n o own [] words i c = refl
  clear_stays n o own (h ∷ hs) words i c =
      clear_stays n o (if is_own h then suc own else own) hs (filled words h.at (number_of p n o own h)) i c.2 ∙ set_other (slice_set words h.at _) (suc h.at) i _ c.1 ∙ set_other words h.at i _ c.0

  -- such a word is that of the object: the words under holes alone differ
  pub unfilled : (n : ℕ) (c : Code) (i : ℕ) → slice_get p.codes n ≡ Some c → i < length c.routine.code → Clear i c.routine.holes →
      slice_get (code_words p) (first_word p n + i) ≡ slice_get c.routine.code i
  unfilled n c i e l clear = words_stand n c i e l ∙ clear_stays n c.routine 0 c.routine.holes c.routine.code i clear
