-- The code of a routine is flat.
use Rattle.std.proofs.Common.{◌≡◌, ◌⊎◌, ℕ, ◌+◌, ◌<◌, ◌≤◌, ◌^◌, ◌==◌, ◌&&◌, ◌||◌, List, [], ◌∷◌, ◌++◌, length, map, Bool, true, false, not, Option, Some, None, refl, sym, ◌∙◌, ap, subst, ⊎_elim, arith}
use Rattle.std.specs.List.{list_all}
use Rattle.std.specs.Option.{option_to_list}
use Rattle.std.proofs.lemmas.Bool.{and_from, not_from_false, or_from, or_left, or_right}
use Rattle.clu_wir.specs.declared.routine.WRoutine.{WRoutine}
use Rattle.std.proofs.lemmas.List.{length-map}
use Rattle.clu_base.specs.declared.constants.ObjConst.{ObjConst}
use Rattle.clu_wir.specs.Plain.{Stmts, body_of}
use Rattle.clu_frames.specs.declared.flat.Flat.{Flat}
use Rattle.clu_frames.specs.Plain.{Step, plain_code, step_of}
use Rattle.clu_frames.specs.Plain as flat
use Rattle.clu_frames.specs.Flattening.{Made, all_onto, begun, outermost, routine_onto, steps_of}
use Rattle.clu_frames.specs.Labels.{IsFlat, are_loops, are_numbered, at_last, differ, goes_on, is_among, is_known, label_of, labels_of, names_one, target_of}
use Rattle.clu_frames.proofs.Laws.{LawAt, all_lawful}
use Rattle.clu_frames.proofs.Placing.{Adds, AllNamed, Names, adds_on, adds_step, below, below_is, below_none, below_within, hit, hit_not, hit_same, hits, no_label, not_hit, times}
use Rattle.clu_frames.proofs.Numbering.{labels_cons, numbered_of}
use Rattle.clu_frames.proofs.Pieces.{InGuards, InRange, InTurns, Known}

-- Labels by how often they are placed.

not_among_at : (o : Option ℕ) (code : List Step) (n : ℕ) → hits n o + times n code ≡ 0 → is_among n (labels_of code) ≡ false → is_among n (option_to_list o ++ labels_of code) ≡ false
not_among_at None code n e rest = rest
not_among_at (Some label) code n e rest = or_from (label == n) (is_among n (labels_of code)) (not_hit label n (omega (arith, e))) rest

not_among : (code : List Step) (n : ℕ) → times n code ≡ 0 → is_among n (labels_of code) ≡ false
not_among [] n e = refl
not_among (step ∷ code) n e =
    ap (is_among n) (labels_cons step code) ∙ not_among_at (label_of step) code n e (not_among code n (omega (arith, e)))

differ_at : (o : Option ℕ) (code : List Step) → ((n : ℕ) → hits n o + times n code ≤ 1) → differ (labels_of code) ≡ true → differ (option_to_list o ++ labels_of code) ≡ true
differ_at None code once rest = rest
differ_at (Some label) code once rest =
    let zero_times : times label code ≡ 0 = omega (arith, once label, hit_same label) in
    and_from (not (is_among label (labels_of code))) (differ (labels_of code)) (not_from_false (is_among label (labels_of code)) (not_among code label zero_times)) rest

differ_of : (code : List Step) → ((n : ℕ) → times n code ≤ 1) → differ (labels_of code) ≡ true
differ_of [] once = refl
differ_of (step ∷ code) once =
    ap differ (labels_cons step code) ∙ differ_at (label_of step) code once (differ_of code (λ n. omega (arith, once n)))

among_test : (label n : ℕ) (test : Bool) (rest : Bool) (k : ℕ) → (label == n) ≡ test → 1 ≤ hit label n + k → (1 ≤ k → rest ≡ true) → ((label == n) || rest) ≡ true
among_test label n true rest k e more later = or_left (label == n) rest e
among_test label n false rest k e more later = or_right (label == n) rest (later (omega (arith, more, hit_not label n e)))

among_at : (o : Option ℕ) (code : List Step) (n : ℕ) → 1 ≤ hits n o + times n code → (1 ≤ times n code → is_among n (labels_of code) ≡ true) → is_among n (option_to_list o ++ labels_of code) ≡ true
among_at None code n more later = later (omega (arith, more))
among_at (Some label) code n more later = among_test label n (label == n) (is_among n (labels_of code)) (times n code) refl more later

among_of : (code : List Step) (n : ℕ) → 1 ≤ times n code → is_among n (labels_of code) ≡ true
among_of [] n more = absurd (omega (arith, more))
among_of (step ∷ code) n more = ap (is_among n) (labels_cons step code) ∙ among_at (label_of step) code n more (λ h. among_of code n h)

known_at : (P : ℕ → Type 0) (labels : List ℕ) → ((t : ℕ) → P t → is_among t labels ≡ true) → (o : Option ℕ) → Names P o → names_one labels o ≡ true
known_at P labels is None x = refl
known_at P labels is (Some t) x = is t x

known_all : (P : ℕ → Type 0) (labels : List ℕ) → ((t : ℕ) → P t → is_among t labels ≡ true) → (code : List Step) → AllNamed P code → list_all (is_known labels) code ≡ true
known_all P labels is [] x = refl
known_all P labels is (step ∷ code) x =
    and_from (is_known labels step) (list_all (is_known labels) code) (known_at P labels is (target_of step) x.0) (known_all P labels is code x.1)

last_push : {X : Type 0} (test : X → Bool) (front : List X) (x : X) → at_last test (front ++ x ∷ []) ≡ test x
last_push test [] x = refl
last_push test (y ∷ []) x = refl
last_push test (y ∷ z ∷ front) x = last_push test (z ∷ front) x

-- The whole.

record Facts (code : List Step) : Type 0 where
  labels : differ (labels_of code) ≡ true
  numbered : are_numbered (labels_of code) ≡ true
  names : list_all (is_known (labels_of code)) code ≡ true
  ends : at_last (λ (s : Step). not (goes_on s)) code ≡ true
  loops : are_loops code code ≡ true

facts_flat : (code : List Step) → length code < 2 ^ 32 → Facts code → IsFlat code
facts_flat code few f = record { few = few; labels = f.labels; numbered = f.numbered; names = f.names; ends = f.ends; loops = f.loops }

module _ (constants : List ObjConst) (args slots : ℕ) (body : Stmts) where
  abbrev inner : Made
  inner = all_onto body (outermost constants slots) (begun args)

  abbrev Inside : ℕ → Type 0
  Inside t = Known (outermost constants slots) 0 inner.labels t

  facts : Facts (routine_onto constants body args slots).code
  facts =
      let g : LawAt (all_onto body) (outermost constants slots) (begun args) = all_lawful body (outermost constants slots) (begun args) in
      let whole : Adds Inside (λ n. no_label n + (g.count n + no_label n)) [] (routine_onto constants body args slots).code =
      adds_on (adds_step Inside (flat.Enter args) [] refl tt refl) (adds_on g.adds (adds_step Inside (flat.Leave slots 0) inner.code refl tt refl)) in
      let counted : (n : ℕ) → times n whole.added ≡ below inner.labels n = λ n.
      let one : g.count n + below 0 n ≡ below inner.labels n = g.placed n in
      let start = below_none n in
      let all : times n whole.added ≡ no_label n + (g.count n + no_label n) = whole.placed n in
      omega (arith, one, start, all) in
      let placed : (t : ℕ) → t < inner.labels → is_among t (labels_of whole.added) ≡ true = λ t lt.
      among_of whole.added t (let is = counted t in let one = below_is inner.labels t lt in omega (arith, is, one)) in
      let inside : (t : ℕ) → Inside t → is_among t (labels_of whole.added) ≡ true = λ t k. ⊎_elim
      (λ (r : InRange 0 inner.labels t). placed t r.1)
      (λ (o : InTurns None t ⊎ InGuards [] t). absurd (⊎_elim (λ (h : ⊥). h) (λ (h : ⊥). h) o))
      k in
      subst Facts (sym whole.code) (record {
        labels = differ_of whole.added (λ n. let is = counted n in let within = below_within inner.labels n in omega (arith, is, within));
        numbered = numbered_of inner.labels whole.added counted;
        names = known_all Inside (labels_of whole.added) inside whole.added whole.named;
        ends = ap (at_last (λ (s : Step). not (goes_on s))) (sym whole.code) ∙ last_push (λ (s : Step). not (goes_on s)) inner.code (flat.Leave slots 0);
        loops = whole.loops;
      })

pub routine_flat : (r : WRoutine) (code : List Flat) → plain_code code ≡ steps_of r → length code < 2 ^ 32 → IsFlat (plain_code code)
routine_flat r code e few =
    facts_flat (plain_code code) (subst (λ (n : ℕ). n < 2 ^ 32) (sym (length-map code step_of)) few)
    (subst Facts (sym e) (facts r.constants.items r.args r.slots (body_of r.body.items)))
