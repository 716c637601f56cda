-- Labels that are each placed once, and have the numbers below a number: there are so many.
use Rattle.std.proofs.Common.{◌≡◌, ℕ, zero, suc, ◌+◌, ◌<◌, ◌≤◌, List, [], ◌∷◌, ◌++◌, length, Bool, true, Option, Some, None, nat_lt, refl, sym, ◌∙◌, ap, ⊎_elim, arith, lt-ltb}
use Rattle.std.specs.List.{list_all}
use Rattle.std.specs.Option.{option_to_list}
use Rattle.std.proofs.lemmas.Bool.{and_from, cases_lt}
use Rattle.std.proofs.lemmas.List.Concat.{flat_map-cons}
use Rattle.clu_frames.specs.Plain.{Step}
use Rattle.clu_frames.specs.Labels.{are_numbered, label_of, labels_of}
use Rattle.clu_frames.proofs.Placing.{below, below_is, below_of, hit, hit_other, hit_same, hit_within, hits, times}

pub labels_cons : (step : Step) (code : List Step) → labels_of (step ∷ code) ≡ option_to_list (label_of step) ++ labels_of code
labels_cons step code = flat_map-cons (λ (s : Step). option_to_list (label_of s)) step code

-- the sum over the numbers below one
abbrev total : ℕ → (ℕ → ℕ) → ℕ
total zero f = 0
total (suc h) f = total h f + f h

total_same : (h : ℕ) (f g : ℕ → ℕ) → ((n : ℕ) → f n ≡ g n) → total h f ≡ total h g
total_same zero f g same = refl
total_same (suc h) f g same = omega (arith, total_same h f g same, same h)

total_plus : (h : ℕ) (f g : ℕ → ℕ) → total h (λ n. f n + g n) ≡ total h f + total h g
total_plus zero f g = omega arith
total_plus (suc h) f g = omega (arith, total_plus h f g)

total_none : (h : ℕ) → total h (λ n. 0) ≡ 0
total_none zero = refl
total_none (suc h) = omega (arith, total_none h)

total_below : (labels h : ℕ) → h ≤ labels → total h (below labels) ≡ h
total_below labels zero le = refl
total_below labels (suc h) le = omega (arith, total_below labels h (omega (arith, le)), below_is labels h (omega (arith, le)))

total_before : (label h : ℕ) → h ≤ label → total h (hit label) ≡ 0
total_before label zero le = refl
total_before label (suc h) le = omega (arith, total_before label h (omega (arith, le)), hit_other label h (λ is. omega (arith, is, le)))

total_hit : (label h : ℕ) → total h (hit label) ≤ 1
total_hit label zero = omega arith
total_hit label (suc h) = ⊎_elim
    (λ lt. omega (arith, total_hit label h, hit_other label h (λ is. omega (arith, is, lt))))
    (λ ge. omega (arith, total_before label h ge, hit_within label h))
    (cases_lt label h)

total_at : (h : ℕ) (o : Option ℕ) (labels : List ℕ) → total h (λ n. hits n o) + length labels ≤ length (option_to_list o ++ labels)
total_at h None labels = let none : total h (λ n. hits n None) ≡ 0 = total_none h in omega (arith, none)
total_at h (Some label) labels = let most : total h (λ n. hits n (Some label)) ≤ 1 = total_hit label h in omega (arith, most)

total_times : (h : ℕ) (code : List Step) → total h (λ n. times n code) ≤ length (labels_of code)
total_times h [] = let none : total h (λ n. times n []) ≡ 0 = total_none h in omega (arith, none)
total_times h (step ∷ code) =
    let both : total h (λ n. times n (step ∷ code)) ≡ total h (λ n. hits n (label_of step)) + total h (λ n. times n code) =
    total_plus h (λ n. hits n (label_of step)) (λ n. times n code) in
    omega (arith, both, total_times h code, total_at h (label_of step) (labels_of code), ap {B = ℕ} length (labels_cons step code))

all_below : (count : ℕ) (code : List Step) → ((n : ℕ) → 1 ≤ times n code → n < count) → list_all (λ (n : ℕ). nat_lt n count) (labels_of code) ≡ true
all_below count [] low = refl
all_below count (step ∷ code) low =
    ap (list_all (λ (n : ℕ). nat_lt n count)) (labels_cons step code)
    ∙ one (label_of step) (λ n more. low n more) (all_below count code (λ n more. low n (omega (arith, more))))
  where
    one : (o : Option ℕ) → ((n : ℕ) → 1 ≤ hits n o + times n code → n < count) → list_all (λ (n : ℕ). nat_lt n count) (labels_of code) ≡ true
        → list_all (λ (n : ℕ). nat_lt n count) (option_to_list o ++ labels_of code) ≡ true
    one None low rest = rest
    one (Some label) low rest =
        and_from (nat_lt label count) (list_all (λ (n : ℕ). nat_lt n count) (labels_of code))
        (lt-ltb label count (low label (omega (arith, hit_same label)))) rest

pub numbered_of : (labels : ℕ) (code : List Step) → ((n : ℕ) → times n code ≡ below labels n) → are_numbered (labels_of code) ≡ true
numbered_of labels code counted =
    let same : total labels (λ n. times n code) ≡ total labels (below labels) = total_same labels (λ n. times n code) (below labels) counted in
    let many : labels ≤ length (labels_of code) = omega (arith, same, total_below labels labels (omega arith), total_times labels code) in
    all_below (length (labels_of code)) code
    (λ n more. let lt : n < labels = below_of labels n (let is = counted n in omega (arith, is, more)) in omega (arith, lt, many))
