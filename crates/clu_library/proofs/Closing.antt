-- The list of the modules on which a body rests, as it grows.
use Rattle.std.proofs.Common.{◌≡◌, ◌≢◌, ◌⊎◌, inl, inr, ℕ, ◌<◌, ◌≤◌, ◌+◌, zero, suc, List, [], ◌∷◌, ◌++◌, ◌||◌, Bool, true, false, cond, Contains, length, fold, take, get_or, slice_get, Option, Some, None, refl, sym, subst, ap, ◌∙◌, true≢false, append_assoc, arith}
use Rattle.std.specs.List.{list_any, filter_map}
use Rattle.std.specs.Str.{bytes_eq}
use Rattle.std.proofs.lemmas.List.{append-nil}
use Rattle.std.proofs.lemmas.List.Elements.{Contains-append_left, Contains-append_right, Contains-append_cases, Contains-push, Contains-push_cases}
use Rattle.std.proofs.lemmas.List.Folds.{list_any_at}
use Rattle.std.proofs.lemmas.Option.{get_or_from_slice_get, slice_get-get_or, slice_get_within}
use Rattle.std.proofs.lemmas.Slice.Eq.{bytes_eq-Decides}
use borrow.Author.Tests.{ltb-true, ltb-false}
use Rattle.std.proofs.Math.Dec.{ltb}
use Rattle.indexmap.proofs.CallerLemmas.{Contains-list_any}
use Rattle.clu_base.proofs.Lists.{same_bytes, front_of}
use Rattle.clu_types.specs.declared.spec.Spec.{Spec}
use Rattle.clu_library.specs.Growing.{with_name, named_at}
use Rattle.clu_library.specs.Resting.{named_by, IsWay, RestsOn, IsClosure}

-- how a list changes with one name
module _ (own : List ℕ) (found : List (List ℕ)) (name : List ℕ) where
  -- it has the same names in front
  pub with_front : (more : List (List ℕ)) × (with_name own found name ≡ found ++ more)
  with_front = by (bytes_eq name own || list_any (bytes_eq name) found)
    where
      by : (b : Bool) → (more : List (List ℕ)) × (cond b found (found ++ name ∷ []) ≡ found ++ more)
      by true = ([], sym (append-nil found))
      by false = (name ∷ [], refl)

  -- it has the name
  pub with_here : name ≢ own → Contains (with_name own found name) name
  with_here other = by (bytes_eq name own) refl (list_any (bytes_eq name) found) refl
    where
      by : (a : Bool) → bytes_eq name own ≡ a → (b : Bool) → list_any (bytes_eq name) found ≡ b → Contains (cond (a || b) found (found ++ name ∷ [])) name
      by true e b f = absurd (other (same_bytes name own e))
      by false e true f = Contains-list_any bytes_eq same_bytes found name f
      by false e false f = Contains-push found name

  -- and no other than before
  pub with_from : (m : List ℕ) → Contains (with_name own found name) m → Contains found m ⊎ ((m ≢ own) × (name ≡ m))
  with_from m = by (bytes_eq name own) refl (list_any (bytes_eq name) found)
    where
      apart : bytes_eq name own ≡ false → name ≡ m → m ≢ own
      apart e is also = true≢false (sym ((bytes_eq-Decides name own).1 (is ∙ also)) ∙ e)

      last : bytes_eq name own ≡ false → Contains found m ⊎ (name ≡ m) → Contains found m ⊎ ((m ≢ own) × (name ≡ m))
      last e (inl h) = inl h
      last e (inr h) = inr (apart e h, h)

      by : (a : Bool) → bytes_eq name own ≡ a → (b : Bool) → Contains (cond (a || b) found (found ++ name ∷ [])) m → Contains found m ⊎ ((m ≢ own) × (name ≡ m))
      by true e b h = inl h
      by false e true h = inl h
      by false e false h = last e (Contains-push_cases found name m h)

-- and with many
pub all_front : (own : List ℕ) (found names : List (List ℕ)) → (more : List (List ℕ)) × (fold (with_name own) found names ≡ found ++ more)
all_front own found [] = ([], sym (append-nil found))
all_front own found (n ∷ ns) = both (with_front own found n) (all_front own (with_name own found n) ns)
  where
    both : (more : List (List ℕ)) × (with_name own found n ≡ found ++ more) → (more : List (List ℕ)) × (fold (with_name own) (with_name own found n) ns ≡ with_name own found n ++ more)
        → (more : List (List ℕ)) × (fold (with_name own) (with_name own found n) ns ≡ found ++ more)
    both a b = (a.0 ++ b.0, b.1 ∙ ap (λ (xs : List (List ℕ)). xs ++ b.0) a.1 ∙ append_assoc found a.0 b.0)

pub all_kept : (own : List ℕ) (found names : List (List ℕ)) (m : List ℕ) → Contains found m → Contains (fold (with_name own) found names) m
all_kept own found names m h =
    let front = all_front own found names in
    let P : List (List ℕ) → Type 0 = λ xs. Contains xs m in
    subst P (sym front.1) (Contains-append_left found front.0 m h)

-- a list with items has the first or one of the others
head_or_tail : (x : List ℕ) (xs : List (List ℕ)) (m : List ℕ) → Contains (x ∷ xs) m → (x ≡ m) ⊎ Contains xs m
head_or_tail x xs m h = by h.0 h.1 h.2
  where
    by : (k : ℕ) → k < length (x ∷ xs) → get_or (x ∷ xs) k m ≡ m → (x ≡ m) ⊎ Contains xs m
    by zero lt is = inl is
    by (suc k) lt is = inr (k, omega arith, is)

in_tail : (x : List ℕ) (xs : List (List ℕ)) (m : List ℕ) → Contains xs m → Contains (x ∷ xs) m
in_tail x xs m h = Contains-append_right (x ∷ []) xs m h

pub all_here : (own : List ℕ) (found names : List (List ℕ)) (m : List ℕ) → m ≢ own → Contains names m → Contains (fold (with_name own) found names) m
all_here own found [] m other h = absurd (omega (arith, h.1))
all_here own found (n ∷ ns) m other h = by (head_or_tail n ns m h) (all_here own (with_name own found n) ns m other)
  where
    by : (n ≡ m) ⊎ Contains ns m → (Contains ns m → Contains (fold (with_name own) (with_name own found n) ns) m) → Contains (fold (with_name own) (with_name own found n) ns) m
    by (inl is) further =
        let P : List ℕ → Type 0 = λ x. Contains (with_name own found n) x in
        all_kept own (with_name own found n) ns m (subst P is (with_here own found n (λ e. other (sym is ∙ e))))
    by (inr there) further = further there

pub all_from : (own : List ℕ) (found names : List (List ℕ)) (m : List ℕ) → Contains (fold (with_name own) found names) m → Contains found m ⊎ ((m ≢ own) × Contains names m)
all_from own found [] m h = inl h
all_from own found (n ∷ ns) m h = by (all_from own (with_name own found n) ns m h)
  where
    first : Contains found m ⊎ ((m ≢ own) × (n ≡ m)) → Contains found m ⊎ ((m ≢ own) × Contains (n ∷ ns) m)
    first (inl there) = inl there
    first (inr here) = inr (here.0, (0, omega arith, here.1))

    by : Contains (with_name own found n) m ⊎ ((m ≢ own) × Contains ns m) → Contains found m ⊎ ((m ≢ own) × Contains (n ∷ ns) m)
    by (inl there) = first (with_from own found n m there)
    by (inr here) = inr (here.0, in_tail n ns m here.1)

-- the modules that were found, when the specifications of the first n of them were looked at
pub record Reaching (specs : List Spec) (own : List ℕ) (start found : List (List ℕ)) (n : ℕ) : Type 0 where
  pub few : n ≤ 9223372036854775808
  pub kept : (m : List ℕ) → Contains start m → Contains found m
  pub rests : (m : List ℕ) → Contains found m → (way : List (List ℕ)) × IsWay specs own start m way
  pub closed : (k : ℕ) (before : List ℕ) → k < n → slice_get found k ≡ Some before → (m : List ℕ) → m ≢ own → Contains (named_by specs before) m → Contains found m

pub reaching_first : (specs : List Spec) (own : List ℕ) (start : List (List ℕ)) → ((m : List ℕ) → Contains start m → m ≢ own) → Reaching specs own start start 0
reaching_first specs own start others = record {
  few = omega arith;
  kept = λ m h. h;
  rests = λ m h. ([], (others m h, h));
  closed = λ k before lt. absurd (omega arith);
}

-- the place of what a list has
place_in : (xs : List (List ℕ)) (m : List ℕ) → Contains xs m → (k : ℕ) × (k < length xs) × (slice_get xs k ≡ Some m)
place_in xs m h = (h.0, h.1, slice_get-get_or xs h.0 m h.1 ∙ ap Some h.2)

some_at : (xs : List (List ℕ)) (n : ℕ) → n < length xs → (x : List ℕ) × (slice_get xs n ≡ Some x)
some_at [] n lt = absurd (omega arith)
some_at (x ∷ xs) zero lt = (x, refl)
some_at (x ∷ xs) (suc n) lt = some_at xs n (omega arith)

module _ (specs : List Spec) (own : List ℕ) (start found : List (List ℕ)) (n : ℕ) where
  -- one more was looked at
  pub reaching_more : Reaching specs own start found n → n < length found → n < 9223372036854775808 → (new : List (List ℕ))
      → new ≡ fold (with_name own) found (named_at specs (slice_get found n)) → Reaching specs own start new (n + 1)
  reaching_more r lt small new is = subst (λ (xs : List (List ℕ)). Reaching specs own start xs (n + 1)) (sym is) at_all
    where
      here : (x : List ℕ) × (slice_get found n ≡ Some x)
      here = some_at found n lt

      seen : named_at specs (slice_get found n) ≡ named_by specs here.0
      seen = ap (named_at specs) here.1

      at_all : Reaching specs own start (fold (with_name own) found (named_at specs (slice_get found n))) (n + 1)
      at_all = record {
        few = omega arith;
        kept = λ m h. all_kept own found (named_at specs (slice_get found n)) m (r.kept m h);
        rests = λ m h. way m (all_from own found (named_at specs (slice_get found n)) m h);
        closed = λ k before less at m other named. closes k before less at m other named;
      }
        where
          way : (m : List ℕ) → Contains found m ⊎ ((m ≢ own) × Contains (named_at specs (slice_get found n)) m) → (way : List (List ℕ)) × IsWay specs own start m way
          way m (inl there) = r.rests m there
          way m (inr step) =
              let P : List (List ℕ) → Type 0 = λ xs. Contains xs m in
              let before = r.rests here.0 (held here.0 (slice_get_within found n here.0 here.1) here.1) in
              (here.0 ∷ before.0, (step.0, subst P seen step.1, before.1))
            where
              held : (x : List ℕ) → n < length found → slice_get found n ≡ Some x → Contains found x
              held x less at = (n, less, get_or_from_slice_get found n x x at)

          closes : (k : ℕ) (before : List ℕ) → k < n + 1 → slice_get (fold (with_name own) found (named_at specs (slice_get found n))) k ≡ Some before → (m : List ℕ) → m ≢ own → Contains (named_by specs before) m
              → Contains (fold (with_name own) found (named_at specs (slice_get found n))) m
          closes k before less at m other named = by (ltb k n) refl
            where
              front : (more : List (List ℕ)) × (fold (with_name own) found (named_at specs (slice_get found n)) ≡ found ++ more)
              front = all_front own found (named_at specs (slice_get found n))

              earlier : slice_get found k ≡ Some before
              earlier = front_of found front.0 k before (omega arith) (sym (ap (λ (xs : List (List ℕ)). slice_get xs k) front.1) ∙ at)

              by : (b : Bool) → ltb k n ≡ b → Contains (fold (with_name own) found (named_at specs (slice_get found n))) m
              by true e = all_kept own found (named_at specs (slice_get found n)) m (r.closed k before (omega (arith, ltb-true)) earlier m other named)
              by false e =
                  let last : k ≡ n = omega (arith, ltb-false) in
                  let P : List (List ℕ) → Type 0 = λ xs. Contains xs m in
                  all_here own found (named_at specs (slice_get found n)) m other (subst P (sym (ap (named_at specs) (sym (ap (slice_get found) last) ∙ earlier))) named)

-- nothing is left to be looked at
pub reaching_all : (specs : List Spec) (own : List ℕ) (start found : List (List ℕ)) (n : ℕ) → Reaching specs own start found n → length found ≤ n → IsClosure specs own start found
reaching_all specs own start found n r le = record { rests = r.rests; all = λ m h. at_end m h.0 h.1 }
  where
    at_end : (m : List ℕ) (way : List (List ℕ)) → IsWay specs own start m way → Contains found m
    at_end m [] h = r.kept m h.1
    at_end m (before ∷ way) h =
        let there = place_in found before (at_end before way h.2) in
        r.closed there.0 before (omega (arith, there.1)) there.2 m h.0 h.1

-- where none is the own one the names themselves were found first
closure_of_names : (specs : List Spec) (own : List ℕ) (names found : List (List ℕ)) → IsClosure specs own (fold (with_name own) [] names) found → IsClosure specs own names found
closure_of_names specs own names found c = record { rests = λ m h. rest m (c.rests m h); all = λ m h. c.all m (h.0, there m h.0 h.1) }
  where
    none : (m : List ℕ) → Contains [] m → ⊥
    none m h = omega (arith, h.1)

    of_names : (m : List ℕ) → Contains (fold (with_name own) [] names) m → Contains names m
    of_names m h = elim (all_from own [] names m h) [ inl never ↦ absurd (none m never) | inr really ↦ really.1 ]

    back : (m : List ℕ) (way : List (List ℕ)) → IsWay specs own (fold (with_name own) [] names) m way → IsWay specs own names m way
    back m [] h = (h.0, of_names m h.1)
    back m (before ∷ way) h = (h.0, h.1, back before way h.2)

    rest : (m : List ℕ) → (way : List (List ℕ)) × IsWay specs own (fold (with_name own) [] names) m way → (way : List (List ℕ)) × IsWay specs own names m way
    rest m h = (h.0, back m h.0 h.1)

    there : (m : List ℕ) (way : List (List ℕ)) → IsWay specs own names m way → IsWay specs own (fold (with_name own) [] names) m way
    there m [] h = (h.0, all_here own [] names m h.0 h.1)
    there m (before ∷ way) h = (h.0, h.1, there before way h.2)

-- none of the names that were found first is the own one
none_own : (own : List ℕ) (names : List (List ℕ)) (m : List ℕ) → Contains (fold (with_name own) [] names) m → m ≢ own
none_own own names m h = elim (all_from own [] names m h) [ inl never ↦ absurd (none never) | inr really ↦ really.0 ]
  where
    none : Contains [] m → ⊥
    none h = omega (arith, h.1)

module _ (own : List ℕ) (names old start : List (List ℕ)) (empty : old ≡ []) (added : start ≡ fold (with_name own) old names) where
  begins : start ≡ fold (with_name own) [] names
  begins = added ∙ ap (λ (xs : List (List ℕ)). fold (with_name own) xs names) empty

  pub start_other : (m : List ℕ) → Contains start m → m ≢ own
  start_other m h = let P : List (List ℕ) → Type 0 = λ xs. Contains xs m in none_own own names m (subst P begins h)

  pub closure_from_start : (specs : List Spec) (found : List (List ℕ)) → IsClosure specs own start found → IsClosure specs own names found
  closure_from_start specs found h = let P : List (List ℕ) → Type 0 = λ xs. IsClosure specs own xs found in closure_of_names specs own names found (subst P begins h)

pub ruleset closings = (start_other, closure_from_start)

pub ruleset reachings = (reaching_first, reaching_more, reaching_all)

-- what a list has is found in it
pub listed : (xs : List (List ℕ)) (m : List ℕ) → Contains xs m → list_any (bytes_eq m) xs ≡ true
listed xs m h = list_any_at (bytes_eq m) xs h.0 m h.1 ((bytes_eq-Decides m (get_or xs h.0 m)).1 (sym h.2))
