-- The names of the clusters among types, one type after the other.
use Rattle.std.proofs.Common.{◌≡◌, ◌&&◌, ◌||◌, ◌+◌, ◌≤◌, ℕ, List, [], Bool, true, false, fold, drop, length, slice_get, Option, Some, None, sym, ap, ◌∙◌, true≢false}
use Rattle.std.proofs.Math.Dec.{leb}
use Rattle.std.specs.List.{cons_option, filter_map, list_all, list_any}
use Rattle.std.proofs.lemmas.List.{drop_all}
use Rattle.clu_base.proofs.Lists.{dropped}
use Rattle.clu_types.specs.declared.term.Term.{Term}
use Rattle.clu_library.specs.Bounds.{at_most}
use Rattle.clu_library.specs.Growing.{with_name}
use Rattle.clu_library.specs.Resting.{cluster_name}

named_left : (types : List Term) (n : ℕ) (t : Term) → slice_get types n ≡ Some t → filter_map cluster_name (drop n types) ≡ cons_option (cluster_name t) (filter_map cluster_name (drop (n + 1) types))
named_left types n t at = ap (filter_map cluster_name) (dropped types n t at)

-- one more is added to a list
pub term_added : (own : List ℕ) (types : List Term) (n : ℕ) (t : Term) (found new start : List (List ℕ)) → slice_get types n ≡ Some t → new ≡ fold (with_name own) found (cons_option (cluster_name t) [])
    → fold (with_name own) found (filter_map cluster_name (drop n types)) ≡ start → fold (with_name own) new (filter_map cluster_name (drop (n + 1) types)) ≡ start
term_added own types n t found new start at made whole = by (cluster_name t) made (sym (ap (fold (with_name own) found) (named_left types n t at)) ∙ whole)
  where
    by : (o : Option (List ℕ)) → new ≡ fold (with_name own) found (cons_option o []) → fold (with_name own) found (cons_option o (filter_map cluster_name (drop (n + 1) types))) ≡ start
        → fold (with_name own) new (filter_map cluster_name (drop (n + 1) types)) ≡ start
    by None made whole = ap (λ (xs : List (List ℕ)). fold (with_name own) xs (filter_map cluster_name (drop (n + 1) types))) made ∙ whole
    by (Some name) made whole = ap (λ (xs : List (List ℕ)). fold (with_name own) xs (filter_map cluster_name (drop (n + 1) types))) made ∙ whole

pub all_added : (own : List ℕ) (types : List Term) (n : ℕ) (found start : List (List ℕ)) → length types ≤ n → fold (with_name own) found (filter_map cluster_name (drop n types)) ≡ start → found ≡ start
all_added own types n found start le whole = sym (ap (λ (ts : List Term). fold (with_name own) found (filter_map cluster_name ts)) (drop_all n types le)) ∙ whole

pub ruleset added = (term_added, all_added)

-- one more is bounded, or isn't
module _ (bound : List ℕ → ℕ) (most : ℕ) (types : List Term) (n : ℕ) (start : Bool) where
  pub term_bounded : (t : Term) → slice_get types n ≡ Some t → at_most bound most (cons_option (cluster_name t) []) ≡ true → at_most bound most (filter_map cluster_name (drop n types)) ≡ start
      → at_most bound most (filter_map cluster_name (drop (n + 1) types)) ≡ start
  term_bounded t at passes whole = by (cluster_name t) passes (sym (ap (at_most bound most) (named_left types n t at)) ∙ whole)
    where
      further : (a b : Bool) → (a && true) ≡ true → (a && b) ≡ start → b ≡ start
      further true b e f = f
      further false b e f = absurd (true≢false (sym e))

      by : (o : Option (List ℕ)) → at_most bound most (cons_option o []) ≡ true → at_most bound most (cons_option o (filter_map cluster_name (drop (n + 1) types))) ≡ start
          → at_most bound most (filter_map cluster_name (drop (n + 1) types)) ≡ start
      by None e f = f
      by (Some name) e f = further (leb (bound name) most) (at_most bound most (filter_map cluster_name (drop (n + 1) types))) e f

  pub term_above : (t : Term) → slice_get types n ≡ Some t → at_most bound most (cons_option (cluster_name t) []) ≡ false → at_most bound most (filter_map cluster_name (drop n types)) ≡ start → false ≡ start
  term_above t at fails whole = by (cluster_name t) fails (sym (ap (at_most bound most) (named_left types n t at)) ∙ whole)
    where
      further : (a b : Bool) → (a && true) ≡ false → (a && b) ≡ start → false ≡ start
      further true b e f = absurd (true≢false e)
      further false b e f = f

      by : (o : Option (List ℕ)) → at_most bound most (cons_option o []) ≡ false → at_most bound most (cons_option o (filter_map cluster_name (drop (n + 1) types))) ≡ start → false ≡ start
      by None e f = absurd (true≢false e)
      by (Some name) e f = further (leb (bound name) most) (at_most bound most (filter_map cluster_name (drop (n + 1) types))) e f

  pub all_bounded : length types ≤ n → at_most bound most (filter_map cluster_name (drop n types)) ≡ start → true ≡ start
  all_bounded le whole = sym (ap (λ (ts : List Term). at_most bound most (filter_map cluster_name ts)) (drop_all n types le)) ∙ whole

pub ruleset bounded = (term_bounded, term_above, all_bounded)

-- one more passes a test, or doesn't
module _ (t : List ℕ → Bool) (types : List Term) (n : ℕ) (start : Bool) where
  pub term_passes : (x : Term) → slice_get types n ≡ Some x → list_any t (cons_option (cluster_name x) []) ≡ true → list_any t (filter_map cluster_name (drop n types)) ≡ start → true ≡ start
  term_passes x at passes whole = by (cluster_name x) passes (sym (ap (list_any t) (named_left types n x at)) ∙ whole)
    where
      further : (a b : Bool) → (a || false) ≡ true → (a || b) ≡ start → true ≡ start
      further true b e f = f
      further false b e f = absurd (true≢false (sym e))

      by : (o : Option (List ℕ)) → list_any t (cons_option o []) ≡ true → list_any t (cons_option o (filter_map cluster_name (drop (n + 1) types))) ≡ start → true ≡ start
      by None e f = absurd (true≢false (sym e))
      by (Some name) e f = further (t name) (list_any t (filter_map cluster_name (drop (n + 1) types))) e f

  pub term_fails : (x : Term) → slice_get types n ≡ Some x → list_any t (cons_option (cluster_name x) []) ≡ false → list_any t (filter_map cluster_name (drop n types)) ≡ start
      → list_any t (filter_map cluster_name (drop (n + 1) types)) ≡ start
  term_fails x at fails whole = by (cluster_name x) fails (sym (ap (list_any t) (named_left types n x at)) ∙ whole)
    where
      further : (a b : Bool) → (a || false) ≡ false → (a || b) ≡ start → b ≡ start
      further true b e f = absurd (true≢false e)
      further false b e f = f

      by : (o : Option (List ℕ)) → list_any t (cons_option o []) ≡ false → list_any t (cons_option o (filter_map cluster_name (drop (n + 1) types))) ≡ start → list_any t (filter_map cluster_name (drop (n + 1) types)) ≡ start
      by None e f = f
      by (Some name) e f = further (t name) (list_any t (filter_map cluster_name (drop (n + 1) types))) e f

  pub none_passes : length types ≤ n → list_any t (filter_map cluster_name (drop n types)) ≡ start → false ≡ start
  none_passes le whole = sym (ap (λ (ts : List Term). list_any t (filter_map cluster_name ts)) (drop_all n types le)) ∙ whole

pub ruleset passing = (term_passes, term_fails, none_passes)
