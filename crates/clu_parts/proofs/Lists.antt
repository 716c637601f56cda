-- Lists of children that are taken apart by their kinds, and put together again.
use Rattle.std.proofs.Common.{◌≡◌, ◌∙◌, ℕ, suc, ◌+◌, ◌-◌, ◌&&◌, Bool, true, false, if◌then◌else◌, List, [], ◌∷◌, ◌++◌, length, get_or, drop, Some, None, refl, ap, sym, subst, arith, add-one, append_assoc, append-nil}
use Rattle.std.proofs.lemmas.Bool.{true≢false}
use Rattle.std.proofs.lemmas.List.{take-append-drop}
use Rattle.clu_tree.specs.declared.node.Node.{Node}
use Rattle.clu_tree.specs.declared.node.NodeKind.{NodeKind}
use Rattle.clu_tree.specs.declared.node.NodeKind.TheVariants as kind
use Rattle.clu_grammar.specs.Kinds.{is_type}
use Rattle.clu_syntax.specs.Kinds.{kind_at}
use Rattle.clu_syntax.specs.Splits.{is_of, leading, leading_types, leading_items, run, after_run, after_one, one_of, after_option}
use Rattle.clu_parts.specs.Parts.{list_of, behind_type, body_parts, where_parts, signals_parts, heading_parts, routine_parts, results_parts, clauses_parts}
use Rattle.clu_parts.specs.Slots.{Slot, just, several, at_most_one, Stand, no_others, another, HasClauses, no_more_clauses, clause}
use Rattle.clu_parts.proofs.Fitting.{first_of, first_is, run_is, after_one_is, on_head, on_end, several_from}

pub last_of : (xs : List ℕ) (y : ℕ) → get_or (xs ++ y ∷ []) (length (xs ++ y ∷ []) - 1) 0 ≡ y
last_of [] y = refl
last_of (x ∷ xs) y = ap (λ (k : ℕ). get_or (x ∷ xs ++ y ∷ []) k 0) (longer xs) ∙ last_of xs y
  where
    longer : (xs : List ℕ) → length (x ∷ xs ++ y ∷ []) - 1 ≡ suc (length (xs ++ y ∷ []) - 1)
    longer [] = refl
    longer (z ∷ xs) = omega arith

module _ (nodes : List Node) (n : ℕ) where
  -- ---- a front, and what stands behind it

  pub run_then : (k : NodeKind) (cs xs : List ℕ) → xs ≡ after_run nodes k cs → run nodes k cs ++ xs ≡ cs
  run_then k cs xs e = ap (λ (ys : List ℕ). run nodes k cs ++ ys) e ∙ take-append-drop (leading nodes k cs) cs

  one_and_rest : (k : NodeKind) (cs : List ℕ) → list_of (one_of nodes k cs) ++ after_one nodes k cs ≡ cs
  one_and_rest k [] = refl
  one_and_rest k (c ∷ cs) = by (is_of k (kind_at nodes c))
    where
      by : (b : Bool) → list_of (if b then Some c else None) ++ (if b then cs else c ∷ cs) ≡ c ∷ cs
      by true = refl
      by false = refl

  pub one_then : (k : NodeKind) (cs xs : List ℕ) → xs ≡ after_one nodes k cs → list_of (one_of nodes k cs) ++ xs ≡ cs
  one_then k cs xs e = ap (λ (ys : List ℕ). list_of (one_of nodes k cs) ++ ys) e ∙ one_and_rest k cs

  pub type_then : (cs : List ℕ) → behind_type nodes cs ≡ cs
  type_then [] = refl
  type_then (c ∷ cs) = by (is_type (kind_at nodes c))
    where
      by : (b : Bool) → list_of (if b then Some c else None) ++ after_option (if b then Some c else None) (c ∷ cs) ≡ c ∷ cs
      by true = refl
      by false = refl

  -- ---- the parts of a routine leave out none, whatever they are

  body_whole : (cs : List ℕ) → body_parts nodes cs ≡ cs
  body_whole cs =
      append_assoc (run nodes kind.Equate cs) (run nodes kind.Own (after_run nodes kind.Equate cs)) (after_run nodes kind.Own (after_run nodes kind.Equate cs))
      ∙ run_then kind.Equate cs (run nodes kind.Own (after_run nodes kind.Equate cs) ++ after_run nodes kind.Own (after_run nodes kind.Equate cs)) (take-append-drop (leading nodes kind.Own (after_run nodes kind.Equate cs)) (after_run nodes kind.Equate cs))

  where_whole : (cs : List ℕ) → where_parts nodes cs ≡ cs
  where_whole cs = one_then kind.Where cs (body_parts nodes (after_one nodes kind.Where cs)) (body_whole (after_one nodes kind.Where cs))

  signals_whole : (cs : List ℕ) → signals_parts nodes cs ≡ cs
  signals_whole cs = one_then kind.Signals cs (where_parts nodes (after_one nodes kind.Signals cs)) (where_whole (after_one nodes kind.Signals cs))

  heading_whole : (cs : List ℕ) → heading_parts nodes cs ≡ cs
  heading_whole cs = one_then kind.Results cs (signals_parts nodes (after_one nodes kind.Results cs)) (signals_whole (after_one nodes kind.Results cs))

  pub routine_whole : (cs : List ℕ) → routine_parts nodes cs ≡ cs
  routine_whole cs = run_then kind.Decl cs (heading_parts nodes (after_run nodes kind.Decl cs)) (heading_whole (after_run nodes kind.Decl cs))

  -- ---- those that stand in a slot, where nothing stands behind them

  none_after : (k : NodeKind) (cs : List ℕ) → Stand nodes n [] (after_run nodes k cs) → run nodes k cs ≡ cs
  none_after k cs s = sym (append-nil (run nodes k cs)) ∙ run_then k cs [] (on_end nodes n (λ (xs : List ℕ). [] ≡ xs) refl (after_run nodes k cs) s)

  ends : (k j : NodeKind) → (is_of k j && first_of [] j) ≡ false
  ends k j = by (is_of k j)
    where
      by : (b : Bool) → (b && false) ≡ false
      by true = refl
      by false = refl

  pub all_run : (k : NodeKind) (p : NodeKind → Bool) (cs : List ℕ) → ((j : NodeKind) → p j ≡ is_of k j) → Stand nodes n (several p ∷ []) cs → run nodes k cs ≡ cs
  all_run k p cs same s = none_after k cs (run_is nodes n k p [] cs same (ends k) s).rest

  pub all_more : (k : NodeKind) (p q : NodeKind → Bool) (cs : List ℕ) → ((j : NodeKind) → p j ≡ is_of k j) → ((j : NodeKind) → q j ≡ p j) → Stand nodes n (just q ∷ several p ∷ []) cs → run nodes k cs ≡ cs
  all_more k p q cs same first s = all_run k p cs same (several_from nodes n q p [] cs first s)

  pub one_alone : (k : NodeKind) (p : NodeKind → Bool) (cs : List ℕ) → ((j : NodeKind) → p j ≡ is_of k j) → Stand nodes n (at_most_one p ∷ []) cs → list_of (one_of nodes k cs) ≡ cs
  one_alone k p cs same s =
      sym (append-nil (list_of (one_of nodes k cs)))
      ∙ one_then k cs [] (on_end nodes n (λ (xs : List ℕ). [] ≡ xs) refl (after_one nodes k cs) (after_one_is nodes n k p [] cs same (ends k) s))

  pub results_whole : (p q : NodeKind → Bool) (cs : List ℕ) → ((j : NodeKind) → p j ≡ is_of kind.Results j) → ((j : NodeKind) → q j ≡ is_of kind.Signals j) → ((j : NodeKind) → (is_of kind.Results j && first_of (at_most_one q ∷ []) j) ≡ false) → Stand nodes n (at_most_one p ∷ at_most_one q ∷ []) cs → results_parts nodes cs ≡ cs
  results_whole p q cs same_p same_q apart s = one_then kind.Results cs (list_of (one_of nodes kind.Signals (after_one nodes kind.Results cs))) (one_alone kind.Signals q (after_one nodes kind.Results cs) same_q (after_one_is nodes n kind.Results p (at_most_one q ∷ []) cs same_p apart s))

  -- one behind those of a kind, which is the last of all
  pub with_last : (k : NodeKind) (p : NodeKind → Bool) (cs : List ℕ) → Stand nodes n (just p ∷ []) (after_run nodes k cs) → run nodes k cs ++ get_or cs (length cs - 1) 0 ∷ [] ≡ cs
  with_last k p cs s =
      on_head nodes n (λ (xs : List ℕ). xs ≡ after_run nodes k cs → run nodes k cs ++ get_or cs (length cs - 1) 0 ∷ [] ≡ cs) p []
      (λ c rest is s. on_end nodes n (λ (rest : List ℕ). c ∷ rest ≡ after_run nodes k cs → run nodes k cs ++ get_or cs (length cs - 1) 0 ∷ [] ≡ cs) (one c) rest s) (after_run nodes k cs) s refl
    where
      one : (c : ℕ) → c ∷ [] ≡ after_run nodes k cs → run nodes k cs ++ get_or cs (length cs - 1) 0 ∷ [] ≡ cs
      one c e =
          let whole : run nodes k cs ++ c ∷ [] ≡ cs = run_then k cs (c ∷ []) e in
          let last : get_or cs (length cs - 1) 0 ≡ c = ap (λ (xs : List ℕ). get_or xs (length xs - 1) 0) (sym whole) ∙ last_of (run nodes k cs) c in
          ap (λ (d : ℕ). run nodes k cs ++ d ∷ []) last ∙ whole

  -- ---- types

  more_types : (c : ℕ) (cs : List ℕ) → is_type (kind_at nodes c) ≡ true → leading_types nodes (c ∷ cs) ≡ suc (leading_types nodes cs)
  unfolding leading_types
  more_types c cs e = ap (λ (b : Bool). if b then leading_types nodes cs + 1 else 0) e ∙ add-one (leading_types nodes cs)

  no_types : (c : ℕ) (cs : List ℕ) → is_type (kind_at nodes c) ≡ false → leading_types nodes (c ∷ cs) ≡ 0
  unfolding leading_types
  no_types c cs e = ap (λ (b : Bool). if b then leading_types nodes cs + 1 else 0) e

  not_with : (a b : Bool) → (a && b) ≡ false → b ≡ true → a ≡ false
  not_with true b e h = absurd (true≢false (sym h ∙ e))
  not_with false b e h = refl

  pub behind_types : (p : NodeKind → Bool) (ss : List Slot) (cs : List ℕ) → ((j : NodeKind) → p j ≡ is_type j) → ((j : NodeKind) → (is_type j && first_of ss j) ≡ false) → Stand nodes n (several p ∷ ss) cs → Stand nodes n ss (drop (leading_types nodes cs) cs)
  unfolding leading_types
  behind_types p ss [] same apart (no_others _ _ _ s) = s
  behind_types p ss (c ∷ cs) same apart (no_others _ _ _ s) =
      subst (λ (m : ℕ). Stand nodes n ss (drop m (c ∷ cs))) (sym (no_types c cs (not_with (is_type (kind_at nodes c)) (first_of ss (kind_at nodes c)) (apart (kind_at nodes c)) (first_is nodes n ss c cs s)))) s
  behind_types p ss (c ∷ cs) same apart (another _ _ _ _ is s) =
      subst (λ (m : ℕ). Stand nodes n ss (drop m (c ∷ cs))) (sym (more_types c cs (sym (same (kind_at nodes c)) ∙ is.1))) (behind_types p ss cs same apart s)

  -- ---- clauses begin with a condition

  pub clauses_whole : (cs : List ℕ) → HasClauses nodes n cs → clauses_parts nodes cs ≡ cs
  unfolding leading_items
  clauses_whole _ no_more_clauses = refl
  clauses_whole _ (clause c body rest is s more) = ap (λ (b : Bool). drop (if b then 0 else leading_items nodes (body ++ rest) + 1) (c ∷ body ++ rest)) is.1

  -- ---- children by number

  pub first_alone : (p : NodeKind → Bool) (cs : List ℕ) → Stand nodes n (just p ∷ []) cs → get_or cs 0 0 ∷ [] ≡ cs
  first_alone p cs s = on_head nodes n (λ (cs : List ℕ). get_or cs 0 0 ∷ [] ≡ cs) p [] (λ c rest is s. on_end nodes n (λ (rest : List ℕ). c ∷ [] ≡ c ∷ rest) refl rest s) cs s

  pub first_then : (p : NodeKind → Bool) (ss : List Slot) (cs : List ℕ) → Stand nodes n (just p ∷ ss) cs → get_or cs 0 0 ∷ drop 1 cs ≡ cs
  first_then p ss cs s = on_head nodes n (λ (cs : List ℕ). get_or cs 0 0 ∷ drop 1 cs ≡ cs) p ss (λ c rest is s. refl) cs s

  pub two_alone : (p q : NodeKind → Bool) (cs : List ℕ) → Stand nodes n (just p ∷ just q ∷ []) cs → get_or cs 0 0 ∷ get_or cs 1 0 ∷ [] ≡ cs
  two_alone p q cs s =
      on_head nodes n (λ (cs : List ℕ). get_or cs 0 0 ∷ get_or cs 1 0 ∷ [] ≡ cs) p (just q ∷ [])
      (λ c rest is s. ap (λ (xs : List ℕ). c ∷ xs) (first_alone q rest s)) cs s

  pub three_alone : (p q r : NodeKind → Bool) (cs : List ℕ) → Stand nodes n (just p ∷ just q ∷ just r ∷ []) cs → get_or cs 0 0 ∷ get_or cs 1 0 ∷ get_or cs 2 0 ∷ [] ≡ cs
  three_alone p q r cs s =
      on_head nodes n (λ (cs : List ℕ). get_or cs 0 0 ∷ get_or cs 1 0 ∷ get_or cs 2 0 ∷ [] ≡ cs) p (just q ∷ just r ∷ [])
      (λ c rest is s. ap (λ (xs : List ℕ). c ∷ xs) (two_alone q r rest s)) cs s

  -- the first, and what becomes of those behind it
  pub behind_first : (p : NodeKind → Bool) (ss : List Slot) (f : List ℕ → List ℕ) → ((rest : List ℕ) → Stand nodes n ss rest → f rest ≡ rest) → (cs : List ℕ) → Stand nodes n (just p ∷ ss) cs → get_or cs 0 0 ∷ f (drop 1 cs) ≡ cs
  behind_first p ss f whole cs s = on_head nodes n (λ (cs : List ℕ). get_or cs 0 0 ∷ f (drop 1 cs) ≡ cs) p ss (λ c rest is s. ap (λ (xs : List ℕ). c ∷ xs) (whole rest s)) cs s

  pub nothing : (cs : List ℕ) → Stand nodes n [] cs → [] ≡ cs
  nothing cs s = on_end nodes n (λ (cs : List ℕ). [] ≡ cs) refl cs s
