-- One list alone says what surrounds the nodes of a tree.
use Rattle.std.proofs.Common.{◌≡◌, ◌∙◌, ◌⊎◌, ℕ, zero, suc, ◌+◌, ◌<◌, ◌≤◌, List, [], ◌∷◌, length, get_or, map, Option, Some, None, refl, ap, sym, subst, inl, inr, arith}
use Rattle.std.specs.Prelude.{Contains, slice_get}
use Rattle.std.proofs.lemmas.List.{get_or_past}
use Rattle.std.proofs.lemmas.Option.{slice_get_within, same_Some}
use Rattle.std.proofs.lemmas.Bool.{cases_lt, cases_eq}
use Rattle.clu_tree.specs.declared.node.Node.{Node}
use Rattle.clu_tree.specs.Nodes.{IsTree}
use Rattle.clu_syntax.specs.declared.round.Round.{Round}
use Rattle.clu_syntax.specs.Rounds.{rounds_of, outside, round_at, AreRounds}

-- a node of the list has the child c
abbrev HasParent : List Node → ℕ → Type 0
HasParent nodes c = (i : ℕ) × ((n : Node) × ((slice_get nodes i ≡ Some n) × Contains n.children c))

-- none of the first n nodes has it
abbrev HasNone : List Node → ℕ → ℕ → Type 0
HasNone nodes c n = (i : ℕ) (m : Node) → i < n → slice_get nodes i ≡ Some m → Contains m.children c → ⊥

not_in : (d c : ℕ) (ds : List ℕ) → (d ≡ c → ⊥) → (Contains ds c → ⊥) → (k : ℕ) → k < length (d ∷ ds) → get_or (d ∷ ds) k c ≡ c → ⊥
not_in d c ds first rest zero l e = first e
not_in d c ds first rest (suc k) l e = rest (k, omega arith, e)

child_or_not : (cs : List ℕ) (c : ℕ) → Contains cs c ⊎ (Contains cs c → ⊥)
child_or_not [] c = inr (λ h. absurd (omega (arith, h.1)))
child_or_not (d ∷ ds) c = by (cases_eq d c) (child_or_not ds c)
  where
    by : (d ≡ c) ⊎ (d ≡ c → ⊥) → Contains ds c ⊎ (Contains ds c → ⊥) → Contains (d ∷ ds) c ⊎ (Contains (d ∷ ds) c → ⊥)
    by (inl e) there = inl (0, omega arith, e)
    by (inr e) (inl h) = inl (suc h.0, omega (arith, h.1), h.2)
    by (inr e) (inr h) = inr (λ g. not_in d c ds e h g.0 g.1 g.2)

same_node : (nodes : List Node) (i n : ℕ) (m o : Node) (c : ℕ) → i ≡ n → slice_get nodes i ≡ Some m → slice_get nodes n ≡ Some o → Contains m.children c → Contains o.children c
same_node nodes i n m o c at e f h =
    let there : slice_get nodes n ≡ Some m = rw at at e in
    subst (λ (x : Node). Contains x.children c) (same_Some m o (sym there ∙ f)) h

nothing_there : (nodes : List Node) (i n : ℕ) (m : Node) → i ≡ n → slice_get nodes i ≡ Some m → slice_get nodes n ≡ None → ⊥
nothing_there nodes i n m at e f = let there : slice_get nodes n ≡ Some m = rw at at e in cc

parent_or_not : (nodes : List Node) (c n : ℕ) → HasParent nodes c ⊎ HasNone nodes c n
parent_or_not nodes c zero = inr (λ i m l e h. absurd (omega arith))
parent_or_not nodes c (suc n) = by (parent_or_not nodes c n)
  where
    further : HasNone nodes c n → ((i : ℕ) (m : Node) → i ≡ n → slice_get nodes i ≡ Some m → Contains m.children c → ⊥) → HasNone nodes c (suc n)
    further none here i m l e h = elim (cases_lt i n) [ inl less ↦ none i m less e h | inr more ↦ here i m (omega arith) e h ]

    at_node : (m : Node) → slice_get nodes n ≡ Some m → HasNone nodes c n → Contains m.children c ⊎ (Contains m.children c → ⊥) → HasParent nodes c ⊎ HasNone nodes c (suc n)
    at_node m e none (inl h) = inl (n, (m, (e, h)))
    at_node m e none (inr out) = inr (further none (λ i o at there h. out (same_node nodes i n o m c at there e h)))

    at : (o : Option Node) → slice_get nodes n ≡ o → HasNone nodes c n → HasParent nodes c ⊎ HasNone nodes c (suc n)
    at None e none = inr (further none (λ i o at there h. nothing_there nodes i n o at there e))
    at (Some m) e none = at_node m e none (child_or_not m.children c)

    by : HasParent nodes c ⊎ HasNone nodes c n → HasParent nodes c ⊎ HasNone nodes c (suc n)
    by (inl p) = inl p
    by (inr none) = at (slice_get nodes n) refl none

map_at : {B : Type 0} (f g : ℕ → B) (xs : List ℕ) (k d : ℕ) → map f xs ≡ map g xs → k < length xs → f (get_or xs k d) ≡ g (get_or xs k d)
map_at f g [] k d same l = absurd (omega (arith, l))
map_at f g (x ∷ xs) zero d same l = cc
map_at f g (x ∷ xs) (suc k) d same l = let rest : map f xs ≡ map g xs = cc in map_at f g xs k d rest (omega arith)

same_list : {A : Type 0} (xs ys : List A) (d : A) → length xs ≡ length ys → ((k : ℕ) → get_or xs k d ≡ get_or ys k d) → xs ≡ ys
same_list [] [] d size same = refl
same_list [] (y ∷ ys) d size same = absurd (omega (arith, size))
same_list (x ∷ xs) [] d size same = absurd (omega (arith, size))
same_list (x ∷ xs) (y ∷ ys) d size same =
    let head : x ≡ y = same 0 in
    let tail : xs ≡ ys = same_list xs ys d (omega (arith, size)) (λ k. same (suc k)) in
    rw (head, tail) refl

-- one place, where the places after it agree
agree_at : (nodes : List Node) → IsTree nodes → (rs qs : List Round) → AreRounds nodes rs → AreRounds nodes qs → (c : ℕ) → ((i : ℕ) → c < i → round_at rs i ≡ round_at qs i) → HasParent nodes c ⊎ HasNone nodes c (length nodes) → round_at rs c ≡ round_at qs c
agree_at nodes tree rs qs are others c after (inl p) = inside p.0 p.1.0 p.1.1.0 p.1.1.1
  where
    inside : (i : ℕ) (n : Node) → slice_get nodes i ≡ Some n → (h : Contains n.children c) → round_at rs c ≡ round_at qs c
    inside i n e h =
        let b : get_or n.children h.0 c < i = tree.below i n e h.0 c h.1 in
        let parent : round_at rs i ≡ round_at qs i = after i (omega (arith, h.2)) in
        let same : map (round_at rs) n.children ≡ map (round_at qs) n.children =
        are.children_are i n e ∙ ap (rounds_of nodes i n) parent ∙ sym (others.children_are i n e) in
        let at : round_at rs (get_or n.children h.0 c) ≡ round_at qs (get_or n.children h.0 c) = map_at (round_at rs) (round_at qs) n.children h.0 c same h.1 in
        subst (λ (x : ℕ). round_at rs x ≡ round_at qs x) h.2 at
agree_at nodes tree rs qs are others c after (inr none) =
    are.roots_are c (λ i n e h. none i n (slice_get_within nodes i n e) e h) ∙ sym (others.roots_are c (λ i n e h. none i n (slice_get_within nodes i n e) e h))

-- every place, where at most k places come from it on
agree : (nodes : List Node) → IsTree nodes → (rs qs : List Round) → AreRounds nodes rs → AreRounds nodes qs → (k c : ℕ) → length nodes ≤ c + k → round_at rs c ≡ round_at qs c
agree nodes tree rs qs are others zero c l =
    get_or_past rs c outside (omega (arith, are.size)) ∙ sym (get_or_past qs c outside (omega (arith, others.size)))
agree nodes tree rs qs are others (suc k) c l =
    agree_at nodes tree rs qs are others c (λ i less. agree nodes tree rs qs are others k i (omega arith)) (parent_or_not nodes c (length nodes))

pub unique : (nodes : List Node) → IsTree nodes → (rs : List Round) → AreRounds nodes rs → (others : List Round) → AreRounds nodes others → others ≡ rs
unique nodes tree rs are others too =
    same_list others rs outside (too.size ∙ sym are.size) (λ k. agree nodes tree others rs too are (length nodes) k (omega arith))
