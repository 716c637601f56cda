-- What surrounds the nodes, written from the last node down.
use Rattle.std.proofs.Common.{◌≡◌, ◌≢◌, ◌∙◌, ℕ, suc, ◌<◌, ◌≤◌, List, [], ◌∷◌, length, get_or, set, map, Some, refl, ap, sym, subst, inl, inr, arith, length-set, get_or-set_same, get_or-set_other}
use Rattle.std.specs.Prelude.{All, AllPairs, Contains, slice_get, replicate}
use Rattle.std.proofs.lemmas.List.{get_or-replicate, get_or_past, get_or_read, length-replicate, get_or_default}
use Rattle.std.proofs.lemmas.Option.{slice_get_within, same_Some}
use Rattle.std.proofs.lemmas.Bool.{cases_lt}
use Rattle.clu_tree.specs.declared.node.Node.{Node}
use Rattle.clu_tree.specs.Nodes.{IsTree}
use Rattle.clu_syntax.specs.declared.bodies.Part.{Part}
use Rattle.clu_syntax.specs.declared.round.Round.{Round}
use Rattle.clu_syntax.specs.Rounds.{rounds_in, rounds_of, set_all, outside, round_at, AreRounds}

pub set_length : {A : Type 0} (xs : List A) (is : List ℕ) (vs : List A) → length (set_all xs is vs) ≡ length xs
unfolding set_all
set_length xs [] vs = refl
set_length xs (i ∷ is) [] = refl
set_length xs (i ∷ is) (v ∷ vs) = set_length (set xs i v) is vs ∙ length-set xs i v

set_other : {A : Type 0} (xs : List A) (is : List ℕ) (vs : List A) (j : ℕ) (d : A) → (Contains is j → ⊥) → get_or (set_all xs is vs) j d ≡ get_or xs j d
unfolding set_all
set_other xs [] vs j d out = refl
set_other xs (i ∷ is) [] j d out = refl
set_other xs (i ∷ is) (v ∷ vs) j d out =
    set_other (set xs i v) is vs j d (λ h. out (suc h.0, omega arith, h.2)) ∙ get_or-set_other xs i j v d (λ e. out (0, omega arith, sym e))

set_map : {A : Type 0} (xs : List A) (is : List ℕ) (vs : List A) (d : A) → AllPairs ◌≢◌ is → All (λ c. c < length xs) is → length vs ≡ length is → map (λ c. get_or (set_all xs is vs) c d) is ≡ vs
unfolding set_all
set_map xs [] [] d apart below size = refl
set_map xs [] (v ∷ vs) d apart below size = absurd (omega (arith, size))
set_map xs (i ∷ is) [] d apart below size = absurd (omega (arith, size))
set_map {A} xs (i ∷ is) (v ∷ vs) d apart below size =
    let head : get_or (set_all (set xs i v) is vs) i d ≡ v =
    set_other (set xs i v) is vs i d (λ h. apart 0 (suc h.0) i (omega arith) (omega arith) (sym h.2)) ∙ get_or-set_same xs i v d (below 0 0 (omega arith)) in
    let tail : map (λ (c : ℕ). get_or (set_all (set xs i v) is vs) c d) is ≡ vs =
    set_map (set xs i v) is vs d (λ a b e l m. apart (suc a) (suc b) e (omega arith) (omega arith)) (λ k e l. rw (length-set xs i v) (below (suc k) e (omega arith))) (omega arith) in
    rw (head, tail) refl

map_same : {A B : Type 0} (f g : A → B) (xs : List A) → All (λ x. f x ≡ g x) xs → map f xs ≡ map g xs
map_same f g [] same = refl
map_same f g (x ∷ xs) same = let head : f x ≡ g x = same 0 x (omega arith) in let tail : map f xs ≡ map g xs = map_same f g xs (λ k d l. same (suc k) d (omega arith)) in rw (head, tail) refl

rounds_length : (nodes : List Node) (n : ℕ) (node : Node) (round : Round) (children : List ℕ) (before : Part) (first : ℕ) → length (rounds_in nodes n node round before first children) ≡ length children
unfolding rounds_in
rounds_length nodes n node round [] before first = refl
rounds_length nodes n node round (c ∷ rest) before first = ap suc (rounds_length nodes n node round rest _ _)

-- what surrounds the children of the nodes from the n-th on is written
pub record Done (nodes : List Node) (n : ℕ) (rounds : List Round) : Type 0 where
  pub size : length rounds ≡ length nodes
  pub children_are : (i : ℕ) (m : Node) → n ≤ i → slice_get nodes i ≡ Some m → map (round_at rounds) m.children ≡ rounds_of nodes i m (round_at rounds i)
  pub others_are : (c : ℕ) → ((i : ℕ) (m : Node) → n ≤ i → slice_get nodes i ≡ Some m → Contains m.children c → ⊥) → round_at rounds c ≡ outside

replicated : (n c : ℕ) → get_or (replicate n outside) c outside ≡ outside
replicated n c = elim (cases_lt c n) [ inl l ↦ get_or-replicate n c outside outside l | inr l ↦ get_or_past (replicate n outside) c outside (rw (length-replicate n outside) l) ]

pub started : (nodes : List Node) → Done nodes (length nodes) (replicate (length nodes) outside)
started nodes = record {
  size = length-replicate _ _;
  children_are = λ i m l e. let h : i < length nodes = slice_get_within nodes i m e in absurd (omega arith);
  others_are = λ c out. replicated (length nodes) c;
}

pub stepped : (nodes : List Node) → IsTree nodes → (n : ℕ) (m : Node) (rounds vs : List Round) → slice_get nodes n ≡ Some m → Done nodes (suc n) rounds →
    vs ≡ rounds_of nodes n m (round_at rounds n) → Done nodes n (set_all rounds m.children vs)
stepped nodes tree n m rounds vs e done is = record {
  size = set_length rounds m.children vs ∙ done.size;
  children_are = λ i o l there. elim (cases_lt n i) [ inl less ↦ above i o less there | inr more ↦ here i o (omega arith) there ];
  others_are = λ c out. set_other rounds m.children vs c outside (λ h. out n m (omega arith) e h) ∙ done.others_are c (λ i o l there h. out i o (omega arith) there h);
}
  where
    below : (j : ℕ) → Contains m.children j → j < n
    below j h = let b : get_or m.children h.0 j < n = tree.below n m e h.0 j h.1 in omega (arith, h.2)

    kept : (j : ℕ) → n ≤ j → round_at (set_all rounds m.children vs) j ≡ round_at rounds j
    kept j l = set_other rounds m.children vs j outside (λ h. let b : j < n = below j h in absurd (omega arith))

    above : (i : ℕ) (o : Node) → n < i → slice_get nodes i ≡ Some o → map (round_at (set_all rounds m.children vs)) o.children ≡ rounds_of nodes i o (round_at (set_all rounds m.children vs) i)
    above i o l there =
        map_same _ _ o.children (λ k d in_o. set_other rounds m.children vs (get_or o.children k d) outside
        (λ h. let x : i ≡ n = tree.apart i n o m (get_or o.children k d) there e (k, in_o, get_or_default o.children k _ d in_o) h in absurd (omega arith)))
        ∙ done.children_are i o (omega arith) there
        ∙ ap (rounds_of nodes i o) (sym (kept i (omega arith)))

    same : map (round_at (set_all rounds m.children vs)) m.children ≡ rounds_of nodes n m (round_at (set_all rounds m.children vs) n)
    same = set_map rounds m.children vs outside (tree.once n m e) (λ k d l. let b : get_or m.children k d < n = tree.below n m e k d l in let w : n < length nodes = slice_get_within nodes n m e in omega (arith, done.size)) (ap length is ∙ rounds_length nodes n m _ m.children _ _)
        ∙ is ∙ ap (rounds_of nodes n m) (sym (kept n (omega arith)))

    here : (i : ℕ) (o : Node) → i ≡ n → slice_get nodes i ≡ Some o → map (round_at (set_all rounds m.children vs)) o.children ≡ rounds_of nodes i o (round_at (set_all rounds m.children vs) i)
    here i o at there =
        let twice : slice_get nodes n ≡ Some o = rw at at there in
        let who : m ≡ o = same_Some m o (sym e ∙ twice) in
        subst (λ (j : ℕ). map (round_at (set_all rounds m.children vs)) o.children ≡ rounds_of nodes j o (round_at (set_all rounds m.children vs) j)) (sym at)
        (subst (λ (x : Node). map (round_at (set_all rounds m.children vs)) x.children ≡ rounds_of nodes n x (round_at (set_all rounds m.children vs) n)) who same)

pub finished : (nodes : List Node) (rounds : List Round) → Done nodes 0 rounds → AreRounds nodes rounds
finished nodes rounds done = record {
  size = done.size;
  children_are = λ i m e. done.children_are i m (omega arith) e;
  roots_are = λ c root. done.others_are c (λ i m l e h. root i m e h);
}

pub started_so : (nodes : List Node) (n : ℕ) (rounds : List Round) → n ≡ length nodes → rounds ≡ replicate n outside → Done nodes n rounds
started_so nodes n rounds e is = rw (is, e) (started nodes)

pub stepped_so : (nodes : List Node) → IsTree nodes → (n k : ℕ) (m : Node) (rounds new : List Round) (round : Round) → slice_get nodes n ≡ Some m → Done nodes k rounds → k ≡ suc n → n < length rounds →
    round ≡ get_or rounds n round → new ≡ set_all rounds m.children (rounds_of nodes n m round) → Done nodes n new
stepped_so nodes tree n k m rounds new round e done next inside read new_is =
    let at : round ≡ round_at rounds n = get_or_read rounds n round inside read outside in
    rw new_is (stepped nodes tree n m rounds (rounds_of nodes n m round) e (subst (λ (j : ℕ). Done nodes j rounds) next done) (ap (rounds_of nodes n m) at))
