-- One node more: what stays true of the tree, its counts and its modules.
use Rattle.std.proofs.Common.{◌≡◌, ◌≢◌, ℕ, zero, suc, ◌+◌, ◌<◌, List, [], ◌∷◌, ◌++◌, length, refl, sym, ap, ◌∙◌, subst, arith, Some, slice_get, All, AllPairs, Contains, inl, inr, ◌⊎◌, append_assoc, append-nil, add-zero, zero-add}
use Rattle.std.proofs.lemmas.List.{length_push}
use Rattle.std.proofs.lemmas.List.Elements.{All-contains}
use Rattle.clu_tree.specs.declared.node.Node.{Node}
use Rattle.clu_tree.specs.Count.{counts, counts_from, count_with}
use Rattle.clu_tree.specs.Nodes.{IsTree, IsRoot, Fits, IsKept, modules_from, module_at}

pub length-counts_from : (before : List ℕ) (ns : List Node) → length (counts_from before ns) ≡ length before + length ns
length-counts_from before [] = omega arith
length-counts_from before (n ∷ ns) = omega (arith, length-counts_from (before ++ count_with before n ∷ []) ns, length_push before (count_with before n))

pub length-counts : (ns : List Node) → length (counts ns) ≡ length ns
length-counts ns = omega (arith, length-counts_from [] ns)

counts_from-push : (before : List ℕ) (ns : List Node) (n : Node) → counts_from before (ns ++ n ∷ []) ≡ counts_from before ns ++ count_with (counts_from before ns) n ∷ []
counts_from-push before [] n = refl
counts_from-push before (m ∷ ns) n = counts_from-push (before ++ count_with before m ∷ []) ns n

modules_from-push : (at : ℕ) (ns : List Node) (n : Node) → modules_from at (ns ++ n ∷ []) ≡ modules_from at ns ++ module_at (at + length ns) n.kind
modules_from-push at [] n = rw (add-zero) (append-nil (module_at at n.kind))
modules_from-push at (m ∷ ns) n =
    let place : at + 1 + length ns ≡ at + suc (length ns) = omega arith in
    ap (λ rest. module_at at m.kind ++ rest) (modules_from-push (at + 1) ns n) ∙
    rw (place, ← append_assoc (module_at at m.kind) (modules_from (at + 1) ns) (module_at (at + suc (length ns)) n.kind)) refl

-- what a list with one more has at i
pub got_push : {X : Type 0} (xs : List X) (y x : X) (i : ℕ) → slice_get (xs ++ y ∷ []) i ≡ Some x → (slice_get xs i ≡ Some x) ⊎ ((i ≡ length xs) × (y ≡ x))
got_push [] y x zero h = inr (refl, cc)
got_push [] y x (suc i) h = absurd (cc)
got_push (z ∷ xs) y x zero h = inl h
got_push (z ∷ xs) y x (suc i) h = elim (got_push xs y x i h) [ inl old ↦ inl old | inr new ↦ inr (ap suc new.0, new.1) ]

pub tree-push : (nodes : List Node) (n : Node) → IsTree nodes → Fits nodes n → IsTree (nodes ++ n ∷ [])
tree-push nodes n tree fits =
    record {
      below = λ i m at. elim (got_push nodes n m i at) [
        | inl old ↦ tree.below i m old
        | inr new ↦ (let P : ℕ → Node → Type 0 = λ i m. All (λ c. c < i) m.children in subst (λ (i : ℕ). P i m) (sym new.0) (subst (P (length nodes)) new.1 fits.below))
      ];
      apart = λ i j m k c at at' here there. elim (got_push nodes n m i at) [
        | inl old ↦ elim (got_push nodes n k j at') [
          | inl old' ↦ tree.apart i j m k c old old' here there
          | inr new' ↦ absurd (All-contains (IsRoot nodes) n.children c fits.apart (subst (λ (m : Node). Contains m.children c) (sym new'.1) there) i m old here)
        ]
        | inr new ↦ elim (got_push nodes n k j at') [
          | inl old' ↦ absurd (All-contains (IsRoot nodes) n.children c fits.apart (subst (λ (m : Node). Contains m.children c) (sym new.1) here) j k old' there)
          | inr new' ↦ new.0 ∙ sym new'.0
        ]
      ];
      once = λ i m at. elim (got_push nodes n m i at) [
        | inl old ↦ tree.once i m old
        | inr new ↦ subst (λ (m : Node). AllPairs ◌≢◌ m.children) new.1 fits.once
      ];
    }

pub kept-push : (nodes : List Node) (kept numbers : List ℕ) (n : Node) (count : ℕ) → IsKept nodes kept numbers → Fits nodes n → count ≡ count_with kept n → IsKept (nodes ++ n ∷ []) (kept ++ count ∷ []) (numbers ++ module_at (length nodes) n.kind)
kept-push nodes kept numbers n count known fits is =
    record {
      tree = tree-push nodes n known.tree fits;
      few = omega (arith, fits.room, length_push nodes n);
      counts_are = ap (λ k. kept ++ k ∷ []) is ∙ ap (λ ks. ks ++ count_with ks n ∷ []) known.counts_are ∙ sym (counts_from-push [] nodes n);
      modules_are = ap (λ ks. ks ++ module_at (length nodes) n.kind) known.modules_are ∙ sym (modules_from-push 0 nodes n ∙ rw zero-add refl);
    }
