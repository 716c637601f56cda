-- Trees in post-order, one node more.
use Rattle.std.proofs.Common.{◌≡◌, ℕ, zero, suc, ◌+◌, List, [], ◌∷◌, ◌++◌, length, take, drop, Some, slice_get, refl, sym, subst}
use Rattle.std.proofs.lemmas.List.{take-append-drop, length_push}
use Rattle.clu_tree.specs.declared.node.Node.{Node}
use Rattle.clu_parser.specs.Order.{IsForest, none, tree}

got_before : (nodes : List Node) (n m : Node) (i : ℕ) → slice_get nodes i ≡ Some m → slice_get (nodes ++ n ∷ []) i ≡ Some m
got_before [] n m i at = absurd (cc)
got_before (k ∷ nodes) n m zero at = at
got_before (k ∷ nodes) n m (suc i) at = got_before nodes n m i at

pub got_last : (nodes : List Node) (n : Node) → slice_get (nodes ++ n ∷ []) (length nodes) ≡ Some n
got_last [] n = refl
got_last (k ∷ nodes) n = got_last nodes n

forest_more : (nodes : List Node) (n : Node) (from : ℕ) (roots : List ℕ) (to : ℕ) → IsForest nodes from roots to → IsForest (nodes ++ n ∷ []) from roots to
forest_more nodes n from [] to (none _) = none from
forest_more nodes n from _ to (tree _ root _ m roots at inside behind) = tree from root to m roots (got_before nodes n m root at) (forest_more nodes n from m.children root inside) (forest_more nodes n (root + 1) roots to behind)

forest_split : (nodes : List Node) (xs ys : List ℕ) (from to : ℕ) → IsForest nodes from (xs ++ ys) to → (mid : ℕ) × IsForest nodes from xs mid × IsForest nodes mid ys to
forest_split nodes [] ys from to known = (from, none from, known)
forest_split nodes (x ∷ xs) ys from to (tree _ _ _ m _ at inside behind) =
    let rest = forest_split nodes xs ys (x + 1) to behind in (rest.0, tree from x rest.0 m xs at inside rest.1, rest.2)

forest_push : (nodes : List Node) (xs : List ℕ) (from mid to root : ℕ) (m : Node) → IsForest nodes from xs mid → slice_get nodes root ≡ Some m → IsForest nodes mid m.children root → IsForest nodes from (xs ++ root ∷ []) (root + 1)
forest_push nodes [] from mid to root m (none _) at inside = tree from root (root + 1) m [] at inside (none (root + 1))
forest_push nodes _ from mid to root m (tree _ x _ k xs at' inside' behind) at inside = tree from x (root + 1) k (xs ++ root ∷ []) at' inside' (forest_push nodes xs (x + 1) mid to root m behind at inside)

-- a node is added over the last trees
pub forest_close : (nodes : List Node) (tops : List ℕ) (h : ℕ) (n : Node) → n.children ≡ drop h tops → IsForest nodes 0 tops (length nodes) → IsForest (nodes ++ n ∷ []) 0 (take h tops ++ length nodes ∷ []) (length (nodes ++ n ∷ []))
forest_close nodes tops h n is known =
    let parts = forest_split nodes (take h tops) (drop h tops) 0 (length nodes) (subst (λ (xs : List ℕ). IsForest nodes 0 xs (length nodes)) (sym (take-append-drop h tops)) known) in
    let inside = subst (λ (xs : List ℕ). IsForest (nodes ++ n ∷ []) parts.0 xs (length nodes)) (sym is) (forest_more nodes n parts.0 (drop h tops) (length nodes) parts.2) in
    subst (λ (k : ℕ). IsForest (nodes ++ n ∷ []) 0 (take h tops ++ length nodes ∷ []) k) (sym (length_push nodes n))
    (forest_push (nodes ++ n ∷ []) (take h tops) 0 parts.0 (length nodes) (length nodes) n (forest_more nodes n 0 (take h tops) parts.0 parts.1) (got_last nodes n) inside)
