-- What the whole nodes count is no more than what all nodes count by themselves.
use Rattle.std.proofs.Common.{◌≡◌, ℕ, suc, ◌+◌, ◌-◌, ◌<◌, ◌≤◌, ◌^◌, List, [], ◌∷◌, ◌++◌, length, take, drop, get_or, sum_by, All, refl, ap, ◌∙◌, subst, arith}
use Rattle.std.proofs.lemmas.List.{get_or_append_left}
use Rattle.std.proofs.Math.Seq.{get_or-append_seam}
use Rattle.std.proofs.lemmas.List.Sums.{sum_by-cons, sum_by_push, sum_by-take-drop}
use Rattle.std.proofs.lemmas.List.Elements.{All-take}
use Rattle.clu_tree.specs.declared.node.Node.{Node}
use Rattle.clu_tree.specs.Count.{own_count, counts, counts_from, count_with}
use Rattle.clu_tree.proofs.Rows.{length-counts}
use Rattle.clu_parser.specs.declared.begun.Begun.{Begun}
use Rattle.clu_parser.specs.Steps.{held, spent}
use Rattle.clu_parser.specs.Trees.{Text, Built}

counts_from-push : (before : List ℕ) (ns : List Node) (n : Node) → counts_from before (ns ++ n ∷ []) ≡ counts_from before ns ++ count_with (counts_from before ns) n ∷ []
counts_from-push before [] n = refl
counts_from-push before (m ∷ ns) n = counts_from-push (before ++ count_with before m ∷ []) ns n

-- the sum over places that are there stays the same
sum_before : (xs ys ns : List ℕ) → ((k d : ℕ) → k < length ns → get_or ns k d < length xs) → sum_by (λ c. get_or (xs ++ ys) c 0) ns ≡ sum_by (λ c. get_or xs c 0) ns
sum_before xs ys [] below = refl
sum_before xs ys (n ∷ ns) below =
    sum_by-cons (λ c. get_or (xs ++ ys) c 0) n ns ∙
    (let first = get_or_append_left xs ys 0 n (below 0 0 (omega arith)) in
    let rest = sum_before xs ys ns (λ k d less. below (suc k) d (omega arith)) in
    omega (arith, first, rest, sum_by-cons (λ c. get_or xs c 0) n ns))

-- the node over the last whole nodes counts what they do, and itself
pub counts_close : (nodes : List Node) (tops : List ℕ) (h : ℕ) (n : Node) → n.children ≡ drop h tops → sum_by (λ c. get_or (counts nodes) c 0) (take h tops) + count_with (counts nodes) n ≡ sum_by (λ c. get_or (counts nodes) c 0) tops + own_count n
counts_close nodes tops h n is = omega (arith, sum_by-take-drop (λ c. get_or (counts nodes) c 0) tops h, ap (sum_by (λ c. get_or (counts nodes) c 0)) is)

pub counted_close : (nodes : List Node) (tops : List ℕ) (h : ℕ) (n : Node) → n.children ≡ drop h tops → All (λ c. c < length nodes) tops → sum_by (λ c. get_or (counts nodes) c 0) tops ≤ sum_by own_count nodes
    → sum_by (λ c. get_or (counts (nodes ++ n ∷ [])) c 0) (take h tops ++ length nodes ∷ []) ≤ sum_by own_count (nodes ++ n ∷ [])
counted_close nodes tops h n is below known =
    let size : length (counts nodes) ≡ length nodes = length-counts nodes in
    let before = sum_before (counts nodes) (count_with (counts nodes) n ∷ []) (take h tops) (λ k d less. let small : get_or (take h tops) k d < length nodes = All-take (λ c. c < length nodes) h tops below k d less in omega arith) in
    let here : get_or (counts nodes ++ count_with (counts nodes) n ∷ []) (length nodes) 0 ≡ count_with (counts nodes) n = subst (λ (k : ℕ). get_or (counts nodes ++ count_with (counts nodes) n ∷ []) k 0 ≡ count_with (counts nodes) n) size (get_or-append_seam (counts nodes) (count_with (counts nodes) n) [] 0) in
    rw (counts_from-push [] nodes n)
    (omega (arith, sum_by_push (λ c. get_or (counts nodes ++ count_with (counts nodes) n ∷ []) c 0) (take h tops) (length nodes), before, here, counts_close nodes tops h n is, known, sum_by_push own_count nodes n))

-- the node over the last whole nodes counts no more than what has been spent
pub count_close : (s : Text) (b : Built) (o : Begun) (os : List Begun) (n : Node) → b.begun ≡ o ∷ os → n.children ≡ drop o.height b.tops → own_count n ≤ 1 + held s o → sum_by (λ c. get_or (counts b.nodes) c 0) b.tops ≤ sum_by own_count b.nodes → spent s b < 2 ^ 32 - 1 → count_with (counts b.nodes) n < 2 ^ 32
count_close s b o os n same is own counted small =
    omega (arith, counts_close b.nodes b.tops o.height n is, own, counted, small, ap (sum_by (held s)) same, sum_by-cons (held s) o os)
