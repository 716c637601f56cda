-- What the builder keeps true, when a node is added over the last whole nodes.
use Rattle.std.proofs.Common.{◌≡◌, ◌≢◌, ℕ, ◌+◌, ◌-◌, ◌<◌, ◌≤◌, ◌^◌, List, [], ◌∷◌, ◌++◌, length, take, drop, get_or, sym, ap, ◌∙◌, subst, arith, Some, slice_get, All, AllPairs, Contains, inl, inr}
use Rattle.std.proofs.lemmas.List.{length_push, length-take-le, length-drop, get_or-take, get_or-drop}
use Rattle.std.proofs.lemmas.List.Elements.{All-contains, All-take, All-drop, All-push, All-contains_itself}
use Rattle.std.proofs.lemmas.List.Quantifiers.{all_pairs_push}
use Rattle.clu_tree.specs.declared.node.Node.{Node}
use Rattle.clu_tree.specs.Count.{counts, count_with}
use Rattle.clu_tree.specs.Nodes.{IsRoot, Fits}
use Rattle.clu_tree.proofs.Rows.{got_push}
use Rattle.clu_parser.specs.Trees.{IsSound}
use Rattle.clu_parser.proofs.Counted.{counted_close}
use Rattle.clu_parser.proofs.Forest.{forest_close}

differ_take : (h : ℕ) (tops : List ℕ) → h ≤ length tops → AllPairs ◌≢◌ tops → AllPairs ◌≢◌ (take h tops)
differ_take h tops inside known i j d less below same =
    let size : length (take h tops) ≡ h = length-take-le h tops inside in
    known i j d less (omega arith) (sym (get_or-take h tops i d (omega arith)) ∙ same ∙ get_or-take h tops j d (omega arith))

differ_drop : (h : ℕ) (tops : List ℕ) → AllPairs ◌≢◌ tops → AllPairs ◌≢◌ (drop h tops)
differ_drop h tops known i j d less below same =
    known (h + i) (h + j) d (omega arith) (omega (arith, length-drop h tops)) (sym (get_or-drop h tops i d) ∙ same ∙ get_or-drop h tops j d)

-- what comes before h isn't after it
apart : (h : ℕ) (tops : List ℕ) (c : ℕ) → h ≤ length tops → AllPairs ◌≢◌ tops → Contains (take h tops) c → Contains (drop h tops) c → ⊥
apart h tops c inside known here there =
    let size : length (take h tops) ≡ h = length-take-le h tops inside in
    let before : here.0 < h = omega (arith, here.1) in
    known here.0 (h + there.0) c (omega arith) (omega (arith, there.1, length-drop h tops))
    (sym (get_or-take h tops here.0 c before) ∙ here.2 ∙ sym there.2 ∙ get_or-drop h tops there.0 c)

-- the node over the whole nodes from h on may be added
pub fits_close : (nodes : List Node) (tops : List ℕ) (h : ℕ) (n : Node) → IsSound nodes tops → n.children ≡ drop h tops → length nodes < 2 ^ 32 - 1 → count_with (counts nodes) n < 2 ^ 32 → Fits nodes n
fits_close nodes tops h n sound is room small =
    record {
      room = room;
      below = subst (All (λ c. c < length nodes)) (sym is) (All-drop (λ c. c < length nodes) h tops sound.below);
      apart = subst (All (IsRoot nodes)) (sym is) (All-drop (IsRoot nodes) h tops sound.roots);
      once = subst (AllPairs ◌≢◌) (sym is) (differ_drop h tops sound.differ);
      small = small;
    }

root_kept : (nodes : List Node) (tops : List ℕ) (h : ℕ) (n : Node) (c : ℕ) → h ≤ length tops → IsSound nodes tops → n.children ≡ drop h tops → Contains (take h tops) c → IsRoot (nodes ++ n ∷ []) c
root_kept nodes tops h n c inside sound is here i m at has = elim (got_push nodes n m i at) [
  | inl old ↦ All-contains (IsRoot nodes) (take h tops) c (All-take (IsRoot nodes) h tops sound.roots) here i m old has
  | inr new ↦ apart h tops c inside sound.differ here (subst (λ (cs : List ℕ). Contains cs c) is (subst (λ (m : Node). Contains m.children c) (sym new.1) has))
]

root_new : (nodes : List Node) (tops : List ℕ) (h : ℕ) (n : Node) → IsSound nodes tops → n.children ≡ drop h tops → IsRoot (nodes ++ n ∷ []) (length nodes)
root_new nodes tops h n sound is i m at has = elim (got_push nodes n m i at) [
  | inl old ↦ (let less : length nodes < length nodes = All-contains (λ c. c < length nodes) m.children (length nodes) (sound.children i m old) has in absurd (omega arith))
  | inr new ↦ (let less : length nodes < length nodes =
      All-contains (λ c. c < length nodes) (drop h tops) (length nodes) (All-drop (λ c. c < length nodes) h tops sound.below)
      (subst (λ (cs : List ℕ). Contains cs (length nodes)) is (subst (λ (m : Node). Contains m.children (length nodes)) (sym new.1) has)) in absurd (omega arith))
]

children_push : (nodes : List Node) (tops : List ℕ) (h : ℕ) (n : Node) → IsSound nodes tops → n.children ≡ drop h tops → (i : ℕ) (m : Node) → slice_get (nodes ++ n ∷ []) i ≡ Some m → All (λ c. c < length (nodes ++ n ∷ [])) m.children
children_push nodes tops h n sound is i m at k d below = elim (got_push nodes n m i at) [
  | inl old ↦ omega (arith, sound.children i m old k d below, length_push nodes n)
  | inr new ↦ (let same : m.children ≡ drop h tops = ap (λ (m : Node). m.children) (sym new.1) ∙ is in
      let less : get_or m.children k d < length nodes = subst (All (λ c. c < length nodes)) (sym same) (All-drop (λ c. c < length nodes) h tops sound.below) k d below in omega (arith, length_push nodes n))
]

pub sound_close : (nodes : List Node) (tops : List ℕ) (h : ℕ) (n : Node) → h ≤ length tops → IsSound nodes tops → n.children ≡ drop h tops → IsSound (nodes ++ n ∷ []) (take h tops ++ length nodes ∷ [])
sound_close nodes tops h n inside sound is =
    record {
      below = All-push (λ c. c < length (nodes ++ n ∷ [])) (take h tops) (length nodes) (λ k d below. omega (arith, All-take (λ c. c < length nodes) h tops sound.below k d below, length_push nodes n)) (omega (arith, length_push nodes n));
      roots = All-push (IsRoot (nodes ++ n ∷ [])) (take h tops) (length nodes) (λ k d below. root_kept nodes tops h n (get_or (take h tops) k d) inside sound is (All-contains_itself (take h tops) k d below)) (root_new nodes tops h n sound is);
      differ = all_pairs_push ◌≢◌ (take h tops) (length nodes) (differ_take h tops inside sound.differ) (λ k d below same. let less = All-take (λ c. c < length nodes) h tops sound.below k d below in let less' : get_or (take h tops) k d < length nodes = less in absurd (omega arith));
      children = children_push nodes tops h n sound is;
      counted = counted_close nodes tops h n is sound.below sound.counted;
      order = forest_close nodes tops h n is sound.order;
    }
