-- What a node of a tree is does not depend on how many steps are taken.
use Rattle.std.proofs.Common.{◌≡◌, ◌∙◌, ℕ, zero, suc, ◌+◌, ◌<◌, Bool, true, false, List, nat_lt, if◌then◌else◌, slice_get, refl, ap, sym, subst, inl, inr, arith, lt-ltb, ltb-true}
use Rattle.clu_tree.specs.declared.node.Node.{Node}
use Rattle.clu_syntax.specs.Items.{Item, no_item}
use Rattle.clu_syntax.specs.Nodes.{before, item_with, item_to, item_at}

before_same : (n : ℕ) (f g : ℕ → Item) → ((c : ℕ) → c < n → f c ≡ g c) → before n f ≡ before n g
before_same n f g same = λ i c. at c (nat_lt c n) refl i
  where
    at : (c : ℕ) (b : Bool) → nat_lt c n ≡ b → before n f c ≡ before n g c
    at c true e = rw e (same c (ltb-true c n e))
    at c false e = rw e refl

enough_steps : (nodes : List Node) (a b n : ℕ) → n < a → n < b → item_to nodes a n ≡ item_to nodes b n
unfolding item_to
enough_steps nodes zero b n l m = absurd (omega (arith, l))
enough_steps nodes (suc a) zero n l m = absurd (omega (arith, m))
enough_steps nodes (suc a) (suc b) n l m =
    ap (λ (f : ℕ → Item). item_with f nodes n (slice_get nodes n))
    (before_same n (item_to nodes a) (item_to nodes b) (λ c less. enough_steps nodes a b c (omega (arith, l, less)) (omega (arith, m, less))))

-- a node is what its production makes of the nodes before it
pub item_is : (nodes : List Node) (n : ℕ) → item_at nodes n ≡ item_with (before n (item_at nodes)) nodes n (slice_get nodes n)
unfolding item_to
item_is nodes n =
    ap (λ (f : ℕ → Item). item_with f nodes n (slice_get nodes n))
    (before_same n (item_to nodes n) (item_at nodes) (λ c less. enough_steps nodes n (suc c) c less (omega arith)))
