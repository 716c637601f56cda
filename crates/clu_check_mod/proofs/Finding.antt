-- The first of a list that passes a test, item by item; and the first fault of a walk, node by node.
use Rattle.std.proofs.Common.{◌≡◌, ◌∙◌, ◌⊎◌, inl, inr, ℕ, ◌+◌, ◌<◌, ◌≤◌, arith, Bool, true, false, List, [], ◌∷◌, length, cond, drop, get_or, Option, Some, None, sym, ap, subst, add-one, Result}
use Rattle.std.specs.Prelude.{find, slice_get}
use Rattle.std.proofs.Math.Seq.{drop-cons}
use Rattle.std.proofs.lemmas.Bool.{cases_lt}
use Rattle.std.proofs.lemmas.List.{drop_all}
use Rattle.std.proofs.lemmas.Option.{get_or_from_slice_get, slice_get_within}
use Rattle.clu_base.specs.declared.rules.Rule.{Rule}
use Rattle.clu_base.specs.declared.rules.Refused.{Refused}
use Rattle.clu_tree.specs.declared.node.Node.{Node}
use Rattle.clu_type_rules.specs.Walking.{first_fault, first_of, told}
use Rattle.clu_check_mod.specs.Refusals.{IsTold, IsToldBy}
use Rattle.clu_check_mod.specs.declared.errors.CheckError.{CheckError}
use Rattle.clu_check_mod.specs.declared.errors.CheckError.TheVariants as error

module _ {X : Type 0} (test : X → Bool) (xs : List X) where
  at : (i : ℕ) (d : X) → i < length xs → drop i xs ≡ get_or xs i d ∷ drop (i + 1) xs
  at i d less = drop-cons xs i d less ∙ ap (λ (k : ℕ). get_or xs i d ∷ drop k xs) (sym (add-one i))

  -- the item at i fails the test, or passes it
  pub find_next : (i : ℕ) (d : X) → i < length xs → test (get_or xs i d) ≡ false → find test (drop i xs) ≡ find test xs → find test (drop (i + 1) xs) ≡ find test xs
  find_next i d less fails had = sym (ap (find test) (at i d less) ∙ ap (λ (b : Bool). cond b (Some (get_or xs i d)) (find test (drop (i + 1) xs))) fails) ∙ had

  pub find_here : (i : ℕ) (d : X) → i < length xs → test (get_or xs i d) ≡ true → find test (drop i xs) ≡ find test xs → Some (get_or xs i d) ≡ find test xs
  find_here i d less passes had = sym (ap (find test) (at i d less) ∙ ap (λ (b : Bool). cond b (Some (get_or xs i d)) (find test (drop (i + 1) xs))) passes) ∙ had

  pub find_none : (i : ℕ) → length xs ≤ i → find test (drop i xs) ≡ find test xs → None ≡ find test xs
  find_none i past had = sym (ap (find test) (drop_all i xs past)) ∙ had

module _ (fault : ℕ → Option Rule) (nodes : List Node) where
  node_at : (n : ℕ) (node : Node) → slice_get nodes n ≡ Some node → drop n nodes ≡ node ∷ drop (n + 1) nodes
  node_at n node is = at (λ m. true) nodes n node (slice_get_within nodes n node is) ∙ ap (λ (m : Node). m ∷ drop (n + 1) nodes) (get_or_from_slice_get nodes n node node is)

  -- what the walk finds from the node n on is what it finds of all
  abbrev pub Goes : ℕ → Type 0
  Goes n = first_fault fault n (drop n nodes) ≡ first_fault fault 0 nodes

  behind : (n : ℕ) (node : Node) → slice_get nodes n ≡ Some node → (o : Option Rule) → fault n ≡ o → first_fault fault n (drop n nodes) ≡ first_of (told o node) (first_fault fault (n + 1) (drop (n + 1) nodes))
  behind n node is o says = ap (first_fault fault n) (node_at n node is) ∙ ap (λ (x : Option Rule). first_of (told x node) (first_fault fault (n + 1) (drop (n + 1) nodes))) says

  -- there is no fault at the node n, or there is one
  pub walk_next : (n : ℕ) (node : Node) → slice_get nodes n ≡ Some node → fault n ≡ None → Goes n → Goes (n + 1)
  walk_next n node is says had = sym (behind n node is None says) ∙ had

  pub walk_here : (n : ℕ) (node : Node) (r : Rule) → slice_get nodes n ≡ Some node → fault n ≡ Some r → Goes n → first_fault fault 0 nodes ≡ Some (record { rule = r; place = node.place })
  walk_here n node r is says had = sym had ∙ behind n node is (Some r) says

  pub walk_end : (n : ℕ) → length nodes ≤ n → Goes n → first_fault fault 0 nodes ≡ None
  walk_end n past had = sym had ∙ ap (first_fault fault n) (drop_all n nodes past)

-- there is none before the next node
pub none_next : (fault : ℕ → Option Rule) (n : ℕ) → ((m : ℕ) → m < n → fault m ≡ None) → fault n ≡ None → (m : ℕ) → m < n + 1 → fault m ≡ None
none_next fault n before none m less = elim (cases_lt m n) [
  | inl earlier ↦ before m earlier
  | inr later ↦ (let same : n ≡ m = omega (arith, less, later) in subst (λ (i : ℕ). fault i ≡ None) same none)
]

-- two walks, one after the other
pub told_at_once : (e : CheckError) (a b : Option Refused) → IsToldBy e a → IsToldBy e (first_of a b)
told_at_once (error.Refused r) a b is = ap (λ (o : Option Refused). first_of o b) is
told_at_once error.Memory a b is = tt
told_at_once error.NotYet a b is = absurd is

pub told_then : {A : Type 0} (r : Result A CheckError) (a b : Option Refused) → a ≡ None → IsTold r b → IsTold r (first_of a b)
told_then r a b none is = subst (λ (o : Option Refused). IsTold r (first_of o b)) (sym none) is
