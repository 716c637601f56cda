-- Each node but the root has a parent, and which kinds it may be of.
use Rattle.std.proofs.Common.{◌≡◌, ◌∙◌, ◌⊎◌, ℕ, ◌+◌, ◌-◌, ◌<◌, ◌≤◌, ◌&&◌, ◌||◌, not, Bool, true, false, List, [], ◌∷◌, ◌++◌, length, take, drop, Some, slice_get, refl, ap, sym, subst, inl, inr, arith}
use Rattle.std.specs.List.{AllByRecursion}
use Rattle.std.proofs.lemmas.Bool.{true≢false, cases_lt}
use Rattle.std.proofs.lemmas.List.{take-append-drop}
use Rattle.clu_base.proofs.Bools.{first_true}
use Rattle.clu_tree.specs.declared.node.Node.{Node}
use Rattle.clu_tree.specs.declared.node.NodeKind.{NodeKind}
use Rattle.clu_tree.specs.declared.node.NodeKind.TheVariants as kind
use Rattle.clu_tree.specs.Nodes.{IsTree}
use Rattle.clu_parser.specs.Order.{IsForest, none, tree, IsPostOrder}
use Rattle.clu_parser.specs.Shape.{Part, IsFormOf, forms, HasForm}
use Rattle.clu_syntax.specs.Kinds.{kind_at}
use Rattle.clu_syntax.specs.Splits.{is_of}
use Rattle.clu_parts.proofs.Fitting.{may_stand, children_stand, children_before}

-- ---- members

abbrev pub IsIn : ℕ → List ℕ → Type 0
IsIn c [] = ⊥
IsIn c (x ∷ xs) = (x ≡ c) ⊎ IsIn c xs

pub of_all : (P : ℕ → Type 0) (c : ℕ) (cs : List ℕ) → AllByRecursion P cs → IsIn c cs → P c
of_all P c [] ps i = absurd i
of_all P c (x ∷ cs) ps (inl e) = subst P e ps.0
of_all P c (x ∷ cs) ps (inr i) = of_all P c cs ps.1 i

pub in_front : (c : ℕ) (xs ys : List ℕ) → IsIn c xs → IsIn c (xs ++ ys)
in_front c [] ys i = absurd i
in_front c (x ∷ xs) ys (inl e) = inl e
in_front c (x ∷ xs) ys (inr i) = inr (in_front c xs ys i)

pub in_either : (c : ℕ) (xs ys : List ℕ) → IsIn c (xs ++ ys) → IsIn c xs ⊎ IsIn c ys
in_either c [] ys i = inr i
in_either c (x ∷ xs) ys (inl e) = inl (inl e)
in_either c (x ∷ xs) ys (inr i) = elim (in_either c xs ys i) [ inl f ↦ inl (inr f) | inr b ↦ inr b ]

pub in_split : (c m : ℕ) (cs : List ℕ) → IsIn c cs → IsIn c (take m cs) ⊎ IsIn c (drop m cs)
in_split c m cs i = in_either c (take m cs) (drop m cs) (subst (IsIn c) (sym (take-append-drop m cs)) i)

-- ---- parents

pub record HasParent (nodes : List Node) (c : ℕ) : Type 0 where
  pub parent : ℕ
  pub node : Node
  pub at : slice_get nodes parent ≡ Some node
  pub child : IsIn c node.children

covers : (nodes : List Node) (from to : ℕ) (roots : List ℕ) → IsForest nodes from roots to → (c : ℕ) → from ≤ c → c < to → IsIn c roots ⊎ HasParent nodes c
covers nodes from to _ (none _) c l m = absurd (omega (arith, l, m))
covers nodes from to _ (tree _ root _ n roots at inside behind) c l m = elim (cases_lt c root) [
  | inl less ↦ elim (covers nodes from root n.children inside c l less) [
    | inl i ↦ inr (record { parent = root; node = n; at = at; child = i })
    | inr p ↦ inr p
  ]
  | inr more ↦ elim (cases_lt root c) [
    | inl after ↦ elim (covers nodes (root + 1) to roots behind c (omega (arith, after)) m) [ inl i ↦ inl (inr i) | inr p ↦ inr p ]
    | inr upto ↦ inl (inl (omega (arith, more, upto)))
  ]
]

pub has_parent : (nodes : List Node) → IsPostOrder nodes → (c : ℕ) → c < length nodes - 1 → HasParent nodes c
has_parent nodes order c l = elim (covers nodes 0 (length nodes) ((length nodes - 1) ∷ []) order c (omega arith) (omega (arith, l))) [
  | inl i ↦ elim i [ inl e ↦ absurd (omega (arith, e, l)) | inr never ↦ absurd never ]
  | inr p ↦ p
]

-- ---- kinds of parents

unfoldable pub no_form : List (List Part) → NodeKind → Bool
no_form [] k = true
no_form (form ∷ fs) k = not (may_stand 3 form k) && no_form fs k

file_above : (k : NodeKind) → (is_of kind.File k || no_form (forms k) kind.Module) ≡ true
unfolding no_form
file_above kind.File = refl
file_above _ = refl

module_below_file : (k : NodeKind) → (is_of kind.Module k || no_form (forms kind.File) k) ≡ true
unfolding no_form
module_below_file kind.Module = refl
module_below_file _ = refl

no_file_below : (k : NodeKind) → no_form (forms k) kind.File ≡ true
unfolding no_form
no_file_below kind.File = refl
no_file_below _ = refl

module_above_cluster : (k : NodeKind) → (is_of kind.Module k || no_form (forms k) kind.Cluster) ≡ true
unfolding no_form
module_above_cluster kind.File = refl
module_above_cluster _ = refl

above_routine : (k : NodeKind) → ((is_of kind.Module k || is_of kind.Cluster k) || no_form (forms k) kind.Routine) ≡ true
unfolding no_form
above_routine kind.File = refl
above_routine _ = refl

above_parm : (k : NodeKind) → ((is_of kind.Routine k || is_of kind.Cluster k) || no_form (forms k) kind.Parm) ≡ true
unfolding no_form
above_parm kind.File = refl
above_parm _ = refl

and_first : (a b : Bool) → (a && b) ≡ true → a ≡ true
and_first true b e = refl
and_first false b e = absurd (true≢false (sym e))

and_second : (a b : Bool) → (a && b) ≡ true → b ≡ true
and_second true b e = e
and_second false b e = absurd (true≢false (sym e))

not_false : (a : Bool) → not a ≡ true → a ≡ true → ⊥
not_false true e h = true≢false (sym e)
not_false false e h = true≢false (sym h)

not_in_form : (form : List Part) (fs : List (List Part)) (k : NodeKind) → IsFormOf form fs → no_form fs k ≡ true → may_stand 3 form k ≡ true → ⊥
unfolding no_form
not_in_form form [] k at n m = at
not_in_form form (f ∷ fs) k (inl e) n m = not_false (may_stand 3 f k) (and_first (not (may_stand 3 f k)) (no_form fs k) n) (subst (λ (g : List Part). may_stand 3 g k ≡ true) e m)
not_in_form form (f ∷ fs) k (inr more) n m = not_in_form form fs k more (and_second (not (may_stand 3 f k)) (no_form fs k) n) m

module _ (nodes : List Node) (tree_is : IsTree nodes) (n : ℕ) (node : Node) (at : slice_get nodes n ≡ Some node) (f : HasForm nodes node) (c : ℕ) (child : IsIn c node.children) where
  may_be : may_stand 3 f.form (kind_at nodes c) ≡ true
  may_be = (of_all (λ (c : ℕ). (c < n) × (may_stand 3 f.form (kind_at nodes c) ≡ true)) c node.children (children_stand nodes tree_is n node at f) child).1

  pub child_before : c < n
  child_before = of_all (λ (c : ℕ). c < n) c node.children (children_before nodes tree_is n node at) child

  cannot : (k : NodeKind) → kind_at nodes c ≡ k → no_form (forms node.kind) k ≡ true → ⊥
  cannot k e absent = not_in_form f.form (forms node.kind) k f.of_kind absent (subst (λ (k : NodeKind). may_stand 3 f.form k ≡ true) e may_be)

  pub never_file : kind_at nodes c ≡ kind.File → ⊥
  never_file e = cannot kind.File e (no_file_below node.kind)

  pub file_of_module : kind_at nodes c ≡ kind.Module → is_of kind.File node.kind ≡ true
  file_of_module e = first_true (is_of kind.File node.kind) (no_form (forms node.kind) kind.Module) (file_above node.kind) (cannot kind.Module e)

  -- what holds of all kinds that may stand in such a node holds of the child
  pub kind_of_child : (test : NodeKind → Bool) → ((k : NodeKind) → (test k || no_form (forms node.kind) k) ≡ true) → test (kind_at nodes c) ≡ true
  kind_of_child test each = first_true (test (kind_at nodes c)) (no_form (forms node.kind) (kind_at nodes c)) (each (kind_at nodes c)) (cannot (kind_at nodes c) refl)

  pub module_of_file : node.kind ≡ kind.File → is_of kind.Module (kind_at nodes c) ≡ true
  module_of_file is =
      kind_of_child (is_of kind.Module) (λ k. ap (λ (j : NodeKind). is_of kind.Module k || no_form (forms j) k) is ∙ module_below_file k)

  pub module_of_cluster : kind_at nodes c ≡ kind.Cluster → is_of kind.Module node.kind ≡ true
  module_of_cluster e = first_true (is_of kind.Module node.kind) (no_form (forms node.kind) kind.Cluster) (module_above_cluster node.kind) (cannot kind.Cluster e)

  pub round_routine : kind_at nodes c ≡ kind.Routine → (is_of kind.Module node.kind || is_of kind.Cluster node.kind) ≡ true
  round_routine e = first_true (is_of kind.Module node.kind || is_of kind.Cluster node.kind) (no_form (forms node.kind) kind.Routine) (above_routine node.kind) (cannot kind.Routine e)

  pub round_parm : kind_at nodes c ≡ kind.Parm → (is_of kind.Routine node.kind || is_of kind.Cluster node.kind) ≡ true
  round_parm e = first_true (is_of kind.Routine node.kind || is_of kind.Cluster node.kind) (no_form (forms node.kind) kind.Parm) (above_parm node.kind) (cannot kind.Parm e)
