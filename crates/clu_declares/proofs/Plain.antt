-- Below which nodes nothing is bound: those whose children are neither declarations, arms nor statements.
use Rattle.std.proofs.Common.{◌≡◌, ◌∙◌, ℕ, ◌&&◌, ◌||◌, not, rules, Bool, true, false, List, [], ◌∷◌, Some, slice_get, refl, ap, sym, subst, inl, inr}
use Rattle.std.specs.List.{AllByRecursion}
use Rattle.std.proofs.lemmas.Bool.{true≢false, cases_Bool, not-true}
use Rattle.clu_tree.specs.declared.node.Node.{Node}
use Rattle.clu_tree.specs.declared.node.NodeKind.{NodeKind}
use Rattle.clu_tree.specs.declared.node.NodeKind.TheVariants as kind
use Rattle.clu_tree.specs.contracts.node.NodeKind.{the_type}
use Rattle.clu_tree.specs.Nodes.{IsTree}
use Rattle.clu_parser.specs.Shape.{Part, IsFormOf, forms, HasForm}
use Rattle.clu_syntax.specs.declared.round.Round.{Round}
use Rattle.clu_syntax.specs.Splits.{is_of}
use Rattle.clu_parts.proofs.Fitting.{may_stand, AreParts, children_stand}
use Rattle.clu_declares.proofs.Below.{binds, all_at, all_in, plain_part, plain_parts}
use denote.Enum.Bare.{same_true}
use Rattle.clu_base.proofs.Bools.{implied}

abbrev pub is_plain : NodeKind → Bool
is_plain kind.Module = false
is_plain kind.Routine = false
is_plain kind.Cluster = false
is_plain kind.TypeSet = false
is_plain kind.Own = false
is_plain kind.Declare = false
is_plain kind.Init = false
is_plain kind.While = false
is_plain kind.For = false
is_plain kind.If = false
is_plain kind.Tagcase = false
is_plain kind.TagArm = false
is_plain kind.Begin = false
is_plain kind.Resignal = false
is_plain kind.Except = false
is_plain kind.When = false
is_plain kind.Others = false
is_plain _ = true

binders : List NodeKind
binders =
    kind.Equate ∷ kind.Decl ∷ kind.Own ∷ kind.TagArm ∷ kind.When ∷ kind.Others ∷ kind.Declare ∷ kind.Init ∷ kind.Assign ∷ kind.SetField ∷ kind.SetIndex ∷ kind.CallS ∷ kind.While ∷ kind.For ∷ kind.If ∷ kind.Tagcase ∷ kind.Return ∷ kind.Yield ∷ kind.Signal ∷ kind.Exit ∷ kind.Break ∷ kind.Continue ∷ kind.Begin ∷ kind.Resignal ∷ kind.Except ∷ []

among : List NodeKind → NodeKind → Bool
among [] k = false
among (j ∷ js) k = is_of j k || among js k

-- no form may have a child of these kinds
has_none_of : List Part → List NodeKind → Bool
has_none_of form [] = true
has_none_of form (j ∷ js) = not (may_stand 3 form j) && has_none_of form js

none_in : List (List Part) → Bool
none_in [] = true
none_in (form ∷ fs) = has_none_of form binders && none_in fs

tested : (k : NodeKind) → (not (is_plain k) || none_in (forms k)) ≡ true
unfolding none_in has_none_of binders
tested kind.File = refl
tested _ = refl

each_binder : (j : NodeKind) → (not (binds j) || among binders j) ≡ true
unfolding among binders
each_binder kind.File = refl
each_binder _ = refl

and_first : (a b : Bool) → (a && b) ≡ true → a ≡ true
and_first true b e = refl
and_first false b e = absurd (true≢false (sym e))

and_second : (a b : Bool) → (a && b) ≡ true → b ≡ true
and_second true b e = e
and_second false b e = absurd (true≢false (sym e))

form_none : (form : List Part) (fs : List (List Part)) → IsFormOf form fs → none_in fs ≡ true → has_none_of form binders ≡ true
unfolding none_in
form_none form [] at h = absurd at
form_none form (f ∷ fs) (inl e) h = subst (λ (g : List Part). has_none_of g binders ≡ true) (sym e) (and_first (has_none_of f binders) (none_in fs) h)
form_none form (f ∷ fs) (inr more) h = form_none form fs more (and_second (has_none_of f binders) (none_in fs) h)

is_same : (j k : NodeKind) → is_of j k ≡ true → k ≡ j
is_same j k e = same_true the_type (search rules) k j e

kind_none : (form : List Part) (js : List NodeKind) (k : NodeKind) → has_none_of form js ≡ true → among js k ≡ true → may_stand 3 form k ≡ false
unfolding has_none_of among
kind_none form [] k h a = absurd (true≢false (sym a))
kind_none form (j ∷ js) k h a = elim (cases_Bool (is_of j k)) [
  | inl e ↦ ap (may_stand 3 form) (is_same j k e) ∙ not-true (may_stand 3 form j) (and_first (not (may_stand 3 form j)) (has_none_of form js) h)
  | inr e ↦ kind_none form js k (and_second (not (may_stand 3 form j)) (has_none_of form js) h) (sym (ap (λ (b : Bool). b || among js k) e) ∙ a)
]

neither : (a b : Bool) → (b ≡ true → a ≡ false) → (a && b) ≡ false
neither true true f = absurd (true≢false (f refl))
neither true false f = refl
neither false b f = refl

module _ (nodes : List Node) (rounds : List Round) (tree : IsTree nodes) (n : ℕ) (node : Node) (at : slice_get nodes n ≡ Some node) (f : HasForm nodes node) (plain : is_plain node.kind ≡ true) where
  apart : (k : NodeKind) → (may_stand 3 f.form k && binds k) ≡ false
  apart k = neither (may_stand 3 f.form k) (binds k)
      (λ b. kind_none f.form binders k (form_none f.form (forms node.kind) f.of_kind (implied (is_plain node.kind) (none_in (forms node.kind)) (tested node.kind) plain)) (implied (binds k) (among binders k) (each_binder k) b))

  each_none : (cs : List ℕ) → AreParts nodes (may_stand 3 f.form) n cs → AllByRecursion (λ (c : ℕ). all_at nodes rounds c ≡ []) cs
  each_none [] ps = tt
  each_none (c ∷ cs) ps = (plain_part nodes rounds n c (may_stand 3 f.form) apart ps.0, each_none cs ps.1)

  pub none_below_each : AllByRecursion (λ (c : ℕ). all_at nodes rounds c ≡ []) node.children
  none_below_each = each_none node.children (children_stand nodes tree n node at f)

  pub none_below : all_in nodes rounds node.children ≡ []
  none_below = plain_parts nodes rounds n (may_stand 3 f.form) node.children apart (children_stand nodes tree n node at f)
