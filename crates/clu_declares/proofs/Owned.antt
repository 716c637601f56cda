-- What a node declares is bound at this node.
use Rattle.std.proofs.Common.{◌≡◌, ◌∙◌, ℕ, suc, ◌+◌, ◌==◌, if◌then◌else◌, Bool, true, false, List, [], ◌∷◌, ◌++◌, length, map, Option, Some, None, slice_get, inl, inr, refl, ap, sym, subst, eq-eqb, eqb-true}
use Rattle.std.proofs.lemmas.Bool.{cases_Bool}
use Rattle.clu_tree.specs.declared.node.Node.{Node}
use Rattle.clu_tree.specs.declared.node.NodeKind.{NodeKind}
use Rattle.clu_tree.specs.declared.node.NodeKind.TheVariants as kind
use Rattle.clu_syntax.specs.declared.round.Round.{Round}
use Rattle.clu_syntax.specs.Kinds.{kind_of, kind_at}
use Rattle.clu_syntax.specs.Rounds.{round_at}
use Rattle.clu_syntax.specs.Splits.{child, run, after_run, type_of, last_option}
use Rattle.clu_syntax.specs.Syntax.{Identifier, TypeExpression, Equate, Parameter, TypeSet, a_type_set, Statement, Own, Variable, Others}
use Rattle.clu_syntax.specs.Items.{Item, variable_of}
use Rattle.clu_syntax.specs.Nodes.{before, item_at, item_of, equate_name, equated, equate_of, declaration_of, parameter_of, statement_of, init_of, own_of, owned, others_of}
use Rattle.clu_meaning.specs.Scoping.{Meaning, is_local, Bindings, binding, equate_binding, of_declarations, of_variable, of_names}
use Rattle.clu_checking.specs.Files.{parameters_round, variable_number}
use Rattle.clu_settle.specs.Parameters.{is_parameter}
use Rattle.clu_declares.specs.Declares.{own_variable, variable_in, outer_kind, numbered, of_parm, of_initial, of_own_initial, of_arm, of_set_variable, declared_in, declared_by}
use Rattle.clu_declares.proofs.Firsts.{AreAt}
use Rattle.clu_declares.proofs.Below.{item_there}

-- ---- the number of a parameter among those of its module

pub numbered_first : (k : ℕ) (p : Parameter) (ps : List Parameter) (x : ℕ) → p.node ≡ x → numbered k (p ∷ ps) x ≡ k
numbered_first k p ps x e = ap (λ (b : Bool). if b then k else numbered (k + length p.names) ps x) (eq-eqb p.node x e)

pub numbered_later : (k : ℕ) (p : Parameter) (ps : List Parameter) (x : ℕ) → (p.node ≡ x → ⊥) → numbered k (p ∷ ps) x ≡ numbered (k + length p.names) ps x
numbered_later k p ps x e = elim (cases_Bool (p.node == x)) [
  | inl same ↦ absurd (e (eqb-true p.node x same))
  | inr other ↦ ap (λ (b : Bool). if b then k else numbered (k + length p.names) ps x) other
]

-- ---- of a node

names_at : (n : ℕ) (t : Option TypeExpression) (k : ℕ) (names : List Identifier) → AreAt n (of_names n t k names)
names_at n t k [] = tt
names_at n t k (name ∷ names) = (refl, names_at n t (suc k) names)

mapped_at : (n : ℕ) (m : Meaning) (names : List Identifier) → AreAt n (map (binding n m) names)
mapped_at n m [] = tt
mapped_at n m (name ∷ names) = (refl, mapped_at n m names)

both_at : (n : ℕ) (xs ys : Bindings) → AreAt n xs → AreAt n ys → AreAt n (xs ++ ys)
both_at n [] ys a b = b
both_at n (x ∷ xs) ys a b = (a.0, both_at n xs ys a.1 b)

parm_at : (n : ℕ) (b : Bool) (k : ℕ) (p : Parameter) → p.node ≡ n → AreAt n (of_parm b k p)
parm_at n true k p e = subst (λ (m : ℕ). AreAt m (of_names p.node p.type k p.names)) e (names_at p.node p.type k p.names)
parm_at n false k p e = tt

variable_at : (n : ℕ) (v : TypeExpression → Meaning) (x : Option Variable) → AreAt n (of_variable n v x)
variable_at n v None = tt
variable_at n v (Some x) = (refl, tt)

set_at : (k n : ℕ) (set : TypeSet) → AreAt n (of_set_variable k n set)
set_at k n (a_type_set m variable asked operations es) = (refl, tt)

module _ (items : ℕ → Item) (nodes : List Node) (n : ℕ) where
  equated_node : (name : Option Identifier) (k : NodeKind) (c : ℕ) → (equate_binding (equated items nodes n name k c)).node ≡ n
  equated_node name kind.TypeSet c = refl
  equated_node name _ c = refl

  initial_at : (node : Node) (names : List Identifier) → AreAt n (of_initial (init_of items nodes n node names))
  initial_at node [] = tt
  initial_at node (name ∷ names) = (refl, tt)

  own_at : (v : TypeExpression → Meaning) (names : List Identifier) (decls rest : List ℕ) → AreAt n (of_own_initial v (owned items nodes n names decls rest))
  own_at v [] decls [] = tt
  own_at v [] decls (c ∷ cs) = tt
  own_at v (name ∷ names) decls [] = tt
  own_at v (name ∷ names) decls (c ∷ []) = tt
  own_at v (name ∷ names) decls (c ∷ d ∷ cs) = (refl, tt)

module _ (nodes : List Node) (rounds : List Round) (n : ℕ) (node : Node) (at : slice_get nodes n ≡ Some node) where
  abbrev items : ℕ → Item
  items = before n (item_at nodes)

  its : item_at nodes n ≡ item_of items nodes n node
  its = item_there nodes n node at

  pub parameter_node : node.kind ≡ kind.Parm → (item_at nodes n).parameter.node ≡ n
  parameter_node is = ap (λ (i : Item). i.parameter.node) its ∙ ap (λ (k : NodeKind). (parameter_of items nodes n node k).node) is

  pub declaration_node : node.kind ≡ kind.Decl → (item_at nodes n).declaration.node ≡ n
  declaration_node is = ap (λ (i : Item). i.declaration.node) its ∙ ap (λ (k : NodeKind). (declaration_of items nodes n node k).node) is

  owned_at : (k : NodeKind) → node.kind ≡ k → AreAt n (declared_in nodes rounds k n)
  owned_at kind.Equate is = (
    ap (λ (i : Item). (equate_binding i.equate).node) its ∙ ap (λ (k : NodeKind). (equate_binding (equate_of items nodes n node k)).node) is
        ∙ equated_node items nodes n (equate_name node.names) (kind_at nodes (child 0 node)) (child 0 node),
    tt,
  )
  owned_at kind.Parm is = parm_at n (is_parameter nodes rounds n) (numbered 1 (parameters_round nodes (round_at rounds n).unit) n) (item_at nodes n).parameter (parameter_node is)
  owned_at kind.TypeSet is = set_at (variable_number nodes rounds n) n (item_at nodes n).type_set
  owned_at kind.Decl is =
      subst (λ (m : ℕ). AreAt m (of_declarations (variable_in (outer_kind nodes rounds n) (round_at rounds n)) ((item_at nodes n).declaration ∷ []))) (declaration_node is)
      (both_at (item_at nodes n).declaration.node (map (binding (item_at nodes n).declaration.node (variable_in (outer_kind nodes rounds n) (round_at rounds n) (item_at nodes n).declaration.type)) (item_at nodes n).declaration.names) []
      (mapped_at (item_at nodes n).declaration.node (variable_in (outer_kind nodes rounds n) (round_at rounds n) (item_at nodes n).declaration.type) (item_at nodes n).declaration.names) tt)
  owned_at kind.Init is =
      subst (λ (s : Statement). AreAt n (of_initial s)) (sym (ap (λ (i : Item). i.statement) its ∙ ap (statement_of items nodes n node) is)) (initial_at items nodes n node node.names)
  owned_at kind.Own is =
      subst (λ (s : Own). AreAt n (of_own_initial (own_variable (round_at rounds n).routine) s)) (sym (ap (λ (i : Item). i.own) its ∙ ap (own_of items nodes n node) is))
      (own_at items nodes n (own_variable (round_at rounds n).routine) node.names (run nodes kind.Decl node.children) (after_run nodes kind.Decl node.children))
  owned_at kind.TagArm is = variable_at n is_local (item_at nodes n).tag_arm.variable
  owned_at kind.Others is =
      subst (λ (s : Others). AreAt n (of_arm s)) (sym (ap (λ (i : Item). i.others) its ∙ ap (others_of items nodes n node) is)) (variable_at n is_local (variable_of items (last_option node.names) (type_of nodes node.children)))
  owned_at kind.Routine is = (refl, tt)
  owned_at kind.Cluster is = (refl, tt)
  owned_at _ is = tt

  pub declared_at_node : AreAt n (declared_by nodes rounds n)
  declared_at_node = subst (λ (k : NodeKind). AreAt n (declared_in nodes rounds k n)) (sym (ap kind_of at)) (owned_at node.kind refl)
