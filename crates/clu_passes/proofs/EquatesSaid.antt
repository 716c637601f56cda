-- A name is that of an equate just if an Equate declares it.
use Rattle.std.proofs.Common.{◌≡◌, ◌∙◌, ℕ, ◌==◌, Bool, true, false, if◌then◌else◌, List, [], ◌∷◌, is_some, Option, Some, None, slice_get, refl, ap, sym, inl, inr, ◌≤◌, length, arith}
use Rattle.std.proofs.lemmas.Bool.{true≢false, cases_Bool}
use Rattle.std.proofs.lemmas.Option.{none-some}
use Rattle.clu_tree.specs.declared.node.Node.{Node}
use Rattle.clu_tree.specs.declared.node.NodeKind.{NodeKind}
use Rattle.clu_tree.specs.declared.node.NodeKind.TheVariants as kind
use Rattle.clu_parser.specs.Trees.{Text}
use Rattle.clu_syntax.specs.declared.round.Round.{Round}
use Rattle.clu_syntax.specs.Rounds.{AreRounds, round_at}
use Rattle.clu_syntax.specs.Kinds.{kind_of, kind_at}
use Rattle.clu_syntax.specs.Splits.{is_of, children_of, type_of}
use Rattle.clu_syntax.specs.Syntax.{Identifier}
use Rattle.clu_syntax.proofs.Enough.{enough}
use Rattle.clu_syntax.specs.Enough.{least_children}
use Rattle.clu_names.specs.declared.scopes.Declared.{Declared}
use Rattle.clu_names.specs.Scopes.{declarations}
use Rattle.clu_names.specs.Denotes.{found}
use Rattle.clu_meaning.specs.Scoping as means
use Rattle.clu_meaning.specs.Scoping.{meaning_of, bound_at}
use Rattle.clu_checking.specs.Specifications.{Specification}
use Rattle.clu_checking.specs.Files.{File, scope_in, meaning, declaration, declaring_node, equate_of, equate_named}
use Rattle.clu_settle.specs.Parameters.{number_at}
use Rattle.clu_declares.specs.Declares.{IsParsed, AreFew}
use Rattle.clu_declares.proofs.Below.{same_kind}
use Rattle.clu_bindings.specs.declared.file.File.{File as Read}
use Rattle.clu_bindings.specs.declared.meaning.Meaning.{Meaning}
use Rattle.clu_bindings.specs.declared.meaning.Meaning.TheVariants as meant
use Rattle.clu_bindings.specs.declared.meaning.ModuleId.{ModuleId}
use Rattle.clu_bindings.specs.Bindings.{AreBindings}
use Rattle.clu_bindings.specs.Declaring as table
use Rattle.clu_bindings.specs.Modules.{named}
use Rattle.clu_passes.specs.ConstantTables.{Means, is_equated, file_with}
use Rattle.clu_passes.specs.Tables.{AreNames}
use Rattle.clu_passes.proofs.NamesMean.{found_means}

abbrev pub is_equate : Meaning → Bool
is_equate (meant.Equate c) = true
is_equate meant.TypeSet = true
is_equate _ = false

equated_so : (nodes : List Node) (m : Meaning) (x : means.Meaning) → Means nodes m x → is_equated x ≡ is_equate m
equated_so nodes (meant.Equate c) x e = ap is_equated e.1
equated_so nodes meant.TypeSet x e = ap is_equated e
equated_so nodes (meant.TypeParameter k) x e = ap is_equated e
equated_so nodes (meant.ConstantParameter k) x e = ap is_equated e
equated_so nodes (meant.Local c) x e = ap is_equated e
equated_so nodes (meant.OwnOfRoutine c) x e = ap is_equated e
equated_so nodes (meant.OwnOfCluster c) x e = ap is_equated e
equated_so nodes meant.RoutineOfCluster x e = ap is_equated e
equated_so nodes (meant.Module its) x e = ap is_equated e

-- ---- what is declared at a node is an equate just if it is an Equate

side_is : (k : NodeKind) (c : ℕ) → is_equate (table.equated_by k c) ≡ true
side_is kind.TypeSet c = refl
side_is kind.File c = refl
side_is _ c = refl

parameter_as_is : (o : Option ℕ) (k : ℕ) → is_equate (table.parameter_as o k) ≡ false
parameter_as_is None k = refl
parameter_as_is (Some t) k = refl

parameter_is : (b : Bool) (its : Option ModuleId) (o : Option ℕ) (k : ℕ) → is_equate (if b then meant.Module its else table.parameter_as o k) ≡ false
parameter_is true its o k = refl
parameter_is false its o k = parameter_as_is o k

definition_is : (its : Option ModuleId) (unit : Option ℕ) → is_equate (table.definition_in its unit) ≡ false
definition_is its None = refl
definition_is its (Some u) = refl

local_is : (cs : List ℕ) → is_equate (table.local_in cs) ≡ false
local_is [] = refl
local_is (c ∷ cs) = refl

owned_is : (o : Option ℕ) (c : ℕ) → is_equate (table.owned_by o c) ≡ false
owned_is None c = refl
owned_is (Some x) c = refl

own_is : (o : Option ℕ) (cs : List ℕ) → is_equate (table.own_in o cs) ≡ false
own_is o [] = refl
own_is o (c ∷ cs) = owned_is o c

variables_are : (k : NodeKind) (o : Option ℕ) (cs : List ℕ) → is_equate (table.variables_in k o cs) ≡ false
variables_are kind.Own o cs = own_is o cs
variables_are kind.File o cs = local_is cs
variables_are _ o cs = local_is cs

module _ (nodes : List Node) (rounds : List Round) (of : Identifier → Option ModuleId) (counts : List ℕ) (d : Declared) (number : ℕ) where
  kind_is : (k : NodeKind) (c : ℕ) (cs : List ℕ) → is_equate (table.declared_in nodes rounds of counts k (c ∷ cs) d number) ≡ is_of kind.Equate k
  kind_is kind.Equate c cs = side_is (kind_at nodes c) c
  kind_is kind.Parm c cs = parameter_is (number == 0) (of d.name) (type_of nodes (c ∷ cs)) number
  kind_is kind.TypeSet c cs = refl
  kind_is kind.Routine c cs = definition_is (of d.name) d.unit
  kind_is kind.Cluster c cs = definition_is (of d.name) d.unit
  kind_is kind.Decl c cs = variables_are (table.outer_kind nodes rounds d.node) (round_at rounds d.node).routine (c ∷ cs)
  kind_is kind.Init c cs = refl
  kind_is kind.Own c cs = own_is (round_at rounds d.node).routine (c ∷ cs)
  kind_is kind.TagArm c cs = refl
  kind_is kind.Others c cs = refl
  kind_is kind.File c cs = refl
  kind_is _ c cs = refl

  childless : (k : NodeKind) → is_of kind.Equate k ≡ false → is_equate (table.declared_in nodes rounds of counts k [] d number) ≡ is_of kind.Equate k
  childless kind.Equate e = absurd (true≢false e)
  childless kind.Parm e = parameter_is (number == 0) (of d.name) (type_of nodes []) number
  childless kind.TypeSet e = refl
  childless kind.Routine e = definition_is (of d.name) d.unit
  childless kind.Cluster e = definition_is (of d.name) d.unit
  childless kind.Decl e = variables_are (table.outer_kind nodes rounds d.node) (round_at rounds d.node).routine []
  childless kind.Init e = refl
  childless kind.Own e = refl
  childless kind.TagArm e = refl
  childless kind.Others e = refl
  childless kind.File e = refl
  childless _ e = refl

  -- an Equate has a child
  node_is : (k : NodeKind) (cs : List ℕ) → least_children k ≤ length cs → is_equate (table.declared_in nodes rounds of counts k cs d number) ≡ is_of kind.Equate k
  node_is k (c ∷ cs) l = kind_is k c cs
  node_is k [] l = elim (cases_Bool (is_of kind.Equate k)) [
    | inl hit ↦ absurd (let one : least_children k ≡ 1 = ap least_children (same_kind kind.Equate k hit) in omega (arith, l, one))
    | inr miss ↦ childless k miss
  ]

module _ (t : Text) (r : Read) (library : List Specification) (refused : List ℕ) (parsed : IsParsed t r.syntax.now) (are : AreRounds r.syntax.now r.rounds.now) (few : AreFew r.syntax.now r.rounds.now)
    (its_names : AreNames (file_with r (scope_in r.syntax.now r.rounds.now) library refused) r.names.now) (tables : AreBindings r.syntax.now r.rounds.now r.names.now r.values.now r.bindings.now) where
  abbrev f : File
  f = file_with r (scope_in r.syntax.now r.rounds.now) library refused

  abbrev IsSo : Option ℕ → Option Declared → Type 0
  IsSo o d = is_some (equate_of f (declaring_node f d)) ≡ is_equated (means.declared_at (scope_in r.syntax.now r.rounds.now) o d).1

  some_if : (b : Bool) (n : ℕ) → is_some (if b then Some n else None) ≡ b
  some_if true n = refl
  some_if false n = refl

  pub at_node : (number : ℕ) (d : Declared) (its : Option Node) → slice_get r.syntax.now d.node ≡ its → is_equate (table.declared_at r.syntax.now r.rounds.now (named r.bindings.now.modules) r.bindings.now.parameters.counts.items number (Some d)) ≡ is_of kind.Equate (kind_at r.syntax.now d.node)
  at_node number d None at =
      ap (λ (o : Option Node). is_equate (table.declared_in r.syntax.now r.rounds.now (named r.bindings.now.modules) r.bindings.now.parameters.counts.items (kind_of o) (children_of o) d number)) at
      ∙ sym (ap (λ (o : Option Node). is_of kind.Equate (kind_of o)) at)
  at_node number d (Some node) at =
      ap (λ (o : Option Node). is_equate (table.declared_in r.syntax.now r.rounds.now (named r.bindings.now.modules) r.bindings.now.parameters.counts.items (kind_of o) (children_of o) d number)) at
      ∙ node_is r.syntax.now r.rounds.now (named r.bindings.now.modules) r.bindings.now.parameters.counts.items d number node.kind node.children (enough r.syntax.now parsed.forms d.node node at).children
      ∙ sym (ap (λ (o : Option Node). is_of kind.Equate (kind_of o)) at)

  by_place : (n : ℕ) (name : Identifier) (o : Option ℕ) → found (declarations r.syntax.now r.rounds.now) name n ≡ o → (d : Option Declared) → means.declaration_at (scope_in r.syntax.now r.rounds.now) o ≡ d → IsSo o d
  by_place n name None e None g = refl
  by_place n name None e (Some d) g = absurd (none-some d g)
  by_place n name (Some p) e None g = refl
  by_place n name (Some p) e (Some d) g =
      some_if (is_of kind.Equate (kind_at r.syntax.now d.node)) d.node
      ∙ sym (at_node (number_at r.syntax.now r.rounds.now (declarations r.syntax.now r.rounds.now) p (Some d)) d (slice_get r.syntax.now d.node) refl)
      ∙ sym (equated_so r.syntax.now (table.declared_at r.syntax.now r.rounds.now (named r.bindings.now.modules) r.bindings.now.parameters.counts.items (number_at r.syntax.now r.rounds.now (declarations r.syntax.now r.rounds.now) p (Some d)) (Some d))
      (bound_at (scope_in r.syntax.now r.rounds.now).bindings d.node d.name)
      (found_means t r library refused parsed are few its_names tables n p name d e g))

  pub equates_said : (n : ℕ) (name : Identifier) → is_some (equate_named f n name) ≡ is_equated (meaning f n name)
  equates_said n name =
      by_place n name (found (declarations r.syntax.now r.rounds.now) name n) refl (means.declaration_at (scope_in r.syntax.now r.rounds.now) (found (declarations r.syntax.now r.rounds.now) name n)) refl
