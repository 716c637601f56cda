-- What is noted at a node is what the definition invokes and names there.
use Rattle.std.proofs.Common.{◌≡◌, ◌∙◌, ◌<◌, ℕ, Bool, true, false, if◌then◌else◌, List, [], ◌∷◌, ◌++◌, map, drop, slice_get, Option, Some, None, refl, sym, ap, subst}
use Rattle.std.proofs.lemmas.Bool.{true≢false}
use Rattle.clu_tree.specs.declared.node.Node.{Node}
use Rattle.clu_tree.specs.declared.node.NodeKind.{NodeKind}
use Rattle.clu_tree.specs.declared.node.NodeKind.TheVariants as kind
use Rattle.clu_types.specs.declared.term.TypeId.{TypeId}
use Rattle.clu_types.specs.declared.term.Term.{Term}
use Rattle.clu_syntax.specs.Kinds.{is_expression, kind_of, kind_at}
use Rattle.clu_syntax.specs.Items.{Item}
use Rattle.clu_syntax.specs.Nodes.{before, item_at, expression_of, elements_of}
use Rattle.clu_syntax.specs.Syntax.{Expression, an_infix, a_prefix, a_paren, a_literal, a_name, an_index, a_get, a_call, fields, elements, elements_from, an_operation, a_force, an_up, a_down, TypeExpression}
use Rattle.clu_meaning.specs.Scoping.{Scope}
use Rattle.clu_declares.proofs.Below.{item_there}
use Rattle.clu_checking.specs.Specifications.{Specification}
use Rattle.clu_checking.specs.Files.{File, item}
use Rattle.clu_checking.specs.Operations.{Found}
use Rattle.clu_checking.specs.Wanted.{wanted}
use Rattle.clu_checking.specs.Invocations.{Invocation, is_object_wanted, by_expression, if_object, invocations_by, invocations, operation_by, if_named, named_routine, operations_by, operations_at}
use Rattle.clu_bindings.specs.declared.file.File.{File as Read}
use Rattle.clu_bindings.specs.Readers.{children_in, wanted_in}
use Rattle.clu_bindings.specs.Wanted as bound
use Rattle.clu_typing.specs.declared.applied.Applied.{Applied}
use Rattle.clu_typing.specs.declared.facts.Facts.{Facts}
use Rattle.clu_typing.specs.declared.facts.Operation.{Operation}
use Rattle.clu_typing.specs.Facts as tables
use Rattle.clu_typing.specs.Invoking.{lists_of}
use Rattle.clu_typing.specs.Nodes.{is_used_as}
use Rattle.clu_passes.specs.ConstantTables.{file_with, wanted_told}
use Rattle.clu_passes.specs.FactTables.{AreFound, AreInvocations}
use Rattle.clu_passes.specs.NotedLists.{One, Noted, nothing_noted, types_given, applied_noted, node_noted, operations_of, AreNoted, AreOnes, AreWhollyFound}
use Rattle.clu_passes.specs.StandsFor.{IsKindOf, AreOperandsOf, AreOperands, named_of, StandsFor, NodeStandsFor}
use Rattle.clu_passes.proofs.FactNodes.{object_wanted}
use Rattle.clu_passes.proofs.NotedRead.{invocations_read, operations_read}
use Rattle.clu_passes.proofs.OnesSaid.{expression_ones, statement_ones, expression_named, statement_named}

-- ---- the kind of an expression

abbrev pub form : Expression → NodeKind
form (an_infix m o a b) = kind.Infix
form (a_prefix m s e) = kind.Prefix
form (a_paren m e) = kind.Paren
form (a_literal m literal) = kind.Literal
form (a_name m name) = kind.Name
form (an_index m e cs) = kind.Index
form (a_get m e name) = kind.Get
form (a_call m e es) = kind.Call
form (fields m t cs) = kind.Fields
form (elements m t es) = kind.Elems
form (elements_from m t e es) = kind.Elems
form (an_operation m t name) = kind.OperOf
form (a_force m t) = kind.Force
form (an_up m e) = kind.Up
form (a_down m e) = kind.Down

module _ (items : ℕ → Item) (nodes : List Node) (n : ℕ) where
  elements_form : (t : TypeExpression) (low : Option ℕ) (cs : List ℕ) → form (elements_of items nodes n t low cs) ≡ kind.Elems
  elements_form t None cs = refl
  elements_form t (Some token) [] = refl
  elements_form t (Some token) (c ∷ cs) = refl

  form_of : (node : Node) (k : NodeKind) → is_expression k ≡ true → form (expression_of items nodes n node k) ≡ k
  form_of node kind.Infix is = refl
  form_of node kind.Prefix is = refl
  form_of node kind.Paren is = refl
  form_of node kind.Literal is = refl
  form_of node kind.Name is = refl
  form_of node kind.Index is = refl
  form_of node kind.Get is = refl
  form_of node kind.Call is = refl
  form_of node kind.Fields is = refl
  form_of node kind.Elems is = elements_form _ node.value_token (drop 1 node.children)
  form_of node kind.OperOf is = refl
  form_of node kind.Force is = refl
  form_of node kind.Up is = refl
  form_of node kind.Down is = refl
  form_of node _ is = absurd (true≢false (sym is))

pub form_at : (nodes : List Node) (n : ℕ) → is_expression (kind_at nodes n) ≡ true → form (item_at nodes n).expression ≡ kind_at nodes n
form_at nodes n is = by (slice_get nodes n) refl
  where
    by : (its : Option Node) → slice_get nodes n ≡ its → form (item_at nodes n).expression ≡ kind_at nodes n
    by None at = absurd (true≢false (sym is ∙ ap (λ (x : Option Node). is_expression (kind_of x)) at))
    by (Some node) at =
        ap (λ (x : Item). form x.expression) (item_there nodes n node at)
        ∙ form_of (before n (item_at nodes)) nodes n node node.kind (subst (λ (x : Option Node). is_expression (kind_of x) ≡ true) at is)
        ∙ sym (ap kind_of at)

kind_is : (e : Expression) → IsKindOf e (form e)
kind_is (a_call m e es) = refl
kind_is (an_infix m o a b) = refl
kind_is _ = refl

-- ---- lists

module _ (terms : List Term) (facts : Facts) where
  -- whatever they ask
  pub found_alone : (os : List Operation) (xs : List (Option Found)) → AreWhollyFound terms facts os xs → AreFound terms facts os xs
  found_alone [] [] are = tt
  found_alone [] (x ∷ xs) are = absurd are
  found_alone (o ∷ os) [] are = absurd are
  found_alone (o ∷ os) (x ∷ xs) are = (are.0.0, found_alone os xs are.1)

  ones_found : (ones : List One) (xs : List Invocation) → AreOnes terms facts ones xs → AreWhollyFound terms facts (map (λ one. one.operation) ones) (map (λ x. x.invoked) xs)
  ones_found [] [] are = tt
  ones_found [] (x ∷ xs) are = absurd are
  ones_found (one ∷ ones) [] are = absurd are
  ones_found (one ∷ ones) (x ∷ xs) are = ((are.0.0, are.0.2), ones_found ones xs are.1)

  found_append : (os more : List Operation) (xs rest : List (Option Found)) → AreWhollyFound terms facts os xs → AreWhollyFound terms facts more rest → AreWhollyFound terms facts (os ++ more) (xs ++ rest)
  found_append [] more [] rest are behind = behind
  found_append [] more (x ∷ xs) rest are behind = absurd are
  found_append (o ∷ os) more [] rest are behind = absurd are
  found_append (o ∷ os) more (x ∷ xs) rest are behind = (are.0, found_append os more xs rest are.1 behind)

-- ---- by kinds

same_if : {A : Type 0} (b : Bool) (a : A) → a ≡ (if b then a else a)
same_if true a = refl
same_if false a = refl

module _ (f : File) (n : ℕ) (b : Bool) (is : is_object_wanted (wanted f n) ≡ b) where
  if_wanted : (e : Expression) → (item f n).expression ≡ e → if_object f (is_object_wanted (wanted f n)) n ≡ (if b then by_expression f e else [])
  if_wanted e same = ap (λ (x : Bool). if_object f x n) is ∙ by b
    where
      by : (x : Bool) → if_object f x n ≡ (if x then by_expression f e else [])
      by true = ap (by_expression f) same
      by false = refl

  invocations_are : (e : Expression) → (item f n).expression ≡ e → invocations_by f (form e) n ≡ (if b then by_expression f e else [])
  invocations_are (an_infix m o a c) same = if_wanted (an_infix m o a c) same
  invocations_are (a_prefix m s e) same = if_wanted (a_prefix m s e) same
  invocations_are (an_index m e cs) same = if_wanted (an_index m e cs) same
  invocations_are (a_get m e name) same = if_wanted (a_get m e name) same
  invocations_are (a_call m e es) same = if_wanted (a_call m e es) same
  invocations_are _ same = same_if b []

  names_are : (e : Expression) → (item f n).expression ≡ e → operations_by f (form e) n ≡ (if b then named_of f e else [])
  names_are (an_operation m t name) same = ap (λ (x : Bool). if_named f x n) is ∙ by b
    where
      by : (x : Bool) → if_named f x n ≡ (if x then named_of f (an_operation m t name) else [])
      by true = ap (operation_by f) same
      by false = refl
  names_are (a_name m name) same = ap (λ (x : Bool). named_routine f x (item f n).expression) is ∙ ap (named_routine f b) same ∙ by b
    where
      by : (x : Bool) → named_routine f x (a_name m name) ≡ (if x then named_of f (a_name m name) else [])
      by true = refl
      by false = refl
  names_are _ same = same_if b []

module _ (r : Read) (scope : Scope) (library : List Specification) (refused : List ℕ) (terms : List Term) (facts : Facts) (types : List (Option TypeId)) (n : ℕ) (its : Applied) where
  abbrev f : File
  f = file_with r scope library refused

  abbrev ns : List ℕ
  ns = children_in r n

  abbrev nodes : List Node
  nodes = r.syntax.now

  abbrev noted_if : Bool → NodeKind → Noted
  noted_if b k = if b then applied_noted types its k ns else nothing_noted

  abbrev Given : Expression → Type 0
  Given e = AreOperandsOf f terms (types_given types ns) e

  -- what is noted there is so
  abbrev IsSo : Noted → NodeKind → Type 0
  IsSo noted k = AreOnes terms facts noted.invoked (invocations_by f k n) × AreWhollyFound terms facts noted.named (operations_by f k n)

  abbrev e : Expression
  e = (item f n).expression

  expression_so : (b : Bool) → is_object_wanted (wanted f n) ≡ b → StandsFor f terms facts e its → Given e → IsSo (noted_if b (form e)) (form e)
  expression_so b is stands given = (
    subst (λ (xs : List Invocation). AreOnes terms facts (noted_if b (form e)).invoked xs) (sym (invocations_are f n b is e refl)) (ones b),
    subst (λ (xs : List (Option Found)). AreWhollyFound terms facts (noted_if b (form e)).named xs) (sym (names_are f n b is e refl)) (names b),
  )
    where
      ones : (x : Bool) → AreOnes terms facts (noted_if x (form e)).invoked (if x then by_expression f e else [])
      ones true = expression_ones f terms facts types (form e) ns e its (kind_is e) stands given
      ones false = tt

      names : (x : Bool) → AreWhollyFound terms facts (noted_if x (form e)).named (if x then named_of f e else [])
      names true = expression_named f terms facts types (form e) ns e its stands
      names false = tt

  abbrev wanted_here : Bool
  wanted_here = bound.is_object_wanted (wanted_in r n)

  module _ (are : wanted_told (wanted_in r n) ≡ wanted f n) where
    kind_so : (k : NodeKind) → is_expression k ≡ true → kind_at nodes n ≡ k → StandsFor f terms facts e its → Given e → IsSo (noted_if wanted_here k) k
    kind_so k is at stands given =
        subst (λ (j : NodeKind). IsSo (noted_if wanted_here j) j) (form_at nodes n (subst (λ (j : NodeKind). is_expression j ≡ true) (sym at) is) ∙ at)
        (expression_so wanted_here (ap is_object_wanted (sym are) ∙ object_wanted (wanted_in r n)) stands given)

    node_so : (k : NodeKind) → kind_at nodes n ≡ k → NodeStandsFor f terms facts k n its → AreOperands f terms (types_given types ns) k n → IsSo (noted_if (is_used_as r k n) k) k
    node_so kind.SetField at stands given = (statement_ones f terms facts types kind.SetField ns (item f n).statement its refl stands given, statement_named f terms facts types kind.SetField ns (item f n).statement its stands)
    node_so kind.SetIndex at stands given = (statement_ones f terms facts types kind.SetIndex ns (item f n).statement its refl stands given, statement_named f terms facts types kind.SetIndex ns (item f n).statement its stands)
    node_so kind.Infix at stands given = kind_so kind.Infix refl at (stands refl) (given refl)
    node_so kind.Prefix at stands given = kind_so kind.Prefix refl at (stands refl) (given refl)
    node_so kind.Paren at stands given = kind_so kind.Paren refl at (stands refl) (given refl)
    node_so kind.Literal at stands given = kind_so kind.Literal refl at (stands refl) (given refl)
    node_so kind.Name at stands given = kind_so kind.Name refl at (stands refl) (given refl)
    node_so kind.Index at stands given = kind_so kind.Index refl at (stands refl) (given refl)
    node_so kind.Get at stands given = kind_so kind.Get refl at (stands refl) (given refl)
    node_so kind.Call at stands given = kind_so kind.Call refl at (stands refl) (given refl)
    node_so kind.Fields at stands given = kind_so kind.Fields refl at (stands refl) (given refl)
    node_so kind.Elems at stands given = kind_so kind.Elems refl at (stands refl) (given refl)
    node_so kind.OperOf at stands given = kind_so kind.OperOf refl at (stands refl) (given refl)
    node_so kind.Force at stands given = kind_so kind.Force refl at (stands refl) (given refl)
    node_so kind.Up at stands given = kind_so kind.Up refl at (stands refl) (given refl)
    node_so kind.Down at stands given = kind_so kind.Down refl at (stands refl) (given refl)
    node_so _ at stands given = (tt, tt)

    pub node_said : NodeStandsFor f terms facts (kind_at nodes n) n its → AreOperands f terms (types_given types ns) (kind_at nodes n) n → AreOnes terms facts (node_noted types r its n).invoked (invocations f n) × AreWhollyFound terms facts (operations_of (node_noted types r its n)) (operations_at f n)
    node_said stands given =
        let so : IsSo (node_noted types r its n) (kind_at nodes n) = node_so (kind_at nodes n) refl stands given in
        (so.0, found_append terms facts (map (λ (one : One). one.operation) (node_noted types r its n).invoked) (node_noted types r its n).named (map (λ (x : Invocation). x.invoked) (invocations f n)) (operations_by f (kind_at nodes n) n) (ones_found terms facts (node_noted types r its n).invoked (invocations f n) so.0) so.1)

    -- of the lists of all nodes, what is read at this one
    pub node_read : (of : ℕ → Noted) (m : ℕ) → AreNoted of (lists_of facts.invocations) m → n < m → of n ≡ node_noted types r its n → NodeStandsFor f terms facts (kind_at nodes n) n its → AreOperands f terms (types_given types ns) (kind_at nodes n) n → AreInvocations terms facts (tables.invocations facts n) (invocations f n) × AreWhollyFound terms facts (tables.operations_at facts n) (operations_at f n)
    node_read of m noted less here stands given =
        let so = node_said stands given in (
          invocations_read terms facts of m noted n less (invocations f n) (subst (λ (x : Noted). AreOnes terms facts x.invoked (invocations f n)) (sym here) so.0),
          subst (λ (os : List Operation). AreWhollyFound terms facts os (operations_at f n)) (sym (operations_read facts of m noted n less ∙ ap operations_of here)) so.1,
        )
