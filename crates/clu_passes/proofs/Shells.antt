-- What is noted of an expression asks of its parts only which expression it is.
use Rattle.std.proofs.Common.{◌≡◌, ◌∙◌, ℕ, true, false, List, [], ◌∷◌, drop, slice_get, Option, Some, None, refl, sym, ap, subst}
use Rattle.std.proofs.lemmas.Bool.{true≢false}
use Rattle.clu_tree.specs.declared.node.Node.{Node}
use Rattle.clu_tree.specs.declared.node.NodeKind.{NodeKind}
use Rattle.clu_tree.specs.declared.node.NodeKind.TheVariants as kind
use Rattle.clu_types.specs.declared.term.Term.{Term}
use Rattle.clu_types.specs.declared.term.TypeId.{TypeId}
use Rattle.clu_syntax.specs.declared.words.SimpleType.TheVariants as simple
use Rattle.clu_syntax.specs.Items.{Item}
use Rattle.clu_syntax.specs.Kinds.{is_expression, kind_of, kind_at}
use Rattle.clu_syntax.specs.Nodes.{before, item_at, item_with, elements_of, expression_of}
use Rattle.clu_syntax.specs.Syntax.{Expression, an_infix, a_prefix, a_paren, a_literal, a_name, an_index, a_get, a_call, fields, elements, elements_from, an_operation, a_force, an_up, a_down, nil, no_expressions, no_constants, no_components, TypeExpression, a_simple_type}
use Rattle.clu_declares.proofs.Below.{item_there}
use Rattle.clu_bindings.specs.declared.file.File.{File}
use Rattle.clu_bindings.specs.declared.file.Headed.{Headed}
use Rattle.clu_operations.specs.declared.finding.Finding.{Finding}
use Rattle.clu_typing.specs.declared.applied.Applied.{Applied}
use Rattle.clu_typing.specs.Stands.{stands_by}
use Rattle.clu_typing.specs.Typing.{IsTypeBy}
use Rattle.clu_passes.specs.NodeTypes.{number_of}

abbrev some_expression : Expression
some_expression = a_literal 0 nil

abbrev some_type : TypeExpression
some_type = a_simple_type 0 simple.Null

-- the expression with any parts
abbrev shell : Expression → Expression
shell (an_infix m o a b) = an_infix m o some_expression some_expression
shell (a_prefix m s e) = a_prefix m s some_expression
shell (a_paren m e) = a_paren m some_expression
shell (a_literal m l) = a_literal m l
shell (a_name m name) = a_name m name
shell (an_index m e cs) = an_index m some_expression no_constants
shell (a_get m e name) = a_get m some_expression name
shell (a_call m e es) = a_call m some_expression no_expressions
shell (fields m t cs) = fields m some_type no_components
shell (elements m t es) = elements m some_type no_expressions
shell (elements_from m t e es) = elements_from m some_type some_expression no_expressions
shell (an_operation m t name) = an_operation m some_type name
shell (a_force m t) = a_force m some_type
shell (an_up m e) = an_up m some_expression
shell (a_down m e) = a_down m some_expression

module _ (one other : ℕ → Item) (nodes : List Node) (n : ℕ) where
  elements_same : (s t : TypeExpression) (token : Option ℕ) (cs : List ℕ) → shell (elements_of one nodes n s token cs) ≡ shell (elements_of other nodes n t token cs)
  elements_same s t None cs = refl
  elements_same s t (Some token) [] = refl
  elements_same s t (Some token) (c ∷ cs) = refl

  same : (node : Node) (k : NodeKind) → shell (expression_of one nodes n node k) ≡ shell (expression_of other nodes n node k)
  same node kind.Infix = refl
  same node kind.Prefix = refl
  same node kind.Paren = refl
  same node kind.Literal = refl
  same node kind.Name = refl
  same node kind.Index = refl
  same node kind.Get = refl
  same node kind.Call = refl
  same node kind.Fields = refl
  same node kind.Elems = elements_same _ _ node.value_token (drop 1 node.children)
  same node kind.OperOf = refl
  same node kind.Force = refl
  same node kind.Up = refl
  same node kind.Down = refl
  same node _ = refl

  elements_number : (t : TypeExpression) (token : Option ℕ) (cs : List ℕ) → number_of (elements_of one nodes n t token cs) ≡ n
  elements_number t None cs = refl
  elements_number t (Some token) [] = refl
  elements_number t (Some token) (c ∷ cs) = refl

  number : (node : Node) (k : NodeKind) → number_of (expression_of one nodes n node k) ≡ n
  number node kind.Infix = refl
  number node kind.Prefix = refl
  number node kind.Paren = refl
  number node kind.Literal = refl
  number node kind.Name = refl
  number node kind.Index = refl
  number node kind.Get = refl
  number node kind.Call = refl
  number node kind.Fields = refl
  number node kind.Elems = elements_number _ node.value_token (drop 1 node.children)
  number node kind.OperOf = refl
  number node kind.Force = refl
  number node kind.Up = refl
  number node kind.Down = refl
  number node _ = refl

-- the expression at a node has its number
pub number_at : (nodes : List Node) (n : ℕ) → is_expression (kind_at nodes n) ≡ true → number_of (item_at nodes n).expression ≡ n
number_at nodes n is = by (slice_get nodes n) refl
  where
    by : (its : Option Node) → slice_get nodes n ≡ its → number_of (item_at nodes n).expression ≡ n
    by None at = absurd (true≢false (sym is ∙ ap (λ (x : Option Node). is_expression (kind_of x)) at))
    by (Some node) at = ap (λ (x : Item). number_of x.expression) (item_there nodes n node at) ∙ number (before n (item_at nodes)) (before n (item_at nodes)) nodes n node node.kind

shell_at : (items : ℕ → Item) (nodes : List Node) (n : ℕ) → is_expression (kind_at nodes n) ≡ true → shell (item_with items nodes n (slice_get nodes n)).expression ≡ shell (item_at nodes n).expression
shell_at items nodes n is = by (slice_get nodes n) refl
  where
    by : (its : Option Node) → slice_get nodes n ≡ its → shell (item_with items nodes n (slice_get nodes n)).expression ≡ shell (item_at nodes n).expression
    by None at = absurd (true≢false (sym is ∙ ap (λ (x : Option Node). is_expression (kind_of x)) at))
    by (Some node) at =
        ap (λ (x : Option Node). shell (item_with items nodes n x).expression) at
        ∙ same items (before n (item_at nodes)) nodes n node node.kind
        ∙ sym (ap (λ (x : Item). shell x.expression) (item_there nodes n node at))

-- ---- that for which it stands, and its type

stands_shell : (f : File) (known : List (Option TypeId)) (n : ℕ) (e : Expression) → stands_by f known n e ≡ stands_by f known n (shell e)
unfolding stands_by
stands_shell f known n (an_infix m o a b) = refl
stands_shell f known n _ = refl

pub stands_at_node : (items : ℕ → Item) (nodes : List Node) (n : ℕ) → is_expression (kind_at nodes n) ≡ true → (f : File) (known : List (Option TypeId)) → stands_by f known n (item_with items nodes n (slice_get nodes n)).expression ≡ stands_by f known n (item_at nodes n).expression
stands_at_node items nodes n is f known =
    stands_shell f known n (item_with items nodes n (slice_get nodes n)).expression
    ∙ ap (stands_by f known n) (shell_at items nodes n is)
    ∙ sym (stands_shell f known n (item_at nodes n).expression)

module _ (old new : List Term) (before_it after : Finding) (h : Headed) (n : ℕ) (its : Applied) (known : List (Option TypeId)) (items : ℕ → Item) (of : Option TypeId) where
  abbrev Typed : Expression → Type 0
  Typed e = IsTypeBy old new before_it after h n its known items e of

  to_shell : (e : Expression) → Typed e → Typed (shell e)
  unfolding IsTypeBy
  to_shell (an_infix m o a b) is = is
  to_shell _ is = is

  from_shell : (e : Expression) → Typed (shell e) → Typed e
  unfolding IsTypeBy
  from_shell (an_infix m o a b) is = is
  from_shell _ is = is

  pub typed_at_node : (nodes : List Node) → is_expression (kind_at nodes n) ≡ true → Typed (item_with items nodes n (slice_get nodes n)).expression → Typed (item_at nodes n).expression
  typed_at_node nodes expressed is =
      from_shell (item_at nodes n).expression (subst Typed (shell_at items nodes n expressed) (to_shell (item_with items nodes n (slice_get nodes n)).expression is))
