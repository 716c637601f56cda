-- Which nodes the parts of a node are: a reading of the nodes before it that gives each number a name of its own tells one
-- part from another.
use Rattle.std.proofs.Common.{◌≡◌, ◌∙◌, ℕ, Bool, true, false, List, [], ◌∷◌, take, drop, Option, Some, None, refl, ap, sym}
use Rattle.std.proofs.lemmas.Bool.{true≢false}
use Rattle.clu_tree.specs.declared.node.Node.{Node}
use Rattle.clu_tree.specs.declared.node.NodeKind.{NodeKind}
use Rattle.clu_tree.specs.declared.node.NodeKind.TheVariants as kind
use Rattle.clu_syntax.specs.declared.words.Operator.{Operator}
use Rattle.clu_syntax.specs.declared.words.Sign.{Sign}
use Rattle.clu_syntax.specs.declared.words.SimpleType.{SimpleType}
use Rattle.clu_syntax.specs.declared.words.ListType.{ListType}
use Rattle.clu_syntax.specs.declared.words.FieldsType.{FieldsType}
use Rattle.clu_syntax.specs.declared.words.RoutineKind.{RoutineKind}
use Rattle.clu_syntax.specs.Words.{symbol_in, simple_type, literal_of}
use Rattle.clu_syntax.specs.Kinds.{is_expression, is_type}
use Rattle.clu_syntax.specs.Splits.{child, first_name, leading_types, run, parts, after_one}
use Rattle.clu_syntax.specs.Syntax.{Identifier, Expression, a_name, an_infix, a_prefix, a_paren, an_index, elements, elements_from, an_expression, no_constants, TypeExpression, a_simple_type, a_list_type, a_fields_type, a_routine_type, a_named_type, no_types, Literal, a_literal}
use Rattle.clu_syntax.specs.Items.{Item, no_item, no_type, types_at, selectors_at, exceptions_at, constants_at}
use Rattle.clu_syntax.specs.Nodes.{elements_of, expression_of, type_expression_of}

abbrev pub label : ℕ → Item
label c = record no_item {
  expression = a_name c [];
  type = a_named_type c [] no_constants;
  constant = an_expression (a_name c []);
  selector = record { node = c; names = []; type = no_type };
  exception = record { node = c; name = []; types = no_types };
}

types_named : (xs ys : List ℕ) → types_at label xs ≡ types_at label ys → xs ≡ ys
types_named [] [] e = refl
types_named [] (y ∷ ys) e = absurd (cc)
types_named (x ∷ xs) [] e = absurd (cc)
types_named (x ∷ xs) (y ∷ ys) e =
    let first : x ≡ y = cc in
    let rest : types_at label xs ≡ types_at label ys = cc in
    let others : xs ≡ ys = types_named xs ys rest in
    cc

selectors_named : (xs ys : List ℕ) → selectors_at label xs ≡ selectors_at label ys → xs ≡ ys
selectors_named [] [] e = refl
selectors_named [] (y ∷ ys) e = absurd (cc)
selectors_named (x ∷ xs) [] e = absurd (cc)
selectors_named (x ∷ xs) (y ∷ ys) e =
    let first : x ≡ y = cc in
    let rest : selectors_at label xs ≡ selectors_at label ys = cc in
    let others : xs ≡ ys = selectors_named xs ys rest in
    cc

exceptions_named : (xs ys : List ℕ) → exceptions_at label xs ≡ exceptions_at label ys → xs ≡ ys
exceptions_named [] [] e = refl
exceptions_named [] (y ∷ ys) e = absurd (cc)
exceptions_named (x ∷ xs) [] e = absurd (cc)
exceptions_named (x ∷ xs) (y ∷ ys) e =
    let first : x ≡ y = cc in
    let rest : exceptions_at label xs ≡ exceptions_at label ys = cc in
    let others : xs ≡ ys = exceptions_named xs ys rest in
    cc

constants_named : (xs ys : List ℕ) → constants_at label xs ≡ constants_at label ys → xs ≡ ys
constants_named [] [] e = refl
constants_named [] (y ∷ ys) e = absurd (cc)
constants_named (x ∷ xs) [] e = absurd (cc)
constants_named (x ∷ xs) (y ∷ ys) e =
    let first : x ≡ y = cc in
    let rest : constants_at label xs ≡ constants_at label ys = cc in
    let others : xs ≡ ys = constants_named xs ys rest in
    cc

-- ---- elements of a constructor are neither of the constructs below

is_elements : Expression → Bool
is_elements (elements n t es) = true
is_elements (elements_from n t low es) = true
is_elements _ = false

elements_are : (nodes : List Node) (n : ℕ) (t : TypeExpression) (low : Option ℕ) (cs : List ℕ) → is_elements (elements_of label nodes n t low cs) ≡ true
unfolding is_elements
elements_are nodes n t None cs = refl
elements_are nodes n t (Some token) [] = refl
elements_are nodes n t (Some token) (c ∷ cs) = refl

module _ (nodes : List Node) (n : ℕ) (node : Node) where
  not_elements : (e : Expression) → is_elements e ≡ false → e ≡ expression_of label nodes n node kind.Elems → ⊥
  not_elements e differs is = true≢false (sym (elements_are nodes n (label (child 0 node)).type node.value_token (drop 1 node.children)) ∙ sym (ap is_elements is) ∙ differs)

  -- ---- types

  -- each node that is no type counts as a word too
  pub of_word : (k : NodeKind) (w : SimpleType) → is_type k ≡ true → a_simple_type n w ≡ type_expression_of label nodes n node k → (k ≡ kind.Simple) × (w ≡ simple_type (symbol_in node.value))
  of_word kind.Simple w is e = (refl, (cc))
  of_word kind.ListT w is e = absurd (cc)
  of_word kind.FieldsT w is e = absurd (cc)
  of_word kind.RoutineT w is e = absurd (cc)
  of_word kind.NameT w is e = absurd (cc)
  of_word _ w is e = absurd (true≢false (sym is))

  pub of_list : (k : NodeKind) (w : ListType) (of : ℕ) → a_list_type n w (a_named_type of [] no_constants) ≡ type_expression_of label nodes n node k → (k ≡ kind.ListT) × (of ≡ child 0 node)
  of_list kind.ListT w of e = (refl, (cc))
  of_list kind.FieldsT w of e = absurd (cc)
  of_list kind.RoutineT w of e = absurd (cc)
  of_list kind.NameT w of e = absurd (cc)
  of_list _ w of e = absurd (cc)

  pub of_fields : (k : NodeKind) (w : FieldsType) (cs : List ℕ) → a_fields_type n w (selectors_at label cs) ≡ type_expression_of label nodes n node k → (k ≡ kind.FieldsT) × (cs ≡ run nodes kind.FieldT node.children)
  of_fields kind.FieldsT w cs e = (refl, selectors_named cs (run nodes kind.FieldT node.children) (cc))
  of_fields kind.ListT w cs e = absurd (cc)
  of_fields kind.RoutineT w cs e = absurd (cc)
  of_fields kind.NameT w cs e = absurd (cc)
  of_fields _ w cs e = absurd (cc)

  abbrev pub arguments_in : List ℕ
  arguments_in = take (leading_types nodes node.children) node.children

  abbrev pub behind_arguments : List ℕ
  behind_arguments = drop (leading_types nodes node.children) node.children

  abbrev pub results_in : List ℕ
  results_in = parts nodes kind.Results behind_arguments

  abbrev pub exceptions_in : List ℕ
  exceptions_in = run nodes kind.Exc (parts nodes kind.Signals (after_one nodes kind.Results behind_arguments))

  pub of_routine : (k : NodeKind) (w : RoutineKind) (ps rs es : List ℕ) → a_routine_type n w (types_at label ps) (types_at label rs) (exceptions_at label es) ≡ type_expression_of label nodes n node k → (k ≡ kind.RoutineT) × (ps ≡ arguments_in) × (rs ≡ results_in) × (es ≡ exceptions_in)
  of_routine kind.RoutineT w ps rs es e = (refl, types_named ps arguments_in (cc), types_named rs results_in (cc), exceptions_named es exceptions_in (cc))
  of_routine kind.ListT w ps rs es e = absurd (cc)
  of_routine kind.FieldsT w ps rs es e = absurd (cc)
  of_routine kind.NameT w ps rs es e = absurd (cc)
  of_routine _ w ps rs es e = absurd (cc)

  pub of_named : (k : NodeKind) (name : Identifier) (cs : List ℕ) → a_named_type n name (constants_at label cs) ≡ type_expression_of label nodes n node k → (k ≡ kind.NameT) × (name ≡ first_name node.names) × (cs ≡ node.children)
  of_named kind.NameT name cs e = (refl, (cc), constants_named cs node.children (cc))
  of_named kind.ListT name cs e = absurd (cc)
  of_named kind.FieldsT name cs e = absurd (cc)
  of_named kind.RoutineT name cs e = absurd (cc)
  of_named _ name cs e = absurd (cc)

  -- ---- expressions

  pub of_infix : (k : NodeKind) (o : Operator) (a b : ℕ) → an_infix n o (a_name a []) (a_name b []) ≡ expression_of label nodes n node k → (k ≡ kind.Infix) × (a ≡ child 0 node) × (b ≡ child 1 node)
  unfolding is_elements
  of_infix kind.Infix o a b e = (refl, (cc), (cc))
  of_infix kind.Elems o a b e = absurd (not_elements (an_infix n o (a_name a []) (a_name b [])) refl e)
  of_infix _ o a b e = absurd (cc)

  pub of_prefix : (k : NodeKind) (s : Sign) (a : ℕ) → a_prefix n s (a_name a []) ≡ expression_of label nodes n node k → (k ≡ kind.Prefix) × (a ≡ child 0 node)
  unfolding is_elements
  of_prefix kind.Prefix s a e = (refl, (cc))
  of_prefix kind.Elems s a e = absurd (not_elements (a_prefix n s (a_name a [])) refl e)
  of_prefix _ s a e = absurd (cc)

  pub of_paren : (k : NodeKind) (a : ℕ) → a_paren n (a_name a []) ≡ expression_of label nodes n node k → (k ≡ kind.Paren) × (a ≡ child 0 node)
  unfolding is_elements
  of_paren kind.Paren a e = (refl, (cc))
  of_paren kind.Elems a e = absurd (not_elements (a_paren n (a_name a [])) refl e)
  of_paren _ a e = absurd (cc)

  pub of_literal : (k : NodeKind) (l : Literal) → a_literal n l ≡ expression_of label nodes n node k → (k ≡ kind.Literal) × (l ≡ literal_of node.value)
  unfolding is_elements
  of_literal kind.Literal l e = (refl, (cc))
  of_literal kind.Elems l e = absurd (not_elements (a_literal n l) refl e)
  of_literal _ l e = absurd (cc)

  pub of_index : (k : NodeKind) (a : ℕ) (cs : List ℕ) → an_index n (a_name a []) (constants_at label cs) ≡ expression_of label nodes n node k → (k ≡ kind.Index) × (a ≡ child 0 node) × (cs ≡ drop 1 node.children)
  unfolding is_elements
  of_index kind.Index a cs e = (refl, (cc), constants_named cs (drop 1 node.children) (cc))
  of_index kind.Elems a cs e = absurd (not_elements (an_index n (a_name a []) (constants_at label cs)) refl e)
  of_index _ a cs e = absurd (cc)

  -- each node that is no expression counts as a name too
  pub of_name : (k : NodeKind) (name : Identifier) → is_expression k ≡ true → a_name n name ≡ expression_of label nodes n node k → (k ≡ kind.Name) × (name ≡ first_name node.names)
  unfolding is_elements
  of_name kind.Name name is e = (refl, (cc))
  of_name kind.Infix name is e = absurd (cc)
  of_name kind.Prefix name is e = absurd (cc)
  of_name kind.Paren name is e = absurd (cc)
  of_name kind.Literal name is e = absurd (cc)
  of_name kind.Index name is e = absurd (cc)
  of_name kind.Get name is e = absurd (cc)
  of_name kind.Call name is e = absurd (cc)
  of_name kind.Fields name is e = absurd (cc)
  of_name kind.Elems name is e = absurd (not_elements (a_name n name) refl e)
  of_name kind.OperOf name is e = absurd (cc)
  of_name kind.Force name is e = absurd (cc)
  of_name kind.Up name is e = absurd (cc)
  of_name kind.Down name is e = absurd (cc)
  of_name _ name is e = absurd (true≢false (sym is))
