-- The names in what a node is stand at nodes of which holds what holds of that node, if it holds of the children of each of which it
-- holds.
use Rattle.std.proofs.Common.{◌≡◌, ◌∙◌, ℕ, zero, suc, ◌<◌, ◌≤◌, Bool, true, false, if◌then◌else◌, List, [], ◌∷◌, length, get_or, take, drop, Option, Some, None, refl, sym, ap, subst, arith}
use Rattle.std.specs.Prelude.{slice_get}
use Rattle.std.specs.List.{AllByRecursion}
use Rattle.clu_tree.specs.declared.node.Node.{Node}
use Rattle.clu_tree.specs.declared.node.NodeKind.{NodeKind}
use Rattle.clu_tree.specs.declared.node.NodeKind.TheVariants as kind
use Rattle.clu_tree.specs.Nodes.{IsTree}
use Rattle.clu_parser.specs.Shape.{HaveForms}
use Rattle.clu_syntax.specs.Enough.{HasEnough, least_children}
use Rattle.clu_syntax.specs.Kinds.{is_type, kind_of, kind_at}
use Rattle.clu_syntax.specs.Splits.{child, children_of, is_of, leading, leading_types, run, parts, after_one}
use Rattle.clu_syntax.specs.Syntax.{Expression, TypeExpression}
use Rattle.clu_syntax.specs.Items.{Item, types_at, constants_at, selectors_at, exceptions_at}
use Rattle.clu_syntax.specs.Nodes.{before, item_at, constant_of, elements_of, expression_of, type_expression_of, selector_of, exception_of}
use Rattle.clu_syntax.proofs.Enough.{enough}
use Rattle.clu_declares.proofs.Below.{before_is, item_there, same_kind}
use Rattle.clu_declares.proofs.Facts.{all_take, all_drop}
use Rattle.clu_settle.proofs.Shapes.{AreBefore, AreParts, children_before, run_parts}
use Rattle.clu_passes.proofs.PutMeanings.{ExpressionIn, ConstantIn, ConstantsIn, TypeIn, TypesIn, SelectorsIn, ExceptionsIn}

module _ (nodes : List Node) (tree : IsTree nodes) (shaped : HaveForms nodes) (P : ℕ → Type 0)
    (there : (n : ℕ) → P n → (node : Node) × (slice_get nodes n ≡ Some node))
    (below : (n : ℕ) (node : Node) → slice_get nodes n ≡ Some node → P n → AllByRecursion P node.children) where
  pub record AreNamesIn (n : ℕ) : Type 0 where
    pub expression : ExpressionIn P (item_at nodes n).expression
    pub type : TypeIn P (item_at nodes n).type
    pub constant : ConstantIn P (item_at nodes n).constant
    pub selector : kind_at nodes n ≡ kind.FieldT → TypeIn P (item_at nodes n).selector.type
    pub exception : kind_at nodes n ≡ kind.Exc → TypesIn P (item_at nodes n).exception.types

  -- ---- parts of a node

  abbrev IsPart : ℕ → ℕ → Type 0
  IsPart n c = (c < n) × P c

  abbrev Parts : ℕ → List ℕ → Type 0
  Parts n cs = AllByRecursion (IsPart n) cs

  both : (n m : ℕ) (cs : List ℕ) → m ≤ n → AreBefore m cs → AllByRecursion P cs → Parts n cs
  both n m [] l bs ps = tt
  both n m (c ∷ cs) l bs ps = let less : c < m = bs.0 in ((omega (arith, less, l), ps.0), both n m cs l bs.1 ps.1)

  children_in : (n m : ℕ) (node : Node) → slice_get nodes m ≡ Some node → m ≤ n → P m → Parts n node.children
  children_in n m node at l p = both n m node.children l (children_before nodes tree shaped m node at) (below m node at p)

  child_in : (n i : ℕ) (cs : List ℕ) → Parts n cs → i < length cs → IsPart n (get_or cs i 0)
  child_in n i [] ps l = absurd (omega (arith, l))
  child_in n zero (c ∷ cs) ps l = ps.0
  child_in n (suc i) (c ∷ cs) ps l = child_in n i cs ps.1 (omega (arith, l))

  first_parts : (k : NodeKind) (n : ℕ) (cs : List ℕ) → Parts n cs → Parts n (parts nodes k cs)
  first_parts k n [] ps = tt
  first_parts k n (c ∷ cs) ps = by (is_of k (kind_at nodes c)) (slice_get nodes c) refl
    where
      less : c < n
      less = ps.0.0

      by : (b : Bool) (its : Option Node) → slice_get nodes c ≡ its → Parts n (if b then children_of its else [])
      by true None at = tt
      by true (Some node) at = children_in n c node at (omega (arith, less)) ps.0.1
      by false its at = tt

  after_first : (k : NodeKind) (n : ℕ) (cs : List ℕ) → Parts n cs → Parts n (after_one nodes k cs)
  after_first k n [] ps = tt
  after_first k n (c ∷ cs) ps = by (is_of k (kind_at nodes c))
    where
      by : (b : Bool) → Parts n (if b then cs else c ∷ cs)
      by true = ps.1
      by false = ps

  all_before : (n : ℕ) (cs : List ℕ) → Parts n cs → AreBefore n cs
  all_before n [] ps = tt
  all_before n (c ∷ cs) ps = (ps.0.0, all_before n cs ps.1)

  -- ---- where it is so of the nodes before

  module _ (n : ℕ) (known : (c : ℕ) → c < n → P c → AreNamesIn c) where
    abbrev its : ℕ → Item
    its = before n (item_at nodes)

    same : (c : ℕ) → c < n → item_at nodes c ≡ its c
    same c less = sym (before_is nodes n c less)

    expression_part : (c : ℕ) → IsPart n c → ExpressionIn P (its c).expression
    expression_part c p = subst (λ (i : Item). ExpressionIn P i.expression) (same c p.0) (known c p.0 p.1).expression

    type_part : (c : ℕ) → IsPart n c → TypeIn P (its c).type
    type_part c p = subst (λ (i : Item). TypeIn P i.type) (same c p.0) (known c p.0 p.1).type

    types_in : (cs : List ℕ) → Parts n cs → TypesIn P (types_at its cs)
    types_in [] ps = tt
    types_in (c ∷ cs) ps = (type_part c ps.0, types_in cs ps.1)

    constants_in : (cs : List ℕ) → Parts n cs → ConstantsIn P (constants_at its cs)
    constants_in [] ps = tt
    constants_in (c ∷ cs) ps = (subst (λ (i : Item). ConstantIn P i.constant) (same c ps.0.0) (known c ps.0.0 ps.0.1).constant, constants_in cs ps.1)

    selectors_in : (cs : List ℕ) → Parts n cs → AreParts nodes (is_of kind.FieldT) n cs → SelectorsIn P (selectors_at its cs)
    selectors_in [] ps ks = tt
    selectors_in (c ∷ cs) ps ks = (
      subst (λ (i : Item). TypeIn P i.selector.type) (same c ps.0.0) ((known c ps.0.0 ps.0.1).selector (same_kind kind.FieldT (kind_at nodes c) ks.0.1)),
      selectors_in cs ps.1 ks.1,
    )

    exceptions_in : (cs : List ℕ) → Parts n cs → AreParts nodes (is_of kind.Exc) n cs → ExceptionsIn P (exceptions_at its cs)
    exceptions_in [] ps ks = tt
    exceptions_in (c ∷ cs) ps ks = (
      subst (λ (i : Item). TypesIn P i.exception.types) (same c ps.0.0) ((known c ps.0.0 ps.0.1).exception (same_kind kind.Exc (kind_at nodes c) ks.0.1)),
      exceptions_in cs ps.1 ks.1,
    )

    -- ---- expressions and types by their kinds

    module _ (node : Node) (ps : Parts n node.children) (has : HasEnough node) (p : P n) where
      part_at : (k : NodeKind) (i : ℕ) → node.kind ≡ k → i < least_children k → IsPart n (child i node)
      part_at k i is l =
          let same : least_children node.kind ≡ least_children k = ap least_children is in
          let least : least_children node.kind ≤ length node.children = has.children in
          child_in n i node.children ps (omega (arith, same, least, l))

      elements_in : (t : TypeExpression) (token : Option ℕ) (cs : List ℕ) → ExpressionIn P (elements_of its nodes n t token cs)
      elements_in t None cs = tt
      elements_in t (Some token) [] = tt
      elements_in t (Some token) (c ∷ cs) = tt

      expression_in : (k : NodeKind) → node.kind ≡ k → ExpressionIn P (expression_of its nodes n node k)
      expression_in kind.Infix is = (expression_part (child 0 node) (part_at kind.Infix 0 is (omega arith)), expression_part (child 1 node) (part_at kind.Infix 1 is (omega arith)))
      expression_in kind.Prefix is = expression_part (child 0 node) (part_at kind.Prefix 0 is (omega arith))
      expression_in kind.Paren is = expression_part (child 0 node) (part_at kind.Paren 0 is (omega arith))
      expression_in kind.Literal is = tt
      expression_in kind.Name is = p
      expression_in kind.Index is = (expression_part (child 0 node) (part_at kind.Index 0 is (omega arith)), constants_in (drop 1 node.children) (all_drop (IsPart n) 1 node.children ps))
      expression_in kind.Get is = tt
      expression_in kind.Call is = tt
      expression_in kind.Fields is = tt
      expression_in kind.Elems is = elements_in (its (child 0 node)).type node.value_token (drop 1 node.children)
      expression_in kind.OperOf is = tt
      expression_in kind.Force is = tt
      expression_in kind.Up is = tt
      expression_in kind.Down is = tt
      expression_in _ is = p

      type_in : (k : NodeKind) → node.kind ≡ k → TypeIn P (type_expression_of its nodes n node k)
      type_in kind.ListT is = type_part (child 0 node) (part_at kind.ListT 0 is (omega arith))
      type_in kind.FieldsT is =
          selectors_in (run nodes kind.FieldT node.children) (all_take (IsPart n) (leading nodes kind.FieldT node.children) node.children ps)
          (run_parts nodes kind.FieldT n node.children (all_before n node.children ps))
      type_in kind.RoutineT is =
          let rest : List ℕ = drop (leading_types nodes node.children) node.children in
          let behind : Parts n rest = all_drop (IsPart n) (leading_types nodes node.children) node.children ps in
          let raised : List ℕ = parts nodes kind.Signals (after_one nodes kind.Results rest) in
          let raised_in : Parts n raised = first_parts kind.Signals n (after_one nodes kind.Results rest) (after_first kind.Results n rest behind) in (
            types_in (take (leading_types nodes node.children) node.children) (all_take (IsPart n) (leading_types nodes node.children) node.children ps),
            types_in (parts nodes kind.Results rest) (first_parts kind.Results n rest behind),
            exceptions_in (run nodes kind.Exc raised) (all_take (IsPart n) (leading nodes kind.Exc raised) raised raised_in) (run_parts nodes kind.Exc n raised (all_before n raised raised_in)),
          )
      type_in kind.NameT is = (p, constants_in node.children ps)
      type_in _ is = p

      constant_in : (b : Bool) (e : Expression) (t : TypeExpression) → ExpressionIn P e → TypeIn P t → ConstantIn P (constant_of b e t)
      constant_in true e t x y = y
      constant_in false e t x y = x

      whole : slice_get nodes n ≡ Some node → AreNamesIn n
      whole at =
          let stands = sym (item_there nodes n node at) in
          let e = expression_in node.kind refl in
          let t = type_in node.kind refl in
          record {
            expression = subst (λ (i : Item). ExpressionIn P i.expression) stands e;
            type = subst (λ (i : Item). TypeIn P i.type) stands t;
            constant = subst (λ (i : Item). ConstantIn P i.constant) stands (constant_in (is_type node.kind) (expression_of its nodes n node node.kind) (type_expression_of its nodes n node node.kind) e t);
            selector = λ is.
                (let its_kind : node.kind ≡ kind.FieldT = sym (ap kind_of at) ∙ is in
                subst (λ (i : Item). TypeIn P i.selector.type) stands
                (subst (λ (k : NodeKind). TypeIn P (selector_of its nodes n node k).type) (sym its_kind) (type_part (child 0 node) (part_at kind.FieldT 0 its_kind (omega arith)))));
            exception = λ is.
                (let its_kind : node.kind ≡ kind.Exc = sym (ap kind_of at) ∙ is in
                subst (λ (i : Item). TypesIn P i.exception.types) stands
                (subst (λ (k : NodeKind). TypesIn P (exception_of its nodes n node k).types) (sym its_kind) (types_in node.children ps)));
          }

  -- ---- of all

  up_to : (m n : ℕ) → n < m → P n → AreNamesIn n
  up_to zero n l p = absurd (omega (arith, l))
  up_to (suc m) n l p =
      let its_node = there n p in
      whole n (λ c less q. up_to m c (omega (arith, less, l)) q) its_node.0 (children_in n n its_node.0 its_node.1 (omega arith) p) (enough nodes shaped n its_node.0 its_node.1) p its_node.1

  pub names_in : (n : ℕ) → P n → AreNamesIn n
  names_in n p = up_to (suc n) n (omega arith) p
