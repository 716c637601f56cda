-- What is read of one node, by the forms of types and expressions, and of the nodes that are settled in an order.
use Rattle.std.proofs.Common.{◌≡◌, ◌∙◌, ℕ, zero, suc, ◌<◌, ◌≤◌, Bool, true, false, ◌&&◌, ◌||◌, List, [], ◌∷◌, ◌++◌, drop, length, set, replicate, Option, Some, None, Result, Ok, Err, IfOk, refl, ap, sym, subst, inl, inr, ◌⊎◌, arith, eqb, eqb-true, ltb-true}
use Rattle.std.specs.Prelude.{slice_get, nat_lt}
use Rattle.std.specs.List.{list_any}
use Rattle.std.specs.Cmp.{nat_eq_equiv}
use Rattle.std.proofs.lemmas.Bool.{true≢false, cases_eq, cases_lt, or_cases, eq-eqb}
use Rattle.std.proofs.lemmas.Map.Made.{length-le_from_is_member}
use Rattle.std.proofs.lemmas.Option.{none-some, same_Some, slice_get_within, slice_get_past}
use Rattle.clu_tree.specs.declared.node.Node.{Node}
use Rattle.clu_tree.specs.declared.node.NodeKind.{NodeKind}
use Rattle.clu_tree.specs.declared.node.NodeKind.TheVariants as kind
use Rattle.clu_tree.specs.Nodes.{IsTree}
use Rattle.clu_parser.specs.Shape.{HaveForms}
use Rattle.clu_syntax.specs.declared.expressions.Expression.{Expression as ExpressionView}
use Rattle.clu_syntax.specs.declared.expressions.Expression.TheVariants as view
use Rattle.clu_syntax.specs.declared.expressions.TypeExpression.{TypeExpression as TypeView}
use Rattle.clu_syntax.specs.declared.words.SimpleType.{SimpleType}
use Rattle.clu_syntax.specs.declared.words.SimpleType.TheVariants as simple
use Rattle.clu_syntax.specs.Kinds.{is_expression, is_type, kind_of, kind_at}
use Rattle.clu_syntax.specs.Slots.{slots, any}
use Rattle.clu_syntax.specs.Slots.{is_constant as is_constant_kind}
use Rattle.clu_syntax.specs.Splits.{child, children_of}
use Rattle.clu_syntax.specs.Syntax.{Expression, a_name, a_paren, an_index, elements, elements_from, TypeExpression, a_simple_type, a_named_type, Constants}
use Rattle.clu_syntax.specs.Items.{Item}
use Rattle.clu_syntax.specs.Nodes.{before, item_with, item_at, elements_of, expression_of}
use Rattle.clu_syntax.specs.Views.{expression_told, type_told}
use Rattle.clu_syntax.proofs.Items.{item_is}
use Rattle.clu_settle.specs.declared.value.Value.{Value}
use Rattle.clu_settle.specs.declared.value.Value.TheVariants as value
use Rattle.clu_settle.specs.declared.meanings.Meaning.{Meaning}
use Rattle.clu_settle.specs.declared.meanings.Meaning.TheVariants as meaning
use Rattle.clu_settle.specs.Lists.{type_id, value_of}
use Rattle.clu_settle.specs.Names.{is_constant, meaning_in}
use Rattle.clu_settle.specs.Steps.{expression_node, type_node}
use Rattle.clu_settle.specs.Standing.{is_lost, right_named, right_named_at, is_cvt_type, is_plain_type, word_stands_for, type_stands_for, index_stands_for, expression_stands_for, stands_for, IsRead, AreReadTo}
use Rattle.clu_settle.specs.Lost.{right_side, made_from, IsMadeFrom, IsOrder, goes_on, IsEndless, AreRead}
use Rattle.clu_settle.proofs.Shapes.{first_part}
use Rattle.clu_settle.proofs.Parts.{There, node_at, before_is, item_there, constant_is, type_is_constant}
use Rattle.clu_settle.proofs.Members.{IsIn, in_front, in_behind}
use Rattle.clu_settle.proofs.Passing.{set_here, set_other, lost_at, once_distinct, node_of_expression, node_of_type}

pub ok_three : {A E : Type 0} (P Q R S : A → Type 0) (r : Result A E) → IfOk r P → IfOk r Q → IfOk r R → ((a : A) → P a → Q a → R a → S a) → IfOk r S
ok_three P Q R S (Ok a) p q t more = more a p q t
ok_three P Q R S (Err e) p q t more = tt

-- ---- numbers below a bound

up_to : ℕ → List ℕ
up_to zero = []
up_to (suc n) = n ∷ up_to n

up_to_length : (n : ℕ) → length (up_to n) ≡ n
unfolding up_to
up_to_length zero = refl
up_to_length (suc n) = ap suc (up_to_length n)

among : (n q : ℕ) → q < n → list_any (eqb q) (up_to n) ≡ true
unfolding up_to
among zero q l = absurd (omega (arith, l))
among (suc n) q l = elim (cases_eq q n) [
  | inl same ↦ ap (λ (b : Bool). b || list_any (eqb q) (up_to n)) (eq-eqb q n same)
  | inr apart ↦ or_behind (eqb q n) (list_any (eqb q) (up_to n)) (among n q (omega (arith, l, apart)))
]
  where
    or_behind : (a b : Bool) → b ≡ true → (a || b) ≡ true
    or_behind true b e = refl
    or_behind false b e = e

place_of : (xs : List ℕ) (q : ℕ) → list_any (eqb q) xs ≡ true → (p : ℕ) × (slice_get xs p ≡ Some q)
place_of [] q e = absurd (true≢false (sym e))
place_of (x ∷ xs) q e = elim (or_cases (eqb q x) (list_any (eqb q) xs) e) [
  | inl here ↦ (0, ap Some (sym (eqb-true q x here)))
  | inr rest ↦ (let more = place_of xs q rest in (suc more.0, more.1))
]

-- ---- lost or not

pub not_lost : (v : Value) → (v ≡ value.Lost → ⊥) → is_lost v ≡ false
not_lost value.Lost f = absurd (f refl)
not_lost value.Nothing f = refl
not_lost (value.Type id) f = refl
not_lost (value.Constant k) f = refl
not_lost (value.Parameter k) f = refl

pub right_is : (m : Meaning) (r : ℕ) → right_named m ≡ Some r → m ≡ meaning.Equate r
right_is (meaning.Equate k) r e = ap meaning.Equate (same_Some k r e)
right_is (meaning.TypeParameter k) r e = absurd (none-some r e)
right_is (meaning.ConstantParameter k) r e = absurd (none-some r e)
right_is meaning.Module r e = absurd (none-some r e)
right_is meaning.Other r e = absurd (none-some r e)

pub cvt_is : (n : ℕ) (w : SimpleType) → is_cvt_type (a_simple_type n w) ≡ true → w ≡ simple.Cvt
cvt_is n simple.Cvt e = refl
cvt_is n simple.Null e = absurd (true≢false (sym e))
cvt_is n simple.Bool e = absurd (true≢false (sym e))
cvt_is n simple.Int e = absurd (true≢false (sym e))
cvt_is n simple.Real e = absurd (true≢false (sym e))
cvt_is n simple.Char e = absurd (true≢false (sym e))
cvt_is n simple.String e = absurd (true≢false (sym e))
cvt_is n simple.Any e = absurd (true≢false (sym e))
cvt_is n simple.Rep e = absurd (true≢false (sym e))

-- ---- what views tell

module _ (nodes : List Node) (n : ℕ) where
  pub type_view : (v w : TypeView) → ((items : ℕ → Item) → type_told items n v ≡ (item_with items nodes n (slice_get nodes n)).type) → v ≡ w → type_told (before n (item_at nodes)) n w ≡ (item_at nodes n).type
  type_view v w told is = ap (type_told (before n (item_at nodes)) n) (sym is) ∙ told (before n (item_at nodes)) ∙ ap (λ (i : Item). i.type) (sym (item_is nodes n))

  pub expression_view : (v w : ExpressionView) → ((items : ℕ → Item) → expression_told items n v ≡ (item_with items nodes n (slice_get nodes n)).expression) → v ≡ w → expression_told (before n (item_at nodes)) n w ≡ (item_at nodes n).expression
  expression_view v w told is = ap (expression_told (before n (item_at nodes)) n) (sym is) ∙ told (before n (item_at nodes)) ∙ ap (λ (i : Item). i.expression) (sym (item_is nodes n))

-- forms that stand for no node
pub other_index : (meanings : List Meaning) (items : ℕ → Item) (n r : ℕ) (v : ExpressionView) → ((name : _) → v ≡ view.Name name → ⊥) → index_stands_for meanings (expression_told items n v) ≡ Some r → ⊥
other_index meanings items n r (view.Name name) f e = f name refl
other_index meanings items n r _ f e = none-some r e

pub other_stands : (meanings : List Meaning) (items : ℕ → Item) (n r : ℕ) (v : ExpressionView) → ((name : _) → v ≡ view.Name name → ⊥) → ((a : ℕ) → v ≡ view.Paren a → ⊥) → ((a : ℕ) (cs : _) → v ≡ view.Index a cs → ⊥) → expression_stands_for meanings (expression_told items n v) ≡ Some r → ⊥
other_stands meanings items n r (view.Name name) f g h e = f name refl
other_stands meanings items n r (view.Paren a) f g h e = g a refl
other_stands meanings items n r (view.Index a cs) f g h e = h a cs refl
other_stands meanings items n r _ f g h e = none-some r e

-- ---- the node of an expression

no_constant_past : (nodes : List Node) (n : ℕ) → length nodes ≤ n → is_constant nodes n ≡ false
no_constant_past nodes n past = ap (λ (its : Option Node). is_expression (kind_of its) || is_type (kind_of its)) (slice_get_past nodes n past)

pub constant_there : (nodes : List Node) (n : ℕ) → is_constant nodes n ≡ true → n < length nodes
constant_there nodes n is = elim (cases_lt n (length nodes)) [
  | inl l ↦ l
  | inr past ↦ absurd (true≢false (sym is ∙ no_constant_past nodes n past))
]

expression_of_none : (items : ℕ → Item) (nodes : List Node) (n : ℕ) (its : There nodes n) → expression_node (item_with items nodes n (Some its.node)).expression ≡ n
expression_of_none items nodes n its = node_of_expression items nodes n its.node its.node.kind

pub expression_there : (nodes : List Node) (n : ℕ) → n < length nodes → expression_node (item_at nodes n).expression ≡ n
expression_there nodes n l =
    let here = node_at nodes n l in
    ap (λ (i : Item). expression_node i.expression) (item_there nodes n here.node here.at) ∙ expression_of_none (before n (item_at nodes)) nodes n here

type_there : (nodes : List Node) (n : ℕ) → n < length nodes → type_node (item_at nodes n).type ≡ n
type_there nodes n l =
    let here = node_at nodes n l in
    ap (λ (i : Item). type_node i.type) (item_there nodes n here.node here.at) ∙ node_of_type (before n (item_at nodes)) nodes n here.node here.node.kind

-- ---- what a node stands for is among what it is made from, or a name before brackets is

is_elements : Expression → Bool
is_elements (elements n t es) = true
is_elements (elements_from n t low es) = true
is_elements _ = false

elements_are : (items : ℕ → Item) (nodes : List Node) (n : ℕ) (t : TypeExpression) (low : Option ℕ) (cs : List ℕ) → is_elements (elements_of items nodes n t low cs) ≡ true
unfolding is_elements
elements_are items nodes n t None cs = refl
elements_are items nodes n t (Some token) [] = refl
elements_are items nodes n t (Some token) (c ∷ cs) = refl

not_elements : (items : ℕ → Item) (nodes : List Node) (n : ℕ) (t : TypeExpression) (low : Option ℕ) (cs : List ℕ) (e : Expression) → is_elements e ≡ false → e ≡ elements_of items nodes n t low cs → ⊥
not_elements items nodes n t low cs e differs is = true≢false (sym (elements_are items nodes n t low cs) ∙ sym (ap is_elements is) ∙ differs)

-- parentheses and brackets are nodes of their kinds, with their first child inside
pub paren_is : (items : ℕ → Item) (nodes : List Node) (n : ℕ) (node : Node) (k : NodeKind) (m : ℕ) (e : Expression) → a_paren m e ≡ expression_of items nodes n node k → (k ≡ kind.Paren) × (e ≡ (items (child 0 node)).expression)
unfolding is_elements
paren_is items nodes n node kind.Paren m e is = (refl, (cc))
paren_is items nodes n node kind.Elems m e is = absurd (not_elements items nodes n (items (child 0 node)).type node.value_token (drop 1 node.children) (a_paren m e) refl is)
paren_is items nodes n node _ m e is = absurd (cc)

pub index_is : (items : ℕ → Item) (nodes : List Node) (n : ℕ) (node : Node) (k : NodeKind) (m : ℕ) (e : Expression) (cs : Constants) → an_index m e cs ≡ expression_of items nodes n node k → (k ≡ kind.Index) × (e ≡ (items (child 0 node)).expression)
unfolding is_elements
index_is items nodes n node kind.Index m e cs is = (refl, (cc))
index_is items nodes n node kind.Elems m e cs is = absurd (not_elements items nodes n (items (child 0 node)).type node.value_token (drop 1 node.children) (an_index m e cs) refl is)
index_is items nodes n node _ m e cs is = absurd (cc)

module _ (nodes : List Node) (meanings : List Meaning) where
  abbrev IsWay : ℕ → ℕ → Type 0
  IsWay n d = IsMadeFrom nodes meanings n d ⊎ ((c : ℕ) × (c < length nodes) × IsMadeFrom nodes meanings n c × IsMadeFrom nodes meanings c d)

  pub name_made : (n r : ℕ) → right_named_at meanings n ≡ Some r → IsMadeFrom nodes meanings n r
  name_made n r e = by (meaning_in (slice_get meanings n)) e
    where
      by : (m : Meaning) → right_named m ≡ Some r → IsIn r (children_of (slice_get nodes n) ++ right_side m)
      by m e = in_behind r (children_of (slice_get nodes n)) (right_side m) (subst (λ (m : Meaning). IsIn r (right_side m)) (sym (right_is m r e)) (0, refl))

  pub first_made : (n : ℕ) (node : Node) → slice_get nodes n ≡ Some node → node.children ≡ child 0 node ∷ drop 1 node.children → IsMadeFrom nodes meanings n (child 0 node)
  first_made n node at is = in_front (child 0 node) (children_of (slice_get nodes n)) (right_side (meaning_in (slice_get meanings n)))
      (subst (λ (cs : List ℕ). IsIn (child 0 node) cs) (sym (ap children_of at ∙ is)) (0, refl))

  word_names : (n d : ℕ) (w : SimpleType) → word_stands_for meanings n w ≡ Some d → right_named_at meanings n ≡ Some d
  word_names n d simple.Rep e = e
  word_names n d simple.Null e = absurd (none-some d e)
  word_names n d simple.Bool e = absurd (none-some d e)
  word_names n d simple.Int e = absurd (none-some d e)
  word_names n d simple.Real e = absurd (none-some d e)
  word_names n d simple.Char e = absurd (none-some d e)
  word_names n d simple.String e = absurd (none-some d e)
  word_names n d simple.Any e = absurd (none-some d e)
  word_names n d simple.Cvt e = absurd (none-some d e)

  type_names : (d : ℕ) (t : TypeExpression) → type_stands_for meanings t ≡ Some d → right_named_at meanings (type_node t) ≡ Some d
  type_names d (a_simple_type n w) e = word_names n d w e
  type_names d (a_named_type n name cs) e = e
  type_names d _ e = absurd (none-some d e)

  index_names : (d : ℕ) (x : Expression) → index_stands_for meanings x ≡ Some d → right_named_at meanings (expression_node x) ≡ Some d
  index_names d (a_name n name) e = e
  index_names d _ e = absurd (none-some d e)

  type_way : (n d : ℕ) → n < length nodes → type_stands_for meanings (item_at nodes n).type ≡ Some d → IsWay n d
  type_way n d l e = inl (name_made n d (ap (right_named_at meanings) (sym (type_there nodes n l)) ∙ type_names d (item_at nodes n).type e))

  module _ (tree : IsTree nodes) (shaped : HaveForms nodes) (n d : ℕ) (node : Node) (at : slice_get nodes n ≡ Some node) where
    abbrev items : ℕ → Item
    items = before n (item_at nodes)

    its : (item_at nodes n).expression ≡ expression_of items nodes n node node.kind
    its = ap (λ (i : Item). i.expression) (item_there nodes n node at)

    there : n < length nodes
    there = slice_get_within nodes n node at

    expression_way : (x : Expression) → x ≡ (item_at nodes n).expression → expression_stands_for meanings x ≡ Some d → IsWay n d
    expression_way (a_name m name) is e =
        let same : m ≡ n = ap expression_node is ∙ expression_there nodes n there in
        inl (name_made n d (ap (right_named_at meanings) (sym same) ∙ e))
    expression_way (a_paren m x) is e =
        let form = paren_is items nodes n node node.kind m x (is ∙ its) in
        let f = first_part nodes tree shaped is_expression [] n node at (ap slots form.0) in
        let below : child 0 node < n = f.first.0 in
        let l : n < length nodes = there in
        let same : expression_node x ≡ child 0 node = ap expression_node (form.1 ∙ ap (λ (i : Item). i.expression) (before_is nodes n (child 0 node) below)) ∙ expression_there nodes (child 0 node) (omega (arith, below, l)) in
        inl (subst (IsMadeFrom nodes meanings n) (sym same ∙ same_Some (expression_node x) d e) (first_made n node at f.is))
    expression_way (an_index m x cs) is e =
        let form = index_is items nodes n node node.kind m x cs (is ∙ its) in
        let f = first_part nodes tree shaped is_expression (any is_constant_kind ∷ []) n node at (ap slots form.0) in
        let below : child 0 node < n = f.first.0 in
        let l : n < length nodes = there in
        let inside : child 0 node < length nodes = omega (arith, below, l) in
        let same : expression_node x ≡ child 0 node = ap expression_node (form.1 ∙ ap (λ (i : Item). i.expression) (before_is nodes n (child 0 node) below)) ∙ expression_there nodes (child 0 node) inside in
        inr (child 0 node, inside, first_made n node at f.is, name_made (child 0 node) d (ap (right_named_at meanings) (sym same) ∙ index_names d x e))
    expression_way _ is e = absurd (none-some d e)

  way : IsTree nodes → HaveForms nodes → (n d : ℕ) → n < length nodes → stands_for meanings (item_at nodes n).constant ≡ Some d → IsWay n d
  way tree shaped n d l e = by (is_type (kind_at nodes n)) refl
    where
      here : There nodes n
      here = node_at nodes n l

      by : (b : Bool) → is_type (kind_at nodes n) ≡ b → IsWay n d
      by true is = type_way n d l (ap (stands_for meanings) (sym (constant_is nodes n true is)) ∙ e)
      by false is = expression_way tree shaped n d here.node here.at (item_at nodes n).expression refl (ap (stands_for meanings) (sym (constant_is nodes n false is)) ∙ e)

  -- ---- the order

  module _ (order : List ℕ) (ordered : IsOrder nodes meanings order) where
    earlier : (n d q : ℕ) → slice_get order q ≡ Some n → d < length nodes → IsWay n d → (p : ℕ) × (p < q) × (slice_get order p ≡ Some d)
    earlier n d q at l (inl made) = ordered.after q n d at made l
    earlier n d q at l (inr h) =
        let first = ordered.after q n h.0 at h.2 h.1 in
        let more = ordered.after first.0 h.0 d first.2 h.3 l in
        let a : first.0 < q = first.1 in
        let b : more.0 < first.0 = more.1 in
        (more.0, omega (arith, a, b), more.2)

    none_any : (f : ℕ → Bool) (ds : List ℕ) → ((i d : ℕ) → slice_get ds i ≡ Some d → f d ≡ false) → list_any f ds ≡ false
    none_any f [] never = refl
    none_any f (d ∷ ds) never = ap (λ (b : Bool). b || list_any f ds) (never 0 d refl) ∙ none_any f ds (λ i e at. never (suc i) e at)

    -- what stands in the order leads to no circle
    ends_next : (steps p n : ℕ) → p < suc steps → slice_get order p ≡ Some n → ((q m : ℕ) → q < steps → slice_get order q ≡ Some m → goes_on nodes meanings steps m ≡ false) → (i d : ℕ) → slice_get (made_from nodes meanings n) i ≡ Some d → (b : Bool) → nat_lt d (length nodes) ≡ b → (b && goes_on nodes meanings steps d) ≡ false
    ends_next steps p n l at fewer i d e false is = refl
    ends_next steps p n l at fewer i d e true is =
        let prior = ordered.after p n d at (i, e) (ltb-true d (length nodes) is) in
        let less : prior.0 < p = prior.1 in
        fewer prior.0 d (omega (arith, less, l)) prior.2

    ends : (steps p n : ℕ) → p < steps → slice_get order p ≡ Some n → goes_on nodes meanings steps n ≡ false
    unfolding goes_on
    ends zero p n l at = absurd (omega (arith, l))
    ends (suc steps) p n l at = none_any (λ d. nat_lt d (length nodes) && goes_on nodes meanings steps d) (made_from nodes meanings n)
        (λ i d e. ends_next steps p n l at (ends steps) i d e (nat_lt d (length nodes)) refl)

    short : length order ≤ length nodes
    short =
        let few : length order ≤ length (up_to (length nodes)) = length-le_from_is_member nat_eq_equiv order (up_to (length nodes)) (once_distinct order ordered.once)
        (λ q e. let at = place_of order q e in among (length nodes) q (ordered.inside at.0 q at.1)) in
        let many : length (up_to (length nodes)) ≡ length nodes = up_to_length (length nodes) in
        omega (arith, few, many)

    never_there : (n : ℕ) → goes_on nodes meanings (length nodes) n ≡ true → (p : ℕ) → slice_get order p ≡ Some n → ⊥
    never_there n endless p at =
        let l : p < length order = slice_get_within order p n at in
        let few : length order ≤ length nodes = short in
        true≢false (sym endless ∙ ends (length nodes) p n (omega (arith, l, few)) at)

    module _ (tree : IsTree nodes) (shaped : HaveForms nodes) (p n : ℕ) (at : slice_get order p ≡ Some n) (there : n < length nodes) (values values' : List Value) (v : Value)
        (read : AreReadTo nodes meanings order p values) (inside : n < length values) (is_set : values' ≡ set values n v) (now : IsRead nodes meanings values n v) where
      new_here : value_of values' n ≡ v
      new_here = ap (λ (vs : List Value). value_of vs n) is_set ∙ set_here values n v inside

      new_other : (m : ℕ) → (m ≡ n → ⊥) → value_of values' m ≡ value_of values m
      new_other m apart = ap (λ (vs : List Value). value_of vs m) is_set ∙ set_other values n m v apart

      at_each : (P : ℕ → Value → Type 0) → P n v → ((m : ℕ) → P m (value_of values m)) → (m : ℕ) → P m (value_of values' m)
      at_each P here others m = elim (cases_eq m n) [
        | inl same ↦ subst (λ (k : ℕ). P k (value_of values' k)) (sym same) (subst (P n) (sym new_here) here)
        | inr apart ↦ subst (P m) (sym (new_other m apart)) (others m)
      ]

      -- the node that a settled one stands for is settled already, and stays as it is
      apart_from : (q m d : ℕ) → q ≤ p → slice_get order q ≡ Some m → m < length nodes → stands_for meanings (item_at nodes m).constant ≡ Some d → d ≡ n → ⊥
      apart_from q m d l e inside' is same =
          let prior = earlier m d q e (subst (λ (k : ℕ). k < length nodes) (sym same) there) (way tree shaped m d inside' is) in
          let less : prior.0 < q = prior.1 in
          let twice : prior.0 ≡ p = ordered.once prior.0 p d prior.2 (at ∙ ap Some (sym same)) in
          absurd (omega (arith, less, twice, l))

      same_more : (q m d : ℕ) → q < suc p → slice_get order q ≡ Some m → is_constant nodes m ≡ true → stands_for meanings (item_at nodes m).constant ≡ Some d → is_lost (value_of values' m) ≡ is_lost (value_of values' d)
      same_more q m d l e is stands =
          let l' : q ≤ p = omega (arith, l) in
          let other : value_of values' d ≡ value_of values d = new_other d (apart_from q m d l' e (constant_there nodes m is) stands) in
          elim (cases_eq q p) [
            | inl same ↦
                let here : m ≡ n = same_Some m n (sym e ∙ ap (slice_get order) same ∙ at) in
                ap (λ (k : ℕ). is_lost (value_of values' k)) here ∙ ap is_lost new_here
                ∙ now.same (sym (ap (is_constant nodes) here) ∙ is) d (ap (λ (k : ℕ). stands_for meanings (item_at nodes k).constant) (sym here) ∙ stands)
                ∙ ap is_lost (sym other)
            | inr apart ↦
                let differs : m ≡ n → ⊥ = λ here. apart (ordered.once q p n (e ∙ ap Some here) at) in
                ap is_lost (new_other m differs) ∙ read.same q m d (omega (arith, l, apart)) e is stands ∙ ap is_lost (sym other)
          ]

      word_more : (q m : ℕ) → q < suc p → slice_get order q ≡ Some m → is_type (kind_at nodes m) ≡ true → is_plain_type (item_at nodes m).type ≡ true → is_lost (value_of values' m) ≡ false
      word_more q m l e is plain = elim (cases_eq q p) [
        | inl same ↦
            let here : m ≡ n = same_Some m n (sym e ∙ ap (slice_get order) same ∙ at) in
            ap (λ (k : ℕ). is_lost (value_of values' k)) here ∙ ap is_lost new_here
            ∙ now.word (sym (ap (λ (k : ℕ). is_type (kind_at nodes k)) here) ∙ is) (sym (ap (λ (k : ℕ). is_plain_type (item_at nodes k).type) here) ∙ plain)
        | inr apart ↦
            let differs : m ≡ n → ⊥ = λ here. apart (ordered.once q p n (e ∙ ap Some here) at) in
            ap is_lost (new_other m differs) ∙ read.word q m (omega (arith, l, apart)) e is plain
      ]

      pub one_read : AreReadTo nodes meanings order (suc p) values'
      one_read = record {
        other = at_each (λ m v. is_constant nodes m ≡ false → type_id v ≡ None) now.other read.other;
        cvt = at_each (λ m v. is_type (kind_at nodes m) ≡ true → is_cvt_type (item_at nodes m).type ≡ true → v ≡ value.Lost) now.cvt read.cvt;
        word = word_more;
        same = same_more;
        unread = λ m never. new_other m (λ same. never p (omega arith) (at ∙ ap Some (sym same))) ∙ read.unread m (λ q l e. never q (omega (arith, l)) e);
      }

    pub read_after : (values : List Value) → AreReadTo nodes meanings order (length order) values → AreRead nodes meanings values
    read_after values read = record {
      other = read.other;
      cvt = read.cvt;
      endless = λ n endless. read.unread n (λ q inside at. never_there n endless q at);
      word = λ n is plain. word_of n is plain (ordered.endless n (constant_there nodes n (type_is_constant nodes n is)));
      same = same_of;
    }
      where
        word_of : (n : ℕ) → is_type (kind_at nodes n) ≡ true → is_plain_type (item_at nodes n).type ≡ true → IsEndless nodes meanings n ⊎ ((p : ℕ) × (slice_get order p ≡ Some n)) → IsEndless nodes meanings n ⊎ (is_lost (value_of values n) ≡ false)
        word_of n is plain (inl endless) = inl endless
        word_of n is plain (inr h) = inr (read.word h.0 n (slice_get_within order h.0 n h.1) h.1 is plain)

        same_of : (n d : ℕ) → is_constant nodes n ≡ true → stands_for meanings (item_at nodes n).constant ≡ Some d → IsEndless nodes meanings n ⊎ (is_lost (value_of values n) ≡ is_lost (value_of values d))
        same_of n d is stands = by (ordered.endless n (constant_there nodes n is))
          where
            by : IsEndless nodes meanings n ⊎ ((p : ℕ) × (slice_get order p ≡ Some n)) → IsEndless nodes meanings n ⊎ (is_lost (value_of values n) ≡ is_lost (value_of values d))
            by (inl endless) = inl endless
            by (inr h) = inr (read.same h.0 n d (slice_get_within order h.0 n h.1) h.1 is stands)

  pub none_more_read : (order : List ℕ) (p n : ℕ) → slice_get order p ≡ Some n → length nodes ≤ n → (values : List Value) → AreReadTo nodes meanings order p values → AreReadTo nodes meanings order (suc p) values
  none_more_read order p n at past values read = record {
    other = read.other;
    cvt = read.cvt;
    word = λ q m l e is plain. elim (cases_eq q p) [
      | inl same ↦
          let here : m ≡ n = same_Some m n (sym e ∙ ap (slice_get order) same ∙ at) in
          absurd (true≢false (sym (type_is_constant nodes m is) ∙ ap (is_constant nodes) here ∙ no_constant_past nodes n past))
      | inr apart ↦ read.word q m (omega (arith, l, apart)) e is plain
    ];
    same = λ q m d l e is stands. elim (cases_eq q p) [
      | inl same ↦
          let here : m ≡ n = same_Some m n (sym e ∙ ap (slice_get order) same ∙ at) in
          absurd (true≢false (sym is ∙ ap (is_constant nodes) here ∙ no_constant_past nodes n past))
      | inr apart ↦ read.same q m d (omega (arith, l, apart)) e is stands
    ];
    unread = λ m never. read.unread m (λ q l e. never q (omega (arith, l)) e);
  }

  pub none_read : (order : List ℕ) (values : List Value) → values ≡ replicate (length nodes) value.Lost → AreReadTo nodes meanings order 0 values
  none_read order values e = record {
    other = λ n is. ap type_id (lost n);
    cvt = λ n is cvt. lost n;
    word = λ q n l at is plain. absurd (omega (arith, l));
    same = λ q n d l at is stands. absurd (omega (arith, l));
    unread = λ n never. lost n;
  }
    where
      lost : (n : ℕ) → value_of values n ≡ value.Lost
      lost n = ap (λ (vs : List Value). value_of vs n) e ∙ lost_at (length nodes) n

pub read_as : (nodes : List Node) (old new : List Meaning) (values : List Value) → old ≡ new → AreRead nodes old values → AreRead nodes new values
read_as nodes old new values e read = subst (λ (meanings : List Meaning). AreRead nodes meanings values) e read
