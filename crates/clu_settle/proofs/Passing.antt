-- One node more is settled, and the end of the pass.
use Rattle.std.proofs.Common.{◌≡◌, ◌∙◌, ℕ, zero, suc, ◌+◌, ◌<◌, ◌≤◌, Bool, true, false, eqb, ◌||◌, List, [], ◌∷◌, ◌++◌, length, set, replicate, Option, Some, None, refl, ap, sym, subst, inl, inr, arith, length-append}
use Rattle.std.specs.Prelude.{slice_get}
use Rattle.std.specs.List.{All, IsDistinct, AllByRecursion, list_any}
use Rattle.std.proofs.lemmas.Bool.{cases_eq, ne_eqb, eq-eqb}
use Rattle.std.proofs.lemmas.List.Elements.{All-set, All-nil, All-cons}
use Rattle.std.proofs.lemmas.Option.{none-some, same_Some}
use Rattle.std.proofs.Math.ListN.{length-set}
use Rattle.clu_base.specs.declared.constants.Const.{Const}
use Rattle.clu_tree.specs.declared.node.Node.{Node}
use Rattle.clu_tree.specs.declared.node.NodeKind.{NodeKind}
use Rattle.clu_tree.specs.declared.node.NodeKind.TheVariants as kind
use Rattle.clu_tree.specs.Nodes.{IsTree}
use Rattle.clu_parser.specs.Shape.{HaveForms}
use Rattle.clu_types.specs.declared.term.Term.{Term}
use Rattle.clu_types.specs.Arena.{types_of, Grows}
use Rattle.clu_names.specs.declared.scopes.Declared.{Declared}
use Rattle.clu_names.specs.Denotes.{found}
use Rattle.clu_syntax.specs.Syntax.{Identifier, Constant, TypeExpression}
use Rattle.clu_syntax.specs.Kinds.{is_type}
use Rattle.clu_syntax.specs.Splits.{child}
use Rattle.clu_syntax.specs.Items.{Item}
use Rattle.clu_syntax.specs.Nodes.{before, item_with, item_at, constant_of, elements_of, expression_of, type_expression_of}
use Rattle.clu_meaning.specs.Scoping as means
use Rattle.clu_meaning.specs.Scoping.{Bindings, Scope, meaning_of, bound_at, declared_at, declaration_at}
use Rattle.clu_meaning.specs.Settling.{Value as Settled, value_of_constant, unfolded_to}
use Rattle.clu_settle.specs.declared.value.Value.{Value}
use Rattle.clu_settle.specs.declared.value.Value.TheVariants as value
use Rattle.clu_settle.specs.declared.meanings.Meaning.{Meaning}
use Rattle.clu_settle.specs.declared.meanings.Meaning.TheVariants as meaning
use Rattle.clu_settle.specs.Values.{told, Agrees, TypeWithin, ConstantWithin, IsWithin, AreWithin, Kept}
use Rattle.clu_settle.specs.Lists.{value_of}
use Rattle.clu_settle.specs.Names.{is_constant, Means, AreMeanings}
use Rattle.clu_settle.specs.Known.{AreKnown}
use Rattle.clu_settle.specs.Steps.{expression_node, type_node, constant_node, right_in, rights_in, is_right, counted, ArePassed}
use Rattle.clu_settle.specs.Settled.{AreSettled}
use Rattle.clu_settle.proofs.Counted.{counted_more, counted_here, counted_few}
use Rattle.clu_settle.proofs.Telling.{told_kept}
use Rattle.clu_settle.proofs.Within.{value_has, all_more, more_types, more_constants}
use Rattle.clu_syntax.proofs.Items.{item_is}

-- ---- the node of a constant

elements_node : (items : ℕ → Item) (nodes : List Node) (n : ℕ) (t : TypeExpression) (low : Option ℕ) (cs : List ℕ) → expression_node (elements_of items nodes n t low cs) ≡ n
elements_node items nodes n t None cs = refl
elements_node items nodes n t (Some token) [] = refl
elements_node items nodes n t (Some token) (c ∷ cs) = refl

pub node_of_expression : (items : ℕ → Item) (nodes : List Node) (n : ℕ) (node : Node) (k : NodeKind) → expression_node (expression_of items nodes n node k) ≡ n
node_of_expression items nodes n node kind.Infix = refl
node_of_expression items nodes n node kind.Elems = elements_node items nodes n (items (child 0 node)).type node.value_token _
node_of_expression items nodes n node _ = refl

pub node_of_type : (items : ℕ → Item) (nodes : List Node) (n : ℕ) (node : Node) (k : NodeKind) → type_node (type_expression_of items nodes n node k) ≡ n
node_of_type items nodes n node kind.ListT = refl
node_of_type items nodes n node _ = refl

node_of_constant : (items : ℕ → Item) (nodes : List Node) (n : ℕ) (node : Node) (b : Bool) → constant_node (constant_of b (expression_of items nodes n node node.kind) (type_expression_of items nodes n node node.kind)) ≡ n
node_of_constant items nodes n node true = node_of_type items nodes n node node.kind
node_of_constant items nodes n node false = node_of_expression items nodes n node node.kind

none_there : (nodes : List Node) (n : ℕ) → slice_get nodes n ≡ None → n < length nodes → ⊥
none_there [] n e l = omega (arith, l)
none_there (x ∷ xs) zero e l = cc
none_there (x ∷ xs) (suc n) e l = none_there xs n e (omega (arith, l))

its_node : (nodes : List Node) (n : ℕ) (its : Option Node) → slice_get nodes n ≡ its → n < length nodes → constant_node (item_with (before n (item_at nodes)) nodes n its).constant ≡ n
its_node nodes n None at l = absurd (none_there nodes n at l)
its_node nodes n (Some node) at l = node_of_constant (before n (item_at nodes)) nodes n node (is_type node.kind)

pub node_there : (nodes : List Node) (n : ℕ) → n < length nodes → constant_node (item_at nodes n).constant ≡ n
node_there nodes n l = ap (λ (i : Item). constant_node i.constant) (item_is nodes n) ∙ its_node nodes n (slice_get nodes n) refl l

-- ---- right sides

among : (n : ℕ) (xs ys : List ℕ) → list_any (eqb n) ys ≡ true → list_any (eqb n) (xs ++ ys) ≡ true
among n [] ys e = e
among n (x ∷ xs) ys e = by (eqb n x) (among n xs ys e)
  where
    by : (b : Bool) → list_any (eqb n) (xs ++ ys) ≡ true → (b || list_any (eqb n) (xs ++ ys)) ≡ true
    by true rest = refl
    by false rest = rest

same_eqb : (n : ℕ) → eqb n n ≡ true
same_eqb n = eq-eqb n n refl

right_first : (c : Constant) (m : means.Meaning) (ys : List ℕ) → m ≡ means.is_equate c → list_any (eqb (constant_node c)) (right_in m ++ ys) ≡ true
right_first c m ys e =
    subst (λ (m : means.Meaning). list_any (eqb (constant_node c)) (right_in m ++ ys) ≡ true) (sym e)
    (ap (λ (b : Bool). b || list_any (eqb (constant_node c)) ys) (same_eqb (constant_node c)))

right_among : (bindings : Bindings) (ds : List Declared) (k : ℕ) (d : Declared) (c : Constant) → slice_get ds k ≡ Some d → bound_at bindings d.node d.name ≡ means.is_equate c → list_any (eqb (constant_node c)) (rights_in bindings ds) ≡ true
right_among bindings [] k d c e is = absurd (none-some d e)
right_among bindings (x ∷ ds) zero d c e is = right_first c (bound_at bindings x.node x.name) (rights_in bindings ds) (ap (λ (d : Declared). bound_at bindings d.node d.name) (same_Some x d e) ∙ is)
right_among bindings (x ∷ ds) (suc k) d c e is = among (constant_node c) (right_in (bound_at bindings x.node x.name)) (rights_in bindings ds) (right_among bindings ds k d c e is)

right_declared : (scope : Scope) (k : Option ℕ) (c : Constant) → (declared_at scope k (declaration_at scope k)).1 ≡ means.is_equate c → list_any (eqb (constant_node c)) (rights_in scope.bindings scope.declarations) ≡ true
right_declared scope None c e = absurd (cc)
right_declared scope (Some k) c e = by (slice_get scope.declarations k) refl e
  where
    by : (its : Option Declared) → slice_get scope.declarations k ≡ its → (declared_at scope (Some k) its).1 ≡ means.is_equate c → list_any (eqb (constant_node c)) (rights_in scope.bindings scope.declarations) ≡ true
    by None at e = absurd (cc)
    by (Some d) at e = right_among scope.bindings scope.declarations k d c at e

pub equate_is_right : (scope : Scope) (n : ℕ) (name : Identifier) (c : Constant) → meaning_of scope n name ≡ means.is_equate c → is_right scope (constant_node c) ≡ true
equate_is_right scope n name c e = right_declared scope (found scope.declarations name n) c e

few_in : (m : means.Meaning) → length (right_in m) ≤ 1
few_in (means.is_equate c) = omega arith
few_in _ = omega arith

few_rights : (bindings : Bindings) (ds : List Declared) → length (rights_in bindings ds) ≤ length ds
few_rights bindings [] = omega arith
few_rights bindings (d ∷ ds) =
    let one : length (right_in (bound_at bindings d.node d.name)) ≤ 1 = few_in (bound_at bindings d.node d.name) in
    let more : length (rights_in bindings ds) ≤ length ds = few_rights bindings ds in
    let both : length (rights_in bindings (d ∷ ds)) ≡ length (right_in (bound_at bindings d.node d.name)) + length (rights_in bindings ds) = length-append (right_in (bound_at bindings d.node d.name)) (rights_in bindings ds) in
    omega (arith, one, more, both)

-- ---- the table

pub set_here : (xs : List Value) (n : ℕ) (v : Value) → n < length xs → value_of (set xs n v) n ≡ v
set_here [] n v l = absurd (omega (arith, l))
set_here (x ∷ xs) zero v l = refl
set_here (x ∷ xs) (suc n) v l = set_here xs n v (omega (arith, l))

pub set_other : (xs : List Value) (n m : ℕ) (v : Value) → (m ≡ n → ⊥) → value_of (set xs n v) m ≡ value_of xs m
set_other [] n m v apart = refl
set_other (x ∷ xs) zero zero v apart = absurd (apart refl)
set_other (x ∷ xs) zero (suc m) v apart = refl
set_other (x ∷ xs) (suc n) zero v apart = refl
set_other (x ∷ xs) (suc n) (suc m) v apart = set_other xs n m v (λ e. apart (ap suc e))

-- ---- a step

abbrev pub IsMade : List Node → List Meaning → List Term → List Const → List Value → List Term → List Const → ℕ → Value → Type 0
IsMade nodes meanings types constants values types' constants' n v = (scope : Scope) (unfolded : Constant → Settled) → AreKnown nodes scope meanings (types_of types) constants values unfolded → is_constant nodes n ≡ true → Agrees (told (types_of types') constants' v) (value_of_constant scope unfolded (item_at nodes n).constant)

module _ (nodes : List Node) (meanings : List Meaning) (order : List ℕ) (p n : ℕ) (at : slice_get order p ≡ Some n)
    (types types' : List Term) (constants constants' : List Const) (values values' : List Value) (v : Value)
    (passed : ArePassed nodes meanings order p types constants values) (there : n < length nodes)
    (grows : Grows types types') (kept : Kept constants constants') (is_set : values' ≡ set values n v)
    (within : IsWithin (length types') (length constants') v) (made : IsMade nodes meanings types constants values types' constants' n v) where
  inside : n < length values
  inside = let size : length values ≡ length nodes = passed.size in omega (arith, there, size)

  new_here : value_of values' n ≡ v
  new_here = ap (λ (vs : List Value). value_of vs n) is_set ∙ set_here values n v inside

  new_other : (m : ℕ) → (m ≡ n → ⊥) → told (types_of types') constants' (value_of values' m) ≡ told (types_of types) constants (value_of values m)
  new_other m apart =
      ap (λ (vs : List Value). told (types_of types') constants' (value_of vs m)) is_set
      ∙ ap (told (types_of types') constants') (set_other values n m v apart)
      ∙ told_kept types types' constants constants' grows kept (value_of values m)
      (value_has (TypeWithin (length types)) tt values m passed.within.0)
      (value_has (ConstantWithin (length constants)) tt values m passed.within.1)

  agrees_other : (m : ℕ) (s : Settled) → (m ≡ n → ⊥) → Agrees (told (types_of types) constants (value_of values m)) s → Agrees (told (types_of types') constants' (value_of values' m)) s
  agrees_other m s apart a = subst (λ (o : Option Settled). Agrees o s) (sym (new_other m apart)) a

  agrees_here : (s : Settled) → Agrees (told (types_of types') constants' v) s → Agrees (told (types_of types') constants' (value_of values' n)) s
  agrees_here s a = subst (λ (x : Value). Agrees (told (types_of types') constants' x) s) (sym new_here) a

  module _ (scope : Scope) (meant : AreMeanings nodes scope meanings) where
    fewer : (steps : ℕ) → counted (is_right scope) order (suc p) ≤ steps → counted (is_right scope) order p ≤ steps
    fewer steps enough =
        let less : counted (is_right scope) order p ≤ counted (is_right scope) order (suc p) = counted_more (is_right scope) order p (suc p) (omega arith) in
        omega (arith, less, enough)

    each_more : (steps m : ℕ) → counted (is_right scope) order (suc p) ≤ steps → is_constant nodes m ≡ true → Agrees (told (types_of types') constants' (value_of values' m)) (value_of_constant scope (unfolded_to scope steps) (item_at nodes m).constant)
    each_more steps m enough is = elim (cases_eq m n) [
      | inl same ↦ subst (λ (m : ℕ). Agrees (told (types_of types') constants' (value_of values' m)) (value_of_constant scope (unfolded_to scope steps) (item_at nodes m).constant)) (sym same)
          (agrees_here (value_of_constant scope (unfolded_to scope steps) (item_at nodes n).constant)
          (made scope (unfolded_to scope steps) (passed.known scope meant steps (fewer steps enough)) (subst (λ (m : ℕ). is_constant nodes m ≡ true) same is)))
      | inr apart ↦ agrees_other m (value_of_constant scope (unfolded_to scope steps) (item_at nodes m).constant) apart ((passed.known scope meant steps (fewer steps enough)).each m is)
    ]

    -- a right side that is settled now takes a step more
    right_here : (steps : ℕ) → is_right scope n ≡ true → is_constant nodes n ≡ true → counted (is_right scope) order (suc p) ≤ steps → Agrees (told (types_of types') constants' (value_of values' n)) (unfolded_to scope steps (item_at nodes n).constant)
    unfolding unfolded_to
    right_here zero right is enough =
        let here : counted (is_right scope) order (suc p) ≡ counted (is_right scope) order p + 1 = counted_here (is_right scope) order p n at right in
        absurd (omega (arith, here, enough))
    right_here (suc steps) right is enough =
        let here : counted (is_right scope) order (suc p) ≡ counted (is_right scope) order p + 1 = counted_here (is_right scope) order p n at right in
        agrees_here (value_of_constant scope (unfolded_to scope steps) (item_at nodes n).constant)
        (made scope (unfolded_to scope steps) (passed.known scope meant steps (omega (arith, here, enough))) is)

    -- what a name means is the right side of a declared equate
    meant_is_right : (k r : ℕ) (name : Identifier) → Means nodes (meaning.Equate r) (meaning_of scope k name) → is_right scope r ≡ true
    meant_is_right k r name h = subst (λ (x : ℕ). is_right scope x ≡ true) (node_there nodes r h.0) (equate_is_right scope k name (item_at nodes r).constant h.2)

    rights_more : (steps k r : ℕ) (name : Identifier) → counted (is_right scope) order (suc p) ≤ steps → Means nodes (meaning.Equate r) (meaning_of scope k name) → Agrees (told (types_of types') constants' (value_of values' r)) (unfolded_to scope steps (item_at nodes r).constant)
    rights_more steps k r name enough h = elim (cases_eq r n) [
      | inl same ↦
          subst (λ (r : ℕ). Agrees (told (types_of types') constants' (value_of values' r)) (unfolded_to scope steps (item_at nodes r).constant)) (sym same)
          (right_here steps (subst (λ (r : ℕ). is_right scope r ≡ true) same (meant_is_right k r name h)) (subst (λ (r : ℕ). is_constant nodes r ≡ true) same h.1) enough)
      | inr apart ↦ agrees_other r (unfolded_to scope steps (item_at nodes r).constant) apart ((passed.known scope meant steps (fewer steps enough)).rights k r name h)
    ]

    known_more : (steps : ℕ) → counted (is_right scope) order (suc p) ≤ steps → AreKnown nodes scope meanings (types_of types') constants' values' (unfolded_to scope steps)
    known_more steps enough = record {
      tree = (passed.known scope meant steps (fewer steps enough)).tree;
      shaped = (passed.known scope meant steps (fewer steps enough)).shaped;
      meant = meant;
      each = λ m is. each_more steps m enough is;
      rights = λ k r name h. rights_more steps k r name enough h;
    }

  pub one_passed : ArePassed nodes meanings order (suc p) types' constants' values'
  one_passed = record {
    size = ap length is_set ∙ length-set values n v ∙ passed.size;
    within = subst (AreWithin (length types') (length constants')) (sym is_set) (
      All-set (TypeWithin (length types')) values n v within.0 (all_more (TypeWithin (length types)) (TypeWithin (length types')) (more_types types types' grows) values passed.within.0),
      All-set (ConstantWithin (length constants')) values n v within.1 (all_more (ConstantWithin (length constants)) (ConstantWithin (length constants')) (more_constants constants constants' kept) values passed.within.1),
    );
    known = λ scope meant steps enough. known_more scope meant steps enough;
  }

-- what is no node changes nothing
pub none_more : (nodes : List Node) (meanings : List Meaning) (order : List ℕ) (p : ℕ) (types : List Term) (constants : List Const) (values : List Value) → ArePassed nodes meanings order p types constants values → ArePassed nodes meanings order (suc p) types constants values
none_more nodes meanings order p types constants values passed = record {
  size = passed.size;
  within = passed.within;
  known = λ scope meant steps enough.
      let less : counted (is_right scope) order p ≤ counted (is_right scope) order (suc p) = counted_more (is_right scope) order p (suc p) (omega arith) in
      passed.known scope meant steps (omega (arith, less, enough));
}

-- ---- the beginning and the end

all_lost : (P : Value → Type 0) → P value.Lost → (k : ℕ) → All P (replicate k value.Lost)
all_lost P lost zero = All-nil P
all_lost P lost (suc k) = All-cons P value.Lost (replicate k value.Lost) lost (all_lost P lost k)

pub lost_at : (k n : ℕ) → value_of (replicate k value.Lost) n ≡ value.Lost
lost_at zero n = refl
lost_at (suc k) zero = refl
lost_at (suc k) (suc n) = lost_at k n

pub length_replicate : (k : ℕ) (v : Value) → length (replicate k v) ≡ k
length_replicate zero v = refl
length_replicate (suc k) v = ap suc (length_replicate k v)

pub none_passed : (nodes : List Node) (meanings : List Meaning) (order : List ℕ) (types : List Term) (constants : List Const) (values : List Value) → IsTree nodes → HaveForms nodes → values ≡ replicate (length nodes) value.Lost → ArePassed nodes meanings order 0 types constants values
none_passed nodes meanings order types constants values tree shaped e = record {
  size = ap length e ∙ length_replicate (length nodes) value.Lost;
  within = subst (AreWithin (length types) (length constants)) (sym e) (all_lost (TypeWithin (length types)) tt (length nodes), all_lost (ConstantWithin (length constants)) tt (length nodes));
  known = λ scope meant steps enough. record {
    tree = tree;
    shaped = shaped;
    meant = meant;
    each = λ n is. nothing n (value_of_constant scope (unfolded_to scope steps) (item_at nodes n).constant);
    rights = λ k r name h. nothing r (unfolded_to scope steps (item_at nodes r).constant);
  };
}
  where
    nothing : (n : ℕ) (s : Settled) → Agrees (told (types_of types) constants (value_of values n)) s
    nothing n s = subst (λ (v : Value). Agrees (told (types_of types) constants v) s) (sym (ap (λ (vs : List Value). value_of vs n) e ∙ lost_at (length nodes) n)) tt

pub all_passed : (nodes : List Node) (meanings : List Meaning) (order : List ℕ) (types : List Term) (constants : List Const) (values : List Value) → IsDistinct eqb order → ArePassed nodes meanings order (length order) types constants values → (scope : Scope) → AreMeanings nodes scope meanings → AreSettled nodes scope types constants values
all_passed nodes meanings order types constants values distinct passed scope meant =
    let few : counted (is_right scope) order (length order) ≤ length (rights_in scope.bindings scope.declarations) =
    counted_few (is_right scope) order (rights_in scope.bindings scope.declarations) distinct (λ q e. e) in
    let enough : length (rights_in scope.bindings scope.declarations) ≤ length scope.declarations = few_rights scope.bindings scope.declarations in
    record {
      size = passed.size;
      within = passed.within;
      each = (passed.known scope meant (length scope.declarations) (omega (arith, few, enough))).each;
      rights = (passed.known scope meant (length scope.declarations) (omega (arith, few, enough))).rights;
    }

-- ---- an order in which each number stands once

differs : (x : ℕ) (xs : List ℕ) → ((p : ℕ) → slice_get xs p ≡ Some x → ⊥) → AllByRecursion (λ y. eqb x y ≡ false) xs
differs x [] never = tt
differs x (y ∷ ys) never = (ne_eqb x y (λ e. never 0 (ap Some (sym e))), differs x ys (λ p e. never (suc p) e))

pub once_distinct : (xs : List ℕ) → ((p q k : ℕ) → slice_get xs p ≡ Some k → slice_get xs q ≡ Some k → p ≡ q) → IsDistinct eqb xs
unfolding IsDistinct
once_distinct [] once = tt
once_distinct (x ∷ xs) once = (differs x xs (λ p e. absurd (never p (once 0 (suc p) x refl e))), once_distinct xs (λ p q k e f. less p q (once (suc p) (suc q) k e f)))
  where
    never : (p : ℕ) → 0 ≡ suc p → ⊥
    never p e = cc

    less : (p q : ℕ) → suc p ≡ suc q → p ≡ q
    less p q e = cc
