-- The type set that a name stands for is the one to which the table of sets leads from the name's declaration.
use Rattle.std.proofs.Common.{◌≡◌, ◌∙◌, ℕ, zero, suc, ◌<◌, ◌||◌, if◌then◌else◌, Bool, true, false, List, [], ◌∷◌, length, drop, map, Option, Some, None, refl, sym, ap, arith}
use Rattle.std.specs.Prelude.{slice_get}
use Rattle.std.specs.Option.{option_and_then, option_map}
use Rattle.std.proofs.lemmas.Bool.{true≢false}
use Rattle.std.proofs.lemmas.List.{length-map}
use Rattle.std.proofs.lemmas.Option.{slice_get-map}
use Rattle.clu_tree.specs.declared.node.Node.{Node}
use Rattle.clu_tree.specs.declared.node.NodeKind.{NodeKind}
use Rattle.clu_tree.specs.declared.node.NodeKind.TheVariants as kind
use Rattle.clu_tree.specs.Nodes.{IsTree}
use Rattle.clu_parser.specs.Shape.{HaveForms}
use Rattle.clu_syntax.specs.Enough.{least_names, HasEnough}
use Rattle.clu_syntax.specs.Kinds.{is_expression, is_type, kind_of, kind_at}
use Rattle.clu_syntax.specs.Slots.{slots, is_right_side}
use Rattle.clu_syntax.specs.Splits.{is_of, child, children_of, first_name}
use Rattle.clu_syntax.specs.Syntax.{Identifier, Constant, TypeExpression, TypeSet, Equate, an_equate}
use Rattle.clu_syntax.specs.Items.{Item}
use Rattle.clu_syntax.specs.Nodes.{before, item_at, equate_name, constant_of, elements_of, expression_of, type_expression_of, equate_of, equated}
use Rattle.clu_syntax.proofs.Enough.{enough}
use Rattle.clu_names.specs.declared.scopes.Declared.{Declared}
use Rattle.clu_names.specs.Denotes.{found, names_in, bound_at}
use Rattle.clu_meaning.specs.Scoping.{declaration_at}
use Rattle.clu_checking.specs.Files as checking
use Rattle.clu_checking.specs.Files.{File, item, declaring_node}
use Rattle.clu_checking.specs.Equates.{set_of, set_at, set_in, set_named}
use Rattle.clu_settle.proofs.Shapes.{first_part}
use Rattle.clu_declares.proofs.Below.{same_kind, before_is, item_there}
use Rattle.clu_head.specs.declared.sets.Said.{Said}
use Rattle.clu_head.specs.declared.sets.Said.TheVariants as said
use Rattle.clu_head.specs.Sets.{first_in, same_as, said_by, said_by_first, said_at, said_of, led_by, led, set_led}
use Rattle.clu_head.specs.There.{is_there}

-- ---- what an equate says of type sets by the kind of its right side

pub other_side : (items : ℕ → Item) (nodes : List Node) (n : ℕ) (name : Option Identifier) (k : NodeKind) (c : ℕ) → is_of kind.TypeSet k ≡ false → equated items nodes n name k c ≡ an_equate n name (items c).constant
other_side items nodes n name kind.TypeSet c other = absurd (true≢false other)
other_side items nodes n name _ c other = refl

pub right_kind : (k : NodeKind) → is_right_side k ≡ true → is_of kind.TypeSet k ≡ false → (is_expression k || is_type k) ≡ true
right_kind k right other = by (is_expression k || is_type k) (is_of kind.TypeSet k) right other
  where
    by : (a b : Bool) → (a || b) ≡ true → b ≡ false → a ≡ true
    by true b right other = refl
    by false true right other = absurd (true≢false other)
    by false false right other = right

module _ (f : File) (unfolded : ℕ → Identifier → Option TypeSet) where
  elements_alone : (items : ℕ → Item) (n m : ℕ) (name : Option Identifier) (s t : TypeExpression) (token : Option ℕ) (cs : List ℕ) → set_of f unfolded (an_equate n name (constant_of false (elements_of items f.nodes m s token cs) t)) ≡ None
  elements_alone items n m name s t None cs = refl
  elements_alone items n m name s t (Some token) [] = refl
  elements_alone items n m name s t (Some token) (c ∷ cs) = refl

  abbrev pub NoSet : (ℕ → Item) → ℕ → Option Identifier → ℕ → Node → NodeKind → Type 0
  NoSet items n name c node k = set_of f unfolded (an_equate n name (constant_of (is_type k) (expression_of items f.nodes c node k) (type_expression_of items f.nodes c node k))) ≡ None

  pub no_set : (items : ℕ → Item) (n : ℕ) (name : Option Identifier) (c : ℕ) (node : Node) (k : NodeKind) → (is_expression k || is_type k) ≡ true → is_of kind.Name k ≡ false → NoSet items n name c node k
  no_set items n name c node kind.Name right other = absurd (true≢false other)
  no_set items n name c node kind.Infix right other = refl
  no_set items n name c node kind.Prefix right other = refl
  no_set items n name c node kind.Paren right other = refl
  no_set items n name c node kind.Literal right other = refl
  no_set items n name c node kind.Index right other = refl
  no_set items n name c node kind.Get right other = refl
  no_set items n name c node kind.Call right other = refl
  no_set items n name c node kind.Fields right other = refl
  no_set items n name c node kind.Elems right other =
      elements_alone items n c name (items (child 0 node)).type (type_expression_of items f.nodes c node kind.Elems) node.value_token (drop 1 node.children)
  no_set items n name c node kind.OperOf right other = refl
  no_set items n name c node kind.Force right other = refl
  no_set items n name c node kind.Up right other = refl
  no_set items n name c node kind.Down right other = refl
  no_set items n name c node kind.Simple right other = refl
  no_set items n name c node kind.ListT right other = refl
  no_set items n name c node kind.FieldsT right other = refl
  no_set items n name c node kind.RoutineT right other = refl
  no_set items n name c node kind.NameT right other = refl
  no_set items n name c node _ right other = absurd (true≢false (sym right))

no_names : (node : Node) → HasEnough node → node.kind ≡ kind.Name → node.names ≡ [] → ⊥
no_names node its is none =
    let least = ap least_names is in
    let size : length node.names ≡ 0 = ap length none in
    let more = its.names in
    absurd (omega (arith, least, size, more))

module _ (f : File) (shaped : HaveForms f.nodes) (tree : IsTree f.nodes) where
  abbrev ds : List Declared
  ds = f.scope.declarations

  abbrev all : List Said
  all = said_of f.nodes ds ds

  abbrev there : ℕ → TypeSet
  there c = (item f c).type_set

  -- the set to which the table leads in so many steps, from a declaration and by what an equate says
  abbrev by_place : ℕ → Option ℕ → Option TypeSet
  by_place steps o = option_map there (option_and_then (led all steps) o)

  abbrev by_said : ℕ → Said → Option TypeSet
  by_said steps s = option_map there (led_by (led all steps) (Some s))

  -- so many steps of the definition lead there too
  abbrev AreSo : ℕ → Type 0
  AreSo steps = (n : ℕ) (name : Identifier) → set_in f steps n name ≡ by_place steps (found ds name n)

  same_place : (steps : ℕ) (o : Option ℕ) → by_place steps o ≡ by_said steps (same_as o)
  same_place steps None = refl
  same_place steps (Some place) = refl

  first_found : (c : ℕ) (names : List Identifier) → (names ≡ [] → ⊥) → first_in (map (λ name. found ds name c) names) ≡ found ds (first_name names) c
  first_found c [] some = absurd (some refl)
  first_found c (name ∷ names) some = refl

  module _ (steps : ℕ) (so : AreSo steps) (e : ℕ) (name : Option Identifier) (c : ℕ) (less : c < e) (node : Node) (at : slice_get f.nodes c ≡ Some node) where
    abbrev side : NodeKind → Equate
    side k = equated (before e (item_at f.nodes)) f.nodes e name k c

    its_item : before e (item_at f.nodes) c ≡ item_at f.nodes c
    its_item = before_is f.nodes e c less

    constant_is : (k : NodeKind) → node.kind ≡ k → (before e (item_at f.nodes) c).constant ≡ constant_of (is_type k) (expression_of (before c (item_at f.nodes)) f.nodes c node k) (type_expression_of (before c (item_at f.nodes)) f.nodes c node k)
    constant_is k is =
        ap (λ (i : Item). i.constant) (its_item ∙ item_there f.nodes c node at)
        ∙ ap (λ (k : NodeKind). constant_of (is_type k) (expression_of (before c (item_at f.nodes)) f.nodes c node k) (type_expression_of (before c (item_at f.nodes)) f.nodes c node k)) is

    -- what the side says by its kind
    said_is : (a b : Bool) → is_of kind.TypeSet node.kind ≡ a → is_of kind.Name node.kind ≡ b → said_by f.nodes ds c ≡ (if a then said.Set c else if b then same_as (first_in (bound_at ds c (Some node))) else said.Nothing)
    unfolding said_by
    said_is a b is other =
        ap (λ (its : Option Node). if is_there kind.TypeSet its then said.Set c else if is_there kind.Name its then same_as (first_in (bound_at ds c its)) else said.Nothing) at
        ∙ ap (λ (x : Bool). if x then said.Set c else if is_of kind.Name node.kind then same_as (first_in (bound_at ds c (Some node))) else said.Nothing) is
        ∙ ap (λ (x : Bool). if a then said.Set c else if x then same_as (first_in (bound_at ds c (Some node))) else said.Nothing) other

    a_set : node.kind ≡ kind.TypeSet → set_of f (set_in f steps) (side node.kind) ≡ by_said steps (said_by f.nodes ds c)
    a_set is =
        ap (λ (k : NodeKind). set_of f (set_in f steps) (side k)) is
        ∙ ap (λ (i : Item). Some i.type_set) its_item
        ∙ sym (ap (by_said steps) (said_is true (is_of kind.Name node.kind) (ap (is_of kind.TypeSet) is) refl))

    a_name_is : node.kind ≡ kind.Name → set_of f (set_in f steps) (side node.kind) ≡ by_said steps (said_by f.nodes ds c)
    a_name_is is =
        let its_names = no_names node (enough f.nodes shaped c node at) is in
        let bound : first_in (bound_at ds c (Some node)) ≡ found ds (first_name node.names) c =
        ap (λ (k : NodeKind). first_in (map (λ name. found ds name c) (names_in k node))) is ∙ first_found c node.names its_names in
        ap (λ (k : NodeKind). set_of f (set_in f steps) (side k)) is
        ∙ ap (λ (x : Constant). set_of f (set_in f steps) (an_equate e name x)) (constant_is kind.Name is)
        ∙ so c (first_name node.names)
        ∙ same_place steps (found ds (first_name node.names) c)
        ∙ ap (λ (o : Option ℕ). by_said steps (same_as o)) (sym bound)
        ∙ sym (ap (by_said steps) (said_is false true (ap (is_of kind.TypeSet) is) (ap (is_of kind.Name) is)))

    no_set_there : is_right_side node.kind ≡ true → is_of kind.TypeSet node.kind ≡ false → is_of kind.Name node.kind ≡ false → set_of f (set_in f steps) (side node.kind) ≡ by_said steps (said_by f.nodes ds c)
    no_set_there right no_type_set other =
        ap (set_of f (set_in f steps)) (other_side (before e (item_at f.nodes)) f.nodes e name node.kind c no_type_set)
        ∙ ap (λ (x : Constant). set_of f (set_in f steps) (an_equate e name x)) (constant_is node.kind refl)
        ∙ no_set f (set_in f steps) (before c (item_at f.nodes)) e name c node node.kind (right_kind node.kind right no_type_set) other
        ∙ sym (ap (by_said steps) (said_is false false no_type_set other))

    by_side : is_right_side node.kind ≡ true → set_of f (set_in f steps) (side node.kind) ≡ by_said steps (said_by f.nodes ds c)
    by_side right = by (is_of kind.TypeSet node.kind) refl (is_of kind.Name node.kind) refl
      where
        by : (a : Bool) → is_of kind.TypeSet node.kind ≡ a → (b : Bool) → is_of kind.Name node.kind ≡ b → set_of f (set_in f steps) (side node.kind) ≡ by_said steps (said_by f.nodes ds c)
        by true is b other = a_set (same_kind kind.TypeSet node.kind is)
        by false is true other = a_name_is (same_kind kind.Name node.kind other)
        by false is false other = no_set_there right is other

  module _ (steps : ℕ) (so : AreSo steps) where
    at_side : (e : ℕ) (name : Option Identifier) (c : ℕ) → c < e → is_right_side (kind_at f.nodes c) ≡ true → set_of f (set_in f steps) (equated (before e (item_at f.nodes)) f.nodes e name (kind_at f.nodes c) c) ≡ by_said steps (said_by f.nodes ds c)
    at_side e name c less right = by (slice_get f.nodes c) refl
      where
        by : (its : Option Node) → slice_get f.nodes c ≡ its → set_of f (set_in f steps) (equated (before e (item_at f.nodes)) f.nodes e name (kind_at f.nodes c) c) ≡ by_said steps (said_by f.nodes ds c)
        by None at = absurd (true≢false (sym right ∙ ap (λ (o : Option Node). is_right_side (kind_of o)) at))
        by (Some node) at =
            ap (λ (o : Option Node). set_of f (set_in f steps) (equated (before e (item_at f.nodes)) f.nodes e name (kind_of o) c)) at
            ∙ by_side steps so e name c less node at (sym (ap (λ (o : Option Node). is_right_side (kind_of o)) at) ∙ right)

    of_children : (e : ℕ) (node : Node) → slice_get f.nodes e ≡ Some node → node.kind ≡ kind.Equate → set_of f (set_in f steps) (equate_of (before e (item_at f.nodes)) f.nodes e node kind.Equate) ≡ by_said steps (said_by_first f.nodes ds node.children)
    of_children e node at is =
        let one = first_part f.nodes tree shaped is_right_side [] e node at (ap slots is) in
        at_side e (equate_name node.names) (child 0 node) one.first.0 one.first.1
        ∙ sym (ap (λ (cs : List ℕ). by_said steps (said_by_first f.nodes ds cs)) one.is)

    of_node : (e : ℕ) (node : Node) → slice_get f.nodes e ≡ Some node → (b : Bool) → is_of kind.Equate node.kind ≡ b → set_at f (set_in f steps) (if b then Some e else None) ≡ by_said steps (if b then said_by_first f.nodes ds node.children else said.Nothing)
    of_node e node at false is = refl
    of_node e node at true is =
        let its = same_kind kind.Equate node.kind is in
        ap (λ (i : Item). set_of f (set_in f steps) i.equate) (item_there f.nodes e node at)
        ∙ ap (λ (k : NodeKind). set_of f (set_in f steps) (equate_of (before e (item_at f.nodes)) f.nodes e node k)) its
        ∙ of_children e node at its

    at_node : (e : ℕ) (its : Option Node) → slice_get f.nodes e ≡ its → set_at f (set_in f steps) (checking.equate_of f (Some e)) ≡ by_said steps (said_at f.nodes ds e)
    unfolding said_at
    at_node e None at =
        ap (λ (o : Option Node). set_at f (set_in f steps) (if is_of kind.Equate (kind_of o) then Some e else None)) at
        ∙ sym (ap (λ (o : Option Node). by_said steps (if is_there kind.Equate o then said_by_first f.nodes ds (children_of o) else said.Nothing)) at)
    at_node e (Some node) at =
        ap (λ (o : Option Node). set_at f (set_in f steps) (if is_of kind.Equate (kind_of o) then Some e else None)) at
        ∙ of_node e node at (is_of kind.Equate node.kind) refl
        ∙ sym (ap (λ (o : Option Node). by_said steps (if is_there kind.Equate o then said_by_first f.nodes ds (children_of o) else said.Nothing)) at)

    at_place : (o : Option ℕ) → set_at f (set_in f steps) (checking.equate_of f (declaring_node f (declaration_at f.scope o))) ≡ by_place (suc steps) o
    unfolding led
    at_place None = refl
    at_place (Some place) = by (slice_get ds place) refl
      where
        by : (d : Option Declared) → slice_get ds place ≡ d → set_at f (set_in f steps) (checking.equate_of f (declaring_node f (slice_get ds place))) ≡ option_map there (led_by (led all steps) (slice_get all place))
        by None at =
            ap (λ (d : Option Declared). set_at f (set_in f steps) (checking.equate_of f (declaring_node f d))) at
            ∙ sym (ap (λ (s : Option Said). option_map there (led_by (led all steps) s)) (slice_get-map (λ (d : Declared). said_at f.nodes ds d.node) ds place ∙ ap (option_map (λ (d : Declared). said_at f.nodes ds d.node)) at))
        by (Some d) at =
            ap (λ (d : Option Declared). set_at f (set_in f steps) (checking.equate_of f (declaring_node f d))) at
            ∙ at_node d.node (slice_get f.nodes d.node) refl
            ∙ sym (ap (λ (s : Option Said). option_map there (led_by (led all steps) s)) (slice_get-map (λ (d : Declared). said_at f.nodes ds d.node) ds place ∙ ap (option_map (λ (d : Declared). said_at f.nodes ds d.node)) at))

  none_led : (o : Option ℕ) → by_place zero o ≡ None
  unfolding led
  none_led None = refl
  none_led (Some place) = refl

  sets_led : (steps : ℕ) → AreSo steps
  unfolding set_in
  sets_led zero n name = sym (none_led (found ds name n))
  sets_led (suc steps) n name = at_place steps (sets_led steps) (found ds name n)

  pub sets_named : (n : ℕ) (name : Identifier) → set_named f n name ≡ option_map there (option_and_then (set_led all) (found ds name n))
  sets_named n name =
      sets_led (length ds) n name
      ∙ ap (λ (steps : ℕ). by_place steps (found ds name n)) (sym (length-map ds (λ (d : Declared). said_at f.nodes ds d.node)))
