-- Which names that a node defines are declared before, of all kinds of node: also of those whose variable is declared at their first
-- child, and of routines, which declare their first name.
use Rattle.std.proofs.Common.{◌≡◌, ◌∙◌, ◌⊎◌, ℕ, zero, suc, ◌+◌, ◌-◌, ◌^◌, ◌<◌, ◌≤◌, nat_lt, ◌==◌, ◌&&◌, ◌||◌, Bool, true, false, if◌then◌else◌, List, [], ◌∷◌, ◌++◌, length, get_or, map, take, drop, slice_get, is_some, bytes_eq, Option, Some, None, inl, inr, refl, sym, ap, ap₂, subst, arith, append_assoc}
use Rattle.std.specs.List.{AllByRecursion, list_any}
use Rattle.std.proofs.Math.Bool.{and-false}
use Rattle.std.proofs.lemmas.Bool.{true≢false, ne_eqb, eqb-true, le-ltb, eq-eqb, and_parts}
use Rattle.std.proofs.lemmas.List.{drop-map, length-map}
use Rattle.std.proofs.lemmas.Option.{same_Some, none-some, slice_get_within, slice_get_past}
use Rattle.clu_lexer.specs.declared.symbols.Symbol.TheVariants as s
use Rattle.clu_tree.specs.declared.node.Node.{Node}
use Rattle.clu_tree.specs.declared.node.NodeKind.{NodeKind}
use Rattle.clu_tree.specs.declared.node.NodeKind.TheVariants as kind
use Rattle.clu_parser.specs.Trees.{Text}
use Rattle.clu_parser.specs.Shape as shape
use Rattle.clu_parser.specs.Shape.{Part, Letter, own as own_letter, named, valued, node as node_letter, IsWord, token_is, name_is, without, with_one, IsFormOf, forms, names_in, HasForm}
use Rattle.clu_parts.proofs.Counted.{is_unnamed, no_names}
use Rattle.clu_parts.proofs.Fitting.{AreBefore, children_before}
use Rattle.clu_syntax.specs.declared.round.Round.{Round}
use Rattle.clu_syntax.specs.Kinds.{kind_of, kind_at}
use Rattle.clu_syntax.specs.Rounds.{AreRounds, round_at}
use Rattle.clu_syntax.specs.Splits.{is_of, last_option, type_of}
use Rattle.clu_syntax.specs.Syntax.{Identifier, Variable}
use Rattle.clu_syntax.specs.Items.{Item, variable_of as variable_item}
use Rattle.clu_syntax.specs.Nodes.{before, item_at, item_with, tag_arm_of}
use Rattle.clu_names.specs.declared.binding.Names.{Names}
use Rattle.clu_names.specs.declared.scopes.Declared.{Declared}
use Rattle.clu_names.specs.Denotes.{found, names_in as names_bound, bound_at, is_open, rank}
use Rattle.clu_names.specs.Scopes.{node_at, kind_at_parent, scope_of, own_names, declared_as, own_at, is_module, module_at, is_first, opens, variable_names, variable_of, declared_at, declared_to, declarations}
use Rattle.clu_meaning.specs.Counting as counting
use Rattle.clu_meaning.specs.Resolving.{declared_from}
use Rattle.clu_settle.specs.Names.{names_of}
use Rattle.clu_bindings.specs.Files.{bound_in}
use Rattle.clu_head.specs.There.{is_there}
use Rattle.clu_checking.specs.Files.{File, kind_in, names, node_names}
use Rattle.clu_checking.specs.NameRules as rules_of
use Rattle.clu_checking.specs.NameRules.{stands_twice, names_defined, is_redefined_at, same_unit, is_preceded}
use Rattle.clu_declares.specs.Declares.{IsParsed}
use Rattle.clu_declares.proofs.Amounts.{whole_is}
use Rattle.clu_declares.proofs.Around.{IsAround}
use Rattle.clu_declares.proofs.Below.{item_there}
use Rattle.clu_declares.proofs.Facts.{There, there, around_at}
use Rattle.clu_name_rules.specs.NameRules.{both_before, is_redefined as one_redefined, has_redefined, bound_defined, declares_variable, last_if}
use Rattle.clu_name_rules.specs.NameRules as tables
use Rattle.clu_name_rules.specs.Own.{own_places}
use Rattle.clu_passes.specs.Owns.{first_from, declares_all}
use Rattle.clu_passes.specs.Tables.{AreNames}
use Rattle.clu_passes.proofs.InOrder.{NoneOf, redefined_in_order}
use Rattle.clu_passes.proofs.Redeclared.{place_is, parted, of_one, own_redefined, redefined_by_places}
use Rattle.clu_passes.proofs.Tables.{bound_is}
use Rattle.clu_passes.proofs.Units.{AllOf, AreEach, VariablesAre, at_node, all_to, of_each}

names_append : (v w : List Letter) → names_in (v ++ w) ≡ names_in v + names_in w
names_append [] w = omega arith
names_append (own_letter x ∷ v) w = names_append v w
names_append (named ∷ v) w = omega (arith, names_append v w)
names_append (valued x ∷ v) w = names_append v w
names_append (node_letter kind ∷ v) w = names_append v w

-- ---- where nothing is declared, nothing is redefined

no_place : (n : ℕ) (name : Identifier) (k : ℕ) (ds : List Declared) → NoneOf n ds → declared_from k ds n name ≡ k + length ds
no_place n name k [] none = omega arith
no_place n name k (d ∷ ds) none =
    ap (λ (b : Bool). if b && bytes_eq d.name name then k else declared_from (suc k) ds n name) none.0
    ∙ no_place n name (suc k) ds none.1
    ∙ omega arith

no_first : (n k all : ℕ) (ds : List Declared) → NoneOf n ds → first_from k ds n all ≡ all
no_first n k all [] none = refl
no_first n k all (d ∷ ds) none = ap (λ (b : Bool). if b then k else first_from (suc k) ds n all) none.0 ∙ no_first n (suc k) all ds none.1

past_all : (ds : List Declared) (bounds : List (Option ℕ)) → has_redefined ds (length ds) bounds ≡ false
past_all ds [] = refl
past_all ds (b ∷ bounds) = ap (λ (x : Bool). x && (one_redefined ds (length ds) b || has_redefined ds (length ds + 1) bounds)) (le-ltb (length ds) (length ds) (omega arith))

-- what is found by its node is of this node
first_least : (n k all : ℕ) (ds : List Declared) → k + length ds ≤ all → k ≤ first_from k ds n all
first_least n k all [] most = omega (arith, most)
first_least n k all (d ∷ ds) most = by (d.node == n) (first_least n (suc k) all ds (omega (arith, most)))
  where
    by : (b : Bool) → suc k ≤ first_from (suc k) ds n all → k ≤ (if b then k else first_from (suc k) ds n all)
    by true more = omega arith
    by false more = omega (arith, more)

first_there : (n k : ℕ) (ds : List Declared) (all j : ℕ) (e : Declared) → k + length ds ≤ all → first_from k ds n all ≡ k + j → slice_get ds j ≡ Some e → e.node ≡ n
first_there n k [] all j e most is there = absurd (none-some e there)
first_there n k (d ∷ ds) all j e most is there = by (λ i same at. first_there n (suc k) ds all i e (omega (arith, most)) same at) (d.node == n) refl j is there
  where
    by : ((i : ℕ) → first_from (suc k) ds n all ≡ suc k + i → slice_get ds i ≡ Some e → e.node ≡ n) → (b : Bool) → (d.node == n) ≡ b → (j : ℕ) → (if b then k else first_from (suc k) ds n all) ≡ k + j → slice_get (d ∷ ds) j ≡ Some e → e.node ≡ n
    by rest true own zero is there = ap (λ (x : Declared). x.node) (sym (same_Some d e there)) ∙ eqb-true d.node n own
    by rest true own (suc j) is there = absurd (omega (arith, is))
    by rest false own zero is there = let more : suc k ≤ first_from (suc k) ds n all = first_least n (suc k) all ds (omega (arith, most)) in absurd (omega (arith, is, more))
    by rest false own (suc j) is there = rest j (omega (arith, is)) there

named_least : (n : ℕ) (name : Identifier) (k : ℕ) (ds : List Declared) → k ≤ declared_from k ds n name
named_least n name k [] = omega arith
named_least n name k (d ∷ ds) = by (d.node == n && bytes_eq d.name name) (named_least n name (suc k) ds)
  where
    by : (b : Bool) → suc k ≤ declared_from (suc k) ds n name → k ≤ (if b then k else declared_from (suc k) ds n name)
    by true more = omega arith
    by false more = omega (arith, more)

named_there : (n : ℕ) (name : Identifier) (k : ℕ) (ds : List Declared) (j : ℕ) (e : Declared) → declared_from k ds n name ≡ k + j → slice_get ds j ≡ Some e → e.node ≡ n
named_there n name k [] j e is there = absurd (none-some e there)
named_there n name k (d ∷ ds) j e is there = by (λ i same at. named_there n name (suc k) ds i e same at) (d.node == n && bytes_eq d.name name) refl j is there
  where
    by : ((i : ℕ) → declared_from (suc k) ds n name ≡ suc k + i → slice_get ds i ≡ Some e → e.node ≡ n) → (b : Bool) → (d.node == n && bytes_eq d.name name) ≡ b → (j : ℕ) → (if b then k else declared_from (suc k) ds n name) ≡ k + j → slice_get (d ∷ ds) j ≡ Some e → e.node ≡ n
    by rest true own zero is there = ap (λ (x : Declared). x.node) (sym (same_Some d e there)) ∙ eqb-true d.node n (and_parts (d.node == n) (bytes_eq d.name name) own).0
    by rest true own (suc j) is there = absurd (omega (arith, is))
    by rest false own zero is there = let more : suc k ≤ declared_from (suc k) ds n name = named_least n name (suc k) ds in absurd (omega (arith, is, more))
    by rest false own (suc j) is there = rest j (omega (arith, is)) there

-- what has no module comes after nothing
no_same : (a b : Option ℕ) → b ≡ None → same_unit a b ≡ false
no_same (Some a) (Some b) e = absurd (none-some b (sym e))
no_same (Some a) None e = refl
no_same None b e = refl

not_preceded : (n : ℕ) (name : Identifier) (own : ℕ) (e : Declared) (k : ℕ) (ds : List Declared) → e.unit ≡ None → is_preceded n name own e k ds ≡ false
not_preceded n name own e k [] alone = refl
not_preceded n name own e k (d ∷ ds) alone =
    ap (λ (b : Bool). (b && is_open name n d && rules_of.comes_before k d own e) || is_preceded n name own e (suc k) ds) (no_same d.unit e.unit alone)
    ∙ not_preceded n name own e (suc k) ds alone

same_other : (a b : Option ℕ) → b ≡ None → tables.same_unit a b ≡ false
same_other (Some a) (Some b) e = absurd (none-some b (sym e))
same_other (Some a) None e = refl
same_other None b e = refl

no_other : (k : ℕ) (o : Option Declared) (own : ℕ) → both_before k o own None ≡ false
no_other k (Some d) own = refl
no_other k None own = refl

no_unit : (k : ℕ) (o : Option Declared) (own : ℕ) (e : Declared) → e.unit ≡ None → both_before k o own (Some e) ≡ false
no_unit k (Some d) own e alone = ap (λ (b : Bool). b && (nat_lt (rank e) (rank d) || (rank d == rank e && nat_lt k own))) (same_other d.unit e.unit alone)
no_unit k None own e alone = refl

take_mapped : {X Y : Type 0} (f : X → Y) (xs : List X) → take 1 (map f xs) ≡ map f (take 1 xs)
take_mapped f [] = refl
take_mapped f (x ∷ xs) = refl

module _ (t : Text) (f : File) (parsed : IsParsed t f.nodes) (are : AreRounds f.nodes f.rounds) (same : f.scope.declarations ≡ declarations f.nodes f.rounds) (few : length f.nodes < 2 ^ 32) where
  abbrev ds : List Declared
  ds = f.scope.declarations

  abbrev round : ℕ → Round
  round n = round_at f.rounds n

  none_redefined : (n : ℕ) → NoneOf n ds → (its : List Identifier) → list_any (rules_of.is_redefined f n) its ≡ false
  none_redefined n none [] = refl
  none_redefined n none (name ∷ its) =
      let place : declared_from 0 ds n name ≡ length ds = no_place n name 0 ds none ∙ omega arith in
      ap (λ (k : ℕ). is_redefined_at f n name k (slice_get ds k) || list_any (rules_of.is_redefined f n) its) place
      ∙ ap (λ (d : Option Declared). is_redefined_at f n name (length ds) d || list_any (rules_of.is_redefined f n) its) (slice_get_past ds (length ds) (omega arith))
      ∙ none_redefined n none its

  -- neither side says so
  nothing_told : (n : ℕ) → NoneOf n ds → (its : List Identifier) (bounds : List (Option ℕ)) → list_any (rules_of.is_redefined f n) its ≡ has_redefined ds (first_from 0 ds n (length ds)) bounds
  nothing_told n none its bounds = none_redefined n none its ∙ sym (ap (λ (k : ℕ). has_redefined ds k bounds) (no_first n 0 (length ds) ds none) ∙ past_all ds bounds)

  -- ---- a variable that is declared at the first child

  module _ (n c : ℕ) (node : Node) (at : slice_get f.nodes n ≡ Some node) (first : is_first c node.children ≡ true) (opened : opens node.kind (kind_at f.nodes c) ≡ true) where
    below : c < n
    below = by node.children (children_before f.nodes parsed.tree n node at) first
      where
        by : (cs : List ℕ) → AreBefore n cs → is_first c cs ≡ true → c < n
        by [] all e = absurd (true≢false (sym e))
        by (d ∷ cs) all e = let it : d ≡ c = eqb-true d c e in omega (arith, it, all.0)

    above : (round c).parent ≡ Some n
    above = by node.children (around_at t f.nodes f.rounds parsed are n node at) first
      where
        by : (cs : List ℕ) → AllByRecursion (IsAround f.rounds n node) cs → is_first c cs ≡ true → (round c).parent ≡ Some n
        by [] all e = absurd (true≢false (sym e))
        by (d ∷ cs) all e = ap (λ (m : ℕ). (round m).parent) (sym (eqb-true d c e)) ∙ all.0.parent

    abbrev Apart : Declared → Type 0
    Apart d = (d.node == n) ≡ false

    only_first : (m : ℕ) (cs : List ℕ) → is_first m cs ≡ true → is_first c cs ≡ true → m ≡ c
    only_first m [] e g = absurd (true≢false (sym e))
    only_first m (d ∷ cs) e g = sym (eqb-true d m e) ∙ eqb-true d c g

    before_it : (m : ℕ) → m < c → AllOf Apart (declared_at f.nodes f.rounds m (slice_get f.nodes m))
    before_it m less = at_node f.nodes f.rounds Apart m variables (λ its there scope e name. other m (omega (arith, less, below))) (λ its there e name. other m (omega (arith, less, below)))
      where
        other : (m : ℕ) → m < n → (m == n) ≡ false
        other m less = ne_eqb m n (λ is. absurd (omega (arith, is, less)))

        variables : VariablesAre f.nodes f.rounds Apart m
        variables p outer k up there its_kind o begins name =
            ne_eqb p n (λ is.
            let its : outer ≡ node = same_Some outer node (sym there ∙ ap (slice_get f.nodes) is ∙ at) in
            let it : m ≡ c = only_first m node.children (ap (λ (x : Node). is_first m x.children) (sym its) ∙ begins) first in
            absurd (omega (arith, it, less)))

    variable_told : (its : List Identifier) → variable_names node.kind node.names ≡ its → stands_twice its ≡ false → list_any (rules_of.is_redefined f n) its ≡ has_redefined ds (first_from 0 ds n (length ds)) (map (λ name. found ds name n) its)
    variable_told its its_are once =
        let inside : c < length f.nodes = let less : n < length f.nodes = slice_get_within f.nodes n node at in omega (arith, less, below) in
        let whole = whole_is f.nodes f.rounds c inside in
        by (slice_get f.nodes c) refl whole.0 whole.1
      where
        declared_here : (child : Node) → slice_get f.nodes c ≡ Some child → variable_of c child.kind (round c) (round c).parent (node_at f.nodes (round c).parent) ≡ declared_as n (round c).unit (Some ((round c).body_first, (round c).body_last)) its
        declared_here child there =
            ap (λ (o : Option ℕ). variable_of c child.kind (round c) o (node_at f.nodes o)) above
            ∙ ap (variable_of c child.kind (round c) (Some n)) at
            ∙ ap₂ (λ (a b : Bool). if a && b then declared_as n (round c).unit (Some ((round c).body_first, (round c).body_last)) (variable_names node.kind node.names) else [])
            (ap (opens node.kind) (sym (ap kind_of there)) ∙ opened) first
            ∙ ap (declared_as n (round c).unit (Some ((round c).body_first, (round c).body_last))) its_are

        by : (o : Option Node) → slice_get f.nodes c ≡ o → (rest : List Declared) → declarations f.nodes f.rounds ≡ (declared_to f.nodes f.rounds c ++ declared_at f.nodes f.rounds c (slice_get f.nodes c)) ++ rest →
            list_any (rules_of.is_redefined f n) its ≡ has_redefined ds (first_from 0 ds n (length ds)) (map (λ name. found ds name n) its)
        by None there rest whole = let less : n < length f.nodes = slice_get_within f.nodes n node at in absurd (none_at f.nodes c (omega (arith, less, below)) there)
          where
            none_at : (xs : List Node) (i : ℕ) → i < length xs → slice_get xs i ≡ None → ⊥
            none_at [] i l e = absurd (omega (arith, l))
            none_at (x ∷ xs) zero l e = none-some x (sym e)
            none_at (x ∷ xs) (suc i) l e = none_at xs i (omega (arith, l)) e
        by (Some child) there rest whole =
            let own = own_at (kind_at_parent f.nodes (round c).parent) c child (round c) in
            let outside = module_at (kind_at_parent f.nodes (round c).parent) c child in
            let all : ds ≡ declared_to f.nodes f.rounds c ++ (declared_as n (round c).unit (Some ((round c).body_first, (round c).body_last)) its ++ (own ++ (outside ++ rest))) =
            same ∙ whole ∙ ap (λ (o : Option Node). (declared_to f.nodes f.rounds c ++ declared_at f.nodes f.rounds c o) ++ rest) there
            ∙ parted (declared_to f.nodes f.rounds c) (variable_of c child.kind (round c) (round c).parent (node_at f.nodes (round c).parent)) own outside rest
            ∙ append_assoc (declared_to f.nodes f.rounds c) (variable_of c child.kind (round c) (round c).parent (node_at f.nodes (round c).parent)) (own ++ (outside ++ rest))
            ∙ ap (λ (l : List Declared). declared_to f.nodes f.rounds c ++ (l ++ (own ++ (outside ++ rest)))) (declared_here child there) in
            redefined_in_order f n (round c).unit ((round c).body_first, (round c).body_last) (own ++ (outside ++ rest)) (of_one t f parsed are same few n) (declared_to f.nodes f.rounds c) its all
            (all_to f.nodes f.rounds Apart c before_it) once

  -- ---- nothing is declared of a node that declares nothing by itself and has no such child

  module _ (n : ℕ) (node : Node) (at : slice_get f.nodes n ≡ Some node)
      (no_own : (k : NodeKind) (m : ℕ) → scope_of node.kind k m (round m) ≡ None) (no_module : (k : NodeKind) → is_module k node.kind ≡ false)
      (closed : (c : ℕ) → is_first c node.children ≡ true → opens node.kind (kind_at f.nodes c) ≡ true → ⊥) where
    abbrev Other : Declared → Type 0
    Other d = (d.node == n) ≡ false

    its_node : (m : ℕ) (its : Node) → slice_get f.nodes m ≡ Some its → m ≡ n → its ≡ node
    its_node m its there is = same_Some its node (sym there ∙ ap (slice_get f.nodes) is ∙ at)

    none_each : AreEach f.nodes f.rounds Other
    none_each = record {
      variables = λ m p outer k up there its_kind o begins name.
          ne_eqb p n (λ is.
          let its : outer ≡ node = its_node p outer there is in
          closed m (ap (λ (x : Node). is_first m x.children) (sym its) ∙ begins) (ap₂ (λ (x : Node) (j : NodeKind). opens x.kind j) (sym its) its_kind ∙ o));
      owns = λ m its there scope e name.
          ne_eqb m n (λ is. none-some scope (sym (no_own (kind_at_parent f.nodes (round m).parent) m) ∙ ap (λ (x : Node). scope_of x.kind (kind_at_parent f.nodes (round m).parent) m (round m)) (sym (its_node m its there is)) ∙ e));
      modules = λ m its there e name.
          ne_eqb m n (λ is. true≢false (sym e ∙ ap (λ (x : Node). is_module (kind_at_parent f.nodes (round m).parent) x.kind) (its_node m its there is) ∙ no_module (kind_at_parent f.nodes (round m).parent)));
    }

    none_here : NoneOf n ds
    none_here =
        subst (NoneOf n) (sym same)
        (all_to f.nodes f.rounds Other (length f.nodes) (λ m less. at_node f.nodes f.rounds Other m (none_each.variables m) (none_each.owns m) (none_each.modules m)))

  -- ---- of each kind

  module _ (table : Names) (table_is : AreNames f table) (items : ℕ → Item) where
    abbrev own : ℕ → ℕ
    own n = get_or (own_places ds (length f.nodes)) n (length ds)

    abbrev denoted : ℕ → List Identifier → List (Option ℕ)
    denoted n its = map (λ name. found ds name n) its

    abbrev Told : NodeKind → ℕ → Type 0
    Told k n = stands_twice (names_defined f k n) ≡ false → list_any (rules_of.is_redefined f n) (names_defined f k n) ≡ has_redefined ds (own n) (bound_defined k (names_of (slice_get f.nodes n)) (declares_variable items f.nodes n) (bound_in table n))

    bounds_are : (n : ℕ) (node : Node) → slice_get f.nodes n ≡ Some node → names_bound node.kind node ≡ node.names → bound_in table n ≡ denoted n node.names
    bounds_are n node at all = bound_is f table table_is n ∙ ap (bound_at ds n) at ∙ ap (denoted n) all

    abbrev Same : ℕ → List Identifier → Type 0
    Same n its = list_any (rules_of.is_redefined f n) its ≡ has_redefined ds (first_from 0 ds n (length ds)) (denoted n its)

    -- one whose variable is declared at its first child, if that is of such a kind
    inside_told : (n : ℕ) (node : Node) → slice_get f.nodes n ≡ Some node → ((k : NodeKind) (m : ℕ) → scope_of node.kind k m (round m) ≡ None) → ((k : NodeKind) → is_module k node.kind ≡ false)
        → (its : List Identifier) → variable_names node.kind node.names ≡ its → stands_twice its ≡ false → list_any (rules_of.is_redefined f n) its ≡ has_redefined ds (own n) (denoted n its)
    inside_told n node at no_own no_module its its_are once = by node.children refl ∙ ap (λ (k : ℕ). has_redefined ds k (denoted n its)) (sym (place_is ds (length f.nodes) n (slice_get_within f.nodes n node at)))
      where
        none : ((c : ℕ) → is_first c node.children ≡ true → opens node.kind (kind_at f.nodes c) ≡ true → ⊥) → Same n its
        none closed = nothing_told n (none_here n node at no_own no_module closed) its (denoted n its)

        by_first : (c : ℕ) (cs : List ℕ) → node.children ≡ c ∷ cs → (b : Bool) → opens node.kind (kind_at f.nodes c) ≡ b → Same n its
        by_first c cs e true o = variable_told n c node at (ap (is_first c) e ∙ eq-eqb c c refl) o its its_are once
        by_first c cs e false o = none (λ d first opened. true≢false (sym opened ∙ ap (λ (m : ℕ). opens node.kind (kind_at f.nodes m)) (sym (eqb-true c d (sym (ap (is_first d) e) ∙ first))) ∙ o))

        by : (cs : List ℕ) → node.children ≡ cs → Same n its
        by [] e = none (λ c first opened. true≢false (sym first ∙ ap (is_first c) e))
        by (c ∷ cs) e = by_first c cs e (opens node.kind (kind_at f.nodes c)) refl

    never_module : (j : NodeKind) → (is_of kind.TypeSet j || (is_of kind.TagArm j || is_of kind.Others j)) ≡ true → (k : NodeKind) → is_module k j ≡ false
    never_module j e kind.Module = by j e
      where
        by : (j : NodeKind) → (is_of kind.TypeSet j || (is_of kind.TagArm j || is_of kind.Others j)) ≡ true → is_module kind.Module j ≡ false
        by kind.Routine e = absurd (true≢false (sym e))
        by kind.Cluster e = absurd (true≢false (sym e))
        by _ e = refl
    never_module j e _ = refl

    set_told : (n : ℕ) (node : Node) → slice_get f.nodes n ≡ Some node → node.kind ≡ kind.TypeSet → Told kind.TypeSet n
    set_told n node at is once =
        let its : names f n ≡ node.names = ap (node_names f) at in
        ap (λ (xs : List Identifier). list_any (rules_of.is_redefined f n) (take 1 xs)) its
        ∙ inside_told n node at (λ k m. ap (λ (j : NodeKind). scope_of j k m (round m)) is) (never_module node.kind (ap (λ (j : NodeKind). is_of kind.TypeSet j || (is_of kind.TagArm j || is_of kind.Others j)) is))
        (take 1 node.names) (ap (λ (j : NodeKind). variable_names j node.names) is) (sym (ap (λ (xs : List Identifier). stands_twice (take 1 xs)) its) ∙ once)
        ∙ ap (has_redefined ds (own n)) (sym (ap (take 1) (bounds_are n node at (ap (λ (j : NodeKind). names_bound j node) is)) ∙ take_mapped (λ name. found ds name n) node.names))

    -- ---- the others of a Tagcase or an Except have at most one name

    none_or_one : {A : Type 0} (names : List A) (m : ℕ) → length names ≡ m → m ≤ 1 → (names ≡ []) ⊎ ((x : A) × (names ≡ x ∷ []))
    none_or_one [] m e le = inl refl
    none_or_one (x ∷ []) m e le = inr (x, refl)
    none_or_one (x ∷ y ∷ names) m e le = absurd (omega (arith, e, le))

    in_variable : (v : List Letter) → IsWord (shape.parts_of shape.variable) v → names_in v ≡ 1
    in_variable _ (token_is _ _ _ (name_is _ w d)) = let rest : names_in w ≡ 0 = no_names 2 _ w d refl in omega (arith, rest)

    maybe_one : (ps : List Part) (w : List Letter) → IsWord (shape.maybe shape.variable ∷ ps) w → is_unnamed 3 ps ≡ true → names_in w ≤ 1
    maybe_one ps w (without _ _ _ d) none = let rest : names_in w ≡ 0 = no_names 3 ps w d none in omega (arith, rest)
    maybe_one ps u (with_one _ _ v w _ d more e) none =
        let rest : names_in w ≡ 0 = no_names 3 ps w more none in
        let one : names_in v ≡ 1 = in_variable v d in
        let all : names_in u ≡ names_in v + names_in w = ap names_in e ∙ names_append v w in
        omega (arith, rest, one, all)

    others_named : (node : Node) → HasForm f.nodes node → node.kind ≡ kind.Others → (node.names ≡ []) ⊎ ((x : Identifier) × (node.names ≡ x ∷ []))
    others_named node form is = elim (subst (λ (k : NodeKind). IsFormOf form.form (forms k)) is form.of_kind) [
      | inl e ↦ none_or_one node.names (names_in form.word) form.names_are (few_in form.word (subst (λ (ps : List Part). IsWord ps form.word) e form.is_word))
      | inr never ↦ absurd never
    ]
      where
        few_in : (w : List Letter) → IsWord (shape.token s.Others ∷ shape.maybe shape.variable ∷ shape.token s.Colon ∷ shape.many shape.equates ∷ shape.many shape.statements ∷ []) w → names_in w ≤ 1
        few_in _ (token_is _ _ w d) = maybe_one _ w d refl

    others_told : (n : ℕ) (node : Node) → slice_get f.nodes n ≡ Some node → node.kind ≡ kind.Others → Told kind.Others n
    others_told n node at is once =
        let its : names f n ≡ node.names = ap (node_names f) at in
        let last : variable_names node.kind node.names ≡ node.names = ap (λ (j : NodeKind). variable_names j node.names) is ∙ whole (others_named node (parsed.forms n node at) is) in
        ap (list_any (rules_of.is_redefined f n)) its
        ∙ inside_told n node at (λ k m. ap (λ (j : NodeKind). scope_of j k m (round m)) is) (never_module node.kind (ap (λ (j : NodeKind). is_of kind.TypeSet j || (is_of kind.TagArm j || is_of kind.Others j)) is))
        node.names last (sym (ap stands_twice its) ∙ once)
        ∙ ap (has_redefined ds (own n)) (sym (bounds_are n node at (ap (λ (j : NodeKind). names_bound j node) is)))
      where
        whole : (node.names ≡ []) ⊎ ((x : Identifier) × (node.names ≡ x ∷ [])) → drop (length node.names - 1) node.names ≡ node.names
        whole (inl none) = ap (λ (xs : List Identifier). drop (length xs - 1) xs) none ∙ sym none
        whole (inr one) = ap (λ (xs : List Identifier). drop (length xs - 1) xs) one.1 ∙ sym one.1

    -- ---- the variable of an arm is its last name, if a type stands there

    last_alone : (x : Identifier) (xs : List Identifier) → drop (length (x ∷ xs) - 1) (x ∷ xs) ≡ get_or (x ∷ xs) (length xs) [] ∷ []
    last_alone x xs = let size : length (x ∷ xs) - 1 ≡ length xs = omega arith in ap (λ (k : ℕ). drop k (x ∷ xs)) size ∙ from x xs
      where
        from : (x : Identifier) (xs : List Identifier) → drop (length xs) (x ∷ xs) ≡ get_or (x ∷ xs) (length xs) [] ∷ []
        from x [] = refl
        from x (y ∷ ys) = from y ys

    arm_told : (n : ℕ) (node : Node) → slice_get f.nodes n ≡ Some node → node.kind ≡ kind.TagArm → Told kind.TagArm n
    arm_told n node at is once =
        ap (λ (x : Option Variable). list_any (rules_of.is_redefined f n) (counting.variable_names x)) its
        ∙ by (type_of f.nodes node.children) node.names refl
        ∙ sym (ap₂ (λ (b : Bool) (bounds : List (Option ℕ)). has_redefined ds (own n) (last_if b bounds)) declares (bounds_are n node at (ap (λ (j : NodeKind). names_bound j node) is)))
      where
        inner : ℕ → Item
        inner = before n (item_at f.nodes)

        its : (item_at f.nodes n).tag_arm.variable ≡ variable_item inner (last_option node.names) (type_of f.nodes node.children)
        its = ap (λ (i : Item). i.tag_arm.variable) (item_there f.nodes n node at) ∙ ap (λ (k : NodeKind). (tag_arm_of inner f.nodes n node k).variable) is

        declares : declares_variable items f.nodes n ≡ is_some (variable_item items (last_option node.names) (type_of f.nodes node.children))
        declares =
            ap (λ (o : Option Node). is_there kind.TagArm o && is_some (item_with items f.nodes n o).tag_arm.variable) at
            ∙ ap (λ (k : NodeKind). is_of kind.TagArm k && is_some (tag_arm_of items f.nodes n node k).variable) is

        last_denoted : (x : Identifier) (xs : List Identifier) → denoted n (get_or (x ∷ xs) (length xs) [] ∷ []) ≡ drop (length (denoted n (x ∷ xs)) - 1) (denoted n (x ∷ xs))
        last_denoted x xs =
            sym (ap (λ (k : ℕ). drop (k - 1) (denoted n (x ∷ xs))) (length-map (x ∷ xs) (λ (name : Identifier). found ds name n))
            ∙ drop-map (λ name. found ds name n) (length (x ∷ xs) - 1) (x ∷ xs)
            ∙ ap (denoted n) (last_alone x xs))

        by : (o : Option ℕ) (xs : List Identifier) → node.names ≡ xs →
            list_any (rules_of.is_redefined f n) (counting.variable_names (variable_item inner (last_option xs) o)) ≡ has_redefined ds (own n) (last_if (is_some (variable_item items (last_option xs) o)) (denoted n xs))
        by None [] e = refl
        by None (x ∷ xs) e = refl
        by (Some m) [] e = refl
        by (Some m) (x ∷ xs) e =
            inside_told n node at (λ k m. ap (λ (j : NodeKind). scope_of j k m (round m)) is) (never_module node.kind (ap (λ (j : NodeKind). is_of kind.TypeSet j || (is_of kind.TagArm j || is_of kind.Others j)) is))
            (get_or (x ∷ xs) (length xs) [] ∷ [])
            (ap (λ (j : NodeKind). variable_names j node.names) is ∙ ap (λ (ys : List Identifier). drop (length ys - 1) ys) e ∙ last_alone x xs) refl
            ∙ ap (has_redefined ds (own n)) (last_denoted x xs)

    -- ---- a routine is declared in its cluster, or it is a module, which nothing precedes

    module _ (n : ℕ) (node : Node) (at : slice_get f.nodes n ≡ Some node) (is : node.kind ≡ kind.Routine) where
      abbrev outer : NodeKind
      outer = kind_at_parent f.nodes (round n).parent

      abbrev Alone : Declared → Type 0
      Alone d = d.node ≡ n → d.unit ≡ None

      routine_of : (m : ℕ) (its : Node) → slice_get f.nodes m ≡ Some its → m ≡ n → its.kind ≡ kind.Routine
      routine_of m its there own = ap (λ (x : Node). x.kind) (same_Some its node (sym there ∙ ap (slice_get f.nodes) own ∙ at)) ∙ is

      alone_each : scope_of kind.Routine outer n (round n) ≡ None → AreEach f.nodes f.rounds Alone
      alone_each none = record {
        variables = λ m p above k up there its_kind o begins name own. absurd (true≢false (sym o ∙ ap (λ (j : NodeKind). opens j k) (routine_of p above there own)));
        owns = λ m its there scope e name own. absurd (none-some scope (sym none
            ∙ ap (λ (x : ℕ). scope_of kind.Routine (kind_at_parent f.nodes (round x).parent) x (round x)) (sym own)
            ∙ ap (λ (j : NodeKind). scope_of j (kind_at_parent f.nodes (round m).parent) m (round m)) (sym (routine_of m its there own)) ∙ e));
        modules = λ m its there e name own. refl;
      }

      its_unit : scope_of kind.Routine outer n (round n) ≡ None → (j : ℕ) (d : Declared) → slice_get ds j ≡ Some d → d.node ≡ n → d.unit ≡ None
      its_unit none j d there own = of_each f.nodes f.rounds Alone (alone_each none) j d (ap (λ (l : List Declared). slice_get l j) (sym same) ∙ there) own

      one_alone : (none : scope_of kind.Routine outer n (round n) ≡ None) (name : Identifier) → rules_of.is_redefined f n name ≡ false
      one_alone none name = by (slice_get ds (declared_from 0 ds n name)) refl
        where
          by : (o : Option Declared) → slice_get ds (declared_from 0 ds n name) ≡ o → is_redefined_at f n name (declared_from 0 ds n name) o ≡ false
          by None there = refl
          by (Some e) there = not_preceded n name (declared_from 0 ds n name) e 0 ds (its_unit none (declared_from 0 ds n name) e there (named_there n name 0 ds (declared_from 0 ds n name) e (omega arith) there))

      other_alone : (none : scope_of kind.Routine outer n (round n) ≡ None) (bound : Option ℕ) → one_redefined ds (first_from 0 ds n (length ds)) bound ≡ false
      other_alone none None = refl
      other_alone none (Some k) = by (slice_get ds (first_from 0 ds n (length ds))) refl
        where
          by : (o : Option Declared) → slice_get ds (first_from 0 ds n (length ds)) ≡ o → both_before k (slice_get ds k) (first_from 0 ds n (length ds)) o ≡ false
          by None there = no_other k (slice_get ds k) (first_from 0 ds n (length ds))
          by (Some e) there = no_unit k (slice_get ds k) (first_from 0 ds n (length ds)) e (its_unit none (first_from 0 ds n (length ds)) e there (first_there n 0 ds (length ds) (first_from 0 ds n (length ds)) e (omega arith) (omega arith) there))

      module_told : scope_of kind.Routine outer n (round n) ≡ None → list_any (rules_of.is_redefined f n) (take 1 (names f n)) ≡ has_redefined ds (own n) (take 1 (bound_in table n))
      module_told none =
          by_names (names f n)
          ∙ sym (ap (λ (k : ℕ). has_redefined ds k (take 1 (bound_in table n))) (place_is ds (length f.nodes) n (slice_get_within f.nodes n node at)) ∙ by_bounds (bound_in table n))
        where
          by_names : (xs : List Identifier) → list_any (rules_of.is_redefined f n) (take 1 xs) ≡ false
          by_names [] = refl
          by_names (x ∷ xs) = ap (λ (b : Bool). b || false) (one_alone none x)

          by_bounds : (xs : List (Option ℕ)) → has_redefined ds (first_from 0 ds n (length ds)) (take 1 xs) ≡ false
          by_bounds [] = refl
          by_bounds (x ∷ xs) = ap (λ (b : Bool). nat_lt (first_from 0 ds n (length ds)) (length ds) && (b || false)) (other_alone none x) ∙ and-false (nat_lt (first_from 0 ds n (length ds)) (length ds))

      inner_told : (scope : ℕ × ℕ) → scope_of kind.Routine outer n (round n) ≡ Some scope → stands_twice (take 1 (names f n)) ≡ false → list_any (rules_of.is_redefined f n) (take 1 (names f n)) ≡ has_redefined ds (own n) (take 1 (bound_in table n))
      inner_told scope e once =
          let its : names f n ≡ node.names = ap (node_names f) at in
          ap (λ (xs : List Identifier). list_any (rules_of.is_redefined f n) (take 1 xs)) its
          ∙ own_redefined t f parsed are same few n node at (λ j. ap (λ (k : NodeKind). opens k j) is) scope (ap (λ (k : NodeKind). scope_of k outer n (round n)) is ∙ e) (take 1 node.names) (ap (λ (k : NodeKind). own_names k node) is)
          (sym (ap (λ (xs : List Identifier). stands_twice (take 1 xs)) its) ∙ once)
          ∙ ap (λ (k : ℕ). has_redefined ds k (denoted n (take 1 node.names))) (sym (place_is ds (length f.nodes) n (slice_get_within f.nodes n node at)))
          ∙ ap (has_redefined ds (own n)) (sym (ap (take 1) (bounds_are n node at (ap (λ (j : NodeKind). names_bound j node) is)) ∙ take_mapped (λ name. found ds name n) node.names))

      routine_told : Told kind.Routine n
      routine_told once = by (scope_of kind.Routine outer n (round n)) refl
        where
          by : (o : Option (ℕ × ℕ)) → scope_of kind.Routine outer n (round n) ≡ o → list_any (rules_of.is_redefined f n) (take 1 (names f n)) ≡ has_redefined ds (own n) (take 1 (bound_in table n))
          by None e = module_told e
          by (Some scope) e = inner_told scope e once

    -- ---- all kinds

    placed : (n : ℕ) (k : NodeKind) → kind_in f n ≡ k → declares_all k ≡ true → Told k n
    placed n k e all = subst (λ (j : NodeKind). Told j n) e (redefined_by_places t f parsed are same few table table_is (declares_variable items f.nodes n) n (ap declares_all e ∙ all))

    by_kind : (n : ℕ) (k : NodeKind) → kind_in f n ≡ k → Told k n
    by_kind n kind.Equate e once = placed n kind.Equate e refl once
    by_kind n kind.Parm e once = placed n kind.Parm e refl once
    by_kind n kind.Decl e once = placed n kind.Decl e refl once
    by_kind n kind.Init e once = placed n kind.Init e refl once
    by_kind n kind.Own e once = placed n kind.Own e refl once
    by_kind n kind.Routine e once = let its : There f.nodes n kind.Routine = there f.nodes n kind.Routine refl e in routine_told n its.node its.at its.is once
    by_kind n kind.TypeSet e once = let its : There f.nodes n kind.TypeSet = there f.nodes n kind.TypeSet refl e in set_told n its.node its.at its.is once
    by_kind n kind.Others e once = let its : There f.nodes n kind.Others = there f.nodes n kind.Others refl e in others_told n its.node its.at its.is once
    by_kind n kind.TagArm e once = let its : There f.nodes n kind.TagArm = there f.nodes n kind.TagArm refl e in arm_told n its.node its.at its.is once
    by_kind n _ e once = refl

    pub redefined_told : (n : ℕ) → Told (kind_in f n) n
    redefined_told n once = by_kind n (kind_in f n) refl once
