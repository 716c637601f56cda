-- The bits of names that stand twice, told of a file.
use Rattle.std.proofs.Common.{◌≡◌, ◌∙◌, ℕ, suc, ◌<◌, Bool, true, false, ◌&&◌, ◌||◌, not, if◌then◌else◌, List, [], ◌∷◌, ◌++◌, length, fold, slice_get, is_none, bytes_eq, Option, Some, None, refl, sym, ap, ap₂}
use Rattle.std.specs.List.{list_any}
use Rattle.std.proofs.Math.Bool.{or_comm}
use Rattle.std.proofs.lemmas.Bool.{true≢false, ne_eqb, lt-ltb, and_parts}
use Rattle.std.proofs.lemmas.Option.{none-some, same_Some, slice_get_within}
use Rattle.clu_tree.specs.declared.node.Node.{Node}
use Rattle.clu_tree.specs.declared.node.NodeKind.{NodeKind}
use Rattle.clu_tree.specs.declared.node.NodeKind.TheVariants as kind
use Rattle.clu_syntax.specs.Kinds.{kind_of}
use Rattle.clu_syntax.specs.Splits.{is_of, children_of}
use Rattle.clu_syntax.specs.Syntax.{Identifier}
use Rattle.clu_names.specs.declared.scopes.Declared.{Declared}
use Rattle.clu_names.specs.Latest.{is_local}
use Rattle.clu_settle.specs.Names.{names_of}
use Rattle.clu_checking.specs.Files.{File, kind_in, is_kind, parent, children_at, names}
use Rattle.clu_checking.specs.NameRules.{stands_twice, stands_before, siblings_before, before_in}
use Rattle.clu_checking.specs.NameRules as rules_of
use Rattle.clu_checking.specs.ExpressionRules.{v17, v17_at}
use Rattle.clu_head.specs.Refused.{is_set}
use Rattle.clu_name_rules.specs.declared.repeated.ListKind.{ListKind}
use Rattle.clu_name_rules.specs.declared.repeated.ListKind.TheVariants as list
use Rattle.clu_name_rules.specs.Closed.{is_definition}
use Rattle.clu_name_rules.specs.Constructors.{is_selector}
use Rattle.clu_name_rules.specs.Words.{words_to}
use Rattle.clu_name_rules.specs.Repeated.{Note, list_of, is_refused, own_names, listed_name, with_name, with_item, with_module, with_nodes, notes_of}
use Rattle.clu_passes.specs.Notes.{has, each_once, HaveParents, DeclareModules, AreRepeated, is_listed_item, is_arm, is_own_list}
use Rattle.clu_passes.proofs.AtNodes.{kids_are, names_are}
use Rattle.clu_passes.proofs.Noted.{seen, repeats, bits_are, names_apart, same_word, stand_twice, IsStrict}
use Rattle.clu_passes.proofs.Known.{is_known, are_known, any_turned, twice_is, nodes_known}
use Rattle.clu_passes.proofs.StandTwice.{IsItemOf, all_names, exceptions_are, arms_are, declared_are, selectors_are, components_are, own_before, names_before, stand_before, list_strict, list_loose}
use Rattle.clu_passes.proofs.FileNames.{item_repeats, own_repeats}

any_known : (all : List Identifier) (p q : Identifier → Bool) → ((x : Identifier) → is_known all x ≡ true → p x ≡ q x) → (xs : List Identifier) → are_known all xs ≡ true → list_any p xs ≡ list_any q xs
any_known all p q same [] known = refl
any_known all p q same (x ∷ xs) known =
    let parts = and_parts (is_known all x) (are_known all xs) known in
    ap (λ (b : Bool). b || list_any p xs) (same x parts.0) ∙ ap (λ (b : Bool). q x || b) (any_known all p q same xs parts.1)

none_local : (unit : Option ℕ) → is_none unit ≡ true → is_local unit ≡ false
none_local None is = refl
none_local (Some unit) is = absurd (true≢false (sym is))

module _ (f : File) (parents : HaveParents f) (modules : DeclareModules f) (bits : List Bool) (are : AreRepeated f bits) where
  abbrev size : ℕ
  size = length f.nodes

  abbrev all : List Identifier
  all = words_to f.nodes size

  -- ---- what is at a node

  inside : (n : ℕ) → is_of kind.File (kind_in f n) ≡ false → n < size
  inside n other = by (slice_get f.nodes n) refl
    where
      by : (o : Option Node) → slice_get f.nodes n ≡ o → n < size
      by None at = absurd (true≢false (ap (λ (o : Option Node). is_of kind.File (kind_of o)) (sym at) ∙ other))
      by (Some node) at = slice_get_within f.nodes n node at

  has_children : (m n : ℕ) → has n (children_of (slice_get f.nodes m)) ≡ true → m < size
  has_children m n there = by (slice_get f.nodes m) refl
    where
      by : (o : Option Node) → slice_get f.nodes m ≡ o → m < size
      by None at = absurd (true≢false (sym there ∙ ap (λ (o : Option Node). has n (children_of o)) at))
      by (Some node) at = slice_get_within f.nodes m node at

  -- ---- modules are routines and clusters

  modules_apart : (n : ℕ) → is_definition (kind_in f n) ≡ false → (ds : List Declared) → ((j : ℕ) (d : Declared) → slice_get ds j ≡ Some d → is_local d.unit ≡ false → is_definition (kind_in f d.node) ≡ true) →
      (before : List Note) → repeats (fold (with_module all size) before ds) n ≡ repeats before n
  modules_apart n other [] define before = refl
  modules_apart n other (d ∷ ds) define before = modules_apart n other ds (λ j e there. define (suc j) e there) (with_module all size before d) ∙ by (is_none d.unit) refl
    where
      by : (b : Bool) → is_none d.unit ≡ b → repeats (if b then with_name all size list.Modules d.node before d.name else before) n ≡ repeats before n
      by true is =
          let defines : is_definition (kind_in f d.node) ≡ true = define 0 d refl (none_local d.unit is) in
          names_apart all size list.Modules d.node n (ne_eqb d.node n (λ e. absurd (true≢false (sym defines ∙ ap (λ (m : ℕ). is_definition (kind_in f m)) e ∙ other)))) (d.name ∷ []) before
      by false is = refl

  bits_told : (n : ℕ) → n < size → is_definition (kind_in f n) ≡ false → is_set (slice_get bits n) ≡ repeats (with_nodes all f.nodes size []) n
  bits_told n less other =
      ap (λ (bs : List Bool). is_set (slice_get bs n)) are
      ∙ bits_are size (notes_of all f.nodes f.scope.declarations) n
      ∙ ap (λ (b : Bool). b && repeats (notes_of all f.nodes f.scope.declarations) n) (lt-ltb n size less)
      ∙ modules_apart n other f.scope.declarations modules (with_nodes all f.nodes size [])

  -- ---- items of a list

  -- a name of the node is one of an item before it
  abbrev pub own_stands_before : (ℕ → List Identifier) → NodeKind → ℕ → Bool
  own_stands_before own item n = list_any (λ x. list_any (bytes_eq x) (own_before all f.nodes own item (siblings_before f n))) (own n)

  module _ (own : List Node → ℕ → List Identifier) (item : NodeKind) (k : ListKind) (is : IsItemOf own item k) (n : ℕ) (kind_is : kind_in f n ≡ item) (other : is_of kind.File item ≡ false) (plain : is_definition item ≡ false) (none : own_names f.nodes item n ≡ []) (known : are_known all (own f.nodes n) ≡ true) where
    abbrev its_names : List Identifier
    its_names = own f.nodes n

    less : n < size
    less = inside n (ap (is_of kind.File) kind_is ∙ other)

    has_parent : parent f n ≡ None → ⊥
    has_parent above = none-some k (sym (parents.items n above) ∙ ap list_of kind_is ∙ is.its)

    -- its list says where it stands before, or twice
    module _ (p : ℕ) (above : parent f n ≡ Some p) where
      abbrev cs : List ℕ
      cs = children_of (slice_get f.nodes p)

      there : has n cs ≡ true
      there = ap (has n) (kids_are f p) ∙ parents.below p n above

      once : each_once cs ≡ true
      once = ap each_once (kids_are f p) ∙ parents.once p

      only : (m : ℕ) → (m ≡ p → ⊥) → has n (children_of (slice_get f.nodes m)) ≡ false
      only m apart = by (has n (children_of (slice_get f.nodes m))) refl
        where
          by : (b : Bool) → has n (children_of (slice_get f.nodes m)) ≡ b → b ≡ false
          by false is = refl
          by true is = absurd (apart (same_Some m p (sym (parents.above m n (ap (has n) (sym (kids_are f m)) ∙ is)) ∙ above)))

      abbrev before_it : List ℕ → List Identifier
      before_it cs = own_before all f.nodes (own f.nodes) item (before_in cs n)

      before_told : stand_before all f.nodes own item k is p cs n ≡ own_stands_before (own f.nodes) item n
      before_told =
          any_known all (λ x. list_any (λ y. same_word all y x) (before_it cs)) (λ x. list_any (bytes_eq x) (before_it cs))
          (λ x is. any_turned all x is (before_it cs)) its_names known
          ∙ ap (λ (cs : List ℕ). list_any (λ x. list_any (bytes_eq x) (before_it cs)) its_names) (kids_are f p)
          ∙ ap (λ (o : Option ℕ). list_any (λ x. list_any (bytes_eq x) (before_it (children_at f o))) its_names) (sym above)

      by_list : (stands : Bool) → ((before : List Note) → ((x : List ℕ) → seen before (listed_name all p k x) ≡ false) → repeats before n ≡ false → repeats (fold (with_item all f.nodes p) before cs) n ≡ stands) → is_set (slice_get bits n) ≡ stands
      by_list stands law =
          bits_told n less (ap is_definition kind_is ∙ plain)
          ∙ item_repeats all f.nodes n (ap (λ (j : NodeKind). own_names f.nodes j n) kind_is ∙ none) k p only stands law size (has_children p n there)

      strict_told : IsStrict k → is_set (slice_get bits n) ≡ (stands_twice its_names || own_stands_before (own f.nodes) item n)
      strict_told strict =
          by_list (stand_before all f.nodes own item k is p cs n || stand_twice all its_names) (λ before fresh none. list_strict all f.nodes own item k is p n kind_is cs there once before fresh none strict)
          ∙ or_comm (stand_before all f.nodes own item k is p cs n) (stand_twice all its_names)
          ∙ ap (λ (b : Bool). b || stand_before all f.nodes own item k is p cs n) (twice_is all its_names known)
          ∙ ap (λ (b : Bool). stands_twice its_names || b) before_told

      loose_told : ((b : Bool) → is_refused k b ≡ not b) → is_set (slice_get bits n) ≡ own_stands_before (own f.nodes) item n
      loose_told loose = by_list (stand_before all f.nodes own item k is p cs n) (λ before fresh none. list_loose all f.nodes own item k is p n kind_is cs there once before fresh none loose) ∙ before_told

    pub item_strict : IsStrict k → is_set (slice_get bits n) ≡ (stands_twice its_names || own_stands_before (own f.nodes) item n)
    item_strict strict = by (parent f n) refl
      where
        by : (o : Option ℕ) → parent f n ≡ o → is_set (slice_get bits n) ≡ (stands_twice its_names || own_stands_before (own f.nodes) item n)
        by None above = absurd (has_parent above)
        by (Some p) above = strict_told p above strict

    item_loose : ((b : Bool) → is_refused k b ≡ not b) → is_set (slice_get bits n) ≡ own_stands_before (own f.nodes) item n
    item_loose loose = by (parent f n) refl
      where
        by : (o : Option ℕ) → parent f n ≡ o → is_set (slice_get bits n) ≡ own_stands_before (own f.nodes) item n
        by None above = absurd (has_parent above)
        by (Some p) above = loose_told p above loose

  -- ---- items that have all names of their nodes

  pub node_known : (n : ℕ) (item : NodeKind) → kind_in f n ≡ item → is_of kind.File item ≡ false → are_known all (all_names f.nodes n) ≡ true
  node_known n item kind_is other = nodes_known f.nodes size n (inside n (ap (is_of kind.File) kind_is ∙ other))

  before_same : (item : NodeKind) (cs : List ℕ) → names_before all f.nodes item cs ≡ rules_of.names_before f item cs
  before_same item [] = refl
  before_same item (c ∷ cs) = by (before_same item cs) (is_kind f item c)
    where
      by : names_before all f.nodes item cs ≡ rules_of.names_before f item cs → (b : Bool) →
          (if b then names_of (slice_get f.nodes c) ++ names_before all f.nodes item cs else names_before all f.nodes item cs) ≡ (if b then names f c ++ rules_of.names_before f item cs else rules_of.names_before f item cs)
      by rest true = ap (λ (xs : List Identifier). xs ++ names_before all f.nodes item cs) (names_are f c) ∙ ap (λ (xs : List Identifier). names f c ++ xs) rest
      by rest false = rest

  all_before : (item : NodeKind) (n : ℕ) → own_stands_before (all_names f.nodes) item n ≡ stands_before f item n
  all_before item n =
      ap (λ (xs : List Identifier). list_any (λ x. list_any (bytes_eq x) xs) (all_names f.nodes n)) (before_same item (siblings_before f n))
      ∙ ap (λ (xs : List Identifier). list_any (λ x. list_any (bytes_eq x) (rules_of.names_before f item (siblings_before f n))) xs) (names_are f n)

  all_strict : (item : NodeKind) (k : ListKind) → IsItemOf all_names item k → (n : ℕ) → kind_in f n ≡ item → is_of kind.File item ≡ false → is_definition item ≡ false → own_names f.nodes item n ≡ [] → IsStrict k → is_set (slice_get bits n) ≡ (stands_twice (names f n) || stands_before f item n)
  all_strict item k is n kind_is other plain none strict =
      item_strict all_names item k is n kind_is other plain none (node_known n item kind_is other) strict
      ∙ ap₂ (λ (a b : Bool). a || b) (ap stands_twice (names_are f n)) (all_before item n)

  all_loose : (item : NodeKind) (k : ListKind) → IsItemOf all_names item k → (n : ℕ) → kind_in f n ≡ item → is_of kind.File item ≡ false → is_definition item ≡ false → own_names f.nodes item n ≡ [] → ((b : Bool) → is_refused k b ≡ not b) → is_set (slice_get bits n) ≡ stands_before f item n
  all_loose item k is n kind_is other plain none loose =
      item_loose all_names item k is n kind_is other plain none (node_known n item kind_is other) loose ∙ all_before item n

  -- ---- names that are a list by themselves

  own_told : (k : NodeKind) (n : ℕ) → kind_in f n ≡ k → is_of kind.File k ≡ false → is_definition k ≡ false → list_of k ≡ None → own_names f.nodes k n ≡ names_of (slice_get f.nodes n) → is_set (slice_get bits n) ≡ stands_twice (names f n)
  own_told k n kind_is other plain none own =
      let less : n < size = inside n (ap (is_of kind.File) kind_is ∙ other) in
      bits_told n less (ap is_definition kind_is ∙ plain)
      ∙ own_repeats all f.nodes n (ap list_of kind_is ∙ none) size less
      ∙ ap (λ (j : NodeKind). stand_twice all (own_names f.nodes j n)) kind_is
      ∙ ap (stand_twice all) own
      ∙ twice_is all (names_of (slice_get f.nodes n)) (nodes_known f.nodes size n less)
      ∙ ap stands_twice (names_are f n)

  -- ---- by kind

  pub items_told : (n : ℕ) (k : NodeKind) → kind_in f n ≡ k → is_listed_item k ≡ true → is_set (slice_get bits n) ≡ (stands_twice (names f n) || stands_before f k n)
  items_told n kind.Decl is h = all_strict kind.Decl list.Declared declared_are n is refl refl refl (λ b. refl)
  items_told n kind.FieldT is h = all_strict kind.FieldT list.Selectors selectors_are n is refl refl refl (λ b. refl)
  items_told n kind.FieldE is h = all_strict kind.FieldE list.Components components_are n is refl refl refl (λ b. refl)
  items_told n _ is h = absurd (true≢false (sym h))

  -- an exception, and a when arm
  pub arms_told : (n : ℕ) (k : NodeKind) → kind_in f n ≡ k → is_arm k ≡ true → is_set (slice_get bits n) ≡ stands_before f k n
  arms_told n kind.Exc is h = all_loose kind.Exc list.Exceptions exceptions_are n is refl refl refl (λ b. refl)
  arms_told n kind.When is h = all_loose kind.When list.WhenArms arms_are n is refl refl refl (λ b. refl)
  arms_told n _ is h = absurd (true≢false (sym h))

  pub names_told : (n : ℕ) (k : NodeKind) → kind_in f n ≡ k → is_own_list k ≡ true → is_set (slice_get bits n) ≡ stands_twice (names f n)
  names_told n kind.Equate is h = own_told kind.Equate n is refl refl refl refl
  names_told n kind.Parm is h = own_told kind.Parm n is refl refl refl refl
  names_told n kind.Init is h = own_told kind.Init n is refl refl refl refl
  names_told n kind.Own is h = own_told kind.Own n is refl refl refl refl
  names_told n kind.Others is h = own_told kind.Others n is refl refl refl refl
  names_told n _ is h = absurd (true≢false (sym h))

  -- V17 at a selector
  pub selectors_told : (n : ℕ) (k : NodeKind) → kind_in f n ≡ k → is_selector k ≡ true → v17 f n ≡ is_set (slice_get bits n)
  selectors_told n kind.FieldT is h = ap (λ (k : NodeKind). v17_at f k n) is ∙ sym (items_told n kind.FieldT is refl)
  selectors_told n kind.FieldE is h = ap (λ (k : NodeKind). v17_at f k n) is ∙ sym (items_told n kind.FieldE is refl)
  selectors_told n _ is h = absurd (true≢false (sym h))
