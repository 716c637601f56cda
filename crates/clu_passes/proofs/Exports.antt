-- V33 by the first routine of each name.
use Rattle.std.proofs.Common.{◌≡◌, ◌∙◌, ◌⊎◌, ℕ, zero, suc, ◌-◌, ◌<◌, ◌≤◌, Bool, true, false, ◌&&◌, ◌||◌, ◌==◌, not, if◌then◌else◌, List, [], ◌∷◌, length, take, drop, map, fold, filter, slice_get, is_some, is_none, bytes_eq, Option, Some, None, inl, inr, refl, sym, ap, arith, rules}
use Rattle.std.specs.List.{list_any, list_all}
use Rattle.std.specs.HashMap.{get}
use Rattle.std.proofs.Math.Bool.{or-false}
use Rattle.std.proofs.lemmas.Bool.{true≢false, ne_eqb, cases_lt, and_parts, and_from}
use Rattle.std.proofs.lemmas.Option.{slice_get_within}
use Rattle.std.proofs.lemmas.Slice.Eq.{bytes_eq-Decides}
use Rattle.clu_tree.specs.declared.node.Node.{Node}
use Rattle.clu_tree.specs.declared.node.NodeKind.{NodeKind}
use Rattle.clu_tree.specs.declared.node.NodeKind.TheVariants as kind
use Rattle.clu_tree.specs.contracts.node.NodeKind.{the_type}
use Rattle.clu_parser.specs.Shape.{HaveForms}
use Rattle.clu_syntax.specs.Enough.{least_names, HasEnough}
use Rattle.clu_syntax.specs.Items.{Item, no_item}
use Rattle.clu_syntax.specs.Kinds.{kind_of, kind_at}
use Rattle.clu_syntax.specs.Nodes.{item_with, item_at, before, cluster_of, routine_of}
use Rattle.clu_syntax.specs.Splits.{is_of, children_of, but_last, first_name}
use Rattle.clu_syntax.specs.Syntax.{Identifier, Routine}
use Rattle.clu_syntax.proofs.Enough.{enough}
use Rattle.clu_syntax.proofs.Items.{item_is}
use Rattle.clu_names.specs.declared.scopes.Declared.{Declared}
use Rattle.clu_settle.specs.Names.{names_of}
use Rattle.clu_checking.specs.Files.{File, item, kind_in, is_kind, children}
use Rattle.clu_checking.specs.ModuleRules.{is_routine_of, v33, v33_in}
use Rattle.clu_name_rules.specs.declared.repeated.Items.{Items}
use Rattle.clu_name_rules.specs.declared.repeated.ListKind.{ListKind}
use Rattle.clu_name_rules.specs.declared.repeated.ListKind.TheVariants as list
use Rattle.clu_name_rules.specs.declared.repeated.Listed.{Listed}
use Rattle.clu_name_rules.specs.ModuleRules.{lacks_routine, lacks_export}
use Rattle.clu_name_rules.specs.Words.{words_to}
use Rattle.clu_name_rules.specs.Repeated.{same, Note, first_in, list_of, exports_at, item_names, own_names, listed_name, with_name, with_names, with_item_of, with_item, with_module, with_node, with_nodes, notes_of, AreNoted}
use Rattle.clu_passes.specs.Notes.{HaveRoutines}
use Rattle.clu_passes.proofs.AtNodes.{kids_are}
use Rattle.clu_passes.proofs.Noted.{any_same, same_word, same_kind, seen, seen_names, same_listed}
use Rattle.clu_passes.proofs.StandTwice.{any_none, is_list, names_of_others, names_elsewhere, seen_other}
use Rattle.clu_passes.proofs.FileNames.{unseen, unseen_node}
use Rattle.clu_passes.proofs.Known.{is_known, are_known, turned_is, nodes_known}
use denote.Enum.Bare.{same_true}

only_routine : (other : NodeKind) → is_of kind.Routine other ≡ false → is_list list.Routines (list_of other) ≡ false
only_routine kind.Routine h = h
only_routine _ h = refl

bytes_turned : (a b : Identifier) → bytes_eq a b ≡ bytes_eq b a
bytes_turned a b = by (bytes_eq a b) refl (bytes_eq b a) refl
  where
    by : (s : Bool) → bytes_eq a b ≡ s → (t : Bool) → bytes_eq b a ≡ t → s ≡ t
    by true i true j = refl
    by false i false j = refl
    by true i false j = sym ((bytes_eq-Decides b a).1 (sym ((bytes_eq-Decides a b).0 i))) ∙ j
    by false i true j = sym i ∙ (bytes_eq-Decides a b).1 (sym ((bytes_eq-Decides b a).0 j))

none_is_not : (o : Option ℕ) → is_none o ≡ not (is_some o)
none_is_not None = refl
none_is_not (Some x) = refl

-- ---- exported names

exports_same : (items : ℕ → Item) (nodes : List Node) (n : ℕ) (o : Option Node) → (item_with items nodes n o).cluster.exports ≡ (item_with (λ m. no_item) nodes n o).cluster.exports
exports_same items nodes n None = refl
exports_same items nodes n (Some node) = by node.kind
  where
    by : (k : NodeKind) → (cluster_of items nodes n node k).exports ≡ (cluster_of (λ m. no_item) nodes n node k).exports
    by kind.Cluster = refl
    by _ = refl

take_known : (all names : List Identifier) (n : ℕ) → are_known all names ≡ true → are_known all (take n names) ≡ true
take_known all names zero known = refl
take_known all [] (suc n) known = refl
take_known all (name ∷ names) (suc n) known =
    let parts = and_parts (is_known all name) (are_known all names) known in
    and_from (is_known all name) (are_known all (take n names)) parts.0 (take_known all names n parts.1)

drop_known : (all names : List Identifier) → are_known all names ≡ true → are_known all (drop 1 names) ≡ true
drop_known all [] known = refl
drop_known all (name ∷ names) known = (and_parts (is_known all name) (are_known all names) known).1

exports_known : (all : List Identifier) (nodes : List Node) (n : ℕ) → are_known all (names_of (slice_get nodes n)) ≡ true → are_known all (exports_at nodes n) ≡ true
exports_known all nodes n = of (slice_get nodes n)
  where
    by : (node : Node) → are_known all node.names ≡ true → (k : NodeKind) → are_known all (cluster_of (λ m. no_item) nodes n node k).exports ≡ true
    by node known kind.Cluster = drop_known all (but_last node.names) (take_known all node.names (length node.names - 1) known)
    by node known _ = refl

    of : (o : Option Node) → are_known all (names_of o) ≡ true → are_known all (item_with (λ m. no_item) nodes n o).cluster.exports ≡ true
    of None known = refl
    of (Some node) known = by node known node.kind

-- ---- what is seen of the routines of a cluster

module _ (all : List Identifier) (nodes : List Node) (top : ℕ) where
  abbrev at : Identifier → Listed
  at x = listed_name all top list.Routines x

  abbrev names_at : ℕ → List Identifier
  names_at c = names_of (slice_get nodes c)

  abbrev names_it : Identifier → ℕ → Bool
  names_it x c = is_of kind.Routine (kind_at nodes c) && list_any (λ y. same_word all y x) (take 1 (names_at c))

  seen_routine : (c : ℕ) (note : List Note) (x : Identifier) → seen (with_item all nodes top note c) (at x) ≡ (names_it x c || seen note (at x))
  seen_routine c note x = by (is_of kind.Routine (kind_at nodes c)) refl
    where
      by : (b : Bool) → is_of kind.Routine (kind_at nodes c) ≡ b → seen (with_item all nodes top note c) (at x) ≡ ((b && list_any (λ y. same_word all y x) (take 1 (names_at c))) || seen note (at x))
      by true is =
          let its : kind_at nodes c ≡ kind.Routine = same_true the_type (search rules) (kind_at nodes c) kind.Routine is in
          ap (λ (k : NodeKind). seen (with_item_of all nodes (list_of k) top c note) (at x)) its
          ∙ seen_names all top list.Routines c (take 1 (names_at c)) note (at x)
          ∙ ap (λ (b : Bool). b || seen note (at x)) (any_same (λ y. same (at y) (at x)) (λ y. same_word all y x) (λ y. same_listed all top list.Routines y x) (take 1 (names_at c)))
      by false is = seen_other all nodes list.Routines top (list_of (kind_at nodes c)) (only_routine (kind_at nodes c) is) c note x

  turn : (a b s : Bool) → (a || (b || s)) ≡ ((b || a) || s)
  turn true true s = refl
  turn true false s = refl
  turn false true s = refl
  turn false false s = refl

  seen_routines : (cs : List ℕ) (note : List Note) (x : Identifier) → seen (fold (with_item all nodes top) note cs) (at x) ≡ (list_any (names_it x) cs || seen note (at x))
  seen_routines [] note x = refl
  seen_routines (c ∷ cs) note x =
      seen_routines cs (with_item all nodes top note c) x
      ∙ ap (λ (b : Bool). list_any (names_it x) cs || b) (seen_routine c note x)
      ∙ turn (list_any (names_it x) cs) (names_it x c) (seen note (at x))

  seen_node : (x : Identifier) → seen (with_node all nodes top (with_nodes all nodes top [])) (at x) ≡ list_any (names_it x) (children_of (slice_get nodes top))
  seen_node x =
      let note : List Note = with_nodes all nodes top [] in
      seen_names all top list.Names top (own_names nodes (kind_at nodes top) top) (fold (with_item all nodes top) note (children_of (slice_get nodes top))) (at x)
      ∙ ap (λ (b : Bool). b || seen (fold (with_item all nodes top) note (children_of (slice_get nodes top))) (at x))
      (any_none (λ y. same (listed_name all top list.Names y) (at x)) (λ y. names_of_others all nodes top top list.Names list.Routines x y refl) (own_names nodes (kind_at nodes top) top))
      ∙ seen_routines (children_of (slice_get nodes top)) note x
      ∙ ap (λ (b : Bool). list_any (names_it x) (children_of (slice_get nodes top)) || b) (unseen all nodes top top list.Routines x (omega arith))
      ∙ or-false (list_any (names_it x) (children_of (slice_get nodes top)))

  seen_nodes : (l : ℕ) → top < l → (x : Identifier) → seen (with_nodes all nodes l []) (at x) ≡ list_any (names_it x) (children_of (slice_get nodes top))
  seen_nodes zero less x = absurd (omega (arith, less))
  seen_nodes (suc l) less x = by (λ more. seen_nodes l more x) (cases_lt top l)
    where
      by : (top < l → seen (with_nodes all nodes l []) (at x) ≡ list_any (names_it x) (children_of (slice_get nodes top))) → (top < l) ⊎ (l ≤ top) → seen (with_nodes all nodes (suc l) []) (at x) ≡ list_any (names_it x) (children_of (slice_get nodes top))
      by rest (inl more) = unseen_node all nodes l top list.Routines x (ne_eqb l top (λ e. absurd (omega (arith, e, more)))) (with_nodes all nodes l []) ∙ rest more
      by rest (inr last) = let same : l ≡ top = omega (arith, less, last) in ap (λ (j : ℕ). seen (with_nodes all nodes (suc j) []) (at x)) same ∙ seen_node x

  -- modules are another list
  seen_modules : (size : ℕ) (ds : List Declared) (note : List Note) (x : Identifier) → seen (fold (with_module all size) note ds) (at x) ≡ seen note (at x)
  seen_modules size [] note x = refl
  seen_modules size (d ∷ ds) note x = seen_modules size ds (with_module all size note d) x ∙ by (is_none d.unit)
    where
      by : (b : Bool) → seen (if b then with_name all size list.Modules d.node note d.name else note) (at x) ≡ seen note (at x)
      by true =
          seen_names all size list.Modules d.node (d.name ∷ []) note (at x)
          ∙ ap (λ (b : Bool). b || seen note (at x)) (any_none (λ y. same (listed_name all size list.Modules y) (at x)) (λ y. names_of_others all nodes size top list.Modules list.Routines x y refl) (d.name ∷ []))
      by false = refl

-- ---- the rule

no_names : (node : Node) → HasEnough node → node.kind ≡ kind.Routine → node.names ≡ [] → ⊥
no_names node its is none =
    let least : least_names node.kind ≡ 2 = ap least_names is in
    let size : length node.names ≡ 0 = ap length none in
    let more : least_names node.kind ≤ length node.names = its.names in
    absurd (omega (arith, least, size, more))

not_both : (a b : Bool) → (not a || not b) ≡ not (a && b)
not_both true b = refl
not_both false b = refl

other_exports : (nodes : List Node) (n : ℕ) (node : Node) (k : NodeKind) → is_of kind.Cluster k ≡ false → (cluster_of (λ m. no_item) nodes n node k).exports ≡ []
other_exports nodes n node kind.Cluster h = absurd (true≢false h)
other_exports nodes n node _ h = refl

other_rule : (f : File) (n : ℕ) (k : NodeKind) → is_of kind.Cluster k ≡ false → v33_in f k n ≡ false
other_rule f n kind.Cluster h = absurd (true≢false h)
other_rule f n _ h = refl

module _ (f : File) (shaped : HaveForms f.nodes) (have : HaveRoutines f) (items : Items) (are : AreNoted (length f.nodes) (notes_of (words_to f.nodes (length f.nodes)) f.nodes f.scope.declarations) items) where
  abbrev all : List Identifier
  all = words_to f.nodes (length f.nodes)

  abbrev routine : ℕ → Routine
  routine c = (item f c).routine

  -- a routine has a name
  first_is : (names : List Identifier) (x : Identifier) → (names ≡ [] → ⊥) → is_known all x ≡ true → (r : Identifier) → r ≡ first_name names → list_any (λ y. same_word all y x) (take 1 names) ≡ bytes_eq r x
  first_is [] x some known r e = absurd (some refl)
  first_is (name ∷ names) x some known r e =
      or-false (same_word all name x) ∙ turned_is all x name known ∙ bytes_turned x name ∙ ap (λ (y : Identifier). bytes_eq y x) (sym e)

  routine_named : (c : ℕ) (x : Identifier) → is_known all x ≡ true → is_kind f kind.Routine c ≡ true → list_any (λ y. same_word all y x) (take 1 (names_of (slice_get f.nodes c))) ≡ bytes_eq (routine c).name x
  routine_named c x known is = by (slice_get f.nodes c) refl
    where
      by : (o : Option Node) → slice_get f.nodes c ≡ o → list_any (λ y. same_word all y x) (take 1 (names_of o)) ≡ bytes_eq (routine c).name x
      by None at = absurd (true≢false (sym is ∙ ap (λ (o : Option Node). is_of kind.Routine (kind_of o)) at))
      by (Some node) at =
          let its : node.kind ≡ kind.Routine = same_true the_type (search rules) node.kind kind.Routine (ap (λ (o : Option Node). is_of kind.Routine (kind_of o)) (sym at) ∙ is) in
          let named : (routine c).name ≡ first_name node.names =
          ap (λ (i : Item). i.routine.name) (item_is f.nodes c)
          ∙ ap (λ (o : Option Node). (item_with (before c (item_at f.nodes)) f.nodes c o).routine.name) at
          ∙ ap (λ (k : NodeKind). (routine_of (before c (item_at f.nodes)) f.nodes c node k).name) its in
          first_is node.names x (no_names node (enough f.nodes shaped c node at) its) known (routine c).name named

  any_named : (n : ℕ) (x : Identifier) → is_known all x ≡ true → (cs : List ℕ) → list_any (names_it all f.nodes n x) cs ≡ list_any (λ (r : Routine). bytes_eq r.name x) (map routine (filter (is_kind f kind.Routine) cs))
  any_named n x known [] = refl
  any_named n x known (c ∷ cs) = by (any_named n x known cs) (is_kind f kind.Routine c) refl
    where
      by : list_any (names_it all f.nodes n x) cs ≡ list_any (λ (r : Routine). bytes_eq r.name x) (map routine (filter (is_kind f kind.Routine) cs)) → (b : Bool) → is_kind f kind.Routine c ≡ b →
          ((b && list_any (λ y. same_word all y x) (take 1 (names_of (slice_get f.nodes c)))) || list_any (names_it all f.nodes n x) cs)
          ≡ list_any (λ (r : Routine). bytes_eq r.name x) (map routine (if b then c ∷ filter (is_kind f kind.Routine) cs else filter (is_kind f kind.Routine) cs))
      by rest true is =
          ap (λ (b : Bool). b || list_any (names_it all f.nodes n x) cs) (routine_named c x known is)
          ∙ ap (λ (b : Bool). bytes_eq (routine c).name x || b) rest
      by rest false is = rest

  lacks_is : (n : ℕ) → n < length f.nodes → kind_in f n ≡ kind.Cluster → (x : Identifier) → is_known all x ≡ true → lacks_routine items all n x ≡ not (is_routine_of (item f n).cluster x)
  unfolding lacks_routine
  lacks_is n less is x known =
      ap (λ (o : Option ℕ). is_none o) (are.first (at all f.nodes n x))
      ∙ none_is_not (first_in (notes_of all f.nodes f.scope.declarations) (at all f.nodes n x))
      ∙ ap not
      (seen_modules all f.nodes n (length f.nodes) f.scope.declarations (with_nodes all f.nodes (length f.nodes) []) x
      ∙ seen_nodes all f.nodes n (length f.nodes) less x
      ∙ ap (λ (cs : List ℕ). list_any (names_it all f.nodes n x) cs) (kids_are f n)
      ∙ any_named n x known (children f n)
      ∙ ap (λ (rs : List Routine). list_any (λ (r : Routine). bytes_eq r.name x) rs) (have n is))

  any_not : (p q : Identifier → Bool) → ((x : Identifier) → is_known all x ≡ true → p x ≡ not (q x)) → (xs : List Identifier) → are_known all xs ≡ true → list_any p xs ≡ not (list_all q xs)
  any_not p q opposed [] known = refl
  any_not p q opposed (x ∷ xs) known =
      let parts = and_parts (is_known all x) (are_known all xs) known in
      ap (λ (b : Bool). b || list_any p xs) (opposed x parts.0) ∙ ap (λ (b : Bool). not (q x) || b) (any_not p q opposed xs parts.1) ∙ not_both (q x) (list_all q xs)

  no_exports : (n : ℕ) → is_of kind.Cluster (kind_in f n) ≡ false → exports_at f.nodes n ≡ []
  no_exports n other = by (slice_get f.nodes n) other
    where
      by : (o : Option Node) → is_of kind.Cluster (kind_of o) ≡ false → (item_with (λ m. no_item) f.nodes n o).cluster.exports ≡ []
      by None h = refl
      by (Some node) h = other_exports f.nodes n node node.kind h

  pub v33_is : (n : ℕ) → v33 f n ≡ lacks_export items all f.nodes n
  v33_is n = by (is_of kind.Cluster (kind_in f n)) refl
    where
      there : kind_in f n ≡ kind.Cluster → (o : Option Node) → slice_get f.nodes n ≡ o → n < length f.nodes
      there is None at = absurd (true≢false (ap (λ (k : NodeKind). is_of kind.Cluster k) (sym is) ∙ ap (λ (o : Option Node). is_of kind.Cluster (kind_of o)) at))
      there is (Some node) at = slice_get_within f.nodes n node at

      by : (b : Bool) → is_of kind.Cluster (kind_in f n) ≡ b → v33 f n ≡ lacks_export items all f.nodes n
      by true h =
          let is : kind_in f n ≡ kind.Cluster = same_true the_type (search rules) (kind_in f n) kind.Cluster h in
          let less : n < length f.nodes = there is (slice_get f.nodes n) refl in
          ap (λ (k : NodeKind). v33_in f k n) is
          ∙ ap (λ (xs : List Identifier). not (list_all (is_routine_of (item f n).cluster) xs)) (ap (λ (i : Item). i.cluster.exports) (item_is f.nodes n) ∙ exports_same (before n (item_at f.nodes)) f.nodes n (slice_get f.nodes n))
          ∙ sym (any_not (lacks_routine items all n) (is_routine_of (item f n).cluster) (lacks_is n less is) (exports_at f.nodes n) (exports_known all f.nodes n (nodes_known f.nodes (length f.nodes) n less)))
      by false h = other_rule f n (kind_in f n) h ∙ ap (λ (xs : List Identifier). list_any (lacks_routine items all n) xs) (sym (no_exports n h))
