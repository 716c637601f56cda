-- The bits of modules and routines: a module before this one has its name, or an export of a cluster stands twice.
use Rattle.std.proofs.Common.{◌≡◌, ◌∙◌, ◌⊎◌, ℕ, zero, suc, ◌<◌, ◌≤◌, nat_lt, ◌==◌, ◌&&◌, ◌||◌, not, Bool, true, false, if◌then◌else◌, List, [], ◌∷◌, ◌++◌, length, fold, slice_get, is_none, bytes_eq, Option, Some, None, inl, inr, refl, sym, ap, ap₂, arith}
use Rattle.std.specs.List.{list_any}
use Rattle.std.proofs.Math.Bool.{or-false}
use Rattle.std.proofs.lemmas.Bool.{true≢false, ne_eqb, lt-ltb, le-ltb, cases_lt, eqb-true, and_parts}
use Rattle.std.proofs.lemmas.List.Folds.{list_any-append}
use Rattle.std.proofs.lemmas.Grind.{fold-append}
use Rattle.std.proofs.lemmas.Option.{none-some, slice_get_within}
use Rattle.std.proofs.lemmas.Slice.Eq.{bytes_eq-Decides}
use Rattle.clu_tree.specs.declared.node.Node.{Node}
use Rattle.clu_tree.specs.declared.node.NodeKind.{NodeKind}
use Rattle.clu_tree.specs.declared.node.NodeKind.TheVariants as kind
use Rattle.clu_parser.specs.Trees.{Text}
use Rattle.clu_syntax.specs.declared.round.Round.{Round}
use Rattle.clu_syntax.specs.Kinds.{kind_of, kind_at}
use Rattle.clu_syntax.specs.Rounds.{AreRounds, round_at}
use Rattle.clu_syntax.specs.Splits.{children_of}
use Rattle.clu_syntax.specs.Syntax.{Identifier}
use Rattle.clu_names.specs.declared.scopes.Declared.{Declared}
use Rattle.clu_names.specs.Latest.{is_local}
use Rattle.clu_names.specs.Scopes.{node_at, kind_at_parent, scope_of, own_at, is_stream, module_named, is_module, module_at, opens, variable_of, declared_at, declared_to, declarations}
use Rattle.clu_settle.specs.Names.{names_of}
use Rattle.clu_checking.specs.Files.{File}
use Rattle.clu_checking.specs.NameRules.{is_before}
use Rattle.clu_declares.specs.Declares.{IsParsed}
use Rattle.clu_head.specs.Refused.{is_set}
use Rattle.clu_name_rules.specs.declared.repeated.ListKind.{ListKind}
use Rattle.clu_name_rules.specs.declared.repeated.ListKind.TheVariants as list
use Rattle.clu_name_rules.specs.Words.{words_to}
use Rattle.clu_name_rules.specs.Repeated.{Note, list_of, item_names, own_names as own_listed, listed_name, with_name, with_names, with_item, with_item_of, with_module, with_nodes, notes_of, exports_at, first_in}
use Rattle.clu_passes.specs.Notes.{AreRepeated}
use Rattle.clu_passes.proofs.FileNames.{unseen, own_repeats}
use Rattle.clu_passes.proofs.Known.{is_known, are_known, turned_is, nodes_known}
use Rattle.clu_passes.proofs.Noted.{seen, seen_more, repeats, bits_are, is_second, names_apart, names_strict, same_listed, same_word, stand_twice, IsStrict}
use Rattle.clu_passes.proofs.StandTwice.{item_apart}
use Rattle.clu_passes.proofs.Units.{AllOf, all_both, of_variables, of_owns, at_node, has_unit, HasUnit, inner_below, no_file, inner_opens, inner_scope, is_inner}

-- ---- tests

bytes_turned : (a b : List ℕ) → bytes_eq a b ≡ bytes_eq b a
bytes_turned a b = by (bytes_eq a b) refl (bytes_eq b a) refl
  where
    by : (x : Bool) → bytes_eq a b ≡ x → (y : Bool) → bytes_eq b a ≡ y → x ≡ y
    by true e true g = refl
    by false e false g = refl
    by true e false g = absurd (true≢false (sym ((bytes_eq-Decides b a).1 (sym ((bytes_eq-Decides a b).0 e))) ∙ g))
    by false e true g = absurd (true≢false (sym ((bytes_eq-Decides a b).1 (sym ((bytes_eq-Decides b a).0 g))) ∙ e))

unit_there : (unit : Option ℕ) (u : ℕ) → unit ≡ Some u → is_none unit ≡ false
unit_there (Some v) u e = refl
unit_there None u e = absurd (none-some u e)

local_is : (unit : Option ℕ) → not (is_local unit) ≡ is_none unit
local_is None = refl
local_is (Some u) = refl

-- ---- what is noted of declarations

module _ (all : List (List ℕ)) (size : ℕ) where
  abbrev noted : List Note → List Declared → List Note
  noted before ds = fold (with_module all size) before ds

  -- those of a module are not noted
  inner_noted : (before : List Note) (ds : List Declared) → AllOf (λ d. is_none d.unit ≡ false) ds → noted before ds ≡ before
  inner_noted before [] ps = refl
  inner_noted before (d ∷ ds) ps = ap (λ (b : Bool). noted (if b then with_name all size list.Modules d.node before d.name else before) ds) ps.0 ∙ inner_noted before ds ps.1

  -- modules at another node
  others_noted : (m n : ℕ) → (m == n) ≡ false → (before : List Note) (ds : List Declared) → AllOf (λ d. is_none d.unit ≡ true → d.node ≡ m) ds → repeats (noted before ds) n ≡ repeats before n
  others_noted m n apart before [] ps = refl
  others_noted m n apart before (d ∷ ds) ps = others_noted m n apart (with_module all size before d) ds ps.1 ∙ by (is_none d.unit) refl
    where
      by : (b : Bool) → is_none d.unit ≡ b → repeats (if b then with_name all size list.Modules d.node before d.name else before) n ≡ repeats before n
      by true is = names_apart all size list.Modules d.node n (ap (λ (k : ℕ). k == n) (ps.0 is) ∙ apart) (d.name ∷ []) before
      by false is = refl

  abbrev is_named : List ℕ → Declared → Bool
  is_named x d = is_none d.unit && same_word all d.name x

  seen_noted : (x : List ℕ) (before : List Note) (ds : List Declared) → seen (noted before ds) (listed_name all size list.Modules x) ≡ (list_any (is_named x) ds || seen before (listed_name all size list.Modules x))
  seen_noted x before [] = refl
  seen_noted x before (d ∷ ds) = seen_noted x (with_module all size before d) ds ∙ by (is_none d.unit)
    where
      turn : (a b c : Bool) → (a || (b || c)) ≡ ((b || a) || c)
      turn true true c = refl
      turn true false c = refl
      turn false true c = refl
      turn false false c = refl

      by : (b : Bool) → (list_any (is_named x) ds || seen (if b then with_name all size list.Modules d.node before d.name else before) (listed_name all size list.Modules x)) ≡ (((b && same_word all d.name x) || list_any (is_named x) ds) || seen before (listed_name all size list.Modules x))
      by true =
          ap (λ (b : Bool). list_any (is_named x) ds || b)
          (seen_more (record { name = listed_name all size list.Modules d.name; node = d.node }) before (listed_name all size list.Modules x)
          ∙ ap (λ (b : Bool). b || seen before (listed_name all size list.Modules x)) (same_listed all size list.Modules d.name x))
          ∙ turn (list_any (is_named x) ds) (same_word all d.name x) (seen before (listed_name all size list.Modules x))
      by false = refl

strict_modules : IsStrict list.Modules
strict_modules b = refl

-- ---- routines in a list are never refused

module _ (all : List (List ℕ)) (nodes : List Node) (n : ℕ) where
  never_names : (top m : ℕ) (names : List (List ℕ)) (before : List Note) → repeats (with_names all top list.Routines m names before) n ≡ repeats before n
  never_names top m [] before = refl
  never_names top m (name ∷ names) before =
      never_names top m names (with_name all top list.Routines m before name)
      ∙ ap (λ (b : Bool). (m == n && b) || repeats before n) (by (first_in before (listed_name all top list.Routines name)))
      ∙ ap (λ (b : Bool). b || repeats before n) (and_false (m == n))
    where
      and_false : (b : Bool) → (b && false) ≡ false
      and_false true = refl
      and_false false = refl

      by : (o : Option ℕ) → is_second o (record { name = listed_name all top list.Routines name; node = m }) ≡ false
      by None = refl
      by (Some first) = refl

  module _ (routine : list_of (kind_at nodes n) ≡ Some list.Routines) (none : own_listed nodes (kind_at nodes n) n ≡ []) where
    item_never : (top c : ℕ) (before : List Note) → repeats (with_item all nodes top before c) n ≡ repeats before n
    item_never top c before = by (c == n) refl
      where
        by : (b : Bool) → (c == n) ≡ b → repeats (with_item all nodes top before c) n ≡ repeats before n
        by true is =
            ap (λ (j : ℕ). repeats (with_item_of all nodes (list_of (kind_at nodes j)) top c before) n) (eqb-true c n is)
            ∙ ap (λ (o : Option ListKind). repeats (with_item_of all nodes o top c before) n) routine
            ∙ never_names top c (item_names nodes list.Routines c) before
        by false is = item_apart all nodes top c n is before

    items_never : (top : ℕ) (cs : List ℕ) (before : List Note) → repeats (fold (with_item all nodes top) before cs) n ≡ repeats before n
    items_never top [] before = refl
    items_never top (c ∷ cs) before = items_never top cs (with_item all nodes top before c) ∙ item_never top c before

    abbrev inside : ℕ → List Note
    inside k = fold (with_item all nodes k) (with_nodes all nodes k []) (children_of (slice_get nodes k))

    routine_repeats : (k : ℕ) → repeats (with_nodes all nodes k []) n ≡ false
    routine_repeats zero = refl
    routine_repeats (suc k) = by (k == n) refl ∙ items_never k (children_of (slice_get nodes k)) (with_nodes all nodes k []) ∙ routine_repeats k
      where
        by : (b : Bool) → (k == n) ≡ b → repeats (with_names all k list.Names k (own_listed nodes (kind_at nodes k) k) (inside k)) n ≡ repeats (inside k) n
        by true is =
            ap (λ (j : ℕ). repeats (with_names all k list.Names k (own_listed nodes (kind_at nodes j) j) (inside k)) n) (eqb-true k n is)
            ∙ ap (λ (names : List (List ℕ)). repeats (with_names all k list.Names k names (inside k)) n) none
        by false is = names_apart all k list.Names k n is (own_listed nodes (kind_at nodes k) k) (inside k)

-- ---- modules in the order of their nodes

module _ (t : Text) (nodes : List Node) (rounds : List Round) (parsed : IsParsed t nodes) (are : AreRounds nodes rounds) where
  abbrev round : ℕ → Round
  round n = round_at rounds n

  abbrev above : ℕ → NodeKind
  above n = kind_at_parent nodes (round n).parent

  variable_unit : (n p : ℕ) (outer : Node) (k : NodeKind) → (round n).parent ≡ Some p → slice_get nodes p ≡ Some outer → opens outer.kind k ≡ true → is_none (round n).unit ≡ false
  variable_unit n p outer k up at o =
      let its : HasUnit t nodes rounds parsed are n = has_unit t nodes rounds parsed are n (inner_below t nodes rounds parsed are n p outer up at (no_file outer.kind (inner_opens outer.kind k o))) in
      unit_there (round n).unit its.0 its.1

  own_unit : (n : ℕ) (node : Node) → slice_get nodes n ≡ Some node → (scope : ℕ × ℕ) → scope_of node.kind (above n) n (round n) ≡ Some scope → is_none (round n).unit ≡ false
  own_unit n node at scope e =
      let its : HasUnit t nodes rounds parsed are n = has_unit t nodes rounds parsed are n (ap is_inner (ap kind_of at) ∙ inner_scope node.kind (above n) n (round n) scope e) in
      unit_there (round n).unit its.0 its.1

  -- a declaration at this node that is of no module is a module at this node
  abbrev AtNode : ℕ → Declared → Type 0
  AtNode m d = is_none d.unit ≡ true → d.node ≡ m

  modules_here : (m : ℕ) → AllOf (AtNode m) (declared_at nodes rounds m (slice_get nodes m))
  modules_here m =
      at_node nodes rounds (AtNode m) m (λ p outer k up at its o first name alone. absurd (true≢false (sym alone ∙ variable_unit m p outer k up at o)))
      (λ node at scope e name alone. refl) (λ node at e name alone. refl)

  module _ (all : List Identifier) (n : ℕ) (before : List Note) where
    abbrev size : ℕ
    size = length nodes

    abbrev noted_to : ℕ → List Note
    noted_to m = noted all size before (declared_to nodes rounds m)

    one_more : (m : ℕ) → noted_to (suc m) ≡ noted all size (noted_to m) (declared_at nodes rounds m (slice_get nodes m))
    unfolding declared_to
    one_more m = fold-append (with_module all size) before (declared_to nodes rounds m) (declared_at nodes rounds m (slice_get nodes m))

    before_node : (m : ℕ) → m ≤ n → repeats (noted_to m) n ≡ repeats before n
    unfolding declared_to
    before_node zero most = refl
    before_node (suc m) most =
        ap (λ (notes : List Note). repeats notes n) (one_more m)
        ∙ others_noted all size m n (ne_eqb m n (λ e. absurd (omega (arith, e, most)))) (noted_to m) (declared_at nodes rounds m (slice_get nodes m)) (modules_here m)
        ∙ before_node m (omega (arith, most))

    behind_node : (m : ℕ) → n < m → repeats (noted_to m) n ≡ repeats (noted_to (suc n)) n
    behind_node zero less = absurd (omega (arith, less))
    behind_node (suc m) less = by (λ more. behind_node m more) (cases_lt n m)
      where
        by : (n < m → repeats (noted_to m) n ≡ repeats (noted_to (suc n)) n) → (n < m) ⊎ (m ≤ n) → repeats (noted_to (suc m)) n ≡ repeats (noted_to (suc n)) n
        by rest (inl more) =
            ap (λ (notes : List Note). repeats notes n) (one_more m)
            ∙ others_noted all size m n (ne_eqb m n (λ e. absurd (omega (arith, e, more)))) (noted_to m) (declared_at nodes rounds m (slice_get nodes m)) (modules_here m)
            ∙ rest more
        by rest (inr last) = let same : m ≡ n = omega (arith, less, last) in ap (λ (k : ℕ). repeats (noted_to (suc k)) n) same

    -- at the node itself
    module _ (node : Node) (at : slice_get nodes n ≡ Some node) where
      abbrev inner : List Declared
      inner = variable_of n node.kind (round n) (round n).parent (node_at nodes (round n).parent) ++ own_at (above n) n node (round n)

      abbrev Inside : Declared → Type 0
      Inside d = is_none d.unit ≡ false

      inner_units : AllOf Inside inner
      inner_units =
          all_both Inside (variable_of n node.kind (round n) (round n).parent (node_at nodes (round n).parent)) (own_at (above n) n node (round n))
          (of_variables nodes rounds Inside n (λ p outer k up there its o first name. variable_unit n p outer k up there o) node.kind (ap kind_of at) (round n).parent refl (node_at nodes (round n).parent) refl)
          (of_owns nodes rounds Inside n (λ its there scope e name. own_unit n its there scope e) node at (scope_of node.kind (above n) n (round n)) refl)

      at_itself : noted_to (suc n) ≡ noted all size (noted_to n) (module_at (above n) n node)
      at_itself =
          one_more n
          ∙ ap (λ (o : Option Node). noted all size (noted_to n) (declared_at nodes rounds n o)) at
          ∙ fold-append (with_module all size) (noted_to n) inner (module_at (above n) n node)
          ∙ ap (λ (notes : List Note). noted all size notes (module_at (above n) n node)) (inner_noted all size (noted_to n) inner inner_units)

      -- no module is declared there
      none_itself : is_module (above n) node.kind ≡ false → n < size → repeats (noted_to size) n ≡ repeats before n
      none_itself other less =
          behind_node size less
          ∙ ap (λ (notes : List Note). repeats notes n) (at_itself ∙ ap (λ (b : Bool). noted all size (noted_to n) (if b then module_named n node.names else [])) other)
          ∙ before_node n (omega arith)

      -- one is
      one_itself : (x : Identifier) (rest : List Identifier) → node.names ≡ x ∷ rest → is_stream x ≡ false → is_module (above n) node.kind ≡ true → n < size → seen before (listed_name all size list.Modules x) ≡ false →
          repeats (noted_to size) n ≡ (list_any (is_named all size x) (declared_to nodes rounds n) || repeats before n)
      one_itself x rest names_are plain is less unseen_before =
          behind_node size less
          ∙ ap (λ (notes : List Note). repeats notes n)
          (at_itself ∙ ap (λ (b : Bool). noted all size (noted_to n) (if b then module_named n node.names else [])) is
          ∙ ap (λ (xs : List Identifier). noted all size (noted_to n) (module_named n xs)) names_are
          ∙ ap (λ (b : Bool). noted all size (noted_to n) (if b then [] else record { name = x; node = n; from = 0; to = 4294967295; unit = None } ∷ [])) plain)
          ∙ names_strict all size list.Modules strict_modules n (x ∷ []) (noted_to n)
          ∙ ap₂ (λ (a b : Bool). ((a || false) || false) || b) (seen_noted all size x before (declared_to nodes rounds n) ∙ ap (λ (b : Bool). list_any (is_named all size x) (declared_to nodes rounds n) || b) unseen_before) (before_node n (omega arith))
          ∙ plain_or (list_any (is_named all size x) (declared_to nodes rounds n)) (repeats before n)
        where
          plain_or : (a b : Bool) → ((((a || false) || false) || false) || b) ≡ (a || b)
          plain_or true b = refl
          plain_or false b = refl

  -- ---- what the definition asks

  module _ (all : List Identifier) (n : ℕ) (x : Identifier) (known : is_known all x ≡ true) where
    one_before : (m : ℕ) → m < n → (d : Declared) → AtNode m d → is_before n x d ≡ is_named all (length nodes) x d
    one_before m less d at = by (is_none d.unit) refl
      where
        words : same_word all d.name x ≡ bytes_eq d.name x
        words = turned_is all x d.name known ∙ bytes_turned x d.name

        by : (b : Bool) → is_none d.unit ≡ b → (not (is_local d.unit) && nat_lt d.node n && bytes_eq d.name x) ≡ (is_none d.unit && same_word all d.name x)
        by true is =
            ap (λ (b : Bool). b && nat_lt d.node n && bytes_eq d.name x) (local_is d.unit ∙ is)
            ∙ ap (λ (k : ℕ). nat_lt k n && bytes_eq d.name x) (at is) ∙ ap (λ (b : Bool). b && bytes_eq d.name x) (lt-ltb m n less)
            ∙ sym (ap (λ (b : Bool). b && same_word all d.name x) is ∙ words)
        by false is = ap (λ (b : Bool). b && nat_lt d.node n && bytes_eq d.name x) (local_is d.unit ∙ is) ∙ sym (ap (λ (b : Bool). b && same_word all d.name x) is)

    none_before : (m : ℕ) → n ≤ m → (d : Declared) → AtNode m d → is_before n x d ≡ false
    none_before m most d at = by (is_none d.unit) refl
      where
        by : (b : Bool) → is_none d.unit ≡ b → (not (is_local d.unit) && nat_lt d.node n && bytes_eq d.name x) ≡ false
        by true is =
            ap (λ (b : Bool). b && nat_lt d.node n && bytes_eq d.name x) (local_is d.unit ∙ is)
            ∙ ap (λ (k : ℕ). nat_lt k n && bytes_eq d.name x) (at is) ∙ ap (λ (b : Bool). b && bytes_eq d.name x) (le-ltb m n most)
        by false is = ap (λ (b : Bool). b && nat_lt d.node n && bytes_eq d.name x) (local_is d.unit ∙ is)

    any_before : (m : ℕ) → m < n → (ds : List Declared) → AllOf (AtNode m) ds → list_any (is_before n x) ds ≡ list_any (is_named all (length nodes) x) ds
    any_before m less [] ps = refl
    any_before m less (d ∷ ds) ps = ap₂ (λ (a b : Bool). a || b) (one_before m less d ps.0) (any_before m less ds ps.1)

    any_none : (m : ℕ) → n ≤ m → (ds : List Declared) → AllOf (AtNode m) ds → list_any (is_before n x) ds ≡ false
    any_none m most [] ps = refl
    any_none m most (d ∷ ds) ps = ap₂ (λ (a b : Bool). a || b) (none_before m most d ps.0) (any_none m most ds ps.1)

    upto_node : (m : ℕ) → m ≤ n → list_any (is_before n x) (declared_to nodes rounds m) ≡ list_any (is_named all (length nodes) x) (declared_to nodes rounds m)
    unfolding declared_to
    upto_node zero most = refl
    upto_node (suc m) most =
        list_any-append (is_before n x) (declared_to nodes rounds m) (declared_at nodes rounds m (slice_get nodes m))
        ∙ ap₂ (λ (a b : Bool). a || b) (upto_node m (omega (arith, most))) (any_before m (omega (arith, most)) (declared_at nodes rounds m (slice_get nodes m)) (modules_here m))
        ∙ sym (list_any-append (is_named all (length nodes) x) (declared_to nodes rounds m) (declared_at nodes rounds m (slice_get nodes m)))

    past_node : (m : ℕ) → n ≤ m → list_any (is_before n x) (declared_to nodes rounds m) ≡ list_any (is_before n x) (declared_to nodes rounds n)
    unfolding declared_to
    past_node zero most = let same : zero ≡ n = omega (arith, most) in ap (λ (k : ℕ). list_any (is_before n x) (declared_to nodes rounds k)) same
    past_node (suc m) most = by (λ more. past_node m more) (cases_lt m n)
      where
        by : (n ≤ m → list_any (is_before n x) (declared_to nodes rounds m) ≡ list_any (is_before n x) (declared_to nodes rounds n)) → (m < n) ⊎ (n ≤ m) → list_any (is_before n x) (declared_to nodes rounds (suc m)) ≡ list_any (is_before n x) (declared_to nodes rounds n)
        by rest (inl less) = let same : suc m ≡ n = omega (arith, most, less) in ap (λ (k : ℕ). list_any (is_before n x) (declared_to nodes rounds k)) same
        by rest (inr more) =
            list_any-append (is_before n x) (declared_to nodes rounds m) (declared_at nodes rounds m (slice_get nodes m))
            ∙ ap₂ (λ (a b : Bool). a || b) (rest more) (any_none m more (declared_at nodes rounds m (slice_get nodes m)) (modules_here m))
            ∙ or-false (list_any (is_before n x) (declared_to nodes rounds n))

    module_before_is : n ≤ length nodes → list_any (is_before n x) (declarations nodes rounds) ≡ list_any (is_named all (length nodes) x) (declared_to nodes rounds n)
    module_before_is most = past_node (length nodes) most ∙ upto_node n (omega arith)

-- ---- the bits

module _ (t : Text) (f : File) (parsed : IsParsed t f.nodes) (are : AreRounds f.nodes f.rounds) (same : f.scope.declarations ≡ declarations f.nodes f.rounds) (bits : List Bool) (repeated : AreRepeated f bits) where
  abbrev count : ℕ
  count = length f.nodes

  abbrev pub words : List Identifier
  words = words_to f.nodes count

  abbrev nodes_noted : List Note
  nodes_noted = with_nodes words f.nodes count []

  bit_told : (n : ℕ) → n < count → is_set (slice_get bits n) ≡ repeats (noted words count nodes_noted (declarations f.nodes f.rounds)) n
  bit_told n less =
      ap (λ (bs : List Bool). is_set (slice_get bs n)) repeated
      ∙ bits_are count (notes_of words f.nodes f.scope.declarations) n
      ∙ ap (λ (b : Bool). b && repeats (notes_of words f.nodes f.scope.declarations) n) (lt-ltb n count less)
      ∙ ap (λ (ds : List Declared). repeats (noted words count nodes_noted ds) n) same

  module _ (n : ℕ) (node : Node) (at : slice_get f.nodes n ≡ Some node) where
    less : n < count
    less = slice_get_within f.nodes n node at

    -- one that declares no module
    pub inner_bit : is_module (above t f.nodes f.rounds parsed are n) node.kind ≡ false → is_set (slice_get bits n) ≡ repeats nodes_noted n
    inner_bit other = bit_told n less ∙ none_itself t f.nodes f.rounds parsed are words n nodes_noted node at other less

    first_known : (x : Identifier) (rest : List Identifier) → node.names ≡ x ∷ rest → is_known words x ≡ true
    first_known x rest e =
        (and_parts (is_known words x) (are_known words rest)
        (sym (ap (λ (o : Option Node). are_known words (names_of o)) at ∙ ap (are_known words) e) ∙ nodes_known f.nodes count n less)).0

    -- one that does
    pub module_bit : (x : Identifier) (rest : List Identifier) → node.names ≡ x ∷ rest → is_stream x ≡ false → is_module (above t f.nodes f.rounds parsed are n) node.kind ≡ true → is_set (slice_get bits n) ≡ (list_any (is_before n x) f.scope.declarations || repeats nodes_noted n)
    module_bit x rest e plain is =
        bit_told n less
        ∙ one_itself t f.nodes f.rounds parsed are words n nodes_noted node at x rest e plain is less (unseen words f.nodes count count list.Modules x (omega arith))
        ∙ ap (λ (b : Bool). b || repeats nodes_noted n)
        (sym (ap (list_any (is_before n x)) same ∙ module_before_is t f.nodes f.rounds parsed are words n x (first_known x rest e) (omega (arith, less))))

    -- a routine is refused in no list
    pub routine_noted : node.kind ≡ kind.Routine → repeats nodes_noted n ≡ false
    routine_noted is =
        let its : kind_at f.nodes n ≡ kind.Routine = ap kind_of at ∙ is in
        routine_repeats words f.nodes n (ap list_of its) (ap (λ (k : NodeKind). own_listed f.nodes k n) its) count

    -- the exports of a cluster are a list by themselves
    pub cluster_noted : node.kind ≡ kind.Cluster → repeats nodes_noted n ≡ stand_twice words (exports_at f.nodes n)
    cluster_noted is =
        let its : kind_at f.nodes n ≡ kind.Cluster = ap kind_of at ∙ is in
        own_repeats words f.nodes n (ap list_of its) count less ∙ ap (λ (k : NodeKind). stand_twice words (own_listed f.nodes k n)) its

    pub names_known : are_known words node.names ≡ true
    names_known = sym (ap (λ (o : Option Node). are_known words (names_of o)) at) ∙ nodes_known f.nodes count n less
