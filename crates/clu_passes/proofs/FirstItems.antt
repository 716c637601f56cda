-- The first item of a name in a list is found by the table of first items.
use Rattle.std.proofs.Common.{◌≡◌, ◌∙◌, ◌⊎◌, ℕ, zero, suc, ◌+◌, ◌<◌, ◌≤◌, Bool, true, false, not, ◌&&◌, ◌||◌, cond, find, ◌==◌, if◌then◌else◌, List, [], ◌∷◌, ◌++◌, length, fold, bytes_eq, Option, Some, None, inl, inr, refl, sym, ap, arith, rules}
use Rattle.std.specs.Prelude.{slice_get, is_some, is_none, unwrap_or}
use Rattle.std.specs.Option.{option_or}
use Rattle.std.specs.List.{list_any, prefix_len}
use Rattle.std.specs.HashMap.{get}
use Rattle.std.proofs.lemmas.Bool.{true≢false, ne_eqb, cases_lt, lt-ltb}
use Rattle.std.proofs.lemmas.List.Folds.{list_any-append}
use Rattle.std.proofs.lemmas.Option.{slice_get_past}
use Rattle.clu_tree.specs.declared.node.Node.{Node}
use Rattle.clu_tree.specs.declared.node.NodeKind.{NodeKind}
use Rattle.clu_tree.specs.contracts.node.NodeKind.{the_type}
use Rattle.clu_syntax.specs.Kinds.{kind_at}
use Rattle.clu_syntax.specs.Splits.{is_of, children_of}
use Rattle.clu_syntax.specs.Syntax.{Identifier}
use Rattle.clu_names.specs.declared.scopes.Declared.{Declared}
use Rattle.clu_checking.specs.Files.{File}
use Rattle.clu_name_rules.specs.declared.repeated.ListKind.{ListKind}
use Rattle.clu_name_rules.specs.declared.repeated.ListKind.TheVariants as list
use Rattle.clu_name_rules.specs.declared.repeated.Listed.{Listed}
use Rattle.clu_name_rules.specs.declared.tables.Tables.{Tables}
use Rattle.clu_name_rules.specs.Repeated.{same, Note, first_in, put_first, list_of, item_names, own_names, listed_name, with_name, with_names, with_item_of, with_item, with_module, with_node, with_nodes, notes_of}
use Rattle.clu_name_rules.specs.Words.{place_of, number_of, words_to}
use Rattle.clu_passes.specs.Firsts.{AreItems}
use Rattle.clu_passes.proofs.Known.{is_known, any_turned}
use Rattle.clu_passes.proofs.Noted.{any_same, listed_decided, same_kind, same_word, same_listed}
use Rattle.clu_passes.proofs.StandTwice.{any_none, is_list, IsItemOf, own_before, names_elsewhere, names_of_others}
use denote.Enum.Bare.{same_true}

-- ---- a name that is numbered has its number

prefix_less : (name : List ℕ) (xs : List (List ℕ)) → list_any (bytes_eq name) xs ≡ true → prefix_len (λ x. not (bytes_eq name x)) xs < length xs
prefix_less name [] e = absurd (true≢false (sym e))
prefix_less name (x ∷ xs) e = by (bytes_eq name x) e (λ more. prefix_less name xs more)
  where
    by : (b : Bool) → (b || list_any (bytes_eq name) xs) ≡ true → (list_any (bytes_eq name) xs ≡ true → prefix_len (λ x. not (bytes_eq name x)) xs < length xs) → cond (not b) (1 + prefix_len (λ x. not (bytes_eq name x)) xs) 0 < length (x ∷ xs)
    by true e more = omega arith
    by false e more = omega (arith, more e)

place_is : (all : List (List ℕ)) (name : List ℕ) → is_known all name ≡ true → place_of all name ≡ Some (number_of all name)
place_is all name known = there ∙ ap (λ (k : ℕ). Some k) (sym (ap (λ (o : Option ℕ). unwrap_or o (length all)) there))
  where
    there : place_of all name ≡ Some (prefix_len (λ x. not (bytes_eq name x)) all)
    there = ap (λ (b : Bool). cond b (Some (prefix_len (λ x. not (bytes_eq name x)) all)) None) (lt-ltb (prefix_len (λ x. not (bytes_eq name x)) all) (length all) (prefix_less name all known))

-- ---- what was noted first

abbrev if_so : Bool → ℕ → Option ℕ
if_so true m = Some m
if_so false m = None

or_none : (o : Option ℕ) → option_or o None ≡ o
or_none None = refl
or_none (Some g) = refl

joined : (o : Option ℕ) (m : ℕ) (a b : Bool) → option_or (option_or o (if_so a m)) (if_so b m) ≡ option_or o (if_so (a || b) m)
joined (Some g) m a b = refl
joined None m true b = refl
joined None m false b = refl

grouped : (o : Option ℕ) (c : ℕ) (b : Bool) (rest : Option ℕ) → option_or (option_or o (if_so b c)) rest ≡ option_or o (cond b (Some c) rest)
grouped (Some g) c b rest = refl
grouped None c true rest = refl
grouped None c false rest = refl

first_more : (note : Note) (before : List Note) (x : Listed) → first_in (note ∷ before) x ≡ option_or (first_in before x) (if_so (same note.name x) note.node)
first_more note before x = by (first_in before note.name) refl (same note.name x) refl
  where
    there : same note.name x ≡ true → (o : Option ℕ) → first_in before note.name ≡ o → first_in before x ≡ o
    there is o at = ap (λ (y : Listed). first_in before y) (sym ((listed_decided note.name x).0 is)) ∙ at

    by : (o : Option ℕ) → first_in before note.name ≡ o → (b : Bool) → same note.name x ≡ b → put_first o b note.node (first_in before x) ≡ option_or (first_in before x) (if_so b note.node)
    by (Some first) at true is = there is (Some first) at ∙ sym (ap (λ (o : Option ℕ). option_or o (Some note.node)) (there is (Some first) at))
    by (Some first) at false is = sym (or_none (first_in before x))
    by None at true is = sym (ap (λ (o : Option ℕ). option_or o (Some note.node)) (there is None at))
    by None at false is = sym (or_none (first_in before x))

module _ (all : List (List ℕ)) (top : ℕ) (j : ListKind) (m : ℕ) where
  first_names : (names : List (List ℕ)) (before : List Note) (x : Listed) → first_in (with_names all top j m names before) x ≡ option_or (first_in before x) (if_so (list_any (λ y. same (listed_name all top j y) x) names) m)
  first_names [] before x = sym (or_none (first_in before x))
  first_names (name ∷ names) before x =
      first_names names (with_name all top j m before name) x
      ∙ ap (λ (o : Option ℕ). option_or o (if_so (list_any (λ y. same (listed_name all top j y) x) names) m)) (first_more (record { name = listed_name all top j name; node = m }) before x)
      ∙ joined (first_in before x) m (same (listed_name all top j name) x) (list_any (λ y. same (listed_name all top j y) x) names)

  -- names of which none is this one
  none_first : (names : List (List ℕ)) (before : List Note) (x : Listed) → ((y : List ℕ) → same (listed_name all top j y) x ≡ false) → first_in (with_names all top j m names before) x ≡ first_in before x
  none_first names before x none =
      first_names names before x
      ∙ ap (λ (b : Bool). option_or (first_in before x) (if_so b m)) (any_none (λ y. same (listed_name all top j y) x) none names)
      ∙ or_none (first_in before x)

-- ---- the first of a list in all notes

module _ (all : List (List ℕ)) (nodes : List Node) (its_own : List Node → ℕ → List (List ℕ)) (item : NodeKind) (k : ListKind) (is : IsItemOf its_own item k) (own : same_kind list.Names k ≡ false) (modules : same_kind list.Modules k ≡ false) (top : ℕ) (x : List ℕ) where
  abbrev it : Listed
  it = listed_name all top k x

  abbrev kids : List ℕ
  kids = children_of (slice_get nodes top)

  abbrev test : ℕ → Bool
  test c = is_of item (kind_at nodes c) && list_any (λ y. same_word all y x) (its_own nodes c)

  first_item : (c : ℕ) (before : List Note) → first_in (with_item all nodes top before c) it ≡ option_or (first_in before it) (if_so (test c) c)
  first_item c before = by (is_of item (kind_at nodes c)) refl
    where
      other : (o : Option ListKind) → is_list k o ≡ false → first_in (with_item_of all nodes o top c before) it ≡ first_in before it
      other None none = refl
      other (Some j) none = none_first all top j c (item_names nodes j c) before it (λ y. names_of_others all nodes top top j k x y none)

      by : (b : Bool) → is_of item (kind_at nodes c) ≡ b → first_in (with_item all nodes top before c) it ≡ option_or (first_in before it) (if_so (b && list_any (λ y. same_word all y x) (its_own nodes c)) c)
      by true here =
          let kind_is : kind_at nodes c ≡ item = same_true the_type (search rules) (kind_at nodes c) item here in
          ap (λ (j : NodeKind). first_in (with_item_of all nodes (list_of j) top c before) it) kind_is
          ∙ ap (λ (o : Option ListKind). first_in (with_item_of all nodes o top c before) it) is.its
          ∙ ap (λ (names : List (List ℕ)). first_in (with_names all top k c names before) it) (is.names nodes c)
          ∙ first_names all top k c (its_own nodes c) before it
          ∙ ap (λ (b : Bool). option_or (first_in before it) (if_so b c)) (any_same (λ y. same (listed_name all top k y) it) (λ y. same_word all y x) (λ y. same_listed all top k y x) (its_own nodes c))
      by false here = other (list_of (kind_at nodes c)) (is.only (kind_at nodes c) here) ∙ sym (or_none (first_in before it))

  first_items : (cs : List ℕ) (before : List Note) → first_in (fold (with_item all nodes top) before cs) it ≡ option_or (first_in before it) (find test cs)
  first_items [] before = sym (or_none (first_in before it))
  first_items (c ∷ cs) before =
      first_items cs (with_item all nodes top before c)
      ∙ ap (λ (o : Option ℕ). option_or o (find test cs)) (first_item c before)
      ∙ grouped (first_in before it) c (test c) (find test cs)

  at_top : (before : List Note) → first_in (with_node all nodes top before) it ≡ option_or (first_in before it) (find test kids)
  at_top before =
      none_first all top list.Names top (own_names nodes (kind_at nodes top) top) (fold (with_item all nodes top) before kids) it (λ y. names_of_others all nodes top top list.Names k x y own)
      ∙ first_items kids before

  -- other nodes are other lists
  module _ (m : ℕ) (apart : (m == top) ≡ false) where
    other_item : (o : Option ListKind) (c : ℕ) (before : List Note) → first_in (with_item_of all nodes o m c before) it ≡ first_in before it
    other_item None c before = refl
    other_item (Some j) c before = none_first all m j c (item_names nodes j c) before it (λ y. names_elsewhere all nodes m top j k x y apart)

    other_items : (cs : List ℕ) (before : List Note) → first_in (fold (with_item all nodes m) before cs) it ≡ first_in before it
    other_items [] before = refl
    other_items (c ∷ cs) before = other_items cs (with_item all nodes m before c) ∙ other_item (list_of (kind_at nodes c)) c before

    other_node : (before : List Note) → first_in (with_node all nodes m before) it ≡ first_in before it
    other_node before =
        none_first all m list.Names m (own_names nodes (kind_at nodes m) m) (fold (with_item all nodes m) before (children_of (slice_get nodes m))) it (λ y. names_elsewhere all nodes m top list.Names k x y apart)
        ∙ other_items (children_of (slice_get nodes m)) before

  none_yet : (l : ℕ) → l ≤ top → first_in (with_nodes all nodes l []) it ≡ None
  none_yet zero most = refl
  none_yet (suc l) most = other_node l (ne_eqb l top (λ e. absurd (omega (arith, e, most)))) (with_nodes all nodes l []) ∙ none_yet l (omega (arith, most))

  first_upto : (l : ℕ) → top < l → first_in (with_nodes all nodes l []) it ≡ find test kids
  first_upto zero less = absurd (omega (arith, less))
  first_upto (suc l) less = by (λ more. first_upto l more) (cases_lt top l)
    where
      by : (top < l → first_in (with_nodes all nodes l []) it ≡ find test kids) → (top < l) ⊎ (l ≤ top) → first_in (with_nodes all nodes (suc l) []) it ≡ find test kids
      by rest (inl more) = other_node l (ne_eqb l top (λ e. absurd (omega (arith, e, more)))) (with_nodes all nodes l []) ∙ rest more
      by rest (inr last) =
          let same_node : l ≡ top = omega (arith, less, last) in
          ap (λ (i : ℕ). first_in (with_nodes all nodes (suc i) []) it) same_node
          ∙ at_top (with_nodes all nodes top [])
          ∙ ap (λ (o : Option ℕ). option_or o (find test kids)) (none_yet top (omega arith))

  -- of a list that is no node's nothing is noted
  first_nodes : first_in (with_nodes all nodes (length nodes) []) it ≡ find test kids
  first_nodes = by (cases_lt top (length nodes))
    where
      by : (top < length nodes) ⊎ (length nodes ≤ top) → first_in (with_nodes all nodes (length nodes) []) it ≡ find test kids
      by (inl less) = first_upto (length nodes) less
      by (inr more) = none_yet (length nodes) more ∙ ap (λ (its : Option Node). find test (children_of its)) (sym (slice_get_past nodes top more))

  first_module : (d : Declared) (before : List Note) → first_in (with_module all (length nodes) before d) it ≡ first_in before it
  first_module d before = by (is_none d.unit)
    where
      by : (b : Bool) → first_in (if b then with_name all (length nodes) list.Modules d.node before d.name else before) it ≡ first_in before it
      by true = none_first all (length nodes) list.Modules d.node (d.name ∷ []) before it (λ y. names_of_others all nodes (length nodes) top list.Modules k x y modules)
      by false = refl

  first_modules : (ds : List Declared) (before : List Note) → first_in (fold (with_module all (length nodes)) before ds) it ≡ first_in before it
  first_modules [] before = refl
  first_modules (d ∷ ds) before = first_modules ds (with_module all (length nodes) before d) ∙ first_module d before

  first_all : (ds : List Declared) → first_in (notes_of all nodes ds) it ≡ find test kids
  first_all ds = first_modules ds (with_nodes all nodes (length nodes) []) ∙ first_nodes

-- ---- by the table

pub find_same : (p q : ℕ → Bool) → ((c : ℕ) → p c ≡ q c) → (cs : List ℕ) → find p cs ≡ find q cs
find_same p q same [] = refl
find_same p q same (c ∷ cs) = ap (λ (b : Bool). cond b (Some c) (find p cs)) (same c) ∙ ap (λ (o : Option ℕ). cond (q c) (Some c) o) (find_same p q same cs)

module _ (f : File) (t : Tables) (are : AreItems f t) (its_own : List Node → ℕ → List (List ℕ)) (item : NodeKind) (k : ListKind) (is : IsItemOf its_own item k) (own : same_kind list.Names k ≡ false) (modules : same_kind list.Modules k ≡ false) where
  abbrev words : List (List ℕ)
  words = words_to f.nodes (length f.nodes)

  pub word_found : (name : Identifier) → is_known words name ≡ true → place_of t.words.now name ≡ Some (number_of words name)
  word_found name known = ap (λ (all : List (List ℕ)). place_of all name) are.words ∙ place_is words name known

  -- an item of the list that has the name
  abbrev pub has_name : Identifier → ℕ → Bool
  has_name name c = is_of item (kind_at f.nodes c) && list_any (bytes_eq name) (its_own f.nodes c)

  -- the first such item is found
  pub item_is : (top : ℕ) (name : Identifier) → is_known words name ≡ true → get same t.items.now.first (listed_name words top k name) ≡ find (has_name name) (children_of (slice_get f.nodes top))
  item_is top name known =
      are.noted.first (listed_name words top k name)
      ∙ first_all words f.nodes its_own item k is own modules top name f.scope.declarations
      ∙ find_same (λ c. is_of item (kind_at f.nodes c) && list_any (λ y. same_word words y name) (its_own f.nodes c)) (has_name name)
      (λ c. ap (λ (b : Bool). is_of item (kind_at f.nodes c) && b) (any_turned words name known (its_own f.nodes c))) (children_of (slice_get f.nodes top))

  some_item : (name : Identifier) (cs : List ℕ) → is_some (find (has_name name) cs) ≡ list_any (bytes_eq name) (own_before words f.nodes (its_own f.nodes) item cs)
  some_item name [] = refl
  some_item name (c ∷ cs) = by (is_of item (kind_at f.nodes c)) (some_item name cs)
    where
      found : (b : Bool) (o : Option ℕ) → is_some (cond b (Some c) o) ≡ (b || is_some o)
      found true o = refl
      found false o = refl

      by : (b : Bool) → is_some (find (has_name name) cs) ≡ list_any (bytes_eq name) (own_before words f.nodes (its_own f.nodes) item cs) →
          is_some (cond (b && list_any (bytes_eq name) (its_own f.nodes c)) (Some c) (find (has_name name) cs)) ≡ list_any (bytes_eq name) (if b then its_own f.nodes c ++ own_before words f.nodes (its_own f.nodes) item cs else own_before words f.nodes (its_own f.nodes) item cs)
      by true rest =
          found (list_any (bytes_eq name) (its_own f.nodes c)) (find (has_name name) cs)
          ∙ ap (λ (b : Bool). list_any (bytes_eq name) (its_own f.nodes c) || b) rest
          ∙ sym (list_any-append (bytes_eq name) (its_own f.nodes c) (own_before words f.nodes (its_own f.nodes) item cs))
      by false rest = rest

  -- so one is found just if one of the items has the name
  pub item_found : (top : ℕ) (name : Identifier) → is_known words name ≡ true →
      is_some (get same t.items.now.first (listed_name words top k name)) ≡ list_any (bytes_eq name) (own_before words f.nodes (its_own f.nodes) item (children_of (slice_get f.nodes top)))
  item_found top name known = ap (λ (o : Option ℕ). is_some o) (item_is top name known) ∙ some_item name (children_of (slice_get f.nodes top))
