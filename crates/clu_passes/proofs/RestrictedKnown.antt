-- What the table has of a Restrict whose first name is a type parameter is what it restricts, and by which type set.
use Rattle.std.proofs.Common.{◌≡◌, ◌∙◌, ◌<◌, ◌≤◌, ◌&&◌, ◌==◌, ℕ, zero, suc, Bool, true, false, if◌then◌else◌, List, [], ◌∷◌, ◌++◌, length, map, Option, Some, None, slice_get, refl, ap, ap₂, sym, subst, inl, inr, arith}
use Rattle.std.specs.Option.{option_and_then, option_map}
use Rattle.std.proofs.lemmas.Bool.{true≢false, cases_lt}
use Rattle.std.proofs.lemmas.Option.{none-some, same_Some, slice_get_within, slice_get-map}
use Rattle.clu_tree.specs.declared.node.Node.{Node}
use Rattle.clu_tree.specs.declared.node.NodeKind.{NodeKind}
use Rattle.clu_tree.specs.declared.node.NodeKind.TheVariants as kind
use Rattle.clu_parser.specs.Trees.{Text}
use Rattle.clu_syntax.specs.declared.round.Round.{Round}
use Rattle.clu_syntax.specs.Enough.{least_names}
use Rattle.clu_syntax.specs.Kinds.{kind_at, kind_of}
use Rattle.clu_syntax.specs.Rounds.{AreRounds, round_at}
use Rattle.clu_syntax.specs.Splits.{is_of, children_of, first_name, one_of, run, type_of}
use Rattle.clu_syntax.specs.Syntax.{Identifier, Restriction, TypeExpression, TypeSet}
use Rattle.clu_syntax.specs.Items.{Item, type_of_option}
use Rattle.clu_syntax.specs.Nodes.{before, item_at, parameter_of as parameter_from, restricted, restriction_of}
use Rattle.clu_syntax.proofs.Enough.{enough}
use Rattle.clu_names.specs.declared.scopes.Declared.{Declared}
use Rattle.clu_names.specs.Denotes.{bound_at, found, is_open, names_in}
use Rattle.clu_names.specs.Latest.{IsBest, IsBestAt}
use Rattle.clu_names.specs.Scopes.{declarations}
use Rattle.clu_names.proofs.Best.{found_is}
use Rattle.clu_meaning.specs.Scoping as means
use Rattle.clu_meaning.specs.Scoping.{meaning_of}
use Rattle.clu_checking.specs.Specifications.{Specification}
use Rattle.clu_checking.specs.Files.{File, scope_in, item, names, node_names}
use Rattle.clu_settle.specs.declared.meanings.Meaning.{Meaning}
use Rattle.clu_settle.specs.declared.meanings.Meaning.TheVariants as meaning
use Rattle.clu_settle.specs.Meant as meant
use Rattle.clu_settle.specs.Names as settled
use Rattle.clu_settle.specs.Parameters.{counted_in, number_at, numbers_to}
use Rattle.clu_parts.proofs.Fitting.{AreBefore, children_before}
use Rattle.clu_declares.specs.Declares.{AreFew, IsParsed}
use Rattle.clu_declares.proofs.Below.{before_is, item_there, same_kind}
use Rattle.clu_declares.proofs.Each.{name_meant}
use Rattle.clu_declares.proofs.Facts.{There, there}
use Rattle.clu_head.specs.declared.known.Known.{Known}
use Rattle.clu_head.specs.declared.restricted.Restricted.{Restricted}
use Rattle.clu_head.specs.declared.sets.Said.{Said}
use Rattle.clu_head.specs.declared.sets.Said.TheVariants as said
use Rattle.clu_head.specs.Asking.{no_restriction, restricted_in}
use Rattle.clu_head.specs.Restricting.{number_of, parameter_in, parameter_of, restricted_at, restricted_to, set_among, set_of_name, type_parameter}
use Rattle.clu_head.specs.Sets.{first_in, kept_at, led, led_by, said_at, said_by, said_by_first, said_of, same_as, first_meant, second_in, set_led}
use Rattle.clu_head.specs.There.{is_there}
use Rattle.clu_bindings.specs.Tables.{table_to}
use Rattle.clu_passes.specs.Heads.{IsRestricted, file_known, parameter_meant, set_meant}
use Rattle.clu_passes.specs.Trees.{is_of_constant}
use Rattle.clu_passes.proofs.InEquates.{in_constants}
use Rattle.clu_passes.proofs.Joined.{table_at}
use Rattle.clu_passes.proofs.NamesMean.{declared_are, numbers_are}
use Rattle.clu_passes.proofs.OwnPlaces.{there_is}
use Rattle.clu_passes.proofs.SetVariables.{set_inside}
use Rattle.clu_passes.proofs.SetsNamed.{sets_named}

-- ---- the names of a node

first_denoted : (ds : List Declared) (n : ℕ) (names : List Identifier) → 1 ≤ length names → first_in (map (λ name. found ds name n) names) ≡ found ds (first_name names) n
first_denoted ds n [] some = absurd (omega (arith, some))
first_denoted ds n (name ∷ names) some = refl

-- ---- what is declared and no type parameter

module _ (nodes : List Node) (j : ℕ) where
  abbrev IsParameter : Meaning → Type 0
  IsParameter its = settled.Means nodes its (means.is_type_parameter j)

  no_equate : (k : NodeKind) (c : ℕ) → IsParameter (meant.equated_by k c) → ⊥
  no_equate kind.TypeSet c s = true≢false (sym s)
  no_equate kind.File c s = let e : means.is_type_parameter j ≡ means.is_equate (item_at nodes c).constant = s.2 in cc
  no_equate _ c s = let e : means.is_type_parameter j ≡ means.is_equate (item_at nodes c).constant = s.2 in cc

  no_right : (cs : List ℕ) → IsParameter (meant.right_of nodes cs) → ⊥
  no_right [] s = true≢false (sym s)
  no_right (c ∷ cs) s = no_equate (kind_at nodes c) c s

  no_definition : (unit : Option ℕ) → IsParameter (meant.definition_in unit) → ⊥
  no_definition (Some u) s = true≢false (sym s)
  no_definition None s = let e : means.is_type_parameter j ≡ means.is_module = s in cc

  -- the number of a parameter that is one of a type
  of_parameter : (its : ℕ → Item) (o : Option ℕ) (number : ℕ) (kept : Option ℕ) → kept ≡ Some number → (b : Bool) → IsParameter (if b then meaning.Module else meant.parameter_as (type_of_option its o) number) → number_of o kept ≡ Some j
  of_parameter its o number kept e true s = absurd (let f : means.is_type_parameter j ≡ means.is_module = s in cc)
  of_parameter its None number kept e false s = let f : means.is_type_parameter j ≡ means.is_type_parameter number = s in let same : number ≡ j = cc in e ∙ ap Some same
  of_parameter its (Some c) number kept e false s = absurd (let f : means.is_type_parameter j ≡ means.is_constant_parameter number = s in cc)

-- ---- the table by node

module _ (nodes : List Node) (ds : List Declared) (sets : List (Option ℕ)) (numbers : List ℕ) where
  table_is : (m : ℕ) → restricted_to nodes ds sets numbers m ≡ table_to (restricted_at nodes ds sets numbers) m
  unfolding restricted_to table_to
  table_is zero = refl
  table_is (suc m) = ap (λ (rs : List Restricted). rs ++ restricted_at nodes ds sets numbers m ∷ []) (table_is m)

  at_node : (n : ℕ) → restricted_at nodes ds sets numbers n ≡ (if is_there kind.Restrict (slice_get nodes n) then record { parameter = parameter_of nodes numbers ds (first_in (bound_at ds n (slice_get nodes n))); set = set_among nodes ds sets n (children_of (slice_get nodes n)) } else no_restriction)
  unfolding restricted_at
  at_node n = refl

  pub at_parameter : (place : ℕ) (d : Declared) → type_parameter nodes numbers place d ≡ (if is_there kind.Parm (slice_get nodes d.node) then number_of (type_of nodes (children_of (slice_get nodes d.node))) (slice_get numbers place) else None)
  unfolding type_parameter
  at_parameter place d = refl

-- ---- the table of sets leads to type sets

module _ (nodes : List Node) (ds : List Declared) where
  abbrev IsSet : ℕ → Type 0
  IsSet c = kind_at nodes c ≡ kind.TypeSet

  there_set : (c : ℕ) → is_there kind.TypeSet (slice_get nodes c) ≡ true → IsSet c
  there_set c is = same_kind kind.TypeSet (kind_at nodes c) (there_is kind.TypeSet refl (slice_get nodes c) ∙ is)

  side_is : (c : ℕ) → said_by nodes ds c ≡ (if is_there kind.TypeSet (slice_get nodes c) then said.Set c else if is_there kind.Name (slice_get nodes c) then same_as (first_meant nodes ds c) else said.Nothing)
  unfolding said_by
  side_is c = refl

  equate_is : (n : ℕ) → said_at nodes ds n ≡ (if is_there kind.Equate (slice_get nodes n) then said_by_first nodes ds (children_of (slice_get nodes n)) else said.Nothing)
  unfolding said_at
  equate_is n = refl

  no_same : (o : Option ℕ) (e : ℕ) → same_as o ≡ said.Set e → ⊥
  no_same None e s = let f : said.Nothing ≡ said.Set e = s in cc
  no_same (Some p) e s = let f : said.Same p ≡ said.Set e = s in cc

  by_side : (c e : ℕ) → said_by nodes ds c ≡ said.Set e → IsSet e
  by_side c e s = by (is_there kind.TypeSet (slice_get nodes c)) refl (is_there kind.Name (slice_get nodes c)) (sym (side_is c) ∙ s)
    where
      by : (a : Bool) → is_there kind.TypeSet (slice_get nodes c) ≡ a → (b : Bool) → (if a then said.Set c else if b then same_as (first_meant nodes ds c) else said.Nothing) ≡ said.Set e → IsSet e
      by true is b s = let f : said.Set c ≡ said.Set e = s in let same : c ≡ e = cc in subst IsSet same (there_set c is)
      by false is true s = absurd (no_same (first_meant nodes ds c) e s)
      by false is false s = absurd (no_same None e s)

  by_first : (cs : List ℕ) (e : ℕ) → said_by_first nodes ds cs ≡ said.Set e → IsSet e
  by_first [] e s = absurd (no_same None e s)
  by_first (c ∷ cs) e s = by_side c e s

  by_equate : (n e : ℕ) → said_at nodes ds n ≡ said.Set e → IsSet e
  by_equate n e s = by (is_there kind.Equate (slice_get nodes n)) (sym (equate_is n) ∙ s)
    where
      by : (b : Bool) → (if b then said_by_first nodes ds (children_of (slice_get nodes n)) else said.Nothing) ≡ said.Set e → IsSet e
      by true s = by_first (children_of (slice_get nodes n)) e s
      by false s = absurd (no_same None e s)

  abbrev all : List Said
  all = said_of nodes ds ds

  by_place : (place e : ℕ) → slice_get all place ≡ Some (said.Set e) → IsSet e
  by_place place e s = by (slice_get ds place) (sym (slice_get-map (λ (d : Declared). said_at nodes ds d.node) ds place) ∙ s)
    where
      by : (o : Option Declared) → option_map (λ (d : Declared). said_at nodes ds d.node) o ≡ Some (said.Set e) → IsSet e
      by None s = absurd (none-some (said.Set e) s)
      by (Some d) s = by_equate d.node e (same_Some (said_at nodes ds d.node) (said.Set e) s)

  led_zero : (place : ℕ) → led all 0 place ≡ None
  unfolding led
  led_zero place = refl

  led_next : (steps place : ℕ) → led all (suc steps) place ≡ led_by (led all steps) (slice_get all place)
  unfolding led
  led_next steps place = refl

  led_set : (steps place c : ℕ) → led all steps place ≡ Some c → IsSet c
  led_set zero place c s = absurd (none-some c (sym (led_zero place) ∙ s))
  led_set (suc steps) place c s = by (λ p s. led_set steps p c s) (slice_get all place) refl (sym (led_next steps place) ∙ s)
    where
      by : ((p : ℕ) → led all steps p ≡ Some c → IsSet c) → (o : Option Said) → slice_get all place ≡ o → led_by (led all steps) o ≡ Some c → IsSet c
      by before None at s = absurd (none-some c s)
      by before (Some (said.Set e)) at s = subst IsSet (same_Some e c s) (by_place place e at)
      by before (Some (said.Same p)) at s = before p s
      by before (Some said.Nothing) at s = absurd (none-some c s)

  led_there : (o : Option ℕ) (c : ℕ) → option_and_then (set_led all) o ≡ Some c → IsSet c
  led_there None c s = absurd (none-some c s)
  led_there (Some place) c s = led_set (length all) place c s

module _ (t : Text) (k : Known) (library : List Specification) (refused : List ℕ) (parsed : IsParsed t k.syntax.now) (are : AreRounds k.syntax.now k.rounds.now) (few : AreFew k.syntax.now k.rounds.now)
    (numbers : List ℕ) (numbered : numbers ≡ numbers_to k.syntax.now k.rounds.now (declarations k.syntax.now k.rounds.now) (length (declarations k.syntax.now k.rounds.now)))
    (sets : List (Option ℕ)) (kept : (place : ℕ) → kept_at sets place ≡ set_led (said_of k.syntax.now (declarations k.syntax.now k.rounds.now) (declarations k.syntax.now k.rounds.now)) place) where
  abbrev nodes : List Node
  nodes = k.syntax.now

  abbrev rounds : List Round
  rounds = k.rounds.now

  abbrev ds : List Declared
  ds = declarations k.syntax.now k.rounds.now

  abbrev f : File
  f = file_known k (scope_in k.syntax.now k.rounds.now) library refused

  abbrev type_set : ℕ → TypeSet
  type_set c = (item f c).type_set

  module _ (n : ℕ) (node : Node) (at : slice_get nodes n ≡ Some node) (is : node.kind ≡ kind.Restrict) where
    names_are : bound_at ds n (slice_get nodes n) ≡ map (λ name. found ds name n) node.names
    names_are = ap (bound_at ds n) at ∙ ap (λ (k : NodeKind). map (λ name. found ds name n) (names_in k node)) is

    -- ---- the parameter

    never_inside : (p : ℕ) (d : Declared) (name : Identifier) → slice_get ds p ≡ Some d → is_open name n d ≡ true → kind_at nodes d.node ≡ kind.TypeSet → ⊥
    never_inside p d name its opened set =
        let th : There nodes d.node kind.TypeSet = there nodes d.node kind.TypeSet refl set in
        let both = set_inside t nodes rounds parsed are p d its set name n opened in
        let first : (round_at rounds d.node).first ≤ n = both.0 in
        let last : n ≤ d.node = both.1 in
        elim (cases_lt n d.node) [
          | inl less ↦
              true≢false (sym (in_constants nodes rounds parsed.forms parsed.order parsed.tree are d.node th.node th.at (ap is_of_constant th.is) n first less) ∙ ap is_of_constant (ap kind_of at ∙ is))
          | inr more ↦
              (let same : n ≡ d.node = omega (arith, last, more) in
              let never : kind.Restrict ≡ kind.TypeSet = sym (ap kind_of at ∙ is) ∙ ap (kind_at nodes) same ∙ set in
              cc)
        ]

    declares : (p j : ℕ) (d : Declared) (name : Identifier) → slice_get ds p ≡ Some d → is_open name n d ≡ true → (number : ℕ) → slice_get numbers p ≡ Some number → (q : NodeKind) → kind_at nodes d.node ≡ q
        → IsParameter nodes j (meant.declared_in nodes q d.node d.unit (counted_in nodes rounds ds d.unit (length ds)) number) → type_parameter nodes numbers p d ≡ Some j
    declares p j d name its opened number says kind.Equate e s = absurd (no_right nodes j (children_of (slice_get nodes d.node)) s)
    declares p j d name its opened number says kind.Parm e s =
        let th : There nodes d.node kind.Parm = there nodes d.node kind.Parm refl e in
        let items : ℕ → Item = before d.node (item_at nodes) in
        let type : (item_at nodes d.node).parameter.type ≡ type_of_option items (type_of nodes th.node.children) =
        ap (λ (i : Item). i.parameter.type) (item_there nodes d.node th.node th.at) ∙ ap (λ (k : NodeKind). (parameter_from items nodes d.node th.node k).type) th.is in
        at_parameter nodes ds sets numbers p d
        ∙ ap (λ (o : Option Node). if is_there kind.Parm o then number_of (type_of nodes (children_of o)) (slice_get numbers p) else None) th.at
        ∙ ap (λ (k : NodeKind). if is_of kind.Parm k then number_of (type_of nodes th.node.children) (slice_get numbers p) else None) th.is
        ∙ of_parameter nodes j items (type_of nodes th.node.children) number (slice_get numbers p) says (number == 0)
        (subst (λ (o : Option TypeExpression). IsParameter nodes j (if number == 0 then meaning.Module else meant.parameter_as o number)) type s)
    declares p j d name its opened number says kind.TypeSet e s = absurd (never_inside p d name its opened e)
    declares p j d name its opened number says kind.Routine e s = absurd (no_definition nodes j d.unit s)
    declares p j d name its opened number says kind.Cluster e s = absurd (no_definition nodes j d.unit s)
    declares p j d name its opened number says kind.File e s = absurd (true≢false (sym s))
    declares p j d name its opened number says _ e s = absurd (true≢false (sym s))

    abbrev table : List Meaning
    table = meant.declared_to nodes rounds ds (length ds)

    bound : (name : Identifier) (j : ℕ) (o : Option ℕ) → IsBest (λ i d. is_open name n d ≡ true) ds o → IsParameter nodes j (meant.bound_to_one table o) → parameter_of nodes numbers ds o ≡ Some j
    bound name j None best s = absurd (let e : means.is_type_parameter j ≡ means.is_module = s in cc)
    bound name j (Some p) best s = at_place best
      where
        at_place : (d : Declared) × IsBestAt (λ i d. is_open name n d ≡ true) ds p d → parameter_of nodes numbers ds (Some p) ≡ Some j
        at_place (d, best) =
            let less : p < length ds = slice_get_within ds p d best.there in
            let number : ℕ = number_at nodes rounds ds p (Some d) in
            let meant_so : meant.bound_to_one table (Some p) ≡ meant.declared_at nodes rounds ds p (Some d) =
            ap settled.meaning_in (ap (λ (xs : List Meaning). slice_get xs p) (declared_are nodes rounds ds (length ds)) ∙ table_at (λ p. meant.declared_at nodes rounds ds p (slice_get ds p)) (length ds) p less)
            ∙ ap (meant.declared_at nodes rounds ds p) best.there in
            let numbered_so : slice_get numbers p ≡ Some number =
            ap (λ (xs : List ℕ). slice_get xs p) (numbered ∙ numbers_are nodes rounds ds (length ds)) ∙ table_at (λ p. number_at nodes rounds ds p (slice_get ds p)) (length ds) p less
            ∙ ap (λ (o : Option Declared). Some (number_at nodes rounds ds p o)) best.there in
            ap (parameter_in nodes numbers p) best.there
            ∙ declares p j d name best.there best.passes number numbered_so (kind_at nodes d.node) refl (subst (IsParameter nodes j) meant_so s)

    pub parameter_is : (name : Identifier) (j : ℕ) → meaning_of (scope_in nodes rounds) n name ≡ means.is_type_parameter j → parameter_of nodes numbers ds (found ds name n) ≡ Some j
    parameter_is name j e =
        bound name j (found ds name n) (found_is ds name n) (subst (settled.Means nodes (meant.bound_to_one table (found ds name n))) e (name_meant t nodes rounds parsed are few n name))

    -- ---- the set

    set_is : (o : Option ℕ) → option_and_then (kept_at sets) o ≡ option_and_then (set_led (said_of nodes ds ds)) o
    set_is None = refl
    set_is (Some place) = kept place

    abbrev second : Option ℕ
    second = second_in (map (λ name. found ds name n) node.names)

    name_set : set_of_name nodes ds sets n ≡ option_and_then (set_led (said_of nodes ds ds)) second
    name_set = ap (λ (bs : List (Option ℕ)). option_and_then (kept_at sets) (second_in bs)) names_are ∙ set_is second

    by_names : (items : ℕ → Item) (opers : List ℕ) (ns : List Identifier) → option_map type_set (option_and_then (set_led (said_of nodes ds ds)) (second_in (map (λ name. found ds name n) ns))) ≡ set_meant f (restricted items nodes n ns None opers)
    by_names items opers [] = refl
    by_names items opers (a ∷ []) = refl
    by_names items opers (a ∷ b ∷ ns) = sym (sets_named f parsed.forms parsed.tree n b)

    by_children : (items : ℕ → Item) → items ≡ before n (item_at nodes) → (opers cs : List ℕ) → AreBefore n cs → option_map type_set (set_among nodes ds sets n cs) ≡ set_meant f (restricted items nodes n node.names (one_of nodes kind.TypeSet cs) opers)
    by_children items same opers [] l = ap (option_map type_set) name_set ∙ by_names items opers node.names
    by_children items same opers (c ∷ cs) l =
        ap (λ (b : Bool). option_map type_set (if b then Some c else set_of_name nodes ds sets n)) (sym (there_is kind.TypeSet refl (slice_get nodes c)))
        ∙ by (is_of kind.TypeSet (kind_at nodes c))
      where
        by : (b : Bool) → option_map type_set (if b then Some c else set_of_name nodes ds sets n) ≡ set_meant f (restricted items nodes n node.names (if b then Some c else None) opers)
        by true = sym (ap (λ (items : ℕ → Item). Some (items c).type_set) same ∙ ap (λ (i : Item). Some i.type_set) (before_is nodes n c l.0))
        by false = ap (option_map type_set) name_set ∙ by_names items opers node.names

    its_restriction : (item f n).restriction ≡ restricted (before n (item_at nodes)) nodes n node.names (one_of nodes kind.TypeSet node.children) (run nodes kind.Oper node.children)
    its_restriction = ap (λ (i : Item). i.restriction) (item_there nodes n node at) ∙ ap (restriction_of (before n (item_at nodes)) nodes n node) is

    its_set : option_map type_set (set_among nodes ds sets n (children_of (slice_get nodes n))) ≡ set_meant f (item f n).restriction
    its_set =
        ap (λ (o : Option Node). option_map type_set (set_among nodes ds sets n (children_of o))) at
        ∙ by_children (before n (item_at nodes)) refl (run nodes kind.Oper node.children) node.children (children_before nodes parsed.tree n node at)
        ∙ sym (ap (set_meant f) its_restriction)

    name_node : (c : ℕ) → set_of_name nodes ds sets n ≡ Some c → kind_at nodes c ≡ kind.TypeSet
    name_node c e = led_there nodes ds second c (sym name_set ∙ e)

    its_node : (cs : List ℕ) (c : ℕ) → set_among nodes ds sets n cs ≡ Some c → kind_at nodes c ≡ kind.TypeSet
    its_node [] c e = name_node c e
    its_node (x ∷ cs) c e = by (is_there kind.TypeSet (slice_get nodes x)) refl e
      where
        by : (b : Bool) → is_there kind.TypeSet (slice_get nodes x) ≡ b → (if b then Some x else set_of_name nodes ds sets n) ≡ Some c → kind_at nodes c ≡ kind.TypeSet
        by true is e = subst (λ (c : ℕ). kind_at nodes c ≡ kind.TypeSet) (same_Some x c e) (there_set nodes ds x is)
        by false is e = name_node c e

    -- ---- what is known of the node

    its_restricted : restricted_in (slice_get (restricted_to nodes ds sets numbers (length nodes)) n) ≡ record { parameter = parameter_of nodes numbers ds (first_in (bound_at ds n (slice_get nodes n))); set = set_among nodes ds sets n (children_of (slice_get nodes n)) }
    its_restricted =
        ap (λ (rs : List Restricted). restricted_in (slice_get rs n)) (table_is nodes ds sets numbers (length nodes))
        ∙ ap restricted_in (table_at (restricted_at nodes ds sets numbers) (length nodes) n (slice_get_within nodes n node at))
        ∙ at_node nodes ds sets numbers n
        ∙ ap (λ (b : Bool). if b then record { parameter = parameter_of nodes numbers ds (first_in (bound_at ds n (slice_get nodes n))); set = set_among nodes ds sets n (children_of (slice_get nodes n)) } else no_restriction)
        (ap (is_there kind.Restrict) at ∙ ap (is_of kind.Restrict) is)

    has_name : 1 ≤ length node.names
    has_name =
        let some : least_names node.kind ≤ length node.names = (enough nodes parsed.forms n node at).names in
        let same : least_names node.kind ≡ least_names kind.Restrict = ap least_names is in
        omega (arith, some, same)

    -- if what the table has of its first name is the parameter that this means
    pub restricted_with : parameter_of nodes numbers ds (found ds (first_name node.names) n) ≡ parameter_meant (meaning_of (scope_in nodes rounds) n (first_name node.names)) → IsRestricted f n (restricted_in (slice_get (restricted_to nodes ds sets numbers (length nodes)) n))
    restricted_with same =
        let name : first_name (names f n) ≡ first_name node.names = ap (λ (o : Option Node). first_name (node_names f o)) at in
        subst (IsRestricted f n) (sym its_restricted) (record {
          parameter =
              ap (parameter_of nodes numbers ds) (ap first_in names_are ∙ first_denoted ds n node.names has_name)
              ∙ same
              ∙ sym (ap (λ (x : Identifier). parameter_meant (meaning_of (scope_in nodes rounds) n x)) name);
          set = its_set;
          node = λ c e. its_node (children_of (slice_get nodes n)) c e;
        })

    restricted_there : (j : ℕ) → meaning_of (scope_in nodes rounds) n (first_name (names f n)) ≡ means.is_type_parameter j → IsRestricted f n (restricted_in (slice_get (restricted_to nodes ds sets numbers (length nodes)) n))
    restricted_there j e =
        let name : first_name (names f n) ≡ first_name node.names = ap (λ (o : Option Node). first_name (node_names f o)) at in
        let means_so : meaning_of (scope_in nodes rounds) n (first_name node.names) ≡ means.is_type_parameter j = sym (ap (meaning_of (scope_in nodes rounds) n) name) ∙ e in
        restricted_with (parameter_is (first_name node.names) j means_so ∙ sym (ap parameter_meant means_so))

  pub restricted_known : (n j : ℕ) → kind_at nodes n ≡ kind.Restrict → meaning_of (scope_in nodes rounds) n (first_name (names f n)) ≡ means.is_type_parameter j → IsRestricted f n (restricted_in (slice_get (restricted_to nodes ds sets numbers (length nodes)) n))
  restricted_known n j is e = let th : There nodes n kind.Restrict = there nodes n kind.Restrict refl is in restricted_there n th.node th.at th.is j e
