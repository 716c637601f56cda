-- V25 by tables: the exceptions of a heading are found by name in its Signals.
use Rattle.std.proofs.Common.{◌≡◌, ◌∙◌, ◌<◌, ℕ, Bool, true, false, ◌&&◌, ◌||◌, if◌then◌else◌, List, [], ◌∷◌, ◌++◌, codes, bytes_eq, Option, Some, None, refl, sym, ap, ap₂}
use Rattle.std.specs.Prelude.{slice_get, is_some, not, length}
use Rattle.std.specs.List.{list_any, list_all}
use Rattle.std.proofs.Math.Bool.{and-true}
use Rattle.std.proofs.lemmas.Bool.{true≢false, and_parts}
use Rattle.std.proofs.lemmas.Cmp.{nat_list_eq_equiv}
use Rattle.std.proofs.lemmas.Option.{slice_get_within}
use Rattle.clu_tree.specs.declared.node.Node.{Node}
use Rattle.clu_tree.specs.declared.node.NodeKind.{NodeKind}
use Rattle.clu_tree.specs.declared.node.NodeKind.TheVariants as kind
use Rattle.clu_tree.specs.Nodes.{IsTree}
use Rattle.clu_parser.specs.Shape.{HaveForms}
use Rattle.clu_types.specs.CluType.{CluType, CluTypes, Signals}
use Rattle.clu_syntax.specs.Kinds.{kind_at}
use Rattle.clu_syntax.specs.Rounds.{round_at}
use Rattle.clu_syntax.specs.Splits.{first_name, is_of, leading, run, after_run, after_one, parts, children_of}
use Rattle.clu_syntax.specs.Syntax.{Identifier, Exceptions, no_exceptions, exception_and}
use Rattle.clu_syntax.specs.Items.{Item, exceptions_at}
use Rattle.clu_syntax.specs.Nodes.{before, item_at, exception_of, routine_of}
use Rattle.clu_parts.specs.Slots.{IsPart, AreParts, AreBefore}
use Rattle.clu_parts.proofs.Fitting.{children_before}
use Rattle.clu_settle.specs.Names.{names_of}
use Rattle.clu_settle.proofs.Shapes.{parts_of_first, before_after_one}
use Rattle.clu_meaning.specs.Scoping.{Scope}
use Rattle.clu_meaning.specs.Settling.{comes_after}
use Rattle.clu_meaning.specs.Programs.{HeadingType, Exception}
use Rattle.clu_meaning.specs.Resolving.{Place, heading_types, with_exception, exceptions_of}
use Rattle.clu_checking.specs.Specifications.{Specification}
use Rattle.clu_checking.specs.Files.{File, routine_at}
use Rattle.clu_checking.specs.Headings.{for_body, is_represented, place_at, types_by, signals_by, signals_inside}
use Rattle.clu_checking.specs.ExceptionRules as checking
use Rattle.clu_checking.specs.ExceptionRules.{is_failure, one_string, listed_objects, signals_of, v25, v25_in}
use Rattle.clu_declares.proofs.Below.{before_is, item_there, same_kind}
use Rattle.clu_declares.proofs.Facts.{There, there, all_drop}
use Rattle.clu_head.specs.There.{is_there}
use Rattle.clu_name_rules.specs.declared.repeated.ListKind.TheVariants as list
use Rattle.clu_name_rules.specs.Words.{words_to}
use Rattle.clu_type_rules.specs.declared.known.Known.{Known}
use Rattle.clu_type_rules.specs.declared.routines.Parts.{Parts}
use Rattle.clu_type_rules.specs.Known as known
use Rattle.clu_type_rules.specs.Routines.{child_of_kind, parts_in}
use Rattle.clu_type_rules.specs.ExceptionRules as of_tables
use Rattle.clu_type_rules.specs.ExceptionRules.{signals_in, first_named, is_not_listed}
use Rattle.clu_passes.specs.Firsts.{AreItems}
use Rattle.clu_passes.specs.Routines.{StandInRoutines, AreParts as AreRoutineParts}
use Rattle.clu_passes.proofs.AtNodes.{names_are}
use Rattle.clu_passes.proofs.Constructed.{whole_run}
use Rattle.clu_passes.proofs.FactNodes as so
use Rattle.clu_passes.proofs.FirstItems.{word_found, item_found}
use Rattle.clu_passes.proofs.Known.{is_known, are_known, nodes_known}
use Rattle.clu_passes.proofs.Leaving.{found}
use Rattle.clu_passes.proofs.OneName.{OneName, signal_name, exception_name}
use Rattle.clu_passes.proofs.OwnPlaces.{there_is}
use Rattle.clu_passes.proofs.RoutineParts.{children_in, rest_of, signals_of_routine}
use Rattle.clu_passes.proofs.StandTwice.{all_names, exceptions_are, names_before}

-- ---- what a heading lists, by the names that are written there

exchanged : (a b c : Bool) → (a || (b || c)) ≡ (b || (a || c))
exchanged true true c = refl
exchanged true false c = refl
exchanged false true c = refl
exchanged false false c = refl

module _ (name : Identifier) where
  abbrev is_its : Exception → Bool
  is_its e = bytes_eq e.name name

  objects_there : (seen : HeadingType → CluType) (es : List Exception) → is_some (listed_objects (signals_by seen es) name) ≡ list_any is_its es
  objects_there seen [] = refl
  objects_there seen (e ∷ es) = by (bytes_eq e.name name) (objects_there seen es)
    where
      by : (b : Bool) → is_some (listed_objects (signals_by seen es) name) ≡ list_any is_its es → is_some (if b then Some (types_by seen e.objects) else listed_objects (signals_by seen es) name) ≡ (b || list_any is_its es)
      by true rest = refl
      by false rest = rest

  any_with : (place : Place) (e : Exception) (fs : List Exception) → list_any is_its (with_exception place e fs) ≡ (is_its e || list_any is_its fs)
  any_with place e [] = refl
  any_with place e (f ∷ fs) = by (comes_after e.name f.name) (any_with place e fs)
    where
      by : (b : Bool) → list_any is_its (with_exception place e fs) ≡ (is_its e || list_any is_its fs) → list_any is_its (if b then f ∷ with_exception place e fs else e ∷ f ∷ fs) ≡ (is_its e || (is_its f || list_any is_its fs))
      by true rest = ap (λ (b : Bool). is_its f || b) rest ∙ exchanged (is_its f) (is_its e) (list_any is_its fs)
      by false rest = refl

  -- one of the exceptions is written by this name
  abbrev is_written : Exceptions → Bool
  is_written no_exceptions = false
  is_written (exception_and n other ts es) = bytes_eq other name || is_written es

  module _ (other_name : is_failure name ≡ false) (place : Place) where
    no_failure : (other : Identifier) → bytes_eq other (codes "failure") ≡ true → bytes_eq other name ≡ false
    no_failure other e = by (bytes_eq other name) refl
      where
        by : (b : Bool) → bytes_eq other name ≡ b → b ≡ false
        by false is = refl
        by true is = absurd (true≢false (sym e ∙ nat_list_eq_equiv.congr other name (codes "failure") is ∙ other_name))

    any_written : (es : Exceptions) → list_any is_its (exceptions_of place es) ≡ is_written es
    any_written no_exceptions = refl
    any_written (exception_and n other ts es) = by (bytes_eq other (codes "failure")) refl (any_written es)
      where
        by : (b : Bool) → bytes_eq other (codes "failure") ≡ b → list_any is_its (exceptions_of place es) ≡ is_written es →
            list_any is_its (if b then exceptions_of place es else with_exception place (record { name = other; objects = heading_types place ts }) (exceptions_of place es)) ≡ (bytes_eq other name || is_written es)
        by true e rest = rest ∙ ap (λ (b : Bool). b || is_written es) (sym (no_failure other e))
        by false e rest =
            any_with place (record { name = other; objects = heading_types place ts }) (exceptions_of place es)
            ∙ ap (λ (b : Bool). bytes_eq other name || b) rest

module _ (k : Known) (scope : Scope) (library : List Specification) (refused : List ℕ) where
  abbrev nodes : List Node
  nodes = k.tables.file.syntax.now

  abbrev f : File
  f = so.f k scope library refused

  abbrev table : List (Option Parts)
  table = k.routines.now.parts.items

  abbrev words : List (List ℕ)
  words = words_to nodes (length nodes)

  abbrev items : ℕ → ℕ → Item
  items n = before n (item_at nodes)

  abbrev names_at : ℕ → List Identifier
  names_at c = names_of (slice_get nodes c)

  module _ (shaped : HaveForms nodes) (tree : IsTree nodes) (are : AreItems f k.tables) (stand : StandInRoutines f) (routines : AreRoutineParts f table) where
    -- ---- the names of exceptions

    pub record ItsName (r c : ℕ) : Type 0 where
      pub its : Identifier
      pub one : names_at c ≡ its ∷ []
      pub written : (items r c).exception.name ≡ its

    pub its_name : (r c : ℕ) → IsPart nodes (is_of kind.Exc) r c → ItsName r c
    its_name r c p =
        let is : kind_at nodes c ≡ kind.Exc = same_kind kind.Exc (kind_at nodes c) p.1 in
        let x : There nodes c kind.Exc = there nodes c kind.Exc refl is in
        let one : OneName nodes c = exception_name nodes shaped c is in
        record {
          its = one.its;
          one = one.is;
          written =
              ap (λ (i : Item). i.exception.name) (before_is nodes r c p.0)
              ∙ ap (λ (i : Item). i.exception.name) (item_there nodes c x.node x.at)
              ∙ ap (λ (k : NodeKind). (exception_of (before c (item_at nodes)) nodes c x.node k).name) x.is
              ∙ ap (λ (its : Option Node). first_name (names_of its)) (sym x.at)
              ∙ ap first_name one.is;
        }

    written_is : (name : Identifier) (r : ℕ) (cs : List ℕ) → AreParts nodes (is_of kind.Exc) r cs → is_written name (exceptions_at (items r) cs) ≡ list_any (bytes_eq name) (names_before words nodes kind.Exc cs)
    written_is name r [] ps = refl
    written_is name r (c ∷ cs) ps =
        let n : ItsName r c = its_name r c ps.0 in
        let head : names_before words nodes kind.Exc (c ∷ cs) ≡ n.its ∷ names_before words nodes kind.Exc cs =
        ap (λ (b : Bool). if◌then◌else◌ {A = List Identifier} b (names_at c ++ names_before words nodes kind.Exc cs) (names_before words nodes kind.Exc cs)) ps.0.1
        ∙ ap (λ (xs : List Identifier). xs ++ names_before words nodes kind.Exc cs) n.one in
        ap (λ (other : Identifier). bytes_eq other name || is_written name (exceptions_at (items r) cs)) n.written
        ∙ ap₂ (λ (a b : Bool). a || b) (nat_list_eq_equiv.symm n.its name) (written_is name r cs ps.1)
        ∙ ap (list_any (bytes_eq name)) (sym head)

    -- ---- the heading of the routine round a node

    found_in : (name : Identifier) → is_known words name ≡ true → (o : Option ℕ) → is_some (first_named k list.Exceptions o (of_tables.number_of k name)) ≡ list_any (bytes_eq name) (names_before words nodes kind.Exc (children_in nodes o))
    found_in name is None = refl
    found_in name is (Some s) =
        ap (λ (o : Option ℕ). is_some (first_named k list.Exceptions (Some s) o)) (word_found f k.tables are all_names kind.Exc list.Exceptions exceptions_are refl refl name is)
        ∙ item_found f k.tables are all_names kind.Exc list.Exceptions exceptions_are refl refl s name is

    by_routine : (n : ℕ) (name : Identifier) → is_known words name ≡ true → is_failure name ≡ false → (o : Option ℕ) → (round_at f.rounds n).routine ≡ o →
        is_some (listed_objects (signals_of f (routine_at f o)) name) ≡ is_some (first_named k list.Exceptions (signals_in (parts_in table o)) (of_tables.number_of k name))
    by_routine n name is other None e = refl
    by_routine n name is other (Some r) e =
        let at : is_there kind.Routine (slice_get nodes r) ≡ true = stand n r e in
        let x : There nodes r kind.Routine = there nodes r kind.Routine refl (same_kind kind.Routine (kind_at nodes r) (there_is kind.Routine refl (slice_get nodes r) ∙ at)) in
        let behind : List ℕ = after_one nodes kind.Results (rest_of nodes x.node.children) in
        let es : List ℕ = parts nodes kind.Signals behind in
        let before_r : AreBefore r behind =
        before_after_one nodes kind.Results r (rest_of nodes x.node.children)
        (all_drop (λ c. c < r) (leading nodes kind.Decl (after_run nodes kind.Parm x.node.children)) (after_run nodes kind.Parm x.node.children)
        (all_drop (λ c. c < r) (leading nodes kind.Parm x.node.children) x.node.children (children_before nodes tree r x.node x.at))) in
        let ps : AreParts nodes (is_of kind.Exc) r es = parts_of_first nodes tree shaped kind.Signals (is_of kind.Exc) refl r behind before_r in
        let heading : signals_of f (routine_at f (Some r)) ≡ signals_inside f r (exceptions_at (items r) (run nodes kind.Exc es)) =
        ap (λ (i : Item). signals_inside f i.routine.node i.routine.signals) (item_there nodes r x.node x.at)
        ∙ ap (λ (its : NodeKind). signals_inside f (routine_of (items r) nodes r x.node its).node (routine_of (items r) nodes r x.node its).signals) x.is in
        let top : signals_in (parts_in table (Some r)) ≡ child_of_kind nodes kind.Signals x.node.children =
        ap signals_in (found f stand table routines r at)
        ∙ ap (λ (its : Option Node). child_of_kind nodes kind.Signals (children_of its)) x.at in
        ap (λ (its : Signals). is_some (listed_objects its name)) (heading ∙ ap (λ (cs : List ℕ). signals_inside f r (exceptions_at (items r) cs)) (whole_run nodes kind.Exc r es ps))
        ∙ objects_there name (for_body (is_represented f r)) (exceptions_of (place_at f r) (exceptions_at (items r) es))
        ∙ any_written name other (place_at f r) (exceptions_at (items r) es)
        ∙ written_is name r es ps
        ∙ ap (λ (cs : List ℕ). list_any (bytes_eq name) (names_before words nodes kind.Exc cs)) (sym (signals_of_routine nodes shaped tree r x))
        ∙ sym (found_in name is (child_of_kind nodes kind.Signals x.node.children))
        ∙ ap (λ (o : Option ℕ). is_some (first_named k list.Exceptions o (of_tables.number_of k name))) (sym top)

    pub listed_at : (n : ℕ) (name : Identifier) → is_known words name ≡ true → checking.is_listed f n name ≡ of_tables.is_listed k n name
    listed_at n name is = by (is_failure name) refl
      where
        by : (b : Bool) → is_failure name ≡ b → checking.is_listed f n name ≡ of_tables.is_listed k n name
        by true e =
            ap (λ (b : Bool). is_some (if◌then◌else◌ {A = Option CluTypes} b (Some one_string) (listed_objects (signals_of f (routine_at f (round_at f.rounds n).routine)) name))) e
            ∙ ap (λ (b : Bool). b || is_some (of_tables.exception_named k n name)) (sym e)
        by false e =
            ap (λ (b : Bool). is_some (if◌then◌else◌ {A = Option CluTypes} b (Some one_string) (listed_objects (signals_of f (routine_at f (round_at f.rounds n).routine)) name))) e
            ∙ by_routine n name is e (round_at f.rounds n).routine refl
            ∙ ap (λ (b : Bool). b || is_some (of_tables.exception_named k n name)) (sym e)

    all_listed : (n : ℕ) (names : List Identifier) → are_known words names ≡ true → list_all (checking.is_listed f n) names ≡ list_all (of_tables.is_listed k n) names
    all_listed n [] is = refl
    all_listed n (name ∷ names) is =
        let both = and_parts (is_known words name) (are_known words names) is in
        ap₂ (λ (a b : Bool). a && b) (listed_at n name both.0) (all_listed n names both.1)

    -- ---- the rule

    pub names_known : (its : NodeKind) (n : ℕ) → There nodes n its → are_known words (names_at n) ≡ true
    names_known its n x = nodes_known nodes (length nodes) n (slice_get_within nodes n x.node x.at)

    in_signal : (n : ℕ) → kind_at nodes n ≡ kind.Signal → v25_in f kind.Signal n ≡ is_not_listed k kind.Signal n
    in_signal n is =
        let one : OneName nodes n = signal_name nodes shaped n is in
        let its : are_known words (one.its ∷ []) ≡ true = ap (are_known words) (sym one.is) ∙ names_known kind.Signal n (there nodes n kind.Signal refl is) in
        ap (λ (xs : List Identifier). not (checking.is_listed f n (first_name xs))) (sym (names_are f n) ∙ one.is)
        ∙ ap not (listed_at n one.its (and_parts (is_known words one.its) true its).0 ∙ sym (and-true (of_tables.is_listed k n one.its)))
        ∙ ap (λ (xs : List Identifier). not (list_all (of_tables.is_listed k n) xs)) (sym one.is)

    in_resignal : (n : ℕ) → kind_at nodes n ≡ kind.Resignal → v25_in f kind.Resignal n ≡ is_not_listed k kind.Resignal n
    in_resignal n is =
        ap (λ (xs : List Identifier). not (list_all (checking.is_listed f n) xs)) (sym (names_are f n))
        ∙ ap not (all_listed n (names_at n) (names_known kind.Resignal n (there nodes n kind.Resignal refl is)))

    by_kind : (n : ℕ) (its : NodeKind) → kind_at nodes n ≡ its → v25_in f its n ≡ is_not_listed k its n
    by_kind n kind.Signal is = in_signal n is
    by_kind n kind.Resignal is = in_resignal n is
    by_kind n _ is = refl

    pub v25_is : (n : ℕ) → v25 f n ≡ is_not_listed k (known.kind_in k n) n
    v25_is n = by_kind n (kind_at nodes n) refl
