-- The exceptions of a heading with the types of their objects, by tables; and V26 of a Signal.
use Rattle.std.proofs.Common.{◌≡◌, ◌∙◌, ◌<◌, ℕ, Bool, true, false, ◌&&◌, cond, find, if◌then◌else◌, List, [], ◌∷◌, length, bytes_eq, Option, Some, None, refl, sym, ap, ap₂, subst}
use Rattle.std.specs.Prelude.{slice_get}
use Rattle.std.specs.Ordering.{is_gt}
use Rattle.std.specs.Cmp.Lexicographic.{nat_list_cmp_total}
use Rattle.std.specs.List.{AllByRecursion, list_any}
use Rattle.std.proofs.Math.Bool.{or-false}
use Rattle.std.proofs.lemmas.Bool.{true≢false}
use Rattle.std.proofs.lemmas.Cmp.{nat_list_eq_equiv, tied_itself}
use Rattle.std.proofs.lemmas.Slice.Eq.{bytes_eq-Decides}
use Rattle.clu_tree.specs.declared.node.Node.{Node}
use Rattle.clu_tree.specs.declared.node.NodeKind.{NodeKind}
use Rattle.clu_tree.specs.declared.node.NodeKind.TheVariants as kind
use Rattle.clu_tree.specs.Nodes.{IsTree}
use Rattle.clu_parser.specs.Shape.{HaveForms}
use Rattle.clu_types.specs.CluType.{CluType, CluTypes, Signals}
use Rattle.clu_types.specs.declared.term.TypeId.{TypeId}
use Rattle.clu_types.specs.declared.term.Term.{Term}
use Rattle.clu_types.specs.Arena.{IsArena}
use Rattle.clu_syntax.specs.Kinds.{kind_at, is_type}
use Rattle.clu_syntax.specs.Rounds.{round_at}
use Rattle.clu_syntax.specs.Slots.{slots}
use Rattle.clu_syntax.specs.Splits.{is_of, leading, after_run, after_one, parts, children_of}
use Rattle.clu_syntax.specs.Syntax.{Identifier, TypeExpressions, Exceptions, exception_and}
use Rattle.clu_syntax.specs.Items.{Item, types_at, exceptions_at}
use Rattle.clu_syntax.specs.Nodes.{before, item_at, exception_of, routine_of}
use Rattle.clu_parts.specs.Slots.{IsPart, AreParts, AreBefore}
use Rattle.clu_parts.proofs.Fitting.{children_before}
use Rattle.clu_settle.proofs.Shapes.{all_parts, parts_of_first, before_after_one}
use Rattle.clu_meaning.specs.Scoping.{Scope}
use Rattle.clu_meaning.specs.Settling.{comes_after}
use Rattle.clu_meaning.specs.Programs.{HeadingType, Exception}
use Rattle.clu_meaning.specs.Resolving.{Place, heading_types, with_exception, exceptions_of}
use Rattle.clu_checking.specs.Specifications.{Specification}
use Rattle.clu_checking.specs.Files.{File, routine_at}
use Rattle.clu_checking.specs.Headings as headings
use Rattle.clu_checking.specs.Headings.{for_body, is_represented, place_at, types_by, signals_by, signals_inside}
use Rattle.clu_checking.specs.ExceptionRules as checking
use Rattle.clu_checking.specs.ExceptionRules.{is_failure, one_string, listed_objects, signals_of}
use Rattle.clu_bindings.specs.Inside.{type_inside}
use Rattle.clu_declares.proofs.Below.{before_is, item_there, same_kind}
use Rattle.clu_declares.proofs.Facts.{There, there, all_drop}
use Rattle.clu_head.specs.There.{is_there}
use Rattle.clu_name_rules.specs.declared.repeated.ListKind.TheVariants as list
use Rattle.clu_name_rules.specs.Words.{words_to}
use Rattle.clu_type_rules.specs.declared.known.Known.{Known}
use Rattle.clu_type_rules.specs.declared.routines.Parts.{Parts}
use Rattle.clu_type_rules.specs.Known as tables
use Rattle.clu_type_rules.specs.Routines.{child_of_kind, parts_in}
use Rattle.clu_type_rules.specs.Objects.{types_inside}
use Rattle.clu_type_rules.specs.ExceptionRules as of_tables
use Rattle.clu_type_rules.specs.ExceptionRules.{signals_in, first_named, exception_named}
use Rattle.clu_passes.specs.Bound.{IsExceptionKnown}
use Rattle.clu_passes.specs.FactTables.{IsType, AreTypes, IsResultKnown}
use Rattle.clu_passes.specs.Firsts.{AreItems}
use Rattle.clu_passes.specs.Routines.{StandInRoutines, AreParts as AreRoutineParts}
use Rattle.clu_passes.proofs.Constructed.{whole_run}
use Rattle.clu_passes.proofs.FactNodes as so
use Rattle.clu_passes.proofs.FirstItems.{word_found, item_is}
use Rattle.clu_passes.proofs.Fits.{AreWanted, fit_same, one_string_same}
use Rattle.clu_passes.proofs.Known.{is_known}
use Rattle.clu_passes.proofs.Leaving.{found}
use Rattle.clu_passes.proofs.Listed.{ItsName, its_name}
use Rattle.clu_passes.proofs.OwnPlaces.{there_is}
use Rattle.clu_passes.proofs.RoutineParts.{children_in, rest_of, signals_of_routine}
use Rattle.clu_passes.proofs.StandTwice.{all_names, exceptions_are}

-- ---- what a heading lists, by the exceptions that are written there

-- no name comes after itself
not_after : (a b : Identifier) → a ≡ b → comes_after a b ≡ false
not_after a b e = ap (comes_after a) (sym e) ∙ ap is_gt (tied_itself nat_list_cmp_total a)

module _ (name : Identifier) (place : Place) (seen : HeadingType → CluType) where
  abbrev listed_in : List Exception → Option CluTypes
  listed_in es = listed_objects (signals_by seen es) name

  listed_with : (e : Exception) (fs : List Exception) → listed_in (with_exception place e fs) ≡ (if bytes_eq e.name name then Some (types_by seen e.objects) else listed_in fs)
  listed_with e [] = refl
  listed_with e (f ∷ fs) = by (comes_after e.name f.name) refl (listed_with e fs)
    where
      later : (a b : Bool) → bytes_eq f.name name ≡ a → bytes_eq e.name name ≡ b → comes_after e.name f.name ≡ true → listed_in (with_exception place e fs) ≡ (if b then Some (types_by seen e.objects) else listed_in fs) →
          (if a then Some (types_by seen f.objects) else listed_in (with_exception place e fs)) ≡ (if b then Some (types_by seen e.objects) else (if a then Some (types_by seen f.objects) else listed_in fs))
      later true true f_is e_is after rest = absurd (true≢false (sym after ∙ not_after e.name f.name ((bytes_eq-Decides e.name name).0 e_is ∙ sym ((bytes_eq-Decides f.name name).0 f_is))))
      later true false f_is e_is after rest = refl
      later false true f_is e_is after rest = rest
      later false false f_is e_is after rest = rest

      by : (b : Bool) → comes_after e.name f.name ≡ b → listed_in (with_exception place e fs) ≡ (if bytes_eq e.name name then Some (types_by seen e.objects) else listed_in fs) →
          listed_in (if b then f ∷ with_exception place e fs else e ∷ f ∷ fs) ≡ (if bytes_eq e.name name then Some (types_by seen e.objects) else (if bytes_eq f.name name then Some (types_by seen f.objects) else listed_in fs))
      by true after rest = later (bytes_eq f.name name) (bytes_eq e.name name) refl refl after rest
      by false after rest = refl

  -- the first exception of the name counts
  listed_first : is_failure name ≡ false → (n : ℕ) (other : Identifier) (ts : TypeExpressions) (es : Exceptions) → listed_in (exceptions_of place (exception_and n other ts es)) ≡ (if bytes_eq other name then Some (types_by seen (heading_types place ts)) else listed_in (exceptions_of place es))
  listed_first no_failure n other ts es = by (is_failure other) refl
    where
      other_name : is_failure other ≡ true → bytes_eq other name ≡ false
      other_name is = same (bytes_eq other name) refl
        where
          same : (b : Bool) → bytes_eq other name ≡ b → b ≡ false
          same false e = refl
          same true e = absurd (true≢false (sym is ∙ ap is_failure ((bytes_eq-Decides other name).0 e) ∙ no_failure))

      by : (b : Bool) → is_failure other ≡ b → listed_in (if b then exceptions_of place es else with_exception place (record { name = other; objects = heading_types place ts }) (exceptions_of place es)) ≡ (if bytes_eq other name then Some (types_by seen (heading_types place ts)) else listed_in (exceptions_of place es))
      by true is = sym (ap (λ (b : Bool). if◌then◌else◌ {A = Option CluTypes} b (Some (types_by seen (heading_types place ts))) (listed_in (exceptions_of place es))) (other_name is))
      by false is = listed_with (record { name = other; objects = heading_types place ts }) (exceptions_of place es)

module _ (k : Known) (scope : Scope) (library : List Specification) (refused : List ℕ) where
  abbrev nodes : List Node
  nodes = k.tables.file.syntax.now

  abbrev f : File
  f = so.f k scope library refused

  abbrev terms : List Term
  terms = k.tables.types.now

  abbrev table : List (Option Parts)
  table = k.routines.now.parts.items

  abbrev words : List (List ℕ)
  words = words_to nodes (length nodes)

  abbrev items : ℕ → ℕ → Item
  items n = before n (item_at nodes)

  abbrev has_name : Identifier → ℕ → Bool
  has_name name c = is_of kind.Exc (kind_at nodes c) && list_any (bytes_eq name) (all_names nodes c)

  module _ (shaped : HaveForms nodes) (tree : IsTree nodes) (are : AreItems f k.tables) (stand : StandInRoutines f) (routines : AreRoutineParts f table) where
    -- types in the heading round a node
    abbrev Told : ℕ → List ℕ → Type 0
    Told n ts = AllByRecursion (IsResultKnown f k n) ts

    -- the first exception of the name in the heading's Signals
    found_in : (name : Identifier) → is_known words name ≡ true → (o : Option ℕ) → first_named k list.Exceptions o (of_tables.number_of k name) ≡ find (has_name name) (children_in nodes o)
    found_in name is None = refl
    found_in name is (Some s) =
        ap (first_named k list.Exceptions (Some s)) (word_found f k.tables are all_names kind.Exc list.Exceptions exceptions_are refl refl name is)
        ∙ item_is f k.tables are all_names kind.Exc list.Exceptions exceptions_are refl refl s name is

    -- none is listed, or one with these types
    abbrev IsListed : (ℕ → Item) → ℕ → Option ℕ → Option CluTypes → Type 0
    IsListed others n None None = Unit {0}
    IsListed others n (Some c) (Some ws) = AreWanted k (types_inside k others n (tables.children k c)) ws
    IsListed others n _ _ = ⊥

    module _ (others : ℕ → Item) (n r : ℕ) (round : (round_at f.rounds n).routine ≡ Some r) where
      abbrev seen : HeadingType → CluType
      seen = for_body (is_represented f r)

      abbrev place : Place
      place = place_at f r

      types_told : (c : ℕ) (ts : List ℕ) → AreParts nodes is_type c ts → Told n ts → AreWanted k (types_inside k others n ts) (types_by seen (heading_types place (types_at (items c) ts)))
      types_told c [] ps here = tt
      types_told c (t ∷ ts) ps here = (
        subst (λ (i : Item). IsType terms (type_inside k.tables.file others n t) (Some (headings.type_inside f r i.type))) (sym (before_is nodes c t ps.0.0)) (here.0 others r round),
        types_told c ts ps.1 here.1,
      )

      exception_told : (c : ℕ) → IsPart nodes (is_of kind.Exc) r c → Told n (tables.children k c) → AreWanted k (types_inside k others n (tables.children k c)) (types_by seen (heading_types place (items r c).exception.types))
      exception_told c p here =
          let x : There nodes c kind.Exc = there nodes c kind.Exc refl (same_kind kind.Exc (kind_at nodes c) p.1) in
          let kids : tables.children k c ≡ x.node.children = ap children_of x.at in
          let its : (items r c).exception.types ≡ types_at (items c) x.node.children =
          ap (λ (i : Item). i.exception.types) (before_is nodes r c p.0)
          ∙ ap (λ (i : Item). i.exception.types) (item_there nodes c x.node x.at)
          ∙ ap (λ (j : NodeKind). (exception_of (items c) nodes c x.node j).types) x.is in
          subst (λ (cs : List ℕ). AreWanted k (types_inside k others n cs) (types_by seen (heading_types place (items r c).exception.types))) (sym kids)
          (subst (λ (ts : TypeExpressions). AreWanted k (types_inside k others n x.node.children) (types_by seen (heading_types place ts))) (sym its)
          (types_told c x.node.children (all_parts nodes tree shaped is_type c x.node x.at (ap slots x.is)) (subst (Told n) kids here)))

      module _ (name : Identifier) (no_failure : is_failure name ≡ false) where
        abbrev written : List ℕ → Option CluTypes
        written es = listed_objects (signals_by seen (exceptions_of place (exceptions_at (items r) es))) name

        has_its : (c : ℕ) → IsPart nodes (is_of kind.Exc) r c → has_name name c ≡ bytes_eq (items r c).exception.name name
        has_its c p =
            let n : ItsName k scope library refused shaped tree are stand routines r c = its_name k scope library refused shaped tree are stand routines r c p in
            ap₂ (λ (a : Bool) (xs : List Identifier). a && list_any (bytes_eq name) xs) p.1 n.one
            ∙ or-false (bytes_eq name n.its)
            ∙ nat_list_eq_equiv.symm name n.its
            ∙ ap (λ (other : Identifier). bytes_eq other name) (sym n.written)

        listed_is : (es : List ℕ) → AreParts nodes (is_of kind.Exc) r es → ((c : ℕ) → find (has_name name) es ≡ Some c → Told n (tables.children k c)) → IsListed others n (find (has_name name) es) (written es)
        listed_is [] ps here = tt
        listed_is (c ∷ es) ps here =
            subst (IsListed others n (find (has_name name) (c ∷ es))) (sym (listed_first name place seen no_failure (items r c).exception.node (items r c).exception.name (items r c).exception.types (exceptions_at (items r) es)))
            (by (has_name name c) (bytes_eq (items r c).exception.name name) (has_its c ps.0) here (λ h. listed_is es ps.1 h))
          where
            by : (a b : Bool) → a ≡ b → ((d : ℕ) → cond a (Some c) (find (has_name name) es) ≡ Some d → Told n (tables.children k d)) → (((d : ℕ) → find (has_name name) es ≡ Some d → Told n (tables.children k d)) → IsListed others n (find (has_name name) es) (written es)) →
                IsListed others n (cond a (Some c) (find (has_name name) es)) (if b then Some (types_by seen (heading_types place (items r c).exception.types)) else written es)
            by true true e here rest = exception_told c ps.0 (here c refl)
            by true false e here rest = absurd (true≢false e)
            by false true e here rest = absurd (true≢false (sym e))
            by false false e here rest = rest here

    -- ---- the heading of the routine round a node

    by_routine : (others : ℕ → Item) (n : ℕ) (name : Identifier) → is_known words name ≡ true → is_failure name ≡ false → (o : Option ℕ) → (round_at f.rounds n).routine ≡ o →
        ((c : ℕ) → first_named k list.Exceptions (signals_in (parts_in table o)) (of_tables.number_of k name) ≡ Some c → Told n (tables.children k c)) →
        IsListed others n (first_named k list.Exceptions (signals_in (parts_in table o)) (of_tables.number_of k name)) (listed_objects (signals_of f (routine_at f o)) name)
    by_routine others n name is no_failure None e here = tt
    by_routine others n name is no_failure (Some r) e here =
        let at : is_there kind.Routine (slice_get nodes r) ≡ true = stand n r e in
        let x : There nodes r kind.Routine = there nodes r kind.Routine refl (same_kind kind.Routine (kind_at nodes r) (there_is kind.Routine refl (slice_get nodes r) ∙ at)) in
        let behind : List ℕ = after_one nodes kind.Results (rest_of nodes x.node.children) in
        let es : List ℕ = parts nodes kind.Signals behind in
        let before_r : AreBefore r behind =
        before_after_one nodes kind.Results r (rest_of nodes x.node.children)
        (all_drop (λ c. c < r) (leading nodes kind.Decl (after_run nodes kind.Parm x.node.children)) (after_run nodes kind.Parm x.node.children)
        (all_drop (λ c. c < r) (leading nodes kind.Parm x.node.children) x.node.children (children_before nodes tree r x.node x.at))) in
        let ps : AreParts nodes (is_of kind.Exc) r es = parts_of_first nodes tree shaped kind.Signals (is_of kind.Exc) refl r behind before_r in
        let heading : signals_of f (routine_at f (Some r)) ≡ signals_inside f r (exceptions_at (items r) es) =
        ap (λ (i : Item). signals_inside f i.routine.node i.routine.signals) (item_there nodes r x.node x.at)
        ∙ ap (λ (its : NodeKind). signals_inside f (routine_of (items r) nodes r x.node its).node (routine_of (items r) nodes r x.node its).signals) x.is
        ∙ ap (λ (cs : List ℕ). signals_inside f r (exceptions_at (items r) cs)) (whole_run nodes kind.Exc r es ps) in
        let top : signals_in (parts_in table (Some r)) ≡ child_of_kind nodes kind.Signals x.node.children =
        ap signals_in (found f stand table routines r at)
        ∙ ap (λ (its : Option Node). child_of_kind nodes kind.Signals (children_of its)) x.at in
        let code : first_named k list.Exceptions (signals_in (parts_in table (Some r))) (of_tables.number_of k name) ≡ find (has_name name) es =
        ap (λ (o : Option ℕ). first_named k list.Exceptions o (of_tables.number_of k name)) top
        ∙ found_in name is (child_of_kind nodes kind.Signals x.node.children)
        ∙ ap (find (has_name name)) (signals_of_routine nodes shaped tree r x) in
        subst (λ (o : Option ℕ). IsListed others n o (listed_objects (signals_of f (routine_at f (Some r))) name)) (sym code)
        (subst (λ (its : Signals). IsListed others n (find (has_name name) es) (listed_objects its name)) (sym heading)
        (listed_is others n r e name no_failure es ps (λ c at. here c (code ∙ at))))

    module _ (arena : IsArena terms) where
      listed_fits : (others : ℕ → Item) (n : ℕ) (gs : List (Option TypeId)) (ts : List (Option CluType)) → AreTypes terms gs ts → (o : Option ℕ) (ws : Option CluTypes) → IsListed others n o ws → checking.fits_listed f ts ws ≡ of_tables.fits_exception k others n gs o
      listed_fits others n gs ts are None None is = refl
      listed_fits others n gs ts are None (Some ws) is = absurd is
      listed_fits others n gs ts are (Some c) None is = absurd is
      listed_fits others n gs ts are (Some c) (Some ws) is = fit_same k gs ts are (types_inside k others n (tables.children k c)) ws is

      -- objects of these types fit the exception of this name
      pub fits_same : (others : ℕ → Item) (n : ℕ) (name : Identifier) → is_known words name ≡ true → IsExceptionKnown f k n name → (gs : List (Option TypeId)) (ts : List (Option CluType)) → AreTypes terms gs ts → checking.fits_heading f n name ts ≡ of_tables.fits_heading k others n name gs
      fits_same others n name is here gs ts are = by (is_failure name) refl
        where
          by : (b : Bool) → is_failure name ≡ b →
              checking.fits_listed f ts (if b then Some one_string else listed_objects (signals_of f (routine_at f (round_at f.rounds n).routine)) name) ≡ (if b then of_tables.is_one_string k gs else of_tables.fits_exception k others n gs (exception_named k n name))
          by true e = one_string_same k arena gs ts are
          by false e =
              listed_fits others n gs ts are (exception_named k n name) (listed_objects (signals_of f (routine_at f (round_at f.rounds n).routine)) name)
              (by_routine others n name is e (round_at f.rounds n).routine refl here)
