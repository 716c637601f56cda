-- What the rules read of types, facts and raises at nodes at which nothing is lost is what the definitions say, of the tables of which a check
-- answers.
use Rattle.std.proofs.Common.{◌≡◌, ◌∙◌, ◌+◌, ◌-◌, ◌^◌, ◌<◌, ℕ, Bool, true, false, List, [], codes, length, map, is_some, Option, Some, None, inl, refl, sym, ap, subst, append-nil}
use Rattle.std.specs.Prelude.{slice_get}
use Rattle.std.proofs.lemmas.Bool.{true≢false}
use Rattle.std.proofs.lemmas.Option.{slice_get_within}
use Rattle.clu_base.specs.declared.rules.Refused.{Refused}
use Rattle.clu_tree.specs.declared.node.Node.{Node}
use Rattle.clu_tree.specs.Nodes.{modules}
use Rattle.clu_parser.specs.Trees.{Text}
use Rattle.clu_types.specs.declared.spec.Spec.{Spec}
use Rattle.clu_types.specs.declared.term.Term.{Term}
use Rattle.clu_types.specs.Arena.{Grows, IsArena, types_of}
use Rattle.clu_types.proofs.Carrying.{grows_on}
use Rattle.clu_syntax.specs.declared.round.Round.{Round}
use Rattle.clu_syntax.specs.Items.{Item}
use Rattle.clu_grammar.specs.Kinds.{is_statement}
use Rattle.clu_syntax.specs.Kinds.{is_type, kind_of}
use Rattle.clu_syntax.specs.Nodes.{item_at}
use Rattle.clu_checking.specs.Specifications.{Specification, specification_told}
use Rattle.clu_checking.specs.Files.{File, equate_named, is_refused, item, kind_in, round}
use Rattle.clu_checking.specs.Raising as definition
use Rattle.clu_checking.specs.Raising.{by_statement}
use Rattle.clu_checking.specs.Headings as headings
use Rattle.clu_checking.specs.Typing as typing
use Rattle.clu_checking.specs.Refusals.{checked_file}
use Rattle.clu_declares.specs.Declares.{AreFew, IsParsed}
use Rattle.clu_head.specs.Modules.{AreHeadsOf}
use Rattle.clu_head.specs.Refused.{grows_in}
use Rattle.clu_bindings.specs.declared.file.File.{File as Read}
use Rattle.clu_bindings.specs.declared.file.Headed.{Headed}
use Rattle.clu_bindings.specs.Inside as bound
use Rattle.clu_bindings.specs.Inside.{declared_at, rep_at, type_inside}
use Rattle.clu_bindings.specs.Owned.{AreOwned}
use Rattle.clu_settle.specs.declared.value.Value.{Value}
use Rattle.clu_settle.specs.Values.{AreWithin}
use Rattle.clu_name_rules.specs.declared.tables.Tables.{Tables}
use Rattle.clu_operations.specs.Wished.{AreHeads}
use Rattle.clu_typing.specs.declared.facts.Facts.{Facts}
use Rattle.clu_typing.specs.Facts.{raised_at}
use Rattle.clu_typing.specs.Pass.{AreKnown, IsSound}
use Rattle.clu_typing.specs.Raises.{raised_told}
use Rattle.clu_typing.specs.Raising as raising
use Rattle.clu_typing.specs.Sets.{HaveSame}
use Rattle.clu_typing.proofs.Growing.{follows_refl, right_still, same_set_told}
use Rattle.clu_typing.proofs.Passing.{once_distinct}
use Rattle.clu_type_rules.specs.declared.known.Known.{Known}
use Rattle.clu_type_rules.specs.Askers.{FindsOn, with_finding}
use Rattle.clu_type_rules.specs.ExpressionRules.{is_equate}
use Rattle.clu_type_rules.specs.Needs.{world}
use Rattle.clu_passes.specs.Ascending.{SpecificationsAscend}
use Rattle.clu_passes.specs.Bound.{AreInside, IsInsideKnown}
use Rattle.clu_passes.specs.Clear.{IsOutside}
use Rattle.clu_passes.specs.ConstantTables.{AreWantedKnown}
use Rattle.clu_passes.specs.FactTables.{AreFacts, AreOwnTypes, IsResultKnown, IsType}
use Rattle.clu_passes.specs.FoundTold.{TellHeads}
use Rattle.clu_passes.specs.KnownFiles.{AreCvtsKnown, AreRoutinesAtHome, IsFileRead}
use Rattle.clu_passes.specs.Libraries.{HoldAscending}
use Rattle.clu_passes.specs.Lost.{lost}
use Rattle.clu_passes.specs.Made.{IsWhole}
use Rattle.clu_passes.specs.Notes.{HaveParents}
use Rattle.clu_passes.specs.OthersKnown.{IsFine, IsTypeFine}
use Rattle.clu_passes.specs.PassNoted.{IsKnownFile}
use Rattle.clu_passes.specs.Raised.{raises_of}
use Rattle.clu_passes.specs.Reps.{AreReps, AreVariableTypes}
use Rattle.clu_passes.specs.TableRaises.{AreRaises}
use Rattle.clu_passes.specs.Trees.{IsFileOfTree}
use Rattle.clu_passes.proofs.CvtsKnown.{cvts_known}
use Rattle.clu_passes.proofs.FileKnown.{file_known}
use Rattle.clu_passes.proofs.HeadNumbers.{numbered}
use Rattle.clu_passes.proofs.InsideTold as told_at
use Rattle.clu_passes.proofs.OthersReps.{reps_there}
use Rattle.clu_passes.proofs.RepsAtHome.{routines_home}
use Rattle.clu_passes.proofs.RowsSets.{set_judged, statement_raises}
use Rattle.clu_passes.proofs.ValuesKnown as known_at
use Rattle.clu_passes.proofs.VariableTypes.{variable_types}
use Rattle.clu_check_mod.specs.Answered as answered
use Rattle.clu_check_mod.specs.Answered.{IsFirst}
use Rattle.clu_check_mod.specs.declared.walk.Extent.{Extent}
use Rattle.clu_checked.specs.Checked.{known, tabled, tables}
use Rattle.clu_checked.proofs.TypesRight.{refused_right}
use Rattle.clu_checked.proofs.UnmetRight as unmet
use Rattle.clu_checked.proofs.Whole.{first_arena, last_grown, tables_whole, typed_arena}

module _ (t : Text) (nodes : List Node) (parsed : IsParsed t nodes) (library : List Spec) (asked : Extent) (first : Option Refused) (is : IsFirst nodes library asked first)
    (few : AreFew nodes is.rounds) (few_modules : length (modules nodes) + length library < 2 ^ 32 - 1) where
  abbrev specs : List Specification
  specs = map specification_told library

  abbrev k : Known
  k = known nodes library asked first is

  -- the file with its headings
  abbrev h : Headed
  h = is.is.is.headed

  abbrev before : List Term
  before = is.is.is.terms

  abbrev terms : List Term
  terms = is.is.is.is.terms

  abbrev facts : Facts
  facts = is.is.is.is.facts

  abbrev last : List Term
  last = is.is.is.is.is.known.tables.types.now

  -- the file as it is checked, by the tables of one that is read
  abbrev pub checked : Read → File
  checked r = checked_file r.syntax.now r.rounds.now specs

  abbrev gone : List ℕ
  gone = (checked h.file).refused

  -- ---- the tables before types are refused, and with the types of all nodes

  abbrev its : Tables
  its = tables nodes library asked first is

  abbrev with_heads : Tables
  with_heads = record its { file = h.file }

  heads_are : answered.AreTables with_heads is.is.file is.is.lists is.is.is.long
  heads_are = record {
    file_is = is.is.is.file_is;
    long_types = is.is.is.tables.long_types;
    long_constants = is.is.is.tables.long_constants;
    circular = is.is.is.tables.circular;
    own = is.is.is.tables.own;
    words = is.is.is.tables.words;
    items = is.is.is.tables.items;
  }

  abbrev with_types : Tables
  with_types = record its { file = h.file; types = record its.types { now = terms } }

  types_are : answered.AreTables with_types is.is.file is.is.lists is.is.is.long
  types_are = record {
    file_is = is.is.is.file_is;
    long_types = is.is.is.tables.long_types;
    long_constants = is.is.is.tables.long_constants;
    circular = is.is.is.tables.circular;
    own = is.is.is.tables.own;
    words = is.is.is.tables.words;
    items = is.is.is.tables.items;
  }

  to_terms : Grows is.is.types terms
  to_terms = grows_on is.is.types before terms is.is.is.grows is.is.is.is.grows

  first_whole : (refused : List ℕ) → IsWhole t with_heads specs refused
  first_whole =
      tables_whole t nodes parsed library asked first is few few_modules with_heads heads_are
      ([], is.is.is.types_are ∙ sym (append-nil is.is.types))
      (subst IsArena (sym is.is.is.types_are) (first_arena t nodes parsed library asked first is few few_modules))

  types_whole : (refused : List ℕ) → IsWhole t with_types specs refused
  types_whole = tables_whole t nodes parsed library asked first is few few_modules with_types types_are to_terms (typed_arena t nodes parsed library asked first is few few_modules)

  -- ---- nodes that are refused

  abbrev CountBy : List Node → List Round → List ℕ → Type 0
  CountBy ns rs counts = (n : ℕ) → n < length ns → IsOutside (checked_file ns rs specs) n → is_refused (checked_file ns rs specs) n ≡ grows_in counts (slice_get rs n) n

  counted : CountBy h.file.syntax.now h.file.rounds.now h.refused.now
  counted =
      subst (λ (r : Read). CountBy r.syntax.now r.rounds.now h.refused.now) (sym is.is.is.file_is)
      (subst (λ (ns : List Node). CountBy ns is.is.file.rounds.now h.refused.now) (sym is.is.nodes_are)
      (subst (λ (rs : List Round). CountBy nodes rs h.refused.now) (sym is.is.rounds_are)
      (subst (λ (other : Headed). CountBy nodes is.rounds other.refused.now) is.is.is.is.is.headed_is
      (λ n inside apart. refused_right t nodes parsed library asked first is few few_modules (item_at nodes) n inside apart))))

  -- ---- own types

  abbrev OwnedBy : Read → List Term → Type 0
  OwnedBy r ts = AreOwned ts r.values.now r.syntax.now (length r.syntax.now) r.bindings.now.own.items

  owned : OwnedBy h.file its.types.now
  owned =
      subst (OwnedBy h.file) (sym is.is.is.types_are)
      (subst (λ (r : Read). OwnedBy r is.is.types) (sym is.is.is.file_is)
      (subst (λ (ns : List Node). AreOwned is.is.types is.is.file.values.now ns (length ns) is.is.file.bindings.now.own.items) (sym is.is.nodes_are)
      (subst (λ (vs : List Value). AreOwned is.is.types vs nodes (length nodes) is.is.file.bindings.now.own.items) (sym is.is.values) is.is.own)))

  -- ---- the numbers that stand in heads

  pub heads_there : HoldAscending library → AreHeads h (length before)
  heads_there held =
      numbered h h.file.names.now.declared.items is.is.is.refused is.is.types before is.is.is.grows (length h.file.constants.now)
      (subst (λ (ts : List Term). AreWithin (length ts) (length h.file.constants.now) h.file.values.now) is.is.is.types_are (first_whole []).made.file.values.within)
      (subst (λ (r : Read). HoldAscending r.library.now) (sym is.is.is.file_is) (subst HoldAscending (sym is.is.library_is) held))
      (subst (λ (r : Read). AreHeadsOf r.syntax.now r.rounds.now r.names.now.declared.items r.values.now is.is.is.refused is.is.types before h.heads.now) (sym is.is.is.file_is) is.is.is.heads)

  -- ---- what the grammar says of `rep`, and what heads tell

  module _ (reps : AreReps (checked h.file))
      (heads : AreHeads h (length before)) (told : (new : List Term) → Grows before new → TellHeads h (checked h.file) (types_of new)) (ascending : SpecificationsAscend specs) (items : ℕ → Item) where
    of_tree : IsFileOfTree (checked h.file)
    of_tree = known_at.of_tree t with_heads specs gone (first_whole gone).made (first_whole gone).lost

    parents : HaveParents (checked h.file)
    parents = known_at.parents t with_heads specs gone (first_whole gone).made (first_whole gone).lost

    routines : AreRoutinesAtHome (checked h.file)
    routines = routines_home (checked h.file) of_tree parents refl reps

    variables : AreVariableTypes (checked h.file) h.file
    variables = variable_types t (record k { tables = with_heads }) specs gone (first_whole gone) (reps_there t (checked h.file) (first_whole gone).made.file.parsed of_tree parents refl reps)

    cvts : AreCvtsKnown (checked h.file) h its.types.now
    cvts = cvts_known t h its specs gone (first_whole gone) owned reps

    read : IsFileRead t h its specs gone
    read = record { whole = first_whole; refused_are = refl; counts = counted; owned = owned; variables = variables; routines = routines; reps = reps; cvts = cvts }

    -- the types of the headings are some of these
    first_grown : Grows its.types.now before
    first_grown = subst (λ (ts : List Term). Grows ts before) (sym is.is.is.types_are) is.is.is.grows

    to_last : Grows its.types.now last
    to_last = subst (λ (ts : List Term). Grows ts last) (sym is.is.is.types_are) (last_grown t nodes parsed library asked first is few few_modules)

    pub known_file : IsKnownFile t h (checked h.file) items before (lost (checked h.file))
    known_file = file_known t h its specs gone read before first_grown heads told ascending items

    -- what is so of the file is so of that whose tables the rules read
    to_tables : (P : Read → Type 0) → P h.file → P k.tables.file
    to_tables P = subst P (sym (unmet.tables_file t nodes parsed library asked first is few few_modules))

    -- ---- facts

    facts_there : AreFacts (checked h.file) last k.facts.now (lost (checked h.file))
    facts_there =
        unmet.facts_kept t nodes parsed library asked first is few few_modules items gone (lost (checked h.file)) known_file (unmet.actuals_right t nodes parsed library asked first is few few_modules gone)

    pub facts_right : AreFacts (tabled nodes library asked first is specs) last k.facts.now (lost (tabled nodes library asked first is specs))
    facts_right = to_tables (λ r. AreFacts (checked r) last k.facts.now (lost (checked r))) facts_there

    pub wanted_right : AreWantedKnown k.tables.file (lost (tabled nodes library asked first is specs))
    wanted_right = to_tables (λ r. AreWantedKnown r (lost (checked r))) (told_at.wanted_there t h its specs gone read)

    -- ---- types

    pub inside_right : AreInside (tabled nodes library asked first is specs) k (lost (tabled nodes library asked first is specs))
    inside_right = record {
      types = to_tables (λ r. (items : ℕ → Item) (n c : ℕ) → is_type (kind_in (checked r) c) ≡ true → lost (checked r) c ≡ false → IsType last (type_inside r items n c) (Some (headings.type_inside (checked r) n (item (checked r) c).type)))
          (told_at.types_inside t h its specs gone read last to_last);
    }

    pub variables_right : (n c : ℕ) → n < length (tabled nodes library asked first is specs).nodes → IsTypeFine (tabled nodes library asked first is specs) n c → IsInsideKnown (tabled nodes library asked first is specs) k n c
    variables_right =
        to_tables (λ r. (n c : ℕ) → n < length (checked r).nodes → IsTypeFine (checked r) n c → (items : ℕ → Item) → IsType last (type_inside r items n c) (Some (headings.type_inside (checked r) n (item (checked r) c).type)))
        (told_at.variables_inside t h its specs gone read last to_last)

    pub results_right : (n c : ℕ) → n < length (tabled nodes library asked first is specs).nodes → IsTypeFine (tabled nodes library asked first is specs) n c → IsResultKnown (tabled nodes library asked first is specs) k n c
    results_right =
        to_tables (λ r. (n c : ℕ) → n < length (checked r).nodes → IsTypeFine (checked r) n c → (items : ℕ → Item) (m : ℕ) → (round (checked r) n).routine ≡ Some m → IsType last (type_inside r items n c) (Some (headings.type_inside (checked r) m (item (checked r) c).type)))
        (told_at.results_inside t h its specs gone read last to_last)

    pub own_right : AreOwnTypes (tabled nodes library asked first is specs) k (lost (tabled nodes library asked first is specs))
    own_right = record {
      own = to_tables (λ r. (n : ℕ) → IsType last (bound.own_type r n) (headings.own_type (checked r) n)) (told_at.own_there t h its specs gone read last to_last);
      reps = to_tables (λ r. (n : ℕ) → n < length (checked r).nodes → is_equate (declared_at r (rep_at r n)) ≡ is_some (equate_named (checked r) n (codes "rep"))) (told_at.reps_equated t h its specs gone read);
      represented =
          subst (λ (other : Headed). (n : ℕ) → n < length (tabled nodes library asked first is specs).nodes → lost (tabled nodes library asked first is specs) n ≡ false → IsType last (bound.representation other n) (typing.representation (tabled nodes library asked first is specs) n)) (sym is.is.is.is.is.headed_is)
          (to_tables (λ r. (n : ℕ) → n < length (checked r).nodes → lost (checked r) n ≡ false → IsType last (bound.representation h n) (typing.representation (checked r) n)) (told_at.represented_there t h its specs gone read last to_last));
    }

    pub kept_right : (n : ℕ) → n < length (tabled nodes library asked first is specs).nodes → IsFine (tabled nodes library asked first is specs) n → lost (tabled nodes library asked first is specs) n ≡ false
    kept_right = to_tables (λ r. (n : ℕ) → n < length (checked r).nodes → IsFine (checked r) n → lost (checked r) n ≡ false) (told_at.kept_there t h its specs gone read)

    -- ---- raises

    arena : IsArena terms
    arena = typed_arena t nodes parsed library asked first is few few_modules

    noted : AreKnown h items before (length h.file.syntax.now) terms facts
    noted = is.is.is.is.noted items

    sound : IsSound h terms facts
    sound = is.is.is.is.sound known_file.types arena

    more : FindsOn h (world terms facts.finding) (world last k.facts.now.finding)
    more = unmet.more t nodes parsed library asked first is few few_modules items gone (lost (checked h.file)) known_file (unmet.actuals_right t nodes parsed library asked first is few few_modules gone)

    abbrev later : Facts
    later = with_finding facts k.facts.now.finding

    same_facts : later ≡ k.facts.now
    same_facts = sym is.is.is.is.is.asks.same

    raises_told : (n : ℕ) → n < length h.file.syntax.now → lost (checked h.file) n ≡ false → HaveSame (raised_told terms facts n) (raises_of (checked h.file) n)
    raises_told = told_at.raises_there t h its specs gone read before first_grown heads told ascending items terms facts arena noted (types_whole gone) is.is.is.is.grows sound

    -- with the types and names of the last tables
    raises_later : (n : ℕ) → n < length h.file.syntax.now → lost (checked h.file) n ≡ false → HaveSame (raised_told last later n) (raises_of (checked h.file) n)
    raises_later n inside fine =
        subst (λ (l : List definition.Raise). HaveSame l (raises_of (checked h.file) n))
        (sym (same_set_told terms last facts.finding.words k.facts.now.finding.words facts.raising facts.raising is.is.is.is.is.asks.grows more.later.1.words (follows_refl facts.raising) sound.right (raised_at facts n) (sound.sets n)))
        (raises_told n inside fine)

    right_later : raising.AreRaises last later.finding.words later.raising
    right_later =
        right_still terms last facts.finding.words k.facts.now.finding.words facts.raising facts.raising is.is.is.is.is.asks.grows more.later.1.words (follows_refl facts.raising) sound.right
        (once_distinct k.facts.now.finding.words more.finding.once) (λ set there. inl there) (λ types there. inl there) (λ of set there. inl there) (λ sets set there. inl there)

    abbrev AreRaisesOf : Read → Type 0
    AreRaisesOf r = AreRaises (checked r) k (lost (checked r))

    raises_there : AreRaisesOf h.file
    raises_there n statement fine =
        set_judged k (subst (λ (fs : Facts). raising.AreRaises last fs.finding.words fs.raising) same_facts right_later) (raised_at k.facts.now n)
        (subst (λ (fs : Facts). raising.IsSet fs.raising (raised_at fs n)) same_facts (sound.sets n))
        (by_statement (checked h.file) (item (checked h.file) n).statement)
        (subst (λ (xs : List definition.Raise). HaveSame (raised_told last k.facts.now n) xs) (statement_raises (checked h.file) n statement)
        (subst (λ (fs : Facts). HaveSame (raised_told last fs n) (raises_of (checked h.file) n)) same_facts (raises_later n (inside_there (slice_get h.file.syntax.now n) refl) fine)))
      where
        inside_there : (o : Option Node) → slice_get h.file.syntax.now n ≡ o → n < length h.file.syntax.now
        inside_there None at = absurd (true≢false (sym statement ∙ ap (λ (o : Option Node). is_statement (kind_of o)) at))
        inside_there (Some node) at = slice_get_within h.file.syntax.now n node at

    pub raises_right : AreRaises (tabled nodes library asked first is specs) k (lost (tabled nodes library asked first is specs))
    raises_right = to_tables AreRaisesOf raises_there
