-- What is known of types, own types, facts and raises by the tables of which rules are asked, where nothing is lost: of the file that is read
-- before its headings (`IsFileRead`), and with more types.
use Rattle.std.proofs.Common.{◌≡◌, ◌∙◌, ℕ, ◌<◌, ◌≤◌, Bool, true, false, List, [], ◌∷◌, length, codes, is_some, Option, Some, None, refl, sym, ap, subst, arith}
use Rattle.std.specs.Prelude.{slice_get}
use Rattle.std.proofs.lemmas.Bool.{true≢false}
use Rattle.std.proofs.lemmas.Option.{slice_get_within}
use Rattle.clu_tree.specs.declared.node.Node.{Node}
use Rattle.clu_tree.specs.declared.node.NodeKind.TheVariants as kind
use Rattle.clu_parser.specs.Trees.{Text}
use Rattle.clu_types.specs.CluType.{CluType}
use Rattle.clu_types.specs.Arena.{Grows, IsArena, types_of}
use Rattle.clu_types.specs.declared.term.Term.{Term}
use Rattle.clu_types.specs.declared.term.TypeId.{TypeId}
use Rattle.clu_types.proofs.Carrying.{grows_on}
use Rattle.clu_syntax.specs.Items.{Item}
use Rattle.clu_syntax.specs.Kinds.{is_type, kind_of}
use Rattle.clu_declares.proofs.Around.{there as node_at}
use Rattle.clu_declares.proofs.Facts.{there}
use Rattle.clu_meaning.specs.Scoping.{Scope}
use Rattle.clu_checking.specs.Specifications.{Specification}
use Rattle.clu_checking.specs.Files.{File, declaration, equate_named, equate_of, declaring_node, item, kind_in, round, scope_in}
use Rattle.clu_checking.specs.Headings as headings
use Rattle.clu_checking.specs.Headings.{own_type}
use Rattle.clu_checking.specs.Refusals.{is_no_type_at}
use Rattle.clu_checking.specs.Typing as typing
use Rattle.clu_names.specs.declared.scopes.Declared.{Declared}
use Rattle.clu_bindings.specs.declared.file.File.{File as Read}
use Rattle.clu_bindings.specs.declared.file.Headed.{Headed}
use Rattle.clu_bindings.specs.Inside as bound
use Rattle.clu_bindings.specs.Inside.{declared_at, rep_at, type_inside}
use Rattle.clu_name_rules.specs.declared.tables.Tables.{Tables}
use Rattle.clu_operations.specs.Wished.{AreHeads}
use Rattle.clu_typing.specs.declared.facts.Facts.{Facts}
use Rattle.clu_typing.specs.Pass.{AreKnown, HaveRows, IsSound}
use Rattle.clu_typing.specs.Raises.{raised_told}
use Rattle.clu_typing.specs.Sets.{HaveSame}
use Rattle.clu_typing.proofs.Rows.{known_rows}
use Rattle.clu_type_rules.specs.declared.known.Known.{Known}
use Rattle.clu_type_rules.specs.ExpressionRules.{is_equate}
use Rattle.clu_passes.specs.Ascending.{SpecificationsAscend}
use Rattle.clu_passes.specs.Bound.{AreInside, IsInsideKnown}
use Rattle.clu_passes.specs.Clear.{IsClear}
use Rattle.clu_passes.specs.ConstantTables.{AreWantedKnown, IsIndexKnown, file_with}
use Rattle.clu_passes.specs.FactTables.{AreFacts, AreOwnTypes, IsResultKnown, IsType, typed}
use Rattle.clu_passes.specs.FoundTold.{TellHeads}
use Rattle.clu_passes.specs.KnownFiles.{IsFileRead, IsRepFine}
use Rattle.clu_passes.specs.Lost.{first_read, is_cvt_at, lost}
use Rattle.clu_passes.specs.Made.{IsWhole}
use Rattle.clu_passes.specs.Notes.{HaveParents}
use Rattle.clu_passes.specs.OthersKnown.{IsFine, IsTypeFine}
use Rattle.clu_passes.specs.PassNoted.{IsKnownFile}
use Rattle.clu_passes.specs.Raised.{raises_of}
use Rattle.clu_passes.specs.Reps.{IsAtHome}
use Rattle.clu_passes.specs.Trees.{IsFileOfTree}
use Rattle.clu_passes.proofs.FileKnown as files
use Rattle.clu_passes.proofs.InsideKnown as inside
use Rattle.clu_passes.proofs.LostKnown as known_at
use Rattle.clu_passes.proofs.LostNodes.{clear_kept, no_cvt, not_later, plain_itself}
use Rattle.clu_passes.proofs.NodeTyped.{type_grown}
use Rattle.clu_passes.proofs.NodesNoted as noted
use Rattle.clu_passes.proofs.RaisesNoted.{raises_same}
use Rattle.clu_passes.proofs.RepsSaid.{rep_equated}
use Rattle.clu_passes.proofs.RowsKnown.{ordered}
use Rattle.clu_passes.proofs.Subtrees.{is_subtree}
use Rattle.clu_passes.proofs.TablesMade.{tables_are}
use Rattle.clu_passes.proofs.ValuesKnown as values_at
use Rattle.clu_passes.proofs.Within.{forest_goes_on}

-- nothing is lost where nothing is refused, no `cvt` stands and no brackets are read
pub fine_kept : (f : File) (of : IsFileOfTree f) (parents : HaveParents f) (n : ℕ) → n < length f.nodes → IsFine f n → lost f n ≡ false
fine_kept f of parents n less fine =
    let clear : IsClear f n = record {
      low = (round f n).first;
      from = record { own = omega arith; brackets = λ p up is. absurd (fine.outside.beside p up is); above = λ p q up over is. absurd (fine.outside.above p q up over is) };
      clear = λ m low before. fine.below m low (omega (arith, before));
    } in
    let begins : (round f n).first ≤ first_read f n = not_later f of parents n (round f n).first clear.from in
    clear_kept f of parents n less clear (λ m low high. fine.plain m (omega (arith, low, begins)) high) (plain_itself f n (itself begins))
  where
    itself : (round f n).first ≤ first_read f n → is_no_type_at f n ≡ false
    itself begins =
        let x = node_at f.nodes n less in
        fine.below n (forest_goes_on f.nodes (round f n).first n x.0.children (is_subtree f.nodes f.rounds of.tree of.surrounded of.ordered n x.0 x.1)) (omega arith)

module _ (t : Text) (h : Headed) (its : Tables) (library : List Specification) (refused : List ℕ) (is : IsFileRead t h its library refused) where
  abbrev r : Read
  r = h.file

  abbrev tables : Tables
  tables = record its { file = h.file }

  abbrev f : File
  f = file_with h.file (scope_in h.file.syntax.now h.file.rounds.now) library refused

  abbrev scope : Scope
  scope = scope_in h.file.syntax.now h.file.rounds.now

  abbrev terms : List Term
  terms = its.types.now

  abbrev of : IsFileOfTree f
  of = values_at.of_tree t tables library refused (is.whole refused).made (is.whole refused).lost

  abbrev parents : HaveParents f
  parents = values_at.parents t tables library refused (is.whole refused).made (is.whole refused).lost

  -- the file of other tables, if these are the same
  abbrev pub F : Read → File
  F r = file_with r (scope_in r.syntax.now r.rounds.now) library refused

  -- ---- what stands where the rules ask, with the types of this arena

  module _ (new : List Term) (grows : Grows terms new) where
    abbrev pub AreTypesInside : Read → Type 0
    AreTypesInside r = (items : ℕ → Item) (n c : ℕ) → is_type (kind_in (F r) c) ≡ true → lost (F r) c ≡ false → IsType new (type_inside r items n c) (Some (headings.type_inside (F r) n (item (F r) c).type))

    pub types_inside : AreTypesInside h.file
    types_inside items n c of_type fine =
        type_grown terms new grows (type_inside r items n c) (Some (headings.type_inside f n (item f c).type))
        (inside.plain_inside t h its library refused is items n n c of_type (no_cvt f c fine) (known_at.type_value t tables library refused (is.whole refused) c fine of_type))

    -- the `rep` that counts at a type is that at a node in the same cluster
    rep_there : (n c : ℕ) → IsTypeFine f n c → is_cvt_at f c ≡ true → IsRepFine f r n
    rep_there n c fine hit =
        inside.rep_fine t h its library refused is refused n
        (λ e m named low less. fine.rep hit e m (ap (λ (o : Option Declared). equate_of f (declaring_node f o)) (fine.home hit).rep ∙ named) low (omega (arith, less)))

    abbrev pub AreVariablesInside : Read → Type 0
    AreVariablesInside r = (n c : ℕ) → n < length (F r).nodes → IsTypeFine (F r) n c → (items : ℕ → Item) → IsType new (type_inside r items n c) (Some (headings.type_inside (F r) n (item (F r) c).type))

    pub variables_inside : AreVariablesInside h.file
    variables_inside n c less fine items =
        type_grown terms new grows (type_inside r items n c) (Some (headings.type_inside f n (item f c).type))
        (inside.inside_told t h its library refused is refused items n n c less fine.typed (λ hit. (fine.home hit, fine.home hit)) fine.below (λ hit. rep_there n c fine hit))

    abbrev pub AreResultsInside : Read → Type 0
    AreResultsInside r = (n c : ℕ) → n < length (F r).nodes → IsTypeFine (F r) n c → (items : ℕ → Item) (m : ℕ) → (round (F r) n).routine ≡ Some m → IsType new (type_inside r items n c) (Some (headings.type_inside (F r) m (item (F r) c).type))

    pub results_inside : AreResultsInside h.file
    results_inside n c less fine items m has =
        let routine : IsAtHome f n m = is.routines n m has in
        type_grown terms new grows (type_inside r items n c) (Some (headings.type_inside f m (item f c).type))
        (inside.inside_told t h its library refused is refused items n m c less fine.typed
        (λ hit. (fine.home hit, record { cluster = (fine.home hit).cluster ∙ sym routine.cluster; rep = (fine.home hit).rep ∙ sym routine.rep }))
        fine.below (λ hit. rep_there n c fine hit))

    abbrev pub AreOwnThere : Read → Type 0
    AreOwnThere r = (n : ℕ) → IsType new (bound.own_type r n) (own_type (F r) n)

    pub own_there : AreOwnThere h.file
    own_there n = type_grown terms new grows (bound.own_type r n) (own_type f n) (files.own_typed t h its library refused is n)

    abbrev pub AreRepresented : Read → Type 0
    AreRepresented r = (n : ℕ) → n < length (F r).nodes → lost (F r) n ≡ false → IsType new (bound.representation h n) (typing.representation (F r) n)

    pub represented_there : AreRepresented h.file
    represented_there n less fine = type_grown terms new grows (bound.representation h n) (typing.representation f n) (inside.represented t h its library refused is n less)

  abbrev pub AreRepsEquated : Read → Type 0
  AreRepsEquated r = (n : ℕ) → n < length (F r).nodes → is_equate (declared_at r (rep_at r n)) ≡ is_some (equate_named (F r) n (codes "rep"))

  pub reps_equated : AreRepsEquated h.file
  reps_equated =
      rep_equated t r library refused (is.whole refused).made.file.parsed (is.whole refused).made.file.rounds (is.whole refused).made.file.few (is.whole refused).made.file.names (is.whole refused).made.file.bindings

  abbrev pub AreKept : Read → Type 0
  AreKept r = (n : ℕ) → n < length (F r).nodes → IsFine (F r) n → lost (F r) n ≡ false

  pub kept_there : AreKept h.file
  kept_there = fine_kept f of parents

  abbrev pub AreWantedThere : Read → Type 0
  AreWantedThere r = AreWantedKnown r (lost (F r))

  pub wanted_there : AreWantedThere h.file
  wanted_there = known_at.wanted_there t tables library refused (is.whole refused)

  -- ---- of all nodes

  module _ (first : List Term) (grows : Grows terms first) (heads : AreHeads h (length first)) (told : (new : List Term) → Grows first new → TellHeads h f (types_of new)) (ascending : SpecificationsAscend library) (items : ℕ → Item) where
    known : IsKnownFile t h f items first (lost f)
    known = files.file_known t h its library refused is first grows heads told ascending items

    module _ (last : List Term) (facts : Facts) (arena : IsArena last) (noted_all : AreKnown h items first (length h.file.syntax.now) last facts) where
      pub facts_there : AreFacts f last facts (lost f)
      facts_there =
          noted.facts_told t h scope library refused known.parsed known.library items first known.types known.heads (lost f) known.below known.names known.wanted last facts arena noted_all

      -- what each node raises, by the tables of this arena
      module _ (last_whole : IsWhole t (record its { file = h.file; types = record its.types { now = last } }) library refused) (later : Grows first last) (sound : IsSound h last facts) where
        abbrev last_tables : Tables
        last_tables = record its { types = record its.types { now = last } }

        rows : HaveRows h items (length h.file.syntax.now) last facts
        rows = known_rows h items first (ordered h (is.whole refused).made.file.parsed.tree) (length h.file.syntax.now) last facts noted_all arena known.types

        pub raises_there : (n : ℕ) → n < length h.file.syntax.now → lost f n ≡ false → HaveSame (raised_told last facts n) (raises_of f n)
        raises_there =
            raises_same t h scope library refused items first (lost f) known last_tables
            (tables_are t (record last_tables { file = h.file }) library refused last_whole.made) facts later sound
            (λ n fine. facts_there.types n fine)
            (λ n fine. index_there n fine) rows
          where
            index_there : (n : ℕ) → lost f n ≡ false → IsIndexKnown h.file n
            index_there n fine e = let x = there h.file.syntax.now n kind.Index refl e in known_at.index_known t tables library refused (is.whole refused) n fine (slice_get_within h.file.syntax.now n x.node x.at) e
