-- The operations that are noted for lowering are those that are invoked, where the tables note as invoked what the definitions say; and what
-- they note at each node of an accepted file.
use Rattle.std.proofs.Common.{◌≡◌, ◌∙◌, ◌+◌, ◌-◌, ◌^◌, ◌<◌, ◌++◌, ◌&&◌, if◌then◌else◌, ℕ, zero, suc, Bool, true, false, List, [], ◌∷◌, length, map, vec_items, Option, Some, None, refl, sym, ap, subst, arith}
use Rattle.std.specs.Prelude.{slice_get}
use Rattle.std.specs.Option.{option_map}
use Rattle.std.proofs.lemmas.Bool.{true≢false}
use Rattle.std.proofs.lemmas.List.{length-append}
use Rattle.clu_base.specs.declared.rules.Refused.{Refused}
use Rattle.clu_tree.specs.declared.node.Node.{Node}
use Rattle.clu_tree.specs.declared.node.NodeKind.{NodeKind}
use Rattle.clu_tree.specs.declared.node.NodeKind.TheVariants as kind
use Rattle.clu_tree.specs.Nodes.{modules}
use Rattle.clu_parser.specs.Trees.{Text}
use Rattle.clu_types.specs.CluType.{Actuals, CluType, cluster_of, no_actuals, stream_type}
use Rattle.clu_types.specs.Arena.{IsArena, PartsBelow, type_of, types_of}
use Rattle.clu_types.specs.declared.spec.Spec.{Spec}
use Rattle.clu_types.specs.declared.term.Term.{Term}
use Rattle.clu_types.specs.declared.term.Term.TheVariants as term
use Rattle.clu_types.specs.declared.term.TypeId.{TypeId}
use Rattle.clu_syntax.specs.Items.{Item}
use Rattle.clu_syntax.specs.Kinds.{is_expression, kind_at}
use Rattle.clu_syntax.specs.Nodes.{item_at}
use Rattle.clu_syntax.specs.Syntax.{Identifier}
use Rattle.clu_meaning.specs.Settling.{module_type}
use Rattle.clu_names.specs.Scopes.{is_stream}
use Rattle.clu_declares.specs.Declares.{AreFew, IsParsed}
use Rattle.clu_checking.specs.Specifications.{Specification, specification_told}
use Rattle.clu_checking.specs.Files.{File, kind_in}
use Rattle.clu_checking.specs.Invocations as wanting
use Rattle.clu_checking.specs.Invoked.{Invoked as Meant, if_object, invoked_in, of_builtin, of_cluster, of_module, stored}
use Rattle.clu_checking.specs.Refusals.{checked_file}
use Rattle.clu_checking.specs.Wanted.{wanted}
use Rattle.clu_bindings.specs.declared.file.File.{File as Read}
use Rattle.clu_bindings.specs.declared.file.Headed.{Headed}
use Rattle.clu_bindings.specs.Readers.{wanted_in}
use Rattle.clu_bindings.specs.Readers as read
use Rattle.clu_bindings.specs.Tables.{optional}
use Rattle.clu_bindings.specs.Wanted.{is_object_wanted}
use Rattle.clu_typing.specs.declared.applied.Applied.{Applied}
use Rattle.clu_typing.specs.declared.facts.Facts.{Facts}
use Rattle.clu_typing.specs.declared.facts.Invoked.{Invoked}
use Rattle.clu_typing.specs.declared.facts.Invoked.TheVariants as invoked
use Rattle.clu_typing.specs.Invoked as tables
use Rattle.clu_typing.specs.Nodes.{is_used, is_used_as}
use Rattle.clu_typing.specs.Pass.{AreKnown}
use Rattle.clu_typing.specs.Typing.{IsType}
use Rattle.clu_type_rules.specs.declared.known.Known.{Known}
use Rattle.clu_core.specs.declared.op_ref.OpRef.TheVariants as op
use Rattle.clu_passes.specs.InvokedSaid.{AreSaid, IsSaid, IsSaidIf}
use Rattle.clu_passes.specs.Lost.{lost}
use Rattle.clu_passes.specs.PassNoted.{IsKnownFile}
use Rattle.clu_passes.specs.Trees.{IsFileOfTree}
use Rattle.clu_passes.proofs.FactTypes.{IsTerm, term_of_type}
use Rattle.clu_passes.proofs.InvokedLater.{invoked_later}
use Rattle.clu_check_mod.specs.Answered.{IsFirst}
use Rattle.clu_check_mod.specs.Notes.{module_in, module_of_term, operation, operation_if}
use Rattle.clu_check_mod.specs.declared.walk.Extent.{Extent}
use Rattle.clu_checked.specs.Checked.{IsLibrary, IsOfGrammar, known, tabled}
use Rattle.clu_checked.specs.Noted.{IsOperation}
use Rattle.clu_checked.proofs.AcceptedNodes.{NoStream, is_setting}
use Rattle.clu_checked.proofs.FactsRight as facts_at
use Rattle.clu_checked.proofs.Filled.{heads, home_reps, told}
use Rattle.clu_checked.proofs.Told.{tabled_tree}
use Rattle.clu_checked.proofs.UnmetRight as unmet
use Rattle.clu_checked.proofs.Whole.{typed_arena}

-- ---- what is noted tells what is meant

-- the type of a module but `stream` is that of a cluster
module_cluster : (name : Identifier) (given : Actuals) → is_stream name ≡ false → module_type name given ≡ cluster_of name given
module_cluster name no_actuals e = ap (λ (b : Bool). if b then stream_type else cluster_of name no_actuals) e
module_cluster name _ e = refl

abbrev is_cluster : CluType → Bool
is_cluster (cluster_of name given) = true
is_cluster _ = false

-- the routine of a module, by what would be its type
abbrev as_module : CluType → Meant
as_module (cluster_of name given) = of_module name given
as_module _ = stored

module _ (terms : List Term) where
  abbrev types : List CluType
  types = types_of terms

  -- its term names the module and the actuals
  module_told : (name : Identifier) (given : Actuals) (its : Term) → PartsBelow (length terms) its → cluster_of name given ≡ type_of types its → IsOperation terms (module_of_term its) (Some (of_module name given))
  module_told name given (term.Cluster other list) parts e = (parts, ap (λ (t : CluType). Some (as_module t)) e)
  module_told name given _ parts e = absurd (true≢false (ap is_cluster e))

  module _ (arena : IsArena terms) (names : List (List ℕ)) where
    module_said : (of : TypeId) (name : Identifier) (given : Actuals) → IsType terms (Some of) (Some (module_type name given)) → is_stream name ≡ false → IsOperation terms (module_in (slice_get terms of.0)) (Some (of_module name given))
    module_said of name given is other =
        let its : IsTerm terms of (module_type name given) = term_of_type terms arena of (module_type name given) is.0 is.1 in
        subst (λ (o : Option Term). IsOperation terms (module_in o) (Some (of_module name given))) (sym its.there)
        (module_told name given its.its its.parts (sym (module_cluster name given other) ∙ its.is))

    operation_said : (its : Invoked) (i : Meant) → IsSaid terms names its i → NoStream (Some i) → IsOperation terms (operation terms names its) (Some i)
    operation_said (invoked.Builtin of id) i is plain =
        subst (λ (o : Option (List ℕ)). IsOperation terms (option_map (op.Builtin of) o) (Some i)) (sym is.3)
        (is.2.0, ap (λ (m : Meant). Some m) is.4 ∙ ap (λ (t : CluType). Some (of_builtin t is.1)) is.2.1)
    operation_said (invoked.Cluster of id) i is plain =
        subst (λ (o : Option (List ℕ)). IsOperation terms (option_map (op.Cluster of) o) (Some i)) (sym is.3)
        (is.2.0, ap (λ (m : Meant). Some m) is.4 ∙ ap (λ (t : CluType). Some (of_cluster t is.1)) is.2.1)
    operation_said (invoked.Parameter number id) i is plain =
        subst (λ (o : Option (List ℕ)). IsOperation terms (option_map (op.Param number) o) (Some i)) (sym is.1)
        (tt, ap (λ (m : Meant). Some m) is.2)
    operation_said (invoked.Module of) i is plain =
        subst (λ (m : Meant). IsOperation terms (module_in (slice_get terms of.0)) (Some m)) (sym is.3)
        (module_said of is.0 is.1 is.2 (subst (λ (m : Meant). NoStream (Some m)) is.3 plain))
    operation_said invoked.Stored i is plain = (tt, ap (λ (m : Meant). Some m) is)

    pub operation_told : (its : Option Invoked) (i : Option Meant) → IsSaidIf terms names its i → NoStream i → IsOperation terms (operation_if terms names its) i
    operation_told (Some its) (Some i) is plain = operation_said its i is plain
    operation_told (Some its) None is plain = absurd is
    operation_told None (Some i) is plain = absurd is
    operation_told None None is plain = refl

-- ---- at other nodes than expressions and assignments to components and elements nothing is noted, and nothing is meant

abbrev pub is_operating : NodeKind → Bool
is_operating kind.SetField = true
is_operating kind.SetIndex = true
is_operating k = is_expression k

pub operating : (k : NodeKind) → is_setting k ≡ false → is_operating k ≡ is_expression k
operating kind.SetField e = absurd (true≢false e)
operating kind.SetIndex e = absurd (true≢false e)
operating kind.File e = refl
operating _ e = refl

unused : (r : Read) (n : ℕ) (k : NodeKind) → is_operating k ≡ false → is_used_as r k n ≡ false
unused r n kind.SetField e = absurd (true≢false e)
unused r n kind.SetIndex e = absurd (true≢false e)
unused r n kind.File e = refl
unused r n _ e = ap (λ (b : Bool). b && is_object_wanted (wanted_in r n)) e

pub none_meant : (f : File) (n : ℕ) (k : NodeKind) → is_operating k ≡ false → invoked_in f k n ≡ None
none_meant f n kind.SetField e = absurd (true≢false e)
none_meant f n kind.SetIndex e = absurd (true≢false e)
none_meant f n kind.File e = refl
none_meant f n _ e = ap (λ (b : Bool). if_object f (b && wanting.is_object_wanted (wanted f n)) n) e

-- an item that is nothing behind others
none_behind : (xs : List (Option Invoked)) (o : Option Invoked) (n : ℕ) → optional (slice_get xs n) ≡ None → (n ≡ length xs → o ≡ None) → optional (slice_get (xs ++ o ∷ []) n) ≡ None
none_behind [] o zero e last = last refl
none_behind [] o (suc n) e last = refl
none_behind (x ∷ xs) o zero e last = e
none_behind (x ∷ xs) o (suc n) e last = none_behind xs o n e (λ at. last (omega (arith, at)))

module _ (h : Headed) (items : ℕ → Item) (first : List Term) where
  -- what is noted of the next node
  abbrev next_at : ℕ → List Term → Facts → Applied → Option Invoked
  next_at n terms before its = tables.invoked_at h.file terms before.invoked.items its n

  sized : (n : ℕ) (terms : List Term) (facts : Facts) → AreKnown h items first n terms facts → length facts.invoked.items ≡ n
  sized zero terms facts known = ap (λ (l : List (Option Invoked)). length l) known.invoked
  sized (suc n) terms facts known =
      let same : facts.invoked.items ≡ known.1.invoked.items ++ next_at n terms known.1 known.3.0 ∷ [] = ap vec_items known.3.3.invoked ∙ known.3.2.invoked in
      let count : length known.1.invoked.items ≡ n = sized n known.0 known.1 known.2 in
      ap (λ (l : List (Option Invoked)). length l) same ∙ (omega (arith, length-append known.1.invoked.items (next_at n terms known.1 known.3.0 ∷ []), count))

  none_next : (n : ℕ) (terms : List Term) (before : Facts) (its : Applied) → is_used h.file n ≡ false → next_at n terms before its ≡ None
  none_next n terms before its e = ap (λ (b : Bool). if◌then◌else◌ {A = Option Invoked} b (tables.invoked_as h.file terms before.invoked.items its (read.kind_in h.file n) n) None) e

  none_known : (n : ℕ) (terms : List Term) (facts : Facts) → AreKnown h items first n terms facts → (m : ℕ) → is_used h.file m ≡ false → optional (slice_get facts.invoked.items m) ≡ None
  none_known zero terms facts known m e = ap (λ (l : List (Option Invoked)). optional (slice_get l m)) known.invoked
  none_known (suc n) terms facts known m e =
      let count : length known.1.invoked.items ≡ n = sized n known.0 known.1 known.2 in
      ap (λ (l : List (Option Invoked)). optional (slice_get l m)) (ap vec_items known.3.3.invoked ∙ known.3.2.invoked)
      ∙ none_behind known.1.invoked.items (next_at n terms known.1 known.3.0) m (none_known n known.0 known.1 known.2 m e)
      (λ at. let same : m ≡ n = omega (arith, at, count) in none_next n terms known.1 known.3.0 (subst (λ (k : ℕ). is_used h.file k ≡ false) same e))

-- ---- of the file of which a check answers

module _ (t : Text) (nodes : List Node) (parsed : IsParsed t nodes) (library : List Spec) (asked : Extent) (first : Option Refused) (is : IsFirst nodes library asked first)
    (few : AreFew nodes is.rounds) (few_modules : length (modules nodes) + length library < 2 ^ 32 - 1) (grammar : IsOfGrammar nodes is.rounds) (kept : IsLibrary library) where
  abbrev k : Known
  k = known nodes library asked first is

  abbrev specs : List Specification
  specs = map specification_told library

  abbrev f : File
  f = tabled nodes library asked first is (map specification_told library)

  -- the file with its headings
  abbrev h : Headed
  h = is.is.is.headed

  abbrev checked : Read → File
  checked r = checked_file r.syntax.now r.rounds.now specs

  abbrev items : ℕ → Item
  items = item_at nodes

  tables_file : k.tables.file ≡ h.file
  tables_file = unmet.tables_file t nodes parsed library asked first is few few_modules

  known_file : IsKnownFile t h (checked h.file) items is.is.is.terms (lost (checked h.file))
  known_file =
      facts_at.known_file t nodes parsed library asked first is few few_modules
      (home_reps t nodes parsed library asked first is few few_modules grammar kept) (heads t nodes parsed library asked first is few few_modules grammar kept)
      (told t nodes parsed library asked first is few few_modules grammar kept) kept.components items

  tree : IsFileOfTree (checked h.file)
  tree = subst (λ (r : Read). IsFileOfTree (checked r)) tables_file (tabled_tree t nodes parsed library asked first is specs)

  noted : AreKnown h items is.is.is.terms (length h.file.syntax.now) is.is.is.is.terms is.is.is.is.facts
  noted = is.is.is.is.noted items

  abbrev SaidOf : Read → Facts → Type 0
  SaidOf r facts = AreSaid (checked r) k.tables.types.now facts (lost (checked r))

  -- where nothing is lost
  pub said : AreSaid f k.tables.types.now k.facts.now (lost f)
  said =
      subst (λ (r : Read). SaidOf r k.facts.now) (sym tables_file)
      (subst (SaidOf h.file) (sym is.is.is.is.is.asks.same)
      (invoked_later t h (checked h.file).scope specs (checked h.file).refused items is.is.is.terms (lost (checked h.file)) known_file tree is.is.is.is.terms is.is.is.is.facts
      (typed_arena t nodes parsed library asked first is few few_modules) noted k.tables.types.now is.is.is.is.is.asks.grows k.facts.now.finding
      (unmet.more t nodes parsed library asked first is few few_modules items (checked h.file).refused (lost (checked h.file)) known_file
      (unmet.actuals_right t nodes parsed library asked first is few few_modules (checked h.file).refused)).later.1))

  -- and where nothing can be invoked
  pub none_noted : (n : ℕ) → is_operating (kind_in f n) ≡ false → optional (slice_get k.facts.now.invoked.items n) ≡ None
  none_noted n e =
      ap (λ (facts : Facts). optional (slice_get facts.invoked.items n)) is.is.is.is.is.asks.same
      ∙ none_known h items is.is.is.terms (length h.file.syntax.now) is.is.is.is.terms is.is.is.is.facts noted n
      (unused h.file n (read.kind_in h.file n) (ap (λ (r : Read). is_operating (kind_at r.syntax.now n)) (sym tables_file) ∙ e))
