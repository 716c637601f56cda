-- The name of a Name, or of a type by its name, is that of a module just if the table has one for it.
use Rattle.std.proofs.Common.{◌≡◌, ◌∙◌, ℕ, suc, ◌-◌, ◌^◌, ◌<◌, ◌≤◌, ◌&&◌, ◌||◌, not, Bool, true, false, cond, if◌then◌else◌, List, [], ◌∷◌, length, map, ◌++◌, Option, Some, None, slice_get, is_some, option_map, refl, ap, sym, arith}
use Rattle.std.specs.Prelude.{bytes_eq}
use Rattle.std.proofs.Math.Bool.{and_assoc}
use Rattle.clu_tree.specs.declared.node.Node.{Node}
use Rattle.clu_tree.specs.declared.node.NodeKind.{NodeKind}
use Rattle.clu_tree.specs.declared.node.NodeKind.TheVariants as kind
use Rattle.clu_parser.specs.Trees.{Text}
use Rattle.clu_types.specs.declared.term.Term.{Term}
use Rattle.clu_types.specs.Arena.{IsArena}
use Rattle.clu_syntax.specs.declared.round.Round.{Round}
use Rattle.clu_syntax.specs.Enough.{least_names}
use Rattle.clu_syntax.specs.Rounds.{AreRounds}
use Rattle.clu_syntax.specs.Kinds.{kind_at}
use Rattle.clu_syntax.specs.Splits.{is_of}
use Rattle.clu_syntax.specs.Syntax.{Identifier}
use Rattle.clu_syntax.specs.Nodes.{file_of}
use Rattle.clu_names.specs.Scopes.{is_stream}
use Rattle.clu_names.specs.Denotes.{names_in}
use Rattle.clu_checking.specs.Specifications.{Specification, specification_in, specification_told}
use Rattle.clu_checking.specs.Files.{File, scope_in, meaning, is_kept, is_own_module, is_of_module}
use Rattle.clu_checking.specs.Headings.{own_specifications, or_kept}
use Rattle.clu_checking.specs.Wanted.{first_name_at}
use Rattle.clu_settle.specs.Settled.{AreSettled}
use Rattle.clu_declares.specs.Declares.{IsParsed, AreFew}
use Rattle.clu_declares.proofs.Facts.{root_parts, top}
use Rattle.clu_bindings.specs.declared.file.File.{File as Read}
use Rattle.clu_bindings.specs.declared.bindings.ModuleKnown.{ModuleKnown}
use Rattle.clu_bindings.specs.declared.meaning.ModuleId.{ModuleId}
use Rattle.clu_bindings.specs.Bindings.{AreBindings}
use Rattle.clu_bindings.specs.Modules.{named, module_id, place_from, AreModules, modules_in}
use Rattle.clu_bindings.specs.Readers.{module_in}
use Rattle.clu_passes.specs.Bound.{TellModules, TellTypeModules}
use Rattle.clu_passes.specs.ConstantTables.{file_with}
use Rattle.clu_passes.specs.Legal.{AreLegalKnown}
use Rattle.clu_passes.specs.Tables.{AreNames}
use Rattle.clu_passes.proofs.FileModules.{modules_are, root}
use Rattle.clu_passes.proofs.ModuleMeant.{and_if, denotes_same, file_is, module_is, of_first, own_found}
use Rattle.clu_passes.proofs.ModulesSaid.{AreAlike, all_alike, kept_more}
use Rattle.clu_passes.proofs.NamesMean.{is_module_meant}

-- ---- the first of a name

known_place : (o : Option ℕ) → is_some (option_map module_id o) ≡ is_some o
known_place None = refl
known_place (Some j) = refl

place_alike : (P : Type 0) (k : ℕ) (ms : List (Identifier × ModuleKnown)) (ss : List Specification) → AreAlike P ms ss → (name : Identifier) → is_some (place_from k ms name) ≡ is_some (specification_in ss name)
place_alike P k [] [] a name = refl
place_alike P k [] (s ∷ ss) a name = absurd a
place_alike P k (m ∷ ms) [] a name = absurd a
place_alike P k (m ∷ ms) (s ∷ ss) a name =
    ap (λ (x : Identifier). is_some (if bytes_eq x name then Some k else place_from (suc k) ms name)) a.0.name
    ∙ by (bytes_eq s.name name) (place_from (suc k) ms name) (specification_in ss name) (place_alike P (suc k) ms ss a.1 name)
  where
    by : (b : Bool) (x : Option ℕ) (y : Option Specification) → is_some x ≡ is_some y → is_some (if b then Some k else x) ≡ is_some (cond b (Some s) y)
    by true x y same = refl
    by false x y same = same

or_kept_some : (f : File) (o : Option Specification) (name : Identifier) → is_some (or_kept f o name) ≡ (is_some o || is_kept f name)
or_kept_some f (Some s) name = refl
or_kept_some f None name = refl

some_if : (b : Bool) (o : Option ModuleId) → is_some (if b then o else None) ≡ (if b then is_some o else false)
some_if true o = refl
some_if false o = refl

module _ (t : Text) (r : Read) (library : List Specification) (refused : List ℕ) (types : List Term) (arena : IsArena types) (known : AreSettled r.syntax.now (scope_in r.syntax.now r.rounds.now) types r.constants.now r.values.now)
    (parsed : IsParsed t r.syntax.now) (are : AreRounds r.syntax.now r.rounds.now) (few : AreFew r.syntax.now r.rounds.now) (its_names : AreNames (file_with r (scope_in r.syntax.now r.rounds.now) library refused) r.names.now)
    (tables : AreBindings r.syntax.now r.rounds.now r.names.now r.values.now r.bindings.now) (kept : library ≡ map specification_told r.library.now) (there_are : AreModules r.bindings.now.modules (modules_in types r.values.now r.syntax.now r.library.now))
    (few_modules : length r.bindings.now.modules.known.items < 2 ^ 32 - 1) where
  abbrev nodes : List Node
  nodes = r.syntax.now

  abbrev rounds : List Round
  rounds = r.rounds.now

  abbrev f : File
  f = file_with r (scope_in r.syntax.now r.rounds.now) library refused

  abbrev of : Identifier → Option ModuleId
  of = named r.bindings.now.modules

  abbrev all : List (Identifier × ModuleKnown)
  all = modules_in types r.values.now r.syntax.now r.library.now

  alike : AreAlike (AreLegalKnown f r.values.now) all (own_specifications f ++ library)
  alike =
      all_alike t r (scope_in r.syntax.now r.rounds.now) library refused types arena known parsed are tables (top t nodes rounds parsed are) (root t nodes rounds parsed are).children (root_parts t nodes rounds parsed are).0 (modules_are t nodes rounds parsed are)
      (file_is t r library refused types arena known parsed are few its_names tables kept there_are few_modules) kept there_are few_modules

  -- ---- by names

  named_by : (name : Identifier) (b : Bool) → is_stream name ≡ b → is_some (of name) ≡ (not b && (is_own_module f name || is_kept f name))
  named_by name true s = ap is_some (there_are.named name ∙ ap (λ (b : Bool). if b then None else option_map module_id (place_from 0 all name)) s)
  named_by name false s =
      ap is_some (there_are.named name ∙ ap (λ (b : Bool). if b then None else option_map module_id (place_from 0 all name)) s)
      ∙ known_place (place_from 0 all name)
      ∙ place_alike (AreLegalKnown f r.values.now) 0 all (own_specifications f ++ library) alike name
      ∙ sym (ap is_some (kept_more f (own_specifications f) name))
      ∙ or_kept_some f (specification_in (own_specifications f) name) name
      ∙ ap (λ (b : Bool). b || is_kept f name) (own_found f (file_of nodes) name)

  -- ---- the name of a node

  told : (n : ℕ) (node : Node) (name : Identifier) (rest : List Identifier) → slice_get nodes n ≡ Some node → names_in node.kind node ≡ name ∷ rest → slice_get node.names 0 ≡ Some name → is_some (module_in r n) ≡ is_of_module f n name
  told n node name rest at e first =
      ap is_some (module_is t r library refused types arena known parsed are few its_names tables kept there_are few_modules n name node rest at e first)
      ∙ some_if (is_module_meant (meaning f n name)) (of name)
      ∙ sym (and_if (is_module_meant (meaning f n name)) (is_some (of name)))
      ∙ ap (λ (b : Bool). is_module_meant (meaning f n name) && b) (named_by name (is_stream name) refl)
      ∙ sym (and_assoc (is_module_meant (meaning f n name)) (not (is_stream name)) (is_own_module f name || is_kept f name))
      ∙ ap (λ (b : Bool). (b && not (is_stream name)) && (is_own_module f name || is_kept f name)) (sym (denotes_same f (meaning f n name)))

  -- ---- by kinds of nodes

  told_at : (n : ℕ) (k : NodeKind) → 1 ≤ least_names k → ((node : Node) → names_in k node ≡ node.names) → is_of k kind.File ≡ false → kind_at nodes n ≡ k → is_some (module_in r n) ≡ is_of_module f n (first_name_at f n)
  told_at n k least used other is = of_first f parsed.forms (λ (name : Identifier). is_some (module_in r n) ≡ is_of_module f n name) n k least used other is (told n)

  pub modules_told : TellModules f r
  modules_told n is = told_at n kind.Name (omega arith) (λ node. refl) refl is

  pub type_modules_told : TellTypeModules f r
  type_modules_told n is = told_at n kind.NameT (omega arith) (λ node. refl) refl is
