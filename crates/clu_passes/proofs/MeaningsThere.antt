-- The table of names says which names that no declaration declares are those of the library's modules.
use Rattle.std.proofs.Common.{◌≡◌, ◌∙◌, ℕ, suc, ◌-◌, ◌^◌, ◌<◌, Bool, true, false, if◌then◌else◌, List, [], ◌∷◌, length, map, option_map, Option, Some, None, slice_get, is_some, refl, ap, sym, subst, arith}
use Rattle.std.proofs.lemmas.List.{length-map}
use Rattle.std.proofs.lemmas.Option.{slice_get_within}
use Rattle.clu_base.specs.declared.rules.Rule.TheVariants as rule
use Rattle.clu_tree.specs.declared.node.Node.{Node}
use Rattle.clu_tree.specs.declared.node.NodeKind.{NodeKind}
use Rattle.clu_tree.specs.declared.node.NodeKind.TheVariants as kind
use Rattle.clu_parser.specs.Trees.{Text}
use Rattle.clu_types.specs.declared.term.Term.{Term}
use Rattle.clu_syntax.specs.Syntax.{Identifier}
use Rattle.clu_names.specs.declared.scopes.Declared.{Declared}
use Rattle.clu_names.specs.Denotes.{bound_at, found, names_in}
use Rattle.clu_names.specs.Scopes.{declarations, equate_names, is_stream}
use Rattle.clu_checking.specs.Specifications.{Specification, specification_in}
use Rattle.clu_checking.specs.Files.{File, is_kept, scope_in}
use Rattle.clu_checking.specs.Headings.{or_kept, own_specifications, specification}
use Rattle.clu_settle.specs.Names.{names_of}
use Rattle.clu_bindings.specs.declared.bindings.ModuleKnown.{ModuleKnown}
use Rattle.clu_bindings.specs.declared.file.File.{File as Read}
use Rattle.clu_bindings.specs.declared.meaning.Meaning.{Meaning}
use Rattle.clu_bindings.specs.declared.meaning.ModuleId.{ModuleId}
use Rattle.clu_bindings.specs.Declaring as table
use Rattle.clu_bindings.specs.Modules.{module_id, modules_in, named, place_from}
use Rattle.clu_bindings.specs.Readers.{known_in}
use Rattle.clu_bindings.specs.Tables.{items_at}
use Rattle.clu_type_rules.specs.Asked.{is_asked}
use Rattle.clu_passes.specs.ConstantTables.{file_with}
use Rattle.clu_passes.specs.Legal.{AreLegalKnown}
use Rattle.clu_passes.specs.Made.{IsMade}
use Rattle.clu_passes.specs.Tables.{AreMeanings, AreMeant, MeansModule}
use Rattle.clu_passes.proofs.Marked.{none_there}
use Rattle.clu_passes.proofs.ModuleMeant.{none_own, same_module}
use Rattle.clu_passes.proofs.ModulesSaid.{AreSame, PlaceSays, first_known, found_known, place_says}
use Rattle.clu_passes.proofs.Nameless.{nameless}
use Rattle.clu_passes.proofs.NamesMean.{bound_there, meanings_there, meant_more}

-- ---- options

some_there : {X : Type 0} (xs : List X) (i : ℕ) → i < length xs → is_some (slice_get xs i) ≡ true
some_there {X = X} xs i less = by (slice_get xs i) refl
  where
    by : (o : Option X) → slice_get xs i ≡ o → is_some o ≡ true
    by None at = absurd (none_there xs i less at)
    by (Some x) at = refl

some_mapped : (place : Option ℕ) → is_some (option_map module_id place) ≡ is_some place
some_mapped None = refl
some_mapped (Some k) = refl

some_placed : (ms : List (Identifier × ModuleKnown)) (place : Option ℕ) (o : Option ModuleKnown) → PlaceSays 0 ms place o → is_some place ≡ is_some o
some_placed ms None o e = sym (ap is_some e)
some_placed ms (Some j) o (i, e, l, at) =
    let size : length (map (λ (m : Identifier × ModuleKnown). m.1) ms) ≡ length ms = length-map ms (λ (m : Identifier × ModuleKnown). m.1) in
    sym (ap is_some (sym at) ∙ some_there (map (λ (m : Identifier × ModuleKnown). m.1) ms) i (omega (arith, l, size)))

some_same : (P : Type 0) (o : Option ModuleKnown) (s : Option Specification) → AreSame P o s → is_some o ≡ is_some s
some_same P (Some k) (Some s) same = refl
some_same P (Some k) None same = absurd same
some_same P None (Some s) same = absurd same
some_same P None None same = refl

module _ (t : Text) (r : Read) (library : List Specification) (refused : List ℕ) (types : List Term) (made : IsMade t r library refused types) where
  abbrev nodes : List Node
  nodes = r.syntax.now

  abbrev f : File
  f = file_with r (scope_in r.syntax.now r.rounds.now) library refused

  abbrev ds : List Declared
  ds = declarations r.syntax.now r.rounds.now

  abbrev of : Identifier → Option ModuleId
  of = named r.bindings.now.modules

  abbrev all : List (Identifier × ModuleKnown)
  all = modules_in types r.values.now nodes r.library.now

  few_all : length all < 2 ^ 32 - 1
  few_all =
      let size : length r.bindings.now.modules.known.items ≡ length all = ap length made.modules.known ∙ length-map all (λ (m : Identifier × ModuleKnown). m.1) in
      let few : length r.bindings.now.modules.known.items < 2 ^ 32 - 1 = made.few_modules in
      omega (arith, size, few)

  -- ---- one name

  known_there : (name : Identifier) → is_stream name ≡ false → is_some (of name) ≡ is_some (known_in r (of name))
  known_there name e =
      ap is_some (made.modules.named name ∙ ap (λ (s : Bool). if◌then◌else◌ {A = Option ModuleId} s None (option_map module_id (place_from 0 all name))) e)
      ∙ some_mapped (place_from 0 all name)
      ∙ some_placed all (place_from 0 all name) (first_known all name) (place_says 0 all name)
      ∙ sym (ap is_some (found_known r all made.modules few_all name false e))

  kept_there : (n : ℕ) (name : Identifier) → found ds name n ≡ None → is_stream name ≡ false → is_some (of name) ≡ is_kept f name
  kept_there n name unbound e =
      known_there name e
      ∙ some_same (AreLegalKnown f r.values.now) (known_in r (of name)) (specification f name) (same_module t r library refused types made.arena made.values made.parsed made.rounds made.few made.names made.bindings made.kept made.modules made.few_modules name)
      ∙ ap is_some (ap (λ (s : Bool). if◌then◌else◌ {A = Option Specification} s None (or_kept f (specification_in (own_specifications f) name) name)) e
      ∙ ap (λ (o : Option Specification). or_kept f o name) (none_own t r library refused types made.arena made.values made.parsed made.rounds made.few made.names made.bindings made.kept made.modules made.few_modules n name unbound e))

  one_means : (n : ℕ) (name : Identifier) (o : Option ℕ) → found ds name n ≡ o → MeansModule f name o (table.meant_by of r.bindings.now.declared.items o (Some name))
  one_means n name None at = λ e. kept_there n name at e
  one_means n name (Some place) at = tt

  -- ---- the names of a node

  all_mean : (n : ℕ) (its : List Identifier) → AreMeant f its (map (λ name. found ds name n) its) (table.meant_of of r.bindings.now.declared.items (map (λ name. found ds name n) its) its)
  all_mean n [] = tt
  all_mean n (name ∷ its) =
      subst (AreMeant f (name ∷ its) (map (λ name. found ds name n) (name ∷ its))) (sym (meant_more of r.bindings.now.declared.items (found ds name n) (map (λ name. found ds name n) its) (name ∷ its)))
      (one_means n name (found ds name n) refl, all_mean n its)

  none_mean : (its : List Identifier) (ms : List Meaning) → AreMeant f its [] ms
  none_mean [] ms = tt
  none_mean (name ∷ its) ms = tt

  unnamed_mean : (bounds : List (Option ℕ)) (ms : List Meaning) → AreMeant f [] bounds ms
  unnamed_mean bounds ms = tt

  -- the names of a node that denote are all of them, or it has none
  abbrev Fits : List Identifier → List Identifier → Type 0
  Fits its used = (n : ℕ) → AreMeant f its (map (λ name. found ds name n) used) (table.meant_of of r.bindings.now.declared.items (map (λ name. found ds name n) used) its)

  whole : (its : List Identifier) → Fits its its
  whole its n = all_mean n its

  equate_fits : (its : List Identifier) (value : List ℕ) → Fits its (equate_names its value)
  equate_fits [] value n = tt
  equate_fits (name ∷ its) value n = all_mean n (name ∷ its)

  no_names : (its : List Identifier) → Fits its []
  no_names its n = none_mean its (table.meant_of of r.bindings.now.declared.items [] its)

  simple_fits : (its used : List Identifier) → its ≡ [] → Fits its used
  simple_fits [] used e n = tt
  simple_fits (name ∷ its) used e n = let size : suc (length its) ≡ 0 = ap length e in absurd (omega (arith, size))

  by_kind : (k : NodeKind) (node : Node) → (is_asked k rule.LiteralRange ≡ false → node.names ≡ []) → Fits node.names (names_in k node)
  by_kind kind.Simple node none_of = simple_fits node.names (names_in kind.Simple node) (none_of refl)
  by_kind kind.Equate node none_of = equate_fits node.names node.value
  by_kind kind.Routine node none_of = whole node.names
  by_kind kind.Parm node none_of = whole node.names
  by_kind kind.Restrict node none_of = whole node.names
  by_kind kind.TypeSet node none_of = whole node.names
  by_kind kind.Own node none_of = whole node.names
  by_kind kind.Decl node none_of = whole node.names
  by_kind kind.NameT node none_of = whole node.names
  by_kind kind.Init node none_of = whole node.names
  by_kind kind.Assign node none_of = whole node.names
  by_kind kind.For node none_of = whole node.names
  by_kind kind.TagArm node none_of = whole node.names
  by_kind kind.Others node none_of = whole node.names
  by_kind kind.Name node none_of = whole node.names
  by_kind kind.File node none_of = no_names node.names
  by_kind _ node none_of = no_names node.names

  abbrev SaysAt : ℕ → Option Node → List Meaning → Type 0
  SaysAt n o ms = AreMeant f (names_of o) (bound_at ds n o) ms

  pub meanings_are : AreMeanings f r.names.now r.bindings.now.meanings.items
  meanings_are n = by (slice_get nodes n) refl
    where
      by : (o : Option Node) → slice_get nodes n ≡ o → SaysAt n (slice_get nodes n) (items_at r.bindings.now.meanings.items r.names.now.starts.items n)
      by None at = subst (λ (o : Option Node). SaysAt n o (items_at r.bindings.now.meanings.items r.names.now.starts.items n)) (sym at) (unnamed_mean [] (items_at r.bindings.now.meanings.items r.names.now.starts.items n))
      by (Some node) at =
          let told : items_at r.bindings.now.meanings.items r.names.now.starts.items n ≡ table.meant_of of r.bindings.now.declared.items (bound_at ds n (Some node)) node.names =
          meanings_there t r library refused made.parsed made.rounds made.few made.names made.bindings n (slice_get_within nodes n node at)
          ∙ ap (λ (bs : List (Option ℕ)). table.meant_of of r.bindings.now.declared.items bs (names_of (slice_get nodes n))) (bound_there t r library refused made.parsed made.rounds made.few made.names made.bindings n)
          ∙ ap (λ (o : Option Node). table.meant_of of r.bindings.now.declared.items (bound_at ds n o) (names_of o)) at in
          subst (λ (o : Option Node). SaysAt n o (items_at r.bindings.now.meanings.items r.names.now.starts.items n)) (sym at)
          (subst (SaysAt n (Some node)) (sym told) (by_kind node.kind node (nameless nodes made.parsed.forms n node at) n))
