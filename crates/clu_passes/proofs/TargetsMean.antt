-- What the names to which a node assigns mean is what the table says.
use Rattle.std.proofs.Common.{◌≡◌, ◌∙◌, ℕ, Bool, true, false, List, [], ◌∷◌, map, Option, Some, None, slice_get, refl, ap, sym, subst}
use Rattle.std.proofs.lemmas.Bool.{true≢false}
use Rattle.std.proofs.lemmas.Option.{slice_get_within}
use Rattle.clu_tree.specs.declared.node.Node.{Node}
use Rattle.clu_tree.specs.declared.node.NodeKind.{NodeKind}
use Rattle.clu_tree.specs.declared.node.NodeKind.TheVariants as kind
use Rattle.clu_parser.specs.Trees.{Text}
use Rattle.clu_syntax.specs.Kinds.{kind_at, kind_of}
use Rattle.clu_syntax.specs.Rounds.{AreRounds}
use Rattle.clu_syntax.specs.Syntax.{Identifier}
use Rattle.clu_names.specs.declared.scopes.Declared.{Declared}
use Rattle.clu_names.specs.Denotes.{bound_at, found, names_in}
use Rattle.clu_names.specs.Scopes.{declarations}
use Rattle.clu_meaning.specs.Scoping as means
use Rattle.clu_checking.specs.Specifications.{Specification}
use Rattle.clu_checking.specs.Files.{File, meaning, names, node_names, scope_in}
use Rattle.clu_settle.specs.Names.{names_of}
use Rattle.clu_declares.specs.Declares.{AreFew, IsParsed}
use Rattle.clu_bindings.specs.declared.file.File.{File as Read}
use Rattle.clu_bindings.specs.declared.meaning.Meaning.{Meaning}
use Rattle.clu_bindings.specs.declared.meaning.ModuleId.{ModuleId}
use Rattle.clu_bindings.specs.Bindings.{AreBindings}
use Rattle.clu_bindings.specs.Declaring as table
use Rattle.clu_bindings.specs.Modules.{named}
use Rattle.clu_type_rules.specs.declared.known.Known.{Known}
use Rattle.clu_type_rules.specs.Bindings.{meanings}
use Rattle.clu_passes.specs.Bound.{AllMean, AreTargets, is_assigning}
use Rattle.clu_passes.specs.ConstantTables.{file_with}
use Rattle.clu_passes.specs.Tables.{AreNames}
use Rattle.clu_passes.proofs.NamesMean.{bound_there, meanings_there, meant_more, meant_none, name_means}

used : (node : Node) (k : NodeKind) → is_assigning k ≡ true → names_in k node ≡ node.names
used node kind.Assign is = refl
used node kind.For is = refl
used node _ is = absurd (true≢false (sym is))

module _ (t : Text) (k : Known) (library : List Specification) (refused : List ℕ) (parsed : IsParsed t k.tables.file.syntax.now) (are : AreRounds k.tables.file.syntax.now k.tables.file.rounds.now) (few : AreFew k.tables.file.syntax.now k.tables.file.rounds.now)
    (its_names : AreNames (file_with k.tables.file (scope_in k.tables.file.syntax.now k.tables.file.rounds.now) library refused) k.tables.file.names.now)
    (tables : AreBindings k.tables.file.syntax.now k.tables.file.rounds.now k.tables.file.names.now k.tables.file.values.now k.tables.file.bindings.now) where
  abbrev r : Read
  r = k.tables.file

  abbrev nodes : List Node
  nodes = k.tables.file.syntax.now

  abbrev ds : List Declared
  ds = declarations k.tables.file.syntax.now k.tables.file.rounds.now

  abbrev f : File
  f = file_with k.tables.file (scope_in k.tables.file.syntax.now k.tables.file.rounds.now) library refused

  abbrev of : Identifier → Option ModuleId
  of = named k.tables.file.bindings.now.modules

  abbrev declared : List Meaning
  declared = k.tables.file.bindings.now.declared.items

  abbrev Mean : ℕ → List Identifier → List Meaning → Type 0
  Mean n its ms = AllMean nodes ms (map (λ name. meaning f n name) its)

  each_means : (n : ℕ) (its : List Identifier) → Mean n its (table.meant_of of declared (map (λ name. found ds name n) its) its)
  each_means n [] = subst (Mean n []) (sym (meant_none of declared [])) tt
  each_means n (name ∷ its) =
      subst (Mean n (name ∷ its)) (sym (meant_more of declared (found ds name n) (map (λ name. found ds name n) its) (name ∷ its)))
      (name_means t r library refused parsed are few its_names tables n name (Some name), each_means n its)

  pub targets_mean : AreTargets f k
  targets_mean n is = by (slice_get nodes n) refl
    where
      by : (o : Option Node) → slice_get nodes n ≡ o → Mean n (names f n) (meanings k n)
      by None at = absurd (true≢false (sym is ∙ ap (λ (o : Option Node). is_assigning (kind_of o)) at))
      by (Some node) at =
          let its : names f n ≡ node.names = ap (node_names f) at in
          let bound : bound_at ds n (slice_get nodes n) ≡ map (λ name. found ds name n) node.names =
          ap (bound_at ds n) at ∙ ap (map (λ name. found ds name n)) (used node node.kind (sym (ap (λ (o : Option Node). is_assigning (kind_of o)) at) ∙ is)) in
          let there : meanings k n ≡ table.meant_of of declared (map (λ name. found ds name n) node.names) node.names =
          meanings_there t r library refused parsed are few its_names tables n (slice_get_within nodes n node at)
          ∙ ap (λ (bs : List (Option ℕ)). table.meant_of of declared bs (names_of (slice_get nodes n))) (bound_there t r library refused parsed are few its_names tables n ∙ bound)
          ∙ ap (λ (o : Option Node). table.meant_of of declared (map (λ name. found ds name n) node.names) (names_of o)) at in
          subst (Mean n (names f n)) (sym there)
          (subst (λ (its : List Identifier). Mean n its (table.meant_of of declared (map (λ name. found ds name n) node.names) node.names)) (sym its) (each_means n node.names))
