-- The types of variables, at each node at which a variable is named first, are where the rules read them.
use Rattle.std.proofs.Common.{◌≡◌, ◌∙◌, ℕ, ◌<◌, List, [], ◌∷◌, get_or, length, map, Option, Some, None, refl, sym, ap, subst}
use Rattle.std.specs.Prelude.{slice_get}
use Rattle.std.proofs.lemmas.Option.{none-some, same_Some}
use Rattle.clu_tree.specs.declared.node.Node.{Node}
use Rattle.clu_parser.specs.Trees.{Text}
use Rattle.clu_syntax.specs.Syntax.{Identifier}
use Rattle.clu_names.specs.declared.scopes.Declared.{Declared}
use Rattle.clu_names.specs.Denotes.{found, names_in}
use Rattle.clu_names.specs.Denotes as denotes
use Rattle.clu_names.specs.Scopes.{declarations}
use Rattle.clu_checking.specs.Specifications.{Specification}
use Rattle.clu_checking.specs.Files.{File, scope_in}
use Rattle.clu_settle.specs.Names.{names_of}
use Rattle.clu_declares.proofs.Around.{there as node_at}
use Rattle.clu_bindings.specs.declared.file.File.{File as Read}
use Rattle.clu_bindings.specs.declared.meaning.Meaning.{Meaning}
use Rattle.clu_bindings.specs.declared.meaning.Meaning.TheVariants as meant
use Rattle.clu_bindings.specs.Declaring as table
use Rattle.clu_bindings.specs.Modules.{named}
use Rattle.clu_bindings.specs.Readers.{meaning_in}
use Rattle.clu_type_rules.specs.declared.known.Known.{Known}
use Rattle.clu_passes.specs.ConstantTables.{file_with}
use Rattle.clu_passes.specs.Made.{IsWhole}
use Rattle.clu_passes.specs.NamesKnown.{variable_of}
use Rattle.clu_passes.specs.OthersKnown.{AreRepsThere, IsTypeSeen, IsVariableSeen}
use Rattle.clu_passes.specs.Reps.{AreVariableTypes, IsVariableType}
use Rattle.clu_passes.proofs.NamesMean as meaning_of
use Rattle.clu_passes.proofs.OthersVariables.{name_seen}

of_type : (f : File) (n b c : ℕ) → b ≡ c → IsTypeSeen f n b → IsVariableType f n c
of_type f n b c same seen = subst (IsVariableType f n) same (record { is = seen.typed; outside = seen.outside; home = seen.home })

seen_type : (f : File) (n c : ℕ) (m : Meaning) → IsVariableSeen f n m → variable_of m ≡ Some c → IsVariableType f n c
seen_type f n c (meant.Local b) seen e = of_type f n b c (same_Some b c e) seen
seen_type f n c (meant.OwnOfRoutine b) seen e = of_type f n b c (same_Some b c e) seen
seen_type f n c (meant.OwnOfCluster b) seen e = of_type f n b c (same_Some b c e) seen
seen_type f n c (meant.Equate b) seen e = absurd (none-some c e)
seen_type f n c meant.TypeSet seen e = absurd (none-some c e)
seen_type f n c (meant.TypeParameter k) seen e = absurd (none-some c e)
seen_type f n c (meant.ConstantParameter k) seen e = absurd (none-some c e)
seen_type f n c meant.RoutineOfCluster seen e = absurd (none-some c e)
seen_type f n c (meant.Module m) seen e = absurd (none-some c e)

module _ (t : Text) (k : Known) (library : List Specification) (refused : List ℕ) (all : IsWhole t k.tables library refused)
    (reps : AreRepsThere (file_with k.tables.file (scope_in k.tables.file.syntax.now k.tables.file.rounds.now) library refused)) where
  abbrev r : Read
  r = k.tables.file

  abbrev nodes : List Node
  nodes = k.tables.file.syntax.now

  abbrev ds : List Declared
  ds = declarations k.tables.file.syntax.now k.tables.file.rounds.now

  abbrev f : File
  f = file_with k.tables.file (scope_in k.tables.file.syntax.now k.tables.file.rounds.now) library refused

  abbrev declared : List Meaning
  declared = k.tables.file.bindings.now.declared.items

  -- a node that names nothing names no variable
  nameless : (n : ℕ) → n < length nodes → (node : Node) → slice_get nodes n ≡ Some node → names_in node.kind node ≡ [] → variable_of (meaning_in r n) ≡ None
  nameless n here node there e =
      ap (λ (ms : List Meaning). variable_of (get_or ms 0 (meant.Module None)))
      (meaning_of.meanings_there t k.tables.file library refused all.made.file.parsed all.made.file.rounds all.made.file.few all.made.file.names all.made.file.bindings n here
      ∙ ap (λ (bs : List (Option ℕ)). table.meant_of (named k.tables.file.bindings.now.modules) declared bs (names_of (slice_get nodes n)))
      (meaning_of.bound_there t k.tables.file library refused all.made.file.parsed all.made.file.rounds all.made.file.few all.made.file.names all.made.file.bindings n ∙ ap (denotes.bound_at ds n) there ∙ ap (map (λ name. found ds name n)) e)
      ∙ meaning_of.meant_none (named k.tables.file.bindings.now.modules) declared (names_of (slice_get nodes n)))

  node_typed : (n c : ℕ) → n < length nodes → (node : Node) → slice_get nodes n ≡ Some node → (its : List Identifier) → names_in node.kind node ≡ its → variable_of (meaning_in r n) ≡ Some c → IsVariableType f n c
  node_typed n c here node there [] names e = absurd (none-some c (sym (nameless n here node there names) ∙ e))
  node_typed n c here node there (name ∷ rest) names e =
      let is : meaning_in r n ≡ table.meant_by (named k.tables.file.bindings.now.modules) declared (found ds name n) (slice_get (names_of (slice_get nodes n)) 0) =
      meaning_of.first_is t k.tables.file library refused all.made.file.parsed all.made.file.rounds all.made.file.few all.made.file.names all.made.file.bindings n node name rest there names in
      seen_type f n c (table.meant_by (named k.tables.file.bindings.now.modules) declared (found ds name n) (slice_get (names_of (slice_get nodes n)) 0))
      (name_seen t k library refused all reps n here name (slice_get (names_of (slice_get nodes n)) 0)) (sym (ap variable_of is) ∙ e)

  pub variable_types : AreVariableTypes f k.tables.file
  variable_types n c here e = let x = node_at nodes n here in node_typed n c here x.0 x.1 (names_in x.0.kind x.0) refl e
