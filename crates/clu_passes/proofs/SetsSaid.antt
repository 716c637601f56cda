-- For which type set the declaration of a name stands is what the table says of it.
use Rattle.std.proofs.Common.{◌≡◌, ◌∙◌, ℕ, List, Option, Some, None, slice_get, is_some, refl, ap, sym}
use Rattle.std.specs.Option.{option_and_then, option_map}
use Rattle.clu_tree.specs.declared.node.Node.{Node}
use Rattle.clu_parser.specs.Trees.{Text}
use Rattle.clu_syntax.specs.Syntax.{Identifier, TypeSet}
use Rattle.clu_names.specs.declared.scopes.Declared.{Declared}
use Rattle.clu_names.specs.Scopes.{declarations}
use Rattle.clu_names.specs.Denotes.{found}
use Rattle.clu_checking.specs.Specifications.{Specification}
use Rattle.clu_checking.specs.Files.{File, scope_in, item}
use Rattle.clu_checking.specs.Equates.{set_named, is_set_name}
use Rattle.clu_declares.specs.Declares.{IsParsed}
use Rattle.clu_head.specs.declared.sets.Said.{Said}
use Rattle.clu_head.specs.Sets.{said_of, kept, set_led}
use Rattle.clu_bindings.specs.declared.file.File.{File as Read}
use Rattle.clu_bindings.specs.Bindings.{AreBindings}
use Rattle.clu_bindings.specs.Readers.{set_at}
use Rattle.clu_bindings.specs.Tables.{optional}
use Rattle.clu_passes.specs.ConstantTables.{file_with}
use Rattle.clu_passes.specs.Tables.{AreNames}
use Rattle.clu_passes.proofs.SetsNamed.{sets_named}

some_map : {X Y : Type 0} (g : X → Y) (o : Option X) → is_some (option_map g o) ≡ is_some o
some_map g None = refl
some_map g (Some x) = refl

kept_so : (o : Option (Option ℕ)) → optional o ≡ kept o
kept_so None = refl
kept_so (Some x) = refl

module _ (t : Text) (r : Read) (library : List Specification) (refused : List ℕ) (parsed : IsParsed t r.syntax.now)
    (its_names : AreNames (file_with r (scope_in r.syntax.now r.rounds.now) library refused) r.names.now) (tables : AreBindings r.syntax.now r.rounds.now r.names.now r.values.now r.bindings.now) where
  abbrev nodes : List Node
  nodes = r.syntax.now

  abbrev ds : List Declared
  ds = declarations r.syntax.now r.rounds.now

  abbrev f : File
  f = file_with r (scope_in r.syntax.now r.rounds.now) library refused

  abbrev all : List Said
  all = said_of nodes ds ds

  set_is : (o : Option ℕ) → set_at r o ≡ option_and_then (set_led all) o
  set_is None = refl
  set_is (Some place) =
      kept_so (slice_get r.bindings.now.sets.items place)
      ∙ tables.sets place
      ∙ ap (λ (ds : List Declared). set_led (said_of nodes ds ds) place) its_names.declared

  pub sets_said : (n : ℕ) (name : Identifier) → is_some (set_at r (found ds name n)) ≡ is_set_name f n name
  sets_said n name =
      ap is_some (set_is (found ds name n))
      ∙ sym (some_map (λ (c : ℕ). (item f c).type_set) (option_and_then (set_led all) (found ds name n)))
      ∙ sym (ap is_some (sets_named f parsed.forms parsed.tree n name))
