-- What is known of a file before its nodes are gone over, for whatever more types there are later.
use Rattle.std.specs.Prelude.{◌≡◌, ℕ, Bool, true, false, List, length}
use Rattle.std.specs.List.{AllByRecursion}
use Rattle.clu_parser.specs.Trees.{Text}
use Rattle.clu_types.specs.Arena.{Grows, types_of}
use Rattle.clu_types.specs.declared.term.Term.{Term}
use Rattle.clu_syntax.specs.Items.{Item}
use Rattle.clu_syntax.specs.Kinds.{is_expression}
use Rattle.clu_declares.specs.Declares.{IsParsed}
use Rattle.clu_checking.specs.Files.{File, children, item, kind_in}
use Rattle.clu_checking.specs.Wanted as wants
use Rattle.clu_bindings.specs.declared.file.Headed.{Headed}
use Rattle.clu_bindings.specs.Readers.{wanted_in}
use Rattle.clu_typing.specs.Pass.{HaveTypes}
use Rattle.clu_passes.specs.Ascending.{SpecificationsAscend}
use Rattle.clu_passes.specs.ConstantTables.{wanted_told}
use Rattle.clu_passes.specs.FoundTold.{TellHeads}
use Rattle.clu_passes.specs.NamesKnown.{HasTypes}

-- The file is that of a text, the heads tell what the definitions say, and so do names and types at each node at which nothing is
-- lost. At the children of such a node nothing is lost either.
pub record IsKnownFile (t : Text) (h : Headed) (f : File) (items : ℕ → Item) (first : List Term) (lost : ℕ → Bool) : Type 0 where
  pub parsed : IsParsed t h.file.syntax.now
  pub library : SpecificationsAscend f.library
  pub types : HaveTypes h (length first)
  pub heads : (terms : List Term) → Grows first terms → TellHeads h f (types_of terms)
  pub below : (n : ℕ) → lost n ≡ false → AllByRecursion (λ c. lost c ≡ false) (children f n)
  pub names : (n : ℕ) → lost n ≡ false → is_expression (kind_in f n) ≡ true → (terms : List Term) → Grows first terms → HasTypes f h items terms n (item f n).expression
  pub wanted : (n : ℕ) → lost n ≡ false → wanted_told (wanted_in h.file n) ≡ wants.wanted f n
