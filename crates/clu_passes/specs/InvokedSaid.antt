-- What the tables note as invoked is what the definitions say is invoked, by the types and names that it has there.
use Rattle.std.specs.Prelude.{◌≡◌, ◌<◌, ℕ, Bool, false, List, length, slice_get, Option, Some, None}
use Rattle.clu_types.specs.CluType.{Actuals, CluType}
use Rattle.clu_types.specs.declared.term.Term.{Term}
use Rattle.clu_syntax.specs.Syntax.{Identifier}
use Rattle.clu_meaning.specs.Settling.{module_type}
use Rattle.clu_bindings.specs.Tables.{optional}
use Rattle.clu_checking.specs.Files.{File}
use Rattle.clu_checking.specs.Invoked.{Invoked as Meant, of_builtin, of_cluster, of_module, of_parameter, stored, invoked_at}
use Rattle.clu_typing.specs.declared.facts.Facts.{Facts}
use Rattle.clu_typing.specs.declared.facts.Invoked.{Invoked}
use Rattle.clu_typing.specs.declared.facts.Invoked.TheVariants as invoked
use Rattle.clu_typing.specs.Typing.{IsType}

module _ (terms : List Term) (names : List (List ℕ)) where
  abbrev pub IsSaid : Invoked → Meant → Type 0
  IsSaid (invoked.Builtin of id) i = (t : CluType) × (name : Identifier) × IsType terms (Some of) (Some t) × (slice_get names id.0 ≡ Some name) × (i ≡ of_builtin t name)
  IsSaid (invoked.Cluster of id) i = (t : CluType) × (name : Identifier) × IsType terms (Some of) (Some t) × (slice_get names id.0 ≡ Some name) × (i ≡ of_cluster t name)
  IsSaid (invoked.Parameter number id) i = (name : Identifier) × (slice_get names id.0 ≡ Some name) × (i ≡ of_parameter number name)
  IsSaid (invoked.Module of) i = (name : Identifier) × (given : Actuals) × IsType terms (Some of) (Some (module_type name given)) × (i ≡ of_module name given)
  IsSaid invoked.Stored i = i ≡ stored

  abbrev pub IsSaidIf : Option Invoked → Option Meant → Type 0
  IsSaidIf (Some its) (Some i) = IsSaid its i
  IsSaidIf None None = Unit {0}
  IsSaidIf _ _ = ⊥

-- so it is of each node at which nothing is lost
abbrev pub AreSaid : File → List Term → Facts → (ℕ → Bool) → Type 0
AreSaid f terms facts lost = (n : ℕ) → n < length f.nodes → lost n ≡ false → IsSaidIf terms facts.finding.words (optional (slice_get facts.invoked.items n)) (invoked_at f n)
