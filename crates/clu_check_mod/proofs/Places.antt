-- A refusal at the place of a node is one of the tree.
use Rattle.std.proofs.Common.{◌≡◌, ◌≤◌, ◌==◌, ◌&&◌, ℕ, zero, suc, Bool, true, List, Some, refl, sym, ap, ◌∙◌, subst}
use Rattle.std.proofs.lemmas.Bool.Decides.{Decides-eqb}
use Rattle.std.proofs.lemmas.Map.Keys.{any_passes_from_place}
use Rattle.std.specs.Prelude.{slice_get}
use Rattle.std.specs.List.{list_any}
use Rattle.clu_base.specs.Rules.{number_of}
use Rattle.clu_base.specs.declared.rules.Rule.{Rule}
use Rattle.clu_base.specs.declared.tokens.Place.{Place}
use Rattle.clu_tree.specs.declared.node.Node.{Node}
use Rattle.clu_check_mod.specs.Refusals.{IsOfTree, is_at}
use Rattle.clu_check_mod.specs.declared.errors.CheckError.TheVariants as error

at_itself : (node : Node) → is_at node.place node ≡ true
at_itself node = rw ((Decides-eqb node.place.line node.place.line).1 refl, (Decides-eqb node.place.col node.place.col).1 refl) refl

pub refused_at : (nodes : List Node) (n : ℕ) (node : Node) (r : Rule) → slice_get nodes n ≡ Some node → 4 ≤ number_of r → IsOfTree nodes (error.Refused (record { rule = r; place = node.place }))
refused_at nodes n node r at number = (number, any_passes_from_place (is_at node.place) nodes n node at (at_itself node))
