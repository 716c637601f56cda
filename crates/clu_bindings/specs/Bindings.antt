-- What names denote and what is wanted, as tables of a file.
use Rattle.std.specs.Prelude.{◌≡◌, ℕ, zero, suc, List, [], ◌∷◌, length, set, replicate, slice_get}
use Rattle.clu_tree.specs.declared.node.Node.{Node}
use Rattle.clu_syntax.specs.declared.round.Round.{Round}
use Rattle.clu_syntax.specs.Splits.{children_of}
use Rattle.clu_names.specs.declared.binding.Names.{Names}
use Rattle.clu_settle.specs.declared.value.Value.{Value}
use Rattle.clu_head.specs.Sets.{kept_at, said_of, set_led}
use Rattle.clu_bindings.specs.declared.bindings.Bindings.{Bindings}
use Rattle.clu_bindings.specs.Modules.{named}
use Rattle.clu_bindings.specs.Declaring.{declared_of, meanings_of}
use Rattle.clu_bindings.specs.Parameters.{AreParameters}
use Rattle.clu_bindings.specs.Reps.{rep_found}
use Rattle.clu_bindings.specs.Tables.{table_to}
use Rattle.clu_bindings.specs.Wanting.{takers_of, wanted_of}

-- once these children have their places, of which the first stands at `at`
unfoldable pub placed : List ℕ → ℕ → List ℕ → List ℕ
placed places at [] = places
placed places at (c ∷ cs) = placed (set places c at) (suc at) cs

-- once the children of the first n nodes have theirs
unfoldable pub places_to : List Node → ℕ → List ℕ
places_to nodes zero = replicate (length nodes) 0
places_to nodes (suc n) = placed (places_to nodes n) 0 (children_of (slice_get nodes n))

-- the tables are those of a tree, what surrounds its nodes, what its names are bound to and its values
pub record AreBindings (nodes : List Node) (rounds : List Round) (names : Names) (values : List Value) (all : Bindings) : Type 0 where
  pub parameters : AreParameters nodes rounds names.declared.items all.parameters
  pub declared : all.declared.items ≡ declared_of nodes rounds (named all.modules) all.parameters.counts.items all.parameters.numbers.items names.declared.items
  pub meanings : all.meanings.items ≡ meanings_of (named all.modules) all.declared.items nodes names
  -- for which TypeSet each declaration stands
  pub sets : (place : ℕ) → kept_at all.sets.items place ≡ set_led (said_of nodes names.declared.items names.declared.items) place
  pub places : all.places.items ≡ places_to nodes (length nodes)
  pub reps : all.reps.items ≡ table_to (rep_found names.declared.items) (length nodes)
  pub takes_actuals : all.takes_actuals.items ≡ takers_of values all.sets.items nodes names all.meanings.items
  pub wanted : all.wanted.items ≡ wanted_of all.takes_actuals.items nodes rounds
