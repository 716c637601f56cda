-- What tables say of what is refused and of what is lost.
use Rattle.std.specs.Prelude.{◌≡◌, ◌<◌, ℕ, Bool, List, length, slice_get}
use Rattle.clu_tree.specs.declared.node.Node.{Node}
use Rattle.clu_syntax.specs.declared.round.Round.{Round}
use Rattle.clu_names.specs.Scopes.{declarations}
use Rattle.clu_checking.specs.Files.{File, is_refused}
use Rattle.clu_checking.specs.Refusals.{with_refused}
use Rattle.clu_settle.specs.declared.value.Value.{Value}
use Rattle.clu_settle.specs.declared.value.Value.TheVariants as value
use Rattle.clu_settle.specs.Lists.{value_of}
use Rattle.clu_settle.specs.Lost.{IsLost}
use Rattle.clu_settle.specs.Meant.{meanings_of}
use Rattle.clu_head.specs.Refused.{counts_to, grows_in}
use Rattle.clu_passes.specs.Clear.{IsOutside}

-- by these bits a node that stands in no brackets is refused just if a type is refused there or below it
abbrev pub CountRefused : File → List Bool → Type 0
CountRefused f bits = (n : ℕ) → n < length f.nodes → IsOutside f n → is_refused f n ≡ grows_in (counts_to bits (length bits)) (slice_get f.rounds n) n

-- where types are refused by this file again, the same nodes are that stand in no brackets: rules of types ask nothing of what is refused
abbrev pub RefusesAgain : File → Type 0
RefusesAgain f = (n : ℕ) → n < length f.nodes → IsOutside f n → is_refused f n ≡ is_refused (with_refused f) n

-- what is lost is so however many steps are taken
abbrev pub AreGone : List Node → List Round → List Value → Type 0
AreGone nodes rounds values = (n : ℕ) → n < length nodes → value_of values n ≡ value.Lost → IsLost nodes (meanings_of nodes rounds (declarations nodes rounds)) n
