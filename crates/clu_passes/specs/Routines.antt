-- The routines round nodes, and the table of their parts.
use Rattle.std.specs.Prelude.{◌≡◌, ℕ, true, List, length, slice_get, Option, Some}
use Rattle.clu_tree.specs.declared.node.NodeKind.TheVariants as kind
use Rattle.clu_syntax.specs.Items.{Item}
use Rattle.clu_syntax.specs.Rounds.{round_at}
use Rattle.clu_checking.specs.Files.{File}
use Rattle.clu_head.specs.There.{is_there}
use Rattle.clu_type_rules.specs.declared.routines.Parts.{Parts}
use Rattle.clu_type_rules.specs.Routines.{parts_to}

-- the routine round a node is one, as the tree of a file has it
abbrev pub StandInRoutines : File → Type 0
StandInRoutines f = (n r : ℕ) → (round_at f.rounds n).routine ≡ Some r → is_there kind.Routine (slice_get f.nodes r) ≡ true

-- what `Routines` of clu_type_rules has of the file
abbrev pub AreParts : File → List (Option Parts) → Type 0
AreParts f parts = (items : ℕ → Item) → parts ≡ parts_to items f.nodes (length f.nodes)
