-- What is to be known of a file so that the heads of its modules tell its specifications.
use Rattle.std.specs.Prelude.{◌≡◌, ℕ, true, List, map, None}
use Rattle.clu_tree.specs.declared.node.NodeKind.TheVariants as kind
use Rattle.clu_types.specs.Arena.{types_of}
use Rattle.clu_types.specs.declared.term.Term.{Term}
use Rattle.clu_syntax.specs.Kinds.{kind_at}
use Rattle.clu_checking.specs.Files.{File, item}
use Rattle.clu_checking.specs.Equates.{demands_in}
use Rattle.clu_checking.specs.Headings.{is_refused_heading}
use Rattle.clu_head.specs.declared.asked.Asked.{Asked}
use Rattle.clu_head.specs.declared.head.RoutineHead.{RoutineHead}
use Rattle.clu_head.specs.declared.known.Known.{Known}
use Rattle.clu_head.specs.Asked.{demands_of}
use Rattle.clu_passes.specs.Legal.{AreLegalKnown}
use Rattle.clu_passes.specs.Told.{demand_told}

-- types of parameters are known where they are legal, and what routines and clusters ask is told
pub record AreHeadsKnown (k : Known) (f : File) (asked : Asked) (types : List Term) : Type 0 where
  pub legal : AreLegalKnown f k.values.now
  pub routines : (n : ℕ) → kind_at f.nodes n ≡ kind.Routine → map (demand_told (types_of types)) (demands_of asked.demands.items asked.starts.items n) ≡ demands_in f (item f n).routine.restrictions
  pub clusters : (n : ℕ) → kind_at f.nodes n ≡ kind.Cluster → map (demand_told (types_of types)) (demands_of asked.demands.items asked.starts.items n) ≡ demands_in f (item f n).cluster.restrictions

-- a head has no type only where its heading is refused
abbrev pub IsTyped : File → RoutineHead → Type 0
IsTyped f r = r.of_type ≡ None → is_refused_heading f (item f r.node).routine ≡ true
