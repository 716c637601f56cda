-- What the nodes of a file ask, as the table of it tells, and in which clause a node stands.
use Rattle.std.specs.Prelude.{◌≡◌, ◌&&◌, ◌<◌, ℕ, Bool, List, [], map, length, if◌then◌else◌, Contains, IfSome, Option, Some, None}
use Rattle.std.specs.Option.{option_or}
use Rattle.clu_types.specs.CluType.{CluType}
use Rattle.clu_types.specs.declared.term.TypeId.{TypeId}
use Rattle.clu_tree.specs.declared.node.NodeKind.{NodeKind}
use Rattle.clu_tree.specs.declared.node.NodeKind.TheVariants as kind
use Rattle.clu_checking.specs.Specifications.{Demand}
use Rattle.clu_checking.specs.Files.{File, item, kind_in, is_kind, stands_in, parent, round, routine_round, cluster_round, variable_number}
use Rattle.clu_checking.specs.Equates.{asked_by_set, demands_in}
use Rattle.clu_checking.specs.NameRules as checking
use Rattle.clu_head.specs.declared.asked.Asked.{Asked}
use Rattle.clu_head.specs.declared.head.Demanded.{Demanded}
use Rattle.clu_type_rules.specs.Disagreeing as tables
use Rattle.clu_passes.specs.Told.{demand_told}

module _ (f : File) where
  -- what a node of this kind asks
  abbrev pub asked_by : NodeKind → ℕ → List Demand
  asked_by kind.Routine c = demands_in f (item f c).routine.restrictions
  asked_by kind.Cluster c = demands_in f (item f c).cluster.restrictions
  asked_by kind.TypeSet c = asked_by_set f (variable_number f.nodes f.rounds c) (item f c).type_set
  asked_by _ c = []

  -- the Routine, Cluster or TypeSet for which an Oper or Restrict asks
  abbrev pub clause_of : ℕ → Option ℕ
  clause_of n = if is_kind f kind.Oper n && stands_in f kind.TypeSet n then parent f n else option_or (round f n).routine (round f n).cluster

  -- what is asked in it, by the definition
  abbrev pub asked_round : (ℕ → Bool) → ℕ → List Demand
  asked_round bad n = if is_kind f kind.Oper n && stands_in f kind.TypeSet n then checking.asked_in_set f bad (parent f n) else checking.clause_round f bad n

-- the table tells what each node asks, by types of an arena, and each demand is of a node that stands in its clause
pub record TellAsked (f : File) (types : List CluType) (asked : Asked) : Type 0 where
  pub told : (c : ℕ) → map (demand_told types) (tables.demands_in asked c) ≡ asked_by f (kind_in f c) c
  pub within : (c : ℕ) (d : Demanded) → Contains (tables.demands_in asked c) d → IfSome d.wanted (λ id. id.0 < length types)
  pub inside : (c : ℕ) (d : Demanded) → Contains (tables.demands_in asked c) d → clause_of f d.node ≡ Some c

-- what is round a node is of its kind
pub record AreOfKinds (f : File) : Type 0 where
  pub routines : (n c : ℕ) → (round f n).routine ≡ Some c → kind_in f c ≡ kind.Routine
  pub clusters : (n c : ℕ) → (round f n).cluster ≡ Some c → kind_in f c ≡ kind.Cluster
