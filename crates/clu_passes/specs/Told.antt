-- What heads tell, where the types of their arena are known: what a module shows of itself, with all routines of a cluster, and
-- with those that it exports.
use Rattle.std.specs.Prelude.{◌≡◌, List, [], ◌∷◌, All, map, filter, option_map}
use Rattle.clu_types.specs.CluType.{CluType}
use Rattle.clu_types.specs.Arena.{type_at}
use Rattle.clu_syntax.specs.Syntax.{Cluster}
use Rattle.clu_meaning.specs.Resolving.{cluster_place}
use Rattle.clu_checking.specs.Specifications.{Demand, Heading, Form, of_routine, of_cluster, Specification}
use Rattle.clu_checking.specs.Files.{File, item}
use Rattle.clu_checking.specs.Headings.{heading_of, is_exported}
use Rattle.clu_head.specs.declared.head.Demanded.{Demanded}
use Rattle.clu_head.specs.declared.head.RoutineHead.{RoutineHead}
use Rattle.clu_head.specs.declared.head.HeadForm.{HeadForm}
use Rattle.clu_head.specs.declared.head.HeadForm.TheVariants as form
use Rattle.clu_head.specs.declared.head.Head.{Head}
use Rattle.clu_head.specs.declared.routines.Named.{Named}
use Rattle.clu_head.specs.Listed.{listed}
use Rattle.clu_head.specs.Ranks.{before, same, first_of}
use Rattle.clu_head.specs.Named.{name_rank}

module _ (types : List CluType) where
  abbrev pub demand_told : Demanded → Demand
  demand_told d = record { node = d.node; parameter = d.parameter; operation = d.operation; wanted = option_map (type_at types) d.wanted; in_set = d.in_set }

  abbrev pub routine_told : RoutineHead → Heading
  routine_told r = record { name = r.name; type = option_map (type_at types) r.of_type; demands = map demand_told r.demands }

  abbrev pub form_told : HeadForm → Form
  form_told (form.Routine r) = of_routine (routine_told r)
  form_told (form.Cluster ds rs) = of_cluster (map demand_told ds) (map routine_told rs)

  abbrev pub exported_told : HeadForm → Form
  exported_told (form.Routine r) = of_routine (routine_told r)
  exported_told (form.Cluster ds rs) = of_cluster (map demand_told ds) (map routine_told (filter (λ r. r.exported) rs))

  -- to its own text, and to users
  abbrev pub own_told : Head → Specification
  own_told h = record { name = h.name; kinds = h.kinds; form = form_told h.form }

  abbrev pub head_told : Head → Specification
  head_told h = record { name = h.name; kinds = h.kinds; form = exported_told h.form }

-- ---- routines of a cluster by their nodes

-- with the names that they have in the file
abbrev pub AreNamed : File → List Named → Type 0
AreNamed f rs = All (λ r. name_rank r ≡ (item f r.node).routine.name) rs

abbrev pub listed_names : List Named → List Named
listed_names rs = listed (before name_rank) (same name_rank) first_of rs

-- the head of one
pub record IsHeadOf (f : File) (types : List CluType) (c : Cluster) (r : Named) (h : RoutineHead) : Type 0 where
  pub told : routine_told types h ≡ heading_of f (cluster_place f.scope c) (item f r.node).routine
  pub exported : h.exported ≡ is_exported f c (heading_of f (cluster_place f.scope c) (item f r.node).routine)

-- the heads of all of them, in order
abbrev pub AreHeadsOf : File → List CluType → Cluster → List Named → List RoutineHead → Type 0
AreHeadsOf f types c [] [] = Unit {0}
AreHeadsOf f types c [] (h ∷ hs) = ⊥
AreHeadsOf f types c (r ∷ rs) [] = ⊥
AreHeadsOf f types c (r ∷ rs) (h ∷ hs) = IsHeadOf f types c r h × AreHeadsOf f types c rs hs
