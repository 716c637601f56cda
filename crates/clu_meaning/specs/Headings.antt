-- What the headings of accepted programs are: each formal is declared with its type, and `cvt` is the cluster in which the
-- routine stands, with its representation.
use Rattle.std.specs.Prelude.{◌≡◌, List, [], ◌∷◌, Option, None, Some}
use Rattle.clu_types.specs.CluType.{CluType, cluster_of, Actuals}
use Rattle.clu_types.specs.Substituted.{substituted}
use Rattle.clu_meaning.specs.Programs.{HeadingType, plain, cvt, Declaration, Formal, Exception, RoutineDefinition, ClusterDefinition, Module, routine_module, cluster_module, Program}
use Rattle.clu_meaning.specs.Binding.{declared_in, types_of_formals}

-- a type as the body sees it
abbrev pub body_type : HeadingType → CluType
body_type (plain t) = t
body_type (cvt abstract representation) = representation

-- with these actuals put in, the first type is the cluster's, and the second its representation
pub record IsOwn (cluster : ClusterDefinition) (given : Actuals) (abstract representation : CluType) : Type 0 where
  pub actuals : Actuals
  pub type : substituted given abstract ≡ cluster_of cluster.name actuals
  pub inside : substituted actuals cluster.representation ≡ substituted given representation

-- whatever the actuals, in a routine of this cluster, or of none
abbrev pub TypeStands : Option ClusterDefinition → HeadingType → Type 0
TypeStands home (plain t) = Unit {0}
TypeStands (Some cluster) (cvt abstract representation) = (given : Actuals) → IsOwn cluster given abstract representation
TypeStands None (cvt abstract representation) = ⊥

abbrev pub TypesStand : Option ClusterDefinition → List HeadingType → Type 0
TypesStand home [] = Unit {0}
TypesStand home (t ∷ ts) = TypeStands home t × TypesStand home ts

abbrev pub ExceptionsStand : Option ClusterDefinition → List Exception → Type 0
ExceptionsStand home [] = Unit {0}
ExceptionsStand home (e ∷ es) = TypesStand home e.objects × ExceptionsStand home es

abbrev pub FormalsDeclared : List Declaration → List Formal → Type 0
FormalsDeclared locals [] = Unit {0}
FormalsDeclared locals (f ∷ fs) = (declared_in locals f.number ≡ Some (body_type f.type)) × FormalsDeclared locals fs

pub record HeadingStands (home : Option ClusterDefinition) (definition : RoutineDefinition) : Type 0 where
  pub declared : FormalsDeclared definition.locals definition.formals
  pub formals : TypesStand home (types_of_formals definition.formals)
  pub results : TypesStand home definition.results
  pub signals : ExceptionsStand home definition.signals

abbrev pub RoutinesStand : Option ClusterDefinition → List RoutineDefinition → Type 0
RoutinesStand home [] = Unit {0}
RoutinesStand home (r ∷ rs) = HeadingStands home r × RoutinesStand home rs

abbrev pub ModuleStands : Module → Type 0
ModuleStands (routine_module r) = HeadingStands None r
ModuleStands (cluster_module cluster) = RoutinesStand (Some cluster) cluster.routines

abbrev pub HeadingsStand : Program → Type 0
HeadingsStand [] = Unit {0}
HeadingsStand (m ∷ ms) = ModuleStands m × HeadingsStand ms
