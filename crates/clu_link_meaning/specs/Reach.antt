-- The instances that a program reaches, and which of them doesn't fit.
use Rattle.std.specs.Prelude.{◌≡◌, ℕ, suc, Bool, true, false, ◌&&◌, not, nat_le, nat_lt, if◌then◌else◌, List, [], ◌∷◌, length, find, codes, All, Option, Some, None, Result, Ok, Err, slice_get, sum, map, take, ◌*◌, ◌⊎◌}
use Rattle.std.specs.List.{list_all}
use Rattle.std.specs.Option.{option_or}
use Rattle.std.specs.Str.{bytes_eq}
use Rattle.clu_types.specs.CluType.{CluType, cluster_of, array_of, sequence_of, record_of, struct_of, oneof_of, variant_of, Fields, no_fields, field_and, Actuals, no_actuals, actual_type, actual_const}
use Rattle.clu_types.specs.declared.spec.ParamKind.{ParamKind}
use Rattle.clu_types.specs.declared.spec.ParamKind.TheVariants as kind
use Rattle.clu_types.specs.declared.spec.Form.{Form}
use Rattle.clu_types.specs.declared.spec.Form.TheVariants as form
use Rattle.clu_types.specs.declared.spec.Spec.{Spec}
use Rattle.clu_builtin.specs.Operation.{Needed, Operation}
use Rattle.clu_builtin.specs.Table.{operation}
use Rattle.clu_specs.specs.Seen.{Used, a_module, an_operation, own_set_up, force_of}
use Rattle.clu_specs.specs.UseReading.{whole_use}
use Rattle.clu_demands.specs.Kinds.{kind_of_value}
use Rattle.clu_demands.specs.Meeting.{Meets}
use Rattle.clu_library.specs.Contents.{Contents, spec_of, body_of}
use Rattle.clu_library.specs.Staleness.{IsStaleBody}
use Rattle.clu_library.specs.declared.body.Body.{Body}
use Rattle.clu_object.specs.declared.object.ObjRoutine.{ObjRoutine}
use Rattle.clu_specs.specs.Scopes.{any_scope}
use Rattle.clu_specs.specs.TypeReading.{type_read}
use Rattle.clu_link_meaning.specs.Walk.{with_all, goes_on, most}
use Rattle.clu_link_meaning.specs.Closed.{knows, knows_use, use_put, constant_put_in, is_there}
use Rattle.clu_link_meaning.specs.Same.{same_used}
use Rattle.clu_link_meaning.specs.Bounds.{bytes_of, is_filled, weight}

-- ---- what an instance is made from: a routine of a module, or an operation of a built-in type

pub data Source : Type 0 where
  of_module : (name routine : List ℕ) (cluster : Bool) → Actuals → Source
  of_builtin : CluType → List ℕ → Source

abbrev pub source_of_operation : CluType → List ℕ → Source
source_of_operation (cluster_of name given) op = of_module name op true given
source_of_operation t op = of_builtin t op

abbrev pub source_of : Used → Source
source_of (a_module name given) = of_module name name false given
source_of (an_operation t op) = source_of_operation t op
source_of (own_set_up t) = source_of_operation t (codes "own")
source_of (force_of t) = of_builtin t (codes "force")

-- the types of the parts of a type
abbrev pub fields_given : Fields → Actuals
fields_given no_fields = no_actuals
fields_given (field_and name t fs) = actual_type t (fields_given fs)

abbrev pub parts_given : CluType → Actuals
parts_given (array_of t) = actual_type t no_actuals
parts_given (sequence_of t) = actual_type t no_actuals
parts_given (record_of fs) = fields_given fs
parts_given (struct_of fs) = fields_given fs
parts_given (oneof_of fs) = fields_given fs
parts_given (variant_of fs) = fields_given fs
parts_given _ = no_actuals

-- ---- what a use denotes

abbrev pub is_kind : ParamKind → ParamKind → Bool
is_kind kind.OfType kind.OfType = true
is_kind kind.Null kind.Null = true
is_kind kind.Bool kind.Bool = true
is_kind kind.Int kind.Int = true
is_kind kind.Char kind.Char = true
is_kind kind.Str kind.Str = true
is_kind _ _ = false

-- actuals without parameters are of these kinds
abbrev pub are_of_kinds : Actuals → List ParamKind → Bool
are_of_kinds no_actuals [] = true
are_of_kinds (actual_type t rest) (k ∷ kinds) = is_kind kind.OfType k && are_of_kinds rest kinds
are_of_kinds (actual_const c rest) (k ∷ kinds) = is_kind (kind_of_value c) k && are_of_kinds rest kinds
are_of_kinds _ _ = false

abbrev pub is_cluster_form : Form → Bool
is_cluster_form (form.Cluster demands ops) = true
is_cluster_form (form.Routine op) = false

abbrev pub same_truth : Bool → Bool → Bool
same_truth true b = b
same_truth false b = not b

-- a module of this form is kept, with parameters of the kinds of the actuals
abbrev pub is_given : Bool → Actuals → Option Spec → Bool
is_given cluster given None = false
is_given cluster given (Some s) = same_truth cluster (is_cluster_form s.form) && are_of_kinds given s.kinds

-- what has code of its own: all but primitive operations and force
pub data Sort : Type 0 where
  an_instance primitive : Sort

-- an operation that iterates or needs others is defined by a text or is a scheme
abbrev pub sort_by_needs : List Needed → Sort
sort_by_needs [] = primitive
sort_by_needs (n ∷ ns) = an_instance

abbrev pub sort_of_operation : Operation → Sort
sort_of_operation o = if o.iter then an_instance else sort_by_needs o.needs

abbrev pub AreMet : List Spec → List Needed → Type 0
AreMet specs needs = All (Meets [] specs) needs

abbrev pub HasOperation : Contents → Option Operation → Sort → Type 0
HasOperation library None sort = ⊥
HasOperation library (Some o) sort = AreMet library.specs o.needs × (sort ≡ sort_of_operation o)

abbrev pub DenotesOf : Contents → Used → Source → Sort → Type 0
DenotesOf library u (of_module name routine cluster given) sort = (is_given cluster given (spec_of library name) ≡ true) × (sort ≡ an_instance)
DenotesOf library (an_operation t op) (of_builtin _ _) sort = HasOperation library (operation t op) sort
DenotesOf library (force_of t) (of_builtin _ _) sort = sort ≡ primitive
DenotesOf library _ (of_builtin _ _) sort = ⊥

abbrev pub source_for : Used → Source
source_for (force_of t) = of_builtin t (codes "force")
source_for u = source_of u

abbrev pub Denotes : Contents → Used → Sort → Type 0
Denotes library u sort = DenotesOf library u (source_for u) sort

-- ---- the uses of a routine, each with the actuals put in

-- a text denotes nothing: it is none of a use, or names a parameter that isn't there, or what it names isn't there
abbrev pub DenotesNothing : Contents → Actuals → Result Used ℕ → Type 0
DenotesNothing library given (Err left) = Unit {0}
DenotesNothing library given (Ok u) = (knows_use given u ≡ true) → (sort : Sort) → Denotes library (use_put given u) sort → ⊥

abbrev pub DenotesIt : Contents → Actuals → Result Used ℕ → Used → Sort → Type 0
DenotesIt library given (Err left) v sort = ⊥
DenotesIt library given (Ok u) v sort = (knows_use given u ≡ true) × (v ≡ use_put given u) × Denotes library v sort

-- one of the texts denotes nothing
abbrev pub OneDenotesNothing : Contents → Actuals → List (List ℕ) → Type 0
OneDenotesNothing library given [] = ⊥
OneDenotesNothing library given (text ∷ texts) = DenotesNothing library given (whole_use text) ⊎ OneDenotesNothing library given texts

-- all denote something, and these of them are instances
abbrev pub added : Sort → Used → List Used → List Used
added an_instance u us = u ∷ us
added primitive u us = us

pub record FirstDenotes (library : Contents) (given : Actuals) (read : Result Used ℕ) (rest us : List Used) : Type 0 where
  pub u : Used
  pub sort : Sort
  pub denotes : DenotesIt library given read u sort
  pub all : us ≡ added sort u rest

abbrev pub AllDenote : Contents → Actuals → List (List ℕ) → List Used → Type 0
AllDenote library given [] us = us ≡ []
AllDenote library given (text ∷ texts) us = (rest : List Used) × AllDenote library given texts rest × FirstDenotes library given (whole_use text) rest us

-- ---- what is found at an instance

-- its module has no body, a stale one, or one that doesn't fit; or it weighs so much and uses these
pub data Fate : Type 0 where
  bodiless is_stale misfit : List ℕ → Fate
  taken : ℕ → List Used → Fate

abbrev pub used_by : Fate → List Used
used_by (taken weight us) = us
used_by _ = []

-- a routine that is made here: its nodes, and the texts of what it uses
pub record Made : Type 0 where
  pub nodes : ℕ
  pub uses : List (List ℕ)

abbrev pub knows_type : Actuals → Result (CluType × List ℕ) ℕ → Bool
knows_type given (Ok t) = knows given t.0
knows_type given (Err left) = false

-- all constants, runtime parts and types are known, and neither words nor bytes are more than the nodes allow
abbrev pub fits : Actuals → ObjRoutine → Bool
fits given o =
    list_all (λ c. is_there (constant_put_in given c)) o.constants && (list_all is_filled o.holes
    && (nat_le (length o.code) (64 * o.nodes) && (nat_le (bytes_of given o) (256 * weight given o)
    && list_all (λ text. knows_type given (type_read any_scope (length text) text)) o.types)))

abbrev pub UsesFate : Contents → List ℕ → Actuals → ℕ → List (List ℕ) → Fate → Type 0
UsesFate library name given nodes uses (bodiless m) = ⊥
UsesFate library name given nodes uses (is_stale m) = ⊥
UsesFate library name given nodes uses (misfit m) = (m ≡ name) × OneDenotesNothing library given uses
UsesFate library name given nodes uses (taken w us) = (w ≡ nodes) × AllDenote library given uses us

abbrev pub FitFate : Contents → List ℕ → Actuals → ObjRoutine → Bool → Fate → Type 0
FitFate library name given o false fate = fate ≡ misfit name
FitFate library name given o true fate = UsesFate library name given (weight given o) o.uses fate

abbrev pub RoutineFate : Contents → List ℕ → Actuals → Option ObjRoutine → Fate → Type 0
RoutineFate library name given None fate = fate ≡ misfit name
RoutineFate library name given (Some o) fate = FitFate library name given o (fits given o) fate

abbrev pub IsStaleIn : Contents → List ℕ → Body → Type 0
IsStaleIn library name b = IsStaleBody library.specs library.changes name b

pub data BodyFate (library : Contents) (name routine : List ℕ) (given : Actuals) (b : Body) (fate : Fate) : Type 0 where
  stale_one : IsStaleIn library name b → fate ≡ is_stale name → BodyFate library name routine given b fate
  fresh_one : (IsStaleIn library name b → ⊥) → RoutineFate library name given (find (λ o. bytes_eq o.name routine) b.object.routines) fate → BodyFate library name routine given b fate

abbrev pub KeptFate : Contents → List ℕ → List ℕ → Actuals → Option Body → Fate → Type 0
KeptFate library name routine given None fate = fate ≡ bodiless name
KeptFate library name routine given (Some b) fate = BodyFate library name routine given b fate

abbrev pub start_of : List ℕ → Used
start_of start = a_module start no_actuals

module _ (made : CluType → List ℕ → Option Made) where
  abbrev pub MadeFate : Contents → Actuals → Option Made → Fate → Type 0
  MadeFate library given None fate = ⊥
  MadeFate library given (Some m) fate = (us : List Used) × AllDenote library given m.uses us × (fate ≡ taken m.nodes us)

  abbrev pub SourceFate : Contents → Source → Fate → Type 0
  SourceFate library (of_module name routine cluster given) fate = KeptFate library name routine given (body_of library name) fate
  SourceFate library (of_builtin t op) fate = MadeFate library (parts_given t) (made t op) fate

  abbrev pub HasFate : Contents → Used → Fate → Type 0
  HasFate library u fate = SourceFate library (source_of u) fate

  -- ---- the walk: at the place n the instance that stands there is looked at, and what it uses is added

  abbrev pub IsVisit : Contents → Option Used → Fate → Type 0
  IsVisit library None fate = ⊥
  IsVisit library (Some u) fate = HasFate library u fate

  -- the walk ends where there is none at the place, and as soon as 4,097 are listed
  abbrev pub IsWalk : Contents → ℕ → List Used → List Fate → List Used → Type 0
  IsWalk library n us [] all = (goes_on us n ≡ false) × (all ≡ us)
  IsWalk library n us (fate ∷ fates) all =
      (goes_on us n ≡ true) × IsVisit library (slice_get us n) fate × IsWalk library (suc n) (with_all same_used us (used_by fate)) fates all

  -- the instances of a program, of which 4,097 are listed at most, and what was found at each
  pub record IsReach (library : Contents) (start : List ℕ) (us : List Used) (fates : List Fate) : Type 0 where
    pub all : List Used
    pub walk : IsWalk library 0 (start_of start ∷ []) fates all
    pub listed : us ≡ take (suc most) all

-- ---- the answers, in their order

abbrev pub first_of : (Fate → Option (List ℕ)) → List Fate → Option (List ℕ)
first_of f [] = None
first_of f (fate ∷ fates) = option_or (f fate) (first_of f fates)

abbrev pub no_body_of : Fate → Option (List ℕ)
no_body_of (bodiless name) = Some name
no_body_of _ = None

abbrev pub stale_of : Fate → Option (List ℕ)
stale_of (is_stale name) = Some name
stale_of _ = None

abbrev pub misfit_of : Fate → Option (List ℕ)
misfit_of (misfit name) = Some name
misfit_of _ = None

abbrev pub weight_of : Fate → ℕ
weight_of (taken weight us) = weight
weight_of _ = 0

pub data Refusal : Type 0 where
  too_many too_large : Refusal
  no_body stale no_fit : List ℕ → Refusal

abbrev pub or_refused : (List ℕ → Refusal) → Option (List ℕ) → Option Refusal → Option Refusal
or_refused refusal (Some name) other = Some (refusal name)
or_refused refusal None other = other

abbrev pub refusal_of : List Used → List Fate → Option Refusal
refusal_of us fates =
    if nat_lt most (length us) then Some too_many else
    or_refused no_body (first_of no_body_of fates)
    (or_refused stale (first_of stale_of fates)
    (or_refused no_fit (first_of misfit_of fates)
    (if nat_lt 262144 (sum (map weight_of fates)) then Some too_large else None)))
