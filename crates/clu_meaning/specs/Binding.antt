-- Binding objects to variables, and to what a heading has. Each binding needs that the object's own type is included in
-- the type that is declared, and takes the words of binding to type any.
use Rattle.std.specs.Prelude.{ℕ, ◌==◌, List, [], ◌∷◌, Option, None, Some, if◌then◌else◌, bytes_eq, map}
use Rattle.clu_types.specs.CluType.{CluType, cluster_of, CluTypes, no_types, type_and, Actuals}
use Rattle.clu_types.specs.Substituted.{substituted}
use Rattle.clu_layout.specs.Objects.{Object, sealed, own_types}
use Rattle.clu_layout.specs.Openers.{unsealed}
use Rattle.clu_layout.specs.SameType.{all_fit}
use Rattle.clu_layout.specs.Primitive.{words_for_all}
use Rattle.clu_meaning.specs.Lists.{in_front}
use Rattle.clu_meaning.specs.Programs.{Variable, local, own_of_routine, own_of_cluster, HeadingType, plain, cvt, Declaration, Formal, Exception, RoutineDefinition, ClusterDefinition}
use Rattle.clu_meaning.specs.State.{Instance, own_set_up, with_variable, with_own}
use Rattle.clu_meaning.specs.Computations.{Computation, goes_wrong, need, needed, with_frame, with_owns, takes}

-- A routine that runs: which instance it is, the actuals for the parameters of its module, the cluster in which it stands,
-- and its definition.
pub record Running : Type 0 where
  pub instance : Instance
  pub given : Actuals
  pub home : Option ClusterDefinition
  pub definition : RoutineDefinition

-- ---- types

-- the type of the declaration with this number
abbrev pub declared_in : List Declaration → ℕ → Option CluType
declared_in [] n = None
declared_in (d ∷ ds) n = if d.number == n then Some d.type else declared_in ds n

abbrev pub owns_of : Option ClusterDefinition → List Declaration
owns_of (Some cluster) = cluster.owns
owns_of None = []

abbrev pub term_of : Running → Variable → Option CluType
term_of here (local n) = declared_in here.definition.locals n
term_of here (own_of_routine n) = declared_in here.definition.owns n
term_of here (own_of_cluster n) = declared_in (owns_of here.home) n

-- with the actuals put in
abbrev pub put_in : Running → Option CluType → Option CluType
put_in here (Some t) = Some (substituted here.given t)
put_in here None = None

abbrev pub type_after : Option CluType → Option CluTypes → Option CluTypes
type_after (Some t) (Some ts) = Some (type_and t ts)
type_after _ _ = None

abbrev pub types_of : Running → List Variable → Option CluTypes
types_of here [] = Some no_types
types_of here (x ∷ xs) = type_after (put_in here (term_of here x)) (types_of here xs)

-- the instance whose own variables those of the cluster are
abbrev pub name_of : Option ClusterDefinition → List ℕ
name_of (Some cluster) = cluster.name
name_of None = []

abbrev pub cluster_instance : Running → Instance
cluster_instance here = own_set_up (name_of here.home) here.given

-- ---- to variables

abbrev pub bound : {A : Type 0} → CluTypes → List Object → Computation A → Computation A
bound types os rest = need (all_fit (own_types os) types) (takes (words_for_all types) rest)

unfoldable pub names : {A : Type 0} → Running → Variable → Object → Computation A → Computation A
names here (local n) o rest =
    with_frame (λ frame. record frame { variables = with_variable frame.variables n (Some o) }) rest
names here (own_of_routine n) o rest = with_owns (λ owns. with_own owns here.instance n o) rest
names here (own_of_cluster n) o rest = with_owns (λ owns. with_own owns (cluster_instance here) n o) rest

-- each variable names the object at its place
unfoldable pub names_each : {A : Type 0} → Running → List Variable → List Object → Computation A → Computation A
names_each here (x ∷ xs) (o ∷ os) rest = names here x o (names_each here xs os rest)
names_each here [] [] rest = rest
names_each here _ _ rest = goes_wrong

abbrev pub assigned : {A : Type 0} → Running → List Variable → List Object → Computation A → Computation A
assigned here xs os rest = needed (types_of here xs) (λ types. bound types os (names_each here xs os rest))

-- a variable that isn't own becomes absent
unfoldable pub forgets : {A : Type 0} → List Variable → Computation A → Computation A
forgets [] rest = rest
forgets (local n ∷ xs) rest = with_frame (λ frame. record frame { variables = with_variable frame.variables n None }) (forgets xs rest)
forgets (x ∷ xs) rest = forgets xs rest

-- ---- to what a heading has

-- the types as callers see them, and as the body does
abbrev pub outward : Actuals → List HeadingType → CluTypes
outward given [] = no_types
outward given (plain t ∷ rest) = type_and (substituted given t) (outward given rest)
outward given (cvt abstract representation ∷ rest) = type_and (substituted given abstract) (outward given rest)

abbrev pub inward : Actuals → List HeadingType → CluTypes
inward given [] = no_types
inward given (plain t ∷ rest) = type_and (substituted given t) (inward given rest)
inward given (cvt abstract representation ∷ rest) = type_and (substituted given representation) (inward given rest)

-- the object sealed by the cluster instance whose type this is
abbrev pub seal : CluType → Object → Object
seal (cluster_of cluster given) o = sealed cluster given o
seal _ o = o

-- what is inside an object that the cluster instance of this type sealed
abbrev pub opened : CluType → Object → Option Object
opened (cluster_of cluster given) o = unsealed cluster given o
opened _ o = None

abbrev pub seals : Actuals → List HeadingType → List Object → List Object
seals given (cvt abstract representation ∷ rest) (o ∷ os) = seal (substituted given abstract) o ∷ seals given rest os
seals given (plain t ∷ rest) (o ∷ os) = o ∷ seals given rest os
seals given _ _ = []

-- what is given, yielded or signalled: bound to the types as the body sees them, and sealed
abbrev pub handed_out : {A : Type 0} → Running → List HeadingType → List Object → (List Object → Computation A) → Computation A
handed_out here types os rest = bound (inward here.given types) os (rest (seals here.given types os))

abbrev pub opens : Actuals → List HeadingType → List Object → Option (List Object)
opens given [] [] = Some []
opens given (cvt abstract representation ∷ rest) (o ∷ os) = in_front (opened (substituted given abstract) o) (opens given rest os)
opens given (plain t ∷ rest) (o ∷ os) = in_front (Some o) (opens given rest os)
opens given _ _ = None

abbrev pub types_of_formals : List Formal → List HeadingType
types_of_formals formals = map (λ formal. formal.type) formals

abbrev pub formal_variables : List Formal → List Variable
formal_variables formals = map (λ formal. local formal.number) formals

-- the arguments are bound to the formals, as callers see their types, and opened
abbrev pub argued : {A : Type 0} → Running → List Object → Computation A → Computation A
argued here os rest =
    bound (outward here.given (types_of_formals here.definition.formals)) os
    (needed (opens here.given (types_of_formals here.definition.formals) os) (λ opened_ones.
    names_each here (formal_variables here.definition.formals) opened_ones rest))

-- the types of an exception's objects in the heading
abbrev pub signal_types : List Exception → List ℕ → Option (List HeadingType)
signal_types [] name = None
signal_types (e ∷ es) name = if bytes_eq e.name name then Some e.objects else signal_types es name
