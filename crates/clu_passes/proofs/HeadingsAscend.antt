-- Components ascend in the headings of a file, and in what its modules show.
use Rattle.std.proofs.Common.{ℕ, suc, ◌+◌, Bool, true, false, if◌then◌else◌, cond, List, [], ◌∷◌, ◌++◌, length, map, flat_map, filter, find, bytes_eq, codes, Option, Some, None}
use Rattle.clu_types.specs.CluType.{CluType, parameter, Actuals}
use Rattle.clu_syntax.specs.declared.words.SimpleType.TheVariants as simple
use Rattle.clu_syntax.specs.Syntax.{Identifier, TypeExpression, a_simple_type, TypeExpressions, no_types, type_and, Exceptions, no_exceptions, exception_and, Typed, TypeSet, a_type_set, Restriction, has_operations, is_in, is_in_set, Parameter, Routine, Cluster, Module, a_routine, a_cluster}
use Rattle.clu_syntax.specs.Nodes.{file_of}
use Rattle.clu_names.specs.Scopes.{is_stream}
use Rattle.clu_meaning.specs.Scoping.{Meaning, is_type_parameter, Scope, meaning_of, own_names, own_actuals}
use Rattle.clu_meaning.specs.Settling.{comes_after, type_settled}
use Rattle.clu_meaning.specs.Programs.{HeadingType, plain, cvt, Formal, Exception}
use Rattle.clu_meaning.specs.Resolving.{Place, declared_from, cluster_place, type_or, heading_type, heading_types, formals_of, with_exception, exceptions_of}
use Rattle.clu_checking.specs.Specifications.{Demand, Heading, Form, of_routine, of_cluster, Specification, operations_of, specification_in}
use Rattle.clu_checking.specs.Files.{File, is_refused}
use Rattle.clu_checking.specs.Equates.{type_node, set_named, unless_refused, demands_for, operations_asked, asked_at, with_variable, asked_by_set, asked_by, restricted, restriction_node, demands_by, demands_in}
use Rattle.clu_checking.specs.Headings.{with_heading, listed_headings, for_callers, for_body, types_by, signals_by, formal_types, place_in, outside_type, is_refused_heading, heading_of, is_exported, routines_of, specification_of, own_specifications, or_kept, specification}
use Rattle.clu_passes.specs.Ascending.{Ascends, TypesAscend, SignalsAscend, ActualsAscend, AscendsIf, HeadingsAscend, FormAscends, SpecificationsAscend}
use Rattle.clu_passes.proofs.SettledAscend.{routine_ascends, type_settled_ascends}

-- ---- what holds of each item

abbrev pub Each : {A : Type 0} → (A → Type 0) → List A → Type 0
Each P [] = Unit {0}
Each P (x ∷ xs) = P x × Each P xs

abbrev pub If : {A : Type 0} → (A → Type 0) → Option A → Type 0
If P (Some x) = P x
If P None = Unit {0}

module _ {A : Type 0} (P : A → Type 0) where
  pub each_behind : (xs ys : List A) → Each P xs → Each P ys → Each P (xs ++ ys)
  each_behind [] ys before behind = behind
  each_behind (x ∷ xs) ys before behind = (before.0, each_behind xs ys before.1 behind)

  pub each_found : (test : A → Bool) (xs : List A) → Each P xs → If P (find test xs)
  each_found test [] all = tt
  each_found test (x ∷ xs) all = by (test x) (each_found test xs all.1)
    where
      by : (b : Bool) → If P (find test xs) → If P (cond b (Some x) (find test xs))
      by true more = all.0
      by false more = more

  each_kept : (test : A → Bool) (xs : List A) → Each P xs → Each P (filter test xs)
  each_kept test [] all = tt
  each_kept test (x ∷ xs) all = by (test x) (each_kept test xs all.1)
    where
      by : (b : Bool) → Each P (filter test xs) → Each P (cond b (x ∷ filter test xs) (filter test xs))
      by true more = (all.0, more)
      by false more = more

  pub each_mapped : {B : Type 0} (f : B → A) → ((b : B) → P (f b)) → (bs : List B) → Each P (map f bs)
  each_mapped f holds [] = tt
  each_mapped f holds (b ∷ bs) = (holds b, each_mapped f holds bs)

  pub each_joined : {B : Type 0} (f : B → List A) → ((b : B) → Each P (f b)) → (bs : List B) → Each P (flat_map f bs)
  each_joined f holds [] = tt
  each_joined f holds (b ∷ bs) = each_behind (f b) (flat_map f bs) (holds b) (each_joined f holds bs)

  each_changed : (f : A → A) → ((a : A) → P a → P (f a)) → (xs : List A) → Each P xs → Each P (map f xs)
  each_changed f holds [] all = tt
  each_changed f holds (x ∷ xs) all = (holds x all.0, each_changed f holds xs all.1)

-- ---- what holds of headings, demands and specifications

abbrev pub HeadingUp : Heading → Type 0
HeadingUp h = AscendsIf h.type

abbrev pub DemandUp : Demand → Type 0
DemandUp d = AscendsIf d.wanted

abbrev pub FormUp : Form → Type 0
FormUp (of_routine h) = HeadingUp h
FormUp (of_cluster demands headings) = Each HeadingUp headings

abbrev pub SpecificationUp : Specification → Type 0
SpecificationUp s = FormUp s.form

headings_up : (headings : List Heading) → HeadingsAscend headings → Each HeadingUp headings
headings_up [] all = tt
headings_up (h ∷ headings) all = (all.0, headings_up headings all.1)

form_up : (form : Form) → FormAscends form → FormUp form
form_up (of_routine h) up = up
form_up (of_cluster demands headings) up = headings_up headings up

specifications_up : (specifications : List Specification) → SpecificationsAscend specifications → Each SpecificationUp specifications
specifications_up [] all = tt
specifications_up (s ∷ specifications) all = (form_up s.form all.0, specifications_up specifications all.1)

heading_put : (h : Heading) (headings : List Heading) → HeadingUp h → Each HeadingUp headings → Each HeadingUp (with_heading h headings)
heading_put h [] up all = (up, tt)
heading_put h (g ∷ headings) up all = by (bytes_eq h.name g.name) (comes_after h.name g.name) (heading_put h headings up all.1)
  where
    by : (a b : Bool) → Each HeadingUp (with_heading h headings) → Each HeadingUp (if a then h ∷ headings else (if b then g ∷ with_heading h headings else h ∷ g ∷ headings))
    by true b more = (up, all.1)
    by false true more = (all.0, more)
    by false false more = (up, all)

headings_listed : (headings : List Heading) → Each HeadingUp headings → Each HeadingUp (listed_headings headings)
headings_listed [] all = tt
headings_listed (h ∷ headings) all = heading_put h (listed_headings headings) all.0 (headings_listed headings all.1)

pub operations_up : (form : Form) → FormUp form → Each HeadingUp (operations_of form)
operations_up (of_routine h) up = tt
operations_up (of_cluster demands headings) up = up

-- ---- the own type of a cluster

own_names_ascend : (type : Option TypeExpression) (k : ℕ) (names : List Identifier) (rest : Actuals) → ActualsAscend rest → ActualsAscend (own_names type k names rest)
own_names_ascend None k [] rest all = all
own_names_ascend (Some t) k [] rest all = all
own_names_ascend None k (name ∷ names) rest all = (tt, own_names_ascend None (suc k) names rest all)
own_names_ascend (Some t) k (name ∷ names) rest all = own_names_ascend (Some t) (suc k) names rest all

own_actuals_ascend : (k : ℕ) (ps : List Parameter) → ActualsAscend (own_actuals k ps)
own_actuals_ascend k [] = tt
own_actuals_ascend k (p ∷ ps) = own_names_ascend p.type k p.names (own_actuals (k + length p.names) ps) (own_actuals_ascend (k + length p.names) ps)

-- ---- the types of a heading

abbrev pub SeenUp : HeadingType → Type 0
SeenUp (plain t) = Ascends t
SeenUp (cvt abstract representation) = Ascends abstract × Ascends representation

callers_up : (t : HeadingType) → SeenUp t → Ascends (for_callers t)
callers_up (plain t) up = up
callers_up (cvt abstract representation) up = up.0

pub body_up : (represented : Bool) (t : HeadingType) → SeenUp t → Ascends (for_body represented t)
body_up represented (plain t) up = up
body_up true (cvt abstract representation) up = up.1
body_up false (cvt abstract representation) up = up.0

module _ (seen : HeadingType → CluType) (holds : (t : HeadingType) → SeenUp t → Ascends (seen t)) where
  types_up : (ts : List HeadingType) → Each SeenUp ts → TypesAscend (types_by seen ts)
  types_up [] all = tt
  types_up (t ∷ ts) all = (holds t all.0, types_up ts all.1)

  signals_up : (es : List Exception) → Each (λ (e : Exception). Each SeenUp e.objects) es → SignalsAscend (signals_by seen es)
  signals_up [] all = tt
  signals_up (e ∷ es) all = (types_up e.objects all.0, signals_up es all.1)

formals_up : (formals : List Formal) → Each (λ (formal : Formal). SeenUp formal.type) formals → Each SeenUp (formal_types formals)
formals_up [] all = tt
formals_up (formal ∷ formals) all = (all.0, formals_up formals all.1)

abbrev pub ExceptionUp : Exception → Type 0
ExceptionUp e = Each SeenUp e.objects

abbrev pub FormalUp : Formal → Type 0
FormalUp formal = SeenUp formal.type

module _ (place : Place) (home : AscendsIf place.home) where
  either_up : (own : Option CluType) (t : CluType) → AscendsIf own → Ascends t → SeenUp (type_or place own t)
  either_up (Some c) t own up = (own, up)
  either_up None t own up = up

  pub heading_type_up : (t : TypeExpression) → SeenUp (heading_type place t)
  heading_type_up (a_simple_type n simple.Cvt) = either_up place.home (type_settled place.scope (a_simple_type n simple.Cvt)) home (type_settled_ascends place.scope (a_simple_type n simple.Cvt))
  heading_type_up t = type_settled_ascends place.scope t

  heading_types_up : (ts : TypeExpressions) → Each SeenUp (heading_types place ts)
  heading_types_up no_types = tt
  heading_types_up (type_and t ts) = (heading_type_up t, heading_types_up ts)

  exception_put : (e : Exception) (es : List Exception) → ExceptionUp e → Each ExceptionUp es → Each ExceptionUp (with_exception place e es)
  exception_put e [] up all = (up, tt)
  exception_put e (f ∷ es) up all = by (comes_after e.name f.name) (exception_put e es up all.1)
    where
      by : (b : Bool) → Each ExceptionUp (with_exception place e es) → Each ExceptionUp (if b then f ∷ with_exception place e es else e ∷ f ∷ es)
      by true more = (all.0, more)
      by false more = (up, all)

  exceptions_up : (es : Exceptions) → Each ExceptionUp (exceptions_of place es)
  exceptions_up no_exceptions = tt
  exceptions_up (exception_and n name ts es) = by (bytes_eq name (codes "failure")) (exceptions_up es)
    where
      by : (b : Bool) → Each ExceptionUp (exceptions_of place es) → Each ExceptionUp (if b then exceptions_of place es else with_exception place (record { name = name; objects = heading_types place ts }) (exceptions_of place es))
      by true more = more
      by false more = exception_put (record { name = name; objects = heading_types place ts }) (exceptions_of place es) (heading_types_up ts) more

  abbrev formal_of : Typed → Identifier → Formal
  formal_of d name = record { number = declared_from 0 place.scope.declarations d.node name; type = heading_type place d.type }

  formals_of_up : (ds : List Typed) → Each FormalUp (formals_of place ds)
  formals_of_up [] = tt
  formals_of_up (d ∷ ds) = each_behind FormalUp (map (formal_of d) d.names) (formals_of place ds) (each_mapped FormalUp (formal_of d) (λ name. heading_type_up d.type) d.names) (formals_of_up ds)

  pub outside_up : (f : File) (r : Routine) → Ascends (outside_type f place r)
  outside_up f r =
      routine_ascends r.kind (types_by for_callers (formal_types (formals_of place r.arguments))) (types_by for_callers (heading_types place r.results)) (signals_by for_callers (exceptions_of place r.signals))
      (types_up for_callers callers_up (formal_types (formals_of place r.arguments)) (formals_up (formals_of place r.arguments) (formals_of_up r.arguments)))
      (types_up for_callers callers_up (heading_types place r.results) (heading_types_up r.results)) (signals_up for_callers callers_up (exceptions_of place r.signals) (exceptions_up r.signals))

  heading_of_up : (f : File) (r : Routine) → HeadingUp (heading_of f place r)
  heading_of_up f r = by (is_refused_heading f r)
    where
      by : (b : Bool) → AscendsIf (if b then None else Some (outside_type f place r))
      by true = tt
      by false = outside_up f r

-- ---- of a file

module _ (f : File) where
  pub place_up : (c : Option Cluster) → AscendsIf (place_in f c).home
  place_up (Some c) = own_actuals_ascend 1 c.parameters
  place_up None = tt

  pub routines_up : (c : Cluster) → Each HeadingUp (routines_of f c)
  routines_up c =
      headings_listed (map (heading_of f (cluster_place f.scope c)) c.routines)
      (each_mapped HeadingUp (heading_of f (cluster_place f.scope c)) (λ r. heading_of_up (cluster_place f.scope c) (own_actuals_ascend 1 c.parameters) f r) c.routines)

  shown_up : (m : Module) → SpecificationUp (specification_of f m)
  shown_up (a_routine n es r) = heading_of_up (place_in f None) tt f r
  shown_up (a_cluster n es c) = each_kept HeadingUp (is_exported f c) (routines_of f c) (routines_up c)

  pub specification_up : SpecificationsAscend f.library → (name : Identifier) → If SpecificationUp (specification f name)
  specification_up library name = by (is_stream name) (specification_in (own_specifications f) name) (each_found SpecificationUp (λ s. bytes_eq s.name name) (own_specifications f) (each_mapped SpecificationUp (specification_of f) shown_up (file_of f.nodes)))
    where
      by : (b : Bool) (own : Option Specification) → If SpecificationUp own → If SpecificationUp (if b then None else or_kept f own name)
      by true own up = tt
      by false (Some s) up = up
      by false None up = each_found SpecificationUp (λ s. bytes_eq s.name name) f.library (specifications_up f.library library)

  -- ---- what where clauses ask

  unless_up : (n : ℕ) (t : CluType) → Ascends t → AscendsIf (unless_refused f n t)
  unless_up n t up = by (is_refused f n)
    where
      by : (b : Bool) → AscendsIf (if b then None else Some t)
      by true = tt
      by false = up

  asked_up : (scope : Scope) (k : ℕ) (ds : List Typed) → Each DemandUp (operations_asked f scope k ds)
  asked_up scope k [] = tt
  asked_up scope k (d ∷ ds) =
      each_behind DemandUp (demands_for f scope d.node k d.type false d.names) (operations_asked f scope k ds)
      (each_mapped DemandUp (λ name. let one : Demand = record { node = d.node; parameter = k; operation = name; wanted = unless_refused f (type_node d.type) (type_settled scope d.type); in_set = false } in one) (λ name. unless_up (type_node d.type) (type_settled scope d.type) (type_settled_ascends scope d.type)) d.names) (asked_up scope k ds)

  pub set_up : (k : ℕ) (set : TypeSet) → Each DemandUp (asked_by_set f k set)
  set_up k (a_type_set n variable asked operations es) = asked_up (with_variable f n variable k) k operations

  by_set_up : (n k : ℕ) (set : Option TypeSet) → Each DemandUp (asked_by f n k set)
  by_set_up n k (Some set) = each_changed DemandUp (asked_at f n) (λ d up. up) (asked_by_set f k set) (set_up k set)
  by_set_up n k None = tt

  restricted_up : (r : Restriction) (its : Meaning) → Each DemandUp (restricted f r its)
  restricted_up (has_operations n name operations) (is_type_parameter k) = asked_up f.scope k operations
  restricted_up (is_in n name set) (is_type_parameter k) = by_set_up n k (set_named f n set)
  restricted_up (is_in_set n name set) (is_type_parameter k) = by_set_up n k (Some set)
  restricted_up (has_operations n name operations) _ = tt
  restricted_up (is_in n name set) _ = tt
  restricted_up (is_in_set n name set) _ = tt

  pub demands_up : (rs : List Restriction) → Each DemandUp (demands_in f rs)
  demands_up rs = each_joined DemandUp (demands_by f) (λ r. restricted_up r (meaning_of f.scope (restriction_node f r).0 (restriction_node f r).1)) rs
