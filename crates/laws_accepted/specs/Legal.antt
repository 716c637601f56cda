-- Legal types: those whose actuals are of the kinds that their modules take, and meet what is asked of them; and the routine
-- objects that are lawful in a program of such types.
use Rattle.std.specs.Prelude.{ℕ, Bool, true, false, ◌&&◌, List, [], ◌∷◌, is_none, Option, Some, None}
use Rattle.std.specs.Option.{option_and_then}
use denote.Enum.Bare.{sameb}
use Rattle.clu_types.specs.CluType.{CluType, array_of, sequence_of, record_of, struct_of, oneof_of, variant_of, proc_of, iter_of, cluster_of, parameter, CluTypes, no_types, type_and, Fields, no_fields, field_and, Signals, no_signals, signal_and, Actuals, no_actuals, actual_type, actual_const, actual_param}
use Rattle.clu_types.specs.Substituted.{type_put}
use Rattle.clu_types.specs.declared.spec.ParamKind.{ParamKind}
use Rattle.clu_types.specs.declared.spec.ParamKind.TheVariants as param
use Rattle.clu_types.specs.contracts.spec.ParamKind.{the_type}
use Rattle.clu_meaning.specs.Typed.{type_of_selector}
use Rattle.clu_checking.specs.Specifications.{Demand, Specification, demands_of}
use Rattle.clu_checking.specs.Headings.{nth}
use Rattle.clu_checking.specs.Wanted.{kind_of_constant}
use Rattle.clu_checking.specs.Operations.{meets, is_put_met}

-- the specification of each module, by its name
abbrev pub Specified : Type 0
Specified = List ℕ → Option Specification

-- Where types stand: the kinds of the parameters that they may be over, and what each where clause gives of these.
pub record Context : Type 0 where
  pub kinds : List (Option ParamKind)
  pub clauses : List (List Demand)

-- over no parameters
abbrev pub closed : Context
closed = record { kinds = []; clauses = [] }

-- ---- kinds of parameters

abbrev pub is_kind : ParamKind → Option ParamKind → Bool
is_kind wanted (Some k) = sameb the_type wanted k
is_kind wanted None = false

-- the kind of the parameter of this number, if it is one
abbrev pub kind_of : List (Option ParamKind) → ℕ → Option ParamKind
kind_of kinds n = option_and_then (λ k. k) (nth kinds n)

abbrev pub is_type_parameter : List (Option ParamKind) → ℕ → Bool
is_type_parameter kinds n = is_kind param.OfType (kind_of kinds n)

abbrev pub is_of_constants : ParamKind → Bool
is_of_constants param.OfType = false
is_of_constants _ = true

-- a constant parameter that takes what this one takes
abbrev pub is_as : Option ParamKind → Option ParamKind → Bool
is_as (Some k) given = is_of_constants k && is_kind k given
is_as None given = false

-- an actual for each parameter, each of its kind
abbrev pub are_of_kinds : List (Option ParamKind) → List (Option ParamKind) → Actuals → Bool
are_of_kinds over [] no_actuals = true
are_of_kinds over (k ∷ ks) (actual_type t rest) = is_kind param.OfType k && are_of_kinds over ks rest
are_of_kinds over (k ∷ ks) (actual_const c rest) = is_kind (kind_of_constant c) k && are_of_kinds over ks rest
are_of_kinds over (k ∷ ks) (actual_param p rest) = is_as k (kind_of over p) && are_of_kinds over ks rest
are_of_kinds over _ _ = false

-- each kind is known
abbrev pub all_known : List (Option ParamKind) → Bool
all_known [] = true
all_known (Some k ∷ ks) = all_known ks
all_known (None ∷ ks) = false

-- selectors that differ from each other
abbrev pub are_distinct : Fields → Bool
are_distinct no_fields = true
are_distinct (field_and s t rest) = is_none (type_of_selector rest s) && are_distinct rest

-- ---- legal types

module _ (context : Context) (specified : Specified) where
  abbrev pub meets_here : CluType → List ℕ → CluType → Bool
  meets_here = meets context.clauses specified

  -- what is asked of actuals is met
  abbrev pub is_demand_met : Actuals → Demand → Bool
  is_demand_met given d = is_put_met (λ k op wanted. meets_here (type_put given k) op wanted) given d d.wanted

  abbrev pub are_demands_met : Actuals → List Demand → Bool
  are_demands_met given [] = true
  are_demands_met given (d ∷ ds) = is_demand_met given d && are_demands_met given ds

  -- actuals that the module of this specification takes
  abbrev pub is_instance : Option Specification → Actuals → Bool
  is_instance (Some s) given = are_of_kinds context.kinds s.kinds given && are_demands_met given (demands_of s.form)
  is_instance None given = false

  abbrev mutual
    pub is_legal : CluType → Bool
    is_legal (array_of t) = is_legal t
    is_legal (sequence_of t) = is_legal t
    is_legal (record_of fs) = are_distinct fs && fields_legal fs
    is_legal (struct_of fs) = are_distinct fs && fields_legal fs
    is_legal (oneof_of fs) = are_distinct fs && fields_legal fs
    is_legal (variant_of fs) = are_distinct fs && fields_legal fs
    is_legal (proc_of args results signals) = types_legal args && types_legal results && signals_legal signals
    is_legal (iter_of args results signals) = types_legal args && types_legal results && signals_legal signals
    is_legal (cluster_of c given) = actuals_legal given && is_instance (specified c) given
    is_legal (parameter n) = is_type_parameter context.kinds n
    is_legal _ = true

    pub types_legal : CluTypes → Bool
    types_legal no_types = true
    types_legal (type_and t ts) = is_legal t && types_legal ts

    pub fields_legal : Fields → Bool
    fields_legal no_fields = true
    fields_legal (field_and s t fs) = is_legal t && fields_legal fs

    pub signals_legal : Signals → Bool
    signals_legal no_signals = true
    signals_legal (signal_and s ts signals) = types_legal ts && signals_legal signals

    pub actuals_legal : Actuals → Bool
    actuals_legal no_actuals = true
    actuals_legal (actual_type t rest) = is_legal t && actuals_legal rest
    actuals_legal (actual_const c rest) = actuals_legal rest
    actuals_legal (actual_param p rest) = actuals_legal rest

-- ---- specifications whose types are legal

-- inside a routine with these demands of its own, in a module of this specification
abbrev pub context_of : Specification → List Demand → Context
context_of s own = record { kinds = s.kinds; clauses = own ∷ demands_of s.form ∷ [] }
