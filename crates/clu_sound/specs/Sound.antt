-- Sound specifications: each type of one names kept clusters, with actual parameters of their kinds that meet their demands.
use Rattle.std.specs.Prelude.{◌≡◌, ℕ, List, [], ◌∷◌, ◌++◌, Contains, map, find, length, slice_get, Option, Some, None}
use Rattle.std.specs.Str.{bytes_eq}
use Rattle.clu_types.specs.CluType.{CluType, array_of, sequence_of, record_of, struct_of, oneof_of, variant_of, proc_of, iter_of, cluster_of, CluTypes, no_types, type_and, Fields, no_fields, field_and, Signals, no_signals, signal_and, Actuals, no_actuals, actual_type, actual_const, actual_param}
use Rattle.clu_types.specs.Arena.{types_of}
use Rattle.clu_types.specs.declared.spec.Demand.{Demand}
use Rattle.clu_types.specs.declared.spec.Form.{Form}
use Rattle.clu_types.specs.declared.spec.Form.TheVariants as form
use Rattle.clu_types.specs.declared.spec.OpSpec.{OpSpec}
use Rattle.clu_types.specs.declared.spec.ParamKind.{ParamKind}
use Rattle.clu_types.specs.declared.spec.Spec.{Spec}
use Rattle.clu_types.specs.declared.term.Actual.{Actual}
use Rattle.clu_types.specs.declared.term.Term.{Term}
use Rattle.clu_types.specs.declared.term.Term.TheVariants as term
use Rattle.clu_builtin.specs.Operation.{Needed}
use Rattle.clu_specs.specs.Seen.{Demanded, demand_seen}
use Rattle.clu_specs.specs.Specifications.{DemandsBelow}
use Rattle.clu_demands.specs.Kinds.{AreOfKinds}
use Rattle.clu_demands.specs.Meeting.{Meets, all_demanded, op_type}

-- ---- kinds

-- a module is a cluster with parameters of the kinds of these actuals, in a module with parameters of the kinds `own`
abbrev pub IsInstanceOf : List ParamKind → List Actual → Form → List ParamKind → Type 0
IsInstanceOf own actuals (form.Cluster demands ops) kinds = AreOfKinds own actuals kinds
IsInstanceOf own actuals (form.Routine o) kinds = ⊥

abbrev pub IsInstance : List ParamKind → List Actual → Option Spec → Type 0
IsInstance own actuals None = ⊥
IsInstance own actuals (Some s) = IsInstanceOf own actuals s.form s.kinds

-- a type is none of a cluster, or that of a kept one, with actual parameters of its kinds
abbrev pub IsFormed : List Spec → List ParamKind → Term → Type 0
IsFormed specs own (term.Cluster name actuals) = IsInstance own actuals (find (λ s. bytes_eq s.name name) specs)
IsFormed specs own _ = Unit {0}

abbrev pub AreFormed : List Spec → Spec → Type 0
AreFormed specs s = (n : ℕ) (t : Term) → slice_get s.types n ≡ Some t → IsFormed specs s.kinds t

-- ---- demands

-- the cluster types among the parts of a type, and it itself
abbrev mutual
  pub clusters_in : CluType → List (List ℕ × Actuals)
  clusters_in (array_of t) = clusters_in t
  clusters_in (sequence_of t) = clusters_in t
  clusters_in (record_of fs) = clusters_of_fields fs
  clusters_in (struct_of fs) = clusters_of_fields fs
  clusters_in (oneof_of fs) = clusters_of_fields fs
  clusters_in (variant_of fs) = clusters_of_fields fs
  clusters_in (proc_of args results signals) = clusters_of_types args ++ clusters_of_types results ++ clusters_of_signals signals
  clusters_in (iter_of args results signals) = clusters_of_types args ++ clusters_of_types results ++ clusters_of_signals signals
  clusters_in (cluster_of name actuals) = (name, actuals) ∷ clusters_of_actuals actuals
  clusters_in _ = []

  pub clusters_of_types : CluTypes → List (List ℕ × Actuals)
  clusters_of_types no_types = []
  clusters_of_types (type_and t ts) = clusters_in t ++ clusters_of_types ts

  pub clusters_of_fields : Fields → List (List ℕ × Actuals)
  clusters_of_fields no_fields = []
  clusters_of_fields (field_and name t fs) = clusters_in t ++ clusters_of_fields fs

  pub clusters_of_signals : Signals → List (List ℕ × Actuals)
  clusters_of_signals no_signals = []
  clusters_of_signals (signal_and name ts ss) = clusters_of_types ts ++ clusters_of_signals ss

  pub clusters_of_actuals : Actuals → List (List ℕ × Actuals)
  clusters_of_actuals no_actuals = []
  clusters_of_actuals (actual_type t rest) = clusters_in t ++ clusters_of_actuals rest
  clusters_of_actuals (actual_const c rest) = clusters_of_actuals rest
  clusters_of_actuals (actual_param p rest) = clusters_of_actuals rest

-- what is demanded of these actual parameters is met
abbrev pub AreDemandsMet : List Demanded → List Spec → Spec → List Demand → Actuals → Type 0
AreDemandsMet given specs s demands actuals =
    DemandsBelow (length s.types) demands × ((asks : List Needed) × (all_demanded (types_of s.types) actuals demands ≡ Some asks) × ((a : Needed) → Contains asks a → Meets given specs a))

abbrev pub IsFormInstanceMet : List Demanded → List Spec → Spec → Actuals → Form → Type 0
IsFormInstanceMet given specs s inner (form.Cluster demands ops) = AreDemandsMet given specs s demands inner
IsFormInstanceMet given specs s inner (form.Routine o) = ⊥

abbrev pub IsInstanceMet : List Demanded → List Spec → Actuals → Option Spec → Type 0
IsInstanceMet given specs inner None = ⊥
IsInstanceMet given specs inner (Some s) = IsFormInstanceMet given specs s inner s.form

-- of each cluster among the parts of a type
abbrev pub IsTypeMet : List Demanded → List Spec → CluType → Type 0
IsTypeMet given specs t = (name : List ℕ) (actuals : Actuals) → Contains (clusters_in t) (name, actuals) → IsInstanceMet given specs actuals (find (λ s. bytes_eq s.name name) specs)

abbrev pub AreTypesMet : List Demanded → List Spec → List Demanded → Type 0
AreTypesMet given specs [] = Unit {0}
AreTypesMet given specs (d ∷ ds) = IsTypeMet given specs d.wanted × AreTypesMet given specs ds

-- a routine of a specification with these types, where this is given of type parameters
abbrev pub IsRoutineMet : List Spec → List CluType → List Demand → OpSpec → Type 0
IsRoutineMet specs types given o =
    let gives = map (demand_seen types) given in
    IsTypeMet gives specs (op_type types o) × AreTypesMet gives specs (map (demand_seen types) o.demands)

-- in an operation of a cluster its own demands come before those of the cluster
abbrev pub AreRoutinesMet : List Spec → List CluType → List Demand → List OpSpec → Type 0
AreRoutinesMet specs types demands [] = Unit {0}
AreRoutinesMet specs types demands (o ∷ ops) = IsRoutineMet specs types (o.demands ++ demands) o × AreRoutinesMet specs types demands ops

abbrev pub IsFormMet : List Spec → List CluType → Form → Type 0
IsFormMet specs types (form.Routine o) = IsRoutineMet specs types o.demands o
IsFormMet specs types (form.Cluster demands ops) =
    let seen = map (demand_seen types) demands in
    AreTypesMet seen specs seen × AreRoutinesMet specs types demands ops

abbrev pub IsSound : List Spec → Spec → Type 0
IsSound specs s = AreFormed specs s × IsFormMet specs (types_of s.types) s.form
