-- What is demanded of the actual parameters of a cluster's type, and the types of a module.
use Rattle.std.proofs.Common.{◌≡◌, ◌↔◌, ◌⊎◌, inl, inr, ℕ, ◌+◌, ◌<◌, ◌≤◌, zero, suc, Bool, true, false, true≢false, List, [], ◌∷◌, ◌++◌, Contains, map, fold, find, length, drop, get_or, slice_get, Option, Some, None, Result, Ok, Err, IfOk, OnOk, IsTrue, refl, sym, ap, ◌∙◌, subst, arith}
use Rattle.std.specs.Str.{bytes_eq}
use Rattle.std.proofs.Math.Dec.{ltb}
use borrow.Author.Tests.{ltb-true, ltb-false}
use Rattle.std.proofs.lemmas.Option.{slice_get_within, same_Some}
use Rattle.std.proofs.lemmas.List.{append-nil, drop_all}
use Rattle.clu_base.specs.declared.errors.Memory.{Memory}
use Rattle.clu_base.proofs.Lists.{none_is_not, in_none}
use Rattle.clu_types.specs.CluType.{CluType, CluTypes, Signals, Actuals}
use Rattle.clu_types.specs.Arena.{type_at, actuals_at, type_of, types_of, AreBelow, PartsBelow, Grows}
use Rattle.clu_types.specs.declared.spec.Demand.{Demand}
use Rattle.clu_types.specs.declared.spec.Form.{Form}
use Rattle.clu_types.specs.declared.spec.Form.TheVariants as form
use Rattle.clu_types.specs.declared.spec.OpSpec.{OpSpec}
use Rattle.clu_types.specs.declared.spec.ParamKind.{ParamKind}
use Rattle.clu_types.specs.declared.spec.Spec.{Spec}
use Rattle.clu_types.specs.declared.term.Actual.{Actual}
use Rattle.clu_types.specs.declared.term.TypeId.{TypeId}
use Rattle.clu_types.specs.declared.term.Term.{Term}
use Rattle.clu_types.specs.declared.term.Term.TheVariants as term
use Rattle.clu_types.proofs.Arenas.{types_grown}
use Rattle.clu_types.proofs.Carrying.{grows_on, length_grows, ids_grown}
use Rattle.clu_types.proofs.Equality.{join3}
use Rattle.clu_types.proofs.Parts.{types_same, signals_same, signals_more}
use Rattle.clu_builtin.specs.Operation.{Needed}
use Rattle.clu_specs.specs.Seen.{Demanded, demand_seen}
use Rattle.clu_specs.specs.Specifications.{DemandsBelow, OpBelow, OpsBelow, FormBelow, SpecHolds}
use Rattle.clu_demands.specs.declared.needs.Asked.{Asked}
use Rattle.clu_demands.specs.declared.needs.Instance.{Instance}
use Rattle.clu_demands.specs.Asking.{all_seen, seen_if, instance_of}
use Rattle.clu_demands.specs.Meeting.{Meets, all_demanded, op_type, routine_type}
use Rattle.clu_sound.specs.Parts.{part_types, op_types, wanted_types, with_id, with_wanted, with_op}
use Rattle.clu_sound.specs.Sound.{IsInstanceOf, IsInstance, IsFormed, AreFormed, AreDemandsMet, IsFormInstanceMet, IsInstanceMet, IsTypeMet, AreTypesMet, IsRoutineMet, AreRoutinesMet, IsFormMet, IsSound}
use Rattle.clu_sound.specs.Visiting.{IsOwnMet, AreIdsMet, AreAllMet, DemandsNothing, FormDemandsNothing, TermDemandsNothing, NothingDemanded}
use Rattle.clu_demands.proofs.Seen.{demands_same, demands_more}
use Rattle.clu_demands.proofs.Answering.{instance_type}
use Rattle.clu_sound.proofs.Growing.{op_folded, demands_folded, all_here, all_from, below_all, below_in, parts_below, op_below, wanted_below}
use Rattle.clu_sound.proofs.Parting.{ids_each, ids_in, whole_met, wanted_to, wanted_from, op_to, op_from, no_instance}
use Rattle.clu_sound.proofs.PartsMet.{all_each, each_all, ok_iff, next_here}

-- ---- the type of a cluster

pub own_instance : (given : List Demanded) (specs : List Spec) (types : List CluType) (t : Term) (u : CluType) (i : Instance) → u ≡ type_of types t → Some i ≡ instance_of t → (r : Result Bool Memory)
    → IfOk r (λ met. IsTrue met ↔ IsInstanceMet given specs (actuals_at types i.actuals) (find (λ s. bytes_eq s.name i.name) specs)) → IfOk r (λ met. IsTrue met ↔ IsOwnMet given specs u)
own_instance given specs types t u i is e r h =
    subst (λ (x : CluType). IfOk r (λ met. IsTrue met ↔ IsOwnMet given specs x)) (sym (is ∙ instance_type types t i e)) h

pub own_none : (given : List Demanded) (specs : List Spec) (types : List CluType) (t : Term) (u : CluType) → u ≡ type_of types t → None ≡ instance_of t → IsTrue true ↔ IsOwnMet given specs u
own_none given specs types t u is e = (λ t'. subst (IsOwnMet given specs) (sym is) (no_instance given specs types t e), λ o. refl)

pub instance_kept : (given : List Demanded) (specs : List Spec) (params : Actuals) (s : Spec) (o : Option Spec) → Some s ≡ o → (r : Result Bool Memory)
    → IfOk r (λ met. IsTrue met ↔ IsFormInstanceMet given specs s params s.form) → IfOk r (λ met. IsTrue met ↔ IsInstanceMet given specs params o)
instance_kept given specs params s o e r h = subst (λ (x : Option Spec). IfOk r (λ met. IsTrue met ↔ IsInstanceMet given specs params x)) e h

pub instance_none : (given : List Demanded) (specs : List Spec) (params : Actuals) (o : Option Spec) → None ≡ o → IsTrue false ↔ IsInstanceMet given specs params o
instance_none given specs params o e = subst (λ (x : Option Spec). IsTrue false ↔ IsInstanceMet given specs params x) e (λ t. absurd (true≢false (sym t)), λ h. absurd h)

-- ---- demands with actual parameters put in

module _ (given : List Demand) (specs : List Spec) (s : Spec) (demands : List Demand) (params : Actuals) (start now : List Term) (g : Grows start now) (given_in : DemandsBelow (length start) given) (low : DemandsBelow (length s.types) demands) where
  abbrev then_given : List Demanded
  then_given = map (demand_seen (types_of start)) given

  abbrev now_given : List Demanded
  now_given = map (demand_seen (types_of now)) given

  same_given : now_given ≡ then_given
  same_given = demands_same start now g given given_in

  pub demands_met : (asked : List Asked) → seen_if (types_of now) (Some asked) ≡ all_demanded (types_of s.types) params demands → (r : Result Bool Memory)
      → IfOk r (λ met. IsTrue met ↔ AreAllMet now_given specs (types_of now) asked) → IfOk r (λ met. IsTrue met ↔ AreDemandsMet then_given specs s demands params)
  demands_met asked is r h = ok_iff (AreAllMet now_given specs (types_of now) asked) (AreDemandsMet then_given specs s demands params) to from r h
    where
      to : AreAllMet now_given specs (types_of now) asked → AreDemandsMet then_given specs s demands params
      to m = (low, (all_seen (types_of now) asked, sym is, λ a c. subst (λ (gs : List Demanded). Meets gs specs a) same_given (all_each now_given specs (types_of now) asked m a c)))

      from : AreDemandsMet then_given specs s demands params → AreAllMet now_given specs (types_of now) asked
      from m =
          let same : m.1.0 ≡ all_seen (types_of now) asked = same_Some m.1.0 (all_seen (types_of now) asked) (sym m.1.1 ∙ sym is) in
          each_all now_given specs (types_of now) asked
          (λ a c. subst (λ (gs : List Demanded). Meets gs specs a) (sym same_given) (m.1.2 a (subst (λ (l : List Needed). Contains l a) (sym same) c)))

  pub demands_none : None ≡ all_demanded (types_of s.types) params demands → IsTrue false ↔ AreDemandsMet then_given specs s demands params
  demands_none none = (λ t. absurd (true≢false (sym t)), λ m. none_is_not m.1.0 (none ∙ m.1.1))

-- ---- the types that a list was filled with

module _ (given : List Demanded) (specs : List Spec) (types : List CluType) (more : List TypeId) where
  filled_to : AreIdsMet given specs types (fold with_id [] more) → AreIdsMet given specs types more
  filled_to h = ids_each given specs types more (λ p c. ids_in given specs types (fold with_id [] more) h p (all_here [] more p c))

  filled_from : AreIdsMet given specs types more → AreIdsMet given specs types (fold with_id [] more)
  filled_from h = ids_each given specs types (fold with_id [] more) (λ p c. by p (all_from [] more p c))
    where
      by : (p : TypeId) → Contains [] p ⊎ Contains more p → IsTypeMet given specs (type_at types p)
      by p (inl c) = in_none p c
      by p (inr c) = ids_in given specs types more h p c

  pub filled_ok : (P : Type 0) → (AreIdsMet given specs types more → P) → (P → AreIdsMet given specs types more) → (ids : List TypeId) → ids ≡ fold with_id [] more → (r : Result Bool Memory)
      → IfOk r (λ met. IsTrue met ↔ AreIdsMet given specs types ids) → IfOk r (λ met. IsTrue met ↔ P)
  filled_ok P to from ids is r h =
      ok_iff (AreIdsMet given specs types ids) P (λ m. to (filled_to (subst (AreIdsMet given specs types) is m))) (λ p. subst (AreIdsMet given specs types) (sym is) (filled_from (from p))) r h

pub wanted_filled : (none ids : List TypeId) (ds : List Demand) → none ≡ [] → ids ≡ fold with_wanted none ds → ids ≡ fold with_id [] (wanted_types ds)
wanted_filled none ids ds empty is = is ∙ ap (λ (l : List TypeId). fold with_wanted l ds) empty ∙ demands_folded [] ds

pub op_filled : (none ids : List TypeId) (o : OpSpec) → none ≡ [] → ids ≡ with_op none o → ids ≡ fold with_id [] (op_types o)
op_filled none ids o empty is = is ∙ ap (λ (l : List TypeId). with_op l o) empty ∙ op_folded [] o

pub wanted_in : (n : ℕ) (ids : List TypeId) (ds : List Demand) → ids ≡ fold with_id [] (wanted_types ds) → DemandsBelow n ds → AreBelow n ids
wanted_in n ids ds is low = subst (AreBelow n) (sym is) (below_all n [] (wanted_types ds) tt (wanted_below n ds low))

pub op_in : (n : ℕ) (ids : List TypeId) (o : OpSpec) → ids ≡ fold with_id [] (op_types o) → OpBelow n o → AreBelow n ids
op_in n ids o is low = subst (AreBelow n) (sym is) (below_all n [] (op_types o) tt (op_below n o low))

pub wanted_ok : (given : List Demanded) (specs : List Spec) (types : List CluType) (ds : List Demand) (ids : List TypeId) → ids ≡ fold with_id [] (wanted_types ds) → (r : Result Bool Memory)
    → IfOk r (λ met. IsTrue met ↔ AreIdsMet given specs types ids) → IfOk r (λ met. IsTrue met ↔ AreTypesMet given specs (map (demand_seen types) ds))
wanted_ok given specs types ds ids is r h = filled_ok given specs types (wanted_types ds) (AreTypesMet given specs (map (demand_seen types) ds)) (wanted_from given specs types ds) (wanted_to given specs types ds) ids is r h

pub op_ok : (given : List Demand) (specs : List Spec) (types : List CluType) (o : OpSpec) (ids : List TypeId) → ids ≡ fold with_id [] (op_types o) → (r : Result Bool Memory)
    → IfOk r (λ met. IsTrue met ↔ AreIdsMet (map (demand_seen types) given) specs types ids) → IfOk r (λ met. IsTrue met ↔ IsRoutineMet specs types given o)
op_ok given specs types o ids is r h = filled_ok (map (demand_seen types) given) specs types (op_types o) (IsRoutineMet specs types given o) (op_from specs types given o) (op_to specs types given o) ids is r h

-- ---- the same routine, told of an arena that has grown

module _ (specs : List Spec) (start now : List Term) (g : Grows start now) where
  abbrev Told : List Demanded → CluType → List Demanded → Type 0
  Told gives t wanted = IsTypeMet gives specs t × AreTypesMet gives specs wanted

  told_as : (a b : List Demanded) → a ≡ b → (t u : CluType) → t ≡ u → (v w : List Demanded) → v ≡ w → Told a t v → Told b u w
  told_as a b p t u q v w r h = subst (λ (x : List Demanded). Told b u x) r (subst (λ (x : CluType). Told b x v) q (subst (λ (x : List Demanded). Told x t v) p h))

  same_routine : (b : Bool) (p q : CluTypes) (r t : CluTypes) (s u : Signals) → p ≡ q → r ≡ t → s ≡ u → routine_type b p r s ≡ routine_type b q t u
  same_routine b p q r t s u d e f = join3 (routine_type b) d e f

  same_op : (o : OpSpec) → OpBelow (length start) o → op_type (types_of now) o ≡ op_type (types_of start) o
  same_op o low =
      same_routine o.iter _ _ _ _ _ _ (types_same (types_of now) (types_of start) (length start) (types_grown start now g) o.heading.args low.0.0)
      (types_same (types_of now) (types_of start) (length start) (types_grown start now g) o.heading.results low.0.1)
      (signals_same (types_of now) (types_of start) (length start) (types_grown start now g) o.heading.signals low.0.2)

  pub routine_then : (given : List Demand) (o : OpSpec) → DemandsBelow (length start) given → OpBelow (length start) o → IsRoutineMet specs (types_of now) given o → IsRoutineMet specs (types_of start) given o
  routine_then given o given_in low h = told_as _ _ (demands_same start now g given given_in) _ _ (same_op o low) _ _ (demands_same start now g o.demands low.1) h

  pub routine_now : (given : List Demand) (o : OpSpec) → DemandsBelow (length start) given → OpBelow (length start) o → IsRoutineMet specs (types_of start) given o → IsRoutineMet specs (types_of now) given o
  routine_now given o given_in low h = told_as _ _ (sym (demands_same start now g given given_in)) _ _ (sym (same_op o low)) _ _ (sym (demands_same start now g o.demands low.1)) h

pub both_in : (n : ℕ) (xs ys : List Demand) → DemandsBelow n xs → DemandsBelow n ys → DemandsBelow n (xs ++ ys)
both_in n [] ys a b = b
both_in n (x ∷ xs) ys a b = (a.0, both_in n xs ys a.1 b)

-- ---- routines, one after the other

op_here : (n : ℕ) (ops : List OpSpec) (i : ℕ) (d : OpSpec) → OpsBelow n ops → i < length ops → OpBelow n (get_or ops i d)
op_here n [] i d b lt = absurd (omega arith)
op_here n (x ∷ xs) zero d b lt = b.0
op_here n (x ∷ xs) (suc i) d b lt = op_here n xs i d b.1 (omega arith)

pub op_at : (n : ℕ) (ops : List OpSpec) (i : ℕ) (o : OpSpec) → o ≡ get_or ops i o → OpsBelow n ops → i < length ops → OpBelow n o
op_at n ops i o is b lt = subst (OpBelow n) (sym is) (op_here n ops i o b lt)

module _ (specs : List Spec) (start : List Term) (demands : List Demand) (all : List OpSpec) where
  abbrev Routines : List OpSpec → Type 0
  Routines ops = AreRoutinesMet specs (types_of start) demands ops

  pub record AreRoutinesTo (now : List Term) (i : ℕ) : Type 0 where
    pub grows : Grows start now
    pub here : Routines all → Routines (drop i all)
    pub from : Routines (drop i all) → Routines all

  pub routines_first : AreRoutinesTo start 0
  routines_first = record { grows = ([], sym (append-nil start)); here = λ m. m; from = λ m. m }

  module _ (now newer : List Term) (i : ℕ) (o : OpSpec) (b : Bool) (demands_in : DemandsBelow (length start) demands) (ops_in : OpsBelow (length start) all) (lt : i < length all) (is : o ≡ get_or all i o) (so_far : AreRoutinesTo now i) (g : Grows now newer)
      (one : IsTrue b ↔ IsRoutineMet specs (types_of now) (o.demands ++ demands) o) where
    op_low : OpBelow (length start) o
    op_low = op_at (length start) all i o is ops_in lt

    given_in : DemandsBelow (length start) (o.demands ++ demands)
    given_in = both_in (length start) o.demands demands op_low.1 demands_in

    pub routines_more : b ≡ true → AreRoutinesTo newer (i + 1)
    routines_more so = record {
      grows = grows_on start now newer so_far.grows g;
      here = λ m. (subst Routines (next_here all i o is lt) (so_far.here m)).1;
      from = λ m. so_far.from (subst Routines (sym (next_here all i o is lt)) (routine_then specs start now so_far.grows (o.demands ++ demands) o given_in op_low (one.0 so), m));
    }

    pub routines_not : b ≡ false → Routines all → ⊥
    routines_not not_so m =
        let this : IsRoutineMet specs (types_of start) (o.demands ++ demands) o = (subst Routines (next_here all i o is lt) (so_far.here m)).0 in
        true≢false (sym (one.1 (routine_now specs start now so_far.grows (o.demands ++ demands) o given_in op_low this)) ∙ not_so)

  pub routines_all : (now : List Term) (i : ℕ) → length all ≤ i → AreRoutinesTo now i → Routines all
  routines_all now i le so_far = so_far.from (subst Routines (sym (drop_all i all le)) tt)

-- a cluster's routines, told of an arena that has grown
pub routines_then : (specs : List Spec) (start now : List Term) → Grows start now → (demands : List Demand) → DemandsBelow (length start) demands → (ops : List OpSpec) → OpsBelow (length start) ops
    → AreRoutinesMet specs (types_of now) demands ops → AreRoutinesMet specs (types_of start) demands ops
routines_then specs start now g demands low [] b h = tt
routines_then specs start now g demands low (o ∷ ops) b h =
    (routine_then specs start now g (o.demands ++ demands) o (both_in (length start) o.demands demands b.0.1 low) b.0 h.0, routines_then specs start now g demands low ops b.1 h.1)

pub routines_now : (specs : List Spec) (start now : List Term) → Grows start now → (demands : List Demand) → DemandsBelow (length start) demands → (ops : List OpSpec) → OpsBelow (length start) ops
    → AreRoutinesMet specs (types_of start) demands ops → AreRoutinesMet specs (types_of now) demands ops
routines_now specs start now g demands low [] b h = tt
routines_now specs start now g demands low (o ∷ ops) b h =
    (routine_now specs start now g (o.demands ++ demands) o (both_in (length start) o.demands demands b.0.1 low) b.0 h.0, routines_now specs start now g demands low ops b.1 h.1)

-- ---- where nothing is demanded

module _ (specs : List Spec) (own : List ParamKind) (given : List Demanded) (types : List CluType) where
  form_nothing : (s : Spec) (params : Actuals) (f : Form) → FormDemandsNothing f → (actuals : List Actual) → IsInstanceOf own actuals f s.kinds → IsFormInstanceMet given specs s params f
  form_nothing s params (form.Cluster demands ops) none actuals i = subst (λ (ds : List Demand). AreDemandsMet given specs s ds params) (sym none) (tt, ([], refl, λ a c. in_none a c))
  form_nothing s params (form.Routine o) none actuals i = absurd i

  option_nothing : (params : Actuals) (o : Option Spec) → DemandsNothing o → (actuals : List Actual) → IsInstance own actuals o → IsInstanceMet given specs params o
  option_nothing params None none actuals i = absurd i
  option_nothing params (Some s) none actuals i = form_nothing s params s.form none actuals i

  own_nothing : (t : Term) → TermDemandsNothing specs t → IsFormed specs own t → IsOwnMet given specs (type_of types t)
  own_nothing term.Null n f = tt
  own_nothing term.Bool n f = tt
  own_nothing term.Int n f = tt
  own_nothing term.Char n f = tt
  own_nothing term.Str n f = tt
  own_nothing term.Any n f = tt
  own_nothing term.Stream n f = tt
  own_nothing (term.Array of) n f = tt
  own_nothing (term.Sequence of) n f = tt
  own_nothing (term.Record fs) n f = tt
  own_nothing (term.Struct fs) n f = tt
  own_nothing (term.Oneof fs) n f = tt
  own_nothing (term.Variant fs) n f = tt
  own_nothing (term.Proc h) n f = tt
  own_nothing (term.Iter h) n f = tt
  own_nothing (term.Cluster name actuals) n f = option_nothing (actuals_at types actuals) (find (λ s. bytes_eq s.name name) specs) n actuals f
  own_nothing (term.Param p) n f = tt

module _ (specs : List Spec) (s : Spec) (none : NothingDemanded specs s.types) (formed : AreFormed specs s) where
  all_met : (given : List Demanded) (id : TypeId) → id.0 < length s.types → IsTypeMet given specs (type_at (types_of s.types) id)
  all_met given = whole_met given specs (types_of s.types) (λ (id : TypeId). id.0 < length s.types) whole
    where
      whole : (id : TypeId) → id.0 < length s.types → (t : Term) × (type_at (types_of s.types) id ≡ type_of (types_of s.types) t) × PartsBelow id.0 t × IsOwnMet given specs (type_at (types_of s.types) id) × ((p : TypeId) → Contains (part_types t) p → p.0 < length s.types)
      whole id lt =
          let n = none id lt in
          (n.0, n.3, n.2, subst (IsOwnMet given specs) (sym n.3) (own_nothing specs s.kinds given (types_of s.types) n.0 n.4 (formed id.0 n.0 n.1)), λ p c. let low : p.0 < id.0 = below_in id.0 (part_types n.0) p (parts_below id.0 n.0 n.2) c in omega (arith, low, lt))

  routine_met : (given : List Demand) (o : OpSpec) → OpBelow (length s.types) o → IsRoutineMet specs (types_of s.types) given o
  routine_met given o low =
      let gives : List Demanded = map (demand_seen (types_of s.types)) given in
      op_from specs (types_of s.types) given o (ids_each gives specs (types_of s.types) (op_types o) (λ p c. all_met gives p (below_in (length s.types) (op_types o) p (op_below (length s.types) o low) c)))

  routines_met : (demands : List Demand) (ops : List OpSpec) → OpsBelow (length s.types) ops → AreRoutinesMet specs (types_of s.types) demands ops
  routines_met demands [] low = tt
  routines_met demands (o ∷ ops) low = (routine_met (o.demands ++ demands) o low.0, routines_met demands ops low.1)

  form_met : (f : Form) → FormBelow (length s.types) f → IsFormMet specs (types_of s.types) f
  form_met (form.Routine o) low = routine_met o.demands o low
  form_met (form.Cluster demands ops) low =
      let gives : List Demanded = map (demand_seen (types_of s.types)) demands in (
        wanted_from gives specs (types_of s.types) demands (ids_each gives specs (types_of s.types) (wanted_types demands) (λ p c. all_met gives p (below_in (length s.types) (wanted_types demands) p (wanted_below (length s.types) demands low.0) c))),
        routines_met demands ops low.1,
      )

  pub nothing_met : SpecHolds s → IsTrue true ↔ IsFormMet specs (types_of s.types) s.form
  nothing_met holds = (λ t. form_met s.form holds, λ m. refl)

-- ---- the whole

pub sound_then : (specs : List Spec) (s : Spec) → AreFormed specs s → (r : Result Bool Memory) → IfOk r (λ met. IsTrue met ↔ IsFormMet specs (types_of s.types) s.form) → IfOk r (λ sound. IsTrue sound ↔ IsSound specs s)
sound_then specs s formed r h = ok_iff (IsFormMet specs (types_of s.types) s.form) (IsSound specs s) (λ m. (formed, m)) (λ m. m.1) r h

pub on_both : (P Q : Type 0) (r : Result Bool Memory) → OnOk r P → OnOk r Q → OnOk r (P × Q)
on_both P Q (Ok b) p q = (p, q)
on_both P Q (Err e) p q = tt

-- ---- terms, one after the other

module _ (specs : List Spec) (own : List ParamKind) (terms : List Term) (n : ℕ) where
  pub formed_more : (t : Term) → slice_get terms n ≡ Some t → ((k : ℕ) (u : Term) → k < n → slice_get terms k ≡ Some u → IsFormed specs own u) → IsFormed specs own t
      → (k : ℕ) (u : Term) → k < n + 1 → slice_get terms k ≡ Some u → IsFormed specs own u
  formed_more t at h this k u lt e = by (ltb k n) refl
    where
      by : (b : Bool) → ltb k n ≡ b → IsFormed specs own u
      by true less = h k u (omega (arith, ltb-true)) e
      by false last =
          let here : k ≡ n = omega (arith, ltb-false, lt) in
          subst (IsFormed specs own) (same_Some t u (sym at ∙ ap (slice_get terms) (sym here) ∙ e)) this

  pub formed_all : length terms ≤ n → ((k : ℕ) (u : Term) → k < n → slice_get terms k ≡ Some u → IsFormed specs own u) → (k : ℕ) (u : Term) → slice_get terms k ≡ Some u → IsFormed specs own u
  formed_all le h k u e = h k u (omega (arith, slice_get_within terms k u e, le)) e

module _ (specs : List Spec) (terms : List Term) (n : ℕ) (t : Term) where
  abbrev IsPlain : TypeId → Type 0
  IsPlain id = (u : Term) × (slice_get terms id.0 ≡ Some u) × PartsBelow id.0 u × (type_at (types_of terms) id ≡ type_of (types_of terms) u) × TermDemandsNothing specs u

  abbrev nth : TypeId
  nth = record { 0 = n }

  pub demanding_more : slice_get terms n ≡ Some t → PartsBelow n t → type_at (types_of terms) nth ≡ type_of (types_of terms) t → TermDemandsNothing specs t → ((id : TypeId) → id.0 < n → IsPlain id) → (id : TypeId) → id.0 < n + 1 → IsPlain id
  demanding_more at low is none h id lt = by (ltb id.0 n) refl
    where
      by : (b : Bool) → ltb id.0 n ≡ b → IsPlain id
      by true less = h id (omega (arith, ltb-true))
      by false last =
          let here : n ≡ id.0 = omega (arith, ltb-false, lt) in
          subst (λ (m : ℕ). IsPlain (let p : TypeId = record { 0 = m } in p)) here (t, at, low, is, none)

-- ---- what is kept of a name

pub kept_some : (own : List ParamKind) (actuals : List Actual) (s : Spec) (o : Option Spec) → Some s ≡ o → (r : Bool) → IsTrue r ↔ IsInstanceOf own actuals s.form s.kinds → IsTrue r ↔ IsInstance own actuals o
kept_some own actuals s o e r h = subst (λ (x : Option Spec). IsTrue r ↔ IsInstance own actuals x) e h

pub kept_none : (own : List ParamKind) (actuals : List Actual) (o : Option Spec) → None ≡ o → IsTrue false ↔ IsInstance own actuals o
kept_none own actuals o e = subst (λ (x : Option Spec). IsTrue false ↔ IsInstance own actuals x) e (λ t. absurd (true≢false (sym t)), λ h. absurd h)

-- ---- an arena that has grown

pub op_grown : (start now : List Term) → Grows start now → (o : OpSpec) → OpBelow (length start) o → OpBelow (length now) o
op_grown start now g o low =
    ((ids_grown start now g o.heading.args low.0.0, ids_grown start now g o.heading.results low.0.1, signals_more (length start) (length now) (length_grows start now g) o.heading.signals low.0.2), demands_more (length start) (length now) (length_grows start now g) o.demands low.1)

pub ops_below : (start now : List Term) → Grows start now → (ops : List OpSpec) → OpsBelow (length start) ops → OpsBelow (length now) ops
ops_below start now g [] low = tt
ops_below start now g (o ∷ ops) low = (op_grown start now g o low.0, ops_below start now g ops low.1)

pub cluster_then : (specs : List Spec) (start now : List Term) → Grows start now → (demands : List Demand) → DemandsBelow (length start) demands → (ops : List OpSpec) → OpsBelow (length start) ops
    → AreTypesMet (map (demand_seen (types_of start)) demands) specs (map (demand_seen (types_of start)) demands) → (r : Result Bool Memory)
    → IfOk r (λ met. IsTrue met ↔ AreRoutinesMet specs (types_of now) demands ops) → IfOk r (λ met. IsTrue met ↔ IsFormMet specs (types_of start) (form.Cluster demands ops))
cluster_then specs start now g demands low ops ops_in own r h =
    ok_iff (AreRoutinesMet specs (types_of now) demands ops) (IsFormMet specs (types_of start) (form.Cluster demands ops))
    (λ m. (own, routines_then specs start now g demands low ops ops_in m)) (λ m. routines_now specs start now g demands low ops ops_in m.1) r h

-- ---- a form, told by its parts

pub form_routine : (specs : List Spec) (types : List CluType) (f : Form) (o : OpSpec) → f ≡ form.Routine o → (given : List Demand) → given ≡ o.demands → (r : Result Bool Memory)
    → IfOk r (λ met. IsTrue met ↔ IsRoutineMet specs types given o) → IfOk r (λ met. IsTrue met ↔ IsFormMet specs types f)
form_routine specs types f o is given own r h =
    subst (λ (x : Form). IfOk r (λ met. IsTrue met ↔ IsFormMet specs types x)) (sym is) (subst (λ (ds : List Demand). IfOk r (λ met. IsTrue met ↔ IsRoutineMet specs types ds o)) own h)

pub form_cluster : (specs : List Spec) (types : List CluType) (f : Form) (demands : List Demand) (ops : List OpSpec) → f ≡ form.Cluster demands ops → (ds : List Demand) → ds ≡ demands → (os : List OpSpec) → os ≡ ops → (r : Result Bool Memory)
    → IfOk r (λ met. IsTrue met ↔ IsFormMet specs types (form.Cluster ds os)) → IfOk r (λ met. IsTrue met ↔ IsFormMet specs types f)
form_cluster specs types f demands ops is ds same os all r h =
    subst (λ (x : Form). IfOk r (λ met. IsTrue met ↔ IsFormMet specs types x)) (sym is)
    (subst (λ (l : List OpSpec). IfOk r (λ met. IsTrue met ↔ IsFormMet specs types (form.Cluster demands l))) all
    (subst (λ (l : List Demand). IfOk r (λ met. IsTrue met ↔ IsFormMet specs types (form.Cluster l os))) same h))
