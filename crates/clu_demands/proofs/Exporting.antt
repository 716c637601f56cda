-- What an exported operation of a cluster asks, step by step.
use Rattle.std.proofs.Common.{◌≡◌, ℕ, ◌+◌, ◌<◌, ◌≤◌, zero, suc, List, [], ◌∷◌, ◌++◌, length, find, drop, get_or, Option, Some, None, Result, Ok, Err, IfOk, refl, sym, ap, ◌∙◌, subst, append_assoc, arith}
use Rattle.std.specs.Str.{bytes_eq}
use Rattle.std.proofs.Math.Seq.{drop-cons}
use Rattle.std.proofs.lemmas.List.{append-nil, drop_all}
use Rattle.std.proofs.lemmas.Option.{same_Some}
use Rattle.clu_base.specs.declared.errors.Memory.{Memory}
use Rattle.clu_base.proofs.Lists.{none_is_not}
use Rattle.clu_types.specs.CluType.{CluType, Actuals}
use Rattle.clu_types.specs.Arena.{type_at, types_of, actuals_at, ActualsBelow, Grows}
use Rattle.clu_types.specs.Included.{Included}
use Rattle.clu_types.specs.Substituted.{substituted}
use Rattle.clu_types.specs.declared.spec.Demand.{Demand}
use Rattle.clu_types.specs.declared.spec.OpSpec.{OpSpec}
use Rattle.clu_types.specs.declared.spec.Spec.{Spec}
use Rattle.clu_types.specs.declared.term.Actual.{Actual}
use Rattle.clu_types.specs.declared.term.TypeId.{TypeId}
use Rattle.clu_types.specs.declared.term.Term.{Term}
use Rattle.clu_types.proofs.Arenas.{types_grown}
use Rattle.clu_types.proofs.Carrying.{grows_on, length_grows, given_grown}
use Rattle.clu_types.proofs.Equality.{join3}
use Rattle.clu_builtin.specs.Operation.{Needed}
use Rattle.clu_specs.specs.Specifications.{DemandsBelow, OpBelow}
use Rattle.clu_demands.specs.declared.needs.Asked.{Asked}
use Rattle.clu_demands.specs.Kinds.{MayBeOf}
use Rattle.clu_demands.specs.Asking.{need_seen, asked_seen, all_seen, AreBelowAll, IsBelow, Answers, seen_if, asked_if}
use Rattle.clu_demands.specs.Meeting.{AsksOfCluster, AsksOfSpec, AsksOfNamed, AsksOfRoutine, op_named, op_type, all_demanded, demanded, demanded_of, with_first}
use Rattle.clu_demands.proofs.Seen.{more_below, all_same}
use Rattle.clu_demands.proofs.Answering.{answers_ok}

-- ---- what is found

pub of_cluster : (specs : List Spec) (name : List ℕ) (given : Actuals) (op : List ℕ) (wanted : CluType) (s : Spec) → Some s ≡ find (λ (s : Spec). bytes_eq s.name name) specs → (types : List CluType) (r : Result (Option (List Asked)) Memory)
    → IfOk r (Answers (AsksOfSpec s given op wanted) types) → IfOk r (Answers (AsksOfCluster specs name given op wanted) types)
of_cluster specs name given op wanted s is types r =
    answers_ok (AsksOfSpec s given op wanted) (AsksOfCluster specs name given op wanted) (λ asks h. (s, sym is, h))
    (λ asks q. subst (λ (x : Spec). AsksOfSpec x given op wanted asks) (same_Some q.0 s (sym q.1 ∙ sym is)) q.2) types r

pub no_cluster : (specs : List Spec) (name : List ℕ) (given : Actuals) (op : List ℕ) (wanted : CluType) → None ≡ find (λ (s : Spec). bytes_eq s.name name) specs → (asks : List Needed) → AsksOfCluster specs name given op wanted asks → ⊥
no_cluster specs name given op wanted is asks q = none_is_not q.0 (is ∙ q.1)

pub of_spec : (s : Spec) (given : Actuals) (op : List ℕ) (wanted : CluType) → MayBeOf given s.kinds → (types : List CluType) (r : Result (Option (List Asked)) Memory)
    → IfOk r (Answers (AsksOfNamed s given op wanted) types) → IfOk r (Answers (AsksOfSpec s given op wanted) types)
of_spec s given op wanted fits types r = answers_ok (AsksOfNamed s given op wanted) (AsksOfSpec s given op wanted) (λ asks h. (fits, h)) (λ asks q. q.1) types r

pub of_named : (s : Spec) (given : Actuals) (op : List ℕ) (wanted : CluType) (o : OpSpec) → Some o ≡ op_named s.form op → (types : List CluType) (r : Result (Option (List Asked)) Memory)
    → IfOk r (Answers (AsksOfRoutine s given o wanted) types) → IfOk r (Answers (AsksOfNamed s given op wanted) types)
of_named s given op wanted o is types r =
    answers_ok (AsksOfRoutine s given o wanted) (AsksOfNamed s given op wanted) (λ asks h. (o, sym is, h))
    (λ asks q. subst (λ (x : OpSpec). AsksOfRoutine s given x wanted asks) (same_Some q.0 o (sym q.1 ∙ sym is)) q.2) types r

pub no_named : (s : Spec) (given : Actuals) (op : List ℕ) (wanted : CluType) → None ≡ op_named s.form op → (asks : List Needed) → AsksOfNamed s given op wanted asks → ⊥
no_named s given op wanted is asks q = none_is_not q.0 (is ∙ q.1)

-- ---- a routine's type, and what it demands

module _ (s : Spec) (actuals : List Actual) (o : OpSpec) (old new : List Term) (g : Grows old new) (actuals_in : ActualsBelow (length old) actuals) (whole : OpBelow (length s.types) o)
    (of wanted : TypeId) (wanted_in : wanted.0 < length old) (is : type_at (types_of new) of ≡ substituted (actuals_at (types_of old) actuals) (op_type (types_of s.types) o)) where
  abbrev given : Actuals
  given = actuals_at (types_of old) actuals

  same_wanted : type_at (types_of new) wanted ≡ type_at (types_of old) wanted
  same_wanted = types_grown old new g wanted wanted_in

  pub routine_lacks : (Included (type_at (types_of new) of) (type_at (types_of new) wanted) → ⊥) → (asks : List Needed) → AsksOfRoutine s given o (type_at (types_of old) wanted) asks → ⊥
  routine_lacks apart asks q =
      apart (subst (λ (t : CluType). Included t (type_at (types_of new) wanted)) (sym is) (subst (λ (w : CluType). Included (substituted given (op_type (types_of s.types) o)) w) (sym same_wanted) q.1))

  routine_answers : Included (type_at (types_of new) of) (type_at (types_of new) wanted) → (types : List CluType) (made : Option (List Asked)) → seen_if types made ≡ all_demanded (types_of s.types) given o.demands
      → Answers (AsksOfRoutine s given o (type_at (types_of old) wanted)) types made
  routine_answers h types None e = λ asks q. none_is_not asks (e ∙ q.2)
  routine_answers h types (Some made) e =
      (whole, subst (λ (t : CluType). Included t (type_at (types_of old) wanted)) is (subst (λ (w : CluType). Included (type_at (types_of new) of) w) same_wanted h), sym e)

  pub routine_asks : Included (type_at (types_of new) of) (type_at (types_of new) wanted) → (types : List CluType) (r : Result (Option (List Asked)) Memory)
      → IfOk r (λ made. seen_if types made ≡ all_demanded (types_of s.types) (actuals_at (types_of new) actuals) o.demands) → IfOk r (Answers (AsksOfRoutine s given o (type_at (types_of old) wanted)) types)
  routine_asks h types (Ok made) e = routine_answers h types made (e ∙ ap (λ (a : Actuals). all_demanded (types_of s.types) a o.demands) (given_grown old new g actuals actuals_in))
  routine_asks h types (Err x) e = e

-- ---- a demand

pub one_demanded : (from : List CluType) (put : Actuals) (d : Demand) (old new : List Term) → Grows old new → (of : TypeId) → of.0 < length old → (op : List ℕ) → op ≡ d.op
    → (wanted : TypeId) → type_at (types_of new) wanted ≡ substituted put (type_at from d.wanted) → Some (need_seen (types_of new) of op wanted) ≡ demanded_of from put d (Some (type_at (types_of old) of))
one_demanded from put d old new g of of_in op named wanted is =
    join3 (λ (x : CluType) (o : List ℕ) (y : CluType). let n : Needed = record { of = x; op = o; wanted = y } in Some n) (types_grown old new g of of_in) named is

-- ---- demands, one after the other

-- what was made before them, and then they
abbrev pub behind : List Needed → Option (List Needed) → Option (List Needed)
behind before None = None
behind before (Some more) = Some (before ++ more)

behind_none : (more : Option (List Needed)) → behind [] more ≡ more
behind_none None = refl
behind_none (Some more) = refl

behind_one : (before : List Needed) (n : Needed) (more : Option (List Needed)) → behind (before ++ n ∷ []) more ≡ behind before (with_first (Some n) more)
behind_one before n None = refl
behind_one before n (Some more) = ap (λ (l : List Needed). Some l) (append_assoc before (n ∷ []) more)

demand_below : (n : ℕ) (ds : List Demand) (i : ℕ) (d : Demand) → DemandsBelow n ds → i < length ds → (get_or ds i d).wanted.0 < n
demand_below n [] i d b lt = absurd (omega arith)
demand_below n (x ∷ xs) zero d b lt = b.0
demand_below n (x ∷ xs) (suc i) d b lt = demand_below n xs i d b.1 (omega arith)

pub demand_here : (n : ℕ) (ds : List Demand) (i : ℕ) (d : Demand) → d ≡ get_or ds i d → DemandsBelow n ds → i < length ds → d.wanted.0 < n
demand_here n ds i d is below lt = subst (λ (x : Demand). x.wanted.0 < n) (sym is) (demand_below n ds i d below lt)

seen-push : (types : List CluType) (made : List Asked) (a : Asked) → all_seen types (made ++ a ∷ []) ≡ all_seen types made ++ asked_seen types a ∷ []
seen-push types [] a = refl
seen-push types (x ∷ made) a = ap (λ (l : List Needed). asked_seen types x ∷ l) (seen-push types made a)

below-push : (n : ℕ) (made : List Asked) (a : Asked) → AreBelowAll n made → IsBelow n a → AreBelowAll n (made ++ a ∷ [])
below-push n [] a b c = (c, tt)
below-push n (x ∷ made) a b c = (b.0, below-push n made a b.1 c)

module _ (from : List Term) (actuals : List Actual) (old : List Term) where
  abbrev put : Actuals
  put = actuals_at (types_of old) actuals

  -- what was made of the demands that are done
  pub record AreDemanded (all : List Demand) (now : List Term) (left : List Demand) (made : List Asked) : Type 0 where
    pub grows : Grows old now
    pub within : AreBelowAll (length now) made
    pub rest_is : behind (all_seen (types_of now) made) (all_demanded (types_of from) put left) ≡ all_demanded (types_of from) put all

  pub demanded_first : (all : List Demand) → AreDemanded all old all []
  demanded_first all = record {
    grows = ([], sym (append-nil old));
    within = tt;
    rest_is = behind_none (all_demanded (types_of from) put all);
  }

  module _ (all : List Demand) (now newer : List Term) (i : ℕ) (d : Demand) (made : List Asked) (lt : i < length all) (here : d ≡ get_or all i d) (actuals_in : ActualsBelow (length old) actuals)
      (so_far : AreDemanded all now (drop i all) made) (g : Grows now newer) where
    this : (found : Option Needed) → found ≡ demanded (types_of from) (actuals_at (types_of now) actuals) d
        → behind (all_seen (types_of now) made) (with_first found (all_demanded (types_of from) put (drop (suc i) all))) ≡ all_demanded (types_of from) put all
    this found is =
        let same : found ≡ demanded (types_of from) put (get_or all i d) = is ∙ ap (λ (a : Actuals). demanded (types_of from) a d) (given_grown old now so_far.grows actuals actuals_in) ∙ ap (demanded (types_of from) put) here in
        ap (λ (o : Option Needed). behind (all_seen (types_of now) made) (with_first o (all_demanded (types_of from) put (drop (suc i) all)))) same
        ∙ ap (λ (l : List Demand). behind (all_seen (types_of now) made) (all_demanded (types_of from) put l)) (sym (drop-cons all i d lt))
        ∙ so_far.rest_is

    pub demanded_more : (a : Asked) → IsBelow (length newer) a → Some (asked_seen (types_of newer) a) ≡ demanded (types_of from) (actuals_at (types_of now) actuals) d
        → AreDemanded all newer (drop (i + 1) all) (made ++ a ∷ [])
    demanded_more a below is =
        let next : suc i ≡ i + 1 = omega arith in
        let n : Needed = asked_seen (types_of newer) a in
        let kept : all_seen (types_of newer) made ≡ all_seen (types_of now) made = all_same now newer g made so_far.within in
        record {
          grows = grows_on old now newer so_far.grows g;
          within = below-push (length newer) made a (more_below (length now) (length newer) (length_grows now newer g) made so_far.within) below;
          rest_is =
              ap (λ (l : List Needed). behind l (all_demanded (types_of from) put (drop (i + 1) all))) (seen-push (types_of newer) made a ∙ ap (λ (l : List Needed). l ++ n ∷ []) kept)
              ∙ behind_one (all_seen (types_of now) made) n (all_demanded (types_of from) put (drop (i + 1) all))
              ∙ ap (λ (k : ℕ). behind (all_seen (types_of now) made) (with_first (Some n) (all_demanded (types_of from) put (drop k all)))) (sym next)
              ∙ this (Some n) is;
        }

    -- one of them is of no type
    pub demanded_none : None ≡ demanded (types_of from) (actuals_at (types_of now) actuals) d → None ≡ all_demanded (types_of from) put all
    demanded_none is = this None is

  pub demanded_all : (all : List Demand) (now : List Term) (i : ℕ) (made : List Asked) → length all ≤ i → AreDemanded all now (drop i all) made → Some (all_seen (types_of now) made) ≡ all_demanded (types_of from) put all
  demanded_all all now i made le h =
      ap (λ (l : List Needed). Some l) (sym (append-nil (all_seen (types_of now) made)))
      ∙ ap (λ (l : List Demand). behind (all_seen (types_of now) made) (all_demanded (types_of from) put l)) (sym (drop_all i all le))
      ∙ h.rest_is
