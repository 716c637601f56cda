-- What the demands of a part ask, pushed one after the other.
use Rattle.std.proofs.Common.{◌≡◌, ◌∙◌, ℕ, zero, suc, ◌+◌, ◌<◌, ◌≤◌, Bool, true≢false, List, [], ◌∷◌, length, take, get_or, flat_map, slice_get, unwrap_or, option_map, Option, Some, None, IsSome, IfSome, Result, OnOk, refl, sym, ap, subst, arith}
use Rattle.std.proofs.lemmas.List.{take_all, append-nil}
use Rattle.std.proofs.lemmas.Option.{slice_get-get_or, same_Some}
use Rattle.clu_base.proofs.Lists.{none_is_not}
use Rattle.clu_types.specs.CluType.{CluType, parameter, CluTypes, no_types, type_and, Actuals, no_actuals, actual_type, actual_const, actual_param}
use Rattle.clu_types.specs.Arena.{type_at, types_of, actuals_at, ActualsBelow, Grows}
use Rattle.clu_types.specs.Substituted.{substituted, types_substituted, type_put, type_of_actual}
use Rattle.clu_types.specs.declared.spec.Demand.{Demand}
use Rattle.clu_types.specs.declared.spec.Form.{Form}
use Rattle.clu_types.specs.declared.spec.Form.TheVariants as form
use Rattle.clu_types.specs.declared.spec.OpSpec.{OpSpec}
use Rattle.clu_types.specs.declared.term.Actual.{Actual}
use Rattle.clu_types.specs.declared.term.Term.{Term}
use Rattle.clu_types.specs.declared.term.TypeId.{TypeId}
use Rattle.clu_types.proofs.Arenas.{types_grown}
use Rattle.clu_types.proofs.Carrying.{grows_on, length_grows, given_grown, given_more}
use Rattle.clu_specs.specs.Specifications.{DemandsBelow, OpBelow, OpsBelow, FormBelow}
use Rattle.clu_head.specs.declared.head.Demanded.{Demanded}
use Rattle.clu_demands.specs.Meeting.{type_in, type_numbered}
use Rattle.clu_operations.specs.declared.finding.Finding.{Finding}
use Rattle.clu_operations.specs.declared.modules.Part.{Part}
use Rattle.clu_operations.specs.declared.modules.Part.TheVariants as part
use Rattle.clu_operations.specs.Asked.{AsksMore}
use Rattle.clu_operations.specs.Bundles.{type_or_null, wanted_types, nth_type, unless_refused, IsPut}
use Rattle.clu_operations.specs.Finding.{IsBelowIf}
use Rattle.clu_operations.specs.Modules.{Shows, demands_or, kept_routine, kept_demands}
use Rattle.clu_operations.specs.Told.{Ask, asked_of, type_given, demand_told, kept_demand_told}
use Rattle.clu_operations.proofs.Bundling.{option_more}
use Rattle.clu_operations.proofs.Asks.{asks_none, asks_on, next_asks}

-- ---- what is put in for a parameter

in_place : (given : Actuals) (i : ℕ) (other : CluType) → type_of_actual given i other ≡ unwrap_or (type_in given i) other
in_place no_actuals i other = refl
in_place (actual_type t rest) zero other = refl
in_place (actual_const c rest) zero other = refl
in_place (actual_param p rest) zero other = refl
in_place (actual_type t rest) (suc i) other = in_place rest i other
in_place (actual_const c rest) (suc i) other = in_place rest i other
in_place (actual_param p rest) (suc i) other = in_place rest i other

pub put_numbered : (given : Actuals) (n : ℕ) → type_put given n ≡ unwrap_or (type_numbered given n) (parameter n)
put_numbered given zero = refl
put_numbered given (suc i) = in_place given i (parameter (suc i))

pub put_some : (given : Actuals) (n : ℕ) (t : CluType) → Some t ≡ type_numbered given n → t ≡ type_put given n
put_some given n t e = ap (λ (o : Option CluType). unwrap_or o (parameter n)) e ∙ sym (put_numbered given n)

pub put_none : (given : Actuals) (n : ℕ) → None ≡ type_numbered given n → parameter n ≡ type_put given n
put_none given n e = ap (λ (o : Option CluType). unwrap_or o (parameter n)) e ∙ sym (put_numbered given n)

-- ---- the types that a bundle has with actual parameters put in

module _ (source : List CluType) (given : Actuals) where
  nth_wanted : (demands : List Demanded) (behind : CluTypes) (at : ℕ) (d : Demanded) → slice_get demands at ≡ Some d
      → nth_type (types_substituted given (wanted_types source demands behind)) at ≡ Some (substituted given (type_or_null source d.wanted))
  nth_wanted [] behind at d e = none_is_not d e
  nth_wanted (x ∷ demands) behind zero d e = ap (λ (y : Demanded). Some (substituted given (type_or_null source y.wanted))) (same_Some x d e)
  nth_wanted (x ∷ demands) behind (suc at) d e = nth_wanted demands behind at d e

  nth_own : (demands : List Demanded) (t : CluType) → nth_type (types_substituted given (wanted_types source demands (type_and t no_types))) (length demands) ≡ Some (substituted given t)
  nth_own [] t = refl
  nth_own (x ∷ demands) t = nth_own demands t

  unless_given : (of : Option TypeId) → unless_refused of (Some (substituted given (type_or_null source of))) ≡ type_given source given of
  unless_given (Some id) = refl
  unless_given None = refl

  -- what a demand wants, and the type of the part itself
  pub shown_wanted : (shows : Shows) (at : ℕ) (d : Demanded) → slice_get shows.demands at ≡ Some d
      → unless_refused d.wanted (nth_type (types_substituted given (wanted_types source shows.demands (type_and (type_or_null source shows.of) no_types))) at) ≡ type_given source given d.wanted
  shown_wanted shows at d e = ap (unless_refused d.wanted) (nth_wanted shows.demands (type_and (type_or_null source shows.of) no_types) at d e) ∙ unless_given d.wanted

  pub shown_own : (shows : Shows) → unless_refused shows.of (nth_type (types_substituted given (wanted_types source shows.demands (type_and (type_or_null source shows.of) no_types))) (length shows.demands)) ≡ type_given source given shows.of
  shown_own shows = ap (unless_refused shows.of) (nth_own shows.demands (type_or_null source shows.of)) ∙ unless_given shows.of

-- ---- while the arena grows

pub option_stays : (old new : List Term) → Grows old new → (o : Option TypeId) → IsBelowIf (length old) o → option_map (type_at (types_of new)) o ≡ option_map (type_at (types_of old)) o
option_stays old new g (Some id) lt = ap Some (types_grown old new g id lt)
option_stays old new g None lt = refl

pub put_kept : (old new : List Term) → Grows old new → (given : Actuals) (types : List CluType) (shows : Shows) (bundle : Option TypeId) → IsPut old given types shows bundle → IsPut new given types shows bundle
put_kept old new g given types shows bundle h = record {
  within = option_more (length old) (length new) (length_grows old new g) bundle h.within;
  type = option_stays old new g bundle h.within ∙ h.type;
}

put_stays : (old new : List Term) → Grows old new → (actuals : List Actual) → ActualsBelow (length old) actuals → (types : List CluType) (shows : Shows) (bundle : Option TypeId)
    → IsPut old (actuals_at (types_of old) actuals) types shows bundle → IsPut new (actuals_at (types_of new) actuals) types shows bundle
put_stays old new g actuals below types shows bundle h =
    subst (λ (a : Actuals). IsPut new a types shows bundle) (sym (given_grown old new g actuals below)) (put_kept old new g (actuals_at (types_of old) actuals) types shows bundle h)

-- ---- what is asked of a parameter, in other words

pub put_is : (types : List CluType) (put : Option TypeId) (t : CluType) → IsSome put → IfSome put (λ p. type_at types p ≡ t) → option_map (type_at types) put ≡ Some t
put_is types (Some p) t some typed = ap Some typed
put_is types None t some typed = absurd (true≢false (sym some))

pub asked_as : {X E : Type 0} (r : Result X E) (terms : List Term) (f g : Finding) (given now : Actuals) (n : ℕ) (name : List ℕ) (in_set : Bool) (w wanted : Option CluType) → given ≡ now → w ≡ wanted
    → OnOk r (AsksMore terms f g (asked_of given n name in_set w)) → OnOk r (AsksMore terms f g (asked_of now n name in_set wanted))
asked_as r terms f g given now n name in_set w wanted same e h =
    subst (λ (o : Option CluType). OnOk r (AsksMore terms f g (asked_of now n name in_set o))) e (subst (λ (a : Actuals). OnOk r (AsksMore terms f g (asked_of a n name in_set w))) same h)

-- ---- the demands of a part of a module of the file

module _ (old : List Term) (f : Finding) (actuals : List Actual) (demands : List Demanded) (shown : Option TypeId) where
  abbrev given : Actuals
  given = actuals_at (types_of old) actuals

  -- the first n are pushed
  pub record ArePushed (now : List Term) (g : Finding) (n : ℕ) : Type 0 where
    pub grows : Grows old now
    pub asks : (source : List CluType) (of : Option TypeId) → ActualsBelow (length old) actuals → IsPut old given source (record { of = of; demands = demands }) shown → AsksMore now f g (flat_map (demand_told source given) (take n demands))

  pub pushed_first : ArePushed old f 0
  pushed_first = record { grows = ([], sym (append-nil old)); asks = λ source of below put. asks_none old f }

  pub pushed_more : (now newer : List Term) (g h : Finding) (n : ℕ) (d : Demanded) → n < length demands → d ≡ get_or demands n d → ArePushed now g n → Grows now newer
      → ((source : List CluType) (shows : Shows) → ActualsBelow (length now) actuals → IsPut now (actuals_at (types_of now) actuals) source shows shown → slice_get shows.demands n ≡ Some d → AsksMore newer g h (demand_told source (actuals_at (types_of now) actuals) d))
      → ArePushed newer h (n + 1)
  pushed_more now newer g h n d lt is so_far grows step = record { grows = grows_on old now newer so_far.grows grows; asks = asks }
    where
      asks : (source : List CluType) (of : Option TypeId) → ActualsBelow (length old) actuals → IsPut old given source (record { of = of; demands = demands }) shown → AsksMore newer f h (flat_map (demand_told source given) (take (n + 1) demands))
      asks source of below put =
          let same : actuals_at (types_of now) actuals ≡ given = given_grown old now so_far.grows actuals below in
          let at : slice_get demands n ≡ Some d = slice_get-get_or demands n d lt ∙ ap Some (sym is) in
          let this : AsksMore newer g h (demand_told source given d) =
          subst (λ (a : Actuals). AsksMore newer g h (demand_told source a d)) same
          (step source (record { of = of; demands = demands }) (given_more old now so_far.grows actuals below) (put_stays old now so_far.grows actuals below source (record { of = of; demands = demands }) shown put) at) in
          subst (λ (xs : List Ask). AsksMore newer f h xs) (next_asks (demand_told source given) demands n d lt is) (asks_on now newer f g h _ _ grows (so_far.asks source of below put) this)

  pub pushed_all : (now : List Term) (g : Finding) (n : ℕ) → length demands ≤ n → ArePushed now g n
      → (source : List CluType) (of : Option TypeId) → ActualsBelow (length old) actuals → IsPut old given source (record { of = of; demands = demands }) shown → AsksMore now f g (flat_map (demand_told source given) demands)
  pushed_all now g n le h source of below put = subst (λ (ds : List Demanded). AsksMore now f g (flat_map (demand_told source given) ds)) (take_all n demands le) (h.asks source of below put)

-- ---- the demands of a part of a module of the library

module _ (from : List Term) (old : List Term) (f : Finding) (actuals : List Actual) (demands : List Demand) where
  abbrev kept_given : Actuals
  kept_given = actuals_at (types_of old) actuals

  pub record AreKeptPushed (now : List Term) (g : Finding) (n : ℕ) : Type 0 where
    pub grows : Grows old now
    pub asks : DemandsBelow (length from) demands → ActualsBelow (length old) actuals → AsksMore now f g (flat_map (kept_demand_told (types_of from) kept_given) (take n demands))

  pub kept_first : AreKeptPushed old f 0
  kept_first = record { grows = ([], sym (append-nil old)); asks = λ within below. asks_none old f }

  demand_at : (ds : List Demand) (i : ℕ) (d : Demand) → DemandsBelow (length from) ds → i < length ds → (get_or ds i d).wanted.0 < length from
  demand_at [] i d b lt = absurd (omega arith)
  demand_at (x ∷ ds) zero d b lt = b.0
  demand_at (x ∷ ds) (suc i) d b lt = demand_at ds i d b.1 (omega arith)

  pub kept_more : (now newer : List Term) (g h : Finding) (n : ℕ) (d : Demand) → n < length demands → d ≡ get_or demands n d → AreKeptPushed now g n → Grows now newer
      → (d.wanted.0 < length from → ActualsBelow (length now) actuals → AsksMore newer g h (kept_demand_told (types_of from) (actuals_at (types_of now) actuals) d)) → AreKeptPushed newer h (n + 1)
  kept_more now newer g h n d lt is so_far grows step = record { grows = grows_on old now newer so_far.grows grows; asks = asks }
    where
      asks : DemandsBelow (length from) demands → ActualsBelow (length old) actuals → AsksMore newer f h (flat_map (kept_demand_told (types_of from) kept_given) (take (n + 1) demands))
      asks within below =
          let same : actuals_at (types_of now) actuals ≡ kept_given = given_grown old now so_far.grows actuals below in
          let here : d.wanted.0 < length from = subst (λ (x : Demand). x.wanted.0 < length from) (sym is) (demand_at demands n d within lt) in
          let this : AsksMore newer g h (kept_demand_told (types_of from) kept_given d) =
          subst (λ (a : Actuals). AsksMore newer g h (kept_demand_told (types_of from) a d)) same (step here (given_more old now so_far.grows actuals below)) in
          subst (λ (xs : List Ask). AsksMore newer f h xs) (next_asks (kept_demand_told (types_of from) kept_given) demands n d lt is) (asks_on now newer f g h _ _ grows (so_far.asks within below) this)

  pub kept_all : (now : List Term) (g : Finding) (n : ℕ) → length demands ≤ n → AreKeptPushed now g n → DemandsBelow (length from) demands → ActualsBelow (length old) actuals → AsksMore now f g (flat_map (kept_demand_told (types_of from) kept_given) demands)
  kept_all now g n le h within below = subst (λ (ds : List Demand). AsksMore now f g (flat_map (kept_demand_told (types_of from) kept_given) ds)) (take_all n demands le) (h.asks within below)

-- all that they ask, with the actual parameters as they were before the arena grew
pub kept_asks : (from old now newer : List Term) → Grows old now → (f g : Finding) (actuals : List Actual) → ActualsBelow (length old) actuals → (ds demands : List Demand) → ds ≡ demands → DemandsBelow (length from) demands
    → (DemandsBelow (length from) ds → ActualsBelow (length now) actuals → AsksMore newer f g (flat_map (kept_demand_told (types_of from) (actuals_at (types_of now) actuals)) ds))
    → AsksMore newer f g (flat_map (kept_demand_told (types_of from) (actuals_at (types_of old) actuals)) demands)
kept_asks from old now newer grows f g actuals below ds demands is within pushed =
    let here : DemandsBelow (length from) ds = subst (DemandsBelow (length from)) (sym is) within in
    subst (λ (xs : List Demand). AsksMore newer f g (flat_map (kept_demand_told (types_of from) (actuals_at (types_of old) actuals)) xs)) is
    (subst (λ (a : Actuals). AsksMore newer f g (flat_map (kept_demand_told (types_of from) a) ds)) (given_grown old now grows actuals below) (pushed here (given_more old now grows actuals below)))

-- ---- the numbers of a specification that is whole

op_among : (n : ℕ) (ops : List OpSpec) (place : ℕ) (op : OpSpec) → OpsBelow n ops → slice_get ops place ≡ Some op → OpBelow n op
op_among n [] place op b e = none_is_not op e
op_among n (x ∷ ops) zero op b e = subst (OpBelow n) (same_Some x op e) b.0
op_among n (x ∷ ops) (suc place) op b e = op_among n ops place op b.1 e

pub routine_whole : (n : ℕ) (its : Form) (which : Part) (op : OpSpec) → FormBelow n its → kept_routine its which ≡ Some op → OpBelow n op
routine_whole n (form.Routine x) which op b e = subst (OpBelow n) (same_Some x op e) b
routine_whole n (form.Cluster demands ops) part.Itself op b e = none_is_not op e
routine_whole n (form.Cluster demands ops) (part.Routine place) op b e = op_among n ops place op b.1 e

pub demands_whole : (n : ℕ) (its : Form) (which : Part) → FormBelow n its → DemandsBelow n (kept_demands its which)
demands_whole n (form.Routine x) which b = b.1
demands_whole n (form.Cluster demands ops) part.Itself b = b.0
demands_whole n (form.Cluster demands ops) (part.Routine place) b = by (slice_get ops place) refl
  where
    by : (found : Option OpSpec) → slice_get ops place ≡ found → DemandsBelow n (demands_or demands found)
    by (Some op) e = (op_among n ops place op b.1 e).1
    by None e = b.0
