-- Types that are brought into an arena, one after the other while it grows.
use Rattle.std.proofs.Common.{◌≡◌, ℕ, ◌+◌, ◌<◌, ◌≤◌, zero, suc, Bool, true, false, List, [], ◌∷◌, ◌++◌, length, take, get_or, Result, IfOk, refl, sym, ap, ◌∙◌, subst, arith, ap₂}
use Rattle.std.proofs.lemmas.List.{take_more, take_all, append-nil}
use Rattle.clu_base.specs.declared.errors.Memory.{Memory}
use Rattle.clu_types.specs.CluType.{CluType, proc_of, iter_of, CluTypes, no_types, type_and, Signals, no_signals, signal_and, Actuals}
use Rattle.clu_types.specs.Arena.{type_at, types_at, signals_at, actuals_at, types_of, type_of, AreBelow, SignalsBelow, HeadingBelow, ActualsBelow, Grows}
use Rattle.clu_types.specs.Substituted.{substituted, types_substituted, signals_substituted}
use Rattle.clu_types.specs.declared.spec.OpSpec.{OpSpec}
use Rattle.clu_types.specs.declared.term.TypeId.{TypeId}
use Rattle.clu_types.specs.declared.term.Exception.{Exception}
use Rattle.clu_types.specs.declared.term.Heading.{Heading}
use Rattle.clu_types.specs.declared.term.Actual.{Actual}
use Rattle.clu_types.specs.declared.term.Term.{Term}
use Rattle.clu_types.specs.declared.term.Term.TheVariants as term
use Rattle.clu_types.proofs.Arenas.{types_grown}
use Rattle.clu_types.proofs.Carrying.{grows_on, length_grows, given_grown, given_more, ids_grown, id_below, signal_below}
use Rattle.clu_demands.specs.Meeting.{op_type, routine_type}
use Rattle.clu_types.proofs.Equality.{join3}
use Rattle.clu_types.proofs.Parts.{ids_more, signals_more, types_same, signals_same}

-- ---- lists that get one item more at their end

abbrev pub snoc : CluTypes → CluType → CluTypes
snoc no_types t = type_and t no_types
snoc (type_and x ts) t = type_and x (snoc ts t)

pub types_at-push : (ks : List CluType) (ids : List TypeId) (id : TypeId) → types_at ks (ids ++ id ∷ []) ≡ snoc (types_at ks ids) (type_at ks id)
types_at-push ks [] id = refl
types_at-push ks (x ∷ ids) id = ap (type_and (type_at ks x)) (types_at-push ks ids id)

types_put-push : (given : Actuals) (ts : CluTypes) (t : CluType) → types_substituted given (snoc ts t) ≡ snoc (types_substituted given ts) (substituted given t)
types_put-push given no_types t = refl
types_put-push given (type_and x ts) t = ap (type_and (substituted given x)) (types_put-push given ts t)

pub below-push : (n : ℕ) (ids : List TypeId) (id : TypeId) → AreBelow n ids → id.0 < n → AreBelow n (ids ++ id ∷ [])
below-push n [] id b lt = (lt, tt)
below-push n (x ∷ ids) id b lt = (b.0, below-push n ids id b.1 lt)

abbrev signal_snoc : Signals → List ℕ → CluTypes → Signals
signal_snoc no_signals name ts = signal_and name ts no_signals
signal_snoc (signal_and n os ss) name ts = signal_and n os (signal_snoc ss name ts)

signals_at-push : (ks : List CluType) (ss : List Exception) (s : Exception) → signals_at ks (ss ++ s ∷ []) ≡ signal_snoc (signals_at ks ss) s.name (types_at ks s.objects)
signals_at-push ks [] s = refl
signals_at-push ks (x ∷ ss) s = ap (signal_and x.name (types_at ks x.objects)) (signals_at-push ks ss s)

signals_put-push : (given : Actuals) (ss : Signals) (name : List ℕ) (ts : CluTypes) → signals_substituted given (signal_snoc ss name ts) ≡ signal_snoc (signals_substituted given ss) name (types_substituted given ts)
signals_put-push given no_signals name ts = refl
signals_put-push given (signal_and n os ss) name ts = ap (signal_and n (types_substituted given os)) (signals_put-push given ss name ts)

signals_below-push : (n : ℕ) (ss : List Exception) (s : Exception) → SignalsBelow n ss → AreBelow n s.objects → SignalsBelow n (ss ++ s ∷ [])
signals_below-push n [] s b below = (below, tt)
signals_below-push n (x ∷ ss) s b below = (b.0, signals_below-push n ss s b.1 below)

module _ (from : List Term) (actuals : List Actual) (old : List Term) where
  abbrev given : Actuals
  given = actuals_at (types_of old) actuals

  -- ---- what is made of the types that are done
  pub record AreCarried (now : List Term) (done made : List TypeId) : Type 0 where
    pub grows : Grows old now
    pub within : AreBelow (length now) made
    pub types : types_at (types_of now) made ≡ types_substituted given (types_at (types_of from) done)

  pub carried_none : AreCarried old [] []
  carried_none = record { grows = ([], sym (append-nil old)); within = tt; types = refl }

  pub carried_more : (now newer : List Term) (ids made : List TypeId) (i : ℕ) (d new : TypeId) → i < length ids → ActualsBelow (length old) actuals → AreCarried now (take i ids) made → Grows now newer
      → new.0 < length newer → type_at (types_of newer) new ≡ substituted (actuals_at (types_of now) actuals) (type_at (types_of from) (get_or ids i d)) → AreCarried newer (take (i + 1) ids) (made ++ new ∷ [])
  carried_more now newer ids made i d new lt below so_far g within of_type =
      let id : TypeId = get_or ids i d in
      let longer = length_grows now newer g in
      let same : actuals_at (types_of now) actuals ≡ given = given_grown old now so_far.grows actuals below in
      let kept : types_at (types_of newer) made ≡ types_at (types_of now) made = types_same (types_of newer) (types_of now) (length now) (types_grown now newer g) made so_far.within in
      let this : type_at (types_of newer) new ≡ substituted given (type_at (types_of from) id) = of_type ∙ ap (λ (a : Actuals). substituted a (type_at (types_of from) id)) same in
      let whole : take (i + 1) ids ≡ take i ids ++ id ∷ [] = take_more ids i d lt in
      record {
        grows = grows_on old now newer so_far.grows g;
        within = below-push (length newer) made new (ids_more (length now) (length newer) longer made so_far.within) within;
        types =
            types_at-push (types_of newer) made new
            ∙ ap₂ snoc (kept ∙ so_far.types) this
            ∙ sym (types_put-push given (types_at (types_of from) (take i ids)) (type_at (types_of from) id))
            ∙ ap (types_substituted given) (sym (ap (types_at (types_of from)) whole ∙ types_at-push (types_of from) (take i ids) id));
      }

  pub carried_all : (now : List Term) (ids made : List TypeId) (i : ℕ) → length ids ≤ i → AreCarried now (take i ids) made → AreCarried now ids made
  carried_all now ids made i le h = subst (λ (xs : List TypeId). AreCarried now xs made) (take_all i ids le) h

  -- ---- the same of signals
  pub record AreSignalsCarried (now : List Term) (done made : List Exception) : Type 0 where
    pub grows : Grows old now
    pub within : SignalsBelow (length now) made
    pub signals : signals_at (types_of now) made ≡ signals_substituted given (signals_at (types_of from) done)

  pub signals_none : AreSignalsCarried old [] []
  signals_none = record { grows = ([], sym (append-nil old)); within = tt; signals = refl }

  pub signals_more_carried : (now newer : List Term) (ss made : List Exception) (i : ℕ) (s new : Exception) → i < length ss → s ≡ get_or ss i s → ActualsBelow (length old) actuals
      → AreSignalsCarried now (take i ss) made → Grows now newer → new.name ≡ s.name → AreBelow (length newer) new.objects
      → types_at (types_of newer) new.objects ≡ types_substituted (actuals_at (types_of now) actuals) (types_at (types_of from) s.objects) → AreSignalsCarried newer (take (i + 1) ss) (made ++ new ∷ [])
  signals_more_carried now newer ss made i s new lt is below so_far g named within of_types =
      let longer = length_grows now newer g in
      let same : actuals_at (types_of now) actuals ≡ given = given_grown old now so_far.grows actuals below in
      let kept : signals_at (types_of newer) made ≡ signals_at (types_of now) made = signals_same (types_of newer) (types_of now) (length now) (types_grown now newer g) made so_far.within in
      let this : types_at (types_of newer) new.objects ≡ types_substituted given (types_at (types_of from) s.objects) = of_types ∙ ap (λ (a : Actuals). types_substituted a (types_at (types_of from) s.objects)) same in
      let whole : take (i + 1) ss ≡ take i ss ++ s ∷ [] = take_more ss i s lt ∙ ap (λ (x : Exception). take i ss ++ x ∷ []) (sym is) in
      record {
        grows = grows_on old now newer so_far.grows g;
        within = signals_below-push (length newer) made new (signals_more (length now) (length newer) longer made so_far.within) within;
        signals =
            signals_at-push (types_of newer) made new
            ∙ join3 signal_snoc (kept ∙ so_far.signals) named this
            ∙ sym (signals_put-push given (signals_at (types_of from) (take i ss)) s.name (types_at (types_of from) s.objects))
            ∙ ap (signals_substituted given) (sym (ap (signals_at (types_of from)) whole ∙ signals_at-push (types_of from) (take i ss) s));
      }

  pub signals_all_carried : (now : List Term) (ss made : List Exception) (i : ℕ) → length ss ≤ i → AreSignalsCarried now (take i ss) made → AreSignalsCarried now ss made
  signals_all_carried now ss made i le h = subst (λ (xs : List Exception). AreSignalsCarried now xs made) (take_all i ss le) h

-- ---- the type of a routine, of which the parts were brought one after the other
module _ (from : List Term) (actuals : List Actual) (old a b c : List Term) (ga : Grows old a) (gb : Grows a b) (gc : Grows b c) (below : ActualsBelow (length old) actuals) where
  pub in_a : ActualsBelow (length a) actuals
  in_a = given_more old a ga actuals below

  pub in_b : ActualsBelow (length b) actuals
  in_b = given_more a b gb actuals in_a

  module _ (args results : List TypeId) (signals : List Exception) (args_in : AreBelow (length a) args) (results_in : AreBelow (length b) results) (signals_in : SignalsBelow (length c) signals) where
    pub heading_in : HeadingBelow (length c) (record { args = args; results = results; signals = signals })
    heading_in = (ids_grown b c gc args (ids_grown a b gb args args_in), ids_grown b c gc results results_in, signals_in)

    pub heading_is : (o : OpSpec) (iter : Bool) → o.iter ≡ iter → types_at (types_of a) args ≡ types_substituted (actuals_at (types_of old) actuals) (types_at (types_of from) o.heading.args)
        → types_at (types_of b) results ≡ types_substituted (actuals_at (types_of a) actuals) (types_at (types_of from) o.heading.results)
        → signals_at (types_of c) signals ≡ signals_substituted (actuals_at (types_of b) actuals) (signals_at (types_of from) o.heading.signals)
        → routine_type iter (types_at (types_of c) args) (types_at (types_of c) results) (signals_at (types_of c) signals) ≡ substituted (actuals_at (types_of old) actuals) (op_type (types_of from) o)
    heading_is o iter is args_are results_are signals_are = whole iter is
      where
        at_a : actuals_at (types_of a) actuals ≡ actuals_at (types_of old) actuals
        at_a = given_grown old a ga actuals below

        at_b : actuals_at (types_of b) actuals ≡ actuals_at (types_of old) actuals
        at_b = given_grown a b gb actuals in_a ∙ at_a

        of_args : types_at (types_of c) args ≡ types_substituted (actuals_at (types_of old) actuals) (types_at (types_of from) o.heading.args)
        of_args = types_same (types_of c) (types_of b) (length b) (types_grown b c gc) args (ids_grown a b gb args args_in) ∙ types_same (types_of b) (types_of a) (length a) (types_grown a b gb) args args_in ∙ args_are

        of_results : types_at (types_of c) results ≡ types_substituted (actuals_at (types_of old) actuals) (types_at (types_of from) o.heading.results)
        of_results = types_same (types_of c) (types_of b) (length b) (types_grown b c gc) results results_in ∙ results_are ∙ ap (λ (x : Actuals). types_substituted x (types_at (types_of from) o.heading.results)) at_a

        of_signals : signals_at (types_of c) signals ≡ signals_substituted (actuals_at (types_of old) actuals) (signals_at (types_of from) o.heading.signals)
        of_signals = signals_are ∙ ap (λ (x : Actuals). signals_substituted x (signals_at (types_of from) o.heading.signals)) at_b

        whole : (iter : Bool) → o.iter ≡ iter → routine_type iter (types_at (types_of c) args) (types_at (types_of c) results) (signals_at (types_of c) signals) ≡ substituted (actuals_at (types_of old) actuals) (op_type (types_of from) o)
        whole true is = join3 iter_of of_args of_results of_signals ∙ rw is refl
        whole false is = join3 proc_of of_args of_results of_signals ∙ rw is refl

-- what is of a type is of an equal one
pub typed_as : (r : Result TypeId Memory) (types : List CluType) (a b : CluType) → a ≡ b → IfOk r (λ id. type_at types id ≡ a) → IfOk r (λ id. type_at types id ≡ b)
typed_as r types a b e h = subst (λ (t : CluType). IfOk r (λ id. type_at types id ≡ t)) e h

-- the objects of a signal are of the arena
pub signal_here : (n : ℕ) (ss : List Exception) (i : ℕ) (s : Exception) → s ≡ get_or ss i s → SignalsBelow n ss → i < length ss → AreBelow n s.objects
signal_here n ss i s is below lt = subst (λ (x : Exception). AreBelow n x.objects) (sym is) (signal_below n ss i s below lt)
