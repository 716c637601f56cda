-- One step more of the walk over what a program reaches.
use Rattle.std.proofs.Common.{◌≡◌, ◌∙◌, ℕ, zero, suc, ◌+◌, ◌-◌, ◌^◌, ◌<◌, ◌≤◌, min, Bool, true, false, ◌&&◌, codes, List, [], ◌∷◌, ◌++◌, length, Option, Some, None, Result, Ok, Err, OnOk, slice_get, nat_le, nat_lt, true≢false, if◌then◌else◌, refl, ap, sym, subst, arith}
use Rattle.std.proofs.lemmas.Bool.Decides.{nat_tests}
use Rattle.std.proofs.lemmas.Option.{none-some, same_Some}
use Rattle.std.specs.Option.{option_or}
use Rattle.clu_types.specs.Arena.{Grows}
use Rattle.clu_types.specs.declared.term.Actual.{Actual}
use Rattle.clu_types.specs.declared.term.Term.{Term}
use Rattle.clu_types.specs.declared.term.Term.TheVariants as term
use Rattle.clu_library.specs.Contents.{Contents, body_of}
use Rattle.clu_library.specs.Staleness.{IsStale, IsStaleBody, IsStaleIf}
use Rattle.clu_library.specs.declared.body.Body.{Body}
use Rattle.clu_object.specs.declared.object.ObjRoutine.{ObjRoutine}
use Rattle.clu_reach.specs.Causes.{HasBody}
use Rattle.clu_reach.specs.Tables.{fits, weight}
use Rattle.clu_reach.specs.Reach.{Fate, bodiless, is_stale, misfit, taken, used_by, UsesFate, FitFate, RoutineFate, stale_one, fresh_one, KeptFate, ModuleFate, routine_in, OperationFate, IsTaken, HasFate, IsVisit, IsWalk, goes_on, with_all, no_body_of, stale_of, misfit_of, weight_of, first_of, weights, Refusal, too_many, too_large, no_body, stale_body, no_fit, by_fates, refusal_of}
use Rattle.clu_reach.specs.Refused.{IsAccepted, IsFirst, IsRefused, Refuses}
use Rattle.clu_reach.specs.Walked.{IsKeptAs, IsBuiltin, IsOfModule, IsOriginIn, IsOrigin, IsOriginAt, with_weight, IsNoted, IsStep, IsFate, OriginStep, Arrives, AreFirst, Walked, IsWalked, NextIs}
use Rattle.clu_reach.specs.declared.errors.LinkError.{LinkError}
use Rattle.clu_reach.specs.declared.errors.LinkError.TheVariants as error
use Rattle.clu_reach.specs.declared.faults.Faults.{Faults}
use Rattle.clu_reach.specs.declared.member.Member.{Member}
use Rattle.clu_reach.specs.declared.member.Member.TheVariants as member
use Rattle.clu_reach.specs.declared.origins.Kept.{Kept}
use Rattle.clu_reach.specs.declared.origins.Origin.{Origin}
use Rattle.clu_reach.specs.declared.origins.Origin.TheVariants as origin
use Rattle.clu_reach.specs.declared.reaching.Work.{Work}

-- ---- what is found at an instance, by its origin

pub origin_by : (o p : Option Term) (op : List ℕ) (x : Origin) → o ≡ p → IsOriginIn p op x → IsOriginIn o op x
origin_by o p op x e is = subst (λ (z : Option Term). IsOriginIn z op x) (sym e) is

pub ruleset origins = (origin_by)

-- what holds of the fate by the origin
abbrev pub FateBy : Contents → Origin → Fate → Type 0
FateBy library (origin.Module kept) fate = ModuleFate library kept.module kept.routine kept.actuals.items fate
FateBy library (origin.Builtin of op given) fate = IsTaken fate

module _ (library : Contents) where
  module_fate : (kept : Kept) (name routine : List ℕ) (given : List Actual) (fate : Fate) → IsKeptAs kept name routine given
      → ModuleFate library kept.module kept.routine kept.actuals.items fate → ModuleFate library name routine given fate
  module_fate kept name routine given fate is f =
      let P : List ℕ → Type 0 = λ n. ModuleFate library n routine given fate in
      let Q : List ℕ → Type 0 = λ r. ModuleFate library kept.module r given fate in
      let R : List Actual → Type 0 = λ g. ModuleFate library kept.module kept.routine g fate in
      subst P is.0 (subst Q is.1 (subst R is.2 f))

  of_module : (name routine : List ℕ) (given : List Actual) (x : Origin) (fate : Fate) → IsOfModule name routine given x → FateBy library x fate → ModuleFate library name routine given fate
  of_module name routine given (origin.Module kept) fate is f = module_fate kept name routine given fate is f
  of_module name routine given (origin.Builtin of op actuals) fate is f = elim is [ ]

  of_builtin : (x : Origin) (fate : Fate) → IsBuiltin x → FateBy library x fate → IsTaken fate
  of_builtin (origin.Module kept) fate is f = elim is [ ]
  of_builtin (origin.Builtin of op actuals) fate is f = f

  of_operation : (o : Option Term) (op : List ℕ) (x : Origin) (fate : Fate) → IsOriginIn o op x → FateBy library x fate → OperationFate library o op fate
  of_operation None op x fate is f = elim is [ ]
  of_operation (Some (term.Cluster name given)) op x fate is f = of_module name op given x fate is f
  of_operation (Some term.Null) op x fate is f = of_builtin x fate is f
  of_operation (Some term.Bool) op x fate is f = of_builtin x fate is f
  of_operation (Some term.Int) op x fate is f = of_builtin x fate is f
  of_operation (Some term.Char) op x fate is f = of_builtin x fate is f
  of_operation (Some term.Str) op x fate is f = of_builtin x fate is f
  of_operation (Some term.Any) op x fate is f = of_builtin x fate is f
  of_operation (Some term.Stream) op x fate is f = of_builtin x fate is f
  of_operation (Some (term.Array t)) op x fate is f = of_builtin x fate is f
  of_operation (Some (term.Sequence t)) op x fate is f = of_builtin x fate is f
  of_operation (Some (term.Record fs)) op x fate is f = of_builtin x fate is f
  of_operation (Some (term.Struct fs)) op x fate is f = of_builtin x fate is f
  of_operation (Some (term.Oneof fs)) op x fate is f = of_builtin x fate is f
  of_operation (Some (term.Variant fs)) op x fate is f = of_builtin x fate is f
  of_operation (Some (term.Proc h)) op x fate is f = of_builtin x fate is f
  of_operation (Some (term.Iter h)) op x fate is f = of_builtin x fate is f
  of_operation (Some (term.Param n)) op x fate is f = of_builtin x fate is f

  has_fate : (types : List Term) (u : Member) (x : Origin) (fate : Fate) → IsOrigin types u x → FateBy library x fate → HasFate library types u fate
  has_fate types (member.Module name given) x fate is f = of_module name name given x fate is f
  has_fate types (member.Op of op) x fate is f = of_operation (slice_get types of.0) op x fate is f
  has_fate types (member.OwnSetUp of) x fate is f = of_operation (slice_get types of.0) (codes "own") x fate is f
  has_fate types (member.ForceOf of) x fate is f = elim is [ ]

  -- ---- a type that is there stays

  fate_later : (old more : List Term) (i : ℕ) (op : List ℕ) (fate : Fate) → OperationFate library (slice_get old i) op fate → OperationFate library (slice_get (old ++ more) i) op fate
  fate_later [] more i op fate f = elim f [ ]
  fate_later (t ∷ ts) more zero op fate f = f
  fate_later (t ∷ ts) more (suc i) op fate f = fate_later ts more i op fate f

  fate_more : (old more : List Term) (u : Member) (fate : Fate) → HasFate library old u fate → HasFate library (old ++ more) u fate
  fate_more old more (member.Module name given) fate f = f
  fate_more old more (member.Op of op) fate f = fate_later old more of.0 op fate f
  fate_more old more (member.OwnSetUp of) fate f = fate_later old more of.0 (codes "own") fate f
  fate_more old more (member.ForceOf of) fate f = elim f [ ]

  visit_more : (old more : List Term) (u : Option Member) (fate : Fate) → IsVisit library old u fate → IsVisit library (old ++ more) u fate
  visit_more old more None fate f = elim f [ ]
  visit_more old more (Some u) fate f = fate_more old more u fate f

  arrives_more : (old more : List Term) (n : ℕ) (us : List Member) (fates : List Fate) (m : ℕ) (all : List Member) → Arrives library old n us fates m all → Arrives library (old ++ more) n us fates m all
  unfolding Arrives
  arrives_more old more n us [] m all a = a
  arrives_more old more n us (f ∷ fs) m all a = (a.0, visit_more old more (slice_get us n) f a.1, arrives_more old more (suc n) (with_all us (used_by f)) fs m all a.2)

  arrives_grown : (old new : List Term) (n : ℕ) (us : List Member) (fates : List Fate) (m : ℕ) (all : List Member) → Grows old new → Arrives library old n us fates m all → Arrives library new n us fates m all
  arrives_grown old new n us fates m all g a =
      let P : List Term → Type 0 = λ t. Arrives library t n us fates m all in
      subst P (sym g.1) (arrives_more old g.0 n us fates m all a)

  -- ---- one more

  arrives_on : (types : List Term) (n : ℕ) (us : List Member) (fates : List Fate) (m : ℕ) (all : List Member) (fate : Fate)
      → Arrives library types n us fates m all → goes_on all m ≡ true → IsVisit library types (slice_get all m) fate
      → Arrives library types n us (fates ++ fate ∷ []) (suc m) (with_all all (used_by fate))
  unfolding Arrives
  arrives_on types n us [] m all fate a on visit =
      let P : ℕ → Type 0 = λ k. IsVisit library types (slice_get us k) fate in
      let Q : List Member → Type 0 = λ x. IsVisit library types (slice_get x m) fate in (
        ap (goes_on us) a.0 ∙ ap (λ (x : List Member). goes_on x m) a.1 ∙ on,
        subst P (sym a.0) (subst Q (sym a.1) visit),
        (ap suc a.0, ap (λ (x : List Member). with_all x (used_by fate)) a.1),
      )
  arrives_on types n us (f ∷ fs) m all fate a on visit = (a.0, a.1, arrives_on types (suc n) (with_all us (used_by f)) fs m all fate a.2 on visit)

  walk_of : (types : List Term) (n : ℕ) (us : List Member) (fates : List Fate) (m : ℕ) (all : List Member) → Arrives library types n us fates m all → goes_on all m ≡ false
      → IsWalk library types n us fates all
  unfolding Arrives IsWalk
  walk_of types n us [] m all a off = (ap (goes_on us) a.0 ∙ ap (λ (x : List Member). goes_on x m) a.1 ∙ off, sym a.1)
  walk_of types n us (f ∷ fs) m all a off = (a.0, a.1, walk_of types (suc n) (with_all us (used_by f)) fs m all a.2 off)

-- ---- the faults

first_on : (f : Fate → Option (List ℕ)) (fates : List Fate) (fate : Fate) → first_of f (fates ++ fate ∷ []) ≡ option_or (first_of f fates) (f fate)
first_on f [] fate = by (f fate)
  where
    by : (o : Option (List ℕ)) → option_or o None ≡ option_or None o
    by None = refl
    by (Some x) = refl
first_on f (g ∷ fs) fate = ap (option_or (f g)) (first_on f fs fate) ∙ sym (assoc (f g) (first_of f fs) (f fate))
  where
    assoc : (a b c : Option (List ℕ)) → option_or (option_or a b) c ≡ option_or a (option_or b c)
    assoc None b c = refl
    assoc (Some x) b c = refl

weights_on : (fates : List Fate) (fate : Fate) → weights (fates ++ fate ∷ []) ≡ weights fates + weight_of fate
weights_on [] fate = omega arith
weights_on (f ∷ fs) fate = let i : weights (fs ++ fate ∷ []) ≡ weights fs + weight_of fate = weights_on fs fate in omega (arith, i)

within : (a b m : ℕ) → min (min a m + b) m ≡ min (a + b) m
within a b m = omega arith

nothing_more : (n : ℕ) → min n (2 ^ 64 - 1) ≡ min (n + 0) (2 ^ 64 - 1)
nothing_more n = let z : n ≡ n + 0 = omega arith in ap (λ (k : ℕ). min k (2 ^ 64 - 1)) z

summed : (n : ℕ) (fate : Fate) → with_weight (min n (2 ^ 64 - 1)) fate ≡ min (n + weight_of fate) (2 ^ 64 - 1)
summed n (bodiless name) = nothing_more n
summed n (is_stale name) = nothing_more n
summed n (misfit name) = nothing_more n
summed n (taken w us) = within n w (2 ^ 64 - 1)

first_more : (fates : List Fate) (fate : Fate) (old new : Faults) → AreFirst fates old → IsNoted fate old new → AreFirst (fates ++ fate ∷ []) new
first_more fates fate old new a n = record {
  no_body = n.no_body ∙ ap (λ (o : Option (List ℕ)). option_or o (no_body_of fate)) a.no_body ∙ sym (first_on no_body_of fates fate);
  stale = n.stale ∙ ap (λ (o : Option (List ℕ)). option_or o (stale_of fate)) a.stale ∙ sym (first_on stale_of fates fate);
  misfit = n.misfit ∙ ap (λ (o : Option (List ℕ)). option_or o (misfit_of fate)) a.misfit ∙ sym (first_on misfit_of fates fate);
  weight = n.weight ∙ ap (λ (k : ℕ). with_weight k fate) a.weight ∙ summed (weights fates) fate ∙ ap (λ (k : ℕ). min k (2 ^ 64 - 1)) (sym (weights_on fates fate));
}

-- ---- a step

step_by : (library : Contents) (x : Origin) (old new : Work) → OriginStep library x old new → IsStep (FateBy library x) old new
step_by library (origin.Module kept) old new s = s
step_by library (origin.Builtin of op given) old new s = s

pub walked_on : (library : Contents) (first : Member) (n : ℕ) (u : Member) (x : Origin) (old new : Work)
    → Walked library first n old → goes_on old.reached.value.members.keys n ≡ true → slice_get old.reached.value.members.keys n ≡ Some u
    → IsOrigin old.reached.value.types u x → OriginStep library x old new → Walked library first (suc n) new
walked_on library first n u x old new w on here is step = by (step_by library x old new step)
  where
    by : IsStep (FateBy library x) old new → Walked library first (suc n) new
    by s =
        let types : List Term = old.reached.value.types in
        let all : List Member = old.reached.value.members.keys in
        let P : Option Member → Type 0 = λ o. IsVisit library types o s.fate in
        let Q : List Member → Type 0 = λ us. Arrives library new.reached.value.types 0 (first ∷ []) (w.fates ++ s.fate ∷ []) (suc n) us in
        record {
          fates = w.fates ++ s.fate ∷ [];
          walk = subst Q (sym s.members) (arrives_grown library types new.reached.value.types 0 (first ∷ []) (w.fates ++ s.fate ∷ []) (suc n) (with_all all (used_by s.fate)) s.grown
              (arrives_on library types 0 (first ∷ []) w.fates n all s.fate w.walk on (subst P (sym here) (has_fate library types u x s.fate is s.has))));
          noted = first_more w.fates s.fate old.faults.value new.faults.value w.noted s.noted;
        }

-- the same, by what was found at the place
pub next_on : (library : Contents) (first : Member) (n : ℕ) (o : Option Member) (x : Origin) (old new : Work)
    → slice_get old.reached.value.members.keys n ≡ o → IsOriginAt old.reached.value.types o (Some x) → length old.reached.value.members.keys ≤ 4096
    → OriginStep library x old new → Walked library first n old → Walked library first (suc n) new
next_on library first n None x old new e is few step w = elim is [ ]
next_on library first n (Some u) x old new e is few step w = walked_on library first n u x old new w on e is step
  where
    inside : {X : Type 0} (xs : List X) (i : ℕ) (y : X) → slice_get xs i ≡ Some y → i < length xs
    inside [] i y f = absurd (none-some y f)
    inside (z ∷ zs) zero y f = omega arith
    inside (z ∷ zs) (suc i) y f = let r : i < length zs = inside zs i y f in omega (arith, r)

    on : goes_on old.reached.value.members.keys n ≡ true
    on = let r : n < length old.reached.value.members.keys = inside old.reached.value.members.keys n u e in grind (arith, nat_tests, r, few)

-- ---- what a step finds, by what is kept

pub on_ok : {A E : Type 0} (r : Result A E) (P Q : Type 0) → (P → Q) → OnOk r P → OnOk r Q
on_ok (Ok a) P Q f p = f p
on_ok (Err e) P Q f p = p

step_as : (P Q : Fate → Type 0) (old new : Work) → ((fate : Fate) → P fate → Q fate) → IsStep P old new → IsStep Q old new
step_as P Q old new f s = record { fate = s.fate; has = f s.fate s.has; noted = s.noted; members = s.members; grown = s.grown }

pub routine_none : (name : List ℕ) (given : List Actual) (o : Option ObjRoutine) (old new : Work) → o ≡ None → IsStep (IsFate (misfit name)) old new → IsStep (RoutineFate name given o) old new
routine_none name given o old new is s =
    let P : Option ObjRoutine → Type 0 = λ x. IsStep (RoutineFate name given x) old new in
    subst P (sym is) (step_as (IsFate (misfit name)) (RoutineFate name given None) old new (λ fate f. f) s)

pub routine_unfit : (name : List ℕ) (given : List Actual) (o : Option ObjRoutine) (r : ObjRoutine) (old new : Work) → o ≡ Some r → fits r given ≡ false
    → IsStep (IsFate (misfit name)) old new → IsStep (RoutineFate name given o) old new
routine_unfit name given o r old new is unfit s =
    let P : Option ObjRoutine → Type 0 = λ x. IsStep (RoutineFate name given x) old new in
    let fit : (fate : Fate) → IsFate (misfit name) fate → RoutineFate name given (Some r) fate = λ fate f. (let Q : Bool → Type 0 = λ b. FitFate name (weight given r) b fate in subst Q (sym unfit) f) in
    subst P (sym is) (step_as (IsFate (misfit name)) (RoutineFate name given (Some r)) old new fit s)

pub routine_fit : (name : List ℕ) (given : List Actual) (o : Option ObjRoutine) (r : ObjRoutine) (old new : Work) → o ≡ Some r → fits r given ≡ true
    → IsStep (UsesFate name (weight given r)) old new → IsStep (RoutineFate name given o) old new
routine_fit name given o r old new is good s =
    let P : Option ObjRoutine → Type 0 = λ x. IsStep (RoutineFate name given x) old new in
    let fit : (fate : Fate) → UsesFate name (weight given r) fate → RoutineFate name given (Some r) fate = λ fate f. (let Q : Bool → Type 0 = λ b. FitFate name (weight given r) b fate in subst Q (sym good) f) in
    subst P (sym is) (step_as (UsesFate name (weight given r)) (RoutineFate name given (Some r)) old new fit s)

pub kept_none : (library : Contents) (name routine : List ℕ) (given : List Actual) (old new : Work) → body_of library name ≡ None
    → IsStep (IsFate (bodiless name)) old new → IsStep (ModuleFate library name routine given) old new
kept_none library name routine given old new is s =
    step_as (IsFate (bodiless name)) (ModuleFate library name routine given) old new
    (λ fate f. (let P : Option Body → Type 0 = λ o. KeptFate library name routine given o fate in subst P (sym is) f)) s

pub kept_stale : (library : Contents) (name routine : List ℕ) (given : List Actual) (b : Body) (old new : Work) → body_of library name ≡ Some b → IsStale library name
    → IsStep (IsFate (is_stale name)) old new → IsStep (ModuleFate library name routine given) old new
kept_stale library name routine given b old new is stale s =
    let Q : Option Body → Type 0 = λ o. IsStaleIf library name o in
    let one : IsStaleBody library.specs library.changes name b = subst Q is stale in
    step_as (IsFate (is_stale name)) (ModuleFate library name routine given) old new
    (λ fate f. (let P : Option Body → Type 0 = λ o. KeptFate library name routine given o fate in subst P (sym is) (stale_one one f))) s

pub kept_fresh : (library : Contents) (name routine : List ℕ) (given : List Actual) (b : Body) (old new : Work) → body_of library name ≡ Some b → HasBody library name
    → IsStep (RoutineFate name given (routine_in routine b.object.routines)) old new → IsStep (ModuleFate library name routine given) old new
kept_fresh library name routine given b old new is has s =
    let same : has.0 ≡ b = same_Some has.0 b (sym has.1 ∙ is) in
    let Q : Body → Type 0 = λ x. IsStaleBody library.specs library.changes name x → ⊥ in
    let one : IsStaleBody library.specs library.changes name b → ⊥ = subst Q same has.2 in
    step_as (RoutineFate name given (routine_in routine b.object.routines)) (ModuleFate library name routine given) old new
    (λ fate f. (let P : Option Body → Type 0 = λ o. KeptFate library name routine given o fate in subst P (sym is) (fresh_one one f))) s

pub ruleset visits = (routine_none, routine_unfit, routine_fit, kept_none, kept_stale, kept_fresh)

-- ---- where it goes on no more, this is the end

pub ended_at : (library : Contents) (first : Member) (n : ℕ) (work : Work) → Walked library first n work → goes_on work.reached.value.members.keys n ≡ false → IsWalked library first work
ended_at library first n work w off = record { last = n; fates = w.fates; walk = w.walk; ended = off; noted = w.noted }

-- too many are listed
off_many : (us : List Member) (n : ℕ) → 4096 < length us → goes_on us n ≡ false
off_many us n l = let e : nat_le (length us) 4096 ≡ false = grind (arith, nat_tests, l) in ap (λ (b : Bool). b && nat_lt n (length us)) e

-- there is none at the place
off_none : (us : List Member) (n : ℕ) → length us ≤ n → goes_on us n ≡ false
off_none us n l = by (nat_le (length us) 4096)
  where
    e : nat_lt n (length us) ≡ false
    e = grind (arith, nat_tests, l)

    by : (b : Bool) → b && nat_lt n (length us) ≡ false
    by true = e
    by false = refl

-- from the last place on
off_past : (us : List Member) (n : ℕ) → 4096 ≤ n → goes_on us n ≡ false
off_past us n l = by (nat_le (length us) 4096) refl
  where
    past : nat_le (length us) 4096 ≡ true → nat_lt n (length us) ≡ false
    past e = grind (arith, nat_tests, e, l)

    by : (b : Bool) → nat_le (length us) 4096 ≡ b → nat_le (length us) 4096 && nat_lt n (length us) ≡ false
    by true e = ap (λ (x : Bool). x && nat_lt n (length us)) e ∙ past e
    by false e = ap (λ (x : Bool). x && nat_lt n (length us)) e

pub too_many_walked : (library : Contents) (first : Member) (n : ℕ) (work : Work) → 4096 < length work.reached.value.members.keys → Walked library first n work → IsWalked library first work
too_many_walked library first n work l w = ended_at library first n work w (off_many work.reached.value.members.keys n l)

pub none_walked : (library : Contents) (first : Member) (n : ℕ) (work : Work) → slice_get work.reached.value.members.keys n ≡ None → Walked library first n work → IsWalked library first work
none_walked library first n work e w = ended_at library first n work w (off_none work.reached.value.members.keys n (past work.reached.value.members.keys n e))
  where
    past : {X : Type 0} (xs : List X) (i : ℕ) → slice_get xs i ≡ None → length xs ≤ i
    past [] i f = omega arith
    past (z ∷ zs) zero f = absurd (none-some z (sym f))
    past (z ∷ zs) (suc i) f = let r : length zs ≤ i = past zs i f in omega (arith, r)

pub no_origin : (library : Contents) (first : Member) (n : ℕ) (o : Option Member) (work : Work)
    → slice_get work.reached.value.members.keys n ≡ o → IsOriginAt work.reached.value.types o None → Walked library first n work → IsWalked library first work
no_origin library first n None work e is w = none_walked library first n work e w
no_origin library first n (Some u) work e is w = elim is [ ]

pub all_walked : (library : Contents) (first : Member) (n : ℕ) (work : Work) → 4096 ≤ n → Walked library first n work → IsWalked library first work
all_walked library first n work l w = ended_at library first n work w (off_past work.reached.value.members.keys n l)

pub stopped : (library : Contents) (first : Member) (n : ℕ) (more : Bool) (work : Work) → more ≡ false → NextIs library first n more work → IsWalked library first work
stopped library first n false work e w = w
stopped library first n true work e w = absurd (true≢false e)

pub goes : (library : Contents) (first : Member) (n : ℕ) (more : Bool) (work : Work) → more ≡ true → NextIs library first n more work → Walked library first (suc n) work
goes library first n true work e w = w
goes library first n false work e w = absurd (true≢false (sym e))

-- the start
pub started : (library : Contents) (first : Member) (work : Work) → work.reached.value.members.keys ≡ first ∷ [] → AreFirst [] work.faults.value → Walked library first 0 work
unfolding Arrives
started library first work m b = record { fates = []; walk = (refl, sym m); noted = b }

pub ruleset steps = (stopped, goes)

-- ---- what comes of it

walk_at : (library : Contents) (first : Member) (work : Work) (w : IsWalked library first work) → IsWalk library work.reached.value.types 0 (first ∷ []) w.fates work.reached.value.members.keys
walk_at library first work w = walk_of library work.reached.value.types 0 (first ∷ []) w.fates w.last work.reached.value.members.keys w.walk w.ended

pub many_refused : (library : Contents) (first : Member) (work : Work) → IsWalked library first work → 4096 < length work.reached.value.members.keys → Refuses library first (Some too_many)
many_refused library first work w l = record {
  types = work.reached.value.types;
  instances = work.reached.value.members.keys;
  fates = w.fates;
  reach = walk_at library first work w;
  refused = let e : nat_lt 4096 (length work.reached.value.members.keys) ≡ true = grind (arith, nat_tests, l) in ap (λ (b : Bool). let r : Option Refusal = if b then Some too_many else by_fates w.fates in r) e;
}

few_refused : (us : List Member) (fates : List Fate) → length us ≤ 4096 → refusal_of us fates ≡ by_fates fates
few_refused us fates l = let e : nat_lt 4096 (length us) ≡ false = grind (arith, nat_tests, l) in ap (λ (b : Bool). let r : Option Refusal = if b then Some too_many else by_fates fates in r) e

refused_by : (library : Contents) (first : Member) (work : Work) (w : IsWalked library first work) (r : Option Refusal) → length work.reached.value.members.keys ≤ 4096 → by_fates w.fates ≡ r → Refuses library first r
refused_by library first work w r l e = record {
  types = work.reached.value.types;
  instances = work.reached.value.members.keys;
  fates = w.fates;
  reach = walk_at library first work w;
  refused = few_refused work.reached.value.members.keys w.fates l ∙ e;
}

pub error_refused : (library : Contents) (first : Member) (work : Work) (e : LinkError) → IsWalked library first work → length work.reached.value.members.keys ≤ 4096
    → ((fates : List Fate) → AreFirst fates work.faults.value → IsFirst fates (Some e)) → IsRefused library first e
error_refused library first work (error.NoModule name) w l f = elim (f w.fates w.noted) [ ]
error_refused library first work (error.BadStart name) w l f = elim (f w.fates w.noted) [ ]
error_refused library first work error.TooManyInstances w l f = elim (f w.fates w.noted) [ ]
error_refused library first work (error.NoBody name) w l f = refused_by library first work w (Some (no_body name)) l (f w.fates w.noted)
error_refused library first work (error.Stale name by changed checked) w l f = refused_by library first work w (Some (stale_body name)) l (f w.fates w.noted)
error_refused library first work (error.Misfit name) w l f = refused_by library first work w (Some (no_fit name)) l (f w.fates w.noted)
error_refused library first work error.ProgramTooLarge w l f = refused_by library first work w (Some too_large) l (f w.fates w.noted)
error_refused library first work error.Memory w l f = tt
error_refused library first work error.NotYet w l f = tt

pub none_refused : (library : Contents) (first : Member) (work : Work) → IsWalked library first work → length work.reached.value.members.keys ≤ 4096
    → ((fates : List Fate) → AreFirst fates work.faults.value → IsFirst fates None) → IsAccepted library first work.reached.value
none_refused library first work w l f = record {
  fates = w.fates;
  reach = walk_at library first work w;
  accepted = few_refused work.reached.value.members.keys w.fates l ∙ f w.fates w.noted;
}
