-- Entries that the parts of types get, going down from a type: those that were there stay, and each type that has one has its
-- parts among them in the end.
use Rattle.std.proofs.Common.{◌≡◌, ◌≢◌, ℕ, ◌<◌, ◌≤◌, Bool, true, false, List, [], ◌∷◌, ◌++◌, Option, None, Some, IsSome, is_some, slice_get, refl, sym, ap, ◌∙◌, arith, subst}
use borrow.Author.Tests.{ltb-true, ltb-false, eqb-true, eqb-false}
use Rattle.std.proofs.Math.Dec.{ltb, eqb}
use Rattle.std.proofs.lemmas.Bool.{false≢true}
use Rattle.clu_types.specs.Arena.{AreBelow, PartsBelow}
use Rattle.clu_types.specs.Renumbered.{Numbers}
use Rattle.clu_types.specs.Carried.{AreAll, PartsAll, IsNeeded, AreNeeded, IsPut, IsLastBelow, AreAdded, AreSpread}
use Rattle.clu_types.specs.declared.term.TypeId.{TypeId}
use Rattle.clu_types.specs.declared.term.Term.{Term}
use Rattle.clu_types.proofs.AllParts.{parts_both}
use Rattle.clu_types.proofs.PartsOf.{all_joined, parts_all, parts_below}

pub has_none : {A : Type 0} (o : Option TypeId) → o ≡ None → IsSome o → A
has_none o none some = absurd (false≢true (ap is_some (sym none) ∙ some))

module _ (old new : Numbers) (n : ℕ) (id : TypeId) (put : IsPut old new n id) where
  pub put_here : (k : ℕ) → k ≡ n → IsSome (new k)
  put_here k is = subst (λ (k : ℕ). IsSome (new k)) (sym is) (subst (λ (o : Option TypeId). IsSome o) (sym put.here) refl)

  pub put_stays : (k : ℕ) → IsSome (old k) → IsSome (new k)
  put_stays k some = by (eqb k n) refl
    where
      by : (b : Bool) → eqb k n ≡ b → IsSome (new k)
      by true e = put_here k (omega (arith, eqb-true))
      by false e = let other : k ≢ n = omega (arith, eqb-false) in subst (λ (o : Option TypeId). IsSome o) (sym (put.other k other)) some

  pub put_only : (k : ℕ) → k ≢ n → IsSome (new k) → IsSome (old k)
  put_only k other some = subst (λ (o : Option TypeId). IsSome o) (put.other k other) some

below_front : (n : ℕ) (xs ys : List TypeId) → AreBelow n (xs ++ ys) → AreBelow n xs
below_front n [] ys b = tt
below_front n (x ∷ xs) ys b = (b.0, below_front n xs ys b.1)

below_behind : (n : ℕ) (xs ys : List TypeId) → AreBelow n (xs ++ ys) → AreBelow n ys
below_behind n [] ys b = b
below_behind n (x ∷ xs) ys b = below_behind n xs ys b.1

all_keep : (P Q : TypeId → Type 0) → ((id : TypeId) → P id → Q id) → (ids : List TypeId) → AreAll P ids → AreAll Q ids
all_keep P Q on [] h = tt
all_keep P Q on (id ∷ ids) h = (on id h.0, all_keep P Q on ids h.1)

pub added_none : (table : Numbers) → AreAdded table table []
added_none table = record { stay = λ n some. some; each = tt; only = λ n b k le some. some }

pub added_next : (old now new : Numbers) (ids : List TypeId) (id : TypeId) → AreAdded old now ids → IsPut now new id.0 id → AreAdded old new (ids ++ id ∷ [])
added_next old now new ids id added put = record {
  stay = λ n some. put_stays now new id.0 id put n (added.stay n some);
  each = all_joined (IsNeeded new) ids (id ∷ []) (all_keep (IsNeeded now) (IsNeeded new) (λ one some. put_stays now new id.0 id put one.0 some) ids added.each) (put_here now new id.0 id put id.0 refl, tt);
  only = only;
}
  where
    only : (n : ℕ) → AreBelow n (ids ++ id ∷ []) → (k : ℕ) → n ≤ k → IsSome (new k) → IsSome (old k)
    only n b k le some =
        let less : id.0 < n = (below_behind n ids (id ∷ []) b).0 in
        let other : k ≢ id.0 = omega (arith, less, le) in
        added.only n (below_front n ids (id ∷ []) b) k le (put_only now new id.0 id put k other some)

-- the table while the types from n on have given their parts entries
pub record AreNeededFrom (terms : List Term) (t n : ℕ) (table : Numbers) : Type 0 where
  pub within : n ≤ t
  pub below : (k : ℕ) → IsSome (table k) → k < t
  pub of_whole : (whole : Term) → slice_get terms t ≡ Some whole → PartsAll (IsNeeded table) whole × PartsBelow t whole
  pub of_parts : (i : ℕ) (part : Term) → n ≤ i → slice_get terms i ≡ Some part → IsSome (table i) → PartsAll (IsNeeded table) part × PartsBelow i part

same : (x y : Term) → Some x ≡ Some y → x ≡ y
same x y e = cc

-- the parts of a type that was spread have entries
spread_parts : (terms : List Term) (n : ℕ) (old new : Numbers) → AreSpread terms n old new → (part : Term) → slice_get terms n ≡ Some part → PartsAll (IsNeeded new) part × PartsBelow n part
spread_parts terms n old new spread part e =
    subst (λ (x : Term). PartsAll (IsNeeded new) x × PartsBelow n x) (same spread.whole part (sym spread.is ∙ e)) (parts_all (IsNeeded new) spread.whole spread.added.each, spread.below)

pub needed_first : (terms : List Term) (t : ℕ) (old table : Numbers) → ((k : ℕ) → old k ≡ None) → AreSpread terms t old table → AreNeededFrom terms t t table
needed_first terms t old table none spread = record {
  within = omega arith;
  below = below;
  of_whole = spread_parts terms t old table spread;
  of_parts = λ i part le e some. absurd (let less = below i some in omega (arith, less, le));
}
  where
    below : (k : ℕ) → IsSome (table k) → k < t
    below k some = by (ltb k t) refl
      where
        by : (b : Bool) → ltb k t ≡ b → k < t
        by true e = omega (arith, ltb-true)
        by false e = has_none (old k) (none k) (spread.added.only t (parts_below t spread.whole spread.below) k (omega (arith, ltb-false)) some)

pub needed_step : (terms : List Term) (t least n : ℕ) (old new : Numbers) → IsLastBelow old least (Some n) → AreSpread terms n old new → AreNeededFrom terms t least old → AreNeededFrom terms t n new
needed_step terms t least n old new last spread known = record {
  within = omega (arith, last.0, known.within);
  below = below;
  of_whole = λ whole e. let h = known.of_whole whole e in (keep whole h.0, h.1);
  of_parts = of_parts;
}
  where
    keep : (x : Term) → PartsAll (IsNeeded old) x → PartsAll (IsNeeded new) x
    keep x h = parts_both (IsNeeded old) (IsNeeded old) (IsNeeded new) (λ id some again. spread.added.stay id.0 some) x h h

    before : (k : ℕ) → n ≤ k → IsSome (new k) → IsSome (old k)
    before = spread.added.only n (parts_below n spread.whole spread.below)

    below : (k : ℕ) → IsSome (new k) → k < t
    below k some = by (ltb k n) refl
      where
        by : (b : Bool) → ltb k n ≡ b → k < t
        by true e = omega (arith, ltb-true, last.0, known.within)
        by false e = known.below k (before k (omega (arith, ltb-false)) some)

    of_parts : (i : ℕ) (part : Term) → n ≤ i → slice_get terms i ≡ Some part → IsSome (new i) → PartsAll (IsNeeded new) part × PartsBelow i part
    of_parts i part le e some = by (ltb n i) refl
      where
        behind : (b : Bool) → ltb i least ≡ b → n < i → PartsAll (IsNeeded new) part × PartsBelow i part
        behind true less after = has_none (old i) (last.2 i after (omega (arith, ltb-true))) (before i le some)
        behind false less after = let h = known.of_parts i part (omega (arith, ltb-false)) e (before i le some) in (keep part h.0, h.1)

        by : (b : Bool) → ltb n i ≡ b → PartsAll (IsNeeded new) part × PartsBelow i part
        by true less = behind (ltb i least) refl (omega (arith, ltb-true))
        by false less =
            let here : n ≡ i = omega (arith, ltb-false) in
            subst (λ (k : ℕ). PartsAll (IsNeeded new) part × PartsBelow k part) here (spread_parts terms n old new spread part (ap (slice_get terms) here ∙ e))

pub needed_all : (terms : List Term) (t least : ℕ) (table : Numbers) → IsLastBelow table least None → AreNeededFrom terms t least table → AreNeeded terms t table
needed_all terms t least table none known = record { below = known.below; of_whole = known.of_whole; of_parts = of_parts }
  where
    of_parts : (i : ℕ) (part : Term) → slice_get terms i ≡ Some part → IsSome (table i) → PartsAll (IsNeeded table) part × PartsBelow i part
    of_parts i part e some = by (ltb i least) refl
      where
        by : (b : Bool) → ltb i least ≡ b → PartsAll (IsNeeded table) part × PartsBelow i part
        by true less = has_none (table i) (none i (omega (arith, ltb-true))) some
        by false less = known.of_parts i part (omega (arith, ltb-false)) e some
