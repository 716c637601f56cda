-- Needs by number while the arena grows.
use Rattle.std.proofs.Common.{◌≡◌, ◌⊎◌, inl, inr, ℕ, ◌<◌, ◌≤◌, zero, suc, List, [], ◌∷◌, ◌++◌, Contains, length, map, get_or, slice_get, Option, Some, None, refl, sym, ap, ◌∙◌, subst, arith, ap₂}
use Rattle.std.proofs.lemmas.Option.{same_Some}
use Rattle.clu_base.proofs.Lists.{none_is_not, head_or_tail, in_head, in_tail, in_none}
use Rattle.clu_types.specs.CluType.{CluType}
use Rattle.clu_types.specs.Arena.{type_at, types_of, Grows}
use Rattle.clu_types.specs.declared.spec.Demand.{Demand}
use Rattle.clu_types.specs.declared.term.Term.{Term}
use Rattle.clu_types.proofs.Arenas.{types_grown}
use Rattle.clu_types.proofs.Carrying.{length_grows}
use Rattle.clu_types.proofs.Equality.{join3}
use Rattle.clu_builtin.specs.Operation.{Needed}
use Rattle.clu_specs.specs.Seen.{Demanded, demand_seen}
use Rattle.clu_specs.specs.Specifications.{DemandsBelow}
use Rattle.clu_demands.specs.declared.needs.Asked.{Asked}
use Rattle.clu_demands.specs.Asking.{asked_seen, all_seen, IsBelow, AreBelowAll}

-- ---- below

pub one_more_below : (m n : ℕ) → m ≤ n → (a : Asked) → IsBelow m a → IsBelow n a
one_more_below m n le a b = (omega (arith, b.0), omega (arith, b.1))

pub more_below : (m n : ℕ) → m ≤ n → (xs : List Asked) → AreBelowAll m xs → AreBelowAll n xs
more_below m n le [] b = tt
more_below m n le (a ∷ xs) b = (one_more_below m n le a b.0, more_below m n le xs b.1)

pub below_at : (n : ℕ) (xs : List Asked) (k : ℕ) (a : Asked) → AreBelowAll n xs → slice_get xs k ≡ Some a → IsBelow n a
below_at n [] k a b e = none_is_not a e
below_at n (x ∷ xs) zero a b e = subst (IsBelow n) (same_Some x a e) b.0
below_at n (x ∷ xs) (suc k) a b e = below_at n xs k a b.1 e

pub below_in : (n : ℕ) (xs : List Asked) (a : Asked) → AreBelowAll n xs → Contains xs a → IsBelow n a
below_in n [] a b h = in_none a h
below_in n (x ∷ xs) a b h = by (head_or_tail x xs a h) (below_in n xs a b.1)
  where
    by : (x ≡ a) ⊎ Contains xs a → (Contains xs a → IsBelow n a) → IsBelow n a
    by (inl is) later = subst (IsBelow n) is b.0
    by (inr there) later = later there

pub below_each : (n : ℕ) (xs : List Asked) → ((k : ℕ) (a : Asked) → slice_get xs k ≡ Some a → IsBelow n a) → AreBelowAll n xs
below_each n [] h = tt
below_each n (a ∷ xs) h = (h 0 a refl, below_each n xs (λ k x e. h (suc k) x e))

-- ---- what they are stays

pub one_same : (old new : List Term) → Grows old new → (a : Asked) → IsBelow (length old) a → asked_seen (types_of new) a ≡ asked_seen (types_of old) a
one_same old new g a b =
    ap₂ (λ (x y : CluType). let n : Needed = record { of = x; op = a.op; wanted = y } in n) (types_grown old new g a.of b.0) (types_grown old new g a.wanted b.1)

pub all_same : (old new : List Term) → Grows old new → (xs : List Asked) → AreBelowAll (length old) xs → all_seen (types_of new) xs ≡ all_seen (types_of old) xs
all_same old new g [] b = refl
all_same old new g (a ∷ xs) b = ap₂ (λ (n : Needed) (ns : List Needed). n ∷ ns) (one_same old new g a b.0) (all_same old new g xs b.1)

pub demands_more : (m n : ℕ) → m ≤ n → (ds : List Demand) → DemandsBelow m ds → DemandsBelow n ds
demands_more m n le [] b = tt
demands_more m n le (d ∷ ds) b = (omega (arith, b.0), demands_more m n le ds b.1)

pub demands_same : (old new : List Term) → Grows old new → (ds : List Demand) → DemandsBelow (length old) ds → map (demand_seen (types_of new)) ds ≡ map (demand_seen (types_of old)) ds
demands_same old new g [] b = refl
demands_same old new g (d ∷ ds) b =
    ap₂ (λ (t : CluType) (rest : List Demanded). (let x : Demanded = record { param = d.param; op = d.op; wanted = t } in x) ∷ rest) (types_grown old new g d.wanted b.0) (demands_same old new g ds b.1)

-- ---- which they are

pub seen_in : (types : List CluType) (xs : List Asked) (a : Asked) → Contains xs a → Contains (all_seen types xs) (asked_seen types a)
seen_in types [] a h = in_none a h
seen_in types (x ∷ xs) a h = by (head_or_tail x xs a h) (seen_in types xs a)
  where
    by : (x ≡ a) ⊎ Contains xs a → (Contains xs a → Contains (all_seen types xs) (asked_seen types a)) → Contains (all_seen types (x ∷ xs)) (asked_seen types a)
    by (inl is) later = in_head (asked_seen types x) (all_seen types xs) (asked_seen types a) (ap (asked_seen types) is)
    by (inr there) later = in_tail (asked_seen types x) (all_seen types xs) (asked_seen types a) (later there)

pub seen_from : (types : List CluType) (xs : List Asked) (n : Needed) → Contains (all_seen types xs) n → (a : Asked) × Contains xs a × (asked_seen types a ≡ n)
seen_from types [] n h = in_none n h
seen_from types (x ∷ xs) n h = by (head_or_tail (asked_seen types x) (all_seen types xs) n h) (seen_from types xs n)
  where
    by : (asked_seen types x ≡ n) ⊎ Contains (all_seen types xs) n → (Contains (all_seen types xs) n → (a : Asked) × Contains xs a × (asked_seen types a ≡ n)) → (a : Asked) × Contains (x ∷ xs) a × (asked_seen types a ≡ n)
    by (inl is) later = (x, in_head x xs x refl, is)
    by (inr there) later = let r = later there in (r.0, in_tail x xs r.0 r.1, r.2)

-- those of a list are those of one with more, when the arena has grown
pub seen_grown : (old new : List Term) → Grows old new → (few many : List Asked) → AreBelowAll (length old) few → ((a : Asked) → Contains few a → Contains many a)
    → (n : Needed) → Contains (all_seen (types_of old) few) n → Contains (all_seen (types_of new) many) n
seen_grown old new g few many b more n h =
    let r = seen_from (types_of old) few n h in
    let same : asked_seen (types_of new) r.0 ≡ n = one_same old new g r.0 (below_in (length old) few r.0 b r.1) ∙ r.2 in
    subst (λ (x : Needed). Contains (all_seen (types_of new) many) x) same (seen_in (types_of new) many r.0 (more r.0 r.1))
