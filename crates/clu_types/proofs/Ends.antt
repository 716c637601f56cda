-- The last entry of a table below a number, by what a range of it says of its last.
use Rattle.std.proofs.Common.{◌≡◌, ℕ, ◌<◌, ◌≤◌, false, Option, None, Some, IsSome, is_some, refl, sym, ap, arith}
use Rattle.std.specs.Ordering.{is_lt, nat_cmp}
use Rattle.std.specs.Cmp.{nat_cmp_is}
use Rattle.std.specs.declared.cmp.Ordering.TheVariants as ordering
use Rattle.std.specs.declared.ops.Bound.TheVariants as bound
use Rattle.std.specs.BTreeMap.{BTreeMap, get}
use Rattle.std.specs.BTreeMap.Range.{IsInRange}
use Rattle.std.proofs.lemmas.Cmp.{ranked}
use Rattle.std.proofs.lemmas.Map.Keys.{ge_from_not_lt}
use Rattle.clu_types.specs.Carried.{IsLastBelow}
use Rattle.clu_types.specs.declared.term.TypeId.{TypeId}

module _ (m : BTreeMap ℕ TypeId) (n last : ℕ) (id : TypeId) where
  pub last_entry : IsInRange nat_cmp bound.Unbounded (bound.Excluded n) last × (get nat_cmp m last ≡ Some id)
      → ((q : ℕ) → IsInRange nat_cmp bound.Unbounded (bound.Excluded n) q → IsSome (get nat_cmp m q) → is_lt (nat_cmp last q) ≡ false)
      → IsLastBelow (get nat_cmp m) n (Some last)
  last_entry here greatest = (ranked last n ordering.Less (sym here.0.1), ap is_some here.1, none)
    where
      none : (k : ℕ) → last < k → k < n → get nat_cmp m k ≡ None
      none k after before = by (get nat_cmp m k) refl
        where
          by : (found : Option TypeId) → get nat_cmp m k ≡ found → get nat_cmp m k ≡ None
          by None e = e
          by (Some x) e =
              let no_more : k ≤ last = ge_from_not_lt last k (greatest k (tt, sym (nat_cmp_is k n ordering.Less before)) (ap is_some e)) in
              absurd (omega (arith, no_more, after))
