-- Items that are skipped, as a loop goes over them.
use Rattle.std.proofs.Common.{◌≡◌, ℕ, suc, ◌+◌, ◌-◌, ◌<◌, ◌≤◌, List, Option, Some, None, refl, sym, ◌∙◌, arith}
use Rattle.clu_object.specs.Ahead.{items_skipped}

module _ (item : List ℕ → Option (List ℕ)) where
  pub skip_on : (count i : ℕ) (bytes after : List ℕ) (total : Option (List ℕ)) → i < count → Some after ≡ item bytes → items_skipped item (count - i) bytes ≡ total → items_skipped item (count - (i + 1)) after ≡ total
  unfolding items_skipped
  skip_on count i bytes after total lt here so_far =
      let k : count - i ≡ suc (count - (i + 1)) = omega arith in
      let one : items_skipped item (count - i) bytes ≡ items_skipped item (count - (i + 1)) after = rw (k, sym here) refl in
      sym one ∙ so_far

  pub skip_none : (count i : ℕ) (bytes : List ℕ) (total : Option (List ℕ)) → i < count → None ≡ item bytes → items_skipped item (count - i) bytes ≡ total → None ≡ total
  unfolding items_skipped
  skip_none count i bytes total lt here so_far =
      let k : count - i ≡ suc (count - (i + 1)) = omega arith in
      let one : items_skipped item (count - i) bytes ≡ None = rw (k, sym here) refl in
      sym one ∙ so_far

  pub skip_end : (count i : ℕ) (bytes : List ℕ) (total : Option (List ℕ)) → count ≤ i → items_skipped item (count - i) bytes ≡ total → Some bytes ≡ total
  unfolding items_skipped
  skip_end count i bytes total le so_far =
      let k : count - i ≡ 0 = omega arith in
      let one : items_skipped item (count - i) bytes ≡ Some bytes = rw k refl in
      sym one ∙ so_far
