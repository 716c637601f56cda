-- Lemmas on orderings by their numbers.
use Rattle.std.proofs.Common.{◌≡◌, ◌≤◌, true, refl, sym, arith, is_lt, Ordering, Less, Equal, Greater, true≢false, false, is_eq}
use Rattle.std.specs.Ordering.{ordering_index}

pub stays_less : (o p : Ordering) → ordering_index o ≤ ordering_index p → is_lt p ≡ true → is_lt o ≡ true
stays_less Less p le e = refl
stays_less Equal Less le e = absurd (omega (arith, le))
stays_less Greater Less le e = absurd (omega (arith, le))
stays_less Equal Equal le e = absurd (true≢false (sym e))
stays_less Equal Greater le e = absurd (true≢false (sym e))
stays_less Greater Equal le e = absurd (true≢false (sym e))
stays_less Greater Greater le e = absurd (true≢false (sym e))

pub most_is_other : (o : Ordering) → 2 ≤ ordering_index o → is_eq o ≡ false
most_is_other Less le = absurd (omega (arith, le))
most_is_other Equal le = absurd (omega (arith, le))
most_is_other Greater le = refl

pub most_index : (o : Ordering) → ordering_index o ≤ 2
most_index Less = omega arith
most_index Equal = omega arith
most_index Greater = omega arith
