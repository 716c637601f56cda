-- Facts on flags.
use Rattle.std.proofs.Common.{◌≡◌, Bool, true, false, not, ◌&&◌, refl}
use Rattle.clu_grammar.proofs.Tests.{implies}

pub and_left : (a b : Bool) → (a && b) ≡ true → a ≡ true
and_left true b h = refl
and_left false b h = absurd (cc)

pub and_right : (a b : Bool) → (a && b) ≡ true → b ≡ true
and_right true b h = h
and_right false b h = absurd (cc)

pub implied : (a b : Bool) → implies a b ≡ true → a ≡ true → b ≡ true
implied true b h k = h
implied false b h k = absurd (cc)

pub denied : (a : Bool) → not a ≡ true → a ≡ true → ⊥
denied true h k = cc
denied false h k = cc

pub true_is_false : (b : Bool) → b ≡ true → b ≡ false → ⊥
true_is_false b h k = cc
