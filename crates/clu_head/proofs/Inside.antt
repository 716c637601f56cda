-- Where each target is one of so many and as many have a span, all are inside.
use Rattle.std.proofs.Common.{◌≡◌, ℕ, ◌<◌, List, length, Option, Some, arith}
use Rattle.std.specs.List.{All}
use Rattle.clu_base.proofs.Lists.{all_got}
use Rattle.clu_circles.specs.declared.states.Span.{Span}
use Rattle.clu_circles.specs.Circles.{AreInside}
use Rattle.clu_head.specs.Sets.{IsBelow}

pub all_inside : (targets : List (Option ℕ)) (spans : List Span) (n : ℕ) → n ≡ length spans → All (IsBelow n) targets → AreInside targets spans
all_inside targets spans n e all at t there = let below : t < n = all_got (IsBelow n) targets at (Some t) all there in omega (arith, below, e)
