use Rattle.std.proofs.Common.{ℕ, length, ap, arith}
use Rattle.std.proofs.lemmas.List.{length-map}
use Rattle.clu_peep.specs.declared.places.Place.{Place}
use Rattle.clu_peep.specs.Left.{begins}
use Rattle.clu_peep.proofs.Shorter.{leaves_shorter}
use Rattle.clu_peep.proofs.peeping.shorter.Goals as goal

pub moved-requires : goal.moved-requires
moved-requires c =
    let fewer = (leaves_shorter (begins c.as_slice.result.now) c.args.code.items c.in_ok-left.left.items c.in_ok-left.ensures.leaves).count in
    let places = ap {B = ℕ} length c.as_slice-3.ensures.value in
    let numbers = ap {B = ℕ} length c.in_ok-places.ensures in
    let left = ap {B = ℕ} length c.as_slice-2.ensures.value in
    let of_numbers = length-map c.as_slice-2.result.now (λ (x : Place). x.number) in
    let of_steps = length-map c.in_ok-left.left.items (λ (x : Place). x.step) in
    omega (arith, c.requires, fewer, places, numbers, left, of_numbers, of_steps)
