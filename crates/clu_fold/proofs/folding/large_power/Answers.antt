use Rattle.std.proofs.Common.{pos, ap, sym, ◌∙◌, arith}
use Rattle.std.specs.Int.{w64}
use Rattle.std.proofs.lemmas.Int.{to_z-of_z, to_z_pos}
use Rattle.clu_fold.proofs.Powers.{large_power_fits_not, even_small_power, odd_small_power}
use Rattle.clu_fold.proofs.folding.large_power.Goals as goal

pub returns-then-size-gt1 : goal.returns-then-size-gt1
returns-then-size-gt1 c =
    let v = simp (to_z-of_z w64 c.args.a c.ranges.a) at c.unsigned_abs-size.ensures.value in
    large_power_fits_not c.args.a c.args.exponent (omega (arith, v, c.if-size-gt1.true)) c.requires

pub returns-then-exponent-eq0 : goal.returns-then-exponent-eq0
returns-then-exponent-eq0 c =
    let v = simp (to_z-of_z w64 c.args.a c.ranges.a) at c.unsigned_abs-size.ensures.value in
    let e = even_small_power c.args.a c.args.exponent (omega (arith, v, c.if-size-gt1.false)) c.requires (omega (arith, c.if-exponent-eq0.true)) in
    (rw e (record { sfits = omega (arith, v, c.if-size-gt1.false) }), to_z_pos w64 c.unsigned_abs-size.result (omega (arith, v, c.if-size-gt1.false)) ∙ ap pos v ∙ sym e)

pub returns-else-exponent-eq0 : goal.returns-else-exponent-eq0
returns-else-exponent-eq0 c =
    let v = simp (to_z-of_z w64 c.args.a c.ranges.a) at c.unsigned_abs-size.ensures.value in
    let e = odd_small_power c.args.a c.args.exponent (omega (arith, v, c.if-size-gt1.false)) c.requires (λ even. omega (arith, even, c.if-exponent-eq0.false)) in
    (rw e c.ranges.a, to_z-of_z w64 c.args.a c.ranges.a ∙ sym e)
