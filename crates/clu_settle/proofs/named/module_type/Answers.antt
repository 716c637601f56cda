use Rattle.std.proofs.Common.{◌≡◌, ◌∙◌, ◌<◌, ◌==◌, ℕ, zero, suc, Bool, false, ap, sym, length, arith, Some}
use Rattle.std.proofs.lemmas.Bool.{true≢false}
use Rattle.clu_types.specs.Arena.{types_of}
use Rattle.clu_types.specs.CluType.{CluType}
use Rattle.clu_meaning.specs.Settling.{settled_type}
use Rattle.clu_settle.proofs.Made.{ok_more, applied}
use Rattle.clu_settle.proofs.named.module_type.Goals as goal

some_given : (r : Bool) (n : ℕ) → r ≡ (n == 0) → r ≡ false → 0 < n
some_given r zero e f = absurd (true≢false (sym e ∙ f))
some_given r (suc n) e f = omega arith

pub returns-else-is_empty-clause-known : goal.returns-else-is_empty-clause-known
returns-else-is_empty-clause-known c =
    let there : 0 < length c.as_slice.result.now = some_given c.is_empty.result (length c.as_slice.result.now) c.is_empty.ensures c.if-is_empty.false in
    let some : 0 < length c.args.given = omega (arith, there, ap length c.as_slice.ensures) in
    ok_more _ _ c.applied_type.result c.applied_type.ensures.known (λ v p constants. p constants ∙ ap (λ (t : CluType). Some (settled_type t)) (sym (applied (types_of c.args.types.now) c.args.name.now c.args.given some)))
