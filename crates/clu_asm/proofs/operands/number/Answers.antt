use Rattle.std.proofs.Common.{◌≡◌, ◌<◌, ◌^◌, ℤ, List, ℕ, Ok, Err, rules, arith, ap, sym, ◌∙◌}
use Rattle.std.specs.Fmt.{signed_decimal}
use Rattle.std.proofs.lemmas.Fmt.{parse-signed_decimal, IsAscii-signed}
use Rattle.std.proofs.lemmas.Str.{IsUtf8-from_ascii}
use Rattle.std.proofs.Math.Facts.{to_z-of_z}
use lib.Signed.{mag}
use mir.Syntax.{w32}
use mir.Val.{SFits, to_z, of_z}
use Rattle.clu_asm.specs.Candidates.{checked, number_of}
use Rattle.clu_asm.proofs.NumberLemmas.{number_none, checked_is}
use Rattle.clu_asm.proofs.operands.number.Goals as goal

pub returns-in-Ok-parse : goal.returns-in-Ok-parse
returns-in-Ok-parse c =
    let fits : SFits w32 c.in-Ok-parse.n = search rules in
    let back : to_z w32 (of_z w32 c.in-Ok-parse.n) ≡ c.in-Ok-parse.n = to_z-of_z fits in
    let only : (z : ℤ) → mag z < 2 ^ 31 → c.args.text.now ≡ signed_decimal z → c.in-Ok-parse.n ≡ z =
    λ z h e. let p = parse-signed_decimal w32 z c.in-Ok.digits.now c.parse.result (record { sfits = h }) (omega (arith, h)) ((c.in-Ok.ensures {u = tt}).cases.0 ∙ e) c.parse.ensures.value.0 in cc (p, c.in-Ok-parse.is) in
    c.checked.ensures ∙ ap (λ (z : ℤ). checked z c.args.text.now) back ∙ checked_is c.in-Ok-parse.n c.args.text.now fits.sfits only

pub returns-in-Err-parse : goal.returns-in-Err-parse
returns-in-Err-parse c =
    sym (number_none c.args.text.now (λ z h e. let p = parse-signed_decimal w32 z c.in-Ok.digits.now c.parse.result (record { sfits = h }) (omega (arith, h)) ((c.in-Ok.ensures {u = tt}).cases.0 ∙ e) c.parse.ensures.value.0 in absurd (cc (p, c.in-Err-parse.is))))

pub returns-in-Err : goal.returns-in-Err
returns-in-Err c =
    sym (number_none c.args.text.now (λ z h e. (c.in-Err.ensures {u = tt}).cases.0 (rw e (IsUtf8-from_ascii (signed_decimal z) (IsAscii-signed z (omega (arith, h)))))))
