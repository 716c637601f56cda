use Rattle.std.proofs.Common.{◌≡◌, Some, ap, sym, ◌∙◌}
use Rattle.hex.specs.Hex.{encode_lower}
use Rattle.clu_asm.proofs.HexTexts.{decoded_is, bytes_from}
use Rattle.clu_asm.proofs.rows.bytes.Goals as goal

pub returns-then-same-clause-only : goal.returns-then-same-clause-only
returns-then-same-clause-only c = λ row eight are e.
    let d = decoded_is 8 c.args.digits.now c.decode_to_slice.new.out row c.decode_to_slice.result c.decode_to_slice.ensures.value e eight (bytes_from row are) in
    ap Some d.1

pub returns-else-same-clause-only : goal.returns-else-same-clause-only
returns-else-same-clause-only c = λ row eight are e.
    let d = decoded_is 8 c.args.digits.now c.decode_to_slice.new.out row c.decode_to_slice.result c.decode_to_slice.ensures.value e eight (bytes_from row are) in
    let yes = c.is_written-same.ensures.1 (e ∙ ap encode_lower (sym (c.as_slice.ensures ∙ d.1))) in
    absurd (cc (yes, c.if-same.false))

pub returns-in-Err-clause-only : goal.returns-in-Err-clause-only
returns-in-Err-clause-only c = λ row eight are e.
    let d = decoded_is 8 c.args.digits.now c.decode_to_slice.new.out row c.decode_to_slice.result c.decode_to_slice.ensures.value e eight (bytes_from row are) in
    absurd (cc (d.0, c.in-Err.is))
