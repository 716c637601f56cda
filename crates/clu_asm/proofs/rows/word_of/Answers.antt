use Rattle.std.proofs.Common.{◌≡◌, ℕ, Some, ap, sym, refl, ◌∙◌}
use Rattle.std.specs.Int.{w32, to_be_bytes, from_be_bytes}
use Rattle.std.proofs.lemmas.Nat.{from_be_bytes-to_be_bytes_4}
use Rattle.hex.specs.Hex.{encode_lower}
use Rattle.clu_asm.proofs.HexTexts.{decoded_is, word_bytes}
use Rattle.clu_asm.proofs.rows.word_of.Goals as goal

pub returns-in-Ok-clause-only : goal.returns-in-Ok-clause-only
returns-in-Ok-clause-only c = λ w lt e.
    let d = decoded_is 4 c.args.digits.now c.decode_to_slice.new.out (to_be_bytes w32 w) c.decode_to_slice.result c.decode_to_slice.ensures.value e refl (word_bytes w) in
    let value : c.from_be_bytes.result ≡ w = c.from_be_bytes.ensures ∙ ap (from_be_bytes w32) d.1 ∙ from_be_bytes-to_be_bytes_4 w lt in
    c.checked.ensures.only (e ∙ ap (λ (n : ℕ). encode_lower (to_be_bytes w32 n)) (sym value)) ∙ ap Some value

pub returns-in-Err-clause-only : goal.returns-in-Err-clause-only
returns-in-Err-clause-only c = λ w lt e.
    let d = decoded_is 4 c.args.digits.now c.decode_to_slice.new.out (to_be_bytes w32 w) c.decode_to_slice.result c.decode_to_slice.ensures.value e refl (word_bytes w) in
    absurd (cc (d.0, c.in-Err.is))
