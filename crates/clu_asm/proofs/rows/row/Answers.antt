use Rattle.std.proofs.Common.{◌≡◌, ◌∙◌, sym}
use Rattle.hex.specs.Hex.{encode_lower}
use Rattle.std.proofs.lemmas.List.{append_cancel_left}
use Rattle.clu_asm.proofs.rows.row.Goals as goal

pub returns-in-Some-clause-only : goal.returns-in-Some-clause-only
returns-in-Some-clause-only c = λ row eight are e.
    c.bytes.ensures.only row eight are (append_cancel_left c.args.word.now c.in-Some.digits.now (encode_lower row) (sym (c.in-Some.ensures {u = tt}) ∙ e))
