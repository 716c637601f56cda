use Rattle.clu_asm.proofs.FaultLemmas.{first_begins, second_begins, third_begins}
use Rattle.clu_asm.proofs.FrontLemmas.{yes, not_so}
use Rattle.clu_asm.proofs.reading.Next.can_begin.Goals as goal

pub returns-then-can_code_begin : goal.returns-then-can_code_begin
returns-then-can_code_begin c = yes (first_begins c.args.self.code c.args.self.fixed c.args.self.area c.args.cut.now (c.can_code_begin.ensures.0 c.if-can_code_begin.true))

pub returns-then-can_row_begin : goal.returns-then-can_row_begin
returns-then-can_row_begin c = yes (second_begins c.args.self.code c.args.self.fixed c.args.self.area c.args.cut.now (c.can_row_begin.ensures.0 c.if-can_row_begin.true))

pub returns-else-can_row_begin : goal.returns-else-can_row_begin
returns-else-can_row_begin c =
    third_begins c.args.self.code c.args.self.fixed c.args.self.area c.args.cut.now c.can_row_begin-else-can_row_begin.result
    (not_so c.can_code_begin.result c.if-can_code_begin.false c.can_code_begin.ensures) (not_so c.can_row_begin.result c.if-can_row_begin.false c.can_row_begin.ensures) c.can_row_begin-else-can_row_begin.ensures
