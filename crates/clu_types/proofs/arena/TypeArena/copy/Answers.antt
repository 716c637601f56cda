use Rattle.std.proofs.Common.{◌≡◌, ◌∙◌, length, get_or, ap, arith}
use Rattle.std.proofs.lemmas.List.{length-take-le}
use Rattle.clu_types.specs.Arena.{IsArena}
use Rattle.clu_types.proofs.Arenas.{next_added}
use Rattle.clu_types.proofs.arena.TypeArena.copy.Goals as goal

pub intern-requires : goal.intern-requires
intern-requires c =
    let arena : IsArena c.as_slice-terms.result.now = rw c.as_slice-terms.ensures c.self.invariant in
    let long : length c.loop-term.copied ≡ c.loop-term.term-index =
    ap (λ xs. length xs) c.loop-term.invariant ∙ length-take-le c.loop-term.term-index c.as_slice-terms.result.now (omega arith) in
    rw (long, c.in_ok-copy.ensures, c.term-item.is) (arena.parts c.loop-term.term-index c.term-item.result c.loop-term-test.true)

pub loop-term-preserved : goal.loop-term-preserved
loop-term-preserved c =
    let arena : IsArena c.as_slice-terms.result.now = rw c.as_slice-terms.ensures c.self.invariant in
    let is : c.in_ok-copy.field-0 ≡ get_or c.as_slice-terms.result.now c.loop-term.term-index c.in_ok-copy.field-0 = rw c.in_ok-copy.ensures c.term-item.is in
    let added = c.in_ok-intern.ensures.nothing_else in
    next_added c.as_slice-terms.result.now c.intern.new.self arena c.loop-term.term-index c.in_ok-copy.field-0 c.in_ok-intern.field-0 c.loop-term-test.true is
    (rw c.loop-term.invariant at added) c.in_ok-intern.ensures.found c.in_ok-intern.ensures.within
