use Rattle.std.proofs.Common.{◌+◌, ◌-◌, drop, ap, arith}
use Rattle.std.proofs.lemmas.List.{length-take, length-drop}
use Rattle.clu_base.specs.declared.tokens.Place.{Place}
use Rattle.clu_lexer.proofs.Next.{place_at-small, place_is, is_bad, is_token}
use Rattle.clu_lexer.proofs.tokens.token_after.Goals as goal

pub advance-place-requires-clause-lines : goal.advance-place-requires-clause-lines
advance-place-requires-clause-lines c =
    omega (
      arith,
      (place_at-small c.args.bytes.now c.args.from c.requires.within).0,
      ap (λ (p : Place). p.line) c.requires.placed,
      length-take (c.args.from + c.gap.result - c.args.from) (drop c.args.from c.args.bytes.now),
      length-drop c.args.from c.args.bytes.now,
    )

pub advance-place-requires-clause-columns : goal.advance-place-requires-clause-columns
advance-place-requires-clause-columns c =
    omega (
      arith,
      (place_at-small c.args.bytes.now c.args.from c.requires.within).1,
      ap (λ (p : Place). p.col) c.requires.placed,
      length-take (c.args.from + c.gap.result - c.args.from) (drop c.args.from c.args.bytes.now),
      length-drop c.args.from c.args.bytes.now,
    )

pub returns-in-None : goal.returns-in-None
returns-in-None c =
    is_bad c.args.bytes.now c.args.from c.gap.result c.advance-place.result c.gap.ensures.gap
    (place_is c.args.bytes.now c.args.from c.gap.result c.args.place c.advance-place.result c.requires.placed c.advance-place.ensures)
    c.if-is_empty.ensures c.in-None.ensures

pub returns-in-Some : goal.returns-in-Some
returns-in-Some c =
    is_token c.args.bytes.now c.args.from c.gap.result c.in-Some.len c.kind_in-kind.result c.in-Some.class c.advance-place.result c.gap.ensures.gap
    (place_is c.args.bytes.now c.args.from c.gap.result c.args.place c.advance-place.result c.requires.placed c.advance-place.ensures)
    c.in-Some.ensures c.kind_in-kind.ensures
