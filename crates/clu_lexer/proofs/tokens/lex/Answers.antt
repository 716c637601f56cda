use Rattle.clu_lexer.proofs.Cuts.{reaches_more, token_small}
use Rattle.clu_lexer.proofs.tokens.lex.Goals as goal

pub advance-place-requires-clause-lines : goal.advance-place-requires-clause-lines
advance-place-requires-clause-lines c = (token_small c.args.bytes.now c.tokens.at c.in-Ok-Some.token c.requires (rw c.in-Ok-Some.field-0-is at c.in-Ok-Some.ensures)).0

pub advance-place-requires-clause-columns : goal.advance-place-requires-clause-columns
advance-place-requires-clause-columns c = (token_small c.args.bytes.now c.tokens.at c.in-Ok-Some.token c.requires (rw c.in-Ok-Some.field-0-is at c.in-Ok-Some.ensures)).1

pub tokens-preserved : goal.tokens-preserved
tokens-preserved c =
    rw c.in_ok-push-in-Ok-Some.ensures.items
    (reaches_more c.args.bytes.now c.tokens.tokens.items c.tokens.at c.tokens.place c.in-Ok-Some.token c.advance-place.result c.tokens.invariant
    (rw c.in-Ok-Some.field-0-is at c.in-Ok-Some.ensures) c.advance-place.ensures)
