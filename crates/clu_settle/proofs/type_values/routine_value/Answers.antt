use Rattle.std.proofs.Common.{◌∙◌, length, sym}
use Rattle.clu_types.specs.Arena.{types_of}
use Rattle.clu_settle.specs.Values.{told}
use Rattle.clu_settle.proofs.Made.{ok_more, routine_agrees}
use Rattle.clu_settle.proofs.Members.{types_below, signals_below}
use Rattle.clu_settle.proofs.type_values.routine_value.Goals as goal

pub returns-clause-known : goal.returns-clause-known
returns-clause-known c = ok_more _ _ c.made.result c.made.ensures.known (λ v p constants args given ss a b e.
    routine_agrees (types_of c.args.types.now) constants c.args.values.now (told (types_of c.made.new.types) constants v) _ c.args.kind c.args.tree.now c.args.arguments.now c.args.results.now c.args.exceptions.now
    c.in-Some.args c.in-Some-2.results c.in-Some-3.signals args given ss (c.routine_term.ensures.of_type (types_of c.args.types.now))
    (sym c.in-Some.is ∙ c.in_ok-args.ensures) (sym c.in-Some-2.is ∙ c.in_ok-results.ensures) (sym c.in-Some-3.is ∙ c.in_ok-signals.ensures) a b e (p constants))

pub returns-clause-lost : goal.returns-clause-lost
returns-clause-lost c = ok_more _ _ c.made.result c.made.ensures.lost (λ v p lost within.
    absurd (p lost (c.routine_term.ensures.parts (length c.args.types.now)
    (types_below c.args.values.now (length c.args.types.now) within c.args.arguments.now c.in-Some.args (sym c.in-Some.is ∙ c.in_ok-args.ensures))
    (types_below c.args.values.now (length c.args.types.now) within c.args.results.now c.in-Some-2.results (sym c.in-Some-2.is ∙ c.in_ok-results.ensures))
    (signals_below c.args.values.now (length c.args.types.now) within c.args.tree.now c.args.exceptions.now c.in-Some-3.signals (sym c.in-Some-3.is ∙ c.in_ok-signals.ensures)))))
