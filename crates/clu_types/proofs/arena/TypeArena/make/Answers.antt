use Rattle.std.proofs.Common.{sym, ap, ◌∙◌}
use Rattle.clu_types.specs.Arena.{type_of, actuals_at, types_of}
use Rattle.clu_types.specs.Substituted.{substituted}
use Rattle.clu_types.specs.Numbering.{numbers_of}
use Rattle.clu_types.proofs.Remaking.{term_within, term_remade}
use Rattle.clu_types.proofs.arena.TypeArena.make.Goals as goal

pub intern-requires : goal.intern-requires
intern-requires c =
    rw c.in_ok-renumbered-in-None.ensures
    (term_within (types_of c.args.from.now) c.args.actuals.now c.args.self.now (numbers_of c.args.table.now) c.view-term.result.now (c.requires.parts _ c.view-term.ensures.term))

pub returns-in-Some-clause-within : goal.returns-in-Some-clause-within
returns-in-Some-clause-within c = c.in-Some.ensures.below _ c.requires.actuals_in

pub returns-in_ok-renumbered-in-None-clause-of_type : goal.returns-in_ok-renumbered-in-None-clause-of_type
returns-in_ok-renumbered-in-None-clause-of_type c =
    let put = actuals_at (types_of c.args.self.now) c.args.actuals.now in
    let remade =
    term_remade (types_of c.args.from.now) c.args.actuals.now c.args.self.now (numbers_of c.args.table.now) c.view-term.result.now (c.requires.parts _ c.view-term.ensures.term) c.in-None.ensures.put in
    let same = ap (substituted put) c.view-term.ensures.of_type ∙ sym remade ∙ ap (type_of (types_of c.args.self.now)) (sym c.in_ok-renumbered-in-None.ensures) in
    rw same c.intern.ensures.of_type
