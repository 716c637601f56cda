use Rattle.clu_types.specs.Arena.{IsArena}
use Rattle.clu_types.proofs.Inclusion.{narrower_procs, narrower_iters}
use Rattle.clu_types.proofs.arena.TypeArena.is_narrower.Goals as goal

pub returns-in-Proc-view : goal.returns-in-Proc-view
returns-in-Proc-view c =
    let arena : IsArena c.args.self.now = rw (← c.self.view_is) c.self.invariant in
    narrower_procs _ arena _ _ _ _ _ _ c.in-Proc-view.is c.in-Proc.is c.requires.a_in c.requires.b_in c.view-in-Proc.ensures.parts c.view.ensures.parts
    c.view-in-Proc.ensures.of_type c.view.ensures.of_type _ c.is_narrower_heading.ensures

pub returns-in-Iter-view : goal.returns-in-Iter-view
returns-in-Iter-view c =
    let arena : IsArena c.args.self.now = rw (← c.self.view_is) c.self.invariant in
    narrower_iters _ arena _ _ _ _ _ _ c.in-Iter-view.is c.in-Iter.is c.requires.a_in c.requires.b_in c.view-in-Iter.ensures.parts c.view.ensures.parts
    c.view-in-Iter.ensures.of_type c.view.ensures.of_type _ c.is_narrower_heading-in-Iter-view.ensures
