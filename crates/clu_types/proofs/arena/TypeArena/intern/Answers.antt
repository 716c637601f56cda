use Rattle.clu_types.proofs.Arenas.{added_arena, added_grows, added_at_most, type_grown}
use Rattle.clu_types.proofs.arena.TypeArena.intern.Goals as goal

pub invariant_of-self-2 : goal.invariant_of-self-2
invariant_of-self-2 c = added_arena _ _ c.args.term c.in_ok-number.ensures.added c.self.invariant (rw c.self.view_is c.requires)

pub returns-clause-of_type : goal.returns-clause-of_type
returns-clause-of_type c =
    type_grown _ _ c.args.term (record { 0 = c.in_ok-number.number }) (invariant_of-self-2 c)
    (rw (← c.self.view_is) (added_grows _ _ c.args.term c.in_ok-number.ensures.added)) c.requires c.in_ok-number.ensures.found c.in_ok-number.ensures.within

pub returns-clause-nothing_else : goal.returns-clause-nothing_else
returns-clause-nothing_else c = rw (← c.self.view_is) (added_at_most _ _ c.args.term c.in_ok-number.ensures.added)

pub returns-clause-kept : goal.returns-clause-kept
returns-clause-kept c = rw (← c.self.view_is) (added_grows _ _ c.args.term c.in_ok-number.ensures.added)
