use Rattle.clu_types.proofs.Equality.{same_id}
use Rattle.clu_types.proofs.Arenas.{equal_ids}
use Rattle.clu_types.proofs.arena.TypeArena.equal.Goals as goal

pub returns : goal.returns
returns c =
    rw (← c.self.view_is)
    (equal_ids _ c.self.invariant c.args.a c.args.b (rw c.self.view_is c.requires.a_in) (rw c.self.view_is c.requires.b_in) c.eq.result
    (rw c.eq.ensures (same_id c.args.a c.args.b)))
