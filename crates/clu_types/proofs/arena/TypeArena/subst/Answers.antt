use Rattle.std.proofs.Common.{◌≡◌, ◌∙◌}
use Rattle.clu_types.specs.Arena.{type_at, types_of}
use Rattle.clu_types.proofs.Identity.{substituted-none}
use Rattle.clu_types.proofs.arena.TypeArena.subst.Goals as goal

pub returns-clause-of_type : goal.returns-clause-of_type
returns-clause-of_type c =
    let copied : type_at (types_of c.carry.new.self) c.in_ok-copied.copied ≡ type_at (types_of c.args.self.now) c.args.t =
    c.in_ok-copied.ensures.of_type ∙ substituted-none (type_at (types_of c.args.self.now) c.args.t) in
    rw (← copied) c.carry-2.ensures.of_type
