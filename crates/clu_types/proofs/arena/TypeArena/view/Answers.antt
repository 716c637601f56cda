use Rattle.std.proofs.Common.{◌≡◌, ◌<◌, length, Some, refl, slice_get}
use Rattle.std.proofs.lemmas.Option.{slice_get_read}
use Rattle.clu_types.proofs.Arenas.{type_found}
use Rattle.clu_types.proofs.arena.TypeArena.view.Goals as goal

pub returns-clause-of_type : goal.returns-clause-of_type
returns-clause-of_type c =
    let below : c.args.id.0 < length c.self.inside.terms = rw c.self.view_is c.requires in
    let found : slice_get c.self.inside.terms c.args.id.0 ≡ Some c.index-as_slice-id.result =
    slice_get_read _ _ _ _ refl below (rw (← c.as_slice.ensures) c.index-as_slice-id.is) in
    rw (← c.self.view_is) (type_found _ c.self.invariant c.args.id _ found below)
