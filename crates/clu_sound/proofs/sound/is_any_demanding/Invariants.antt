use Rattle.std.proofs.Common.{◌≡◌, ◌<◌, Some, slice_get}
use Rattle.clu_types.specs.Arena.{type_at, type_of, types_of, PartsBelow}
use Rattle.clu_types.specs.declared.term.Term.{Term}
use Rattle.clu_types.specs.declared.term.TypeId.{TypeId}
use Rattle.clu_sound.specs.Visiting.{TermDemandsNothing}
use Rattle.clu_sound.proofs.sound.is_any_demanding.Given as goal

abbrev pub invariant-loop-n : goal.invariant-loop-n
invariant-loop-n l =
    (id : TypeId) → id.0 < l.n → (t : Term) × (slice_get l.types id.0 ≡ Some t) × PartsBelow id.0 t × (type_at (types_of l.types) id ≡ type_of (types_of l.types) t) × TermDemandsNothing l.specs t
