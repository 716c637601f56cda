-- The type of force, by its term.
use Rattle.std.proofs.Common.{◌≡◌, ◌<◌, ℕ, List, length, ap₂}
use Rattle.std.specs.Prelude.{codes}
use Rattle.clu_types.specs.CluType.{CluType, any_type, proc_of, no_types, type_and, no_signals, signal_and}
use Rattle.clu_types.specs.declared.term.TypeId.{TypeId}
use Rattle.clu_types.specs.declared.term.Term.{Term}
use Rattle.clu_types.specs.Arena.{type_at, type_of, types_of, SignalsBelow, PartsBelow, Grows}
use Rattle.clu_types.proofs.Arenas.{types_grown}
use Rattle.clu_typing.specs.Typing.{wrong_type, force_term, force_type}

wrong_below : (n : ℕ) → SignalsBelow n wrong_type
unfolding wrong_type
wrong_below n = (tt, tt)

pub force_parts : (n : ℕ) (any to : TypeId) → any.0 < n → to.0 < n → PartsBelow n (force_term any to)
force_parts n any to any_in to_in = ((any_in, tt), (to_in, tt), wrong_below n)

pub force_typed : (old new : List Term) → Grows old new → (any to : TypeId) → type_at (types_of new) any ≡ any_type → to.0 < length old → type_of (types_of new) (force_term any to) ≡ force_type (type_at (types_of old) to)
unfolding wrong_type force_type
force_typed old new grown any to is within =
    ap₂ (λ (a t : CluType). proc_of (type_and a no_types) (type_and t no_types) (signal_and (codes "wrong_type") no_types no_signals)) is (types_grown old new grown to within)
