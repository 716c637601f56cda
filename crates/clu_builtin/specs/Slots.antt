-- The numbers of the types that rows name.
use Rattle.std.specs.Prelude.{◌≡◌, ℕ, ◌<◌, List, [], ◌∷◌}
use Rattle.clu_types.specs.CluType.{CluType, bool_type, int_type, char_type, string_type, array_of}
use Rattle.clu_types.specs.Arena.{type_at}
use Rattle.clu_types.specs.declared.term.TypeId.{TypeId}
use Rattle.clu_types.specs.declared.term.Exception.{Exception}
use Rattle.clu_builtin.specs.declared.slots.Slots.{Slots}
use Rattle.clu_builtin.specs.declared.row.Slot.{Slot}
use Rattle.clu_builtin.specs.declared.row.Slot.TheVariants as slot
use Rattle.clu_builtin.specs.declared.row.Takes.{Takes}
use Rattle.clu_builtin.specs.declared.row.Takes.TheVariants as takes
use Rattle.clu_builtin.specs.declared.row.Gives.{Gives}
use Rattle.clu_builtin.specs.declared.row.Gives.TheVariants as gives
use Rattle.clu_builtin.specs.declared.row.Raises.{Raises}
use Rattle.clu_builtin.specs.declared.row.Raises.TheVariants as raises
use Rattle.clu_builtin.specs.declared.names.Signal.{Signal}
use Rattle.clu_builtin.specs.declared.names.Signal.TheVariants as signal
use Rattle.clu_builtin.specs.Names.{signal_name}

-- the slots are numbers below n of these types
pub record AreSlots (types : List CluType) (n : ℕ) (T t : CluType) (s : Slots) : Type 0 where
  pub own : (s.own.0 < n) × (type_at types s.own ≡ T)
  pub part : (s.part.0 < n) × (type_at types s.part ≡ t)
  pub bool : (s.bool.0 < n) × (type_at types s.bool ≡ bool_type)
  pub int : (s.int.0 < n) × (type_at types s.int ≡ int_type)
  pub char : (s.char.0 < n) × (type_at types s.char ≡ char_type)
  pub string : (s.string.0 < n) × (type_at types s.string ≡ string_type)
  pub array : (s.array.0 < n) × (type_at types s.array ≡ array_of t)

abbrev pub slot_id : Slots → Slot → TypeId
slot_id s slot.Own = s.own
slot_id s slot.Part = s.part
slot_id s slot.Bool = s.bool
slot_id s slot.Int = s.int
slot_id s slot.Char = s.char
slot_id s slot.Str = s.string
slot_id s slot.Array = s.array

abbrev pub taken_ids : Slots → Takes → List TypeId
taken_ids s takes.Nothing = []
taken_ids s (takes.One a) = slot_id s a ∷ []
taken_ids s (takes.Two a b) = slot_id s a ∷ slot_id s b ∷ []
taken_ids s (takes.Three a b c) = slot_id s a ∷ slot_id s b ∷ slot_id s c ∷ []

abbrev pub given_ids : Slots → Gives → List TypeId
given_ids s gives.Nothing = []
given_ids s (gives.Value a) = slot_id s a ∷ []
given_ids s (gives.Yields a) = slot_id s a ∷ []

abbrev pub object_ids : Slots → Signal → List TypeId
object_ids s signal.BadFormat = []
object_ids s signal.Bounds = []
object_ids s signal.EndOfFile = []
object_ids s signal.IllegalChar = []
object_ids s signal.NegativeExponent = []
object_ids s signal.NegativeSize = []
object_ids s signal.NotPossible = s.string ∷ []
object_ids s signal.Overflow = []
object_ids s signal.WrongTag = []
object_ids s signal.ZeroDivide = []

abbrev pub exception : Slots → Signal → Exception
exception s a = record { name = signal_name a; objects = object_ids s a }

abbrev pub exceptions : Slots → Raises → List Exception
exceptions s raises.Nothing = []
exceptions s (raises.One a) = exception s a ∷ []
exceptions s (raises.Two a b) = exception s a ∷ exception s b ∷ []
