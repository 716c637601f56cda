-- Arenas that grow, with what is known of their numbers before, and the numbers in lists of parts.
use Rattle.std.proofs.Common.{◌≡◌, ℕ, ◌<◌, ◌≤◌, zero, suc, List, [], ◌∷◌, ◌++◌, length, get_or, ◌∙◌, ap, arith, length-append, append_assoc}
use Rattle.clu_types.specs.Arena.{actuals_at, types_of, AreBelow, FieldsBelow, SignalsBelow, ActualBelow, ActualsBelow, Grows}
use Rattle.clu_types.specs.declared.term.TypeId.{TypeId}
use Rattle.clu_types.specs.declared.term.Field.{Field}
use Rattle.clu_types.specs.declared.term.Exception.{Exception}
use Rattle.clu_types.specs.declared.term.Actual.{Actual}
use Rattle.clu_types.specs.declared.term.Term.{Term}
use Rattle.clu_types.proofs.Parts.{ids_more, actuals_more, actuals_same}
use Rattle.clu_types.proofs.Arenas.{types_grown}

pub grows_on : (a b c : List Term) → Grows a b → Grows b c → Grows a c
grows_on a b c g h = (g.0 ++ h.0, h.1 ∙ ap (λ (x : List Term). x ++ h.0) g.1 ∙ append_assoc a g.0 h.0)

pub length_grows : (a b : List Term) → Grows a b → length a ≤ length b
length_grows a b g = omega (arith, ap length g.1, length-append a g.0)

pub given_grown : (old new : List Term) → Grows old new → (given : List Actual) → ActualsBelow (length old) given → actuals_at (types_of new) given ≡ actuals_at (types_of old) given
given_grown old new g given b = actuals_same (types_of new) (types_of old) (length old) (types_grown old new g) given b

pub given_more : (old new : List Term) → Grows old new → (given : List Actual) → ActualsBelow (length old) given → ActualsBelow (length new) given
given_more old new g given b = actuals_more (length old) (length new) (length_grows old new g) given b

pub ids_grown : (old new : List Term) → Grows old new → (ids : List TypeId) → AreBelow (length old) ids → AreBelow (length new) ids
ids_grown old new g ids b = ids_more (length old) (length new) (length_grows old new g) ids b

-- what is below n in a list is below n at each place
pub id_below : (n : ℕ) (ids : List TypeId) (i : ℕ) (d : TypeId) → AreBelow n ids → i < length ids → (get_or ids i d).0 < n
id_below n [] i d b lt = absurd (omega arith)
id_below n (x ∷ xs) zero d b lt = b.0
id_below n (x ∷ xs) (suc i) d b lt = id_below n xs i d b.1 (omega arith)

pub field_below : (n : ℕ) (fs : List Field) (i : ℕ) (d : Field) → FieldsBelow n fs → i < length fs → (get_or fs i d).of.0 < n
field_below n [] i d b lt = absurd (omega arith)
field_below n (x ∷ xs) zero d b lt = b.0
field_below n (x ∷ xs) (suc i) d b lt = field_below n xs i d b.1 (omega arith)

pub signal_below : (n : ℕ) (ss : List Exception) (i : ℕ) (d : Exception) → SignalsBelow n ss → i < length ss → AreBelow n (get_or ss i d).objects
signal_below n [] i d b lt = absurd (omega arith)
signal_below n (x ∷ xs) zero d b lt = b.0
signal_below n (x ∷ xs) (suc i) d b lt = signal_below n xs i d b.1 (omega arith)

pub actual_below : (n : ℕ) (given : List Actual) (i : ℕ) (d : Actual) → ActualsBelow n given → i < length given → ActualBelow n (get_or given i d)
actual_below n [] i d b lt = absurd (omega arith)
actual_below n (x ∷ xs) zero d b lt = b.0
actual_below n (x ∷ xs) (suc i) d b lt = actual_below n xs i d b.1 (omega arith)
