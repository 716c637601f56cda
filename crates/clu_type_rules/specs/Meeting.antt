-- What is asked of types and met, by the operations that they have.
use Rattle.std.specs.Prelude.{◌≡◌, ◌↔◌, ℕ, Bool, true, false, List, map, Contains, if◌then◌else◌, IsTrue, Option, Some, None}
use Rattle.clu_types.specs.CluType.{CluType}
use Rattle.clu_layout.specs.SameType.{fits}
use Rattle.clu_operations.specs.Told.{Ask, Told}
use Rattle.clu_type_rules.specs.declared.unmet.Unmet.{Unmet}
use Rattle.clu_type_rules.specs.Closed.{IsMet}

-- a type that is refused where it is declared fits all
abbrev pub may_fit : Option CluType → CluType → Bool
may_fit (Some t) wanted = fits t wanted
may_fit None wanted = true

-- the operation, if its type is included in the wanted one
abbrev pub fitting : CluType → Option Told → Option Told
fitting wanted (Some it) = if may_fit it.type wanted then Some it else None
fitting wanted None = None

-- what is asked, whether by an `in` clause or not
abbrev pub plain : Ask → Ask
plain a = record { of = a.of; operation = a.operation; wanted = a.wanted; in_set = false }

-- the operation of a type by its name, as it is found where one of the wanted type is looked for
module _ (found : CluType → List ℕ → CluType → Option Told) where
  -- what an operation asks in its turn, if its type is included in the wanted one
  abbrev pub asks_if : CluType → Option Told → Option (List Ask)
  asks_if wanted (Some it) = if may_fit it.type wanted then Some (map plain it.asks) else None
  asks_if wanted None = None

  abbrev pub asks_of : Ask → Option (List Ask)
  asks_of a = asks_if a.wanted (found a.of a.operation a.wanted)

  -- a type has an operation as it is asked for, and what that asks is met
  abbrev pub Meets : Ask → Type 0
  Meets a = IsMet asks_of (plain a)

  -- of these something is not met, which is asked by an `in` clause or not
  abbrev pub SomeUnmet : Bool → List Ask → Type 0
  SomeUnmet in_set asks = (a : Ask) × Contains asks a × (a.in_set ≡ in_set) × (Meets a → ⊥)

  pub record AreUnmet (asks : List Ask) (u : Unmet) : Type 0 where
    pub by_has : IsTrue u.by_has ↔ SomeUnmet false asks
    pub by_in : IsTrue u.by_in ↔ SomeUnmet true asks
