-- What holds while the parts of a type are made anew, one number after another.
use Rattle.std.specs.Prelude.{◌≡◌, ◌≢◌, ℕ, ◌<◌, ◌≤◌, List, [], ◌∷◌, length, slice_get, Option, None, Some, IsSome}
use Rattle.clu_types.specs.CluType.{CluType, Actuals, parameter}
use Rattle.clu_types.specs.Arena.{type_at, types_of, actuals_at, AreBelow, PartsBelow}
use Rattle.clu_types.specs.Substituted.{substituted, type_put}
use Rattle.clu_types.specs.Renumbered.{Numbers, number_in}
use Rattle.clu_types.specs.PartsOf.{parts_of}
use Rattle.clu_types.specs.declared.term.TypeId.{TypeId}
use Rattle.clu_types.specs.declared.term.Field.{Field}
use Rattle.clu_types.specs.declared.term.Exception.{Exception}
use Rattle.clu_types.specs.declared.term.Heading.{Heading}
use Rattle.clu_types.specs.declared.term.Actual.{Actual}
use Rattle.clu_types.specs.declared.term.Actual.TheVariants as actual
use Rattle.clu_types.specs.declared.term.Term.{Term}
use Rattle.clu_types.specs.declared.term.Term.TheVariants as term

-- P holds of each part
abbrev pub AreAll : (TypeId → Type 0) → List TypeId → Type 0
AreAll P [] = Unit {0}
AreAll P (id ∷ ids) = P id × AreAll P ids

abbrev pub FieldsAll : (TypeId → Type 0) → List Field → Type 0
FieldsAll P [] = Unit {0}
FieldsAll P (f ∷ fs) = P f.of × FieldsAll P fs

abbrev pub SignalsAll : (TypeId → Type 0) → List Exception → Type 0
SignalsAll P [] = Unit {0}
SignalsAll P (s ∷ ss) = AreAll P s.objects × SignalsAll P ss

abbrev pub HeadingAll : (TypeId → Type 0) → Heading → Type 0
HeadingAll P h = AreAll P h.args × AreAll P h.results × SignalsAll P h.signals

abbrev pub ActualAll : (TypeId → Type 0) → Actual → Type 0
ActualAll P (actual.Of id) = P id
ActualAll P (actual.Const c) = Unit {0}
ActualAll P (actual.ConstParam n) = Unit {0}

abbrev pub ActualsAll : (TypeId → Type 0) → List Actual → Type 0
ActualsAll P [] = Unit {0}
ActualsAll P (a ∷ rest) = ActualAll P a × ActualsAll P rest

abbrev pub PartsAll : (TypeId → Type 0) → Term → Type 0
PartsAll P term.Null = Unit {0}
PartsAll P term.Bool = Unit {0}
PartsAll P term.Int = Unit {0}
PartsAll P term.Char = Unit {0}
PartsAll P term.Str = Unit {0}
PartsAll P term.Any = Unit {0}
PartsAll P term.Stream = Unit {0}
PartsAll P (term.Array of) = P of
PartsAll P (term.Sequence of) = P of
PartsAll P (term.Record fs) = FieldsAll P fs
PartsAll P (term.Struct fs) = FieldsAll P fs
PartsAll P (term.Oneof fs) = FieldsAll P fs
PartsAll P (term.Variant fs) = FieldsAll P fs
PartsAll P (term.Proc h) = HeadingAll P h
PartsAll P (term.Iter h) = HeadingAll P h
PartsAll P (term.Cluster name given) = ActualsAll P given
PartsAll P (term.Param n) = Unit {0}

-- the table has an entry for the type
abbrev pub IsNeeded : Numbers → TypeId → Type 0
IsNeeded table id = IsSome (table id.0)

-- the parts of t have entries, and those of each number that has one; all are numbers before the whole
pub record AreNeeded (terms : List Term) (t : ℕ) (table : Numbers) : Type 0 where
  pub below : (n : ℕ) → IsSome (table n) → n < t
  pub of_whole : (whole : Term) → slice_get terms t ≡ Some whole → PartsAll (IsNeeded table) whole × PartsBelow t whole
  pub of_parts : (n : ℕ) (part : Term) → slice_get terms n ≡ Some part → IsSome (table n) → PartsAll (IsNeeded table) part × PartsBelow n part

-- the number n has this entry now, and others have those that they had
pub record IsPut (old new : Numbers) (n : ℕ) (id : TypeId) : Type 0 where
  pub here : new n ≡ Some id
  pub other : (k : ℕ) → k ≢ n → new k ≡ old k

-- the greatest number below n that has an entry
abbrev pub IsLastBelow : Numbers → ℕ → Option ℕ → Type 0
IsLastBelow table n None = (k : ℕ) → k < n → table k ≡ None
IsLastBelow table n (Some last) = (last < n) × IsSome (table last) × ((k : ℕ) → last < k → k < n → table k ≡ None)

-- the least from n on
abbrev pub IsFirstFrom : Numbers → ℕ → Option ℕ → Type 0
IsFirstFrom table n None = (k : ℕ) → n ≤ k → table k ≡ None
IsFirstFrom table n (Some first) = (n ≤ first) × IsSome (table first) × ((k : ℕ) → n ≤ k → k < first → table k ≡ None)

-- these have entries now, and others if they had one
pub record AreAdded (old new : Numbers) (ids : List TypeId) : Type 0 where
  pub stay : (n : ℕ) → IsSome (old n) → IsSome (new n)
  pub each : AreAll (IsNeeded new) ids
  pub only : (n : ℕ) → AreBelow n ids → (k : ℕ) → n ≤ k → IsSome (new k) → IsSome (old k)

-- the parts of the type n have entries now
pub record AreSpread (terms : List Term) (n : ℕ) (old new : Numbers) : Type 0 where
  pub whole : Term
  pub is : slice_get terms n ≡ Some whole
  pub below : PartsBelow n whole
  pub added : AreAdded old new (parts_of whole)

-- the table has a number of the arena for id, whose type is that of id with the actuals put in
pub record IsMade (source : List CluType) (given : Actuals) (terms : List Term) (table : Numbers) (id : TypeId) : Type 0 where
  pub within : (number_in table id).0 < length terms
  pub of_type : type_at (types_of terms) (number_in table id) ≡ substituted given (type_at source id)

-- so it has for each part of the type n of the other arena
abbrev pub ArePartsMade : List Term → List Actual → List Term → Numbers → ℕ → Type 0
ArePartsMade from given terms table n =
    (whole : Term) → slice_get from n ≡ Some whole → PartsAll (IsMade (types_of from) (actuals_at (types_of terms) given) terms table) whole

-- no actual is put in for the whole term
abbrev pub Stays : List Actual → Term → Type 0
Stays given (term.Param n) = (types : List CluType) → type_put (actuals_at types given) n ≡ parameter n
Stays given _ = Unit {0}
