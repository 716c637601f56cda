-- Which constants are told by what is held of them.
use Rattle.std.specs.Prelude.{◌≡◌, ◌⊎◌, ◌≤◌, ◌+◌, ◌*◌, ◌-◌, ◌^◌, min, ℕ, List, [], ◌∷◌, ◌++◌, fold, length, slice_get, Option, Some, None}
use Rattle.clu_base.specs.declared.constants.Const.{Const}
use Rattle.clu_base.specs.declared.constants.Const.TheVariants as constant
use Rattle.clu_constants.specs.declared.held.Held.{Held}
use Rattle.clu_constants.specs.declared.held.Held.TheVariants as held

-- the text of a string; other constants have none
abbrev pub text_of : Const → List ℕ
text_of (constant.Str bytes) = bytes
text_of _ = []

abbrev pub text_in : Option Const → List ℕ
text_in (Some c) = text_of c
text_in None = []

abbrev pub text_at : List Const → ℕ → List ℕ
text_at constants k = text_in (slice_get constants k)

-- a number above 64 bits counts as the greatest of 64 bits
abbrev pub capped : ℕ → ℕ
capped n = min n (2 ^ 64 - 1)

-- the constant of which this is held, where those before it are known
abbrev pub held_by : List Const → Held → Const
held_by before (held.Whole c) = c
held_by before (held.Joined a b n) = constant.Str (text_at before a ++ text_at before b)

abbrev pub listed_after : List Const → List Held → List Const
listed_after before [] = before
listed_after before (h ∷ hs) = listed_after (before ++ held_by before h ∷ []) hs

abbrev pub listed : List Held → List Const
listed hs = listed_after [] hs

-- two texts are joined if each has bytes, and both together have so many
pub record IsJoin (left right : List ℕ) (n : ℕ) : Type 0 where
  pub some_left : 1 ≤ length left
  pub some_right : 1 ≤ length right
  pub size : n ≡ capped (length left + length right)

abbrev pub IsHeld : List Const → Held → Type 0
IsHeld before (held.Whole c) = Unit {0}
IsHeld before (held.Joined a b n) = IsJoin (text_at before a) (text_at before b) n

abbrev pub AreHeld : List Const → List Held → Type 0
AreHeld before [] = Unit {0}
AreHeld before (h ∷ hs) = IsHeld before h × AreHeld (before ++ held_by before h ∷ []) hs

-- more may come behind what is there
abbrev pub IsBegun : List Const → List Const → Type 0
IsBegun old new = (more : List Const) × (new ≡ old ++ more)

-- ---- strings that are joined

-- how many bytes a string has
abbrev pub length_of : Option Const → Option ℕ
length_of (Some (constant.Str bytes)) = Some (capped (length bytes))
length_of _ = None

-- at a place stands the string at a with that at b behind it
pub record AreJoined (old new : List Const) (a b place : ℕ) : Type 0 where
  pub left : List ℕ
  pub right : List ℕ
  pub at_left : slice_get old a ≡ Some (constant.Str left)
  pub at_right : slice_get old b ≡ Some (constant.Str right)
  pub both : slice_get new place ≡ Some (constant.Str (left ++ right))

-- or there is nothing new, as one of them is no string
abbrev pub IsJoinedTo : List Const → List Const → ℕ → ℕ → Option ℕ → Type 0
IsJoinedTo old new a b (Some place) = AreJoined old new a b place
IsJoinedTo old new a b None = (new ≡ old) × ((length_of (slice_get old a) ≡ None) ⊎ (length_of (slice_get old b) ≡ None))

-- ---- what is left to write: the texts of these places, the last first

module _ (constants : List Const) where
  abbrev pub HasBytes : ℕ → Type 0
  HasBytes place = 1 ≤ length (text_at constants place)

  abbrev pub text_left : List ℕ → List ℕ
  text_left places = fold (λ text place. text_at constants place ++ text) [] places

  -- each string of n bytes takes less than 2 * n steps, as it is made of no more than n
  abbrev pub steps_at : ℕ → ℕ
  steps_at place = 2 * length (text_at constants place) - 1

  abbrev pub steps_left : List ℕ → ℕ
  steps_left places = fold (λ steps place. steps + steps_at place) 0 places
