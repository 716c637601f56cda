-- Levels: how many brackets and statements with an end are open.
use Rattle.std.specs.Prelude.{ℕ, ◌+◌, ◌-◌, ◌<◌, ◌≤◌, Bool, true, false, if◌then◌else◌, List, [], ◌∷◌, length, take, Option, MatchOption}
use Rattle.clu_lexer.specs.declared.symbols.Symbol.{Symbol}
use Rattle.clu_lexer.specs.declared.symbols.Symbol.TheVariants as symbol

-- ( [ { if while for tagcase begin except proc iter cluster
abbrev pub opens : Symbol → Bool
opens symbol.LeftParen = true
opens symbol.LeftBracket = true
opens symbol.LeftBrace = true
opens symbol.If = true
opens symbol.While = true
opens symbol.For = true
opens symbol.Tagcase = true
opens symbol.Begin = true
opens symbol.Except = true
opens symbol.Proc = true
opens symbol.Iter = true
opens symbol.Cluster = true
opens _ = false

-- ) ] } end
abbrev pub closes : Symbol → Bool
closes symbol.RightParen = true
closes symbol.RightBracket = true
closes symbol.RightBrace = true
closes symbol.End = true
closes _ = false

-- a level does not fall below 0
abbrev pub level_behind : ℕ → Symbol → ℕ
level_behind level s = if opens s then level + 1 else if closes s then level - 1 else level

abbrev pub level_from : ℕ → List Symbol → ℕ
level_from level [] = level
level_from level (s ∷ symbols) = level_from (level_behind level s) symbols

-- the level after the first k symbols
abbrev pub level_at : List Symbol → ℕ → ℕ
level_at symbols k = level_from 0 (take k symbols)

-- up to k no level is above 200
abbrev pub IsLow : List Symbol → ℕ → Type 0
IsLow symbols k = (j : ℕ) → j ≤ k → level_at symbols j ≤ 200

-- at this symbol the level passes 200 for the first time
pub record IsTooHigh (symbols : List Symbol) (at : ℕ) : Type 0 where
  pub within : at < length symbols
  pub low : IsLow symbols at
  pub high : 200 < level_at symbols (at + 1)

abbrev pub IsFirstTooHigh : List Symbol → Option ℕ → Type 0
IsFirstTooHigh symbols first = MatchOption first (IsLow symbols (length symbols)) (IsTooHigh symbols)
