-- What a token is to the grammar.
use Rattle.std.specs.Prelude.{ℕ, Bool, true, false, if◌then◌else◌, ◌==◌, ◌&&◌, List, [], ◌∷◌, Option, Some, None}
use Rattle.std.specs.Char.{to_ascii_lowercase}
use Rattle.clu_lexer.specs.declared.symbols.Symbol.{Symbol}

-- the text is the word, in letters of either case
abbrev pub spells : List ℕ → List ℕ → Bool
spells [] [] = true
spells [] (t ∷ text) = false
spells (w ∷ word) [] = false
spells (w ∷ word) (t ∷ text) = (w == to_ascii_lowercase t) && spells word text

-- the symbol of the first entry that the text spells
abbrev pub symbol_named : List (List ℕ × Symbol) → List ℕ → Option Symbol
symbol_named [] text = None
symbol_named (entry ∷ table) text = if spells entry.0 text then Some entry.1 else symbol_named table text
