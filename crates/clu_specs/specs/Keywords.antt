-- The words that begin a type.
use Rattle.std.specs.Prelude.{ℕ, if◌then◌else◌, List, [], ◌∷◌, map, Option, Some, None}
use Rattle.std.specs.Str.{bytes_eq}
use Rattle.clu_specs.specs.declared.keywords.Keyword.{Keyword}
use Rattle.clu_specs.specs.declared.keywords.TheConstants.{KEYWORDS}

-- what the first entry of this word is
abbrev pub keyword_in : List (List ℕ × Keyword) → List ℕ → Option Keyword
keyword_in [] text = None
keyword_in (entry ∷ table) text = if bytes_eq entry.0 text then Some entry.1 else keyword_in table text

unfoldable pub keyword_of : List ℕ → Option Keyword
keyword_of text = keyword_in (map (λ entry. (entry.0.now, entry.1)) KEYWORDS) text
