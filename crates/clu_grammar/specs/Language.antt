-- The language of the grammar: which lists of symbols are a file, with every production free to be chosen.
use Rattle.std.specs.Prelude.{◌≡◌, ℕ, ◌+◌, ◌<◌, ◌≤◌, ◌⊎◌, List, [], ◌∷◌, ◌++◌, length, slice_get, Some, true}
use Rattle.clu_lexer.specs.declared.symbols.Symbol.{Symbol}
use Rattle.clu_grammar.specs.declared.items.Action.{Action}
use Rattle.clu_grammar.specs.declared.items.Item.{Item}
use Rattle.clu_grammar.specs.declared.items.Item.TheVariants as item
use Rattle.clu_grammar.specs.declared.items.Nonterminal.{Nonterminal}
use Rattle.clu_grammar.specs.declared.items.Nonterminal.TheVariants as nonterminal
use Rattle.clu_grammar.specs.Choice.{has}
use Rattle.clu_grammar.specs.Grammar.{productions}
use Rattle.clu_grammar.specs.Rows.{Production, take, peek, otherwise}

-- the items may stand for what the production reads: which symbol comes next plays no part
abbrev pub IsAlternative : Production → List Item → Type 0
IsAlternative (take symbols items) alternative = (s : Symbol) × (has symbols s ≡ true) × (alternative ≡ item.Terminal s ∷ items)
IsAlternative (peek symbols items) alternative = alternative ≡ items
IsAlternative (otherwise items) alternative = alternative ≡ items

abbrev pub IsOneOf : List Production → List Item → Type 0
IsOneOf [] alternative = ⊥
IsOneOf (p ∷ ps) alternative = IsAlternative p alternative ⊎ IsOneOf ps alternative

-- the symbols from one place up to the other are what the items stand for
pub data Derives (symbols : List Symbol) : List Item → ℕ → ℕ → Type 0 where
  done : (at : ℕ) → Derives symbols [] at at
  symbol : (s : Symbol) (items : List Item) (at to : ℕ) → slice_get symbols at ≡ Some s → Derives symbols items (at + 1) to → Derives symbols (item.Terminal s ∷ items) at to
  action : (a : Action) (items : List Item) (at to : ℕ) → Derives symbols items at to → Derives symbols (item.Action a ∷ items) at to
  choice : (n : Nonterminal) (items alternative : List Item) (at to : ℕ) → IsOneOf (productions n) alternative → Derives symbols (alternative ++ items) at to → Derives symbols (item.Nonterminal n ∷ items) at to

abbrev pub whole : List Item
whole = item.Nonterminal nonterminal.File ∷ []

-- the symbols are a file of the grammar
abbrev pub IsFile : List Symbol → Type 0
IsFile symbols = Derives symbols whole 0 (length symbols)

-- the lists have the same symbols before the place
abbrev pub SameBefore : List Symbol → List Symbol → ℕ → Type 0
SameBefore xs ys at = (i : ℕ) → i < at → slice_get ys i ≡ slice_get xs i

-- the lists have the same symbols up to the place and with it, the end counting as one
abbrev pub SameUpTo : List Symbol → List Symbol → ℕ → Type 0
SameUpTo xs ys at = (i : ℕ) → i ≤ at → slice_get ys i ≡ slice_get xs i

-- here the list ceases to begin a file: some file has its symbols before the place, and none has also this one
pub record FailsAt (symbols : List Symbol) (at : ℕ) : Type 0 where
  pub within : at ≤ length symbols
  pub before : (ys : List Symbol) × SameBefore symbols ys at × IsFile ys
  pub with_it : (ys : List Symbol) → SameUpTo symbols ys at → IsFile ys → ⊥
