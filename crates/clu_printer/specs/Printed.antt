-- The printed text of a list of tokens, by the lines of their tree.
use Rattle.std.specs.Prelude.{◌≡◌, ℕ, suc, zero, ◌+◌, ◌-◌, ◌&&◌, not, Bool, false, if◌then◌else◌, List, [], ◌∷◌, ◌++◌, map, take, drop, slice_get, Option, Some, None, unwrap_or}
use Rattle.std.specs.Char.{to_ascii_lowercase}
use Rattle.clu_base.specs.declared.tokens.Kind.{Kind}
use Rattle.clu_base.specs.declared.tokens.Kind.TheVariants as kind
use Rattle.clu_base.specs.declared.tokens.Token.{Token}
use Rattle.clu_lexer.specs.declared.symbols.Symbol.{Symbol}
use Rattle.clu_lexer.specs.declared.symbols.Symbol.TheVariants as symbol
use Rattle.clu_lexer.specs.contracts.symbols.Symbol.{the_type}
use Rattle.clu_lexer.specs.Words.{symbol_of}
use Rattle.clu_printer.specs.declared.lines.Layout.{Layout}
use Rattle.clu_printer.specs.declared.print.Before.{Before}
use Rattle.clu_printer.specs.declared.print.Text.{Text}
use Rattle.clu_tree.specs.declared.node.Node.{Node}
use Rattle.clu_printer.specs.Blanks.{blank_between}
use Rattle.clu_printer.specs.Lines.{Lines, Marked, lines_of}
use denote.Enum.Bare.{sameb}

-- the bytes of a token, and what it is to the grammar
abbrev pub bytes_of : List ℕ → Token → List ℕ
bytes_of bytes t = take (t.end - t.start) (drop t.start bytes)

abbrev pub symbol_in : List ℕ → Token → Symbol
symbol_in bytes t = symbol_of t.kind (bytes_of bytes t)

-- words and identifiers are printed in lower case, all else as it stands
abbrev pub token_text : Kind → List ℕ → List ℕ
token_text kind.Word text = map to_ascii_lowercase text
token_text kind.Idn text = map to_ascii_lowercase text
token_text _ text = text

-- two blanks for each step of indentation
abbrev pub indentation : ℕ → List ℕ
indentation zero = []
indentation (suc n) = indentation n ++ 32 ∷ 32 ∷ []

-- the end of the line before, if there is one
abbrev pub line_end : List ℕ → List ℕ
line_end [] = []
line_end (b ∷ bs) = 10 ∷ []

-- after a prefix operator and at the front stands no blank
abbrev pub blank_behind : Option Before → Symbol → List ℕ
blank_behind None s = []
blank_behind (Some b) s = if not b.is_prefix && blank_between b.symbol s then 32 ∷ [] else []

-- what stands between the text so far and the next token, which may begin a line
abbrev pub space : List ℕ → Option Before → Option ℕ → Symbol → List ℕ
space text last (Some indent) s = line_end text ++ indentation indent
space text last None s = blank_behind last s

-- what has been printed, and the token printed last
pub record Made : Type 0 where
  pub text : List ℕ
  pub last : Option Before

abbrev pub made : Text → Made
made t = record { text = t.bytes.items; last = t.last }

-- a token more has been printed
abbrev pub with_token : List ℕ → Token → Symbol → Option ℕ → Bool → Made → Made
with_token bytes t s indent is_prefix m =
    record {
      text = m.text ++ space m.text m.last indent s ++ token_text t.kind (bytes_of bytes t);
      last = Some (record { symbol = s; is_prefix = is_prefix });
    }

abbrev pub lines : Layout → Lines
lines l = record { begins = l.begins.items; prefix = l.prefix.items }

abbrev pub marked : Layout → List ℕ → Marked
marked l indents = record { lines = lines l; indents = indents }

abbrev pub indent_at : List (Option ℕ) → ℕ → Option ℕ
indent_at begins n = unwrap_or (slice_get begins n) None

abbrev pub prefix_at : List Bool → ℕ → Bool
prefix_at prefix n = unwrap_or (slice_get prefix n) false

abbrev pub known : Option Symbol → Symbol
known None = symbol.Unknown
known (Some s) = s

abbrev pub symbol_at : List Symbol → ℕ → Symbol
symbol_at symbols n = known (slice_get symbols n)

-- the token of this number is printed, but for the optional ;
abbrev pub with_next : List ℕ → List Symbol → Lines → ℕ → Token → Made → Made
with_next bytes symbols lines n t m =
    if sameb the_type (symbol_at symbols n) symbol.Semicolon then m else
    with_token bytes t (symbol_at symbols n) (indent_at lines.begins n) (prefix_at lines.prefix n) m

-- what the tokens from this number on are printed as, after what was printed before
abbrev pub printed_behind : List ℕ → List Symbol → Lines → ℕ → List Token → Made → Made
printed_behind bytes symbols lines n [] m = m
printed_behind bytes symbols lines n (t ∷ ts) m = printed_behind bytes symbols lines (n + 1) ts (with_next bytes symbols lines n t m)

abbrev pub nothing_made : Made
nothing_made = record { text = []; last = None }

-- what the tokens are printed as in these lines
abbrev pub printed_in : List ℕ → List Token → List Symbol → Lines → List ℕ
printed_in bytes tokens symbols lines = (printed_behind bytes symbols lines 0 tokens nothing_made).text ++ 10 ∷ []

-- the printed text of a source with these tokens and this tree
abbrev pub printed : List ℕ → List Token → List Node → List ℕ
printed bytes tokens nodes = printed_in bytes tokens (map (symbol_in bytes) tokens) (lines_of (map (symbol_in bytes) tokens) nodes)
