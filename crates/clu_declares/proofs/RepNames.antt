-- A token that is the word `rep` is spelled so.
use Rattle.std.proofs.Common.{◌≡◌, ◌∙◌, ℕ, Bool, true, false, not, ◌&&◌, ◌||◌, List, [], ◌∷◌, map, codes, unwrap_or, Option, Some, None, inl, inr, refl, sym, ap, subst}
use Rattle.std.specs.Char.{to_ascii_lowercase}
use Rattle.std.specs.Str.{bytes_eq}
use Rattle.std.proofs.lemmas.Bool.{cases_Bool, and_parts, true≢false}
use Rattle.std.proofs.lemmas.Option.{none-some, same_Some}
use Rattle.clu_base.specs.declared.tokens.Kind.{Kind}
use Rattle.clu_base.specs.declared.tokens.Kind.TheVariants as token_kind
use Rattle.clu_lexer.specs.declared.symbols.Symbol.{Symbol}
use Rattle.clu_lexer.specs.declared.symbols.Symbol.TheVariants as s
use Rattle.clu_lexer.specs.Symbols.{spells, symbol_named}
use Rattle.clu_lexer.specs.Words.{words, marks, symbol_of}
use Rattle.clu_parser.specs.Spellings.{spelled}
use Rattle.clu_parser.specs.Shape.{Spells}
use Rattle.clu_declares.proofs.RepWords.{lower_is}

abbrev is_rep : Symbol → Bool
is_rep s.Rep = true
is_rep _ = false

abbrev is_told : List ℕ → Symbol → Bool
is_told word x = not (is_rep x) || bytes_eq word (codes "rep")

abbrev all_told : List (List ℕ × Symbol) → Bool
all_told [] = true
all_told (entry ∷ table) = is_told entry.0 entry.1 && all_told table

words_told : all_told words ≡ true
words_told = refl

marks_told : all_told marks ≡ true
marks_told = refl

told_so : (word : List ℕ) (x : Symbol) → is_told word x ≡ true → x ≡ s.Rep → bytes_eq word (codes "rep") ≡ true
told_so word x e is = sym (ap (λ (x : Symbol). is_told word x) is) ∙ e

named_told : (table : List (List ℕ × Symbol)) (text : List ℕ) (x : Symbol) → all_told table ≡ true → symbol_named table text ≡ Some x → x ≡ s.Rep → bytes_eq (map to_ascii_lowercase text) (codes "rep") ≡ true
named_told [] text x all e is = absurd (none-some x e)
named_told (entry ∷ table) text x all e is =
    let p = and_parts (is_told entry.0 entry.1) (all_told table) all in
    elim (cases_Bool (spells entry.0 text)) [
      | inl holds ↦ subst (λ (word : List ℕ). bytes_eq word (codes "rep") ≡ true) (sym (lower_is entry.0 text holds)) (told_so entry.0 entry.1 p.0 (same_Some entry.1 x (rw holds at e) ∙ is))
      | inr fails ↦ named_told table text x p.1 (rw fails at e) is
    ]

found_told : (table : List (List ℕ × Symbol)) (text : List ℕ) → all_told table ≡ true → (o : Option Symbol) → symbol_named table text ≡ o → unwrap_or o s.Unknown ≡ s.Rep → bytes_eq (map to_ascii_lowercase text) (codes "rep") ≡ true
found_told table text all None is e = absurd (true≢false (sym (ap is_rep e)))
found_told table text all (Some x) is e = named_told table text x all is e

token_told : (k : Kind) (text : List ℕ) → symbol_of k text ≡ s.Rep → bytes_eq (spelled k text) (codes "rep") ≡ true
token_told token_kind.Word text e = found_told words text words_told (symbol_named words text) refl e
token_told token_kind.Mark text e = found_told marks text marks_told (symbol_named marks text) refl e
token_told token_kind.Idn text e = absurd (true≢false (sym (ap is_rep e)))
token_told token_kind.Int text e = absurd (true≢false (sym (ap is_rep e)))
token_told token_kind.Real text e = absurd (true≢false (sym (ap is_rep e)))
token_told token_kind.Char text e = absurd (true≢false (sym (ap is_rep e)))
token_told token_kind.Str text e = absurd (true≢false (sym (ap is_rep e)))

pub rep_spelled : (bytes : List ℕ) → Spells bytes s.Rep → bytes_eq bytes (codes "rep") ≡ true
rep_spelled bytes so = subst (λ (word : List ℕ). bytes_eq word (codes "rep") ≡ true) (sym so.spelled_so) (token_told so.kind so.written so.is)
