-- The word `rep` among the types is told by its spelling or by its symbol. This is of trees alone, and its place is `clu_syntax`.
use Rattle.std.proofs.Common.{◌≡◌, ◌∙◌, ℕ, Bool, true, false, not, ◌&&◌, ◌==◌, List, [], ◌∷◌, map, codes, unwrap_or, Option, Some, None, inl, inr, refl, sym, ap, subst}
use Rattle.std.specs.Char.{to_ascii_lowercase}
use Rattle.std.specs.Str.{bytes_eq}
use Rattle.std.proofs.lemmas.Bool.{cases_Bool, and_parts, eqb-true, true≢false}
use Rattle.std.proofs.lemmas.Option.{none-some, same_Some}
use Rattle.clu_base.specs.declared.tokens.Kind.{Kind}
use Rattle.clu_base.specs.declared.tokens.Kind.TheVariants as token_kind
use Rattle.clu_lexer.specs.declared.symbols.Symbol.{Symbol}
use Rattle.clu_lexer.specs.declared.symbols.Symbol.TheVariants as s
use Rattle.clu_lexer.specs.Symbols.{spells, symbol_named}
use Rattle.clu_lexer.specs.Words.{words, marks, symbol_of}
use Rattle.clu_tree.specs.declared.node.Node.{Node}
use Rattle.clu_tree.specs.declared.node.NodeKind.{NodeKind}
use Rattle.clu_tree.specs.declared.node.NodeKind.TheVariants as kind
use Rattle.clu_grammar.specs.Choice.{has}
use Rattle.clu_grammar.specs.Grammar.{simple}
use Rattle.clu_parser.specs.Spellings.{spelled}
use Rattle.clu_parser.specs.Shape.{Part, token, name, value, child, many, maybe, Letter, IsWord, nothing, token_is, name_is, value_is, child_is, no_more, one_more, without, with_one, IsFormOf, forms, values_in, Spells, HasValue, HasForm}
use Rattle.clu_syntax.specs.Words.{symbol_in, simple_type}
use Rattle.clu_settle.specs.Names.{is_rep}

-- ---- in the tables

alike : Bool → Bool → Bool
alike true b = b
alike false b = not b

alike_so : (a b : Bool) → alike a b ≡ true → a ≡ b
unfolding alike
alike_so true true e = refl
alike_so true false e = sym e
alike_so false true e = e
alike_so false false e = refl

abbrev is_told : List ℕ → Bool
is_told word = alike (bytes_eq word (codes "rep")) (is_rep (simple_type (symbol_in word)))

abbrev all_told : List (List ℕ × Symbol) → Bool
all_told [] = true
all_told (entry ∷ table) = is_told entry.0 && all_told table

words_told : all_told words ≡ true
unfolding alike
words_told = refl

marks_told : all_told marks ≡ true
unfolding alike
marks_told = refl

-- ---- of a token

-- in lower case a text is the word that it spells
pub lower_is : (word text : List ℕ) → spells word text ≡ true → map to_ascii_lowercase text ≡ word
lower_is [] [] e = refl
lower_is [] (t ∷ text) e = absurd (true≢false (sym e))
lower_is (w ∷ word) [] e = absurd (true≢false (sym e))
lower_is (w ∷ word) (t ∷ text) e =
    let p = and_parts (w == to_ascii_lowercase t) (spells word text) e in
    let first : w ≡ to_ascii_lowercase t = eqb-true w (to_ascii_lowercase t) p.0 in
    ap (λ (ts : List ℕ). to_ascii_lowercase t ∷ ts) (lower_is word text p.1) ∙ ap (λ (b : ℕ). b ∷ word) (sym first)

named_told : (table : List (List ℕ × Symbol)) (text : List ℕ) (x : Symbol) → all_told table ≡ true → symbol_named table text ≡ Some x → is_told (map to_ascii_lowercase text) ≡ true
named_told [] text x all e = absurd (none-some x e)
named_told (entry ∷ table) text x all e =
    let p = and_parts (is_told entry.0) (all_told table) all in
    elim (cases_Bool (spells entry.0 text)) [
      | inl holds ↦ subst (λ (word : List ℕ). is_told word ≡ true) (sym (lower_is entry.0 text holds)) p.0
      | inr fails ↦ named_told table text x p.1 (rw fails at e)
    ]

found_told : (table : List (List ℕ × Symbol)) (text : List ℕ) → all_told table ≡ true → (o : Option Symbol) → symbol_named table text ≡ o → has simple (unwrap_or o s.Unknown) ≡ true → is_told (map to_ascii_lowercase text) ≡ true
found_told table text all None is e = absurd (true≢false (sym e))
found_told table text all (Some x) is e = named_told table text x all is

token_told : (k : Kind) (text : List ℕ) → has simple (symbol_of k text) ≡ true → is_told (spelled k text) ≡ true
token_told token_kind.Word text e = found_told words text words_told (symbol_named words text) refl e
token_told token_kind.Mark text e = found_told marks text marks_told (symbol_named marks text) refl e
token_told token_kind.Idn text e = absurd (true≢false (sym e))
token_told token_kind.Int text e = absurd (true≢false (sym e))
token_told token_kind.Real text e = absurd (true≢false (sym e))
token_told token_kind.Char text e = absurd (true≢false (sym e))
token_told token_kind.Str text e = absurd (true≢false (sym e))

-- ---- of a node

is_nil : List Part → Bool
is_nil [] = true
is_nil (p ∷ ps) = false

abbrev value_if : Bool → List Symbol → Option (List Symbol)
value_if true xs = Some xs
value_if false xs = None

-- the words of a form that is a value alone
value_alone : List Part → Option (List Symbol)
value_alone [] = None
value_alone (token x ∷ ps) = None
value_alone (name ∷ ps) = None
value_alone (value xs ∷ ps) = value_if (is_nil ps) xs
value_alone (child c ∷ ps) = None
value_alone (many g ∷ ps) = None
value_alone (maybe g ∷ ps) = None

record HasOne (xs : List Symbol) (values : List Symbol) : Type 0 where
  symbol : Symbol
  among : has xs symbol ≡ true
  is : values ≡ symbol ∷ []

no_values : (form : List Part) (w : List Letter) → IsWord form w → is_nil form ≡ true → values_in w ≡ []
unfolding is_nil
no_values _ _ nothing e = refl
no_values _ _ (token_is x ps w d) e = absurd (cc)
no_values _ _ (name_is ps w d) e = absurd (cc)
no_values _ _ (value_is xs x ps w h d) e = absurd (cc)
no_values _ _ (child_is c k ps w h d) e = absurd (cc)
no_values _ _ (no_more g ps w d) e = absurd (cc)
no_values _ _ (one_more g ps v w u dv dw same) e = absurd (cc)
no_values _ _ (without g ps w d) e = absurd (cc)
no_values _ _ (with_one g ps v w u dv dw same) e = absurd (cc)

one_value : (xs ys : List Symbol) (x : Symbol) (ps : List Part) (w : List Letter) → has ys x ≡ true → IsWord ps w → (b : Bool) → is_nil ps ≡ b → value_if b ys ≡ Some xs → HasOne xs (x ∷ values_in w)
one_value xs ys x ps w h d true is e =
    let same : ys ≡ xs = same_Some ys xs e in
    record { symbol = x; among = subst (λ (zs : List Symbol). has zs x ≡ true) same h; is = ap (λ (zs : List Symbol). x ∷ zs) (no_values ps w d is) }
one_value xs ys x ps w h d false is e = absurd (none-some xs e)

value_in : (xs : List Symbol) (form : List Part) (w : List Letter) → IsWord form w → value_alone form ≡ Some xs → HasOne xs (values_in w)
unfolding value_alone
value_in xs _ _ nothing e = absurd (none-some xs e)
value_in xs _ _ (token_is x ps w d) e = absurd (none-some xs e)
value_in xs _ _ (name_is ps w d) e = absurd (none-some xs e)
value_in xs _ _ (value_is ys x ps w h d) e = one_value xs ys x ps w h d (is_nil ps) refl e
value_in xs _ _ (child_is c k ps w h d) e = absurd (none-some xs e)
value_in xs _ _ (no_more g ps w d) e = absurd (none-some xs e)
value_in xs _ _ (one_more g ps v w u dv dw same) e = absurd (none-some xs e)
value_in xs _ _ (without g ps w d) e = absurd (none-some xs e)
value_in xs _ _ (with_one g ps v w u dv dw same) e = absurd (none-some xs e)

spelled_told : (bytes : List ℕ) (x : Symbol) → has simple x ≡ true → Spells bytes x → is_told bytes ≡ true
spelled_told bytes x among so =
    let h : has simple (symbol_of so.kind so.written) ≡ true = ap (has simple) so.is ∙ among in
    subst (λ (word : List ℕ). is_told word ≡ true) (sym so.spelled_so) (token_told so.kind so.written h)

pub rep_told : (nodes : List Node) (n : Node) → HasForm nodes n → n.kind ≡ kind.Simple → bytes_eq n.value (codes "rep") ≡ is_rep (simple_type (symbol_in n.value))
unfolding value_alone is_nil
rep_told nodes n f is =
    let of_kind : IsFormOf f.form (forms kind.Simple) = subst (λ (k : NodeKind). IsFormOf f.form (forms k)) is f.of_kind in
    let alone : value_alone f.form ≡ Some simple = elim of_kind [ inl e ↦ ap value_alone e | inr none ↦ absurd none ] in
    let one : HasOne simple (values_in f.word) = value_in simple f.form f.word f.is_word alone in
    let its : HasValue n (one.symbol ∷ []) = subst (λ (xs : List Symbol). HasValue n xs) one.is f.value_is in
    alike_so (bytes_eq n.value (codes "rep")) (is_rep (simple_type (symbol_in n.value))) (spelled_told n.value one.symbol one.among its.2)
