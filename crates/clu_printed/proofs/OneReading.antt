-- Bytes have one list of tokens, and these have one tree.
use Rattle.std.proofs.Common.{◌≡◌, ℕ, ◌+◌, ◌-◌, List, [], ◌∷◌, length, drop, take, Some, None, slice_get, refl, sym, ap, ◌∙◌, subst, inl, inr, arith}
use Rattle.std.proofs.lemmas.Bool.{cases_order}
use Rattle.std.proofs.lemmas.Option.{same_Some}
use Rattle.clu_base.specs.declared.tokens.Kind.{Kind}
use Rattle.clu_base.specs.declared.tokens.Place.{Place}
use Rattle.clu_base.specs.declared.tokens.Token.{Token}
use Rattle.clu_lexer.specs.declared.symbols.Symbol.{Symbol}
use Rattle.clu_lexer.specs.Places.{place_at}
use Rattle.clu_lexer.specs.Scanner.{IsLongest}
use Rattle.clu_lexer.specs.Tokens.{kind_of, IsGap, IsToken, Cut, Tokens}
use Rattle.clu_lexer.proofs.Cuts.{token_within}
use Rattle.clu_tree.specs.declared.node.Node.{Node}
use Rattle.clu_grammar.specs.declared.items.Action.{Action}
use Rattle.clu_grammar.specs.declared.items.Item.{Item}
use Rattle.clu_grammar.specs.declared.items.Item.TheVariants as item
use Rattle.clu_grammar.specs.declared.items.Nonterminal.{Nonterminal}
use Rattle.clu_grammar.specs.Choice.{Step, Take, Go}
use Rattle.clu_grammar.specs.Grammar.{productions}
use Rattle.clu_grammar.specs.Language.{whole}
use Rattle.clu_grammar.proofs.Deterministic.{IsChosen}
use Rattle.clu_parser.specs.Parsing.{text_of, IsTreeOf}
use Rattle.clu_parser.specs.Trees.{Text, Built, acted, nothing_built}
use Rattle.clu_parser.proofs.Deriving.{Ran, stopped, took, did, chose, ran_whole}

-- the longest token is one
longest_one : (bytes : List ℕ) (k l : Kind) (m n : ℕ) → IsLongest kind_of bytes k m → IsLongest kind_of bytes l n → (m ≡ n) × (k ≡ l)
longest_one bytes k l m n first second = elim (cases_order m n) [
  | inl same ↦ (same, same_Some k l (sym first.is ∙ ap (λ (i : ℕ). kind_of (take i bytes)) same ∙ second.is))
  | inr (inl less) ↦ (let none : kind_of (take n bytes) ≡ None = first.longest n less second.within in let some : kind_of (take n bytes) ≡ Some l = second.is in absurd (cc))
  | inr (inr more) ↦ (let none : kind_of (take m bytes) ≡ None = second.longest m more first.within in let some : kind_of (take m bytes) ≡ Some k = first.is in absurd (cc))
]

abbrev token_with : Kind → ℕ → ℕ → Place → Token
token_with kind start end place = record { kind = kind; start = start; end = end; place = place }

same_token : (t u : Token) → t.kind ≡ u.kind → t.start ≡ u.start → t.end ≡ u.end → t.place ≡ u.place → t ≡ u
same_token t u kind start end place =
    ap (λ (x : Kind). token_with x t.start t.end t.place) kind
    ∙ ap (λ (x : ℕ). token_with u.kind x t.end t.place) start
    ∙ ap (λ (x : ℕ). token_with u.kind u.start x t.place) end
    ∙ ap (λ (x : Place). token_with u.kind u.start u.end x) place

pub token_one : (bytes : List ℕ) (from : ℕ) (t u : Token) → IsToken bytes from t → IsToken bytes from u → t ≡ u
token_one bytes from t u first second =
    let start : t.start ≡ u.start = sym first.gap ∙ second.gap in
    let second' : IsLongest kind_of (drop t.start bytes) u.kind (u.end - u.start) = subst (λ (i : ℕ). IsLongest kind_of (drop i bytes) u.kind (u.end - u.start)) (sym start) second.longest in
    let both = longest_one (drop t.start bytes) t.kind u.kind (t.end - t.start) (u.end - u.start) first.longest second' in
    let end : t.end ≡ u.end = omega (arith, both.0, start, first.forward, second.forward) in
    same_token t u both.1 start end (first.place ∙ ap (place_at bytes) start ∙ sym second.place)

-- no token begins where nothing but a gap is left
pub none_left : (bytes : List ℕ) (from : ℕ) (t : Token) → IsGap bytes from (length bytes) → IsToken bytes from t → ⊥
none_left bytes from t gap token = omega (arith, gap, token.gap, token.forward, token_within bytes from t token)

cut_one : (bytes : List ℕ) (from : ℕ) (ts us : List Token) (to to' : ℕ) → Cut bytes from ts to → Cut bytes from us to' → IsGap bytes to (length bytes) → IsGap bytes to' (length bytes) → ts ≡ us
cut_one bytes from [] [] to to' first second gap gap' = refl
cut_one bytes from [] (u ∷ us) to to' first second gap gap' = absurd (none_left bytes from u (subst (λ (i : ℕ). IsGap bytes i (length bytes)) (sym first) gap) second.0)
cut_one bytes from (t ∷ ts) [] to to' first second gap gap' = absurd (none_left bytes from t (subst (λ (i : ℕ). IsGap bytes i (length bytes)) (sym second) gap') first.0)
cut_one bytes from (t ∷ ts) (u ∷ us) to to' first second gap gap' =
    let same : t ≡ u = token_one bytes from t u first.0 second.0 in
    let rest = cut_one bytes t.end ts us to to' first.1 (subst (λ (v : Token). Cut bytes v.end us to') (sym same) second.1) gap gap' in
    ap (λ (v : Token). v ∷ ts) same ∙ ap (λ (vs : List Token). u ∷ vs) rest

pub tokens_one : (bytes : List ℕ) (ts us : List Token) → Tokens bytes ts → Tokens bytes us → ts ≡ us
tokens_one bytes ts us first second = cut_one bytes 0 ts us first.0 second.0 first.1 second.1 first.2 second.2

-- reading by the choice of one symbol goes one way
took_head : (t : Text) (items : List Item) (x : Symbol) (row : List Item) (at : ℕ) (b : Built) (to : ℕ) (z : Built) → Ran t items at b to z → items ≡ item.Terminal x ∷ row → slice_get t.symbols at ≡ Some x
took_head t _ x row at b _ _ (stopped _ _) same = absurd (cc)
took_head t _ x row at b to z (took y items _ _ _ _ is d) same = (let e : y ≡ x = cc in is ∙ ap Some e)
took_head t _ x row at b to z (did a items _ _ c _ _ is d) same = absurd (cc)
took_head t _ x row at b to z (chose n items inside _ _ mid c _ _ one it d e) same = absurd (cc)

take_items : (xs ys : List Item) → ◌≡◌ {A = Step} (Take xs) (Take ys) → xs ≡ ys
take_items xs ys h = cc

go_items : (xs ys : List Item) → ◌≡◌ {A = Step} (Go xs) (Go ys) → xs ≡ ys
go_items xs ys h = cc

take_is_no_go : (xs ys : List Item) → ◌≡◌ {A = Step} (Take xs) (Go ys) → ⊥
take_is_no_go xs ys h = cc

row_one : (t : Text) (n : Nonterminal) (row row' : List Item) (at : ℕ) (b : Built) (mid : ℕ) (c : Built) (b' : Built) (mid' : ℕ) (c' : Built) → IsChosen (productions n) (slice_get t.symbols at) row → IsChosen (productions n) (slice_get t.symbols at) row' → Ran t row at b mid c → Ran t row' at b' mid' c' → row ≡ row'
row_one t n row row' at b mid c b' mid' c' (inl (r, x, is, e)) (inl (r', x', is', e')) d d' =
    let rs : r ≡ r' = take_items r r' (sym is ∙ is') in
    let first = took_head t row x r at b mid c d e in
    let second = took_head t row' x' r' at b' mid' c' d' e' in
    let xs : x ≡ x' = same_Some x x' (sym first ∙ second) in
    e ∙ ap (λ (y : Symbol). item.Terminal y ∷ r) xs ∙ ap (λ (q : List Item). item.Terminal x' ∷ q) rs ∙ sym e'
row_one t n row row' at b mid c b' mid' c' (inl (r, x, is, e)) (inr go) d d' = absurd (take_is_no_go r row' (sym is ∙ go))
row_one t n row row' at b mid c b' mid' c' (inr go) (inl (r, x, is, e)) d d' = absurd (take_is_no_go r row (sym is ∙ go))
row_one t n row row' at b mid c b' mid' c' (inr go) (inr go') d d' = go_items row row' (sym go ∙ go')

ran_one : (t : Text) (xs ys : List Item) (at at' : ℕ) (b b' : Built) (to to' : ℕ) (z z' : Built) → Ran t xs at b to z → Ran t ys at' b' to' z' → xs ≡ ys → at ≡ at' → b ≡ b' → (to ≡ to') × (z ≡ z')
ran_one t _ _ _ _ _ _ _ _ _ _ (stopped at b) (stopped at' b') items place built = (place, built)
ran_one t _ _ _ _ _ _ _ _ _ _ (stopped at b) (took y ys at' b' to' z' is' d') items place built = absurd (cc)
ran_one t _ _ _ _ _ _ _ _ _ _ (stopped at b) (did a' ys at' b' c' to' z' is' d') items place built = absurd (cc)
ran_one t _ _ _ _ _ _ _ _ _ _ (stopped at b) (chose n' ys row' at' b' mid' c' to' z' one' it' d' e') items place built = absurd (cc)
ran_one t _ _ _ _ _ _ _ _ _ _ (took x xs at b to z is d) (stopped at' b') items place built = absurd (cc)
ran_one t _ _ _ _ _ _ _ _ _ _ (took x xs at b to z is d) (took y ys at' b' to' z' is' d') items place built =
    ran_one t xs ys (at + 1) (at' + 1) b b' to to' z z' d d' (cc) (ap (λ (k : ℕ). k + 1) place) built
ran_one t _ _ _ _ _ _ _ _ _ _ (took x xs at b to z is d) (did a' ys at' b' c' to' z' is' d') items place built = absurd (cc)
ran_one t _ _ _ _ _ _ _ _ _ _ (took x xs at b to z is d) (chose n' ys row' at' b' mid' c' to' z' one' it' d' e') items place built = absurd (cc)
ran_one t _ _ _ _ _ _ _ _ _ _ (did a xs at b c to z is d) (stopped at' b') items place built = absurd (cc)
ran_one t _ _ _ _ _ _ _ _ _ _ (did a xs at b c to z is d) (took y ys at' b' to' z' is' d') items place built = absurd (cc)
ran_one t _ _ _ _ _ _ _ _ _ _ (did a xs at b c to z is d) (did a' ys at' b' c' to' z' is' d') items place built =
    let action : a ≡ a' = cc in
    let same : acted t a (at - 1) b ≡ acted t a' (at' - 1) b' =
    ap (λ (y : Action). acted t y (at - 1) b) action ∙ ap (λ (k : ℕ). acted t a' (k - 1) b) place ∙ ap (acted t a' (at' - 1)) built in
    ran_one t xs ys at at' c c' to to' z z' d d' (cc) place (same_Some c c' (sym is ∙ same ∙ is'))
ran_one t _ _ _ _ _ _ _ _ _ _ (did a xs at b c to z is d) (chose n' ys row' at' b' mid' c' to' z' one' it' d' e') items place built = absurd (cc)
ran_one t _ _ _ _ _ _ _ _ _ _ (chose n xs row at b mid c to z one it d e) (stopped at' b') items place built = absurd (cc)
ran_one t _ _ _ _ _ _ _ _ _ _ (chose n xs row at b mid c to z one it d e) (took y ys at' b' to' z' is' d') items place built = absurd (cc)
ran_one t _ _ _ _ _ _ _ _ _ _ (chose n xs row at b mid c to z one it d e) (did a' ys at' b' c' to' z' is' d') items place built = absurd (cc)
ran_one t _ _ _ _ _ _ _ _ _ _ (chose n xs row at b mid c to z one it d e) (chose n' ys row' at' b' mid' c' to' z' one' it' d' e') items place built =
    let same : n ≡ n' = cc in
    let it_so : IsChosen (productions n) (slice_get t.symbols at) row' = subst (λ (m : Nonterminal). IsChosen (productions m) (slice_get t.symbols at) row') (sym same) (subst (λ (k : ℕ). IsChosen (productions n') (slice_get t.symbols k) row') (sym place) it') in
    let d_so : Ran t row' at b' mid' c' = subst (λ (k : ℕ). Ran t row' k b' mid' c') (sym place) d' in
    let rows : row ≡ row' = row_one t n row row' at b mid c b' mid' c' it it_so d d_so in
    let middle = ran_one t row row' at at' b b' mid mid' c c' d d' rows place built in
    ran_one t xs ys mid mid' c c' to to' z z' e e' (cc) middle.0 middle.1

pub tree_one : (bytes : List ℕ) (tokens : List Token) (ms ns : List Node) → IsTreeOf bytes tokens ms → IsTreeOf bytes tokens ns → ms ≡ ns
tree_one bytes tokens ms ns first second =
    let t = text_of bytes tokens in
    let both = ran_one t whole whole 0 0 nothing_built nothing_built (length t.symbols) (length t.symbols) first.0 second.0 (ran_whole t first.0 first.1) (ran_whole t second.0 second.1) refl refl refl in
    sym first.2 ∙ ap (λ (z : Built). z.nodes) both.1 ∙ second.2
