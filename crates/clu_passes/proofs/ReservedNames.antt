-- No name of the tree of a text is the word `rep`, which is reserved: a token that is spelled so is no identifier.
use Rattle.std.proofs.Common.{◌≡◌, ◌∙◌, ℕ, zero, suc, ◌+◌, ◌&&◌, ◌||◌, if◌then◌else◌, Bool, true, false, List, [], ◌∷◌, map, codes, is_some, unwrap_or, Option, Some, None, slice_get, inl, inr, refl, sym, ap, ap₂, subst}
use Rattle.std.specs.Char.{to_ascii_lowercase}
use Rattle.std.specs.List.{list_any}
use Rattle.std.specs.Option.{option_map}
use Rattle.std.specs.Prelude.{◌==◌}
use Rattle.std.specs.Str.{bytes_eq}
use Rattle.std.proofs.lemmas.Bool.{cases_Bool, true≢false}
use Rattle.std.proofs.lemmas.Option.{same_Some}
use Rattle.std.proofs.lemmas.Slice.Eq.{bytes_eq-Decides}
use Rattle.clu_base.specs.declared.tokens.Kind.{Kind}
use Rattle.clu_base.specs.declared.tokens.Kind.TheVariants as token_kind
use Rattle.clu_base.specs.declared.tokens.Token.{Token}
use Rattle.clu_lexer.specs.declared.symbols.Symbol.{Symbol}
use Rattle.clu_lexer.specs.declared.symbols.Symbol.TheVariants as s
use Rattle.clu_lexer.specs.Scanner.{class_of}
use Rattle.clu_lexer.specs.Symbols.{spells, symbol_named}
use Rattle.clu_lexer.specs.Tokens.{Cut, IsToken, Tokens, kind_in, kind_of}
use Rattle.clu_lexer.specs.Words.{words, marks, symbol_of}
use Rattle.clu_tree.specs.declared.node.Node.{Node}
use Rattle.clu_parser.specs.Parsing.{text_of}
use Rattle.clu_parser.specs.Shape.{IsProduction, IsShaped, Letter, Spelled, a_child, a_name, a_value, ended, own_token}
use Rattle.clu_parser.specs.Spellings.{bytes_of, is_idn, spelled, spelling, symbol_in}
use Rattle.clu_parser.specs.Trees.{Text, spelling_at}
use Rattle.clu_names.specs.Denotes.{is_rep}

-- ---- a token that is spelled so is no identifier

spells_same : (word text other : List ℕ) → map to_ascii_lowercase text ≡ map to_ascii_lowercase other → spells word text ≡ spells word other
spells_same [] [] [] e = refl
spells_same [] [] (o ∷ os) e = absurd (cc)
spells_same [] (t ∷ ts) [] e = absurd (cc)
spells_same [] (t ∷ ts) (o ∷ os) e = refl
spells_same (w ∷ ws) [] [] e = refl
spells_same (w ∷ ws) [] (o ∷ os) e = absurd (cc)
spells_same (w ∷ ws) (t ∷ ts) [] e = absurd (cc)
spells_same (w ∷ ws) (t ∷ ts) (o ∷ os) e =
    let first : to_ascii_lowercase t ≡ to_ascii_lowercase o = cc in
    let rest : map to_ascii_lowercase ts ≡ map to_ascii_lowercase os = cc in
    ap₂ (λ (a : ℕ) (b : Bool). (w == a) && b) first (spells_same ws ts os rest)

named_same : (table : List (List ℕ × Symbol)) (text other : List ℕ) → map to_ascii_lowercase text ≡ map to_ascii_lowercase other → symbol_named table text ≡ symbol_named table other
named_same [] text other e = refl
named_same (entry ∷ table) text other e = ap₂ (λ (b : Bool) (o : Option Symbol). if b then Some entry.1 else o) (spells_same entry.0 text other e) (named_same table text other e)

in_words : symbol_named words (codes "rep") ≡ Some s.Rep
in_words = refl

in_marks : symbol_named marks (codes "rep") ≡ None
in_marks = refl

lowered : map to_ascii_lowercase (codes "rep") ≡ codes "rep"
lowered = refl

abbrev is_name_kind : Kind → Bool
is_name_kind token_kind.Idn = true
is_name_kind _ = false

module _ (text : List ℕ) (so : map to_ascii_lowercase text ≡ codes "rep") where
  word_named : symbol_named words text ≡ Some s.Rep
  word_named = named_same words text (codes "rep") (so ∙ sym lowered) ∙ in_words

  mark_named : symbol_named marks text ≡ None
  mark_named = named_same marks text (codes "rep") (so ∙ sym lowered) ∙ in_marks

  no_name_kind : (class : Kind) → is_name_kind (kind_in class text) ≡ false
  no_name_kind token_kind.Idn = ap (λ (o : Option Symbol). is_name_kind (if is_some o then token_kind.Word else token_kind.Idn)) word_named
  no_name_kind token_kind.Int = refl
  no_name_kind token_kind.Real = refl
  no_name_kind token_kind.Char = refl
  no_name_kind token_kind.Str = refl
  no_name_kind token_kind.Word = refl
  no_name_kind token_kind.Mark = refl

  no_idn_by : (o : Option Kind) → option_map (λ class. kind_in class text) o ≡ Some token_kind.Idn → ⊥
  no_idn_by None e = absurd (cc)
  no_idn_by (Some class) e =
      let same : kind_in class text ≡ token_kind.Idn = same_Some (kind_in class text) token_kind.Idn e in
      absurd (true≢false (sym (ap is_name_kind same) ∙ no_name_kind class))

  no_idn : kind_of text ≡ Some token_kind.Idn → ⊥
  unfolding kind_of
  no_idn e = no_idn_by (class_of text) e

other_symbol : (x : Symbol) → is_idn (Some x) ≡ false → x ≡ s.Idn → ⊥
other_symbol x other is = absurd (true≢false (sym (ap (λ (x : Symbol). is_idn (Some x)) is) ∙ other))

-- that it is an identifier is told by its kind and its symbol
no_rep : (k : Kind) (text : List ℕ) → kind_of text ≡ Some k → symbol_of k text ≡ s.Idn → spelled k text ≡ codes "rep" → ⊥
no_rep token_kind.Idn text is e so = no_idn text so is
no_rep token_kind.Word text is e so = other_symbol (unwrap_or (symbol_named words text) s.Unknown) (ap (λ (o : Option Symbol). is_idn (Some (unwrap_or o s.Unknown))) (word_named text so)) e
no_rep token_kind.Mark text is e so = other_symbol (unwrap_or (symbol_named marks text) s.Unknown) (ap (λ (o : Option Symbol). is_idn (Some (unwrap_or o s.Unknown))) (mark_named text so)) e
no_rep token_kind.Int text is e so = other_symbol s.IntLiteral refl e
no_rep token_kind.Real text is e so = other_symbol s.RealLiteral refl e
no_rep token_kind.Char text is e so = other_symbol s.CharLiteral refl e
no_rep token_kind.Str text is e so = other_symbol s.StringLiteral refl e

-- ---- the tokens of a text

got_mapped : (f : Token → Symbol) (tokens : List Token) (i : ℕ) (x : Symbol) → slice_get (map f tokens) i ≡ Some x → (token : Token) × (slice_get tokens i ≡ Some token) × (f token ≡ x)
got_mapped f [] i x h = absurd (cc)
got_mapped f (k ∷ tokens) zero x h = (k, refl, cc)
got_mapped f (k ∷ tokens) (suc i) x h = got_mapped f tokens i x h

token_there : (bytes : List ℕ) (from : ℕ) (tokens : List Token) (to i : ℕ) (token : Token) → Cut bytes from tokens to → slice_get tokens i ≡ Some token → (start : ℕ) × IsToken bytes start token
token_there bytes from [] to i token cut at = absurd (cc)
token_there bytes from (k ∷ tokens) to zero token cut at = let same : k ≡ token = cc in (from, subst (IsToken bytes from) same cut.0)
token_there bytes from (k ∷ tokens) to (suc i) token cut at = token_there bytes k.end tokens to i token cut.1 at

module _ (bytes : List ℕ) (tokens : List Token) (are : Tokens bytes tokens) where
  abbrev t : Text
  t = text_of bytes tokens

  not_rep : (i : ℕ) → slice_get t.symbols i ≡ Some s.Idn → is_rep (spelling_at t i) ≡ false
  not_rep i at = elim (cases_Bool (is_rep (spelling_at t i))) [
    | inr other ↦ other
    | inl is ↦
        (let got = got_mapped (symbol_in bytes) tokens i s.Idn at in
        let its = token_there bytes 0 tokens are.0 i got.0 are.1 got.1 in
        let so : spelled got.0.kind (bytes_of bytes got.0) ≡ codes "rep" = sym (ap (λ (o : Option Token). spelling bytes o) got.1) ∙ (bytes_eq-Decides (spelling_at t i) (codes "rep")).0 is in
        absurd (no_rep got.0.kind (bytes_of bytes got.0) its.1.longest.is got.2 so))
  ]

  none_named : (nodes : List Node) (at : ℕ) (w : List Letter) (cs ns vs : List ℕ) (to : ℕ) → Spelled t nodes at w cs ns vs to → list_any is_rep (map (spelling_at t) ns) ≡ false
  none_named nodes at _ _ _ _ _ (ended _) = refl
  none_named nodes at _ cs ns vs to (own_token x _ w _ _ _ _ is d) = none_named nodes (at + 1) w cs ns vs to d
  none_named nodes at _ cs _ vs to (a_name _ w _ ns _ _ is d) = ap₂ (λ (a b : Bool). a || b) (not_rep at is) (none_named nodes (at + 1) w cs ns vs to d)
  none_named nodes at _ cs ns _ to (a_value x _ w _ _ vs _ is d) = none_named nodes (at + 1) w cs ns vs to d
  none_named nodes _ _ _ ns vs to (a_child c n w cs _ _ _ is d) = none_named nodes (n.last + 1) w cs ns vs to d

  pub names_reserved : (nodes : List Node) → IsShaped t nodes → (n : ℕ) (node : Node) → slice_get nodes n ≡ Some node → list_any is_rep node.names ≡ false
  names_reserved nodes shaped n node at =
      let p : IsProduction t nodes node = shaped n node at in
      ap (list_any is_rep) p.names_are ∙ none_named nodes node.first p.word node.children p.names p.values (node.last + 1) p.spelled
