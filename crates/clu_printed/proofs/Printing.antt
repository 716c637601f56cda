-- The printed text of a source in pieces, and these pieces read again.
use Rattle.std.proofs.Common.{◌≡◌, ℕ, zero, suc, ◌+◌, ◌-◌, ◌<◌, ◌≤◌, Bool, true, false, if◌then◌else◌, List, [], ◌∷◌, ◌++◌, length, map, take, drop, Option, Some, None, slice_get, unwrap_or, option_map, refl, sym, ap, ◌∙◌, subst, arith, length-drop, drop_of_length-le}
use Rattle.std.proofs.lemmas.Option.{slice_get_within, slice_get-map}
use Rattle.clu_base.specs.declared.tokens.Kind.{Kind}
use Rattle.clu_base.specs.declared.tokens.Token.{Token}
use Rattle.clu_lexer.specs.declared.symbols.Symbol.{Symbol}
use Rattle.clu_lexer.specs.Tokens.{kind_of, Cut}
use Rattle.clu_lexer.specs.Words.{symbol_of}
use Rattle.clu_grammar.specs.Choice.{has}
use Rattle.clu_grammar.specs.Grammar.{signs}
use Rattle.clu_parser.specs.Spellings.{spelled}
use Rattle.clu_printer.specs.Lines.{Lines}
use Rattle.clu_printer.specs.Printed.{Made, bytes_of, symbol_in, token_text, indent_at, prefix_at, known, symbol_at, with_token, printed_behind}
use Rattle.clu_printed.proofs.Kept.{is_optional, kept}
use Rattle.clu_printed.proofs.Laid.{bytes_laid, next_laid}
use Rattle.clu_printed.proofs.Lowered.{printed_kind, printed_symbol, printed_again}
use Rattle.clu_printed.proofs.Pieces.{Piece, gap_before, added, shown, more_text, laid}

abbrev pub piece_of : List ℕ → List Symbol → Lines → ℕ → Token → Piece
piece_of bytes symbols lines n t =
    record { kind = t.kind; text = token_text t.kind (bytes_of bytes t); symbol = symbol_at symbols n; begins = indent_at lines.begins n; is_prefix = prefix_at lines.prefix n }

abbrev with_parts : Kind → List ℕ → Symbol → Option ℕ → Bool → Piece
with_parts kind text symbol begins is_prefix = record { kind = kind; text = text; symbol = symbol; begins = begins; is_prefix = is_prefix }

-- the tokens from this number on, but for the optional ;
abbrev pub pieces : List ℕ → List Symbol → Lines → ℕ → List Token → List Piece
pieces bytes symbols lines n [] = []
pieces bytes symbols lines n (t ∷ ts) =
    if is_optional (symbol_at symbols n) then pieces bytes symbols lines (n + 1) ts else piece_of bytes symbols lines n t ∷ pieces bytes symbols lines (n + 1) ts

pub printed_pieces : (bytes : List ℕ) (symbols : List Symbol) (lines : Lines) (n : ℕ) (ts : List Token) (m : Made) → printed_behind bytes symbols lines n ts m ≡ shown (pieces bytes symbols lines n ts) m
printed_pieces bytes symbols lines n [] m = refl
printed_pieces bytes symbols lines n (t ∷ ts) m = by_test (is_optional (symbol_at symbols n)) (λ m'. printed_pieces bytes symbols lines (n + 1) ts m')
  where
    by_test : (test : Bool) → ((m' : Made) → printed_behind bytes symbols lines (n + 1) ts m' ≡ shown (pieces bytes symbols lines (n + 1) ts) m') → printed_behind bytes symbols lines (n + 1) ts (if test then m else with_token bytes t (symbol_at symbols n) (indent_at lines.begins n) (prefix_at lines.prefix n) m) ≡ shown (if test then pieces bytes symbols lines (n + 1) ts else piece_of bytes symbols lines n t ∷ pieces bytes symbols lines (n + 1) ts) m
    by_test true rest = rest m
    by_test false rest = rest (added (piece_of bytes symbols lines n t) m)

-- an item of a list, and what comes behind it
record Front {X : Type 0} (xs : List X) (n : ℕ) : Type 0 where
  item : X
  is : slice_get xs n ≡ Some item
  rest : drop n xs ≡ item ∷ drop (n + 1) xs

front : {X : Type 0} (xs : List X) (n : ℕ) → n < length xs → Front xs n
front [] n less = absurd (omega arith)
front (x ∷ xs) zero less = record { item = x; is = refl; rest = refl }
front {X = X} (x ∷ xs) (suc n) less =
    let f = front xs n (omega arith) in
    let e : suc n + 1 ≡ suc (n + 1) = omega arith in
    record { item = f.item; is = f.is; rest = rw e f.rest }

front_of : {X : Type 0} (xs : List X) (n : ℕ) (x : X) (rest : List X) → drop n xs ≡ x ∷ rest → (slice_get xs n ≡ Some x) × (drop (n + 1) xs ≡ rest)
front_of [] zero x rest is = absurd (cc)
front_of [] (suc n) x rest is = absurd (cc)
front_of (y ∷ xs) zero x rest is = (let e : y ≡ x = cc in ap Some e, cc)
front_of (y ∷ xs) (suc n) x rest is =
    let f = front_of xs n x rest is in
    let e : suc n + 1 ≡ suc (n + 1) = omega arith in
    (f.0, rw e f.1)

-- what pieces have is what is left of a list of it
module _ (bytes : List ℕ) (symbols : List Symbol) (lines : Lines) (tokens : List Token) (as_many : length symbols ≡ length tokens) where
  pub map_pieces : {X : Type 0} (f : Piece → X) (xs : List X) (n : ℕ) (ts : List Token) → ((k : ℕ) (t : Token) (x : X) → slice_get tokens k ≡ Some t → slice_get xs k ≡ Some x → f (piece_of bytes symbols lines k t) ≡ x) → length xs ≡ length tokens → drop n tokens ≡ ts → map f (pieces bytes symbols lines n ts) ≡ kept (drop n symbols) (drop n xs)
  map_pieces {X = X} f xs n [] each many here =
      let past : length symbols ≤ n = omega (arith, as_many, length-drop n tokens, ap length here) in
      let none : drop n symbols ≡ [] = drop_of_length-le symbols past in
      ap (λ (ss : List Symbol). kept ss (drop n xs)) (sym none)
  map_pieces {X = X} f xs n (t ∷ ts) each many here =
      let h = front_of tokens n t ts here in
      let less : n < length tokens = slice_get_within tokens n t h.0 in
      let s = front symbols n (omega (arith, less, as_many)) in
      let x = front xs n (omega (arith, less, many)) in
      let rest = map_pieces f xs (n + 1) ts each many h.1 in
      let symbol : symbol_at symbols n ≡ s.item = ap known s.is in
      by_test s.item x.item (is_optional (symbol_at symbols n)) rest (each n t x.item h.0 x.is)
      ∙ ap (λ (b : Bool). if◌then◌else◌ {A = List X} b (kept (drop (n + 1) symbols) (drop (n + 1) xs)) (x.item ∷ kept (drop (n + 1) symbols) (drop (n + 1) xs))) (ap is_optional symbol)
      ∙ ap (λ (ss : List Symbol). kept ss (x.item ∷ drop (n + 1) xs)) (sym s.rest)
      ∙ ap (λ (ys : List X). kept (drop n symbols) ys) (sym x.rest)
    where
      by_test : (s : Symbol) (x : X) (test : Bool) → map f (pieces bytes symbols lines (n + 1) ts) ≡ kept (drop (n + 1) symbols) (drop (n + 1) xs) → f (piece_of bytes symbols lines n t) ≡ x → map f (if test then pieces bytes symbols lines (n + 1) ts else piece_of bytes symbols lines n t ∷ pieces bytes symbols lines (n + 1) ts) ≡ if◌then◌else◌ {A = List X} test (kept (drop (n + 1) symbols) (drop (n + 1) xs)) (x ∷ kept (drop (n + 1) symbols) (drop (n + 1) xs))
      by_test s x true rest e = rest
      by_test s x false rest e = ap (λ (y : X). y ∷ map f (pieces bytes symbols lines (n + 1) ts)) e ∙ ap (λ (ys : List X). x ∷ ys) rest

-- what holds of each piece
pub record IsGood (p : Piece) : Type 0 where
  pub kind_is : kind_of p.text ≡ Some p.kind
  pub left : is_optional p.symbol ≡ false
  pub symbol_is : symbol_of p.kind p.text ≡ p.symbol
  pub again : token_text p.kind p.text ≡ p.text
  pub sign : p.is_prefix ≡ true → has signs p.symbol ≡ true

abbrev pub AreGood : List Piece → Type 0
AreGood [] = Unit {0}
AreGood (p ∷ ps) = IsGood p × AreGood ps

-- tokens have the kind of their bytes
pub cut_kinds : (bytes : List ℕ) (from : ℕ) (ts : List Token) (to : ℕ) → Cut bytes from ts to → (k : ℕ) (t : Token) → slice_get ts k ≡ Some t → kind_of (bytes_of bytes t) ≡ Some t.kind
cut_kinds bytes from [] to cut k t is = absurd (cc)
cut_kinds bytes from (u ∷ ts) to cut zero t is = (let e : u ≡ t = cc in subst (λ (v : Token). kind_of (bytes_of bytes v) ≡ Some v.kind) e cut.0.longest.is)
cut_kinds bytes from (u ∷ ts) to cut (suc k) t is = cut_kinds bytes u.end ts to cut.1 k t is

pub good_pieces : (bytes : List ℕ) (tokens : List Token) (lines : Lines) (n : ℕ) (ts : List Token) → ((k : ℕ) (t : Token) → slice_get tokens k ≡ Some t → kind_of (bytes_of bytes t) ≡ Some t.kind) → ((k : ℕ) → prefix_at lines.prefix k ≡ true → has signs (symbol_at (map (symbol_in bytes) tokens) k) ≡ true) → drop n tokens ≡ ts → AreGood (pieces bytes (map (symbol_in bytes) tokens) lines n ts)
good_pieces bytes tokens lines n [] kinds sign here = tt
good_pieces bytes tokens lines n (t ∷ ts) kinds sign here =
    let h = front_of tokens n t ts here in
    let symbol : symbol_at (map (symbol_in bytes) tokens) n ≡ symbol_in bytes t = ap known (slice_get-map (symbol_in bytes) tokens n ∙ ap (option_map (symbol_in bytes)) h.0) in
    by_test (is_optional (symbol_at (map (symbol_in bytes) tokens) n)) refl symbol (kinds n t h.0) (good_pieces bytes tokens lines (n + 1) ts kinds sign h.1)
  where
    by_test : (test : Bool) → is_optional (symbol_at (map (symbol_in bytes) tokens) n) ≡ test → symbol_at (map (symbol_in bytes) tokens) n ≡ symbol_in bytes t → kind_of (bytes_of bytes t) ≡ Some t.kind → AreGood (pieces bytes (map (symbol_in bytes) tokens) lines (n + 1) ts) → AreGood (if test then pieces bytes (map (symbol_in bytes) tokens) lines (n + 1) ts else piece_of bytes (map (symbol_in bytes) tokens) lines n t ∷ pieces bytes (map (symbol_in bytes) tokens) lines (n + 1) ts)
    by_test true is symbol kind rest = rest
    by_test false is symbol kind rest = (
      record {
        kind_is = printed_kind t.kind (bytes_of bytes t) kind;
        left = is;
        symbol_is = printed_symbol t.kind (bytes_of bytes t) ∙ sym symbol;
        again = printed_again t.kind (bytes_of bytes t);
        sign = sign n;
      },
      rest,
    )

-- the tokens of the printed text
module _ (text : List ℕ) where
  pub laid_symbols : (ps : List Piece) (m : Made) → AreGood ps → text ≡ m.text ++ (more_text ps m ++ 10 ∷ []) → map (symbol_in text) (laid text ps m) ≡ map (λ (p : Piece). p.symbol) ps
  laid_symbols [] m good is = refl
  laid_symbols (p ∷ ps) m good is =
      ap (λ (bs : List ℕ). symbol_of p.kind bs ∷ map (symbol_in text) (laid text ps (added p m))) (bytes_laid text p ps m is)
      ∙ ap (λ (s : Symbol). s ∷ map (symbol_in text) (laid text ps (added p m))) good.0.symbol_is
      ∙ ap (λ (ss : List Symbol). p.symbol ∷ ss) (laid_symbols ps (added p m) good.1 (next_laid text p ps m is))

  pub laid_spelled : (ps : List Piece) (m : Made) → text ≡ m.text ++ (more_text ps m ++ 10 ∷ []) → map (λ (t : Token). spelled t.kind (bytes_of text t)) (laid text ps m) ≡ map (λ (p : Piece). spelled p.kind p.text) ps
  laid_spelled [] m is = refl
  laid_spelled (p ∷ ps) m is =
      ap (λ (bs : List ℕ). spelled p.kind bs ∷ map (λ (t : Token). spelled t.kind (bytes_of text t)) (laid text ps (added p m))) (bytes_laid text p ps m is)
      ∙ ap (λ (ss : List (List ℕ)). spelled p.kind p.text ∷ ss) (laid_spelled ps (added p m) (next_laid text p ps m is))

  -- printed again they are the same pieces
  pub relaid : (symbols : List Symbol) (lines : Lines) (ps : List Piece) (m : Made) (n : ℕ) → AreGood ps → text ≡ m.text ++ (more_text ps m ++ 10 ∷ []) → drop n symbols ≡ map (λ (p : Piece). p.symbol) ps → drop n lines.begins ≡ map (λ (p : Piece). p.begins) ps → drop n lines.prefix ≡ map (λ (p : Piece). p.is_prefix) ps → pieces text symbols lines n (laid text ps m) ≡ ps
  relaid symbols lines [] m n good is ss bs fs = refl
  relaid symbols lines (p ∷ ps) m n good is ss bs fs =
      let s = front_of symbols n p.symbol (map (λ (q : Piece). q.symbol) ps) ss in
      let b = front_of lines.begins n p.begins (map (λ (q : Piece). q.begins) ps) bs in
      let f = front_of lines.prefix n p.is_prefix (map (λ (q : Piece). q.is_prefix) ps) fs in
      let symbol : symbol_at symbols n ≡ p.symbol = ap known s.0 in
      let begins : indent_at lines.begins n ≡ p.begins = ap (λ (o : Option (Option ℕ)). unwrap_or o None) b.0 in
      let prefix : prefix_at lines.prefix n ≡ p.is_prefix = ap (λ (o : Option Bool). unwrap_or o false) f.0 in
      let bytes = bytes_laid text p ps m is in
      let rest = pieces text symbols lines (n + 1) (laid text ps (added p m)) in
      let one : with_parts p.kind (token_text p.kind (take (length m.text + length (gap_before p m) + length p.text - (length m.text + length (gap_before p m))) (drop (length m.text + length (gap_before p m)) text))) (symbol_at symbols n) (indent_at lines.begins n) (prefix_at lines.prefix n) ≡ p =
      ap (λ (bs : List ℕ). with_parts p.kind (token_text p.kind bs) (symbol_at symbols n) (indent_at lines.begins n) (prefix_at lines.prefix n)) bytes
      ∙ ap (λ (bs : List ℕ). with_parts p.kind bs (symbol_at symbols n) (indent_at lines.begins n) (prefix_at lines.prefix n)) good.0.again
      ∙ ap (λ (x : Symbol). with_parts p.kind p.text x (indent_at lines.begins n) (prefix_at lines.prefix n)) symbol
      ∙ ap (λ (x : Option ℕ). with_parts p.kind p.text p.symbol x (prefix_at lines.prefix n)) begins
      ∙ ap (λ (x : Bool). with_parts p.kind p.text p.symbol p.begins x) prefix in
      let first = with_parts p.kind (token_text p.kind (take (length m.text + length (gap_before p m) + length p.text - (length m.text + length (gap_before p m))) (drop (length m.text + length (gap_before p m)) text))) (symbol_at symbols n) (indent_at lines.begins n) (prefix_at lines.prefix n) in
      ap (λ (test : Bool). if◌then◌else◌ {A = List Piece} test rest (first ∷ rest)) (ap is_optional symbol ∙ good.0.left)
      ∙ ap (λ (q : Piece). q ∷ rest) one
      ∙ ap (λ (qs : List Piece). p ∷ qs) (relaid symbols lines ps (added p m) (n + 1) good.1 (next_laid text p ps m is) s.1 b.1 f.1)
