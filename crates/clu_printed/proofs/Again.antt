-- The printed text of a source is read again.
use Rattle.std.proofs.Common.{◌≡◌, ℕ, ◌+◌, ◌<◌, ◌≤◌, ◌^◌, Bool, true, false, not, ◌&&◌, List, [], ◌∷◌, ◌++◌, length, map, Option, Some, None, slice_get, unwrap_or, option_map, refl, sym, ap, ◌∙◌, subst, inl, inr, arith}
use Rattle.std.specs.List.{AllZip}
use Rattle.std.proofs.lemmas.Bool.{cases_Bool}
use Rattle.std.proofs.lemmas.List.{length-map}
use Rattle.std.proofs.lemmas.Option.{slice_get-map, same_Some}
use Rattle.clu_base.specs.declared.tokens.Token.{Token}
use Rattle.clu_lexer.specs.declared.scanner.State.TheVariants as state
use Rattle.clu_lexer.specs.declared.symbols.Symbol.{Symbol}
use Rattle.clu_lexer.specs.Scanner.{next, run}
use Rattle.clu_lexer.specs.Tokens.{kind_of, Tokens}
use Rattle.clu_lexer.specs.Words.{symbol_of}
use Rattle.clu_tree.specs.declared.node.Node.{Node}
use Rattle.clu_grammar.specs.declared.items.Item.{Item}
use Rattle.clu_grammar.specs.Choice.{has}
use Rattle.clu_grammar.specs.Grammar.{signs}
use Rattle.clu_grammar.specs.Language.{Derives, done, symbol, action, choice, whole, IsFile}
use Rattle.clu_grammar.proofs.Deterministic.{begun, at_end}
use Rattle.clu_grammar.proofs.Tests.{begins}
use Rattle.clu_parser.specs.Parsing.{text_of, IsTreeOf}
use Rattle.clu_parser.specs.Spellings.{spelled, spelling}
use Rattle.clu_parser.specs.Trees.{Text, Built, Builds, finished, terminal, act, chosen, IsBuilt, nothing_built, spelling_at}
use Rattle.clu_parser.proofs.Formed.{tree_shaped}
use Rattle.clu_parser.proofs.Sizes.{tokens_small}
use Rattle.clu_printer.specs.Blanks.{blank_between}
use Rattle.clu_printer.specs.Lines.{Lines, lines_of}
use Rattle.clu_printer.specs.Printed.{Made, nothing_made, bytes_of, symbol_in, prefix_at, known, symbol_at, printed}
use Rattle.clu_printed.specs.Again.{AreLike, IsReadAgain}
use Rattle.clu_printed.proofs.Fitting.{Fitting, fitting}
use Rattle.clu_printed.proofs.Joined.{joint}
use Rattle.clu_printed.proofs.Kept.{is_optional, kept, place_of, IsKept, got_kept, place_end}
use Rattle.clu_printed.proofs.Laid.{Are, whole_text, tokens_laid}
use Rattle.clu_printed.proofs.Lined.{lined}
use Rattle.clu_printed.proofs.Lowered.{printed_spelled}
use Rattle.clu_printed.proofs.Marked.{lines_length, lines_signs, are_prefixed}
use Rattle.clu_printed.proofs.Neighbours.{fits, file_fits}
use Rattle.clu_printed.proofs.Pieces.{Piece, more_text, shown_text, laid}
use Rattle.clu_printed.proofs.Printing.{pieces, printed_pieces, map_pieces, IsGood, AreGood, cut_kinds, good_pieces, laid_symbols, laid_spelled, relaid}
use Rattle.clu_printed.proofs.Rebuilt.{IsMoved, rebuilt, nothing_moved}
use Rattle.clu_printed.proofs.Stripped.{semicolon_is}

derives : (t : Text) (items : List Item) (at : ℕ) (b : Built) (to : ℕ) (z : Built) → Builds t items at b to z → Derives t.symbols items at to
derives t _ at b _ _ (finished _ _) = done at
derives t _ at b to z (terminal x items _ _ _ _ is d) = symbol x items at to is (derives t items (at + 1) b to z d)
derives t _ at b to z (act a items _ _ c _ _ is d) = action a items at to (derives t items at c to z d)
derives t _ at b to z (chosen n items alternative _ _ _ _ one d) = choice n items alternative at to one (derives t (alternative ++ items) at b to z d)

pub built_file : (t : Text) (z : Built) → IsBuilt t z → IsFile t.symbols
built_file t z d = derives t whole 0 nothing_built (length t.symbols) z d

-- a file does not begin with a ;
first_symbol : (ys : List Symbol) → IsFile ys → IsKept ys 0
first_symbol ys d = next (slice_get ys 0) refl (begun ys whole 0 (length ys) d refl)
  where
    next : (o : Option Symbol) → slice_get ys 0 ≡ o → begins whole at_end o ≡ true → IsKept ys 0
    next None is h = absurd (cc)
    next (Some x) is h = elim (cases_Bool (is_optional x)) [
      | inl gone ↦ (let h' : false ≡ true = subst (λ (y : Symbol). begins whole at_end (Some y) ≡ true) (semicolon_is x gone) h in absurd (cc))
      | inr left ↦ (x, is, left)
    ]

-- pieces that fit are read as so many tokens
two_parts : (p q : Piece) → IsGood p → IsGood q → fits p.symbol q.symbol ≡ true → (not p.is_prefix && blank_between p.symbol q.symbol) ≡ false → (b : ℕ) (bs : List ℕ) → q.text ≡ b ∷ bs → next (run state.Start p.text) b ≡ state.Stop
two_parts p q good good' fit none b bs is =
    let x : symbol_of p.kind p.text ≡ p.symbol = good.symbol_is in
    let y : symbol_of q.kind (b ∷ bs) ≡ q.symbol = ap (symbol_of q.kind) (sym is) ∙ good'.symbol_is in
    let kind : kind_of (b ∷ bs) ≡ Some q.kind = ap kind_of (sym is) ∙ good'.kind_is in
    let fit' : fits (symbol_of p.kind p.text) (symbol_of q.kind (b ∷ bs)) ≡ true = subst (λ (z : Symbol). fits z (symbol_of q.kind (b ∷ bs)) ≡ true) (sym x) (subst (λ (z : Symbol). fits p.symbol z ≡ true) (sym y) fit) in
    let none' : (not p.is_prefix && blank_between (symbol_of p.kind p.text) (symbol_of q.kind (b ∷ bs))) ≡ false =
    subst (λ (z : Symbol). (not p.is_prefix && blank_between z (symbol_of q.kind (b ∷ bs))) ≡ false) (sym x) (subst (λ (z : Symbol). (not p.is_prefix && blank_between p.symbol z) ≡ false) (sym y) none) in
    joint p.kind q.kind p.text b bs good.kind_is kind fit' p.is_prefix (λ h. subst (λ (z : Symbol). has signs z ≡ true) (sym x) (good.sign h)) none'

parts : (ps : List Piece) → AreGood ps → Fitting (map (λ (p : Piece). p.symbol) ps) → Are ps
parts [] good fit = tt
parts (p ∷ []) good fit = (record { kind_is = good.0.kind_is }, tt, tt)
parts (p ∷ q ∷ ps) good fit = (record { kind_is = good.0.kind_is }, λ none b bs is. two_parts p q good.0 good.1.0 fit.0 none b bs is, parts (q ∷ ps) good.1 fit.1)

-- spellings as a list
abbrev spellings : List ℕ → List Token → List (List ℕ)
spellings bytes ts = map (λ (t : Token). spelled t.kind (bytes_of bytes t)) ts

spelling_is : (bytes : List ℕ) (ts : List Token) (k : ℕ) → spelling bytes (slice_get ts k) ≡ unwrap_or (slice_get (spellings bytes ts) k) []
spelling_is bytes ts k = at (slice_get ts k) ∙ ap (λ (o : Option (List ℕ)). unwrap_or o []) (sym (slice_get-map (λ (t : Token). spelled t.kind (bytes_of bytes t)) ts k))
  where
    at : (o : Option Token) → spelling bytes o ≡ unwrap_or (option_map (λ (t : Token). spelled t.kind (bytes_of bytes t)) o) []
    at None = refl
    at (Some t) = refl

pub likes : (symbols : List Symbol) (ms ns : List Node) → AllZip (IsMoved symbols) ms ns → AreLike ms ns
likes symbols [] [] z = tt
likes symbols [] (n ∷ ns) z = absurd z
likes symbols (m ∷ ms) [] z = absurd z
likes symbols (m ∷ ms) (n ∷ ns) z = (record { kind_is = z.0.kind_is; children_are = z.0.children_are; names_are = z.0.names_are; value_is = z.0.value_is }, likes symbols ms ns z.1)

abbrev pub symbols_in : List ℕ → List Token → List Symbol
symbols_in bytes tokens = map (symbol_in bytes) tokens

abbrev pub pieces_in : List ℕ → List Token → List Node → List Piece
pieces_in bytes tokens nodes = pieces bytes (symbols_in bytes tokens) (lines_of (symbols_in bytes tokens) nodes) 0 tokens

pub printed_is : (bytes : List ℕ) (tokens : List Token) (nodes : List Node) → printed bytes tokens nodes ≡ whole_text (pieces_in bytes tokens nodes)
printed_is bytes tokens nodes = ap (λ (m : Made). m.text ++ 10 ∷ []) (printed_pieces bytes (symbols_in bytes tokens) (lines_of (symbols_in bytes tokens) nodes) 0 tokens nothing_made)

module _ (bytes : List ℕ) (tokens : List Token) (nodes : List Node) (small : length bytes ≤ 1048576) (are : Tokens bytes tokens) (tree : IsTreeOf bytes tokens nodes) where
  abbrev symbols : List Symbol
  symbols = symbols_in bytes tokens

  abbrev lines : Lines
  lines = lines_of (symbols_in bytes tokens) nodes

  abbrev ps : List Piece
  ps = pieces_in bytes tokens nodes

  abbrev pub text : List ℕ
  text = whole_text (pieces_in bytes tokens nodes)

  abbrev pub again : List Token
  again = laid (whole_text (pieces_in bytes tokens nodes)) (pieces_in bytes tokens nodes) nothing_made

  as_many : length symbols ≡ length tokens
  as_many = length-map tokens (symbol_in bytes)

  is_text : text ≡ more_text ps nothing_made ++ 10 ∷ []
  is_text = ap (λ (xs : List ℕ). xs ++ 10 ∷ []) (shown_text ps nothing_made)

  file : IsFile symbols
  file = built_file (text_of bytes tokens) tree.0 tree.1

  sign : (k : ℕ) → prefix_at lines.prefix k ≡ true → has signs (symbol_at symbols k) ≡ true
  sign k h =
      let it = lines_signs symbols nodes (are_prefixed (text_of bytes tokens) nodes (tree_shaped bytes tokens nodes tree)) k h in
      subst (λ (x : Symbol). has signs x ≡ true) (sym (ap known it.1)) it.2

  good : AreGood ps
  good = good_pieces bytes tokens lines 0 tokens (cut_kinds bytes 0 tokens are.0 are.1) sign refl

  symbols_kept : map (λ (p : Piece). p.symbol) ps ≡ kept symbols symbols
  symbols_kept = map_pieces bytes symbols lines tokens as_many (λ (p : Piece). p.symbol) symbols 0 tokens (λ k t x at is. ap known is) as_many refl

  begins_kept : map (λ (p : Piece). p.begins) ps ≡ kept symbols lines.begins
  begins_kept = map_pieces bytes symbols lines tokens as_many (λ (p : Piece). p.begins) lines.begins 0 tokens (λ k t x at is. ap (λ (o : Option (Option ℕ)). unwrap_or o None) is) ((lines_length symbols nodes).0 ∙ as_many) refl

  prefix_kept : map (λ (p : Piece). p.is_prefix) ps ≡ kept symbols lines.prefix
  prefix_kept = map_pieces bytes symbols lines tokens as_many (λ (p : Piece). p.is_prefix) lines.prefix 0 tokens (λ k t x at is. ap (λ (o : Option Bool). unwrap_or o false) is) ((lines_length symbols nodes).1 ∙ as_many) refl

  spelled_kept : map (λ (p : Piece). spelled p.kind p.text) ps ≡ kept symbols (spellings bytes tokens)
  spelled_kept =
      map_pieces bytes symbols lines tokens as_many (λ (p : Piece). spelled p.kind p.text) (spellings bytes tokens) 0 tokens
      (λ k t x at is. printed_spelled t.kind (bytes_of bytes t) ∙ same_Some _ _ (sym (slice_get-map (λ (u : Token). spelled u.kind (bytes_of bytes u)) tokens k ∙ ap (option_map (λ (u : Token). spelled u.kind (bytes_of bytes u))) at) ∙ is))
      (length-map tokens (λ (u : Token). spelled u.kind (bytes_of bytes u))) refl

  pub without : symbols_in text again ≡ kept symbols symbols
  without = laid_symbols text ps nothing_made good is_text ∙ symbols_kept

  spelled_so : (k : ℕ) → IsKept symbols k → spelling_at (text_of text again) (place_of symbols k) ≡ spelling_at (text_of bytes tokens) k
  spelled_so k h =
      spelling_is text again (place_of symbols k)
      ∙ ap (λ (xs : List (List ℕ)). unwrap_or (slice_get xs (place_of symbols k)) []) (laid_spelled text ps nothing_made is_text ∙ spelled_kept)
      ∙ ap (λ (o : Option (List ℕ)). unwrap_or o []) (got_kept symbols (spellings bytes tokens) k h.0 h.1 h.2)
      ∙ sym (spelling_is bytes tokens k)

  pub record Found : Type 0 where
    pub made : Built
    pub builds : IsBuilt (text_of text again) made
    pub moved : AllZip (IsMoved symbols) nodes made.nodes

  pub found : Found
  found =
      let r = rebuilt (text_of bytes tokens) (text_of text again) without spelled_so (fitting symbols (file_fits symbols file)) false whole 0 nothing_built (length symbols) tree.0 tree.1 nothing_built (nothing_moved (text_of bytes tokens) (text_of text again) without spelled_so (fitting symbols (file_fits symbols file))) refl (λ h. absurd (cc)) (omega arith) in
      let end : place_of symbols (length symbols) ≡ length (symbols_in text again) = place_end symbols ∙ ap length (sym without) in
      record {
        made = r.made;
        builds = subst (λ (k : ℕ). Builds (text_of text again) whole 0 nothing_built k r.made) end r.builds;
        moved = subst (λ (xs : List Node). AllZip (IsMoved symbols) xs r.made.nodes) tree.2 r.moved.nodes;
      }

  pub lexed : Tokens text again
  lexed =
      let fit : Fitting (symbols_in text again) = fitting (symbols_in text again) (file_fits (symbols_in text again) (built_file (text_of text again) found.made found.builds)) in
      tokens_laid ps (parts ps good (subst Fitting (laid_symbols text ps nothing_made good is_text) fit))

  few : length symbols + 2 < 2 ^ 32
  few = omega (arith, tokens_small bytes tokens small are)

  same : printed text again found.made.nodes ≡ text
  same =
      let first = first_symbol symbols file in
      let both = lined symbols nodes found.made.nodes found.moved first.0 first.1 first.2 few in
      let to : lines_of (symbols_in text again) found.made.nodes ≡ lines_of (kept symbols symbols) found.made.nodes = ap (λ (ss : List Symbol). lines_of ss found.made.nodes) without in
      let begins : (lines_of (symbols_in text again) found.made.nodes).begins ≡ map (λ (p : Piece). p.begins) ps = ap (λ (l : Lines). l.begins) to ∙ both.begins ∙ sym begins_kept in
      let prefix : (lines_of (symbols_in text again) found.made.nodes).prefix ≡ map (λ (p : Piece). p.is_prefix) ps = ap (λ (l : Lines). l.prefix) to ∙ both.prefix ∙ sym prefix_kept in
      let pieces_same : pieces_in text again found.made.nodes ≡ ps =
      relaid text (symbols_in text again) (lines_of (symbols_in text again) found.made.nodes) ps nothing_made 0 good is_text (laid_symbols text ps nothing_made good is_text) begins prefix in
      printed_is text again found.made.nodes ∙ ap whole_text pieces_same

  pub read_again : IsReadAgain (printed bytes tokens nodes) nodes
  read_again =
      subst (λ (xs : List ℕ). IsReadAgain xs nodes) (sym (printed_is bytes tokens nodes)) (record {
        tokens = again;
        again = found.made.nodes;
        lexed = lexed;
        parsed = (found.made, found.builds, refl);
        alike = likes symbols nodes found.made.nodes found.moved;
        same = same;
      })
