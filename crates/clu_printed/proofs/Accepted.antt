-- The printed text of a source that is accepted is accepted: no token is bad, no level is too high, no node too deep.
use Rattle.std.proofs.Common.{◌≡◌, ℕ, zero, suc, ◌+◌, ◌-◌, ◌<◌, ◌≤◌, List, [], ◌∷◌, length, take, drop, Some, None, slice_get, slice_index, Contains, refl, sym, ap, ◌∙◌, subst, inl, inr, arith}
use Rattle.std.proofs.lemmas.Bool.{cases_Bool}
use Rattle.std.proofs.lemmas.List.{length-map}
use Rattle.std.proofs.lemmas.Slice.Zip.{AllZip-long}
use Rattle.clu_base.specs.declared.tokens.Place.{Place}
use Rattle.clu_base.specs.declared.tokens.Token.{Token}
use Rattle.clu_lexer.specs.declared.symbols.Symbol.{Symbol}
use Rattle.clu_lexer.specs.declared.tokens.LexError.{LexError}
use Rattle.clu_lexer.specs.declared.tokens.LexError.TheVariants as lexer
use Rattle.clu_lexer.specs.Tokens.{kind_of, IsGap, Cut, IsBad, Tokens, IsFault as IsLexFault}
use Rattle.clu_tree.specs.declared.node.Node.{Node}
use Rattle.clu_tree.specs.Nodes.{IsTree}
use Rattle.clu_parser.specs.declared.errors.ParseError.{ParseError}
use Rattle.clu_parser.specs.declared.errors.ParseError.TheVariants as parser
use Rattle.clu_parser.specs.Depths.{IsDepth, top, below, AreDepths, AreShallow, IsFirstDeep, IsFirstTooDeep}
use Rattle.clu_parser.specs.Levels.{level_behind, level_from, IsLow}
use Rattle.clu_parser.specs.Parsing.{symbols_of, text_of, IsTreeOf, IsFault as IsParseFault}
use Rattle.clu_printer.specs.Printed.{printed, symbol_in}
use Rattle.clu_printed.specs.Again.{IsLike, AreLike}
use Rattle.clu_printed.proofs.Kept.{is_optional, kept}
use Rattle.clu_printed.specs.Refused.{IsNeverRefused}
use Rattle.clu_printed.proofs.Again.{symbols_in, text, again, without, found, lexed, likes, printed_is, built_file}
use Rattle.clu_printed.proofs.OneReading.{token_one, none_left, tokens_one, tree_one}
use Rattle.clu_printed.proofs.Rebuilt.{zip_got}
use Rattle.clu_printed.proofs.Stripped.{semicolon_is}

-- levels over a list of symbols
abbrev LowFrom : ℕ → List Symbol → Type 0
LowFrom level [] = level ≤ 200
LowFrom level (x ∷ xs) = (level ≤ 200) × LowFrom (level_behind level x) xs

low_from : (level : ℕ) (xs : List Symbol) → ((j : ℕ) → j ≤ length xs → level_from level (take j xs) ≤ 200) → LowFrom level xs
low_from level [] h = h 0 (omega arith)
low_from level (x ∷ xs) h = (h 0 (omega arith), low_from (level_behind level x) xs (λ j le. h (suc j) (omega arith)))

low_to : (level : ℕ) (xs : List Symbol) (j : ℕ) → j ≤ length xs → LowFrom level xs → level_from level (take j xs) ≤ 200
low_to level [] zero le h = h
low_to level [] (suc j) le h = h
low_to level (x ∷ xs) zero le h = h.0
low_to level (x ∷ xs) (suc j) le h = low_to (level_behind level x) xs j (omega arith) h.1

-- a ; changes no level
low_kept : (level : ℕ) (xs : List Symbol) → LowFrom level xs → LowFrom level (kept xs xs)
low_kept level [] h = h
low_kept level (x ∷ xs) h = elim (cases_Bool (is_optional x)) [
  | inl gone ↦ (
      let e : kept (x ∷ xs) (x ∷ xs) ≡ kept xs xs = rw gone refl in
      let same : level_behind level x ≡ level = subst (λ (y : Symbol). level_behind level y ≡ level) (sym (semicolon_is x gone)) refl in
      subst (LowFrom level) (sym e) (low_kept level xs (subst (λ (n : ℕ). LowFrom n xs) same h.1))
      )
  | inr left ↦ (
      let e : kept (x ∷ xs) (x ∷ xs) ≡ x ∷ kept xs xs = rw left refl in
      let it : LowFrom level (x ∷ kept xs xs) = (h.0, low_kept (level_behind level x) xs h.1) in
      subst (LowFrom level) (sym e) it
      )
]

-- depths are those of a tree with the same children
zip_back : (ms ns : List Node) (i : ℕ) (n : Node) → AreLike ms ns → slice_get ns i ≡ Some n → (m : Node) × (slice_get ms i ≡ Some m) × IsLike m n
zip_back [] [] i n z is = absurd (cc)
zip_back [] (b ∷ ns) i n z is = absurd z
zip_back (a ∷ ms) [] i n z is = absurd z
zip_back (a ∷ ms) (b ∷ ns) zero n z is = (let same : b ≡ n = cc in (a, refl, subst (IsLike a) same z.0))
zip_back (a ∷ ms) (b ∷ ns) (suc i) n z is = zip_back ms ns i n z.1 is

depth_like : (ms ns : List Node) (n d : ℕ) → AreLike ms ns → IsDepth ms n d → IsDepth ns n d
depth_like ms ns _ _ z (top n root) =
    top n (λ i k is has. let m = zip_back ms ns i k z is in root i m.0 m.1 (subst (λ (cs : List ℕ). Contains cs n) m.2.children_are has))
depth_like ms ns _ _ z (below parent n depth m is has d) =
    let k = zip_got IsLike ms ns parent m z is in
    below parent n depth k.0 k.1 (subst (λ (cs : List ℕ). Contains cs n) (sym k.2.children_are) has) (depth_like ms ns parent depth z d)

shallow_like : (ms ns : List Node) → AreLike ms ns → IsFirstTooDeep ms None → (depths : List ℕ) × AreDepths ns depths × AreShallow depths (length ns)
shallow_like ms ns z h =
    let same : length ns ≡ length ms = AllZip-long IsLike ms ns z in
    (h.0, record { size = h.1.size ∙ sym same; each = λ n less. depth_like ms ns n (slice_index h.0 n) z (h.1.each n (subst (λ (k : ℕ). n < k) same less)) }, subst (AreShallow h.0) (sym same) h.2)

-- no node has two parents
abbrev Apart : List Node → Type 0
Apart nodes = (i j : ℕ) (m n : Node) (c : ℕ) → slice_get nodes i ≡ Some m → slice_get nodes j ≡ Some n → Contains m.children c → Contains n.children c → i ≡ j

apart_like : (ms ns : List Node) → AreLike ms ns → IsTree ms → Apart ns
apart_like ms ns z tree i j m n c is is' has has' =
    let a = zip_back ms ns i m z is in
    let b = zip_back ms ns j n z is' in
    tree.apart i j a.0 b.0 c a.1 b.1 (subst (λ (cs : List ℕ). Contains cs c) a.2.children_are has) (subst (λ (cs : List ℕ). Contains cs c) b.2.children_are has')

depth_one : (nodes : List Node) → Apart nodes → (n k d e : ℕ) → IsDepth nodes n d → IsDepth nodes k e → n ≡ k → d ≡ e
depth_one nodes apart _ _ _ _ (top n root) (top k root') same = refl
depth_one nodes apart _ _ _ _ (top n root) (below parent k depth m is has d) same = absurd (root parent m is (subst (Contains m.children) (sym same) has))
depth_one nodes apart _ _ _ _ (below parent n depth m is has d) (top k root) same = absurd (root parent m is (subst (Contains m.children) same has))
depth_one nodes apart _ _ _ _ (below parent n depth m is has d) (below parent' k depth' m' is' has' d') same =
    let one : parent ≡ parent' = apart parent parent' m m' n is is' has (subst (Contains m'.children) (sym same) has') in
    ap (λ (x : ℕ). x + 1) (depth_one nodes apart parent parent' depth depth' d d' one)

-- bytes with tokens have no bad place
no_bad : (bytes : List ℕ) (from : ℕ) (ts us : List Token) (to to' : ℕ) (place : Place) → Cut bytes from ts to → IsGap bytes to (length bytes) → Cut bytes from us to' → IsBad bytes to' place → ⊥
no_bad bytes from [] [] to to' place cut gap cut' bad =
    let here : IsGap bytes from (length bytes) = subst (λ (i : ℕ). IsGap bytes i (length bytes)) (sym cut) gap in
    let there : IsGap bytes from bad.at = subst (λ (i : ℕ). IsGap bytes i bad.at) (sym cut') bad.gap in
    omega (arith, here, there, bad.within)
no_bad bytes from (t ∷ ts) [] to to' place cut gap cut' bad =
    let there : IsGap bytes from bad.at = subst (λ (i : ℕ). IsGap bytes i bad.at) (sym cut') bad.gap in
    let start : t.start ≡ bad.at = sym cut.0.gap ∙ there in
    let none : kind_of (take (t.end - t.start) (drop bad.at bytes)) ≡ None = bad.none (t.end - t.start) (subst (λ (i : ℕ). t.end - t.start ≤ length (drop i bytes)) start cut.0.longest.within) in
    let some : kind_of (take (t.end - t.start) (drop bad.at bytes)) ≡ Some t.kind = subst (λ (i : ℕ). kind_of (take (t.end - t.start) (drop i bytes)) ≡ Some t.kind) start cut.0.longest.is in
    absurd (cc)
no_bad bytes from [] (u ∷ us) to to' place cut gap cut' bad = none_left bytes from u (subst (λ (i : ℕ). IsGap bytes i (length bytes)) (sym cut) gap) cut'.0
no_bad bytes from (t ∷ ts) (u ∷ us) to to' place cut gap cut' bad =
    let same : t ≡ u = token_one bytes from t u cut.0 cut'.0 in
    no_bad bytes t.end ts us to to' place cut.1 gap (subst (λ (v : Token). Cut bytes v.end us to') (sym same) cut'.1) bad

lexed_all : (bytes : List ℕ) (ts : List Token) → Tokens bytes ts → (e : LexError) → IsLexFault bytes e → e ≡ lexer.Memory
lexed_all bytes ts are (lexer.Token place) fault = absurd (no_bad bytes 0 ts fault.0 are.0 fault.1 place are.1 are.2 fault.2 fault.3)
lexed_all bytes ts are lexer.Memory fault = refl

-- tokens with a tree that is low and shallow are refused for want of memory alone
parsed_all : (bytes : List ℕ) (tokens : List Token) (nodes : List Node) → IsTreeOf bytes tokens nodes → Apart nodes → IsLow (symbols_of bytes tokens) (length tokens) → (depths : List ℕ) → AreDepths nodes depths → AreShallow depths (length nodes) → (e : ParseError) → IsParseFault bytes tokens e → e ≡ parser.Memory
parsed_all bytes tokens nodes tree apart low depths are shallow (parser.Syntax place) fault =
    absurd (fault.1.1.with_it (symbols_of bytes tokens) (λ i le. refl) (built_file (text_of bytes tokens) tree.0 tree.1))
parsed_all bytes tokens nodes tree apart low depths are shallow (parser.TooDeep place) (inl high) =
    absurd (omega (arith, high.1.high, low (high.0 + 1) (omega (arith, high.1.within, length-map tokens (symbol_in bytes)))))
parsed_all bytes tokens nodes tree apart low depths are shallow (parser.TooDeep place) (inr deep) =
    let same : deep.1.0 ≡ nodes = tree_one bytes tokens deep.1.0 nodes deep.1.1 tree in
    let first = deep.1.2 in
    absurd (too_deep deep.1.0 same first.0 first.1 first.2)
  where
    too_deep : (others : List Node) → others ≡ nodes → (ds : List ℕ) → AreDepths others ds → IsFirstDeep others ds (length others) place → ⊥
    too_deep others same ds are' it =
        let less : it.node < length nodes = subst (λ (ns : List Node). it.node < length ns) same it.within in
        let one : IsDepth nodes it.node (slice_index ds it.node) = subst (λ (ns : List Node). IsDepth ns it.node (slice_index ds it.node)) same (are'.each it.node it.within) in
        let equal : slice_index depths it.node ≡ slice_index ds it.node = depth_one nodes apart it.node it.node (slice_index depths it.node) (slice_index ds it.node) (are.each it.node less) one refl in
        omega (arith, equal, it.deep, shallow it.node less)
parsed_all bytes tokens nodes tree apart low depths are shallow parser.Memory fault = refl

module _ (bytes : List ℕ) (tokens : List Token) (nodes : List Node) (small : length bytes ≤ 1048576) (are : Tokens bytes tokens) (tree : IsTreeOf bytes tokens nodes) where
  pub never_refused : IsLow (symbols_of bytes tokens) (length tokens) → IsTree nodes → IsFirstTooDeep nodes None → IsNeverRefused (printed bytes tokens nodes)
  never_refused low apart shallow =
      let f = found bytes tokens nodes small are tree in
      let here = text bytes tokens nodes small are tree in
      let ts = again bytes tokens nodes small are tree in
      let lex = lexed bytes tokens nodes small are tree in
      let alike = likes (symbols_in bytes tokens) nodes f.made.nodes f.moved in
      let depths = shallow_like nodes f.made.nodes alike shallow in
      let many : length tokens ≡ length (symbols_of bytes tokens) = sym (length-map tokens (symbol_in bytes)) in
      let lows : LowFrom 0 (kept (symbols_in bytes tokens) (symbols_in bytes tokens)) = low_kept 0 (symbols_in bytes tokens) (low_from 0 (symbols_in bytes tokens) (λ j le. low j (omega (arith, le, many)))) in
      let lows_again : LowFrom 0 (symbols_in here ts) = subst (LowFrom 0) (sym (without bytes tokens nodes small are tree)) lows in
      let low_again : IsLow (symbols_of here ts) (length ts) = λ j le. low_to 0 (symbols_in here ts) j (omega (arith, le, length-map ts (symbol_in here))) lows_again in
      let is_tree : IsTreeOf here ts f.made.nodes = (f.made, f.builds, refl) in
      subst IsNeverRefused (sym (printed_is bytes tokens nodes)) (record {
        lexed = lexed_all here ts lex;
        parsed = λ us e are' fault.
            (let same : us ≡ ts = tokens_one here us ts are' lex in
            parsed_all here ts f.made.nodes is_tree (apart_like nodes f.made.nodes alike apart) low_again depths.0 depths.1 depths.2 e (subst (λ (vs : List Token). IsParseFault here vs e) same fault));
      })
