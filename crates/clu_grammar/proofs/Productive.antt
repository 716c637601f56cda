-- Every list of items stands for some symbols.
use Rattle.std.proofs.Common.{◌≡◌, ℕ, zero, suc, ◌+◌, ◌<◌, ◌≤◌, Bool, true, ◌&&◌, cond, List, [], ◌∷◌, ◌++◌, length, Option, Some, None, is_some, slice_get, refl, sym, subst, inl, inr, arith, append_assoc, nat_lt, ltb-true, lt-ltb}
use Rattle.std.proofs.lemmas.Bool.{and_from, cases_Bool}
use Rattle.std.proofs.lemmas.List.{length_push, length-append}
use Rattle.clu_lexer.specs.declared.symbols.Symbol.{Symbol}
use Rattle.clu_grammar.specs.declared.items.Item.{Item}
use Rattle.clu_grammar.specs.declared.items.Item.TheVariants as item
use Rattle.clu_grammar.specs.declared.items.Nonterminal.{Nonterminal}
use Rattle.clu_grammar.specs.declared.items.Nonterminal.TheVariants as r
use Rattle.clu_grammar.specs.Choice.{has}
use Rattle.clu_grammar.specs.Grammar.{productions}
use Rattle.clu_grammar.specs.Language.{IsOneOf, Derives, done, symbol, action, choice}
use Rattle.clu_grammar.specs.Rows.{Production, take, peek, otherwise}
use Rattle.clu_grammar.proofs.Flags.{and_left, and_right}
use Rattle.clu_grammar.proofs.Lookahead.{rank}
use Rattle.clu_lexer.specs.contracts.symbols.Symbol.{the_type}
use denote.Enum.Bare.{true_same}

-- each nonterminal of the items has a rank below k
abbrev pub ranks_below : ℕ → List Item → Bool
ranks_below k [] = true
ranks_below k (item.Terminal s ∷ items) = ranks_below k items
ranks_below k (item.Action a ∷ items) = ranks_below k items
ranks_below k (item.Nonterminal n ∷ items) = nat_lt (rank n) k && ranks_below k items

-- an alternative whose nonterminals have ranks below k
abbrev pub low : ℕ → List Production → Option (List Item)
low k [] = None
low k (take [] row ∷ ps) = low k ps
low k (take (s ∷ heads) row ∷ ps) = cond (ranks_below k row) (Some (item.Terminal s ∷ row)) (low k ps)
low k (peek heads row ∷ ps) = cond (ranks_below k row) (Some row) (low k ps)
low k (otherwise row ∷ ps) = cond (ranks_below k row) (Some row) (low k ps)

has_low : (n : Nonterminal) → is_some (low (rank n) (productions n)) ≡ true
has_low r.File = refl
has_low _ = refl

has_first : (s : Symbol) (heads : List Symbol) → has (s ∷ heads) s ≡ true
has_first s heads = rw (true_same the_type s s refl)

-- it is an alternative, and its ranks are below
abbrev pub IsLow : ℕ → List Production → List Item → Type 0
IsLow k ps alternative = IsOneOf ps alternative × (ranks_below k alternative ≡ true)

low_is : (k : ℕ) (ps : List Production) (alternative : List Item) → low k ps ≡ Some alternative → IsLow k ps alternative
low_is k [] alternative is = absurd (cc)
low_is k (take [] row ∷ ps) alternative is = let found = low_is k ps alternative is in (inr found.0, found.1)
low_is k (take (s ∷ heads) row ∷ ps) alternative is = elim (cases_Bool (ranks_below k row)) [
  | inl ok ↦ (let same : item.Terminal s ∷ row ≡ alternative = (let h = rw ok at is in cc) in (inl (s, has_first s heads, sym same), subst (λ (x : List Item). ranks_below k x ≡ true) same ok))
  | inr bad ↦ (let found = low_is k ps alternative (rw bad at is) in (inr found.0, found.1))
]
low_is k (peek heads row ∷ ps) alternative is = elim (cases_Bool (ranks_below k row)) [
  | inl ok ↦ (let same : row ≡ alternative = (let h = rw ok at is in cc) in (inl (sym same), subst (λ (x : List Item). ranks_below k x ≡ true) same ok))
  | inr bad ↦ (let found = low_is k ps alternative (rw bad at is) in (inr found.0, found.1))
]
low_is k (otherwise row ∷ ps) alternative is = elim (cases_Bool (ranks_below k row)) [
  | inl ok ↦ (let same : row ≡ alternative = (let h = rw ok at is in cc) in (inl (sym same), subst (λ (x : List Item). ranks_below k x ≡ true) same ok))
  | inr bad ↦ (let found = low_is k ps alternative (rw bad at is) in (inr found.0, found.1))
]

some_is : {X : Type 0} (o : Option X) → is_some o ≡ true → (x : X) × (o ≡ Some x)
some_is None h = absurd (cc)
some_is (Some x) h = (x, refl)

-- one thing after the other
derives-append : (ys : List Symbol) (xs items : List Item) (at mid to : ℕ) → Derives ys xs at mid → Derives ys items mid to → Derives ys (xs ++ items) at to
derives-append ys [] items at mid to (done _) d = d
derives-append ys _ items at mid to (symbol s xs _ _ is c) d = symbol s (xs ++ items) at to is (derives-append ys xs items (at + 1) mid to c d)
derives-append ys _ items at mid to (action a xs _ _ c) d = action a (xs ++ items) at to (derives-append ys xs items at mid to c d)
derives-append ys _ items at mid to (choice n xs alternative _ _ one c) d =
    choice n (xs ++ items) alternative at to one (subst (λ (x : List Item). Derives ys x at to) (append_assoc alternative xs items) (derives-append ys (alternative ++ xs) items at mid to c d))

-- wherever they stand, the items stand for these symbols
abbrev pub StandsFor : List Item → List Symbol → Type 0
StandsFor items w = (before behind : List Symbol) → Derives (before ++ (w ++ behind)) items (length before) (length before + length w)

got_seam : (before : List Symbol) (s : Symbol) (behind : List Symbol) → slice_get (before ++ s ∷ behind) (length before) ≡ Some s
got_seam [] s behind = refl
got_seam (x ∷ before) s behind = got_seam before s behind

stands_none : StandsFor [] []
stands_none before behind = subst (λ (k : ℕ). Derives (before ++ behind) [] (length before) k) (omega arith) (done (length before))

stands_symbol : (s : Symbol) (items : List Item) (w : List Symbol) → StandsFor items w → StandsFor (item.Terminal s ∷ items) (s ∷ w)
stands_symbol s items w known before behind =
    let moved : Derives ((before ++ s ∷ []) ++ (w ++ behind)) items (length (before ++ s ∷ [])) (length (before ++ s ∷ []) + length w) = known (before ++ s ∷ []) behind in
    let place : length (before ++ s ∷ []) ≡ length before + 1 = length_push before s in
    let list : (before ++ s ∷ []) ++ (w ++ behind) ≡ before ++ s ∷ (w ++ behind) = append_assoc before (s ∷ []) (w ++ behind) in
    let last : length before + 1 + length w ≡ length before + length (s ∷ w) = omega arith in
    symbol s items (length before) (length before + length (s ∷ w)) (got_seam before s (w ++ behind))
    (subst (λ (k : ℕ). Derives (before ++ s ∷ (w ++ behind)) items (length before + 1) k) last (rw (list, place) at moved))

stands_both : (xs items : List Item) (v w : List Symbol) → StandsFor xs v → StandsFor items w → StandsFor (xs ++ items) (v ++ w)
stands_both xs items v w first second before behind =
    let one : Derives (before ++ (v ++ (w ++ behind))) xs (length before) (length before + length v) = first before (w ++ behind) in
    let two : Derives ((before ++ v) ++ (w ++ behind)) items (length (before ++ v)) (length (before ++ v) + length w) = second (before ++ v) behind in
    let list : (before ++ v) ++ (w ++ behind) ≡ before ++ (v ++ (w ++ behind)) = append_assoc before v (w ++ behind) in
    let inner : v ++ (w ++ behind) ≡ (v ++ w) ++ behind = sym (append_assoc v w behind) in
    let place : length (before ++ v) ≡ length before + length v = length-append before v in
    let last : length before + length v + length w ≡ length before + length (v ++ w) = omega (arith, length-append v w) in
    let two' = rw (list, place) at two in
    rw (← inner) (subst (λ (k : ℕ). Derives (before ++ (v ++ (w ++ behind))) (xs ++ items) (length before) k) last
    (derives-append (before ++ (v ++ (w ++ behind))) xs items (length before) (length before + length v) (length before + length v + length w) one two'))

-- what items of low ranks stand for
abbrev pub Below : ℕ → Type 0
Below k = (items : List Item) → ranks_below k items ≡ true → (w : List Symbol) × StandsFor items w

ranks_more : (j k : ℕ) (items : List Item) → j ≤ k → ranks_below j items ≡ true → ranks_below k items ≡ true
ranks_more j k [] le h = refl
ranks_more j k (item.Terminal s ∷ items) le h = ranks_more j k items le h
ranks_more j k (item.Action a ∷ items) le h = ranks_more j k items le h
ranks_more j k (item.Nonterminal n ∷ items) le h =
    let less : rank n < j = ltb-true (rank n) j (and_left (nat_lt (rank n) j) (ranks_below j items) h) in
    and_from (nat_lt (rank n) k) (ranks_below k items) (lt-ltb (rank n) k (omega arith)) (ranks_more j k items le (and_right (nat_lt (rank n) j) (ranks_below j items) h))

below_more : (k : ℕ) → Below k → Below (suc k)
below_more k known [] h = ([], stands_none)
below_more k known (item.Terminal s ∷ items) h = let rest = below_more k known items h in (s ∷ rest.0, stands_symbol s items rest.0 rest.1)
below_more k known (item.Action a ∷ items) h = let rest = below_more k known items h in (rest.0, λ before behind. action a items (length before) (length before + length rest.0) (rest.1 before behind))
below_more k known (item.Nonterminal n ∷ items) h =
    let rest = below_more k known items (and_right (nat_lt (rank n) (suc k)) (ranks_below (suc k) items) h) in
    let less : rank n < suc k = ltb-true (rank n) (suc k) (and_left (nat_lt (rank n) (suc k)) (ranks_below (suc k) items) h) in
    let found = some_is (low (rank n) (productions n)) (has_low n) in
    let is_low = low_is (rank n) (productions n) found.0 found.1 in
    let first = known found.0 (ranks_more (rank n) k found.0 (omega arith) is_low.1) in
    (first.0 ++ rest.0, λ before behind. choice n items found.0 (length before) (length before + length (first.0 ++ rest.0)) is_low.0 (stands_both found.0 items first.0 rest.0 first.1 rest.1 before behind))

below_none : Below zero
below_none [] h = ([], stands_none)
below_none (item.Terminal s ∷ items) h = let rest = below_none items h in (s ∷ rest.0, stands_symbol s items rest.0 rest.1)
below_none (item.Action a ∷ items) h = let rest = below_none items h in (rest.0, λ before behind. action a items (length before) (length before + length rest.0) (rest.1 before behind))
below_none (item.Nonterminal n ∷ items) h = let less : rank n < 0 = ltb-true (rank n) 0 (and_left (nat_lt (rank n) 0) (ranks_below 0 items) h) in absurd (omega arith)

rank_small : (n : Nonterminal) → nat_lt (rank n) 8 ≡ true
rank_small r.File = refl
rank_small _ = refl

ranks_small : (items : List Item) → ranks_below 8 items ≡ true
ranks_small [] = refl
ranks_small (item.Terminal s ∷ items) = ranks_small items
ranks_small (item.Action a ∷ items) = ranks_small items
ranks_small (item.Nonterminal n ∷ items) = and_from (nat_lt (rank n) 8) (ranks_below 8 items) (rank_small n) (ranks_small items)

-- the items stand for some symbols
pub stands : (items : List Item) → (w : List Symbol) × StandsFor items w
stands items =
    below_more 7 (below_more 6 (below_more 5 (below_more 4 (below_more 3 (below_more 2 (below_more 1 (below_more 0 below_none))))))) items (ranks_small items)
