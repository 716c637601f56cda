-- The tokens of a printed text are its pieces.
use Rattle.std.proofs.Common.{◌≡◌, ℕ, zero, suc, ◌+◌, ◌-◌, ◌<◌, ◌≤◌, true, false, not, ◌&&◌, ◌==◌, List, [], ◌∷◌, ◌++◌, length, take, drop, Some, None, refl, sym, ap, ◌∙◌, subst, inl, inr, ◌⊎◌, arith, append_assoc, length-append, eqb-true, leb-true, nat_le}
use Rattle.std.proofs.Math.Seq.{take-append_seam, drop-append_seam}
use Rattle.std.proofs.lemmas.Bool.{cases_order, or_cases, cases_Bool}
use Rattle.clu_base.specs.declared.tokens.Kind.{Kind}
use Rattle.clu_lexer.specs.declared.scanner.State.{State}
use Rattle.clu_lexer.specs.declared.scanner.State.TheVariants as state
use Rattle.clu_lexer.specs.Places.{place_at}
use Rattle.clu_lexer.specs.Scanner.{begin, next, accepts, run, class_of, IsLongest}
use Rattle.clu_lexer.specs.Separators.{gap_len, is_separator}
use Rattle.clu_lexer.specs.Tokens.{kind_of, IsToken, Cut, Tokens}
use Rattle.clu_grammar.proofs.Flags.{and_left, and_right}
use Rattle.clu_printer.specs.Printed.{Made, nothing_made}
use Rattle.clu_printer.specs.Blanks.{blank_between}
use Rattle.clu_printed.proofs.Joints.{blank_stops}
use Rattle.clu_printed.proofs.Lowered.{run_stopped, class_behind}
use Rattle.clu_printed.proofs.Pieces.{Piece, gap_before, added, added_text, shown, more_text, shown_text, laid, is_white, is_blank, space_blank, joined_gap}

-- more of the text than a first part
record IsMore (xs : List ℕ) (b : ℕ) (ys : List ℕ) (m : ℕ) : Type 0 where
  rest : List ℕ
  is : take m (xs ++ b ∷ ys) ≡ xs ++ b ∷ rest

take_more_than : (xs : List ℕ) (b : ℕ) (ys : List ℕ) (m : ℕ) → length xs < m → IsMore xs b ys m
take_more_than [] b ys zero less = absurd (omega arith)
take_more_than [] b ys (suc m) less = record { rest = take m ys; is = refl }
take_more_than (x ∷ xs) b ys zero less = absurd (omega arith)
take_more_than (x ∷ xs) b ys (suc m) less = (let r = take_more_than xs b ys m (omega arith) in record { rest = r.rest; is = ap (λ (zs : List ℕ). x ∷ zs) r.is })

run-append : (st : State) (xs ys : List ℕ) → run st (xs ++ ys) ≡ run (run st xs) ys
run-append st [] ys = refl
run-append st (x ∷ xs) ys = run-append (next st x) xs ys

-- where the automaton stops at the byte behind it, a token is the longest one
no_more : (text : List ℕ) (b : ℕ) (rest : List ℕ) → next (run state.Start text) b ≡ state.Stop → kind_of (text ++ b ∷ rest) ≡ None
unfolding class_of kind_of
no_more text b rest stops =
    let e : run state.Start (text ++ b ∷ rest) ≡ state.Stop = run-append state.Start text (b ∷ rest) ∙ ap (λ (st : State). run st rest) stops ∙ run_stopped rest in
    rw e refl

longest_laid : (text : List ℕ) (k : Kind) (b : ℕ) (rest : List ℕ) → kind_of text ≡ Some k → next (run state.Start text) b ≡ state.Stop → IsLongest kind_of (text ++ b ∷ rest) k (length text)
longest_laid text k b rest is stops = record {
  within = omega (arith, length-append text (b ∷ rest));
  is = ap kind_of (take-append_seam text (b ∷ rest)) ∙ is;
  longest = λ m above within. (let r = take_more_than text b rest m above in ap kind_of r.is ∙ no_more text b r.rest stops);
}

-- a token has a first byte, which is no separator and no %
pub record HasFirst (text : List ℕ) : Type 0 where
  pub first : ℕ
  pub rest : List ℕ
  pub is : text ≡ first ∷ rest
  pub no_gap : (more : List ℕ) → gap_len false (text ++ more) ≡ 0

never : (bs : List ℕ) (c : Kind) → accepts (run state.Stop bs) ≡ Some c → ⊥
never bs c h = (let h' : accepts state.Stop ≡ Some c = subst (λ (st : State). accepts st ≡ Some c) (run_stopped bs) h in cc)

separators : (b : ℕ) → is_separator b ≡ true → (((((b ≡ 32) ⊎ (b ≡ 9)) ⊎ (b ≡ 10)) ⊎ (b ≡ 11)) ⊎ (b ≡ 12)) ⊎ (b ≡ 13)
separators b h = elim (or_cases (b == 32) (nat_le 9 b && nat_le b 13) h) [
  | inl blank ↦ inl (inl (inl (inl (inl (eqb-true b 32 blank)))))
  | inr range ↦ among b (leb-true 9 b (and_left _ _ range)) (leb-true b 13 (and_right _ _ range))
]
  where
    among : (c : ℕ) → 9 ≤ c → c ≤ 13 → (((((c ≡ 32) ⊎ (c ≡ 9)) ⊎ (c ≡ 10)) ⊎ (c ≡ 11)) ⊎ (c ≡ 12)) ⊎ (c ≡ 13)
    among c low high = elim (cases_order c 9) [
      | inl e ↦ inl (inl (inl (inl (inr e))))
      | inr (inl less) ↦ absurd (omega arith)
      | inr (inr more) ↦ elim (cases_order c 10) [
        | inl e ↦ inl (inl (inl (inr e)))
        | inr (inl less) ↦ absurd (omega arith)
        | inr (inr more_10) ↦ elim (cases_order c 11) [
          | inl e ↦ inl (inl (inr e))
          | inr (inl less) ↦ absurd (omega arith)
          | inr (inr more_11) ↦ elim (cases_order c 12) [
            | inl e ↦ inl (inr e)
            | inr (inl less) ↦ absurd (omega arith)
            | inr (inr more_12) ↦ inr (omega arith)
          ]
        ]
      ]
    ]

no_separator : (b : ℕ) (bs : List ℕ) (c : Kind) → accepts (run (begin b) bs) ≡ Some c → is_separator b ≡ true → ⊥
no_separator b bs c h sep = elim (separators b sep) [
  | inl (inl (inl (inl (inl e)))) ↦ never bs c (subst (λ (n : ℕ). accepts (run (begin n) bs) ≡ Some c) e h)
  | inl (inl (inl (inl (inr e)))) ↦ never bs c (subst (λ (n : ℕ). accepts (run (begin n) bs) ≡ Some c) e h)
  | inl (inl (inl (inr e))) ↦ never bs c (subst (λ (n : ℕ). accepts (run (begin n) bs) ≡ Some c) e h)
  | inl (inl (inr e)) ↦ never bs c (subst (λ (n : ℕ). accepts (run (begin n) bs) ≡ Some c) e h)
  | inl (inr e) ↦ never bs c (subst (λ (n : ℕ). accepts (run (begin n) bs) ≡ Some c) e h)
  | inr e ↦ never bs c (subst (λ (n : ℕ). accepts (run (begin n) bs) ≡ Some c) e h)
]

pub first_of : (text : List ℕ) (k : Kind) → kind_of text ≡ Some k → HasFirst text
unfolding class_of
first_of text k h = (let c = class_behind text k h in next text c.class c.class_is)
  where
    next : (xs : List ℕ) (class : Kind) → accepts (run state.Start xs) ≡ Some class → HasFirst xs
    next [] class is = absurd (cc)
    next (b ∷ bs) class is = record { first = b; rest = bs; is = refl; no_gap = λ more. none more }
      where
        none : (more : List ℕ) → gap_len false (b ∷ (bs ++ more)) ≡ 0
        none more = elim (cases_Bool (b == 37)) [
          | inl is_so ↦ absurd (never bs class (subst (λ (n : ℕ). accepts (run (begin n) bs) ≡ Some class) (eqb-true b 37 is_so) is))
          | inr is_not ↦ elim (cases_Bool (is_separator b)) [
            | inl is_so ↦ absurd (no_separator b bs class is is_so)
            | inr is_not' ↦ rw (is_not, is_not') refl
          ]
        ]

-- blanks are a gap
white_step : (b : ℕ) (more : List ℕ) → is_white b ≡ true → gap_len false (b ∷ more) ≡ 1 + gap_len false more
white_step b more h = elim (or_cases (b == 10) (b == 32) h) [
  | inl line ↦ (let e : b ≡ 10 = eqb-true b 10 line in rw e refl)
  | inr blank ↦ (let e : b ≡ 32 = eqb-true b 32 blank in rw e refl)
]

pub gap_over : (xs ys : List ℕ) → is_blank xs ≡ true → gap_len false (xs ++ ys) ≡ length xs + gap_len false ys
gap_over [] ys h = omega arith
gap_over (x ∷ xs) ys h = white_step x (xs ++ ys) (and_left _ _ h) ∙ omega (arith, gap_over xs ys (and_right _ _ h))

-- the pieces are whole tokens, and those that no blank parts are read as two
pub record IsWhole (p : Piece) : Type 0 where
  pub kind_is : kind_of p.text ≡ Some p.kind

abbrev pub Parts : Piece → List Piece → Type 0
Parts p [] = Unit {0}
Parts p (q ∷ ps) = (not p.is_prefix && blank_between p.symbol q.symbol) ≡ false → (b : ℕ) (bs : List ℕ) → q.text ≡ b ∷ bs → next (run state.Start p.text) b ≡ state.Stop

abbrev pub Are : List Piece → Type 0
Are [] = Unit {0}
Are (p ∷ ps) = IsWhole p × Parts p ps × Are ps

-- behind a piece the automaton stops
record Stops (st : State) (xs : List ℕ) : Type 0 where
  first : ℕ
  rest : List ℕ
  is : xs ≡ first ∷ rest
  stops : next st first ≡ state.Stop

white_stops : (st : State) (c : Kind) (b : ℕ) → accepts st ≡ Some c → is_white b ≡ true → next st b ≡ state.Stop
white_stops st c b h white = elim (or_cases (b == 10) (b == 32) white) [
  | inl line ↦ subst (λ (n : ℕ). next st n ≡ state.Stop) (sym (eqb-true b 10 line)) (blank_stops st c h).1
  | inr blank ↦ subst (λ (n : ℕ). next st n ≡ state.Stop) (sym (eqb-true b 32 blank)) (blank_stops st c h).0
]

first_behind : (gap text : List ℕ) (first : ℕ) (rest more tail : List ℕ) → gap ≡ [] → text ≡ first ∷ rest → (gap ++ (text ++ more)) ++ 10 ∷ tail ≡ first ∷ ((rest ++ more) ++ 10 ∷ tail)
first_behind gap text first rest more tail none is = ap (λ (g : List ℕ). (g ++ (text ++ more)) ++ 10 ∷ tail) none ∙ ap (λ (bs : List ℕ). (bs ++ more) ++ 10 ∷ tail) is

stops_behind : (p : Piece) (ps : List Piece) (m : Made) (tail : List ℕ) → Are (p ∷ ps) → Stops (run state.Start p.text) (more_text ps (added p m) ++ 10 ∷ tail)
unfolding class_of
stops_behind p [] m tail h = (
    let c = class_behind p.text p.kind h.0.kind_is in
    record { first = 10; rest = tail; is = refl; stops = (blank_stops (run state.Start p.text) c.class c.class_is).1 }
    )
stops_behind p (q ∷ ps) m tail h = (let c = class_behind p.text p.kind h.0.kind_is in by_gap (gap_before q (added p m)) refl c.class c.class_is)
  where
    by_gap : (xs : List ℕ) → gap_before q (added p m) ≡ xs → (c : Kind) → accepts (run state.Start p.text) ≡ Some c → Stops (run state.Start p.text) (more_text (q ∷ ps) (added p m) ++ 10 ∷ tail)
    by_gap [] none c is =
        let f = first_of p.text p.kind h.0.kind_is in
        let g = first_of q.text q.kind h.2.0.kind_is in
        let stop = h.1 (joined_gap p q m f.first f.rest f.is none) g.first g.rest g.is in
        let e : more_text (q ∷ ps) (added p m) ++ 10 ∷ tail ≡ g.first ∷ ((g.rest ++ more_text ps (added q (added p m))) ++ 10 ∷ tail) = first_behind (gap_before q (added p m)) q.text g.first g.rest (more_text ps (added q (added p m))) tail none g.is in
        record { first = g.first; rest = (g.rest ++ more_text ps (added q (added p m))) ++ 10 ∷ tail; is = e; stops = stop }
    by_gap (x ∷ xs) some c is =
        let white : is_white x ≡ true = and_left _ _ (subst (λ (ys : List ℕ). is_blank ys ≡ true) some (space_blank q (added p m))) in
        record { first = x; rest = (xs ++ (q.text ++ more_text ps (added q (added p m)))) ++ 10 ∷ tail; is = rw some refl; stops = white_stops (run state.Start p.text) c x is white }

pub drop_start : (text : List ℕ) (p : Piece) (m : Made) (st : List ℕ) → text ≡ m.text ++ (gap_before p m ++ (p.text ++ st)) → drop (length m.text + length (gap_before p m)) text ≡ p.text ++ st
drop_start text p m st is =
    let e : length m.text + length (gap_before p m) ≡ length (m.text ++ gap_before p m) = sym (length-append m.text (gap_before p m)) in
    ap (λ (n : ℕ). drop n text) e ∙ ap (drop (length (m.text ++ gap_before p m))) (is ∙ sym (append_assoc m.text (gap_before p m) (p.text ++ st)))
    ∙ drop-append_seam (m.text ++ gap_before p m) (p.text ++ st)

-- the first piece is the token there
token_laid : (text : List ℕ) (p : Piece) (m : Made) (st : List ℕ) → IsWhole p → text ≡ m.text ++ (gap_before p m ++ (p.text ++ st)) → Stops (run state.Start p.text) st → IsToken text (length m.text) (record { kind = p.kind; start = length m.text + length (gap_before p m); end = length m.text + length (gap_before p m) + length p.text; place = place_at text (length m.text + length (gap_before p m)) })
token_laid text p m st whole is stops =
    let f = first_of p.text p.kind whole.kind_is in
    let start : drop (length m.text + length (gap_before p m)) text ≡ p.text ++ st = drop_start text p m st is in
    let from : drop (length m.text) text ≡ gap_before p m ++ (p.text ++ st) = ap (drop (length m.text)) is ∙ drop-append_seam m.text (gap_before p m ++ (p.text ++ st)) in
    let size : length m.text + length (gap_before p m) + length p.text - (length m.text + length (gap_before p m)) ≡ length p.text = omega arith in
    let some : 0 < length p.text = subst (λ (xs : List ℕ). 0 < length xs) (sym f.is) (omega arith) in
    let longest : IsLongest kind_of (p.text ++ st) p.kind (length p.text) = subst (λ (xs : List ℕ). IsLongest kind_of (p.text ++ xs) p.kind (length p.text)) (sym stops.is) (longest_laid p.text p.kind stops.first stops.rest whole.kind_is stops.stops) in
    let gap : gap_len false (gap_before p m ++ (p.text ++ st)) ≡ length (gap_before p m) = gap_over (gap_before p m) (p.text ++ st) (space_blank p m) ∙ omega (arith, f.no_gap st) in
    record {
      gap = ap (λ (xs : List ℕ). length m.text + gap_len false xs) from ∙ ap (λ (n : ℕ). length m.text + n) gap;
      forward = omega (arith, some);
      longest = rw (size, start) longest;
      place = refl;
    }

-- what is left of a text behind its first piece
rest_laid : (text : List ℕ) (p : Piece) (ps : List Piece) (m : Made) → text ≡ m.text ++ (more_text (p ∷ ps) m ++ 10 ∷ []) → text ≡ m.text ++ (gap_before p m ++ (p.text ++ (more_text ps (added p m) ++ 10 ∷ [])))
rest_laid text p ps m is =
    is ∙ ap (λ (xs : List ℕ). m.text ++ xs) (append_assoc (gap_before p m) (p.text ++ more_text ps (added p m)) (10 ∷ [])
    ∙ ap (λ (xs : List ℕ). gap_before p m ++ xs) (append_assoc p.text (more_text ps (added p m)) (10 ∷ [])))

pub next_laid : (text : List ℕ) (p : Piece) (ps : List Piece) (m : Made) → text ≡ m.text ++ (more_text (p ∷ ps) m ++ 10 ∷ []) → text ≡ (added p m).text ++ (more_text ps (added p m) ++ 10 ∷ [])
next_laid text p ps m is =
    rest_laid text p ps m is ∙ sym (added_text p m (more_text ps (added p m) ++ 10 ∷ []))

pub cut_laid : (text : List ℕ) (ps : List Piece) (m : Made) → Are ps → text ≡ m.text ++ (more_text ps m ++ 10 ∷ []) → Cut text (length m.text) (laid text ps m) (length (shown ps m).text)
cut_laid text [] m h is = refl
cut_laid text (p ∷ ps) m h is =
    let e : length (added p m).text ≡ length m.text + length (gap_before p m) + length p.text = omega (arith, length-append (m.text ++ gap_before p m) p.text, length-append m.text (gap_before p m)) in (
      token_laid text p m (more_text ps (added p m) ++ 10 ∷ []) h.0 (rest_laid text p ps m is) (stops_behind p ps m [] h),
      subst (λ (n : ℕ). Cut text n (laid text ps (added p m)) (length (shown ps (added p m)).text)) e (cut_laid text ps (added p m) h.2 (next_laid text p ps m is)),
    )

-- the text of the pieces has these tokens
abbrev pub whole_text : List Piece → List ℕ
whole_text ps = (shown ps nothing_made).text ++ 10 ∷ []

pub tokens_laid : (ps : List Piece) → Are ps → Tokens (whole_text ps) (laid (whole_text ps) ps nothing_made)
tokens_laid ps h =
    let all = (shown ps nothing_made).text in
    let is : whole_text ps ≡ more_text ps nothing_made ++ 10 ∷ [] = ap (λ (xs : List ℕ). xs ++ 10 ∷ []) (shown_text ps nothing_made) in
    let gap : length all + gap_len false (drop (length all) (all ++ 10 ∷ [])) ≡ length (all ++ 10 ∷ []) =
    ap (λ (xs : List ℕ). length all + gap_len false xs) (drop-append_seam all (10 ∷ [])) ∙ sym (length-append all (10 ∷ [])) in
    (length all, cut_laid (whole_text ps) ps nothing_made h is, gap)

-- the bytes of each of them are those of its piece
pub bytes_laid : (text : List ℕ) (p : Piece) (ps : List Piece) (m : Made) → text ≡ m.text ++ (more_text (p ∷ ps) m ++ 10 ∷ []) → take (length m.text + length (gap_before p m) + length p.text - (length m.text + length (gap_before p m))) (drop (length m.text + length (gap_before p m)) text) ≡ p.text
bytes_laid text p ps m is =
    let size : length m.text + length (gap_before p m) + length p.text - (length m.text + length (gap_before p m)) ≡ length p.text = omega arith in
    let start = drop_start text p m (more_text ps (added p m) ++ 10 ∷ []) (rest_laid text p ps m is) in
    rw (size, start) (take-append_seam p.text (more_text ps (added p m) ++ 10 ∷ []))
