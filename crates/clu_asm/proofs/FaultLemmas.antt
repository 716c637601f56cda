-- The place at which a text is refused.

use Rattle.std.proofs.Common.{◌≡◌, ◌≢◌, ◌↔◌, ◌⊎◌, ℕ, zero, suc, ◌+◌, ◌-◌, ◌*◌, ◌/◌, ◌%◌, ◌^◌, ◌<◌, ◌≤◌, ◌==◌, Bool, true, false, cond, IsTrue, Option, Some, None, IfNone, List, [], ◌∷◌, ◌++◌, length, take, drop, codes, decimal, flat_map, refl, sym, ap, subst, ◌∙◌, arith, inl, inr, append_assoc, append-nil, length-append}
use Rattle.std.proofs.lemmas.Bool.{cases_lt}
use Rattle.std.proofs.lemmas.List.{take_all, nil_from_length}
use Rattle.hex.specs.Hex.{encode_lower}
use Rattle.rv_isa.specs.Image.{Contents, contents, IsImage, AreWords, AreBytes, max_words, max_bytes}
use Rattle.clu_asm.specs.AssemblyText.{line, code_text, code_line, entry_line, row_line, row_lines, some_row_lines, fixed_word, data_word, asm_text}
use Rattle.clu_asm.specs.Places.{place, before, after, IsFree, IsFront}
use Rattle.clu_asm.specs.Lines.{NoCode, NoRow}
use Rattle.clu_asm.specs.Faults.{GoesOn, AreLines, first_line, IsBadLineAt, IsFaultAt}
use Rattle.clu_asm.specs.CutLines.{EntryBegins, CodeBegins, DigitsBegin, LineBegins}
use Rattle.clu_asm.proofs.PlaceLemmas.{place_splits, before_free, place_after}
use Rattle.clu_asm.proofs.RowLemmas.{rows_none}
use Rattle.clu_asm.proofs.LineLemmas.{line_is, cancel, no_line, entry_free, fixed_free, data_free}
use Rattle.clu_asm.proofs.FrontLemmas.{front_all, front_nil}
use Rattle.clu_asm.proofs.Unique.{Read, asm_first, regroup_text}
use Rattle.clu_asm.proofs.ImageLemmas.{text_of, AreParts, behind_four, parts_go_on, code_comes, fixed_comes, area_comes, entry_goes_on, no_rows}
use Rattle.clu_asm.proofs.EntryLemmas.{entry_within}
use Rattle.clu_asm.proofs.StopLemmas.{free_front, cut_no_code, cut_no_row, line_no_code, line_no_row, stuck}

-- ---- the first line of a text

pub place_le : (mark : ℕ) (text : List ℕ) → place mark text ≤ length text
unfolding place
place_le mark [] = omega arith
place_le mark (b ∷ text) = by (b == mark) (place_le mark text)
  where
    by : (t : Bool) → place mark text ≤ length text → cond t 0 (suc (place mark text)) ≤ suc (length text)
    by true h = omega arith
    by false h = omega (arith, h)

-- a text has a first line, or no byte 10
abbrev pub Lined : List ℕ → Type 0
Lined text = IsFree 10 text ⊎ ((t : List ℕ) × (rest : List ℕ) × IsFree 10 t × (text ≡ line t ++ rest))

pub lined : (text : List ℕ) → Lined text
lined text = elim (cases_lt (place 10 text) (length text)) [
  | inl lt ↦ inr (before 10 text, after 10 text, before_free 10 text (place_le 10 text), place_splits 10 text lt ∙ sym (line_is (before 10 text) (after 10 text)))
  | inr ge ↦ (let le = place_le 10 text in inl (omega (arith, ge, le)))
]

pub first_free : (text : List ℕ) → IsFree 10 text → first_line text ≡ text
first_free text f = take_all (place 10 text + 1) text (omega (arith, f))

take_line : (t rest : List ℕ) → take (length t + 1) (t ++ 10 ∷ rest) ≡ line t
take_line [] rest = refl
take_line (b ∷ t) rest = let e : length (b ∷ t) + 1 ≡ suc (length t + 1) = omega arith in rw e (ap (λ (l : List ℕ). b ∷ l) (take_line t rest))

pub first_is : (text t rest : List ℕ) → IsFree 10 t → text ≡ line t ++ rest → first_line text ≡ line t
first_is text t rest f e =
    let same : text ≡ t ++ 10 ∷ rest = e ∙ line_is t rest in
    let at : place 10 text ≡ length t = ap (place 10) same ∙ place_after 10 t rest f in
    ap (λ (n : ℕ). take (n + 1) text) at ∙ ap (take (length t + 1)) same ∙ take_line t rest

-- ---- without a line

pub nothing_goes_on : GoesOn []
nothing_goes_on = entry_goes_on [] (entry_within [] (front_nil (codes "entry ")))

-- the text of an image begins with its entry's line
entry_first : (i : Contents) → (rest : List ℕ) × (asm_text i ≡ entry_line i.entry ++ rest)
entry_first i = (
  flat_map code_line i.code ++ (row_lines fixed_word i.fixed ++ row_lines data_word i.area),
  regroup_text (entry_line i.entry) (flat_map code_line i.code) (row_lines fixed_word i.fixed) (row_lines data_word i.area),
)

pub cut_entry_on : (b : List ℕ) → EntryBegins b → IsFaultAt (length b) b
cut_entry_on b o = inl (refl, entry_goes_on b o)

free_entry : (b : List ℕ) → IsFree 10 b → GoesOn b → EntryBegins b
unfolding EntryBegins
free_entry b f g =
    let i = g.0 in
    let is = g.1 in
    let small : i.entry < max_words = omega (arith, is.entry, is.code) in
    let first = entry_first i in
    (i.entry, small, free_front b (codes "entry " ++ decimal i.entry) first.0 f (entry_free i.entry (omega (arith, small))) (g.2.0, sym first.1 ∙ g.2.1))

pub cut_entry_bad : (b : List ℕ) → IsFree 10 b → (EntryBegins b → ⊥) → IsFaultAt 0 b
cut_entry_bad b f none = inr (record {
  before = [];
  rest = b;
  parts = refl;
  at = refl;
  lines = inl refl;
  goes_on = nothing_goes_on;
  stops = λ g. none (free_entry b f (subst GoesOn (first_free b f) g));
})

-- ---- a first line that is no entry

pub first_bad : (b text rest : List ℕ) → b ≡ line text ++ rest → IsFree 10 text → ((n : ℕ) → n < max_words → text ≢ codes "entry " ++ decimal n) → IsFaultAt 0 b
first_bad b text rest e f none = inr (record {
  before = [];
  rest = b;
  parts = refl;
  at = refl;
  lines = inl refl;
  goes_on = nothing_goes_on;
  stops = λ g. refuse (subst GoesOn (first_is b text rest f e) g);
})
  where
    refuse : GoesOn (line text) → ⊥
    refuse g =
        let is = g.1 in
        none g.0.entry (omega (arith, is.entry, is.code)) (asm_first (line text ++ g.2.0) text g.2.0 g.0 g.1 refl f (sym g.2.1))

-- ---- after the parts

-- lines, since each part ends with one
last_ten : (xs ys : List ℕ) → AreLines xs → AreLines ys → AreLines (xs ++ ys)
last_ten xs ys h (inl e) = subst AreLines (sym (ap (λ (l : List ℕ). xs ++ l) e ∙ append-nil xs)) h
last_ten xs ys h (inr t) = inr (xs ++ t.0, ap (λ (l : List ℕ). xs ++ l) t.1 ∙ sym (append_assoc xs t.0 (10 ∷ [])))

line_lines : (t : List ℕ) → AreLines (line t)
line_lines t = inr (t, refl)

code_are_lines : (code : List ℕ) → AreLines (flat_map code_line code)
code_are_lines [] = inl refl
code_are_lines (w ∷ code) = last_ten (code_line w) (flat_map code_line code) (line_lines (code_text w)) (code_are_lines code)

rows_are_lines : (n : ℕ) (word xs : List ℕ) → AreLines (some_row_lines n word xs)
unfolding some_row_lines
rows_are_lines zero word xs = inl refl
rows_are_lines (suc n) word xs = last_ten (row_line word (take 8 xs)) (some_row_lines n word (drop 8 xs)) (line_lines (word ++ encode_lower (take 8 xs))) (rows_are_lines n word (drop 8 xs))

parts_are_lines : (entry : ℕ) (code fixed area : List ℕ) → AreLines (text_of entry code fixed area)
parts_are_lines entry code fixed area =
    last_ten (entry_line entry) (flat_map code_line code ++ (row_lines fixed_word fixed ++ row_lines data_word area)) (line_lines (codes "entry " ++ decimal entry))
    (last_ten (flat_map code_line code) (row_lines fixed_word fixed ++ row_lines data_word area) (code_are_lines code)
    (last_ten (row_lines fixed_word fixed) (row_lines data_word area) (rows_are_lines (length fixed / 8) fixed_word fixed) (rows_are_lines (length area / 8) data_word area)))

-- which lines can come next, as the reader's flags say it
pub record AreNext (code fixed area : List ℕ) (room : ℕ) (c f a : Bool) : Type 0 where
  pub code_next : IsTrue c ↔ ((length code < max_words) × (length fixed + length area ≡ 0))
  pub fixed_next : IsTrue f ↔ ((length fixed + length area + 8 ≤ room) × (length area ≡ 0))
  pub area_next : IsTrue a ↔ (length fixed + length area + 8 ≤ room)

module _ (entry : ℕ) (code fixed area : List ℕ) (room : ℕ) (p : AreParts entry code fixed area room) (c f a : Bool) (flags : AreNext code fixed area room c f a) (rest : List ℕ) where
  -- a cut line that can come next
  comes : LineBegins c f a rest → GoesOn (text_of entry code fixed area ++ rest)
  unfolding LineBegins
  comes (inl x) =
      let h = flags.code_next.0 x.0 in
      let no_fixed : fixed ≡ [] = nil_from_length fixed (omega (arith, h.1)) in
      let no_area : area ≡ [] = nil_from_length area (omega (arith, h.1)) in
      let q : AreParts entry code [] [] room = rw (no_fixed, no_area) at p in
      subst GoesOn (sym (ap (λ (l : List ℕ). text_of entry code l area ++ rest) no_fixed ∙ ap (λ (l : List ℕ). text_of entry code [] l ++ rest) no_area))
      (code_comes entry code room rest q h.0 x.1)
  comes (inr (inl x)) =
      let h = flags.fixed_next.0 x.0 in
      let no_area : area ≡ [] = nil_from_length area h.1 in
      let q : AreParts entry code fixed [] room = rw no_area at p in
      subst GoesOn (sym (ap (λ (l : List ℕ). text_of entry code fixed l ++ rest) no_area))
      (fixed_comes entry code fixed room rest q (omega (arith, h.0, h.1)) x.1)
  comes (inr (inr x)) = area_comes entry code fixed area room rest p (flags.area_next.0 x.0) x.1

  module _ (room_is : entry < length code → room ≡ max_bytes) where
    -- no continuation of a cut line that can't come next
    cut_stops : IsFree 10 rest → (LineBegins c f a rest → ⊥) → rest ≢ [] → GoesOn (text_of entry code fixed area ++ rest) → ⊥
    unfolding LineBegins
    cut_stops free none some g =
        let x = rest ++ g.2.0 in
        let whole : text_of entry code fixed area ++ x ≡ asm_text g.0 = sym (append_assoc (text_of entry code fixed area) rest g.2.0) ∙ sym g.2.1 in
        some (front_none rest g.2.0 (stuck entry code fixed area room x p room_is (code_stops x refl) (fixed_stops x refl) (area_stops x refl) g.0 g.1 whole))
      where
        front_none : (s t : List ℕ) → s ++ t ≡ [] → s ≡ []
        front_none [] t e = refl
        front_none (b ∷ s) t e = absurd (cc (e))

        code_stops : (x : List ℕ) → x ≡ rest ++ g.2.0 → fixed ≡ [] → area ≡ [] → (length code ≡ max_words) ⊎ NoCode x
        code_stops x e nf na = elim (cases_lt (length code) max_words) [
          | inl lt ↦ inr (rw e (cut_no_code rest g.2.0 free (λ b. none (inl (flags.code_next.1 (lt, omega (arith, ap length nf, ap length na)), b)))))
          | inr ge ↦ (let few = p.few in inl (omega (arith, ge, few)))
        ]

        fixed_stops : (x : List ℕ) → x ≡ rest ++ g.2.0 → area ≡ [] → (room < length fixed + 8) ⊎ NoRow fixed_word x
        fixed_stops x e na = elim (cases_lt room (length fixed + 8)) [
          | inl lt ↦ inl lt
          | inr ge ↦ (let empty : length area ≡ 0 = ap length na in
              inr (rw e (cut_no_row fixed_word rest g.2.0 fixed_free free (λ b. none (inr (inl (flags.fixed_next.1 (omega (arith, ge, empty), empty), b)))))))
        ]

        area_stops : (x : List ℕ) → x ≡ rest ++ g.2.0 → (room - length fixed < length area + 8) ⊎ NoRow data_word x
        area_stops x e = elim (cases_lt (room - length fixed) (length area + 8)) [
          | inl lt ↦ inl lt
          | inr ge ↦ inr (rw e (cut_no_row data_word rest g.2.0 data_free free (λ b. none (inr (inr (flags.area_next.1 (omega (arith, ge)), b))))))
        ]

    -- no continuation of a whole line after which the reader stopped
    line_stops : (t more : List ℕ) → IsFree 10 t → rest ≡ line t ++ more
        → (fixed ≡ [] → area ≡ [] → (length code ≡ max_words) ⊎ NoCode rest)
        → (area ≡ [] → (room < length fixed + 8) ⊎ NoRow fixed_word rest)
        → (room - length fixed < length area + 8) ⊎ NoRow data_word rest
        → GoesOn (text_of entry code fixed area ++ line t) → ⊥
    line_stops t more free e code_stops fixed_stops area_stops g =
        let x = line t ++ g.2.0 in
        let whole : text_of entry code fixed area ++ x ≡ asm_text g.0 = sym (append_assoc (text_of entry code fixed area) (line t) g.2.0) ∙ sym g.2.1 in
        some t (stuck entry code fixed area room x p room_is (λ nf na. code_moves (code_stops nf na)) (λ na. fixed_moves (fixed_stops na)) (area_moves area_stops) g.0 g.1 whole)
      where
        some : (s : List ℕ) → line s ++ g.2.0 ≡ [] → ⊥
        some [] e = cc (e)
        some (b ∷ s) e = cc (e)

        code_moves : (length code ≡ max_words) ⊎ NoCode rest → (length code ≡ max_words) ⊎ NoCode (line t ++ g.2.0)
        code_moves (inl full) = inl full
        code_moves (inr none) = inr (line_no_code t more g.2.0 free (subst NoCode e none))

        fixed_moves : (room < length fixed + 8) ⊎ NoRow fixed_word rest → (room < length fixed + 8) ⊎ NoRow fixed_word (line t ++ g.2.0)
        fixed_moves (inl full) = inl full
        fixed_moves (inr none) = inr (line_no_row fixed_word t more g.2.0 fixed_free free (subst (NoRow fixed_word) e none))

        area_moves : (room - length fixed < length area + 8) ⊎ NoRow data_word rest → (room - length fixed < length area + 8) ⊎ NoRow data_word (line t ++ g.2.0)
        area_moves (inl full) = inl full
        area_moves (inr none) = inr (line_no_row data_word t more g.2.0 data_free free (subst (NoRow data_word) e none))

pub lined_not_free : (text t rest : List ℕ) → IsFree 10 t → text ≡ line t ++ rest → IsFree 10 text → ⊥
lined_not_free text t rest f e g = no_line text t rest g f e

pub first_begins : (c f a : Bool) (cut : List ℕ) → IsTrue c × CodeBegins cut → LineBegins c f a cut
unfolding LineBegins
first_begins c f a cut x = inl x

pub second_begins : (c f a : Bool) (cut : List ℕ) → IsTrue f × DigitsBegin fixed_word 16 cut → LineBegins c f a cut
unfolding LineBegins
second_begins c f a cut x = inr (inl x)

pub third_begins : (c f a : Bool) (cut : List ℕ) (r : Bool) → (IsTrue c × CodeBegins cut → ⊥) → (IsTrue f × DigitsBegin fixed_word 16 cut → ⊥) → IsTrue r ↔ (IsTrue a × DigitsBegin data_word 16 cut)
    → IsTrue r ↔ LineBegins c f a cut
unfolding LineBegins
third_begins c f a cut r first second i = (λ t. inr (inr (i.0 t)), λ b. back b)
  where
    back : (IsTrue c × CodeBegins cut) ⊎ ((IsTrue f × DigitsBegin fixed_word 16 cut) ⊎ (IsTrue a × DigitsBegin data_word 16 cut)) → IsTrue r
    back (inl x) = absurd (first x)
    back (inr (inl x)) = absurd (second x)
    back (inr (inr x)) = i.1 x

-- what a reader that stopped before `rest` answers
abbrev pub Told : Bool → Bool → Bool → List ℕ → ℕ → ℕ → Type 0
Told c f a rest end n =
    (IsFree 10 rest × LineBegins c f a rest × (n ≡ end)) ⊎ ((IsFree 10 rest → LineBegins c f a rest → ⊥) × (n ≡ end - length rest))

pub place_after_parts : (entry : ℕ) (code fixed area b : List ℕ) (room : ℕ) (rest : List ℕ) (c f a : Bool) (end n : ℕ)
    → Read entry code fixed area b room rest → AreParts entry code fixed area room → AreNext code fixed area room c f a → end ≡ length (entry_line entry ++ b) → Told c f a rest end n
    → IsFaultAt n (entry_line entry ++ b)
place_after_parts entry code fixed area b room rest c f a end n r p flags e told =
    subst (IsFaultAt n) (sym whole) (by rest refl told)
  where
    whole : entry_line entry ++ b ≡ text_of entry code fixed area ++ rest
    whole =
        ap (λ (l : List ℕ). entry_line entry ++ l) (r.code_lines ∙ ap (λ (l : List ℕ). flat_map code_line code ++ l) (r.fixed_lines ∙ ap (λ (l : List ℕ). row_lines fixed_word fixed ++ l) r.area_lines))
        ∙ behind_four (entry_line entry) (flat_map code_line code) (row_lines fixed_word fixed) (row_lines data_word area) rest

    long : end ≡ length (text_of entry code fixed area ++ rest)
    long = e ∙ ap length whole

    after_fixed : area ≡ [] → r.after_fixed ≡ rest
    after_fixed na = r.area_lines ∙ ap (λ (l : List ℕ). row_lines data_word l ++ rest) na ∙ ap (λ (l : List ℕ). l ++ rest) (no_rows data_word)

    after_code : fixed ≡ [] → area ≡ [] → r.after_code ≡ rest
    after_code nf na =
        r.fixed_lines ∙ ap (λ (l : List ℕ). row_lines fixed_word l ++ r.after_fixed) nf ∙ ap (λ (l : List ℕ). l ++ r.after_fixed) (no_rows fixed_word) ∙ after_fixed na

    code_stops : fixed ≡ [] → area ≡ [] → (length code ≡ max_words) ⊎ NoCode rest
    code_stops nf na = subst (λ (l : List ℕ). (length code ≡ max_words) ⊎ NoCode l) (after_code nf na) r.code_stops

    fixed_stops : area ≡ [] → (room < length fixed + 8) ⊎ NoRow fixed_word rest
    fixed_stops na = subst (λ (l : List ℕ). (room < length fixed + 8) ⊎ NoRow fixed_word l) (after_fixed na) r.fixed_stops

    bad : n ≡ length (text_of entry code fixed area) → (GoesOn (text_of entry code fixed area ++ first_line rest) → ⊥) → IsFaultAt n (text_of entry code fixed area ++ rest)
    bad at stops = inr (record {
      before = text_of entry code fixed area;
      rest = rest;
      parts = refl;
      at = at;
      lines = parts_are_lines entry code fixed area;
      goes_on = parts_go_on entry code fixed area room p;
      stops = stops;
    })

    starts : n ≡ end - length rest → n ≡ length (text_of entry code fixed area)
    starts s = omega (arith, s, long, length-append (text_of entry code fixed area) rest)

    by : (s : List ℕ) → rest ≡ s → (IsFree 10 rest × LineBegins c f a rest × (n ≡ end)) ⊎ ((IsFree 10 rest → LineBegins c f a rest → ⊥) × (n ≡ end - length rest)) → IsFaultAt n (text_of entry code fixed area ++ rest)
    by s same (inl t) = inl (t.2 ∙ long, comes entry code fixed area room p c f a flags rest t.1)
    by [] same (inr t) =
        let none : length rest ≡ 0 = ap length same in
        inl (omega (arith, t.1, none, long), subst GoesOn (sym (ap (λ (l : List ℕ). text_of entry code fixed area ++ l) same ∙ append-nil (text_of entry code fixed area))) (parts_go_on entry code fixed area room p))
    by (x ∷ s) same (inr t) = elim (lined rest) [
      | inl free ↦ bad (starts t.1) (λ g. cut_stops entry code fixed area room p c f a flags rest r.room_is free (t.0 free) (λ h. cc (same, h))
          (subst (λ (l : List ℕ). GoesOn (text_of entry code fixed area ++ l)) (first_free rest free) g))
      | inr l ↦ bad (starts t.1) (λ g. line_stops entry code fixed area room p c f a flags rest r.room_is l.0 l.1 l.2 l.3 code_stops fixed_stops r.area_stops
          (subst (λ (k : List ℕ). GoesOn (text_of entry code fixed area ++ k)) (first_is rest l.0 l.1 l.2 l.3) g))
    ]

-- ---- as the reader has them

pub parts_are : (entry : ℕ) (code fixed area : List ℕ) (room words size count : ℕ) → words ≡ length code → size ≡ length fixed → count ≡ length area
    → entry < max_words → AreWords code → words ≤ max_words → AreBytes fixed → AreBytes area → size % 8 ≡ 0 → count % 8 ≡ 0 → size ≤ room → count ≤ room - size
    → room ≤ max_bytes → (0 < room → entry < length code) → AreParts entry code fixed area room
parts_are entry code fixed area room words size count w s n small are few fixed_bytes area_bytes fixed_whole area_whole fixed_few area_few bound entered =
    record {
      small = small;
      words = are;
      few = rw w at few;
      fixed_bytes = fixed_bytes;
      area_bytes = area_bytes;
      fixed_whole = rw s at fixed_whole;
      area_whole = rw n at area_whole;
      within = omega (arith, s, n, fixed_few, area_few);
      bound = bound;
      entered = entered;
    }

pub next_are : (code fixed area fixed_now area_now : List ℕ) (room words : ℕ) (c f a : Bool) → words ≡ length code → fixed_now ≡ fixed → area_now ≡ area
    → IsTrue c ↔ ((words < max_words) × (length fixed_now + length area_now ≡ 0))
    → IsTrue f ↔ ((length fixed_now + length area_now + 8 ≤ room) × (length area_now ≡ 0))
    → IsTrue a ↔ (length fixed_now + length area_now + 8 ≤ room)
    → AreNext code fixed area room c f a
next_are code fixed area fixed_now area_now room words c f a w e g code_next fixed_next area_next = record {
  code_next = rw (w, e, g) at code_next;
  fixed_next = rw (e, g) at fixed_next;
  area_next = rw (e, g) at area_next;
}
