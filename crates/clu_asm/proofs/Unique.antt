-- A text is that of one image: its lines are read in one way.

use Rattle.std.proofs.Common.{◌≡◌, ℕ, zero, suc, ◌+◌, ◌-◌, ◌*◌, ◌/◌, ◌%◌, ◌^◌, ◌<◌, ◌≤◌, ◌≢◌, ◌⊎◌, List, [], ◌∷◌, ◌++◌, length, codes, decimal, flat_map, take, drop, Option, Some, None, Ok, refl, sym, ap, ◌∙◌, arith, inl, inr, append_assoc, append-nil, length-append, length-take, length-drop, get_or}
use Rattle.std.specs.Int.{w32, to_be_bytes, from_be_bytes}
use Rattle.std.proofs.lemmas.Nat.{from_be_bytes-to_be_bytes_4}
use Rattle.std.proofs.lemmas.Fmt.{decimal_injective}
use Rattle.std.proofs.lemmas.List.{take-append-drop, append_cancel_left, nil_from_length}
use Rattle.std.proofs.lemmas.List.Elements.{All-take, All-drop}
use Rattle.hex.specs.Hex.{encode_lower}
use Rattle.rv_isa.specs.declared.instr.Instr.{Instr}
use Rattle.rv_isa.specs.Encoded.{encoded}
use Rattle.rv_isa.specs.Image.{Contents, contents, IsImage, AreWords, AreBytes, max_words, max_bytes}
use Rattle.clu_asm.specs.Places.{place}
use Rattle.clu_asm.specs.Mnemonics.{op_name, name_of}
use Rattle.clu_asm.specs.Candidates.{guessed, named}
use Rattle.clu_asm.specs.Lines.{NoCode, NoRow}
use Rattle.clu_asm.specs.AssemblyText.{word_text, code_text, line, code_line, entry_line, row_line, row_lines, some_row_lines, fixed_word, data_word, asm_text}
use Rattle.clu_asm.proofs.PlaceLemmas.{free_nil}
use Rattle.clu_asm.proofs.RowLemmas.{first_of, none_of}
use Rattle.clu_asm.proofs.GuessLemmas.{instr_again, word_unread, code_cases}
use Rattle.clu_asm.proofs.HexTexts.{sized_again, word_bytes}
use Rattle.clu_asm.proofs.LineLemmas.{cancel, no_line, code_free, entry_free, row_free, row_same, fixed_free, data_free}

-- ---- code words

-- words with the same text are the same
code_same : (v w : ℕ) → v < 2 ^ 32 → w < 2 ^ 32 → code_text v ≡ code_text w → v ≡ w
code_same v w vl wl e = elim (code_cases v vl) [
  | inl a ↦ elim (code_cases w wl) [
    | inl b ↦
        let one : guessed (code_text v) ≡ Some a.0 = ap guessed a.2 ∙ instr_again a.0 a.1.instr in
        let two : guessed (code_text w) ≡ Some b.0 = ap guessed b.2 ∙ instr_again b.0 b.1.instr in
        let read : guessed (code_text v) ≡ guessed (code_text w) = ap guessed e in
        let same : a.0 ≡ b.0 = cc (one, two, read) in
        sym a.1.word ∙ ap encoded same ∙ b.1.word
    | inr b ↦
        let one : guessed (code_text v) ≡ Some a.0 = ap guessed a.2 ∙ instr_again a.0 a.1.instr in
        let two : guessed (code_text v) ≡ None = ap guessed (e ∙ b.1) ∙ word_unread (encode_lower (to_be_bytes w32 w)) in
        absurd (cc (one, two))
  ]
  | inr a ↦ elim (code_cases w wl) [
    | inl b ↦
        let one : guessed (code_text w) ≡ Some b.0 = ap guessed b.2 ∙ instr_again b.0 b.1.instr in
        let two : guessed (code_text w) ≡ None = ap guessed (sym e ∙ a.1) ∙ word_unread (encode_lower (to_be_bytes w32 v)) in
        absurd (cc (one, two))
    | inr b ↦
        let digits : encode_lower (to_be_bytes w32 v) ≡ encode_lower (to_be_bytes w32 w) = append_cancel_left (codes "word ") (encode_lower (to_be_bytes w32 v)) (encode_lower (to_be_bytes w32 w)) (sym a.1 ∙ e ∙ b.1) in
        let one = sized_again 4 (to_be_bytes w32 v) refl (word_bytes v) in
        let two = sized_again 4 (to_be_bytes w32 w) refl (word_bytes w) in
        let bytes : to_be_bytes w32 v ≡ to_be_bytes w32 w = cc (one, two, digits) in
        sym (from_be_bytes-to_be_bytes_4 v vl) ∙ ap (from_be_bytes w32) bytes ∙ from_be_bytes-to_be_bytes_4 w wl
  ]
]

first_word : (w : ℕ) (c : List ℕ) → AreWords (w ∷ c) → w < 2 ^ 32
first_word w c h = h 0 0 (omega arith)

other_words : (w : ℕ) (c : List ℕ) → AreWords (w ∷ c) → AreWords c
other_words w c h i d l = h (suc i) d (omega (arith, l))

codes_same : (c d r s : List ℕ) → AreWords c → AreWords d → (length d ≤ length c) ⊎ NoCode r → NoCode s → flat_map code_line c ++ r ≡ flat_map code_line d ++ s → (c ≡ d) × (r ≡ s)
codes_same [] [] r s h g stop end e = (refl, e)
codes_same [] (w ∷ d) r s h g (inl few) end e = absurd (omega (arith, few))
codes_same [] (w ∷ d) r s h g (inr none) end e = absurd (none w (flat_map code_line d ++ s) (first_word w d g) (e ∙ append_assoc (code_line w) (flat_map code_line d) s))
codes_same (v ∷ c) [] r s h g stop end e = absurd (end v (flat_map code_line c ++ r) (first_word v c h) (sym e ∙ append_assoc (code_line v) (flat_map code_line c) r))
codes_same (v ∷ c) (w ∷ d) r s h g stop end e =
    let regrouped : code_line v ++ (flat_map code_line c ++ r) ≡ code_line w ++ (flat_map code_line d ++ s) = sym (append_assoc (code_line v) (flat_map code_line c) r) ∙ e ∙ append_assoc (code_line w) (flat_map code_line d) s in
    let first = cancel (code_text v) (code_text w) (flat_map code_line c ++ r) (flat_map code_line d ++ s) (code_free v (first_word v c h)) (code_free w (first_word w d g)) regrouped in
    let others = codes_same c d r s (other_words v c h) (other_words w d g) (fewer stop) end first.1 in
    let head : v ≡ w = code_same v w (first_word v c h) (first_word w d g) first.0 in
    (cc (head, others.0), others.1)
  where
    fewer : (length (w ∷ d) ≤ length (v ∷ c)) ⊎ NoCode r → (length d ≤ length c) ⊎ NoCode r
    fewer (inl few) = inl (omega (arith, few))
    fewer (inr none) = inr none

-- ---- rows

pub bytes_take : (xs : List ℕ) → 8 ≤ length xs → AreBytes xs → AreBytes (take 8 xs)
bytes_take xs long h = All-take (λ n. n < 2 ^ 8) 8 xs h

bytes_drop : (xs : List ℕ) → AreBytes xs → AreBytes (drop 8 xs)
bytes_drop xs h = All-drop (λ n. n < 2 ^ 8) 8 xs h

taken : (xs : List ℕ) → 8 ≤ length xs → length (take 8 xs) ≡ 8
taken xs long = omega (arith, length-take 8 xs, long)

rows_same : (n k : ℕ) (word xs ys r s : List ℕ) → place 10 word ≡ length word → length xs ≡ 8 * n → length ys ≡ 8 * k → AreBytes xs → AreBytes ys → (k ≤ n) ⊎ NoRow word r → NoRow word s
    → some_row_lines n word xs ++ r ≡ some_row_lines k word ys ++ s → (xs ≡ ys) × (r ≡ s)
rows_same zero zero word xs ys r s f a b h g stop end e =
    let one : xs ≡ [] = nil_from_length xs (omega (arith, a)) in
    let two : ys ≡ [] = nil_from_length ys (omega (arith, b)) in
    (one ∙ sym two, sym (ap (λ (l : List ℕ). l ++ r) (none_of word xs)) ∙ e ∙ ap (λ (l : List ℕ). l ++ s) (none_of word ys))
rows_same zero (suc k) word xs ys r s f a b h g (inl few) end e = absurd (omega (arith, few))
rows_same zero (suc k) word xs ys r s f a b h g (inr none) end e =
    let long : 8 ≤ length ys = omega (arith, b) in
    let same : r ≡ row_line word (take 8 ys) ++ (some_row_lines k word (drop 8 ys) ++ s) =
    sym (ap (λ (l : List ℕ). l ++ r) (none_of word xs)) ∙ e ∙ ap (λ (l : List ℕ). l ++ s) (first_of k word ys) ∙ append_assoc (row_line word (take 8 ys)) (some_row_lines k word (drop 8 ys)) s in
    absurd (none (take 8 ys) (some_row_lines k word (drop 8 ys) ++ s) (taken ys long) (bytes_take ys long g) same)
rows_same (suc n) zero word xs ys r s f a b h g stop end e =
    let long : 8 ≤ length xs = omega (arith, a) in
    let same : s ≡ row_line word (take 8 xs) ++ (some_row_lines n word (drop 8 xs) ++ r) =
    sym (ap (λ (l : List ℕ). l ++ s) (none_of word ys)) ∙ sym e ∙ ap (λ (l : List ℕ). l ++ r) (first_of n word xs) ∙ append_assoc (row_line word (take 8 xs)) (some_row_lines n word (drop 8 xs)) r in
    absurd (end (take 8 xs) (some_row_lines n word (drop 8 xs) ++ r) (taken xs long) (bytes_take xs long h) same)
rows_same (suc n) (suc k) word xs ys r s f a b h g stop end e =
    let long : 8 ≤ length xs = omega (arith, a) in
    let wide : 8 ≤ length ys = omega (arith, b) in
    let regrouped : row_line word (take 8 xs) ++ (some_row_lines n word (drop 8 xs) ++ r) ≡ row_line word (take 8 ys) ++ (some_row_lines k word (drop 8 ys) ++ s) =
    sym (append_assoc (row_line word (take 8 xs)) (some_row_lines n word (drop 8 xs)) r) ∙ sym (ap (λ (l : List ℕ). l ++ r) (first_of n word xs)) ∙ e
    ∙ ap (λ (l : List ℕ). l ++ s) (first_of k word ys) ∙ append_assoc (row_line word (take 8 ys)) (some_row_lines k word (drop 8 ys)) s in
    let first = cancel (word ++ encode_lower (take 8 xs)) (word ++ encode_lower (take 8 ys)) (some_row_lines n word (drop 8 xs) ++ r) (some_row_lines k word (drop 8 ys) ++ s)
    (row_free word (take 8 xs) f (bytes_take xs long h)) (row_free word (take 8 ys) f (bytes_take ys wide g)) regrouped in
    let digits = append_cancel_left word (encode_lower (take 8 xs)) (encode_lower (take 8 ys)) first.0 in
    let head : take 8 xs ≡ take 8 ys = row_same word (take 8 xs) (take 8 ys) (taken xs long) (taken ys wide) (bytes_take xs long h) (bytes_take ys wide g) digits in
    let others = rows_same n k word (drop 8 xs) (drop 8 ys) r s f (omega (arith, length-drop 8 xs, a)) (omega (arith, length-drop 8 ys, b)) (bytes_drop xs h) (bytes_drop ys g) (fewer stop) end first.1 in
    (sym (take-append-drop 8 xs) ∙ ap (λ (l : List ℕ). l ++ drop 8 xs) head ∙ ap (λ (l : List ℕ). take 8 ys ++ l) others.0 ∙ take-append-drop 8 ys, others.1)
  where
    fewer : (suc k ≤ suc n) ⊎ NoRow word r → (k ≤ n) ⊎ NoRow word r
    fewer (inl few) = inl (omega (arith, few))
    fewer (inr none) = inr none

-- ---- where the parts of a text end

pub data_first : (n : ℕ) (area : List ℕ) → (some_row_lines n data_word area ≡ []) ⊎ ((rest : List ℕ) × (some_row_lines n data_word area ≡ 100 ∷ rest))
data_first zero area = inl (none_of data_word area)
data_first (suc n) area = inr (_, first_of n data_word area)

-- after the fixed part comes the data, if any
fixed_ends : (area : List ℕ) → NoRow fixed_word (row_lines data_word area)
fixed_ends area row x eight are e = elim (data_first (length area / 8) area) [
  | inl none ↦ absurd (cc (e, none))
  | inr first ↦ (let h : ◌≡◌ {A = ℕ} 100 102 = ap (λ (l : List ℕ). get_or l 0 0) (sym first.1 ∙ e) in absurd (omega (arith, h)))
]

data_ends : NoRow data_word []
data_ends row x eight are e = absurd (cc (e))

pub fixed_unread : (digits : List ℕ) → guessed (codes "fixed " ++ digits) ≡ None
unfolding guessed named place name_of op_name
fixed_unread digits = refl

pub data_unread : (digits : List ℕ) → guessed (codes "data " ++ digits) ≡ None
unfolding guessed named place name_of op_name
data_unread digits = refl

-- no code word has a text that is read as no instruction and begins with another letter than `word`
no_code : (text : List ℕ) (b : ℕ) (rest : List ℕ) → guessed text ≡ None → text ≡ b ∷ rest → b ≢ 119 → (w : ℕ) → w < 2 ^ 32 → code_text w ≢ text
no_code text b rest unread first other w lt e = elim (code_cases w lt) [
  | inl of ↦
      let read : guessed text ≡ Some of.0 = ap guessed (sym e ∙ of.2) ∙ instr_again of.0 of.1.instr in
      absurd (cc (read, unread))
  | inr it ↦
      let same : word_text w ≡ b ∷ rest = sym it.1 ∙ e ∙ first in
      let letter : 119 ≡ b = cc (same) in
      absurd (other (sym letter))
]

pub rows_no_code : (word : List ℕ) (b : ℕ) (more : List ℕ) → word ≡ b ∷ more → b ≢ 119 → place 10 word ≡ length word → ((digits : List ℕ) → guessed (word ++ digits) ≡ None)
    → (row y : List ℕ) → AreBytes row → NoCode (row_line word row ++ y)
rows_no_code word b more begins other f unread row y are w x lt e =
    let same = cancel (word ++ encode_lower row) (code_text w) y x (row_free word row f are) (code_free w lt) e in
    let first : word ++ encode_lower row ≡ b ∷ (more ++ encode_lower row) = ap (λ (l : List ℕ). l ++ encode_lower row) begins in
    no_code (word ++ encode_lower row) b (more ++ encode_lower row) (unread (encode_lower row)) first other w lt (sym same.0)

no_code_nil : NoCode []
no_code_nil w x lt e = no_line [] (code_text w) x (free_nil 10) (code_free w lt) e

data_no_code : (n : ℕ) (area : List ℕ) → length area ≡ 8 * n → AreBytes area → NoCode (some_row_lines n data_word area)
data_no_code zero area e are = rw (none_of data_word area) no_code_nil
data_no_code (suc n) area e are =
    let long : 8 ≤ length area = omega (arith, e) in
    rw (first_of n data_word area) (rows_no_code data_word 100 (codes "ata ") refl (λ h. absurd (omega (arith, h))) data_free data_unread (take 8 area) (some_row_lines n data_word (drop 8 area)) (bytes_take area long are))

-- after the code come rows, if any
codes_end : (n k : ℕ) (fixed area : List ℕ) → length fixed ≡ 8 * n → length area ≡ 8 * k → AreBytes fixed → AreBytes area → NoCode (some_row_lines n fixed_word fixed ++ some_row_lines k data_word area)
codes_end zero k fixed area e f are of = rw (none_of fixed_word fixed) (data_no_code k area f of)
codes_end (suc n) k fixed area e f are of =
    let long : 8 ≤ length fixed = omega (arith, e) in
    rw (first_of n fixed_word fixed, append_assoc)
    (rows_no_code fixed_word 102 (codes "ixed ") refl (λ h. absurd (omega (arith, h))) fixed_free fixed_unread (take 8 fixed) (some_row_lines n fixed_word (drop 8 fixed) ++ some_row_lines k data_word area) (bytes_take fixed long are))

pub eights : (xs : List ℕ) → length xs % 8 ≡ 0 → length xs ≡ 8 * (length xs / 8)
eights xs e = omega (arith, e)

pub regroup_text : (a b c d : List ℕ) → a ++ b ++ c ++ d ≡ a ++ (b ++ (c ++ d))
regroup_text a b c d = simp append_assoc

-- what the lines of a text come to
pub record Read (entry : ℕ) (code fixed area b : List ℕ) (room : ℕ) (last : List ℕ) : Type 0 where
  pub small : entry < max_words
  pub words : AreWords code
  pub fixed_bytes : AreBytes fixed
  pub area_bytes : AreBytes area
  pub after_code : List ℕ
  pub after_fixed : List ℕ
  pub code_lines : b ≡ flat_map code_line code ++ after_code
  pub code_stops : (length code ≡ max_words) ⊎ NoCode after_code
  pub room_is : entry < length code → room ≡ max_bytes
  pub fixed_lines : after_code ≡ row_lines fixed_word fixed ++ after_fixed
  pub fixed_whole : length fixed % 8 ≡ 0
  pub fixed_stops : (room < length fixed + 8) ⊎ NoRow fixed_word after_fixed
  pub area_lines : after_fixed ≡ row_lines data_word area ++ last
  pub area_whole : length area % 8 ≡ 0
  pub area_stops : (room - length fixed < length area + 8) ⊎ NoRow data_word last

pub image_same : (entry : ℕ) (code fixed area b : List ℕ) (room : ℕ) (last : List ℕ) (i : Contents) → Read entry code fixed area b room last → IsImage i → entry_line entry ++ b ≡ asm_text i
    → (contents entry code fixed area ≡ i) × (last ≡ []) × (entry < length code)
image_same entry code fixed area b room last i r is e =
    let whole : entry_line entry ++ b ≡ entry_line i.entry ++ (flat_map code_line i.code ++ (row_lines fixed_word i.fixed ++ row_lines data_word i.area)) =
    e ∙ regroup_text (entry_line i.entry) (flat_map code_line i.code) (row_lines fixed_word i.fixed) (row_lines data_word i.area) in
    let first = cancel (codes "entry " ++ decimal entry) (codes "entry " ++ decimal i.entry) b _ (entry_free entry (omega (arith, r.small))) (entry_free i.entry (omega (arith, is.entry, is.code))) whole in
    let entries : entry ≡ i.entry = decimal_injective entry i.entry (omega (arith, r.small)) (omega (arith, is.entry, is.code)) (append_cancel_left (codes "entry ") (decimal entry) (decimal i.entry) first.0) in
    let code_part = codes_same code i.code r.after_code (row_lines fixed_word i.fixed ++ row_lines data_word i.area) r.words is.code_words (code_few r.code_stops)
    (codes_end (length i.fixed / 8) (length i.area / 8) i.fixed i.area (eights i.fixed is.fixed) (eights i.area is.area) is.fixed_bytes is.area_bytes) (sym r.code_lines ∙ first.1) in
    let entered : entry < length code = rw (entries, code_part.0) is.entry in
    let all : room ≡ max_bytes = r.room_is entered in
    let fixed_part = rows_same (length fixed / 8) (length i.fixed / 8) fixed_word fixed i.fixed r.after_fixed (row_lines data_word i.area) fixed_free (eights fixed r.fixed_whole) (eights i.fixed is.fixed) r.fixed_bytes is.fixed_bytes
    (fixed_few all r.fixed_stops) (fixed_ends i.area) (sym r.fixed_lines ∙ code_part.1) in
    let area_part = rows_same (length area / 8) (length i.area / 8) data_word area i.area last [] data_free (eights area r.area_whole) (eights i.area is.area) r.area_bytes is.area_bytes
    (area_few all fixed_part.0 r.area_stops) data_ends (sym r.area_lines ∙ fixed_part.1 ∙ sym (append-nil (row_lines data_word i.area))) in
    (joined i entries code_part.0 fixed_part.0 area_part.0, area_part.1, entered)
  where
    code_few : (length code ≡ max_words) ⊎ NoCode r.after_code → (length i.code ≤ length code) ⊎ NoCode r.after_code
    code_few (inl full) = inl (omega (arith, full, is.code))
    code_few (inr none) = inr none

    fixed_few : room ≡ max_bytes → (room < length fixed + 8) ⊎ NoRow fixed_word r.after_fixed → (length i.fixed / 8 ≤ length fixed / 8) ⊎ NoRow fixed_word r.after_fixed
    fixed_few all (inl full) = inl (omega (arith, all, full, is.room, is.fixed, r.fixed_whole))
    fixed_few all (inr none) = inr none

    area_few : room ≡ max_bytes → fixed ≡ i.fixed → (room - length fixed < length area + 8) ⊎ NoRow data_word last → (length i.area / 8 ≤ length area / 8) ⊎ NoRow data_word last
    area_few all same (inl full) = let lengths = ap length same in inl (omega (arith, all, full, lengths, is.room, is.area, r.area_whole))
    area_few all same (inr none) = inr none

    joined : (j : Contents) → entry ≡ j.entry → code ≡ j.code → fixed ≡ j.fixed → area ≡ j.area → contents entry code fixed area ≡ j
    joined j a b c d = rw (a, b, c, d) refl

-- the first line of a text
pub asm_first : (b text rest : List ℕ) (i : Contents) → IsImage i → b ≡ line text ++ rest → place 10 text ≡ length text → b ≡ asm_text i → text ≡ codes "entry " ++ decimal i.entry
asm_first b text rest i is e f g =
    let whole : line text ++ rest ≡ entry_line i.entry ++ (flat_map code_line i.code ++ (row_lines fixed_word i.fixed ++ row_lines data_word i.area)) =
    sym e ∙ g ∙ regroup_text (entry_line i.entry) (flat_map code_line i.code) (row_lines fixed_word i.fixed) (row_lines data_word i.area) in
    (cancel text (codes "entry " ++ decimal i.entry) rest _ f (entry_free i.entry (omega (arith, is.entry, is.code))) whole).0

-- a text has a line
pub asm_lines : (b : List ℕ) (i : Contents) → IsImage i → place 10 b ≡ length b → b ≡ asm_text i → ⊥
asm_lines b i is f g =
    no_line b (codes "entry " ++ decimal i.entry) _ f (entry_free i.entry (omega (arith, is.entry, is.code)))
    (g ∙ regroup_text (entry_line i.entry) (flat_map code_line i.code) (row_lines fixed_word i.fixed) (row_lines data_word i.area))

pub small_entry : (i : Contents) → IsImage i → i.entry < max_words
small_entry i is = omega (arith, is.entry, is.code)

-- what was read, as its parts were
pub read_is : (entry : ℕ) (code fixed area b r1 r2 r3 : List ℕ) (room left words size count : ℕ)
    → words ≡ length code → size ≡ length fixed → count ≡ length area → left ≡ room - size → entry < max_words → AreWords code → AreBytes fixed → AreBytes area
    → b ≡ flat_map code_line code ++ r1 → (words ≡ max_words) ⊎ NoCode r1 → (entry < length code → room ≡ max_bytes)
    → r1 ≡ row_lines fixed_word fixed ++ r2 → size % 8 ≡ 0 → (room < size + 8) ⊎ NoRow fixed_word r2
    → r2 ≡ row_lines data_word area ++ r3 → count % 8 ≡ 0 → (left < count + 8) ⊎ NoRow data_word r3
    → Read entry code fixed area b room r3
read_is entry code fixed area b r1 r2 r3 room left words size count w s n l small are_words fixed_bytes area_bytes code_lines code_stops room_is fixed_lines fixed_whole fixed_stops area_lines area_whole area_stops =
    record {
      small = small;
      words = are_words;
      fixed_bytes = fixed_bytes;
      area_bytes = area_bytes;
      after_code = r1;
      after_fixed = r2;
      code_lines = code_lines;
      code_stops = rw w at code_stops;
      room_is = room_is;
      fixed_lines = fixed_lines;
      fixed_whole = rw s at fixed_whole;
      fixed_stops = rw s at fixed_stops;
      area_lines = area_lines;
      area_whole = rw n at area_whole;
      area_stops = rw (l, s, n) at area_stops;
    }
