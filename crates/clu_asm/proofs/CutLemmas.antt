-- Whether a cut line can go on: operand after operand, and by what stands first.

use Rattle.std.proofs.Common.{◌≡◌, ◌≢◌, ◌↔◌, ◌⊎◌, ℕ, zero, suc, ◌+◌, ◌-◌, ◌<◌, ◌≤◌, ◌^◌, ◌==◌, Bool, true, false, IsTrue, is_some, not, List, [], ◌∷◌, ◌++◌, length, take, drop, get_or, codes, decimal, cond, Option, Some, None, IfSome, MatchOption, refl, sym, ap, subst, ◌∙◌, arith, inl, inr, append_assoc}
use Rattle.std.specs.List.{find}
use Rattle.std.specs.Str.{bytes_eq}
use Rattle.std.proofs.lemmas.Bool.{false≢true, eqb-true}
use Rattle.rv_isa.specs.declared.instr.Instr.{Instr}
use Rattle.rv_isa.specs.Valid.{IsInstr}
use Rattle.rv_isa.specs.Encoded.{encoded}
use Rattle.rv_isa.specs.Decoded.{decoded}
use Rattle.rv_isa.proofs.InstrToWord.{decoded-encoded}
use Rattle.clu_asm.specs.declared.mnemonics.Mnemonic.{Mnemonic}
use Rattle.clu_asm.specs.declared.mnemonics.TheConstants.{MNEMONICS}
use Rattle.clu_asm.specs.declared.cut_lines.Kind.{Kind}
use Rattle.clu_asm.specs.declared.cut_lines.Kind.TheVariants as kind
use Rattle.clu_asm.specs.Mnemonics.{name_of, mnemonic_of, form_of}
use Rattle.clu_asm.specs.AssemblyText.{instr_text, word_text, code_text, operands}
use Rattle.clu_asm.specs.Places.{IsFront}
use Rattle.clu_asm.specs.Candidates.{named}
use Rattle.clu_asm.specs.CutLines.{count_of, number_text, operand_text, kinds_of, AreOperands, OperandsBegin, OperandBegins, NumberBegins, BeginsAt, InstrBeginsWith, OneBegins, InstrBegins, WordBegins, CodeBegins, DigitsBegin}
use Rattle.clu_asm.proofs.FrontLemmas.{front_all, front_nil, front_more, front_of, front_past, front_behind, front_cancel, front_split, yes, no, both, in_two}
use Rattle.clu_asm.proofs.WordLemmas.{small_word}
use Rattle.clu_asm.proofs.DigitLemmas.{digits_word, word_digits}
use Rattle.clu_asm.proofs.GuessLemmas.{named_again, code_cases}
use Rattle.clu_asm.proofs.OperandLemmas.{no_operands, nothing, operand_and, first_operand, some_operands, instr_operands, operands_instr}

-- ---- operands

-- no operands are due
begin_none : (mark : ℕ) (cut : List ℕ) → (cut ≡ []) ↔ OperandsBegin [] mark cut
unfolding OperandsBegin
begin_none mark cut = (
  λ e. ([], no_operands mark, ([], e_sym cut e)),
  λ b. empty_front cut b.0 (nothing mark b.0 b.1) b.2,
)
  where
    e_sym : (c : List ℕ) → c ≡ [] → [] ≡ c ++ []
    e_sym [] e = refl
    e_sym (x ∷ c) e = absurd (cc (e))

    empty_front : (c t : List ℕ) → t ≡ [] → IsFront c t → c ≡ []
    empty_front [] t e f = refl
    empty_front (x ∷ c) t e f = absurd (cc (e, f.1))

pub none_due : (mark : ℕ) (cut : List ℕ) → IsTrue (length cut == 0) ↔ OperandsBegin [] mark cut
none_due mark [] = (λ t. (begin_none mark []).0 refl, λ b. refl)
none_due mark (b ∷ cut) = (λ t. absurd (nonzero (length cut) t), λ o. absurd (cc ((begin_none mark (b ∷ cut)).1 o)))
  where
    nonzero : (n : ℕ) → IsTrue (suc n == 0) → ⊥
    nonzero n t = let e = eqb-true (suc n) 0 t in omega (arith, e)

-- operands are due, and nothing stands there yet
pub begin_empty : (k : Kind) (kinds : List Kind) (mark : ℕ) → OperandsBegin (k ∷ kinds) mark []
unfolding OperandsBegin
begin_empty k kinds mark = let some = some_operands (k ∷ kinds) mark in (some.0, some.1, front_nil some.0)

-- a first byte
pub begin_with : (k : Kind) (kinds : List Kind) (mark b : ℕ) (cut : List ℕ) → b ≡ mark → OperandBegins k kinds cut → OperandsBegin (k ∷ kinds) mark (b ∷ cut)
unfolding OperandsBegin OperandBegins
begin_with k kinds mark b cut e o =
    let text = mark ∷ (operand_text k o.0 ++ o.1) in
    (text, operand_and k kinds mark o.0 o.1 text o.2 o.3 refl, (o.4.0, ap (λ (t : List ℕ). mark ∷ t) o.4.1 ∙ ap (λ (x : ℕ). x ∷ (cut ++ o.4.0)) (sym e)))

pub begun_with : (k : Kind) (kinds : List Kind) (mark b : ℕ) (cut : List ℕ) → OperandsBegin (k ∷ kinds) mark (b ∷ cut) → (b ≡ mark) × OperandBegins k kinds cut
unfolding OperandsBegin OperandBegins
begun_with k kinds mark b cut o =
    let x = first_operand k kinds mark o.0 o.1 in
    let same : mark ∷ (operand_text k x.0 ++ x.1) ≡ b ∷ (cut ++ o.2.0) = sym x.4 ∙ o.2.1 in
    let head : mark ≡ b = cc (same) in
    let tail : operand_text k x.0 ++ x.1 ≡ cut ++ o.2.0 = cc (same) in
    (sym head, (x.0, x.1, x.2, x.3, (o.2.0, tail)))

pub operand_so : (k : Kind) (kinds : List Kind) (mark b : ℕ) (cut : List ℕ) (r : Bool) → b ≡ mark → IsTrue r ↔ OperandBegins k kinds cut → IsTrue r ↔ OperandsBegin (k ∷ kinds) mark (b ∷ cut)
operand_so k kinds mark b cut r e i = (λ t. begin_with k kinds mark b cut e (i.0 t), λ o. i.1 (begun_with k kinds mark b cut o).1)

-- a register, of which nothing stands there yet, and after its `x`
pub register_empty : (kinds : List Kind) → OperandBegins kind.Register kinds []
unfolding OperandBegins
register_empty kinds = let some = some_operands kinds 44 in (0, some.0, omega arith, some.1, front_nil (operand_text kind.Register 0 ++ some.0))

pub register_with : (kinds : List Kind) (b : ℕ) (cut : List ℕ) → b ≡ 120 → NumberBegins kind.Register kinds cut → OperandBegins kind.Register kinds (b ∷ cut)
unfolding OperandBegins NumberBegins
register_with kinds b cut e o =
    (o.0, o.1, o.2, o.3, (o.4.0, ap (λ (t : List ℕ). 120 ∷ t) o.4.1 ∙ ap (λ (x : ℕ). x ∷ (cut ++ o.4.0)) (sym e)))

pub register_begun : (kinds : List Kind) (b : ℕ) (cut : List ℕ) → OperandBegins kind.Register kinds (b ∷ cut) → (b ≡ 120) × NumberBegins kind.Register kinds cut
unfolding OperandBegins NumberBegins
register_begun kinds b cut o =
    let same : 120 ∷ (number_text kind.Register o.0 ++ o.1) ≡ b ∷ (cut ++ o.4.0) = o.4.1 in
    let head : 120 ≡ b = cc (same) in
    let tail : number_text kind.Register o.0 ++ o.1 ≡ cut ++ o.4.0 = cc (same) in
    (sym head, (o.0, o.1, o.2, o.3, (o.4.0, tail)))

pub register_so : (kinds : List Kind) (b : ℕ) (cut : List ℕ) (r : Bool) → b ≡ 120 → IsTrue r ↔ NumberBegins kind.Register kinds cut → IsTrue r ↔ OperandBegins kind.Register kinds (b ∷ cut)
register_so kinds b cut r e i = (λ t. register_with kinds b cut e (i.0 t), λ o. i.1 (register_begun kinds b cut o).1)

-- another operand is its number
pub number_is_operand : (k : Kind) (kinds : List Kind) (cut : List ℕ) → k ≢ kind.Register → NumberBegins k kinds cut ↔ OperandBegins k kinds cut
unfolding OperandBegins NumberBegins
number_is_operand kind.Register kinds cut n = absurd (n refl)
number_is_operand kind.Immediate kinds cut n = (λ o. o, λ o. o)
number_is_operand kind.Amount kinds cut n = (λ o. o, λ o. o)
number_is_operand kind.WordAmount kinds cut n = (λ o. o, λ o. o)
number_is_operand kind.Branch kinds cut n = (λ o. o, λ o. o)
number_is_operand kind.Jump kinds cut n = (λ o. o, λ o. o)
number_is_operand kind.Upper kinds cut n = (λ o. o, λ o. o)

-- ---- numbers

-- cut after the number
pub at_past : (k : Kind) (kinds : List Kind) (cut : List ℕ) (n : ℕ) (left : List ℕ) → cut ≡ number_text k n ++ left → OperandsBegin kinds 44 left ↔ BeginsAt k kinds cut n
unfolding BeginsAt OperandsBegin
at_past k kinds cut n left e = (
  λ o. (o.0, o.1, front_past cut (number_text k n) left o.0 e o.2),
  λ o. (o.0, o.1, front_cancel (number_text k n) left o.0 (o.2.0, o.2.1 ∙ ap (λ (t : List ℕ). t ++ o.2.0) e)),
)

-- cut within the number
pub at_within : (k : Kind) (kinds : List Kind) (cut : List ℕ) (n : ℕ) → ((left : List ℕ) → cut ≢ number_text k n ++ left) → IsFront cut (number_text k n) ↔ BeginsAt k kinds cut n
unfolding BeginsAt
at_within k kinds cut n none = (
  λ f. (let some = some_operands kinds 44 in (some.0, some.1, front_more cut (number_text k n) some.0 f)),
  λ o. by o.0 o.2,
)
  where
    by : (t : List ℕ) → IsFront cut (number_text k n ++ t) → IsFront cut (number_text k n)
    by t f = elim (front_split cut (number_text k n) t f) [
      | inl g ↦ g
      | inr g ↦ absurd (none g.0 g.1)
    ]

pub number_one : (k : Kind) (kinds : List Kind) (cut : List ℕ) (n : ℕ) → n < count_of k → BeginsAt k kinds cut n → NumberBegins k kinds cut
unfolding BeginsAt NumberBegins
number_one k kinds cut n lt o = (n, o.0, lt, o.1, o.2)

pub number_no : (k : Kind) (kinds : List Kind) (cut : List ℕ) → ((n : ℕ) → n < count_of k → BeginsAt k kinds cut n → ⊥) → NumberBegins k kinds cut → ⊥
unfolding BeginsAt NumberBegins
number_no k kinds cut none o = none o.0 o.2 (o.1, o.3, o.4)

-- ---- instructions

-- after a whole mnemonic
pub instr_past : (m : Mnemonic) (cut left : List ℕ) → cut ≡ name_of m ++ left → OperandsBegin (kinds_of (form_of m)) 32 left ↔ InstrBeginsWith m cut
unfolding OperandsBegin InstrBeginsWith
instr_past m cut left e = (
  λ o. (let x = operands_instr m o.0 o.1 in
      let text : instr_text x.0 ≡ name_of m ++ o.0 = ap (λ (n : Mnemonic). name_of n ++ operands x.0) x.2 ∙ ap (λ (t : List ℕ). name_of m ++ t) (sym x.3) in
      let f = front_past cut (name_of m) left o.0 e o.2 in
      (x.0, x.1, x.2, (f.0, text ∙ f.1))),
  λ i. (let are : AreOperands (kinds_of (form_of m)) 32 (operands i.0) = subst (λ (n : Mnemonic). AreOperands (kinds_of (form_of n)) 32 (operands i.0)) i.2 (instr_operands i.0 i.1) in
      let text : instr_text i.0 ≡ name_of m ++ operands i.0 = ap (λ (n : Mnemonic). name_of n ++ operands i.0) i.2 in
      let f : IsFront (name_of m ++ left) (name_of m ++ operands i.0) = (i.3.0, sym text ∙ i.3.1 ∙ ap (λ (t : List ℕ). t ++ i.3.0) e) in
      (operands i.0, are, front_cancel (name_of m) left (operands i.0) f)),
)

-- within a mnemonic
pub instr_within : (m : Mnemonic) (cut : List ℕ) → ((left : List ℕ) → cut ≢ name_of m ++ left) → IsFront cut (name_of m) ↔ InstrBeginsWith m cut
unfolding InstrBeginsWith
instr_within m cut none = (
  λ f. (let some = some_operands (kinds_of (form_of m)) 32 in
      let x = operands_instr m some.0 some.1 in
      let text : instr_text x.0 ≡ name_of m ++ some.0 = ap (λ (n : Mnemonic). name_of n ++ operands x.0) x.2 ∙ ap (λ (t : List ℕ). name_of m ++ t) (sym x.3) in
      let g = front_more cut (name_of m) some.0 f in
      (x.0, x.1, x.2, (g.0, text ∙ g.1))),
  λ i. (let text : instr_text i.0 ≡ name_of m ++ operands i.0 = ap (λ (n : Mnemonic). name_of n ++ operands i.0) i.2 in
      by (operands i.0) (i.3.0, sym text ∙ i.3.1)),
)
  where
    by : (t : List ℕ) → IsFront cut (name_of m ++ t) → IsFront cut (name_of m)
    by t f = elim (front_split cut (name_of m) t f) [
      | inl g ↦ g
      | inr g ↦ absurd (none g.0 g.1)
    ]

one_instr : (m : Mnemonic) (cut : List ℕ) → InstrBeginsWith m cut → InstrBegins cut
unfolding InstrBeginsWith InstrBegins
one_instr m cut i = (i.0, i.1, i.3)

any_instr : (ms : List Mnemonic) (cut : List ℕ) → OneBegins ms cut → InstrBegins cut
unfolding OneBegins
any_instr [] cut o = absurd o
any_instr (m ∷ ms) cut (inl i) = one_instr m cut i
any_instr (m ∷ ms) cut (inr o) = any_instr ms cut o

one_of : (p : Mnemonic → Bool) (ms : List Mnemonic) (m : Mnemonic) (cut : List ℕ) → find p ms ≡ Some m → InstrBeginsWith m cut → OneBegins ms cut
unfolding OneBegins
one_of p [] m cut e i = absurd (cc (e))
one_of p (x ∷ ms) m cut e i = by (p x) e (λ g. one_of p ms m cut g i)
  where
    by : (b : Bool) → cond b (Some x) (find p ms) ≡ Some m → (find p ms ≡ Some m → OneBegins ms cut) → OneBegins (x ∷ ms) cut
    by true e on = let same : x ≡ m = cc (e) in inl (subst (λ (n : Mnemonic). InstrBeginsWith n cut) (sym same) i)
    by false e on = inr (on e)

instr_one : (cut : List ℕ) → InstrBegins cut → OneBegins MNEMONICS cut
unfolding named InstrBegins InstrBeginsWith
instr_one cut i = one_of (λ (m : Mnemonic). bytes_eq (name_of m) (name_of (mnemonic_of i.0))) MNEMONICS (mnemonic_of i.0) cut (named_again (mnemonic_of i.0)) (i.0, i.1, refl, i.2)

pub instr_any : (cut : List ℕ) → OneBegins MNEMONICS cut ↔ InstrBegins cut
instr_any cut = (any_instr MNEMONICS cut, instr_one cut)

-- ---- as the functions ask it

pub with_past : (m : Mnemonic) (name cut left : List ℕ) (kinds : List Kind) (r : Bool) → name ≡ name_of m → kinds ≡ kinds_of (form_of m) → cut ≡ name ++ left
    → IsTrue r ↔ OperandsBegin kinds 32 left → IsTrue r ↔ InstrBeginsWith m cut
with_past m name cut left kinds r n k e i =
    let past = instr_past m cut left (e ∙ ap (λ (t : List ℕ). t ++ left) n) in
    let due = rw k at i in
    (λ t. past.0 (due.0 t), λ b. due.1 (past.1 b))

pub with_within : (m : Mnemonic) (name cut : List ℕ) (r : Bool) → name ≡ name_of m → ((left : List ℕ) → cut ≢ name ++ left) → IsTrue r ↔ IsFront cut name → IsTrue r ↔ InstrBeginsWith m cut
with_within m name cut r n none i =
    let within = instr_within m cut (λ left e. none left (e ∙ ap (λ (t : List ℕ). t ++ left) (sym n))) in
    let due = rw n at i in
    (λ t. within.0 (due.0 t), λ b. due.1 (within.1 b))

-- ---- code words

-- a word that is no instruction, of its eight digits
pub word_begins : (cut : List ℕ) (w : ℕ) → w < 2 ^ 32 → cut ≡ word_text w → decoded w ≡ None → WordBegins cut
unfolding WordBegins
word_begins cut w lt e none = (w, lt, none, subst (IsFront cut) e (front_all cut))

pub word_begun : (cut : List ℕ) → WordBegins cut → DigitsBegin (codes "word ") 7 cut ⊎ ((w : ℕ) × (w < 2 ^ 32) × (decoded w ≡ None) × (cut ≡ word_text w))
unfolding WordBegins
word_begun cut b = elim (word_digits cut b.0 b.3) [
  | inl d ↦ inl d
  | inr e ↦ inr (b.0, b.1, b.2, e)
]

-- a word that was read of the text
pub word_is : (cut : List ℕ) (w : ℕ) → w < 2 ^ 32 → cut ≡ word_text w → (DigitsBegin (codes "word ") 7 cut → ⊥) → ((v : ℕ) → v < 2 ^ 32 → cut ≡ word_text v → Some w ≡ Some v)
    → (decoded w ≡ None) ↔ WordBegins cut
word_is cut w lt e few only = (λ n. word_begins cut w lt e n, λ b. back (word_begun cut b))
  where
    back : DigitsBegin (codes "word ") 7 cut ⊎ ((v : ℕ) × (v < 2 ^ 32) × (decoded v ≡ None) × (cut ≡ word_text v)) → decoded w ≡ None
    back (inl d) = absurd (few d)
    back (inr v) = let same : w ≡ v.0 = cc (only v.0 v.1 v.3) in ap decoded same ∙ v.2

none_so : (o : Option Instr) (r : Bool) → is_some o ≡ not r → IsTrue r ↔ (o ≡ None)
none_so None true e = (λ t. refl, λ x. refl)
none_so None false e = absurd (false≢true e)
none_so (Some i) true e = absurd (false≢true (sym e))
none_so (Some i) false e = (λ t. absurd (false≢true t), λ x. absurd (cc (x)))

pub word_so : (cut : List ℕ) (w : ℕ) (o : Option Instr) (r : Bool) → is_some o ≡ not r → o ≡ decoded w → w < 2 ^ 32 → cut ≡ word_text w → (DigitsBegin (codes "word ") 7 cut → ⊥)
    → ((v : ℕ) → v < 2 ^ 32 → cut ≡ word_text v → Some w ≡ Some v) → IsTrue r ↔ WordBegins cut
word_so cut w o r e d lt t few only =
    let is = word_is cut w lt t few only in
    let n = none_so o r e in
    (λ x. is.0 (sym d ∙ n.0 x), λ b. n.1 (d ∙ is.1 b))

-- no word was read of it
pub word_none : (cut : List ℕ) → (DigitsBegin (codes "word ") 7 cut → ⊥) → ((v : ℕ) → v < 2 ^ 32 → cut ≡ word_text v → ⊥) → WordBegins cut → ⊥
word_none cut few none b = elim (word_begun cut b) [
  | inl d ↦ few d
  | inr v ↦ none v.0 v.1 v.3
]

text_none : (o : Option Instr) (w : ℕ) → decoded w ≡ o → o ≡ None → code_text w ≡ word_text w
unfolding code_text
text_none o w e n = rw (e ∙ n) refl

text_some : (i : Instr) (w : ℕ) → decoded w ≡ Some i → code_text w ≡ instr_text i
unfolding code_text
text_some i w e = rw e refl

pub word_code : (cut : List ℕ) → WordBegins cut → CodeBegins cut
unfolding WordBegins CodeBegins
word_code cut b = (b.0, b.1, (b.3.0, text_none (decoded b.0) b.0 refl b.2 ∙ b.3.1))

pub instr_code : (cut : List ℕ) → InstrBegins cut → CodeBegins cut
unfolding InstrBegins CodeBegins
instr_code cut b =
    (encoded b.0, small_word b.0 b.1, (b.2.0, text_some b.0 (encoded b.0) (decoded-encoded b.0 b.1) ∙ b.2.1))

pub code_begun : (cut : List ℕ) → CodeBegins cut → WordBegins cut ⊎ InstrBegins cut
unfolding WordBegins InstrBegins CodeBegins
code_begun cut b = elim (code_cases b.0 b.1) [
  | inl of ↦ inr (of.0, of.1.instr, (b.2.0, sym of.2 ∙ b.2.1))
  | inr other ↦ inl (b.0, b.1, other.0, (b.2.0, sym other.1 ∙ b.2.1))
]

pub code_rest : (cut : List ℕ) (r : Bool) → (WordBegins cut → ⊥) → IsTrue r ↔ InstrBegins cut → IsTrue r ↔ CodeBegins cut
code_rest cut r none i = (λ t. instr_code cut (i.0 t), λ b. back (code_begun cut b))
  where
    back : WordBegins cut ⊎ InstrBegins cut → IsTrue r
    back (inl w) = absurd (none w)
    back (inr x) = i.1 x

-- ---- the same, of lists by their first item

pub begin_end : (kinds : List Kind) (mark : ℕ) (cut : List ℕ) (r : Bool) → length kinds < 1 → r ≡ (length cut == 0) → IsTrue r ↔ OperandsBegin kinds mark cut
begin_end [] mark cut r h e = subst (λ (b : Bool). IsTrue b ↔ OperandsBegin [] mark cut) (sym e) (none_due mark cut)
begin_end (k ∷ kinds) mark cut r h e = absurd (omega (arith, h))

pub begin_start : (kinds : List Kind) (mark : ℕ) (cut : List ℕ) → 1 ≤ length kinds → length cut < 1 → IsTrue true ↔ OperandsBegin kinds mark cut
begin_start [] mark cut h g = absurd (omega (arith, h))
begin_start (k ∷ kinds) mark [] h g = yes (begin_empty k kinds mark)
begin_start (k ∷ kinds) mark (b ∷ cut) h g = absurd (omega (arith, g))

pub begin_so : (kinds : List Kind) (d : Kind) (mark : ℕ) (cut : List ℕ) (r : Bool) → 1 ≤ length kinds → 1 ≤ length cut → get_or cut 0 0 ≡ mark
    → IsTrue r ↔ OperandBegins (get_or kinds 0 d) (take (length kinds - 1) (drop 1 kinds)) (take (length cut - 1) (drop 1 cut)) → IsTrue r ↔ OperandsBegin kinds mark cut
begin_so kinds d mark cut r h g e i =
    let first = get_or kinds 0 d in
    let rest = take (length kinds - 1) (drop 1 kinds) in
    let left = take (length cut - 1) (drop 1 cut) in
    let inner : IsTrue r ↔ OperandsBegin (first ∷ rest) mark (get_or cut 0 0 ∷ left) = operand_so first rest mark (get_or cut 0 0) left r e i in
    subst (λ (ks : List Kind). IsTrue r ↔ OperandsBegin ks mark cut) (sym (in_two kinds d h))
    (subst (λ (cs : List ℕ). IsTrue r ↔ OperandsBegin (first ∷ rest) mark cs) (sym (in_two cut 0 g)) inner)

pub begin_not : (kinds : List Kind) (mark : ℕ) (cut : List ℕ) → 1 ≤ length kinds → 1 ≤ length cut → (get_or cut 0 0 ≡ mark → ⊥) → IsTrue false ↔ OperandsBegin kinds mark cut
begin_not [] mark cut h g n = absurd (omega (arith, h))
begin_not (k ∷ kinds) mark [] h g n = absurd (omega (arith, g))
begin_not (k ∷ kinds) mark (b ∷ cut) h g n = no (λ o. n (begun_with k kinds mark b cut o).0)

pub register_start : (k : Kind) (kinds : List Kind) (cut : List ℕ) → k ≡ kind.Register → length cut < 1 → IsTrue true ↔ OperandBegins k kinds cut
register_start k kinds [] e g = subst (λ (j : Kind). IsTrue true ↔ OperandBegins j kinds []) (sym e) (yes (register_empty kinds))
register_start k kinds (b ∷ cut) e g = absurd (omega (arith, g))

pub register_on : (k : Kind) (kinds : List Kind) (cut : List ℕ) (r : Bool) → k ≡ kind.Register → 1 ≤ length cut → get_or cut 0 0 ≡ 120
    → IsTrue r ↔ NumberBegins k kinds (take (length cut - 1) (drop 1 cut)) → IsTrue r ↔ OperandBegins k kinds cut
register_on k kinds cut r e g x i =
    let left = take (length cut - 1) (drop 1 cut) in
    let number : IsTrue r ↔ NumberBegins kind.Register kinds left = subst (λ (j : Kind). IsTrue r ↔ NumberBegins j kinds left) e i in
    let inner : IsTrue r ↔ OperandBegins kind.Register kinds (get_or cut 0 0 ∷ left) = register_so kinds (get_or cut 0 0) left r x number in
    subst (λ (j : Kind). IsTrue r ↔ OperandBegins j kinds cut) (sym e) (subst (λ (cs : List ℕ). IsTrue r ↔ OperandBegins kind.Register kinds cs) (sym (in_two cut 0 g)) inner)

pub register_not : (k : Kind) (kinds : List Kind) (cut : List ℕ) → k ≡ kind.Register → 1 ≤ length cut → (get_or cut 0 0 ≡ 120 → ⊥) → IsTrue false ↔ OperandBegins k kinds cut
register_not k kinds [] e g n = absurd (omega (arith, g))
register_not k kinds (b ∷ cut) e g n =
    subst (λ (j : Kind). IsTrue false ↔ OperandBegins j kinds (b ∷ cut)) (sym e) (no (λ o. n (register_begun kinds b cut o).0))

pub at_so : (k : Kind) (kinds : List Kind) (cut : List ℕ) (n : ℕ) (text left : List ℕ) (r : Bool) → text ≡ number_text k n → cut ≡ text ++ left → IsTrue r ↔ OperandsBegin kinds 44 left → IsTrue r ↔ BeginsAt k kinds cut n
at_so k kinds cut n text left r t e i = both i (at_past k kinds cut n left (e ∙ ap (λ (x : List ℕ). x ++ left) t))

pub at_front : (k : Kind) (kinds : List Kind) (cut : List ℕ) (n : ℕ) (text : List ℕ) (r : Bool) → text ≡ number_text k n → ((left : List ℕ) → cut ≢ text ++ left) → IsTrue r ↔ IsFront cut text → IsTrue r ↔ BeginsAt k kinds cut n
at_front k kinds cut n text r t none i =
    both (subst (λ (x : List ℕ). IsTrue r ↔ IsFront cut x) t i) (at_within k kinds cut n (λ left e. none left (e ∙ ap (λ (x : List ℕ). x ++ left) (sym t))))
