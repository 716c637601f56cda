-- The only code word that can have a text.

use Rattle.std.proofs.Common.{◌≡◌, ℕ, ◌^◌, ◌<◌, ◌++◌, List, codes, Option, Some, None, refl, sym, ap, ◌∙◌, ◌⊎◌, inl, inr}
use Rattle.std.specs.Int.{w32, to_be_bytes}
use Rattle.hex.specs.Hex.{encode_lower}
use Rattle.rv_isa.specs.declared.instr.Instr.{Instr}
use Rattle.rv_isa.specs.Valid.{IsInstr}
use Rattle.rv_isa.specs.Encoded.{encoded}
use Rattle.clu_asm.specs.AssemblyText.{code_text, word_text, instr_text}
use Rattle.clu_asm.specs.Candidates.{guessed}
use Rattle.clu_asm.proofs.GuessLemmas.{instr_again, word_unread, code_cases}

-- a text that reads as an instruction
pub candidate_instr : (text : List ℕ) (i : Instr) (r : Option ℕ) → Some i ≡ guessed text → (IsInstr i → r ≡ Some (encoded i)) → (w : ℕ) → w < 2 ^ 32 → text ≡ code_text w → r ≡ Some w
candidate_instr text i r e is w lt t = elim (code_cases w lt) [
  | inl of ↦
      let again : guessed text ≡ Some of.0 = ap guessed (t ∙ of.2) ∙ instr_again of.0 of.1.instr in
      let same : of.0 ≡ i = cc (e, again) in
      is (rw same at of.1.instr) ∙ ap (λ (j : Instr). Some (encoded j)) (sym same) ∙ ap (λ (n : ℕ). Some n) of.1.word
  | inr other ↦
      let unread : guessed text ≡ None = ap guessed (t ∙ other.1) ∙ word_unread (encode_lower (to_be_bytes w32 w)) in
      absurd (cc (e, unread))
]

-- another text
pub candidate_word : (text : List ℕ) (r : Option ℕ) → None ≡ guessed text → ((w : ℕ) → w < 2 ^ 32 → text ≡ word_text w → r ≡ Some w) → (w : ℕ) → w < 2 ^ 32 → text ≡ code_text w → r ≡ Some w
candidate_word text r e only w lt t = elim (code_cases w lt) [
  | inl of ↦
      let again : guessed text ≡ Some of.0 = ap guessed (t ∙ of.2) ∙ instr_again of.0 of.1.instr in
      absurd (cc (e, again))
  | inr other ↦ only w lt (t ∙ other.1)
]
