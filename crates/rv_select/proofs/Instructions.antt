-- Words that are those of instructions.
use Rattle.std.proofs.Common.{◌≡◌, ℕ, List, [], ◌∷◌, ◌++◌, set, Option, Some, is_some, ap}
use Rattle.std.proofs.lemmas.List.Elements.{All-push, All-set}
use Rattle.rv_isa.specs.declared.instr.Instr.{Instr}
use Rattle.rv_isa.specs.Decoded.{decoded}
use Rattle.rv_select.specs.Instructions.{AreInstructions, IsInstruction, is_instruction, or_call, read}
use Rattle.std.proofs.lemmas.List.{length-map, map-append, map-set}

pub decodes : (word : ℕ) (instr : Instr) → decoded word ≡ Some instr → IsInstruction word
unfolding is_instruction
decodes word instr e = ap (λ (o : Option Instr). is_some o) e

pub with_word : (words : List ℕ) (word : ℕ) → AreInstructions words → IsInstruction word → AreInstructions (words ++ word ∷ [])
with_word words word all one = All-push IsInstruction words word all one

pub with_word_at : (words : List ℕ) (place word : ℕ) → AreInstructions words → IsInstruction word → AreInstructions (set words place word)
with_word_at words place word all one = All-set IsInstruction words place word one all

pub read_decoded : (word : ℕ) (instr : Instr) → decoded word ≡ Some instr → read word ≡ instr
unfolding read
read_decoded word instr e = ap or_call e

pub ruleset laws = (decodes, read_decoded, with_word, with_word_at, map-append)

pub ruleset counting = (length-map)

pub ruleset changing = (map-set)
