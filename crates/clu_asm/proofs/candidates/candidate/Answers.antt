use Rattle.clu_asm.proofs.CandidateLemmas.{candidate_instr, candidate_word}
use Rattle.clu_asm.proofs.candidates.candidate.Goals as goal

pub returns-in-Some : goal.returns-in-Some
returns-in-Some c = candidate_instr c.args.text.now c.in-Some.i c.encoded.result (c.in-Some.ensures {u = tt}) c.encoded.ensures

pub returns-in-None : goal.returns-in-None
returns-in-None c = candidate_word c.args.text.now c.word.result (c.in-None.ensures {u = tt}) c.word.ensures.only
