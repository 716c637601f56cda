use Rattle.clu_word_meaning.specs.Levels.{run}
use Rattle.laws_frames.specs.Limits.{endless}
use Rattle.laws_frames.proofs.Filling.{fills}
use Rattle.laws_frames.proofs.Starting as starting
use Rattle.laws_frames.proofs.laws.program_runs_within.Goals as goal

pub returns : goal.returns
returns c image program is closed start end q who at there ends live low world turns =
    fills image _ live (run program start live world turns) (starting.program_runs (endless image) program is closed start end q at ends who there live low world turns)
