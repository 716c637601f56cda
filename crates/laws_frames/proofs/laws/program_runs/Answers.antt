use Rattle.laws_frames.proofs.Starting as starting
use Rattle.laws_frames.proofs.laws.program_runs.Goals as goal

pub returns : goal.returns
returns c image program is closed start end q who at there ends live low world turns = starting.program_runs image program is closed start end q at ends who there live low world turns
