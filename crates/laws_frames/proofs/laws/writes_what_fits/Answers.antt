use Rattle.std.proofs.Common.{subst}
use Rattle.laws_frames.specs.Limits.{RunEndsOrFills, endless}
use Rattle.laws_frames.proofs.Filling.{fills}
use Rattle.laws_frames.proofs.Fulfilling.{fulfilled, never_full}
use Rattle.laws_frames.proofs.Starting as starting
use Rattle.laws_frames.proofs.laws.writes_what_fits.Goals as goal

pub returns : goal.returns
returns c image program is closed start end q who at there ends live low world turns st spent allows x how come h =
    fulfilled image _ live st (never_full image _ live st allows (subst (RunEndsOrFills image _ live) spent
    (fills image _ live _ (starting.program_runs (endless image) program is closed start end q at ends who there live low world turns)))) x how come h
