use Rattle.std.proofs.Common.{◌≡◌, drop, fold}
use Rattle.clu_sound.specs.Parts.{with_wanted}
use Rattle.clu_sound.proofs.parts.add_wanted.Given as goal

abbrev pub invariant-loop-demand : goal.invariant-loop-demand
invariant-loop-demand l = fold with_wanted l.ids.keys (drop l.demand-index l.demands) ≡ fold with_wanted l.initial.ids.keys l.demands
