use Rattle.std.proofs.Common.{◌≡◌, drop, fold}
use Rattle.clu_sound.specs.Parts.{with_id}
use Rattle.clu_sound.proofs.parts.add_all.Given as goal

abbrev pub invariant-loop-id : goal.invariant-loop-id
invariant-loop-id l = fold with_id l.ids.keys (drop l.id-index l.more) ≡ fold with_id l.initial.ids.keys l.more
