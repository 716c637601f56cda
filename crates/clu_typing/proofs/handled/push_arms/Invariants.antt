use Rattle.std.proofs.Common.{◌≡◌, drop}
use Rattle.clu_typing.specs.Raises.{numbers_of_arms}
use Rattle.clu_typing.proofs.handled.push_arms.Given as goal

-- what is left, behind those so far, is the whole
abbrev pub invariant-loop-arm : goal.invariant-loop-arm
invariant-loop-arm l = numbers_of_arms l.file l.words l.list.items (drop l.arm-index l.arms) ≡ numbers_of_arms l.file l.words l.initial.list.items l.arms
