use Rattle.std.proofs.Common.{◌≡◌, drop}
use Rattle.std.specs.List.{list_any}
use Rattle.clu_typing.specs.Raises.{is_others}
use Rattle.clu_typing.proofs.handled.has_others.Given as goal

-- one is among those that are left
abbrev pub invariant-loop-arm : goal.invariant-loop-arm
invariant-loop-arm l = list_any (is_others l.file) (drop l.arm-index l.arms) ≡ list_any (is_others l.file) l.arms
