use Rattle.std.proofs.Common.{◌≡◌, drop}
use Rattle.clu_typing.specs.Raises.{numbers_behind}
use Rattle.clu_typing.proofs.handled.push_numbers.Given as goal

-- what is left, behind those so far, is the whole
abbrev pub invariant-loop-name : goal.invariant-loop-name
invariant-loop-name l = numbers_behind l.words l.list.items (drop l.name-index l.names) ≡ numbers_behind l.words l.initial.list.items l.names
