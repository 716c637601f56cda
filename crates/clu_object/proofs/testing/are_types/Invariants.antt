use Rattle.std.proofs.Common.{◌≡◌, drop}
use Rattle.std.specs.List.{list_all}
use Rattle.clu_object.specs.Objects.{is_type}
use Rattle.clu_object.proofs.testing.are_types.Given as goal

-- those that are left decide
abbrev pub invariant-loop-text : goal.invariant-loop-text
invariant-loop-text l = list_all is_type l.texts ≡ list_all is_type (drop l.text-index l.texts)
