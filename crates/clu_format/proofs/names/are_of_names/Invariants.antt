use Rattle.std.proofs.Common.{◌≡◌, drop}
use Rattle.std.specs.List.{list_all}
use Rattle.clu_specs.specs.Names.{goes_on_name}
use Rattle.clu_format.proofs.names.are_of_names.Given as goal

-- the bytes that are left decide
abbrev pub invariant-loop-b : goal.invariant-loop-b
invariant-loop-b l = list_all goes_on_name l.bytes ≡ list_all goes_on_name (drop l.b-index l.bytes)
