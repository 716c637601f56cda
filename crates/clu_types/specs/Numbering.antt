-- What numbers become by a table.
use Rattle.std.specs.BTreeMap.{get}
use Rattle.std.specs.Ordering.{nat_cmp}
use Rattle.clu_types.specs.Renumbered.{Numbers}
use Rattle.clu_types.specs.declared.numbering.Numbering.{Numbering}

abbrev pub numbers_of : Numbering → Numbers
numbers_of n = get nat_cmp n.entries
