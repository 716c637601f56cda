use Rattle.std.proofs.Common.{◌≡◌, ◌-◌, []}
use Rattle.clu_format.specs.Lists.{counted}
use Rattle.clu_library.specs.LibraryReading.{behind_names, next_name_read}
use Rattle.clu_library.proofs.read_names.more_names_but.Given as goal

abbrev pub invariant-loop : goal.invariant-loop
invariant-loop l = record {
  last : l.previous ≡ behind_names [] l.names.items;
  so_far : counted (next_name_read l.own) (l.count - l.counter) l.names.items l.rest ≡ counted (next_name_read l.own) l.count [] l.bytes;
}
