use Rattle.std.proofs.Common.{◌≡◌, drop}
use Rattle.std.specs.List.{list_any}
use Rattle.std.specs.Str.{bytes_eq}
use Rattle.clu_library.proofs.program.Program.has_any.Given as goal

abbrev pub invariant-loop-name : goal.invariant-loop-name
invariant-loop-name l = list_any (λ name. list_any (bytes_eq name) l.names.keys) (drop l.name-index l.self.modules) ≡ list_any (λ name. list_any (bytes_eq name) l.names.keys) l.self.modules
