use Rattle.std.proofs.Common.{◌≡◌, ℕ, List, take, bytes_eq}
use Rattle.std.specs.List.{list_any}
use Rattle.clu_head.proofs.heads.exports_of.Given as goal

abbrev pub invariant-loop-name : goal.invariant-loop-name
invariant-loop-name l = (x : List ℕ) → list_any (bytes_eq x) l.exports.value.keys ≡ list_any (bytes_eq x) (take l.name-index l.names)
