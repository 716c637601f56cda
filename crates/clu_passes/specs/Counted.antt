-- Nodes that are refused, as the file has them and as a bit for each node.
use Rattle.std.specs.Prelude.{◌≡◌, Bool, List, length, filter, slice_get}
use Rattle.std.specs.List.{range_with_len}
use Rattle.clu_checking.specs.Files.{File}
use Rattle.clu_head.specs.Refused.{is_set}

-- the file's refused nodes are those whose bits are set
abbrev pub AreRefused : File → List Bool → Type 0
AreRefused f bits = f.refused ≡ filter (λ n. is_set (slice_get bits n)) (range_with_len 0 (length bits))
