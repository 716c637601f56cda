-- What a node counts by itself, and with all that stands below it.
use Rattle.std.specs.Prelude.{ℕ, suc, zero, ◌+◌, ◌-◌, ◌/◌, ◌&&◌, ◌==◌, nat_le, if◌then◌else◌, List, [], ◌∷◌, ◌++◌, length, sum_by, slice_index}
use Rattle.clu_tree.specs.declared.node.Node.{Node}
use Rattle.clu_tree.specs.declared.node.NodeKind.{NodeKind}
use Rattle.clu_tree.specs.declared.node.NodeKind.TheVariants as kind

-- how many bytes belong to an escape after its backslash
abbrev pub escape_len : List ℕ → ℕ
escape_len [] = 1
escape_len (b ∷ bs) = if nat_le 48 b && nat_le b 55 then 3 else 1

-- how many bytes a string literal denotes that goes on so, where the first `skip` bytes belong to an
-- escape: up to " (34), an escape after \ (92) being one
abbrev pub characters : ℕ → List ℕ → ℕ
characters skip [] = 0
characters (suc skip) (b ∷ bs) = characters skip bs
characters zero (b ∷ bs) =
    if b == 34 then 0 else
    if b == 92 then 1 + characters (escape_len bs) bs else
    1 + characters 0 bs

-- the bytes that a string literal denotes; no other literal begins with " (34)
abbrev pub string_len : List ℕ → ℕ
string_len [] = 0
string_len (b ∷ bs) = if b == 34 then characters 0 bs else 0

-- what the value adds to the count of 1
abbrev pub value_count : NodeKind → List ℕ → ℕ
value_count kind.Literal value = string_len value / 64
value_count _ value = 0

-- one for the node, one for each name after its first, and one for each 64 bytes of a string
abbrev pub own_count : Node → ℕ
own_count n = 1 + (length n.names - 1) + value_count n.kind n.value

-- with what stands below it, where the counts of the nodes before it are known
abbrev pub count_with : List ℕ → Node → ℕ
count_with before n = own_count n + sum_by (slice_index before) n.children

-- the counts of all nodes, where those of the nodes before them are known
abbrev pub counts_from : List ℕ → List Node → List ℕ
counts_from before [] = before
counts_from before (n ∷ ns) = counts_from (before ++ count_with before n ∷ []) ns

abbrev pub counts : List Node → List ℕ
counts nodes = counts_from [] nodes
