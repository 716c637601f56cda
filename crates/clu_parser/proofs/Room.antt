-- A bound of what a node counts by itself.
use Rattle.std.proofs.Common.{ℕ, zero, suc, ◌+◌, ◌≤◌, Bool, true, false, cond, ◌==◌, List, [], ◌∷◌, length, arith}
use Rattle.clu_tree.specs.declared.node.Node.{Node}
use Rattle.clu_tree.specs.declared.node.NodeKind.{NodeKind}
use Rattle.clu_tree.specs.declared.node.NodeKind.TheVariants as kind
use Rattle.clu_tree.specs.Count.{characters, escape_len, string_len, value_count, own_count}

pick_le : (b : Bool) (x y n : ℕ) → x ≤ n → y ≤ n → cond b x y ≤ n
pick_le true x y n h k = h
pick_le false x y n h k = k

characters-le : (skip : ℕ) (bs : List ℕ) → characters skip bs ≤ length bs
characters-le skip [] = omega arith
characters-le (suc skip) (b ∷ bs) = omega (arith, characters-le skip bs)
characters-le zero (b ∷ bs) =
    pick_le (b == 34) 0 (cond (b == 92) (1 + characters (escape_len bs) bs) (1 + characters 0 bs)) (length (b ∷ bs)) (omega arith)
    (pick_le (b == 92) (1 + characters (escape_len bs) bs) (1 + characters 0 bs) (length (b ∷ bs)) (omega (arith, characters-le (escape_len bs) bs)) (omega (arith, characters-le 0 bs)))

string_len-le : (bs : List ℕ) → string_len bs ≤ length bs
string_len-le [] = omega arith
string_len-le (b ∷ bs) = pick_le (b == 34) (characters 0 bs) 0 (length (b ∷ bs)) (omega (arith, characters-le 0 bs)) (omega arith)

value_count-le : (k : NodeKind) (bs : List ℕ) → value_count k bs ≤ length bs
value_count-le kind.Literal bs = omega (arith, string_len-le bs)
value_count-le _ bs = omega arith

pub own_count-le : (n : Node) → own_count n ≤ 1 + length n.names + length n.value
own_count-le n = omega (arith, value_count-le n.kind n.value)
