-- Nodes before which no type is refused: neither below them nor in the brackets in which they stand.
use Rattle.std.specs.Prelude.{◌≡◌, ◌<◌, ◌≤◌, ℕ, false, Some}
use Rattle.clu_tree.specs.declared.node.NodeKind.TheVariants as kind
use Rattle.clu_checking.specs.Files.{File, kind_in, parent, round}
use Rattle.clu_checking.specs.Refusals.{is_no_type_at}

-- from this number on stands what is below the node, in the brackets in which it stands, and in those in which its parent does
pub record IsFrom (f : File) (low n : ℕ) : Type 0 where
  pub own : low ≤ (round f n).first
  pub brackets : (p : ℕ) → parent f n ≡ Some p → kind_in f p ≡ kind.Index → low ≤ (round f p).first
  pub above : (p q : ℕ) → parent f n ≡ Some p → parent f p ≡ Some q → kind_in f q ≡ kind.Index → low ≤ (round f q).first

pub record IsClear (f : File) (n : ℕ) : Type 0 where
  pub low : ℕ
  pub from : IsFrom f low n
  pub clear : (m : ℕ) → low ≤ m → m < n → is_no_type_at f m ≡ false

-- neither the node nor its parent stands in brackets
pub record IsOutside (f : File) (n : ℕ) : Type 0 where
  pub beside : (p : ℕ) → parent f n ≡ Some p → kind_in f p ≡ kind.Index → ⊥
  pub above : (p q : ℕ) → parent f n ≡ Some p → parent f p ≡ Some q → kind_in f q ≡ kind.Index → ⊥
