-- Where the value of a node is lost a type is refused there or below it, or `cvt` stands there as a whole type of a heading.
use Rattle.std.specs.Prelude.{◌≡◌, ◌<◌, ◌≤◌, ◌⊎◌, if◌then◌else◌, not, ℕ, Bool, true, false}
use Rattle.clu_tree.specs.declared.node.NodeKind.{NodeKind}
use Rattle.clu_tree.specs.declared.node.NodeKind.TheVariants as kind
use Rattle.clu_syntax.specs.declared.words.SimpleType.TheVariants as simple
use Rattle.clu_checking.specs.Files.{File, item, kind_in, round}
use Rattle.clu_checking.specs.ConstantRules.{is_word, v31}
use Rattle.clu_checking.specs.Refusals.{Walk, headings, rest, is_no_type_at}

-- `cvt` where it may stand
pub record IsWholeCvt (f : File) (n : ℕ) : Type 0 where
  pub of_word : kind_in f n ≡ kind.Simple
  pub word : is_word simple.Cvt (item f n).type ≡ true
  pub placed : v31 f n ≡ false

abbrev pub IsReason : File → ℕ → Type 0
IsReason f n = (is_no_type_at f n ≡ true) ⊎ IsWholeCvt f n

-- at the node or below it
pub record HasReason (f : File) (n : ℕ) : Type 0 where
  pub node : ℕ
  pub first : (round f n).first ≤ node
  pub upto : node ≤ n
  pub reason : IsReason f node

-- ---- the walk on which a type is told to be refused: at the node of a module, routine or cluster that over the rest

abbrev pub is_definition : NodeKind → Bool
is_definition kind.Module = true
is_definition kind.Routine = true
is_definition kind.Cluster = true
is_definition _ = false

-- neither these nor the file: below such a node none of them stands
abbrev pub is_plain : NodeKind → Bool
is_plain kind.File = false
is_plain k = not (is_definition k)

abbrev pub IsPlain : NodeKind → Type 0
IsPlain k = is_plain k ≡ true

abbrev pub walk_by : Bool → Bool → Walk
walk_by true in_heading = rest
walk_by false in_heading = if in_heading then headings else rest

abbrev pub walk_of : File → ℕ → Walk
walk_of f n = walk_by (is_definition (kind_in f n)) (round f n).heading

-- a type is refused strictly below the node
pub record HasRefusedBelow (f : File) (n : ℕ) : Type 0 where
  pub node : ℕ
  pub first : (round f n).first ≤ node
  pub before : node < n
  pub refused : is_no_type_at f node ≡ true

-- ... and at no node below that one
abbrev pub AreNotRefused : File → ℕ → Type 0
AreNotRefused f n = (m : ℕ) → (round f n).first ≤ m → m < n → is_no_type_at f m ≡ false
