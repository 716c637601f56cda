-- The table of bad equates.
use Rattle.std.specs.Prelude.{◌≡◌, ℕ, is_some, Bool, true, false, List}
use Rattle.std.specs.List.{list_any}
use Rattle.clu_base.specs.declared.rules.Rule.{Rule}
use Rattle.clu_tree.specs.declared.node.NodeKind.TheVariants as kind
use Rattle.clu_checking.specs.Files.{File, is_kind}
use Rattle.clu_checking.specs.Equates.{is_circular}
use Rattle.clu_checking.specs.Rules.{violates, least}
use Rattle.clu_checking.specs.Refusals.{right_side}

-- of each equate that leads to no circle: whether a rule is violated on its right side, where the same table says it of those that
-- are named there
abbrev pub AreBadBy : File → List Rule → (ℕ → Bool) → Type 0
AreBadBy f rules bad = (e : ℕ) → is_kind f kind.Equate e ≡ true → is_circular f e ≡ false → bad e ≡ list_any (λ n. is_some (least (violates f bad n) rules)) (right_side f e)
