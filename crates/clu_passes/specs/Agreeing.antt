-- Faults by two readings of the rules that agree as far as the first one, which is all that a walk finds.
use Rattle.std.specs.Prelude.{◌≡◌, ◌⊎◌, ◌<◌, ℕ, true, Option, is_some}
use Rattle.clu_base.specs.declared.rules.Rule.{Rule}

module _ (g h : ℕ → Option Rule) where
  -- both find the same fault at a node before this one
  pub record FoundBefore (n : ℕ) : Type 0 where
    pub node : ℕ
    pub before : node < n
    pub same : g node ≡ h node
    pub found : is_some (g node) ≡ true

  abbrev pub AgreeAt : ℕ → Type 0
  AgreeAt n = (g n ≡ h n) ⊎ FoundBefore n
