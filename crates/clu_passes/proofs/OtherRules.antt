-- Rules that agree as far as the first one that is violated: those by which types are refused by one law, the others by another one.
use Rattle.std.proofs.Common.{◌≡◌, ◌∙◌, ◌&&◌, Bool, true, false, List, [], ◌∷◌, refl, ap}
use Rattle.std.proofs.Math.Bool.{and-false}
use Rattle.clu_base.specs.declared.rules.Rule.{Rule}
use Rattle.clu_passes.specs.Refusing.{AgreeOn, is_of_types, of_types}

module _ (found violated : Rule → Bool) where
  -- both say the same of the rules by which no type is refused, of each where none before it is violated
  abbrev pub AgreeElse : List Rule → Type 0
  AgreeElse [] = Unit {0}
  AgreeElse (r ∷ rs) = (is_of_types r ≡ false → found r ≡ violated r) × (violated r ≡ false → AgreeElse rs)

  module _ (typed : Rule → Bool) (same : (r : Rule) → is_of_types r ≡ true → found r ≡ typed r) where
    pub agree_all : (rs : List Rule) → AgreeOn typed (of_types violated) rs → AgreeElse rs → AgreeOn found violated rs
    agree_all [] agree others = tt
    agree_all (r ∷ rs) agree others =
        (by (is_of_types r) refl, λ none. agree_all rs (agree.1 (ap (λ (b : Bool). is_of_types r && b) none ∙ and-false (is_of_types r))) (others.1 none))
      where
        by : (b : Bool) → is_of_types r ≡ b → found r ≡ violated r
        by true is = same r is ∙ agree.0 ∙ ap (λ (b : Bool). b && violated r) is
        by false is = others.0 is
