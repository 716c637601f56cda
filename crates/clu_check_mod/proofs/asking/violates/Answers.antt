use Rattle.std.proofs.Common.{◌≡◌, ◌∙◌, ◌⊎◌, ℕ, Bool, List, inl, inr, refl, sym, ap}
use Rattle.clu_base.specs.declared.rules.Rule.{Rule}
use Rattle.clu_base.specs.declared.rules.Rule.TheVariants as rule
use Rattle.clu_syntax.specs.Items.{Item}
use Rattle.clu_type_rules.specs.declared.known.Known.{Known}
use Rattle.clu_type_rules.specs.Rules.{violates, violates_of_types}
use Rattle.clu_check_mod.specs.Asking.{is_violated, is_violated_of_types}
use Rattle.clu_check_mod.proofs.Ascending.{assigned_ascend, tagged_ascend}
use Rattle.clu_check_mod.proofs.asking.violates.Goals as goal

module _ (k : Known) (bad : List Bool) (items : ℕ → Item) (n : ℕ) (r : Rule) where
  same : (v : Rule) → r ≡ v → violates_of_types k.tables bad items n v ≡ violates k bad items n v → is_violated_of_types k.tables bad items n r ≡ is_violated k bad items n r
  unfolding is_violated is_violated_of_types
  same v is e = ap (violates_of_types k.tables bad items n) is ∙ e ∙ sym (ap (violates k bad items n) is)

  told : (v : Rule) → r ≡ v → is_violated k bad items n r ≡ violates k bad items n v
  unfolding is_violated
  told v is = ap (violates k bad items n) is

  -- the rules by which types are refused
  of_types : (r ≡ rule.LiteralRange) ⊎ ((r ≡ rule.UnknownName) ⊎ ((r ≡ rule.CircularEquate) ⊎ ((r ≡ rule.NotConstant) ⊎ ((r ≡ rule.NotType) ⊎ ((r ≡ rule.Real) ⊎ ((r ≡ rule.Selectors) ⊎ ((r ≡ rule.ParameterKind) ⊎ (r ≡ rule.CvtPlace)))))))) →
      is_violated_of_types k.tables bad items n r ≡ is_violated k bad items n r
  of_types (inl is) = same rule.LiteralRange is refl
  of_types (inr (inl is)) = same rule.UnknownName is refl
  of_types (inr (inr (inl is))) = same rule.CircularEquate is refl
  of_types (inr (inr (inr (inl is)))) = same rule.NotConstant is refl
  of_types (inr (inr (inr (inr (inl is))))) = same rule.NotType is refl
  of_types (inr (inr (inr (inr (inr (inl is)))))) = same rule.Real is refl
  of_types (inr (inr (inr (inr (inr (inr (inl is))))))) = same rule.Selectors is refl
  of_types (inr (inr (inr (inr (inr (inr (inr (inl is)))))))) = same rule.ParameterKind is refl
  of_types (inr (inr (inr (inr (inr (inr (inr (inr is)))))))) = same rule.CvtPlace is refl

pub returns-in-LiteralRange-clause-exact : goal.returns-in-LiteralRange-clause-exact
returns-in-LiteralRange-clause-exact c items values tags =
    c.violates_of_types.ensures.exact items values ∙ of_types c.args.k.now c.args.bad.now items c.args.n c.args.rule c.in-LiteralRange.is

pub returns-in-ArgumentType-clause-exact : goal.returns-in-ArgumentType-clause-exact
returns-in-ArgumentType-clause-exact c items values tags = c.v13.ensures items values ∙ sym (told c.args.k.now c.args.bad.now items c.args.n c.args.rule rule.ArgumentType c.in-ArgumentType.is)

pub returns-in-AssignType-clause-exact : goal.returns-in-AssignType-clause-exact
returns-in-AssignType-clause-exact c items values tags =
    c.v15.ensures items (assigned_ascend c.args.k.now c.args.n c.args.rule c.in-AssignType.is tags) ∙ sym (told c.args.k.now c.args.bad.now items c.args.n c.args.rule rule.AssignType c.in-AssignType.is)

pub returns-in-TagMissingOrTwice-clause-exact : goal.returns-in-TagMissingOrTwice-clause-exact
returns-in-TagMissingOrTwice-clause-exact c items values tags =
    c.v22.ensures items (tagged_ascend c.args.k.now c.args.n c.args.rule c.in-TagMissingOrTwice.is tags) ∙ sym (told c.args.k.now c.args.bad.now items c.args.n c.args.rule rule.TagMissingOrTwice c.in-TagMissingOrTwice.is)
