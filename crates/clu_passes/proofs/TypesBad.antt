-- Where no rule is violated by equates of which those are bad in which a type is refused, no type is refused.
use Rattle.std.proofs.Common.{◌≡◌, ◌∙◌, ℕ, ◌&&◌, ◌||◌, Bool, true, false, List, [], ◌∷◌, is_some, Option, Some, None, refl, sym, ap}
use Rattle.std.proofs.Math.Bool.{or-false}
use Rattle.std.proofs.lemmas.Bool.{true≢false, or_right}
use Rattle.std.proofs.lemmas.Option.{none-some}
use Rattle.clu_base.specs.declared.rules.Rule.{Rule}
use Rattle.clu_tree.specs.declared.node.NodeKind.TheVariants as kind
use Rattle.clu_syntax.specs.Syntax.{Identifier}
use Rattle.clu_checking.specs.Files.{File, is_kind, kind_in}
use Rattle.clu_checking.specs.Equates.{is_bad_name, is_circular}
use Rattle.clu_checking.specs.Rules.{least, violates}
use Rattle.clu_checking.specs.Refusals.{is_bad_of, is_no_type_at, rules_of_types}
use Rattle.clu_type_rules.specs.Asked.{rules_at}
use Rattle.clu_passes.specs.Clear.{IsClear}
use Rattle.clu_passes.specs.Refusing.{is_of_types, of_types}
use Rattle.clu_passes.specs.Right.{AreTypesBad, IsQuiet}
use Rattle.clu_passes.specs.Trees.{IsFileOfTree}
use Rattle.clu_passes.proofs.BadEquates.{names_are}
use Rattle.clu_passes.proofs.FaultsFound.{least_of_types}
use Rattle.clu_passes.proofs.RefusedFaults.{name_more, violated_more}
use Rattle.clu_passes.proofs.TypesSettled.{types_same}

-- rules that are violated sooner by one reading are so by the other
none_least : (v w : Rule → Bool) → ((r : Rule) → v r ≡ false → w r ≡ false) → (rs : List Rule) → least v rs ≡ None → least w rs ≡ None
none_least v w less [] e = refl
none_least v w less (r ∷ rs) e = by (v r) refl e (none_least v w less rs)
  where
    by : (b : Bool) → v r ≡ b → ◌≡◌ {A = Option Rule} (elim b [ true ↦ Some r | false ↦ least v rs ]) None → (least v rs ≡ None → least w rs ≡ None) → ◌≡◌ {A = Option Rule} (elim (w r) [ true ↦ Some r | false ↦ least w rs ]) None
    by true is none more = absurd (none-some r (sym none))
    by false is none more = ap (λ (b : Bool). elim b [ true ↦ Some r | false ↦ least w rs ]) (less r is) ∙ more none

module _ (f : File) (bad : ℕ → Bool) (are : AreTypesBad f bad) where
  abbrev types_bad : ℕ → Bool
  types_bad = is_bad_of f (rules_of_types f)

  abbrev either : ℕ → Bool
  either e = bad e || types_bad e

  either_same : (e : ℕ) → is_kind f kind.Equate e ≡ true → is_circular f e ≡ false → bad e ≡ either e
  either_same e equate straight = by (types_bad e) refl
    where
      by : (b : Bool) → types_bad e ≡ b → bad e ≡ either e
      by true is = are e equate straight is ∙ sym (or_right (bad e) (types_bad e) is)
      by false is = sym (ap (λ (b : Bool). bad e || b) is ∙ or-false (bad e))

  named_same : (n : ℕ) (name : Identifier) → is_bad_name f bad n name ≡ is_bad_name f either n name
  named_same = names_are f bad either either_same

  pub name_bad : (n : ℕ) (name : Identifier) → is_bad_name f types_bad n name ≡ true → is_bad_name f bad n name ≡ true
  name_bad n name hit = named_same n name ∙ name_more f types_bad either (λ e h. or_right (bad e) (types_bad e) h) n name hit

  of_types_same : (n : ℕ) (r : Rule) → is_of_types r ≡ true → violates f bad n r ≡ violates f either n r
  of_types_same n r is =
      sym (ap (λ (b : Bool). b && violates f bad n r) is)
      ∙ types_same f bad either n (named_same n) r
      ∙ ap (λ (b : Bool). b && violates f either n r) is

  pub not_sooner : (n : ℕ) (r : Rule) → is_of_types r ≡ true → violates f bad n r ≡ false → violates f types_bad n r ≡ false
  not_sooner n r is none = by (violates f types_bad n r) refl
    where
      by : (b : Bool) → violates f types_bad n r ≡ b → b ≡ false
      by true hit = absurd (true≢false (sym (of_types_same n r is ∙ violated_more f types_bad either (λ e h. or_right (bad e) (types_bad e) h) n r is hit) ∙ none))
      by false miss = refl

  module _ (of : IsFileOfTree f) where
    pub not_refused : (n : ℕ) → least (violates f bad n) (rules_at (kind_in f n)) ≡ None → is_no_type_at f n ≡ false
    not_refused n none =
        ap is_some
        (sym (least_of_types f of types_bad n) ∙ none_least (violates f bad n) (of_types (violates f types_bad n)) less (rules_at (kind_in f n)) none)
      where
        less : (r : Rule) → violates f bad n r ≡ false → of_types (violates f types_bad n) r ≡ false
        less r miss = by (is_of_types r) refl
          where
            by : (b : Bool) → is_of_types r ≡ b → (b && violates f types_bad n r) ≡ false
            by true is = not_sooner n r is miss
            by false is = refl

    -- so of a node before which no rule is violated
    pub clear_there : (n : ℕ) → IsQuiet f bad n → IsClear f n
    clear_there n quiet = record { low = quiet.low; from = quiet.from; clear = λ m from less. not_refused m (quiet.quiet m from less) }
