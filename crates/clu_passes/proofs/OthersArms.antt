-- In a Decl in which no rule is violated no type is refused: by one step fewer than there are declarations all is known that it names.
use Rattle.std.proofs.Common.{◌≡◌, ◌∙◌, ℕ, suc, ◌+◌, ◌-◌, ◌<◌, ◌≤◌, Bool, true, false, List, [], ◌∷◌, length, is_some, Some, refl, sym, ap, arith}
use Rattle.std.specs.Prelude.{slice_get}
use Rattle.std.specs.List.{AllByRecursion, list_any}
use Rattle.std.proofs.lemmas.Bool.{true≢false}
use Rattle.clu_tree.specs.declared.node.Node.{Node}
use Rattle.clu_tree.specs.declared.node.NodeKind.TheVariants as kind
use Rattle.clu_syntax.specs.Syntax.{Identifier}
use Rattle.clu_names.specs.declared.binding.Names.{Names}
use Rattle.clu_checking.specs.Files.{File, is_kind, kind_in, round}
use Rattle.clu_checking.specs.Equates.{is_bad_name, is_circular, names_unfolded}
use Rattle.clu_checking.specs.Rules.{all_rules, violates}
use Rattle.clu_checking.specs.Refusals.{is_bad, is_bad_by, is_bad_of, is_no_type_at, right_side, rules_of_types}
use Rattle.clu_declares.proofs.Facts.{There, there}
use Rattle.clu_passes.specs.Refusing.{IsOrder}
use Rattle.clu_passes.specs.Trees.{IsFileOfTree}
use Rattle.clu_passes.proofs.BadEquates.{any_same, least_same, names_are, none_in, solved, violates_same}
use Rattle.clu_passes.proofs.Chains.{ends_sooner, fewer_declared}
use Rattle.clu_passes.proofs.InEquates.{in_declarations}
use Rattle.clu_passes.proofs.RefusedFaults.{bad_more, fault_more}
use Rattle.clu_passes.proofs.StepsEnough.{bad_unfolds, fault}

module _ (f : File) (of : IsFileOfTree f) (names : Names) (order : List ℕ) (circular : List Bool) (its_order : IsOrder f names order circular) (d : ℕ) (is : kind_in f d ≡ kind.Decl) where
  x : There f.nodes d kind.Decl
  x = there f.nodes d kind.Decl refl is

  abbrev fewer : ℕ
  fewer = length f.scope.declarations - 1

  named_bad : (m : ℕ) → is_kind f kind.Equate m ≡ true → is_circular f m ≡ false → is_bad f m ≡ is_bad_by f all_rules fewer m
  named_bad m equate straight =
      solved f of all_rules (is_bad f) (bad_unfolds f of all_rules) fewer m equate straight
      (ends_sooner f of names order circular its_order d x.node x.at x.is m equate straight) fewer (omega arith)

  all_named : (n : ℕ) (its : List Identifier) → AllByRecursion (λ (name : Identifier). is_bad_name f (is_bad f) n name ≡ is_bad_name f (is_bad_by f all_rules fewer) n name) its
  all_named n [] = tt
  all_named n (name ∷ its) = (names_are f (is_bad f) (is_bad_by f all_rules fewer) named_bad n name, all_named n its)

  one_step : (n : ℕ) → (round f d).first ≤ n → n < (round f d).first + (d - (round f d).first) → fault f of all_rules (is_bad f) n ≡ fault f of all_rules (is_bad_by f all_rules fewer) n
  one_step n low high =
      ap is_some (least_same (violates f (is_bad f) n) (violates f (is_bad_by f all_rules fewer) n)
      (violates_same f of (is_bad f) (is_bad_by f all_rules fewer) n
      (in_declarations f.nodes f.rounds of.shaped of.ordered of.tree of.surrounded d x.node x.at x.is n low (omega (arith, low, high)))
      (all_named n (names_unfolded f (kind_in f n) n)))
      all_rules)

  by_steps : list_any (fault f of all_rules (is_bad f)) (right_side f d) ≡ is_bad_by f all_rules (suc fewer) d
  unfolding is_bad_by
  by_steps = any_same (fault f of all_rules (is_bad f)) (fault f of all_rules (is_bad_by f all_rules fewer)) (round f d).first (d - (round f d).first) one_step

  decl_unfolds : list_any (fault f of all_rules (is_bad f)) (right_side f d) ≡ is_bad f d
  decl_unfolds = by_steps ∙ ap (λ (steps : ℕ). is_bad_by f all_rules steps d) (fewer_declared f of names order circular its_order d x.node x.at x.is)

  pub decl_fine : is_bad f d ≡ false → (m : ℕ) → (round f d).first ≤ m → m < d → is_no_type_at f m ≡ false
  decl_fine good m low less = by (is_no_type_at f m) refl
    where
      by : (b : Bool) → is_no_type_at f m ≡ b → is_no_type_at f m ≡ false
      by true hit =
          absurd (true≢false (sym (fault_more f (is_bad_of f (rules_of_types f)) (is_bad f) (bad_more f (length f.scope.declarations)) m hit)
          ∙ none_in (fault f of all_rules (is_bad f)) (round f d).first (d - (round f d).first) (decl_unfolds ∙ good) m low (omega (arith, low, less))))
      by false miss = miss
