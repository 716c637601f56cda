-- The rules that the walks ask at a node of each kind are enough: the least of them that is violated is the least of all.
use Rattle.std.proofs.Common.{◌≡◌, ◌∙◌, Bool, true, false, List, [], ◌∷◌, filter, cond, Option, Some, None, refl, sym, ap}
use Rattle.clu_base.specs.declared.rules.Rule.{Rule}
use Rattle.clu_tree.specs.declared.node.NodeKind.{NodeKind}
use Rattle.clu_tree.specs.declared.node.NodeKind.TheVariants as kind
use Rattle.clu_checking.specs.Rules.{all_rules, least}
use Rattle.clu_checking.specs.Refusals.{Walk, headings, rest, rules_by}
use Rattle.clu_type_rules.specs.Asked.{is_asked, rules_at, rules_of_headings, rules_of_rest}

-- what is not asked is not violated
pub least_kept : (violated asked : Rule → Bool) → ((r : Rule) → asked r ≡ false → violated r ≡ false) → (rs : List Rule) → least violated (filter asked rs) ≡ least violated rs
least_kept violated asked none [] = refl
least_kept violated asked none (r ∷ rs) = by (asked r) refl (least_kept violated asked none rs)
  where
    by : (b : Bool) → asked r ≡ b → least violated (filter asked rs) ≡ least violated rs → least violated (cond b (r ∷ filter asked rs) (filter asked rs)) ≡ elim (violated r) [ true ↦ Some r | false ↦ least violated rs ]
    by true is same = ap (λ (more : Option Rule). elim (violated r) [ true ↦ Some r | false ↦ more ]) same
    by false is same = same ∙ ap (λ (b : Bool). elim b [ true ↦ Some r | false ↦ least violated rs ]) (sym (none r is))

pub all_kept : (k : NodeKind) → filter (is_asked k) all_rules ≡ rules_at k
all_kept kind.File = refl
all_kept _ = refl

pub headings_kept : (k : NodeKind) (in_heading : Bool) → filter (is_asked k) (rules_by k headings in_heading) ≡ rules_of_headings k in_heading
headings_kept kind.Module in_heading = refl
headings_kept kind.Routine in_heading = refl
headings_kept kind.Cluster in_heading = refl
headings_kept _ true = refl
headings_kept _ false = refl

pub rest_kept : (k : NodeKind) (in_heading : Bool) → filter (is_asked k) (rules_by k rest in_heading) ≡ rules_of_rest k in_heading
rest_kept kind.Module in_heading = refl
rest_kept kind.Routine in_heading = refl
rest_kept kind.Cluster in_heading = refl
rest_kept _ true = refl
rest_kept _ false = refl
