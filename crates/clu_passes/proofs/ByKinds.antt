-- What is asked of a node of a tree of the grammar is what its kind may violate.
use Rattle.std.proofs.Common.{◌≡◌, ◌∙◌, ℕ, Bool, true, false, List, [], Option, Some, None, refl, sym, ap}
use Rattle.std.specs.Prelude.{slice_get}
use Rattle.clu_base.specs.declared.rules.Rule.{Rule}
use Rattle.clu_base.specs.declared.rules.Rule.TheVariants as rule
use Rattle.clu_tree.specs.declared.node.Node.{Node}
use Rattle.clu_tree.specs.declared.node.NodeKind.TheVariants as kind
use Rattle.clu_syntax.specs.Kinds.{kind_of}
use Rattle.clu_syntax.specs.Slots.{is_right_side}
use Rattle.clu_syntax.specs.Rounds.{round_at}
use Rattle.clu_checking.specs.Files.{File, kind_in, is_kind_at, names, node_names, stands_in}
use Rattle.clu_checking.specs.Rules.{violates, least, all_rules}
use Rattle.clu_checking.specs.Refusals.{headings, rest, rules_by}
use Rattle.clu_passes.specs.Trees.{IsFileOfTree}
use Rattle.clu_type_rules.specs.Asked.{is_asked, rules_at, rules_of_headings, rules_of_rest}
use Rattle.clu_passes.proofs.Elsewhere.{elsewhere}
use Rattle.clu_passes.proofs.Least.{least_kept, all_kept, headings_kept, rest_kept}
use Rattle.clu_passes.proofs.Nameless.{nameless}
use Rattle.clu_passes.proofs.RightSides.{is_equate_at, right_sides}

module _ (f : File) (of : IsFileOfTree f) (bad : ℕ → Bool) (n : ℕ) where
  no_names : is_asked (kind_in f n) rule.LiteralRange ≡ false → names f n ≡ []
  no_names = by (slice_get f.nodes n) refl
    where
      by : (its : Option Node) → slice_get f.nodes n ≡ its → is_asked (kind_of its) rule.LiteralRange ≡ false → node_names f its ≡ []
      by None at e = refl
      by (Some node) at e = nameless f.nodes of.shaped n node at e

  in_equate : stands_in f kind.Equate n ≡ true → is_right_side (kind_in f n) ≡ true
  in_equate e = right_sides f.nodes f.rounds of.shaped of.ordered of.tree of.surrounded n (same (round_at f.rounds n).parent ∙ e)
    where
      same : (o : Option ℕ) → is_equate_at f.nodes o ≡ is_kind_at f kind.Equate o
      same None = refl
      same (Some p) = refl

  pub not_elsewhere : (r : Rule) → is_asked (kind_in f n) r ≡ false → violates f bad n r ≡ false
  not_elsewhere r e = elsewhere f bad n no_names in_equate r e

  pub least_at : least (violates f bad n) all_rules ≡ least (violates f bad n) (rules_at (kind_in f n))
  least_at = sym (least_kept (violates f bad n) (is_asked (kind_in f n)) not_elsewhere all_rules) ∙ ap (least (violates f bad n)) (all_kept (kind_in f n))

  pub least_of_headings : (in_heading : Bool) → least (violates f bad n) (rules_by (kind_in f n) headings in_heading) ≡ least (violates f bad n) (rules_of_headings (kind_in f n) in_heading)
  least_of_headings h = sym (least_kept (violates f bad n) (is_asked (kind_in f n)) not_elsewhere (rules_by (kind_in f n) headings h)) ∙ ap (least (violates f bad n)) (headings_kept (kind_in f n) h)

  pub least_of_rest : (in_heading : Bool) → least (violates f bad n) (rules_by (kind_in f n) rest in_heading) ≡ least (violates f bad n) (rules_of_rest (kind_in f n) in_heading)
  least_of_rest h = sym (least_kept (violates f bad n) (is_asked (kind_in f n)) not_elsewhere (rules_by (kind_in f n) rest h)) ∙ ap (least (violates f bad n)) (rest_kept (kind_in f n) h)
