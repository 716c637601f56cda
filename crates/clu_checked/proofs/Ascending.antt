-- What rules look for by its name ascends in headings and in equates, where none looks for tags.
use Rattle.std.proofs.Common.{◌≡◌, ◌&&◌, ◌||◌, ℕ, Bool, true, false, List, [], ◌∷◌, Option, Some, None, inl, inr, refl, sym}
use Rattle.std.specs.Prelude.{slice_get}
use Rattle.std.proofs.lemmas.Bool.{true≢false, cases_Bool}
use Rattle.clu_base.specs.declared.rules.Rule.{Rule}
use Rattle.clu_base.specs.declared.rules.Rule.TheVariants as rule
use Rattle.clu_tree.specs.declared.node.Node.{Node}
use Rattle.clu_tree.specs.declared.node.NodeKind.{NodeKind}
use Rattle.clu_tree.specs.declared.node.NodeKind.TheVariants as kind
use Rattle.clu_parser.specs.Trees.{Text}
use Rattle.clu_syntax.specs.declared.round.Round.{Round}
use Rattle.clu_syntax.specs.Items.{Item}
use Rattle.clu_syntax.specs.Kinds.{kind_at, kind_of}
use Rattle.clu_syntax.specs.Rounds.{AreRounds, round_at}
use Rattle.clu_syntax.specs.Splits.{is_of}
use Rattle.clu_declares.specs.Declares.{IsParsed}
use Rattle.clu_head.specs.There.{is_there}
use Rattle.clu_bindings.specs.Files.{stands_in}
use Rattle.clu_name_rules.specs.Constructors.{ValuesAscend}
use Rattle.clu_type_rules.specs.declared.known.Known.{Known}
use Rattle.clu_type_rules.specs.Asked.{rules_at, rules_of_headings, rules_of_rest}
use Rattle.clu_type_rules.specs.Tags.{TagsAscend}
use Rattle.clu_passes.specs.Tags.{asks_tags, is_of_tags}
use Rattle.clu_passes.proofs.TagsAsked.{none_in_equates, none_in_headings}
use Rattle.clu_check_mod.specs.Asking.{RuleAscends, RulesAscend}
use Rattle.clu_check_mod.specs.Bad.{EquatesAscend}
use Rattle.clu_check_mod.specs.Walks.{WalksAscend}
use Rattle.clu_check_mod.specs.declared.rules.Walk.TheVariants as walk
use Rattle.clu_check_mod.specs.declared.walk.Extent.{Extent}
use Rattle.clu_checked.specs.Checked.{TagsKnown}

module _ (k : Known) (n : ℕ) where
  one_unasked : (r : Rule) (rest : Bool) → (is_of_tags r || rest) ≡ false → RuleAscends k n r × (rest ≡ false)
  unfolding RuleAscends
  one_unasked rule.AssignType rest none = absurd (true≢false none)
  one_unasked rule.TagMissingOrTwice rest none = absurd (true≢false none)
  one_unasked _ rest none = (tt, none)

  -- where none of the rules looks for tags
  unasked : (rules : List Rule) → asks_tags rules ≡ false → RulesAscend k n rules
  unfolding RulesAscend
  unasked [] none = tt
  unasked (r ∷ rules) none =
      let its = one_unasked r (asks_tags rules) none in
      (its.0, unasked rules its.1)

  one_known : (r : Rule) → TagsAscend k n → RuleAscends k n r
  unfolding RuleAscends
  one_known rule.AssignType up = up
  one_known rule.TagMissingOrTwice up = up
  one_known _ up = tt

  -- where the tags ascend
  all_known : (rules : List Rule) → TagsAscend k n → RulesAscend k n rules
  unfolding RulesAscend
  all_known [] up = tt
  all_known (r ∷ rules) up = (one_known r up, all_known rules up)

  if_asked : (rules : List Rule) → (asks_tags rules ≡ true → TagsAscend k n) → RulesAscend k n rules
  if_asked rules up = elim (cases_Bool (asks_tags rules)) [
    | inl asked ↦ all_known rules (up asked)
    | inr none ↦ unasked rules none
  ]

-- ---- what the walks ask

of_headings : (its : NodeKind) (heading : Bool) → (heading ≡ true → asks_tags (rules_at its) ≡ false) → asks_tags (rules_of_headings its heading) ≡ false
of_headings kind.Module heading none = refl
of_headings kind.Routine heading none = refl
of_headings kind.Cluster heading none = refl
of_headings _ true none = none refl
of_headings _ false none = refl

of_rest : (its : NodeKind) (heading : Bool) → asks_tags (rules_of_rest its heading) ≡ true → asks_tags (rules_at its) ≡ true
of_rest kind.Module heading asked = absurd (true≢false (sym asked))
of_rest kind.Routine heading asked = absurd (true≢false (sym asked))
of_rest kind.Cluster heading asked = absurd (true≢false (sym asked))
of_rest _ true asked = absurd (true≢false (sym asked))
of_rest _ false asked = asked

-- ---- equates and Decls

either_kind : (a b c : Bool) → (a || (b && c)) ≡ true → (a || b) ≡ true
either_kind true b c is = refl
either_kind false true c is = refl
either_kind false false c is = is

settled_kind : (o : Option Node) (c : Bool) → (is_there kind.Equate o || (is_there kind.Decl o && c)) ≡ true → (is_of kind.Equate (kind_of o) || is_of kind.Decl (kind_of o)) ≡ true
settled_kind (Some node) c is = either_kind (is_of kind.Equate node.kind) (is_of kind.Decl node.kind) c is
settled_kind None c is = absurd (true≢false (sym is))

module _ (t : Text) (k : Known) (parsed : IsParsed t k.tables.file.syntax.now) (are : AreRounds k.tables.file.syntax.now k.tables.file.rounds.now) where
  abbrev nodes : List Node
  nodes = k.tables.file.syntax.now

  abbrev rounds : List Round
  rounds = k.tables.file.rounds.now

  pub equates_ascend : ValuesAscend k.tables → EquatesAscend k
  equates_ascend up = (up, λ n is m from to. unasked k m (rules_at (kind_at nodes m)) (none_in_equates t nodes rounds parsed are n (settled_kind (slice_get nodes n) (stands_in nodes rounds kind.When n) is) m from to))

  pub walks_ascend : (bad : List Bool) (items : ℕ → Item) (asked : Extent) → TagsKnown k bad items asked → WalksAscend k bad items asked
  walks_ascend bad items asked known = (
    λ n l before. unasked k n (rules_of_headings (kind_at nodes n) (round_at rounds n).heading) (of_headings (kind_at nodes n) (round_at rounds n).heading (none_in_headings t nodes rounds parsed are n)),
    λ whole none n l before. if_asked k n (rules_of_rest (kind_at nodes n) (round_at rounds n).heading) (λ tags. known whole none n l before (of_rest (kind_at nodes n) (round_at rounds n).heading tags)),
  )
