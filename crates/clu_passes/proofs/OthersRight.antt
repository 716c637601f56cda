-- At statements, and at what else stands in routines and clusters, the rules over tables say what the definitions say, up to the first
-- that is violated.
use Rattle.std.proofs.Common.{◌≡◌, ◌∙◌, ℕ, ◌<◌, Bool, true, false, List, [], ◌∷◌, length, refl, sym, ap, subst}
use Rattle.std.specs.List.{AllByRecursion}
use Rattle.std.proofs.lemmas.Bool.{true≢false}
use Rattle.clu_base.specs.declared.rules.Rule.{Rule}
use Rattle.clu_base.specs.declared.rules.Rule.TheVariants as rule
use Rattle.clu_tree.specs.declared.node.NodeKind.{NodeKind}
use Rattle.clu_tree.specs.declared.node.NodeKind.TheVariants as kind
use Rattle.clu_parser.specs.Trees.{Text}
use Rattle.clu_syntax.specs.Items.{Item}
use Rattle.clu_checking.specs.Specifications.{Specification}
use Rattle.clu_checking.specs.Files.{File, kind_in, scope_in}
use Rattle.clu_checking.specs.NameRules.{disagrees_at, v4, v5}
use Rattle.clu_checking.specs.Refusals.{is_bad}
use Rattle.clu_checking.specs.Rules as definition
use Rattle.clu_name_rules.specs.NameRules as tables
use Rattle.clu_type_rules.specs.declared.known.Known.{Known}
use Rattle.clu_type_rules.specs.Asked.{condition, is_asked, rules_at, store}
use Rattle.clu_type_rules.specs.Known as its_known
use Rattle.clu_type_rules.specs.Bindings.{meanings}
use Rattle.clu_type_rules.specs.Objects.{names}
use Rattle.clu_type_rules.specs.Rules.{violates}
use Rattle.clu_passes.specs.Bound.{AreBadDecls, AreTargetsKnown, IsExceptionKnown, IsFirstKnown, IsNameKnown, IsVariableKnown, is_assigning}
use Rattle.clu_passes.specs.Clear.{IsOutside}
use Rattle.clu_passes.specs.ConstantTables.{file_with, AreBracketsKnown}
use Rattle.clu_passes.specs.Constructed.{IsTyped}
use Rattle.clu_passes.specs.Losing.{is_plain}
use Rattle.clu_passes.specs.Made.{IsWhole}
use Rattle.clu_passes.specs.OthersKnown.{AreOthersKnown, ArePlaced, is_in_headings}
use Rattle.clu_passes.specs.Refusing.{AgreeOn, IsOrder}
use Rattle.clu_passes.specs.Right.{AreStraight, IsFirst, IsQuiet}
use Rattle.clu_passes.specs.Trees.{is_of_constant}
use Rattle.clu_passes.proofs.OthersFine.{asks_values}
use Rattle.clu_passes.proofs.OthersRules as reading
use Rattle.clu_passes.proofs.OthersSame as so
use Rattle.clu_passes.proofs.OthersSeen as seen
use Rattle.clu_passes.proofs.ValuesKnown.{is_over_constants}

-- a demand may be made there
abbrev makes_demands : NodeKind → Bool
makes_demands kind.Oper = true
makes_demands kind.Restrict = true
makes_demands _ = false

module _ (t : Text) (k : Known) (library : List Specification) (refused : List ℕ) (all : IsWhole t k.tables library refused) (lost : ℕ → Bool)
    (known : AreOthersKnown (file_with k.tables.file (scope_in k.tables.file.syntax.now k.tables.file.rounds.now) library refused) k lost)
    (placed : ArePlaced (file_with k.tables.file (scope_in k.tables.file.syntax.now k.tables.file.rounds.now) library refused) k)
    (order : List ℕ) (circular : List Bool) (its_order : IsOrder (file_with k.tables.file (scope_in k.tables.file.syntax.now k.tables.file.rounds.now) library refused) k.tables.file.names.now order circular)
    (items : ℕ → Item) (bits : List Bool)
    (straight : AreStraight (file_with k.tables.file (scope_in k.tables.file.syntax.now k.tables.file.rounds.now) library refused) bits (is_bad (file_with k.tables.file (scope_in k.tables.file.syntax.now k.tables.file.rounds.now) library refused)))
    (decls : AreBadDecls (file_with k.tables.file (scope_in k.tables.file.syntax.now k.tables.file.rounds.now) library refused) bits (is_bad (file_with k.tables.file (scope_in k.tables.file.syntax.now k.tables.file.rounds.now) library refused)))
    (n : ℕ) (inside : n < length k.tables.file.syntax.now)
    (plain : is_plain (kind_in (file_with k.tables.file (scope_in k.tables.file.syntax.now k.tables.file.rounds.now) library refused) n) ≡ true)
    (apart : is_of_constant (kind_in (file_with k.tables.file (scope_in k.tables.file.syntax.now k.tables.file.rounds.now) library refused) n) ≡ false)
    (quiet : IsQuiet (file_with k.tables.file (scope_in k.tables.file.syntax.now k.tables.file.rounds.now) library refused) (is_bad (file_with k.tables.file (scope_in k.tables.file.syntax.now k.tables.file.rounds.now) library refused)) n)
    (first : IsFirst (file_with k.tables.file (scope_in k.tables.file.syntax.now k.tables.file.rounds.now) library refused) n) where
  abbrev f : File
  f = file_with k.tables.file (scope_in k.tables.file.syntax.now k.tables.file.rounds.now) library refused

  abbrev found : Rule → Bool
  found = violates k bits items n

  abbrev violated : Rule → Bool
  violated = definition.violates f (is_bad f) n

  abbrev Same : Rule → Type 0
  Same x = found x ≡ violated x

  abbrev Agree : NodeKind → Type 0
  Agree j = AgreeOn found violated (rules_at j)

  -- ---- what is the same in any case

  range : Same rule.LiteralRange
  range = so.same_range t k library refused all items bits n

  unknown : Same rule.UnknownName
  unknown = so.same_unknown t k library refused all items bits n

  -- where no demand is made
  defined : (j : NodeKind) → kind_in f n ≡ j → makes_demands j ≡ false → Same rule.DefinedTwice
  defined j is none = so.same_defined t k library refused all items bits n j is (none_found j none) (none_made j none)
    where
      none_found : (j : NodeKind) → makes_demands j ≡ false → tables.disagrees_by k.tables.file.syntax.now k.tables.file.names.now k.tables.circular.now bits k.disagrees.now j n ≡ false
      none_found kind.Oper e = absurd (true≢false e)
      none_found kind.Restrict e = absurd (true≢false e)
      none_found kind.File e = refl
      none_found _ e = refl

      none_made : (j : NodeKind) → makes_demands j ≡ false → disagrees_at f (is_bad f) j n ≡ false
      none_made kind.Oper e = absurd (true≢false e)
      none_made kind.Restrict e = absurd (true≢false e)
      none_made kind.File e = refl
      none_made _ e = refl

  outside : IsOutside f n
  outside = seen.outside f (so.of_file t k library refused all) (so.parents t k library refused all) k lost known placed n inside plain apart first

  brackets : AreBracketsKnown k.tables.file n
  brackets = so.no_brackets t k library refused all n apart outside

  -- ---- nothing is lost

  here_if : (j : NodeKind) → kind_in f n ≡ j → is_in_headings j ≡ false → asks_values j ≡ false → v4 f n ≡ false → v5 f n ≡ false → lost n ≡ false
  here_if j is none = seen.here_if f (so.of_file t k library refused all) (so.parents t k library refused all) k lost known placed n inside plain apart first (ap is_in_headings is ∙ none) j is

  here_named : (j : NodeKind) → kind_in f n ≡ j → is_in_headings j ≡ false → asks_values j ≡ false → is_asked j rule.UnknownName ≡ false → v4 f n ≡ false → lost n ≡ false
  here_named j is none = seen.here_named f (so.of_file t k library refused all) (so.parents t k library refused all) k lost known placed n inside plain apart first (ap is_in_headings is ∙ none) j is

  here_always : (j : NodeKind) → kind_in f n ≡ j → is_in_headings j ≡ false → asks_values j ≡ false → is_asked j rule.LiteralRange ≡ false → is_asked j rule.UnknownName ≡ false → lost n ≡ false
  here_always j is none = seen.here_always f (so.of_file t k library refused all) (so.parents t k library refused all) k lost known placed n inside plain apart first (ap is_in_headings is ∙ none) j is

  first_known : (j : NodeKind) → kind_in f n ≡ j → is_in_headings j ≡ false → lost n ≡ false → IsFirstKnown f lost n
  first_known j is none = seen.first_known f (so.of_file t k library refused all) (so.parents t k library refused all) k lost known placed n inside plain apart first (ap is_in_headings is ∙ none)

  -- ---- of some kinds

  typed : (j : NodeKind) → kind_in f n ≡ j → IsTyped k.tables j (its_known.children k n) → IsTyped k.tables (kind_in f n) (its_known.children k n)
  typed j is its = subst (λ (i : NodeKind). IsTyped k.tables i (its_known.children k n)) (sym is) its

  named : (j : NodeKind) → kind_in f n ≡ j → IsNameKnown k.tables.file j n (its_known.children k n) → IsNameKnown k.tables.file (kind_in f n) n (its_known.children k n)
  named j is its = subst (λ (i : NodeKind). IsNameKnown k.tables.file i n (its_known.children k n)) (sym is) its

  targets : (j : NodeKind) → kind_in f n ≡ j → AreTargetsKnown f k n j (meanings k n) → AreTargetsKnown f k n (kind_in f n) (meanings k n)
  targets j is its = subst (λ (i : NodeKind). AreTargetsKnown f k n i (meanings k n)) (sym is) its

  variables : (j : NodeKind) → kind_in f n ≡ j → is_in_headings j ≡ false → is_assigning j ≡ true → AllByRecursion (IsVariableKnown f k n) (meanings k n)
  variables j is none assigns = seen.variables_known f (so.of_file t k library refused all) (so.parents t k library refused all) k lost known placed n inside plain apart first (ap is_in_headings is ∙ none) (ap is_assigning is ∙ assigns)

  -- ---- parameters and where clauses

  parameter : kind_in f n ≡ kind.Parm → Agree kind.Parm
  unfolding is_over_constants
  parameter is =
      (range, λ a. (defined kind.Parm is refl, λ b. (so.same_kinds t k library refused all items bits n inside apart outside (seen.clear f (so.of_file t k library refused all) (so.parents t k library refused all) k lost known placed n inside plain apart first) (ap is_over_constants is), λ c. tt)))

  restriction : kind_in f n ≡ kind.Restrict → Agree kind.Restrict
  restriction is =
      (range, λ a. (unknown, λ b. (so.same_demands t k library refused all items bits straight known.rules.demands n is, λ c. (so.same_circle t k library refused all items bits n, λ d. (so.same_type t k library refused all items bits straight n apart outside, λ e. tt)))))

  -- ---- what stores a component

  stored : (j : NodeKind) → kind_in f n ≡ j → is_in_headings j ≡ false → asks_values j ≡ false → is_asked j rule.UnknownName ≡ false → IsTyped k.tables j (its_known.children k n) → AgreeOn found violated store
  stored j is none values five its = (
    range,
    λ a. let here : lost n ≡ false = here_named j is none values five a in (
      reading.same_operation t k library refused all lost known items bits n here,
      λ b. (
        reading.same_count t k library refused all lost known items bits n here,
        λ c. (
          reading.same_arguments t k library refused all lost known items bits n here (typed j is its),
          λ d.
              (reading.same_has t k library refused all lost known items bits n here inside, λ e. (reading.same_in t k library refused all lost known items bits n here inside, λ g. (reading.same_iterator t k library refused all lost known items bits n here, λ h. tt))),
        ),
      ),
    ),
  )

  -- ---- what is bound

  -- of variables, but for those that an assignment names
  bound_by : (j : NodeKind) → kind_in f n ≡ j → is_in_headings j ≡ false → lost n ≡ false → AreTargetsKnown f k n j (meanings k n) → Same rule.AssignType
  bound_by j is none here its = reading.same_assigned t k library refused all lost known items bits n here (targets j is its) (first_known j is none here)

  counted : (j : NodeKind) → kind_in f n ≡ j → lost n ≡ false → IsNameKnown k.tables.file j n (its_known.children k n) → Same rule.ResultCount
  counted j is here its = reading.same_number t k library refused all lost known items bits n here (named j is its) brackets

  own : kind_in f n ≡ kind.Own → Agree kind.Own
  own is = (
    range,
    λ a. let here : lost n ≡ false = here_named kind.Own is refl refl refl a in
        (defined kind.Own is refl, λ b. (counted kind.Own is here tt, λ c. (bound_by kind.Own is refl here tt, λ d. (so.same_own t k library refused all items bits n, λ e. tt)))),
  )

  initialised : kind_in f n ≡ kind.Init → Agree kind.Init
  initialised is = (
    range,
    λ a. let here : lost n ≡ false = here_named kind.Init is refl refl refl a in
        (defined kind.Init is refl, λ b. (counted kind.Init is here tt, λ c. (bound_by kind.Init is refl here tt, λ d. tt))),
  )

  assigned : kind_in f n ≡ kind.Assign → Agree kind.Assign
  assigned is = (
    range,
    λ a. (
      unknown,
      λ b. let here : lost n ≡ false = here_if kind.Assign is refl refl a b in
          (counted kind.Assign is here tt, λ c. (bound_by kind.Assign is refl here (variables kind.Assign is refl refl), λ d. tt)),
    ),
  )

  looped : kind_in f n ≡ kind.For → Agree kind.For
  looped is = (
    range,
    λ a. (
      unknown,
      λ b. let here : lost n ≡ false = here_if kind.For is refl refl a b in
          (counted kind.For is here tt, λ c. (bound_by kind.For is refl here (variables kind.For is refl refl), λ d. (reading.same_iterator t k library refused all lost known items bits n here, λ e. tt))),
    ),
  )

  -- ---- conditions and tags

  condition_at : (j : NodeKind) → kind_in f n ≡ j → is_in_headings j ≡ false → asks_values j ≡ false → is_asked j rule.LiteralRange ≡ false → is_asked j rule.UnknownName ≡ false → AgreeOn found violated condition
  condition_at j is none values four five = (reading.same_condition t k library refused all lost known items bits n (here_always j is none values four five), λ a. tt)

  tagged : kind_in f n ≡ kind.Tagcase → Agree kind.Tagcase
  tagged is =
      let here : lost n ≡ false = here_always kind.Tagcase is refl refl refl refl in
      (reading.same_tagged t k library refused all lost known items bits n here, λ a. (reading.same_tags t k library refused all lost known items bits n here (first_known kind.Tagcase is refl here), λ b. tt))

  tag_arm : kind_in f n ≡ kind.TagArm → Agree kind.TagArm
  tag_arm is = (
    range,
    λ a. let here : lost n ≡ false = here_named kind.TagArm is refl refl refl a in
        (defined kind.TagArm is refl, λ b. (bound_by kind.TagArm is refl here tt, λ c. (reading.same_tags t k library refused all lost known items bits n here (first_known kind.TagArm is refl here), λ d. tt))),
  )

  -- ---- what leaves a routine

  given_back : (j : NodeKind) → kind_in f n ≡ j → is_in_headings j ≡ false → asks_values j ≡ false → is_asked j rule.LiteralRange ≡ false → is_asked j rule.UnknownName ≡ false → Same rule.ReturnValues
  given_back j is none values four five =
      reading.same_results t k library refused all lost known items bits n (here_always j is none values four five) (seen.results_known f (so.of_file t k library refused all) (so.parents t k library refused all) k lost known placed n inside plain apart first (ap is_in_headings is ∙ none))

  yielded : kind_in f n ≡ kind.Yield → Agree kind.Yield
  yielded is = (so.same_iterators t k library refused all items bits known.parts n, λ a. (given_back kind.Yield is refl refl refl refl, λ b. tt))

  exceptions : (j : NodeKind) → kind_in f n ≡ j → is_in_headings j ≡ false → AllByRecursion (IsExceptionKnown f k n) (names k n)
  exceptions j is none = seen.exceptions_known f (so.of_file t k library refused all) (so.parents t k library refused all) k lost known placed n inside plain apart first (ap is_in_headings is ∙ none)

  signalled : kind_in f n ≡ kind.Signal → Agree kind.Signal
  signalled is = (
    range,
    λ a. (
      so.same_listed t k library refused all items bits known.parts n,
      λ b.
          (reading.same_signal t k library refused all lost known items bits n (here_named kind.Signal is refl refl refl a) is (exceptions kind.Signal is refl), λ c. tt),
    ),
  )

  resignalled : kind_in f n ≡ kind.Resignal → Agree kind.Resignal
  resignalled is = (
    range,
    λ a. (
      so.same_listed t k library refused all items bits known.parts n,
      λ b.
          (reading.same_resignal t k library refused all lost known items bits n (here_named kind.Resignal is refl refl refl a) is (exceptions kind.Resignal is refl), λ c. tt),
    ),
  )

  exited : kind_in f n ≡ kind.Exit → Agree kind.Exit
  exited is = (
    range,
    λ a. (
      reading.same_exit t k library refused all lost known items bits n (here_named kind.Exit is refl refl refl a) decls is (seen.arm_known f (so.of_file t k library refused all) (so.parents t k library refused all) k lost known placed n inside plain apart first (ap is_in_headings is) k.tables.file.names.now order circular its_order is),
      λ b.
          (so.same_exits t k library refused all items bits n, λ c. tt),
    ),
  )

  -- ---- arms

  arm_takes : (j : NodeKind) → kind_in f n ≡ j → is_in_headings j ≡ false → lost n ≡ false → Same rule.ArmTypes
  arm_takes j is none here = reading.same_arm_types t k library refused all lost known items bits n here (first_known j is none here)

  when : kind_in f n ≡ kind.When → Agree kind.When
  when is = (range, λ a. (arm_takes kind.When is refl (here_named kind.When is refl refl refl a), λ b. (so.same_arms t k library refused all items bits n, λ c. tt)))

  others : kind_in f n ≡ kind.Others → Agree kind.Others
  others is = (range, λ a. (defined kind.Others is refl, λ b. (arm_takes kind.Others is refl (here_named kind.Others is refl refl refl a), λ c. tt)))

  -- ---- all of them

  of_kind : (j : NodeKind) → is_plain j ≡ true → is_of_constant j ≡ false → kind_in f n ≡ j → Agree j
  of_kind kind.File plain apart is = absurd (true≢false (sym plain))
  of_kind kind.Module plain apart is = absurd (true≢false (sym plain))
  of_kind kind.Routine plain apart is = absurd (true≢false (sym plain))
  of_kind kind.Cluster plain apart is = absurd (true≢false (sym plain))
  of_kind kind.Parm plain apart is = parameter is
  of_kind kind.Restrict plain apart is = restriction is
  of_kind kind.Decl plain apart is = (range, λ a. (defined kind.Decl is refl, λ b. tt))
  of_kind kind.Own plain apart is = own is
  of_kind kind.Init plain apart is = initialised is
  of_kind kind.Assign plain apart is = assigned is
  of_kind kind.SetField plain apart is = stored kind.SetField is refl refl refl tt
  of_kind kind.SetIndex plain apart is = stored kind.SetIndex is refl refl refl tt
  of_kind kind.For plain apart is = looped is
  of_kind kind.While plain apart is = condition_at kind.While is refl refl refl refl
  of_kind kind.If plain apart is = condition_at kind.If is refl refl refl refl
  of_kind kind.Tagcase plain apart is = tagged is
  of_kind kind.TagArm plain apart is = tag_arm is
  of_kind kind.Return plain apart is = (given_back kind.Return is refl refl refl refl, λ a. tt)
  of_kind kind.Yield plain apart is = yielded is
  of_kind kind.Signal plain apart is = signalled is
  of_kind kind.Resignal plain apart is = resignalled is
  of_kind kind.Exit plain apart is = exited is
  of_kind kind.Break plain apart is = (so.same_loops t k library refused all items bits n, λ a. tt)
  of_kind kind.Continue plain apart is = (so.same_loops t k library refused all items bits n, λ a. tt)
  of_kind kind.When plain apart is = when is
  of_kind kind.Others plain apart is = others is
  of_kind kind.Exc plain apart is = absurd (true≢false apart)
  of_kind kind.Oper plain apart is = absurd (true≢false apart)
  of_kind kind.Equate plain apart is = absurd (true≢false apart)
  of_kind kind.TypeSet plain apart is = absurd (true≢false apart)
  of_kind kind.Simple plain apart is = absurd (true≢false apart)
  of_kind kind.ListT plain apart is = absurd (true≢false apart)
  of_kind kind.FieldsT plain apart is = absurd (true≢false apart)
  of_kind kind.RoutineT plain apart is = absurd (true≢false apart)
  of_kind kind.NameT plain apart is = absurd (true≢false apart)
  of_kind kind.FieldT plain apart is = absurd (true≢false apart)
  of_kind kind.FieldE plain apart is = absurd (true≢false apart)
  of_kind kind.Infix plain apart is = absurd (true≢false apart)
  of_kind kind.Prefix plain apart is = absurd (true≢false apart)
  of_kind kind.Get plain apart is = absurd (true≢false apart)
  of_kind kind.Call plain apart is = absurd (true≢false apart)
  of_kind kind.Paren plain apart is = absurd (true≢false apart)
  of_kind kind.Force plain apart is = absurd (true≢false apart)
  of_kind kind.Literal plain apart is = absurd (true≢false apart)
  of_kind kind.Name plain apart is = absurd (true≢false apart)
  of_kind kind.Index plain apart is = absurd (true≢false apart)
  of_kind kind.Fields plain apart is = absurd (true≢false apart)
  of_kind kind.Elems plain apart is = absurd (true≢false apart)
  of_kind kind.OperOf plain apart is = absurd (true≢false apart)
  of_kind kind.Up plain apart is = absurd (true≢false apart)
  of_kind kind.Down plain apart is = absurd (true≢false apart)
  of_kind kind.Results plain apart is = absurd (true≢false apart)
  of_kind kind.Signals plain apart is = absurd (true≢false apart)
  of_kind _ plain apart is = (range, λ a. tt)

  pub others_right : AgreeOn (violates k bits items n) (definition.violates f (is_bad f) n) (rules_at (kind_in f n))
  others_right = of_kind (kind_in f n) plain apart refl
