-- At statements, and at what else stands in routines and clusters, the rules on names, and those that ask no types, say by tables what
-- the definitions say.
use Rattle.std.proofs.Common.{◌≡◌, ◌∙◌, ℕ, ◌+◌, ◌^◌, ◌<◌, ◌||◌, ◌&&◌, not, Bool, true, false, List, [], ◌∷◌, length, replicate, Option, Some, None, refl, sym, ap, ap₂, subst, arith}
use Rattle.std.specs.Prelude.{slice_get}
use Rattle.std.specs.List.{list_any}
use Rattle.std.proofs.lemmas.Bool.{true≢false}
use Rattle.clu_base.specs.declared.rules.Rule.{Rule}
use Rattle.clu_base.specs.declared.rules.Rule.TheVariants as rule
use Rattle.clu_tree.specs.Nodes.{IsTree}
use Rattle.clu_tree.specs.declared.node.NodeKind.{NodeKind}
use Rattle.clu_tree.specs.declared.node.NodeKind.TheVariants as kind
use Rattle.clu_parser.specs.Shape.{HaveForms}
use Rattle.clu_parser.specs.Trees.{Text}
use Rattle.clu_syntax.specs.Items.{Item}
use Rattle.clu_syntax.specs.Kinds.{kind_at}
use Rattle.clu_syntax.specs.Syntax.{Identifier}
use Rattle.clu_names.specs.Scopes.{declarations}
use Rattle.clu_meaning.specs.Scoping.{Scope}
use Rattle.clu_checking.specs.Specifications.{Specification}
use Rattle.clu_checking.specs.Files.{File, children, equate_named, kind_in, names, parent, scope_in}
use Rattle.clu_checking.specs.Equates.{is_bad_name, is_circular_at}
use Rattle.clu_checking.specs.NameRules.{clause_round, disagrees_at, disagrees_with, is_defined_twice, is_unusable}
use Rattle.clu_checking.specs.Refusals.{is_bad}
use Rattle.clu_checking.specs.Rules as definition
use Rattle.clu_bindings.specs.declared.file.File.{File as Read}
use Rattle.clu_name_rules.specs.NameRules as tables
use Rattle.clu_name_rules.specs.NameRules.{leads_to_mark}
use Rattle.clu_type_rules.specs.declared.known.Known.{Known}
use Rattle.clu_type_rules.specs.Rules.{violates}
use Rattle.clu_passes.specs.ConstantTables.{file_with, AreBracketsKnown, AreTables, IsIndexKnown, IsIndexKnownAt, IsWantedKnown}
use Rattle.clu_passes.specs.Clear.{IsClear, IsOutside}
use Rattle.clu_passes.specs.Firsts.{AreItems}
use Rattle.clu_passes.specs.Made.{IsWhole}
use Rattle.clu_passes.specs.Notes.{DeclareModules, HaveParents}
use Rattle.clu_passes.specs.Right.{AreStraight}
use Rattle.clu_passes.specs.Routines.{AreParts, StandInRoutines}
use Rattle.clu_passes.specs.RulesKnown.{AreDemandsKnown}
use Rattle.clu_passes.specs.Tables.{AreMeanings, TellStrings}
use Rattle.clu_passes.specs.Trees.{IsFileOfTree, is_of_constant}
use Rattle.clu_passes.specs.Turns.{bit}
use Rattle.clu_passes.proofs.Actuals.{v19_is}
use Rattle.clu_passes.proofs.ArmNames.{v24_is}
use Rattle.clu_passes.proofs.BadEquates.{names_are}
use Rattle.clu_passes.proofs.ClustersRound.{of_kinds}
use Rattle.clu_passes.proofs.Constants.{bad_rep, too_long_type, v9_by}
use Rattle.clu_passes.proofs.DefinedTwice.{defined_told}
use Rattle.clu_passes.proofs.Disagreed as demands
use Rattle.clu_passes.proofs.Exits.{v27_is}
use Rattle.clu_passes.proofs.FoundStrings.{found_strings}
use Rattle.clu_passes.proofs.Leaving.{v28_is, v29_is}
use Rattle.clu_passes.proofs.Listed.{v25_is}
use Rattle.clu_passes.proofs.Literals.{v4_is}
use Rattle.clu_passes.proofs.Marked.{v7_is}
use Rattle.clu_passes.proofs.MeaningsThere.{meanings_are}
use Rattle.clu_passes.proofs.OthersFine.{no_constant}
use Rattle.clu_passes.proofs.OwnPlaces.{v37_is}
use Rattle.clu_passes.proofs.Strings.{strings_told}
use Rattle.clu_passes.proofs.Surrounding.{stand}
use Rattle.clu_passes.proofs.Tables.{bound_is}
use Rattle.clu_passes.proofs.TablesMade.{tables_are}
use Rattle.clu_passes.proofs.TargetsMean as naming
use Rattle.clu_passes.proofs.TypesAgree.{no_operator, no_type_name}
use Rattle.clu_passes.proofs.TypesSettled.{types_same}
use Rattle.clu_passes.proofs.Units.{declare_modules}
use Rattle.clu_passes.proofs.Unknown.{v5_is}
use Rattle.clu_passes.proofs.ValuesKnown as at
use Rattle.clu_passes.proofs.ValuesKnown.{is_over_constants}

module _ (t : Text) (k : Known) (library : List Specification) (refused : List ℕ) (all : IsWhole t k.tables library refused) where
  abbrev pub r : Read
  r = k.tables.file

  abbrev pub scope : Scope
  scope = scope_in k.tables.file.syntax.now k.tables.file.rounds.now

  abbrev pub f : File
  f = file_with k.tables.file (scope_in k.tables.file.syntax.now k.tables.file.rounds.now) library refused

  -- ---- what the tables are

  abbrev pub of_file : IsFileOfTree f
  of_file = at.of_tree t k.tables library refused all.made all.lost

  pub parents : HaveParents f
  parents = at.parents t k.tables library refused all.made all.lost

  pub are : AreTables f k.tables
  are = tables_are t k.tables library refused all.made

  pub modules : DeclareModules f
  modules = declare_modules t f all.made.file.parsed all.made.file.rounds refl

  pub stands : StandInRoutines f
  stands = stand f.nodes f.rounds all.made.file.parsed.tree all.made.file.rounds

  pub firsts : AreItems f k.tables
  firsts = record { words = all.words; noted = all.noted }

  strings : TellStrings f r.values.now
  strings = strings_told f k.tables.types.now r.constants.now r.values.now all.made.file.values (found_strings f all.made.file.parsed.forms all.made.file.parsed.tree r.values.now all.lost)

  meant : AreMeanings f r.names.now r.bindings.now.meanings.items
  meant = meanings_are t r library refused k.tables.types.now all.made.file

  few : length r.syntax.now < 2 ^ 32
  few = let both : length r.syntax.now + length (declarations r.syntax.now r.rounds.now) < 2 ^ 32 = all.made.file.few in omega (arith, both)

  -- ---- of a node that is no constant brackets ask nothing

  pub no_brackets : (n : ℕ) → is_of_constant (kind_in f n) ≡ false → IsOutside f n → AreBracketsKnown r n
  no_brackets n apart outside = record {
    own = λ is. absurd (true≢false (sym (ap is_of_constant is) ∙ apart));
    round = by n outside.beside (parent f n) refl;
    above = λ p up. by p (λ q over is. outside.above p q up over is) (parent f p) refl;
  }
    where
      by : (m : ℕ) → ((p : ℕ) → parent f m ≡ Some p → kind_in f p ≡ kind.Index → ⊥) → (o : Option ℕ) → parent f m ≡ o → IsIndexKnownAt r o
      by m beside None up = tt
      by m beside (Some p) up = λ is. absurd (beside p up is)

  module _ (items : ℕ → Item) (bits : List Bool) where
    abbrev Same : ℕ → Rule → Type 0
    Same n x = violates k bits items n x ≡ definition.violates f (is_bad f) n x

    -- ---- names

    pub same_range : (n : ℕ) → Same n rule.LiteralRange
    same_range n = sym (v4_is f r.values.now strings items n)

    pub same_unknown : (n : ℕ) → Same n rule.UnknownName
    same_unknown n = sym (v5_is f r.names.now are.names r.bindings.now.meanings.items meant n)

    pub same_circle : (n : ℕ) → Same n rule.CircularEquate
    same_circle n = sym (v7_is f all.made.file.parsed.forms k.tables.circular.now are.marks n ∙ ap (λ (bounds : List (Option ℕ)). leads_to_mark k.tables.circular.now (kind_at f.nodes n) bounds) (sym (bound_is f r.names.now are.names n)))

    pub same_own : (n : ℕ) → Same n rule.OwnPlace
    same_own n = sym (v37_is f all.made.file.parsed.forms r.names.now are.names n)

    twice : (n : ℕ) → tables.is_defined_twice items r.syntax.now r.rounds.now r.names.now k.tables.items.now.repeated.items k.tables.own.now n ≡ is_defined_twice f n
    twice n =
        ap (λ (own : List ℕ). tables.is_defined_twice items r.syntax.now r.rounds.now r.names.now k.tables.items.now.repeated.items own n) all.own
        ∙ sym (defined_told t f all.made.file.parsed all.made.file.rounds refl few r.names.now all.made.file.names k.tables.items.now.repeated.items all.noted.repeated items n)

    abbrev disagrees : NodeKind → ℕ → Bool
    disagrees other n = tables.disagrees_by r.syntax.now r.names.now k.tables.circular.now bits k.disagrees.now other n

    same_with : (n : ℕ) → disagrees (kind_in f n) n ≡ disagrees_at f (is_bad f) (kind_in f n) n → Same n rule.DefinedTwice
    same_with n demands = ap₂ (λ (a b : Bool). a || b) (twice n) demands

    -- where no demand is made
    pub same_defined : (n : ℕ) (other : NodeKind) → kind_in f n ≡ other → disagrees other n ≡ false → disagrees_at f (is_bad f) other n ≡ false → Same n rule.DefinedTwice
    same_defined n other is neither nor =
        same_with n (ap (λ (j : NodeKind). disagrees j n) is ∙ neither ∙ sym nor ∙ sym (ap (λ (j : NodeKind). disagrees_at f (is_bad f) j n) is))

    -- ---- signals, exits, arms and jumps

    pub same_arms : (n : ℕ) → Same n rule.ArmTwice
    same_arms n = sym (v24_is f parents modules k.tables.items.now.repeated.items all.noted.repeated n)

    pub same_exits : (n : ℕ) → Same n rule.ExitNoArm
    same_exits n = sym (v27_is k scope library refused t all.made.file.parsed all.made.file.rounds firsts n)

    pub same_loops : (n : ℕ) → Same n rule.NotInLoop
    same_loops n = sym (v28_is f n)

    module _ (parts : AreParts f k.routines.now.parts.items) where
      pub same_listed : (n : ℕ) → Same n rule.SignalNotListed
      same_listed n = sym (v25_is k scope library refused all.made.file.parsed.forms all.made.file.parsed.tree firsts stands parts n)

      pub same_iterators : (n : ℕ) → Same n rule.NotInIterator
      same_iterators n = sym (v29_is f stands k.routines.now.parts.items parts n)

    -- ---- parameters

    pub same_kinds : (n : ℕ) → n < length f.nodes → is_of_constant (kind_in f n) ≡ false → IsOutside f n → IsClear f n → is_over_constants (kind_at f.nodes n) ≡ true → Same n rule.ParameterKind
    same_kinds n inside apart outside clear over =
        sym (v19_is k.tables scope library refused all.made.file.parsed.forms all.made.file.parsed.tree are n (at.children_known t k.tables library refused all.made all.lost n inside clear over) (no_brackets n apart outside))

    -- ---- where bits say which equates are bad

    module _ (straight : AreStraight f bits (is_bad f)) where
      named : (n : ℕ) (name : Identifier) → is_bad_name f (bit bits) n name ≡ is_bad_name f (is_bad f) n name
      named = names_are f (bit bits) (is_bad f) straight

      pub same_type : (n : ℕ) → is_of_constant (kind_in f n) ≡ false → IsOutside f n → Same n rule.NotType
      same_type n apart outside =
          sym (v9_by k.tables scope library refused all.made.file.parsed.forms all.made.file.parsed.tree are bits (bit bits) (λ e is. refl) items n
          (no_operator r (kind_in f n) n (no_constant (kind_in f n) apart)) (no_type_name r (kind_in f n) n (no_constant (kind_in f n) apart)) (no_brackets n apart outside)
          (bad_rep k.tables scope library refused all.made.file.parsed.forms all.made.file.parsed.tree are items n (λ const. absurd (true≢false (sym const ∙ no_constant (kind_in f n) apart))))
          (too_long_type k.tables scope library refused all.made.file.parsed.forms all.made.file.parsed.tree are n (λ const. absurd (true≢false (sym const ∙ no_constant (kind_in f n) apart)))))
          ∙ types_same f (bit bits) (is_bad f) n (named n) rule.NotType

      unusable_same : (n : ℕ) (its : List Identifier) → list_any (is_unusable f (bit bits) n) its ≡ list_any (is_unusable f (is_bad f) n) its
      unusable_same n [] = refl
      unusable_same n (name ∷ its) = ap₂ (λ (a b : Bool). (is_circular_at f (equate_named f n name) || a) || b) (named n name) (unusable_same n its)

      -- at a Restrict
      pub same_demands : AreDemandsKnown f k → (n : ℕ) → kind_in f n ≡ kind.Restrict → Same n rule.DefinedTwice
      same_demands known n is =
          same_with n
          (ap (λ (b : List Bool). tables.disagrees_by r.syntax.now r.names.now k.tables.circular.now bits b (kind_in f n) n) known.bits
          ∙ sym (demands.disagrees_same k.tables scope library refused all.made.file.parsed.forms all.made.file.parsed.tree are bits (bit bits) (λ e hit. refl) known.terms known.arena k.headed.heads.now.asked known.told (of_kinds f all.made.file.parsed.tree all.made.file.rounds) n)
          ∙ ap (λ (j : NodeKind). disagrees_at f (bit bits) j n) is
          ∙ ap (λ (b : Bool). not b && disagrees_with n [] (clause_round f (is_bad f) n)) (unusable_same n (names f n))
          ∙ sym (ap (λ (j : NodeKind). disagrees_at f (is_bad f) j n) is))
