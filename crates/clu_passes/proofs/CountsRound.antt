-- A type set is of the module of each node in it, which has as many parameters.
use Rattle.std.proofs.Common.{◌≡◌, ◌∙◌, ◌⊎◌, inl, inr, ◌+◌, ◌<◌, ◌≤◌, nat_le, ℕ, true, false, List, [], ◌∷◌, Option, Some, None, refl, sym, ap, arith}
use Rattle.std.specs.List.{AllByRecursion}
use Rattle.std.proofs.lemmas.Bool.{true≢false, and_parts, cases_lt, leb-true}
use Rattle.clu_tree.specs.declared.node.Node.{Node}
use Rattle.clu_tree.specs.declared.node.NodeKind.{NodeKind}
use Rattle.clu_tree.specs.declared.node.NodeKind.TheVariants as kind
use Rattle.clu_parser.specs.Order.{IsForest, none, tree}
use Rattle.clu_parser.specs.Trees.{Text}
use Rattle.clu_syntax.specs.declared.round.Round.{Round}
use Rattle.clu_syntax.specs.Kinds.{kind_at, kind_of}
use Rattle.clu_syntax.specs.Rounds.{AreRounds, round_at, unit_in}
use Rattle.clu_syntax.specs.Splits.{is_of}
use Rattle.clu_names.specs.Scopes.{declarations}
use Rattle.clu_meaning.specs.Scoping.{Scope, parameter_number}
use Rattle.clu_checking.specs.Specifications.{Specification}
use Rattle.clu_checking.specs.Files.{is_kind, round, stands_below, parameters_round}
use Rattle.clu_bindings.specs.declared.file.File.{File}
use Rattle.clu_bindings.specs.Parameters.{AreParameters}
use Rattle.clu_declares.specs.Declares.{AreFew, IsParsed}
use Rattle.clu_declares.proofs.Around.{IsAround}
use Rattle.clu_declares.proofs.Below.{same_kind}
use Rattle.clu_declares.proofs.Facts.{There, around_at, there}
use Rattle.clu_declares.proofs.Modules.{unit_is}
use Rattle.clu_declares.proofs.Numbered.{count_is}
use Rattle.clu_operations.specs.Clauses.{count_of, count_round}
use Rattle.clu_passes.specs.ConstantTables.{file_with}
use Rattle.clu_passes.specs.Trees.{is_of_constant}
use Rattle.clu_passes.proofs.InEquates.{in_constants}
use Rattle.clu_passes.proofs.Subtrees.{is_subtree}

no_module : (k : NodeKind) → is_of_constant k ≡ true → is_of kind.Module k ≡ false
no_module kind.Module e = absurd (true≢false (sym e))
no_module _ e = refl

same_unit : (k : NodeKind) (n : ℕ) (r : Round) → is_of kind.Module k ≡ false → unit_in k n r ≡ r.unit
same_unit kind.Module n r e = absurd (true≢false e)
same_unit _ n r e = refl

upwards : (nodes : List Node) (from to : ℕ) (roots : List ℕ) → IsForest nodes from roots to → from ≤ to
upwards nodes from to _ (none _) = omega arith
upwards nodes from to _ (tree _ root _ its roots here inside behind) =
    let before : from ≤ root = upwards nodes from root its.children inside in
    let after : root + 1 ≤ to = upwards nodes (root + 1) to roots behind in
    omega (arith, before, after)

module _ (t : Text) (nodes : List Node) (rounds : List Round) (parsed : IsParsed t nodes) (are : AreRounds nodes rounds) where
  -- ---- nodes of one module

  module _ (unit : Option ℕ) where
    abbrev AreOf : List ℕ → Type 0
    AreOf cs = AllByRecursion (λ c. (round_at rounds c).unit ≡ unit) cs

    of_children : (n : ℕ) (node : Node) → is_of kind.Module node.kind ≡ false → (round_at rounds n).unit ≡ unit → (cs : List ℕ) → AllByRecursion (IsAround rounds n node) cs → AreOf cs
    of_children n node other its [] around = tt
    of_children n node other its (c ∷ cs) around = (around.0.unit ∙ same_unit node.kind n (round_at rounds n) other ∙ its, of_children n node other its cs around.1)

    of_forest : (from to : ℕ) (roots : List ℕ) → IsForest nodes from roots to → ((k : ℕ) → from ≤ k → k < to → is_of kind.Module (kind_at nodes k) ≡ false) → AreOf roots → (n : ℕ) → from ≤ n → n < to → (round_at rounds n).unit ≡ unit
    of_forest from to _ (none _) others all n l m = absurd (omega (arith, l, m))
    of_forest from to _ (tree _ root _ its roots here inside behind) others all n l m =
        let before : from ≤ root = upwards nodes from root its.children inside in
        let after : root + 1 ≤ to = upwards nodes (root + 1) to roots behind in
        elim (cases_lt n root) [
          | inl less ↦
              of_forest from root its.children inside (λ k a b. others k a (omega (arith, b, after)))
              (of_children root its (sym (ap (λ (o : Option Node). is_of kind.Module (kind_of o)) here) ∙ others root before (omega (arith, after))) all.0 its.children (around_at t nodes rounds parsed are root its here)) n l less
          | inr upto ↦ elim (cases_lt root n) [
            | inl later ↦ of_forest (root + 1) to roots behind (λ k a b. others k (omega (arith, a, before)) b) all.1 n (omega (arith, later)) m
            | inr back ↦ (let same : root ≡ n = omega (arith, upto, back) in ap (λ (k : ℕ). (round_at rounds k).unit) (sym same) ∙ all.0)
          ]
        ]

  -- the module round a type set is the one round what stands in it
  in_set : (s : ℕ) → kind_at nodes s ≡ kind.TypeSet → (n : ℕ) → (round_at rounds s).first ≤ n → n ≤ s → (round_at rounds n).unit ≡ (round_at rounds s).unit
  in_set s is n low high = by (there nodes s kind.TypeSet refl is) (cases_lt n s)
    where
      by : There nodes s kind.TypeSet → (n < s) ⊎ (s ≤ n) → (round_at rounds n).unit ≡ (round_at rounds s).unit
      by x (inr same) = let at : n ≡ s = omega (arith, high, same) in ap (λ (k : ℕ). (round_at rounds k).unit) at
      by x (inl less) =
          of_forest (round_at rounds s).unit (round_at rounds s).first s x.node.children (is_subtree nodes rounds parsed.tree are parsed.order s x.node x.at)
          (λ k a b. no_module (kind_at nodes k) (in_constants nodes rounds parsed.forms parsed.order parsed.tree are s x.node x.at (ap is_of_constant x.is) k a b))
          (of_children (round_at rounds s).unit s x.node (ap (is_of kind.Module) x.is) refl x.node.children (around_at t nodes rounds parsed are s x.node x.at)) n low less

-- how many parameters the module has
module _ (t : Text) (r : File) (scope : Scope) (library : List Specification) (refused : List ℕ) (parsed : IsParsed t r.syntax.now) (are : AreRounds r.syntax.now r.rounds.now) (few : AreFew r.syntax.now r.rounds.now)
    (parameters : AreParameters r.syntax.now r.rounds.now (declarations r.syntax.now r.rounds.now) r.bindings.now.parameters) where
  of_unit : (s : ℕ) (unit : Option ℕ) → (round_at r.rounds.now s).unit ≡ unit → count_of r unit ≡ parameter_number (parameters_round r.syntax.now unit)
  of_unit s None e = refl
  of_unit s (Some u) e =
      let its = unit_is t r.syntax.now r.rounds.now parsed are s u e in
      parameters.counts u ∙ count_is t r.syntax.now r.rounds.now parsed are (omega (arith, few)) u its.0 its.1 its.2

  pub counts_round : (n s : ℕ) → is_kind (file_with r scope library refused) kind.TypeSet s ≡ true → stands_below (file_with r scope library refused) n s ≡ true → count_round r n ≡ parameter_number (parameters_round r.syntax.now (round (file_with r scope library refused) s).unit)
  counts_round n s is stands =
      let both = and_parts (nat_le (round_at r.rounds.now s).first n) (nat_le n s) stands in
      ap (count_of r) (in_set t r.syntax.now r.rounds.now parsed are s (same_kind kind.TypeSet (kind_at r.syntax.now s) is) n (leb-true (round_at r.rounds.now s).first n both.0) (leb-true n s both.1))
      ∙ of_unit s (round_at r.rounds.now s).unit refl
