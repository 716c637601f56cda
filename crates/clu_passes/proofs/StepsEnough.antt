-- One step more changes nothing of an equate that leads to no circle: it is bad just if a rule is violated in it by the equates that
-- are bad.
use Rattle.std.proofs.Common.{◌≡◌, ◌∙◌, ℕ, zero, suc, ◌-◌, ◌<◌, ◌≤◌, Bool, true, false, List, length, is_some, Option, Some, None, refl, ap, sym, arith, rules}
use Rattle.std.specs.Prelude.{slice_get}
use Rattle.std.specs.List.{list_any}
use Rattle.std.proofs.lemmas.Bool.{true≢false}
use Rattle.clu_base.specs.declared.rules.Rule.{Rule}
use Rattle.clu_tree.specs.declared.node.Node.{Node}
use Rattle.clu_tree.specs.declared.node.NodeKind.TheVariants as kind
use Rattle.clu_tree.specs.contracts.node.NodeKind.{the_type}
use Rattle.clu_syntax.specs.Kinds.{kind_of}
use Rattle.clu_syntax.specs.Splits.{is_of}
use Rattle.clu_checking.specs.Files.{File, kind_in, is_kind, round}
use Rattle.clu_checking.specs.Equates.{names_unfolded, equates_named, leads_on, leads_far, is_circular}
use Rattle.clu_checking.specs.Rules.{violates, least}
use Rattle.clu_checking.specs.Refusals.{right_side, is_bad_by, is_bad_of}
use Rattle.clu_passes.specs.Trees.{IsFileOfTree, is_of_constant}
use Rattle.clu_passes.proofs.BadEquates.{any_same, none_in, least_same, violates_same, names_same}
use Rattle.clu_passes.proofs.InEquates.{in_constants}
use denote.Enum.Bare.{same_true}

module _ (f : File) (of : IsFileOfTree f) where
  pub equate_there : (e : ℕ) → is_kind f kind.Equate e ≡ true → (its : Node) × (slice_get f.nodes e ≡ Some its) × (its.kind ≡ kind.Equate)
  equate_there e is = by (slice_get f.nodes e) refl is
    where
      by : (o : Option Node) → slice_get f.nodes e ≡ o → is_of kind.Equate (kind_of o) ≡ true → (its : Node) × (slice_get f.nodes e ≡ Some its) × (its.kind ≡ kind.Equate)
      by None at is = absurd (true≢false (sym is))
      by (Some its) at is = (its, at, same_true the_type (search rules) its.kind kind.Equate is)

  pub in_equate : (e : ℕ) → is_kind f kind.Equate e ≡ true → (n : ℕ) → (round f e).first ≤ n → n < e → is_of_constant (kind_in f n) ≡ true
  in_equate e equate =
      let x = equate_there e equate in
      in_constants f.nodes f.rounds of.shaped of.ordered of.tree of.surrounded e x.0 x.1 (ap is_of_constant x.2)

  -- a name at the node leads on for so many steps
  abbrev pub leads_in : ℕ → ℕ → Bool
  leads_in s n = list_any (leads_on f (leads_far f s)) (equates_named f n)

  module _ (its_rules : List Rule) where
    abbrev pub fault : (ℕ → Bool) → ℕ → Bool
    fault bad n = is_some (least (violates f bad n) its_rules)

    abbrev bad_after : ℕ → ℕ → Bool
    bad_after t = is_bad_by f its_rules t

    abbrev IsStable : ℕ → Type 0
    IsStable s = (e : ℕ) → is_kind f kind.Equate e ≡ true → is_circular f e ≡ false → leads_far f s e ≡ false → (t u : ℕ) → s ≤ t → s ≤ u → bad_after t e ≡ bad_after u e

    steps_same : (s t u : ℕ) → IsStable s → s ≤ t → s ≤ u → (n : ℕ) → is_of_constant (kind_in f n) ≡ true → leads_in s n ≡ false → fault (bad_after t) n ≡ fault (bad_after u) n
    steps_same s t u had l m n const never =
        ap is_some (least_same (violates f (bad_after t) n) (violates f (bad_after u) n)
        (violates_same f of (bad_after t) (bad_after u) n const
        (names_same f (bad_after t) (bad_after u) (leads_far f s) (λ e equate far circle. had e equate circle far t u l m) n (names_unfolded f (kind_in f n) n) never))
        its_rules)

    stable : (s : ℕ) → IsStable s
    unfolding leads_far is_bad_by
    stable zero e equate circle far t u l m = absurd (true≢false far)
    stable (suc s) e equate circle far zero u l m = absurd (omega (arith, l))
    stable (suc s) e equate circle far (suc t) zero l m = absurd (omega (arith, m))
    stable (suc s) e equate circle far (suc t) (suc u) l m =
        let had : IsStable s = stable s in
        any_same (fault (bad_after t)) (fault (bad_after u)) (round f e).first (e - (round f e).first) (λ n low high.
        let inside : n < e = omega (arith, low, high) in
        steps_same s t u had (omega (arith, l)) (omega (arith, m)) n (in_equate e equate n low inside)
        (none_in (leads_in s) (round f e).first (suc e - (round f e).first) far n low (omega (arith, inside, low))))

    one_more : (t e : ℕ) → bad_after (suc t) e ≡ list_any (fault (bad_after t)) (right_side f e)
    unfolding is_bad_by
    one_more t e = refl

    pub bad_unfolds : (e : ℕ) → is_kind f kind.Equate e ≡ true → is_circular f e ≡ false → is_bad_of f its_rules e ≡ list_any (fault (is_bad_of f its_rules)) (right_side f e)
    bad_unfolds e equate circle =
        stable (length f.scope.declarations) e equate circle circle (length f.scope.declarations) (suc (length f.scope.declarations)) (omega arith) (omega arith)
        ∙ one_more (length f.scope.declarations) e
