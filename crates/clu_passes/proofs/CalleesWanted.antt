-- What is called is wanted as an object.
use Rattle.std.proofs.Common.{◌≡◌, ◌∙◌, ℕ, Bool, true, false, List, ◌∷◌, if◌then◌else◌, get_or, map, slice_get, Option, Some, None, refl, sym, ap, subst}
use Rattle.std.proofs.lemmas.Bool.{true≢false}
use Rattle.clu_tree.specs.declared.node.Node.{Node}
use Rattle.clu_tree.specs.declared.node.NodeKind.{NodeKind}
use Rattle.clu_tree.specs.declared.node.NodeKind.TheVariants as kind
use Rattle.clu_syntax.specs.declared.bodies.Part.{Part}
use Rattle.clu_syntax.specs.declared.round.Role.{Role}
use Rattle.clu_syntax.specs.declared.round.Role.TheVariants as role
use Rattle.clu_syntax.specs.declared.round.Round.{Round}
use Rattle.clu_syntax.specs.Bodies.{first_part}
use Rattle.clu_syntax.specs.Kinds.{is_expression, is_type, kind_of}
use Rattle.clu_syntax.specs.Roles.{role_in}
use Rattle.clu_syntax.specs.Rounds.{child_part, child_round, outside, round_at, rounds_in}
use Rattle.clu_syntax.specs.Splits.{is_of}
use Rattle.clu_checking.specs.Files.{File, is_kind_at, kind_in}
use Rattle.clu_checking.specs.Invocations.{is_object_wanted}
use Rattle.clu_checking.specs.Wanted.{as_role, wanted, wanted_by}
use Rattle.clu_passes.specs.Trees.{IsFileOfTree}

module _ (nodes : List Node) (rounds : List Round) (n : ℕ) (node : Node) where
  record IsRoundFirst (c : ℕ) (its : Node) : Type 0 where
    standing : (round_at rounds c).role ≡ role_in node.kind nodes node its.kind
    above : (round_at rounds c).parent ≡ Some n

  first_round : (before : Part) (first c : ℕ) (cs : List ℕ) → map (round_at rounds) (c ∷ cs) ≡ rounds_in nodes n node (round_at rounds n) before first (c ∷ cs) → (its : Node) → slice_get nodes c ≡ Some its → IsRoundFirst c its
  unfolding rounds_in
  first_round before first c cs e its at =
      let part : Part = child_part nodes node (slice_get nodes c) before first (c ∷ cs) in
      let head : round_at rounds c ≡ child_round nodes n node (slice_get nodes c) (round_at rounds n) first part = ap (λ (rs : List Round). get_or rs 0 outside) e in
      let so : round_at rounds c ≡ child_round nodes n node (Some its) (round_at rounds n) first part = head ∙ ap (λ (o : Option Node). child_round nodes n node o (round_at rounds n) first part) at in
      record { standing = ap (λ (r : Round). r.role) so; above = ap (λ (r : Round). r.parent) so }

-- an expression stands there as an object
object_role : (nodes : List Node) (node : Node) (k : NodeKind) → is_expression k ≡ true → role_in kind.Call nodes node k ≡ role.Object
object_role nodes node k e = by (is_expression k) e
  where
    by : (b : Bool) → b ≡ true → (if b then role.Object else if is_type k then role.Type else role.Part) ≡ role.Object
    by true e = refl
    by false e = absurd (true≢false (sym e))

module _ (f : File) (of : IsFileOfTree f) where
  pub callee_wanted : (n : ℕ) (node : Node) → slice_get f.nodes n ≡ Some node → node.kind ≡ kind.Call → (c : ℕ) (cs : List ℕ) → node.children ≡ c ∷ cs → is_expression (kind_in f c) ≡ true → is_object_wanted (wanted f c) ≡ true
  callee_wanted n node at is c cs begins expression = by (slice_get f.nodes c) refl
    where
      so : (its : Node) → slice_get f.nodes c ≡ Some its → IsRoundFirst f.nodes f.rounds n node c its
      so its there =
          first_round f.nodes f.rounds n node (first_part f.nodes node (round_at f.rounds n).first) (round_at f.rounds n).first c cs
          (subst (λ (ds : List ℕ). map (round_at f.rounds) ds ≡ rounds_in f.nodes n node (round_at f.rounds n) (first_part f.nodes node (round_at f.rounds n).first) (round_at f.rounds n).first ds) begins (of.surrounded.children_are n node at)) its there

      by : (o : Option Node) → slice_get f.nodes c ≡ o → is_object_wanted (wanted f c) ≡ true
      by None there = absurd (true≢false (sym expression ∙ ap (λ (o : Option Node). is_expression (kind_of o)) there))
      by (Some its) there =
          let x : IsRoundFirst f.nodes f.rounds n node c its = so its there in
          let role_is : (round_at f.rounds c).role ≡ role.Object =
          x.standing ∙ ap (λ (k : NodeKind). role_in k f.nodes node its.kind) is
          ∙ object_role f.nodes node its.kind (sym (ap (λ (o : Option Node). is_expression (kind_of o)) there) ∙ expression) in
          let no_index : is_kind_at f kind.Index (Some n) ≡ false = ap (λ (k : NodeKind). is_of kind.Index k) (ap kind_of at ∙ is) in
          ap (λ (o : Option ℕ). is_object_wanted (wanted_by f (is_kind_at f kind.Index o) c)) x.above
          ∙ ap (λ (b : Bool). is_object_wanted (wanted_by f b c)) no_index
          ∙ ap (λ (r : Role). is_object_wanted (as_role r)) role_is
