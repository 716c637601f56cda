-- What surrounds each child of a node.
use Rattle.std.proofs.Common.{◌≡◌, ◌∙◌, ℕ, zero, suc, ◌+◌, ◌<◌, List, [], ◌∷◌, map, length, Option, Some, slice_get, refl, ap, arith}
use Rattle.std.specs.List.{AllByRecursion}
use Rattle.clu_tree.specs.declared.node.Node.{Node}
use Rattle.clu_syntax.specs.declared.bodies.Part.{Part}
use Rattle.clu_syntax.specs.declared.round.Round.{Round}
use Rattle.clu_syntax.specs.Rounds.{AreRounds, round_at, rounds_in, unit_in, cluster_in, routine_in, child_round, child_part}
use Rattle.clu_syntax.specs.Bodies.{first_part}
use Rattle.clu_parts.proofs.Fitting.{AreBefore}

pub record IsAround (rounds : List Round) (n : ℕ) (node : Node) (c : ℕ) : Type 0 where
  pub parent : (round_at rounds c).parent ≡ Some n
  pub unit : (round_at rounds c).unit ≡ unit_in node.kind n (round_at rounds n)
  pub cluster : (round_at rounds c).cluster ≡ cluster_in node.kind n (round_at rounds n)
  pub routine : (round_at rounds c).routine ≡ routine_in node.kind n (round_at rounds n)

pub there : (nodes : List Node) (c : ℕ) → c < length nodes → (m : Node) × (slice_get nodes c ≡ Some m)
there [] c l = absurd (omega (arith, l))
there (x ∷ xs) zero l = (x, refl)
there (x ∷ xs) (suc c) l = there xs c (omega (arith, l))

module _ (nodes : List Node) (rounds : List Round) (n : ℕ) (node : Node) where
  one_around : (c first : ℕ) (part : Part) (m : Node) → slice_get nodes c ≡ Some m → round_at rounds c ≡ child_round nodes n node (slice_get nodes c) (round_at rounds n) first part → IsAround rounds n node c
  one_around c first part m at e =
      let its : round_at rounds c ≡ child_round nodes n node (Some m) (round_at rounds n) first part = e ∙ ap (λ (o : Option Node). child_round nodes n node o (round_at rounds n) first part) at in
      record {
        parent = ap (λ (r : Round). r.parent) its;
        unit = ap (λ (r : Round). r.unit) its;
        cluster = ap (λ (r : Round). r.cluster) its;
        routine = ap (λ (r : Round). r.routine) its;
      }

  all_around : (before : Part) (first : ℕ) (cs : List ℕ) → AreBefore (length nodes) cs → map (round_at rounds) cs ≡ rounds_in nodes n node (round_at rounds n) before first cs → AllByRecursion (IsAround rounds n node) cs
  unfolding rounds_in
  all_around before first [] l e = tt
  all_around before first (c ∷ cs) l e =
      let part : Part = child_part nodes node (slice_get nodes c) before first (c ∷ cs) in
      let head : round_at rounds c ≡ child_round nodes n node (slice_get nodes c) (round_at rounds n) first part = cc in
      let tail : map (round_at rounds) cs ≡ rounds_in nodes n node (round_at rounds n) part (c + 1) cs = cc in
      let m = there nodes c l.0 in
      (one_around c first part m.0 m.1 head, all_around part (c + 1) cs l.1 tail)

  pub around : AreRounds nodes rounds → slice_get nodes n ≡ Some node → AreBefore (length nodes) node.children → AllByRecursion (IsAround rounds n node) node.children
  around are at l = all_around (first_part nodes node (round_at rounds n).first) (round_at rounds n).first node.children l (are.children_are n node at)
