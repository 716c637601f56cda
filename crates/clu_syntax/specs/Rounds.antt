-- What surrounds a node: as round its parent, but for what the parent is.
use Rattle.std.specs.Prelude.{◌≡◌, ◌+◌, not, if◌then◌else◌, Bool, true, false, ℕ, List, [], ◌∷◌, length, map, slice_get, set, get_or, Option, Some, None}
use Rattle.clu_tree.specs.declared.node.Node.{Node}
use Rattle.clu_tree.specs.declared.node.NodeKind.{NodeKind}
use Rattle.clu_tree.specs.declared.node.NodeKind.TheVariants as kind
use Rattle.clu_tree.specs.Nodes.{IsRoot}
use Rattle.clu_syntax.specs.declared.bodies.Part.{Part}
use Rattle.clu_syntax.specs.declared.round.Round.{Round}
use Rattle.clu_syntax.specs.declared.round.Role.TheVariants as role
use Rattle.clu_syntax.specs.Kinds.{is_outside, is_arm, is_of_heading, is_equate}
use Rattle.clu_syntax.specs.Bodies.{part_at, first_part}
use Rattle.clu_syntax.specs.Roles.{has_no_name, role_in}

-- what stands in or before the body at `part`, but for what stands outside of all bodies
abbrev pub body_at : NodeKind → Round → Part → ℕ × ℕ
body_at child round part = if is_outside child then (round.body_first, round.body_last) else (part.from, part.last)

-- the body round a child
abbrev pub body_in : NodeKind → NodeKind → ℕ → Round → Part → ℕ × ℕ
body_in kind.File child n round part = (round.first, n)
body_in kind.Module child n round part = (round.first, n)
body_in kind.Routine child n round part = (round.first, n)
body_in kind.Cluster child n round part = (round.first, n)
body_in kind.TypeSet child n round part = (round.first, n)
body_in kind.Begin child n round part = (round.first, n)
body_in kind.While child n round part = body_at child round part
body_in kind.For child n round part = body_at child round part
body_in kind.If child n round part = body_at child round part
body_in kind.Tagcase child n round part = body_at child round part
body_in kind.TagArm child n round part = body_at child round part
body_in kind.When child n round part = body_at child round part
body_in kind.Others child n round part = body_at child round part
body_in _ child n round part = (round.body_first, round.body_last)

abbrev pub unit_in : NodeKind → ℕ → Round → Option ℕ
unit_in kind.Module n round = Some n
unit_in _ n round = round.unit

abbrev pub cluster_in : NodeKind → ℕ → Round → Option ℕ
cluster_in kind.Cluster n round = Some n
cluster_in _ n round = round.cluster

abbrev pub routine_in : NodeKind → ℕ → Round → Option ℕ
routine_in kind.Routine n round = Some n
routine_in _ n round = round.routine

-- the Except or Resignal in whose statement the child stands, up to a routine; arms stand outside of their own Except
abbrev pub guard_in : NodeKind → NodeKind → ℕ → Round → Option ℕ
guard_in kind.Routine child n round = None
guard_in kind.Resignal child n round = Some n
guard_in kind.Except child n round = if is_arm child then round.guard else Some n
guard_in _ child n round = round.guard

-- a loop stands round all its parts, up to a routine
abbrev pub loop_in : NodeKind → Round → Bool
loop_in kind.While round = true
loop_in kind.For round = true
loop_in kind.Routine round = false
loop_in _ round = round.in_loop

-- the equate without a name is that of `rep`, which is no part of the heading
abbrev pub is_of_cluster : NodeKind → List (List ℕ) → Bool
is_of_cluster kind.Parm names = true
is_of_cluster kind.Where names = true
is_of_cluster kind.Equate names = not (has_no_name names)
is_of_cluster _ names = false

-- the heading of a module: its leading equates, what stands before the body of a routine, and the parameters, where
-- clauses and equates of a cluster
abbrev pub heading_in : NodeKind → Node → Round → Bool
heading_in kind.Module child round = is_equate child.kind
heading_in kind.Routine child round = is_of_heading child.kind
heading_in kind.Cluster child round = is_of_cluster child.kind child.names
heading_in _ child round = round.heading

-- what surrounds a child of the node n that begins with `first` and stands at `part`
abbrev pub round_in : List Node → ℕ → Node → Node → Round → ℕ → Part → Round
round_in nodes n node child round first part = record {
  parent = Some n;
  first = first;
  body_first = (body_in node.kind child.kind n round part).0;
  body_last = (body_in node.kind child.kind n round part).1;
  unit = unit_in node.kind n round;
  cluster = cluster_in node.kind n round;
  routine = routine_in node.kind n round;
  guard = guard_in node.kind child.kind n round;
  in_loop = loop_in node.kind round;
  heading = heading_in node.kind child round;
  role = role_in node.kind nodes node child.kind;
}

-- round the root stands nothing
abbrev pub outside : Round
outside = record { parent = None; first = 0; body_first = 0; body_last = 0; unit = None; cluster = None; routine = None; guard = None; in_loop = false; heading = false; role = role.Part }

abbrev pub child_part : List Node → Node → Option Node → Part → ℕ → List ℕ → Part
child_part nodes node (Some child) before first children = part_at nodes node child before first children
child_part nodes node None before first children = before

abbrev pub child_round : List Node → ℕ → Node → Option Node → Round → ℕ → Part → Round
child_round nodes n node (Some child) round first part = round_in nodes n node child round first part
child_round nodes n node None round first part = outside

-- what surrounds each of these children of the node n, the first of which begins with `first`; `before` is where the
-- child before them stands
unfoldable pub rounds_in : List Node → ℕ → Node → Round → Part → ℕ → List ℕ → List Round
rounds_in nodes n node round before first [] = []
rounds_in nodes n node round before first (c ∷ rest) =
    let part = child_part nodes node (slice_get nodes c) before first (c ∷ rest) in
    child_round nodes n node (slice_get nodes c) round first part ∷ rounds_in nodes n node round part (c + 1) rest

-- what surrounds each child of the node n
abbrev pub rounds_of : List Node → ℕ → Node → Round → List Round
rounds_of nodes n node round = rounds_in nodes n node round (first_part nodes node round.first) round.first node.children

unfoldable pub set_all : {A : Type 0} → List A → List ℕ → List A → List A
set_all xs [] vs = xs
set_all xs (i ∷ is) [] = xs
set_all xs (i ∷ is) (v ∷ vs) = set_all (set xs i v) is vs

abbrev pub round_at : List Round → ℕ → Round
round_at rounds n = get_or rounds n outside

-- each child is surrounded by what its parent says, and a root by nothing
pub record AreRounds (nodes : List Node) (rounds : List Round) : Type 0 where
  pub size : length rounds ≡ length nodes
  pub children_are : (i : ℕ) (n : Node) → slice_get nodes i ≡ Some n → map (round_at rounds) n.children ≡ rounds_of nodes i n (round_at rounds i)
  pub roots_are : (c : ℕ) → IsRoot nodes c → round_at rounds c ≡ outside
