-- The bodies of a node, each a run of its children with what stands before it.
use Rattle.std.specs.Prelude.{◌&&◌, ◌||◌, ◌+◌, nat_lt, not, if◌then◌else◌, Bool, true, false, ℕ, List, [], ◌∷◌, slice_get, Option, Some, None}
use Rattle.clu_tree.specs.declared.node.Node.{Node}
use Rattle.clu_syntax.specs.declared.bodies.Part.{Part}
use Rattle.clu_syntax.specs.Kinds.{is_head, kind_of}

abbrev pub behind_token : Option ℕ → ℕ → Bool
behind_token (Some token) first = nat_lt token first
behind_token None first = false

-- the child stands after the value of the node, as the body after `else` does
abbrev pub is_behind : Node → Node → Bool
is_behind node child = behind_token node.value_token child.first

abbrev pub behind_at : Node → Option Node → Bool
behind_at node (Some child) = is_behind node child
behind_at node None = false

abbrev pub head_at : Option Node → Bool
head_at child = is_head (kind_of child)

abbrev pub differ : Bool → Bool → Bool
differ true b = not b
differ false b = b

-- the number after the heads with which the children begin, the first of which begins with `first`
unfoldable pub after_heads : List Node → ℕ → List ℕ → ℕ
after_heads nodes first [] = first
after_heads nodes first (c ∷ rest) = if head_at (slice_get nodes c) then after_heads nodes (c + 1) rest else first

-- the last child up to the next head, or to where the value parts them
unfoldable pub last_of_items : List Node → Node → Bool → ℕ → List ℕ → ℕ
last_of_items nodes node behind last [] = last
last_of_items nodes node behind last (c ∷ rest) =
    if head_at (slice_get nodes c) || differ (behind_at node (slice_get nodes c)) behind then last
    else last_of_items nodes node behind c rest

-- the last node of the body with which the children begin, after its heads
unfoldable pub last_of_body : List Node → Node → ℕ → List ℕ → ℕ
last_of_body nodes node last [] = last
last_of_body nodes node last (c ∷ rest) =
    if head_at (slice_get nodes c) then last_of_body nodes node c rest
    else last_of_items nodes node (behind_at node (slice_get nodes c)) last (c ∷ rest)

-- the body with which the children begin
abbrev pub opened : List Node → Node → ℕ → Bool → Bool → List ℕ → Part
opened nodes node first head behind children = record {
  from = after_heads nodes first children;
  last = last_of_body nodes node first children;
  head = head;
  behind = behind;
}

-- a body begins where heads stand after what is none, and where the value parts a child from the one before
abbrev pub begins : Part → Bool → Bool → Bool
begins before head behind = head && not before.head || differ behind before.behind

abbrev pub part_of : List Node → Node → Part → ℕ → Bool → Bool → List ℕ → Part
part_of nodes node before first head behind children =
    if begins before head behind then opened nodes node first head behind children
    else record { from = before.from; last = before.last; head = head; behind = behind }

-- where the first of the children stands, which begins with `first`
abbrev pub part_at : List Node → Node → Node → Part → ℕ → List ℕ → Part
part_at nodes node child before first children = part_of nodes node before first (is_head child.kind) (is_behind node child) children

abbrev pub first_part : List Node → Node → ℕ → Part
first_part nodes node first = opened nodes node first true false node.children
