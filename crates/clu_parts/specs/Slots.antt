-- Which children a node has, by the form that it is of: each part of a form that may hold children is a place for one child, for
-- one or none, or for any number of them. A row for each kind, as clu_syntax has it, cannot tell one or none from any number.
use Rattle.std.specs.Prelude.{◌≡◌, ◌<◌, ◌||◌, ◌++◌, ℕ, zero, suc, Bool, true, false, List, [], ◌∷◌, take, drop, Option, Some, None}
use Rattle.std.specs.List.{AllByRecursion}
use Rattle.clu_tree.specs.declared.node.Node.{Node}
use Rattle.clu_tree.specs.declared.node.NodeKind.{NodeKind}
use Rattle.clu_grammar.specs.Kinds.{is_expression}
use Rattle.clu_parser.specs.Shape.{is_child, Part, parts_of, token, name, value, child, many, maybe, equates, statements, IsFormOf, forms}
use Rattle.clu_syntax.specs.Kinds.{kind_at}
use Rattle.clu_syntax.specs.Splits.{leading_before}

-- a place of a form that holds children
pub data Slot : Type 0 where
  just several at_most_one : (NodeKind → Bool) → Slot

-- nothing of the parts holds a child
abbrev pub has_none : List Part → Bool
has_none [] = true
has_none (token x ∷ ps) = has_none ps
has_none (name ∷ ps) = has_none ps
has_none (value xs ∷ ps) = has_none ps
has_none (child c ∷ ps) = false
has_none (many g ∷ ps) = false
has_none (maybe g ∷ ps) = false

abbrev pub has_one : List Part → Bool
has_one [] = true
has_one (token x ∷ ps) = has_one ps
has_one (name ∷ ps) = has_one ps
has_one (value xs ∷ ps) = has_one ps
has_one (child c ∷ ps) = has_none ps
has_one (many g ∷ ps) = false
has_one (maybe g ∷ ps) = false

-- a child of this kind may stand among the parts
abbrev pub may_stand : ℕ → List Part → NodeKind → Bool
may_stand steps [] k = false
may_stand steps (token x ∷ ps) k = may_stand steps ps k
may_stand steps (name ∷ ps) k = may_stand steps ps k
may_stand steps (value xs ∷ ps) k = may_stand steps ps k
may_stand steps (child c ∷ ps) k = is_child c k || may_stand steps ps k
may_stand zero (many g ∷ ps) k = true
may_stand zero (maybe g ∷ ps) k = true
may_stand (suc steps) (many g ∷ ps) k = may_stand steps (parts_of g) k || may_stand (suc steps) ps k
may_stand (suc steps) (maybe g ∷ ps) k = may_stand steps (parts_of g) k || may_stand (suc steps) ps k

abbrev pub slot_many : Bool → (NodeKind → Bool) → List Slot → List Slot
slot_many true p ss = ss
slot_many false p ss = several p ∷ ss

abbrev pub slot_maybe : Bool → Bool → (NodeKind → Bool) → List Slot → List Slot
slot_maybe true b p ss = ss
slot_maybe false true p ss = at_most_one p ∷ ss
slot_maybe false false p ss = several p ∷ ss

abbrev pub slots_of : List Part → List Slot
slots_of [] = []
slots_of (token x ∷ ps) = slots_of ps
slots_of (name ∷ ps) = slots_of ps
slots_of (value xs ∷ ps) = slots_of ps
slots_of (child c ∷ ps) = just (is_child c) ∷ slots_of ps
slots_of (many g ∷ ps) = slot_many (has_none (parts_of g)) (may_stand 2 (parts_of g)) (slots_of ps)
slots_of (maybe g ∷ ps) = slot_maybe (has_none (parts_of g)) (has_one (parts_of g)) (may_stand 2 (parts_of g)) (slots_of ps)

-- a child of the node n, of these kinds
abbrev pub IsPart : List Node → (NodeKind → Bool) → ℕ → ℕ → Type 0
IsPart nodes p n c = (c < n) × (p (kind_at nodes c) ≡ true)

abbrev pub AreParts : List Node → (NodeKind → Bool) → ℕ → List ℕ → Type 0
AreParts nodes p n cs = AllByRecursion (IsPart nodes p n) cs

abbrev pub AreBefore : ℕ → List ℕ → Type 0
AreBefore n cs = AllByRecursion (λ c. c < n) cs

pub data Stand (nodes : List Node) (n : ℕ) : List Slot → List ℕ → Type 0 where
  none_left : Stand nodes n [] []
  just_one : (p : NodeKind → Bool) (c : ℕ) (ss : List Slot) (cs : List ℕ) → IsPart nodes p n c → Stand nodes n ss cs → Stand nodes n (just p ∷ ss) (c ∷ cs)
  not_there : (p : NodeKind → Bool) (ss : List Slot) (cs : List ℕ) → Stand nodes n ss cs → Stand nodes n (at_most_one p ∷ ss) cs
  there : (p : NodeKind → Bool) (c : ℕ) (ss : List Slot) (cs : List ℕ) → IsPart nodes p n c → Stand nodes n ss cs → Stand nodes n (at_most_one p ∷ ss) (c ∷ cs)
  no_others : (p : NodeKind → Bool) (ss : List Slot) (cs : List ℕ) → Stand nodes n ss cs → Stand nodes n (several p ∷ ss) cs
  another : (p : NodeKind → Bool) (c : ℕ) (ss : List Slot) (cs : List ℕ) → IsPart nodes p n c → Stand nodes n (several p ∷ ss) cs → Stand nodes n (several p ∷ ss) (c ∷ cs)

-- the children of the node i stand in the slots of one of the forms of its kind
pub record HasSlots (nodes : List Node) (i : ℕ) (n : Node) : Type 0 where
  pub form : List Part
  pub of_kind : IsFormOf form (forms n.kind)
  pub stand : Stand nodes i (slots_of form) n.children

-- ---- an If

-- {Equate} {stmt}
abbrev pub body_slots : List Slot
body_slots = several (may_stand 2 (parts_of equates)) ∷ several (may_stand 2 (parts_of statements)) ∷ []

-- a condition with its body, as often as it stands there
pub data HasClauses (nodes : List Node) (n : ℕ) : List ℕ → Type 0 where
  no_more_clauses : HasClauses nodes n []
  clause : (c : ℕ) (body rest : List ℕ) → IsPart nodes is_expression n c → Stand nodes n body_slots body → HasClauses nodes n rest → HasClauses nodes n (c ∷ body ++ rest)

-- what stands behind `else`, if it is there
abbrev pub IsElse : List Node → ℕ → Option ℕ → List ℕ → Type 0
IsElse nodes i None cs = cs ≡ []
IsElse nodes i (Some at) cs = Stand nodes i body_slots cs

-- the children before the value are clauses, those behind it a body
pub record IfParts (nodes : List Node) (i : ℕ) (n : Node) : Type 0 where
  pub clauses : HasClauses nodes i (take (leading_before nodes n n.children) n.children)
  pub behind : IsElse nodes i n.value_token (drop (leading_before nodes n n.children) n.children)
