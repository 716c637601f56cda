-- The modules of a tree by their names, and their specifications.
use Rattle.std.specs.Prelude.{◌≡◌, ℕ, ◌-◌, List, length, map, take, slice_get, Option, Some, None, IfSome}
use Rattle.std.specs.Prelude.{option_and_then}
use Rattle.clu_tree.specs.declared.node.Node.{Node}
use Rattle.clu_tree.specs.Nodes.{modules}
use Rattle.clu_types.specs.declared.spec.Spec.{Spec}
use Rattle.clu_types.specs.declared.term.Term.{Term}
use Rattle.clu_head.specs.declared.head.Head.{Head}
use Rattle.clu_head.specs.Kept.{IsFormOf}
use Rattle.clu_head.specs.Whole.{IsWhole}
use Rattle.clu_name_rules.specs.Closed.{IsClosed}

-- the routine or cluster of a module: the last child of its node
abbrev pub definition_of : List Node → ℕ → Option Node
definition_of nodes n = option_and_then (λ m. option_and_then (slice_get nodes) (slice_get m.children (length m.children - 1))) (slice_get nodes n)

-- the name of a module: the first of its routine or cluster
abbrev pub name_of : List Node → ℕ → Option (List ℕ)
name_of nodes n = option_and_then (λ d. slice_get d.names 0) (definition_of nodes n)

-- the specifications are one for each of the modules of these numbers, in this order
abbrev pub AreOf : List Node → List ℕ → List Spec → Type 0
AreOf nodes numbers specs = map (name_of nodes) numbers ≡ map (λ s. Some s.name) specs

-- the specifications begin with one for each module of the tree, in the order of the text
abbrev pub BeginWithOwn : List Node → List Spec → Type 0
BeginWithOwn nodes specs = AreOf nodes (modules nodes) (take (length (modules nodes)) specs)

-- V4 and V34 are not violated at the routine or cluster of a module
abbrev pub IsClosedAt : List Node → ℕ → Type 0
IsClosedAt nodes n = IfSome (definition_of nodes n) IsClosed

-- this is the head of the module n, and of it there is a specification
pub record IsSpecified (nodes : List Node) (types : List Term) (n : ℕ) (h : Head) : Type 0 where
  pub named : name_of nodes n ≡ Some h.name
  pub whole : IsWhole types h

-- of each module of the tree, in the order of the text
abbrev pub AreSpecified : List Node → List Term → List Head → Type 0
AreSpecified nodes types heads = (i n : ℕ) → slice_get (modules nodes) i ≡ Some n → (h : Head) × (slice_get heads i ≡ Some h) × IsSpecified nodes types n h

-- this specification is made of the head, whose types are of this arena
pub record IsMade (types : List Term) (h : Head) (s : Spec) : Type 0 where
  pub name : s.name ≡ h.name
  pub kinds : map Some s.kinds ≡ h.kinds
  pub form : IsFormOf types s.types h.form s.form

abbrev pub IsMadeIf : List Term → Option Head → Spec → Type 0
IsMadeIf types (Some h) s = IsMade types h s
IsMadeIf types None s = ⊥

-- each specification is made of the head of its place
abbrev pub AreMade : List Term → List Head → List Spec → Type 0
AreMade types heads specs = (i : ℕ) (s : Spec) → slice_get specs i ≡ Some s → IsMadeIf types (slice_get heads i) s
