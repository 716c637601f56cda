-- Nodes that are asked one after the other for faults, where a fault at a node reads bits of others.
use Rattle.std.specs.Prelude.{◌≡◌, ℕ, ◌-◌, ◌<◌, ◌≤◌, ◌++◌, ◌&&◌, if◌then◌else◌, Bool, true, List, length, map, Option, Some, None, slice_get}
use Rattle.std.specs.List.{range_with_len}
use Rattle.clu_tree.specs.declared.node.Node.{Node}
use Rattle.clu_tree.specs.declared.node.NodeKind.{NodeKind}
use Rattle.clu_tree.specs.declared.node.NodeKind.TheVariants as kind
use Rattle.clu_syntax.specs.declared.round.Round.{Round}
use Rattle.clu_syntax.specs.Kinds.{kind_at}
use Rattle.clu_syntax.specs.Rounds.{round_at}
use Rattle.clu_names.specs.declared.binding.Names.{Names}
use Rattle.clu_names.specs.declared.scopes.Declared.{Declared}
use Rattle.clu_head.specs.Refused.{is_set}
use Rattle.clu_head.specs.There.{is_there}
use Rattle.clu_bindings.specs.Files.{declared_by, stands_in}
use Rattle.clu_name_rules.specs.NameRules.{equate_of}
use Rattle.clu_type_rules.specs.Walking.{Asked, asked_in}
use Rattle.clu_passes.specs.Trees.{is_of_constant}

abbrev pub bit : List Bool → ℕ → Bool
bit bad m = is_set (slice_get bad m)

module _ (rounds : List Round) where
  abbrev pub first_in : ℕ → ℕ
  first_in e = (round_at rounds e).first

  -- the nodes below a node
  abbrev pub nodes_in : ℕ → List ℕ
  nodes_in e = range_with_len (first_in e) (e - first_in e)

  pub record Inside (e n : ℕ) : Type 0 where
    pub from : first_in e ≤ n
    pub below : n < e

  abbrev pub asked_if_there : (List Bool → ℕ → Bool) → Asked → Option ℕ → Asked
  asked_if_there fault a (Some e) = asked_in rounds fault a e
  asked_if_there fault a None = a

-- what a fault asks of bits is those that it reads; each node stands once in the list, and what stands in it reads bits of nodes
-- before it alone
pub record AreApart (rounds : List Round) (fault : List Bool → ℕ → Bool) (es : List (Option ℕ)) (Reads : ℕ → ℕ → Type 0) : Type 0 where
  pub reads : (p e n : ℕ) → slice_get es p ≡ Some (Some e) → Inside rounds e n → (b c : List Bool) → ((m : ℕ) → Reads n m → bit b m ≡ bit c m) → fault b n ≡ fault c n
  pub once : (p q e : ℕ) → slice_get es p ≡ Some (Some e) → slice_get es q ≡ Some (Some e) → p ≡ q
  pub before : (p q e m n : ℕ) → slice_get es p ≡ Some (Some e) → slice_get es q ≡ Some (Some m) → Inside rounds e n → Reads n m → q < p

-- ---- the equates of a file

module _ (nodes : List Node) (names : Names) where
  -- the equate of which the rules ask at a node of this kind whether it is bad
  abbrev pub read_at : NodeKind → ℕ → Option ℕ
  read_at kind.Name n = equate_of nodes (declared_by names n)
  read_at kind.NameT n = equate_of nodes (declared_by names n)
  read_at kind.Simple n = equate_of nodes (declared_by names n)
  read_at _ n = None

  abbrev pub Reads : ℕ → ℕ → Type 0
  Reads n m = read_at (kind_at nodes n) n ≡ Some m

  -- below equates a fault asks no other bits
  abbrev pub ReadsAlone : (List Bool → ℕ → Bool) → Type 0
  ReadsAlone fault = (n : ℕ) → is_of_constant (kind_at nodes n) ≡ true → (b c : List Bool) → ((m : ℕ) → Reads n m → bit b m ≡ bit c m) → fault b n ≡ fault c n

-- each Equate declares one name
abbrev pub DeclareOnce : List Node → List Declared → Type 0
DeclareOnce nodes ds = (p q : ℕ) (d c : Declared) → slice_get ds p ≡ Some d → slice_get ds q ≡ Some c → is_there kind.Equate (slice_get nodes d.node) ≡ true → d.node ≡ c.node → p ≡ q

-- the node of a declaration, if it is an Equate; and a Decl of an arm
abbrev pub equate_declared : List Node → Option Declared → Option ℕ
equate_declared nodes (Some d) = if is_there kind.Equate (slice_get nodes d.node) then Some d.node else None
equate_declared nodes None = None

abbrev pub arm_declared : List Node → List Round → ℕ → Option ℕ
arm_declared nodes rounds n = if is_there kind.Decl (slice_get nodes n) && stands_in nodes rounds kind.When n then Some n else None

-- what is asked, one after the other: the equates of these places of declarations, and then the Decls of arms
abbrev pub nodes_asked : List Node → List Round → List Declared → List ℕ → List (Option ℕ)
nodes_asked nodes rounds ds order = map (λ place. equate_declared nodes (slice_get ds place)) order ++ map (arm_declared nodes rounds) (range_with_len 0 (length nodes))
