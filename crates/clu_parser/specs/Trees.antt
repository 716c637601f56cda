-- The tree that the actions of the grammar build, and when a tree is that of a source.
use Rattle.std.specs.Prelude.{◌≡◌, ℕ, ◌+◌, ◌-◌, ◌<◌, ◌≤◌, Bool, true, false, if◌then◌else◌, List, [], ◌∷◌, ◌++◌, length, map, take, drop, slice_get, slice_index, sum_by, Option, Some, None, All, AllPairs, ◌≢◌}
use Rattle.clu_base.specs.declared.tokens.Place.{Place}
use Rattle.clu_base.specs.declared.tokens.Token.{Token}
use Rattle.clu_lexer.specs.declared.symbols.Symbol.{Symbol}
use Rattle.clu_tree.specs.declared.node.Node.{Node}
use Rattle.clu_tree.specs.declared.node.NodeKind.{NodeKind}
use Rattle.clu_tree.specs.declared.node.NodeKind.TheVariants as kind
use Rattle.clu_tree.specs.Count.{own_count, counts}
use Rattle.clu_tree.specs.Nodes.{IsRoot}
use Rattle.clu_grammar.specs.declared.items.Action.{Action}
use Rattle.clu_grammar.specs.declared.items.Action.TheVariants as action
use Rattle.clu_grammar.specs.declared.items.Item.{Item}
use Rattle.clu_grammar.specs.declared.items.Item.TheVariants as item
use Rattle.clu_grammar.specs.declared.items.Nonterminal.{Nonterminal}
use Rattle.clu_grammar.specs.Grammar.{productions}
use Rattle.clu_grammar.specs.Language.{IsOneOf, whole}
use Rattle.clu_parser.specs.declared.begun.Begun.{Begun}
use Rattle.clu_parser.specs.declared.source.Source.{Source}
use Rattle.clu_parser.specs.Order.{IsForest}
use Rattle.clu_parser.specs.Spellings.{spelling, place_in, is_idn, closes}

-- a source: its bytes, its tokens, and what these are to the grammar
pub record Text : Type 0 where
  pub bytes : List ℕ
  pub tokens : List Token
  pub symbols : List Symbol

abbrev pub text : Source → Text
text s = record { bytes = s.bytes.now; tokens = s.tokens.now; symbols = s.symbols.now }

-- the spelling of the n-th token
abbrev pub spelling_at : Text → ℕ → List ℕ
spelling_at s n = spelling s.bytes (slice_get s.tokens n)

abbrev pub value_of : Text → Option ℕ → List ℕ
value_of s None = []
value_of s (Some n) = spelling_at s n

-- where the n-th token stands
abbrev pub place_at : Text → ℕ → Place
place_at s n = place_in (slice_get s.tokens n)

-- the tree in the making: the nodes, those that no node holds yet, and the nodes that have begun, the innermost first
pub record Built : Type 0 where
  pub nodes : List Node
  pub tops : List ℕ
  pub begun : List Begun

-- a fault at such a node is reported at its mark, at any other at its first token
abbrev pub is_marked : NodeKind → Bool
is_marked kind.Infix = true
is_marked kind.Index = true
is_marked kind.Get = true
is_marked kind.Call = true
is_marked kind.Resignal = true
is_marked kind.Except = true
is_marked _ = false

abbrev pub end_at : Option Node → ℕ → ℕ
end_at None last = last
end_at (Some n) last = n.last

abbrev pub end_in : List Node → Option ℕ → ℕ → ℕ
end_in nodes None last = last
end_in nodes (Some child) last = end_at (slice_get nodes child) last

-- a Restrict ends with its last child, any other node with the last token taken
abbrev pub last_of : NodeKind → List Node → List ℕ → ℕ → ℕ
last_of kind.Restrict nodes children last = end_in nodes (slice_get children (length children - 1)) last
last_of _ nodes children last = last

-- the node that begins so and ends now
abbrev pub node_of : Text → NodeKind → ℕ → List Node → List ℕ → Begun → Node
node_of s k last nodes children o =
    record {
      kind = k;
      place = place_at s (if is_marked k then o.mark else o.first);
      first = o.first;
      last = last_of k nodes children last;
      children = children;
      names = map (spelling_at s) o.names;
      value = value_of s o.value;
      value_token = o.value;
    }

-- the innermost node is whole
abbrev pub closed_in : Text → NodeKind → ℕ → Built → List Begun → Option Built
closed_in s k last b [] = None
closed_in s k last b (o ∷ os) =
    Some (record { nodes = b.nodes ++ node_of s k last b.nodes (drop o.height b.tops) o ∷ []; tops = take o.height b.tops ++ length b.nodes ∷ []; begun = os })

abbrev pub closed : Text → NodeKind → ℕ → Built → Option Built
closed s k last b = closed_in s k last b b.begun

abbrev pub opened : ℕ → ℕ → ℕ → Built → Built
opened first mark height b =
    record { nodes = b.nodes; tops = b.tops; begun = record { first = first; mark = mark; height = height; names = []; value = None } ∷ b.begun }

-- a node begins that holds the last whole one
abbrev pub wrapped_on : ℕ → Built → Option Node → Option Built
wrapped_on taken b None = None
wrapped_on taken b (Some n) = Some (opened n.first taken (length b.tops - 1) b)

abbrev pub wrapped_in : ℕ → Built → Option ℕ → Option Built
wrapped_in taken b None = None
wrapped_in taken b (Some top) = wrapped_on taken b (slice_get b.nodes top)

abbrev pub wrapped : ℕ → Built → Option Built
wrapped taken b = wrapped_in taken b (slice_get b.tops (length b.tops - 1))

-- the token is a name of the node, or its value
abbrev pub noted : Bool → ℕ → Begun → Begun
noted true taken o = record { first = o.first; mark = o.mark; height = o.height; names = o.names ++ taken ∷ []; value = o.value }
noted false taken o = record { first = o.first; mark = o.mark; height = o.height; names = o.names; value = Some taken }

abbrev pub noted_in : Bool → ℕ → Built → List Begun → Option Built
noted_in is_name taken b [] = None
noted_in is_name taken b (o ∷ os) = Some (record { nodes = b.nodes; tops = b.tops; begun = noted is_name taken o ∷ os })

-- the innermost node is none, and its names are the outer one's
abbrev pub given_in : Built → List Begun → Option Built
given_in b [] = None
given_in b (o ∷ []) = None
given_in b (o ∷ p ∷ os) = Some (record { nodes = b.nodes; tops = b.tops; begun = record { first = p.first; mark = p.mark; height = p.height; names = p.names ++ o.names; value = p.value } ∷ os })

abbrev pub then_wrapped : ℕ → Option Built → Option Built
then_wrapped taken None = None
then_wrapped taken (Some b) = wrapped taken b

-- what an action makes after the token of this number
abbrev pub acted : Text → Action → ℕ → Built → Option Built
acted s action.Open taken b = Some (opened taken taken (length b.tops) b)
acted s action.Wrap taken b = wrapped taken b
acted s action.Note taken b = noted_in (is_idn (slice_get s.symbols taken)) taken b b.begun
acted s (action.Close k) taken b = closed s k taken b
acted s action.Base taken b = if closes 0 (drop (taken + 1) s.symbols) then Some b else then_wrapped taken (closed s kind.Name (taken - 1) b)
acted s action.Give taken b = given_in b b.begun

-- reading the items from one place to the other makes this of what was built before
pub data Builds (s : Text) : List Item → ℕ → Built → ℕ → Built → Type 0 where
  finished : (at : ℕ) (b : Built) → Builds s [] at b at b
  terminal : (x : Symbol) (items : List Item) (at : ℕ) (b : Built) (to : ℕ) (z : Built) → slice_get s.symbols at ≡ Some x → Builds s items (at + 1) b to z → Builds s (item.Terminal x ∷ items) at b to z
  act : (a : Action) (items : List Item) (at : ℕ) (b c : Built) (to : ℕ) (z : Built) → acted s a (at - 1) b ≡ Some c → Builds s items at c to z → Builds s (item.Action a ∷ items) at b to z
  chosen : (n : Nonterminal) (items alternative : List Item) (at : ℕ) (b : Built) (to : ℕ) (z : Built) → IsOneOf (productions n) alternative → Builds s (alternative ++ items) at b to z → Builds s (item.Nonterminal n ∷ items) at b to z

abbrev pub nothing_built : Built
nothing_built = record { nodes = []; tops = []; begun = [] }

-- reading the whole source as a file makes this
abbrev pub IsBuilt : Text → Built → Type 0
IsBuilt s z = Builds s whole 0 nothing_built (length s.symbols) z

-- each node that has begun stands above a floor, with its first child below it or not, and floors do not fall
abbrev pub AreStacked : List Begun → ℕ → Type 0
AreStacked [] top = Unit {0}
AreStacked (o ∷ os) top = (floor : ℕ) × (o.height ≤ floor) × (floor ≤ o.height + 1) × (floor ≤ top) × AreStacked os floor

-- the nodes that no node holds are there, differ, have no parent, count no more than all nodes do by themselves, and
-- with what stands below them are all nodes
pub record IsSound (nodes : List Node) (tops : List ℕ) : Type 0 where
  pub below : All (λ c. c < length nodes) tops
  pub roots : All (IsRoot nodes) tops
  pub differ : AllPairs ◌≢◌ tops
  pub children : (i : ℕ) (n : Node) → slice_get nodes i ≡ Some n → All (λ c. c < length nodes) n.children
  pub counted : sum_by (slice_index (counts nodes)) tops ≤ sum_by own_count nodes
  pub order : IsForest nodes 0 tops (length nodes)

-- what the builder keeps true
pub record IsBuilding (nodes : List Node) (tops : List ℕ) (begun : List Begun) : Type 0 where
  pub sound : IsSound nodes tops
  pub stacked : AreStacked begun (length tops)
