-- The equates whose unfolding goes on for as many steps as there are declarations, and so meets itself.
use Rattle.std.specs.Prelude.{ℕ, zero, suc, ◌-◌, if◌then◌else◌, Bool, true, false, List, [], ◌∷◌, ◌++◌, length, map, slice_get, Option, Some, None}
use Rattle.std.specs.List.{list_any, range_with_len}
use Rattle.clu_tree.specs.declared.node.Node.{Node}
use Rattle.clu_syntax.specs.declared.round.Round.{Round}
use Rattle.clu_syntax.specs.Rounds.{round_at}
use Rattle.clu_names.specs.declared.scopes.Declared.{Declared}
use Rattle.clu_circles.specs.declared.states.Span.{Span}
use Rattle.clu_settle.specs.Graph.{is_equate_at, unfolded_at, unfolded_to}

module _ (nodes : List Node) (rounds : List Round) (ds : List Declared) where
  -- the nodes of an equate: those below it, and itself
  abbrev pub nodes_of : ℕ → List ℕ
  nodes_of e = range_with_len (round_at rounds e).first (suc e - (round_at rounds e).first)

  abbrev pub nodes_in : Option Declared → List ℕ
  nodes_in (Some d) = if is_equate_at nodes d.node then nodes_of d.node else []
  nodes_in None = []

  abbrev pub goes_on : (ℕ → Bool) → Option ℕ → Bool
  goes_on test (Some k) = test k
  goes_on test None = false

  -- from the declaration of this place, by the equates that are named in it, for so many steps
  unfoldable pub goes_far : ℕ → ℕ → Bool
  goes_far zero k = true
  goes_far (suc steps) k = list_any (λ n. list_any (goes_on (goes_far steps)) (unfolded_at nodes ds n)) (nodes_in (slice_get ds k))

  abbrev pub is_circular : ℕ → Bool
  is_circular k = goes_far (length ds) k

-- ---- where the names of nodes stand

-- where those of each of the first n nodes begin
unfoldable pub unfolded_starts : List Node → List Declared → ℕ → List ℕ
unfolded_starts nodes ds zero = []
unfolded_starts nodes ds (suc n) = unfolded_starts nodes ds n ++ length (unfolded_to nodes ds n) ∷ []

-- behind all, of what is no node
abbrev pub start_in : ℕ → Option ℕ → ℕ
start_in all (Some start) = start
start_in all None = all

abbrev pub span_if : Bool → ℕ → List ℕ → ℕ → Option Round → Span
span_if true all starts e (Some round) = record { from = start_in all (slice_get starts round.first); to = start_in all (slice_get starts e) }
span_if _ all starts e _ = record { from = 0; to = 0 }

abbrev pub span_in : List Node → List Round → ℕ → List ℕ → Declared → Span
span_in nodes rounds all starts d = span_if (is_equate_at nodes d.node) all starts d.node (slice_get rounds d.node)

-- for each declaration the names in it, if it is an equate
abbrev pub spans_to : List Node → List Round → List Declared → List Span
spans_to nodes rounds ds = map (span_in nodes rounds (length (unfolded_to nodes ds (length nodes))) (unfolded_starts nodes ds (length nodes))) ds
