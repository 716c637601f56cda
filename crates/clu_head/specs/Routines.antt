-- The heads of routines: what each is at its node, with its type as a number of an arena that grew meanwhile.
use Rattle.std.specs.Prelude.{◌≡◌, ℕ, if◌then◌else◌, Bool, true, false, List, [], ◌∷◌, ◌++◌, map, slice_get, bytes_eq, Option, Some, None}
use Rattle.std.specs.List.{list_any}
use Rattle.clu_tree.specs.declared.node.Node.{Node}
use Rattle.clu_tree.specs.declared.node.NodeKind.TheVariants as kind
use Rattle.clu_syntax.specs.declared.words.RoutineKind.{RoutineKind}
use Rattle.clu_syntax.specs.declared.words.RoutineKind.TheVariants as word
use Rattle.clu_syntax.specs.Splits.{first_name, run, after_run, parts, after_one}
use Rattle.clu_syntax.specs.Words.{symbol_in, routine_kind}
use Rattle.clu_types.specs.declared.term.TypeId.{TypeId}
use Rattle.clu_types.specs.declared.term.Term.{Term}
use Rattle.clu_head.specs.declared.asked.Asked.{Asked}
use Rattle.clu_head.specs.declared.head.RoutineHead.{RoutineHead}
use Rattle.clu_head.specs.declared.known.Known.{Known}
use Rattle.clu_head.specs.declared.routines.Named.{Named}
use Rattle.clu_head.specs.Asked.{demands_of}
use Rattle.clu_head.specs.Listed.{listed}
use Rattle.clu_head.specs.Outside.{heading_outside}
use Rattle.clu_head.specs.Named.{name_rank}
use Rattle.clu_head.specs.Ranks.{before, same, demand_rank, both_asked, first_of}
use Rattle.clu_head.specs.Terms.{is_refused_heading, routine_term, IsNumbered}
use Rattle.clu_head.specs.There.{is_there}

abbrev pub is_iterator : RoutineKind → Bool
is_iterator word.Procedure = false
is_iterator word.Iterator = true

-- ---- the parts of a Routine

abbrev pub kind_in : Node → RoutineKind
kind_in node = routine_kind (symbol_in node.value)

module _ (nodes : List Node) where
  abbrev pub arguments_in : Node → List ℕ
  arguments_in node = run nodes kind.Decl (after_run nodes kind.Parm node.children)

  abbrev pub behind_arguments : Node → List ℕ
  behind_arguments node = after_run nodes kind.Decl (after_run nodes kind.Parm node.children)

  abbrev pub results_in : Node → List ℕ
  results_in node = parts nodes kind.Results (behind_arguments node)

  abbrev pub exceptions_in : Node → List ℕ
  exceptions_in node = run nodes kind.Exc (parts nodes kind.Signals (after_one nodes kind.Results (behind_arguments node)))

module _ (k : Known) (own : Option TypeId) where
  -- the type of the Routine n, whose node this is, as a term
  abbrev pub term_of_node : ℕ → Node → Option Term
  term_of_node n node =
      routine_term (is_refused_heading k.syntax.now k.refused.now k.rounds.now n) (kind_in node)
      (heading_outside own k.syntax.now k.values.now (arguments_in k.syntax.now node) (results_in k.syntax.now node) (exceptions_in k.syntax.now node))

  unfoldable pub term_at : ℕ → Option Node → Option Term
  term_at n (Some node) = term_of_node n node
  term_at n None = None

abbrev pub name_at : Option Node → List ℕ
name_at (Some node) = first_name node.names
name_at None = []

abbrev pub is_iterator_at : Option Node → Bool
is_iterator_at (Some node) = is_iterator (kind_in node)
is_iterator_at None = false

-- the head of the Routine n
pub record IsHead (k : Known) (asked : Asked) (own : Option TypeId) (exports : List (List ℕ)) (old new : List Term) (n : ℕ) (h : RoutineHead) : Type 0 where
  pub node : h.node ≡ n
  pub name : h.name ≡ name_at (slice_get k.syntax.now n)
  pub iter : h.iter ≡ is_iterator_at (slice_get k.syntax.now n)
  pub of_type : IsNumbered old new (term_at k own n (slice_get k.syntax.now n)) h.of_type
  pub demands : h.demands ≡ listed (before demand_rank) (same demand_rank) both_asked (demands_of asked.demands.items asked.starts.items n)
  pub exported : h.exported ≡ list_any (bytes_eq h.name) exports

-- the heads of several, in order
abbrev pub AreHeads : (ℕ → RoutineHead → Type 0) → List ℕ → List RoutineHead → Type 0
AreHeads is [] [] = Unit {0}
AreHeads is [] (h ∷ hs) = ⊥
AreHeads is (n ∷ ns) [] = ⊥
AreHeads is (n ∷ ns) (h ∷ hs) = is n h × AreHeads is ns hs

-- ---- those of a cluster

-- the Routines among these nodes with their names
abbrev pub named_told : Named → ℕ × List ℕ
named_told r = (r.node, name_rank r)

abbrev pub named_at : ℕ → Option Node → List (ℕ × List ℕ)
named_at n its = if is_there kind.Routine its then (n, name_at its) ∷ [] else []

module _ (nodes : List Node) where
  unfoldable pub routines_named : List ℕ → List (ℕ × List ℕ)
  routines_named [] = []
  routines_named (n ∷ ns) = named_at n (slice_get nodes n) ++ routines_named ns

abbrev pub listed_nodes : List Named → List ℕ
listed_nodes rs = map (λ r. r.node) (listed (before name_rank) (same name_rank) first_of rs)

abbrev pub once_if : Bool → ℕ → List ℕ
once_if true n = n ∷ []
once_if false n = []

-- those of the nodes that are Routines
module _ (nodes : List Node) where
  abbrev pub is_routine : ℕ → Bool
  is_routine n = is_there kind.Routine (slice_get nodes n)

  abbrev pub routines_among : List ℕ → List ℕ
  routines_among [] = []
  routines_among (n ∷ ns) = once_if (is_routine n) n ++ routines_among ns

-- more heads, of the Routine n if it is one
unfoldable pub HaveMore : List Node → (ℕ → RoutineHead → Type 0) → ℕ → List RoutineHead → List RoutineHead → Type 0
HaveMore nodes is n old new = (made : List RoutineHead) × (new ≡ old ++ made) × AreHeads is (once_if (is_routine nodes n) n) made

-- the heads of the Routines among these nodes, in ascending order by their names, of those of one name the first
unfoldable pub AreListed : List Node → (ℕ → RoutineHead → Type 0) → List ℕ → List RoutineHead → Type 0
AreListed nodes is ns hs = (rs : List Named) × (map named_told rs ≡ routines_named nodes ns) × AreHeads is (routines_among nodes (listed_nodes rs)) hs
