-- The types of routines as terms, and their numbers in an arena.
use Rattle.std.specs.Prelude.{◌≡◌, ℕ, ◌&&◌, if◌then◌else◌, Bool, true, false, List, length, slice_get, Option, Some, None}
use Rattle.std.specs.List.{list_any}
use Rattle.std.specs.Option.{option_map}
use Rattle.clu_tree.specs.declared.node.Node.{Node}
use Rattle.clu_tree.specs.declared.node.NodeKind.{NodeKind}
use Rattle.clu_tree.specs.declared.node.NodeKind.TheVariants as kind
use Rattle.clu_syntax.specs.declared.round.Round.{Round}
use Rattle.clu_syntax.specs.declared.words.RoutineKind.{RoutineKind}
use Rattle.clu_syntax.specs.declared.words.RoutineKind.TheVariants as word
use Rattle.clu_syntax.specs.Splits.{children_of}
use Rattle.clu_types.specs.Arena.{PartsBelow}
use Rattle.clu_types.specs.declared.term.TypeId.{TypeId}
use Rattle.clu_types.specs.declared.term.Heading.{Heading}
use Rattle.clu_types.specs.declared.term.Term.{Term}
use Rattle.clu_types.specs.declared.term.Term.TheVariants as term
use Rattle.clu_head.specs.Refused.{grows_in}

-- ---- whether a type of a heading is refused

-- the parts of a routine that make its type
abbrev pub is_of_type : NodeKind → Bool
is_of_type kind.Decl = true
is_of_type kind.Results = true
is_of_type kind.Signals = true
is_of_type _ = false

abbrev pub is_there_of_type : Option Node → Bool
is_there_of_type (Some node) = is_of_type node.kind
is_there_of_type None = false

module _ (nodes : List Node) (counts : List ℕ) (rounds : List Round) where
  unfoldable pub is_refused_part : ℕ → Bool
  is_refused_part c = is_there_of_type (slice_get nodes c) && grows_in counts (slice_get rounds c) c

  -- of the Routine n
  abbrev pub is_refused_heading : ℕ → Bool
  is_refused_heading n = list_any is_refused_part (children_of (slice_get nodes n))

-- ---- terms

abbrev pub term_of : RoutineKind → Heading → Term
term_of word.Procedure h = term.Proc h
term_of word.Iterator h = term.Iter h

-- that of a routine; none if something of its heading is refused or lost
abbrev pub routine_term : Bool → RoutineKind → Option Heading → Option Term
routine_term refused k h = if refused then None else option_map (term_of k) h

-- the number of a term in an arena as it is then; it has none if there is no term, or a part of it was not of the arena before
abbrev pub IsNumbered : List Term → List Term → Option Term → Option TypeId → Type 0
IsNumbered old new (Some t) (Some id) = slice_get new id.0 ≡ Some t
IsNumbered old new (Some t) None = PartsBelow (length old) t → ⊥
IsNumbered old new None (Some id) = ⊥
IsNumbered old new None None = Unit {0}
