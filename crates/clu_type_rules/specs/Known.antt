-- What the rules see of a node.
use Rattle.std.specs.Prelude.{ℕ, not, if◌then◌else◌, Bool, true, false, List, [], ◌∷◌, slice_get, get_or, Option, Some, None}
use Rattle.clu_tree.specs.declared.node.Node.{Node}
use Rattle.clu_tree.specs.declared.node.NodeKind.{NodeKind}
use Rattle.clu_tree.specs.declared.node.NodeKind.TheVariants as kind
use Rattle.clu_syntax.specs.Kinds.{kind_at}
use Rattle.clu_syntax.specs.Splits.{children_of}
use Rattle.clu_syntax.specs.Rounds.{round_at}
use Rattle.clu_types.specs.declared.term.TypeId.{TypeId}
use Rattle.clu_types.specs.declared.term.Field.{Field}
use Rattle.clu_types.specs.declared.term.Heading.{Heading}
use Rattle.clu_types.specs.declared.term.Term.{Term}
use Rattle.clu_types.specs.declared.term.Term.TheVariants as term
use Rattle.clu_head.specs.There.{is_there}
use Rattle.clu_bindings.specs.declared.wanted.Wanted.{Wanted}
use Rattle.clu_bindings.specs.declared.wanted.Wanted.TheVariants as wanted
use Rattle.clu_typing.specs.Facts.{type_of}
use Rattle.clu_type_rules.specs.declared.known.Known.{Known}
use Rattle.clu_type_rules.specs.declared.routines.Parts.{Parts}
use Rattle.clu_type_rules.specs.Routines.{parts_in}

abbrev pub is_bool : Term → Bool
is_bool term.Bool = true
is_bool _ = false

abbrev pub is_iter : Term → Bool
is_iter (term.Iter heading) = true
is_iter _ = false

-- what a routine of this type takes, gives and signals
abbrev pub heading_of : Term → Option Heading
heading_of (term.Proc heading) = Some heading
heading_of (term.Iter heading) = Some heading
heading_of _ = None

-- the tags of a oneof or variant
abbrev pub tags_of : Term → Option (List Field)
tags_of (term.Oneof fields) = Some fields
tags_of (term.Variant fields) = Some fields
tags_of _ = None

abbrev pub is_other_than_bool : Option Term → Bool
is_other_than_bool (Some t) = not (is_bool t)
is_other_than_bool None = false

abbrev pub is_iterator : Option Term → Bool
is_iterator (Some t) = is_iter t
is_iterator None = false

abbrev pub heading_in : Option Term → Option Heading
heading_in (Some t) = heading_of t
heading_in None = None

abbrev pub tags_in : Option Term → Option (List Field)
tags_in (Some t) = tags_of t
tags_in None = None

module _ (k : Known) where
  abbrev pub nodes : List Node
  nodes = k.tables.file.syntax.now

  abbrev pub kind_in : ℕ → NodeKind
  kind_in n = kind_at nodes n

  abbrev pub is_node : NodeKind → ℕ → Bool
  is_node its n = is_there its (slice_get nodes n)

  abbrev pub children : ℕ → List ℕ
  children n = children_of (slice_get nodes n)

  abbrev pub wanted_in : ℕ → Wanted
  wanted_in n = get_or k.tables.file.bindings.now.wanted.items n wanted.Nothing

  -- the routine round the node
  abbrev pub parts_round : ℕ → Option Parts
  parts_round n = parts_in k.routines.now.parts.items (round_at k.tables.file.rounds.now n).routine

  -- the term of a type that is known
  abbrev pub term_of : Option TypeId → Option Term
  term_of (Some of) = slice_get k.tables.types.now of.0
  term_of None = None

  abbrev pub type_at : ℕ → Option TypeId
  type_at n = type_of k.facts.now n

  abbrev pub term_at : ℕ → Option Term
  term_at n = term_of (type_at n)

  abbrev pub first_type : List ℕ → Option TypeId
  first_type (c ∷ cs) = type_at c
  first_type [] = None

  -- the type of what the call at a node invokes
  abbrev pub invoked_by : ℕ → Option TypeId
  invoked_by call = if is_node kind.Call call then first_type (children call) else None
