-- Types as the bodies of a cluster's routines see them, and as callers do, by the tables of a file.
use Rattle.std.specs.Prelude.{ℕ, ◌&&◌, ◌||◌, is_some, is_none, if◌then◌else◌, Bool, true, false, List, slice_get, get_or, Option, Some, None}
use Rattle.clu_tree.specs.declared.node.Node.{Node}
use Rattle.clu_syntax.specs.declared.words.SimpleType.{SimpleType}
use Rattle.clu_syntax.specs.declared.words.SimpleType.TheVariants as simple
use Rattle.clu_syntax.specs.Items.{Item}
use Rattle.clu_syntax.specs.Nodes.{item_with}
use Rattle.clu_syntax.specs.Rounds.{round_at}
use Rattle.clu_syntax.specs.Syntax.{TypeExpression, a_simple_type}
use Rattle.clu_types.specs.declared.term.TypeId.{TypeId}
use Rattle.clu_settle.specs.declared.value.Value.TheVariants as value
use Rattle.clu_settle.specs.Lists.{type_id}
use Rattle.clu_head.specs.Refused.{grows_in}
use Rattle.clu_bindings.specs.declared.file.File.{File}
use Rattle.clu_bindings.specs.declared.file.Headed.{Headed}
use Rattle.clu_bindings.specs.declared.meaning.Meaning.{Meaning}
use Rattle.clu_bindings.specs.declared.meaning.Meaning.TheVariants as meaning
use Rattle.clu_bindings.specs.Files.{declaring_node}
use Rattle.clu_bindings.specs.Tables.{optional}

abbrev pub is_cvt_word : SimpleType → Bool
is_cvt_word simple.Cvt = true
is_cvt_word _ = false

abbrev pub is_cvt_type : TypeExpression → Bool
is_cvt_type (a_simple_type n word) = is_cvt_word word
is_cvt_type _ = false

abbrev pub is_cvt : (ℕ → Item) → List Node → ℕ → Bool
is_cvt items nodes n = is_cvt_type (item_with items nodes n (slice_get nodes n)).type

module _ (f : File) where
  -- the type that a node comes to
  abbrev pub settled_type : ℕ → Option TypeId
  settled_type n = type_id (get_or f.values.now n value.Lost)

  -- of the Cluster node round
  abbrev pub cluster_type : Option ℕ → Option TypeId
  cluster_type (Some cluster) = optional (slice_get f.bindings.now.own.items cluster)
  cluster_type None = None

  -- the type of the cluster round the node, with its own parameters
  abbrev pub own_type : ℕ → Option TypeId
  own_type n = cluster_type (round_at f.rounds.now n).cluster

  -- the place of the declaration of `rep` that counts at the node
  abbrev pub rep_at : ℕ → Option ℕ
  rep_at n = optional (slice_get f.bindings.now.reps.items n)

  abbrev pub declared_at : Option ℕ → Option Meaning
  declared_at (Some place) = slice_get f.bindings.now.declared.items place
  declared_at None = None

  abbrev pub type_meant : Option Meaning → Option TypeId
  type_meant (Some (meaning.Equate right)) = settled_type right
  type_meant _ = None

  -- the type for which the word `rep` stands at the node
  abbrev pub rep_type : ℕ → Option TypeId
  rep_type n = type_meant (declared_at (rep_at n))

  module _ (items : ℕ → Item) where
    -- the type at the node t as the body in which the node n stands sees it; a cluster without `rep` has no other than its own
    abbrev pub type_inside : ℕ → ℕ → Option TypeId
    type_inside n t =
        if is_cvt items f.syntax.now t then (if is_some (own_type n) && is_none (rep_at n) then own_type n else rep_type t)
        else settled_type t

    -- the same as callers see it
    abbrev pub type_outside : ℕ → ℕ → Option TypeId
    type_outside n t = if is_cvt items f.syntax.now t then own_type n else settled_type t

module _ (h : Headed) where
  -- a node at or below this one is refused
  abbrev pub is_refused : ℕ → Bool
  is_refused n = grows_in h.refused.now (slice_get h.file.rounds.now n) n

  abbrev pub is_refused_at : Option ℕ → Bool
  is_refused_at (Some n) = is_refused n
  is_refused_at None = false

  -- what `rep` is equated to is
  abbrev pub is_refused_rep : ℕ → Bool
  is_refused_rep n = is_refused_at (declaring_node h.file.names.now (rep_at h.file n))

  abbrev pub representation : ℕ → Option TypeId
  representation n = if is_refused_rep n then None else rep_type h.file n

  module _ (items : ℕ → Item) where
    -- the type at the node t is refused, as the body in which the node n stands sees it
    abbrev pub is_refused_inside : ℕ → ℕ → Bool
    is_refused_inside n t = is_refused t || (is_cvt items h.file.syntax.now t && is_refused_rep n)

    -- the type of a variable by its name, unless it is refused where it is declared
    abbrev pub known_inside : ℕ → ℕ → Option TypeId
    known_inside n t = if is_refused_inside n t then None else type_inside h.file items n t
