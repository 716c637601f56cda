-- The rule on up and down over the tables that it reads: V32 UpDown.
use Rattle.std.specs.Prelude.{ℕ, ◌==◌, ◌&&◌, ◌||◌, not, is_none, Bool, true, false, Option, Some}
use Rattle.clu_tree.specs.declared.node.NodeKind.{NodeKind}
use Rattle.clu_tree.specs.declared.node.NodeKind.TheVariants as kind
use Rattle.clu_types.specs.declared.term.TypeId.{TypeId}
use Rattle.clu_bindings.specs.declared.file.File.{File}
use Rattle.clu_bindings.specs.declared.meaning.Meaning.{Meaning}
use Rattle.clu_bindings.specs.declared.meaning.Meaning.TheVariants as meaning
use Rattle.clu_bindings.specs.Inside.{own_type, rep_at, declared_at, representation}
use Rattle.clu_bindings.specs.Wanted.{is_object_wanted}
use Rattle.clu_type_rules.specs.declared.known.Known.{Known}
use Rattle.clu_type_rules.specs.Known.{children, wanted_in, first_type}

abbrev pub is_equate : Option Meaning → Bool
is_equate (Some (meaning.Equate right)) = true
is_equate (Some meaning.TypeSet) = true
is_equate _ = false

-- no cluster with a representation is round the node
abbrev pub has_no_rep : File → ℕ → Bool
has_no_rep f n = is_none (own_type f n) || not (is_equate (declared_at f (rep_at f n)))

-- both types are known, and differ
abbrev pub is_not_of : Option TypeId → Option TypeId → Bool
is_not_of (Some wanted) (Some given) = not (wanted.0 == given.0)
is_not_of _ _ = false

module _ (k : Known) where
  abbrev pub is_misplaced : ℕ → Option TypeId → Bool
  is_misplaced n wanted = is_object_wanted (wanted_in k n) && (has_no_rep k.tables.file n || is_not_of wanted (first_type k (children k n)))

  -- V32, at a node of this kind
  abbrev pub is_up_or_down_misplaced : NodeKind → ℕ → Bool
  is_up_or_down_misplaced kind.Up n = is_misplaced n (representation k.headed n)
  is_up_or_down_misplaced kind.Down n = is_misplaced n (own_type k.tables.file n)
  is_up_or_down_misplaced _ n = false
