-- The rule on numbers of results over the tables that it reads: V14 ResultCount.
use Rattle.std.specs.Prelude.{ℕ, ◌&&◌, ◌||◌, not, is_some, Bool, true, false, List, [], ◌∷◌, Option, Some, None}
use Rattle.clu_tree.specs.declared.node.NodeKind.{NodeKind}
use Rattle.clu_tree.specs.declared.node.NodeKind.TheVariants as kind
use Rattle.clu_syntax.specs.Items.{Item}
use Rattle.clu_syntax.specs.Kinds.{is_type}
use Rattle.clu_syntax.specs.Rounds.{round_at}
use Rattle.clu_bindings.specs.declared.file.File.{File}
use Rattle.clu_bindings.specs.declared.meaning.Meaning.{Meaning}
use Rattle.clu_bindings.specs.declared.meaning.Meaning.TheVariants as meaning
use Rattle.clu_bindings.specs.declared.wanted.Wanted.{Wanted}
use Rattle.clu_bindings.specs.declared.wanted.Wanted.TheVariants as wanted
use Rattle.clu_bindings.specs.Files.{declaration_in}
use Rattle.clu_bindings.specs.Inside.{settled_type}
use Rattle.clu_bindings.specs.Readers.{kind_in, children_in, wanted_in, takes_actuals, meaning_in, module_in, is_routine, set_at}
use Rattle.clu_bindings.specs.Wanted.{is_object_wanted}
use Rattle.clu_type_rules.specs.declared.invocation_rules.Fault.TheVariants as fault
use Rattle.clu_type_rules.specs.declared.known.Known.{Known}
use Rattle.clu_type_rules.specs.InvocationRules.{some_has_fault}
use Rattle.clu_type_rules.specs.Bindings.{binding_at, is_other_number}

-- a call statement, a loop's call and r.s := e may have any number of results
abbrev pub is_object : Wanted → Bool
is_object wanted.Object = true
is_object _ = false

abbrev pub is_one_wanted : NodeKind → Wanted → Bool
is_one_wanted kind.SetField w = false
is_one_wanted kind.SetIndex w = false
is_one_wanted k w = is_object w

module _ (f : File) where
  -- modules that are no routines are clusters, and stream is a type
  abbrev pub means_no_object : ℕ → Meaning → Bool
  means_no_object n (meaning.Equate c) = is_some (settled_type f c) || is_some (set_at f (declaration_in f.names.now n))
  means_no_object n meaning.TypeSet = true
  means_no_object n (meaning.TypeParameter number) = true
  means_no_object n (meaning.Module its) = not (is_routine f its)
  means_no_object n _ = false

  abbrev pub names_no_object : ℕ → Bool
  names_no_object n = means_no_object n (meaning_in f n)

  abbrev pub is_object_wanted_at : Option ℕ → Bool
  is_object_wanted_at (Some p) = is_object_wanted (wanted_in f p)
  is_object_wanted_at None = false

  -- a type's name, also before an index
  abbrev pub is_no_object_name : Wanted → ℕ → Bool
  is_no_object_name wanted.NameWithActuals n = is_object_wanted_at (round_at f.rounds.now n).parent && not (is_some (module_in f n))
  is_no_object_name w n = is_object_wanted w && names_no_object n

  abbrev pub is_no_object_index : List ℕ → Bool
  is_no_object_index (m ∷ cs) = takes_actuals f m && names_no_object m
  is_no_object_index [] = false

  abbrev pub is_no_object : NodeKind → ℕ → Bool
  is_no_object kind.Name n = is_no_object_name (wanted_in f n) n
  is_no_object kind.Index n = is_object_wanted (wanted_in f n) && is_no_object_index (children_in f n)
  is_no_object k n = is_type k && is_object_wanted (wanted_in f n)

module _ (k : Known) where
  abbrev pub has_no_one_result : ℕ → Bool
  has_no_one_result n = is_one_wanted (kind_in k.tables.file n) (wanted_in k.tables.file n) && some_has_fault k fault.ResultCount n

  abbrev pub is_not_one_object : ℕ → Bool
  is_not_one_object n = has_no_one_result n || is_no_object k.tables.file (kind_in k.tables.file n) n

  -- V14: an expression has not exactly one result, or a statement another number of variables than objects
  abbrev pub has_other_number : (ℕ → Item) → ℕ → Bool
  has_other_number items n = is_not_one_object n || is_other_number k (binding_at k items (kind_in k.tables.file n) n)
