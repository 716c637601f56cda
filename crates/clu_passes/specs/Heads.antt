-- The tables from which heads are made, and the file of which they are.
use Rattle.std.specs.Prelude.{◌≡◌, ◌<◌, ℕ, List, length, slice_get, Option, Some, None}
use Rattle.std.specs.Option.{option_map}
use Rattle.clu_tree.specs.declared.node.NodeKind.TheVariants as kind
use Rattle.clu_syntax.specs.Kinds.{kind_at}
use Rattle.clu_syntax.specs.Splits.{first_name}
use Rattle.clu_syntax.specs.Syntax.{TypeSet, Restriction, has_operations, is_in, is_in_set}
use Rattle.clu_meaning.specs.Scoping.{Meaning, is_type_parameter, Scope}
use Rattle.clu_checking.specs.Specifications.{Demand, Specification}
use Rattle.clu_checking.specs.Files.{File, is_refused, item, meaning, names}
use Rattle.clu_checking.specs.Equates.{set_named}
use Rattle.clu_head.specs.declared.known.Known.{Known}
use Rattle.clu_head.specs.declared.restricted.Restricted.{Restricted}
use Rattle.clu_head.specs.Asking.{restricted_in}
use Rattle.clu_head.specs.Refused.{grows_in}
use Rattle.clu_passes.specs.Clear.{IsOutside}
use Rattle.clu_passes.specs.Notes.{HaveParents}
use Rattle.clu_passes.specs.Trees.{IsFileOfTree}

abbrev pub file_known : Known → Scope → List Specification → List ℕ → File
file_known k scope library refused = record { nodes = k.syntax.now; rounds = k.rounds.now; scope = scope; library = library; refused = refused }

-- a node of the file of a tree that stands in no brackets is refused, by the counts, just if a type is refused there or below it
pub record AreCounted (k : Known) (f : File) : Type 0 where
  pub of_tree : IsFileOfTree f
  pub parents : HaveParents f
  pub same : (n : ℕ) → n < length f.nodes → IsOutside f n → is_refused f n ≡ grows_in k.refused.now (slice_get k.rounds.now n) n

-- ---- where clauses

-- what is asked, but for the type that is wanted
abbrev pub without_type : Demand → Demand
without_type d = record d { wanted = None }

abbrev pub parameter_meant : Meaning → Option ℕ
parameter_meant (is_type_parameter k) = Some k
parameter_meant _ = None

-- the type set of a restriction
abbrev pub set_meant : File → Restriction → Option TypeSet
set_meant f (has_operations n name operations) = None
set_meant f (is_in n name set) = set_named f n set
set_meant f (is_in_set n name set) = Some set

-- what is known of the Restrict n: the parameter that its first name is, and the node of its type set
pub record IsRestricted (f : File) (n : ℕ) (r : Restricted) : Type 0 where
  pub parameter : r.parameter ≡ parameter_meant (meaning f n (first_name (names f n)))
  pub set : option_map (λ c. (item f c).type_set) r.set ≡ set_meant f (item f n).restriction
  pub node : (c : ℕ) → r.set ≡ Some c → kind_at f.nodes c ≡ kind.TypeSet

abbrev pub AreRestricted : File → List Restricted → Type 0
AreRestricted f restricted = (n : ℕ) → kind_at f.nodes n ≡ kind.Restrict → IsRestricted f n (restricted_in (slice_get restricted n))
