-- What where clauses and type sets give of type parameters, by the table in which it is entered.
use Rattle.std.specs.Prelude.{ℕ, ◌-◌, nat_lt, nat_le, ◌&&◌, Bool, true, false, get_or, if◌then◌else◌, Option, Some, None}
use Rattle.std.specs.Option.{option_or}
use Rattle.std.specs.HashMap.{get}
use Rattle.clu_tree.specs.declared.node.NodeKind.{NodeKind}
use Rattle.clu_tree.specs.declared.node.NodeKind.TheVariants as kind
use Rattle.clu_bindings.specs.declared.file.File.{File}
use Rattle.clu_bindings.specs.Readers.{kind_in, round_in}
use Rattle.clu_operations.specs.declared.words.NameId.{NameId}
use Rattle.clu_operations.specs.declared.found.FoundId.{FoundId}
use Rattle.clu_operations.specs.declared.found.Given.{Given}
use Rattle.clu_operations.specs.declared.finding.Finding.{Finding}
use Rattle.clu_operations.specs.contracts.found.GivenPartialEq.TheImpl as keys

abbrev pub same : Given → Given → Bool
same = (keys.ghosts).eq

-- by a node
abbrev pub given_by : Finding → Option ℕ → ℕ → NameId → Option FoundId
given_by finding (Some node) parameter operation = get same finding.given (record { node = node; parameter = parameter; operation = operation })
given_by finding None parameter operation = None

abbrev pub is_set_kind : NodeKind → Bool
is_set_kind kind.TypeSet = true
is_set_kind _ = false

module _ (f : File) where
  abbrev pub count_of : Option ℕ → ℕ
  count_of (Some unit) = get_or f.bindings.now.parameters.counts.items unit 0
  count_of None = 0

  -- how many parameters the module round the node has
  abbrev pub count_round : ℕ → ℕ
  count_round n = count_of (round_in f n).unit

  -- it is a TypeSet in which the node stands
  abbrev pub is_set_round : ℕ → ℕ → Bool
  is_set_round n set = is_set_kind (kind_in f set) && nat_le (round_in f set).first n && nat_le n set

  -- the type set whose variable has this number, if the node stands in it
  abbrev pub set_round : ℕ → ℕ → Option ℕ
  set_round n parameter =
      let set = parameter - count_round n - 1 in
      if nat_lt (count_round n) parameter && is_set_round n set then Some set else None

  -- what the routine gives before what the cluster gives, and behind these what a type set asks
  abbrev pub given : Finding → ℕ → ℕ → NameId → Option FoundId
  given finding n parameter operation =
      option_or (option_or (given_by finding (round_in f n).routine parameter operation) (given_by finding (round_in f n).cluster parameter operation))
      (given_by finding (set_round n parameter) parameter operation)
