use Rattle.std.proofs.Common.{◌≡◌, ◌-◌, ◌++◌, ℕ, length, map}
use Rattle.std.specs.List.{range_with_len}
use Rattle.clu_syntax.specs.Items.{Item}
use Rattle.clu_name_rules.specs.Constructors.{ValuesAscend}
use Rattle.clu_check_mod.specs.Bad.{fault_of_types}
use Rattle.clu_check_mod.proofs.bad.refused_nodes.Given as goal

abbrev pub invariant-loop-n : goal.invariant-loop-n
invariant-loop-n l =
    (items : ℕ → Item) → ValuesAscend l.t → l.refused.items ++ map (fault_of_types items l.t l.bad.items) (range_with_len l.n (length l.t.file.syntax.now - l.n)) ≡ map (fault_of_types items l.t l.bad.items) (range_with_len 0 (length l.t.file.syntax.now))
