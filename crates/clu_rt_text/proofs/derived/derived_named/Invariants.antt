use Rattle.std.proofs.Common.{◌≡◌, drop}
use Rattle.clu_rt_text.specs.Texts.{names_and_counts, count_in}
use Rattle.clu_rt_text.proofs.derived.derived_named.Given as goal

abbrev pub invariant-loop-derived : goal.invariant-loop-derived
invariant-loop-derived l = count_in (names_and_counts l.operations) l.name ≡ count_in (names_and_counts (drop l.derived-index l.operations)) l.name
