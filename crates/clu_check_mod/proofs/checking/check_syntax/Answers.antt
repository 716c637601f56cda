use Rattle.std.proofs.Common.{None}
use Rattle.std.proofs.lemmas.Result.{err_from_is_err_and}
use Rattle.clu_check_mod.specs.Answered.{IsFirst, IsFirstWith, IsUnspecified, IsUnspecifiedWith}
use Rattle.clu_check_mod.proofs.Answered.{error_more, first_of_tree, found_of_tree, unspecified_of_tree}
use Rattle.clu_check_mod.proofs.checking.check_syntax.Goals as goal

pub returns-in_err-found-clause-first : goal.returns-in_err-found-clause-first
returns-in_err-found-clause-first c =
    let p = err_from_is_err_and c.from_residual-in_err-found.result c.from_residual-in_err-found.ensures.1 in
    rw (p.1, p.2)
    (error_more (IsFirstWith c.args.syntax.now c.as_slice-3.result.now c.in_ok-names.names c.deref_mut.result.now c.args.library.now c.args.extent) (IsFirst c.args.syntax.now c.args.library.now c.args.extent)
    (IsUnspecifiedWith c.args.syntax.now c.as_slice-3.result.now c.in_ok-names.names c.deref_mut.result.now c.args.library.now c.args.extent) (IsUnspecified c.args.syntax.now c.args.library.now c.args.extent)
    (first_of_tree c.args.syntax.now c.tree.result.now c.tree-2.result.now c.in_ok-rounds.rounds.items c.as_slice.result.now c.as_slice-2.result.now c.as_slice-3.result.now c.in_ok-names.names c.in_ok-settled.settled.value c.deref_mut.result.now c.args.library.now c.args.extent
    c.tree.ensures.same c.tree-2.ensures.same c.as_slice.ensures.value c.as_slice-2.ensures.value c.as_slice-3.ensures.value c.deref_mut.ensures.value
    c.in_ok-rounds.ensures.are c.in_ok-names.ensures.declared c.in_ok-names.ensures.bound c.in_ok-names.ensures.starts c.in_ok-settled.ensures)
    (unspecified_of_tree c.args.syntax.now c.tree.result.now c.tree-2.result.now c.in_ok-rounds.rounds.items c.as_slice.result.now c.as_slice-2.result.now c.as_slice-3.result.now c.in_ok-names.names c.in_ok-settled.settled.value c.deref_mut.result.now c.args.library.now c.args.extent
    c.tree.ensures.same c.tree-2.ensures.same c.as_slice.ensures.value c.as_slice-2.ensures.value c.as_slice-3.ensures.value c.deref_mut.ensures.value
    c.in_ok-rounds.ensures.are c.in_ok-names.ensures.declared c.in_ok-names.ensures.bound c.in_ok-names.ensures.starts c.in_ok-settled.ensures) c.in_err-found.field-0.0 c.in_err-found.ensures.first)

pub returns-clause-first : goal.returns-clause-first
returns-clause-first c =
    first_of_tree c.args.syntax.now c.tree.result.now c.tree-2.result.now c.in_ok-rounds.rounds.items c.as_slice.result.now c.as_slice-2.result.now c.as_slice-3.result.now c.in_ok-names.names c.in_ok-settled.settled.value c.deref_mut.result.now c.args.library.now c.args.extent
    c.tree.ensures.same c.tree-2.ensures.same c.as_slice.ensures.value c.as_slice-2.ensures.value c.as_slice-3.ensures.value c.deref_mut.ensures.value
    c.in_ok-rounds.ensures.are c.in_ok-names.ensures.declared c.in_ok-names.ensures.bound c.in_ok-names.ensures.starts c.in_ok-settled.ensures None c.in_ok-found.ensures.first.is

pub returns-clause-noted : goal.returns-clause-noted
returns-clause-noted c =
    found_of_tree c.args.syntax.now c.tree.result.now c.tree-2.result.now c.in_ok-rounds.rounds.items c.as_slice.result.now c.as_slice-2.result.now c.as_slice-3.result.now c.in_ok-names.names c.in_ok-settled.settled.value c.deref_mut.result.now c.args.library.now c.args.extent
    c.tree.ensures.same c.tree-2.ensures.same c.as_slice.ensures.value c.as_slice-2.ensures.value c.as_slice-3.ensures.value c.deref_mut.ensures.value
    c.in_ok-rounds.ensures.are c.in_ok-names.ensures.declared c.in_ok-names.ensures.bound c.in_ok-names.ensures.starts c.in_ok-settled.ensures
    c.check_settled.new.settled c.in_ok-found.found.value c.in_ok-found.ensures.first c.in_ok-found.ensures.values c.in_ok-found.ensures.constants
