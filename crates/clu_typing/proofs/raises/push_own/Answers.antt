use Rattle.std.proofs.Common.{◌++◌, length, Option, OnOk, sym, subst}
use Rattle.clu_types.specs.declared.term.TypeId.{TypeId}
use Rattle.clu_operations.specs.Finding.{IsBelowIf}
use Rattle.clu_typing.specs.Raises.{AreGathered, failing_told, fails, first_invoked, invoked_told}
use Rattle.clu_typing.proofs.Gathered.{but_on, failing_gathered}
use Rattle.clu_typing.proofs.raises.push_own.Goals as goal

pub returns-clause-kept : goal.returns-clause-kept
returns-clause-kept c = but_on _ _ _ c.in_ok-push_invoked.ensures.kept c.push_invoked-2.ensures.kept

pub returns-clause-own : goal.returns-clause-own
returns-clause-own c = λ names first told one two are.
    let types = c.args.types.now in
    let before = c.args.facts.now in
    let new = c.push_invoked-2.new.facts in
    let made = c.push_invoked-2.new.list.items in
    let failing = failing_told c.args.headed.file c.args.n in
    subst (λ (o : Option TypeId). OnOk c.push_invoked-2.result (AreGathered types names first new.finding.words new.raising made (((told ++ failing) ++ invoked_told types (first_invoked c.args.headed.file before c.args.applied c.args.n)) ++ invoked_told types o)))
    c.second_operation-second.ensures
    (subst (λ (o : Option TypeId). OnOk c.push_invoked-2.result (AreGathered types names first new.finding.words new.raising made (((told ++ failing) ++ invoked_told types o) ++ invoked_told types c.second_operation-second.result)))
    c.first_invoked-first.ensures
    (c.push_invoked-2.ensures.invoked names first ((told ++ failing) ++ invoked_told types c.first_invoked-first.result)
    (subst (λ (o : Option TypeId). IsBelowIf (length types) o) (sym c.second_operation-second.ensures) two)
    (c.in_ok-push_invoked.ensures.invoked names first (told ++ failing)
    (subst (λ (o : Option TypeId). IsBelowIf (length types) o) (sym c.first_invoked-first.ensures) one)
    (failing_gathered types names first before.finding.words before.raising c.args.list.now.items told are (fails c.args.headed.file c.args.n) c.push_failing.new.list.items c.in_ok-push_failing.ensures))))
