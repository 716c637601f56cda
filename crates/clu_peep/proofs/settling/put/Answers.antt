use Rattle.std.proofs.Common.{◌≡◌, ◌∙◌, false, true, IsTrue, List, ap, sym, subst}
use Rattle.clu_frames.specs.Labels.{at_last}
use Rattle.clu_peep.specs.declared.places.Place.{Place}
use Rattle.clu_peep.specs.Left.{Adds, is_settled}
use Rattle.clu_peep.specs.Rows.{goes_first}
use Rattle.clu_peep.proofs.Items.{last_found, one_less}
use Rattle.clu_peep.proofs.Passing.{PutsSoFar, puts_end, puts_next, puts_settled}
use Rattle.clu_peep.proofs.settling.put.Goals as goal

pub last-smaller : goal.last-smaller
last-smaller c =
    let useless : at_last (λ (x : Place). goes_first x c.last.place) c.last.left.items ≡ true =
    ap (at_last (λ (x : Place). goes_first x c.last.place)) (sym c.as_slice.ensures.value) ∙ sym c.last-test.ensures in
    let found = last_found (λ (x : Place). goes_first x c.last.place) c.last.left.items useless in
    one_less c.last.left.items found.0 c.take_last.new.left.items found.1 found.2 (c.take_last.ensures found.0 found.1 found.2).0

pub last-preserved : goal.last-preserved
last-preserved c =
    let useless : at_last (λ (x : Place). goes_first x c.last.place) c.last.left.items ≡ true =
    ap (at_last (λ (x : Place). goes_first x c.last.place)) (sym c.as_slice.ensures.value) ∙ sym c.last-test.ensures in
    let found = last_found (λ (x : Place). goes_first x c.last.place) c.last.left.items useless in
    let gone = c.take_last.ensures found.0 found.1 found.2 in
    subst (λ (l : List Place). PutsSoFar c.args.left.now.items c.args.place l c.take_last.new.place) (sym gone.0)
    (subst (λ (p : Place). PutsSoFar c.args.left.now.items c.args.place found.0 p) (sym gone.1)
    (puts_next c.args.left.now.items c.args.place c.last.left.items c.last.place found.0 found.1 c.last.invariant found.2 found.3))

pub returns-clause-adds : goal.returns-clause-adds
returns-clause-adds c =
    subst (λ (l : List Place). Adds c.args.left.now.items c.args.place l false) (sym c.in_ok-push.ensures.items)
    (puts_end c.args.left.now.items c.args.place c.last.left.items c.last.place c.last.invariant)

pub returns-clause-settled : goal.returns-clause-settled
returns-clause-settled c = λ alone undone s.
    let no_first : at_last (λ (x : Place). goes_first x c.last.place) c.last.left.items ≡ false =
    ap (at_last (λ (x : Place). goes_first x c.last.place)) (sym c.as_slice.ensures.value) ∙ sym c.last-test.ensures in
    subst (λ (l : List Place). IsTrue (is_settled l)) (sym c.in_ok-push.ensures.items)
    (puts_settled c.args.left.now.items c.args.place c.last.left.items c.last.place c.last.invariant no_first alone undone s)
