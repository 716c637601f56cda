use Rattle.std.specs.Str.{bytes_eq}
use Rattle.indexmap.specs.IndexMap.{get}
use Rattle.clu_names.proofs.Counts.{stepped, full, AtNext}
use Rattle.std.proofs.Common.{get_or}
use Rattle.clu_names.proofs.latest.enter_from.Goals as goal

pub loop-place-preserved : goal.loop-place-preserved
loop-place-preserved c =
    let s : AtNext c.args.declared.now c.args.n (get_or c.args.nexts.now c.loop-place.place 0) (get bytes_eq c.enter.new.locals) =
    stepped c.args.declared.now c.args.n c.loop-place.place c.args.heads.now c.args.nexts.now (get bytes_eq c.loop-place.locals) (get bytes_eq c.enter.new.locals)
    c.loop-place-test.true c.requires.inside c.requires.chains c.loop-place.invariant.latest c.loop-place.invariant.here c.in_ok-enter.ensures in
    record { latest = s.0; here = s.1 }

pub returns : goal.returns
returns c = full c.args.declared.now c.args.n c.loop-place.place (get bytes_eq c.loop-place.locals) c.loop-place-test.false c.loop-place.invariant.latest
