use Rattle.std.proofs.Common.{refl}
use Rattle.std.specs.Prelude.{slice_get}
use Rattle.clu_declares.proofs.Bound.{bound_by}
use Rattle.clu_declares.proofs.declared_bound.Goals as goal

pub returns : goal.returns
returns c t nodes rounds parsed are n name h = bound_by t nodes rounds parsed are n name n (slice_get nodes n) refl h
