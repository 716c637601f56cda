use Rattle.std.proofs.Common.{◌≡◌, ◌-◌, length, Some}
use Rattle.std.specs.Prelude.{slice_get}
use Rattle.std.specs.Str.{bytes_eq}
use Rattle.indexmap.specs.IndexMap.{get}
use Rattle.clu_names.specs.declared.scopes.Declared.{Declared}
use Rattle.clu_names.specs.Latest.{AreLocals}
use Rattle.clu_names.proofs.latest.enter_from.Given as goal

abbrev pub invariant-loop-place : goal.invariant-loop-place
invariant-loop-place l = record {
  latest : AreLocals l.fn.declared l.fn.n l.place (get bytes_eq l.locals);
  here : (d : Declared) → slice_get l.fn.declared l.place ≡ Some d → d.from ≡ l.fn.n;
}

abbrev pub decreases-loop-place : goal.decreases-loop-place
decreases-loop-place l = length l.fn.declared - l.place
