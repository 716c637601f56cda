-- Whether a failure is told with a trace: none comes of a source that is not compiled.
use Rattle.std.proofs.Common.{ℕ, Bool, List, Option, inl, inr}
use Rattle.clu_base.specs.Outside.{Files}
use Rattle.clu_driver.specs.Shows.{IsAsked, untraced}
use Rattle.clu_driver.specs.Sources.{NotCompiled}
use Rattle.clu_outcome.specs.declared.outcome.Outcome.{Outcome}
use Rattle.clu_outcome.specs.declared.outcome.Outcome.TheVariants as outcome

-- a source that is not compiled is no failure
pub compiled_asked : (how : Outcome) (traced : Bool) (name : List ℕ) (files : Option Files) (faults faults' : ℕ)
    → NotCompiled how name files faults faults' → IsAsked how traced × NotCompiled (untraced how) name files faults faults'
compiled_asked (outcome.Failure text) traced name files faults faults' (inl unread) = elim unread [ ]
compiled_asked (outcome.Failure text) traced name files faults faults' (inr unmade) = elim unmade.2 [ inl refused ↦ elim refused [ ] | inr unbuilt ↦ elim unbuilt.1.2 [ ] ]
compiled_asked (outcome.Traced text trace) traced name files faults faults' (inl unread) = elim unread [ ]
compiled_asked (outcome.Traced text trace) traced name files faults faults' (inr unmade) = elim unmade.2 [ inl refused ↦ elim refused [ ] | inr unbuilt ↦ elim unbuilt.1.2 [ ] ]
compiled_asked _ traced name files faults faults' refused = (tt, refused)
