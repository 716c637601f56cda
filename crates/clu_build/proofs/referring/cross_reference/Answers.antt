use Rattle.std.proofs.Common.{◌≡◌, ◌∙◌, ◌++◌, ℕ, List, slice_get, ap, sym, arith}
use Rattle.clu_types.specs.declared.spec.Spec.{Spec}
use Rattle.clu_build.specs.References.{lines_to, module_text}
use Rattle.clu_build.proofs.Lines.{lines_next, lines_end}
use Rattle.clu_build.proofs.referring.cross_reference.Goals as goal
use Rattle.clu_build.proofs.referring.cross_reference.Goals.{else-loop-number-test, then-loop-number-test+in_default}

pub loop-number-preserved : goal.loop-number-preserved
loop-number-preserved c =
    c.in_ok-put_module.ensures
    ∙ ap (λ (t : List ℕ). t ++ module_text c.args.library.now c.in-Some.spec.now.name) c.loop-number.invariant
    ∙ sym (lines_next (λ (s : Spec). module_text c.args.library.now s.name) c.args.library.now.specs c.loop-number.number c.in-Some.spec.now
    (ap (λ (xs : List Spec). slice_get xs c.loop-number.number) (sym c.specs.ensures) ∙ sym c.in-Some.ensures.nth))

pub returns : goal.returns
returns c = elim c.loop-number-test.branch [
  | else-loop-number-test w ↦
      let all : c.loop-number.number ≡ 4096 = omega (arith, w.loop-number-test.false, c.loop-number.auto.number-end) in
      c.loop-number.invariant ∙ ap (lines_to c.args.library.now) all
  | then-loop-number-test+in_default w ↦
      c.loop-number.invariant
      ∙ lines_end (λ (s : Spec). module_text c.args.library.now s.name) c.args.library.now.specs c.loop-number.number 4096
      (ap (λ (xs : List Spec). slice_get xs c.loop-number.number) (sym w.specs.ensures) ∙ sym w.in_default.ensures.nth) c.loop-number.auto.number-end
]
