use Rattle.std.proofs.Common.{◌≡◌, ◌+◌, ◌≤◌, ◌++◌, ◌∙◌, ap, sym, length, take, List, ℕ, arith}
use Rattle.std.specs.List.{flat_map}
use Rattle.std.proofs.lemmas.Option.{slice_get_within}
use Rattle.clu_types.specs.declared.spec.Spec.{Spec}
use Rattle.clu_library.specs.Contents.{limit}
use Rattle.clu_library.specs.LibraryFile.{module_bytes}
use Rattle.clu_library.proofs.Walking.{taken_here, written_more}
use Rattle.clu_library.proofs.writing.modules_add.Goals as goal

pub returns-in-None : goal.returns-in-None
returns-in-None c =
    let lib = c.args.library.now in
    c.loop-n.invariant.written ∙ ap (λ (ys : List Spec). c.args.out.now.items ++ flat_map (module_bytes lib) ys) (taken_here lib.specs c.loop-n.n limit c.in-None.ensures.nth (omega (arith, c.loop-n-test.true)))

pub loop-n-preserved : goal.loop-n-preserved
loop-n-preserved c =
    let lib = c.args.library.now in
    record {
      within = omega (arith, slice_get_within lib.specs c.loop-n.n c.in-Some.spec.now (sym c.in-Some.ensures.nth));
      written = written_more (module_bytes lib) lib.specs c.loop-n.n c.in-Some.spec.now c.args.out.now.items _ _ c.in-Some.ensures.nth c.loop-n.invariant.written c.in_ok-module_add-in-Some.ensures;
    }

pub returns : goal.returns
returns c =
    let lib = c.args.library.now in
    let all : c.loop-n.n ≡ limit = omega (arith, c.loop-n-test.false, c.loop-n.auto.n-end) in
    c.loop-n.invariant.written ∙ ap (λ (k : ℕ). c.args.out.now.items ++ flat_map (module_bytes lib) (take k lib.specs)) all
