use Rattle.std.proofs.Common.{◌∙◌, List, ap, subst, sym}
use Rattle.clu_library.specs.Contents.{Contents}
use Rattle.clu_types.specs.declared.spec.Spec.{Spec}
use Rattle.clu_checked.specs.Sources.{AreKept, HasSource}
use Rattle.clu_driver.specs.declared.sources.Parsed.{Parsed}
use Rattle.clu_driver.proofs.Entered.{entered_compiled, shown_as}
use Rattle.clu_driver.proofs.separate.compile_source.Goals as goal

pub checked-requires-clause-source : goal.checked-requires-clause-source
checked-requires-clause-source g c =
    subst (λ (p : Parsed). HasSource p.syntax) (sym c.into_inner-bytes.ensures)
    (record { bytes = c.args.gathered.source.value.bytes.items; tokens = c.args.gathered.source.value.tokens.items; source = c.requires.parsed; read = c.requires.read })

pub checked-requires-clause-specs : goal.checked-requires-clause-specs
checked-requires-clause-specs g c = subst (λ (specs : List Spec). AreKept specs) (sym (c.specs.ensures ∙ ap (λ (l : Contents). l.specs) c.deref-3.ensures)) c.requires.specs

pub returns-in-Ok : goal.returns-in-Ok
returns-in-Ok g c =
    let source = c.args.gathered.source.value in
    let inner = c.into_inner-bytes.ensures in
    record {
      told = shown_as _ _ _ _ _ _ _
          (λ how. entered_compiled how c.args.name.now c.args.file.now c.args.gathered.library.value c.deref_mut.result.now source.bytes.items c.deref.result.now source.tokens.items c.deref-2.result.now
          source.syntax c.into_inner-bytes.result.syntax c.in-Ok.checked.value c.deref-in-Ok.result.now c.specs.result.now _ _ _ _
          c.deref_mut.ensures.value (c.deref.ensures.value ∙ ap (λ (p : Parsed). p.bytes.items) inner) (c.deref-2.ensures.value ∙ ap (λ (p : Parsed). p.tokens.items) inner)
          c.deref-in-Ok.ensures c.in-Ok.ensures.syntax c.in-Ok.ensures.specs (c.specs.ensures ∙ ap (λ (l : Contents). l.specs) c.deref-3.ensures) (ap (λ (p : Parsed). p.syntax) inner) c.in-Ok.ensures.accepted)
          c.enter_and_put.ensures.told;
    }
