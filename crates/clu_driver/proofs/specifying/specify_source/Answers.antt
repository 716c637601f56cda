use Rattle.std.proofs.Common.{◌∙◌, List, ap, subst, sym}
use Rattle.clu_library.specs.Contents.{Contents}
use Rattle.clu_types.specs.declared.spec.Spec.{Spec}
use Rattle.clu_checked.specs.Sources.{AreKept, HasSource}
use Rattle.clu_driver.specs.declared.sources.Parsed.{Parsed}
use Rattle.clu_driver.proofs.Entered.{entered_specified, shown_as}
use Rattle.clu_driver.proofs.specifying.specify_source.Goals as goal

pub headings-requires-clause-source : goal.headings-requires-clause-source
headings-requires-clause-source g c =
    subst (λ (p : Parsed). HasSource p.syntax) (sym c.deref.ensures)
    (record { bytes = c.args.gathered.source.value.bytes.items; tokens = c.args.gathered.source.value.tokens.items; source = c.requires.parsed; read = c.requires.read })

pub headings-requires-clause-specs : goal.headings-requires-clause-specs
headings-requires-clause-specs g c = subst (λ (specs : List Spec). AreKept specs) (sym (c.specs.ensures ∙ ap (λ (l : Contents). l.specs) c.deref-2.ensures)) c.requires.specs

pub returns-in-Ok : goal.returns-in-Ok
returns-in-Ok g c =
    record {
      told = shown_as _ _ _ _ _ _ _
          (λ how. entered_specified c.args.kept how c.args.library.now c.args.file.now c.args.gathered.library.value c.deref_mut.result.now c.args.gathered.source.value.syntax c.deref.result.now.syntax c.in-Ok.specs.items
          c.deref-in-Ok.result.now c.specs.result.now _ _ _ _ c.deref_mut.ensures.value c.deref-in-Ok.ensures.value (c.specs.ensures ∙ ap (λ (l : Contents). l.specs) c.deref-2.ensures) (ap (λ (p : Parsed). p.syntax) c.deref.ensures)
          c.in-Ok.ensures.accepted c.in-Ok.ensures.own)
          c.enter_and_put.ensures.told;
    }
