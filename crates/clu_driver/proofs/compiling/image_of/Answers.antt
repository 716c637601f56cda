use Rattle.std.proofs.Common.{List, [], IfErr, length, rules, subst, sym, take}
use Rattle.clu_tree.specs.Nodes.{modules}
use Rattle.clu_types.specs.declared.spec.Spec.{Spec}
use Rattle.clu_checked.specs.Sources.{AreKept}
use Rattle.clu_driver.specs.Sources.{AreSpecificationsOf, IsChecked, NotBuilt}
use Rattle.clu_driver.proofs.Found.{unbuilt}
use Rattle.clu_driver.proofs.Held.{none_kept}
use Rattle.clu_driver.proofs.compiling.image_of.Goals as goal

pub checked-requires-clause-source : goal.checked-requires-clause-source
checked-requires-clause-source c = record { bytes = c.args.source.bytes.items; tokens = c.args.source.tokens.items; source = c.requires.parsed; read = c.requires.read }

pub checked-requires-clause-specs : goal.checked-requires-clause-specs
checked-requires-clause-specs c = subst (λ (specs : List Spec). AreKept specs) (sym c.new.ensures) none_kept

pub returns-in-Ok-clause-refused : goal.returns-in-Ok-clause-refused
returns-in-Ok-clause-refused c =
    let checked : IsChecked [] c.args.source.syntax = search rules in
    let refused : IfErr c.built.result (λ how. NotBuilt how (take (length (modules c.args.source.syntax)) c.in-Ok.checked.value.specs.items)) = search rules in
    let own : AreSpecificationsOf [] c.args.source.syntax (take (length (modules c.args.source.syntax)) c.in-Ok.checked.value.specs.items) =
    subst (λ (specs : List Spec). AreSpecificationsOf specs c.args.source.syntax (take (length (modules c.args.source.syntax)) c.in-Ok.checked.value.specs.items)) c.new.ensures c.in-Ok.ensures.specs in
    unbuilt c.built.result c.args.name.now c.args.source.syntax c.in-Ok.checked.value.specs.items checked own refused
