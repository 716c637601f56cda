use Rattle.std.proofs.Common.{◌∙◌, List, Option, Bor, ap, sym, option_map}
use Rattle.std.specs.Option.{option_copied}
use Rattle.clu_types.specs.declared.spec.OpSpec.{OpSpec}
use Rattle.clu_lower_types.specs.Headings.{heading_with, operation_among}
use Rattle.clu_lower_types.proofs.headings.operation_in.Goals as goal

pub returns-in-Some : goal.returns-in-Some
returns-in-Some c =
    ap (λ (found : Option (Bor OpSpec)). option_map (heading_with c.args.spec.now.types) (option_copied found)) (sym c.in-Some.is)
    ∙ ap (option_map (heading_with c.args.spec.now.types)) c.operation_named.ensures
    ∙ ap (λ (ops : List OpSpec). operation_among c.args.spec.now.types ops c.args.name.now) c.operations_in.ensures
