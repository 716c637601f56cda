use Rattle.std.proofs.Common.{◌≡◌, ◌∙◌, Some, None, slice_get, ap, subst, sym}
use Rattle.clu_types.specs.declared.spec.ParamKind.{ParamKind}
use Rattle.clu_settle.specs.declared.value.Value.{Value}
use Rattle.clu_bindings.specs.Named.{value_kind}
use Rattle.clu_bindings.proofs.Outlined.{kind_found, kind_missing}
use Rattle.clu_bindings.proofs.named.value_kind.Goals as goal

pub returns-in-Some : goal.returns-in-Some
returns-in-Some c = subst (λ (v : Value). Some c.kind_of_constant.result ≡ value_kind c.args.file c.args.types.now c.args.n v) (sym c.in-Constant.is)
    (ap (λ (k : ParamKind). Some k) c.kind_of_constant.ensures ∙ kind_found (slice_get c.args.file.constants.now c.in-Constant.place) c.in-Some.constant c.in-Some.ensures)

pub returns-in-None : goal.returns-in-None
returns-in-None c = subst (λ (v : Value). None ≡ value_kind c.args.file c.args.types.now c.args.n v) (sym c.in-Constant.is)
    (kind_missing (slice_get c.args.file.constants.now c.in-Constant.place) c.in-None.ensures)
