use Rattle.std.proofs.Common.{◌≡◌, Some, map}
use Rattle.clu_head.specs.declared.head.Head.{Head}
use Rattle.clu_head.specs.Kept.{IsFormOf}
use Rattle.clu_check_mod.specs.Modules.{IsMade}
use Rattle.clu_check_mod.proofs.Making.{three_of}
use Rattle.clu_check_mod.proofs.specifications.spec_made.Goals as goal

pub returns-clause-made : goal.returns-clause-made
returns-clause-made c =
    let h : Head = c.args.head.now in
    let its = c.spec_of.ensures in
    three_of c.spec_of.result (λ s. s.value.name ≡ h.name) (λ s. map Some s.value.kinds ≡ h.kinds) (λ s. IsFormOf c.args.types.now s.value.types h.form s.value.form) (λ s. IsMade c.args.types.now h s.value)
    (λ s name kinds form. record { name = name; kinds = kinds; form = form }) its.name its.kinds its.form
