use Rattle.std.proofs.Common.{◌≡◌, rules, refl}
use Rattle.std.proofs.lemmas.Fn.{answers_by}
use Rattle.clu_name_rules.specs.Components.{is_below}
use Rattle.clu_name_rules.proofs.Found.{parted}
use Rattle.clu_name_rules.proofs.components.place_of.Goals as goal

-- the closure asks whether a field's name is below the wanted one
pub returns : goal.returns
returns c up =
    c.partition_point.ensures.partitioned (is_below c.args.name.now) (answers_by _ _ (λ f. f.0.now ≡ c.args.name) (λ f a r g called is. (search rules, search rules)) _ refl)
    (parted c.args.fields.now c.args.name.now up)
