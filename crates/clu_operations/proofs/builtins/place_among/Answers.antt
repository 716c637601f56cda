use Rattle.std.proofs.Common.{◌≡◌, rules, refl}
use Rattle.std.proofs.lemmas.Fn.{answers_by}
use Rattle.clu_operations.specs.Builtins.{field_name}
use Rattle.clu_operations.specs.ByName.{is_below}
use Rattle.clu_operations.proofs.Ascending.{parted}
use Rattle.clu_operations.proofs.builtins.place_among.Goals as goal

-- the closure asks whether a component's name is below the wanted one
pub returns : goal.returns
returns c up =
    c.partition_point.ensures.partitioned (is_below field_name c.args.name.now) (answers_by _ _ (λ f. f.0.now ≡ c.args.name) (λ f a r g called is. (search rules, search rules)) _ refl)
    (parted field_name c.args.fields.now c.args.name.now up)
