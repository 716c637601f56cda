use Rattle.std.proofs.Common.{◌≡◌, ◌∙◌, IfOk, ap, sym, subst, arith}
use Rattle.clu_types.specs.CluType.{CluType}
use Rattle.clu_types.specs.Arena.{type_at, types_of}
use Rattle.clu_types.proofs.Arenas.{types_grown}
use Rattle.clu_types.proofs.Carrying.{grows_on, length_grows}
use Rattle.clu_builtin.specs.Built.{found_at}
use Rattle.clu_builtin.specs.Table.{operation}
use Rattle.clu_operations.specs.Builtins.{narrowed}
use Rattle.clu_operations.proofs.builtins.operation_of.Goals as goal

pub found_in_whole-requires-clause-part_in : goal.found_in_whole-requires-clause-part_in
found_in_whole-requires-clause-part_in c = let longer = length_grows _ _ c.in_ok-found.ensures.kept in omega (arith, longer, c.in_ok-part.ensures.within)

pub found_in_whole-requires-clause-of_in : goal.found_in_whole-requires-clause-of_in
found_in_whole-requires-clause-of_in c =
    let longer = length_grows _ _ (grows_on _ _ _ c.in_ok-part.ensures.kept c.in_ok-found.ensures.kept) in omega (arith, longer, c.requires)

pub returns-clause-found : goal.returns-clause-found
returns-clause-found c up =
    let T = type_at (types_of c.args.types.now) c.args.of in
    let same : type_at (types_of c.heading.new.types) c.args.of ≡ T = types_grown _ _ (grows_on _ _ _ c.in_ok-part.ensures.kept c.in_ok-found.ensures.kept) c.args.of c.requires in
    let part : type_at (types_of c.narrowed.new.types) c.in_ok-part.part ≡ narrowed c.args.name.now (type_at (types_of c.heading.new.types) c.args.of) =
    c.in_ok-part.ensures.of_type up ∙ ap (narrowed c.args.name.now) (sym same) in
    subst (λ (t : CluType). IfOk c.found_in_whole.result (λ made. found_at (types_of c.heading.new.types) made ≡ operation t c.args.name.now)) same
    (c.found_in_whole.ensures.found c.args.name.now (types_grown _ _ c.in_ok-found.ensures.kept c.in_ok-part.part c.in_ok-part.ensures.within ∙ part)
    (c.in_ok-found.ensures.found ∙ ap (λ (t : CluType). operation t c.args.name.now) part))
