use Rattle.std.proofs.Common.{◌≡◌, true, false, rules, sym, ◌∙◌}
use Rattle.std.specs.Str.{bytes_eq}
use Rattle.clu_library.proofs.Placed.{found_other, found_this}
use Rattle.clu_library.proofs.closure.spec_or.Goals as goal

pub returns-then-eq : goal.returns-then-eq
returns-then-eq c =
    let this : bytes_eq c.args.spec.now.name c.args.name.now ≡ true = search rules in
    sym (found_this c.args.name.now c.args.specs.now c.args.spec.now this)

pub returns-else-eq : goal.returns-else-eq
returns-else-eq c =
    let other : bytes_eq c.args.spec.now.name c.args.name.now ≡ false = search rules in
    c.get.ensures ∙ sym (found_other c.args.name.now c.args.specs.now c.args.spec.now other)
