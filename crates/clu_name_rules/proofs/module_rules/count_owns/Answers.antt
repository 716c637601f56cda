use Rattle.std.proofs.Common.{◌≡◌, ◌∙◌, ℕ, ◌+◌, List, [], length, min, sym, ap, arith}
use Rattle.std.proofs.lemmas.List.{nil_from_length}
use Rattle.clu_name_rules.specs.ModuleRules.{count_owns}
use Rattle.clu_name_rules.proofs.module_rules.count_owns.Goals as goal

pub returns : goal.returns
returns c =
    let none : c.loop-children.children.now ≡ [] = nil_from_length c.loop-children.children.now (omega (arith, c.in_default.len_below)) in
    let left : min (c.loop-children.count + count_owns c.args.f.syntax.now c.loop-children.children.now) 18446744073709551615 ≡ min (c.loop-children.count + 0) 18446744073709551615 =
    ap (λ (ns : List ℕ). min (c.loop-children.count + count_owns c.args.f.syntax.now ns) 18446744073709551615) none in
    omega (arith, left, c.loop-children.invariant.total, c.loop-children.invariant.most)
