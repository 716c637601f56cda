-- Expressions whose known words are words.
use Rattle.std.specs.Prelude.{◌^◌, Bool, true, ◌&&◌, nat_lt}
use Rattle.clu_wir.specs.Plain.{Expr, Exprs}
use Rattle.clu_wir.specs.Plain as tree

abbrev mutual
  pub is_sized : Expr → Bool
  is_sized (tree.slot n) = true
  is_sized (tree.word n) = nat_lt n (2 ^ 64)
  is_sized (tree.hole kind n) = true
  is_sized (tree.load address bytes) = is_sized address
  is_sized (tree.byte address) = is_sized address
  is_sized (tree.binary o left right) = is_sized left && is_sized right
  is_sized (tree.choice condition first other) = is_sized condition && (is_sized first && is_sized other)
  is_sized (tree.check condition trap value) = is_sized condition && is_sized value
  is_sized (tree.binding values body) = are_sized values && is_sized body
  is_sized (tree.bound n) = true

  pub are_sized : Exprs → Bool
  are_sized tree.no_exprs = true
  are_sized (tree.expr_and e es) = is_sized e && are_sized es
