-- The value of a constant. The names in it stand for what as many steps of unfolding give as there are declarations.
use Rattle.clu_syntax.specs.Syntax.{Constant}
use Rattle.clu_meaning.specs.Scoping.{Scope}
use Rattle.clu_meaning.specs.Settling.{Value, value_of_constant, settled}

abbrev pub value_settled : Scope → Constant → Value
value_settled scope c = value_of_constant scope (settled scope) c
