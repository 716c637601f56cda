-- What brackets behind an expression come to, with these actual parameters.
use Rattle.clu_types.specs.CluType.{Actuals}
use Rattle.clu_syntax.specs.Syntax.{Constant, Expression, a_name}
use Rattle.clu_meaning.specs.Scoping.{Scope}
use Rattle.clu_meaning.specs.Settling.{Value as Settled, unsettled, with_brackets, value_of_name}

abbrev pub indexed : Scope → (Constant → Settled) → Expression → Actuals → Settled
indexed scope unfolded (a_name n name) given = with_brackets (value_of_name scope unfolded n name given)
indexed scope unfolded _ given = unsettled
