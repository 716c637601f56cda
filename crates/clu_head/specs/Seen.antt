-- Types that are known by the values of their nodes, as callers see them.
use Rattle.std.specs.Prelude.{Bool, true, false, if◌then◌else◌, Option}
use Rattle.clu_types.specs.declared.term.TypeId.{TypeId}
use Rattle.clu_syntax.specs.declared.words.SimpleType.{SimpleType}
use Rattle.clu_syntax.specs.declared.words.SimpleType.TheVariants as simple
use Rattle.clu_syntax.specs.Syntax.{TypeExpression, a_simple_type}
use Rattle.clu_settle.specs.declared.value.Value.{Value}
use Rattle.clu_settle.specs.Lists.{type_id}

abbrev pub is_cvt_word : SimpleType → Bool
is_cvt_word simple.Cvt = true
is_cvt_word _ = false

abbrev pub is_cvt : TypeExpression → Bool
is_cvt (a_simple_type n word) = is_cvt_word word
is_cvt _ = false

-- `cvt` stands for the cluster's own type
abbrev pub seen_type : Option TypeId → TypeExpression → Value → Option TypeId
seen_type own t v = if is_cvt t then own else type_id v
