-- What is known of a constant without its text.
use Rattle.std.specs.Prelude.{length}
use Rattle.clu_base.specs.declared.constants.Const.{Const}
use Rattle.clu_base.specs.declared.constants.Const.TheVariants as constant
use Rattle.clu_constants.specs.Held.{capped}
use Rattle.clu_constants.specs.declared.outline.Outline.{Outline}
use Rattle.clu_constants.specs.declared.outline.Outline.TheVariants as outline

abbrev pub outlined : Const → Outline
outlined constant.Null = outline.Null
outlined (constant.Bool b) = outline.Bool b
outlined (constant.Int n) = outline.Int n
outlined (constant.Char byte) = outline.Char byte
outlined (constant.Str bytes) = outline.Str (capped (length bytes))
