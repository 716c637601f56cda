-- The words of constants and of what names stand for, and failures.
use Rattle.std.specs.Prelude.{ℕ, codes, is_some, true, false, if◌then◌else◌, List, [], ◌∷◌, slice_get, Option, None, Some}
use Rattle.std.specs.Int.{w64, cast_unsigned}
use Rattle.clu_base.specs.declared.constants.Const.{Const}
use Rattle.clu_base.specs.declared.constants.Const.TheVariants as constant
use Rattle.clu_base.specs.declared.constants.ObjConst.TheVariants as named
use Rattle.clu_core.specs.declared.checked.Checked.{Checked}
use Rattle.clu_core.specs.declared.checked.NamedConstant.{NamedConstant}
use Rattle.clu_core.specs.declared.checked.NamedConstant.TheVariants as stands_for
use Rattle.clu_wir.specs.declared.hole.HoleKind.TheVariants as kind
use Rattle.clu_wir.specs.Plain.{Expr, Stmt, word, hole, raise_name, signal_name}
use Rattle.clu_lower_types.specs.declared.fixed.Fixed.{Fixed}
use Rattle.clu_lower_types.specs.Declarations.{denoted, entry}
use Rattle.clu_lower_types.specs.Types.{operation_of}
use Rattle.clu_lower_expr.specs.Low.{Low, number_of_constant, pushed, with_named}
use Rattle.clu_lower_expr.specs.Values.{constant_word, node_operation, object_named, string_word}

-- the word of a constant: a small one is in the code, a string is the linker's
abbrev pub word_of : Const → Low → Expr × Low
word_of constant.Null low = (word 0, low)
word_of (constant.Bool true) low = (word 1, low)
word_of (constant.Bool false) low = (word 0, low)
word_of (constant.Int n) low = (word (cast_unsigned w64 n), low)
word_of (constant.Char byte) low = (word byte, low)
word_of (constant.Str bytes) low = constant_word (named.Value (constant.Str bytes)) low

abbrev pub word_noted : ℕ → Expr → Low → Low
word_noted place (hole kind.Constant number) low = with_named place number low
word_noted place _ low = low

abbrev pub noting : ℕ → Expr × Low → Expr × Low
noting place given = (given.0, word_noted place given.0 given.1)

abbrev pub known_if : ℕ → Option Const → Low → Option (Expr × Low)
known_if place (Some c) low = Some (noting place (word_of c low))
known_if place None low = None

abbrev pub known_by : Option ℕ → ℕ → Option Const → Low → Option (Expr × Low)
known_by (Some number) place c low = Some (hole kind.Constant number, low)
known_by None place c low = known_if place c low

-- the word of a constant of the file, which is looked up by its bytes once
abbrev pub known_constant : Checked → ℕ → Low → Option (Expr × Low)
known_constant c place low = known_by (number_of_constant place low) place (slice_get c.constants place) low

-- a parameter is the linker's
abbrev pub named_word : Checked → NamedConstant → Low → Option (Expr × Low)
named_word c (stands_for.Known place) low = known_constant c place low
named_word c (stands_for.Parameter number) low = Some (constant_word (named.Param number) low)

-- ---- names: constants, routines as objects, and variables

abbrev pub with_low : Low → Option Expr → Option (Expr × Low)
with_low low (Some e) = Some (e, low)
with_low low None = None

abbrev pub object_at : Fixed → Option ℕ → Low → Option (Expr × Low)
object_at f (Some place) low = with_low low (object_named f place low)
object_at f None low = None

abbrev pub name_by : Fixed → ℕ → Option NamedConstant → Low → Option (Expr × Low)
name_by f n (Some c) low = named_word f.c.now c low
name_by f n None low =
    if is_some (operation_of f.c.now n) then node_operation f.c.now n low else object_at f (denoted f.declarations.now n 0) low

-- the word of what the name at a node stands for
abbrev pub name_word : Fixed → ℕ → Low → Option (Expr × Low)
name_word f n low = name_by f n (entry f.c.now.constant_of.items n) low

-- ---- failures

-- the name of an exception is one of the routine's constants
abbrev pub with_exception : List ℕ → Low → Low
with_exception name low = (string_word name low).1

abbrev pub failing : (List ℕ → List Expr → Stmt) → Expr × Low → Low
failing raise text = pushed (raise (codes "failure") (text.0 ∷ [])) (with_exception (codes "failure") text.1)

-- a failure of this text is raised, and ends the routine
abbrev pub failure_raised : List ℕ → Low → Low
failure_raised text low = failing raise_name (string_word text low)

abbrev pub failure_signalled : List ℕ → Low → Low
failure_signalled text low = failing signal_name (string_word text low)
