-- What the value of a node is: an operator, a word that chooses a form, a literal.
use Rattle.std.specs.Prelude.{ℕ, ◌&&◌, ◌||◌, ◌==◌, nat_le, nat_lt, Bool, true, false, if◌then◌else◌, List, [], ◌∷◌}
use Rattle.clu_base.specs.declared.tokens.Kind.TheVariants as token
use Rattle.clu_lexer.specs.declared.symbols.Symbol.{Symbol}
use Rattle.clu_lexer.specs.declared.symbols.Symbol.TheVariants as s
use Rattle.clu_lexer.specs.Words.{symbol_of}
use Rattle.clu_syntax.specs.declared.words.Operator.{Operator}
use Rattle.clu_syntax.specs.declared.words.Operator.TheVariants as operator
use Rattle.clu_syntax.specs.declared.words.Sign.{Sign}
use Rattle.clu_syntax.specs.declared.words.Sign.TheVariants as sign_word
use Rattle.clu_syntax.specs.declared.words.SimpleType.{SimpleType}
use Rattle.clu_syntax.specs.declared.words.SimpleType.TheVariants as simple
use Rattle.clu_syntax.specs.declared.words.ListType.{ListType}
use Rattle.clu_syntax.specs.declared.words.ListType.TheVariants as list_word
use Rattle.clu_syntax.specs.declared.words.FieldsType.{FieldsType}
use Rattle.clu_syntax.specs.declared.words.FieldsType.TheVariants as fields_word
use Rattle.clu_syntax.specs.declared.words.RoutineKind.{RoutineKind}
use Rattle.clu_syntax.specs.declared.words.RoutineKind.TheVariants as routine_word
use Rattle.clu_syntax.specs.declared.words.Literal.TheVariants as found
use Rattle.clu_syntax.specs.declared.words.Literal.{Literal as LiteralView}
use Rattle.clu_syntax.specs.Syntax.{Literal, nil, true_literal, false_literal, integer, real, character, string}

abbrev pub is_small : ℕ → Bool
is_small b = nat_le 97 b && nat_le b 122

-- what a value is to the grammar, where it is a word or a mark
abbrev pub symbol_in : List ℕ → Symbol
symbol_in [] = s.Unknown
symbol_in (b ∷ bs) = if is_small b then symbol_of token.Word (b ∷ bs) else symbol_of token.Mark (b ∷ bs)

abbrev pub infix_operator : Symbol → Operator
infix_operator s.Power = operator.Power
infix_operator s.Star = operator.Multiply
infix_operator s.Slash = operator.Divide
infix_operator s.Remainder = operator.Remainder
infix_operator s.Plus = operator.Add
infix_operator s.Minus = operator.Subtract
infix_operator s.Concat = operator.Concatenate
infix_operator s.Less = operator.Less
infix_operator s.AtMost = operator.AtMost
infix_operator s.Equal = operator.Equal
infix_operator s.AtLeast = operator.AtLeast
infix_operator s.Greater = operator.Greater
infix_operator s.NotLess = operator.NotLess
infix_operator s.NotAtMost = operator.NotAtMost
infix_operator s.NotEqual = operator.NotEqual
infix_operator s.NotAtLeast = operator.NotAtLeast
infix_operator s.NotGreater = operator.NotGreater
infix_operator s.And = operator.And
infix_operator s.Cand = operator.Cand
infix_operator s.Bar = operator.Or
infix_operator _ = operator.Cor

abbrev pub sign : Symbol → Sign
sign s.Tilde = sign_word.Not
sign _ = sign_word.Minus

abbrev pub simple_type : Symbol → SimpleType
simple_type s.Null = simple.Null
simple_type s.Bool = simple.Bool
simple_type s.Int = simple.Int
simple_type s.Real = simple.Real
simple_type s.Char = simple.Char
simple_type s.String = simple.String
simple_type s.Any = simple.Any
simple_type s.Rep = simple.Rep
simple_type _ = simple.Cvt

abbrev pub list_type : Symbol → ListType
list_type s.Array = list_word.Array
list_type _ = list_word.Sequence

abbrev pub fields_type : Symbol → FieldsType
fields_type s.Record = fields_word.Record
fields_type s.Struct = fields_word.Struct
fields_type s.Oneof = fields_word.Oneof
fields_type _ = fields_word.Variant

abbrev pub routine_kind : Symbol → RoutineKind
routine_kind s.Proc = routine_word.Procedure
routine_kind s.Proctype = routine_word.Procedure
routine_kind _ = routine_word.Iterator

unfoldable pub are_digits : List ℕ → Bool
are_digits [] = true
are_digits (b ∷ bs) = if nat_lt b 48 || nat_lt 57 b then false else are_digits bs

abbrev pub number_of : List ℕ → Literal
number_of value = if are_digits value then integer value else real value

abbrev pub word_of : Symbol → Literal
word_of s.Nil = nil
word_of s.True = true_literal
word_of _ = false_literal

-- a literal by its first byte: 34 is ", 39 is '
abbrev pub literal_of : List ℕ → Literal
literal_of [] = false_literal
literal_of (b ∷ bs) =
    if b == 34 then string (b ∷ bs) else
    if b == 39 then character (b ∷ bs) else
    if is_small b then word_of (symbol_in (b ∷ bs)) else
    number_of (b ∷ bs)

-- a literal as the code gives it
abbrev pub literal_told : LiteralView → Literal
literal_told found.Nil = nil
literal_told found.True = true_literal
literal_told found.False = false_literal
literal_told (found.Integer bytes) = integer bytes.now
literal_told (found.Real bytes) = real bytes.now
literal_told (found.Character bytes) = character bytes.now
literal_told (found.String bytes) = string bytes.now
