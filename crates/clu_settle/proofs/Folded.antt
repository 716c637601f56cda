-- The values of operators: what clu_fold gives is what the operations of the constants' types give.
use Rattle.std.proofs.Common.{◌≡◌, ◌∙◌, ℕ, List, Option, Some, None, refl, ap, sym, subst}
use Rattle.std.specs.Option.{option_and_then}
use Rattle.clu_base.specs.declared.constants.Const.{Const}
use Rattle.clu_base.specs.declared.constants.Const.TheVariants as constant
use Rattle.clu_types.specs.CluType.{CluType}
use Rattle.clu_syntax.specs.declared.words.Operator.{Operator}
use Rattle.clu_syntax.specs.declared.words.Sign.{Sign}
use Rattle.clu_syntax.specs.declared.words.Sign.TheVariants as sign
use Rattle.clu_fold.specs.declared.folding.Operator as folding
use Rattle.clu_fold.specs.declared.folding.Prefix as folding_prefix
use Rattle.clu_fold.specs.Folding.{IsFolded, IsPrefixed}
use Rattle.clu_layout.specs.Computing.{computing}
use Rattle.clu_meaning.specs.Constants.{sugar, folded, prefixed}
use Rattle.clu_meaning.specs.Settling.{Value as Settled, unsettled, constant_in, constant_value, infix_value}
use Rattle.clu_settle.specs.declared.value.Value.{Value}
use Rattle.clu_settle.specs.declared.value.Value.TheVariants as value
use Rattle.clu_settle.specs.Values.{told, Agrees, constant_at}
use Rattle.clu_settle.specs.Operators.{folded_by, prefix_by, nothing_beside, IsInRange}
use Rattle.clu_settle.proofs.Operations as plain
use Rattle.clu_settle.proofs.Ints.{of_ints, of_opposite}

pub as_folded : (o : Operator) (a b : Const) (r : Option Const) → IsInRange a → IsInRange b → IsFolded a (folded_by o) b r → r ≡ folded (sugar o) a b
as_folded o constant.Null constant.Null r f g h = h ∙ plain.of_nulls o
as_folded o constant.Null (constant.Bool y) r f g h = h ∙ plain.of_null_and_bool o y
as_folded o constant.Null (constant.Int y) r f g h = h ∙ plain.of_null_and_int o y
as_folded o constant.Null (constant.Char y) r f g h = h ∙ plain.of_null_and_char o y
as_folded o constant.Null (constant.Str y) r f g h = h ∙ plain.of_null_and_string o y
as_folded o (constant.Bool x) constant.Null r f g h = h ∙ plain.of_bool_and_null o x
as_folded o (constant.Bool x) (constant.Bool y) r f g h = h ∙ plain.of_bools o x y
as_folded o (constant.Bool x) (constant.Int y) r f g h = h ∙ plain.of_bool_and_int o x y
as_folded o (constant.Bool x) (constant.Char y) r f g h = h ∙ plain.of_bool_and_char o x y
as_folded o (constant.Bool x) (constant.Str y) r f g h = h ∙ plain.of_bool_and_string o x y
as_folded o (constant.Int x) constant.Null r f g h = h ∙ plain.of_int_and_null o x
as_folded o (constant.Int x) (constant.Bool y) r f g h = h ∙ plain.of_int_and_bool o x y
as_folded o (constant.Int x) (constant.Int y) r f g h = of_ints o x y r f g h
as_folded o (constant.Int x) (constant.Char y) r f g h = h ∙ plain.of_int_and_char o x y
as_folded o (constant.Int x) (constant.Str y) r f g h = h ∙ plain.of_int_and_string o x y
as_folded o (constant.Char x) constant.Null r f g h = h ∙ plain.of_char_and_null o x
as_folded o (constant.Char x) (constant.Bool y) r f g h = h ∙ plain.of_char_and_bool o x y
as_folded o (constant.Char x) (constant.Int y) r f g h = h ∙ plain.of_char_and_int o x y
as_folded o (constant.Char x) (constant.Char y) r f g h = h ∙ plain.of_chars o x y
as_folded o (constant.Char x) (constant.Str y) r f g h = h ∙ plain.of_char_and_string o x y
as_folded o (constant.Str x) constant.Null r f g h = h ∙ plain.of_string_and_null o x
as_folded o (constant.Str x) (constant.Bool y) r f g h = h ∙ plain.of_string_and_bool o x y
as_folded o (constant.Str x) (constant.Int y) r f g h = h ∙ plain.of_string_and_int o x y
as_folded o (constant.Str x) (constant.Char y) r f g h = h ∙ plain.of_string_and_char o x y
as_folded o (constant.Str x) (constant.Str y) r f g h = h ∙ plain.of_strings o x y

pub as_prefixed : (s : Sign) (a : Const) (r : Option Const) → IsPrefixed (prefix_by s) a r → r ≡ prefixed s a
unfolding computing
as_prefixed sign.Minus constant.Null r h = h
as_prefixed sign.Minus (constant.Bool x) r h = h
as_prefixed sign.Minus (constant.Int x) r h = of_opposite x r h
as_prefixed sign.Minus (constant.Char x) r h = h
as_prefixed sign.Minus (constant.Str x) r h = h
as_prefixed sign.Not constant.Null r h = h
as_prefixed sign.Not (constant.Bool x) r h = h
as_prefixed sign.Not (constant.Int x) r h = h
as_prefixed sign.Not (constant.Char x) r h = h
as_prefixed sign.Not (constant.Str x) r h = h

-- ---- as the code has them

pub folded_as : (o : Operator) (p : folding.Operator) (x y a b : Const) (r : Option Const) → p ≡ folded_by o → x ≡ a → y ≡ b → IsInRange x → IsInRange y → IsFolded x p y r → constant_value r ≡ infix_value o (Some a) (Some b)
folded_as o p x y a b r is e f s t h =
    let first : r ≡ folded (sugar o) x y = as_folded o x y r s t (subst (λ (p : folding.Operator). IsFolded x p y r) is h) in
    ap constant_value first ∙ ap (λ (x : Const). infix_value o (Some x) (Some y)) e ∙ ap (λ (y : Const). infix_value o (Some a) (Some y)) f

pub prefixed_as : (s : Sign) (p : folding_prefix.Prefix) (x a : Const) (r : Option Const) → p ≡ prefix_by s → x ≡ a → IsPrefixed p x r → constant_value r ≡ constant_value (prefixed s a)
prefixed_as s p x a r is e h =
    ap constant_value (as_prefixed s x r (subst (λ (p : folding_prefix.Prefix). IsPrefixed p x r) is h) ∙ ap (prefixed s) e)

-- ---- of values

module _ (types : List CluType) (constants : List Const) where
  -- what is settled to the constant of a place
  constant_told : (v : Value) (k : ℕ) (s : Settled) → v ≡ value.Constant k → Agrees (told types constants v) s → constant_in s ≡ Some (constant_at constants k)
  constant_told v k s is a = ap constant_in (subst (λ (v : Value). Agrees (told types constants v) s) is a)

  pub both_told : (o : Operator) (u v : Value) (k j : ℕ) (s t all : Settled) → u ≡ value.Constant k → v ≡ value.Constant j → all ≡ infix_value o (Some (constant_at constants k)) (Some (constant_at constants j)) →
      Agrees (told types constants u) s → Agrees (told types constants v) t → infix_value o (constant_in s) (constant_in t) ≡ all
  both_told o u v k j s t all e f is a b =
      ap (λ (x : Option Const). infix_value o x (constant_in t)) (constant_told u k s e a)
      ∙ ap (infix_value o (Some (constant_at constants k))) (constant_told v j t f b)
      ∙ sym is

  pub one_told : (n : Sign) (v : Value) (k : ℕ) (s all : Settled) → v ≡ value.Constant k → all ≡ constant_value (prefixed n (constant_at constants k)) → Agrees (told types constants v) s → constant_value (option_and_then (prefixed n) (constant_in s)) ≡ all
  one_told n v k s all e is a = ap (λ (x : Option Const). constant_value (option_and_then (prefixed n) x)) (constant_told v k s e a) ∙ sym is

  -- what is no constant
  not_constant : (v : Value) (s : Settled) → ((k : ℕ) → v ≡ value.Constant k → ⊥) → (v ≡ value.Lost → ⊥) → Agrees (told types constants v) s → constant_in s ≡ None
  not_constant value.Nothing s f g a = ap constant_in a
  not_constant value.Lost s f g a = absurd (g refl)
  not_constant (value.Type id) s f g a = ap constant_in a
  not_constant (value.Constant k) s f g a = absurd (f k refl)
  not_constant (value.Parameter k) s f g a = ap constant_in a

  -- nothing, or lost as the value is
  beside : (more : List Const) (v : Value) (s all : Settled) → ((k : ℕ) → v ≡ value.Constant k → ⊥) → Agrees (told types constants v) s → (constant_in s ≡ None → all ≡ unsettled) → Agrees (told types more (nothing_beside v)) all
  beside more value.Nothing s all f a is = is (ap constant_in a)
  beside more value.Lost s all f a is = tt
  beside more (value.Type id) s all f a is = is (ap constant_in a)
  beside more (value.Constant k) s all f a is = absurd (f k refl)
  beside more (value.Parameter k) s all f a is = is (ap constant_in a)

  always : (more : List Const) (v : Value) (all : Settled) → all ≡ unsettled → Agrees (told types more (nothing_beside v)) all
  always more value.Nothing all is = is
  always more value.Lost all is = tt
  always more (value.Type id) all is = is
  always more (value.Constant k) all is = is
  always more (value.Parameter k) all is = is

  none_right : (o : Operator) (x : Option Const) → infix_value o x None ≡ unsettled
  none_right o None = refl
  none_right o (Some x) = refl

  pub right_beside : (more : List Const) (o : Operator) (u v : Value) (s t : Settled) → ((k : ℕ) → v ≡ value.Constant k → ⊥) → u ≡ nothing_beside v → Agrees (told types constants v) t → Agrees (told types more u) (infix_value o (constant_in s) (constant_in t))
  right_beside more o u v s t f is a =
      subst (λ (u : Value). Agrees (told types more u) (infix_value o (constant_in s) (constant_in t))) (sym is)
      (beside more v t (infix_value o (constant_in s) (constant_in t)) f a (λ e. ap (infix_value o (constant_in s)) e ∙ none_right o (constant_in s)))

  pub left_beside : (more : List Const) (o : Operator) (u v w : Value) (s t : Settled) → ((k : ℕ) → v ≡ value.Constant k → ⊥) → (v ≡ value.Lost → ⊥) → u ≡ nothing_beside w → Agrees (told types constants v) s → Agrees (told types more u) (infix_value o (constant_in s) (constant_in t))
  left_beside more o u v w s t f g is a =
      subst (λ (u : Value). Agrees (told types more u) (infix_value o (constant_in s) (constant_in t))) (sym is)
      (always more w (infix_value o (constant_in s) (constant_in t)) (ap (λ (x : Option Const). infix_value o x (constant_in t)) (not_constant v s f g a)))

  pub operand_beside : (more : List Const) (n : Sign) (u v : Value) (s : Settled) → ((k : ℕ) → v ≡ value.Constant k → ⊥) → u ≡ nothing_beside v → Agrees (told types constants v) s → Agrees (told types more u) (constant_value (option_and_then (prefixed n) (constant_in s)))
  operand_beside more n u v s f is a =
      subst (λ (u : Value). Agrees (told types more u) (constant_value (option_and_then (prefixed n) (constant_in s)))) (sym is)
      (beside more v s (constant_value (option_and_then (prefixed n) (constant_in s))) f a (λ e. ap (λ (x : Option Const). constant_value (option_and_then (prefixed n) x)) e))
