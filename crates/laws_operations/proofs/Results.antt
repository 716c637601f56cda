-- What an operation on ints gives, beside a value.
use Rattle.std.proofs.Common.{◌≡◌, ℕ, ℤ, suc, ◌<◌, ◌≤◌, ◌^◌, Bool, true, false, not, refl, sym, ap, ◌∙◌, subst, arith, pos, negsuc, neg_ℤ, nat_lt, true≢false, zero, FitsSigned}
use Rattle.std.specs.Int.{w64, cast_signed}
use Rattle.std.proofs.lemmas.Int.{to_z-of_z}
use Rattle.clu_types.specs.CluType.{no_types, type_and, int_type}
use Rattle.clu_builtin.specs.declared.names.Signal.{Signal}
use Rattle.clu_builtin.specs.declared.names.Signal.TheVariants as signal
use Rattle.clu_layout.specs.Places.{is_int}
use Rattle.clu_layout.specs.Actions.{Action, World, gives_all, gives_int, gives_int_or_overflow, signals_if, signals_with}
use Rattle.clu_wir.specs.declared.trap.Trap.TheVariants as trap
use Rattle.clu_wir.specs.Traps.{trap_name}
use Rattle.clu_wir.specs.Value.{Value, Gives, Raises}
use Rattle.clu_representation.specs.Layout.{Image, Layout}
use Rattle.laws_operations.specs.Comes.{Comes}
use Rattle.laws_operations.proofs.Words.{word}

pub fits_of : (z : ℤ) → is_int z ≡ true → FitsSigned w64 z
fits_of (pos a) h = record { sfits = grind arith }
fits_of (negsuc a) h = record { sfits = grind arith }

pub less_of : (n m : ℕ) → nat_lt n m ≡ true → n < m
less_of n m e = grind arith

pub not_less_of : (n m : ℕ) → nat_lt n m ≡ false → m ≤ n
not_less_of n m e = grind arith

pub small_is_int : (k : ℕ) → k < 2 ^ 63 → nat_lt k (2 ^ 63) ≡ true
small_is_int k l = grind arith

pub neg_is_int : (k : ℕ) → k ≤ 2 ^ 63 → is_int (neg_ℤ (pos k)) ≡ true
neg_is_int zero l = refl
neg_is_int (suc k) l = grind arith

pub never : {A : Type 0} → true ≡ false → A
never e = absurd (true≢false e)

-- the int that its word is read as
pub read_word : (x : ℤ) (u : ℕ) → is_int x ≡ true → u ≡ word x → cast_signed w64 u ≡ x
read_word x u p e = ap (cast_signed w64) e ∙ to_z-of_z w64 x (fits_of x p)

-- the value is the int, or overflow if this is none
pub record FitsOr (z : ℤ) (value : Value) : Type 0 where
  pub fits : is_int z ≡ true → value ≡ Gives (word z)
  pub over : is_int z ≡ false → value ≡ Raises trap.Overflow

module _ (image : Image) (map : Layout) where
  abbrev pub Int : World → Action → Value → Type 0
  Int w action value = Comes image map (type_and int_type no_types) (λ x. x ≡ w) (action w) value

  pub gives_fit : (z : ℤ) (w : World) (value : Value) → FitsOr z value → Int w (gives_int_or_overflow z) value
  unfolding signals_if signals_with gives_all trap_name
  gives_fit z w value h = by (is_int z) refl
    where
      by : (t : Bool) → is_int z ≡ t → Int w (signals_if signal.Overflow (not t) (gives_int z)) value
      by true e = subst (λ v. Int w (gives_int z) v) (sym (h.fits e)) (record { is_one = e; word_is = refl }, refl)
      by false e = subst (λ v. Int w (signals_if signal.Overflow true (gives_int z)) v) (sym (h.over e)) (refl, refl)

  pub gives_int_word : (z : ℤ) (w : World) (value : Value) → is_int z ≡ true → value ≡ Gives (word z) → Int w (gives_int z) value
  unfolding gives_all
  gives_int_word z w value e f = subst (λ v. Int w (gives_int z) v) (sym f) (record { is_one = e; word_is = refl }, refl)

  pub zero_divides : (rest : Action) (w : World) (value : Value) → value ≡ Raises trap.ZeroDivide → Int w (signals_if signal.ZeroDivide true rest) value
  unfolding signals_if signals_with trap_name
  zero_divides rest w value e = subst (λ v. Int w (signals_if signal.ZeroDivide true rest) v) (sym e) (refl, refl)

  pub goes_on : (s : Signal) (t : Bool) (rest : Action) (w : World) (value : Value) → t ≡ false → Int w rest value → Int w (signals_if s t rest) value
  unfolding signals_if
  goes_on s t rest w value e h = subst (λ b. Int w (signals_if s b rest) value) (sym e) h
