-- The test on two types holds just of the same ones, and the test of inclusion holds where the relation of clu_types does.
use Rattle.std.proofs.Common.{◌≡◌, refl, ap, subst, inl, inr}
use Rattle.std.proofs.lemmas.Bool.{false≢true, and_parts, and_from, or_cases, eqb-true, eq-eqb, or_left, or_right}
use Rattle.std.proofs.lemmas.Bool.Decides.{Decides-int_eq}
use Rattle.std.proofs.lemmas.Slice.Eq.{bytes_eq-Decides}
use Rattle.std.specs.Prelude.{ℕ, Bool, true, false, ◌&&◌, ◌||◌, ◌==◌, List, bytes_eq}
use Rattle.std.specs.Bool.{beq}
use Rattle.clu_base.specs.declared.constants.Const.{Const}
use Rattle.clu_base.specs.declared.constants.Const.TheVariants as constant
use Rattle.clu_base.proofs.Bools.{of_three}
use Rattle.clu_base.proofs.Lists.{same_bytes}
use Rattle.clu_types.specs.CluType.{CluType, null_type, bool_type, int_type, char_type, string_type, any_type, stream_type, array_of, sequence_of, record_of, struct_of, oneof_of, variant_of, proc_of, iter_of, cluster_of, parameter, CluTypes, no_types, type_and, Fields, no_fields, field_and, Signals, no_signals, signal_and, Actuals, no_actuals, actual_type, actual_const, actual_param}
use Rattle.clu_types.specs.Included.{Included, IsNarrower, HasSignal, AreAmong}
use Rattle.clu_layout.specs.SameType.{same_const, same_type, same_types, same_fields, same_signals, same_actuals, has_signal, are_among, has_more_signals, is_any, fits}

-- the first and the second of two tests that hold, and both
left : (x y : Bool) → (x && y) ≡ true → x ≡ true
left x y h = (and_parts x y h).0

right : (x y : Bool) → (x && y) ≡ true → y ≡ true
right x y h = (and_parts x y h).1

no : {A : Type 0} → false ≡ true → A
no h = absurd (false≢true h)

-- ---- what is the same by the test is the same

bools_are : (a b : Bool) → beq a b ≡ true → a ≡ b
bools_are true true h = refl
bools_are false false h = refl
bools_are true false h = no h
bools_are false true h = no h

consts_are : (a b : Const) → same_const a b ≡ true → a ≡ b
consts_are constant.Null constant.Null h = refl
consts_are (constant.Bool a) (constant.Bool b) h = ap constant.Bool (bools_are a b h)
consts_are (constant.Int a) (constant.Int b) h = ap constant.Int ((Decides-int_eq a b).0 h)
consts_are (constant.Char a) (constant.Char b) h = ap constant.Char (eqb-true a b h)
consts_are (constant.Str a) (constant.Str b) h = ap constant.Str (same_bytes a b h)
consts_are _ _ h = no h

mutual
  pub types_are : (a b : CluType) → same_type a b ≡ true → a ≡ b
  types_are null_type null_type h = refl
  types_are bool_type bool_type h = refl
  types_are int_type int_type h = refl
  types_are char_type char_type h = refl
  types_are string_type string_type h = refl
  types_are any_type any_type h = refl
  types_are stream_type stream_type h = refl
  types_are (array_of t) (array_of u) h = ap array_of (types_are t u h)
  types_are (sequence_of t) (sequence_of u) h = ap sequence_of (types_are t u h)
  types_are (record_of fs) (record_of gs) h = ap record_of (fields_are fs gs h)
  types_are (struct_of fs) (struct_of gs) h = ap struct_of (fields_are fs gs h)
  types_are (oneof_of fs) (oneof_of gs) h = ap oneof_of (fields_are fs gs h)
  types_are (variant_of fs) (variant_of gs) h = ap variant_of (fields_are fs gs h)
  types_are (proc_of ts rs ss) (proc_of ts' rs' ss') h = λ i. proc_of
      (lists_are ts ts' (of_three (same_types ts ts') (same_types rs rs') (same_signals ss ss') h).0 i)
      (lists_are rs rs' (of_three (same_types ts ts') (same_types rs rs') (same_signals ss ss') h).1 i)
      (signals_are ss ss' (of_three (same_types ts ts') (same_types rs rs') (same_signals ss ss') h).2 i)
  types_are (iter_of ts rs ss) (iter_of ts' rs' ss') h = λ i. iter_of
      (lists_are ts ts' (of_three (same_types ts ts') (same_types rs rs') (same_signals ss ss') h).0 i)
      (lists_are rs rs' (of_three (same_types ts ts') (same_types rs rs') (same_signals ss ss') h).1 i)
      (signals_are ss ss' (of_three (same_types ts ts') (same_types rs rs') (same_signals ss ss') h).2 i)
  types_are (cluster_of c xs) (cluster_of d ys) h = λ i. cluster_of
      (same_bytes c d (left (bytes_eq c d) (same_actuals xs ys) h) i) (actuals_are xs ys (right (bytes_eq c d) (same_actuals xs ys) h) i)
  types_are (parameter m) (parameter n) h = ap parameter (eqb-true m n h)
  types_are _ _ h = no h

  pub lists_are : (a b : CluTypes) → same_types a b ≡ true → a ≡ b
  lists_are no_types no_types h = refl
  lists_are (type_and t ts) (type_and u us) h = λ i. type_and
      (types_are t u (left (same_type t u) (same_types ts us) h) i) (lists_are ts us (right (same_type t u) (same_types ts us) h) i)
  lists_are no_types (type_and u us) h = no h
  lists_are (type_and t ts) no_types h = no h

  fields_are : (a b : Fields) → same_fields a b ≡ true → a ≡ b
  fields_are no_fields no_fields h = refl
  fields_are (field_and s t fs) (field_and s' t' gs) h = λ i. field_and
      (same_bytes s s' (of_three (bytes_eq s s') (same_type t t') (same_fields fs gs) h).0 i)
      (types_are t t' (of_three (bytes_eq s s') (same_type t t') (same_fields fs gs) h).1 i)
      (fields_are fs gs (of_three (bytes_eq s s') (same_type t t') (same_fields fs gs) h).2 i)
  fields_are no_fields (field_and s' t' gs) h = no h
  fields_are (field_and s t fs) no_fields h = no h

  signals_are : (a b : Signals) → same_signals a b ≡ true → a ≡ b
  signals_are no_signals no_signals h = refl
  signals_are (signal_and s ts ss) (signal_and s' ts' ss') h = λ i. signal_and
      (same_bytes s s' (of_three (bytes_eq s s') (same_types ts ts') (same_signals ss ss') h).0 i)
      (lists_are ts ts' (of_three (bytes_eq s s') (same_types ts ts') (same_signals ss ss') h).1 i)
      (signals_are ss ss' (of_three (bytes_eq s s') (same_types ts ts') (same_signals ss ss') h).2 i)
  signals_are no_signals (signal_and s' ts' ss') h = no h
  signals_are (signal_and s ts ss) no_signals h = no h

  pub actuals_are : (a b : Actuals) → same_actuals a b ≡ true → a ≡ b
  actuals_are no_actuals no_actuals h = refl
  actuals_are (actual_type t xs) (actual_type u ys) h = λ i. actual_type
      (types_are t u (left (same_type t u) (same_actuals xs ys) h) i) (actuals_are xs ys (right (same_type t u) (same_actuals xs ys) h) i)
  actuals_are (actual_const c xs) (actual_const d ys) h = λ i. actual_const
      (consts_are c d (left (same_const c d) (same_actuals xs ys) h) i) (actuals_are xs ys (right (same_const c d) (same_actuals xs ys) h) i)
  actuals_are (actual_param m xs) (actual_param n ys) h = λ i. actual_param
      (eqb-true m n (left (m == n) (same_actuals xs ys) h) i) (actuals_are xs ys (right (m == n) (same_actuals xs ys) h) i)
  actuals_are _ _ h = no h

-- ---- each is the same as itself

bytes_same : (a : List ℕ) → bytes_eq a a ≡ true
bytes_same a = (bytes_eq-Decides a a).1 refl

consts_same : (a : Const) → same_const a a ≡ true
consts_same constant.Null = refl
consts_same (constant.Bool true) = refl
consts_same (constant.Bool false) = refl
consts_same (constant.Int a) = (Decides-int_eq a a).1 refl
consts_same (constant.Char a) = eq-eqb a a refl
consts_same (constant.Str a) = bytes_same a

all_three : (x y z : Bool) → x ≡ true → y ≡ true → z ≡ true → (x && y && z) ≡ true
all_three x y z f g h = and_from (x && y) z (and_from x y f g) h

mutual
  pub type_same : (a : CluType) → same_type a a ≡ true
  type_same null_type = refl
  type_same bool_type = refl
  type_same int_type = refl
  type_same char_type = refl
  type_same string_type = refl
  type_same any_type = refl
  type_same stream_type = refl
  type_same (array_of t) = type_same t
  type_same (sequence_of t) = type_same t
  type_same (record_of fs) = fields_same fs
  type_same (struct_of fs) = fields_same fs
  type_same (oneof_of fs) = fields_same fs
  type_same (variant_of fs) = fields_same fs
  type_same (proc_of ts rs ss) = all_three _ _ _ (types_same ts) (types_same rs) (signals_same ss)
  type_same (iter_of ts rs ss) = all_three _ _ _ (types_same ts) (types_same rs) (signals_same ss)
  type_same (cluster_of c xs) = and_from _ _ (bytes_same c) (actuals_same xs)
  type_same (parameter n) = eq-eqb n n refl

  pub types_same : (a : CluTypes) → same_types a a ≡ true
  types_same no_types = refl
  types_same (type_and t ts) = and_from _ _ (type_same t) (types_same ts)

  fields_same : (a : Fields) → same_fields a a ≡ true
  fields_same no_fields = refl
  fields_same (field_and s t fs) = all_three _ _ _ (bytes_same s) (type_same t) (fields_same fs)

  signals_same : (a : Signals) → same_signals a a ≡ true
  signals_same no_signals = refl
  signals_same (signal_and s ts ss) = all_three _ _ _ (bytes_same s) (types_same ts) (signals_same ss)

  actuals_same : (a : Actuals) → same_actuals a a ≡ true
  actuals_same no_actuals = refl
  actuals_same (actual_type t xs) = and_from _ _ (type_same t) (actuals_same xs)
  actuals_same (actual_const c xs) = and_from _ _ (consts_same c) (actuals_same xs)
  actuals_same (actual_param m xs) = and_from _ _ (eq-eqb m m refl) (actuals_same xs)

types_same_at : (a b : CluTypes) → a ≡ b → same_types a b ≡ true
types_same_at a b e = subst (λ c. same_types a c ≡ true) e (types_same a)

-- ---- inclusion

signal_is : (name : List ℕ) (os : CluTypes) (many : Signals) → has_signal name os many ≡ true → HasSignal name os many
signal_is name os no_signals h = no h
signal_is name os (signal_and n os' rest) h = elim (or_cases (bytes_eq n name && same_types os' os) (has_signal name os rest) h) as (λ _. HasSignal name os (signal_and n os' rest)) [
  | inl found ↦ inl (same_bytes n name (left (bytes_eq n name) (same_types os' os) found), lists_are os' os (right (bytes_eq n name) (same_types os' os) found))
  | inr later ↦ inr (signal_is name os rest later)
]

among_are : (few many : Signals) → are_among few many ≡ true → AreAmong few many
among_are no_signals many h = tt
among_are (signal_and n os rest) many h =
    (signal_is n os many (left (has_signal n os many) (are_among rest many) h), among_are rest many (right (has_signal n os many) (are_among rest many) h))

narrower_is : (a b : CluType) → has_more_signals a b ≡ true → IsNarrower a b
narrower_is (proc_of ts rs few) (proc_of ts' rs' many) h = (
  lists_are ts ts' (of_three (same_types ts ts') (same_types rs rs') (are_among few many) h).0,
  lists_are rs rs' (of_three (same_types ts ts') (same_types rs rs') (are_among few many) h).1,
  among_are few many (of_three (same_types ts ts') (same_types rs rs') (are_among few many) h).2,
)
narrower_is (iter_of ts rs few) (iter_of ts' rs' many) h = (
  lists_are ts ts' (of_three (same_types ts ts') (same_types rs rs') (are_among few many) h).0,
  lists_are rs rs' (of_three (same_types ts ts') (same_types rs rs') (are_among few many) h).1,
  among_are few many (of_three (same_types ts ts') (same_types rs rs') (are_among few many) h).2,
)
narrower_is _ _ h = no h

any_is : (a b : CluType) → is_any b ≡ true → IsNarrower a b
any_is a any_type h = tt
any_is a _ h = no h

pub fits_included : (a b : CluType) → fits a b ≡ true → Included a b
fits_included a b h = elim (or_cases (same_type a b || is_any b) (has_more_signals a b) h) as (λ _. Included a b) [
  | inl first ↦ elim (or_cases (same_type a b) (is_any b) first) as (λ _. Included a b)
      [ inl same ↦ inl (types_are a b same) | inr any ↦ inr (any_is a b any) ]
  | inr narrower ↦ inr (narrower_is a b narrower)
]

signal_tests : (name : List ℕ) (os : CluTypes) (many : Signals) → HasSignal name os many → has_signal name os many ≡ true
signal_tests name os no_signals h = elim h [ ]
signal_tests name os (signal_and n os' rest) (inl (same, objects)) = or_left _ _ (and_from _ _ ((bytes_eq-Decides n name).1 same) (types_same_at os' os objects))
signal_tests name os (signal_and n os' rest) (inr later) = or_right _ _ (signal_tests name os rest later)

among_test : (few many : Signals) → AreAmong few many → are_among few many ≡ true
among_test no_signals many h = refl
among_test (signal_and n os rest) many h = and_from _ _ (signal_tests n os many h.0) (among_test rest many h.1)

any_fits : (a b : CluType) → is_any b ≡ true → fits a b ≡ true
any_fits a b h = or_left _ _ (or_right _ _ h)

narrower_fits : (a b : CluType) → IsNarrower a b → fits a b ≡ true
narrower_fits a any_type h = any_fits a any_type refl
narrower_fits (proc_of ts rs few) (proc_of ts' rs' many) h =
    or_right _ _ (all_three _ _ _ (types_same_at ts ts' h.0) (types_same_at rs rs' h.1) (among_test few many h.2))
narrower_fits (iter_of ts rs few) (iter_of ts' rs' many) h =
    or_right _ _ (all_three _ _ _ (types_same_at ts ts' h.0) (types_same_at rs rs' h.1) (among_test few many h.2))
narrower_fits _ _ h = absurd h

pub included_fits : (a b : CluType) → Included a b → fits a b ≡ true
included_fits a b (inl same) = or_left _ _ (or_left _ _ (subst (λ c. same_type a c ≡ true) same (type_same a)))
included_fits a b (inr narrower) = narrower_fits a b narrower
