-- Types at different places have different numbers.
use Rattle.std.proofs.Common.{◌≡◌, ◌∙◌, ◌⊎◌, inl, inr, ℕ, ◌+◌, ◌*◌, refl, sym, arith}
use Rattle.clu_types.specs.CluType.{CluType, null_type, bool_type, int_type, char_type, string_type, any_type, stream_type, array_of, sequence_of, record_of, struct_of, oneof_of, variant_of, proc_of, iter_of, cluster_of, parameter}
use Rattle.clu_link_meaning.specs.Program.{number_by}

-- of any 0, of the types of routines odd, of others even
data Kind (t : CluType) : Type 0 where
  of_any : t ≡ any_type → ((n : ℕ) → number_by t n ≡ 0) → Kind t
  of_routine : ((n : ℕ) → number_by t n ≡ (n + 1) * 2 + 1) → Kind t
  of_other : ((n : ℕ) → number_by t n ≡ (n + 1) * 2) → Kind t

kind : (t : CluType) → Kind t
kind any_type = of_any refl (λ n. refl)
kind (proc_of args results may) = of_routine (λ n. refl)
kind (iter_of args results may) = of_routine (λ n. refl)
kind null_type = of_other (λ n. refl)
kind bool_type = of_other (λ n. refl)
kind int_type = of_other (λ n. refl)
kind char_type = of_other (λ n. refl)
kind string_type = of_other (λ n. refl)
kind stream_type = of_other (λ n. refl)
kind (array_of t) = of_other (λ n. refl)
kind (sequence_of t) = of_other (λ n. refl)
kind (record_of fs) = of_other (λ n. refl)
kind (struct_of fs) = of_other (λ n. refl)
kind (oneof_of fs) = of_other (λ n. refl)
kind (variant_of fs) = of_other (λ n. refl)
kind (cluster_of name given) = of_other (λ n. refl)
kind (parameter n) = of_other (λ n. refl)

by_kinds : (a b : CluType) (m n : ℕ) → Kind a → Kind b → number_by a m ≡ number_by b n → ((a ≡ any_type) × (b ≡ any_type)) ⊎ (m ≡ n)
by_kinds a b m n (of_any x f) (of_any y g) e = inl (x, y)
by_kinds a b m n (of_any x f) (of_routine g) e = let s : 0 ≡ (n + 1) * 2 + 1 = sym (f m) ∙ e ∙ g n in absurd (omega (arith, s))
by_kinds a b m n (of_any x f) (of_other g) e = let s : 0 ≡ (n + 1) * 2 = sym (f m) ∙ e ∙ g n in absurd (omega (arith, s))
by_kinds a b m n (of_routine f) (of_any y g) e = let s : (m + 1) * 2 + 1 ≡ 0 = sym (f m) ∙ e ∙ g n in absurd (omega (arith, s))
by_kinds a b m n (of_routine f) (of_routine g) e = let s : (m + 1) * 2 + 1 ≡ (n + 1) * 2 + 1 = sym (f m) ∙ e ∙ g n in inr (omega (arith, s))
by_kinds a b m n (of_routine f) (of_other g) e = let s : (m + 1) * 2 + 1 ≡ (n + 1) * 2 = sym (f m) ∙ e ∙ g n in absurd (omega (arith, s))
by_kinds a b m n (of_other f) (of_any y g) e = let s : (m + 1) * 2 ≡ 0 = sym (f m) ∙ e ∙ g n in absurd (omega (arith, s))
by_kinds a b m n (of_other f) (of_routine g) e = let s : (m + 1) * 2 ≡ (n + 1) * 2 + 1 = sym (f m) ∙ e ∙ g n in absurd (omega (arith, s))
by_kinds a b m n (of_other f) (of_other g) e = let s : (m + 1) * 2 ≡ (n + 1) * 2 = sym (f m) ∙ e ∙ g n in inr (omega (arith, s))

-- of two types with one number both are any, or the places are one
pub numbers_differ : (a b : CluType) (m n : ℕ) → number_by a m ≡ number_by b n → ((a ≡ any_type) × (b ≡ any_type)) ⊎ (m ≡ n)
numbers_differ a b m n e = by_kinds a b m n (kind a) (kind b) e
