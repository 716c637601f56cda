-- What comes behind all that is there is put at the end.
use Rattle.std.proofs.Common.{◌≡◌, ℕ, List, [], ◌∷◌, ◌++◌, true, Option, Some, None, IfSome, refl, sym, ap, subst, ◌∙◌}
use Rattle.std.specs.List.{cons_option}
use Rattle.std.proofs.lemmas.Cmp.{nat_list_cmp_total}
use Rattle.std.proofs.lemmas.List.{append-nil}
use Rattle.std.specs.declared.cmp.Ordering.{Ordering}
use Rattle.std.specs.declared.cmp.Ordering.TheVariants.{Less, Equal, Greater}
use Rattle.clu_types.specs.Specs.{name_order}
use Rattle.clu_format.specs.Fields.{is_after, is_less}
use Rattle.clu_library.specs.ByName.{with_item}

pub less_of_after : (m n : List ℕ) → is_after m n ≡ true → name_order m n ≡ Less
less_of_after m n h = by (name_order m n) h
  where
    by : (o : Ordering) → is_less o ≡ true → o ≡ Less
    by Less h = refl
    by Equal h = absurd (cc)
    by Greater h = absurd (cc)

-- each has a name before this one
abbrev pub AllBefore : {X : Type 0} → (X → List ℕ) → List X → List ℕ → Type 0
AllBefore name_of [] name = Unit {0}
AllBefore name_of (x ∷ xs) name = (name_order (name_of x) name ≡ Less) × AllBefore name_of xs name

module _ {X : Type 0} (f : X → List ℕ) where
  pub put_last : (xs : List X) (y : X) → AllBefore f xs (f y) → with_item f xs y ≡ xs ++ y ∷ []
  put_last [] y h = refl
  put_last (x ∷ xs) y h = rw h.0 (ap (λ (ys : List X). x ∷ ys) (put_last xs y h.1))

  pub before_later : (xs : List X) (m n : List ℕ) → AllBefore f xs m → name_order m n ≡ Less → AllBefore f xs n
  before_later [] m n h less = tt
  before_later (x ∷ xs) m n h less = (nat_list_cmp_total.trans (f x) m n h.0 less, before_later xs m n h.1 less)

  pub before_pushed : (xs : List X) (y : X) (n : List ℕ) → AllBefore f xs n → name_order (f y) n ≡ Less → AllBefore f (xs ++ y ∷ []) n
  before_pushed [] y n h less = (less, tt)
  before_pushed (x ∷ xs) y n h less = (h.0, before_pushed xs y n h.1 less)

  -- the same of one that may be there
  pub before_maybe : (xs : List X) (o : Option X) (m n : List ℕ) → AllBefore f xs n → IfSome o (λ y. f y ≡ m) → name_order m n ≡ Less → AllBefore f (xs ++ cons_option o []) n
  before_maybe xs None m n h named less = subst (λ (ys : List X). AllBefore f ys n) (sym (append-nil xs)) h
  before_maybe xs (Some y) m n h named less = before_pushed xs y n h (ap (λ (k : List ℕ). name_order k n) named ∙ less)

  pub cons_after : (o : Option X) (xs : List X) → cons_option o xs ≡ cons_option o [] ++ xs
  cons_after None xs = refl
  cons_after (Some y) xs = refl
