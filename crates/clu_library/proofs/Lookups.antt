-- What is found by name in lists that were made of entries of ascending names, each of which may give an item of its name.
use Rattle.std.proofs.Common.{◌≡◌, ℕ, List, [], ◌∷◌, ◌++◌, Bool, true, false, cond, Option, Some, None, IfSome, find, refl, sym, ap, subst, ◌∙◌, append_assoc}
use Rattle.std.specs.List.{cons_option, filter_map}
use Rattle.std.specs.Option.{option_or}
use Rattle.std.specs.Str.{bytes_eq}
use Rattle.std.proofs.lemmas.List.{append-nil}
use Rattle.std.proofs.lemmas.List.Folds.{find-append}
use Rattle.std.proofs.lemmas.Slice.Eq.{bytes_eq-Decides}
use Rattle.std.specs.declared.cmp.Ordering.TheVariants.{Less}
use Rattle.clu_types.specs.Specs.{name_order}
use Rattle.clu_library.proofs.Appending.{AllBefore, before_later, before_maybe, cons_after}
use Rattle.clu_library.proofs.Firsts.{apart}
use Rattle.std.proofs.lemmas.Cmp.{nat_list_cmp_total}

module _ {E X : Type 0} (name : E → List ℕ) (f : X → List ℕ) (item : E → Option X) (named : (e : E) → IfSome (item e) (λ x. f x ≡ name e)) where
  -- each comes after a name, and each after the one before
  abbrev pub Ascend : List ℕ → List E → Type 0
  Ascend previous [] = Unit {0}
  Ascend previous (e ∷ es) = (name_order previous (name e) ≡ Less) × Ascend (name e) es

  -- what is found by the name of each is what it gives
  abbrev pub AreFound : List X → List E → Type 0
  AreFound all [] = Unit {0}
  AreFound all (e ∷ es) = (find (λ x. bytes_eq (f x) (name e)) all ≡ item e) × AreFound all es

  none_before : (xs : List X) (n : List ℕ) → AllBefore f xs n → find (λ x. bytes_eq (f x) n) xs ≡ None
  none_before [] n h = refl
  none_before (x ∷ xs) n h = rw (apart (f x) n h.0) (none_before xs n h.1)

  other_name : (m n : List ℕ) → name_order n m ≡ Less → bytes_eq m n ≡ false
  other_name m n less = by (bytes_eq m n) refl
    where
      by : (b : Bool) → bytes_eq m n ≡ b → b ≡ false
      by false e = refl
      by true e =
          let same : m ≡ n = (bytes_eq-Decides m n).0 e in
          let this : bytes_eq n m ≡ true = (bytes_eq-Decides n m).1 (sym same) in
          sym this ∙ apart n m less

  earlier : (n previous : List ℕ) (es : List E) → name_order n previous ≡ Less → Ascend previous es → Ascend n es
  earlier n previous [] less h = tt
  earlier n previous (e ∷ es) less h = (nat_list_cmp_total.trans n previous (name e) less h.0, h.1)

  none_behind : (n : List ℕ) (es : List E) → Ascend n es → find (λ x. bytes_eq (f x) n) (filter_map item es) ≡ None
  none_behind n [] h = refl
  none_behind n (e ∷ es) h = by (item e) (named e) (none_behind n es (earlier n (name e) es h.0 h.1))
    where
      by : (o : Option X) → IfSome o (λ x. f x ≡ name e) → find (λ x. bytes_eq (f x) n) (filter_map item es) ≡ None → find (λ x. bytes_eq (f x) n) (cons_option o (filter_map item es)) ≡ None
      by None is behind = behind
      by (Some x) is behind = let other : bytes_eq (f x) n ≡ false = ap (λ (m : List ℕ). bytes_eq m n) is ∙ other_name (name e) n h.0 in rw other behind

  found_here : (before : List X) (e : E) (es : List E) → AllBefore f before (name e) → Ascend (name e) es → find (λ x. bytes_eq (f x) (name e)) (before ++ filter_map item (e ∷ es)) ≡ item e
  found_here before e es h ascend =
      find-append (λ (x : X). bytes_eq (f x) (name e)) before (filter_map item (e ∷ es))
      ∙ rw (none_before before (name e) h) (by (item e) (named e))
    where
      by : (o : Option X) → IfSome o (λ x. f x ≡ name e) → find (λ x. bytes_eq (f x) (name e)) (cons_option o (filter_map item es)) ≡ o
      by None is = none_behind (name e) es ascend
      by (Some x) is = let this : bytes_eq (f x) (name e) ≡ true = (bytes_eq-Decides (f x) (name e)).1 is in rw this refl

  pub all_found : (before : List X) (previous : List ℕ) (es : List E) → ((n : List ℕ) → name_order previous n ≡ Less → AllBefore f before n) → Ascend previous es → AreFound (before ++ filter_map item es) es
  all_found before previous [] h ascend = tt
  all_found before previous (e ∷ es) h ascend = (found_here before e es (h (name e) ascend.0) ascend.1, subst (λ (all : List X). AreFound all es) whole (all_found (before ++ cons_option (item e) []) (name e) es later ascend.1))
    where
      later : (n : List ℕ) → name_order (name e) n ≡ Less → AllBefore f (before ++ cons_option (item e) []) n
      later n less = before_maybe f before (item e) (name e) n (h n (nat_list_cmp_total.trans previous (name e) n ascend.0 less)) (named e) less

      whole : (before ++ cons_option (item e) []) ++ filter_map item es ≡ before ++ filter_map item (e ∷ es)
      whole = append_assoc before (cons_option (item e) []) (filter_map item es) ∙ ap (λ (xs : List X). before ++ xs) (sym (cons_after f (item e) (filter_map item es)))
