-- What is found of a name once a specification was put at its place.
use Rattle.std.proofs.Common.{◌≡◌, ℕ, List, [], ◌∷◌, Bool, true, false, Option, Some, None, find, refl, sym, ap, ◌∙◌, true≢false}
use Rattle.std.specs.Str.{bytes_eq}
use Rattle.std.specs.Ordering.{is_eq}
use Rattle.std.proofs.lemmas.Slice.Eq.{bytes_eq-Decides}
use Rattle.std.proofs.lemmas.Map.Text.{is_eq-slice_cmp}
use Rattle.std.specs.declared.cmp.Ordering.{Ordering}
use Rattle.std.specs.declared.cmp.Ordering.TheVariants.{Less, Equal, Greater}
use Rattle.clu_types.specs.declared.spec.Spec.{Spec}
use Rattle.clu_types.specs.Specs.{name_order, placed, with_spec}

-- the first specification of a name
abbrev pub named : List ℕ → List Spec → Option Spec
named name specs = find (λ s. bytes_eq s.name name) specs

-- names that are equal by their order are the same
pub same_name : (m n : List ℕ) → name_order m n ≡ Equal → m ≡ n
same_name m n e = (bytes_eq-Decides m n).0 (sym (is_eq-slice_cmp m n) ∙ ap is_eq e)

-- and those that are the same are equal by their order
pub order_of_same : (m n : List ℕ) → bytes_eq m n ≡ true → is_eq (name_order m n) ≡ true
order_of_same m n e = is_eq-slice_cmp m n ∙ e

-- of another name the same is found as before
pub found_other : (name : List ℕ) (xs : List Spec) (s : Spec) → bytes_eq s.name name ≡ false → named name (with_spec xs s) ≡ named name xs
found_other name [] s other = rw other refl
found_other name (x ∷ xs) s other = by (name_order x.name s.name) refl (found_other name xs s other)
  where
    further : (b : Bool) → bytes_eq x.name name ≡ b → named name (with_spec xs s) ≡ named name xs → named name (x ∷ with_spec xs s) ≡ named name (x ∷ xs)
    further true e behind = rw e refl
    further false e behind = rw e behind

    by : (o : Ordering) → name_order x.name s.name ≡ o → named name (with_spec xs s) ≡ named name xs → named name (placed o s x xs (with_spec xs s)) ≡ named name (x ∷ xs)
    by Less e behind = further (bytes_eq x.name name) refl behind
    by Equal e behind =
        let too : bytes_eq x.name name ≡ false = ap (λ m. bytes_eq m name) (same_name x.name s.name e) ∙ other in
        rw other (rw too refl)
    by Greater e behind = rw other refl

-- of its own name it is found
pub found_this : (name : List ℕ) (xs : List Spec) (s : Spec) → bytes_eq s.name name ≡ true → named name (with_spec xs s) ≡ Some s
found_this name [] s this = rw this refl
found_this name (x ∷ xs) s this = by (name_order x.name s.name) refl (found_this name xs s this)
  where
    same : s.name ≡ name
    same = (bytes_eq-Decides s.name name).0 this

    -- the one before it has another name
    apart : name_order x.name s.name ≡ Less → (b : Bool) → bytes_eq x.name name ≡ b → b ≡ false
    apart e true equal =
        let order : is_eq (name_order x.name s.name) ≡ true = order_of_same x.name s.name (ap (bytes_eq x.name) same ∙ equal) in
        absurd (true≢false (sym order ∙ ap is_eq e))
    apart e false equal = refl

    by : (o : Ordering) → name_order x.name s.name ≡ o → named name (with_spec xs s) ≡ Some s → named name (placed o s x xs (with_spec xs s)) ≡ Some s
    by Less e behind = rw (apart e (bytes_eq x.name name) refl) behind
    by Equal e behind = rw this refl
    by Greater e behind = rw this refl
