-- What holds of all kept specifications.
use Rattle.std.proofs.Common.{◌≡◌, ℕ, zero, suc, List, [], ◌∷◌, Bool, true, false, slice_get, find, All, IfSome, refl}
use Rattle.std.proofs.lemmas.List.Elements.{All-cons, All-head, All-tail}
use Rattle.std.specs.declared.cmp.Ordering.{Ordering}
use Rattle.std.specs.declared.cmp.Ordering.TheVariants.{Less, Equal, Greater}
use Rattle.clu_types.specs.declared.spec.Spec.{Spec}
use Rattle.clu_types.specs.Specs.{name_order, placed, with_spec}

-- it holds of the one that is found
pub of_found : {X : Type 0} (P : X → Type 0) (p : X → Bool) (xs : List X) → All P xs → IfSome (find p xs) P
of_found P p [] all = tt
of_found {X} P p (x ∷ xs) all = by (p x) refl (of_found P p xs (All-tail P x xs all))
  where
    by : (b : Bool) → p x ≡ b → IfSome (find p xs) P → IfSome (find p (x ∷ xs)) P
    by true e behind = rw e (All-head P x xs all)
    by false e behind = rw e behind

-- and of the one at a place
pub of_nth : {X : Type 0} (P : X → Type 0) (xs : List X) (n : ℕ) → All P xs → IfSome (slice_get xs n) P
of_nth P [] n all = tt
of_nth P (x ∷ xs) zero all = All-head P x xs all
of_nth P (x ∷ xs) (suc n) all = of_nth P xs n (All-tail P x xs all)

-- and with one more of which it holds
pub with_one : (P : Spec → Type 0) (xs : List Spec) (s : Spec) → All P xs → P s → All P (with_spec xs s)
with_one P [] s all this = All-cons P s [] this all
with_one P (x ∷ xs) s all this = by (name_order x.name s.name) (with_one P xs s (All-tail P x xs all) this)
  where
    by : (o : Ordering) → All P (with_spec xs s) → All P (placed o s x xs (with_spec xs s))
    by Less behind = All-cons P x (with_spec xs s) (All-head P x xs all) behind
    by Equal behind = All-cons P s xs this (All-tail P x xs all)
    by Greater behind = All-cons P s (x ∷ xs) this all
