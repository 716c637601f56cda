-- Parameters as actuals for themselves, while the arena grows.
use Rattle.std.proofs.Common.{◌≡◌, ◌∙◌, ℕ, suc, ◌+◌, ◌<◌, Bool, true, false, List, [], ◌∷◌, ◌++◌, length, take, get_or, Option, Some, None, refl, ap, sym, subst, arith}
use Rattle.std.specs.Prelude.{slice_get}
use Rattle.std.proofs.lemmas.List.{take_more}
use Rattle.std.proofs.lemmas.Option.{slice_get_within}
use Rattle.clu_base.proofs.Lists.{got_front}
use Rattle.clu_types.specs.declared.spec.ParamKind.{ParamKind}
use Rattle.clu_types.specs.declared.term.TypeId.{TypeId}
use Rattle.clu_types.specs.declared.term.Actual.{Actual}
use Rattle.clu_types.specs.declared.term.Actual.TheVariants as actual
use Rattle.clu_types.specs.declared.term.Term.{Term}
use Rattle.clu_types.specs.declared.term.Term.TheVariants as term
use Rattle.clu_types.specs.Arena.{ActualBelow, ActualsBelow, Grows}
use Rattle.clu_head.specs.Terms.{IsNumbered}
use Rattle.clu_head.specs.OwnTypes.{number_at, is_type_parameter, IsOwn, IsOwnActual, AreOwn, IsOwnType}

pub own_type_parameter : (types : List Term) (kind : Option ParamKind) (n : ℕ) (id : TypeId) → is_type_parameter kind ≡ true → slice_get types id.0 ≡ Some (term.Param n) → IsOwnActual types kind n (actual.Of id)
unfolding IsOwnActual
own_type_parameter types kind n id is at = subst (λ (b : Bool). IsOwn types b n (actual.Of id)) (sym is) at

pub own_constant : (types : List Term) (kind : Option ParamKind) (n : ℕ) → is_type_parameter kind ≡ false → IsOwnActual types kind n (actual.ConstParam n)
unfolding IsOwnActual
own_constant types kind n is = subst (λ (b : Bool). IsOwn types b n (actual.ConstParam n)) (sym is) refl

one_wider : (old new : List Term) → Grows old new → (b : Bool) (n : ℕ) (a : Actual) → IsOwn old b n a → IsOwn new b n a
one_wider old new grows true n (actual.Of id) is = ap (λ (ts : List Term). slice_get ts id.0) grows.1 ∙ got_front old grows.0 id.0 (term.Param n) is
one_wider old new grows true n (actual.Const c) is = absurd is
one_wider old new grows true n (actual.ConstParam p) is = absurd is
one_wider old new grows false n (actual.Of id) is = absurd is
one_wider old new grows false n (actual.Const c) is = absurd is
one_wider old new grows false n (actual.ConstParam p) is = is

actual_wider : (old new : List Term) → Grows old new → (kind : Option ParamKind) (n : ℕ) (a : Actual) → IsOwnActual old kind n a → IsOwnActual new kind n a
unfolding IsOwnActual
actual_wider old new grows kind n a is = one_wider old new grows (is_type_parameter kind) n a is

own_wider : (old new : List Term) → Grows old new → (place : ℕ) (ks : List (Option ParamKind)) (xs : List Actual) → AreOwn old place ks xs → AreOwn new place ks xs
unfolding AreOwn
own_wider old new grows place [] [] are = tt
own_wider old new grows place [] (a ∷ xs) are = absurd are
own_wider old new grows place (k ∷ ks) [] are = absurd are
own_wider old new grows place (k ∷ ks) (a ∷ xs) are = (actual_wider old new grows k (number_at place) a are.0, own_wider old new grows (suc place) ks xs are.1)

own_behind : (types : List Term) (place : ℕ) (ks : List (Option ParamKind)) (xs : List Actual) (k : Option ParamKind) (a : Actual) → AreOwn types place ks xs → IsOwnActual types k (number_at (place + length xs)) a → AreOwn types place (ks ++ k ∷ []) (xs ++ a ∷ [])
unfolding AreOwn
own_behind types place [] [] k a are is = let none : place + 0 ≡ place = omega arith in (subst (λ (n : ℕ). IsOwnActual types k (number_at n) a) none is, tt)
own_behind types place [] (b ∷ xs) k a are is = absurd are
own_behind types place (l ∷ ks) [] k a are is = absurd are
own_behind types place (l ∷ ks) (b ∷ xs) k a are is =
    let one : place + suc (length xs) ≡ suc place + length xs = omega arith in
    (are.0, own_behind types (suc place) ks xs k a are.1 (subst (λ (n : ℕ). IsOwnActual types k (number_at n) a) one is))

pub none_own : (types : List Term) (xs : List Actual) → xs ≡ [] → AreOwn types 0 [] xs
unfolding AreOwn
none_own types xs none = subst (AreOwn types 0 []) (sym none) tt

pub own_next : (old new : List Term) → Grows old new → (kinds : List (Option ParamKind)) (i : ℕ) → i < length kinds → (xs more : List Actual) (a : Actual) (n : ℕ)
    → AreOwn old 0 (take i kinds) xs → n ≡ length xs → IsOwnActual new (get_or kinds i None) (number_at n) a → more ≡ xs ++ a ∷ [] → AreOwn new 0 (take (i + 1) kinds) more
own_next old new grows kinds i inside xs more a n are size is grown =
    let k : Option ParamKind = get_or kinds i None in
    let many : n ≡ 0 + length xs = omega (arith, size) in
    let all : AreOwn new 0 (take i kinds ++ k ∷ []) (xs ++ a ∷ []) =
    own_behind new 0 (take i kinds) xs k a (own_wider old new grows 0 (take i kinds) xs are) (subst (λ (m : ℕ). IsOwnActual new k (number_at m) a) many is) in
    subst (λ (xs : List Actual). AreOwn new 0 (take (i + 1) kinds) xs) (sym grown) (subst (λ (ks : List (Option ParamKind)). AreOwn new 0 ks (xs ++ a ∷ [])) (sym (take_more kinds i None inside)) all)

one_below : (types : List Term) (b : Bool) (n : ℕ) (a : Actual) → IsOwn types b n a → ActualBelow (length types) a
one_below types true n (actual.Of id) is = slice_get_within types id.0 (term.Param n) is
one_below types true n (actual.Const c) is = tt
one_below types true n (actual.ConstParam p) is = tt
one_below types false n (actual.Of id) is = absurd is
one_below types false n (actual.Const c) is = tt
one_below types false n (actual.ConstParam p) is = tt

own_below : (types : List Term) (place : ℕ) (ks : List (Option ParamKind)) (xs : List Actual) → AreOwn types place ks xs → ActualsBelow (length types) xs
unfolding AreOwn IsOwnActual
own_below types place [] [] are = tt
own_below types place [] (a ∷ xs) are = absurd are
own_below types place (k ∷ ks) [] are = tt
own_below types place (k ∷ ks) (a ∷ xs) are = (one_below types (is_type_parameter k) (number_at place) a are.0, own_below types (suc place) ks xs are.1)

pub own_found : (old new : List Term) → Grows old new → (kinds : List (Option ParamKind)) (name word : List ℕ) (xs : List Actual) (found : Option TypeId)
    → word ≡ name → AreOwn old 0 kinds xs → IsNumbered old new (Some (term.Cluster word xs)) found → IsOwnType new name kinds found
unfolding IsOwnType
own_found old new grows kinds name word xs (Some id) same are is = (xs, is ∙ ap (λ (w : List ℕ). Some (term.Cluster w xs)) same, own_wider old new grows 0 kinds xs are)
own_found old new grows kinds name word xs None same are is = is (own_below old 0 kinds xs are)

pub own_type_wider : (old new : List Term) → Grows old new → (name : List ℕ) (kinds : List (Option ParamKind)) (found : Option TypeId) → IsOwnType old name kinds found → IsOwnType new name kinds found
unfolding IsOwnType
own_type_wider old new grows name kinds (Some id) is = (is.0, ap (λ (ts : List Term). slice_get ts id.0) grows.1 ∙ got_front old grows.0 id.0 (term.Cluster name is.0) is.1, own_wider old new grows 0 kinds is.0 is.2)
own_type_wider old new grows name kinds None is = is
