-- The specifications of a library that was read are whole, and the operations of each ascend.
use Rattle.std.proofs.Common.{◌≡◌, ◌<◌, ◌≤◌, ◌+◌, ◌∙◌, ℕ, zero, suc, Bool, true, false, cond, if◌then◌else◌, nat_lt, ◌==◌, List, [], ◌∷◌, All, get_or, map, slice_get, Some, arith, refl, sym, ap, subst}
use Rattle.std.proofs.lemmas.Bool.{eqb-true, ltb-true, true≢false}
use Rattle.std.proofs.lemmas.Option.{none-some, same_Some}
use Rattle.std.specs.Cmp.Lexicographic.{slice_cmp}
use Rattle.std.specs.Ordering.{is_lt, nat_cmp, ordering_then}
use Rattle.std.specs.declared.cmp.Ordering.{Ordering}
use Rattle.std.specs.declared.cmp.Ordering.TheVariants.{Less, Equal, Greater}
use Rattle.clu_types.specs.CluType.{CluType}
use Rattle.clu_types.specs.Arena.{types_of}
use Rattle.clu_types.specs.declared.spec.Form.{Form}
use Rattle.clu_types.specs.declared.spec.Form.TheVariants as form
use Rattle.clu_types.specs.declared.spec.OpSpec.{OpSpec}
use Rattle.clu_types.specs.declared.spec.Spec.{Spec}
use Rattle.clu_specs.specs.declared.scope.Scope.{Scope}
use Rattle.clu_specs.specs.Scopes.{scope_of}
use Rattle.clu_specs.specs.Grammar.{AreOperations, IsShape}
use Rattle.clu_specs.specs.Names.{is_before}
use Rattle.clu_specs.specs.Seen.{form_seen, op_seen, seen}
use Rattle.clu_specs.specs.Specifications.{SpecHolds}
use Rattle.clu_operations.specs.ByName.{AreAscending, comes_before}
use Rattle.clu_operations.specs.Modules.{operation_name, operations_in}
use Rattle.clu_passes.specs.Libraries.{HoldAscending}
use Rattle.clu_library.specs.Contents.{Contents}
use Rattle.clu_library.specs.Libraries.{AreModules, IsLibrary}
use Rattle.clu_library.specs.LibraryReading.{SeenLibrary, library_seen}
use Rattle.clu_library.proofs.Entering.{nth_holds}

-- ---- a name doesn't come before one that comes before it

not_less : (x y : ℕ) → x ≤ y → is_lt (nat_cmp y x) ≡ false
not_less x y low = by (nat_lt y x) refl
  where
    tie : (e : Bool) → is_lt (cond e Equal Greater) ≡ false
    tie true = refl
    tie false = refl

    by : (b : Bool) → nat_lt y x ≡ b → is_lt (cond b Less (cond (y == x) Equal Greater)) ≡ false
    by true is = absurd (let less : y < x = ltb-true y x is in omega (arith, less, low))
    by false is = tie (y == x)

then_not : (first second : Ordering) → is_lt first ≡ false → is_lt second ≡ false → is_lt (ordering_then first second) ≡ false
then_not Less second low later = absurd (true≢false low)
then_not Equal second low later = later
then_not Greater second low later = refl

greater_not : (x y : ℕ) (second : Ordering) → x < y → is_lt (ordering_then (nat_cmp y x) second) ≡ false
greater_not x y second less = by (nat_lt y x) refl (y == x) refl
  where
    by : (b : Bool) → nat_lt y x ≡ b → (e : Bool) → (y == x) ≡ e → is_lt (ordering_then (cond b Less (cond e Equal Greater)) second) ≡ false
    by true is e same = absurd (let more : y < x = ltb-true y x is in omega (arith, less, more))
    by false is true same = absurd (let equal : y ≡ x = eqb-true y x same in omega (arith, less, equal))
    by false is false same = refl

pub not_before : (a b : List ℕ) → is_before a b ≡ true → is_lt (slice_cmp nat_cmp b a) ≡ false
not_before a [] is = absurd (true≢false (sym is))
not_before [] (y ∷ b) is = refl
not_before (x ∷ a) (y ∷ b) is = by (x == y) refl (not_before a b)
  where
    first : (x == y) ≡ true → is_before (x ∷ a) (y ∷ b) ≡ is_before a b
    first same = ap (λ (e : Bool). if e then is_before a b else nat_lt x y) same

    other : (x == y) ≡ false → is_before (x ∷ a) (y ∷ b) ≡ nat_lt x y
    other same = ap (λ (e : Bool). if e then is_before a b else nat_lt x y) same

    by : (e : Bool) → (x == y) ≡ e → (is_before a b ≡ true → is_lt (slice_cmp nat_cmp b a) ≡ false) → is_lt (ordering_then (nat_cmp y x) (slice_cmp nat_cmp b a)) ≡ false
    by true same more = let equal : x ≡ y = eqb-true x y same in then_not (nat_cmp y x) (slice_cmp nat_cmp b a) (not_less x y (omega (arith, equal))) (more (sym (first same) ∙ is))
    by false same more = greater_not x y (slice_cmp nat_cmp b a) (ltb-true x y (sym (other same) ∙ is))

-- ---- operations

module _ (types : List CluType) (scope : Scope) where
  ascend : (name : List ℕ) (ops : List OpSpec) → AreOperations scope name (map (op_seen types) ops) → AreAscending operation_name ops
  ascend name [] are k d from to = absurd (omega (arith, to))
  ascend name (x ∷ []) are k d from to = absurd (omega (arith, to))
  ascend name (x ∷ y ∷ ys) are zero d from to = not_before x.name y.name are.3.1
  ascend name (x ∷ y ∷ ys) are (suc k) d from to =
      let next : suc k + 1 ≡ suc (k + 1) = omega arith in
      subst (λ (i : ℕ). comes_before operation_name (get_or (x ∷ y ∷ ys) i d) (get_or (y ∷ ys) k d) ≡ false) (sym next) (ascend x.name (y ∷ ys) are.3 k d (omega arith) (omega (arith, to)))

form_ascends : (types : List CluType) (scope : Scope) (name : List ℕ) (f : Form) → IsShape scope name (form_seen types f) → AreAscending operation_name (operations_in f)
form_ascends types scope name (form.Routine op) is k d from to = absurd (omega (arith, to))
form_ascends types scope name (form.Cluster demands ops) is k d from to = ascend types scope [] ops is.2 k d from to

-- ---- specifications

module _ (library : SeenLibrary) where
  modules_ascend : (previous : List ℕ) (specs : List Spec) → AreModules library previous (map seen specs) → (i : ℕ) (s : Spec) → slice_get specs i ≡ Some s → AreAscending operation_name (operations_in s.form)
  modules_ascend previous [] are i s at = absurd (none-some s at)
  modules_ascend previous (x ∷ xs) are zero s at =
      subst (λ (s : Spec). AreAscending operation_name (operations_in s.form)) (same_Some x s at) (form_ascends (types_of x.types) (scope_of x.kinds) x.name x.form are.0.grammar.shaped)
  modules_ascend previous (x ∷ xs) are (suc i) s at = modules_ascend x.name xs are.1 i s at

pub library_ascends : (l : Contents) → IsLibrary (library_seen l) → All SpecHolds l.specs → HoldAscending l.specs
library_ascends l is holds i s at = (nth_holds l.specs i s holds (sym at), modules_ascend (library_seen l) [] l.specs is.modules i s at)
