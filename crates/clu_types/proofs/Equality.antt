-- The derived `==` of terms and of their parts says whether they are equal.
use Rattle.std.proofs.Common.{◌≡◌, ℕ, List, Bool, refl, ap, ap₂}
use Rattle.std.specs.Bool.{Decides}
use Rattle.std.proofs.lemmas.Bool.Decides.{Decides-like, Decides-and, Decides-eqb, Decides-int_eq}
use Rattle.std.specs.Cmp.{booleans_Decides}
use Rattle.std.proofs.lemmas.Slice.Eq.{slice_eq-Decides, bytes_eq-Decides}
use Rattle.std.specs.Cmp.Lexicographic.{pointwise}
use Rattle.clu_base.specs.declared.constants.Const.{Const}
use Rattle.clu_base.specs.declared.constants.Const.TheVariants as constant
use Rattle.clu_base.specs.contracts.constants.ConstPartialEq.TheImpl as constants
use Rattle.clu_types.specs.declared.term.TypeId.{TypeId}
use Rattle.clu_types.specs.declared.term.Field.{Field}
use Rattle.clu_types.specs.declared.term.Exception.{Exception}
use Rattle.clu_types.specs.declared.term.Heading.{Heading}
use Rattle.clu_types.specs.declared.term.Actual.{Actual}
use Rattle.clu_types.specs.declared.term.Actual.TheVariants as actual
use Rattle.clu_types.specs.declared.term.Term.{Term}
use Rattle.clu_types.specs.declared.term.Term.TheVariants as term
use Rattle.clu_types.specs.contracts.term.TypeIdPartialEq.TheImpl as ids
use Rattle.clu_types.specs.contracts.term.FieldPartialEq.TheImpl as fields
use Rattle.clu_types.specs.contracts.term.ExceptionPartialEq.TheImpl as exceptions
use Rattle.clu_types.specs.contracts.term.HeadingPartialEq.TheImpl as headings
use Rattle.clu_types.specs.contracts.term.ActualPartialEq.TheImpl as actuals
use Rattle.clu_types.specs.contracts.term.TermPartialEq.TheImpl as terms

pub join3 : {A B C D : Type 0} (f : A → B → C → D) {a a' : A} {b b' : B} {c c' : C} → a ≡ a' → b ≡ b' → c ≡ c' → f a b c ≡ f a' b' c'
join3 f p q r = cc

-- lists are compared item by item
pub items : {A : Type 0} {E : A → A → Bool} → ((a b : A) → Decides (E a b) (a ≡ b)) → (xs ys : List A) → Decides (pointwise E xs ys) (xs ≡ ys)
items same xs ys = slice_eq-Decides same xs ys _ refl

pub same_id : (a b : TypeId) → Decides ((ids.ghosts).eq a b) (a ≡ b)
same_id a b = Decides-like _ (ap (λ (n : ℕ). let id : TypeId = record { 0 = n } in id)) (ap (λ (id : TypeId). id.0)) (Decides-eqb a.0 b.0)

pub same_field : (a b : Field) → Decides ((fields.ghosts).eq a b) (a ≡ b)
same_field a b =
    Decides-like _ (λ e. ap₂ (λ (n : List ℕ) (i : TypeId). let f : Field = record { name = n; of = i } in f) e.0 e.1)
    (λ e. (ap (λ (f : Field). f.name) e, ap (λ (f : Field). f.of) e)) (Decides-and _ _ (bytes_eq-Decides a.name b.name) (same_id a.of b.of))

pub same_exception : (a b : Exception) → Decides ((exceptions.ghosts).eq a b) (a ≡ b)
same_exception a b =
    Decides-like _ (λ e. ap₂ (λ (n : List ℕ) (os : List TypeId). let s : Exception = record { name = n; objects = os } in s) e.0 e.1)
    (λ e. (ap (λ (s : Exception). s.name) e, ap (λ (s : Exception). s.objects) e))
    (Decides-and _ _ (bytes_eq-Decides a.name b.name) (items same_id a.objects b.objects))

pub same_heading : (a b : Heading) → Decides ((headings.ghosts).eq a b) (a ≡ b)
same_heading a b =
    Decides-like _
    (λ e. join3 (λ (xs ys : List TypeId) (ss : List Exception). let h : Heading = record { args = xs; results = ys; signals = ss } in h) e.0 e.1.0 e.1.1)
    (λ e. (ap (λ (h : Heading). h.args) e, (ap (λ (h : Heading). h.results) e, ap (λ (h : Heading). h.signals) e)))
    (Decides-and _ _ (items same_id a.args b.args) (Decides-and _ _ (items same_id a.results b.results) (items same_exception a.signals b.signals)))

pub same_const : (a b : Const) → Decides ((constants.ghosts).eq a b) (a ≡ b)
same_const constant.Null constant.Null = (λ e. refl, λ e. refl)
same_const (constant.Bool a) (constant.Bool b) = Decides-like _ (ap constant.Bool) (λ e. cc) (booleans_Decides a b)
same_const (constant.Int a) (constant.Int b) = Decides-like _ (ap constant.Int) (λ e. cc) (Decides-int_eq a b)
same_const (constant.Char a) (constant.Char b) = Decides-like _ (ap constant.Char) (λ e. cc) (Decides-eqb a b)
same_const (constant.Str a) (constant.Str b) = Decides-like _ (ap constant.Str) (λ e. cc) (bytes_eq-Decides a b)
same_const _ _ = (λ e. cc, λ e. cc)

pub same_actual : (a b : Actual) → Decides ((actuals.ghosts).eq a b) (a ≡ b)
same_actual (actual.Of a) (actual.Of b) = Decides-like _ (ap actual.Of) (λ e. cc) (same_id a b)
same_actual (actual.Const a) (actual.Const b) = Decides-like _ (ap actual.Const) (λ e. cc) (same_const a b)
same_actual (actual.ConstParam a) (actual.ConstParam b) = Decides-like _ (ap actual.ConstParam) (λ e. cc) (Decides-eqb a b)
same_actual _ _ = (λ e. cc, λ e. cc)

pub same_term : (a b : Term) → Decides ((terms.ghosts).eq a b) (a ≡ b)
same_term term.Null term.Null = (λ e. refl, λ e. refl)
same_term term.Bool term.Bool = (λ e. refl, λ e. refl)
same_term term.Int term.Int = (λ e. refl, λ e. refl)
same_term term.Char term.Char = (λ e. refl, λ e. refl)
same_term term.Str term.Str = (λ e. refl, λ e. refl)
same_term term.Any term.Any = (λ e. refl, λ e. refl)
same_term term.Stream term.Stream = (λ e. refl, λ e. refl)
same_term (term.Array a) (term.Array b) = Decides-like _ (ap term.Array) (λ e. cc) (same_id a b)
same_term (term.Sequence a) (term.Sequence b) = Decides-like _ (ap term.Sequence) (λ e. cc) (same_id a b)
same_term (term.Record a) (term.Record b) = Decides-like _ (ap term.Record) (λ e. cc) (items same_field a b)
same_term (term.Struct a) (term.Struct b) = Decides-like _ (ap term.Struct) (λ e. cc) (items same_field a b)
same_term (term.Oneof a) (term.Oneof b) = Decides-like _ (ap term.Oneof) (λ e. cc) (items same_field a b)
same_term (term.Variant a) (term.Variant b) = Decides-like _ (ap term.Variant) (λ e. cc) (items same_field a b)
same_term (term.Proc a) (term.Proc b) = Decides-like _ (ap term.Proc) (λ e. cc) (same_heading a b)
same_term (term.Iter a) (term.Iter b) = Decides-like _ (ap term.Iter) (λ e. cc) (same_heading a b)
same_term (term.Cluster a xs) (term.Cluster b ys) =
    Decides-like _ (λ e. ap₂ term.Cluster e.0 e.1) (λ e. (cc, cc)) (Decides-and _ _ (bytes_eq-Decides a b) (items same_actual xs ys))
same_term (term.Param a) (term.Param b) = Decides-like _ (ap term.Param) (λ e. cc) (Decides-eqb a b)
same_term _ _ = (λ e. cc, λ e. cc)
