-- The operations of built-in types: each is primitive and no iterator, or a text or scheme defines it with the heading of the
-- table. So what has the heading of an iterator has a text.
use Rattle.std.proofs.Common.{◌≡◌, ℕ, Bool, true, false, List, [], ◌∷◌, Option, None, Some, refl, sym, ap, subst, ◌∙◌, cond}
use Rattle.std.specs.Prelude.{◌||◌, bytes_eq, codes, is_some}
use Rattle.std.specs.Option.{option_map}
use Rattle.std.proofs.lemmas.Bool.{false≢true, true≢false}
use Rattle.clu_base.proofs.Lists.{same_bytes, as_bytes}
use Rattle.clu_types.specs.CluType.{CluType, null_type, bool_type, int_type, char_type, string_type, any_type, stream_type, array_of, sequence_of, record_of, struct_of, oneof_of, variant_of, proc_of, iter_of, cluster_of, parameter, CluTypes, Fields, no_fields, field_and, Signals, no_signals, no_actuals}
use Rattle.clu_types.specs.Substituted.{substituted}
use Rattle.clu_types.proofs.Identity.{substituted-none}
use Rattle.clu_builtin.specs.Operation.{Operation, one, two}
use Rattle.clu_builtin.specs.Table.{Table, SelectorTable, operation, or_else, named, with_selector, of_selectors, struct_selectors, record_selectors, oneof_selectors, variant_selectors, parts_of, plain_operations, bool_operations, int_operations, char_operations, string_operations, array_operations, sequence_operations, stream_operations, struct_operations, record_operations}
use Rattle.clu_layout.specs.Objects.{Routine, module_routine, operation_of, force_of}
use Rattle.clu_layout.specs.Actions.{Primitive}
use Rattle.clu_layout.specs.Primitive.{primitive, heading_type}
use Rattle.clu_layout.proofs.FieldNames.{is_one_of, derived_of_structs, derived_of_records, struct_names, oneof_names, record_names, variant_names}
use Rattle.clu_meaning.specs.Lists.{is_among}
use Rattle.clu_meaning.specs.Programs.{RoutineDefinition, Statements, Program}
use Rattle.clu_meaning.specs.State.{Instance, of_routine}
use Rattle.clu_meaning.specs.Binding.{Running}
use Rattle.clu_meaning.specs.Schemes.{scheme, scheme_among}
use Rattle.clu_meaning.specs.Texts.{text_of, text_given}
use Rattle.clu_meaning.specs.Operations.{with_definition, of_type, defined, heading_of, headed}

none_some : {A : Type 0} {x : A} → None ≡ Some x → ⊥
none_some e = subst is_none e tt
  where
    is_none : {A : Type 0} → Option A → Type 0
    is_none None = Unit {0}
    is_none (Some x) = ⊥

some_is : {A : Type 0} {x y : A} → Some x ≡ Some y → x ≡ y
some_is {A} {x} {y} e = ap (λ o. get o x) e
  where
    get : Option A → A → A
    get (Some z) other = z
    get None other = other

abbrev pub is_cluster : CluType → Bool
is_cluster (cluster_of c given) = true
is_cluster _ = false

-- a routine that a text of a type defines
abbrev pub text_runs : Instance → CluType → RoutineDefinition → Running
text_runs i T d = record { instance = i; given = text_given T; home = None; definition = d }

-- what a row of the table says
abbrev pub IsTold : CluType → Operation → Option RoutineDefinition → Option Primitive → Type 0
IsTold T h (Some d) p = (i : Instance) → heading_of (text_runs i T d) ≡ heading_type h
IsTold T h None (Some p) = h.iter ≡ false
IsTold T h None None = ⊥

-- ---- tables of fixed names

abbrev RowsTold : CluType → Table → Type 0
RowsTold T [] = Unit {0}
RowsTold T ((name, h) ∷ rest) = IsTold T h (text_of T name) (primitive T name) × RowsTold T rest

row_by : (T : CluType) (name : List ℕ) (x : Operation) (found : Option Operation) (op : List ℕ) (h : Operation) (b : Bool) → bytes_eq name op ≡ b → IsTold T x (text_of T name) (primitive T name) →
    cond b (Some x) found ≡ Some h → (found ≡ Some h → IsTold T h (text_of T op) (primitive T op)) → IsTold T h (text_of T op) (primitive T op)
row_by T name x found op h true is c e later = subst (λ y. IsTold T y (text_of T op) (primitive T op)) (some_is e) (subst (λ n. IsTold T x (text_of T n) (primitive T n)) (same_bytes name op is) c)
row_by T name x found op h false is c e later = later e

row_told : (T : CluType) (table : Table) → RowsTold T table → (op : List ℕ) (h : Operation) → named table op ≡ Some h → IsTold T h (text_of T op) (primitive T op)
row_told T [] rows op h e = absurd (none_some e)
row_told T ((name, x) ∷ rest) rows op h e = row_by T name x (named rest op) op h (bytes_eq name op) refl rows.0 e (λ k. row_told T rest rows.1 op h k)

nulls_told : RowsTold null_type (plain_operations null_type)
nulls_told = (refl, (refl, (refl, tt)))

procs_told : (args results : CluTypes) (ss : Signals) → RowsTold (proc_of args results ss) (plain_operations (proc_of args results ss))
procs_told args results ss = (refl, (refl, (refl, tt)))

iters_told : (args results : CluTypes) (ss : Signals) → RowsTold (iter_of args results ss) (plain_operations (iter_of args results ss))
iters_told args results ss = (refl, (refl, (refl, tt)))

bools_told : RowsTold bool_type bool_operations
bools_told = (refl, (refl, (refl, (refl, (refl, (refl, tt))))))

ints_told : RowsTold int_type int_operations
ints_told = (refl, (refl, (refl, (refl, (refl, (refl, (refl, (refl, (refl, (refl, (refl, (refl, (refl, ((λ i. refl), ((λ i. refl), (refl, (refl, (refl, tt))))))))))))))))))

chars_told : RowsTold char_type char_operations
chars_told = (refl, (refl, (refl, (refl, (refl, (refl, (refl, (refl, (refl, tt)))))))))

strings_told : RowsTold string_type string_operations
strings_told = (refl, (refl, (refl, (refl, (refl, (refl, (refl, (refl, (refl, (refl, (refl, (refl, (refl, (refl, (refl, (refl, ((λ i. refl), (refl, (refl, (refl, tt))))))))))))))))))))

streams_told : RowsTold stream_type stream_operations
streams_told = (refl, (refl, (refl, (refl, (refl, (refl, (refl, (refl, (refl, tt)))))))))

arrays_told : (t : CluType) → RowsTold (array_of t) (array_operations t)
arrays_told t = (refl, (refl, (refl, (refl, (refl, (refl, (refl, (refl, (refl, (refl, (refl, (refl, (refl, (refl, (refl, (refl, (refl, (refl, (refl, (refl, ((λ i. refl), ((λ i. refl), ((λ i. refl), ((λ i. refl), ((λ i. refl), tt)))))))))))))))))))))))))

sequences_told : (t : CluType) → RowsTold (sequence_of t) (sequence_operations t)
sequences_told t = (refl, (refl, (refl, (refl, (refl, (refl, (refl, (refl, (refl, (refl, (refl, (refl, (refl, (refl, (refl, (refl, (refl, ((λ i. refl), ((λ i. refl), ((λ i. refl), ((λ i. refl), ((λ i. refl), tt))))))))))))))))))))))

-- ---- structs, records, oneofs and variants

-- what holds of an operation that is found
abbrev IfFound : (Operation → Type 0) → Option Operation → Type 0
IfFound P None = Unit {0}
IfFound P (Some h) = P h

if_found : (P : Operation → Type 0) (found : Option Operation) (h : Operation) → found ≡ Some h → IfFound P found → P h
if_found P found h e k = subst (IfFound P) e k

else_found : (P : Operation → Type 0) (a b : Option Operation) → IfFound P a → IfFound P b → IfFound P (or_else a b)
else_found P (Some x) b h k = h
else_found P None b h k = k

cond_found : (P : Operation → Type 0) (b : Bool) (h : Operation) (others : Option Operation) → P h → IfFound P others → IfFound P (cond b (Some h) others)
cond_found P true h others f g = f
cond_found P false h others f g = g

abbrev EachRow : (Operation → Type 0) → Table → Type 0
EachRow P [] = Unit {0}
EachRow P ((name, h) ∷ rest) = P h × EachRow P rest

each_named : (P : Operation → Type 0) (table : Table) (op : List ℕ) → EachRow P table → IfFound P (named table op)
each_named P [] op h = tt
each_named P ((name, x) ∷ rest) op h = cond_found P (bytes_eq name op) x (named rest op) h.0 (each_named P rest op h.1)

each_selected : (P : Operation → Type 0) (table : SelectorTable) (op : List ℕ) → ((s : List ℕ) (t : CluType) → EachRow P (with_selector s (table t))) → (fs : Fields) → IfFound P (of_selectors table fs op)
each_selected P table op h no_fields = tt
each_selected P table op h (field_and s t rest) = else_found P (named (with_selector s (table t)) op) (of_selectors table rest op) (each_named P (with_selector s (table t)) op (h s t)) (each_selected P table op h rest)

abbrev Plain : Operation → Type 0
Plain h = h.iter ≡ false

struct_plain : (fs : Fields) (op : List ℕ) → IfFound Plain (operation (struct_of fs) op)
struct_plain fs op = else_found Plain (of_selectors (struct_selectors (struct_of fs)) fs op) (named (struct_operations (struct_of fs) (parts_of fs)) op)
    (each_selected Plain (struct_selectors (struct_of fs)) op (λ s t. (refl, (refl, tt))) fs) (each_named Plain (struct_operations (struct_of fs) (parts_of fs)) op (refl, (refl, (refl, tt))))

record_plain : (fs : Fields) (op : List ℕ) → IfFound Plain (operation (record_of fs) op)
record_plain fs op = else_found Plain (of_selectors (record_selectors (record_of fs)) fs op) (named (record_operations (record_of fs) (parts_of fs)) op)
    (each_selected Plain (record_selectors (record_of fs)) op (λ s t. (refl, (refl, tt))) fs) (each_named Plain (record_operations (record_of fs) (parts_of fs)) op (refl, (refl, (refl, (refl, (refl, tt))))))

oneof_plain : (fs : Fields) (op : List ℕ) → IfFound Plain (operation (oneof_of fs) op)
oneof_plain fs op = else_found Plain (of_selectors (oneof_selectors (oneof_of fs)) fs op) (named (struct_operations (oneof_of fs) (parts_of fs)) op)
    (each_selected Plain (oneof_selectors (oneof_of fs)) op (λ s t. (refl, (refl, (refl, tt)))) fs) (each_named Plain (struct_operations (oneof_of fs) (parts_of fs)) op (refl, (refl, (refl, tt))))

variant_plain : (fs : Fields) (op : List ℕ) → IfFound Plain (operation (variant_of fs) op)
variant_plain fs op = else_found Plain (of_selectors (variant_selectors (variant_of fs)) fs op) (named (record_operations (variant_of fs) (parts_of fs)) op)
    (each_selected Plain (variant_selectors (variant_of fs)) op (λ s t. (refl, (refl, (refl, (refl, tt))))) fs) (each_named Plain (record_operations (variant_of fs) (parts_of fs)) op (refl, (refl, (refl, (refl, (refl, tt))))))

-- no operation of a selector has the name of a scheme

pub no_struct_selector : (op : List ℕ) (T : CluType) → ((s : List ℕ) (t : CluType) → named (with_selector s (struct_selectors T t)) op ≡ None) → (fs : Fields) → of_selectors (struct_selectors T) fs op ≡ None
no_struct_selector op T h no_fields = refl
no_struct_selector op T h (field_and s t rest) = ap (λ o. or_else o (of_selectors (struct_selectors T) rest op)) (h s t) ∙ no_struct_selector op T h rest

pub no_record_selector : (op : List ℕ) (T : CluType) → ((s : List ℕ) (t : CluType) → named (with_selector s (record_selectors T t)) op ≡ None) → (fs : Fields) → of_selectors (record_selectors T) fs op ≡ None
no_record_selector op T h no_fields = refl
no_record_selector op T h (field_and s t rest) = ap (λ o. or_else o (of_selectors (record_selectors T) rest op)) (h s t) ∙ no_record_selector op T h rest

pub no_oneof_selector : (op : List ℕ) (T : CluType) → ((s : List ℕ) (t : CluType) → named (with_selector s (oneof_selectors T t)) op ≡ None) → (fs : Fields) → of_selectors (oneof_selectors T) fs op ≡ None
no_oneof_selector op T h no_fields = refl
no_oneof_selector op T h (field_and s t rest) = ap (λ o. or_else o (of_selectors (oneof_selectors T) rest op)) (h s t) ∙ no_oneof_selector op T h rest

pub no_variant_selector : (op : List ℕ) (T : CluType) → ((s : List ℕ) (t : CluType) → named (with_selector s (variant_selectors T t)) op ≡ None) → (fs : Fields) → of_selectors (variant_selectors T) fs op ≡ None
no_variant_selector op T h no_fields = refl
no_variant_selector op T h (field_and s t rest) = ap (λ o. or_else o (of_selectors (variant_selectors T) rest op)) (h s t) ∙ no_variant_selector op T h rest

-- ---- schemes

-- what is asked of the table at the names of schemes
abbrev HasHeading : CluType → CluType → List ℕ → Type 0
HasHeading T heading name = (h : Operation) → operation T name ≡ Some h → heading_type h ≡ heading

module _ (T : CluType) (no_actuals_given : text_given T ≡ no_actuals) (fs : Fields) where
  scheme_compares : (i : Instance) (op : List ℕ) (body : Statements) → heading_of (text_runs i T (scheme op (T ∷ T ∷ []) bool_type fs body)) ≡ proc_of (two T T) (one bool_type) no_signals
  scheme_compares i op body = ap (λ put. proc_of (two (substituted put T) (substituted put T)) (one bool_type) no_signals) no_actuals_given ∙ ap (λ u. proc_of (two u u) (one bool_type) no_signals) (substituted-none T)

  scheme_copies : (i : Instance) (op : List ℕ) (body : Statements) → heading_of (text_runs i T (scheme op (T ∷ []) T fs body)) ≡ proc_of (one T) (one T) no_signals
  scheme_copies i op body = ap (λ put. proc_of (one (substituted put T)) (one (substituted put T)) no_signals) no_actuals_given ∙ ap (λ u. proc_of (one u) (one u) no_signals) (substituted-none T)

  scheme_told : (first second op : List ℕ) (h : Operation) (compares copies : Statements) (p : Option Primitive) →
      ((is_among (first ∷ second ∷ []) op || bytes_eq op (codes "copy")) ≡ false → IsTold T h None p) →
      HasHeading T (proc_of (two T T) (one bool_type) no_signals) first → HasHeading T (proc_of (two T T) (one bool_type) no_signals) second → HasHeading T (proc_of (one T) (one T) no_signals) (codes "copy") →
      operation T op ≡ Some h → IsTold T h (scheme_among (first ∷ second ∷ []) op T fs compares copies) p
  scheme_told first second op h compares copies p other one_is two_is copy_is e = by (bytes_eq first op) (bytes_eq second op) (bytes_eq op (codes "copy")) refl refl refl other
    where
      at : (name : List ℕ) (heading : CluType) → HasHeading T heading name → name ≡ op → heading_type h ≡ heading
      at name heading k same = k h (ap (operation T) same ∙ e)

      by : (a b c : Bool) → bytes_eq first op ≡ a → bytes_eq second op ≡ b → bytes_eq op (codes "copy") ≡ c → (((a || (b || false)) || c) ≡ false → IsTold T h None p) →
          IsTold T h (cond (a || (b || false)) (Some (scheme op (T ∷ T ∷ []) bool_type fs compares)) (cond c (Some (scheme (codes "copy") (T ∷ []) T fs copies)) None)) p
      by true b c x y z o = λ i. scheme_compares i op compares ∙ sym (at first _ one_is (same_bytes first op x))
      by false true c x y z o = λ i. scheme_compares i op compares ∙ sym (at second _ two_is (same_bytes second op y))
      by false false true x y z o = λ i. scheme_copies i (codes "copy") copies ∙ sym (at (codes "copy") _ copy_is (sym (same_bytes op (codes "copy") z)))
      by false false false x y z o = o refl

-- an operation that no scheme defines is primitive
some_primitive : (T : CluType) (h : Operation) (op : List ℕ) (derived : Bool) (found : Option Primitive) → operation T op ≡ Some h → is_some (operation T op) ≡ (is_some found || derived) → derived ≡ false → h.iter ≡ false → IsTold T h None found
some_primitive T h op derived (Some p) e k d plain = plain
some_primitive T h op derived None e k d plain = true≢false (sym (ap is_some e) ∙ k ∙ d)

heading_by : (T : CluType) (name : List ℕ) (row : Operation) (heading : CluType) → operation T name ≡ Some row → heading_type row ≡ heading → HasHeading T heading name
heading_by T name row heading e k = λ h f. ap heading_type (some_is (sym f ∙ e)) ∙ k

-- the same names in another order
derived_structs : (a b op : Bool) → ((a || (b || false)) || op) ≡ false → (c : Bool) → c ≡ op → (a || (b || (c || false))) ≡ false
derived_structs false false false e c k = ap (λ x. x || false) k
derived_structs true b op e c k = absurd (true≢false e)
derived_structs false true op e c k = absurd (true≢false e)
derived_structs false false true e c k = absurd (true≢false e)

same_test : (a b : List ℕ) → bytes_eq a b ≡ bytes_eq b a
same_test a b = by (bytes_eq a b) (bytes_eq b a) refl refl
  where
    by : (x y : Bool) → bytes_eq a b ≡ x → bytes_eq b a ≡ y → bytes_eq a b ≡ bytes_eq b a
    by true y e f = e ∙ sym (as_bytes b a (sym (same_bytes a b e)))
    by false true e f = absurd (true≢false (sym (as_bytes a b (sym (same_bytes b a f))) ∙ e))
    by false false e f = e ∙ sym f

not_derived : (first second op : List ℕ) → (is_among (first ∷ second ∷ []) op || bytes_eq op (codes "copy")) ≡ false → is_one_of (first ∷ second ∷ codes "copy" ∷ []) op ≡ false
not_derived first second op e = derived_structs (bytes_eq first op) (bytes_eq second op) (bytes_eq op (codes "copy")) e (bytes_eq (codes "copy") op) (same_test (codes "copy") op)

structs_told : (fs : Fields) (op : List ℕ) (h : Operation) → operation (struct_of fs) op ≡ Some h → IsTold (struct_of fs) h (text_of (struct_of fs) op) (primitive (struct_of fs) op)
structs_told fs op h e = scheme_told (struct_of fs) refl fs (codes "equal") (codes "similar") op h _ _ (primitive (struct_of fs) op)
    (λ other. some_primitive (struct_of fs) h op (is_one_of derived_of_structs op) (primitive (struct_of fs) op) e (struct_names fs op) (not_derived (codes "equal") (codes "similar") op other) (if_found Plain (operation (struct_of fs) op) h e (struct_plain fs op)))
    (heading_by (struct_of fs) (codes "equal") _ _ (ap (λ o. or_else o (named (struct_operations (struct_of fs) (parts_of fs)) (codes "equal"))) (no_struct_selector (codes "equal") (struct_of fs) (λ s t. refl) fs)) refl)
    (heading_by (struct_of fs) (codes "similar") _ _ (ap (λ o. or_else o (named (struct_operations (struct_of fs) (parts_of fs)) (codes "similar"))) (no_struct_selector (codes "similar") (struct_of fs) (λ s t. refl) fs)) refl)
    (heading_by (struct_of fs) (codes "copy") _ _ (ap (λ o. or_else o (named (struct_operations (struct_of fs) (parts_of fs)) (codes "copy"))) (no_struct_selector (codes "copy") (struct_of fs) (λ s t. refl) fs)) refl) e

oneofs_told : (fs : Fields) (op : List ℕ) (h : Operation) → operation (oneof_of fs) op ≡ Some h → IsTold (oneof_of fs) h (text_of (oneof_of fs) op) (primitive (oneof_of fs) op)
oneofs_told fs op h e = scheme_told (oneof_of fs) refl fs (codes "equal") (codes "similar") op h _ _ (primitive (oneof_of fs) op)
    (λ other. some_primitive (oneof_of fs) h op (is_one_of derived_of_structs op) (primitive (oneof_of fs) op) e (oneof_names fs op) (not_derived (codes "equal") (codes "similar") op other) (if_found Plain (operation (oneof_of fs) op) h e (oneof_plain fs op)))
    (heading_by (oneof_of fs) (codes "equal") _ _ (ap (λ o. or_else o (named (struct_operations (oneof_of fs) (parts_of fs)) (codes "equal"))) (no_oneof_selector (codes "equal") (oneof_of fs) (λ s t. refl) fs)) refl)
    (heading_by (oneof_of fs) (codes "similar") _ _ (ap (λ o. or_else o (named (struct_operations (oneof_of fs) (parts_of fs)) (codes "similar"))) (no_oneof_selector (codes "similar") (oneof_of fs) (λ s t. refl) fs)) refl)
    (heading_by (oneof_of fs) (codes "copy") _ _ (ap (λ o. or_else o (named (struct_operations (oneof_of fs) (parts_of fs)) (codes "copy"))) (no_oneof_selector (codes "copy") (oneof_of fs) (λ s t. refl) fs)) refl) e

records_told : (fs : Fields) (op : List ℕ) (h : Operation) → operation (record_of fs) op ≡ Some h → IsTold (record_of fs) h (text_of (record_of fs) op) (primitive (record_of fs) op)
records_told fs op h e = scheme_told (record_of fs) refl fs (codes "similar") (codes "similar1") op h _ _ (primitive (record_of fs) op)
    (λ other. some_primitive (record_of fs) h op (is_one_of derived_of_records op) (primitive (record_of fs) op) e (record_names fs op) (not_derived (codes "similar") (codes "similar1") op other) (if_found Plain (operation (record_of fs) op) h e (record_plain fs op)))
    (heading_by (record_of fs) (codes "similar") _ _ (ap (λ o. or_else o (named (record_operations (record_of fs) (parts_of fs)) (codes "similar"))) (no_record_selector (codes "similar") (record_of fs) (λ s t. refl) fs)) refl)
    (heading_by (record_of fs) (codes "similar1") _ _ (ap (λ o. or_else o (named (record_operations (record_of fs) (parts_of fs)) (codes "similar1"))) (no_record_selector (codes "similar1") (record_of fs) (λ s t. refl) fs)) refl)
    (heading_by (record_of fs) (codes "copy") _ _ (ap (λ o. or_else o (named (record_operations (record_of fs) (parts_of fs)) (codes "copy"))) (no_record_selector (codes "copy") (record_of fs) (λ s t. refl) fs)) refl) e

variants_told : (fs : Fields) (op : List ℕ) (h : Operation) → operation (variant_of fs) op ≡ Some h → IsTold (variant_of fs) h (text_of (variant_of fs) op) (primitive (variant_of fs) op)
variants_told fs op h e = scheme_told (variant_of fs) refl fs (codes "similar") (codes "similar1") op h _ _ (primitive (variant_of fs) op)
    (λ other. some_primitive (variant_of fs) h op (is_one_of derived_of_records op) (primitive (variant_of fs) op) e (variant_names fs op) (not_derived (codes "similar") (codes "similar1") op other) (if_found Plain (operation (variant_of fs) op) h e (variant_plain fs op)))
    (heading_by (variant_of fs) (codes "similar") _ _ (ap (λ o. or_else o (named (record_operations (variant_of fs) (parts_of fs)) (codes "similar"))) (no_variant_selector (codes "similar") (variant_of fs) (λ s t. refl) fs)) refl)
    (heading_by (variant_of fs) (codes "similar1") _ _ (ap (λ o. or_else o (named (record_operations (variant_of fs) (parts_of fs)) (codes "similar1"))) (no_variant_selector (codes "similar1") (variant_of fs) (λ s t. refl) fs)) refl)
    (heading_by (variant_of fs) (codes "copy") _ _ (ap (λ o. or_else o (named (record_operations (variant_of fs) (parts_of fs)) (codes "copy"))) (no_variant_selector (codes "copy") (variant_of fs) (λ s t. refl) fs)) refl) e

-- ---- each operation of each built-in type

pub told : (T : CluType) (op : List ℕ) (h : Operation) → operation T op ≡ Some h → IsTold T h (text_of T op) (primitive T op)
told null_type op h e = row_told null_type (plain_operations null_type) nulls_told op h e
told bool_type op h e = row_told bool_type bool_operations bools_told op h e
told int_type op h e = row_told int_type int_operations ints_told op h e
told char_type op h e = row_told char_type char_operations chars_told op h e
told string_type op h e = row_told string_type string_operations strings_told op h e
told any_type op h e = absurd (none_some e)
told stream_type op h e = row_told stream_type stream_operations streams_told op h e
told (array_of t) op h e = row_told (array_of t) (array_operations t) (arrays_told t) op h e
told (sequence_of t) op h e = row_told (sequence_of t) (sequence_operations t) (sequences_told t) op h e
told (record_of fs) op h e = records_told fs op h e
told (struct_of fs) op h e = structs_told fs op h e
told (oneof_of fs) op h e = oneofs_told fs op h e
told (variant_of fs) op h e = variants_told fs op h e
told (proc_of args results ss) op h e = row_told (proc_of args results ss) (plain_operations (proc_of args results ss)) (procs_told args results ss) op h e
told (iter_of args results ss) op h e = row_told (iter_of args results ss) (plain_operations (iter_of args results ss)) (iters_told args results ss) op h e
told (cluster_of c given) op h e = absurd (none_some e)
told (parameter n) op h e = absurd (none_some e)

-- ---- routines by their headings

pub of_type_is : (program : Program) (r : Routine) (T : CluType) (op : List ℕ) → is_cluster T ≡ false → of_type program r T op ≡ with_definition r (text_given T) None (text_of T op)
of_type_is program r (cluster_of c given) op e = absurd (true≢false e)
of_type_is program r T op e = refl

pub headed_is : (program : Program) (T : CluType) (op : List ℕ) → is_cluster T ≡ false → headed program (operation_of T op) ≡ option_map heading_type (operation T op)
headed_is program (cluster_of c given) op e = absurd (true≢false e)
headed_is program T op e = refl

pub record Heads (program : Program) (r : Routine) (heading : CluType) : Type 0 where
  pub callee : Running
  pub there : defined program r ≡ Some callee
  pub is : heading_of callee ≡ heading

-- a row of a built-in type with this heading
pub record Row (T : CluType) (op : List ℕ) (heading : CluType) : Type 0 where
  pub row : Operation
  pub there : operation T op ≡ Some row
  pub is : heading_type row ≡ heading

pub heads_by : (program : Program) (r : Routine) (found : Option Running) (heading : CluType) → defined program r ≡ found → option_map heading_of found ≡ Some heading → Heads program r heading
heads_by program r (Some callee) heading is e = record { callee = callee; there = is; is = some_is e }
heads_by program r None heading is e = absurd (none_some e)

pub row_of : (T : CluType) (op : List ℕ) (found : Option Operation) (heading : CluType) → operation T op ≡ found → option_map heading_type found ≡ Some heading → Row T op heading
row_of T op (Some h) heading is e = record { row = h; there = is; is = some_is e }
row_of T op None heading is e = absurd (none_some e)

abbrev is_iter_type : CluType → Bool
is_iter_type (iter_of args results ss) = true
is_iter_type _ = false

iter_row : (h : Operation) (b : Bool) → h.iter ≡ b → is_iter_type (heading_type h) ≡ b
iter_row h true e = ap (λ b. is_iter_type (cond b (iter_of h.args h.results h.signals) (proc_of h.args h.results h.signals))) e
iter_row h false e = ap (λ b. is_iter_type (cond b (iter_of h.args h.results h.signals) (proc_of h.args h.results h.signals))) e

text_heads : (program : Program) (T : CluType) (op : List ℕ) (h : Operation) (heading : CluType) → is_cluster T ≡ false → heading_type h ≡ heading → is_iter_type heading ≡ true → (found : Option RoutineDefinition) (p : Option Primitive) → text_of T op ≡ found → IsTold T h found p →
    Heads program (operation_of T op) heading
text_heads program T op h heading plain is iter (Some d) p e t = record {
  callee = text_runs (of_routine (operation_of T op)) T d;
  there = of_type_is program (operation_of T op) T op plain ∙ ap (with_definition (operation_of T op) (text_given T) None) e;
  is = t (of_routine (operation_of T op)) ∙ is;
}
text_heads program T op h heading plain is iter None (Some p) e t = absurd (false≢true (sym (iter_row h false t) ∙ ap is_iter_type is ∙ iter))
text_heads program T op h heading plain is iter None None e t = absurd t

type_heads : (program : Program) (T : CluType) (op : List ℕ) (heading : CluType) → headed program (operation_of T op) ≡ Some heading → is_iter_type heading ≡ true → (b : Bool) → is_cluster T ≡ b → Heads program (operation_of T op) heading
type_heads program (cluster_of c given) op heading e iter b is = heads_by program (operation_of (cluster_of c given) op) (defined program (operation_of (cluster_of c given) op)) heading refl e
type_heads program T op heading e iter true is = absurd (false≢true is)
type_heads program T op heading e iter false is =
    let row = row_of T op (operation T op) heading refl (sym (headed_is program T op is) ∙ e) in
    text_heads program T op row.row heading is row.is iter (text_of T op) (primitive T op) refl (told T op row.row row.there)

-- what has the heading of an iterator is defined
pub callee_of : (program : Program) (r : Routine) (args ts : CluTypes) (few : Signals) → headed program r ≡ Some (iter_of args ts few) → Heads program r (iter_of args ts few)
callee_of program (module_routine m given) args ts few e = heads_by program (module_routine m given) (defined program (module_routine m given)) (iter_of args ts few) refl e
callee_of program (operation_of T op) args ts few e = type_heads program T op (iter_of args ts few) e refl (is_cluster T) refl
callee_of program (force_of t) args ts few e = absurd (false≢true (ap is_iter_type (some_is e)))
