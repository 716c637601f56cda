-- The types in the headings of a legal type's operations are legal, and what these need is asked of the type's parts.
use Rattle.std.proofs.Common.{◌≡◌, ℕ, Bool, true, false, List, [], ◌∷◌, Option, None, Some, refl, subst, inl, inr}
use Rattle.std.specs.Prelude.{◌&&◌, bytes_eq, cond, codes}
use Rattle.std.specs.List.{list_all}
use Rattle.std.proofs.lemmas.Bool.{and_parts, and_from, or_cases, or_left, or_right}
use Rattle.clu_types.specs.CluType.{CluType, null_type, bool_type, int_type, char_type, string_type, any_type, stream_type, array_of, sequence_of, record_of, struct_of, oneof_of, variant_of, proc_of, iter_of, cluster_of, parameter, CluTypes, Fields, no_fields, field_and}
use Rattle.clu_builtin.specs.Operation.{Needed, Operation, asking, comparing, copying}
use Rattle.clu_builtin.specs.Table.{Table, SelectorTable, named, or_else, with_selector, of_selectors, parts_of, operation, plain_operations, bool_operations, int_operations, char_operations, string_operations, array_operations, sequence_operations, stream_operations, struct_operations, record_operations, struct_selectors, record_selectors, oneof_selectors, variant_selectors}
use Rattle.clu_layout.specs.SameType.{same_type}
use Rattle.clu_layout.proofs.SameTypeLaws.{types_are, type_same}
use Rattle.laws_accepted.specs.Legal.{Specified, Context, are_distinct, is_legal, types_legal, fields_legal, signals_legal}
use Rattle.laws_accepted.proofs.OfKinds.{no}
use Rattle.laws_accepted.proofs.Meeting.{some_is, none_some, has_part}

-- ---- what holds of each row

abbrev each_row : (Operation → Bool) → Table → Bool
each_row test [] = true
each_row test (row ∷ rows) = test row.1 && each_row test rows

named_row : (test : Operation → Bool) (table : Table) (op : List ℕ) (h : Operation) → each_row test table ≡ true → named table op ≡ Some h → test h ≡ true
named_row test [] op h a e = absurd (none_some e)
named_row test ((name, x) ∷ rest) op h a e =
    let p = and_parts (test x) (each_row test rest) a in
    by (bytes_eq name op) e p.0 (λ k. named_row test rest op h p.1 k)
  where
    by : (b : Bool) → cond b (Some x) (named rest op) ≡ Some h → test x ≡ true → (named rest op ≡ Some h → test h ≡ true) → test h ≡ true
    by true e first later = subst (λ y. test y ≡ true) (some_is e) first
    by false e first later = later e

selector_rows : (test : Operation → Bool) (s : List ℕ) (table : Table) → each_row test table ≡ true → each_row test (with_selector s table) ≡ true
selector_rows test s [] h = refl
selector_rows test s ((name, x) ∷ rest) h =
    let p = and_parts (test x) (each_row test rest) h in
    and_from (test x) (each_row test (with_selector s rest)) p.0 (selector_rows test s rest p.1)

either_row : (test : Operation → Bool) (a b : Option Operation) (h : Operation) → (a ≡ Some h → test h ≡ true) → (b ≡ Some h → test h ≡ true) → or_else a b ≡ Some h → test h ≡ true
either_row test (Some x) b h f g e = f e
either_row test None b h f g e = g e

-- a component of this type
abbrev IsPart : Fields → CluType → Type 0
IsPart fs t = has_part fs t ≡ true

selectors_row : (test : Operation → Bool) (table : SelectorTable) (fs : Fields) (op : List ℕ) (h : Operation) → ((t : CluType) → IsPart fs t → each_row test (table t) ≡ true) → of_selectors table fs op ≡ Some h → test h ≡ true
selectors_row test table no_fields op h a e = absurd (none_some e)
selectors_row test table (field_and s t fs) op h a e = either_row test (named (with_selector s (table t)) op) (of_selectors table fs op) h
    (named_row test (with_selector s (table t)) op h (selector_rows test s (table t) (a t (or_left (same_type t t) (has_part fs t) (type_same t)))))
    (selectors_row test table fs op h (λ u k. a u (or_right (same_type t u) (has_part fs u) k))) e

fields_row : (test : Operation → Bool) (table : SelectorTable) (own : Table) (fs : Fields) (op : List ℕ) (h : Operation) → ((t : CluType) → IsPart fs t → each_row test (table t) ≡ true) → each_row test own ≡ true →
    or_else (of_selectors table fs op) (named own op) ≡ Some h → test h ≡ true
fields_row test table own fs op h a b e = either_row test (of_selectors table fs op) (named own op) h (selectors_row test table fs op h a) (named_row test own op h b) e

-- ---- needs

abbrev pub needs_all : (CluType → Bool) → List Needed → Bool
needs_all test needs = list_all (λ n. test n.of) needs

abbrev pub needs_of : (CluType → Bool) → Operation → Bool
needs_of test h = needs_all test h.needs

abbrev pub never : CluType → Bool
never t = false

asking_all : (test : CluType → Bool) (op : List ℕ) (wanted : CluType → CluType) (fs : Fields) → ((t : CluType) → IsPart fs t → test t ≡ true) → needs_all test (asking op wanted (parts_of fs)) ≡ true
asking_all test op wanted no_fields h = refl
asking_all test op wanted (field_and s t fs) h = and_from (test t) (needs_all test (asking op wanted (parts_of fs))) (h t (or_left (same_type t t) (has_part fs t) (type_same t)))
    (asking_all test op wanted fs (λ u k. h u (or_right (same_type t u) (has_part fs u) k)))

-- a type that is asked for nothing but its own operations
pub plain_needs : (T : CluType) (op : List ℕ) (h : Operation) → named (plain_operations T) op ≡ Some h → needs_of never h ≡ true
plain_needs T op h e = named_row (needs_of never) (plain_operations T) op h refl e

pub bool_needs : (op : List ℕ) (h : Operation) → named bool_operations op ≡ Some h → needs_of never h ≡ true
bool_needs op h e = named_row (needs_of never) bool_operations op h refl e

pub int_needs : (op : List ℕ) (h : Operation) → named int_operations op ≡ Some h → needs_of never h ≡ true
int_needs op h e = named_row (needs_of never) int_operations op h refl e

pub char_needs : (op : List ℕ) (h : Operation) → named char_operations op ≡ Some h → needs_of never h ≡ true
char_needs op h e = named_row (needs_of never) char_operations op h refl e

pub string_needs : (op : List ℕ) (h : Operation) → named string_operations op ≡ Some h → needs_of never h ≡ true
string_needs op h e = named_row (needs_of never) string_operations op h refl e

pub stream_needs : (op : List ℕ) (h : Operation) → named stream_operations op ≡ Some h → needs_of never h ≡ true
stream_needs op h e = named_row (needs_of never) stream_operations op h refl e

array_rows : (test : CluType → Bool) (t : CluType) → test t ≡ true → each_row (needs_of test) (array_operations t) ≡ true
array_rows test t h = rw h refl

sequence_rows : (test : CluType → Bool) (t : CluType) → test t ≡ true → each_row (needs_of test) (sequence_operations t) ≡ true
sequence_rows test t h = rw h refl

pub array_needs : (test : CluType → Bool) (t : CluType) (op : List ℕ) (h : Operation) → test t ≡ true → operation (array_of t) op ≡ Some h → needs_of test h ≡ true
array_needs test t op h k e = named_row (needs_of test) (array_operations t) op h (array_rows test t k) e

pub sequence_needs : (test : CluType → Bool) (t : CluType) (op : List ℕ) (h : Operation) → test t ≡ true → operation (sequence_of t) op ≡ Some h → needs_of test h ≡ true
sequence_needs test t op h k e = named_row (needs_of test) (sequence_operations t) op h (sequence_rows test t k) e

module _ (test : CluType → Bool) (T : CluType) (fs : Fields) (h : (t : CluType) → IsPart fs t → test t ≡ true) where
  struct_rows : each_row (needs_of test) (struct_operations T (parts_of fs)) ≡ true
  struct_rows = rw (asking_all test (codes "equal") comparing fs h, asking_all test (codes "similar") comparing fs h, asking_all test (codes "copy") copying fs h) refl

  record_rows : each_row (needs_of test) (record_operations T (parts_of fs)) ≡ true
  record_rows = rw (asking_all test (codes "similar") comparing fs h, asking_all test (codes "equal") comparing fs h, asking_all test (codes "copy") copying fs h) refl

pub struct_needs : (test : CluType → Bool) (fs : Fields) (op : List ℕ) (x : Operation) → ((t : CluType) → IsPart fs t → test t ≡ true) → operation (struct_of fs) op ≡ Some x → needs_of test x ≡ true
struct_needs test fs op x h e = fields_row (needs_of test) (struct_selectors (struct_of fs)) (struct_operations (struct_of fs) (parts_of fs)) fs op x (λ t k. refl) (struct_rows test (struct_of fs) fs h) e

pub record_needs : (test : CluType → Bool) (fs : Fields) (op : List ℕ) (x : Operation) → ((t : CluType) → IsPart fs t → test t ≡ true) → operation (record_of fs) op ≡ Some x → needs_of test x ≡ true
record_needs test fs op x h e = fields_row (needs_of test) (record_selectors (record_of fs)) (record_operations (record_of fs) (parts_of fs)) fs op x (λ t k. refl) (record_rows test (record_of fs) fs h) e

pub oneof_needs : (test : CluType → Bool) (fs : Fields) (op : List ℕ) (x : Operation) → ((t : CluType) → IsPart fs t → test t ≡ true) → operation (oneof_of fs) op ≡ Some x → needs_of test x ≡ true
oneof_needs test fs op x h e = fields_row (needs_of test) (oneof_selectors (oneof_of fs)) (struct_operations (oneof_of fs) (parts_of fs)) fs op x (λ t k. refl) (struct_rows test (oneof_of fs) fs h) e

pub variant_needs : (test : CluType → Bool) (fs : Fields) (op : List ℕ) (x : Operation) → ((t : CluType) → IsPart fs t → test t ≡ true) → operation (variant_of fs) op ≡ Some x → needs_of test x ≡ true
variant_needs test fs op x h e = fields_row (needs_of test) (variant_selectors (variant_of fs)) (record_operations (variant_of fs) (parts_of fs)) fs op x (λ t k. refl) (record_rows test (variant_of fs) fs h) e

-- what is asked of no type is asked of legal ones
never_all : (test : CluType → Bool) (needs : List Needed) → needs_all never needs ≡ true → needs_all test needs ≡ true
never_all test [] h = refl
never_all test (n ∷ ns) h = no h

-- ---- legal types in headings

module _ (context : Context) (specified : Specified) where
  abbrev pub heading_legal : Operation → Bool
  heading_legal h = types_legal context specified h.args && types_legal context specified h.results && signals_legal context specified h.signals

  pub part_legal : (fs : Fields) (t : CluType) → fields_legal context specified fs ≡ true → IsPart fs t → is_legal context specified t ≡ true
  part_legal no_fields t l h = no h
  part_legal (field_and s u fs) t l h =
      let p = and_parts (is_legal context specified u) (fields_legal context specified fs) l in
      elim (or_cases (same_type u t) (has_part fs t) h) [
        | inl e ↦ subst (λ v. is_legal context specified v ≡ true) (types_are u t e) p.0
        | inr k ↦ part_legal fs t p.1 k
      ]

  plain_headings : (T : CluType) → is_legal context specified T ≡ true → each_row heading_legal (plain_operations T) ≡ true
  plain_headings T h = rw h refl

  array_headings : (t : CluType) → is_legal context specified t ≡ true → each_row heading_legal (array_operations t) ≡ true
  array_headings t h = rw h refl

  sequence_headings : (t : CluType) → is_legal context specified t ≡ true → each_row heading_legal (sequence_operations t) ≡ true
  sequence_headings t h = rw h refl

  struct_headings : (T : CluType) (parts : CluTypes) → is_legal context specified T ≡ true → each_row heading_legal (struct_operations T parts) ≡ true
  struct_headings T parts h = rw h refl

  record_headings : (T : CluType) (parts : CluTypes) → is_legal context specified T ≡ true → each_row heading_legal (record_operations T parts) ≡ true
  record_headings T parts h = rw h refl

  module _ (T t : CluType) (h : is_legal context specified T ≡ true) (k : is_legal context specified t ≡ true) where
    of_struct : each_row heading_legal (struct_selectors T t) ≡ true
    of_struct = rw (h, k) refl

    of_record : each_row heading_legal (record_selectors T t) ≡ true
    of_record = rw (h, k) refl

    of_oneof : each_row heading_legal (oneof_selectors T t) ≡ true
    of_oneof = rw (h, k) refl

    of_variant : each_row heading_legal (variant_selectors T t) ≡ true
    of_variant = rw (h, k) refl

  pub operation_legal : (T : CluType) (op : List ℕ) (h : Operation) → is_legal context specified T ≡ true → operation T op ≡ Some h → heading_legal h ≡ true
  operation_legal null_type op h l e = named_row heading_legal (plain_operations null_type) op h refl e
  operation_legal bool_type op h l e = named_row heading_legal bool_operations op h refl e
  operation_legal int_type op h l e = named_row heading_legal int_operations op h refl e
  operation_legal char_type op h l e = named_row heading_legal char_operations op h refl e
  operation_legal string_type op h l e = named_row heading_legal string_operations op h refl e
  operation_legal any_type op h l e = absurd (none_some e)
  operation_legal stream_type op h l e = named_row heading_legal stream_operations op h refl e
  operation_legal (array_of t) op h l e = named_row heading_legal (array_operations t) op h (array_headings t l) e
  operation_legal (sequence_of t) op h l e = named_row heading_legal (sequence_operations t) op h (sequence_headings t l) e
  operation_legal (record_of fs) op h l e = fields_row heading_legal (record_selectors (record_of fs)) (record_operations (record_of fs) (parts_of fs)) fs op h
      (λ t k. of_record (record_of fs) t l (part_legal fs t (and_parts (are_distinct fs) (fields_legal context specified fs) l).1 k)) (record_headings (record_of fs) (parts_of fs) l) e
  operation_legal (struct_of fs) op h l e = fields_row heading_legal (struct_selectors (struct_of fs)) (struct_operations (struct_of fs) (parts_of fs)) fs op h
      (λ t k. of_struct (struct_of fs) t l (part_legal fs t (and_parts (are_distinct fs) (fields_legal context specified fs) l).1 k)) (struct_headings (struct_of fs) (parts_of fs) l) e
  operation_legal (oneof_of fs) op h l e = fields_row heading_legal (oneof_selectors (oneof_of fs)) (struct_operations (oneof_of fs) (parts_of fs)) fs op h
      (λ t k. of_oneof (oneof_of fs) t l (part_legal fs t (and_parts (are_distinct fs) (fields_legal context specified fs) l).1 k)) (struct_headings (oneof_of fs) (parts_of fs) l) e
  operation_legal (variant_of fs) op h l e = fields_row heading_legal (variant_selectors (variant_of fs)) (record_operations (variant_of fs) (parts_of fs)) fs op h
      (λ t k. of_variant (variant_of fs) t l (part_legal fs t (and_parts (are_distinct fs) (fields_legal context specified fs) l).1 k)) (record_headings (variant_of fs) (parts_of fs) l) e
  operation_legal (proc_of args results ss) op h l e = named_row heading_legal (plain_operations (proc_of args results ss)) op h (plain_headings (proc_of args results ss) l) e
  operation_legal (iter_of args results ss) op h l e = named_row heading_legal (plain_operations (iter_of args results ss)) op h (plain_headings (iter_of args results ss) l) e
  operation_legal (cluster_of c given) op h l e = absurd (none_some e)
  operation_legal (parameter n) op h l e = absurd (none_some e)

  -- the parts that are asked are legal
  pub needs_legal : (T : CluType) (op : List ℕ) (h : Operation) → is_legal context specified T ≡ true → operation T op ≡ Some h → needs_all (is_legal context specified) h.needs ≡ true
  needs_legal null_type op h l e = never_all (is_legal context specified) h.needs (plain_needs null_type op h e)
  needs_legal bool_type op h l e = never_all (is_legal context specified) h.needs (bool_needs op h e)
  needs_legal int_type op h l e = never_all (is_legal context specified) h.needs (int_needs op h e)
  needs_legal char_type op h l e = never_all (is_legal context specified) h.needs (char_needs op h e)
  needs_legal string_type op h l e = never_all (is_legal context specified) h.needs (string_needs op h e)
  needs_legal any_type op h l e = absurd (none_some e)
  needs_legal stream_type op h l e = never_all (is_legal context specified) h.needs (stream_needs op h e)
  needs_legal (array_of t) op h l e = array_needs (is_legal context specified) t op h l e
  needs_legal (sequence_of t) op h l e = sequence_needs (is_legal context specified) t op h l e
  needs_legal (record_of fs) op h l e = record_needs (is_legal context specified) fs op h (λ t k. part_legal fs t (and_parts (are_distinct fs) (fields_legal context specified fs) l).1 k) e
  needs_legal (struct_of fs) op h l e = struct_needs (is_legal context specified) fs op h (λ t k. part_legal fs t (and_parts (are_distinct fs) (fields_legal context specified fs) l).1 k) e
  needs_legal (oneof_of fs) op h l e = oneof_needs (is_legal context specified) fs op h (λ t k. part_legal fs t (and_parts (are_distinct fs) (fields_legal context specified fs) l).1 k) e
  needs_legal (variant_of fs) op h l e = variant_needs (is_legal context specified) fs op h (λ t k. part_legal fs t (and_parts (are_distinct fs) (fields_legal context specified fs) l).1 k) e
  needs_legal (proc_of args results ss) op h l e = never_all (is_legal context specified) h.needs (plain_needs (proc_of args results ss) op h e)
  needs_legal (iter_of args results ss) op h l e = never_all (is_legal context specified) h.needs (plain_needs (iter_of args results ss) op h e)
  needs_legal (cluster_of c xs) op h l e = absurd (none_some e)
  needs_legal (parameter k) op h l e = absurd (none_some e)
