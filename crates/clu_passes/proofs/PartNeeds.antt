-- What a built-in operation needs, it needs of the types of the parts.
use Rattle.std.proofs.Common.{◌≡◌, ◌⊎◌, inl, inr, ℕ, zero, suc, ◌<◌, Bool, true, false, if◌then◌else◌, List, [], ◌∷◌, Contains, length, get_or, Option, Some, None, refl, subst, arith, bytes_eq}
use Rattle.std.proofs.lemmas.Option.{none-some, same_Some}
use Rattle.clu_types.specs.CluType.{CluType, null_type, bool_type, int_type, char_type, string_type, any_type, stream_type, array_of, sequence_of, record_of, struct_of, oneof_of, variant_of, proc_of, iter_of, cluster_of, parameter, CluTypes, no_types, type_and, Fields, no_fields, field_and}
use Rattle.clu_builtin.specs.Operation.{Needed, Operation, asking, comparing, copying}
use Rattle.clu_builtin.specs.Table.{Table, SelectorTable, plain_operations, bool_operations, int_operations, char_operations, string_operations, array_operations, sequence_operations, stream_operations, struct_operations, record_operations, struct_selectors, record_selectors, oneof_selectors, variant_selectors, named, or_else, with_selector, of_selectors, parts_of, operation}
use Rattle.clu_passes.specs.Met.{IsComponent, IsPartOf}

-- ---- the rows of a table need what they need of such types alone

module _ (P : CluType → Type 0) where
  abbrev Needs : List Needed → Type 0
  Needs needs = (n : Needed) → Contains needs n → P n.of

  abbrev Rows : Table → Type 0
  Rows [] = Unit {0}
  Rows (row ∷ rest) = Needs row.1.needs × Rows rest

  nothing : Needs []
  nothing n h = absurd (omega (arith, h.1))

  head_or_tail : (x : Needed) (xs : List Needed) (m : Needed) → Contains (x ∷ xs) m → (x ≡ m) ⊎ Contains xs m
  head_or_tail x xs m h = by h.0 h.1 h.2
    where
      by : (k : ℕ) → k < length (x ∷ xs) → get_or (x ∷ xs) k m ≡ m → (x ≡ m) ⊎ Contains xs m
      by zero lt is = inl is
      by (suc k) lt is = inr (k, omega (arith, lt), is)

  abbrev All : CluTypes → Type 0
  All no_types = Unit {0}
  All (type_and t types) = P t × All types

  asked : (op : List ℕ) (wanted : CluType → CluType) (parts : CluTypes) → All parts → Needs (asking op wanted parts)
  asked op wanted no_types all n h = nothing n h
  asked op wanted (type_and t parts) all n h = elim (head_or_tail (record { of = t; op = op; wanted = wanted t }) (asking op wanted parts) n h) [
    | inl is ↦ subst (λ (m : Needed). P m.of) is all.0
    | inr there ↦ asked op wanted parts all.1 n there
  ]

  in_table : (table : Table) → Rows table → (name : List ℕ) (o : Operation) → named table name ≡ Some o → Needs o.needs
  in_table [] rows name o e = absurd (none-some o e)
  in_table ((own, operation) ∷ rest) rows name o e = by (bytes_eq own name) e (in_table rest rows.1 name o)
    where
      by : (b : Bool) → (if b then Some operation else named rest name) ≡ Some o → (named rest name ≡ Some o → Needs o.needs) → Needs o.needs
      by true e later = subst (λ (x : Operation). Needs x.needs) (same_Some operation o e) rows.0
      by false e later = later e

  -- of selectors
  with_name : (selector : List ℕ) (table : Table) → Rows table → Rows (with_selector selector table)
  with_name selector [] rows = tt
  with_name selector ((own, operation) ∷ rest) rows = (rows.0, with_name selector rest rows.1)

  in_either : (a b : Option Operation) (o : Operation) → or_else a b ≡ Some o → (a ≡ Some o → Needs o.needs) → (b ≡ Some o → Needs o.needs) → Needs o.needs
  in_either None b o e first second = second e
  in_either (Some x) b o e first second = first e

  in_selectors : (table : SelectorTable) → ((t : CluType) → Rows (table t)) → (fields : Fields) (name : List ℕ) (o : Operation) → of_selectors table fields name ≡ Some o → Needs o.needs
  in_selectors table rows no_fields name o e = absurd (none-some o e)
  in_selectors table rows (field_and selector t fields) name o e =
      in_either (named (with_selector selector (table t)) name) (of_selectors table fields name) o e
      (in_table (with_selector selector (table t)) (with_name selector (table t) (rows t)) name o)
      (in_selectors table rows fields name o)

  plain_rows : (T : CluType) → Rows (plain_operations T)
  plain_rows T = (nothing, (nothing, (nothing, tt)))

  bool_rows : Rows bool_operations
  bool_rows = (nothing, (nothing, (nothing, (nothing, (nothing, (nothing, tt))))))

  int_rows : Rows int_operations
  int_rows = (nothing, (nothing, (nothing, (nothing, (nothing, (nothing, (nothing, (nothing, (nothing, (nothing, (nothing, (nothing, (nothing, (nothing, (nothing, (nothing, (nothing, (nothing, tt))))))))))))))))))

  char_rows : Rows char_operations
  char_rows = (nothing, (nothing, (nothing, (nothing, (nothing, (nothing, (nothing, (nothing, (nothing, tt)))))))))

  string_rows : Rows string_operations
  string_rows = (nothing, (nothing, (nothing, (nothing, (nothing, (nothing, (nothing, (nothing, (nothing, (nothing, (nothing, (nothing, (nothing, (nothing, (nothing, (nothing, (nothing, (nothing, (nothing, (nothing, tt))))))))))))))))))))

  stream_rows : Rows stream_operations
  stream_rows = (nothing, (nothing, (nothing, (nothing, (nothing, (nothing, (nothing, (nothing, (nothing, tt)))))))))

  array_rows : (t : CluType) → P t → Rows (array_operations t)
  array_rows t its =
      let parts : All (type_and t no_types) = (its, tt) in
      (nothing, (nothing, (nothing, (nothing, (nothing, (nothing, (nothing, (nothing, (nothing, (nothing, (nothing, (nothing, (nothing, (nothing, (nothing, (nothing, (nothing, (nothing, (nothing, (nothing, (asked _ comparing (type_and t no_types) parts, (asked _ comparing (type_and t no_types) parts, (asked _ copying (type_and t no_types) parts, (nothing, (nothing, tt)))))))))))))))))))))))))

  sequence_rows : (t : CluType) → P t → Rows (sequence_operations t)
  sequence_rows t its =
      let parts : All (type_and t no_types) = (its, tt) in
      (nothing, (nothing, (nothing, (nothing, (nothing, (nothing, (nothing, (nothing, (nothing, (nothing, (nothing, (nothing, (nothing, (nothing, (nothing, (nothing, (nothing, (asked _ comparing (type_and t no_types) parts, (asked _ comparing (type_and t no_types) parts, (asked _ copying (type_and t no_types) parts, (nothing, (nothing, tt))))))))))))))))))))))

  struct_rows : (T : CluType) (parts : CluTypes) → All parts → Rows (struct_operations T parts)
  struct_rows T parts all = (asked _ _ parts all, (asked _ _ parts all, (asked _ _ parts all, tt)))

  record_rows : (T : CluType) (parts : CluTypes) → All parts → Rows (record_operations T parts)
  record_rows T parts all = (nothing, (asked _ _ parts all, (asked _ _ parts all, (asked _ _ parts all, (nothing, tt)))))

-- ---- of a type with components

each : (P : CluType → Type 0) (fields : Fields) → ((of : CluType) → IsComponent fields of → P of) → All P (parts_of fields)
each P no_fields all = tt
each P (field_and selector t fields) all = (all t (inl refl), each P fields (λ of h. all of (inr h)))

components : (fields : Fields) → All (IsComponent fields) (parts_of fields)
components fields = each (IsComponent fields) fields (λ of h. h)

-- ---- each type

pub needs_of_parts : (t : CluType) (name : List ℕ) (o : Operation) → operation t name ≡ Some o → (n : Needed) → Contains o.needs n → IsPartOf t n.of
needs_of_parts null_type name o e = in_table (IsPartOf null_type) (plain_operations null_type) (plain_rows (IsPartOf null_type) null_type) name o e
needs_of_parts bool_type name o e = in_table (IsPartOf bool_type) bool_operations (bool_rows (IsPartOf bool_type)) name o e
needs_of_parts int_type name o e = in_table (IsPartOf int_type) int_operations (int_rows (IsPartOf int_type)) name o e
needs_of_parts char_type name o e = in_table (IsPartOf char_type) char_operations (char_rows (IsPartOf char_type)) name o e
needs_of_parts string_type name o e = in_table (IsPartOf string_type) string_operations (string_rows (IsPartOf string_type)) name o e
needs_of_parts any_type name o e = absurd (none-some o e)
needs_of_parts stream_type name o e = in_table (IsPartOf stream_type) stream_operations (stream_rows (IsPartOf stream_type)) name o e
needs_of_parts (array_of t) name o e = in_table (IsPartOf (array_of t)) (array_operations t) (array_rows (IsPartOf (array_of t)) t refl) name o e
needs_of_parts (sequence_of t) name o e = in_table (IsPartOf (sequence_of t)) (sequence_operations t) (sequence_rows (IsPartOf (sequence_of t)) t refl) name o e
needs_of_parts (record_of fs) name o e =
    in_either (IsPartOf (record_of fs)) (of_selectors (record_selectors (record_of fs)) fs name) (named (record_operations (record_of fs) (parts_of fs)) name) o e
    (in_selectors (IsPartOf (record_of fs)) (record_selectors (record_of fs)) (λ t. (nothing (IsPartOf (record_of fs)), (nothing (IsPartOf (record_of fs)), tt))) fs name o)
    (in_table (IsPartOf (record_of fs)) (record_operations (record_of fs) (parts_of fs)) (record_rows (IsPartOf (record_of fs)) (record_of fs) (parts_of fs) (components fs)) name o)
needs_of_parts (struct_of fs) name o e =
    in_either (IsPartOf (struct_of fs)) (of_selectors (struct_selectors (struct_of fs)) fs name) (named (struct_operations (struct_of fs) (parts_of fs)) name) o e
    (in_selectors (IsPartOf (struct_of fs)) (struct_selectors (struct_of fs)) (λ t. (nothing (IsPartOf (struct_of fs)), (nothing (IsPartOf (struct_of fs)), tt))) fs name o)
    (in_table (IsPartOf (struct_of fs)) (struct_operations (struct_of fs) (parts_of fs)) (struct_rows (IsPartOf (struct_of fs)) (struct_of fs) (parts_of fs) (components fs)) name o)
needs_of_parts (oneof_of fs) name o e =
    in_either (IsPartOf (oneof_of fs)) (of_selectors (oneof_selectors (oneof_of fs)) fs name) (named (struct_operations (oneof_of fs) (parts_of fs)) name) o e
    (in_selectors (IsPartOf (oneof_of fs)) (oneof_selectors (oneof_of fs)) (λ t. (nothing (IsPartOf (oneof_of fs)), (nothing (IsPartOf (oneof_of fs)), (nothing (IsPartOf (oneof_of fs)), tt)))) fs name o)
    (in_table (IsPartOf (oneof_of fs)) (struct_operations (oneof_of fs) (parts_of fs)) (struct_rows (IsPartOf (oneof_of fs)) (oneof_of fs) (parts_of fs) (components fs)) name o)
needs_of_parts (variant_of fs) name o e =
    in_either (IsPartOf (variant_of fs)) (of_selectors (variant_selectors (variant_of fs)) fs name) (named (record_operations (variant_of fs) (parts_of fs)) name) o e
    (in_selectors (IsPartOf (variant_of fs)) (variant_selectors (variant_of fs)) (λ t. (nothing (IsPartOf (variant_of fs)), (nothing (IsPartOf (variant_of fs)), (nothing (IsPartOf (variant_of fs)), (nothing (IsPartOf (variant_of fs)), tt))))) fs name o)
    (in_table (IsPartOf (variant_of fs)) (record_operations (variant_of fs) (parts_of fs)) (record_rows (IsPartOf (variant_of fs)) (variant_of fs) (parts_of fs) (components fs)) name o)
needs_of_parts (proc_of args results signals) name o e =
    in_table (IsPartOf (proc_of args results signals)) (plain_operations (proc_of args results signals)) (plain_rows (IsPartOf (proc_of args results signals)) (proc_of args results signals)) name o e
needs_of_parts (iter_of args results signals) name o e =
    in_table (IsPartOf (iter_of args results signals)) (plain_operations (iter_of args results signals)) (plain_rows (IsPartOf (iter_of args results signals)) (iter_of args results signals)) name o e
needs_of_parts (cluster_of c given) name o e = absurd (none-some o e)
needs_of_parts (parameter n) name o e = absurd (none-some o e)
