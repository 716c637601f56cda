-- Inclusion and built-in operations, with actuals put in.
use Rattle.std.proofs.Common.{◌≡◌, refl, ap, ap₂, ◌∙◌, inl, inr}
use Rattle.std.proofs.lemmas.Bool.{false≢true, true≢false, and_parts, and_from}
use Rattle.std.specs.Prelude.{ℕ, Bool, true, false, List, [], ◌∷◌, ◌++◌, map, Option, Some, None, bytes_eq, cond, codes}
use Rattle.std.specs.Option.{option_map}
use Rattle.clu_types.specs.CluType.{CluType, null_type, bool_type, int_type, char_type, string_type, any_type, stream_type, array_of, sequence_of, record_of, struct_of, oneof_of, variant_of, proc_of, iter_of, cluster_of, parameter, CluTypes, no_types, type_and, Fields, no_fields, field_and, Signals, no_signals, signal_and, Actuals}
use Rattle.clu_types.specs.Substituted.{substituted, types_substituted, fields_substituted, signals_substituted}
use Rattle.clu_types.specs.Included.{Included, IsNarrower, IsNarrowerProc, IsNarrowerIter, HasSignal, AreAmong}
use Rattle.clu_builtin.specs.Operation.{Needed, Operation, asking, comparing, copying}
use Rattle.clu_builtin.specs.Table.{Table, SelectorTable, named, or_else, with_selector, of_selectors, parts_of, operation, plain_operations, bool_operations, int_operations, char_operations, string_operations, array_operations, sequence_operations, stream_operations, struct_operations, record_operations, struct_selectors, record_selectors, oneof_selectors, variant_selectors}
use Rattle.clu_layout.specs.SameType.{fits, all_fit}
use Rattle.clu_layout.proofs.SameTypeLaws.{fits_included, included_fits}

abbrev pub is_parameter : CluType → Bool
is_parameter (parameter k) = true
is_parameter _ = false

module _ (given : Actuals) where
  -- ---- inclusion

  has_put : (name : List ℕ) (os : CluTypes) (many : Signals) → HasSignal name os many → HasSignal name (types_substituted given os) (signals_substituted given many)
  has_put name os no_signals h = absurd h
  has_put name os (signal_and n us rest) (inl e) = inl (e.0, ap (types_substituted given) e.1)
  has_put name os (signal_and n us rest) (inr h) = inr (has_put name os rest h)

  among_put : (few many : Signals) → AreAmong few many → AreAmong (signals_substituted given few) (signals_substituted given many)
  among_put no_signals many h = tt
  among_put (signal_and n us rest) many h = (has_put n us many h.0, among_put rest many h.1)

  proc_put : (args results : CluTypes) (many : Signals) (a : CluType) → IsNarrowerProc args results many a →
      IsNarrowerProc (types_substituted given args) (types_substituted given results) (signals_substituted given many) (substituted given a)
  proc_put args results many (proc_of args' results' few) h = (ap (types_substituted given) h.0, ap (types_substituted given) h.1, among_put few many h.2)
  proc_put args results many _ h = absurd h

  iter_put : (args results : CluTypes) (many : Signals) (a : CluType) → IsNarrowerIter args results many a →
      IsNarrowerIter (types_substituted given args) (types_substituted given results) (signals_substituted given many) (substituted given a)
  iter_put args results many (iter_of args' results' few) h = (ap (types_substituted given) h.0, ap (types_substituted given) h.1, among_put few many h.2)
  iter_put args results many _ h = absurd h

  narrower_put : (a b : CluType) → IsNarrower a b → IsNarrower (substituted given a) (substituted given b)
  narrower_put a any_type h = tt
  narrower_put a (proc_of args results many) h = proc_put args results many a h
  narrower_put a (iter_of args results many) h = iter_put args results many a h
  narrower_put a _ h = absurd h

  included_put : (a b : CluType) → Included a b → Included (substituted given a) (substituted given b)
  included_put a b (inl e) = inl (ap (substituted given) e)
  included_put a b (inr h) = inr (narrower_put a b h)

  pub fits_put : (a b : CluType) → fits a b ≡ true → fits (substituted given a) (substituted given b) ≡ true
  fits_put a b h = included_fits (substituted given a) (substituted given b) (included_put a b (fits_included a b h))

  pub all_put : (ts bs : CluTypes) → all_fit ts bs ≡ true → all_fit (types_substituted given ts) (types_substituted given bs) ≡ true
  all_put no_types no_types h = refl
  all_put (type_and a ts) (type_and b bs) h =
      let parts = and_parts (fits a b) (all_fit ts bs) h in
      and_from (fits (substituted given a) (substituted given b)) (all_fit (types_substituted given ts) (types_substituted given bs)) (fits_put a b parts.0) (all_put ts bs parts.1)
  all_put no_types (type_and b bs) h = absurd (false≢true h)
  all_put (type_and a ts) no_types h = absurd (false≢true h)

  -- ---- built-in operations

  abbrev pub needed_put : Needed → Needed
  needed_put n = record { of = substituted given n.of; op = n.op; wanted = substituted given n.wanted }

  abbrev pub operation_put : Operation → Operation
  operation_put op = record { iter = op.iter; args = types_substituted given op.args; results = types_substituted given op.results; signals = signals_substituted given op.signals; needs = map needed_put op.needs }

  abbrev row_put : List ℕ × Operation → List ℕ × Operation
  row_put row = (row.0, operation_put row.1)

  chosen_put : (b : Bool) (x : Operation) (found other : Option Operation) → found ≡ option_map operation_put other →
      cond b (Some (operation_put x)) found ≡ option_map operation_put (cond b (Some x) other)
  chosen_put true x found other e = refl
  chosen_put false x found other e = e

  named_put : (table : Table) (op : List ℕ) → named (map row_put table) op ≡ option_map operation_put (named table op)
  named_put [] op = refl
  named_put ((name, x) ∷ rest) op = chosen_put (bytes_eq name op) x (named (map row_put rest) op) (named rest op) (named_put rest op)

  else_put : (a b a' b' : Option Operation) → a' ≡ option_map operation_put a → b' ≡ option_map operation_put b → or_else a' b' ≡ option_map operation_put (or_else a b)
  else_put (Some x) b a' b' e f = ap (λ o. or_else o b') e
  else_put None b a' b' e f = ap (λ o. or_else o b') e ∙ f

  array_put : (t : CluType) → array_operations (substituted given t) ≡ map row_put (array_operations t)
  array_put t = refl

  sequence_put : (t : CluType) → sequence_operations (substituted given t) ≡ map row_put (sequence_operations t)
  sequence_put t = refl

  selector_put : (s : List ℕ) (table : Table) → with_selector s (map row_put table) ≡ map row_put (with_selector s table)
  selector_put s [] = refl
  selector_put s ((name, x) ∷ rest) = ap (λ t. (name ++ s, operation_put x) ∷ t) (selector_put s rest)

  selectors_put : (table table' : SelectorTable) (fs : Fields) (op : List ℕ) → ((t : CluType) → table' (substituted given t) ≡ map row_put (table t)) →
      of_selectors table' (fields_substituted given fs) op ≡ option_map operation_put (of_selectors table fs op)
  selectors_put table table' no_fields op h = refl
  selectors_put table table' (field_and s t rest) op h = else_put (named (with_selector s (table t)) op) (of_selectors table rest op)
      (named (with_selector s (table' (substituted given t))) op) (of_selectors table' (fields_substituted given rest) op)
      (ap (λ x. named (with_selector s x) op) (h t) ∙ ap (λ x. named x op) (selector_put s (table t)) ∙ named_put (with_selector s (table t)) op)
      (selectors_put table table' rest op h)

  parts_put : (fs : Fields) → parts_of (fields_substituted given fs) ≡ types_substituted given (parts_of fs)
  parts_put no_fields = refl
  parts_put (field_and s t rest) = ap (type_and (substituted given t)) (parts_put rest)

  asking_put : (op : List ℕ) (wanted : CluType → CluType) (parts : CluTypes) → ((t : CluType) → wanted (substituted given t) ≡ substituted given (wanted t)) →
      asking op wanted (types_substituted given parts) ≡ map needed_put (asking op wanted parts)
  asking_put op wanted no_types h = refl
  asking_put op wanted (type_and t parts) h =
      ap₂ (λ w rest. record { of = substituted given t; op = op; wanted = w } ∷ rest) (h t) (asking_put op wanted parts h)

  equal_asked : (op : List ℕ) (parts : CluTypes) → asking op comparing (types_substituted given parts) ≡ map needed_put (asking op comparing parts)
  equal_asked op parts = asking_put op comparing parts (λ t. refl)

  copy_asked : (op : List ℕ) (parts : CluTypes) → asking op copying (types_substituted given parts) ≡ map needed_put (asking op copying parts)
  copy_asked op parts = asking_put op copying parts (λ t. refl)

  struct_put : (T : CluType) (parts : CluTypes) → struct_operations (substituted given T) (types_substituted given parts) ≡ map row_put (struct_operations T parts)
  struct_put T parts = rw (equal_asked (codes "equal") parts, equal_asked (codes "similar") parts, copy_asked (codes "copy") parts) refl

  record_put : (T : CluType) (parts : CluTypes) → record_operations (substituted given T) (types_substituted given parts) ≡ map row_put (record_operations T parts)
  record_put T parts = rw (equal_asked (codes "equal") parts, equal_asked (codes "similar") parts, copy_asked (codes "copy") parts) refl

  fields_put : (table table' : SelectorTable) (own own' : CluTypes → Table) (fs : Fields) (op : List ℕ) → ((t : CluType) → table' (substituted given t) ≡ map row_put (table t)) →
      ((parts : CluTypes) → own' (types_substituted given parts) ≡ map row_put (own parts)) →
      or_else (of_selectors table' (fields_substituted given fs) op) (named (own' (parts_of (fields_substituted given fs))) op)
      ≡ option_map operation_put (or_else (of_selectors table fs op) (named (own (parts_of fs)) op))
  fields_put table table' own own' fs op h k = else_put (of_selectors table fs op) (named (own (parts_of fs)) op) _ _ (selectors_put table table' fs op h)
      (ap (λ parts. named (own' parts) op) (parts_put fs) ∙ ap (λ x. named x op) (k (parts_of fs)) ∙ named_put (own (parts_of fs)) op)

  -- the operation of a type is that of the type with the actuals put in, and so is what it asks
  pub operation_of_put : (t : CluType) (op : List ℕ) → is_parameter t ≡ false → operation (substituted given t) op ≡ option_map operation_put (operation t op)
  operation_of_put null_type op e = named_put (plain_operations null_type) op
  operation_of_put bool_type op e = named_put bool_operations op
  operation_of_put int_type op e = named_put int_operations op
  operation_of_put char_type op e = named_put char_operations op
  operation_of_put string_type op e = named_put string_operations op
  operation_of_put any_type op e = refl
  operation_of_put stream_type op e = named_put stream_operations op
  operation_of_put (array_of t) op e = named_put (array_operations t) op
  operation_of_put (sequence_of t) op e = named_put (sequence_operations t) op
  operation_of_put (record_of fs) op e = fields_put (record_selectors (record_of fs)) (record_selectors (substituted given (record_of fs))) (record_operations (record_of fs)) (record_operations (substituted given (record_of fs))) fs op (λ t. refl) (record_put (record_of fs))
  operation_of_put (struct_of fs) op e = fields_put (struct_selectors (struct_of fs)) (struct_selectors (substituted given (struct_of fs))) (struct_operations (struct_of fs)) (struct_operations (substituted given (struct_of fs))) fs op (λ t. refl) (struct_put (struct_of fs))
  operation_of_put (oneof_of fs) op e = fields_put (oneof_selectors (oneof_of fs)) (oneof_selectors (substituted given (oneof_of fs))) (struct_operations (oneof_of fs)) (struct_operations (substituted given (oneof_of fs))) fs op (λ t. refl) (struct_put (oneof_of fs))
  operation_of_put (variant_of fs) op e = fields_put (variant_selectors (variant_of fs)) (variant_selectors (substituted given (variant_of fs))) (record_operations (variant_of fs)) (record_operations (substituted given (variant_of fs))) fs op (λ t. refl) (record_put (variant_of fs))
  operation_of_put (proc_of ts rs ss) op e = named_put (plain_operations (proc_of ts rs ss)) op
  operation_of_put (iter_of ts rs ss) op e = named_put (plain_operations (iter_of ts rs ss)) op
  operation_of_put (cluster_of c inner) op e = refl
  operation_of_put (parameter k) op e = absurd (true≢false e)
