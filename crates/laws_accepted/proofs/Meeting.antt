-- What is met stays so where less is wanted, and when actuals are put in.
use Rattle.std.proofs.Common.{◌≡◌, ℕ, zero, suc, Bool, true, false, List, [], ◌∷◌, map, Option, None, Some, refl, sym, ap, subst, inl, inr, ◌⊎◌}
use Rattle.std.specs.Prelude.{◌||◌, ◌-◌, bytes_eq, if◌then◌else◌}
use Rattle.std.specs.List.{list_all}
use Rattle.std.specs.Option.{option_map}
use Rattle.std.proofs.lemmas.Bool.{and_parts, and_from, or_cases, or_left, or_right}
use Rattle.clu_types.specs.CluType.{CluType, array_of, sequence_of, record_of, struct_of, oneof_of, variant_of, cluster_of, parameter, Fields, no_fields, field_and, Actuals, no_actuals, actual_type, actual_const, actual_param}
use Rattle.clu_types.specs.Substituted.{substituted, fields_substituted, constant_put, constant_of_actual}
use Rattle.clu_builtin.specs.Operation.{Needed, Operation}
use Rattle.clu_builtin.specs.Table.{operation}
use Rattle.clu_layout.specs.SameType.{same_type, fits}
use Rattle.clu_layout.proofs.SameTypeLaws.{types_are, type_same}
use Rattle.clu_checking.specs.Specifications.{Demand, Heading, of_routine, of_cluster, Form, Specification, heading_named, operations_of}
use Rattle.clu_checking.specs.Operations.{builtin_type, are_met_by, is_met_by, may_fit, is_put_met, is_met_in, exported_operation, is_included, is_given_by, given_of, meets, part_meets, actual_meets}
use Rattle.laws_sound.proofs.Transitive.{trans_fits}
use Rattle.laws_accepted.specs.Legal.{Specified, context_of}
use Rattle.laws_accepted.specs.Specified.{HeadingLegal, OperationsLegal, FormLegal}
use Rattle.laws_accepted.proofs.PutIn.{fits_put, needed_put, operation_put}
use Rattle.laws_accepted.proofs.OfKinds.{no}

pub some_is : {A : Type 0} {x y : A} → Some x ≡ Some y → x ≡ y
some_is {A} {x} {y} e = ap (λ o. get o x) e
  where
    get : Option A → A → A
    get (Some z) other = z
    get None other = other

pub none_some : {A : Type 0} {x : A} → None ≡ Some x → ⊥
none_some e = subst is_none e tt
  where
    is_none : {A : Type 0} → Option A → Type 0
    is_none None = Unit {0}
    is_none (Some x) = ⊥

-- which of two was chosen
pub chosen : (b x y : Bool) → (if b then x else y) ≡ true → ((b ≡ true) × (x ≡ true)) ⊎ ((b ≡ false) × (y ≡ true))
chosen true x y h = inl (refl, h)
chosen false x y h = inr (refl, h)

-- ---- less is wanted

met_wider : (test : CluType → List ℕ → CluType → Bool) (a b : CluType) (o : Option Operation) → fits a b ≡ true → is_met_by test a o ≡ true → is_met_by test b o ≡ true
met_wider test a b (Some op) f h =
    let p = and_parts (fits (builtin_type op.iter op) a) (are_met_by test op.needs) h in
    and_from (fits (builtin_type op.iter op) b) (are_met_by test op.needs) (trans_fits (builtin_type op.iter op) a b p.0 f) p.1
met_wider test a b None f h = no h

may_wider : (t : Option CluType) (a b : CluType) → fits a b ≡ true → may_fit t a ≡ true → may_fit t b ≡ true
may_wider (Some t) a b f h = trans_fits t a b h f
may_wider None a b f h = refl

in_wider : (test : ℕ → List ℕ → CluType → Bool) (given : Actuals) (a b : CluType) (o : Option Heading) → fits a b ≡ true → is_met_in test given a o ≡ true → is_met_in test given b o ≡ true
in_wider test given a b (Some h) f e =
    let p = and_parts (may_fit (option_map (substituted given) h.type) a) (list_all (λ d. is_put_met test given d d.wanted) h.demands) e in
    and_from (may_fit (option_map (substituted given) h.type) b) (list_all (λ d. is_put_met test given d d.wanted) h.demands) (may_wider (option_map (substituted given) h.type) a b f p.0) p.1
in_wider test given a b None f e = no e

included_wider : (a b : CluType) (o : Option Demand) → fits a b ≡ true → is_included a o ≡ true → is_included b o ≡ true
included_wider a b (Some d) f h = may_wider d.wanted a b f h
included_wider a b None f h = no h

given_wider : (clauses : List (List Demand)) (k : ℕ) (name : List ℕ) (a b : CluType) → fits a b ≡ true → is_given_by clauses k name a ≡ true → is_given_by clauses k name b ≡ true
given_wider [] k name a b f h = no h
given_wider (c ∷ cs) k name a b f h = elim (or_cases (is_included a (given_of c k name)) (is_given_by cs k name a) h) [
  | inl i ↦ or_left (is_included b (given_of c k name)) (is_given_by cs k name b) (included_wider a b (given_of c k name) f i)
  | inr i ↦ or_right (is_included b (given_of c k name)) (is_given_by cs k name b) (given_wider cs k name a b f i)
]

pub meets_wider : (clauses : List (List Demand)) (specified : Specified) (t : CluType) (name : List ℕ) (a b : CluType) → fits a b ≡ true → meets clauses specified t name a ≡ true → meets clauses specified t name b ≡ true
meets_wider clauses specified (array_of t) name a b f h = met_wider _ a b (operation (array_of t) name) f h
meets_wider clauses specified (sequence_of t) name a b f h = met_wider _ a b (operation (sequence_of t) name) f h
meets_wider clauses specified (record_of fs) name a b f h = met_wider _ a b (operation (record_of fs) name) f h
meets_wider clauses specified (struct_of fs) name a b f h = met_wider _ a b (operation (struct_of fs) name) f h
meets_wider clauses specified (oneof_of fs) name a b f h = met_wider _ a b (operation (oneof_of fs) name) f h
meets_wider clauses specified (variant_of fs) name a b f h = met_wider _ a b (operation (variant_of fs) name) f h
meets_wider clauses specified (cluster_of c xs) name a b f h = in_wider (λ k op w. actual_meets clauses specified xs k (is_given_by clauses k op w) op w) xs a b (exported_operation name (specified c)) f h
meets_wider clauses specified (parameter k) name a b f h = given_wider clauses k name a b f h
meets_wider clauses specified t name a b f h = met_wider (λ of op w. true) a b (operation t name) f h

-- ---- the heading of a specification by its name

pub heading_found : (specified : Specified) (s : Specification) (hs : List Heading) (name : List ℕ) (h : Heading) → OperationsLegal specified s hs → heading_named hs name ≡ Some h → HeadingLegal specified (context_of s h.demands) h
heading_found specified s [] name h l e = absurd (none_some e)
heading_found specified s (g ∷ hs) name h l e = by (bytes_eq g.name name) e (λ k. heading_found specified s hs name h l.1 k)
  where
    by : (b : Bool) → (if b then Some g else heading_named hs name) ≡ Some h → (heading_named hs name ≡ Some h → HeadingLegal specified (context_of s h.demands) h) → HeadingLegal specified (context_of s h.demands) h
    by true e later = subst (λ x. HeadingLegal specified (context_of s x.demands) x) (some_is e) l.0
    by false e later = later e

pub operation_legal : (specified : Specified) (s : Specification) (form : Form) (name : List ℕ) (h : Heading) → FormLegal specified s form → heading_named (operations_of form) name ≡ Some h → HeadingLegal specified (context_of s h.demands) h
operation_legal specified s (of_routine g) name h l e = absurd (none_some e)
operation_legal specified s (of_cluster ds hs) name h l e = heading_found specified s hs name h l.1 e

-- ---- actuals are put in

-- some component is of this type
abbrev pub has_part : Fields → CluType → Bool
has_part no_fields t = false
has_part (field_and s u fs) t = same_type u t || has_part fs t

pub part_there : (clauses : List (List Demand)) (specified : Specified) (fs : Fields) (of : CluType) (op : List ℕ) (w : CluType) → part_meets clauses specified fs of op w ≡ true → has_part fs of ≡ true
part_there clauses specified no_fields of op w h = no h
part_there clauses specified (field_and s t fs) of op w h = elim (chosen (same_type t of) (meets clauses specified t op w) (part_meets clauses specified fs of op w) h) [
  | inl p ↦ or_left (same_type t of) (has_part fs of) p.0
  | inr p ↦ or_right (same_type t of) (has_part fs of) (part_there clauses specified fs of op w p.1)
]

pub part_of : (clauses : List (List Demand)) (specified : Specified) (fs : Fields) (of : CluType) (op : List ℕ) (w : CluType) → has_part fs of ≡ true → meets clauses specified of op w ≡ true → part_meets clauses specified fs of op w ≡ true
part_of clauses specified no_fields of op w h m = no h
part_of clauses specified (field_and s t fs) of op w h m = by (same_type t of) refl h (λ k. part_of clauses specified fs of op w k m)
  where
    by : (b : Bool) → same_type t of ≡ b → (b || has_part fs of) ≡ true → (has_part fs of ≡ true → part_meets clauses specified fs of op w ≡ true) → (if b then meets clauses specified t op w else part_meets clauses specified fs of op w) ≡ true
    by true e k later = subst (λ u. meets clauses specified u op w ≡ true) (sym (types_are t of e)) m
    by false e k later = later k

pub has_put : (given : Actuals) (fs : Fields) (of : CluType) → has_part fs of ≡ true → has_part (fields_substituted given fs) (substituted given of) ≡ true
has_put given no_fields of h = no h
has_put given (field_and s t fs) of h = elim (or_cases (same_type t of) (has_part fs of) h) [
  | inl e ↦ or_left (same_type (substituted given t) (substituted given of)) (has_part (fields_substituted given fs) (substituted given of))
      (subst (λ u. same_type (substituted given t) (substituted given u) ≡ true) (types_are t of e) (type_same (substituted given t)))
  | inr k ↦ or_right (same_type (substituted given t) (substituted given of)) (has_part (fields_substituted given fs) (substituted given of)) (has_put given fs of k)
]

pub built_put : (given : Actuals) (b : Bool) (op : Operation) → builtin_type b (operation_put given op) ≡ substituted given (builtin_type b op)
built_put given true op = refl
built_put given false op = refl

module _ (given : Actuals) where
  needs_put : (test test' : CluType → List ℕ → CluType → Bool) → ((of : CluType) (op : List ℕ) (w : CluType) → test of op w ≡ true → test' (substituted given of) op (substituted given w) ≡ true) →
      (needs : List Needed) → are_met_by test needs ≡ true → are_met_by test' (map (needed_put given) needs) ≡ true
  needs_put test test' h [] e = refl
  needs_put test test' h (n ∷ ns) e =
      let p = and_parts (test n.of n.op n.wanted) (are_met_by test ns) e in
      and_from (test' (substituted given n.of) n.op (substituted given n.wanted)) (are_met_by test' (map (needed_put given) ns)) (h n.of n.op n.wanted p.0) (needs_put test test' h ns p.1)

  met_put : (test test' : CluType → List ℕ → CluType → Bool) → ((of : CluType) (op : List ℕ) (w : CluType) → test of op w ≡ true → test' (substituted given of) op (substituted given w) ≡ true) →
      (w : CluType) (o : Option Operation) → is_met_by test w o ≡ true → is_met_by test' (substituted given w) (option_map (operation_put given) o) ≡ true
  met_put test test' h w (Some op) e =
      let p = and_parts (fits (builtin_type op.iter op) w) (are_met_by test op.needs) e in
      and_from (fits (builtin_type op.iter (operation_put given op)) (substituted given w)) (are_met_by test' (map (needed_put given) op.needs))
      (subst (λ t. fits t (substituted given w) ≡ true) (sym (built_put given op.iter op)) (fits_put given (builtin_type op.iter op) w p.0)) (needs_put test test' h op.needs p.1)
  met_put test test' h w None e = no e

  -- the same of the type with the actuals put in
  pub builtin_put : (t : CluType) (op : List ℕ) (test test' : CluType → List ℕ → CluType → Bool) → operation (substituted given t) op ≡ option_map (operation_put given) (operation t op) →
      ((of : CluType) (op : List ℕ) (w : CluType) → test of op w ≡ true → test' (substituted given of) op (substituted given w) ≡ true) →
      (w : CluType) → is_met_by test w (operation t op) ≡ true → is_met_by test' (substituted given w) (operation (substituted given t) op) ≡ true
  builtin_put t op test test' is h w e = subst (λ o. is_met_by test' (substituted given w) o ≡ true) (sym is) (met_put test test' h w (operation t op) e)

  -- one more actual before those that are searched
  actual_behind : (clauses : List (List Demand)) (specified : Specified) (xs : Actuals) (j n : ℕ) (behind : Actuals) (k : ℕ) (stays : Bool) (name : List ℕ) (w : CluType) →
      actual_meets clauses specified (constant_of_actual xs j n behind) k stays name w ≡ actual_meets clauses specified behind (k - 1) stays name w
  actual_behind clauses specified no_actuals j n behind k stays name w = refl
  actual_behind clauses specified (actual_type t rest) zero n behind k stays name w = refl
  actual_behind clauses specified (actual_const c rest) zero n behind k stays name w = refl
  actual_behind clauses specified (actual_param p rest) zero n behind k stays name w = refl
  actual_behind clauses specified (actual_type t rest) (suc j) n behind k stays name w = actual_behind clauses specified rest j n behind k stays name w
  actual_behind clauses specified (actual_const c rest) (suc j) n behind k stays name w = actual_behind clauses specified rest j n behind k stays name w
  actual_behind clauses specified (actual_param p rest) (suc j) n behind k stays name w = actual_behind clauses specified rest j n behind k stays name w

  pub constant_behind : (clauses : List (List Demand)) (specified : Specified) (p : ℕ) (behind : Actuals) (k : ℕ) (stays : Bool) (name : List ℕ) (w : CluType) →
      actual_meets clauses specified (constant_put given p behind) k stays name w ≡ actual_meets clauses specified behind (k - 1) stays name w
  constant_behind clauses specified zero behind k stays name w = refl
  constant_behind clauses specified (suc j) behind k stays name w = actual_behind clauses specified given j (suc j) behind k stays name w
