-- What the operation of a type asks: by the term of the type, and by what was found.
use Rattle.std.proofs.Common.{◌≡◌, ℕ, zero, suc, ◌+◌, ◌<◌, ◌≤◌, ◌==◌, ◌&&◌, inl, inr, Bool, true, false, true≢false, List, [], ◌∷◌, Contains, map, length, drop, get_or, slice_get, Option, Some, None, Result, Ok, Err, IfOk, IsTrue, refl, sym, ap, ◌∙◌, subst, arith, eq-eqb, eqb-true}
use Rattle.std.specs.Option.{option_map}
use Rattle.std.specs.Str.{bytes_eq}
use Rattle.std.specs.Prelude.{◌↔◌}
use Rattle.std.proofs.lemmas.Bool.{and_parts, and_from}
use Rattle.std.proofs.lemmas.List.{drop_all}
use Rattle.std.proofs.lemmas.Option.{same_Some}
use Rattle.clu_base.specs.declared.errors.Memory.{Memory}
use Rattle.clu_base.proofs.Lists.{none_is_not, as_bytes, dropped, head_or_tail, in_head, in_none, in_tail, item_at, same_bytes}
use Rattle.clu_types.specs.CluType.{CluType, cluster_of, parameter, Actuals}
use Rattle.clu_types.specs.Arena.{type_at, types_at, signals_at, actuals_at, type_of, types_of, ActualsBelow, PartsBelow, Grows}
use Rattle.clu_types.specs.Included.{Included}
use Rattle.clu_types.specs.declared.spec.Demand.{Demand}
use Rattle.clu_types.specs.declared.spec.Spec.{Spec}
use Rattle.clu_types.specs.declared.term.Actual.{Actual}
use Rattle.clu_types.specs.declared.term.TypeId.{TypeId}
use Rattle.clu_types.specs.declared.term.Term.{Term}
use Rattle.clu_types.specs.declared.term.Term.TheVariants as term
use Rattle.clu_types.proofs.Arenas.{types_grown}
use Rattle.clu_types.proofs.Equality.{join3}
use Rattle.clu_types.proofs.Parts.{actuals_more}
use Rattle.clu_builtin.specs.Operation.{Needed, Operation}
use Rattle.clu_builtin.specs.Table.{operation}
use Rattle.clu_builtin.specs.Built.{needs_at, found_at, operation_at, NeedsBelow}
use Rattle.clu_builtin.specs.declared.needs.Need.{Need}
use Rattle.clu_builtin.specs.declared.lookup.Builtin.{Builtin}
use Rattle.clu_specs.specs.Seen.{Demanded, demand_seen}
use Rattle.clu_specs.specs.Specifications.{DemandsBelow}
use Rattle.clu_demands.specs.declared.needs.Asked.{Asked}
use Rattle.clu_demands.specs.declared.needs.Instance.{Instance}
use Rattle.clu_demands.specs.Asking.{asked_seen, all_seen, AreBelowAll, IsBelow, as_asked, Answers, parameter_of, instance_with, instance_of, HasNone}
use Rattle.clu_demands.specs.Meeting.{AsksOf, AsksOfBuiltin, AsksOfOperation, AsksOfParameter, IsGiven, routine_type}

-- ---- answers to the same question, told otherwise

answers_as : (P Q : List Needed → Type 0) → ((asks : List Needed) → P asks → Q asks) → ((asks : List Needed) → Q asks → P asks) → (types : List CluType) (made : Option (List Asked)) → Answers P types made → Answers Q types made
answers_as P Q to from types None h = λ asks q. h asks (from asks q)
answers_as P Q to from types (Some made) h = to (all_seen types made) h

pub answers_ok : (P Q : List Needed → Type 0) → ((asks : List Needed) → P asks → Q asks) → ((asks : List Needed) → Q asks → P asks) → (types : List CluType) (r : Result (Option (List Asked)) Memory)
    → IfOk r (Answers P types) → IfOk r (Answers Q types)
answers_ok P Q to from types (Ok made) h = answers_as P Q to from types made h
answers_ok P Q to from types (Err e) h = h

pub answers_at : (given : List Demanded) (specs : List Spec) (op : List ℕ) (wanted : CluType) (types : List CluType) (r : Result (Option (List Asked)) Memory) (t u : CluType) → t ≡ u
    → IfOk r (Answers (AsksOf given specs u op wanted) types) → IfOk r (Answers (AsksOf given specs t op wanted) types)
answers_at given specs op wanted types r t u e h = subst (λ (x : CluType). IfOk r (Answers (AsksOf given specs x op wanted) types)) (sym e) h

-- ---- by the term

pub parameter_type : (types : List CluType) (t : Term) (n : ℕ) → Some n ≡ parameter_of t → type_of types t ≡ parameter n
parameter_type types (term.Param m) n e = ap parameter (same_Some m n (sym e))
parameter_type types term.Null n e = none_is_not n (sym e)
parameter_type types term.Bool n e = none_is_not n (sym e)
parameter_type types term.Int n e = none_is_not n (sym e)
parameter_type types term.Char n e = none_is_not n (sym e)
parameter_type types term.Str n e = none_is_not n (sym e)
parameter_type types term.Any n e = none_is_not n (sym e)
parameter_type types term.Stream n e = none_is_not n (sym e)
parameter_type types (term.Array of) n e = none_is_not n (sym e)
parameter_type types (term.Sequence of) n e = none_is_not n (sym e)
parameter_type types (term.Record fs) n e = none_is_not n (sym e)
parameter_type types (term.Struct fs) n e = none_is_not n (sym e)
parameter_type types (term.Oneof fs) n e = none_is_not n (sym e)
parameter_type types (term.Variant fs) n e = none_is_not n (sym e)
parameter_type types (term.Proc h) n e = none_is_not n (sym e)
parameter_type types (term.Iter h) n e = none_is_not n (sym e)
parameter_type types (term.Cluster name actuals) n e = none_is_not n (sym e)

abbrev type_of_instance : List CluType → Instance → CluType
type_of_instance types i = cluster_of i.name (actuals_at types i.actuals)

pub instance_type : (types : List CluType) (t : Term) (i : Instance) → Some i ≡ instance_of t → type_of types t ≡ cluster_of i.name (actuals_at types i.actuals)
instance_type types (term.Cluster name actuals) i e =
    ap (type_of_instance types) (same_Some (instance_with name actuals) i (sym e))
instance_type types term.Null i e = none_is_not i (sym e)
instance_type types term.Bool i e = none_is_not i (sym e)
instance_type types term.Int i e = none_is_not i (sym e)
instance_type types term.Char i e = none_is_not i (sym e)
instance_type types term.Str i e = none_is_not i (sym e)
instance_type types term.Any i e = none_is_not i (sym e)
instance_type types term.Stream i e = none_is_not i (sym e)
instance_type types (term.Array of) i e = none_is_not i (sym e)
instance_type types (term.Sequence of) i e = none_is_not i (sym e)
instance_type types (term.Record fs) i e = none_is_not i (sym e)
instance_type types (term.Struct fs) i e = none_is_not i (sym e)
instance_type types (term.Oneof fs) i e = none_is_not i (sym e)
instance_type types (term.Variant fs) i e = none_is_not i (sym e)
instance_type types (term.Proc h) i e = none_is_not i (sym e)
instance_type types (term.Iter h) i e = none_is_not i (sym e)
instance_type types (term.Param n) i e = none_is_not i (sym e)

pub instance_in : (n m : ℕ) → n ≤ m → (t : Term) (i : Instance) → Some i ≡ instance_of t → PartsBelow n t → ActualsBelow m i.actuals
instance_in n m le (term.Cluster name actuals) i e b =
    subst (λ (x : Instance). ActualsBelow m x.actuals) (same_Some (instance_with name actuals) i (sym e)) (actuals_more n m le actuals b)
instance_in n m le term.Null i e b = none_is_not i (sym e)
instance_in n m le term.Bool i e b = none_is_not i (sym e)
instance_in n m le term.Int i e b = none_is_not i (sym e)
instance_in n m le term.Char i e b = none_is_not i (sym e)
instance_in n m le term.Str i e b = none_is_not i (sym e)
instance_in n m le term.Any i e b = none_is_not i (sym e)
instance_in n m le term.Stream i e b = none_is_not i (sym e)
instance_in n m le (term.Array of) i e b = none_is_not i (sym e)
instance_in n m le (term.Sequence of) i e b = none_is_not i (sym e)
instance_in n m le (term.Record fs) i e b = none_is_not i (sym e)
instance_in n m le (term.Struct fs) i e b = none_is_not i (sym e)
instance_in n m le (term.Oneof fs) i e b = none_is_not i (sym e)
instance_in n m le (term.Variant fs) i e b = none_is_not i (sym e)
instance_in n m le (term.Proc h) i e b = none_is_not i (sym e)
instance_in n m le (term.Iter h) i e b = none_is_not i (sym e)
instance_in n m le (term.Param p) i e b = none_is_not i (sym e)

module _ (given : List Demanded) (specs : List Spec) (types : List CluType) (op : List ℕ) (wanted : CluType) (asks : List Needed) where
  abbrev Alike : Term → Type 0
  Alike t = AsksOfBuiltin (type_of types t) op wanted asks ↔ AsksOf given specs (type_of types t) op wanted asks

  other_asks : (t : Term) → parameter_of t ≡ None → None ≡ instance_of t → Alike t
  other_asks term.Null p c = (λ h. h, λ h. h)
  other_asks term.Bool p c = (λ h. h, λ h. h)
  other_asks term.Int p c = (λ h. h, λ h. h)
  other_asks term.Char p c = (λ h. h, λ h. h)
  other_asks term.Str p c = (λ h. h, λ h. h)
  other_asks term.Any p c = (λ h. h, λ h. h)
  other_asks term.Stream p c = (λ h. h, λ h. h)
  other_asks (term.Array of) p c = (λ h. h, λ h. h)
  other_asks (term.Sequence of) p c = (λ h. h, λ h. h)
  other_asks (term.Record fs) p c = (λ h. h, λ h. h)
  other_asks (term.Struct fs) p c = (λ h. h, λ h. h)
  other_asks (term.Oneof fs) p c = (λ h. h, λ h. h)
  other_asks (term.Variant fs) p c = (λ h. h, λ h. h)
  other_asks (term.Proc h) p c = (λ h. h, λ h. h)
  other_asks (term.Iter h) p c = (λ h. h, λ h. h)
  other_asks (term.Cluster name actuals) p c = none_is_not (instance_with name actuals) c
  other_asks (term.Param n) p c = none_is_not n (sym p)

-- a type that is neither a parameter nor of a cluster has the built-in operations
pub builtin_answers : (given : List Demanded) (specs : List Spec) (source : List CluType) (t : Term) (u : CluType) (op : List ℕ) (wanted : CluType) → u ≡ type_of source t → parameter_of t ≡ None → None ≡ instance_of t
    → (types : List CluType) (r : Result (Option (List Asked)) Memory) → IfOk r (Answers (AsksOfBuiltin u op wanted) types) → IfOk r (Answers (AsksOf given specs u op wanted) types)
builtin_answers given specs source t u op wanted is p c types r =
    subst (λ (x : CluType). IfOk r (Answers (AsksOfBuiltin x op wanted) types) → IfOk r (Answers (AsksOf given specs x op wanted) types)) (sym is)
    (answers_ok (AsksOfBuiltin (type_of source t) op wanted) (AsksOf given specs (type_of source t) op wanted)
    (λ asks h. (other_asks given specs source op wanted asks t p c).0 h) (λ asks h. (other_asks given specs source op wanted asks t p c).1 h) types r)

pub has_none : {X : Type 0} (f : Term → Option X) (terms : List Term) (id : TypeId) (v : Term) → slice_get terms id.0 ≡ Some v → None ≡ f v → HasNone f terms id
has_none f terms id v at none t e = ap f (sym (same_Some v t (sym at ∙ e))) ∙ sym none

-- ---- what is given

seen_has : (types : List CluType) (given : List Demand) (d : Demand) → Contains given d → Contains (map (demand_seen types) given) (demand_seen types d)
seen_has types [] d h = in_none d h
seen_has types (x ∷ given) d h = elim (head_or_tail x given d h) [
  | inl is ↦ in_head (demand_seen types x) (map (demand_seen types) given) (demand_seen types d) (ap (demand_seen types) is)
  | inr there ↦ in_tail (demand_seen types x) (map (demand_seen types) given) (demand_seen types d) (seen_has types given d there)
]

drop_has : (given : List Demand) (i : ℕ) (d : Demand) → i < length given → d ≡ get_or given i d → drop i given ≡ d ∷ drop (i + 1) given
drop_has given i d lt is = dropped given i d (item_at given i d lt is)

pub demand_below : (m : ℕ) (given : List Demand) (i : ℕ) (d : Demand) → DemandsBelow m given → i < length given → d ≡ get_or given i d → d.wanted.0 < m
demand_below m [] i d b lt is = absurd (omega (arith, lt))
demand_below m (x ∷ given) zero d b lt is = subst (λ (y : Demand). y.wanted.0 < m) (sym is) b.0
demand_below m (x ∷ given) (suc i) d b lt is = demand_below m given i d b.1 (omega (arith, lt)) is

module _ (types : List CluType) (n : ℕ) (op : List ℕ) (wanted : CluType) (d : Demand) (is_of : Bool) (is : is_of ≡ ((d.param == n) && bytes_eq d.op op)) where
  pub given_so : is_of ≡ true → (fits : Bool) → (IsTrue fits ↔ Included (type_at types d.wanted) wanted) → IsTrue fits ↔ IsGiven n op wanted (demand_seen types d)
  given_so so fits h =
      let both = and_parts (d.param == n) (bytes_eq d.op op) (sym is ∙ so) in
      (λ t. (eqb-true d.param n both.0, same_bytes d.op op both.1, h.0 t), λ g. h.1 g.2)

  pub given_not : is_of ≡ false → IsTrue false ↔ IsGiven n op wanted (demand_seen types d)
  given_not not_so = (
    λ t. absurd (true≢false (sym t)),
    λ g. absurd (true≢false (sym (is ∙ and_from (d.param == n) (bytes_eq d.op op) (eq-eqb d.param n g.0) (as_bytes d.op op g.1)) ∙ not_so)),
  )

module _ (types : List CluType) (given : List Demand) (n : ℕ) (op : List ℕ) (wanted : CluType) where
  abbrev Gives : List Demand → Type 0
  Gives demands = AsksOfParameter (map (demand_seen types) demands) n op wanted []

  -- if one gives it, one of those that are left does
  abbrev pub GivesLeft : ℕ → Type 0
  GivesLeft i = Gives given → Gives (drop i given)

  pub gives_first : GivesLeft 0
  gives_first h = h

  pub gives_here : (i : ℕ) (d : Demand) → i < length given → d ≡ get_or given i d → IsGiven n op wanted (demand_seen types d) → Gives given
  gives_here i d lt is h = (demand_seen types d, seen_has types given d (i, lt, sym is), h, refl)

  pub gives_more : (i : ℕ) (d : Demand) → i < length given → d ≡ get_or given i d → (IsGiven n op wanted (demand_seen types d) → ⊥) → GivesLeft i → GivesLeft (i + 1)
  gives_more i d lt is none left h = by (subst Gives (drop_has given i d lt is) (left h))
    where
      by : Gives (d ∷ drop (i + 1) given) → Gives (drop (i + 1) given)
      by g = elim (head_or_tail (demand_seen types d) (map (demand_seen types) (drop (i + 1) given)) g.0 g.1) [
        | inl same ↦ absurd (none (subst (IsGiven n op wanted) (sym same) g.2))
        | inr there ↦ (g.0, there, g.2, refl)
      ]

  pub gives_none : (i : ℕ) → length given ≤ i → GivesLeft i → Gives given → ⊥
  gives_none i past left h = let g : Gives [] = subst Gives (drop_all i given past) (left h) in in_none g.0 g.1

  -- what is given asks nothing else
  pub given_asks : (AsksOfParameter (map (demand_seen types) given) n op wanted [] → ⊥) → (asks : List Needed) → AsksOfParameter (map (demand_seen types) given) n op wanted asks → ⊥
  given_asks none asks a = none (a.0, a.1, a.2, refl)

-- ---- built-in operations

-- their needs, in an arena that has grown
seen_needs : (old new : List Term) → Grows old new → (ns : List Need) → NeedsBelow (length old) ns → all_seen (types_of new) (map as_asked ns) ≡ needs_at (types_of old) ns
seen_needs old new g [] b = refl
seen_needs old new g (n ∷ ns) b =
    join3 (λ (x y : CluType) (rest : List Needed). (let m : Needed = record { of = x; op = n.op; wanted = y } in m) ∷ rest)
    (types_grown old new g n.of b.0) (types_grown old new g n.wanted b.1) (seen_needs old new g ns b.2)

pub needs_below : (m n : ℕ) → m ≤ n → (ns : List Need) → NeedsBelow m ns → AreBelowAll n (map as_asked ns)
needs_below m n le [] b = tt
needs_below m n le (x ∷ xs) b = ((omega (arith, b.0), omega (arith, b.1)), needs_below m n le xs b.2)

both_included : (a b c d : CluType) → a ≡ b → c ≡ d → Included a c → Included b d
both_included a b c d p q h = subst (λ (x : CluType). Included x d) p (subst (λ (y : CluType). Included a y) q h)

module _ (old new : List Term) (g : Grows old new) (b : Builtin) (wanted routine : TypeId) (wanted_in : wanted.0 < length old)
    (is : type_at (types_of new) routine ≡ routine_type b.iter (types_at (types_of old) b.heading.args) (types_at (types_of old) b.heading.results) (signals_at (types_of old) b.heading.signals)) where
  pub operation_asks : NeedsBelow (length old) b.needs → (made : List Asked) → made ≡ map as_asked b.needs → Included (type_at (types_of new) routine) (type_at (types_of new) wanted)
      → AsksOfOperation (operation_at (types_of old) b) (type_at (types_of old) wanted) (all_seen (types_of new) made)
  operation_asks needs_in made made_is h =
      (both_included _ _ _ _ is (types_grown old new g wanted wanted_in) h, ap (all_seen (types_of new)) made_is ∙ seen_needs old new g b.needs needs_in)

  pub operation_lacks : (Included (type_at (types_of new) routine) (type_at (types_of new) wanted) → ⊥) → (asks : List Needed) → AsksOfOperation (operation_at (types_of old) b) (type_at (types_of old) wanted) asks → ⊥
  operation_lacks apart asks h = apart (both_included _ _ _ _ (sym is) (sym (types_grown old new g wanted wanted_in)) h.0)

module _ (old new : List Term) (g : Grows old new) (of wanted : TypeId) (op : List ℕ) (found : Option Builtin) (is : found_at (types_of new) found ≡ operation (type_at (types_of old) of) op) where
  pub builtin_some : wanted.0 < length old → (b : Builtin) → found ≡ Some b → (types : List CluType) (r : Result (Option (List Asked)) Memory)
      → IfOk r (Answers (AsksOfOperation (operation_at (types_of new) b) (type_at (types_of new) wanted)) types) → IfOk r (Answers (AsksOfBuiltin (type_at (types_of old) of) op (type_at (types_of old) wanted)) types)
  builtin_some wanted_in b some types r =
      let has : operation (type_at (types_of old) of) op ≡ Some (operation_at (types_of new) b) = sym is ∙ ap (found_at (types_of new)) some in
      let same : type_at (types_of new) wanted ≡ type_at (types_of old) wanted = types_grown old new g wanted wanted_in in
      answers_ok (AsksOfOperation (operation_at (types_of new) b) (type_at (types_of new) wanted)) (AsksOfBuiltin (type_at (types_of old) of) op (type_at (types_of old) wanted))
      (λ asks h. (operation_at (types_of new) b, has, subst (λ (w : CluType). AsksOfOperation (operation_at (types_of new) b) w asks) same h))
      (λ asks q.
      let this : q.0 ≡ operation_at (types_of new) b = same_Some q.0 (operation_at (types_of new) b) (sym q.1 ∙ has) in
      subst (λ (w : CluType). AsksOfOperation (operation_at (types_of new) b) w asks) (sym same) (subst (λ (o : Operation). AsksOfOperation o (type_at (types_of old) wanted) asks) this q.2))
      types r

  pub builtin_none : found ≡ None → (asks : List Needed) → AsksOfBuiltin (type_at (types_of old) of) op (type_at (types_of old) wanted) asks → ⊥
  builtin_none none asks q = none_is_not q.0 (ap (found_at (types_of new)) (sym none) ∙ is ∙ q.1)
