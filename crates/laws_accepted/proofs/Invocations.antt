-- What the rules V11 to V14, V18, V20 and V36 leave of an invocation, and that a sugared one has an operation when it runs.
use Rattle.std.proofs.Common.{◌≡◌, ℕ, zero, suc, Bool, true, false, List, [], ◌∷◌, length, Option, None, Some, refl, sym, ap, ap₂, subst, ◌∙◌, inl, inr}
use Rattle.std.specs.Prelude.{◌==◌, ◌&&◌, ◌||◌, not, bytes_eq, codes}
use Rattle.std.specs.Option.{option_map}
use Rattle.std.proofs.lemmas.Bool.{and_parts, and_from, eqb-true, cases_Bool, cond-true, cond-false, not-false}
use Rattle.clu_base.proofs.Lists.{same_bytes}
use Rattle.clu_types.specs.CluType.{CluType, any_type, bool_type, proc_of, iter_of, CluTypes, no_types, type_and, Signals, no_signals, signal_and}
use Rattle.clu_types.specs.Included.{Included, AreAmong, HasSignal}
use Rattle.clu_builtin.specs.Operation.{Operation, one, two, proc, quiet}
use Rattle.clu_builtin.specs.Table.{named, plain_operations}
use Rattle.clu_syntax.specs.Syntax.{Identifier}
use Rattle.clu_layout.specs.Objects.{Routine, operation_of, Object, own_types}
use Rattle.clu_layout.specs.SameType.{is_any, is_routine_type, fits, all_fit}
use Rattle.clu_layout.specs.Primitive.{heading_type}
use Rattle.clu_layout.proofs.SameTypeLaws.{fits_included}
use Rattle.clu_meaning.specs.Programs.{Program}
use Rattle.clu_meaning.specs.Binding.{Running}
use Rattle.clu_meaning.specs.Operations.{headed}
use Rattle.clu_checking.specs.Operations.{Found}
use Rattle.clu_checking.specs.Typing.{results_of, arguments_of, found_type}
use Rattle.clu_checking.specs.Invocations.{Invocation}
use Rattle.clu_checking.specs.ExpressionRules.{count, all_may_fit, is_iterator, holds_if, has_other_count, has_other_types, invokes_iterator}
use Rattle.laws_sound.specs.Raises.{Raise, Takes, Covers, failing, listed, raised_by}
use Rattle.laws_sound.specs.WellTyped.{ComparesRoutines, HasOperation}
use Rattle.laws_accepted.specs.Instances.{Runs}
use Rattle.laws_accepted.proofs.OfKinds.{no}
use Rattle.laws_accepted.proofs.Meeting.{some_is, none_some}

-- the types of arguments that have some
abbrev pub known_types : CluTypes → List (Option CluType)
known_types no_types = []
known_types (type_and t ts) = Some t ∷ known_types ts

abbrev is_zero : ℕ → Bool
is_zero zero = true
is_zero (suc n) = false

abbrev less : ℕ → ℕ
less zero = zero
less (suc n) = n

pub fit_all : (ts us : CluTypes) → count us ≡ length (known_types ts) → all_may_fit (known_types ts) us ≡ true → all_fit ts us ≡ true
fit_all no_types no_types c h = refl
fit_all (type_and t ts) (type_and u us) c h =
    let p = and_parts (fits t u) (all_may_fit (known_types ts) us) h in
    and_from (fits t u) (all_fit ts us) p.0 (fit_all ts us (ap less c) p.1)
fit_all no_types (type_and u us) c h = no (ap is_zero c)
fit_all (type_and t ts) no_types c h = no (sym (ap is_zero c))

-- ---- what is invoked, with arguments of these types, is a procedure that takes them

pub record IsInvoked (found : Option Found) (given : CluTypes) : Type 0 where
  pub x : Found
  pub args : CluTypes
  pub results : CluTypes
  pub signals : Signals
  pub there : found ≡ Some x
  pub type : x.type ≡ Some (proc_of args results signals)
  pub fit : all_fit given args ≡ true

-- the rules of one invocation
pub record Holds (i : Invocation) : Type 0 where
  pub counted : has_other_count i ≡ false
  pub fitted : has_other_types i ≡ false
  pub plain : invokes_iterator i ≡ false

procedure_invoked : (found : Option Found) (x : Found) (given : CluTypes) (u : CluType) → found ≡ Some x → x.type ≡ Some u → (is_routine_type u && not (count (arguments_of u) == length (known_types given))) ≡ false →
    (not (is_routine_type u) || not (all_may_fit (known_types given) (arguments_of u))) ≡ false → is_iterator u ≡ false → IsInvoked found given
procedure_invoked found x given (proc_of args results ss) is typed counted fitted plain = record {
  x = x;
  args = args;
  results = results;
  signals = ss;
  there = is;
  type = typed;
  fit = fit_all given args (eqb-true (count args) (length (known_types given)) (not-false (count args == length (known_types given)) counted)) (not-false (all_may_fit (known_types given) args) fitted);
}
procedure_invoked found x given (iter_of args results ss) is typed counted fitted plain = no (sym plain)
procedure_invoked found x given _ is typed counted fitted plain = no (sym fitted)

-- what is invoked has a type
pub invoked_is : (found : Option Found) (given : CluTypes) (x : Found) (T : CluType) → found ≡ Some x → x.type ≡ Some T → Holds (record { invoked = found; arguments = known_types given }) → IsInvoked found given
invoked_is found given x T is typed h = procedure_invoked found x given T is typed (sym (of_type (λ t. is_routine_type t && not (count (arguments_of t) == length (known_types given)))) ∙ h.counted)
    (sym (of_type (λ t. not (is_routine_type t) || not (all_may_fit (known_types given) (arguments_of t)))) ∙ h.fitted) (sym (of_type is_iterator) ∙ h.plain)
  where
    of_type : (test : CluType → Bool) → holds_if test (found_type found) ≡ test T
    of_type test = ap (λ o. holds_if test (found_type o)) is ∙ ap (holds_if test) typed

-- ---- a heading that is included in a procedure's type

pub record IsNarrow (h : CluType) (args results : CluTypes) (many : Signals) : Type 0 where
  pub few : Signals
  pub is : h ≡ proc_of args results few
  pub among : AreAmong few many

among_more : (name : List ℕ) (ts : CluTypes) (few many : Signals) → AreAmong few many → AreAmong few (signal_and name ts many)
among_more name ts no_signals many h = tt
among_more name ts (signal_and n us rest) many h = (inr h.0, among_more name ts rest many h.1)

pub among_itself : (ss : Signals) → AreAmong ss ss
among_itself no_signals = tt
among_itself (signal_and name ts rest) = (inl (refl, refl), among_more name ts rest rest (among_itself rest))

pub narrow_is : (h : CluType) (args results : CluTypes) (many : Signals) → fits h (proc_of args results many) ≡ true → IsNarrow h args results many
narrow_is h args results many f = by h (fits_included h (proc_of args results many) f)
  where
    by : (h : CluType) → Included h (proc_of args results many) → IsNarrow h args results many
    by h (inl e) = record { few = many; is = e; among = among_itself many }
    by (proc_of a r few) (inr n) = record { few = few; is = ap₂ (λ x y. proc_of x y few) n.0 n.1; among = n.2 }
    by _ (inr n) = absurd n

listed_among : (few many : Signals) → AreAmong few many → (name : List ℕ) (os : List Object) → Takes (listed few) name os → Takes (listed many) name os
listed_among no_signals many a name os h = absurd h
listed_among (signal_and n ts rest) many a name os (inl h) = has many a.0 h
  where
    has : (many : Signals) → HasSignal n ts many → (n ≡ name) × (all_fit (own_types os) ts ≡ true) → Takes (listed many) name os
    has no_signals k h = absurd k
    has (signal_and m us more) (inl e) h = inl (e.0 ∙ h.0, subst (λ x. all_fit (own_types os) x ≡ true) (sym e.1) h.1)
    has (signal_and m us more) (inr k) h = inr (has more k h)
listed_among (signal_and n ts rest) many a name os (inr h) = listed_among rest many a.1 name os h

pub raises_among : (few many : Signals) (rs : List Raise) → AreAmong few many → Covers (raised_by many) rs → Covers (raised_by few) rs
raises_among few many rs a c = record { at = by }
  where
    by : (name : List ℕ) (os : List Object) → Takes (raised_by few) name os → Takes rs name os
    by name os (inl h) = c.at name os (inl h)
    by name os (inr h) = c.at name os (inr (listed_among few many a name os h))

-- ---- sugar

-- the names of `similar` and `copy` are none of sugar
pub record IsSugar (name : Identifier) : Type 0 where
  pub first : bytes_eq (codes "similar") name ≡ false
  pub second : bytes_eq (codes "copy") name ≡ false

is_any_of : (t : CluType) → is_any t ≡ true → t ≡ any_type
is_any_of any_type h = refl
is_any_of _ h = no h

-- rows of types that have no other operations
abbrev equal_row : CluType → List ℕ × Operation
equal_row T = proc (codes "equal") (two T T) (one bool_type) quiet

abbrev similar_row : CluType → List ℕ × Operation
similar_row T = proc (codes "similar") (two T T) (one bool_type) quiet

abbrev copy_row : CluType → List ℕ × Operation
copy_row T = proc (codes "copy") (one T) (one T) quiet

-- of a routine type sugar finds `equal` alone
plain_equal : (T : CluType) (name : Identifier) (h : Operation) → IsSugar name → named (plain_operations T) name ≡ Some h → (name ≡ codes "equal") × (heading_type h ≡ proc_of (two T T) (one bool_type) no_signals)
plain_equal T name h s e = elim (cases_Bool (bytes_eq (codes "equal") name)) [
  | inl is ↦ (sym (same_bytes (codes "equal") name is), ap heading_type (sym (some_is (sym (cond-true (bytes_eq (codes "equal") name) (Some (equal_row T).1) (named (similar_row T ∷ copy_row T ∷ []) name) is) ∙ e))))
  | inr is ↦ absurd (none_some (sym (cond-false (bytes_eq (codes "copy") name) (Some (copy_row T).1) None s.second) ∙ sym (cond-false (bytes_eq (codes "similar") name) (Some (similar_row T).1) (named (copy_row T ∷ []) name) s.first)
      ∙ sym (cond-false (bytes_eq (codes "equal") name) (Some (equal_row T).1) (named (similar_row T ∷ copy_row T ∷ []) name) is) ∙ e))
]

routine_headed : (program : Program) (T : CluType) (name : Identifier) → is_routine_type T ≡ true → headed program (operation_of T name) ≡ option_map heading_type (named (plain_operations T) name)
routine_headed program (proc_of args results ss) name r = refl
routine_headed program (iter_of args results ss) name r = refl
routine_headed program _ name r = no r

any_headed : {A : Type 0} (program : Program) (T : CluType) (name : Identifier) (h : CluType) → is_any T ≡ true → headed program (operation_of T name) ≡ Some h → A
any_headed program any_type name h a e = absurd (none_some e)
any_headed program _ name h a e = no a

-- what is included in a routine type is one, and so is what includes one
routine_narrow : (t u : CluType) → is_routine_type u ≡ true → fits t u ≡ true → is_routine_type t ≡ true
routine_narrow t u r f = by t u r (fits_included t u f)
  where
    by : (t u : CluType) → is_routine_type u ≡ true → Included t u → is_routine_type t ≡ true
    by t u r (inl e) = subst (λ x. is_routine_type x ≡ true) (sym e) r
    by (proc_of a b c) u r (inr n) = refl
    by (iter_of a b c) u r (inr n) = refl
    by _ (proc_of a b c) r (inr n) = absurd n
    by _ (iter_of a b c) r (inr n) = absurd n
    by _ _ r (inr n) = no r

-- what is included in a type that is neither any nor a routine type is that type
pub same_by : (own T : CluType) → is_any T ≡ false → is_routine_type T ≡ false → fits own T ≡ true → own ≡ T
same_by own T a b f = by T a b (fits_included own T f)
  where
    by : (T : CluType) → is_any T ≡ false → is_routine_type T ≡ false → Included own T → own ≡ T
    by T a b (inl e) = e
    by any_type a b (inr n) = no (sym a)
    by (proc_of x y z) a b (inr n) = no (sym b)
    by (iter_of x y z) a b (inr n) = no (sym b)
    by _ a b (inr n) = absurd n

module _ (program : Program) (lawful : Routine → Type 0) (r : Running) (rs : List Raise) where
  -- an object of this type, whose own type is included in it
  compares : (T own : CluType) (name : Identifier) (us args results : CluTypes) (ss : Signals) (p : Runs program lawful r (operation_of T name) (proc_of args results ss)) → is_routine_type T ≡ true → fits own T ≡ true → IsSugar name →
      all_fit (type_and own us) args ≡ true → Covers (raised_by ss) rs → ComparesRoutines program lawful r rs name own us results
  compares T own name us args results ss p is f sugar fit c = by (named (plain_operations T) name) refl (sym (routine_headed program T name is) ∙ p.there)
    where
      only_failing : (name : List ℕ) (os : List Object) → Takes (failing ∷ []) name os → Takes rs name os
      only_failing name os (inl h) = c.at name os (inl h)
      only_failing name os (inr h) = absurd h

      both : (us : CluTypes) → all_fit us (one T) ≡ true → (other : CluType) × (us ≡ one other) × (is_routine_type other ≡ true)
      both (type_and u no_types) f = (u, refl, routine_narrow u T is (and_parts (fits u T) true f).0)
      both no_types f = no f
      both (type_and u (type_and v vs)) f = no (and_parts (fits u T) false f).1

      by : (o : Option Operation) → named (plain_operations T) name ≡ o → option_map heading_type o ≡ Some p.heading → ComparesRoutines program lawful r rs name own us results
      by (Some h) e is_heading =
          let q = plain_equal T name h sugar e in
          let n = narrow_is p.heading args results ss p.fit in
          let same : proc_of (two T T) (one bool_type) no_signals ≡ proc_of args results n.few = sym q.1 ∙ some_is is_heading ∙ n.is in
          let x = both us (and_parts (fits own T) (all_fit us (one T)) (subst (λ x. all_fit (type_and own us) x ≡ true) (sym (ap arguments_of same)) fit)).1 in
          record { first = routine_narrow own T is f; is_equal = q.0; other = x.0; rest = x.1; second = x.2; results = sym (ap results_of same); raises = record { at = only_failing } }
      by None e is_heading = absurd (none_some is_heading)

  -- an operation that runs, of an object of this type
  pub has_operation : (T own : CluType) (name : Identifier) (us args results : CluTypes) (ss : Signals) → Runs program lawful r (operation_of T name) (proc_of args results ss) → fits own T ≡ true → IsSugar name → all_fit (type_and own us) args ≡ true → Covers (raised_by ss) rs →
      HasOperation program lawful r rs name own us results
  has_operation T own name us args results ss p f sugar fit c = by (is_routine_type T) refl (is_any T) refl
    where
      by : (b : Bool) → is_routine_type T ≡ b → (a : Bool) → is_any T ≡ a → HasOperation program lawful r rs name own us results
      by true is a any = inr (compares T own name us args results ss p is f sugar fit c)
      by false is true any = any_headed program T name p.heading any p.there
      by false is false any =
          let n = narrow_is p.heading args results ss p.fit in
          subst (λ t. HasOperation program lawful r rs name t us results) (sym (same_by own T any is f))
          (inl (record { object = any; plain = is; args = args; signals = n.few; heading = p.there ∙ ap Some n.is; may = p.may; law = p.law; fit = subst (λ t. all_fit (type_and t us) args ≡ true) (same_by own T any is f) fit; raises = raises_among n.few ss rs n.among c }))
