-- What headings seal and open fits, and there is always something to open: arguments, results, yields and signals.
use Rattle.std.proofs.Common.{◌≡◌, ℕ, Bool, true, false, List, [], ◌∷◌, Option, None, Some, refl, sym, ap, ap₂, subst, ◌∙◌, inl, inr, cond}
use Rattle.std.specs.Prelude.{bytes_eq}
use Rattle.std.proofs.lemmas.Bool.{false≢true, and_parts, and_from}
use Rattle.clu_base.proofs.Lists.{same_bytes}
use Rattle.clu_types.specs.CluType.{CluType, cluster_of, string_type, no_types, type_and, Actuals}
use Rattle.clu_types.specs.Substituted.{substituted}
use Rattle.clu_layout.specs.Objects.{Routine, Object, sealed, Cell, own_type, own_types}
use Rattle.clu_layout.specs.SameType.{fits, all_fit}
use Rattle.clu_layout.proofs.SameTypeLaws.{type_same}
use Rattle.clu_meaning.specs.Lists.{in_front}
use Rattle.clu_meaning.specs.Programs.{HeadingType, plain, cvt, Formal, Exception, ClusterDefinition, Program}
use Rattle.clu_meaning.specs.Computations.{Ending, Computation}
use Rattle.clu_meaning.specs.Binding.{Running, put_in, outward, inward, seal, seals, handed_out, opened, opens, types_of_formals, formal_variables, argued, signal_types}
use Rattle.clu_meaning.specs.Unhandled.{failure}
use Rattle.clu_meaning.specs.Operations.{signals_of}
use Rattle.clu_meaning.specs.Statements.{types_of_signal}
use Rattle.clu_meaning.specs.Calls.{Round, here}
use Rattle.clu_meaning.specs.Typed.{representation_of, fits_in, IsTyped, AllTyped}
use Rattle.clu_meaning.specs.Headings.{body_type, IsOwn, TypesStand, ExceptionsStand, FormalsDeclared}
use Rattle.clu_meaning.proofs.TypedHeadings.{HomeIs, seals_typed}
use Rattle.clu_meaning.proofs.TypedFine.{Fine}
use Rattle.laws_sound.specs.Raises.{Raise, Takes, listed, raised_by}
use Rattle.laws_sound.specs.WellTyped.{AreDeclared}
use Rattle.laws_sound.proofs.Safe.{Sound, sound_need, sound_needed, sound_takes}
use Rattle.laws_sound.proofs.Shapes.{fits_itself, included_is, sealed_is}
use Rattle.laws_sound.proofs.Moves.{sound_names_each}

module _ (program : Program) (lawful : Routine → Type 0) (base : List Cell) (given : Actuals) where
  -- ---- what is sealed

  seal_fits : (cluster : ClusterDefinition) (abstract representation : CluType) (o : Object) → IsOwn cluster given abstract representation → fits (own_type (seal (substituted given abstract) o)) (substituted given abstract) ≡ true
  seal_fits cluster abstract representation o own = subst (λ t. fits (own_type (seal t o)) t ≡ true) (sym own.type) (fits_itself (cluster_of cluster.name own.actuals))

  seals_fit : (home : Option ClusterDefinition) (types : List HeadingType) (os : List Object) → TypesStand home types → all_fit (own_types os) (inward given types) ≡ true → all_fit (own_types (seals given types os)) (outward given types) ≡ true
  seals_fit home [] [] s fit = refl
  seals_fit home (plain u ∷ types) (o ∷ os) s fit =
      let parts = and_parts (fits (own_type o) (substituted given u)) (all_fit (own_types os) (inward given types)) fit in
      and_from (fits (own_type o) (substituted given u)) (all_fit (own_types (seals given types os)) (outward given types)) parts.0 (seals_fit home types os s.1 parts.1)
  seals_fit (Some cluster) (cvt abstract representation ∷ types) (o ∷ os) s fit =
      let parts = and_parts (fits (own_type o) (substituted given representation)) (all_fit (own_types os) (inward given types)) fit in
      and_from (fits (own_type (seal (substituted given abstract) o)) (substituted given abstract)) (all_fit (own_types (seals given types os)) (outward given types))
      (seal_fits cluster abstract representation o (s.0 given)) (seals_fit (Some cluster) types os s.1 parts.1)
  seals_fit None (cvt abstract representation ∷ types) (o ∷ os) s fit = absurd s.0
  seals_fit home [] (o ∷ os) s fit = absurd (false≢true fit)
  seals_fit home (plain u ∷ types) [] s fit = absurd (false≢true fit)
  seals_fit home (cvt abstract representation ∷ types) [] s fit = absurd (false≢true fit)

  -- ---- what is opened

  pub record Inside (cluster : ClusterDefinition) (put : Actuals) (o : Object) : Type 0 where
    pub inside : Object
    pub found : opened (cluster_of cluster.name put) o ≡ Some inside
    pub typed : IsTyped program lawful base inside
    pub fit : fits (own_type inside) (substituted put cluster.representation) ≡ true

  pub inside_of : (cluster : ClusterDefinition) (put : Actuals) (o : Object) → HomeIs program (Some cluster) → IsTyped program lawful base o → fits (own_type o) (cluster_of cluster.name put) ≡ true → Inside cluster put o
  inside_of cluster put o home typed fit =
      let is = sealed_is program lawful base o cluster.name put typed (included_is (own_type o) (cluster_of cluster.name put) refl refl fit) in
      let whole : IsTyped program lawful base (sealed cluster.name put is.0) = subst (IsTyped program lawful base) is.1 typed in
      record {
        inside = is.0;
        found = ap (opened (cluster_of cluster.name put)) is.1 ∙ ap (λ b. cond b (Some is.0) None) (type_same (cluster_of cluster.name put));
        typed = whole.0;
        fit = subst (λ m. fits_in (representation_of put m) is.0 ≡ true) home whole.1;
      }

  pub record Opened (types : List HeadingType) (os : List Object) : Type 0 where
    pub objects : List Object
    pub found : opens given types os ≡ Some objects
    pub typed : AllTyped program lawful base objects
    pub fit : all_fit (own_types objects) (inward given types) ≡ true

  opened_all : (home : Option ClusterDefinition) → HomeIs program home → (types : List HeadingType) (os : List Object) → TypesStand home types → AllTyped program lawful base os →
      all_fit (own_types os) (outward given types) ≡ true → Opened types os
  opened_all home h [] [] s t fit = record { objects = []; found = refl; typed = tt; fit = refl }
  opened_all home h (plain u ∷ types) (o ∷ os) s t fit =
      let parts = and_parts (fits (own_type o) (substituted given u)) (all_fit (own_types os) (outward given types)) fit in
      let rest = opened_all home h types os s.1 t.1 parts.1 in
      record {
        objects = o ∷ rest.objects;
        found = ap (in_front (Some o)) rest.found;
        typed = (t.0, rest.typed);
        fit = and_from (fits (own_type o) (substituted given u)) (all_fit (own_types rest.objects) (inward given types)) parts.0 rest.fit;
      }
  opened_all (Some cluster) h (cvt abstract representation ∷ types) (o ∷ os) s t fit =
      let own = s.0 given in
      let parts = and_parts (fits (own_type o) (substituted given abstract)) (all_fit (own_types os) (outward given types)) fit in
      let rest = opened_all (Some cluster) h types os s.1 t.1 parts.1 in
      let first = inside_of cluster own.actuals o h t.0 (subst (λ u. fits (own_type o) u ≡ true) own.type parts.0) in
      record {
        objects = first.inside ∷ rest.objects;
        found = ap₂ in_front (ap (λ u. opened u o) own.type ∙ first.found) rest.found;
        typed = (first.typed, rest.typed);
        fit = and_from (fits (own_type first.inside) (substituted given representation)) (all_fit (own_types rest.objects) (inward given types)) (subst (λ u. fits (own_type first.inside) u ≡ true) own.inside first.fit) rest.fit;
      }
  opened_all None h (cvt abstract representation ∷ types) (o ∷ os) s t fit = absurd s.0
  opened_all home h [] (o ∷ os) s t fit = absurd (false≢true fit)
  opened_all home h (plain u ∷ types) [] s t fit = absurd (false≢true fit)
  opened_all home h (cvt abstract representation ∷ types) [] s t fit = absurd (false≢true fit)

-- ---- formals are declared with their types

body_put : (r : Running) (t : HeadingType) (ts : List HeadingType) → inward r.given (t ∷ ts) ≡ type_and (substituted r.given (body_type t)) (inward r.given ts)
body_put r (plain t) ts = refl
body_put r (cvt a b) ts = refl

formals_declared : (program : Program) (lawful : Routine → Type 0) (r : Running) (formals : List Formal) → FormalsDeclared r.definition.locals formals → AreDeclared program lawful r (formal_variables formals) (inward r.given (types_of_formals formals))
formals_declared program lawful r [] h = tt
formals_declared program lawful r (f ∷ fs) h = subst (AreDeclared program lawful r (formal_variables (f ∷ fs))) (sym (body_put r f.type (types_of_formals fs))) (ap (put_in r) h.0, formals_declared program lawful r fs h.1)

-- ---- as computations

module _ (program : Program) (lawful : Routine → Type 0) (round : Round) (fine : Fine program (here round)) {A : Type 0} (base : List Cell) (P : List Cell → A → Type 0) (Q : List Cell → Ending → Type 0) where
  pub sound_handed_out : (types : List HeadingType) (os : List Object) (rest : List Object → Computation A) → TypesStand (here round).home types → AllTyped program lawful base os → all_fit (own_types os) (inward (here round).given types) ≡ true →
      ((handed : List Object) → AllTyped program lawful base handed → all_fit (own_types handed) (outward (here round).given types) ≡ true → Sound program lawful round base P Q (rest handed)) → Sound program lawful round base P Q (handed_out (here round) types os rest)
  sound_handed_out types os rest s typed fit h = sound_need program lawful round base P Q _ _ fit (sound_takes program lawful round base P Q _ _
      (h (seals (here round).given types os) (seals_typed program lawful base (here round).given (here round).home fine.home types os s typed fit) (seals_fit program lawful base (here round).given (here round).home types os s fit)))

  -- the arguments, which are opened and bound to the formals
  pub sound_opened : (os : List Object) (rest : Computation A) → AllTyped program lawful base os → all_fit (own_types os) (outward (here round).given (types_of_formals (here round).definition.formals)) ≡ true →
      Sound program lawful round base P Q rest → Sound program lawful round base P Q (argued (here round) os rest)
  sound_opened os rest typed fit h =
      let types = types_of_formals (here round).definition.formals in
      let inside = opened_all program lawful base (here round).given (here round).home fine.home types os fine.heading.formals typed fit in
      sound_need program lawful round base P Q _ _ fit (sound_takes program lawful round base P Q _ _ (sound_needed program lawful round base P Q (opens (here round).given types os) _ inside.objects inside.found
      (sound_names_each program lawful round fine.belongs base P Q rest h (formal_variables (here round).definition.formals) inside.objects (inward (here round).given types)
      (formals_declared program lawful (here round) (here round).definition.formals fine.heading.declared) inside.typed inside.fit)))

-- ---- exceptions of a heading

-- failure has one string
abbrev pub TextFits : List ℕ → List Object → Type 0
TextFits name os = bytes_eq name failure ≡ true → all_fit (own_types os) (type_and string_type no_types) ≡ true

-- types of an exception's objects that stand, and which the exception takes as callers see them
pub record Signalled (r : Running) (name : List ℕ) (raises : List Raise) (types : List HeadingType) : Type 0 where
  pub stand : TypesStand r.home types
  pub takes : (os : List Object) → all_fit (own_types os) (outward r.given types) ≡ true → Takes raises name os
  pub text : (os : List Object) → all_fit (own_types os) (outward r.given types) ≡ true → TextFits name os

abbrev some_in : {A : Type 0} → A → Option A → A
some_in x (Some y) = y
some_in x None = x

none_some : {A : Type 0} {x : A} → None ≡ Some x → ⊥
none_some e = subst is_none e tt
  where
    is_none : {A : Type 0} → Option A → Type 0
    is_none None = Unit {0}
    is_none (Some x) = ⊥

module _ (r : Running) (name : List ℕ) (types : List HeadingType) where
  same_signal : (raises : List Raise) (other : List HeadingType) → Some other ≡ Some types → Signalled r name raises other → Signalled r name raises types
  same_signal raises other e h = subst (Signalled r name raises) (ap (some_in other) e) h

  later_signal : (first : Raise) (rest : List Raise) → Signalled r name rest types → Signalled r name (first ∷ rest) types
  later_signal first rest h = record { stand = h.stand; takes = λ os fit. inr (h.takes os fit); text = h.text }

  module _ (other : bytes_eq name failure ≡ false) where
    signal_by : (e : Exception) (later : Option (List HeadingType)) (rest : List Raise) (b : Bool) → bytes_eq e.name name ≡ b → TypesStand r.home e.objects → cond b (Some e.objects) later ≡ Some types → (later ≡ Some types → Signalled r name rest types) →
        Signalled r name ((e.name, outward r.given e.objects) ∷ rest) types
    signal_by e later rest true is s found h = same_signal ((e.name, outward r.given e.objects) ∷ rest) e.objects found (record { stand = s; takes = λ os fit. inl (same_bytes e.name name is, fit); text = λ os fit yes. absurd (false≢true (sym other ∙ yes)) })
    signal_by e later rest false is s found h = later_signal (e.name, outward r.given e.objects) rest (h found)

    signal_found : (es : List Exception) → ExceptionsStand r.home es → signal_types es name ≡ Some types → Signalled r name (listed (signals_of r.given es)) types
    signal_found [] s e = absurd (none_some e)
    signal_found (x ∷ es) s e = signal_by x (signal_types es name) (listed (signals_of r.given es)) (bytes_eq x.name name) refl s.0 e (λ later. signal_found es s.1 later)

  failure_by : (b : Bool) → bytes_eq name failure ≡ b → ExceptionsStand r.home r.definition.signals → cond b (Some (plain string_type ∷ [])) (signal_types r.definition.signals name) ≡ Some types →
      Signalled r name (raised_by (signals_of r.given r.definition.signals)) types
  failure_by true is s e = same_signal (raised_by (signals_of r.given r.definition.signals)) (plain string_type ∷ []) e (record { stand = (tt, tt); takes = λ os fit. inl (sym (same_bytes name failure is), fit); text = λ os fit yes. fit })
  failure_by false is s e = later_signal _ (listed (signals_of r.given r.definition.signals)) (signal_found is r.definition.signals s e)

  pub signalled_here : ExceptionsStand r.home r.definition.signals → types_of_signal r name ≡ Some types → Signalled r name (raised_by (signals_of r.given r.definition.signals)) types
  signalled_here s e = failure_by (bytes_eq name failure) refl s e
