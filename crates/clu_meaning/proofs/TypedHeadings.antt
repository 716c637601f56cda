-- What headings seal and open fits: results, yields and signals, and arguments.
use Rattle.std.proofs.Common.{◌≡◌, refl, sym, subst}
use Rattle.std.proofs.lemmas.Bool.{and_parts}
use Rattle.std.proofs.lemmas.Slice.Eq.{bytes_eq-Decides}
use Rattle.std.specs.Prelude.{ℕ, Bool, true, false, ◌&&◌, List, [], ◌∷◌, Option, Some, None, cond, bytes_eq}
use Rattle.clu_types.specs.CluType.{CluType, Actuals}
use Rattle.clu_types.specs.Substituted.{substituted}
use Rattle.clu_layout.specs.Objects.{Routine, Object, sealed, Cell, own_type, own_types}
use Rattle.clu_layout.specs.Openers.{unsealed}
use Rattle.clu_layout.specs.SameType.{same_actuals, fits, all_fit}
use Rattle.clu_layout.proofs.SameTypeLaws.{actuals_are}
use Rattle.clu_meaning.specs.Lists.{in_front}
use Rattle.clu_meaning.specs.Programs.{HeadingType, plain, cvt, Formal, ClusterDefinition, cluster_module, Program}
use Rattle.clu_meaning.specs.Computations.{Computation}
use Rattle.clu_meaning.specs.Binding.{put_in, outward, inward, seal, opened, seals, handed_out, opens, types_of_formals, formal_variables, argued}
use Rattle.clu_meaning.specs.Operations.{module_named}
use Rattle.clu_meaning.specs.Calls.{Round, here}
use Rattle.clu_meaning.specs.Expressions.{sealed_by, seals_here, opens_here}
use Rattle.clu_meaning.specs.Typed.{representation_of, fits_in, IsTyped, AllTyped}
use Rattle.clu_meaning.specs.Headings.{body_type, IsOwn, TypesStand, FormalsDeclared}
use Rattle.clu_meaning.proofs.TypedElements.{IfThere, if_found, Is}
use Rattle.clu_meaning.proofs.TypedComputing.{Belongs, Stays, AllBind, Objects, stays_gives, stays_need, stays_needed, stays_takes, stays_names_each}
use Rattle.clu_meaning.proofs.TypedFacts.{typed_on}

-- the cluster in which a routine stands is the program's
abbrev pub HomeIs : Program → Option ClusterDefinition → Type 0
HomeIs program None = Unit {0}
HomeIs program (Some cluster) = module_named program cluster.name ≡ Some (cluster_module cluster)

module _ (program : Program) (lawful : Routine → Type 0) (base : List Cell) where
  -- ---- sealed objects

  -- an object that fits the representation of a cluster instance
  abbrev IsInside : List ℕ → Actuals → Object → Type 0
  IsInside cluster given o = IsTyped program lawful base o × (fits_in (representation_of given (module_named program cluster)) o ≡ true)

  inside_is : (cluster : ClusterDefinition) (given : Actuals) (o : Object) → HomeIs program (Some cluster) → IsTyped program lawful base o →
      fits (own_type o) (substituted given cluster.representation) ≡ true → IsInside cluster.name given o
  inside_is cluster given o home typed fit = (typed, subst (λ m. fits_in (representation_of given m) o ≡ true) (sym home) fit)

  unsealed_if : (cluster c : List ℕ) (given put : Actuals) (o : Object) (b : Bool) → (bytes_eq c cluster && same_actuals put given) ≡ b → IsInside c put o →
      IfThere (IsInside cluster given) (cond b (Some o) None)
  unsealed_if cluster c given put o true e h =
      let parts = and_parts (bytes_eq c cluster) (same_actuals put given) e in
      let name : c ≡ cluster = (bytes_eq-Decides c cluster).0 parts.0 in (
        h.0,
        subst (λ n. fits_in (representation_of given (module_named program n)) o ≡ true) name
            (subst (λ g. fits_in (representation_of g (module_named program c)) o ≡ true) (actuals_are put given parts.1) h.1),
      )
  unsealed_if cluster c given put o false e h = tt

  unsealed_inside : (cluster : List ℕ) (given : Actuals) (o : Object) → IsTyped program lawful base o → IfThere (IsInside cluster given) (unsealed cluster given o)
  unsealed_inside cluster given (sealed c put o) h = unsealed_if cluster c given put o (bytes_eq c cluster && same_actuals put given) refl h
  unsealed_inside cluster given _ h = tt

  -- what is found inside fits the representation
  represented : (cluster : ClusterDefinition) (given : Actuals) (found : Option Object) → HomeIs program (Some cluster) → IfThere (IsInside cluster.name given) found →
      IfThere (Is program lawful base (substituted given cluster.representation)) found
  represented cluster given None home h = tt
  represented cluster given (Some o) home h = (h.0, subst (λ m. fits_in (representation_of given m) o ≡ true) home h.1)

  -- ---- headings

  module _ (given : Actuals) where
    seal_typed : (cluster : ClusterDefinition) (abstract representation : CluType) (o : Object) → HomeIs program (Some cluster) → IsOwn cluster given abstract representation →
        IsTyped program lawful base o → fits (own_type o) (substituted given representation) ≡ true → IsTyped program lawful base (seal (substituted given abstract) o)
    seal_typed cluster abstract representation o home own typed fit = subst (λ t. IsTyped program lawful base (seal t o)) (sym own.type)
        (inside_is cluster own.actuals o home typed (subst (λ t. fits (own_type o) t ≡ true) (sym own.inside) fit))

    pub seals_typed : (home : Option ClusterDefinition) → HomeIs program home → (types : List HeadingType) (os : List Object) → TypesStand home types → AllTyped program lawful base os →
        all_fit (own_types os) (inward given types) ≡ true → AllTyped program lawful base (seals given types os)
    seals_typed home h [] os s t fit = tt
    seals_typed home h (plain u ∷ types) [] s t fit = tt
    seals_typed home h (cvt abstract representation ∷ types) [] s t fit = tt
    seals_typed home h (plain u ∷ types) (o ∷ os) s t fit =
        (t.0, seals_typed home h types os s.1 t.1 (and_parts (fits (own_type o) (substituted given u)) (all_fit (own_types os) (inward given types)) fit).1)
    seals_typed (Some cluster) h (cvt abstract representation ∷ types) (o ∷ os) s t fit =
        let parts = and_parts (fits (own_type o) (substituted given representation)) (all_fit (own_types os) (inward given types)) fit in
        (seal_typed cluster abstract representation o h (s.0 given) t.0 parts.0, seals_typed (Some cluster) h types os s.1 t.1 parts.1)
    seals_typed None h (cvt abstract representation ∷ types) (o ∷ os) s t fit = absurd s.0

    opened_is : (cluster : ClusterDefinition) (abstract representation : CluType) (o : Object) → HomeIs program (Some cluster) → IsOwn cluster given abstract representation →
        IsTyped program lawful base o → IfThere (Is program lawful base (substituted given representation)) (opened (substituted given abstract) o)
    opened_is cluster abstract representation o home own typed = subst (λ t. IfThere (Is program lawful base (substituted given representation)) (opened t o)) (sym own.type)
        (subst (λ t. IfThere (Is program lawful base t) (unsealed cluster.name own.actuals o)) own.inside
        (represented cluster own.actuals (unsealed cluster.name own.actuals o) home (unsealed_inside cluster.name own.actuals o typed)))

    -- as many objects as types, each as the body sees its type
    abbrev Bodies : List HeadingType → List Object → Type 0
    Bodies [] [] = Unit {0}
    Bodies (t ∷ ts) (x ∷ xs) = Is program lawful base (substituted given (body_type t)) x × Bodies ts xs
    Bodies _ _ = ⊥

    in_front_bodies : (t : HeadingType) (ts : List HeadingType) (x : Option Object) (xs : Option (List Object)) → IfThere (Is program lawful base (substituted given (body_type t))) x →
        IfThere (Bodies ts) xs → IfThere (Bodies (t ∷ ts)) (in_front x xs)
    in_front_bodies t ts (Some x) (Some xs) h k = (h, k)
    in_front_bodies t ts (Some x) None h k = tt
    in_front_bodies t ts None xs h k = tt

    opens_bodies : (home : Option ClusterDefinition) → HomeIs program home → (types : List HeadingType) (os : List Object) → TypesStand home types → AllTyped program lawful base os →
        all_fit (own_types os) (outward given types) ≡ true → IfThere (Bodies types) (opens given types os)
    opens_bodies home h [] [] s t fit = tt
    opens_bodies home h [] (o ∷ os) s t fit = tt
    opens_bodies home h (plain u ∷ types) [] s t fit = tt
    opens_bodies home h (cvt abstract representation ∷ types) [] s t fit = tt
    opens_bodies home h (plain u ∷ types) (o ∷ os) s t fit =
        let parts = and_parts (fits (own_type o) (substituted given u)) (all_fit (own_types os) (outward given types)) fit in
        in_front_bodies (plain u) types (Some o) (opens given types os) (t.0, parts.0) (opens_bodies home h types os s.1 t.1 parts.1)
    opens_bodies (Some cluster) h (cvt abstract representation ∷ types) (o ∷ os) s t fit =
        let parts = and_parts (fits (own_type o) (substituted given abstract)) (all_fit (own_types os) (outward given types)) fit in
        in_front_bodies (cvt abstract representation) types (opened (substituted given abstract) o) (opens given types os)
        (opened_is cluster abstract representation o h (s.0 given) t.0) (opens_bodies (Some cluster) h types os s.1 t.1 parts.1)
    opens_bodies None h (cvt abstract representation ∷ types) (o ∷ os) s t fit = absurd s.0

  -- arguments that are opened may be bound to the formals
  bodies_bind : (round : Round) (formals : List Formal) (xs : List Object) → FormalsDeclared (here round).definition.locals formals →
      Bodies (here round).given (types_of_formals formals) xs → AllTyped program lawful base xs × AllBind program lawful round (formal_variables formals) xs
  bodies_bind round [] [] d h = (tt, tt)
  bodies_bind round (f ∷ fs) (x ∷ xs) d h =
      let rest = bodies_bind round fs xs d.1 h.1 in
      ((h.0.0, rest.0), (subst (λ found. fits_in (put_in (here round) found) x ≡ true) (sym d.0) h.0.1, rest.1))
  bodies_bind round [] (x ∷ xs) d h = absurd h
  bodies_bind round (f ∷ fs) [] d h = absurd h

-- ---- as computations

module _ (program : Program) (lawful : Routine → Type 0) (round : Round) (home : HomeIs program (here round).home) {A : Type 0} (base : List Cell) (P : List Cell → A → Type 0) where
  pub stays_handed_out : (types : List HeadingType) (os : List Object) (rest : List Object → Computation A) → TypesStand (here round).home types → AllTyped program lawful base os →
      ((handed : List Object) → AllTyped program lawful base handed → Stays program lawful round base P (rest handed)) → Stays program lawful round base P (handed_out (here round) types os rest)
  stays_handed_out types os rest s t h = stays_need program lawful round base P _ _ (λ fit. stays_takes program lawful round base P _ _
      (h (seals (here round).given types os) (seals_typed program lawful base (here round).given (here round).home home types os s t fit)))

  pub stays_argued : Belongs program (here round) → FormalsDeclared (here round).definition.locals (here round).definition.formals →
      TypesStand (here round).home (types_of_formals (here round).definition.formals) → (os : List Object) (rest : Computation A) → AllTyped program lawful base os →
      Stays program lawful round base P rest → Stays program lawful round base P (argued (here round) os rest)
  stays_argued belongs declared s os rest t stays = stays_need program lawful round base P _ _ (λ fit. stays_takes program lawful round base P _ _
      (stays_needed program lawful round base P (opens (here round).given (types_of_formals (here round).definition.formals) os) _ (λ xs e.
      let bound = bodies_bind program lawful base round (here round).definition.formals xs declared
      (if_found (Bodies program lawful base (here round).given (types_of_formals (here round).definition.formals)) _ xs e
      (opens_bodies program lawful base (here round).given (here round).home home (types_of_formals (here round).definition.formals) os s t fit)) in
      stays_names_each program lawful round belongs base P rest stays (formal_variables (here round).definition.formals) xs bound.0 bound.1)))

-- ---- up and down

module _ (program : Program) (lawful : Routine → Type 0) (round : Round) (base : List Cell) where
  sealed_stays : (home : Option ClusterDefinition) → HomeIs program home → (given : Actuals) (o : Object) → IsTyped program lawful base o → (cluster : ClusterDefinition) → home ≡ Some cluster →
      Stays program lawful round base (Objects program lawful round) (sealed_by given cluster o)
  sealed_stays home h given o typed cluster e = stays_need program lawful round base (Objects program lawful round) _ _ (λ fit.
      let inside = inside_is program lawful base cluster given o (subst (HomeIs program) e h) typed fit in
      stays_gives program lawful round base (Objects program lawful round) (sealed cluster.name given o ∷ []) (λ cells l. (typed_on program lawful base cells l (sealed cluster.name given o) inside, tt)))

  pub stays_seals_here : HomeIs program (here round).home → (o : Object) → IsTyped program lawful base o → Stays program lawful round base (Objects program lawful round) (seals_here (here round) o)
  stays_seals_here h o typed = stays_needed program lawful round base (Objects program lawful round) (here round).home _ (λ cluster e.
      sealed_stays (here round).home h (here round).given o typed cluster e)

  pub stays_opens_here : (o : Object) → IsTyped program lawful base o → Stays program lawful round base (Objects program lawful round) (opens_here (here round) o)
  stays_opens_here o typed = stays_needed program lawful round base (Objects program lawful round) (here round).home _ (λ cluster e.
      stays_needed program lawful round base (Objects program lawful round) (unsealed cluster.name (here round).given o) _ (λ x found.
      stays_gives program lawful round base (Objects program lawful round) (x ∷ []) (λ cells l. (
        typed_on program lawful base cells l x
            (if_found (IsInside program lawful base cluster.name (here round).given) _ x found (unsealed_inside program lawful base cluster.name (here round).given o typed)).0,
        tt,
      ))))
