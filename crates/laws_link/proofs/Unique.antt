-- Only one list is what a program reaches.
use Rattle.std.proofs.Common.{◌≡◌, ◌∙◌, ⊎_elim, ℕ, suc, Bool, true, false, true≢false, List, [], ◌∷◌, find, Option, Some, None, Result, Ok, Err, slice_get, refl, ap, ap₂, sym, subst}
use Rattle.std.specs.Str.{bytes_eq}
use Rattle.clu_types.specs.CluType.{CluType, Actuals}
use Rattle.clu_builtin.specs.Operation.{Operation}
use Rattle.clu_specs.specs.Seen.{Used, a_module, an_operation, own_set_up, force_of}
use Rattle.clu_specs.specs.UseReading.{whole_use}
use Rattle.clu_library.specs.Contents.{Contents, body_of}
use Rattle.clu_library.specs.declared.body.Body.{Body}
use Rattle.clu_object.specs.declared.object.ObjRoutine.{ObjRoutine}
use Rattle.clu_link_meaning.specs.Walk.{with_all}
use Rattle.clu_link_meaning.specs.Same.{same_used}
use Rattle.clu_link_meaning.specs.Bounds.{weight}
use Rattle.clu_link_meaning.specs.Reach.{Source, of_module, of_builtin, source_for, source_of, Sort, HasOperation, DenotesOf, Denotes, DenotesNothing, DenotesIt, OneDenotesNothing, added, AllDenote, Fate, bodiless, is_stale, misfit, taken, used_by, Made, fits, UsesFate, FitFate, RoutineFate, BodyFate, stale_one, fresh_one, KeptFate, MadeFate, SourceFate, IsVisit, IsWalk}

-- a use is of one sort
module _ (library : Contents) where
  one_operation : (o : Option Operation) (a b : Sort) → HasOperation library o a → HasOperation library o b → a ≡ b
  one_operation None a b x y = elim x [ ]
  one_operation (Some o) a b x y = x.1 ∙ sym y.1

  one_of : (u : Used) (s : Source) (a b : Sort) → DenotesOf library u s a → DenotesOf library u s b → a ≡ b
  one_of u (of_module name routine cluster given) a b x y = x.1 ∙ sym y.1
  one_of (a_module name given) (of_builtin t op) a b x y = elim x [ ]
  one_of (an_operation t op) (of_builtin _ _) a b x y = one_operation _ a b x y
  one_of (own_set_up t) (of_builtin _ _) a b x y = elim x [ ]
  one_of (force_of t) (of_builtin _ _) a b x y = x ∙ sym y

  module _ (given : Actuals) where
    one_it : (r : Result Used ℕ) (u v : Used) (a b : Sort) → DenotesIt library given r u a → DenotesIt library given r v b → (u ≡ v) × (a ≡ b)
    one_it (Err left) u v a b x y = elim x [ ]
    one_it (Ok w) u v a b x y =
        let same : u ≡ v = x.1 ∙ sym y.1 in
        (same, one_of v (source_for v) a b (subst (λ z. Denotes library z a) same x.2) y.2)

    not_both : (r : Result Used ℕ) (u : Used) (a : Sort) → DenotesIt library given r u a → DenotesNothing library given r → ⊥
    not_both (Err left) u a x n = x
    not_both (Ok w) u a x n = n x.0 a (subst (λ z. Denotes library z a) x.1 x.2)

    one_all : (texts : List (List ℕ)) (us vs : List Used) → AllDenote library given texts us → AllDenote library given texts vs → us ≡ vs
    one_all [] us vs x y = x ∙ sym y
    one_all (t ∷ ts) us vs x y =
        let rest : x.0 ≡ y.0 = one_all ts x.0 y.0 x.1 y.1 in
        let it : (x.2.u ≡ y.2.u) × (x.2.sort ≡ y.2.sort) = one_it (whole_use t) x.2.u y.2.u x.2.sort y.2.sort x.2.denotes y.2.denotes in
        x.2.all ∙ ap (λ s. added s x.2.u x.0) it.1 ∙ ap (λ u. added y.2.sort u x.0) it.0 ∙ ap (added y.2.sort y.2.u) rest ∙ sym y.2.all

    never_both : (texts : List (List ℕ)) (us : List Used) → AllDenote library given texts us → OneDenotesNothing library given texts → ⊥
    never_both [] us x n = n
    never_both (t ∷ ts) us x n = ⊎_elim (λ (m : DenotesNothing library given (whole_use t)). not_both (whole_use t) x.2.u x.2.sort x.2.denotes m) (λ (m : OneDenotesNothing library given ts). never_both ts x.0 x.1 m) n

    -- an instance has one fate
    one_uses : (name : List ℕ) (nodes : ℕ) (uses : List (List ℕ)) (f g : Fate) → UsesFate library name given nodes uses f → UsesFate library name given nodes uses g → f ≡ g
    one_uses name nodes uses (bodiless m) g x y = elim x [ ]
    one_uses name nodes uses (is_stale m) g x y = elim x [ ]
    one_uses name nodes uses (misfit m) (bodiless k) x y = elim y [ ]
    one_uses name nodes uses (misfit m) (is_stale k) x y = elim y [ ]
    one_uses name nodes uses (misfit m) (misfit k) x y = ap misfit (x.0 ∙ sym y.0)
    one_uses name nodes uses (misfit m) (taken w us) x y = absurd (never_both uses us y.1 x.1)
    one_uses name nodes uses (taken w us) (bodiless k) x y = elim y [ ]
    one_uses name nodes uses (taken w us) (is_stale k) x y = elim y [ ]
    one_uses name nodes uses (taken w us) (misfit k) x y = absurd (never_both uses us x.1 y.1)
    one_uses name nodes uses (taken w us) (taken v vs) x y = ap (λ n. taken n us) (x.0 ∙ sym y.0) ∙ ap (taken v) (one_all uses us vs x.1 y.1)

    one_fit : (name : List ℕ) (o : ObjRoutine) (b : Bool) (f g : Fate) → FitFate library name given o b f → FitFate library name given o b g → f ≡ g
    one_fit name o false f g x y = x ∙ sym y
    one_fit name o true f g x y = one_uses name (weight given o) o.uses f g x y

    one_routine : (name : List ℕ) (o : Option ObjRoutine) (f g : Fate) → RoutineFate library name given o f → RoutineFate library name given o g → f ≡ g
    one_routine name None f g x y = x ∙ sym y
    one_routine name (Some o) f g x y = one_fit name o (fits given o) f g x y

    one_body : (name routine : List ℕ) (b : Body) (f g : Fate) → BodyFate library name routine given b f → BodyFate library name routine given b g → f ≡ g
    one_body name routine b f g (stale_one s e) (stale_one t d) = e ∙ sym d
    one_body name routine b f g (stale_one s e) (fresh_one n y) = absurd (n s)
    one_body name routine b f g (fresh_one n y) (stale_one s e) = absurd (n s)
    one_body name routine b f g (fresh_one n y) (fresh_one m z) = one_routine name (find (λ o. bytes_eq o.name routine) b.object.routines) f g y z

    one_kept : (name routine : List ℕ) (b : Option Body) (f g : Fate) → KeptFate library name routine given b f → KeptFate library name routine given b g → f ≡ g
    one_kept name routine None f g x y = x ∙ sym y
    one_kept name routine (Some b) f g x y = one_body name routine b f g x y

  module _ (made : CluType → List ℕ → Option Made) where
    one_made : (given : Actuals) (m : Option Made) (f g : Fate) → MadeFate made library given m f → MadeFate made library given m g → f ≡ g
    one_made given None f g x y = elim x [ ]
    one_made given (Some m) f g x y = x.2 ∙ ap (taken m.nodes) (one_all given m.uses x.0 y.0 x.1 y.1) ∙ sym y.2

    one_source : (s : Source) (f g : Fate) → SourceFate made library s f → SourceFate made library s g → f ≡ g
    one_source (of_module name routine cluster given) f g x y = one_kept given name routine (body_of library name) f g x y
    one_source (of_builtin t op) f g x y = one_made _ (made t op) f g x y

    one_visit : (u : Option Used) (f g : Fate) → IsVisit made library u f → IsVisit made library u g → f ≡ g
    one_visit None f g x y = elim x [ ]
    one_visit (Some u) f g x y = one_source (source_of u) f g x y

    -- the walk is one
    pub one_walk : (fs gs : List Fate) (n : ℕ) (us all other : List Used) → IsWalk made library n us fs all → IsWalk made library n us gs other → (fs ≡ gs) × (all ≡ other)
    one_walk [] [] n us all other x y = (refl, x.1 ∙ sym y.1)
    one_walk [] (g ∷ gs) n us all other x y = absurd (true≢false (sym y.0 ∙ x.0))
    one_walk (f ∷ fs) [] n us all other x y = absurd (true≢false (sym x.0 ∙ y.0))
    one_walk (f ∷ fs) (g ∷ gs) n us all other x y =
        let one : f ≡ g = one_visit (slice_get us n) f g x.1 y.1 in
        let rest : (fs ≡ gs) × (all ≡ other) = one_walk fs gs (suc n) (with_all same_used us (used_by g)) all other (subst (λ h. IsWalk made library (suc n) (with_all same_used us (used_by h)) fs all) one x.2) y.2 in
        (ap₂ (λ h hs. h ∷ hs) one rest.0, rest.1)
