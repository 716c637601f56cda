-- In a file that stands alone each routine has, when it runs, the heading that is specified, with the actuals put in.
use Rattle.std.proofs.Common.{◌≡◌, ℕ, Bool, true, false, List, [], ◌∷◌, map, Option, None, Some, refl, sym, ap, ap₂, subst, ◌∙◌, inl, inr}
use Rattle.std.specs.Prelude.{◌||◌, filter, bytes_eq, cond, if◌then◌else◌}
use Rattle.std.specs.List.{list_any}
use Rattle.std.specs.Option.{option_map}
use Rattle.std.proofs.lemmas.Bool.{cases_Bool, cond-true, cond-false}
use Rattle.clu_base.proofs.Lists.{same_bytes, as_bytes}
use Rattle.clu_types.specs.CluType.{CluType, cluster_of, type_and, signal_and, Actuals}
use Rattle.clu_types.specs.Substituted.{substituted, types_substituted, signals_substituted}
use Rattle.clu_syntax.specs.declared.words.RoutineKind.{RoutineKind}
use Rattle.clu_syntax.specs.declared.words.RoutineKind.TheVariants as kind
use Rattle.clu_syntax.specs.Nodes.{file_of}
use Rattle.clu_syntax.specs.Syntax as syntax
use Rattle.clu_syntax.specs.Syntax.{Module, a_routine, a_cluster}
use Rattle.clu_names.specs.Scopes.{is_stream}
use Rattle.clu_layout.specs.Objects.{module_routine, operation_of}
use Rattle.clu_meaning.specs.Programs.{HeadingType, plain, cvt, Exception, ClusterDefinition}
use Rattle.clu_meaning.specs.Settling as settling
use Rattle.clu_meaning.specs.Settling.{comes_after}
use Rattle.clu_meaning.specs.Resolving.{Place, routine_definition, cluster_definition, cluster_place, module_of, formals_of, heading_types, exceptions_of, is_iterator}
use Rattle.clu_meaning.specs.Scoping.{parameter_number}
use Rattle.clu_meaning.specs.State.{Instance, of_routine}
use Rattle.clu_meaning.specs.Binding.{outward, types_of_formals}
use Rattle.clu_meaning.specs.Lists.{is_among}
use Rattle.clu_meaning.specs.Operations as operations
use Rattle.clu_meaning.specs.Operations.{signals_of, routine_type, headed, module_named, routine_named, with_definition, exports}
use Rattle.clu_checking.specs.Specifications as specifications
use Rattle.clu_checking.specs.Specifications.{Heading, Form, Specification, specification_in, heading_named, operations_of}
use Rattle.clu_checking.specs.Files.{File, module_name}
use Rattle.clu_checking.specs.Headings.{for_callers, types_by, signals_by, formal_types, outside_type, heading_of, routines_of, is_exported, is_refused_heading, with_heading, listed_headings, specification_of, own_specifications, or_kept, specification}
use Rattle.laws_accepted.specs.Lawful.{HasTexts}
use Rattle.laws_accepted.specs.Accepted.{program_of, module_called, routine_in, routines_in}
use Rattle.laws_accepted.proofs.OfKinds.{no}
use Rattle.laws_accepted.proofs.Meeting.{some_is, none_some}

-- ---- the heading of a running routine

module _ (given : Actuals) where
  outward_put : (types : List HeadingType) → outward given types ≡ types_substituted given (types_by for_callers types)
  outward_put [] = refl
  outward_put (plain t ∷ ts) = ap (type_and (substituted given t)) (outward_put ts)
  outward_put (cvt a r ∷ ts) = ap (type_and (substituted given a)) (outward_put ts)

  signals_put : (es : List Exception) → signals_of given es ≡ signals_substituted given (signals_by for_callers es)
  signals_put [] = refl
  signals_put (e ∷ es) = ap₂ (λ ts ss. signal_and e.name ts ss) (outward_put e.objects) (signals_put es)

  -- what a routine of a file shows to callers
  pub heading_put : (f : File) (i : Instance) (home : Option ClusterDefinition) (place : Place) (parameters : ℕ) (r : syntax.Routine) →
      operations.heading_of (record { instance = i; given = given; home = home; definition = routine_definition place parameters r }) ≡ substituted given (outside_type f place r)
  heading_put f i home place parameters r = by r.kind
    where
      by : (k : RoutineKind) → routine_type (is_iterator k) (outward given (types_of_formals (formals_of place r.arguments))) (outward given (heading_types place r.results)) (signals_of given (exceptions_of place r.signals))
          ≡ substituted given (settling.routine_type k (types_by for_callers (formal_types (formals_of place r.arguments))) (types_by for_callers (heading_types place r.results)) (signals_by for_callers (exceptions_of place r.signals)))
      by kind.Procedure = rw (outward_put (types_of_formals (formals_of place r.arguments)), outward_put (heading_types place r.results), signals_put (exceptions_of place r.signals)) refl
      by kind.Iterator = rw (outward_put (types_of_formals (formals_of place r.arguments)), outward_put (heading_types place r.results), signals_put (exceptions_of place r.signals)) refl

-- ---- headings in order

front_named : (h : Heading) (hs : List Heading) (name : List ℕ) → heading_named (with_heading h hs) name ≡ cond (bytes_eq h.name name) (Some h) (heading_named hs name)
front_named h [] name = refl
front_named h (g ∷ gs) name = by (bytes_eq h.name g.name) refl (comes_after h.name g.name) (front_named h gs name)
  where
    apart : (b c : Bool) → bytes_eq h.name g.name ≡ false → bytes_eq h.name name ≡ b → bytes_eq g.name name ≡ c →
        cond c (Some g) (cond b (Some h) (heading_named gs name)) ≡ cond b (Some h) (cond c (Some g) (heading_named gs name))
    apart true true e f k = no (sym e ∙ as_bytes h.name g.name (same_bytes h.name name f ∙ sym (same_bytes g.name name k)))
    apart true false e f k = refl
    apart false c e f k = refl

    same : (b c : Bool) → bytes_eq h.name g.name ≡ true → bytes_eq h.name name ≡ b → bytes_eq g.name name ≡ c → cond b (Some h) (heading_named gs name) ≡ cond b (Some h) (cond c (Some g) (heading_named gs name))
    same true c e f k = refl
    same false true e f k = no (sym f ∙ as_bytes h.name name (same_bytes h.name g.name e ∙ same_bytes g.name name k))
    same false false e f k = refl

    by : (b : Bool) → bytes_eq h.name g.name ≡ b → (after : Bool) → heading_named (with_heading h gs) name ≡ cond (bytes_eq h.name name) (Some h) (heading_named gs name) →
        heading_named (if b then h ∷ gs else if after then g ∷ with_heading h gs else h ∷ g ∷ gs) name ≡ cond (bytes_eq h.name name) (Some h) (heading_named (g ∷ gs) name)
    by true e after later = same (bytes_eq h.name name) (bytes_eq g.name name) e refl refl
    by false e true later = ap (cond (bytes_eq g.name name) (Some g)) later ∙ apart (bytes_eq h.name name) (bytes_eq g.name name) e refl refl
    by false e false later = refl

-- of two of one name the first counts
listed_named : (hs : List Heading) (name : List ℕ) → heading_named (listed_headings hs) name ≡ heading_named hs name
listed_named [] name = refl
listed_named (h ∷ hs) name = front_named h (listed_headings hs) name ∙ ap (cond (bytes_eq h.name name) (Some h)) (listed_named hs name)

-- those that pass a test of their name
filtered_named : (test : Heading → Bool) (passes : List ℕ → Bool) → ((h : Heading) → test h ≡ passes h.name) → (hs : List Heading) (name : List ℕ) (h : Heading) → heading_named (filter test hs) name ≡ Some h →
    (heading_named hs name ≡ Some h) × (passes name ≡ true)
filtered_named test passes is [] name h e = absurd (none_some e)
filtered_named test passes is (g ∷ gs) name h e = by (test g) refl (bytes_eq g.name name) refl e (λ k. filtered_named test passes is gs name h k)
  where
    by : (b : Bool) → test g ≡ b → (c : Bool) → bytes_eq g.name name ≡ c → heading_named (cond b (g ∷ filter test gs) (filter test gs)) name ≡ Some h →
        (heading_named (filter test gs) name ≡ Some h → (heading_named gs name ≡ Some h) × (passes name ≡ true)) → (heading_named (g ∷ gs) name ≡ Some h) × (passes name ≡ true)
    by true t true n e later = (
      cond-true (bytes_eq g.name name) (Some g) (heading_named gs name) n ∙ sym (cond-true (bytes_eq g.name name) (Some g) (heading_named (filter test gs) name) n) ∙ e,
      subst (λ x. passes x ≡ true) (same_bytes g.name name n) (sym (is g) ∙ t),
    )
    by true t false n e later =
        let k = later (sym (cond-false (bytes_eq g.name name) (Some g) (heading_named (filter test gs) name) n) ∙ e) in
        (cond-false (bytes_eq g.name name) (Some g) (heading_named gs name) n ∙ k.0, k.1)
    by false t true n e later =
        let k = later e in
        no (sym t ∙ is g ∙ subst (λ x. passes x ≡ true) (sym (same_bytes g.name name n)) k.1)
    by false t false n e later =
        let k = later e in
        (cond-false (bytes_eq g.name name) (Some g) (heading_named gs name) n ∙ k.0, k.1)

pub bytes_turned : (a b : List ℕ) → bytes_eq a b ≡ bytes_eq b a
bytes_turned a b = by (bytes_eq a b) refl (bytes_eq b a) refl
  where
    by : (x : Bool) → bytes_eq a b ≡ x → (y : Bool) → bytes_eq b a ≡ y → x ≡ y
    by true e true f = refl
    by false e false f = refl
    by true e false f = no (sym f ∙ as_bytes b a (sym (same_bytes a b e)))
    by false e true f = no (sym e ∙ as_bytes a b (sym (same_bytes b a f)))

among_any : (names : List (List ℕ)) (name : List ℕ) → list_any (bytes_eq name) names ≡ is_among names name
among_any [] name = refl
among_any (n ∷ ns) name = ap₂ (λ a b. a || b) (bytes_turned name n) (among_any ns name)

-- ---- modules by their names

module _ (f : File) where
  spec_name : (m : Module) → (specification_of f m).name ≡ module_name m
  spec_name (a_routine n es r) = refl
  spec_name (a_cluster n es c) = refl

  running_name : (m : Module) → operations.name_of_module (module_of f.scope m) ≡ module_name m
  running_name (a_routine n es r) = refl
  running_name (a_cluster n es c) = refl

  pub record IsModule (ms : List Module) (name : List ℕ) (m : Module) : Type 0 where
    pub called : module_called ms name ≡ Some m
    pub runs : module_named (map (module_of f.scope) ms) name ≡ Some (module_of f.scope m)

  called_runs : (ms : List Module) (name : List ℕ) (m : Module) → module_called ms name ≡ Some m → IsModule ms name m
  called_runs ms name m e = record { called = e; runs = by ms e }
    where
      by : (ms : List Module) → module_called ms name ≡ Some m → module_named (map (module_of f.scope) ms) name ≡ Some (module_of f.scope m)
      by [] e = absurd (none_some e)
      by (x ∷ xs) e = elim (cases_Bool (bytes_eq (module_name x) name)) [
        | inl b ↦ cond-true (bytes_eq (operations.name_of_module (module_of f.scope x)) name) (Some (module_of f.scope x)) (module_named (map (module_of f.scope) xs) name) (ap (λ y. bytes_eq y name) (running_name x) ∙ b)
            ∙ ap (λ y. Some (module_of f.scope y)) (some_is (sym (cond-true (bytes_eq (module_name x) name) (Some x) (module_called xs name) b) ∙ e))
        | inr b ↦ cond-false (bytes_eq (operations.name_of_module (module_of f.scope x)) name) (Some (module_of f.scope x)) (module_named (map (module_of f.scope) xs) name) (ap (λ y. bytes_eq y name) (running_name x) ∙ b)
            ∙ by xs (sym (cond-false (bytes_eq (module_name x) name) (Some x) (module_called xs name) b) ∙ e)
      ]

  -- the module of a specification
  pub record Specifies (name : List ℕ) (s : Specification) : Type 0 where
    pub module_ : Module
    pub is : specification_of f module_ ≡ s
    pub there : IsModule (file_of f.nodes) name module_

  specified_in : (ms : List Module) (name : List ℕ) (s : Specification) → specification_in (map (specification_of f) ms) name ≡ Some s → (m : Module) × (specification_of f m ≡ s) × (module_called ms name ≡ Some m)
  specified_in [] name s e = absurd (none_some e)
  specified_in (x ∷ xs) name s e = elim (cases_Bool (bytes_eq (module_name x) name)) [
    | inl b ↦ (
      x,
      some_is (sym (cond-true (bytes_eq (specification_of f x).name name) (Some (specification_of f x)) (specification_in (map (specification_of f) xs) name) (ap (λ y. bytes_eq y name) (spec_name x) ∙ b)) ∙ e),
      cond-true (bytes_eq (module_name x) name) (Some x) (module_called xs name) b,
    )
    | inr b ↦
        let k = specified_in xs name s (sym (cond-false (bytes_eq (specification_of f x).name name) (Some (specification_of f x)) (specification_in (map (specification_of f) xs) name) (ap (λ y. bytes_eq y name) (spec_name x) ∙ b)) ∙ e) in
        (k.0, k.1, cond-false (bytes_eq (module_name x) name) (Some x) (module_called xs name) b ∙ k.2)
  ]

  module _ (alone : f.library ≡ []) where
    pub specifies : (name : List ℕ) (s : Specification) → specification f name ≡ Some s → Specifies name s
    specifies name s e = by (is_stream name) e
      where
        own : (o : Option Specification) → specification_in (own_specifications f) name ≡ o → or_kept f o name ≡ Some s → Specifies name s
        own (Some x) is k =
            let m = specified_in (file_of f.nodes) name x is in
            record { module_ = m.0; is = m.1 ∙ some_is k; there = called_runs (file_of f.nodes) name m.0 m.2 }
        own None is k = absurd (none_some (sym (ap (λ l. specification_in l name) alone) ∙ k))

        by : (b : Bool) → (if b then None else or_kept f (specification_in (own_specifications f) name) name) ≡ Some s → Specifies name s
        by true k = absurd (none_some k)
        by false k = own (specification_in (own_specifications f) name) refl k

    -- the type of a heading
    typed : (place : Place) (r : syntax.Routine) (h : Heading) (t : CluType) → heading_of f place r ≡ h → h.type ≡ Some t → outside_type f place r ≡ t
    typed place r h t e k = by (is_refused_heading f r) (ap (λ (x : Heading). x.type) e ∙ k)
      where
        by : (b : Bool) → (if b then None else Some (outside_type f place r)) ≡ Some t → outside_type f place r ≡ t
        by true k = absurd (none_some k)
        by false k = some_is k

    the_heading : {h g : Heading} → specifications.of_routine h ≡ specifications.of_routine g → h ≡ g
    the_heading {h} {g} e = ap (λ o. get o h) e
      where
        get : Form → Heading → Heading
        get (specifications.of_routine x) other = x
        get (specifications.of_cluster ds hs) other = other

    no_routine : {A : Type 0} (ds : List specifications.Demand) (hs : List Heading) (h : Heading) → specifications.of_cluster ds hs ≡ specifications.of_routine h → A
    no_routine ds hs h e = no (ap is_routine e)
      where
        is_routine : Form → Bool
        is_routine (specifications.of_routine x) = true
        is_routine (specifications.of_cluster ds hs) = false

    module_headed : (m : List ℕ) (s : Specification) (h : Heading) (t : CluType) (given : Actuals) → specification f m ≡ Some s → s.form ≡ specifications.of_routine h → h.type ≡ Some t → headed (program_of f) (module_routine m given) ≡ Some (substituted given t)
    module_headed m s h t given e form typed_as = by x.module_ x.is x.there
      where
        x : Specifies m s
        x = specifies m s e

        by : (M : Module) → specification_of f M ≡ s → IsModule (file_of f.nodes) m M → headed (program_of f) (module_routine m given) ≡ Some (substituted given t)
        by (a_routine n es r) is there =
            let place : Place = record { scope = f.scope; home = None } in
            let same : heading_of f place r ≡ h = the_heading (ap (λ (y : Specification). y.form) is ∙ form) in
            ap (λ found. option_map operations.heading_of (operations.of_module (module_routine m given) given found)) there.runs
            ∙ ap Some (heading_put given f (of_routine (module_routine m given)) None place (parameter_number r.parameters) r)
            ∙ ap (λ u. Some (substituted given u)) (typed place r h t same typed_as)
        by (a_cluster n es c) is there = no_routine _ _ h (ap (λ (y : Specification). y.form) is ∙ form)

    -- the routine of a cluster
    routine_found : (place : Place) (parameters : ℕ) (rs : List syntax.Routine) (op : List ℕ) (h : Heading) → heading_named (map (heading_of f place) rs) op ≡ Some h →
        (r : syntax.Routine) × (heading_of f place r ≡ h) × (routine_named (map (routine_definition place parameters) rs) op ≡ Some (routine_definition place parameters r))
    routine_found place parameters [] op h e = absurd (none_some e)
    routine_found place parameters (r ∷ rs) op h e = elim (cases_Bool (bytes_eq r.name op)) [
      | inl b ↦ (
        r,
        some_is (sym (cond-true (bytes_eq r.name op) (Some (heading_of f place r)) (heading_named (map (heading_of f place) rs) op) b) ∙ e),
        cond-true (bytes_eq r.name op) (Some (routine_definition place parameters r)) (routine_named (map (routine_definition place parameters) rs) op) b,
      )
      | inr b ↦
          let k = routine_found place parameters rs op h (sym (cond-false (bytes_eq r.name op) (Some (heading_of f place r)) (heading_named (map (heading_of f place) rs) op) b) ∙ e) in
          (k.0, k.1, cond-false (bytes_eq r.name op) (Some (routine_definition place parameters r)) (routine_named (map (routine_definition place parameters) rs) op) b ∙ k.2)
    ]

    cluster_headed : (c op : List ℕ) (h : Heading) (t : CluType) (given : Actuals) → routines_in f c op ≡ Some h → h.type ≡ Some t → headed (program_of f) (operation_of (cluster_of c given) op) ≡ Some (substituted given t)
    cluster_headed c op h t given e typed_as = by (module_called (file_of f.nodes) c) refl e
      where
        by : (o : Option Module) → module_called (file_of f.nodes) c ≡ o → routine_in f op o ≡ Some h → headed (program_of f) (operation_of (cluster_of c given) op) ≡ Some (substituted given t)
        by (Some (a_cluster n es C)) is k =
            let place = cluster_place f.scope C in
            let there = called_runs (file_of f.nodes) c (a_cluster n es C) is in
            let found = routine_found place (parameter_number C.parameters) C.routines op h (sym (listed_named (map (heading_of f place) C.routines) op) ∙ k) in
            ap (λ m. option_map operations.heading_of (operations.of_cluster (operation_of (cluster_of c given) op) op given m)) there.runs
            ∙ ap (λ d. option_map operations.heading_of (with_definition (operation_of (cluster_of c given) op) given (Some (cluster_definition f.scope C)) d)) found.2
            ∙ ap Some (heading_put given f (of_routine (operation_of (cluster_of c given) op)) (Some (cluster_definition f.scope C)) place (parameter_number C.parameters) found.0)
            ∙ ap (λ u. Some (substituted given u)) (typed place found.0 h t found.1 typed_as)
        by (Some (a_routine n es r)) is k = absurd (none_some k)
        by None is k = absurd (none_some k)

    exported_there : (c op : List ℕ) (s : Specification) (h : Heading) → specification f c ≡ Some s → heading_named (operations_of s.form) op ≡ Some h → (routines_in f c op ≡ Some h) × (exports (module_named (program_of f) c) op ≡ true)
    exported_there c op s h e k = by x.module_ x.is x.there
      where
        x : Specifies c s
        x = specifies c s e

        by : (M : Module) → specification_of f M ≡ s → IsModule (file_of f.nodes) c M → (routines_in f c op ≡ Some h) × (exports (module_named (program_of f) c) op ≡ true)
        by (a_routine n es r) is there = absurd (none_some (ap (λ (y : Specification). heading_named (operations_of y.form) op) is ∙ k))
        by (a_cluster n es C) is there =
            let found = filtered_named (is_exported f C) (is_among C.exports) (λ g. among_any C.exports g.name) (routines_of f C) op h (ap (λ (y : Specification). heading_named (operations_of y.form) op) is ∙ k) in
            (ap (routine_in f op) there.called ∙ found.0, ap (λ m. exports m op) there.runs ∙ found.1)

    pub texts_there : HasTexts (specification f) (routines_in f) (program_of f)
    texts_there = record { of_modules = module_headed; of_clusters = cluster_headed; exported = exported_there }
