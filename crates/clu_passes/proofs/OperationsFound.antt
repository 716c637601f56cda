-- The operation that a type has at a node, told by the tables, is what the definition finds; and so is a module by itself.
use Rattle.std.proofs.Common.{◌≡◌, ◌∙◌, ℕ, ◌<◌, Bool, true, false, if◌then◌else◌, List, [], ◌∷◌, map, length, bytes_eq, slice_get, option_map, Option, Some, None, refl, sym, ap}
use Rattle.std.specs.Option.{option_and_then}
use Rattle.clu_types.specs.CluType.{CluType, cluster_of, parameter, Actuals}
use Rattle.clu_types.specs.Arena.{type_at, type_of, types_of, IsArena}
use Rattle.clu_types.specs.declared.term.Term.{Term}
use Rattle.clu_types.specs.declared.term.Term.TheVariants as term
use Rattle.clu_types.specs.declared.term.TypeId.{TypeId}
use Rattle.clu_builtin.specs.Operation.{Needed, Operation}
use Rattle.clu_builtin.specs.Table.{operation as table}
use Rattle.clu_meaning.specs.Scoping.{Scope}
use Rattle.clu_checking.specs.Specifications.{Form, Heading, Specification, heading_named, operations_of}
use Rattle.clu_checking.specs.Files.{File, item, round, cluster_at}
use Rattle.clu_checking.specs.Headings.{specification, routines_of}
use Rattle.clu_checking.specs.Operations as finding
use Rattle.clu_checking.specs.Operations.{Asked, Found, builtin_found, exported_headings, headings_seen, needed, operation_found, routine_found}
use Rattle.clu_bindings.specs.declared.file.Headed.{Headed}
use Rattle.clu_bindings.specs.declared.meaning.ModuleId.{ModuleId}
use Rattle.clu_bindings.specs.Modules.{named}
use Rattle.clu_operations.specs.declared.found.View.{View}
use Rattle.clu_operations.specs.declared.found.View.TheVariants as view
use Rattle.clu_operations.specs.declared.words.NameId.{NameId}
use Rattle.clu_operations.specs.Builtins.{builtin_type, builtin_told, need_told, operation_if}
use Rattle.clu_operations.specs.Given.{told_round}
use Rattle.clu_operations.specs.Modules.{Module, known_of, routines_in}
use Rattle.clu_operations.specs.Operations.{is_of_name, unit_at, view_named, view_by, view_at}
use Rattle.clu_operations.specs.Operations as tables
use Rattle.clu_operations.specs.Shapes.{shape_of_term, shape_in, shape_of, name_of_term, name_in, cluster_name}
use Rattle.clu_operations.specs.declared.shapes.Shape.{Shape}
use Rattle.clu_operations.specs.declared.shapes.Shape.TheVariants as shape
use Rattle.clu_operations.specs.Wished.{cluster_given, told_in, told_by, told_of, wished_told, told_view, told_seen, told_shape, told_at}
use Rattle.clu_passes.specs.ConstantTables.{file_with}
use Rattle.clu_passes.specs.FoundTold.{ask_of, found_of, form_seen, module_found, IsTextKnown, TellHeads}
use Rattle.clu_passes.proofs.FactTypes.{IsTerm, term_of_type}
use Rattle.clu_passes.proofs.GivenFound.{round_same}
use Rattle.clu_passes.proofs.ModulesFound.{found_with, inside_same, routine_same, whole_same}

-- ---- built-in types

needs_same : (needs : List Needed) → map ask_of (map need_told needs) ≡ map needed needs
needs_same [] = refl
needs_same (n ∷ needs) = ap (λ (xs : List Asked). needed n ∷ xs) (needs_same needs)

builtin_same : (op : Operation) → found_of (builtin_told op) ≡ builtin_found op
builtin_same op = found_with (ap Some (by op.iter)) (needs_same op.needs)
  where
    by : (iter : Bool) → builtin_type iter op ≡ finding.builtin_type iter op
    by true = refl
    by false = refl

pub builtin_if : (o : Option Operation) → option_map found_of (option_map builtin_told o) ≡ option_map builtin_found o
builtin_if (Some op) = ap Some (builtin_same op)
builtin_if None = refl

-- ---- what kind of type has a number

abbrev pub shape_by : CluType → Shape
shape_by (cluster_of c given) = shape.Cluster
shape_by (parameter k) = shape.Parameter k
shape_by t = shape.Builtin

abbrev name_by : CluType → Option (List ℕ)
name_by (cluster_of c given) = Some c
name_by t = None

pub shape_same : (types : List CluType) (its : Term) → shape_of_term its ≡ shape_by (type_of types its)
shape_same types (term.Cluster c given) = refl
shape_same types (term.Param k) = refl
shape_same types _ = refl

name_same : (types : List CluType) (its : Term) → name_of_term its ≡ name_by (type_of types its)
name_same types (term.Cluster c given) = refl
name_same types _ = refl

-- the headings of a form, if there is one
abbrev headings_of : Option Form → List Heading
headings_of (Some form) = operations_of form
headings_of None = []

exported_same : (f : File) (o : Option Specification) → exported_headings f o ≡ headings_of (option_map (λ s. s.form) o)
exported_same f (Some s) = refl
exported_same f None = refl

module _ (h : Headed) (scope : Scope) (library : List Specification) (refused : List ℕ) (terms : List Term) (arena : IsArena terms) (tell : TellHeads h (file_with h.file scope library refused) (types_of terms))
    (names : List (List ℕ)) (of : TypeId) (within : of.0 < length terms) where
  abbrev f : File
  f = file_with h.file scope library refused

  abbrev types : List CluType
  types = types_of terms

  abbrev its : IsTerm terms of (type_at types of)
  its = term_of_type terms arena of (type_at types of) within refl

  shape_is : (t : CluType) → type_at types of ≡ t → shape_of terms of ≡ shape_by t
  shape_is t e = ap shape_in its.there ∙ shape_same types its.its ∙ ap shape_by (sym its.is ∙ e)

  name_is : (t : CluType) → type_at types of ≡ t → cluster_name terms of ≡ name_by t
  name_is t e = ap name_in its.there ∙ name_same types its.its ∙ ap name_by (sym its.is ∙ e)

  view_is : (n : Option ℕ) (c : List ℕ) (given : Actuals) → type_at types of ≡ cluster_of c given → view_at h.file terms n of ≡ view_named h.file n c
  view_is n c given e = ap (view_by h.file terms n of) (shape_is (cluster_of c given) e) ∙ ap (option_and_then (view_named h.file n)) (name_is (cluster_of c given) e)

  -- ---- of a cluster, by the name of its operation

  module _ (c : List ℕ) (given : Actuals) (is : type_at types of ≡ cluster_of c given) where
    -- what users see
    spec_form : (o : Option ModuleId) → named h.file.bindings.now.modules c ≡ o → option_map (λ s. s.form) (specification f c) ≡ option_map (form_seen types) (option_and_then (known_of h) o)
    spec_form o e = sym (tell.forms c) ∙ ap (λ (o : Option ModuleId). option_map (form_seen types) (option_and_then (known_of h) o)) e

    module _ (operation : NameId) (name : List ℕ) (at : slice_get names operation.0 ≡ Some name) where
      in_module : (id : ModuleId) (inside : Bool) (v : View) → told_of h types names id inside (record { of = of; operation = Some operation; view = v }) ≡ option_and_then (λ m. told_in types inside m (Some name) given) (known_of h id)
      in_module id inside v =
          ap (λ (t : CluType). option_and_then (λ m. option_and_then (told_by types inside m names (Some operation)) (cluster_given t)) (known_of h id)) is
          ∙ ap (λ (o : Option (List ℕ)). option_and_then (λ m. option_and_then (λ x. told_in types inside m (Some x) given) o) (known_of h id)) at

      abbrev seen : List Heading → Option Found
      seen headings = option_map (routine_found given) (heading_named headings name)

      by_users : (o : Option ModuleId) → named h.file.bindings.now.modules c ≡ o → option_map found_of (told_view h terms names of (Some operation) (option_map view.Outside o)) ≡ seen (exported_headings f (specification f c))
      unfolding wished_told
      by_users None e = sym (ap seen (exported_same f (specification f c) ∙ ap headings_of (spec_form None e)))
      by_users (Some id) e =
          ap (option_map found_of) (in_module id false (view.Outside id))
          ∙ by (known_of h id) refl
          ∙ sym (ap seen (exported_same f (specification f c) ∙ ap headings_of (spec_form (Some id) e)))
        where
          by : (o : Option Module) → known_of h id ≡ o → option_map found_of (option_and_then (λ m. told_in types false m (Some name) given) o) ≡ seen (headings_of (option_map (form_seen types) o))
          by (Some m) known = routine_same types given name m (tell.exported id m known)
          by None known = refl

      by_text : (n k : ℕ) → IsTextKnown h f types n k → option_map found_of (told_view h terms names of (Some operation) (option_map view.Inside (unit_at h.file (Some n)))) ≡ seen (routines_of f (item f k).cluster)
      unfolding wished_told
      by_text n k text =
          ap (λ (o : Option ModuleId). option_map found_of (told_view h terms names of (Some operation) (option_map view.Inside o))) text.unit
          ∙ ap (option_map found_of) (in_module text.id true (view.Inside text.id))
          ∙ ap (λ (o : Option Module). option_map found_of (option_and_then (λ m. told_in types true m (Some name) given) o)) text.known
          ∙ inside_same types given name (routines_in text.head.form)
          ∙ ap seen text.routines

      by_cluster : (n : ℕ) (o : Option ℕ) → (round f n).cluster ≡ o
          → option_map found_of (told_view h terms names of (Some operation) (if is_of_name (tables.first_name h.file o) c then option_map view.Inside (unit_at h.file (Some n)) else option_map view.Outside (named h.file.bindings.now.modules c)))
          ≡ seen (headings_seen f c (cluster_at f o))
      by_cluster n None e = by_users (named h.file.bindings.now.modules c) refl
      by_cluster n (Some k) e =
          ap (λ (o : Option (List ℕ)). option_map found_of (told_view h terms names of (Some operation) (if is_of_name o c then option_map view.Inside (unit_at h.file (Some n)) else option_map view.Outside (named h.file.bindings.now.modules c)))) (tell.texts n k e).name
          ∙ by (bytes_eq (item f k).cluster.name c)
        where
          by : (b : Bool) → option_map found_of (told_view h terms names of (Some operation) (if b then option_map view.Inside (unit_at h.file (Some n)) else option_map view.Outside (named h.file.bindings.now.modules c)))
              ≡ seen (if b then routines_of f (item f k).cluster else exported_headings f (specification f c))
          by true = by_text n k (tell.texts n k e)
          by false = by_users (named h.file.bindings.now.modules c) refl

      pub cluster_found : (n : ℕ) → option_map found_of (told_seen h terms names (Some n) of (Some operation)) ≡ operation_found f n (cluster_of c given) name
      unfolding told_seen
      cluster_found n = ap (λ (v : Option View). option_map found_of (told_view h terms names of (Some operation) v)) (view_is (Some n) c given is) ∙ by_cluster n (round f n).cluster refl

    -- ---- of a module by itself

    whole_module : (id : ModuleId) (v : View) → told_of h types names id false (record { of = of; operation = None; view = v }) ≡ option_and_then (λ m. told_in types false m None given) (known_of h id)
    whole_module id v = ap (λ (t : CluType). option_and_then (λ m. option_and_then (told_by types false m names None) (cluster_given t)) (known_of h id)) is

    whole_found : (o : Option ModuleId) → named h.file.bindings.now.modules c ≡ o → option_map found_of (told_view h terms names of None (option_map view.Outside o)) ≡ option_map (module_found given) (option_map (λ s. s.form) (specification f c))
    unfolding wished_told
    whole_found None e = sym (ap (option_map (module_found given)) (spec_form None e))
    whole_found (Some id) e = ap (option_map found_of) (whole_module id (view.Outside id)) ∙ by (known_of h id) ∙ sym (ap (option_map (module_found given)) (spec_form (Some id) e))
      where
        by : (o : Option Module) → option_map found_of (option_and_then (λ m. told_in types false m None given) o) ≡ option_map (module_found given) (option_map (form_seen types) o)
        by (Some m) = whole_same types given false m
        by None = refl

    pub itself_found : option_map found_of (told_seen h terms names None of None) ≡ option_map (module_found given) (option_map (λ s. s.form) (specification f c))
    unfolding told_seen
    itself_found = ap (λ (v : Option View). option_map found_of (told_view h terms names of None v)) (view_is None c given is) ∙ whole_found (named h.file.bindings.now.modules c) refl

  -- what is built in is no module
  pub nothing_itself : (t : CluType) → shape_by t ≡ shape.Builtin → type_at types of ≡ t → option_map found_of (told_seen h terms names None of None) ≡ None
  unfolding told_seen wished_told
  nothing_itself t plain e = ap (λ (s : Shape). option_map found_of (told_view h terms names of None (view_by h.file terms None of s))) (shape_is t e ∙ plain)

  -- ---- of any type

  module _ (n : ℕ) (operation : NameId) (name : List ℕ) (at : slice_get names operation.0 ≡ Some name) where
    abbrev Same : CluType → Type 0
    Same t = option_map found_of (told_at h terms names n of operation) ≡ operation_found f n t name

    by_shape : (t : CluType) → type_at types of ≡ t → option_map found_of (told_at h terms names n of operation) ≡ option_map found_of (told_shape h terms names n of operation (shape_by t))
    unfolding told_at
    by_shape t e = ap (λ (s : Shape). option_map found_of (told_shape h terms names n of operation s)) (shape_is t e)

    builtin_at : (t : CluType) → shape_by t ≡ shape.Builtin → operation_found f n t name ≡ option_map builtin_found (table t name) → type_at types of ≡ t → Same t
    unfolding told_seen wished_told
    builtin_at t plain finds e =
        by_shape t e
        ∙ ap (λ (s : Shape). option_map found_of (told_shape h terms names n of operation s)) plain
        ∙ ap (λ (s : Shape). option_map found_of (told_view h terms names of (Some operation) (view_by h.file terms (Some n) of s))) (shape_is t e ∙ plain)
        ∙ ap (λ (o : Option (List ℕ)). option_map found_of (option_map builtin_told (operation_if (type_at types of) o))) at
        ∙ ap (λ (x : CluType). option_map found_of (option_map builtin_told (table x name))) e
        ∙ builtin_if (table t name)
        ∙ sym finds

    by_type : (t : CluType) → type_at types of ≡ t → Same t
    by_type (cluster_of c given) e = by_shape (cluster_of c given) e ∙ cluster_found c given e operation name at n
    by_type (parameter k) e =
        by_shape (parameter k) e
        ∙ ap (λ (o : Option (List ℕ)). option_map found_of (option_and_then (told_round h types n k) o)) at
        ∙ round_same h scope library refused types tell n k name
    by_type _ e = builtin_at _ refl refl e

    pub operation_same : Same (type_at types of)
    operation_same = by_type (type_at types of) refl
