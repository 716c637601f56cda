-- The modules that a file may name are those of the definitions, by name.
use Rattle.std.proofs.Common.{◌≡◌, ◌∙◌, ◌⊎◌, ℕ, zero, suc, ◌+◌, ◌-◌, ◌^◌, min, ◌<◌, ◌≤◌, ◌&&◌, ◌||◌, Bool, true, false, cond, if◌then◌else◌, List, [], ◌∷◌, ◌++◌, length, map, take, flat_map, find, Option, Some, None, slice_get, option_map, is_some, refl, ap, ap₂, sym, subst, inl, inr, arith, length-append}
use Rattle.std.specs.Prelude.{bytes_eq}
use Rattle.std.proofs.Math.Nat.{min-eq_left}
use Rattle.std.proofs.lemmas.Bool.{cases_lt}
use Rattle.std.proofs.lemmas.List.{take_all, length-take-le, map-append}
use Rattle.std.proofs.lemmas.Option.{slice_get_within}
use Rattle.clu_base.specs.declared.constants.Const.{Const}
use Rattle.clu_base.proofs.Lists.{map_size}
use Rattle.clu_tree.specs.declared.node.Node.{Node}
use Rattle.clu_tree.specs.declared.node.NodeKind.{NodeKind}
use Rattle.clu_tree.specs.declared.node.NodeKind.TheVariants as kind
use Rattle.clu_tree.specs.Nodes.{modules}
use Rattle.clu_parser.specs.Trees.{Text}
use Rattle.clu_types.specs.CluType.{CluType}
use Rattle.clu_types.specs.declared.spec.ParamKind.{ParamKind}
use Rattle.clu_types.specs.declared.spec.Form.{Form}
use Rattle.clu_types.specs.declared.spec.Form.TheVariants as form
use Rattle.clu_types.specs.declared.spec.Spec.{Spec}
use Rattle.clu_types.specs.declared.term.Term.{Term}
use Rattle.clu_types.specs.declared.term.TypeId.{TypeId}
use Rattle.clu_types.specs.Arena.{types_of, type_at, IsArena}
use Rattle.clu_syntax.specs.declared.round.Round.{Round}
use Rattle.clu_syntax.specs.Rounds.{AreRounds, round_at, unit_in}
use Rattle.clu_syntax.specs.Kinds.{is_type, kind_at}
use Rattle.clu_syntax.specs.Splits.{is_of, first_name, run, type_of}
use Rattle.clu_syntax.specs.Syntax.{Identifier, TypeExpression, Parameter, Constant, Module, a_routine, a_cluster}
use Rattle.clu_syntax.specs.Items.{Item, modules_at}
use Rattle.clu_syntax.specs.Nodes.{before, item_at, file_of, routine_of, cluster_of}
use Rattle.clu_names.specs.Scopes.{is_stream}
use Rattle.clu_meaning.specs.Scoping.{Scope}
use Rattle.clu_meaning.specs.Settling.{Value as Settled, settled, settled_type, type_settled, value_of_constant}
use Rattle.clu_checking.specs.Specifications.{Specification, specification_in, specification_told, form_told}
use Rattle.clu_checking.specs.Files.{File, parameters_in}
use Rattle.clu_checking.specs.Headings.{kind_of_type, kind_unless, kind_of_parameter, kinds_in, types_in, specification, specification_of, own_specifications, or_kept}
use Rattle.clu_checking.specs.ConstantRules as rules_of
use Rattle.clu_settle.specs.declared.value.Value.{Value}
use Rattle.clu_settle.specs.declared.value.Value.TheVariants as value
use Rattle.clu_settle.specs.Lists.{type_id, value_of}
use Rattle.clu_settle.specs.Names.{names_of}
use Rattle.clu_settle.specs.Values.{told, Agrees, TypeWithin}
use Rattle.clu_settle.specs.Settled.{AreSettled}
use Rattle.clu_settle.proofs.Parts.{constant_is, type_is_constant}
use Rattle.clu_parts.proofs.Fitting.{AreParts}
use Rattle.clu_declares.specs.Declares.{IsParsed}
use Rattle.clu_declares.proofs.Below.{same_kind, item_there}
use Rattle.clu_declares.proofs.Facts.{There, there, ModuleIs}
use Rattle.clu_head.specs.ParameterKinds as head
use Rattle.clu_head.specs.ParameterKinds.{kinds_of, kind_declared}
use Rattle.clu_bindings.specs.declared.file.File.{File as Read}
use Rattle.clu_bindings.specs.declared.bindings.ModuleKnown.{ModuleKnown}
use Rattle.clu_bindings.specs.Tables.{optional}
use Rattle.clu_bindings.specs.Headlines.{Headline, headline_at, headline_of, defined_in, headline_by}
use Rattle.clu_bindings.specs.Parameters.{of_parm, of_parms, of_headline, of_unit}
use Rattle.clu_bindings.specs.Modules.{named, module_id, place_from, AreModules, is_routine_form, kept_in, own_headed, own_in, modules_in}
use Rattle.clu_bindings.specs.Bindings.{AreBindings}
use Rattle.clu_bindings.specs.Readers as read
use Rattle.clu_bindings.specs.Readers.{known_in, declared_parameter}
use Rattle.clu_bindings.proofs.Appending.{own_none, own_more}
use Rattle.clu_passes.specs.ConstantTables.{file_with, IsTypeOf, IsKnown}
use Rattle.clu_passes.specs.Legal.{AreLegalKnown}
use Rattle.clu_passes.proofs.Actuals.{type_kind}
use Rattle.clu_passes.proofs.ConstantNodes.{within_at}
use Rattle.clu_passes.proofs.DeclaredParameters.{AreTypes, facts, headline_is, unit_types, of_node}
use Rattle.clu_passes.proofs.Seen.{type_told}
use Rattle.clu_passes.proofs.Strings.{value_same}

-- ---- a module that is known, and its specification

-- the kinds of its parameters are those of the specification, if this is so
pub record IsAlike (P : Type 0) (m : Identifier × ModuleKnown) (s : Specification) : Type 0 where
  pub name : m.0 ≡ s.name
  pub kinds : P → m.1.kinds ≡ s.kinds
  pub routine : m.1.is_routine ≡ rules_of.is_routine_form s.form

abbrev pub AreAlike : Type 0 → List (Identifier × ModuleKnown) → List Specification → Type 0
AreAlike P (m ∷ ms) (s ∷ ss) = IsAlike P m s × AreAlike P ms ss
AreAlike P [] [] = Unit {0}
AreAlike P _ _ = ⊥

abbrev pub AreSame : Type 0 → Option ModuleKnown → Option Specification → Type 0
AreSame P (Some k) (Some s) = (P → k.kinds ≡ s.kinds) × (k.is_routine ≡ rules_of.is_routine_form s.form)
AreSame P None None = Unit {0}
AreSame P _ _ = ⊥

both_alike : (P : Type 0) (xs : List (Identifier × ModuleKnown)) (ss : List Specification) (ys : List (Identifier × ModuleKnown)) (ts : List Specification) → AreAlike P xs ss → AreAlike P ys ts → AreAlike P (xs ++ ys) (ss ++ ts)
both_alike P [] [] ys ts a b = b
both_alike P [] (s ∷ ss) ys ts a b = absurd a
both_alike P (x ∷ xs) [] ys ts a b = absurd a
both_alike P (x ∷ xs) (s ∷ ss) ys ts a b = (a.0, both_alike P xs ss ys ts a.1 b)

as_same : (P : Type 0) (x a : Option ModuleKnown) (y b : Option Specification) → x ≡ a → y ≡ b → AreSame P a b → AreSame P x y
as_same P x a y b e g same = subst (λ (x : Option ModuleKnown). AreSame P x y) (sym e) (subst (AreSame P a) (sym g) same)

-- ---- the first of a name

abbrev pub first_known : List (Identifier × ModuleKnown) → Identifier → Option ModuleKnown
first_known [] name = None
first_known (m ∷ ms) name = if bytes_eq m.0 name then Some m.1 else first_known ms name

same_first : (P : Type 0) (ms : List (Identifier × ModuleKnown)) (ss : List Specification) → AreAlike P ms ss → (name : Identifier) → AreSame P (first_known ms name) (specification_in ss name)
same_first P [] [] a name = tt
same_first P [] (s ∷ ss) a name = absurd a
same_first P (m ∷ ms) [] a name = absurd a
same_first P (m ∷ ms) (s ∷ ss) a name =
    subst (λ (x : Identifier). AreSame P (if bytes_eq x name then Some m.1 else first_known ms name) (specification_in (s ∷ ss) name)) (sym a.0.name)
    (by (bytes_eq s.name name) (first_known ms name) (specification_in ss name) (same_first P ms ss a.1 name))
  where
    by : (b : Bool) (x : Option ModuleKnown) (y : Option Specification) → AreSame P x y → AreSame P (if b then Some m.1 else x) (cond b (Some s) y)
    by true x y same = (a.0.kinds, a.0.routine)
    by false x y same = same

-- what a place that is found says
abbrev pub PlaceSays : ℕ → List (Identifier × ModuleKnown) → Option ℕ → Option ModuleKnown → Type 0
PlaceSays k ms None o = o ≡ None
PlaceSays k ms (Some j) o = (i : ℕ) × (j ≡ k + i) × (i < length ms) × (slice_get (map (λ m. m.1) ms) i ≡ o)

later_says : (k : ℕ) (m : Identifier × ModuleKnown) (ms : List (Identifier × ModuleKnown)) (place : Option ℕ) (o : Option ModuleKnown) → PlaceSays (suc k) ms place o → PlaceSays k (m ∷ ms) place o
later_says k m ms None o e = e
later_says k m ms (Some j) o (i, e, l, at) = (suc i, omega (arith, e), omega (arith, l), at)

pub place_says : (k : ℕ) (ms : List (Identifier × ModuleKnown)) (name : Identifier) → PlaceSays k ms (place_from k ms name) (first_known ms name)
place_says k [] name = refl
place_says k (m ∷ ms) name = by (bytes_eq m.0 name) (place_says (suc k) ms name)
  where
    by : (b : Bool) → PlaceSays (suc k) ms (place_from (suc k) ms name) (first_known ms name) → PlaceSays k (m ∷ ms) (if b then Some k else place_from (suc k) ms name) (if b then Some m.1 else first_known ms name)
    by true rest = (0, omega arith, omega arith, refl)
    by false rest = later_says k m ms (place_from (suc k) ms name) (first_known ms name) rest

module _ (r : Read) (ms : List (Identifier × ModuleKnown)) (are : AreModules r.bindings.now.modules ms) (few : length ms < 2 ^ 32 - 1) where
  at_place : (place : Option ℕ) (o : Option ModuleKnown) → PlaceSays 0 ms place o → known_in r (option_map module_id place) ≡ o
  at_place None o e = sym e
  at_place (Some j) o (i, e, l, at) =
      let small : j ≤ 2 ^ 32 - 1 = omega (arith, e, l, few) in
      let itself : j ≡ i = omega (arith, e) in
      ap (λ (k : ℕ). slice_get r.bindings.now.modules.known.items k) (min-eq_left small ∙ itself)
      ∙ ap (λ (xs : List ModuleKnown). slice_get xs i) are.known ∙ at

  -- what is known of the module of a name
  pub found_known : (name : Identifier) (s : Bool) → is_stream name ≡ s → known_in r (named r.bindings.now.modules name) ≡ (if s then None else first_known ms name)
  found_known name true e = ap (known_in r) (are.named name ∙ ap (λ (s : Bool). if s then None else option_map module_id (place_from 0 ms name)) e)
  found_known name false e =
      ap (known_in r) (are.named name ∙ ap (λ (s : Bool). if s then None else option_map module_id (place_from 0 ms name)) e)
      ∙ at_place (place_from 0 ms name) (first_known ms name) (place_says 0 ms name)

-- ---- those of a library

same_form : (types : List CluType) (x : Form) → is_routine_form x ≡ rules_of.is_routine_form (form_told types x)
same_form types (form.Routine op) = refl
same_form types (form.Cluster demands ops) = refl

kept_alike : (P : Type 0) (library : List Spec) → AreAlike P (kept_in library) (map specification_told library)
kept_alike P [] = tt
kept_alike P (s ∷ library) = (record { name = refl; kinds = λ p. refl; routine = same_form (types_of s.types) s.form }, kept_alike P library)

kept_size : (library : List Spec) → length (kept_in library) ≡ length library
kept_size [] = refl
kept_size (s ∷ library) = ap suc (kept_size library)

pub kept_more : (f : File) (ss : List Specification) (name : Identifier) → or_kept f (specification_in ss name) name ≡ specification_in (ss ++ f.library) name
kept_more f [] name = refl
kept_more f (s ∷ ss) name = by (bytes_eq s.name name) (specification_in ss name) (specification_in (ss ++ f.library) name) (kept_more f ss name)
  where
    by : (b : Bool) (x y : Option Specification) → or_kept f x name ≡ y → or_kept f (cond b (Some s) x) name ≡ cond b (Some s) y
    by true x y e = refl
    by false x y e = e

-- ---- kinds of parameters

each_same : {X Y : Type 0} (g : X → Y) (x : X) (names : List Identifier) → map (λ (name : Identifier). g x) names ≡ map g (map (λ name. x) names)
each_same g x [] = refl
each_same g x (name ∷ names) = ap (λ (zs : List _). g x ∷ zs) (each_same g x names)

-- of the definitions, by the types with which they are declared
pub kinds_by_types : (f : File) (ps : List Parameter) → kinds_in f ps ≡ map (kind_of_parameter f) (types_in ps)
kinds_by_types f [] = refl
kinds_by_types f (p ∷ ps) =
    ap₂ (λ (xs ys : List (Option ParamKind)). xs ++ ys) (each_same (kind_of_parameter f) p.type p.names) (kinds_by_types f ps)
    ∙ sym (map-append (kind_of_parameter f) (map (λ name. p.type) p.names) (types_in ps))

module _ (types : List Term) (values : List Value) (nodes : List Node) where
  abbrev of_type : Option ℕ → Option ParamKind
  of_type o = kind_declared types values o

  parm_kinds : (o : Option Node) → head.kinds_at types values nodes o ≡ map of_type (of_parm nodes o)
  parm_kinds None = refl
  parm_kinds (Some node) = by (is_of kind.Parm node.kind)
    where
      by : (b : Bool) → (if b then map (λ (name : Identifier). of_type (type_of nodes node.children)) node.names else []) ≡ map of_type (if b then map (λ name. type_of nodes node.children) node.names else [])
      by true = each_same of_type (type_of nodes node.children) node.names
      by false = refl

  -- of the table, likewise
  pub kinds_by_nodes : (ns : List ℕ) → kinds_of types values nodes ns ≡ map of_type (of_parms nodes ns)
  unfolding kinds_of of_parms
  kinds_by_nodes [] = refl
  kinds_by_nodes (n ∷ ns) =
      ap₂ (λ (xs ys : List (Option ParamKind)). xs ++ ys) (parm_kinds (slice_get nodes n)) (kinds_by_nodes ns)
      ∙ sym (map-append of_type (of_parm nodes (slice_get nodes n)) (of_parms nodes ns))

module _ (t : Text) (r : Read) (scope : Scope) (library : List Specification) (refused : List ℕ) (types : List Term) (arena : IsArena types) (known : AreSettled r.syntax.now scope types r.constants.now r.values.now)
    (parsed : IsParsed t r.syntax.now) (are : AreRounds r.syntax.now r.rounds.now) (tables : AreBindings r.syntax.now r.rounds.now r.names.now r.values.now r.bindings.now) where
  abbrev nodes : List Node
  nodes = r.syntax.now

  abbrev rounds : List Round
  rounds = r.rounds.now

  abbrev pub f : File
  f = file_with r scope library refused

  -- a type that is known has a number
  pub record HasType (c : ℕ) : Type 0 where
    pub id : TypeId
    pub value : type_id (value_of r.values.now c) ≡ Some id
    pub less : id.0 < length types

  has_type : (c : ℕ) → is_type (kind_at nodes c) ≡ true → IsKnown r c → HasType c
  has_type c is here = by (value_of r.values.now c) refl (λ e. here (value_same r.values.now c ∙ e)) within agrees
    where
      within : TypeWithin (length types) (value_of r.values.now c)
      within = subst (TypeWithin (length types)) (value_same r.values.now c) (within_at (TypeWithin (length types)) r.values.now c known.within.0 tt)

      agrees : Agrees (told (types_of types) r.constants.now (value_of r.values.now c)) (settled_type (type_settled scope (item_at nodes c).type))
      agrees = subst (λ (k : Constant). Agrees (told (types_of types) r.constants.now (value_of r.values.now c)) (value_of_constant scope (settled scope) k)) (constant_is nodes c true is) (known.each c (type_is_constant nodes c is))

      by : (v : Value) → value_of r.values.now c ≡ v → (v ≡ value.Lost → ⊥) → TypeWithin (length types) v → Agrees (told (types_of types) r.constants.now v) (settled_type (type_settled scope (item_at nodes c).type)) → HasType c
      by value.Nothing at here within e = absurd (cc)
      by value.Lost at here within e = absurd (here refl)
      by (value.Constant k) at here within e = absurd (cc)
      by (value.Parameter k) at here within e = absurd (cc)
      by (value.Type id) at here within e = record { id = id; value = ap type_id at; less = within }

  -- one that isn't known has no kind
  legal_kind : AreLegalKnown f r.values.now → (c : ℕ) → is_type (kind_at nodes c) ≡ true → head.kind_of_type types (type_id (value_of r.values.now c)) ≡ kind_of_parameter f (Some (item_at nodes c).type)
  legal_kind legal c is = by (value_of r.values.now c) refl
    where
      known_kind : (value_of r.values.now c ≡ value.Lost → ⊥) → head.kind_of_type types (type_id (value_of r.values.now c)) ≡ kind_of_parameter f (Some (item_at nodes c).type)
      known_kind here =
          let k : HasType c = has_type c is (λ e. here (sym (value_same r.values.now c) ∙ e)) in
          ap (head.kind_of_type types) k.value
          ∙ sym (type_kind types arena k.id k.less)
          ∙ sym (ap kind_of_type (type_told nodes scope types r.constants.now r.values.now known c is k.id k.value))
          ∙ sym (ap (λ (b : Bool). kind_unless b (kind_of_type (type_settled scope (item_at nodes c).type))) ((legal c is).found here))

      by : (v : Value) → value_of r.values.now c ≡ v → head.kind_of_type types (type_id (value_of r.values.now c)) ≡ kind_of_parameter f (Some (item_at nodes c).type)
      by value.Lost at = ap (λ (v : Value). head.kind_of_type types (type_id v)) at ∙ sym ((legal c is).lost at)
      by value.Nothing at = known_kind (λ e. cc)
      by (value.Type id) at = known_kind (λ e. cc)
      by (value.Constant k) at = known_kind (λ e. cc)
      by (value.Parameter k) at = known_kind (λ e. cc)

  kind_same : AreLegalKnown f r.values.now → (x : Option ℕ) (y : Option TypeExpression) → IsTypeOf nodes x y → kind_declared types r.values.now x ≡ kind_of_parameter f y
  kind_same legal None None is = refl
  kind_same legal None (Some y) is = absurd is
  kind_same legal (Some c) None is = absurd is
  kind_same legal (Some c) (Some y) is = legal_kind legal c is.0 ∙ ap (λ (y : TypeExpression). kind_of_parameter f (Some y)) is.1

  kinds_same : AreLegalKnown f r.values.now → (xs : List (Option ℕ)) (ys : List (Option TypeExpression)) → AreTypes nodes xs ys → map (kind_declared types r.values.now) xs ≡ map (kind_of_parameter f) ys
  kinds_same legal [] [] is = refl
  kinds_same legal [] (y ∷ ys) is = absurd is
  kinds_same legal (x ∷ xs) [] is = absurd is
  kinds_same legal (x ∷ xs) (y ∷ ys) is =
      ap₂ (λ (k : Option ParamKind) (ks : List (Option ParamKind)). k ∷ ks)
      (kind_same legal x y is.0)
      (kinds_same legal xs ys is.1)

  -- ---- a module of the file

  module _ (u : ℕ) (node : Node) (at : slice_get nodes u ≡ Some node) (is : node.kind ≡ kind.Module) where
    abbrev pub its : ModuleIs t nodes rounds parsed are u node
    its = facts t nodes rounds parsed are u node at is

    unit_kinds : (h : Headline) → headline_at nodes u ≡ Some h → AreLegalKnown f r.values.now → kinds_of types r.values.now nodes h.parameters ≡ kinds_in f (parameters_in (item_at nodes u).module_)
    unit_kinds h e parameters =
        kinds_by_nodes types r.values.now nodes h.parameters
        ∙ sym (ap (λ (o : Option Headline). map (kind_declared types r.values.now) (of_headline nodes o)) e)
        ∙ kinds_same parameters (of_unit nodes u) (types_in (parameters_in (item_at nodes u).module_)) (unit_types t nodes rounds parsed are u node at is)
        ∙ sym (kinds_by_types f (parameters_in (item_at nodes u).module_))

    -- its definition
    module _ (k : NodeKind) (th : There nodes its.last k) (b : Bool) (by : headline_by nodes k th.node ≡ Some (headline_of nodes b th.node)) where
      headline : headline_at nodes u ≡ Some (headline_of nodes b th.node)
      headline = headline_is t nodes rounds parsed are u node at is ∙ ap (defined_in nodes) th.at ∙ ap (λ (k : NodeKind). headline_by nodes k th.node) th.is ∙ by

      alike : (s : Specification) → first_name th.node.names ≡ s.name → kinds_in f (parameters_in (item_at nodes u).module_) ≡ s.kinds → b ≡ rules_of.is_routine_form s.form → AreAlike (AreLegalKnown f r.values.now) (own_headed types r.values.now nodes (headline_at nodes u)) (s ∷ [])
      alike s name kinds routine =
          subst (λ (o : Option Headline). AreAlike (AreLegalKnown f r.values.now) (own_headed types r.values.now nodes o) (s ∷ [])) (sym headline)
          (record { name = name; kinds = λ p. unit_kinds (headline_of nodes b th.node) headline p ∙ kinds; routine = routine }, tt)

    routine_name : (th : There nodes its.last kind.Routine) → first_name th.node.names ≡ (item_at nodes its.last).routine.name
    routine_name th = sym (ap (λ (i : Item). i.routine.name) (item_there nodes its.last th.node th.at) ∙ ap (λ (k : NodeKind). (routine_of (before its.last (item_at nodes)) nodes its.last th.node k).name) th.is)

    cluster_name : (th : There nodes its.last kind.Cluster) → first_name th.node.names ≡ (item_at nodes its.last).cluster.name
    cluster_name th = sym (ap (λ (i : Item). i.cluster.name) (item_there nodes its.last th.node th.at) ∙ ap (λ (k : NodeKind). (cluster_of (before its.last (item_at nodes)) nodes its.last th.node k).name) th.is)

    -- its name is that of its definition
    pub unit_name : (specification_of f (item_at nodes u).module_).name ≡ first_name (names_of (slice_get nodes its.last))
    unit_name = elim its.defines [
      | inl d ↦
          (let th : There nodes its.last kind.Routine = there nodes its.last kind.Routine refl d.0 in
          ap (λ (m : Module). (specification_of f m).name) d.1 ∙ sym (routine_name th) ∙ sym (ap (λ (o : Option Node). first_name (names_of o)) th.at))
      | inr d ↦
          (let th : There nodes its.last kind.Cluster = there nodes its.last kind.Cluster refl d.0 in
          ap (λ (m : Module). (specification_of f m).name) d.1 ∙ sym (cluster_name th) ∙ sym (ap (λ (o : Option Node). first_name (names_of o)) th.at))
    ]

    abbrev Said : Module → Type 0
    Said m = AreAlike (AreLegalKnown f r.values.now) (own_headed types r.values.now nodes (headline_at nodes u)) (specification_of f m ∷ [])

    module_said : Said (item_at nodes u).module_
    module_said = elim its.defines [
      | inl d ↦
          (let th : There nodes its.last kind.Routine = there nodes its.last kind.Routine refl d.0 in
          subst Said (sym d.1)
          (alike kind.Routine th true refl (specification_of f (a_routine u its.equates (item_at nodes its.last).routine)) (routine_name th) (ap (λ (m : Module). kinds_in f (parameters_in m)) d.1) refl))
      | inr d ↦
          (let th : There nodes its.last kind.Cluster = there nodes its.last kind.Cluster refl d.0 in
          subst Said (sym d.1)
          (alike kind.Cluster th false refl (specification_of f (a_cluster u its.equates (item_at nodes its.last).cluster)) (cluster_name th) (ap (λ (m : Module). kinds_in f (parameters_in m)) d.1) refl))
    ]

  -- ---- all of them

  own_alike : (top : ℕ) (ns : List ℕ) → AreParts nodes (is_of kind.Module) top ns → AreAlike (AreLegalKnown f r.values.now) (own_in types r.values.now nodes ns) (map (specification_of f) (modules_at (item_at nodes) ns))
  own_alike top [] ps = subst (λ (ms : List (Identifier × ModuleKnown)). AreAlike (AreLegalKnown f r.values.now) ms []) (sym (own_none types r.values.now nodes)) tt
  own_alike top (n ∷ ns) ps =
      let th : There nodes n kind.Module = there nodes n kind.Module refl (same_kind kind.Module (kind_at nodes n) ps.0.1) in
      subst (λ (ms : List (Identifier × ModuleKnown)). AreAlike (AreLegalKnown f r.values.now) ms (map (specification_of f) (modules_at (item_at nodes) (n ∷ ns)))) (sym (own_more types r.values.now nodes n ns))
      (both_alike (AreLegalKnown f r.values.now) (own_headed types r.values.now nodes (headline_at nodes n)) (specification_of f (item_at nodes n).module_ ∷ []) (own_in types r.values.now nodes ns) (map (specification_of f) (modules_at (item_at nodes) ns))
      (module_said n th.node th.at th.is) (own_alike top ns ps.1))

  abbrev pub P : Type 0
  P = AreLegalKnown f r.values.now

  module _ (top : ℕ) (ns : List ℕ) (ps : AreParts nodes (is_of kind.Module) top ns) (same : modules nodes ≡ ns) (file : file_of nodes ≡ modules_at (item_at nodes) ns) (kept : library ≡ map specification_told r.library.now)
      (there_are : AreModules r.bindings.now.modules (modules_in types r.values.now nodes r.library.now)) (few : length r.bindings.now.modules.known.items < 2 ^ 32 - 1) where
    abbrev pub all : List (Identifier × ModuleKnown)
    all = modules_in types r.values.now nodes r.library.now

    abbrev pub specifications : List Specification
    specifications = own_specifications f ++ f.library

    pub few_all : length all < 2 ^ 32 - 1
    few_all = let size : length r.bindings.now.modules.known.items ≡ length all = ap length there_are.known ∙ map_size (λ (m : Identifier × ModuleKnown). m.1) all in omega (arith, size, few)

    whole_library : take 4294967295 r.library.now ≡ r.library.now
    whole_library = elim (cases_lt (length r.library.now) 4294967295) [
      | inl less ↦ take_all 4294967295 r.library.now (omega (arith, less))
      | inr more ↦
          (let long : length (kept_in (take 4294967295 r.library.now)) ≡ 4294967295 = kept_size (take 4294967295 r.library.now) ∙ length-take-le 4294967295 r.library.now more in
          let size : length all ≡ length (own_in types r.values.now nodes (modules nodes)) + length (kept_in (take 4294967295 r.library.now)) = length-append (own_in types r.values.now nodes (modules nodes)) (kept_in (take 4294967295 r.library.now)) in
          let less : length all < 2 ^ 32 - 1 = few_all in
          absurd (omega (arith, long, size, less)))
    ]

    pub all_alike : AreAlike P all specifications
    all_alike =
        both_alike P (own_in types r.values.now nodes (modules nodes)) (own_specifications f) (kept_in (take 4294967295 r.library.now)) library
        (subst (λ (ms : List ℕ). AreAlike P (own_in types r.values.now nodes ms) (own_specifications f)) (sym same)
        (subst (λ (ms : List Module). AreAlike P (own_in types r.values.now nodes ns) (map (specification_of f) ms)) (sym file) (own_alike top ns ps)))
        (subst (λ (ss : List Specification). AreAlike P (kept_in (take 4294967295 r.library.now)) ss) (sym kept)
        (subst (λ (ss : List Spec). AreAlike P (kept_in ss) (map specification_told r.library.now)) (sym whole_library) (kept_alike P r.library.now)))

    -- a module of a name is the same in the table and by its specification
    pub modules_said : (name : Identifier) → AreSame P (known_in r (named r.bindings.now.modules name)) (specification f name)
    modules_said name = by (is_stream name) refl
      where
        by : (s : Bool) → is_stream name ≡ s → AreSame P (known_in r (named r.bindings.now.modules name)) (specification f name)
        by true e =
            as_same P (known_in r (named r.bindings.now.modules name)) None (specification f name) None
            (found_known r all there_are few_all name true e)
            (ap (λ (s : Bool). if s then None else or_kept f (specification_in (own_specifications f) name) name) e) tt
        by false e =
            as_same P (known_in r (named r.bindings.now.modules name)) (first_known all name) (specification f name) (specification_in specifications name)
            (found_known r all there_are few_all name false e)
            (ap (λ (s : Bool). if s then None else or_kept f (specification_in (own_specifications f) name) name) e ∙ kept_more f (own_specifications f) name)
            (same_first P all specifications all_alike name)
