-- V19 by tables: kinds of actual parameters, and types of constant parameters.
use Rattle.std.proofs.Common.{◌≡◌, ◌∙◌, ◌⊎◌, ℕ, zero, suc, ◌<◌, Bool, true, false, ◌&&◌, ◌||◌, if◌then◌else◌, List, [], ◌∷◌, length, drop, Option, Some, None, inl, inr, refl, sym, ap, subst, arith}
use Rattle.std.specs.Prelude.{All, not, is_none, slice_get, slice_index_or}
use Rattle.std.specs.List.{list_any, AllByRecursion}
use Rattle.std.specs.Option.{option_and_then}
use Rattle.std.proofs.Math.Bool.{or-false}
use Rattle.std.proofs.lemmas.Bool.{true≢false}
use Rattle.std.proofs.lemmas.Option.{none-some, same_Some}
use Rattle.clu_base.specs.declared.constants.Const.{Const}
use Rattle.clu_base.specs.declared.constants.Const.TheVariants as constant
use Rattle.clu_types.specs.CluType.{CluType}
use Rattle.clu_types.specs.declared.spec.ParamKind.{ParamKind}
use Rattle.clu_types.specs.declared.term.TypeId.{TypeId}
use Rattle.clu_types.specs.declared.term.Term.{Term}
use Rattle.clu_types.specs.declared.term.Term.TheVariants as term
use Rattle.clu_types.specs.Arena.{types_of, type_at, type_of, IsArena}
use Rattle.clu_types.proofs.Arenas.{type_found}
use Rattle.clu_tree.specs.declared.node.Node.{Node}
use Rattle.clu_tree.specs.declared.node.NodeKind.{NodeKind}
use Rattle.clu_tree.specs.declared.node.NodeKind.TheVariants as kind
use Rattle.clu_tree.specs.Nodes.{IsTree}
use Rattle.clu_parser.specs.Shape.{HaveForms}
use Rattle.clu_syntax.specs.Kinds.{kind_at, is_expression, is_type}
use Rattle.clu_syntax.specs.Slots.{slots, any}
use Rattle.clu_syntax.specs.Slots.{is_constant as is_constant_kind}
use Rattle.clu_syntax.specs.Splits as splits
use Rattle.clu_syntax.specs.Splits.{child, children_of, first_name}
use Rattle.clu_syntax.specs.Syntax.{Identifier, Expression, a_name, an_index, Constant, Constants, no_constants, TypeExpression}
use Rattle.clu_syntax.specs.Items.{Item, constants_at, type_of_option}
use Rattle.clu_syntax.specs.Nodes.{before, item_at, expression_of, type_expression_of, parameter_of}
use Rattle.clu_meaning.specs.Scoping as means
use Rattle.clu_meaning.specs.Scoping.{Scope}
use Rattle.clu_meaning.specs.Settling.{Value as Settled, settled, settled_type, type_settled, value_of_constant}
use Rattle.clu_checking.specs.Settled.{value_settled}
use Rattle.clu_checking.specs.Specifications.{Specification}
use Rattle.clu_checking.specs.Files.{File, item, kind_in, node_names, is_of_module, meaning}
use Rattle.clu_checking.specs.Headings as headings
use Rattle.clu_checking.specs.Headings.{specification, kind_of_type, kind_unless, kind_of_parameter}
use Rattle.clu_checking.specs.Typing as typing
use Rattle.clu_checking.specs.Invocations as invocations
use Rattle.clu_checking.specs.Wanted as wants
use Rattle.clu_checking.specs.Wanted.{Wanted, Named, kinds_of, first_name_at}
use Rattle.clu_checking.specs.ConstantRules as rules_of
use Rattle.clu_settle.specs.declared.value.Value.{Value}
use Rattle.clu_settle.specs.declared.value.Value.TheVariants as value
use Rattle.clu_settle.specs.Values.{told, Agrees, IsWithin, constant_at}
use Rattle.clu_settle.specs.Lists.{type_id, value_of}
use Rattle.clu_settle.proofs.Parts.{before_is, constant_is, type_is_constant}
use Rattle.clu_settle.proofs.Shapes.{AreParts, first_part, all_parts, any_fits}
use Rattle.clu_head.specs.ParameterKinds as head
use Rattle.clu_bindings.specs.declared.file.File.{File as Read}
use Rattle.clu_bindings.specs.declared.meaning.Meaning.{Meaning}
use Rattle.clu_bindings.specs.declared.meaning.Meaning.TheVariants as meant
use Rattle.clu_bindings.specs.declared.wanted.Wanted.{Wanted as WantedThere}
use Rattle.clu_bindings.specs.declared.wanted.Wanted.TheVariants as wanted
use Rattle.clu_bindings.specs.Readers.{value_in, wanted_in, meaning_in, children_in, declared_parameter}
use Rattle.clu_bindings.specs.Named as named
use Rattle.clu_bindings.specs.Wanted.{is_object_wanted}
use Rattle.clu_name_rules.specs.declared.tables.Tables.{Tables}
use Rattle.clu_name_rules.specs.ConstantRules as of_tables
use Rattle.clu_passes.specs.ConstantTables.{file_with, Means, IsMeant, wanted_told, IsTypeOf, AreBracketsKnown, AreTables, IsKnown, IsEquateKnown, IsFirstKnown, IsIndexKnown, IsWantedKnown}
use Rattle.clu_declares.proofs.Below.{same_kind}
use Rattle.clu_declares.proofs.Facts.{there}
use Rattle.clu_passes.proofs.ConstantNodes as so
use Rattle.clu_passes.proofs.ConstantNodes.{its_item, is_name}
use Rattle.clu_passes.proofs.ParameterKinds.{first_type}
use Rattle.clu_passes.proofs.Strings.{value_same}

-- ---- kinds

constant_same : (c : Const) → wants.kind_of_constant c ≡ named.kind_of_constant c
constant_same constant.Null = refl
constant_same (constant.Bool b) = refl
constant_same (constant.Int n) = refl
constant_same (constant.Char c) = refl
constant_same (constant.Str bytes) = refl

same_same : (a b : Option ParamKind) → wants.same_kind a b ≡ named.same_kind a b
same_same (Some a) (Some b) = refl
same_same (Some a) None = refl
same_same None (Some b) = refl
same_same None None = refl

place_is : (cs : List Const) (k : ℕ) (d : Const) → k < length cs → slice_get cs k ≡ Some (slice_index_or cs k d)
place_is [] k d less = absurd (omega (arith, less))
place_is (c ∷ cs) zero d less = refl
place_is (c ∷ cs) (suc k) d less = place_is cs k d (omega (arith, less))

term_kind : (types : List CluType) (t : Term) → kind_of_type (type_of types t) ≡ head.kind_of_term t
term_kind types term.Null = refl
term_kind types term.Bool = refl
term_kind types term.Int = refl
term_kind types term.Char = refl
term_kind types term.Str = refl
term_kind types _ = refl

some_there : (ts : List Term) (i : ℕ) → i < length ts → (t : Term) × (slice_get ts i ≡ Some t)
some_there [] i less = absurd (omega (arith, less))
some_there (t ∷ ts) zero less = (t, refl)
some_there (t ∷ ts) (suc i) less = some_there ts i (omega (arith, less))

-- by the number of a type
pub type_kind : (ts : List Term) → IsArena ts → (id : TypeId) → id.0 < length ts → kind_of_type (type_at (types_of ts) id) ≡ head.kind_of_type ts (Some id)
type_kind ts arena id less =
    let t = some_there ts id.0 less in
    ap kind_of_type (type_found ts arena id t.0 t.1 less) ∙ term_kind (types_of ts) t.0 ∙ ap head.kind_in (sym t.1)

module _ (t : Tables) (scope : Scope) (library : List Specification) (refused : List ℕ) where
  abbrev nodes : List Node
  nodes = t.file.syntax.now

  abbrev f : File
  f = file_with t.file scope library refused

  abbrev r : Read
  r = t.file

  abbrev types : List Term
  types = t.types.now

  module _ (shaped : HaveForms nodes) (tree : IsTree nodes) (are : AreTables f t) where
    -- ---- types that are known

    pub record Known (c : ℕ) : Type 0 where
      pub id : TypeId
      pub value : type_id (value_in r c) ≡ Some id
      pub type : type_settled scope (item f c).type ≡ type_at (types_of types) id
      pub less : id.0 < length types

    pub type_known : (c : ℕ) → is_type (kind_at nodes c) ≡ true → IsKnown r c → Known c
    type_known c is known = by (value_in r c) refl known (so.value_within t scope library refused shaped tree are c) agrees
      where
        agrees : Agrees (told (types_of types) r.constants.now (value_in r c)) (settled_type (type_settled scope (item f c).type))
        agrees = subst (λ (v : Value). Agrees (told (types_of types) r.constants.now v) (settled_type (type_settled scope (item f c).type))) (sym (value_same r.values.now c))
            (subst (λ (k : Constant). Agrees (told (types_of types) r.constants.now (value_of r.values.now c)) (value_of_constant scope (settled scope) k)) (constant_is nodes c true is) (are.values.each c (type_is_constant nodes c is)))

        by : (v : Value) → value_in r c ≡ v → (v ≡ value.Lost → ⊥) → IsWithin (length types) (length r.constants.now) v → Agrees (told (types_of types) r.constants.now v) (settled_type (type_settled scope (item f c).type)) → Known c
        by value.Nothing at known within e = absurd (cc)
        by value.Lost at known within e = absurd (known refl)
        by (value.Constant k) at known within e = absurd (cc)
        by (value.Parameter k) at known within e = absurd (cc)
        by (value.Type id) at known within e = record { id = id; value = ap type_id at; type = (cc); less = within.0 }

    known_kind : (c : ℕ) → is_type (kind_at nodes c) ≡ true → IsKnown r c → kind_of_type (type_settled scope (item f c).type) ≡ head.kind_of_type types (type_id (value_in r c))
    known_kind c is known =
        let k = type_known c is known in
        ap kind_of_type k.type ∙ type_kind types are.arena k.id k.less ∙ ap (head.kind_of_type types) (sym k.value)

    -- one that isn't known has no kind
    pub legal_kind : (c : ℕ) → is_type (kind_at nodes c) ≡ true → kind_of_parameter f (Some (item f c).type) ≡ head.kind_of_type types (type_id (value_in r c))
    legal_kind c is = by (value_in r c) refl
      where
        known_so : IsKnown r c → kind_of_parameter f (Some (item f c).type) ≡ head.kind_of_type types (type_id (value_in r c))
        known_so known =
            ap (λ (b : Bool). kind_unless b (kind_of_type (type_settled scope (item f c).type))) ((are.legal c is).found (λ e. known (value_same r.values.now c ∙ e)))
            ∙ known_kind c is known

        by : (v : Value) → value_in r c ≡ v → kind_of_parameter f (Some (item f c).type) ≡ head.kind_of_type types (type_id (value_in r c))
        by value.Lost at = (are.legal c is).lost (sym (value_same r.values.now c) ∙ at) ∙ sym (ap (λ (v : Value). head.kind_of_type types (type_id v)) at)
        by value.Nothing at = known_so (λ e. cc)
        by (value.Type id) at = known_so (λ e. cc)
        by (value.Constant k) at = known_so (λ e. cc)
        by (value.Parameter k) at = known_so (λ e. cc)

    -- ---- constant parameters

    abbrev IsSame : Option TypeExpression → Option ℕ → Type 0
    IsSame its o =
        (option_and_then kind_of_type (headings.parameter_type_of f its) ≡ head.kind_of_type types (named.type_of_parameter r types o)) × (is_none (headings.parameter_type_of f its) ≡ is_none (named.type_of_parameter r types o))

    -- of a type of this kind, and of the number of one
    abbrev AreSame : CluType → Option ParamKind → Option TypeId → Type 0
    AreSame T k o =
        (option_and_then kind_of_type (headings.legal_type T k) ≡ head.kind_of_type types (named.legal_type o (head.kind_of_type types o))) × (is_none (headings.legal_type T k) ≡ is_none (named.legal_type o (head.kind_of_type types o)))

    legal_both : (T : CluType) (id : TypeId) (k : Option ParamKind) → kind_of_type T ≡ k → head.kind_of_type types (Some id) ≡ k →
        (option_and_then kind_of_type (headings.legal_type T k) ≡ head.kind_of_type types (named.legal_type (Some id) k)) × (is_none (headings.legal_type T k) ≡ is_none (named.legal_type (Some id) k))
    legal_both T id (Some k) a b = (a ∙ sym b, refl)
    legal_both T id None a b = (refl, refl)

    parameter_at : (c : ℕ) → is_type (kind_at nodes c) ≡ true → IsSame (Some (item f c).type) (Some c)
    parameter_at c is = by (value_in r c) refl
      where
        known_so : IsKnown r c → IsSame (Some (item f c).type) (Some c)
        known_so known =
            let k = type_known c is known in
            let is_so : kind_of_type (type_settled scope (item f c).type) ≡ head.kind_of_type types (Some k.id) = ap kind_of_type k.type ∙ type_kind types are.arena k.id k.less in
            let legal : kind_of_parameter f (Some (item f c).type) ≡ head.kind_of_type types (Some k.id) = legal_kind c is ∙ ap (head.kind_of_type types) k.value in
            subst (λ (kd : Option ParamKind). AreSame (type_settled scope (item f c).type) kd (type_id (value_in r c))) (sym legal)
            (subst (λ (o : Option TypeId). AreSame (type_settled scope (item f c).type) (head.kind_of_type types (Some k.id)) o) (sym k.value)
            (legal_both (type_settled scope (item f c).type) k.id (head.kind_of_type types (Some k.id)) is_so refl))

        by : (v : Value) → value_in r c ≡ v → IsSame (Some (item f c).type) (Some c)
        by value.Lost at =
            let legal : kind_of_parameter f (Some (item f c).type) ≡ None = (are.legal c is).lost (sym (value_same r.values.now c) ∙ at) in
            subst (λ (kd : Option ParamKind). AreSame (type_settled scope (item f c).type) kd (type_id (value_in r c))) (sym legal)
            (subst (λ (o : Option TypeId). AreSame (type_settled scope (item f c).type) None o) (sym (ap type_id at)) (refl, refl))
        by value.Nothing at = known_so (λ e. cc)
        by (value.Type id) at = known_so (λ e. cc)
        by (value.Constant k) at = known_so (λ e. cc)
        by (value.Parameter k) at = known_so (λ e. cc)

    parameter_by : (o : Option ℕ) (its : Option TypeExpression) → IsTypeOf nodes o its → IsSame its o
    parameter_by None None is = (refl, refl)
    parameter_by None (Some u) is = absurd is
    parameter_by (Some c) None is = absurd is
    parameter_by (Some c) (Some u) is = subst (λ (u : TypeExpression). IsSame (Some u) (Some c)) is.1 (parameter_at c is.0)

    parameter_same : (n k : ℕ) → IsSame (headings.declared_parameter f n k) (declared_parameter r n k)
    parameter_same n k = parameter_by (declared_parameter r n k) (headings.declared_parameter f n k) (are.parameters n k)

    -- ---- actual parameters

    value_kind : (n : ℕ) (v : Value) (s : Settled) → (v ≡ value.Lost → ⊥) → IsWithin (length types) (length r.constants.now) v → Agrees (told (types_of types) r.constants.now v) s → wants.value_kind f n s ≡ named.value_kind r types n v
    value_kind n value.Nothing s known within e = ap (wants.value_kind f n) e
    value_kind n value.Lost s known within e = absurd (known refl)
    value_kind n (value.Type id) s known within e = ap (wants.value_kind f n) e
    value_kind n (value.Constant k) s known within e =
        ap (wants.value_kind f n) e
        ∙ ap Some (constant_same (constant_at r.constants.now k))
        ∙ ap named.kind_of_place (sym (place_is r.constants.now k constant.Null within.1))
    value_kind n (value.Parameter k) s known within e = ap (wants.value_kind f n) e ∙ (parameter_same n k).0

    pub fit_same : (n m : ℕ) (ks : List (Option ParamKind)) (cs : List ℕ) → AreParts nodes is_constant_kind m cs → AllByRecursion (IsKnown r) cs → wants.kinds_fit f n ks (constants_at (before m (item_at nodes)) cs) ≡ named.kinds_fit r types n ks cs
    fit_same n m [] [] parts known = refl
    fit_same n m [] (c ∷ cs) parts known = refl
    fit_same n m (k ∷ ks) [] parts known = refl
    fit_same n m (k ∷ ks) (c ∷ cs) parts known =
        let rest : Constants = constants_at (before m (item_at nodes)) cs in
        ap (λ (i : Item). wants.same_kind k (wants.value_kind f n (value_settled scope i.constant)) && wants.kinds_fit f n ks rest) (before_is nodes m c parts.0.0)
        ∙ ap (λ (given : Option ParamKind). wants.same_kind k given && wants.kinds_fit f n ks rest)
        (value_kind n (value_in r c) (value_settled scope (item f c).constant) known.0 (so.value_within t scope library refused shaped tree are c) (so.value_agrees t scope library refused shaped tree are c known.0 parts.0.1))
        ∙ ap (λ (b : Bool). b && wants.kinds_fit f n ks rest) (same_same k (named.value_kind r types n (value_in r c)))
        ∙ ap (λ (b : Bool). named.same_kind k (named.value_kind r types n (value_in r c)) && b) (fit_same n m ks cs parts.1 known.1)

    none_fits : (n m : ℕ) (cs : List ℕ) → rules_of.has_constants (constants_at (before m (item_at nodes)) cs) ≡ not (named.kinds_fit r types n [] cs)
    none_fits n m [] = refl
    none_fits n m (c ∷ cs) = refl

    misfit : (n m : ℕ) (name : Identifier) (cs : List ℕ) → IsMeant f r n name → AreParts nodes is_constant_kind m cs → AllByRecursion (IsKnown r) cs →
        rules_of.has_bad_actuals f (record { node = n; name = name; constants = constants_at (before m (item_at nodes)) cs }) ≡ not (named.has_fitting_kinds r types n cs)
    misfit n m name cs is parts known = by (is_of_module f n name) refl ∙ ap (λ (ks : List (Option ParamKind)). not (named.kinds_fit r types n ks cs)) (sym (is.kinds are.legal))
      where
        by : (b : Bool) → is_of_module f n name ≡ b →
            (if b then not (wants.kinds_fit f n (kinds_of (specification f name)) (constants_at (before m (item_at nodes)) cs)) else rules_of.has_constants (constants_at (before m (item_at nodes)) cs)) ≡ not (named.kinds_fit r types n (if b then kinds_of (specification f name) else []) cs)
        by true e = ap not (fit_same n m (kinds_of (specification f name)) cs parts known)
        by false e = none_fits n m cs

    -- ---- names with actuals

    abbrev Fits : List Named → Option (ℕ × List ℕ) → Type 0
    Fits xs o = list_any (rules_of.has_bad_actuals f) xs ≡ of_tables.is_misfit t o

    alone : (n : ℕ) → kind_at nodes n ≡ kind.Name → Fits (wants.named_by f (item f n).expression) (Some (n, []))
    alone n is =
        ap (λ (e : Expression). list_any (rules_of.has_bad_actuals f) (wants.named_by f e)) (so.a_name_at t scope library refused n is)
        ∙ or-false (rules_of.has_bad_actuals f (record { node = n; name = first_name_at f n; constants = no_constants }))
        ∙ misfit n n (first_name_at f n) [] (are.named n is) tt tt

    name_by : (n : ℕ) → kind_at nodes n ≡ kind.Name → (w : WantedThere) → Fits (wants.named_as f kind.Name (wanted_told w) n) (named.named_alone w n)
    name_by n is wanted.NameWithActuals = refl
    name_by n is wanted.Object = alone n is
    name_by n is wanted.Objects = alone n is
    name_by n is wanted.LoopCall = alone n is
    name_by n is wanted.Constant = alone n is
    name_by n is wanted.Type = alone n is
    name_by n is wanted.Nothing = alone n is

    pub no_named : (n : ℕ) (e : Expression) (cs : Constants) → is_name e ≡ false → wants.named_by f (an_index n e cs) ≡ []
    unfolding is_name
    no_named n (a_name m name) cs other = absurd (true≢false other)
    no_named n _ cs other = refl

    bracketed : (n c : ℕ) (cs : List ℕ) → AreParts nodes is_constant_kind n cs → AllByRecursion (IsKnown r) cs → IsEquateKnown r (meaning_in r c) → so.AName t scope library refused c ⊎ so.NoName t scope library refused c →
        Fits (wants.named_by f (an_index n (item f c).expression (constants_at (before n (item_at nodes)) cs))) (named.named_before r (c ∷ cs))
    bracketed n c cs parts known equated (inl x) =
        ap (λ (e : Expression). list_any (rules_of.has_bad_actuals f) (wants.named_by f (an_index n e (constants_at (before n (item_at nodes)) cs)))) x.expression
        ∙ by (typing.takes_actuals f c (first_name_at f c))
        ∙ ap (λ (b : Bool). of_tables.is_misfit t (if b then Some (c, cs) else None)) (sym (are.takers c equated ∙ ap (λ (b : Bool). b && typing.takes_actuals f c (first_name_at f c)) x.is))
      where
        by : (b : Bool) → Fits (if b then record { node = c; name = first_name_at f c; constants = constants_at (before n (item_at nodes)) cs } ∷ [] else []) (if b then Some (c, cs) else None)
        by true =
            or-false (rules_of.has_bad_actuals f (record { node = c; name = first_name_at f c; constants = constants_at (before n (item_at nodes)) cs }))
            ∙ misfit c n (first_name_at f c) cs (are.named c (same_kind kind.Name (kind_at nodes c) x.is)) parts known
        by false = refl
    bracketed n c cs parts known equated (inr x) =
        ap (list_any (rules_of.has_bad_actuals f)) (no_named n (item f c).expression (constants_at (before n (item_at nodes)) cs) x.expression)
        ∙ ap (λ (b : Bool). of_tables.is_misfit t (if b then Some (c, cs) else None)) (sym (are.takers c equated ∙ ap (λ (b : Bool). b && typing.takes_actuals f c (first_name_at f c)) x.is))

    index_by : (n : ℕ) → kind_at nodes n ≡ kind.Index → AllByRecursion (IsKnown r) (children_in r n) → IsIndexKnown r n → Fits (wants.named_by f (item f n).expression) (named.named_before r (children_in r n))
    index_by n is known brackets =
        let x = there nodes n kind.Index refl is in
        let first = first_part nodes tree shaped is_expression (any is_constant_kind ∷ []) n x.node x.at (ap slots x.is) in
        let c : ℕ = child 0 x.node in
        let cs : List ℕ = drop 1 x.node.children in
        let whole : children_in r n ≡ c ∷ cs = ap children_of x.at ∙ first.is in
        let all : AllByRecursion (IsKnown r) (c ∷ cs) = subst (AllByRecursion (IsKnown r)) whole known in
        ap (λ (i : Item). list_any (rules_of.has_bad_actuals f) (wants.named_by f i.expression)) (its_item nodes n kind.Index x)
        ∙ ap (λ (k : NodeKind). list_any (rules_of.has_bad_actuals f) (wants.named_by f (expression_of (before n (item_at nodes)) nodes n x.node k))) x.is
        ∙ ap (λ (i : Item). list_any (rules_of.has_bad_actuals f) (wants.named_by f (an_index n i.expression (constants_at (before n (item_at nodes)) cs)))) (before_is nodes n c first.first.0)
        ∙ bracketed n c cs (any_fits nodes is_constant_kind n cs first.before first.rest) all.1 (subst (IsFirstKnown r) whole (brackets is)) (so.name_or_none t scope library refused c first.first.1)
        ∙ ap (λ (xs : List ℕ). of_tables.is_misfit t (named.named_before r xs)) (sym whole)

    type_by : (n : ℕ) → kind_at nodes n ≡ kind.NameT → AllByRecursion (IsKnown r) (children_in r n) → Fits (wants.named_by_type f (item f n).type) (Some (n, children_in r n))
    type_by n is known =
        let x = there nodes n kind.NameT refl is in
        let cs : List ℕ = x.node.children in
        let whole : children_in r n ≡ cs = ap children_of x.at in
        let named_so : first_name_at f n ≡ first_name x.node.names = ap (λ (its : Option Node). first_name (node_names f its)) x.at in
        ap (λ (i : Item). list_any (rules_of.has_bad_actuals f) (wants.named_by_type f i.type)) (its_item nodes n kind.NameT x)
        ∙ ap (λ (k : NodeKind). list_any (rules_of.has_bad_actuals f) (wants.named_by_type f (type_expression_of (before n (item_at nodes)) nodes n x.node k))) x.is
        ∙ or-false (rules_of.has_bad_actuals f (record { node = n; name = first_name x.node.names; constants = constants_at (before n (item_at nodes)) cs }))
        ∙ misfit n n (first_name x.node.names) cs (subst (IsMeant f r n) named_so (are.named_types n is)) (all_parts nodes tree shaped is_constant_kind n x.node x.at (ap slots x.is)) (subst (AllByRecursion (IsKnown r)) whole known)
        ∙ ap (λ (xs : List ℕ). not (named.has_fitting_kinds r types n xs)) (sym whole)

    named_same : (n : ℕ) → AllByRecursion (IsKnown r) (children_in r n) → IsIndexKnown r n → IsWantedKnown r n → (k : NodeKind) → kind_at nodes n ≡ k → Fits (wants.named_as f k (wants.wanted f n) n) (named.named_by r k n)
    named_same n known brackets round kind.Name is = ap (λ (w : Wanted). list_any (rules_of.has_bad_actuals f) (wants.named_as f kind.Name w n)) (sym (are.wanted n round)) ∙ name_by n is (wanted_in r n)
    named_same n known brackets round kind.Index is = index_by n is known brackets
    named_same n known brackets round kind.NameT is = type_by n is known
    named_same n known brackets round _ is = refl

    -- ---- parameters of no legal type

    declared_by : (n : ℕ) (cs : List ℕ) → All (λ d. d < n) cs → is_none (kind_of_parameter f (type_of_option (before n (item_at nodes)) (splits.type_of nodes cs))) ≡ of_tables.is_illegal_type t (splits.type_of nodes cs)
    declared_by n cs below = by (splits.type_of nodes cs) refl
      where
        by : (o : Option ℕ) → splits.type_of nodes cs ≡ o → is_none (kind_of_parameter f (type_of_option (before n (item_at nodes)) o)) ≡ of_tables.is_illegal_type t o
        by None at = refl
        by (Some c) at =
            let first = first_type nodes n cs c below at in
            ap (λ (i : Item). is_none (kind_of_parameter f (Some i.type))) (before_is nodes n c first.0)
            ∙ ap is_none (legal_kind c first.1)

    declared : (n : ℕ) → kind_at nodes n ≡ kind.Parm → is_none (kind_of_parameter f (item f n).parameter.type) ≡ of_tables.is_illegal_type t (splits.type_of nodes (children_in r n))
    declared n is =
        let x = there nodes n kind.Parm refl is in
        let whole : children_in r n ≡ x.node.children = ap children_of x.at in
        ap (λ (i : Item). is_none (kind_of_parameter f i.parameter.type)) (its_item nodes n kind.Parm x)
        ∙ ap (λ (k : NodeKind). is_none (kind_of_parameter f (parameter_of (before n (item_at nodes)) nodes n x.node k).type)) x.is
        ∙ declared_by n x.node.children (tree.below n x.node x.at)
        ∙ ap (λ (xs : List ℕ). of_tables.is_illegal_type t (splits.type_of nodes xs)) (sym whole)

    object_wanted : (w : WantedThere) → invocations.is_object_wanted (wanted_told w) ≡ is_object_wanted w
    object_wanted wanted.Object = refl
    object_wanted wanted.Objects = refl
    object_wanted wanted.LoopCall = refl
    object_wanted wanted.Constant = refl
    object_wanted wanted.Type = refl
    object_wanted wanted.NameWithActuals = refl
    object_wanted wanted.Nothing = refl

    use_same : (n : ℕ) (meant : Meaning) (m : means.Meaning) → Means nodes meant m → rules_of.is_illegal_use f n m ≡ of_tables.is_illegal_use t n meant
    use_same n (meant.Equate c) m is = ap (rules_of.is_illegal_use f n) is.1
    use_same n meant.TypeSet m is = ap (rules_of.is_illegal_use f n) is
    use_same n (meant.TypeParameter k) m is = ap (rules_of.is_illegal_use f n) is
    use_same n (meant.ConstantParameter k) m is = ap (rules_of.is_illegal_use f n) is ∙ (parameter_same n k).1
    use_same n (meant.Local u) m is = ap (rules_of.is_illegal_use f n) is
    use_same n (meant.OwnOfRoutine u) m is = ap (rules_of.is_illegal_use f n) is
    use_same n (meant.OwnOfCluster u) m is = ap (rules_of.is_illegal_use f n) is
    use_same n meant.RoutineOfCluster m is = ap (rules_of.is_illegal_use f n) is
    use_same n (meant.Module its) m is = ap (rules_of.is_illegal_use f n) is

    illegal : (n : ℕ) → IsWantedKnown r n → (k : NodeKind) → kind_at nodes n ≡ k → rules_of.is_illegal_parameter f k n ≡ of_tables.is_illegal_parameter t k n
    illegal n round kind.Parm is = declared n is
    illegal n round kind.Name is =
        ap (λ (b : Bool). b && rules_of.is_illegal_use f n (meaning f n (first_name_at f n))) (sym (ap invocations.is_object_wanted (are.wanted n round)) ∙ object_wanted (wanted_in r n))
        ∙ ap (λ (b : Bool). is_object_wanted (wanted_in r n) && b) (use_same n (meaning_in r n) (meaning f n (first_name_at f n)) (are.named n is).means)
    illegal n round _ is = refl

    pub v19_is : (n : ℕ) → AllByRecursion (IsKnown r) (children_in r n) → AreBracketsKnown r n → rules_of.v19 f n ≡ of_tables.v19 t n
    v19_is n known brackets =
        ap (λ (b : Bool). b || rules_of.is_illegal_parameter f (kind_in f n) n) (named_same n known brackets.own brackets.round (kind_at nodes n) refl)
        ∙ ap (λ (b : Bool). of_tables.is_misfit t (named.named_in r n) || b) (illegal n brackets.round (kind_at nodes n) refl)
