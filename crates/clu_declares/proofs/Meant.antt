-- Each declaration is what the table of meanings says of it.
use Rattle.std.proofs.Common.{◌≡◌, ◌∙◌, ◌⊎◌, ℕ, zero, suc, ◌+◌, ◌-◌, ◌^◌, ◌<◌, ◌==◌, Bool, true, false, if◌then◌else◌, min, List, [], ◌∷◌, ◌++◌, length, map, take, drop, get_or, Option, Some, None, slice_get, refl, ap, ap₂, sym, subst, inl, inr, arith, codes, eqb-true}
use Rattle.std.specs.Prelude.{bytes_eq}
use Rattle.std.proofs.lemmas.Bool.{true≢false, cases_Bool, or_parts}
use Rattle.std.proofs.lemmas.Option.{same_Some, slice_get_within}
use Rattle.std.proofs.lemmas.Slice.Eq.{bytes_eq-Decides}
use Rattle.clu_tree.specs.declared.node.Node.{Node}
use Rattle.clu_tree.specs.declared.node.NodeKind.{NodeKind}
use Rattle.clu_tree.specs.declared.node.NodeKind.TheVariants as kind
use Rattle.clu_parser.specs.Trees.{Text}
use Rattle.clu_parser.specs.Shape as shape
use Rattle.clu_parser.specs.Shape.{is_child, HasForm}
use Rattle.clu_syntax.specs.declared.round.Round.{Round}
use Rattle.clu_syntax.specs.Kinds.{is_type, kind_at}
use Rattle.clu_syntax.specs.Rounds.{AreRounds, round_at}
use Rattle.clu_syntax.specs.Splits.{is_of, run, after_run, leading, child, children_of, first_name, last_option, type_of}
use Rattle.clu_syntax.specs.Syntax.{Identifier, TypeExpression, Equate, TypeSet, Statement, Own, Others}
use Rattle.clu_syntax.specs.Items.{Item, variable_of as variable_item}
use Rattle.clu_syntax.specs.Nodes.{before, item_at, item_of, equated, equate_name, equate_of, statement_of, init_of, own_of, owned, declaration_of, type_set_of, routine_of, cluster_of, tag_arm_of, others_of, parameter_of}
use Rattle.clu_names.specs.declared.scopes.Declared.{Declared}
use Rattle.clu_names.specs.Scopes.{equate_names, declared_as, is_first}
use Rattle.clu_names.specs.Scopes as names
use Rattle.clu_meaning.specs.Scoping as means
use Rattle.clu_meaning.specs.Scoping.{is_local, Bindings, binding, equate_binding, of_variable, of_names, parameter_meaning, parameter_number, bound_at}
use Rattle.clu_checking.specs.Files.{parameters_round, variable_number, scope_in}
use Rattle.clu_parts.proofs.Fitting.{just, on_head}
use Rattle.clu_settle.specs.declared.meanings.Meaning.TheVariants as meaning
use Rattle.clu_settle.specs.Names.{is_other, is_constant, Means}
use Rattle.clu_settle.specs.Parameters.{is_parameter}
use Rattle.clu_settle.specs.Meant as meant
use Rattle.clu_declares.specs.Declares.{IsParsed, own_variable, variable_in, outer_kind, numbered, of_parm, routine_meaning, of_set_variable, of_initial, of_own_initial, of_arm, has, declared_in, declared_by}
use Rattle.clu_declares.proofs.Firsts.{is_it}
use Rattle.clu_declares.proofs.Below.{before_is, item_there}
use Rattle.clu_declares.proofs.Owned.{parameter_node, declaration_node}
use Rattle.clu_declares.proofs.Rights.{right_file}
use Rattle.clu_declares.proofs.Bound.{bound_by}
use Rattle.clu_declares.proofs.Said.{bound_own, bound_map, bound_names, only_name, none_there, init_name, equate_alone, own_alone, Right, equate_right}

-- ---- what is not bound is a module

no_binding : (bs : Bindings) (n : ℕ) (name : Identifier) → has bs n name ≡ false → bound_at bs n name ≡ means.is_module
no_binding [] n name e = refl
no_binding (b ∷ bs) n name e =
    let p = or_parts (is_it b n name) (has bs n name) e in
    ap (λ (t : Bool). if t then b.meaning else bound_at bs n name) p.0 ∙ no_binding bs n name p.1

-- ---- a place among the names that one node declares

pub record IsNamed (n : ℕ) (unit : Option ℕ) (scope : ℕ × ℕ) (names : List Identifier) (i : ℕ) (d : Declared) : Type 0 where
  pub at : slice_get names i ≡ Some d.name
  pub node : d.node ≡ n
  pub unit_is : d.unit ≡ unit
  pub from : d.from ≡ scope.0
  pub to : d.to ≡ scope.1

pub named : (n : ℕ) (unit : Option ℕ) (scope : ℕ × ℕ) (names : List Identifier) (i : ℕ) (d : Declared) → slice_get (declared_as n unit (Some scope) names) i ≡ Some d → IsNamed n unit scope names i d
named n unit scope [] i d e = absurd (cc)
named n unit scope (x ∷ names) zero d e =
    let same : record { name = x; node = n; from = scope.0; to = scope.1; unit = unit } ≡ d = same_Some (record { name = x; node = n; from = scope.0; to = scope.1; unit = unit }) d e in
    record {
      at = ap (λ (d : Declared). Some d.name) same;
      node = sym (ap (λ (d : Declared). d.node) same);
      unit_is = sym (ap (λ (d : Declared). d.unit) same);
      from = sym (ap (λ (d : Declared). d.from) same);
      to = sym (ap (λ (d : Declared). d.to) same);
    }
named n unit scope (x ∷ names) (suc i) d e =
    let more : IsNamed n unit scope names i d = named n unit scope names i d e in
    record { at = more.at; node = more.node; unit_is = more.unit_is; from = more.from; to = more.to }

own_other : (o : Option ℕ) (t : TypeExpression) → is_other (own_variable o t) ≡ true
own_other None t = refl
own_other (Some x) t = refl

local_other : (k : NodeKind) (r : Round) (t : TypeExpression) → is_other (variable_in k r t) ≡ true
local_other kind.Own r t = own_other r.routine t
local_other _ r t = refl

module _ (t : Text) (nodes : List Node) (rounds : List Round) (parsed : IsParsed t nodes) (are : AreRounds nodes rounds) where
  abbrev said : ℕ → Bindings
  said = declared_by nodes rounds

  -- what a file binds is what its nodes say, whatever is asked
  pub bound_is : (n : ℕ) (name : Identifier) → bound_at (scope_in nodes rounds).bindings n name ≡ bound_at (said n) n name
  bound_is n name = elim (cases_Bool (has (scope_in nodes rounds).bindings n name)) [
    | inl there ↦ right_file t nodes rounds parsed are n name there
    | inr none ↦ no_binding (scope_in nodes rounds).bindings n name none ∙ sym (no_binding (said n) n name (elim (cases_Bool (has (said n) n name)) [
      | inl there ↦ absurd (true≢false (sym (bound_by t nodes rounds parsed are n name n (slice_get nodes n) refl there) ∙ none))
      | inr not_there ↦ not_there
    ]))
  ]

  -- ---- by kind

  module _ (n : ℕ) (node : Node) (at : slice_get nodes n ≡ Some node) where
    abbrev items : ℕ → Item
    items = before n (item_at nodes)

    its : item_at nodes n ≡ item_of items nodes n node
    its = item_there nodes n node at

    form : HasForm nodes node
    form = parsed.forms n node at

    -- what the table has for a declaration of the node, and what the node says
    abbrev pub Good : NodeKind → Option ℕ → ℕ → ℕ → Identifier → Type 0
    Good k unit count number name = Means nodes (meant.declared_in nodes k n unit count number) (bound_at (declared_in nodes rounds k n) n name)

    pub decl_good : node.kind ≡ kind.Decl → (unit : Option ℕ) (count number i : ℕ) (name : Identifier) → slice_get node.names i ≡ Some name → Good kind.Decl unit count number name
    decl_good is unit count number i name e =
        let names_are : (item_at nodes n).declaration.names ≡ node.names = ap (λ (i : Item). i.declaration.names) its ∙ ap (λ (k : NodeKind). (declaration_of items nodes n node k).names) is in
        let bound : bound_at (declared_in nodes rounds kind.Decl n) n name ≡ variable_in (outer_kind nodes rounds n) (round_at rounds n) (item_at nodes n).declaration.type =
        ap₂ (λ (m : ℕ) (names : List Identifier). bound_at (map (binding m (variable_in (outer_kind nodes rounds n) (round_at rounds n) (item_at nodes n).declaration.type)) names ++ []) n name) (declaration_node nodes rounds n node at is) names_are
        ∙ bound_map n (variable_in (outer_kind nodes rounds n) (round_at rounds n) (item_at nodes n).declaration.type) node.names i name e in
        ap is_other bound ∙ local_other (outer_kind nodes rounds n) (round_at rounds n) (item_at nodes n).declaration.type

    pub init_good : node.kind ≡ kind.Init → (unit : Option ℕ) (count number i : ℕ) (name : Identifier) → slice_get node.names i ≡ Some name → Good kind.Init unit count number name
    init_good is unit count number i name e =
        let statement : (item_at nodes n).statement ≡ init_of items nodes n node node.names = ap (λ (i : Item). i.statement) its ∙ ap (statement_of items nodes n node) is in
        elim (init_name nodes n node form is) [
          | inl none ↦ absurd (none_there name i (sym (ap (λ (names : List Identifier). slice_get names i) none) ∙ e))
          | inr one ↦
              (let same : one.0 ≡ name = only_name one.0 name i (sym (ap (λ (names : List Identifier). slice_get names i) one.1) ∙ e) in
              let bound : bound_at (of_initial (item_at nodes n).statement) n name ≡ is_local (items (child 0 node)).type =
              ap (λ (s : Statement). bound_at (of_initial s) n name) (statement ∙ ap (init_of items nodes n node) (one.1 ∙ ap (λ (x : Identifier). x ∷ []) same))
              ∙ bound_own n (is_local (items (child 0 node)).type) name [] in
              ap is_other bound)
        ]

    abbrev OwnGood : Identifier → List ℕ → Type 0
    OwnGood name cs = is_other (bound_at (of_own_initial (own_variable (round_at rounds n).routine) (owned items nodes n (name ∷ []) (run nodes kind.Decl cs) (after_run nodes kind.Decl cs))) n name) ≡ true

    no_decl : (j : NodeKind) → is_child shape.any_type j ≡ true → is_of kind.Decl j ≡ false
    no_decl kind.Decl e = absurd (true≢false (sym e))
    no_decl kind.File e = refl
    no_decl _ e = refl

    own_first : (name : Identifier) (c e : ℕ) (rest : List ℕ) → is_child shape.any_type (kind_at nodes c) ≡ true → OwnGood name (c ∷ e ∷ rest)
    unfolding leading
    own_first name c e rest is =
        let none : leading nodes kind.Decl (c ∷ e ∷ rest) ≡ 0 = ap (λ (b : Bool). if b then leading nodes kind.Decl (e ∷ rest) + 1 else 0) (no_decl (kind_at nodes c) is) in
        subst (λ (k : ℕ). is_other (bound_at (of_own_initial (own_variable (round_at rounds n).routine) (owned items nodes n (name ∷ []) (take k (c ∷ e ∷ rest)) (drop k (c ∷ e ∷ rest)))) n name) ≡ true) (sym none)
        (ap is_other (bound_own n (own_variable (round_at rounds n).routine (items c).type) name []) ∙ own_other (round_at rounds n).routine (items c).type)

    pub own_good : node.kind ≡ kind.Own → (unit : Option ℕ) (count number i : ℕ) (name : Identifier) → slice_get node.names i ≡ Some name → Good kind.Own unit count number name
    own_good is unit count number i name e =
        let own : (item_at nodes n).own ≡ owned items nodes n node.names (run nodes kind.Decl node.children) (after_run nodes kind.Decl node.children) = ap (λ (i : Item). i.own) its ∙ ap (own_of items nodes n node) is in
        elim (own_alone nodes n node form parsed.tree at is) [
          | inl none ↦ absurd (none_there name i (sym (ap (λ (names : List Identifier). slice_get names i) none) ∙ e))
          | inr one ↦
              (let same : one.0 ≡ name = only_name one.0 name i (sym (ap (λ (names : List Identifier). slice_get names i) one.1) ∙ e) in
              let good : OwnGood name node.children =
              on_head nodes n (OwnGood name) (is_child shape.any_type) (just (is_child shape.expression) ∷ [])
              (λ c rest first more. on_head nodes n (λ rest. OwnGood name (c ∷ rest)) (is_child shape.expression) [] (λ d rest second more. own_first name c d rest first.1) rest more) node.children one.2 in
              ap (λ (o : Own). is_other (bound_at (of_own_initial (own_variable (round_at rounds n).routine) o) n name)) (own ∙ ap (λ (names : List Identifier). owned items nodes n names (run nodes kind.Decl node.children) (after_run nodes kind.Decl node.children)) (one.1 ∙ ap (λ (x : Identifier). x ∷ []) same)) ∙ good)
        ]

    -- ---- equates

    abbrev pub SideGood : NodeKind → ℕ → Option Identifier → Identifier → Type 0
    SideGood k c o name = Means nodes (meant.equated_by k c) (bound_at (equate_binding (equated items nodes n o k c) ∷ []) n name)

    set_good : (c : ℕ) (o : Option Identifier) (name : Identifier) → means.equate_name o ≡ name → SideGood kind.TypeSet c o name
    set_good c o name e = subst (λ (x : Identifier). is_other (bound_at (binding n means.is_type_set x ∷ []) n name) ≡ true) (sym e) (ap is_other (bound_own n means.is_type_set name []))

    constant_good : (c : ℕ) (o : Option Identifier) (name : Identifier) → c < length nodes → is_constant nodes c ≡ true → items c ≡ item_at nodes c → means.equate_name o ≡ name →
        Means nodes (meaning.Equate c) (bound_at (binding n (means.is_equate (items c).constant) (means.equate_name o) ∷ []) n name)
    constant_good c o name l is same e = (
      l,
      is,
      ap (λ (x : Identifier). bound_at (binding n (means.is_equate (items c).constant) x ∷ []) n name) e ∙ bound_own n (means.is_equate (items c).constant) name [] ∙ ap (λ (i : Item). means.is_equate i.constant) same,
    )

    side_good : (k : NodeKind) (c : ℕ) (o : Option Identifier) (name : Identifier) → c < length nodes → (is_constant nodes c ≡ true) ⊎ (k ≡ kind.TypeSet) → items c ≡ item_at nodes c → means.equate_name o ≡ name → SideGood k c o name
    side_good kind.TypeSet c o name l is same e = set_good c o name e
    side_good _ c o name l (inl is) same e = constant_good c o name l is same e
    side_good _ c o name l (inr is) same e = absurd (cc)

    pub equate_good : node.kind ≡ kind.Equate → (unit : Option ℕ) (count number i : ℕ) (name : Identifier) → slice_get (equate_names node.names node.value) i ≡ Some name → Good kind.Equate unit count number name
    equate_good is unit count number i name e =
        let r : Right nodes n node form node.children = equate_right nodes n node form parsed.tree at is in
        let table : meant.right_of nodes (children_of (slice_get nodes n)) ≡ meant.equated_by (kind_at nodes r.0) r.0 = ap (λ (o : Option Node). meant.right_of nodes (children_of o)) at ∙ ap (meant.right_of nodes) r.2 in
        let first : child 0 node ≡ r.0 = ap (λ (cs : List ℕ). get_or cs 0 0) r.2 in
        let equate : (item_at nodes n).equate ≡ equated items nodes n (equate_name node.names) (kind_at nodes r.0) r.0 =
        ap (λ (i : Item). i.equate) its ∙ ap (equate_of items nodes n node) is ∙ ap (λ (c : ℕ). equated items nodes n (equate_name node.names) (kind_at nodes c) c) first in
        let below : r.0 < n = r.3 in
        let inside : n < length nodes = slice_get_within nodes n node at in
        subst (λ (m : _). Means nodes m (bound_at (equate_binding (item_at nodes n).equate ∷ []) n name)) (sym table)
        (subst (λ (x : Equate). Means nodes (meant.equated_by (kind_at nodes r.0) r.0) (bound_at (equate_binding x ∷ []) n name)) (sym equate)
        (side_good (kind_at nodes r.0) r.0 (equate_name node.names) name (omega (arith, below, inside)) r.4 (before_is nodes n r.0 below) (named_so (equate_alone nodes n node form is))))
      where
        named_so : ((x : Identifier) × (node.names ≡ x ∷ [])) ⊎ ((node.names ≡ []) × (bytes_eq node.value (codes "rep") ≡ true)) → means.equate_name (equate_name node.names) ≡ name
        named_so (inl one) =
            ap (λ (names : List Identifier). means.equate_name (equate_name names)) one.1
            ∙ only_name one.0 name i (sym (ap (λ (names : List Identifier). slice_get (equate_names names node.value) i) one.1) ∙ e)
        named_so (inr rep) =
            ap (λ (names : List Identifier). means.equate_name (equate_name names)) rep.0
            ∙ sym ((bytes_eq-Decides node.value (codes "rep")).0 rep.1)
            ∙ only_name node.value name i (sym (ap (λ (names : List Identifier). slice_get (equate_names names node.value) i) rep.0) ∙ e)

    -- ---- parameters

    parameter_same : (o : Option TypeExpression) (k : ℕ) → (k ≡ 0 → ⊥) → Means nodes (meant.parameter_in o k) (parameter_meaning o k)
    parameter_same o k some = subst (λ (m : _). Means nodes m (parameter_meaning o k)) (sym (ap (λ (b : Bool). if b then meaning.Module else meant.parameter_as o k) (not_zero k some))) (by o)
      where
        not_zero : (k : ℕ) → (k ≡ 0 → ⊥) → (k == 0) ≡ false
        not_zero k some = elim (cases_Bool (k == 0)) [ inl e ↦ absurd (some (eqb-true k 0 e)) | inr e ↦ e ]

        by : (o : Option TypeExpression) → Means nodes (meant.parameter_as o k) (parameter_meaning o k)
        by None = refl
        by (Some t) = refl

    -- one that belongs to no module declares nothing
    pub other_parm : (unit : Option ℕ) (count number : ℕ) (name : Identifier) → is_parameter nodes rounds n ≡ false → number ≡ 0 → Good kind.Parm unit count number name
    other_parm unit count number name none nothing =
        subst (λ (k : ℕ). Means nodes (meant.parameter_in (item_at nodes n).parameter.type k) (bound_at (declared_in nodes rounds kind.Parm n) n name)) (sym nothing)
        (ap (λ (b : Bool). bound_at (of_parm b (numbered 1 (parameters_round nodes (round_at rounds n).unit) n) (item_at nodes n).parameter) n name) none)

    pub parm_good : node.kind ≡ kind.Parm → (unit : Option ℕ) (count number i : ℕ) (name : Identifier) → is_parameter nodes rounds n ≡ true → slice_get node.names i ≡ Some name → ((j : ℕ) → j < i → slice_get node.names j ≡ Some name → ⊥) →
        number ≡ numbered 1 (parameters_round nodes (round_at rounds n).unit) n + i → (number ≡ 0 → ⊥) → Good kind.Parm unit count number name
    parm_good is unit count number i name of_module e first its_number some =
        let names_are : (item_at nodes n).parameter.names ≡ node.names = ap (λ (i : Item). i.parameter.names) its ∙ ap (λ (k : NodeKind). (parameter_of items nodes n node k).names) is in
        let bound : bound_at (declared_in nodes rounds kind.Parm n) n name ≡ parameter_meaning (item_at nodes n).parameter.type number =
        ap (λ (b : Bool). bound_at (of_parm b (numbered 1 (parameters_round nodes (round_at rounds n).unit) n) (item_at nodes n).parameter) n name) of_module
        ∙ ap₂ (λ (m : ℕ) (names : List Identifier). bound_at (of_names m (item_at nodes n).parameter.type (numbered 1 (parameters_round nodes (round_at rounds n).unit) n) names) n name) (parameter_node nodes rounds n node at is) names_are
        ∙ bound_names n (item_at nodes n).parameter.type (numbered 1 (parameters_round nodes (round_at rounds n).unit) n) node.names i name e first
        ∙ ap (parameter_meaning (item_at nodes n).parameter.type) (sym its_number) in
        subst (Means nodes (meant.parameter_in (item_at nodes n).parameter.type number)) (sym bound) (parameter_same (item_at nodes n).parameter.type number some)

    -- ---- type sets and arms

    first_taken : (names : List Identifier) (i : ℕ) (name : Identifier) → slice_get (take 1 names) i ≡ Some name → first_name names ≡ name
    first_taken [] i name e = absurd (cc)
    first_taken (x ∷ names) i name e = only_name x name i e

    pub set_variable_good : node.kind ≡ kind.TypeSet → (unit : Option ℕ) (count number i : ℕ) (name : Identifier) → slice_get (take 1 node.names) i ≡ Some name → count ≡ parameter_number (parameters_round nodes (round_at rounds n).unit) → suc n + count < 2 ^ 32 →
        Good kind.TypeSet unit count number name
    set_variable_good is unit count number i name e same few =
        let set : (item_at nodes n).type_set ≡ type_set_of items nodes n node kind.TypeSet = ap (λ (i : Item). i.type_set) its ∙ ap (type_set_of items nodes n node) is in
        let number_is : variable_number nodes rounds n ≡ min (names.next n + count) (2 ^ 32 - 1) = omega (arith, same, few) in
        ap (λ (s : TypeSet). bound_at (of_set_variable (variable_number nodes rounds n) n s) n name) set
        ∙ ap (λ (x : Identifier). bound_at (binding n (means.is_type_parameter (variable_number nodes rounds n)) x ∷ []) n name) (first_taken node.names i name e)
        ∙ bound_own n (means.is_type_parameter (variable_number nodes rounds n)) name []
        ∙ ap means.is_type_parameter number_is

    last_alone : (x : Identifier) (xs : List Identifier) → drop (length xs) (x ∷ xs) ≡ get_or (x ∷ xs) (length xs) [] ∷ []
    last_alone x [] = refl
    last_alone x (y ∷ ys) = last_alone y ys

    last_named : (names : List Identifier) (i : ℕ) (name : Identifier) → slice_get (drop (length names - 1) names) i ≡ Some name → last_option names ≡ Some name
    last_named [] i name e = absurd (cc)
    last_named (x ∷ xs) i name e =
        let size : length (x ∷ xs) - 1 ≡ length xs = omega arith in
        ap Some (only_name (get_or (x ∷ xs) (length xs) []) name i (sym (ap (λ (k : ℕ). slice_get (drop k (x ∷ xs)) i) size ∙ ap (λ (ys : List Identifier). slice_get ys i) (last_alone x xs)) ∙ e))

    first_type : (m : ℕ) (cs : List ℕ) → is_first m cs ≡ true → is_type (kind_at nodes m) ≡ true → type_of nodes cs ≡ Some m
    first_type m [] f is = absurd (true≢false (sym f))
    first_type m (c ∷ cs) f is =
        let same : c ≡ m = eqb-true c m f in
        ap (λ (b : Bool). if b then Some c else None) (ap (λ (c : ℕ). is_type (kind_at nodes c)) same ∙ is) ∙ ap Some same

    variable_good : (m : ℕ) (name : Identifier) → is_other (bound_at (of_variable n is_local (variable_item items (Some name) (Some m))) n name) ≡ true
    variable_good m name = ap is_other (bound_own n (is_local (items m).type) name [])

    pub arm_good : node.kind ≡ kind.TagArm → (m : ℕ) → is_first m node.children ≡ true → is_type (kind_at nodes m) ≡ true → (unit : Option ℕ) (count number i : ℕ) (name : Identifier) → slice_get (drop (length node.names - 1) node.names) i ≡ Some name → Good kind.TagArm unit count number name
    arm_good is m f ty unit count number i name e =
        ap (λ (x : _). is_other (bound_at (of_variable n is_local x) n name))
        (ap (λ (i : Item). i.tag_arm.variable) its ∙ ap (λ (k : NodeKind). (tag_arm_of items nodes n node k).variable) is ∙ ap₂ (variable_item items) (last_named node.names i name e) (first_type m node.children f ty))
        ∙ variable_good m name

    pub others_good : node.kind ≡ kind.Others → (m : ℕ) → is_first m node.children ≡ true → is_type (kind_at nodes m) ≡ true → (unit : Option ℕ) (count number i : ℕ) (name : Identifier) → slice_get (drop (length node.names - 1) node.names) i ≡ Some name → Good kind.Others unit count number name
    others_good is m f ty unit count number i name e =
        ap (λ (o : Others). is_other (bound_at (of_arm o) n name)) (ap (λ (i : Item). i.others) its ∙ ap (others_of items nodes n node) is)
        ∙ ap (λ (x : _). is_other (bound_at (of_variable n is_local x) n name)) (ap₂ (variable_item items) (last_named node.names i name e) (first_type m node.children f ty))
        ∙ variable_good m name

    -- ---- routines and clusters

    routine_bound : node.kind ≡ kind.Routine → (name : Identifier) → first_name node.names ≡ name → bound_at (declared_in nodes rounds kind.Routine n) n name ≡ routine_meaning (outer_kind nodes rounds n)
    routine_bound is name e =
        ap (λ (x : Identifier). bound_at (binding n (routine_meaning (outer_kind nodes rounds n)) x ∷ []) n name) (ap (λ (i : Item). i.routine.name) its ∙ ap (λ (k : NodeKind). (routine_of items nodes n node k).name) is ∙ e)
        ∙ bound_own n (routine_meaning (outer_kind nodes rounds n)) name []

    pub inner_good : node.kind ≡ kind.Routine → outer_kind nodes rounds n ≡ kind.Cluster → (u count number i : ℕ) (name : Identifier) → slice_get (take 1 node.names) i ≡ Some name → Good kind.Routine (Some u) count number name
    inner_good is outer u count number i name e = ap is_other (routine_bound is name (first_taken node.names i name e) ∙ ap routine_meaning outer)

    pub module_routine_good : node.kind ≡ kind.Routine → outer_kind nodes rounds n ≡ kind.Module → (count number : ℕ) (name : Identifier) → first_name node.names ≡ name → Good kind.Routine None count number name
    module_routine_good is outer count number name e = routine_bound is name e ∙ ap routine_meaning outer

    pub module_cluster_good : node.kind ≡ kind.Cluster → (count number : ℕ) (name : Identifier) → first_name node.names ≡ name → Good kind.Cluster None count number name
    module_cluster_good is count number name e =
        ap (λ (x : Identifier). bound_at (binding n means.is_module x ∷ []) n name) (ap (λ (i : Item). i.cluster.name) its ∙ ap (λ (k : NodeKind). (cluster_of items nodes n node k).name) is ∙ e)
        ∙ bound_own n means.is_module name []
