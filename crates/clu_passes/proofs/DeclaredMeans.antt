-- What the table of declarations says of each is what its node declares.
use Rattle.std.proofs.Common.{◌≡◌, ◌∙◌, ◌⊎◌, ℕ, zero, suc, ◌+◌, ◌<◌, ◌≤◌, ◌&&◌, ◌==◌, Bool, true, false, if◌then◌else◌, List, [], ◌∷◌, ◌++◌, length, map, get_or, take, drop, Option, Some, None, slice_get, refl, ap, ap₂, sym, subst, inl, inr, arith}
use Rattle.std.specs.Prelude.{All, bytes_eq}
use Rattle.std.proofs.lemmas.Bool.{true≢false}
use Rattle.std.proofs.lemmas.List.Elements.{All-head}
use Rattle.clu_tree.specs.declared.node.Node.{Node}
use Rattle.clu_tree.specs.declared.node.NodeKind.{NodeKind}
use Rattle.clu_tree.specs.declared.node.NodeKind.TheVariants as kind
use Rattle.clu_parser.specs.Trees.{Text}
use Rattle.clu_parser.specs.Shape as shape
use Rattle.clu_parser.specs.Shape.{is_child}
use Rattle.clu_syntax.specs.declared.round.Round.{Round}
use Rattle.clu_syntax.specs.Enough.{least_children}
use Rattle.clu_syntax.specs.Kinds.{is_type, kind_of, kind_at}
use Rattle.clu_syntax.specs.Rounds.{AreRounds, round_at}
use Rattle.clu_syntax.specs.Splits.{is_of, run, after_run, leading, child, children_of, last_option, type_of}
use Rattle.clu_syntax.specs.Syntax.{Identifier, TypeExpression, Equate, an_equate, a_set_equate, Typed, Parameter, Variable, Statement, Own, Others}
use Rattle.clu_syntax.specs.Items.{Item, type_of_option, variable_of}
use Rattle.clu_syntax.specs.Nodes.{before, item_at, item_of, declaration_of, parameter_of, statement_of, init_of, own_of, owned, tag_arm_of, others_of}
use Rattle.clu_syntax.proofs.Enough.{enough}
use Rattle.clu_names.specs.declared.scopes.Declared.{Declared}
use Rattle.clu_meaning.specs.Scoping as means
use Rattle.clu_meaning.specs.Scoping.{binding, equate_binding, of_variable, bound_at}
use Rattle.clu_checking.specs.Files.{scope_in}
use Rattle.clu_parts.proofs.Fitting.{just, on_head}
use Rattle.clu_settle.specs.declared.meanings.Meaning.TheVariants as settle
use Rattle.clu_settle.specs.Names as settled
use Rattle.clu_settle.specs.Names.{is_other}
use Rattle.clu_settle.specs.Meant as settled_as
use Rattle.clu_settle.specs.Parameters.{count_in}
use Rattle.clu_declares.specs.Declares.{IsParsed, own_variable, variable_in, outer_kind, routine_meaning, of_initial, of_own_initial, of_arm, declared_in, declared_by}
use Rattle.clu_declares.proofs.Below.{before_is, item_there}
use Rattle.clu_declares.proofs.Meant.{bound_is}
use Rattle.clu_declares.proofs.Said.{own_alone}
use Rattle.clu_bindings.specs.declared.meaning.ModuleId.{ModuleId}
use Rattle.clu_bindings.specs.declared.meaning.Meaning.TheVariants as meant
use Rattle.clu_bindings.specs.Declaring as table
use Rattle.clu_passes.specs.ConstantTables.{Means}

-- ---- what is bound by one binding, or by bindings of one kind: this, or nothing

abbrev IsOr : means.Meaning → means.Meaning → Type 0
IsOr m x = (x ≡ means.is_module) ⊎ (x ≡ m)

if_or : (b : Bool) (m : means.Meaning) → IsOr m (if b then m else means.is_module)
if_or true m = inr refl
if_or false m = inl refl

as_other : (m x : means.Meaning) → IsOr m x → is_other x ≡ true → x ≡ m
as_other m x (inl e) o = absurd (true≢false (sym o ∙ ap is_other e))
as_other m x (inr e) o = e

one_bound : (n k : ℕ) (m : means.Meaning) (x name : Identifier) → IsOr m (bound_at (binding k m x ∷ []) n name)
one_bound n k m x name = if_or (k == n && bytes_eq x name) m

map_bound : (n k : ℕ) (m : means.Meaning) (names : List Identifier) (name : Identifier) → IsOr m (bound_at (map (binding k m) names ++ []) n name)
map_bound n k m [] name = inl refl
map_bound n k m (x ∷ names) name = by (k == n && bytes_eq x name) (map_bound n k m names name)
  where
    by : (b : Bool) → IsOr m (bound_at (map (binding k m) names ++ []) n name) → IsOr m (if b then m else bound_at (map (binding k m) names ++ []) n name)
    by true more = inr refl
    by false more = more

-- ---- what is told of one node

module _ (nodes : List Node) where
  own_same : (o : Option ℕ) (c : ℕ) (t : TypeExpression) → t ≡ (item_at nodes c).type → Means nodes (table.owned_by o c) (own_variable o t)
  own_same None c t e = ap means.is_own_of_cluster e
  own_same (Some x) c t e = ap means.is_own_of_routine e

  variable_same : (k : NodeKind) (r : Round) (c : ℕ) (cs : List ℕ) (t : TypeExpression) → t ≡ (item_at nodes c).type → Means nodes (table.variables_in k r.routine (c ∷ cs)) (variable_in k r t)
  variable_same kind.Own r c cs t e = own_same r.routine c t e
  variable_same _ r c cs t e = ap means.is_local e

  parameter_same : (b : Bool) (its : Option ModuleId) (items : ℕ → Item) (o : Option ℕ) (k : ℕ) (m : means.Meaning) → settled.Means nodes (if b then settle.Module else settled_as.parameter_as (type_of_option items o) k) m → Means nodes (if b then meant.Module its else table.parameter_as o k) m
  parameter_same true its items o k m e = e
  parameter_same false its items None k m e = e
  parameter_same false its items (Some c) k m e = e

  -- an equate is no type set, and a type set none
  set_same : (n : ℕ) (e : Equate) (name : Identifier) → is_other (bound_at (equate_binding e ∷ []) n name) ≡ true → bound_at (equate_binding e ∷ []) n name ≡ means.is_type_set
  set_same n (an_equate k x c) name o = by (k == n && bytes_eq (means.equate_name x) name) o
    where
      by : (b : Bool) → is_other (if b then means.is_equate c else means.is_module) ≡ true → (if b then means.is_equate c else means.is_module) ≡ means.is_type_set
      by true o = absurd (true≢false (sym o))
      by false o = absurd (true≢false (sym o))
  set_same n (a_set_equate k x s) name o = as_other means.is_type_set (bound_at (equate_binding (a_set_equate k x s) ∷ []) n name) (one_bound n k means.is_type_set (means.equate_name x) name) o

  side_same : (k : NodeKind) (c n : ℕ) (e : Equate) (name : Identifier) → settled.Means nodes (settled_as.equated_by k c) (bound_at (equate_binding e ∷ []) n name) → Means nodes (table.equated_by k c) (bound_at (equate_binding e ∷ []) n name)
  side_same kind.TypeSet c n e name s = set_same n e name s
  side_same kind.File c n e name s = (s.1, s.2)
  side_same _ c n e name s = (s.1, s.2)

  definition_same : (its : Option ModuleId) (unit : Option ℕ) (m : means.Meaning) → (is_other m ≡ true → m ≡ means.is_routine_of_cluster) → settled.Means nodes (settled_as.definition_in unit) m → Means nodes (table.definition_in its unit) m
  definition_same its None m e s = s
  definition_same its (Some unit) m e s = e s

  routine_same : (k : NodeKind) → is_other (routine_meaning k) ≡ true → routine_meaning k ≡ means.is_routine_of_cluster
  routine_same kind.Cluster o = refl
  routine_same kind.File o = absurd (true≢false (sym o))
  routine_same _ o = absurd (true≢false (sym o))

no_decl : (j : NodeKind) → is_child shape.any_type j ≡ true → is_of kind.Decl j ≡ false
no_decl kind.Decl e = absurd (true≢false (sym e))
no_decl kind.File e = refl
no_decl _ e = refl

record HasChild (cs : List ℕ) : Type 0 where
  first : ℕ
  rest : List ℕ
  are : cs ≡ first ∷ rest

has_child : (cs : List ℕ) → 1 ≤ length cs → HasChild cs
has_child [] l = absurd (omega (arith, l))
has_child (c ∷ cs) l = record { first = c; rest = cs; are = refl }

module _ (t : Text) (nodes : List Node) (rounds : List Round) (parsed : IsParsed t nodes) (are : AreRounds nodes rounds) (named : Identifier → Option ModuleId) (counts : List ℕ) where
  module _ (d : Declared) (node : Node) (at : slice_get nodes d.node ≡ Some node) where
    abbrev items : ℕ → Item
    items = before d.node (item_at nodes)

    its : item_at nodes d.node ≡ item_of (before d.node (item_at nodes)) nodes d.node node
    its = item_there nodes d.node node at

    -- what the node says of this name, if it is of this kind
    abbrev said : NodeKind → means.Meaning
    said k = bound_at (declared_in nodes rounds k d.node) d.node d.name

    child_is : (c : ℕ) (cs : List ℕ) → node.children ≡ c ∷ cs → before d.node (item_at nodes) c ≡ item_at nodes c
    child_is c cs e = before_is nodes d.node c (All-head (λ x. x < d.node) c cs (subst (λ (cs : List ℕ). All (λ x. x < d.node) cs) e (parsed.tree.below d.node node at)))

    some_child : (k : NodeKind) → node.kind ≡ k → 1 ≤ least_children k → HasChild node.children
    some_child k is l =
        let many : least_children node.kind ≤ length node.children = (enough nodes parsed.forms d.node node at).children in
        let same : least_children node.kind ≡ least_children k = ap least_children is in
        has_child node.children (omega (arith, l, many, same))

    first_is : (x : HasChild node.children) → (before d.node (item_at nodes) (child 0 node)).type ≡ (item_at nodes x.first).type
    first_is x = ap (λ (cs : List ℕ). (before d.node (item_at nodes) (get_or cs 0 0)).type) x.are ∙ ap (λ (i : Item). i.type) (child_is x.first x.rest x.are)

    decl_same : node.kind ≡ kind.Decl → is_other (said kind.Decl) ≡ true → Means nodes (table.variables_in (outer_kind nodes rounds d.node) (round_at rounds d.node).routine node.children) (said kind.Decl)
    decl_same is o =
        let x : HasChild node.children = some_child kind.Decl is (omega arith) in
        let decl : (item_at nodes d.node).declaration ≡ declaration_of items nodes d.node node kind.Decl = ap (λ (i : Item). i.declaration) its ∙ ap (declaration_of items nodes d.node node) is in
        let type : (item_at nodes d.node).declaration.type ≡ (item_at nodes x.first).type = ap (λ (d : Typed). d.type) decl ∙ first_is x in
        let bound : said kind.Decl ≡ variable_in (outer_kind nodes rounds d.node) (round_at rounds d.node) (item_at nodes d.node).declaration.type =
        as_other (variable_in (outer_kind nodes rounds d.node) (round_at rounds d.node) (item_at nodes d.node).declaration.type) (said kind.Decl)
        (map_bound d.node (item_at nodes d.node).declaration.node (variable_in (outer_kind nodes rounds d.node) (round_at rounds d.node) (item_at nodes d.node).declaration.type) (item_at nodes d.node).declaration.names d.name) o in
        subst (λ (cs : List ℕ). Means nodes (table.variables_in (outer_kind nodes rounds d.node) (round_at rounds d.node).routine cs) (said kind.Decl)) (sym x.are)
        (subst (Means nodes (table.variables_in (outer_kind nodes rounds d.node) (round_at rounds d.node).routine (x.first ∷ x.rest))) (sym bound)
        (variable_same nodes (outer_kind nodes rounds d.node) (round_at rounds d.node) x.first x.rest (item_at nodes d.node).declaration.type type))

    -- a variable whose type is the first child
    local_same : (x : HasChild node.children) (m : means.Meaning) (t : TypeExpression) → IsOr (means.is_local t) m → t ≡ (item_at nodes x.first).type → is_other m ≡ true → Means nodes (table.local_in node.children) m
    local_same x m t b e o =
        subst (λ (cs : List ℕ). Means nodes (table.local_in cs) m) (sym x.are) (as_other (means.is_local t) m b o ∙ ap means.is_local e)

    init_same : node.kind ≡ kind.Init → is_other (said kind.Init) ≡ true → Means nodes (table.local_in node.children) (said kind.Init)
    init_same is o =
        let x : HasChild node.children = some_child kind.Init is (omega arith) in
        let statement : (item_at nodes d.node).statement ≡ init_of items nodes d.node node node.names = ap (λ (i : Item). i.statement) its ∙ ap (statement_of items nodes d.node node) is in
        by node.names x statement
      where
        by : (names : List Identifier) (x : HasChild node.children) → (item_at nodes d.node).statement ≡ init_of items nodes d.node node names → Means nodes (table.local_in node.children) (said kind.Init)
        by [] x e = absurd (true≢false (sym o ∙ ap (λ (s : Statement). is_other (bound_at (of_initial s) d.node d.name)) e))
        by (name ∷ names) x e =
            local_same x (said kind.Init) (items (child 0 node)).type
            (subst (IsOr (means.is_local (items (child 0 node)).type)) (sym (ap (λ (s : Statement). bound_at (of_initial s) d.node d.name) e)) (one_bound d.node d.node (means.is_local (items (child 0 node)).type) name d.name))
            (first_is x) o

    -- ---- an own variable

    abbrev OwnSame : Identifier → List ℕ → Type 0
    OwnSame name cs =
        (m : means.Meaning) → m ≡ bound_at (of_own_initial (own_variable (round_at rounds d.node).routine) (owned items nodes d.node (name ∷ []) (run nodes kind.Decl cs) (after_run nodes kind.Decl cs))) d.node d.name → is_other m ≡ true
        → (c : ℕ) × (rest : List ℕ) × (cs ≡ c ∷ rest) × (m ≡ own_variable (round_at rounds d.node).routine (items c).type)

    own_first : (name : Identifier) (c e : ℕ) (rest : List ℕ) → is_child shape.any_type (kind_at nodes c) ≡ true → OwnSame name (c ∷ e ∷ rest)
    unfolding leading
    own_first name c e rest is =
        let none : leading nodes kind.Decl (c ∷ e ∷ rest) ≡ 0 = ap (λ (b : Bool). if b then leading nodes kind.Decl (e ∷ rest) + 1 else 0) (no_decl (kind_at nodes c) is) in λ m b o. (
          c,
          e ∷ rest,
          refl,
          as_other (own_variable (round_at rounds d.node).routine (items c).type) m
              (subst (IsOr (own_variable (round_at rounds d.node).routine (items c).type))
              (sym (b ∙ ap (λ (k : ℕ). bound_at (of_own_initial (own_variable (round_at rounds d.node).routine) (owned items nodes d.node (name ∷ []) (take k (c ∷ e ∷ rest)) (drop k (c ∷ e ∷ rest)))) d.node d.name) none))
              (one_bound d.node d.node (own_variable (round_at rounds d.node).routine (items c).type) name d.name))
              o,
        )

    own_of_node : node.kind ≡ kind.Own → is_other (said kind.Own) ≡ true → Means nodes (table.own_in (round_at rounds d.node).routine node.children) (said kind.Own)
    own_of_node is o =
        let own : (item_at nodes d.node).own ≡ owned items nodes d.node node.names (run nodes kind.Decl node.children) (after_run nodes kind.Decl node.children) = ap (λ (i : Item). i.own) its ∙ ap (own_of items nodes d.node node) is in
        let bound : (names : List Identifier) → node.names ≡ names → said kind.Own ≡ bound_at (of_own_initial (own_variable (round_at rounds d.node).routine) (owned items nodes d.node names (run nodes kind.Decl node.children) (after_run nodes kind.Decl node.children))) d.node d.name =
        λ names e. ap (λ (o : Own). bound_at (of_own_initial (own_variable (round_at rounds d.node).routine) o) d.node d.name) (own ∙ ap (λ (names : List Identifier). owned items nodes d.node names (run nodes kind.Decl node.children) (after_run nodes kind.Decl node.children)) e) in
        elim (own_alone nodes d.node node (parsed.forms d.node node at) parsed.tree at is) [
          | inl none ↦ absurd (true≢false (sym o ∙ ap is_other (bound [] none ∙ nothing_there (after_run nodes kind.Decl node.children))))
          | inr one ↦
              (let same : OwnSame one.0 node.children =
              on_head nodes d.node (OwnSame one.0) (is_child shape.any_type) (just (is_child shape.expression) ∷ [])
              (λ c rest first more. on_head nodes d.node (λ rest. OwnSame one.0 (c ∷ rest)) (is_child shape.expression) [] (λ e rest second more. own_first one.0 c e rest first.1) rest more) node.children one.2 in
              let x = same (said kind.Own) (bound (one.0 ∷ []) one.1) o in
              subst (λ (cs : List ℕ). Means nodes (table.own_in (round_at rounds d.node).routine cs) (said kind.Own)) (sym x.2)
              (subst (Means nodes (table.owned_by (round_at rounds d.node).routine x.0)) (sym x.3)
              (own_same nodes (round_at rounds d.node).routine x.0 (items x.0).type (ap (λ (i : Item). i.type) (child_is x.0 x.1 x.2)))))
        ]
      where
        nothing_there : (cs : List ℕ) → bound_at (of_own_initial (own_variable (round_at rounds d.node).routine) (owned items nodes d.node [] (run nodes kind.Decl node.children) cs)) d.node d.name ≡ means.is_module
        nothing_there [] = refl
        nothing_there (c ∷ cs) = refl

    -- ---- the variable of an arm

    variable_bound : (x : Option Identifier) (cs : List ℕ) → node.children ≡ cs → (m : means.Meaning) → m ≡ bound_at (of_variable d.node means.is_local (variable_of items x (type_of nodes cs))) d.node d.name → is_other m ≡ true → Means nodes (table.local_in cs) m
    variable_bound None cs e m b o = absurd (true≢false (sym o ∙ ap is_other b))
    variable_bound (Some x) [] e m b o = absurd (true≢false (sym o ∙ ap is_other b))
    variable_bound (Some x) (c ∷ cs) e m b o = by (is_type (kind_at nodes c)) b
      where
        by : (is : Bool) → m ≡ bound_at (of_variable d.node means.is_local (variable_of items (Some x) (if is then Some c else None))) d.node d.name → m ≡ means.is_local (item_at nodes c).type
        by false b = absurd (true≢false (sym o ∙ ap is_other b))
        by true b =
            as_other (means.is_local (items c).type) m (subst (IsOr (means.is_local (items c).type)) (sym b) (one_bound d.node d.node (means.is_local (items c).type) x d.name)) o
            ∙ ap (λ (i : Item). means.is_local i.type) (child_is c cs e)

    arm_same : node.kind ≡ kind.TagArm → is_other (said kind.TagArm) ≡ true → Means nodes (table.local_in node.children) (said kind.TagArm)
    arm_same is o =
        let variable : (item_at nodes d.node).tag_arm.variable ≡ variable_of items (last_option node.names) (type_of nodes node.children) = ap (λ (i : Item). i.tag_arm.variable) its ∙ ap (λ (k : NodeKind). (tag_arm_of items nodes d.node node k).variable) is in
        variable_bound (last_option node.names) node.children refl (said kind.TagArm) (ap (λ (x : Option Variable). bound_at (of_variable d.node means.is_local x) d.node d.name) variable) o

    others_same : node.kind ≡ kind.Others → is_other (said kind.Others) ≡ true → Means nodes (table.local_in node.children) (said kind.Others)
    others_same is o =
        let arm : (item_at nodes d.node).others ≡ others_of items nodes d.node node kind.Others = ap (λ (i : Item). i.others) its ∙ ap (others_of items nodes d.node node) is in
        variable_bound (last_option node.names) node.children refl (said kind.Others) (ap (λ (x : Others). bound_at (of_arm x) d.node d.name) arm) o

    -- ---- by kind

    by_kind : (k : NodeKind) → node.kind ≡ k → (count number : ℕ) → count_in counts d.unit ≡ count → settled.Means nodes (settled_as.declared_in nodes k d.node d.unit count number) (said k)
        → Means nodes (table.declared_in nodes rounds named counts k node.children d number) (said k)
    by_kind kind.Equate is count number same s =
        let x : HasChild node.children = some_child kind.Equate is (omega arith) in
        subst (λ (cs : List ℕ). Means nodes (table.right_of nodes cs) (said kind.Equate)) (sym x.are)
        (side_same nodes (kind_at nodes x.first) x.first d.node (item_at nodes d.node).equate d.name
        (subst (λ (cs : List ℕ). settled.Means nodes (settled_as.right_of nodes cs) (said kind.Equate)) (ap children_of at ∙ x.are) s))
    by_kind kind.Parm is count number same s =
        let type : (item_at nodes d.node).parameter.type ≡ type_of_option items (type_of nodes node.children) = ap (λ (i : Item). i.parameter.type) its ∙ ap (λ (k : NodeKind). (parameter_of items nodes d.node node k).type) is in
        parameter_same nodes (number == 0) (named d.name) items (type_of nodes node.children) number (said kind.Parm)
        (subst (λ (o : Option TypeExpression). settled.Means nodes (settled_as.parameter_in o number) (said kind.Parm)) type s)
    by_kind kind.TypeSet is count number same s = subst (λ (k : ℕ). Means nodes (table.variable_in d.node k) (said kind.TypeSet)) (sym same) s
    by_kind kind.Routine is count number same s =
        definition_same nodes (named d.name) d.unit (said kind.Routine)
        (λ o. let e : said kind.Routine ≡ routine_meaning (outer_kind nodes rounds d.node) = as_other (routine_meaning (outer_kind nodes rounds d.node)) (said kind.Routine) (one_bound d.node d.node (routine_meaning (outer_kind nodes rounds d.node)) (item_at nodes d.node).routine.name d.name) o in
        e ∙ routine_same nodes (outer_kind nodes rounds d.node) (sym (ap is_other e) ∙ o)) s
    by_kind kind.Cluster is count number same s =
        definition_same nodes (named d.name) d.unit (said kind.Cluster)
        (λ o. absurd (true≢false (sym o ∙ ap is_other (as_other means.is_module (said kind.Cluster) (one_bound d.node d.node means.is_module (item_at nodes d.node).cluster.name d.name) o)))) s
    by_kind kind.Decl is count number same s = decl_same is s
    by_kind kind.Init is count number same s = init_same is s
    by_kind kind.Own is count number same s = own_of_node is s
    by_kind kind.TagArm is count number same s = arm_same is s
    by_kind kind.Others is count number same s = others_same is s
    by_kind kind.File is count number same s = refl
    by_kind _ is count number same s = refl

  -- what the table says of a declaration, where the table of clu_settle says what it declares
  pub declared_means : (d : Declared) (count number : ℕ) → count_in counts d.unit ≡ count → settled.Means nodes (settled_as.declared_in nodes (kind_at nodes d.node) d.node d.unit count number) (bound_at (scope_in nodes rounds).bindings d.node d.name)
      → Means nodes (table.declared_at nodes rounds named counts number (Some d)) (bound_at (scope_in nodes rounds).bindings d.node d.name)
  declared_means d count number same s = by (slice_get nodes d.node) refl
    where
      by : (its : Option Node) → slice_get nodes d.node ≡ its → Means nodes (table.declared_at nodes rounds named counts number (Some d)) (bound_at (scope_in nodes rounds).bindings d.node d.name)
      by None at =
          subst (λ (o : Option Node). Means nodes (table.declared_in nodes rounds named counts (kind_of o) (children_of o) d number) (bound_at (scope_in nodes rounds).bindings d.node d.name)) (sym at)
          (bound_is t nodes rounds parsed are d.node d.name ∙ ap (λ (o : Option Node). bound_at (declared_in nodes rounds (kind_of o) d.node) d.node d.name) at)
      by (Some node) at =
          subst (λ (o : Option Node). Means nodes (table.declared_in nodes rounds named counts (kind_of o) (children_of o) d number) (bound_at (scope_in nodes rounds).bindings d.node d.name)) (sym at)
          (subst (Means nodes (table.declared_in nodes rounds named counts node.kind node.children d number)) (sym there)
          (by_kind d node at node.kind refl count number same
          (subst (settled.Means nodes (settled_as.declared_in nodes node.kind d.node d.unit count number)) there
          (subst (λ (o : Option Node). settled.Means nodes (settled_as.declared_in nodes (kind_of o) d.node d.unit count number) (bound_at (scope_in nodes rounds).bindings d.node d.name)) at s))))
        where
          there : bound_at (scope_in nodes rounds).bindings d.node d.name ≡ bound_at (declared_in nodes rounds node.kind d.node) d.node d.name
          there = bound_is t nodes rounds parsed are d.node d.name ∙ ap (λ (o : Option Node). bound_at (declared_in nodes rounds (kind_of o) d.node) d.node d.name) at
