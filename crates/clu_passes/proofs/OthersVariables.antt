-- The types of the variables to which a statement assigns, as V15 reads them.
use Rattle.std.proofs.Common.{◌≡◌, ◌∙◌, ℕ, ◌+◌, ◌-◌, ◌^◌, ◌<◌, ◌≤◌, ◌⊎◌, ◌==◌, ◌&&◌, ◌||◌, if◌then◌else◌, leb-true, nat_le, Bool, true, false, List, [], ◌∷◌, bytes_eq, get_or, length, map, Option, Some, None, inl, inr, refl, sym, ap, subst, arith}
use Rattle.std.specs.Prelude.{slice_get}
use Rattle.std.specs.List.{AllByRecursion}
use Rattle.std.proofs.lemmas.Bool.{true≢false, and_parts}
use Rattle.std.proofs.lemmas.Option.{none-some, same_Some, slice_get_within}
use Rattle.clu_tree.specs.declared.node.Node.{Node}
use Rattle.clu_tree.specs.declared.node.NodeKind.{NodeKind}
use Rattle.clu_tree.specs.declared.node.NodeKind.TheVariants as kind
use Rattle.clu_parser.specs.Trees.{Text}
use Rattle.clu_syntax.specs.Kinds.{is_type, kind_at, kind_of}
use Rattle.clu_syntax.specs.Rounds.{round_at}
use Rattle.clu_syntax.specs.declared.words.SimpleType.TheVariants as simple
use Rattle.clu_syntax.specs.Splits.{children_of, is_of, type_of}
use Rattle.clu_syntax.specs.Syntax.{Identifier}
use Rattle.clu_names.specs.declared.scopes.Declared.{Declared}
use Rattle.clu_names.specs.Denotes.{found, is_open, names_in, stands_in}
use Rattle.clu_names.specs.Denotes as denotes
use Rattle.clu_names.specs.Latest.{IsBest, IsBestAt, is_local}
use Rattle.clu_names.specs.Scopes.{declarations, next}
use Rattle.clu_names.proofs.Best.{found_is}
use Rattle.clu_checking.specs.Specifications.{Specification}
use Rattle.clu_checking.specs.Files.{File, is_kind, is_kind_at, item, kind_in, parent, parent_of, round, scope_in}
use Rattle.clu_checking.specs.Files as files
use Rattle.clu_checking.specs.ConstantRules.{is_of_heading, is_word, v31}
use Rattle.clu_settle.specs.Names.{names_of}
use Rattle.clu_declares.proofs.Below.{same_kind}
use Rattle.clu_declares.proofs.Parents.{IsIn}
use Rattle.clu_bindings.specs.declared.file.File.{File as Read}
use Rattle.clu_bindings.specs.declared.meaning.Meaning.{Meaning}
use Rattle.clu_bindings.specs.declared.meaning.Meaning.TheVariants as meant
use Rattle.clu_bindings.specs.declared.meaning.ModuleId.{ModuleId}
use Rattle.clu_bindings.specs.Declaring as table
use Rattle.clu_bindings.specs.Modules.{named}
use Rattle.clu_name_rules.specs.Closed.{is_definition}
use Rattle.clu_type_rules.specs.declared.known.Known.{Known}
use Rattle.clu_type_rules.specs.Bindings.{meanings}
use Rattle.clu_passes.specs.Bound.{is_assigning}
use Rattle.clu_passes.specs.Clear.{IsOutside}
use Rattle.clu_passes.specs.ConstantTables.{file_with}
use Rattle.clu_passes.specs.Lost.{is_cvt_at}
use Rattle.clu_passes.specs.Made.{IsWhole}
use Rattle.clu_passes.specs.Notes.{HaveParents}
use Rattle.clu_passes.specs.OthersKnown.{AreRepsThere, IsRepThere, IsTypeSeen, IsVariableSeen}
use Rattle.clu_passes.specs.Trees.{IsFileOfTree, is_of_constant}
use Rattle.clu_passes.proofs.CvtPlaces.{misplaced_at}
use Rattle.clu_passes.proofs.NamesMean as meaning_of
use Rattle.clu_passes.proofs.OfParents.{has_it}
use Rattle.clu_passes.proofs.OthersDeclared.{IsVariableAt, declares_variables, variable_at, variable_typed}
use Rattle.clu_passes.proofs.OthersFine.{outside_of}
use Rattle.clu_passes.proofs.OthersRounds.{HasParentNode, parent_node}
use Rattle.clu_passes.proofs.Units.{modules_declared}
use Rattle.clu_passes.proofs.ValuesKnown as at
use Rattle.clu_passes.proofs.ValuesKnown.{IsBelow, child_below}

used : (node : Node) (k : NodeKind) → is_assigning k ≡ true → names_in k node ≡ node.names
used node kind.Assign is = refl
used node kind.For is = refl
used node _ is = absurd (true≢false (sym is))

any_part : (a b c : Bool) → (a || b || c) ≡ true → (a ≡ true) ⊎ ((b ≡ true) ⊎ (c ≡ true))
any_part true b c e = inl refl
any_part false true c e = inr (inl refl)
any_part false false c e = inr (inr e)

declares_apart : (k : NodeKind) → declares_variables k ≡ true → is_of_constant k ≡ false
declares_apart kind.Decl e = refl
declares_apart kind.Init e = refl
declares_apart kind.Own e = refl
declares_apart kind.TagArm e = refl
declares_apart kind.Others e = refl
declares_apart kind.File e = absurd (true≢false (sym e))
declares_apart _ e = absurd (true≢false (sym e))

declares_no_definition : (k : NodeKind) → declares_variables k ≡ true → is_definition k ≡ false
declares_no_definition kind.Decl e = refl
declares_no_definition kind.Init e = refl
declares_no_definition kind.Own e = refl
declares_no_definition kind.TagArm e = refl
declares_no_definition kind.Others e = refl
declares_no_definition kind.File e = absurd (true≢false (sym e))
declares_no_definition _ e = absurd (true≢false (sym e))

declares_no_part : (k : NodeKind) → declares_variables k ≡ true → (is_of kind.Results k ≡ false) × (is_of kind.Exc k ≡ false)
declares_no_part kind.Decl e = (refl, refl)
declares_no_part kind.Init e = (refl, refl)
declares_no_part kind.Own e = (refl, refl)
declares_no_part kind.TagArm e = (refl, refl)
declares_no_part kind.Others e = (refl, refl)
declares_no_part kind.File e = absurd (true≢false (sym e))
declares_no_part _ e = absurd (true≢false (sym e))

module _ (t : Text) (k : Known) (library : List Specification) (refused : List ℕ) (all : IsWhole t k.tables library refused)
    (reps : AreRepsThere (file_with k.tables.file (scope_in k.tables.file.syntax.now k.tables.file.rounds.now) library refused)) (n : ℕ) (n_inside : n < length k.tables.file.syntax.now) where
  abbrev r : Read
  r = k.tables.file

  abbrev nodes : List Node
  nodes = k.tables.file.syntax.now

  abbrev ds : List Declared
  ds = declarations k.tables.file.syntax.now k.tables.file.rounds.now

  abbrev f : File
  f = file_with k.tables.file (scope_in k.tables.file.syntax.now k.tables.file.rounds.now) library refused

  abbrev of_file : IsFileOfTree f
  of_file = at.of_tree t k.tables library refused all.made all.lost

  parents : HaveParents f
  parents = at.parents t k.tables library refused all.made all.lost

  few : length nodes + length ds < 2 ^ 32
  few = all.made.file.few

  -- ---- the scope of a declaration

  unit_of : (j : ℕ) (d : Declared) → slice_get ds j ≡ Some d → declares_variables (kind_in f d.node) ≡ true → (u : ℕ) × (d.unit ≡ Some u)
  unit_of j d there declares = by d.unit refl
    where
      by : (o : Option ℕ) → d.unit ≡ o → (u : ℕ) × (d.unit ≡ Some u)
      by (Some u) e = (u, e)
      by None e = absurd (true≢false (sym (modules_declared t nodes k.tables.file.rounds.now all.made.file.parsed all.made.file.rounds j d there (ap is_local e)) ∙ declares_no_definition (kind_in f d.node) declares))

  in_scope : (j : ℕ) (d : Declared) → slice_get ds j ≡ Some d → declares_variables (kind_in f d.node) ≡ true → (name : Identifier) → is_open name n d ≡ true → (d.from ≤ n) × (n ≤ d.to)
  in_scope j d there declares name opened =
      let unit = unit_of j d there declares in
      let scope : (nat_le d.from n && nat_le n d.to) ≡ true = sym (ap (λ (o : Option ℕ). stands_in o d.from d.to n) unit.1) ∙ (and_parts (bytes_eq d.name name) (stands_in d.unit d.from d.to n) opened).1 in
      let both = and_parts (nat_le d.from n) (nat_le n d.to) scope in
      (leb-true d.from n both.0, leb-true n d.to both.1)

  -- ---- the type of a variable that is in scope

  module _ (j : ℕ) (d : Declared) (there : slice_get ds j ≡ Some d) (name : Identifier) (opened : is_open name n d ≡ true) (declares : declares_variables (kind_in f d.node) ≡ true) (c : ℕ) (cs : List ℕ) (are : children_of (slice_get nodes d.node) ≡ c ∷ cs) where
    its : IsVariableAt f of_file parents few d c
    its = variable_at f of_file parents few j d there declares c cs are

    record HasNode : Type 0 where
      node : Node
      here : slice_get nodes d.node ≡ Some node
      child : IsIn c node.children

    has_node : HasNode
    has_node = by (slice_get nodes d.node) refl are
      where
        by : (o : Option Node) → slice_get nodes d.node ≡ o → children_of o ≡ c ∷ cs → HasNode
        by None here e = absurd (no_child e)
          where
            no_child : [] ≡ c ∷ cs → ⊥
            no_child e = let size : 0 ≡ length (c ∷ cs) = ap length e in omega (arith, size)
        by (Some node) here e = record { node = node; here = here; child = subst (IsIn c) (sym e) (inl refl) }

    up : parent f c ≡ Some d.node
    up = parents.above d.node c (has_it c (files.children f d.node) (subst (IsIn c) (sym (ap (λ (o : Option Node). files.node_children f o) has_node.here)) has_node.child))

    apart : is_of_constant (kind_in f d.node) ≡ false
    apart = declares_apart (kind_in f d.node) declares

    outside : IsOutside f c
    outside = record {
      beside = λ p above index. true≢false (sym (ap is_of_constant (ap (kind_in f) (same_Some d.node p (sym up ∙ above)) ∙ index)) ∙ apart);
      above = λ p q above over index. (outside_of f of_file parents d.node apart).beside q (ap (parent f) (same_Some d.node p (sym up ∙ above)) ∙ over) index;
    }

    in_it : (d.from ≤ n) × (n ≤ d.to)
    in_it = in_scope j d there declares name opened

    -- if it is `cvt`, that of an argument of the routine round the node
    module _ (cvt : is_cvt_at f c ≡ true) (good : v31 f c ≡ false) where
      placed : (b : Bool) → is_of_heading f (parent f c) ≡ b → is_of_heading f (parent f c) ≡ true
      placed true is = is
      placed false none =
          let both = and_parts (is_kind f kind.Simple c) (is_word simple.Cvt (item f c).type) cvt in
          absurd (misplaced_at f c none (record { of_word = same_kind kind.Simple (kind_in f c) both.0; word = both.1; placed = good }))

      of_argument : (is_kind f kind.Decl d.node ≡ true) × (files.stands_in f kind.Routine d.node ≡ true)
      of_argument = elim (any_part (is_kind f kind.Decl d.node && files.stands_in f kind.Routine d.node) (is_kind f kind.Results d.node && files.stands_in f kind.Routine d.node) (is_kind f kind.Exc d.node && is_kind_at f kind.Routine (parent_of f (parent f d.node)))
          (sym (ap (is_of_heading f) up) ∙ placed (is_of_heading f (parent f c)) refl)) [
            | inl decl ↦ and_parts (is_kind f kind.Decl d.node) (files.stands_in f kind.Routine d.node) decl
            | inr more ↦ elim more [
              | inl results ↦ absurd (true≢false (sym (and_parts (is_kind f kind.Results d.node) (files.stands_in f kind.Routine d.node) results).0 ∙ (declares_no_part (kind_in f d.node) declares).0))
              | inr exception ↦ absurd (true≢false (sym (and_parts (is_kind f kind.Exc d.node) (is_kind_at f kind.Routine (parent_of f (parent f d.node))) exception).0 ∙ (declares_no_part (kind_in f d.node) declares).1))
            ]
          ]

      rep_there : IsRepThere f n c
      rep_there = by (parent f d.node) refl of_argument.1
        where
          by : (o : Option ℕ) → parent f d.node ≡ o → is_kind_at f kind.Routine o ≡ true → IsRepThere f n c
          by None above hit = absurd (true≢false (sym hit))
          by (Some q) above hit =
              let routine : kind_in f q ≡ kind.Routine = same_kind kind.Routine (kind_in f q) hit in
              let decl : kind_in f d.node ≡ kind.Decl = same_kind kind.Decl (kind_in f d.node) of_argument.0 in
              let x : HasParentNode f of_file parents d.node q = parent_node f of_file parents d.node q above in
              let is : x.node.kind ≡ kind.Routine = sym (ap kind_of x.at) ∙ routine in
              let b : IsBelow f of_file q d.node = child_below f of_file q x.node x.at d.node x.child in
              let scope = its.upto q above routine decl in
              let from : d.from ≡ next d.node = scope.0 in
              let to : d.to ≡ q = scope.1 in
              let low : d.from ≤ n = in_it.0 in
              let high : n ≤ d.to = in_it.1 in
              let under : d.node < q = b.less in
              let least : (round f q).first ≤ d.node = b.least in
              let inside : q < length nodes = slice_get_within nodes q x.node x.at in
              let behind : d.node < n = omega (arith, from, low, under, inside, few) in
              let own : IsBelow f of_file d.node c = child_below f of_file d.node has_node.node has_node.here c has_node.child in
              let first : (round f q).first ≤ (round f d.node).first = b.first in
              let begun : (round f d.node).first ≤ c = own.least in
              let less : c < d.node = own.less in
              reps n c q routine (omega (arith, least, behind)) (omega (arith, high, to)) (omega (arith, first, begun)) (omega (arith, less, under))

    type_seen : IsTypeSeen f n c
    type_seen =
        let behind : c < d.from = its.behind in
        let low : d.from ≤ n = in_it.0 in
        let here : n < length nodes = n_inside in
        record {
          typed = variable_typed f of_file parents few j d there declares c cs are;
          inside = omega (arith, behind, low, here);
          outside = outside;
          below = λ m from upto. inl (omega (arith, upto, behind, low));
          home = λ cvt good. (rep_there cvt good).home;
          rep = λ cvt good. (rep_there cvt good).before;
        }

  -- ---- what a declaration declares

  module _ (of : Identifier → Option ModuleId) (counts : List ℕ) (j : ℕ) (d : Declared) (there : slice_get ds j ≡ Some d) (name : Identifier) (opened : is_open name n d ≡ true) (number : ℕ) where
    equate_seen : (kind_of_side : NodeKind) (c : ℕ) → IsVariableSeen f n (table.equated_by kind_of_side c)
    equate_seen kind.TypeSet c = tt
    equate_seen _ c = tt

    right_seen : (cs : List ℕ) → IsVariableSeen f n (table.right_of nodes cs)
    right_seen [] = tt
    right_seen (c ∷ cs) = equate_seen (kind_at nodes c) c

    parameter_seen : (its : Option ModuleId) (o : Option ℕ) (b : Bool) → IsVariableSeen f n (if b then meant.Module its else table.parameter_as o number)
    parameter_seen its o true = tt
    parameter_seen its None false = tt
    parameter_seen its (Some x) false = tt

    definition_seen : (its : Option ModuleId) (o : Option ℕ) → IsVariableSeen f n (table.definition_in its o)
    definition_seen its None = tt
    definition_seen its (Some u) = tt

    owned_seen : (routine : Option ℕ) (c : ℕ) → IsTypeSeen f n c → IsVariableSeen f n (table.owned_by routine c)
    owned_seen None c seen = seen
    owned_seen (Some x) c seen = seen

    local_seen : declares_variables (kind_in f d.node) ≡ true → (cs : List ℕ) → children_of (slice_get nodes d.node) ≡ cs → IsVariableSeen f n (table.local_in cs)
    local_seen declares [] are = tt
    local_seen declares (c ∷ cs) are = type_seen j d there name opened declares c cs are

    own_seen : declares_variables (kind_in f d.node) ≡ true → (routine : Option ℕ) (cs : List ℕ) → children_of (slice_get nodes d.node) ≡ cs → IsVariableSeen f n (table.own_in routine cs)
    own_seen declares routine [] are = tt
    own_seen declares routine (c ∷ cs) are = owned_seen routine c (type_seen j d there name opened declares c cs are)

    decl_seen : declares_variables (kind_in f d.node) ≡ true → (outer : NodeKind) (routine : Option ℕ) (cs : List ℕ) → children_of (slice_get nodes d.node) ≡ cs → IsVariableSeen f n (table.variables_in outer routine cs)
    decl_seen declares kind.Own routine cs are = own_seen declares routine cs are
    decl_seen declares kind.File routine cs are = local_seen declares cs are
    decl_seen declares _ routine cs are = local_seen declares cs are

    declared_seen : (its_kind : NodeKind) → kind_in f d.node ≡ its_kind → (cs : List ℕ) → children_of (slice_get nodes d.node) ≡ cs → IsVariableSeen f n (table.declared_in nodes k.tables.file.rounds.now of counts its_kind cs d number)
    declared_seen kind.Equate is cs are = right_seen cs
    declared_seen kind.Parm is cs are = parameter_seen (of d.name) (type_of nodes cs) (number == 0)
    declared_seen kind.TypeSet is cs are = tt
    declared_seen kind.Routine is cs are = definition_seen (of d.name) d.unit
    declared_seen kind.Cluster is cs are = definition_seen (of d.name) d.unit
    declared_seen kind.Decl is cs are = decl_seen (ap declares_variables is) (table.outer_kind nodes k.tables.file.rounds.now d.node) (round_at k.tables.file.rounds.now d.node).routine cs are
    declared_seen kind.Init is cs are = local_seen (ap declares_variables is) cs are
    declared_seen kind.Own is cs are = own_seen (ap declares_variables is) (round_at k.tables.file.rounds.now d.node).routine cs are
    declared_seen kind.TagArm is cs are = local_seen (ap declares_variables is) cs are
    declared_seen kind.Others is cs are = local_seen (ap declares_variables is) cs are
    declared_seen kind.File is cs are = tt
    declared_seen _ is cs are = tt

  -- ---- the names of the node

  abbrev of : Identifier → Option ModuleId
  of = named k.tables.file.bindings.now.modules

  abbrev declared : List Meaning
  declared = k.tables.file.bindings.now.declared.items

  unbound_seen : (o : Option Identifier) → IsVariableSeen f n (table.unbound of o)
  unbound_seen None = tt
  unbound_seen (Some name) = tt

  pub name_seen : (name : Identifier) (x : Option Identifier) → IsVariableSeen f n (table.meant_by of declared (found ds name n) x)
  name_seen name x = by (found ds name n) (found_is ds name n)
    where
      by : (o : Option ℕ) → IsBest (λ j d. is_open name n d ≡ true) ds o → IsVariableSeen f n (table.meant_by of declared o x)
      by None best = unbound_seen x
      by (Some p) best = at_best best
        where
          at_best : (d : Declared) × IsBestAt (λ j d. is_open name n d ≡ true) ds p d → IsVariableSeen f n (get_or declared p table.nothing)
          at_best best =
              let d : Declared = best.0 in
              let it : IsBestAt (λ j d. is_open name n d ≡ true) ds p d = best.1 in
              let less : p < length ds = slice_get_within ds p d it.there in
              let number : ℕ = get_or k.tables.file.bindings.now.parameters.numbers.items p 0 in
              let counts : List ℕ = k.tables.file.bindings.now.parameters.counts.items in
              subst (IsVariableSeen f n)
              (sym (meaning_of.there t k.tables.file library refused all.made.file.parsed all.made.file.rounds all.made.file.few all.made.file.names all.made.file.bindings p less
              ∙ ap (table.declared_at nodes k.tables.file.rounds.now of counts number) it.there))
              (declared_seen of counts p d it.there name it.passes number (kind_in f d.node) refl (children_of (slice_get nodes d.node)) refl)

  pub each_seen : (its : List Identifier) → AllByRecursion (IsVariableSeen f n) (table.meant_of of declared (map (λ name. found ds name n) its) its)
  each_seen [] = subst (AllByRecursion (IsVariableSeen f n)) (sym (meaning_of.meant_none of declared [])) tt
  each_seen (name ∷ its) =
      subst (AllByRecursion (IsVariableSeen f n)) (sym (meaning_of.meant_more of declared (found ds name n) (map (λ name. found ds name n) its) (name ∷ its)))
      (name_seen name (Some name), each_seen its)

  pub variables_seen : is_assigning (kind_in f n) ≡ true → AllByRecursion (IsVariableSeen f n) (meanings k n)
  variables_seen assigns = by (slice_get nodes n) refl
    where
      by : (o : Option Node) → slice_get nodes n ≡ o → AllByRecursion (IsVariableSeen f n) (meanings k n)
      by None here = absurd (true≢false (sym assigns ∙ ap (λ (o : Option Node). is_assigning (kind_of o)) here))
      by (Some node) here =
          let bound : denotes.bound_at ds n (slice_get nodes n) ≡ map (λ name. found ds name n) node.names =
          ap (denotes.bound_at ds n) here ∙ ap (map (λ name. found ds name n)) (used node node.kind (sym (ap (λ (o : Option Node). is_assigning (kind_of o)) here) ∙ assigns)) in
          let there : meanings k n ≡ table.meant_of of declared (map (λ name. found ds name n) node.names) node.names =
          meaning_of.meanings_there t k.tables.file library refused all.made.file.parsed all.made.file.rounds all.made.file.few all.made.file.names all.made.file.bindings n (slice_get_within nodes n node here)
          ∙ ap (λ (bs : List (Option ℕ)). table.meant_of of declared bs (names_of (slice_get nodes n))) (meaning_of.bound_there t k.tables.file library refused all.made.file.parsed all.made.file.rounds all.made.file.few all.made.file.names all.made.file.bindings n ∙ bound)
          ∙ ap (λ (o : Option Node). table.meant_of of declared (map (λ name. found ds name n) node.names) (names_of o)) here in
          subst (AllByRecursion (IsVariableSeen f n)) (sym there) (each_seen node.names)
