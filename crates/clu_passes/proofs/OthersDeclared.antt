-- The type of a variable stands before all nodes at which the variable is in scope.
use Rattle.std.proofs.Common.{◌≡◌, ◌∙◌, ℕ, ◌+◌, ◌-◌, ◌^◌, ◌<◌, ◌==◌, eqb-true, drop, Bool, true, false, List, [], ◌∷◌, ◌++◌, get_or, is_some, length, Option, Some, None, inl, inr, refl, sym, ap, subst, arith}
use Rattle.std.specs.Prelude.{slice_get}
use Rattle.std.specs.List.{AllByRecursion}
use Rattle.std.proofs.lemmas.Bool.{true≢false}
use Rattle.std.proofs.lemmas.Option.{none-some, same_Some, slice_get_within}
use Rattle.clu_tree.specs.declared.node.Node.{Node}
use Rattle.clu_tree.specs.declared.node.NodeKind.{NodeKind}
use Rattle.clu_tree.specs.declared.node.NodeKind.TheVariants as kind
use Rattle.clu_parser.specs.Shape as shape
use Rattle.clu_parser.specs.Shape.{HasForm, IsFormOf, IsWord, Part, forms, is_child}
use Rattle.clu_parts.proofs.Counted.{no_names, unnamed}
use Rattle.clu_parts.proofs.Fitting.{Stand, children_before, fitted, just, on_head, slots_of}
use Rattle.clu_syntax.specs.declared.round.Round.{Round}
use Rattle.clu_syntax.specs.Kinds.{is_type, kind_at, kind_of}
use Rattle.clu_syntax.specs.Rounds.{body_in, round_at}
use Rattle.clu_syntax.specs.Splits.{child, children_of, is_of}
use Rattle.clu_syntax.specs.Slots.{slots}
use Rattle.clu_syntax.specs.Syntax.{Identifier}
use Rattle.clu_settle.proofs.Shapes.{first_part}
use Rattle.clu_names.specs.declared.scopes.Declared.{Declared}
use Rattle.clu_names.specs.Scopes.{after, decl_scope, declarations, declared_as, declared_at, is_first, is_module, kind_at_parent, module_at, module_named, next, node_at, opens, own_at, own_names, scope_of, variable_of}
use Rattle.clu_checking.specs.Files.{File, kind_in, parent, round}
use Rattle.clu_name_rules.specs.Repeated.{list_of}
use Rattle.clu_declares.specs.Declares.{AreFew}
use Rattle.clu_declares.proofs.Below.{same_kind}
use Rattle.clu_declares.proofs.Facts.{There, there}
use Rattle.clu_declares.proofs.Parents.{IsIn, of_all}
use Rattle.clu_declares.proofs.Said.{own_alone}
use Rattle.clu_passes.specs.Notes.{HaveParents}
use Rattle.clu_passes.specs.Trees.{IsFileOfTree}
use Rattle.clu_passes.proofs.OthersBodies.{body_behind, has_variables, is_before_body}
use Rattle.clu_passes.proofs.OthersRounds.{HasParentNode, IsRoundIn, parent_node, round_of}
use Rattle.clu_passes.proofs.Units.{AllOf, AreEach, all_both, all_here, all_to, of_each, of_modules, of_owns, of_variables}

-- ---- kinds

-- it declares variables, by the type that it begins with
abbrev pub declares_variables : NodeKind → Bool
declares_variables kind.Decl = true
declares_variables kind.Init = true
declares_variables kind.Own = true
declares_variables kind.TagArm = true
declares_variables kind.Others = true
declares_variables _ = false

-- its type stands before a body
abbrev is_opened : NodeKind → Bool
is_opened kind.TagArm = true
is_opened kind.Others = true
is_opened _ = false

-- by names of its own, if it has some
abbrev is_named : NodeKind → Bool
is_named kind.Init = true
is_named kind.Own = true
is_named _ = false

no_definition : (above k : NodeKind) → is_module above k ≡ true → declares_variables k ≡ false
no_definition kind.Module kind.Routine e = refl
no_definition kind.Module kind.Cluster e = refl
no_definition kind.Module kind.File e = refl
no_definition kind.Module _ e = absurd (true≢false (sym e))
no_definition kind.File k e = absurd (true≢false (sym e))
no_definition _ k e = absurd (true≢false (sym e))

opened_type : (outer k : NodeKind) → opens outer k ≡ true → declares_variables outer ≡ true → (has_variables outer ≡ true) × (is_type k ≡ true)
opened_type kind.TagArm k e is = (refl, e)
opened_type kind.Others k e is = (refl, e)
opened_type kind.TypeSet k e is = absurd (true≢false (sym is))
opened_type kind.File k e is = absurd (true≢false (sym e))
opened_type _ k e is = absurd (true≢false (sym e))

type_before : (k : NodeKind) → is_type k ≡ true → is_before_body k ≡ true
type_before kind.Decl e = refl
type_before kind.File e = e
type_before _ e = e

same_head : (c d : ℕ) (cs ds : List ℕ) → c ∷ cs ≡ d ∷ ds → c ≡ d
same_head c d cs ds e = ap (λ (xs : List ℕ). get_or xs 0 0) e

first_same : (n : ℕ) (cs : List ℕ) → is_first n cs ≡ true → (c : ℕ) (rest : List ℕ) → cs ≡ c ∷ rest → c ≡ n
first_same n [] e c rest is = absurd (true≢false (sym e))
first_same n (d ∷ ds) e c rest is = same_head c d rest ds (sym is) ∙ eqb-true d n e

module _ (f : File) (of : IsFileOfTree f) (parents : HaveParents f) (few : AreFew f.nodes f.rounds) where
  abbrev nodes : List Node
  nodes = f.nodes

  abbrev rounds : List Round
  rounds = f.rounds

  -- ---- an Init or Own that has a name begins with a type

  abbrev Begins : List ℕ → Type 0
  Begins cs = (c : ℕ) (rest : List ℕ) → cs ≡ c ∷ rest → is_type (kind_at nodes c) ≡ true

  typed_first : (n : ℕ) (cs : List ℕ) → Stand nodes n (just (is_child shape.any_type) ∷ just (is_child shape.expression) ∷ []) cs → Begins cs
  typed_first n cs s = on_head nodes n Begins (is_child shape.any_type) (just (is_child shape.expression) ∷ []) (λ c rest first more d others e. subst (λ (m : ℕ). is_type (kind_at nodes m) ≡ true) (same_head c d rest others e) first.1) cs s

  init_typed : (n : ℕ) (node : Node) → slice_get nodes n ≡ Some node → node.kind ≡ kind.Init → (node.names ≡ [] → ⊥) → Begins node.children
  init_typed n node at is some =
      let h : HasForm nodes node = of.shaped n node at in
      elim (subst (λ (k : NodeKind). IsFormOf h.form (forms k)) is h.of_kind) [
        | inl e ↦ typed_first n node.children (subst (λ (form : List Part). Stand nodes n (slots_of form) node.children) e (fitted nodes of.tree n node at h))
        | inr (inl e) ↦ absurd (some (unnamed node.names (shape.names_in h.word) h.names_are (no_names 2 _ h.word (subst (λ (form : List Part). IsWord form h.word) e h.is_word) refl)))
        | inr (inr never) ↦ absurd never
      ]

  own_typed : (n : ℕ) (node : Node) → slice_get nodes n ≡ Some node → node.kind ≡ kind.Own → (node.names ≡ [] → ⊥) → Begins node.children
  own_typed n node at is some = elim (own_alone nodes n node (of.shaped n node at) of.tree at is) [
    | inl none ↦ absurd (some none)
    | inr one ↦ typed_first n node.children one.2
  ]

  -- ---- what declares a name by itself has one

  abbrev IsNamed : Declared → Type 0
  IsNamed d = (node : Node) → slice_get nodes d.node ≡ Some node → is_named node.kind ≡ true → node.names ≡ [] → ⊥

  none_declared : (n : ℕ) (unit : Option ℕ) (o : Option (ℕ × ℕ)) → AllOf IsNamed (declared_as n unit o [])
  none_declared n unit None = tt
  none_declared n unit (Some scope) = tt

  of_own : (n : ℕ) (node : Node) → slice_get nodes n ≡ Some node → (o : Option (ℕ × ℕ)) → scope_of node.kind (kind_at_parent nodes (round_at rounds n).parent) n (round_at rounds n) ≡ o → AllOf IsNamed (declared_as n (round_at rounds n).unit o (own_names node.kind node))
  of_own n node at o e = by (is_named node.kind) refl node.names refl
    where
      own_same : (k : NodeKind) → is_named k ≡ true → own_names k node ≡ node.names
      own_same kind.Init is = refl
      own_same kind.Own is = refl
      own_same kind.File is = absurd (true≢false (sym is))
      own_same _ is = absurd (true≢false (sym is))

      by : (b : Bool) → is_named node.kind ≡ b → (its : List Identifier) → node.names ≡ its → AllOf IsNamed (declared_as n (round_at rounds n).unit o (own_names node.kind node))
      by false other its names =
          of_owns nodes rounds IsNamed n (λ x there scope is name other_node here named none.
          true≢false (sym named ∙ ap (λ (m : Node). is_named m.kind) (same_Some other_node node (sym here ∙ at)) ∙ other)) node at o e
      by true is [] names = subst (λ (xs : List Identifier). AllOf IsNamed (declared_as n (round_at rounds n).unit o xs)) (sym (own_same node.kind is ∙ names)) (none_declared n (round_at rounds n).unit o)
      by true is (name ∷ its) names =
          of_owns nodes rounds IsNamed n (λ x there scope scoped other other_node here named none.
          some name its (sym names ∙ ap (λ (m : Node). m.names) (same_Some node other_node (sym at ∙ here)) ∙ none)) node at o e
        where
          some : (name : Identifier) (its : List Identifier) → name ∷ its ≡ [] → ⊥
          some name its is = let size : length (name ∷ its) ≡ 0 = ap length is in omega (arith, size)

  at_node : (n : ℕ) (o : Option Node) → slice_get nodes n ≡ o → AllOf IsNamed (declared_at nodes rounds n o)
  at_node n None at = tt
  at_node n (Some node) at =
      all_both IsNamed (variable_of n node.kind (round_at rounds n) (round_at rounds n).parent (node_at nodes (round_at rounds n).parent) ++ own_at (kind_at_parent nodes (round_at rounds n).parent) n node (round_at rounds n))
      (module_at (kind_at_parent nodes (round_at rounds n).parent) n node)
      (all_both IsNamed (variable_of n node.kind (round_at rounds n) (round_at rounds n).parent (node_at nodes (round_at rounds n).parent)) (own_at (kind_at_parent nodes (round_at rounds n).parent) n node (round_at rounds n))
      (of_variables nodes rounds IsNamed n (λ p outer k above there is opened begins name other here named none.
      true≢false (sym named ∙ ap (λ (m : Node). is_named m.kind) (same_Some other outer (sym here ∙ there)) ∙ opens_unnamed outer.kind k opened)) node.kind (ap kind_of at) (round_at rounds n).parent refl (node_at nodes (round_at rounds n).parent) refl)
      (of_own n node at (scope_of node.kind (kind_at_parent nodes (round_at rounds n).parent) n (round_at rounds n)) refl))
      (of_modules nodes rounds IsNamed n (λ x there is name other here named none.
      true≢false (sym named ∙ ap (λ (m : Node). is_named m.kind) (same_Some other x (sym here ∙ there)) ∙ module_unnamed (kind_at_parent nodes (round_at rounds n).parent) x.kind is)) node at (is_module (kind_at_parent nodes (round_at rounds n).parent) node.kind) refl)
    where
      opens_unnamed : (outer k : NodeKind) → opens outer k ≡ true → is_named outer ≡ false
      opens_unnamed kind.Init k e = absurd (true≢false (sym e))
      opens_unnamed kind.Own k e = absurd (true≢false (sym e))
      opens_unnamed kind.File k e = refl
      opens_unnamed _ k e = refl

      module_unnamed : (above k : NodeKind) → is_module above k ≡ true → is_named k ≡ false
      module_unnamed kind.Module kind.Init e = absurd (true≢false (sym e))
      module_unnamed kind.Module kind.Own e = absurd (true≢false (sym e))
      module_unnamed kind.Module kind.File e = refl
      module_unnamed kind.Module _ e = refl
      module_unnamed kind.File k e = absurd (true≢false (sym e))
      module_unnamed _ k e = absurd (true≢false (sym e))

  -- so do all of a file
  has_name : (j : ℕ) (d : Declared) → slice_get (declarations nodes rounds) j ≡ Some d → IsNamed d
  has_name = all_here IsNamed (declarations nodes rounds) (all_to nodes rounds IsNamed (length nodes) (λ n less. at_node n (slice_get nodes n) refl))

  -- ---- where the type stands

  pub record IsVariableAt (d : Declared) (c : ℕ) : Type 0 where
    pub typed : is_opened (kind_in f d.node) ≡ true → is_type (kind_at nodes c) ≡ true
    pub behind : c < d.from
    pub upto : (r : ℕ) → parent f d.node ≡ Some r → kind_in f r ≡ kind.Routine → kind_in f d.node ≡ kind.Decl → (d.from ≡ next d.node) × (d.to ≡ r)

  abbrev IsBehind : Declared → Type 0
  IsBehind d = declares_variables (kind_in f d.node) ≡ true → (c : ℕ) (cs : List ℕ) → children_of (slice_get nodes d.node) ≡ c ∷ cs → IsVariableAt d c

  -- of a variable for which its parent declares it, at its type
  by_variable : (n p : ℕ) (outer : Node) (k : NodeKind) → (round_at rounds n).parent ≡ Some p → slice_get nodes p ≡ Some outer → kind_at nodes n ≡ k → opens outer.kind k ≡ true → is_first n outer.children ≡ true → (name : Identifier) →
      IsBehind (record { name = name; node = p; from = (round_at rounds n).body_first; to = (round_at rounds n).body_last; unit = (round_at rounds n).unit })
  by_variable n p outer k up at there_is opened begins name declares c cs are =
      let q : HasParentNode f of parents n p = parent_node f of parents n p up in
      let same_node : q.node ≡ outer = same_Some q.node outer (sym q.at ∙ at) in
      let outer_kind : kind_in f p ≡ outer.kind = ap kind_of at in
      let both = opened_type outer.kind k opened (sym (ap declares_variables outer_kind) ∙ declares) in
      let here : c ≡ n = first_same n outer.children begins c cs (sym (ap children_of at) ∙ are) in
      let x : There nodes n k = there nodes n k (type_no_file k both.1) there_is in
      let less : n < (round_at rounds n).body_first = body_behind f of p outer at both.0 n (subst (λ (m : Node). IsIn n m.children) same_node q.child) x.node x.at (ap is_before_body x.is ∙ type_before k both.1) in
      record {
        typed = λ opens. subst (λ (m : ℕ). is_type (kind_at nodes m) ≡ true) (sym here) (ap is_type there_is ∙ both.1);
        behind = omega (arith, here, less);
        upto = λ r above routine decl. absurd (true≢false (sym (ap is_of_decl decl) ∙ ap is_of_decl outer_kind ∙ no_decl outer.kind k opened));
      }
    where
      is_of_decl : NodeKind → Bool
      is_of_decl j = is_of kind.Decl j

      type_no_file : (k : NodeKind) → is_type k ≡ true → is_of k kind.File ≡ false
      type_no_file kind.File e = absurd (true≢false (sym e))
      type_no_file _ e = refl

      no_decl : (outer k : NodeKind) → opens outer k ≡ true → is_of kind.Decl outer ≡ false
      no_decl kind.Decl k e = absurd (true≢false (sym e))
      no_decl kind.File k e = refl
      no_decl _ k e = refl

  -- of what a node declares by itself
  next_more : (c n : ℕ) → c < n → n < length nodes → c < next n
  next_more c n less inside = let all : length nodes + length (declarations nodes rounds) < 2 ^ 32 = few in omega (arith, less, inside, all)

  first_before : (n : ℕ) (node : Node) → slice_get nodes n ≡ Some node → (c : ℕ) (cs : List ℕ) → children_of (slice_get nodes n) ≡ c ∷ cs → c < n
  first_before n node at c cs are =
      of_all (λ (c : ℕ). c < n) c node.children (children_before nodes of.tree n node at) (subst (IsIn c) (sym (sym (ap children_of at) ∙ are)) (inl refl))

  above_at : (n : ℕ) (k : NodeKind) → kind_at_parent nodes (round_at rounds n).parent ≡ k → is_of kind.File k ≡ false → (p : ℕ) × (((round_at rounds n).parent ≡ Some p) × (kind_at nodes p ≡ k))
  above_at n k is other = by (round_at rounds n).parent refl is
    where
      by : (o : Option ℕ) → (round_at rounds n).parent ≡ o → kind_at_parent nodes o ≡ k → (p : ℕ) × (((round_at rounds n).parent ≡ Some p) × (kind_at nodes p ≡ k))
      by None up e = absurd (true≢false (ap (is_of kind.File) e ∙ other))
      by (Some p) up e = (p, (up, e))

  body_more : (n : ℕ) (node : Node) → slice_get nodes n ≡ Some node → node.kind ≡ kind.Decl → (k : NodeKind) → kind_at_parent nodes (round_at rounds n).parent ≡ k → has_variables k ≡ true → is_of kind.File k ≡ false → n < (round_at rounds n).body_first
  body_more n node at is k above declares other =
      let p = above_at n k above other in
      let q : HasParentNode f of parents n p.0 = parent_node f of parents n p.0 p.1.0 in
      body_behind f of p.0 q.node q.at (ap has_variables (sym (ap kind_of q.at) ∙ p.1.1) ∙ declares) n q.child node at (ap is_before_body is)

  after_more : (n : ℕ) (o : Option ℕ) → (round_at rounds n).parent ≡ o → (c : ℕ) → c < n → n < length nodes → is_some o ≡ true → c < after o
  after_more n None up c less inside some = absurd (true≢false (sym some))
  after_more n (Some p) up c less inside some =
      let q : HasParentNode f of parents n p = parent_node f of parents n p up in
      let above : n < p = of_all (λ (c : ℕ). c < p) n q.node.children (children_before nodes of.tree p q.node q.at) q.child in
      next_more c p (omega (arith, less, above)) (slice_get_within nodes p q.node q.at)

  routine_body : (n r : ℕ) → parent f n ≡ Some r → kind_in f r ≡ kind.Routine → (round f n).body_last ≡ r
  routine_body n r up is =
      let q : HasParentNode f of parents n r = parent_node f of parents n r up in
      let x : IsRoundIn f of parents r q.node n = round_of f of parents r q.node q.at n q.child in
      ap (λ (its : Round). its.body_last) x.is ∙ ap (λ (k : NodeKind). (body_in k x.child.kind r (round f r) x.part).1) (sym (ap kind_of q.at) ∙ is)

  decl_parent : (n : ℕ) → kind_in f n ≡ kind.Decl → is_some (round_at rounds n).parent ≡ true
  decl_parent n is = by (round_at rounds n).parent refl
    where
      by : (o : Option ℕ) → (round_at rounds n).parent ≡ o → is_some o ≡ true
      by (Some p) up = refl
      by None up = absurd (true≢false (ap is_some (sym (ap list_of is) ∙ parents.items n up)))

  -- the scope of a Decl begins behind its type
  decl_behind : (n : ℕ) (node : Node) → slice_get nodes n ≡ Some node → node.kind ≡ kind.Decl → (c : ℕ) → c < n → (k : NodeKind) → kind_at_parent nodes (round_at rounds n).parent ≡ k → c < (decl_scope k n (round_at rounds n)).0
  decl_behind n node at is c less kind.Routine above = next_more c n less (slice_get_within nodes n node at)
  decl_behind n node at is c less kind.For above =
      let more : n < (round_at rounds n).body_first = body_more n node at is kind.For above refl refl in omega (arith, less, more)
  decl_behind n node at is c less kind.When above =
      let more : n < (round_at rounds n).body_first = body_more n node at is kind.When above refl refl in omega (arith, less, more)
  decl_behind n node at is c less kind.File above = after_more n (round_at rounds n).parent refl c less (slice_get_within nodes n node at) (decl_parent n (ap kind_of at ∙ is))
  decl_behind n node at is c less _ above = after_more n (round_at rounds n).parent refl c less (slice_get_within nodes n node at) (decl_parent n (ap kind_of at ∙ is))

  by_own : (n : ℕ) (node : Node) → slice_get nodes n ≡ Some node → (scope : ℕ × ℕ) → scope_of node.kind (kind_at_parent nodes (round_at rounds n).parent) n (round_at rounds n) ≡ Some scope → (name : Identifier) →
      IsBehind (record { name = name; node = n; from = scope.0; to = scope.1; unit = (round_at rounds n).unit })
  by_own n node at scope e name declares c cs are = by node.kind refl e (sym (ap declares_variables (ap kind_of at)) ∙ declares)
    where
      less : c < n
      less = first_before n node at c cs are

      inside : n < length nodes
      inside = slice_get_within nodes n node at

      not_decl : (k : NodeKind) → node.kind ≡ k → is_of kind.Decl k ≡ false → kind_in f n ≡ kind.Decl → ⊥
      not_decl k is other decl = true≢false (ap (is_of kind.Decl) (sym decl ∙ ap kind_of at ∙ is) ∙ other)

      not_opened : (k : NodeKind) → node.kind ≡ k → is_opened k ≡ false → is_opened (kind_in f n) ≡ true → ⊥
      not_opened k is apart opens = true≢false (sym opens ∙ ap is_opened (ap kind_of at ∙ is) ∙ apart)

      of_decl : node.kind ≡ kind.Decl → decl_scope (kind_at_parent nodes (round_at rounds n).parent) n (round_at rounds n) ≡ scope → IsVariableAt (record { name = name; node = n; from = scope.0; to = scope.1; unit = (round_at rounds n).unit }) c
      of_decl is same = record {
        typed = λ opens. absurd (not_opened kind.Decl is refl opens);
        behind =
            let more : c < (decl_scope (kind_at_parent nodes (round_at rounds n).parent) n (round_at rounds n)).0 = decl_behind n node at is c less (kind_at_parent nodes (round_at rounds n).parent) refl in
            subst (λ (s : ℕ × ℕ). c < s.0) same more;
        upto = λ r up routine decl.
            let outer : kind_at_parent nodes (round_at rounds n).parent ≡ kind.Routine = ap (kind_at_parent nodes) up ∙ routine in
            let its : (next n, (round_at rounds n).body_last) ≡ scope = sym (ap (λ (k : NodeKind). decl_scope k n (round_at rounds n)) outer) ∙ same in
            (ap (λ (s : ℕ × ℕ). s.0) (sym its), ap (λ (s : ℕ × ℕ). s.1) (sym its) ∙ routine_body n r up routine);
      }

      of_named : (k : NodeKind) → node.kind ≡ k → is_of kind.Decl k ≡ false → is_opened k ≡ false → next n ≡ scope.0 → IsVariableAt (record { name = name; node = n; from = scope.0; to = scope.1; unit = (round_at rounds n).unit }) c
      of_named k is other apart same = record {
        typed = λ opens. absurd (not_opened k is apart opens);
        behind = subst (λ (m : ℕ). c < m) same (next_more c n less inside);
        upto = λ r up routine decl. absurd (not_decl k is other decl);
      }

      by : (k : NodeKind) → node.kind ≡ k → scope_of k (kind_at_parent nodes (round_at rounds n).parent) n (round_at rounds n) ≡ Some scope → declares_variables k ≡ true → IsVariableAt (record { name = name; node = n; from = scope.0; to = scope.1; unit = (round_at rounds n).unit }) c
      by kind.Decl is scoped hit = of_decl is (same_Some (decl_scope (kind_at_parent nodes (round_at rounds n).parent) n (round_at rounds n)) scope scoped)
      by kind.Init is scoped hit = of_named kind.Init is refl refl (ap (λ (s : ℕ × ℕ). s.0) (same_Some (next n, (round_at rounds n).body_last) scope scoped))
      by kind.Own is scoped hit = of_named kind.Own is refl refl (ap (λ (s : ℕ × ℕ). s.0) (same_Some (next n, (round_at rounds n).body_last) scope scoped))
      by kind.TagArm is scoped hit = absurd (none-some scope scoped)
      by kind.Others is scoped hit = absurd (none-some scope scoped)
      by kind.File is scoped hit = absurd (true≢false (sym hit))
      by _ is scoped hit = absurd (true≢false (sym hit))

  each_behind : AreEach nodes rounds IsBehind
  each_behind = record {
    variables = λ n p outer k up at is opened begins name. by_variable n p outer k up at is opened begins name;
    owns = λ n node at scope e name. by_own n node at scope e name;
    modules = λ n node at is name declares c cs are. absurd (true≢false (sym (sym (ap declares_variables (ap kind_of at)) ∙ declares) ∙ no_definition (kind_at_parent nodes (round_at rounds n).parent) node.kind is));
  }

  pub variable_at : (j : ℕ) (d : Declared) → slice_get (declarations nodes rounds) j ≡ Some d → IsBehind d
  variable_at = of_each nodes rounds IsBehind each_behind

  -- ---- the first child is a type

  pub variable_typed : (j : ℕ) (d : Declared) → slice_get (declarations nodes rounds) j ≡ Some d → declares_variables (kind_in f d.node) ≡ true → (c : ℕ) (cs : List ℕ) → children_of (slice_get nodes d.node) ≡ c ∷ cs → is_type (kind_at nodes c) ≡ true
  variable_typed j d at declares c cs are = by (slice_get nodes d.node) refl
    where
      its : IsVariableAt d c
      its = variable_at j d at declares c cs are

      by : (o : Option Node) → slice_get nodes d.node ≡ o → is_type (kind_at nodes c) ≡ true
      by None there_is = absurd (true≢false (sym declares ∙ ap (λ (o : Option Node). declares_variables (kind_of o)) there_is))
      by (Some node) there_is = of_kind node.kind refl
        where
          whole : node.children ≡ c ∷ cs
          whole = sym (ap children_of there_is) ∙ are

          hit : (k : NodeKind) → node.kind ≡ k → declares_variables k ≡ true
          hit k is = sym (ap declares_variables (ap kind_of there_is ∙ is)) ∙ declares

          opened : (k : NodeKind) → node.kind ≡ k → is_opened k ≡ true → is_type (kind_at nodes c) ≡ true
          opened k is opens = its.typed (ap is_opened (ap kind_of there_is ∙ is) ∙ opens)

          of_kind : (k : NodeKind) → node.kind ≡ k → is_type (kind_at nodes c) ≡ true
          of_kind kind.Decl is =
              let first = first_part nodes of.tree of.shaped is_type [] d.node node there_is (ap slots is) in
              subst (λ (m : ℕ). is_type (kind_at nodes m) ≡ true) (same_head (child 0 node) c (drop 1 node.children) cs (sym first.is ∙ whole)) first.first.1
          of_kind kind.Init is = init_typed d.node node there_is is (has_name j d at node there_is (ap is_named is)) c cs whole
          of_kind kind.Own is = own_typed d.node node there_is is (has_name j d at node there_is (ap is_named is)) c cs whole
          of_kind kind.TagArm is = opened kind.TagArm is refl
          of_kind kind.Others is = opened kind.Others is refl
          of_kind kind.File is = absurd (true≢false (sym (hit kind.File is)))
          of_kind _ is = absurd (true≢false (sym (sym (ap declares_variables (ap kind_of there_is ∙ is)) ∙ declares)))
