-- How many of the first declarations of a file are parameters of a module, node by node.
use Rattle.std.proofs.Common.{◌≡◌, ◌∙◌, ℕ, zero, suc, ◌+◌, ◌-◌, ◌^◌, ◌<◌, ◌≤◌, ◌&&◌, Bool, true, false, if◌then◌else◌, List, [], ◌∷◌, ◌++◌, length, take, Option, Some, None, slice_get, refl, ap, sym, inl, inr, arith, append_assoc, append-nil}
use Rattle.std.proofs.Math.Bool.{and-false}
use Rattle.std.proofs.lemmas.Bool.{true≢false, and_left as and_first}
use Rattle.clu_base.proofs.Lists.{some_at, take_next, split}
use Rattle.clu_tree.specs.declared.node.Node.{Node}
use Rattle.clu_tree.specs.declared.node.NodeKind.{NodeKind}
use Rattle.clu_tree.specs.declared.node.NodeKind.TheVariants as kind
use Rattle.clu_syntax.specs.declared.round.Round.{Round}
use Rattle.clu_syntax.specs.Kinds.{kind_of, kind_at}
use Rattle.clu_syntax.specs.Rounds.{round_at}
use Rattle.clu_syntax.specs.Syntax.{Identifier}
use Rattle.clu_names.specs.declared.scopes.Declared.{Declared}
use Rattle.clu_names.specs.Scopes.{next, node_at, kind_at_parent, scope_of, own_names, declared_as, own_at, is_stream, module_named, is_module, module_at, is_first, opens, variable_names, variable_of, declared_at, declared_to}
use Rattle.clu_settle.specs.Names.{names_of}
use Rattle.clu_settle.specs.Parameters.{parent_round, is_of_module, is_parameter, is_unit, is_counted, counted}

-- ---- lists

take_front : {X : Type 0} (ys zs : List X) (i : ℕ) → i ≤ length ys → take i (ys ++ zs) ≡ take i ys
take_front ys zs zero l = refl
take_front [] zs (suc i) l = absurd (omega (arith, l))
take_front (y ∷ ys) zs (suc i) l = ap (λ (r : List _). y ∷ r) (take_front ys zs i (omega (arith, l)))

take_within : {X : Type 0} (xs ys zs : List X) (i : ℕ) → i ≤ length ys → take (length xs + i) ((xs ++ ys) ++ zs) ≡ xs ++ take i ys
take_within [] ys zs i l = let same : 0 + i ≡ i = omega arith in ap (λ (k : ℕ). take k (ys ++ zs)) same ∙ take_front ys zs i l
take_within (x ∷ xs) ys zs i l =
    let same : suc (length xs) + i ≡ suc (length xs + i) = omega arith in
    ap (λ (k : ℕ). take k (x ∷ ((xs ++ ys) ++ zs))) same ∙ ap (λ (r : List _). x ∷ r) (take_within xs ys zs i l)

next_of : (b : Bool) (k c p : ℕ) → k ≡ c → c ≤ p → p + 1 < 2 ^ 32 → (if b then next k else k) ≡ c + ((if b then 1 else 0) + 0)
next_of true k c p e l m = omega (arith, e, l, m)
next_of false k c p e l m = omega (arith, e)

at_most_one : (b : Bool) → (if b then 1 else 0) ≤ 1
at_most_one true = omega arith
at_most_one false = omega arith

behind_sum : (a b c d : ℕ) → b ≡ c + d → a + b ≡ (a + c) + d
behind_sum a b c d e = omega (arith, e)

pub and_left : (a b : Bool) → (a && b) ≡ true → a ≡ true
and_left true b e = refl
and_left false b e = absurd (true≢false (sym e))

pub and_right : (a b : Bool) → (a && b) ≡ true → b ≡ true
and_right true b e = e
and_right false b e = absurd (true≢false (sym e))

-- ---- kinds

pub parm_in_module : (k j : NodeKind) → is_of_module k j ≡ true → (k ≡ kind.Parm) × (j ≡ kind.Module)
parm_in_module kind.Parm kind.Module e = (refl, refl)
parm_in_module kind.Parm _ e = absurd (true≢false (sym e))
parm_in_module _ j e = absurd (true≢false (sym e))

opens_none : (k child j : NodeKind) → opens k child ≡ true → is_of_module k j ≡ false
opens_none kind.Parm child j e = absurd (true≢false (sym e))
opens_none _ child j e = refl

module _ (nodes : List Node) (rounds : List Round) where
  -- ---- of a list

  abbrev pub amount : ℕ → List Declared → ℕ
  amount u [] = 0
  amount u (d ∷ ds) = (if is_counted nodes rounds u (Some d) then 1 else 0) + amount u ds

  pub amount_append : (u : ℕ) (xs ys : List Declared) → amount u (xs ++ ys) ≡ amount u xs + amount u ys
  amount_append u [] ys = omega arith
  amount_append u (d ∷ xs) ys = behind_sum (if is_counted nodes rounds u (Some d) then 1 else 0) (amount u (xs ++ ys)) (amount u xs) (amount u ys) (amount_append u xs ys)

  abbrev IsAmount : List Declared → ℕ → ℕ → Type 0
  IsAmount ds u p = (counted nodes rounds ds u p ≡ amount u (take p ds)) × (amount u (take p ds) ≤ p)

  counted_step : (ds : List Declared) → length ds < 2 ^ 32 → (u p : ℕ) (d : Declared) → p < length ds → slice_get ds p ≡ Some d → IsAmount ds u p → IsAmount ds u (suc p)
  unfolding counted
  counted_step ds few u p d l at before =
      let grown : amount u (take (suc p) ds) ≡ amount u (take p ds) + ((if is_counted nodes rounds u (Some d) then 1 else 0) + 0) = ap (amount u) (take_next ds p d at) ∙ amount_append u (take p ds) (d ∷ []) in
      let one : (if is_counted nodes rounds u (Some d) then 1 else 0) ≤ 1 = at_most_one (is_counted nodes rounds u (Some d)) in
      let small : amount u (take p ds) ≤ p = before.1 in (
        ap (λ (o : Option Declared). if is_counted nodes rounds u o then next (counted nodes rounds ds u p) else counted nodes rounds ds u p) at
            ∙ next_of (is_counted nodes rounds u (Some d)) (counted nodes rounds ds u p) (amount u (take p ds)) p before.0 before.1 (omega (arith, few, l))
            ∙ sym grown,
        omega (arith, grown, small, one),
      )

  pub counted_is : (ds : List Declared) → length ds < 2 ^ 32 → (u p : ℕ) → p ≤ length ds → IsAmount ds u p
  unfolding counted
  counted_is ds few u zero l = (refl, omega arith)
  counted_is ds few u (suc p) l =
      let d = some_at ds p (omega (arith, l)) in
      counted_step ds few u p d.0 (omega (arith, l)) d.1 (counted_is ds few u p (omega (arith, l)))

  -- ---- where declarations stand

  abbrev pub at_node : ℕ → List Declared
  at_node n = declared_at nodes rounds n (slice_get nodes n)

  abbrev pub up_to : ℕ → List Declared
  up_to n = declared_to nodes rounds n

  up_next : (n : ℕ) → up_to (suc n) ≡ up_to n ++ at_node n
  unfolding declared_to
  up_next n = refl

  pub record IsPlaced (n p : ℕ) (d : Declared) : Type 0 where
    pub m : ℕ
    pub i : ℕ
    pub before : m < n
    pub place : p ≡ length (up_to m) + i
    pub at : slice_get (at_node m) i ≡ Some d

  pub placed : (n p : ℕ) (d : Declared) → slice_get (up_to n) p ≡ Some d → IsPlaced n p d
  unfolding declared_to
  placed zero p d e = absurd (cc)
  placed (suc n) p d e = elim (split (up_to n) (at_node n) p d e) [
    | inl front ↦ (let q : IsPlaced n p d = placed n p d front in
        let l : q.m < n = q.before in
        record { m = q.m; i = q.i; before = omega (arith, l); place = q.place; at = q.at })
    | inr back ↦ record { m = n; i = back.0; before = omega arith; place = back.1; at = back.2 }
  ]

  pub begins : (n k : ℕ) → (rest : List Declared) × (up_to (n + k) ≡ up_to n ++ rest)
  begins n zero = ([], ap up_to (omega arith) ∙ sym (append-nil (up_to n)))
  begins n (suc k) =
      let before = begins n k in (
        before.0 ++ at_node (n + k),
        ap up_to (omega arith) ∙ up_next (n + k) ∙ ap (λ (xs : List Declared). xs ++ at_node (n + k)) before.1 ∙ append_assoc (up_to n) before.0 (at_node (n + k)),
      )

  pub whole_is : (m : ℕ) → m < length nodes → (rest : List Declared) × (up_to (length nodes) ≡ (up_to m ++ at_node m) ++ rest)
  whole_is m l =
      let more = begins (suc m) (length nodes - suc m) in
      (more.0, ap up_to (omega (arith, l)) ∙ more.1 ∙ ap (λ (xs : List Declared). xs ++ more.0) (up_next m))

  pub amount_at : (u m i : ℕ) → m < length nodes → i ≤ length (at_node m) → amount u (take (length (up_to m) + i) (up_to (length nodes))) ≡ amount u (up_to m) + amount u (take i (at_node m))
  amount_at u m i l k =
      let more = whole_is m l in
      ap (λ (xs : List Declared). amount u (take (length (up_to m) + i) xs)) more.1
      ∙ ap (amount u) (take_within (up_to m) (at_node m) more.0 i k)
      ∙ amount_append u (up_to m) (take i (at_node m))

  -- ---- of a node

  abbrev pub weight : ℕ → ℕ → ℕ
  weight u n = if is_parameter nodes rounds n && is_unit (length nodes) u (round_at rounds n).unit then length (names_of (slice_get nodes n)) else 0

  pub all_counted : (u n : ℕ) (unit : Option ℕ) (scope : ℕ × ℕ) (names : List Identifier) → (is_parameter nodes rounds n && is_unit (length nodes) u unit) ≡ true → amount u (declared_as n unit (Some scope) names) ≡ length names
  all_counted u n unit scope [] e = refl
  all_counted u n unit scope (name ∷ names) e =
      ap (λ (b : Bool). (if b then 1 else 0) + amount u (declared_as n unit (Some scope) names)) e ∙ omega (arith, all_counted u n unit scope names e)

  none_of : (u n : ℕ) (unit : Option ℕ) (scope : ℕ × ℕ) (names : List Identifier) → (is_parameter nodes rounds n && is_unit (length nodes) u unit) ≡ false → amount u (declared_as n unit (Some scope) names) ≡ 0
  none_of u n unit scope [] e = refl
  none_of u n unit scope (name ∷ names) e =
      ap (λ (b : Bool). (if b then 1 else 0) + amount u (declared_as n unit (Some scope) names)) e ∙ omega (arith, none_of u n unit scope names e)

  none_counted : (u n : ℕ) (unit : Option ℕ) (scope : Option (ℕ × ℕ)) (names : List Identifier) → (is_parameter nodes rounds n && is_unit (length nodes) u unit) ≡ false → amount u (declared_as n unit scope names) ≡ 0
  none_counted u n unit None names e = refl
  none_counted u n unit (Some scope) names e = none_of u n unit scope names e

  no_variable : (u n : ℕ) (child : NodeKind) (round : Round) (parent : Option ℕ) (outer : Option Node) → node_at nodes parent ≡ outer → amount u (variable_of n child round parent outer) ≡ 0
  no_variable u n child round None outer e = refl
  no_variable u n child round (Some p) None e = refl
  no_variable u n child round (Some p) (Some outer) e = by (opens outer.kind child && is_first n outer.children) refl
    where
      by : (b : Bool) → (opens outer.kind child && is_first n outer.children) ≡ b → amount u (if b then declared_as p round.unit (Some (round.body_first, round.body_last)) (variable_names outer.kind outer.names) else []) ≡ 0
      by true is =
          let j : NodeKind = kind_at_parent nodes (parent_round rounds (round_at rounds p).parent) in
          let not_parm : is_parameter nodes rounds p ≡ false = ap (λ (k : NodeKind). is_of_module k (kind_at_parent nodes (parent_round rounds (round_at rounds p).parent))) (ap kind_of e) ∙ opens_none outer.kind child j (and_left (opens outer.kind child) (is_first n outer.children) is) in
          none_of u p round.unit (round.body_first, round.body_last) (variable_names outer.kind outer.names) (and_first (is_parameter nodes rounds p) (is_unit (length nodes) u round.unit) not_parm)
      by false is = refl

  no_module_named : (u n : ℕ) (names : List Identifier) → amount u (module_named n names) ≡ 0
  no_module_named u n [] = refl
  no_module_named u n (name ∷ names) = by (is_stream name)
    where
      by : (b : Bool) → amount u (if b then [] else record { name = name; node = n; from = 0; to = 4294967295; unit = None } ∷ []) ≡ 0
      by true = refl
      by false = ap (λ (b : Bool). (if b then 1 else 0) + 0) (and-false (is_parameter nodes rounds n)) ∙ omega arith

  no_module : (u : ℕ) (outer : NodeKind) (n : ℕ) (node : Node) → amount u (module_at outer n node) ≡ 0
  no_module u outer n node = by (is_module outer node.kind)
    where
      by : (b : Bool) → amount u (if b then module_named n node.names else []) ≡ 0
      by true = no_module_named u n node.names
      by false = refl

  own_amount : (u : ℕ) (outer : NodeKind) (n : ℕ) (node : Node) (b : Bool) → slice_get nodes n ≡ Some node → (is_parameter nodes rounds n && is_unit (length nodes) u (round_at rounds n).unit) ≡ b →
      amount u (own_at outer n node (round_at rounds n)) ≡ (if b then length (names_of (slice_get nodes n)) else 0)
  own_amount u outer n node false at e = none_counted u n (round_at rounds n).unit (scope_of node.kind outer n (round_at rounds n)) (own_names node.kind node) e
  own_amount u outer n node true at e =
      let is : node.kind ≡ kind.Parm = sym (ap kind_of at) ∙ (parm_in_module (kind_at nodes n) (kind_at_parent nodes (parent_round rounds (round_at rounds n).parent)) (and_left (is_parameter nodes rounds n) (is_unit (length nodes) u (round_at rounds n).unit) e)).0 in
      ap (λ (k : NodeKind). amount u (declared_as n (round_at rounds n).unit (scope_of k outer n (round_at rounds n)) (own_names k node))) is
      ∙ all_counted u n (round_at rounds n).unit ((round_at rounds n).body_first, (round_at rounds n).body_last) node.names e
      ∙ sym (ap (λ (o : Option Node). length (names_of o)) at)

  three : (a b c w : ℕ) → a ≡ 0 → b ≡ w → c ≡ 0 → (a + b) + c ≡ w
  three a b c w e f g = omega (arith, e, f, g)

  amount_there : (u n : ℕ) (node : Node) → slice_get nodes n ≡ Some node → amount u (declared_at nodes rounds n (Some node)) ≡ weight u n
  amount_there u n node at =
      let a : List Declared = variable_of n node.kind (round_at rounds n) (round_at rounds n).parent (node_at nodes (round_at rounds n).parent) in
      let b : List Declared = own_at (kind_at_parent nodes (round_at rounds n).parent) n node (round_at rounds n) in
      let c : List Declared = module_at (kind_at_parent nodes (round_at rounds n).parent) n node in
      amount_append u (a ++ b) c ∙ ap (λ (k : ℕ). k + amount u c) (amount_append u a b)
      ∙ three (amount u a) (amount u b) (amount u c) (weight u n)
      (no_variable u n node.kind (round_at rounds n) (round_at rounds n).parent (node_at nodes (round_at rounds n).parent) refl)
      (own_amount u (kind_at_parent nodes (round_at rounds n).parent) n node (is_parameter nodes rounds n && is_unit (length nodes) u (round_at rounds n).unit) at refl)
      (no_module u (kind_at_parent nodes (round_at rounds n).parent) n node)

  pub amount_node : (u n : ℕ) → amount u (at_node n) ≡ weight u n
  amount_node u n = by (slice_get nodes n) refl
    where
      by : (its : Option Node) → slice_get nodes n ≡ its → amount u (at_node n) ≡ weight u n
      by None at =
          let none : is_parameter nodes rounds n ≡ false = ap (λ (k : NodeKind). is_of_module k (kind_at_parent nodes (parent_round rounds (round_at rounds n).parent))) (ap kind_of at) in
          ap (λ (o : Option Node). amount u (declared_at nodes rounds n o)) at
          ∙ sym (ap (λ (b : Bool). if b && is_unit (length nodes) u (round_at rounds n).unit then length (names_of (slice_get nodes n)) else 0) none)
      by (Some node) at = ap (λ (o : Option Node). amount u (declared_at nodes rounds n o)) at ∙ amount_there u n node at

  abbrev pub weights : ℕ → ℕ → ℕ
  weights u zero = 0
  weights u (suc n) = weights u n + weight u n

  pub amounts : (u n : ℕ) → amount u (up_to n) ≡ weights u n
  unfolding declared_to
  amounts u zero = refl
  amounts u (suc n) =
      let before : amount u (up_to n) ≡ weights u n = amounts u n in
      let here : amount u (at_node n) ≡ weight u n = amount_node u n in
      amount_append u (up_to n) (at_node n) ∙ omega (arith, before, here)
