-- A tree has few nodes and names for the tokens of its text: but for four kinds each node has a token of its own.
use Rattle.std.proofs.Common.{◌≡◌, ◌∙◌, ℕ, zero, suc, ◌+◌, ◌-◌, ◌*◌, ◌^◌, ◌≤◌, ◌&&◌, ◌||◌, nat_le, Bool, true, false, if◌then◌else◌, List, [], ◌∷◌, ◌++◌, length, take, drop, Option, Some, None, slice_get, refl, ap, sym, subst, inl, inr, arith, add-one, length-append, leb-true, rules}
use Rattle.std.proofs.lemmas.List.{length-map}
use Rattle.std.proofs.lemmas.Bool.{true≢false, cases_Bool, and_parts}
use Rattle.clu_tree.specs.declared.node.Node.{Node}
use Rattle.clu_tree.specs.declared.node.NodeKind.{NodeKind}
use Rattle.clu_tree.specs.declared.node.NodeKind.TheVariants as kind
use Rattle.clu_tree.specs.contracts.node.NodeKind.{the_type}
use Rattle.clu_parser.specs.Order.{IsForest, none, tree, IsFileOver}
use Rattle.clu_parser.specs.Trees.{Text, spelling_at}
use Rattle.clu_parser.specs.Shape as shape
use Rattle.clu_parser.specs.Shape.{Part, Child, Letter, IsWord, nothing, token_is, name_is, value_is, child_is, no_more, one_more, without, with_one, Spelled, ended, own_token, a_name, a_value, a_child, IsFormOf, forms, kinds_in, IsProduction, IsShaped, is_child}
use Rattle.clu_syntax.specs.declared.round.Round.{Round}
use Rattle.clu_syntax.specs.Kinds.{kind_of, kind_at}
use Rattle.clu_syntax.specs.Rounds.{round_at}
use Rattle.clu_syntax.specs.Syntax.{Identifier}
use Rattle.clu_names.specs.declared.scopes.Declared.{Declared}
use Rattle.clu_names.specs.Scopes.{node_at, kind_at_parent, scope_of, equate_names, own_names, declared_as, own_at, is_stream, module_named, is_module, module_at, is_first, opens, variable_names, variable_of, declared_at, declared_to}
use Rattle.clu_settle.specs.Names.{names_of}
use Rattle.clu_declares.specs.Declares.{IsParsed, AreFew}
use denote.Enum.Bare.{same_true}
use Rattle.clu_base.proofs.Bools.{second_true}

-- ---- letters

abbrev own : List Letter → ℕ
own [] = 0
own (shape.own x ∷ w) = own w + 1
own (shape.named ∷ w) = own w + 1
own (shape.valued x ∷ w) = own w + 1
own (shape.node k ∷ w) = own w

own_append : (v w : List Letter) → own (v ++ w) ≡ own v + own w
own_append [] w = omega arith
own_append (shape.own x ∷ v) w = omega (arith, own_append v w)
own_append (shape.named ∷ v) w = omega (arith, own_append v w)
own_append (shape.valued x ∷ v) w = omega (arith, own_append v w)
own_append (shape.node k ∷ v) w = own_append v w

-- how much less than four nodes for each token a node has below it
abbrev slack : NodeKind → ℕ
slack kind.File = 1
slack kind.Module = 2
slack kind.Declare = 2
slack kind.CallS = 2
slack _ = 3

slack_small : (k : NodeKind) → slack k ≤ 3
slack_small kind.File = omega arith
slack_small kind.Module = omega arith
slack_small kind.Declare = omega arith
slack_small kind.CallS = omega arith
slack_small _ = omega arith

abbrev slack_in : List NodeKind → ℕ
slack_in [] = 0
slack_in (k ∷ ks) = slack k + slack_in ks

slack_append : (v w : List Letter) → slack_in (kinds_in (v ++ w)) ≡ slack_in (kinds_in v) + slack_in (kinds_in w)
slack_append [] w = omega arith
slack_append (shape.own x ∷ v) w = slack_append v w
slack_append (shape.named ∷ v) w = slack_append v w
slack_append (shape.valued x ∷ v) w = slack_append v w
slack_append (shape.node k ∷ v) w = omega (arith, slack_append v w)

-- ---- forms

abbrev has_own : List Part → Bool
has_own [] = false
has_own (shape.token x ∷ ps) = true
has_own (shape.name ∷ ps) = true
has_own (shape.value xs ∷ ps) = true
has_own (shape.child c ∷ ps) = has_own ps
has_own (shape.many g ∷ ps) = has_own ps
has_own (shape.maybe g ∷ ps) = has_own ps

abbrev child_slack : Child → ℕ
child_slack (shape.one k) = slack k
child_slack _ = 0

abbrev least_slack : List Part → ℕ
least_slack [] = 0
least_slack (shape.child c ∷ ps) = child_slack c + least_slack ps
least_slack (_ ∷ ps) = least_slack ps

own_there : (ps : List Part) (w : List Letter) → IsWord ps w → has_own ps ≡ true → 1 ≤ own w
own_there _ _ nothing h = absurd (true≢false (sym h))
own_there _ _ (token_is x ps w d) h = omega arith
own_there _ _ (name_is ps w d) h = omega arith
own_there _ _ (value_is xs x ps w m d) h = omega arith
own_there _ _ (child_is c k ps w m d) h = own_there ps w d h
own_there _ _ (no_more g ps w d) h = own_there ps w d h
own_there _ _ (one_more g ps v w u dv dw e) h = let more : 1 ≤ own w = own_there (shape.many g ∷ ps) w dw h in let same : own u ≡ own v + own w = ap own e ∙ own_append v w in omega (arith, more, same)
own_there _ _ (without g ps w d) h = own_there ps w d h
own_there _ _ (with_one g ps v w u dv dw e) h = let more : 1 ≤ own w = own_there ps w dw h in let same : own u ≡ own v + own w = ap own e ∙ own_append v w in omega (arith, more, same)

child_is_slack : (c : Child) (k : NodeKind) → is_child c k ≡ true → child_slack c ≤ slack k
child_is_slack (shape.one it) k e = let same : slack it ≡ slack k = ap slack (same_true the_type (search rules) it k e) in omega (arith, same)
child_is_slack shape.expression k e = omega arith
child_is_slack shape.any_type k e = omega arith
child_is_slack shape.constant k e = omega arith
child_is_slack shape.statement k e = omega arith

slack_there : (ps : List Part) (w : List Letter) → IsWord ps w → least_slack ps ≤ slack_in (kinds_in w)
slack_there _ _ nothing = omega arith
slack_there _ _ (token_is x ps w d) = slack_there ps w d
slack_there _ _ (name_is ps w d) = slack_there ps w d
slack_there _ _ (value_is xs x ps w m d) = slack_there ps w d
slack_there _ _ (child_is c k ps w m d) = omega (arith, slack_there ps w d, child_is_slack c k m)
slack_there _ _ (no_more g ps w d) = slack_there ps w d
slack_there _ _ (one_more g ps v w u dv dw e) = let more : least_slack ps ≤ slack_in (kinds_in w) = slack_there (shape.many g ∷ ps) w dw in let same : slack_in (kinds_in u) ≡ slack_in (kinds_in v) + slack_in (kinds_in w) = ap (λ (u : List Letter). slack_in (kinds_in u)) e ∙ slack_append v w in omega (arith, more, same)
slack_there _ _ (without g ps w d) = slack_there ps w d
slack_there _ _ (with_one g ps v w u dv dw e) = let more : least_slack ps ≤ slack_in (kinds_in w) = slack_there ps w dw in let same : slack_in (kinds_in u) ≡ slack_in (kinds_in v) + slack_in (kinds_in w) = ap (λ (u : List Letter). slack_in (kinds_in u)) e ∙ slack_append v w in omega (arith, more, same)

-- each form has a token of its own, or children that are so much less
are_good : NodeKind → List (List Part) → Bool
are_good k [] = true
are_good k (form ∷ fs) = (has_own form || nat_le (1 + slack k) (least_slack form)) && are_good k fs

all_good : (k : NodeKind) → are_good k (forms k) ≡ true
unfolding are_good
all_good kind.File = refl
all_good _ = refl

good_form : (k : NodeKind) (form : List Part) (fs : List (List Part)) → IsFormOf form fs → are_good k fs ≡ true → (has_own form || nat_le (1 + slack k) (least_slack form)) ≡ true
unfolding are_good
good_form k form [] at h = absurd at
good_form k form (f ∷ fs) (inl e) h = ap (λ (f : List Part). has_own f || nat_le (1 + slack k) (least_slack f)) e ∙ (and_parts (has_own f || nat_le (1 + slack k) (least_slack f)) (are_good k fs) h).0
good_form k form (f ∷ fs) (inr more) h = good_form k form fs more (and_parts (has_own f || nat_le (1 + slack k) (least_slack f)) (are_good k fs) h).1

room : (k : NodeKind) (form : List Part) (w : List Letter) → IsFormOf form (forms k) → IsWord form w → 1 + slack k ≤ slack_in (kinds_in w) + 4 * own w
room k form w at d = elim (cases_Bool (has_own form)) [
  | inl has ↦ (let some : 1 ≤ own w = own_there form w d has in let small : slack k ≤ 3 = slack_small k in omega (arith, some, small))
  | inr bare ↦
      (let less : 1 + slack k ≤ least_slack form = leb-true (1 + slack k) (least_slack form) (second_true (has_own form) (nat_le (1 + slack k) (least_slack form)) (good_form k form (forms k) at (all_good k)) bare) in
      let there : least_slack form ≤ slack_in (kinds_in w) = slack_there form w d in
      omega (arith, less, there))
]

-- ---- spans

abbrev span_of : Option Node → ℕ
span_of (Some n) = (n.last + 1) - n.first
span_of None = 0

module _ (t : Text) (nodes : List Node) (shaped : IsShaped t nodes) where
  abbrev spans : List ℕ → ℕ
  spans [] = 0
  spans (c ∷ cs) = span_of (slice_get nodes c) + spans cs

  abbrev slacks : List ℕ → ℕ
  slacks [] = 0
  slacks (c ∷ cs) = slack (kind_at nodes c) + slacks cs

  abbrev IsSum : ℕ → List Letter → List ℕ → List ℕ → ℕ → Type 0
  IsSum at w cs names to = (at + own w + spans cs ≡ to) × (length names ≤ own w) × (slacks cs ≡ slack_in (kinds_in w))

  summed : (at : ℕ) (w : List Letter) (cs names values : List ℕ) (to : ℕ) → Spelled t nodes at w cs names values to → IsSum at w cs names to
  summed at _ _ _ _ _ (ended _) = (omega arith, omega arith, refl)
  summed at _ _ _ _ _ (own_token x _ w cs names values to e d) = let s = summed (at + 1) w cs names values to d in let a : (at + 1) + own w + spans cs ≡ to = s.0 in let b : length names ≤ own w = s.1 in (omega (arith, a), omega (arith, b), s.2)
  summed at _ _ _ _ _ (a_name _ w cs names values to e d) = let s = summed (at + 1) w cs names values to d in let a : (at + 1) + own w + spans cs ≡ to = s.0 in let b : length names ≤ own w = s.1 in (omega (arith, a), omega (arith, b), s.2)
  summed at _ _ _ _ _ (a_value x _ w cs names values to e d) = let s = summed (at + 1) w cs names values to d in let a : (at + 1) + own w + spans cs ≡ to = s.0 in let b : length names ≤ own w = s.1 in (omega (arith, a), omega (arith, b), s.2)
  summed _ _ _ _ _ _ (a_child c n w cs names values to e d) =
      let s = summed (n.last + 1) w cs names values to d in
      let a : (n.last + 1) + own w + spans cs ≡ to = s.0 in
      let span : span_of (slice_get nodes c) ≡ (n.last + 1) - n.first = ap span_of e in
      let ordered : n.first ≤ n.last = (shaped c n e).ordered in
      let here : slack (kind_at nodes c) ≡ slack n.kind = ap (λ (o : Option Node). slack (kind_of o)) e in
      let more : slacks cs ≡ slack_in (kinds_in w) = s.2 in
      (omega (arith, a, span, ordered), s.1, omega (arith, here, more))

  abbrev names_to : ℕ → ℕ
  names_to zero = 0
  names_to (suc n) = names_to n + length (names_of (slice_get nodes n))

  abbrev IsRoom : ℕ → List ℕ → ℕ → Type 0
  IsRoom from roots to = (to + slacks roots ≤ from + 4 * spans roots) × (names_to to ≤ names_to from + spans roots)

  rooms : (from to : ℕ) (roots : List ℕ) → IsForest nodes from roots to → IsRoom from roots to
  rooms from to _ (none _) = (omega arith, omega arith)
  rooms from to _ (tree _ root _ n roots at inside behind) =
      let p : IsProduction t nodes n = shaped root n at in
      let s = summed n.first p.word n.children p.names p.values (n.last + 1) p.spelled in
      let sum : n.first + own p.word + spans n.children ≡ n.last + 1 = s.0 in
      let few : length p.names ≤ own p.word = s.1 in
      let less : slacks n.children ≡ slack_in (kinds_in p.word) = s.2 in
      let here : 1 + slack n.kind ≤ slack_in (kinds_in p.word) + 4 * own p.word = room n.kind p.form p.word p.of_kind p.is_word in
      let span : span_of (slice_get nodes root) ≡ (n.last + 1) - n.first = ap span_of at in
      let its : slack (kind_at nodes root) ≡ slack n.kind = ap (λ (o : Option Node). slack (kind_of o)) at in
      let names : length (names_of (slice_get nodes root)) ≡ length p.names = ap (λ (o : Option Node). length (names_of o)) at ∙ ap length p.names_are ∙ length-map p.names (spelling_at t) in
      let i = rooms from root n.children inside in
      let i0 : root + slacks n.children ≤ from + 4 * spans n.children = i.0 in
      let i1 : names_to root ≤ names_to from + spans n.children = i.1 in
      let b = rooms (root + 1) to roots behind in
      let b0 : to + slacks roots ≤ (root + 1) + 4 * spans roots = b.0 in
      let b1 : names_to to ≤ names_to (root + 1) + spans roots = b.1 in
      let next : names_to (root + 1) ≡ names_to root + length (names_of (slice_get nodes root)) = ap names_to (add-one root) in
      (omega (arith, sum, less, here, span, its, i0, b0), omega (arith, sum, few, span, names, next, i1, b1))

-- ---- declarations

declared_size : (n : ℕ) (unit : Option ℕ) (scope : Option (ℕ × ℕ)) (names : List Identifier) → length (declared_as n unit scope names) ≤ length names
declared_size n unit None names = omega arith
declared_size n unit (Some scope) [] = omega arith
declared_size n unit (Some scope) (name ∷ names) = let more : length (declared_as n unit (Some scope) names) ≤ length names = declared_size n unit (Some scope) names in omega (arith, more)

last_size : (names : List Identifier) → length (drop (length names - 1) names) ≤ 1
last_size [] = omega arith
last_size (x ∷ xs) = let size : length (x ∷ xs) - 1 ≡ length xs = omega arith in subst (λ (k : ℕ). length (drop k (x ∷ xs)) ≤ 1) (sym size) (by x xs)
  where
    by : (x : Identifier) (xs : List Identifier) → length (drop (length xs) (x ∷ xs)) ≤ 1
    by x [] = omega arith
    by x (y ∷ ys) = by y ys

first_size : (names : List Identifier) → length (take 1 names) ≤ 1
first_size [] = omega arith
first_size (x ∷ xs) = omega arith

variable_size : (k : NodeKind) (names : List Identifier) → length (variable_names k names) ≤ 1
variable_size kind.TypeSet names = first_size names
variable_size _ names = last_size names

own_size : (k : NodeKind) (node : Node) → length (own_names k node) ≤ length node.names + 1
own_size kind.Equate node = by node.names node.value
  where
    by : (names : List Identifier) (value : List ℕ) → length (equate_names names value) ≤ length names + 1
    by [] value = omega arith
    by (x ∷ xs) value = omega arith
own_size kind.Routine node = by node.names
  where
    by : (names : List Identifier) → length (take 1 names) ≤ length names + 1
    by [] = omega arith
    by (x ∷ xs) = omega arith
own_size _ node = omega arith

one_variable : (n : ℕ) (child : NodeKind) (round : Round) (parent : Option ℕ) (outer : Option Node) → length (variable_of n child round parent outer) ≤ 1
one_variable n child round None outer = omega arith
one_variable n child round (Some p) None = omega arith
one_variable n child round (Some p) (Some outer) = by (opens outer.kind child && is_first n outer.children)
  where
    by : (b : Bool) → length (if b then declared_as p round.unit (Some (round.body_first, round.body_last)) (variable_names outer.kind outer.names) else []) ≤ 1
    by true = let a : length (declared_as p round.unit (Some (round.body_first, round.body_last)) (variable_names outer.kind outer.names)) ≤ length (variable_names outer.kind outer.names) = declared_size p round.unit (Some (round.body_first, round.body_last)) (variable_names outer.kind outer.names) in
        let b : length (variable_names outer.kind outer.names) ≤ 1 = variable_size outer.kind outer.names in omega (arith, a, b)
    by false = omega arith

one_named : (n : ℕ) (names : List Identifier) → length (module_named n names) ≤ 1
one_named n [] = omega arith
one_named n (name ∷ names) = by (is_stream name) (record { name = name; node = n; from = 0; to = 4294967295; unit = None } ∷ []) (omega arith)
  where
    by : (b : Bool) (ds : List Declared) → length ds ≤ 1 → length (if b then [] else ds) ≤ 1
    by true ds l = omega arith
    by false ds l = l

one_module : (outer : NodeKind) (n : ℕ) (node : Node) → length (module_at outer n node) ≤ 1
one_module outer n node = by (is_module outer node.kind)
  where
    by : (b : Bool) → length (if b then module_named n node.names else []) ≤ 1
    by true = one_named n node.names
    by false = omega arith

module _ (t : Text) (nodes : List Node) (shaped : IsShaped t nodes) (rounds : List Round) where
  here_size : (n : ℕ) (its : Option Node) → length (declared_at nodes rounds n its) ≤ length (names_of its) + 3
  here_size n None = omega arith
  here_size n (Some node) =
      let outer : NodeKind = kind_at_parent nodes (round_at rounds n).parent in
      let a : List Declared = variable_of n node.kind (round_at rounds n) (round_at rounds n).parent (node_at nodes (round_at rounds n).parent) in
      let b : List Declared = own_at (kind_at_parent nodes (round_at rounds n).parent) n node (round_at rounds n) in
      let c : List Declared = module_at (kind_at_parent nodes (round_at rounds n).parent) n node in
      let whole : length ((a ++ b) ++ c) ≡ length a + length b + length c = length-append (a ++ b) c ∙ ap (λ (k : ℕ). k + length c) (length-append a b) in
      let first : length a ≤ 1 = one_variable n node.kind (round_at rounds n) (round_at rounds n).parent (node_at nodes (round_at rounds n).parent) in
      let own_a : length b ≤ length (own_names node.kind node) = declared_size n (round_at rounds n).unit (scope_of node.kind (kind_at_parent nodes (round_at rounds n).parent) n (round_at rounds n)) (own_names node.kind node) in
      let own_b : length (own_names node.kind node) ≤ length node.names + 1 = own_size node.kind node in
      let last : length c ≤ 1 = one_module (kind_at_parent nodes (round_at rounds n).parent) n node in
      omega (arith, whole, first, own_a, own_b, last)

  all_size : (n : ℕ) → length (declared_to nodes rounds n) ≤ names_to t nodes shaped n + 3 * n
  unfolding declared_to
  all_size zero = omega arith
  all_size (suc n) =
      let before : length (declared_to nodes rounds n) ≤ names_to t nodes shaped n + 3 * n = all_size n in
      let here : length (declared_at nodes rounds n (slice_get nodes n)) ≤ length (names_of (slice_get nodes n)) + 3 = here_size n (slice_get nodes n) in
      let whole : length (declared_to nodes rounds n ++ declared_at nodes rounds n (slice_get nodes n)) ≡ length (declared_to nodes rounds n) + length (declared_at nodes rounds n (slice_get nodes n)) = length-append (declared_to nodes rounds n) (declared_at nodes rounds n (slice_get nodes n)) in
      omega (arith, before, here, whole)

pub few_declared : (t : Text) (nodes : List Node) (rounds : List Round) (tokens : ℕ) → IsParsed t nodes → IsFileOver tokens nodes → tokens ≤ 2 ^ 20 → AreFew nodes rounds
few_declared t nodes rounds tokens parsed file small =
    let r = rooms t nodes parsed.shape 0 (length nodes) ((length nodes - 1) ∷ []) parsed.order in
    let a : length nodes + slacks t nodes parsed.shape ((length nodes - 1) ∷ []) ≤ 0 + 4 * spans t nodes parsed.shape ((length nodes - 1) ∷ []) = r.0 in
    let b : names_to t nodes parsed.shape (length nodes) ≤ names_to t nodes parsed.shape 0 + spans t nodes parsed.shape ((length nodes - 1) ∷ []) = r.1 in
    let span : span_of (slice_get nodes (length nodes - 1)) ≡ (file.root.last + 1) - file.root.first = ap span_of file.is_last in
    let first : file.root.first ≡ 0 = file.first_is in
    let last : file.root.last + 1 ≡ tokens = file.last_is in
    let all : length (declared_to nodes rounds (length nodes)) ≤ names_to t nodes parsed.shape (length nodes) + 3 * length nodes = all_size t nodes parsed.shape rounds (length nodes) in
    omega (arith, a, b, span, first, last, all, small)

pub few_nodes : (t : Text) (nodes : List Node) (tokens : ℕ) → IsParsed t nodes → IsFileOver tokens nodes → tokens ≤ 2 ^ 20 → length nodes ≤ 2 ^ 22
few_nodes t nodes tokens parsed file small =
    let r = rooms t nodes parsed.shape 0 (length nodes) ((length nodes - 1) ∷ []) parsed.order in
    let a : length nodes + slacks t nodes parsed.shape ((length nodes - 1) ∷ []) ≤ 0 + 4 * spans t nodes parsed.shape ((length nodes - 1) ∷ []) = r.0 in
    let span : span_of (slice_get nodes (length nodes - 1)) ≡ (file.root.last + 1) - file.root.first = ap span_of file.is_last in
    let first : file.root.first ≡ 0 = file.first_is in
    let last : file.root.last + 1 ≡ tokens = file.last_is in
    omega (arith, a, span, first, last, small)
