-- The body round each node below a type set is a type set: no other body stands in one.
use Rattle.std.proofs.Common.{◌≡◌, ◌∙◌, ◌⊎◌, inl, inr, ℕ, ◌+◌, ◌-◌, ◌<◌, ◌≤◌, ◌&&◌, nat_lt, nat_le, Bool, true, false, if◌then◌else◌, List, [], ◌∷◌, length, map, Option, Some, None, refl, sym, ap, subst, arith}
use Rattle.std.specs.Prelude.{slice_get}
use Rattle.std.specs.List.{AllByRecursion}
use Rattle.std.specs.Option.{option_or}
use Rattle.std.proofs.lemmas.Bool.{true≢false, cases_lt, leb-true}
use Rattle.std.proofs.lemmas.Option.{none-some, slice_get_within}
use Rattle.clu_base.proofs.Bools.{of_three}
use Rattle.clu_tree.specs.declared.node.Node.{Node}
use Rattle.clu_tree.specs.declared.node.NodeKind.{NodeKind}
use Rattle.clu_tree.specs.declared.node.NodeKind.TheVariants as kind
use Rattle.clu_tree.specs.Nodes.{IsTree}
use Rattle.clu_parser.specs.Order.{IsForest, none, tree, IsPostOrder}
use Rattle.clu_parser.specs.Shape.{HaveForms}
use Rattle.clu_syntax.specs.declared.bodies.Part.{Part}
use Rattle.clu_syntax.specs.declared.round.Round.{Round}
use Rattle.clu_syntax.specs.Kinds.{kind_at, kind_of}
use Rattle.clu_syntax.specs.Rounds.{AreRounds, round_at, rounds_in, child_round, child_part, body_in}
use Rattle.clu_syntax.specs.Bodies.{first_part}
use Rattle.clu_parts.proofs.Fitting.{AreBefore, children_before}
use Rattle.clu_declares.proofs.Around.{there}
use Rattle.clu_declares.proofs.Facts.{further}
use Rattle.clu_bindings.specs.declared.file.Headed.{Headed}
use Rattle.clu_bindings.specs.Readers.{kind_in, round_in}
use Rattle.clu_operations.specs.Clauses.{is_set_kind, count_round, is_set_round}
use Rattle.clu_type_rules.specs.Needs.{if_set, set_at}
use Rattle.clu_passes.specs.Settings.{AreInSets}
use Rattle.clu_passes.specs.Trees.{is_of_constant}
use Rattle.clu_passes.proofs.InEquates.{children_pass}
use Rattle.clu_passes.proofs.Subtrees.{is_subtree}

-- what each node hands on to its children holds of all below
all_hold : (nodes : List Node) (Holds : ℕ → Type 0) → ((i : ℕ) (its : Node) → slice_get nodes i ≡ Some its → Holds i → AllByRecursion Holds its.children) → (from to : ℕ) (roots : List ℕ) → IsForest nodes from roots to → AllByRecursion Holds roots → (n : ℕ) → from ≤ n → n < to → Holds n
all_hold nodes Holds closed from to _ (none _) all n l m = absurd (omega (arith, l, m))
all_hold nodes Holds closed from to _ (tree _ root _ its roots here inside behind) all n l m = elim (cases_lt n root) [
  | inl less ↦ all_hold nodes Holds closed from root its.children inside (closed root its here all.0) n l less
  | inr upto ↦ elim (cases_lt root n) [
    | inl after ↦ all_hold nodes Holds closed (root + 1) to roots behind all.1 n (omega (arith, after)) m
    | inr back ↦ let same : root ≡ n = omega (arith, upto, back) in subst Holds same all.0
  ]
]

all_both : (P Q : ℕ → Type 0) (cs : List ℕ) → AllByRecursion P cs → AllByRecursion Q cs → AllByRecursion (λ (c : ℕ). P c × Q c) cs
all_both P Q [] p q = tt
all_both P Q (c ∷ cs) p q = ((p.0, q.0), all_both P Q cs p.1 q.1)

module _ (nodes : List Node) (rounds : List Round) (shaped : HaveForms nodes) (order : IsPostOrder nodes) (is_tree : IsTree nodes) (are : AreRounds nodes rounds) where
  abbrev IsInSet : ℕ → Type 0
  IsInSet n = kind_at nodes (round_at rounds n).body_last ≡ kind.TypeSet

  abbrev IsBelow : ℕ → Type 0
  IsBelow n = (is_of_constant (kind_at nodes n) ≡ true) × IsInSet n

  -- ---- the children of a node

  module _ (n : ℕ) (node : Node) (at : slice_get nodes n ≡ Some node) (constant : is_of_constant node.kind ≡ true) where
    own_kind : kind_at nodes n ≡ node.kind
    own_kind = ap kind_of at

    last_in : (k child : NodeKind) (part : Part) → is_of_constant k ≡ true → kind_at nodes n ≡ k → (k ≡ kind.TypeSet) ⊎ IsInSet n → kind_at nodes (body_in k child n (round_at rounds n) part).1 ≡ kind.TypeSet
    last_in kind.TypeSet child part is own up = own
    last_in kind.File child part is own up = absurd (true≢false (sym is))
    last_in kind.Module child part is own up = absurd (true≢false (sym is))
    last_in kind.Routine child part is own up = absurd (true≢false (sym is))
    last_in kind.Cluster child part is own up = absurd (true≢false (sym is))
    last_in kind.Begin child part is own up = absurd (true≢false (sym is))
    last_in kind.While child part is own up = absurd (true≢false (sym is))
    last_in kind.For child part is own up = absurd (true≢false (sym is))
    last_in kind.If child part is own up = absurd (true≢false (sym is))
    last_in kind.Tagcase child part is own up = absurd (true≢false (sym is))
    last_in kind.TagArm child part is own up = absurd (true≢false (sym is))
    last_in kind.When child part is own up = absurd (true≢false (sym is))
    last_in kind.Others child part is own up = absurd (true≢false (sym is))
    last_in _ child part is own up = elim up [ inl set ↦ cc | inr above ↦ above ]

    children_in : (up : (node.kind ≡ kind.TypeSet) ⊎ IsInSet n) (before : Part) (first : ℕ) (cs : List ℕ) → AreBefore (length nodes) cs → map (round_at rounds) cs ≡ rounds_in nodes n node (round_at rounds n) before first cs → AllByRecursion IsInSet cs
    unfolding rounds_in
    children_in up before first [] l e = tt
    children_in up before first (c ∷ cs) l e =
        let part : Part = child_part nodes node (slice_get nodes c) before first (c ∷ cs) in
        let head : round_at rounds c ≡ child_round nodes n node (slice_get nodes c) (round_at rounds n) first part = cc in
        let tail : map (round_at rounds) cs ≡ rounds_in nodes n node (round_at rounds n) part (c + 1) cs = cc in
        let m = there nodes c l.0 in
        let its : round_at rounds c ≡ child_round nodes n node (Some m.0) (round_at rounds n) first part = head ∙ ap (λ (o : Option Node). child_round nodes n node o (round_at rounds n) first part) m.1 in
        (subst (λ (last : ℕ). kind_at nodes last ≡ kind.TypeSet) (sym (ap (λ (r : Round). r.body_last) its)) (last_in node.kind m.0.kind part constant own_kind up), children_in up part (c + 1) cs l.1 tail)

    pub all_in : (node.kind ≡ kind.TypeSet) ⊎ IsInSet n → AllByRecursion IsBelow node.children
    all_in up =
        let inside : n < length nodes = slice_get_within nodes n node at in
        all_both (λ (c : ℕ). is_of_constant (kind_at nodes c) ≡ true) IsInSet node.children (children_pass nodes shaped n node at constant)
        (children_in up (first_part nodes node (round_at rounds n).first) (round_at rounds n).first node.children
        (further n (length nodes) node.children (omega (arith, inside)) (children_before nodes is_tree n node at)) (are.children_are n node at))

  closed : (i : ℕ) (its : Node) → slice_get nodes i ≡ Some its → IsBelow i → AllByRecursion IsBelow its.children
  closed i its at below = all_in i its at (sym (ap (λ (o : Option Node). is_of_constant (kind_of o)) at) ∙ below.0) (inr below.1)

  -- below a type set
  pub in_set : (s : ℕ) (its : Node) → slice_get nodes s ≡ Some its → its.kind ≡ kind.TypeSet → (n : ℕ) → (round_at rounds s).first ≤ n → n < s → IsInSet n
  in_set s its at is n l m =
      let constant : is_of_constant its.kind ≡ true = ap is_of_constant is in
      (all_hold nodes IsBelow closed (round_at rounds s).first s its.children (is_subtree nodes rounds is_tree are order s its at) (all_in s its at constant (inl is)) n l m).1

-- ---- by the tables of a file

set_kind : (k : NodeKind) → is_set_kind k ≡ true → k ≡ kind.TypeSet
set_kind kind.TypeSet e = refl
set_kind _ e = absurd (true≢false (sym e))

set_there : (n : ℕ) (k : NodeKind) → k ≡ kind.TypeSet → if_set n k ≡ Some n
set_there n k e = ap (if_set n) e

never : {A : Type 0} (o other : Option ℕ) (n : ℕ) → o ≡ Some n → option_or o other ≡ None → A
never o other n is e = absurd (none-some n (sym e ∙ ap (λ (x : Option ℕ). option_or x other) is))

second_never : {A : Type 0} (o other : Option ℕ) (n : ℕ) → other ≡ Some n → option_or o other ≡ None → A
second_never (Some x) other n is e = absurd (none-some x (sym e))
second_never None other n is e = absurd (none-some n (sym e ∙ is))

module _ (headed : Headed) (shaped : HaveForms headed.file.syntax.now) (order : IsPostOrder headed.file.syntax.now) (is_tree : IsTree headed.file.syntax.now) (are : AreRounds headed.file.syntax.now headed.file.rounds.now) where
  abbrev nodes : List Node
  nodes = headed.file.syntax.now

  not_round : (n s : ℕ) → set_at headed n ≡ None → is_set_kind (kind_in headed.file s) ≡ true → (round_in headed.file s).first ≤ n → n ≤ s → ⊥
  not_round n s outside is l m = by (slice_get nodes s) refl (set_kind (kind_in headed.file s) is)
    where
      inner : (its : Node) → slice_get nodes s ≡ Some its → kind_in headed.file s ≡ kind.TypeSet → (n < s) ⊎ (s ≤ n) → ⊥
      inner its at set (inl less) =
          second_never (if_set n (kind_in headed.file n)) (if_set n (kind_in headed.file (round_in headed.file n).body_last)) n
          (set_there n (kind_in headed.file (round_in headed.file n).body_last) (in_set nodes headed.file.rounds.now shaped order is_tree are s its at (sym (ap kind_of at) ∙ set) n l less)) outside
      inner its at set (inr upto) =
          let same : s ≡ n = omega (arith, upto, m) in
          never (if_set n (kind_in headed.file n)) (if_set n (kind_in headed.file (round_in headed.file n).body_last)) n
          (set_there n (kind_in headed.file n) (ap (kind_in headed.file) (sym same) ∙ set)) outside

      by : (o : Option Node) → slice_get nodes s ≡ o → kind_in headed.file s ≡ kind.TypeSet → ⊥
      by (Some its) at set = inner its at set (cases_lt n s)
      by None at set = (let e : kind.File ≡ kind.TypeSet = sym (ap kind_of at) ∙ set in cc)

  pub in_sets : AreInSets headed
  in_sets n outside number = by (number - count_round headed.file n - 1)
    where
      by : (s : ℕ) → (if nat_lt (count_round headed.file n) number && is_set_round headed.file n s then Some s else None) ≡ None
      by s = also (nat_lt (count_round headed.file n) number) (is_set_round headed.file n s) refl
        where
          also : (a b : Bool) → is_set_round headed.file n s ≡ b → (if a && b then Some s else None) ≡ None
          also false b e = refl
          also true false e = refl
          also true true e =
              let p = of_three (is_set_kind (kind_in headed.file s)) (nat_le (round_in headed.file s).first n) (nat_le n s) e in
              absurd (not_round n s outside p.0 (leb-true (round_in headed.file s).first n p.1) (leb-true n s p.2))
