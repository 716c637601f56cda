-- The body of a loop or an arm begins behind the declarations that stand before it.
use Rattle.std.proofs.Common.{◌≡◌, ◌∙◌, ℕ, ◌+◌, ◌<◌, ◌≤◌, ◌||◌, ◌&&◌, not, if◌then◌else◌, Bool, true, false, List, [], ◌∷◌, map, Option, Some, refl, sym, ap, subst, arith}
use Rattle.std.specs.Prelude.{slice_get}
use Rattle.std.specs.List.{AllByRecursion}
use Rattle.std.proofs.lemmas.Bool.{true≢false}
use Rattle.std.proofs.lemmas.Option.{same_Some}
use Rattle.clu_tree.specs.declared.node.Node.{Node}
use Rattle.clu_tree.specs.declared.node.NodeKind.{NodeKind}
use Rattle.clu_tree.specs.declared.node.NodeKind.TheVariants as kind
use Rattle.clu_parser.specs.Order.{IsForest, none, tree}
use Rattle.clu_syntax.specs.declared.bodies.Part.{Part}
use Rattle.clu_syntax.specs.declared.round.Round.{Round}
use Rattle.clu_syntax.specs.Bodies.{after_heads, begins, differ, first_part, head_at, is_behind, opened, part_at, part_of}
use Rattle.clu_syntax.specs.Kinds.{is_head, is_outside, is_type, kind_of}
use Rattle.clu_syntax.specs.Rounds.{body_in, child_part, child_round, round_at, round_in, rounds_in}
use Rattle.clu_checking.specs.Files.{File, round}
use Rattle.clu_declares.proofs.Parents.{IsIn, of_all}
use Rattle.clu_passes.specs.Trees.{IsFileOfTree}
use Rattle.clu_passes.proofs.Subtrees.{is_subtree}
use Rattle.clu_passes.proofs.Within.{forest_goes_on}

-- ---- one part

no_begin : (head before other : Bool) → (head && not before || other) ≡ false → head ≡ true → before ≡ true
no_begin true true other e is = refl
no_begin true false other e is = absurd (true≢false e)
no_begin false before other e is = absurd (true≢false (sym is))

module _ (nodes : List Node) (node : Node) where
  part_head : (before : Part) (begin : ℕ) (head behind : Bool) (cs : List ℕ) → (part_of nodes node before begin head behind cs).head ≡ head
  part_head before begin head behind cs = by (begins before head behind)
    where
      by : (b : Bool) → (if◌then◌else◌ {A = Part} b (opened nodes node begin head behind cs) (record { from = before.from; last = before.last; head = head; behind = behind })).head ≡ head
      by true = refl
      by false = refl

  heads_over : (begin c : ℕ) (cs : List ℕ) (child : Node) → slice_get nodes c ≡ Some child → is_head child.kind ≡ true → after_heads nodes begin (c ∷ cs) ≡ after_heads nodes (c + 1) cs
  unfolding after_heads
  heads_over begin c cs child at head =
      ap (λ (o : Option Node). if◌then◌else◌ {A = ℕ} (head_at o) (after_heads nodes (c + 1) cs) begin) at
      ∙ ap (λ (b : Bool). if◌then◌else◌ {A = ℕ} b (after_heads nodes (c + 1) cs) begin) head

  part_next : (before : Part) (begin c : ℕ) (cs : List ℕ) (child : Node) → slice_get nodes c ≡ Some child → (before.head ≡ true → before.from ≡ after_heads nodes begin (c ∷ cs)) → is_head child.kind ≡ true →
      (part_of nodes node before begin (is_head child.kind) (is_behind node child) (c ∷ cs)).from ≡ after_heads nodes (c + 1) cs
  part_next before begin c cs child at goes head = by (begins before (is_head child.kind) (is_behind node child)) refl ∙ heads_over begin c cs child at head
    where
      by : (b : Bool) → begins before (is_head child.kind) (is_behind node child) ≡ b →
          (if◌then◌else◌ {A = Part} b (opened nodes node begin (is_head child.kind) (is_behind node child) (c ∷ cs)) (record { from = before.from; last = before.last; head = is_head child.kind; behind = is_behind node child })).from ≡ after_heads nodes begin (c ∷ cs)
      by true is = refl
      by false is = goes (no_begin (is_head child.kind) before.head (differ (is_behind node child) before.behind) is head)

-- ---- kinds

-- a declaration before a body
abbrev pub is_before_body : NodeKind → Bool
is_before_body kind.Decl = true
is_before_body k = is_type k

before_head : (k : NodeKind) → is_before_body k ≡ true → is_head k ≡ true
before_head kind.Decl e = refl
before_head kind.Simple e = refl
before_head kind.ListT e = refl
before_head kind.FieldsT e = refl
before_head kind.RoutineT e = refl
before_head kind.NameT e = refl
before_head _ e = absurd (true≢false (sym e))

before_inside : (k : NodeKind) → is_before_body k ≡ true → is_outside k ≡ false
before_inside kind.Decl e = refl
before_inside kind.Simple e = refl
before_inside kind.ListT e = refl
before_inside kind.FieldsT e = refl
before_inside kind.RoutineT e = refl
before_inside kind.NameT e = refl
before_inside _ e = absurd (true≢false (sym e))

-- it declares for its body
abbrev pub has_variables : NodeKind → Bool
has_variables kind.For = true
has_variables kind.When = true
has_variables kind.TagArm = true
has_variables kind.Others = true
has_variables _ = false

body_is : (k child : NodeKind) (n : ℕ) (r : Round) (part : Part) → has_variables k ≡ true → is_outside child ≡ false → (body_in k child n r part).0 ≡ part.from
body_is kind.For child n r part e inside = ap (λ (b : Bool). (if◌then◌else◌ {A = ℕ × ℕ} b (r.body_first, r.body_last) (part.from, part.last)).0) inside
body_is kind.When child n r part e inside = ap (λ (b : Bool). (if◌then◌else◌ {A = ℕ × ℕ} b (r.body_first, r.body_last) (part.from, part.last)).0) inside
body_is kind.TagArm child n r part e inside = ap (λ (b : Bool). (if◌then◌else◌ {A = ℕ × ℕ} b (r.body_first, r.body_last) (part.from, part.last)).0) inside
body_is kind.Others child n r part e inside = ap (λ (b : Bool). (if◌then◌else◌ {A = ℕ × ℕ} b (r.body_first, r.body_last) (part.from, part.last)).0) inside
body_is kind.File child n r part e inside = absurd (true≢false (sym e))
body_is _ child n r part e inside = absurd (true≢false (sym e))

-- ---- of a file

module _ (f : File) (of : IsFileOfTree f) where
  heads_after : (from to : ℕ) (roots : List ℕ) → IsForest f.nodes from roots to → from ≤ after_heads f.nodes from roots
  unfolding after_heads
  heads_after from to _ (none _) = omega arith
  heads_after from to _ (tree _ root _ its roots at inside behind) = by (head_at (slice_get f.nodes root)) (heads_after (root + 1) to roots behind)
    where
      by : (b : Bool) → root + 1 ≤ after_heads f.nodes (root + 1) roots → from ≤ (if b then after_heads f.nodes (root + 1) roots else from)
      by true more = let under : from ≤ root = forest_goes_on f.nodes from root its.children inside in omega (arith, more, under)
      by false more = omega arith

  record IsPartOf (p : ℕ) (node : Node) (c : ℕ) : Type 0 where
    child : Node
    at : slice_get f.nodes c ≡ Some child
    begin : ℕ
    part : Part
    is : round f c ≡ round_in f.nodes p node child (round f p) begin part
    after : is_head child.kind ≡ true → c < part.from

  parts_there : (p : ℕ) (node : Node) (before : Part) (from to : ℕ) (roots : List ℕ) → IsForest f.nodes from roots to → (before.head ≡ true → before.from ≡ after_heads f.nodes from roots) →
      map (round_at f.rounds) roots ≡ rounds_in f.nodes p node (round_at f.rounds p) before from roots → AllByRecursion (IsPartOf p node) roots
  unfolding rounds_in
  parts_there p node before from to _ (none _) goes e = tt
  parts_there p node before from to _ (tree _ root _ its roots at inside behind) goes e =
      let part : Part = child_part f.nodes node (slice_get f.nodes root) before from (root ∷ roots) in
      let head : round_at f.rounds root ≡ child_round f.nodes p node (slice_get f.nodes root) (round_at f.rounds p) from part = cc in
      let tail : map (round_at f.rounds) roots ≡ rounds_in f.nodes p node (round_at f.rounds p) part (root + 1) roots = cc in
      let same : part ≡ part_at f.nodes node its before from (root ∷ roots) = ap (λ (o : Option Node). child_part f.nodes node o before from (root ∷ roots)) at in
      let next : is_head its.kind ≡ true → part.from ≡ after_heads f.nodes (root + 1) roots = λ is. ap (λ (x : Part). x.from) same ∙ part_next f.nodes node before from root roots its at goes is in
      let its_head : part.head ≡ is_head its.kind = ap (λ (x : Part). x.head) same ∙ part_head f.nodes node before from (is_head its.kind) (is_behind node its) (root ∷ roots) in
      let more : root + 1 ≤ after_heads f.nodes (root + 1) roots = heads_after (root + 1) to roots behind in (
        record {
          child = its;
          at = at;
          begin = from;
          part = part;
          is = head ∙ ap (λ (o : Option Node). child_round f.nodes p node o (round_at f.rounds p) from part) at;
          after = λ is. let here : part.from ≡ after_heads f.nodes (root + 1) roots = next is in omega (arith, more, here);
        },
        parts_there p node part (root + 1) to roots behind (λ is. next (sym its_head ∙ is)) tail,
      )

  -- what declares for a body stands before it
  pub body_behind : (p : ℕ) (node : Node) → slice_get f.nodes p ≡ Some node → has_variables node.kind ≡ true → (c : ℕ) → IsIn c node.children → (child : Node) → slice_get f.nodes c ≡ Some child → is_before_body child.kind ≡ true → c < (round f c).body_first
  body_behind p node at declares c i child here before =
      let x : IsPartOf p node c = of_all (IsPartOf p node) c node.children
      (parts_there p node (first_part f.nodes node (round f p).first) (round f p).first p node.children (is_subtree f.nodes f.rounds of.tree of.surrounded of.ordered p node at) (λ is. refl) (of.surrounded.children_are p node at)) i in
      let same : x.child ≡ child = same_Some x.child child (sym x.at ∙ here) in
      let its : is_before_body x.child.kind ≡ true = ap (λ (m : Node). is_before_body m.kind) same ∙ before in
      let body : (round f c).body_first ≡ x.part.from = ap (λ (r : Round). r.body_first) x.is ∙ body_is node.kind x.child.kind p (round f p) x.part declares (before_inside x.child.kind its) in
      let after : c < x.part.from = x.after (before_head x.child.kind its) in
      omega (arith, body, after)
