-- Below a node that is neither the file nor a module, routine or cluster all stands on its walk; so a type that is refused there is a
-- fault before it.
use Rattle.std.proofs.Common.{◌≡◌, ◌∙◌, ◌⊎◌, ℕ, zero, suc, ◌+◌, ◌-◌, ◌<◌, ◌≤◌, ◌||◌, not, if◌then◌else◌, Bool, true, false, List, [], ◌∷◌, length, map, is_some, Option, Some, None, inl, inr, refl, sym, ap, subst, arith}
use Rattle.std.specs.Prelude.{slice_get}
use Rattle.std.specs.List.{AllByRecursion}
use Rattle.std.proofs.lemmas.Bool.{true≢false, cases_lt}
use Rattle.std.proofs.lemmas.Option.{same_Some, slice_get_within}
use Rattle.clu_base.specs.declared.rules.Rule.{Rule}
use Rattle.clu_tree.specs.declared.node.Node.{Node}
use Rattle.clu_tree.specs.declared.node.NodeKind.{NodeKind}
use Rattle.clu_tree.specs.declared.node.NodeKind.TheVariants as kind
use Rattle.clu_parser.specs.Order.{IsForest, none, tree}
use Rattle.clu_syntax.specs.declared.bodies.Part.{Part}
use Rattle.clu_syntax.specs.declared.round.Round.{Round}
use Rattle.clu_syntax.specs.Kinds.{kind_at, kind_of}
use Rattle.clu_syntax.specs.Rounds.{AreRounds, round_at, rounds_in, child_round, child_part, heading_in}
use Rattle.clu_syntax.specs.Bodies.{first_part}
use Rattle.clu_syntax.specs.Splits.{is_of}
use Rattle.clu_parts.proofs.Fitting.{AreBefore, children_before}
use Rattle.clu_declares.proofs.Around.{there}
use Rattle.clu_declares.proofs.Facts.{further}
use Rattle.clu_declares.proofs.Parents.{IsIn, of_all, HasParent, child_before, never_file, file_of_module, module_of_cluster, round_routine}
use Rattle.clu_checking.specs.Files.{File, kind_in, round}
use Rattle.clu_checking.specs.Refusals.{Walk, fault_at, is_no_type_at}
use Rattle.clu_passes.specs.Agreeing.{AgreeAt}
use Rattle.clu_passes.specs.Losing.{is_definition, is_plain, IsPlain, walk_by, walk_of, HasRefusedBelow, AreNotRefused}
use Rattle.clu_passes.specs.Trees.{IsFileOfTree}
use Rattle.clu_passes.proofs.CvtPlaces.{HasParentIn, parent_in}
use Rattle.clu_passes.proofs.Within.{forest_goes_on}
use Rattle.clu_passes.proofs.RefusedFaults.{refused_faulty}
use Rattle.clu_passes.proofs.Subtrees.{AreFirst, firsts_of, is_subtree}

-- ---- the first number that passes a test

record First (p : ℕ → Bool) (a b : ℕ) : Type 0 where
  number : ℕ
  from : a ≤ number
  before : number < b
  passes : p number ≡ true
  others : (j : ℕ) → a ≤ j → j < number → p j ≡ false

first_from : (p : ℕ → Bool) (len a m : ℕ) → a ≤ m → m < a + len → p m ≡ true → First p a (a + len)
first_from p zero a m l h e = absurd (omega (arith, l, h))
first_from p (suc len) a m l h e = by (p a) refl (λ more. first_from p len (a + 1) m more (omega (arith, h)) e)
  where
    later : p a ≡ false → First p (a + 1) (a + 1 + len) → First p a (a + suc len)
    later not x =
        let low : a + 1 ≤ x.number = x.from in
        let high : x.number < a + 1 + len = x.before in
        record {
          number = x.number;
          from = omega (arith, low);
          before = omega (arith, high);
          passes = x.passes;
          others = λ j from before. elim (cases_lt a j) [
            | inl more ↦ x.others j (omega (arith, more)) before
            | inr back ↦ let same : j ≡ a = omega (arith, from, back) in ap p same ∙ not
          ];
        }

    by : (b : Bool) → p a ≡ b → (a + 1 ≤ m → First p (a + 1) (a + 1 + len)) → First p a (a + suc len)
    by true is goes = record { number = a; from = omega arith; before = omega arith; passes = is; others = λ j from before. absurd (omega (arith, from, before)) }
    by false is goes = later is (goes (elim (cases_lt a m) [
      | inl more ↦ omega (arith, more)
      | inr back ↦ let same : a ≡ m = omega (arith, l, back) in absurd (true≢false (sym e ∙ ap p (sym same) ∙ is))
    ]))

-- ---- what stands below

pub not_definition : (k : NodeKind) → is_plain k ≡ true → is_definition k ≡ false
not_definition kind.Module e = absurd (true≢false (sym e))
not_definition kind.Routine e = absurd (true≢false (sym e))
not_definition kind.Cluster e = absurd (true≢false (sym e))
not_definition kind.File e = absurd (true≢false (sym e))
not_definition _ e = refl

heading_plain : (k : NodeKind) (child : Node) (r : Round) → is_plain k ≡ true → heading_in k child r ≡ r.heading
heading_plain kind.Module child r e = absurd (true≢false (sym e))
heading_plain kind.Routine child r e = absurd (true≢false (sym e))
heading_plain kind.Cluster child r e = absurd (true≢false (sym e))
heading_plain kind.File child r e = absurd (true≢false (sym e))
heading_plain _ child r e = refl

no_file : (k : NodeKind) → is_plain k ≡ true → is_of kind.File k ≡ false
no_file kind.File e = absurd (true≢false (sym e))
no_file _ e = refl

no_module : (k : NodeKind) → is_plain k ≡ true → is_of kind.Module k ≡ false
no_module kind.Module e = absurd (true≢false (sym e))
no_module kind.File e = refl
no_module _ e = refl

no_unit : (k : NodeKind) → is_plain k ≡ true → (is_of kind.Module k || is_of kind.Cluster k) ≡ false
no_unit kind.Module e = absurd (true≢false (sym e))
no_unit kind.Cluster e = absurd (true≢false (sym e))
no_unit kind.File e = refl
no_unit _ e = refl

-- a child, and whether it is in a heading
module _ (nodes : List Node) (rounds : List Round) (n : ℕ) (node : Node) where
  pub record IsHeaded (c : ℕ) : Type 0 where
    pub its : Node
    pub at : slice_get nodes c ≡ Some its
    pub heading : (round_at rounds c).heading ≡ heading_in node.kind its (round_at rounds n)

  pub headed_in : (before : Part) (first : ℕ) (cs : List ℕ) → AreBefore (length nodes) cs → map (round_at rounds) cs ≡ rounds_in nodes n node (round_at rounds n) before first cs → AllByRecursion IsHeaded cs
  unfolding rounds_in
  headed_in before first [] l e = tt
  headed_in before first (c ∷ cs) l e =
      let part : Part = child_part nodes node (slice_get nodes c) before first (c ∷ cs) in
      let head : round_at rounds c ≡ child_round nodes n node (slice_get nodes c) (round_at rounds n) first part = cc in
      let tail : map (round_at rounds) cs ≡ rounds_in nodes n node (round_at rounds n) part (c + 1) cs = cc in
      let m = there nodes c l.0 in
      let its_round : round_at rounds c ≡ child_round nodes n node (Some m.0) (round_at rounds n) first part = head ∙ ap (λ (o : Option Node). child_round nodes n node o (round_at rounds n) first part) m.1 in
      (record { its = m.0; at = m.1; heading = ap (λ (r : Round). r.heading) its_round }, headed_in part (c + 1) cs l.1 tail)

module _ (f : File) (of : IsFileOfTree f) where
  pub each_headed : (n : ℕ) (node : Node) → slice_get f.nodes n ≡ Some node → AllByRecursion (IsHeaded f.nodes f.rounds n node) node.children
  each_headed n node at =
      let inside : n < length f.nodes = slice_get_within f.nodes n node at in
      headed_in f.nodes f.rounds n node (first_part f.nodes node (round f n).first) (round f n).first node.children
      (further n (length f.nodes) node.children (omega (arith, inside)) (children_before f.nodes of.tree n node at)) (of.surrounded.children_are n node at)

  -- no node begins before the one below which it stands
  pub begins_in : (from to : ℕ) (roots : List ℕ) → IsForest f.nodes from roots to → AreFirst f.rounds from roots → (c : ℕ) → from ≤ c → c < to → from ≤ (round f c).first
  begins_in from to _ (none _) firsts c l m = absurd (omega (arith, l, m))
  begins_in from to _ (tree _ root _ its roots at inside behind) firsts c l m = elim (cases_lt c root) [
    | inl less ↦ begins_in from root its.children inside (subst (λ (first : ℕ). AreFirst f.rounds first its.children) firsts.0 (firsts_of f.nodes f.rounds of.tree of.surrounded root its at)) c l less
    | inr upto ↦ elim (cases_lt root c) [
      | inl after ↦ let low : root + 1 ≤ (round f c).first = begins_in (root + 1) to roots behind firsts.1 c (omega (arith, after)) m in let under : from ≤ root = omega (arith, forest_goes_on f.nodes from root its.children inside) in omega (arith, low, under)
      | inr back ↦ let same : root ≡ c = omega (arith, upto, back) in let first : (round f c).first ≡ from = ap (λ (k : ℕ). (round f k).first) (sym same) ∙ firsts.0 in omega (arith, first)
    ]
  ]

  module _ (n : ℕ) (node : Node) (at : slice_get f.nodes n ≡ Some node) (plain : IsPlain node.kind) where
    pub begins : (c : ℕ) → (round f n).first ≤ c → c < n → (round f n).first ≤ (round f c).first
    begins = begins_in (round f n).first n node.children (is_subtree f.nodes f.rounds of.tree of.surrounded of.ordered n node at) (firsts_of f.nodes f.rounds of.tree of.surrounded n node at)

    pub record IsAlike (c : ℕ) : Type 0 where
      pub its_kind : IsPlain (kind_in f c)
      pub heading : (round f c).heading ≡ (round f n).heading

    child_plain : (c : ℕ) (q : HasParent f.nodes c) → IsPlain q.node.kind → (k : NodeKind) → kind_in f c ≡ k → is_plain k ≡ true
    child_plain c q up kind.File is = absurd (never_file f.nodes of.tree q.parent q.node q.at (of.shaped q.parent q.node q.at) c q.child is)
    child_plain c q up kind.Module is = absurd (true≢false (sym (file_of_module f.nodes of.tree q.parent q.node q.at (of.shaped q.parent q.node q.at) c q.child is) ∙ no_file q.node.kind up))
    child_plain c q up kind.Cluster is = absurd (true≢false (sym (module_of_cluster f.nodes of.tree q.parent q.node q.at (of.shaped q.parent q.node q.at) c q.child is) ∙ no_module q.node.kind up))
    child_plain c q up kind.Routine is = absurd (true≢false (sym (round_routine f.nodes of.tree q.parent q.node q.at (of.shaped q.parent q.node q.at) c q.child is) ∙ no_unit q.node.kind up))
    child_plain c q up _ is = refl

    child_alike : (c : ℕ) (q : HasParent f.nodes c) → IsAlike q.parent → IsAlike c
    child_alike c q up =
        let its_plain : IsPlain q.node.kind = subst IsPlain (ap kind_of q.at) up.its_kind in
        let x : IsHeaded f.nodes f.rounds q.parent q.node c = of_all (IsHeaded f.nodes f.rounds q.parent q.node) c q.node.children (each_headed q.parent q.node q.at) q.child in
        record { its_kind = child_plain c q its_plain (kind_in f c) refl; heading = x.heading ∙ heading_plain q.node.kind x.its (round f q.parent) its_plain ∙ up.heading }

    self_alike : IsAlike n
    self_alike = record { its_kind = subst IsPlain (sym (ap kind_of at)) plain; heading = refl }

    pub alike_to : (d c : ℕ) → (round f n).first ≤ c → c < n → n ≤ c + d → IsAlike c
    alike_to zero c l m h = absurd (omega (arith, m, h))
    alike_to (suc d) c l m h =
        let p = parent_in f of n node at c l m in
        let q = p.parent_is in
        let less : c < q.parent = child_before f.nodes of.tree q.parent q.node q.at (of.shaped q.parent q.node q.at) c q.child in
        let low : (round f n).first ≤ q.parent = p.above in
        let high : q.parent ≤ n = p.below_it in
        child_alike c q (elim (cases_lt q.parent n) [
          | inl inner ↦ alike_to d q.parent low inner (omega (arith, less, h))
          | inr outer ↦ let same : n ≡ q.parent = omega (arith, outer, high) in subst IsAlike same self_alike
        ])

    pub walk_same : (c : ℕ) → (round f n).first ≤ c → c < n → walk_of f c ≡ walk_of f n
    walk_same c l m =
        let x : IsAlike c = alike_to n c l m (omega arith) in
        let mine : IsAlike n = self_alike in
        ap (λ (b : Bool). walk_by b (round f c).heading) (not_definition (kind_in f c) x.its_kind)
        ∙ ap (walk_by false) x.heading
        ∙ sym (ap (λ (b : Bool). walk_by b (round f n).heading) (not_definition (kind_in f n) mine.its_kind))

  lost_at : (n : ℕ) (its : Option Node) → slice_get f.nodes n ≡ its → IsPlain (kind_of its) → (first : ℕ → Option Rule) → ((m : ℕ) → m < length f.nodes → is_no_type_at f m ≡ true → AreNotRefused f m → first m ≡ fault_at f (walk_of f m) m) → HasRefusedBelow f n → AgreeAt first (fault_at f (walk_of f n)) n
  lost_at n None at plain first same r = absurd (true≢false (sym plain))
  lost_at n (Some node) at plain first same r =
      let inside : n < length f.nodes = slice_get_within f.nodes n node at in
      let from : (round f n).first ≤ r.node = r.first in
      let before : r.node < n = r.before in
      let x : First (is_no_type_at f) (round f n).first ((round f n).first + (n - (round f n).first)) = first_from (is_no_type_at f) (n - (round f n).first) (round f n).first r.node from (omega (arith, from, before)) r.refused in
      let low : (round f n).first ≤ x.number = x.from in
      let high : x.number < (round f n).first + (n - (round f n).first) = x.before in
      let less : x.number < n = omega (arith, low, high, from, before) in
      let least : (round f n).first ≤ (round f x.number).first = begins n node at plain x.number low less in
      let found : first x.number ≡ fault_at f (walk_of f x.number) x.number = same x.number (omega (arith, less, inside)) x.passes (λ j l m. x.others j (omega (arith, l, least)) m) in
      inr (record {
        node = x.number;
        before = less;
        same = found ∙ ap (λ (w : Walk). fault_at f w x.number) (walk_same n node at plain x.number low less);
        found = ap is_some found ∙ refused_faulty f x.number x.passes;
      })

pub agree_where_lost : (f : File) → IsFileOfTree f → (n : ℕ) → IsPlain (kind_in f n) → (first : ℕ → Option Rule) → ((m : ℕ) → m < length f.nodes → is_no_type_at f m ≡ true → AreNotRefused f m → first m ≡ fault_at f (walk_of f m) m) → HasRefusedBelow f n → AgreeAt first (fault_at f (walk_of f n)) n
agree_where_lost f of n plain first same r = lost_at f of n (slice_get f.nodes n) refl plain first same r
