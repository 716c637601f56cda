-- Types in the heading of the routine round a statement, and in the arm to which an exit goes, as the rules read them.
use Rattle.std.proofs.Common.{◌≡◌, ◌∙◌, ◌⊎◌, ℕ, zero, suc, ◌<◌, ◌≤◌, ◌||◌, ◌&&◌, if◌then◌else◌, Bool, true, false, List, [], ◌∷◌, cond, find, length, Option, Some, None, inl, inr, refl, sym, ap, subst, arith}
use Rattle.std.specs.Prelude.{bytes_eq, slice_get}
use Rattle.std.specs.List.{AllByRecursion, list_any}
use Rattle.std.specs.Option.{option_or}
use Rattle.std.proofs.lemmas.Bool.{true≢false, and_parts}
use Rattle.std.proofs.lemmas.Option.{none-some, same_Some, slice_get_within}
use Rattle.clu_tree.specs.declared.node.Node.{Node}
use Rattle.clu_tree.specs.declared.node.NodeKind.{NodeKind}
use Rattle.clu_tree.specs.declared.node.NodeKind.TheVariants as kind
use Rattle.clu_parser.specs.Shape.{forms}
use Rattle.clu_syntax.specs.Kinds.{is_of_heading, is_type, kind_at, kind_of}
use Rattle.clu_syntax.specs.Nodes.{before, item_to}
use Rattle.clu_syntax.specs.Rounds.{round_at}
use Rattle.clu_syntax.specs.Splits.{children_of, is_of, run}
use Rattle.clu_syntax.specs.Syntax.{Identifier}
use Rattle.clu_meaning.specs.Scoping.{Scope}
use Rattle.clu_checking.specs.Specifications.{Specification}
use Rattle.clu_checking.specs.Files.{File, children, kind_in, node_children, parent, round}
use Rattle.clu_name_rules.specs.declared.repeated.ListKind.TheVariants as list
use Rattle.clu_name_rules.specs.Words.{words_to}
use Rattle.clu_declares.proofs.Below.{same_kind}
use Rattle.clu_declares.proofs.Facts.{There, run_kinds, there}
use Rattle.clu_declares.proofs.Parents.{IsIn, kind_of_child, no_form, of_all}
use Rattle.clu_parts.proofs.Fitting.{children_before}
use Rattle.clu_type_rules.specs.declared.known.Known.{Known}
use Rattle.clu_type_rules.specs.declared.routines.Parts.{Parts}
use Rattle.clu_type_rules.specs.ExceptionRules as of_tables
use Rattle.clu_type_rules.specs.ExceptionRules.{arm_declarations, arm_for, arm_from, exception_named, first_named, signals_in}
use Rattle.clu_type_rules.specs.Known as its_known
use Rattle.clu_type_rules.specs.Objects.{names}
use Rattle.clu_type_rules.specs.Routines.{child_of_kind, parts_in, parts_of}
use Rattle.clu_type_rules.specs.StatementRules.{children_at, results_in, results_round}
use Rattle.clu_passes.specs.Clear.{IsOutside}
use Rattle.clu_passes.specs.ConstantTables.{file_with}
use Rattle.clu_passes.specs.Firsts.{AreItems}
use Rattle.clu_passes.specs.Losing.{is_definition, is_plain, walk_by}
use Rattle.clu_passes.specs.Notes.{HaveParents}
use Rattle.clu_passes.specs.OthersKnown.{AreRepsThere, IsArmDecl, IsArmType, IsBare, IsRepThere, IsTypeSeen, is_in_headings}
use Rattle.clu_passes.specs.Routines.{AreParts, StandInRoutines}
use Rattle.clu_passes.specs.Trees.{IsFileOfTree, is_of_constant}
use Rattle.clu_passes.proofs.ExitTypes.{in_run}
use Rattle.clu_passes.proofs.FirstItems.{item_is, word_found}
use Rattle.clu_passes.proofs.Known.{are_known, is_known, nodes_known}
use Rattle.clu_passes.proofs.Leaving as leaving
use Rattle.clu_passes.proofs.OfParents.{has_it}
use Rattle.clu_passes.proofs.OthersRounds.{bare_below, no_part_bare, of_routine, through}
use Rattle.clu_passes.proofs.OthersRoutines.{HasRoutine, begins_inside, routine_round}
use Rattle.clu_passes.proofs.RefusedBelow.{IsAlike, alike_to, not_definition}
use Rattle.clu_passes.proofs.StandTwice.{all_names, arms_are, exceptions_are}
use Rattle.clu_passes.proofs.ValuesKnown.{IsBelow, all_by, child_below}

-- ---- lists

kind_found : (nodes : List Node) (k : NodeKind) (cs : List ℕ) (s : ℕ) → child_of_kind nodes k cs ≡ Some s → IsIn s cs × (is_of k (kind_at nodes s) ≡ true)
kind_found nodes k [] s e = absurd (none-some s e)
kind_found nodes k (c ∷ cs) s e = by (is_of k (kind_at nodes c)) refl e (kind_found nodes k cs s)
  where
    by : (b : Bool) → is_of k (kind_at nodes c) ≡ b → if◌then◌else◌ {A = Option ℕ} b (Some c) (child_of_kind nodes k cs) ≡ Some s → (child_of_kind nodes k cs ≡ Some s → IsIn s cs × (is_of k (kind_at nodes s) ≡ true)) → IsIn s (c ∷ cs) × (is_of k (kind_at nodes s) ≡ true)
    by true is e goes = let same : c ≡ s = same_Some c s e in (inl same, subst (λ (x : ℕ). is_of k (kind_at nodes x) ≡ true) same is)
    by false is e goes = let more = goes e in (inr more.0, more.1)

find_in : (p : ℕ → Bool) (cs : List ℕ) (s : ℕ) → find p cs ≡ Some s → IsIn s cs × (p s ≡ true)
find_in p [] s e = absurd (none-some s e)
find_in p (c ∷ cs) s e = by (p c) refl e (find_in p cs s)
  where
    by : (b : Bool) → p c ≡ b → cond b (Some c) (find p cs) ≡ Some s → (find p cs ≡ Some s → IsIn s cs × (p s ≡ true)) → IsIn s (c ∷ cs) × (p s ≡ true)
    by true is e goes = let same : c ≡ s = same_Some c s e in (inl same, ap p (sym same) ∙ is)
    by false is e goes = let more = goes e in (inr more.0, more.1)

-- ---- kinds

results_types : (k : NodeKind) → (is_type k || no_form (forms kind.Results) k) ≡ true
unfolding no_form
results_types kind.File = refl
results_types _ = refl

exception_types : (k : NodeKind) → (is_type k || no_form (forms kind.Exc) k) ≡ true
unfolding no_form
exception_types kind.File = refl
exception_types _ = refl

-- ---- of a file

module _ (f : File) (of : IsFileOfTree f) (parents : HaveParents f) (reps : AreRepsThere f) (n : ℕ) (bare : IsBare f n) where
  no_index : (p : ℕ) (k : NodeKind) → kind_in f p ≡ k → is_of kind.Index k ≡ false → kind_in f p ≡ kind.Index → ⊥
  no_index p k is other index = true≢false (sym (ap (is_of kind.Index) index) ∙ ap (is_of kind.Index) is ∙ other)

  -- of these two kinds are its parent and the parent of that
  apart_from : (t s r : ℕ) (k j : NodeKind) → parent f t ≡ Some s → parent f s ≡ Some r → kind_in f s ≡ k → kind_in f r ≡ j → is_of kind.Index k ≡ false → is_of kind.Index j ≡ false → IsOutside f t
  apart_from t s r k j up over is round_is other outer = record {
    beside = λ p its index. no_index s k is other (ap (kind_in f) (same_Some s p (sym up ∙ its)) ∙ index);
    above = λ p q its tops index.
        let same : s ≡ p = same_Some s p (sym up ∙ its) in
        no_index r j round_is outer (ap (kind_in f) (same_Some r q (sym over ∙ ap (parent f) same ∙ tops)) ∙ index);
  }

  is_parent : (c p : ℕ) (node : Node) → slice_get f.nodes p ≡ Some node → IsIn c node.children → parent f c ≡ Some p
  is_parent c p node at i = parents.above p c (has_it c (children f p) (subst (IsIn c) (sym (ap (λ (o : Option Node). node_children f o) at)) i))

  -- ---- in the heading of the routine

  module _ (r : ℕ) (has : (round f n).routine ≡ Some r) where
    abbrev x : HasRoutine f of parents n r
    x = routine_round f of parents n r has

    routine_is : kind_in f r ≡ kind.Routine
    routine_is = ap kind_of x.at ∙ x.is

    of_heading : (s : ℕ) (snode : Node) → slice_get f.nodes s ≡ Some snode → is_plain snode.kind ≡ true → (round f s).heading ≡ true → (round f r).first ≤ s → s < r → (t : ℕ) → IsIn t snode.children → is_type (kind_in f t) ≡ true → IsOutside f t → IsTypeSeen f n t
    of_heading s snode at plain headed low less t i typed outside =
        let b : IsBelow f of s t = child_below f of s snode at t i in
        let first : (round f s).first ≤ (round f t).first = b.first in
        let least : (round f s).first ≤ t = b.least in
        let under : t < s = b.less in
        let begun : (round f r).first ≤ (round f s).first = begins_inside f of parents r x.node x.at x.is s low less in
        let inside : s < length f.nodes = slice_get_within f.nodes s snode at in
        let from_r : (round f r).first ≤ n = x.low in
        let to_r : n < r = x.less in
        let there_is : IsRepThere f n t = reps n t r routine_is from_r (omega (arith, to_r)) (omega (arith, begun, least)) (omega (arith, under, less)) in
        record {
          typed = typed;
          inside = omega (arith, under, inside);
          outside = outside;
          below = λ m from upto.
              let alike : IsAlike f of s snode at plain m = alike_to f of s snode at plain s m (omega (arith, first, from)) (omega (arith, upto, under)) (omega arith) in
              inr (ap (λ (b : Bool). walk_by b (round f m).heading) (not_definition (kind_in f m) alike.its_kind) ∙ ap (walk_by false) (alike.heading ∙ headed));
          home = λ cvt placed. there_is.home;
          rep = λ cvt placed. there_is.before;
        }

    -- ---- its results

    child_inside : (s : ℕ) → IsIn s x.node.children → ((round f r).first ≤ s) × (s < r)
    child_inside s i = let b : IsBelow f of r s = child_below f of r x.node x.at s i in (b.least, b.less)

    part_headed : (s : ℕ) (k : NodeKind) → IsIn s x.node.children → kind_in f s ≡ k → is_of_heading k ≡ true → (round f s).heading ≡ true
    part_headed s k i is asks = of_routine f of parents s r (is_parent s r x.node x.at i) routine_is (ap is_of_heading is ∙ asks)

    results_there : (s : ℕ) → IsIn s x.node.children → kind_in f s ≡ kind.Results → AllByRecursion (IsTypeSeen f n) (children_of (slice_get f.nodes s))
    results_there s i is = by (slice_get f.nodes s) refl
      where
        by : (o : Option Node) → slice_get f.nodes s ≡ o → AllByRecursion (IsTypeSeen f n) (children_of o)
        by None at = tt
        by (Some snode) at = all_by (IsTypeSeen f n) snode.children (λ t j.
            let kind_is : snode.kind ≡ kind.Results = sym (ap kind_of at) ∙ is in
            let within = child_inside s i in
            of_heading s snode at (ap is_plain kind_is) (part_headed s kind.Results i is refl) within.0 within.1 t j
            (kind_of_child f.nodes of.tree s snode at (of.shaped s snode at) t j is_type (λ k. ap (λ (i : NodeKind). is_type k || no_form (forms i) k) kind_is ∙ results_types k))
            (apart_from t s r kind.Results kind.Routine (is_parent t s snode at j) (is_parent s r x.node x.at i) is routine_is refl refl))

    -- ---- its exceptions

    exception_there : (s : ℕ) → IsIn s x.node.children → kind_in f s ≡ kind.Signals → (snode : Node) → slice_get f.nodes s ≡ Some snode → (c : ℕ) → IsIn c snode.children → kind_in f c ≡ kind.Exc → AllByRecursion (IsTypeSeen f n) (children_of (slice_get f.nodes c))
    exception_there s i is snode sat c j its = by (slice_get f.nodes c) refl
      where
        by : (o : Option Node) → slice_get f.nodes c ≡ o → AllByRecursion (IsTypeSeen f n) (children_of o)
        by None at = tt
        by (Some cnode) at = all_by (IsTypeSeen f n) cnode.children (λ t l.
            let kind_is : cnode.kind ≡ kind.Exc = sym (ap kind_of at) ∙ its in
            let within = child_inside s i in
            let begun : (round f r).first ≤ (round f s).first = begins_inside f of parents r x.node x.at x.is s within.0 within.1 in
            let b : IsBelow f of s c = child_below f of s snode sat c j in
            let least : (round f s).first ≤ c = b.least in
            let under : c < s = b.less in
            let less : s < r = within.1 in
            of_heading c cnode at (ap is_plain kind_is) (through f of parents c s (is_parent c s snode sat j) (ap is_definition is) (part_headed s kind.Signals i is refl))
            (omega (arith, begun, least)) (omega (arith, under, less)) t l
            (kind_of_child f.nodes of.tree c cnode at (of.shaped c cnode at) t l is_type (λ k. ap (λ (i : NodeKind). is_type k || no_form (forms i) k) kind_is ∙ exception_types k))
            (apart_from t c s kind.Exc kind.Signals (is_parent t c cnode at l) (is_parent c s snode sat j) its is refl refl))

  -- ---- the arm of an exit

  arm_there : (c : ℕ) → kind_in f c ≡ kind.When → (d : ℕ) → IsIn d (children_of (slice_get f.nodes c)) → kind_in f d ≡ kind.Decl → AllByRecursion (IsArmType f d) (children_of (slice_get f.nodes d))
  arm_there c is d i decl =
      let a : There f.nodes c kind.When = there f.nodes c kind.When refl is in
      let y : There f.nodes d kind.Decl = there f.nodes d kind.Decl refl decl in
      let plain : is_plain a.node.kind ≡ true = ap is_plain a.is in
      let in_arm : IsIn d a.node.children = subst (IsIn d) (ap children_of a.at) i in
      let b : IsBelow f of c d = child_below f of c a.node a.at d in_arm in
      let low : (round f c).first ≤ (round f d).first = b.first in
      let under : d < c = b.less in
      let its_bare : (round f c).heading ≡ false = no_part_bare f of parents c (ap is_of_constant is) (ap is_in_headings is) in
      subst (AllByRecursion (IsArmType f d)) (sym (ap children_of y.at)) (all_by (IsArmType f d) y.node.children (λ t j.
      let below : IsBelow f of d t = child_below f of d y.node y.at t j in
      let first : (round f d).first ≤ (round f t).first = below.first in
      let less : t < d = below.less in
      record {
        outside = record {
          beside = λ p up index. no_index d kind.Decl decl refl (ap (kind_in f) (same_Some d p (sym (is_parent t d y.node y.at j) ∙ up)) ∙ index);
          above = λ p q up over index. no_index c kind.When is refl (ap (kind_in f) (same_Some c q (sym (is_parent d c a.node a.at in_arm) ∙ ap (parent f) (same_Some d p (sym (is_parent t d y.node y.at j) ∙ up)) ∙ over)) ∙ index);
        };
        first = first;
        less = less;
        bare = λ m from upto. bare_below f of parents c a.node a.at plain its_bare m (omega (arith, low, first, from)) (omega (arith, upto, less, under));
      }))

-- ---- by the tables

module _ (k : Known) (scope : Scope) (library : List Specification) (refused : List ℕ) (of : IsFileOfTree (file_with k.tables.file scope library refused)) (parents : HaveParents (file_with k.tables.file scope library refused))
    (stand : StandInRoutines (file_with k.tables.file scope library refused)) (routines : AreParts (file_with k.tables.file scope library refused) k.routines.now.parts.items) (firsts : AreItems (file_with k.tables.file scope library refused) k.tables)
    (reps : AreRepsThere (file_with k.tables.file scope library refused)) (n : ℕ) (bare : IsBare (file_with k.tables.file scope library refused) n) where
  abbrev f : File
  f = file_with k.tables.file scope library refused

  abbrev nodes : List Node
  nodes = k.tables.file.syntax.now

  abbrev table : List (Option Parts)
  table = k.routines.now.parts.items

  abbrev words : List Identifier
  words = words_to k.tables.file.syntax.now (length k.tables.file.syntax.now)

  abbrev Seen : List ℕ → Type 0
  Seen ts = AllByRecursion (IsTypeSeen f n) ts

  parts_there : (r : ℕ) → (round f n).routine ≡ Some r → parts_in table (Some r) ≡ Some (parts_of (before r (item_to nodes r)) nodes r)
  parts_there r has = leaving.found f stand table routines r (stand n r has)

  in_node : (r : ℕ) (node : Node) → slice_get nodes r ≡ Some node → (s : ℕ) → IsIn s (children_of (slice_get nodes r)) → IsIn s node.children
  in_node r node at s i = subst (IsIn s) (ap children_of at) i

  pub results_seen : Seen (results_round k n)
  results_seen = by (round f n).routine refl
    where
      of_part : (r : ℕ) → (round f n).routine ≡ Some r → (o : Option ℕ) → child_of_kind nodes kind.Results (children_of (slice_get nodes r)) ≡ o → Seen (children_at k o)
      of_part r has None e = tt
      of_part r has (Some s) e =
          let y : HasRoutine f of parents n r = routine_round f of parents n r has in
          let it = kind_found nodes kind.Results (children_of (slice_get nodes r)) s e in
          results_there f of parents reps n bare r has s (in_node r y.node y.at s it.0) (same_kind kind.Results (kind_at nodes s) it.1)

      by : (o : Option ℕ) → (round f n).routine ≡ o → Seen (children_at k (results_in k (parts_in table o)))
      by None has = tt
      by (Some r) has = subst (λ (p : Option Parts). Seen (children_at k (results_in k p))) (sym (parts_there r has)) (of_part r has (child_of_kind nodes kind.Results (children_of (slice_get nodes r))) refl)

  -- ---- exceptions

  exception_seen : (name : Identifier) → is_known words name ≡ true → (c : ℕ) → exception_named k n name ≡ Some c → Seen (its_known.children k c)
  exception_seen name numbered c named = by (round f n).routine refl named
    where
      of_part : (r : ℕ) → (round f n).routine ≡ Some r → (o : Option ℕ) → child_of_kind nodes kind.Signals (children_of (slice_get nodes r)) ≡ o → first_named k list.Exceptions o (of_tables.number_of k name) ≡ Some c → Seen (its_known.children k c)
      of_part r has None e its = absurd (none-some c its)
      of_part r has (Some s) e its =
          let y : HasRoutine f of parents n r = routine_round f of parents n r has in
          let it = kind_found nodes kind.Signals (children_of (slice_get nodes r)) s e in
          let signals : kind_in f s ≡ kind.Signals = same_kind kind.Signals (kind_at nodes s) it.1 in
          let z : There nodes s kind.Signals = there nodes s kind.Signals refl signals in
          let got = find_in (λ (c : ℕ). is_of kind.Exc (kind_at nodes c) && list_any (bytes_eq name) (all_names nodes c)) (children_of (slice_get nodes s)) c
          (sym (ap (first_named k list.Exceptions (Some s)) (word_found f k.tables firsts all_names kind.Exc list.Exceptions exceptions_are refl refl name numbered)
          ∙ item_is f k.tables firsts all_names kind.Exc list.Exceptions exceptions_are refl refl s name numbered) ∙ its) in
          exception_there f of parents reps n bare r has s (in_node r y.node y.at s it.0) signals z.node z.at c (subst (IsIn c) (ap children_of z.at) got.0)
          (same_kind kind.Exc (kind_at nodes c) (and_parts (is_of kind.Exc (kind_at nodes c)) (list_any (bytes_eq name) (all_names nodes c)) got.1).0)

      by : (o : Option ℕ) → (round f n).routine ≡ o → first_named k list.Exceptions (signals_in (parts_in table o)) (of_tables.number_of k name) ≡ Some c → Seen (its_known.children k c)
      by None has its = absurd (none-some c its)
      by (Some r) has its =
          of_part r has (child_of_kind nodes kind.Signals (children_of (slice_get nodes r))) refl
          (ap (λ (p : Option Parts). first_named k list.Exceptions (signals_in p) (of_tables.number_of k name)) (sym (parts_there r has)) ∙ its)

  each_seen : (its : List Identifier) → are_known words its ≡ true → AllByRecursion (λ (name : Identifier). (c : ℕ) → exception_named k n name ≡ Some c → Seen (its_known.children k c)) its
  each_seen [] all = tt
  each_seen (name ∷ its) all = (exception_seen name (and_parts (is_known words name) (are_known words its) all).0, each_seen its (and_parts (is_known words name) (are_known words its) all).1)

  pub exceptions_seen : AllByRecursion (λ (name : Identifier). (c : ℕ) → exception_named k n name ≡ Some c → Seen (its_known.children k c)) (names k n)
  exceptions_seen = each_seen (names k n) (nodes_known nodes (length nodes) n bare.inside)

  -- ---- arms

  option_either : (a b : Option ℕ) (c : ℕ) → option_or a b ≡ Some c → (a ≡ Some c) ⊎ (b ≡ Some c)
  option_either None b c e = inr e
  option_either (Some x) b c e = inl e

  arm_kind : (name : Identifier) → is_known words name ≡ true → (steps : ℕ) (guard : Option ℕ) (c : ℕ) → arm_from k (of_tables.number_of k name) guard steps ≡ Some c → kind_in f c ≡ kind.When
  arm_kind name numbered steps None c e = absurd (none-some c e)
  arm_kind name numbered zero (Some e) c is = absurd (none-some c is)
  arm_kind name numbered (suc steps) (Some e) c is = elim (option_either (first_named k list.WhenArms (Some e) (of_tables.number_of k name)) (arm_from k (of_tables.number_of k name) (round_at k.tables.file.rounds.now e).guard steps) c is) [
    | inl here ↦
        (let got = find_in (λ (c : ℕ). is_of kind.When (kind_at nodes c) && list_any (bytes_eq name) (all_names nodes c)) (children_of (slice_get nodes e)) c
        (sym (ap (first_named k list.WhenArms (Some e)) (word_found f k.tables firsts all_names kind.When list.WhenArms arms_are refl refl name numbered)
        ∙ item_is f k.tables firsts all_names kind.When list.WhenArms arms_are refl refl e name numbered) ∙ here) in
        same_kind kind.When (kind_at nodes c) (and_parts (is_of kind.When (kind_at nodes c)) (list_any (bytes_eq name) (all_names nodes c)) got.1).0)
    | inr outer ↦ arm_kind name numbered steps (round_at k.tables.file.rounds.now e).guard c outer
  ]

  named_kind : (its : List Identifier) → are_known words its ≡ true → (c : ℕ) → of_tables.arm_named k n its ≡ Some c → kind_in f c ≡ kind.When
  named_kind [] all c e = absurd (none-some c e)
  named_kind (name ∷ its) all c e = arm_kind name (and_parts (is_known words name) (are_known words its) all).0 (length k.tables.file.rounds.now) (round_at k.tables.file.rounds.now n).guard c e

  all_decls : (c : ℕ) → kind_in f c ≡ kind.When → (ds : List ℕ) → ((d : ℕ) → IsIn d ds → IsArmDecl f k d) → AllByRecursion (IsArmDecl f k) ds
  all_decls c is ds each = all_by (IsArmDecl f k) ds each

  pub arms_seen : (c : ℕ) → arm_for k n ≡ Some c → AllByRecursion (IsArmDecl f k) (arm_declarations k c)
  arms_seen c arm =
      let is : kind_in f c ≡ kind.When = named_kind (names k n) (nodes_known nodes (length nodes) n bare.inside) c arm in
      let a : There nodes c kind.When = there nodes c kind.When refl is in
      all_decls c is (arm_declarations k c) (λ d i.
      let in_all : IsIn d (children_of (slice_get nodes c)) = in_run nodes kind.Decl d (children_of (slice_get nodes c)) i in
      let kinds = run_kinds nodes kind.Decl c a.node.children (children_before nodes of.tree c a.node a.at) in
      let among : IsIn d (run nodes kind.Decl a.node.children) = subst (λ (o : Option Node). IsIn d (run nodes kind.Decl (children_of o))) a.at i in
      let decl : kind_in f d ≡ kind.Decl = same_kind kind.Decl (kind_at nodes d) (of_all (λ (x : ℕ). (x < c) × (is_of kind.Decl (kind_at nodes x) ≡ true)) d (run nodes kind.Decl a.node.children) kinds among).1 in
      record { is = decl; types = arm_there f of parents reps n bare c is d in_all decl })
