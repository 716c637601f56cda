-- Rules over tables that are right at each node agree with the definitions in equates and on both walks, up to the first fault.
use Rattle.std.proofs.Common.{◌≡◌, ◌∙◌, ℕ, ◌<◌, ◌≤◌, Bool, true, false, if◌then◌else◌, List, [], ◌∷◌, length, is_some, Option, Some, None, inl, inr, refl, sym, ap, subst, arith}
use Rattle.std.specs.Prelude.{slice_get}
use Rattle.std.specs.List.{AllByRecursion}
use Rattle.std.proofs.lemmas.Bool.{true≢false, cases_lt, and_from}
use Rattle.std.proofs.lemmas.Option.{none-some, same_Some, slice_get_within}
use Rattle.clu_base.specs.declared.rules.Rule.{Rule}
use Rattle.clu_tree.specs.declared.node.Node.{Node}
use Rattle.clu_tree.specs.declared.node.NodeKind.{NodeKind}
use Rattle.clu_tree.specs.declared.node.NodeKind.TheVariants as kind
use Rattle.clu_syntax.specs.Items.{Item}
use Rattle.clu_syntax.specs.Kinds.{kind_of}
use Rattle.clu_syntax.specs.Splits.{is_of}
use Rattle.clu_syntax.specs.Syntax.{Identifier}
use Rattle.clu_meaning.specs.Scoping.{Scope}
use Rattle.clu_checking.specs.Specifications.{Specification}
use Rattle.clu_checking.specs.Files.{File, is_kind, is_kind_at, kind_in, node_children, parent, round, stands_in}
use Rattle.clu_checking.specs.Equates.{is_bad_name, names_unfolded}
use Rattle.clu_checking.specs.Rules as definition
use Rattle.clu_checking.specs.Rules.{all_rules, least}
use Rattle.clu_checking.specs.Refusals.{Walk, fault_at, first_on, headings, is_bad, rest, rules_by}
use Rattle.clu_head.specs.There.{is_there}
use Rattle.clu_bindings.specs.Files as bound
use Rattle.clu_declares.proofs.Below.{same_kind}
use Rattle.clu_declares.proofs.Facts.{There, there}
use Rattle.clu_type_rules.specs.declared.known.Known.{Known}
use Rattle.clu_type_rules.specs.Asked.{rules_at, rules_of_headings, rules_of_rest}
use Rattle.clu_type_rules.specs.Rules.{violates}
use Rattle.clu_passes.specs.Bound.{AreBadDecls}
use Rattle.clu_passes.specs.ConstantTables.{file_with}
use Rattle.clu_passes.specs.Losing.{is_plain, walk_by, walk_of}
use Rattle.clu_passes.specs.Notes.{HaveParents, has}
use Rattle.clu_passes.specs.Refusing.{AgreeInEquates, AgreeInHeadings, AgreeInRest, AgreeOn, IsOrder, bits_in, has_fault}
use Rattle.clu_passes.specs.Right.{AreRight, AreStraight, AreTypesBad, IsFirst, IsQuiet}
use Rattle.clu_passes.specs.Trees.{IsFileOfTree, is_of_constant}
use Rattle.clu_passes.specs.Turns.{arm_declared, bit}
use Rattle.clu_passes.proofs.BadEquates.{names_are}
use Rattle.clu_passes.proofs.ValuesKnown.{IsBelow, child_below}
use Rattle.clu_passes.proofs.ByKinds.{least_at}
use Rattle.clu_passes.proofs.ClearBelow.{equate_inside, from_below, from_equate, no_declaration_in, outside_brackets}
use Rattle.clu_passes.proofs.FaultsFound.{agree_of_headings, agree_of_rest, arms_by_tables}
use Rattle.clu_passes.proofs.InEquates.{in_declarations}
use Rattle.clu_passes.proofs.OfParents.{is_in}
use Rattle.clu_passes.proofs.OwnPlaces.{there_is}
use Rattle.clu_passes.proofs.ReadBits.{faults_alone}
use Rattle.clu_passes.proofs.RefusedBelow.{IsAlike, alike_to, not_definition, walk_same}
use Rattle.clu_passes.proofs.RefusedFaults.{bad_more}
use Rattle.clu_passes.proofs.RightBits as right_bits
use Rattle.clu_passes.proofs.StepsEnough.{in_equate}
use Rattle.clu_passes.proofs.Subtrees.{is_subtree}
use Rattle.clu_passes.proofs.Within.{forest_goes_on}

-- ---- kinds

all_asked : (k : NodeKind) → is_plain k ≡ true → (heading : Bool) → rules_by k (walk_by false heading) heading ≡ all_rules
all_asked kind.Module e heading = absurd (true≢false (sym e))
all_asked kind.Routine e heading = absurd (true≢false (sym e))
all_asked kind.Cluster e heading = absurd (true≢false (sym e))
all_asked kind.File e heading = absurd (true≢false (sym e))
all_asked _ e true = refl
all_asked _ e false = refl

in_heading : (k : NodeKind) → is_plain k ≡ true → rules_of_headings k true ≡ rules_at k
in_heading kind.Module e = absurd (true≢false (sym e))
in_heading kind.Routine e = absurd (true≢false (sym e))
in_heading kind.Cluster e = absurd (true≢false (sym e))
in_heading kind.File e = absurd (true≢false (sym e))
in_heading _ e = refl

no_heading : (k : NodeKind) → is_plain k ≡ true → rules_of_headings k false ≡ []
no_heading kind.Module e = absurd (true≢false (sym e))
no_heading kind.Routine e = absurd (true≢false (sym e))
no_heading kind.Cluster e = absurd (true≢false (sym e))
no_heading kind.File e = absurd (true≢false (sym e))
no_heading _ e = refl

in_rest : (k : NodeKind) → is_plain k ≡ true → rules_of_rest k false ≡ rules_at k
in_rest kind.Module e = absurd (true≢false (sym e))
in_rest kind.Routine e = absurd (true≢false (sym e))
in_rest kind.Cluster e = absurd (true≢false (sym e))
in_rest kind.File e = absurd (true≢false (sym e))
in_rest _ e = refl

no_rest : (k : NodeKind) → is_plain k ≡ true → rules_of_rest k true ≡ []
no_rest kind.Module e = absurd (true≢false (sym e))
no_rest kind.Routine e = absurd (true≢false (sym e))
no_rest kind.Cluster e = absurd (true≢false (sym e))
no_rest kind.File e = absurd (true≢false (sym e))
no_rest _ e = refl

-- the walks are two
is_headings : Walk → Bool
is_headings headings = true
is_headings rest = false

other_walk : headings ≡ rest → ⊥
unfolding is_headings
other_walk e = true≢false (ap is_headings e)

none_found : (o : Option Rule) → is_some o ≡ false → o ≡ None
none_found None e = refl
none_found (Some r) e = absurd (true≢false e)

-- ---- what stands before a node on its walk

module _ (f : File) (of : IsFileOfTree f) (parents : HaveParents f) where
  record IsChild (n p : ℕ) : Type 0 where
    node : Node
    at : slice_get f.nodes p ≡ Some node
    below : IsBelow f of p n

  child_of : (n p : ℕ) → parent f n ≡ Some p → IsChild n p
  child_of n p up = by (slice_get f.nodes p) refl
    where
      by : (o : Option Node) → slice_get f.nodes p ≡ o → IsChild n p
      by None at = absurd (true≢false (sym (parents.below p n up) ∙ ap (λ (o : Option Node). has n (node_children f o)) at))
      by (Some node) at = record { node = node; at = at; below = child_below f of p node at n (is_in n node.children (sym (ap (λ (o : Option Node). has n (node_children f o)) at) ∙ parents.below p n up)) }

  module _ (n : ℕ) (before : (m : ℕ) → m < n → fault_at f (walk_of f n) m ≡ None) where
    -- of what stands in a node that is on the walk with it
    quiet_in : (top : ℕ) (node : Node) → slice_get f.nodes top ≡ Some node → is_plain node.kind ≡ true → (round f top).first ≤ n → n ≤ top → (m : ℕ) → (round f top).first ≤ m → m < n → least (definition.violates f (is_bad f) m) (rules_at (kind_in f m)) ≡ None
    quiet_in top node at plain least_n most m low less =
        let same : walk_of f n ≡ walk_of f top = elim (cases_lt n top) [
          | inl under ↦ walk_same f of top node at plain n least_n under
          | inr over ↦ let here : n ≡ top = omega (arith, most, over) in ap (walk_of f) here
        ] in
        let beneath : m < top = omega (arith, less, most) in
        let alike : IsAlike f of top node at plain m = alike_to f of top node at plain top m low beneath (omega arith) in
        let its : walk_of f m ≡ walk_of f n = walk_same f of top node at plain m low beneath ∙ sym same in
        let walk : walk_of f m ≡ walk_by false (round f m).heading = ap (λ (b : Bool). walk_by b (round f m).heading) (not_definition (kind_in f m) alike.its_kind) in
        sym (least_at f of (is_bad f) m)
        ∙ sym (ap (least (definition.violates f (is_bad f) m)) (ap (λ (w : Walk). rules_by (kind_in f m) w (round f m).heading) walk ∙ all_asked (kind_in f m) alike.its_kind (round f m).heading))
        ∙ ap (λ (w : Walk). fault_at f w m) its
        ∙ before m less

    module _ (node : Node) (at : slice_get f.nodes n ≡ Some node) (plain : is_plain node.kind ≡ true) where
      abbrev Quiet : Type 0
      Quiet = IsQuiet f (is_bad f) n

      index_plain : (p : ℕ) (x : Node) → slice_get f.nodes p ≡ Some x → kind_in f p ≡ kind.Index → is_plain x.kind ≡ true
      index_plain p x here is = ap is_plain (sym (ap kind_of here) ∙ is)

      its_first : (round f n).first ≤ n
      its_first = forest_goes_on f.nodes (round f n).first n node.children (is_subtree f.nodes f.rounds of.tree of.surrounded of.ordered n node at)

      -- in no brackets
      alone : ((p : ℕ) → parent f n ≡ Some p → kind_in f p ≡ kind.Index → ⊥) → ((p q : ℕ) → parent f n ≡ Some p → parent f p ≡ Some q → kind_in f q ≡ kind.Index → ⊥) → Quiet
      alone beside above = record {
        low = (round f n).first;
        from = record { own = omega arith; brackets = λ p up is. absurd (beside p up is); above = λ p q up over is. absurd (above p q up over is) };
        quiet = quiet_in n node at plain its_first (omega arith);
      }

      -- its parent is in brackets
      outer : (p q : ℕ) → parent f n ≡ Some p → parent f p ≡ Some q → kind_in f q ≡ kind.Index → Quiet
      outer p q up over is =
          let x : IsChild n p = child_of n p up in
          let y : IsChild p q = child_of p q over in
          let a : (round f p).first ≤ (round f n).first = x.below.first in
          let b : (round f q).first ≤ (round f p).first = y.below.first in
          let c : n < p = x.below.less in
          let d : p < q = y.below.less in
          let e : (round f n).first ≤ n = its_first in
          record {
            low = (round f q).first;
            from = record {
              own = omega (arith, a, b);
              brackets = λ other its hit. let same : p ≡ other = same_Some p other (sym up ∙ its) in subst (λ (i : ℕ). (round f q).first ≤ (round f i).first) same b;
              above = λ other top its tops hit. let same : p ≡ other = same_Some p other (sym up ∙ its) in
                  let same_top : q ≡ top = same_Some q top (sym over ∙ ap (parent f) same ∙ tops) in
                  subst (λ (i : ℕ). (round f q).first ≤ (round f i).first) same_top (omega arith);
            };
            quiet = quiet_in q y.node y.at (index_plain q y.node y.at is) (omega (arith, a, b, e)) (omega (arith, c, d));
          }

      -- it is in brackets itself
      inner : (p : ℕ) → parent f n ≡ Some p → kind_in f p ≡ kind.Index → ((q : ℕ) → parent f p ≡ Some q → kind_in f q ≡ kind.Index → ⊥) → Quiet
      inner p up is none_above =
          let x : IsChild n p = child_of n p up in
          let a : (round f p).first ≤ (round f n).first = x.below.first in
          let c : n < p = x.below.less in
          let e : (round f n).first ≤ n = its_first in
          record {
            low = (round f p).first;
            from = record {
              own = a;
              brackets = λ other its hit. let same : p ≡ other = same_Some p other (sym up ∙ its) in subst (λ (i : ℕ). (round f p).first ≤ (round f i).first) same (omega arith);
              above = λ other top its tops hit. let same : p ≡ other = same_Some p other (sym up ∙ its) in absurd (none_above top (ap (parent f) same ∙ tops) hit);
            };
            quiet = quiet_in p x.node x.at (index_plain p x.node x.at is) (omega (arith, a, e)) (omega (arith, c));
          }

      by_parent : (o : Option ℕ) → parent f n ≡ o → Quiet
      by_parent None up = alone (λ p its is. none-some p (sym up ∙ its)) (λ p q its over is. none-some p (sym up ∙ its))
      by_parent (Some p) up = by_above (parent f p) refl
        where
          its_parent : (other : ℕ) → parent f n ≡ Some other → p ≡ other
          its_parent other its = same_Some p other (sym up ∙ its)

          by_own : ((q : ℕ) → parent f p ≡ Some q → kind_in f q ≡ kind.Index → ⊥) → (b : Bool) → is_kind f kind.Index p ≡ b → Quiet
          by_own none_above true hit = inner p up (same_kind kind.Index (kind_in f p) hit) none_above
          by_own none_above false miss =
              alone (λ other its is. true≢false (sym (ap (is_of kind.Index) is) ∙ sym (ap (is_kind f kind.Index) (its_parent other its)) ∙ miss))
              (λ other q its over is. none_above q (ap (parent f) (its_parent other its) ∙ over) is)

          by_above : (o : Option ℕ) → parent f p ≡ o → Quiet
          by_above None over = by_own (λ q its is. none-some q (sym over ∙ its)) (is_kind f kind.Index p) refl
          by_above (Some q) over = by_top (is_kind f kind.Index q) refl
            where
              by_top : (b : Bool) → is_kind f kind.Index q ≡ b → Quiet
              by_top true hit = outer p q up over (same_kind kind.Index (kind_in f q) hit)
              by_top false miss =
                  by_own (λ top its is. true≢false (sym (ap (is_of kind.Index) is) ∙ sym (ap (is_kind f kind.Index) (same_Some q top (sym over ∙ its))) ∙ miss)) (is_kind f kind.Index p) refl

      pub quiet_at : Quiet
      quiet_at = by_parent (parent f n) refl

module _ (k : Known) (scope : Scope) (library : List Specification) (refused : List ℕ) (of : IsFileOfTree (file_with k.tables.file scope library refused)) (parents : HaveParents (file_with k.tables.file scope library refused))
    (items : ℕ → Item) (order : List ℕ) (circular : List Bool) (its_order : IsOrder (file_with k.tables.file scope library refused) k.tables.file.names.now order circular)
    (right : AreRight (file_with k.tables.file scope library refused) k items (bits_in (file_with k.tables.file scope library refused) order (has_fault k items))) where
  abbrev f : File
  f = file_with k.tables.file scope library refused

  abbrev bits : List Bool
  bits = bits_in f order (has_fault k items)

  abbrev found : ℕ → Rule → Bool
  found n = violates k bits items n

  -- ---- names

  types_bad_are : AreTypesBad f (is_bad f)
  types_bad_are e equate circle hit = bad_more f (length f.scope.declarations) e hit

  all_itself : (b : ℕ → Bool) (n : ℕ) (its : List Identifier) → AllByRecursion (λ (name : Identifier). is_bad_name f b n name ≡ is_bad_name f b n name) its
  all_itself b n [] = tt
  all_itself b n (name ∷ its) = (refl, all_itself b n its)

  -- ---- equates

  once : right_bits.AgreeOnce f of k.tables.file.names.now order circular its_order (has_fault k items) (faults_alone k items) found (λ n. refl) all_rules (λ bad. definition.violates f bad)
      (λ bad n. sym (least_at f of bad n)) (λ b c n same r. same r)
  once e equate read n low inside before =
      let bound_in_file : e < length f.nodes = equate_inside f of e equate in
      right.constants (is_bad f) n (omega (arith, inside, bound_in_file)) (in_equate f of e equate n low inside) (read n low inside) types_bad_are
      (record {
        low = (round f e).first;
        from = from_equate f of parents e equate n low inside;
        quiet = λ m from less. sym (least_at f of (is_bad f) m) ∙ none_found (least (definition.violates f (is_bad f) m) all_rules) (before m from less);
      })

  straight : AreStraight f bits (is_bad f)
  straight =
      right_bits.bits_are f of k.tables.file.names.now order circular its_order (has_fault k items) (faults_alone k items) found (λ n. refl) all_rules (λ bad. definition.violates f bad)
      (λ bad n. sym (least_at f of bad n)) (λ b c n same r. same r) once

  pub agree_in_equates : AgreeInEquates f found (definition.violates f (bit bits))
  agree_in_equates =
      right_bits.agree_in f of k.tables.file.names.now order circular its_order (has_fault k items) (faults_alone k items) found (λ n. refl) all_rules (λ bad. definition.violates f bad)
      (λ bad n. sym (least_at f of bad n)) (λ b c n same r. same r) once

  named : (n : ℕ) (name : Identifier) → is_bad_name f (bit bits) n name ≡ is_bad_name f (is_bad f) n name
  named = names_are f (bit bits) (is_bad f) straight

  all_named : (n : ℕ) (its : List Identifier) → AllByRecursion (λ (name : Identifier). is_bad_name f (bit bits) n name ≡ is_bad_name f (is_bad f) n name) its
  all_named n [] = tt
  all_named n (name ∷ its) = (named n name, all_named n its)

  bits_types_bad : AreTypesBad f (bit bits)
  bits_types_bad e equate circle hit = straight e equate circle ∙ types_bad_are e equate circle hit

  -- ---- declarations of arms

  arms : AreBadDecls f bits (is_bad f)
  arms d is stands =
      let x : There f.nodes d kind.Decl = there f.nodes d kind.Decl refl is in
      let inside : d < length f.nodes = slice_get_within f.nodes d x.node x.at in
      let decl : is_kind f kind.Decl d ≡ true = ap (is_of kind.Decl) is in
      let there_decl : is_there kind.Decl (slice_get f.nodes d) ≡ true = sym (there_is kind.Decl refl (slice_get f.nodes d)) ∙ decl in
      let there_when : bound.stands_in f.nodes f.rounds kind.When d ≡ true = sym (stands_same (parent f d)) ∙ stands in
      let arm : arm_declared f.nodes f.rounds d ≡ Some d =
      ap (λ (b : Bool). if◌then◌else◌ {A = Option ℕ} b (Some d) None) (and_from (is_there kind.Decl (slice_get f.nodes d)) (bound.stands_in f.nodes f.rounds kind.When d) there_decl there_when) in
      arms_by_tables k scope library refused of items order circular its_order bits refl agree_in_equates d arm (λ n low less before.
      right.constants (bit bits) n (omega (arith, less, inside)) (in_declarations f.nodes f.rounds of.shaped of.ordered of.tree of.surrounded d x.node x.at x.is n low less) (all_itself (bit bits) n (names_unfolded f (kind_in f n) n))
      bits_types_bad
      (record { low = (round f d).first; from = from_below f of d x.node x.at (outside_brackets f of parents kind.Decl no_declaration_in d decl) n low less; quiet = before }))
    where
      stands_same : (o : Option ℕ) → is_kind_at f kind.When o ≡ bound.is_there_at f.nodes kind.When o
      stands_same None = refl
      stands_same (Some p) = there_is kind.When refl (slice_get f.nodes p)

  -- ---- on both walks

  module _ (n : ℕ) (inside : n < length f.nodes) where
    abbrev Agree : List Rule → Type 0
    Agree rules = AgreeOn (found n) (definition.violates f (is_bad f) n) rules

    plain_agree : is_plain (kind_in f n) ≡ true → IsFirst f n → Agree (rules_at (kind_in f n))
    plain_agree plain first = by (slice_get f.nodes n) refl
      where
        by : (o : Option Node) → slice_get f.nodes n ≡ o → Agree (rules_at (kind_in f n))
        by None at = absurd (true≢false (sym plain ∙ ap (λ (o : Option Node). is_plain (kind_of o)) at))
        by (Some node) at = of_kind (is_of_constant (kind_in f n)) refl
          where
            quiet : IsQuiet f (is_bad f) n
            quiet = quiet_at f of parents n first.before node at (sym (ap (λ (o : Option Node). is_plain (kind_of o)) at) ∙ plain)

            of_kind : (b : Bool) → is_of_constant (kind_in f n) ≡ b → Agree (rules_at (kind_in f n))
            of_kind true const = right.constants (is_bad f) n inside const (all_named n (names_unfolded f (kind_in f n) n)) types_bad_are quiet
            of_kind false apart = right.others n inside plain apart straight arms quiet first

    walk_is : is_plain (kind_in f n) ≡ true → walk_of f n ≡ walk_by false (round f n).heading
    walk_is plain = ap (λ (b : Bool). walk_by b (round f n).heading) (not_definition (kind_in f n) plain)

    heading_agrees : ((m : ℕ) → m < n → fault_at f headings m ≡ None) → Agree (rules_of_headings (kind_in f n) (round f n).heading)
    heading_agrees before = by (is_plain (kind_in f n)) refl (round f n).heading refl
      where
        by : (b : Bool) → is_plain (kind_in f n) ≡ b → (h : Bool) → (round f n).heading ≡ h → Agree (rules_of_headings (kind_in f n) (round f n).heading)
        by false apart h head =
            agree_of_headings (found n) (definition.violates f (is_bad f) n) (kind_in f n) (λ r asked. right.definitions (is_bad f) n inside apart straight r asked) (round f n).heading
        by true plain true head =
            let walk : walk_of f n ≡ headings = walk_is plain ∙ ap (walk_by false) head in
            subst (λ (b : Bool). Agree (rules_of_headings (kind_in f n) b)) (sym head)
            (subst Agree (sym (in_heading (kind_in f n) plain))
            (plain_agree plain (record { before = λ m less. ap (λ (w : Walk). fault_at f w m) walk ∙ before m less; headed = λ is. absurd (other_walk (sym walk ∙ is)) })))
        by true plain false head =
            subst (λ (b : Bool). Agree (rules_of_headings (kind_in f n) b)) (sym head) (subst Agree (sym (no_heading (kind_in f n) plain)) tt)

    rest_agrees : first_on f headings ≡ None → ((m : ℕ) → m < n → fault_at f rest m ≡ None) → Agree (rules_of_rest (kind_in f n) (round f n).heading)
    rest_agrees none_headed before = by (is_plain (kind_in f n)) refl (round f n).heading refl
      where
        by : (b : Bool) → is_plain (kind_in f n) ≡ b → (h : Bool) → (round f n).heading ≡ h → Agree (rules_of_rest (kind_in f n) (round f n).heading)
        by false apart h head =
            agree_of_rest (found n) (definition.violates f (is_bad f) n) (kind_in f n) (λ r asked. right.definitions (is_bad f) n inside apart straight r asked) (round f n).heading
        by true plain false head =
            let walk : walk_of f n ≡ rest = walk_is plain ∙ ap (walk_by false) head in
            subst (λ (b : Bool). Agree (rules_of_rest (kind_in f n) b)) (sym head)
            (subst Agree (sym (in_rest (kind_in f n) plain))
            (plain_agree plain (record { before = λ m less. ap (λ (w : Walk). fault_at f w m) walk ∙ before m less; headed = λ is. none_headed })))
        by true plain true head =
            subst (λ (b : Bool). Agree (rules_of_rest (kind_in f n) b)) (sym head) (subst Agree (sym (no_rest (kind_in f n) plain)) tt)

  pub agree_in_headings : AgreeInHeadings f found
  agree_in_headings n inside before = heading_agrees n inside before

  pub agree_in_rest : AgreeInRest f found
  agree_in_rest none_headed n inside before = rest_agrees n inside none_headed before
