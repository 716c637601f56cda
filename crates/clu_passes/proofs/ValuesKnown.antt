-- What is known at a node before which no type is refused: the values of its children, and the equates before the brackets in which it
-- stands.
use Rattle.std.proofs.Common.{◌≡◌, ◌∙◌, ◌⊎◌, ℕ, ◌+◌, ◌<◌, ◌≤◌, ◌||◌, Bool, true, false, List, [], ◌∷◌, length, drop, get_or, Option, Some, None, inl, inr, refl, sym, ap, subst, arith}
use Rattle.std.specs.Prelude.{slice_get}
use Rattle.std.specs.List.{AllByRecursion}
use Rattle.std.proofs.lemmas.Bool.{true≢false, cases_lt}
use Rattle.std.proofs.lemmas.Option.{slice_get_within}
use Rattle.clu_tree.specs.declared.node.Node.{Node}
use Rattle.clu_tree.specs.declared.node.NodeKind.{NodeKind}
use Rattle.clu_tree.specs.declared.node.NodeKind.TheVariants as kind
use Rattle.clu_parser.specs.Order.{IsForest, none, tree}
use Rattle.clu_parser.specs.Shape.{forms}
use Rattle.clu_parser.specs.Trees.{Text}
use Rattle.clu_syntax.specs.Kinds.{kind_at, kind_of, is_expression, is_type}
use Rattle.clu_syntax.specs.Slots.{any, slots}
use Rattle.clu_syntax.specs.Slots.{is_constant as is_constant_kind}
use Rattle.clu_syntax.specs.Splits.{child, children_of, is_of}
use Rattle.clu_names.specs.Scopes.{declarations}
use Rattle.clu_checking.specs.Specifications.{Specification}
use Rattle.clu_checking.specs.Files.{File, scope_in, children, node_children, parent, round}
use Rattle.clu_checking.specs.ConstantRules.{is_of_heading}
use Rattle.clu_checking.specs.Refusals.{is_no_type_at}
use Rattle.clu_settle.specs.declared.value.Value.{Value}
use Rattle.clu_settle.specs.declared.value.Value.TheVariants as value
use Rattle.clu_settle.specs.Lists.{value_of}
use Rattle.clu_settle.specs.Lost.{IsLost}
use Rattle.clu_settle.specs.Meant.{meanings_of}
use Rattle.clu_settle.specs.Names.{is_constant}
use Rattle.clu_settle.proofs.Shapes.{first_part}
use Rattle.clu_declares.proofs.Below.{same_kind}
use Rattle.clu_declares.proofs.Facts.{There, there}
use Rattle.clu_declares.proofs.Parents.{IsIn, kind_of_child, no_form, of_all}
use Rattle.clu_bindings.specs.declared.file.File.{File as Read}
use Rattle.clu_bindings.specs.declared.meaning.Meaning.{Meaning}
use Rattle.clu_bindings.specs.declared.meaning.Meaning.TheVariants as meant
use Rattle.clu_bindings.specs.Readers.{children_in, meaning_in, value_in}
use Rattle.clu_name_rules.specs.declared.tables.Tables.{Tables}
use Rattle.clu_passes.specs.Clear.{IsClear}
use Rattle.clu_passes.specs.ConstantTables.{file_with, IsEquateKnown, IsFirstKnown, IsIndexKnown, IsIndexKnownAt, IsKnown, IsWantedKnown}
use Rattle.clu_passes.specs.Losing.{HasReason, IsWholeCvt}
use Rattle.clu_passes.specs.Made.{AreMade}
use Rattle.clu_passes.specs.Notes.{HaveParents, has}
use Rattle.clu_passes.specs.Trees.{IsFileOfTree}
use Rattle.clu_passes.proofs.CvtPlaces.{constant_top, cvt_refused, misplaced_at, no_part, parent_told}
use Rattle.clu_passes.proofs.LostRefused.{HasEquate, NotLost, meanings, reason_there, side_inside}
use Rattle.clu_passes.proofs.NamedEquates.{expression_led, expression_names, unnamed}
use Rattle.clu_passes.proofs.OfParents.{have_parents, is_in}
use Rattle.clu_passes.proofs.Strings.{value_same}
use Rattle.clu_passes.proofs.Subtrees.{AreFirst, firsts_of, is_subtree}
use Rattle.clu_passes.proofs.WhyLost.{NamesOdd, odd_equate, odd_refused}
use Rattle.clu_passes.proofs.Within.{AreIn, all_first, roots_in}

-- ---- lists

pub all_by : (P : ℕ → Type 0) (cs : List ℕ) → ((c : ℕ) → IsIn c cs → P c) → AllByRecursion P cs
all_by P [] each = tt
all_by P (c ∷ cs) each = (each c (inl refl), all_by P cs (λ d i. each d (inr i)))

-- ---- tests

pub is_lost : Value → Bool
is_lost value.Lost = true
is_lost _ = false

lost_is : (v : Value) → is_lost v ≡ true → v ≡ value.Lost
unfolding is_lost
lost_is value.Lost e = refl
lost_is value.Nothing e = absurd (true≢false (sym e))
lost_is (value.Type id) e = absurd (true≢false (sym e))
lost_is (value.Constant k) e = absurd (true≢false (sym e))
lost_is (value.Parameter k) e = absurd (true≢false (sym e))

childless : (k : NodeKind) → no_form (forms kind.Name) k ≡ true
unfolding no_form
childless kind.File = refl
childless _ = refl

-- kinds of nodes whose children are expressions and types
unfoldable pub is_over_constants : NodeKind → Bool
is_over_constants kind.Index = true
is_over_constants kind.NameT = true
is_over_constants kind.Name = true
is_over_constants kind.Parm = true
is_over_constants kind.Infix = true
is_over_constants kind.Prefix = true
is_over_constants kind.Paren = true
is_over_constants _ = false

of_index : (k : NodeKind) → (is_constant_kind k || no_form (forms kind.Index) k) ≡ true
unfolding no_form
of_index kind.File = refl
of_index _ = refl

of_name_type : (k : NodeKind) → (is_constant_kind k || no_form (forms kind.NameT) k) ≡ true
unfolding no_form
of_name_type kind.File = refl
of_name_type _ = refl

of_name : (k : NodeKind) → (is_constant_kind k || no_form (forms kind.Name) k) ≡ true
unfolding no_form
of_name kind.File = refl
of_name _ = refl

of_parm : (k : NodeKind) → (is_constant_kind k || no_form (forms kind.Parm) k) ≡ true
unfolding no_form
of_parm kind.File = refl
of_parm _ = refl

of_infix : (k : NodeKind) → (is_constant_kind k || no_form (forms kind.Infix) k) ≡ true
unfolding no_form
of_infix kind.File = refl
of_infix _ = refl

of_prefix : (k : NodeKind) → (is_constant_kind k || no_form (forms kind.Prefix) k) ≡ true
unfolding no_form
of_prefix kind.File = refl
of_prefix _ = refl

of_paren : (k : NodeKind) → (is_constant_kind k || no_form (forms kind.Paren) k) ≡ true
unfolding no_form
of_paren kind.File = refl
of_paren _ = refl

over_constants : (top : NodeKind) → is_over_constants top ≡ true → (k : NodeKind) → (is_constant_kind k || no_form (forms top) k) ≡ true
unfolding is_over_constants
over_constants kind.Index e = of_index
over_constants kind.NameT e = of_name_type
over_constants kind.Name e = of_name
over_constants kind.Parm e = of_parm
over_constants kind.Infix e = of_infix
over_constants kind.Prefix e = of_prefix
over_constants kind.Paren e = of_paren
over_constants kind.File e = absurd (true≢false (sym e))
over_constants _ e = absurd (true≢false (sym e))

pub record IsNoPart (k : NodeKind) : Type 0 where
  pub decl : is_of kind.Decl k ≡ false
  pub results : is_of kind.Results k ≡ false
  pub exception : is_of kind.Exc k ≡ false

no_parts : (top : NodeKind) → is_over_constants top ≡ true → IsNoPart top
unfolding is_over_constants
no_parts kind.Index e = record { decl = refl; results = refl; exception = refl }
no_parts kind.NameT e = record { decl = refl; results = refl; exception = refl }
no_parts kind.Name e = record { decl = refl; results = refl; exception = refl }
no_parts kind.Parm e = record { decl = refl; results = refl; exception = refl }
no_parts kind.Infix e = record { decl = refl; results = refl; exception = refl }
no_parts kind.Prefix e = record { decl = refl; results = refl; exception = refl }
no_parts kind.Paren e = record { decl = refl; results = refl; exception = refl }
no_parts kind.File e = absurd (true≢false (sym e))
no_parts _ e = absurd (true≢false (sym e))

-- ---- the first child stands before the others, and before what stands below them

module _ (f : File) (of : IsFileOfTree f) where
  pub record IsAfter (c n : ℕ) : Type 0 where
    pub itself : c < n
    pub all : c < (round f n).first

  after_first : (from to : ℕ) (roots : List ℕ) → IsForest f.nodes from roots to → AreFirst f.rounds from roots → (n : ℕ) → IsIn n (drop 1 roots) → IsAfter (get_or roots 0 0) n
  after_first from to _ (none _) firsts n i = absurd i
  after_first from to _ (tree _ root _ its roots at inside behind) firsts n i =
      let within : AreIn (root + 1) to roots = roots_in f.nodes (root + 1) to roots behind in
      let x = of_all (λ (c : ℕ). (root + 1 ≤ c) × (c < to)) n roots within i in
      let least : root + 1 ≤ n = x.0 in
      let most : root + 1 ≤ (round f n).first = of_all (λ (c : ℕ). root + 1 ≤ (round f c).first) n roots (all_first f.rounds (root + 1) to (root + 1) roots (omega arith) firsts.1 within) i in
      record { itself = omega (arith, least); all = omega (arith, most) }

  pub record IsBelow (n c : ℕ) : Type 0 where
    pub first : (round f n).first ≤ (round f c).first
    pub least : (round f n).first ≤ c
    pub less : c < n

  module _ (n : ℕ) (node : Node) (at : slice_get f.nodes n ≡ Some node) where
    pub child_below : (c : ℕ) → IsIn c node.children → IsBelow n c
    child_below c i =
        let within : AreIn (round f n).first n node.children = roots_in f.nodes (round f n).first n node.children (is_subtree f.nodes f.rounds of.tree of.surrounded of.ordered n node at) in
        let x = of_all (λ (c : ℕ). ((round f n).first ≤ c) × (c < n)) c node.children within i in
        record {
          first =
              of_all (λ (c : ℕ). (round f n).first ≤ (round f c).first) c node.children
              (all_first f.rounds (round f n).first n (round f n).first node.children (omega arith) (firsts_of f.nodes f.rounds of.tree of.surrounded n node at) within) i;
          least = x.0;
          less = x.1;
        }

    pub behind_first : (c : ℕ) → IsIn c (drop 1 node.children) → IsAfter (child 0 node) c
    behind_first =
        after_first (round f n).first n node.children (is_subtree f.nodes f.rounds of.tree of.surrounded of.ordered n node at) (firsts_of f.nodes f.rounds of.tree of.surrounded n node at)

module _ (t : Text) (its : Tables) (library : List Specification) (refused : List ℕ) (all : AreMade t its library refused)
    (lost : (n : ℕ) → n < length its.file.syntax.now → value_of its.file.values.now n ≡ value.Lost → IsLost its.file.syntax.now (meanings_of its.file.syntax.now its.file.rounds.now (declarations its.file.syntax.now its.file.rounds.now)) n) where
  abbrev pub r : Read
  r = its.file

  abbrev pub nodes : List Node
  nodes = its.file.syntax.now

  abbrev pub f : File
  f = file_with its.file (scope_in its.file.syntax.now its.file.rounds.now) library refused

  pub of_tree : IsFileOfTree f
  of_tree = record { shaped = all.file.parsed.forms; ordered = all.file.parsed.order; tree = all.file.parsed.tree; surrounded = all.file.rounds }

  pub parents : HaveParents f
  parents = have_parents t f all.file.parsed all.file.rounds

  -- ---- what is lost

  pub known_or_lost : (n : ℕ) → IsKnown r n ⊎ (value_in r n ≡ value.Lost)
  unfolding is_lost
  known_or_lost n = by (is_lost (value_in r n)) refl
    where
      by : (b : Bool) → is_lost (value_in r n) ≡ b → IsKnown r n ⊎ (value_in r n ≡ value.Lost)
      by true e = inr (lost_is (value_in r n) e)
      by false e = inl (λ gone. true≢false (sym (ap is_lost gone) ∙ e))

  pub gone_at : (n : ℕ) → n < length nodes → value_in r n ≡ value.Lost → IsLost f.nodes (meanings f of_tree) n
  gone_at n inside e = lost n inside (sym (value_same r.values.now n) ∙ e)

  pub found_known : (n : ℕ) → n < length nodes → NotLost f of_tree n → IsKnown r n
  found_known n inside found e = true≢false (sym (gone_at n inside e found.0) ∙ found.1)

  -- ---- an expression or type in which nothing is refused

  whole_there : (c : ℕ) → c < length nodes → is_constant nodes c ≡ true → is_of_heading f (parent f c) ≡ false → (d : ℕ) → (round f c).first ≤ d → d ≤ c → IsWholeCvt f d → ⊥
  whole_there c inside const alone d low high x = elim (cases_lt d c) [
    | inl less ↦ by (slice_get nodes c) refl less
    | inr more ↦ let same : d ≡ c = omega (arith, high, more) in misplaced_at f c alone (subst (IsWholeCvt f) same x)
  ]
    where
      by : (o : Option Node) → slice_get nodes c ≡ o → d < c → ⊥
      by None at less = true≢false (sym const ∙ ap (λ (o : Option Node). is_expression (kind_of o) || is_type (kind_of o)) at)
      by (Some node) at less = cvt_refused f of_tree c node at (constant_top node.kind (sym (ap (λ (o : Option Node). is_expression (kind_of o) || is_type (kind_of o)) at) ∙ const)) d low less x

  pub found_there : (c : ℕ) → c < length nodes → is_constant nodes c ≡ true → is_of_heading f (parent f c) ≡ false → ((m : ℕ) → (round f c).first ≤ m → m ≤ c → is_no_type_at f m ≡ false) → NotLost f of_tree c
  found_there c inside const alone fine = elim (reason_there f of_tree c inside) [
    | inl x ↦ absurd (by x)
    | inr found ↦ found
  ]
    where
      by : HasReason f c → ⊥
      by x = elim x.reason [
        | inl refused ↦ true≢false (sym refused ∙ fine x.node x.first x.upto)
        | inr whole ↦ whole_there c inside const alone x.node x.first x.upto whole
      ]

  -- the equate of a name is known, or leads to a circle or has a type refused in it
  pub equate_or_odd : (n : ℕ) → ((right : ℕ) → meaning_in r n ≡ meant.Equate right → HasEquate f of_tree n right) → NamesOdd f of_tree n ⊎ IsEquateKnown r (meaning_in r n)
  equate_or_odd n led = by (meaning_in r n) refl
    where
      by : (m : Meaning) → meaning_in r n ≡ m → NamesOdd f of_tree n ⊎ IsEquateKnown r m
      by (meant.Equate c) e = elim (known_or_lost c) [
        | inl known ↦ inr known
        | inr gone ↦
            let x : HasEquate f of_tree n c = led c e in
            let less : c < x.equate = (side_inside f of_tree x.equate c x.side_of).1 in
            let inside : x.equate < length nodes = slice_get_within nodes x.equate x.side_of.its x.side_of.at in
            inl (record { right = c; its = x; why = odd_equate f of_tree x.equate c x.side_of (gone_at c (omega (arith, less, inside)) gone) })
      ]
      by meant.TypeSet e = inr tt
      by (meant.TypeParameter k) e = inr tt
      by (meant.ConstantParameter k) e = inr tt
      by (meant.Local c) e = inr tt
      by (meant.OwnOfRoutine c) e = inr tt
      by (meant.OwnOfCluster c) e = inr tt
      by meant.RoutineOfCluster e = inr tt
      by (meant.Module m) e = inr tt

  -- so is that of an expression at which nothing is refused
  pub expression_known : (n : ℕ) → is_expression (kind_at nodes n) ≡ true → is_no_type_at f n ≡ false → IsEquateKnown r (meaning_in r n)
  expression_known n is fine = elim (equate_or_odd n (λ right e. expression_led t r library refused all.file.parsed all.file.rounds all.file.few all.file.names all.file.bindings of_tree n right is e)) [
    | inl odd ↦ absurd (true≢false (sym (odd_refused f of_tree n odd) ∙ fine))
    | inr known ↦ known
  ]

  -- ---- the first child of an Index

  pub record HasFirst (p : ℕ) : Type 0 where
    pub node : Node
    pub at : slice_get nodes p ≡ Some node
    pub is : node.kind ≡ kind.Index
    pub begun : node.children ≡ child 0 node ∷ drop 1 node.children
    pub expression : is_expression (kind_at nodes (child 0 node)) ≡ true

  pub first_of : (p : ℕ) → kind_at nodes p ≡ kind.Index → HasFirst p
  first_of p is =
      let x : There nodes p kind.Index = there nodes p kind.Index refl is in
      let first = first_part nodes all.file.parsed.tree all.file.parsed.forms is_expression (any is_constant_kind ∷ []) p x.node x.at (ap slots x.is) in
      record { node = x.node; at = x.at; is = x.is; begun = first.is; expression = first.first.1 }

  as_first : (p : ℕ) (x : HasFirst p) → IsEquateKnown r (meaning_in r (child 0 x.node)) → IsFirstKnown r (children_in r p)
  as_first p x known = subst (IsFirstKnown r) (sym (ap children_of x.at ∙ x.begun)) known

  child_of : (n p : ℕ) (x : HasFirst p) → parent f n ≡ Some p → IsIn n (child 0 x.node ∷ drop 1 x.node.children)
  child_of n p x up = subst (IsIn n) (ap children_of x.at ∙ x.begun) (is_in n (children_of (slice_get nodes p)) (by (slice_get nodes p) (parents.below p n up)))
    where
      by : (o : Option Node) → has n (node_children f o) ≡ true → has n (children_of o) ≡ true
      by None h = h
      by (Some node) h = h

  module _ (n : ℕ) (inside : n < length nodes) (clear : IsClear f n) where
    pub below : (m : ℕ) → (round f n).first ≤ m → m < n → is_no_type_at f m ≡ false
    below m low less = let own : clear.low ≤ (round f n).first = clear.from.own in clear.clear m (omega (arith, low, own)) less

    -- ---- children

    -- those of an expression or type, whatever they are
    pub parts_found : is_constant nodes n ≡ true → AllByRecursion (λ (c : ℕ). NotLost f of_tree c) (children_of (slice_get nodes n))
    parts_found const = by (slice_get nodes n) refl
      where
        by : (o : Option Node) → slice_get nodes n ≡ o → AllByRecursion (λ (c : ℕ). NotLost f of_tree c) (children_of o)
        by None at = tt
        by (Some node) at = all_by (λ (c : ℕ). NotLost f of_tree c) node.children (λ c i.
            let b : IsBelow f of_tree n c = child_below f of_tree n node at c i in
            let first : (round f n).first ≤ (round f c).first = b.first in
            let less : c < n = b.less in
            elim (reason_there f of_tree c (omega (arith, less, inside))) [
              | inl x ↦
                  let low : (round f c).first ≤ x.node = x.first in
                  let high : x.node ≤ c = x.upto in
                  elim x.reason [
                    | inl refused ↦ absurd (true≢false (sym refused ∙ below x.node (omega (arith, low, first)) (omega (arith, high, less))))
                    | inr whole ↦ absurd (cvt_refused f of_tree n node at (constant_top node.kind (sym (ap (λ (o : Option Node). is_expression (kind_of o) || is_type (kind_of o)) at) ∙ const)) x.node (omega (arith, low, first)) (omega (arith, high, less)) whole)
                  ]
              | inr found ↦ found
            ])

    -- those of a node of which all are expressions or types
    pub children_known : is_over_constants (kind_at nodes n) ≡ true → AllByRecursion (IsKnown r) (children_in r n)
    children_known over = by (slice_get nodes n) refl
      where
        by : (o : Option Node) → slice_get nodes n ≡ o → AllByRecursion (IsKnown r) (children_of o)
        by None at = tt
        by (Some node) at =
            let its_kind : kind_at nodes n ≡ node.kind = ap kind_of at in
            let its_over : is_over_constants node.kind ≡ true = sym (ap is_over_constants its_kind) ∙ over in
            let no_heading : IsNoPart node.kind = no_parts node.kind its_over in
            all_by (IsKnown r) node.children (λ c i.
            let b : IsBelow f of_tree n c = child_below f of_tree n node at c i in
            let first : (round f n).first ≤ (round f c).first = b.first in
            let less : c < n = b.less in
            let there_is : c < length nodes = omega (arith, less, inside) in
            let up : parent f c ≡ Some n = parent_told f of_tree c (record { parent = n; node = node; at = at; child = i }) in
            found_known c there_is
            (found_there c there_is (kind_of_child nodes all.file.parsed.tree n node at (all.file.parsed.forms n node at) c i is_constant_kind (over_constants node.kind its_over))
            (ap (is_of_heading f) up ∙ no_part f n (ap (is_of kind.Decl) its_kind ∙ no_heading.decl) (ap (is_of kind.Results) its_kind ∙ no_heading.results) (ap (is_of kind.Exc) its_kind ∙ no_heading.exception))
            (λ m low high. below m (omega (arith, low, first)) (omega (arith, high, less)))))

    -- ---- brackets

    pub own_known : IsIndexKnown r n
    own_known = λ is.
        let x : HasFirst n = first_of n is in
        let b : IsBelow f of_tree n (child 0 x.node) = child_below f of_tree n x.node x.at (child 0 x.node) (subst (IsIn (child 0 x.node)) (sym x.begun) (inl refl)) in
        as_first n x (expression_known (child 0 x.node) x.expression (below (child 0 x.node) b.least b.less))

    -- it stands before brackets, and names an equate that leads to a circle or in which a type is refused
    pub record IsOddFirst : Type 0 where
      pub index : ℕ
      pub others : List ℕ
      pub up : parent f n ≡ Some index
      pub is : kind_at nodes index ≡ kind.Index
      pub begins : children f index ≡ n ∷ others
      pub expression : is_expression (kind_at nodes n) ≡ true
      pub odd : NamesOdd f of_tree n

    -- those in which the node stands, if it isn't so
    pub round_known : IsOddFirst ⊎ IsWantedKnown r n
    round_known = by (parent f n) refl
      where
        by : (o : Option ℕ) → parent f n ≡ o → IsOddFirst ⊎ IsIndexKnownAt r o
        by None up = inr tt
        by (Some p) up = of_kind (is_of kind.Index (kind_at nodes p)) refl
          where
            of_kind : (b : Bool) → is_of kind.Index (kind_at nodes p) ≡ b → IsOddFirst ⊎ IsIndexKnown r p
            of_kind false other = inr (λ is. absurd (true≢false (sym (ap (is_of kind.Index) is) ∙ other)))
            of_kind true hit = elim (child_of n p x up) [
              | inl same ↦
                  let expression : is_expression (kind_at nodes n) ≡ true = subst (λ (c : ℕ). is_expression (kind_at nodes c) ≡ true) same x.expression in
                  elim (equate_or_odd n (λ right e. expression_led t r library refused all.file.parsed all.file.rounds all.file.few all.file.names all.file.bindings of_tree n right expression e)) [
                    | inl odd ↦
                        inl (record {
                          index = p;
                          others = drop 1 x.node.children;
                          up = up;
                          is = is;
                          begins = ap (node_children f) x.at ∙ x.begun ∙ ap (λ (c : ℕ). c ∷ drop 1 x.node.children) same;
                          expression = expression;
                          odd = odd;
                        })
                    | inr known ↦ inr (λ again. as_first p x (subst (λ (c : ℕ). IsEquateKnown r (meaning_in r c)) (sym same) known))
                  ]
              | inr i ↦
                  let after : child 0 x.node < n = (behind_first f of_tree p x.node x.at n i).itself in
                  let least : (round f p).first ≤ child 0 x.node = b.least in
                  let low : clear.low ≤ (round f p).first = clear.from.brackets p up is in
                  inr (λ again. as_first p x (expression_known (child 0 x.node) x.expression (clear.clear (child 0 x.node) (omega (arith, least, low)) after)))
            ]
              where
                is : kind_at nodes p ≡ kind.Index
                is = same_kind kind.Index (kind_at nodes p) hit

                x : HasFirst p
                x = first_of p is

                b : IsBelow f of_tree p (child 0 x.node)
                b = child_below f of_tree p x.node x.at (child 0 x.node) (subst (IsIn (child 0 x.node)) (sym x.begun) (inl refl))

    -- those in which its parent stands, which has a child and so is no Name
    pub above_known : (p : ℕ) → parent f n ≡ Some p → IsWantedKnown r p
    above_known p up = by (parent f p) refl
      where
        its_node : (o : Option Node) → slice_get nodes p ≡ o → is_expression (kind_at nodes p) ≡ true → meaning_in r p ≡ meant.Module None
        its_node None at is = absurd (true≢false (sym is ∙ ap (λ (o : Option Node). is_expression (kind_of o)) at))
        its_node (Some node) at is = named (is_of kind.Name node.kind) refl
          where
            child_there : IsIn n node.children
            child_there = subst (λ (o : Option Node). IsIn n (children_of o)) at (is_in n (children_of (slice_get nodes p)) (under (slice_get nodes p) (parents.below p n up)))
              where
                under : (o : Option Node) → has n (node_children f o) ≡ true → has n (children_of o) ≡ true
                under None h = h
                under (Some node) h = h

            named : (b : Bool) → is_of kind.Name node.kind ≡ b → meaning_in r p ≡ meant.Module None
            named true hit =
                absurd (true≢false (sym (kind_of_child nodes all.file.parsed.tree p node at (all.file.parsed.forms p node at) n child_there (λ k. false) (λ k. ap (λ (j : NodeKind). no_form (forms j) k) (same_kind kind.Name node.kind hit) ∙ childless k))))
            named false apart =
                unnamed t r library refused all.file.parsed all.file.rounds all.file.few all.file.names all.file.bindings of_tree p node at (expression_names node.kind node (sym (ap (λ (o : Option Node). is_expression (kind_of o)) at) ∙ is) apart)

        by : (o : Option ℕ) → parent f p ≡ o → IsIndexKnownAt r o
        by None over = tt
        by (Some q) over = λ is.
            let x : HasFirst q = first_of q is in
            let b : IsBelow f of_tree q (child 0 x.node) = child_below f of_tree q x.node x.at (child 0 x.node) (subst (IsIn (child 0 x.node)) (sym x.begun) (inl refl)) in
            as_first q x (elim (child_of p q x over) [
              | inl same ↦
                  let expression : is_expression (kind_at nodes p) ≡ true = subst (λ (c : ℕ). is_expression (kind_at nodes c) ≡ true) same x.expression in
                  subst (IsEquateKnown r) (sym (ap (meaning_in r) same ∙ its_node (slice_get nodes p) refl expression)) tt
              | inr i ↦
                  let before : child 0 x.node < (round f p).first = (behind_first f of_tree q x.node x.at p i).all in
                  let least : (round f q).first ≤ child 0 x.node = b.least in
                  let low : clear.low ≤ (round f q).first = clear.from.above p q up over is in
                  let under : (round f p).first ≤ n = beneath (slice_get nodes p) refl in
                  expression_known (child 0 x.node) x.expression (clear.clear (child 0 x.node) (omega (arith, least, low)) (omega (arith, before, under)))
            ])
          where
            beneath : (o : Option Node) → slice_get nodes p ≡ o → (round f p).first ≤ n
            beneath None at = absurd (true≢false (sym (parents.below p n up) ∙ ap (λ (o : Option Node). has n (node_children f o)) at))
            beneath (Some node) at =
                (child_below f of_tree p node at n (is_in n node.children (sym (ap (λ (o : Option Node). has n (node_children f o)) at) ∙ parents.below p n up))).least
