-- The type of a routine's head is that of the heading of the definition, where what is lost is refused.
use Rattle.std.proofs.Common.{◌≡◌, ◌∙◌, ℕ, ◌<◌, Bool, true, false, ◌&&◌, ◌||◌, if◌then◌else◌, List, [], ◌∷◌, length, Option, Some, None, refl, sym, ap, ap₂, subst, arith}
use Rattle.std.specs.Prelude.{slice_get}
use Rattle.std.specs.List.{AllByRecursion, list_any}
use Rattle.std.specs.Option.{option_map}
use Rattle.std.proofs.lemmas.Bool.{true≢false}
use Rattle.std.proofs.lemmas.Option.{slice_get_within}
use Rattle.clu_base.specs.declared.constants.Const.{Const}
use Rattle.clu_tree.specs.declared.node.Node.{Node}
use Rattle.clu_tree.specs.declared.node.NodeKind.{NodeKind}
use Rattle.clu_tree.specs.declared.node.NodeKind.TheVariants as kind
use Rattle.clu_tree.specs.Nodes.{IsTree}
use Rattle.clu_parser.specs.Shape.{HaveForms}
use Rattle.clu_types.specs.declared.term.TypeId.{TypeId}
use Rattle.clu_types.specs.declared.term.Heading.{Heading}
use Rattle.clu_types.specs.declared.term.Term.{Term}
use Rattle.clu_types.specs.Arena.{types_of, type_at, IsArena, PartsBelow}
use Rattle.clu_types.proofs.Arenas.{type_found}
use Rattle.clu_syntax.specs.Kinds.{kind_of}
use Rattle.clu_syntax.specs.Splits.{children_of}
use Rattle.clu_syntax.specs.Syntax.{Routine}
use Rattle.clu_syntax.specs.Nodes.{before, item_at, routine_of}
use Rattle.clu_syntax.specs.Items.{Item}
use Rattle.clu_meaning.specs.Scoping.{Scope}
use Rattle.clu_meaning.specs.Resolving.{Place}
use Rattle.clu_checking.specs.Specifications.{Specification}
use Rattle.clu_checking.specs.Files.{File, kind_in, node_children, stands_below, is_refused}
use Rattle.clu_checking.specs.Headings as headings
use Rattle.clu_checking.specs.Headings.{outside_type, heading_of}
use Rattle.clu_declares.proofs.Below.{item_there}
use Rattle.clu_declares.proofs.Facts.{There}
use Rattle.clu_declares.proofs.Parents.{of_all}
use Rattle.clu_settle.specs.Settled.{AreSettled}
use Rattle.clu_settle.proofs.Shapes.{children_before}
use Rattle.clu_head.specs.declared.known.Known.{Known}
use Rattle.clu_head.specs.Outside.{heading_outside}
use Rattle.clu_head.specs.Routines.{arguments_in, results_in, exceptions_in, term_at}
use Rattle.clu_head.specs.Routines as routines
use Rattle.clu_head.specs.Terms.{is_there_of_type, is_refused_part, term_of, routine_term, IsNumbered}
use Rattle.clu_head.specs.Terms as terms
use Rattle.clu_passes.specs.Clear.{IsOutside}
use Rattle.clu_passes.specs.Heads.{file_known, AreCounted}
use Rattle.clu_passes.proofs.HeadingsTold.{heading_told}
use Rattle.clu_passes.proofs.OutsideBrackets.{outside_routine}
use Rattle.clu_passes.proofs.ValuesKnown.{all_by}

-- ---- tests of two lists in either order

module _ {X Y : Type 0} (p : Y → Bool) (q : X → Y → Bool) where
  any_neither : (xs : List X) → list_any (λ (x : X). false) xs ≡ false
  any_neither [] = refl
  any_neither (x ∷ xs) = any_neither xs

  any_either : (a b : X → Bool) (xs : List X) → list_any (λ (x : X). a x || b x) xs ≡ (list_any a xs || list_any b xs)
  any_either a b [] = refl
  any_either a b (x ∷ xs) = ap (λ (c : Bool). (a x || b x) || c) (any_either a b xs) ∙ exchanged (a x) (b x) (list_any a xs) (list_any b xs)
    where
      exchanged : (a b c d : Bool) → ((a || b) || (c || d)) ≡ ((a || c) || (b || d))
      exchanged true b c d = refl
      exchanged false true true d = refl
      exchanged false true false d = refl
      exchanged false false true d = refl
      exchanged false false false d = refl

  any_if : (y : Y) (b : Bool) (xs : List X) → list_any (λ (x : X). b && q x y) xs ≡ (b && list_any (λ (x : X). q x y) xs)
  any_if y true xs = refl
  any_if y false xs = any_neither xs

  pub any_turned : (xs : List X) (ys : List Y) → list_any (λ (x : X). list_any (λ (y : Y). p y && q x y) ys) xs ≡ list_any (λ (y : Y). p y && list_any (λ (x : X). q x y) xs) ys
  any_turned xs [] = any_neither xs
  any_turned xs (y ∷ ys) =
      any_either (λ (x : X). p y && q x y) (λ (x : X). list_any (λ (y : Y). p y && q x y) ys) xs
      ∙ ap₂ (λ (a b : Bool). a || b) (any_if y (p y) xs) (any_turned xs ys)

any_each : (p q : ℕ → Bool) (xs : List ℕ) → AllByRecursion (λ (x : ℕ). p x ≡ q x) xs → list_any p xs ≡ list_any q xs
any_each p q [] same = refl
any_each p q (x ∷ xs) same = ap₂ (λ (a b : Bool). a || b) same.0 (any_each p q xs same.1)

-- ---- kinds

of_type_same : (k : NodeKind) → headings.is_of_type k ≡ terms.is_of_type k
of_type_same kind.Decl = refl
of_type_same kind.Results = refl
of_type_same kind.Signals = refl
of_type_same _ = refl

there_same : (its : Option Node) → headings.is_of_type (kind_of its) ≡ is_there_of_type its
there_same None = refl
there_same (Some node) = of_type_same node.kind

module _ (k : Known) (scope : Scope) (library : List Specification) (refused : List ℕ) (shaped : HaveForms k.syntax.now) (tree : IsTree k.syntax.now) (are : AreCounted k (file_known k scope library refused)) where
  abbrev f : File
  f = file_known k scope library refused

  abbrev nodes : List Node
  nodes = k.syntax.now

  part_same : (c : ℕ) → c < length nodes → IsOutside f c → (headings.is_of_type (kind_in f c) && is_refused f c) ≡ is_refused_part nodes k.refused.now k.rounds.now c
  unfolding is_refused_part
  part_same c inside outside = ap₂ (λ (a b : Bool). a && b) (there_same (slice_get nodes c)) (are.same c inside outside)

  parts_same : (n : ℕ) (x : There nodes n kind.Routine) → AllByRecursion (λ (c : ℕ). (headings.is_of_type (kind_in f c) && is_refused f c) ≡ is_refused_part nodes k.refused.now k.rounds.now c) x.node.children
  parts_same n x =
      all_by (λ (c : ℕ). (headings.is_of_type (kind_in f c) && is_refused f c) ≡ is_refused_part nodes k.refused.now k.rounds.now c) x.node.children
      (λ c i.
      let here : n < length nodes = slice_get_within nodes n x.node x.at in
      let less : c < n = of_all (λ (c : ℕ). c < n) c x.node.children (children_before nodes tree shaped n x.node x.at) i in
      part_same c (omega (arith, less, here)) (outside_routine f are.of_tree are.parents n x.node x.at c i x.is))

  module _ (n : ℕ) (x : There nodes n kind.Routine) where
    abbrev r : Routine
    r = (item_at nodes n).routine

    its_node : r.node ≡ n
    its_node =
        ap (λ (i : Item). i.routine.node) (item_there nodes n x.node x.at)
        ∙ ap (λ (k : NodeKind). (routine_of (before n (item_at nodes)) nodes n x.node k).node) x.is

    pub refused_same : headings.is_refused_heading f r ≡ terms.is_refused_heading nodes k.refused.now k.rounds.now n
    refused_same =
        ap (λ (m : ℕ). list_any (λ (d : ℕ). list_any (λ (c : ℕ). headings.is_of_type (kind_in f c) && stands_below f d c) (node_children f (slice_get nodes m))) refused) its_node
        ∙ ap (λ (its : Option Node). list_any (λ (d : ℕ). list_any (λ (c : ℕ). headings.is_of_type (kind_in f c) && stands_below f d c) (node_children f its)) refused) x.at
        ∙ any_turned (λ (c : ℕ). headings.is_of_type (kind_in f c)) (λ (d c : ℕ). stands_below f d c) refused x.node.children
        ∙ any_each (λ (c : ℕ). headings.is_of_type (kind_in f c) && is_refused f c) (is_refused_part nodes k.refused.now k.rounds.now) x.node.children (parts_same n x)
        ∙ sym (ap (λ (its : Option Node). list_any (is_refused_part nodes k.refused.now k.rounds.now) (children_of its)) x.at)

    module _ (place : Place) (old new : List Term) (arena : IsArena new) (constants : List Const) (known : AreSettled nodes place.scope new constants k.values.now) (own : Option TypeId) (home : option_map (type_at (types_of new)) own ≡ place.home) where
      abbrev outside : Option Heading
      outside = heading_outside own nodes k.values.now (arguments_in nodes x.node) (results_in nodes x.node) (exceptions_in nodes x.node)

      abbrev made : Option Term
      made = term_at k own n (slice_get nodes n)

      made_is : (b : Bool) (o : Option Heading) → headings.is_refused_heading f r ≡ b → outside ≡ o → made ≡ routine_term b (routines.kind_in x.node) o
      unfolding term_at
      made_is b o is so =
          ap (term_at k own n) x.at
          ∙ ap (λ (b : Bool). routine_term b (routines.kind_in x.node) outside) (sym refused_same ∙ is)
          ∙ ap (routine_term b (routines.kind_in x.node)) so

      pub type_told : (outside ≡ None → headings.is_refused_heading f r ≡ true) → ((t : Term) → made ≡ Some t → PartsBelow (length old) t) → (of : Option TypeId) → IsNumbered old new made of →
          option_map (type_at (types_of new)) of ≡ (heading_of f place r).type
      type_told lost below of is = by (headings.is_refused_heading f r) refl outside refl of is
        where
          by : (b : Bool) → headings.is_refused_heading f r ≡ b → (o : Option Heading) → outside ≡ o → (of : Option TypeId) → IsNumbered old new made of →
              option_map (type_at (types_of new)) of ≡ (if b then None else Some (outside_type f place r))
          by true refused o so None is = refl
          by true refused o so (Some id) is = absurd (subst (λ (t : Option Term). IsNumbered old new t (Some id)) (made_is true o refused so) is)
          by false refused None so of is = absurd (true≢false (sym (lost so) ∙ refused))
          by false refused (Some h) so None is =
              let t = made_is false (Some h) refused so in
              absurd (subst (λ (t : Option Term). IsNumbered old new t None) t is (below (term_of (routines.kind_in x.node) h) t))
          by false refused (Some h) so (Some id) is =
              let found : slice_get new id.0 ≡ Some (term_of (routines.kind_in x.node) h) = subst (λ (t : Option Term). IsNumbered old new t (Some id)) (made_is false (Some h) refused so) is in
              ap Some
              (type_found new arena id (term_of (routines.kind_in x.node) h) found (slice_get_within new id.0 (term_of (routines.kind_in x.node) h) found)
              ∙ heading_told f shaped tree place new constants k.values.now known own home n x h so)

      -- a head that has a type has that of the definition
      pub type_there : (id : TypeId) → IsNumbered old new made (Some id) → Some (type_at (types_of new) id) ≡ (heading_of f place r).type
      type_there id is = by (headings.is_refused_heading f r) refl outside refl
        where
          by : (b : Bool) → headings.is_refused_heading f r ≡ b → (o : Option Heading) → outside ≡ o → Some (type_at (types_of new) id) ≡ (if b then None else Some (outside_type f place r))
          by true refused o so = absurd (subst (λ (t : Option Term). IsNumbered old new t (Some id)) (made_is true o refused so) is)
          by false refused None so = absurd (subst (λ (t : Option Term). IsNumbered old new t (Some id)) (made_is false None refused so) is)
          by false refused (Some h) so =
              let found : slice_get new id.0 ≡ Some (term_of (routines.kind_in x.node) h) = subst (λ (t : Option Term). IsNumbered old new t (Some id)) (made_is false (Some h) refused so) is in
              ap Some
              (type_found new arena id (term_of (routines.kind_in x.node) h) found (slice_get_within new id.0 (term_of (routines.kind_in x.node) h) found)
              ∙ heading_told f shaped tree place new constants k.values.now known own home n x h so)

  pub head_type : (n : ℕ) (node : Node) → slice_get nodes n ≡ Some node → node.kind ≡ kind.Routine → (place : Place) (old new : List Term) → IsArena new → (constants : List Const) → AreSettled nodes place.scope new constants k.values.now → (own : Option TypeId) → option_map (type_at (types_of new)) own ≡ place.home
      → (heading_outside own nodes k.values.now (arguments_in nodes node) (results_in nodes node) (exceptions_in nodes node) ≡ None → headings.is_refused_heading f (item_at nodes n).routine ≡ true)
      → ((t : Term) → term_at k own n (slice_get nodes n) ≡ Some t → PartsBelow (length old) t)
      → (of : Option TypeId) → IsNumbered old new (term_at k own n (slice_get nodes n)) of → option_map (type_at (types_of new)) of ≡ (heading_of f place (item_at nodes n).routine).type
  head_type n node at is place old new arena constants known own home = type_told n (record { node = node; at = at; is = is }) place old new arena constants known own home

  pub head_there : (n : ℕ) (node : Node) → slice_get nodes n ≡ Some node → node.kind ≡ kind.Routine → (place : Place) (old new : List Term) → IsArena new → (constants : List Const) → AreSettled nodes place.scope new constants k.values.now → (own : Option TypeId) → option_map (type_at (types_of new)) own ≡ place.home
      → (id : TypeId) → IsNumbered old new (term_at k own n (slice_get nodes n)) (Some id) → Some (type_at (types_of new) id) ≡ (heading_of f place (item_at nodes n).routine).type
  head_there n node at is place old new arena constants known own home = type_there n (record { node = node; at = at; is = is }) place old new arena constants known own home
