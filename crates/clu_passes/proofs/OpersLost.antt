-- What is lost of the type of an Oper is refused: `cvt` stands in no heading there.
use Rattle.std.proofs.Common.{◌≡◌, ◌∙◌, ◌⊎◌, ℕ, ◌-◌, ◌<◌, ◌≤◌, ◌&&◌, nat_le, Bool, true, List, [], ◌∷◌, length, drop, Some, None, inl, inr, refl, sym, ap, subst, arith, le-leb}
use Rattle.std.specs.Prelude.{slice_get}
use Rattle.std.proofs.lemmas.Option.{none-some, slice_get_within}
use Rattle.clu_base.specs.declared.constants.Const.{Const}
use Rattle.clu_tree.specs.declared.node.Node.{Node}
use Rattle.clu_tree.specs.declared.node.NodeKind.TheVariants as kind
use Rattle.clu_types.specs.Arena.{types_of}
use Rattle.clu_types.specs.declared.term.Term.{Term}
use Rattle.clu_syntax.specs.Kinds.{is_type, kind_at}
use Rattle.clu_syntax.specs.Slots.{slots}
use Rattle.clu_syntax.specs.Splits.{child}
use Rattle.clu_syntax.specs.Nodes.{item_at}
use Rattle.clu_meaning.specs.Scoping.{Scope}
use Rattle.clu_meaning.specs.Settling.{settled, type_settled, settled_type, settled_constant, settled_parameter, unsettled, value_of_constant}
use Rattle.clu_checking.specs.Files.{File, is_refused, numbers, round, stands_below}
use Rattle.clu_checking.specs.Refusals.{is_no_type_at, with_refused}
use Rattle.clu_settle.specs.declared.value.Value.{Value}
use Rattle.clu_settle.specs.declared.value.Value.TheVariants as value
use Rattle.clu_settle.specs.Lists.{type_id, value_of}
use Rattle.clu_settle.specs.Lost.{IsLost}
use Rattle.clu_settle.specs.Meant.{meanings_of}
use Rattle.clu_settle.specs.Settled.{AreSettled}
use Rattle.clu_settle.specs.Values.{told, Agrees, constant_at}
use Rattle.clu_settle.proofs.Parts.{constant_is, type_is_constant}
use Rattle.clu_settle.proofs.Shapes.{FirstPart, first_part}
use Rattle.clu_declares.proofs.Parents.{IsIn, no_form, of_all}
use Rattle.clu_passes.specs.DemandsTold.{AreOpersLost}
use Rattle.clu_passes.specs.Losing.{IsWholeCvt, HasReason}
use Rattle.clu_passes.specs.Trees.{IsFileOfTree}
use Rattle.clu_passes.proofs.Counted.{any_filtered, range_in}
use Rattle.clu_passes.proofs.CvtPlaces.{IsTop, cvt_refused}
use Rattle.clu_passes.proofs.LostRefused.{lost_refused}
use Rattle.clu_passes.proofs.Subtrees.{firsts_of, is_subtree}
use Rattle.clu_passes.proofs.Within.{all_first, roots_in}

-- ---- values of types

module _ (nodes : List Node) (scope : Scope) (types : List Term) (constants : List Const) (values : List Value) (known : AreSettled nodes scope types constants values) (n : ℕ) (is : is_type (kind_at nodes n) ≡ true) where
  -- what is no type there is lost
  pub typed_or_lost : type_id (value_of values n) ≡ None → value_of values n ≡ value.Lost
  typed_or_lost none = by (value_of values n) refl none
    where
      agrees : (v : Value) → value_of values n ≡ v → Agrees (told (types_of types) constants v) (settled_type (type_settled scope (item_at nodes n).type))
      agrees v e =
          subst (λ (v : Value). Agrees (told (types_of types) constants v) (settled_type (type_settled scope (item_at nodes n).type))) e
          (subst (λ c. Agrees (told (types_of types) constants (value_of values n)) (value_of_constant scope (settled scope) c)) (constant_is nodes n true is) (known.each n (type_is_constant nodes n is)))

      by : (v : Value) → value_of values n ≡ v → type_id v ≡ None → v ≡ value.Lost
      by value.Lost e none = refl
      by value.Nothing e none = let f : settled_type (type_settled scope (item_at nodes n).type) ≡ unsettled = agrees value.Nothing e in absurd (cc)
      by (value.Type id) e none = absurd (none-some id (sym none))
      by (value.Constant k) e none = let f : settled_type (type_settled scope (item_at nodes n).type) ≡ settled_constant (constant_at constants k) = agrees (value.Constant k) e in absurd (cc)
      by (value.Parameter k) e none = let f : settled_type (type_settled scope (item_at nodes n).type) ≡ settled_parameter k = agrees (value.Parameter k) e in absurd (cc)

oper_top : IsTop kind.Oper
unfolding no_form
oper_top = record { of_constant = refl; no_results = refl; no_exception = refl; none_below = refl }

first_in : (c : ℕ) (cs rest : List ℕ) → cs ≡ c ∷ rest → IsIn c cs
first_in c cs rest e = subst (IsIn c) (sym e) (inl refl)

-- ---- the type of an Oper

module _ (f : File) (of : IsFileOfTree f) (c : ℕ) (node : Node) (at : slice_get f.nodes c ≡ Some node) (is : node.kind ≡ kind.Oper) where
  abbrev t : ℕ
  t = child 0 node

  first : FirstPart f.nodes of.tree of.shaped is_type [] c node
  first = first_part f.nodes of.tree of.shaped is_type [] c node at (ap slots is)

  pub is_child : IsIn (child 0 node) node.children
  is_child = first_in (child 0 node) node.children (drop 1 node.children) first.is

  pub before_oper : child 0 node < c
  before_oper = first.first.0

  pub type_inside : child 0 node < length f.nodes
  type_inside = let here : c < length f.nodes = slice_get_within f.nodes c node at in let less : child 0 node < c = first.first.0 in omega (arith, here, less)

  -- it begins behind the Oper's first node
  begins : (round f c).first ≤ (round f (child 0 node)).first
  begins =
      of_all (λ m. (round f c).first ≤ (round f m).first) (child 0 node) node.children
      (all_first f.rounds (round f c).first c (round f c).first node.children (omega arith) (firsts_of f.nodes f.rounds of.tree of.surrounded c node at)
      (roots_in f.nodes (round f c).first c node.children (is_subtree f.nodes f.rounds of.tree of.surrounded of.ordered c node at)))
      is_child

  no_cvt : (m : ℕ) → (round f (child 0 node)).first ≤ m → m ≤ child 0 node → IsWholeCvt f m → ⊥
  no_cvt m low high x =
      let less : child 0 node < c = before_oper in
      let least : (round f c).first ≤ (round f (child 0 node)).first = begins in
      cvt_refused f of c node at (subst IsTop (sym is) oper_top) m (omega (arith, low, least)) (omega (arith, high, less)) x

  refused_there : HasReason f (child 0 node) → is_refused (with_refused f) (child 0 node) ≡ true
  refused_there r = by r.reason
    where
      by : (is_no_type_at f r.node ≡ true) ⊎ IsWholeCvt f r.node → is_refused (with_refused f) (child 0 node) ≡ true
      by (inr x) = absurd (no_cvt r.node r.first r.upto x)
      by (inl hit) =
          let upto : r.node ≤ child 0 node = r.upto in
          let inside : child 0 node < length f.nodes = type_inside in
          any_filtered (λ m. stands_below f m (child 0 node)) (is_no_type_at f) (numbers f.nodes)
          ∙ range_in (λ m. is_no_type_at f m && stands_below f m (child 0 node)) (length f.nodes) 0 r.node (omega arith) (omega (arith, upto, inside))
          (ap (λ (b : Bool). b && stands_below f r.node (child 0 node)) hit
          ∙ ap (λ (b : Bool). b && nat_le r.node (child 0 node)) (le-leb (round f (child 0 node)).first r.node r.first)
          ∙ le-leb r.node (child 0 node) r.upto)

-- what is lost of it is refused
pub opers_lost : (f : File) → IsFileOfTree f → (types : List Term) (constants : List Const) (values : List Value) → AreSettled f.nodes f.scope types constants values → ((n : ℕ) → n < length f.nodes → value_of values n ≡ value.Lost → IsLost f.nodes (meanings_of f.nodes f.rounds f.scope.declarations) n) → AreOpersLost (with_refused f) values
opers_lost f of types constants values known lost c node at is none =
    let first : FirstPart f.nodes of.tree of.shaped is_type [] c node = first_part f.nodes of.tree of.shaped is_type [] c node at (ap slots is) in
    let inside : child 0 node < length f.nodes = type_inside f of c node at is in
    refused_there f of c node at is (lost_refused f of (child 0 node) inside (lost (child 0 node) inside (typed_or_lost f.nodes f.scope types constants values known (child 0 node) first.first.1 none)))
