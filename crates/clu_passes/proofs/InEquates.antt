-- Below an equate stand expressions, types, and what these and type sets are made of: no statements and no where clauses.
use Rattle.std.proofs.Common.{◌≡◌, ◌∙◌, ℕ, ◌+◌, ◌-◌, ◌<◌, ◌≤◌, ◌||◌, not, if◌then◌else◌, Bool, true, false, List, [], ◌∷◌, length, map, Option, Some, None, refl, sym, ap, subst, arith}
use Rattle.std.specs.Prelude.{slice_get}
use Rattle.std.specs.List.{AllByRecursion}
use Rattle.std.proofs.lemmas.Bool.{true≢false}
use Rattle.std.proofs.lemmas.Option.{none-some, same_Some}
use Rattle.clu_base.proofs.Bools.{implied}
use Rattle.clu_tree.specs.declared.node.Node.{Node}
use Rattle.clu_tree.specs.declared.node.NodeKind.{NodeKind}
use Rattle.clu_tree.specs.declared.node.NodeKind.TheVariants as kind
use Rattle.clu_tree.specs.Nodes.{IsTree}
use Rattle.clu_parser.specs.Order.{IsForest, IsPostOrder}
use Rattle.clu_parser.specs.Shape.{HaveForms}
use Rattle.clu_syntax.specs.declared.round.Round.{Round}
use Rattle.clu_syntax.specs.Kinds.{kind_at, is_expression, is_type}
use Rattle.clu_syntax.specs.Rounds.{AreRounds, round_at}
use Rattle.clu_syntax.specs.Slots.{Slot, one, any, slots, is_constant, is_right_side, fit, after, may_end}
use Rattle.clu_syntax.specs.Splits.{is_of}
use Rattle.clu_syntax.proofs.Slots.{children_fit}
use Rattle.clu_passes.specs.Trees.{is_of_constant}
use Rattle.clu_passes.proofs.Subtrees.{is_subtree, Pass, all_pass}

expressions : (k : NodeKind) → (not (is_expression k) || is_of_constant k) ≡ true
expressions kind.File = refl
expressions _ = refl

types : (k : NodeKind) → (not (is_type k) || is_of_constant k) ≡ true
types kind.File = refl
types _ = refl

constants : (k : NodeKind) → (not (is_constant k) || is_of_constant k) ≡ true
constants kind.File = refl
constants _ = refl

right_sides : (k : NodeKind) → (not (is_right_side k) || is_of_constant k) ≡ true
right_sides kind.File = refl
right_sides _ = refl

fields_of : (k : NodeKind) → (not (is_of kind.FieldT k) || is_of_constant k) ≡ true
fields_of kind.File = refl
fields_of _ = refl

components_of : (k : NodeKind) → (not (is_of kind.FieldE k) || is_of_constant k) ≡ true
components_of kind.File = refl
components_of _ = refl

results_of : (k : NodeKind) → (not (is_of kind.Results k) || is_of_constant k) ≡ true
results_of kind.File = refl
results_of _ = refl

signals_of : (k : NodeKind) → (not (is_of kind.Signals k) || is_of_constant k) ≡ true
signals_of kind.File = refl
signals_of _ = refl

exceptions_of : (k : NodeKind) → (not (is_of kind.Exc k) || is_of_constant k) ≡ true
exceptions_of kind.File = refl
exceptions_of _ = refl

operations_of : (k : NodeKind) → (not (is_of kind.Oper k) || is_of_constant k) ≡ true
operations_of kind.File = refl
operations_of _ = refl

equates_of : (k : NodeKind) → (not (is_of kind.Equate k) || is_of_constant k) ≡ true
equates_of kind.File = refl
equates_of _ = refl

-- what may stand in each of these slots
abbrev Fits : (NodeKind → Bool) → Type 0
Fits p = (k : NodeKind) → (not (p k) || is_of_constant k) ≡ true

abbrev AreFit : List Slot → Type 0
AreFit [] = Unit {0}
AreFit (one p ∷ ss) = Fits p × AreFit ss
AreFit (any p ∷ ss) = Fits p × AreFit ss

slots_fit : (k : NodeKind) → is_of_constant k ≡ true → AreFit (slots k)
slots_fit kind.Infix e = (expressions, (expressions, tt))
slots_fit kind.Prefix e = (expressions, tt)
slots_fit kind.Paren e = (expressions, tt)
slots_fit kind.Literal e = tt
slots_fit kind.Name e = tt
slots_fit kind.Index e = (expressions, (constants, tt))
slots_fit kind.Get e = (expressions, tt)
slots_fit kind.Call e = (expressions, (expressions, tt))
slots_fit kind.Fields e = (types, (components_of, tt))
slots_fit kind.FieldE e = (expressions, tt)
slots_fit kind.Elems e = (types, (expressions, tt))
slots_fit kind.OperOf e = (types, tt)
slots_fit kind.Force e = (types, tt)
slots_fit kind.Up e = (expressions, tt)
slots_fit kind.Down e = (expressions, tt)
slots_fit kind.Simple e = tt
slots_fit kind.ListT e = (types, tt)
slots_fit kind.FieldsT e = (fields_of, tt)
slots_fit kind.FieldT e = (types, tt)
slots_fit kind.RoutineT e = (types, (results_of, (signals_of, tt)))
slots_fit kind.NameT e = (constants, tt)
slots_fit kind.Results e = (types, tt)
slots_fit kind.Signals e = (exceptions_of, tt)
slots_fit kind.Exc e = (types, tt)
slots_fit kind.TypeSet e = (operations_of, (equates_of, tt))
slots_fit kind.Oper e = (types, tt)
slots_fit kind.Equate e = (right_sides, tt)
slots_fit _ e = absurd (true≢false (sym e))

record Behind (k : NodeKind) (rest : List Slot) : Type 0 where
  passes : is_of_constant k ≡ true
  are_fit : AreFit rest

after_fits : (ss : List Slot) (k : NodeKind) (rest : List Slot) → AreFit ss → after ss k ≡ Some rest → Behind k rest
unfolding after
after_fits [] k rest fits e = absurd (none-some rest e)
after_fits (one p ∷ ss) k rest fits e = by (p k) refl e
  where
    by : (b : Bool) → p k ≡ b → if◌then◌else◌ {A = Option (List Slot)} b (Some ss) None ≡ Some rest → Behind k rest
    by true is e = record { passes = implied (p k) (is_of_constant k) (fits.0 k) is; are_fit = subst AreFit (same_Some ss rest e) fits.1 }
    by false is e = absurd (none-some rest e)
after_fits (any p ∷ ss) k rest fits e = by (p k) refl e (after_fits ss k rest fits.1)
  where
    by : (b : Bool) → p k ≡ b → if◌then◌else◌ {A = Option (List Slot)} b (Some (any p ∷ ss)) (after ss k) ≡ Some rest → (after ss k ≡ Some rest → Behind k rest) → Behind k rest
    by true is e later = record { passes = implied (p k) (is_of_constant k) (fits.0 k) is; are_fit = subst AreFit (same_Some (any p ∷ ss) rest e) fits }
    by false is e later = later e

all_fit : (ss : List Slot) (ks : List NodeKind) → AreFit ss → fit ss ks ≡ true → AllByRecursion (λ (k : NodeKind). is_of_constant k ≡ true) ks
unfolding fit
all_fit ss [] fits e = tt
all_fit ss (k ∷ ks) fits e = by (after ss k) refl e (λ rest are so. all_fit rest ks are so)
  where
    by : (o : Option (List Slot)) → after ss k ≡ o → elim o [ None ↦ false | Some rest ↦ fit rest ks ] ≡ true → ((rest : List Slot) → AreFit rest → fit rest ks ≡ true → AllByRecursion (λ (k : NodeKind). is_of_constant k ≡ true) ks) → AllByRecursion (λ (k : NodeKind). is_of_constant k ≡ true) (k ∷ ks)
    by None is so more = absurd (true≢false (sym so))
    by (Some rest) is so more = let b : Behind k rest = after_fits ss k rest fits is in (b.passes, more rest b.are_fit so)

as_kinds : (nodes : List Node) (cs : List ℕ) → AllByRecursion (λ (k : NodeKind). is_of_constant k ≡ true) (map (kind_at nodes) cs) → Pass nodes is_of_constant cs
as_kinds nodes [] all = tt
as_kinds nodes (c ∷ cs) all = (all.0, as_kinds nodes cs all.1)

pub children_pass : (nodes : List Node) → HaveForms nodes → (i : ℕ) (its : Node) → slice_get nodes i ≡ Some its → is_of_constant its.kind ≡ true → Pass nodes is_of_constant its.children
children_pass nodes shaped i its at is = as_kinds nodes its.children (all_fit (slots its.kind) (map (kind_at nodes) its.children) (slots_fit its.kind is) (children_fit nodes shaped i its at))

pub in_constants : (nodes : List Node) (rounds : List Round) → HaveForms nodes → IsPostOrder nodes → IsTree nodes → AreRounds nodes rounds → (e : ℕ) (its : Node) → slice_get nodes e ≡ Some its → is_of_constant its.kind ≡ true →
    (n : ℕ) → (round_at rounds e).first ≤ n → n < e → is_of_constant (kind_at nodes n) ≡ true
in_constants nodes rounds shaped order tree are e its at is =
    all_pass nodes is_of_constant (children_pass nodes shaped) (round_at rounds e).first e its.children (is_subtree nodes rounds tree are order e its at) (children_pass nodes shaped e its at is)

-- and so is what stands below a Decl, which is its type
pub in_declarations : (nodes : List Node) (rounds : List Round) → HaveForms nodes → IsPostOrder nodes → IsTree nodes → AreRounds nodes rounds → (e : ℕ) (its : Node) → slice_get nodes e ≡ Some its → its.kind ≡ kind.Decl →
    (n : ℕ) → (round_at rounds e).first ≤ n → n < e → is_of_constant (kind_at nodes n) ≡ true
in_declarations nodes rounds shaped order tree are e its at is =
    let fits : AreFit (slots its.kind) = subst (λ (k : NodeKind). AreFit (slots k)) (sym is) (types, tt) in
    all_pass nodes is_of_constant (children_pass nodes shaped) (round_at rounds e).first e its.children (is_subtree nodes rounds tree are order e its at)
    (as_kinds nodes its.children (all_fit (slots its.kind) (map (kind_at nodes) its.children) fits (children_fit nodes shaped e its at)))
