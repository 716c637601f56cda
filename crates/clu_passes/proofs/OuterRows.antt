-- What is read outside of routines: so each routine of the tree is plain.
use Rattle.std.proofs.Common.{◌≡◌, ◌∙◌, ◌⊎◌, ℕ, zero, suc, ◌+◌, ◌-◌, ◌<◌, ◌≤◌, ◌&&◌, not, Bool, true, false, if◌then◌else◌, List, [], ◌∷◌, ◌++◌, length, take, drop, Option, Some, None, slice_get, refl, ap, sym, subst, inl, inr, arith, append-nil}
use Rattle.std.specs.List.{list_all}
use Rattle.std.proofs.lemmas.Bool.{not-true, not_from_false, cases_Bool}
use Rattle.std.proofs.lemmas.List.{length_push}
use Rattle.clu_lexer.specs.declared.symbols.Symbol.{Symbol}
use Rattle.clu_tree.specs.declared.node.Node.{Node}
use Rattle.clu_tree.specs.declared.node.NodeKind.{NodeKind}
use Rattle.clu_tree.specs.declared.node.NodeKind.TheVariants as kind
use Rattle.clu_grammar.specs.declared.items.Action.{Action}
use Rattle.clu_grammar.specs.declared.items.Action.TheVariants as action
use Rattle.clu_grammar.specs.declared.items.Item.{Item}
use Rattle.clu_grammar.specs.declared.items.Item.TheVariants as item
use Rattle.clu_grammar.specs.declared.items.Nonterminal.{Nonterminal}
use Rattle.clu_grammar.specs.declared.items.Nonterminal.TheVariants as r
use Rattle.clu_grammar.specs.Grammar.{productions}
use Rattle.clu_grammar.specs.Language.{IsOneOf, whole}
use Rattle.clu_grammar.proofs.Flags.{and_left, and_right, implied}
use Rattle.clu_grammar.proofs.Tests.{implies, items_of}
use Rattle.clu_parser.specs.declared.begun.Begun.{Begun}
use Rattle.clu_parser.specs.Spellings.{is_idn}
use Rattle.clu_parser.specs.Trees.{Text, Built, acted, IsBuilt, nothing_built, node_of, opened, noted, noted_in}
use Rattle.clu_parser.proofs.Deriving.{Ran, stopped, took, did, chose, ran_whole}
use Rattle.clu_parser.proofs.Forest.{got_last}
use Rattle.clu_syntax.specs.Splits.{is_of}
use Rattle.clu_passes.proofs.InnerRows.{InRow, IsDue, IsFresh, IsRow, fresh_plain, head_row, in_row, is_head, of_one, routine_due}
use Rattle.clu_passes.proofs.PlainNodes.{ArePlain, IsClosed, acted_plain, closed_is, closes_routine, got_either, plain_still}

-- ---- rows outside of routines: a routine comes where the innermost node holds none, or its module ends behind it

abbrev wants_fresh : Nonterminal → Bool
wants_fresh r.ClusterDefinition = true
wants_fresh r.Routine = true
wants_fresh _ = false

abbrev is_fresh_after : Action → Bool → Bool
is_fresh_after action.Open fresh = true
is_fresh_after action.Note fresh = fresh
is_fresh_after _ fresh = false

abbrev ends_module : Item → Bool
ends_module (item.Action (action.Close kind.Module)) = true
ends_module (item.Action (action.Close _)) = false
ends_module (item.Action _) = false
ends_module (item.Terminal x) = false
ends_module (item.Nonterminal n) = false

-- `due` says that a routine has just ended whose module is to end behind it
abbrev are_outer : Bool → Bool → List Item → Bool
are_outer true fresh [] = false
are_outer true fresh (i ∷ items) = ends_module i && are_outer false false items
are_outer false fresh [] = true
are_outer false fresh (item.Terminal x ∷ items) = are_outer false fresh items
are_outer false fresh (item.Action a ∷ items) = not (closes_routine a) && are_outer false (is_fresh_after a fresh) items
are_outer false fresh (item.Nonterminal n ∷ items) = if is_head n then are_outer (not fresh) false items else implies (wants_fresh n) fresh && are_outer false false items

outer_rows : (n : Nonterminal) → implies (not (is_head n)) (list_all (λ p. are_outer false (wants_fresh n) (items_of p)) (productions n)) ≡ true
outer_rows r.File = refl
outer_rows _ = refl

outer_row : (n : Nonterminal) (row : List Item) → is_head n ≡ false → IsOneOf (productions n) row → are_outer false (wants_fresh n) row ≡ true
outer_row n row other one =
    of_one (are_outer false (wants_fresh n)) (λ x items. refl) (productions n) row
    (implied (not (is_head n)) (list_all (λ p. are_outer false (wants_fresh n) (items_of p)) (productions n)) (outer_rows n) (not_from_false (is_head n) other)) one

module_end : (a : Action) → ends_module (item.Action a) ≡ true → a ≡ action.Close kind.Module
module_end (action.Close kind.Module) e = refl
module_end (action.Close kind.File) e = absurd (cc)
module_end (action.Close _) e = absurd (cc)
module_end action.Open e = absurd (cc)
module_end _ e = absurd (cc)

-- ---- the innermost node, after an action

noted_fresh : (is_name : Bool) (taken : ℕ) (b c : Built) (all : List Begun) → b.begun ≡ all → noted_in is_name taken b all ≡ Some c → IsFresh b → IsFresh c
noted_fresh is_name taken b c [] same e f = absurd (cc)
noted_fresh is_name taken b c (o ∷ os) same e f =
    let its : record { nodes = b.nodes; tops = b.tops; begun = noted is_name taken o ∷ os } ≡ c = cc in
    let one : o ≡ f.o = (let both : (o ∷ os) ≡ f.o ∷ f.os = sym same ∙ f.begun in cc) in
    subst IsFresh its (record { o = noted is_name taken o; os = os; begun = refl; height = height is_name ∙ ap (λ (o : Begun). o.height) one ∙ f.height })
  where
    height : (is_name : Bool) → (noted is_name taken o).height ≡ o.height
    height true = refl
    height false = refl

fresh_after : (t : Text) (a : Action) (taken : ℕ) (b c : Built) (fresh : Bool) → acted t a taken b ≡ Some c → (fresh ≡ true → IsFresh b) → is_fresh_after a fresh ≡ true → IsFresh c
fresh_after t action.Open taken b c fresh e f is =
    let its : opened taken taken (length b.tops) b ≡ c = cc in
    subst IsFresh its (record { o = record { first = taken; mark = taken; height = length b.tops; names = []; value = None }; os = b.begun; begun = refl; height = refl })
fresh_after t action.Note taken b c fresh e f is = noted_fresh (is_idn (slice_get t.symbols taken)) taken b c b.begun refl e (f is)
fresh_after t action.Wrap taken b c fresh e f is = absurd (cc)
fresh_after t (action.Close k) taken b c fresh e f is = absurd (cc)
fresh_after t action.Base taken b c fresh e f is = absurd (cc)
fresh_after t action.Give taken b c fresh e f is = absurd (cc)

-- ---- the module of a routine ends

behind_module : (before : List Node) (node m : Node) → m.kind ≡ kind.Module → ArePlain before → ArePlain ((before ++ node ∷ []) ++ m ∷ [])
behind_module before node m ends plain i n at is = elim (got_either (before ++ node ∷ []) m i n at) [
  | inl old ↦ elim (got_either before node i n old) [
    | inl older ↦ plain_still (before ++ node ∷ []) m i n (plain_still before node i n (plain i n older is))
    | inr here ↦
        (let place : i ≡ length before = here.1 in
        let size : length (before ++ node ∷ []) ≡ i + 1 = omega (arith, place, length_push before node) in
        inr (m, subst (λ (k : ℕ). slice_get ((before ++ node ∷ []) ++ m ∷ []) k ≡ Some m) size (got_last (before ++ node ∷ []) m), ends))
  ]
  | inr new ↦ absurd (let bad : kind.Module ≡ kind.Routine = sym ends ∙ ap (λ (n : Node). n.kind) new.0 ∙ is in cc)
]

module_plain : (t : Text) (taken : ℕ) (b c : Built) (a : Action) → acted t a taken b ≡ Some c → a ≡ action.Close kind.Module → IsDue b → ArePlain c.nodes
module_plain t taken b c a e ends due =
    let x : IsClosed t kind.Module taken b c = closed_is t kind.Module taken b c b.begun refl (subst (λ (a : Action). acted t a taken b ≡ Some c) ends e) in
    let node : Node = node_of t kind.Module taken b.nodes (drop x.o.height b.tops) x.o in
    subst (λ (y : Built). ArePlain y.nodes) (sym x.is)
    (subst (λ (ns : List Node). ArePlain (ns ++ node ∷ [])) (sym due.nodes) (behind_module due.before due.node node refl due.plain))

-- ---- all of it

abbrev IsSoFar : Bool → Built → Type 0
IsSoFar true b = IsDue b
IsSoFar false b = ArePlain b.nodes

after_head : (t : Text) (n : Nonterminal) (b c : Built) (to : ℕ) (fresh : Bool) → is_head n ≡ true → InRow t n b to c → ArePlain b.nodes → (fresh ≡ true → IsFresh b) → IsSoFar (not fresh) c
after_head t n b c to true is x plain f = fresh_plain t n is b c to x plain (f refl)
after_head t n b c to false is x plain f = routine_due t n is b c to x plain

outer_plain : (t : Text) (items : List Item) (at : ℕ) (b : Built) (to : ℕ) (z : Built) (due fresh : Bool) → Ran t items at b to z → are_outer due fresh items ≡ true → (fresh ≡ true → IsFresh b) → IsSoFar due b → ArePlain z.nodes
outer_plain t _ at b _ _ false fresh (stopped _ _) outer f plain = plain
outer_plain t _ at b _ _ true fresh (stopped _ _) outer f plain = absurd (cc)
outer_plain t _ at b to z false fresh (took x items _ _ _ _ is d) outer f plain = outer_plain t items (at + 1) b to z false fresh d outer f plain
outer_plain t _ at b to z true fresh (took x items _ _ _ _ is d) outer f plain = absurd (cc)
outer_plain t _ at b to z false fresh (did a items _ _ c _ _ is d) outer f plain =
    outer_plain t items at c to z false (is_fresh_after a fresh) d (and_right (not (closes_routine a)) (are_outer false (is_fresh_after a fresh) items) outer)
    (fresh_after t a (at - 1) b c fresh is f)
    (acted_plain t a (at - 1) b c is (not-true (closes_routine a) (and_left (not (closes_routine a)) (are_outer false (is_fresh_after a fresh) items) outer)) plain)
outer_plain t _ at b to z true fresh (did a items _ _ c _ _ is d) outer f plain =
    outer_plain t items at c to z false false d (and_right (ends_module (item.Action a)) (are_outer false false items) outer) (λ e. absurd (cc))
    (module_plain t (at - 1) b c a is (module_end a (and_left (ends_module (item.Action a)) (are_outer false false items) outer)) plain)
outer_plain t _ at b to z true fresh (chose n items row _ _ mid c _ _ one it d e) outer f plain = absurd (cc)
outer_plain t _ at b to z false fresh (chose n items row _ _ mid c _ _ one it d e) outer f plain = elim (cases_Bool (is_head n)) [
  | inl head ↦
      (let x : IsRow n row = head_row n row head one in
      let rest : are_outer (not fresh) false items ≡ true = sym (ap (λ (b : Bool). if b then are_outer (not fresh) false items else implies (wants_fresh n) fresh && are_outer false false items) head) ∙ outer in
      outer_plain t items mid c to z (not fresh) false e rest (λ e. absurd (cc)) (after_head t n b c mid fresh head (in_row t n x.x row at b mid c d x.is) plain f))
  | inr other ↦
      (let both : (implies (wants_fresh n) fresh && are_outer false false items) ≡ true = sym (ap (λ (b : Bool). if b then are_outer (not fresh) false items else implies (wants_fresh n) fresh && are_outer false false items) other) ∙ outer in
      outer_plain t items mid c to z false false e (and_right (implies (wants_fresh n) fresh) (are_outer false false items) both) (λ e. absurd (cc))
      (outer_plain t row at b mid c false (wants_fresh n) d (outer_row n row other one)
      (λ wants. f (implied (wants_fresh n) fresh (and_left (implies (wants_fresh n) fresh) (are_outer false false items) both) wants)) plain))
]

pub built_plain : (t : Text) (z : Built) → IsBuilt t z → ArePlain z.nodes
built_plain t z built = outer_plain t whole 0 nothing_built (length t.symbols) z false false (ran_whole t z built) refl (λ e. absurd (cc)) (λ i n at is. absurd (cc))
