-- What is read inside a routine: neither routines nor Parms. So a routine whose node held none before its heading has no Parm.
use Rattle.std.proofs.Common.{◌≡◌, ◌∙◌, ◌⊎◌, ℕ, zero, suc, ◌+◌, ◌-◌, ◌<◌, ◌≤◌, ◌&&◌, not, Bool, true, false, if◌then◌else◌, List, [], ◌∷◌, ◌++◌, length, take, drop, Option, Some, None, slice_get, refl, ap, sym, subst, inl, inr, arith, append-nil}
use Rattle.std.specs.List.{list_all}
use Rattle.std.proofs.lemmas.Option.{slice_get_within}
use Rattle.clu_lexer.specs.declared.symbols.Symbol.{Symbol}
use Rattle.clu_lexer.specs.declared.symbols.Symbol.TheVariants as s
use Rattle.clu_tree.specs.declared.node.Node.{Node}
use Rattle.clu_tree.specs.declared.node.NodeKind.{NodeKind}
use Rattle.clu_tree.specs.declared.node.NodeKind.TheVariants as kind
use Rattle.clu_grammar.specs.declared.items.Action.{Action}
use Rattle.clu_grammar.specs.declared.items.Action.TheVariants as action
use Rattle.clu_grammar.specs.declared.items.Item.{Item}
use Rattle.clu_grammar.specs.declared.items.Item.TheVariants as item
use Rattle.clu_grammar.specs.declared.items.Nonterminal.{Nonterminal}
use Rattle.clu_grammar.specs.declared.items.Nonterminal.TheVariants as r
use Rattle.clu_grammar.specs.Grammar.{productions}
use Rattle.clu_grammar.specs.Language.{IsOneOf}
use Rattle.clu_grammar.specs.Rows.{Production, take as takes, peek, otherwise}
use Rattle.clu_grammar.proofs.Flags.{and_left, and_right, implied}
use Rattle.clu_grammar.proofs.Tests.{implies, items_of}
use Rattle.clu_parser.specs.declared.begun.Begun.{Begun}
use Rattle.clu_parser.specs.Trees.{Text, Built, acted, node_of, closed}
use Rattle.clu_parser.proofs.Above.{IsAbove, above_alternative, above_is}
use Rattle.clu_parser.proofs.Deriving.{Ran, stopped, took, did, chose}
use Rattle.clu_parser.proofs.Effects.{ends}
use Rattle.clu_parser.proofs.Reading.{begun_after, begun_left}
use Rattle.clu_declares.proofs.Parents.{IsIn}
use Rattle.clu_passes.proofs.HeldTops.{IsInside, acted_inside, closes_parm}
use Rattle.clu_passes.proofs.PlainNodes.{ArePlain, IsClosed, IsNoParm, IsPlace, acted_plain, closed_is, closes_routine, in_drop, no_parm_more, plain_more}

-- ---- what stands inside a routine: neither routines nor Parms

abbrev pub is_inner : Nonterminal → Bool
is_inner r.File = false
is_inner r.Modules = false
is_inner r.Definition = false
is_inner r.ModuleItem = false
is_inner r.Proc = false
is_inner r.Iter = false
is_inner r.ClusterBody = false
is_inner r.ClusterDefinition = false
is_inner r.ClusterOwns = false
is_inner r.Routines = false
is_inner r.Routine = false
is_inner r.Parms = false
is_inner r.ParmsRest = false
is_inner r.ParmRest = false
is_inner _ = true

abbrev pub is_inner_kind : NodeKind → Bool
is_inner_kind kind.Routine = false
is_inner_kind kind.Parm = false
is_inner_kind _ = true

abbrev pub is_inner_action : Action → Bool
is_inner_action (action.Close k) = is_inner_kind k
is_inner_action _ = true

abbrev pub are_inner : List Item → Bool
are_inner [] = true
are_inner (item.Terminal x ∷ items) = are_inner items
are_inner (item.Action a ∷ items) = is_inner_action a && are_inner items
are_inner (item.Nonterminal n ∷ items) = is_inner n && are_inner items

inner_rows : (n : Nonterminal) → implies (is_inner n) (list_all (λ p. are_inner (items_of p)) (productions n)) ≡ true
inner_rows r.File = refl
inner_rows _ = refl

-- a test that holds of all productions holds of each alternative
module _ (test : List Item → Bool) (through : (x : Symbol) (items : List Item) → test (item.Terminal x ∷ items) ≡ test items) where
  pub of_one : (ps : List Production) (row : List Item) → list_all (λ p. test (items_of p)) ps ≡ true → IsOneOf ps row → test row ≡ true
  of_one [] row all one = absurd one
  of_one (p ∷ ps) row all (inr one) = of_one ps row (and_right (test (items_of p)) (list_all (λ p. test (items_of p)) ps) all) one
  of_one (takes heads items ∷ ps) row all (inl is) = ap test is.2 ∙ through is.0 items ∙ and_left (test items) (list_all (λ p. test (items_of p)) ps) all
  of_one (peek heads items ∷ ps) row all (inl is) = ap test is ∙ and_left (test items) (list_all (λ p. test (items_of p)) ps) all
  of_one (otherwise items ∷ ps) row all (inl is) = ap test is ∙ and_left (test items) (list_all (λ p. test (items_of p)) ps) all

inner_row : (n : Nonterminal) (row : List Item) → is_inner n ≡ true → IsOneOf (productions n) row → are_inner row ≡ true
inner_row n row is one = of_one are_inner (λ x items. refl) (productions n) row (implied (is_inner n) (list_all (λ p. are_inner (items_of p)) (productions n)) (inner_rows n) is) one

no_routine : (a : Action) → is_inner_action a ≡ true → closes_routine a ≡ false
no_routine (action.Close kind.Routine) e = absurd (cc)
no_routine (action.Close kind.File) e = refl
no_routine (action.Close _) e = refl
no_routine action.Open e = refl
no_routine _ e = refl

pub inner_plain : (t : Text) (items : List Item) (at : ℕ) (b : Built) (to : ℕ) (z : Built) → Ran t items at b to z → are_inner items ≡ true → ArePlain b.nodes → ArePlain z.nodes
inner_plain t _ at b _ _ (stopped _ _) inner plain = plain
inner_plain t _ at b to z (took x items _ _ _ _ is d) inner plain = inner_plain t items (at + 1) b to z d inner plain
inner_plain t _ at b to z (did a items _ _ c _ _ is d) inner plain =
    inner_plain t items at c to z d (and_right (is_inner_action a) (are_inner items) inner) (acted_plain t a (at - 1) b c is (no_routine a (and_left (is_inner_action a) (are_inner items) inner)) plain)
inner_plain t _ at b to z (chose n items row _ _ mid c _ _ one it d e) inner plain =
    inner_plain t items mid c to z e (and_right (is_inner n) (are_inner items) inner)
    (inner_plain t row at b mid c d (inner_row n row (and_left (is_inner n) (are_inner items) inner) one) plain)

no_parm : (a : Action) → is_inner_action a ≡ true → closes_parm a ≡ false
no_parm (action.Close kind.Parm) e = absurd (cc)
no_parm (action.Close kind.File) e = refl
no_parm (action.Close _) e = refl
no_parm action.Open e = refl
no_parm _ e = refl

module _ (h : ℕ) (os : List Begun) (old : List ℕ) where
  pub inner_inside : (t : Text) (items : List Item) (at : ℕ) (b : Built) (to : ℕ) (z : Built) (depth : ℕ) → Ran t items at b to z → are_inner items ≡ true → IsAbove items depth → IsInside h os old depth b → IsInside h os old (begun_left items depth) z
  inner_inside t _ at b _ _ depth (stopped _ _) inner above x = x
  inner_inside t _ at b to z depth (took y items _ _ _ _ is d) inner above x = inner_inside t items (at + 1) b to z depth d inner above x
  inner_inside t _ at b to z depth (did a items _ _ c _ _ is d) inner above x =
      inner_inside t items at c to z (begun_after a depth) d (and_right (is_inner_action a) (are_inner items) inner) above.1
      (acted_inside h os old t a (at - 1) depth b c is (no_parm a (and_left (is_inner_action a) (are_inner items) inner)) above.0 x)
  inner_inside t _ at b to z depth (chose n items row _ _ mid c _ _ one it d e) inner above x =
      let its = above_alternative n row [] depth one (above.0, above.1, tt) in
      let row_above : IsAbove row depth = subst (λ (ys : List Item). IsAbove ys depth) (append-nil row) its.0 in
      let left : begun_left row depth ≡ depth - ends n = sym (ap (λ (ys : List Item). begun_left ys depth) (append-nil row)) ∙ its.1 in
      let inside : IsInside h os old (begun_left row depth) c = inner_inside t row at b mid c depth d (inner_row n row (and_left (is_inner n) (are_inner items) inner) one) row_above x in
      inner_inside t items mid c to z (depth - ends n) e (and_right (is_inner n) (are_inner items) inner) above.2 (subst (λ (k : ℕ). IsInside h os old k c) left inside)

-- ---- a routine

abbrev pub front_of : Nonterminal → List Item
front_of r.Iter =
    item.Nonterminal r.Decls ∷ item.Terminal s.RightParen ∷ item.Nonterminal r.Yields ∷ item.Nonterminal r.Signals ∷ item.Nonterminal r.Where ∷ item.Nonterminal r.RoutineBody ∷ item.Terminal s.End ∷ item.Terminal s.Idn ∷ item.Action action.Note ∷ []
front_of _ =
    item.Nonterminal r.Decls ∷ item.Terminal s.RightParen ∷ item.Nonterminal r.Returns ∷ item.Nonterminal r.Signals ∷ item.Nonterminal r.Where ∷ item.Nonterminal r.RoutineBody ∷ item.Terminal s.End ∷ item.Terminal s.Idn ∷ item.Action action.Note ∷ []

abbrev pub is_head : Nonterminal → Bool
is_head r.Proc = true
is_head r.Iter = true
is_head _ = false

abbrev pub ending : List Item
ending = item.Action (action.Close kind.Routine) ∷ []

pub record IsRow (n : Nonterminal) (row : List Item) : Type 0 where
  pub x : Symbol
  pub is : row ≡ item.Terminal x ∷ (front_of n ++ ending)

pub head_row : (n : Nonterminal) (row : List Item) → is_head n ≡ true → IsOneOf (productions n) row → IsRow n row
head_row r.Proc row is (inl one) = record { x = one.0; is = one.2 }
head_row r.Proc row is (inr never) = absurd never
head_row r.Iter row is (inl one) = record { x = one.0; is = one.2 }
head_row r.Iter row is (inr never) = absurd never
head_row r.File row is one = absurd (cc)
head_row _ row is one = absurd (cc)

front_inner : (n : Nonterminal) → is_head n ≡ true → are_inner (front_of n) ≡ true
front_inner r.Proc is = refl
front_inner r.Iter is = refl
front_inner r.File is = absurd (cc)
front_inner _ is = absurd (cc)

front_above : (n : Nonterminal) → is_head n ≡ true → IsAbove (front_of n) 1
front_above r.Proc is = above_is (front_of r.Proc) 1 refl
front_above r.Iter is = above_is (front_of r.Iter) 1 refl
front_above r.File is = absurd (cc)
front_above _ is = absurd (cc)

front_left : (n : Nonterminal) → is_head n ≡ true → begun_left (front_of n) 1 ≡ 1
front_left r.Proc is = refl
front_left r.Iter is = refl
front_left r.File is = absurd (cc)
front_left _ is = absurd (cc)

-- a run of items in two
record Halves (t : Text) (row items : List Item) (at : ℕ) (b : Built) (to : ℕ) (z : Built) : Type 0 where
  mid : ℕ
  middle : Built
  first : Ran t row at b mid middle
  rest : Ran t items mid middle to z

halves : (t : Text) (row items xs : List Item) (at : ℕ) (b : Built) (to : ℕ) (z : Built) → Ran t xs at b to z → xs ≡ row ++ items → Halves t row items at b to z
halves t [] items xs at b to z d same = record { mid = at; middle = b; first = stopped at b; rest = subst (λ (x : List Item). Ran t x at b to z) same d }
halves t (i ∷ row) items _ at b _ _ (stopped _ _) same = absurd (cc)
halves t (i ∷ row) items _ at b to z (took x xs _ _ _ _ is d) same =
    let head : item.Terminal x ≡ i = cc in
    let h = halves t row items xs (at + 1) b to z d (cc) in
    record { mid = h.mid; middle = h.middle; first = subst (λ (j : Item). Ran t (j ∷ row) at b h.mid h.middle) head (took x row at b h.mid h.middle is h.first); rest = h.rest }
halves t (i ∷ row) items _ at b to z (did a xs _ _ c _ _ is d) same =
    let head : item.Action a ≡ i = cc in
    let h = halves t row items xs at c to z d (cc) in
    record { mid = h.mid; middle = h.middle; first = subst (λ (j : Item). Ran t (j ∷ row) at b h.mid h.middle) head (did a row at b c h.mid h.middle is h.first); rest = h.rest }
halves t (i ∷ row) items _ at b to z (chose n xs inside _ _ m c _ _ one it d e) same =
    let head : item.Nonterminal n ≡ i = cc in
    let h = halves t row items xs m c to z e (cc) in
    record { mid = h.mid; middle = h.middle; first = subst (λ (j : Item). Ran t (j ∷ row) at b h.mid h.middle) head (chose n row inside at b m c h.mid h.middle one it d h.first); rest = h.rest }

-- the row of a routine in two
pub record InRow (t : Text) (n : Nonterminal) (b : Built) (to : ℕ) (c : Built) : Type 0 where
  pub at : ℕ
  pub mid : ℕ
  pub middle : Built
  pub first : Ran t (front_of n) at b mid middle
  pub rest : closed t kind.Routine (mid - 1) middle ≡ Some c

ended : (t : Text) (items : List Item) (at : ℕ) (b : Built) (to : ℕ) (z : Built) → Ran t items at b to z → items ≡ ending → closed t kind.Routine (at - 1) b ≡ Some z
ended t _ at b _ _ (stopped _ _) same = absurd (cc)
ended t _ at b to z (took x items _ _ _ _ is d) same = absurd (cc)
ended t _ at b to z (chose n items row _ _ mid c _ _ one it d e) same = absurd (cc)
ended t _ at b to z (did a items _ _ c _ _ is d) same =
    let closes_it : a ≡ action.Close kind.Routine = cc in
    let none : items ≡ [] = cc in
    let last : c ≡ z = at_end t items at c to z d none in
    subst (λ (y : Built). closed t kind.Routine (at - 1) b ≡ Some y) last (subst (λ (a : Action). acted t a (at - 1) b ≡ Some c) closes_it is)
  where
    at_end : (t : Text) (items : List Item) (at : ℕ) (b : Built) (to : ℕ) (z : Built) → Ran t items at b to z → items ≡ [] → b ≡ z
    at_end t _ at b _ _ (stopped _ _) none = refl
    at_end t _ at b to z (took x items _ _ _ _ is d) none = absurd (cc)
    at_end t _ at b to z (did a items _ _ c _ _ is d) none = absurd (cc)
    at_end t _ at b to z (chose n items row _ _ mid c _ _ one it d e) none = absurd (cc)

pub in_row : (t : Text) (n : Nonterminal) (x : Symbol) (row : List Item) (at : ℕ) (b : Built) (to : ℕ) (c : Built) → Ran t row at b to c → row ≡ item.Terminal x ∷ (front_of n ++ ending) → InRow t n b to c
in_row t n x _ at b _ _ (stopped _ _) same = absurd (cc)
in_row t n x _ at b to c (did a items _ _ d _ _ is e) same = absurd (cc)
in_row t n x _ at b to c (chose m items row _ _ mid d _ _ one it e f) same = absurd (cc)
in_row t n x _ at b to c (took y items _ _ _ _ is d) same =
    let h : Halves t (front_of n) ending (at + 1) b to c = halves t (front_of n) ending items (at + 1) b to c d (cc) in
    record { at = at + 1; mid = h.mid; middle = h.middle; first = h.first; rest = ended t ending h.mid h.middle to c h.rest refl }

-- the innermost node that has begun holds none yet
pub record IsFresh (b : Built) : Type 0 where
  pub o : Begun
  pub os : List Begun
  pub begun : b.begun ≡ o ∷ os
  pub height : o.height ≡ length b.tops

-- the nodes before the last one are plain
pub record IsDue (c : Built) : Type 0 where
  pub before : List Node
  pub node : Node
  pub nodes : c.nodes ≡ before ++ node ∷ []
  pub plain : ArePlain before

module _ (t : Text) (n : Nonterminal) (is : is_head n ≡ true) (b c : Built) (to : ℕ) (x : InRow t n b to c) (plain : ArePlain b.nodes) where
  abbrev m : Built
  m = x.middle

  y : IsClosed t kind.Routine (x.mid - 1) x.middle c
  y = closed_is t kind.Routine (x.mid - 1) x.middle c x.middle.begun refl x.rest

  abbrev its : Node
  its = node_of t kind.Routine (x.mid - 1) x.middle.nodes (drop y.o.height x.middle.tops) y.o

  front_plain : ArePlain m.nodes
  front_plain = inner_plain t (front_of n) x.at b x.mid m x.first (front_inner n is) plain

  -- so are those before the routine; and this one if it held none before its heading
  pub routine_due : IsDue c
  routine_due = record { before = m.nodes; node = its; nodes = ap (λ (z : Built). z.nodes) y.is; plain = front_plain }

  pub fresh_plain : IsFresh b → ArePlain c.nodes
  fresh_plain f =
      subst (λ (z : Built). ArePlain z.nodes) (sym y.is)
      (plain_more m.nodes its front_plain (λ routine. inl (λ child inside. no_parm_more m.nodes its child (held child inside))))
    where
      start : IsInside (length b.tops) f.os b.tops 1 b
      start = record { over = record { above = []; o = f.o; is = f.begun; height = f.height; size = omega arith }; tops = λ k v e. inl e }

      last : IsInside (length b.tops) f.os b.tops 1 m
      last = subst (λ (k : ℕ). IsInside (length b.tops) f.os b.tops k m) (front_left n is) (inner_inside (length b.tops) f.os b.tops t (front_of n) x.at b x.mid m 1 x.first (front_inner n is) (front_above n is) start)

      -- the node that ends is the one that held none
      same_height : (above : List Begun) (o : Begun) → m.begun ≡ above ++ o ∷ f.os → o.height ≡ length b.tops → length above + 1 ≡ 1 → y.o.height ≡ length b.tops
      same_height [] o e h l = let one : y.o ≡ o = (let both : (y.o ∷ y.os) ≡ o ∷ f.os = sym y.begun ∙ e in cc) in ap (λ (o : Begun). o.height) one ∙ h
      same_height (a ∷ above) o e h l = absurd (omega (arith, l))

      height : y.o.height ≡ length b.tops
      height = same_height last.over.above last.over.o last.over.is last.over.height last.over.size

      held : (child : ℕ) → IsIn child (drop y.o.height m.tops) → IsNoParm m.nodes child
      held child inside =
          let p : IsPlace m.tops (y.o.height) child = in_drop y.o.height child m.tops inside in
          elim (last.tops p.place child p.there) [
            | inl old ↦ absurd (let less : p.place < length b.tops = slice_get_within b.tops p.place child old in let more : y.o.height ≤ p.place = p.behind in omega (arith, less, more, height))
            | inr made ↦ made
          ]
