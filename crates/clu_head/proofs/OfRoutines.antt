-- What the parts of a Routine are, and heads while the arena grows.
use Rattle.std.proofs.Common.{◌≡◌, ◌∙◌, ℕ, ◌+◌, ◌<◌, ◌≤◌, Bool, true, false, List, [], ◌∷◌, ◌++◌, length, take, get_or, map, Option, Some, None, refl, ap, sym, subst, append_assoc, take_all}
use Rattle.std.proofs.lemmas.List.{append-nil, take_more}
use Rattle.std.specs.Prelude.{slice_get}
use Rattle.clu_base.proofs.Lists.{got_front}
use Rattle.clu_tree.specs.declared.node.Node.{Node}
use Rattle.clu_tree.specs.declared.node.NodeKind.TheVariants as kind
use Rattle.clu_syntax.specs.declared.words.RoutineKind.{RoutineKind}
use Rattle.clu_syntax.specs.declared.modules.Routine.{Routine as RoutineView}
use Rattle.clu_syntax.specs.Kinds.{kind_of}
use Rattle.clu_syntax.specs.Syntax.{Typed, Routine, a_named_type, no_constants, no_types}
use Rattle.clu_syntax.specs.Items.{Item, no_item, no_type, declarations_at, types_at, exceptions_at}
use Rattle.clu_syntax.specs.Nodes.{item_with, routine_of}
use Rattle.clu_syntax.specs.Views.{routine_told}
use Rattle.clu_types.specs.declared.term.TypeId.{TypeId}
use Rattle.clu_types.specs.declared.term.Term.{Term}
use Rattle.clu_types.specs.Arena.{Grows}
use Rattle.clu_types.proofs.Parts.{parts_more}
use Rattle.clu_types.proofs.Carrying.{length_grows}
use Rattle.clu_settle.specs.declared.value.Value.{Value}
use Rattle.clu_head.specs.declared.asked.Asked.{Asked}
use Rattle.clu_head.specs.declared.head.RoutineHead.{RoutineHead}
use Rattle.clu_head.specs.declared.known.Known.{Known}
use Rattle.clu_head.specs.declared.routines.Named.{Named}
use Rattle.clu_head.specs.Listed.{listed}
use Rattle.clu_head.specs.Named.{name_rank}
use Rattle.clu_head.specs.Outside.{heading_outside}
use Rattle.clu_head.specs.Ranks.{before, same, first_of}
use Rattle.clu_head.specs.Terms.{is_refused_heading, routine_term, IsNumbered}
use Rattle.clu_head.specs.Routines.{kind_in, arguments_in, results_in, exceptions_in, is_iterator, is_iterator_at, name_at, term_at, is_routine, once_if, routines_among, named_told, routines_named, listed_nodes, IsHead, AreHeads, HaveMore, AreListed}

-- ---- the parts of a Routine, by a reading of nodes that gives each number a part of its own

abbrev pub label : ℕ → Item
label c = record no_item {
  declaration = record { node = c; names = []; type = no_type };
  type = a_named_type c [] no_constants;
  exception = record { node = c; name = []; types = no_types };
}

declarations_named : (xs ys : List ℕ) → declarations_at label xs ≡ declarations_at label ys → xs ≡ ys
declarations_named [] [] e = refl
declarations_named [] (y ∷ ys) e = absurd (cc)
declarations_named (x ∷ xs) [] e = absurd (cc)
declarations_named (x ∷ xs) (y ∷ ys) e =
    let heads : (label x).declaration ≡ (label y).declaration = cc in
    let first : x ≡ y = ap (λ (t : Typed). t.node) heads in
    let rest : declarations_at label xs ≡ declarations_at label ys = cc in
    let others : xs ≡ ys = declarations_named xs ys rest in
    cc

types_named : (xs ys : List ℕ) → types_at label xs ≡ types_at label ys → xs ≡ ys
types_named [] [] e = refl
types_named [] (y ∷ ys) e = absurd (cc)
types_named (x ∷ xs) [] e = absurd (cc)
types_named (x ∷ xs) (y ∷ ys) e =
    let first : x ≡ y = cc in
    let rest : types_at label xs ≡ types_at label ys = cc in
    let others : xs ≡ ys = types_named xs ys rest in
    cc

exceptions_named : (xs ys : List ℕ) → exceptions_at label xs ≡ exceptions_at label ys → xs ≡ ys
exceptions_named [] [] e = refl
exceptions_named [] (y ∷ ys) e = absurd (cc)
exceptions_named (x ∷ xs) [] e = absurd (cc)
exceptions_named (x ∷ xs) (y ∷ ys) e =
    let first : x ≡ y = cc in
    let rest : exceptions_at label xs ≡ exceptions_at label ys = cc in
    let others : xs ≡ ys = exceptions_named xs ys rest in
    cc

heading_same : (refused : Bool) (own : Option TypeId) (nodes : List Node) (values : List Value) (k l : RoutineKind) (xs ys rs ss es fs : List ℕ) → k ≡ l → xs ≡ ys → rs ≡ ss → es ≡ fs
    → routine_term refused k (heading_outside own nodes values xs rs es) ≡ routine_term refused l (heading_outside own nodes values ys ss fs)
heading_same refused own nodes values k l xs ys rs ss es fs p q r s =
    ap (λ (x : RoutineKind). routine_term refused x (heading_outside own nodes values xs rs es)) p
    ∙ ap (λ (x : List ℕ). routine_term refused l (heading_outside own nodes values x rs es)) q
    ∙ ap (λ (x : List ℕ). routine_term refused l (heading_outside own nodes values ys x es)) r
    ∙ ap (λ (x : List ℕ). routine_term refused l (heading_outside own nodes values ys ss x)) s

pub term_viewed : (k : Known) (own : Option TypeId) (n : ℕ) (v : RoutineView) (its : Option Node) → kind_of its ≡ kind.Routine → routine_told label n v ≡ (item_with label k.syntax.now n its).routine
    → routine_term (is_refused_heading k.syntax.now k.refused.now k.rounds.now n) v.kind (heading_outside own k.syntax.now k.values.now v.arguments.now v.results.now v.exceptions.now) ≡ term_at k own n its
unfolding term_at
term_viewed k own n v None is e = absurd (cc)
term_viewed k own n v (Some node) is e =
    let nodes = k.syntax.now in
    let whole = e ∙ ap (routine_of label nodes n node) is in
    heading_same (is_refused_heading nodes k.refused.now k.rounds.now n) own nodes k.values.now v.kind (kind_in node)
    v.arguments.now (arguments_in nodes node) v.results.now (results_in nodes node) v.exceptions.now (exceptions_in nodes node)
    (ap (λ (r : Routine). r.kind) whole)
    (declarations_named v.arguments.now (arguments_in nodes node) (ap (λ (r : Routine). r.arguments) whole))
    (types_named v.results.now (results_in nodes node) (ap (λ (r : Routine). r.results) whole))
    (exceptions_named v.exceptions.now (exceptions_in nodes node) (ap (λ (r : Routine). r.signals) whole))

pub iterator_viewed : (nodes : List Node) (n : ℕ) (v : RoutineView) (its : Option Node) → kind_of its ≡ kind.Routine → routine_told label n v ≡ (item_with label nodes n its).routine → is_iterator v.kind ≡ is_iterator_at its
iterator_viewed nodes n v None is e = absurd (cc)
iterator_viewed nodes n v (Some node) is e = ap (λ (r : Routine). is_iterator r.kind) (e ∙ ap (routine_of label nodes n node) is)

pub name_viewed : (nodes : List Node) (n : ℕ) (v : RoutineView) (its : Option Node) → kind_of its ≡ kind.Routine → routine_told label n v ≡ (item_with label nodes n its).routine → v.name.now ≡ name_at its
name_viewed nodes n v None is e = absurd (cc)
name_viewed nodes n v (Some node) is e = ap (λ (r : Routine). r.name) (e ∙ ap (routine_of label nodes n node) is)

-- ---- heads while the arena grows

numbered_later : (old new later : List Term) → Grows new later → (t : Option Term) (id : Option TypeId) → IsNumbered old new t id → IsNumbered old later t id
numbered_later old new later grows (Some t) (Some id) is = ap (λ (ts : List Term). slice_get ts id.0) grows.1 ∙ got_front new grows.0 id.0 t is
numbered_later old new later grows (Some t) None is = is
numbered_later old new later grows None (Some id) is = is
numbered_later old new later grows None None is = is

numbered_earlier : (earlier old new : List Term) → Grows earlier old → (t : Option Term) (id : Option TypeId) → IsNumbered old new t id → IsNumbered earlier new t id
numbered_earlier earlier old new grows (Some t) (Some id) is = is
numbered_earlier earlier old new grows (Some t) None is = λ below. is (parts_more (length earlier) (length old) (length_grows earlier old grows) t below)
numbered_earlier earlier old new grows None (Some id) is = is
numbered_earlier earlier old new grows None None is = is

module _ (k : Known) (asked : Asked) (own : Option TypeId) (exports : List (List ℕ)) where
  abbrev is : List Term → List Term → ℕ → RoutineHead → Type 0
  is old new = IsHead k asked own exports old new

  abbrev nodes : List Node
  nodes = k.syntax.now

  pub head_wider : (first old new last : List Term) → Grows first old → Grows new last → (n : ℕ) (h : RoutineHead) → is old new n h → is first last n h
  head_wider first old new last front behind n h its = record {
    node = its.node;
    name = its.name;
    iter = its.iter;
    of_type = numbered_later first new last behind (term_at k own n (slice_get nodes n)) h.of_type (numbered_earlier first old new front (term_at k own n (slice_get nodes n)) h.of_type its.of_type);
    demands = its.demands;
    exported = its.exported;
  }

  pub heads_wider : (first old new last : List Term) → Grows first old → Grows new last → (ns : List ℕ) (hs : List RoutineHead) → AreHeads (is old new) ns hs → AreHeads (is first last) ns hs
  heads_wider first old new last front behind [] [] are = tt
  heads_wider first old new last front behind [] (h ∷ hs) are = are
  heads_wider first old new last front behind (n ∷ ns) [] are = are
  heads_wider first old new last front behind (n ∷ ns) (h ∷ hs) are = (head_wider first old new last front behind n h are.0, heads_wider first old new last front behind ns hs are.1)

  heads_joined : (P : ℕ → RoutineHead → Type 0) (ns ms : List ℕ) (hs gs : List RoutineHead) → AreHeads P ns hs → AreHeads P ms gs → AreHeads P (ns ++ ms) (hs ++ gs)
  heads_joined P [] ms [] gs a b = b
  heads_joined P [] ms (h ∷ hs) gs a b = absurd a
  heads_joined P (n ∷ ns) ms [] gs a b = absurd a
  heads_joined P (n ∷ ns) ms (h ∷ hs) gs a b = (a.0, heads_joined P ns ms hs gs a.1 b)

  among_joined : (ns : List ℕ) (n : ℕ) → routines_among nodes (ns ++ n ∷ []) ≡ routines_among nodes ns ++ once_if (is_routine nodes n) n
  among_joined [] n = append-nil (once_if (is_routine nodes n) n)
  among_joined (m ∷ ns) n = ap (λ (xs : List ℕ). once_if (is_routine nodes m) m ++ xs) (among_joined ns n) ∙ sym (append_assoc (once_if (is_routine nodes m) m) (routines_among nodes ns) (once_if (is_routine nodes n) n))

  pub same_grows : (ts : List Term) → Grows ts ts
  same_grows ts = ([], sym (append-nil ts))

  pub heads_next : (first old new : List Term) → Grows first old → Grows old new → (all : List ℕ) (i : ℕ) → i < length all → (hs gs : List RoutineHead)
      → AreHeads (is first old) (routines_among nodes (take i all)) hs → HaveMore nodes (is old new) (get_or all i 0) hs gs → AreHeads (is first new) (routines_among nodes (take (i + 1) all)) gs
  unfolding HaveMore
  heads_next first old new front behind all i inside hs gs have more =
      let n : ℕ = get_or all i 0 in
      let done : List ℕ = take i all in
      let made : List RoutineHead = more.0 in
      let earlier : AreHeads (is first new) (routines_among nodes done) hs = heads_wider first first old new (same_grows first) behind (routines_among nodes done) hs have in
      let latest : AreHeads (is first new) (once_if (is_routine nodes n) n) made = heads_wider first old new new front (same_grows new) (once_if (is_routine nodes n) n) made more.2 in
      let joined : AreHeads (is first new) (routines_among nodes done ++ once_if (is_routine nodes n) n) (hs ++ made) = heads_joined (is first new) (routines_among nodes done) (once_if (is_routine nodes n) n) hs made earlier latest in
      let whole : routines_among nodes (take (i + 1) all) ≡ routines_among nodes done ++ once_if (is_routine nodes n) n = ap (routines_among nodes) (take_more all i 0 inside) ∙ among_joined done n in
      subst (λ (xs : List RoutineHead). AreHeads (is first new) (routines_among nodes (take (i + 1) all)) xs) (sym more.1)
      (subst (λ (xs : List ℕ). AreHeads (is first new) xs (hs ++ made)) (sym whole) joined)

  pub heads_all : (P : ℕ → RoutineHead → Type 0) (all : List ℕ) (i : ℕ) → length all ≤ i → (hs : List RoutineHead) → AreHeads P (routines_among nodes (take i all)) hs → AreHeads P (routines_among nodes all) hs
  heads_all P all i past hs are = subst (λ (xs : List ℕ). AreHeads P (routines_among nodes xs) hs) (take_all i all past) are

-- ---- what is appended, and those of a cluster

module _ (nodes : List Node) (P : ℕ → RoutineHead → Type 0) where
  pub one_made : (n : ℕ) (old new : List RoutineHead) (h : RoutineHead) → is_routine nodes n ≡ true → new ≡ old ++ h ∷ [] → P n h → HaveMore nodes P n old new
  unfolding HaveMore
  one_made n old new h is e p = (h ∷ [], e, subst (λ (b : Bool). AreHeads P (once_if b n) (h ∷ [])) (sym is) (p, tt))

  pub none_made : (n : ℕ) (old new : List RoutineHead) → is_routine nodes n ≡ false → new ≡ old → HaveMore nodes P n old new
  unfolding HaveMore
  none_made n old new is e = ([], e ∙ sym (append-nil old), subst (λ (b : Bool). AreHeads P (once_if b n) []) (sym is) tt)

  pub listed_heads : (ns : List ℕ) (rs ls : List Named) (hs gs : List RoutineHead) → map named_told rs ≡ routines_named nodes ns → ls ≡ listed (before name_rank) (same name_rank) first_of rs → gs ≡ hs
      → AreHeads P (routines_among nodes (map (λ r. r.node) ls)) hs → AreListed nodes P ns gs
  unfolding AreListed
  listed_heads ns rs ls hs gs named list e are = (
    rs,
    named,
    subst (λ (xs : List RoutineHead). AreHeads P (routines_among nodes (listed_nodes rs)) xs) (sym e)
        (subst (λ (xs : List Named). AreHeads P (routines_among nodes (map (λ r. r.node) xs)) hs) list are),
  )
