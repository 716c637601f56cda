-- What is asked by numbers, in worlds that follow each other: one need is asked, and all that comes of it.
use Rattle.std.proofs.Common.{◌≡◌, ◌∙◌, ◌⊎◌, inl, inr, ℕ, zero, suc, ◌+◌, ◌-◌, ◌<◌, ◌≤◌, ◌&&◌, nat_lt, nat_le, Bool, true, false, true≢false, if◌then◌else◌, List, [], ◌∷◌, ◌++◌, Contains, length, map, take, drop, get_or, slice_get, option_map, option_and_then, Option, Some, None, IfSome, Result, Ok, Err, IfOk, refl, sym, ap, subst, arith, ltb, ltb-true, ltb-false, lt-ltb}
use Rattle.std.proofs.lemmas.List.{append-nil, drop_all, drop_more}
use Rattle.std.proofs.lemmas.Option.{same_Some}
use Rattle.indexmap.specs.IndexSet.{insert_key}
use Rattle.clu_base.specs.declared.errors.Memory.{Memory}
use Rattle.clu_base.proofs.Lists.{none_is_not, head_or_tail, in_head, in_tail, in_none}
use Rattle.clu_types.specs.CluType.{CluType}
use Rattle.clu_types.specs.Arena.{type_at, types_of, Grows}
use Rattle.clu_types.specs.declared.term.Term.{Term}
use Rattle.clu_types.specs.declared.term.TypeId.{TypeId}
use Rattle.clu_types.proofs.Arenas.{types_grown}
use Rattle.clu_types.proofs.Carrying.{grows_on, length_grows}
use Rattle.clu_layout.specs.SameType.{fits}
use Rattle.clu_bindings.specs.Tables.{between}
use Rattle.clu_bindings.specs.declared.file.Headed.{Headed}
use Rattle.clu_operations.specs.declared.found.Asked.{Asked}
use Rattle.clu_operations.specs.declared.found.Found.{Found}
use Rattle.clu_operations.specs.declared.found.FoundId.{FoundId}
use Rattle.clu_operations.specs.declared.shapes.Shape.TheVariants as shape
use Rattle.clu_operations.specs.Shapes.{shape_of}
use Rattle.clu_operations.specs.Finding.{found_at, found_or_none, asked_by, IsBelowIf, IsAskedBelow, AreAskedBelow, IsFoundBelow, AreFoundBelow, Extends}
use Rattle.clu_operations.specs.Told.{Ask, Told, told, ask_told}
use Rattle.clu_operations.specs.Wished.{told_seen, IsFinding, FindsOf}
use Rattle.clu_operations.proofs.Naming.{length_extends}
use Rattle.clu_operations.proofs.Lasting.{follows_self, follows_on}
use Rattle.clu_type_rules.specs.declared.unmet.Clauses.{Clauses}
use Rattle.clu_type_rules.specs.declared.unmet.Need.{Need}
use Rattle.clu_type_rules.specs.Closed.{IsAnswered, IsMet, HasAdded}
use Rattle.clu_type_rules.specs.Included.{is_included, may_be}
use Rattle.clu_type_rules.specs.Meeting.{may_fit, plain, asks_if, asks_of}
use Rattle.clu_type_rules.specs.Needs.{clauses_at, told_for, told_shape, told_asked, World, Later, Due, due, seen, same_need, need_of, with_asked, with_asked_if, Setting, Looks, dues, is_fine, IsThere, AreThere, Asks, AreAnswered, AreUnder, Stands, Steps, Comes, Rests, MeetsOne}
use Rattle.clu_type_rules.proofs.Keys.{need_equal, clauses_equal, same_clauses, clauses_self}
use Rattle.clu_type_rules.proofs.Lists.{in_mapped, from_mapped, at_front, added_none, added_one}
use Rattle.clu_type_rules.proofs.Closing as closing
use Rattle.clu_type_rules.proofs.Closing.{Asking}

-- ---- worlds

pub grows_self : (terms : List Term) → Grows terms terms
grows_self terms = ([], sym (append-nil terms))

pub later_self : (w : World) → Later w w
later_self w = (([], sym (append-nil w.terms)), follows_self w.finding)

pub later_on : (u v w : World) → Later u v → Later v w → Later u w
later_on u v w g h = (grows_on u.terms v.terms w.terms g.0 h.0, follows_on u.finding v.finding w.finding g.1 h.1)

name_kept : (xs ys : List (List ℕ)) (k : ℕ) → k < length xs → get_or (xs ++ ys) k [] ≡ get_or xs k []
name_kept [] ys k lt = absurd (omega (arith, lt))
name_kept (x ∷ xs) ys zero lt = refl
name_kept (x ∷ xs) ys (suc k) lt = name_kept xs ys k (omega (arith, lt))

name_stays : (old new : List (List ℕ)) → Extends old new → (k : ℕ) → k < length old → get_or new k [] ≡ get_or old k []
name_stays old new g k lt = ap (λ (l : List (List ℕ)). get_or l k []) g.1 ∙ name_kept old g.0 k lt

join3 : {A B C D : Type 0} (f : A → B → C → D) {a a' : A} {b b' : B} {c c' : C} → a ≡ a' → b ≡ b' → c ≡ c' → f a b c ≡ f a' b' c'
join3 f p q r = cc

pub stays : (v w : World) → Later v w → (a : Need) → IsThere v a → IsThere w a
stays v w g a h = record {
  of = omega (arith, h.of, length_grows v.terms w.terms g.0);
  wanted = omega (arith, h.wanted, length_grows v.terms w.terms g.0);
  operation = omega (arith, h.operation, length_extends v.finding.words w.finding.words g.1.words);
}

pub same : (v w : World) → Later v w → (a : Need) → IsThere v a → seen w a ≡ seen v a
same v w g a h =
    join3 (λ (t : CluType) (name : List ℕ) (u : CluType). due a.under (record { of = t; operation = name; wanted = u; in_set = false }))
    (types_grown v.terms w.terms g.0 a.of h.of) (name_stays v.finding.words w.finding.words g.1.words a.operation.0 h.operation) (types_grown v.terms w.terms g.0 a.wanted h.wanted)

-- ---- which operation it is

module _ (headed : Headed) (terms : List Term) (names : List (List ℕ)) (n : ℕ) (need : Need) where
  pub parameter_told : (number : ℕ) → shape_of terms need.of ≡ shape.Parameter number
      → option_and_then (told_for headed (types_of terms) number (type_at (types_of terms) need.wanted) n) (slice_get names need.operation.0) ≡ told_asked headed terms names n need
  unfolding told_asked
  parameter_told number e = sym (ap (told_shape headed terms names n need) e)

  pub builtin_told : shape_of terms need.of ≡ shape.Builtin → told_seen headed terms names None need.of (Some need.operation) ≡ told_asked headed terms names n need
  unfolding told_asked
  builtin_told e = sym (ap (told_shape headed terms names n need) e)

  pub cluster_told : shape_of terms need.of ≡ shape.Cluster → told_seen headed terms names None need.of (Some need.operation) ≡ told_asked headed terms names n need
  unfolding told_asked
  cluster_told e = sym (ap (told_shape headed terms names n need) e)

-- ---- what an operation asks, by numbers

pub asks_seen : (w : World) (under : Clauses) (asked : List Asked) → map (due under) (map plain (map (ask_told (types_of w.terms) w.finding.words) asked)) ≡ map (seen w) (map (need_of under) asked)
asks_seen w under [] = refl
asks_seen w under (a ∷ asked) = ap (λ (ds : List Due). seen w (need_of under a) ∷ ds) (asks_seen w under asked)

pub found_below : (n p : ℕ) (founds : List Found) (k : ℕ) → k < length founds → AreFoundBelow n p founds → IsFoundBelow n p (found_or_none (slice_get founds k))
found_below n p [] k lt b = absurd (omega (arith, lt))
found_below n p (x ∷ founds) zero lt b = b.0
found_below n p (x ∷ founds) (suc k) lt b = found_below n p founds k (omega (arith, lt)) b.1

asked_drop : (n p : ℕ) (k : ℕ) (asked : List Asked) → AreAskedBelow n p asked → AreAskedBelow n p (drop k asked)
asked_drop n p zero asked b = b
asked_drop n p (suc k) [] b = tt
asked_drop n p (suc k) (a ∷ asked) b = asked_drop n p k asked b.1

asked_take : (n p : ℕ) (k : ℕ) (asked : List Asked) → AreAskedBelow n p asked → AreAskedBelow n p (take k asked)
asked_take n p zero asked b = tt
asked_take n p (suc k) [] b = tt
asked_take n p (suc k) (a ∷ asked) b = (b.0, asked_take n p k asked b.1)

asked_between : (n p : ℕ) (asked : List Asked) (from to : ℕ) → AreAskedBelow n p asked → AreAskedBelow n p (between asked from to)
asked_between n p asked from to b = by (nat_le from to && nat_le to (length asked))
  where
    by : (t : Bool) → AreAskedBelow n p (if t then take (to - from) (drop from asked) else [])
    by true = asked_take n p (to - from) (drop from asked) (asked_drop n p from asked b)
    by false = tt

asked_in : (n p : ℕ) (asked : List Asked) → AreAskedBelow n p asked → (a : Asked) → Contains asked a → IsAskedBelow n p a
asked_in n p [] b a h = in_none a h
asked_in n p (x ∷ asked) b a h = elim (head_or_tail x asked a h) [
  | inl is ↦ subst (IsAskedBelow n p) is b.0
  | inr there ↦ asked_in n p asked b.1 a there
]

-- what was found asks for types and names that are there
pub asked_there : (headed : Headed) (w : World) → IsFinding headed w.terms w.finding → (id : FoundId) (a : Asked) → Contains (asked_by w.finding id) a → IsAskedBelow (length w.terms) (length w.finding.words) a
asked_there headed w finding id a h =
    let its : Found = found_at w.finding.founds.items id in
    asked_in (length w.terms) (length w.finding.words) (asked_by w.finding id)
    (asked_between (length w.terms) (length w.finding.words) w.finding.asked.items its.from its.to finding.within.asked) a h

-- what was found asks these needs
pub needs_there : (headed : Headed) (w : World) → IsFinding headed w.terms w.finding → (under : Clauses) (id : FoundId) → AreThere w (map (need_of under) (asked_by w.finding id))
needs_there headed w finding under id a h =
    let r = from_mapped (need_of under) (asked_by w.finding id) a h in
    let b : IsAskedBelow (length w.terms) (length w.finding.words) r.0 = asked_there headed w finding id r.0 r.1 in
    let it : IsThere w (need_of under r.0) = record { of = b.0; wanted = b.1; operation = b.2 } in
    subst (IsThere w) r.2 it

-- ---- inclusion by numbers

included_same : (terms : List Term) (a b : TypeId) → a.0 < length terms → b.0 < length terms → is_included terms a b ≡ fits (type_at (types_of terms) a) (type_at (types_of terms) b)
included_same terms a b p q =
    ap (λ (t : Bool). if t && nat_lt b.0 (length terms) then fits (type_at (types_of terms) a) (type_at (types_of terms) b) else true) (lt-ltb a.0 (length terms) p)
    ∙ ap (λ (t : Bool). if t then fits (type_at (types_of terms) a) (type_at (types_of terms) b) else true) (lt-ltb b.0 (length terms) q)

pub may_same : (terms : List Term) (of : Option TypeId) (wanted : TypeId) → IsBelowIf (length terms) of → wanted.0 < length terms → may_be terms of (Some wanted) ≡ may_fit (option_map (type_at (types_of terms)) of) (type_at (types_of terms) wanted)
may_same terms (Some a) wanted p q = included_same terms a wanted p q
may_same terms None wanted p q = refl

-- ---- with what is added

added_all : (under : Clauses) (asked : List Asked) (keys : List Need) → HasAdded keys (map (need_of under) asked) (with_asked under asked keys)
added_all under [] keys = added_none keys
added_all under (a ∷ asked) keys =
    added_one same_need need_equal keys (need_of under a) (map (need_of under) asked) (with_asked under asked (insert_key same_need keys (need_of under a)))
    (added_all under asked (insert_key same_need keys (need_of under a)))

-- those behind a place are added one after the other
pub with_next : (under : Clauses) (asked : List Asked) (i : ℕ) (other : Asked) → i < length asked → (keys new : List Need) (need : Need) → new ≡ insert_key same_need keys need → need ≡ need_of under (get_or asked i other)
    → with_asked under (drop (i + 1) asked) new ≡ with_asked under (drop i asked) keys
with_next under asked i other less keys new need inserted is =
    ap (with_asked under (drop (i + 1) asked)) (inserted ∙ ap (insert_key same_need keys) is)
    ∙ sym (ap (λ (l : List Asked). with_asked under l keys) (drop_more asked i other less))

pub with_all : (under : Clauses) (asked : List Asked) (i : ℕ) (keys : List Need) → length asked ≤ i → with_asked under (drop i asked) keys ≡ keys
with_all under asked i keys past = ap (λ (l : List Asked). with_asked under l keys) (drop_all i asked past)

-- ---- one need is asked

module _ (headed : Headed) (s : Setting) (n : ℕ) (v w : World) (met : List Need) (need : Need) (under : need.under ≡ clauses_at headed n) (stands : Stands headed s v met) (there : IsThere v need) (grows : Grows v.terms w.terms) (found : Option FoundId)
    (finds : FindsOf headed v.terms w.terms v.finding w.finding need.of (told_asked headed v.terms v.finding.words n need) found) where
  abbrev of : CluType
  of = type_at (types_of v.terms) need.of

  abbrev name : List ℕ
  name = get_or v.finding.words need.operation.0 []

  abbrev wanted : CluType
  wanted = type_at (types_of v.terms) need.wanted

  told_is : s.fine of ≡ true → option_map (told (types_of w.terms) w.finding) found ≡ s.found need.under of name wanted
  told_is fine =
      finds.tells (stands.looks.ascend of fine)
      ∙ stands.looks.told n v stands.later stands.finding need there
      ∙ ap (λ (u : Clauses). s.found u of name wanted) (sym under)

  dues_are : s.fine of ≡ true → (it : Option Told) → option_map (told (types_of w.terms) w.finding) found ≡ it → dues s (seen v need) ≡ option_map (map (due need.under)) (asks_if (s.found need.under) wanted it)
  dues_are fine it is = ap (λ (o : Option Told). option_map (map (due need.under)) (asks_if (s.found need.under) wanted o)) (sym (told_is fine) ∙ is)

  later : Later v w
  later = (grows, finds.follows)

  pub step_none : found ≡ None → Steps headed s v w met met need false
  step_none is = record {
    later = later;
    finding = finds.finding;
    more = λ e. absurd (true≢false (sym e));
    none = λ e fine. dues_are fine None (ap (option_map (told (types_of w.terms) w.finding)) is);
    same = λ e. refl;
  }

  module _ (id : FoundId) (is : found ≡ Some id) where
    abbrev it : Told
    it = told (types_of w.terms) w.finding id

    abbrev asked : List Need
    asked = map (need_of need.under) (asked_by w.finding id)

    here : id.0 < length w.finding.founds.items
    here = subst (λ (o : Option FoundId). IfSome o (λ i. i.0 < length w.finding.founds.items)) is finds.there

    tells : s.fine of ≡ true → Some it ≡ s.found need.under of name wanted
    tells fine = ap (option_map (told (types_of w.terms) w.finding)) (sym is) ∙ told_is fine

    fit : may_be w.terms (found_at w.finding.founds.items id).of (Some need.wanted) ≡ may_fit it.type wanted
    fit =
        may_same w.terms (found_at w.finding.founds.items id).of need.wanted
        (found_below (length w.terms) (length w.finding.asked.items) w.finding.founds.items id.0 here finds.finding.within.founds).0
        (omega (arith, there.wanted, length_grows v.terms w.terms grows))
        ∙ ap (may_fit it.type) (types_grown v.terms w.terms grows need.wanted there.wanted)

    asks_so : s.fine of ≡ true → (b : Bool) → may_fit it.type wanted ≡ b → dues s (seen v need) ≡ option_map (map (due need.under)) (if b then Some (map plain it.asks) else None)
    asks_so fine b e =
        dues_are fine (Some it) (ap (option_map (told (types_of w.terms) w.finding)) is)
        ∙ ap (λ (c : Bool). option_map (map (due need.under)) (if c then Some (map plain it.asks) else None)) e

    asks_fine : s.fine of ≡ true → (a : Need) → Contains asked a → is_fine s (seen w a) ≡ true
    asks_fine fine a h =
        let r = from_mapped (need_of need.under) (asked_by w.finding id) a h in
        subst (λ (x : Need). is_fine s (seen w x) ≡ true) r.2
        (stands.looks.fine need.under of name wanted it fine (sym (tells fine)) (ask_told (types_of w.terms) w.finding.words r.0)
        (in_mapped (ask_told (types_of w.terms) w.finding.words) (asked_by w.finding id) r.0 r.1))

    asks_all : may_fit it.type wanted ≡ true → Asks s v w met (with_asked need.under (asked_by w.finding id) met) need
    asks_all e = record {
      asked = asked;
      there = needs_there headed w finds.finding need.under id;
      added = added_all need.under (asked_by w.finding id) met;
      under = λ a h. (let r = from_mapped (need_of need.under) (asked_by w.finding id) a h in ap (λ (x : Need). x.under) (sym r.2));
      asks = λ fine. asks_so fine true e ∙ ap (λ (ds : List Due). Some ds) (asks_seen w need.under (asked_by w.finding id));
      fine = asks_fine;
    }

    step_by : (b : Bool) → may_fit it.type wanted ≡ b → (new : List Need) → new ≡ with_asked_if b need.under (asked_by w.finding id) met → Steps headed s v w met new need b
    step_by true e new keys = record {
      later = later;
      finding = finds.finding;
      more = λ t. subst (λ (l : List Need). Asks s v w met l need) (sym keys) (asks_all e);
      none = λ t. absurd (true≢false t);
      same = λ t. absurd (true≢false t);
    }
    step_by false e new keys = record {
      later = later;
      finding = finds.finding;
      more = λ t. absurd (true≢false (sym t));
      none = λ t fine. asks_so fine false e;
      same = λ t. keys;
    }

    pub step_some : (r : Result Bool Memory) (new : List Need) → IfOk r (λ b. b ≡ may_be w.terms (found_at w.finding.founds.items id).of (Some need.wanted)) → IfOk r (λ b. new ≡ with_asked_if b need.under (asked_by w.finding id) met)
        → IfOk r (Steps headed s v w met new need)
    step_some (Ok b) new may keys = step_by b (sym (may ∙ fit)) new keys
    step_some (Err m) new may keys = may

-- what is fine asks what is fine
module _ (headed : Headed) (s : Setting) (looks : Looks headed s) where
  fine_dues : (d : Due) (more : List Due) → is_fine s d ≡ true → dues s d ≡ Some more → (m : Due) → Contains more m → is_fine s m ≡ true
  fine_dues d more fine e m h = by (s.found d.under d.ask.of d.ask.operation d.ask.wanted) refl e
    where
      among : (op : Told) → s.found d.under d.ask.of d.ask.operation d.ask.wanted ≡ Some op → (b : Bool) → option_map (map (due d.under)) (if b then Some (map plain op.asks) else None) ≡ Some more → is_fine s m ≡ true
      among op is true e =
          let r = from_mapped (due d.under) (map plain op.asks) m (subst (λ (l : List Due). Contains l m) (sym (same_Some (map (due d.under) (map plain op.asks)) more e)) h) in
          let q = from_mapped plain op.asks r.0 r.1 in
          let its : s.fine r.0.of ≡ true = sym (ap (λ (a : Ask). s.fine a.of) q.2) ∙ looks.fine d.under d.ask.of d.ask.operation d.ask.wanted op fine is q.0 q.1 in
          subst (λ (x : Due). is_fine s x ≡ true) r.2 its
      among op is false e = none_is_not more e

      by : (o : Option Told) → s.found d.under d.ask.of d.ask.operation d.ask.wanted ≡ o → option_map (map (due d.under)) (asks_if (s.found d.under) d.ask.wanted o) ≡ Some more → is_fine s m ≡ true
      by (Some op) is e = among op is (may_fit op.type d.ask.wanted) e
      by None is e = none_is_not more e

-- ---- all that comes of needs from a place on

module _ (headed : Headed) (s : Setting) (start : World) (first : List Need) (before : ℕ) (under : Clauses) where
  abbrev pub So : World → List Need → ℕ → Type 0
  So now found n = Asking Later IsThere seen (dues s) (is_fine s) later_on stays same start first before now found n

  pub record GoesOn (now : World) (found : List Need) (n : ℕ) : Type 0 where
    pub few : n ≤ 9223372036854775808
    pub looks : Looks headed s
    pub since : Later s.start start
    pub finding : IsFinding headed now.terms now.finding
    pub so : So now found n
    pub mine : AreUnder under found before

  pub goes_first : Stands headed s start first → before ≤ 9223372036854775808 → AreUnder under first before → AreAnswered s start first before → GoesOn start first before
  goes_first stands few same_under answered = record {
    few = few;
    looks = stands.looks;
    since = stands.later;
    finding = stands.finding;
    so = closing.asking_first Later IsThere seen (dues s) (is_fine s) later_on stays same start first before (later_self start) stands.there answered;
    mine = same_under;
  }

  module _ (now : World) (found : List Need) (n : ℕ) (goes : GoesOn now found n) where
    pub goes_stands : Stands headed s now found
    goes_stands = record { looks = goes.looks; later = later_on s.start start now goes.since goes.so.later; finding = goes.finding; there = goes.so.there }

    pub goes_under : (need : Need) → slice_get found n ≡ Some need → need.under ≡ under
    goes_under need at = goes.mine n need goes.so.past at

    pub goes_more : (need : Need) → slice_get found n ≡ Some need → n < 9223372036854775808 → (newer : World) (new : List Need) → Steps headed s now newer found new need true → GoesOn newer new (n + 1)
    goes_more need at small newer new steps =
        let asks : Asks s now newer found new need = steps.more refl in
        record {
          few = omega (arith, small);
          looks = goes.looks;
          since = goes.since;
          finding = steps.finding;
          so = closing.asking_more Later IsThere seen (dues s) (is_fine s) later_on stays same start first before now found n goes.so newer steps.later new need at asks.asked asks.there asks.added asks.asks asks.fine;
          mine = λ k a le e. by asks k a le e (ltb k (length found)) refl;
        }
      where
        by : (asks : Asks s now newer found new need) (k : ℕ) (a : Need) → before ≤ k → slice_get new k ≡ Some a → (b : Bool) → ltb k (length found) ≡ b → a.under ≡ under
        by asks k a le e true lt = goes.mine k a le (at_front found new asks.added.front k a (omega (arith, ltb-true)) e)
        by asks k a le e false lt = asks.under a (asks.added.from k a (omega (arith, ltb-false)) e) ∙ goes_under need at

    pub goes_all : length found ≤ n → Comes headed s start now first found before true
    goes_all le = record {
      stands = goes_stands;
      later = goes.so.later;
      front = goes.so.front;
      closed = λ e. closing.asking_all Later IsThere seen (dues s) (is_fine s) later_on stays same start first before now found n goes.so le;
      none = λ e. absurd (true≢false e);
    }

    pub goes_none : (need : Need) → slice_get found n ≡ Some need → (newer : World) (new : List Need) → Steps headed s now newer found new need false → Comes headed s start newer first new before false
    goes_none need at newer new steps = subst (λ (l : List Need). Comes headed s start newer first l before false) (sym (steps.same refl)) (record {
      stands = record {
        looks = goes.looks;
        later = later_on s.start start newer goes.since (later_on start now newer goes.so.later steps.later);
        finding = steps.finding;
        there = closing.all_stay Later IsThere seen (dues s) (is_fine s) later_on stays same now newer steps.later found goes.so.there;
      };
      later = later_on start now newer goes.so.later steps.later;
      front = goes.so.front;
      closed = λ e. absurd (true≢false (sym e));
      none = λ e. closing.asking_none Later IsThere seen (dues s) (is_fine s) later_on stays same start first before now found n goes.so need at (steps.none refl);
    })

-- ---- what is met under clauses

module _ (s : Setting) (u : Clauses) where
  abbrev found : CluType → List ℕ → CluType → Option Told
  found = s.found u

  abbrev asks_under : List Due → List Ask
  asks_under [] = []
  asks_under (d ∷ ds) = if same_clauses d.under u then d.ask ∷ asks_under ds else asks_under ds

  to_under : (ds : List Due) (a : Ask) → Contains ds (due u a) → Contains (asks_under ds) a
  to_under [] a h = in_none (due u a) h
  to_under (d ∷ ds) a h = by (head_or_tail d ds (due u a) h) (to_under ds a)
    where
      later : (b : Bool) → Contains (asks_under ds) a → Contains (if b then d.ask ∷ asks_under ds else asks_under ds) a
      later true h = in_tail d.ask (asks_under ds) a h
      later false h = h

      this : d ≡ due u a → Contains (if same_clauses d.under u then d.ask ∷ asks_under ds else asks_under ds) a
      this is =
          let alike : same_clauses d.under u ≡ true = ap (λ (x : Due). same_clauses x.under u) is ∙ clauses_self u in
          subst (λ (b : Bool). Contains (if b then d.ask ∷ asks_under ds else asks_under ds) a) (sym alike) (in_head d.ask (asks_under ds) a (ap (λ (x : Due). x.ask) is))

      by : (d ≡ due u a) ⊎ Contains ds (due u a) → (Contains ds (due u a) → Contains (asks_under ds) a) → Contains (if same_clauses d.under u then d.ask ∷ asks_under ds else asks_under ds) a
      by (inl is) rest = this is
      by (inr there) rest = later (same_clauses d.under u) (rest there)

  join : {A B C : Type 0} (f : A → B → C) {a a' : A} {b b' : B} → a ≡ a' → b ≡ b' → f a b ≡ f a' b'
  join f p q = cc

  from_under : (ds : List Due) (a : Ask) → Contains (asks_under ds) a → Contains ds (due u a)
  from_under [] a h = in_none a h
  from_under (d ∷ ds) a h = by (same_clauses d.under u) refl (from_under ds a) h
    where
      first : d.under ≡ u → (Contains (asks_under ds) a → Contains ds (due u a)) → (d.ask ≡ a) ⊎ Contains (asks_under ds) a → Contains (d ∷ ds) (due u a)
      first e rest (inl is) = in_head d ds (due u a) (join (λ (x : Ask) (c : Clauses). due c x) is e)
      first e rest (inr there) = in_tail d ds (due u a) (rest there)

      by : (b : Bool) → same_clauses d.under u ≡ b → (Contains (asks_under ds) a → Contains ds (due u a)) → Contains (if b then d.ask ∷ asks_under ds else asks_under ds) a → Contains (d ∷ ds) (due u a)
      by true e rest h = first (clauses_equal d.under u e) rest (head_or_tail d.ask (asks_under ds) a h)
      by false e rest h = in_tail d ds (due u a) (rest h)

  abbrev in_turn : Option (List Ask) → Option (List Due)
  in_turn o = option_map (map (due u)) o

  to_answered : (those : List Due) (b : Ask) → IsAnswered (dues s) those (due u b) → IsAnswered (asks_of found) (asks_under those) b
  to_answered those b answered = by (asks_of found b) refl
    where
      by : (o : Option (List Ask)) → asks_of found b ≡ o → IsAnswered (asks_of found) (asks_under those) b
      by (Some asks) e = (asks, e, λ m h. to_under those m (answered.2 (due u m) (subst (λ (l : List Due). Contains l (due u m)) (same_Some (map (due u) asks) answered.0 (sym (ap in_turn e) ∙ answered.1)) (in_mapped (due u) asks m h))))
      by None e = none_is_not answered.0 (sym (ap in_turn e) ∙ answered.1)

  from_answered : (those : List Ask) (b : Ask) → IsAnswered (asks_of found) those b → IsAnswered (dues s) (map (due u) those) (due u b)
  from_answered those b answered = (
    map (due u) answered.0,
    ap in_turn answered.1,
    λ m h. (let r = from_mapped (due u) answered.0 m h in subst (λ (x : Due). Contains (map (due u) those) x) r.2 (in_mapped (due u) those r.0 (answered.2 r.0 r.1))),
  )

  pub met_under : (a : Ask) → IsMet (dues s) (due u a) → IsMet (asks_of found) a
  met_under a m = (asks_under m.0, to_under m.0 a m.1, λ b h. to_answered m.0 b (m.2 (due u b) (from_under m.0 b h)))

  pub met_over : (a : Ask) → IsMet (asks_of found) a → IsMet (dues s) (due u a)
  met_over a m = (
    map (due u) m.0,
    in_mapped (due u) m.0 a m.1,
    λ d h. (let r = from_mapped (due u) m.0 d h in subst (IsAnswered (dues s) (map (due u) m.0)) r.2 (from_answered m.0 r.0 (m.2 r.0 r.1))),
  )

-- ---- one need, besides those that are closed

module _ (headed : Headed) (s : Setting) (start : World) (met : List Need) (need : Need) (rests : Rests headed s start met) (there : IsThere start need) (first : List Need) (is : first ≡ insert_key same_need met need) (before : ℕ) (many : before ≡ length met) where
  pub one_stands : Stands headed s start first
  one_stands = record {
    looks = rests.stands.looks;
    later = rests.stands.later;
    finding = rests.stands.finding;
    there = closing.begun_there Later IsThere seen (dues s) (is_fine s) later_on stays same same_need need_equal later_self start met need rests.closed rests.stands.there there first is;
  }

  pub one_answered : AreAnswered s start first before
  one_answered = closing.begun_answered Later IsThere seen (dues s) (is_fine s) later_on stays same same_need need_equal later_self start met need rests.closed rests.stands.there there first is before many

  pub one_under : (under : Clauses) → need.under ≡ under → AreUnder under first before
  one_under under e k a le at =
      ap (λ (x : Need). x.under) (sym (closing.last_is Later IsThere seen (dues s) (is_fine s) later_on stays same same_need need_equal later_self start met need rests.closed rests.stands.there there first is k a (omega (arith, le, many)) at)) ∙ e

  module _ (now : World) (found : List Need) where
    pub one_met : Comes headed s start now first found before true → MeetsOne headed s start now found need true
    one_met comes = record {
      rests = record { stands = comes.stands; closed = comes.closed refl };
      later = comes.later;
      met = λ fine. (
        λ t. met_under s need.under (seen start need).ask (closing.is_met Later IsThere seen (dues s) (is_fine s) later_on stays same same_need need_equal later_self start met need rests.closed rests.stands.there there first is now found comes.later comes.front (comes.closed refl) fine (fine_dues headed s comes.stands.looks)),
        λ m. refl,
      );
    }

    pub one_not_met : Comes headed s start now first found before false → (left : List Need) → left ≡ take before found → MeetsOne headed s start now left need false
    one_not_met comes left taken =
        let left_is : left ≡ met = taken ∙ closing.met_left Later IsThere seen (dues s) (is_fine s) later_on stays same same_need need_equal later_self start met need rests.closed rests.stands.there there first is before many found comes.front in
        record {
          rests = record {
            stands = record {
              looks = comes.stands.looks;
              later = comes.stands.later;
              finding = comes.stands.finding;
              there = closing.left_there Later IsThere seen (dues s) (is_fine s) later_on stays same same_need need_equal later_self start met need rests.closed rests.stands.there there first is now comes.later left left_is;
            };
            closed = closing.left_closed Later IsThere seen (dues s) (is_fine s) later_on stays same same_need need_equal later_self start met need rests.closed rests.stands.there there first is now comes.later left left_is;
          };
          later = comes.later;
          met = λ fine. (
            λ t. absurd (true≢false (sym t)),
            λ m. absurd (closing.is_not_met Later IsThere seen (dues s) (is_fine s) later_on stays same same_need need_equal later_self start met need rests.closed rests.stands.there there first is before many (comes.none refl) fine (met_over s need.under (seen start need).ask m)),
          );
        }
