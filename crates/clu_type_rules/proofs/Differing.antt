-- What is noted of demands, in loops; and that the bits say which nodes disagree.
use Rattle.std.proofs.Common.{◌≡◌, ◌∙◌, ◌⊎◌, inl, inr, ℕ, zero, suc, ◌+◌, ◌<◌, ◌≤◌, ◌==◌, ◌&&◌, ◌||◌, not, Bool, true, false, cond, if◌then◌else◌, List, [], ◌∷◌, length, fold, drop, set, replicate, get_or, slice_get, bytes_eq, Option, Some, None, Result, Ok, Err, OnOk, refl, sym, ap, subst, arith}
use Rattle.std.specs.Bool.{Decides}
use Rattle.std.specs.List.{list_any}
use Rattle.std.proofs.Math.Bool.{and-false, or-false, or_self, or_assoc}
use Rattle.std.proofs.lemmas.Bool.{eq-eqb, eqb-true, eqb-false}
use Rattle.std.proofs.lemmas.Bool.Decides.{Decides-like, Decides-and, Decides-eqb}
use Rattle.std.proofs.lemmas.List.{drop_all, length-set, length-replicate, get_or-set_same, get_or-set_other}
use Rattle.std.proofs.lemmas.Slice.Eq.{bytes_eq-Decides}
use Rattle.clu_types.specs.declared.term.TypeId.{TypeId}
use Rattle.clu_head.specs.declared.asked.Asked.{Asked}
use Rattle.clu_head.specs.declared.head.Demanded.{Demanded}
use Rattle.clu_head.specs.Refused.{is_set}
use Rattle.clu_type_rules.specs.declared.disagreements.Operation.{Operation}
use Rattle.clu_type_rules.specs.Disagreeing.{are_other, disagrees, disagrees_with, demands_in, is_disagreeing, same, Note, seen_with, is_other_than, seen_in, marked, with_notes, operation_of, with_wanted, with_demand, with_clauses, State, state, AreNoted, Notes}

-- ---- loops

-- after the first i demands: what the rest brings about from here is what all bring about
abbrev pub Goes : List Demanded → ℕ → State → State → Type 0
Goes ds i old now = (new : State) → Notes (λ before. fold with_demand before (drop i ds)) now new → Notes (λ before. fold with_demand before ds) old new

pub goes_first : (ds : List Demanded) (old : State) → Goes ds 0 old old
goes_first ds old new rest = rest

pub stepped : (ds : List Demanded) (i : ℕ) (d : Demanded) (old now next : State) → drop i ds ≡ d ∷ drop (i + 1) ds → Goes ds i old now → Notes (λ before. with_demand before d) now next → Goes ds (i + 1) old next
stepped ds i d old now next at goes one =
    λ new rest. goes new (subst (λ (xs : List Demanded). Notes (λ before. fold with_demand before xs) now new) (sym at) (λ start notes are. rest start (with_demand notes d) (one start notes are)))

pub ended : (ds : List Demanded) (i : ℕ) (old now : State) → length ds ≤ i → Goes ds i old now → Notes (λ before. fold with_demand before ds) old now
ended ds i old now past goes = goes now (subst (λ (xs : List Demanded). Notes (λ before. fold with_demand before xs) now now) (sym (drop_all i ds past)) (λ start notes are. are))

-- one clause, of which nothing was noted before
pub clause_noted : {X E : Type 0} (r : Result X E) (ds : List Demanded) (old new : State) → ((name : Operation) → old.seen name ≡ None) → OnOk r (Notes (λ before. fold with_demand before ds) old new) → OnOk r (new.bits ≡ with_notes (fold with_demand [] ds) old.bits)
clause_noted (Ok x) ds old new none notes = (notes old.bits [] (record { seen = none; bits = refl })).bits
clause_noted (Err x) ds old new none notes = tt

-- ---- tests

-- of two types that differ, each is another one than a third or the other is
either_differs : (a b w : ℕ) → (b == a) ≡ false → true ≡ (not (a == w) || not (b == w))
either_differs a b w differ = by (a == w) refl (b == w) refl
  where
    by : (p : Bool) → (a == w) ≡ p → (q : Bool) → (b == w) ≡ q → true ≡ (not p || not q)
    by true e true f = absurd (eqb-false b a differ (eqb-true b w f ∙ sym (eqb-true a w e)))
    by true e false f = refl
    by false e q f = refl

-- ---- operations

pub operation_decided : (a b : Operation) → Decides (same a b) (a ≡ b)
operation_decided a b =
    Decides-like _ (λ e. join (λ (p : ℕ) (n : List ℕ). let x : Operation = record { parameter = p; name = n } in x) e.0 e.1)
    (λ e. (ap (λ (x : Operation). x.parameter) e, ap (λ (x : Operation). x.name) e))
    (Decides-and _ _ (Decides-eqb a.parameter b.parameter) (bytes_eq-Decides a.name b.name))
  where
    join : {A B C : Type 0} (f : A → B → C) {a a' : A} {b b' : B} → a ≡ a' → b ≡ b' → f a b ≡ f a' b'
    join f p q = cc

-- ---- what was seen says whether one of those before is of another type

abbrev is_other : Operation → TypeId → Note → Bool
is_other its wanted note = same note.operation its && not (note.wanted.0 == wanted.0)

seen_says : (its : Operation) (wanted : TypeId) (notes : List Note) → is_other_than wanted (seen_in notes its) ≡ list_any (is_other its wanted) notes
seen_says its wanted [] = refl
seen_says its wanted (note ∷ before) = by (same note.operation its) refl (seen_says its wanted before)
  where
    one_more : (old : Option (Option TypeId)) → is_other_than wanted (Some (seen_with note.wanted old)) ≡ (not (note.wanted.0 == wanted.0) || is_other_than wanted old)
    one_more None = sym (or-false (not (note.wanted.0 == wanted.0)))
    one_more (Some None) = sym (or_true (not (note.wanted.0 == wanted.0)))
      where
        or_true : (b : Bool) → (b || true) ≡ true
        or_true true = refl
        or_true false = refl
    one_more (Some (Some old)) = at (old.0 == note.wanted.0) refl
      where
        at : (b : Bool) → (old.0 == note.wanted.0) ≡ b → is_other_than wanted (Some (if b then Some note.wanted else None)) ≡ (not (note.wanted.0 == wanted.0) || not (old.0 == wanted.0))
        at true e =
            sym (or_self (not (note.wanted.0 == wanted.0)))
            ∙ ap (λ (k : ℕ). not (note.wanted.0 == wanted.0) || not (k == wanted.0)) (sym (eqb-true old.0 note.wanted.0 e))
        at false e = either_differs note.wanted.0 old.0 wanted.0 e

    by : (b : Bool) → same note.operation its ≡ b → is_other_than wanted (seen_in before its) ≡ list_any (is_other its wanted) before → is_other_than wanted (cond b (Some (seen_with note.wanted (seen_in before note.operation))) (seen_in before its)) ≡ ((b && not (note.wanted.0 == wanted.0)) || list_any (is_other its wanted) before)
    by true e rest =
        ap (λ (x : Operation). is_other_than wanted (Some (seen_with note.wanted (seen_in before x)))) ((operation_decided note.operation its).0 e)
        ∙ one_more (seen_in before its)
        ∙ ap (λ (b : Bool). not (note.wanted.0 == wanted.0) || b) rest
    by false e rest = rest

-- ---- notes of demands, the latest first

abbrev notes_of : List Demanded → List Note
notes_of [] = []
notes_of (d ∷ before) = with_wanted d d.wanted (notes_of before)

none_disagrees : (d : Demanded) → d.wanted ≡ None → (before : List Demanded) → list_any (disagrees d) before ≡ false
none_disagrees d none [] = refl
none_disagrees d none (e ∷ before) =
    ap (λ (b : Bool). b || list_any (disagrees d) before)
    (ap (λ (o : Option TypeId). (e.parameter == d.parameter && bytes_eq e.operation d.operation) && are_other e.wanted o) none ∙ ap (λ (b : Bool). (e.parameter == d.parameter && bytes_eq e.operation d.operation) && b) (other e.wanted) ∙ and-false (e.parameter == d.parameter && bytes_eq e.operation d.operation))
    ∙ none_disagrees d none before
  where
    other : (o : Option TypeId) → are_other o None ≡ false
    other (Some a) = refl
    other None = refl

notes_say : (d : Demanded) (wanted : TypeId) → d.wanted ≡ Some wanted → (before : List Demanded) → list_any (is_other (operation_of d) wanted) (notes_of before) ≡ list_any (disagrees d) before
notes_say d wanted is [] = refl
notes_say d wanted is (e ∷ before) = by e.wanted refl (notes_say d wanted is before)
  where
    alike : Bool
    alike = e.parameter == d.parameter && bytes_eq e.operation d.operation

    this : (o : Option TypeId) → e.wanted ≡ o → disagrees d e ≡ (alike && are_other o (Some wanted))
    this o at = ap (λ (w : Option TypeId). alike && are_other e.wanted w) is ∙ ap (λ (w : Option TypeId). alike && are_other w (Some wanted)) at

    by : (o : Option TypeId) → e.wanted ≡ o → list_any (is_other (operation_of d) wanted) (notes_of before) ≡ list_any (disagrees d) before → list_any (is_other (operation_of d) wanted) (with_wanted e o (notes_of before)) ≡ (disagrees d e || list_any (disagrees d) before)
    by None at rest =
        rest
        ∙ sym (ap (λ (b : Bool). b || list_any (disagrees d) before) (this None at ∙ and-false alike))
    by (Some v) at rest =
        ap (λ (b : Bool). (alike && not (v.0 == wanted.0)) || b) rest
        ∙ sym (ap (λ (b : Bool). b || list_any (disagrees d) before) (this (Some v) at))

-- ---- bits

bit_is : (bits : List Bool) (n : ℕ) → is_set (slice_get bits n) ≡ get_or bits n false
bit_is [] n = refl
bit_is (x ∷ xs) zero = refl
bit_is (x ∷ xs) (suc n) = bit_is xs n

none_set : (nodes n : ℕ) → is_set (slice_get (replicate nodes false) n) ≡ false
none_set zero n = refl
none_set (suc nodes) zero = refl
none_set (suc nodes) (suc n) = none_set nodes n

marked_size : (is : Bool) (n : ℕ) (bits : List Bool) → length (marked is n bits) ≡ length bits
marked_size true n bits = length-set bits n true
marked_size false n bits = refl

notes_size : (notes : List Note) (bits : List Bool) → length (with_notes notes bits) ≡ length bits
notes_size [] bits = refl
notes_size (note ∷ before) bits = marked_size (is_other_than note.wanted (seen_in before note.operation)) note.node (with_notes before bits) ∙ notes_size before bits

marked_at : (is : Bool) (m n : ℕ) (bits : List Bool) → n < length bits → is_set (slice_get (marked is m bits) n) ≡ (is_set (slice_get bits n) || (m == n && is))
marked_at false m n bits less = sym (ap (λ (b : Bool). is_set (slice_get bits n) || b) (and-false (m == n)) ∙ or-false (is_set (slice_get bits n)))
marked_at true m n bits less = by (m == n) refl
  where
    or_true : (b : Bool) → (b || true) ≡ true
    or_true true = refl
    or_true false = refl

    by : (b : Bool) → (m == n) ≡ b → is_set (slice_get (set bits m true) n) ≡ (is_set (slice_get bits n) || (b && true))
    by true e =
        bit_is (set bits m true) n
        ∙ ap (λ (k : ℕ). get_or (set bits k true) n false) (eqb-true m n e)
        ∙ get_or-set_same bits n true false less
        ∙ sym (or_true (is_set (slice_get bits n)))
    by false e =
        bit_is (set bits m true) n ∙ get_or-set_other bits m n true false (λ is. eqb-false m n e (sym is)) ∙ sym (bit_is bits n) ∙ sym (or-false (is_set (slice_get bits n)))

-- one demand more
demand_at : (d : Demanded) (before : List Demanded) (bits : List Bool) (n : ℕ) → n < length bits
    → is_set (slice_get (with_notes (notes_of (d ∷ before)) bits) n) ≡ (is_set (slice_get (with_notes (notes_of before) bits) n) || (d.node == n && list_any (disagrees d) before))
demand_at d before bits n less = by d.wanted refl
  where
    so_far : Bool
    so_far = is_set (slice_get (with_notes (notes_of before) bits) n)

    by : (o : Option TypeId) → d.wanted ≡ o → is_set (slice_get (with_notes (with_wanted d o (notes_of before)) bits) n) ≡ (so_far || (d.node == n && list_any (disagrees d) before))
    by None is =
        sym (ap (λ (b : Bool). so_far || (d.node == n && b)) (none_disagrees d is before) ∙ ap (λ (b : Bool). so_far || b) (and-false (d.node == n)) ∙ or-false so_far)
    by (Some wanted) is =
        marked_at (is_other_than wanted (seen_in (notes_of before) (operation_of d))) d.node n (with_notes (notes_of before) bits) (subst (λ (k : ℕ). n < k) (sym (notes_size (notes_of before) bits)) less)
        ∙ ap (λ (b : Bool). so_far || (d.node == n && b)) (seen_says (operation_of d) wanted (notes_of before) ∙ notes_say d wanted is before)

demands_at : (ds before : List Demanded) (bits : List Bool) (n : ℕ) → n < length bits
    → is_set (slice_get (with_notes (fold with_demand (notes_of before) ds) bits) n) ≡ (is_set (slice_get (with_notes (notes_of before) bits) n) || disagrees_with n before ds)
demands_at [] before bits n less = sym (or-false (is_set (slice_get (with_notes (notes_of before) bits) n)))
demands_at (d ∷ ds) before bits n less =
    demands_at ds (d ∷ before) bits n less
    ∙ ap (λ (b : Bool). b || disagrees_with n (d ∷ before) ds) (demand_at d before bits n less)
    ∙ or_assoc (is_set (slice_get (with_notes (notes_of before) bits) n)) (d.node == n && list_any (disagrees d) before) (disagrees_with n (d ∷ before) ds)

pub clauses_size : (asked : Asked) (many : ℕ) (bits : List Bool) → length (with_clauses asked many bits) ≡ length bits
clauses_size asked zero bits = refl
clauses_size asked (suc clause) bits = notes_size (fold with_demand [] (demands_in asked clause)) (with_clauses asked clause bits) ∙ clauses_size asked clause bits

clauses_at : (asked : Asked) (many : ℕ) (bits : List Bool) (n : ℕ) → n < length bits → is_set (slice_get (with_clauses asked many bits) n) ≡ (is_set (slice_get bits n) || is_disagreeing asked many n)
clauses_at asked zero bits n less = sym (or-false (is_set (slice_get bits n)))
clauses_at asked (suc clause) bits n less =
    demands_at (demands_in asked clause) [] (with_clauses asked clause bits) n (subst (λ (k : ℕ). n < k) (sym (clauses_size asked clause bits)) less)
    ∙ ap (λ (b : Bool). b || disagrees_with n [] (demands_in asked clause)) (clauses_at asked clause bits n less)
    ∙ or_assoc (is_set (slice_get bits n)) (is_disagreeing asked clause n) (disagrees_with n [] (demands_in asked clause))

-- the bit of a node says whether a demand of it disagrees with one before it
pub bits_say : (asked : Asked) (nodes n : ℕ) → n < nodes → is_set (slice_get (with_clauses asked nodes (replicate nodes false)) n) ≡ is_disagreeing asked nodes n
bits_say asked nodes n less =
    clauses_at asked nodes (replicate nodes false) n (subst (λ (k : ℕ). n < k) (sym (length-replicate nodes false)) less)
    ∙ ap (λ (b : Bool). b || is_disagreeing asked nodes n) (none_set nodes n)
