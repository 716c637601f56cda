-- The tree in the making has what reading the items needs: nodes that have begun, and whole ones.
use Rattle.std.proofs.Common.{◌≡◌, ℕ, ◌+◌, ◌-◌, ◌≤◌, Bool, true, false, not, ◌&&◌, ◌||◌, ◌==◌, cond, nat_le, List, [], ◌∷◌, ◌++◌, Option, refl, sym, ap, ◌∙◌, subst, inl, inr, arith, leb-true, eqb-true}
use Rattle.std.specs.List.{list_all}
use Rattle.std.proofs.lemmas.Bool.{not-true, and_from, cases_Bool}
use Rattle.clu_lexer.specs.declared.symbols.Symbol.{Symbol}
use Rattle.clu_grammar.specs.declared.items.Action.{Action}
use Rattle.clu_grammar.specs.declared.items.Action.TheVariants as action
use Rattle.clu_grammar.specs.declared.items.Item.{Item}
use Rattle.clu_grammar.specs.declared.items.Item.TheVariants as item
use Rattle.clu_grammar.specs.declared.items.Nonterminal.{Nonterminal}
use Rattle.clu_grammar.specs.declared.items.Nonterminal.TheVariants as r
use Rattle.clu_grammar.specs.Choice.{Step, Take, Go, No, is_among, step}
use Rattle.clu_grammar.specs.Grammar.{productions}
use Rattle.clu_grammar.specs.Rows.{Production, take, peek, otherwise}
use Rattle.clu_grammar.proofs.Flags.{and_left, and_right, implied}
use Rattle.clu_grammar.proofs.Tests.{implies}
use Rattle.clu_parser.specs.Steps.{begun_for, tops_for}
use Rattle.clu_parser.proofs.Effects.{ends, begun_before, tops_before, makes_whole, notes_before}

-- how many nodes have begun after an action
abbrev pub begun_after : Action → ℕ → ℕ
begun_after action.Open b = b + 1
begun_after action.Wrap b = b + 1
begun_after action.Note b = b
begun_after (action.Close kind) b = b - 1
begun_after action.Base b = b
begun_after action.Give b = b - 1

-- how many whole nodes there are at least that no node holds
abbrev pub tops_after : Action → ℕ → ℕ
tops_after action.Open t = t
tops_after action.Wrap t = t
tops_after action.Note t = t
tops_after (action.Close kind) t = 1
tops_after action.Base t = t
tops_after action.Give t = t

-- with so many nodes begun, and so many whole ones that no node holds, the items can be read
abbrev pub CanRead : List Item → ℕ → ℕ → Type 0
CanRead [] b t = Unit {0}
CanRead (item.Terminal s ∷ items) b t = CanRead items b t
CanRead (item.Action a ∷ items) b t = (begun_for a ≤ b) × (tops_for a ≤ t) × CanRead items (begun_after a b) (tops_after a t)
CanRead (item.Nonterminal n ∷ items) b t = (begun_before n ≤ b) × (tops_before n ≤ t) × CanRead items (b - ends n) (cond (makes_whole n) 1 t)

-- how many there are then
abbrev pub begun_left : List Item → ℕ → ℕ
begun_left [] b = b
begun_left (item.Terminal s ∷ items) b = begun_left items b
begun_left (item.Action a ∷ items) b = begun_left items (begun_after a b)
begun_left (item.Nonterminal n ∷ items) b = begun_left items (b - ends n)

abbrev pub tops_left : List Item → ℕ → ℕ
tops_left [] t = t
tops_left (item.Terminal s ∷ items) t = tops_left items t
tops_left (item.Action a ∷ items) t = tops_left items (tops_after a t)
tops_left (item.Nonterminal n ∷ items) t = tops_left items (cond (makes_whole n) 1 t)

-- the same as a test
abbrev pub can_read : List Item → ℕ → ℕ → Bool
can_read [] b t = true
can_read (item.Terminal s ∷ items) b t = can_read items b t
can_read (item.Action a ∷ items) b t = nat_le (begun_for a) b && (nat_le (tops_for a) t && can_read items (begun_after a b) (tops_after a t))
can_read (item.Nonterminal n ∷ items) b t = nat_le (begun_before n) b && (nat_le (tops_before n) t && can_read items (b - ends n) (cond (makes_whole n) 1 t))

can_read_is : (items : List Item) (b t : ℕ) → can_read items b t ≡ true → CanRead items b t
can_read_is [] b t h = tt
can_read_is (item.Terminal s ∷ items) b t h = can_read_is items b t h
can_read_is (item.Action a ∷ items) b t h =
    let more = and_right (nat_le (begun_for a) b) (nat_le (tops_for a) t && can_read items (begun_after a b) (tops_after a t)) h in (
      leb-true (begun_for a) b (and_left (nat_le (begun_for a) b) (nat_le (tops_for a) t && can_read items (begun_after a b) (tops_after a t)) h),
      leb-true (tops_for a) t (and_left (nat_le (tops_for a) t) (can_read items (begun_after a b) (tops_after a t)) more),
      can_read_is items (begun_after a b) (tops_after a t) (and_right (nat_le (tops_for a) t) (can_read items (begun_after a b) (tops_after a t)) more),
    )
can_read_is (item.Nonterminal n ∷ items) b t h =
    let more = and_right (nat_le (begun_before n) b) (nat_le (tops_before n) t && can_read items (b - ends n) (cond (makes_whole n) 1 t)) h in (
      leb-true (begun_before n) b (and_left (nat_le (begun_before n) b) (nat_le (tops_before n) t && can_read items (b - ends n) (cond (makes_whole n) 1 t)) h),
      leb-true (tops_before n) t (and_left (nat_le (tops_before n) t) (can_read items (b - ends n) (cond (makes_whole n) 1 t)) more),
      can_read_is items (b - ends n) (cond (makes_whole n) 1 t) (and_right (nat_le (tops_before n) t) (can_read items (b - ends n) (cond (makes_whole n) 1 t)) more),
    )

-- more of both does no harm
pub begun_after-le : (a : Action) (b c : ℕ) → b ≤ c → begun_after a b ≤ begun_after a c
begun_after-le action.Open b c h = omega arith
begun_after-le action.Wrap b c h = omega arith
begun_after-le action.Note b c h = h
begun_after-le (action.Close kind) b c h = omega arith
begun_after-le action.Base b c h = h
begun_after-le action.Give b c h = omega arith

tops_after-le : (a : Action) (t u : ℕ) → t ≤ u → tops_after a t ≤ tops_after a u
tops_after-le action.Open t u h = h
tops_after-le action.Wrap t u h = h
tops_after-le action.Note t u h = h
tops_after-le (action.Close kind) t u h = omega arith
tops_after-le action.Base t u h = h
tops_after-le action.Give t u h = h

one_or-le : (w : Bool) (t u : ℕ) → t ≤ u → cond w 1 t ≤ cond w 1 u
one_or-le true t u h = omega arith
one_or-le false t u h = h

pub can_read_more : (items : List Item) (b c t u : ℕ) → b ≤ c → t ≤ u → CanRead items b t → CanRead items c u
can_read_more [] b c t u more more' h = tt
can_read_more (item.Terminal s ∷ items) b c t u more more' h = can_read_more items b c t u more more' h
can_read_more (item.Action a ∷ items) b c t u more more' h = (
  omega (arith, h.0),
  omega (arith, h.1),
  can_read_more items (begun_after a b) (begun_after a c) (tops_after a t) (tops_after a u) (begun_after-le a b c more) (tops_after-le a t u more') h.2,
)
can_read_more (item.Nonterminal n ∷ items) b c t u more more' h = (
  omega (arith, h.0),
  omega (arith, h.1),
  can_read_more items (b - ends n) (c - ends n) (cond (makes_whole n) 1 t) (cond (makes_whole n) 1 u) (omega arith) (one_or-le (makes_whole n) t u more') h.2,
)

-- what is below stays as it is
pub begun_after-add : (a : Action) (b e : ℕ) → begun_for a ≤ b → begun_after a (b + e) ≡ begun_after a b + e
begun_after-add action.Open b e h = omega arith
begun_after-add action.Wrap b e h = omega arith
begun_after-add action.Note b e h = refl
begun_after-add (action.Close kind) b e h = omega arith
begun_after-add action.Base b e h = refl
begun_after-add action.Give b e h = omega arith

pub ends-le : (n : Nonterminal) → ends n ≤ begun_before n
ends-le r.File = omega arith
ends-le _ = omega arith

pub begun_left-add : (items : List Item) (b e t : ℕ) → CanRead items b t → begun_left items (b + e) ≡ begun_left items b + e
begun_left-add [] b e t h = refl
begun_left-add (item.Terminal s ∷ items) b e t h = begun_left-add items b e t h
begun_left-add (item.Action a ∷ items) b e t h = ap (begun_left items) (begun_after-add a b e h.0) ∙ begun_left-add items (begun_after a b) e (tops_after a t) h.2
begun_left-add (item.Nonterminal n ∷ items) b e t h =
    let same : b + e - ends n ≡ b - ends n + e = omega (arith, h.0, ends-le n) in
    ap (begun_left items) same ∙ begun_left-add items (b - ends n) e (cond (makes_whole n) 1 t) h.2

pub tops_after-keeps : (a : Action) (t : ℕ) → t ≤ 1 → (t ≤ tops_after a t) × (tops_after a t ≤ 1)
tops_after-keeps action.Open t h = (omega arith, h)
tops_after-keeps action.Wrap t h = (omega arith, h)
tops_after-keeps action.Note t h = (omega arith, h)
tops_after-keeps (action.Close kind) t h = (h, omega arith)
tops_after-keeps action.Base t h = (omega arith, h)
tops_after-keeps action.Give t h = (omega arith, h)

one_or-keeps : (w : Bool) (t : ℕ) → t ≤ 1 → (t ≤ cond w 1 t) × (cond w 1 t ≤ 1)
one_or-keeps true t h = (h, omega arith)
one_or-keeps false t h = (omega arith, h)

-- once there is a whole node, there is one from then on
tops_left-keeps : (items : List Item) (t : ℕ) → t ≤ 1 → t ≤ tops_left items t
tops_left-keeps [] t h = omega arith
tops_left-keeps (item.Terminal s ∷ items) t h = tops_left-keeps items t h
tops_left-keeps (item.Action a ∷ items) t h = let k = tops_after-keeps a t h in omega (arith, k.0, tops_left-keeps items (tops_after a t) k.1)
tops_left-keeps (item.Nonterminal n ∷ items) t h = let k = one_or-keeps (makes_whole n) t h in omega (arith, k.0, tops_left-keeps items (cond (makes_whole n) 1 t) k.1)

tops_left-le : (items : List Item) (t u : ℕ) → t ≤ u → tops_left items t ≤ tops_left items u
tops_left-le [] t u h = h
tops_left-le (item.Terminal s ∷ items) t u h = tops_left-le items t u h
tops_left-le (item.Action a ∷ items) t u h = tops_left-le items (tops_after a t) (tops_after a u) (tops_after-le a t u h)
tops_left-le (item.Nonterminal n ∷ items) t u h = tops_left-le items (cond (makes_whole n) 1 t) (cond (makes_whole n) 1 u) (one_or-le (makes_whole n) t u h)

can_read-append : (row items : List Item) (b t : ℕ) → CanRead row b t → CanRead items (begun_left row b) (tops_left row t) → CanRead (row ++ items) b t
can_read-append [] items b t h k = k
can_read-append (item.Terminal s ∷ row) items b t h k = can_read-append row items b t h k
can_read-append (item.Action a ∷ row) items b t h k = (h.0, h.1, can_read-append row items (begun_after a b) (tops_after a t) h.2 k)
can_read-append (item.Nonterminal n ∷ row) items b t h k = (h.0, h.1, can_read-append row items (b - ends n) (cond (makes_whole n) 1 t) h.2 k)

abbrev pub notes : Action → Bool
notes action.Open = false
notes action.Wrap = false
notes action.Note = true
notes (action.Close kind) = false
notes action.Base = false
notes action.Give = false

-- the symbol taken last may be noted before the next is taken
abbrev pub may_note : List Item → Bool
may_note [] = false
may_note (item.Terminal s ∷ items) = false
may_note (item.Action a ∷ items) = notes a || may_note items
may_note (item.Nonterminal n ∷ items) = notes_before n || may_note items

-- no symbol is noted twice
abbrev pub once : List Item → Bool
once [] = true
once (item.Terminal s ∷ items) = once items
once (item.Action a ∷ items) = implies (notes a) (not (may_note items)) && once items
once (item.Nonterminal n ∷ items) = not (may_note items) && once items

-- the table holds for a row
abbrev pub holds : Nonterminal → List Item → Bool
holds n row =
    can_read row (begun_before n) (tops_before n)
    && ((begun_left row (begun_before n) == begun_before n - ends n)
    && (implies (makes_whole n) (tops_left row (tops_before n) == 1)
    && once row))

abbrev pub holds_for : Nonterminal → Production → Bool
holds_for n (take heads row) = holds n row
holds_for n (peek heads row) = holds n row && implies (may_note row) (notes_before n)
holds_for n (otherwise row) = holds n row && implies (may_note row) (notes_before n)

holds_sound : (n : Nonterminal) → list_all (holds_for n) (productions n) ≡ true
holds_sound r.File = refl
holds_sound _ = refl

abbrev pub IsHeld : Nonterminal → Step → Type 0
IsHeld n (Take row) = holds n row ≡ true
IsHeld n (Go row) = (holds n row ≡ true) × (implies (may_note row) (notes_before n) ≡ true)
IsHeld n No = Unit {0}

is_held : (n : Nonterminal) (ps : List Production) (t : Option Symbol) → list_all (holds_for n) ps ≡ true → IsHeld n (step ps t)
is_held n [] t test = tt
is_held n (take heads row ∷ ps) t test = elim (cases_Bool (is_among t heads)) [
  | inl suits ↦ rw suits (and_left (holds n row) (list_all (holds_for n) ps) test)
  | inr passes ↦ rw passes (is_held n ps t (and_right (holds n row) (list_all (holds_for n) ps) test))
]
is_held n (peek heads row ∷ ps) t test = elim (cases_Bool (is_among t heads)) [
  | inl suits ↦ (let here = and_left (holds_for n (peek heads row)) (list_all (holds_for n) ps) test in rw suits (and_left (holds n row) (implies (may_note row) (notes_before n)) here, and_right (holds n row) (implies (may_note row) (notes_before n)) here))
  | inr passes ↦ rw passes (is_held n ps t (and_right (holds_for n (peek heads row)) (list_all (holds_for n) ps) test))
]
is_held n (otherwise row ∷ ps) t test =
    let here = and_left (holds_for n (otherwise row)) (list_all (holds_for n) ps) test in
    (and_left (holds n row) (implies (may_note row) (notes_before n)) here, and_right (holds n row) (implies (may_note row) (notes_before n)) here)

-- the table holds for the row that is chosen
pub held_step : (n : Nonterminal) (t : Option Symbol) (s : Step) → step (productions n) t ≡ s → IsHeld n s
held_step n t s is = subst (IsHeld n) is (is_held n (productions n) t (holds_sound n))

whole_left : (n : Nonterminal) (row : List Item) (t : ℕ) → t ≤ 1 → tops_before n ≤ t → implies (makes_whole n) (tops_left row (tops_before n) == 1) ≡ true → cond (makes_whole n) 1 t ≤ tops_left row t
whole_left n row t small there test = elim (cases_Bool (makes_whole n)) [
  | inl makes ↦ (let one : tops_left row (tops_before n) ≡ 1 = eqb-true (tops_left row (tops_before n)) 1 (implied (makes_whole n) (tops_left row (tops_before n) == 1) test makes) in
      rw makes (omega (arith, one, tops_left-le row (tops_before n) t there)))
  | inr none ↦ rw none (tops_left-keeps row t small)
]

-- the row that is chosen can be read in the place of the nonterminal
pub can_read_row : (n : Nonterminal) (row items : List Item) (b t : ℕ) → t ≤ 1 → holds n row ≡ true → CanRead (item.Nonterminal n ∷ items) b t → CanRead (row ++ items) b t
can_read_row n row items b t small test h =
    let more = and_right (can_read row (begun_before n) (tops_before n)) ((begun_left row (begun_before n) == begun_before n - ends n) && (implies (makes_whole n) (tops_left row (tops_before n) == 1) && once row)) test in
    let more' = and_right (begun_left row (begun_before n) == begun_before n - ends n) (implies (makes_whole n) (tops_left row (tops_before n) == 1) && once row) more in
    let reads = can_read_is row (begun_before n) (tops_before n) (and_left (can_read row (begun_before n) (tops_before n)) ((begun_left row (begun_before n) == begun_before n - ends n) && (implies (makes_whole n) (tops_left row (tops_before n) == 1) && once row)) test) in
    let left : begun_left row (begun_before n) ≡ begun_before n - ends n = eqb-true (begun_left row (begun_before n)) (begun_before n - ends n) (and_left (begun_left row (begun_before n) == begun_before n - ends n) (implies (makes_whole n) (tops_left row (tops_before n) == 1) && once row) more) in
    let whole = and_left (implies (makes_whole n) (tops_left row (tops_before n) == 1)) (once row) more' in
    let size : begun_before n + (b - begun_before n) ≡ b = omega (arith, h.0) in
    let left' : begun_left row b ≡ begun_left row (begun_before n) + (b - begun_before n) = ap (begun_left row) (sym size) ∙ begun_left-add row (begun_before n) (b - begun_before n) (tops_before n) reads in
    can_read-append row items b t
    (can_read_more row (begun_before n) b (tops_before n) t h.0 h.1 reads)
    (can_read_more items (b - ends n) (begun_left row b) (cond (makes_whole n) 1 t) (tops_left row t) (omega (arith, left, left', h.0, ends-le n)) (whole_left n row t small h.1 whole) h.2)

pub once_of : (n : Nonterminal) (row : List Item) → holds n row ≡ true → once row ≡ true
once_of n row test =
    let more = and_right (can_read row (begun_before n) (tops_before n)) ((begun_left row (begun_before n) == begun_before n - ends n) && (implies (makes_whole n) (tops_left row (tops_before n) == 1) && once row)) test in
    let more' = and_right (begun_left row (begun_before n) == begun_before n - ends n) (implies (makes_whole n) (tops_left row (tops_before n) == 1) && once row) more in
    and_right (implies (makes_whole n) (tops_left row (tops_before n) == 1)) (once row) more'

pub note_none : (n : Nonterminal) (items : List Item) → once (item.Nonterminal n ∷ items) ≡ true → may_note items ≡ false
note_none n items h = not-true (may_note items) (and_left (not (may_note items)) (once items) h)

may_note-append : (xs items : List Item) → may_note items ≡ false → may_note (xs ++ items) ≡ may_note xs
may_note-append [] items none = none
may_note-append (item.Terminal s ∷ xs) items none = refl
may_note-append (item.Action a ∷ xs) items none = ap (λ (b : Bool). notes a || b) (may_note-append xs items none)
may_note-append (item.Nonterminal n ∷ xs) items none = ap (λ (b : Bool). notes_before n || b) (may_note-append xs items none)

once-append : (xs items : List Item) → once xs ≡ true → may_note items ≡ false → once items ≡ true → once (xs ++ items) ≡ true
once-append [] items h none k = k
once-append (item.Terminal s ∷ xs) items h none k = once-append xs items h none k
once-append (item.Action a ∷ xs) items h none k =
    and_from (implies (notes a) (not (may_note (xs ++ items)))) (once (xs ++ items))
    (ap (λ (b : Bool). implies (notes a) (not b)) (may_note-append xs items none) ∙ and_left (implies (notes a) (not (may_note xs))) (once xs) h)
    (once-append xs items (and_right (implies (notes a) (not (may_note xs))) (once xs) h) none k)
once-append (item.Nonterminal n ∷ xs) items h none k =
    and_from (not (may_note (xs ++ items))) (once (xs ++ items))
    (ap not (may_note-append xs items none) ∙ and_left (not (may_note xs)) (once xs) h)
    (once-append xs items (and_right (not (may_note xs)) (once xs) h) none k)

-- the row that is chosen notes no symbol twice, nor one that the nonterminal does not
pub once_row : (n : Nonterminal) (row items : List Item) → holds n row ≡ true → once (item.Nonterminal n ∷ items) ≡ true → once (row ++ items) ≡ true
once_row n row items test h = once-append row items (once_of n row test) (note_none n items h) (and_right (not (may_note items)) (once items) h)

pub notes_row : (n : Nonterminal) (row items : List Item) → implies (may_note row) (notes_before n) ≡ true → once (item.Nonterminal n ∷ items) ≡ true → may_note (row ++ items) ≡ true → may_note (item.Nonterminal n ∷ items) ≡ true
notes_row n row items test h note =
    let none = note_none n items h in
    rw none (implies_or (may_note row) (notes_before n) test (sym (may_note-append row items none) ∙ note))
  where
    implies_or : (a b : Bool) → implies a b ≡ true → a ≡ true → (b || false) ≡ true
    implies_or true true h k = refl
    implies_or true false h k = absurd (cc)
    implies_or false b h k = absurd (cc)
