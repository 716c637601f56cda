-- Reading by the choice of one symbol of lookahead, and that it reads whatever free choice derives.
use Rattle.std.proofs.Common.{◌≡◌, ℕ, zero, suc, ◌+◌, Bool, true, false, not, ◌&&◌, ◌||◌, List, [], ◌∷◌, ◌++◌, length, Option, Some, None, slice_get, refl, sym, ap, ◌∙◌, subst, inl, inr, ◌⊎◌, arith, rules}
use Rattle.std.specs.List.{list_all}
use Rattle.std.proofs.lemmas.Bool.{or_left, or_right, or_cases, and_from, cases_Bool}
use Rattle.std.proofs.lemmas.Option.{slice_get_past}
use Rattle.clu_lexer.specs.declared.symbols.Symbol.{Symbol}
use Rattle.clu_lexer.specs.contracts.symbols.Symbol.{the_type}
use Rattle.clu_grammar.specs.declared.items.Action.{Action}
use Rattle.clu_grammar.specs.declared.items.Item.{Item}
use Rattle.clu_grammar.specs.declared.items.Item.TheVariants as item
use Rattle.clu_grammar.specs.declared.items.Nonterminal.{Nonterminal}
use Rattle.clu_grammar.specs.Choice.{Take, Go, has, is_among, step}
use Rattle.clu_grammar.specs.Grammar.{productions}
use Rattle.clu_grammar.specs.Language.{IsAlternative, IsOneOf, Derives, done, symbol, action, choice}
use Rattle.clu_grammar.specs.Rows.{Production, take, peek, otherwise}
use Rattle.clu_grammar.proofs.Flags.{and_left, and_right, implied, denied, true_is_false}
use Rattle.clu_grammar.proofs.Lookahead.{starts, after, nothing}
use Rattle.clu_grammar.proofs.Tests.{code, in_set, begins, starts_hold_for, starts_hold, after_holds, items_of, may_begin, suits, choice_holds, sound_at, symbols, place_of, sound}
use denote.Enum.Bare.{true_same, same_true}

-- as Derives, with the choice made by the next symbol
pub data Reads (ys : List Symbol) : List Item → ℕ → ℕ → Type 0 where
  finished : (at : ℕ) → Reads ys [] at at
  terminal : (s : Symbol) (items : List Item) (at to : ℕ) → slice_get ys at ≡ Some s → Reads ys items (at + 1) to → Reads ys (item.Terminal s ∷ items) at to
  act : (a : Action) (items : List Item) (at to : ℕ) → Reads ys items at to → Reads ys (item.Action a ∷ items) at to
  taken : (n : Nonterminal) (items row : List Item) (at to : ℕ) → step (productions n) (slice_get ys at) ≡ Take row → Reads ys (row ++ items) (at + 1) to → Reads ys (item.Nonterminal n ∷ items) at to
  gone : (n : Nonterminal) (items row : List Item) (at to : ℕ) → step (productions n) (slice_get ys at) ≡ Go row → Reads ys (row ++ items) at to → Reads ys (item.Nonterminal n ∷ items) at to

all_at : {X : Type 0} (p : X → Bool) (xs : List X) (k : ℕ) (x : X) → list_all p xs ≡ true → slice_get xs k ≡ Some x → p x ≡ true
all_at p [] k x h at = absurd (cc)
all_at {X = X} p (y ∷ xs) zero x h at = let same : y ≡ x = cc in subst (λ (z : X). p z ≡ true) same (and_left (p y) (list_all p xs) h)
all_at p (y ∷ xs) (suc k) x h at = all_at p xs k x (and_right (p y) (list_all p xs) h) at

-- the tests hold at each symbol
sound_for : (n : Nonterminal) (t : Option Symbol) → sound_at n t ≡ true
sound_for n t = all_at (sound_at n) symbols (code t) t (sound n) (place_of t)

starts_sound : (n : Nonterminal) (t : Option Symbol) → list_all (starts_hold n t) (productions n) ≡ true
starts_sound n t = and_left _ _ (and_left _ _ (sound_for n t))

pub after_sound : (n : Nonterminal) (t : Option Symbol) → list_all (λ p. after_holds (after n) t (items_of p)) (productions n) ≡ true
after_sound n t = and_right _ _ (and_left _ _ (sound_for n t))

pub choice_sound : (n : Nonterminal) (t : Option Symbol) → choice_holds (after n) t (productions n) ≡ true
choice_sound n t = and_right _ _ (sound_for n t)

-- what comes first, when more may follow
pub through : (items : List Item) (rest wider : Option Symbol → Bool) (t : Option Symbol) → (rest t ≡ true → wider t ≡ true) → begins items rest t ≡ true → begins items wider t ≡ true
through [] rest wider t f h = f h
through (item.Terminal s ∷ items) rest wider None f h = absurd (cc)
through (item.Terminal s ∷ items) rest wider (Some x) f h = h
through (item.Action a ∷ items) rest wider t f h = through items rest wider t f h
through (item.Nonterminal n ∷ items) rest wider t f h =
    elim (or_cases (in_set (starts n) t) (nothing n && begins items rest t) h) [
      | inl in_it ↦ or_left (in_set (starts n) t) (nothing n && begins items wider t) in_it
      | inr behind ↦ or_right (in_set (starts n) t) (nothing n && begins items wider t)
          (and_from (nothing n) (begins items wider t) (and_left (nothing n) (begins items rest t) behind) (through items rest wider t f (and_right (nothing n) (begins items rest t) behind)))
    ]

pub begins-append : (xs items : List Item) (rest : Option Symbol → Bool) (t : Option Symbol) → begins (xs ++ items) rest t ≡ begins xs (begins items rest) t
begins-append [] items rest t = refl
begins-append (item.Terminal s ∷ xs) items rest None = refl
begins-append (item.Terminal s ∷ xs) items rest (Some x) = refl
begins-append (item.Action a ∷ xs) items rest t = begins-append xs items rest t
begins-append (item.Nonterminal n ∷ xs) items rest t = ap (λ (b : Bool). in_set (starts n) t || (nothing n && b)) (begins-append xs items rest t)

-- the end, and nothing else
abbrev pub at_end : Option Symbol → Bool
at_end None = true
at_end (Some s) = false

-- what comes first in an alternative may come first for its nonterminal
starts_for : (n : Nonterminal) (t : Option Symbol) (items : List Item) (rest : Option Symbol → Bool) → starts_hold_for n t items ≡ true → begins items rest t ≡ true → (in_set (starts n) t || (nothing n && rest t)) ≡ true
starts_for n t items rest test h = elim (cases_Bool (rest t)) [
  | inl holds ↦ elim (or_cases (in_set (starts n) t) (nothing n) (implied _ _ (and_right _ _ test) (through items rest (λ _. true) t (λ _. refl) h))) [
    | inl in_it ↦ or_left (in_set (starts n) t) (nothing n && rest t) in_it
    | inr may ↦ or_right (in_set (starts n) t) (nothing n && rest t) (and_from (nothing n) (rest t) may holds)
  ]
  | inr fails ↦ or_left (in_set (starts n) t) (nothing n && rest t) (implied _ _ (and_left _ _ test) (through items rest (λ _. false) t (λ holds. absurd (cc)) h))
]

begins_terminal : (heads : List Symbol) (s : Symbol) (items : List Item) (rest : Option Symbol → Bool) (t : Option Symbol) → has heads s ≡ true → begins (item.Terminal s ∷ items) rest t ≡ true → is_among t heads ≡ true
begins_terminal heads s items rest None one h = absurd (cc)
begins_terminal heads s items rest (Some x) one h = subst (λ (x : Symbol). has heads x ≡ true) (same_true the_type (search rules) s x h) one

starts_of : (n : Nonterminal) (t : Option Symbol) (p : Production) (alternative : List Item) (rest : Option Symbol → Bool) → starts_hold n t p ≡ true → IsAlternative p alternative → begins alternative rest t ≡ true → (in_set (starts n) t || (nothing n && rest t)) ≡ true
starts_of n t (take heads items) alternative rest test is h =
    or_left (in_set (starts n) t) (nothing n && rest t)
    (implied _ _ test (begins_terminal heads is.0 items rest t is.1 (subst (λ (x : List Item). begins x rest t ≡ true) is.2 h)))
starts_of n t (peek heads items) alternative rest test is h = starts_for n t items rest test (subst (λ (x : List Item). begins x rest t ≡ true) is h)
starts_of n t (otherwise items) alternative rest test is h = starts_for n t items rest test (subst (λ (x : List Item). begins x rest t ≡ true) is h)

starts_one : (n : Nonterminal) (t : Option Symbol) (ps : List Production) (alternative : List Item) (rest : Option Symbol → Bool) → list_all (starts_hold n t) ps ≡ true → IsOneOf ps alternative → begins alternative rest t ≡ true → (in_set (starts n) t || (nothing n && rest t)) ≡ true
starts_one n t [] alternative rest test one h = absurd one
starts_one n t (p ∷ ps) alternative rest test (inl is) h = starts_of n t p alternative rest (and_left _ _ test) is h
starts_one n t (p ∷ ps) alternative rest test (inr one) h = starts_one n t ps alternative rest (and_right _ _ test) one h

-- what a derivation up to the end comes upon may come first
pub begun : (ys : List Symbol) (items : List Item) (at to : ℕ) → Derives ys items at to → to ≡ length ys → begins items at_end (slice_get ys at) ≡ true
begun ys [] at to (done _) last = let none : slice_get ys at ≡ None = slice_get_past ys at (omega arith) in rw none
begun ys _ at to (symbol s items _ _ is d) last = rw is (true_same the_type s s refl)
begun ys _ at to (action a items _ _ d) last = begun ys items at to d last
begun ys _ at to (choice n items alternative _ _ one d) last =
    starts_one n (slice_get ys at) (productions n) alternative (begins items at_end) (starts_sound n (slice_get ys at)) one
    (sym (begins-append alternative items at_end (slice_get ys at)) ∙ begun ys (alternative ++ items) at to d last)

-- what may follow each nonterminal of the items is in its set
abbrev pub Followed : List Item → (Option Symbol → Bool) → Type 0
Followed [] rest = Unit {0}
Followed (item.Terminal s ∷ items) rest = Followed items rest
Followed (item.Action a ∷ items) rest = Followed items rest
Followed (item.Nonterminal n ∷ items) rest = ((t : Option Symbol) → begins items rest t ≡ true → in_set (after n) t ≡ true) × Followed items rest

row_followed : (row items : List Item) (set : ℕ) → ((t : Option Symbol) → after_holds set t row ≡ true) → ((t : Option Symbol) → begins items at_end t ≡ true → in_set set t ≡ true) → Followed items at_end → Followed (row ++ items) at_end
row_followed [] items set test behind known = known
row_followed (item.Terminal s ∷ row) items set test behind known = row_followed row items set test behind known
row_followed (item.Action a ∷ row) items set test behind known = row_followed row items set test behind known
row_followed (item.Nonterminal n ∷ row) items set test behind known = (
  λ t h. implied _ _ (and_left _ _ (test t)) (through row (begins items at_end) (in_set set) t (behind t) (sym (begins-append row items at_end t) ∙ h)),
  row_followed row items set (λ t. and_right _ _ (test t)) behind known,
)

pub alternative_followed : (set : ℕ) (ps : List Production) (alternative items : List Item) → ((t : Option Symbol) → list_all (λ p. after_holds set t (items_of p)) ps ≡ true) → IsOneOf ps alternative → ((t : Option Symbol) → begins items at_end t ≡ true → in_set set t ≡ true) → Followed items at_end → Followed (alternative ++ items) at_end
alternative_followed set [] alternative items test one behind known = absurd one
alternative_followed set (p ∷ ps) alternative items test (inr one) behind known = alternative_followed set ps alternative items (λ t. and_right _ _ (test t)) one behind known
alternative_followed set (take heads row ∷ ps) alternative items test (inl is) behind known =
    subst (λ (x : List Item). Followed (x ++ items) at_end) (sym is.2) (row_followed row items set (λ t. and_left _ _ (test t)) behind known)
alternative_followed set (peek heads row ∷ ps) alternative items test (inl is) behind known =
    subst (λ (x : List Item). Followed (x ++ items) at_end) (sym is) (row_followed row items set (λ t. and_left _ _ (test t)) behind known)
alternative_followed set (otherwise row ∷ ps) alternative items test (inl is) behind known =
    subst (λ (x : List Item). Followed (x ++ items) at_end) (sym is) (row_followed row items set (λ t. and_left _ _ (test t)) behind known)

-- an alternative that may begin with t is that of a production that may
may_of : (set : ℕ) (t : Option Symbol) (p : Production) (alternative : List Item) → IsAlternative p alternative → begins alternative (in_set set) t ≡ true → may_begin set t p ≡ true
may_of set t (take heads row) alternative is h = begins_terminal heads is.0 row (in_set set) t is.1 (subst (λ (x : List Item). begins x (in_set set) t ≡ true) is.2 h)
may_of set t (peek heads row) alternative is h = subst (λ (x : List Item). begins x (in_set set) t ≡ true) is h
may_of set t (otherwise row) alternative is h = subst (λ (x : List Item). begins x (in_set set) t ≡ true) is h

none_may : (set : ℕ) (t : Option Symbol) (ps : List Production) (alternative : List Item) → list_all (λ q. not (may_begin set t q)) ps ≡ true → IsOneOf ps alternative → begins alternative (in_set set) t ≡ true → ⊥
none_may set t [] alternative test one h = one
none_may set t (p ∷ ps) alternative test (inl is) h = denied (may_begin set t p) (and_left _ _ test) (may_of set t p alternative is h)
none_may set t (p ∷ ps) alternative test (inr one) h = none_may set t ps alternative (and_right _ _ test) one h

-- the choice at t is this alternative
abbrev pub IsChosen : List Production → Option Symbol → List Item → Type 0
IsChosen ps t alternative = ((row : List Item) × (s : Symbol) × (step ps t ≡ Take row) × (alternative ≡ item.Terminal s ∷ row)) ⊎ (step ps t ≡ Go alternative)

pub chosen : (set : ℕ) (t : Option Symbol) (ps : List Production) (alternative : List Item) → choice_holds set t ps ≡ true → IsOneOf ps alternative → begins alternative (in_set set) t ≡ true → IsChosen ps t alternative
chosen set t [] alternative test one h = absurd one
chosen set t (take heads row ∷ ps) alternative test one h = elim (cases_Bool (is_among t heads)) [
  | inl suits ↦ (let only = rw suits at test in elim one [
    | inl is ↦ inl (row, is.0, rw suits refl, is.2)
    | inr other ↦ absurd (none_may set t ps alternative only other h)
  ])
  | inr passes ↦ (let rest = rw passes at test in elim one [
    | inl is ↦ absurd (true_is_false (is_among t heads) (may_of set t (take heads row) alternative is h) passes)
    | inr other ↦ rw passes (chosen set t ps alternative rest other h)
  ])
]
chosen set t (peek heads row ∷ ps) alternative test one h = elim (cases_Bool (is_among t heads)) [
  | inl suits ↦ (let only = rw suits at test in elim one [
    | inl is ↦ inr (rw (suits, is) refl)
    | inr other ↦ absurd (none_may set t ps alternative only other h)
  ])
  | inr passes ↦ (let rest = rw passes at test in elim one [
    | inl is ↦ absurd (denied (may_begin set t (peek heads row)) (and_left _ _ rest) (may_of set t (peek heads row) alternative is h))
    | inr other ↦ rw passes (chosen set t ps alternative (and_right _ _ rest) other h)
  ])
]
chosen set t (otherwise row ∷ ps) alternative test (inl is) h = inr (ap Go (sym is))
chosen set t (otherwise row ∷ ps) alternative test (inr other) h = absurd (none_may set t ps alternative test other h)

-- inversions
pub inv_terminal : (ys : List Symbol) (s : Symbol) (items : List Item) (at to : ℕ) → Reads ys (item.Terminal s ∷ items) at to → (slice_get ys at ≡ Some s) × Reads ys items (at + 1) to
inv_terminal ys s items at to (terminal _ _ _ _ is r) = (is, r)

pub inv_act : (ys : List Symbol) (a : Action) (items : List Item) (at to : ℕ) → Reads ys (item.Action a ∷ items) at to → Reads ys items at to
inv_act ys a items at to (act _ _ _ _ r) = r

pub inv_finished : (ys : List Symbol) (at to : ℕ) → Reads ys [] at to → at ≡ to
inv_finished ys at to (finished _) = refl

-- what free choice derives up to the end is read
pub reads : (ys : List Symbol) (items : List Item) (at to : ℕ) → Derives ys items at to → to ≡ length ys → Followed items at_end → Reads ys items at to
reads ys [] at to (done _) last known = finished at
reads ys _ at to (symbol s items _ _ is d) last known = terminal s items at to is (reads ys items (at + 1) to d last known)
reads ys _ at to (action a items _ _ d) last known = act a items at to (reads ys items at to d last known)
reads ys _ at to (choice n items alternative _ _ one d) last known =
    let r = reads ys (alternative ++ items) at to d last (alternative_followed (after n) (productions n) alternative items (after_sound n) one known.0 known.1) in
    let first = through alternative (begins items at_end) (in_set (after n)) (slice_get ys at) (known.0 (slice_get ys at)) (sym (begins-append alternative items at_end (slice_get ys at)) ∙ begun ys (alternative ++ items) at to d last) in
    elim (chosen (after n) (slice_get ys at) (productions n) alternative (choice_sound n (slice_get ys at)) one first) [
      | inl here ↦ taken n items here.0 at to here.2 (inv_terminal ys here.1 (here.0 ++ items) at to (subst (λ (x : List Item). Reads ys (x ++ items) at to) here.3 r)).1
      | inr here ↦ gone n items alternative at to here r
    ]
