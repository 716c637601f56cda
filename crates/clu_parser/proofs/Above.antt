-- While a file is read, its node is the outermost that has begun.
use Rattle.std.proofs.Common.{◌≡◌, ℕ, ◌+◌, ◌-◌, ◌<◌, ◌≤◌, Bool, true, ◌&&◌, ◌==◌, nat_le, nat_lt, List, [], ◌∷◌, ◌++◌, refl, sym, ap, ◌∙◌, subst, inl, inr, arith, leb-true, eqb-true, lt-ltb}
use Rattle.std.specs.List.{list_all}
use Rattle.clu_grammar.specs.declared.items.Action.{Action}
use Rattle.clu_grammar.specs.declared.items.Action.TheVariants as action
use Rattle.clu_grammar.specs.declared.items.Item.{Item}
use Rattle.clu_grammar.specs.declared.items.Item.TheVariants as item
use Rattle.clu_grammar.specs.declared.items.Nonterminal.{Nonterminal}
use Rattle.clu_grammar.specs.declared.items.Nonterminal.TheVariants as r
use Rattle.clu_grammar.specs.Grammar.{productions}
use Rattle.clu_grammar.specs.Language.{IsOneOf}
use Rattle.clu_grammar.specs.Rows.{Production, take, peek, otherwise}
use Rattle.clu_grammar.proofs.Flags.{and_left, and_right}
use Rattle.clu_grammar.proofs.Tests.{items_of}
use Rattle.clu_parser.specs.Steps.{begun_for}
use Rattle.clu_parser.proofs.Effects.{ends, begun_before}
use Rattle.clu_parser.proofs.Reading.{begun_after, begun_after-le, begun_after-add, begun_left, ends-le}

-- how many nodes must have begun, so that the outermost stays
abbrev pub above_for : Action → ℕ
above_for action.Open = 1
above_for action.Wrap = 1
above_for action.Note = 1
above_for (action.Close kind) = 2
above_for action.Base = 2
above_for action.Give = 2

pub begun_above : (a : Action) → begun_for a ≤ above_for a
begun_above action.Open = omega arith
begun_above action.Wrap = omega arith
begun_above action.Note = omega arith
begun_above (action.Close kind) = omega arith
begun_above action.Base = omega arith
begun_above action.Give = omega arith

-- the items leave the outermost as it is
abbrev pub IsAbove : List Item → ℕ → Type 0
IsAbove [] b = Unit {0}
IsAbove (item.Terminal s ∷ items) b = IsAbove items b
IsAbove (item.Action a ∷ items) b = (above_for a ≤ b) × IsAbove items (begun_after a b)
IsAbove (item.Nonterminal n ∷ items) b = (begun_before n ≤ b) × (0 < begun_before n) × IsAbove items (b - ends n)

abbrev pub is_above : List Item → ℕ → Bool
is_above [] b = true
is_above (item.Terminal s ∷ items) b = is_above items b
is_above (item.Action a ∷ items) b = nat_le (above_for a) b && is_above items (begun_after a b)
is_above (item.Nonterminal n ∷ items) b = nat_le (begun_before n) b && (nat_le 1 (begun_before n) && is_above items (b - ends n))

pub above_is : (items : List Item) (b : ℕ) → is_above items b ≡ true → IsAbove items b
above_is [] b h = tt
above_is (item.Terminal s ∷ items) b h = above_is items b h
above_is (item.Action a ∷ items) b h = (
  leb-true (above_for a) b (and_left (nat_le (above_for a) b) (is_above items (begun_after a b)) h),
  above_is items (begun_after a b) (and_right (nat_le (above_for a) b) (is_above items (begun_after a b)) h),
)
above_is (item.Nonterminal n ∷ items) b h =
    let more = and_right (nat_le (begun_before n) b) (nat_le 1 (begun_before n) && is_above items (b - ends n)) h in (
      leb-true (begun_before n) b (and_left (nat_le (begun_before n) b) (nat_le 1 (begun_before n) && is_above items (b - ends n)) h),
      omega (arith, leb-true 1 (begun_before n) (and_left (nat_le 1 (begun_before n)) (is_above items (b - ends n)) more)),
      above_is items (b - ends n) (and_right (nat_le 1 (begun_before n)) (is_above items (b - ends n)) more),
    )

above_more : (items : List Item) (b c : ℕ) → b ≤ c → IsAbove items b → IsAbove items c
above_more [] b c more h = tt
above_more (item.Terminal s ∷ items) b c more h = above_more items b c more h
above_more (item.Action a ∷ items) b c more h = (omega (arith, h.0), above_more items (begun_after a b) (begun_after a c) (begun_after-le a b c more) h.1)
above_more (item.Nonterminal n ∷ items) b c more h = (omega (arith, h.0), h.1, above_more items (b - ends n) (c - ends n) (omega arith) h.2)

left_above : (items : List Item) (b e : ℕ) → IsAbove items b → begun_left items (b + e) ≡ begun_left items b + e
left_above [] b e h = refl
left_above (item.Terminal s ∷ items) b e h = left_above items b e h
left_above (item.Action a ∷ items) b e h = ap (begun_left items) (begun_after-add a b e (omega (arith, begun_above a, h.0))) ∙ left_above items (begun_after a b) e h.1
left_above (item.Nonterminal n ∷ items) b e h =
    let same : b + e - ends n ≡ b - ends n + e = omega (arith, h.0, ends-le n) in
    ap (begun_left items) same ∙ left_above items (b - ends n) e h.2

above-append : (row items : List Item) (b : ℕ) → IsAbove row b → IsAbove items (begun_left row b) → IsAbove (row ++ items) b
above-append [] items b h k = k
above-append (item.Terminal s ∷ row) items b h k = above-append row items b h k
above-append (item.Action a ∷ row) items b h k = (h.0, above-append row items (begun_after a b) h.1 k)
above-append (item.Nonterminal n ∷ row) items b h k = (h.0, h.1, above-append row items (b - ends n) h.2 k)

left-append : (row items : List Item) (b : ℕ) → begun_left (row ++ items) b ≡ begun_left items (begun_left row b)
left-append [] items b = refl
left-append (item.Terminal s ∷ row) items b = left-append row items b
left-append (item.Action a ∷ row) items b = left-append row items (begun_after a b)
left-append (item.Nonterminal n ∷ row) items b = left-append row items (b - ends n)

-- the table holds for a row
abbrev pub stays : Nonterminal → List Item → Bool
stays n row = is_above row (begun_before n) && (begun_left row (begun_before n) == begun_before n - ends n)

-- all but a file stand in the node of a file
stays_sound : (n : Nonterminal) → nat_lt 0 (begun_before n) ≡ true → list_all (λ p. stays n (items_of p)) (productions n) ≡ true
stays_sound r.File h = absurd (cc)
stays_sound _ h = refl

stays_for : (n : Nonterminal) (ps : List Production) (alternative : List Item) → list_all (λ p. stays n (items_of p)) ps ≡ true → IsOneOf ps alternative → stays n alternative ≡ true
stays_for n [] alternative test one = absurd one
stays_for n (p ∷ ps) alternative test (inr one) = stays_for n ps alternative (and_right (stays n (items_of p)) (list_all (λ q. stays n (items_of q)) ps) test) one
stays_for n (take heads row ∷ ps) alternative test (inl is) = subst (λ (x : List Item). stays n x ≡ true) (sym is.2) (and_left (stays n row) (list_all (λ q. stays n (items_of q)) ps) test)
stays_for n (peek heads row ∷ ps) alternative test (inl is) = subst (λ (x : List Item). stays n x ≡ true) (sym is) (and_left (stays n row) (list_all (λ q. stays n (items_of q)) ps) test)
stays_for n (otherwise row ∷ ps) alternative test (inl is) = subst (λ (x : List Item). stays n x ≡ true) (sym is) (and_left (stays n row) (list_all (λ q. stays n (items_of q)) ps) test)

-- an alternative in the place of the nonterminal leaves it so too, and as many nodes begun
pub above_alternative : (n : Nonterminal) (alternative items : List Item) (b : ℕ) → IsOneOf (productions n) alternative → IsAbove (item.Nonterminal n ∷ items) b → IsAbove (alternative ++ items) b × (begun_left (alternative ++ items) b ≡ begun_left (item.Nonterminal n ∷ items) b)
above_alternative n alternative items b one h =
    let test = stays_for n (productions n) alternative (stays_sound n (lt-ltb 0 (begun_before n) h.1)) one in
    let above = above_is alternative (begun_before n) (and_left (is_above alternative (begun_before n)) (begun_left alternative (begun_before n) == begun_before n - ends n) test) in
    let left : begun_left alternative (begun_before n) ≡ begun_before n - ends n =
    eqb-true (begun_left alternative (begun_before n)) (begun_before n - ends n) (and_right (is_above alternative (begun_before n)) (begun_left alternative (begun_before n) == begun_before n - ends n) test) in
    let size : begun_before n + (b - begun_before n) ≡ b = omega (arith, h.0) in
    let left' : begun_left alternative b ≡ begun_left alternative (begun_before n) + (b - begun_before n) = ap (begun_left alternative) (sym size) ∙ left_above alternative (begun_before n) (b - begun_before n) above in
    let same : begun_left alternative b ≡ b - ends n = omega (arith, left, left', h.0, ends-le n) in (
      above-append alternative items b (above_more alternative (begun_before n) b h.0 above) (subst (IsAbove items) (sym same) h.2),
      left-append alternative items b ∙ ap (begun_left items) same,
    )
