-- A measure that falls with every step of the parser.
use Rattle.std.proofs.Common.{◌≡◌, ℕ, ◌+◌, ◌*◌, ◌-◌, ◌<◌, Bool, true, List, [], ◌∷◌, ◌++◌, length, Option, Some, refl, subst, inl, inr, arith, nat_lt, ltb-true, slice_get}
use Rattle.std.specs.List.{list_all}
use Rattle.std.proofs.lemmas.Bool.{cases_Bool}
use Rattle.std.proofs.lemmas.Option.{slice_get_within}
use Rattle.clu_lexer.specs.declared.symbols.Symbol.{Symbol}
use Rattle.clu_grammar.specs.declared.items.Action.{Action}
use Rattle.clu_grammar.specs.declared.items.Item.{Item}
use Rattle.clu_grammar.specs.declared.items.Item.TheVariants as item
use Rattle.clu_grammar.specs.declared.items.Nonterminal.{Nonterminal}
use Rattle.clu_grammar.specs.declared.items.Nonterminal.TheVariants as r
use Rattle.clu_grammar.specs.Choice.{Step, Take, Go, No, is_among, step}
use Rattle.clu_grammar.specs.Grammar.{productions}
use Rattle.clu_grammar.specs.Rows.{Production, take, peek, otherwise}
use Rattle.clu_grammar.proofs.Flags.{and_left, and_right}
use Rattle.clu_grammar.proofs.Lookahead.{weight}

abbrev pub weights : List Item → ℕ
weights [] = 0
weights (item.Terminal s ∷ items) = weights items
weights (item.Action a ∷ items) = 1 + weights items
weights (item.Nonterminal n ∷ items) = weight n + weights items

-- a taken symbol pays for its row, and a nonterminal for a row where none is taken
abbrev pub weight_holds : ℕ → Production → Bool
weight_holds w (take heads row) = nat_lt (weights row) 32
weight_holds w (peek heads row) = nat_lt (weights row) w
weight_holds w (otherwise row) = nat_lt (weights row) w

weight_sound : (n : Nonterminal) → list_all (weight_holds (weight n)) (productions n) ≡ true
weight_sound r.File = refl
weight_sound _ = refl

pub weights-append : (xs ys : List Item) → weights (xs ++ ys) ≡ weights xs + weights ys
weights-append [] ys = omega arith
weights-append (item.Terminal s ∷ xs) ys = weights-append xs ys
weights-append (item.Action a ∷ xs) ys = omega (arith, weights-append xs ys)
weights-append (item.Nonterminal n ∷ xs) ys = omega (arith, weights-append xs ys)

-- what the row that is chosen weighs
abbrev pub IsLight : ℕ → Step → Type 0
IsLight w (Take row) = weights row < 32
IsLight w (Go row) = weights row < w
IsLight w No = Unit {0}

light : (w : ℕ) (ps : List Production) (t : Option Symbol) → list_all (weight_holds w) ps ≡ true → IsLight w (step ps t)
light w [] t test = tt
light w (take heads row ∷ ps) t test = elim (cases_Bool (is_among t heads)) [
  | inl suits ↦ rw suits (ltb-true (weights row) 32 (and_left (nat_lt (weights row) 32) (list_all (weight_holds w) ps) test))
  | inr passes ↦ rw passes (light w ps t (and_right (nat_lt (weights row) 32) (list_all (weight_holds w) ps) test))
]
light w (peek heads row ∷ ps) t test = elim (cases_Bool (is_among t heads)) [
  | inl suits ↦ rw suits (ltb-true (weights row) w (and_left (nat_lt (weights row) w) (list_all (weight_holds w) ps) test))
  | inr passes ↦ rw passes (light w ps t (and_right (nat_lt (weights row) w) (list_all (weight_holds w) ps) test))
]
light w (otherwise row ∷ ps) t test = ltb-true (weights row) w (and_left (nat_lt (weights row) w) (list_all (weight_holds w) ps) test)

pub light_step : (n : Nonterminal) (t : Option Symbol) (s : Step) → step (productions n) t ≡ s → IsLight (weight n) s
light_step n t s is = subst (IsLight (weight n)) is (light (weight n) (productions n) t (weight_sound n))

-- what is left to do, in steps
abbrev pub measure : List Symbol → ℕ → List Item → ℕ
measure xs at items = 32 * (length xs - at) + weights items

pub smaller_terminal : (xs : List Symbol) (at : ℕ) (s : Symbol) (items : List Item) → slice_get xs at ≡ Some s → measure xs (at + 1) items < measure xs at (item.Terminal s ∷ items)
smaller_terminal xs at s items is = omega (arith, slice_get_within xs at s is)

pub smaller_action : (xs : List Symbol) (at : ℕ) (a : Action) (items : List Item) → measure xs at items < measure xs at (item.Action a ∷ items)
smaller_action xs at a items = omega arith

pub smaller_take : (xs : List Symbol) (at : ℕ) (n : Nonterminal) (items row : List Item) → at < length xs → step (productions n) (slice_get xs at) ≡ Take row → measure xs (at + 1) (row ++ items) < measure xs at (item.Nonterminal n ∷ items)
smaller_take xs at n items row below is = omega (arith, below, weights-append row items, light_step n (slice_get xs at) (Take row) is)

pub smaller_go : (xs : List Symbol) (at : ℕ) (n : Nonterminal) (items row : List Item) → step (productions n) (slice_get xs at) ≡ Go row → measure xs at (row ++ items) < measure xs at (item.Nonterminal n ∷ items)
smaller_go xs at n items row is = omega (arith, weights-append row items, light_step n (slice_get xs at) (Go row) is)
