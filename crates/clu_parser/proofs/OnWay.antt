-- A tree in the making: whatever the rest makes of it, the whole makes of nothing.
use Rattle.std.proofs.Common.{◌≡◌, ℕ, ◌+◌, ◌-◌, ◌≤◌, List, [], ◌∷◌, ◌++◌, length, Some, slice_get, subst, arith}
use Rattle.clu_lexer.specs.declared.symbols.Symbol.{Symbol}
use Rattle.clu_grammar.specs.declared.items.Action.{Action}
use Rattle.clu_grammar.specs.declared.items.Item.{Item}
use Rattle.clu_grammar.specs.declared.items.Item.TheVariants as item
use Rattle.clu_grammar.specs.declared.items.Nonterminal.{Nonterminal}
use Rattle.clu_grammar.specs.Choice.{step, Take, Go}
use Rattle.clu_grammar.specs.Grammar.{productions}
use Rattle.clu_grammar.specs.Language.{whole}
use Rattle.clu_grammar.proofs.Runs.{take_in, go_in}
use Rattle.clu_parser.specs.Trees.{Text, Built, acted, Builds, finished, terminal, act, chosen, nothing_built, IsBuilt}

pub record IsOnWay (s : Text) (items : List Item) (at : ℕ) (b : Built) : Type 0 where
  pub rest : (z : Built) → Builds s items at b (length s.symbols) z → IsBuilt s z

pub way_none : (s : Text) → IsOnWay s whole 0 nothing_built
way_none s = record { rest = λ z d. d }

pub way_terminal : (s : Text) (x : Symbol) (items : List Item) (at : ℕ) (b : Built) → IsOnWay s (item.Terminal x ∷ items) at b → slice_get s.symbols at ≡ Some x → IsOnWay s items (at + 1) b
way_terminal s x items at b known is = record { rest = λ z d. known.rest z (terminal x items at b (length s.symbols) z is d) }

pub way_action : (s : Text) (a : Action) (items : List Item) (at : ℕ) (b c : Built) → IsOnWay s (item.Action a ∷ items) at b → acted s a (at - 1) b ≡ Some c → IsOnWay s items at c
way_action s a items at b c known is = record { rest = λ z d. known.rest z (act a items at b c (length s.symbols) z is d) }

pub way_take : (s : Text) (n : Nonterminal) (items row : List Item) (at : ℕ) (b : Built) → IsOnWay s (item.Nonterminal n ∷ items) at b → step (productions n) (slice_get s.symbols at) ≡ Take row → IsOnWay s (row ++ items) (at + 1) b
way_take s n items row at b known is =
    let found = take_in (productions n) (slice_get s.symbols at) row is in
    record { rest = λ z d. known.rest z (chosen n items (item.Terminal found.0 ∷ row) at b (length s.symbols) z found.2 (terminal found.0 (row ++ items) at b (length s.symbols) z found.1 d)) }

pub way_go : (s : Text) (n : Nonterminal) (items row : List Item) (at : ℕ) (b : Built) → IsOnWay s (item.Nonterminal n ∷ items) at b → step (productions n) (slice_get s.symbols at) ≡ Go row → IsOnWay s (row ++ items) at b
way_go s n items row at b known is = record { rest = λ z d. known.rest z (chosen n items row at b (length s.symbols) z (go_in (productions n) (slice_get s.symbols at) row is) d) }

pub way_end : (s : Text) (at : ℕ) (b : Built) → IsOnWay s [] at b → at ≤ length s.symbols → length s.symbols ≤ at → IsBuilt s b
way_end s at b known within last = let all : at ≡ length s.symbols = omega arith in known.rest b (subst (λ (k : ℕ). Builds s [] at b k b) all (finished at b))
