-- Levels, one symbol more.
use Rattle.std.proofs.Common.{◌≡◌, ℕ, ◌+◌, ◌<◌, ◌≤◌, List, [], ◌∷◌, ◌++◌, length, take, get_or, refl, sym, ap, ◌∙◌, arith, inl, inr}
use Rattle.std.proofs.lemmas.List.{take_more}
use Rattle.std.proofs.lemmas.Bool.{cases_lt}
use Rattle.clu_lexer.specs.declared.symbols.Symbol.{Symbol}
use Rattle.clu_parser.specs.Levels.{level_behind, level_from, level_at, IsLow}

level_from-append : (level : ℕ) (xs ys : List Symbol) → level_from level (xs ++ ys) ≡ level_from (level_from level xs) ys
level_from-append level [] ys = refl
level_from-append level (x ∷ xs) ys = level_from-append (level_behind level x) xs ys

pub level_more : (symbols : List Symbol) (at : ℕ) (d : Symbol) (old new : ℕ) → at < length symbols → old ≡ level_at symbols at → new ≡ level_behind old (get_or symbols at d) → new ≡ level_at symbols (at + 1)
level_more symbols at d old new below was is =
    is ∙ ap (λ (k : ℕ). level_behind k (get_or symbols at d)) was ∙
    sym (ap (level_from 0) (take_more symbols at d below) ∙ level_from-append 0 (take at symbols) (get_or symbols at d ∷ []))

pub low_none : (symbols : List Symbol) → IsLow symbols 0
low_none symbols j le = let none : j ≡ 0 = omega arith in rw none (omega arith)

pub low_more : (symbols : List Symbol) (at : ℕ) → IsLow symbols at → level_at symbols (at + 1) ≤ 200 → IsLow symbols (at + 1)
low_more symbols at low here j le = elim (cases_lt j (at + 1)) [ inl less ↦ low j (omega arith) | inr more ↦ (let same : j ≡ at + 1 = omega arith in rw same here) ]
