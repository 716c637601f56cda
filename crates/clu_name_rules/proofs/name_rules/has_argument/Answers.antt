use Rattle.std.proofs.Common.{◌≡◌, ◌∙◌, ℕ, suc, ◌+◌, ◌-◌, ◌<◌, Bool, false, ◌||◌, sym, ap, arith}
use Rattle.std.specs.List.{list_any, range_with_len}
use Rattle.clu_name_rules.specs.NameRules.{names_argument}
use Rattle.clu_name_rules.proofs.name_rules.has_argument.Goals as goal

-- the first number of a range fails the test
rest_of : (test : ℕ → Bool) (from to : ℕ) → from < to → test from ≡ false → list_any test (range_with_len (from + 1) (to - (from + 1))) ≡ list_any test (range_with_len from (to - from))
rest_of test from to less fails =
    let size : to - from ≡ suc (to - (from + 1)) = omega arith in
    sym (ap (λ (k : ℕ). list_any test (range_with_len from k)) size ∙ ap (λ (b : Bool). b || list_any test (range_with_len (from + 1) (to - (from + 1)))) fails)

pub loop-n-preserved : goal.loop-n-preserved
loop-n-preserved c =
    rest_of (names_argument c.args.f.syntax.now c.args.f.rounds.now c.args.f.names.now) c.loop-n.n c.args.to c.loop-n-test.true (sym c.names_argument.ensures ∙ c.if-names_argument.false)
    ∙ c.loop-n.invariant
