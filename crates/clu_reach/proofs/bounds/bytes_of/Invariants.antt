use Rattle.std.proofs.Common.{◌≡◌, drop, fold}
use Rattle.clu_reach.specs.Parameters.{constant_of}
use Rattle.clu_reach.specs.Tables.{bytes_of, text_length, with_text}
use Rattle.clu_reach.proofs.bounds.bytes_of.Given as goal

-- the constants that are left decide
abbrev pub invariant-loop-constant : goal.invariant-loop-constant
invariant-loop-constant l =
    fold (λ n c. with_text n (text_length (constant_of l.actuals c))) l.bytes (drop l.constant-index l.constant-items)
    ≡ bytes_of l.actuals l.routine
