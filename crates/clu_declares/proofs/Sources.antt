-- The tokens of a text are no more than its bytes.
use Rattle.std.proofs.Common.{◌≡◌, ℕ, ◌+◌, ◌<◌, ◌≤◌, ◌^◌, false, List, [], ◌∷◌, length, drop, arith}
use Rattle.clu_base.specs.declared.tokens.Token.{Token}
use Rattle.clu_lexer.specs.Separators.{gap_len}
use Rattle.clu_lexer.specs.Tokens.{Cut, Tokens}
use Rattle.clu_tree.specs.declared.node.Node.{Node}
use Rattle.clu_parser.specs.Order.{IsFileOver}
use Rattle.clu_parser.specs.Trees.{Text}
use Rattle.clu_syntax.specs.declared.round.Round.{Round}
use Rattle.clu_declares.specs.Declares.{IsParsed, AreFew}
use Rattle.clu_declares.proofs.Few.{few_declared}

-- each token takes a byte
cut_size : (bytes : List ℕ) (from : ℕ) (tokens : List Token) (to : ℕ) → Cut bytes from tokens to → from + length tokens ≤ to
cut_size bytes from [] to same = omega (arith, same)
cut_size bytes from (t ∷ tokens) to cut =
    let more : t.end + length tokens ≤ to = cut_size bytes t.end tokens to cut.1 in
    let gap : from + gap_len false (drop from bytes) ≡ t.start = cut.0.gap in
    let forward : t.start < t.end = cut.0.forward in
    omega (arith, more, gap, forward)

pub few_tokens : (bytes : List ℕ) (tokens : List Token) → Tokens bytes tokens → length tokens ≤ length bytes
few_tokens bytes tokens are =
    let cut : 0 + length tokens ≤ are.0 = cut_size bytes 0 tokens are.0 are.1 in
    let gap : are.0 + gap_len false (drop are.0 bytes) ≡ length bytes = are.2 in
    omega (arith, cut, gap)

pub few_of_source : (bytes : List ℕ) (tokens : List Token) (t : Text) (nodes : List Node) (rounds : List Round) → Tokens bytes tokens → IsParsed t nodes → IsFileOver (length tokens) nodes → length bytes ≤ 2 ^ 20 → AreFew nodes rounds
few_of_source bytes tokens t nodes rounds are parsed file small =
    let few : length tokens ≤ length bytes = few_tokens bytes tokens are in
    few_declared t nodes rounds (length tokens) parsed file (omega (arith, few, small))
