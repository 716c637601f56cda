-- How many bytes tokens have, and that the tokens of a source have no more than it.
use Rattle.std.proofs.Common.{◌≡◌, ℕ, zero, suc, ◌+◌, ◌-◌, ◌<◌, ◌≤◌, ◌^◌, List, [], ◌∷◌, length, drop, sum_by, Option, Some, None, slice_get, refl, ap, ◌∙◌, arith}
use Rattle.std.proofs.lemmas.List.{length-take, length-map}
use Rattle.std.proofs.lemmas.List.Sums.{sum_by-cons}
use Rattle.std.specs.Char.{to_ascii_lowercase}
use Rattle.clu_base.specs.declared.tokens.Kind.{Kind}
use Rattle.clu_base.specs.declared.tokens.Kind.TheVariants as token
use Rattle.clu_base.specs.declared.tokens.Token.{Token}
use Rattle.clu_lexer.specs.Tokens.{Tokens, Cut}
use Rattle.clu_lexer.proofs.Cuts.{token_within}
use Rattle.clu_parser.specs.Parsing.{text_of}
use Rattle.clu_parser.specs.Spellings.{bytes_of, symbol_in, spelled, spelling}
use Rattle.clu_parser.specs.Steps.{token_size, allowance}
use Rattle.clu_parser.specs.Trees.{Text, spelling_at}

abbrev pub size_of : Option Token → ℕ
size_of None = 0
size_of (Some t) = token_size t

-- how many bytes the n-th token has
abbrev pub token_len : Text → ℕ → ℕ
token_len s n = size_of (slice_get s.tokens n)

-- how many bytes the tokens have from the n-th on
abbrev pub bytes_left : Text → ℕ → ℕ
bytes_left s n = sum_by token_size (drop n s.tokens)

length-spelled : (k : Kind) (bs : List ℕ) → length (spelled k bs) ≡ length bs
length-spelled token.Int bs = refl
length-spelled token.Real bs = refl
length-spelled token.Char bs = refl
length-spelled token.Str bs = refl
length-spelled _ bs = length-map bs to_ascii_lowercase

spelling-le : (bytes : List ℕ) (t : Option Token) → length (spelling bytes t) ≤ size_of t
spelling-le bytes None = omega arith
spelling-le bytes (Some t) = omega (arith, length-spelled t.kind (bytes_of bytes t), length-take (t.end - t.start) (drop t.start bytes))

pub spelling_at-le : (s : Text) (n : ℕ) → length (spelling_at s n) ≤ token_len s n
spelling_at-le s n = spelling-le s.bytes (slice_get s.tokens n)

left_more : (ts : List Token) (n : ℕ) → sum_by token_size (drop n ts) ≡ size_of (slice_get ts n) + sum_by token_size (drop (suc n) ts)
left_more [] zero = refl
left_more [] (suc n) = refl
left_more (t ∷ ts) zero = sum_by-cons token_size t ts
left_more (t ∷ ts) (suc n) = left_more ts n

pub bytes_left_more : (s : Text) (n : ℕ) → bytes_left s n ≡ token_len s n + bytes_left s (n + 1)
bytes_left_more s n = left_more s.tokens n ∙ (let same : suc n ≡ n + 1 = omega arith in ap (λ (k : ℕ). size_of (slice_get s.tokens n) + sum_by token_size (drop k s.tokens)) same)

-- the tokens of bytes are no more than these, and have no more bytes
cut_size : (bytes : List ℕ) (from : ℕ) (ts : List Token) (to : ℕ) → from ≤ length bytes → Cut bytes from ts to → (to ≤ length bytes) × (from + length ts ≤ to) × (from + sum_by token_size ts ≤ to)
cut_size bytes from [] to within cut = let same : from ≡ to = cut in (omega arith, omega arith, omega arith)
cut_size bytes from (t ∷ ts) to within cut =
    let rest = cut_size bytes t.end ts to (token_within bytes from t cut.0) cut.1 in
    let gap : from ≤ t.start = omega (arith, cut.0.gap) in
    (rest.0, omega (arith, gap, cut.0.forward, rest.1), omega (arith, gap, cut.0.forward, rest.2, sum_by-cons token_size t ts))

pub tokens_small : (bytes : List ℕ) (tokens : List Token) → length bytes ≤ 1048576 → Tokens bytes tokens → allowance (text_of bytes tokens) < 2 ^ 32 - 1
tokens_small bytes tokens small are =
    let size = cut_size bytes 0 tokens are.0 (omega arith) are.1 in
    omega (arith, size.0, size.1, size.2, length-map tokens (symbol_in bytes))
