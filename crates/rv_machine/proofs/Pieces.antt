-- Input in pieces: what the machine keeps and what the source has left are the same bytes, whenever
-- they are read.
use Rattle.std.proofs.Common.{◌≡◌, ℕ, zero, suc, ◌+◌, ◌-◌, ◌<◌, false, List, [], ◌++◌, take, drop, Option, Some, None, refl, arith, nat_eq}
use Rattle.std.specs.Prelude.{unwrap_or}
use Rattle.std.proofs.lemmas.List.{drop-drop, drop-take}
use Rattle.std.proofs.lemmas.Bool.Decides.{nat_tests}
use Rattle.clu_base.specs.Outside.{preceded, IsAtEnd}
use Rattle.rv_machine.specs.Input.{Kept, SameInput}

pub same : (kept : Kept) (left : Option (List ℕ)) → SameInput kept left kept left
same kept left = λ more. (more, refl)

unwrap_or-preceded : (got more : List ℕ) (left : Option (List ℕ)) → unwrap_or (preceded got left) (got ++ more) ≡ got ++ unwrap_or left more
unfolding preceded
unwrap_or-preceded got more None = refl
unwrap_or-preceded got more (Some left) = refl

unwrap_or-at_end : (left : Option (List ℕ)) → IsAtEnd left → unwrap_or left [] ≡ []
unwrap_or-at_end None h = refl
unwrap_or-at_end (Some left) h = h

-- a piece of n bytes was read, where none was kept
pub read_piece : (old new : Kept) (left left' : Option (List ℕ)) (piece : List ℕ) (n : ℕ) → old.bytes ≡ [] → old.at_end ≡ false → left ≡ preceded (take n piece) left' → (n ≡ 0 → IsAtEnd left) → new.bytes ≡ take (n - 0) piece → new.at_end ≡ nat_eq n 0 → SameInput old left new left'
read_piece old new left left' piece zero none going told ended kept at_end =
    λ more. ([], rw (none, going, kept, at_end) (unwrap_or-at_end left (ended refl)))
read_piece old new left left' piece (suc n) none going told ended kept at_end =
    let all : suc n - 0 ≡ suc n = omega arith in
    let goes_on : nat_eq (suc n) 0 ≡ false = grind (arith, nat_tests) in
    λ more. (take (suc n) piece ++ more, rw (none, going, kept, all, at_end, told, goes_on) (unwrap_or-preceded (take (suc n) piece) more left'))

-- one byte less of a piece
pub drop-piece : (piece : List ℕ) (from to : ℕ) → from < to → take (to - (from + 1)) (drop (from + 1) piece) ≡ drop 1 (take (to - from) (drop from piece))
drop-piece piece from to h =
    let e : to - from ≡ 1 + (to - (from + 1)) = omega arith in
    rw (e, drop-take 1 (to - (from + 1)) (drop from piece), drop-drop 1 from piece) refl
