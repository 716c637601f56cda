-- Bytes that are all zeros.
use Rattle.std.proofs.Common.{◌≡◌, ℕ, List, refl, replicate, subst, sym}
use Rattle.std.proofs.lemmas.List.Elements.{All-replicate}
use Rattle.clu_link.specs.Images.{AreUnset}

pub are_zeros : (bytes : List ℕ) (n : ℕ) → bytes ≡ replicate n 0 → AreUnset bytes
are_zeros bytes n is = subst AreUnset (sym is) (All-replicate (λ b. b ≡ 0) n 0 refl)
