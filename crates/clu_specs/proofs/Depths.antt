-- How deep types are read.
use Rattle.std.proofs.Common.{◌≡◌, ℕ, zero, suc, ◌-◌, ◌<◌, List, length, Err, refl, ap, sym, arith}
use Rattle.clu_specs.specs.declared.scope.Scope.{Scope}
use Rattle.clu_specs.specs.TypeReading.{one_type_read, type_read}

pub type_read_deep : (scope : Scope) (depth : ℕ) (bytes : List ℕ) → 0 < depth → type_read scope depth bytes ≡ one_type_read scope (type_read scope (depth - 1)) bytes
unfolding type_read
type_read_deep scope zero bytes lt = absurd (omega (arith, lt))
type_read_deep scope (suc d) bytes lt =
    let back : suc d - 1 ≡ d = omega arith in
    ap (λ (n : ℕ). one_type_read scope (type_read scope n) bytes) (sym back)

pub type_read_none : (scope : Scope) (depth : ℕ) (bytes : List ℕ) → depth ≡ 0 → type_read scope depth bytes ≡ Err (length bytes)
unfolding type_read
type_read_none scope zero bytes e = refl
type_read_none scope (suc d) bytes e = absurd (omega (arith, e))
