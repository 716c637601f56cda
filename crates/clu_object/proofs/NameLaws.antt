-- Names are short.
use Rattle.std.proofs.Common.{◌≡◌, ℕ, ◌≤◌, inl, inr, ◌&&◌, ◌==◌, not, nat_le, true, List, [], ◌∷◌, length, codes, refl, ap, arith}
use Rattle.std.specs.Str.{bytes_eq}
use Rattle.std.specs.List.{list_all}
use Rattle.std.proofs.lemmas.Bool.{leb-true, eqb-true, and_parts, or_cases}
use Rattle.clu_base.proofs.Lists.{same_bytes}
use Rattle.clu_specs.specs.Names.{goes_on_name, is_named, is_reserved}
use Rattle.clu_format.specs.Fields.{is_name, is_module_name, is_after}
use Rattle.clu_object.specs.ObjectReading.{is_routine_name, is_arm_name}

pub name_short : (name : List ℕ) → is_name name ≡ true → length name ≤ 0xffff
name_short name h =
    let outer = and_parts (is_named name && nat_le (length name) 200 && list_all goes_on_name name) (not (is_reserved name)) h in
    let middle = and_parts (is_named name && nat_le (length name) 200) (list_all goes_on_name name) outer.0 in
    let inner = and_parts (is_named name) (nat_le (length name) 200) middle.0 in
    omega (arith, leb-true (length name) 200 inner.1)

pub arm_name_short : (name : List ℕ) → is_arm_name name ≡ true → length name ≤ 0xffff
arm_name_short name h = elim (or_cases (length name == 0) (is_name name) h) [ inl e ↦ omega (arith, eqb-true (length name) 0 e) | inr e ↦ name_short name e ]

pub routine_name_short : (name : List ℕ) → is_routine_name name ≡ true → length name ≤ 0xffff
routine_name_short name h = elim (or_cases (is_name name) (bytes_eq name (codes "own")) h) [ inl e ↦ name_short name e | inr e ↦ let same : length name ≡ 3 = ap length (same_bytes name (codes "own") e) in omega (arith, same) ]

pub module_name_short : (name : List ℕ) → is_module_name name ≡ true → length name ≤ 0xffff
module_name_short name h = name_short name (and_parts (is_name name) (not (bytes_eq name (codes "stream"))) h).0

-- a name is after no name
pub first_name : (name : List ℕ) → is_module_name name ≡ true → is_after [] name ≡ true
first_name [] h = absurd (cc)
first_name (b ∷ name) h = refl
