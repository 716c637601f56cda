-- A hole's LUI and ADDI give its number, and keep their opcodes and registers.
use Rattle.std.proofs.Common.{◌≡◌, ◌∙◌, ap₂, ℕ, ◌+◌, ◌*◌, ◌/◌, ◌%◌, ◌^◌, ◌<◌, ◌≤◌, arith}
use Rattle.clu_link_meaning.specs.Image.{upper, lower}

-- what is put into the upper twenty bits of a LUI, with the lower twelve of the ADDI, of which from 2048 on 4096 are taken off
pub gives_low : (v : ℕ) → v < 2 ^ 30 → v % 2 ^ 12 < 2048 → (v + 2048) % 2 ^ 32 / 2 ^ 12 * 2 ^ 12 + v % 2 ^ 12 ≡ v
gives_low v b l = omega (arith, b, l)

pub gives_high : (v : ℕ) → v < 2 ^ 30 → 2048 ≤ v % 2 ^ 12 → (v + 2048) % 2 ^ 32 / 2 ^ 12 * 2 ^ 12 + v % 2 ^ 12 ≡ v + 4096
gives_high v b l = omega (arith, b, l)

pub keeps_upper : (word v : ℕ) → upper word v % 2 ^ 12 ≡ word % 2 ^ 12
keeps_upper word v = omega arith

pub keeps_lower : (word v : ℕ) → lower word v % 2 ^ 20 ≡ word % 2 ^ 20
keeps_lower word v = omega arith

pub field_upper : (word v : ℕ) → upper word v / 2 ^ 12 ≡ (v + 2048) % 2 ^ 32 / 2 ^ 12
field_upper word v = omega arith

pub field_lower : (word v : ℕ) → lower word v / 2 ^ 20 ≡ v % 2 ^ 12
field_lower word v = omega arith

-- both together
pub low_half : (word other v : ℕ) → v < 2 ^ 30 → v % 2 ^ 12 < 2048 → upper word v / 2 ^ 12 * 2 ^ 12 + lower other v / 2 ^ 20 ≡ v
low_half word other v b l =
    let u : upper word v / 2 ^ 12 ≡ (v + 2048) % 2 ^ 32 / 2 ^ 12 = field_upper word v in
    let w : lower other v / 2 ^ 20 ≡ v % 2 ^ 12 = field_lower other v in
    let s : (v + 2048) % 2 ^ 32 / 2 ^ 12 * 2 ^ 12 + v % 2 ^ 12 ≡ v = gives_low v b l in
    ap₂ (λ (m n : ℕ). m * 2 ^ 12 + n) u w ∙ s

pub high_half : (word other v : ℕ) → v < 2 ^ 30 → 2048 ≤ v % 2 ^ 12 → upper word v / 2 ^ 12 * 2 ^ 12 + lower other v / 2 ^ 20 ≡ v + 4096
high_half word other v b l =
    let u : upper word v / 2 ^ 12 ≡ (v + 2048) % 2 ^ 32 / 2 ^ 12 = field_upper word v in
    let w : lower other v / 2 ^ 20 ≡ v % 2 ^ 12 = field_lower other v in
    let s : (v + 2048) % 2 ^ 32 / 2 ^ 12 * 2 ^ 12 + v % 2 ^ 12 ≡ v + 4096 = gives_high v b l in
    ap₂ (λ (m n : ℕ). m * 2 ^ 12 + n) u w ∙ s
