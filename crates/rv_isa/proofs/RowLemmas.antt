-- A row of the table is found by its own fields, and only by them.

use Rattle.std.proofs.Common.{◌≡◌, ℕ, Bool, true, false, cond, List, [], ◌∷◌, Option, Some, ◌⊎◌, inl, inr, refl, lit<}
use Rattle.std.specs.List.{find}
use Rattle.rv_isa.specs.declared.op.Form.{Form}
use Rattle.rv_isa.specs.declared.op.Form.TheVariants.{Upper, Shift, ShiftWord, Three}
use Rattle.rv_isa.specs.declared.op.Op.{Op}
use Rattle.rv_isa.specs.declared.op.Op.TheVariants.{Lui}
use Rattle.rv_isa.specs.declared.op.TheConstants.{OPS}
use Rattle.rv_isa.specs.Table.{row_of, has_row, HasFields}
use Rattle.rv_isa.specs.Decoded.{named_by}

pub fields_of : (op : Op) → HasFields (row_of op)
fields_of Lui = record { opcode = lit< tt; funct3 = lit< tt; funct7 = lit< tt }
fields_of _ = record { opcode = lit< tt; funct3 = lit< tt; funct7 = lit< tt }

-- the field that a row of this form names, or any number x where it names none

abbrev pub funct3_in : Form → ℕ → ℕ → ℕ
funct3_in Upper f x = x
funct3_in _ f x = f

abbrev pub funct6_in : Form → ℕ → ℕ → ℕ
funct6_in Shift f x = f
funct6_in _ f x = x

abbrev pub funct7_in : Form → ℕ → ℕ → ℕ
funct7_in ShiftWord f x = f
funct7_in Three f x = f
funct7_in _ f x = x

pub named_by-own : (op : Op) (x y z : ℕ)
    → named_by (row_of op).opcode (funct3_in (row_of op).form (row_of op).funct3 x) (funct6_in (row_of op).form (row_of op).funct7 y) (funct7_in (row_of op).form (row_of op).funct7 z) ≡ Some op
unfolding named_by
named_by-own Lui x y z = refl
named_by-own _ x y z = refl

-- what a search finds passes its test

first_or_rest : {X : Type 0} (b : Bool) (x y : X) (rest : Option X) → cond b (Some x) rest ≡ Some y → ((b ≡ true) × (x ≡ y)) ⊎ (rest ≡ Some y)
first_or_rest true x y rest e = inl (refl, cc)
first_or_rest false x y rest e = inr e

find-passes : {X : Type 0} (p : X → Bool) (xs : List X) (y : X) → find p xs ≡ Some y → p y ≡ true
find-passes p [] y e = cc
find-passes p (x ∷ xs) y e =
    elim (first_or_rest (p x) x y (find p xs) e) [
      | inl here ↦ let seen : p x ≡ true = here.0 in rw (← here.1) seen
      | inr there ↦ find-passes p xs y there
    ]

pub has_row-named : (opcode funct3 funct6 funct7 : ℕ) (op : Op) → named_by opcode funct3 funct6 funct7 ≡ Some op → has_row (row_of op) opcode funct3 funct6 funct7 ≡ true
unfolding named_by
has_row-named opcode funct3 funct6 funct7 op e = find-passes (λ o. has_row (row_of o) opcode funct3 funct6 funct7) OPS op e
