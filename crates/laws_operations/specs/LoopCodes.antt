-- The code of the operations that search: loops that write nothing.
use Rattle.std.specs.Prelude.{ℕ, List, [], ◌∷◌, codes}
use Rattle.clu_wir.specs.declared.expression.WOp.TheVariants as op
use Rattle.clu_wir.specs.Plain.{Expr, Stmt, Stmts, binary, break_loop, byte, choose, leave_with, load, loop, no_stmts, set, slot, stmts_of, word}
use Rattle.laws_operations.specs.LoopRows.{StepsRow}

-- the steps where the word isn't 0, and where it is 0
abbrev pub when : Expr → List Stmt → Stmt
when e ss = choose e (stmts_of ss) no_stmts

abbrev pub unless : Expr → List Stmt → Stmt
unless e ss = choose e no_stmts (stmts_of ss)

abbrev pub gives : Expr → Stmt
gives e = leave_with (e ∷ [])

abbrev x : Expr
x = slot 0

abbrev y : Expr
y = slot 1

-- ---- strings: a place from 0 is in slot 3, the bytes there in slots 4 and 5

abbrev pub place : Expr
place = slot 3

abbrev x_size : Expr
x_size = load x 0

abbrev y_size : Expr
y_size = load y 0

abbrev x_bytes : Expr
x_bytes = binary op.Add x (word 8)

abbrev y_bytes : Expr
y_bytes = binary op.Add y (word 8)

abbrev get_x : Stmt
get_x = set 4 (byte (binary op.Add x_bytes place))

abbrev get_y : Stmt
get_y = set 5 (byte (binary op.Add y_bytes place))

abbrev next : Stmt
next = set 3 (binary op.Add place (word 1))

-- Byte by byte up to the first that differs or the end of one of the strings. What is answered where the first is less, where it is
-- greater, and where they are equal.
abbrev pub compared_round : (less greater equal : ℕ) → Stmts
compared_round less greater equal = stmts_of (
    when (binary op.Equal place x_size) (when (binary op.Equal place y_size) (gives (word equal) ∷ []) ∷ gives (word less) ∷ []) ∷
    when (binary op.Equal place y_size) (gives (word greater) ∷ []) ∷
    get_x ∷
    get_y ∷
    when (binary op.Sltu (slot 4) (slot 5)) (gives (word less) ∷ []) ∷
    when (binary op.Sltu (slot 5) (slot 4)) (gives (word greater) ∷ []) ∷
    next ∷
    []
    )

abbrev pub compared_code : (less greater equal : ℕ) → Stmts
compared_code less greater equal = stmts_of (set 3 (word 0) ∷ loop (compared_round less greater equal) ∷ [])

-- strings of different sizes are told apart at once
abbrev pub equal_round : Stmts
equal_round = stmts_of (
    when (binary op.Equal place x_size) (gives (word 1) ∷ []) ∷
    get_x ∷
    get_y ∷
    unless (binary op.Equal (slot 4) (slot 5)) (gives (word 0) ∷ []) ∷
    next ∷
    []
    )

abbrev pub equal_code : Stmts
equal_code = stmts_of (unless (binary op.Equal x_size y_size) (gives (word 0) ∷ []) ∷ set 3 (word 0) ∷ loop equal_round ∷ [])

abbrev pub compared_row : List ℕ → Stmts → StepsRow
compared_row name body = record { name = name; args = 2; slots = 6; body = body }

abbrev pub string_compared_rows : List StepsRow
string_compared_rows =
    compared_row (codes "lt") (compared_code 1 0 0) ∷
    compared_row (codes "le") (compared_code 1 0 1) ∷
    compared_row (codes "ge") (compared_code 0 1 1) ∷
    compared_row (codes "gt") (compared_code 0 1 0) ∷
    compared_row (codes "equal") equal_code ∷
    compared_row (codes "similar") equal_code ∷
    []

-- the place from 1 of the first byte that is the character, or 0
abbrev pub indexc_round : Stmts
indexc_round = stmts_of (
    when (binary op.Equal place y_size) (gives (word 0) ∷ []) ∷
    set 4 (byte (binary op.Add y_bytes place)) ∷
    next ∷
    when (binary op.Equal (slot 4) x) (gives place ∷ []) ∷
    []
    )

abbrev pub indexc_row : StepsRow
indexc_row = record { name = codes "indexc"; args = 2; slots = 5; body = stmts_of (set 3 (word 0) ∷ loop indexc_round ∷ []) }

-- The place from 1 at which the first string stands in the second, or 0. In slot 2 is how far the first is moved along the second.
abbrev pub fits_round : Stmts
fits_round = stmts_of (
    when (binary op.Equal place x_size) (gives (binary op.Add (slot 2) (word 1)) ∷ []) ∷
    get_x ∷
    set 5 (byte (binary op.Add (binary op.Add y_bytes (slot 2)) place)) ∷
    unless (binary op.Equal (slot 4) (slot 5)) (break_loop ∷ []) ∷
    next ∷
    []
    )

abbrev pub indexs_round : Stmts
indexs_round = stmts_of (
    when (binary op.Slt y_size (binary op.Add (slot 2) x_size)) (gives (word 0) ∷ []) ∷
    set 3 (word 0) ∷
    loop fits_round ∷
    set 2 (binary op.Add (slot 2) (word 1)) ∷
    []
    )

abbrev pub indexs_row : StepsRow
indexs_row = record { name = codes "indexs"; args = 2; slots = 6; body = stmts_of (set 2 (word 0) ∷ loop indexs_round ∷ []) }
