-- The exceptions that expressions raise by themselves: their names, and the string that is the object of one.
use Rattle.std.specs.Prelude.{ℕ, List, Option, Some, None, codes}
use Rattle.clu_wir.specs.declared.trap.Trap.{Trap}
use Rattle.clu_wir.specs.declared.trap.Trap.TheVariants as trap

unfoldable pub trap_name : Trap → List ℕ
trap_name trap.Overflow = codes "overflow"
trap_name trap.ZeroDivide = codes "zero_divide"
trap_name trap.Bounds = codes "bounds"
trap_name trap.IllegalChar = codes "illegal_char"
trap_name trap.WrongTag = codes "wrong_tag"
trap_name trap.Uninitialized = codes "failure"

unfoldable pub trap_text : Trap → Option (List ℕ)
trap_text trap.Uninitialized = Some (codes "uninitialized variable")
trap_text _ = None
