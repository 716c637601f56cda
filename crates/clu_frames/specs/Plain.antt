-- Steps as plain data, with their expressions as plain trees.
use Rattle.std.specs.Prelude.{ℕ, ℤ, Bool, List, map}
use Rattle.clu_wir.specs.Plain.{Expr, expr_of}
use Rattle.clu_frames.specs.declared.flat.Flat.{Flat}
use Rattle.clu_frames.specs.declared.flat.Flat.TheVariants as flat

pub data Step : Type 0 where
  Set : ℕ → Expr → Step
  Put : Expr → ℤ → Expr → Step
  Label : ℕ → Step
  Jump : ℕ → Step
  Branch : Expr → Bool → ℕ → Step
  Enter : ℕ → Step
  Bind : Expr → Expr → ℕ → Step
  Invoke : Expr → ℕ → Step
  Yield : ℕ → ℕ → Step
  Resume : ℕ → Step
  Take : ℕ → Step
  Result : ℕ → ℕ → Step
  Cut : ℕ → Step
  Leave : ℕ → ℕ → Step
  Raise : ℕ → Step
  Signal : ℕ → Step
  Pass : Step
  Prim : ℕ → ℕ → Step

abbrev pub step_of : Flat → Step
step_of (flat.Set to value) = Set to (expr_of value)
step_of (flat.Put address bytes value) = Put (expr_of address) bytes (expr_of value)
step_of (flat.Label label) = Label label
step_of (flat.Jump label) = Jump label
step_of (flat.Branch condition sense label) = Branch (expr_of condition) sense label
step_of (flat.Enter arguments) = Enter arguments
step_of (flat.Bind number value to) = Bind (expr_of number) (expr_of value) to
step_of (flat.Invoke routine first) = Invoke (expr_of routine) first
step_of (flat.Yield first count) = Yield first count
step_of (flat.Resume top) = Resume top
step_of (flat.Take to) = Take to
step_of (flat.Result to number) = Result to number
step_of (flat.Cut mark) = Cut mark
step_of (flat.Leave first count) = Leave first count
step_of (flat.Raise first) = Raise first
step_of (flat.Signal first) = Signal first
step_of flat.Pass = Pass
step_of (flat.Prim number first) = Prim number first

abbrev pub plain_code : List Flat → List Step
plain_code code = map step_of code
