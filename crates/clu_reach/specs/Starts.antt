-- What a program may start with.
use Rattle.std.specs.Prelude.{◌≡◌, Bool, true, false, not, ◌&&◌, ◌==◌, ℕ, List, length, Option, Some, None}
use Rattle.clu_types.specs.declared.spec.Form.{Form}
use Rattle.clu_types.specs.declared.spec.Form.TheVariants as form
use Rattle.clu_types.specs.declared.spec.Spec.{Spec}
use Rattle.clu_reach.specs.declared.errors.LinkError.{LinkError}
use Rattle.clu_reach.specs.declared.errors.LinkError.TheVariants as error

-- a procedure without arguments and results
abbrev pub is_start_form : Form → Bool
is_start_form (form.Routine op) = not op.iter && (length op.heading.args == 0) && (length op.heading.results == 0)
is_start_form (form.Cluster demands ops) = false

-- and without parameters
abbrev pub is_start : Spec → Bool
is_start s = (length s.kinds == 0) && is_start_form s.form

-- by what is kept of its start, a program may be linked
abbrev pub MayStart : Option Spec → Type 0
MayStart (Some s) = is_start s ≡ true
MayStart None = ⊥

-- no module is kept of the name only where none is, and a start is bad only where it is none
abbrev pub IsBadStart : Option Spec → Type 0
IsBadStart (Some s) = is_start s ≡ false
IsBadStart None = ⊥

abbrev pub IsRefusal : LinkError → List ℕ → Option Spec → Type 0
IsRefusal (error.NoModule name) start kept = (name ≡ start) × (kept ≡ None)
IsRefusal (error.BadStart name) start kept = (name ≡ start) × IsBadStart kept
IsRefusal error.Memory start kept = Unit {0}
IsRefusal _ start kept = ⊥
