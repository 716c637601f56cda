-- Whether steps name slots of their frame alone.
use Rattle.std.specs.Prelude.{ℕ, List, [], ◌∷◌, Bool, true, ◌+◌, ◌&&◌, nat_lt, nat_le}
use Rattle.clu_wir.specs.Widths.{slots_of}
use Rattle.clu_wir.specs.declared.expression.WExpr.{WExpr}
use Rattle.clu_frames.specs.declared.flat.TheConstants.{FOOT}
use Rattle.clu_frames.specs.declared.flat.Flat.{Flat}
use Rattle.clu_frames.specs.declared.flat.Flat.TheVariants as flat

-- whether a word of a frame of so many slots is one of its foot or a slot
abbrev pub mark_within : ℕ → ℕ → Bool
mark_within frame mark = nat_lt mark (frame + FOOT)

-- whether a frame of so many slots has those that an expression names
abbrev pub value_within : ℕ → WExpr → Bool
value_within frame value = nat_le (slots_of value) frame

-- whether a frame of so many slots has those that a step names; the first of several words that may be none may also be
-- the slot after the last
abbrev pub is_within : ℕ → Flat → Bool
is_within frame (flat.Set to value) = nat_lt to frame && value_within frame value
is_within frame (flat.Put address bytes value) = value_within frame address && value_within frame value
is_within frame (flat.Label label) = true
is_within frame (flat.Jump label) = true
is_within frame (flat.Branch condition sense label) = value_within frame condition
is_within frame (flat.Enter arguments) = nat_le arguments frame
is_within frame (flat.Bind number value to) = value_within frame number && value_within frame value && nat_lt to frame
is_within frame (flat.Invoke routine slot) = value_within frame routine && nat_le slot frame
is_within frame (flat.Yield slot count) = nat_le slot frame
is_within frame (flat.Resume slot) = nat_lt slot frame
is_within frame (flat.Take to) = nat_lt to frame
is_within frame (flat.Result to number) = nat_lt to frame
is_within frame (flat.Cut mark) = mark_within frame mark
is_within frame (flat.Leave slot count) = nat_le slot frame
is_within frame (flat.Raise slot) = nat_lt slot frame
is_within frame (flat.Signal slot) = nat_lt slot frame
is_within frame flat.Pass = true
is_within frame (flat.Prim number slot) = nat_le slot frame

abbrev pub are_within : ℕ → List Flat → Bool
are_within frame [] = true
are_within frame (step ∷ rest) = is_within frame step && are_within frame rest
