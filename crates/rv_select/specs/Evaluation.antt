-- The words of expressions in registers: what each expression inside becomes stands in its place.
use Rattle.std.specs.Prelude.{ℕ, ◌+◌, ◌-◌, ◌^◌, ◌==◌, min, map, ℤ, pos, ◌+ℤ◌, ◌*ℤ◌, Bool, true, false, not, ◌&&◌, ◌||◌, if◌then◌else◌, List, [], ◌∷◌, length, Option, Some, None, nat_lt, int_lt, slice_get, slice_set}
use Rattle.std.specs.Int.{w32, w64, cast_signed, from_bool, saturate_signed}
use Rattle.clu_wir.specs.Plain.{Expr, Exprs}
use Rattle.clu_wir.specs.Plain as tree
use Rattle.clu_wir.specs.Costs.{known_words}
use Rattle.clu_wir.specs.declared.expression.WOp.{WOp}
use Rattle.clu_wir.specs.declared.expression.WOp.TheVariants as operation
use Rattle.clu_wir.specs.declared.hole.HoleKind.{HoleKind}
use Rattle.clu_wir.specs.declared.hole.HoleKind.TheVariants as kind
use Rattle.clu_wir.specs.declared.trap.Trap.{Trap}
use Rattle.clu_wir.specs.Numbers.{trap_number}
use Rattle.clu_wir.specs.Rooms.{all_words_of, plus}
use Rattle.rv_isa.specs.declared.op.Op.TheVariants as op
use Rattle.rv_select.specs.declared.conditions.Target.{Target}
use Rattle.rv_select.specs.declared.knowing.TheConstants.{REACH}
use Rattle.rv_select.specs.declared.knowing.Way.{Way}
use Rattle.rv_select.specs.declared.knowing.Way.TheVariants as way
use Rattle.rv_select.specs.declared.operand.Operand.{Operand}
use Rattle.rv_select.specs.declared.operand.Operand.TheVariants.{At, Known}
use Rattle.rv_select.specs.declared.operand.Scope.{Scope}
use Rattle.rv_select.specs.declared.parts.Part.TheVariants as part
use Rattle.rv_select.specs.declared.parts.TheConstants.{TRAP_ENTRY}
use Rattle.rv_select.specs.declared.register.Register.{Register}
use Rattle.rv_select.specs.declared.register.Register.TheVariants.{Back, Caller, First, Table, Value, Zero}
use Rattle.rv_select.specs.Combining.{combined_at, combined_onto, small}
use Rattle.rv_select.specs.Conditions.{always_onto, compared_onto, far, near}
use Rattle.rv_select.specs.Operands.{free, keeping, put_onto, register_of, register_onto, taking, unbound}
use Rattle.rv_select.specs.Slots.{load_at_onto, load_slot_onto, word_distance}
use Rattle.rv_select.specs.Steps.{part_onto}
use Rattle.rv_select.specs.Written.{Onto, copy_onto, fresh, go_onto, hole_onto, in_turn, jalr_onto, ld_onto, load_onto, placed, three_onto}

-- an address to which a small number is added last
pub record Sum : Type 0 where
  pub at : Operand
  pub onto : Onto
  pub added : ℤ

-- what an expression becomes
pub record Part : Type 0 where
  -- the word, if it is known where its bound words are; otherwise where it is, and what its evaluation and a jump on it add
  pub known : Scope → Option ℕ
  pub at : Scope → Operand
  pub onto : Scope → Onto
  pub jump : Bool → Target → Scope → Onto
  -- the word, if it is there already
  pub ready : Scope → Option Operand
  pub sum : Scope → Option Sum
  -- whether it is 0 or 1 in any case
  pub is_truth : Bool
  pub words : ℕ

-- What is known.

abbrev pub at_known : Option ℕ → Operand → Operand
at_known None o = o
at_known (Some word) o = Known word

abbrev pub unless_known : Option ℕ → Onto → Onto
unless_known None onto w = onto w
unless_known (Some word) onto w = w

abbrev pub same : Bool → Bool → Bool
same sense true = sense
same sense false = not sense

abbrev pub jump_known : Option ℕ → Onto → Bool → Target → Onto
jump_known None onto sense t w = onto w
jump_known (Some word) onto sense t w = always_onto t (same sense (not (word == 0))) w

abbrev pub at_of : Part → Scope → Operand
at_of p s = at_known (p.known s) (p.at s)

abbrev pub onto_of : Part → Scope → Onto
onto_of p s = unless_known (p.known s) (p.onto s)

abbrev pub jump_of : Part → Bool → Target → Scope → Onto
jump_of p sense t s = jump_known (p.known s) (p.jump sense t s) sense t

abbrev pub is_word : Option ℕ → ℕ → Bool
is_word None word = false
is_word (Some n) word = n == word

abbrev pub is_known : Part → ℕ → Scope → Bool
is_known p word s = is_word (p.known s) word

abbrev pub small_word : Option ℕ → Option ℤ
small_word None = None
small_word (Some word) = small (cast_signed w64 word)

abbrev pub compared : WOp → ℕ → ℕ → Option ℕ
compared operation.Slt a b = Some (from_bool (int_lt (cast_signed w64 a) (cast_signed w64 b)))
compared operation.Sltu a b = Some (from_bool (nat_lt a b))
compared operation.Equal a b = Some (from_bool (a == b))
compared _ a b = None

abbrev pub both_known : WOp → Option ℕ → Option ℕ → Option ℕ
both_known o (Some a) (Some b) = compared o a b
both_known o _ _ = None

abbrev pub is_comparison : WOp → Bool
is_comparison operation.Slt = true
is_comparison operation.Sltu = true
is_comparison operation.Equal = true
is_comparison _ = false

-- An expression on whose word a jump compares it with 0.

abbrev pub word_jump : Operand → Bool → Target → Scope → Onto
word_jump word sense t s = compared_onto (record { op = operation.Equal; left = word; right = Known 0 }) (not sense) t s

abbrev pub jump_on_word : (Scope → Option ℕ) → (Scope → Operand) → (Scope → Onto) → Bool → Target → Scope → Onto
jump_on_word known at onto sense t s = in_turn (unless_known (known s) (onto s) ∷ word_jump (at_known (known s) (at s)) sense t s ∷ [])

abbrev pub plain_jump : Part → Bool → Target → Scope → Onto
plain_jump p sense t s = in_turn (onto_of p s ∷ word_jump (at_of p s) sense t s ∷ [])

abbrev pub plain : ℕ → (Scope → Option ℕ) → (Scope → Operand) → (Scope → Onto) → Part
plain words known at onto =
    record {
      known = known;
      at = at;
      onto = onto;
      jump = λ sense t s. jump_on_word known at onto sense t s;
      ready = λ s. None;
      sum = λ s. None;
      is_truth = false;
      words = words;
    }

-- Expressions that have none inside.

unfoldable pub slot_onto : ℕ → Scope → Onto
slot_onto slot s w = if s.is_leaf then load_at_onto (free s) Value (word_distance slot) (taking s w) else load_slot_onto (free s) slot (taking s w)

abbrev pub cell_onto : HoleKind → Register → Onto
cell_onto kind.Regions to w = w
cell_onto kind.Runtime to w = w
cell_onto kind.Code to w = w
cell_onto kind.TypeCell to w = three_onto op.Add to to Table w
cell_onto _ to w = in_turn (three_onto op.Add to to Table ∷ ld_onto to to (pos 0) ∷ []) w

unfoldable pub hole_word_onto : HoleKind → ℕ → Scope → Onto
hole_word_onto k number s = in_turn (taking s ∷ hole_onto (free s) k number ∷ cell_onto k (free s) ∷ [])

abbrev pub bound_word : Option Operand → Option ℕ
bound_word (Some (Known word)) = Some word
bound_word _ = None

abbrev pub bound_at : Option Operand → Operand
bound_at None = Known 0
bound_at (Some o) = o

-- Loads.

unfoldable pub load_word_onto : Operand → ℤ → Scope → Onto
load_word_onto address distance s =
    in_turn (taking s ∷ register_onto address (free s) ∷ load_at_onto (free s) (register_of address (free s)) distance ∷ [])

abbrev pub loaded_whole_onto : Part → ℤ → Scope → Onto
loaded_whole_onto a distance s = in_turn (onto_of a s ∷ load_word_onto (at_of a s) distance s ∷ [])

abbrev pub loaded_by : Option Sum → Part → ℤ → Scope → Onto
loaded_by None a distance s = loaded_whole_onto a distance s
loaded_by (Some b) a distance s = in_turn (b.onto ∷ load_word_onto b.at (saturate_signed w32 (distance +ℤ b.added)) s ∷ [])

abbrev pub loaded_onto : Part → ℤ → Scope → Onto
loaded_onto a distance s = loaded_by (a.sum s) a distance s

unfoldable pub byte_at_onto : Operand → Scope → Onto
byte_at_onto address s =
    in_turn (taking s ∷ register_onto address (free s) ∷ load_onto op.Lbu (free s) (register_of address (free s)) (pos 0) ∷ [])

abbrev pub byte_onto : Part → Scope → Onto
byte_onto a s = in_turn (onto_of a s ∷ byte_at_onto (at_of a s) s ∷ [])

-- Operations.

abbrev pub right_scope : Part → Scope → Scope
right_scope left s = keeping (at_of left s) s

abbrev pub operands_onto : Part → Part → Scope → Onto
operands_onto l r s = in_turn (onto_of l s ∷ onto_of r (right_scope l s) ∷ [])

abbrev pub added_by : WOp → Option ℤ → Option ℤ
added_by operation.Add number = number
added_by _ number = None

abbrev pub sum_with : Option ℤ → Part → Scope → Option Sum
sum_with None l s = None
sum_with (Some added) l s = Some (record { at = at_of l s; onto = onto_of l s; added = added })

-- whether an operation asks whether the left word is 0, and whether words are equal just where the right one is 0, or just
-- where it isn't
abbrev pub is_opposite : WOp → Part → Part → Scope → Bool
is_opposite operation.Equal l r s = is_known r 0 s
is_opposite operation.Xor l r s = is_known r 1 s && l.is_truth
is_opposite _ l r s = false

abbrev pub is_told : WOp → Part → Part → Scope → Bool
is_told operation.Equal l r s = is_known l 0 s || (is_known l 1 s && r.is_truth)
is_told _ l r s = false

abbrev pub compare_onto : WOp → Part → Part → Bool → Target → Scope → Onto
compare_onto o l r sense t s =
    in_turn (operands_onto l r s ∷ compared_onto (record { op = o; left = at_of l s; right = at_of r (right_scope l s) }) sense t s ∷ [])

abbrev pub binary_plain : WOp → Part → Part → Part
binary_plain o l r =
    plain (plus (plus l.words r.words) 2) (λ s. both_known o (l.known s) (r.known s)) combined_at
    (λ s. in_turn (operands_onto l r s ∷ combined_onto o (at_of l s) (at_of r (right_scope l s)) s ∷ []))

-- what tells an operation as a condition
abbrev pub way_of : WOp → Part → Part → Scope → Way
way_of o l r s =
    if is_opposite o l r s then way.Left
    else (if is_told o l r s then way.Right (is_known l 1 s) else (if is_comparison o then way.Both else way.Word))

abbrev pub jump_by : Way → WOp → Part → Part → Onto → Bool → Target → Scope → Onto
jump_by way.Left o l r onto sense t s w = jump_of l (not sense) t s w
jump_by (way.Right is_same) o l r onto sense t s w = jump_of r (same sense is_same) t s w
jump_by way.Both o l r onto sense t s w = compare_onto o l r sense t s w
jump_by way.Word o l r onto sense t s w = onto w

abbrev pub binary : WOp → Part → Part → Part
binary o l r =
    let p = binary_plain o l r in
    record p {
      jump = λ sense t s. jump_by (way_of o l r s) o l r (plain_jump p sense t s) sense t s;
      sum = λ s. sum_with (added_by o (small_word (r.known s))) l s;
      is_truth = is_comparison o;
    }

-- Choices. The side that is there already, if one branch reaches over the condition and the other side, and whether it is
-- the first.

abbrev pub ready_first : Option Operand → Option Operand → Option (Operand × Bool)
ready_first (Some word) other = Some (word, true)
ready_first None (Some word) = Some (word, false)
ready_first None None = None

abbrev pub ready_side : Part → Part → Part → Scope → Option (Operand × Bool)
ready_side c first other s =
    if nat_lt REACH (plus c.words (plus first.words other.words)) then None else ready_first (first.ready s) (other.ready s)

-- the side that is evaluated last, after which both meet
abbrev pub last_onto : Part → Register → ℕ → Scope → Onto
last_onto p to end s = in_turn (onto_of p s ∷ put_onto (at_of p s) to ∷ placed end ∷ [])

abbrev pub sides_onto : Option (Operand × Bool) → Part → Part → Part → ℕ → ℕ → Scope → Onto
sides_onto (Some ready) c first other otherwise end s w =
    let jumped = in_turn (put_onto ready.0 (free s) ∷ jump_of c ready.1 (near end) (keeping (At (free s)) s) ∷ []) w in
    if ready.1 then last_onto other (free s) end s jumped else last_onto first (free s) end s jumped
sides_onto None c first other otherwise end s w =
    in_turn
    (jump_of c false (far otherwise) s ∷ onto_of first s ∷ put_onto (at_of first s) (free s) ∷ go_onto end ∷ placed otherwise
    ∷ last_onto other (free s) end s ∷ [])
    w

abbrev pub choice_onto : Part → Part → Part → Scope → Onto
choice_onto c first other s w =
    let otherwise = length w.labels in
    let end = length (fresh w).labels in
    in_turn (taking s ∷ fresh ∷ fresh ∷ sides_onto (ready_side c first other s) c first other otherwise end s ∷ []) w

-- both the first condition and the second word are wanted, or one of the first condition and the other word is enough
abbrev pub short_of : Part → Part → Scope → Option Bool
short_of second other s = if is_known other 0 s then Some true else (if is_known second 1 s then Some false else None)

abbrev pub jump_to : Part → Bool → Target → ℕ → Scope → Onto
jump_to p sense t around s = in_turn (jump_of p sense t s ∷ placed around ∷ [])

abbrev pub short_jump : Option Bool → Part → Part → Part → Onto → Bool → Target → Scope → Onto
short_jump None first second other onto sense t s w = onto w
short_jump (Some is_both) first second other onto sense t s w =
    let around = length w.labels in
    let jumped = in_turn (fresh ∷ jump_of first (not is_both) (far (if same sense is_both then around else t.label)) s ∷ []) w in
    if is_both then jump_to second sense t around s jumped else jump_to other sense t around s jumped

abbrev pub choice : Part → Part → Part → Part
choice c first other =
    let p = plain (plus (plus (plus c.words first.words) other.words) 5) (λ s. None) (λ s. At (free s)) (choice_onto c first other) in
    record p { jump = λ sense t s. short_jump (short_of first other s) c first other (plain_jump p sense t s) sense t s }

-- Checks: a trap is raised where the condition is 0. A routine without a frame gives it to its caller.

abbrev pub trap_distance : Trap → ℤ → ℤ → ℤ
trap_distance trap first each = saturate_signed w32 (saturate_signed w32 (each *ℤ pos (trap_number trap)) +ℤ first)

abbrev pub trap_to : Register → Trap → Onto
trap_to link trap = in_turn (part_onto First part.Trap ∷ jalr_onto link First (trap_distance trap (pos 0) TRAP_ENTRY) ∷ [])

unfoldable pub trap_onto : Trap → Bool → Onto
trap_onto trap is_leaf w = if is_leaf then in_turn (copy_onto Table Caller ∷ trap_to Zero trap ∷ []) w else trap_to Back trap w

abbrev pub is_held : Option ℕ → Bool
is_held None = false
is_held (Some word) = not (word == 0)

abbrev pub raising_onto : Part → Trap → Scope → Onto
raising_onto c trap s w =
    let holds = length w.labels in
    in_turn (fresh ∷ jump_of c true (near holds) s ∷ trap_onto trap s.is_leaf ∷ placed holds ∷ []) w

-- one that is known to hold becomes no word
abbrev pub check_onto : Part → Trap → Scope → Onto
check_onto c trap s w = if is_held (c.known s) then w else raising_onto c trap s w

abbrev pub checked : Part → Trap → Part → Part
checked c trap p =
    record (plain (plus (plus c.words p.words) 5) (λ s. None) (at_of p) (λ s. in_turn (check_onto c trap s ∷ onto_of p s ∷ []))) {
      jump = λ sense t s. in_turn (check_onto c trap s ∷ jump_of p sense t s ∷ []);
    }

-- Bound words: a known one that no immediate holds goes into a register.

abbrev pub held_by : Option ℤ → ℕ → Scope → Operand
held_by None word s = At (register_of (Known word) (free s))
held_by (Some number) word s = Known word

unfoldable pub held : Operand → Scope → Operand
held (At r) s = At r
held (Known word) s = held_by (small (cast_signed w64 word)) word s

abbrev pub held_onto_by : Option ℤ → ℕ → Scope → Onto
held_onto_by None word s w = register_onto (Known word) (free s) (taking s w)
held_onto_by (Some number) word s w = w

unfoldable pub held_onto : Operand → Scope → Onto
held_onto (At r) s w = w
held_onto (Known word) s w = held_onto_by (small (cast_signed w64 word)) word s w

-- what is kept and bound after the values from a number on, and what they add
abbrev pub bound_scope : List Part → ℕ → Scope → Scope → Scope
bound_scope [] number kept inner = record kept { bound = inner.bound }
bound_scope (p ∷ ps) number kept inner =
    let o = held (at_of p kept) kept in
    bound_scope ps (min (number + 1) (2 ^ 64 - 1)) (keeping o kept) (record inner { bound = slice_set inner.bound number o })

-- as many words are bound as there is room for
abbrev pub binding : ℕ → Onto
binding number w = record w { fits = w.fits && nat_lt number 4 }

abbrev pub bound_onto : List Part → ℕ → Scope → Onto
bound_onto [] number kept w = w
bound_onto (p ∷ ps) number kept w =
    let o = held (at_of p kept) kept in
    bound_onto ps (min (number + 1) (2 ^ 64 - 1)) (keeping o kept) (binding number (held_onto (at_of p kept) kept (onto_of p kept w)))

abbrev pub inner_scope : List Part → Scope → Scope
inner_scope ps s = bound_scope ps 0 s (unbound s.is_leaf)

abbrev pub within : List Part → Part → ℕ → Part
within ps body words =
    record (plain words (λ s. None) (λ s. at_of body (inner_scope ps s)) (λ s. in_turn (bound_onto ps 0 s ∷ onto_of body (inner_scope ps s) ∷ []))) {
      jump = λ sense t s. in_turn (bound_onto ps 0 s ∷ jump_of body sense t (inner_scope ps s) ∷ []);
    }

-- Expressions.

abbrev pub loaded : Part → ℕ → Part
loaded a bytes = plain (plus a.words 3) (λ s. None) (λ s. At (free s)) (λ s. loaded_onto a (pos bytes) s)

abbrev pub byte_of : Part → Part
byte_of a = plain (plus a.words 1) (λ s. None) (λ s. At (free s)) (byte_onto a)

abbrev pub within_body : List Part → Part → Part
within_body ps body = within ps body (plus (all_words_of (map (λ (p : Part). p.words) ps)) body.words)

abbrev mutual
  pub part_of : Expr → Part
  part_of (tree.slot n) = plain 3 (λ s. None) (λ s. At (free s)) (slot_onto n)
  part_of (tree.word n) = record (plain (known_words n) (λ s. Some n) (λ s. Known n) (λ s w. w)) { ready = λ s. Some (Known n) }
  part_of (tree.hole k number) = plain 4 (λ s. None) (λ s. At (free s)) (hole_word_onto k number)
  part_of (tree.load address bytes) = loaded (part_of address) bytes
  part_of (tree.byte address) = byte_of (part_of address)
  part_of (tree.binary o left right) = binary o (part_of left) (part_of right)
  part_of (tree.choice condition first other) = choice (part_of condition) (part_of first) (part_of other)
  part_of (tree.check condition trap value) = checked (part_of condition) trap (part_of value)
  part_of (tree.binding values body) = within_body (parts_of values) (part_of body)
  part_of (tree.bound number) =
      record (plain 1 (λ s. bound_word (slice_get s.bound number)) (λ s. bound_at (slice_get s.bound number)) (λ s w. w)) {
        ready = λ s. slice_get s.bound number;
      }

  pub parts_of : Exprs → List Part
  parts_of tree.no_exprs = []
  parts_of (tree.expr_and e es) = part_of e ∷ parts_of es

-- The word of an expression in a register.

abbrev pub in_register_at : Part → Scope → Register
in_register_at p s = register_of (at_of p s) (free s)

abbrev pub in_register_onto : Part → Scope → Onto
in_register_onto p s = in_turn (onto_of p s ∷ taking s ∷ register_onto (at_of p s) (free s) ∷ [])
