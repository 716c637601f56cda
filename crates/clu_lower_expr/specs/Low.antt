-- A routine in the making, as plain data, and the steps of lowering over it: each gives something and the routine after it, or
-- nothing where no code is made.
use Rattle.std.specs.Prelude.{ℕ, ◌+◌, ◌++◌, max, min, nat_eq, Bool, false, List, [], ◌∷◌, length, map, Option, None, Some}
use Rattle.std.specs.Str.{bytes_eq}
use Rattle.std.specs.List.{position_or_len}
use Rattle.std.specs.Map.{lookup}
use Rattle.indexmap.specs.IndexMap.{insert_entry}
use Rattle.indexmap.specs.IndexSet.{insert_key}
use Rattle.clu_base.specs.declared.constants.ObjConst.{ObjConst}
use Rattle.clu_base.specs.contracts.constants.ObjConstPartialEq.TheImpl as constants
use Rattle.clu_lower_expr.specs.contracts.lowering.TypeOperationPartialEq.TheImpl as operations
use Rattle.clu_wir.specs.declared.trap.Trap.TheVariants as trap
use Rattle.clu_wir.specs.Plain.{Expr, Stmt, slot, word, check, set, stmt_of}
use Rattle.clu_lower_expr.specs.declared.arms.OpenArm.{OpenArm}
use Rattle.clu_lower_expr.specs.declared.variables.Variable.{Variable}
use Rattle.clu_lower_expr.specs.declared.lowering.Lowering.{Lowering}
use Rattle.clu_lower_expr.specs.declared.lowering.TypeOperation.{TypeOperation}

pub record Low : Type 0 where
  -- the list of statements to which is added
  pub code : List Stmt
  pub taken : ℕ
  pub most : ℕ
  -- texts of uses, constants, and texts of types, in the order in which they are met
  pub uses : List (List ℕ)
  pub constants : List ObjConst
  pub types : List (List ℕ)
  -- the places of types that are asked for alone, the numbers of uses of operations, and of the file's constants
  pub places : List (List ℕ × ℕ)
  pub operations : List (TypeOperation × ℕ)
  pub named : List (ℕ × ℕ)
  -- variables by their declarations
  pub variables : List (ℕ × Variable)
  pub guards : List (List OpenArm)

abbrev pub low_of : Lowering → Low
low_of out = record {
  code = map stmt_of out.statements.items;
  taken = out.taken;
  most = out.most;
  uses = out.uses.keys;
  constants = out.constants.keys;
  types = out.types.items;
  places = out.type_places.entries;
  operations = out.operation_numbers.entries;
  named = out.constant_numbers.entries;
  variables = out.variables.entries;
  guards = map (λ arms. arms.items) out.guards.items;
}

abbrev pub empty : Low
empty = record { code = []; taken = 0; most = 0; uses = []; constants = []; types = []; places = []; operations = []; named = []; variables = []; guards = [] }

abbrev pub Step : Type 0 → Type 0
Step A = Low → Option (A × Low)

abbrev pub and_then : {A B : Type 0} → Option (A × Low) → (A → Step B) → Option (B × Low)
and_then None f = None
and_then (Some (a, low)) f = f a low

-- ---- statements

abbrev pub pushed : Stmt → Low → Low
pushed s low = record low { code = low.code ++ s ∷ [] }

abbrev pub appended : List Stmt → Low → Low
appended ss low = record low { code = low.code ++ ss }

abbrev pub with_code : List Stmt → Low → Low
with_code ss low = record low { code = ss }

-- ---- slots

abbrev pub took : Low → Low
took low = record low { taken = low.taken + 1; most = max low.most (low.taken + 1) }

abbrev pub released : ℕ → Low → Low
released n low = record low { taken = min low.taken n }

-- ---- numbers, in the order in which things are met

abbrev pub used : List ℕ → Low → ℕ × Low
used text low = (position_or_len (bytes_eq text) low.uses, record low { uses = insert_key bytes_eq low.uses text })

abbrev pub with_type : List ℕ → Low → ℕ × Low
with_type text low = (length low.types, record low { types = low.types ++ text ∷ [] })

abbrev pub with_types : List (List ℕ) → Low → ℕ × Low
with_types texts low = (length low.types, record low { types = low.types ++ texts })

abbrev pub placed : List ℕ → Option ℕ → Low → ℕ × Low
placed text (Some place) low = (place, low)
placed text None low = (length low.types, record low { types = low.types ++ text ∷ []; places = insert_entry bytes_eq low.places text (length low.types) })

-- the place of a type that was asked for before, or is added now
abbrev pub type_place : List ℕ → Low → ℕ × Low
type_place text low = placed text (lookup (bytes_eq text) low.places) low

-- a constant that only the linker knows
abbrev pub same_constant : ObjConst → ObjConst → Bool
same_constant = (constants.ghosts).eq

abbrev pub with_constant : ObjConst → Low → ℕ × Low
with_constant c low = (position_or_len (same_constant c) low.constants, record low { constants = insert_key same_constant low.constants c })

-- what was noted of an operation of the file's types, and of a constant of the file
abbrev pub same_operation : TypeOperation → TypeOperation → Bool
same_operation = (operations.ghosts).eq

abbrev pub number_of_operation : TypeOperation → Low → Option ℕ
number_of_operation operation low = lookup (same_operation operation) low.operations

abbrev pub with_operation : TypeOperation → ℕ → Low → Low
with_operation operation number low = record low { operations = insert_entry same_operation low.operations operation number }

abbrev pub number_of_constant : ℕ → Low → Option ℕ
number_of_constant place low = lookup (nat_eq place) low.named

abbrev pub with_named : ℕ → ℕ → Low → Low
with_named place number low = record low { named = insert_entry nat_eq low.named place number }

-- ---- variables

abbrev pub variable_of : ℕ → Low → Option Variable
variable_of place low = lookup (nat_eq place) low.variables

abbrev pub declared : ℕ → Variable → Low → Low
declared place v low = record low { variables = insert_entry nat_eq low.variables place v }

-- a variable that names an object from the first on, and one that names none yet
abbrev pub named_variable : Low → Variable × Low
named_variable low = (record { slot = low.taken; named = None; is_any = false }, took low)

abbrev pub bare_variable : Low → Variable × Low
bare_variable low = (record { slot = low.taken; named = Some (low.taken + 1); is_any = false }, pushed (set (low.taken + 1) (word 0)) (took (took low)))

abbrev pub noted : Option ℕ → Low → Low
noted (Some name) low = pushed (set name (word 1)) low
noted None low = low

-- the variable names the object of a word
abbrev pub assigned : Variable → Expr → Low → Low
assigned v e low = noted v.named (pushed (set v.slot e) low)

abbrev pub needed : Expr → Expr → Expr
needed named object = check named trap.Uninitialized object

abbrev pub object_in : Option ℕ → ℕ → Expr
object_in (Some name) at = needed (slot name) (slot at)
object_in None at = slot at

abbrev pub object_if : Option Variable → Option Expr
object_if (Some v) = Some (object_in v.named v.slot)
object_if None = None

-- the word of the object that a variable names
abbrev pub object_of : ℕ → Low → Option Expr
object_of place low = object_if (variable_of place low)
