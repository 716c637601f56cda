-- How the parts of an object are read from the left: a value with the bytes that follow it, or how many bytes are left
-- where the first field starts that is not good.
use Rattle.std.specs.Prelude.{ℕ, ◌+◌, Bool, true, false, not, ◌||◌, ◌==◌, nat_lt, if◌then◌else◌, List, [], ◌∷◌, ◌++◌, length, codes, Option, Some, None, Result, Ok, Err}
use Rattle.std.specs.Str.{bytes_eq}
use Rattle.std.specs.Result.{is_ok}
use Rattle.clu_base.specs.declared.constants.Const.TheVariants as value
use Rattle.clu_base.specs.declared.constants.ObjConst.{ObjConst}
use Rattle.clu_base.specs.declared.constants.ObjConst.TheVariants as constant
use Rattle.clu_wir.specs.declared.region.Arm.{Arm}
use Rattle.clu_specs.specs.Reading.{Read, ◌>>=◌, end_at}
use Rattle.clu_specs.specs.TypeReading.{whole_type}
use Rattle.clu_specs.specs.UseReading.{whole_use}
use Rattle.clu_format.specs.Fields.{mark_read, byte_read, number_read, signed_read, text_read, module_read, is_name}
use Rattle.clu_format.specs.Lists.{counted}
use Rattle.clu_object.specs.declared.counts_ahead.CountsAhead.{CountsAhead}
use Rattle.clu_object.specs.declared.object.Hole.{Hole}
use Rattle.clu_object.specs.declared.object.ObjRoutine.{ObjRoutine}
use Rattle.clu_object.specs.declared.object.Object.{Object}
use Rattle.clu_object.specs.declared.object.Region.{Region}
use Rattle.clu_object.specs.declared.reading.Coded.{Coded}
use Rattle.clu_object.specs.declared.reading.Items.{Items}
use Rattle.clu_object.specs.Ahead.{counts_ahead, allows}
use Rattle.clu_object.specs.Holes.{is_pair_at}
use Rattle.clu_object.specs.Nesting.{nests, spans}

-- the name of a routine, and that of an arm
abbrev pub is_routine_name : List ℕ → Bool
is_routine_name name = is_name name || bytes_eq name (codes "own")

abbrev pub is_arm_name : List ℕ → Bool
is_arm_name name = (length name == 0) || is_name name

-- a field, so many bytes before the end, that is refused by a test
abbrev pub but : {X : Type 0} → (X → Bool) → ℕ → Read X → Read X
but test left read = read >>= λ x. if test x.0 then Err left else Ok x

-- a list after the number of its items
abbrev pub list_read : {X : Type 0} → (List X → List ℕ → Read X) → List ℕ → Read (List X)
list_read item bytes = number_read 4 bytes >>= λ count. counted item count.0 [] count.1

abbrev pub routine_name_read : List ℕ → Read (List ℕ)
routine_name_read bytes = but (λ name. not (is_routine_name name)) (length bytes) (text_read 2 bytes)

abbrev pub arm_name_read : List ℕ → Read (List ℕ)
arm_name_read bytes = but (λ name. not (is_arm_name name)) (length bytes) (text_read 2 bytes)

abbrev pub code_read : List ℕ → Read (List ℕ)
code_read bytes = list_read (λ made. number_read 4) bytes

-- the place of a hole from `least` on
abbrev pub place_read : List ℕ → ℕ → List ℕ → Read ℕ
place_read code least bytes = but (λ at. nat_lt at least || not (is_pair_at code at)) (length bytes) (number_read 4 bytes)

abbrev pub kind_read : List ℕ → Read ℕ
kind_read bytes = but (nat_lt 8) (length bytes) (byte_read bytes)

-- a hole after others, which begin at `least`; its number is judged by the counts behind the holes
abbrev pub hole_number_read : CountsAhead → ℕ → ℕ → List ℕ → Read ℕ
hole_number_read ahead kind words bytes = but (λ number. not (allows ahead kind number words)) (length bytes) (number_read 4 bytes)

unfoldable pub hole_read : List ℕ → CountsAhead → ℕ → List ℕ → Read Hole
hole_read code ahead least bytes =
    place_read code least bytes >>= λ at. kind_read at.1 >>= λ kind. hole_number_read ahead kind.0 (length code) kind.1 >>= λ number.
    Ok (record { at = at.0; kind = kind.0; number = number.0 }, number.1)

-- where the words of the last hole end
abbrev pub least_behind : ℕ → List Hole → ℕ
least_behind least [] = least
least_behind least (h ∷ holes) = least_behind (h.at + 2) holes

abbrev pub next_hole_read : List ℕ → CountsAhead → List Hole → List ℕ → Read Hole
next_hole_read code ahead made bytes = hole_read code ahead (least_behind 0 made) bytes

abbrev pub holes_read : List ℕ → List ℕ → Read (List Hole)
holes_read code bytes = number_read 4 bytes >>= λ count. counted (next_hole_read code (counts_ahead count.0 count.1)) count.0 [] count.1

-- texts of uses and types

abbrev pub is_use_text : List ℕ → Bool
is_use_text text = is_ok (whole_use text)

abbrev pub is_type_text : List ℕ → Bool
is_type_text text = is_ok (whole_type text)

unfoldable pub use_read : List ℕ → Read (List ℕ)
use_read bytes = but (λ text. not (is_use_text text)) (length bytes) (text_read 8 bytes)

unfoldable pub type_text_read : List ℕ → Read (List ℕ)
type_text_read bytes = but (λ text. not (is_type_text text)) (length bytes) (text_read 8 bytes)

-- constants by the number of their kind

abbrev pub bool_of : ℕ → List ℕ → List ℕ → Read ObjConst
bool_of b bytes rest = if b == 0 then Ok (constant.Value (value.Bool false), rest) else (if b == 1 then Ok (constant.Value (value.Bool true), rest) else Err (length bytes))

abbrev pub bool_read : List ℕ → Read ObjConst
bool_read bytes = byte_read bytes >>= λ x. bool_of x.0 bytes x.1

abbrev pub int_read : List ℕ → Read ObjConst
int_read bytes = signed_read bytes >>= λ x. Ok (constant.Value (value.Int x.0), x.1)

abbrev pub char_read : List ℕ → Read ObjConst
char_read bytes = byte_read bytes >>= λ x. Ok (constant.Value (value.Char x.0), x.1)

abbrev pub string_read : List ℕ → Read ObjConst
string_read bytes = text_read 8 bytes >>= λ x. Ok (constant.Value (value.Str x.0), x.1)

-- parameters are numbered from 1
abbrev pub parameter_read : List ℕ → Read ObjConst
parameter_read bytes = but (λ n. n == 0) (length bytes) (number_read 4 bytes) >>= λ x. Ok (constant.Param x.0, x.1)

unfoldable pub constant_by : ℕ → List ℕ → List ℕ → Read ObjConst
constant_by kind bytes rest =
    if kind == 0 then Ok (constant.Value value.Null, rest) else
    if kind == 1 then bool_read rest else
    if kind == 2 then int_read rest else
    if kind == 3 then char_read rest else
    if kind == 4 then string_read rest else
    if kind == 5 then parameter_read rest else Err (length bytes)

abbrev pub constant_read : List ℕ → Read ObjConst
constant_read bytes = byte_read bytes >>= λ kind. constant_by kind.0 bytes kind.1

-- a region's range, in a routine of so many code words
abbrev pub range_read : ℕ → List ℕ → Read (ℕ × ℕ)
range_read words bytes =
    number_read 4 bytes >>= λ first.
    if not (nat_lt first.0 words) then Err (length bytes) else
    (number_read 4 first.1 >>= λ last.
    if nat_lt last.0 first.0 then Err (length bytes) else
    if not (nat_lt last.0 words) then Err (length first.1) else
    Ok ((first.0, last.0), last.1))

abbrev pub target_read : ℕ → List ℕ → Read ℕ
target_read words bytes = but (λ target. not (nat_lt target words)) (length bytes) (number_read 4 bytes)

abbrev pub arm_read : ℕ → List ℕ → Read Arm
arm_read words bytes =
    arm_name_read bytes >>= λ name. target_read words name.1 >>= λ target. number_read 4 target.1 >>= λ mark.
    Ok (record { name = name.0; target = target.0; mark = mark.0 }, mark.1)

abbrev pub arms_read : ℕ → List ℕ → Read (List Arm)
arms_read words bytes = list_read (λ made. arm_read words) bytes

abbrev pub parent_of : ℕ → Option ℕ
parent_of n = if n == 0xffff_ffff then None else Some n

-- the parent of a region, which is refused here if the region does not nest
abbrev pub parent_read : List (ℕ × ℕ) → ℕ → ℕ → List ℕ → Read (Option ℕ)
parent_read before first last bytes =
    number_read 4 bytes >>= λ n. if nests before first last (parent_of n.0) then Ok (parent_of n.0, n.1) else Err (length bytes)

unfoldable pub region_read : ℕ → List (ℕ × ℕ) → List ℕ → Read Region
region_read words before bytes =
    range_read words bytes >>= λ range. parent_read before range.0.0 range.0.1 range.1 >>= λ parent. arms_read words parent.1 >>= λ arms.
    Ok (record { first = range.0.0; last = range.0.1; parent = parent.0; arms = arms.0 }, arms.1)

abbrev pub next_region_read : ℕ → List Region → List ℕ → Read Region
next_region_read words made bytes = region_read words (spans made) bytes

abbrev pub regions_read : ℕ → List ℕ → Read (List Region)
regions_read words bytes = list_read (next_region_read words) bytes

-- a routine up to its holes, and what these name

unfoldable pub coded_read : List ℕ → Read Coded
coded_read bytes =
    routine_name_read bytes >>= λ name. number_read 4 name.1 >>= λ nodes. code_read nodes.1 >>= λ code. holes_read code.0 code.1 >>= λ holes.
    Ok (record { name = name.0; nodes = nodes.0; code = code.0; holes = holes.0 }, holes.1)

unfoldable pub items_read : List ℕ → Read Items
items_read bytes =
    list_read (λ made. use_read) bytes >>= λ uses. list_read (λ made. constant_read) uses.1 >>= λ constants.
    list_read (λ made. type_text_read) constants.1 >>= λ types.
    Ok (record { uses = uses.0; constants = constants.0; types = types.0 }, types.1)

abbrev pub routine_of : Coded → Items → List Region → ObjRoutine
routine_of coded items regions =
    record { name = coded.name; nodes = coded.nodes; code = coded.code; holes = coded.holes; uses = items.uses; constants = items.constants; types = items.types; regions = regions }

unfoldable pub routine_read : List ℕ → Read ObjRoutine
routine_read bytes =
    coded_read bytes >>= λ coded. items_read coded.1 >>= λ items. regions_read (length coded.0.code) items.1 >>= λ regions.
    Ok (routine_of coded.0 items.0 regions.0, regions.1)

-- an item, added to those before it
abbrev pub added : {X : Type 0} → List X → Read X → Read (List X)
added made read = read >>= λ x. Ok (made ++ x.0 ∷ [], x.1)

-- routines, to the end
abbrev pub last_routines_read : List ℕ → Result (List ObjRoutine) ℕ
last_routines_read bytes = list_read (λ made. routine_read) bytes >>= λ routines. end_at routines.0 routines.1

abbrev pub version_read : List ℕ → Read ℕ
version_read bytes = but (λ version. not (version == 2)) (length bytes) (number_read 4 bytes)

-- the name of the module, after what each object begins with
unfoldable pub head_read : List ℕ → Read (List ℕ)
head_read bytes = mark_read (codes "CLUO") bytes >>= λ rest. version_read rest >>= λ version. module_read [] version.1

-- an object, and nothing more
unfoldable pub object_read : List ℕ → Result Object ℕ
object_read bytes =
    head_read bytes >>= λ name. last_routines_read name.1 >>= λ routines. Ok (record { «module» = name.0; routines = routines })
