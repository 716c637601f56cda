-- The laws of what is linked.
use Rattle.std.specs.Prelude.{◌≡◌, ◌≤◌, ◌<◌, ◌+◌, ◌*◌, ◌/◌, ◌%◌, ◌^◌, ◌⊎◌, ℕ, suc, List, [], ◌∷◌, length, Option, Some, slice_get}
use Rattle.std.specs.Str.{bytes_eq}
use Rattle.clu_types.specs.CluType.{CluType}
use Rattle.clu_specs.specs.Seen.{Used}
use Rattle.clu_library.specs.Contents.{Contents}
use Rattle.clu_object.specs.declared.object.Hole.{Hole}
use Rattle.clu_link_meaning.specs.Image.{code_words, descriptor_words, fixed_bytes, fixed_words, link_table, lower, string_bytes, upper}
use Rattle.clu_link_meaning.specs.Plan.{Callable, Code, Plan, all_of, before, cells_of, descriptor_at, descriptors_start, first_word, name_word, string_at, string_size, table_at, words_of}
use Rattle.clu_link_meaning.specs.Reach.{Fate, IsReach, Made, start_of}
use Rattle.laws_link.specs.Names.{name_of}
use Rattle.laws_link.specs.Reached.{Fated, Lists, UsedBefore}

-- ---- what is reached

-- a program reaches one list, and one thing is found at each instance, whatever is made for built-in types
abbrev pub OneReach : Type 0
OneReach =
    (made : CluType → List ℕ → Option Made) (library : Contents) (start : List ℕ) (us vs : List Used) (fates others : List Fate)
    → IsReach made library start us fates → IsReach made library start vs others → (us ≡ vs) × (fates ≡ others)

-- where there are not too many, each that is reached was looked at, and what it uses is reached
abbrev pub ReachIsClosed : Type 0
ReachIsClosed =
    (made : CluType → List ℕ → Option Made) (library : Contents) (start : List ℕ) (us : List Used) (fates : List Fate)
    → IsReach made library start us fates → length us ≤ 4096 → (i : ℕ) (u : Used) → slice_get us i ≡ Some u → Fated made library us u

-- and nothing else is: each is the start, or used by one that stands before it
abbrev pub ReachIsLeast : Type 0
ReachIsLeast =
    (made : CluType → List ℕ → Option Made) (library : Contents) (start : List ℕ) (us : List Used) (fates : List Fate)
    → IsReach made library start us fates → (i : ℕ) (u : Used) → slice_get us i ≡ Some u → (u ≡ start_of start) ⊎ UsedBefore made library us i u

-- ---- where the plan's parts stand

-- no hole is at a word
abbrev pub Clear : ℕ → List Hole → Type 0
Clear i [] = Unit {0}
Clear i (h ∷ hs) = (h.at ≡ i → ⊥) × (suc h.at ≡ i → ⊥) × Clear i hs

-- a word of a code that is under no hole is the object's, and the image has no other words of code
pub record WordsStand (p : Plan) : Type 0 where
  pub word : (n : ℕ) (c : Code) (i : ℕ) → slice_get p.codes n ≡ Some c → i < length c.routine.code → Clear i c.routine.holes
      → slice_get (code_words p) (first_word p n + i) ≡ slice_get c.routine.code i
  pub all : length (code_words p) ≡ all_of words_of p.codes

-- the words of descriptors and of link tables stand at their addresses
pub record TablesStand (p : Plan) : Type 0 where
  pub descriptor_word : (n : ℕ) (c : Callable) (i : ℕ) → slice_get p.callables n ≡ Some c → i < 3
      → slice_get (fixed_words p) (3 * n + i) ≡ slice_get (descriptor_words p n c) i
  pub descriptor_address : (n i : ℕ) → descriptor_at p n + 8 * i ≡ descriptors_start p + 8 * (3 * n + i)
  pub cell_word : (n : ℕ) (c : Callable) (j : ℕ) → slice_get p.callables n ≡ Some c → j < cells_of c
      → slice_get (fixed_words p) (3 * length p.callables + (before cells_of p.callables n + j)) ≡ slice_get (link_table p c) j
  pub cell_address : (n j : ℕ) → table_at p n + 8 * j ≡ descriptors_start p + 8 * (3 * length p.callables + (before cells_of p.callables n + j))

-- a string's size and bytes stand at its address, and its address tells it
pub record StringsStand (p : Plan) : Type 0 where
  pub byte : (n : ℕ) (s : List ℕ) (i : ℕ) → slice_get p.strings n ≡ Some s → i < string_size s
      → slice_get (fixed_bytes p) (before string_size p.strings n + i) ≡ slice_get (string_bytes p s) i
  pub name : (n : ℕ) (s : List ℕ) → slice_get p.strings n ≡ Some s → name_of p (string_at p n) ≡ Some s

-- the word of a name that is a string of the program tells the name; so different names have different words
pub record NamesDiffer (p : Plan) : Type 0 where
  pub name : (a : List ℕ) → Lists bytes_eq p.strings a → name_of p (name_word p a) ≡ Some a
  pub differ : (a b : List ℕ) → Lists bytes_eq p.strings a → Lists bytes_eq p.strings b → name_word p a ≡ name_word p b → a ≡ b

-- the words under a hole: what the LUI puts into its upper bits and the ADDI adds, which takes off 4,096 from 2,048 on, is the number,
-- and their opcodes and registers stay
pub record HolesGive (word other v : ℕ) : Type 0 where
  pub low : v % 2 ^ 12 < 2048 → upper word v / 2 ^ 12 * 2 ^ 12 + lower other v / 2 ^ 20 ≡ v
  pub high : 2048 ≤ v % 2 ^ 12 → upper word v / 2 ^ 12 * 2 ^ 12 + lower other v / 2 ^ 20 ≡ v + 4096
  pub upper_kept : upper word v % 2 ^ 12 ≡ word % 2 ^ 12
  pub lower_kept : lower other v % 2 ^ 20 ≡ other % 2 ^ 20
