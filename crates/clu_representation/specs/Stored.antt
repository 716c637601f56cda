-- The words of a layout as word code finds them.
use Rattle.std.specs.Prelude.{◌≡◌, ℕ, ◌+◌, ◌*◌, ◌%◌, ◌^◌, ◌<◌, ◌≤◌, ◌==◌, ◌&&◌, nat_le, nat_lt, Bool, if◌then◌else◌, Some}
use Rattle.clu_wir.specs.Value.{View}
use Rattle.clu_word_meaning.specs.World.{World, grown, put_word, word_of}
use Rattle.clu_representation.specs.Layout.{Extends, Layout, Owner, SameCell, fixed, nobody, of_cell, with_word}
use Rattle.clu_representation.specs.Shown.{byte_in}

abbrev pub Somebodys : Owner → Type 0
Somebodys owner = owner ≡ nobody → ⊥

-- Each word that is somebody's lies in the store, and those of cells can be written. What is free is nobody's and 0, up to a limit,
-- which is below 2^63.
pub record Stored (map : Layout) (w : World) : Type 0 where
  pub words : (a : ℕ) → Somebodys (map.owner a) → word_of w a ≡ Some (map.word a)
  pub free : (a : ℕ) → w.next ≤ a → map.owner a ≡ nobody
  pub bytes : (a b : ℕ) → w.byte a ≡ Some b → b < 256
  pub writable : (a c : ℕ) → map.owner a ≡ of_cell c → w.writable ≤ a
  pub end : w.next ≤ 2 ^ 63
  pub aligned : w.next % 8 ≡ 0
  pub opens : w.writable ≤ w.next
  pub limit : ℕ
  pub limited : limit ≤ 2 ^ 63
  pub blank : (a : ℕ) → w.next ≤ a → a < limit → w.byte a ≡ Some 0

-- what an expression finds at an address that is somebody's, and at a byte of a word there
pub record Seen (map : Layout) (view : View) : Type 0 where
  pub words : (a : ℕ) → Somebodys (map.owner a) → view.word a ≡ Some (map.word a)
  pub bytes : (a n : ℕ) → n < 8 → Somebodys (map.owner a) → view.byte (a + n) ≡ Some (byte_in (map.word a) n)
  pub below : (a : ℕ) → Somebodys (map.owner a) → a + 8 ≤ 2 ^ 63

-- word code puts a word into the store: the world after it has the layout with this word
pub record WordPut (map : Layout) (w : World) (a n : ℕ) : Type 0 where
  pub after : World
  pub is : put_word w a n ≡ Some after
  pub next_same : after.next ≡ w.next
  pub input_same : after.input ≡ w.input
  pub output_same : after.output ≡ w.output
  pub stored : Stored (with_word map a n) after

-- where the word is a cell's
abbrev pub PutInStore : Type 0
PutInStore = (map : Layout) (w : World) (a c n : ℕ) → Stored map w → map.owner a ≡ of_cell c → n < 2 ^ 64 → WordPut map w a n

-- ---- the store grows

-- a new word, of so many from an address on
abbrev pub is_new : ℕ → ℕ → ℕ → Bool
is_new from n a = (a % 8 == 0) && nat_le from a && nat_lt a (from + 8 * n)

-- so many words from an address on are somebody's, and 0
abbrev pub with_new_words : Layout → ℕ → ℕ → Owner → Layout
with_new_words map from n owner = record {
  word = λ a. if is_new from n a then 0 else map.word a;
  owner = λ a. if is_new from n a then owner else map.owner a;
  address = map.address;
  kind = map.kind;
}

-- word code takes so many words: what was shown is shown, each cell's words stay, and the store has the layout with these
abbrev pub TakenFromStore : Type 0
TakenFromStore = (map : Layout) (w : World) (n : ℕ) (owner : Owner) (s : Stored map w) → w.next + 8 * n ≤ s.limit →
    Extends map (with_new_words map w.next n owner) × ((c : ℕ) → SameCell c map (with_new_words map w.next n owner)) × Stored (with_new_words map w.next n owner) (grown (8 * n) w)

-- words of a cell become words that never change
abbrev pub frozen : ℕ → ℕ → Layout → Layout
frozen from n map = record {
  word = map.word;
  owner = λ a. if is_new from n a then fixed else map.owner a;
  address = map.address;
  kind = map.kind;
}
