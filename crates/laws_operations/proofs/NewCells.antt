-- A mutable object gets a new cell, of new words at the end of the store.
use Rattle.std.proofs.Common.{◌≡◌, ℕ, suc, ◌+◌, ◌*◌, ◌%◌, ◌<◌, ◌≤◌, ◌≢◌, Bool, true, false, ◌&&◌, ◌==◌, nat_le, nat_lt, List, [], ◌∷◌, ◌++◌, length, refl, sym, ap, ◌∙◌, subst, arith, if◌then◌else◌}
use Rattle.clu_types.specs.CluType.{CluType}
use Rattle.clu_layout.specs.Objects.{Cell}
use Rattle.clu_word_meaning.specs.World.{World, grown}
use Rattle.clu_representation.specs.Layout.{Extends, Layout, Owner, SameCell, of_cell, with_cell_at}
use Rattle.clu_representation.specs.Stored.{Stored, is_new, with_new_words}
use Rattle.clu_representation.proofs.Taking.{words_taken}
use Rattle.laws_operations.specs.CellSteps.{AreThere}

all_three : (x y z : Bool) → x ≡ true → y ≡ true → z ≡ true → x && y && z ≡ true
all_three x y z p q r = λ i. p i && q i && r i

-- the word so many places after the first new one
pub new_place : (from n i : ℕ) → from % 8 ≡ 0 → i < n → is_new from n (from + 8 * i) ≡ true
new_place from n i e l = all_three ((from + 8 * i) % 8 == 0) (nat_le from (from + 8 * i)) (nat_lt (from + 8 * i) (from + 8 * n)) (whole (from + 8 * i) (omega (arith, e))) (more from (from + 8 * i) (omega arith)) (less (from + 8 * i) (from + 8 * n) (omega (arith, l)))
  where
    whole : (a : ℕ) → a % 8 ≡ 0 → (a % 8 == 0) ≡ true
    whole a e = grind arith

    more : (a b : ℕ) → a ≤ b → nat_le a b ≡ true
    more a b l = grind arith

    less : (a b : ℕ) → a < b → nat_lt a b ≡ true
    less a b l = grind arith

choose_same : {A : Type 0} (c : ℕ) (x y : A) → (if c == c then x else y) ≡ x
choose_same {A} c x y = by (c == c) refl
  where
    by : (t : Bool) → (c == c) ≡ t → (if t then x else y) ≡ x
    by true e = refl
    by false e = absurd (grind arith)

choose_other : {A : Type 0} (d c : ℕ) (x y : A) → d ≢ c → (if d == c then x else y) ≡ y
choose_other {A} d c x y k = by (d == c) refl
  where
    by : (t : Bool) → (d == c) ≡ t → (if t then x else y) ≡ y
    by true e = absurd (k (grind arith))
    by false e = refl

pub length_added : {A : Type 0} (xs : List A) (x : A) → length (xs ++ x ∷ []) ≡ suc (length xs)
length_added [] x = refl
length_added (y ∷ ys) x = ap suc (length_added ys x)

-- so many new words are those of the cell, and the words of all others stay
pub record NewCell (map : Layout) (w : World) (cells : List Cell) (n : ℕ) (T : CluType) : Type 0 where
  pub later : Layout
  pub extends : Extends map later
  pub others : (d : ℕ) → length cells ≢ d → SameCell d map later
  pub stored : Stored later (grown (8 * n) w)
  pub mine : (i : ℕ) → i < n → later.owner (w.next + 8 * i) ≡ of_cell (length cells)
  pub blank : (i : ℕ) → i < n → later.word (w.next + 8 * i) ≡ 0
  pub at : later.address (length cells) ≡ w.next
  pub kind : later.kind (length cells) ≡ T
  pub there : (cell : Cell) → AreThere later (cells ++ cell ∷ [])

pub new_cell : (map : Layout) (w : World) (cells : List Cell) (n : ℕ) (T : CluType) (s : Stored map w) → w.next + 8 * n ≤ s.limit → AreThere map cells → NewCell map w cells n T
new_cell map w cells n T s room there =
    let taken = with_new_words map w.next n (of_cell (length cells)) in
    let (extends, same, stored) = words_taken map w n (of_cell (length cells)) s room in
    let other : (d : ℕ) → length cells ≢ d → d ≢ length cells = λ d k e. k (sym e) in
    record {
      later = with_cell_at taken T (length cells) w.next;
      extends = record {
        fixed_stay = λ p v f. let g = extends.fixed_stay p v f in record { whose = g.whose; is = g.is };
        cells_stay = λ t d p r.
            let q = extends.cells_stay t d p r in
            let k : d ≢ length cells = λ e. omega (arith, e, there p d r.whose) in
            record {
              at = q.at ∙ sym (choose_other d (length cells) w.next (map.address d) k);
              whose = q.whose;
              type_is = choose_other d (length cells) T (map.kind d) k ∙ q.type_is;
            };
      };
      others = λ d k. record {
        at = choose_other d (length cells) w.next (map.address d) (other d k);
        kind = choose_other d (length cells) T (map.kind d) (other d k);
        words = (same d).words;
      };
      stored = record {
        words = stored.words;
        free = stored.free;
        bytes = stored.bytes;
        writable = stored.writable;
        end = stored.end;
        aligned = stored.aligned;
        opens = stored.opens;
        limit = stored.limit;
        limited = stored.limited;
        blank = stored.blank;
      };
      mine = λ i l. ap (λ t. if t then of_cell (length cells) else map.owner (w.next + 8 * i)) (new_place w.next n i s.aligned l);
      blank = λ i l. ap (λ t. if t then 0 else map.word (w.next + 8 * i)) (new_place w.next n i s.aligned l);
      at = choose_same (length cells) w.next (map.address (length cells));
      kind = choose_same (length cells) T (map.kind (length cells));
      there = λ cell a d e. subst (λ m. d < m) (sym (length_added cells cell)) (by a d (is_new w.next n a) e);
    }
  where
    number : Owner → ℕ
    number (of_cell m) = m
    number _ = 0

    by : (a d : ℕ) (t : Bool) → (if t then of_cell (length cells) else map.owner a) ≡ of_cell d → d < suc (length cells)
    by a d true e = omega (arith, ap number e)
    by a d false e = omega (arith, there a d e)
