-- New words of the store are handed out: they are 0.
use Rattle.std.proofs.Common.{◌≡◌, ℕ, zero, suc, ◌+◌, ◌*◌, ◌%◌, ◌<◌, ◌≤◌, Bool, true, false, ◌&&◌, ◌==◌, nat_lt, nat_le, List, [], ◌∷◌, None, Some, refl, sym, ap, ◌∙◌, arith, if◌then◌else◌, get_or}
use Rattle.clu_word_meaning.specs.World.{World, byte_of, grown, word_in, word_of}
use Rattle.clu_representation.specs.Layout.{Extends, Layout, Owner, SameCell, fixed, nobody, of_cell}
use Rattle.clu_representation.specs.Stored.{Somebodys, Stored, TakenFromStore, frozen, is_new, with_new_words}
use Rattle.clu_representation.proofs.Changes.{owner_before}
use Rattle.clu_representation.proofs.Reading.{word_end}
use Rattle.clu_representation.proofs.Writing.{read_all, read_same}

less : (n m : ℕ) → nat_lt n m ≡ true → n < m
less n m e = grind arith

more : (n m : ℕ) → nat_le n m ≡ true → n ≤ m
more n m e = grind arith

-- what a new word is
record New (from n a : ℕ) : Type 0 where
  whole : (a % 8 == 0) ≡ true
  after : from ≤ a
  before : a < from + 8 * n

new_is : (from n a : ℕ) → is_new from n a ≡ true → New from n a
new_is from n a e = by (a % 8 == 0) (nat_le from a) (nat_lt a (from + 8 * n)) refl refl refl e
  where
    by : (x y z : Bool) → (a % 8 == 0) ≡ x → nat_le from a ≡ y → nat_lt a (from + 8 * n) ≡ z → x && y && z ≡ true → New from n a
    by true true true p q r e = record { whole = p; after = more from a q; before = less a (from + 8 * n) r }
    by true true false p q r e = absurd (cc e)
    by true false z p q r e = absurd (cc e)
    by false y z p q r e = absurd (cc e)

module _ (map : Layout) (w : World) (n : ℕ) (owner : Owner) (s : Stored map w) (room : w.next + 8 * n ≤ s.limit) where
  free_of : (a : ℕ) → is_new w.next n a ≡ true → map.owner a ≡ nobody
  free_of a e = s.free a (new_is w.next n a e).after

  pub new_extends : Extends map (with_new_words map w.next n owner)
  new_extends = record {
    fixed_stay = λ a v f. record {
      whose = owner_before (is_new w.next n a) owner (map.owner a) fixed f.whose (λ e. cc e) (λ m. sym f.whose ∙ free_of a m);
      is = word_before a fixed f.whose (λ e. cc e) ∙ f.is;
    };
    cells_stay = λ t c a r. record { at = r.at; type_is = r.type_is; whose = owner_before (is_new w.next n a) owner (map.owner a) (of_cell c) r.whose (λ e. cc e) (λ m. sym r.whose ∙ free_of a m) };
  }
    where
      word_before : (a : ℕ) (o : Owner) → map.owner a ≡ o → (o ≡ nobody → ⊥) → (if is_new w.next n a then 0 else map.word a) ≡ map.word a
      word_before a o e k = by (is_new w.next n a) refl
        where
          by : (t : Bool) → is_new w.next n a ≡ t → (if is_new w.next n a then 0 else map.word a) ≡ map.word a
          by true m = absurd (k (sym e ∙ free_of a m))
          by false m = ap (λ t. if t then 0 else map.word a) m

  pub new_same : (c : ℕ) → SameCell c map (with_new_words map w.next n owner)
  new_same c = record {
    at = refl;
    kind = refl;
    words = λ a whose. (owner_before (is_new w.next n a) owner (map.owner a) (of_cell c) whose (λ e. cc e) (λ m. sym whose ∙ free_of a m), by a whose (is_new w.next n a) refl);
  }
    where
      by : (a : ℕ) → map.owner a ≡ of_cell c → (t : Bool) → is_new w.next n a ≡ t → (if is_new w.next n a then 0 else map.word a) ≡ map.word a
      by a whose true m = absurd (cc (sym whose ∙ free_of a m))
      by a whose false m = ap (λ t. if t then 0 else map.word a) m

  -- what was there is read as before
  old_word : (a v : ℕ) → word_of w a ≡ Some v → word_of (grown (8 * n) w) a ≡ Some v
  unfolding word_of
  old_word a v e = ap (λ r. if a % 8 == 0 then word_in r else None) (read_same 8 w (grown (8 * n) w) a (λ i l. same i l)) ∙ e
    where
      end : a + 8 ≤ w.next
      end = word_end w s.bytes a v e

      below : (p q : ℕ) → p < q → nat_lt p q ≡ true
      below p q l = grind arith

      same : (i : ℕ) → i < 8 → byte_of (grown (8 * n) w) (a + i) ≡ byte_of w (a + i)
      same i l = ap (λ t. if t then w.byte (a + i) else None) (below (a + i) (w.next + 8 * n) (omega (arith, l, end)) ∙ sym (below (a + i) w.next (omega (arith, l, end))))

  -- new bytes are 0
  new_byte : (a : ℕ) → w.next ≤ a → a < w.next + 8 * n → byte_of (grown (8 * n) w) a ≡ Some 0
  new_byte a l m = ap (λ t. if t then w.byte a else None) (below a (w.next + 8 * n) m) ∙ s.blank a l (omega (arith, m, room))
    where
      below : (p q : ℕ) → p < q → nat_lt p q ≡ true
      below p q l = grind arith

  abbrev zeros : List ℕ
  zeros = 0 ∷ 0 ∷ 0 ∷ 0 ∷ 0 ∷ 0 ∷ 0 ∷ 0 ∷ []

  abbrev Zero : ℕ → Type 0
  Zero n = ◌≡◌ {A = ℕ} n 0

  eight_zeros : (i : ℕ) → i < 8 → Zero (get_or zeros i 0)
  eight_zeros zero l = refl
  eight_zeros (suc zero) l = refl
  eight_zeros (suc (suc zero)) l = refl
  eight_zeros (suc (suc (suc zero))) l = refl
  eight_zeros (suc (suc (suc (suc zero)))) l = refl
  eight_zeros (suc (suc (suc (suc (suc zero))))) l = refl
  eight_zeros (suc (suc (suc (suc (suc (suc zero)))))) l = refl
  eight_zeros (suc (suc (suc (suc (suc (suc (suc zero))))))) l = refl
  eight_zeros (suc (suc (suc (suc (suc (suc (suc (suc i)))))))) l = absurd (omega (arith, l))

  new_word : (a : ℕ) → is_new w.next n a ≡ true → word_of (grown (8 * n) w) a ≡ Some 0
  unfolding word_of
  new_word a e =
      let k = new_is w.next n a e in
      (λ i. if k.whole i then word_in (read_all 8 (grown (8 * n) w) a zeros refl (λ j l. new_byte (a + j) (omega (arith, k.after)) (inside a j l k.whole k.before) ∙ ap Some (sym (eight_zeros j l))) i) else None)
    where
      whole_number : (m : ℕ) → (m % 8 == 0) ≡ true → m % 8 ≡ 0
      whole_number m e = grind arith

      inside : (a j : ℕ) → j < 8 → (a % 8 == 0) ≡ true → a < w.next + 8 * n → a + j < w.next + 8 * n
      inside a j l e m = omega (arith, l, m, whole_number a e, s.aligned)

  pub taken : Stored (with_new_words map w.next n owner) (grown (8 * n) w)
  taken = record {
    words = λ a k. by a k (is_new w.next n a) refl;
    free = λ a l. nobodys a l (is_new w.next n a) refl;
    bytes = s.bytes;
    writable = λ a c e. writes a c e (is_new w.next n a) refl;
    end = omega (arith, room, s.limited);
    limit = s.limit;
    limited = s.limited;
    blank = λ a l m. s.blank a (omega (arith, l)) m;
    aligned = after s.aligned;
    opens = omega (arith, s.opens);
  }
    where
      after : w.next % 8 ≡ 0 → (w.next + 8 * n) % 8 ≡ 0
      after e = omega (arith, e)

      by : (a : ℕ) → Somebodys (if is_new w.next n a then owner else map.owner a) → (t : Bool) → is_new w.next n a ≡ t → word_of (grown (8 * n) w) a ≡ Some (if is_new w.next n a then 0 else map.word a)
      by a k true e = new_word a e ∙ ap (λ t. Some (if t then 0 else map.word a)) (sym e)
      by a k false e = old_word a (map.word a) (s.words a (λ h. k (ap (λ t. if t then owner else map.owner a) e ∙ h))) ∙ ap (λ t. Some (if t then 0 else map.word a)) (sym e)

      nobodys : (a : ℕ) → w.next + 8 * n ≤ a → (t : Bool) → is_new w.next n a ≡ t → (if is_new w.next n a then owner else map.owner a) ≡ nobody
      nobodys a l true e = absurd (omega (arith, l, (new_is w.next n a e).before))
      nobodys a l false e = ap (λ t. if t then owner else map.owner a) e ∙ s.free a (omega (arith, l))

      writes : (a c : ℕ) → (if is_new w.next n a then owner else map.owner a) ≡ of_cell c → (t : Bool) → is_new w.next n a ≡ t → w.writable ≤ a
      writes a c h true e = omega (arith, s.opens, (new_is w.next n a e).after)
      writes a c h false e = s.writable a c (sym (ap (λ t. if t then owner else map.owner a) e) ∙ h)

pub words_taken : TakenFromStore
words_taken map w n owner s room = (new_extends map w n owner s room, (λ c. new_same map w n owner s room c), taken map w n owner s room)

-- ---- what was made never changes from here on

pub stored_frozen : (map : Layout) (w : World) (from n c : ℕ) → Stored map w → ((a : ℕ) → is_new from n a ≡ true → map.owner a ≡ of_cell c) → Stored (frozen from n map) w
stored_frozen map w from n c s mine = record {
  words = λ a k. s.words a (λ e. k (still a e (is_new from n a) refl));
  free = λ a l. still a (s.free a l) (is_new from n a) refl;
  bytes = s.bytes;
  writable = λ a d e. writes a d e (is_new from n a) refl;
  end = s.end;
  aligned = s.aligned;
  opens = s.opens;
  limit = s.limit;
  limited = s.limited;
  blank = s.blank;
}
  where
    still : (a : ℕ) → map.owner a ≡ nobody → (t : Bool) → is_new from n a ≡ t → (if is_new from n a then fixed else map.owner a) ≡ nobody
    still a e true m = absurd (cc (sym (mine a m) ∙ e))
    still a e false m = ap (λ t. if t then fixed else map.owner a) m ∙ e

    writes : (a d : ℕ) → (if is_new from n a then fixed else map.owner a) ≡ of_cell d → (t : Bool) → is_new from n a ≡ t → w.writable ≤ a
    writes a d e true m = absurd (cc (sym (ap (λ t. if t then fixed else map.owner a) m) ∙ e))
    writes a d e false m = s.writable a d (sym (ap (λ t. if t then fixed else map.owner a) m) ∙ e)

-- what is somebody's stays as it is
pub record Stays (a b : Layout) : Type 0 where
  pub words : (p : ℕ) → Somebodys (a.owner p) → (b.owner p ≡ a.owner p) × (b.word p ≡ a.word p)
  pub address : (c : ℕ) → b.address c ≡ a.address c
  pub kind : (c : ℕ) → b.kind c ≡ a.kind c

pub stays_extends : (a b : Layout) → Stays a b → Extends a b
stays_extends a b s = record {
  fixed_stay = λ p v f. let k = s.words p (λ e. absurd (cc (sym f.whose ∙ e))) in record { whose = k.0 ∙ f.whose; is = k.1 ∙ f.is };
  cells_stay = λ t c p r. let k = s.words p (λ e. absurd (cc (sym r.whose ∙ e))) in record { at = r.at ∙ sym (s.address c); whose = k.0 ∙ r.whose; type_is = s.kind c ∙ r.type_is };
}

pub stays_same : (a b : Layout) → Stays a b → (c : ℕ) → SameCell c a b
stays_same a b s c = record {
  at = s.address c;
  kind = s.kind c;
  words = λ p whose. let k = s.words p (λ e. absurd (cc (sym whose ∙ e))) in (k.0 ∙ whose, k.1);
}
