-- What an expression of word code finds at words and bytes that are somebody's.
use Rattle.std.proofs.Common.{◌≡◌, ℕ, zero, suc, ◌+◌, ◌%◌, ◌<◌, ◌≤◌, Bool, true, false, ◌==◌, nat_lt, List, [], ◌∷◌, length, Option, None, Some, get_or, refl, sym, ap, ◌∙◌, subst, arith, if◌then◌else◌}
use Rattle.std.specs.Option.{option_map}
use Rattle.std.specs.Int.{byte_at, bytes_low_first, from_le_bytes, to_le_bytes, w64}
use Rattle.std.proofs.lemmas.Nat.{le_bytes_8}
use Rattle.clu_word_meaning.specs.World.{World, also, byte_of, bytes_of, word_in, word_of}
use Rattle.clu_word_meaning.specs.Words.{Linked, Slots, view}
use Rattle.clu_representation.specs.Layout.{Layout}
use Rattle.clu_representation.specs.Shown.{byte_in}
use Rattle.clu_representation.specs.Stored.{Seen, Stored}
use Rattle.clu_representation.proofs.Lists.{some_same}

-- ---- bytes that are read one after the other

record First (w : World) (a n : ℕ) (bs : List ℕ) : Type 0 where
  b : ℕ
  rest : List ℕ
  here : byte_of w a ≡ Some b
  more : bytes_of w (suc a) n ≡ Some rest
  all : b ∷ rest ≡ bs

first_of : (w : World) (a n : ℕ) (bs : List ℕ) → bytes_of w a (suc n) ≡ Some bs → First w a n bs
unfolding bytes_of
first_of w a n bs e = by (byte_of w a) (bytes_of w (suc a) n) refl refl e
  where
    by : (b : Option ℕ) (rest : Option (List ℕ)) → byte_of w a ≡ b → bytes_of w (suc a) n ≡ rest → also b (λ b. option_map (λ (bs : List ℕ). b ∷ bs) rest) ≡ Some bs → First w a n bs
    by None rest p q e = absurd (cc e)
    by (Some b) None p q e = absurd (cc e)
    by (Some b) (Some rest) p q e = record { b = b; rest = rest; here = p; more = q; all = some_same (b ∷ rest) bs e }

read_length : (n : ℕ) (w : World) (a : ℕ) (bs : List ℕ) → bytes_of w a n ≡ Some bs → length bs ≡ n
unfolding bytes_of
read_length zero w a bs e = ap length (sym (some_same [] bs e))
read_length (suc n) w a bs e = let f = first_of w a n bs e in ap length (sym f.all) ∙ ap suc (read_length n w (suc a) f.rest f.more)

read_byte : (n : ℕ) (w : World) (a : ℕ) (bs : List ℕ) → bytes_of w a n ≡ Some bs → (i : ℕ) → i < n → byte_of w (a + i) ≡ Some (get_or bs i 0)
read_byte zero w a bs e i l = absurd (omega (arith, l))
read_byte (suc n) w a bs e zero l = let f = first_of w a n bs e in ap (byte_of w) (at_first a) ∙ f.here ∙ ap (λ xs. Some (get_or xs 0 0)) f.all
  where
    at_first : (a : ℕ) → a + zero ≡ a
    at_first a = omega arith
read_byte (suc n) w a bs e (suc i) l = let f = first_of w a n bs e in ap (byte_of w) (further a i) ∙ read_byte n w (suc a) f.rest f.more i (omega (arith, l)) ∙ ap (λ xs. Some (get_or xs (suc i) 0)) f.all
  where
    further : (a i : ℕ) → a + suc i ≡ suc a + i
    further a i = omega arith

-- ---- the bytes of a word

pub made_byte : (k j i v : ℕ) → i < k → get_or (bytes_low_first j k v) i 0 ≡ byte_at (j + i) v
made_byte zero j i v l = absurd (omega (arith, l))
made_byte (suc k) j zero v l = ap (λ n. byte_at n v) (at_first j)
  where
    at_first : (a : ℕ) → a ≡ a + zero
    at_first a = omega arith
made_byte (suc k) j (suc i) v l = made_byte k (suc j) i v (omega (arith, l)) ∙ ap (λ n. byte_at n v) (further j i)
  where
    further : (a i : ℕ) → suc a + i ≡ a + suc i
    further a i = omega arith

zero_plus : (i : ℕ) → 0 + i ≡ i
zero_plus i = omega arith

pub is_read : (w : World) (a v : ℕ) → word_of w a ≡ Some v → (bs : List ℕ) × (bytes_of w a 8 ≡ Some bs) × (from_le_bytes w64 bs ≡ v)
unfolding word_of
is_read w a v e = aligned (a % 8 == 0) e
  where
    read : (r : Option (List ℕ)) → bytes_of w a 8 ≡ r → word_in r ≡ Some v → (bs : List ℕ) × (bytes_of w a 8 ≡ Some bs) × (from_le_bytes w64 bs ≡ v)
    read None p e = absurd (cc e)
    read (Some bs) p e = (bs, p, some_same (from_le_bytes w64 bs) v e)

    aligned : (t : Bool) → (if t then word_in (bytes_of w a 8) else None) ≡ Some v → (bs : List ℕ) × (bytes_of w a 8 ≡ Some bs) × (from_le_bytes w64 bs ≡ v)
    aligned true e = read (bytes_of w a 8) refl e
    aligned false e = absurd (cc e)

pub byte_there : (w : World) (a b : ℕ) → byte_of w a ≡ Some b → (a < w.next) × (w.byte a ≡ Some b)
byte_there w a b e = by (nat_lt a w.next) refl e
  where
    by : (t : Bool) → nat_lt a w.next ≡ t → (if t then w.byte a else None) ≡ Some b → (a < w.next) × (w.byte a ≡ Some b)
    by true p e = (less a w.next p, e)
      where
        less : (n m : ℕ) → nat_lt n m ≡ true → n < m
        less n m p = grind arith
    by false p e = absurd (cc e)

module _ (w : World) (small : (a b : ℕ) → w.byte a ≡ Some b → b < 256) (a v : ℕ) (e : word_of w a ≡ Some v) where
  all_small : (bs : List ℕ) → bytes_of w a 8 ≡ Some bs → (i : ℕ) → get_or bs i 0 < 256
  all_small bs p i = by bs i (λ i l. (byte_there w (a + i) (get_or bs i 0) (read_byte 8 w a bs p i (subst (λ n. i < n) (read_length 8 w a bs p) l))).1)
    where
      by : (bs : List ℕ) (i : ℕ) → ((i : ℕ) → i < length bs → w.byte (a + i) ≡ Some (get_or bs i 0)) → get_or bs i 0 < 256
      by bs i f = inside (nat_lt i (length bs)) refl
        where
          less : (n m : ℕ) → nat_lt n m ≡ true → n < m
          less n m p = grind arith

          more : (n m : ℕ) → nat_lt n m ≡ false → m ≤ n
          more n m p = grind arith

          past : (bs : List ℕ) (i : ℕ) → length bs ≤ i → get_or bs i 0 ≡ 0
          past [] i l = refl
          past (b ∷ bs) zero l = absurd (omega (arith, l))
          past (b ∷ bs) (suc i) l = past bs i (omega (arith, l))

          inside : (t : Bool) → nat_lt i (length bs) ≡ t → get_or bs i 0 < 256
          inside true p = small (a + i) (get_or bs i 0) (f i (less i (length bs) p))
          inside false p = subst (λ n. n < 256) (sym (past bs i (more i (length bs) p))) (omega arith)

  pub byte_of_word : (i : ℕ) → i < 8 → byte_of w (a + i) ≡ Some (byte_in v i)
  byte_of_word i l =
      let (bs, p, q) = is_read w a v e in
      let again : to_le_bytes w64 v ≡ bs = le_bytes_8 bs v (read_length 8 w a bs p) (all_small bs p) (sym q) in
      read_byte 8 w a bs p i l ∙ ap Some (ap (λ xs. get_or xs i 0) (sym again) ∙ made_byte 8 0 i v l ∙ ap (λ n. byte_at n v) (zero_plus i))

  pub word_end : a + 8 ≤ w.next
  word_end = let b = byte_of_word 7 (omega arith) in omega (arith, (byte_there w (a + 7) (byte_in v 7) b).0)

-- what an expression finds in the store is what the layout says
pub seen_in : (map : Layout) (w : World) (l : Linked) (slots : Slots) → Stored map w → Seen map (view l slots w)
seen_in map w l slots s = record {
  words = s.words;
  bytes = λ a n h k. byte_of_word w s.bytes a (map.word a) (s.words a k) n h;
  below = λ a k. omega (arith, word_end w s.bytes a (map.word a) (s.words a k), s.end);
}
