-- A word that word code puts into the store is put into the layout.
use Rattle.std.proofs.Common.{◌≡◌, ℕ, zero, suc, ◌+◌, ◌-◌, ◌/◌, ◌%◌, ◌^◌, ◌<◌, ◌≤◌, Bool, true, false, ◌==◌, nat_lt, nat_le, List, [], ◌∷◌, length, Option, None, Some, get_or, refl, sym, ap, ◌∙◌, subst, arith, if◌then◌else◌, ◌≢◌, ◌⊎◌, inl, inr, ⊎_elim}
use Rattle.std.specs.Int.{byte_at, to_le_bytes, w64}
use Rattle.std.specs.Option.{option_map}
use Rattle.std.proofs.lemmas.Bool.{cases_eq}
use Rattle.std.proofs.lemmas.Nat.{from_le_bytes-to_le_bytes_8}
use Rattle.clu_word_meaning.specs.World.{World, also, byte_of, bytes_of, in_place, put_bytes, put_word, with_byte, with_bytes, word_in, word_of}
use Rattle.clu_representation.specs.Layout.{put}
use Rattle.clu_representation.specs.Stored.{PutInStore, Somebodys}
use Rattle.clu_representation.proofs.Changes.{put_here, put_there}
use Rattle.clu_representation.proofs.Lists.{some_same}
use Rattle.clu_representation.proofs.Reading.{is_read, made_byte, word_end}

-- ---- bytes that are put

beside : (bs : List ℕ) (byte : ℕ → Option ℕ) (a c : ℕ) → (c < a) ⊎ (a + length bs ≤ c) → with_bytes byte a bs c ≡ byte c
unfolding with_bytes
beside [] byte a c l = refl
beside (b ∷ bs) byte a c l = beside bs (with_byte byte a b) (suc a) c (on l) ∙ other (c == a) refl
  where
    on : (c < a) ⊎ (a + length (b ∷ bs) ≤ c) → (c < suc a) ⊎ (suc a + length bs ≤ c)
    on (inl l) = inl (omega (arith, l))
    on (inr l) = inr (omega (arith, l))

    far : (c < a) ⊎ (a + length (b ∷ bs) ≤ c) → c ≡ a → ⊥
    far (inl l) e = omega (arith, l, e)
    far (inr l) e = omega (arith, l, e)

    same : (c == a) ≡ true → c ≡ a
    same e = grind arith

    other : (t : Bool) → (c == a) ≡ t → (if c == a then Some b else byte c) ≡ byte c
    other true e = absurd (far l (same e))
    other false e = ap (λ t. if t then Some b else byte c) e

inside : (bs : List ℕ) (byte : ℕ → Option ℕ) (a i : ℕ) → i < length bs → with_bytes byte a bs (a + i) ≡ Some (get_or bs i 0)
unfolding with_bytes
inside [] byte a i l = absurd (omega (arith, l))
inside (b ∷ bs) byte a zero l = beside bs (with_byte byte a b) (suc a) (a + zero) (inl (omega arith)) ∙ ap (λ t. if t then Some b else byte (a + zero)) (same a)
  where
    same : (a : ℕ) → (a + zero == a) ≡ true
    same a = grind arith
inside (b ∷ bs) byte a (suc i) l = ap (with_bytes (with_byte byte a b) (suc a) bs) (further a i) ∙ inside bs (with_byte byte a b) (suc a) i (omega (arith, l))
  where
    further : (a i : ℕ) → a + suc i ≡ suc a + i
    further a i = omega arith

-- ---- bytes that are read again

pub read_all : (n : ℕ) (w : World) (a : ℕ) (bs : List ℕ) → length bs ≡ n → ((i : ℕ) → i < n → byte_of w (a + i) ≡ Some (get_or bs i 0)) → bytes_of w a n ≡ Some bs
unfolding bytes_of
read_all zero w a [] e f = refl
read_all zero w a (b ∷ bs) e f = absurd (cc e)
read_all (suc n) w a [] e f = absurd (cc e)
read_all (suc n) w a (b ∷ bs) e f =
    (λ i. also ((ap (byte_of w) (first a) ∙ f zero (omega arith)) i) (λ c. option_map (λ (cs : List ℕ). c ∷ cs) (read_all n w (suc a) bs (less (length bs) n e) (λ j l. ap (byte_of w) (further a j) ∙ f (suc j) (omega (arith, l))) i)))
  where
    first : (a : ℕ) → a ≡ a + zero
    first a = omega arith

    further : (a i : ℕ) → suc a + i ≡ a + suc i
    further a i = omega arith

    less : (m n : ℕ) → suc m ≡ suc n → m ≡ n
    less m n e = omega (arith, e)

pub read_same : (n : ℕ) (w v : World) (a : ℕ) → ((i : ℕ) → i < n → byte_of v (a + i) ≡ byte_of w (a + i)) → bytes_of v a n ≡ bytes_of w a n
unfolding bytes_of
read_same zero w v a f = refl
read_same (suc n) w v a f = (λ i. also (here i) (λ b. option_map (λ (bs : List ℕ). b ∷ bs) (read_same n w v (suc a) (λ j l. ap (byte_of v) (further a j) ∙ f (suc j) (omega (arith, l)) ∙ ap (byte_of w) (sym (further a j))) i)))
  where
    first : (a : ℕ) → a ≡ a + zero
    first a = omega arith

    further : (a i : ℕ) → suc a + i ≡ a + suc i
    further a i = omega arith

    here : byte_of v a ≡ byte_of w a
    here = ap (byte_of v) (first a) ∙ f zero (omega arith) ∙ ap (byte_of w) (sym (first a))

-- ---- a word

pub aligned : (w : World) (a v : ℕ) → word_of w a ≡ Some v → (a % 8 == 0) ≡ true
unfolding word_of
aligned w a v e = by (a % 8 == 0) e
  where
    by : (t : Bool) → (if t then word_in (bytes_of w a 8) else None) ≡ Some v → t ≡ true
    by true e = refl
    by false e = absurd (cc e)

module _ (w : World) (a n : ℕ) where
  abbrev made : World
  made = record w { byte = with_bytes w.byte a (to_le_bytes w64 n) }

  put_is : (old : List ℕ) → (a % 8 == 0) ≡ true → w.writable ≤ a → bytes_of w a 8 ≡ Some old → put_word w a n ≡ Some made
  unfolding put_word put_bytes
  put_is old al l rd = (λ i. if al i then (if writes w.writable a l i then in_place w a (to_le_bytes w64 n) (rd i) else None) else None)
    where
      writes : (m a : ℕ) → m ≤ a → nat_le m a ≡ true
      writes m a l = grind arith

  byte_other : (c : ℕ) → (c < a) ⊎ (a + 8 ≤ c) → byte_of made c ≡ byte_of w c
  byte_other c l = ap (λ b. if nat_lt c w.next then b else None) (beside (to_le_bytes w64 n) w.byte a c l)

  byte_put : (i : ℕ) → i < 8 → a + 8 ≤ w.next → byte_of made (a + i) ≡ Some (get_or (to_le_bytes w64 n) i 0)
  byte_put i l m = (λ j. if below (a + i) w.next (omega (arith, l, m)) j then inside (to_le_bytes w64 n) w.byte a i l j else None)
    where
      below : (a b : ℕ) → a < b → nat_lt a b ≡ true
      below a b l = grind arith

  word_put : (a % 8 == 0) ≡ true → a + 8 ≤ w.next → n < 2 ^ 64 → word_of made a ≡ Some n
  unfolding word_of
  word_put al m l = (λ i. if al i then word_in (read_all 8 made a (to_le_bytes w64 n) refl (λ j k. byte_put j k m) i) else None) ∙ ap Some (from_le_bytes-to_le_bytes_8 n l)

  word_other : (p : ℕ) → (p + 8 ≤ a) ⊎ (a + 8 ≤ p) → word_of made p ≡ word_of w p
  unfolding word_of
  word_other p l = ap (λ r. if p % 8 == 0 then word_in r else None) (read_same 8 w made p (λ i k. byte_other (p + i) (on l i k)))
    where
      on : (p + 8 ≤ a) ⊎ (a + 8 ≤ p) → (i : ℕ) → i < 8 → (p + i < a) ⊎ (a + 8 ≤ p + i)
      on (inl l) i k = inl (omega (arith, l, k))
      on (inr l) i k = inr (omega (arith, l, k))

-- words don't overlap
apart : (p a : ℕ) → (p % 8 == 0) ≡ true → (a % 8 == 0) ≡ true → p ≢ a → (p + 8 ≤ a) ⊎ (a + 8 ≤ p)
apart p a e g k = by (nat_lt p a) refl
  where
    whole : (n : ℕ) → (n % 8 == 0) ≡ true → n % 8 ≡ 0
    whole n e = grind arith

    less : (n m : ℕ) → nat_lt n m ≡ true → n < m
    less n m e = grind arith

    more : (n m : ℕ) → nat_lt n m ≡ false → m ≤ n
    more n m e = grind arith

    below : (n m : ℕ) → n % 8 ≡ 0 → m % 8 ≡ 0 → n < m → n + 8 ≤ m
    below n m e g l = omega (arith, e, g, l)

    strictly : (n m : ℕ) → m ≤ n → (n ≡ m → ⊥) → m < n
    strictly n m l k = ⊎_elim (λ e. absurd (k e)) (λ d. by_cases n m l d) (cases_eq n m)
      where
        by_cases : (n m : ℕ) → m ≤ n → n ≢ m → m < n
        by_cases n m l d = grind arith

    by : (t : Bool) → nat_lt p a ≡ t → (p + 8 ≤ a) ⊎ (a + 8 ≤ p)
    by true l = inl (below p a (whole p e) (whole a g) (less p a l))
    by false l = inr (below a p (whole a g) (whole p e) (strictly p a (more p a l) k))

pub put_stored : PutInStore
put_stored map w a c n s mine fits =
    let there = s.words a (λ e. absurd (cc (sym mine ∙ e))) in
    let (old, rd, q) = is_read w a (map.word a) there in
    let al = aligned w a (map.word a) there in
    let end = word_end w s.bytes a (map.word a) there in
    record {
      after = made w a n;
      is = put_is w a n old al (s.writable a c mine) rd;
      next_same = refl;
      input_same = refl;
      output_same = refl;
      stored = record {
        words = λ p k. by p k (p == a) refl al end;
        free = s.free;
        bytes = λ p b e. small p b e (nat_lt p a) refl;
        end = s.end;
        writable = s.writable;
        aligned = s.aligned;
        opens = s.opens;
        limit = s.limit;
        limited = s.limited;
        blank = λ p l m. beside (to_le_bytes w64 n) w.byte a p (inr (omega (arith, l, end))) ∙ s.blank p l m;
      };
    }
  where
    equal_of : (u v : ℕ) → (u == v) ≡ true → u ≡ v
    equal_of u v e = grind arith

    other_of : (u v : ℕ) → (u == v) ≡ false → u ≢ v
    other_of u v e g = grind arith

    by : (p : ℕ) → Somebodys (map.owner p) → (t : Bool) → (p == a) ≡ t → (a % 8 == 0) ≡ true → a + 8 ≤ w.next → word_of (made w a n) p ≡ Some (put map.word a n p)
    by p k true e al end = subst (λ q. word_of (made w a n) q ≡ Some (put map.word a n q)) (sym (equal_of p a e)) (word_put w a n al end fits ∙ ap Some (sym (put_here map.word a n)))
    by p k false e al end =
        word_other w a n p (apart p a (aligned w p (map.word p) (s.words p k)) al (other_of p a e)) ∙ s.words p k ∙ ap Some (sym (put_there map.word a n p (other_of p a e)))

    byte_small : (i m : ℕ) → byte_at i m < 256
    byte_small zero m = omega arith
    byte_small (suc i) m = mod_small (m / 256 ^ suc i)
      where
        mod_small : (m : ℕ) → m % 256 < 256
        mod_small m = omega arith

    less : (n m : ℕ) → nat_lt n m ≡ true → n < m
    less n m e = grind arith

    more : (n m : ℕ) → nat_lt n m ≡ false → m ≤ n
    more n m e = grind arith

    small : (p b : ℕ) → with_bytes w.byte a (to_le_bytes w64 n) p ≡ Some b → (t : Bool) → nat_lt p a ≡ t → b < 256
    small p b e true l = s.bytes p b (sym (beside (to_le_bytes w64 n) w.byte a p (inl (less p a l))) ∙ e)
    small p b e false l = past (nat_lt p (a + 8)) refl
      where
        past : (t : Bool) → nat_lt p (a + 8) ≡ t → b < 256
        past true m =
            let i = p - a in
            let at : p ≡ a + i = omega (arith, more p a l) in
            let l8 : i < 8 = omega (arith, less p (a + 8) m, more p a l) in
            subst (λ x. x < 256) (sym (made_byte 8 0 i n l8) ∙ some_same (get_or (to_le_bytes w64 n) i 0) b (sym (inside (to_le_bytes w64 n) w.byte a i l8) ∙ ap (with_bytes w.byte a (to_le_bytes w64 n)) (sym at) ∙ e)) (byte_small (0 + i) n)
        past false m = s.bytes p b (sym (beside (to_le_bytes w64 n) w.byte a p (inr (more p (a + 8) m))) ∙ e)
