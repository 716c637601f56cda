-- A word of the memory below the stack is that of its bytes.
use Rattle.std.proofs.Common.{◌≡◌, ◌∙◌, ◌⊎◌, inl, inr, ℕ, zero, suc, ◌+◌, ◌-◌, ◌*◌, ◌%◌, ◌^◌, ◌<◌, ◌≤◌, ◌==◌, Bool, true, false, List, [], ◌∷◌, length, drop, get_or, Option, Some, None, refl, ap, sym, arith}
use Rattle.std.specs.Prelude.{unwrap_or, option_map, if◌then◌else◌}
use Rattle.std.specs.Int.{w64, w8, from_le_bytes}
use Rattle.std.proofs.lemmas.Bool.Decides.{nat_tests}
use Rattle.std.proofs.lemmas.Bool.{eqb-true}
use Rattle.std.proofs.lemmas.List.{get_or-drop}
use Rattle.rv_machine.specs.State.{State, image_start, is_inside, number_at, read_at, stack_start, store_start}
use Rattle.clu_word_meaning.specs.World.{World, also, byte_of, bytes_of, word_in, word_of}
use Rattle.laws_selection.proofs.Memory.{Fine}
use Rattle.laws_selection.proofs.Words.{same_word}

pub some_same : {A : Type 0} (x y : A) → Some x ≡ Some y → x ≡ y
some_same {A} x y e = ap (λ (o : Option A). unwrap_or o x) e

byte_at : (xs : List ℕ) (k : ℕ) → number_at w8 xs k ≡ get_or xs k 0
byte_at xs k = let same : k + 0 ≡ k = omega arith in get_or-drop k xs 0 0 ∙ ap (λ j. get_or xs j 0) same

outside : (bytes : List ℕ) (x : ℕ) → x < stack_start → is_inside stack_start bytes x 1 ≡ false
outside bytes x l = grind (arith, nat_tests)

-- where a byte is
image_byte : (s : State) (x : ℕ) → is_inside image_start s.image x 1 ≡ true → read_at w8 s x ≡ Some (get_or s.image (x - image_start) 0)
image_byte s x t = let one : (x % 1 == 0) ≡ true = grind (arith, nat_tests) in rw (one, t) (ap Some (byte_at s.image (x - image_start)))

store_byte : (s : State) (x : ℕ) → is_inside image_start s.image x 1 ≡ false → is_inside store_start s.store x 1 ≡ true → read_at w8 s x ≡ Some (get_or s.store (x - store_start) 0)
store_byte s x f t = let one : (x % 1 == 0) ≡ true = grind (arith, nat_tests) in rw (one, f, t) (ap Some (byte_at s.store (x - store_start)))

byte_in : (s : State) (x b : ℕ) → x < stack_start → read_at w8 s x ≡ Some b → (is_inside image_start s.image x 1 ≡ true) ⊎ (is_inside store_start s.store x 1 ≡ true)
byte_in s x b l e = by (is_inside image_start s.image x 1) (is_inside store_start s.store x 1) refl refl
  where
    by : (i j : Bool) → is_inside image_start s.image x 1 ≡ i → is_inside store_start s.store x 1 ≡ j → (is_inside image_start s.image x 1 ≡ true) ⊎ (is_inside store_start s.store x 1 ≡ true)
    by true j p q = inl p
    by false true p q = inr q
    by false false p q =
        let one : (x % 1 == 0) ≡ true = grind (arith, nat_tests) in
        let none : read_at w8 s x ≡ None = rw (one, p, q, outside s.stack x l) refl in
        absurd (cc (sym none ∙ e))

module _ (s : State) (fine : Fine s) (a : ℕ) (bs : List ℕ) (aligned : a % 8 ≡ 0) (low : a < stack_start) (bytes : (i : ℕ) → i < 8 → read_at w8 s (a + i) ≡ Some (get_or bs i 0)) where
  in_image : is_inside image_start s.image a 8 ≡ true → read_at w64 s a ≡ Some (from_le_bytes w64 bs)
  in_image t =
      let t0 : (a % 8 == 0) ≡ true = grind (arith, nat_tests, aligned) in
      let from : image_start ≤ a = grind (arith, nat_tests, t) in
      rw (t0, t) (ap Some (same_word s.image bs (a - image_start) 0 (λ i l. each i l from)))
    where
      each : (i : ℕ) → i < 8 → image_start ≤ a → get_or s.image (a - image_start + i) 0 ≡ get_or bs (0 + i) 0
      each i l from =
          let one : is_inside image_start s.image (a + i) 1 ≡ true = grind (arith, nat_tests, t) in
          let same : a + i - image_start ≡ a - image_start + i = omega arith in
          let zero_more : i ≡ 0 + i = omega arith in
          ap (λ k. get_or s.image k 0) (sym same) ∙ some_same _ _ (sym (image_byte s (a + i) one) ∙ bytes i l) ∙ ap (λ k. get_or bs k 0) zero_more

  in_store : is_inside image_start s.image a 8 ≡ false → is_inside store_start s.store a 8 ≡ true → read_at w64 s a ≡ Some (from_le_bytes w64 bs)
  in_store f t =
      let t0 : (a % 8 == 0) ≡ true = grind (arith, nat_tests, aligned) in
      let from : store_start ≤ a = grind (arith, nat_tests, t) in
      rw (t0, f, t) (ap Some (same_word s.store bs (a - store_start) 0 (λ i l. each i l from)))
    where
      each : (i : ℕ) → i < 8 → store_start ≤ a → get_or s.store (a - store_start + i) 0 ≡ get_or bs (0 + i) 0
      each i l from =
          let short = fine.machine.image in
          let other : is_inside image_start s.image (a + i) 1 ≡ false = grind (arith, nat_tests) in
          let one : is_inside store_start s.store (a + i) 1 ≡ true = grind (arith, nat_tests, t) in
          let same : a + i - store_start ≡ a - store_start + i = omega arith in
          let zero_more : i ≡ 0 + i = omega arith in
          ap (λ k. get_or s.store k 0) (sym same) ∙ some_same _ _ (sym (store_byte s (a + i) other one) ∙ bytes i l) ∙ ap (λ k. get_or bs k 0) zero_more

  nowhere : is_inside image_start s.image a 8 ≡ false → is_inside store_start s.store a 8 ≡ false → (is_inside image_start s.image (a + 0) 1 ≡ true) ⊎ (is_inside store_start s.store (a + 0) 1 ≡ true) →
      (is_inside image_start s.image (a + 7) 1 ≡ true) ⊎ (is_inside store_start s.store (a + 7) 1 ≡ true) → ⊥
  nowhere f g (inl p) (inl q) = grind (arith, nat_tests, f, p, q)
  nowhere f g (inl p) (inr q) = let short = fine.machine.image in grind (arith, nat_tests, p, q, aligned)
  nowhere f g (inr p) (inl q) = let short = fine.machine.image in grind (arith, nat_tests, p, q)
  nowhere f g (inr p) (inr q) = grind (arith, nat_tests, g, p, q)

  pub read_eight : read_at w64 s a ≡ Some (from_le_bytes w64 bs)
  read_eight = by (is_inside image_start s.image a 8) (is_inside store_start s.store a 8) refl refl
    where
      by : (i j : Bool) → is_inside image_start s.image a 8 ≡ i → is_inside store_start s.store a 8 ≡ j → read_at w64 s a ≡ Some (from_le_bytes w64 bs)
      by true j p q = in_image p
      by false true p q = in_store p q
      by false false p q = absurd (nowhere p q (byte_in s (a + 0) (get_or bs 0 0) (omega arith) (bytes 0 (omega arith))) (byte_in s (a + 7) (get_or bs 7 0) (omega arith) (bytes 7 (omega arith))))

-- Bytes of the world.

pub record Row (w : World) (a n : ℕ) (bs : List ℕ) : Type 0 where
  pub count : length bs ≡ n
  pub each : (i : ℕ) → i < n → byte_of w (a + i) ≡ Some (get_or bs i 0)

row_more : (w : World) (a n b : ℕ) (bs cs : List ℕ) → byte_of w a ≡ Some b → Row w (suc a) n bs → b ∷ bs ≡ cs → Row w a (suc n) cs
row_more w a n b bs cs first row same = Rattle.std.proofs.Common.subst (λ (xs : List ℕ). Row w a (suc n) xs) same (record { count = ap suc row.count; each = each })
  where
    each : (i : ℕ) → i < suc n → byte_of w (a + i) ≡ Some (get_or (b ∷ bs) i 0)
    each zero l = let same : a + 0 ≡ a = omega arith in ap (byte_of w) same ∙ first
    each (suc i) l = let same : a + suc i ≡ suc a + i = omega arith in ap (byte_of w) same ∙ row.each i (omega arith)

pub bytes_row : (w : World) (n a : ℕ) (bs : List ℕ) → bytes_of w a n ≡ Some bs → Row w a n bs
unfolding bytes_of
bytes_row w zero a bs e = let same : [] ≡ bs = some_same [] bs e in Rattle.std.proofs.Common.subst (λ (xs : List ℕ). Row w a 0 xs) same (record { count = refl; each = λ i l. absurd (omega arith) })
bytes_row w (suc n) a bs e = by (bytes_row w n (suc a)) (byte_of w a) (bytes_of w (suc a) n) refl refl e
  where
    by : ((cs : List ℕ) → bytes_of w (suc a) n ≡ Some cs → Row w (suc a) n cs) → (o : Option ℕ) (p : Option (List ℕ)) → byte_of w a ≡ o → bytes_of w (suc a) n ≡ p → also o (λ b. option_map (λ (xs : List ℕ). b ∷ xs) p) ≡ Some bs → Row w a (suc n) bs
    by rest None p q r e = absurd (cc)
    by rest (Some b) None q r e = absurd (cc)
    by rest (Some b) (Some cs) q r e = row_more w a n b cs bs q (rest cs r) (some_same (b ∷ cs) bs e)

pub record WordOf (w : World) (a v : ℕ) : Type 0 where
  pub aligned : a % 8 ≡ 0
  pub bytes : List ℕ
  pub row : Row w a 8 bytes
  pub is : v ≡ from_le_bytes w64 bytes

pub word_bytes : (w : World) (a v : ℕ) → word_of w a ≡ Some v → WordOf w a v
unfolding word_of
word_bytes w a v e = by (a % 8 == 0) (bytes_of w a 8) refl refl e
  where
    by : (b : Bool) (o : Option (List ℕ)) → (a % 8 == 0) ≡ b → bytes_of w a 8 ≡ o → (if b then word_in o else None) ≡ Some v → WordOf w a v
    by false o q r e = absurd (cc)
    by true None q r e = absurd (cc)
    by true (Some bs) q r e = record { aligned = eqb-true (a % 8) 0 q; bytes = bs; row = bytes_row w 8 a bs r; is = some_same v (from_le_bytes w64 bs) (sym e) }

-- a word of bytes is one of 64 bits
eight_small : (a b c d e f g h : ℕ) → a < 256 → b < 256 → c < 256 → d < 256 → e < 256 → f < 256 → g < 256 → h < 256 →
    a + b * 256 + c * 65536 + d * 16777216 + e * 4294967296 + f * 1099511627776 + g * 281474976710656 + h * 72057594037927936 < 2 ^ 64
eight_small a b c d e f g h pa pb pc pd pe pf pg ph = omega arith

pub word_small : (bs : List ℕ) → ((i : ℕ) → i < 8 → get_or bs i 0 < 256) → from_le_bytes w64 bs < 2 ^ 64
word_small bs h = eight_small (get_or bs 0 0) (get_or bs 1 0) (get_or bs 2 0) (get_or bs 3 0) (get_or bs 4 0) (get_or bs 5 0) (get_or bs 6 0) (get_or bs 7 0)
    (h 0 (omega arith)) (h 1 (omega arith)) (h 2 (omega arith)) (h 3 (omega arith)) (h 4 (omega arith)) (h 5 (omega arith)) (h 6 (omega arith)) (h 7 (omega arith))
