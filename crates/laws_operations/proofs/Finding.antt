-- Words of objects that code loads.
use Rattle.std.proofs.Common.{◌≡◌, ℕ, zero, suc, ◌+◌, ◌*◌, ◌/◌, ◌%◌, ◌^◌, ◌<◌, ◌≤◌, true, false, ◌==◌, nat_lt, List, [], ◌∷◌, length, Option, None, Some, slice_get, refl, sym, ap, ◌∙◌, subst, arith, mod-eq_of_lt, mod-lt, ℤ, pos, negsuc, ◌+ℤ◌, ◌-ℤ◌, ◌≤ℤ◌}
use Rattle.std.specs.Int.{from_bool}
use Rattle.std.proofs.lemmas.Int.{ints}
use Rattle.clu_types.specs.CluType.{CluType}
use Rattle.clu_layout.specs.Objects.{Object, Objects, no_objects, object_and, listed}
use Rattle.clu_layout.specs.Places.{is_int, is_empty}
use Rattle.clu_wir.specs.declared.expression.WOp.TheVariants as op
use Rattle.clu_wir.specs.Value.{View, op_word}
use Rattle.clu_representation.specs.Layout.{Fixed, Image, Layout, of_cell}
use Rattle.clu_representation.specs.Shown.{At, Bytes, IsByte, Row, bit, byte_in}
use Rattle.clu_representation.specs.Held.{Own}
use Rattle.clu_representation.specs.Stored.{Seen, Somebodys}
use Rattle.laws_operations.proofs.Words.{word, not_zero}
use Rattle.laws_operations.proofs.Results.{less_of}

pub fixed_is_somebodys : (map : Layout) (p v : ℕ) → Fixed map p v → Somebodys (map.owner p)
fixed_is_somebodys map p v f e = absurd (cc (sym f.whose ∙ e))

pub cell_is_somebodys : (map : Layout) (c p : ℕ) → map.owner p ≡ of_cell c → Somebodys (map.owner p)
cell_is_somebodys map c p f e = absurd (cc (sym f ∙ e))

module _ (map : Layout) (view : View) (seen : Seen map view) where
  -- the word that lies so many bytes after an address
  pub found : (a bytes p v : ℕ) → p ≡ a + bytes → Somebodys (map.owner p) → map.word p ≡ v → view.word ((a + bytes) % 2 ^ 64) ≡ Some v
  found a bytes p v e k is = ap view.word (by a bytes p e (seen.below p k)) ∙ seen.words p k ∙ ap Some is
    where
      by : (a bytes p : ℕ) → p ≡ a + bytes → p + 8 ≤ 2 ^ 63 → (a + bytes) % 2 ^ 64 ≡ p
      by a bytes p e l = mod-eq_of_lt (omega (arith, e, l)) ∙ sym e

  pub fixed_found : (a bytes p v : ℕ) → p ≡ a + bytes → Fixed map p v → view.word ((a + bytes) % 2 ^ 64) ≡ Some v
  fixed_found a bytes p v e f = found a bytes p v e (fixed_is_somebodys map p v f) f.is

  pub own_found : (a bytes c p v : ℕ) → p ≡ a + bytes → Own map c p v → view.word ((a + bytes) % 2 ^ 64) ≡ Some v
  own_found a bytes c p v e f = found a bytes p v e (cell_is_somebodys map c p f.whose) f.is

  -- ---- bytes

  byte_below : (first n b : ℕ) → IsByte map first n b → first + suc n ≤ 2 ^ 63
  byte_below first n b h = omega (arith, seen.below (first + 8 * (n / 8)) (λ e. absurd (cc (sym h.whose ∙ e))), mod-lt n eight, div_mod n)
    where
      eight : 0 < 8
      eight = omega arith

      div_mod : (n : ℕ) → n ≡ n / 8 * 8 + n % 8
      div_mod n = omega arith

  pub bytes_below : (first n : ℕ) (bs : List ℕ) → first + n ≤ 2 ^ 63 → Bytes map first n bs → first + n + length bs ≤ 2 ^ 63
  bytes_below first n [] l h = omega (arith, l)
  bytes_below first n (b ∷ bs) l (h, more) = omega (arith, bytes_below first (suc n) bs (byte_below first n b h) more)

  byte_found : (first n b : ℕ) → IsByte map first n b → view.byte (first + n) ≡ Some b
  byte_found first n b h =
      ap view.byte (split first n) ∙ seen.bytes (first + 8 * (n / 8)) (n % 8) (small n) (λ e. absurd (cc (sym h.whose ∙ e))) ∙ ap Some h.is
    where
      split : (first n : ℕ) → first + n ≡ first + 8 * (n / 8) + n % 8
      split first n = omega arith

      small : (n : ℕ) → n % 8 < 8
      small n = omega arith

  pub bytes_found : (first n k b : ℕ) (bs : List ℕ) → Bytes map first n bs → slice_get bs k ≡ Some b → view.byte (first + (n + k)) ≡ Some b
  bytes_found first n k b [] h e = absurd (cc e)
  bytes_found first n zero b (c ∷ cs) (h, more) e = ap (λ m. view.byte (first + m)) (last n) ∙ byte_found first n c h ∙ e
    where
      last : (n : ℕ) → n + zero ≡ n
      last n = omega arith
  bytes_found first n (suc k) b (c ∷ cs) (h, more) e = ap (λ m. view.byte (first + m)) (further n k) ∙ bytes_found first (suc n) k b cs more e
    where
      further : (n k : ℕ) → n + suc k ≡ suc n + k
      further n k = omega arith

  byte_small : (word n : ℕ) → byte_in word n < 256
  byte_small word zero = omega arith
  byte_small word (suc n) = mod-lt (word / 256 ^ suc n) (omega arith)

  pub byte_is_char : (first n k b : ℕ) (bs : List ℕ) → Bytes map first n bs → slice_get bs k ≡ Some b → b < 256
  byte_is_char first n k b [] h e = absurd (cc e)
  byte_is_char first n zero b (c ∷ cs) (h, more) e = subst (λ m. m < 256) (h.is ∙ same c b e) (byte_small (map.word (first + 8 * (n / 8))) (n % 8))
    where
      same : (c b : ℕ) → Some c ≡ Some b → c ≡ b
      same c b e = ap from e
        where
          from : Option ℕ → ℕ
          from None = c
          from (Some x) = x
  byte_is_char first n (suc k) b (c ∷ cs) (h, more) e = byte_is_char first (suc n) k b cs more e

  -- ---- elements of sequences

  module _ (image : Image) (t : CluType) where
    pub row_below : (os : Objects) (w : ℕ) → w ≤ 2 ^ 63 → Row image map t os w → w + 8 * length (listed os) ≤ 2 ^ 63
    row_below no_objects w l h = omega (arith, l)
    row_below (object_and o os) w l ((v, f, s), more) =
        omega (arith, row_below os (w + 8) (seen.below w (fixed_is_somebodys map w v f)) more)

    pub row_found : (os : Objects) (w k : ℕ) (o : Object) → Row image map t os w → slice_get (listed os) k ≡ Some o → (v : ℕ) × Fixed map (w + 8 * k) v × At image map t o v
    row_found no_objects w k o h e = absurd (cc e)
    row_found (object_and x os) w zero o ((v, f, s), more) e =
        (v, subst (λ n. Fixed map n v) (here w) f, subst (λ y. At image map t y v) (same x o e) s)
      where
        here : (w : ℕ) → w ≡ w + 8 * zero
        here w = omega arith

        same : (x y : Object) → Some x ≡ Some y → x ≡ y
        same x y e = ap from e
          where
            from : Option Object → Object
            from None = x
            from (Some z) = z
    row_found (object_and x os) w (suc k) o (h, more) e =
        let (v, f, s) = row_found os (w + 8) k o more e in
        (v, subst (λ n. Fixed map n v) (further w k) f, s)
      where
        further : (w k : ℕ) → w + 8 + 8 * k ≡ w + 8 * suc k
        further w k = omega arith

-- ---- sizes and places

pub none_left : {A : Type 0} (xs : List A) → op_word op.Equal (length xs) 0 ≡ bit (is_empty xs)
none_left [] = refl
none_left (x ∷ xs) = ap from_bool (not_zero (suc (length xs)) (omega arith))

pub truth : (n m : ℕ) → n < m → (from_bool (nat_lt n m) == 0) ≡ false
truth n m l = grind arith

pub untruth : (n m : ℕ) → m ≤ n → (from_bool (nat_lt n m) == 0) ≡ true
untruth n m l = grind arith

-- an index counted from the low bound, and one below it
pub index_from : (i low : ℤ) (k : ℕ) → is_int i ≡ true → is_int low ≡ true → i -ℤ low ≡ pos k → op_word op.Sub (word i) (word low) ≡ k
index_from (pos a) (pos b) k p q e = omega (arith, ints, e, less_of a (2 ^ 63) p, less_of b (2 ^ 63) q)
index_from (pos a) (negsuc b) k p q e = omega (arith, ints, e, less_of a (2 ^ 63) p, less_of b (2 ^ 63) q)
index_from (negsuc a) (pos b) k p q e = omega (arith, ints, e, less_of a (2 ^ 63) p, less_of b (2 ^ 63) q)
index_from (negsuc a) (negsuc b) k p q e = omega (arith, ints, e, less_of a (2 ^ 63) p, less_of b (2 ^ 63) q)

-- high is an int: then the distance, without sign, is no less than the size
pub index_below : (i low : ℤ) (k size : ℕ) → is_int i ≡ true → is_int low ≡ true → (low +ℤ pos size) ≤ℤ pos (2 ^ 63) → i -ℤ low ≡ negsuc k → size ≤ op_word op.Sub (word i) (word low)
index_below (pos a) (pos b) k size p q h e = omega (arith, ints, e, h, less_of a (2 ^ 63) p, less_of b (2 ^ 63) q)
index_below (pos a) (negsuc b) k size p q h e = omega (arith, ints, e, h, less_of a (2 ^ 63) p, less_of b (2 ^ 63) q)
index_below (negsuc a) (pos b) k size p q h e = omega (arith, ints, e, h, less_of a (2 ^ 63) p, less_of b (2 ^ 63) q)
index_below (negsuc a) (negsuc b) k size p q h e = omega (arith, ints, e, h, less_of a (2 ^ 63) p, less_of b (2 ^ 63) q)

-- the word of an index that has so many before it, from 1
pub place_word : (i : ℤ) (k : ℕ) → is_int i ≡ true → i -ℤ pos 1 ≡ pos k → word i ≡ suc k
place_word (pos a) k p e = omega (arith, ints, e)
place_word (negsuc a) k p e = absurd (omega (arith, ints, e))

pub within : {A : Type 0} (xs : List A) (k : ℕ) (x : A) → slice_get xs k ≡ Some x → k < length xs
within [] k x e = absurd (cc e)
within (y ∷ ys) zero x e = omega arith
within (y ∷ ys) (suc k) x e = omega (arith, within ys k x e)

pub beyond : {A : Type 0} (xs : List A) (k : ℕ) → slice_get xs k ≡ None → length xs ≤ k
beyond [] k e = omega arith
beyond (y ∷ ys) zero e = absurd (cc e)
beyond (y ∷ ys) (suc k) e = omega (arith, beyond ys k e)
