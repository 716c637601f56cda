-- A reader answers by the bytes up to where it stops: over two texts with the same front it goes the same way, as long as it
-- stops within that front. The two readers of a pair may differ in how deep they go.
use Rattle.std.proofs.Common.{◌≡◌, ℕ, zero, suc, ◌+◌, ◌<◌, ◌≤◌, ◌==◌, List, [], ◌∷◌, ◌++◌, length, Option, Some, None, Ok, Err, refl, sym, ap, subst, ◌∙◌, arith, length-append, inl, inr}
use Rattle.std.proofs.lemmas.Bool.{cases_Bool, ne_eqb}
use Rattle.clu_specs.specs.Reading.{◌>>=◌, Read, literal_at, go_on, several, end_at}
use Rattle.clu_specs.specs.TypeReading.{Reader}

-- how many bytes are left where it stopped
abbrev pub left_of : {A : Type 0} → Read A → ℕ
left_of (Ok x) = length x.1
left_of (Err left) = left

-- the same answer over t in place of s
abbrev pub Like : {A : Type 0} → List ℕ → List ℕ → Read A → Read A → Type 0
Like s t (Ok x) other = (front : List ℕ) × (x.1 ≡ front ++ s) × (other ≡ Ok (x.0, front ++ t))
Like s t (Err left) other = (at : ℕ) × (other ≡ Err at)

-- over texts of at most m and n bytes
pub record Local {A : Type 0} (m n : ℕ) (one two : Reader A) : Type 0 where
  pub bound : (bytes : List ℕ) → left_of (one bytes) ≤ length bytes
  pub like : (p s t : List ℕ) → length (p ++ s) ≤ m → length (p ++ t) ≤ n → length s < left_of (one (p ++ s)) → Like s t (one (p ++ s)) (two (p ++ t))

-- it reads at least one byte
abbrev pub Shrinks : {A : Type 0} → Reader A → Type 0
Shrinks {A} one = (bytes : List ℕ) (x : A × List ℕ) → one bytes ≡ Ok x → length x.1 < length bytes

module _ {A : Type 0} (one two : Reader A) where
  pub local_less : (m n j k : ℕ) → Local m n one two → j ≤ m → k ≤ n → Local j k one two
  local_less m n j k l jm kn = record {
    bound = l.bound;
    like = λ p s t a b c. l.like p s t (omega (arith, a, jm)) (omega (arith, b, kn)) c;
  }

  like_from : (m n : ℕ) → ((bytes : List ℕ) → left_of (one bytes) ≤ length bytes)
      → ((c : ℕ) (p s t : List ℕ) → length (c ∷ (p ++ s)) ≤ m → length (c ∷ (p ++ t)) ≤ n → length s < left_of (one (c ∷ (p ++ s))) → Like s t (one (c ∷ (p ++ s))) (two (c ∷ (p ++ t))))
      → (p s t : List ℕ) → length (p ++ s) ≤ m → length (p ++ t) ≤ n → length s < left_of (one (p ++ s)) → Like s t (one (p ++ s)) (two (p ++ t))
  like_from m n bound like [] s t a b c = absurd (omega (arith, c, bound s))
  like_from m n bound like (x ∷ p) s t a b c = like x p s t a b c

  -- it is enough to look at texts with a first byte in common
  pub local_from : (m n : ℕ) → ((bytes : List ℕ) → left_of (one bytes) ≤ length bytes)
      → ((c : ℕ) (p s t : List ℕ) → length (c ∷ (p ++ s)) ≤ m → length (c ∷ (p ++ t)) ≤ n → length s < left_of (one (c ∷ (p ++ s))) → Like s t (one (c ∷ (p ++ s))) (two (c ∷ (p ++ t))))
      → Local m n one two
  local_from m n bound like = record { bound = bound; like = like_from m n bound like }

-- what was read already
pub just : {A : Type 0} (m n : ℕ) (x : A) → Local m n (λ b. Ok (x, b)) (λ b. Ok (x, b))
just m n x = record { bound = λ bytes. omega arith; like = λ p s t a b c. (p, refl, refl) }

-- it reads at least k bytes
abbrev pub Consumes : {A : Type 0} → ℕ → Reader A → Type 0
Consumes {A} k one = (bytes : List ℕ) (x : A × List ℕ) → one bytes ≡ Ok x → k + length x.1 ≤ length bytes

pub left_ok : {A : Type 0} (r : Read A) (x : A × List ℕ) → r ≡ Ok x → left_of r ≡ length x.1
left_ok r x e = ap left_of e

pub consumes_none : {A : Type 0} (m n : ℕ) (one two : Reader A) → Local m n one two → Consumes 0 one
consumes_none m n one two l bytes x e = omega (arith, left_ok (one bytes) x e, l.bound bytes)

-- one reader, and then another
module _ {A B : Type 0} (f g : A → Reader B) where
  pub after_bound : (bytes : List ℕ) (r : Read A) → left_of r ≤ length bytes → ((x : A) (rest : List ℕ) → left_of (f x rest) ≤ length rest) → left_of (r >>= λ x. f x.0 x.1) ≤ length bytes
  after_bound bytes (Ok x) b h = omega (arith, b, h x.0 x.1)
  after_bound bytes (Err left) b h = b

  pub after_like : (k m n : ℕ) (p s t : List ℕ) (r o : Read A) → ((x : A × List ℕ) → r ≡ Ok x → k + length x.1 ≤ length (p ++ s)) → (length s < left_of r → Like s t r o) → ((x : A) → Local m n (f x) (g x))
      → length (p ++ s) ≤ k + m → length (p ++ t) ≤ k + n → length s < left_of (r >>= λ x. f x.0 x.1) → Like s t (r >>= λ x. f x.0 x.1) (o >>= λ x. g x.0 x.1)
  after_like k m n p s t (Err left) o shrinks like fs a d c = let h = like c in (h.0, rw h.1 refl)
  after_like k m n p s t (Ok x) o shrinks like fs a d c =
      let inside = (fs x.0).bound x.1 in
      let h = like (omega (arith, c, inside)) in
      let q : List ℕ = h.0 in
      let len = length-append q s in
      let shrunk = shrinks x refl in
      let whole = ap length h.1 in
      let now : length s < left_of (f x.0 (q ++ s)) = subst (λ (z : List ℕ). length s < left_of (f x.0 z)) h.1 c in
      let l = (fs x.0).like q s t (omega (arith, a, shrunk, whole)) (omega (arith, d, shrunk, whole, len, length-append q t, length-append p s, length-append p t)) now in
      subst (λ (z : List ℕ). Like s t (f x.0 z) (o >>= λ y. g y.0 y.1)) (sym h.1) (subst (λ (z : Read A). Like s t (f x.0 (q ++ s)) (z >>= λ y. g y.0 y.1)) (sym h.2) l)

  pub thens : (one two : Reader A) (k m n j i : ℕ) → j ≤ k + m → i ≤ k + n → Consumes k one → Local j i one two → ((x : A) → Local m n (f x) (g x)) → Local j i (λ b. one b >>= λ x. f x.0 x.1) (λ b. two b >>= λ x. g x.0 x.1)
  thens one two k m n j i jm im shrinks l fs = record {
    bound = λ bytes. after_bound bytes (one bytes) (l.bound bytes) (λ x rest. (fs x).bound rest);
    like = λ p s t a d c. after_like k m n p s t (one (p ++ s)) (two (p ++ t)) (shrinks (p ++ s)) (l.like p s t a d) fs (omega (arith, a, jm)) (omega (arith, d, im)) c;
  }

  -- with no count of what the first reads
  pub then_on : (one two : Reader A) (m n : ℕ) → Local m n one two → ((x : A) → Local m n (f x) (g x)) → Local m n (λ b. one b >>= λ x. f x.0 x.1) (λ b. two b >>= λ x. g x.0 x.1)
  then_on one two m n l fs = thens one two 0 m n m n (omega arith) (omega arith) (consumes_none m n one two l) l fs

-- a fixed part, and then a reader
module _ {B : Type 0} (f g : Reader B) where
  fixed_bound : (fixed bytes : List ℕ) → ((rest : List ℕ) → left_of (f rest) ≤ length rest) → left_of (literal_at fixed bytes >>= f) ≤ length bytes
  unfolding literal_at
  fixed_bound [] bytes h = h bytes
  fixed_bound (m ∷ fixed) [] h = omega arith
  fixed_bound (m ∷ fixed) (b ∷ bytes) h = elim (cases_Bool (b == m)) [
    | inl holds ↦ rw holds (let more = fixed_bound fixed bytes h in omega (arith, more))
    | inr fails ↦ rw fails (omega arith)
  ]

  fixed_like : (fixed : List ℕ) (m n : ℕ) (p s t : List ℕ) → Local m n f g → length (p ++ s) ≤ length fixed + m → length (p ++ t) ≤ length fixed + n → length s < left_of (literal_at fixed (p ++ s) >>= f)
      → Like s t (literal_at fixed (p ++ s) >>= f) (literal_at fixed (p ++ t) >>= g)
  unfolding literal_at
  fixed_like [] m n p s t l a d c = l.like p s t (omega (arith, a)) (omega (arith, d)) c
  fixed_like (x ∷ fixed) m n [] s t l a d c = absurd (omega (arith, c, fixed_bound (x ∷ fixed) s l.bound))
  fixed_like (x ∷ fixed) m n (b ∷ p) s t l a d c = elim (cases_Bool (b == x)) [
    | inl holds ↦ rw holds (fixed_like fixed m n p s t l (omega (arith, a)) (omega (arith, d)) (rw holds at c))
    | inr fails ↦ rw fails (suc (length (p ++ t)), refl)
  ]

  pub fixed_then : (fixed : List ℕ) (m n j i : ℕ) → j ≤ length fixed + m → i ≤ length fixed + n → Local m n f g → Local j i (λ b. literal_at fixed b >>= f) (λ b. literal_at fixed b >>= g)
  fixed_then fixed m n j i jm im l = record {
    bound = λ bytes. fixed_bound fixed bytes l.bound;
    like = λ p s t a d c. fixed_like fixed m n p s t l (omega (arith, a, jm)) (omega (arith, d, im)) c;
  }

-- where another item follows
abbrev pub NextLike : List ℕ → List ℕ → Option (List ℕ) → Option (List ℕ) → Type 0
NextLike s t None other = other ≡ None
NextLike s t (Some rest) other = (front : List ℕ) × (rest ≡ front ++ s) × (other ≡ Some (front ++ t))

pub record NextLocal {A : Type 0} (next : A → List ℕ → Option (List ℕ)) : Type 0 where
  pub bound : (a : A) (bytes rest : List ℕ) → next a bytes ≡ Some rest → length rest ≤ length bytes
  pub like : (a : A) (c : ℕ) (q s t : List ℕ) → NextLike s t (next a (c ∷ (q ++ s))) (next a (c ∷ (q ++ t)))

module _ {A : Type 0} (step other : A → Reader A) (next : A → List ℕ → Option (List ℕ)) (nexts : NextLocal next) (m n : ℕ) (steps : (a : A) → Local m n (step a) (other a))
    (progress : (a : A) (bytes : List ℕ) (b : A) (after rest : List ℕ) → step a bytes ≡ Ok (b, after) → next b after ≡ Some rest → length rest < length bytes) where
  item_bound : (o : Option (List ℕ)) (x : A × List ℕ) (more : List ℕ → Read A) (bytes : List ℕ) → length x.1 ≤ length bytes → ((rest : List ℕ) → o ≡ Some rest → left_of (more rest) ≤ length bytes) → left_of (go_on o x more) ≤ length bytes
  item_bound None x more bytes b h = b
  item_bound (Some rest) x more bytes b h = h rest refl

  abbrev RowsBound : ℕ → Type 0
  RowsBound k = (a : A) (bytes : List ℕ) → left_of (several step next k a bytes) ≤ length bytes

  -- what follows an item
  abbrev turned : ℕ → A × List ℕ → Read A
  turned k x = go_on (next x.0 x.1) x (λ rest. several step next k x.0 rest)

  turned_bound : (k : ℕ) → RowsBound k → (x : A × List ℕ) → left_of (turned k x) ≤ length x.1
  turned_bound k rows x = item_bound (next x.0 x.1) x (λ rest. several step next k x.0 rest) x.1 (omega arith) (λ rest o. omega (arith, rows x.0 rest, nexts.bound x.0 x.1 rest o))

  turn_bound : (k : ℕ) → RowsBound k → (bytes : List ℕ) (r : Read A) → left_of r ≤ length bytes → left_of (r >>= λ x. turned k x) ≤ length bytes
  turn_bound k rows bytes (Err left) b = b
  turn_bound k rows bytes (Ok x) b = omega (arith, b, turned_bound k rows x)

  rows_bound : (k : ℕ) → RowsBound k
  unfolding several
  rows_bound zero a bytes = omega arith
  rows_bound (suc k) a bytes = turn_bound k (rows_bound k) bytes (step a bytes) ((steps a).bound bytes)

  abbrev RowsLike : ℕ → Type 0
  RowsLike k = (i : ℕ) (a : A) (p s t : List ℕ) → length (p ++ s) ≤ m → length (p ++ t) ≤ n → length (p ++ s) ≤ k → length (p ++ t) ≤ i → length s < left_of (several step next k a (p ++ s))
      → Like s t (several step next k a (p ++ s)) (several other next i a (p ++ t))

  abbrev turned_other : ℕ → A × List ℕ → Read A
  turned_other i x = go_on (next x.0 x.1) x (λ rest. several other next i x.0 rest)

  item_like : (k i : ℕ) → RowsLike k → (b : A) (q p s t : List ℕ) (one two : Option (List ℕ)) → length (p ++ s) ≤ m → length (p ++ t) ≤ n → length (p ++ s) ≤ suc k → length (p ++ t) ≤ suc i
      → ((rest : List ℕ) → one ≡ Some rest → length rest < length (p ++ s)) → NextLike s t one two
      → length s < left_of (go_on one (b, q ++ s) (λ rest. several step next k b rest))
      → Like s t (go_on one (b, q ++ s) (λ rest. several step next k b rest)) (go_on two (b, q ++ t) (λ rest. several other next i b rest))
  item_like k i rows b q p s t None two bm bn bk bi less like c = rw like (q, refl, refl)
  item_like k i rows b q p s t (Some rest) two bm bn bk bi less like c =
      let front : List ℕ = like.0 in
      let shorter = less rest refl in
      let whole = ap length like.1 in
      let len = length-append front s in
      let len_other = length-append front t in
      let now : length s < left_of (several step next k b (front ++ s)) = subst (λ (z : List ℕ). length s < left_of (several step next k b z)) like.1 c in
      let l = rows i b front s t (omega (arith, bm, shorter, whole)) (omega (arith, bn, shorter, whole, len, len_other, length-append p s, length-append p t)) (omega (arith, bk, shorter, whole)) (omega (arith, bi, shorter, whole, len, len_other, length-append p s, length-append p t)) now in
      subst (λ (z : List ℕ). Like s t (several step next k b z) (go_on two (b, q ++ t) (λ rest. several other next i b rest))) (sym like.1)
      (subst (λ (z : Option (List ℕ)). Like s t (several step next k b (front ++ s)) (go_on z (b, q ++ t) (λ rest. several other next i b rest))) (sym like.2) l)

  front_like : (b : A) (q s t : List ℕ) → length s < length (q ++ s) → NextLike s t (next b (q ++ s)) (next b (q ++ t))
  front_like b [] s t c = absurd (omega (arith, c))
  front_like b (x ∷ q) s t c = nexts.like b x q s t

  turn_like : (k i : ℕ) → RowsLike k → (a : A) (p s t : List ℕ) → length (p ++ s) ≤ m → length (p ++ t) ≤ n → length (p ++ s) ≤ suc k → length (p ++ t) ≤ suc i → (r o : Read A) → step a (p ++ s) ≡ r → (length s < left_of r → Like s t r o)
      → length s < left_of (r >>= λ x. turned k x) → Like s t (r >>= λ x. turned k x) (o >>= λ x. turned_other i x)
  turn_like k i rows a p s t bm bn bk bi (Err left) o e like c = let h = like c in (h.0, rw h.1 refl)
  turn_like k i rows a p s t bm bn bk bi (Ok x) o e like c =
      let h = like (omega (arith, c, turned_bound k (rows_bound k) x)) in
      let q : List ℕ = h.0 in
      let b : A = x.0 in
      let read : step a (p ++ s) ≡ Ok (b, q ++ s) = e ∙ ap (λ (z : List ℕ). Ok (b, z)) h.1 in
      let now : length s < left_of (turned k (b, q ++ s)) = subst (λ (z : List ℕ). length s < left_of (turned k (b, z))) h.1 c in
      let inside : length s < length (q ++ s) = omega (arith, now, turned_bound k (rows_bound k) (b, q ++ s)) in
      let l : Like s t (turned k (b, q ++ s)) (turned_other i (b, q ++ t)) =
      item_like k i rows b q p s t (next b (q ++ s)) (next b (q ++ t)) bm bn bk bi (λ rest o. progress a (p ++ s) b (q ++ s) rest read o) (front_like b q s t inside) now in
      subst (λ (z : List ℕ). Like s t (turned k (b, z)) (o >>= λ y. turned_other i y)) (sym h.1) (subst (λ (z : Read A). Like s t (turned k (b, q ++ s)) (z >>= λ y. turned_other i y)) (sym h.2) l)

  rows_like : (k : ℕ) → RowsLike k
  unfolding several
  rows_like zero i a p s t bm bn bk bi c = absurd (omega (arith, bk, c))
  rows_like (suc k) zero a p s t bm bn bk bi c = absurd (omega (arith, bi, c, rows_bound (suc k) a (p ++ s), length-append p s, length-append p t))
  rows_like (suc k) (suc i) a p s t bm bn bk bi c = turn_like k i (rows_like k) a p s t bm bn bk bi (step a (p ++ s)) (other a (p ++ t)) refl ((steps a).like p s t bm bn) c

  pub rows_local : (a : A) → Local m n (λ b. several step next (length b) a b) (λ b. several other next (length b) a b)
  rows_local a = record {
    bound = λ bytes. rows_bound (length bytes) a bytes;
    like = λ p s t bm bn c. rows_like (length (p ++ s)) (length (p ++ t)) a p s t bm bn (omega arith) (omega arith) c;
  }

-- nothing more may follow
end_like : {A : Type 0} (x : A) (q s t : List ℕ) → length s < length (q ++ s) → (left : ℕ) × (end_at x (q ++ t) ≡ Err left)
end_like x [] s t c = absurd (omega (arith, c))
end_like x (b ∷ q) s t c = (length (b ∷ (q ++ t)), rw (ne_eqb (length (b ∷ (q ++ t))) 0 (λ e. absurd (omega (arith, e)))) refl)
