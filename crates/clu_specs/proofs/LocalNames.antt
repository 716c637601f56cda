-- Names go by the bytes up to where they stop.
use Rattle.std.proofs.Common.{◌≡◌, ℕ, zero, suc, ◌+◌, ◌-◌, ◌<◌, ◌≤◌, ◌⊎◌, ◌==◌, min, not, Bool, true, false, nat_lt, List, [], ◌∷◌, ◌++◌, length, take, drop, Option, Some, None, unwrap_or, Ok, Err, if◌then◌else◌, refl, sym, ap, subst, ◌∙◌, arith, length-append, length-drop, append_assoc, inl, inr}
use Rattle.std.proofs.lemmas.Bool.{cases_Bool, cases_lt, both_ways, ltb-true, lt-ltb, le-ltb, not-true}
use Rattle.std.proofs.lemmas.List.{take-append-le, length-take}
use Rattle.std.proofs.Math.Seq.{take-append-add, drop-append-add}
use Rattle.clu_specs.specs.Reading.{Read}
use Rattle.clu_specs.specs.Names.{begins_name, goes_on_name, word_len, first_word, behind_word, is_named, is_reserved, is_before, common, below_z, last_below_z, shared_with_later, name_after}
use Rattle.clu_specs.proofs.Words.{word_goes_on, word_first, word_behind, byte_small}
use Rattle.clu_specs.proofs.Spelled.{name_read, first_goes_on}
use Rattle.clu_specs.proofs.Local.{left_of, Like, Local, Consumes}

-- what is asked of a word, with what is answered at each fault
abbrev choice : List ℕ → ℕ → List ℕ → ℕ → ℕ → ℕ → ℕ → List ℕ × List ℕ → Read (List ℕ)
choice previous limit word a b c d x =
    if not (is_named word) then Err a else
    if not (is_before previous (take limit word)) then Err b else
    if nat_lt limit (length word) then Err c else
    if is_reserved word then Err d else
    Ok x

name_choice : (previous : List ℕ) (limit : ℕ) (bytes : List ℕ) → name_after previous limit bytes
    ≡ choice previous limit (first_word bytes) (length bytes) (length bytes - min (common previous (take limit (first_word bytes))) (unwrap_or (shared_with_later previous) 0)) (length bytes - limit) (length (behind_word bytes)) (first_word bytes, behind_word bytes)
unfolding name_after
name_choice previous limit bytes = refl

-- a choice of four
four_like : (n b l r : Bool) (s t word front : List ℕ) (a0 b0 c0 d0 a1 b1 c1 d1 : ℕ)
    → Like s t (if n then Err a0 else if b then Err b0 else if l then Err c0 else if r then Err d0 else Ok (word, front ++ s)) (if n then Err a1 else if b then Err b1 else if l then Err c1 else if r then Err d1 else Ok (word, front ++ t))
four_like true b l r s t word front a0 b0 c0 d0 a1 b1 c1 d1 = (a1, refl)
four_like false true l r s t word front a0 b0 c0 d0 a1 b1 c1 d1 = (b1, refl)
four_like false false true r s t word front a0 b0 c0 d0 a1 b1 c1 d1 = (c1, refl)
four_like false false false true s t word front a0 b0 c0 d0 a1 b1 c1 d1 = (d1, refl)
four_like false false false false s t word front a0 b0 c0 d0 a1 b1 c1 d1 = (front, refl, refl)

four_bound : (n b l r : Bool) (word rest : List ℕ) (a b0 c d len : ℕ) → a ≤ len → b0 ≤ len → c ≤ len → d ≤ len → length rest ≤ len → left_of (if n then Err a else if b then Err b0 else if l then Err c else if r then Err d else Ok (word, rest)) ≤ len
four_bound true b l r word rest a b0 c d len p q x y z = p
four_bound false true l r word rest a b0 c d len p q x y z = q
four_bound false false true r word rest a b0 c d len p q x y z = x
four_bound false false false true word rest a b0 c d len p q x y z = y
four_bound false false false false word rest a b0 c d len p q x y z = z

pub name_bound : (previous : List ℕ) (limit : ℕ) (bytes : List ℕ) → left_of (name_after previous limit bytes) ≤ length bytes
name_bound previous limit bytes =
    let behind : length (behind_word bytes) ≤ length bytes = omega (arith, length-drop (word_len bytes) bytes) in
    rw (name_choice previous limit bytes)
    (four_bound (not (is_named (first_word bytes))) (not (is_before previous (take limit (first_word bytes)))) (nat_lt limit (length (first_word bytes))) (is_reserved (first_word bytes)) (first_word bytes) (behind_word bytes)
    (length bytes) (length bytes - min (common previous (take limit (first_word bytes))) (unwrap_or (shared_with_later previous) 0)) (length bytes - limit) (length (behind_word bytes)) (length bytes)
    (omega arith) (omega arith) (omega arith) behind behind)

named_some : (name : List ℕ) → is_named name ≡ true → 1 ≤ length name
named_some [] e = absurd (cc)
named_some (b ∷ name) e = omega arith

pub name_consumes : (previous : List ℕ) (limit : ℕ) → Consumes 1 (name_after previous limit)
name_consumes previous limit bytes x e =
    let read = name_read previous limit bytes x.0 x.1 e in
    omega (arith, ap length read.spelled, length-append x.0 x.1, named_some x.0 read.is.begins)

-- the word ends within the front, or the whole front is of it
pub record Ends (p : List ℕ) : Type 0 where
  pub word : List ℕ
  pub next : ℕ
  pub others : List ℕ
  pub whole : p ≡ word ++ next ∷ others
  pub goes_on : word_len word ≡ length word
  pub stops : goes_on_name next ≡ false

pub ends : (p : List ℕ) → Ends p ⊎ (word_len p ≡ length p)
ends [] = inr refl
ends (b ∷ p) = elim (cases_Bool (goes_on_name b)) [
  | inl holds ↦ elim (ends p) [
    | inl h ↦ inl (record { word = b ∷ h.word; next = h.next; others = h.others; whole = ap (λ (x : List ℕ). b ∷ x) h.whole; goes_on = rw holds (ap suc h.goes_on); stops = h.stops })
    | inr h ↦ inr (rw holds (ap suc h))
  ]
  | inr fails ↦ inl (record { word = []; next = b; others = p; whole = refl; goes_on = refl; stops = fails })
]

pub stops_here : (c : ℕ) (rest : List ℕ) → goes_on_name c ≡ false → word_len (c ∷ rest) ≡ 0
stops_here c rest e = rw e refl

pub word_over : (p s : List ℕ) → word_len p ≡ length p → word_len (p ++ s) ≡ length p + word_len s
word_over [] s e = omega arith
word_over (b ∷ p) s e =
    let h = word_goes_on b p e in
    let more : word_len (p ++ s) ≡ length p + word_len s = word_over p s h.1 in
    rw h.0 (omega (arith, more))

pub first_over : (p s : List ℕ) → word_len p ≡ length p → first_word (p ++ s) ≡ p ++ first_word s
first_over p s e = ap (λ (n : ℕ). take n (p ++ s)) (word_over p s e) ∙ take-append-add p s (word_len s)

pub behind_over : (p s : List ℕ) → word_len p ≡ length p → behind_word (p ++ s) ≡ behind_word s
behind_over p s e = ap (λ (n : ℕ). drop n (p ++ s)) (word_over p s e) ∙ drop-append-add p s (word_len s)

-- the front decides, or all of it is shared with the name before
shared_front : (a p x y : List ℕ) → is_before a (p ++ x) ≡ false → is_before a (p ++ y) ≡ true → (length p ≤ common a (p ++ x)) × (length p ≤ common a (p ++ y))
shared_front a [] x y f e = (omega arith, omega arith)
shared_front [] (b ∷ p) x y f e = absurd (cc)
shared_front (c ∷ a) (b ∷ p) x y f e = elim (cases_Bool (c == b)) [
  | inl holds ↦ (let h = shared_front a p x y (rw holds at f) (rw holds at e) in rw holds (omega (arith, h.0), omega (arith, h.1)))
  | inr fails ↦ absurd (both_ways (nat_lt c b) (rw fails at f) (rw fails at e))
]

last_or : (x : ℕ) (o : Option ℕ) → x < 122 → (i : ℕ) × (below_z x o ≡ Some i)
last_or x None lt = (0, rw (lt-ltb x 122 lt) refl)
last_or x (Some i) lt = (suc i, refl)

-- a name of the greatest length shares no more than the bytes before its last that can be replaced
last_shared : (a b : List ℕ) → is_before a b ≡ true → length b ≤ length a → word_len b ≡ length b → (i : ℕ) × (last_below_z a ≡ Some i) × (common a b ≤ i)
last_shared a [] e le w = absurd (cc)
last_shared [] (y ∷ b) e le w = absurd (omega (arith, le))
last_shared (x ∷ a) (y ∷ b) e le w =
    let h = word_goes_on y b w in
    elim (cases_Bool (x == y)) [
      | inl holds ↦ (let more = last_shared a b (rw holds at e) (omega (arith, le)) h.1 in (suc more.0, rw more.1 refl, rw holds (omega (arith, more.2))))
      | inr fails ↦ (let less : x < y = ltb-true x y (rw fails at e) in let o = last_or x (last_below_z a) (omega (arith, less, byte_small y h.0)) in (o.0, o.1, rw fails (omega arith)))
    ]

common_le : (a b : List ℕ) → common a b ≤ length a
common_le a [] = omega arith
common_le [] (y ∷ b) = omega arith
common_le (x ∷ a) (y ∷ b) = elim (cases_Bool (x == y)) [ inl holds ↦ rw holds (omega (arith, common_le a b)) | inr fails ↦ rw fails (omega arith) ]

pub shared_short : (name : List ℕ) → length name < 200 → unwrap_or (shared_with_later name) 0 ≡ length name
unfolding shared_with_later
shared_short name lt = rw (lt-ltb (length name) 200 lt) refl

shared_long : (name : List ℕ) (i : ℕ) → 200 ≤ length name → last_below_z name ≡ Some i → unwrap_or (shared_with_later name) 0 ≡ i
unfolding shared_with_later
shared_long name i le e = rw (le-ltb (length name) 200 le, e) refl

pub word_take : (x : List ℕ) (j : ℕ) → word_len x ≡ length x → word_len (take j x) ≡ length (take j x)
word_take [] zero e = refl
word_take [] (suc j) e = refl
word_take (b ∷ x) zero e = refl
word_take (b ∷ x) (suc j) e =
    let h = word_goes_on b x e in
    let more : word_len (take j x) ≡ length (take j x) = word_take x j h.1 in
    rw h.0 (ap suc more)

module _ (previous : List ℕ) (limit : ℕ) (fits : 200 ≤ length previous → limit ≤ 200) where
  -- a refusal for the order, within a front that is all of the word
  not_shared : (p x y : List ℕ) (i : ℕ) → word_len p ≡ length p → word_len y ≡ length y → length p + i ≡ limit → is_before previous (p ++ take i x) ≡ false → is_before previous (p ++ take i y) ≡ true
      → min (common previous (p ++ take i x)) (unwrap_or (shared_with_later previous) 0) < length p → ⊥
  not_shared p x y i word other e f b less =
      let shared = shared_front previous p (take i x) (take i y) f b in
      let low : unwrap_or (shared_with_later previous) 0 < length p = omega (arith, less, shared.0) in
      elim (cases_lt (length previous) 200) [
        | inl short ↦ omega (arith, low, shared.0, shared_short previous short, common_le previous (p ++ take i x))
        | inr long ↦ (let whole = length-append p (take i y) in
            let small : length (p ++ take i y) ≤ length previous = omega (arith, whole, length-take i y, e, long, fits long) in
            let is : word_len (p ++ take i y) ≡ length (p ++ take i y) = word_over p (take i y) word ∙ ap (λ (n : ℕ). length p + n) (word_take y i other) ∙ sym whole in
            let last = last_shared previous (p ++ take i y) b small is in
            omega (arith, low, shared.1, last.2, shared_long previous last.0 long last.1))
      ]

  taken : (p x : List ℕ) (i : ℕ) → length p + i ≡ limit → take limit (p ++ x) ≡ p ++ take i x
  taken p x i e = ap (λ (n : ℕ). take n (p ++ x)) (sym e) ∙ take-append-add p x i

  refused_too : (p s x y : List ℕ) → word_len p ≡ length p → word_len y ≡ length y → length s < length (p ++ s) - min (common previous (take limit (p ++ x))) (unwrap_or (shared_with_later previous) 0)
      → not (is_before previous (take limit (p ++ x))) ≡ true → not (is_before previous (take limit (p ++ y))) ≡ true
  refused_too p s x y word other c f = elim (cases_Bool (is_before previous (take limit (p ++ y)))) [
    | inr fails ↦ ap not fails
    | inl holds ↦ absurd (elim (cases_lt limit (length p)) [
      | inl short ↦ (let one : take limit (p ++ x) ≡ take limit p = take-append-le limit p x (omega (arith, short)) in
          let two : take limit (p ++ y) ≡ take limit p = take-append-le limit p y (omega (arith, short)) in
          both_ways (is_before previous (take limit p)) (ap (is_before previous) (sym one) ∙ not-true (is_before previous (take limit (p ++ x))) f) (ap (is_before previous) (sym two) ∙ holds))
      | inr long ↦ (let i : ℕ = limit - length p in
          let e : length p + i ≡ limit = omega (arith, long) in
          let one = taken p x i e in
          let two = taken p y i e in
          let less : min (common previous (take limit (p ++ x))) (unwrap_or (shared_with_later previous) 0) < length p = omega (arith, c, length-append p s) in
          not_shared p x y i word other e (ap (is_before previous) (sym one) ∙ not-true (is_before previous (take limit (p ++ x))) f) (ap (is_before previous) (sym two) ∙ holds)
          (subst (λ (z : List ℕ). min (common previous z) (unwrap_or (shared_with_later previous) 0) < length p) one less))
    ])
  ]

  -- where the word goes on after the front
  over_like : (nm bs ls rs bt lt rt : Bool) (a0 b0 c0 d0 a1 b1 c1 d1 : ℕ) (s t word rest other behind : List ℕ) → (length s < b0 → bs ≡ true → bt ≡ true) → (length s < c0 → ls ≡ true → lt ≡ true) → d0 ≤ length s → length rest ≤ length s
      → length s < left_of (if nm then Err a0 else if bs then Err b0 else if ls then Err c0 else if rs then Err d0 else Ok (word, rest))
      → Like s t (if nm then Err a0 else if bs then Err b0 else if ls then Err c0 else if rs then Err d0 else Ok (word, rest)) (if nm then Err a1 else if bt then Err b1 else if lt then Err c1 else if rt then Err d1 else Ok (other, behind))
  over_like true bs ls rs bt lt rt a0 b0 c0 d0 a1 b1 c1 d1 s t word rest other behind f g d r c = (a1, refl)
  over_like false true ls rs bt lt rt a0 b0 c0 d0 a1 b1 c1 d1 s t word rest other behind f g d r c = rw (f c refl) (b1, refl)
  over_like false false true rs bt lt rt a0 b0 c0 d0 a1 b1 c1 d1 s t word rest other behind f g d r c = elim (cases_Bool bt) [ inl holds ↦ rw holds (b1, refl) | inr fails ↦ rw (fails, g c refl) (c1, refl) ]
  over_like false false false true bt lt rt a0 b0 c0 d0 a1 b1 c1 d1 s t word rest other behind f g d r c = absurd (omega (arith, d, c))
  over_like false false false false bt lt rt a0 b0 c0 d0 a1 b1 c1 d1 s t word rest other behind f g d r c = absurd (omega (arith, r, c))

  -- how many bytes are left where a name that is out of order is refused
  abbrev before_fault : List ℕ → List ℕ → ℕ
  before_fault bytes word = length bytes - min (common previous (take limit word)) (unwrap_or (shared_with_later previous) 0)

  choice_at : (bytes word rest : List ℕ) → first_word bytes ≡ word → behind_word bytes ≡ rest → name_after previous limit bytes
      ≡ choice previous limit word (length bytes) (length bytes - min (common previous (take limit word)) (unwrap_or (shared_with_later previous) 0)) (length bytes - limit) (length rest) (word, rest)
  choice_at bytes word rest f b = name_choice previous limit bytes ∙ rw (f, b) refl

  like_at : (s t : List ℕ) (one two other_one other_two : Read (List ℕ)) → one ≡ other_one → two ≡ other_two → (length s < left_of other_one → Like s t other_one other_two) → length s < left_of one → Like s t one two
  like_at s t one two other_one other_two e f h c =
      let now : length s < left_of other_one = subst (λ (z : Read (List ℕ)). length s < left_of z) e c in
      subst (λ (z : Read (List ℕ)). Like s t z two) (sym e) (subst (λ (z : Read (List ℕ)). Like s t other_one z) (sym f) (h now))

  name_like : (p s t : List ℕ) → length s < left_of (name_after previous limit (p ++ s)) → Like s t (name_after previous limit (p ++ s)) (name_after previous limit (p ++ t))
  name_like [] s t c = absurd (omega (arith, c, name_bound previous limit s))
  name_like (b ∷ p) s t c = elim (ends (b ∷ p)) [
    | inl h ↦ (let at : (x : List ℕ) → (b ∷ p) ++ x ≡ h.word ++ (h.next ∷ (h.others ++ x)) = λ x. ap (λ (y : List ℕ). y ++ x) h.whole ∙ append_assoc h.word (h.next ∷ h.others) x in
        let word : (x : List ℕ) → first_word ((b ∷ p) ++ x) ≡ h.word = λ x. ap first_word (at x) ∙ word_first h.word (h.next ∷ (h.others ++ x)) h.goes_on (stops_here h.next (h.others ++ x) h.stops) in
        let behind : (x : List ℕ) → behind_word ((b ∷ p) ++ x) ≡ h.next ∷ (h.others ++ x) = λ x. ap behind_word (at x) ∙ word_behind h.word (h.next ∷ (h.others ++ x)) h.goes_on (stops_here h.next (h.others ++ x) h.stops) in
        like_at s t _ _ _ _ (choice_at ((b ∷ p) ++ s) h.word (h.next ∷ (h.others ++ s)) (word s) (behind s)) (choice_at ((b ∷ p) ++ t) h.word (h.next ∷ (h.others ++ t)) (word t) (behind t))
        (λ _. four_like (not (is_named h.word)) (not (is_before previous (take limit h.word))) (nat_lt limit (length h.word)) (is_reserved h.word) s t h.word (h.next ∷ h.others) (length ((b ∷ p) ++ s)) (before_fault ((b ∷ p) ++ s) h.word) (length ((b ∷ p) ++ s) - limit) (length (h.next ∷ (h.others ++ s)))
        (length ((b ∷ p) ++ t)) (before_fault ((b ∷ p) ++ t) h.word) (length ((b ∷ p) ++ t) - limit) (length (h.next ∷ (h.others ++ t)))) c)
    | inr all ↦ (let one : List ℕ = b ∷ p in
        let rest : length (behind_word s) ≤ length s = omega (arith, length-drop (word_len s) s) in
        like_at s t _ _ _ _ (choice_at (one ++ s) (one ++ first_word s) (behind_word s) (first_over one s all) (behind_over one s all)) (choice_at (one ++ t) (one ++ first_word t) (behind_word t) (first_over one t all) (behind_over one t all))
        (λ now. over_like (not (begins_name b)) _ _ _ _ _ _ _ _ _ _ _ _ _ _ s t _ (behind_word s) _ _
        (λ less f. refused_too one s (first_word s) (first_word t) all (first_goes_on t) less f)
        (λ less f. lt-ltb limit (length (one ++ first_word t)) (omega (arith, less, length-append one s, length-append one (first_word t)))) rest rest now) c)
  ]

  pub name_local : (m n : ℕ) → Local m n (name_after previous limit) (name_after previous limit)
  name_local m n = record { bound = name_bound previous limit; like = λ p s t a d c. name_like p s t c }

-- at which bytes a word is refused that goes on after them
abbrev pub NameFault : ℕ → List ℕ → Type 0
NameFault b p = (begins_name b ≡ false) ⊎ (200 < length (b ∷ p))

fault_by : (nm bs ls rs : Bool) (a b c d : ℕ) (s word rest : List ℕ) → bs ≡ false → d ≤ length s → length rest ≤ length s → length s < left_of (if nm then Err a else if bs then Err b else if ls then Err c else if rs then Err d else Ok (word, rest)) → (nm ≡ true) ⊎ (length s < c)
fault_by true bs ls rs a b c d s word rest e x y less = inl refl
fault_by false true ls rs a b c d s word rest e x y less = absurd (cc)
fault_by false false true rs a b c d s word rest e x y less = inr less
fault_by false false false true a b c d s word rest e x y less = absurd (omega (arith, x, less))
fault_by false false false false a b c d s word rest e x y less = absurd (omega (arith, y, less))

pub name_fault_at : (k : ℕ) → 199 ≤ k → (b : ℕ) (p s : List ℕ) → word_len (b ∷ p) ≡ length (b ∷ p) → length s < left_of (name_after [] (suc k) ((b ∷ p) ++ s)) → NameFault b p
name_fault_at k large b p s all less =
    let one : List ℕ = b ∷ p in
    let rest : length (behind_word s) ≤ length s = omega (arith, length-drop (word_len s) s) in
    let word : List ℕ = one ++ first_word s in
    let whole : ℕ = length (one ++ s) in
    let order : ℕ = whole - min (common [] (take (suc k) word)) (unwrap_or (shared_with_later []) 0) in
    let now : length s < left_of (choice [] (suc k) word whole order (whole - suc k) (length (behind_word s)) (word, behind_word s)) =
    subst (λ (z : Read (List ℕ)). length s < left_of z) (choice_at [] (suc k) (λ h. absurd (omega (arith, h))) (one ++ s) (one ++ first_word s) (behind_word s) (first_over one s all) (behind_over one s all)) less in
    elim (fault_by (not (begins_name b)) (not (is_before [] (take (suc k) word))) (nat_lt (suc k) (length word)) (is_reserved word) whole order (whole - suc k) (length (behind_word s)) s word (behind_word s) refl rest rest now) [
      | inl h ↦ inl (not-true (begins_name b) h)
      | inr h ↦ inr (omega (arith, h, large, length-append one s))
    ]

pub name_fault : (b : ℕ) (p s : List ℕ) → word_len (b ∷ p) ≡ length (b ∷ p) → length s < left_of (name_after [] 200 ((b ∷ p) ++ s)) → NameFault b p
name_fault b p s all less = name_fault_at 199 (omega arith) b p s all less
