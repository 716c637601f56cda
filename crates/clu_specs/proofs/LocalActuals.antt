-- Actual parameters and types go by the bytes up to where they stop; so no text of a type begins with the bytes up to that
-- at the offset of a refusal.
use Rattle.std.proofs.Common.{◌≡◌, ℕ, zero, suc, ◌<◌, ◌≤◌, ◌==◌, true, false, nat_le, List, [], ◌∷◌, ◌++◌, length, codes, Option, Some, None, Ok, Err, if◌then◌else◌, refl, sym, ap, subst, ◌∙◌, arith, length-append, length-drop, append_assoc, inl, inr}
use Rattle.std.specs.Str.{bytes_eq}
use Rattle.std.proofs.lemmas.Bool.{cases_Bool, both_ways, ne_eqb}
use Rattle.clu_base.specs.declared.constants.Const.{Const}
use Rattle.clu_base.specs.declared.constants.Const.TheVariants as const
use Rattle.clu_base.proofs.Lists.{same_bytes}
use Rattle.clu_types.specs.CluType.{CluType, no_actuals, actual_type, actual_const, actual_param, cluster_of, parameter}
use Rattle.clu_specs.specs.declared.actuals.Lead.{Lead}
use Rattle.clu_specs.specs.declared.actuals.Lead.TheVariants as lead
use Rattle.clu_specs.specs.declared.keywords.Simple.TheVariants as simple
use Rattle.clu_specs.specs.declared.keywords.Listing.TheVariants as listing
use Rattle.clu_specs.specs.declared.keywords.Selecting.TheVariants as selecting
use Rattle.clu_specs.specs.declared.keywords.Keyword.{Keyword}
use Rattle.clu_specs.specs.declared.keywords.Keyword.TheVariants as keyword
use Rattle.clu_specs.specs.declared.scope.Sort.{Sort}
use Rattle.clu_specs.specs.declared.scope.Sort.TheVariants as sort
use Rattle.clu_specs.specs.declared.scope.Scope.{Scope}
use Rattle.clu_specs.specs.Reading.{◌>>=◌, Read, behind}
use Rattle.clu_specs.specs.Names.{begins_name, goes_on_name, word_len, first_word, behind_word, is_named, name_after}
use Rattle.clu_specs.specs.Keywords.{keyword_of}
use Rattle.clu_specs.specs.Scopes.{last_in, parameter_at}
use Rattle.clu_specs.specs.Constants.{word_constant, byte_at, string_at, integer_at}
use Rattle.clu_specs.specs.TypeReading.{Reader, actuals_joined, simple_type, listing_type, selecting_type, routine_type, fields_read, heading_read, lead_of, word_actual_by, word_actual_read, marked_actual_read, actual_by, actual_read, actuals_step, actuals_read, all_actuals_by, all_actuals_read, cluster_type_read, keyword_type_read, word_type_by, word_type_read, one_type_by, one_type_read, type_read}
use Rattle.clu_specs.proofs.Words.{word_first, word_behind, word_goes_on}
use Rattle.clu_specs.proofs.Outcomes.{closing, behind_spelled, either, found}
use Rattle.clu_specs.proofs.Spelled.{keyword_text, keyword_spelled}
use Rattle.clu_specs.proofs.Local.{left_of, Like, Local, local_from, just, then_on, thens, fixed_then}
use Rattle.clu_specs.proofs.LocalNames.{ends, stops_here, NameFault, name_fault, first_over, behind_over, name_consumes, name_local}
use Rattle.clu_specs.proofs.LocalNumbers.{number_local, byte_local, whole_string_local, integer_local}
use Rattle.clu_specs.proofs.LocalTypes.{comma_rows, closing_local, mark_local, fields_local, heading_local}

-- a word of the language is short, and begins as a name does
abbrev pub Short : List ℕ → Type 0
Short word = (is_named word ≡ true) × (length word ≤ 9)

keyword_short : (k : Keyword) → Short (keyword_text k)
keyword_short (keyword.Simple simple.Null) = (refl, omega arith)
keyword_short (keyword.Simple simple.Bool) = (refl, omega arith)
keyword_short (keyword.Simple simple.Int) = (refl, omega arith)
keyword_short (keyword.Simple simple.Char) = (refl, omega arith)
keyword_short (keyword.Simple simple.Str) = (refl, omega arith)
keyword_short (keyword.Simple simple.Any) = (refl, omega arith)
keyword_short (keyword.Simple simple.Stream) = (refl, omega arith)
keyword_short (keyword.Listing listing.Array) = (refl, omega arith)
keyword_short (keyword.Listing listing.Sequence) = (refl, omega arith)
keyword_short (keyword.Selecting selecting.Record) = (refl, omega arith)
keyword_short (keyword.Selecting selecting.Struct) = (refl, omega arith)
keyword_short (keyword.Selecting selecting.Oneof) = (refl, omega arith)
keyword_short (keyword.Selecting selecting.Variant) = (refl, omega arith)
keyword_short (keyword.Routine false) = (refl, omega arith)
keyword_short (keyword.Routine true) = (refl, omega arith)

constant_short : (text : List ℕ) (c : Const) → word_constant text ≡ Some c → Short text
unfolding word_constant
constant_short text c e =
    elim (either (bytes_eq text (codes "nil")) (Some const.Null) (if bytes_eq text (codes "true") then Some (const.Bool true) else if bytes_eq text (codes "false") then Some (const.Bool false) else None) (Some c) e) [
      | inl h ↦ subst Short (sym (same_bytes text (codes "nil") h.0)) (refl, omega arith)
      | inr h ↦ elim (either (bytes_eq text (codes "true")) (Some (const.Bool true)) (if bytes_eq text (codes "false") then Some (const.Bool false) else None) (Some c) h.1) [
        | inl q ↦ subst Short (sym (same_bytes text (codes "true") q.0)) (refl, omega arith)
        | inr q ↦ (let r = found (bytes_eq text (codes "false")) (const.Bool false) c q.1 in subst Short (sym (same_bytes text (codes "false") r.0)) (refl, omega arith))
      ]
    ]

-- such a word is none at which a name is refused
pub no_short : (b : ℕ) (p x : List ℕ) → NameFault b p → Short ((b ∷ p) ++ x) → ⊥
no_short b p x (inl fault) s = both_ways (begins_name b) fault s.0
no_short b p x (inr long) s = omega (arith, long, s.1, length-append (b ∷ p) x)

no_keyword : (o : Option Keyword) (b : ℕ) (p x : List ℕ) → NameFault b p → keyword_of ((b ∷ p) ++ x) ≡ o → keyword_of ((b ∷ p) ++ x) ≡ None
no_keyword None b p x f e = e
no_keyword (Some k) b p x f e = absurd (no_short b p x f (subst Short (sym (keyword_spelled ((b ∷ p) ++ x) k e)) (keyword_short k)))

no_constant : (o : Option Const) (b : ℕ) (p x : List ℕ) → NameFault b p → word_constant ((b ∷ p) ++ x) ≡ o → word_constant ((b ∷ p) ++ x) ≡ None
no_constant None b p x f e = e
no_constant (Some c) b p x f e = absurd (no_short b p x f (constant_short ((b ∷ p) ++ x) c e))

-- a reader that within a word is refused as a name is, over texts of at most m bytes
abbrev Wordy : {A : Type 0} → ℕ → Reader A → Type 0
Wordy m one = (b : ℕ) (p s : List ℕ) → length ((b ∷ p) ++ s) ≤ m → word_len (b ∷ p) ≡ length (b ∷ p) → length s < left_of (one ((b ∷ p) ++ s)) → NameFault b p

-- what was read is made into something else
module _ {A B : Type 0} (f : A → B) where
  ok_bound : (r : Read A) (n : ℕ) → left_of r ≤ n → left_of (r >>= λ x. Ok (f x.0, x.1)) ≤ n
  ok_bound (Ok x) n b = b
  ok_bound (Err left) n b = b

  ok_like : (s t : List ℕ) (r o : Read A) → (length s < left_of r → Like s t r o) → length s < left_of (r >>= λ x. Ok (f x.0, x.1)) → Like s t (r >>= λ x. Ok (f x.0, x.1)) (o >>= λ x. Ok (f x.0, x.1))
  ok_like s t (Ok x) o like less = let h = like less in (h.0, h.1, rw h.2 refl)
  ok_like s t (Err left) o like less = let h = like less in (h.0, rw h.1 refl)

  ok_left : (r : Read A) (k : ℕ) → k < left_of (r >>= λ x. Ok (f x.0, x.1)) → k < left_of r
  ok_left (Ok x) k less = less
  ok_left (Err left) k less = less

first_left : {A B : Type 0} (f : A → Reader B) (r : Read A) (k : ℕ) → ((x : A) (rest : List ℕ) → left_of (f x rest) ≤ length rest) → k < left_of (r >>= λ x. f x.0 x.1) → k < left_of r
first_left f (Ok x) k h less = omega (arith, less, h x.0 x.1)
first_left f (Err left) k h less = less

pub behind_short : (s : List ℕ) → length (behind_word s) ≤ length s
behind_short s = omega (arith, length-drop (word_len s) s)

-- a word decides
module _ {A W : Type 0} (word : List ℕ → Option W) (one two : Option W → Reader A) (f g : Reader A) (m n : ℕ) (none : Local m n f g) (wordy : Wordy m f)
    (none_one : (bytes : List ℕ) → one None bytes ≡ f bytes) (none_two : (bytes : List ℕ) → two None bytes ≡ g bytes)
    (by by_other : W → Reader A) (some : (w : W) → Local m n (by w) (by_other w)) (some_one : (w : W) (bytes : List ℕ) → one (Some w) bytes ≡ by w (behind_word bytes)) (some_two : (w : W) (bytes : List ℕ) → two (Some w) bytes ≡ by_other w (behind_word bytes))
    (no : (b : ℕ) (p x : List ℕ) → NameFault b p → word ((b ∷ p) ++ x) ≡ None) where
  word_bound : (o : Option W) (bytes : List ℕ) → left_of (one o bytes) ≤ length bytes
  word_bound None bytes = omega (arith, ap left_of (none_one bytes), none.bound bytes)
  word_bound (Some w) bytes = omega (arith, ap left_of (some_one w bytes), (some w).bound (behind_word bytes), behind_short bytes)

  abbrev read_one : Reader A
  read_one bytes = one (word (first_word bytes)) bytes

  abbrev read_two : Reader A
  read_two bytes = two (word (first_word bytes)) bytes

  decided : (o : Option W) (q p s t : List ℕ) → length (p ++ s) ≤ m → length (p ++ t) ≤ n → behind_word (p ++ s) ≡ q ++ s → behind_word (p ++ t) ≡ q ++ t → length s < left_of (one o (p ++ s)) → Like s t (one o (p ++ s)) (two o (p ++ t))
  decided None q p s t a d bs bt less = rw (none_one (p ++ s), none_two (p ++ t)) (none.like p s t a d (rw (none_one (p ++ s)) at less))
  decided (Some w) q p s t a d bs bt less =
      let now : length s < left_of (by w (q ++ s)) = subst (λ (z : List ℕ). length s < left_of (by w z)) bs (subst (λ (z : Read A). length s < left_of z) (some_one w (p ++ s)) less) in
      let l = (some w).like q s t (omega (arith, a, behind_short (p ++ s), ap length bs)) (omega (arith, d, behind_short (p ++ t), ap length bt)) now in
      rw (some_one w (p ++ s), some_two w (p ++ t), bs, bt) l

  -- the word ends within the front
  inside : (h_word : List ℕ) (c : ℕ) (q p s t : List ℕ) → p ≡ h_word ++ c ∷ q → word_len h_word ≡ length h_word → goes_on_name c ≡ false → length (p ++ s) ≤ m → length (p ++ t) ≤ n → (o : Option W) → word h_word ≡ o
      → length s < left_of (read_one (p ++ s)) → Like s t (read_one (p ++ s)) (read_two (p ++ t))
  inside h c q p s t whole goes stops a d o e less =
      let at : (x : List ℕ) → p ++ x ≡ h ++ (c ∷ (q ++ x)) = λ x. ap (λ (y : List ℕ). y ++ x) whole ∙ append_assoc h (c ∷ q) x in
      let first : (x : List ℕ) → word (first_word (p ++ x)) ≡ o = λ x. ap (λ (y : List ℕ). word (first_word y)) (at x) ∙ ap word (word_first h (c ∷ (q ++ x)) goes (stops_here c (q ++ x) stops)) ∙ e in
      let behind : (x : List ℕ) → behind_word (p ++ x) ≡ (c ∷ q) ++ x = λ x. ap behind_word (at x) ∙ word_behind h (c ∷ (q ++ x)) goes (stops_here c (q ++ x) stops) in
      let len = length-append h (c ∷ q) in
      let now : length s < left_of (one o (p ++ s)) = subst (λ (z : Option W). length s < left_of (one z (p ++ s))) (first s) less in
      subst (λ (z : Option W). Like s t (one z (p ++ s)) (read_two (p ++ t))) (sym (first s)) (subst (λ (z : Option W). Like s t (one o (p ++ s)) (two z (p ++ t))) (sym (first t)) (decided o (c ∷ q) p s t a d (behind s) (behind t) now))

  -- the whole front is of the word
  over : (b : ℕ) (p s t : List ℕ) → word_len (b ∷ p) ≡ length (b ∷ p) → length ((b ∷ p) ++ s) ≤ m → length ((b ∷ p) ++ t) ≤ n → (o : Option W) → word (first_word ((b ∷ p) ++ s)) ≡ o → length s < left_of (one o ((b ∷ p) ++ s))
      → Like s t (one o ((b ∷ p) ++ s)) (read_two ((b ∷ p) ++ t))
  over b p s t all a d (Some w) e less =
      absurd (omega (arith, less, ap left_of (some_one w ((b ∷ p) ++ s)), (some w).bound (behind_word ((b ∷ p) ++ s)), ap length (behind_over (b ∷ p) s all), behind_short s))
  over b p s t all a d None e less =
      let now : length s < left_of (f ((b ∷ p) ++ s)) = subst (λ (z : Read A). length s < left_of z) (none_one ((b ∷ p) ++ s)) less in
      let fault = wordy b p s a all now in
      let free : word (first_word ((b ∷ p) ++ t)) ≡ None = ap word (first_over (b ∷ p) t all) ∙ no b p (first_word t) fault in
      rw (none_one ((b ∷ p) ++ s), free, none_two ((b ∷ p) ++ t)) (none.like (b ∷ p) s t a d now)

  word_like : (p s t : List ℕ) → length (p ++ s) ≤ m → length (p ++ t) ≤ n → length s < left_of (read_one (p ++ s)) → Like s t (read_one (p ++ s)) (read_two (p ++ t))
  word_like [] s t a d less = absurd (omega (arith, less, word_bound (word (first_word s)) s))
  word_like (b ∷ p) s t a d less = elim (ends (b ∷ p)) [
    | inl h ↦ inside h.word h.next h.others (b ∷ p) s t h.whole h.goes_on h.stops a d (word h.word) refl less
    | inr all ↦ over b p s t all a d (word (first_word ((b ∷ p) ++ s))) refl less
  ]

  wordy_by : (o : Option W) (b : ℕ) (p s : List ℕ) → length ((b ∷ p) ++ s) ≤ m → word_len (b ∷ p) ≡ length (b ∷ p) → length s < left_of (one o ((b ∷ p) ++ s)) → NameFault b p
  wordy_by (Some w) b p s a all less = absurd (omega (arith, less, ap left_of (some_one w ((b ∷ p) ++ s)), (some w).bound (behind_word ((b ∷ p) ++ s)), ap length (behind_over (b ∷ p) s all), behind_short s))
  wordy_by None b p s a all less = wordy b p s a all (subst (λ (z : Read A). length s < left_of z) (none_one ((b ∷ p) ++ s)) less)

  pub word_wordy : Wordy m read_one
  word_wordy b p s a all less = wordy_by (word (first_word ((b ∷ p) ++ s))) b p s a all less

  pub word_local : Local m n read_one read_two
  word_local = record { bound = λ bytes. word_bound (word (first_word bytes)) bytes; like = word_like }

char_local : (m n : ℕ) → Local m n (λ b. byte_at b >>= λ c. Ok (actual_const (const.Char c.0) no_actuals, c.1)) (λ b. byte_at b >>= λ c. Ok (actual_const (const.Char c.0) no_actuals, c.1))
char_local m n = then_on (λ c b. Ok (actual_const (const.Char c) no_actuals, b)) (λ c b. Ok (actual_const (const.Char c) no_actuals, b)) byte_at byte_at m n (byte_local m n) (λ c. just m n (actual_const (const.Char c) no_actuals))

text_local : (m n : ℕ) → Local m n (λ b. string_at (length b) [] b >>= λ c. Ok (actual_const (const.Str c.0) no_actuals, c.1)) (λ b. string_at (length b) [] b >>= λ c. Ok (actual_const (const.Str c.0) no_actuals, c.1))
text_local m n = then_on (λ c b. Ok (actual_const (const.Str c) no_actuals, b)) (λ c b. Ok (actual_const (const.Str c) no_actuals, b)) (λ b. string_at (length b) [] b) (λ b. string_at (length b) [] b) m n (whole_string_local m n) (λ c. just m n (actual_const (const.Str c) no_actuals))

int_local : (m n : ℕ) → Local m n (λ b. integer_at b >>= λ c. Ok (actual_const (const.Int c.0) no_actuals, c.1)) (λ b. integer_at b >>= λ c. Ok (actual_const (const.Int c.0) no_actuals, c.1))
int_local m n = then_on (λ c b. Ok (actual_const (const.Int c) no_actuals, b)) (λ c b. Ok (actual_const (const.Int c) no_actuals, b)) integer_at integer_at m n (integer_local m n) (λ c. just m n (actual_const (const.Int c) no_actuals))

module _ (scope : Scope) where
  -- a parameter after its mark
  parameter_bound : (of : Sort) (c : ℕ) (bytes : List ℕ) → left_of (parameter_at scope of (c ∷ bytes) bytes) ≤ suc (length bytes)
  unfolding parameter_at
  parameter_bound of c bytes = elim (cases_Bool (nat_le 1 (last_in scope of))) [
    | inl holds ↦ rw holds (omega (arith, (number_local scope of 1 0 0).bound bytes))
    | inr fails ↦ rw fails (omega arith)
  ]

  parameter_like : (of : Sort) (c : ℕ) (p s t : List ℕ) → length s < left_of (parameter_at scope of (c ∷ (p ++ s)) (p ++ s)) → Like s t (parameter_at scope of (c ∷ (p ++ s)) (p ++ s)) (parameter_at scope of (c ∷ (p ++ t)) (p ++ t))
  unfolding parameter_at
  parameter_like of c p s t less = elim (cases_Bool (nat_le 1 (last_in scope of))) [
    | inl holds ↦ rw holds ((number_local scope of 1 (length (p ++ s)) (length (p ++ t))).like p s t (omega arith) (omega arith) (rw holds at less))
    | inr fails ↦ rw fails (suc (length (p ++ t)), refl)
  ]

  -- and what is made of it
  made_bound : {A : Type 0} (f : ℕ → A) (of : Sort) (c : ℕ) (bytes : List ℕ) → left_of (parameter_at scope of (c ∷ bytes) bytes >>= λ n. Ok (f n.0, n.1)) ≤ suc (length bytes)
  made_bound {A} f of c bytes = ok_bound f (parameter_at scope of (c ∷ bytes) bytes) (suc (length bytes)) (parameter_bound of c bytes)

  made_like : {A : Type 0} (f : ℕ → A) (of : Sort) (c : ℕ) (p s t : List ℕ) → length s < left_of (parameter_at scope of (c ∷ (p ++ s)) (p ++ s) >>= λ n. Ok (f n.0, n.1))
      → Like s t (parameter_at scope of (c ∷ (p ++ s)) (p ++ s) >>= λ n. Ok (f n.0, n.1)) (parameter_at scope of (c ∷ (p ++ t)) (p ++ t) >>= λ n. Ok (f n.0, n.1))
  made_like {A} f of c p s t less = ok_like f s t (parameter_at scope of (c ∷ (p ++ s)) (p ++ s)) (parameter_at scope of (c ∷ (p ++ t)) (p ++ t)) (parameter_like of c p s t) less

  -- constants and constant parameters
  pub marked_bound : (l : Lead) (bytes : List ℕ) → left_of (marked_actual_read scope l bytes) ≤ length bytes
  unfolding marked_actual_read
  marked_bound l [] = omega arith
  marked_bound lead.Parameter (b ∷ bytes) = made_bound (λ n. actual_param n no_actuals) sort.Constant b bytes
  marked_bound lead.Char (b ∷ bytes) = omega (arith, (char_local 0 0).bound bytes)
  marked_bound lead.Text (b ∷ bytes) = omega (arith, (text_local 0 0).bound bytes)
  marked_bound lead.Integer (b ∷ bytes) = (int_local 0 0).bound (b ∷ bytes)
  marked_bound lead.Word (b ∷ bytes) = omega arith

  marked_like : (l : Lead) (c : ℕ) (p s t : List ℕ) → length s < left_of (marked_actual_read scope l (c ∷ (p ++ s))) → Like s t (marked_actual_read scope l (c ∷ (p ++ s))) (marked_actual_read scope l (c ∷ (p ++ t)))
  unfolding marked_actual_read
  marked_like lead.Parameter c p s t less = made_like (λ n. actual_param n no_actuals) sort.Constant c p s t less
  marked_like lead.Char c p s t less = (char_local (length (p ++ s)) (length (p ++ t))).like p s t (omega arith) (omega arith) less
  marked_like lead.Text c p s t less = (text_local (length (p ++ s)) (length (p ++ t))).like p s t (omega arith) (omega arith) less
  marked_like lead.Integer c p s t less = (int_local (suc (length (p ++ s))) (suc (length (p ++ t)))).like (c ∷ p) s t (omega arith) (omega arith) less
  marked_like lead.Word c p s t less = (suc (length (p ++ t)), refl)

  module _ (part other : Reader CluType) (m n : ℕ) (parts : Local m n part other) (wordy : Wordy m part) where
    type_then : Local m n (λ b. part b >>= λ t. Ok (actual_type t.0 no_actuals, t.1)) (λ b. other b >>= λ t. Ok (actual_type t.0 no_actuals, t.1))
    type_then = then_on (λ t b. Ok (actual_type t no_actuals, b)) (λ t b. Ok (actual_type t no_actuals, b)) part other m n parts (λ t. just m n (actual_type t no_actuals))

    word_actual_local : Local m n (word_actual_read part) (word_actual_read other)
    unfolding word_actual_by
    word_actual_local = word_local word_constant (word_actual_by part) (word_actual_by other) (λ b. part b >>= λ t. Ok (actual_type t.0 no_actuals, t.1)) (λ b. other b >>= λ t. Ok (actual_type t.0 no_actuals, t.1)) m n type_then
        (λ b p s a all less. wordy b p s a all (ok_left (λ t. actual_type t no_actuals) (part ((b ∷ p) ++ s)) (length s) less)) (λ bytes. refl) (λ bytes. refl) (λ c b. Ok (actual_const c no_actuals, b)) (λ c b. Ok (actual_const c no_actuals, b)) (λ c. just m n (actual_const c no_actuals)) (λ c bytes. refl) (λ c bytes. refl)
        (λ b p x f. no_constant (word_constant ((b ∷ p) ++ x)) b p x f refl)

    actual_bound : (l : Lead) (bytes : List ℕ) → left_of (actual_by scope part l bytes) ≤ length bytes
    unfolding actual_by
    actual_bound lead.Word bytes = word_actual_local.bound bytes
    actual_bound lead.Parameter bytes = marked_bound lead.Parameter bytes
    actual_bound lead.Char bytes = marked_bound lead.Char bytes
    actual_bound lead.Text bytes = marked_bound lead.Text bytes
    actual_bound lead.Integer bytes = marked_bound lead.Integer bytes

    actual_like : (l : Lead) (c : ℕ) (p s t : List ℕ) → length (c ∷ (p ++ s)) ≤ m → length (c ∷ (p ++ t)) ≤ n → length s < left_of (actual_by scope part l (c ∷ (p ++ s))) → Like s t (actual_by scope part l (c ∷ (p ++ s))) (actual_by scope other l (c ∷ (p ++ t)))
    unfolding actual_by
    actual_like lead.Word c p s t a d less = word_actual_local.like (c ∷ p) s t a d less
    actual_like lead.Parameter c p s t a d less = marked_like lead.Parameter c p s t less
    actual_like lead.Char c p s t a d less = marked_like lead.Char c p s t less
    actual_like lead.Text c p s t a d less = marked_like lead.Text c p s t less
    actual_like lead.Integer c p s t a d less = marked_like lead.Integer c p s t less

    actual_local : Local m n (actual_read scope part) (actual_read scope other)
    actual_local = local_from (actual_read scope part) (actual_read scope other) m n (λ bytes. actual_bound (lead_of bytes) bytes) (λ c p s t a d less. actual_like (lead_of (c ∷ (p ++ s))) c p s t a d less)

    actuals_local : Local m n (actuals_read scope part) (actuals_read scope other)
    unfolding actuals_read
    actuals_local = comma_rows (actuals_step scope part) (actuals_step scope other) m n (λ made. then_on (λ a b. Ok (actuals_joined made a, b)) (λ a b. Ok (actuals_joined made a, b)) (actual_read scope part) (actual_read scope other) m n actual_local (λ a. just m n (actuals_joined made a))) no_actuals

    all_actuals_local : Local m n (all_actuals_read scope part) (all_actuals_read scope other)
    unfolding all_actuals_by
    all_actuals_local = mark_local (all_actuals_by scope part) (all_actuals_by scope other) (λ b. actuals_read scope part b >>= λ given. closing 93 given.0 given.1) (λ b. actuals_read scope other b >>= λ given. closing 93 given.0 given.1) 91 m n (just m n no_actuals)
        (then_on (λ given b. closing 93 given b) (λ given b. closing 93 given b) (actuals_read scope part) (actuals_read scope other) m n actuals_local (λ given. closing_local m n 93 given)) (λ rest bytes. refl) (λ rest bytes. refl)

    -- one byte more, since a name comes first
    cluster_local : Local (suc m) (suc n) (cluster_type_read scope part) (cluster_type_read scope other)
    unfolding cluster_type_read
    cluster_local = thens (λ name b. all_actuals_read scope part b >>= λ given. Ok (cluster_of name given.0, given.1)) (λ name b. all_actuals_read scope other b >>= λ given. Ok (cluster_of name given.0, given.1)) (name_after [] 200) (name_after [] 200) 1 m n (suc m) (suc n) (omega arith) (omega arith) (name_consumes [] 200)
        (name_local [] 200 (λ h. omega arith) (suc m) (suc n))
        (λ name. then_on (λ given b. Ok (cluster_of name given, b)) (λ given b. Ok (cluster_of name given, b)) (all_actuals_read scope part) (all_actuals_read scope other) m n all_actuals_local (λ given. just m n (cluster_of name given)))

    cluster_wordy : Wordy (suc m) (cluster_type_read scope part)
    unfolding cluster_type_read
    cluster_wordy b p s a all less = name_fault b p s all (first_left (λ name b. all_actuals_read scope part b >>= λ given. Ok (cluster_of name given.0, given.1)) (name_after [] 200 ((b ∷ p) ++ s)) (length s) (λ name rest. (then_on (λ given b. Ok (cluster_of name given, b)) (λ given b. Ok (cluster_of name given, b)) (all_actuals_read scope part) (all_actuals_read scope other) m n all_actuals_local (λ given. just m n (cluster_of name given))).bound rest) less)

    keyword_local : (k : Keyword) → Local (suc m) (suc n) (keyword_type_read scope part k) (keyword_type_read scope other k)
    unfolding keyword_type_read
    keyword_local (keyword.Simple word) = just (suc m) (suc n) (simple_type word)
    keyword_local (keyword.Listing word) = fixed_then (λ b. part b >>= λ t. closing 93 (listing_type word t.0) t.1) (λ b. other b >>= λ t. closing 93 (listing_type word t.0) t.1) (91 ∷ []) m n (suc m) (suc n) (omega arith) (omega arith)
        (then_on (λ t b. closing 93 (listing_type word t) b) (λ t b. closing 93 (listing_type word t) b) part other m n parts (λ t. closing_local m n 93 (listing_type word t)))
    keyword_local (keyword.Selecting word) = fixed_then (λ b. fields_read part b >>= λ fs. closing 93 (selecting_type word fs.0) fs.1) (λ b. fields_read other b >>= λ fs. closing 93 (selecting_type word fs.0) fs.1) (91 ∷ []) m n (suc m) (suc n) (omega arith) (omega arith)
        (then_on (λ fs b. closing 93 (selecting_type word fs) b) (λ fs b. closing 93 (selecting_type word fs) b) (fields_read part) (fields_read other) m n (fields_local part other m n parts) (λ fs. closing_local m n 93 (selecting_type word fs)))
    keyword_local (keyword.Routine iter) = then_on (λ h b. Ok (routine_type iter h.0 h.1 h.2, b)) (λ h b. Ok (routine_type iter h.0 h.1 h.2, b)) (heading_read part iter) (heading_read other iter) (suc m) (suc n) (heading_local part other m n parts iter) (λ h. just (suc m) (suc n) (routine_type iter h.0 h.1 h.2))

    word_type_local : Local (suc m) (suc n) (word_type_read scope part) (word_type_read scope other)
    unfolding word_type_by
    word_type_local = word_local keyword_of (word_type_by scope part) (word_type_by scope other) (cluster_type_read scope part) (cluster_type_read scope other) (suc m) (suc n) cluster_local cluster_wordy (λ bytes. refl) (λ bytes. refl)
        (keyword_type_read scope part) (keyword_type_read scope other) keyword_local (λ k bytes. refl) (λ k bytes. refl) (λ b p x f. no_keyword (keyword_of ((b ∷ p) ++ x)) b p x f refl)

    one_bound : (o : Option (List ℕ)) (bytes : List ℕ) → behind 35 bytes ≡ o → left_of (one_type_by scope part o bytes) ≤ length bytes
    unfolding one_type_by
    one_bound None bytes e = word_type_local.bound bytes
    one_bound (Some rest) bytes e =
        let whole : bytes ≡ 35 ∷ rest = behind_spelled 35 bytes rest e in
        rw whole (made_bound parameter sort.Type 35 rest)

    one_local : Local (suc m) (suc n) (one_type_read scope part) (one_type_read scope other)
    unfolding one_type_by
    one_local = local_from (one_type_read scope part) (one_type_read scope other) (suc m) (suc n) (λ bytes. one_bound (behind 35 bytes) bytes refl) (λ c p s t a d less. elim (cases_Bool (c == 35)) [
      | inl holds ↦ rw holds (made_like parameter sort.Type c p s t (rw holds at less))
      | inr fails ↦ rw fails (word_type_local.like (c ∷ p) s t a d (rw fails at less))
    ])

    one_wordy : Wordy (suc m) (one_type_read scope part)
    unfolding one_type_by word_type_by
    one_wordy b p s a all less =
        let h = word_goes_on b p all in
        let no_mark : (b == 35) ≡ false = ne_eqb b 35 (λ e. both_ways (goes_on_name 35) refl (sym (ap goes_on_name e) ∙ h.0)) in
        word_wordy keyword_of (word_type_by scope part) (word_type_by scope other) (cluster_type_read scope part) (cluster_type_read scope other) (suc m) (suc n) cluster_local cluster_wordy (λ bytes. refl) (λ bytes. refl)
        (keyword_type_read scope part) (keyword_type_read scope other) keyword_local (λ k bytes. refl) (λ k bytes. refl) (λ b p x f. no_keyword (keyword_of ((b ∷ p) ++ x)) b p x f refl) b p s a all (rw no_mark at less)

  -- types, as deep as a text is long
  record TypeLocal (d e : ℕ) : Type 0 where
    pub local : Local d e (type_read scope d) (type_read scope e)
    pub wordy : Wordy d (type_read scope d)

  types_go : (d e : ℕ) → TypeLocal d e
  unfolding type_read
  types_go zero e = record {
    local = record { bound = λ bytes. omega arith; like = λ p s t a b less. absurd (omega (arith, a, less)) };
    wordy = λ b p s a all less. absurd (omega (arith, a));
  }
  types_go (suc d) zero =
      let below = types_go d zero in
      let one = one_local (type_read scope d) (type_read scope zero) d zero below.local below.wordy in
      record {
        local = record { bound = one.bound; like = λ p s t a b less. absurd (omega (arith, b, less, one.bound (p ++ s), length-append p s, length-append p t)) };
        wordy = one_wordy (type_read scope d) (type_read scope zero) d zero below.local below.wordy;
      }
  types_go (suc d) (suc e) =
      let below = types_go d e in
      record { local = one_local (type_read scope d) (type_read scope e) d e below.local below.wordy; wordy = one_wordy (type_read scope d) (type_read scope e) d e below.local below.wordy }

  pub type_local : (d e : ℕ) → Local d e (type_read scope d) (type_read scope e)
  type_local d e = (types_go d e).local
