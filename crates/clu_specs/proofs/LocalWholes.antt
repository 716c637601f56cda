-- Whole uses and specifications are refused alike, whatever comes after the byte at the fault.
use Rattle.std.proofs.Common.{◌≡◌, ℕ, suc, ◌<◌, ◌≤◌, ◌==◌, Bool, true, false, List, [], ◌∷◌, ◌++◌, length, codes, Result, Ok, Err, if◌then◌else◌, refl, sym, ap, subst, ◌∙◌, arith, length-append, append_assoc, inl, inr}
use Rattle.std.specs.Str.{bytes_eq}
use Rattle.std.proofs.lemmas.Bool.{cases_Bool, ne_eqb, false_from_ne_true}
use Rattle.clu_base.proofs.Lists.{same_bytes}
use Rattle.clu_types.specs.declared.spec.ParamKind.{ParamKind}
use Rattle.clu_types.specs.CluType.{CluType, cluster_of}
use Rattle.clu_specs.specs.Reading.{◌>>=◌, Read, literal_at, begins_with, end_at}
use Rattle.clu_specs.specs.Names.{word_len, first_word, behind_word, name_after}
use Rattle.clu_specs.specs.Scopes.{any_scope, scope_of}
use Rattle.clu_specs.specs.TypeReading.{Reader, type_read}
use Rattle.clu_specs.specs.Seen.{Used, Shape, routine, Specification}
use Rattle.clu_specs.specs.declared.read_uses.Operation.{Operation}
use Rattle.clu_specs.specs.UseReading.{module_of, operation_seen, operation_read, whole_use}
use Rattle.clu_specs.specs.declared.read_uses.Operation.TheVariants as operation
use Rattle.clu_specs.specs.SpecReading.{routine_word_read, parameters_read, cluster_form_read, routine_read, cluster_read, whole_spec}
use Rattle.clu_specs.specs.SpecReading as specs
use Rattle.clu_specs.proofs.Words.{word_first, word_behind}
use Rattle.clu_specs.proofs.Local.{left_of, Like, Local, local_less}
use Rattle.clu_specs.proofs.LocalNames.{ends, stops_here, name_fault_at, first_over, behind_over, name_local}
use Rattle.clu_specs.proofs.LocalActuals.{Short, no_short, behind_short, type_local}
use Rattle.clu_specs.proofs.LocalSpecs.{word_local, parameters_local, operation_local, form_local}

-- how many bytes are left where a whole text is refused
abbrev pub refused_left : {A : Type 0} → Result A ℕ → ℕ
refused_left (Ok x) = 0
refused_left (Err left) = left

-- over texts of at most m and n bytes, the second is refused where the first is refused within a front of both
pub record Alike {A : Type 0} (m n : ℕ) (one two : List ℕ → Result A ℕ) : Type 0 where
  pub bound : (bytes : List ℕ) → refused_left (one bytes) ≤ length bytes
  pub alike : (p s t : List ℕ) → length (p ++ s) ≤ m → length (p ++ t) ≤ n → length s < refused_left (one (p ++ s)) → (at : ℕ) × (two (p ++ t) ≡ Err at)

-- a reader, and then the rest
module _ {A B : Type 0} (f g : A → List ℕ → Result B ℕ) where
  then_bound : (bytes : List ℕ) (r : Read A) → left_of r ≤ length bytes → ((x : A) (rest : List ℕ) → refused_left (f x rest) ≤ length rest) → refused_left (r >>= λ x. f x.0 x.1) ≤ length bytes
  then_bound bytes (Ok x) b h = omega (arith, b, h x.0 x.1)
  then_bound bytes (Err left) b h = b

  then_alike : (m n : ℕ) (p s t : List ℕ) (r o : Read A) → left_of r ≤ length (p ++ s) → (length s < left_of r → Like s t r o) → ((x : A) → Alike m n (f x) (g x)) → length (p ++ s) ≤ m → length (p ++ t) ≤ n
      → length s < refused_left (r >>= λ x. f x.0 x.1) → (at : ℕ) × ((o >>= λ x. g x.0 x.1) ≡ Err at)
  then_alike m n p s t (Err left) o b like fs a d less = let h = like less in (h.0, rw h.1 refl)
  then_alike m n p s t (Ok x) o b like fs a d less =
      let h = like (omega (arith, less, (fs x.0).bound x.1)) in
      let q : List ℕ = h.0 in
      let whole = ap length h.1 in
      let now : length s < refused_left (f x.0 (q ++ s)) = subst (λ (z : List ℕ). length s < refused_left (f x.0 z)) h.1 less in
      let l = (fs x.0).alike q s t (omega (arith, a, b, whole)) (omega (arith, d, b, whole, length-append q s, length-append q t, length-append p s, length-append p t)) now in
      (l.0, rw h.2 l.1)

  pub then_rest : (one two : Reader A) (m n : ℕ) → Local m n one two → ((x : A) → Alike m n (f x) (g x)) → Alike m n (λ b. one b >>= λ x. f x.0 x.1) (λ b. two b >>= λ x. g x.0 x.1)
  then_rest one two m n l fs = record {
    bound = λ bytes. then_bound bytes (one bytes) (l.bound bytes) (λ x rest. (fs x).bound rest);
    alike = λ p s t a d less. then_alike m n p s t (one (p ++ s)) (two (p ++ t)) (l.bound (p ++ s)) (l.like p s t a d) fs a d less;
  }

-- a fixed part, and then the rest
module _ {B : Type 0} (f g : List ℕ → Result B ℕ) (m n : ℕ) (rest : Alike m n f g) where
  fixed_bound : (fixed bytes : List ℕ) → refused_left (literal_at fixed bytes >>= f) ≤ length bytes
  unfolding literal_at
  fixed_bound [] bytes = rest.bound bytes
  fixed_bound (x ∷ fixed) [] = omega arith
  fixed_bound (x ∷ fixed) (b ∷ bytes) = elim (cases_Bool (b == x)) [ inl holds ↦ rw holds (let more = fixed_bound fixed bytes in omega (arith, more)) | inr fails ↦ rw fails (omega arith) ]

  fixed_alike : (fixed p s t : List ℕ) → length (p ++ s) ≤ m → length (p ++ t) ≤ n → length s < refused_left (literal_at fixed (p ++ s) >>= f) → (at : ℕ) × ((literal_at fixed (p ++ t) >>= g) ≡ Err at)
  unfolding literal_at
  fixed_alike [] p s t a d less = rest.alike p s t a d less
  fixed_alike (x ∷ fixed) [] s t a d less = absurd (omega (arith, less, fixed_bound (x ∷ fixed) s))
  fixed_alike (x ∷ fixed) (b ∷ p) s t a d less = elim (cases_Bool (b == x)) [
    | inl holds ↦ rw holds (fixed_alike fixed p s t (omega (arith, a)) (omega (arith, d)) (rw holds at less))
    | inr fails ↦ rw fails (suc (length (p ++ t)), refl)
  ]

  pub fixed_rest : (fixed : List ℕ) → Alike m n (λ b. literal_at fixed b >>= f) (λ b. literal_at fixed b >>= g)
  fixed_rest fixed = record { bound = fixed_bound fixed; alike = fixed_alike fixed }

-- nothing more may follow
end_bound : {A : Type 0} (x : A) (bytes : List ℕ) → refused_left (end_at x bytes) ≤ length bytes
end_bound x bytes = elim (cases_Bool (length bytes == 0)) [ inl holds ↦ rw holds (omega arith) | inr fails ↦ rw fails (omega arith) ]

end_alike : {A B : Type 0} (x : A) (y : B) (p s t : List ℕ) → length s < refused_left (end_at x (p ++ s)) → (at : ℕ) × (end_at y (p ++ t) ≡ Err at)
end_alike x y [] s t less = absurd (omega (arith, less, end_bound x s))
end_alike x y (b ∷ p) s t less = (length (b ∷ (p ++ t)), rw (ne_eqb (length (b ∷ (p ++ t))) 0 (λ e. absurd (omega (arith, e)))) refl)

pub ended : {A : Type 0} (m n : ℕ) (x : A) → Alike m n (end_at x) (end_at x)
ended m n x = record { bound = end_bound x; alike = λ p s t a d less. end_alike x x p s t less }

-- refused where a test holds
refused_if : {A : Type 0} (m n : ℕ) (c : Bool) (f g : List ℕ → Result A ℕ) → Alike m n f g → Alike m n (λ b. if c then Err (length b) else f b) (λ b. if c then Err (length b) else g b)
refused_if m n true f g l = record { bound = λ bytes. omega arith; alike = λ p s t a d less. (length (p ++ t), refl) }
refused_if m n false f g l = l

-- a first byte decides
module _ {A : Type 0} (one two f g : List ℕ → Result A ℕ) (mark m n : ℕ) (first : Alike m n one two) (second : Alike m n f g) where
  choice_bound : (bytes : List ℕ) → refused_left (if begins_with mark bytes then one bytes else f bytes) ≤ length bytes
  choice_bound bytes = elim (cases_Bool (begins_with mark bytes)) [ inl holds ↦ rw holds (first.bound bytes) | inr fails ↦ rw fails (second.bound bytes) ]

  choice_alike : (p s t : List ℕ) → length (p ++ s) ≤ m → length (p ++ t) ≤ n → length s < refused_left (if begins_with mark (p ++ s) then one (p ++ s) else f (p ++ s)) → (at : ℕ) × ((if begins_with mark (p ++ t) then two (p ++ t) else g (p ++ t)) ≡ Err at)
  choice_alike [] s t a d less = absurd (omega (arith, less, choice_bound s))
  choice_alike (c ∷ p) s t a d less = elim (cases_Bool (c == mark)) [
    | inl holds ↦ rw holds (first.alike (c ∷ p) s t a d (rw holds at less))
    | inr fails ↦ rw fails (second.alike (c ∷ p) s t a d (rw fails at less))
  ]

  pub choice_rest : Alike m n (λ b. if begins_with mark b then one b else f b) (λ b. if begins_with mark b then two b else g b)
  choice_rest = record { bound = choice_bound; alike = choice_alike }

-- specifications
module _ (d e : ℕ) (name : List ℕ) where
  abbrev made : List ParamKind → Shape → Specification
  made kinds shape = record { name = name; kinds = kinds; shape = shape }

  routine_alike : Alike d e (routine_read name d) (routine_read name e)
  unfolding routine_read
  routine_alike =
      then_rest (λ iter b. parameters_read b >>= λ kinds. specs.operation_read (scope_of kinds.0) (type_read (scope_of kinds.0) d) name iter kinds.1 >>= λ op. end_at (made kinds.0 (routine op.0)) op.1)
      (λ iter b. parameters_read b >>= λ kinds. specs.operation_read (scope_of kinds.0) (type_read (scope_of kinds.0) e) name iter kinds.1 >>= λ op. end_at (made kinds.0 (routine op.0)) op.1)
      routine_word_read routine_word_read d e (word_local d e)
      (λ iter. then_rest (λ kinds b. specs.operation_read (scope_of kinds) (type_read (scope_of kinds) d) name iter b >>= λ op. end_at (made kinds (routine op.0)) op.1) (λ kinds b. specs.operation_read (scope_of kinds) (type_read (scope_of kinds) e) name iter b >>= λ op. end_at (made kinds (routine op.0)) op.1)
      parameters_read parameters_read d e (parameters_local d e)
      (λ kinds. then_rest (λ op b. end_at (made kinds (routine op)) b) (λ op b. end_at (made kinds (routine op)) b) (specs.operation_read (scope_of kinds) (type_read (scope_of kinds) d) name iter) (specs.operation_read (scope_of kinds) (type_read (scope_of kinds) e) name iter) d e
      (local_less (specs.operation_read (scope_of kinds) (type_read (scope_of kinds) d) name iter) (specs.operation_read (scope_of kinds) (type_read (scope_of kinds) e) name iter) (suc d) (suc e) d e (operation_local (scope_of kinds) (type_read (scope_of kinds) d) (type_read (scope_of kinds) e) d e (type_local (scope_of kinds) d e) name iter) (omega arith) (omega arith))
      (λ op. ended d e (made kinds (routine op)))))

  cluster_alike : Alike d e (cluster_read name d) (cluster_read name e)
  unfolding cluster_read
  cluster_alike =
      fixed_rest (λ b. parameters_read b >>= λ kinds. cluster_form_read (scope_of kinds.0) (type_read (scope_of kinds.0) d) kinds.1 >>= λ shape. end_at (made kinds.0 shape.0) shape.1) (λ b. parameters_read b >>= λ kinds. cluster_form_read (scope_of kinds.0) (type_read (scope_of kinds.0) e) kinds.1 >>= λ shape. end_at (made kinds.0 shape.0) shape.1) d e
      (then_rest (λ kinds b. cluster_form_read (scope_of kinds) (type_read (scope_of kinds) d) b >>= λ shape. end_at (made kinds shape.0) shape.1) (λ kinds b. cluster_form_read (scope_of kinds) (type_read (scope_of kinds) e) b >>= λ shape. end_at (made kinds shape.0) shape.1)
      parameters_read parameters_read d e (parameters_local d e)
      (λ kinds. then_rest (λ shape b. end_at (made kinds shape) b) (λ shape b. end_at (made kinds shape) b) (cluster_form_read (scope_of kinds) (type_read (scope_of kinds) d)) (cluster_form_read (scope_of kinds) (type_read (scope_of kinds) e)) d e
      (local_less (cluster_form_read (scope_of kinds) (type_read (scope_of kinds) d)) (cluster_form_read (scope_of kinds) (type_read (scope_of kinds) e)) (suc d) (suc e) d e (form_local (scope_of kinds) (type_read (scope_of kinds) d) (type_read (scope_of kinds) e) d e (type_local (scope_of kinds) d e)) (omega arith) (omega arith))
      (λ shape. ended d e (made kinds shape))))
      (codes "cluster")

abbrev body : ℕ → List ℕ → List ℕ → Result Specification ℕ
body d name rest = if begins_with 99 rest then cluster_read name d rest else routine_read name d rest

abbrev spec_at : ℕ → List ℕ → Result Specification ℕ
spec_at d bytes = name_after [] 200 bytes >>= λ name. if bytes_eq name.0 (codes "stream") then Err (length name.1) else literal_at (61 ∷ []) name.1 >>= body d name.0

spec_at_alike : (d e : ℕ) → Alike d e (spec_at d) (spec_at e)
spec_at_alike d e =
    then_rest (λ name b. if bytes_eq name (codes "stream") then Err (length b) else literal_at (61 ∷ []) b >>= body d name) (λ name b. if bytes_eq name (codes "stream") then Err (length b) else literal_at (61 ∷ []) b >>= body e name)
    (name_after [] 200) (name_after [] 200) d e (name_local [] 200 (λ h. omega arith) d e)
    (λ name. refused_if d e (bytes_eq name (codes "stream")) (λ b. literal_at (61 ∷ []) b >>= body d name) (λ b. literal_at (61 ∷ []) b >>= body e name)
    (fixed_rest (body d name) (body e name) d e (choice_rest (cluster_read name d) (cluster_read name e) (routine_read name d) (routine_read name e) 99 d e (cluster_alike d e name) (routine_alike d e name)) (61 ∷ [])))

pub whole_spec_alike : (p s t : List ℕ) (left : ℕ) → whole_spec (p ++ s) ≡ Err left → length s < left → (at : ℕ) × (whole_spec (p ++ t) ≡ Err at)
unfolding whole_spec
whole_spec_alike p s t left e less =
    (spec_at_alike (length (p ++ s)) (length (p ++ t))).alike p s t (omega arith) (omega arith) (subst (λ (z : Result Specification ℕ). length s < refused_left z) (sym e) less)

-- uses
module_bound : (t : CluType) → refused_left (module_of t) ≤ 0
module_bound (cluster_of name given) = omega arith
module_bound _ = omega arith

name_left : (r : Read (List ℕ)) (k : ℕ) → k < refused_left (r >>= λ name. end_at (operation.Named name.0) name.1) → k < left_of r
name_left (Ok x) k less = omega (arith, less, end_bound (operation.Named x.0) x.1)
name_left (Err left) k less = less

abbrev named_at : List ℕ → Result Operation ℕ
named_at b = name_after [] 204 b >>= λ name. end_at (operation.Named name.0) name.1

named_alike : (m n : ℕ) → Alike m n named_at named_at
named_alike m n = then_rest (λ name b. end_at (operation.Named name) b) (λ name b. end_at (operation.Named name) b) (name_after [] 204) (name_after [] 204) m n (name_local [] 204 (λ h. absurd (omega (arith, h))) m n) (λ name. ended m n (operation.Named name))

abbrev chosen_by : Bool → Bool → List ℕ → Result Operation ℕ
chosen_by own force b = if own then end_at operation.Own (behind_word b) else if force then end_at operation.Force (behind_word b) else named_at b

abbrev chosen_at : List ℕ → Result Operation ℕ
chosen_at b = chosen_by (bytes_eq (first_word b) (codes "own")) (bytes_eq (first_word b) (codes "force")) b

chosen_bound : (own force : Bool) (bytes : List ℕ) → refused_left (chosen_by own force bytes) ≤ length bytes
chosen_bound true force bytes = omega (arith, end_bound operation.Own (behind_word bytes), behind_short bytes)
chosen_bound false true bytes = omega (arith, end_bound operation.Force (behind_word bytes), behind_short bytes)
chosen_bound false false bytes = (named_alike 0 0).bound bytes

-- the word ends within the front
inside : (own force : Bool) (q p s u : List ℕ) → behind_word (p ++ s) ≡ q ++ s → behind_word (p ++ u) ≡ q ++ u → length s < refused_left (chosen_by own force (p ++ s)) → (at : ℕ) × (chosen_by own force (p ++ u) ≡ Err at)
inside true force q p s u bs bu less =
    let h = end_alike operation.Own operation.Own q s u (subst (λ (z : List ℕ). length s < refused_left (end_at operation.Own z)) bs less) in
    (h.0, ap (end_at operation.Own) bu ∙ h.1)
inside false true q p s u bs bu less =
    let h = end_alike operation.Force operation.Force q s u (subst (λ (z : List ℕ). length s < refused_left (end_at operation.Force z)) bs less) in
    (h.0, ap (end_at operation.Force) bu ∙ h.1)
inside false false q p s u bs bu less = (named_alike (length (p ++ s)) (length (p ++ u))).alike p s u (omega arith) (omega arith) less

-- the whole front is of the word
over : (own force : Bool) (b : ℕ) (p s u : List ℕ) → word_len (b ∷ p) ≡ length (b ∷ p) → length s < refused_left (chosen_by own force ((b ∷ p) ++ s)) → (at : ℕ) × (chosen_at ((b ∷ p) ++ u) ≡ Err at)
over true force b p s u all less = absurd (omega (arith, less, end_bound operation.Own (behind_word ((b ∷ p) ++ s)), ap length (behind_over (b ∷ p) s all), behind_short s))
over false true b p s u all less = absurd (omega (arith, less, end_bound operation.Force (behind_word ((b ∷ p) ++ s)), ap length (behind_over (b ∷ p) s all), behind_short s))
over false false b p s u all less =
    let fault = name_fault_at 203 (omega arith) b p s all (name_left (name_after [] 204 ((b ∷ p) ++ s)) (length s) less) in
    let free : (word : List ℕ) → Short word → bytes_eq (first_word ((b ∷ p) ++ u)) word ≡ false = λ word short.
    ap (λ (z : List ℕ). bytes_eq z word) (first_over (b ∷ p) u all) ∙ false_from_ne_true (bytes_eq ((b ∷ p) ++ first_word u) word) (λ same. no_short b p (first_word u) fault (subst Short (sym (same_bytes ((b ∷ p) ++ first_word u) word same)) short)) in
    let l = (named_alike (length ((b ∷ p) ++ s)) (length ((b ∷ p) ++ u))).alike (b ∷ p) s u (omega arith) (omega arith) less in
    (l.0, rw (free (codes "own") (refl, omega arith), free (codes "force") (refl, omega arith)) l.1)

chosen_alike : (p s u : List ℕ) → length s < refused_left (chosen_at (p ++ s)) → (at : ℕ) × (chosen_at (p ++ u) ≡ Err at)
chosen_alike [] s u less = absurd (omega (arith, less, chosen_bound (bytes_eq (first_word s) (codes "own")) (bytes_eq (first_word s) (codes "force")) s))
chosen_alike (b ∷ p) s u less = elim (ends (b ∷ p)) [
  | inr all ↦ over (bytes_eq (first_word ((b ∷ p) ++ s)) (codes "own")) (bytes_eq (first_word ((b ∷ p) ++ s)) (codes "force")) b p s u all less
  | inl h ↦ (let at : (x : List ℕ) → (b ∷ p) ++ x ≡ h.word ++ (h.next ∷ (h.others ++ x)) = λ x. ap (λ (y : List ℕ). y ++ x) h.whole ∙ append_assoc h.word (h.next ∷ h.others) x in
      let first : (x : List ℕ) → first_word ((b ∷ p) ++ x) ≡ h.word = λ x. ap first_word (at x) ∙ word_first h.word (h.next ∷ (h.others ++ x)) h.goes_on (stops_here h.next (h.others ++ x) h.stops) in
      let behind : (x : List ℕ) → behind_word ((b ∷ p) ++ x) ≡ (h.next ∷ h.others) ++ x = λ x. ap behind_word (at x) ∙ word_behind h.word (h.next ∷ (h.others ++ x)) h.goes_on (stops_here h.next (h.others ++ x) h.stops) in
      let now : length s < refused_left (chosen_by (bytes_eq h.word (codes "own")) (bytes_eq h.word (codes "force")) ((b ∷ p) ++ s)) =
      subst (λ (z : List ℕ). length s < refused_left (chosen_by (bytes_eq z (codes "own")) (bytes_eq z (codes "force")) ((b ∷ p) ++ s))) (first s) less in
      let l = inside (bytes_eq h.word (codes "own")) (bytes_eq h.word (codes "force")) (h.next ∷ h.others) (b ∷ p) s u (behind s) (behind u) now in
      (l.0, ap (λ (z : List ℕ). chosen_by (bytes_eq z (codes "own")) (bytes_eq z (codes "force")) ((b ∷ p) ++ u)) (first u) ∙ l.1))
]

operation_alike : (m n : ℕ) → Alike m n operation_read operation_read
unfolding operation_read
operation_alike m n = fixed_rest chosen_at chosen_at m n
    (record { bound = λ bytes. chosen_bound (bytes_eq (first_word bytes) (codes "own")) (bytes_eq (first_word bytes) (codes "force")) bytes; alike = λ p s u a d less. chosen_alike p s u less }) (36 ∷ [])

module _ (t : CluType) where
  -- nothing, or an operation
  abbrev rest_at : List ℕ → Result Used ℕ
  rest_at b = if length b == 0 then module_of t else (operation_read b >>= λ op. Ok (operation_seen t op))

  some_rest : (b : ℕ) (bytes : List ℕ) → rest_at (b ∷ bytes) ≡ (operation_read (b ∷ bytes) >>= λ op. Ok (operation_seen t op))
  some_rest b bytes = rw (ne_eqb (length (b ∷ bytes)) 0 (λ e. absurd (omega (arith, e)))) refl

  seen_bound : (r : Result Operation ℕ) (n : ℕ) → refused_left r ≤ n → refused_left (r >>= λ op. Ok (operation_seen t op)) ≤ n
  seen_bound (Ok op) n b = omega arith
  seen_bound (Err left) n b = b

  seen_left : (r : Result Operation ℕ) (k : ℕ) → k < refused_left (r >>= λ op. Ok (operation_seen t op)) → k < refused_left r
  seen_left (Ok op) k less = less
  seen_left (Err left) k less = less

  rest_bound : (bytes : List ℕ) → refused_left (rest_at bytes) ≤ length bytes
  rest_bound [] = module_bound t
  rest_bound (b ∷ bytes) = omega (arith, ap refused_left (some_rest b bytes), seen_bound (operation_read (b ∷ bytes)) (length (b ∷ bytes)) ((operation_alike 0 0).bound (b ∷ bytes)))

  rest_alike_by : (p s u : List ℕ) → length s < refused_left (rest_at (p ++ s)) → (at : ℕ) × (rest_at (p ++ u) ≡ Err at)
  rest_alike_by [] s u less = absurd (omega (arith, less, rest_bound s))
  rest_alike_by (b ∷ p) s u less =
      let now : length s < refused_left (operation_read ((b ∷ p) ++ s) >>= λ op. Ok (operation_seen t op)) = subst (λ (z : Result Used ℕ). length s < refused_left z) (some_rest b (p ++ s)) less in
      let l = (operation_alike (length ((b ∷ p) ++ s)) (length ((b ∷ p) ++ u))).alike (b ∷ p) s u (omega arith) (omega arith) (seen_left (operation_read ((b ∷ p) ++ s)) (length s) now) in
      (l.0, some_rest b (p ++ u) ∙ rw l.1 refl)

  rest_alike : (m n : ℕ) → Alike m n rest_at rest_at
  rest_alike m n = record { bound = rest_bound; alike = λ p s u a d less. rest_alike_by p s u less }

pub whole_use_alike : (p s t : List ℕ) (left : ℕ) → whole_use (p ++ s) ≡ Err left → length s < left → (at : ℕ) × (whole_use (p ++ t) ≡ Err at)
unfolding whole_use
whole_use_alike p s t left e less =
    then_alike rest_at rest_at (length (p ++ s)) (length (p ++ t)) p s t (type_read any_scope (length (p ++ s)) (p ++ s)) (type_read any_scope (length (p ++ t)) (p ++ t)) ((type_local any_scope (length (p ++ s)) (length (p ++ t))).bound (p ++ s))
    ((type_local any_scope (length (p ++ s)) (length (p ++ t))).like p s t (omega arith) (omega arith)) (λ x. rest_alike x (length (p ++ s)) (length (p ++ t))) (omega arith) (omega arith) (subst (λ (z : Result Used ℕ). length s < refused_left z) (sym e) less)
