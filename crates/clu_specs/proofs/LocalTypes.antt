-- Types go by the bytes up to where they stop, where this is so of the types in them.
use Rattle.std.proofs.Common.{◌≡◌, ℕ, suc, ◌<◌, ◌≤◌, ◌==◌, Bool, true, false, List, [], ◌∷◌, ◌++◌, length, codes, Option, Some, None, Ok, Err, if◌then◌else◌, refl, ap, subst, arith, inl, inr}
use Rattle.std.specs.Str.{bytes_eq}
use Rattle.std.proofs.lemmas.Bool.{cases_Bool}
use Rattle.std.proofs.lemmas.Option.{none-some}
use Rattle.clu_types.specs.CluType.{CluType, no_types, type_and, no_fields, field_and, no_signals, signal_and}
use Rattle.clu_specs.specs.Reading.{◌>>=◌, Read, literal_at, behind, begins_with, several}
use Rattle.clu_specs.specs.Names.{name_after, has_later}
use Rattle.clu_specs.specs.TypeReading.{Reader, types_joined, fields_joined, signals_joined, next_after, signal_name_after, types_step, types_read, closed_types_read, field_read, fields_step, fields_read, objects_by, objects_read, signal_read, signals_step, signals_read, arguments_by, arguments_read, results_read, all_signals_read, heading_read}
use Rattle.clu_specs.proofs.Outcomes.{closing, behind_spelled}
use Rattle.clu_specs.proofs.Local.{left_of, Local, NextLike, NextLocal, left_ok, local_from, just, then_on, fixed_then, rows_local}
use Rattle.clu_specs.proofs.LocalNames.{name_local}

-- a test, and then a comma
module _ {A : Type 0} (f : A → Bool) where
  abbrev tested : A → List ℕ → Option (List ℕ)
  tested a rest = if f a then behind 44 rest else None

  test_some : (c : Bool) (bytes rest : List ℕ) → (if c then behind 44 bytes else None) ≡ Some rest → bytes ≡ 44 ∷ rest
  test_some true bytes rest e = behind_spelled 44 bytes rest e
  test_some false bytes rest e = absurd (none-some rest e)

  test_like : (b : Bool) (c : ℕ) (q s t : List ℕ) → NextLike s t (if b then behind 44 (c ∷ (q ++ s)) else None) (if b then behind 44 (c ∷ (q ++ t)) else None)
  test_like false c q s t = refl
  test_like true c q s t = elim (cases_Bool (c == 44)) [ inl holds ↦ rw holds (q, refl, refl) | inr fails ↦ rw fails refl ]

  pub tests_local : NextLocal tested
  tests_local = record {
    bound = λ a bytes rest e. omega (arith, ap length (test_some (f a) bytes rest e));
    like = λ a c q s t. test_like (f a) c q s t;
  }

  pub tests_progress : (step : A → Reader A) → ((a : A) (bytes : List ℕ) → left_of (step a bytes) ≤ length bytes) → (a : A) (bytes : List ℕ) (b : A) (after rest : List ℕ) → step a bytes ≡ Ok (b, after) → tested b after ≡ Some rest → length rest < length bytes
  tests_progress step bound a bytes b after rest e o = omega (arith, bound a bytes, left_ok (step a bytes) (b, after) e, ap length (test_some (f b) after rest o))

-- items with a comma where a test holds
module _ {A : Type 0} (f : A → Bool) (step other : A → Reader A) (m n : ℕ) (steps : (a : A) → Local m n (step a) (other a)) where
  pub tested_rows : (a : A) → Local m n (λ b. several step (λ made rest. if f made then behind 44 rest else None) (length b) a b) (λ b. several other (λ made rest. if f made then behind 44 rest else None) (length b) a b)
  tested_rows a = rows_local step other (λ made rest. if f made then behind 44 rest else None) (tests_local f) m n steps (tests_progress f step (λ a bytes. (steps a).bound bytes)) a

comma_some : (bytes rest : List ℕ) → behind 44 bytes ≡ Some rest → length bytes ≡ suc (length rest)
comma_some bytes rest e = ap length (behind_spelled 44 bytes rest e)

pub commas_local : {A : Type 0} → NextLocal {A = A} (λ made rest. behind 44 rest)
commas_local = record {
  bound = λ a bytes rest e. omega (arith, comma_some bytes rest e);
  like = λ a c q s t. elim (cases_Bool (c == 44)) [ inl holds ↦ rw holds (q, refl, refl) | inr fails ↦ rw fails refl ];
}

module _ {A : Type 0} (step other : A → Reader A) (m n : ℕ) (steps : (a : A) → Local m n (step a) (other a)) where
  pub comma_rows : (a : A) → Local m n (λ b. several step (λ made rest. behind 44 rest) (length b) a b) (λ b. several other (λ made rest. behind 44 rest) (length b) a b)
  comma_rows a = rows_local step other (λ made rest. behind 44 rest) commas_local m n steps
      (λ a bytes b after rest e o. omega (arith, (steps a).bound bytes, left_ok (step a bytes) (b, after) e, comma_some after rest o)) a

pub closing_local : {A : Type 0} (m n c : ℕ) (x : A) → Local m n (closing c x) (closing c x)
closing_local m n c x = fixed_then (λ b. Ok (x, b)) (λ b. Ok (x, b)) (c ∷ []) m n m n (omega arith) (omega arith) (just m n x)

-- a mark decides
module _ {A : Type 0} (one two : Option (List ℕ) → Reader A) (f g : Reader A) (mark m n : ℕ) (none : Local m n (one None) (two None)) (some : Local m n f g)
    (e : (rest bytes : List ℕ) → one (Some rest) bytes ≡ f rest) (o : (rest bytes : List ℕ) → two (Some rest) bytes ≡ g rest) where
  mark_bound : (found : Option (List ℕ)) (bytes : List ℕ) → behind mark bytes ≡ found → left_of (one found bytes) ≤ length bytes
  mark_bound None bytes h = none.bound bytes
  mark_bound (Some rest) bytes h = omega (arith, ap left_of (e rest bytes), some.bound rest, ap length (behind_spelled mark bytes rest h))

  pub mark_local : Local m n (λ b. one (behind mark b) b) (λ b. two (behind mark b) b)
  mark_local = local_from (λ b. one (behind mark b) b) (λ b. two (behind mark b) b) m n (λ bytes. mark_bound (behind mark bytes) bytes refl) (λ c p s t a d less. elim (cases_Bool (c == mark)) [
    | inl holds ↦ (let now : length s < left_of (one (Some (p ++ s)) (c ∷ (p ++ s))) = rw holds at less in
        rw holds (rw (e (p ++ s) (c ∷ (p ++ s)), o (p ++ t) (c ∷ (p ++ t))) (some.like p s t (omega (arith, a)) (omega (arith, d)) (subst (λ (z : Read A). length s < left_of z) (e (p ++ s) (c ∷ (p ++ s))) now))))
    | inr fails ↦ rw fails (none.like (c ∷ p) s t a d (rw fails at less))
  ])

-- a first byte decides
module _ {A : Type 0} (one two f g : Reader A) (mark m n : ℕ) (yes_local : Local m n one two) (no_local : Local m n f g) where
  begin_bound : (bytes : List ℕ) → left_of (if begins_with mark bytes then one bytes else f bytes) ≤ length bytes
  begin_bound bytes = elim (cases_Bool (begins_with mark bytes)) [ inl holds ↦ rw holds (yes_local.bound bytes) | inr fails ↦ rw fails (no_local.bound bytes) ]

  pub begin_local : Local m n (λ b. if begins_with mark b then one b else f b) (λ b. if begins_with mark b then two b else g b)
  begin_local = local_from (λ b. if begins_with mark b then one b else f b) (λ b. if begins_with mark b then two b else g b) m n begin_bound (λ c p s t a d less. elim (cases_Bool (c == mark)) [
    | inl holds ↦ rw holds (yes_local.like (c ∷ p) s t a d (rw holds at less))
    | inr fails ↦ rw fails (no_local.like (c ∷ p) s t a d (rw fails at less))
  ])

-- refused where a test holds
refusing : {A : Type 0} (m n : ℕ) (c : Bool) (x : A) → Local m n (λ b. if c then Err (length b) else Ok (x, b)) (λ b. if c then Err (length b) else Ok (x, b))
refusing m n true x = record { bound = λ bytes. omega arith; like = λ p s t a d c. (length (p ++ t), refl) }
refusing m n false x = just m n x

signal_name_local : (previous : List ℕ) (m n : ℕ) → Local m n (signal_name_after previous) (signal_name_after previous)
unfolding signal_name_after
signal_name_local previous m n = then_on (λ x b. if bytes_eq x (codes "failure") then Err (length b) else Ok (x, b)) (λ x b. if bytes_eq x (codes "failure") then Err (length b) else Ok (x, b)) (name_after previous 200) (name_after previous 200) m n (name_local previous 200 (λ h. omega arith) m n)
    (λ x. refusing m n (bytes_eq x (codes "failure")) x)

-- readers over two readers of types
module _ (part other : Reader CluType) (m n : ℕ) (parts : Local m n part other) where
  types_local : Local m n (types_read part) (types_read other)
  unfolding types_read
  types_local = comma_rows (types_step part) (types_step other) m n (λ made. then_on (λ t b. Ok (types_joined made (type_and t no_types), b)) (λ t b. Ok (types_joined made (type_and t no_types), b)) part other m n parts (λ t. just m n (types_joined made (type_and t no_types)))) no_types

  closed_local : Local m n (closed_types_read part) (closed_types_read other)
  unfolding closed_types_read
  closed_local = then_on (λ ts b. closing 41 ts b) (λ ts b. closing 41 ts b) (types_read part) (types_read other) m n types_local (λ ts. closing_local m n 41 ts)

  field_local : (previous : List ℕ) → Local m n (field_read part previous) (field_read other previous)
  unfolding field_read
  field_local previous = then_on (λ name b. literal_at (58 ∷ []) b >>= λ rest. part rest >>= λ t. Ok ((name, t.0), t.1)) (λ name b. literal_at (58 ∷ []) b >>= λ rest. other rest >>= λ t. Ok ((name, t.0), t.1))
      (name_after previous 200) (name_after previous 200) m n (name_local previous 200 (λ h. omega arith) m n)
      (λ name. fixed_then (λ b. part b >>= λ t. Ok ((name, t.0), t.1)) (λ b. other b >>= λ t. Ok ((name, t.0), t.1)) (58 ∷ []) m n m n (omega arith) (omega arith)
      (then_on (λ t b. Ok ((name, t), b)) (λ t b. Ok ((name, t), b)) part other m n parts (λ t. just m n (name, t))))

  pub fields_local : Local m n (fields_read part) (fields_read other)
  unfolding fields_read
  fields_local = then_on (λ x b. Ok (x.0, b)) (λ x b. Ok (x.0, b)) (λ bytes. several (fields_step part) (λ made rest. next_after made.1 rest) (length bytes) (no_fields, []) bytes) (λ bytes. several (fields_step other) (λ made rest. next_after made.1 rest) (length bytes) (no_fields, []) bytes) m n
      (tested_rows (λ made. has_later made.1) (fields_step part) (fields_step other) m n
      (λ made. then_on (λ f b. Ok ((fields_joined made.0 (field_and f.0 f.1 no_fields), f.0), b)) (λ f b. Ok ((fields_joined made.0 (field_and f.0 f.1 no_fields), f.0), b)) (field_read part made.1) (field_read other made.1) m n (field_local made.1)
      (λ f. just m n (fields_joined made.0 (field_and f.0 f.1 no_fields), f.0))) (no_fields, []))
      (λ x. just m n x.0)

  objects_local : Local m n (objects_read part) (objects_read other)
  unfolding objects_by
  objects_local = mark_local (objects_by part) (objects_by other) (closed_types_read part) (closed_types_read other) 40 m n (just m n no_types) closed_local (λ rest bytes. refl) (λ rest bytes. refl)

  signal_local : (previous : List ℕ) → Local m n (signal_read part previous) (signal_read other previous)
  unfolding signal_read
  signal_local previous = then_on (λ name b. objects_read part b >>= λ ts. Ok ((name, ts.0), ts.1)) (λ name b. objects_read other b >>= λ ts. Ok ((name, ts.0), ts.1)) (signal_name_after previous) (signal_name_after previous) m n (signal_name_local previous m n)
      (λ name. then_on (λ ts b. Ok ((name, ts), b)) (λ ts b. Ok ((name, ts), b)) (objects_read part) (objects_read other) m n objects_local (λ ts. just m n (name, ts)))

  signals_local : Local m n (signals_read part) (signals_read other)
  unfolding signals_read
  signals_local = then_on (λ x b. Ok (x.0, b)) (λ x b. Ok (x.0, b)) (λ bytes. several (signals_step part) (λ made rest. next_after made.1 rest) (length bytes) (no_signals, []) bytes) (λ bytes. several (signals_step other) (λ made rest. next_after made.1 rest) (length bytes) (no_signals, []) bytes) m n
      (tested_rows (λ made. has_later made.1) (signals_step part) (signals_step other) m n
      (λ made. then_on (λ f b. Ok ((signals_joined made.0 (signal_and f.0 f.1 no_signals), f.0), b)) (λ f b. Ok ((signals_joined made.0 (signal_and f.0 f.1 no_signals), f.0), b)) (signal_read part made.1) (signal_read other made.1) m n (signal_local made.1)
      (λ f. just m n (signals_joined made.0 (signal_and f.0 f.1 no_signals), f.0))) (no_signals, []))
      (λ x. just m n x.0)

  -- after a fixed part, so that one byte more is allowed
  arguments_inner : Local m n (λ b. arguments_by part (behind 41 b) b) (λ b. arguments_by other (behind 41 b) b)
  unfolding arguments_by
  arguments_inner = mark_local (arguments_by part) (arguments_by other) (λ b. Ok (no_types, b)) (λ b. Ok (no_types, b)) 41 m n closed_local (just m n no_types) (λ rest bytes. refl) (λ rest bytes. refl)

  arguments_local : Local (suc m) (suc n) (arguments_read part) (arguments_read other)
  unfolding arguments_read
  arguments_local = fixed_then (λ b. arguments_by part (behind 41 b) b) (λ b. arguments_by other (behind 41 b) b) (40 ∷ []) m n (suc m) (suc n) (omega arith) (omega arith) arguments_inner

  results_local : (iter : Bool) → Local (suc m) (suc n) (results_read part iter) (results_read other iter)
  unfolding results_read
  results_local true = begin_local (λ b. literal_at (codes "yields(") b >>= λ rest. closed_types_read part rest) (λ b. literal_at (codes "yields(") b >>= λ rest. closed_types_read other rest) (λ b. Ok (no_types, b)) (λ b. Ok (no_types, b)) 121 (suc m) (suc n)
      (fixed_then (closed_types_read part) (closed_types_read other) (codes "yields(") m n (suc m) (suc n) (omega arith) (omega arith) closed_local) (just (suc m) (suc n) no_types)
  results_local false = begin_local (λ b. literal_at (codes "returns(") b >>= λ rest. closed_types_read part rest) (λ b. literal_at (codes "returns(") b >>= λ rest. closed_types_read other rest) (λ b. Ok (no_types, b)) (λ b. Ok (no_types, b)) 114 (suc m) (suc n)
      (fixed_then (closed_types_read part) (closed_types_read other) (codes "returns(") m n (suc m) (suc n) (omega arith) (omega arith) closed_local) (just (suc m) (suc n) no_types)

  all_signals_local : Local (suc m) (suc n) (all_signals_read part) (all_signals_read other)
  unfolding all_signals_read
  all_signals_local = begin_local (λ b. literal_at (codes "signals(") b >>= λ rest. signals_read part rest >>= λ ss. closing 41 ss.0 ss.1) (λ b. literal_at (codes "signals(") b >>= λ rest. signals_read other rest >>= λ ss. closing 41 ss.0 ss.1) (λ b. Ok (no_signals, b)) (λ b. Ok (no_signals, b)) 115 (suc m) (suc n)
      (fixed_then (λ b. signals_read part b >>= λ ss. closing 41 ss.0 ss.1) (λ b. signals_read other b >>= λ ss. closing 41 ss.0 ss.1) (codes "signals(") m n (suc m) (suc n) (omega arith) (omega arith)
      (then_on (λ ss b. closing 41 ss b) (λ ss b. closing 41 ss b) (signals_read part) (signals_read other) m n signals_local (λ ss. closing_local m n 41 ss))) (just (suc m) (suc n) no_signals)

  pub heading_local : (iter : Bool) → Local (suc m) (suc n) (heading_read part iter) (heading_read other iter)
  unfolding heading_read
  heading_local iter =
      then_on (λ args b. results_read part iter b >>= λ results. all_signals_read part results.1 >>= λ signals. Ok ((args, results.0, signals.0), signals.1)) (λ args b. results_read other iter b >>= λ results. all_signals_read other results.1 >>= λ signals. Ok ((args, results.0, signals.0), signals.1))
      (arguments_read part) (arguments_read other) (suc m) (suc n) arguments_local
      (λ args. then_on (λ results b. all_signals_read part b >>= λ signals. Ok ((args, results, signals.0), signals.1)) (λ results b. all_signals_read other b >>= λ signals. Ok ((args, results, signals.0), signals.1)) (results_read part iter) (results_read other iter) (suc m) (suc n) (results_local iter)
      (λ results. then_on (λ signals b. Ok ((args, results, signals), b)) (λ signals b. Ok ((args, results, signals), b)) (all_signals_read part) (all_signals_read other) (suc m) (suc n) all_signals_local (λ signals. just (suc m) (suc n) (args, results, signals))))
