-- Uses and specifications go by the bytes up to where they stop.
use Rattle.std.proofs.Common.{◌≡◌, ℕ, suc, ◌<◌, ◌≤◌, ◌==◌, nat_le, nat_lt, not, ◌||◌, Bool, true, false, List, [], ◌∷◌, ◌++◌, length, map, codes, Some, None, Ok, if◌then◌else◌, refl, ap, ◌∙◌, arith, inl, inr}
use Rattle.std.proofs.lemmas.Bool.{cases_Bool}
use Rattle.std.proofs.lemmas.Option.{none-some}
use Rattle.clu_types.specs.declared.spec.ParamKind.{ParamKind}
use Rattle.clu_types.specs.CluType.{CluType, CluTypes, Signals}
use Rattle.clu_specs.specs.declared.read_kinds.TheConstants.{KINDS}
use Rattle.clu_specs.specs.declared.scope.Sort.TheVariants as sort
use Rattle.clu_specs.specs.declared.scope.Scope.{Scope}
use Rattle.clu_specs.specs.Reading.{◌>>=◌, Read, literal_at, begins_with, several}
use Rattle.clu_specs.specs.Names.{has_later, name_after}
use Rattle.clu_specs.specs.Scopes.{last_in, number_at}
use Rattle.clu_specs.specs.TypeReading.{Reader, heading_read}
use Rattle.clu_specs.specs.Seen.{Demanded, Operation, cluster}
use Rattle.clu_specs.specs.SpecReading.{routine_word_read, begin_alike, kind_in, kind_read, kinds_step, kinds_read, parameters_by, parameters_read, least_behind, asked_read, demand_read, demands_step, demands_next, demands_read, all_demands_read, operation_read, operation_word_read, named_operation_read, operations_step, operations_next, operations_read, cluster_form_read}
use Rattle.clu_specs.proofs.Outcomes.{and_then, ok_same, closing, literal_spelled}
use Rattle.clu_specs.proofs.Local.{left_of, Like, Local, NextLike, NextLocal, left_ok, local_from, just, then_on, fixed_then, rows_local}
use Rattle.clu_specs.proofs.LocalNames.{name_local}
use Rattle.clu_specs.proofs.LocalNumbers.{number_local}
use Rattle.clu_specs.proofs.LocalTypes.{tested_rows, closing_local, mark_local, begin_local, heading_local}

pub word_local : (m n : ℕ) → Local m n routine_word_read routine_word_read
unfolding routine_word_read
word_local m n = begin_local (λ b. literal_at (codes "iter") b >>= λ rest. Ok (true, rest)) (λ b. literal_at (codes "iter") b >>= λ rest. Ok (true, rest)) (λ b. literal_at (codes "proc") b >>= λ rest. Ok (false, rest)) (λ b. literal_at (codes "proc") b >>= λ rest. Ok (false, rest)) 105 m n
    (fixed_then (λ b. Ok (true, b)) (λ b. Ok (true, b)) (codes "iter") m n m n (omega arith) (omega arith) (just m n true))
    (fixed_then (λ b. Ok (false, b)) (λ b. Ok (false, b)) (codes "proc") m n m n (omega arith) (omega arith) (just m n false))

-- kinds
kind_by : (c : Bool) (word : List ℕ) (k : ParamKind) (table : List (List ℕ × ParamKind)) (bytes : List ℕ) → left_of (kind_in table bytes) ≤ length bytes → left_of (if c then (literal_at word bytes >>= λ rest. Ok (k, rest)) else kind_in table bytes) ≤ length bytes
kind_by true word k table bytes h = (fixed_then (λ b. Ok (k, b)) (λ b. Ok (k, b)) word 0 0 0 0 (omega arith) (omega arith) (just 0 0 k)).bound bytes
kind_by false word k table bytes h = h

kind_bound : (table : List (List ℕ × ParamKind)) (bytes : List ℕ) → left_of (kind_in table bytes) ≤ length bytes
kind_bound [] bytes = omega arith
kind_bound (entry ∷ table) bytes = kind_by (begin_alike entry.0 bytes) entry.0 entry.1 table bytes (kind_bound table bytes)

alike_same : (word : List ℕ) (c : ℕ) (x y : List ℕ) → begin_alike word (c ∷ x) ≡ begin_alike word (c ∷ y)
alike_same [] c x y = refl
alike_same (b ∷ word) c x y = refl

kind_like : (table : List (List ℕ × ParamKind)) (c : ℕ) (p s t : List ℕ) → length s < left_of (kind_in table (c ∷ (p ++ s))) → Like s t (kind_in table (c ∷ (p ++ s))) (kind_in table (c ∷ (p ++ t)))
kind_like [] c p s t less = (suc (length (p ++ t)), refl)
kind_like (entry ∷ table) c p s t less = elim (cases_Bool (begin_alike entry.0 (c ∷ (p ++ s)))) [
  | inl holds ↦ (let other : begin_alike entry.0 (c ∷ (p ++ t)) ≡ true = alike_same entry.0 c (p ++ t) (p ++ s) ∙ holds in
      rw (holds, other) ((fixed_then (λ b. Ok (entry.1, b)) (λ b. Ok (entry.1, b)) entry.0 (length (c ∷ (p ++ s))) (length (c ∷ (p ++ t))) (length (c ∷ (p ++ s))) (length (c ∷ (p ++ t))) (omega arith) (omega arith) (just (length (c ∷ (p ++ s))) (length (c ∷ (p ++ t))) entry.1)).like (c ∷ p) s t (omega arith) (omega arith) (rw holds at less)))
  | inr fails ↦ (let other : begin_alike entry.0 (c ∷ (p ++ t)) ≡ false = alike_same entry.0 c (p ++ t) (p ++ s) ∙ fails in
      rw (fails, other) (kind_like table c p s t (rw fails at less)))
]

kind_local : (m n : ℕ) → Local m n kind_read kind_read
unfolding kind_read
kind_local m n = local_from kind_read kind_read m n (kind_bound (map (λ entry. (entry.0.now, entry.1)) KINDS)) (λ c p s t a d less. kind_like (map (λ entry. (entry.0.now, entry.1)) KINDS) c p s t less)

kinds_local : (m n : ℕ) → Local m n kinds_read kinds_read
unfolding kinds_read
kinds_local m n = tested_rows (λ made. nat_lt (length made) 4294967295) kinds_step kinds_step m n (λ made. then_on (λ k b. Ok (made ++ k ∷ [], b)) (λ k b. Ok (made ++ k ∷ [], b)) kind_read kind_read m n (kind_local m n) (λ k. just m n (made ++ k ∷ []))) []

pub parameters_local : (m n : ℕ) → Local m n parameters_read parameters_read
unfolding parameters_by
parameters_local m n = mark_local parameters_by parameters_by (λ b. kinds_read b >>= λ ks. closing 93 ks.0 ks.1) (λ b. kinds_read b >>= λ ks. closing 93 ks.0 ks.1) 91 m n (just m n [])
    (then_on (λ ks b. closing 93 ks b) (λ ks b. closing 93 ks b) kinds_read kinds_read m n (kinds_local m n) (λ ks. closing_local m n 93 ks)) (λ rest bytes. refl) (λ rest bytes. refl)

module _ (scope : Scope) (m n : ℕ) where
  abbrev name_from : ℕ → ℕ → List ℕ → Reader (ℕ × List ℕ)
  name_from asked param previous b = name_after (if asked == param then previous else []) 200 b >>= λ name. closing 58 (asked, name.0) name.1

  name_from_local : (asked param : ℕ) (previous : List ℕ) → Local m n (name_from asked param previous) (name_from asked param previous)
  name_from_local asked param previous = then_on (λ name b. closing 58 (asked, name) b) (λ name b. closing 58 (asked, name) b) (name_after (if asked == param then previous else []) 200) (name_after (if asked == param then previous else []) 200) m n
      (name_local (if asked == param then previous else []) 200 (λ h. omega arith) m n) (λ name. closing_local m n 58 (asked, name))

  asked_local : (param : ℕ) (previous : List ℕ) → Local m n (asked_read scope param previous) (asked_read scope param previous)
  unfolding asked_read
  asked_local param previous =
      fixed_then (λ b. number_at scope sort.Type (least_behind param previous) b >>= λ asked. literal_at (codes " has ") asked.1 >>= λ rest. name_from asked.0 param previous rest) (λ b. number_at scope sort.Type (least_behind param previous) b >>= λ asked. literal_at (codes " has ") asked.1 >>= λ rest. name_from asked.0 param previous rest) (35 ∷ []) m n m n (omega arith) (omega arith)
      (then_on (λ asked b. literal_at (codes " has ") b >>= λ rest. name_from asked param previous rest) (λ asked b. literal_at (codes " has ") b >>= λ rest. name_from asked param previous rest) (number_at scope sort.Type (least_behind param previous)) (number_at scope sort.Type (least_behind param previous)) m n (number_local scope sort.Type (least_behind param previous) m n)
      (λ asked. fixed_then (name_from asked param previous) (name_from asked param previous) (codes " has ") m n m n (omega arith) (omega arith) (name_from_local asked param previous)))

-- an operation's word after its semicolon
abbrev behind_semicolon : List ℕ → Reader (List ℕ × Bool)
behind_semicolon previous b = name_after previous 200 b >>= λ name. literal_at (58 ∷ []) name.1 >>= λ rest. routine_word_read rest >>= λ iter. Ok ((name.0, iter.0), iter.1)

word_rest : (m n : ℕ) (previous : List ℕ) → Local m n (behind_semicolon previous) (behind_semicolon previous)
word_rest m n previous =
    then_on (λ name b. literal_at (58 ∷ []) b >>= λ rest. routine_word_read rest >>= λ iter. Ok ((name, iter.0), iter.1)) (λ name b. literal_at (58 ∷ []) b >>= λ rest. routine_word_read rest >>= λ iter. Ok ((name, iter.0), iter.1)) (name_after previous 200) (name_after previous 200) m n (name_local previous 200 (λ h. omega arith) m n)
    (λ name. fixed_then (λ b. routine_word_read b >>= λ iter. Ok ((name, iter.0), iter.1)) (λ b. routine_word_read b >>= λ iter. Ok ((name, iter.0), iter.1)) (58 ∷ []) m n m n (omega arith) (omega arith)
    (then_on (λ iter b. Ok ((name, iter), b)) (λ iter b. Ok ((name, iter), b)) routine_word_read routine_word_read m n (word_local m n) (λ iter. just m n (name, iter))))

word_rest_local : (previous : List ℕ) → Local 0 0 (behind_semicolon previous) (behind_semicolon previous)
word_rest_local previous = word_rest 0 0 previous

operation_word_local : (m n : ℕ) (previous : List ℕ) → Local m n (operation_word_read previous) (operation_word_read previous)
unfolding operation_word_read
operation_word_local m n previous =
    fixed_then (behind_semicolon previous) (behind_semicolon previous) (59 ∷ []) m n m n (omega arith) (omega arith)
    (word_rest m n previous)

-- demands and operations, over two readers of types
module _ (scope : Scope) (part other : Reader CluType) (m n : ℕ) (parts : Local m n part other) where
  demand_local : (param : ℕ) (previous : List ℕ) → Local m n (demand_read scope part param previous) (demand_read scope other param previous)
  unfolding demand_read
  demand_local param previous =
      then_on (λ asked b. part b >>= λ t. Ok (record { param = asked.0; op = asked.1; wanted = t.0 }, t.1)) (λ asked b. other b >>= λ t. Ok (record { param = asked.0; op = asked.1; wanted = t.0 }, t.1)) (asked_read scope param previous) (asked_read scope param previous) m n (asked_local scope m n param previous)
      (λ asked. then_on (λ t b. Ok (record { param = asked.0; op = asked.1; wanted = t }, b)) (λ t b. Ok (record { param = asked.0; op = asked.1; wanted = t }, b)) part other m n parts (λ t. just m n (record { param = asked.0; op = asked.1; wanted = t })))

  demands_local : Local m n (demands_read scope part) (demands_read scope other)
  unfolding demands_read
  demands_local = then_on (λ x b. Ok (x.0, b)) (λ x b. Ok (x.0, b)) (λ bytes. several (demands_step scope part) (demands_next scope part) (length bytes) ([], 0, []) bytes) (λ bytes. several (demands_step scope other) (demands_next scope other) (length bytes) ([], 0, []) bytes) m n
      (tested_rows (λ made. nat_le (least_behind made.1 made.2) (last_in scope sort.Type)) (demands_step scope part) (demands_step scope other) m n
      (λ made. then_on (λ d b. Ok ((made.0 ++ d ∷ [], d.param, d.op), b)) (λ d b. Ok ((made.0 ++ d ∷ [], d.param, d.op), b)) (demand_read scope part made.1 made.2) (demand_read scope other made.1 made.2) m n (demand_local made.1 made.2) (λ d. just m n (made.0 ++ d ∷ [], d.param, d.op))) ([], 0, []))
      (λ x. just m n x.0)

  demands_behind : Local (suc m) (suc n) (λ b. literal_at (codes " where ") b >>= λ rest. demands_read scope part rest >>= λ ds. closing 32 ds.0 ds.1) (λ b. literal_at (codes " where ") b >>= λ rest. demands_read scope other rest >>= λ ds. closing 32 ds.0 ds.1)
  demands_behind = fixed_then (λ b. demands_read scope part b >>= λ ds. closing 32 ds.0 ds.1) (λ b. demands_read scope other b >>= λ ds. closing 32 ds.0 ds.1) (codes " where ") m n (suc m) (suc n) (omega arith) (omega arith)
      (then_on (λ ds b. closing 32 ds b) (λ ds b. closing 32 ds b) (demands_read scope part) (demands_read scope other) m n demands_local (λ ds. closing_local m n 32 ds))

  -- where there is a parameter to demand of, a blank begins the demands
  where_bound : (blank some : Bool) (bytes : List ℕ) (r : Read (List Demanded)) → left_of r ≤ length bytes → left_of (if not blank || not some then Ok ([], bytes) else r) ≤ length bytes
  where_bound true true bytes r h = h
  where_bound true false bytes r h = omega arith
  where_bound false some bytes r h = omega arith

  where_like : (blank some : Bool) (c : ℕ) (p s t : List ℕ) (r o : Read (List Demanded)) → (length s < left_of r → Like s t r o) → length s < left_of (if not blank || not some then Ok ([], c ∷ (p ++ s)) else r)
      → Like s t (if not blank || not some then Ok ([], c ∷ (p ++ s)) else r) (if not blank || not some then Ok ([], c ∷ (p ++ t)) else o)
  where_like true true c p s t r o h less = h less
  where_like true false c p s t r o h less = (c ∷ p, refl, refl)
  where_like false some c p s t r o h less = (c ∷ p, refl, refl)

  all_demands_local : Local (suc m) (suc n) (all_demands_read scope part) (all_demands_read scope other)
  unfolding all_demands_read
  all_demands_local = local_from (all_demands_read scope part) (all_demands_read scope other) (suc m) (suc n)
      (λ bytes. where_bound (begins_with 32 bytes) (nat_le 1 (last_in scope sort.Type)) bytes (literal_at (codes " where ") bytes >>= λ rest. demands_read scope part rest >>= λ ds. closing 32 ds.0 ds.1) (demands_behind.bound bytes))
      (λ c p s t a d less. where_like (c == 32) (nat_le 1 (last_in scope sort.Type)) c p s t (literal_at (codes " where ") (c ∷ (p ++ s)) >>= λ rest. demands_read scope part rest >>= λ ds. closing 32 ds.0 ds.1) (literal_at (codes " where ") (c ∷ (p ++ t)) >>= λ rest. demands_read scope other rest >>= λ ds. closing 32 ds.0 ds.1)
      (demands_behind.like (c ∷ p) s t a d) less)

  abbrev built : List ℕ → Bool → CluTypes × CluTypes × Signals → List Demanded → Operation
  built name iter h ds = record { name = name; iter = iter; args = h.0; results = h.1; signals = h.2; demands = ds }

  pub operation_local : (name : List ℕ) (iter : Bool) → Local (suc m) (suc n) (operation_read scope part name iter) (operation_read scope other name iter)
  unfolding operation_read
  operation_local name iter =
      then_on (λ h b. all_demands_read scope part b >>= λ ds. Ok (built name iter h ds.0, ds.1)) (λ h b. all_demands_read scope other b >>= λ ds. Ok (built name iter h ds.0, ds.1)) (heading_read part iter) (heading_read other iter) (suc m) (suc n) (heading_local part other m n parts iter)
      (λ h. then_on (λ ds b. Ok (built name iter h ds, b)) (λ ds b. Ok (built name iter h ds, b)) (all_demands_read scope part) (all_demands_read scope other) (suc m) (suc n) all_demands_local (λ ds. just (suc m) (suc n) (built name iter h ds)))

  named_local : (previous : List ℕ) → Local (suc m) (suc n) (named_operation_read scope part previous) (named_operation_read scope other previous)
  unfolding named_operation_read
  named_local previous = then_on (λ word b. operation_read scope part word.0 word.1 b) (λ word b. operation_read scope other word.0 word.1 b) (operation_word_read previous) (operation_word_read previous) (suc m) (suc n) (operation_word_local (suc m) (suc n) previous) (λ word. operation_local word.0 word.1)

  ops_step_local : (made : List Operation × List ℕ) → Local (suc m) (suc n) (operations_step scope part made) (operations_step scope other made)
  ops_step_local made = then_on (λ op b. Ok ((made.0 ++ op ∷ [], op.name), b)) (λ op b. Ok ((made.0 ++ op ∷ [], op.name), b)) (named_operation_read scope part made.1) (named_operation_read scope other made.1) (suc m) (suc n) (named_local made.1) (λ op. just (suc m) (suc n) (made.0 ++ op ∷ [], op.name))

  same_rest : (stop : Bool) (bytes rest : List ℕ) → (if stop then None else Some bytes) ≡ Some rest → bytes ≡ rest
  same_rest true bytes rest e = absurd (none-some rest e)
  same_rest false bytes rest e = cc

  stop_like : (later semicolon : Bool) (c : ℕ) (q s t : List ℕ) → NextLike s t (if not later || not semicolon then None else Some (c ∷ (q ++ s))) (if not later || not semicolon then None else Some (c ∷ (q ++ t)))
  stop_like true true c q s t = (c ∷ q, refl, refl)
  stop_like true false c q s t = refl
  stop_like false semicolon c q s t = refl

  ops_next_local : NextLocal (operations_next scope part)
  ops_next_local = record {
    bound = λ a bytes rest e. omega (arith, ap length (same_rest (not (has_later a.1) || not (begins_with 59 bytes)) bytes rest e));
    like = λ a c q s t. stop_like (has_later a.1) (c == 59) c q s t;
  }

  -- an operation has its semicolon at least
  word_shrinks : (previous bytes : List ℕ) (x : (List ℕ × Bool) × List ℕ) → operation_word_read previous bytes ≡ Ok x → length x.1 < length bytes
  unfolding operation_word_read
  word_shrinks previous bytes x e =
      let h = and_then (literal_at (59 ∷ []) bytes) (behind_semicolon previous) x e in
      omega (arith, ap length (literal_spelled (59 ∷ []) bytes h.0 h.1), left_ok (behind_semicolon previous h.0) x h.2, (word_rest_local previous).bound h.0)

  ops_progress : (made : List Operation × List ℕ) (bytes : List ℕ) (b : List Operation × List ℕ) (after rest : List ℕ) → operations_step scope part made bytes ≡ Ok (b, after) → operations_next scope part b after ≡ Some rest → length rest < length bytes
  unfolding named_operation_read
  ops_progress made bytes b after rest e o =
      let g = and_then (named_operation_read scope part made.1 bytes) (λ (op : Operation × List ℕ). Ok ((made.0 ++ op.0 ∷ [], op.0.name), op.1)) (b, after) e in
      let a = and_then (operation_word_read made.1 bytes) (λ (word : (List ℕ × Bool) × List ℕ). operation_read scope part word.0.0 word.0.1 word.1) g.0 g.1 in
      let same : ((made.0 ++ g.0.0 ∷ [], g.0.0.name), g.0.1) ≡ (b, after) = ok_same (Ok ((made.0 ++ g.0.0 ∷ [], g.0.0.name), g.0.1)) ((made.0 ++ g.0.0 ∷ [], g.0.0.name), g.0.1) (b, after) refl g.2 in
      let rest_of : length g.0.1 ≡ length after = ap (λ (x : (List Operation × List ℕ) × List ℕ). length x.1) same in
      omega (arith, word_shrinks made.1 bytes a.0 a.1, left_ok (operation_read scope part a.0.0.0 a.0.0.1 a.0.1) g.0 a.2, (operation_local a.0.0.0 a.0.0.1).bound a.0.1, rest_of, ap length (same_rest (not (has_later b.1) || not (begins_with 59 after)) after rest o))

  operations_local : Local (suc m) (suc n) (operations_read scope part) (operations_read scope other)
  unfolding operations_read
  operations_local = then_on (λ x b. Ok (x.0, b)) (λ x b. Ok (x.0, b)) (λ bytes. several (operations_step scope part) (operations_next scope part) (length bytes) ([], []) bytes) (λ bytes. several (operations_step scope other) (operations_next scope other) (length bytes) ([], []) bytes) (suc m) (suc n)
      (rows_local (operations_step scope part) (operations_step scope other) (operations_next scope part) ops_next_local (suc m) (suc n) ops_step_local ops_progress ([], [])) (λ x. just (suc m) (suc n) x.0)

  pub form_local : Local (suc m) (suc n) (cluster_form_read scope part) (cluster_form_read scope other)
  unfolding cluster_form_read
  form_local =
      then_on (λ ds b. literal_at (codes "is") b >>= λ rest. operations_read scope part rest >>= λ ops. Ok (cluster ds ops.0, ops.1)) (λ ds b. literal_at (codes "is") b >>= λ rest. operations_read scope other rest >>= λ ops. Ok (cluster ds ops.0, ops.1)) (all_demands_read scope part) (all_demands_read scope other) (suc m) (suc n) all_demands_local
      (λ ds. fixed_then (λ b. operations_read scope part b >>= λ ops. Ok (cluster ds ops.0, ops.1)) (λ b. operations_read scope other b >>= λ ops. Ok (cluster ds ops.0, ops.1)) (codes "is") (suc m) (suc n) (suc m) (suc n) (omega arith) (omega arith)
      (then_on (λ ops b. Ok (cluster ds ops, b)) (λ ops b. Ok (cluster ds ops, b)) (operations_read scope part) (operations_read scope other) (suc m) (suc n) operations_local (λ ops. just (suc m) (suc n) (cluster ds ops))))
