-- Specifications: what was read is of the grammar, and spelled by the bytes that were read.
use Rattle.std.proofs.Common.{◌≡◌, ℕ, ◌+◌, ◌<◌, ◌≤◌, ◌⊎◌, ◌==◌, nat_le, not, ◌||◌, Bool, true, false, List, [], ◌∷◌, ◌++◌, length, codes, decimal, flat_map, Some, None, Result, Ok, Err, if◌then◌else◌, refl, sym, ap, subst, ◌∙◌, arith, append_assoc, append-nil, inl, inr}
use Rattle.std.specs.Str.{bytes_eq}
use Rattle.std.proofs.lemmas.Bool.{cases_Bool, eqb-true}
use Rattle.std.proofs.lemmas.Option.{same_Some, none-some}
use Rattle.clu_types.specs.declared.spec.ParamKind.{ParamKind}
use Rattle.clu_types.specs.CluType.{CluType, CluTypes, Signals}
use Rattle.clu_specs.specs.declared.scope.Sort.TheVariants as sort
use Rattle.clu_specs.specs.declared.scope.Scope.{Scope}
use Rattle.clu_specs.specs.Reading.{◌>>=◌, Read, literal_at, behind, begins_with, several, end_at}
use Rattle.clu_specs.specs.Names.{is_before, has_later, name_after}
use Rattle.clu_specs.specs.Scopes.{last_in, number_at, scope_of}
use Rattle.clu_specs.specs.Texts.{heading_text}
use Rattle.clu_specs.specs.TypeReading.{Reader, type_read, heading_read}
use Rattle.clu_specs.specs.Seen.{Demanded, Operation, Shape, routine, cluster, Specification, kinds_text, demand_text, demands_text, routine_word, routine_text, op_text, shape_text, spec_text}
use Rattle.clu_specs.specs.SpecReading.{routine_word_read, parameters_read, least_behind, asked_read, demand_read, demands_step, demands_next, demands_read, all_demands_read, operation_read, operation_word_read, named_operation_read, operations_step, operations_next, operations_read, cluster_form_read, routine_read, cluster_read, whole_spec}
use Rattle.clu_specs.specs.Grammar.{IsName, IsParameter, IsType, AreDemands, IsOperation, AreOperations, IsShape, IsSpecification}
use Rattle.clu_specs.proofs.Outcomes.{and_then, ok_same, not_refused, either, literal_spelled, closed_spelled, ended_spelled, row_spelled}
use Rattle.clu_specs.proofs.Spelled.{name_read, parameter_number}
use Rattle.clu_specs.proofs.TypesSpelled.{Sound, heading_spelled}
use Rattle.clu_specs.proofs.ActualsSpelled.{type_spelled}
use Rattle.clu_specs.proofs.KindsSpelled.{more, listed, led, listed_joined, led_text, differs, joined_some, word_spelled, tested, parameters_spelled}

-- demands
abbrev pub Follows : ℕ → List ℕ → ℕ → List ℕ → Type 0
Follows param name asked op = (param < asked) ⊎ ((param ≡ asked) × (is_before name op ≡ true))

-- the parameter and the name of the last, after those of the one before
abbrev pub last_demand : ℕ → List ℕ → List Demanded → ℕ × List ℕ
last_demand param name [] = (param, name)
last_demand param name (d ∷ ds) = last_demand d.param d.op ds

pub last_demand_joined : (ds : List Demanded) (param : ℕ) (name : List ℕ) (d : Demanded) → last_demand param name (ds ++ d ∷ []) ≡ (d.param, d.op)
last_demand_joined [] param name d = refl
last_demand_joined (x ∷ ds) param name d = last_demand_joined ds x.param x.op d

module _ (scope : Scope) where
  pub demands_joined : (ds : List Demanded) (param : ℕ) (name : List ℕ) (d : Demanded) → AreDemands scope param name ds → IsParameter scope sort.Type d.param → IsName 200 d.op
      → Follows (last_demand param name ds).0 (last_demand param name ds).1 d.param d.op → IsType scope d.wanted → AreDemands scope param name (ds ++ d ∷ [])
  demands_joined [] param name d are is named f typed = (is, named, f, typed, tt)
  demands_joined (x ∷ ds) param name d are is named f typed = (are.0, are.1, are.2, are.3, demands_joined ds x.param x.op d are.4 is named f typed)

  pub record AskedRead (param : ℕ) (previous bytes : List ℕ) (asked : ℕ) (name rest : List ℕ) : Type 0 where
    pub is : IsParameter scope sort.Type asked
    pub named : IsName 200 name
    pub follows : Follows param previous asked name
    pub spelled : bytes ≡ (35 ∷ decimal asked) ++ (codes " has " ++ (name ++ 58 ∷ rest))

  pub at_least : (param asked : ℕ) (previous : List ℕ) → least_behind param previous ≤ asked → param ≤ asked
  at_least param asked previous le = elim (cases_Bool (has_later previous)) [
    | inl holds ↦ (let h : param ≤ asked = rw holds at le in h)
    | inr fails ↦ (let h : param + 1 ≤ asked = rw fails at le in omega (arith, h))
  ]

  pub above : (param asked : ℕ) → param ≤ asked → (asked < param) ⊎ (param < asked) → param < asked
  above param asked le (inl less) = absurd (omega (arith, le, less))
  above param asked le (inr less) = less

  pub follows_by : (param asked : ℕ) (previous name : List ℕ) → param ≤ asked → is_before (if asked == param then previous else []) name ≡ true → Follows param previous asked name
  follows_by param asked previous name le b = elim (cases_Bool (asked == param)) [
    | inl holds ↦ inr (sym (eqb-true asked param holds), rw holds at b)
    | inr fails ↦ inl (above param asked le (differs asked param fails))
  ]

  pub asked_spelled : (param : ℕ) (previous bytes : List ℕ) (asked : ℕ) (name rest : List ℕ) → asked_read scope param previous bytes ≡ Ok ((asked, name), rest) → AskedRead param previous bytes asked name rest
  unfolding asked_read
  asked_spelled param previous bytes asked name rest e =
      let y : (ℕ × List ℕ) × List ℕ = ((asked, name), rest) in
      let a = and_then (literal_at (35 ∷ []) bytes) (λ (rest : List ℕ). number_at scope sort.Type (least_behind param previous) rest >>= λ asked. literal_at (codes " has ") asked.1 >>= λ rest. name_after (if asked.0 == param then previous else []) 200 rest >>= λ name. literal_at (58 ∷ []) name.1 >>= λ rest. Ok ((asked.0, name.0), rest)) y e in
      let b = and_then (number_at scope sort.Type (least_behind param previous) a.0) (λ (asked : ℕ × List ℕ). literal_at (codes " has ") asked.1 >>= λ rest. name_after (if asked.0 == param then previous else []) 200 rest >>= λ name. literal_at (58 ∷ []) name.1 >>= λ rest. Ok ((asked.0, name.0), rest)) y a.2 in
      let n : ℕ = b.0.0 in
      let c = and_then (literal_at (codes " has ") b.0.1) (λ (rest : List ℕ). name_after (if n == param then previous else []) 200 rest >>= λ name. literal_at (58 ∷ []) name.1 >>= λ rest. Ok ((n, name.0), rest)) y b.2 in
      let d = and_then (name_after (if n == param then previous else []) 200 c.0) (λ (name : List ℕ × List ℕ). literal_at (58 ∷ []) name.1 >>= λ rest. Ok ((n, name.0), rest)) y c.2 in
      let op : List ℕ = d.0.0 in
      let f = closed_spelled 58 (n, op) d.0.1 (asked, name) rest d.2 in
      let number = parameter_number scope sort.Type (least_behind param previous) a.0 n b.0.1 b.1 in
      let named = name_read (if n == param then previous else []) 200 c.0 op d.0.1 d.1 in
      let text : bytes ≡ (35 ∷ decimal n) ++ (codes " has " ++ (op ++ 58 ∷ rest)) =
      literal_spelled (35 ∷ []) bytes a.0 a.1 ∙ ap (λ (x : List ℕ). 35 ∷ x) (number.spelled ∙ ap (λ (x : List ℕ). decimal n ++ x) (literal_spelled (codes " has ") b.0.1 c.0 c.1 ∙ ap (λ (x : List ℕ). codes " has " ++ x) (named.spelled ∙ ap (λ (x : List ℕ). op ++ x) f.1))) in
      subst (λ (x : ℕ × List ℕ). AskedRead param previous bytes x.0 x.1 rest) f.0
      (record { is = number.is; named = named.is; follows = follows_by param n previous op (at_least param n previous number.after) named.after; spelled = text })

module _ (scope : Scope) (part : Reader CluType) (sound : Sound scope part) where
  abbrev pub State : Type 0
  State = List Demanded × ℕ × List ℕ

  pub record DemandsAfter (whole : List ℕ) (made : State) (rest : List ℕ) : Type 0 where
    pub are : AreDemands scope 0 [] made.0
    pub last : last_demand 0 [] made.0 ≡ (made.1, made.2)
    pub some : 0 < length made.0
    pub spelled : whole ≡ listed demand_text made.0 ++ rest

  pub record DemandsBefore (whole : List ℕ) (made : State) (rest : List ℕ) : Type 0 where
    pub are : AreDemands scope 0 [] made.0
    pub last : last_demand 0 [] made.0 ≡ (made.1, made.2)
    pub spelled : whole ≡ led demand_text made.0 ++ rest

  pub record DemandRead (param : ℕ) (previous bytes : List ℕ) (d : Demanded) (rest : List ℕ) : Type 0 where
    pub is : IsParameter scope sort.Type d.param
    pub named : IsName 200 d.op
    pub follows : Follows param previous d.param d.op
    pub typed : IsType scope d.wanted
    pub spelled : bytes ≡ demand_text d ++ rest

  pub demand_spelled : (param : ℕ) (previous bytes : List ℕ) (d : Demanded) (rest : List ℕ) → demand_read scope part param previous bytes ≡ Ok (d, rest) → DemandRead param previous bytes d rest
  unfolding demand_read
  demand_spelled param previous bytes d rest e =
      let h = and_then (asked_read scope param previous bytes) (λ (asked : (ℕ × List ℕ) × List ℕ). part asked.1 >>= λ t. Ok (record { param = asked.0.0; op = asked.0.1; wanted = t.0 }, t.1)) (d, rest) e in
      let g = and_then (part h.0.1) (λ (t : CluType × List ℕ). Ok (record { param = h.0.0.0; op = h.0.0.1; wanted = t.0 }, t.1)) (d, rest) h.2 in
      let made : Demanded = record { param = h.0.0.0; op = h.0.0.1; wanted = g.0.0 } in
      let asked = asked_spelled scope param previous bytes made.param made.op h.0.1 h.1 in
      let read = sound h.0.1 made.wanted g.0.1 g.1 in
      let now : Demanded × List ℕ = (made, g.0.1) in
      let text : bytes ≡ demand_text made ++ g.0.1 = asked.spelled ∙ ap (λ (x : List ℕ). (35 ∷ decimal made.param) ++ (codes " has " ++ (made.op ++ 58 ∷ x))) read.spelled ∙ simp append_assoc in
      subst (λ (x : Demanded × List ℕ). DemandRead param previous bytes x.0 x.1) (ok_same (Ok now) now (d, rest) refl g.2)
      (record { is = asked.is; named = asked.named; follows = asked.follows; typed = read.is; spelled = text })

  pub demands_on : (whole : List ℕ) (made : State) (bytes : List ℕ) (all : State) (after : List ℕ) → DemandsBefore whole made bytes → demands_step scope part made bytes ≡ Ok (all, after) → DemandsAfter whole all after
  demands_on whole made bytes all after b e =
      let h = and_then (demand_read scope part made.1 made.2 bytes) (λ (d : Demanded × List ℕ). Ok ((made.0 ++ d.0 ∷ [], d.0.param, d.0.op), d.1)) (all, after) e in
      let d : Demanded = h.0.0 in
      let read = demand_spelled made.1 made.2 bytes d h.0.1 h.1 in
      let now : State × List ℕ = ((made.0 ++ d ∷ [], d.param, d.op), h.0.1) in
      let follows : Follows (last_demand 0 [] made.0).0 (last_demand 0 [] made.0).1 d.param d.op = subst (λ (p : ℕ × List ℕ). Follows p.0 p.1 d.param d.op) (sym b.last) read.follows in
      subst (λ (x : State × List ℕ). DemandsAfter whole x.0 x.1) (ok_same (Ok now) now (all, after) refl h.2)
      (record {
        are = demands_joined scope made.0 0 [] d b.are read.is read.named follows read.typed;
        last = last_demand_joined made.0 0 [] d;
        some = joined_some made.0 d;
        spelled = b.spelled ∙ ap (λ (x : List ℕ). led demand_text made.0 ++ x) read.spelled ∙ sym (listed_joined demand_text made.0 d h.0.1);
      })

  pub demands_more : (whole : List ℕ) (made : State) (bytes rest : List ℕ) → DemandsAfter whole made bytes → demands_next scope part made bytes ≡ Some rest → DemandsBefore whole made rest
  demands_more whole made bytes rest r e =
      let h = tested (nat_le (least_behind made.1 made.2) (last_in scope sort.Type)) bytes rest e in
      record { are = r.are; last = r.last; spelled = r.spelled ∙ ap (λ (x : List ℕ). listed demand_text made.0 ++ x) h.1 ∙ led_text demand_text made.0 rest r.some }

  pub record DemandsRead (whole : List ℕ) (ds : List Demanded) (rest : List ℕ) : Type 0 where
    pub are : AreDemands scope 0 [] ds
    pub some : 0 < length ds
    pub spelled : whole ≡ listed demand_text ds ++ rest

  pub demands_spelled : (bytes : List ℕ) (ds : List Demanded) (rest : List ℕ) → demands_read scope part bytes ≡ Ok (ds, rest) → DemandsRead bytes ds rest
  unfolding demands_read
  demands_spelled bytes ds rest e =
      let h = and_then (several (demands_step scope part) (demands_next scope part) (length bytes) ([], 0, []) bytes) (λ (x : State × List ℕ). Ok (x.0.0, x.1)) (ds, rest) e in
      let r = row_spelled (demands_step scope part) (demands_next scope part) (DemandsBefore bytes) (DemandsAfter bytes) (demands_on bytes) (demands_more bytes) (length bytes) ([], 0, []) bytes h.0.0 h.0.1 (record { are = tt; last = refl; spelled = refl }) h.1 in
      let now : List Demanded × List ℕ = (h.0.0.0, h.0.1) in
      subst (λ (x : List Demanded × List ℕ). DemandsRead bytes x.0 x.1) (ok_same (Ok now) now (ds, rest) refl h.2) (record { are = r.are; some = r.some; spelled = r.spelled })

  pub demands_shown : (ds : List Demanded) (rest : List ℕ) → 0 < length ds → codes " where " ++ (listed demand_text ds ++ 32 ∷ rest) ≡ demands_text ds ++ rest
  demands_shown [] rest some = absurd (omega (arith, some))
  demands_shown (d ∷ ds) rest some = ap (λ (x : List ℕ). codes " where " ++ x) (sym (append_assoc (demand_text d ++ more demand_text ds) (32 ∷ []) rest))

  pub all_demands_spelled : (bytes : List ℕ) (ds : List Demanded) (rest : List ℕ) → all_demands_read scope part bytes ≡ Ok (ds, rest) → AreDemands scope 0 [] ds × (bytes ≡ demands_text ds ++ rest)
  unfolding all_demands_read
  all_demands_spelled bytes ds rest e =
      let by : List ℕ → Read (List Demanded) = λ (rest : List ℕ). demands_read scope part rest >>= λ ds. literal_at (32 ∷ []) ds.1 >>= λ rest. Ok (ds.0, rest) in
      elim (either (not (begins_with 32 bytes) || not (nat_le 1 (last_in scope sort.Type))) (Ok ([], bytes)) (literal_at (codes " where ") bytes >>= by) (Ok (ds, rest)) e) [
        | inl q ↦ (let now : List Demanded × List ℕ = ([], bytes) in
            subst (λ (x : List Demanded × List ℕ). AreDemands scope 0 [] x.0 × (bytes ≡ demands_text x.0 ++ x.1)) (ok_same (Ok now) now (ds, rest) refl q.1) (tt, refl))
        | inr q ↦ (let a = and_then (literal_at (codes " where ") bytes) by (ds, rest) q.1 in
            let b = and_then (demands_read scope part a.0) (λ (ds : List Demanded × List ℕ). literal_at (32 ∷ []) ds.1 >>= λ rest. Ok (ds.0, rest)) (ds, rest) a.2 in
            let c = closed_spelled 32 b.0.0 b.0.1 ds rest b.2 in
            let read = demands_spelled a.0 b.0.0 b.0.1 b.1 in
            let text : bytes ≡ demands_text b.0.0 ++ rest =
            literal_spelled (codes " where ") bytes a.0 a.1 ∙ ap (λ (x : List ℕ). codes " where " ++ x) (read.spelled ∙ ap (λ (x : List ℕ). listed demand_text b.0.0 ++ x) c.1) ∙ demands_shown b.0.0 rest read.some in
            subst (λ (x : List Demanded). AreDemands scope 0 [] x × (bytes ≡ demands_text x ++ rest)) c.0 (read.are, text))
      ]

  -- routines
  pub record OperationRead (name : List ℕ) (iter : Bool) (bytes : List ℕ) (op : Operation) (rest : List ℕ) : Type 0 where
    pub is : IsOperation scope op
    pub named : op.name ≡ name
    pub kind : op.iter ≡ iter
    pub spelled : bytes ≡ routine_text op ++ rest

  pub operation_spelled : (name : List ℕ) (iter : Bool) (bytes : List ℕ) (op : Operation) (rest : List ℕ) → operation_read scope part name iter bytes ≡ Ok (op, rest) → OperationRead name iter bytes op rest
  unfolding operation_read
  operation_spelled name iter bytes op rest e =
      let a = and_then (heading_read part iter bytes) (λ (h : (CluTypes × CluTypes × Signals) × List ℕ). all_demands_read scope part h.1 >>= λ ds. Ok (record { name = name; iter = iter; args = h.0.0; results = h.0.1; signals = h.0.2; demands = ds.0 }, ds.1)) (op, rest) e in
      let h : CluTypes × CluTypes × Signals = a.0.0 in
      let b = and_then (all_demands_read scope part a.0.1) (λ (ds : List Demanded × List ℕ). Ok (record { name = name; iter = iter; args = h.0; results = h.1; signals = h.2; demands = ds.0 }, ds.1)) (op, rest) a.2 in
      let heading = heading_spelled scope part sound iter bytes h.0 h.1 h.2 a.0.1 a.1 in
      let demands = all_demands_spelled a.0.1 b.0.0 b.0.1 b.1 in
      let made : Operation = record { name = name; iter = iter; args = h.0; results = h.1; signals = h.2; demands = b.0.0 } in
      let now : Operation × List ℕ = (made, b.0.1) in
      subst (λ (x : Operation × List ℕ). OperationRead name iter bytes x.0 x.1) (ok_same (Ok now) now (op, rest) refl b.2)
      (record {
        is = (heading.args_are, heading.results_are, heading.signals_are, demands.0);
        named = refl;
        kind = refl;
        spelled = heading.spelled ∙ ap (λ (x : List ℕ). heading_text iter h.0 h.1 h.2 ++ x) demands.1 ∙ sym (append_assoc (heading_text iter h.0 h.1 h.2) (demands_text b.0.0) b.0.1);
      })

  -- operations
  pub record WordRead (previous bytes name : List ℕ) (iter : Bool) (rest : List ℕ) : Type 0 where
    pub is : IsName 200 name
    pub after : is_before previous name ≡ true
    pub spelled : bytes ≡ 59 ∷ (name ++ 58 ∷ (routine_word iter ++ rest))

  pub operation_word_spelled : (previous bytes name : List ℕ) (iter : Bool) (rest : List ℕ) → operation_word_read previous bytes ≡ Ok ((name, iter), rest) → WordRead previous bytes name iter rest
  unfolding operation_word_read
  operation_word_spelled previous bytes name iter rest e =
      let y : (List ℕ × Bool) × List ℕ = ((name, iter), rest) in
      let a = and_then (literal_at (59 ∷ []) bytes) (λ (rest : List ℕ). name_after previous 200 rest >>= λ name. literal_at (58 ∷ []) name.1 >>= λ rest. routine_word_read rest >>= λ iter. Ok ((name.0, iter.0), iter.1)) y e in
      let b = and_then (name_after previous 200 a.0) (λ (name : List ℕ × List ℕ). literal_at (58 ∷ []) name.1 >>= λ rest. routine_word_read rest >>= λ iter. Ok ((name.0, iter.0), iter.1)) y a.2 in
      let c = and_then (literal_at (58 ∷ []) b.0.1) (λ (rest : List ℕ). routine_word_read rest >>= λ iter. Ok ((b.0.0, iter.0), iter.1)) y b.2 in
      let d = and_then (routine_word_read c.0) (λ (iter : Bool × List ℕ). Ok ((b.0.0, iter.0), iter.1)) y c.2 in
      let named = name_read previous 200 a.0 b.0.0 b.0.1 b.1 in
      let now : (List ℕ × Bool) × List ℕ = ((b.0.0, d.0.0), d.0.1) in
      let text : bytes ≡ 59 ∷ (b.0.0 ++ 58 ∷ (routine_word d.0.0 ++ d.0.1)) =
      literal_spelled (59 ∷ []) bytes a.0 a.1 ∙ ap (λ (x : List ℕ). 59 ∷ x) (named.spelled ∙ ap (λ (x : List ℕ). b.0.0 ++ x) (literal_spelled (58 ∷ []) b.0.1 c.0 c.1 ∙ ap (λ (x : List ℕ). 58 ∷ x) (word_spelled c.0 d.0.0 d.0.1 d.1))) in
      subst (λ (x : (List ℕ × Bool) × List ℕ). WordRead previous bytes x.0.0 x.0.1 x.1) (ok_same (Ok now) now y refl d.2) (record { is = named.is; after = named.after; spelled = text })

  abbrev pub last_name : List ℕ → List Operation → List ℕ
  last_name before [] = before
  last_name before (op ∷ ops) = last_name op.name ops

  pub last_name_joined : (ops : List Operation) (before : List ℕ) (op : Operation) → last_name before (ops ++ op ∷ []) ≡ op.name
  last_name_joined [] before op = refl
  last_name_joined (x ∷ ops) before op = last_name_joined ops x.name op

  pub operations_joined : (ops : List Operation) (before : List ℕ) (op : Operation) → AreOperations scope before ops → IsName 200 op.name → is_before (last_name before ops) op.name ≡ true → IsOperation scope op → AreOperations scope before (ops ++ op ∷ [])
  operations_joined [] before op are named after is = (named, after, is, tt)
  operations_joined (x ∷ ops) before op are named after is = (are.0, are.1, are.2, operations_joined ops x.name op are.3 named after is)

  pub ops_joined_text : (ops : List Operation) (op : Operation) (rest : List ℕ) → flat_map op_text (ops ++ op ∷ []) ++ rest ≡ flat_map op_text ops ++ (op_text op ++ rest)
  ops_joined_text [] op rest = ap (λ (x : List ℕ). x ++ rest) (append-nil (op_text op))
  ops_joined_text (x ∷ ops) op rest =
      append_assoc (op_text x) (flat_map op_text (ops ++ op ∷ [])) rest ∙ ap (λ (t : List ℕ). op_text x ++ t) (ops_joined_text ops op rest) ∙ sym (append_assoc (op_text x) (flat_map op_text ops) (op_text op ++ rest))

  -- with the name of the last
  pub record OpsBefore (whole : List ℕ) (made : List Operation × List ℕ) (rest : List ℕ) : Type 0 where
    pub are : AreOperations scope [] made.0
    pub last : last_name [] made.0 ≡ made.1
    pub spelled : whole ≡ flat_map op_text made.0 ++ rest

  pub record OpsAfter (whole : List ℕ) (made : List Operation × List ℕ) (rest : List ℕ) : Type 0 where
    pub before : OpsBefore whole made rest
    pub some : 0 < length made.0

  pub record NamedRead (previous bytes : List ℕ) (op : Operation) (rest : List ℕ) : Type 0 where
    pub is : IsOperation scope op
    pub named : IsName 200 op.name
    pub after : is_before previous op.name ≡ true
    pub spelled : bytes ≡ op_text op ++ rest

  pub named_operation_spelled : (previous bytes : List ℕ) (op : Operation) (rest : List ℕ) → named_operation_read scope part previous bytes ≡ Ok (op, rest) → NamedRead previous bytes op rest
  unfolding named_operation_read
  named_operation_spelled previous bytes op rest e =
      let a = and_then (operation_word_read previous bytes) (λ (word : (List ℕ × Bool) × List ℕ). operation_read scope part word.0.0 word.0.1 word.1) (op, rest) e in
      let name : List ℕ = a.0.0.0 in
      let iter : Bool = a.0.0.1 in
      let word = operation_word_spelled previous bytes name iter a.0.1 a.1 in
      let read = operation_spelled name iter a.0.1 op rest a.2 in
      let same : 59 ∷ (name ++ 58 ∷ (routine_word iter ++ (routine_text op ++ rest))) ≡ op_text op ++ rest =
      ap (λ (x : List ℕ). 59 ∷ (x ++ 58 ∷ (routine_word iter ++ (routine_text op ++ rest)))) (sym read.named) ∙ ap (λ (x : Bool). 59 ∷ (op.name ++ 58 ∷ (routine_word x ++ (routine_text op ++ rest)))) (sym read.kind) ∙ simp append_assoc in
      record {
        is = read.is;
        named = subst (IsName 200) (sym read.named) word.is;
        after = ap (is_before previous) read.named ∙ word.after;
        spelled = word.spelled ∙ ap (λ (x : List ℕ). 59 ∷ (name ++ 58 ∷ (routine_word iter ++ x))) read.spelled ∙ same;
      }

  pub ops_on : (whole : List ℕ) (made : List Operation × List ℕ) (bytes : List ℕ) (all : List Operation × List ℕ) (after : List ℕ) → OpsBefore whole made bytes → operations_step scope part made bytes ≡ Ok (all, after) → OpsAfter whole all after
  ops_on whole made bytes all after b e =
      let g = and_then (named_operation_read scope part made.1 bytes) (λ (op : Operation × List ℕ). Ok ((made.0 ++ op.0 ∷ [], op.0.name), op.1)) (all, after) e in
      let op : Operation = g.0.0 in
      let read = named_operation_spelled made.1 bytes op g.0.1 g.1 in
      let now : (List Operation × List ℕ) × List ℕ = ((made.0 ++ op ∷ [], op.name), g.0.1) in
      let follows : is_before (last_name [] made.0) op.name ≡ true = rw b.last read.after in
      subst (λ (x : (List Operation × List ℕ) × List ℕ). OpsAfter whole x.0 x.1) (ok_same (Ok now) now (all, after) refl g.2)
      (record {
        before = record {
          are = operations_joined made.0 [] op b.are read.named follows read.is;
          last = last_name_joined made.0 [] op;
          spelled = b.spelled ∙ ap (λ (x : List ℕ). flat_map op_text made.0 ++ x) read.spelled ∙ sym (ops_joined_text made.0 op g.0.1);
        };
        some = joined_some made.0 op;
      })

  pub next_is : (stop : Bool) (bytes rest : List ℕ) → (if stop then None else Some bytes) ≡ Some rest → bytes ≡ rest
  next_is true bytes rest e = absurd (none-some rest e)
  next_is false bytes rest e = same_Some bytes rest e

  pub ops_more : (whole : List ℕ) (made : List Operation × List ℕ) (bytes rest : List ℕ) → OpsAfter whole made bytes → operations_next scope part made bytes ≡ Some rest → OpsBefore whole made rest
  ops_more whole made bytes rest r e = subst (OpsBefore whole made) (next_is (not (has_later made.1) || not (begins_with 59 bytes)) bytes rest e) r.before

  pub record OperationsRead (whole : List ℕ) (ops : List Operation) (rest : List ℕ) : Type 0 where
    pub are : AreOperations scope [] ops
    pub some : 0 < length ops
    pub spelled : whole ≡ flat_map op_text ops ++ rest

  pub operations_spelled : (bytes : List ℕ) (ops : List Operation) (rest : List ℕ) → operations_read scope part bytes ≡ Ok (ops, rest) → OperationsRead bytes ops rest
  unfolding operations_read
  operations_spelled bytes ops rest e =
      let h = and_then (several (operations_step scope part) (operations_next scope part) (length bytes) ([], []) bytes) (λ (x : (List Operation × List ℕ) × List ℕ). Ok (x.0.0, x.1)) (ops, rest) e in
      let r = row_spelled (operations_step scope part) (operations_next scope part) (OpsBefore bytes) (OpsAfter bytes) (ops_on bytes) (ops_more bytes) (length bytes) ([], []) bytes h.0.0 h.0.1 (record { are = tt; last = refl; spelled = refl }) h.1 in
      let now : List Operation × List ℕ = (h.0.0.0, h.0.1) in
      subst (λ (x : List Operation × List ℕ). OperationsRead bytes x.0 x.1) (ok_same (Ok now) now (ops, rest) refl h.2) (record { are = r.before.are; some = r.some; spelled = r.before.spelled })

  -- the demands and operations of a cluster
  pub record ShapeRead (whole : List ℕ) (shape : Shape) (rest : List ℕ) : Type 0 where
    pub demands : List Demanded
    pub ops : List Operation
    pub shaped : shape ≡ cluster demands ops
    pub are_demands : AreDemands scope 0 [] demands
    pub some : 0 < length ops
    pub are_ops : AreOperations scope [] ops
    pub spelled : whole ≡ demands_text demands ++ (codes "is" ++ (flat_map op_text ops ++ rest))

  pub form_spelled : (bytes : List ℕ) (shape : Shape) (rest : List ℕ) → cluster_form_read scope part bytes ≡ Ok (shape, rest) → ShapeRead bytes shape rest
  unfolding cluster_form_read
  form_spelled bytes shape rest e =
      let a = and_then (all_demands_read scope part bytes) (λ (ds : List Demanded × List ℕ). literal_at (codes "is") ds.1 >>= λ rest. operations_read scope part rest >>= λ ops. Ok (cluster ds.0 ops.0, ops.1)) (shape, rest) e in
      let b = and_then (literal_at (codes "is") a.0.1) (λ (rest : List ℕ). operations_read scope part rest >>= λ ops. Ok (cluster a.0.0 ops.0, ops.1)) (shape, rest) a.2 in
      let c = and_then (operations_read scope part b.0) (λ (ops : List Operation × List ℕ). Ok (cluster a.0.0 ops.0, ops.1)) (shape, rest) b.2 in
      let demands = all_demands_spelled bytes a.0.0 a.0.1 a.1 in
      let ops = operations_spelled b.0 c.0.0 c.0.1 c.1 in
      let now : Shape × List ℕ = (cluster a.0.0 c.0.0, c.0.1) in
      subst (λ (x : Shape × List ℕ). ShapeRead bytes x.0 x.1) (ok_same (Ok now) now (shape, rest) refl c.2)
      (record {
        demands = a.0.0;
        ops = c.0.0;
        shaped = refl;
        are_demands = demands.0;
        some = ops.some;
        are_ops = ops.are;
        spelled = demands.1 ∙ ap (λ (x : List ℕ). demands_text a.0.0 ++ x) (literal_spelled (codes "is") a.0.1 b.0 b.1 ∙ ap (λ (x : List ℕ). codes "is" ++ x) ops.spelled);
      })

-- whole specifications, after their names
pub record BodyRead (name bytes : List ℕ) (s : Specification) : Type 0 where
  pub named : s.name ≡ name
  pub few : length s.kinds ≤ 4294967295
  pub shaped : IsShape (scope_of s.kinds) name s.shape
  pub spelled : 61 ∷ bytes ≡ shape_text s.kinds s.shape

pub routine_spelled : (name : List ℕ) (depth : ℕ) (bytes : List ℕ) (s : Specification) → routine_read name depth bytes ≡ Ok s → BodyRead name bytes s
unfolding routine_read
routine_spelled name depth bytes s e =
    let a = and_then (routine_word_read bytes) (λ (iter : Bool × List ℕ). parameters_read iter.1 >>= λ kinds. operation_read (scope_of kinds.0) (type_read (scope_of kinds.0) depth) name iter.0 kinds.1 >>= λ op. end_at (record { name = name; kinds = kinds.0; shape = routine op.0 }) op.1) s e in
    let iter : Bool = a.0.0 in
    let b = and_then (parameters_read a.0.1) (λ (kinds : List ParamKind × List ℕ). operation_read (scope_of kinds.0) (type_read (scope_of kinds.0) depth) name iter kinds.1 >>= λ op. end_at (record { name = name; kinds = kinds.0; shape = routine op.0 }) op.1) s a.2 in
    let kinds : List ParamKind = b.0.0 in
    let c = and_then (operation_read (scope_of kinds) (type_read (scope_of kinds) depth) name iter b.0.1) (λ (op : Operation × List ℕ). end_at (record { name = name; kinds = kinds; shape = routine op.0 }) op.1) s b.2 in
    let op : Operation = c.0.0 in
    let made : Specification = record { name = name; kinds = kinds; shape = routine op } in
    let ended = ended_spelled made c.0.1 s c.2 in
    let word = word_spelled bytes iter a.0.1 a.1 in
    let parameters = parameters_spelled (behind 91 a.0.1) a.0.1 kinds b.0.1 refl b.1 in
    let read = operation_spelled (scope_of kinds) (type_read (scope_of kinds) depth) (type_spelled (scope_of kinds) depth) name iter b.0.1 op c.0.1 c.1 in
    let body : b.0.1 ≡ routine_text op = read.spelled ∙ ap (λ (x : List ℕ). routine_text op ++ x) ended.1 ∙ append-nil (routine_text op) in
    let text : bytes ≡ routine_word op.iter ++ (kinds_text kinds ++ routine_text op) =
    word ∙ ap (λ (x : List ℕ). routine_word iter ++ x) (parameters.1 ∙ ap (λ (x : List ℕ). kinds_text kinds ++ x) body) ∙ ap (λ (x : Bool). routine_word x ++ (kinds_text kinds ++ routine_text op)) (sym read.kind) in
    subst (BodyRead name bytes) ended.0 (record { named = refl; few = parameters.0; shaped = (read.named, read.is); spelled = ap (λ (x : List ℕ). 61 ∷ x) text })

pub cluster_spelled : (name : List ℕ) (depth : ℕ) (bytes : List ℕ) (s : Specification) → cluster_read name depth bytes ≡ Ok s → BodyRead name bytes s
unfolding cluster_read
cluster_spelled name depth bytes s e =
    let a = and_then (literal_at (codes "cluster") bytes) (λ (rest : List ℕ). parameters_read rest >>= λ kinds. cluster_form_read (scope_of kinds.0) (type_read (scope_of kinds.0) depth) kinds.1 >>= λ shape. end_at (record { name = name; kinds = kinds.0; shape = shape.0 }) shape.1) s e in
    let b = and_then (parameters_read a.0) (λ (kinds : List ParamKind × List ℕ). cluster_form_read (scope_of kinds.0) (type_read (scope_of kinds.0) depth) kinds.1 >>= λ shape. end_at (record { name = name; kinds = kinds.0; shape = shape.0 }) shape.1) s a.2 in
    let kinds : List ParamKind = b.0.0 in
    let c = and_then (cluster_form_read (scope_of kinds) (type_read (scope_of kinds) depth) b.0.1) (λ (shape : Shape × List ℕ). end_at (record { name = name; kinds = kinds; shape = shape.0 }) shape.1) s b.2 in
    let parameters = parameters_spelled (behind 91 a.0) a.0 kinds b.0.1 refl b.1 in
    let read = form_spelled (scope_of kinds) (type_read (scope_of kinds) depth) (type_spelled (scope_of kinds) depth) b.0.1 c.0.0 c.0.1 c.1 in
    let made : Specification = record { name = name; kinds = kinds; shape = cluster read.demands read.ops } in
    let ended = ended_spelled (record { name = name; kinds = kinds; shape = c.0.0 }) c.0.1 s c.2 in
    let form : b.0.1 ≡ demands_text read.demands ++ (codes "is" ++ flat_map op_text read.ops) =
    read.spelled ∙ ap (λ (x : List ℕ). demands_text read.demands ++ (codes "is" ++ (flat_map op_text read.ops ++ x))) ended.1 ∙ ap (λ (x : List ℕ). demands_text read.demands ++ (codes "is" ++ x)) (append-nil (flat_map op_text read.ops)) in
    let text : bytes ≡ codes "cluster" ++ (kinds_text kinds ++ (demands_text read.demands ++ (codes "is" ++ flat_map op_text read.ops))) =
    literal_spelled (codes "cluster") bytes a.0 a.1 ∙ ap (λ (x : List ℕ). codes "cluster" ++ x) (parameters.1 ∙ ap (λ (x : List ℕ). kinds_text kinds ++ x) form) in
    let same : made ≡ s = ap (λ (x : Shape). record { name = name; kinds = kinds; shape = x }) (sym read.shaped) ∙ ended.0 in
    subst (BodyRead name bytes) same (record { named = refl; few = parameters.0; shaped = (read.are_demands, read.some, read.are_ops); spelled = ap (λ (x : List ℕ). 61 ∷ x) text })

pub whole_spec_spelled : (bytes : List ℕ) (s : Specification) → whole_spec bytes ≡ Ok s → IsSpecification s × (bytes ≡ spec_text s)
unfolding whole_spec
whole_spec_spelled bytes s e =
    let body : List ℕ → List ℕ → Result Specification ℕ = λ (name rest : List ℕ). if begins_with 99 rest then cluster_read name (length bytes) rest else routine_read name (length bytes) rest in
    let a = and_then (name_after [] 200 bytes) (λ (name : List ℕ × List ℕ). if bytes_eq name.0 (codes "stream") then Err (length name.1) else literal_at (61 ∷ []) name.1 >>= λ rest. body name.0 rest) s e in
    let name : List ℕ = a.0.0 in
    let b = not_refused (bytes_eq name (codes "stream")) (length a.0.1) (literal_at (61 ∷ []) a.0.1 >>= λ rest. body name rest) s a.2 in
    let c = and_then (literal_at (61 ∷ []) a.0.1) (λ (rest : List ℕ). body name rest) s b.1 in
    let named = name_read [] 200 bytes name a.0.1 a.1 in
    let read : BodyRead name c.0 s = elim (either (begins_with 99 c.0) (cluster_read name (length bytes) c.0) (routine_read name (length bytes) c.0) (Ok s) c.2) [
      | inl h ↦ cluster_spelled name (length bytes) c.0 s h.1
      | inr h ↦ routine_spelled name (length bytes) c.0 s h.1
    ] in
    let text : bytes ≡ spec_text s =
    named.spelled ∙ ap (λ (x : List ℕ). name ++ x) (literal_spelled (61 ∷ []) a.0.1 c.0 c.1 ∙ read.spelled) ∙ ap (λ (x : List ℕ). x ++ shape_text s.kinds s.shape) (sym read.named) in (
      record {
        named = subst (IsName 200) (sym read.named) named.is;
        other = ap (λ (x : List ℕ). bytes_eq x (codes "stream")) read.named ∙ b.0;
        few = read.few;
        shaped = subst (λ (x : List ℕ). IsShape (scope_of s.kinds) x s.shape) (sym read.named) read.shaped;
      },
      text,
    )
