-- Specifications: where one is refused, the bytes before that begin one of the grammar.
use Rattle.std.proofs.Common.{◌≡◌, ℕ, ◌<◌, ◌≤◌, ◌⊎◌, not, ◌||◌, Bool, true, false, List, [], ◌∷◌, ◌++◌, length, codes, flat_map, Some, None, Result, Ok, Err, if◌then◌else◌, refl, sym, ap, subst, ◌∙◌, arith, append_assoc, append-nil, inl, inr}
use Rattle.std.specs.Str.{bytes_eq}
use Rattle.std.proofs.lemmas.Bool.{not-false, or_parts}
use Rattle.std.proofs.lemmas.Option.{none-some}
use Rattle.clu_types.specs.declared.spec.ParamKind.{ParamKind}
use Rattle.clu_types.specs.CluType.{CluType, CluTypes, no_types, Signals, no_signals}
use Rattle.clu_specs.specs.declared.scope.Scope.{Scope}
use Rattle.clu_specs.specs.Reading.{◌>>=◌, literal_at, behind, begins_with, several, end_at}
use Rattle.clu_specs.specs.Names.{is_before, has_later, name_after}
use Rattle.clu_specs.specs.Scopes.{scope_of}
use Rattle.clu_specs.specs.Texts.{heading_text}
use Rattle.clu_specs.specs.TypeReading.{Reader, type_read, heading_read}
use Rattle.clu_specs.specs.Seen.{Demanded, Operation, Shape, routine, cluster, Specification, kinds_text, demands_text, routine_word, routine_text, op_text, shape_text, spec_text}
use Rattle.clu_specs.specs.SpecReading.{routine_word_read, parameters_read, all_demands_read, operation_read, operation_word_read, next_operation, named_operation_read, operations_step, operations_next, operations_read, cluster_form_read, routine_read, cluster_read, whole_spec}
use Rattle.clu_specs.specs.Grammar.{IsName, AreDemands, IsOperation, AreOperations, IsShape, IsSpecification}
use Rattle.clu_specs.proofs.Outcomes.{either, literal_spelled}
use Rattle.clu_specs.proofs.Spelled.{name_read}
use Rattle.clu_specs.proofs.TypesSpelled.{Sound, heading_spelled}
use Rattle.clu_specs.proofs.ActualsSpelled.{type_spelled}
use Rattle.clu_specs.proofs.KindsSpelled.{joined_some, word_spelled, parameters_spelled}
use Rattle.clu_specs.proofs.SpecsSpelled.{all_demands_spelled, operation_spelled, operation_word_spelled, last_name, operations_joined, ops_joined_text, OpsBefore, OpsAfter, ops_on, ops_more, form_spelled}
use Rattle.clu_specs.proofs.Fronts.{Front, Fronts, Part, same_left, never, at_once, front_on, front_as, and_fails, shown, shown_on, shown_before, literal_front, ended_front, row_front}
use Rattle.clu_specs.proofs.FrontsNames.{NameBegun, Earlier, earlier_none, OtherBegun, avoiding, read_begun, name_front}
use Rattle.clu_specs.proofs.FrontsNumbers.{spec_leads}
use Rattle.clu_specs.proofs.FrontsTypes.{TypeBegun, first_name, earlier_by, heading_front}
use Rattle.clu_specs.proofs.FrontsActuals.{type_front}
use Rattle.clu_specs.proofs.FrontsRoutines.{word_front, parameters_front, where_front}

-- a routine that takes and gives nothing
abbrev plain : List ℕ → Bool → Operation
plain name iter = record { name = name; iter = iter; args = no_types; results = no_types; signals = no_signals; demands = [] }

-- a routine after its parameters goes on from the bytes
record RoutineBegun (scope : Scope) (name : List ℕ) (iter : Bool) (q : List ℕ) : Type 0 where
  pub op : Operation
  pub rest : List ℕ
  pub is : IsOperation scope op
  pub named : op.name ≡ name
  pub kind : op.iter ≡ iter
  pub spelled : routine_text op ≡ q ++ rest

record OpBegun (scope : Scope) (previous q : List ℕ) : Type 0 where
  pub op : Operation
  pub rest : List ℕ
  pub is : IsOperation scope op
  pub named : IsName 200 op.name
  pub after : is_before previous op.name ≡ true
  pub spelled : op_text op ≡ q ++ rest

record OpsBegun (scope : Scope) (q : List ℕ) : Type 0 where
  pub ops : List Operation
  pub rest : List ℕ
  pub are : AreOperations scope [] ops
  pub some : 0 < length ops
  pub spelled : flat_map op_text ops ≡ q ++ rest

record FormBegun (scope : Scope) (q : List ℕ) : Type 0 where
  pub demands : List Demanded
  pub ops : List Operation
  pub rest : List ℕ
  pub are_demands : AreDemands scope 0 [] demands
  pub some : 0 < length ops
  pub are_ops : AreOperations scope [] ops
  pub spelled : demands_text demands ++ (codes "is" ++ flat_map op_text ops) ≡ q ++ rest

-- the first operation of a cluster
first_op : (scope : Scope) (previous : List ℕ) → Earlier previous → OpBegun scope previous []
first_op scope previous p =
    let n = first_name previous p in
    record { op = plain n.name false; rest = op_text (plain n.name false); is = (tt, tt, tt, tt); named = n.is; after = n.after; spelled = refl }

next_name : (name bytes rest : List ℕ) → next_operation name bytes ≡ Some rest → has_later name ≡ true
next_name name bytes rest e = elim (either (not (has_later name) || not (begins_with 59 bytes)) None (Some bytes) (Some rest) e) [
  | inl h ↦ absurd (none-some rest h.1)
  | inr h ↦ not-false (has_later name) (or_parts (not (has_later name)) (not (begins_with 59 bytes)) h.0).0
]

module _ (scope : Scope) (previous : List ℕ) where
  -- after ; and a name
  op_named : (q : List ℕ) → NameBegun previous 200 q → OpBegun scope previous (59 ∷ q)
  op_named q n =
      let text : List ℕ = 58 ∷ (codes "proc" ++ codes "()") in
      record { op = plain n.name false; rest = n.rest ++ text; is = (tt, tt, tt, tt); named = n.is; after = n.after; spelled = ap (λ (y : List ℕ). 59 ∷ y) (shown_before n.name text q n.rest n.spelled) }

  op_marked : Earlier previous → (q : List ℕ) → Part (59 ∷ []) q → OpBegun scope previous q
  op_marked p q x =
      let n = first_name previous p in
      let text : List ℕ = n.name ++ 58 ∷ (codes "proc" ++ codes "()") in
      record { op = plain n.name false; rest = x.0 ++ text; is = (tt, tt, tt, tt); named = n.is; after = n.after; spelled = shown_before (59 ∷ []) text q x.0 x.1 }

  op_word_front : Earlier previous → (bytes : List ℕ) (left : ℕ) → operation_word_read previous bytes ≡ Err left → Front (OpBegun scope previous) bytes left
  unfolding operation_word_read
  op_word_front p bytes left e =
      elim (and_fails (literal_at (59 ∷ []) bytes) (λ (rest : List ℕ). name_after previous 200 rest >>= λ name. literal_at (58 ∷ []) name.1 >>= λ rest. routine_word_read rest >>= λ iter. Ok ((name.0, iter.0), iter.1)) left e) [
        | inl a ↦ front_as bytes left (literal_front (59 ∷ []) bytes left a) (op_marked p)
        | inr a ↦ (let mark = literal_spelled (59 ∷ []) bytes a.0 a.1 in
            elim (and_fails (name_after previous 200 a.0) (λ (name : List ℕ × List ℕ). literal_at (58 ∷ []) name.1 >>= λ rest. routine_word_read rest >>= λ iter. Ok ((name.0, iter.0), iter.1)) left a.2) [
              | inl b ↦ front_on (59 ∷ []) bytes a.0 left mark (name_front previous 200 (omega arith) p a.0 left b) op_named
              | inr b ↦ (let name : List ℕ = b.0.0 in
                  let named = name_read previous 200 a.0 name b.0.1 b.1 in
                  let at_name : bytes ≡ (59 ∷ name) ++ b.0.1 = mark ∙ ap (λ (x : List ℕ). 59 ∷ x) named.spelled in
                  elim (and_fails (literal_at (58 ∷ []) b.0.1) (λ (rest : List ℕ). routine_word_read rest >>= λ iter. Ok ((name, iter.0), iter.1)) left b.2) [
                    | inl c ↦ (let text : List ℕ = codes "proc" ++ codes "()" in
                        front_on (59 ∷ name) bytes b.0.1 left at_name (literal_front (58 ∷ []) b.0.1 left c)
                        (λ q x. record { op = plain name false; rest = x.0 ++ text; is = (tt, tt, tt, tt); named = named.is; after = named.after; spelled = shown (59 ∷ name) (58 ∷ []) text q x.0 x.1 }))
                    | inr c ↦ (let u : List ℕ = (59 ∷ name) ++ 58 ∷ [] in
                        let at_colon : bytes ≡ u ++ c.0 = at_name ∙ ap (λ (x : List ℕ). (59 ∷ name) ++ x) (literal_spelled (58 ∷ []) b.0.1 c.0 c.1) ∙ sym (append_assoc (59 ∷ name) (58 ∷ []) c.0) in
                        elim (and_fails (routine_word_read c.0) (λ (iter : Bool × List ℕ). Ok ((name, iter.0), iter.1)) left c.2) [
                          | inl d ↦ front_on u bytes c.0 left at_colon (word_front c.0 left d)
                              (λ q x. record { op = plain name x.iter; rest = x.rest ++ codes "()"; is = (tt, tt, tt, tt); named = named.is; after = named.after; spelled = ap (λ (y : List ℕ). 59 ∷ (name ++ 58 ∷ (y ++ codes "()"))) x.spelled ∙ simp append_assoc })
                          | inr d ↦ absurd (never ((name, d.0.0), d.0.1) left d.2)
                        ])
                  ])
            ])
      ]

module _ (kinds : List ParamKind) (few : length kinds ≤ 4294967295) (part : Reader CluType) (sound : Sound (scope_of kinds) part) (fronts : Fronts (TypeBegun (scope_of kinds)) part) where
  abbrev scope : Scope
  scope = scope_of kinds

  routine_front : (name : List ℕ) (iter : Bool) → Fronts (RoutineBegun scope name iter) (operation_read scope part name iter)
  unfolding operation_read
  routine_front name iter bytes left e =
      elim (and_fails {B = Operation × List ℕ} (heading_read part iter bytes) (λ (h : (CluTypes × CluTypes × Signals) × List ℕ). all_demands_read scope part h.1 >>= λ ds. Ok (record { name = name; iter = iter; args = h.0.0; results = h.0.1; signals = h.0.2; demands = ds.0 }, ds.1)) left e) [
        | inl h ↦ front_as bytes left (heading_front scope part sound fronts iter bytes left h)
            (λ q x. record {
              op = record { name = name; iter = iter; args = x.args; results = x.results; signals = x.signals; demands = [] };
              rest = x.rest;
              is = (x.args_are, x.results_are, x.signals_are, tt);
              named = refl;
              kind = refl;
              spelled = append-nil (heading_text iter x.args x.results x.signals) ∙ x.spelled;
            })
        | inr h ↦ (let args : CluTypes = h.0.0.0 in
            let results : CluTypes = h.0.0.1 in
            let signals : Signals = h.0.0.2 in
            let read = heading_spelled scope part sound iter bytes args results signals h.0.1 h.1 in
            elim (and_fails {B = Operation × List ℕ} (all_demands_read scope part h.0.1) (λ (ds : List Demanded × List ℕ). Ok (record { name = name; iter = iter; args = args; results = results; signals = signals; demands = ds.0 }, ds.1)) left h.2) [
              | inl g ↦ front_on (heading_text iter args results signals) bytes h.0.1 left read.spelled (where_front kinds few part sound fronts h.0.1 left g)
                  (λ q x. record {
                    op = record { name = name; iter = iter; args = args; results = results; signals = signals; demands = x.ds };
                    rest = x.rest;
                    is = (read.args_are, read.results_are, read.signals_are, x.are);
                    named = refl;
                    kind = refl;
                    spelled = shown_on (heading_text iter args results signals) (demands_text x.ds) q x.rest x.spelled;
                  })
              | inr g ↦ (let made : Operation × List ℕ = (record { name = name; iter = iter; args = args; results = results; signals = signals; demands = g.0.0 }, g.0.1) in absurd (never made left g.2))
            ])
      ]

  -- an operation after its name and word
  op_in : (previous name : List ℕ) (iter : Bool) → IsName 200 name → is_before previous name ≡ true → (q : List ℕ) → RoutineBegun scope name iter q → OpBegun scope previous ((59 ∷ (name ++ 58 ∷ routine_word iter)) ++ q)
  op_in previous name iter is after q x =
      let same : op_text x.op ≡ 59 ∷ (name ++ 58 ∷ (routine_word iter ++ routine_text x.op)) = ap (λ (y : List ℕ). 59 ∷ (y ++ 58 ∷ (routine_word x.op.iter ++ routine_text x.op))) x.named ∙ ap (λ (y : Bool). 59 ∷ (name ++ 58 ∷ (routine_word y ++ routine_text x.op))) x.kind in
      record {
        op = x.op;
        rest = x.rest;
        is = x.is;
        named = subst (IsName 200) (sym x.named) is;
        after = ap (is_before previous) x.named ∙ after;
        spelled = same ∙ ap (λ (y : List ℕ). 59 ∷ (name ++ 58 ∷ (routine_word iter ++ y))) x.spelled ∙ simp append_assoc;
      }

  op_front : (previous : List ℕ) → Earlier previous → Fronts (OpBegun scope previous) (named_operation_read scope part previous)
  unfolding named_operation_read
  op_front previous p bytes left e =
      elim (and_fails (operation_word_read previous bytes) (λ (word : (List ℕ × Bool) × List ℕ). operation_read scope part word.0.0 word.0.1 word.1) left e) [
        | inl h ↦ op_word_front scope previous p bytes left h
        | inr h ↦ (let name : List ℕ = h.0.0.0 in
            let iter : Bool = h.0.0.1 in
            let word = operation_word_spelled scope part sound previous bytes name iter h.0.1 h.1 in
            let u : List ℕ = 59 ∷ (name ++ 58 ∷ routine_word iter) in
            let whole : bytes ≡ u ++ h.0.1 = word.spelled ∙ simp append_assoc in
            front_on u bytes h.0.1 left whole (routine_front name iter h.0.1 left h.2) (op_in previous name iter word.is word.after))
      ]

  last_name_named : (ops : List Operation) (before : List ℕ) → AreOperations scope before ops → (last_name scope part sound before ops ≡ before) ⊎ IsName 200 (last_name scope part sound before ops)
  last_name_named [] before are = inl refl
  last_name_named (op ∷ ops) before are = elim (last_name_named ops op.name are.3) [ inl same ↦ inr (subst (IsName 200) (sym same) are.0) | inr is ↦ inr is ]

  abbrev OpsStart : List ℕ → List Operation × List ℕ → List ℕ → Type 0
  OpsStart whole made bytes = OpsBefore scope part sound whole made bytes × Earlier made.1

  ops_item : (whole : List ℕ) (made : List Operation × List ℕ) (bytes : List ℕ) → OpsBefore scope part sound whole made bytes → (q : List ℕ) → OpBegun scope made.1 q → OpsBegun scope (flat_map op_text made.0 ++ q)
  ops_item whole made bytes b q x =
      let follows : is_before (last_name scope part sound [] made.0) x.op.name ≡ true = ap (λ (y : List ℕ). is_before y x.op.name) b.last ∙ x.after in
      record {
        ops = made.0 ++ x.op ∷ [];
        rest = x.rest ++ [];
        are = operations_joined scope part sound made.0 [] x.op b.are x.named follows x.is;
        some = joined_some made.0 x.op;
        spelled = sym (append-nil (flat_map op_text (made.0 ++ x.op ∷ []))) ∙ ops_joined_text scope part sound made.0 x.op [] ∙ shown (flat_map op_text made.0) (op_text x.op) [] q x.rest x.spelled;
      }

  ops_fails : (whole : List ℕ) (made : List Operation × List ℕ) (bytes : List ℕ) (left : ℕ) → OpsStart whole made bytes → operations_step scope part made bytes ≡ Err left → Front (OpsBegun scope) whole left
  ops_fails whole made bytes left b e =
      elim (and_fails (named_operation_read scope part made.1 bytes) (λ (op : Operation × List ℕ). Ok ((made.0 ++ op.0 ∷ [], op.0.name), op.1)) left e) [
        | inl h ↦ front_on (flat_map op_text made.0) whole bytes left b.0.spelled (op_front made.1 b.1 bytes left h) (ops_item whole made bytes b.0)
        | inr h ↦ absurd (never ((made.0 ++ h.0.0 ∷ [], h.0.0.name), h.0.1) left h.2)
      ]

  ops_out : (whole : List ℕ) (made : List Operation × List ℕ) (bytes : List ℕ) → OpsStart whole made bytes → Front (OpsBegun scope) whole (length bytes)
  ops_out whole made bytes b =
      let now : Front (OpBegun scope made.1) bytes (length bytes) = at_once bytes (length bytes) refl (first_op scope made.1 b.1) in
      front_on (flat_map op_text made.0) whole bytes (length bytes) b.0.spelled now (ops_item whole made bytes b.0)

  ops_again : (whole : List ℕ) (made : List Operation × List ℕ) (bytes rest : List ℕ) → OpsAfter scope part sound whole made bytes → operations_next scope part made bytes ≡ Some rest → OpsStart whole made rest
  ops_again whole made bytes rest r e =
      let named : (made.1 ≡ []) ⊎ IsName 200 made.1 = subst (λ (x : List ℕ). (x ≡ []) ⊎ IsName 200 x) r.before.last (last_name_named made.0 [] r.before.are) in
      (ops_more scope part sound whole made bytes rest r e, earlier_by scope made.1 named (next_name made.1 bytes rest e))

  ops_front : Fronts (OpsBegun scope) (operations_read scope part)
  unfolding operations_read
  ops_front bytes left e =
      elim (and_fails (several (operations_step scope part) (operations_next scope part) (length bytes) ([], []) bytes) (λ (x : (List Operation × List ℕ) × List ℕ). Ok (x.0.0, x.1)) left e) [
        | inl h ↦ row_front (operations_step scope part) (operations_next scope part) (OpsStart bytes) (OpsAfter scope part sound bytes) (Front (OpsBegun scope) bytes)
            (λ made b more after s q. ops_on scope part sound bytes made b more after s.0 q) (ops_again bytes) (ops_fails bytes) (ops_out bytes) (length bytes) ([], []) bytes left (record { are = tt; last = refl; spelled = refl }, earlier_none) h
        | inr h ↦ absurd (never (h.0.0.0, h.0.1) left h.2)
      ]

  form_front : Fronts (FormBegun scope) (cluster_form_read scope part)
  unfolding cluster_form_read
  form_front bytes left e =
      let op = first_op scope [] earlier_none in
      let ops : List Operation = op.op ∷ [] in
      elim (and_fails (all_demands_read scope part bytes) (λ (ds : List Demanded × List ℕ). literal_at (codes "is") ds.1 >>= λ rest. operations_read scope part rest >>= λ ops. Ok (cluster ds.0 ops.0, ops.1)) left e) [
        | inl a ↦ front_as bytes left (where_front kinds few part sound fronts bytes left a)
            (λ q x. record { demands = x.ds; ops = ops; rest = x.rest ++ (codes "is" ++ flat_map op_text ops); are_demands = x.are; some = omega arith; are_ops = (op.named, op.after, op.is, tt); spelled = shown_before (demands_text x.ds) (codes "is" ++ flat_map op_text ops) q x.rest x.spelled })
        | inr a ↦ (let ds : List Demanded = a.0.0 in
            let demands = all_demands_spelled scope part sound bytes ds a.0.1 a.1 in
            elim (and_fails (literal_at (codes "is") a.0.1) (λ (rest : List ℕ). operations_read scope part rest >>= λ ops. Ok (cluster ds ops.0, ops.1)) left a.2) [
              | inl b ↦ front_on (demands_text ds) bytes a.0.1 left demands.1 (literal_front (codes "is") a.0.1 left b)
                  (λ q x. record { demands = ds; ops = ops; rest = x.0 ++ flat_map op_text ops; are_demands = demands.0; some = omega arith; are_ops = (op.named, op.after, op.is, tt); spelled = shown (demands_text ds) (codes "is") (flat_map op_text ops) q x.0 x.1 })
              | inr b ↦ (let u : List ℕ = demands_text ds ++ codes "is" in
                  let whole : bytes ≡ u ++ b.0 = demands.1 ∙ ap (λ (x : List ℕ). demands_text ds ++ x) (literal_spelled (codes "is") a.0.1 b.0 b.1) ∙ sym (append_assoc (demands_text ds) (codes "is") b.0) in
                  elim (and_fails (operations_read scope part b.0) (λ (ops : List Operation × List ℕ). Ok (cluster ds ops.0, ops.1)) left b.2) [
                    | inl c ↦ front_on u bytes b.0 left whole (ops_front b.0 left c)
                        (λ q x. record { demands = ds; ops = x.ops; rest = x.rest; are_demands = demands.0; some = x.some; are_ops = x.are; spelled = sym (append_assoc (demands_text ds) (codes "is") (flat_map op_text x.ops)) ∙ shown_on u (flat_map op_text x.ops) q x.rest x.spelled })
                    | inr c ↦ absurd (never (cluster ds c.0.0, c.0.1) left c.2)
                  ])
            ])
      ]

-- after a name, from the =
record BodyBegun (name q : List ℕ) : Type 0 where
  pub kinds : List ParamKind
  pub shape : Shape
  pub rest : List ℕ
  pub few : length kinds ≤ 4294967295
  pub shaped : IsShape (scope_of kinds) name shape
  pub spelled : shape_text kinds shape ≡ 61 ∷ (q ++ rest)

module _ (name : List ℕ) where
  routine_body : (kinds : List ParamKind) → length kinds ≤ 4294967295 → (iter : Bool) (q : List ℕ) → RoutineBegun (scope_of kinds) name iter q → BodyBegun name ((routine_word iter ++ kinds_text kinds) ++ q)
  routine_body kinds few iter q x =
      let text : routine_word x.op.iter ++ (kinds_text kinds ++ routine_text x.op) ≡ routine_word iter ++ (kinds_text kinds ++ (q ++ x.rest)) =
      ap (λ (y : Bool). routine_word y ++ (kinds_text kinds ++ routine_text x.op)) x.kind ∙ ap (λ (y : List ℕ). routine_word iter ++ (kinds_text kinds ++ y)) x.spelled in
      record { kinds = kinds; shape = routine x.op; rest = x.rest; few = few; shaped = (x.named, x.is); spelled = ap (λ (y : List ℕ). 61 ∷ y) (text ∙ simp append_assoc) }

  -- with nothing after the parameters
  plain_body : (kinds : List ParamKind) (iter : Bool) (q rest : List ℕ) → length kinds ≤ 4294967295 → routine_word iter ++ (kinds_text kinds ++ codes "()") ≡ q ++ rest → BodyBegun name q
  plain_body kinds iter q rest few e = record { kinds = kinds; shape = routine (plain name iter); rest = rest; few = few; shaped = (refl, (tt, tt, tt, tt)); spelled = ap (λ (y : List ℕ). 61 ∷ y) e }

  -- a text that ends where more bytes follow
  ended : (kinds : List ParamKind) (shape : Shape) (word bytes rest : List ℕ) (left : ℕ) → length kinds ≤ 4294967295 → IsShape (scope_of kinds) name shape → shape_text kinds shape ≡ 61 ∷ word → bytes ≡ word ++ rest → length rest ≡ left → Front (BodyBegun name) bytes left
  ended kinds shape word bytes rest left few shaped text whole l = record {
    front = word;
    back = rest;
    whole = whole;
    rest = l;
    begun = record { kinds = kinds; shape = shape; rest = []; few = few; shaped = shaped; spelled = text ∙ ap (λ (y : List ℕ). 61 ∷ y) (sym (append-nil word)) };
  }

  routine_at : (depth : ℕ) → Fronts (BodyBegun name) (routine_read name depth)
  unfolding routine_read
  routine_at depth bytes left e =
      elim (and_fails {B = Specification} (routine_word_read bytes) (λ (iter : Bool × List ℕ). parameters_read iter.1 >>= λ kinds. operation_read (scope_of kinds.0) (type_read (scope_of kinds.0) depth) name iter.0 kinds.1 >>= λ op. end_at (record { name = name; kinds = kinds.0; shape = routine op.0 }) op.1) left e) [
        | inl a ↦ front_as bytes left (word_front bytes left a) (λ q x. plain_body [] x.iter q (x.rest ++ codes "()") (omega arith) (shown_before (routine_word x.iter) (codes "()") q x.rest x.spelled))
        | inr a ↦ (let iter : Bool = a.0.0 in
            let w : List ℕ = routine_word iter in
            let word : bytes ≡ w ++ a.0.1 = word_spelled bytes iter a.0.1 a.1 in
            elim (and_fails {B = Specification} (parameters_read a.0.1) (λ (kinds : List ParamKind × List ℕ). operation_read (scope_of kinds.0) (type_read (scope_of kinds.0) depth) name iter kinds.1 >>= λ op. end_at (record { name = name; kinds = kinds.0; shape = routine op.0 }) op.1) left a.2) [
              | inl b ↦ front_on w bytes a.0.1 left word (parameters_front a.0.1 left b) (λ q x. plain_body x.ks iter (w ++ q) (x.rest ++ codes "()") x.few (shown w (kinds_text x.ks) (codes "()") q x.rest x.spelled))
              | inr b ↦ (let kinds : List ParamKind = b.0.0 in
                  let parameters = parameters_spelled (behind 91 a.0.1) a.0.1 kinds b.0.1 refl b.1 in
                  let u : List ℕ = w ++ kinds_text kinds in
                  let whole : bytes ≡ u ++ b.0.1 = word ∙ ap (λ (x : List ℕ). w ++ x) parameters.1 ∙ sym (append_assoc w (kinds_text kinds) b.0.1) in
                  let part : Reader CluType = type_read (scope_of kinds) depth in
                  let sound = type_spelled (scope_of kinds) depth in
                  elim (and_fails {B = Specification} (operation_read (scope_of kinds) part name iter b.0.1) (λ (op : Operation × List ℕ). end_at (record { name = name; kinds = kinds; shape = routine op.0 }) op.1) left b.2) [
                    | inl c ↦ front_on u bytes b.0.1 left whole (routine_front kinds parameters.0 part sound (type_front (scope_of kinds) (spec_leads kinds parameters.0) depth) name iter b.0.1 left c) (routine_body kinds parameters.0 iter)
                    | inr c ↦ (let op : Operation = c.0.0 in
                        let read = operation_spelled (scope_of kinds) part sound name iter b.0.1 op c.0.1 c.1 in
                        let text : shape_text kinds (routine op) ≡ 61 ∷ (u ++ routine_text op) = ap (λ (y : Bool). 61 ∷ (routine_word y ++ (kinds_text kinds ++ routine_text op))) read.kind ∙ simp append_assoc in
                        ended kinds (routine op) (u ++ routine_text op) bytes c.0.1 left parameters.0 (read.named, read.is) text (whole ∙ ap (λ (x : List ℕ). u ++ x) read.spelled ∙ sym (append_assoc u (routine_text op) c.0.1))
                        (ended_front {A = Specification} (record { name = name; kinds = kinds; shape = routine op }) c.0.1 left c.2))
                  ])
            ])
      ]

  -- a cluster with its first operation
  cluster_body : (kinds : List ParamKind) (q rest : List ℕ) → length kinds ≤ 4294967295 → codes "cluster" ++ (kinds_text kinds ++ (codes "is" ++ op_text (first_op (scope_of kinds) [] earlier_none).op)) ≡ q ++ rest → BodyBegun name q
  cluster_body kinds q rest few e =
      let op = first_op (scope_of kinds) [] earlier_none in
      let text : List ℕ = op_text op.op in
      record {
        kinds = kinds;
        shape = cluster [] (op.op ∷ []);
        rest = rest;
        few = few;
        shaped = (tt, omega arith, (op.named, op.after, op.is, tt));
        spelled = ap (λ (y : List ℕ). codes "=cluster" ++ (kinds_text kinds ++ (codes "is" ++ y))) (append-nil text) ∙ ap (λ (y : List ℕ). 61 ∷ y) e;
      }

  cluster_at : (depth : ℕ) → Fronts (BodyBegun name) (cluster_read name depth)
  unfolding cluster_read
  cluster_at depth bytes left e =
      let w : List ℕ = codes "cluster" in
      elim (and_fails {B = Specification} (literal_at (codes "cluster") bytes) (λ (rest : List ℕ). parameters_read rest >>= λ kinds. cluster_form_read (scope_of kinds.0) (type_read (scope_of kinds.0) depth) kinds.1 >>= λ shape. end_at (record { name = name; kinds = kinds.0; shape = shape.0 }) shape.1) left e) [
        | inl a ↦ (let tail : List ℕ = codes "is" ++ op_text (first_op (scope_of []) [] earlier_none).op in
            front_as bytes left (literal_front w bytes left a) (λ q x. cluster_body [] q (x.0 ++ tail) (omega arith) (shown_before w tail q x.0 x.1)))
        | inr a ↦ (let word : bytes ≡ w ++ a.0 = literal_spelled w bytes a.0 a.1 in
            elim (and_fails {B = Specification} (parameters_read a.0) (λ (kinds : List ParamKind × List ℕ). cluster_form_read (scope_of kinds.0) (type_read (scope_of kinds.0) depth) kinds.1 >>= λ shape. end_at (record { name = name; kinds = kinds.0; shape = shape.0 }) shape.1) left a.2) [
              | inl b ↦ front_on w bytes a.0 left word (parameters_front a.0 left b)
                  (λ q x. let tail : List ℕ = codes "is" ++ op_text (first_op (scope_of x.ks) [] earlier_none).op in cluster_body x.ks (w ++ q) (x.rest ++ tail) x.few (shown w (kinds_text x.ks) tail q x.rest x.spelled))
              | inr b ↦ (let kinds : List ParamKind = b.0.0 in
                  let parameters = parameters_spelled (behind 91 a.0) a.0 kinds b.0.1 refl b.1 in
                  let u : List ℕ = w ++ kinds_text kinds in
                  let whole : bytes ≡ u ++ b.0.1 = word ∙ ap (λ (x : List ℕ). w ++ x) parameters.1 ∙ sym (append_assoc w (kinds_text kinds) b.0.1) in
                  let part : Reader CluType = type_read (scope_of kinds) depth in
                  let sound = type_spelled (scope_of kinds) depth in
                  elim (and_fails {B = Specification} (cluster_form_read (scope_of kinds) part b.0.1) (λ (shape : Shape × List ℕ). end_at (record { name = name; kinds = kinds; shape = shape.0 }) shape.1) left b.2) [
                    | inl c ↦ front_on u bytes b.0.1 left whole (form_front kinds parameters.0 part sound (type_front (scope_of kinds) (spec_leads kinds parameters.0) depth) b.0.1 left c)
                        (λ q x. record { kinds = kinds; shape = cluster x.demands x.ops; rest = x.rest; few = parameters.0; shaped = (x.are_demands, x.some, x.are_ops); spelled = ap (λ (y : List ℕ). codes "=cluster" ++ (kinds_text kinds ++ y)) x.spelled ∙ simp append_assoc })
                    | inr c ↦ (let read = form_spelled (scope_of kinds) part sound b.0.1 c.0.0 c.0.1 c.1 in
                        let form : List ℕ = demands_text read.demands ++ (codes "is" ++ flat_map op_text read.ops) in
                        let body : b.0.1 ≡ form ++ c.0.1 = read.spelled ∙ simp append_assoc in
                        ended kinds (cluster read.demands read.ops) (u ++ form) bytes c.0.1 left parameters.0 (read.are_demands, read.some, read.are_ops) (simp append_assoc) (whole ∙ ap (λ (x : List ℕ). u ++ x) body ∙ sym (append_assoc u form c.0.1))
                        (ended_front {A = Specification} (record { name = name; kinds = kinds; shape = c.0.0 }) c.0.1 left c.2))
                  ])
            ])
      ]

-- a specification goes on from the bytes
pub record SpecBegun (q : List ℕ) : Type 0 where
  pub s : Specification
  pub rest : List ℕ
  pub is : IsSpecification s
  pub spelled : spec_text s ≡ q ++ rest

spec_named : (q : List ℕ) → OtherBegun (codes "stream") [] q → SpecBegun q
spec_named q n =
    let name : List ℕ = n.begun.name in
    let text : List ℕ = 61 ∷ (codes "proc" ++ codes "()") in
    record {
      s = record { name = name; kinds = []; shape = routine (plain name false) };
      rest = n.begun.rest ++ text;
      is = record { named = n.begun.is; other = n.other; few = omega arith; shaped = (refl, (tt, tt, tt, tt)) };
      spelled = shown_before name text q n.begun.rest n.begun.spelled;
    }

spec_with : (name : List ℕ) → IsName 200 name → bytes_eq name (codes "stream") ≡ false → (q : List ℕ) → BodyBegun name q → SpecBegun ((name ++ 61 ∷ []) ++ q)
spec_with name is other q x = record {
  s = record { name = name; kinds = x.kinds; shape = x.shape };
  rest = x.rest;
  is = record { named = is; other = other; few = x.few; shaped = x.shaped };
  spelled = ap (λ (y : List ℕ). name ++ y) x.spelled ∙ simp append_assoc;
}

body_front : (name : List ℕ) (depth : ℕ) → Fronts (BodyBegun name) (λ rest. if begins_with 99 rest then cluster_read name depth rest else routine_read name depth rest)
body_front name depth bytes left e =
    elim (either (begins_with 99 bytes) (cluster_read name depth bytes) (routine_read name depth bytes) (Err left) e) [ inl h ↦ cluster_at name depth bytes left h.1 | inr h ↦ routine_at name depth bytes left h.1 ]

-- read alone
pub whole_spec_front : Fronts SpecBegun whole_spec
unfolding whole_spec
whole_spec_front bytes left e =
    let body : List ℕ → List ℕ → Result Specification ℕ = λ (name rest : List ℕ). if begins_with 99 rest then cluster_read name (length bytes) rest else routine_read name (length bytes) rest in
    elim (and_fails (name_after [] 200 bytes) (λ (name : List ℕ × List ℕ). if bytes_eq name.0 (codes "stream") then Err (length name.1) else literal_at (61 ∷ []) name.1 >>= λ rest. body name.0 rest) left e) [
      | inl a ↦ front_as bytes left (name_front [] 200 (omega arith) earlier_none bytes left a) (λ q n. spec_named q (avoiding (codes "stream") [] q (omega arith) n))
      | inr a ↦ (let name : List ℕ = a.0.0 in
          let named = name_read [] 200 bytes name a.0.1 a.1 in
          elim (either (bytes_eq name (codes "stream")) (Err (length a.0.1)) (literal_at (61 ∷ []) a.0.1 >>= λ rest. body name rest) (Err left) a.2) [
            | inl b ↦ record {
              front = name;
              back = a.0.1;
              whole = named.spelled;
              rest = same_left {A = Specification} (Err (length a.0.1)) (length a.0.1) left refl b.1;
              begun = spec_named name (avoiding (codes "stream") [] name (omega arith) (read_begun [] 200 bytes name a.0.1 a.1));
            }
            | inr b ↦ elim (and_fails (literal_at (61 ∷ []) a.0.1) (λ (rest : List ℕ). body name rest) left b.1) [
              | inl c ↦ (let text : List ℕ = codes "proc" ++ codes "()" in
                  front_on name bytes a.0.1 left named.spelled (literal_front (61 ∷ []) a.0.1 left c)
                  (λ q x. record {
                    s = record { name = name; kinds = []; shape = routine (plain name false) };
                    rest = x.0 ++ text;
                    is = record { named = named.is; other = b.0; few = omega arith; shaped = (refl, (tt, tt, tt, tt)) };
                    spelled = shown name (61 ∷ []) text q x.0 x.1;
                  }))
              | inr c ↦ (let whole : bytes ≡ (name ++ 61 ∷ []) ++ c.0 = named.spelled ∙ ap (λ (x : List ℕ). name ++ x) (literal_spelled (61 ∷ []) a.0.1 c.0 c.1) ∙ sym (append_assoc name (61 ∷ []) c.0) in
                  front_on (name ++ 61 ∷ []) bytes c.0 left whole (body_front name (length bytes) c.0 left c.2) (spec_with name named.is b.0))
            ]
          ])
    ]
