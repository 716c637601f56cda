-- Specifications: what is written of one is read again.
use Rattle.std.proofs.Common.{◌≡◌, ℕ, zero, suc, ◌+◌, ◌-◌, ◌<◌, ◌≤◌, ◌⊎◌, ◌==◌, nat_le, nat_lt, not, Bool, true, false, List, [], ◌∷◌, ◌++◌, length, codes, decimal, flat_map, slice_get, Option, Some, None, Ok, if◌then◌else◌, refl, sym, ap, ◌∙◌, arith, length-append, append_assoc, append-nil, inl, inr}
use Rattle.std.specs.Str.{bytes_eq}
use Rattle.std.proofs.lemmas.Bool.{ne_eqb, eq-eqb, lt-ltb, le-leb, cases_Bool, or_right}
use Rattle.clu_base.proofs.Bools.{same_either}
use Rattle.clu_types.specs.declared.spec.ParamKind.{ParamKind}
use Rattle.clu_types.specs.declared.spec.ParamKind.TheVariants as kind
use Rattle.clu_types.specs.CluType.{CluType}
use Rattle.clu_specs.specs.declared.scope.Sort.{Sort}
use Rattle.clu_specs.specs.declared.scope.Sort.TheVariants as sort
use Rattle.clu_specs.specs.declared.scope.Scope.{Scope}
use Rattle.clu_specs.specs.Reading.{◌>>=◌, Read, behind, begins_with, literal_at, several}
use Rattle.clu_specs.specs.Names.{is_before, has_later, name_after}
use Rattle.clu_specs.specs.Scopes.{is_of, last_from, last_in, is_some_of, names, scope_of}
use Rattle.clu_specs.specs.Texts.{type_text, heading_text}
use Rattle.clu_specs.specs.TypeReading.{Reader, type_read, heading_read}
use Rattle.clu_specs.specs.Seen.{Demanded, Operation, Shape, routine, cluster, Specification, kind_text, kinds_text, demand_text, demands_text, routine_word, routine_text, op_text, shape_text, spec_text}
use Rattle.clu_specs.specs.SpecReading.{routine_word_read, kind_read, kinds_step, kinds_next, kinds_read, parameters_by, parameters_read, least_behind, asked_read, demand_read, demands_step, demands_next, demands_read, all_demands_read, operation_read, operation_word_read, named_operation_read, operations_step, operations_next, operations_read, cluster_form_read, routine_read, cluster_read, whole_spec}
use Rattle.clu_specs.specs.Grammar.{IsName, IsParameter, IsType, AreDemands, IsOperation, AreOperations, IsShape, IsSpecification}
use Rattle.clu_specs.proofs.Words.{name_again, later_some}
use Rattle.clu_specs.proofs.Decimals.{number_again}
use Rattle.clu_specs.proofs.Heads.{is_stop, behind_item, item}
use Rattle.clu_specs.proofs.Lists.{without_name, heading_again}
use Rattle.clu_specs.proofs.TypesAgain.{type_again, types_all, signals_all, heading_parts, before_any}

-- proc and iter
word_again : (iter : Bool) (rest : List ℕ) → routine_word_read (routine_word iter ++ rest) ≡ Ok (iter, rest)
unfolding routine_word_read literal_at
word_again true rest = refl
word_again false rest = refl

-- kinds
kind_again : (k : ParamKind) (rest : List ℕ) → kind_read (kind_text k ++ rest) ≡ Ok (k, rest)
unfolding kind_read literal_at
kind_again kind.OfType rest = refl
kind_again kind.Null rest = refl
kind_again kind.Bool rest = refl
kind_again kind.Int rest = refl
kind_again kind.Char rest = refl
kind_again kind.Str rest = refl

abbrev more_kinds : List ParamKind → List ℕ
more_kinds ks = flat_map (λ x. 44 ∷ kind_text x) ks

kinds_turn : (k : ParamKind) (made : List ParamKind) (text rest : List ℕ) → kinds_step made ((kind_text k ++ text) ++ 93 ∷ rest) ≡ Ok (made ++ k ∷ [], text ++ 93 ∷ rest)
kinds_turn k made text rest =
    let read : kind_read ((kind_text k ++ text) ++ 93 ∷ rest) ≡ Ok (k, text ++ 93 ∷ rest) = ap kind_read (append_assoc (kind_text k) text (93 ∷ rest)) ∙ kind_again k (text ++ 93 ∷ rest) in
    rw read refl

kinds_row : (ks : List ParamKind) (n : ℕ) (made : List ParamKind) (rest : List ℕ) → length made + length ks ≤ 4294967295 → length (more_kinds ks) ≤ n
    → behind_item kinds_step kinds_next n made (more_kinds ks ++ 93 ∷ rest) ≡ Ok (made ++ ks, 93 ∷ rest)
kinds_row [] n made rest few le = rw (same_either {A = Option (List ℕ)} (nat_lt (length made) 4294967295) None) (ap (λ (x : List ParamKind). Ok (x, 93 ∷ rest)) (sym (append-nil made)))
kinds_row (k ∷ ks) zero made rest few le = absurd (omega (arith, le))
kinds_row (k ∷ ks) (suc n) made rest few le =
    let text : List ℕ = (kind_text k ++ more_kinds ks) ++ 93 ∷ rest in
    let next : kinds_next made (44 ∷ text) ≡ Some text = rw (lt-ltb (length made) 4294967295 (omega (arith, few))) refl in
    rw next
    (item kinds_step kinds_next n made (made ++ k ∷ []) text (more_kinds ks ++ 93 ∷ rest) (kinds_turn k made (more_kinds ks) rest)
    ∙ kinds_row ks n (made ++ k ∷ []) rest (omega (arith, few, length-append made (k ∷ []))) (omega (arith, le, length-append (kind_text k) (more_kinds ks)))
    ∙ ap (λ (x : List ParamKind). Ok (x, 93 ∷ rest)) (append_assoc made (k ∷ []) ks))

kinds_by : (bytes rest : List ℕ) (n : ℕ) (ks : List ParamKind) → length bytes ≡ n → several kinds_step kinds_next n [] bytes ≡ Ok (ks, 93 ∷ rest) → kinds_read bytes ≡ Ok (ks, 93 ∷ rest)
unfolding kinds_read
kinds_by bytes rest n ks e s = rw e s

parameters_again : (ks : List ParamKind) (rest : List ℕ) → length ks ≤ 4294967295 → behind 91 rest ≡ None → parameters_read (kinds_text ks ++ rest) ≡ Ok (ks, rest)
unfolding parameters_by literal_at
parameters_again [] rest few none = rw none refl
parameters_again (k ∷ ks) rest few none =
    let text : List ℕ = kind_text k ++ more_kinds ks in
    let n : ℕ = length text + length rest in
    let read : kinds_read (text ++ 93 ∷ rest) ≡ Ok (k ∷ ks, 93 ∷ rest) =
    kinds_by (text ++ 93 ∷ rest) rest (suc n) (k ∷ ks) (omega (arith, length-append text (93 ∷ rest)))
    (item kinds_step kinds_next n [] (k ∷ []) (text ++ 93 ∷ rest) (more_kinds ks ++ 93 ∷ rest) (kinds_turn k [] (more_kinds ks) rest)
    ∙ kinds_row ks n (k ∷ []) rest (omega (arith, few)) (omega (arith, length-append (kind_text k) (more_kinds ks)))) in
    let grouped : kinds_read ((text ++ 93 ∷ []) ++ rest) ≡ Ok (k ∷ ks, 93 ∷ rest) = ap kinds_read (append_assoc text (93 ∷ []) rest) ∙ read in
    rw grouped refl

-- a parameter's number is at most the last of its sort
last_grows : (of : Sort) (ks : List ParamKind) (n last : ℕ) → last ≤ n → last ≤ last_from of n last ks
last_grows of [] n last le = omega arith
last_grows of (k ∷ ks) n last le = elim (cases_Bool (is_of of k)) [
  | inl holds ↦ rw holds (let h = last_grows of ks (n + 1) (n + 1) (omega arith) in omega (arith, h))
  | inr fails ↦ rw fails (last_grows of ks (n + 1) last (omega (arith, le)))
]

last_covers : (of : Sort) (ks : List ParamKind) (n last i : ℕ) → last ≤ n → is_some_of of (slice_get ks i) ≡ true → n + i < last_from of n last ks
last_covers of [] n last i le e = absurd (cc)
last_covers of (k ∷ ks) n last zero le e = rw e (let h = last_grows of ks (n + 1) (n + 1) (omega arith) in omega (arith, h))
last_covers of (k ∷ ks) n last (suc i) le e = elim (cases_Bool (is_of of k)) [
  | inl holds ↦ rw holds (let h = last_covers of ks (n + 1) (n + 1) i (omega arith) e in omega (arith, h))
  | inr fails ↦ rw fails (let h = last_covers of ks (n + 1) last i (omega (arith, le)) e in omega (arith, h))
]

module _ (ks : List ParamKind) where
  pub last_least : (of : Sort) (n : ℕ) → names (scope_of ks) of n ≡ true → n ≤ last_in (scope_of ks) of
  last_least sort.Type zero e = absurd (cc)
  last_least sort.Constant zero e = absurd (cc)
  last_least sort.Type (suc i) e = let h = last_covers sort.Type ks 0 0 i (omega arith) e in omega (arith, h)
  last_least sort.Constant (suc i) e = let h = last_covers sort.Constant ks 0 0 i (omega arith) e in omega (arith, h)

  scope_has : (of : Sort) (n : ℕ) → names (scope_of ks) of n ≡ true → nat_le 1 (last_in (scope_of ks) of) ≡ true
  scope_has of zero e = absurd (cc)
  scope_has of (suc n) e = le-leb 1 (last_in (scope_of ks) of) (omega (arith, last_least of (suc n) e))

module _ (ks : List ParamKind) (depth : ℕ) where
  abbrev scope : Scope
  scope = scope_of ks

  abbrev part : Reader CluType
  part = type_read scope depth

  abbrev step : List Demanded × ℕ × List ℕ → List ℕ → Read (List Demanded × ℕ × List ℕ)
  step made bytes = demands_step scope part made bytes

  abbrev next : List Demanded × ℕ × List ℕ → List ℕ → Option (List ℕ)
  next made rest = demands_next scope part made rest

  -- without the parameter and the name of the last
  abbrev alone : Read (List Demanded × ℕ × List ℕ) → Read (List Demanded)
  alone read = read >>= λ x. Ok (x.0.0, x.1)

  abbrev more_demands : List Demanded → List ℕ
  more_demands ds = flat_map (λ x. 44 ∷ demand_text x) ds

  -- a demand may come after that of a parameter and a name
  abbrev Follows : ℕ → List ℕ → Demanded → Type 0
  Follows param name d = (param < d.param) ⊎ ((param ≡ d.param) × (is_before name d.op ≡ true) × (has_later name ≡ true))

  follows : (param : ℕ) (name : List ℕ) (d : Demanded) → IsName 200 name → IsName 200 d.op → (param < d.param) ⊎ ((param ≡ d.param) × (is_before name d.op ≡ true)) → Follows param name d
  follows param name d is named (inl less) = inl less
  follows param name d is named (inr same) = inr (same.0, same.1, later_some name d.op is named same.1)

  least_le : (param : ℕ) (name : List ℕ) (d : Demanded) → Follows param name d → least_behind param name ≤ d.param
  least_le param name d (inl less) = elim (cases_Bool (has_later name)) [ inl holds ↦ rw holds (omega (arith, less)) | inr fails ↦ rw fails (omega (arith, less)) ]
  least_le param name d (inr same) = rw same.2 (omega (arith, same.0))

  named_behind : (param : ℕ) (name rest : List ℕ) (d : Demanded) → IsName 200 d.op → Follows param name d → name_after (if d.param == param then name else []) 200 (d.op ++ 58 ∷ rest) ≡ Ok (d.op, 58 ∷ rest)
  named_behind param name rest d is (inl less) = rw (ne_eqb d.param param (λ e. absurd (omega (arith, less, e)))) (name_again [] d.op (58 ∷ rest) 200 is (before_any d.op is.begins) refl)
  named_behind param name rest d is (inr same) = rw (eq-eqb d.param param (sym same.0)) (name_again name d.op (58 ∷ rest) 200 is same.1 refl)

  asked_again : (param : ℕ) (name rest : List ℕ) (d : Demanded) → IsParameter scope sort.Type d.param → IsName 200 d.op → Follows param name d
      → asked_read scope param name ((35 ∷ decimal d.param) ++ (codes " has " ++ (d.op ++ 58 ∷ rest))) ≡ Ok ((d.param, d.op), rest)
  unfolding asked_read literal_at
  asked_again param name rest d is named f =
      rw (number_again scope sort.Type d.param (least_behind param name) (codes " has " ++ (d.op ++ 58 ∷ rest)) is (least_le param name d f) refl, named_behind param name rest d named f) refl

  demands_turn : (param : ℕ) (name : List ℕ) (made : List Demanded) (d : Demanded) (text rest : List ℕ) → IsParameter scope sort.Type d.param → IsName 200 d.op → Follows param name d → IsType scope d.wanted
      → length (type_text d.wanted) ≤ depth → is_stop (text ++ 32 ∷ rest) ≡ true
      → step (made, param, name) ((demand_text d ++ text) ++ 32 ∷ rest) ≡ Ok ((made ++ d ∷ [], d.param, d.op), text ++ 32 ∷ rest)
  unfolding demand_read
  demands_turn param name made d text rest is named f typed short stop =
      let after : List ℕ = type_text d.wanted ++ (text ++ 32 ∷ rest) in
      let grouped : (demand_text d ++ text) ++ 32 ∷ rest ≡ (35 ∷ decimal d.param) ++ (codes " has " ++ (d.op ++ 58 ∷ after)) = simp append_assoc in
      let asked : asked_read scope param name ((demand_text d ++ text) ++ 32 ∷ rest) ≡ Ok ((d.param, d.op), after) = ap (asked_read scope param name) grouped ∙ asked_again param name after d is named f in
      rw (asked, type_again scope (scope_has ks) d.wanted typed depth short (text ++ 32 ∷ rest) stop) refl

  demands_stop : (ds : List Demanded) (rest : List ℕ) → is_stop (more_demands ds ++ 32 ∷ rest) ≡ true
  demands_stop [] rest = refl
  demands_stop (d ∷ ds) rest = refl

  wanted_short : (d : Demanded) → length (type_text d.wanted) ≤ length (demand_text d)
  wanted_short d = omega (arith, length-append (decimal d.param) (codes " has " ++ (d.op ++ 58 ∷ type_text d.wanted)), length-append d.op (58 ∷ type_text d.wanted))

  demands_row : (ds : List Demanded) (param : ℕ) (name : List ℕ) → IsName 200 name → AreDemands scope param name ds → length (more_demands ds) ≤ depth → (n : ℕ) (made : List Demanded) (rest : List ℕ) → length (more_demands ds) ≤ n
      → alone (behind_item step next n (made, param, name) (more_demands ds ++ 32 ∷ rest)) ≡ Ok (made ++ ds, 32 ∷ rest)
  demands_row [] param name is are short n made rest le =
      rw (same_either {A = Option (List ℕ)} (nat_le (least_behind param name) (last_in scope sort.Type)) None) (ap (λ (x : List Demanded). Ok (x, 32 ∷ rest)) (sym (append-nil made)))
  demands_row (d ∷ ds) param name is are short zero made rest le = absurd (omega (arith, le))
  demands_row (d ∷ ds) param name is are short (suc n) made rest le =
      let text : List ℕ = (demand_text d ++ more_demands ds) ++ 32 ∷ rest in
      let f : Follows param name d = follows param name d is are.1 are.2 in
      let goes_on : next (made, param, name) (44 ∷ text) ≡ Some text =
      rw (le-leb (least_behind param name) (last_in scope sort.Type) (omega (arith, least_le param name d f, last_least ks sort.Type d.param are.0.named))) refl in
      let len = length-append (demand_text d) (more_demands ds) in
      rw goes_on
      (ap alone (item step next n (made, param, name) (made ++ d ∷ [], d.param, d.op) text (more_demands ds ++ 32 ∷ rest)
      (demands_turn param name made d (more_demands ds) rest are.0 are.1 f are.3 (omega (arith, short, len, wanted_short d)) (demands_stop ds rest)))
      ∙ demands_row ds d.param d.op are.1 are.4 (omega (arith, short, len)) n (made ++ d ∷ []) rest (omega (arith, le, len))
      ∙ ap (λ (x : List Demanded). Ok (x, 32 ∷ rest)) (append_assoc made (d ∷ []) ds))

  demands_by : (bytes rest : List ℕ) (n : ℕ) (ds : List Demanded) → length bytes ≡ n → alone (several step next n ([], 0, []) bytes) ≡ Ok (ds, 32 ∷ rest) → demands_read scope part bytes ≡ Ok (ds, 32 ∷ rest)
  unfolding demands_read
  demands_by bytes rest n ds e s = rw e s

  parameter_some : (n : ℕ) → names scope sort.Type n ≡ true → 0 < n
  parameter_some zero e = absurd (cc)
  parameter_some (suc n) e = omega arith

  all_demands_again : (ds : List Demanded) (rest : List ℕ) → AreDemands scope 0 [] ds → length (demands_text ds) ≤ depth → begins_with 32 rest ≡ false → all_demands_read scope part (demands_text ds ++ rest) ≡ Ok (ds, rest)
  unfolding all_demands_read literal_at
  all_demands_again [] rest are short none = rw none refl
  all_demands_again (d ∷ ds) rest are short none =
      let text : List ℕ = demand_text d ++ more_demands ds in
      let n : ℕ = length text + length rest in
      let len = length-append (demand_text d) (more_demands ds) in
      let whole = length-append text (32 ∷ []) in
      let turned = item step next n ([], 0, []) (d ∷ [], d.param, d.op) (text ++ 32 ∷ rest) (more_demands ds ++ 32 ∷ rest)
      (demands_turn 0 [] [] d (more_demands ds) rest are.0 are.1 (inl (parameter_some d.param are.0.named)) are.3 (omega (arith, short, len, whole, wanted_short d)) (demands_stop ds rest)) in
      let read : demands_read scope part (text ++ 32 ∷ rest) ≡ Ok (d ∷ ds, 32 ∷ rest) =
      demands_by (text ++ 32 ∷ rest) rest (suc n) (d ∷ ds) (omega (arith, length-append text (32 ∷ rest)))
      (ap alone turned ∙ demands_row ds d.param d.op are.1 are.4 (omega (arith, short, len, whole)) n (d ∷ []) rest (omega (arith, len))) in
      let grouped : demands_read scope part ((text ++ 32 ∷ []) ++ rest) ≡ Ok (d ∷ ds, 32 ∷ rest) = ap (demands_read scope part) (append_assoc text (32 ∷ []) rest) ∙ read in
      rw (scope_has ks sort.Type d.param are.0.named, grouped) refl

  -- routines
  demands_end : (ds : List Demanded) (rest : List ℕ) → is_stop rest ≡ true → is_stop (demands_text ds ++ rest) ≡ true
  demands_end [] rest stop = stop
  demands_end (d ∷ ds) rest stop = refl

  operation_by : (op : Operation) (bytes behind_heading rest : List ℕ) → heading_read part op.iter bytes ≡ Ok ((op.args, op.results, op.signals), behind_heading) → all_demands_read scope part behind_heading ≡ Ok (op.demands, rest)
      → operation_read scope part op.name op.iter bytes ≡ Ok (op, rest)
  unfolding operation_read
  operation_by op bytes behind_heading rest h d = rw (h, d) refl

  operation_again : (op : Operation) (rest : List ℕ) → IsOperation scope op → length (routine_text op) ≤ depth → is_stop rest ≡ true → begins_with 32 rest ≡ false → operation_read scope part op.name op.iter (routine_text op ++ rest) ≡ Ok (op, rest)
  operation_again op rest is short stop none =
      let len = length-append (heading_text op.iter op.args op.results op.signals) (demands_text op.demands) in
      let parts = heading_parts op.iter op.args op.results op.signals in
      let behind_heading : List ℕ = demands_text op.demands ++ rest in
      operation_by op (routine_text op ++ rest) behind_heading rest
      (ap (heading_read part op.iter) (append_assoc (heading_text op.iter op.args op.results op.signals) (demands_text op.demands) rest)
      ∙ heading_again scope part op.iter op.args op.results op.signals behind_heading is.0 is.2 (types_all scope (scope_has ks) op.args is.0 depth (omega (arith, short, len, parts)))
      (types_all scope (scope_has ks) op.results is.1 depth (omega (arith, short, len, parts))) (signals_all scope (scope_has ks) op.signals [] is.2 depth (omega (arith, short, len, parts))) (demands_end op.demands rest stop))
      (all_demands_again op.demands rest is.3 (omega (arith, short, len)) none)

  -- operations
  abbrev ops_step : List Operation × List ℕ → List ℕ → Read (List Operation × List ℕ)
  ops_step made bytes = operations_step scope part made bytes

  abbrev ops_next : List Operation × List ℕ → List ℕ → Option (List ℕ)
  ops_next made rest = operations_next scope part made rest

  abbrev ops_text : List Operation → List ℕ
  ops_text ops = flat_map op_text ops

  ops_stop : (ops : List Operation) → is_stop (ops_text ops) ≡ true
  ops_stop [] = refl
  ops_stop (op ∷ ops) = refl

  ops_no_blank : (ops : List Operation) → begins_with 32 (ops_text ops) ≡ false
  ops_no_blank [] = refl
  ops_no_blank (op ∷ ops) = refl

  op_worded : (name : List ℕ) (op : Operation) (rest : List ℕ) → IsName 200 op.name → is_before name op.name ≡ true
      → operation_word_read name (59 ∷ (op.name ++ 58 ∷ (routine_word op.iter ++ rest))) ≡ Ok ((op.name, op.iter), rest)
  unfolding operation_word_read literal_at
  op_worded name op rest is before = rw (name_again name op.name (58 ∷ (routine_word op.iter ++ rest)) 200 is before refl, word_again op.iter rest) refl

  ops_turn : (name : List ℕ) (made : List Operation) (op : Operation) (rest : List ℕ) → IsName 200 op.name → is_before name op.name ≡ true → IsOperation scope op → length (routine_text op) ≤ depth → is_stop rest ≡ true → begins_with 32 rest ≡ false
      → ops_step (made, name) (op_text op ++ rest) ≡ Ok ((made ++ op ∷ [], op.name), rest)
  unfolding named_operation_read
  ops_turn name made op rest named before is short stop none =
      let after : List ℕ = routine_text op ++ rest in
      let grouped : op_text op ++ rest ≡ 59 ∷ (op.name ++ 58 ∷ (routine_word op.iter ++ after)) = simp append_assoc in
      let worded : operation_word_read name (op_text op ++ rest) ≡ Ok ((op.name, op.iter), after) = ap (operation_word_read name) grouped ∙ op_worded name op after named before in
      rw (worded, operation_again op rest is short stop none) refl

  op_short : (op : Operation) → length (routine_text op) ≤ length (op_text op)
  op_short op = omega (arith, length-append op.name (58 ∷ (routine_word op.iter ++ routine_text op)), length-append (routine_word op.iter) (routine_text op))

  op_some : (op : Operation) → 0 < length (op_text op)
  op_some op = omega arith

  ops_row : (ops : List Operation) (name : List ℕ) → IsName 200 name → AreOperations scope name ops → length (ops_text ops) ≤ depth → (n : ℕ) (made : List Operation) → length (ops_text ops) ≤ n
      → without_name (behind_item ops_step ops_next n (made, name) (ops_text ops)) ≡ Ok (made ++ ops, [])
  ops_row [] name is are short n made le = rw (or_right (not (has_later name)) true refl) (ap (λ (x : List Operation). Ok (x, [])) (sym (append-nil made)))
  ops_row (op ∷ ops) name is are short zero made le = absurd (omega (arith, le, op_some op, length-append (op_text op) (ops_text ops)))
  ops_row (op ∷ ops) name is are short (suc n) made le =
      let len = length-append (op_text op) (ops_text ops) in
      rw (later_some name op.name is are.0 are.1)
      (ap without_name (item ops_step ops_next n (made, name) (made ++ op ∷ [], op.name) (op_text op ++ ops_text ops) (ops_text ops)
      (ops_turn name made op (ops_text ops) are.0 are.1 are.2 (omega (arith, short, len, op_short op)) (ops_stop ops) (ops_no_blank ops)))
      ∙ ops_row ops op.name are.0 are.3 (omega (arith, short, len)) n (made ++ op ∷ []) (omega (arith, le, len, op_some op))
      ∙ ap (λ (x : List Operation). Ok (x, [])) (append_assoc made (op ∷ []) ops))

  ops_by : (bytes : List ℕ) (n : ℕ) (ops : List Operation) → length bytes ≡ n → without_name (several ops_step ops_next n ([], []) bytes) ≡ Ok (ops, []) → operations_read scope part bytes ≡ Ok (ops, [])
  unfolding operations_read
  ops_by bytes n ops e s = rw e s

  operations_again : (ops : List Operation) → 0 < length ops → AreOperations scope [] ops → length (ops_text ops) ≤ depth → operations_read scope part (ops_text ops) ≡ Ok (ops, [])
  operations_again [] some are short = absurd (omega (arith, some))
  operations_again (op ∷ ops) some are short =
      let len = length-append (op_text op) (ops_text ops) in
      let n : ℕ = length (ops_text (op ∷ ops)) - 1 in
      let turned = item ops_step ops_next n ([], []) (op ∷ [], op.name) (op_text op ++ ops_text ops) (ops_text ops)
      (ops_turn [] [] op (ops_text ops) are.0 are.1 are.2 (omega (arith, short, len, op_short op)) (ops_stop ops) (ops_no_blank ops)) in
      ops_by (ops_text (op ∷ ops)) (suc n) (op ∷ ops) (omega (arith, len, op_some op))
      (ap without_name turned ∙ ops_row ops op.name are.0 are.3 (omega (arith, short, len)) n (op ∷ []) (omega (arith, len, op_some op)))

  form_by : (ds : List Demanded) (ops : List Operation) (bytes : List ℕ) → all_demands_read scope part bytes ≡ Ok (ds, codes "is" ++ ops_text ops) → operations_read scope part (ops_text ops) ≡ Ok (ops, [])
      → cluster_form_read scope part bytes ≡ Ok (cluster ds ops, [])
  unfolding cluster_form_read literal_at
  form_by ds ops bytes d o = rw (d, o) refl

-- whole specifications
routine_by : (name : List ℕ) (depth : ℕ) (ks : List ParamKind) (op : Operation) (bytes behind_word behind_kinds : List ℕ) → op.name ≡ name → routine_word_read bytes ≡ Ok (op.iter, behind_word) → parameters_read behind_word ≡ Ok (ks, behind_kinds)
    → operation_read (scope_of ks) (type_read (scope_of ks) depth) op.name op.iter behind_kinds ≡ Ok (op, []) → routine_read name depth bytes ≡ Ok (record { name = name; kinds = ks; shape = routine op })
unfolding routine_read
routine_by name depth ks op bytes behind_word behind_kinds e w p o = rw (w, p, ← e, o) refl

cluster_by : (name : List ℕ) (depth : ℕ) (ks : List ParamKind) (shape : Shape) (rest behind_kinds : List ℕ) → parameters_read rest ≡ Ok (ks, behind_kinds) → cluster_form_read (scope_of ks) (type_read (scope_of ks) depth) behind_kinds ≡ Ok (shape, [])
    → cluster_read name depth (codes "cluster" ++ rest) ≡ Ok (record { name = name; kinds = ks; shape = shape })
unfolding cluster_read literal_at
cluster_by name depth ks shape rest behind_kinds p f = rw (p, f) refl

whole_by : (name bytes rest : List ℕ) (s : Specification) → name_after [] 200 bytes ≡ Ok (name, 61 ∷ rest) → bytes_eq name (codes "stream") ≡ false
    → (if begins_with 99 rest then cluster_read name (length bytes) rest else routine_read name (length bytes) rest) ≡ Ok s → whole_spec bytes ≡ Ok s
unfolding whole_spec literal_at
whole_by name bytes rest s n o r = rw (n, o) r

no_cluster : (iter : Bool) (rest : List ℕ) → begins_with 99 (routine_word iter ++ rest) ≡ false
no_cluster true rest = refl
no_cluster false rest = refl

no_bracket : (ds : List Demanded) (rest : List ℕ) → behind 91 (demands_text ds ++ (codes "is" ++ rest)) ≡ None
no_bracket [] rest = refl
no_bracket (d ∷ ds) rest = refl

shaped_again : (name bytes : List ℕ) (ks : List ParamKind) (shape : Shape) → IsName 200 name → bytes_eq name (codes "stream") ≡ false → length ks ≤ 4294967295 → IsShape (scope_of ks) name shape
    → bytes ≡ name ++ shape_text ks shape → whole_spec bytes ≡ Ok (record { name = name; kinds = ks; shape = shape })
shaped_again name bytes ks (routine op) named other few is e =
    let depth : ℕ = length bytes in
    let behind_word : List ℕ = kinds_text ks ++ routine_text op in
    let rest : List ℕ = routine_word op.iter ++ behind_word in
    let short : length (routine_text op) ≤ depth =
    omega (arith, ap length e, length-append name (61 ∷ rest), length-append (routine_word op.iter) behind_word, length-append (kinds_text ks) (routine_text op)) in
    let operation : operation_read (scope_of ks) (type_read (scope_of ks) depth) op.name op.iter (routine_text op) ≡ Ok (op, []) =
    ap (operation_read (scope_of ks) (type_read (scope_of ks) depth) op.name op.iter) (sym (append-nil (routine_text op))) ∙ operation_again ks depth op [] is.1 short refl refl in
    whole_by name bytes rest (record { name = name; kinds = ks; shape = routine op }) (ap (name_after [] 200) e ∙ name_again [] name (61 ∷ rest) 200 named (before_any name named.begins) refl) other
    (rw (no_cluster op.iter behind_word) (routine_by name depth ks op rest behind_word (routine_text op) is.0 (word_again op.iter behind_word) (parameters_again ks (routine_text op) few refl) operation))
shaped_again name bytes ks (cluster ds ops) named other few is e =
    let depth : ℕ = length bytes in
    let form : List ℕ = demands_text ds ++ (codes "is" ++ flat_map op_text ops) in
    let rest : List ℕ = codes "cluster" ++ (kinds_text ks ++ form) in
    let len = length-append name (61 ∷ rest) in
    let kinds_len = length-append (kinds_text ks) form in
    let form_len = length-append (demands_text ds) (codes "is" ++ flat_map op_text ops) in
    whole_by name bytes rest (record { name = name; kinds = ks; shape = cluster ds ops }) (ap (name_after [] 200) e ∙ name_again [] name (61 ∷ rest) 200 named (before_any name named.begins) refl) other
    (cluster_by name depth ks (cluster ds ops) (kinds_text ks ++ form) form (parameters_again ks form few (no_bracket ds (flat_map op_text ops)))
    (form_by ks depth ds ops form (all_demands_again ks depth ds (codes "is" ++ flat_map op_text ops) is.0 (omega (arith, ap length e, len, kinds_len, form_len)) refl)
    (operations_again ks depth ops is.1 is.2 (omega (arith, ap length e, len, kinds_len, form_len)))))

pub spec_again : (s : Specification) (bytes : List ℕ) → IsSpecification s → bytes ≡ spec_text s → whole_spec bytes ≡ Ok s
spec_again s bytes is e = shaped_again s.name bytes s.kinds s.shape is.named is.other is.few is.shaped e
