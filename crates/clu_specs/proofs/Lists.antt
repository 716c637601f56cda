-- Lists of types, selectors, signals and actual parameters: what is written of them is read again, where this is so of
-- the types in them.
use Rattle.std.proofs.Common.{◌≡◌, ℕ, zero, suc, ◌+◌, ◌≤◌, Bool, true, false, ◌==◌, List, [], ◌∷◌, ◌++◌, length, codes, Option, Some, None, Ok, refl, sym, ap, subst, ◌∙◌, arith, length-append, append_assoc}
use Rattle.std.specs.Str.{bytes_eq}
use Rattle.clu_base.proofs.Bools.{same_either}
use Rattle.clu_types.specs.CluType.{CluType, CluTypes, no_types, type_and, Fields, no_fields, field_and, Signals, no_signals, signal_and}
use Rattle.clu_specs.specs.declared.scope.Scope.{Scope}
use Rattle.clu_specs.specs.Reading.{◌>>=◌, Read, behind, begins_with, literal_at, several}
use Rattle.clu_specs.specs.Names.{goes_on_name, word_len, is_before, name_after, has_later}
use Rattle.clu_specs.specs.Texts.{type_text, types_text, more_types_text, closed_text, fields_text, more_fields_text, more_signals_text, all_signals_text, heading_text, results_word}
use Rattle.clu_specs.specs.TypeReading.{Reader, types_joined, fields_joined, signals_joined, types_step, fields_step, signals_step, next_after, signal_name_after, types_read, closed_types_read, field_read, fields_read, signal_read, objects_by, objects_read, signals_read, arguments_by, arguments_read, results_read, all_signals_read, heading_read}
use Rattle.clu_specs.specs.Grammar.{IsName, HasFields, AreTypes, AreFields, AreSignals}
use Rattle.clu_specs.proofs.Words.{name_again, later_some}
use Rattle.clu_specs.proofs.Heads.{is_stop, stop_word, stop_begins, types_joined_assoc, fields_joined_assoc, signals_joined_assoc, types_joined_none, fields_joined_none, signals_joined_none, behind_item, item, Head, head_of, head_no_mark}

-- no mark but a comma goes on
next_none : (name rest : List ℕ) (b : ℕ) → (b == 44) ≡ false → next_after name (b ∷ rest) ≡ None
next_none name rest b e = rw e (same_either (has_later name) None)

next_some : (name rest : List ℕ) → has_later name ≡ true → next_after name (44 ∷ rest) ≡ Some rest
next_some name rest e = rw e refl

-- what is read of items, without the name of the last
abbrev pub without_name : {A : Type 0} → Read (A × List ℕ) → Read A
without_name read = read >>= λ x. Ok (x.0.0, x.1)

module _ (scope : Scope) (part : Reader CluType) where
  -- a type is read again, whatever may follow it
  abbrev pub Again : CluType → Type 0
  Again t = (rest : List ℕ) → is_stop rest ≡ true → part (type_text t ++ rest) ≡ Ok (t, rest)

  -- so are all types of a list
  abbrev pub AllTypes : CluTypes → Type 0
  AllTypes no_types = Unit {0}
  AllTypes (type_and t ts) = Again t × AllTypes ts

  abbrev pub AllFields : Fields → Type 0
  AllFields no_fields = Unit {0}
  AllFields (field_and name t fs) = Again t × AllFields fs

  abbrev pub AllSignals : Signals → Type 0
  AllSignals no_signals = Unit {0}
  AllSignals (signal_and name ts ss) = AllTypes ts × AllSignals ss

  -- types
  types_stop : (ts : CluTypes) (rest : List ℕ) → is_stop (more_types_text ts ++ 41 ∷ rest) ≡ true
  types_stop no_types rest = refl
  types_stop (type_and t ts) rest = refl

  abbrev types_behind : ℕ → CluTypes → List ℕ → Read CluTypes
  types_behind n made bytes = behind_item (types_step part) (λ made rest. behind 44 rest) n made bytes

  types_turn : (t : CluType) (made : CluTypes) (text rest : List ℕ) → Again t → is_stop (text ++ 41 ∷ rest) ≡ true
      → types_step part made ((type_text t ++ text) ++ 41 ∷ rest) ≡ Ok (types_joined made (type_and t no_types), text ++ 41 ∷ rest)
  types_turn t made text rest again stop =
      let read : part ((type_text t ++ text) ++ 41 ∷ rest) ≡ Ok (t, text ++ 41 ∷ rest) = ap part (append_assoc (type_text t) text (41 ∷ rest)) ∙ again (text ++ 41 ∷ rest) stop in
      rw read refl

  types_row : (ts : CluTypes) → AllTypes ts → (n : ℕ) (made : CluTypes) (rest : List ℕ) → length (more_types_text ts) ≤ n
      → types_behind n made (more_types_text ts ++ 41 ∷ rest) ≡ Ok (types_joined made ts, 41 ∷ rest)
  types_row no_types all n made rest le = ap (λ (x : CluTypes). Ok (x, 41 ∷ rest)) (sym (types_joined_none made))
  types_row (type_and t ts) all zero made rest le = absurd (omega (arith, le))
  types_row (type_and t ts) all (suc n) made rest le =
      let more : CluTypes = types_joined made (type_and t no_types) in
      item (types_step part) (λ made rest. behind 44 rest) n made more ((type_text t ++ more_types_text ts) ++ 41 ∷ rest) (more_types_text ts ++ 41 ∷ rest)
      (types_turn t made (more_types_text ts) rest all.0 (types_stop ts rest))
      ∙ types_row ts all.1 n more rest (omega (arith, le, length-append (type_text t) (more_types_text ts)))
      ∙ ap (λ (x : CluTypes). Ok (x, 41 ∷ rest)) (types_joined_assoc made (type_and t no_types) ts)

  types_by : (bytes rest : List ℕ) (n : ℕ) (ts : CluTypes) → length bytes ≡ n → several (types_step part) (λ made rest. behind 44 rest) n no_types bytes ≡ Ok (ts, 41 ∷ rest) → closed_types_read part bytes ≡ Ok (ts, rest)
  unfolding closed_types_read types_read literal_at
  types_by bytes rest n ts e s =
      let read : several (types_step part) (λ made rest. behind 44 rest) (length bytes) no_types bytes ≡ Ok (ts, 41 ∷ rest) = rw e s in
      rw read refl

  pub closed_again : (t : CluType) (ts : CluTypes) (rest : List ℕ) → Again t → AllTypes ts → closed_types_read part ((type_text t ++ more_types_text ts) ++ 41 ∷ rest) ≡ Ok (type_and t ts, rest)
  closed_again t ts rest again all =
      let bytes : List ℕ = (type_text t ++ more_types_text ts) ++ 41 ∷ rest in
      let n : ℕ = length (type_text t ++ more_types_text ts) + length rest in
      let len : length bytes ≡ suc n = omega (arith, length-append (type_text t ++ more_types_text ts) (41 ∷ rest)) in
      types_by bytes rest (suc n) (type_and t ts) len
      (item (types_step part) (λ made rest. behind 44 rest) n no_types (type_and t no_types) bytes (more_types_text ts ++ 41 ∷ rest) (types_turn t no_types (more_types_text ts) rest again (types_stop ts rest))
      ∙ types_row ts all n (type_and t no_types) rest (omega (arith, length-append (type_text t) (more_types_text ts))))

  -- fields
  fields_stop : (fs : Fields) (rest : List ℕ) → is_stop (more_fields_text fs ++ 93 ∷ rest) ≡ true
  fields_stop no_fields rest = refl
  fields_stop (field_and name t fs) rest = refl

  abbrev fields_next : Fields × List ℕ → List ℕ → Option (List ℕ)
  fields_next made rest = next_after made.1 rest

  fields_turn : (name : List ℕ) (t : CluType) (made : Fields) (before text rest : List ℕ) → IsName 200 name → is_before before name ≡ true → Again t → is_stop (text ++ 93 ∷ rest) ≡ true
      → fields_step part (made, before) (((name ++ 58 ∷ type_text t) ++ text) ++ 93 ∷ rest) ≡ Ok ((fields_joined made (field_and name t no_fields), name), text ++ 93 ∷ rest)
  unfolding literal_at field_read
  fields_turn name t made before text rest is after again stop =
      let grouped : ((name ++ 58 ∷ type_text t) ++ text) ++ 93 ∷ rest ≡ name ++ 58 ∷ (type_text t ++ (text ++ 93 ∷ rest)) = simp append_assoc in
      let named : name_after before 200 (((name ++ 58 ∷ type_text t) ++ text) ++ 93 ∷ rest) ≡ Ok (name, 58 ∷ (type_text t ++ (text ++ 93 ∷ rest))) =
      ap (name_after before 200) grouped ∙ name_again before name (58 ∷ (type_text t ++ (text ++ 93 ∷ rest))) 200 is after refl in
      rw (named, again (text ++ 93 ∷ rest) stop) refl

  fields_row : (fs : Fields) (before : List ℕ) → IsName 200 before → AreFields scope before fs → AllFields fs → (n : ℕ) (made : Fields) (rest : List ℕ) → length (more_fields_text fs) ≤ n
      → without_name (behind_item (fields_step part) fields_next n (made, before) (more_fields_text fs ++ 93 ∷ rest)) ≡ Ok (fields_joined made fs, 93 ∷ rest)
  fields_row no_fields before is are all n made rest le =
      rw (next_none before rest 93 refl) (ap (λ (x : Fields). Ok (x, 93 ∷ rest)) (sym (fields_joined_none made)))
  fields_row (field_and name t fs) before is are all zero made rest le = absurd (omega (arith, le))
  fields_row (field_and name t fs) before is are all (suc n) made rest le =
      let more : Fields = fields_joined made (field_and name t no_fields) in
      let text : List ℕ = ((name ++ 58 ∷ type_text t) ++ more_fields_text fs) ++ 93 ∷ rest in
      let turned = item (fields_step part) fields_next n (made, before) (more, name) text (more_fields_text fs ++ 93 ∷ rest)
      (fields_turn name t made before (more_fields_text fs) rest are.0 are.1 all.0 (fields_stop fs rest)) in
      rw (next_some before text (later_some before name is are.0 are.1))
      (ap without_name turned
      ∙ fields_row fs name are.0 are.3 all.1 n more rest (omega (arith, le, length-append (name ++ 58 ∷ type_text t) (more_fields_text fs)))
      ∙ ap (λ (x : Fields). Ok (x, 93 ∷ rest)) (fields_joined_assoc made (field_and name t no_fields) fs))

  fields_by : (bytes rest : List ℕ) (n : ℕ) (fs : Fields) → length bytes ≡ n → without_name (several (fields_step part) fields_next n (no_fields, []) bytes) ≡ Ok (fs, 93 ∷ rest) → fields_read part bytes ≡ Ok (fs, 93 ∷ rest)
  unfolding fields_read
  fields_by bytes rest n fs e s = rw e s

  pub fields_again : (fs : Fields) (rest : List ℕ) → HasFields fs → AreFields scope [] fs → AllFields fs → fields_read part (fields_text fs ++ 93 ∷ rest) ≡ Ok (fs, 93 ∷ rest)
  fields_again no_fields rest has are all = absurd has
  fields_again (field_and name t fs) rest has are all =
      let bytes : List ℕ = ((name ++ 58 ∷ type_text t) ++ more_fields_text fs) ++ 93 ∷ rest in
      let n : ℕ = length ((name ++ 58 ∷ type_text t) ++ more_fields_text fs) + length rest in
      let len : length bytes ≡ suc n = omega (arith, length-append ((name ++ 58 ∷ type_text t) ++ more_fields_text fs) (93 ∷ rest)) in
      let turned = item (fields_step part) fields_next n (no_fields, []) (field_and name t no_fields, name) bytes (more_fields_text fs ++ 93 ∷ rest)
      (fields_turn name t no_fields [] (more_fields_text fs) rest are.0 are.1 all.0 (fields_stop fs rest)) in
      fields_by bytes rest (suc n) (field_and name t fs) len
      (ap without_name turned ∙ fields_row fs name are.0 are.3 all.1 n (field_and name t no_fields) rest (omega (arith, length-append (name ++ 58 ∷ type_text t) (more_fields_text fs))))

  -- signals, each with its objects' types
  objects_stop : (ts : CluTypes) (rest : List ℕ) → is_stop rest ≡ true → word_len (closed_text (40 ∷ []) ts ++ rest) ≡ 0
  objects_stop no_types rest stop = stop_word rest stop
  objects_stop (type_and t ts) rest stop = refl

  objects_again : (ts : CluTypes) (rest : List ℕ) → AllTypes ts → behind 40 rest ≡ None → objects_read part (closed_text (40 ∷ []) ts ++ rest) ≡ Ok (ts, rest)
  unfolding objects_by
  objects_again no_types rest all none = rw none refl
  objects_again (type_and t ts) rest all none =
      ap (closed_types_read part) (append_assoc (type_text t ++ more_types_text ts) (41 ∷ []) rest) ∙ closed_again t ts rest all.0 all.1

  signals_stop : (ss : Signals) (rest : List ℕ) → is_stop (more_signals_text ss ++ 41 ∷ rest) ≡ true
  signals_stop no_signals rest = refl
  signals_stop (signal_and name ts ss) rest = refl

  signals_no_mark : (ss : Signals) (rest : List ℕ) → behind 40 (more_signals_text ss ++ 41 ∷ rest) ≡ None
  signals_no_mark no_signals rest = refl
  signals_no_mark (signal_and name ts ss) rest = refl

  abbrev signals_next : Signals × List ℕ → List ℕ → Option (List ℕ)
  signals_next made rest = next_after made.1 rest

  signal_named : (before name rest : List ℕ) → IsName 200 name → bytes_eq name (codes "failure") ≡ false → is_before before name ≡ true → word_len rest ≡ 0 → signal_name_after before (name ++ rest) ≡ Ok (name, rest)
  unfolding signal_name_after
  signal_named before name rest is other after stop = rw (name_again before name rest 200 is after stop, other) refl

  signals_turn : (name : List ℕ) (ts : CluTypes) (made : Signals) (before text rest : List ℕ) → IsName 200 name → bytes_eq name (codes "failure") ≡ false → is_before before name ≡ true → AllTypes ts
      → is_stop (text ++ 41 ∷ rest) ≡ true → behind 40 (text ++ 41 ∷ rest) ≡ None
      → signals_step part (made, before) (((name ++ closed_text (40 ∷ []) ts) ++ text) ++ 41 ∷ rest) ≡ Ok ((signals_joined made (signal_and name ts no_signals), name), text ++ 41 ∷ rest)
  unfolding signal_read
  signals_turn name ts made before text rest is other after all stop none =
      let behind_name : List ℕ = closed_text (40 ∷ []) ts ++ (text ++ 41 ∷ rest) in
      let grouped : ((name ++ closed_text (40 ∷ []) ts) ++ text) ++ 41 ∷ rest ≡ name ++ behind_name = simp append_assoc in
      let named : signal_name_after before (((name ++ closed_text (40 ∷ []) ts) ++ text) ++ 41 ∷ rest) ≡ Ok (name, behind_name) =
      ap (signal_name_after before) grouped ∙ signal_named before name behind_name is other after (objects_stop ts (text ++ 41 ∷ rest) stop) in
      rw (named, objects_again ts (text ++ 41 ∷ rest) all none) refl

  signals_row : (ss : Signals) (before : List ℕ) → IsName 200 before → AreSignals scope before ss → AllSignals ss → (n : ℕ) (made : Signals) (rest : List ℕ) → length (more_signals_text ss) ≤ n
      → without_name (behind_item (signals_step part) signals_next n (made, before) (more_signals_text ss ++ 41 ∷ rest)) ≡ Ok (signals_joined made ss, 41 ∷ rest)
  signals_row no_signals before is are all n made rest le =
      rw (next_none before rest 41 refl) (ap (λ (x : Signals). Ok (x, 41 ∷ rest)) (sym (signals_joined_none made)))
  signals_row (signal_and name ts ss) before is are all zero made rest le = absurd (omega (arith, le))
  signals_row (signal_and name ts ss) before is are all (suc n) made rest le =
      let more : Signals = signals_joined made (signal_and name ts no_signals) in
      let text : List ℕ = ((name ++ closed_text (40 ∷ []) ts) ++ more_signals_text ss) ++ 41 ∷ rest in
      let turned = item (signals_step part) signals_next n (made, before) (more, name) text (more_signals_text ss ++ 41 ∷ rest)
      (signals_turn name ts made before (more_signals_text ss) rest are.0 are.1 are.2 all.0 (signals_stop ss rest) (signals_no_mark ss rest)) in
      rw (next_some before text (later_some before name is are.0 are.2))
      (ap without_name turned
      ∙ signals_row ss name are.0 are.4 all.1 n more rest (omega (arith, le, length-append (name ++ closed_text (40 ∷ []) ts) (more_signals_text ss)))
      ∙ ap (λ (x : Signals). Ok (x, 41 ∷ rest)) (signals_joined_assoc made (signal_and name ts no_signals) ss))

  signals_by : (bytes rest : List ℕ) (n : ℕ) (ss : Signals) → length bytes ≡ n → without_name (several (signals_step part) signals_next n (no_signals, []) bytes) ≡ Ok (ss, 41 ∷ rest) → signals_read part bytes ≡ Ok (ss, 41 ∷ rest)
  unfolding signals_read
  signals_by bytes rest n ss e s = rw e s

  signals_listed : (name : List ℕ) (ts : CluTypes) (ss : Signals) (rest : List ℕ) → AreSignals scope [] (signal_and name ts ss) → AllTypes ts → AllSignals ss
      → signals_read part (((name ++ closed_text (40 ∷ []) ts) ++ more_signals_text ss) ++ 41 ∷ rest) ≡ Ok (signal_and name ts ss, 41 ∷ rest)
  signals_listed name ts ss rest are all others =
      let bytes : List ℕ = ((name ++ closed_text (40 ∷ []) ts) ++ more_signals_text ss) ++ 41 ∷ rest in
      let n : ℕ = length ((name ++ closed_text (40 ∷ []) ts) ++ more_signals_text ss) + length rest in
      let len : length bytes ≡ suc n = omega (arith, length-append ((name ++ closed_text (40 ∷ []) ts) ++ more_signals_text ss) (41 ∷ rest)) in
      let turned = item (signals_step part) signals_next n (no_signals, []) (signal_and name ts no_signals, name) bytes (more_signals_text ss ++ 41 ∷ rest)
      (signals_turn name ts no_signals [] (more_signals_text ss) rest are.0 are.1 are.2 all (signals_stop ss rest) (signals_no_mark ss rest)) in
      signals_by bytes rest (suc n) (signal_and name ts ss) len
      (ap without_name turned ∙ signals_row ss name are.0 are.4 others n (signal_and name ts no_signals) rest (omega (arith, length-append (name ++ closed_text (40 ∷ []) ts) (more_signals_text ss))))

  all_signals_again : (ss : Signals) (rest : List ℕ) → AreSignals scope [] ss → AllSignals ss → is_stop rest ≡ true → all_signals_read part (all_signals_text ss ++ rest) ≡ Ok (ss, rest)
  unfolding all_signals_read literal_at
  all_signals_again no_signals rest are all stop = rw (stop_begins 115 rest stop refl) refl
  all_signals_again (signal_and name ts ss) rest are all stop =
      let text : List ℕ = (name ++ closed_text (40 ∷ []) ts) ++ more_signals_text ss in
      let read : signals_read part ((text ++ 41 ∷ []) ++ rest) ≡ Ok (signal_and name ts ss, 41 ∷ rest) = ap (signals_read part) (append_assoc text (41 ∷ []) rest) ∙ signals_listed name ts ss rest are all.0 all.1 in
      rw read refl

  -- headings
  arguments_again : (ts : CluTypes) (rest : List ℕ) → AreTypes scope ts → AllTypes ts → arguments_read part (40 ∷ (types_text ts ++ 41 ∷ rest)) ≡ Ok (ts, rest)
  unfolding arguments_read arguments_by literal_at
  arguments_again no_types rest are all = refl
  arguments_again (type_and t ts) rest are all =
      let bytes : List ℕ = (type_text t ++ more_types_text ts) ++ 41 ∷ rest in
      let head : Head bytes = subst Head (sym (append_assoc (type_text t) (more_types_text ts) (41 ∷ rest))) (head_of scope t (more_types_text ts ++ 41 ∷ rest) are.0) in
      rw (head_no_mark 41 bytes head refl) (closed_again t ts rest all.0 all.1)

  results_again : (iter : Bool) (ts : CluTypes) (rest : List ℕ) → AllTypes ts → begins_with 121 rest ≡ false → begins_with 114 rest ≡ false → results_read part iter (closed_text (results_word iter) ts ++ rest) ≡ Ok (ts, rest)
  unfolding results_read literal_at
  results_again true no_types rest all y r = rw y refl
  results_again false no_types rest all y r = rw r refl
  results_again true (type_and t ts) rest all y r = ap (closed_types_read part) (append_assoc (type_text t ++ more_types_text ts) (41 ∷ []) rest) ∙ closed_again t ts rest all.0 all.1
  results_again false (type_and t ts) rest all y r = ap (closed_types_read part) (append_assoc (type_text t ++ more_types_text ts) (41 ∷ []) rest) ∙ closed_again t ts rest all.0 all.1

  signals_begin : (m : ℕ) (ss : Signals) (rest : List ℕ) → is_stop rest ≡ true → goes_on_name m ≡ true → (115 == m) ≡ false → begins_with m (all_signals_text ss ++ rest) ≡ false
  signals_begin m no_signals rest stop g e = stop_begins m rest stop g
  signals_begin m (signal_and name ts ss) rest stop g e = e

  heading_by : (iter : Bool) (args results : CluTypes) (signals : Signals) (bytes a b rest : List ℕ) → arguments_read part bytes ≡ Ok (args, a) → results_read part iter a ≡ Ok (results, b) → all_signals_read part b ≡ Ok (signals, rest)
      → heading_read part iter bytes ≡ Ok ((args, results, signals), rest)
  unfolding heading_read
  heading_by iter args results signals bytes a b rest x y z = rw (x, y, z) refl

  pub heading_again : (iter : Bool) (args results : CluTypes) (signals : Signals) (rest : List ℕ) → AreTypes scope args → AreSignals scope [] signals → AllTypes args → AllTypes results → AllSignals signals → is_stop rest ≡ true
      → heading_read part iter (heading_text iter args results signals ++ rest) ≡ Ok ((args, results, signals), rest)
  heading_again iter args results signals rest are_args are_signals all_args all_results all_signals stop =
      let b : List ℕ = all_signals_text signals ++ rest in
      let a : List ℕ = closed_text (results_word iter) results ++ b in
      let grouped : heading_text iter args results signals ++ rest ≡ 40 ∷ (types_text args ++ 41 ∷ a) = simp append_assoc in
      heading_by iter args results signals (heading_text iter args results signals ++ rest) a b rest
      (ap (arguments_read part) grouped ∙ arguments_again args a are_args all_args)
      (results_again iter results b all_results (signals_begin 121 signals rest stop refl refl) (signals_begin 114 signals rest stop refl refl))
      (all_signals_again signals rest are_signals all_signals stop)
