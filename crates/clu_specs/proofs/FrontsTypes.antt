-- Lists of types, selectors, signals and headings: where one is refused, the bytes before that begin one of the grammar, where this is so of the types in it.
use Rattle.std.proofs.Common.{◌≡◌, ℕ, Bool, true, false, ◌⊎◌, List, [], ◌∷◌, ◌++◌, length, codes, Option, Some, None, Ok, Err, refl, sym, ap, subst, ◌∙◌, arith, append_assoc, append-nil, inl, inr}
use Rattle.std.specs.Str.{bytes_eq}
use Rattle.std.proofs.lemmas.Option.{none-some}
use Rattle.clu_types.specs.CluType.{CluType, any_type, CluTypes, no_types, type_and, Fields, no_fields, field_and, Signals, no_signals, signal_and}
use Rattle.clu_specs.specs.declared.scope.Scope.{Scope}
use Rattle.clu_specs.specs.Reading.{◌>>=◌, literal_at, behind, begins_with, several}
use Rattle.clu_specs.specs.Names.{is_before, name_after, has_later}
use Rattle.clu_specs.specs.Texts.{type_text, types_text, closed_text, fields_text, all_signals_text, heading_text, results_word}
use Rattle.clu_specs.specs.TypeReading.{Reader, types_joined, fields_joined, signals_joined, types_step, fields_step, signals_step, next_after, signal_name_after, types_read, closed_types_read, field_read, fields_read, signal_read, objects_by, objects_read, signals_read, arguments_by, arguments_read, results_read, all_signals_read, heading_read}
use Rattle.clu_specs.specs.Grammar.{IsName, HasFields, IsType, AreTypes, AreFields, AreSignals}
use Rattle.clu_specs.proofs.Outcomes.{either, literal_spelled, behind_spelled}
use Rattle.clu_specs.proofs.Spelled.{name_read}
use Rattle.clu_specs.proofs.TypesSpelled.{Sound, types_led, HasTypes, types_joined_text, types_joined_some, types_joined_are, fields_led, last_field, fields_joined_text, fields_joined_some, fields_joined_are, signal_spelled, signals_text, signals_led, HasSignals, last_signal, signals_joined_text, signals_joined_some, signals_joined_are, all_signals_shown, closed_shown, TypesRead, TypesBefore, types_on, types_next, types_spelled, FieldsBefore, FieldsAfter, fields_on, fields_next, signal_named, SignalsBefore, SignalsAfter, signals_on, signals_next, signals_spelled, results_spelled, arguments_spelled}
use Rattle.clu_specs.proofs.Fronts.{Front, Fronts, Part, never, at_once, front_on, front_as, and_fails, shown, shown_on, shown_before, literal_front, closing_front, fixed_front, row_front}
use Rattle.clu_specs.proofs.FrontsNames.{NameBegun, Earlier, earlier_none, earlier_name, later_name, OtherBegun, avoiding, name_front, signal_front}

-- a type goes on from the bytes
pub record TypeBegun (scope : Scope) (q : List ℕ) : Type 0 where
  pub t : CluType
  pub rest : List ℕ
  pub is : IsType scope t
  pub spelled : type_text t ≡ q ++ rest

pub any_begun : (scope : Scope) → TypeBegun scope []
any_begun scope = record { t = any_type; rest = codes "any"; is = tt; spelled = refl }

-- types, and types with a closing parenthesis
pub record TypesBegun (scope : Scope) (q : List ℕ) : Type 0 where
  pub ts : CluTypes
  pub rest : List ℕ
  pub are : AreTypes scope ts
  pub some : HasTypes ts
  pub spelled : types_text ts ≡ q ++ rest

pub record ClosedBegun (scope : Scope) (q : List ℕ) : Type 0 where
  pub ts : CluTypes
  pub rest : List ℕ
  pub are : AreTypes scope ts
  pub some : HasTypes ts
  pub spelled : types_text ts ++ 41 ∷ [] ≡ q ++ rest

pub record ListBegun (scope : Scope) (word q : List ℕ) : Type 0 where
  pub ts : CluTypes
  pub rest : List ℕ
  pub are : AreTypes scope ts
  pub spelled : closed_text word ts ≡ q ++ rest

-- selectors
pub record FieldBegun (scope : Scope) (previous q : List ℕ) : Type 0 where
  pub name : List ℕ
  pub t : CluType
  pub rest : List ℕ
  pub is : IsName 200 name
  pub after : is_before previous name ≡ true
  pub typed : IsType scope t
  pub spelled : name ++ 58 ∷ type_text t ≡ q ++ rest

pub record FieldsBegun (scope : Scope) (q : List ℕ) : Type 0 where
  pub fs : Fields
  pub rest : List ℕ
  pub are : AreFields scope [] fs
  pub some : HasFields fs
  pub spelled : fields_text fs ≡ q ++ rest

-- signals
pub record SignalBegun (scope : Scope) (previous q : List ℕ) : Type 0 where
  pub name : List ℕ
  pub ts : CluTypes
  pub rest : List ℕ
  pub is : IsName 200 name
  pub other : bytes_eq name (codes "failure") ≡ false
  pub after : is_before previous name ≡ true
  pub typed : AreTypes scope ts
  pub spelled : signal_spelled name ts ≡ q ++ rest

pub record SignalsBegun (scope : Scope) (q : List ℕ) : Type 0 where
  pub ss : Signals
  pub rest : List ℕ
  pub are : AreSignals scope [] ss
  pub some : HasSignals ss
  pub spelled : signals_text ss ≡ q ++ rest

pub record AllSignalsBegun (scope : Scope) (q : List ℕ) : Type 0 where
  pub ss : Signals
  pub rest : List ℕ
  pub are : AreSignals scope [] ss
  pub spelled : all_signals_text ss ≡ q ++ rest

-- headings
pub record ArgumentsBegun (scope : Scope) (q : List ℕ) : Type 0 where
  pub ts : CluTypes
  pub rest : List ℕ
  pub are : AreTypes scope ts
  pub spelled : 40 ∷ (types_text ts ++ 41 ∷ []) ≡ q ++ rest

pub record HeadingBegun (scope : Scope) (iter : Bool) (q : List ℕ) : Type 0 where
  pub args : CluTypes
  pub results : CluTypes
  pub signals : Signals
  pub rest : List ℕ
  pub args_are : AreTypes scope args
  pub results_are : AreTypes scope results
  pub signals_are : AreSignals scope [] signals
  pub spelled : heading_text iter args results signals ≡ q ++ rest

-- a name comes after another where a comma was taken
pub next_later : (name bytes rest : List ℕ) → next_after name bytes ≡ Some rest → has_later name ≡ true
next_later name bytes rest e = elim (either (has_later name) (behind 44 bytes) None (Some rest) e) [ inl h ↦ h.0 | inr h ↦ absurd (none-some rest h.1) ]

pub first_name : (previous : List ℕ) → Earlier previous → NameBegun previous 200 []
first_name previous p = later_name previous 200 [] previous p (omega arith) refl (omega arith)

pub first_signal : (previous : List ℕ) → Earlier previous → OtherBegun (codes "failure") previous []
first_signal previous p = avoiding (codes "failure") previous [] (omega arith) (first_name previous p)

module _ (scope : Scope) where
  types_item : (made : CluTypes) → AreTypes scope made → (q : List ℕ) → TypeBegun scope q → TypesBegun scope (types_led made ++ q)
  types_item made are q x = record {
    ts = types_joined made (type_and x.t no_types);
    rest = x.rest ++ [];
    are = types_joined_are scope made x.t are x.is;
    some = types_joined_some made x.t;
    spelled = sym (append-nil (types_text (types_joined made (type_and x.t no_types)))) ∙ types_joined_text made x.t [] ∙ shown (types_led made) (type_text x.t) [] q x.rest x.spelled;
  }

  list_on : (word q : List ℕ) → ClosedBegun scope q → ListBegun scope word (word ++ q)
  list_on word q x = record {
    ts = x.ts;
    rest = x.rest;
    are = x.are;
    spelled = sym (append-nil (closed_text word x.ts)) ∙ sym (closed_shown word x.ts [] x.some) ∙ shown_on word (types_text x.ts ++ 41 ∷ []) q x.rest x.spelled;
  }

  list_part : (word q : List ℕ) → Part word q → ListBegun scope word q
  list_part word q x =
      let tail : List ℕ = (codes "any" ++ []) ++ 41 ∷ [] in
      record { ts = type_and any_type no_types; rest = x.0 ++ tail; are = (tt, tt); spelled = shown_before word tail q x.0 x.1 }

  pub field_named : (previous q : List ℕ) → NameBegun previous 200 q → FieldBegun scope previous q
  field_named previous q n = record { name = n.name; t = any_type; rest = n.rest ++ 58 ∷ codes "any"; is = n.is; after = n.after; typed = tt; spelled = shown_before n.name (58 ∷ codes "any") q n.rest n.spelled }

  pub fields_item : (made : Fields) (last : List ℕ) → AreFields scope [] made → last_field [] made ≡ last → (q : List ℕ) → FieldBegun scope last q → FieldsBegun scope (fields_led made ++ q)
  fields_item made last are same q x =
      let after : is_before (last_field [] made) x.name ≡ true = ap (λ (y : List ℕ). is_before y x.name) same ∙ x.after in
      record {
        fs = fields_joined made (field_and x.name x.t no_fields);
        rest = x.rest ++ [];
        are = fields_joined_are scope made [] x.name x.t are x.is after x.typed;
        some = fields_joined_some made x.name x.t;
        spelled = sym (append-nil (fields_text (fields_joined made (field_and x.name x.t no_fields)))) ∙ fields_joined_text made x.name x.t [] ∙ shown (fields_led made) (x.name ++ 58 ∷ type_text x.t) [] q x.rest x.spelled;
      }

  last_field_named : (fs : Fields) (before : List ℕ) → AreFields scope before fs → (last_field before fs ≡ before) ⊎ IsName 200 (last_field before fs)
  last_field_named no_fields before are = inl refl
  last_field_named (field_and n t fs) before are = elim (last_field_named fs n are.3) [ inl same ↦ inr (subst (IsName 200) (sym same) are.0) | inr is ↦ inr is ]

  signal_alone : (previous q : List ℕ) → OtherBegun (codes "failure") previous q → SignalBegun scope previous q
  signal_alone previous q n = record { name = n.begun.name; ts = no_types; rest = n.begun.rest; is = n.begun.is; other = n.other; after = n.begun.after; typed = tt; spelled = append-nil n.begun.name ∙ n.begun.spelled }

  signals_item : (made : Signals) (last : List ℕ) → AreSignals scope [] made → last_signal [] made ≡ last → (q : List ℕ) → SignalBegun scope last q → SignalsBegun scope (signals_led made ++ q)
  signals_item made last are same q x =
      let after : is_before (last_signal [] made) x.name ≡ true = ap (λ (y : List ℕ). is_before y x.name) same ∙ x.after in
      record {
        ss = signals_joined made (signal_and x.name x.ts no_signals);
        rest = x.rest ++ [];
        are = signals_joined_are scope made [] x.name x.ts are x.is x.other after x.typed;
        some = signals_joined_some made x.name x.ts;
        spelled = sym (append-nil (signals_text (signals_joined made (signal_and x.name x.ts no_signals)))) ∙ signals_joined_text made x.name x.ts [] ∙ shown (signals_led made) (signal_spelled x.name x.ts) [] q x.rest x.spelled;
      }

  last_signal_named : (ss : Signals) (before : List ℕ) → AreSignals scope before ss → (last_signal before ss ≡ before) ⊎ IsName 200 (last_signal before ss)
  last_signal_named no_signals before are = inl refl
  last_signal_named (signal_and n ts ss) before are = elim (last_signal_named ss n are.4) [ inl same ↦ inr (subst (IsName 200) (sym same) are.0) | inr is ↦ inr is ]

  -- after a comma that was taken
  pub earlier_by : (last : List ℕ) → (last ≡ []) ⊎ IsName 200 last → has_later last ≡ true → Earlier last
  earlier_by last (inl same) later = subst Earlier (sym same) earlier_none
  earlier_by last (inr is) later = earlier_name last is later

  signals_part : (q : List ℕ) → Part (codes "signals(") q → AllSignalsBegun scope q
  signals_part q x =
      let s = first_signal [] earlier_none in
      let name : List ℕ = s.begun.name in
      let tail : List ℕ = ((name ++ []) ++ []) ++ 41 ∷ [] in
      record { ss = signal_and name no_types no_signals; rest = x.0 ++ tail; are = (s.begun.is, s.other, s.begun.after, tt, tt); spelled = shown_before (codes "signals(") tail q x.0 x.1 }

  signals_inner : (q : List ℕ) → SignalsBegun scope q → AllSignalsBegun scope (codes "signals(" ++ q)
  signals_inner q x = record {
    ss = x.ss;
    rest = x.rest ++ 41 ∷ [];
    are = x.are;
    spelled = sym (append-nil (all_signals_text x.ss)) ∙ sym (all_signals_shown x.ss [] x.some) ∙ shown (codes "signals(") (signals_text x.ss) (41 ∷ []) q x.rest x.spelled;
  }

  signals_end : (ss : Signals) → AreSignals scope [] ss → HasSignals ss → (q : List ℕ) → Part (41 ∷ []) q → AllSignalsBegun scope ((codes "signals(" ++ signals_text ss) ++ q)
  signals_end ss are some q x = record {
    ss = ss;
    rest = x.0;
    are = are;
    spelled = sym (append-nil (all_signals_text ss)) ∙ sym (all_signals_shown ss [] some) ∙ sym (append_assoc (codes "signals(") (signals_text ss) (41 ∷ [])) ∙ shown_on (codes "signals(" ++ signals_text ss) (41 ∷ []) q x.0 x.1;
  }

module _ (scope : Scope) (part : Reader CluType) (sound : Sound scope part) (fronts : Fronts (TypeBegun scope) part) where
  types_fails : (whole : List ℕ) (made : CluTypes) (bytes : List ℕ) (left : ℕ) → TypesBefore scope part sound whole made bytes → types_step part made bytes ≡ Err left → Front (TypesBegun scope) whole left
  types_fails whole made bytes left b e =
      elim (and_fails (part bytes) (λ (t : CluType × List ℕ). Ok (types_joined made (type_and t.0 no_types), t.1)) left e) [
        | inl h ↦ front_on (types_led made) whole bytes left b.1 (fronts bytes left h) (λ q x. types_item scope made b.0 q x)
        | inr h ↦ absurd (never (types_joined made (type_and h.0.0 no_types), h.0.1) left h.2)
      ]

  types_out : (whole : List ℕ) (made : CluTypes) (bytes : List ℕ) → TypesBefore scope part sound whole made bytes → Front (TypesBegun scope) whole (length bytes)
  types_out whole made bytes b =
      let now : Front (TypeBegun scope) bytes (length bytes) = at_once bytes (length bytes) refl (any_begun scope) in
      front_on (types_led made) whole bytes (length bytes) b.1 now (λ q x. types_item scope made b.0 q x)

  types_front : Fronts (TypesBegun scope) (types_read part)
  unfolding types_read
  types_front bytes left e =
      row_front (types_step part) (λ made rest. behind 44 rest) (TypesBefore scope part sound bytes) (TypesRead scope bytes) (Front (TypesBegun scope) bytes) (types_on scope part sound bytes) (types_next scope part sound bytes) (types_fails bytes) (types_out bytes)
      (length bytes) no_types bytes left (tt, refl) e

  closed_front : Fronts (ClosedBegun scope) (closed_types_read part)
  unfolding closed_types_read
  closed_front bytes left e =
      elim (and_fails (types_read part bytes) (λ (ts : CluTypes × List ℕ). literal_at (41 ∷ []) ts.1 >>= λ rest. Ok (ts.0, rest)) left e) [
        | inl h ↦ front_as bytes left (types_front bytes left h) (λ q x. record { ts = x.ts; rest = x.rest ++ 41 ∷ []; are = x.are; some = x.some; spelled = shown_before (types_text x.ts) (41 ∷ []) q x.rest x.spelled })
        | inr h ↦ (let read = types_spelled scope part sound bytes h.0.0 h.0.1 h.1 in
            front_on (types_text h.0.0) bytes h.0.1 left read.spelled (closing_front 41 h.0.0 h.0.1 left h.2)
            (λ q x. record { ts = h.0.0; rest = x.0; are = read.are; some = read.some; spelled = shown_on (types_text h.0.0) (41 ∷ []) q x.0 x.1 }))
      ]

  worded_front : (word : List ℕ) → Fronts (ListBegun scope word) (λ b. literal_at word b >>= λ rest. closed_types_read part rest)
  worded_front word = fixed_front (λ rest. closed_types_read part rest) word closed_front (list_part scope word) (list_on scope word)

  -- selectors
  field_front : (previous : List ℕ) → Earlier previous → Fronts (FieldBegun scope previous) (field_read part previous)
  unfolding field_read
  field_front previous p bytes left e =
      elim (and_fails (name_after previous 200 bytes) (λ (name : List ℕ × List ℕ). literal_at (58 ∷ []) name.1 >>= λ rest. part rest >>= λ t. Ok ((name.0, t.0), t.1)) left e) [
        | inl h ↦ front_as bytes left (name_front previous 200 (omega arith) p bytes left h) (λ q n. field_named scope previous q n)
        | inr h ↦ (let name : List ℕ = h.0.0 in
            let read = name_read previous 200 bytes name h.0.1 h.1 in
            elim (and_fails (literal_at (58 ∷ []) h.0.1) (λ (rest : List ℕ). part rest >>= λ t. Ok ((name, t.0), t.1)) left h.2) [
              | inl g ↦ front_on name bytes h.0.1 left read.spelled (literal_front (58 ∷ []) h.0.1 left g)
                  (λ q x. record { name = name; t = any_type; rest = x.0 ++ codes "any"; is = read.is; after = read.after; typed = tt; spelled = shown name (58 ∷ []) (codes "any") q x.0 x.1 })
              | inr g ↦ elim (and_fails (part g.0) (λ (t : CluType × List ℕ). Ok ((name, t.0), t.1)) left g.2) [
                | inl k ↦ (let whole : bytes ≡ (name ++ 58 ∷ []) ++ g.0 = read.spelled ∙ ap (λ (x : List ℕ). name ++ x) (literal_spelled (58 ∷ []) h.0.1 g.0 g.1) ∙ sym (append_assoc name (58 ∷ []) g.0) in
                    front_on (name ++ 58 ∷ []) bytes g.0 left whole (fronts g.0 left k)
                    (λ q x. record { name = name; t = x.t; rest = x.rest; is = read.is; after = read.after; typed = x.is; spelled = ap (λ (y : List ℕ). name ++ 58 ∷ y) x.spelled ∙ simp append_assoc }))
                | inr k ↦ absurd (never ((name, k.0.0), k.0.1) left k.2)
              ]
            ])
      ]

  abbrev FieldsStart : List ℕ → Fields × List ℕ → List ℕ → Type 0
  FieldsStart whole made bytes = FieldsBefore scope part sound whole made bytes × Earlier made.1

  fields_again : (whole : List ℕ) (made : Fields × List ℕ) (bytes rest : List ℕ) → FieldsAfter scope part sound whole made bytes → next_after made.1 bytes ≡ Some rest → FieldsStart whole made rest
  fields_again whole made bytes rest r e =
      (fields_next scope part sound whole made bytes rest r e, earlier_by scope made.1 (subst (λ (x : List ℕ). (x ≡ []) ⊎ IsName 200 x) r.name (last_field_named scope made.0 [] r.are)) (next_later made.1 bytes rest e))

  fields_fails : (whole : List ℕ) (made : Fields × List ℕ) (bytes : List ℕ) (left : ℕ) → FieldsStart whole made bytes → fields_step part made bytes ≡ Err left → Front (FieldsBegun scope) whole left
  fields_fails whole made bytes left b e =
      elim (and_fails (field_read part made.1 bytes) (λ (f : (List ℕ × CluType) × List ℕ). Ok ((fields_joined made.0 (field_and f.0.0 f.0.1 no_fields), f.0.0), f.1)) left e) [
        | inl h ↦ front_on (fields_led made.0) whole bytes left b.0.2 (field_front made.1 b.1 bytes left h) (λ q x. fields_item scope made.0 made.1 b.0.0 b.0.1 q x)
        | inr h ↦ absurd (never ((fields_joined made.0 (field_and h.0.0.0 h.0.0.1 no_fields), h.0.0.0), h.0.1) left h.2)
      ]

  fields_out : (whole : List ℕ) (made : Fields × List ℕ) (bytes : List ℕ) → FieldsStart whole made bytes → Front (FieldsBegun scope) whole (length bytes)
  fields_out whole made bytes b =
      let now : Front (FieldBegun scope made.1) bytes (length bytes) = at_once bytes (length bytes) refl (field_named scope made.1 [] (first_name made.1 b.1)) in
      front_on (fields_led made.0) whole bytes (length bytes) b.0.2 now (λ q x. fields_item scope made.0 made.1 b.0.0 b.0.1 q x)

  pub fields_front : Fronts (FieldsBegun scope) (fields_read part)
  unfolding fields_read
  fields_front bytes left e =
      elim (and_fails (several (fields_step part) (λ made rest. next_after made.1 rest) (length bytes) (no_fields, []) bytes) (λ (x : (Fields × List ℕ) × List ℕ). Ok (x.0.0, x.1)) left e) [
        | inl h ↦ row_front (fields_step part) (λ made rest. next_after made.1 rest) (FieldsStart bytes) (FieldsAfter scope part sound bytes) (Front (FieldsBegun scope) bytes)
            (λ made b more after s q. fields_on scope part sound bytes made b more after s.0 q) (fields_again bytes) (fields_fails bytes) (fields_out bytes) (length bytes) (no_fields, []) bytes left ((tt, refl, refl), earlier_none) h
        | inr h ↦ absurd (never (h.0.0.0, h.0.1) left h.2)
      ]

  -- signals
  objects_front : (o : Option (List ℕ)) (bytes : List ℕ) (left : ℕ) → behind 40 bytes ≡ o → objects_by part o bytes ≡ Err left → Front (ListBegun scope (40 ∷ [])) bytes left
  unfolding objects_by
  objects_front None bytes left o e = absurd (never (no_types, bytes) left e)
  objects_front (Some inner) bytes left o e = front_on (40 ∷ []) bytes inner left (behind_spelled 40 bytes inner o) (closed_front inner left e) (λ q x. list_on scope (40 ∷ []) q x)

  signal_read_front : (previous : List ℕ) → Earlier previous → Fronts (SignalBegun scope previous) (signal_read part previous)
  unfolding signal_read
  signal_read_front previous p bytes left e =
      elim (and_fails (signal_name_after previous bytes) (λ (name : List ℕ × List ℕ). objects_read part name.1 >>= λ ts. Ok ((name.0, ts.0), ts.1)) left e) [
        | inl h ↦ front_as bytes left (signal_front previous p bytes left h) (λ q n. signal_alone scope previous q n)
        | inr h ↦ (let name : List ℕ = h.0.0 in
            let read = signal_named previous bytes name h.0.1 h.1 in
            elim (and_fails (objects_read part h.0.1) (λ (ts : CluTypes × List ℕ). Ok ((name, ts.0), ts.1)) left h.2) [
              | inl g ↦ front_on name bytes h.0.1 left read.0.spelled (objects_front (behind 40 h.0.1) h.0.1 left refl g)
                  (λ q x. record { name = name; ts = x.ts; rest = x.rest; is = read.0.is; other = read.1; after = read.0.after; typed = x.are; spelled = shown_on name (closed_text (40 ∷ []) x.ts) q x.rest x.spelled })
              | inr g ↦ absurd (never ((name, g.0.0), g.0.1) left g.2)
            ])
      ]

  abbrev SignalsStart : List ℕ → Signals × List ℕ → List ℕ → Type 0
  SignalsStart whole made bytes = SignalsBefore scope part sound whole made bytes × Earlier made.1

  signals_again : (whole : List ℕ) (made : Signals × List ℕ) (bytes rest : List ℕ) → SignalsAfter scope part sound whole made bytes → next_after made.1 bytes ≡ Some rest → SignalsStart whole made rest
  signals_again whole made bytes rest r e =
      (signals_next scope part sound whole made bytes rest r e, earlier_by scope made.1 (subst (λ (x : List ℕ). (x ≡ []) ⊎ IsName 200 x) r.name (last_signal_named scope made.0 [] r.are)) (next_later made.1 bytes rest e))

  signals_fails : (whole : List ℕ) (made : Signals × List ℕ) (bytes : List ℕ) (left : ℕ) → SignalsStart whole made bytes → signals_step part made bytes ≡ Err left → Front (SignalsBegun scope) whole left
  signals_fails whole made bytes left b e =
      elim (and_fails (signal_read part made.1 bytes) (λ (s : (List ℕ × CluTypes) × List ℕ). Ok ((signals_joined made.0 (signal_and s.0.0 s.0.1 no_signals), s.0.0), s.1)) left e) [
        | inl h ↦ front_on (signals_led made.0) whole bytes left b.0.2 (signal_read_front made.1 b.1 bytes left h) (λ q x. signals_item scope made.0 made.1 b.0.0 b.0.1 q x)
        | inr h ↦ absurd (never ((signals_joined made.0 (signal_and h.0.0.0 h.0.0.1 no_signals), h.0.0.0), h.0.1) left h.2)
      ]

  signals_out : (whole : List ℕ) (made : Signals × List ℕ) (bytes : List ℕ) → SignalsStart whole made bytes → Front (SignalsBegun scope) whole (length bytes)
  signals_out whole made bytes b =
      let now : Front (SignalBegun scope made.1) bytes (length bytes) = at_once bytes (length bytes) refl (signal_alone scope made.1 [] (first_signal made.1 b.1)) in
      front_on (signals_led made.0) whole bytes (length bytes) b.0.2 now (λ q x. signals_item scope made.0 made.1 b.0.0 b.0.1 q x)

  signals_front : Fronts (SignalsBegun scope) (signals_read part)
  unfolding signals_read
  signals_front bytes left e =
      elim (and_fails (several (signals_step part) (λ made rest. next_after made.1 rest) (length bytes) (no_signals, []) bytes) (λ (x : (Signals × List ℕ) × List ℕ). Ok (x.0.0, x.1)) left e) [
        | inl h ↦ row_front (signals_step part) (λ made rest. next_after made.1 rest) (SignalsStart bytes) (SignalsAfter scope part sound bytes) (Front (SignalsBegun scope) bytes)
            (λ made b more after s q. signals_on scope part sound bytes made b more after s.0 q) (signals_again bytes) (signals_fails bytes) (signals_out bytes) (length bytes) (no_signals, []) bytes left ((tt, refl, refl), earlier_none) h
        | inr h ↦ absurd (never (h.0.0.0, h.0.1) left h.2)
      ]

  closed_signals_front : Fronts {A = Signals × List ℕ} (AllSignalsBegun scope) (λ b. literal_at (codes "signals(") b >>= λ rest. signals_read part rest >>= λ ss. literal_at (41 ∷ []) ss.1 >>= λ rest. Ok (ss.0, rest))
  closed_signals_front bytes left e =
      elim (and_fails (literal_at (codes "signals(") bytes) (λ (rest : List ℕ). signals_read part rest >>= λ ss. literal_at (41 ∷ []) ss.1 >>= λ rest. Ok (ss.0, rest)) left e) [
        | inl h ↦ front_as bytes left (literal_front (codes "signals(") bytes left h) (λ q x. signals_part scope q x)
        | inr h ↦ (let word = literal_spelled (codes "signals(") bytes h.0 h.1 in
            elim (and_fails (signals_read part h.0) (λ (ss : Signals × List ℕ). literal_at (41 ∷ []) ss.1 >>= λ rest. Ok (ss.0, rest)) left h.2) [
              | inl g ↦ front_on (codes "signals(") bytes h.0 left word (signals_front h.0 left g) (λ q x. signals_inner scope q x)
              | inr g ↦ (let read = signals_spelled scope part sound h.0 g.0.0 g.0.1 g.1 in
                  let whole : bytes ≡ (codes "signals(" ++ signals_text g.0.0) ++ g.0.1 = word ∙ ap (λ (x : List ℕ). codes "signals(" ++ x) read.2 ∙ sym (append_assoc (codes "signals(") (signals_text g.0.0) g.0.1) in
                  front_on (codes "signals(" ++ signals_text g.0.0) bytes g.0.1 left whole (closing_front 41 g.0.0 g.0.1 left g.2) (λ q x. signals_end scope g.0.0 read.0 read.1 q x))
            ])
      ]

  all_signals_front : Fronts (AllSignalsBegun scope) (all_signals_read part)
  unfolding all_signals_read
  all_signals_front bytes left e =
      elim (either (begins_with 115 bytes) (literal_at (codes "signals(") bytes >>= λ rest. signals_read part rest >>= λ ss. literal_at (41 ∷ []) ss.1 >>= λ rest. Ok (ss.0, rest)) (Ok (no_signals, bytes)) (Err left) e) [
        | inl h ↦ closed_signals_front bytes left h.1
        | inr h ↦ absurd (never (no_signals, bytes) left h.1)
      ]

  -- headings
  arguments_inner : (o : Option (List ℕ)) (bytes : List ℕ) (left : ℕ) → arguments_by part o bytes ≡ Err left → Front (ClosedBegun scope) bytes left
  unfolding arguments_by
  arguments_inner None bytes left e = closed_front bytes left e
  arguments_inner (Some inner) bytes left e = absurd (never (no_types, inner) left e)

  arguments_front : Fronts (ArgumentsBegun scope) (arguments_read part)
  unfolding arguments_read
  arguments_front =
      fixed_front (λ rest. arguments_by part (behind 41 rest) rest) (40 ∷ []) (λ bytes left e. arguments_inner (behind 41 bytes) bytes left e)
      (λ q x. record { ts = no_types; rest = x.0 ++ 41 ∷ []; are = tt; spelled = shown_before (40 ∷ []) (41 ∷ []) q x.0 x.1 })
      (λ q x. record { ts = x.ts; rest = x.rest; are = x.are; spelled = ap (λ (y : List ℕ). 40 ∷ y) x.spelled })

  results_front : (iter : Bool) → Fronts (ListBegun scope (results_word iter)) (results_read part iter)
  unfolding results_read
  results_front true bytes left e =
      elim (either (begins_with 121 bytes) (literal_at (codes "yields(") bytes >>= λ rest. closed_types_read part rest) (Ok (no_types, bytes)) (Err left) e) [
        | inl h ↦ worded_front (codes "yields(") bytes left h.1
        | inr h ↦ absurd (never (no_types, bytes) left h.1)
      ]
  results_front false bytes left e =
      elim (either (begins_with 114 bytes) (literal_at (codes "returns(") bytes >>= λ rest. closed_types_read part rest) (Ok (no_types, bytes)) (Err left) e) [
        | inl h ↦ worded_front (codes "returns(") bytes left h.1
        | inr h ↦ absurd (never (no_types, bytes) left h.1)
      ]

  pub heading_front : (iter : Bool) → Fronts (HeadingBegun scope iter) (heading_read part iter)
  unfolding heading_read
  heading_front iter bytes left e =
      elim (and_fails (arguments_read part bytes) (λ (args : CluTypes × List ℕ). results_read part iter args.1 >>= λ results. all_signals_read part results.1 >>= λ signals. Ok ((args.0, results.0, signals.0), signals.1)) left e) [
        | inl h ↦ front_as bytes left (arguments_front bytes left h) (λ q x. record { args = x.ts; results = no_types; signals = no_signals; rest = x.rest; args_are = x.are; results_are = tt; signals_are = tt; spelled = x.spelled })
        | inr h ↦ (let args : CluTypes = h.0.0 in
            let given = arguments_spelled scope part sound bytes args h.0.1 h.1 in
            let u : List ℕ = 40 ∷ (types_text args ++ 41 ∷ []) in
            let whole : bytes ≡ u ++ h.0.1 = given.1 ∙ ap (λ (x : List ℕ). 40 ∷ x) (sym (append_assoc (types_text args) (41 ∷ []) h.0.1)) in
            elim (and_fails (results_read part iter h.0.1) (λ (results : CluTypes × List ℕ). all_signals_read part results.1 >>= λ signals. Ok ((args, results.0, signals.0), signals.1)) left h.2) [
              | inl g ↦ front_on u bytes h.0.1 left whole (results_front iter h.0.1 left g)
                  (λ q x. record { args = args; results = x.ts; signals = no_signals; rest = x.rest; args_are = given.0; results_are = x.are; signals_are = tt; spelled = ap (λ (y : List ℕ). 40 ∷ (types_text args ++ 41 ∷ y)) (append-nil (closed_text (results_word iter) x.ts) ∙ x.spelled) ∙ simp append_assoc })
              | inr g ↦ (let results : CluTypes = g.0.0 in
                  let gives = results_spelled scope part sound iter h.0.1 results g.0.1 g.1 in
                  let w : List ℕ = u ++ closed_text (results_word iter) results in
                  let more : bytes ≡ w ++ g.0.1 = whole ∙ ap (λ (x : List ℕ). u ++ x) gives.spelled ∙ sym (append_assoc u (closed_text (results_word iter) results) g.0.1) in
                  elim (and_fails (all_signals_read part g.0.1) (λ (signals : Signals × List ℕ). Ok ((args, results, signals.0), signals.1)) left g.2) [
                    | inl k ↦ front_on w bytes g.0.1 left more (all_signals_front g.0.1 left k)
                        (λ q x. record { args = args; results = results; signals = x.ss; rest = x.rest; args_are = given.0; results_are = gives.are; signals_are = x.are; spelled = ap (λ (y : List ℕ). 40 ∷ (types_text args ++ 41 ∷ (closed_text (results_word iter) results ++ y))) x.spelled ∙ simp append_assoc })
                    | inr k ↦ absurd (never ((args, results, k.0.0), k.0.1) left k.2)
                  ])
            ])
      ]
