-- Types: what was read is of the grammar, and spelled by the bytes that were read, where this is so of its parts.
use Rattle.std.proofs.Common.{◌≡◌, ℕ, Bool, true, false, List, [], ◌∷◌, ◌++◌, length, codes, Option, Some, None, Ok, Err, if◌then◌else◌, refl, sym, ap, subst, ◌∙◌, append_assoc, append-nil, inl, inr}
use Rattle.std.specs.Str.{bytes_eq}
use Rattle.std.proofs.lemmas.Option.{none-some}
use Rattle.clu_types.specs.CluType.{CluType, CluTypes, no_types, type_and, Fields, no_fields, field_and, Signals, no_signals, signal_and}
use Rattle.clu_specs.specs.declared.scope.Scope.{Scope}
use Rattle.clu_specs.specs.Reading.{◌>>=◌, literal_at, behind, begins_with, several}
use Rattle.clu_specs.specs.Names.{is_before, name_after, has_later}
use Rattle.clu_specs.specs.Texts.{type_text, types_text, more_types_text, closed_text, fields_text, more_fields_text, more_signals_text, all_signals_text, heading_text, results_word}
use Rattle.clu_specs.specs.TypeReading.{Reader, types_joined, fields_joined, signals_joined, types_step, fields_step, signals_step, next_after, signal_name_after, types_read, closed_types_read, field_read, fields_read, signal_read, objects_by, objects_read, signals_read, arguments_by, arguments_read, results_read, all_signals_read, heading_read}
use Rattle.clu_specs.specs.Grammar.{IsName, HasFields, IsType, AreTypes, AreFields, AreSignals}
use Rattle.clu_specs.proofs.Outcomes.{SameRead, and_then, ok_same, not_refused, either, literal_spelled, behind_spelled, closed_spelled, row_spelled}
use Rattle.clu_specs.proofs.Spelled.{NameRead, name_read}

pub record TypeRead (scope : Scope) (bytes : List ℕ) (t : CluType) (rest : List ℕ) : Type 0 where
  pub is : IsType scope t
  pub spelled : bytes ≡ type_text t ++ rest

abbrev pub Sound : Scope → Reader CluType → Type 0
Sound scope part = (bytes : List ℕ) (t : CluType) (rest : List ℕ) → part bytes ≡ Ok (t, rest) → TypeRead scope bytes t rest

-- types with a comma after them, if there are any
abbrev pub types_led : CluTypes → List ℕ
types_led no_types = []
types_led (type_and t ts) = (type_text t ++ more_types_text ts) ++ 44 ∷ []

abbrev pub HasTypes : CluTypes → Type 0
HasTypes no_types = ⊥
HasTypes (type_and t ts) = Unit {0}

pub more_types_joined : (ts : CluTypes) (t : CluType) → more_types_text (types_joined ts (type_and t no_types)) ≡ more_types_text ts ++ 44 ∷ type_text t
more_types_joined no_types t = ap (λ (x : List ℕ). 44 ∷ x) (append-nil (type_text t))
more_types_joined (type_and u ts) t = ap (λ (x : List ℕ). 44 ∷ (type_text u ++ x)) (more_types_joined ts t) ∙ ap (λ (x : List ℕ). 44 ∷ x) (sym (append_assoc (type_text u) (more_types_text ts) (44 ∷ type_text t)))

pub types_joined_text : (ts : CluTypes) (t : CluType) (rest : List ℕ) → types_text (types_joined ts (type_and t no_types)) ++ rest ≡ types_led ts ++ (type_text t ++ rest)
types_joined_text no_types t rest = ap (λ (x : List ℕ). x ++ rest) (append-nil (type_text t))
types_joined_text (type_and u ts) t rest = ap (λ (x : List ℕ). (type_text u ++ x) ++ rest) (more_types_joined ts t) ∙ simp append_assoc

pub types_led_text : (ts : CluTypes) (rest : List ℕ) → HasTypes ts → types_text ts ++ 44 ∷ rest ≡ types_led ts ++ rest
types_led_text no_types rest h = absurd h
types_led_text (type_and t ts) rest h = sym (append_assoc (type_text t ++ more_types_text ts) (44 ∷ []) rest)

pub types_joined_some : (ts : CluTypes) (t : CluType) → HasTypes (types_joined ts (type_and t no_types))
types_joined_some no_types t = tt
types_joined_some (type_and u ts) t = tt

-- selectors
abbrev pub fields_led : Fields → List ℕ
fields_led no_fields = []
fields_led (field_and name t fs) = ((name ++ 58 ∷ type_text t) ++ more_fields_text fs) ++ 44 ∷ []

pub more_fields_joined : (fs : Fields) (name : List ℕ) (t : CluType) → more_fields_text (fields_joined fs (field_and name t no_fields)) ≡ more_fields_text fs ++ 44 ∷ (name ++ 58 ∷ type_text t)
more_fields_joined no_fields name t = ap (λ (x : List ℕ). 44 ∷ x) (append-nil (name ++ 58 ∷ type_text t))
more_fields_joined (field_and n u fs) name t = ap (λ (x : List ℕ). 44 ∷ ((n ++ 58 ∷ type_text u) ++ x)) (more_fields_joined fs name t) ∙ ap (λ (x : List ℕ). 44 ∷ x) (sym (append_assoc (n ++ 58 ∷ type_text u) (more_fields_text fs) (44 ∷ (name ++ 58 ∷ type_text t))))

pub fields_joined_text : (fs : Fields) (name : List ℕ) (t : CluType) (rest : List ℕ) → fields_text (fields_joined fs (field_and name t no_fields)) ++ rest ≡ fields_led fs ++ ((name ++ 58 ∷ type_text t) ++ rest)
fields_joined_text no_fields name t rest = ap (λ (x : List ℕ). x ++ rest) (append-nil (name ++ 58 ∷ type_text t))
fields_joined_text (field_and n u fs) name t rest = ap (λ (x : List ℕ). ((n ++ 58 ∷ type_text u) ++ x) ++ rest) (more_fields_joined fs name t) ∙ simp append_assoc

pub fields_led_text : (fs : Fields) (rest : List ℕ) → HasFields fs → fields_text fs ++ 44 ∷ rest ≡ fields_led fs ++ rest
fields_led_text no_fields rest h = absurd h
fields_led_text (field_and n t fs) rest h = sym (append_assoc ((n ++ 58 ∷ type_text t) ++ more_fields_text fs) (44 ∷ []) rest)

pub fields_joined_some : (fs : Fields) (name : List ℕ) (t : CluType) → HasFields (fields_joined fs (field_and name t no_fields))
fields_joined_some no_fields name t = tt
fields_joined_some (field_and n u fs) name t = tt

-- the last name, after that of the selector before
abbrev pub last_field : List ℕ → Fields → List ℕ
last_field before no_fields = before
last_field before (field_and name t fs) = last_field name fs

pub last_field_joined : (fs : Fields) (before name : List ℕ) (t : CluType) → last_field before (fields_joined fs (field_and name t no_fields)) ≡ name
last_field_joined no_fields before name t = refl
last_field_joined (field_and n u fs) before name t = last_field_joined fs n name t

-- signals
abbrev pub signal_spelled : List ℕ → CluTypes → List ℕ
signal_spelled name ts = name ++ closed_text (40 ∷ []) ts

abbrev pub signals_text : Signals → List ℕ
signals_text no_signals = []
signals_text (signal_and name ts ss) = signal_spelled name ts ++ more_signals_text ss

abbrev pub signals_led : Signals → List ℕ
signals_led no_signals = []
signals_led (signal_and name ts ss) = (signal_spelled name ts ++ more_signals_text ss) ++ 44 ∷ []

abbrev pub HasSignals : Signals → Type 0
HasSignals no_signals = ⊥
HasSignals (signal_and name ts ss) = Unit {0}

pub more_signals_joined : (ss : Signals) (name : List ℕ) (ts : CluTypes) → more_signals_text (signals_joined ss (signal_and name ts no_signals)) ≡ more_signals_text ss ++ 44 ∷ signal_spelled name ts
more_signals_joined no_signals name ts = ap (λ (x : List ℕ). 44 ∷ x) (append-nil (signal_spelled name ts))
more_signals_joined (signal_and n us ss) name ts = ap (λ (x : List ℕ). 44 ∷ (signal_spelled n us ++ x)) (more_signals_joined ss name ts) ∙ ap (λ (x : List ℕ). 44 ∷ x) (sym (append_assoc (signal_spelled n us) (more_signals_text ss) (44 ∷ signal_spelled name ts)))

pub signals_joined_text : (ss : Signals) (name : List ℕ) (ts : CluTypes) (rest : List ℕ) → signals_text (signals_joined ss (signal_and name ts no_signals)) ++ rest ≡ signals_led ss ++ (signal_spelled name ts ++ rest)
signals_joined_text no_signals name ts rest = ap (λ (x : List ℕ). x ++ rest) (append-nil (signal_spelled name ts))
signals_joined_text (signal_and n us ss) name ts rest = ap (λ (x : List ℕ). (signal_spelled n us ++ x) ++ rest) (more_signals_joined ss name ts) ∙ simp append_assoc

pub signals_led_text : (ss : Signals) (rest : List ℕ) → HasSignals ss → signals_text ss ++ 44 ∷ rest ≡ signals_led ss ++ rest
signals_led_text no_signals rest h = absurd h
signals_led_text (signal_and n ts ss) rest h = sym (append_assoc (signal_spelled n ts ++ more_signals_text ss) (44 ∷ []) rest)

pub signals_joined_some : (ss : Signals) (name : List ℕ) (ts : CluTypes) → HasSignals (signals_joined ss (signal_and name ts no_signals))
signals_joined_some no_signals name ts = tt
signals_joined_some (signal_and n us ss) name ts = tt

abbrev pub last_signal : List ℕ → Signals → List ℕ
last_signal before no_signals = before
last_signal before (signal_and name ts ss) = last_signal name ss

pub last_signal_joined : (ss : Signals) (before name : List ℕ) (ts : CluTypes) → last_signal before (signals_joined ss (signal_and name ts no_signals)) ≡ name
last_signal_joined no_signals before name ts = refl
last_signal_joined (signal_and n us ss) before name ts = last_signal_joined ss n name ts

pub all_signals_shown : (ss : Signals) (rest : List ℕ) → HasSignals ss → codes "signals(" ++ (signals_text ss ++ 41 ∷ rest) ≡ all_signals_text ss ++ rest
all_signals_shown no_signals rest h = absurd h
all_signals_shown (signal_and name ts ss) rest h = ap (λ (x : List ℕ). codes "signals(" ++ x) (sym (append_assoc (signal_spelled name ts ++ more_signals_text ss) (41 ∷ []) rest))

pub closed_shown : (word : List ℕ) (ts : CluTypes) (rest : List ℕ) → HasTypes ts → word ++ (types_text ts ++ 41 ∷ rest) ≡ closed_text word ts ++ rest
closed_shown word no_types rest h = absurd h
closed_shown word (type_and t ts) rest h = simp append_assoc

module _ (scope : Scope) where
  pub types_joined_are : (ts : CluTypes) (t : CluType) → AreTypes scope ts → IsType scope t → AreTypes scope (types_joined ts (type_and t no_types))
  types_joined_are no_types t are is = (is, tt)
  types_joined_are (type_and u ts) t are is = (are.0, types_joined_are ts t are.1 is)

  pub fields_joined_are : (fs : Fields) (before name : List ℕ) (t : CluType) → AreFields scope before fs → IsName 200 name → is_before (last_field before fs) name ≡ true → IsType scope t → AreFields scope before (fields_joined fs (field_and name t no_fields))
  fields_joined_are no_fields before name t are is after typed = (is, after, typed, tt)
  fields_joined_are (field_and n u fs) before name t are is after typed = (are.0, are.1, are.2, fields_joined_are fs n name t are.3 is after typed)

  pub signals_joined_are : (ss : Signals) (before name : List ℕ) (ts : CluTypes) → AreSignals scope before ss → IsName 200 name → bytes_eq name (codes "failure") ≡ false → is_before (last_signal before ss) name ≡ true → AreTypes scope ts
      → AreSignals scope before (signals_joined ss (signal_and name ts no_signals))
  signals_joined_are no_signals before name ts are is other after typed = (is, other, after, typed, tt)
  signals_joined_are (signal_and n us ss) before name ts are is other after typed = (are.0, are.1, are.2, are.3, signals_joined_are ss n name ts are.4 is other after typed)

pub record TypesRead (scope : Scope) (whole : List ℕ) (ts : CluTypes) (rest : List ℕ) : Type 0 where
  pub are : AreTypes scope ts
  pub some : HasTypes ts
  pub spelled : whole ≡ types_text ts ++ rest

pub record ListRead (scope : Scope) (whole word : List ℕ) (ts : CluTypes) (rest : List ℕ) : Type 0 where
  pub are : AreTypes scope ts
  pub spelled : whole ≡ closed_text word ts ++ rest

pub record FieldRead (scope : Scope) (previous bytes name : List ℕ) (t : CluType) (rest : List ℕ) : Type 0 where
  pub is : IsName 200 name
  pub after : is_before previous name ≡ true
  pub typed : IsType scope t
  pub spelled : bytes ≡ (name ++ 58 ∷ type_text t) ++ rest

-- with the name of the last
pub record FieldsBehind (scope : Scope) (whole : List ℕ) (fs : Fields) (last rest : List ℕ) : Type 0 where
  pub are : AreFields scope [] fs
  pub name : last_field [] fs ≡ last
  pub some : HasFields fs
  pub spelled : whole ≡ fields_text fs ++ rest

pub record SignalRead (scope : Scope) (previous bytes name : List ℕ) (ts : CluTypes) (rest : List ℕ) : Type 0 where
  pub is : IsName 200 name
  pub other : bytes_eq name (codes "failure") ≡ false
  pub after : is_before previous name ≡ true
  pub typed : AreTypes scope ts
  pub spelled : bytes ≡ signal_spelled name ts ++ rest

pub record SignalsBehind (scope : Scope) (whole : List ℕ) (ss : Signals) (last rest : List ℕ) : Type 0 where
  pub are : AreSignals scope [] ss
  pub name : last_signal [] ss ≡ last
  pub some : HasSignals ss
  pub spelled : whole ≡ signals_text ss ++ rest

pub record SignalsRead (scope : Scope) (whole : List ℕ) (ss : Signals) (rest : List ℕ) : Type 0 where
  pub are : AreSignals scope [] ss
  pub spelled : whole ≡ all_signals_text ss ++ rest

pub record HeadingRead (scope : Scope) (iter : Bool) (whole : List ℕ) (args results : CluTypes) (signals : Signals) (rest : List ℕ) : Type 0 where
  pub args_are : AreTypes scope args
  pub results_are : AreTypes scope results
  pub signals_are : AreSignals scope [] signals
  pub spelled : whole ≡ heading_text iter args results signals ++ rest

pub next_spelled : (name bytes rest : List ℕ) → next_after name bytes ≡ Some rest → bytes ≡ 44 ∷ rest
next_spelled name bytes rest e = elim (either (has_later name) (behind 44 bytes) None (Some rest) e) [ inl h ↦ behind_spelled 44 bytes rest h.1 | inr h ↦ absurd (none-some rest h.1) ]

-- the name of a signal
pub signal_named : (previous bytes name rest : List ℕ) → signal_name_after previous bytes ≡ Ok (name, rest) → NameRead previous 200 bytes name rest × (bytes_eq name (codes "failure") ≡ false)
unfolding signal_name_after
signal_named previous bytes name rest e =
    let h = and_then (name_after previous 200 bytes) (λ (x : List ℕ × List ℕ). if bytes_eq x.0 (codes "failure") then Err (length x.1) else Ok x) (name, rest) e in
    let other = not_refused (bytes_eq h.0.0 (codes "failure")) (length h.0.1) (Ok h.0) (name, rest) h.2 in
    let same : h.0 ≡ (name, rest) = ok_same (Ok h.0) h.0 (name, rest) refl other.1 in
    let read : NameRead previous 200 bytes h.0.0 h.0.1 = name_read previous 200 bytes h.0.0 h.0.1 h.1 in
    subst (λ (x : List ℕ × List ℕ). NameRead previous 200 bytes x.0 x.1 × (bytes_eq x.0 (codes "failure") ≡ false)) same (read, other.0)

module _ (scope : Scope) (part : Reader CluType) (sound : Sound scope part) where
  -- types
  abbrev pub TypesBefore : List ℕ → CluTypes → List ℕ → Type 0
  TypesBefore whole made bytes = AreTypes scope made × (whole ≡ types_led made ++ bytes)

  pub types_on : (whole : List ℕ) (made : CluTypes) (bytes : List ℕ) (more : CluTypes) (after : List ℕ) → TypesBefore whole made bytes → types_step part made bytes ≡ Ok (more, after) → TypesRead scope whole more after
  types_on whole made bytes more after b e =
      let h = and_then (part bytes) (λ (t : CluType × List ℕ). Ok (types_joined made (type_and t.0 no_types), t.1)) (more, after) e in
      let read = sound bytes h.0.0 h.0.1 h.1 in
      let made_now : CluTypes = types_joined made (type_and h.0.0 no_types) in
      let same : (made_now, h.0.1) ≡ (more, after) = ok_same (Ok (made_now, h.0.1)) (made_now, h.0.1) (more, after) refl h.2 in
      subst (λ (x : CluTypes × List ℕ). TypesRead scope whole x.0 x.1) same
      (record {
        are = types_joined_are scope made h.0.0 b.0 read.is;
        some = types_joined_some made h.0.0;
        spelled = b.1 ∙ ap (λ (x : List ℕ). types_led made ++ x) read.spelled ∙ sym (types_joined_text made h.0.0 h.0.1);
      })

  pub types_next : (whole : List ℕ) (made : CluTypes) (bytes rest : List ℕ) → TypesRead scope whole made bytes → behind 44 bytes ≡ Some rest → TypesBefore whole made rest
  types_next whole made bytes rest r e = (r.are, r.spelled ∙ ap (λ (x : List ℕ). types_text made ++ x) (behind_spelled 44 bytes rest e) ∙ types_led_text made rest r.some)

  pub types_spelled : (bytes : List ℕ) (ts : CluTypes) (rest : List ℕ) → types_read part bytes ≡ Ok (ts, rest) → TypesRead scope bytes ts rest
  unfolding types_read
  types_spelled bytes ts rest e =
      row_spelled (types_step part) (λ made rest. behind 44 rest) (TypesBefore bytes) (TypesRead scope bytes) (types_on bytes) (types_next bytes) (length bytes) no_types bytes ts rest (tt, refl) e

  pub closed_types_spelled : (bytes : List ℕ) (ts : CluTypes) (rest : List ℕ) → closed_types_read part bytes ≡ Ok (ts, rest) → TypesRead scope bytes ts (41 ∷ rest)
  unfolding closed_types_read
  closed_types_spelled bytes ts rest e =
      let h = and_then (types_read part bytes) (λ (ts : CluTypes × List ℕ). literal_at (41 ∷ []) ts.1 >>= λ rest. Ok (ts.0, rest)) (ts, rest) e in
      let c = closed_spelled 41 h.0.0 h.0.1 ts rest h.2 in
      let read : TypesRead scope bytes h.0.0 h.0.1 = types_spelled bytes h.0.0 h.0.1 h.1 in
      subst (λ (x : CluTypes). TypesRead scope bytes x (41 ∷ rest)) c.0 (subst (λ (x : List ℕ). TypesRead scope bytes h.0.0 x) c.1 read)

  -- after a word, with a closing parenthesis
  pub worded_spelled : (word bytes : List ℕ) (ts : CluTypes) (rest : List ℕ) → (literal_at word bytes >>= λ rest. closed_types_read part rest) ≡ Ok (ts, rest) → ListRead scope bytes word ts rest
  worded_spelled word bytes ts rest e =
      let h = and_then (literal_at word bytes) (λ (rest : List ℕ). closed_types_read part rest) (ts, rest) e in
      let read = closed_types_spelled h.0 ts rest h.2 in
      record { are = read.are; spelled = literal_spelled word bytes h.0 h.1 ∙ ap (λ (x : List ℕ). word ++ x) read.spelled ∙ closed_shown word ts rest read.some }

  pub no_list : (word bytes : List ℕ) (ts : CluTypes) (rest : List ℕ) → SameRead CluTypes (no_types, bytes) (ts, rest) → ListRead scope bytes word ts rest
  no_list word bytes ts rest same = subst (λ (x : CluTypes × List ℕ). ListRead scope bytes word x.0 x.1) same (record { are = tt; spelled = refl })

  -- selectors
  pub field_spelled : (previous bytes name : List ℕ) (t : CluType) (rest : List ℕ) → field_read part previous bytes ≡ Ok ((name, t), rest) → FieldRead scope previous bytes name t rest
  unfolding field_read
  field_spelled previous bytes name t rest e =
      let a = and_then (name_after previous 200 bytes) (λ (name : List ℕ × List ℕ). literal_at (58 ∷ []) name.1 >>= λ rest. part rest >>= λ t. Ok ((name.0, t.0), t.1)) ((name, t), rest) e in
      let b = and_then (literal_at (58 ∷ []) a.0.1) (λ (rest : List ℕ). part rest >>= λ t. Ok ((a.0.0, t.0), t.1)) ((name, t), rest) a.2 in
      let c = and_then (part b.0) (λ (t : CluType × List ℕ). Ok ((a.0.0, t.0), t.1)) ((name, t), rest) b.2 in
      let named = name_read previous 200 bytes a.0.0 a.0.1 a.1 in
      let read = sound b.0 c.0.0 c.0.1 c.1 in
      let same : ((a.0.0, c.0.0), c.0.1) ≡ ((name, t), rest) = ok_same (Ok ((a.0.0, c.0.0), c.0.1)) ((a.0.0, c.0.0), c.0.1) ((name, t), rest) refl c.2 in
      subst (λ (x : (List ℕ × CluType) × List ℕ). FieldRead scope previous bytes x.0.0 x.0.1 x.1) same
      (record {
        is = named.is;
        after = named.after;
        typed = read.is;
        spelled = named.spelled ∙ ap (λ (x : List ℕ). a.0.0 ++ x) (literal_spelled (58 ∷ []) a.0.1 b.0 b.1 ∙ ap (λ (x : List ℕ). 58 ∷ x) read.spelled) ∙ sym (append_assoc a.0.0 (58 ∷ type_text c.0.0) c.0.1);
      })

  abbrev pub FieldsBefore : List ℕ → Fields × List ℕ → List ℕ → Type 0
  FieldsBefore whole made bytes = AreFields scope [] made.0 × (last_field [] made.0 ≡ made.1) × (whole ≡ fields_led made.0 ++ bytes)

  abbrev pub FieldsAfter : List ℕ → Fields × List ℕ → List ℕ → Type 0
  FieldsAfter whole made bytes = FieldsBehind scope whole made.0 made.1 bytes

  pub fields_on : (whole : List ℕ) (made : Fields × List ℕ) (bytes : List ℕ) (more : Fields × List ℕ) (after : List ℕ) → FieldsBefore whole made bytes → fields_step part made bytes ≡ Ok (more, after) → FieldsAfter whole more after
  fields_on whole made bytes more after b e =
      let h = and_then (field_read part made.1 bytes) (λ (f : (List ℕ × CluType) × List ℕ). Ok ((fields_joined made.0 (field_and f.0.0 f.0.1 no_fields), f.0.0), f.1)) (more, after) e in
      let name : List ℕ = h.0.0.0 in
      let t : CluType = h.0.0.1 in
      let read = field_spelled made.1 bytes name t h.0.1 h.1 in
      let made_now : Fields × List ℕ = (fields_joined made.0 (field_and name t no_fields), name) in
      let same : (made_now, h.0.1) ≡ (more, after) = ok_same (Ok (made_now, h.0.1)) (made_now, h.0.1) (more, after) refl h.2 in
      let before : is_before (last_field [] made.0) name ≡ true = rw b.1 read.after in
      let now : FieldsBehind scope whole (fields_joined made.0 (field_and name t no_fields)) name h.0.1 = record {
        are = fields_joined_are scope made.0 [] name t b.0 read.is before read.typed;
        name = last_field_joined made.0 [] name t;
        some = fields_joined_some made.0 name t;
        spelled = b.2 ∙ ap (λ (x : List ℕ). fields_led made.0 ++ x) read.spelled ∙ sym (fields_joined_text made.0 name t h.0.1);
      } in
      subst (λ (x : (Fields × List ℕ) × List ℕ). FieldsAfter whole x.0 x.1) same now

  pub fields_next : (whole : List ℕ) (made : Fields × List ℕ) (bytes rest : List ℕ) → FieldsAfter whole made bytes → next_after made.1 bytes ≡ Some rest → FieldsBefore whole made rest
  fields_next whole made bytes rest r e =
      (r.are, r.name, r.spelled ∙ ap (λ (x : List ℕ). fields_text made.0 ++ x) (next_spelled made.1 bytes rest e) ∙ fields_led_text made.0 rest r.some)

  pub fields_spelled : (bytes : List ℕ) (fs : Fields) (rest : List ℕ) → fields_read part bytes ≡ Ok (fs, rest) → AreFields scope [] fs × HasFields fs × (bytes ≡ fields_text fs ++ rest)
  unfolding fields_read
  fields_spelled bytes fs rest e =
      let h = and_then (several (fields_step part) (λ made rest. next_after made.1 rest) (length bytes) (no_fields, []) bytes) (λ (x : (Fields × List ℕ) × List ℕ). Ok (x.0.0, x.1)) (fs, rest) e in
      let r : FieldsAfter bytes h.0.0 h.0.1 = row_spelled (fields_step part) (λ made rest. next_after made.1 rest) (FieldsBefore bytes) (FieldsAfter bytes) (fields_on bytes) (fields_next bytes) (length bytes) (no_fields, []) bytes h.0.0 h.0.1 (tt, refl, refl) h.1 in
      let same : (h.0.0.0, h.0.1) ≡ (fs, rest) = ok_same (Ok (h.0.0.0, h.0.1)) (h.0.0.0, h.0.1) (fs, rest) refl h.2 in
      subst (λ (x : Fields × List ℕ). AreFields scope [] x.0 × HasFields x.0 × (bytes ≡ fields_text x.0 ++ x.1)) same (r.are, r.some, r.spelled)

  -- signals
  pub objects_by_spelled : (o : Option (List ℕ)) (bytes : List ℕ) (ts : CluTypes) (rest : List ℕ) → behind 40 bytes ≡ o → objects_by part o bytes ≡ Ok (ts, rest) → ListRead scope bytes (40 ∷ []) ts rest
  unfolding objects_by
  objects_by_spelled None bytes ts rest o e = no_list (40 ∷ []) bytes ts rest (ok_same (Ok (no_types, bytes)) (no_types, bytes) (ts, rest) refl e)
  objects_by_spelled (Some inner) bytes ts rest o e =
      let read = closed_types_spelled inner ts rest e in
      record { are = read.are; spelled = behind_spelled 40 bytes inner o ∙ ap (λ (x : List ℕ). 40 ∷ x) read.spelled ∙ closed_shown (40 ∷ []) ts rest read.some }

  pub signal_read_spelled : (previous bytes name : List ℕ) (ts : CluTypes) (rest : List ℕ) → signal_read part previous bytes ≡ Ok ((name, ts), rest) → SignalRead scope previous bytes name ts rest
  unfolding signal_read
  signal_read_spelled previous bytes name ts rest e =
      let a = and_then (signal_name_after previous bytes) (λ (name : List ℕ × List ℕ). objects_read part name.1 >>= λ ts. Ok ((name.0, ts.0), ts.1)) ((name, ts), rest) e in
      let b = and_then (objects_read part a.0.1) (λ (ts : CluTypes × List ℕ). Ok ((a.0.0, ts.0), ts.1)) ((name, ts), rest) a.2 in
      let named = signal_named previous bytes a.0.0 a.0.1 a.1 in
      let read = objects_by_spelled (behind 40 a.0.1) a.0.1 b.0.0 b.0.1 refl b.1 in
      let same : ((a.0.0, b.0.0), b.0.1) ≡ ((name, ts), rest) = ok_same (Ok ((a.0.0, b.0.0), b.0.1)) ((a.0.0, b.0.0), b.0.1) ((name, ts), rest) refl b.2 in
      subst (λ (x : (List ℕ × CluTypes) × List ℕ). SignalRead scope previous bytes x.0.0 x.0.1 x.1) same
      (record {
        is = named.0.is;
        other = named.1;
        after = named.0.after;
        typed = read.are;
        spelled = named.0.spelled ∙ ap (λ (x : List ℕ). a.0.0 ++ x) read.spelled ∙ sym (append_assoc a.0.0 (closed_text (40 ∷ []) b.0.0) b.0.1);
      })

  abbrev pub SignalsBefore : List ℕ → Signals × List ℕ → List ℕ → Type 0
  SignalsBefore whole made bytes = AreSignals scope [] made.0 × (last_signal [] made.0 ≡ made.1) × (whole ≡ signals_led made.0 ++ bytes)

  abbrev pub SignalsAfter : List ℕ → Signals × List ℕ → List ℕ → Type 0
  SignalsAfter whole made bytes = SignalsBehind scope whole made.0 made.1 bytes

  pub signals_on : (whole : List ℕ) (made : Signals × List ℕ) (bytes : List ℕ) (more : Signals × List ℕ) (after : List ℕ) → SignalsBefore whole made bytes → signals_step part made bytes ≡ Ok (more, after) → SignalsAfter whole more after
  signals_on whole made bytes more after b e =
      let h = and_then (signal_read part made.1 bytes) (λ (s : (List ℕ × CluTypes) × List ℕ). Ok ((signals_joined made.0 (signal_and s.0.0 s.0.1 no_signals), s.0.0), s.1)) (more, after) e in
      let name : List ℕ = h.0.0.0 in
      let ts : CluTypes = h.0.0.1 in
      let read = signal_read_spelled made.1 bytes name ts h.0.1 h.1 in
      let made_now : Signals × List ℕ = (signals_joined made.0 (signal_and name ts no_signals), name) in
      let same : (made_now, h.0.1) ≡ (more, after) = ok_same (Ok (made_now, h.0.1)) (made_now, h.0.1) (more, after) refl h.2 in
      let before : is_before (last_signal [] made.0) name ≡ true = rw b.1 read.after in
      let now : SignalsBehind scope whole (signals_joined made.0 (signal_and name ts no_signals)) name h.0.1 = record {
        are = signals_joined_are scope made.0 [] name ts b.0 read.is read.other before read.typed;
        name = last_signal_joined made.0 [] name ts;
        some = signals_joined_some made.0 name ts;
        spelled = b.2 ∙ ap (λ (x : List ℕ). signals_led made.0 ++ x) read.spelled ∙ sym (signals_joined_text made.0 name ts h.0.1);
      } in
      subst (λ (x : (Signals × List ℕ) × List ℕ). SignalsAfter whole x.0 x.1) same now

  pub signals_next : (whole : List ℕ) (made : Signals × List ℕ) (bytes rest : List ℕ) → SignalsAfter whole made bytes → next_after made.1 bytes ≡ Some rest → SignalsBefore whole made rest
  signals_next whole made bytes rest r e =
      (r.are, r.name, r.spelled ∙ ap (λ (x : List ℕ). signals_text made.0 ++ x) (next_spelled made.1 bytes rest e) ∙ signals_led_text made.0 rest r.some)

  pub signals_spelled : (bytes : List ℕ) (ss : Signals) (rest : List ℕ) → signals_read part bytes ≡ Ok (ss, rest) → AreSignals scope [] ss × HasSignals ss × (bytes ≡ signals_text ss ++ rest)
  unfolding signals_read
  signals_spelled bytes ss rest e =
      let h = and_then (several (signals_step part) (λ made rest. next_after made.1 rest) (length bytes) (no_signals, []) bytes) (λ (x : (Signals × List ℕ) × List ℕ). Ok (x.0.0, x.1)) (ss, rest) e in
      let r : SignalsAfter bytes h.0.0 h.0.1 = row_spelled (signals_step part) (λ made rest. next_after made.1 rest) (SignalsBefore bytes) (SignalsAfter bytes) (signals_on bytes) (signals_next bytes) (length bytes) (no_signals, []) bytes h.0.0 h.0.1 (tt, refl, refl) h.1 in
      let same : (h.0.0.0, h.0.1) ≡ (ss, rest) = ok_same (Ok (h.0.0.0, h.0.1)) (h.0.0.0, h.0.1) (ss, rest) refl h.2 in
      subst (λ (x : Signals × List ℕ). AreSignals scope [] x.0 × HasSignals x.0 × (bytes ≡ signals_text x.0 ++ x.1)) same (r.are, r.some, r.spelled)

  pub all_signals_spelled : (bytes : List ℕ) (ss : Signals) (rest : List ℕ) → all_signals_read part bytes ≡ Ok (ss, rest) → SignalsRead scope bytes ss rest
  unfolding all_signals_read
  all_signals_spelled bytes ss rest e =
      elim (either (begins_with 115 bytes) (literal_at (codes "signals(") bytes >>= λ rest. signals_read part rest >>= λ ss. literal_at (41 ∷ []) ss.1 >>= λ rest. Ok (ss.0, rest)) (Ok (no_signals, bytes)) (Ok (ss, rest)) e) [
        | inl q ↦ (let a = and_then (literal_at (codes "signals(") bytes) (λ (rest : List ℕ). signals_read part rest >>= λ ss. literal_at (41 ∷ []) ss.1 >>= λ rest. Ok (ss.0, rest)) (ss, rest) q.1 in
            let b = and_then (signals_read part a.0) (λ (ss : Signals × List ℕ). literal_at (41 ∷ []) ss.1 >>= λ rest. Ok (ss.0, rest)) (ss, rest) a.2 in
            let c = closed_spelled 41 b.0.0 b.0.1 ss rest b.2 in
            let read = signals_spelled a.0 b.0.0 b.0.1 b.1 in
            let text : bytes ≡ all_signals_text b.0.0 ++ rest =
            literal_spelled (codes "signals(") bytes a.0 a.1 ∙ ap (λ (x : List ℕ). codes "signals(" ++ x) (read.2 ∙ ap (λ (x : List ℕ). signals_text b.0.0 ++ x) c.1) ∙ all_signals_shown b.0.0 rest read.1 in
            subst (λ (x : Signals). SignalsRead scope bytes x rest) c.0 (record { are = read.0; spelled = text }))
        | inr q ↦ (let same : (no_signals, bytes) ≡ (ss, rest) = ok_same (Ok (no_signals, bytes)) (no_signals, bytes) (ss, rest) refl q.1 in
            subst (λ (x : Signals × List ℕ). SignalsRead scope bytes x.0 x.1) same (record { are = tt; spelled = refl }))
      ]

  -- headings
  pub results_spelled : (iter : Bool) (bytes : List ℕ) (ts : CluTypes) (rest : List ℕ) → results_read part iter bytes ≡ Ok (ts, rest) → ListRead scope bytes (results_word iter) ts rest
  unfolding results_read
  results_spelled true bytes ts rest e =
      elim (either (begins_with 121 bytes) (literal_at (codes "yields(") bytes >>= λ rest. closed_types_read part rest) (Ok (no_types, bytes)) (Ok (ts, rest)) e) [
        | inl h ↦ worded_spelled (codes "yields(") bytes ts rest h.1
        | inr h ↦ no_list (codes "yields(") bytes ts rest (ok_same (Ok (no_types, bytes)) (no_types, bytes) (ts, rest) refl h.1)
      ]
  results_spelled false bytes ts rest e =
      elim (either (begins_with 114 bytes) (literal_at (codes "returns(") bytes >>= λ rest. closed_types_read part rest) (Ok (no_types, bytes)) (Ok (ts, rest)) e) [
        | inl h ↦ worded_spelled (codes "returns(") bytes ts rest h.1
        | inr h ↦ no_list (codes "returns(") bytes ts rest (ok_same (Ok (no_types, bytes)) (no_types, bytes) (ts, rest) refl h.1)
      ]

  pub record ArgumentsRead (whole : List ℕ) (ts : CluTypes) (rest : List ℕ) : Type 0 where
    pub are : AreTypes scope ts
    pub spelled : whole ≡ types_text ts ++ 41 ∷ rest

  pub arguments_by_spelled : (o : Option (List ℕ)) (bytes : List ℕ) (ts : CluTypes) (rest : List ℕ) → behind 41 bytes ≡ o → arguments_by part o bytes ≡ Ok (ts, rest) → ArgumentsRead bytes ts rest
  unfolding arguments_by
  arguments_by_spelled None bytes ts rest o e = let read = closed_types_spelled bytes ts rest e in record { are = read.are; spelled = read.spelled }
  arguments_by_spelled (Some inner) bytes ts rest o e =
      let same : (no_types, inner) ≡ (ts, rest) = ok_same (Ok (no_types, inner)) (no_types, inner) (ts, rest) refl e in
      subst (λ (x : CluTypes × List ℕ). ArgumentsRead bytes x.0 x.1) same (record { are = tt; spelled = behind_spelled 41 bytes inner o })

  pub arguments_spelled : (bytes : List ℕ) (ts : CluTypes) (rest : List ℕ) → arguments_read part bytes ≡ Ok (ts, rest) → AreTypes scope ts × (bytes ≡ 40 ∷ (types_text ts ++ 41 ∷ rest))
  unfolding arguments_read
  arguments_spelled bytes ts rest e =
      let h = and_then (literal_at (40 ∷ []) bytes) (λ (rest : List ℕ). arguments_by part (behind 41 rest) rest) (ts, rest) e in
      let read = arguments_by_spelled (behind 41 h.0) h.0 ts rest refl h.2 in
      (read.are, literal_spelled (40 ∷ []) bytes h.0 h.1 ∙ ap (λ (x : List ℕ). 40 ∷ x) read.spelled)

  pub heading_spelled : (iter : Bool) (bytes : List ℕ) (args results : CluTypes) (signals : Signals) (rest : List ℕ) → heading_read part iter bytes ≡ Ok ((args, results, signals), rest) → HeadingRead scope iter bytes args results signals rest
  unfolding heading_read
  heading_spelled iter bytes args results signals rest e =
      let given : (CluTypes × CluTypes × Signals) × List ℕ = ((args, results, signals), rest) in
      let a = and_then (arguments_read part bytes) (λ (args : CluTypes × List ℕ). results_read part iter args.1 >>= λ results. all_signals_read part results.1 >>= λ signals. Ok ((args.0, results.0, signals.0), signals.1)) given e in
      let b = and_then (results_read part iter a.0.1) (λ (results : CluTypes × List ℕ). all_signals_read part results.1 >>= λ signals. Ok ((a.0.0, results.0, signals.0), signals.1)) given a.2 in
      let c = and_then (all_signals_read part b.0.1) (λ (signals : Signals × List ℕ). Ok ((a.0.0, b.0.0, signals.0), signals.1)) given b.2 in
      let read_args = arguments_spelled bytes a.0.0 a.0.1 a.1 in
      let read_results = results_spelled iter a.0.1 b.0.0 b.0.1 b.1 in
      let read_signals = all_signals_spelled b.0.1 c.0.0 c.0.1 c.1 in
      let read : (CluTypes × CluTypes × Signals) × List ℕ = ((a.0.0, b.0.0, c.0.0), c.0.1) in
      let same : read ≡ given = ok_same (Ok read) read given refl c.2 in
      let text : bytes ≡ heading_text iter a.0.0 b.0.0 c.0.0 ++ c.0.1 =
      read_args.1 ∙ ap (λ (x : List ℕ). 40 ∷ (types_text a.0.0 ++ 41 ∷ x)) (read_results.spelled ∙ ap (λ (x : List ℕ). closed_text (results_word iter) b.0.0 ++ x) read_signals.spelled) ∙ simp append_assoc in
      subst (λ (x : (CluTypes × CluTypes × Signals) × List ℕ). HeadingRead scope iter bytes x.0.0 x.0.1 x.0.2 x.1) same
      (record { args_are = read_args.0; results_are = read_results.are; signals_are = read_signals.are; spelled = text })
