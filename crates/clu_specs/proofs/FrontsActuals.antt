-- Actual parameters and types: where one is refused, the bytes before that begin one of the grammar.
use Rattle.std.proofs.Common.{◌≡◌, ℕ, zero, suc, ℤ, Bool, true, false, List, [], ◌∷◌, ◌++◌, length, codes, decimal, Option, Some, None, Ok, Err, refl, sym, ap, subst, ◌∙◌, arith, append-nil, inl, inr}
use Rattle.clu_base.specs.declared.constants.Const.{Const}
use Rattle.clu_base.specs.declared.constants.Const.TheVariants as const
use Rattle.clu_types.specs.CluType.{CluType, any_type, cluster_of, parameter, CluTypes, Fields, no_fields, Signals, Actuals, no_actuals, actual_type, actual_const, actual_param}
use Rattle.clu_specs.specs.declared.actuals.Lead.{Lead}
use Rattle.clu_specs.specs.declared.actuals.Lead.TheVariants as lead
use Rattle.clu_specs.specs.declared.keywords.Listing.{Listing}
use Rattle.clu_specs.specs.declared.keywords.Listing.TheVariants as listing
use Rattle.clu_specs.specs.declared.keywords.Selecting.{Selecting}
use Rattle.clu_specs.specs.declared.keywords.Selecting.TheVariants as selecting
use Rattle.clu_specs.specs.declared.keywords.Keyword.{Keyword}
use Rattle.clu_specs.specs.declared.keywords.Keyword.TheVariants as keyword
use Rattle.clu_specs.specs.declared.scope.Sort.TheVariants as sort
use Rattle.clu_specs.specs.declared.scope.Scope.{Scope}
use Rattle.clu_specs.specs.Reading.{◌>>=◌, literal_at, behind, end_at}
use Rattle.clu_specs.specs.Names.{first_word, behind_word, name_after}
use Rattle.clu_specs.specs.Keywords.{keyword_of}
use Rattle.clu_specs.specs.Scopes.{parameter_at, any_scope}
use Rattle.clu_specs.specs.Constants.{constant_text, word_constant, byte_at, string_at, integer_at}
use Rattle.clu_specs.specs.Texts.{type_text, fields_text, heading_text, all_actuals_text}
use Rattle.clu_specs.specs.TypeReading.{Reader, actuals_joined, simple_type, listing_type, selecting_type, routine_type, fields_read, heading_read, lead_of, word_actual_by, marked_actual_read, actual_by, actual_read, actuals_step, actuals_read, all_actuals_by, all_actuals_read, cluster_type_read, keyword_type_read, word_type_by, one_type_by, type_read, whole_type}
use Rattle.clu_specs.specs.Grammar.{IsConstant, HasFields, IsType, AreFields, AreActuals}
use Rattle.clu_specs.proofs.Outcomes.{literal_spelled, behind_spelled}
use Rattle.clu_specs.proofs.Spelled.{word_spelled, name_read, keyword_text, keyword_spelled}
use Rattle.clu_specs.proofs.TypesSpelled.{Sound, fields_spelled}
use Rattle.clu_specs.proofs.ActualsSpelled.{actuals_text, actuals_led, HasActuals, all_some, joined_text, joined_some, joined_are, ActualsRead, LeadIs, lead_is, ActualsBefore, actuals_on, actuals_next, actuals_spelled, type_spelled}
use Rattle.clu_specs.proofs.Fronts.{Front, Fronts, same_left, never, at_once, front_on, front_as, and_fails, shown, shown_on, literal_front, closing_front, ended_front, row_front}
use Rattle.clu_specs.proofs.FrontsNames.{NameBegun, earlier_none, name_front, freed}
use Rattle.clu_specs.proofs.FrontsNumbers.{Leads, any_leads, parameter_front, byte_front, string_front, integer_front}
use Rattle.clu_specs.proofs.FrontsTypes.{TypeBegun, any_begun, FieldsBegun, HeadingBegun, field_named, fields_item, first_name, fields_front, heading_front}

-- actual parameters go on from the bytes
pub record ActualsBegun (scope : Scope) (q : List ℕ) : Type 0 where
  pub a : Actuals
  pub rest : List ℕ
  pub are : AreActuals scope a
  pub some : HasActuals a
  pub spelled : actuals_text a ≡ q ++ rest

pub record AllActualsBegun (scope : Scope) (q : List ℕ) : Type 0 where
  pub a : Actuals
  pub rest : List ℕ
  pub are : AreActuals scope a
  pub spelled : all_actuals_text a ≡ q ++ rest

-- the texts after the words of types
listing_text : (word : Listing) (t : CluType) → type_text (listing_type word t) ≡ keyword_text (keyword.Listing word) ++ 91 ∷ (type_text t ++ 93 ∷ [])
listing_text listing.Array t = refl
listing_text listing.Sequence t = refl

selecting_text : (word : Selecting) (fs : Fields) → type_text (selecting_type word fs) ≡ keyword_text (keyword.Selecting word) ++ 91 ∷ (fields_text fs ++ 93 ∷ [])
selecting_text selecting.Record fs = refl
selecting_text selecting.Struct fs = refl
selecting_text selecting.Oneof fs = refl
selecting_text selecting.Variant fs = refl

routine_text : (iter : Bool) (args results : CluTypes) (ss : Signals) → type_text (routine_type iter args results ss) ≡ keyword_text (keyword.Routine iter) ++ heading_text iter args results ss
routine_text true args results ss = refl
routine_text false args results ss = refl

module _ (scope : Scope) where
  any_actual : ActualsBegun scope []
  any_actual = record { a = actual_type any_type no_actuals; rest = codes "any"; are = (tt, tt); some = tt; spelled = refl }

  constant_begun : (c : Const) → IsConstant c → (q rest : List ℕ) → constant_text c ≡ q ++ rest → ActualsBegun scope q
  constant_begun c is q rest e = record { a = actual_const c no_actuals; rest = rest; are = (is, tt); some = tt; spelled = append-nil (constant_text c) ∙ e }

  listing_is : (word : Listing) (t : CluType) → IsType scope t → IsType scope (listing_type word t)
  listing_is listing.Array t is = is
  listing_is listing.Sequence t is = is

  selecting_is : (word : Selecting) (fs : Fields) → HasFields fs → AreFields scope [] fs → IsType scope (selecting_type word fs)
  selecting_is selecting.Record fs has are = (has, are)
  selecting_is selecting.Struct fs has are = (has, are)
  selecting_is selecting.Oneof fs has are = (has, are)
  selecting_is selecting.Variant fs has are = (has, are)

  routine_is : (iter : Bool) (q : List ℕ) (h : HeadingBegun scope iter q) → IsType scope (routine_type iter h.args h.results h.signals)
  routine_is true q h = (h.args_are, h.results_are, h.signals_are)
  routine_is false q h = (h.args_are, h.results_are, h.signals_are)

  actuals_item : (made : Actuals) → AreActuals scope made → (q : List ℕ) → ActualsBegun scope q → ActualsBegun scope (actuals_led made ++ q)
  actuals_item made are q x = record {
    a = actuals_joined made x.a;
    rest = x.rest ++ [];
    are = joined_are scope made x.a are x.are;
    some = joined_some made x.a x.some;
    spelled = sym (append-nil (actuals_text (actuals_joined made x.a))) ∙ joined_text made x.a [] x.some ∙ shown (actuals_led made) (actuals_text x.a) [] q x.rest x.spelled;
  }

  some_fields : FieldsBegun scope []
  some_fields = fields_item scope no_fields [] tt refl [] (field_named scope [] [] (first_name [] earlier_none))

module _ (scope : Scope) (leads : Leads scope) where
  marked_front : (l : Lead) (b : ℕ) (bytes : List ℕ) (left : ℕ) → LeadIs l b → marked_actual_read scope l (b ∷ bytes) ≡ Err left → Front (ActualsBegun scope) (b ∷ bytes) left
  unfolding marked_actual_read
  marked_front lead.Parameter b bytes left is e =
      elim (and_fails (parameter_at scope sort.Constant (b ∷ bytes) bytes) (λ (n : ℕ × List ℕ). Ok (actual_param n.0 no_actuals, n.1)) left e) [
        | inl h ↦ elim (parameter_front scope leads sort.Constant (b ∷ bytes) bytes left h) [
          | inl same ↦ at_once (b ∷ bytes) left same (any_actual scope)
          | inr f ↦ front_on (37 ∷ []) (b ∷ bytes) bytes left (ap (λ (x : ℕ). x ∷ bytes) is) f
              (λ q x. record { a = actual_param x.n no_actuals; rest = x.rest; are = (x.is, tt); some = tt; spelled = append-nil (37 ∷ decimal x.n) ∙ ap (λ (y : List ℕ). 37 ∷ y) x.spelled })
        ]
        | inr h ↦ absurd (never (actual_param h.0.0 no_actuals, h.0.1) left h.2)
      ]
  marked_front lead.Char b bytes left is e =
      elim (and_fails (byte_at bytes) (λ (c : ℕ × List ℕ). Ok (actual_const (const.Char c.0) no_actuals, c.1)) left e) [
        | inl h ↦ front_on (39 ∷ []) (b ∷ bytes) bytes left (ap (λ (x : ℕ). x ∷ bytes) is) (byte_front bytes left h) (λ q x. constant_begun scope (const.Char x.b) x.small (39 ∷ q) x.rest (ap (λ (y : List ℕ). 39 ∷ y) x.spelled))
        | inr h ↦ absurd (never (actual_const (const.Char h.0.0) no_actuals, h.0.1) left h.2)
      ]
  marked_front lead.Text b bytes left is e =
      elim (and_fails (string_at (length bytes) [] bytes) (λ (text : List ℕ × List ℕ). Ok (actual_const (const.Str text.0) no_actuals, text.1)) left e) [
        | inl h ↦ front_on (34 ∷ []) (b ∷ bytes) bytes left (ap (λ (x : ℕ). x ∷ bytes) is) (string_front (length bytes) [] bytes left h)
            (λ q x. constant_begun scope (const.Str x.text) x.are (34 ∷ q) x.rest (ap (λ (y : List ℕ). 34 ∷ y) x.spelled))
        | inr h ↦ absurd (never (actual_const (const.Str h.0.0) no_actuals, h.0.1) left h.2)
      ]
  marked_front lead.Integer b bytes left is e =
      elim (and_fails (integer_at (b ∷ bytes)) (λ (n : ℤ × List ℕ). Ok (actual_const (const.Int n.0) no_actuals, n.1)) left e) [
        | inl h ↦ front_as (b ∷ bytes) left (integer_front (b ∷ bytes) left h) (λ q x. constant_begun scope (const.Int x.n) x.is q x.rest x.spelled)
        | inr h ↦ absurd (never (actual_const (const.Int h.0.0) no_actuals, h.0.1) left h.2)
      ]
  marked_front lead.Word b bytes left is e = at_once (b ∷ bytes) left (same_left {A = Actuals × List ℕ} (Err (length (b ∷ bytes))) (length (b ∷ bytes)) left refl e) (any_actual scope)

  marked_any : (l : Lead) (bytes : List ℕ) (left : ℕ) → lead_of bytes ≡ l → marked_actual_read scope l bytes ≡ Err left → Front (ActualsBegun scope) bytes left
  unfolding marked_actual_read
  marked_any l [] left is e = at_once [] left (same_left {A = Actuals × List ℕ} (Err 0) 0 left refl e) (any_actual scope)
  marked_any l (b ∷ bytes) left is e = marked_front l b bytes left (subst (λ (x : Lead). LeadIs x b) is (lead_is b bytes)) e

  module _ (part : Reader CluType) (sound : Sound scope part) (fronts : Fronts (TypeBegun scope) part) where
    word_front : (o : Option Const) (bytes : List ℕ) (left : ℕ) → word_actual_by part o bytes ≡ Err left → Front (ActualsBegun scope) bytes left
    unfolding word_actual_by
    word_front None bytes left e =
        elim (and_fails (part bytes) (λ (t : CluType × List ℕ). Ok (actual_type t.0 no_actuals, t.1)) left e) [
          | inl h ↦ front_as bytes left (fronts bytes left h) (λ q x. record { a = actual_type x.t no_actuals; rest = x.rest; are = (x.is, tt); some = tt; spelled = append-nil (type_text x.t) ∙ x.spelled })
          | inr h ↦ absurd (never (actual_type h.0.0 no_actuals, h.0.1) left h.2)
        ]
    word_front (Some c) bytes left e = absurd (never (actual_const c no_actuals, behind_word bytes) left e)

    actual_front : (l : Lead) (bytes : List ℕ) (left : ℕ) → lead_of bytes ≡ l → actual_by scope part l bytes ≡ Err left → Front (ActualsBegun scope) bytes left
    unfolding actual_by
    actual_front lead.Word bytes left is e = word_front (word_constant (first_word bytes)) bytes left e
    actual_front lead.Parameter bytes left is e = marked_any lead.Parameter bytes left is e
    actual_front lead.Char bytes left is e = marked_any lead.Char bytes left is e
    actual_front lead.Text bytes left is e = marked_any lead.Text bytes left is e
    actual_front lead.Integer bytes left is e = marked_any lead.Integer bytes left is e

    actuals_fails : (whole : List ℕ) (made : Actuals) (bytes : List ℕ) (left : ℕ) → ActualsBefore scope part sound whole made bytes → actuals_step scope part made bytes ≡ Err left → Front (ActualsBegun scope) whole left
    actuals_fails whole made bytes left b e =
        elim (and_fails (actual_read scope part bytes) (λ (a : Actuals × List ℕ). Ok (actuals_joined made a.0, a.1)) left e) [
          | inl h ↦ front_on (actuals_led made) whole bytes left b.1 (actual_front (lead_of bytes) bytes left refl h) (λ q x. actuals_item scope made b.0 q x)
          | inr h ↦ absurd (never (actuals_joined made h.0.0, h.0.1) left h.2)
        ]

    actuals_out : (whole : List ℕ) (made : Actuals) (bytes : List ℕ) → ActualsBefore scope part sound whole made bytes → Front (ActualsBegun scope) whole (length bytes)
    actuals_out whole made bytes b =
        let now : Front (ActualsBegun scope) bytes (length bytes) = at_once bytes (length bytes) refl (any_actual scope) in
        front_on (actuals_led made) whole bytes (length bytes) b.1 now (λ q x. actuals_item scope made b.0 q x)

    actuals_front : Fronts (ActualsBegun scope) (actuals_read scope part)
    unfolding actuals_read
    actuals_front bytes left e =
        row_front (actuals_step scope part) (λ made rest. behind 44 rest) (ActualsBefore scope part sound bytes) (ActualsRead scope bytes) (Front (ActualsBegun scope) bytes) (actuals_on scope part sound bytes) (actuals_next scope part sound bytes) (actuals_fails bytes) (actuals_out bytes)
        (length bytes) no_actuals bytes left (tt, refl) e

    all_actuals_front : (o : Option (List ℕ)) (bytes : List ℕ) (left : ℕ) → behind 91 bytes ≡ o → all_actuals_by scope part o bytes ≡ Err left → Front (AllActualsBegun scope) bytes left
    unfolding all_actuals_by
    all_actuals_front None bytes left o e = absurd (never (no_actuals, bytes) left e)
    all_actuals_front (Some inner) bytes left o e =
        let mark = behind_spelled 91 bytes inner o in
        elim (and_fails (actuals_read scope part inner) (λ (given : Actuals × List ℕ). literal_at (93 ∷ []) given.1 >>= λ rest. Ok (given.0, rest)) left e) [
          | inl h ↦ front_on (91 ∷ []) bytes inner left mark (actuals_front inner left h)
              (λ q x. record { a = x.a; rest = x.rest ++ 93 ∷ []; are = x.are; spelled = all_some x.a x.some ∙ shown (91 ∷ []) (actuals_text x.a) (93 ∷ []) q x.rest x.spelled })
          | inr h ↦ (let read = actuals_spelled scope part sound inner h.0.0 h.0.1 h.1 in
              let whole : bytes ≡ (91 ∷ actuals_text h.0.0) ++ h.0.1 = mark ∙ ap (λ (x : List ℕ). 91 ∷ x) read.spelled in
              front_on (91 ∷ actuals_text h.0.0) bytes h.0.1 left whole (closing_front 93 h.0.0 h.0.1 left h.2)
              (λ q x. record { a = h.0.0; rest = x.0; are = read.are; spelled = all_some h.0.0 read.some ∙ shown_on (91 ∷ actuals_text h.0.0) (93 ∷ []) q x.0 x.1 }))
        ]

    -- types
    named_begun : (q : List ℕ) → NameBegun [] 200 q → TypeBegun scope q
    named_begun q n =
        let f = freed q n in
        record { t = cluster_of f.begun.name no_actuals; rest = f.begun.rest; is = (f.begun.is, f.free, tt); spelled = append-nil f.begun.name ∙ f.begun.spelled }

    cluster_front : (bytes : List ℕ) (left : ℕ) → keyword_of (first_word bytes) ≡ None → cluster_type_read scope part bytes ≡ Err left → Front (TypeBegun scope) bytes left
    unfolding cluster_type_read
    cluster_front bytes left free e =
        elim (and_fails (name_after [] 200 bytes) (λ (name : List ℕ × List ℕ). all_actuals_read scope part name.1 >>= λ given. Ok (cluster_of name.0 given.0, given.1)) left e) [
          | inl h ↦ front_as bytes left (name_front [] 200 (omega arith) earlier_none bytes left h) (λ q n. named_begun q n)
          | inr h ↦ (let name : List ℕ = h.0.0 in
              let named = name_read [] 200 bytes name h.0.1 h.1 in
              elim (and_fails (all_actuals_read scope part h.0.1) (λ (given : Actuals × List ℕ). Ok (cluster_of name given.0, given.1)) left h.2) [
                | inl g ↦ front_on name bytes h.0.1 left named.spelled (all_actuals_front (behind 91 h.0.1) h.0.1 left refl g)
                    (λ q x. record { t = cluster_of name x.a; rest = x.rest; is = (named.is, ap keyword_of (sym named.word) ∙ free, x.are); spelled = shown_on name (all_actuals_text x.a) q x.rest x.spelled })
                | inr g ↦ absurd (never (cluster_of name g.0.0, g.0.1) left g.2)
              ])
        ]

    -- after a word of its own
    abbrev Behind : List ℕ → List ℕ → Type 0
    Behind word q = TypeBegun scope (word ++ q)

    listing_front : (word : Listing) (bytes : List ℕ) (left : ℕ) → keyword_type_read scope part (keyword.Listing word) bytes ≡ Err left → Front (Behind (keyword_text (keyword.Listing word))) bytes left
    unfolding keyword_type_read
    listing_front word bytes left e =
        let w : List ℕ = keyword_text (keyword.Listing word) in
        elim (and_fails (literal_at (91 ∷ []) bytes) (λ (rest : List ℕ). part rest >>= λ t. literal_at (93 ∷ []) t.1 >>= λ rest. Ok (listing_type word t.0, rest)) left e) [
          | inl h ↦ front_as bytes left (literal_front (91 ∷ []) bytes left h)
              (λ q x. record { t = listing_type word any_type; rest = x.0 ++ (codes "any" ++ 93 ∷ []); is = listing_is scope word any_type tt; spelled = listing_text word any_type ∙ shown w (91 ∷ []) (codes "any" ++ 93 ∷ []) q x.0 x.1 })
          | inr h ↦ (let mark = literal_spelled (91 ∷ []) bytes h.0 h.1 in
              elim (and_fails (part h.0) (λ (t : CluType × List ℕ). literal_at (93 ∷ []) t.1 >>= λ rest. Ok (listing_type word t.0, rest)) left h.2) [
                | inl g ↦ front_on (91 ∷ []) bytes h.0 left mark (fronts h.0 left g)
                    (λ q x. record { t = listing_type word x.t; rest = x.rest ++ 93 ∷ []; is = listing_is scope word x.t x.is; spelled = listing_text word x.t ∙ shown w (91 ∷ type_text x.t) (93 ∷ []) (91 ∷ q) x.rest (ap (λ (y : List ℕ). 91 ∷ y) x.spelled) })
                | inr g ↦ (let t : CluType = g.0.0 in
                    let read = sound h.0 t g.0.1 g.1 in
                    let whole : bytes ≡ (91 ∷ type_text t) ++ g.0.1 = mark ∙ ap (λ (x : List ℕ). 91 ∷ x) read.spelled in
                    front_on (91 ∷ type_text t) bytes g.0.1 left whole (closing_front 93 (listing_type word t) g.0.1 left g.2)
                    (λ q x. record { t = listing_type word t; rest = x.0; is = listing_is scope word t read.is; spelled = listing_text word t ∙ shown_on w (91 ∷ (type_text t ++ 93 ∷ [])) ((91 ∷ type_text t) ++ q) x.0 (shown_on (91 ∷ type_text t) (93 ∷ []) q x.0 x.1) }))
              ])
        ]

    selecting_front : (word : Selecting) (bytes : List ℕ) (left : ℕ) → keyword_type_read scope part (keyword.Selecting word) bytes ≡ Err left → Front (Behind (keyword_text (keyword.Selecting word))) bytes left
    unfolding keyword_type_read
    selecting_front word bytes left e =
        let w : List ℕ = keyword_text (keyword.Selecting word) in
        elim (and_fails (literal_at (91 ∷ []) bytes) (λ (rest : List ℕ). fields_read part rest >>= λ fs. literal_at (93 ∷ []) fs.1 >>= λ rest. Ok (selecting_type word fs.0, rest)) left e) [
          | inl h ↦ (let f = some_fields scope in
              front_as bytes left (literal_front (91 ∷ []) bytes left h)
              (λ q x. record { t = selecting_type word f.fs; rest = x.0 ++ (fields_text f.fs ++ 93 ∷ []); is = selecting_is scope word f.fs f.some f.are; spelled = selecting_text word f.fs ∙ shown w (91 ∷ []) (fields_text f.fs ++ 93 ∷ []) q x.0 x.1 }))
          | inr h ↦ (let mark = literal_spelled (91 ∷ []) bytes h.0 h.1 in
              elim (and_fails (fields_read part h.0) (λ (fs : Fields × List ℕ). literal_at (93 ∷ []) fs.1 >>= λ rest. Ok (selecting_type word fs.0, rest)) left h.2) [
                | inl g ↦ front_on (91 ∷ []) bytes h.0 left mark (fields_front scope part sound fronts h.0 left g)
                    (λ q x. record { t = selecting_type word x.fs; rest = x.rest ++ 93 ∷ []; is = selecting_is scope word x.fs x.some x.are; spelled = selecting_text word x.fs ∙ shown w (91 ∷ fields_text x.fs) (93 ∷ []) (91 ∷ q) x.rest (ap (λ (y : List ℕ). 91 ∷ y) x.spelled) })
                | inr g ↦ (let fs : Fields = g.0.0 in
                    let read = fields_spelled scope part sound h.0 fs g.0.1 g.1 in
                    let whole : bytes ≡ (91 ∷ fields_text fs) ++ g.0.1 = mark ∙ ap (λ (x : List ℕ). 91 ∷ x) read.2 in
                    front_on (91 ∷ fields_text fs) bytes g.0.1 left whole (closing_front 93 (selecting_type word fs) g.0.1 left g.2)
                    (λ q x. record { t = selecting_type word fs; rest = x.0; is = selecting_is scope word fs read.1 read.0; spelled = selecting_text word fs ∙ shown_on w (91 ∷ (fields_text fs ++ 93 ∷ [])) ((91 ∷ fields_text fs) ++ q) x.0 (shown_on (91 ∷ fields_text fs) (93 ∷ []) q x.0 x.1) }))
              ])
        ]

    keyword_front : (k : Keyword) (bytes : List ℕ) (left : ℕ) → keyword_type_read scope part k bytes ≡ Err left → Front (Behind (keyword_text k)) bytes left
    unfolding keyword_type_read
    keyword_front (keyword.Simple word) bytes left e = absurd (never (simple_type word, bytes) left e)
    keyword_front (keyword.Listing word) bytes left e = listing_front word bytes left e
    keyword_front (keyword.Selecting word) bytes left e = selecting_front word bytes left e
    keyword_front (keyword.Routine iter) bytes left e =
        let w : List ℕ = keyword_text (keyword.Routine iter) in
        elim (and_fails (heading_read part iter bytes) (λ (h : (CluTypes × CluTypes × Signals) × List ℕ). Ok (routine_type iter h.0.0 h.0.1 h.0.2, h.1)) left e) [
          | inl h ↦ front_as bytes left (heading_front scope part sound fronts iter bytes left h)
              (λ q x. record { t = routine_type iter x.args x.results x.signals; rest = x.rest; is = routine_is scope iter q x; spelled = routine_text iter x.args x.results x.signals ∙ shown_on w (heading_text iter x.args x.results x.signals) q x.rest x.spelled })
          | inr h ↦ absurd (never (routine_type iter h.0.0.0 h.0.0.1 h.0.0.2, h.0.1) left h.2)
        ]

    word_type_front : (o : Option Keyword) (bytes : List ℕ) (left : ℕ) → keyword_of (first_word bytes) ≡ o → word_type_by scope part o bytes ≡ Err left → Front (TypeBegun scope) bytes left
    unfolding word_type_by
    word_type_front None bytes left o e = cluster_front bytes left o e
    word_type_front (Some k) bytes left o e =
        front_on (keyword_text k) bytes (behind_word bytes) left (word_spelled bytes ∙ ap (λ (x : List ℕ). x ++ behind_word bytes) (keyword_spelled (first_word bytes) k o)) (keyword_front k (behind_word bytes) left e) (λ q x. x)

    one_type_front : (o : Option (List ℕ)) (bytes : List ℕ) (left : ℕ) → behind 35 bytes ≡ o → one_type_by scope part o bytes ≡ Err left → Front (TypeBegun scope) bytes left
    unfolding one_type_by
    one_type_front None bytes left o e = word_type_front (keyword_of (first_word bytes)) bytes left refl e
    one_type_front (Some inner) bytes left o e =
        elim (and_fails (parameter_at scope sort.Type bytes inner) (λ (n : ℕ × List ℕ). Ok (parameter n.0, n.1)) left e) [
          | inl h ↦ elim (parameter_front scope leads sort.Type bytes inner left h) [
            | inl same ↦ at_once bytes left same (any_begun scope)
            | inr f ↦ front_on (35 ∷ []) bytes inner left (behind_spelled 35 bytes inner o) f (λ q x. record { t = parameter x.n; rest = x.rest; is = x.is; spelled = ap (λ (y : List ℕ). 35 ∷ y) x.spelled })
          ]
          | inr h ↦ absurd (never (parameter h.0.0, h.0.1) left h.2)
        ]

  pub type_front : (depth : ℕ) → Fronts (TypeBegun scope) (type_read scope depth)
  unfolding type_read
  type_front zero bytes left e = at_once bytes left (same_left {A = CluType × List ℕ} (Err (length bytes)) (length bytes) left refl e) (any_begun scope)
  type_front (suc depth) bytes left e = one_type_front (type_read scope depth) (type_spelled scope depth) (type_front depth) (behind 35 bytes) bytes left refl e

-- a type that was read
pub read_type : (scope : Scope) (t : CluType) → IsType scope t → TypeBegun scope (type_text t)
read_type scope t is = record { t = t; rest = []; is = is; spelled = sym (append-nil (type_text t)) }

-- read alone
pub whole_type_front : Fronts (TypeBegun any_scope) whole_type
unfolding whole_type
whole_type_front bytes left e =
    elim (and_fails (type_read any_scope (length bytes) bytes) (λ (x : CluType × List ℕ). end_at x.0 x.1) left e) [
      | inl h ↦ type_front any_scope any_leads (length bytes) bytes left h
      | inr h ↦ (let read = type_spelled any_scope (length bytes) bytes h.0.0 h.0.1 h.1 in
          record { front = type_text h.0.0; back = h.0.1; whole = read.spelled; rest = ended_front h.0.0 h.0.1 left h.2; begun = read_type any_scope h.0.0 read.is })
    ]
