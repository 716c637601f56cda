-- Actual parameters and types: what was read is of the grammar, and spelled by the bytes that were read.
use Rattle.std.proofs.Common.{◌≡◌, ℕ, zero, suc, ℤ, Bool, true, false, ◌==◌, List, [], ◌∷◌, ◌++◌, length, codes, decimal, Option, Some, None, Ok, refl, sym, ap, subst, ◌∙◌, append_assoc, append-nil, flat_map, inl, inr}
use Rattle.std.specs.Char.{is_ascii_digit}
use Rattle.std.proofs.lemmas.Bool.{eqb-true, cases_Bool}
use Rattle.clu_base.specs.declared.constants.Const.{Const}
use Rattle.clu_base.specs.declared.constants.Const.TheVariants as const
use Rattle.clu_types.specs.CluType.{CluType, cluster_of, parameter, CluTypes, Fields, Signals, Actuals, no_actuals, actual_type, actual_const, actual_param}
use Rattle.clu_specs.specs.declared.actuals.Lead.{Lead}
use Rattle.clu_specs.specs.declared.actuals.Lead.TheVariants as lead
use Rattle.clu_specs.specs.declared.keywords.Simple.{Simple}
use Rattle.clu_specs.specs.declared.keywords.Simple.TheVariants as simple
use Rattle.clu_specs.specs.declared.keywords.Listing.{Listing}
use Rattle.clu_specs.specs.declared.keywords.Listing.TheVariants as listing
use Rattle.clu_specs.specs.declared.keywords.Selecting.{Selecting}
use Rattle.clu_specs.specs.declared.keywords.Selecting.TheVariants as selecting
use Rattle.clu_specs.specs.declared.keywords.Keyword.{Keyword}
use Rattle.clu_specs.specs.declared.keywords.Keyword.TheVariants as keyword
use Rattle.clu_specs.specs.declared.scope.Sort.TheVariants as sort
use Rattle.clu_specs.specs.declared.scope.Scope.{Scope}
use Rattle.clu_specs.specs.Reading.{◌>>=◌, literal_at, behind, end_at}
use Rattle.clu_specs.specs.Names.{first_word, behind_word, name_after}
use Rattle.clu_specs.specs.Keywords.{keyword_of}
use Rattle.clu_specs.specs.Scopes.{parameter_at, any_scope}
use Rattle.clu_specs.specs.Constants.{hex_byte, constant_text, word_constant, byte_at, string_at, integer_at}
use Rattle.clu_specs.specs.Texts.{type_text, fields_text, more_actuals_text, all_actuals_text}
use Rattle.clu_specs.specs.TypeReading.{Reader, actuals_joined, simple_type, listing_type, selecting_type, routine_type, fields_read, heading_read, lead_of, word_actual_by, marked_actual_read, actual_by, actual_read, actuals_step, actuals_read, all_actuals_by, all_actuals_read, cluster_type_read, keyword_type_read, word_type_by, one_type_by, type_read, whole_type}
use Rattle.clu_specs.specs.Grammar.{IsConstant, HasFields, IsType, AreFields, AreActuals}
use Rattle.clu_specs.proofs.Outcomes.{SameRead, and_then, ok_same, literal_spelled, behind_spelled, closed_spelled, ended_spelled, row_spelled}
use Rattle.clu_specs.proofs.Spelled.{word_spelled, name_read, parameter_read, byte_spelled, string_spelled, integer_read, constant_word, keyword_text, keyword_spelled}
use Rattle.clu_specs.proofs.TypesSpelled.{TypeRead, Sound, HeadingRead, fields_spelled, heading_spelled}

-- with commas between them
abbrev pub actuals_text : Actuals → List ℕ
actuals_text no_actuals = []
actuals_text (actual_type t rest) = type_text t ++ more_actuals_text rest
actuals_text (actual_const c rest) = constant_text c ++ more_actuals_text rest
actuals_text (actual_param n rest) = (37 ∷ decimal n) ++ more_actuals_text rest

-- and one after them, if there are any
abbrev pub actuals_led : Actuals → List ℕ
actuals_led no_actuals = []
actuals_led (actual_type t rest) = (type_text t ++ more_actuals_text rest) ++ 44 ∷ []
actuals_led (actual_const c rest) = (constant_text c ++ more_actuals_text rest) ++ 44 ∷ []
actuals_led (actual_param n rest) = ((37 ∷ decimal n) ++ more_actuals_text rest) ++ 44 ∷ []

abbrev pub HasActuals : Actuals → Type 0
HasActuals no_actuals = ⊥
HasActuals (actual_type t rest) = Unit {0}
HasActuals (actual_const c rest) = Unit {0}
HasActuals (actual_param n rest) = Unit {0}

pub more_some : (a : Actuals) → HasActuals a → more_actuals_text a ≡ 44 ∷ actuals_text a
more_some no_actuals h = absurd h
more_some (actual_type t rest) h = refl
more_some (actual_const c rest) h = refl
more_some (actual_param n rest) h = refl

pub all_some : (a : Actuals) → HasActuals a → all_actuals_text a ≡ 91 ∷ (actuals_text a ++ 93 ∷ [])
all_some no_actuals h = absurd h
all_some (actual_type t rest) h = refl
all_some (actual_const c rest) h = refl
all_some (actual_param n rest) h = refl

pub more_actuals_joined : (a b : Actuals) → more_actuals_text (actuals_joined a b) ≡ more_actuals_text a ++ more_actuals_text b
more_actuals_joined no_actuals b = refl
more_actuals_joined (actual_type t a) b = ap (λ (x : List ℕ). 44 ∷ (type_text t ++ x)) (more_actuals_joined a b) ∙ ap (λ (x : List ℕ). 44 ∷ x) (sym (append_assoc (type_text t) (more_actuals_text a) (more_actuals_text b)))
more_actuals_joined (actual_const c a) b = ap (λ (x : List ℕ). 44 ∷ (constant_text c ++ x)) (more_actuals_joined a b) ∙ ap (λ (x : List ℕ). 44 ∷ x) (sym (append_assoc (constant_text c) (more_actuals_text a) (more_actuals_text b)))
more_actuals_joined (actual_param n a) b = ap (λ (x : List ℕ). 44 ∷ ((37 ∷ decimal n) ++ x)) (more_actuals_joined a b) ∙ ap (λ (x : List ℕ). 44 ∷ x) (sym (append_assoc (37 ∷ decimal n) (more_actuals_text a) (more_actuals_text b)))

-- one text after others, and a comma between them
pub led_by : (text : List ℕ) (a b : Actuals) (rest : List ℕ) → HasActuals b → (text ++ more_actuals_text (actuals_joined a b)) ++ rest ≡ ((text ++ more_actuals_text a) ++ 44 ∷ []) ++ (actuals_text b ++ rest)
led_by text a b rest h = ap (λ (x : List ℕ). (text ++ x) ++ rest) (more_actuals_joined a b ∙ ap (λ (x : List ℕ). more_actuals_text a ++ x) (more_some b h)) ∙ simp append_assoc

pub joined_text : (a b : Actuals) (rest : List ℕ) → HasActuals b → actuals_text (actuals_joined a b) ++ rest ≡ actuals_led a ++ (actuals_text b ++ rest)
joined_text no_actuals b rest h = refl
joined_text (actual_type t a) b rest h = led_by (type_text t) a b rest h
joined_text (actual_const c a) b rest h = led_by (constant_text c) a b rest h
joined_text (actual_param n a) b rest h = led_by (37 ∷ decimal n) a b rest h

pub led_text : (a : Actuals) (rest : List ℕ) → HasActuals a → actuals_text a ++ 44 ∷ rest ≡ actuals_led a ++ rest
led_text no_actuals rest h = absurd h
led_text (actual_type t a) rest h = sym (append_assoc (type_text t ++ more_actuals_text a) (44 ∷ []) rest)
led_text (actual_const c a) rest h = sym (append_assoc (constant_text c ++ more_actuals_text a) (44 ∷ []) rest)
led_text (actual_param n a) rest h = sym (append_assoc ((37 ∷ decimal n) ++ more_actuals_text a) (44 ∷ []) rest)

pub joined_some : (a b : Actuals) → HasActuals b → HasActuals (actuals_joined a b)
joined_some no_actuals b h = h
joined_some (actual_type t a) b h = tt
joined_some (actual_const c a) b h = tt
joined_some (actual_param n a) b h = tt

pub record ActualsRead (scope : Scope) (whole : List ℕ) (a : Actuals) (rest : List ℕ) : Type 0 where
  pub are : AreActuals scope a
  pub some : HasActuals a
  pub spelled : whole ≡ actuals_text a ++ rest

pub record AllActualsRead (scope : Scope) (whole : List ℕ) (a : Actuals) (rest : List ℕ) : Type 0 where
  pub are : AreActuals scope a
  pub spelled : whole ≡ all_actuals_text a ++ rest

-- what the first byte is
abbrev pub LeadIs : Lead → ℕ → Type 0
LeadIs lead.Parameter b = b ≡ 37
LeadIs lead.Char b = b ≡ 39
LeadIs lead.Text b = b ≡ 34
LeadIs lead.Integer b = Unit {0}
LeadIs lead.Word b = Unit {0}

pub lead_is : (b : ℕ) (bytes : List ℕ) → LeadIs (lead_of (b ∷ bytes)) b
lead_is b bytes = elim (cases_Bool (b == 37)) [
  | inl p ↦ rw p (eqb-true b 37 p)
  | inr fails ↦ rw fails (elim (cases_Bool (b == 39)) [
    | inl p ↦ rw p (eqb-true b 39 p)
    | inr fails ↦ rw fails (elim (cases_Bool (b == 34)) [
      | inl p ↦ rw p (eqb-true b 34 p)
      | inr fails ↦ rw fails (elim (cases_Bool (b == 45)) [ inl p ↦ rw p tt | inr fails ↦ rw fails (elim (cases_Bool (is_ascii_digit b)) [ inl p ↦ rw p tt | inr fails ↦ rw fails tt ]) ])
    ])
  ])
]

module _ (scope : Scope) where
  pub joined_are : (a b : Actuals) → AreActuals scope a → AreActuals scope b → AreActuals scope (actuals_joined a b)
  joined_are no_actuals b p q = q
  joined_are (actual_type t a) b p q = (p.0, joined_are a b p.1 q)
  joined_are (actual_const c a) b p q = (p.0, joined_are a b p.1 q)
  joined_are (actual_param n a) b p q = (p.0, joined_are a b p.1 q)

  pub constant_made : (whole : List ℕ) (c : Const) (behind_constant : List ℕ) (a : Actuals) (rest : List ℕ) → IsConstant c → whole ≡ constant_text c ++ behind_constant → SameRead Actuals (actual_const c no_actuals, behind_constant) (a, rest) → ActualsRead scope whole a rest
  constant_made whole c behind_constant a rest is text same =
      subst (λ (x : Actuals × List ℕ). ActualsRead scope whole x.0 x.1) same
      (record { are = (is, tt); some = tt; spelled = text ∙ ap (λ (x : List ℕ). x ++ behind_constant) (sym (append-nil (constant_text c))) })

  pub marked_spelled : (l : Lead) (b : ℕ) (bytes : List ℕ) (a : Actuals) (rest : List ℕ) → LeadIs l b → marked_actual_read scope l (b ∷ bytes) ≡ Ok (a, rest) → ActualsRead scope (b ∷ bytes) a rest
  unfolding marked_actual_read
  marked_spelled lead.Parameter b bytes a rest is e =
      let h = and_then (parameter_at scope sort.Constant (b ∷ bytes) bytes) (λ (n : ℕ × List ℕ). Ok (actual_param n.0 no_actuals, n.1)) (a, rest) e in
      let read = parameter_read scope sort.Constant (b ∷ bytes) bytes h.0.0 h.0.1 h.1 in
      let made : Actuals × List ℕ = (actual_param h.0.0 no_actuals, h.0.1) in
      let text : b ∷ bytes ≡ ((37 ∷ decimal h.0.0) ++ []) ++ h.0.1 = ap (λ (x : ℕ). x ∷ bytes) is ∙ ap (λ (x : List ℕ). 37 ∷ x) (read.spelled ∙ ap (λ (x : List ℕ). x ++ h.0.1) (sym (append-nil (decimal h.0.0)))) in
      subst (λ (x : Actuals × List ℕ). ActualsRead scope (b ∷ bytes) x.0 x.1) (ok_same (Ok made) made (a, rest) refl h.2) (record { are = (read.is, tt); some = tt; spelled = text })
  marked_spelled lead.Char b bytes a rest is e =
      let h = and_then (byte_at bytes) (λ (c : ℕ × List ℕ). Ok (actual_const (const.Char c.0) no_actuals, c.1)) (a, rest) e in
      let read = byte_spelled bytes h.0.0 h.0.1 h.1 in
      let made : Actuals × List ℕ = (actual_const (const.Char h.0.0) no_actuals, h.0.1) in
      constant_made (b ∷ bytes) (const.Char h.0.0) h.0.1 a rest read.1 (ap (λ (x : ℕ). x ∷ bytes) is ∙ ap (λ (x : List ℕ). 39 ∷ x) read.0) (ok_same (Ok made) made (a, rest) refl h.2)
  marked_spelled lead.Text b bytes a rest is e =
      let h = and_then (string_at (length bytes) [] bytes) (λ (text : List ℕ × List ℕ). Ok (actual_const (const.Str text.0) no_actuals, text.1)) (a, rest) e in
      let read = string_spelled (length bytes) [] bytes h.0.0 h.0.1 h.1 in
      let text : List ℕ = read.more in
      let made : Actuals × List ℕ = (actual_const (const.Str h.0.0) no_actuals, h.0.1) in
      let same : (actual_const (const.Str text) no_actuals, h.0.1) ≡ (a, rest) = ap (λ (x : List ℕ). (actual_const (const.Str x) no_actuals, h.0.1)) (sym read.whole) ∙ ok_same (Ok made) made (a, rest) refl h.2 in
      constant_made (b ∷ bytes) (const.Str text) h.0.1 a rest read.are
      (ap (λ (x : ℕ). x ∷ bytes) is ∙ ap (λ (x : List ℕ). 34 ∷ x) (read.spelled ∙ sym (append_assoc (flat_map hex_byte text) (34 ∷ []) h.0.1))) same
  marked_spelled lead.Integer b bytes a rest is e =
      let h = and_then (integer_at (b ∷ bytes)) (λ (n : ℤ × List ℕ). Ok (actual_const (const.Int n.0) no_actuals, n.1)) (a, rest) e in
      let read = integer_read (b ∷ bytes) h.0.0 h.0.1 h.1 in
      let made : Actuals × List ℕ = (actual_const (const.Int h.0.0) no_actuals, h.0.1) in
      constant_made (b ∷ bytes) (const.Int h.0.0) h.0.1 a rest read.is read.spelled (ok_same (Ok made) made (a, rest) refl h.2)
  marked_spelled lead.Word b bytes a rest is e = absurd (cc)

  pub marked_some : (l : Lead) (bytes : List ℕ) (a : Actuals) (rest : List ℕ) → lead_of bytes ≡ l → marked_actual_read scope l bytes ≡ Ok (a, rest) → ActualsRead scope bytes a rest
  unfolding marked_actual_read
  marked_some l [] a rest is e = absurd (cc)
  marked_some l (b ∷ bytes) a rest is e = marked_spelled l b bytes a rest (subst (λ (x : Lead). LeadIs x b) is (lead_is b bytes)) e

  module _ (part : Reader CluType) (sound : Sound scope part) where
    pub word_spelled_by : (o : Option Const) (bytes : List ℕ) (a : Actuals) (rest : List ℕ) → word_constant (first_word bytes) ≡ o → word_actual_by part o bytes ≡ Ok (a, rest) → ActualsRead scope bytes a rest
    unfolding word_actual_by
    word_spelled_by None bytes a rest o e =
        let h = and_then (part bytes) (λ (t : CluType × List ℕ). Ok (actual_type t.0 no_actuals, t.1)) (a, rest) e in
        let read = sound bytes h.0.0 h.0.1 h.1 in
        let made : Actuals × List ℕ = (actual_type h.0.0 no_actuals, h.0.1) in
        subst (λ (x : Actuals × List ℕ). ActualsRead scope bytes x.0 x.1) (ok_same (Ok made) made (a, rest) refl h.2)
        (record { are = (read.is, tt); some = tt; spelled = read.spelled ∙ ap (λ (x : List ℕ). x ++ h.0.1) (sym (append-nil (type_text h.0.0))) })
    word_spelled_by (Some c) bytes a rest o e =
        let read = constant_word (first_word bytes) c o in
        let made : Actuals × List ℕ = (actual_const c no_actuals, behind_word bytes) in
        constant_made bytes c (behind_word bytes) a rest read.0 (word_spelled bytes ∙ ap (λ (x : List ℕ). x ++ behind_word bytes) read.1) (ok_same (Ok made) made (a, rest) refl e)

    pub actual_spelled_by : (l : Lead) (bytes : List ℕ) (a : Actuals) (rest : List ℕ) → lead_of bytes ≡ l → actual_by scope part l bytes ≡ Ok (a, rest) → ActualsRead scope bytes a rest
    unfolding actual_by
    actual_spelled_by lead.Word bytes a rest is e = word_spelled_by (word_constant (first_word bytes)) bytes a rest refl e
    actual_spelled_by lead.Parameter bytes a rest is e = marked_some lead.Parameter bytes a rest is e
    actual_spelled_by lead.Char bytes a rest is e = marked_some lead.Char bytes a rest is e
    actual_spelled_by lead.Text bytes a rest is e = marked_some lead.Text bytes a rest is e
    actual_spelled_by lead.Integer bytes a rest is e = marked_some lead.Integer bytes a rest is e

    abbrev pub ActualsBefore : List ℕ → Actuals → List ℕ → Type 0
    ActualsBefore whole made bytes = AreActuals scope made × (whole ≡ actuals_led made ++ bytes)

    pub actuals_on : (whole : List ℕ) (made : Actuals) (bytes : List ℕ) (more : Actuals) (after : List ℕ) → ActualsBefore whole made bytes → actuals_step scope part made bytes ≡ Ok (more, after) → ActualsRead scope whole more after
    actuals_on whole made bytes more after b e =
        let h = and_then (actual_read scope part bytes) (λ (a : Actuals × List ℕ). Ok (actuals_joined made a.0, a.1)) (more, after) e in
        let read = actual_spelled_by (lead_of bytes) bytes h.0.0 h.0.1 refl h.1 in
        let now : Actuals × List ℕ = (actuals_joined made h.0.0, h.0.1) in
        subst (λ (x : Actuals × List ℕ). ActualsRead scope whole x.0 x.1) (ok_same (Ok now) now (more, after) refl h.2)
        (record {
          are = joined_are made h.0.0 b.0 read.are;
          some = joined_some made h.0.0 read.some;
          spelled = b.1 ∙ ap (λ (x : List ℕ). actuals_led made ++ x) read.spelled ∙ sym (joined_text made h.0.0 h.0.1 read.some);
        })

    pub actuals_next : (whole : List ℕ) (made : Actuals) (bytes rest : List ℕ) → ActualsRead scope whole made bytes → behind 44 bytes ≡ Some rest → ActualsBefore whole made rest
    actuals_next whole made bytes rest r e = (r.are, r.spelled ∙ ap (λ (x : List ℕ). actuals_text made ++ x) (behind_spelled 44 bytes rest e) ∙ led_text made rest r.some)

    pub actuals_spelled : (bytes : List ℕ) (a : Actuals) (rest : List ℕ) → actuals_read scope part bytes ≡ Ok (a, rest) → ActualsRead scope bytes a rest
    unfolding actuals_read
    actuals_spelled bytes a rest e =
        row_spelled (actuals_step scope part) (λ made rest. behind 44 rest) (ActualsBefore bytes) (ActualsRead scope bytes) (actuals_on bytes) (actuals_next bytes) (length bytes) no_actuals bytes a rest (tt, refl) e

    pub all_actuals_spelled : (o : Option (List ℕ)) (bytes : List ℕ) (a : Actuals) (rest : List ℕ) → behind 91 bytes ≡ o → all_actuals_by scope part o bytes ≡ Ok (a, rest) → AllActualsRead scope bytes a rest
    unfolding all_actuals_by
    all_actuals_spelled None bytes a rest o e =
        let made : Actuals × List ℕ = (no_actuals, bytes) in
        subst (λ (x : Actuals × List ℕ). AllActualsRead scope bytes x.0 x.1) (ok_same (Ok made) made (a, rest) refl e) (record { are = tt; spelled = refl })
    all_actuals_spelled (Some inner) bytes a rest o e =
        let h = and_then (actuals_read scope part inner) (λ (given : Actuals × List ℕ). literal_at (93 ∷ []) given.1 >>= λ rest. Ok (given.0, rest)) (a, rest) e in
        let c = closed_spelled 93 h.0.0 h.0.1 a rest h.2 in
        let read = actuals_spelled inner h.0.0 h.0.1 h.1 in
        let text : bytes ≡ all_actuals_text h.0.0 ++ rest =
        behind_spelled 91 bytes inner o ∙ ap (λ (x : List ℕ). 91 ∷ x) (read.spelled ∙ ap (λ (x : List ℕ). actuals_text h.0.0 ++ x) c.1 ∙ sym (append_assoc (actuals_text h.0.0) (93 ∷ []) rest))
        ∙ ap (λ (x : List ℕ). x ++ rest) (sym (all_some h.0.0 read.some)) in
        subst (λ (x : Actuals). AllActualsRead scope bytes x rest) c.0 (record { are = read.are; spelled = text })

    pub cluster_spelled : (bytes : List ℕ) (t : CluType) (rest : List ℕ) → keyword_of (first_word bytes) ≡ None → cluster_type_read scope part bytes ≡ Ok (t, rest) → TypeRead scope bytes t rest
    unfolding cluster_type_read
    cluster_spelled bytes t rest free e =
        let a = and_then (name_after [] 200 bytes) (λ (name : List ℕ × List ℕ). all_actuals_read scope part name.1 >>= λ given. Ok (cluster_of name.0 given.0, given.1)) (t, rest) e in
        let b = and_then (all_actuals_read scope part a.0.1) (λ (given : Actuals × List ℕ). Ok (cluster_of a.0.0 given.0, given.1)) (t, rest) a.2 in
        let named = name_read [] 200 bytes a.0.0 a.0.1 a.1 in
        let read = all_actuals_spelled (behind 91 a.0.1) a.0.1 b.0.0 b.0.1 refl b.1 in
        let made : CluType × List ℕ = (cluster_of a.0.0 b.0.0, b.0.1) in
        subst (λ (x : CluType × List ℕ). TypeRead scope bytes x.0 x.1) (ok_same (Ok made) made (t, rest) refl b.2)
        (record {
          is = (named.is, ap keyword_of (sym named.word) ∙ free, read.are);
          spelled = named.spelled ∙ ap (λ (x : List ℕ). a.0.0 ++ x) read.spelled ∙ sym (append_assoc a.0.0 (all_actuals_text b.0.0) b.0.1);
        })

    -- after a word of its own
    abbrev pub WordRead : List ℕ → List ℕ → CluType → List ℕ → Type 0
    WordRead word bytes t rest = IsType scope t × (word ++ bytes ≡ type_text t ++ rest)

    pub simple_spelled : (word : Simple) (bytes : List ℕ) → WordRead (keyword_text (keyword.Simple word)) bytes (simple_type word) bytes
    simple_spelled simple.Null bytes = (tt, refl)
    simple_spelled simple.Bool bytes = (tt, refl)
    simple_spelled simple.Int bytes = (tt, refl)
    simple_spelled simple.Char bytes = (tt, refl)
    simple_spelled simple.Str bytes = (tt, refl)
    simple_spelled simple.Any bytes = (tt, refl)
    simple_spelled simple.Stream bytes = (tt, refl)

    pub listing_spelled : (word : Listing) (t : CluType) (bytes rest : List ℕ) → IsType scope t → bytes ≡ 91 ∷ (type_text t ++ 93 ∷ rest) → WordRead (keyword_text (keyword.Listing word)) bytes (listing_type word t) rest
    listing_spelled listing.Array t bytes rest is e = (is, ap (λ (x : List ℕ). codes "array" ++ x) e ∙ simp append_assoc)
    listing_spelled listing.Sequence t bytes rest is e = (is, ap (λ (x : List ℕ). codes "sequence" ++ x) e ∙ simp append_assoc)

    pub selecting_spelled : (word : Selecting) (fs : Fields) (bytes rest : List ℕ) → HasFields fs → AreFields scope [] fs → bytes ≡ 91 ∷ (fields_text fs ++ 93 ∷ rest) → WordRead (keyword_text (keyword.Selecting word)) bytes (selecting_type word fs) rest
    selecting_spelled selecting.Record fs bytes rest has are e = ((has, are), ap (λ (x : List ℕ). codes "record" ++ x) e ∙ simp append_assoc)
    selecting_spelled selecting.Struct fs bytes rest has are e = ((has, are), ap (λ (x : List ℕ). codes "struct" ++ x) e ∙ simp append_assoc)
    selecting_spelled selecting.Oneof fs bytes rest has are e = ((has, are), ap (λ (x : List ℕ). codes "oneof" ++ x) e ∙ simp append_assoc)
    selecting_spelled selecting.Variant fs bytes rest has are e = ((has, are), ap (λ (x : List ℕ). codes "variant" ++ x) e ∙ simp append_assoc)

    pub routine_spelled : (iter : Bool) (args results : CluTypes) (signals : Signals) (bytes rest : List ℕ) → HeadingRead scope iter bytes args results signals rest → WordRead (keyword_text (keyword.Routine iter)) bytes (routine_type iter args results signals) rest
    routine_spelled true args results signals bytes rest h = ((h.args_are, h.results_are, h.signals_are), ap (λ (x : List ℕ). codes "itertype" ++ x) h.spelled)
    routine_spelled false args results signals bytes rest h = ((h.args_are, h.results_are, h.signals_are), ap (λ (x : List ℕ). codes "proctype" ++ x) h.spelled)

    pub keyword_type_spelled : (k : Keyword) (bytes : List ℕ) (t : CluType) (rest : List ℕ) → keyword_type_read scope part k bytes ≡ Ok (t, rest) → WordRead (keyword_text k) bytes t rest
    unfolding keyword_type_read
    keyword_type_spelled (keyword.Simple word) bytes t rest e =
        let made : CluType × List ℕ = (simple_type word, bytes) in
        subst (λ (x : CluType × List ℕ). WordRead (keyword_text (keyword.Simple word)) bytes x.0 x.1) (ok_same (Ok made) made (t, rest) refl e) (simple_spelled word bytes)
    keyword_type_spelled (keyword.Listing word) bytes t rest e =
        let a = and_then (literal_at (91 ∷ []) bytes) (λ (rest : List ℕ). part rest >>= λ t. literal_at (93 ∷ []) t.1 >>= λ rest. Ok (listing_type word t.0, rest)) (t, rest) e in
        let b = and_then (part a.0) (λ (t : CluType × List ℕ). literal_at (93 ∷ []) t.1 >>= λ rest. Ok (listing_type word t.0, rest)) (t, rest) a.2 in
        let c = closed_spelled 93 (listing_type word b.0.0) b.0.1 t rest b.2 in
        let read = sound a.0 b.0.0 b.0.1 b.1 in
        let text : bytes ≡ 91 ∷ (type_text b.0.0 ++ 93 ∷ rest) = literal_spelled (91 ∷ []) bytes a.0 a.1 ∙ ap (λ (x : List ℕ). 91 ∷ x) (read.spelled ∙ ap (λ (x : List ℕ). type_text b.0.0 ++ x) c.1) in
        subst (λ (x : CluType). WordRead (keyword_text (keyword.Listing word)) bytes x rest) c.0 (listing_spelled word b.0.0 bytes rest read.is text)
    keyword_type_spelled (keyword.Selecting word) bytes t rest e =
        let a = and_then (literal_at (91 ∷ []) bytes) (λ (rest : List ℕ). fields_read part rest >>= λ fs. literal_at (93 ∷ []) fs.1 >>= λ rest. Ok (selecting_type word fs.0, rest)) (t, rest) e in
        let b = and_then (fields_read part a.0) (λ (fs : Fields × List ℕ). literal_at (93 ∷ []) fs.1 >>= λ rest. Ok (selecting_type word fs.0, rest)) (t, rest) a.2 in
        let c = closed_spelled 93 (selecting_type word b.0.0) b.0.1 t rest b.2 in
        let read = fields_spelled scope part sound a.0 b.0.0 b.0.1 b.1 in
        let text : bytes ≡ 91 ∷ (fields_text b.0.0 ++ 93 ∷ rest) = literal_spelled (91 ∷ []) bytes a.0 a.1 ∙ ap (λ (x : List ℕ). 91 ∷ x) (read.2 ∙ ap (λ (x : List ℕ). fields_text b.0.0 ++ x) c.1) in
        subst (λ (x : CluType). WordRead (keyword_text (keyword.Selecting word)) bytes x rest) c.0 (selecting_spelled word b.0.0 bytes rest read.1 read.0 text)
    keyword_type_spelled (keyword.Routine iter) bytes t rest e =
        let h = and_then (heading_read part iter bytes) (λ (h : (CluTypes × CluTypes × Signals) × List ℕ). Ok (routine_type iter h.0.0 h.0.1 h.0.2, h.1)) (t, rest) e in
        let read = heading_spelled scope part sound iter bytes h.0.0.0 h.0.0.1 h.0.0.2 h.0.1 h.1 in
        let made : CluType × List ℕ = (routine_type iter h.0.0.0 h.0.0.1 h.0.0.2, h.0.1) in
        subst (λ (x : CluType × List ℕ). WordRead (keyword_text (keyword.Routine iter)) bytes x.0 x.1) (ok_same (Ok made) made (t, rest) refl h.2) (routine_spelled iter h.0.0.0 h.0.0.1 h.0.0.2 bytes h.0.1 read)

    pub word_type_spelled : (o : Option Keyword) (bytes : List ℕ) (t : CluType) (rest : List ℕ) → keyword_of (first_word bytes) ≡ o → word_type_by scope part o bytes ≡ Ok (t, rest) → TypeRead scope bytes t rest
    unfolding word_type_by
    word_type_spelled None bytes t rest o e = cluster_spelled bytes t rest o e
    word_type_spelled (Some k) bytes t rest o e =
        let read = keyword_type_spelled k (behind_word bytes) t rest e in
        record { is = read.0; spelled = word_spelled bytes ∙ ap (λ (x : List ℕ). x ++ behind_word bytes) (keyword_spelled (first_word bytes) k o) ∙ read.1 }

    pub one_type_spelled : (o : Option (List ℕ)) (bytes : List ℕ) (t : CluType) (rest : List ℕ) → behind 35 bytes ≡ o → one_type_by scope part o bytes ≡ Ok (t, rest) → TypeRead scope bytes t rest
    unfolding one_type_by
    one_type_spelled None bytes t rest o e = word_type_spelled (keyword_of (first_word bytes)) bytes t rest refl e
    one_type_spelled (Some inner) bytes t rest o e =
        let h = and_then (parameter_at scope sort.Type bytes inner) (λ (n : ℕ × List ℕ). Ok (parameter n.0, n.1)) (t, rest) e in
        let read = parameter_read scope sort.Type bytes inner h.0.0 h.0.1 h.1 in
        let made : CluType × List ℕ = (parameter h.0.0, h.0.1) in
        subst (λ (x : CluType × List ℕ). TypeRead scope bytes x.0 x.1) (ok_same (Ok made) made (t, rest) refl h.2)
        (record { is = read.is; spelled = behind_spelled 35 bytes inner o ∙ ap (λ (x : List ℕ). 35 ∷ x) read.spelled })

  pub type_spelled : (depth : ℕ) → Sound scope (type_read scope depth)
  unfolding type_read
  type_spelled zero bytes t rest e = absurd (cc)
  type_spelled (suc depth) bytes t rest e = one_type_spelled (type_read scope depth) (type_spelled depth) (behind 35 bytes) bytes t rest refl e

-- read alone
pub whole_type_spelled : (bytes : List ℕ) (t : CluType) → whole_type bytes ≡ Ok t → IsType any_scope t × (bytes ≡ type_text t)
unfolding whole_type
whole_type_spelled bytes t e =
    let h = and_then (type_read any_scope (length bytes) bytes) (λ (x : CluType × List ℕ). end_at x.0 x.1) t e in
    let read = type_spelled any_scope (length bytes) bytes h.0.0 h.0.1 h.1 in
    let ended = ended_spelled h.0.0 h.0.1 t h.2 in
    let text : bytes ≡ type_text h.0.0 = read.spelled ∙ ap (λ (x : List ℕ). type_text h.0.0 ++ x) ended.1 ∙ append-nil (type_text h.0.0) in
    subst (λ (x : CluType). IsType any_scope x × (bytes ≡ type_text x)) ended.0 (read.is, text)
