-- Items in a row, words and parameters: what was read is of the grammar, and spelled by the bytes that were read.
use Rattle.std.proofs.Common.{◌≡◌, ℕ, ◌<◌, ◌≤◌, ◌⊎◌, ◌==◌, nat_lt, Bool, true, false, List, [], ◌∷◌, ◌++◌, length, map, codes, flat_map, Option, Some, None, Ok, if◌then◌else◌, refl, sym, ap, subst, ◌∙◌, arith, length-append, append_assoc, append-nil, inl, inr}
use Rattle.std.proofs.lemmas.Bool.{cases_order, eqb-false, ltb-true}
use Rattle.std.proofs.lemmas.Option.{none-some}
use Rattle.clu_types.specs.declared.spec.ParamKind.{ParamKind}
use Rattle.clu_specs.specs.declared.read_kinds.TheConstants.{KINDS}
use Rattle.clu_specs.specs.Reading.{◌>>=◌, Read, literal_at, behind, begins_with}
use Rattle.clu_specs.specs.Seen.{kind_text, kinds_text, routine_word}
use Rattle.clu_specs.specs.SpecReading.{routine_word_read, begin_alike, kind_in, kind_read, kinds_step, kinds_next, kinds_read, parameters_by}
use Rattle.clu_specs.proofs.Outcomes.{and_then, ok_same, either, literal_spelled, behind_spelled, closed_spelled, row_spelled}

-- items with commas between them
module _ {X : Type 0} (text : X → List ℕ) where
  abbrev pub more : List X → List ℕ
  more xs = flat_map (λ x. 44 ∷ text x) xs

  abbrev pub listed : List X → List ℕ
  listed [] = []
  listed (x ∷ xs) = text x ++ more xs

  -- with a comma after them, if there are any
  abbrev pub led : List X → List ℕ
  led [] = []
  led (x ∷ xs) = (text x ++ more xs) ++ 44 ∷ []

  pub more_joined : (xs : List X) (y : X) → more (xs ++ y ∷ []) ≡ more xs ++ 44 ∷ text y
  more_joined [] y = ap (λ (t : List ℕ). 44 ∷ t) (append-nil (text y))
  more_joined (x ∷ xs) y = ap (λ (t : List ℕ). 44 ∷ (text x ++ t)) (more_joined xs y) ∙ ap (λ (t : List ℕ). 44 ∷ t) (sym (append_assoc (text x) (more xs) (44 ∷ text y)))

  pub listed_joined : (xs : List X) (y : X) (rest : List ℕ) → listed (xs ++ y ∷ []) ++ rest ≡ led xs ++ (text y ++ rest)
  listed_joined [] y rest = ap (λ (t : List ℕ). t ++ rest) (append-nil (text y))
  listed_joined (x ∷ xs) y rest = ap (λ (t : List ℕ). (text x ++ t) ++ rest) (more_joined xs y) ∙ simp append_assoc

  pub led_text : (xs : List X) (rest : List ℕ) → 0 < length xs → listed xs ++ 44 ∷ rest ≡ led xs ++ rest
  led_text [] rest some = absurd (omega (arith, some))
  led_text (x ∷ xs) rest some = sym (append_assoc (text x ++ more xs) (44 ∷ []) rest)

pub differs : (a b : ℕ) → (a == b) ≡ false → (a < b) ⊎ (b < a)
differs a b e = elim (cases_order a b) [ inl same ↦ absurd (eqb-false a b e same) | inr other ↦ other ]

pub joined_some : {X : Type 0} (xs : List X) (y : X) → 0 < length (xs ++ y ∷ [])
joined_some xs y = omega (arith, length-append xs (y ∷ []))

-- proc and iter
abbrev pub worded : Bool → List ℕ → Read Bool
worded x rest = Ok (x, rest)

pub word_by : (x : Bool) (bytes : List ℕ) (iter : Bool) (rest word : List ℕ) → word ≡ routine_word x → (r : List ℕ) × (literal_at word bytes ≡ Ok r) × (worded x r ≡ Ok (iter, rest)) → bytes ≡ routine_word iter ++ rest
word_by x bytes iter rest word w h =
    let same : (x, h.0) ≡ (iter, rest) = ok_same (Ok (x, h.0)) (x, h.0) (iter, rest) refl h.2 in
    subst (λ (p : Bool × List ℕ). bytes ≡ routine_word p.0 ++ p.1) same (literal_spelled word bytes h.0 h.1 ∙ ap (λ (t : List ℕ). t ++ h.0) w)

pub word_spelled : (bytes : List ℕ) (iter : Bool) (rest : List ℕ) → routine_word_read bytes ≡ Ok (iter, rest) → bytes ≡ routine_word iter ++ rest
unfolding routine_word_read
word_spelled bytes iter rest e =
    elim (either (begins_with 105 bytes) (literal_at (codes "iter") bytes >>= λ rest. Ok (true, rest)) (literal_at (codes "proc") bytes >>= λ rest. Ok (false, rest)) (Ok (iter, rest)) e) [
      | inl h ↦ word_by true bytes iter rest (codes "iter") refl (and_then (literal_at (codes "iter") bytes) (λ (rest : List ℕ). Ok (true, rest)) (iter, rest) h.1)
      | inr h ↦ word_by false bytes iter rest (codes "proc") refl (and_then (literal_at (codes "proc") bytes) (λ (rest : List ℕ). Ok (false, rest)) (iter, rest) h.1)
    ]

-- kinds
abbrev pub AllKinds : List (List ℕ × ParamKind) → Type 0
AllKinds [] = Unit {0}
AllKinds (entry ∷ table) = (entry.0 ≡ kind_text entry.1) × AllKinds table

pub kind_found : (table : List (List ℕ × ParamKind)) (bytes : List ℕ) (k : ParamKind) (rest : List ℕ) → AllKinds table → kind_in table bytes ≡ Ok (k, rest) → bytes ≡ kind_text k ++ rest
kind_found [] bytes k rest all e = absurd (cc)
kind_found (entry ∷ table) bytes k rest all e =
    elim (either (begin_alike entry.0 bytes) (literal_at entry.0 bytes >>= λ rest. Ok (entry.1, rest)) (kind_in table bytes) (Ok (k, rest)) e) [
      | inl h ↦ (let a = and_then (literal_at entry.0 bytes) (λ (rest : List ℕ). Ok (entry.1, rest)) (k, rest) h.1 in
          let same : (entry.1, a.0) ≡ (k, rest) = ok_same (Ok (entry.1, a.0)) (entry.1, a.0) (k, rest) refl a.2 in
          subst (λ (p : ParamKind × List ℕ). bytes ≡ kind_text p.0 ++ p.1) same (literal_spelled entry.0 bytes a.0 a.1 ∙ ap (λ (t : List ℕ). t ++ a.0) all.0))
      | inr h ↦ kind_found table bytes k rest all.1 h.1
    ]

pub kind_spelled : (bytes : List ℕ) (k : ParamKind) (rest : List ℕ) → kind_read bytes ≡ Ok (k, rest) → bytes ≡ kind_text k ++ rest
unfolding kind_read
kind_spelled bytes k rest e = kind_found (map (λ entry. (entry.0.now, entry.1)) KINDS) bytes k rest (refl, (refl, (refl, (refl, (refl, (refl, tt)))))) e

pub record KindsRead (whole : List ℕ) (ks : List ParamKind) (rest : List ℕ) : Type 0 where
  pub few : length ks ≤ 4294967295
  pub some : 0 < length ks
  pub spelled : whole ≡ listed kind_text ks ++ rest

abbrev pub KindsBefore : List ℕ → List ParamKind → List ℕ → Type 0
KindsBefore whole made bytes = (length made < 4294967295) × (whole ≡ led kind_text made ++ bytes)

pub kinds_on : (whole : List ℕ) (made : List ParamKind) (bytes : List ℕ) (all : List ParamKind) (after : List ℕ) → KindsBefore whole made bytes → kinds_step made bytes ≡ Ok (all, after) → KindsRead whole all after
kinds_on whole made bytes all after b e =
    let h = and_then (kind_read bytes) (λ (k : ParamKind × List ℕ). Ok (made ++ k.0 ∷ [], k.1)) (all, after) e in
    let now : List ParamKind × List ℕ = (made ++ h.0.0 ∷ [], h.0.1) in
    let few : length (made ++ h.0.0 ∷ []) ≤ 4294967295 = omega (arith, b.0, length-append made (h.0.0 ∷ [])) in
    subst (λ (x : List ParamKind × List ℕ). KindsRead whole x.0 x.1) (ok_same (Ok now) now (all, after) refl h.2)
    (record { few = few; some = joined_some made h.0.0; spelled = b.1 ∙ ap (λ (x : List ℕ). led kind_text made ++ x) (kind_spelled bytes h.0.0 h.0.1 h.1) ∙ sym (listed_joined kind_text made h.0.0 h.0.1) })

-- what follows a comma where a test holds
pub tested : (c : Bool) (bytes rest : List ℕ) → (if c then behind 44 bytes else None) ≡ Some rest → (c ≡ true) × (bytes ≡ 44 ∷ rest)
tested true bytes rest e = (refl, behind_spelled 44 bytes rest e)
tested false bytes rest e = absurd (none-some rest e)

pub kinds_more : (whole : List ℕ) (made : List ParamKind) (bytes rest : List ℕ) → KindsRead whole made bytes → kinds_next made bytes ≡ Some rest → KindsBefore whole made rest
kinds_more whole made bytes rest r e =
    let h = tested (nat_lt (length made) 4294967295) bytes rest e in
    (ltb-true (length made) 4294967295 h.0, r.spelled ∙ ap (λ (x : List ℕ). listed kind_text made ++ x) h.1 ∙ led_text kind_text made rest r.some)

pub kinds_spelled : (bytes : List ℕ) (ks : List ParamKind) (rest : List ℕ) → kinds_read bytes ≡ Ok (ks, rest) → KindsRead bytes ks rest
unfolding kinds_read
kinds_spelled bytes ks rest e = row_spelled kinds_step kinds_next (KindsBefore bytes) (KindsRead bytes) (kinds_on bytes) (kinds_more bytes) (length bytes) [] bytes ks rest (omega arith, refl) e

pub kinds_shown : (ks : List ParamKind) (rest : List ℕ) → 0 < length ks → 91 ∷ (listed kind_text ks ++ 93 ∷ rest) ≡ kinds_text ks ++ rest
kinds_shown [] rest some = absurd (omega (arith, some))
kinds_shown (k ∷ ks) rest some = ap (λ (x : List ℕ). 91 ∷ x) (sym (append_assoc (kind_text k ++ more kind_text ks) (93 ∷ []) rest))

pub parameters_spelled : (o : Option (List ℕ)) (bytes : List ℕ) (ks : List ParamKind) (rest : List ℕ) → behind 91 bytes ≡ o → parameters_by o bytes ≡ Ok (ks, rest) → (length ks ≤ 4294967295) × (bytes ≡ kinds_text ks ++ rest)
unfolding parameters_by
parameters_spelled None bytes ks rest o e =
    let now : List ParamKind × List ℕ = ([], bytes) in
    subst (λ (x : List ParamKind × List ℕ). (length x.0 ≤ 4294967295) × (bytes ≡ kinds_text x.0 ++ x.1)) (ok_same (Ok now) now (ks, rest) refl e) (omega arith, refl)
parameters_spelled (Some inner) bytes ks rest o e =
    let h = and_then (kinds_read inner) (λ (ks : List ParamKind × List ℕ). literal_at (93 ∷ []) ks.1 >>= λ rest. Ok (ks.0, rest)) (ks, rest) e in
    let c = closed_spelled 93 h.0.0 h.0.1 ks rest h.2 in
    let read = kinds_spelled inner h.0.0 h.0.1 h.1 in
    let text : bytes ≡ kinds_text h.0.0 ++ rest = behind_spelled 91 bytes inner o ∙ ap (λ (x : List ℕ). 91 ∷ x) (read.spelled ∙ ap (λ (x : List ℕ). listed kind_text h.0.0 ++ x) c.1) ∙ kinds_shown h.0.0 rest read.some in
    subst (λ (x : List ParamKind). (length x ≤ 4294967295) × (bytes ≡ kinds_text x ++ rest)) c.0 (read.few, text)
