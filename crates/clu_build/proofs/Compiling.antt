-- What is kept of bodies as they are entered, one after the other.
use Rattle.std.proofs.Common.{◌≡◌, ◌⊎◌, inl, inr, ℕ, ◌+◌, ◌≤◌, Bool, true, false, List, [], ◌∷◌, Contains, length, take, slice_get, Option, Some, None, IsSome, refl, sym, ap, ◌∙◌, subst}
use Rattle.std.specs.Str.{bytes_eq}
use Rattle.clu_base.proofs.Lists.{same_bytes}
use Rattle.clu_library.specs.Contents.{Contents, body_of, checked_at, has, with_body}
use Rattle.clu_library.specs.Replacing.{AreLeft}
use Rattle.clu_library.specs.Staleness.{AreStale}
use Rattle.clu_library.specs.declared.body.Body.{Body}
use Rattle.clu_library.specs.declared.program.Program.{Program}
use Rattle.clu_types.specs.declared.spec.Spec.{Spec}
use Rattle.clu_build.specs.Entering.{AreCompiled, HasModule, IsBodyOf, IsKeptText, IsOutdated, IsSameBody, IsTextEntered, IsTextEnteredIf}
use Rattle.clu_build.specs.Numbering.{AreNumbered, number_of}
use Rattle.clu_build.proofs.Lists.{IsEntry, cases, earlier, in_all, last, none_there, some_same}
use Rattle.clu_build.proofs.Numbering.{entry_of}
use Rattle.clu_build.proofs.Placing.{body_other, body_this, has_listed, left_filtered, left_same, listed_of}

-- another body was entered of a module among the first n entries
abbrev pub IsNew : Contents → Contents → (ℕ → Option (List ℕ)) → List (List ℕ × ℕ) → List ℕ → Type 0
IsNew before library texts done name =
    (i : ℕ) × (text : List ℕ) × (b : Body) × Contains done (name, i) × (texts i ≡ Some text) × (body_of library name ≡ Some b) × (b.text ≡ text) × (IsSameBody before name text → ⊥) × (b.checked ≡ before.revision)

-- a program has one of these
abbrev pub IsTouched : Contents → (ℕ → Option (List ℕ)) → List (List ℕ × ℕ) → Program → Type 0
IsTouched before texts done p = (name : List ℕ) × (i : ℕ) × (text : List ℕ) × Contains p.modules name × Contains done (name, i) × (texts i ≡ Some text) × (IsSameBody before name text → ⊥)

abbrev pub HasBody : Contents → Contents → (ℕ → Option (List ℕ)) → List ℕ → ℕ → Type 0
HasBody before library texts name i = (text : List ℕ) × (texts i ≡ Some text) × ((b : Body) × (body_of library name ≡ Some b) × IsBodyOf before name text b)

-- the first n entries were entered
pub record AreCompiling (before library : Contents) (texts : ℕ → Option (List ℕ)) (entries : List (List ℕ × ℕ)) (n : ℕ) : Type 0 where
  pub each : (name : List ℕ) → (body_of library name ≡ body_of before name) ⊎ IsNew before library texts (take n entries) name
  pub done : (name : List ℕ) (i : ℕ) → Contains (take n entries) (name, i) → HasBody before library texts name i
  pub of : (name : List ℕ) (i : ℕ) → Contains (take n entries) (name, i) → number_of entries name ≡ Some i
  pub programs : AreLeft (IsTouched before texts (take n entries)) before.programs library.programs
  pub rest : library ≡ record before { bodies = library.bodies; programs = library.programs }

all_left : (P : Program → Type 0) → ((p : Program) → P p → ⊥) → (ps : List Program) → AreLeft P ps ps
all_left P never [] = refl
all_left P never (p ∷ ps) = inr (never p, (ps, refl, all_left P never ps))

pub compiling_none : (before : Contents) (texts : ℕ → Option (List ℕ)) (entries : List (List ℕ × ℕ)) → AreCompiling before before texts entries 0
compiling_none before texts entries = record {
  each = λ name. inl refl;
  done = λ name i h. absurd (none_there (name, i) h);
  of = λ name i h. absurd (none_there (name, i) h);
  programs = all_left (IsTouched before texts []) (λ p h. none_there (h.0, h.1) h.4) before.programs;
  rest = refl;
}

module _ (before library : Contents) (texts : ℕ → Option (List ℕ)) (entries : List (List ℕ × ℕ)) (n : ℕ) (name : List ℕ) (i : ℕ) (text : List ℕ) (stale : List (List ℕ)) (r : AreCompiling before library texts entries n)
    (are : AreStale before stale) (at : slice_get entries n ≡ Some (name, i)) (number : number_of entries name ≡ Some i) (its : texts i ≡ Some text) where
  -- the number and the text of a name that was entered before
  one_number : (j : ℕ) → Contains (take n entries) (name, j) → j ≡ i
  one_number j h = some_same (sym (r.of name j h) ∙ number)

  one_text : (j : ℕ) (other : List ℕ) → Contains (take n entries) (name, j) → texts j ≡ Some other → other ≡ text
  one_text j other h e = some_same (sym e ∙ ap texts (one_number j h) ∙ its)

  -- the kept body is that of the library before, if none was entered
  kept_before : body_of library name ≡ body_of before name → IsKeptText library name text stale → IsSameBody before name text
  kept_before same kept = (kept.0, sym same ∙ kept.1, kept.2, λ h. kept.3 (are.all name h))

  kept_now : body_of library name ≡ body_of before name → IsSameBody before name text → IsKeptText library name text stale
  kept_now same kept = (kept.0, same ∙ kept.1, kept.2, λ h. kept.3 (are.stale name h))

  -- the entries with this one
  now : (q : List ℕ) (j : ℕ) → Contains (take n entries) (q, j) → Contains (take (n + 1) entries) (q, j)
  now q j h = earlier entries n (name, i) at (q, j) h

  here : Contains (take (n + 1) entries) (name, i)
  here = last entries n (name, i) at

  numbers : (q : List ℕ) (j : ℕ) → Contains (take (n + 1) entries) (q, j) → number_of entries q ≡ Some j
  numbers q j h = by (cases entries n (name, i) at (q, j) h)
    where
      by : Contains (take n entries) (q, j) ⊎ IsEntry (name, i) (q, j) → number_of entries q ≡ Some j
      by (inl h) = r.of q j h
      by (inr e) = let P : List ℕ × ℕ → Type 0 = λ x. number_of entries x.0 ≡ Some x.1 in subst P e number

  touched_more : (p : Program) → IsTouched before texts (take n entries) p → IsTouched before texts (take (n + 1) entries) p
  touched_more p h = (h.0, h.1, h.2, h.3, now h.0 h.1 h.4, h.5, h.6)

  -- nothing changed
  module _ (kept : IsKeptText library name text stale) where
    body_here : (body_of library name ≡ body_of before name) ⊎ IsNew before library texts (take n entries) name → HasBody before library texts name i
    body_here (inl same) = (text, its, (kept.0, kept.1, (kept.2, inl (kept_before same kept, sym same ∙ kept.1))))
    body_here (inr new) =
        let is = one_text new.0 new.1 new.3 new.4 in
        let P : List ℕ → Type 0 = λ t. IsSameBody before name t → ⊥ in
        (text, its, (new.2, new.5, (new.6 ∙ is, inr (subst P is new.7, new.8))))

    same_touched : (p : Program) → IsTouched before texts (take (n + 1) entries) p → IsTouched before texts (take n entries) p
    same_touched p h = by (cases entries n (name, i) at (h.0, h.1) h.4)
      where
        by_each : (text' : List ℕ) → text' ≡ text → Contains p.modules name → (IsSameBody before name text' → ⊥) → (body_of library name ≡ body_of before name) ⊎ IsNew before library texts (take n entries) name → IsTouched before texts (take n entries) p
        by_each text' is listed never (inl same) = let P : List ℕ → Type 0 = λ t. IsSameBody before name t in absurd (never (subst P (sym is) (kept_before same kept)))
        by_each text' is listed never (inr new) = (name, new.0, new.1, listed, new.3, new.4, new.7)

        by : Contains (take n entries) (h.0, h.1) ⊎ IsEntry (name, i) (h.0, h.1) → IsTouched before texts (take n entries) p
        by (inl there) = (h.0, h.1, h.2, h.3, there, h.5, h.6)
        by (inr e) =
            let name_is : h.0 ≡ name = ap (λ (x : List ℕ × ℕ). x.0) (sym e) in
            let number_is : h.1 ≡ i = ap (λ (x : List ℕ × ℕ). x.1) (sym e) in
            let text_is : h.2 ≡ text = some_same (sym h.5 ∙ ap texts number_is ∙ its) in
            by_each h.2 text_is (subst (Contains p.modules) name_is h.3) (let P : List ℕ → Type 0 = λ q. IsSameBody before q h.2 → ⊥ in subst P name_is h.6) (r.each name)

    kept_more : AreCompiling before library texts entries (n + 1)
    kept_more = record {
      each = λ q. by_name q (r.each q);
      done = λ q j h. by q j (cases entries n (name, i) at (q, j) h);
      of = numbers;
      programs = left_same (IsTouched before texts (take n entries)) (IsTouched before texts (take (n + 1) entries)) touched_more same_touched before.programs library.programs r.programs;
      rest = r.rest;
    }
      where
        by_name : (q : List ℕ) → (body_of library q ≡ body_of before q) ⊎ IsNew before library texts (take n entries) q → (body_of library q ≡ body_of before q) ⊎ IsNew before library texts (take (n + 1) entries) q
        by_name q (inl same) = inl same
        by_name q (inr new) = inr (new.0, new.1, new.2, now q new.0 new.3, new.4, new.5, new.6, new.7, new.8)

        by : (q : List ℕ) (j : ℕ) → Contains (take n entries) (q, j) ⊎ IsEntry (name, i) (q, j) → HasBody before library texts q j
        by q j (inl h) = r.done q j h
        by q j (inr e) = let P : List ℕ × ℕ → Type 0 = λ x. HasBody before library texts x.0 x.1 in subst P e (body_here (r.each name))

  -- another body was entered
  module _ (never : IsKeptText library name text stale → ⊥) (b : Body) (text_is : b.text ≡ text) where
    abbrev made : Contents
    made = with_body library name b

    not_same : IsSameBody before name text → ⊥
    not_same = by (r.each name)
      where
        by : (body_of library name ≡ body_of before name) ⊎ IsNew before library texts (take n entries) name → IsSameBody before name text → ⊥
        by (inl same) h = never (kept_now same h)
        by (inr new) h = let P : List ℕ → Type 0 = λ t. IsSameBody before name t in new.7 (subst P (sym (one_text new.0 new.1 new.3 new.4)) h)

    revision_is : library.revision ≡ before.revision
    revision_is = ap (λ (c : Contents). c.revision) r.rest

    new_here : IsNew before made texts (take (n + 1) entries) name
    new_here = (i, text, checked_at library.revision b, here, its, body_this library name b, text_is, not_same, revision_is)

    has_here : HasBody before made texts name i
    has_here = (text, its, (checked_at library.revision b, body_this library name b, (text_is, inr (not_same, revision_is))))

    has_there : (q : List ℕ) (j : ℕ) → bytes_eq name q ≡ false → HasBody before library texts q j → HasBody before made texts q j
    has_there q j other h = (h.0, h.1, (h.2.0, body_other library name q b other ∙ h.2.1, h.2.2))

    touched_by : (p : Program) → has p name ≡ true → IsTouched before texts (take (n + 1) entries) p
    touched_by p e = (name, i, text, listed_of p name e, here, its, not_same)

    touched_cases : (p : Program) → IsTouched before texts (take (n + 1) entries) p → IsTouched before texts (take n entries) p ⊎ (has p name ≡ true)
    touched_cases p h = by (cases entries n (name, i) at (h.0, h.1) h.4)
      where
        by : Contains (take n entries) (h.0, h.1) ⊎ IsEntry (name, i) (h.0, h.1) → IsTouched before texts (take n entries) p ⊎ (has p name ≡ true)
        by (inl there) = inl (h.0, h.1, h.2, h.3, there, h.5, h.6)
        by (inr e) = inr (has_listed p name (subst (Contains p.modules) (ap (λ (x : List ℕ × ℕ). x.0) (sym e)) h.3))

    new_more : AreCompiling before made texts entries (n + 1)
    new_more = record {
      each = λ q. by_name q (bytes_eq name q) refl;
      done = λ q j h. by q j (bytes_eq name q) refl (cases entries n (name, i) at (q, j) h);
      of = numbers;
      programs = left_filtered (IsTouched before texts (take n entries)) (IsTouched before texts (take (n + 1) entries)) (λ p. has p name) touched_more touched_by touched_cases before.programs library.programs r.programs;
      rest = ap (λ (c : Contents). record c { bodies = made.bodies; programs = made.programs }) r.rest;
    }
      where
        other_name : (q : List ℕ) → bytes_eq name q ≡ false → (body_of library q ≡ body_of before q) ⊎ IsNew before library texts (take n entries) q → (body_of made q ≡ body_of before q) ⊎ IsNew before made texts (take (n + 1) entries) q
        other_name q other (inl same) = inl (body_other library name q b other ∙ same)
        other_name q other (inr new) = inr (new.0, new.1, new.2, now q new.0 new.3, new.4, body_other library name q b other ∙ new.5, new.6, new.7, new.8)

        by_name : (q : List ℕ) (t : Bool) → bytes_eq name q ≡ t → (body_of made q ≡ body_of before q) ⊎ IsNew before made texts (take (n + 1) entries) q
        by_name q true this = inr (subst (IsNew before made texts (take (n + 1) entries)) (same_bytes name q this) new_here)
        by_name q false other = other_name q other (r.each q)

        by : (q : List ℕ) (j : ℕ) (t : Bool) → bytes_eq name q ≡ t → Contains (take n entries) (q, j) ⊎ IsEntry (name, i) (q, j) → HasBody before made texts q j
        by q j true this (inl h) =
            let is : i ≡ j = some_same (sym number ∙ ap (number_of entries) (same_bytes name q this) ∙ r.of q j h) in
            let P : List ℕ × ℕ → Type 0 = λ x. HasBody before made texts x.0 x.1 in
            let pair : IsEntry (name, i) (q, j) = (λ k. (same_bytes name q this k, is k)) in
            subst P pair has_here
        by q j false other (inl h) = has_there q j other (r.done q j h)
        by q j t e (inr same) = let P : List ℕ × ℕ → Type 0 = λ x. HasBody before made texts x.0 x.1 in subst P same has_here

  step : (after : Contents) → IsTextEntered library after name stale text → AreCompiling before after texts entries (n + 1)
  step after (inl same) = let P : Contents → Type 0 = λ c. AreCompiling before c texts entries (n + 1) in subst P (sym same.1) (kept_more same.0)
  step after (inr new) = let P : Contents → Type 0 = λ c. AreCompiling before c texts entries (n + 1) in subst P (sym new.1.2) (new_more new.0 new.1.0 new.1.1)

pub compiling_more : (before library after : Contents) (texts : ℕ → Option (List ℕ)) (entries : List (List ℕ × ℕ)) (n : ℕ) (name : List ℕ) (i : ℕ) (stale : List (List ℕ)) → AreCompiling before library texts entries n → AreStale before stale
    → slice_get entries n ≡ Some (name, i) → number_of entries name ≡ Some i → IsTextEnteredIf library after name stale (texts i) → AreCompiling before after texts entries (n + 1)
compiling_more before library after texts entries n name i stale r are at number entered = by (texts i) refl entered
  where
    by : (o : Option (List ℕ)) → texts i ≡ o → IsTextEnteredIf library after name stale o → AreCompiling before after texts entries (n + 1)
    by None e never = absurd never
    by (Some text) e one = step before library texts entries n name i text stale r are at number e after one

pub compiled_all : (before after : Contents) (own : List Spec) (texts : ℕ → Option (List ℕ)) (entries : List (List ℕ × ℕ)) (n : ℕ) → AreNumbered own entries → length entries ≤ n → AreCompiling before after texts entries n → AreCompiled before after own texts
compiled_all before after own texts entries n numbered le r = record {
  bodies = λ name text has. body name text has (r.done has.1.name has.0 (there has.0 has.1 has.2));
  others = λ name never. other name never (r.each name);
  programs = left_same (IsTouched before texts (take n entries)) (IsOutdated before own texts) outdated touched before.programs after.programs r.programs;
  all = λ i s at. let it = r.done s.name i (there i s at) in let P : Option (List ℕ) → Type 0 = λ o. IsSome o in subst P (sym it.1) refl;
  rest = r.rest;
}
  where
    there : (i : ℕ) (s : Spec) → slice_get own i ≡ Some s → Contains (take n entries) (s.name, i)
    there i s at = in_all entries n le (s.name, i) (entry_of own entries numbered i s at)

    body : (name text : List ℕ) (has : HasModule own texts name text) → HasBody before after texts has.1.name has.0 → (b : Body) × (body_of after name ≡ Some b) × IsBodyOf before name text b
    body name text has it =
        let is : it.0 ≡ text = some_same (sym it.1 ∙ has.4) in
        let P : List ℕ → Type 0 = λ q. (b : Body) × (body_of after q ≡ Some b) × IsBodyOf before q text b in
        let Q : List ℕ → Type 0 = λ t. (b : Body) × (body_of after has.1.name ≡ Some b) × IsBodyOf before has.1.name t b in
        subst P has.3 (subst Q is it.2)

    module_of : (name : List ℕ) (i : ℕ) (text : List ℕ) → Contains (take n entries) (name, i) → texts i ≡ Some text → HasModule own texts name text
    module_of name i text h e = let it = numbered.of name i (r.of name i h) in (i, it.0, it.1, it.2, e)

    other : (name : List ℕ) → ((text : List ℕ) → HasModule own texts name text → ⊥) → (body_of after name ≡ body_of before name) ⊎ IsNew before after texts (take n entries) name → body_of after name ≡ body_of before name
    other name never (inl same) = same
    other name never (inr new) = absurd (never new.1 (module_of name new.0 new.1 new.3 new.4))

    outdated : (p : Program) → IsTouched before texts (take n entries) p → IsOutdated before own texts p
    outdated p h = (h.0, h.2, h.3, module_of h.0 h.1 h.2 h.4 h.5, h.6)

    touched : (p : Program) → IsOutdated before own texts p → IsTouched before texts (take n entries) p
    touched p h =
        let has = h.3 in
        let P : List ℕ → Type 0 = λ q. Contains (take n entries) (q, has.0) in
        (h.0, has.0, h.1, h.2, subst P has.3 (there has.0 has.1 has.2), has.4, h.4)
