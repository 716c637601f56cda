-- How specifications are numbered, one after the other.
use Rattle.std.proofs.Common.{◌≡◌, ℕ, ◌+◌, ◌<◌, ◌≤◌, Bool, true, false, List, [], Contains, length, slice_get, Some, refl, sym, ap, ◌∙◌, subst, arith}
use Rattle.std.specs.Str.{bytes_eq}
use Rattle.std.proofs.Math.Dec.{ltb}
use Rattle.std.proofs.lemmas.Map.Views.{Contains-from_lookup}
use Rattle.std.proofs.lemmas.Option.{slice_get_within}
use borrow.Author.Tests.{ltb-true, ltb-false}
use Rattle.clu_base.proofs.Lists.{same_bytes, as_bytes}
use Rattle.clu_types.specs.declared.spec.Spec.{Spec}
use Rattle.clu_build.specs.Entering.{AreApart}
use Rattle.clu_build.specs.Numbering.{AreNumbered, IsNumbered, number_of}
use Rattle.clu_build.proofs.Lists.{none_some, some_same}

-- the first n specifications are numbered
pub record AreNumberedTo (specs : List Spec) (entries : List (List ℕ × ℕ)) (n : ℕ) : Type 0 where
  pub all : (i : ℕ) (s : Spec) → i < n → slice_get specs i ≡ Some s → number_of entries s.name ≡ Some i
  pub of : (name : List ℕ) (i : ℕ) → number_of entries name ≡ Some i → (s : Spec) × (slice_get specs i ≡ Some s) × (s.name ≡ name)

pub numbered_none : (specs : List Spec) (entries : List (List ℕ × ℕ)) → entries ≡ [] → AreNumberedTo specs entries 0
numbered_none specs entries is = let P : List (List ℕ × ℕ) → Type 0 = λ es. AreNumberedTo specs es 0 in subst P (sym is) (record { all = λ i s lt e. absurd (omega (arith, lt)); of = λ name i e. absurd (none_some e) })

pub numbered_more : (specs : List Spec) (before after : List (List ℕ × ℕ)) (n : ℕ) (s : Spec) → AreNumberedTo specs before n → slice_get specs n ≡ Some s → IsNumbered before after s.name n → AreNumberedTo specs after (n + 1)
numbered_more specs before after n s r at one = record { all = all; of = of }
  where
    here : number_of after s.name ≡ Some n
    here = one.others s.name ∙ rw (as_bytes s.name s.name refl) refl

    other : (t : Spec) (i : ℕ) (b : Bool) → bytes_eq s.name t.name ≡ b → number_of before t.name ≡ Some i → number_of after t.name ≡ Some i
    other t i true same e = absurd (none_some (sym one.new ∙ ap (number_of before) (same_bytes s.name t.name same) ∙ e))
    other t i false differ e = one.others t.name ∙ rw differ e

    all : (i : ℕ) (t : Spec) → i < n + 1 → slice_get specs i ≡ Some t → number_of after t.name ≡ Some i
    all i t lt e = by (ltb i n) refl
      where
        by : (b : Bool) → ltb i n ≡ b → number_of after t.name ≡ Some i
        by true less = other t i (bytes_eq s.name t.name) refl (r.all i t (omega (arith, ltb-true)) e)
        by false least =
            let last : n ≡ i = omega (arith, ltb-false) in
            let same : s ≡ t = some_same (sym at ∙ ap (slice_get specs) last ∙ e) in
            let P : Spec → Type 0 = λ x. number_of after x.name ≡ Some i in
            subst P same (here ∙ ap Some last)

    of : (name : List ℕ) (i : ℕ) → number_of after name ≡ Some i → (t : Spec) × (slice_get specs i ≡ Some t) × (t.name ≡ name)
    of name i e = by (bytes_eq s.name name) refl
      where
        by : (b : Bool) → bytes_eq s.name name ≡ b → (t : Spec) × (slice_get specs i ≡ Some t) × (t.name ≡ name)
        by true same =
            let last : n ≡ i = some_same (sym (one.others name ∙ rw same refl) ∙ e) in
            (s, ap (slice_get specs) (sym last) ∙ at, same_bytes s.name name same)
        by false differ = r.of name i (sym (one.others name ∙ rw differ refl) ∙ e)

pub numbered_all : (specs : List Spec) (entries : List (List ℕ × ℕ)) (n : ℕ) → length specs ≤ n → AreNumberedTo specs entries n → AreNumbered specs entries
numbered_all specs entries n le r = record { all = λ i s e. let within = slice_get_within specs i s e in r.all i s (omega (arith, le, within)) e; of = r.of }

-- in another order the names have the same numbers
pub renumbered : (specs : List Spec) (before after : List (List ℕ × ℕ)) → ((name : List ℕ) → number_of after name ≡ number_of before name) → AreNumbered specs before → AreNumbered specs after
renumbered specs before after same r = record { all = λ n s e. same s.name ∙ r.all n s e; of = λ name n e. r.of name n (sym (same name) ∙ e) }

-- each specification is among the entries
pub entry_of : (specs : List Spec) (entries : List (List ℕ × ℕ)) → AreNumbered specs entries → (n : ℕ) (s : Spec) → slice_get specs n ≡ Some s → Contains entries (s.name, n)
entry_of specs entries r n s e = Contains-from_lookup same_bytes s.name n entries (r.all n s e)

pub apart_of : (specs : List Spec) (entries : List (List ℕ × ℕ)) → AreNumbered specs entries → AreApart specs
apart_of specs entries r i j s t at_i at_j same = some_same (sym (r.all i s at_i) ∙ ap (number_of entries) same ∙ r.all j t at_j)

-- and has a place
pub number_within : (specs : List Spec) (entries : List (List ℕ × ℕ)) → AreNumbered specs entries → (name : List ℕ) (n : ℕ) → number_of entries name ≡ Some n → n < length specs
number_within specs entries r name n e = let it = r.of name n e in slice_get_within specs n it.0 it.1
