-- The entries of a trace, written one after the other.
use Rattle.std.proofs.Common.{◌≡◌, ◌+◌, ◌<◌, ◌≤◌, ℕ, List, [], ◌∷◌, ◌++◌, Option, length, get_or, take, drop, refl, sym, ap, ◌∙◌, subst, append_assoc, Result, Ok, Err, OnErr}
use Rattle.std.proofs.lemmas.List.{append-nil, take-append-drop, take_more}
use Rattle.clu_base.proofs.Written.{appended-append, appended-nil, grew_behind, grew_first}
use Rattle.clu_base.specs.Outside.{GrewWithin, appended}
use Rattle.clu_outcome.specs.Outcome.{entries_text, entry_text}

-- between two entries: the first i are written, and the count of faults did not fall
pub record WrittenEntries (names : List (List ℕ)) (all : List ℕ) (start now : Option (List ℕ)) (faults_at_start faults i : ℕ) : Type 0 where
  pub grew : now ≡ appended start (entries_text names (take i all))
  pub counts : faults_at_start ≤ faults

pub none_written : (names : List (List ℕ)) (all : List ℕ) (start : Option (List ℕ)) → start ≡ appended start (entries_text names (take 0 all))
none_written names all start = sym (appended-nil start)

entries_append : (names : List (List ℕ)) (xs ys : List ℕ) → entries_text names (xs ++ ys) ≡ entries_text names xs ++ entries_text names ys
entries_append names [] ys = refl
entries_append names (n ∷ ns) ys = ap (λ t. entry_text names n ++ t) (entries_append names ns ys) ∙ sym (append_assoc (entry_text names n) (entries_text names ns) (entries_text names ys))

-- with the next entry
with_next : (names : List (List ℕ)) (all : List ℕ) (i d : ℕ) → i < length all
    → entries_text names (take (i + 1) all) ≡ entries_text names (take i all) ++ entry_text names (get_or all i d)
with_next names all i d within =
    ap (entries_text names) (take_more all i d within)
    ∙ entries_append names (take i all) (get_or all i d ∷ [])
    ∙ ap (λ t. entries_text names (take i all) ++ t) (append-nil (entry_text names (get_or all i d)))

pub one_more : (names : List (List ℕ)) (all : List ℕ) (i d : ℕ) (start now new : Option (List ℕ)) → i < length all
    → now ≡ appended start (entries_text names (take i all)) → new ≡ appended now (entry_text names (get_or all i d)) → new ≡ appended start (entries_text names (take (i + 1) all))
one_more names all i d start now new within before after =
    after ∙ ap (λ (o : Option (List ℕ)). appended o (entry_text names (get_or all i d))) before
    ∙ appended-append start (entries_text names (take i all)) (entry_text names (get_or all i d))
    ∙ ap (appended start) (sym (with_next names all i d within))

-- what grew within the next entry grew within all of them
pub grew_next : (names : List (List ℕ)) (all : List ℕ) (i d : ℕ) (start now new : Option (List ℕ)) → i < length all
    → now ≡ appended start (entries_text names (take i all)) → GrewWithin now new (entry_text names (get_or all i d)) → GrewWithin start new (entries_text names all)
grew_next names all i d start now new within before grew =
    let P : List ℕ → Type 0 = λ bytes. GrewWithin start new bytes in
    let so_far = grew_behind start now new (entries_text names (take i all)) (entry_text names (get_or all i d)) before grew in
    let front = subst P (sym (with_next names all i d within)) so_far in
    let whole = grew_first start new (entries_text names (take (i + 1) all)) (entries_text names (drop (i + 1) all)) front in
    subst P (sym (entries_append names (take (i + 1) all) (drop (i + 1) all)) ∙ ap (entries_text names) (take-append-drop (i + 1) all)) whole

-- what holds anyway holds after an error
pub on_err : {T E : Type 0} (r : Result T E) (P : Type 0) → P → OnErr r P
on_err (Ok value) P p = tt
on_err (Err error) P p = p
