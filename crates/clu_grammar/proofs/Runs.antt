-- A parser on its way: which files can still be read, and what a fault shows.
use Rattle.std.proofs.Common.{◌≡◌, ℕ, zero, suc, ◌+◌, ◌<◌, ◌≤◌, true, List, [], ◌∷◌, ◌++◌, length, Option, Some, None, slice_get, take, refl, sym, ap, ◌∙◌, subst, inl, inr, arith, append-nil}
use Rattle.std.proofs.lemmas.Bool.{cases_Bool}
use Rattle.std.proofs.lemmas.Option.{slice_get_past, slice_get_within}
use Rattle.std.proofs.lemmas.List.{length-append, length-take-le}
use Rattle.clu_lexer.specs.declared.symbols.Symbol.{Symbol}
use Rattle.clu_grammar.specs.declared.items.Action.{Action}
use Rattle.clu_grammar.specs.declared.items.Item.{Item}
use Rattle.clu_grammar.specs.declared.items.Item.TheVariants as item
use Rattle.clu_grammar.specs.declared.items.Nonterminal.{Nonterminal}
use Rattle.clu_grammar.specs.declared.items.Nonterminal.TheVariants as r
use Rattle.clu_grammar.specs.Choice.{Take, Go, No, has, is_among, step}
use Rattle.clu_grammar.specs.Grammar.{productions}
use Rattle.clu_grammar.specs.Language.{IsOneOf, Derives, done, symbol, action, choice, whole, IsFile, SameBefore, SameUpTo, FailsAt}
use Rattle.clu_grammar.specs.Rows.{Production, take as takes, peek, otherwise}
use Rattle.clu_grammar.proofs.Deterministic.{Reads, taken, gone, inv_terminal, inv_act, inv_finished, reads, at_end, Followed}
use Rattle.clu_grammar.proofs.Lookahead.{after}
use Rattle.clu_grammar.proofs.Productive.{stands}
use Rattle.clu_grammar.proofs.Tests.{in_set}

-- the symbols before `at` are read, and the items are to come
pub record Runs (xs : List Symbol) (at : ℕ) (items : List Item) : Type 0 where
  pub within : at ≤ length xs
  -- what they stand for makes a file of the symbols before
  pub makes : (ys : List Symbol) → SameBefore xs ys at → Derives ys items at (length ys) → IsFile ys
  -- each file that begins so goes on with them
  pub only : (ys : List Symbol) → SameUpTo xs ys at → IsFile ys → Reads ys items at (length ys)

whole_followed : Followed whole at_end
whole_followed = (λ t h. end_follows t h, tt)
  where
    end_follows : (t : Option Symbol) → at_end t ≡ true → in_set (after r.File) t ≡ true
    end_follows None h = refl
    end_follows (Some s) h = absurd (cc)

pub runs_none : (xs : List Symbol) → Runs xs 0 whole
runs_none xs =
    record {
      within = omega arith;
      makes = λ ys same d. d;
      only = λ ys same d. reads ys whole 0 (length ys) d refl whole_followed;
    }

among_some : (t : Option Symbol) (heads : List Symbol) → is_among t heads ≡ true → (s : Symbol) × (t ≡ Some s) × (has heads s ≡ true)
among_some None heads h = absurd (cc)
among_some (Some s) heads h = (s, refl, h)

go_take : (xs ys : List Item) → Go xs ≡ Take ys → ⊥
go_take xs ys h = cc

-- the production that is chosen is one of them
pub take_in : (ps : List Production) (t : Option Symbol) (row : List Item) → step ps t ≡ Take row → (s : Symbol) × (t ≡ Some s) × IsOneOf ps (item.Terminal s ∷ row)
take_in [] t row is = absurd (cc)
take_in (takes heads items ∷ ps) t row is = elim (cases_Bool (is_among t heads)) [
  | inl suits ↦ (let same : items ≡ row = (let h = rw suits at is in cc) in
      let found = among_some t heads suits in (found.0, found.1, inl (found.0, found.2, ap (λ (x : List Item). item.Terminal found.0 ∷ x) (sym same))))
  | inr passes ↦ (let found = take_in ps t row (rw passes at is) in (found.0, found.1, inr found.2))
]
take_in (peek heads items ∷ ps) t row is = elim (cases_Bool (is_among t heads)) [
  | inl suits ↦ absurd (go_take items row (rw suits at is))
  | inr passes ↦ (let found = take_in ps t row (rw passes at is) in (found.0, found.1, inr found.2))
]
take_in (otherwise items ∷ ps) t row is = absurd (go_take items row is)

pub go_in : (ps : List Production) (t : Option Symbol) (row : List Item) → step ps t ≡ Go row → IsOneOf ps row
go_in [] t row is = absurd (cc)
go_in (takes heads items ∷ ps) t row is = elim (cases_Bool (is_among t heads)) [
  | inl suits ↦ absurd (go_take row items (sym (rw suits at is)))
  | inr passes ↦ inr (go_in ps t row (rw passes at is))
]
go_in (peek heads items ∷ ps) t row is = elim (cases_Bool (is_among t heads)) [
  | inl suits ↦ (let same : items ≡ row = (let h = rw suits at is in cc) in inl (sym same))
  | inr passes ↦ inr (go_in ps t row (rw passes at is))
]
go_in (otherwise items ∷ ps) t row is = let same : items ≡ row = cc in inl (sym same)

-- one step each
pub runs_terminal : (xs : List Symbol) (at : ℕ) (s : Symbol) (items : List Item) → Runs xs at (item.Terminal s ∷ items) → slice_get xs at ≡ Some s → Runs xs (at + 1) items
runs_terminal xs at s items known is =
    record {
      within = omega (arith, slice_get_within xs at s is);
      makes = λ ys same d. known.makes ys (λ i below. same i (omega arith)) (symbol s items at (length ys) (same at (omega arith) ∙ is) d);
      only = λ ys same file. (inv_terminal ys s items at (length ys) (known.only ys (λ i le. same i (omega arith)) file)).1;
    }

pub runs_action : (xs : List Symbol) (at : ℕ) (a : Action) (items : List Item) → Runs xs at (item.Action a ∷ items) → Runs xs at items
runs_action xs at a items known =
    record {
      within = known.within;
      makes = λ ys same d. known.makes ys same (action a items at (length ys) d);
      only = λ ys same file. inv_act ys a items at (length ys) (known.only ys same file);
    }

inv_taken : (ys : List Symbol) (n : Nonterminal) (items row : List Item) (at to : ℕ) → step (productions n) (slice_get ys at) ≡ Take row → Reads ys (item.Nonterminal n ∷ items) at to → Reads ys (row ++ items) (at + 1) to
inv_taken ys n items row at to is (taken _ _ row' _ _ is' d) = let same : row' ≡ row = (let h = sym is' ∙ is in cc) in subst (λ (x : List Item). Reads ys (x ++ items) (at + 1) to) same d
inv_taken ys n items row at to is (gone _ _ row' _ _ is' d) = absurd (go_take row' row (sym is' ∙ is))

inv_gone : (ys : List Symbol) (n : Nonterminal) (items row : List Item) (at to : ℕ) → step (productions n) (slice_get ys at) ≡ Go row → Reads ys (item.Nonterminal n ∷ items) at to → Reads ys (row ++ items) at to
inv_gone ys n items row at to is (gone _ _ row' _ _ is' d) = let same : row' ≡ row = (let h = sym is' ∙ is in cc) in subst (λ (x : List Item). Reads ys (x ++ items) at to) same d
inv_gone ys n items row at to is (taken _ _ row' _ _ is' d) = absurd (go_take row row' (sym is ∙ is'))

inv_no : (ys : List Symbol) (n : Nonterminal) (items : List Item) (at to : ℕ) → step (productions n) (slice_get ys at) ≡ No → Reads ys (item.Nonterminal n ∷ items) at to → ⊥
inv_no ys n items at to is (gone _ _ row' _ _ is' d) = let h = sym is ∙ is' in cc
inv_no ys n items at to is (taken _ _ row' _ _ is' d) = let h = sym is ∙ is' in cc

pub runs_take : (xs : List Symbol) (at : ℕ) (n : Nonterminal) (items row : List Item) → Runs xs at (item.Nonterminal n ∷ items) → step (productions n) (slice_get xs at) ≡ Take row → Runs xs (at + 1) (row ++ items)
runs_take xs at n items row known is =
    let found = take_in (productions n) (slice_get xs at) row is in
    record {
      within = omega (arith, slice_get_within xs at found.0 found.1);
      makes = λ ys same d. known.makes ys (λ i below. same i (omega arith))
          (choice n items (item.Terminal found.0 ∷ row) at (length ys) found.2 (symbol found.0 (row ++ items) at (length ys) (same at (omega arith) ∙ found.1) d));
      only = λ ys same file. inv_taken ys n items row at (length ys) (ap (step (productions n)) (same at (omega arith)) ∙ is) (known.only ys (λ i le. same i (omega arith)) file);
    }

pub runs_go : (xs : List Symbol) (at : ℕ) (n : Nonterminal) (items row : List Item) → Runs xs at (item.Nonterminal n ∷ items) → step (productions n) (slice_get xs at) ≡ Go row → Runs xs at (row ++ items)
runs_go xs at n items row known is =
    record {
      within = known.within;
      makes = λ ys same d. known.makes ys same (choice n items row at (length ys) (go_in (productions n) (slice_get xs at) row is) d);
      only = λ ys same file. inv_gone ys n items row at (length ys) (ap (step (productions n)) (same at (omega arith)) ∙ is) (known.only ys same file);
    }

got_front : (xs ys : List Symbol) (i : ℕ) → i < length xs → slice_get (xs ++ ys) i ≡ slice_get xs i
got_front [] ys i below = absurd (omega arith)
got_front (x ∷ xs) ys zero below = refl
got_front (x ∷ xs) ys (suc i) below = got_front xs ys i (omega arith)

slice_get_some : (xs : List Symbol) (i : ℕ) → i < length xs → (x : Symbol) × (slice_get xs i ≡ Some x)
slice_get_some [] i below = absurd (omega arith)
slice_get_some (x ∷ xs) zero below = (x, refl)
slice_get_some (x ∷ xs) (suc i) below = slice_get_some xs i (omega arith)

got_take : (xs : List Symbol) (n i : ℕ) → i < n → slice_get (take n xs) i ≡ slice_get xs i
got_take xs zero i below = absurd (omega arith)
got_take [] (suc n) i below = refl
got_take (x ∷ xs) (suc n) zero below = refl
got_take (x ∷ xs) (suc n) (suc i) below = got_take xs n i (omega arith)

-- some file begins with the symbols before
pub begins_file : (xs : List Symbol) (at : ℕ) (items : List Item) → Runs xs at items → (ys : List Symbol) × SameBefore xs ys at × IsFile ys
begins_file xs at items known =
    let front : length (take at xs) ≡ at = length-take-le at xs known.within in
    let w = stands items in
    let same : SameBefore xs (take at xs ++ w.0) at = λ i below. got_front (take at xs) w.0 i (omega arith) ∙ got_take xs at i below in
    let size : length (take at xs) + length w.0 ≡ length (take at xs ++ w.0) = sym (length-append (take at xs) w.0) in
    let d : Derives (take at xs ++ (w.0 ++ [])) items (length (take at xs)) (length (take at xs) + length w.0) = w.1 (take at xs) [] in
    let d' = rw (append-nil w.0, size, front) at d in
    (take at xs ++ w.0, same, known.makes (take at xs ++ w.0) same d')

fails : (xs : List Symbol) (at : ℕ) (items : List Item) → Runs xs at items → ((ys : List Symbol) → SameUpTo xs ys at → Reads ys items at (length ys) → ⊥) → FailsAt xs at
fails xs at items known none =
    record {
      within = known.within;
      before = begins_file xs at items known;
      with_it = λ ys same file. none ys same (known.only ys same file);
    }

pub fails_terminal : (xs : List Symbol) (at : ℕ) (s : Symbol) (items : List Item) → Runs xs at (item.Terminal s ∷ items) → (slice_get xs at ≡ Some s → ⊥) → FailsAt xs at
fails_terminal xs at s items known differs = fails xs at (item.Terminal s ∷ items) known (λ ys same r. differs (sym (same at (omega arith)) ∙ (inv_terminal ys s items at (length ys) r).0))

pub fails_no : (xs : List Symbol) (at : ℕ) (n : Nonterminal) (items : List Item) → Runs xs at (item.Nonterminal n ∷ items) → step (productions n) (slice_get xs at) ≡ No → FailsAt xs at
fails_no xs at n items known is = fails xs at (item.Nonterminal n ∷ items) known (λ ys same r. inv_no ys n items at (length ys) (ap (step (productions n)) (same at (omega arith)) ∙ is) r)

rest_is_none : (xs ys : List Symbol) (at : ℕ) → at < length xs → slice_get ys at ≡ slice_get xs at → at ≡ length ys → ⊥
rest_is_none xs ys at more same last =
    let none : slice_get xs at ≡ None = sym same ∙ slice_get_past ys at (omega arith) in
    let found = slice_get_some xs at more in let h = sym none ∙ found.1 in cc

-- the items are read, and symbols are left
pub fails_rest : (xs : List Symbol) (at : ℕ) → Runs xs at [] → at < length xs → FailsAt xs at
fails_rest xs at known more = fails xs at [] known (λ ys same r. rest_is_none xs ys at more (same at (omega arith)) (inv_finished ys at (length ys) r))

pub ends : (xs : List Symbol) (at : ℕ) → Runs xs at [] → length xs ≤ at → IsFile xs
ends xs at known last = let all : at ≡ length xs = omega (arith, known.within) in known.makes xs (λ i below. refl) (subst (λ (k : ℕ). Derives xs [] at k) all (done at))

-- a row that takes a symbol is chosen before the end
pub take_below : (xs : List Symbol) (at : ℕ) (n : Nonterminal) (row : List Item) → step (productions n) (slice_get xs at) ≡ Take row → at < length xs
take_below xs at n row is = let found = take_in (productions n) (slice_get xs at) row is in slice_get_within xs at found.0 found.1
