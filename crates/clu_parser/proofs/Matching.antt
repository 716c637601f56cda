-- Letters of the nodes that have begun that are of these forms, and what a nonterminal makes of them.
use Rattle.std.proofs.Common.{◌≡◌, Bool, true, false, cond, List, [], ◌∷◌, ◌++◌, map, Option, Some, None, refl, sym, ap, ◌∙◌, subst, inl, inr, ◌⊎◌, append_assoc, append-nil}
use Rattle.std.specs.List.{list_all}
use Rattle.std.proofs.lemmas.Bool.{or_cases}
use Rattle.std.proofs.lemmas.Option.{same_Some}
use Rattle.clu_grammar.proofs.Flags.{and_left, and_right}
use Rattle.clu_parser.specs.Shape.{Part, child, Letter, IsWord, IsFormOf}
use Rattle.clu_parser.proofs.Words.{Parted, last_child, last_child_is, word_append, word_split}
use Rattle.clu_parser.proofs.Fits.{fits, fits_is}
use Rattle.clu_parser.proofs.Sketch.{deep, Known, Typing, is_one_of, is_known, joined, parted_from, below, applied_to, applied, or_else, applied_one}

-- the innermost nodes are of these forms, but for the last: the letters after the first of these are
abbrev pub Matches : List (List Part) → List Letter → List (List Letter) → List (List Letter) → Type 0
Matches [] p rest words = ⊥
Matches (a ∷ []) p rest words = (u : List Letter) × IsWord a u × (words ≡ (p ++ u) ∷ rest)
Matches (a ∷ b ∷ forms) p rest words = (w : List Letter) × (ws : List (List Letter)) × IsWord a w × (words ≡ w ∷ ws) × Matches (b ∷ forms) p rest ws

-- the innermost of them, and others in its place
pub record Top (a : List Part) (forms : List (List Part)) (p : List Letter) (rest words : List (List Letter)) : Type 0 where
  pub front : List Letter
  pub word : List Letter
  pub others : List (List Letter)
  pub is : words ≡ (front ++ word) ∷ others
  pub is_word : IsWord a word
  pub again : (b : List Part) (v : List Letter) → IsWord b v → Matches (b ∷ forms) p rest ((front ++ v) ∷ others)

pub top : (a : List Part) (forms : List (List Part)) (p : List Letter) (rest words : List (List Letter)) → Matches (a ∷ forms) p rest words → Top a forms p rest words
top a [] p rest words known = record { front = p; word = known.0; others = rest; is = known.2; is_word = known.1; again = λ b v d. (v, d, refl) }
top a (b ∷ forms) p rest words known = record { front = []; word = known.0; others = known.1; is = known.3; is_word = known.2; again = λ c v d. (v, known.1, d, refl, known.4) }

-- one more
pub one_matches : (a : List Part) (forms : List (List Part)) (p : List Letter) (rest words : List (List Letter)) (w : List Letter) → IsWord a w → Matches forms p rest words → Matches (a ∷ forms) p rest (w ∷ words)
one_matches a [] p rest words w d known = absurd known
one_matches a (b ∷ forms) p rest words w d known = (w, words, d, refl, known)

abbrev pub IsWay : List (List Part) → List (List (List Part)) → Type 0
IsWay way [] = ⊥
IsWay way (it ∷ ways) = (way ≡ it) ⊎ IsWay way ways

pub way_all : (f : List (List Part) → Bool) (ways : List (List (List Part))) (way : List (List Part)) → list_all f ways ≡ true → IsWay way ways → f way ≡ true
way_all f [] way h one = absurd one
way_all f (it ∷ ways) way h (inl is) = subst (λ (x : List (List Part)). f x ≡ true) (sym is) (and_left (f it) (list_all f ways) h)
way_all f (it ∷ ways) way h (inr one) = way_all f ways way (and_right (f it) (list_all f ways) h) one

-- one of the forms is that of the word
pub record IsOneForm (a : List Part) (goals : List (List Part)) : Type 0 where
  pub form : List Part
  pub one : IsFormOf form goals
  pub fits_it : fits deep a form ≡ true

pub one_form : (a : List Part) (goals : List (List Part)) → is_one_of a goals ≡ true → IsOneForm a goals
one_form a [] h = absurd (cc)
one_form a (g ∷ goals) h = elim (or_cases (fits deep a g) (is_one_of a goals) h) [
  | inl here ↦ record { form = g; one = inl refl; fits_it = here }
  | inr later ↦ (let r = one_form a goals later in record { form = r.form; one = inr r.one; fits_it = r.fits_it })
]

-- what a nonterminal finds, and what may stand there after it
pub record IsApplied (takes : List (List Part)) (from : List Part) (gives : List (List Part)) (ways : List (List (List Part))) (p : List Letter) (rest words : List (List Letter)) : Type 0 where
  pub front : List Letter
  pub others : List (List Letter)
  pub start : Matches (takes ++ from ∷ []) front others words
  pub ends : (g : List Part) (u : List Letter) → IsFormOf g gives → IsWord g u → (way : List (List Part)) × IsWay way ways × Matches way p rest ((front ++ u) ∷ others)

joined_way : (front : List Part) (gives rest : List (List Part)) (g : List Part) → IsFormOf g gives → IsWay ((front ++ g) ∷ rest) (map (λ x. (front ++ x) ∷ rest) gives)
joined_way front [] rest g one = absurd one
joined_way front (h ∷ gives) rest g (inl is) = inl (ap (λ (x : List Part). (front ++ x) ∷ rest) is)
joined_way front (h ∷ gives) rest g (inr one) = inr (joined_way front gives rest g one)

joined_is : (front tail : List Part) (from : List Part) (gives forms : List (List Part)) (ways : List (List (List Part))) (p : List Letter) (rest words : List (List Letter)) (a : List Part) → a ≡ front ++ tail → ((w : List Letter) → IsWord tail w → IsWord from w) → joined front gives forms ≡ Some ways → Matches (a ∷ forms) p rest words → IsApplied [] from gives ways p rest words
joined_is front tail from gives forms ways p rest words a same turns is known =
    let v = top a forms p rest words known in
    let both = word_split front tail v.word (subst (λ (x : List Part). IsWord x v.word) same v.is_word) in
    let ways_are : map (λ x. (front ++ x) ∷ forms) gives ≡ ways = same_Some (map (λ x. (front ++ x) ∷ forms) gives) ways is in
    record {
      front = v.front ++ both.left;
      others = v.others;
      start = (both.right, turns both.right both.right_is, v.is ∙ ap (λ (x : List Letter). x ∷ v.others) (ap (λ (x : List Letter). v.front ++ x) both.is ∙ sym (append_assoc v.front both.left both.right)));
      ends = λ g u one d. (
        (front ++ g) ∷ forms,
        subst (IsWay ((front ++ g) ∷ forms)) ways_are (joined_way front gives forms g one),
        subst (λ (x : List Letter). Matches ((front ++ g) ∷ forms) p rest (x ∷ v.others)) (sym (append_assoc v.front both.left u)) (v.again (front ++ g) (both.left ++ u) (word_append front g both.left u both.left_is d)),
      );
    }

parted_is : (from : List Part) (o : Option Parted) (a : List Part) (gives forms : List (List Part)) (ways : List (List (List Part))) (p : List Letter) (rest words : List (List Letter)) → last_child a ≡ o → parted_from from o gives forms ≡ Some ways → Matches (a ∷ forms) p rest words → IsApplied [] from gives ways p rest words
parted_is from None a gives forms ways p rest words was is known = absurd (cc)
parted_is from (Some e) a gives forms ways p rest words was is known = go (fits deep (child e.last ∷ e.after) from) refl is
  where
    go : (test : Bool) → fits deep (child e.last ∷ e.after) from ≡ test → cond test (joined e.before gives forms) None ≡ Some ways → IsApplied [] from gives ways p rest words
    go false bad is = absurd (cc)
    go true fit is = joined_is e.before (child e.last ∷ e.after) from gives forms ways p rest words a (last_child_is a e was).is (λ w d. fits_is deep (child e.last ∷ e.after) from w fit d) is known

below_is : (from a : List Part) (gives forms : List (List Part)) (ways : List (List (List Part))) (p : List Letter) (rest words : List (List Letter)) → below from a gives forms ≡ Some ways → Matches (a ∷ forms) p rest words → IsApplied [] from gives ways p rest words
below_is [] a gives forms ways p rest words is known = joined_is a [] [] gives forms ways p rest words a (sym (append-nil a)) (λ w d. d) is known
below_is (q ∷ qs) a gives forms ways p rest words is known = parted_is (q ∷ qs) (last_child a) a gives forms ways p rest words refl is known

pub applied_is : (takes : List (List Part)) (from : List Part) (gives forms : List (List Part)) (ways : List (List (List Part))) (p : List Letter) (rest words : List (List Letter)) → applied_to takes from gives forms ≡ Some ways → Matches forms p rest words → IsApplied takes from gives ways p rest words
applied_is [] from gives [] ways p rest words is known = absurd known
applied_is (t ∷ takes) from gives [] ways p rest words is known = absurd known
applied_is [] from gives (a ∷ forms) ways p rest words is known = below_is from a gives forms ways p rest words is known
applied_is (t ∷ takes) from gives (a ∷ []) ways p rest words is known = none (fits deep a t) takes is
  where
    none : (test : Bool) (takes' : List (List Part)) → cond test (applied_to takes' from gives []) None ≡ Some ways → IsApplied (t ∷ takes) from gives ways p rest words
    none true [] is = absurd (cc)
    none true (t' ∷ takes') is = absurd (cc)
    none false takes' is = absurd (cc)
applied_is (t ∷ takes) from gives (a ∷ b ∷ forms) ways p rest words is known =
    go (fits deep a t) refl is (λ is'. applied_is takes from gives (b ∷ forms) ways p rest known.1 is' known.4)
  where
    go : (test : Bool) → fits deep a t ≡ test → cond test (applied_to takes from gives (b ∷ forms)) None ≡ Some ways → (applied_to takes from gives (b ∷ forms) ≡ Some ways → IsApplied takes from gives ways p rest known.1) → IsApplied (t ∷ takes) from gives ways p rest words
    go false bad is more = absurd (cc)
    go true fit is more =
        let r = more is in
        record {
          front = r.front;
          others = r.others;
          start = subst (Matches (t ∷ (takes ++ from ∷ [])) r.front r.others) (sym known.3) (one_matches t (takes ++ from ∷ []) r.front r.others known.1 known.0 (fits_is deep a t known.0 fit known.2) r.start);
          ends = r.ends;
        }

abbrev pub IsTyping : Typing → List Typing → Type 0
IsTyping t [] = ⊥
IsTyping t (it ∷ ts) = (t ≡ it) ⊎ IsTyping t ts

pub typing_all : (f : Typing → Bool) (ts : List Typing) (t : Typing) → list_all f ts ≡ true → IsTyping t ts → f t ≡ true
typing_all f [] t h one = absurd one
typing_all f (it ∷ ts) t h (inl is) = subst (λ (x : Typing). f x ≡ true) (sym is) (and_left (f it) (list_all f ts) h)
typing_all f (it ∷ ts) t h (inr one) = typing_all f ts t (and_right (f it) (list_all f ts) h) one

pub record IsOneApplied (ts : List Typing) (known : Known) (forms : List (List Part)) (ways : List (List (List Part))) : Type 0 where
  pub typing : Typing
  pub one : IsTyping typing ts
  pub asked : is_known typing.when known ≡ true
  pub applies : applied_to typing.takes typing.from typing.gives forms ≡ Some ways

pub one_applied : (ts : List Typing) (known : Known) (forms : List (List Part)) (ways : List (List (List Part))) → applied_one ts known forms ≡ Some ways → IsOneApplied ts known forms ways
one_applied [] known forms ways is = absurd (cc)
one_applied (t ∷ ts) known forms ways is = first (applied t known forms) refl is (λ later. one_applied ts known forms ways later)
  where
    asked : (test : Bool) → is_known t.when known ≡ test → cond test (applied_to t.takes t.from t.gives forms) None ≡ Some ways → IsOneApplied (t ∷ ts) known forms ways
    asked true yes' is = record { typing = t; one = inl refl; asked = yes'; applies = is }
    asked false no' is = absurd (cc)

    first : (o : Option (List (List (List Part)))) → applied t known forms ≡ o → or_else o (applied_one ts known forms) ≡ Some ways → (applied_one ts known forms ≡ Some ways → IsOneApplied ts known forms ways) → IsOneApplied (t ∷ ts) known forms ways
    first (Some x) was is more = asked (is_known t.when known) refl (was ∙ is)
    first None was is more = let r = more is in record { typing = r.typing; one = inr r.one; asked = r.asked; applies = r.applies }
