-- What steps add to code: how often they place each label, which labels they name, and that their loops are whole.
use Rattle.std.proofs.Common.{◌≡◌, ℕ, ◌+◌, ◌<◌, ◌≤◌, ◌==◌, List, [], ◌∷◌, ◌++◌, Bool, true, false, ◌&&◌, Option, Some, None, nat_lt, refl, sym, ◌∙◌, ap, ⊎_elim, arith, lt-ltb, le-ltb, eq-eqb, eqb-true, append_assoc, append-nil}
use Rattle.std.proofs.lemmas.Bool.{and_from, cases_lt}
use Rattle.clu_frames.specs.Plain.{Step}
use Rattle.clu_frames.specs.Plain as flat
use Rattle.clu_frames.specs.Flattening.{Made, pushed}
use Rattle.clu_frames.specs.Labels.{are_loops, ends_loop, has_loop, label_of, resumed_slot, target_of}
use Rattle.clu_frames.proofs.Loops.{has_left, loops_both, loops_longer, loops_more}

-- Labels: 1 if this is the label, and 1 if it has a number already.

abbrev pub bit : Bool → ℕ
bit true = 1
bit false = 0

pub hit : ℕ → ℕ → ℕ
hit label n = bit (label == n)

pub below : ℕ → ℕ → ℕ
below labels n = bit (nat_lt n labels)

eqb_not : (a b : ℕ) (test : Bool) → (a == b) ≡ test → (a ≡ b → ⊥) → (a == b) ≡ false
eqb_not a b true e other = absurd (other (eqb-true a b e))
eqb_not a b false e other = e

tested : (a b c a' b' c' : Bool) → a ≡ a' → b ≡ b' → c ≡ c' → bit c' + bit a' ≡ bit b' → bit c + bit a ≡ bit b
tested a b c a' b' c' p q r h = rw (p, q, r) h

-- one label more has a number
pub below_next : (labels next n : ℕ) → next ≡ labels + 1 → hit labels n + below labels n ≡ below next n
unfolding hit below
below_next labels next n e = ⊎_elim
    (λ (lt : n < labels). tested (nat_lt n labels) (nat_lt n next) (labels == n) true true false
    (lt-ltb n labels lt) (lt-ltb n next (omega (arith, e, lt))) (eqb_not labels n (labels == n) refl (λ is. omega (arith, is, lt))) refl)
    (λ (ge : labels ≤ n). ⊎_elim
    (λ (lt : labels < n). tested (nat_lt n labels) (nat_lt n next) (labels == n) false false false
    (le-ltb n labels ge) (le-ltb n next (omega (arith, e, lt))) (eqb_not labels n (labels == n) refl (λ is. omega (arith, is, lt))) refl)
    (λ (le : n ≤ labels). tested (nat_lt n labels) (nat_lt n next) (labels == n) false true true
    (le-ltb n labels ge) (lt-ltb n next (omega (arith, e, le))) (eq-eqb labels n (omega (arith, ge, le))) refl)
    (cases_lt labels n))
    (cases_lt n labels)

pub below_none : (n : ℕ) → below 0 n ≡ 0
unfolding below
below_none n = ap bit (le-ltb n 0 (omega arith))

pub below_is : (labels n : ℕ) → n < labels → below labels n ≡ 1
unfolding below
below_is labels n lt = ap bit (lt-ltb n labels lt)

pub below_of : (labels n : ℕ) → 1 ≤ below labels n → n < labels
unfolding below
below_of labels n more = ⊎_elim
    (λ lt. lt)
    (λ ge. let none : below labels n ≡ 0 = ap bit (le-ltb n labels ge) in absurd (omega (arith, more, none)))
    (cases_lt n labels)

bit_within : (b : Bool) → bit b ≤ 1
bit_within true = omega arith
bit_within false = omega arith

pub below_within : (labels n : ℕ) → below labels n ≤ 1
unfolding below
below_within labels n = bit_within (nat_lt n labels)

pub hit_same : (n : ℕ) → hit n n ≡ 1
unfolding hit
hit_same n = ap bit (eq-eqb n n refl)

pub hit_within : (label n : ℕ) → hit label n ≤ 1
unfolding hit
hit_within label n = bit_within (label == n)

pub hit_other : (label n : ℕ) → (label ≡ n → ⊥) → hit label n ≡ 0
unfolding hit
hit_other label n other = ap bit (eqb_not label n (label == n) refl other)

pub hit_not : (label n : ℕ) → (label == n) ≡ false → hit label n ≡ 0
unfolding hit
hit_not label n e = ap bit e

bit_not : (b : Bool) → bit b ≡ 0 → b ≡ false
bit_not true e = absurd (omega (arith, e))
bit_not false e = refl

pub not_hit : (label n : ℕ) → hit label n ≡ 0 → (label == n) ≡ false
unfolding hit
not_hit label n e = bit_not (label == n) e

-- How often code places a label.

abbrev pub hits : ℕ → Option ℕ → ℕ
hits n None = 0
hits n (Some label) = hit label n

abbrev pub times : ℕ → List Step → ℕ
times n [] = 0
times n (step ∷ code) = hits n (label_of step) + times n code

pub times-append : (n : ℕ) (a b : List Step) → times n (a ++ b) ≡ times n a + times n b
times-append n [] b = omega arith
times-append n (step ∷ a) b = omega (arith, times-append n a b)

-- Which labels its steps name.

abbrev pub Names : (ℕ → Type 0) → Option ℕ → Type 0
Names P None = Unit {0}
Names P (Some label) = P label

abbrev pub AllNamed : (ℕ → Type 0) → List Step → Type 0
AllNamed P [] = Unit {0}
AllNamed P (step ∷ code) = Names P (target_of step) × AllNamed P code

pub named_on : (P : ℕ → Type 0) (a b : List Step) → AllNamed P a → AllNamed P b → AllNamed P (a ++ b)
named_on P [] b x y = y
named_on P (step ∷ a) b x y = (x.0, named_on P a b x.1 y)

pub name_more : (P Q : ℕ → Type 0) → ((t : ℕ) → P t → Q t) → (o : Option ℕ) → Names P o → Names Q o
name_more P Q more None x = tt
name_more P Q more (Some label) x = more label x

pub named_more : (P Q : ℕ → Type 0) → ((t : ℕ) → P t → Q t) → (a : List Step) → AllNamed P a → AllNamed Q a
named_more P Q more [] x = tt
named_more P Q more (step ∷ a) x = (name_more P Q more (target_of step) x.0, named_more P Q more a x.1)

-- Code after code: labels are placed so often, and each that is named is one of P.

pub record Adds (P : ℕ → Type 0) (count : ℕ → ℕ) (before after : List Step) : Type 0 where
  pub added : List Step
  pub code : after ≡ before ++ added
  pub placed : (n : ℕ) → times n added ≡ count n
  pub named : AllNamed P added
  pub loops : are_loops added added ≡ true

abbrev pub no_label : ℕ → ℕ
no_label n = 0

abbrev pub adds_on : {P : ℕ → Type 0} {c d : ℕ → ℕ} {x y z : List Step} → Adds P c x y → Adds P d y z → Adds P (λ n. c n + d n) x z
adds_on {P} {c} {d} {x} {y} {z} a b = record {
  added = a.added ++ b.added;
  code = b.code ∙ ap (λ (l : List Step). l ++ b.added) a.code ∙ append_assoc x a.added b.added;
  placed = λ n. omega (arith, times-append n a.added b.added, a.placed n, b.placed n);
  named = named_on P a.added b.added a.named b.named;
  loops = loops_both a.added b.added a.loops b.loops;
}

abbrev pub adds_more : {c : ℕ → ℕ} {x y : List Step} (P Q : ℕ → Type 0) → ((t : ℕ) → P t → Q t) → Adds P c x y → Adds Q c x y
adds_more P Q more a = record {
  added = a.added;
  code = a.code;
  placed = a.placed;
  named = named_more P Q more a.added a.named;
  loops = a.loops;
}

abbrev pub adds_none : (P : ℕ → Type 0) (x : List Step) → Adds P no_label x x
adds_none P x = record { added = []; code = sym (append-nil x); placed = λ n. refl; named = tt; loops = refl }

abbrev pub adds_step : (P : ℕ → Type 0) (step : Step) (x : List Step) → label_of step ≡ None → Names P (target_of step) → resumed_slot step ≡ None → Adds P no_label x (x ++ step ∷ [])
adds_step P step x label named resumed = record {
  added = step ∷ [];
  code = refl;
  placed = λ n. ap (λ (o : Option ℕ). hits n o + 0) label;
  named = (named, tt);
  loops = ap (λ (o : Option ℕ). ends_loop (step ∷ []) o [] && true) resumed;
}

pub and_none : (k : ℕ) → k + 0 ≡ k
and_none k = omega arith

abbrev pub adds_label : (P : ℕ → Type 0) (label : ℕ) (x : List Step) → Adds P (λ n. hit label n) x (x ++ flat.Label label ∷ [])
adds_label P label x = record {
  added = flat.Label label ∷ [];
  code = refl;
  placed = λ n. and_none (hit label n);
  named = (tt, tt);
  loops = refl;
}

-- what resumes, after code with its loop
abbrev pub adds_resume : {P : ℕ → Type 0} {c : ℕ → ℕ} {x y : List Step} (slot end : ℕ) (a : Adds P c x y) → has_loop slot end a.added ≡ true → Adds P (λ n. c n + hit end n) x ((y ++ flat.Resume slot ∷ []) ++ flat.Label end ∷ [])
adds_resume {P} {c} {x} {y} slot end a has =
    let ending : List Step = flat.Resume slot ∷ flat.Label end ∷ [] in
    let whole = a.added ++ ending in
    record {
      added = whole;
      code = append_assoc y (flat.Resume slot ∷ []) (flat.Label end ∷ []) ∙ ap (λ (l : List Step). l ++ ending) a.code ∙ append_assoc x a.added ending;
      placed = λ n. omega (arith, times-append n a.added ending, a.placed n);
      named = named_on P a.added ending a.named (tt, (tt, tt));
      loops = loops_longer whole a.added ending
          (loops_more a.added whole (λ s e h. has_left s e a.added ending h) a.added a.loops)
          (and_from (has_loop slot end whole) true (has_left slot end a.added ending has) refl);
    }

-- What a piece of code adds that needs no labels.

pub record Coded (P : ℕ → Type 0) (m m' : Made) : Type 0 where
  pub adds : Adds P no_label m.code m'.code
  pub labels : m'.labels ≡ m.labels

abbrev pub coded_on : {P : ℕ → Type 0} {x y z : Made} → Coded P x y → Coded P y z → Coded P x z
coded_on a b = record { adds = adds_on a.adds b.adds; labels = b.labels ∙ a.labels }

-- the same with no region
pub record Still (P : ℕ → Type 0) (m m' : Made) : Type 0 where
  pub adds : Adds P no_label m.code m'.code
  pub labels : m'.labels ≡ m.labels
  pub regions : m'.regions ≡ m.regions

abbrev pub still_on : {P : ℕ → Type 0} {x y z : Made} → Still P x y → Still P y z → Still P x z
still_on a b = record { adds = adds_on a.adds b.adds; labels = b.labels ∙ a.labels; regions = b.regions ∙ a.regions }

abbrev pub still_none : (P : ℕ → Type 0) (m : Made) → Still P m m
still_none P m = record { adds = adds_none P m.code; labels = refl; regions = refl }

abbrev pub still_step : (P : ℕ → Type 0) (step : Step) (m : Made) → label_of step ≡ None → Names P (target_of step) → resumed_slot step ≡ None → Still P m (pushed step m)
still_step P step m label named resumed = record { adds = adds_step P step m.code label named resumed; labels = refl; regions = refl }

-- What a statement adds: of the labels that get numbers in it each is placed once, and no other is.

pub record Grown (P : ℕ → Type 0) (m m' : Made) : Type 0 where
  pub count : ℕ → ℕ
  pub adds : Adds P count m.code m'.code
  pub labels : m.labels ≤ m'.labels
  pub placed : (n : ℕ) → count n + below m.labels n ≡ below m'.labels n

pub grown_still : {P : ℕ → Type 0} {m m' : Made} → Still P m m' → Grown P m m'
grown_still {P} {m} {m'} s = record {
  count = no_label;
  adds = s.adds;
  labels = omega (arith, s.labels);
  placed = λ n. let same : below m'.labels n ≡ below m.labels n = ap (λ (k : ℕ). below k n) s.labels in omega (arith, same);
}

pub grown_on : {P : ℕ → Type 0} {x y z : Made} → Grown P x y → Grown P y z → Grown P x z
grown_on a b = record {
  count = λ n. a.count n + b.count n;
  adds = adds_on a.adds b.adds;
  labels = omega (arith, a.labels, b.labels);
  placed = λ n. omega (arith, a.placed n, b.placed n);
}

pub grown_more : {m m' : Made} (P Q : ℕ → Type 0) → ((t : ℕ) → P t → Q t) → Grown P m m' → Grown Q m m'
grown_more P Q more g = record {
  count = g.count;
  adds = adds_more P Q more g.adds;
  labels = g.labels;
  placed = g.placed;
}
