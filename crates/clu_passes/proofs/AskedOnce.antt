-- Nodes that are asked one after the other, each after those whose bits it reads: what is noted of a node stays true, so that at
-- the end the bit of each says whether there is a fault in it.
use Rattle.std.proofs.Common.{◌≡◌, ◌∙◌, ◌⊎◌, ℕ, zero, suc, ◌+◌, ◌-◌, ◌<◌, ◌≤◌, ◌||◌, Bool, true, false, List, [], ◌∷◌, length, fold, drop, Option, Some, None, inl, inr, refl, sym, ap, subst, arith}
use Rattle.std.specs.Prelude.{replicate, slice_get}
use Rattle.std.specs.List.{list_any, range_with_len}
use Rattle.std.proofs.lemmas.Bool.{true≢false, cases_lt}
use Rattle.std.proofs.lemmas.List.{length-set}
use Rattle.std.proofs.lemmas.Option.{same_Some, none-some}
use Rattle.clu_circles.proofs.Places.{set_here, set_there, set_cases}
use Rattle.clu_syntax.specs.declared.round.Round.{Round}
use Rattle.clu_syntax.specs.Rounds.{round_at}
use Rattle.clu_head.specs.Refused.{is_set}
use Rattle.clu_bindings.specs.Tables.{optional}
use Rattle.clu_type_rules.specs.Walking.{Asked, Looked, answer, noted, if_so, looked, looked_over, looked_inside, after_look, asked_in}
use Rattle.clu_passes.specs.Turns.{AreApart, Inside, asked_if_there, bit, first_in, nodes_in}
use Rattle.clu_passes.proofs.BadEquates.{any_same}

or_behind : (a f r : Bool) → ((a || f) || r) ≡ (f || (a || r))
or_behind true true r = refl
or_behind true false r = refl
or_behind false true r = refl
or_behind false false r = refl

replicated : {X : Type 0} (n i : ℕ) (x y : X) → slice_get (replicate n x) i ≡ Some y → x ≡ y
replicated zero i x y e = absurd (none-some y e)
replicated (suc n) zero x y e = same_Some x y e
replicated (suc n) (suc i) x y e = replicated n i x y e

module _ (rounds : List Round) (fault : List Bool → ℕ → Bool) (es : List (Option ℕ)) (Reads : ℕ → ℕ → Type 0) where
  -- a node that stands in one of the first p of the list
  pub record IsAsked (p n : ℕ) : Type 0 where
    pub place : ℕ
    pub node : ℕ
    pub early : place < p
    pub there : slice_get es place ≡ Some (Some node)
    pub inside : Inside rounds node n

  abbrev AreNoted : List Bool → List (Option Bool) → ℕ → Type 0
  AreNoted bad faulty p = (n : ℕ) (b : Bool) → slice_get faulty n ≡ Some (Some b) → (b ≡ fault bad n) × IsAsked p n

  pub record AreAsked (p : ℕ) (a : Asked) : Type 0 where
    pub notes : AreNoted a.bad a.faulty p
    pub done : (q e : ℕ) → q < p → slice_get es q ≡ Some (Some e) → bit a.bad e ≡ list_any (fault a.bad) (nodes_in rounds e)
    pub rest : (m : ℕ) → ((q : ℕ) → q < p → slice_get es q ≡ Some (Some m) → ⊥) → bit a.bad m ≡ false
    pub size : (q e : ℕ) → slice_get es q ≡ Some (Some e) → e < length a.bad

  -- ---- one node that is looked at

  known_is : (o : Option (Option Bool)) (known : Bool) → optional o ≡ Some known → o ≡ Some (Some known)
  known_is None known e = absurd (none-some known e)
  known_is (Some None) known e = absurd (none-some known e)
  known_is (Some (Some b)) known e = ap (λ (o : Option Bool). Some o) e

  answered : (bad : List Bool) (faulty : List (Option Bool)) (p n : ℕ) → AreNoted bad faulty p → answer (optional (slice_get faulty n)) (fault bad n) ≡ fault bad n
  answered bad faulty p n had = by (optional (slice_get faulty n)) refl
    where
      by : (o : Option Bool) → optional (slice_get faulty n) ≡ o → answer o (fault bad n) ≡ fault bad n
      by None is = refl
      by (Some known) is = (had n known (known_is (slice_get faulty n) known is)).0

  noted_more : (bad : List Bool) (faulty : List (Option Bool)) (p n : ℕ) → AreNoted bad faulty p → IsAsked p n → AreNoted bad (noted (optional (slice_get faulty n)) faulty n (fault bad n)) p
  noted_more bad faulty p n had asked = by (optional (slice_get faulty n))
    where
      by : (o : Option Bool) → AreNoted bad (noted o faulty n (fault bad n)) p
      by (Some known) m b e = had m b e
      by None m b e = elim (set_cases faulty n m (Some (fault bad n)) (Some b) e) [
        | inl here ↦ (same_Some b (fault bad n) here.1 ∙ ap (fault bad) here.0, subst (IsAsked p) here.0 asked)
        | inr there ↦ had m b there.1
      ]

  record AreLooked (bad : List Bool) (p : ℕ) (before : Bool) (ns : List ℕ) (l : Looked) : Type 0 where
    notes : AreNoted bad l.faulty p
    found : l.found ≡ (before || list_any (fault bad) ns)

  or_none : (b : Bool) → b ≡ (b || false)
  or_none true = refl
  or_none false = refl

  looked_all : (bad : List Bool) (p a len : ℕ) (l : Looked) → AreNoted bad l.faulty p → ((n : ℕ) → a ≤ n → n < a + len → IsAsked p n) →
      AreLooked bad p l.found (range_with_len a len) (fold (looked fault bad) l (range_with_len a len))
  looked_all bad p a zero l had all = record { notes = had; found = or_none l.found }
  looked_all bad p a (suc len) l had all =
      let next : Looked = looked fault bad l a in
      let more : AreLooked bad p next.found (range_with_len (a + 1) len) (fold (looked fault bad) next (range_with_len (a + 1) len)) =
      looked_all bad p (a + 1) len next (noted_more bad l.faulty p a had (all a (omega arith) (omega arith))) (λ n u v. all n (omega (arith, u)) (omega (arith, v))) in
      record {
        notes = more.notes;
        found = more.found
            ∙ ap (λ (b : Bool). (b || l.found) || list_any (fault bad) (range_with_len (a + 1) len)) (answered bad l.faulty p a had)
            ∙ or_behind (fault bad a) l.found (list_any (fault bad) (range_with_len (a + 1) len));
      }

  -- ---- one of the list

  module _ (apart : AreApart rounds fault es Reads) (p e : ℕ) (a : Asked) (there : slice_get es p ≡ Some (Some e)) (had : AreAsked p a) where
    abbrev l : Looked
    l = looked_inside rounds fault a e

    abbrev bad : List Bool
    bad = if_so l.found a.bad e

    here : (n : ℕ) → first_in rounds e ≤ n → n < first_in rounds e + (e - first_in rounds e) → IsAsked (p + 1) n
    here n u v = record { place = p; node = e; early = omega arith; there = there; inside = record { from = u; below = omega (arith, u, v) } }

    wider : AreNoted a.bad a.faulty (p + 1)
    wider n b is =
        let its : IsAsked p n = (had.notes n b is).1 in
        let early : its.place < p = its.early in
        ((had.notes n b is).0, record { place = its.place; node = its.node; early = omega (arith, early); there = its.there; inside = its.inside })

    seen : AreLooked a.bad (p + 1) false (nodes_in rounds e) l
    seen = looked_all a.bad (p + 1) (first_in rounds e) (e - first_in rounds e) (record { faulty = a.faulty; found = false }) wider here

    fresh : (q : ℕ) → q < p → slice_get es q ≡ Some (Some e) → ⊥
    fresh q less is = let same : q ≡ p = apart.once q p e is there in omega (arith, less, same)

    bit_here : bit bad e ≡ l.found
    bit_here = by l.found
      where
        by : (b : Bool) → bit (if_so b a.bad e) e ≡ b
        by true = ap is_set (set_here a.bad e true (had.size p e there))
        by false = had.rest e fresh

    bit_there : (m : ℕ) → (e ≡ m → ⊥) → bit bad m ≡ bit a.bad m
    bit_there m other = by l.found
      where
        by : (b : Bool) → bit (if_so b a.bad e) m ≡ bit a.bad m
        by true = ap is_set (set_there a.bad e m true other)
        by false = refl

    fault_still : (n : ℕ) → IsAsked (p + 1) n → fault bad n ≡ fault a.bad n
    fault_still n its = apart.reads its.place its.node n its.there its.inside bad a.bad (λ m read. bit_there m (λ same.
        let later : p < its.place = apart.before its.place p its.node m n its.there (there ∙ ap (λ (x : ℕ). Some (Some x)) same) its.inside read in
        let early : its.place < p + 1 = its.early in
        omega (arith, later, early)))

    any_still : (q f : ℕ) → q < p + 1 → slice_get es q ≡ Some (Some f) → list_any (fault a.bad) (nodes_in rounds f) ≡ list_any (fault bad) (nodes_in rounds f)
    any_still q f less is = any_same (fault a.bad) (fault bad) (first_in rounds f) (f - first_in rounds f) (λ n u v.
        sym (fault_still n (record { place = q; node = f; early = less; there = is; inside = record { from = u; below = omega (arith, u, v) } })))

    size_still : length bad ≡ length a.bad
    size_still = by l.found
      where
        by : (b : Bool) → length (if_so b a.bad e) ≡ length a.bad
        by true = length-set a.bad e true
        by false = refl

    notes_still : AreNoted bad l.faulty (p + 1)
    notes_still n b is = let its : IsAsked (p + 1) n = (seen.notes n b is).1 in ((seen.notes n b is).0 ∙ sym (fault_still n its), its)

    done_more : (q f : ℕ) → q < p + 1 → slice_get es q ≡ Some (Some f) → bit bad f ≡ list_any (fault bad) (nodes_in rounds f)
    done_more q f less is = elim (cases_lt q p) [
      | inl before ↦ bit_there f (λ same. fresh q before (is ∙ ap (λ (x : ℕ). Some (Some x)) (sym same))) ∙ had.done q f before is ∙ any_still q f less is
      | inr behind ↦
          let same : q ≡ p = omega (arith, less, behind) in
          let its : f ≡ e = same_Some f e (same_Some (Some f) (Some e) (sym is ∙ ap (slice_get es) same ∙ there)) in
          ap (bit bad) its ∙ bit_here ∙ seen.found ∙ ap (λ (x : ℕ). list_any (fault a.bad) (nodes_in rounds x)) (sym its) ∙ any_still q f less is
    ]

    pub asked_step : AreAsked (p + 1) (asked_in rounds fault a e)
    asked_step = record {
      notes = notes_still;
      done = done_more;
      rest = λ m none. bit_there m (λ same. none p (omega arith) (there ∙ ap (λ (x : ℕ). Some (Some x)) same)) ∙ had.rest m (λ q less is. none q (omega (arith, less)) is);
      size = λ q f is. let inside : f < length a.bad = had.size q f is in omega (arith, inside, size_still);
    }

  -- ---- all of them

  get_dropped : (xs : List (Option ℕ)) (n : ℕ) → slice_get (drop n xs) 0 ≡ slice_get xs n
  get_dropped [] zero = refl
  get_dropped [] (suc n) = refl
  get_dropped (x ∷ xs) zero = refl
  get_dropped (x ∷ xs) (suc n) = get_dropped xs n

  tail_dropped : (xs : List (Option ℕ)) (n : ℕ) → drop (suc n) xs ≡ drop 1 (drop n xs)
  tail_dropped [] zero = refl
  tail_dropped [] (suc n) = refl
  tail_dropped (x ∷ xs) zero = refl
  tail_dropped (x ∷ xs) (suc n) = tail_dropped xs n

  -- nothing is asked at this place
  passed : (p : ℕ) (a : Asked) → slice_get es p ≡ Some None → AreAsked p a → AreAsked (p + 1) a
  passed p a none had = record {
    notes = λ n b is.
        let its : IsAsked p n = (had.notes n b is).1 in
        let early : its.place < p = its.early in
        ((had.notes n b is).0, record { place = its.place; node = its.node; early = omega (arith, early); there = its.there; inside = its.inside });
    done = λ q e less is. elim (cases_lt q p) [
      | inl before ↦ had.done q e before is
      | inr behind ↦
          let same : q ≡ p = omega (arith, less, behind) in
          absurd (none-some e (same_Some None (Some e) (sym none ∙ ap (slice_get es) (sym same) ∙ is)))
    ];
    rest = λ m out. had.rest m (λ q less is. out q (omega (arith, less)) is);
    size = had.size;
  }

  abbrev turns : Asked → List (Option ℕ) → Asked
  turns a left = fold (asked_if_there rounds fault) a left

  go : AreApart rounds fault es Reads → (left : List (Option ℕ)) (p : ℕ) (a : Asked) → drop p es ≡ left → AreAsked p a → AreAsked (p + length left) (turns a left)
  go apart [] p a is had = subst (λ (k : ℕ). AreAsked k a) (omega arith) had
  go apart (o ∷ left) p a is had =
      let there : slice_get es p ≡ Some o = sym (get_dropped es p) ∙ ap (λ (xs : List (Option ℕ)). slice_get xs 0) is in
      let one : p + 1 ≡ suc p = omega arith in
      let next : drop (p + 1) es ≡ left = ap (λ (k : ℕ). drop k es) one ∙ tail_dropped es p ∙ ap (λ (xs : List (Option ℕ)). drop 1 xs) is in
      let many : p + 1 + length left ≡ p + suc (length left) = omega arith in
      subst (λ (k : ℕ). AreAsked k (turns (asked_if_there rounds fault a o) left)) many (go apart left (p + 1) (asked_if_there rounds fault a o) next (by o there))
    where
      by : (o : Option ℕ) → slice_get es p ≡ Some o → AreAsked (p + 1) (asked_if_there rounds fault a o)
      by (Some e) there = asked_step apart p e a there had
      by None there = passed p a there had

  blank : (n m : ℕ) → is_set (slice_get (replicate n false) m) ≡ false
  blank zero m = refl
  blank (suc n) zero = refl
  blank (suc n) (suc m) = blank n m

  replicated_length : (n : ℕ) → length (replicate n false) ≡ n
  replicated_length zero = refl
  replicated_length (suc n) = ap suc (replicated_length n)

  pub asked_all : AreApart rounds fault es Reads → (size : ℕ) → ((q e : ℕ) → slice_get es q ≡ Some (Some e) → e < size) → AreAsked (length es) (turns (record { bad = replicate size false; faulty = replicate size None }) es)
  asked_all apart size within =
      let none : 0 + length es ≡ length es = omega arith in
      subst (λ (k : ℕ). AreAsked k (turns (record { bad = replicate size false; faulty = replicate size None }) es)) none
      (go apart es 0 (record { bad = replicate size false; faulty = replicate size None }) refl (record {
        notes = λ n b e. absurd (none-some b (replicated size n None (Some b) e));
        done = λ q e less. absurd (omega (arith, less));
        rest = λ m none. blank size m;
        size = λ q e is. let less : e < size = within q e is in omega (arith, less, replicated_length size);
      }))
