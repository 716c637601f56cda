-- What computations are put together from keeps that more turns go on, and that output only grows.
use Rattle.std.proofs.Common.{◌≡◌, ◌∙◌, ℕ, zero, suc, ◌+◌, ◌<◌, ◌≤◌, Bool, true, false, List, [], ◌++◌, refl, ap, sym, subst, arith, append_assoc, append-nil}
use Rattle.clu_word_meaning.specs.Growing.{Front, Lasts, output_of}
use Rattle.clu_word_meaning.specs.World.{done, grown}
use Rattle.clu_word_meaning.specs.Words.{Computation, Ending, Result, State, broken, continue_either_way, continued, counted, either, either_way, ended, ends, exited, gives, loop_at, need, normal, out_of_turns, paid, raised, returned, sees, signalled, spends_a_turn, takes_a_turn, through, turn_ending, turned, with_state, wrong}
use Rattle.clu_word_meaning.specs.Levels.{inside}

pub front_same : (a : List ℕ) → Front a a
front_same a = record { more = []; parts = sym (append-nil a) }

pub front_then : (a b c : List ℕ) → Front a b → Front b c → Front a c
front_then a b c p q = record { more = p.more ++ q.more; parts = q.parts ∙ ap (λ x. x ++ q.more) p.parts ∙ append_assoc a p.more q.more }

pub front_is : (a b : List ℕ) → b ≡ a → Front a b
front_is a b e = subst (λ x. Front a x) (sym e) (front_same a)

-- the same, with at most so many turns left
abbrev pub Kept : {A : Type 0} → ℕ → ℕ → Result A → Result A → Type 0
Kept most k (normal a t st) r = (t ≤ most) × (r ≡ normal a (t + k) st)
Kept most k (ended e t st) r = (t ≤ most) × (r ≡ ended e (t + k) st)
Kept most k (out_of_turns st) r = Front st.world.output (output_of r)

-- The second computation is the first with more turns and levels: the first has less than `n` turns, the second `k` more.
pub record Goes {A : Type 0} (n k : ℕ) (f g : Computation A) : Type 0 where
  pub grows : (t : ℕ) (st : State) → Front st.world.output (output_of (g t st))
  pub lasts : (t : ℕ) (st : State) → t < n → Kept t k (f t st) (g (t + k) st)

pub kept_lower : {A : Type 0} (a b k : ℕ) (r q : Result A) → a ≤ b → Kept a k r q → Kept b k r q
kept_lower a b k (normal x t st) q l h = (omega (arith, l, h.0), h.1)
kept_lower a b k (ended x t st) q l h = (omega (arith, l, h.0), h.1)
kept_lower a b k (out_of_turns st) q l h = h

pub as_lasts : {A : Type 0} (most k : ℕ) (r q : Result A) → Kept most k r q → Lasts k r q
as_lasts most k (normal x t st) q h = h.1
as_lasts most k (ended x t st) q h = h.1
as_lasts most k (out_of_turns st) q h = h

module _ (n k : ℕ) where
  pub goes_gives : {A : Type 0} (a : A) → Goes n k (gives a) (gives a)
  unfolding gives
  goes_gives a = record { grows = λ t st. front_same st.world.output; lasts = λ t st l. (omega arith, refl) }

  pub goes_ends : {A : Type 0} (e : Ending) → Goes {A = A} n k (ends e) (ends e)
  unfolding ends
  goes_ends e = record { grows = λ t st. front_same st.world.output; lasts = λ t st l. (omega arith, refl) }

  -- What comes after grows too.
  pub grows_on : {A B : Type 0} (f : A → Computation B) (g : Ending → Computation B) (r : Result A) → ((a : A) (t : ℕ) (st : State) → Front st.world.output (output_of (f a t st))) → ((e : Ending) (t : ℕ) (st : State) → Front st.world.output (output_of (g e t st))) →
      Front (output_of r) (output_of (continue_either_way f g r))
  unfolding continue_either_way
  grows_on f g (normal a t st) p q = p a t st
  grows_on f g (ended e t st) p q = q e t st
  grows_on f g (out_of_turns st) p q = front_same st.world.output

  pub continues : {A B : Type 0} (f f' : A → Computation B) (g g' : Ending → Computation B) (t : ℕ) (r r' : Result A) → t < n → ((a : A) → Goes n k (f a) (f' a)) → ((e : Ending) → Goes n k (g e) (g' e)) → Kept t k r r' →
      Kept t k (continue_either_way f g r) (continue_either_way f' g' r')
  unfolding continue_either_way
  continues f f' g g' t (normal a u st) r' l p q h =
      subst (λ x. Kept t k (f a u st) (continue_either_way f' g' x)) (sym h.1) (kept_lower u t k (f a u st) (f' a (u + k) st) h.0 ((p a).lasts u st (omega (arith, l, h.0))))
  continues f f' g g' t (ended e u st) r' l p q h =
      subst (λ x. Kept t k (g e u st) (continue_either_way f' g' x)) (sym h.1) (kept_lower u t k (g e u st) (g' e (u + k) st) h.0 ((q e).lasts u st (omega (arith, l, h.0))))
  continues f f' g g' t (out_of_turns st) r' l p q h = front_then st.world.output (output_of r') _ h (grows_on f' g' r' (λ a. (p a).grows) (λ e. (q e).grows))

  pub goes_either_way : {A B : Type 0} {first first' : Computation A} {f f' : A → Computation B} {g g' : Ending → Computation B} → Goes n k first first' → ((a : A) → Goes n k (f a) (f' a)) → ((e : Ending) → Goes n k (g e) (g' e)) →
      Goes n k (either_way first f g) (either_way first' f' g')
  unfolding either_way
  goes_either_way {first = first} {first' = first'} {f = f} {f' = f'} {g = g} {g' = g'} o p q = record {
    grows = λ t st. front_then st.world.output (output_of (first' t st)) _ (o.grows t st) (grows_on f' g' (first' t st) (λ a. (p a).grows) (λ e. (q e).grows));
    lasts = λ t st l. continues f f' g g' t (first t st) (first' (t + k) st) l p q (o.lasts t st l);
  }

  pub goes_and : {A B : Type 0} {first first' : Computation A} {f f' : A → Computation B} → Goes n k first first' → ((a : A) → Goes n k (f a) (f' a)) → Goes n k (either_way first f ends) (either_way first' f' ends)
  goes_and o p = goes_either_way o p (λ e. goes_ends e)

  pub goes_with : {A : Type 0} {f f' : Computation A} (g : State → State) → ((st : State) → (g st).world.output ≡ st.world.output) → Goes n k f f' → Goes n k (with_state g f) (with_state g f')
  unfolding with_state
  goes_with {f = f} {f' = f'} g e o = record {
    grows = λ t st. subst (λ x. Front x (output_of (f' t (g st)))) (e st) (o.grows t (g st));
    lasts = λ t st l. o.lasts t (g st) l;
  }

  pub goes_sees : {A : Type 0} {f f' : State → Computation A} → ((st : State) → Goes n k (f st) (f' st)) → Goes n k (sees f) (sees f')
  unfolding sees
  goes_sees o = record { grows = λ t st. (o st).grows t st; lasts = λ t st l. (o st).lasts t st l }

  pub goes_need : {A : Type 0} (b : Bool) {f f' : Computation A} → Goes n k f f' → Goes n k (need b f) (need b f')
  unfolding need
  goes_need true o = o
  goes_need false o = goes_ends wrong

  pub goes_either : {A : Type 0} (b : Bool) {f f' g g' : Computation A} → Goes n k f f' → Goes n k g g' → Goes n k (either b f g) (either b f' g')
  unfolding either
  goes_either true o p = o
  goes_either false o p = p

  pub goes_takes : {f f' : Computation (Unit {0})} → Goes n k f f' → Goes n k (takes_a_turn f) (takes_a_turn f')
  unfolding takes_a_turn
  goes_takes {f = f} {f' = f'} o = record { grows = grown; lasts = lasting }
    where
      grown : (t : ℕ) (st : State) → Front st.world.output (output_of (takes_a_turn f' t st))
      grown zero st = front_same st.world.output
      grown (suc t) st = o.grows t (turned st)

      lasting : (t : ℕ) (st : State) → t < n → Kept t k (takes_a_turn f t st) (takes_a_turn f' (t + k) st)
      lasting zero st l = grown (zero + k) st
      lasting (suc t) st l =
          (let z : suc (t + k) ≡ suc t + k = omega arith in subst (λ u. Kept (suc t) k (f t (turned st)) (takes_a_turn f' u st)) z (kept_lower t (suc t) k (f t (turned st)) (f' (t + k) (turned st)) (omega arith) (o.lasts t (turned st) (omega (arith, l)))))

-- a turn that is spent leaves one less
pub goes_turn_up : {A : Type 0} (n k : ℕ) {f f' : Computation A} → Goes n k f f' → Goes (suc n) k (spends_a_turn f) (spends_a_turn f')
unfolding spends_a_turn
goes_turn_up n k {f = f} {f' = f'} o = record { grows = grown; lasts = lasting }
  where
    grown : (t : ℕ) (st : State) → Front st.world.output (output_of (spends_a_turn f' t st))
    grown zero st = front_same st.world.output
    grown (suc t) st = o.grows t (paid st)

    lasting : (t : ℕ) (st : State) → t < suc n → Kept t k (spends_a_turn f t st) (spends_a_turn f' (t + k) st)
    lasting zero st l = grown (zero + k) st
    lasting (suc t) st l =
        (let z : suc (t + k) ≡ suc t + k = omega arith in subst (λ u. Kept (suc t) k (f t (paid st)) (spends_a_turn f' u st)) z (kept_lower t (suc t) k (f t (paid st)) (f' (t + k) (paid st)) (omega arith) (o.lasts t (paid st) (omega (arith, l)))))

pub goes_less : {A : Type 0} (m n k : ℕ) {f f' : Computation A} → m ≤ n → Goes n k f f' → Goes m k f f'
goes_less m n k le o = record { grows = o.grows; lasts = λ t st l. o.lasts t st (omega (arith, l, le)) }

pub by_ending : (n k : ℕ) {again again' : Computation (Unit {0})} → Goes n k again again' → (e : Ending) → Goes n k (turn_ending again e) (turn_ending again' e)
unfolding turn_ending
by_ending n k r broken = goes_with n k (counted 1) (λ st. refl) (goes_gives n k tt)
by_ending n k r continued = r
by_ending n k r (returned ws) = goes_ends n k (returned ws)
by_ending n k r (signalled name ws) = goes_ends n k (signalled name ws)
by_ending n k r (raised name ws) = goes_ends n k (raised name ws)
by_ending n k r (exited inside arm ws) = goes_ends n k (exited inside arm ws)
by_ending n k r (through e) = goes_ends n k (through e)
by_ending n k r wrong = goes_ends n k wrong

-- so many turns of a loop beside more of them
pub loop_grows : (m : ℕ) (body : Computation (Unit {0})) → ((t : ℕ) (st : State) → Front st.world.output (output_of (body t st))) → (t : ℕ) (st : State) → Front st.world.output (output_of (loop_at m body t st))
unfolding loop_at spends_a_turn
loop_grows zero body o t st = front_same st.world.output
loop_grows (suc m) body o t st =
    let again : Goes zero 0 (spends_a_turn (loop_at m body)) (spends_a_turn (loop_at m body)) = record { grows = turn_grows (loop_at m body) (loop_grows m body o); lasts = λ t st l. absurd (omega (arith, l)) } in
    let first : Goes zero 0 body body = record { grows = o; lasts = λ t st l. absurd (omega (arith, l)) } in
    (goes_either_way zero 0 first (λ done. again) (by_ending zero 0 again)).grows t (counted 1 st)
  where
    turn_grows : (f : Computation (Unit {0})) → ((t : ℕ) (st : State) → Front st.world.output (output_of (f t st))) → (t : ℕ) (st : State) → Front st.world.output (output_of (spends_a_turn f t st))
    turn_grows f h zero st = front_same st.world.output
    turn_grows f h (suc t) st = h t (paid st)

pub loop_goes : (m n k : ℕ) {body body' : Computation (Unit {0})} → m ≤ n → Goes n k body body' → Goes m k (loop_at m body) (loop_at (m + k) body')
unfolding loop_at
loop_goes zero n k {body' = body'} le o = record { grows = loop_grows (zero + k) body' o.grows; lasts = λ t st l. absurd (omega (arith, l)) }
loop_goes (suc m) n k {body = body} {body' = body'} le o =
    let rest : Goes (suc m) k (spends_a_turn (loop_at m body)) (spends_a_turn (loop_at (m + k) body')) = goes_turn_up m k (loop_goes m n k (omega (arith, le)) o) in
    let whole = goes_either_way (suc m) k (goes_less (suc m) n k le o) (λ done. rest) (by_ending (suc m) k rest) in
    let z : suc (m + k) ≡ suc m + k = omega arith in
    record {
      grows = loop_grows (suc m + k) body' o.grows;
      lasts = λ t st l. subst (λ u. Kept t k (loop_at (suc m) body t st) (loop_at u body' (t + k) st)) z (whole.lasts t (counted 1 st) l);
    }
