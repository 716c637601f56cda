-- What calls of the machine did, put together.
use Rattle.std.proofs.Common.{◌≡◌, ◌∙◌, ℕ, zero, suc, ◌+◌, add-zero, add-suc, ◌≤◌, arith, ◌-◌, ◌^◌, Bool, true, false, List, [], ◌∷◌, ◌++◌, take, drop, Option, Some, None, Result, Ok, Err, refl, sym, ap, subst, append_assoc}
use Rattle.std.specs.Prelude.{MatchBool, slice_get}
use Rattle.std.proofs.lemmas.Bool.{false≢true}
use Rattle.std.proofs.lemmas.List.{append-nil, take-append-drop}
use Rattle.clu_base.specs.Outside.{appended, GrewWithin}
use Rattle.clu_base.proofs.Written.{appended-nil, appended-append}
use Rattle.rv_machine.specs.declared.call.Call.{Call}
use Rattle.rv_machine.specs.declared.call.Call.TheVariants as call
use Rattle.rv_machine.specs.declared.trap.Trap.{Trap}
use Rattle.rv_machine.specs.declared.trap.Trap.TheVariants as trap
use Rattle.rv_machine.specs.declared.ending.Ending.{Ending}
use Rattle.rv_machine.specs.declared.ending.Ending.TheVariants as ending
use Rattle.rv_machine.specs.Calls.{Configuration, call_of, served, ended_by, bytes_at, range_of, failed, wrote, took, peeked, with_answer}
use Rattle.rv_machine.specs.State.{State, register, with_register}
use Rattle.std.proofs.Math.Numerals.{add-one}
use Rattle.rv_machine.specs.Emulation.{after, emulated, stepped, stepped_unless, trapped}
use Rattle.rv_machine.specs.Steps.{advanced, at_pc, Next, Goes, Stops, next}
use Rattle.rv_machine.specs.Input.{Kept, input_left, SameInput}
use Rattle.rv_machine.specs.Snapshot.{Snapshot, configuration, from_pc, gone, is_fault, IsPrefix, IsAfter, Does, Reads, Writes}

-- equal configurations are as meant, however the run ended
pub is_after : (meant now : Configuration) → now ≡ meant → IsAfter meant now
is_after meant now e = elim (is_fault now.ended) as (λ b. MatchBool b (IsPrefix now.output meant.output) (now ≡ meant)) [ true ↦ record { rest = []; parts = ap (λ (c : Configuration). c.output) (sym e) ∙ sym (append-nil now.output) } | false ↦ e ]

-- a call that neither reads nor writes
pub quiet : (meant : List ℕ → List ℕ → Configuration) (old new : Snapshot) (left written : Option (List ℕ)) → ((i o : List ℕ) → configuration new i o ≡ meant i o) → new.kept ≡ old.kept → Does meant old left written new left written
quiet meant old new left written e k = record {
  added = [];
  wrote = sym (appended-nil written);
  does = λ more output. (more, rw (append-nil output, k) (is_after (meant (input_left old.kept left more) output) (configuration new (input_left old.kept left more) output) (e (input_left old.kept left more) output)));
}

pub by_reading : (meant : List ℕ → List ℕ → Configuration) (old new : Snapshot) (left left' written : Option (List ℕ)) → Reads meant old left new left' → Does meant old left written new left' written
by_reading meant old new left left' written r = record {
  added = [];
  wrote = sym (appended-nil written);
  does = λ more output. ((r more output).0, rw (append-nil output) ((r more output).1));
}

pub by_writing : (meant : List ℕ → List ℕ → Configuration) (old new : Snapshot) (left written written' : Option (List ℕ)) → Writes meant written new written' → new.kept ≡ old.kept → Does meant old left written new left written'
by_writing meant old new left written written' w k = record {
  added = w.added;
  wrote = w.wrote;
  does = λ more output. (more, rw k (w.does (input_left old.kept left more) output));
}

-- ---- input

-- a kept byte is the first of the input
pub input_left-first : (kept new : Kept) (left : Option (List ℕ)) (more : List ℕ) (b : ℕ) → slice_get kept.bytes 0 ≡ Some b → new ≡ record kept { bytes = drop 1 kept.bytes } → input_left kept left more ≡ b ∷ input_left new left more
input_left-first kept new left more b first e = rw e (first_of kept.bytes kept.at_end first)
  where
    first_of : (bytes : List ℕ) (at_end : Bool) → slice_get bytes 0 ≡ Some b → input_left (record { bytes = bytes; at_end = at_end }) left more ≡ b ∷ input_left (record { bytes = drop 1 bytes; at_end = at_end }) left more
    first_of [] at_end h = cc
    first_of (x ∷ xs) true h = cc
    first_of (x ∷ xs) false h = cc

-- no byte is kept after the end
pub input_left-none : (kept : Kept) (left : Option (List ℕ)) (more : List ℕ) → slice_get kept.bytes 0 ≡ None → (kept.bytes ≡ [] → kept.at_end ≡ true) → input_left kept left more ≡ []
input_left-none kept left more none ended = none_of kept.bytes kept.at_end none ended
  where
    none_of : (bytes : List ℕ) (at_end : Bool) → slice_get bytes 0 ≡ None → (bytes ≡ [] → at_end ≡ true) → input_left (record { bytes = bytes; at_end = at_end }) left more ≡ []
    none_of [] true h e = refl
    none_of [] false h e = absurd (false≢true (e refl))
    none_of (x ∷ xs) at_end h e = cc

-- ---- output

pub range_is : (t s : State) (at count : ℕ) (r : Option (List ℕ)) → t ≡ s → at ≡ register t 10 → count ≡ register t 11 → r ≡ bytes_at t at count → range_of s ≡ r
range_is t s at count r v e f h = rw (← v, ← e, ← f) (sym h)

-- the range is in no region
pub writes_nothing : (old new : Snapshot) (written : Option (List ℕ)) (at : ℕ) → range_of old.state ≡ None → at ≡ register old.state 10 → new ≡ record old { ended = Some (ending.BadAccess at) } → Writes (λ i o. wrote (range_of old.state) (configuration old i o)) written new written
writes_nothing old new written at none e n = record {
  added = [];
  wrote = sym (appended-nil written);
  does = λ i o. rw (append-nil o, none, n, ← e) (is_after (configuration (record old { ended = Some (ending.BadAccess at) }) i o) (configuration (record old { ended = Some (ending.BadAccess at) }) i o) refl);
}

-- the sink failed
pub writes_part : (old new : Snapshot) (written written' : Option (List ℕ)) (bytes : List ℕ) → range_of old.state ≡ Some bytes → GrewWithin written written' bytes → new ≡ record old { ended = Some ending.WriteFault } → Writes (λ i o. wrote (range_of old.state) (configuration old i o)) written new written'
writes_part old new written written' bytes some grew n = record {
  added = take grew.count bytes;
  wrote = grew.grew;
  does = λ i o. rw (some, n) (record { rest = drop grew.count bytes; parts = ap (λ xs. o ++ xs) (sym (take-append-drop grew.count bytes)) ∙ sym (append_assoc o (take grew.count bytes) (drop grew.count bytes)) });
}

-- ---- input

output-took : (input : List ℕ) (c : Configuration) → (took input c).output ≡ c.output
output-took [] c = refl
output-took (b ∷ rest) c = refl

output-peeked : (input : List ℕ) (c : Configuration) → (peeked input c).output ≡ c.output
output-peeked [] c = refl
output-peeked (b ∷ rest) c = refl

-- the machine went on with an answer in x10
pub answered : (old new : Snapshot) (t : State) (n : ℕ) (i o : List ℕ) → t ≡ old.state → new.state ≡ advanced (with_register t 10 n) → new.ended ≡ old.ended → configuration new i o ≡ with_answer n (record (configuration old i o) { input = i })
answered old new t n i o v s e = rw (s, v, e) refl

module _ (old new : Snapshot) (filled : Kept) (left left' : Option (List ℕ)) (t : State) (v : t ≡ old.state) (ended : new.ended ≡ old.ended) (same : SameInput old.kept left filled left') where
  pub takes_byte : (b : ℕ) → slice_get filled.bytes 0 ≡ Some b → new.state ≡ advanced (with_register t 10 b) → new.kept ≡ record filled { bytes = drop 1 filled.bytes } → Reads (λ i o. took i (configuration old i o)) old left new left'
  takes_byte b first s k = λ more output.
      ((same more).0, rw ((same more).1, input_left-first filled new.kept left' more b first k) (is_after _ _ (answered old new t b (input_left new.kept left' more) output v s ended)))

  pub takes_end : slice_get filled.bytes 0 ≡ None → (filled.bytes ≡ [] → filled.at_end ≡ true) → new.state ≡ advanced (with_register t 10 (2 ^ 64 - 1)) → new.kept ≡ filled → Reads (λ i o. took i (configuration old i o)) old left new left'
  takes_end none at_end s k = λ more output.
      let nothing : input_left filled left' more ≡ [] = input_left-none filled left' more none at_end in
      ((same more).0, rw ((same more).1, k, nothing) (is_after _ _ (answered old new t (2 ^ 64 - 1) [] output v s ended)))

  pub peeks_byte : (b : ℕ) → slice_get filled.bytes 0 ≡ Some b → new.state ≡ advanced (with_register t 10 b) → new.kept ≡ filled → Reads (λ i o. peeked i (configuration old i o)) old left new left'
  peeks_byte b first s k = λ more output.
      let rest = record filled { bytes = drop 1 filled.bytes } in
      let front : input_left filled left' more ≡ b ∷ input_left rest left' more = input_left-first filled rest left' more b first refl in
      ((same more).0, rw ((same more).1, k, front) (is_after _ _ (answered old new t b (b ∷ input_left rest left' more) output v s ended)))

  pub peeks_end : slice_get filled.bytes 0 ≡ None → (filled.bytes ≡ [] → filled.at_end ≡ true) → new.state ≡ advanced (with_register t 10 (2 ^ 64 - 1)) → new.kept ≡ filled → Reads (λ i o. peeked i (configuration old i o)) old left new left'
  peeks_end none at_end s k = λ more output.
      let nothing : input_left filled left' more ≡ [] = input_left-none filled left' more none at_end in
      ((same more).0, rw ((same more).1, k, nothing) (is_after _ _ (answered old new t (2 ^ 64 - 1) [] output v s ended)))

-- the source failed
pub faulted : (meant : List ℕ → List ℕ → Configuration) (old new : Snapshot) (left left' : Option (List ℕ)) → ((i o : List ℕ) → (meant i o).output ≡ o) → left' ≡ left → new ≡ record old { ended = Some ending.ReadFault } → Reads meant old left new left'
faulted meant old new left left' same e n = λ more output.
    (more, rw n (record { rest = []; parts = same (input_left old.kept left more) output ∙ sym (append-nil output) }))

-- ---- a step

-- the run ended, and nothing else changed
pub ends : (old new : Snapshot) (left written : Option (List ℕ)) (e : Ending) → new ≡ record old { ended = Some e } → Does (λ i o. ended_by e (configuration old i o)) old left written new left written
ends old new left written e n = quiet (λ i o. ended_by e (configuration old i o)) old new left written (λ i o. ap (λ (m : Snapshot). configuration m i o) n) (ap (λ (m : Snapshot). m.kept) n)

pub call_is : (t s : State) (n : ℕ) (k kind : Call) → t ≡ s → n ≡ register t 17 → k ≡ call_of n → k ≡ kind → call_of (register s 17) ≡ kind
call_is t s n k kind v e f g = rw (← v, ← e, ← f) g

-- the hart went on
pub goes : (old new : Snapshot) (left written : Option (List ℕ)) → old.ended ≡ None → Goes new.state ≡ next old.state → new.kept ≡ old.kept → new.ended ≡ old.ended → Does (λ i o. stepped (configuration old i o)) old left written new left written
goes old new left written live h k e = quiet (λ i o. stepped (configuration old i o)) old new left written (λ i o. rw (live, ← h, e, live) refl) k

-- the hart was stopped, and the trap came to what it does
pub stops : (old mid new : Snapshot) (left written left' written' : Option (List ℕ)) (t : Trap) → old.ended ≡ None → Stops t mid.state ≡ next old.state → mid.kept ≡ old.kept → mid.ended ≡ old.ended → Does (λ i o. trapped t (configuration mid i o)) mid left written new left' written' → Does (λ i o. stepped (configuration old i o)) old left written new left' written'
stops old mid new left written left' written' t live h k e d = record {
  added = d.added;
  wrote = d.wrote;
  does = λ more output.
      let same : (i o : List ℕ) → stepped (configuration old i o) ≡ trapped t (configuration mid i o) = λ i o. rw (live, ← h, e, live) refl in
      ((d.does more output).0, rw (← k, same (input_left mid.kept left (d.does more output).0) output) ((d.does more output).1));
}

pub gone-pc : (m : Snapshot) (r : Result ℕ Ending) (pc : ℕ) → r ≡ Ok pc → pc ≡ m.state.pc → gone r m ≡ m
gone-pc m r pc e f = rw (e, f) refl

pub gone-ended : (m : Snapshot) (r : Result ℕ Ending) (e : Ending) → r ≡ Err e → gone r m ≡ m
gone-ended m r e h = rw h refl

-- ---- whole runs

-- a run that ended stays ended
pub emulated-ended : (n : ℕ) (c : Configuration) (e : Ending) → c.ended ≡ Some e → emulated n c ≡ c
emulated-ended zero c e h = refl
emulated-ended (suc n) c e h = rw (emulated-ended n c e h, h) refl

pub emulated-add : (m n : ℕ) (c : Configuration) → emulated (m + n) c ≡ emulated n (emulated m c)
emulated-add m zero c = rw add-zero refl
emulated-add m (suc n) c = rw add-suc (ap stepped (emulated-add m n c))

pub over : (n : ℕ) (a : Snapshot) (left written : Option (List ℕ)) (e : Ending) → a.ended ≡ Some e → Does (λ i o. emulated n (configuration a i o)) a left written a left written
over n a left written e h = quiet (λ i o. emulated n (configuration a i o)) a a left written (λ i o. sym (emulated-ended n (configuration a i o) e h)) refl

pub begun : (a : Snapshot) (left written : Option (List ℕ)) → Does (λ i o. emulated 0 (configuration a i o)) a left written a left written
begun a left written = quiet (λ i o. emulated 0 (configuration a i o)) a a left written (λ i o. refl) refl

-- where the run has not ended, equality is meant
live_after : (meant now : Configuration) → now.ended ≡ None → IsAfter meant now → now ≡ meant
live_after meant now h a =
    let none : is_fault now.ended ≡ false = rw h refl in
    subst (λ b. MatchBool b (IsPrefix now.output meant.output) (now ≡ meant)) none a

-- one step after n steps
pub one_more : (n : ℕ) (a b c : Snapshot) (left₁ left₂ left₃ written₁ written₂ written₃ : Option (List ℕ)) → b.ended ≡ None → Does (λ i o. emulated n (configuration a i o)) a left₁ written₁ b left₂ written₂ → Does (λ i o. stepped (configuration b i o)) b left₂ written₂ c left₃ written₃ → Does (λ i o. emulated (n + 1) (configuration a i o)) a left₁ written₁ c left₃ written₃
one_more n a b c left₁ left₂ left₃ written₁ written₂ written₃ live first next_one = record {
  added = first.added ++ next_one.added;
  wrote = next_one.wrote ∙ ap (λ w. appended w next_one.added) first.wrote ∙ appended-append written₁ first.added next_one.added;
  does = λ more output.
      let later = next_one.does more (output ++ first.added) in
      let sooner = first.does later.0 output in
      let now : configuration b (input_left b.kept left₂ later.0) (output ++ first.added) ≡ emulated n (configuration a (input_left a.kept left₁ sooner.0) output) = live_after _ _ live sooner.1 in
      (sooner.0, rw (add-one, ← now, ← append_assoc) later.1);
}

-- ---- the output only grows

same_prefix : (xs ys : List ℕ) → ys ≡ xs → IsPrefix xs ys
same_prefix xs ys e = record { rest = []; parts = e ∙ sym (append-nil xs) }

prefix_trans : (xs ys zs : List ℕ) → IsPrefix xs ys → IsPrefix ys zs → IsPrefix xs zs
prefix_trans xs ys zs p q = record { rest = p.rest ++ q.rest; parts = q.parts ∙ ap (λ l. l ++ q.rest) p.parts ∙ append_assoc xs p.rest q.rest }

failed_grows : (text : Option (List ℕ)) (c : Configuration) → IsPrefix c.output (failed text c).output
failed_grows None c = same_prefix _ _ refl
failed_grows (Some text) c = same_prefix _ _ refl

wrote_grows : (bytes : Option (List ℕ)) (c : Configuration) → IsPrefix c.output (wrote bytes c).output
wrote_grows None c = same_prefix _ _ refl
wrote_grows (Some bytes) c = record { rest = bytes; parts = refl }

served_grows : (k : Call) (c : Configuration) → IsPrefix c.output (served k c).output
served_grows call.Return c = same_prefix _ _ refl
served_grows call.Fail c = failed_grows (range_of c.state) c
served_grows call.StoreFull c = same_prefix _ _ refl
served_grows call.StackFull c = same_prefix _ _ refl
served_grows call.Write c = wrote_grows (range_of c.state) c
served_grows call.Take c = same_prefix _ _ (output-took c.input c)
served_grows call.Peek c = same_prefix _ _ (output-peeked c.input c)
served_grows (call.Unknown n) c = same_prefix _ _ refl

trapped_grows : (t : Trap) (c : Configuration) → IsPrefix c.output (trapped t c).output
trapped_grows (trap.Instruction pc) c = same_prefix _ _ refl
trapped_grows (trap.Access address) c = same_prefix _ _ refl
trapped_grows (trap.Jump target) c = same_prefix _ _ refl
trapped_grows trap.Call c = served_grows (call_of (register c.state 17)) c

after_grows : (n : Next) (c : Configuration) → IsPrefix c.output (after n c).output
after_grows (Goes s) c = same_prefix _ _ refl
after_grows (Stops t s) c = trapped_grows t (record c { state = s })

stepped_grows : (e : Option Ending) (c : Configuration) → IsPrefix c.output (stepped_unless e c).output
stepped_grows None c = after_grows (next c.state) c
stepped_grows (Some e) c = same_prefix _ _ refl

emulated_grows : (n : ℕ) (c : Configuration) → IsPrefix c.output (emulated n c).output
emulated_grows zero c = same_prefix _ _ refl
emulated_grows (suc n) c = prefix_trans _ _ _ (emulated_grows n c) (stepped_grows (emulated n c).ended (emulated n c))

after_later : (b : Bool) (now meant later : Configuration) (e : Ending) → now.ended ≡ Some e → IsPrefix meant.output later.output → (meant.ended ≡ Some e → later ≡ meant) → MatchBool b (IsPrefix now.output meant.output) (now ≡ meant) → MatchBool b (IsPrefix now.output later.output) (now ≡ later)
after_later true now meant later e h grows stays p = prefix_trans now.output meant.output later.output p grows
after_later false now meant later e h grows stays q = q ∙ sym (stays (ap (λ (c : Configuration). c.ended) (sym q) ∙ h))

-- a run that ended within n steps ended within any more
pub enough : (n steps : ℕ) (a b : Snapshot) (left left' written written' : Option (List ℕ)) (e : Ending) → n ≤ steps → b.ended ≡ Some e → Does (λ i o. emulated n (configuration a i o)) a left written b left' written' → Does (λ i o. emulated steps (configuration a i o)) a left written b left' written'
enough n steps a b left left' written written' e h ended d = record {
  added = d.added;
  wrote = d.wrote;
  does = λ more output.
      let before = configuration a (input_left a.kept left (d.does more output).0) output in
      let k : n + (steps - n) ≡ steps = omega arith in
      let split : emulated steps before ≡ emulated (steps - n) (emulated n before) = ap (λ m. emulated m before) (sym k) ∙ emulated-add n (steps - n) before in
      ((d.does more output).0, rw split (after_later (is_fault b.ended) (configuration b (input_left b.kept left' more) (output ++ d.added)) (emulated n before) (emulated (steps - n) (emulated n before)) e ended (emulated_grows (steps - n) (emulated n before)) (λ q. emulated-ended (steps - n) (emulated n before) e q) ((d.does more output).1)));
}

-- ---- a pc beside the machine

snapshot_is : (m : Snapshot) (s : State) (k : Kept) (e : Option Ending) → m.state ≡ s → m.kept ≡ k → m.ended ≡ e → m ≡ record { state = s; kept = k; ended = e }
snapshot_is m s k e p q r = rw (← p, ← q, ← r) refl

pub begun_at : (a : Snapshot) (pc : ℕ) (left written : Option (List ℕ)) → pc ≡ a.state.pc → Does (λ i o. emulated 0 (configuration a i o)) a left written (from_pc pc a) left written
begun_at a pc left written e = rw e (begun a left written)

-- the machine's own pc
pub from_own : (old new : Snapshot) (pc : ℕ) (left left' written written' : Option (List ℕ)) → pc ≡ old.state.pc → Does (λ i o. stepped (configuration (from_pc pc old) i o)) (from_pc pc old) left written new left' written' → Does (λ i o. stepped (configuration old i o)) old left written new left' written'
from_own old new pc left left' written written' e d = rw e at d

-- the pc is put back into the machine
pub put_back : (meant : List ℕ → List ℕ → Configuration) (old b new : Snapshot) (pc : ℕ) (left left' written written' : Option (List ℕ)) → new.state ≡ at_pc pc b.state → new.kept ≡ b.kept → new.ended ≡ b.ended → Does meant old left written (from_pc pc b) left' written' → Does meant old left written new left' written'
put_back meant old b new pc left left' written written' s k e d =
    subst (λ (m : Snapshot). Does meant old left written m left' written') (sym (snapshot_is new (at_pc pc b.state) b.kept b.ended s k e)) d
