-- Each turn of the loop over the stack keeps what reading the whole gives.
use Rattle.std.proofs.Common.{◌≡◌, ℕ, ◌+◌, ◌*◌, ◌-◌, ◌<◌, ◌≤◌, List, [], ◌∷◌, ◌++◌, length, Ok, Err, refl, sym, ap, subst, ◌∙◌, arith}
use Rattle.clu_base.specs.declared.errors.FormatError.{FormatError}
use Rattle.clu_base.specs.declared.errors.FormatError.TheVariants as error
use Rattle.clu_types.specs.CluType.{CluType}
use Rattle.clu_types.specs.Arena.{type_at, types_of, Grows}
use Rattle.clu_types.specs.declared.term.Term.{Term}
use Rattle.clu_types.specs.declared.term.TypeId.{TypeId}
use Rattle.clu_types.proofs.Carrying.{grows_on}
use Rattle.clu_specs.specs.declared.scope.Scope.{Scope}
use Rattle.clu_specs.specs.declared.pending.SignalsSoFar.{SignalsSoFar}
use Rattle.clu_specs.specs.declared.pending.Pending.{Pending}
use Rattle.clu_specs.specs.declared.pending.Found.{Found}
use Rattle.clu_specs.specs.declared.pending.Found.TheVariants as found
use Rattle.clu_specs.specs.Reading.{Read, Fails}
use Rattle.clu_specs.specs.TypeReading.{type_read}
use Rattle.clu_specs.specs.Pending.{Reached, whole, type_begun, resumed, item_begun, signal_begun, signals_seen, waiting_seen, found_seen, PendingBelow, FoundBelow}
use Rattle.clu_specs.proofs.Rows.{fails_on}
use Rattle.clu_specs.proofs.Depths.{type_read_deep}
use Rattle.clu_specs.proofs.Stepping.{on, type_stepped}
use Rattle.clu_specs.proofs.Progress.{weight, Falls, type_falls, resumed_falls, signal_falls, item_falls}
use Rattle.clu_specs.proofs.Stack.{AllBelow, stack_seen, weight_of, machine, resume_on, resume_fails, enter_on, enter_fails, too_deep, item_on_whole, item_fails, signal_on_whole, signal_fails_whole, stack_same, stack_more, stack_seen-last, stack_length, below-last, last-below, Comes}

weight_seen : (ks : List CluType) (f : Found) → weight (found_seen ks f) ≡ weight_of f
weight_seen ks (found.Whole id) = refl
weight_seen ks (found.Inside p) = refl
weight_seen ks (found.Item p) = refl
weight_seen ks (found.Signal s) = refl

-- what a step leaves to do
left_to_do : (n : ℕ) (ks : List CluType) (f : Found) (rest : List ℕ) (read : Read Reached) → Falls n read → read ≡ Ok (found_seen ks f, rest) → 2 * length rest + weight_of f < n
left_to_do n ks f rest read falls e =
    let now : Falls n (Ok (found_seen ks f, rest)) = subst (Falls n) e falls in
    omega (arith, now, weight_seen ks f)

module _ (scope : Scope) (depth : ℕ) (bytes : List ℕ) where
  pub comes_first : (first terms : List Term) (f : Found) (rest : List ℕ) → 0 < depth → Grows first terms → FoundBelow (length terms) f → type_begun scope bytes ≡ Ok (found_seen (types_of terms) f, rest)
      → Comes scope depth (type_read scope depth bytes) first terms [] f rest
  comes_first first terms f rest lt g b e = record {
    grows = g;
    below = b;
    all_below = tt;
    reads = sym (type_read_deep scope depth bytes lt ∙ (type_stepped scope (type_read scope (depth - 1)) bytes ∙ rw e refl));
  }

  pub first_fails : (e : FormatError) → 0 < depth → Fails e (type_begun scope bytes) → Fails e (type_read scope depth bytes)
  first_fails e lt f =
      let part = type_read scope (depth - 1) in
      subst (Fails e) (sym (type_read_deep scope depth bytes lt ∙ type_stepped scope part bytes)) (fails_on e (type_begun scope bytes) (λ x. on scope part x.0 x.1) f)

module _ (scope : Scope) (depth : ℕ) (total : Read CluType) (first terms : List Term) where
  pub comes_last : (id : TypeId) (rest : List ℕ) → Comes scope depth total first terms [] (found.Whole id) rest → total ≡ Ok (type_at (types_of terms) id, rest)
  comes_last id rest c = sym c.reads

  module _ (ps : List Pending) where
    module _ (p : Pending) (id : TypeId) (bytes : List ℕ) (c : Comes scope depth total first terms (ps ++ p ∷ []) (found.Whole id) bytes) where
      pub popped_below : AllBelow (length terms) ps × PendingBelow (length terms) p
      popped_below = last-below (length terms) ps p c.all_below

      popped : machine scope depth (stack_seen (types_of terms) ps ++ waiting_seen (types_of terms) p ∷ []) (whole (type_at (types_of terms) id)) bytes ≡ total
      popped = rw (sym (stack_seen-last (types_of terms) ps p)) c.reads

      pub comes_resumed : (new : List Term) (f : Found) (rest : List ℕ) → Grows terms new → FoundBelow (length new) f → resumed (waiting_seen (types_of terms) p) (type_at (types_of terms) id) bytes ≡ Ok (found_seen (types_of new) f, rest)
          → Comes scope depth total first new ps f rest
      comes_resumed new f rest g b e = record {
        grows = grows_on first terms new c.grows g;
        below = b;
        all_below = stack_more terms new g ps popped_below.0;
        reads =
            rw (stack_same terms new g ps popped_below.0)
            (sym (resume_on scope depth (stack_seen (types_of terms) ps) (waiting_seen (types_of terms) p) (type_at (types_of terms) id) (found_seen (types_of new) f) bytes rest e) ∙ popped);
      }

      pub resumed_fails : (e : FormatError) → Fails e (resumed (waiting_seen (types_of terms) p) (type_at (types_of terms) id) bytes) → Fails e total
      resumed_fails e f =
          subst (Fails e) popped (resume_fails scope e depth (stack_seen (types_of terms) ps) (waiting_seen (types_of terms) p) (type_at (types_of terms) id) bytes f)

    module _ (p : Pending) (bytes : List ℕ) (c : Comes scope depth total first terms ps (found.Inside p) bytes) where
      pub pushed_below : AllBelow (length terms) (ps ++ p ∷ [])
      pushed_below = below-last (length terms) ps p c.all_below c.below

      pub comes_entered : (new : List Term) (f : Found) (rest : List ℕ) → length ps + 1 < depth → Grows terms new → FoundBelow (length new) f → type_begun scope bytes ≡ Ok (found_seen (types_of new) f, rest)
          → Comes scope depth total first new (ps ++ p ∷ []) f rest
      comes_entered new f rest lt g b e =
          let deep : length (stack_seen (types_of terms) ps) + 1 < depth = omega (arith, lt, stack_length (types_of terms) ps) in
          record {
            grows = grows_on first terms new c.grows g;
            below = b;
            all_below = stack_more terms new g (ps ++ p ∷ []) pushed_below;
            reads =
                rw (stack_same terms new g (ps ++ p ∷ []) pushed_below, stack_seen-last (types_of terms) ps p)
                (sym (enter_on scope depth (stack_seen (types_of terms) ps) (waiting_seen (types_of terms) p) (found_seen (types_of new) f) bytes rest deep e) ∙ c.reads);
          }

      pub entered_fails : (e : FormatError) → length ps + 1 < depth → Fails e (type_begun scope bytes) → Fails e total
      entered_fails e lt f =
          let deep : length (stack_seen (types_of terms) ps) + 1 < depth = omega (arith, lt, stack_length (types_of terms) ps) in
          subst (Fails e) c.reads (enter_fails scope e depth (stack_seen (types_of terms) ps) (waiting_seen (types_of terms) p) bytes deep f)

      pub deeper_fails : depth ≤ length ps + 1 → total ≡ Err (length bytes)
      deeper_fails le =
          let deep : depth ≤ length (stack_seen (types_of terms) ps) + 1 = omega (arith, le, stack_length (types_of terms) ps) in
          subst (Fails (error.Bad (length bytes))) c.reads (too_deep scope depth (stack_seen (types_of terms) ps) (waiting_seen (types_of terms) p) bytes deep)

    module _ (p : Pending) (bytes : List ℕ) (c : Comes scope depth total first terms ps (found.Item p) bytes) where
      pub comes_item : (new : List Term) (f : Found) (rest : List ℕ) → Grows terms new → FoundBelow (length new) f → item_begun scope (waiting_seen (types_of terms) p) bytes ≡ Ok (found_seen (types_of new) f, rest)
          → Comes scope depth total first new ps f rest
      comes_item new f rest g b e = record {
        grows = grows_on first terms new c.grows g;
        below = b;
        all_below = stack_more terms new g ps c.all_below;
        reads =
            rw (stack_same terms new g ps c.all_below)
            (sym (item_on_whole scope depth (stack_seen (types_of terms) ps) (waiting_seen (types_of terms) p) (found_seen (types_of new) f) bytes rest e) ∙ c.reads);
      }

      pub items_fail : (e : FormatError) → Fails e (item_begun scope (waiting_seen (types_of terms) p) bytes) → Fails e total
      items_fail e f = subst (Fails e) c.reads (item_fails scope e depth (stack_seen (types_of terms) ps) (waiting_seen (types_of terms) p) bytes f)

    module _ (s : SignalsSoFar) (bytes : List ℕ) (c : Comes scope depth total first terms ps (found.Signal s) bytes) where
      pub comes_signal : (new : List Term) (f : Found) (rest : List ℕ) → Grows terms new → FoundBelow (length new) f → signal_begun (signals_seen (types_of terms) s) bytes ≡ Ok (found_seen (types_of new) f, rest)
          → Comes scope depth total first new ps f rest
      comes_signal new f rest g b e = record {
        grows = grows_on first terms new c.grows g;
        below = b;
        all_below = stack_more terms new g ps c.all_below;
        reads =
            rw (stack_same terms new g ps c.all_below)
            (sym (signal_on_whole scope depth (stack_seen (types_of terms) ps) (signals_seen (types_of terms) s) (found_seen (types_of new) f) bytes rest e) ∙ c.reads);
      }

      pub signals_fail : (e : FormatError) → Fails e (signal_begun (signals_seen (types_of terms) s) bytes) → Fails e total
      signals_fail e f = subst (Fails e) c.reads (signal_fails_whole scope e depth (stack_seen (types_of terms) ps) (signals_seen (types_of terms) s) bytes f)

-- each turn leaves less to do
module _ (ks : List CluType) (f : Found) (bytes rest : List ℕ) (before : Found) where
  pub entered_less : (scope : Scope) (p : Pending) → before ≡ found.Inside p → type_begun scope bytes ≡ Ok (found_seen ks f, rest) → 2 * length rest + weight_of f < 2 * length bytes + weight_of before
  entered_less scope p is e = omega (arith, ap weight_of is, left_to_do (2 * length bytes) ks f rest (type_begun scope bytes) (type_falls scope bytes) e)

  pub resumed_less : (old : List CluType) (p : Pending) (t : CluType) (id : TypeId) → before ≡ found.Whole id → resumed (waiting_seen old p) t bytes ≡ Ok (found_seen ks f, rest) → 2 * length rest + weight_of f < 2 * length bytes + weight_of before
  resumed_less old p t id is e = omega (arith, ap weight_of is, left_to_do (2 * length bytes) ks f rest (resumed (waiting_seen old p) t bytes) (resumed_falls (waiting_seen old p) t bytes) e)

  pub item_less : (scope : Scope) (old : List CluType) (p : Pending) → before ≡ found.Item p → item_begun scope (waiting_seen old p) bytes ≡ Ok (found_seen ks f, rest) → 2 * length rest + weight_of f < 2 * length bytes + weight_of before
  item_less scope old p is e = omega (arith, ap weight_of is, left_to_do (2 * length bytes + 1) ks f rest (item_begun scope (waiting_seen old p) bytes) (item_falls scope (waiting_seen old p) bytes) e)

  pub signal_less : (old : List CluType) (s : SignalsSoFar) → before ≡ found.Signal s → signal_begun (signals_seen old s) bytes ≡ Ok (found_seen ks f, rest) → 2 * length rest + weight_of f < 2 * length bytes + weight_of before
  signal_less old s is e = omega (arith, ap weight_of is, left_to_do (2 * length bytes) ks f rest (signal_begun (signals_seen old s) bytes) (signal_falls (signals_seen old s) bytes) e)

-- the same, of what was found and is pending
pub comes_at : (scope : Scope) (depth : ℕ) (total : Read CluType) (first terms : List Term) (ps qs : List Pending) (f g : Found) (rest : List ℕ) → Comes scope depth total first terms ps f rest → f ≡ g → ps ≡ qs → Comes scope depth total first terms qs g rest
comes_at scope depth total first terms ps qs f g rest c e h =
    subst (λ (x : List Pending). Comes scope depth total first terms x g rest) h (subst (λ (x : Found). Comes scope depth total first terms ps x rest) e c)
