-- The stack of types that were begun: what reading the whole gives from where it has come.
use Rattle.std.proofs.Common.{◌≡◌, ℕ, suc, ◌+◌, ◌-◌, ◌<◌, ◌≤◌, List, [], ◌∷◌, ◌++◌, length, Ok, refl, sym, ap, subst, ◌∙◌, arith}
use Rattle.clu_base.specs.declared.errors.FormatError.{FormatError}
use Rattle.clu_base.specs.declared.errors.FormatError.TheVariants as error
use Rattle.clu_types.specs.CluType.{CluType}
use Rattle.clu_types.specs.Arena.{type_at, types_of, Grows}
use Rattle.clu_types.specs.declared.term.Term.{Term}
use Rattle.clu_types.specs.declared.term.TypeId.{TypeId}
use Rattle.clu_types.proofs.Arenas.{types_grown}
use Rattle.clu_types.proofs.Carrying.{length_grows}
use Rattle.clu_types.proofs.Parts.{ids_more, fields_more, signals_more, actuals_more, types_same, fields_same, signals_same, actuals_same}
use Rattle.clu_specs.specs.declared.scope.Scope.{Scope}
use Rattle.clu_specs.specs.declared.pending.SignalsSoFar.{SignalsSoFar}
use Rattle.clu_specs.specs.declared.pending.Pending.{Pending}
use Rattle.clu_specs.specs.declared.pending.Pending.TheVariants as pending
use Rattle.clu_specs.specs.declared.pending.Found.{Found}
use Rattle.clu_specs.specs.declared.pending.Found.TheVariants as found
use Rattle.clu_specs.specs.Reading.{◌>>=◌, Read, Fails}
use Rattle.clu_specs.specs.TypeReading.{Reader, type_read, one_type_read}
use Rattle.clu_specs.specs.Pending.{Waiting, Reached, whole, inside, item, signal, SignalsMade, type_begun, resumed, item_begun, signal_begun, signals_seen, waiting_seen, found_seen, SoFarBelow, PendingBelow, FoundBelow}
use Rattle.clu_specs.proofs.Rows.{fails_on}
use Rattle.clu_specs.proofs.Depths.{type_read_deep, type_read_none}
use Rattle.clu_specs.proofs.Stepping.{waits, on, on_from, type_stepped, resumed_stepped, item_stepped, signals_row_stepped}

-- the types in the stack are below n
abbrev pub AllBelow : ℕ → List Pending → Type 0
AllBelow n [] = Unit {0}
AllBelow n (p ∷ ps) = PendingBelow n p × AllBelow n ps

abbrev pub stack_seen : List CluType → List Pending → List Waiting
stack_seen ks [] = []
stack_seen ks (p ∷ ps) = waiting_seen ks p ∷ stack_seen ks ps

-- how much is left to do
abbrev pub weight_of : Found → ℕ
weight_of (found.Item p) = 1
weight_of _ = 0

module _ (scope : Scope) where
  -- what the whole gives, if `inner` is what the innermost type gives at its depth
  abbrev pub around : ℕ → List Waiting → (ℕ → Read CluType) → Read CluType
  around d [] inner = inner d
  around d (w ∷ ws) inner = around (d - 1) ws inner >>= λ t. waits scope (type_read scope (d - 1)) w t.0 t.1

  around_last : (d : ℕ) (ws : List Waiting) (w : Waiting) (inner : ℕ → Read CluType)
      → around d (ws ++ w ∷ []) inner ≡ around d ws (λ k. inner (k - 1) >>= λ t. waits scope (type_read scope (k - 1)) w t.0 t.1)
  around_last d [] w inner = refl
  around_last d (v ∷ ws) w inner = ap (λ (r : Read CluType). r >>= λ t. waits scope (type_read scope (d - 1)) v t.0 t.1) (around_last (d - 1) ws w inner)

  around_same : (d : ℕ) (ws : List Waiting) (k : ℕ) (one two : ℕ → Read CluType) → k ≡ d - length ws → one k ≡ two k → around d ws one ≡ around d ws two
  around_same d [] k one two e same =
      let now : k ≡ d = omega (arith, e) in
      subst (λ (n : ℕ). one n ≡ two n) now same
  around_same d (w ∷ ws) k one two e same = ap (λ (r : Read CluType). r >>= λ t. waits scope (type_read scope (d - 1)) w t.0 t.1) (around_same (d - 1) ws k one two (omega (arith, e)) same)

  around_fails : (e : FormatError) (d : ℕ) (ws : List Waiting) (k : ℕ) (inner : ℕ → Read CluType) → k ≡ d - length ws → Fails e (inner k) → Fails e (around d ws inner)
  around_fails e d [] k inner is f =
      let now : k ≡ d = omega (arith, is) in
      subst (λ (n : ℕ). Fails e (inner n)) now f
  around_fails e d (w ∷ ws) k inner is f = fails_on e (around (d - 1) ws inner) (λ t. waits scope (type_read scope (d - 1)) w t.0 t.1) (around_fails e (d - 1) ws k inner (omega (arith, is)) f)

  abbrev pub machine : ℕ → List Waiting → Reached → Reader CluType
  machine d ws reached bytes = around d ws (λ k. on scope (type_read scope (k - 1)) reached bytes)

  -- a step that reads so gives the same on the whole
  step_on : (d : ℕ) (ws : List Waiting) (old new : Reached) (bytes rest : List ℕ) (read : Read Reached) → on scope (type_read scope (d - length ws - 1)) old bytes ≡ on_from scope (type_read scope (d - length ws - 1)) read
      → read ≡ Ok (new, rest) → machine d ws old bytes ≡ machine d ws new rest
  step_on d ws old new bytes rest read stepped e = around_same d ws (d - length ws) _ _ refl (stepped ∙ rw e refl)

  step_fails : (e : FormatError) (d : ℕ) (ws : List Waiting) (old : Reached) (bytes : List ℕ) (read : Read Reached) → on scope (type_read scope (d - length ws - 1)) old bytes ≡ on_from scope (type_read scope (d - length ws - 1)) read
      → Fails e read → Fails e (machine d ws old bytes)
  step_fails e d ws old bytes read stepped f =
      around_fails e d ws (d - length ws) (λ k. on scope (type_read scope (k - 1)) old bytes) refl (subst (Fails e) (sym stepped) (fails_on e read (λ x. on scope (type_read scope (d - length ws - 1)) x.0 x.1) f))

  -- the innermost type goes on
  pub resume_on : (d : ℕ) (ws : List Waiting) (w : Waiting) (t : CluType) (new : Reached) (bytes rest : List ℕ) → resumed w t bytes ≡ Ok (new, rest) → machine d (ws ++ w ∷ []) (whole t) bytes ≡ machine d ws new rest
  resume_on d ws w t new bytes rest e =
      around_last d ws w (λ k. on scope (type_read scope (k - 1)) (whole t) bytes)
      ∙ around_same d ws (d - length ws) _ _ refl (resumed_stepped scope (type_read scope (d - length ws - 1)) w t bytes ∙ rw e refl)

  pub resume_fails : (e : FormatError) (d : ℕ) (ws : List Waiting) (w : Waiting) (t : CluType) (bytes : List ℕ) → Fails e (resumed w t bytes) → Fails e (machine d (ws ++ w ∷ []) (whole t) bytes)
  resume_fails e d ws w t bytes f =
      let part = type_read scope (d - length ws - 1) in
      subst (Fails e) (sym (around_last d ws w (λ k. on scope (type_read scope (k - 1)) (whole t) bytes)))
      (around_fails e d ws (d - length ws) (λ k. waits scope (type_read scope (k - 1)) w t bytes) refl
      (subst (Fails e) (sym (resumed_stepped scope part w t bytes)) (fails_on e (resumed w t bytes) (λ x. on scope part x.0 x.1) f)))

  -- a type in the innermost begins
  deep : (d n : ℕ) (bytes : List ℕ) → n + 1 < d → type_read scope (d - n - 1) bytes ≡ one_type_read scope (type_read scope (d - n - 1 - 1)) bytes
  deep d n bytes lt = type_read_deep scope (d - n - 1) bytes (omega (arith, lt))

  pub enter_on : (d : ℕ) (ws : List Waiting) (w : Waiting) (new : Reached) (bytes rest : List ℕ) → length ws + 1 < d → type_begun scope bytes ≡ Ok (new, rest) → machine d ws (inside w) bytes ≡ machine d (ws ++ w ∷ []) new rest
  enter_on d ws w new bytes rest lt e =
      let k : ℕ = d - length ws in
      let part = type_read scope (k - 1 - 1) in
      let one : type_read scope (k - 1) bytes ≡ on scope part new rest = deep d (length ws) bytes lt ∙ (type_stepped scope part bytes ∙ rw e refl) in
      around_same d ws k _ _ refl (ap (λ (r : Read CluType). r >>= λ t. waits scope (type_read scope (k - 1)) w t.0 t.1) one)
      ∙ sym (around_last d ws w (λ k. on scope (type_read scope (k - 1)) new rest))

  pub enter_fails : (e : FormatError) (d : ℕ) (ws : List Waiting) (w : Waiting) (bytes : List ℕ) → length ws + 1 < d → Fails e (type_begun scope bytes) → Fails e (machine d ws (inside w) bytes)
  enter_fails e d ws w bytes lt f =
      let k : ℕ = d - length ws in
      let part = type_read scope (k - 1 - 1) in
      let one : type_read scope (k - 1) bytes ≡ on_from scope part (type_begun scope bytes) = deep d (length ws) bytes lt ∙ type_stepped scope part bytes in
      around_fails e d ws k (λ k. on scope (type_read scope (k - 1)) (inside w) bytes) refl
      (fails_on e (type_read scope (k - 1) bytes) (λ t. waits scope (type_read scope (k - 1)) w t.0 t.1)
      (subst (Fails e) (sym one) (fails_on e (type_begun scope bytes) (λ x. on scope part x.0 x.1) f)))

  pub too_deep : (d : ℕ) (ws : List Waiting) (w : Waiting) (bytes : List ℕ) → d ≤ length ws + 1 → Fails (error.Bad (length bytes)) (machine d ws (inside w) bytes)
  too_deep d ws w bytes le =
      let k : ℕ = d - length ws in
      let none : k - 1 ≡ 0 = omega (arith, le) in
      around_fails (error.Bad (length bytes)) d ws k (λ k. on scope (type_read scope (k - 1)) (inside w) bytes) refl
      (fails_on (error.Bad (length bytes)) (type_read scope (k - 1) bytes) (λ t. waits scope (type_read scope (k - 1)) w t.0 t.1) (type_read_none scope (k - 1) bytes none))

  pub item_on_whole : (d : ℕ) (ws : List Waiting) (w : Waiting) (new : Reached) (bytes rest : List ℕ) → item_begun scope w bytes ≡ Ok (new, rest) → machine d ws (item w) bytes ≡ machine d ws new rest
  item_on_whole d ws w new bytes rest e = step_on d ws (item w) new bytes rest (item_begun scope w bytes) (item_stepped scope (type_read scope (d - length ws - 1)) w bytes) e

  pub item_fails : (e : FormatError) (d : ℕ) (ws : List Waiting) (w : Waiting) (bytes : List ℕ) → Fails e (item_begun scope w bytes) → Fails e (machine d ws (item w) bytes)
  item_fails e d ws w bytes f = step_fails e d ws (item w) bytes (item_begun scope w bytes) (item_stepped scope (type_read scope (d - length ws - 1)) w bytes) f

  pub signal_on_whole : (d : ℕ) (ws : List Waiting) (s : SignalsMade) (new : Reached) (bytes rest : List ℕ) → signal_begun s bytes ≡ Ok (new, rest) → machine d ws (signal s) bytes ≡ machine d ws new rest
  signal_on_whole d ws s new bytes rest e = step_on d ws (signal s) new bytes rest (signal_begun s bytes) (signals_row_stepped scope (type_read scope (d - length ws - 1)) s bytes) e

  pub signal_fails_whole : (e : FormatError) (d : ℕ) (ws : List Waiting) (s : SignalsMade) (bytes : List ℕ) → Fails e (signal_begun s bytes) → Fails e (machine d ws (signal s) bytes)
  signal_fails_whole e d ws s bytes f = step_fails e d ws (signal s) bytes (signal_begun s bytes) (signals_row_stepped scope (type_read scope (d - length ws - 1)) s bytes) f

-- a grown arena keeps what was seen of the stack
module _ (old new : List Term) (g : Grows old new) where
  same_id : (id : TypeId) → id.0 < length old → type_at (types_of new) id ≡ type_at (types_of old) id
  same_id = types_grown old new g

  so_far_same : (s : SignalsSoFar) → SoFarBelow (length old) s → signals_seen (types_of new) s ≡ signals_seen (types_of old) s
  so_far_same s b =
      let args = types_same (types_of new) (types_of old) (length old) same_id s.args b.0 in
      let results = types_same (types_of new) (types_of old) (length old) same_id s.results b.1 in
      let made = signals_same (types_of new) (types_of old) (length old) same_id s.made b.2 in
      rw (args, results, made) refl

  waiting_same : (p : Pending) → PendingBelow (length old) p → waiting_seen (types_of new) p ≡ waiting_seen (types_of old) p
  waiting_same (pending.Element word) b = refl
  waiting_same (pending.Field f) b = rw (fields_same (types_of new) (types_of old) (length old) same_id f.made b) refl
  waiting_same (pending.Argument a) b = rw (types_same (types_of new) (types_of old) (length old) same_id a.made b) refl
  waiting_same (pending.Outcome r) b = rw (types_same (types_of new) (types_of old) (length old) same_id r.args b.0, types_same (types_of new) (types_of old) (length old) same_id r.made b.1) refl
  waiting_same (pending.Object o) b = rw (so_far_same o.signals b.0, types_same (types_of new) (types_of old) (length old) same_id o.made b.1) refl
  waiting_same (pending.Actual a) b = rw (actuals_same (types_of new) (types_of old) (length old) same_id a.made b) refl

  pub stack_same : (ps : List Pending) → AllBelow (length old) ps → stack_seen (types_of new) ps ≡ stack_seen (types_of old) ps
  stack_same [] b = refl
  stack_same (p ∷ ps) b = rw (waiting_same p b.0, stack_same ps b.1) refl

  longer : length old ≤ length new
  longer = length_grows old new g

  pending_more : (p : Pending) → PendingBelow (length old) p → PendingBelow (length new) p
  pending_more (pending.Element word) b = tt
  pending_more (pending.Field f) b = fields_more (length old) (length new) longer f.made b
  pending_more (pending.Argument a) b = ids_more (length old) (length new) longer a.made b
  pending_more (pending.Outcome r) b = (ids_more (length old) (length new) longer r.args b.0, ids_more (length old) (length new) longer r.made b.1)
  pending_more (pending.Object o) b =
      ((ids_more (length old) (length new) longer o.signals.args b.0.0, ids_more (length old) (length new) longer o.signals.results b.0.1, signals_more (length old) (length new) longer o.signals.made b.0.2), ids_more (length old) (length new) longer o.made b.1)
  pending_more (pending.Actual a) b = actuals_more (length old) (length new) longer a.made b

  pub stack_more : (ps : List Pending) → AllBelow (length old) ps → AllBelow (length new) ps
  stack_more [] b = tt
  stack_more (p ∷ ps) b = (pending_more p b.0, stack_more ps b.1)

pub stack_seen-last : (ks : List CluType) (ps : List Pending) (p : Pending) → stack_seen ks (ps ++ p ∷ []) ≡ stack_seen ks ps ++ waiting_seen ks p ∷ []
stack_seen-last ks [] p = refl
stack_seen-last ks (q ∷ ps) p = ap (λ (ws : List Waiting). waiting_seen ks q ∷ ws) (stack_seen-last ks ps p)

pub stack_length : (ks : List CluType) (ps : List Pending) → length (stack_seen ks ps) ≡ length ps
stack_length ks [] = refl
stack_length ks (p ∷ ps) = ap suc (stack_length ks ps)

pub below-last : (n : ℕ) (ps : List Pending) (p : Pending) → AllBelow n ps → PendingBelow n p → AllBelow n (ps ++ p ∷ [])
below-last n [] p bs b = (b, tt)
below-last n (q ∷ ps) p bs b = (bs.0, below-last n ps p bs.1 b)

pub last-below : (n : ℕ) (ps : List Pending) (p : Pending) → AllBelow n (ps ++ p ∷ []) → AllBelow n ps × PendingBelow n p
last-below n [] p b = (tt, b.0)
last-below n (q ∷ ps) p b =
    let more = last-below n ps p b.1 in
    ((b.0, more.0), more.1)

-- where reading has come, and that the whole is still the same
pub record Comes (scope : Scope) (depth : ℕ) (total : Read CluType) (first terms : List Term) (pending : List Pending) (now : Found) (rest : List ℕ) : Type 0 where
  pub grows : Grows first terms
  pub below : FoundBelow (length terms) now
  pub all_below : AllBelow (length terms) pending
  pub reads : machine scope depth (stack_seen (types_of terms) pending) (found_seen (types_of terms) now) rest ≡ total
