-- What flattening promises is what statements that hold no guards ask of the places where they stand.
use Rattle.std.proofs.Common.{◌≡◌, ◌∙◌, ◌⊎◌, inl, inr, ℕ, suc, ◌+◌, ◌≤◌, ◌==◌, Bool, true, false, List, [], ◌∷◌, length, is_some, Option, Some, None, slice_get, refl, ap, sym, subst, arith, true≢false}
use Rattle.std.specs.Prelude.{◌&&◌, nat_lt}
use Rattle.std.proofs.lemmas.Bool.{and_parts}
use Rattle.clu_base.specs.declared.constants.ObjConst.{ObjConst}
use Rattle.clu_wir.specs.Adding.{Added}
use Rattle.clu_wir.specs.Formed.{has_arm, place_of}
use Rattle.clu_wir.specs.Kept.{all_kept, are_slots, is_kept}
use Rattle.clu_wir.specs.Plain.{Arms, Expr, Stmt, Stmts, arm_and, no_arms, no_stmts, stmt_and}
use Rattle.clu_wir.specs.Plain as plain
use Rattle.clu_wir.specs.Value.{meant, of_option}
use Rattle.clu_wir.specs.declared.hole.HoleKind.TheVariants as kind
use Rattle.clu_frames.specs.Plain.{Step}
use Rattle.clu_frames.specs.Plain as flat
use Rattle.clu_frames.specs.Flattening.{Guarding, Made, Round, all_onto, arm_onto, call_onto, choice_onto, either_onto, end_of, exit_of, exit_onto, first_of_row, guard_exit_onto, in_loop, in_turns, invoke_onto, is_none, iterate_onto, labelled, leave_onto, moves_onto, name_at, name_of, other_onto, primitive_onto, pushed, raise_onto, recut_onto, results_onto, row_onto, row_sets, sets_onto, signal_onto, turns_at, turns_begun, turns_onto, unless_from, yield_onto}
use Rattle.clu_frames.proofs.Pieces.{still_call, still_exit, still_leave, still_primitive, still_raise, still_row, still_signal, still_yield}
use Rattle.clu_word_meaning.specs.Words.{Body, Entry}
use Rattle.clu_flat_meaning.specs.Image.{Instance}
use Rattle.clu_flat_meaning.proofs.Runs.{Front, Once, at_push, front_back, front_more, front_push, length_push}
use Rattle.laws_frames.specs.Tables.{table_of}
use Rattle.laws_frames.proofs.Relation.{Home, Laws, Place, regions}
use Rattle.laws_frames.proofs.Entering.{BodyOk, EntryOk}
use Rattle.laws_frames.proofs.Yielding.{context_of}
use Rattle.laws_frames.proofs.Rows.{AllGood, Homes, Wide, front_length}
use Rattle.laws_frames.proofs.Iterating.{AllBelow}
use Rattle.laws_frames.proofs.Fronts.{front_moves, front_recut, front_sets, front_taken}
use Rattle.laws_frames.proofs.Growing.{NoLabel}
use Rattle.laws_frames.proofs.Seeking.{seek_in}
use Rattle.laws_frames.proofs.Standing.{Stands, stands_in}
use Rattle.laws_frames.proofs.Widths.{AllFit, is_lt, moves_fit, sets_fit}
use Rattle.laws_frames.proofs.Lawful.{Known, Telling, homes_at}
use Rattle.laws_frames.proofs.Deriving.{Adds, adds_labels, adds_list, adds_push, adds_results, adds_row, adds_same, adds_then, arm_there, leaving_of, standing, stands_sub}
use Rattle.laws_frames.proofs.Each.{Named}
use Rattle.laws_frames.proofs.Whole.{Leaving, Ok, OkAll, OkArms}

module _ (p : Place) (Good : Expr → Type 0) (laws : Laws p Good) (once : Once p.shape.code) (entries : ℕ → Entry) (entry_ok : (w : ℕ) → EntryOk p.image w (entries w)) (yielded : Body) (yielded_ok : BodyOk p.image (context_of p) yielded)
    (good : (e : Expr) → is_kept p.base e ≡ true → Good e) (fits : AllFit p.shape.frame p.shape.code)
    (rs : List Added) (table : regions p ≡ table_of p.linked.name_word rs) (seeks : (region : Option ℕ) (v : ℕ) → p.seek region v ≡ seek_in p.linked.name_word rs region v)
    (telling : Telling p.image.name_of p.linked.name_word)
    (constants : List ObjConst) (holes : (name : List ℕ) (place : ℕ) → Known p.image.name_of p.linked.name_word name → place_of constants name ≡ Some place → p.image.hole p.me.table kind.Constant place ≡ Some (p.linked.name_word name)) where
  abbrev code : List Step
  code = p.shape.code

  abbrev frame : ℕ
  frame = p.shape.frame

  abbrev word : List ℕ → ℕ
  word = p.linked.name_word

  abbrev Knows : List ℕ → Type 0
  Knows = Known p.image.name_of word

  -- Names, expressions and slots.

  named_by : (o : Option ℕ) (name : List ℕ) → place_of constants name ≡ o → is_some o ≡ true → Knows name → Named p (name_at o) name
  unfolding meant
  named_by None name e there known = absurd (true≢false (sym there))
  named_by (Some place) name e there known = record {
    word = word name;
    is = λ c who. ap (λ (i : Instance). of_option (p.image.hole i.table kind.Constant place)) who ∙ ap of_option (holes name place known e);
    named = known;
  }

  all_good : (es : List Expr) → all_kept p.base es ≡ true → AllGood p Good es
  all_good [] k = tt
  all_good (e ∷ es) k = let b = and_parts (is_kept p.base e) (all_kept p.base es) k in (good e b.0, all_good es b.1)

  pub all_below : (ns : List ℕ) → are_slots p.base ns ≡ true → AllBelow p.base ns
  all_below [] k = tt
  all_below (n ∷ ns) k = let b = and_parts (nat_lt n p.base) (are_slots p.base ns) k in (is_lt n p.base b.0, all_below ns b.1)

  -- Where a statement stands.

  abbrev OwnSlots : List Guarding → Type 0
  OwnSlots guards = (k : ℕ) (g : Guarding) → slice_get guards k ≡ Some g → (j : ℕ) (slots : List ℕ) → slice_get g.slots j ≡ Some slots → AllBelow p.base slots

  pub record Here (round : Round) (m m' : Made) : Type 0 where
    pub stands : Stands code rs round m m'
    pub room : round.work ≤ frame
    pub own : OwnSlots round.guards
    pub known : round.constants ≡ constants

  pub here_sub : (round : Round) (m a b m' : Made) → Here round m m' → Adds m a → Adds a b → Adds b m' → Here round a b
  here_sub round m a b m' h x y z = record { stands = stands_sub code rs round m a b m' h.stands x y z; room = h.room; own = h.own; known = h.known }

  homes : (round : Round) (m m' : Made) → Here round m m' → length m'.regions ≡ length m.regions → Homes p round.region (length m.code) (length m'.code)
  homes round m m' h e = homes_at p word rs table seeks round m m' h.stands e

  homes_less : (region : Option ℕ) (low high high' : ℕ) → high' ≤ high → Homes p region low high → Homes p region low high'
  homes_less region low high high' l h = record { home = λ i g k. h.home i g (omega (arith, k, l)) }

  -- the first step of a statement
  home_first : (round : Round) (m m1 m' : Made) (step : Step) → Here round m m' → Adds (pushed step m1) m' → m1.code ≡ m.code → length m1.regions ≡ length m.regions → Adds m m1 → Home p round.region (length m.code)
  home_first round m m1 m' step h a e r x =
      let b = pushed step m1 in
      let l : length b.code ≡ suc (length m.code) = length_push m1.code step ∙ ap (λ (c : List Step). suc (length c)) e in
      (homes round m b (here_sub round m m b m' h (adds_same m) (adds_then m m1 b x (adds_push step m1)) a) r).home (length m.code) (omega arith) (omega (arith, l))

  -- a step alone
  pub home_step : (round : Round) (m : Made) (step : Step) → Here round m (pushed step m) → Home p round.region (length m.code)
  home_step round m step h = home_first round m m (pushed step m) step h (adds_same (pushed step m)) refl refl (adds_same m)

  wide_row : (o : Option ℕ) (work : ℕ) (es : List Expr) (m : Made) → work ≤ frame → Front (row_sets work es o m).code code → Wide p o (work + length es)
  wide_row None work es m l f = sets_fit frame code fits es work m f l
  wide_row (Some first) work es m l f = tt

  abbrev Fine : Stmt → Round → Made → Type 0
  Fine = Ok p Good laws once entries entry_ok yielded yielded_ok

  abbrev AllFine : Stmts → Round → Made → Type 0
  AllFine = OkAll p Good laws once entries entry_ok yielded yielded_ok

  abbrev ArmsFine : Arms → ℕ → ℕ → ℕ → Round → Made → Type 0
  ArmsFine = OkArms p Good laws once entries entry_ok yielded yielded_ok

  -- Statements that have none inside.

  pub fine_call : (routine : Expr) (es : List Expr) (results : List ℕ) (round : Round) (m : Made) → is_kept p.base routine && (all_kept p.base es && are_slots p.base results) ≡ true → Here round m (call_onto routine es results round.work m) →
      Fine (plain.call routine es results) round m
  fine_call routine es results round m k h =
      let a = and_parts (is_kept p.base routine) (all_kept p.base es && are_slots p.base results) k in
      let b = and_parts (all_kept p.base es) (are_slots p.base results) a.1 in
      let m0 = row_onto round.work es m in
      let m1 = invoke_onto routine es round.work m in
      let m' = call_onto routine es results round.work m in
      let f1 : Front m1.code code = front_more m1.code m'.code code (front_taken results m1) h.stands.front in
      let f0 : Front m0.code code = front_back m0.code code (flat.Invoke routine _) f1 in
      let same : length m'.regions ≡ length m.regions = ap (λ (l : List Added). length l) (still_call NoLabel routine es results round.work m).regions in (
        good routine a.0,
        all_good es b.0,
        all_below results b.1,
        wide_row (first_of_row es) round.work es m h.room f0,
        homes_less round.region (length m.code) (length m'.code) (length m1.code) (front_length _ _ (front_taken results m1)) (homes round m m' h same),
      )

  pub fine_prim : (number : ℕ) (es : List Expr) (results : List ℕ) (round : Round) (m : Made) → all_kept p.base es && are_slots p.base results ≡ true → Here round m (primitive_onto number es results round.work m) →
      Fine (plain.prim number es results) round m
  fine_prim number es results round m k h =
      let b = and_parts (all_kept p.base es) (are_slots p.base results) k in
      let m0 = sets_onto round.work es m in
      let m1 = pushed (flat.Prim number round.work) m0 in
      let m' = primitive_onto number es results round.work m in
      let f1 : Front m1.code code = front_more m1.code m'.code code (front_moves results round.work m1) h.stands.front in
      let f0 : Front m0.code code = front_back m0.code code (flat.Prim number round.work) f1 in
      let same : length m'.regions ≡ length m.regions = ap (λ (l : List Added). length l) (still_primitive NoLabel number es results round.work m).regions in
      let l1 : length m1.code ≡ suc (length m0.code) = length_push m0.code (flat.Prim number round.work) in
      let long : length m1.code ≤ length m'.code = front_length _ _ (front_moves results round.work m1) in (
        all_good es b.0,
        all_below results b.1,
        sets_fit frame code fits es round.work m f0 h.room,
        moves_fit frame code fits results round.work m1 h.stands.front h.room,
        homes_less round.region (length m.code) (length m'.code) (length m0.code) (omega (arith, l1, long)) (homes round m m' h same),
      )

  pub fine_yield : (es : List Expr) (round : Round) (m : Made) → all_kept p.base es ≡ true → Here round m (yield_onto es round.work m) → Fine (plain.yield_words es) round m
  fine_yield es round m k h =
      let m0 = row_onto round.work es m in
      let m' = yield_onto es round.work m in
      let f0 : Front m0.code code = front_back m0.code code (flat.Yield _ (length es)) h.stands.front in
      let same : length m'.regions ≡ length m.regions = ap (λ (l : List Added). length l) (still_yield NoLabel es round.work m).regions in
      let l1 : length m'.code ≡ suc (length m0.code) = length_push m0.code (flat.Yield _ (length es)) in
      (all_good es k, wide_row (first_of_row es) round.work es m h.room f0, homes_less round.region (length m.code) (length m'.code) (length m0.code) (omega (arith, l1)) (homes round m m' h same))

  pub fine_leave : (es : List Expr) (round : Round) (m : Made) → all_kept p.base es ≡ true → Here round m (leave_onto es round.work m) → Fine (plain.leave_with es) round m
  fine_leave es round m k h =
      let m0 = row_onto round.work es m in
      let m' = leave_onto es round.work m in
      let f0 : Front m0.code code = front_back m0.code code (flat.Leave _ (length es)) h.stands.front in
      let same : length m'.regions ≡ length m.regions = ap (λ (l : List Added). length l) (still_leave NoLabel es round.work m).regions in
      let l1 : length m'.code ≡ suc (length m0.code) = length_push m0.code (flat.Leave _ (length es)) in
      (all_good es k, wide_row (first_of_row es) round.work es m h.room f0, homes_less round.region (length m.code) (length m'.code) (length m0.code) (omega (arith, l1)) (homes round m m' h same))

  -- the name of an exception and its objects
  exception_wide : (e : Expr) (es : List Expr) (round : Round) (m m' : Made) (step : Step) → m' ≡ pushed step (sets_onto (round.work + 1) es (pushed (flat.Set round.work e) m)) → Here round m m' → round.work + 1 + length es ≤ frame
  exception_wide e es round m m' step is h =
      let m1 = pushed (flat.Set round.work e) m in
      let m0 = sets_onto (round.work + 1) es m1 in
      let f0 : Front m0.code code = front_back m0.code code step (subst (λ (x : Made). Front x.code code) is h.stands.front) in
      let f1 : Front m1.code code = front_more m1.code m0.code code (front_sets es (round.work + 1) m1) f0 in
      let own = fits (length m.code) (flat.Set round.work e) (at_push m.code code (flat.Set round.work e) f1) in
      sets_fit frame code fits es (round.work + 1) m1 f0 (omega (arith, own.0))

  abbrev name_here : Round → List ℕ → Expr
  name_here round name = name_of round.constants name

  named_here : (round : Round) (name : List ℕ) → round.constants ≡ constants → is_some (place_of round.constants name) ≡ true → Knows name → Named p (name_here round name) name
  named_here round name e there known = subst (λ (l : List ObjConst). is_some (place_of l name) ≡ true → Named p (name_of l name) name) (sym e) (λ h. named_by (place_of constants name) name refl h known) there

  pub fine_raise : (name : List ℕ) (es : List Expr) (round : Round) (m : Made) → all_kept p.base es ≡ true → is_some (place_of round.constants name) ≡ true → Knows name → Here round m (raise_onto (name_here round name) es round.work m) → Fine (plain.raise_name name es) round m
  fine_raise name es round m k there known h =
      let m' = raise_onto (name_here round name) es round.work m in
      let same : length m'.regions ≡ length m.regions = ap (λ (l : List Added). length l) (still_raise NoLabel (name_here round name) es round.work m).regions in
      (named_here round name h.known there known, all_good es k, exception_wide (name_here round name) es round m m' (flat.Raise round.work) refl h, homes round m m' h same)

  pub fine_signal : (name : List ℕ) (es : List Expr) (round : Round) (m : Made) → all_kept p.base es ≡ true → is_some (place_of round.constants name) ≡ true → Knows name → Here round m (signal_onto (name_here round name) es round.work m) → Fine (plain.signal_name name es) round m
  fine_signal name es round m k there known h =
      let m' = signal_onto (name_here round name) es round.work m in
      let same : length m'.regions ≡ length m.regions = ap (λ (l : List Added). length l) (still_signal NoLabel (name_here round name) es round.work m).regions in
      (named_here round name h.known there known, all_good es k, exception_wide (name_here round name) es round m m' (flat.Signal round.work) refl h, homes round m m' h same)

  pub fine_exit : (inside arm : ℕ) (es : List Expr) (round : Round) (m : Made) → all_kept p.base es ≡ true → has_arm arm (length es) (slice_get (standing round).guards inside) ≡ true → Here round m (exit_onto inside arm es round m) → Fine (plain.exit_to inside arm es) round m
  fine_exit inside arm es round m k there h =
      let t = arm_there round.guards inside arm (length es) there in
      let g : Guarding = t.0 in
      let slots : List ℕ = t.1 in
      let m0 = sets_onto round.work es m in
      let m1 = recut_onto round.mark g.mark m0 in
      let m2 = moves_onto slots round.work m1 in
      let m3 = pushed (flat.Jump (g.label + arm)) m2 in
      let m' = exit_onto inside arm es round m in
      let is : m' ≡ m3 = ap (λ (o : Option Guarding). guard_exit_onto o arm es round m) t.2 ∙ ap (λ (o : Option (List ℕ)). arm_onto g arm es round o m) t.3 in
      let f : Front m0.code m3.code = front_more m0.code m1.code m3.code (front_recut (g.mark == round.mark) g.mark m0) (front_more m1.code m2.code m3.code (front_moves slots round.work m1) (front_push m2.code (flat.Jump (g.label + arm)))) in
      let f0 : Front m0.code m'.code = subst (λ (x : Made). Front m0.code x.code) (sym is) f in
      let same : length m'.regions ≡ length m.regions = ap (λ (l : List Added). length l) (still_exit NoLabel inside arm es round m (λ t h. tt)).regions in (
        g,
        slots,
        t.2,
        t.3,
        h.own inside g t.2 arm slots t.3,
        all_good es k,
        sets_fit frame code fits es round.work m (front_more m0.code m'.code code f0 h.stands.front) h.room,
        homes_less round.region (length m.code) (length m'.code) (length m0.code) (front_length m0.code m'.code f0) (homes round m m' h same),
      )

  -- Choices.

  -- a choice that does nothing where its condition holds
  pub choose_none : (o : Option ℕ) (other : Stmts) (e : Expr) (round : Round) (m : Made) → exit_of other round.turns ≡ o → Here round m (unless_from o e (all_onto other) round m) →
      (Here round (pushed (flat.Branch e true m.labels) (labelled 1 m)) (all_onto other round (pushed (flat.Branch e true m.labels) (labelled 1 m))) → AllFine other round (pushed (flat.Branch e true m.labels) (labelled 1 m))) →
      Home p round.region (length m.code)
      × (((exit_of other round.turns ≡ None) × AllFine other round (pushed (flat.Branch e true m.labels) (labelled 1 m))) ⊎ Leaving p Good laws once entries entry_ok yielded yielded_ok other round.turns)
  choose_none None other e round m is h rest =
      let ml = labelled 1 m in
      let m1 = pushed (flat.Branch e true m.labels) ml in
      let m2 = all_onto other round m1 in
      let m' = pushed (flat.Label m.labels) m2 in
      let a : Adds m2 m' = adds_push (flat.Label m.labels) m2 in
      let b : Adds m1 m2 = adds_list other round m1 in
      let c : Adds m m1 = adds_then m ml m1 (adds_labels 1 m) (adds_push (flat.Branch e true m.labels) ml) in
      (home_first round m ml m' (flat.Branch e true m.labels) h (adds_then m1 m2 m' b a) refl refl (adds_labels 1 m), inl (is, rest (here_sub round m m1 m2 m' h c b a)))
  choose_none (Some end) other e round m is h rest =
      (home_step round m (flat.Branch e false end) h, inr (leaving_of p Good laws once entries entry_ok yielded yielded_ok other round.turns end is))

  adds_other : (b : Bool) (otherwise : ℕ) (m : Made) → Adds m (other_onto b otherwise m)
  adds_other true otherwise m = adds_same m
  adds_other false otherwise m =
      let ml = labelled 1 m in
      let m1 = pushed (flat.Jump m.labels) ml in
      adds_then m m1 _ (adds_then m ml m1 (adds_labels 1 m) (adds_push (flat.Jump m.labels) ml)) (adds_push (flat.Label otherwise) m1)

  pub choose_both : (first other : Stmts) (e : Expr) (round : Round) (m : Made) → Here round m (either_onto (is_none other) e (all_onto first) (all_onto other) round m) →
      (Here round (choice_onto e m) (all_onto first round (choice_onto e m)) → AllFine first round (choice_onto e m)) →
      (Here round (other_onto (is_none other) m.labels (all_onto first round (choice_onto e m))) (all_onto other round (other_onto (is_none other) m.labels (all_onto first round (choice_onto e m)))) →
      AllFine other round (other_onto (is_none other) m.labels (all_onto first round (choice_onto e m)))) →
      Home p round.region (length m.code) × AllFine first round (choice_onto e m) × AllFine other round (other_onto (is_none other) m.labels (all_onto first round (choice_onto e m)))
  choose_both first other e round m h one two =
      let ml = labelled 1 m in
      let m1 = choice_onto e m in
      let m2 = all_onto first round m1 in
      let m3 = other_onto (is_none other) m.labels m2 in
      let m4 = all_onto other round m3 in
      let m' = pushed (flat.Label (end_of (is_none other) m.labels m2)) m4 in
      let a : Adds m m1 = adds_then m ml m1 (adds_labels 1 m) (adds_push (flat.Branch e false m.labels) ml) in
      let b : Adds m1 m2 = adds_list first round m1 in
      let c : Adds m2 m3 = adds_other (is_none other) m.labels m2 in
      let d : Adds m3 m4 = adds_list other round m3 in
      let f : Adds m4 m' = adds_push (flat.Label (end_of (is_none other) m.labels m2)) m4 in
      let late : Adds m2 m' = adds_then m2 m3 m' c (adds_then m3 m4 m' d f) in (
        home_first round m ml m' (flat.Branch e false m.labels) h (adds_then m1 m2 m' b late) refl refl (adds_labels 1 m),
        one (here_sub round m m1 m2 m' h a b late),
        two (here_sub round m m3 m4 m' h (adds_then m m1 m3 a (adds_then m1 m2 m3 b c)) d f),
      )

  -- Loops.

  pub here_loop : (body : Stmts) (round : Round) (m : Made) → Here round m (turns_onto (all_onto body) round m) → Here (in_loop m.labels round) (pushed (flat.Label m.labels) (labelled 2 m)) (all_onto body (in_loop m.labels round) (pushed (flat.Label m.labels) (labelled 2 m)))
  here_loop body round m h =
      let ml = labelled 2 m in
      let m1 = pushed (flat.Label m.labels) ml in
      let m2 = all_onto body (in_loop m.labels round) m1 in
      let m3 = pushed (flat.Jump m.labels) m2 in
      let m' = pushed (flat.Label (m.labels + 1)) m3 in
      let x = here_sub round m m1 m2 m' h (adds_then m ml m1 (adds_labels 2 m) (adds_push (flat.Label m.labels) ml)) (adds_list body (in_loop m.labels round) m1)
      (adds_then m2 m3 m' (adds_push (flat.Jump m.labels) m2) (adds_push (flat.Label (m.labels + 1)) m3)) in
      record { stands = stands_in code rs round (in_loop m.labels round) m1 m2 refl x.stands; room = x.room; own = x.own; known = x.known }

  pub fine_iterate : (routine : Expr) (es : List Expr) (items : List ℕ) (body : Stmts) (round : Round) (m : Made) → is_kept p.base routine ≡ true → all_kept p.base es ≡ true → are_slots p.base items ≡ true →
      Here round m (iterate_onto routine es items (all_onto body) round m) →
      (Here (in_turns (turns_at m.labels round.mark) round) (turns_begun routine es items round m) (all_onto body (in_turns (turns_at m.labels round.mark) round) (turns_begun routine es items round m)) →
      AllFine body (in_turns (turns_at m.labels round.mark) round) (turns_begun routine es items round m)) →
      Fine (plain.iterate routine es items body) round m
  fine_iterate routine es items body round m k1 k2 k3 h rest =
      let t = turns_at m.labels round.mark in
      let ml = labelled 2 m in
      let m0 = row_onto (round.work + 1) es ml in
      let m1 = invoke_onto routine es (round.work + 1) ml in
      let m2 = pushed (flat.Jump (m.labels + 1)) m1 in
      let m3 = pushed (flat.Take round.work) m2 in
      let m4 = results_onto 0 items m3 in
      let m5 = all_onto body (in_turns t round) m4 in
      let m6 = pushed (flat.Label t.next) m5 in
      let m7 = pushed (flat.Resume round.work) m6 in
      let m' = pushed (flat.Label t.end) m7 in
      let a0 : Adds m m0 = adds_then m ml m0 (adds_labels 2 m) (adds_row (round.work + 1) es ml) in
      let i1 : Adds m0 m1 = adds_push (flat.Invoke routine _) m0 in
      let a1 : Adds m m1 = adds_then m m0 m1 a0 i1 in
      let b2 : Adds m1 m2 = adds_push (flat.Jump (m.labels + 1)) m1 in
      let b3 : Adds m2 m3 = adds_push (flat.Take round.work) m2 in
      let b4 : Adds m3 m4 = adds_results 0 items m3 in
      let b5 : Adds m4 m5 = adds_list body (in_turns t round) m4 in
      let late : Adds m5 m' = adds_then m5 m6 m' (adds_push (flat.Label t.next) m5) (adds_then m6 m7 m' (adds_push (flat.Resume round.work) m6) (adds_push (flat.Label t.end) m7)) in
      let l3 : Adds m3 m' = adds_then m3 m4 m' b4 (adds_then m4 m5 m' b5 late) in
      let l1 : Adds m1 m' = adds_then m1 m2 m' b2 (adds_then m2 m3 m' b3 l3) in
      let same : length m1.regions ≡ length m.regions = ap (λ (l : List Added). length l) (still_row NoLabel (round.work + 1) es ml).regions in
      let x1 : Here round m m1 = here_sub round m m m1 m' h (adds_same m) a1 l1 in
      let f3 : Front m3.code code = front_more m3.code m'.code code l3.front h.stands.front in
      let take = fits (length m2.code) (flat.Take round.work) (at_push m2.code code (flat.Take round.work) f3) in
      let f0 : Front m0.code code = front_back m0.code code (flat.Invoke routine _) x1.stands.front in
      let x5 = here_sub round m m4 m5 m' h (adds_then m m1 m4 a1 (adds_then m1 m2 m4 b2 (adds_then m2 m3 m4 b3 b4))) b5 late in (
        good routine k1,
        all_good es k2,
        all_below items k3,
        wide_row (first_of_row es) (round.work + 1) es ml (omega (arith, take)) f0,
        omega (arith, take),
        homes round m m1 x1 same,
        rest (record { stands = stands_in code rs round (in_turns t round) m4 m5 refl x5.stands; room = omega (arith, take); own = x5.own; known = x5.known }),
      )
