-- Which regions each statement adds: they nest, inside of the region round the statement, between the places where the
-- statement begins and ends.
use Rattle.std.proofs.Common.{◌≡◌, pos, ℕ, IsTrue, suc, ◌+◌, ◌≤◌, List, [], ◌∷◌, ◌++◌, length, Bool, true, false, Option, Some, None, refl, sym, ◌∙◌, ap, subst, arith, append_assoc, append-nil, length-append}
use Rattle.clu_wir.specs.Plain.{Arms, Expr, Stmt, Stmts, arm_and, body_of, no_arms, no_stmts, stmt_and}
use Rattle.clu_wir.specs.Plain as plain
use Rattle.clu_wir.specs.declared.region.Arm.{Arm}
use Rattle.clu_wir.specs.declared.routine.WRoutine.{WRoutine}
use Rattle.clu_base.specs.declared.constants.ObjConst.{ObjConst}
use Rattle.clu_frames.specs.declared.flat.Flat.{Flat}
use Rattle.clu_frames.specs.Plain.{Step, plain_code, step_of}
use Rattle.clu_frames.specs.Plain as flat
use Rattle.clu_frames.specs.declared.surroundings.Turns.{Turns}
use Rattle.clu_frames.specs.Flattening.{Made, Onto, Round, all_onto, arm_at, arm_begun, arm_onto_one, armed, arms_onto, begun, begun_by, choice_onto, closed, either_onto, end_of, exit_of, guard_at, guard_onto, if_onto, in_guard, in_loop, in_region, in_turns, is_none, iterate_onto, labelled, made_by, name_of, named_onto, onto, opened, other_onto, outermost, pushed, regions_of, resignal_onto, results_onto, routine_onto, row_at, row_onto, slots_of, steps_of, turns_at, turns_onto, unless_from}
use Rattle.clu_wir.specs.Adding.{Added, are_nested, is_placed}
use Rattle.clu_frames.specs.Regions.{AreRegions, begun_at, changed, ended_at, with_arm}
use Rattle.std.proofs.lemmas.List.{length-map}
use Rattle.std.specs.List.{list_all}
use Rattle.clu_frames.proofs.Placing.{Still}
use Rattle.clu_frames.proofs.Pieces.{still_break, still_call, still_continue, still_exit, still_leave, still_primitive, still_raise, still_results, still_row, still_signal, still_taken, still_yield}
use Rattle.clu_frames.proofs.Nesting.{AllPlaced, AllTargets, Fits, Nest, all_placed_tested, changed_at, nest_at, nest_more, nest_none, nest_on, nest_tree, placed_more, placed_on, targets_more, targets_on}

abbrev Any : ℕ → Type 0
Any t = Unit {0}

pub record Nested (parent : Option ℕ) (m m' : Made) : Type 0 where
  pub added : List Added
  pub regions : m'.regions ≡ m.regions ++ added
  pub longer : length m.code ≤ length m'.code
  pub nests : Nest parent (length m.regions) (length m.code) (length m'.code) added
  pub placed : AllPlaced (length m'.code) added

-- What adds no region.

nested_same : (parent : Option ℕ) (m m' : Made) → m'.regions ≡ m.regions → length m.code ≤ length m'.code → Nested parent m m'
nested_same parent m m' same le = record {
  added = [];
  regions = same ∙ sym (append-nil m.regions);
  longer = le;
  nests = nest_none parent (length m.regions) (length m.code) (length m'.code) le;
  placed = tt;
}

nested_step : (parent : Option ℕ) (step : Step) (m : Made) → Nested parent m (pushed step m)
nested_step parent step m = nested_same parent m (pushed step m) refl (omega (arith, length-append m.code (step ∷ [])))

nested_still : {P : ℕ → Type 0} {m m' : Made} (parent : Option ℕ) → Still P m m' → Nested parent m m'
nested_still {P} {m} {m'} parent s =
    let e : length m'.code ≡ length m.code + length s.adds.added = ap (λ (l : List Step). length l) s.adds.code ∙ length-append m.code s.adds.added in
    nested_same parent m m' s.regions (omega (arith, e))

nested_labels : {parent : Option ℕ} {m m' : Made} (count : ℕ) → Nested parent (labelled count m) m' → Nested parent m m'
nested_labels count n = record { added = n.added; regions = n.regions; longer = n.longer; nests = n.nests; placed = n.placed }

-- One after the other.

nested_on : {parent : Option ℕ} {x y z : Made} → Nested parent x y → Nested parent y z → Nested parent x z
nested_on {parent} {x} {y} {z} a b =
    let count : length y.regions ≡ length x.regions + length a.added = ap (λ (l : List Added). length l) a.regions ∙ length-append x.regions a.added in
    record {
      added = a.added ++ b.added;
      regions = b.regions ∙ ap (λ (l : List Added). l ++ b.added) a.regions ∙ append_assoc x.regions a.added b.added;
      longer = omega (arith, a.longer, b.longer);
      nests = nest_on parent (length x.regions) (length x.code) (length y.code) (length z.code) a.added b.added a.longer b.longer a.nests
          (nest_at parent (length y.regions) (length x.regions + length a.added) (length y.code) (length z.code) b.added count b.nests);
      placed = placed_on (length z.code) a.added b.added (placed_more (length y.code) (length z.code) a.added b.longer a.placed) b.placed;
    }

-- Statements by what is inside of them.

abbrev Nests : Onto → Type 0
Nests o = (round : Round) (m : Made) → Nested round.region m (o round m)

-- Choices.

unless_nested : (o : Option ℕ) (e : Expr) (other : Onto) → Nests other → (round : Round) (m : Made) → Nested round.region m (unless_from o e other round m)
unless_nested (Some end) e other ok round m = nested_step round.region (flat.Branch e false end) m
unless_nested None e other ok round m =
    let m1 : Made = pushed (flat.Branch e true m.labels) (labelled 1 m) in
    nested_on (nested_labels 1 (nested_step round.region (flat.Branch e true m.labels) (labelled 1 m)))
    (nested_on (ok round m1) (nested_step round.region (flat.Label m.labels) (other round m1)))

other_nested : (parent : Option ℕ) (b : Bool) (otherwise : ℕ) (m : Made) → Nested parent m (other_onto b otherwise m)
other_nested parent true otherwise m = nested_same parent m m refl (omega arith)
other_nested parent false otherwise m =
    let m1 : Made = pushed (flat.Jump m.labels) (labelled 1 m) in
    nested_on (nested_labels 1 (nested_step parent (flat.Jump m.labels) (labelled 1 m))) (nested_step parent (flat.Label otherwise) m1)

either_nested : (none : Bool) (e : Expr) (first other : Onto) → Nests first → Nests other → (round : Round) (m : Made) → Nested round.region m (either_onto none e first other round m)
either_nested none e first other okf oko round m =
    let m1 : Made = choice_onto e m in
    let m2 : Made = first round m1 in
    let m3 : Made = other_onto none m.labels m2 in
    let m4 : Made = other round m3 in
    nested_on (nested_labels 1 (nested_step round.region (flat.Branch e false m.labels) (labelled 1 m)))
    (nested_on (okf round m1)
    (nested_on (other_nested round.region none m.labels m2)
    (nested_on (oko round m3) (nested_step round.region (flat.Label (end_of none m.labels m2)) m4))))

if_nested : (b : Bool) (rest : Stmts) (e : Expr) (first other : Onto) → Nests first → Nests other → (round : Round) (m : Made) → Nested round.region m (if_onto b rest e first other round m)
if_nested true rest e first other okf oko round m = unless_nested (exit_of rest round.turns) e other oko round m
if_nested false rest e first other okf oko round m = either_nested (is_none rest) e first other okf oko round m

-- Loops.

turns_nested : (body : Onto) → Nests body → (round : Round) (m : Made) → Nested round.region m (turns_onto body round m)
turns_nested body ok round m =
    let m1 : Made = pushed (flat.Label m.labels) (labelled 2 m) in
    let m2 : Made = body (in_loop m.labels round) m1 in
    nested_on (nested_labels 2 (nested_step round.region (flat.Label m.labels) (labelled 2 m)))
    (nested_on (ok (in_loop m.labels round) m1)
    (nested_on (nested_step round.region (flat.Jump m.labels) m2) (nested_step round.region (flat.Label (m.labels + 1)) (pushed (flat.Jump m.labels) m2))))

iterate_nested : (routine : Expr) (arguments : List Expr) (items : List ℕ) (body : Onto) → Nests body → (round : Round) (m : Made) → Nested round.region m (iterate_onto routine arguments items body round m)
iterate_nested routine arguments items body ok round m =
    let e : Turns = turns_at m.labels round.mark in
    let parent : Option ℕ = round.region in
    let row : Made = row_onto (round.work + 1) arguments (labelled 2 m) in
    let m1 : Made = pushed (flat.Invoke routine (row_at (round.work + 1) arguments)) row in
    let m2 : Made = pushed (flat.Jump (m.labels + 1)) m1 in
    let m3 : Made = pushed (flat.Take round.work) m2 in
    let m4 : Made = results_onto 0 items m3 in
    let m5 : Made = body (in_turns e round) m4 in
    let m6 : Made = pushed (flat.Label m.labels) m5 in
    nested_on (nested_labels 2 (nested_still {P = Any} parent (still_row Any (round.work + 1) arguments (labelled 2 m))))
    (nested_on (nested_step parent (flat.Invoke routine (row_at (round.work + 1) arguments)) row)
    (nested_on (nested_step parent (flat.Jump (m.labels + 1)) m1)
    (nested_on (nested_step parent (flat.Take round.work) m2)
    (nested_on (nested_still {P = Any} parent (still_results Any 0 items m3))
    (nested_on (ok (in_turns e round) m4)
    (nested_on (nested_step parent (flat.Label m.labels) m5)
    (nested_on (nested_step parent (flat.Resume round.work) m6) (nested_step parent (flat.Label (m.labels + 1)) (pushed (flat.Resume round.work) m6)))))))))

-- The arms of a region.

-- the region of this number has more arms
record Named (before : List Added) (r : Added) (behind : List Added) (m m' : Made) : Type 0 where
  region : Added
  first : region.first ≡ r.first
  last : region.last ≡ r.last
  parent : region.parent ≡ r.parent
  regions : m'.regions ≡ before ++ region ∷ behind
  longer : length m.code ≤ length m'.code
  targets : AllTargets (suc (length m'.code)) region.arms

armed_regions : (before : List Added) (r : Added) (behind : List Added) (region mark : ℕ) (name : List ℕ) (m : Made) → length before ≡ region → m.regions ≡ before ++ r ∷ behind
    → (armed region mark name m).regions ≡ before ++ with_arm (arm_at name (length m.code) mark) r ∷ behind
armed_regions before r behind region mark name m at e =
    ap (λ (rs : List Added). changed (with_arm (arm_at name (length m.code) mark)) region rs) e
    ∙ subst (λ (n : ℕ). changed (with_arm (arm_at name (length m.code) mark)) n (before ++ r ∷ behind) ≡ before ++ with_arm (arm_at name (length m.code) mark) r ∷ behind) at
    (changed_at (with_arm (arm_at name (length m.code) mark)) before behind r)

armed_targets : (r : Added) (name : List ℕ) (mark : ℕ) (m : Made) → AllTargets (suc (length m.code)) r.arms
    → AllTargets (suc (length m.code)) (with_arm (arm_at name (length m.code) mark) r).arms
armed_targets r name mark m targets = targets_on (suc (length m.code)) r.arms (arm_at name (length m.code) mark ∷ []) targets (omega arith, tt)

named : (names : List (List ℕ)) (before : List Added) (r : Added) (behind : List Added) (region mark : ℕ) (m : Made) → length before ≡ region → m.regions ≡ before ++ r ∷ behind
    → AllTargets (suc (length m.code)) r.arms → Named before r behind m (named_onto region mark names m)
named [] before r behind region mark m at e targets =
    record { region = r; first = refl; last = refl; parent = refl; regions = e; longer = omega arith; targets = targets }
named (name ∷ names) before r behind region mark m at e targets =
    let next : Added = with_arm (arm_at name (length m.code) mark) r in
    let rest : Named before next behind (armed region mark name m) (named_onto region mark (name ∷ names) m) =
    named names before next behind region mark (armed region mark name m) at (armed_regions before r behind region mark name m at e) (armed_targets r name mark m targets) in
    record { region = rest.region; first = rest.first; last = rest.last; parent = rest.parent; regions = rest.regions; longer = rest.longer; targets = rest.targets }

-- the same and more code
named_still : {P : ℕ → Type 0} {m m' m'' : Made} (before : List Added) (r : Added) (behind : List Added) → Named before r behind m m' → Still P m' m'' → Named before r behind m m''
named_still {P} {m} {m'} {m''} before r behind n s =
    let e : length m''.code ≡ length m'.code + length s.adds.added = ap (λ (l : List Step). length l) s.adds.code ∙ length-append m'.code s.adds.added in
    record {
      region = n.region;
      first = n.first;
      last = n.last;
      parent = n.parent;
      regions = s.regions ∙ n.regions;
      longer = omega (arith, n.longer, e);
      targets = targets_more (suc (length m'.code)) (suc (length m''.code)) n.region.arms (omega (arith, e)) n.targets;
    }

named_others : {m m' : Made} (before : List Added) (r : Added) (behind : List Added) (region mark : ℕ) → length before ≡ region → Named before r behind m m' → Named before r behind m (armed region mark [] m')
named_others {m} {m'} before r behind region mark at n = record {
  region = with_arm (arm_at [] (length m'.code) mark) n.region;
  first = n.first;
  last = n.last;
  parent = n.parent;
  regions = armed_regions before n.region behind region mark [] m' at n.regions;
  longer = n.longer;
  targets = armed_targets n.region [] mark m' n.targets;
}

begun_nested : {m m' : Made} (others : Bool) (slots : List ℕ) (before : List Added) (r : Added) (behind : List Added) (region mark : ℕ) → length before ≡ region
    → Named before r behind m m' → Named before r behind m (begun_by others slots region mark m')
begun_nested {m} {m'} true slots before r behind region mark at n =
    named_still {P = Any} before r behind (named_others before r behind region mark at n) (still_taken Any slots (armed region mark [] m'))
begun_nested {m} {m'} false slots before r behind region mark at n = named_still {P = Any} before r behind n (still_results Any 0 slots m')

-- the arms, and what their lists add behind the region
record Arming (parent : Option ℕ) (before : List Added) (r : Added) (behind : List Added) (m m' : Made) : Type 0 where
  region : Added
  first : region.first ≡ r.first
  last : region.last ≡ r.last
  same : region.parent ≡ r.parent
  targets : AllTargets (length m'.code) region.arms
  added : List Added
  regions : m'.regions ≡ before ++ region ∷ (behind ++ added)
  longer : length m.code ≤ length m'.code
  nests : Nest parent (length m.regions) (length m.code) (length m'.code) added
  placed : AllPlaced (length m'.code) added

length_at : (before : List Added) (r r' : Added) (behind : List Added) → length (before ++ r ∷ behind) ≡ length (before ++ r' ∷ behind)
length_at before r r' behind = length-append before (r ∷ behind) ∙ sym (length-append before (r' ∷ behind))

abbrev ArmsNest : (ℕ → ℕ → ℕ → Onto) → Type 0
ArmsNest arms = (label end region : ℕ) (before : List Added) (r : Added) (behind : List Added) (round : Round) (m : Made)
    → length before ≡ region → m.regions ≡ before ++ r ∷ behind → AllTargets (length m.code) r.arms → Arming round.region before r behind m (arms label end region round m)

abbrev no_arms_onto : ℕ → ℕ → ℕ → Onto
no_arms_onto label end region round m = pushed (flat.Label end) m

no_arms_nested : ArmsNest no_arms_onto
no_arms_nested label end region before r behind round m at e targets =
    let n : Nested round.region m (pushed (flat.Label end) m) = nested_step round.region (flat.Label end) m in
    record {
      region = r;
      first = refl;
      last = refl;
      same = refl;
      targets = targets_more (length m.code) (length (pushed (flat.Label end) m).code) r.arms n.longer targets;
      added = [];
      regions = e ∙ ap (λ (l : List Added). before ++ r ∷ l) (sym (append-nil behind));
      longer = n.longer;
      nests = nest_none round.region (length m.regions) (length m.code) (length (pushed (flat.Label end) m).code) n.longer;
      placed = tt;
    }

abbrev more_arms_onto : List (List ℕ) → Bool → List ℕ → Onto → (ℕ → ℕ → ℕ → Onto) → ℕ → ℕ → ℕ → Onto
more_arms_onto names others slots body arms label end region round m =
    arms (label + 1) end region round (arm_onto_one names others slots body label end region round m)

more_arms_nested : (names : List (List ℕ)) (others : Bool) (slots : List ℕ) (body : Onto) (arms : ℕ → ℕ → ℕ → Onto) → Nests body → ArmsNest arms
    → ArmsNest (more_arms_onto names others slots body arms)
more_arms_nested names others slots body arms okb oka label end region before r behind round m at e targets =
    let m1 : Made = arm_begun names others slots region round.mark m in
    let m2 : Made = pushed (flat.Label label) m1 in
    let m3 : Made = body round m2 in
    let m4 : Made = pushed (flat.Jump end) m3 in
    let m5 : Made = arms (label + 1) end region round m4 in
    let s : Named before r behind m m1 =
    begun_nested others slots before r behind region round.mark at (named names before r behind region round.mark m at e (targets_more (length m.code) (suc (length m.code)) r.arms (omega arith) targets)) in
    let two : length m2.code ≡ suc (length m1.code) = length-append m1.code (flat.Label label ∷ []) ∙ omega arith in
    let four : length m4.code ≡ suc (length m3.code) = length-append m3.code (flat.Jump end ∷ []) ∙ omega arith in
    let b : Nested round.region m2 m3 = okb round m2 in
    let here : m4.regions ≡ before ++ s.region ∷ (behind ++ b.added) =
    b.regions ∙ ap (λ (l : List Added). l ++ b.added) s.regions ∙ append_assoc before (s.region ∷ behind) b.added in
    let t : AllTargets (length m4.code) s.region.arms = targets_more (suc (length m1.code)) (length m4.code) s.region.arms (omega (arith, two, four, b.longer)) s.targets in
    let rest : Arming round.region before s.region (behind ++ b.added) m4 m5 = oka (label + 1) end region before s.region (behind ++ b.added) round m4 at here t in
    let one : length m2.regions ≡ length m.regions =
    ap (λ (l : List Added). length l) s.regions ∙ length_at before s.region r behind ∙ ap (λ (l : List Added). length l) (sym e) in
    let more : length m4.regions ≡ length m.regions + length b.added =
    ap (λ (l : List Added). length l) b.regions ∙ length-append m2.regions b.added ∙ ap (λ (n : ℕ). n + length b.added) one in
    record {
      region = rest.region;
      first = rest.first ∙ s.first;
      last = rest.last ∙ s.last;
      same = rest.same ∙ s.parent;
      targets = rest.targets;
      added = b.added ++ rest.added;
      regions = rest.regions ∙ ap (λ (l : List Added). before ++ rest.region ∷ l) (append_assoc behind b.added rest.added);
      longer = omega (arith, s.longer, two, b.longer, four, rest.longer);
      nests = nest_on round.region (length m.regions) (length m.code) (length m3.code) (length m5.code) b.added rest.added
          (omega (arith, s.longer, two, b.longer)) (omega (arith, four, rest.longer))
          (nest_at round.region (length m2.regions) (length m.regions) (length m.code) (length m3.code) b.added one
          (nest_more round.region (length m2.regions) (length m2.code) (length m3.code) (length m.code) (length m3.code) b.added (omega (arith, s.longer, two)) (omega arith) b.nests))
          (nest_at round.region (length m4.regions) (length m.regions + length b.added) (length m3.code) (length m5.code) rest.added more
          (nest_more round.region (length m4.regions) (length m4.code) (length m5.code) (length m3.code) (length m5.code) rest.added (omega (arith, four)) (omega arith) rest.nests));
      placed = placed_on (length m5.code) b.added rest.added (placed_more (length m3.code) (length m5.code) b.added (omega (arith, four, rest.longer)) b.placed) rest.placed;
    }

-- A region round a list, from where it begins to its last step.

record Closed (parent : Option ℕ) (m m2 m3 : Made) : Type 0 where
  region : Added
  first : region.first ≡ length m.code
  last : region.last ≡ length m2.code
  same : region.parent ≡ parent
  unarmed : region.arms ≡ []
  inside : List Added
  regions : m3.regions ≡ m.regions ++ region ∷ inside
  longer : length m.code ≤ length m2.code
  code : length m3.code ≡ suc (length m2.code)
  nests : Nest (Some (length m.regions)) (suc (length m.regions)) (length m.code) (length m2.code) inside
  placed : AllPlaced (length m2.code) inside

region_closed : (parent : Option ℕ) (end : ℕ) (m m2 : Made) → Nested (Some (length m.regions)) (opened parent m) m2 → Closed parent m m2 (closed (length m.regions) end m2)
region_closed parent end m m2 n =
    let r : Added = begun_at (length m.code) parent in
    let count : length (opened parent m).regions ≡ suc (length m.regions) = length-append m.regions (r ∷ []) ∙ omega arith in
    record {
      region = ended_at (length m2.code) r;
      first = refl;
      last = refl;
      same = refl;
      unarmed = refl;
      inside = n.added;
      regions = ap (λ (rs : List Added). changed (ended_at (length m2.code)) (length m.regions) rs) (n.regions ∙ append_assoc m.regions (r ∷ []) n.added)
          ∙ changed_at (ended_at (length m2.code)) m.regions n.added r;
      longer = n.longer;
      code = length-append m2.code (flat.Jump end ∷ []) ∙ omega arith;
      nests = nest_at (Some (length m.regions)) (length (opened parent m).regions) (suc (length m.regions)) (length m.code) (length m2.code) n.added count n.nests;
      placed = n.placed;
    }

no_targets : (count : ℕ) (arms : List Arm) → arms ≡ [] → AllTargets count arms
no_targets count arms e = subst (AllTargets count) (sym e) tt

guard_nested : (slots : List (List ℕ)) (body : Onto) (arms : ℕ → ℕ → ℕ → Onto) → Nests body → ArmsNest arms → (round : Round) (m : Made) → Nested round.region m (guard_onto slots body arms round m)
guard_nested slots body arms okb oka round m =
    let region : ℕ = length m.regions in
    let end : ℕ = m.labels + length slots in
    let inside : Round = in_guard (guard_at slots m.labels round.mark) region round in
    let m0 : Made = labelled 1 (labelled (length slots) m) in
    let m2 : Made = body inside (opened round.region m0) in
    let m3 : Made = closed region end m2 in
    let m4 : Made = arms m.labels end region round m3 in
    let c : Closed round.region m0 m2 m3 = region_closed round.region end m0 m2 (okb inside (opened round.region m0)) in
    let a : Arming round.region m.regions c.region c.inside m3 m4 =
    oka m.labels end region m.regions c.region c.inside round m3 refl c.regions (no_targets (length m3.code) c.region.arms c.unarmed) in
    let within : List Added = a.region ∷ c.inside in
    let own : Nest round.region region (length m.code) (suc (length m2.code)) within =
    nest_tree round.region region (length m.code) (length m2.code) a.region c.inside (a.first ∙ c.first) (a.last ∙ c.last) (a.same ∙ c.same) c.longer c.nests in
    let count : length m3.regions ≡ region + length within = ap (λ (l : List Added). length l) c.regions ∙ length-append m.regions (c.region ∷ c.inside) in
    let le : suc (length m2.code) ≤ length m4.code = omega (arith, c.code, a.longer) in
    record {
      added = within ++ a.added;
      regions = a.regions;
      longer = omega (arith, c.longer, c.code, a.longer);
      nests = nest_on round.region region (length m.code) (suc (length m2.code)) (length m4.code) within a.added (omega (arith, c.longer)) le own
          (nest_at round.region (length m3.regions) (region + length within) (suc (length m2.code)) (length m4.code) a.added count
          (nest_more round.region (length m3.regions) (length m3.code) (length m4.code) (suc (length m2.code)) (length m4.code) a.added (omega (arith, c.code)) (omega arith) a.nests));
      placed = placed_on (length m4.code) within a.added (
        record { first = omega (arith, a.first, c.first, c.longer, le); last = omega (arith, a.last, c.last, le); targets = a.targets },
        placed_more (length m2.code) (length m4.code) c.inside (omega (arith, le)) c.placed,
      )
          a.placed;
    }

resignal_nested : (body : Onto) (names : List (List ℕ)) → Nests body → (round : Round) (m : Made) → Nested round.region m (resignal_onto body names round m)
resignal_nested body names ok round m =
    let region : ℕ = length m.regions in
    let inside : Round = in_region region round in
    let m0 : Made = labelled 1 m in
    let m2 : Made = body inside (opened round.region m0) in
    let m3 : Made = closed region m.labels m2 in
    let m4 : Made = named_onto region round.mark names m3 in
    let m5 : Made = pushed flat.Pass m4 in
    let m6 : Made = pushed (flat.Label m.labels) m5 in
    let c : Closed round.region m0 m2 m3 = region_closed round.region m.labels m0 m2 (ok inside (opened round.region m0)) in
    let n : Named m.regions c.region c.inside m3 m4 =
    named names m.regions c.region c.inside region round.mark m3 refl c.regions (no_targets (suc (length m3.code)) c.region.arms c.unarmed) in
    let five : length m5.code ≡ suc (length m4.code) = length-append m4.code (flat.Pass ∷ []) ∙ omega arith in
    let six : length m6.code ≡ suc (length m5.code) = length-append m5.code (flat.Label m.labels ∷ []) ∙ omega arith in
    let le : suc (length m2.code) ≤ length m6.code = omega (arith, c.code, n.longer, five, six) in
    record {
      added = n.region ∷ c.inside;
      regions = n.regions;
      longer = omega (arith, c.longer, le);
      nests = nest_more round.region region (length m.code) (suc (length m2.code)) (length m.code) (length m6.code) (n.region ∷ c.inside) (omega arith) le
          (nest_tree round.region region (length m.code) (length m2.code) n.region c.inside (n.first ∙ c.first) (n.last ∙ c.last) (n.parent ∙ c.same) c.longer c.nests);
      placed = (
        record {
          first = omega (arith, n.first, c.first, c.longer, le);
          last = omega (arith, n.last, c.last, le);
          targets = targets_more (suc (length m4.code)) (length m6.code) n.region.arms (omega (arith, five, six)) n.targets;
        },
        placed_more (length m2.code) (length m6.code) c.inside (omega (arith, le)) c.placed,
      );
    }

-- Statements.

mutual
  unfolding onto all_onto arms_onto

  statement_nests : (s : Stmt) → Nests (onto s)
  statement_nests (plain.set to e) round m = nested_step round.region (flat.Set to e) m
  statement_nests (plain.put address bytes e) round m = nested_step round.region (flat.Put address (pos bytes) e) m
  statement_nests (plain.call routine es results) round m = nested_still {P = Any} round.region (still_call Any routine es results round.work m)
  statement_nests (plain.prim number es results) round m = nested_still {P = Any} round.region (still_primitive Any number es results round.work m)
  statement_nests (plain.bind number e to) round m = nested_step round.region (flat.Bind number e to) m
  statement_nests (plain.choose e first other) round m = if_nested (is_none first) other e (all_onto first) (all_onto other) (all_nested first) (all_nested other) round m
  statement_nests (plain.loop body) round m = turns_nested (all_onto body) (all_nested body) round m
  statement_nests plain.break_loop round m = nested_still {P = Any} round.region (still_break Any round.turns m (λ t h. tt))
  statement_nests plain.next_turn round m = nested_still {P = Any} round.region (still_continue Any round.turns m (λ t h. tt))
  statement_nests (plain.iterate routine es items body) round m = iterate_nested routine es items (all_onto body) (all_nested body) round m
  statement_nests (plain.yield_words es) round m = nested_still {P = Any} round.region (still_yield Any es round.work m)
  statement_nests (plain.raise_name name es) round m = nested_still {P = Any} round.region (still_raise Any (name_of round.constants name) es round.work m)
  statement_nests (plain.signal_name name es) round m = nested_still {P = Any} round.region (still_signal Any (name_of round.constants name) es round.work m)
  statement_nests (plain.exit_to inside arm es) round m = nested_still {P = Any} round.region (still_exit Any inside arm es round m (λ t h. tt))
  statement_nests (plain.guard body arms) round m = guard_nested (slots_of arms) (all_onto body) (arms_onto arms) (all_nested body) (arms_nest arms) round m
  statement_nests (plain.resignal body names) round m = resignal_nested (all_onto body) names (all_nested body) round m
  statement_nests (plain.leave_with es) round m = nested_still {P = Any} round.region (still_leave Any es round.work m)

  all_nested : (ss : Stmts) → Nests (all_onto ss)
  all_nested no_stmts round m = nested_same round.region m m refl (omega arith)
  all_nested (stmt_and s rest) round m = nested_on (statement_nests s round m) (all_nested rest round (onto s round m))

  arms_nest : (arms : Arms) → ArmsNest (arms_onto arms)
  arms_nest no_arms = no_arms_nested
  arms_nest (arm_and names others slots body more) = more_arms_nested names others slots (all_onto body) (arms_onto more) (all_nested body) (arms_nest more)

-- A routine.

routine_nests : (constants : List ObjConst) (args slots : ℕ) (body : Stmts) → AreRegions (routine_onto constants body args slots).code (routine_onto constants body args slots).regions
routine_nests constants args slots body =
    let whole : Made = routine_onto constants body args slots in
    let inner : Made = all_onto body (outermost constants slots) (begun args) in
    let n : Nested None (begun args) inner = all_nested body (outermost constants slots) (begun args) in
    let code : length whole.code ≡ suc (length inner.code) = length-append inner.code (flat.Leave slots 0 ∷ []) ∙ omega arith in
    let fits : Fits [] None (length inner.code) n.added = n.nests [] refl (record { holds = tt; ended = tt }) in
    record {
      nested = ap are_nested n.regions ∙ fits.nested;
      placed = ap (list_all (is_placed (length whole.code))) n.regions
          ∙ all_placed_tested (length whole.code) n.added (placed_more (length inner.code) (length whole.code) n.added (omega (arith, code)) n.placed);
    }

pub regions_nest : (r : WRoutine) (m : Made) → m ≡ made_by r → AreRegions m.code m.regions
regions_nest r m e =
    subst (λ (x : Made). AreRegions x.code x.regions) (sym e) (routine_nests r.constants.items r.args r.slots (body_of r.body.items))

-- the same of a code with these steps
pub regions_handed : (r : WRoutine) (code : List Flat) (regions : List Added) → plain_code code ≡ steps_of r → regions ≡ regions_of r → AreRegions code regions
regions_handed r code regions steps e =
    let plain_ones : AreRegions (plain_code code) regions =
    subst (λ (l : List Step). AreRegions l regions) (sym steps)
    (subst (λ (l : List Added). AreRegions (steps_of r) l) (sym e)
    (routine_nests r.constants.items r.args r.slots (body_of r.body.items))) in
    record {
      nested = plain_ones.nested;
      placed = subst (λ (n : ℕ). IsTrue (list_all (is_placed n) regions)) (length-map code step_of) plain_ones.placed;
    }
