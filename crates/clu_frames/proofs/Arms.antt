-- The arms of a guard in the code: their slots, and that what a guard adds is put together from its parts.
use Rattle.std.proofs.Common.{◌≡◌, ◌∙◌, ℕ, ◌+◌, ◌<◌, ◌≤◌, arith, false, List, [], ◌∷◌, length, get_or, map, None, Some, refl, subst, sym, ap}
use Rattle.std.specs.Prelude.{IsSome, IsTrue, Option, option_map, slice_get}
use Rattle.std.proofs.lemmas.List.{length-map}
use Rattle.std.proofs.lemmas.Option.{slice_get-map, slice_get_read, slice_get_within}
use Rattle.clu_wir.specs.declared.statement.WStmt.{WStmt, WStmt-F, fold-roll-WStmt, fold_out-WStmt, map-WStmt, out-WStmt, roll-WStmt}
use Rattle.clu_wir.specs.declared.statement.WArm.{WArm, fold_out-WArm}
use Rattle.clu_wir.specs.Formed.{ArmTest, arm_formed_of, counts_of, has_arm, is_count}
use Rattle.clu_frames.specs.declared.surroundings.Guard.{Guard}
use Rattle.clu_frames.specs.Standing.{arms_of as arms_at}
use Rattle.clu_wir.specs.Plain.{Arms, OneArm, Stmt, Stmts, arm_of, arm_step, arms_of, body_of, stmt_of, stmt_step}
use Rattle.clu_wir.specs.Plain as plain
use Rattle.clu_frames.specs.Flattening.{Guarding, Made, Onto, Round, all_onto, arms_onto, guard_at, guard_onto, guarded_onto, is_none, is_only_break, labelled, onto, opened, slots_in, slots_of}

slots_one : (arm : WArm) → (arm_of arm).slots ≡ arm.slots.items
slots_one arm = ap slots_in (fold_out-WArm Stmt OneArm stmt_step arm_step arm)

pub slots_at : (arms : List WArm) (n : ℕ) (arm : WArm) → n < length arms → arm ≡ get_or arms n arm
    → slice_get (map slots_in (map arm_of arms)) n ≡ Some arm.slots.items
slots_at arms n arm inside is =
    slice_get-map slots_in (map arm_of arms) n
    ∙ ap (option_map slots_in) (slice_get-map arm_of arms n)
    ∙ ap (λ (o : Option WArm). option_map slots_in (option_map arm_of o)) (slice_get_read arms (length arms) n arm refl inside is)
    ∙ ap Some (slots_one arm)

pub stmt_roll : (x : WStmt-F WStmt WArm) → stmt_of (roll-WStmt x) ≡ stmt_step (map-WStmt WStmt WArm Stmt OneArm stmt_of arm_of x)
stmt_roll = fold-roll-WStmt Stmt OneArm stmt_step arm_step

pub stmt_out : (s : WStmt) → stmt_of s ≡ stmt_step (map-WStmt WStmt WArm Stmt OneArm stmt_of arm_of (out-WStmt s))
stmt_out = fold_out-WStmt Stmt OneArm stmt_step arm_step

-- the slots of the arms, as the plain tree has them
slots_all : (arms : List OneArm) → slots_of (arms_of arms) ≡ map slots_in arms
slots_all [] = refl
slots_all (arm ∷ arms) = ap (λ (l : List (List ℕ)). arm.slots ∷ l) (slots_all arms)

-- an arm of which the number of slots is known is there
pub arm_there : (arms : List WArm) (arm count : ℕ) → IsTrue (is_count count (slice_get (counts_of arms) arm)) → arm < length arms
arm_there arms arm count has = subst (λ n. arm < n) same (within (slice_get (counts_of arms) arm) refl has)
  where
    same : length (counts_of arms) ≡ length arms
    same = length-map (map arm_formed_of arms) (λ (a : ArmTest). a.slots) ∙ length-map arms arm_formed_of

    within : (o : Option ℕ) → slice_get (counts_of arms) arm ≡ o → IsTrue (is_count count o) → arm < length (counts_of arms)
    within None is has = absurd (cc)
    within (Some slots) is has = slice_get_within (counts_of arms) arm slots is

-- the guard that was found has the arm
pub arm_found : (gs : List Guard) (inside arm count : ℕ) (o : Option Guard) → o ≡ slice_get gs inside
    → IsTrue (has_arm arm count (slice_get (map arms_at gs) inside)) → IsTrue (has_arm arm count (option_map arms_at o))
arm_found gs inside arm count o is has =
    subst (λ (p : Option (List ℕ)). IsTrue (has_arm arm count p)) (slice_get-map arms_at gs inside ∙ ap (option_map arms_at) (sym is)) has

pub guard_there : (arm count : ℕ) (o : Option Guard) → IsTrue (has_arm arm count (option_map arms_at o)) → IsSome o
guard_there arm count None has = has
guard_there arm count (Some guard) has = refl

pub guard_made : (body : Onto) (arms : List WArm) (round : Round) (m m1 m2 m3 : Made) (g : Guarding) (end region : ℕ)
    → g ≡ guard_at (map slots_in (map arm_of arms)) m.labels round.mark → end ≡ m.labels + length arms → region ≡ length m.regions → m1 ≡ opened round.region (labelled 1 (labelled (length arms) m))
    → m2 ≡ guarded_onto body g region end round m1 → m3 ≡ arms_onto (arms_of (map arm_of arms)) g.label end region round m2
    → m3 ≡ guard_onto (slots_of (arms_of (map arm_of arms))) body (arms_onto (arms_of (map arm_of arms))) round m
guard_made body arms round m m1 m2 m3 g end region at last number begun inside after =
    let slots : List (List ℕ) = map slots_in (map arm_of arms) in
    let others : ℕ → ℕ → ℕ → Onto = arms_onto (arms_of (map arm_of arms)) in
    let count : length arms ≡ length slots = sym (length-map (map arm_of arms) slots_in ∙ length-map arms arm_of) in
    let whole : Guarding → ℕ → ℕ → ℕ → Made = λ h e k n. others h.label e k round (guarded_onto body h k e round (opened round.region (labelled 1 (labelled n m)))) in
    after
    ∙ ap (others g.label end region round) (inside ∙ ap (guarded_onto body g region end round) begun)
    ∙ ap (λ (h : Guarding). whole h end region (length arms)) at
    ∙ ap (λ (e : ℕ). whole (guard_at slots m.labels round.mark) e region (length arms)) (last ∙ ap (λ (n : ℕ). m.labels + n) count)
    ∙ ap (λ (k : ℕ). whole (guard_at slots m.labels round.mark) (m.labels + length slots) k (length arms)) number
    ∙ ap (λ (n : ℕ). whole (guard_at slots m.labels round.mark) (m.labels + length slots) (length m.regions) n) count
    ∙ ap (λ (l : List (List ℕ)). guard_onto l body others round m) (sym (slots_all (map arm_of arms)))

pub onto_guard : (body : Stmts) (arms : Arms) (round : Round) (m : Made) → onto (plain.guard body arms) round m ≡ guard_onto (slots_of arms) (all_onto body) (arms_onto arms) round m
unfolding onto
onto_guard body arms round m = refl

pub some_first : (list : List WStmt) → 1 ≤ length list → false ≡ is_none (body_of list)
some_first [] le = absurd (omega (arith, le))
some_first (s ∷ list) le = refl

pub some_second : (list : List WStmt) → 2 ≤ length list → false ≡ is_only_break (body_of list)
some_second [] le = absurd (omega (arith, le))
some_second (s ∷ []) le = absurd (omega (arith, le))
some_second (s ∷ t ∷ list) le = refl
