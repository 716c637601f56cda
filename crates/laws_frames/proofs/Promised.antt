-- What flattening promises of a routine's code and regions is all that its statements ask of the places where they stand.
use Rattle.std.proofs.Common.{◌≡◌, ◌∙◌, ℕ, pos, ◌+◌, ◌<◌, Bool, true, List, length, Option, Some, refl, ap, sym, arith, true≢false}
use Rattle.std.specs.Prelude.{◌&&◌, nat_lt}
use Rattle.std.proofs.lemmas.Bool.{and_parts}
use Rattle.clu_base.specs.declared.constants.ObjConst.{ObjConst}
use Rattle.clu_wir.specs.Adding.{Added}
use Rattle.clu_wir.specs.Formed.{in_a_guard, place_of}
use Rattle.clu_wir.specs.Kept.{all_keep, all_kept, are_slots, arms_keep, is_arm, is_kept, keeps}
use Rattle.clu_wir.specs.Plain.{Arms, Expr, Stmt, Stmts, arm_and, no_arms, no_stmts, stmt_and}
use Rattle.clu_wir.specs.Plain as plain
use Rattle.clu_wir.specs.declared.hole.HoleKind.TheVariants as kind
use Rattle.clu_frames.specs.Plain.{Step}
use Rattle.clu_frames.specs.Plain as flat
use Rattle.clu_frames.specs.Flattening.{Made, Round, all_onto, arm_begun, arms_onto, choice_onto, exit_of, guard_at, in_guard, in_loop, in_region, in_turns, is_none, labelled, onto, opened, other_onto, pushed, slots_of, turns_at, turns_begun}
use Rattle.clu_word_meaning.specs.Words.{Body, Entry}
use Rattle.clu_flat_meaning.proofs.Runs.{Once}
use Rattle.laws_frames.specs.Formed.{AllNames, ArmNames, Names, all_form, arms_form, counts_in, forms}
use Rattle.laws_frames.specs.Tables.{table_of}
use Rattle.laws_frames.proofs.Relation.{Laws, Place, regions}
use Rattle.laws_frames.proofs.Entering.{BodyOk, EntryOk}
use Rattle.laws_frames.proofs.Yielding.{context_of}
use Rattle.laws_frames.proofs.Fronts.{count_of}
use Rattle.laws_frames.proofs.Guarding.{arm_done}
use Rattle.laws_frames.proofs.Seeking.{seek_in}
use Rattle.laws_frames.proofs.Arming.{own_names}
use Rattle.laws_frames.proofs.Standing.{Part, part_arm, part_arms, part_list, part_onto, part_push, part_then, stands_part, stands_second}
use Rattle.laws_frames.proofs.Widths.{AllFit, is_lt}
use Rattle.laws_frames.proofs.Lawful.{Known, Telling}
use Rattle.laws_frames.proofs.Deriving.{Adds, adds_list, adds_same, same_counts, standing, turns_there}
use Rattle.laws_frames.proofs.Each.{guard_body}
use Rattle.laws_frames.proofs.Whole.{Ok, OkAll, OkArms}
use Rattle.laws_frames.proofs.Fitting.{Here, all_below, choose_both, choose_none, fine_call, fine_exit, fine_iterate, fine_leave, fine_prim, fine_raise, fine_signal, fine_yield, here_loop, here_sub, home_step}
use Rattle.laws_frames.proofs.Taking.{arm_slots, guard_there, here_arms, here_list, here_passed, pass_law, seek_law}

module _ (p : Place) (Good : Expr → Type 0) (laws : Laws p Good) (once : Once p.shape.code) (entries : ℕ → Entry) (entry_ok : (w : ℕ) → EntryOk p.image w (entries w)) (yielded : Body) (yielded_ok : BodyOk p.image (context_of p) yielded)
    (good : (e : Expr) → is_kept p.base e ≡ true → Good e) (fits : AllFit p.shape.frame p.shape.code)
    (rs : List Added) (table : regions p ≡ table_of p.linked.name_word rs) (seeks : (region : Option ℕ) (v : ℕ) → p.seek region v ≡ seek_in p.linked.name_word rs region v)
    (telling : Telling p.image.name_of p.linked.name_word)
    (constants : List ObjConst) (holes : (name : List ℕ) (place : ℕ) → Known p.image.name_of p.linked.name_word name → place_of constants name ≡ Some place → p.image.hole p.me.table kind.Constant place ≡ Some (p.linked.name_word name)) where
  abbrev code : List Step
  code = p.shape.code

  abbrev word : List ℕ → ℕ
  word = p.linked.name_word

  abbrev Knows : List ℕ → Type 0
  Knows = Known p.image.name_of word

  abbrev At : Round → Made → Made → Type 0
  At = Here p Good laws once entries entry_ok yielded yielded_ok good fits rs table seeks telling constants holes

  abbrev Fine : Stmt → Round → Made → Type 0
  Fine = Ok p Good laws once entries entry_ok yielded yielded_ok

  abbrev AllFine : Stmts → Round → Made → Type 0
  AllFine = OkAll p Good laws once entries entry_ok yielded yielded_ok

  abbrev ArmsFine : Arms → ℕ → ℕ → ℕ → Round → Made → Type 0
  ArmsFine = OkArms p Good laws once entries entry_ok yielded yielded_ok

  -- The induction.

  -- an arm, and those after it
  module _ (names : List (List ℕ)) (others : Bool) (slots : List ℕ) (body : Stmts) (rest : Arms) (label last region : ℕ) (round : Round) (m : Made) (there : region < length m.regions) (h : At round m (arms_onto rest (label + 1) last region round (arm_done names others slots body label last region round m))) where
    abbrev a1 : Made
    a1 = arm_begun names others slots region round.mark m

    abbrev a2 : Made
    a2 = pushed (flat.Label label) a1

    abbrev a3 : Made
    a3 = all_onto body round a2

    abbrev a4 : Made
    a4 = arm_done names others slots body label last region round m

    abbrev a5 : Made
    a5 = arms_onto rest (label + 1) last region round a4

    begins : Part (length m.regions) m a2
    begins = part_then m a1 a2 (omega arith) (part_arm names others slots region round.mark m there there) (part_push (flat.Label label) a1)

    lists : Part (length m.regions) a2 a3
    lists = part_list body round a2

    jumps : Part (length m.regions) a3 a4
    jumps = part_push (flat.Jump last) a3

    pub there_after : region < length a4.regions
    there_after = omega (arith, there, begins.count, lists.count, jumps.count)

    others_after : Part (length m.regions) a4 a5
    others_after = part_arms rest (label + 1) last region round a4 there there_after

    late_all : Part (length m.regions) a3 a5
    late_all = part_then a3 a4 a5 (omega (arith, begins.count, lists.count)) jumps others_after

    pub here_arm : At round a2 a3
    here_arm = record { stands = stands_part code rs round m a2 a3 a5 h.stands begins lists late_all; room = h.room; own = h.own; known = h.known }

    pub here_rest : At round a4 a5
    here_rest = record { stands = stands_second code rs round m a4 a5 h.stands (part_then m a2 a4 (omega arith) begins (part_then a2 a3 a4 begins.count lists jumps)) others_after; room = h.room; own = h.own; known = h.known }

  mutual
    unfolding keeps all_keep arms_keep onto all_onto arms_onto

    pub fine : (s : Stmt) (round : Round) (m : Made) → keeps p.base s ≡ true → forms (standing round) s ≡ true → Names Knows s → At round m (onto s round m) → Fine s round m
    fine (plain.set to e) round m k f known h =
        let a = and_parts (nat_lt to p.base) (is_kept p.base e) k in (is_lt to p.base a.0, good e a.1, home_step p Good laws once entries entry_ok yielded yielded_ok good fits rs table seeks telling constants holes round m (flat.Set to e) h)
    fine (plain.put address bytes e) round m k f known h =
        let a = and_parts (is_kept p.base address) (is_kept p.base e) k in (good address a.0, good e a.1, home_step p Good laws once entries entry_ok yielded yielded_ok good fits rs table seeks telling constants holes round m (flat.Put address (pos bytes) e) h)
    fine (plain.call routine es results) round m k f known h = fine_call p Good laws once entries entry_ok yielded yielded_ok good fits rs table seeks telling constants holes routine es results round m k h
    fine (plain.prim number es results) round m k f known h = fine_prim p Good laws once entries entry_ok yielded yielded_ok good fits rs table seeks telling constants holes number es results round m k h
    fine (plain.bind number e to) round m k f known h =
        let a = and_parts (is_kept p.base number) (is_kept p.base e && nat_lt to p.base) k in
        let b = and_parts (is_kept p.base e) (nat_lt to p.base) a.1 in
        (good number a.0, good e b.0, is_lt to p.base b.1, home_step p Good laws once entries entry_ok yielded yielded_ok good fits rs table seeks telling constants holes round m (flat.Bind number e to) h)
    fine (plain.choose e no_stmts other) round m k f known h =
        let a = and_parts (is_kept p.base e) (all_keep p.base no_stmts && all_keep p.base other) k in
        let c = choose_none p Good laws once entries entry_ok yielded yielded_ok good fits rs table seeks telling constants holes (exit_of other round.turns) other e round m refl h
        (λ x. all_fine other round (pushed (flat.Branch e true m.labels) (labelled 1 m)) (and_parts (all_keep p.base no_stmts) (all_keep p.base other) a.1).1
        (and_parts (all_form (standing round) no_stmts) (all_form (standing round) other) f).1 known.1 x) in
        (good e a.0, c.0, (λ t. c.1), (λ t. absurd (true≢false t)))
    fine (plain.choose e (stmt_and x more) other) round m k f known h =
        let a = and_parts (is_kept p.base e) (all_keep p.base (stmt_and x more) && all_keep p.base other) k in
        let b = and_parts (all_keep p.base (stmt_and x more)) (all_keep p.base other) a.1 in
        let g = and_parts (all_form (standing round) (stmt_and x more)) (all_form (standing round) other) f in
        let c = choose_both p Good laws once entries entry_ok yielded yielded_ok good fits rs table seeks telling constants holes (stmt_and x more) other e round m h (λ y. all_fine (stmt_and x more) round (choice_onto e m) b.0 g.0 known.0 y)
        (λ y. all_fine other round (other_onto (is_none other) m.labels (all_onto (stmt_and x more) round (choice_onto e m))) b.1 g.1 known.1 y) in
        (good e a.0, c.0, (λ t. absurd (true≢false (sym t))), (λ t. (c.1, c.2)))
    fine (plain.loop body) round m k f known h = all_fine body (in_loop m.labels round) (pushed (flat.Label m.labels) (labelled 2 m)) k f known (here_loop p Good laws once entries entry_ok yielded yielded_ok good fits rs table seeks telling constants holes body round m h)
    fine plain.break_loop round m k f known h = turns_there round.turns f
    fine plain.next_turn round m k f known h = turns_there round.turns f
    fine (plain.iterate routine es items body) round m k f known h =
        let a = and_parts (is_kept p.base routine) (all_kept p.base es && (are_slots p.base items && all_keep p.base body)) k in
        let b = and_parts (all_kept p.base es) (are_slots p.base items && all_keep p.base body) a.1 in
        let c = and_parts (are_slots p.base items) (all_keep p.base body) b.1 in
        fine_iterate p Good laws once entries entry_ok yielded yielded_ok good fits rs table seeks telling constants holes routine es items body round m a.0 b.0 c.0 h (λ x. all_fine body (in_turns (turns_at m.labels round.mark) round) (turns_begun routine es items round m) c.1 f known x)
    fine (plain.yield_words es) round m k f known h = fine_yield p Good laws once entries entry_ok yielded yielded_ok good fits rs table seeks telling constants holes es round m k h
    fine (plain.raise_name name es) round m k f known h = fine_raise p Good laws once entries entry_ok yielded yielded_ok good fits rs table seeks telling constants holes name es round m k f known h
    fine (plain.signal_name name es) round m k f known h = fine_signal p Good laws once entries entry_ok yielded yielded_ok good fits rs table seeks telling constants holes name es round m k f known h
    fine (plain.exit_to inside arm es) round m k f known h = fine_exit p Good laws once entries entry_ok yielded yielded_ok good fits rs table seeks telling constants holes inside arm es round m k f h
    fine (plain.guard body arms) round m k f known h =
        let a = and_parts (all_keep p.base body) (arms_keep p.base arms) k in
        let g = and_parts (all_form (in_a_guard (counts_in arms) (standing round)) body) (arms_form (standing round) arms) f in
        let names = own_names Knows arms known.1 in
        let within = in_guard (guard_at (slots_of arms) m.labels round.mark) (length m.regions) round in (
          seek_law p Good laws once entries entry_ok yielded yielded_ok good fits rs table seeks telling constants holes arms body round m h names,
          all_fine body within (opened round.region (labelled 1 (labelled (count_of arms) m))) a.0 (ap (λ (l : List ℕ). all_form (in_a_guard l (standing round)) body) (same_counts arms) ∙ g.0) known.0
              (here_list p Good laws once entries entry_ok yielded yielded_ok good fits rs table seeks telling constants holes arms body round m h names (arm_slots p Good laws once entries entry_ok yielded yielded_ok good fits rs table seeks telling constants holes arms a.1)),
          arms_fine arms m.labels (m.labels + count_of arms) (length m.regions) round (guard_body p body arms round m) (guard_there p Good laws once entries entry_ok yielded yielded_ok good fits rs table seeks telling constants holes arms body round m h names) a.1 g.1 known.1 (here_arms p Good laws once entries entry_ok yielded yielded_ok good fits rs table seeks telling constants holes arms body round m h names),
        )
    fine (plain.resignal body names) round m k f known h =
        (pass_law p Good laws once entries entry_ok yielded yielded_ok good fits rs table seeks telling constants holes body names round m h known.1, all_fine body (in_region (length m.regions) round) (opened round.region (labelled 1 m)) k f known.0 (here_passed p Good laws once entries entry_ok yielded yielded_ok good fits rs table seeks telling constants holes body names round m h known.1))
    fine (plain.leave_with es) round m k f known h = fine_leave p Good laws once entries entry_ok yielded yielded_ok good fits rs table seeks telling constants holes es round m k h

    pub all_fine : (ss : Stmts) (round : Round) (m : Made) → all_keep p.base ss ≡ true → all_form (standing round) ss ≡ true → AllNames Knows ss → At round m (all_onto ss round m) → AllFine ss round m
    all_fine no_stmts round m k f known h = tt
    all_fine (stmt_and s rest) round m k f known h =
        let a = and_parts (keeps p.base s) (all_keep p.base rest) k in
        let g = and_parts (forms (standing round) s) (all_form (standing round) rest) f in
        let m1 = onto s round m in
        let m' = all_onto rest round m1 in
        let x : Adds m m1 = part_onto s round m in
        let y : Adds m1 m' = adds_list rest round m1 in
        (fine s round m a.0 g.0 known.0 (here_sub p Good laws once entries entry_ok yielded yielded_ok good fits rs table seeks telling constants holes round m m m1 m' h (adds_same m) x y), all_fine rest round m1 a.1 g.1 known.1 (here_sub p Good laws once entries entry_ok yielded yielded_ok good fits rs table seeks telling constants holes round m m1 m' m' h x y (adds_same m')))

    pub arms_fine : (arms : Arms) (label last region : ℕ) (round : Round) (m : Made) → region < length m.regions → arms_keep p.base arms ≡ true → arms_form (standing round) arms ≡ true → ArmNames Knows arms → At round m (arms_onto arms label last region round m) →
        ArmsFine arms label last region round m
    arms_fine no_arms label last region round m there k f known h = tt
    arms_fine (arm_and names others slots body rest) label last region round m there k f known h =
        let a = and_parts (is_arm others names slots) (are_slots p.base slots && (all_keep p.base body && arms_keep p.base rest)) k in
        let b = and_parts (are_slots p.base slots) (all_keep p.base body && arms_keep p.base rest) a.1 in
        let c = and_parts (all_keep p.base body) (arms_keep p.base rest) b.1 in
        let g = and_parts (all_form (standing round) body) (arms_form (standing round) rest) f in (
          all_below p Good laws once entries entry_ok yielded yielded_ok good fits rs table seeks telling constants holes slots b.0,
          all_fine body round (pushed (flat.Label label) (arm_begun names others slots region round.mark m)) c.0 g.0 known.1 (here_arm names others slots body rest label last region round m there h),
          arms_fine rest (label + 1) last region round (arm_done names others slots body label last region round m) (there_after names others slots body rest label last region round m there h) c.1 g.1 known.2 (here_rest names others slots body rest label last region round m there h),
        )
