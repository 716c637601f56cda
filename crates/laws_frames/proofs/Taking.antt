-- What flattening promises of the regions of guards, and of lists of which exceptions are signalled on.
use Rattle.std.proofs.Common.{◌≡◌, ◌∙◌, ℕ, zero, suc, ◌+◌, ◌<◌, Bool, true, false, List, [], ◌∷◌, ◌++◌, length, Option, Some, slice_get, refl, ap, sym, subst, arith, append-nil}
use Rattle.std.specs.List.{list_any}
use Rattle.std.specs.Str.{bytes_eq}
use Rattle.std.specs.Prelude.{◌&&◌, ◌||◌}
use Rattle.std.proofs.lemmas.Bool.{and_parts}
use Rattle.std.proofs.lemmas.Option.{same_Some, slice_get_within}
use Rattle.clu_base.proofs.Lists.{as_bytes, none_is_not, same_bytes}
use Rattle.clu_base.specs.declared.constants.ObjConst.{ObjConst}
use Rattle.clu_wir.specs.Adding.{Added}
use Rattle.clu_wir.specs.Formed.{place_of}
use Rattle.clu_wir.specs.Kept.{all_keep, are_slots, arms_keep, is_arm, is_kept, keeps}
use Rattle.clu_wir.specs.Plain.{Arms, Expr, Stmts, arm_and, no_arms}
use Rattle.clu_wir.specs.declared.hole.HoleKind.TheVariants as kind
use Rattle.clu_wir.specs.declared.region.Arm.{Arm}
use Rattle.clu_frames.specs.Plain.{Step}
use Rattle.clu_frames.specs.Plain as flat
use Rattle.clu_frames.specs.Flattening.{Guarding, Made, Round, all_onto, arms_onto, closed, guard_at, in_guard, in_region, labelled, named_onto, opened, pushed, slots_of}
use Rattle.clu_word_meaning.specs.Words.{Body, Entry}
use Rattle.clu_flat_meaning.specs.Image.{FlatArm}
use Rattle.clu_flat_meaning.specs.Machine.{arm_named, or_else}
use Rattle.clu_flat_meaning.proofs.Runs.{Once}
use Rattle.laws_frames.specs.Formed.{EachName}
use Rattle.laws_frames.specs.Tables.{flat_arms, table_of}
use Rattle.laws_frames.proofs.Relation.{Laws, Place, laws_at, regions}
use Rattle.laws_frames.proofs.Entering.{BodyOk, EntryOk}
use Rattle.laws_frames.proofs.Yielding.{context_of}
use Rattle.laws_frames.proofs.Iterating.{AllBelow}
use Rattle.laws_frames.proofs.Fronts.{count_of, front_named}
use Rattle.laws_frames.proofs.Growing.{Grows, Own, grows_all_then, grows_named, grows_push, own_closed, own_kept, own_named}
use Rattle.laws_frames.proofs.Guarding.{Hits, SeekLaw, has_name}
use Rattle.laws_frames.proofs.Exiting.{PassLaw}
use Rattle.laws_frames.proofs.Lying.{all_grow, arms_own}
use Rattle.laws_frames.proofs.Seeking.{seek_in}
use Rattle.laws_frames.proofs.Arming.{Has, Hit, OwnNames, Tells, arms_listed, arms_named, has_arms, has_closed, has_kept, has_named, each_name, named_hit, named_miss, names_hit, names_miss, names_zero, other_hit, other_miss, only_names}
use Rattle.laws_frames.proofs.Standing.{Part, Stands, part_arms, part_by, part_list, part_push, part_then, stands_after, stands_list}
use Rattle.laws_frames.proofs.Widths.{AllFit}
use Rattle.laws_frames.proofs.Lawful.{Known, Telling, first_hit, no_hit, others_apart, second_hit, seek_arms, tells}
use Rattle.laws_frames.proofs.Fitting.{Here, all_below}

module _ (p : Place) (Good : Expr → Type 0) (laws : Laws p Good) (once : Once p.shape.code) (entries : ℕ → Entry) (entry_ok : (w : ℕ) → EntryOk p.image w (entries w)) (yielded : Body) (yielded_ok : BodyOk p.image (context_of p) yielded)
    (good : (e : Expr) → is_kept p.base e ≡ true → Good e) (fits : AllFit p.shape.frame p.shape.code)
    (rs : List Added) (table : regions p ≡ table_of p.linked.name_word rs) (seeks : (region : Option ℕ) (v : ℕ) → p.seek region v ≡ seek_in p.linked.name_word rs region v)
    (telling : Telling p.image.name_of p.linked.name_word)
    (constants : List ObjConst) (holes : (name : List ℕ) (place : ℕ) → Known p.image.name_of p.linked.name_word name → place_of constants name ≡ Some place → p.image.hole p.me.table kind.Constant place ≡ Some (p.linked.name_word name)) where
  abbrev code : List Step
  code = p.shape.code

  abbrev word : List ℕ → ℕ
  word = p.linked.name_word

  abbrev Knows : List ℕ → Type 0
  Knows = Known p.image.name_of word

  abbrev At : Round → Made → Made → Type 0
  At = Here p Good laws once entries entry_ok yielded yielded_ok good fits rs table seeks telling constants holes

  -- Guards.

  as_hits : (live : ℕ) (o o' : Option FlatArm) (target mark : ℕ) → o ≡ o' → Hit o' target mark → Hits p Good (laws_at p laws live) once entries yielded o target mark
  as_hits live o o' target mark e h = record { arm = h.arm; is = e ∙ h.is; begins = h.begins; marks = h.marks }

  module _ (arms : Arms) (body : Stmts) (round : Round) (m : Made) where
    abbrev n : ℕ
    n = length m.regions

    abbrev count : ℕ
    count = count_of arms

    abbrev end : ℕ
    end = m.labels + count

    abbrev inside : Round
    inside = in_guard (guard_at (slots_of arms) m.labels round.mark) n round

    abbrev mc : Made
    mc = labelled count m

    abbrev m1 : Made
    m1 = opened round.region (labelled 1 mc)

    abbrev m2 : Made
    m2 = all_onto body inside m1

    abbrev m3 : Made
    m3 = closed n end m2

    abbrev m' : Made
    m' = arms_onto arms m.labels end n round m3

    module _ (h : At round m m') (known : OwnNames Knows arms) where
      stands_c : Stands code rs round mc m'
      stands_c = record { front = h.stands.front; here = h.stands.here; apart = h.stands.apart; kept = h.stands.kept; behind = h.stands.behind }

      inner : Part (suc n) m1 m2
      inner = part_list body inside m1

      own3 : Own n (length m.code) (length m2.code) m3
      own3 = own_closed round.region end (labelled 1 mc) m2 (all_grow body inside m1)

      there3 : n < length m3.regions
      there3 = slice_get_within m3.regions n own3.region own3.is

      after : Part (suc n) m3 m'
      after = part_arms arms m.labels end n round m3 (omega arith) there3

      own : Own n (length m.code) (length m2.code) m'
      own = arms_own arms m.labels end n (length m.code) (length m2.code) round m3 own3

      abbrev list : List Arm
      list = arms_listed arms m.labels end n round m3

      has : Has n list m'
      has = has_arms arms m.labels end n round m3 [] (has_closed round.region end (labelled 1 mc) m2 (all_grow body inside m1))

      seeking : (v : ℕ) → p.seek (Some n) v ≡ or_else (or_else (arm_named v (flat_arms word list)) (arm_named 0 (flat_arms word list))) (p.seek round.region v)
      seeking v = seek_arms p word rs table seeks round 1 end mc m2 m' stands_c inner after own list has v

      knows : (v : ℕ) (name : List ℕ) → p.image.name_of v ≡ Some name → OwnNames (Tells word v name) arms
      knows v name e = only_names Knows (Tells word v name) (tells p.image.name_of word telling v name e) arms known

      pub seek_law : (live : ℕ) → SeekLaw p Good (laws_at p laws live) once entries yielded arms m.labels end n round m3
      seek_law live = record {
        named = λ v name target e f. as_hits live _ _ target round.mark (seeking v)
            (first_hit _ _ (p.seek round.region v) target round.mark (named_hit word v name (others_apart p.image.name_of word telling v name e) end n round arms m.labels m3 target (knows v name e) f));
        other = λ v name target e f g. as_hits live _ _ target round.mark (seeking v)
            (second_hit _ _ (p.seek round.region v) target round.mark (named_miss word v name (others_apart p.image.name_of word telling v name e) end n round arms m.labels m3 (knows v name e) f)
            (other_hit word v name (others_apart p.image.name_of word telling v name e) end n round arms m.labels m3 target (knows v name e) g));
        none = λ v name e f g. seeking v
            ∙ no_hit _ _ (p.seek round.region v) (named_miss word v name (others_apart p.image.name_of word telling v name e) end n round arms m.labels m3 (knows v name e) f)
            (other_miss word v name (others_apart p.image.name_of word telling v name e) end n round arms m.labels m3 (knows v name e) g);
      }

      pub here_list : ((j : ℕ) (slots : List ℕ) → slice_get (slots_of arms) j ≡ Some slots → AllBelow p.base slots) → At inside m1 m2
      here_list below = record {
        stands = stands_list code rs round 1 end mc m2 m' stands_c inner after own inside refl;
        room = h.room;
        own = λ k g e. own_at k g e;
        known = h.known;
      }
        where
          own_at : (k : ℕ) (g : Guarding) → slice_get inside.guards k ≡ Some g → (j : ℕ) (slots : List ℕ) → slice_get g.slots j ≡ Some slots → AllBelow p.base slots
          own_at zero g e j slots f = below j slots (subst (λ (x : Guarding). slice_get x.slots j ≡ Some slots) (sym (same_Some (guard_at (slots_of arms) m.labels round.mark) g e)) f)
          own_at (suc k) g e j slots f = h.own k g e j slots f

      pub guard_there : n < length m3.regions
      guard_there = there3

      pub here_arms : At round m3 m'
      here_arms = record { stands = stands_after code rs round 1 end mc m2 m' stands_c inner after own; room = h.room; own = h.own; known = h.known }

  -- the slots of arms
  pub arm_slots : (arms : Arms) → arms_keep p.base arms ≡ true → (j : ℕ) (slots : List ℕ) → slice_get (slots_of arms) j ≡ Some slots → AllBelow p.base slots
  unfolding keeps all_keep arms_keep
  arm_slots no_arms k j slots e = none_is_not slots e
  arm_slots (arm_and names others own body rest) k zero slots e =
      let a = and_parts (is_arm others names own) (are_slots p.base own && (all_keep p.base body && arms_keep p.base rest)) k in
      subst (λ (x : List ℕ). AllBelow p.base x) (same_Some own slots e) (all_below p Good laws once entries entry_ok yielded yielded_ok good fits rs table seeks telling constants holes own (and_parts (are_slots p.base own) (all_keep p.base body && arms_keep p.base rest) a.1).0)
  arm_slots (arm_and names others own body rest) k (suc j) slots e =
      let a = and_parts (is_arm others names own) (are_slots p.base own && (all_keep p.base body && arms_keep p.base rest)) k in
      let b = and_parts (are_slots p.base own) (all_keep p.base body && arms_keep p.base rest) a.1 in
      arm_slots rest (and_parts (all_keep p.base body) (arms_keep p.base rest) b.1).1 j slots e

  -- Lists of which exceptions are signalled on.

  swapped : (a b : List ℕ) → bytes_eq a b ≡ bytes_eq b a
  swapped a b = both_ways (bytes_eq a b) (bytes_eq b a) (λ h. as_bytes b a (sym (same_bytes a b h))) (λ h. as_bytes a b (sym (same_bytes b a h)))
    where
      both_ways : (x y : Bool) → (x ≡ true → y ≡ true) → (y ≡ true → x ≡ true) → x ≡ y
      both_ways true y f g = sym (f refl)
      both_ways false true f g = g refl
      both_ways false false f g = refl

  any_swapped : (name : List ℕ) (names : List (List ℕ)) → list_any (bytes_eq name) names ≡ has_name name names
  any_swapped name [] = refl
  any_swapped name (n ∷ names) = ap (λ b. b || list_any (bytes_eq name) names) (swapped name n) ∙ ap (λ b. bytes_eq n name || b) (any_swapped name names)

  module _ (body : Stmts) (names : List (List ℕ)) (round : Round) (m : Made) where
    abbrev n2 : ℕ
    n2 = length m.regions

    abbrev inside2 : Round
    inside2 = in_region n2 round

    abbrev o1 : Made
    o1 = opened round.region (labelled 1 m)

    abbrev o2 : Made
    o2 = all_onto body inside2 o1

    abbrev o3 : Made
    o3 = closed n2 m.labels o2

    abbrev o4 : Made
    o4 = named_onto n2 round.mark names o3

    abbrev o5 : Made
    o5 = pushed flat.Pass o4

    abbrev o' : Made
    o' = pushed (flat.Label m.labels) o5

    module _ (h : At round m o') (known : EachName Knows names) where
      inner2 : Part (suc n2) o1 o2
      inner2 = part_list body inside2 o1

      own_3 : Own n2 (length m.code) (length o2.code) o3
      own_3 = own_closed round.region m.labels (labelled 1 m) o2 (all_grow body inside2 o1)

      there_3 : n2 < length o3.regions
      there_3 = slice_get_within o3.regions n2 own_3.region own_3.is

      ends : Part (suc n2) o4 o'
      ends = part_then o4 o5 o' (omega (arith, there_3, (grows_named n2 round.mark names o3 there_3).count)) (part_push flat.Pass o4) (part_push (flat.Label m.labels) o5)

      after2 : Part (suc n2) o3 o'
      after2 = part_then o3 o4 o' (omega (arith, there_3)) (part_by n2 o3 o4 (omega arith) (front_named n2 round.mark names o3) (grows_named n2 round.mark names o3 there_3)) ends

      grows_end : Grows o4 o'
      grows_end = grows_all_then o4 o5 o' (λ skip. grows_push flat.Pass o4) (λ skip. grows_push (flat.Label m.labels) o5)

      own_5 : Own n2 (length m.code) (length o2.code) o'
      own_5 = own_kept n2 (length m.code) (length o2.code) o4 o' (own_named n2 (length m.code) (length o2.code) round.mark names o3 own_3) grows_end

      abbrev list2 : List Arm
      list2 = arms_named (length o3.code) round.mark names

      has2 : Has n2 (list2 ++ []) o'
      has2 = has_kept n2 (list2 ++ []) o4 o' (subst (λ (l : List Arm). Has n2 l o4) (sym (append-nil list2)) (has_named n2 round.mark names [] o3 (has_closed round.region m.labels (labelled 1 m) o2 (all_grow body inside2 o1)))) grows_end

      seeking2 : (v : ℕ) → p.seek (Some n2) v ≡ or_else (or_else (arm_named v (flat_arms word (list2 ++ []))) (arm_named 0 (flat_arms word (list2 ++ [])))) (p.seek round.region v)
      seeking2 v = seek_arms p word rs table seeks round 1 m.labels m o2 o' h.stands inner2 after2 own_5 (list2 ++ []) has2 v

      knows2 : (v : ℕ) (name : List ℕ) → p.image.name_of v ≡ Some name → EachName (Tells word v name) names
      knows2 v name e = each_name Knows (Tells word v name) (tells p.image.name_of word telling v name e) names known

      pub pass_law : (live : ℕ) → PassLaw p Good (laws_at p laws live) once entries yielded names n2 (length o3.code) round
      unfolding arm_named
      pass_law live = record {
        named = λ v name e f. as_hits live _ _ (length o3.code) round.mark (seeking2 v)
            (first_hit _ _ (p.seek round.region v) (length o3.code) round.mark (names_hit word v name (others_apart p.image.name_of word telling v name e) names (length o3.code) round.mark [] (knows2 v name e) (sym (any_swapped name names) ∙ f)));
        none = λ v name e f. seeking2 v
            ∙ no_hit _ _ (p.seek round.region v) (names_miss word v name (others_apart p.image.name_of word telling v name e) names (length o3.code) round.mark [] (knows2 v name e) (sym (any_swapped name names) ∙ f))
            (names_zero word v name (others_apart p.image.name_of word telling v name e) names (length o3.code) round.mark [] (knows2 v name e));
      }

      pub here_passed : At inside2 o1 o2
      here_passed = record { stands = stands_list code rs round 1 m.labels m o2 o' h.stands inner2 after2 own_5 inside2 refl; room = h.room; own = h.own; known = h.known }
