-- How many slots the arms of a guard have.
use Rattle.std.proofs.Common.{◌≡◌, ◌∙◌, ℕ, ◌<◌, ◌≤◌, List, length, get_or, map, Some, None, refl, ap}
use Rattle.std.specs.Prelude.{Option, option_map, slice_get}
use Rattle.std.proofs.lemmas.Option.{slice_get-map, slice_get_past, slice_get_read}
use Rattle.clu_wir.specs.declared.statement.WArm.{WArm, fold_out-WArm}
use Rattle.clu_wir.specs.Formed.{ArmTest, Test, arm_formed_of, arm_formed_step, counts_of, formed_step}

pub slots_of : (arm : WArm) → (arm_formed_of arm).slots ≡ length arm.slots.items
slots_of arm = ap (λ (a : ArmTest). a.slots) (fold_out-WArm Test ArmTest formed_step arm_formed_step arm)

pub counts_at : (arms : List WArm) (n : ℕ) → slice_get (counts_of arms) n ≡ option_map (λ (a : WArm). (arm_formed_of a).slots) (slice_get arms n)
counts_at arms n =
    slice_get-map (λ (a : ArmTest). a.slots) (map arm_formed_of arms) n
    ∙ ap (option_map (λ (a : ArmTest). a.slots)) (slice_get-map arm_formed_of arms n)
    ∙ mapped (slice_get arms n)
  where
    mapped : (o : Option WArm) → option_map (λ (a : ArmTest). a.slots) (option_map arm_formed_of o) ≡ option_map (λ (a : WArm). (arm_formed_of a).slots) o
    mapped None = refl
    mapped (Some a) = refl

pub count_there : (arms : List WArm) (n : ℕ) (arm : WArm) → n < length arms → arm ≡ get_or arms n arm → slice_get (counts_of arms) n ≡ Some (length arm.slots.items)
count_there arms n arm inside is =
    counts_at arms n
    ∙ ap (option_map (λ (a : WArm). (arm_formed_of a).slots)) (slice_get_read arms (length arms) n arm refl inside is)
    ∙ ap Some (slots_of arm)

pub count_past : (arms : List WArm) (n : ℕ) → length arms ≤ n → slice_get (counts_of arms) n ≡ None
count_past arms n past = counts_at arms n ∙ ap (option_map (λ (a : WArm). (arm_formed_of a).slots)) (slice_get_past arms n past)
