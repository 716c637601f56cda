-- What an image promises of addresses, names and traps, where nothing is full.
use Rattle.std.specs.Prelude.{◌≡◌, ◌<◌, ◌+◌, ◌*◌, ℕ, suc, Bool, true, false, List, [], None, Some, slice_get}
use Rattle.clu_wir.specs.Traps.{trap_name}
use Rattle.clu_wir.specs.declared.trap.Trap.{Trap}
use Rattle.clu_frames.specs.Plain.{Step}
use Rattle.clu_frames.specs.Plain as flat
use Rattle.clu_word_meaning.specs.World.{failure_name}
use Rattle.clu_word_meaning.specs.Words.{Linked}
use Rattle.clu_flat_meaning.specs.Image.{Body, Image, Instance, at_step}
use Rattle.clu_flat_meaning.specs.Machine.{address_of}

-- Control comes back to the step after a call, and after a yield. Other addresses are those of several steps, where some have no
-- words.
abbrev pub comes_back : Step → Bool
comes_back (flat.Invoke routine slot) = true
comes_back (flat.Yield slot count) = true
comes_back _ = false

abbrev pub ComesBack : Image → Type 0
ComesBack image = (n step : ℕ) (body : Body) (x : Step) → image.body n ≡ Some body → slice_get body.code step ≡ Some x → comes_back x ≡ true →
    image.entry (image.address n (suc step)) ≡ Some (at_step n (suc step))

-- as an instance knows them
pub record Honest (image : Image) (linked : Linked) : Type 0 where
  pub leads : ComesBack image
  pub names : (v : ℕ) (name : List ℕ) → image.name_of v ≡ Some name → linked.name_word name ≡ v
  -- no name has the word 0, or is empty
  pub zero_word : image.name_of 0 ≡ None
  pub filled : (v : ℕ) → image.name_of v ≡ Some [] → ⊥
  pub failure : image.name_of image.failure ≡ Some failure_name
  pub traps : (t : Trap) → image.name_of (image.trap_name t) ≡ Some (trap_name t)
  pub objects : (t : Trap) (i w : ℕ) → slice_get (linked.trap_words t) i ≡ Some w → (image.trap_objects t + 8 * i < address_of image.bottom) × (image.fixed (image.trap_objects t + 8 * i) ≡ Some w)
  pub stack : (n : ℕ) → image.has_stack n ≡ true
  pub store : (n : ℕ) → image.has_store n ≡ true
  pub bottom : 0 < image.bottom

abbrev pub instance_at : ℕ → ℕ → Instance
instance_at body table = record { body = body; table = table }
