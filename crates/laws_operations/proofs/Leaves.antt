-- A routine without a frame that is a value.
use Rattle.std.proofs.Common.{◌≡◌, ℕ, [], ◌∷◌, refl}
use Rattle.clu_wir.specs.Value.{Value, Gives, Raises, Stuck, value}
use Rattle.clu_word_meaning.specs.Levels.{arguments, deed_done, entered}
use Rattle.clu_word_meaning.specs.Words.{Entry, Linked, State, by_value, counted, ends, gives, valued, view, with_slots, with_state}
use Rattle.laws_operations.specs.Leaves.{ComesInOneStep, in_one_step}

by_its_value : (l : Linked) (entries : ℕ → Entry) (v : Value) (turns : ℕ) (st : State) → by_value l entries v (λ w. gives (w ∷ [])) turns (counted 1 st) ≡ in_one_step l v turns st
unfolding by_value gives ends
by_its_value l entries (Gives w) turns st = refl
by_its_value l entries (Raises t) turns st = refl
by_its_value l entries Stuck turns st = refl

pub one_step : ComesInOneStep
unfolding entered deed_done valued with_state
one_step l entries code live body ws turns st =
    by_its_value l entries (value (view l (arguments ws) st.world) code) turns (with_slots (λ slots. arguments ws) st)
