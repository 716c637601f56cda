-- What a routine without a frame comes to when it is entered.
use Rattle.std.specs.Prelude.{◌≡◌, ℕ, List, [], ◌∷◌, Some}
use Rattle.clu_wir.specs.Plain.{Expr, gives_value}
use Rattle.clu_wir.specs.Traps.{trap_name}
use Rattle.clu_wir.specs.Value.{Value, Gives, Raises, Stuck, value}
use Rattle.clu_word_meaning.specs.Levels.{arguments, bare, entered}
use Rattle.clu_word_meaning.specs.Words.{Body, Entry, Linked, Result, State, counted, ended, normal, raised, view, with_slots, wrong}

-- the value as a result, in one step
abbrev pub in_one_step : Linked → Value → ℕ → State → Result (List ℕ)
in_one_step l (Gives w) turns st = normal (w ∷ []) turns (counted 1 st)
in_one_step l (Raises t) turns st = ended (raised (trap_name t) (l.trap_words t)) turns (counted 1 st)
in_one_step l Stuck turns st = ended wrong turns (counted 1 st)

-- entered with these words it comes in one step, and no turn, to the value of its code with them for slots
abbrev pub ComesInOneStep : Type 0
ComesInOneStep = (l : Linked) (entries : ℕ → Entry) (code : Expr) (live : ℕ) (body : Body) (ws : List ℕ) (turns : ℕ) (st : State) →
    entered entries (Some (bare l (gives_value code))) live body ws turns st ≡ in_one_step l (value (view l (arguments ws) st.world) code) turns (with_slots (λ slots. arguments ws) st)
