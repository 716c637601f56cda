-- A session and one call more.
use Rattle.std.proofs.Common.{◌≡◌, ◌+◌, ◌<◌, ◌∙◌, ℕ, List, [], ◌∷◌, ◌++◌, ap, get_or, length, map, refl, sym, subst, take}
use Rattle.std.proofs.lemmas.List.{map_more}
use Rattle.clu_driver.specs.Sessions.{IsCall, IsSession, State}

-- behind a session stands one call more
pub one_more : (runs : List (List (List ℕ))) (statuses : List ℕ) (words : List (List ℕ)) (status : ℕ) (start now next : State)
    → IsSession runs statuses start now → IsCall words status now next → IsSession (runs ++ words ∷ []) (statuses ++ status ∷ []) start next
one_more [] [] words status start now next same call = (next, (subst (λ (s : State). IsCall words status s next) (sym same) call, refl))
one_more (w ∷ runs) (s ∷ statuses) words status start now next before call =
    (before.0, (before.1.0, one_more runs statuses words status before.0 now next before.1.1 call))
one_more [] (s ∷ statuses) words status start now next before call = absurd before
one_more (w ∷ runs) [] words status start now next before call = absurd before

-- the same for the next of a list of runs
pub next_call : {X : Type 0} (words_of : X → List (List ℕ)) (runs : List X) (i : ℕ) (run : X) (words : List (List ℕ)) (statuses more : List ℕ) (status : ℕ) (start now next : State)
    → i < length runs → run ≡ get_or runs i run → words ≡ words_of run → more ≡ statuses ++ status ∷ []
    → IsSession (map words_of (take i runs)) statuses start now → IsCall words status now next → IsSession (map words_of (take (i + 1) runs)) more start next
next_call words_of runs i run words statuses more status start now next below is given added before call =
    let this : words ≡ words_of (get_or runs i run) = given ∙ ap words_of is in
    rw (map_more words_of runs i run below, added)
    (one_more (map words_of (take i runs)) statuses (words_of (get_or runs i run)) status start now next before (subst (λ (w : List (List ℕ)). IsCall w status now next) this call))
