-- What may be raised, of several expressions and of an invocation.
use Rattle.std.proofs.Common.{ℕ, List, [], ◌∷◌, ◌++◌, Some, inl, inr}
use Rattle.clu_types.specs.CluType.{proc_of, CluTypes, Signals, no_signals, signal_and, Actuals}
use Rattle.clu_types.specs.Substituted.{signals_substituted}
use Rattle.clu_layout.specs.Objects.{Object}
use Rattle.clu_checking.specs.Raising as raising
use Rattle.laws_sound.specs.Raises.{Raise, Takes, Covers, failing, listed, raised_by}
use Rattle.laws_accepted.specs.Standing.{raises_put, MayRaise}

module _ (given : Actuals) where
  takes_front : (xs ys : List raising.Raise) (name : List ℕ) (os : List Object) → Takes (raises_put given xs) name os → Takes (raises_put given (xs ++ ys)) name os
  takes_front [] ys name os h = absurd h
  takes_front (x ∷ xs) ys name os (inl e) = inl e
  takes_front (x ∷ xs) ys name os (inr h) = inr (takes_front xs ys name os h)

  takes_behind : (xs ys : List raising.Raise) (name : List ℕ) (os : List Object) → Takes (raises_put given ys) name os → Takes (raises_put given (xs ++ ys)) name os
  takes_behind [] ys name os h = h
  takes_behind (x ∷ xs) ys name os h = inr (takes_behind xs ys name os h)

  pub raise_front : (xs ys : List raising.Raise) (rs : List Raise) → MayRaise given (xs ++ ys) rs → MayRaise given xs rs
  raise_front xs ys rs c = record { at = λ name os h. c.at name os (takes_front xs ys name os h) }

  pub raise_behind : (xs ys : List raising.Raise) (rs : List Raise) → MayRaise given (xs ++ ys) rs → MayRaise given ys rs
  raise_behind xs ys rs c = record { at = λ name os h. c.at name os (takes_behind xs ys name os h) }

  listed_takes : (ss : Signals) (name : List ℕ) (os : List Object) → Takes (listed (signals_substituted given ss)) name os → Takes (raises_put given (raising.listed ss)) name os
  listed_takes no_signals name os h = absurd h
  listed_takes (signal_and n ts rest) name os (inl e) = inl e
  listed_takes (signal_and n ts rest) name os (inr h) = inr (listed_takes rest name os h)

  -- of what is invoked
  pub raise_invoked : (args results : CluTypes) (ss : Signals) (rs : List Raise) → MayRaise given (raising.invoked (Some (proc_of args results ss))) rs → Covers (raised_by (signals_substituted given ss)) rs
  raise_invoked args results ss rs c = record { at = by }
    where
      by : (name : List ℕ) (os : List Object) → Takes (raised_by (signals_substituted given ss)) name os → Takes rs name os
      by name os (inl e) = c.at name os (inl e)
      by name os (inr h) = c.at name os (inr (listed_takes ss name os h))

  pub raise_failing : (rs : List Raise) → MayRaise given (raising.failure ∷ []) rs → Covers (failing ∷ []) rs
  raise_failing rs c = record { at = by }
    where
      by : (name : List ℕ) (os : List Object) → Takes (failing ∷ []) name os → Takes rs name os
      by name os (inl e) = c.at name os (inl e)
      by name os (inr h) = absurd h
