-- What a built-in operation needs, while the arena grows.
use Rattle.std.proofs.Common.{◌≡◌, ℕ, ◌<◌, ◌≤◌, zero, suc, List, [], ◌∷◌, length, get_or, sym, subst, arith}
use Rattle.clu_types.specs.Arena.{Grows}
use Rattle.clu_types.specs.declared.term.Term.{Term}
use Rattle.clu_types.proofs.Carrying.{length_grows}
use Rattle.clu_builtin.specs.Built.{NeedsBelow}
use Rattle.clu_builtin.specs.declared.needs.Need.{Need}

needs_more : (m n : ℕ) → m ≤ n → (ns : List Need) → NeedsBelow m ns → NeedsBelow n ns
needs_more m n le [] b = tt
needs_more m n le (x ∷ xs) b = (omega (arith, b.0), omega (arith, b.1), needs_more m n le xs b.2)

pub needs_later : (old new : List Term) → Grows old new → (ns : List Need) → NeedsBelow (length old) ns → NeedsBelow (length new) ns
needs_later old new g ns b = needs_more (length old) (length new) (length_grows old new g) ns b

abbrev IsHere : ℕ → Need → Type 0
IsHere n need = (need.of.0 < n) × (need.wanted.0 < n)

need_below : (n : ℕ) (ns : List Need) (i : ℕ) (d : Need) → NeedsBelow n ns → i < length ns → IsHere n (get_or ns i d)
need_below n [] i d b lt = absurd (omega arith)
need_below n (x ∷ xs) zero d b lt = (b.0, b.1)
need_below n (x ∷ xs) (suc i) d b lt = need_below n xs i d b.2 (omega arith)

pub need_here : (n : ℕ) (ns : List Need) (i : ℕ) (d : Need) → d ≡ get_or ns i d → NeedsBelow n ns → i < length ns → (d.of.0 < n) × (d.wanted.0 < n)
need_here n ns i d is below lt = subst (IsHere n) (sym is) (need_below n ns i d below lt)
