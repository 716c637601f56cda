-- Nodes that are asked one after the other, and what is left of their numbers.
use Rattle.std.proofs.Common.{◌≡◌, ◌∙◌, ℕ, suc, ◌+◌, ◌-◌, ◌<◌, ◌≤◌, ◌||◌, Bool, true, false, List, [], ◌∷◌, ◌++◌, fold, get_or, length, map, Option, refl, sym, ap, arith, append_assoc}
use Rattle.std.proofs.lemmas.Option.{slice_get_read, slice_get_past}
use Rattle.std.specs.Prelude.{slice_get}
use Rattle.std.specs.List.{range_with_len}
use Rattle.clu_tree.specs.declared.node.Node.{Node}
use Rattle.clu_tree.specs.declared.node.NodeKind.TheVariants as kind
use Rattle.clu_syntax.specs.declared.round.Round.{Round}
use Rattle.clu_names.specs.declared.scopes.Declared.{Declared}
use Rattle.clu_head.specs.There.{is_there}
use Rattle.clu_bindings.specs.Tables.{optional}
use Rattle.clu_type_rules.specs.Walking.{Asked, Looked, answer, asked_equate, asked_if, asked_in, asked_of, looked, noted}

pub range_next : (n size : ℕ) → n < size → range_with_len n (size - n) ≡ n ∷ range_with_len (n + 1) (size - (n + 1))
range_next n size less = let more : size - n ≡ suc (size - (n + 1)) = omega (arith, less) in ap (λ (k : ℕ). range_with_len n k) more

module _ {S : Type 0} (step : S → ℕ → S) (s : S) (n size : ℕ) where
  pub fold_next : n < size → fold step (step s n) (range_with_len (n + 1) (size - (n + 1))) ≡ fold step s (range_with_len n (size - n))
  fold_next less = sym (ap (fold step s) (range_next n size less))

module _ (test : ℕ → Bool) (done : List Bool) (n size : ℕ) where
  pub mapped_next : n < size → (done ++ test n ∷ []) ++ map test (range_with_len (n + 1) (size - (n + 1))) ≡ done ++ map test (range_with_len n (size - n))
  mapped_next less =
      append_assoc done (test n ∷ []) (map test (range_with_len (n + 1) (size - (n + 1))))
      ∙ sym (ap (λ (ns : List ℕ). done ++ map test ns) (range_next n size less))

-- one node is asked, of those that stand in another
pub looked_next : (fault : List Bool → ℕ → Bool) (bad its : List Bool) (faulty new : List (Option Bool)) (before found now : Bool) (n size : ℕ) (whole : Looked) → n < size → its ≡ bad →
    found ≡ answer (optional (slice_get faulty n)) (fault its n) → new ≡ noted (optional (slice_get faulty n)) faulty n (fault its n) → now ≡ (found || before) →
    fold (looked fault bad) (record { faulty = faulty; found = before }) (range_with_len n (size - n)) ≡ whole → fold (looked fault bad) (record { faulty = new; found = now }) (range_with_len (n + 1) (size - (n + 1))) ≡ whole
looked_next fault bad its faulty new before found now n size whole less same says notes is had =
    let one : found ≡ answer (optional (slice_get faulty n)) (fault bad n) = says ∙ ap (λ (b : List Bool). answer (optional (slice_get faulty n)) (fault b n)) same in
    let other : new ≡ noted (optional (slice_get faulty n)) faulty n (fault bad n) = notes ∙ ap (λ (b : List Bool). noted (optional (slice_get faulty n)) faulty n (fault b n)) same in
    let later : List ℕ = range_with_len (n + 1) (size - (n + 1)) in
    ap (λ (x : List (Option Bool)). fold (looked fault bad) (record { faulty = x; found = now }) later) other
    ∙ ap (λ (b : Bool). fold (looked fault bad) (record { faulty = noted (optional (slice_get faulty n)) faulty n (fault bad n); found = b }) later) (is ∙ ap (λ (b : Bool). b || before) one)
    ∙ fold_next (looked fault bad) (record { faulty = faulty; found = before }) n size less
    ∙ had

-- ---- the declaration of this place

module _ (nodes : List Node) (rounds : List Round) (fault : List Bool → ℕ → Bool) (declared : List Declared) (a : Asked) (place : ℕ) where
  -- is an equate
  pub equate_here : (one : Declared) → place < length declared → one ≡ get_or declared place one → is_there kind.Equate (slice_get nodes one.node) ≡ true → asked_equate nodes rounds fault declared a place ≡ asked_in rounds fault a one.node
  equate_here one inside at is = ap (asked_of nodes rounds fault a) (slice_get_read declared (length declared) place one refl inside at) ∙ ap (λ (b : Bool). asked_if rounds fault b a one.node) is

  -- or another one
  pub equate_other : (one : Declared) → place < length declared → one ≡ get_or declared place one → is_there kind.Equate (slice_get nodes one.node) ≡ false → asked_equate nodes rounds fault declared a place ≡ a
  equate_other one inside at is = ap (asked_of nodes rounds fault a) (slice_get_read declared (length declared) place one refl inside at) ∙ ap (λ (b : Bool). asked_if rounds fault b a one.node) is

  -- or there is none
  pub equate_past : length declared ≤ place → asked_equate nodes rounds fault declared a place ≡ a
  equate_past past = ap (asked_of nodes rounds fault a) (slice_get_past declared place past)
