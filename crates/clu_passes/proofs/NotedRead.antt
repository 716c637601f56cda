-- What the lists of invocations have of a node is what was noted there.
use Rattle.std.proofs.Common.{◌≡◌, ◌∙◌, ◌<◌, ℕ, suc, ◌+◌, ◌-◌, List, [], ◌∷◌, ◌++◌, length, map, take, drop, slice_get, Option, refl, sym, ap, ap₂, subst, arith, append_assoc, length-append}
use Rattle.std.specs.List.{flat_map}
use Rattle.std.proofs.Math.Seq.{drop-append_seam, take-append_seam}
use Rattle.clu_types.specs.declared.term.TypeId.{TypeId}
use Rattle.clu_types.specs.declared.term.Term.{Term}
use Rattle.clu_bindings.specs.Tables.{between, items_at, joined_to}
use Rattle.clu_checking.specs.Invocations as invoking
use Rattle.clu_typing.specs.declared.facts.Facts.{Facts}
use Rattle.clu_typing.specs.declared.facts.Operation.{Operation}
use Rattle.clu_typing.specs.declared.facts.Invocation.{Invocation}
use Rattle.clu_typing.specs.Facts as tables
use Rattle.clu_typing.specs.Invoking.{Lists, lists_of}
use Rattle.clu_passes.specs.FactTables.{AreInvocations}
use Rattle.clu_passes.specs.NotedLists.{One, Noted, one_of, spans, arguments_of, operations_of, begins_to, arguments_at, operations_at, spans_at, AreNoted, one_read, AreOnes}
use Rattle.clu_passes.proofs.Joined.{AreStarts, table_size, table_at, joined_suc, begins_with, joined_at}
use Rattle.clu_passes.proofs.Tables.{between_is}

-- ---- lists

part_between : {A : Type 0} (front part rest : List A) → between (front ++ (part ++ rest)) (length front) (length front + length part) ≡ part
part_between front part rest =
    let whole : length (front ++ (part ++ rest)) ≡ length front + length (part ++ rest) = length-append front (part ++ rest) in
    let inner : length (part ++ rest) ≡ length part + length rest = length-append part rest in
    let long : length front + length part - length front ≡ length part = omega arith in
    between_is (front ++ (part ++ rest)) (length front) (length front + length part) (omega arith) (omega (arith, whole, inner))
    ∙ ap (λ (k : ℕ). take k (drop (length front) (front ++ (part ++ rest)))) long
    ∙ ap (take (length part)) (drop-append_seam front (part ++ rest))
    ∙ take-append_seam part rest

spans_read : (ones : List One) (front rest : List (Option TypeId)) → map (one_read (front ++ (flat_map (λ (x : One). x.arguments) ones ++ rest))) (spans (length front) ones) ≡ ones
spans_read [] front rest = refl
spans_read (one ∷ ones) front rest =
    let behind : List (Option TypeId) = flat_map (λ (x : One). x.arguments) ones ++ rest in
    let inner : front ++ ((one.arguments ++ flat_map (λ (x : One). x.arguments) ones) ++ rest) ≡ front ++ (one.arguments ++ behind) = ap (λ (xs : List (Option TypeId)). front ++ xs) (append_assoc one.arguments (flat_map (λ (x : One). x.arguments) ones) rest) in
    let outer : front ++ ((one.arguments ++ flat_map (λ (x : One). x.arguments) ones) ++ rest) ≡ (front ++ one.arguments) ++ behind = inner ∙ sym (append_assoc front one.arguments behind) in
    ap₂ (λ (x : One) (xs : List One). x ∷ xs)
    (ap (λ (xs : List (Option TypeId)). one_of one.operation (between xs (length front) (length front + length one.arguments))) inner ∙ ap (one_of one.operation) (part_between front one.arguments behind))
    (ap₂ (λ (xs : List (Option TypeId)) (k : ℕ). map (one_read xs) (spans k ones)) outer (sym (length-append front one.arguments)) ∙ spans_read ones (front ++ one.arguments) rest)

-- ---- of a node

starts_are : {A : Type 0} (f : ℕ → List A) (starts : List ℕ) (m : ℕ) → starts ≡ begins_to f m → AreStarts f starts m
starts_are f starts m is = record {
  size = ap length is ∙ table_size (λ n. length (joined_to f n)) m;
  at = λ n less. ap (λ (xs : List ℕ). slice_get xs n) is ∙ table_at (λ n. length (joined_to f n)) m n less;
}

module _ (noted : ℕ → Noted) (l : Lists) (m : ℕ) (are : AreNoted noted l m) where
  spans_are : (n : ℕ) → n < m → items_at l.all l.starts n ≡ spans_at noted n
  spans_are n less = ap (λ (xs : List Invocation). items_at xs l.starts n) are.all ∙ joined_at (spans_at noted) l.starts m n (starts_are (spans_at noted) l.starts m are.starts) less

  pub operations_are : (n : ℕ) → n < m → items_at l.operations l.operation_starts n ≡ operations_of (noted n)
  operations_are n less = ap (λ (xs : List Operation). items_at xs l.operation_starts n) are.operations ∙ joined_at (operations_at noted) l.operation_starts m n (starts_are (operations_at noted) l.operation_starts m are.operation_starts) less

  pub invoked_are : (n : ℕ) → n < m → map (one_read l.arguments) (items_at l.all l.starts n) ≡ (noted n).invoked
  invoked_are n less =
      let rest = begins_with (arguments_at noted) (suc n) (m - suc n) in
      let all : l.arguments ≡ joined_to (arguments_at noted) n ++ (arguments_of (noted n) ++ rest.0) =
      are.arguments ∙ ap (joined_to (arguments_at noted)) (omega (arith, less)) ∙ rest.1
      ∙ ap (λ (xs : List (Option TypeId)). xs ++ rest.0) (joined_suc (arguments_at noted) n)
      ∙ append_assoc (joined_to (arguments_at noted) n) (arguments_of (noted n)) rest.0 in
      ap₂ (λ (xs : List (Option TypeId)) (is : List Invocation). map (one_read xs) is) all (spans_are n less)
      ∙ spans_read (noted n).invoked (joined_to (arguments_at noted) n) rest.0

-- ---- by the facts of nodes

module _ (terms : List Term) (facts : Facts) where
  each_is : (is : List Invocation) (xs : List invoking.Invocation) → AreOnes terms facts (map (one_read facts.invocations.arguments.items) is) xs → AreInvocations terms facts is xs
  each_is [] [] are = tt
  each_is [] (x ∷ xs) are = absurd are
  each_is (i ∷ is) [] are = absurd are
  each_is (i ∷ is) (x ∷ xs) are = ((are.0.0, are.0.1), each_is is xs are.1)

  pub invocations_read : (noted : ℕ → Noted) (m : ℕ) → AreNoted noted (lists_of facts.invocations) m → (n : ℕ) → n < m → (xs : List invoking.Invocation) → AreOnes terms facts (noted n).invoked xs → AreInvocations terms facts (tables.invocations facts n) xs
  invocations_read noted m are n less xs ones =
      each_is (tables.invocations facts n) xs (subst (λ (os : List One). AreOnes terms facts os xs) (sym (invoked_are noted (lists_of facts.invocations) m are n less)) ones)

pub operations_read : (facts : Facts) (noted : ℕ → Noted) (m : ℕ) → AreNoted noted (lists_of facts.invocations) m → (n : ℕ) → n < m → tables.operations_at facts n ≡ operations_of (noted n)
operations_read facts noted m are n less = operations_are noted (lists_of facts.invocations) m are n less
