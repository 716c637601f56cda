-- What is asked of all nodes of a file, with its types, falls into what each node asks.
use Rattle.std.proofs.Common.{◌≡◌, ◌∙◌, ℕ, zero, suc, ◌+◌, ◌-◌, ◌<◌, List, [], ◌∷◌, ◌++◌, length, map, take, drop, refl, sym, ap, subst, arith, append_assoc, length-append}
use Rattle.std.specs.List.{AllZip}
use Rattle.std.proofs.Math.Seq.{take-append_seam, drop-append_seam}
use Rattle.std.proofs.lemmas.List.{length-map, append-nil}
use Rattle.clu_types.specs.declared.term.Term.{Term}
use Rattle.clu_head.specs.declared.head.Demanded.{Demanded}
use Rattle.clu_head.specs.declared.clauses.Asking.{Asking}
use Rattle.clu_head.specs.declared.known.Known.{Known}
use Rattle.clu_head.specs.Asked.{demands_at, demands_to, starts_to, demands_of}
use Rattle.clu_head.specs.Asking.{asked_at, untyped, demands_by_all}
use Rattle.clu_head.specs.Wanted.{IsAskedBy, one_list, AreAsked, asked_to}
use Rattle.clu_head.proofs.Wanting.{list_joined, all_untyped}
use Rattle.clu_passes.proofs.AskedPieces.{demands_next, of_node}

module _ {X Y : Type 0} (R : X → Y → Type 0) where
  zip_front : (xs ys : List X) (zs : List Y) → AllZip R (xs ++ ys) zs → (ps qs : List Y) × (zs ≡ ps ++ qs) × AllZip R xs ps × AllZip R ys qs
  zip_front [] ys zs are = ([], zs, refl, tt, are)
  zip_front (x ∷ xs) ys [] are = absurd are
  zip_front (x ∷ xs) ys (z ∷ zs) are = let rest = zip_front xs ys zs are.1 in (z ∷ rest.0, rest.1, ap (λ (l : List Y). z ∷ l) rest.2, (are.0, rest.3), rest.4)

module _ (k : Known) (old new : List Term) where
  abbrev of : ℕ → List Demanded
  of n = demands_at k.syntax.now k.rounds.now k.counts.now k.restricted.now n

  abbrev asks : ℕ → List Asking
  asks n = asked_at k.syntax.now k.rounds.now k.counts.now k.restricted.now n

  pub asked_split : (xs ys : List Asking) (ds : List Demanded) → AreAsked k old new (xs ++ ys) ds → (front behind : List Demanded) × (ds ≡ front ++ behind) × AreAsked k old new xs front × AreAsked k old new ys behind
  unfolding AreAsked
  asked_split xs ys ds are =
      let parts = zip_front (IsAskedBy k old new) xs ys are.0 are.2 in
      (one_list parts.0, one_list parts.1, are.1 ∙ ap one_list parts.2 ∙ list_joined parts.0 parts.1, (parts.0, refl, parts.3), (parts.1, refl, parts.4))

  asks_next : (n : ℕ) → asked_to k (suc n) ≡ asked_to k n ++ asks n
  unfolding asked_to
  asks_next n = refl

  asks_begin : (n more : ℕ) → (rest : List Asking) × (asked_to k (n + more) ≡ asked_to k n ++ rest)
  asks_begin n zero = ([], ap (asked_to k) (omega arith) ∙ sym (append-nil (asked_to k n)))
  asks_begin n (suc more) =
      let before = asks_begin n more in (
        before.0 ++ asks (n + more),
        ap (asked_to k) (omega arith) ∙ asks_next (n + more) ∙ ap (λ (xs : List Asking). xs ++ asks (n + more)) before.1 ∙ append_assoc (asked_to k n) before.0 (asks (n + more)),
      )

  own_untyped : (n : ℕ) (ds : List Demanded) → AreAsked k old new (asks n) ds → map untyped ds ≡ of n
  unfolding AreAsked demands_at
  own_untyped n ds are = ap (map untyped) are.1 ∙ all_untyped k old new (asks n) are.0 are.2

  map_append : (xs ys : List Demanded) → map untyped (xs ++ ys) ≡ map untyped xs ++ map untyped ys
  map_append [] ys = refl
  map_append (x ∷ xs) ys = ap (λ (zs : List Demanded). untyped x ∷ zs) (map_append xs ys)

  pub to_untyped : (n : ℕ) (ds : List Demanded) → AreAsked k old new (asked_to k n) ds → map untyped ds ≡ demands_to of n
  unfolding demands_to asked_to AreAsked
  to_untyped zero ds are = ap (map untyped) (are.1 ∙ none are.0 are.2)
    where
      none : (ps : List (List Demanded)) → AllZip (IsAskedBy k old new) [] ps → one_list ps ≡ []
      none [] a = refl
      none (p ∷ ps) a = absurd a
  to_untyped (suc n) ds are =
      let parts = asked_split (asked_to k n) (asks n) ds are in
      ap (map untyped) parts.2 ∙ map_append parts.0 parts.1 ∙ ap (λ (xs : List Demanded). xs ++ map untyped parts.1) (to_untyped n parts.0 parts.3) ∙ ap (λ (xs : List Demanded). demands_to of n ++ xs) (own_untyped n parts.1 parts.4)

  pub each_asked : (size : ℕ) (demands : List Demanded) → AreAsked k old new (asked_to k size) demands → (n : ℕ) → n < size → AreAsked k old new (asks n) (demands_of demands (starts_to of size) n)
  each_asked size demands are n less =
      let rest = asks_begin (suc n) (size - suc n) in
      let whole : asked_to k size ≡ asked_to k n ++ (asks n ++ rest.0) =
      ap (asked_to k) (omega (arith, less)) ∙ rest.1 ∙ ap (λ (xs : List Asking). xs ++ rest.0) (asks_next n) ∙ append_assoc (asked_to k n) (asks n) rest.0 in
      let outer = asked_split (asked_to k n) (asks n ++ rest.0) demands (subst (λ (xs : List Asking). AreAsked k old new xs demands) whole are) in
      let inner = asked_split (asks n) rest.0 outer.1 outer.4 in
      let front : length outer.0 ≡ length (demands_to of n) = sym (length-map outer.0 untyped) ∙ ap length (to_untyped n outer.0 outer.3) in
      let own : length inner.0 ≡ length (of n) = sym (length-map inner.0 untyped) ∙ ap length (own_untyped n inner.0 inner.3) in
      let next : length (demands_to of (suc n)) ≡ length (demands_to of n) + length (of n) = ap length (demands_next of n) ∙ length-append (demands_to of n) (of n) in
      let count : length (demands_to of (suc n)) - length (demands_to of n) ≡ length inner.0 = omega (arith, own, next) in
      let piece : demands_of demands (starts_to of size) n ≡ inner.0 =
      of_node of size demands (to_untyped size demands are) n less
      ∙ ap (λ (m : ℕ). take m (drop (length (demands_to of n)) demands)) count
      ∙ ap (λ (m : ℕ). take (length inner.0) (drop m demands)) (sym front)
      ∙ ap (λ (ds : List Demanded). take (length inner.0) (drop (length outer.0) ds)) outer.2
      ∙ ap (take (length inner.0)) (drop-append_seam outer.0 outer.1 ∙ inner.2)
      ∙ take-append_seam inner.0 inner.1 in
      subst (AreAsked k old new (asks n)) (sym piece) inner.3
