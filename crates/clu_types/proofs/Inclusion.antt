-- Inclusion of routine types, by the numbers of their parts and by their types.
use Rattle.std.proofs.Common.{◌≡◌, ℕ, ◌-◌, ◌<◌, ◌≤◌, List, [], ◌∷◌, length, get_or, take, drop, ap, sym, ◌∙◌, inl, inr, Bool, IsTrue, arith, subst}
use Rattle.std.proofs.lemmas.List.{take_rest}
use Rattle.clu_types.specs.CluType.{CluType}
use Rattle.clu_types.specs.Arena.{type_at, types_at, signals_at, types_of, AreBelow, SignalsBelow, HeadingBelow, PartsBelow, IsArena, type_of}
use Rattle.clu_types.specs.Included.{HasSignal, AreAmong, IsNarrower}
use Rattle.clu_types.specs.Narrower.{HasException, AreExceptionsOf, AreAmongThese, IsNarrowerHeading}
use Rattle.clu_types.specs.declared.term.TypeId.{TypeId}
use Rattle.clu_types.specs.declared.term.Exception.{Exception}
use Rattle.clu_types.specs.declared.term.Heading.{Heading}
use Rattle.clu_types.specs.declared.term.Term.{Term}
use Rattle.clu_types.specs.declared.term.Term.TheVariants as term
use Rattle.clu_types.proofs.Parts.{ids_back, signal_back, parts_more}
use Rattle.clu_types.proofs.Arenas.{distinct}

abbrev IsNarrowerAt : List CluType → Heading → Heading → Type 0
IsNarrowerAt ks narrow wide =
    (types_at ks narrow.args ≡ types_at ks wide.args) × (types_at ks narrow.results ≡ types_at ks wide.results) × AreAmong (signals_at ks narrow.signals) (signals_at ks wide.signals)

module _ (ks : List CluType) (n : ℕ) (different : (a b : TypeId) → a.0 < n → b.0 < n → type_at ks a ≡ type_at ks b → a ≡ b) where
  has_signal : (s : Exception) (many : List Exception) → HasException s many → HasSignal s.name (types_at ks s.objects) (signals_at ks many)
  has_signal s [] h = h
  has_signal s (x ∷ many) h =
      elim h [ inl e ↦ inl (ap (λ (s : Exception). s.name) e, ap (λ (s : Exception). types_at ks s.objects) e) | inr h ↦ inr (has_signal s many h) ]

  has_exception : (s : Exception) (many : List Exception) → AreBelow n s.objects → SignalsBelow n many → HasSignal s.name (types_at ks s.objects) (signals_at ks many) → HasException s many
  has_exception s [] b bs h = h
  has_exception s (x ∷ many) b bs h =
      elim h [ inl e ↦ inl (signal_back ks n different x s bs.0 b e.0 e.1) | inr h ↦ inr (has_exception s many b bs.1 h) ]

  are_among : (few many : List Exception) → AreExceptionsOf few many → AreAmong (signals_at ks few) (signals_at ks many)
  are_among [] many h = tt
  are_among (s ∷ few) many h = (has_signal s many h.0, are_among few many h.1)

  are_exceptions : (few many : List Exception) → SignalsBelow n few → SignalsBelow n many → AreAmong (signals_at ks few) (signals_at ks many) → AreExceptionsOf few many
  are_exceptions [] many b bs h = tt
  are_exceptions (s ∷ few) many b bs h = (has_exception s many b.0 bs h.0, are_exceptions few many b.1 bs h.1)

  narrower_at : (narrow wide : Heading) → IsNarrowerHeading narrow wide → IsNarrowerAt ks narrow wide
  narrower_at narrow wide h = (ap (types_at ks) h.0, ap (types_at ks) h.1, are_among narrow.signals wide.signals h.2)

  narrower_back : (narrow wide : Heading) → HeadingBelow n narrow → HeadingBelow n wide → IsNarrowerAt ks narrow wide → IsNarrowerHeading narrow wide
  narrower_back narrow wide p q h =
      (ids_back ks n different narrow.args wide.args p.0 q.0 h.0, ids_back ks n different narrow.results wide.results p.1 q.1 h.1, are_exceptions narrow.signals wide.signals p.2 q.2 h.2)

pub narrower : (ts : List Term) → IsArena ts → (narrow wide : Heading) → HeadingBelow (length ts) narrow → HeadingBelow (length ts) wide
    → (IsNarrowerHeading narrow wide → IsNarrowerAt (types_of ts) narrow wide) × (IsNarrowerAt (types_of ts) narrow wide → IsNarrowerHeading narrow wide)
narrower ts arena narrow wide p q =
    (narrower_at (types_of ts) (length ts) (distinct ts arena) narrow wide, narrower_back (types_of ts) (length ts) (distinct ts arena) narrow wide p q)

-- what a test of two headings says of the types of two proctypes
pub narrower_procs : (ts : List Term) → IsArena ts → (a b : TypeId) (s t : Term) (narrow wide : Heading)
    → s ≡ term.Proc narrow → t ≡ term.Proc wide → a.0 < length ts → b.0 < length ts → PartsBelow a.0 s → PartsBelow b.0 t
    → type_at (types_of ts) a ≡ type_of (types_of ts) s → type_at (types_of ts) b ≡ type_of (types_of ts) t
    → (r : Bool) → (IsTrue r → IsNarrowerHeading narrow wide) × (IsNarrowerHeading narrow wide → IsTrue r)
    → (IsTrue r → IsNarrower (type_at (types_of ts) a) (type_at (types_of ts) b)) × (IsNarrower (type_at (types_of ts) a) (type_at (types_of ts) b) → IsTrue r)
narrower_procs ts arena a b s t narrow wide s_is t_is in_a in_b parts_a parts_b type_a type_b r says =
    let in_narrow : HeadingBelow (length ts) narrow = parts_more a.0 (length ts) (omega arith) (term.Proc narrow) (subst (PartsBelow a.0) s_is parts_a) in
    let in_wide : HeadingBelow (length ts) wide = parts_more b.0 (length ts) (omega arith) (term.Proc wide) (subst (PartsBelow b.0) t_is parts_b) in
    let both = narrower ts arena narrow wide in_narrow in_wide in
    rw (type_a, type_b, s_is, t_is) (λ e. both.0 (says.0 e), λ h. says.1 (both.1 h))

-- and of two itertypes
pub narrower_iters : (ts : List Term) → IsArena ts → (a b : TypeId) (s t : Term) (narrow wide : Heading)
    → s ≡ term.Iter narrow → t ≡ term.Iter wide → a.0 < length ts → b.0 < length ts → PartsBelow a.0 s → PartsBelow b.0 t
    → type_at (types_of ts) a ≡ type_of (types_of ts) s → type_at (types_of ts) b ≡ type_of (types_of ts) t
    → (r : Bool) → (IsTrue r → IsNarrowerHeading narrow wide) × (IsNarrowerHeading narrow wide → IsTrue r)
    → (IsTrue r → IsNarrower (type_at (types_of ts) a) (type_at (types_of ts) b)) × (IsNarrower (type_at (types_of ts) a) (type_at (types_of ts) b) → IsTrue r)
narrower_iters ts arena a b s t narrow wide s_is t_is in_a in_b parts_a parts_b type_a type_b r says =
    let in_narrow : HeadingBelow (length ts) narrow = parts_more a.0 (length ts) (omega arith) (term.Iter narrow) (subst (PartsBelow a.0) s_is parts_a) in
    let in_wide : HeadingBelow (length ts) wide = parts_more b.0 (length ts) (omega arith) (term.Iter wide) (subst (PartsBelow b.0) t_is parts_b) in
    let both = narrower ts arena narrow wide in_narrow in_wide in
    rw (type_a, type_b, s_is, t_is) (λ e. both.0 (says.0 e), λ h. says.1 (both.1 h))

-- a list is its first exception and the others
in_two : (xs : List Exception) (d : Exception) → 1 ≤ length xs → xs ≡ get_or xs 0 d ∷ take (length xs - 1) (drop 1 xs)
in_two [] d some = absurd (omega arith)
in_two (x ∷ xs) d some = ap (λ (rest : List Exception). x ∷ rest) (sym (take_rest (x ∷ xs) 1))

-- the first is the wanted one
pub found_first : (xs all : List Exception) (first wanted : Exception) → 1 ≤ length xs → first ≡ get_or xs 0 first → first ≡ wanted → AreAmongThese xs all
    → HasException wanted all × AreAmongThese (take (length xs - 1) (drop 1 xs)) all
found_first xs all first wanted some is same among =
    let both : xs ≡ first ∷ take (length xs - 1) (drop 1 xs) = in_two xs first some ∙ ap (λ (x : Exception). x ∷ take (length xs - 1) (drop 1 xs)) (sym is) in
    let those = subst (λ (ys : List Exception). AreAmongThese ys all) both among in
    (those wanted (inl same), λ e h. those e (inr h))

-- it is another one
pub after_first : (xs all : List Exception) (first wanted : Exception) → 1 ≤ length xs → first ≡ get_or xs 0 first → (first ≡ wanted → ⊥)
    → (HasException wanted all → HasException wanted xs) × AreAmongThese xs all
    → (HasException wanted all → HasException wanted (take (length xs - 1) (drop 1 xs))) × AreAmongThese (take (length xs - 1) (drop 1 xs)) all
after_first xs all first wanted some is other known =
    let rest : List Exception = take (length xs - 1) (drop 1 xs) in
    let both : xs ≡ first ∷ rest = in_two xs first some ∙ ap (λ (x : Exception). x ∷ rest) (sym is) in
    let those = subst (λ (ys : List Exception). (HasException wanted all → HasException wanted ys) × AreAmongThese ys all) both known in
    (λ h. elim (those.0 h) [ inl e ↦ absurd (other e) | inr there ↦ there ], λ e h. those.1 e (inr h))
