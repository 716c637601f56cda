-- One type in the place of another.
use Rattle.std.proofs.Common.{◌≡◌, ◌∙◌, ◌↔◌, inl, inr, ℕ, ◌+◌, ◌<◌, Bool, true, false, if◌then◌else◌, IsTrue, List, [], ◌∷◌, ◌++◌, length, take, get_or, refl, sym, ap₂}
use Rattle.std.proofs.lemmas.Bool.{true≢false}
use Rattle.std.proofs.lemmas.List.{take_more}
use Rattle.clu_types.specs.CluType.{CluType, CluTypes, no_types, type_and}
use Rattle.clu_types.specs.Arena.{type_at, types_at, AreBelow, HeadingBelow, PartsBelow}
use Rattle.clu_types.specs.declared.term.TypeId.{TypeId}
use Rattle.clu_types.specs.declared.term.Heading.{Heading}
use Rattle.clu_operations.specs.Builtins.{IsReplaced, AreReplaced, routine_term}

-- ---- numbers

pub put_one : (types : List CluType) (part of id : TypeId) (same : Bool) → IsTrue same ↔ (type_at types id ≡ type_at types part)
    → IsReplaced (type_at types part) (type_at types of) (type_at types id) (type_at types (if same then of else id))
put_one types part of id true is = inl (is.0 refl, refl)
put_one types part of id false is = inr (λ e. true≢false (sym (is.1 e)), refl)

pub put_below : (n : ℕ) (of id : TypeId) (same : Bool) → of.0 < n → id.0 < n → (if same then of else id).0 < n
put_below n of id true in_of in_id = in_of
put_below n of id false in_of in_id = in_id

module _ (types : List CluType) (n : ℕ) (part of : TypeId) where
  -- one more behind those that were put
  put_behind : (done made : List TypeId) (id put : TypeId) → AreReplaced (type_at types part) (type_at types of) (types_at types done) (types_at types made)
      → IsReplaced (type_at types part) (type_at types of) (type_at types id) (type_at types put)
      → AreReplaced (type_at types part) (type_at types of) (types_at types (done ++ id ∷ [])) (types_at types (made ++ put ∷ []))
  put_behind [] [] id put are is = (is, tt)
  put_behind [] (m ∷ made) id put are is = absurd are
  put_behind (d ∷ done) [] id put are is = absurd are
  put_behind (d ∷ done) (m ∷ made) id put are is = (are.0, put_behind done made id put are.1 is)

  below_behind : (made : List TypeId) (put : TypeId) → AreBelow n made → put.0 < n → AreBelow n (made ++ put ∷ [])
  below_behind [] put below lt = (lt, tt)
  below_behind (m ∷ made) put below lt = (below.0, below_behind made put below.1 lt)

  -- what a loop has made of those that are done
  pub record ArePlaced (done made : List TypeId) : Type 0 where
    pub put : AreReplaced (type_at types part) (type_at types of) (types_at types done) (types_at types made)
    pub below : AreBelow n made

  pub placed_none : ArePlaced [] []
  placed_none = record { put = tt; below = tt }

  pub placed_more : (ids made : List TypeId) (i : ℕ) (d put : TypeId) → i < length ids → ArePlaced (take i ids) made
      → IsReplaced (type_at types part) (type_at types of) (type_at types (get_or ids i d)) (type_at types put) → put.0 < n → ArePlaced (take (i + 1) ids) (made ++ put ∷ [])
  placed_more ids made i d put lt placed is within =
      rw (take_more ids i d lt) (record { put = put_behind (take i ids) made (get_or ids i d) put placed.put is; below = below_behind made put placed.below within })

-- ---- where both types are the same one

same_one : (part t u : CluType) → IsReplaced part part t u → u ≡ t
same_one part t u (inl put) = put.1 ∙ sym put.0
same_one part t u (inr put) = put.1

pub same_put : (part : CluType) (ts us : CluTypes) → AreReplaced part part ts us → us ≡ ts
same_put part no_types no_types put = refl
same_put part no_types (type_and u us) put = absurd put
same_put part (type_and t ts) no_types put = absurd put
same_put part (type_and t ts) (type_and u us) put = ap₂ type_and (same_one part t u put.0) (same_put part ts us put.1)

-- ---- the term of a routine

pub routine_below : (n : ℕ) (iter : Bool) (heading : Heading) → HeadingBelow n heading → PartsBelow n (routine_term iter heading)
routine_below n true heading below = below
routine_below n false heading below = below
