-- Pieces on a stack, and the texts of what they stand for.
use Rattle.std.proofs.Common.{◌≡◌, ℕ, ◌-◌, ◌≤◌, List, [], ◌∷◌, ◌++◌, length, take, drop, get_or, Result, Ok, Err, OnOk, refl, sym, ap, ◌∙◌, arith}
use Rattle.std.proofs.lemmas.List.{get_or_past}
use Rattle.std.proofs.Math.Seq.{take-length}
use Rattle.clu_types.specs.CluType.{CluType, null_type}
use Rattle.clu_types.specs.Arena.{type_at, types_at, actuals_at, types_of}
use Rattle.clu_types.specs.declared.term.TypeId.{TypeId}
use Rattle.clu_types.specs.declared.term.Actual.{Actual}
use Rattle.clu_types.specs.declared.term.Actual.TheVariants as actual
use Rattle.clu_types.specs.declared.term.Term.{Term}
use Rattle.clu_types.proofs.Arenas.{length-types_of}
use Rattle.clu_specs.specs.declared.pieces.Piece.{Piece}
use Rattle.clu_specs.specs.Pieces.{piece_text, stack_text, stack_over}
use Rattle.clu_specs.specs.Texts.{type_text, types_text, more_types_text, actual_text, more_actuals_text, all_actuals_text}

-- a number that is none of the arena's
pub null_outside : (terms : List Term) (id : TypeId) → length terms ≤ id.0 → type_at (types_of terms) id ≡ null_type
null_outside terms id out =
    let past : length (types_of terms) ≤ id.0 = omega (arith, length-types_of terms) in
    get_or_past (types_of terms) id.0 null_type past

module _ (ks : List CluType) where
  -- the first type and those after it
  pub first_shown : (ids : List TypeId) (d : TypeId) → 1 ≤ length ids
      → types_text (types_at ks ids) ≡ type_text (type_at ks (get_or ids 0 d)) ++ more_types_text (types_at ks (take (length ids - 1) (drop 1 ids)))
  first_shown [] d lt = absurd (omega (arith, lt))
  first_shown (id ∷ ids) d lt =
      let all : length (id ∷ ids) - 1 ≡ length ids = omega arith in
      ap (λ (xs : List TypeId). type_text (type_at ks id) ++ more_types_text (types_at ks xs)) (sym (ap (λ (n : ℕ). take n ids) all ∙ take-length ids))

  pub more_actuals_shown : (a : Actual) (rest : List Actual) → more_actuals_text (actuals_at ks (a ∷ rest)) ≡ 44 ∷ (actual_text ks a ++ more_actuals_text (actuals_at ks rest))
  more_actuals_shown (actual.Of id) rest = refl
  more_actuals_shown (actual.Const c) rest = refl
  more_actuals_shown (actual.ConstParam n) rest = refl

  pub all_actuals_shown : (a : Actual) (rest : List Actual) → all_actuals_text (actuals_at ks (a ∷ rest)) ≡ 91 ∷ ((actual_text ks a ++ more_actuals_text (actuals_at ks rest)) ++ 93 ∷ [])
  all_actuals_shown (actual.Of id) rest = refl
  all_actuals_shown (actual.Const c) rest = refl
  all_actuals_shown (actual.ConstParam n) rest = refl

  -- pieces that are put on a stack
  pub over_more : (below : List ℕ) (xs ys : List Piece) → stack_over ks below (xs ++ ys) ≡ stack_over ks (stack_over ks below xs) ys
  over_more below [] ys = refl
  over_more below (x ∷ xs) ys = over_more (piece_text ks x ++ below) xs ys

  -- the piece that is taken off a stack
  pub over_last : (xs : List Piece) (x : Piece) → stack_text ks (xs ++ x ∷ []) ≡ piece_text ks x ++ stack_text ks xs
  over_last xs x = over_more [] xs (x ∷ [])

  -- the parts of a piece in its place
  pub parts_pushed : {T E : Type 0} (r : Result T E) (out : List ℕ) (old new : List Piece) (p q : Piece) → p ≡ q
      → OnOk r (stack_text ks new ≡ piece_text ks q ++ stack_text ks old) → OnOk r (out ++ stack_text ks new ≡ out ++ (piece_text ks p ++ stack_text ks old))
  parts_pushed (Ok x) out old new p q same e = ap (λ (t : List ℕ). out ++ t) (e ∙ ap (λ (y : Piece). piece_text ks y ++ stack_text ks old) (sym same))
  parts_pushed (Err x) out old new p q same e = e
