-- Types that are known, by their terms.
use Rattle.std.proofs.Common.{◌≡◌, ◌∙◌, ◌<◌, ◌&&◌, if◌then◌else◌, Bool, true, List, [], ◌∷◌, length, get_or, Option, Some, None, refl, sym, ap, ap₂, arith, lt-ltb}
use Rattle.std.specs.Prelude.{slice_get, is_none}
use Rattle.std.proofs.lemmas.Option.{slice_get-get_or}
use Rattle.clu_types.specs.CluType.{CluType, bool_type}
use Rattle.clu_types.specs.declared.term.TypeId.{TypeId}
use Rattle.clu_types.specs.declared.term.Term.{Term}
use Rattle.clu_types.specs.declared.term.Term.TheVariants as term
use Rattle.clu_types.specs.Arena.{type_at, type_of, types_of, types_at, AreBelow, PartsBelow, IsArena}
use Rattle.clu_types.proofs.Arenas.{type_found}
use Rattle.clu_types.proofs.Parts.{parts_more}
use Rattle.clu_layout.specs.SameType.{same_type, fits}
use Rattle.clu_checking.specs.Operations.{may_fit}
use Rattle.clu_checking.specs.ExpressionRules as rules_of
use Rattle.clu_checking.specs.StatementRules as statements
use Rattle.clu_type_rules.specs.Known.{is_bool, is_iter, tags_of}
use Rattle.clu_type_rules.specs.Included.{is_included, may_be, all_may_be}
use Rattle.clu_passes.specs.FactTables.{IsType, AreTypes}

-- ---- tests on types by their terms

pub bool_same : (types : List CluType) (t : Term) → same_type (type_of types t) bool_type ≡ is_bool t
bool_same types term.Bool = refl
bool_same types _ = refl

pub iterator_same : (types : List CluType) (t : Term) → rules_of.is_iterator (type_of types t) ≡ is_iter t
iterator_same types (term.Iter h) = refl
iterator_same types _ = refl

pub tags_same : (types : List CluType) (t : Term) → is_none (statements.tags_of (type_of types t)) ≡ is_none (tags_of t)
tags_same types (term.Oneof fs) = refl
tags_same types (term.Variant fs) = refl
tags_same types _ = refl

-- ---- a type that is known has a term

pub record IsTerm (terms : List Term) (id : TypeId) (t : CluType) : Type 0 where
  pub its : Term
  pub there : slice_get terms id.0 ≡ Some its
  pub is : t ≡ type_of (types_of terms) its
  pub parts : PartsBelow (length terms) its

module _ (terms : List Term) (arena : IsArena terms) where
  pub term_of_type : (id : TypeId) (t : CluType) → id.0 < length terms → t ≡ type_at (types_of terms) id → IsTerm terms id t
  term_of_type id t within is =
      let its : Term = get_or terms id.0 term.Null in
      let there : slice_get terms id.0 ≡ Some its = slice_get-get_or terms id.0 term.Null within in
      record {
        its = its;
        there = there;
        is = is ∙ type_found terms arena id its there within;
        parts = parts_more id.0 (length terms) (omega (arith, within)) its (arena.parts id.0 term.Null within);
      }

-- ---- inclusion

module _ (terms : List Term) where
  included : (a b : TypeId) → a.0 < length terms → b.0 < length terms → is_included terms a b ≡ fits (type_at (types_of terms) a) (type_at (types_of terms) b)
  included a b in_a in_b =
      ap₂ (λ (x y : Bool). if x && y then fits (type_at (types_of terms) a) (type_at (types_of terms) b) else true) (lt-ltb a.0 (length terms) in_a) (lt-ltb b.0 (length terms) in_b)

  pub may_same : (given : Option TypeId) (t : Option CluType) → IsType terms given t → (wanted : TypeId) → wanted.0 < length terms → may_fit t (type_at (types_of terms) wanted) ≡ may_be terms given (Some wanted)
  may_same None None is wanted within = refl
  may_same None (Some t) is wanted within = absurd is
  may_same (Some id) None is wanted within = absurd is
  may_same (Some id) (Some t) is wanted within = ap (λ (x : CluType). fits x (type_at (types_of terms) wanted)) is.1 ∙ sym (included id wanted is.0 within)

  -- as far as the type that is wanted is known
  pub may_known : (given : Option TypeId) (t : Option CluType) → IsType terms given t → (wanted : Option TypeId) (w : CluType) → IsType terms wanted (Some w) → may_fit t w ≡ may_be terms given wanted
  may_known given t is None w wanted_is = absurd wanted_is
  may_known given t is (Some id) w wanted_is = ap (may_fit t) wanted_is.1 ∙ may_same given t is id wanted_is.0

  pub all_may_same : (given : List (Option TypeId)) (ts : List (Option CluType)) → AreTypes terms given ts → (ids : List TypeId) → AreBelow (length terms) ids → rules_of.all_may_fit ts (types_at (types_of terms) ids) ≡ all_may_be terms given ids
  all_may_same [] [] are [] within = refl
  all_may_same [] [] are (id ∷ ids) within = refl
  all_may_same [] (t ∷ ts) are ids within = absurd are
  all_may_same (g ∷ given) [] are ids within = absurd are
  all_may_same (g ∷ given) (t ∷ ts) are [] within = refl
  all_may_same (g ∷ given) (t ∷ ts) are (id ∷ ids) within = ap₂ (λ (a b : Bool). a && b) (may_same g t are.0 id within.0) (all_may_same given ts are.1 ids within.1)
