-- Objects and the types that are wanted of them, in lists, by what is known of both.
use Rattle.std.proofs.Common.{◌≡◌, ◌∙◌, ◌==◌, ℕ, suc, Bool, true, false, ◌&&◌, List, [], ◌∷◌, ◌++◌, length, drop, Option, Some, None, refl, sym, ap, ap₂, arith}
use Rattle.std.proofs.Math.Bool.{and-true}
use Rattle.std.proofs.lemmas.Bool.{eq-eqb, eqb-true, eqb-false, ne_eqb}
use Rattle.std.proofs.lemmas.List.{length-replicate}
use Rattle.clu_base.proofs.Bools.{and_more}
use Rattle.clu_types.specs.CluType.{CluType, string_type, CluTypes, no_types, type_and}
use Rattle.clu_types.specs.declared.term.TypeId.{TypeId}
use Rattle.clu_types.specs.declared.term.Term.{Term}
use Rattle.clu_types.specs.declared.term.Term.TheVariants as term
use Rattle.clu_types.specs.Arena.{type_of, types_of, IsArena}
use Rattle.clu_syntax.specs.Items.{Item}
use Rattle.clu_layout.specs.SameType.{fits}
use Rattle.clu_checking.specs.Operations.{may_fit}
use Rattle.clu_checking.specs.ExpressionRules.{count, all_may_fit}
use Rattle.clu_checking.specs.ExpressionRules as expressions
use Rattle.clu_checking.specs.ExceptionRules as checking
use Rattle.clu_checking.specs.ExceptionRules.{one_string}
use Rattle.clu_checking.specs.StatementRules.{fit, as_list, known}
use Rattle.clu_type_rules.specs.declared.known.Known.{Known}
use Rattle.clu_type_rules.specs.Known.{term_of}
use Rattle.clu_type_rules.specs.Included.{may_be}
use Rattle.clu_type_rules.specs.Objects as of_objects
use Rattle.clu_type_rules.specs.ExceptionRules.{is_string, may_be_string, is_string_or_any, may_name_string, is_one_string}
use Rattle.clu_passes.specs.FactTables.{IsType, AreTypes}
use Rattle.clu_passes.proofs.FactTypes.{IsTerm, term_of_type, may_known}
use Rattle.clu_passes.proofs.Invoked.{lengths}

next_equal : (a b : ℕ) → (suc a == suc b) ≡ (a == b)
next_equal a b = by (a == b) refl
  where
    by : (t : Bool) → (a == b) ≡ t → (suc a == suc b) ≡ t
    by true is = let same : a ≡ b = eqb-true a b is in eq-eqb (suc a) (suc b) (ap suc same)
    by false is = ne_eqb (suc a) (suc b) (λ e. eqb-false a b is (omega (arith, e)))

string_fits : (types : List CluType) (its : Term) → fits (type_of types its) string_type ≡ is_string its
string_fits types term.Str = refl
string_fits types _ = refl

fits_string : (types : List CluType) (its : Term) → fits string_type (type_of types its) ≡ is_string_or_any its
fits_string types term.Str = refl
fits_string types term.Any = refl
fits_string types _ = refl

module _ (k : Known) where
  abbrev terms : List Term
  terms = k.tables.types.now

  -- types that are wanted, each by its number
  abbrev pub AreWanted : List (Option TypeId) → CluTypes → Type 0
  AreWanted os ws = AreTypes terms os (known (as_list ws))

  counted : (os : List (Option TypeId)) (ws : CluTypes) → AreWanted os ws → count ws ≡ length os
  counted [] no_types are = refl
  counted [] (type_and w ws) are = absurd are
  counted (o ∷ os) no_types are = absurd are
  counted (o ∷ os) (type_and w ws) are = ap suc (counted os ws are.1)

  each_same : (gs : List (Option TypeId)) (ts : List (Option CluType)) → AreTypes terms gs ts → (os : List (Option TypeId)) (ws : CluTypes) → AreWanted os ws → all_may_fit ts ws ≡ of_objects.each_may_be k gs os
  each_same [] [] are [] no_types wanted = refl
  each_same [] [] are [] (type_and w ws) wanted = absurd wanted
  each_same [] [] are (o ∷ os) ws wanted = refl
  each_same [] (t ∷ ts) are os ws wanted = absurd are
  each_same (g ∷ gs) [] are os ws wanted = absurd are
  each_same (g ∷ gs) (t ∷ ts) are [] no_types wanted = refl
  each_same (g ∷ gs) (t ∷ ts) are [] (type_and w ws) wanted = absurd wanted
  each_same (g ∷ gs) (t ∷ ts) are (o ∷ os) no_types wanted = absurd wanted
  each_same (g ∷ gs) (t ∷ ts) are (o ∷ os) (type_and w ws) wanted = ap₂ (λ (a b : Bool). a && b) (may_known terms g t are.0 o w wanted.0) (each_same gs ts are.1 os ws wanted.1)

  pub fit_same : (gs : List (Option TypeId)) (ts : List (Option CluType)) → AreTypes terms gs ts → (os : List (Option TypeId)) (ws : CluTypes) → AreWanted os ws → fit ts ws ≡ of_objects.fit k gs os
  fit_same gs ts are os ws wanted =
      ap₂ (λ (a b : Bool). a && b)
      (ap₂ (λ (m n : ℕ). m == n) (lengths terms gs ts are) (counted os ws wanted))
      (each_same gs ts are os ws wanted)

  -- as far as the types that are wanted are known
  may_any : (g : Option TypeId) (t : Option CluType) → IsType terms g t → (o : Option TypeId) (w : Option CluType) → IsType terms o w → expressions.may_be t w ≡ may_be terms g o
  may_any None t is None None wanted = refl
  may_any (Some g) t is None None wanted = refl
  may_any g t is None (Some w) wanted = absurd wanted
  may_any g t is (Some o) None wanted = absurd wanted
  may_any g t is (Some o) (Some w) wanted = may_known terms g t is (Some o) w wanted

  turned : (a l e : Bool) → (a && (l && e)) ≡ (l && (a && e))
  turned true l e = refl
  turned false true e = refl
  turned false false e = refl

  pub each_may_same : (gs : List (Option TypeId)) (ts : List (Option CluType)) → AreTypes terms gs ts → (os : List (Option TypeId)) (ws : List (Option CluType)) → AreTypes terms os ws → checking.each_may_be ts ws ≡ (length os == length gs && of_objects.each_may_be k gs os)
  each_may_same [] [] are [] [] wanted = refl
  each_may_same [] [] are [] (w ∷ ws) wanted = absurd wanted
  each_may_same [] [] are (o ∷ os) [] wanted = absurd wanted
  each_may_same [] [] are (o ∷ os) (w ∷ ws) wanted = sym (ap (λ (b : Bool). b && of_objects.each_may_be k [] (o ∷ os)) (ne_eqb (length (o ∷ os)) 0 (λ e. omega (arith, e))))
  each_may_same [] (t ∷ ts) are os ws wanted = absurd are
  each_may_same (g ∷ gs) [] are os ws wanted = absurd are
  each_may_same (g ∷ gs) (t ∷ ts) are [] [] wanted = sym (ap (λ (b : Bool). b && of_objects.each_may_be k (g ∷ gs) []) (ne_eqb 0 (length (g ∷ gs)) (λ e. omega (arith, e))))
  each_may_same (g ∷ gs) (t ∷ ts) are [] (w ∷ ws) wanted = absurd wanted
  each_may_same (g ∷ gs) (t ∷ ts) are (o ∷ os) [] wanted = absurd wanted
  each_may_same (g ∷ gs) (t ∷ ts) are (o ∷ os) (w ∷ ws) wanted =
      ap₂ (λ (a b : Bool). a && b) (may_any g t are.0 o w wanted.0) (each_may_same gs ts are.1 os ws wanted.1)
      ∙ turned (may_be terms g o) (length os == length gs) (of_objects.each_may_be k gs os)
      ∙ ap (λ (b : Bool). b && of_objects.each_may_be k (g ∷ gs) (o ∷ os)) (sym (next_equal (length os) (length gs)))

  -- ---- variables, Decl after Decl and all at once

  each_more : (wanted rest given : List (Option TypeId)) → of_objects.each_may_be k given (wanted ++ rest) ≡ (of_objects.each_may_be k given wanted && of_objects.each_may_be k (drop (length wanted) given) rest)
  each_more [] rest given = refl
  each_more (w ∷ ws) [] [] = refl
  each_more (w ∷ ws) (r ∷ rs) [] = refl
  each_more (w ∷ ws) rest (g ∷ gs) =
      and_more (may_be terms g w) (of_objects.each_may_be k gs (ws ++ rest)) (of_objects.each_may_be k gs ws) (of_objects.each_may_be k (drop (length ws) gs) rest) (each_more ws rest gs)

  pub all_at_once : (items : ℕ → Item) (bad : List Bool) (ds : List ℕ) (given : List (Option TypeId)) → of_objects.may_name_each k items bad given ds ≡ of_objects.each_may_be k given (of_objects.declared_types k items bad ds)
  all_at_once items bad [] given = refl
  all_at_once items bad (d ∷ ds) given =
      let first : List (Option TypeId) = of_objects.variables_of k items bad d in
      ap (λ (b : Bool). of_objects.each_may_be k given first && b) (all_at_once items bad ds (drop (length (of_objects.names k d)) given))
      ∙ ap (λ (m : ℕ). of_objects.each_may_be k given first && of_objects.each_may_be k (drop m given) (of_objects.declared_types k items bad ds)) (sym (length-replicate (length (of_objects.names k d)) (of_objects.declared_type k items bad d)))
      ∙ sym (each_more first (of_objects.declared_types k items bad ds) given)

  module _ (arena : IsArena terms) where
    may_string : (o : Option TypeId) (t : Option CluType) → IsType terms o t → may_fit t string_type ≡ may_be_string (term_of k o)
    may_string None None is = refl
    may_string None (Some t) is = absurd is
    may_string (Some id) None is = absurd is
    may_string (Some id) (Some t) is =
        let x : IsTerm terms id t = term_of_type terms arena id t is.0 is.1 in
        ap (λ (t : CluType). fits t string_type) x.is ∙ string_fits (types_of terms) x.its ∙ ap may_be_string (sym x.there)

    pub one_string_same : (gs : List (Option TypeId)) (ts : List (Option CluType)) → AreTypes terms gs ts → fit ts one_string ≡ is_one_string k gs
    one_string_same [] [] are = refl
    one_string_same [] (t ∷ ts) are = absurd are
    one_string_same (g ∷ gs) [] are = absurd are
    one_string_same (g ∷ []) (t ∷ []) are = and-true (may_fit t string_type) ∙ may_string g t are.0
    one_string_same (g ∷ []) (t ∷ u ∷ ts) are = absurd are.1
    one_string_same (g ∷ h ∷ gs) (t ∷ []) are = absurd are.1
    one_string_same (g ∷ h ∷ gs) (t ∷ u ∷ ts) are = ap (λ (b : Bool). b && (may_fit t string_type && true)) (ne_eqb (length (t ∷ u ∷ ts)) 1 (λ e. omega (arith, e)))

    -- a variable of this type takes a string
    pub takes_string_same : (o : Option TypeId) (t : CluType) → IsType terms o (Some t) → fits string_type t ≡ may_name_string (term_of k o)
    takes_string_same None t is = absurd is
    takes_string_same (Some id) t is =
        let x : IsTerm terms id t = term_of_type terms arena id t is.0 is.1 in
        ap (fits string_type) x.is ∙ fits_string (types_of terms) x.its ∙ ap may_name_string (sym x.there)
