-- What the variables of Decls may name, Decl after Decl, and all at once.
use Rattle.std.proofs.Common.{◌≡◌, ◌==◌, ◌∙◌, ℕ, ◌+◌, ◌-◌, ◌<◌, ◌≤◌, ◌&&◌, Bool, true, false, List, [], ◌∷◌, ◌++◌, length, map, drop, Option, Some, refl, sym, ap, arith}
use Rattle.std.proofs.lemmas.Bool.Decides.{nat_tests}
use Rattle.std.proofs.lemmas.List.{drop-map, drop_all, length-append, length-replicate}
use Rattle.clu_base.proofs.Bools.{and_more}
use Rattle.clu_types.specs.declared.term.TypeId.{TypeId}
use Rattle.clu_syntax.specs.Items.{Item}
use Rattle.clu_type_rules.specs.declared.known.Known.{Known}
use Rattle.clu_type_rules.specs.Included.{may_be}
use Rattle.clu_type_rules.specs.Objects.{names, each_may_be, declared_type, variables_of, declared_types, may_name_each}
use Rattle.clu_type_rules.specs.Bindings.{may_name}

pub rest_of : {A B : Type 0} (f : A → B) (n : ℕ) (xs : List A) → map f (drop n xs) ≡ drop n (map f xs)
rest_of f n xs = sym (drop-map f n xs)

pub none_after : {A : Type 0} (n : ℕ) (xs : List A) → length xs ≤ n → drop n xs ≡ []
none_after n xs within = drop_all n xs within

pub and_true : (b : Bool) → (b && true) ≡ b
and_true true = refl
and_true false = refl

too_much : (m rest left : ℕ) → left < m → (m + rest == left) ≡ false
too_much m rest left less = grind (arith, nat_tests)

what_is_left : (m rest left : ℕ) → m ≤ left → (rest == left - m) ≡ (m + rest == left)
what_is_left m rest left within = grind (arith, nat_tests)

module _ (k : Known) where
  -- the first objects may be of the first types, and the others of the rest
  pub each_more : (wanted rest given : List (Option TypeId)) → each_may_be k given (wanted ++ rest) ≡ (each_may_be k given wanted && each_may_be k (drop (length wanted) given) rest)
  each_more [] rest given = refl
  each_more (w ∷ ws) [] [] = refl
  each_more (w ∷ ws) (r ∷ rs) [] = refl
  each_more (w ∷ ws) rest (g ∷ gs) =
      and_more (may_be k.tables.types.now g w) (each_may_be k gs (ws ++ rest)) (each_may_be k gs ws) (each_may_be k (drop (length ws) gs) rest) (each_more ws rest gs)

  -- variables with a type each name what these types say
  pub typed_each : (wanted given : List (Option TypeId)) → each_may_be k given wanted ≡ may_name k (map (λ of. Some of) wanted) given
  typed_each [] given = refl
  typed_each (w ∷ ws) [] = refl
  typed_each (w ∷ ws) (g ∷ gs) = ap (λ (b : Bool). may_be k.tables.types.now g w && b) (typed_each ws gs)

  module _ (items : ℕ → Item) (bad : List Bool) where
    -- Decl after Decl is all at once
    pub all_at_once : (ds : List ℕ) (given : List (Option TypeId)) → may_name_each k items bad given ds ≡ each_may_be k given (declared_types k items bad ds)
    all_at_once [] given = refl
    all_at_once (d ∷ ds) given =
        let first : List (Option TypeId) = variables_of k items bad d in
        ap (λ (b : Bool). each_may_be k given first && b) (all_at_once ds (drop (length (names k d)) given))
        ∙ ap (λ (m : ℕ). each_may_be k given first && each_may_be k (drop m given) (declared_types k items bad ds)) (sym (length-replicate (length (names k d)) (declared_type k items bad d)))
        ∙ sym (each_more first (declared_types k items bad ds) given)

    pub named_each : (ds : List ℕ) (given : List (Option TypeId)) → may_name_each k items bad given ds ≡ may_name k (map (λ of. Some of) (declared_types k items bad ds)) given
    named_each ds given = all_at_once ds given ∙ typed_each (declared_types k items bad ds) given

    one_more : (d : ℕ) (ds : List ℕ) → length (declared_types k items bad (d ∷ ds)) ≡ length (names k d) + length (declared_types k items bad ds)
    one_more d ds =
        length-append (variables_of k items bad d) (declared_types k items bad ds)
        ∙ ap (λ (m : ℕ). m + length (declared_types k items bad ds)) (length-replicate (length (names k d)) (declared_type k items bad d))

    -- more are declared than so many
    pub too_many : (d : ℕ) (ds : List ℕ) (left : ℕ) → left < length (names k d) → (length (declared_types k items bad (d ∷ ds)) == left) ≡ false
    too_many d ds left less =
        ap (λ (m : ℕ). m == left) (one_more d ds) ∙ too_much (length (names k d)) (length (declared_types k items bad ds)) left less

    -- what the other Decls are to declare
    pub as_many : (d : ℕ) (ds : List ℕ) (left : ℕ) → length (names k d) ≤ left → (length (declared_types k items bad ds) == left - length (names k d)) ≡ (length (declared_types k items bad (d ∷ ds)) == left)
    as_many d ds left within =
        what_is_left (length (names k d)) (length (declared_types k items bad ds)) left within ∙ sym (ap (λ (m : ℕ). m == left) (one_more d ds))
