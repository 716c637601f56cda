-- Expressions that keep the rules are well typed in each instance of their text, with the actuals put in: literals, operators and
-- other sugar, and calls.
use Rattle.std.proofs.Common.{◌≡◌, ℕ, Bool, true, false, List, [], ◌∷◌, ◌++◌, Option, None, Some, refl, sym, ap, ap₂, subst, ◌∙◌}
use Rattle.std.specs.Prelude.{◌&&◌, ◌||◌, not, bytes_eq, codes}
use Rattle.std.specs.List.{list_any}
use Rattle.std.specs.Option.{option_map, option_and_then}
use Rattle.std.proofs.lemmas.Bool.{and_parts, and_from, or_parts}
use Rattle.clu_base.specs.declared.constants.Const.{Const}
use Rattle.clu_base.specs.declared.constants.Const.TheVariants as constant_of
use Rattle.clu_base.specs.declared.rules.Rule.TheVariants as rule
use Rattle.clu_tree.specs.declared.node.NodeKind.{NodeKind}
use Rattle.clu_tree.specs.declared.node.NodeKind.TheVariants as kind
use Rattle.clu_types.specs.CluType.{CluType, bool_type, char_type, string_type, proc_of, CluTypes, no_types, type_and, Signals, Actuals}
use Rattle.clu_types.specs.Substituted.{substituted, types_substituted, signals_substituted}
use Rattle.clu_base.proofs.Bools.{of_three}
use Rattle.clu_literal.specs.Literal.{string_denoted, char_denoted}
use Rattle.clu_builtin.specs.Operation.{one}
use Rattle.clu_layout.specs.Objects.{Routine, object_of, own_type}
use Rattle.clu_layout.specs.SameType.{same_type, fits, all_fit}
use Rattle.clu_layout.proofs.SameTypeLaws.{types_are}
use Rattle.clu_syntax.specs.declared.words.Operator.{Operator}
use Rattle.clu_syntax.specs.declared.words.Operator.TheVariants as operator
use Rattle.clu_syntax.specs.declared.words.Sign.{Sign}
use Rattle.clu_syntax.specs.declared.words.Sign.TheVariants as sign_of
use Rattle.clu_syntax.specs.Syntax.{Cluster, Literal, Expression, an_infix, a_prefix, a_paren, a_literal, a_get, a_call, Expressions, no_expressions, expression_and, Identifier}
use Rattle.clu_syntax.specs.Syntax as syntax
use Rattle.clu_meaning.specs.Constants.{denoted, Sugar, is_cand, is_cor, is_operation, is_negated, sugar, prefix_name}
use Rattle.clu_meaning.specs.Programs as program_of
use Rattle.clu_meaning.specs.Programs.{Program}
use Rattle.clu_meaning.specs.Resolving.{Place, constant_expression, infix_of, expression, expressions}
use Rattle.clu_meaning.specs.Settling.{constant_value}
use Rattle.clu_meaning.specs.Binding.{Running}
use Rattle.clu_checking.specs.Files.{File, item}
use Rattle.clu_checking.specs.Headings.{specification}
use Rattle.clu_checking.specs.Operations.{Found, operation_found}
use Rattle.clu_checking.specs.Typing.{literal_type, result_of, sugar_type, infix_type, type_of}
use Rattle.clu_checking.specs.Wanted.{Wanted, an_object, wanted}
use Rattle.clu_checking.specs.Raising as raising
use Rattle.clu_checking.specs.Invocations as invocations
use Rattle.clu_checking.specs.Invocations.{Invocation, is_object_wanted, if_object, types_of}
use Rattle.clu_checking.specs.ExpressionRules.{has_not_one_result, is_loop_call, is_other_than, has_no_bool_operand, is_no_condition}
use Rattle.clu_checking.specs.StatementRules.{v16_in}
use Rattle.laws_sound.specs.Raises.{Raise}
use Rattle.laws_sound.specs.Sound.{LawfulBy}
use Rattle.laws_sound.specs.WellTyped.{HasTypes, HaveTypes, HasOperation}
use Rattle.laws_sound.proofs.Transitive.{trans_all}
use Rattle.laws_accepted.specs.Legal.{Specified, Context, is_legal, types_legal, signals_legal}
use Rattle.laws_accepted.specs.Lawful.{Routines, is_lawful}
use Rattle.laws_accepted.specs.Instances.{AsSpecified}
use Rattle.laws_accepted.specs.Standing.{MayRaise, NodeStands, ExpressionAt}
use Rattle.laws_accepted.proofs.PutIn.{all_put}
use Rattle.laws_accepted.proofs.OfKinds.{no}
use Rattle.laws_accepted.proofs.Meeting.{some_is, none_some}
use Rattle.laws_accepted.proofs.Invocations.{known_types, IsSugar, invoked_is, narrow_is, raises_among, same_by}
use Rattle.laws_accepted.proofs.FoundRuns.{fits_itself}
use Rattle.laws_accepted.proofs.AtNodes.{Kept, EachKept, second_false, invocations_kept, one_wanted}
use Rattle.laws_accepted.proofs.Raised.{raise_front, raise_behind, raise_invoked}
use Rattle.laws_accepted.proofs.Sugared.{one_result, Sugared, sugared, found_is, sugared_operation}

-- ---- names of sugar

abbrev plain_name : Identifier → Bool
plain_name name = not (bytes_eq (codes "similar") name) && not (bytes_eq (codes "copy") name)

pub is_sugar : (name : Identifier) → plain_name name ≡ true → IsSugar name
is_sugar name h =
    let p = and_parts (not (bytes_eq (codes "similar") name)) (not (bytes_eq (codes "copy") name)) h in
    record { first = not_false (bytes_eq (codes "similar") name) p.0; second = not_false (bytes_eq (codes "copy") name) p.1 }
  where
    not_false : (b : Bool) → not b ≡ true → b ≡ false
    not_false false e = refl
    not_false true e = no e

abbrev plain_sugar : Sugar → Bool
plain_sugar is_cand = true
plain_sugar is_cor = true
plain_sugar (is_operation name) = plain_name name
plain_sugar (is_negated name) = plain_name name

operators_plain : (op : Operator) → plain_sugar (sugar op) ≡ true
operators_plain operator.Power = refl
operators_plain _ = refl

signs_plain : (s : Sign) → plain_name (prefix_name s) ≡ true
signs_plain sign_of.Not = refl
signs_plain sign_of.Minus = refl

-- ---- bool where it is wanted

pub bool_is : (o : Option CluType) (t : CluType) → o ≡ Some t → is_other_than bool_type o ≡ false → t ≡ bool_type
bool_is o t e h = by (same_type t bool_type) refl (sym (ap (is_other_than bool_type) e) ∙ h)
  where
    by : (b : Bool) → same_type t bool_type ≡ b → not b ≡ false → t ≡ bool_type
    by true is k = types_are t bool_type is
    by false is k = no (sym k)

constant_typed : (l : Literal) (c : Const) → denoted l ≡ Some c → literal_type l ≡ Some (own_type (object_of c))
constant_typed syntax.nil c e = ap (λ x. Some (own_type (object_of x))) (some_is e)
constant_typed syntax.true_literal c e = ap (λ x. Some (own_type (object_of x))) (some_is e)
constant_typed syntax.false_literal c e = ap (λ x. Some (own_type (object_of x))) (some_is e)
constant_typed (syntax.integer digits) c e = ap (λ x. Some (own_type (object_of x))) (some_is e)
constant_typed (syntax.real text) c e = absurd (none_some e)
constant_typed (syntax.character text) c e = character (char_denoted text) e
  where
    character : (o : Option ℕ) → option_map constant_of.Char o ≡ Some c → Some char_type ≡ Some (own_type (object_of c))
    character (Some x) e = ap (λ x. Some (own_type (object_of x))) (some_is e)
    character None e = absurd (none_some e)
constant_typed (syntax.string text) c e = string (string_denoted text) e
  where
    string : (o : Option (List ℕ)) → option_map constant_of.Str o ≡ Some c → Some string_type ≡ Some (own_type (object_of c))
    string (Some x) e = ap (λ x. Some (own_type (object_of x))) (some_is e)
    string None e = absurd (none_some e)

-- a constant's type has no parameters, and is legal
pub constant_still : (c : Const) (given : Actuals) → substituted given (own_type (object_of c)) ≡ own_type (object_of c)
constant_still constant_of.Null given = refl
constant_still (constant_of.Bool b) given = refl
constant_still (constant_of.Int n) given = refl
constant_still (constant_of.Char c) given = refl
constant_still (constant_of.Str bytes) given = refl

pub constant_legal : (c : Const) (context : Context) (specified : Specified) → is_legal context specified (own_type (object_of c)) ≡ true
constant_legal constant_of.Null context specified = refl
constant_legal (constant_of.Bool b) context specified = refl
constant_legal (constant_of.Int n) context specified = refl
constant_legal (constant_of.Char c) context specified = refl
constant_legal (constant_of.Str bytes) context specified = refl

module _ (f : File) (program : Program) (routines : Routines) (s : AsSpecified f program routines) (r : Running) (home : Option CluType) (context : Context) (rs : List Raise) where
  abbrev pub Law : Routine → Type 0
  Law = LawfulBy (is_lawful (specification f) routines)

  -- where the text stands
  abbrev pub place : Place
  place = record { scope = f.scope; home = home }

  abbrev pub put : CluType → CluType
  put t = substituted r.given t

  abbrev pub runs_as : Expression → program_of.Expression
  runs_as e = expression place e

  abbrev pub IsLegal : CluType → Type 0
  IsLegal t = is_legal context (specification f) t ≡ true

  abbrev pub May : List raising.Raise → Type 0
  May xs = MayRaise r.given xs rs

  abbrev pub At : ℕ → NodeKind → Expression → Type 0
  At n k e = ExpressionAt f routines r home context n k an_object e

  -- an expression that gives one object
  pub record Typed (e : Expression) : Type 0 where
    pub type : CluType
    pub is : type_of f e ≡ Some type
    pub legal : IsLegal type
    -- the object's own type, which is included in this one
    pub own : CluType
    pub typed : HasTypes program Law r rs (runs_as e) (one own)
    pub fit : fits own (put type) ≡ true

  pub record AllTyped (es : Expressions) : Type 0 where
    pub types : CluTypes
    pub are : types_of f es ≡ known_types types
    pub legal : types_legal context (specification f) types ≡ true
    pub owns : CluTypes
    pub typed : HaveTypes program Law r rs (expressions place es) owns
    pub fit : all_fit owns (types_substituted r.given types) ≡ true

  -- ---- lists of expressions

  pub none_typed : AllTyped no_expressions
  none_typed = record { types = no_types; are = refl; legal = refl; owns = no_types; typed = tt; fit = refl }

  pub and_typed : (e : Expression) (es : Expressions) → Typed e → AllTyped es → AllTyped (expression_and e es)
  and_typed e es x xs = record {
    types = type_and x.type xs.types;
    are = ap₂ (λ o os. o ∷ os) x.is xs.are;
    legal = and_from (is_legal context (specification f) x.type) (types_legal context (specification f) xs.types) x.legal xs.legal;
    owns = type_and x.own xs.owns;
    typed = (x.typed, xs.typed);
    fit = and_from (fits x.own (put x.type)) (all_fit xs.owns (types_substituted r.given xs.types)) x.fit xs.fit;
  }

  -- ---- literals and parentheses

  pub literal_typed : (n : ℕ) (l : Literal) (c : Const) → denoted l ≡ Some c → Typed (a_literal n l)
  literal_typed n l c e = record {
    type = own_type (object_of c);
    is = constant_typed l c e;
    legal = constant_legal c context (specification f);
    own = put (own_type (object_of c));
    typed = subst (λ o. HasTypes program Law r rs (constant_expression place (constant_value o)) (one (put (own_type (object_of c))))) (sym e) (ap one (constant_still c r.given));
    fit = fits_itself (put (own_type (object_of c)));
  }

  pub paren_typed : (n : ℕ) (e : Expression) → Typed e → Typed (a_paren n e)
  paren_typed n e x = record { type = x.type; is = x.is; legal = x.legal; own = x.own; typed = (x.own, x.typed, refl); fit = x.fit }

  -- ---- what is invoked at a node

  pub of_object : (n : ℕ) (k : NodeKind) (e : Expression) → At n k e → if_object f (is_object_wanted (wanted f n)) n ≡ invocations.by_expression f e
  of_object n k e x = ap (λ w. if_object f (is_object_wanted w) n) x.wants ∙ ap (invocations.by_expression f) x.is

  -- the type of a sugared invocation's only result
  pub record SugarTyped (n : ℕ) (t : CluType) (name : Identifier) (us : CluTypes) : Type 0 where
    pub result : CluType
    pub is : sugar_type f n name (Some t) ≡ Some result
    pub legal : IsLegal result
    pub typed : (own : CluType) (owns : CluTypes) → fits own (put t) ≡ true → all_fit owns (types_substituted r.given us) ≡ true → IsSugar name → May (raising.by_sugar f n name (Some t)) → HasOperation program Law r rs name own owns (one (put result))

  pub sugar_typed : (n : ℕ) (k : NodeKind) → NodeStands f routines r home context n k → (t : CluType) (name : Identifier) (us : CluTypes) → IsLegal t → Kept f n (record { invoked = operation_found f n t name; arguments = Some t ∷ known_types us }) →
      has_not_one_result (record { invoked = operation_found f n t name; arguments = Some t ∷ known_types us }) ≡ false → SugarTyped n t name us
  sugar_typed n k x t name us l kept counted =
      let y : Sugared f program routines s n r x.runs t name us = sugared f program routines s n r x.runs t name us (subst (λ c. is_legal c (specification f) t ≡ true) (sym x.around) l) kept in
      let only = one_result (operation_found f n t name) y.found (Some t ∷ known_types us) y.args y.results y.signals y.there y.type counted in
      let legal : is_legal context (specification f) (proc_of y.args y.results y.signals) ≡ true = subst (λ c. is_legal c (specification f) (proc_of y.args y.results y.signals) ≡ true) x.around y.legal in
      let parts = of_three (types_legal context (specification f) y.args) (types_legal context (specification f) y.results) (signals_legal context (specification f) y.signals) legal in
      record {
        result = only.0;
        is = ap (option_and_then result_of) (found_is f program routines s n r x.runs rs t name us y) ∙ ap (λ ts. result_of (proc_of y.args ts y.signals)) only.1;
        legal = (and_parts (is_legal context (specification f) only.0) true (subst (λ ts. types_legal context (specification f) ts ≡ true) only.1 parts.1)).0;
        typed = λ own owns first others plain raise. subst (λ ts. HasOperation program Law r rs name own owns (types_substituted r.given ts)) only.1
            (sugared_operation f program routines s n r x.runs rs t name us y own owns first others plain raise);
      }

  -- ---- operators

  -- an operator before one operand
  pub prefix_typed : (n : ℕ) (sign : Sign) (e : Expression) → At n kind.Prefix (a_prefix n sign e) → Typed e → May (raising.by_expression f (a_prefix n sign e)) → Typed (a_prefix n sign e)
  prefix_typed n sign e x a raise =
      let name : Identifier = prefix_name sign in
      let i : Invocation = record { invoked = operation_found f n a.type name; arguments = Some a.type ∷ [] } in
      let is : invocations.invocations f n ≡ i ∷ [] = ap (λ k. invocations.invocations_by f k n) x.stands.kind ∙ of_object n kind.Prefix (a_prefix n sign e) x ∙ ap (λ o. invocations.by_sugar f n name o []) a.is in
      let kept = invocations_kept f n x.stands.rules kind.Prefix x.stands.kind refl an_object x.wants refl (i ∷ []) is in
      let ones = one_wanted f n x.stands.rules kind.Prefix x.stands.kind an_object x.wants refl (i ∷ []) is in
      let y = sugar_typed n kind.Prefix x.stands a.type name no_types a.legal kept.0 (or_parts (has_not_one_result i) false ones).0 in
      let raised = raise_behind r.given (raising.by_expression f e) (raising.by_sugar f n name (type_of f e)) rs raise in
      record {
        type = y.result;
        is = ap (sugar_type f n name) a.is ∙ y.is;
        legal = y.legal;
        own = put y.result;
        typed = (a.own, no_types, a.typed, tt, y.typed a.own no_types a.fit refl (is_sugar name (signs_plain sign)) (subst (λ o. May (raising.by_sugar f n name o)) a.is raised));
        fit = fits_itself (put y.result);
      }

  -- r.s
  pub get_typed : (n : ℕ) (e : Expression) (selector : Identifier) → At n kind.Get (a_get n e selector) → Typed e → May (raising.by_expression f (a_get n e selector)) → Typed (a_get n e selector)
  get_typed n e selector x a raise =
      let name : Identifier = codes "get_" ++ selector in
      let i : Invocation = record { invoked = operation_found f n a.type name; arguments = Some a.type ∷ [] } in
      let is : invocations.invocations f n ≡ i ∷ [] = ap (λ k. invocations.invocations_by f k n) x.stands.kind ∙ of_object n kind.Get (a_get n e selector) x ∙ ap (λ o. invocations.by_sugar f n name o []) a.is in
      let kept = invocations_kept f n x.stands.rules kind.Get x.stands.kind refl an_object x.wants refl (i ∷ []) is in
      let ones = one_wanted f n x.stands.rules kind.Get x.stands.kind an_object x.wants refl (i ∷ []) is in
      let y = sugar_typed n kind.Get x.stands a.type name no_types a.legal kept.0 (or_parts (has_not_one_result i) false ones).0 in
      let raised = raise_behind r.given (raising.by_expression f e) (raising.by_sugar f n name (type_of f e)) rs raise in
      record {
        type = y.result;
        is = ap (sugar_type f n name) a.is ∙ y.is;
        legal = y.legal;
        own = put y.result;
        typed = (a.own, no_types, a.typed, tt, y.typed a.own no_types a.fit refl (record { first = refl; second = refl }) (subst (λ o. May (raising.by_sugar f n name o)) a.is raised));
        fit = fits_itself (put y.result);
      }

  -- between two operands, by what stands for the operator
  abbrev InfixTyped : ℕ → Sugar → Expression → Expression → Type 0
  InfixTyped n o a b = (type : CluType) × (infix_type f n o (type_of f a) ≡ Some type) × IsLegal type × HasTypes program Law r rs (infix_of place o (runs_as a) (runs_as b)) (one (put type))

  both_bool : (n : ℕ) (op : Operator) (a b : Expression) → At n kind.Infix (an_infix n op a b) → has_no_bool_operand f (sugar op) a b ≡ false
  both_bool n op a b x = sym (ap (is_no_condition f) x.is) ∙ second_false (is_object_wanted (wanted f n)) (is_no_condition f (item f n).expression) (ap is_object_wanted x.wants) (sym (ap (λ k. v16_in f k n) x.stands.kind) ∙ x.stands.rules rule.NotBool)

  pub bool_typed : (e : Expression) (x : Typed e) → x.type ≡ bool_type → HasTypes program Law r rs (runs_as e) (one bool_type)
  bool_typed e x is = subst (λ t. HasTypes program Law r rs (runs_as e) (one t)) (same_by x.own bool_type refl refl (subst (λ t. fits x.own (put t) ≡ true) is x.fit)) x.typed

  bools : (a b : Expression) (x : Typed a) (y : Typed b) → (is_other_than bool_type (type_of f a) || is_other_than bool_type (type_of f b)) ≡ false → HasTypes program Law r rs (runs_as a) (one bool_type) × HasTypes program Law r rs (runs_as b) (one bool_type)
  bools a b x y h =
      let p = or_parts (is_other_than bool_type (type_of f a)) (is_other_than bool_type (type_of f b)) h in
      (bool_typed a x (bool_is (type_of f a) x.type x.is p.0), bool_typed b y (bool_is (type_of f b) y.type y.is p.1))

  infix_by : (n : ℕ) (op : Operator) (o : Sugar) (a b : Expression) → sugar op ≡ o → At n kind.Infix (an_infix n op a b) → Typed a → Typed b → plain_sugar o ≡ true → May (raising.by_infix f n o (type_of f a)) → InfixTyped n o a b
  infix_by n op is_cand a b e x ta tb plain raise =
      let p = bools a b ta tb (subst (λ o. has_no_bool_operand f o a b ≡ false) e (both_bool n op a b x)) in
      (bool_type, refl, refl, (p.0, p.1, refl))
  infix_by n op is_cor a b e x ta tb plain raise =
      let p = bools a b ta tb (subst (λ o. has_no_bool_operand f o a b ≡ false) e (both_bool n op a b x)) in
      (bool_type, refl, refl, (p.0, p.1, refl))
  infix_by n op (is_operation name) a b e x ta tb plain raise =
      let i : Invocation = record { invoked = operation_found f n ta.type name; arguments = Some ta.type ∷ Some tb.type ∷ [] } in
      let is : invocations.invocations f n ≡ i ∷ [] = ap (λ k. invocations.invocations_by f k n) x.stands.kind ∙ of_object n kind.Infix (an_infix n op a b) x ∙ ap (λ o. invocations.by_infix f n o a b) e
      ∙ ap₂ (λ o u. invocations.by_sugar f n name o (u ∷ [])) ta.is tb.is in
      let kept = invocations_kept f n x.stands.rules kind.Infix x.stands.kind refl an_object x.wants refl (i ∷ []) is in
      let ones = one_wanted f n x.stands.rules kind.Infix x.stands.kind an_object x.wants refl (i ∷ []) is in
      let y = sugar_typed n kind.Infix x.stands ta.type name (one tb.type) ta.legal kept.0 (or_parts (has_not_one_result i) false ones).0 in (
        y.result,
        ap (sugar_type f n name) ta.is ∙ y.is,
        y.legal,
        (ta.own, one tb.own, ta.typed, (tb.typed, tt), y.typed ta.own (one tb.own) ta.fit (and_from (fits tb.own (put tb.type)) true tb.fit refl) (is_sugar name plain) (subst (λ o. May (raising.by_sugar f n name o)) ta.is raise)),
      )
  infix_by n op (is_negated name) a b e x ta tb plain raise =
      let i : Invocation = record { invoked = operation_found f n ta.type name; arguments = Some ta.type ∷ Some tb.type ∷ [] } in
      let is : invocations.invocations f n ≡ i ∷ invocations.negations f n (i ∷ []) = ap (λ k. invocations.invocations_by f k n) x.stands.kind ∙ of_object n kind.Infix (an_infix n op a b) x ∙ ap (λ o. invocations.by_infix f n o a b) e
      ∙ ap₂ (λ o u. invocations.by_sugar f n name o (u ∷ []) ++ invocations.negations f n (invocations.by_sugar f n name o (u ∷ []))) ta.is tb.is in
      let kept = invocations_kept f n x.stands.rules kind.Infix x.stands.kind refl an_object x.wants refl (i ∷ invocations.negations f n (i ∷ [])) is in
      let ones = or_parts (has_not_one_result i) (list_any has_not_one_result (invocations.negations f n (i ∷ []))) (one_wanted f n x.stands.rules kind.Infix x.stands.kind an_object x.wants refl (i ∷ invocations.negations f n (i ∷ [])) is) in
      let y = sugar_typed n kind.Infix x.stands ta.type name (one tb.type) ta.legal kept.0 ones.0 in
      let j : Invocation = record { invoked = operation_found f n y.result (codes "not"); arguments = Some y.result ∷ [] } in
      let rest : invocations.negations f n (i ∷ []) ≡ j ∷ [] = ap (λ o. invocations.by_sugar f n (codes "not") o [] ++ []) y.is in
      let more : EachKept f n (j ∷ []) = subst (λ is. EachKept f n is) rest kept.1 in
      let z = sugar_typed n kind.Infix x.stands y.result (codes "not") no_types y.legal more.0 (or_parts (has_not_one_result j) false (sym (ap (list_any has_not_one_result) rest) ∙ ones.1)).0 in
      let first = raise_front r.given (raising.by_sugar f n name (type_of f a)) (raising.by_sugar f n (codes "not") (sugar_type f n name (type_of f a))) rs raise in
      let second = raise_behind r.given (raising.by_sugar f n name (type_of f a)) (raising.by_sugar f n (codes "not") (sugar_type f n name (type_of f a))) rs raise in (
        z.result,
        ap (λ o. sugar_type f n (codes "not") (sugar_type f n name o)) ta.is ∙ ap (sugar_type f n (codes "not")) y.is ∙ z.is,
        z.legal,
        (
          ta.own,
          one tb.own,
          put y.result,
          ta.typed,
          (tb.typed, tt),
          y.typed ta.own (one tb.own) ta.fit (and_from (fits tb.own (put tb.type)) true tb.fit refl) (is_sugar name plain) (subst (λ o. May (raising.by_sugar f n name o)) ta.is first),
          z.typed (put y.result) no_types (fits_itself (put y.result)) refl (record { first = refl; second = refl }) (subst (λ o. May (raising.by_sugar f n (codes "not") o)) (ap (sugar_type f n name) ta.is ∙ y.is) second),
        ),
      )

  pub infix_typed : (n : ℕ) (op : Operator) (a b : Expression) → At n kind.Infix (an_infix n op a b) → Typed a → Typed b → May (raising.by_expression f (an_infix n op a b)) → Typed (an_infix n op a b)
  infix_typed n op a b x ta tb raise =
      let raised = raise_behind r.given (raising.by_expression f a ++ raising.by_expression f b) (raising.by_infix f n (sugar op) (type_of f a)) rs raise in
      let y = infix_by n op (sugar op) a b refl x ta tb (operators_plain op) raised in
      record { type = y.0; is = y.1; legal = y.2; own = put y.0; typed = y.3; fit = fits_itself (put y.0) }

  -- ---- calls

  -- with any number of results
  pub record CallTyped (n : ℕ) (e : Expression) (es : Expressions) : Type 0 where
    pub args : CluTypes
    pub results : CluTypes
    pub signals : Signals
    pub is : type_of f e ≡ Some (proc_of args results signals)
    pub legal : types_legal context (specification f) results ≡ true
    pub typed : HasTypes program Law r rs (runs_as (a_call n e es)) (types_substituted r.given results)

  pub call_gives : (n : ℕ) (w : Wanted) (e : Expression) (es : Expressions) → ExpressionAt f routines r home context n kind.Call w (a_call n e es) → is_object_wanted w ≡ true → is_loop_call w ≡ false → Typed e → AllTyped es →
      May (raising.by_expression f (a_call n e es)) → CallTyped n e es
  call_gives n w e es x object no_loop te tes raise =
      let y : Found = record { type = Some te.type; asks = [] } in
      let i : Invocation = record { invoked = Some y; arguments = known_types tes.types } in
      let is : invocations.invocations f n ≡ i ∷ [] = ap (λ k. invocations.invocations_by f k n) x.stands.kind ∙ ap (λ w. if_object f (is_object_wanted w) n) x.wants ∙ ap (λ b. if_object f b n) object ∙ ap (invocations.by_expression f) x.is
      ∙ ap₂ (λ o us. invocations.by_call f o us) te.is tes.are in
      let kept = invocations_kept f n x.stands.rules kind.Call x.stands.kind refl w x.wants no_loop (i ∷ []) is in
      let j = invoked_is (Some y) tes.types y te.type refl refl kept.0.holds in
      let same : te.type ≡ proc_of j.args j.results j.signals = some_is (ap (λ (z : Found). z.type) (some_is j.there) ∙ j.type) in
      let legal = of_three (types_legal context (specification f) j.args) (types_legal context (specification f) j.results) (signals_legal context (specification f) j.signals) (subst (λ t. is_legal context (specification f) t ≡ true) same te.legal) in
      let raised = raise_behind r.given (raising.by_expression f e ++ raising.by_expressions f es) (raising.invoked (type_of f e)) rs raise in
      let narrow = narrow_is te.own (types_substituted r.given j.args) (types_substituted r.given j.results) (signals_substituted r.given j.signals) (subst (λ t. fits te.own (put t) ≡ true) same te.fit) in
      record {
        args = j.args;
        results = j.results;
        signals = j.signals;
        is = te.is ∙ ap (λ t. Some t) same;
        legal = legal.1;
        typed = (
          types_substituted r.given j.args,
          narrow.few,
          tes.owns,
          subst (λ t. HasTypes program Law r rs (runs_as e) (one t)) narrow.is te.typed,
          tes.typed,
          record {
            fit = trans_all tes.owns (types_substituted r.given tes.types) (types_substituted r.given j.args) tes.fit (all_put r.given tes.types j.args j.fit);
            raises = raises_among narrow.few (signals_substituted r.given j.signals) rs narrow.among (raise_invoked r.given j.args j.results j.signals rs (subst (λ o. May (raising.invoked o)) (te.is ∙ ap (λ t. Some t) same) raised));
          },
        );
      }

  pub call_typed : (n : ℕ) (e : Expression) (es : Expressions) → At n kind.Call (a_call n e es) → Typed e → AllTyped es → May (raising.by_expression f (a_call n e es)) → Typed (a_call n e es)
  call_typed n e es x te tes raise =
      let y = call_gives n an_object e es x refl refl te tes raise in
      let found : Found = record { type = Some (proc_of y.args y.results y.signals); asks = [] } in
      let i : Invocation = record { invoked = Some found; arguments = known_types tes.types } in
      let is : invocations.invocations f n ≡ i ∷ [] = ap (λ k. invocations.invocations_by f k n) x.stands.kind ∙ of_object n kind.Call (a_call n e es) x ∙ ap₂ (λ o us. invocations.by_call f o us) y.is tes.are in
      let ones = one_wanted f n x.stands.rules kind.Call x.stands.kind an_object x.wants refl (i ∷ []) is in
      let only = one_result (Some found) found (known_types tes.types) y.args y.results y.signals refl refl (or_parts (has_not_one_result i) false ones).0 in
      record {
        type = only.0;
        is = ap (option_and_then result_of) y.is ∙ ap (λ ts. result_of (proc_of y.args ts y.signals)) only.1;
        legal = (and_parts (is_legal context (specification f) only.0) true (subst (λ ts. types_legal context (specification f) ts ≡ true) only.1 y.legal)).0;
        own = put only.0;
        typed = subst (λ ts. HasTypes program Law r rs (runs_as (a_call n e es)) (types_substituted r.given ts)) only.1 y.typed;
        fit = fits_itself (put only.0);
      }
