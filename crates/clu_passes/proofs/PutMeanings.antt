-- A text settles to the same with actual parameters put in, if that is so of what its names mean: in a scope in which each name means
-- what it means in another one, but that type parameters stand for others, after any number of steps of unfolding.
use Rattle.std.proofs.Common.{◌≡◌, ◌∙◌, ℕ, zero, suc, codes, length, Option, refl, sym, ap, ap₂}
use Rattle.std.specs.Option.{option_and_then}
use Rattle.clu_types.specs.CluType.{CluTypes, Actuals, no_actuals, parameter}
use Rattle.clu_types.specs.CluType as term
use Rattle.clu_types.specs.Substituted.{substituted, types_substituted, fields_substituted, signals_substituted, actuals_substituted, type_put}
use Rattle.clu_base.specs.declared.constants.Const.{Const}
use Rattle.clu_syntax.specs.declared.words.SimpleType.{SimpleType}
use Rattle.clu_syntax.specs.declared.words.SimpleType.TheVariants as simple
use Rattle.clu_syntax.specs.Syntax.{Identifier, Expression, an_infix, a_prefix, a_paren, a_literal, a_name, an_index, Constant, an_expression, a_type, Constants, no_constants, constant_and, TypeExpression, a_simple_type, a_list_type, a_fields_type, a_routine_type, a_named_type, TypeExpressions, no_types, type_and, Selectors, no_selectors, selector_and, Exceptions, no_exceptions, exception_and}
use Rattle.clu_meaning.specs.Constants.{denoted, prefixed}
use Rattle.clu_meaning.specs.Scoping.{Meaning, is_equate, is_type_parameter, is_constant_parameter, is_module, Bindings, Scope, meaning_of}
use Rattle.clu_meaning.specs.Settling.{Value, settled_type, type_in, constant_value, constant_in, infix_value, with_brackets, with_fields, listed_signal, with_actual, list_type, fields_type, routine_type, value_of_meaning, value_of_name, representation_at, simple_type, value_of_expression, value_of_constant, actuals, type_of, types_of, fields_of, signals_of, unfolded_to, type_settled}
use Rattle.clu_passes.proofs.PutTypes.{KeepConstants, value_put, type_in_put, constant_in_put, constant_put_in, infix_put, brackets_put, fields_put, signals_put, list_put, fields_type_put, routine_put, actual_put, module_put}

-- ---- the nodes at which names stand, as far as what a text settles to asks for them

module _ (P : ℕ → Type 0) where
  abbrev mutual
    pub ExpressionIn : Expression → Type 0
    ExpressionIn (an_infix n op a b) = ExpressionIn a × ExpressionIn b
    ExpressionIn (a_prefix n s e) = ExpressionIn e
    ExpressionIn (a_paren n e) = ExpressionIn e
    ExpressionIn (a_name n name) = P n
    ExpressionIn (an_index n e cs) = ExpressionIn e × ConstantsIn cs
    ExpressionIn _ = Unit {0}

    pub ConstantIn : Constant → Type 0
    ConstantIn (an_expression e) = ExpressionIn e
    ConstantIn (a_type t) = TypeIn t

    pub ConstantsIn : Constants → Type 0
    ConstantsIn no_constants = Unit {0}
    ConstantsIn (constant_and c cs) = ConstantIn c × ConstantsIn cs

    pub TypeIn : TypeExpression → Type 0
    TypeIn (a_simple_type n word) = P n
    TypeIn (a_list_type n word t) = TypeIn t
    TypeIn (a_fields_type n word ss) = SelectorsIn ss
    TypeIn (a_routine_type n word args results signals) = TypesIn args × TypesIn results × ExceptionsIn signals
    TypeIn (a_named_type n name cs) = P n × ConstantsIn cs

    pub TypesIn : TypeExpressions → Type 0
    TypesIn no_types = Unit {0}
    TypesIn (type_and t ts) = TypeIn t × TypesIn ts

    pub SelectorsIn : Selectors → Type 0
    SelectorsIn no_selectors = Unit {0}
    SelectorsIn (selector_and n names t ss) = TypeIn t × SelectorsIn ss

    pub ExceptionsIn : Exceptions → Type 0
    ExceptionsIn no_exceptions = Unit {0}
    ExceptionsIn (exception_and n name ts es) = TypesIn ts × ExceptionsIn es

-- ---- what a name means in the one scope and in the other

module _ (P : ℕ → Type 0) (given : Actuals) where
  abbrev pub IsPutMeaning : Meaning → Meaning → Type 0
  IsPutMeaning (is_equate c) other = (other ≡ is_equate c) × ConstantIn P c
  IsPutMeaning (is_type_parameter k) other = (j : ℕ) × (other ≡ is_type_parameter j) × (type_put given k ≡ parameter j)
  IsPutMeaning its other = other ≡ its

module _ (P : ℕ → Type 0) (given : Actuals) (keep : KeepConstants given) (scope : Scope) (bindings : Bindings) where
  abbrev pub changed : Scope
  changed = record scope { bindings = bindings }

  abbrev pub ArePutMeanings : Type 0
  ArePutMeanings = (n : ℕ) (name : Identifier) → P n → IsPutMeaning P given (meaning_of scope n name) (meaning_of changed n name)

  module _ (mean : ArePutMeanings) where
    module _ (unfolded others : Constant → Value) (known : (c : Constant) → ConstantIn P c → others c ≡ value_put given (unfolded c)) where
      meaning_put : (name : Identifier) (its : Actuals) (m other : Meaning) → IsPutMeaning P given m other → value_of_meaning changed others name (actuals_substituted given its) other ≡ value_put given (value_of_meaning scope unfolded name its m)
      meaning_put name its (is_equate c) other e = ap (value_of_meaning changed others name (actuals_substituted given its)) e.0 ∙ known c e.1
      meaning_put name its (is_type_parameter k) other e = ap (value_of_meaning changed others name (actuals_substituted given its)) e.1 ∙ ap settled_type (sym e.2)
      meaning_put name its (is_constant_parameter k) other e = ap (value_of_meaning changed others name (actuals_substituted given its)) e
      meaning_put name its is_module other e = ap (value_of_meaning changed others name (actuals_substituted given its)) e ∙ ap settled_type (module_put given keep name its)
      meaning_put name its _ other e = ap (value_of_meaning changed others name (actuals_substituted given its)) e

      name_put : (n : ℕ) (name : Identifier) (its : Actuals) → P n → value_of_name changed others n name (actuals_substituted given its) ≡ value_put given (value_of_name scope unfolded n name its)
      name_put n name its p = meaning_put name its (meaning_of scope n name) (meaning_of changed n name) (mean n name p)

      representation_put : (n : ℕ) → P n → representation_at changed others n ≡ substituted given (representation_at scope unfolded n)
      representation_put n p = ap type_in (name_put n (codes "rep") no_actuals p) ∙ type_in_put given (value_of_name scope unfolded n (codes "rep") no_actuals)

      simple_put : (n : ℕ) (word : SimpleType) → P n → simple_type changed others n word ≡ substituted given (simple_type scope unfolded n word)
      simple_put n simple.Rep p = representation_put n p
      simple_put n simple.Cvt p = representation_put n p
      simple_put n _ p = refl

      mutual
        expression_put : (e : Expression) → ExpressionIn P e → value_of_expression changed others e ≡ value_put given (value_of_expression scope unfolded e)
        expression_put (an_infix n op a b) ps =
            ap₂ (infix_value op) (ap constant_in (expression_put a ps.0) ∙ constant_in_put given (value_of_expression scope unfolded a)) (ap constant_in (expression_put b ps.1) ∙ constant_in_put given (value_of_expression scope unfolded b))
            ∙ infix_put given op (constant_in (value_of_expression scope unfolded a)) (constant_in (value_of_expression scope unfolded b))
        expression_put (a_prefix n s e) ps =
            ap (λ (c : Option Const). constant_value (option_and_then (prefixed s) c)) (ap constant_in (expression_put e ps) ∙ constant_in_put given (value_of_expression scope unfolded e))
            ∙ constant_put_in given (option_and_then (prefixed s) (constant_in (value_of_expression scope unfolded e)))
        expression_put (a_paren n e) ps = expression_put e ps
        expression_put (a_literal n literal) ps = constant_put_in given (denoted literal)
        expression_put (a_name n name) p = name_put n name no_actuals p
        expression_put (an_index n (a_name m name) cs) ps =
            ap (λ (its : Actuals). with_brackets (value_of_name changed others m name its)) (actuals_put cs ps.1)
            ∙ ap with_brackets (name_put m name (actuals scope unfolded cs) ps.0)
            ∙ brackets_put given (value_of_name scope unfolded m name (actuals scope unfolded cs))
        expression_put _ ps = refl

        constant_put : (c : Constant) → ConstantIn P c → value_of_constant changed others c ≡ value_put given (value_of_constant scope unfolded c)
        constant_put (an_expression e) ps = expression_put e ps
        constant_put (a_type t) ps = ap settled_type (types_put t ps)

        actuals_put : (cs : Constants) → ConstantsIn P cs → actuals changed others cs ≡ actuals_substituted given (actuals scope unfolded cs)
        actuals_put no_constants ps = refl
        actuals_put (constant_and c cs) ps =
            ap₂ with_actual (constant_put c ps.0) (actuals_put cs ps.1) ∙ actual_put given keep (value_of_constant scope unfolded c) (actuals scope unfolded cs)

        types_put : (t : TypeExpression) → TypeIn P t → type_of changed others t ≡ substituted given (type_of scope unfolded t)
        types_put (a_simple_type n word) p = simple_put n word p
        types_put (a_list_type n word t) ps = ap (list_type word) (types_put t ps) ∙ list_put given word (type_of scope unfolded t)
        types_put (a_fields_type n word ss) ps = ap (fields_type word) (selectors_put ss ps) ∙ fields_type_put given word (fields_of scope unfolded ss)
        types_put (a_routine_type n word args results raised) ps =
            ap₂ (λ (a r : CluTypes). routine_type word a r (signals_of changed others raised)) (all_put args ps.0) (all_put results ps.1)
            ∙ ap (routine_type word (types_substituted given (types_of scope unfolded args)) (types_substituted given (types_of scope unfolded results))) (exceptions_put raised ps.2)
            ∙ routine_put given word (types_of scope unfolded args) (types_of scope unfolded results) (signals_of scope unfolded raised)
        types_put (a_named_type n name cs) ps =
            ap (λ (its : Actuals). type_in (value_of_name changed others n name its)) (actuals_put cs ps.1)
            ∙ ap type_in (name_put n name (actuals scope unfolded cs) ps.0)
            ∙ type_in_put given (value_of_name scope unfolded n name (actuals scope unfolded cs))

        all_put : (ts : TypeExpressions) → TypesIn P ts → types_of changed others ts ≡ types_substituted given (types_of scope unfolded ts)
        all_put no_types ps = refl
        all_put (type_and t ts) ps = ap₂ term.type_and (types_put t ps.0) (all_put ts ps.1)

        selectors_put : (ss : Selectors) → SelectorsIn P ss → fields_of changed others ss ≡ fields_substituted given (fields_of scope unfolded ss)
        selectors_put no_selectors ps = refl
        selectors_put (selector_and n names t ss) ps =
            ap₂ (with_fields names) (types_put t ps.0) (selectors_put ss ps.1) ∙ fields_put given names (type_of scope unfolded t) (fields_of scope unfolded ss)

        exceptions_put : (es : Exceptions) → ExceptionsIn P es → signals_of changed others es ≡ signals_substituted given (signals_of scope unfolded es)
        exceptions_put no_exceptions ps = refl
        exceptions_put (exception_and n name ts es) ps =
            ap₂ (listed_signal name) (all_put ts ps.0) (exceptions_put es ps.1) ∙ signals_put given name (types_of scope unfolded ts) (signals_of scope unfolded es)

    -- ---- after any number of steps

    unfolded_put : (steps : ℕ) (c : Constant) → ConstantIn P c → unfolded_to changed steps c ≡ value_put given (unfolded_to scope steps c)
    unfolding unfolded_to
    unfolded_put zero c ps = refl
    unfolded_put (suc steps) c ps = constant_put (unfolded_to scope steps) (unfolded_to changed steps) (unfolded_put steps) c ps

    pub settled_put : (t : TypeExpression) → TypeIn P t → type_settled changed t ≡ substituted given (type_settled scope t)
    settled_put t ps = types_put (unfolded_to scope (length scope.declarations)) (unfolded_to changed (length scope.declarations)) (unfolded_put (length scope.declarations)) t ps
