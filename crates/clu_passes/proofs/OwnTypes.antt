-- The type that stands for a cluster with its own parameters is that of the definition.
use Rattle.std.proofs.Common.{◌≡◌, ◌∙◌, ℕ, suc, ◌+◌, ◌≤◌, Bool, true, false, if◌then◌else◌, List, [], ◌∷◌, ◌++◌, length, map, Option, Some, None, refl, sym, ap, subst, arith, lt-ltb}
use Rattle.std.proofs.lemmas.Option.{slice_get_within}
use Rattle.clu_types.specs.CluType.{CluType, null_type, bool_type, int_type, char_type, string_type, any_type, stream_type, array_of, sequence_of, record_of, struct_of, oneof_of, variant_of, proc_of, iter_of, cluster_of, parameter, Actuals, no_actuals, actual_type, actual_param}
use Rattle.clu_types.specs.declared.spec.ParamKind.{ParamKind}
use Rattle.clu_types.specs.declared.term.TypeId.{TypeId}
use Rattle.clu_types.specs.declared.term.Actual.{Actual}
use Rattle.clu_types.specs.declared.term.Actual.TheVariants as actual
use Rattle.clu_types.specs.declared.term.Term.{Term}
use Rattle.clu_types.specs.declared.term.Term.TheVariants as term
use Rattle.clu_types.specs.Arena.{types_of, type_at, actuals_at, actual_at, IsArena}
use Rattle.clu_types.proofs.Arenas.{type_found}
use Rattle.clu_syntax.specs.Syntax.{Identifier, TypeExpression, Parameter, Cluster}
use Rattle.clu_meaning.specs.Scoping.{own_names, own_actuals, parameter_number}
use Rattle.clu_meaning.specs.Settling.{type_settled}
use Rattle.clu_checking.specs.Files.{File}
use Rattle.clu_checking.specs.Headings.{kind_of_type, kind_unless, is_no_parameter_type, kind_of_parameter, kinds_in}
use Rattle.clu_head.specs.OwnTypes.{number_at, is_type_parameter, IsOwn, IsOwnActual, AreOwn, IsOwnType}

-- a type is the kind of no parameter by itself
pub no_type_parameter : (t : CluType) → is_type_parameter (kind_of_type t) ≡ false
no_type_parameter null_type = refl
no_type_parameter bool_type = refl
no_type_parameter int_type = refl
no_type_parameter char_type = refl
no_type_parameter string_type = refl
no_type_parameter any_type = refl
no_type_parameter stream_type = refl
no_type_parameter (array_of t) = refl
no_type_parameter (sequence_of t) = refl
no_type_parameter (record_of fs) = refl
no_type_parameter (struct_of fs) = refl
no_type_parameter (oneof_of fs) = refl
no_type_parameter (variant_of fs) = refl
no_type_parameter (proc_of args results ss) = refl
no_type_parameter (iter_of args results ss) = refl
no_type_parameter (cluster_of name given) = refl
no_type_parameter (parameter n) = refl

pub unless_no : (b : Bool) (k : Option ParamKind) → is_type_parameter k ≡ false → is_type_parameter (kind_unless b k) ≡ false
unless_no true k e = refl
unless_no false k e = e

number_is : (place : ℕ) → suc place ≤ 4294967295 → number_at place ≡ suc place
number_is place few = ap (λ (b : Bool). if b then place + 1 else 4294967295) (lt-ltb place 4294967295 few) ∙ next
  where
    next : place + 1 ≡ suc place
    next = omega arith

module _ (f : File) (types : List Term) (arena : IsArena types) where
  -- one actual, by what its parameter is
  abbrev own_actual : Option TypeExpression → ℕ → Actuals → Actuals
  own_actual None n rest = actual_type (parameter n) rest
  own_actual (Some t) n rest = actual_param n rest

  type_own : (n : ℕ) (a : Actual) (rest : Actuals) → IsOwn types true n a → actual_at (types_of types) a rest ≡ actual_type (parameter n) rest
  type_own n (actual.Of id) rest is = ap (λ (t : CluType). actual_type t rest) (type_found types arena id (term.Param n) is (slice_get_within types id.0 (term.Param n) is))
  type_own n (actual.Const c) rest is = absurd is
  type_own n (actual.ConstParam p) rest is = absurd is

  constant_own : (n : ℕ) (a : Actual) (rest : Actuals) → IsOwn types false n a → actual_at (types_of types) a rest ≡ actual_param n rest
  constant_own n (actual.Of id) rest is = absurd is
  constant_own n (actual.Const c) rest is = absurd is
  constant_own n (actual.ConstParam p) rest is = ap (λ (m : ℕ). actual_param m rest) is

  one_own : (o : Option TypeExpression) (n : ℕ) (a : Actual) (rest : Actuals) → IsOwnActual types (kind_of_parameter f o) n a → actual_at (types_of types) a rest ≡ own_actual o n rest
  unfolding IsOwnActual
  one_own None n a rest is = type_own n a rest is
  one_own (Some t) n a rest is = constant_own n a rest (subst (λ (b : Bool). IsOwn types b n a) (unless_no (is_no_parameter_type f t) (kind_of_type (type_settled f.scope t)) (no_type_parameter (type_settled f.scope t))) is)

  more_own : (o : Option TypeExpression) (n : ℕ) (name : Identifier) (names : List Identifier) (rest : Actuals) → own_names o n (name ∷ names) rest ≡ own_actual o n (own_names o (suc n) names rest)
  more_own None n name names rest = refl
  more_own (Some t) n name names rest = refl

  -- the actuals that belong to some names, and then to the rest of the parameters
  names_own : (o : Option TypeExpression) (names : List Identifier) (kinds : List (Option ParamKind)) (place : ℕ) (given : List Actual) (rest : Actuals)
      → AreOwn types place (map (λ name. kind_of_parameter f o) names ++ kinds) given → place + length names ≤ 4294967295
      → ((bs : List Actual) → AreOwn types (place + length names) kinds bs → actuals_at (types_of types) bs ≡ rest) → actuals_at (types_of types) given ≡ own_names o (suc place) names rest
  unfolding AreOwn
  names_own o [] kinds place given rest are few more =
      let none : place ≡ place + 0 = omega arith in
      more given (subst (λ (p : ℕ). AreOwn types p kinds given) none are)
  names_own o (name ∷ names) kinds place [] rest are few more = absurd are
  names_own o (name ∷ names) kinds place (a ∷ given) rest are few more =
      let next : place + suc (length names) ≡ suc place + length names = omega arith in
      let number : number_at place ≡ suc place = number_is place (omega (arith, few)) in
      let one : IsOwnActual types (kind_of_parameter f o) (suc place) a = subst (λ (n : ℕ). IsOwnActual types (kind_of_parameter f o) n a) number are.0 in
      ap (actual_at (types_of types) a)
      (names_own o names kinds (suc place) given rest are.1 (omega (arith, few)) (λ bs own. more bs (subst (λ (p : ℕ). AreOwn types p kinds bs) (sym next) own)))
      ∙ one_own o (suc place) a (own_names o (suc (suc place)) names rest) one
      ∙ sym (more_own o (suc place) name names rest)

  none_own : (place : ℕ) (given : List Actual) → AreOwn types place [] given → actuals_at (types_of types) given ≡ no_actuals
  unfolding AreOwn
  none_own place [] are = refl
  none_own place (a ∷ given) are = absurd are

  all_own : (ps : List Parameter) (k place : ℕ) (given : List Actual) → k ≡ suc place → AreOwn types place (kinds_in f ps) given → place + parameter_number ps ≤ 4294967295 → actuals_at (types_of types) given ≡ own_actuals k ps
  all_own [] k place given next are few = none_own place given are
  all_own (p ∷ ps) k place given next are few =
      let later : k + length p.names ≡ suc (place + length p.names) = omega (arith, next) in
      names_own p.type p.names (kinds_in f ps) place given (own_actuals (k + length p.names) ps) are (omega (arith, few))
      (λ bs own. all_own ps (k + length p.names) (place + length p.names) bs later own (omega (arith, few)))
      ∙ ap (λ (n : ℕ). own_names p.type n p.names (own_actuals (k + length p.names) ps)) (sym next)

  pub own_told : (c : Cluster) (id : TypeId) → parameter_number c.parameters ≤ 4294967295 → IsOwnType types c.name (kinds_in f c.parameters) (Some id) → type_at (types_of types) id ≡ cluster_of c.name (own_actuals 1 c.parameters)
  unfolding IsOwnType
  own_told c id few own =
      type_found types arena id (term.Cluster c.name own.0) own.1 (slice_get_within types id.0 (term.Cluster c.name own.0) own.1)
      ∙ ap (cluster_of c.name) (all_own c.parameters 1 0 own.0 refl own.2 (omega (arith, few)))
