-- up and down are well typed in each instance of their text, where the rules are kept: the actuals of an instance are put in for
-- the parameters of its own cluster.
use Rattle.std.proofs.Common.{◌≡◌, ℕ, zero, suc, ◌+◌, Bool, true, false, List, [], ◌∷◌, ◌++◌, map, length, Option, None, Some, refl, sym, ap, ap₂, subst, ◌∙◌, arith}
use Rattle.std.specs.Prelude.{◌&&◌, not}
use Rattle.std.proofs.lemmas.Bool.{and_parts, or_parts}
use Rattle.clu_base.specs.declared.rules.Rule.TheVariants as rule
use Rattle.clu_tree.specs.declared.node.NodeKind.{NodeKind}
use Rattle.clu_tree.specs.declared.node.NodeKind.TheVariants as kind
use Rattle.clu_types.specs.CluType.{CluType, cluster_of, parameter, Actuals, no_actuals, actual_type, actual_const, actual_param}
use Rattle.clu_types.specs.Substituted.{substituted, actuals_substituted, type_of_actual, constant_of_actual}
use Rattle.clu_types.specs.declared.spec.ParamKind.{ParamKind}
use Rattle.clu_types.specs.declared.spec.ParamKind.TheVariants as param
use Rattle.clu_layout.specs.SameType.{same_type, fits}
use Rattle.clu_layout.proofs.SameTypeLaws.{types_are}
use Rattle.clu_syntax.specs.Syntax.{Identifier, Parameter, TypeExpression, Cluster, Expression, an_up, a_down}
use Rattle.clu_meaning.specs.Scoping.{own_names, own_actuals}
use Rattle.clu_meaning.specs.Settling.{type_settled}
use Rattle.clu_meaning.specs.Programs.{Program}
use Rattle.clu_meaning.specs.Resolving.{cluster_definition}
use Rattle.clu_meaning.specs.Binding.{Running}
use Rattle.clu_checking.specs.Files.{File, item}
use Rattle.clu_checking.specs.Headings.{place_in, own_type, kind_of_type, kind_unless, is_no_parameter_type, kind_of_parameter, kinds_in}
use Rattle.clu_checking.specs.Typing.{representation, type_of}
use Rattle.clu_checking.specs.Wanted.{an_object, wanted, kind_of_constant}
use Rattle.clu_checking.specs.Invocations.{is_object_wanted}
use Rattle.clu_checking.specs.ExpressionRules.{is_other_than, is_not_of, has_no_rep, is_misplaced, v32_at}
use Rattle.laws_sound.specs.Raises.{Raise}
use Rattle.laws_accepted.specs.Legal.{Context, is_kind, kind_of, is_of_constants, is_as, are_of_kinds}
use Rattle.laws_accepted.specs.Lawful.{Routines}
use Rattle.laws_accepted.specs.Instances.{AsSpecified, RunsInside}
use Rattle.laws_accepted.specs.Standing.{ExpressionAt, ClusterAt}
use Rattle.laws_accepted.proofs.OfKinds.{no, Kinds, kind_is, some_kind, constants_differ, as_is}
use Rattle.laws_accepted.proofs.Meeting.{none_some}
use Rattle.laws_accepted.proofs.FoundRuns.{fits_itself}
use Rattle.laws_accepted.proofs.Invocations.{same_by}
use Rattle.laws_accepted.proofs.AtNodes.{second_false}
use Rattle.laws_accepted.proofs.Modules.{of_constants}
use Rattle.laws_accepted.proofs.ExpressionsTyped.{Typed}

-- ---- the actuals from a place on

abbrev from_place : ℕ → Actuals → Actuals
from_place zero xs = xs
from_place (suc i) no_actuals = no_actuals
from_place (suc i) (actual_type t rest) = from_place i rest
from_place (suc i) (actual_const c rest) = from_place i rest
from_place (suc i) (actual_param p rest) = from_place i rest

abbrev behind : Actuals → Actuals
behind no_actuals = no_actuals
behind (actual_type t rest) = rest
behind (actual_const c rest) = rest
behind (actual_param p rest) = rest

next_place : (i : ℕ) (all : Actuals) → from_place (suc i) all ≡ behind (from_place i all)
next_place zero no_actuals = refl
next_place zero (actual_type t rest) = refl
next_place zero (actual_const c rest) = refl
next_place zero (actual_param p rest) = refl
next_place (suc i) no_actuals = refl
next_place (suc i) (actual_type t rest) = next_place i rest
next_place (suc i) (actual_const c rest) = next_place i rest
next_place (suc i) (actual_param p rest) = next_place i rest

-- what stands first
abbrev first_type : Actuals → CluType → CluType
first_type (actual_type t rest) other = t
first_type _ other = other

abbrev first_constant : Actuals → ℕ → Actuals → Actuals
first_constant (actual_const c rest) n more = actual_const c more
first_constant (actual_param p rest) n more = actual_param p more
first_constant _ n more = actual_param n more

type_first : (i : ℕ) (all : Actuals) (other : CluType) → type_of_actual all i other ≡ first_type (from_place i all) other
type_first zero no_actuals other = refl
type_first zero (actual_type t rest) other = refl
type_first zero (actual_const c rest) other = refl
type_first zero (actual_param p rest) other = refl
type_first (suc i) no_actuals other = refl
type_first (suc i) (actual_type t rest) other = type_first i rest other
type_first (suc i) (actual_const c rest) other = type_first i rest other
type_first (suc i) (actual_param p rest) other = type_first i rest other

constant_first : (i : ℕ) (all : Actuals) (n : ℕ) (more : Actuals) → constant_of_actual all i n more ≡ first_constant (from_place i all) n more
constant_first zero no_actuals n more = refl
constant_first zero (actual_type t rest) n more = refl
constant_first zero (actual_const c rest) n more = refl
constant_first zero (actual_param p rest) n more = refl
constant_first (suc i) no_actuals n more = refl
constant_first (suc i) (actual_type t rest) n more = constant_first i rest n more
constant_first (suc i) (actual_const c rest) n more = constant_first i rest n more
constant_first (suc i) (actual_param p rest) n more = constant_first i rest n more

no_kind : {A : Type 0} (k : Option ParamKind) (p : ℕ) → is_as k (kind_of [] p) ≡ true → A
no_kind k zero h = absurd (none_some (as_is k None h).second)
no_kind k (suc p) h = absurd (none_some (as_is k None h).second)

module _ (f : File) (all : Actuals) where
  -- a type parameter has a type, and a constant parameter a constant
  type_of_kind : (xs : Actuals) (ks : Kinds) (other : CluType) → are_of_kinds [] (Some param.OfType ∷ ks) xs ≡ true → (actual_type (first_type xs other) (behind xs) ≡ xs) × (are_of_kinds [] ks (behind xs) ≡ true)
  type_of_kind (actual_type t rest) ks other h = (refl, (and_parts (is_kind param.OfType (Some param.OfType)) (are_of_kinds [] ks rest) h).1)
  type_of_kind (actual_const c rest) ks other h =
      let e = some_kind (kind_is (kind_of_constant c) (Some param.OfType) (and_parts (is_kind (kind_of_constant c) (Some param.OfType)) (are_of_kinds [] ks rest) h).0) in
      no (ap is_of_constants e ∙ constants_differ c)
  type_of_kind (actual_param p rest) ks other h = no_kind (Some param.OfType) p (and_parts (is_as (Some param.OfType) (kind_of [] p)) (are_of_kinds [] ks rest) h).0
  type_of_kind no_actuals ks other h = no h

  constant_of_kind : (xs : Actuals) (T : TypeExpression) (ks : Kinds) (n : ℕ) → are_of_kinds [] (kind_of_parameter f (Some T) ∷ ks) xs ≡ true → (first_constant xs n (behind xs) ≡ xs) × (are_of_kinds [] ks (behind xs) ≡ true)
  constant_of_kind (actual_const c rest) T ks n h = (refl, (and_parts (is_kind (kind_of_constant c) (kind_of_parameter f (Some T))) (are_of_kinds [] ks rest) h).1)
  constant_of_kind (actual_type t rest) T ks n h = by (is_no_parameter_type f T) (kind_is param.OfType (kind_of_parameter f (Some T)) (and_parts (is_kind param.OfType (kind_of_parameter f (Some T))) (are_of_kinds [] ks rest) h).0)
    where
      by : {A : Type 0} (b : Bool) → kind_unless b (kind_of_type (type_settled f.scope T)) ≡ Some param.OfType → A
      by true e = absurd (none_some e)
      by false e = no (of_constants (type_settled f.scope T) param.OfType e)
  constant_of_kind (actual_param p rest) T ks n h = no_kind (kind_of_parameter f (Some T)) p (and_parts (is_as (kind_of_parameter f (Some T)) (kind_of [] p)) (are_of_kinds [] ks rest) h).0
  constant_of_kind no_actuals T ks n h = no h

  -- the names of one declaration of parameters, before others
  names_put : (type : Option TypeExpression) (names : List Identifier) (i : ℕ) (ks : Kinds) (rest : Actuals) → are_of_kinds [] (map (λ name. kind_of_parameter f type) names ++ ks) (from_place i all) ≡ true →
      ((j : ℕ) → j ≡ i + length names → are_of_kinds [] ks (from_place j all) ≡ true → actuals_substituted all rest ≡ from_place j all) → actuals_substituted all (own_names type (suc i) names rest) ≡ from_place i all
  names_put type [] i ks rest h later = later i (omega arith) h
  names_put None (name ∷ names) i ks rest h later =
      let q = type_of_kind (from_place i all) (map (λ name. kind_of_parameter f None) names ++ ks) (parameter (suc i)) h in
      ap₂ actual_type (type_first i all (parameter (suc i))) (names_put None names (suc i) ks rest (subst (λ xs. are_of_kinds [] (map (λ name. kind_of_parameter f None) names ++ ks) xs ≡ true) (sym (next_place i all)) q.1) (λ j e k. later j (omega (arith, e)) k) ∙ next_place i all) ∙ q.0
  names_put (Some T) (name ∷ names) i ks rest h later =
      let q = constant_of_kind (from_place i all) T (map (λ name. kind_of_parameter f (Some T)) names ++ ks) (suc i) h in
      constant_first i all (suc i) (actuals_substituted all (own_names (Some T) (suc (suc i)) names rest))
      ∙ ap (first_constant (from_place i all) (suc i)) (names_put (Some T) names (suc i) ks rest (subst (λ xs. are_of_kinds [] (map (λ name. kind_of_parameter f (Some T)) names ++ ks) xs ≡ true) (sym (next_place i all)) q.1) (λ j e k. later j (omega (arith, e)) k) ∙ next_place i all) ∙ q.0

  no_more : (xs : Actuals) → are_of_kinds [] [] xs ≡ true → no_actuals ≡ xs
  no_more no_actuals h = refl
  no_more (actual_type t rest) h = no h
  no_more (actual_const c rest) h = no h
  no_more (actual_param p rest) h = no h

  parameters_put : (ps : List Parameter) (i k : ℕ) → k ≡ suc i → are_of_kinds [] (kinds_in f ps) (from_place i all) ≡ true → actuals_substituted all (own_actuals k ps) ≡ from_place i all
  parameters_put [] i k e h = no_more (from_place i all) h
  parameters_put (p ∷ ps) i k e h = ap (λ k. actuals_substituted all (own_names p.type k p.names (own_actuals (k + length p.names) ps))) e
      ∙ names_put p.type p.names i (kinds_in f ps) (own_actuals (suc i + length p.names) ps) h (λ j is m. parameters_put ps j (suc i + length p.names) (omega (arith, is)) m)

  -- the cluster's own type is that of the instance
  pub own_put : (ps : List Parameter) → are_of_kinds [] (kinds_in f ps) all ≡ true → actuals_substituted all (own_actuals 1 ps) ≡ all
  own_put ps h = parameters_put ps 0 1 refl h

-- ---- up and down

type_is : (wanted : CluType) (o : Option CluType) (t : CluType) → o ≡ Some t → is_other_than wanted o ≡ false → t ≡ wanted
type_is wanted o t e h = by (same_type t wanted) refl (sym (ap (is_other_than wanted) e) ∙ h)
  where
    by : (b : Bool) → same_type t wanted ≡ b → not b ≡ false → t ≡ wanted
    by true is k = types_are t wanted is
    by false is k = no (sym k)

module _ (f : File) (program : Program) (routines : Routines) (s : AsSpecified f program routines) (r : Running) (home : Option CluType) (context : Context) (rs : List Raise) where
  abbrev Here : ℕ → NodeKind → Expression → Type 0
  Here n k e = ExpressionAt f routines r home context n k an_object e

  abbrev Gives : Expression → Type 0
  Gives e = Typed f program routines s r home context rs e

  abbrev own_of : Cluster → CluType
  own_of c = cluster_of c.name (own_actuals 1 c.parameters)

  abbrev inside_of : Cluster → CluType
  inside_of c = (cluster_definition f.scope c).representation

  instance_is : (n : ℕ) (k : NodeKind) (e : Expression) (c : Cluster) → Here n k e → ClusterAt f routines r home context n c → substituted r.given (own_of c) ≡ cluster_of c.name r.given
  instance_is n k e c x a = ap (cluster_of c.name) (own_put f r.given c.parameters (subst (λ ps. are_of_kinds [] (kinds_in f ps) r.given ≡ true) a.parameters x.stands.runs.actuals.kinds))

  own_type_is : (n : ℕ) (c : Cluster) → ClusterAt f routines r home context n c → own_type f n ≡ Some (own_of c)
  own_type_is n c a = ap (λ o. (place_in f o).home) a.around

  home_is : (n : ℕ) (k : NodeKind) (e : Expression) (c : Cluster) → Here n k e → ClusterAt f routines r home context n c → r.home ≡ Some (cluster_definition f.scope c)
  home_is n k e c x a = (subst (λ o. RunsInside f n routines r o) a.around x.stands.runs.inside).0

  placed : (n : ℕ) (k : NodeKind) (e : Expression) → Here n k e → v32_at f k n ≡ (is_object_wanted (wanted f n) && is_misplaced f (item f n).expression) → is_misplaced f e ≡ false
  placed n k e x is = sym (ap (is_misplaced f) x.is) ∙ second_false (is_object_wanted (wanted f n)) (is_misplaced f (item f n).expression) (ap is_object_wanted x.wants) (sym is ∙ sym (ap (λ k. v32_at f k n) x.stands.kind) ∙ x.stands.rules rule.UpDown)

  pub up_typed : (n : ℕ) (e : Expression) (c : Cluster) → Here n kind.Up (an_up n e) → ClusterAt f routines r home context n c → Gives e → Gives (an_up n e)
  up_typed n e c x a y =
      let other : is_not_of (representation f n) (type_of f e) ≡ false = (or_parts (has_no_rep f n) (is_not_of (representation f n) (type_of f e)) (placed n kind.Up (an_up n e) x refl)).1 in
      let same : y.type ≡ inside_of c = type_is (inside_of c) (type_of f e) y.type y.is (sym (ap (λ o. is_not_of o (type_of f e)) a.is) ∙ other) in
      record {
        type = own_of c;
        is = own_type_is n c a;
        legal = a.legal;
        own = cluster_of c.name r.given;
        typed = (y.own, y.typed, record { cluster = cluster_definition f.scope c; here = home_is n kind.Up (an_up n e) c x a; fit = subst (λ t. fits y.own (substituted r.given t) ≡ true) same y.fit; is = refl });
        fit = subst (λ t. fits (cluster_of c.name r.given) t ≡ true) (sym (instance_is n kind.Up (an_up n e) c x a)) (fits_itself (cluster_of c.name r.given));
      }

  pub down_typed : (n : ℕ) (e : Expression) (c : Cluster) → Here n kind.Down (a_down n e) → ClusterAt f routines r home context n c → Gives e → Gives (a_down n e)
  down_typed n e c x a y =
      let other : is_not_of (own_type f n) (type_of f e) ≡ false = (or_parts (has_no_rep f n) (is_not_of (own_type f n) (type_of f e)) (placed n kind.Down (a_down n e) x refl)).1 in
      let same : y.type ≡ own_of c = type_is (own_of c) (type_of f e) y.type y.is (sym (ap (λ o. is_not_of o (type_of f e)) (own_type_is n c a)) ∙ other) in
      let sealed : y.own ≡ cluster_of c.name r.given = same_by y.own (cluster_of c.name r.given) refl refl (subst (λ t. fits y.own t ≡ true) (ap (substituted r.given) same ∙ instance_is n kind.Down (a_down n e) c x a) y.fit) in
      record {
        type = inside_of c;
        is = a.is;
        legal = a.inside;
        own = substituted r.given (inside_of c);
        typed = (y.own, y.typed, record { cluster = cluster_definition f.scope c; here = home_is n kind.Down (a_down n e) c x a; sealed = sealed; is = refl });
        fit = fits_itself (substituted r.given (inside_of c));
      }
