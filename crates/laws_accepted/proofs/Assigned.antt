-- Assignments and declarations with an expression are well typed in each instance of their text, where the rules are kept.
use Rattle.std.proofs.Common.{◌≡◌, ℕ, zero, suc, Bool, true, false, List, [], ◌∷◌, ◌++◌, map, length, Option, None, Some, refl, sym, ap, subst, ◌∙◌}
use Rattle.std.specs.Prelude.{◌==◌, not}
use Rattle.std.specs.List.{list_any}
use Rattle.std.proofs.lemmas.Bool.{and_parts, and_from, or_parts, eqb-true, not-false}
use Rattle.clu_base.specs.declared.rules.Rule.TheVariants as rule
use Rattle.clu_tree.specs.declared.node.NodeKind.{NodeKind}
use Rattle.clu_tree.specs.declared.node.NodeKind.TheVariants as kind
use Rattle.clu_types.specs.CluType.{CluType, CluTypes, no_types, type_and}
use Rattle.clu_types.specs.Substituted.{substituted, types_substituted}
use Rattle.clu_builtin.specs.Operation.{one}
use Rattle.clu_layout.specs.SameType.{fits, all_fit}
use Rattle.clu_syntax.specs.Syntax as syntax
use Rattle.clu_syntax.specs.Syntax.{Identifier, Expression, a_call, Expressions, no_expressions, expression_and, TypeExpression, Statement, an_init, a_call_init, an_assign}
use Rattle.clu_meaning.specs.Scoping.{Meaning, is_local, is_own_of_routine, is_own_of_cluster, number_of}
use Rattle.clu_meaning.specs.Settling.{type_settled}
use Rattle.clu_meaning.specs.Programs as program_of
use Rattle.clu_meaning.specs.Programs.{Program, Variable, local, own_of_routine, own_of_cluster}
use Rattle.clu_meaning.specs.Resolving.{target_of, targets, declared_variable, declared_variables, assignment_of, statement, expressions}
use Rattle.clu_meaning.specs.Binding.{Running, put_in, term_of}
use Rattle.clu_checking.specs.Files.{File, kind_in, meaning}
use Rattle.clu_checking.specs.Headings.{type_inside, specification}
use Rattle.clu_checking.specs.Raising as raising
use Rattle.clu_checking.specs.Invocations.{types_of}
use Rattle.clu_checking.specs.ExpressionRules.{is_not_one_object}
use Rattle.clu_checking.specs.StatementRules.{Binding, as_list, known, variable_type, declared_types, target_types, bound_to, results_by, assigned, bound_by, bindings_in, bindings_at, may_name, v15_in}
use Rattle.laws_sound.specs.Sound.{LawfulBy}
use Rattle.laws_sound.specs.WellTyped.{Site, Bind, WellTyped}
use Rattle.laws_sound.proofs.Transitive.{trans_fits}
use Rattle.laws_accepted.specs.Legal.{Context}
use Rattle.laws_accepted.specs.Lawful.{Routines, is_lawful}
use Rattle.laws_accepted.specs.Accepted.{KeepsRules}
use Rattle.laws_accepted.specs.Instances.{AsSpecified}
use Rattle.laws_accepted.specs.Standing.{MayRaise, StatementAt}
use Rattle.laws_accepted.proofs.PutIn.{fits_put}
use Rattle.laws_accepted.proofs.OfKinds.{no}
use Rattle.laws_accepted.proofs.FoundRuns.{fits_itself}
use Rattle.laws_accepted.proofs.Invocations.{known_types}
use Rattle.laws_accepted.proofs.ExpressionsTyped as expressions_typed
use Rattle.laws_accepted.proofs.ExpressionsTyped.{place, AllTyped, CallTyped, call_gives}

abbrev is_zero : ℕ → Bool
is_zero zero = true
is_zero (suc n) = false

abbrev less : ℕ → ℕ
less zero = zero
less (suc n) = n

pub known_is : (ts : CluTypes) → known (as_list ts) ≡ known_types ts
known_is no_types = refl
known_is (type_and t ts) = ap (λ os. Some t ∷ os) (known_is ts)

pub all_itself : (ts : CluTypes) → all_fit ts ts ≡ true
all_itself no_types = refl
all_itself (type_and t ts) = and_from (fits t t) (all_fit ts ts) (fits_itself t) (all_itself ts)

module _ (f : File) (program : Program) (routines : Routines) (s : AsSpecified f program routines) (r : Running) (home : Option CluType) (context : Context) (p : Site) where
  abbrev Gives : Expression → Type 0
  Gives e = expressions_typed.Typed f program routines s r home context p.raises e

  abbrev GiveAll : Expressions → Type 0
  GiveAll es = AllTyped f program routines s r home context p.raises es

  abbrev To : CluType → CluType
  To t = substituted r.given t

  abbrev May : List raising.Raise → Type 0
  May xs = MayRaise r.given xs p.raises

  abbrev Stands : ℕ → NodeKind → Statement → Type 0
  Stands n k e = StatementAt f routines r home context n k e

  abbrev IsTyped : Statement → Type 0
  IsTyped e = WellTyped program (LawfulBy (is_lawful (specification f) routines)) r p (statement (place f program routines s r home context p.raises) e)

  abbrev Binds : List Variable → CluTypes → Type 0
  Binds xs us = Bind program (LawfulBy (is_lawful (specification f) routines)) r xs us

  -- ---- variables

  -- a variable is declared with this type
  pub record DeclaredAs (n : ℕ) (t : TypeExpression) (x : Variable) : Type 0 where
    pub type : type_inside f n t ≡ type_settled f.scope t
    pub declared : term_of r x ≡ Some (type_settled f.scope t)

  abbrev pub TargetAt : ℕ → Identifier → Meaning → Type 0
  TargetAt n name (is_local t) = DeclaredAs n t (local (number_of f.scope n name))
  TargetAt n name (is_own_of_routine t) = DeclaredAs n t (own_of_routine (number_of f.scope n name))
  TargetAt n name (is_own_of_cluster t) = DeclaredAs n t (own_of_cluster (number_of f.scope n name))
  TargetAt n name _ = Unit {0}

  abbrev pub TargetsAt : ℕ → List Identifier → Type 0
  TargetsAt n [] = Unit {0}
  TargetsAt n (name ∷ names) = TargetAt n name (meaning f n name) × TargetsAt n names

  -- variables with their types, as the rules know them
  pub record AreVariables (xs : List Variable) (known_as : List (Option CluType)) : Type 0 where
    pub bind : (us owns : CluTypes) → length known_as ≡ length (known_types us) → may_name f known_as (known_types us) ≡ true → all_fit owns (types_substituted r.given us) ≡ true → Binds xs owns

  no_variables : AreVariables [] []
  no_variables = record { bind = by }
    where
      by : (us owns : CluTypes) → 0 ≡ length (known_types us) → may_name f [] (known_types us) ≡ true → all_fit owns (types_substituted r.given us) ≡ true → Binds [] owns
      by no_types no_types l m h = record { types = no_types; declared = tt; fit = refl }
      by (type_and u us) owns l m h = no (sym (ap is_zero l))
      by no_types (type_and o owns) l m h = no h

  a_variable : (n : ℕ) (t : TypeExpression) (x : Variable) (xs : List Variable) (known_as : List (Option CluType)) → DeclaredAs n t x → AreVariables xs known_as → AreVariables (x ∷ xs) (Some (type_inside f n t) ∷ known_as)
  a_variable n t x xs known_as d rest = record { bind = by }
    where
      by : (us owns : CluTypes) → suc (length known_as) ≡ length (known_types us) → may_name f (Some (type_inside f n t) ∷ known_as) (known_types us) ≡ true → all_fit owns (types_substituted r.given us) ≡ true → Binds (x ∷ xs) owns
      by (type_and u us) (type_and o owns) l m h =
          let q = and_parts (fits u (type_inside f n t)) (may_name f known_as (known_types us)) m in
          let k = and_parts (fits o (To u)) (all_fit owns (types_substituted r.given us)) h in
          let b = rest.bind us owns (ap less l) q.1 k.1 in
          record {
            types = type_and (To (type_settled f.scope t)) b.types;
            declared = (ap (put_in r) d.declared, b.declared);
            fit = and_from (fits o (To (type_settled f.scope t))) (all_fit owns b.types) (trans_fits o (To u) (To (type_settled f.scope t)) k.0 (fits_put r.given u (type_settled f.scope t) (subst (λ t. fits u t ≡ true) d.type q.0))) b.fit;
          }
      by no_types owns l m h = no (ap is_zero l)
      by (type_and u us) no_types l m h = no h

  -- what is no variable is refused
  no_variable : (x : Variable) (xs : List Variable) (known_as : List (Option CluType)) → AreVariables (x ∷ xs) (None ∷ known_as)
  no_variable x xs known_as = record { bind = by }
    where
      by : (us owns : CluTypes) → suc (length known_as) ≡ length (known_types us) → may_name f (None ∷ known_as) (known_types us) ≡ true → all_fit owns (types_substituted r.given us) ≡ true → Binds (x ∷ xs) owns
      by (type_and u us) owns l m h = no m
      by no_types owns l m h = no (ap is_zero l)

  target : (n : ℕ) (name : Identifier) (m : Meaning) (xs : List Variable) (known_as : List (Option CluType)) → TargetAt n name m → AreVariables xs known_as → AreVariables (target_of (place f program routines s r home context p.raises) n name m ∷ xs) (variable_type f n m ∷ known_as)
  target n name (is_local t) xs known_as d rest = a_variable n t (local (number_of f.scope n name)) xs known_as d rest
  target n name (is_own_of_routine t) xs known_as d rest = a_variable n t (own_of_routine (number_of f.scope n name)) xs known_as d rest
  target n name (is_own_of_cluster t) xs known_as d rest = a_variable n t (own_of_cluster (number_of f.scope n name)) xs known_as d rest
  target n name _ xs known_as d rest = no_variable _ xs known_as

  pub targets_are : (n : ℕ) (names : List Identifier) → TargetsAt n names → AreVariables (targets (place f program routines s r home context p.raises) n names) (target_types f n names)
  targets_are n [] d = no_variables
  targets_are n (name ∷ names) d = target n name (meaning f n name) (targets (place f program routines s r home context p.raises) n names) (target_types f n names) d.0 (targets_are n names d.1)

  -- ---- what the rules leave of the only binding at a node

  module _ (n : ℕ) (rules : KeepsRules f n) (b : Binding) (only : bindings_at f n ≡ b ∷ []) where
    pub counted : length b.variables ≡ length b.objects
    counted =
        let h = (or_parts (is_not_one_object f n) (list_any (λ b. not (length b.variables == length b.objects)) (bindings_at f n)) (rules rule.ResultCount)).1 in
        eqb-true (length b.variables) (length b.objects) (not-false (length b.variables == length b.objects) (or_parts (not (length b.variables == length b.objects)) false (sym (ap (list_any (λ b. not (length b.variables == length b.objects))) only) ∙ h)).0)

    pub fitting : (k : NodeKind) → kind_in f n ≡ k → v15_in f k n ≡ list_any (λ b. not (may_name f b.variables b.objects)) (bindings_in f k n) → may_name f b.variables b.objects ≡ true
    fitting k of_kind plain =
        let h : list_any (λ b. not (may_name f b.variables b.objects)) (bindings_in f k n) ≡ false = sym plain ∙ sym (ap (λ k. v15_in f k n) of_kind) ∙ rules rule.AssignType in
        let is : bindings_in f k n ≡ b ∷ [] = sym (ap (λ k. bindings_in f k n) of_kind) ∙ only in
        not-false (may_name f b.variables b.objects) (or_parts (not (may_name f b.variables b.objects)) false (sym (ap (list_any (λ b. not (may_name f b.variables b.objects))) is) ∙ h)).0

  -- ---- statements

  -- x: t := e
  pub init_typed : (n : ℕ) (x : syntax.Variable) (e : Expression) → Stands n kind.Init (an_init n x e) → DeclaredAs n x.type (declared_variable (place f program routines s r home context p.raises) local n x.name) → Gives e → IsTyped (an_init n x e)
  init_typed n x e a d y =
      let b : Binding = record { variables = Some (type_inside f n x.type) ∷ []; objects = Some y.type ∷ [] } in
      let only : bindings_at f n ≡ b ∷ [] = ap (λ k. bindings_in f k n) a.stands.kind ∙ ap (bound_by f) a.is ∙ ap (λ o. record { variables = Some (type_inside f n x.type) ∷ []; objects = o ∷ [] } ∷ []) y.is in
      let variables = a_variable n x.type (declared_variable (place f program routines s r home context p.raises) local n x.name) [] [] d no_variables in
      (one y.own, y.typed, variables.bind (one y.type) (one y.own) (counted n a.stands.rules b only) (fitting n a.stands.rules b only kind.Init a.stands.kind refl) (and_from (fits y.own (To y.type)) true y.fit refl))

  -- x, y := es
  assigned_typed : (n : ℕ) (names : List Identifier) (es : Expressions) → Stands n kind.Assign (an_assign n names es) → TargetsAt n names → GiveAll es → assigned f n names es ≡ bound_to f (target_types f n names) (types_of f es ∷ []) →
      assignment_of (place f program routines s r home context p.raises) (targets (place f program routines s r home context p.raises) n names) (expressions (place f program routines s r home context p.raises) es) ≡ program_of.assignment (targets (place f program routines s r home context p.raises) n names) (expressions (place f program routines s r home context p.raises) es) →
      IsTyped (an_assign n names es)
  assigned_typed n names es a d ys binds runs =
      let b : Binding = record { variables = target_types f n names; objects = known_types ys.types } in
      let only : bindings_at f n ≡ b ∷ [] = ap (λ k. bindings_in f k n) a.stands.kind ∙ ap (bound_by f) a.is ∙ binds ∙ ap (λ os. record { variables = target_types f n names; objects = os } ∷ []) ys.are in
      subst (λ e. WellTyped program (LawfulBy (is_lawful (specification f) routines)) r p e) (sym runs)
      (ys.owns, ys.typed, (targets_are n names d).bind ys.types ys.owns (counted n a.stands.rules b only) (fitting n a.stands.rules b only kind.Assign a.stands.kind refl) ys.fit)

  -- x := e
  pub assign_one_typed : (n : ℕ) (name : Identifier) (es : Expressions) → Stands n kind.Assign (an_assign n (name ∷ []) es) → TargetsAt n (name ∷ []) → GiveAll es → IsTyped (an_assign n (name ∷ []) es)
  assign_one_typed n name es a d ys = assigned_typed n (name ∷ []) es a d ys refl refl

  -- x, y := f(es)
  pub assign_results_typed : (n m : ℕ) (x y : Identifier) (names : List Identifier) (e : Expression) (es : Expressions) → Stands n kind.Assign (an_assign n (x ∷ y ∷ names) (expression_and (a_call m e es) no_expressions)) → TargetsAt n (x ∷ y ∷ names) →
      CallTyped f program routines s r home context p.raises m e es → IsTyped (an_assign n (x ∷ y ∷ names) (expression_and (a_call m e es) no_expressions))
  assign_results_typed n m x y names e es a d c =
      let b : Binding = record { variables = target_types f n (x ∷ y ∷ names); objects = known_types c.results } in
      let only : bindings_at f n ≡ b ∷ [] = ap (λ k. bindings_in f k n) a.stands.kind ∙ ap (bound_by f) a.is ∙ ap (λ o. bound_to f (target_types f n (x ∷ y ∷ names)) (results_by f o)) c.is
      ∙ ap (λ os. record { variables = target_types f n (x ∷ y ∷ names); objects = os } ∷ []) (known_is c.results) in
      (types_substituted r.given c.results, c.typed, (targets_are n (x ∷ y ∷ names) d).bind c.results (types_substituted r.given c.results) (counted n a.stands.rules b only) (fitting n a.stands.rules b only kind.Assign a.stands.kind refl) (all_itself (types_substituted r.given c.results)))

  -- ---- declarations

  abbrev pub EachDeclared : ℕ → TypeExpression → List Identifier → Type 0
  EachDeclared n t [] = Unit {0}
  EachDeclared n t (name ∷ names) = DeclaredAs n t (declared_variable (place f program routines s r home context p.raises) local n name) × EachDeclared n t names

  abbrev pub AllDeclared : List syntax.Typed → Type 0
  AllDeclared [] = Unit {0}
  AllDeclared (d ∷ ds) = EachDeclared d.node d.type d.names × AllDeclared ds

  names_are : (n : ℕ) (t : TypeExpression) (names : List Identifier) (xs : List Variable) (ts : List CluType) → EachDeclared n t names → AreVariables xs (known ts) →
      AreVariables (map (declared_variable (place f program routines s r home context p.raises) local n) names ++ xs) (known (map (λ name. type_inside f n t) names ++ ts))
  names_are n t [] xs ts d rest = rest
  names_are n t (name ∷ names) xs ts d rest = a_variable n t (declared_variable (place f program routines s r home context p.raises) local n name)
      (map (declared_variable (place f program routines s r home context p.raises) local n) names ++ xs) (known (map (λ name. type_inside f n t) names ++ ts)) d.0 (names_are n t names xs ts d.1 rest)

  pub declared_are : (ds : List syntax.Typed) → AllDeclared ds → AreVariables (declared_variables (place f program routines s r home context p.raises) local ds) (known (declared_types f ds))
  declared_are [] d = no_variables
  declared_are (x ∷ ds) d = names_are x.node x.type x.names (declared_variables (place f program routines s r home context p.raises) local ds) (declared_types f ds) d.0 (declared_are ds d.1)

  -- x: t, y: u := f(es)
  pub call_init_typed : (n m : ℕ) (ds : List syntax.Typed) (e : Expression) (es : Expressions) → Stands n kind.Init (a_call_init n ds (a_call m e es)) → AllDeclared ds → CallTyped f program routines s r home context p.raises m e es → IsTyped (a_call_init n ds (a_call m e es))
  call_init_typed n m ds e es a d c =
      let b : Binding = record { variables = known (declared_types f ds); objects = known_types c.results } in
      let only : bindings_at f n ≡ b ∷ [] = ap (λ k. bindings_in f k n) a.stands.kind ∙ ap (bound_by f) a.is ∙ ap (λ o. bound_to f (known (declared_types f ds)) (results_by f o)) c.is
      ∙ ap (λ os. record { variables = known (declared_types f ds); objects = os } ∷ []) (known_is c.results) in
      (types_substituted r.given c.results, c.typed, (declared_are ds d).bind c.results (types_substituted r.given c.results) (counted n a.stands.rules b only) (fitting n a.stands.rules b only kind.Init a.stands.kind refl) (all_itself (types_substituted r.given c.results)))
