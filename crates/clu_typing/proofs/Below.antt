-- The types that are noted of nodes are of the arena, and so are those of what nodes invoke.
use Rattle.std.proofs.Common.{◌≡◌, ◌∙◌, ◌&&◌, ℕ, zero, suc, ◌<◌, Bool, true, false, if◌then◌else◌, List, [], ◌∷◌, ◌++◌, codes, length, get_or, slice_get, Option, Some, None, refl, sym, ap, subst, arith}
use Rattle.std.specs.Prelude.{is_some, is_none, option_map}
use Rattle.std.proofs.Math.ListN.{get_or-append}
use Rattle.std.proofs.lemmas.Option.{slice_get_within, get_or_from_slice_get}
use Rattle.clu_types.specs.CluType.{CluType, bool_type}
use Rattle.clu_types.specs.Arena.{type_at, types_of, Grows, IsArena, PartsBelow}
use Rattle.clu_types.specs.declared.spec.ParamKind.{ParamKind}
use Rattle.clu_types.specs.declared.term.Term.{Term}
use Rattle.clu_types.specs.declared.term.TypeId.{TypeId}
use Rattle.clu_types.proofs.Carrying.{length_grows}
use Rattle.clu_syntax.specs.declared.words.Operator.{Operator}
use Rattle.clu_syntax.specs.declared.words.Operator.TheVariants as op
use Rattle.clu_syntax.specs.Items.{Item}
use Rattle.clu_syntax.specs.Kinds.{is_expression}
use Rattle.clu_syntax.specs.Nodes.{item_with}
use Rattle.clu_syntax.specs.Syntax.{Expression, an_infix, a_prefix, a_paren, a_literal, a_name, an_index, a_get, a_call, fields, elements, elements_from, an_operation, a_force, an_up, a_down}
use Rattle.clu_settle.specs.declared.value.Value.{Value}
use Rattle.clu_settle.specs.declared.value.Value.TheVariants as value
use Rattle.clu_settle.specs.Lists.{type_id}
use Rattle.clu_bindings.specs.declared.file.File.{File}
use Rattle.clu_bindings.specs.declared.file.Headed.{Headed}
use Rattle.clu_bindings.specs.declared.meaning.Meaning.{Meaning}
use Rattle.clu_bindings.specs.declared.meaning.Meaning.TheVariants as meaning
use Rattle.clu_bindings.specs.Inside.{declared_at, is_cvt, is_refused_inside, is_refused_rep, known_inside, own_type, rep_at, rep_type, representation, settled_type, type_inside, type_meant}
use Rattle.clu_bindings.specs.Named.{has_fitting_kinds, legal_type, named_in, parameter_type, type_of_parameter}
use Rattle.clu_head.specs.ParameterKinds.{kind_of_type}
use Rattle.clu_bindings.specs.Readers.{children_in, declared_parameter, kind_in, meaning_in, module_in, value_in}
use Rattle.clu_bindings.specs.Tables.{optional}
use Rattle.clu_operations.specs.declared.finding.Finding.{Finding}
use Rattle.clu_operations.specs.declared.found.FoundId.{FoundId}
use Rattle.clu_operations.specs.Finding.{IsBelowIf}
use Rattle.clu_operations.specs.Told.{Told}
use Rattle.clu_operations.specs.Wished.{IsFinding}
use Rattle.clu_operations.proofs.Bundling.{option_more}
use Rattle.clu_typing.specs.declared.applied.Applied.{Applied}
use Rattle.clu_typing.specs.declared.applied.Applied.TheVariants as applied
use Rattle.clu_typing.specs.declared.applied.Use.{Use}
use Rattle.clu_typing.specs.declared.facts.Operation.{Operation}
use Rattle.clu_typing.specs.Applied.{result_in, result_of}
use Rattle.clu_typing.specs.Facts.{operation_of, type_found}
use Rattle.clu_typing.specs.Found.{HaveOperands, IsAppliedTold, IsBehindTold, IsModuleTold, IsToldOf, IsUseToldIf}
use Rattle.clu_typing.specs.Invoking.{module_at, module_named}
use Rattle.clu_typing.specs.Nodes.{first_settled, first_type, has_actuals, names_module, type_of_first}
use Rattle.clu_typing.specs.Stands.{Stands, for_nothing, for_invoked, for_named}
use Rattle.clu_typing.specs.Typing.{applied_type, constant_type, force_type, literal_type, IsForceType, IsIndexTypeBy, IsInfixType, IsInstanceType, IsNameType, IsNodeType, IsNodeTypeIf, IsType, IsTypeBy, IsValueType}
use Rattle.clu_typing.proofs.Telling.{found_below, only_below, settled_below}

-- ---- arenas

-- an arena begins with one
pub arena_before : (old new : List Term) → Grows old new → IsArena new → IsArena old
arena_before old new grows arena = record {
  parts = λ i d lt. subst (PartsBelow i) (item_same i d lt) (arena.parts i d (longer i lt));
  once = λ i j d a b e. arena.once i j d (longer i a) (longer j b) (item_same i d a ∙ e ∙ sym (item_same j d b));
}
  where
    item_same : (i : ℕ) (d : Term) → i < length old → get_or new i d ≡ get_or old i d
    item_same i d lt = ap (λ (l : List Term). get_or l i d) grows.1 ∙ get_or-append old grows.0 d i lt

    longer : (i : ℕ) → i < length old → i < length new
    longer i lt = omega (arith, lt, length_grows old new grows)

-- the only result of a routine
pub result_below : (terms : List Term) → IsArena terms → (of : Option TypeId) → IsBelowIf (length terms) (result_of terms of)
result_below terms arena None = tt
result_below terms arena (Some of) = by (slice_get terms of.0) refl
  where
    by : (o : Option Term) → slice_get terms of.0 ≡ o → IsBelowIf (length terms) (result_in o)
    by None e = tt
    by (Some t) e =
        let within : of.0 < length terms = slice_get_within terms of.0 t e in
        only_below of.0 (length terms) (omega (arith, within)) t (subst (PartsBelow of.0) (get_or_from_slice_get terms of.0 t t e) (arena.parts of.0 t within))

typed_below : (terms : List Term) (of : Option TypeId) (t : Option CluType) → IsType terms of t → IsBelowIf (length terms) of
typed_below terms (Some id) (Some t) is = is.0
typed_below terms (Some id) None is = absurd is
typed_below terms None t is = tt

-- ---- what was looked for

-- an operation that was looked for is no object
abbrev pub IsLooked : Operation → Type 0
IsLooked its = (found : Option FoundId) × (its ≡ operation_of found)

pub looked_below : (h : Headed) (terms : List Term) (f : Finding) → IsFinding h terms f → (its : Operation) → IsLooked its → IsBelowIf (length terms) (type_found f its)
looked_below h terms f right its looked = subst (λ (o : Operation). IsBelowIf (length terms) (type_found f o)) (sym looked.1) (by looked.0)
  where
    by : (found : Option FoundId) → IsBelowIf (length terms) (type_found f (operation_of found))
    by None = tt
    by (Some id) = found_below (length terms) (length f.asked.items) f.founds.items right.within.founds id.0

module _ (h : Headed) (terms : List Term) (f : Finding) where
  told_looked : (of : TypeId) (it : Option Told) (its : Operation) → IsToldOf terms f of it its → IsLooked its
  told_looked of it its t = (t.found, t.is)

  module_looked : (of : Option TypeId) (its : Operation) → IsModuleTold h terms f of its → IsLooked its
  module_looked (Some of) its t = (t.found, t.is)
  module_looked None its t = (None, t)

  module _ (n : ℕ) where
    use_looked : (of : Option TypeId) (name : List ℕ) (its : Use) → IsUseToldIf h terms f n of name (Some its) → IsLooked its.operation
    use_looked (Some of) name its t = told_looked of _ its.operation t.told
    use_looked None name its t = absurd t

    behind_looked : (negated : Bool) (of : Option TypeId) (its : Use) → IsBehindTold h terms f n negated of (Some its) → IsLooked its.operation
    behind_looked true of its t = use_looked of (codes "not") its t
    behind_looked false of its t = absurd (let bad : Some its ≡ None = t in cc)

    pub first_looked : (s : Stands) (first : Use) (second : Option Use) → IsAppliedTold h terms f n s (applied.Invoked first second) → IsLooked first.operation
    first_looked for_nothing first second t = absurd (let bad : applied.Invoked first second ≡ applied.Nothing = t in cc)
    first_looked (for_invoked (Some of) name negated) first second t = told_looked of _ first.operation t.0.told
    first_looked (for_invoked None name negated) first second t = absurd t
    first_looked (for_named of name) first second t = absurd t

    pub second_looked : (s : Stands) (first last : Use) → IsAppliedTold h terms f n s (applied.Invoked first (Some last)) → IsLooked last.operation
    second_looked for_nothing first last t = absurd (let bad : applied.Invoked first (Some last) ≡ applied.Nothing = t in cc)
    second_looked (for_invoked (Some of) name negated) first last t = behind_looked negated (result_of terms (type_found f first.operation)) last t.1
    second_looked (for_invoked None name negated) first last t = absurd t
    second_looked (for_named of name) first last t = absurd t

    named_looked : (s : Stands) (its : Use) → IsAppliedTold h terms f n s (applied.Named (Some its)) → IsLooked its.operation
    named_looked for_nothing its t = absurd (let bad : applied.Named (Some its) ≡ applied.Nothing = t in cc)
    named_looked (for_invoked (Some of) name negated) its t = absurd t
    named_looked (for_invoked None name negated) its t = absurd t
    named_looked (for_named of name) its t = use_looked of name its t

    -- the type of that for which a node stands
    pub applied_below : IsFinding h terms f → IsArena terms → (s : Stands) (its : Applied) → IsAppliedTold h terms f n s its → IsBelowIf (length terms) (applied_type terms f its)
    applied_below right arena s applied.Nothing t = tt
    applied_below right arena s (applied.Invoked first (Some last)) t = result_below terms arena (type_found f last.operation)
    applied_below right arena s (applied.Invoked first None) t = result_below terms arena (type_found f first.operation)
    applied_below right arena s (applied.Named (Some its)) t = looked_below h terms f right its.operation (named_looked s its t)
    applied_below right arena s (applied.Named None) t = tt

-- ---- the type of a node, where the terms of types have grown from old to new

module _ (h : Headed) (old new : List Term) (grows : Grows old new) (before after : Finding) (n : ℕ) (its : Applied) (known : List (Option TypeId)) (items : ℕ → Item)
    (here : HaveOperands h.file known (length old)) (applies : IsBelowIf (length old) (applied_type old before its)) (arena : IsArena old) (was : IsFinding h old before) (now : IsFinding h new after) where
  same : (of x : Option TypeId) → of ≡ x → IsBelowIf (length old) x → IsBelowIf (length new) of
  same of x e b = subst (λ (o : Option TypeId). IsBelowIf (length new) o) (sym e) (option_more (length old) (length new) (length_grows old new grows) x b)

  nothing : (of : Option TypeId) → of ≡ None → IsBelowIf (length new) of
  nothing of e = same of None e tt

  stands : (of : Option TypeId) → of ≡ applied_type old before its → IsBelowIf (length new) of
  stands of e = same of (applied_type old before its) e applies

  either : (b : Bool) (x y : Option TypeId) → IsBelowIf (length old) x → IsBelowIf (length old) y → IsBelowIf (length old) (if b then x else y)
  either true x y p q = p
  either false x y p q = q

  infix_below : (o : Operator) (of : Option TypeId) → IsInfixType old new before its o of → IsBelowIf (length new) of
  infix_below op.Cand of is = typed_below new of (Some bool_type) is
  infix_below op.Cor of is = typed_below new of (Some bool_type) is
  infix_below _ of is = stands of is

  parameter_below : (number : ℕ) → IsBelowIf (length old) (parameter_type h.file old n number)
  parameter_below number = by (declared_parameter h.file n number)
    where
      legal : (of : Option TypeId) (k : Option ParamKind) → IsBelowIf (length old) of → IsBelowIf (length old) (legal_type of k)
      legal of (Some k) b = b
      legal of None b = tt

      by : (o : Option ℕ) → IsBelowIf (length old) (type_of_parameter h.file old o)
      by (Some t) = legal (type_id (value_in h.file t)) (kind_of_type old (type_id (value_in h.file t))) (here.values t)
      by None = tt

  value_below : (v : Value) (of : Option TypeId) → IsValueType old new h.file n v of → IsBelowIf (length new) of
  value_below (value.Constant place) of is = typed_below new of (option_map constant_type (slice_get h.file.constants.now place)) is
  value_below (value.Parameter number) of is = same of (parameter_type h.file old n number) is (parameter_below number)
  value_below _ of is = nothing of is

  instance_below : (of : Option TypeId) → IsInstanceType old new before after h n of → IsBelowIf (length new) of
  instance_below of is =
      let found = is (here.values n) was in
      subst (λ (o : Option TypeId). IsBelowIf (length new) o) (sym found.2) (looked_below h new after now found.0 (module_looked h new after (type_id (value_in h.file n)) found.0 found.1))

  -- ---- rep, and the types of variables

  meant_below : (o : Option Meaning) → IsBelowIf (length old) (type_meant h.file o)
  meant_below None = tt
  meant_below (Some m) = by m
    where
      by : (m : Meaning) → IsBelowIf (length old) (type_meant h.file (Some m))
      by (meaning.Equate right) = here.values right
      by _ = tt

  rep_below : (t : ℕ) → IsBelowIf (length old) (rep_type h.file t)
  rep_below t = meant_below (declared_at h.file (rep_at h.file t))

  represented_below : IsBelowIf (length old) (representation h n)
  represented_below = either (is_refused_rep h n) None (rep_type h.file n) tt (rep_below n)

  inside_below : (t : ℕ) → IsBelowIf (length old) (type_inside h.file items n t)
  inside_below t =
      either (is_cvt items h.file.syntax.now t) (if is_some (own_type h.file n) && is_none (rep_at h.file n) then own_type h.file n else rep_type h.file t) (settled_type h.file t)
      (either (is_some (own_type h.file n) && is_none (rep_at h.file n)) (own_type h.file n) (rep_type h.file t) (here.own n) (rep_below t)) (here.values t)

  variable_below : (t : ℕ) (of : Option TypeId) → of ≡ known_inside h items n t → IsBelowIf (length new) of
  variable_below t of is = same of (known_inside h items n t) is (either (is_refused_inside h items n t) None (type_inside h.file items n t) tt (inside_below t))

  -- ---- expressions

  name_below : (m : Meaning) (of : Option TypeId) → IsNameType old new before after h n its items m of → IsBelowIf (length new) of
  name_below (meaning.Equate right) of is = value_below (value_in h.file right) of is
  name_below (meaning.ConstantParameter number) of is = same of (parameter_type h.file old n number) is (parameter_below number)
  name_below (meaning.Local t) of is = variable_below t of is
  name_below (meaning.OwnOfRoutine t) of is = variable_below t of is
  name_below (meaning.OwnOfCluster t) of is = variable_below t of is
  name_below meaning.RoutineOfCluster of is = stands of is
  name_below (meaning.Module id) of is = instance_below of is
  name_below meaning.TypeSet of is = nothing of is
  name_below (meaning.TypeParameter number) of is = nothing of is

  index_below : (actuals named : Bool) (of : Option TypeId) → IsIndexTypeBy old new before after h n its actuals named of → IsBelowIf (length new) of
  index_below false named of is = stands of is
  index_below true false of is = nothing of is
  index_below true true of is = instance_below of is

  force_below : (to of : Option TypeId) → IsBelowIf (length old) to → IsForceType old new to of → IsBelowIf (length new) of
  force_below (Some to) of within is = typed_below new of (Some (force_type (type_at (types_of old) to))) (is within)
  force_below None of within is = nothing of is

  settled : IsBelowIf (length old) (first_settled h.file n)
  settled = settled_below h.file (length old) here.values (children_in h.file n)

  expression_below : (e : Expression) (of : Option TypeId) → IsTypeBy old new before after h n its known items e of → IsBelowIf (length new) of
  unfolding IsTypeBy
  expression_below (an_infix m o a b) of is = infix_below o of is
  expression_below (a_prefix m s e) of is = stands of is
  expression_below (a_paren m e) of is = same of (first_type h.file known n) is (here.first n)
  expression_below (a_literal m l) of is = typed_below new of (literal_type l) is
  expression_below (a_name m name) of is = name_below (meaning_in h.file n) of is
  expression_below (an_index m e cs) of is = index_below (has_actuals h.file n) (names_module h.file n) of is
  expression_below (a_get m e name) of is = stands of is
  expression_below (a_call m e es) of is = same of (result_of old (first_type h.file known n)) is (result_below old arena (first_type h.file known n))
  expression_below (fields m t cs) of is = same of (first_settled h.file n) is settled
  expression_below (elements m t es) of is = same of (first_settled h.file n) is settled
  expression_below (elements_from m t e es) of is = same of (first_settled h.file n) is settled
  expression_below (an_operation m t name) of is = stands of is
  expression_below (a_force m t) of is = force_below (first_settled h.file n) of settled is
  expression_below (an_up m e) of is = same of (own_type h.file n) is (here.own n)
  expression_below (a_down m e) of is = same of (representation h n) is represented_below

  pub node_below : (of : Option TypeId) → IsNodeType old new before after h n its known items of → IsBelowIf (length new) of
  node_below of is = by (is_expression (kind_in h.file n)) is
    where
      by : (b : Bool) → IsNodeTypeIf old new before after h n its known b items of → IsBelowIf (length new) of
      by true is = expression_below (item_with items h.file.syntax.now n (slice_get h.file.syntax.now n)).expression of is
      by false is = nothing of is

-- ---- lists of types

-- of nodes, with one more
pub types_behind : (types : ℕ) (xs : List (Option TypeId)) (x : Option TypeId) → ((k : ℕ) → IsBelowIf types (optional (slice_get xs k))) → IsBelowIf types x → (k : ℕ) → IsBelowIf types (optional (slice_get (xs ++ x ∷ []) k))
types_behind types [] x each b zero = b
types_behind types [] x each b (suc k) = each k
types_behind types (y ∷ ys) x each b zero = each zero
types_behind types (y ∷ ys) x each b (suc k) = types_behind types ys x (λ j. each (suc j)) b k

pub first_below : (f : File) (known : List (Option TypeId)) (types : ℕ) → ((k : ℕ) → IsBelowIf types (optional (slice_get known k))) → (n : ℕ) → IsBelowIf types (first_type f known n)
first_below f known types each n = by (children_in f n)
  where
    by : (cs : List ℕ) → IsBelowIf types (type_of_first known cs)
    by [] = tt
    by (c ∷ cs) = each c

-- the module that a node names
pub instance_there : (f : File) (terms : List Term) (types : ℕ) → ((k : ℕ) → IsBelowIf types (type_id (value_in f k))) → (n : ℕ) → IsBelowIf types (module_at f terms n)
instance_there f terms types values n = by (named_in f n)
  where
    if_named : (b : Bool) → IsBelowIf types (if b then type_id (value_in f n) else None)
    if_named true = values n
    if_named false = tt

    by : (o : Option (ℕ × List ℕ)) → IsBelowIf types (module_named f terms n o)
    by (Some named) = if_named (is_some (module_in f named.0) && has_fitting_kinds f terms named.0 named.1)
    by None = tt
