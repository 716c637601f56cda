-- When the text of a running routine is well typed: the rules by which each expression has types and each statement is well
-- typed, with the actuals of the running instance put in. `rs` is what may be raised.
use Rattle.std.specs.Prelude.{◌≡◌, ℕ, Bool, true, false, ◌||◌, ◌&&◌, List, [], ◌∷◌, ◌++◌, map, length, Option, None, Some, nat_eq, bytes_eq, codes, ◌⊎◌, if◌then◌else◌}
use Rattle.clu_base.specs.declared.constants.Const.{Const}
use Rattle.clu_types.specs.CluType.{CluType, bool_type, int_type, string_type, array_of, sequence_of, record_of, struct_of, oneof_of, variant_of, proc_of, iter_of, CluTypes, no_types, type_and, Fields, no_fields, field_and, Signals}
use Rattle.clu_types.specs.Substituted.{substituted}
use Rattle.clu_builtin.specs.Operation.{one}
use Rattle.clu_layout.specs.Objects.{Routine, operation_of, Object, own_type, own_types, object_of, routine_substituted}
use Rattle.clu_layout.specs.SameType.{is_any, is_routine_type, fits, all_fit}
use Rattle.clu_meaning.specs.Lists.{is_among, selectors}
use Rattle.clu_meaning.specs.Programs.{Variable, Expression, constant, constant_parameter, variable, routine, parenthesized, operator, negated, cand, cor, call, fields, elements, elements_from, up, down, besides, Expressions, no_expressions, expression_and, Components, no_components, component_and, Taken, named, dropped, Statement, declaration, initialisation, assignment, assignment_of_results, update, call_statement, while_statement, for_statement, if_statement, tagcase_statement, return_statement, yield_statement, signal_statement, exit_statement, break_statement, continue_statement, begin_statement, resignal_statement, except_statement, Statements, no_statements, statement_and, Clauses, no_clauses, clause_and, Otherwise, nothing_else, otherwise, TagArms, no_tag_arms, tag_arm_and, Whens, no_whens, when_and, Others, no_others, others, HeadingType, ClusterDefinition, Program}
use Rattle.clu_meaning.specs.Binding.{Running, put_in, term_of, inward}
use Rattle.clu_meaning.specs.Operations.{headed, may_name}
use Rattle.clu_meaning.specs.Expressions.{constant_at, cluster_type}
use Rattle.clu_meaning.specs.Statements.{types_of_signal}
use Rattle.clu_meaning.specs.Typed.{type_of_selector}
use Rattle.laws_sound.specs.Raises.{Raise, Takes, Covers, failing, raised_by}

-- ---- parts of constructors

-- each of the types is included in this one
abbrev pub are_each : CluType → CluTypes → Bool
are_each t no_types = true
are_each t (type_and u us) = fits u t && are_each t us

abbrev pub ElementsFit : CluType → CluTypes → Type 0
ElementsFit (array_of t) us = are_each t us ≡ true
ElementsFit (sequence_of t) us = are_each t us ≡ true
ElementsFit _ us = ⊥

-- an array alone has a low bound
abbrev pub ElementsFrom : CluType → CluTypes → Type 0
ElementsFrom (array_of t) us = are_each t us ≡ true
ElementsFrom _ us = ⊥

-- selectors with the types of their expressions
abbrev pub NamedTypes : Type 0
NamedTypes = List (List ℕ × CluType)

abbrev pub each_of_type : List (List ℕ) → CluType → NamedTypes
each_of_type names t = map (λ name. (name, t)) names

abbrev pub type_named : NamedTypes → List ℕ → Option CluType
type_named [] name = None
type_named (selected ∷ rest) name = if bytes_eq selected.0 name then Some selected.1 else type_named rest name

abbrev pub ComponentsFit : Fields → NamedTypes → Type 0
ComponentsFit no_fields selected = Unit {0}
ComponentsFit (field_and s t rest) selected = ((u : CluType) × (type_named selected s ≡ Some u) × (fits u t ≡ true)) × ComponentsFit rest selected

abbrev pub FieldsFit : CluType → NamedTypes → Type 0
FieldsFit (struct_of fs) selected = (nat_eq (length selected) (selectors fs) ≡ true) × ComponentsFit fs selected
FieldsFit (record_of fs) selected = (nat_eq (length selected) (selectors fs) ≡ true) × ComponentsFit fs selected
FieldsFit _ selected = ⊥

-- ---- tags

abbrev pub tags_of : CluType → Option Fields
tags_of (oneof_of fs) = Some fs
tags_of (variant_of fs) = Some fs
tags_of _ = None

abbrev pub has_arm : TagArms → List ℕ → Bool
has_arm no_tag_arms tag = false
has_arm (tag_arm_and tags xs body arms) tag = is_among tags tag || has_arm arms tag

-- each tag has an arm, or there are others
abbrev pub Exhausts : Fields → TagArms → Otherwise → Type 0
Exhausts fs arms nothing_else = (tag : List ℕ) (t : CluType) → type_of_selector fs tag ≡ Some t → has_arm arms tag ≡ true
Exhausts fs arms (otherwise body) = Unit {0}

-- ---- handlers

abbrev pub is_handled : Whens → List ℕ → Bool
is_handled no_whens name = false
is_handled (when_and names taken body whens) name = is_among names name || is_handled whens name

-- Where statements stand: whether in the body of a loop, whether they may return, yield and signal, and what they may exit
-- with and raise.
pub record Site : Type 0 where
  pub in_loop : Bool
  pub may_end : Bool
  pub exits : List Raise
  pub raises : List Raise

module _ (program : Program) (lawful : Routine → Type 0) (r : Running) where
  -- ---- variables

  abbrev pub AreDeclared : List Variable → CluTypes → Type 0
  AreDeclared [] no_types = Unit {0}
  AreDeclared (x ∷ xs) (type_and t ts) = (put_in r (term_of r x) ≡ Some t) × AreDeclared xs ts
  AreDeclared _ _ = ⊥

  -- objects of these types may be bound to these variables
  pub record Bind (xs : List Variable) (us : CluTypes) : Type 0 where
    pub types : CluTypes
    pub declared : AreDeclared xs types
    pub fit : all_fit us types ≡ true

  -- a variable that an arm may do without
  abbrev pub MayBind : List Variable → CluType → Type 0
  MayBind [] u = Unit {0}
  MayBind (x ∷ xs) u = Bind (x ∷ xs) (one u)

  -- ---- operations

  -- The operation of this name of the first object's own type, which is the static one unless this is any or a routine type.
  pub record Operates (rs : List Raise) (name : List ℕ) (t : CluType) (us ts : CluTypes) : Type 0 where
    pub object : is_any t ≡ false
    pub plain : is_routine_type t ≡ false
    pub args : CluTypes
    pub signals : Signals
    pub heading : headed program (operation_of t name) ≡ Some (proc_of args ts signals)
    pub may : may_name program r.home (operation_of t name) ≡ true
    pub law : lawful (operation_of t name)
    pub fit : all_fit (type_and t us) args ≡ true
    pub raises : Covers (raised_by signals) rs

  -- equal of two routines, whose own types may differ
  pub record ComparesRoutines (rs : List Raise) (name : List ℕ) (t : CluType) (us ts : CluTypes) : Type 0 where
    pub first : is_routine_type t ≡ true
    pub is_equal : name ≡ codes "equal"
    pub other : CluType
    pub rest : us ≡ one other
    pub second : is_routine_type other ≡ true
    pub results : ts ≡ one bool_type
    pub raises : Covers (failing ∷ []) rs

  abbrev pub HasOperation : List Raise → List ℕ → CluType → CluTypes → CluTypes → Type 0
  HasOperation rs name t us ts = Operates rs name t us ts ⊎ ComparesRoutines rs name t us ts

  -- a routine that is named, which is there and may be named here
  pub record Names (p : Routine) (ts : CluTypes) : Type 0 where
    pub heading : CluType
    pub there : headed program p ≡ Some heading
    pub may : may_name program r.home p ≡ true
    pub law : lawful p
    pub is : ts ≡ one heading

  pub record Calls (rs : List Raise) (args us : CluTypes) (ss : Signals) : Type 0 where
    pub fit : all_fit us args ≡ true
    pub raises : Covers (raised_by ss) rs

  -- ---- the cluster in which the routine stands

  pub record Seals (u : CluType) (ts : CluTypes) : Type 0 where
    pub cluster : ClusterDefinition
    pub here : r.home ≡ Some cluster
    pub fit : fits u (substituted r.given cluster.representation) ≡ true
    pub is : ts ≡ one (cluster_type cluster r.given)

  pub record Opens (u : CluType) (ts : CluTypes) : Type 0 where
    pub cluster : ClusterDefinition
    pub here : r.home ≡ Some cluster
    pub sealed : u ≡ cluster_type cluster r.given
    pub is : ts ≡ one (substituted r.given cluster.representation)

  -- ---- expressions

  abbrev mutual
    pub HasTypes : List Raise → Expression → CluTypes → Type 0
    HasTypes rs (constant c) ts = ts ≡ one (own_type (object_of c))
    HasTypes rs (constant_parameter n) ts = (c : Const) × (constant_at r.given n ≡ Some c) × (ts ≡ one (own_type (object_of c)))
    HasTypes rs (variable x) ts = (t : CluType) × (put_in r (term_of r x) ≡ Some t) × (ts ≡ one t) × Covers (failing ∷ []) rs
    HasTypes rs (routine p) ts = Names (routine_substituted r.given p) ts
    HasTypes rs (parenthesized e) ts = (t : CluType) × HasTypes rs e (one t) × (ts ≡ one t)
    HasTypes rs (operator name e es) ts = (t : CluType) × (us : CluTypes) × HasTypes rs e (one t) × HaveTypes rs es us × HasOperation rs name t us ts
    HasTypes rs (negated name e es) ts = (t : CluType) × (us : CluTypes) × (v : CluType) × HasTypes rs e (one t) × HaveTypes rs es us × HasOperation rs name t us (one v) × HasOperation rs (codes "not") v no_types ts
    HasTypes rs (cand e f) ts = HasTypes rs e (one bool_type) × HasTypes rs f (one bool_type) × (ts ≡ one bool_type)
    HasTypes rs (cor e f) ts = HasTypes rs e (one bool_type) × HasTypes rs f (one bool_type) × (ts ≡ one bool_type)
    HasTypes rs (call e es) ts = (args : CluTypes) × (ss : Signals) × (us : CluTypes) × HasTypes rs e (one (proc_of args ts ss)) × HaveTypes rs es us × Calls rs args us ss
    HasTypes rs (fields t cs) ts = (selected : NamedTypes) × ComponentsHave rs cs selected × FieldsFit (substituted r.given t) selected × (ts ≡ one (substituted r.given t))
    HasTypes rs (elements t es) ts = (us : CluTypes) × HaveTypes rs es us × ElementsFit (substituted r.given t) us × (ts ≡ one (substituted r.given t)) × Covers (failing ∷ []) rs
    HasTypes rs (elements_from t e es) ts = (us : CluTypes) × HasTypes rs e (one int_type) × HaveTypes rs es us × ElementsFrom (substituted r.given t) us × (ts ≡ one (substituted r.given t)) × Covers (failing ∷ []) rs
    HasTypes rs (up e) ts = (u : CluType) × HasTypes rs e (one u) × Seals u ts
    HasTypes rs (down e) ts = (u : CluType) × HasTypes rs e (one u) × Opens u ts
    HasTypes rs (besides n e) ts = HasTypes rs e ts

    -- one object of each
    pub HaveTypes : List Raise → Expressions → CluTypes → Type 0
    HaveTypes rs no_expressions no_types = Unit {0}
    HaveTypes rs (expression_and e es) (type_and t ts) = HasTypes rs e (one t) × HaveTypes rs es ts
    HaveTypes rs _ _ = ⊥

    pub ComponentsHave : List Raise → Components → NamedTypes → Type 0
    ComponentsHave rs no_components selected = selected ≡ []
    ComponentsHave rs (component_and names e cs) selected = (u : CluType) × (rest : NamedTypes) × HasTypes rs e (one u) × ComponentsHave rs cs rest × (selected ≡ each_of_type names u ++ rest)

  -- ---- handlers

  -- an arm takes the objects of each exception of one of its names
  abbrev pub TakesObjects : List (List ℕ) → Taken → List Raise → Type 0
  TakesObjects names (named xs) inner = (ts : CluTypes) × AreDeclared xs ts × ((name : List ℕ) (os : List Object) → is_among names name ≡ true → Takes inner name os → all_fit (own_types os) ts ≡ true)
  TakesObjects names dropped inner = Unit {0}

  -- what the arms don't handle is for others, or is raised on
  abbrev pub PassesOn : Site → Whens → Others → List Raise → Type 0
  PassesOn p whens no_others inner = (name : List ℕ) (os : List Object) → is_handled whens name ≡ false → Takes inner name os → Takes p.raises name os
  PassesOn p whens (others xs body) inner = Unit {0}

  abbrev pub ExitsOn : Site → Whens → List Raise → Type 0
  ExitsOn p whens inner = (name : List ℕ) (os : List Object) → is_handled whens name ≡ false → Takes inner name os → Takes p.exits name os

  -- ---- ends

  -- an iterator returns no objects
  abbrev pub Returns : Bool → CluTypes → Type 0
  Returns true us = us ≡ no_types
  Returns false us = all_fit us (inward r.given r.definition.results) ≡ true

  -- objects of these types may be signalled with the exception of this name
  pub record MaySignal (name : List ℕ) (us : CluTypes) : Type 0 where
    pub types : List HeadingType
    pub there : types_of_signal r name ≡ Some types
    pub fit : all_fit us (inward r.given types) ≡ true

  pub record Resignals (p : Site) (names : List (List ℕ)) (inner : List Raise) : Type 0 where
    pub signalled : (name : List ℕ) (os : List Object) → is_among names name ≡ true → Takes inner name os → MaySignal name (own_types os)
    pub raised : (name : List ℕ) (os : List Object) → is_among names name ≡ false → Takes inner name os → Takes p.raises name os

  -- ---- statements

  abbrev mutual
    pub WellTyped : Site → Statement → Type 0
    WellTyped p (declaration xs) = Unit {0}
    WellTyped p (initialisation xs e) = (us : CluTypes) × HasTypes p.raises e us × Bind xs us
    WellTyped p (assignment xs es) = (us : CluTypes) × HaveTypes p.raises es us × Bind xs us
    WellTyped p (assignment_of_results xs e) = (us : CluTypes) × HasTypes p.raises e us × Bind xs us
    WellTyped p (update name e es) = (t : CluType) × (us : CluTypes) × (ts : CluTypes) × HasTypes p.raises e (one t) × HaveTypes p.raises es us × HasOperation p.raises name t us ts
    WellTyped p (call_statement e) = (ts : CluTypes) × HasTypes p.raises e ts
    WellTyped p (while_statement e body) = HasTypes p.raises e (one bool_type) × AllWellTyped (record p { in_loop = true }) body
    WellTyped p (for_statement declared xs e es body) = (args : CluTypes) × (ts : CluTypes) × (ss : Signals) × (us : CluTypes) × HasTypes p.raises e (one (iter_of args ts ss)) × HaveTypes p.raises es us × Calls p.raises args us ss × Bind xs ts × AllWellTyped (record p { in_loop = true }) body
    WellTyped p (if_statement clauses other) = ClausesWellTyped p clauses × OtherwiseWellTyped p other
    WellTyped p (tagcase_statement e arms other) = (t : CluType) × (fs : Fields) × HasTypes p.raises e (one t) × (tags_of t ≡ Some fs) × Exhausts fs arms other × ArmsWellTyped p fs arms × OtherwiseWellTyped p other
    WellTyped p (return_statement es) = (us : CluTypes) × HaveTypes p.raises es us × (p.may_end ≡ true) × Returns r.definition.is_iterator us
    WellTyped p (yield_statement es) = (us : CluTypes) × HaveTypes p.raises es us × (p.may_end ≡ true) × (r.definition.is_iterator ≡ true) × (all_fit us (inward r.given r.definition.results) ≡ true)
    WellTyped p (signal_statement name es) = (us : CluTypes) × HaveTypes p.raises es us × (p.may_end ≡ true) × MaySignal name us
    WellTyped p (exit_statement name es) = (us : CluTypes) × HaveTypes p.raises es us × Covers ((name, us) ∷ []) p.exits
    WellTyped p break_statement = p.in_loop ≡ true
    WellTyped p continue_statement = p.in_loop ≡ true
    WellTyped p (begin_statement body) = AllWellTyped p body
    WellTyped p (resignal_statement s names) = (inner : List Raise) × WellTyped (record p { raises = inner }) s × (p.may_end ≡ true) × Resignals p names inner
    WellTyped p (except_statement s whens other) = (inner : List Raise) × (exits : List Raise) × WellTyped (record p { raises = inner; exits = exits }) s × WhensWellTyped p whens (inner ++ exits) × PassesOn p whens other inner × ExitsOn p whens exits × OthersWellTyped p other

    pub AllWellTyped : Site → Statements → Type 0
    AllWellTyped p no_statements = Unit {0}
    AllWellTyped p (statement_and s rest) = WellTyped p s × AllWellTyped p rest

    pub ClausesWellTyped : Site → Clauses → Type 0
    ClausesWellTyped p no_clauses = Unit {0}
    ClausesWellTyped p (clause_and e body clauses) = HasTypes p.raises e (one bool_type) × AllWellTyped p body × ClausesWellTyped p clauses

    pub OtherwiseWellTyped : Site → Otherwise → Type 0
    OtherwiseWellTyped p nothing_else = Unit {0}
    OtherwiseWellTyped p (otherwise body) = AllWellTyped p body

    -- the variable of an arm takes the objects of each of its tags
    pub ArmsWellTyped : Site → Fields → TagArms → Type 0
    ArmsWellTyped p fs no_tag_arms = Unit {0}
    ArmsWellTyped p fs (tag_arm_and tags xs body arms) = ((tag : List ℕ) (t : CluType) → is_among tags tag ≡ true → type_of_selector fs tag ≡ Some t → MayBind xs t) × AllWellTyped p body × ArmsWellTyped p fs arms

    pub WhensWellTyped : Site → Whens → List Raise → Type 0
    WhensWellTyped p no_whens inner = Unit {0}
    WhensWellTyped p (when_and names taken body whens) inner = TakesObjects names taken inner × AllWellTyped p body × WhensWellTyped p whens inner

    pub OthersWellTyped : Site → Others → Type 0
    OthersWellTyped p no_others = Unit {0}
    OthersWellTyped p (others xs body) = MayBind xs string_type × AllWellTyped p body
