-- Specifications whose types are legal, each inside of the module that it is of; and actuals that are put in for parameters.
use Rattle.std.specs.Prelude.{◌≡◌, ℕ, true, List, [], ◌∷◌, Some}
use Rattle.clu_types.specs.CluType.{CluType, Actuals}
use Rattle.clu_types.specs.Substituted.{type_put, substituted}
use Rattle.clu_checking.specs.Specifications.{Demand, Heading, Form, of_routine, of_cluster, Specification}
use Rattle.clu_checking.specs.Operations.{meets, given_of}
use Rattle.laws_accepted.specs.Legal.{Specified, Context, context_of, is_type_parameter, are_of_kinds, is_legal, actuals_legal}

module _ (specified : Specified) where
  -- ---- specifications

  module _ (context : Context) where
    abbrev pub IsLegal : CluType → Type 0
    IsLegal t = is_legal context specified t ≡ true

    -- a type parameter is asked for an operation of a legal type
    pub record DemandLegal (d : Demand) : Type 0 where
      pub parameter : is_type_parameter context.kinds d.parameter ≡ true
      pub wanted : CluType
      pub is : d.wanted ≡ Some wanted
      pub legal : IsLegal wanted

    abbrev pub DemandsLegal : List Demand → Type 0
    DemandsLegal [] = Unit {0}
    DemandsLegal (d ∷ ds) = DemandLegal d × DemandsLegal ds

    pub record HeadingLegal (h : Heading) : Type 0 where
      pub type : CluType
      pub is : h.type ≡ Some type
      pub legal : IsLegal type
      pub demands : DemandsLegal h.demands

  abbrev pub OperationsLegal : Specification → List Heading → Type 0
  OperationsLegal s [] = Unit {0}
  OperationsLegal s (h ∷ hs) = HeadingLegal (context_of s h.demands) h × OperationsLegal s hs

  abbrev pub FormLegal : Specification → Form → Type 0
  FormLegal s (of_routine h) = HeadingLegal (context_of s []) h
  FormLegal s (of_cluster ds hs) = DemandsLegal (context_of s []) ds × OperationsLegal s hs

  abbrev pub AllLegal : Type 0
  AllLegal = (c : List ℕ) (s : Specification) → specified c ≡ Some s → FormLegal s s.form

  -- ---- actuals over the parameters of one context, for the parameters of another

  -- what where clauses give of the parameters is met by the actuals
  abbrev pub ClauseMet : Context → Actuals → List Demand → Type 0
  ClauseMet to given clause = (k : ℕ) (name : List ℕ) (d : Demand) → given_of clause k name ≡ Some d →
      (wanted : CluType) × (d.wanted ≡ Some wanted) × (meets to.clauses specified (type_put given k) name (substituted given wanted) ≡ true)

  abbrev pub ClausesMet : Context → Actuals → List (List Demand) → Type 0
  ClausesMet to given [] = Unit {0}
  ClausesMet to given (clause ∷ clauses) = ClauseMet to given clause × ClausesMet to given clauses

  pub record PutsIn (from to : Context) (given : Actuals) : Type 0 where
    pub kinds : are_of_kinds to.kinds from.kinds given ≡ true
    pub legal : actuals_legal to specified given ≡ true
    pub clauses : ClausesMet to given from.clauses

  -- types that are legal over the parameters stay so, and what is met of them is met
  abbrev pub KeepsTypes : Context → Context → Actuals → Type 0
  KeepsTypes from to given = (t : CluType) → is_legal from specified t ≡ true → (is_legal to specified (substituted given t) ≡ true) ×
      ((name : List ℕ) (wanted : CluType) → meets from.clauses specified t name wanted ≡ true → meets to.clauses specified (substituted given t) name (substituted given wanted) ≡ true)

-- the law of such actuals, whatever parameters they are over themselves
abbrev pub ActualsKeepTypes : Type 0
ActualsKeepTypes = (specified : Specified) (from to : Context) (given : Actuals) → AllLegal specified → PutsIn specified from to given → KeepsTypes specified from to given
