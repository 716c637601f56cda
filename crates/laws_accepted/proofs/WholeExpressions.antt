-- Each expression whose nodes stand in the body of a routine, and keep the rules, is well typed in each instance of its text.
use Rattle.std.proofs.Common.{◌≡◌, ℕ, Bool, true, false, List, ◌++◌, Option, [], ◌∷◌, refl, sym, subst, inl, inr}
use Rattle.std.specs.Prelude.{codes}
use Rattle.clu_tree.specs.declared.node.NodeKind.{NodeKind}
use Rattle.clu_tree.specs.declared.node.NodeKind.TheVariants as kind
use Rattle.clu_types.specs.CluType.{CluType}
use Rattle.clu_syntax.specs.Syntax.{Identifier, Expression, an_infix, a_prefix, a_paren, a_literal, a_name, an_index, a_get, a_call, fields, elements, elements_from, an_operation, a_force, an_up, a_down, Expressions, no_expressions, expression_and, Components, no_components, component_and, an_expression, a_type, Constants, no_constants, constant_and}
use Rattle.clu_meaning.specs.Constants.{sugar, prefix_name}
use Rattle.clu_meaning.specs.Programs.{Program}
use Rattle.clu_meaning.specs.Binding.{Running}
use Rattle.clu_checking.specs.Files.{File}
use Rattle.clu_checking.specs.Typing.{type_of}
use Rattle.clu_checking.specs.Wanted.{an_object}
use Rattle.clu_checking.specs.Raising as raising
use Rattle.laws_sound.specs.Raises.{Raise}
use Rattle.laws_accepted.specs.Legal.{Context}
use Rattle.laws_accepted.specs.Lawful.{Routines}
use Rattle.laws_accepted.specs.Instances.{AsSpecified}
use Rattle.laws_accepted.specs.Standing.{MayRaise, ExpressionAt}
use Rattle.laws_accepted.specs.Expressions.{NameStands, Stands, AllStand, ComponentsStand, IndexesStand, IsTyped}
use Rattle.laws_accepted.proofs.OfKinds.{no}
use Rattle.laws_accepted.proofs.Raised.{raise_front, raise_behind}
use Rattle.laws_accepted.proofs.ExpressionsTyped.{Typed, AllTyped, none_typed, and_typed, literal_typed, paren_typed, prefix_typed, get_typed, infix_typed, call_typed}
use Rattle.laws_accepted.proofs.Named.{a_name_typed, operation_typed, force_typed}
use Rattle.laws_accepted.proofs.ModulesNamed.{module_name_typed, instance_typed}
use Rattle.laws_accepted.proofs.Indexed.{IndexesTyped, no_index, and_index, IsFetch, fetch_typed, name_fetch}
use Rattle.laws_accepted.proofs.Elements.{elements_typed, elements_from_typed}
use Rattle.laws_accepted.proofs.Selectors.{ComponentsGive, fields_typed}
use Rattle.laws_accepted.proofs.Sealing.{up_typed, down_typed}

module _ (f : File) (program : Program) (routines : Routines) (s : AsSpecified f program routines) (r : Running) (home : Option CluType) (context : Context) (rs : List Raise) where
  abbrev Here : ℕ → NodeKind → Expression → Type 0
  Here n k e = ExpressionAt f routines r home context n k an_object e

  abbrev Gives : Expression → Type 0
  Gives e = Typed f program routines s r home context rs e

  abbrev GiveAll : Expressions → Type 0
  GiveAll es = AllTyped f program routines s r home context rs es

  abbrev May : List raising.Raise → Type 0
  May xs = MayRaise r.given xs rs

  abbrev NameHere : ℕ → Identifier → Type 0
  NameHere n name = NameStands f routines r home context n name

  abbrev ExpressionHere : Expression → Type 0
  ExpressionHere e = Stands f routines r home context e

  abbrev AllHere : Expressions → Type 0
  AllHere es = AllStand f routines r home context es

  abbrev ComponentsHere : Components → Type 0
  ComponentsHere cs = ComponentsStand f routines r home context cs

  abbrev IndexesHere : Constants → Type 0
  IndexesHere cs = IndexesStand f routines r home context cs

  abbrev is_name : Expression → Bool
  is_name (a_name n name) = true
  is_name _ = false

  other_fetch : (n : ℕ) (e : Expression) (cs : Constants) → is_name e ≡ false → IsFetch f program routines s r home context rs n e cs
  other_fetch n (a_name m name) cs h = no (sym h)
  other_fetch n _ cs h = record { type = refl; invokes = refl; raises = refl; runs = refl }

  of_name : (n : ℕ) (name : Identifier) → Here n kind.Name (a_name n name) → NameHere n name → May (raising.by_expression f (a_name n name)) → Gives (a_name n name)
  of_name n name x (inl m) raise = module_name_typed f program routines s r home context rs n name x m.1 m.0 m.2
  of_name n name x (inr p) raise = a_name_typed f program routines s r home context rs n name x p raise

  -- an index, once the name and the indexes before and in the brackets are
  of_fetch : (n : ℕ) (e : Expression) (cs : Constants) → Here n kind.Index (an_index n e cs) → IsFetch f program routines s r home context rs n e cs → (May (raising.by_expression f e) → Gives e) → (May (raising.by_constants f cs) → IndexesTyped f program routines s r home context rs cs) →
      May (raising.by_expression f (an_index n e cs)) → Gives (an_index n e cs)
  of_fetch n e cs x is first others raise =
      let front = raise_front r.given (raising.by_expression f e ++ raising.by_constants f cs) (raising.by_sugar f n (codes "fetch") (type_of f e)) rs (subst (λ xs. MayRaise r.given xs rs) is.raises raise) in
      fetch_typed f program routines s r home context rs n e cs x is (first (raise_front r.given (raising.by_expression f e) (raising.by_constants f cs) rs front)) (others (raise_behind r.given (raising.by_expression f e) (raising.by_constants f cs) rs front)) raise

  mutual
    pub typed : (e : Expression) → ExpressionHere e → May (raising.by_expression f e) → Gives e
    typed (an_infix n op a b) h raise =
        let front = raise_front r.given (raising.by_expression f a ++ raising.by_expression f b) (raising.by_infix f n (sugar op) (type_of f a)) rs raise in
        infix_typed f program routines s r home context rs n op a b h.0 (typed a h.1 (raise_front r.given (raising.by_expression f a) (raising.by_expression f b) rs front)) (typed b h.2 (raise_behind r.given (raising.by_expression f a) (raising.by_expression f b) rs front)) raise
    typed (a_prefix n sign e) h raise = prefix_typed f program routines s r home context rs n sign e h.0 (typed e h.1 (raise_front r.given (raising.by_expression f e) (raising.by_sugar f n (prefix_name sign) (type_of f e)) rs raise)) raise
    typed (a_paren n e) h raise = paren_typed f program routines s r home context rs n e (typed e h raise)
    typed (a_literal n l) h raise = literal_typed f program routines s r home context rs n l h.0 h.1
    typed (a_name n name) h raise = of_name n name h.0 h.1 raise
    typed (an_index n (a_name m name) cs) h raise = elim h.1 [
      | inl i ↦ instance_typed f program routines s r home context rs n m name cs h.0 i.0 i.1 i.2 i.3
      | inr i ↦ of_fetch n (a_name m name) cs h.0 (name_fetch f program routines s r home context rs n m name cs i.0) (λ k. of_name m name i.1 i.2 k) (λ k. indexes_typed cs i.3 k) raise
    ]
    typed (an_index n e cs) h raise = of_fetch n e cs h.0 (other_fetch n e cs refl) (λ k. typed e h.1 k) (λ k. indexes_typed cs h.2 k) raise
    typed (a_get n e name) h raise = get_typed f program routines s r home context rs n e name h.0 (typed e h.1 (raise_front r.given (raising.by_expression f e) (raising.by_sugar f n (codes "get_" ++ name) (type_of f e)) rs raise)) raise
    typed (a_call n e es) h raise =
        let front = raise_front r.given (raising.by_expression f e ++ raising.by_expressions f es) (raising.invoked (type_of f e)) rs raise in
        call_typed f program routines s r home context rs n e es h.0 (typed e h.1 (raise_front r.given (raising.by_expression f e) (raising.by_expressions f es) rs front)) (all_typed es h.2 (raise_behind r.given (raising.by_expression f e) (raising.by_expressions f es) rs front)) raise
    typed (fields n t cs) h raise = fields_typed f program routines s r home context rs n t cs h.0 h.1 h.2 (components_give cs h.3 raise)
    typed (elements n t es) h raise = elements_typed f program routines s r home context rs n t es h.0 h.1 (all_typed es h.2 (raise_front r.given (raising.by_expressions f es) (raising.failure ∷ []) rs raise)) raise
    typed (elements_from n t e es) h raise =
        let front = raise_front r.given (raising.by_expression f e ++ raising.by_expressions f es) (raising.failure ∷ []) rs raise in
        elements_from_typed f program routines s r home context rs n t e es h.0 h.1 (typed e h.2 (raise_front r.given (raising.by_expression f e) (raising.by_expressions f es) rs front)) (all_typed es h.3 (raise_behind r.given (raising.by_expression f e) (raising.by_expressions f es) rs front)) raise
    typed (an_operation n t name) h raise = operation_typed f program routines s r home context rs n t name h.0 h.1
    typed (a_force n t) h raise = force_typed f program routines s r home context rs n t h.0 h.1
    typed (an_up n e) h raise = up_typed f program routines s r home context rs n e h.0 h.1 h.2 (typed e h.3 raise)
    typed (a_down n e) h raise = down_typed f program routines s r home context rs n e h.0 h.1 h.2 (typed e h.3 raise)

    pub all_typed : (es : Expressions) → AllHere es → May (raising.by_expressions f es) → GiveAll es
    all_typed no_expressions h raise = none_typed f program routines s r home context rs
    all_typed (expression_and e es) h raise = and_typed f program routines s r home context rs e es (typed e h.0 (raise_front r.given (raising.by_expression f e) (raising.by_expressions f es) rs raise)) (all_typed es h.1 (raise_behind r.given (raising.by_expression f e) (raising.by_expressions f es) rs raise))

    components_give : (cs : Components) → ComponentsHere cs → May (raising.by_components f cs) → ComponentsGive f program routines s r home context rs cs
    components_give no_components h raise = tt
    components_give (component_and n names e cs) h raise = (typed e h.0 (raise_front r.given (raising.by_expression f e) (raising.by_components f cs) rs raise), components_give cs h.1 (raise_behind r.given (raising.by_expression f e) (raising.by_components f cs) rs raise))

    indexes_typed : (cs : Constants) → IndexesHere cs → May (raising.by_constants f cs) → IndexesTyped f program routines s r home context rs cs
    indexes_typed no_constants h raise = no_index f program routines s r home context rs
    indexes_typed (constant_and (an_expression e) cs) h raise = and_index f program routines s r home context rs e cs (typed e h.0 (raise_front r.given (raising.by_expression f e) (raising.by_constants f cs) rs raise)) (indexes_typed cs h.1 (raise_behind r.given (raising.by_expression f e) (raising.by_constants f cs) rs raise))
    indexes_typed (constant_and (a_type t) cs) h raise = absurd h

  pub is_typed : (e : Expression) → ExpressionHere e → May (raising.by_expression f e) → IsTyped f program routines r home rs e
  is_typed e h raise =
      let x = typed e h raise in
      record { type = x.type; is = x.is; own = x.own; typed = x.typed; fit = x.fit }
