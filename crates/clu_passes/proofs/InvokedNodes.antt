-- Where nothing is lost, what is noted as invoked at an expression that is no call, and at an assignment to a component or an element, is
-- what the definitions say.
use Rattle.std.proofs.Common.{◌≡◌, ◌∙◌, ◌++◌, ℕ, Bool, true, false, List, [], codes, Option, Some, None, refl, sym, ap, subst}
use Rattle.std.specs.Option.{option_or}
use Rattle.std.proofs.lemmas.Bool.{true≢false}
use Rattle.clu_tree.specs.declared.node.NodeKind.{NodeKind}
use Rattle.clu_tree.specs.declared.node.NodeKind.TheVariants as kind
use Rattle.clu_types.specs.CluType.{CluType}
use Rattle.clu_types.specs.Arena.{IsArena}
use Rattle.clu_types.specs.declared.term.Term.{Term}
use Rattle.clu_types.specs.declared.term.TypeId.{TypeId}
use Rattle.clu_syntax.specs.Items.{Item}
use Rattle.clu_syntax.specs.Syntax.{Identifier, Expression, an_infix, a_prefix, a_name, an_index, a_get, a_call, an_operation}
use Rattle.clu_meaning.specs.Constants.{sugar}
use Rattle.clu_meaning.specs.Scoping.{Scope}
use Rattle.clu_meaning.specs.Settling.{type_settled}
use Rattle.clu_settle.specs.Lists.{type_id}
use Rattle.clu_checking.specs.Specifications.{Specification}
use Rattle.clu_checking.specs.Files.{File, meaning}
use Rattle.clu_checking.specs.Invoked as meant
use Rattle.clu_checking.specs.Typing.{name_type, takes_actuals, type_of}
use Rattle.clu_bindings.specs.declared.file.Headed.{Headed}
use Rattle.clu_bindings.specs.declared.wanted.Wanted.{Wanted}
use Rattle.clu_bindings.specs.declared.wanted.Wanted.TheVariants as wanted
use Rattle.clu_bindings.specs.Inside as bound
use Rattle.clu_bindings.specs.Named.{named_alone, named_by}
use Rattle.clu_bindings.specs.Readers.{meaning_in, value_in, wanted_in}
use Rattle.clu_bindings.specs.Wanted.{is_object_wanted}
use Rattle.clu_typing.specs.declared.applied.Applied.{Applied}
use Rattle.clu_typing.specs.declared.facts.Facts.{Facts}
use Rattle.clu_typing.specs.declared.facts.Invoked.{Invoked}
use Rattle.clu_typing.specs.Found.{IsAppliedTold}
use Rattle.clu_typing.specs.Invoked.{by_applied, instance_of}
use Rattle.clu_typing.specs.Nodes.{first_settled, first_type}
use Rattle.clu_typing.specs.Operators.{infix_operation, is_negated, prefix_operation}
use Rattle.clu_typing.specs.Stands.{operation_stands, operator_stands, stands_by}
use Rattle.clu_typing.specs.Typing.{IsType}
use Rattle.clu_passes.specs.ConstantTables.{file_with}
use Rattle.clu_passes.specs.InvokedSaid.{IsSaidIf}
use Rattle.clu_passes.specs.NamesKnown.{HasTypes, IsNameKnown}
use Rattle.clu_passes.specs.NodeTypes.{number_of}
use Rattle.clu_passes.specs.StandsFor.{IsIndex, IsNamed, IsOwnNamed, IsSugar, IsSugarIf, StandsFor, is_call}
use Rattle.clu_passes.proofs.InvokedExpressions as at
use Rattle.clu_passes.proofs.InvokedExpressions.{by_operation, infix_meant}
use Rattle.clu_passes.proofs.NodeSaid.{form}
use Rattle.clu_passes.proofs.Sugared.{infix_said, prefix_said}

-- a Name where an object is wanted stands for itself
alone_used : (w : Wanted) (n : ℕ) → is_object_wanted w ≡ true → named_alone w n ≡ Some (n, [])
alone_used wanted.NameWithActuals n e = absurd (true≢false (sym e))
alone_used wanted.Object n e = refl
alone_used _ n e = refl

module _ (h : Headed) (scope : Scope) (library : List Specification) (refused : List ℕ) (items : ℕ → Item) (terms : List Term) (arena : IsArena terms) (facts : Facts) (known : List (Option TypeId)) (n : ℕ) (its : Applied) where
  abbrev f : File
  f = file_with h.file scope library refused

  abbrev Said : Option Invoked → Option meant.Invoked → Type 0
  Said noted i = IsSaidIf terms facts.finding.words noted i

  -- what is noted at a node of this kind that is no call
  abbrev pub noted_as : NodeKind → Option Invoked
  noted_as k = option_or (by_applied terms its) (instance_of h.file n (named_by h.file k n))

  operator_said : (name : Option Identifier) (negated : Bool) (of : Option TypeId) (t : Option CluType) → IsAppliedTold h terms facts.finding n (operator_stands name negated of) its → IsSugarIf f terms facts name negated n t its → Said (by_applied terms its) (by_operation name t)
  operator_said (Some name) negated of t told stands = at.sugar_said f h terms arena facts n of t name negated its told stands
  operator_said None negated of t told stands = subst (λ (a : Applied). Said (by_applied terms a) None) (sym stands) tt

  operation_said : (of : Option TypeId) (t : CluType) (name : Identifier) → IsType terms of (Some t) → IsAppliedTold h terms facts.finding n (operation_stands of name) its → IsNamed f terms facts n (Some t) name its → Said (by_applied terms its) (Some (meant.operation_of t name))
  operation_said (Some of) t name is told named = at.named_said f h terms arena facts n (Some of) (Some t) name its told named
  operation_said None t name is told named = absurd is

  -- ---- expressions

  module _ (used : is_object_wanted (wanted_in h.file n) ≡ true) where
    name_said : (name : Identifier) → IsNameKnown f h items terms n n name → IsAppliedTold h terms facts.finding n (stands_by h.file known n (a_name n name)) its → IsOwnNamed f terms facts n name (meaning f n name) its → Said (noted_as kind.Name) (meant.named_as f n name (meaning f n name))
    unfolding stands_by
    name_said name types told stands =
        subst (λ (o : Option (ℕ × List ℕ)). Said (option_or (by_applied terms its) (instance_of h.file n o)) (meant.named_as f n name (meaning f n name))) (sym (alone_used (wanted_in h.file n) n used))
        (at.name_said f h terms arena facts n (meaning_in h.file n) (meaning f n name) (bound.own_type h.file n) (type_id (value_in h.file n)) name its types.means told stands types.instance)

    pub expression_said : (e : Expression) → number_of e ≡ n → is_call (form e) ≡ false → IsAppliedTold h terms facts.finding n (stands_by h.file known n e) its → StandsFor f terms facts e its → HasTypes f h items terms n e → Said (noted_as (form e)) (meant.invoked_by f e)
    unfolding stands_by
    expression_said (an_infix m o a b) number call told stands types =
        subst (λ (i : Option meant.Invoked). Said (option_or (by_applied terms its) None) i) (sym (infix_meant (sugar o) (type_of f a) ∙ ap (λ (name : Option Identifier). by_operation name (type_of f a)) (sym (infix_said o))))
        (at.or_none f h terms arena facts n (by_applied terms its) (by_operation (infix_operation o) (type_of f a))
        (operator_said (infix_operation o) (is_negated o) (first_type h.file known n) (type_of f a) told (subst (λ (j : ℕ). IsSugarIf f terms facts (infix_operation o) (is_negated o) j (type_of f a) its) number stands)))
    expression_said (a_prefix m s e) number call told stands types =
        subst (λ (name : Identifier). Said (option_or (by_applied terms its) None) (meant.by_sugar name (type_of f e))) (prefix_said s)
        (at.or_none f h terms arena facts n (by_applied terms its) (meant.by_sugar (prefix_operation s) (type_of f e))
        (at.sugar_said f h terms arena facts n (first_type h.file known n) (type_of f e) (prefix_operation s) false its told (subst (λ (j : ℕ). IsSugar f terms facts false j (prefix_operation s) (type_of f e) its) number stands)))
    expression_said (a_get m e name) number call told stands types =
        at.or_none f h terms arena facts n (by_applied terms its) (meant.by_sugar (codes "get_" ++ name) (type_of f e))
        (at.sugar_said f h terms arena facts n (first_type h.file known n) (type_of f e) (codes "get_" ++ name) false its told (subst (λ (j : ℕ). IsSugar f terms facts false j (codes "get_" ++ name) (type_of f e) its) number stands))
    expression_said (an_operation m t name) number call told stands types =
        at.or_none f h terms arena facts n (by_applied terms its) (Some (meant.operation_of (type_settled scope t) name))
        (operation_said (first_settled h.file n) (type_settled scope t) name types told (subst (λ (j : ℕ). IsNamed f terms facts j (Some (type_settled scope t)) name its) number stands))
    expression_said (a_name m name) number call told stands types =
        subst (λ (j : ℕ). Said (noted_as kind.Name) (meant.named_as f j name (meaning f j name))) (sym number)
        (name_said name (subst (λ (j : ℕ). IsNameKnown f h items terms n j name) number types) told (subst (λ (j : ℕ). IsOwnNamed f terms facts j name (meaning f j name) its) number stands))
    expression_said (an_index m (a_name k name) cs) number call told stands types =
        at.brackets_said f h terms arena facts n (first_type h.file known n) k name cs its types.0 types.1 types.2 told (subst (λ (j : ℕ). IsIndex f terms facts (takes_actuals f k name) j (name_type f k name) its) number stands)
    expression_said (an_index m e cs) number call told stands types =
        at.fetch_said f h terms arena facts n (first_type h.file known n) (type_of f e) its types told (subst (λ (j : ℕ). IsSugar f terms facts false j (codes "fetch") (type_of f e) its) number stands)
    expression_said (a_call m e es) number call told stands types = absurd (true≢false call)
    expression_said _ number call told stands types = at.none_said f h terms arena facts n its stands None None tt
