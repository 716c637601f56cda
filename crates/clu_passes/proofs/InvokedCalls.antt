-- What is noted as invoked at a call is what the definitions say: the routine that it names, or a routine object.
use Rattle.std.proofs.Common.{◌≡◌, ◌∙◌, ◌&&◌, ℕ, Bool, true, false, if◌then◌else◌, List, ◌∷◌, slice_get, Option, Some, None, refl, sym, ap, subst}
use Rattle.std.specs.Prelude.{unwrap_or}
use Rattle.std.proofs.lemmas.Bool.{true≢false}
use Rattle.clu_tree.specs.declared.node.NodeKind.{NodeKind}
use Rattle.clu_tree.specs.declared.node.NodeKind.TheVariants as kind
use Rattle.clu_types.specs.declared.term.Term.{Term}
use Rattle.clu_syntax.specs.Items.{Item}
use Rattle.clu_syntax.specs.Kinds.{is_expression}
use Rattle.clu_syntax.specs.Syntax.{Constants, Expression, Identifier, an_infix, a_name, an_index, an_operation}
use Rattle.clu_meaning.specs.Scoping as means
use Rattle.clu_meaning.specs.Scoping.{Scope}
use Rattle.clu_checking.specs.Specifications.{Specification}
use Rattle.clu_checking.specs.Files.{File, item, kind_in, meaning}
use Rattle.clu_checking.specs.Invocations.{is_object_wanted}
use Rattle.clu_checking.specs.Invoked as meant
use Rattle.clu_checking.specs.Typing.{takes_actuals_by}
use Rattle.clu_checking.specs.Wanted.{wanted}
use Rattle.clu_bindings.specs.declared.file.Headed.{Headed}
use Rattle.clu_bindings.specs.Tables.{optional}
use Rattle.clu_typing.specs.declared.facts.Invoked.{Invoked}
use Rattle.clu_typing.specs.declared.facts.Invoked.TheVariants as invoked
use Rattle.clu_typing.specs.Invoked.{called_by, names_routine, names_routine_as}
use Rattle.clu_typing.specs.Nodes.{has_actuals}
use Rattle.clu_passes.specs.ConstantTables.{file_with}
use Rattle.clu_passes.specs.InvokedSaid.{IsSaid, IsSaidIf}
use Rattle.clu_passes.specs.NamesKnown.{HasTypes}
use Rattle.clu_passes.proofs.NodeSaid.{form, form_at}

module _ (h : Headed) (scope : Scope) (library : List Specification) (refused : List ℕ) (items : ℕ → Item) (terms : List Term) (words : List (List ℕ)) (before : List (Option Invoked)) where
  abbrev f : File
  f = file_with h.file scope library refused

  abbrev Said : Option Invoked → Option meant.Invoked → Type 0
  Said noted i = IsSaidIf terms words noted i

  -- ---- the routine that is called, by what is noted at the node c

  module _ (c : ℕ) where
    abbrev Called : NodeKind → Option Invoked
    Called k = if names_routine_as h.file k c then optional (slice_get before c) else None

    -- brackets with no actuals name no module
    no_instance : (k : ℕ) (name : Identifier) (cs : Constants) (d : means.Meaning) → takes_actuals_by f k name d ≡ false → meant.instance_of f name cs d ≡ None
    no_instance k name cs means.is_module none = absurd (true≢false none)
    no_instance k name cs means.is_type_set none = refl
    no_instance k name cs _ none = refl

    callee_said : (e : Expression) → HasTypes f h items terms c e → Said (optional (slice_get before c)) (meant.invoked_by f e) → Said (Called (form e)) (meant.named_by f e)
    callee_said (a_name m name) types is = is
    callee_said (an_operation m t name) types is = is
    callee_said (an_index m (a_name k name) cs) types is = by (has_actuals h.file c) refl
      where
        by : (b : Bool) → has_actuals h.file c ≡ b → Said (if has_actuals h.file c then optional (slice_get before c) else None) (meant.instance_of f name cs (meaning f k name))
        by true has =
            subst (λ (b : Bool). Said (if b then optional (slice_get before c) else None) (meant.instance_of f name cs (meaning f k name))) (sym has)
            (subst (λ (b : Bool). Said (optional (slice_get before c)) (meant.by_index f b k name cs)) (sym types.0 ∙ has) is)
        by false has =
            subst (λ (b : Bool). Said (if b then optional (slice_get before c) else None) (meant.instance_of f name cs (meaning f k name))) (sym has)
            (subst (λ (i : Option meant.Invoked). Said None i) (sym (no_instance k name cs (meaning f k name) (sym types.0 ∙ has))) tt)
    callee_said (an_index m e cs) types is = subst (λ (b : Bool). Said (if b then optional (slice_get before c) else None) None) (sym types) tt
    callee_said (an_infix m o a b) types is = tt
    callee_said _ types is = tt

    -- at an expression there is what an object invokes
    at_expression : (k : NodeKind) → is_expression k ≡ true → meant.invoked_in f k c ≡ meant.if_object f (is_expression k && is_object_wanted (wanted f c)) c
    at_expression kind.SetField e = absurd (true≢false (sym e))
    at_expression kind.SetIndex e = absurd (true≢false (sym e))
    at_expression _ e = refl

    object_said : is_expression (kind_in f c) ≡ true → is_object_wanted (wanted f c) ≡ true → meant.invoked_at f c ≡ meant.invoked_by f (item f c).expression
    object_said expression used =
        at_expression (kind_in f c) expression
        ∙ ap (λ (b : Bool). meant.if_object f (b && is_object_wanted (wanted f c)) c) expression
        ∙ ap (λ (b : Bool). meant.if_object f b c) used

    -- the same by its kind
    pub routine_said : is_expression (kind_in f c) ≡ true → is_object_wanted (wanted f c) ≡ true → HasTypes f h items terms c (item f c).expression → Said (optional (slice_get before c)) (meant.invoked_at f c)
        → Said (if names_routine h.file c then optional (slice_get before c) else None) (meant.named_by f (item f c).expression)
    routine_said expression used types is =
        subst (λ (k : NodeKind). Said (Called k) (meant.named_by f (item f c).expression)) (form_at f.nodes c expression)
        (callee_said (item f c).expression types (subst (λ (i : Option meant.Invoked). Said (optional (slice_get before c)) i) (object_said expression used) is))

  -- ---- the call

  stored_else : (o : Option Invoked) (i : Option meant.Invoked) → Said o i → IsSaid terms words (unwrap_or o invoked.Stored) (meant.or_stored i)
  stored_else (Some its) (Some i) is = is
  stored_else (Some its) None is = absurd is
  stored_else None (Some i) is = absurd is
  stored_else None None is = refl

  pub call_said : (c : ℕ) (cs : List ℕ) (e : Expression) → Said (if names_routine h.file c then optional (slice_get before c) else None) (meant.named_by f e) → IsSaid terms words (unwrap_or (called_by h.file before (c ∷ cs)) invoked.Stored) (meant.or_stored (meant.named_by f e))
  call_said c cs e is = stored_else (if names_routine h.file c then optional (slice_get before c) else None) (meant.named_by f e) is
