-- Nodes without names: those of kinds of which V4 is not asked.
use Rattle.std.proofs.Common.{◌≡◌, ◌∙◌, ℕ, ◌&&◌, not, Bool, true, false, List, [], ◌∷◌, ◌++◌, length, Some, inl, inr, refl, sym, ap, subst, arith}
use Rattle.std.specs.Prelude.{slice_get}
use Rattle.std.proofs.lemmas.Bool.{true≢false, and_parts}
use Rattle.clu_base.specs.declared.rules.Rule.TheVariants as rule
use Rattle.clu_tree.specs.declared.node.Node.{Node}
use Rattle.clu_tree.specs.declared.node.NodeKind.{NodeKind}
use Rattle.clu_tree.specs.declared.node.NodeKind.TheVariants as kind
use Rattle.clu_parser.specs.Shape.{Part, token, name, value, child, many, maybe, Group, more_names, variable, parts_of, forms, Letter, own, named, valued, node, IsWord, nothing, token_is, name_is, value_is, child_is, no_more, one_more, without, with_one, IsFormOf, names_in, HasForm, HaveForms}
use Rattle.clu_type_rules.specs.Asked.{is_asked}

has_names : Group → Bool
has_names more_names = true
has_names variable = true
has_names _ = false

is_nameless : List Part → Bool
is_nameless [] = true
is_nameless (token x ∷ ps) = is_nameless ps
is_nameless (name ∷ ps) = false
is_nameless (value xs ∷ ps) = is_nameless ps
is_nameless (child c ∷ ps) = is_nameless ps
is_nameless (many g ∷ ps) = not (has_names g) && is_nameless ps
is_nameless (maybe g ∷ ps) = not (has_names g) && is_nameless ps

are_nameless : List (List Part) → Bool
are_nameless [] = true
are_nameless (form ∷ more) = is_nameless form && are_nameless more

group_nameless : (g : Group) → not (has_names g) ≡ true → is_nameless (parts_of g) ≡ true
unfolding has_names is_nameless
group_nameless more_names e = absurd (true≢false (sym e))
group_nameless variable e = absurd (true≢false (sym e))
group_nameless _ e = refl

none_in_both : (v w : List Letter) → names_in v ≡ 0 → names_in w ≡ 0 → names_in (v ++ w) ≡ 0
none_in_both [] w e d = d
none_in_both (own x ∷ v) w e d = none_in_both v w e d
none_in_both (named ∷ v) w e d = absurd (omega (arith, e))
none_in_both (valued x ∷ v) w e d = none_in_both v w e d
none_in_both (node k ∷ v) w e d = none_in_both v w e d

no_names : (form : List Part) (w : List Letter) → IsWord form w → is_nameless form ≡ true → names_in w ≡ 0
unfolding is_nameless
no_names _ _ nothing e = refl
no_names _ _ (token_is x ps w d) e = no_names ps w d e
no_names _ _ (name_is ps w d) e = absurd (true≢false (sym e))
no_names _ _ (value_is xs x ps w h d) e = no_names ps w d e
no_names _ _ (child_is c k ps w h d) e = no_names ps w d e
no_names _ _ (no_more g ps w d) e = no_names ps w d (and_parts (not (has_names g)) (is_nameless ps) e).1
no_names _ _ (one_more g ps v w u dv dw same) e =
    ap names_in same ∙ none_in_both v w (no_names (parts_of g) v dv (group_nameless g (and_parts (not (has_names g)) (is_nameless ps) e).0)) (no_names (many g ∷ ps) w dw e)
no_names _ _ (without g ps w d) e = no_names ps w d (and_parts (not (has_names g)) (is_nameless ps) e).1
no_names _ _ (with_one g ps v w u dv dw same) e =
    ap names_in same ∙ none_in_both v w (no_names (parts_of g) v dv (group_nameless g (and_parts (not (has_names g)) (is_nameless ps) e).0)) (no_names ps w dw (and_parts (not (has_names g)) (is_nameless ps) e).1)

form_nameless : (form : List Part) (fs : List (List Part)) → IsFormOf form fs → are_nameless fs ≡ true → is_nameless form ≡ true
unfolding are_nameless
form_nameless form [] at e = absurd at
form_nameless form (it ∷ more) (inl same) e = subst (λ (ps : List Part). is_nameless ps ≡ true) (sym same) (and_parts (is_nameless it) (are_nameless more) e).0
form_nameless form (it ∷ more) (inr among) e = form_nameless form more among (and_parts (is_nameless it) (are_nameless more) e).1

kind_nameless : (k : NodeKind) → is_asked k rule.LiteralRange ≡ false → are_nameless (forms k) ≡ true
unfolding has_names is_nameless are_nameless
kind_nameless kind.File e = absurd (true≢false e)
kind_nameless kind.Module e = absurd (true≢false e)
kind_nameless kind.Routine e = absurd (true≢false e)
kind_nameless kind.Cluster e = absurd (true≢false e)
kind_nameless kind.Parm e = absurd (true≢false e)
kind_nameless kind.Results e = absurd (true≢false e)
kind_nameless kind.Signals e = absurd (true≢false e)
kind_nameless kind.Exc e = absurd (true≢false e)
kind_nameless kind.Where e = absurd (true≢false e)
kind_nameless kind.Restrict e = absurd (true≢false e)
kind_nameless kind.Oper e = absurd (true≢false e)
kind_nameless kind.TypeSet e = absurd (true≢false e)
kind_nameless kind.Equate e = absurd (true≢false e)
kind_nameless kind.Own e = absurd (true≢false e)
kind_nameless kind.Decl e = absurd (true≢false e)
kind_nameless kind.FieldT e = absurd (true≢false e)
kind_nameless kind.NameT e = absurd (true≢false e)
kind_nameless kind.Declare e = absurd (true≢false e)
kind_nameless kind.Init e = absurd (true≢false e)
kind_nameless kind.Assign e = absurd (true≢false e)
kind_nameless kind.SetField e = absurd (true≢false e)
kind_nameless kind.SetIndex e = absurd (true≢false e)
kind_nameless kind.CallS e = absurd (true≢false e)
kind_nameless kind.For e = absurd (true≢false e)
kind_nameless kind.TagArm e = absurd (true≢false e)
kind_nameless kind.Signal e = absurd (true≢false e)
kind_nameless kind.Exit e = absurd (true≢false e)
kind_nameless kind.Begin e = absurd (true≢false e)
kind_nameless kind.Resignal e = absurd (true≢false e)
kind_nameless kind.Except e = absurd (true≢false e)
kind_nameless kind.When e = absurd (true≢false e)
kind_nameless kind.Others e = absurd (true≢false e)
kind_nameless kind.Infix e = absurd (true≢false e)
kind_nameless kind.Prefix e = absurd (true≢false e)
kind_nameless kind.Literal e = absurd (true≢false e)
kind_nameless kind.Name e = absurd (true≢false e)
kind_nameless kind.Get e = absurd (true≢false e)
kind_nameless kind.Call e = absurd (true≢false e)
kind_nameless kind.FieldE e = absurd (true≢false e)
kind_nameless kind.OperOf e = absurd (true≢false e)
kind_nameless _ e = refl

length_none : (xs : List (List ℕ)) → length xs ≡ 0 → xs ≡ []
length_none [] e = refl
length_none (x ∷ xs) e = absurd (omega (arith, e))

pub nameless : (nodes : List Node) → HaveForms nodes → (n : ℕ) (its : Node) → slice_get nodes n ≡ Some its → is_asked its.kind rule.LiteralRange ≡ false → its.names ≡ []
nameless nodes shaped n its at e =
    let f : HasForm nodes its = shaped n its at in
    length_none its.names (f.names_are ∙ no_names f.form f.word f.is_word (form_nameless f.form (forms its.kind) f.of_kind (kind_nameless its.kind e)))
