-- What was settled over an arena is so over one that grew out of it.
use Rattle.std.proofs.Common.{◌≡◌, ◌+◌, ◌≤◌, ℕ, zero, suc, List, [], ◌∷◌, ◌++◌, All, length, map, take, Option, Some, None, refl, sym, ap, ap₂, subst, arith, append-nil}
use Rattle.std.proofs.lemmas.List.{length-append, length-map}
use Rattle.clu_base.specs.declared.constants.Const.{Const}
use Rattle.clu_tree.specs.declared.node.Node.{Node}
use Rattle.clu_tree.specs.Nodes.{modules}
use Rattle.clu_types.specs.declared.spec.ParamKind.{ParamKind}
use Rattle.clu_types.specs.declared.spec.Spec.{Spec}
use Rattle.clu_types.specs.declared.term.Term.{Term}
use Rattle.clu_types.specs.Arena.{Grows}
use Rattle.clu_syntax.specs.Nodes.{item_at}
use Rattle.clu_syntax.specs.Syntax.{Identifier}
use Rattle.clu_meaning.specs.Scoping.{Scope}
use Rattle.clu_meaning.specs.Settling.{Value as Settled, settled, value_of_constant}
use Rattle.clu_settle.specs.declared.value.Value.{Value}
use Rattle.clu_settle.specs.Lists.{value_of}
use Rattle.clu_settle.specs.Settled.{AreSettled}
use Rattle.clu_settle.specs.Values.{Agrees, TypeWithin, told}
use Rattle.clu_settle.proofs.Telling.{told_kept}
use Rattle.clu_settle.proofs.Within.{all_more, more_types, value_within}
use Rattle.clu_bindings.specs.declared.bindings.ModuleKnown.{ModuleKnown}
use Rattle.clu_bindings.specs.Headlines.{Headline, headline_at}
use Rattle.clu_bindings.specs.Modules.{kept_in, kept_known, modules_in, own_headed, own_in}
use Rattle.clu_passes.proofs.KindsStay.{kinds_same}

module _ (old new : List Term) (grows : Grows old new) where
  -- ---- values

  pub settled_later : (nodes : List Node) (scope : Scope) (constants : List Const) (values : List Value) → AreSettled nodes scope old constants values → AreSettled nodes scope new constants values
  settled_later nodes scope constants values are = record {
    size = are.size;
    within = (all_more (TypeWithin (length old)) (TypeWithin (length new)) (more_types old new grows) values are.within.0, are.within.1);
    each = λ n constant.
        let inside = value_within (length old) (length constants) values n are.within in
        subst (λ (o : Option Settled). Agrees o (value_of_constant scope (settled scope) (item_at nodes n).constant)) (sym (told_kept old new constants constants grows ([], sym (append-nil constants)) (value_of values n) inside.0 inside.1)) (are.each n constant);
    rights = λ n r name so.
        let inside = value_within (length old) (length constants) values r are.within in
        subst (λ (o : Option Settled). Agrees o (settled scope (item_at nodes r).constant)) (sym (told_kept old new constants constants grows ([], sym (append-nil constants)) (value_of values r) inside.0 inside.1)) (are.rights n r name so);
  }

  -- ---- modules

  module _ (values : List Value) (all : All (TypeWithin (length old)) values) (nodes : List Node) where
    abbrev known_with : Headline → List (Option ParamKind) → List (Identifier × ModuleKnown)
    known_with h kinds = (h.name, record { kinds = kinds; is_routine = h.is_routine }) ∷ []

    headed_later : (o : Option Headline) → own_headed new values nodes o ≡ own_headed old values nodes o
    headed_later (Some h) = ap (known_with h) (kinds_same old new grows values all nodes h.parameters)
    headed_later None = refl

    own_later : (ns : List ℕ) → own_in new values nodes ns ≡ own_in old values nodes ns
    unfolding own_in
    own_later [] = refl
    own_later (n ∷ ns) = ap₂ (λ (xs ys : List (Identifier × ModuleKnown)). xs ++ ys) (headed_later (headline_at nodes n)) (own_later ns)

    pub modules_later : (library : List Spec) → modules_in new values nodes library ≡ modules_in old values nodes library
    modules_later library = ap (λ (xs : List (Identifier × ModuleKnown)). xs ++ kept_in (take 4294967295 library)) (own_later (modules nodes))

-- ---- how many modules there are

take_fewer : {X : Type 0} (k : ℕ) (xs : List X) → length (take k xs) ≤ length xs
take_fewer zero xs = omega arith
take_fewer (suc k) [] = omega arith
take_fewer (suc k) (x ∷ xs) = let fewer = take_fewer k xs in omega (arith, fewer)

module _ (types : List Term) (values : List Value) (nodes : List Node) where
  headed_fewer : (o : Option Headline) → length (own_headed types values nodes o) ≤ 1
  headed_fewer (Some h) = omega arith
  headed_fewer None = omega arith

  own_fewer : (ns : List ℕ) → length (own_in types values nodes ns) ≤ length ns
  unfolding own_in
  own_fewer [] = omega arith
  own_fewer (n ∷ ns) =
      let one = headed_fewer (headline_at nodes n) in
      let rest = own_fewer ns in
      let both = length-append (own_headed types values nodes (headline_at nodes n)) (own_in types values nodes ns) in
      omega (arith, one, rest, both)

  pub modules_fewer : (library : List Spec) → length (modules_in types values nodes library) ≤ length (modules nodes) + length library
  modules_fewer library =
      let own = own_fewer (modules nodes) in
      let kept = take_fewer 4294967295 library in
      let named = length-map {B = Identifier × ModuleKnown} (take 4294967295 library) (λ (s : Spec). (s.name, kept_known s)) in
      let both = length-append (own_in types values nodes (modules nodes)) (kept_in (take 4294967295 library)) in
      omega (arith, own, kept, named, both)
