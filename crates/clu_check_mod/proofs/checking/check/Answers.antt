use Rattle.std.proofs.Common.{◌≡◌, ◌∙◌, List, ap, ap₂, length, refl, subst, sym, take, vec_items}
use Rattle.clu_tree.specs.declared.node.Node.{Node}
use Rattle.clu_tree.specs.Nodes.{modules}
use Rattle.clu_types.specs.declared.spec.Spec.{Spec}
use Rattle.clu_types.specs.declared.term.Term.{Term}
use Rattle.clu_settle.specs.declared.settling.Values.{Values}
use Rattle.clu_core.specs.declared.checked.Checked.{Checked}
use Rattle.clu_check_mod.specs.Answered.{AreOwn, IsNoted}
use Rattle.clu_check_mod.specs.Notes.{constants_of, denoted_of, operations_of}
use Rattle.clu_check_mod.specs.declared.checking.Found.{Found}
use Rattle.clu_check_mod.specs.declared.walk.Extent.TheVariants as extent
use Rattle.clu_check_mod.proofs.Answered.{own_first}
use Rattle.clu_check_mod.proofs.Closed.{closed_modules}
use Rattle.clu_check_mod.proofs.checking.check.Goals as goal

pub returns-clause-closed : goal.returns-clause-closed
returns-clause-closed c = closed_modules c.args.syntax c.tree.ensures.forms (c.in_ok-settled.ensures.found.1 refl)

pub returns-clause-noted : goal.returns-clause-noted
returns-clause-noted c =
    let was = c.in_ok-settled.ensures.noted in
    let put = c.checked-checked.ensures in
    let lent : c.deref_mut.result.now ≡ c.in_ok-settled.found.value = c.deref_mut.ensures.value in
    let first : c.deref.result.now ≡ c.in_ok-settled.settled.value = c.deref.ensures in
    let second : c.deref-2.result.now ≡ c.in_ok-settled.settled.value = c.deref-2.ensures in
    subst (IsNoted c.args.syntax c.args.library.now) (sym c.in_ok-new.ensures.ok) (record {
      is = was.is;
      types_are = was.are.types_are ∙ sym put.types;
      type_of = ap vec_items put.type_of ∙ ap (λ (f : Found). f.type_of.items) lent ∙ was.are.type_of;
      op_of = ap vec_items put.op_of ∙ ap (λ (f : Found). f.op_of.items) lent ∙ was.are.op_of ∙ ap (λ (terms : List Term). operations_of terms was.is.is.is.is.is.known.facts.now c.args.syntax) (sym put.types);
      denoted = ap vec_items put.denoted ∙ c.in_ok-denoted.ensures ∙ ap₂ denoted_of (c.as_slice-2.ensures.value ∙ ap (λ (v : Values). v.values.items) second ∙ was.values) c.tree-2.ensures.same;
      constant_of = ap vec_items put.constant_of ∙ c.in_ok-constant_of.ensures ∙ ap₂ constants_of c.tree.ensures.same (c.as_slice.ensures.value ∙ ap (λ (v : Values). v.values.items) first ∙ was.values);
      constants = put.constants ∙ was.constants;
    })

pub returns-clause-made : goal.returns-clause-made
returns-clause-made c =
    let nodes : List Node = c.args.syntax in
    let put = c.checked-checked.ensures.specs in
    let found : Found = c.in_ok-settled.found.value in
    let lent : Found = c.deref_mut.result.now in
    let old : lent.own.items ≡ found.own.items = ap (λ (f : Found). f.own.items) c.deref_mut.ensures.value in
    let all : List Spec = c.checked-checked.result.specs.items in
    subst (λ (done : Checked). AreOwn nodes c.args.library.now extent.Whole (take (length (modules nodes)) done.specs.items)) (sym c.in_ok-new.ensures.ok)
    (own_first nodes c.args.library.now extent.Whole c.in_ok-settled.settled.value found all c.in_ok-settled.ensures.noted c.in_ok-settled.ensures.found.0
    (ap (λ (xs : List Spec). take (length xs) all) (sym old) ∙ ap (λ (xs : List Spec). take (length lent.own.items) xs) put ∙ c.in_ok-add_others.ensures.kept ∙ old))
