use Rattle.std.proofs.Common.{◌≡◌, ◌∙◌, List, None, ap, subst, sym, vec_items}
use Rattle.std.proofs.lemmas.Result.{err_from_is_err_and}
use Rattle.clu_tree.specs.declared.node.Node.{Node}
use Rattle.clu_tree.specs.Nodes.{modules}
use Rattle.clu_types.specs.declared.spec.Spec.{Spec}
use Rattle.clu_types.specs.declared.term.Term.{Term}
use Rattle.clu_types.specs.Arena.{Grows}
use Rattle.clu_types.proofs.Carrying.{grows_on}
use Rattle.clu_typing.specs.declared.facts.Facts.{Facts}
use Rattle.clu_head.specs.declared.head.Head.{Head}
use Rattle.clu_check_mod.specs.Answered.{IfLost, IsFirstBy, IsFirstOf, IsUnspecifiedBy}
use Rattle.clu_check_mod.specs.Modules.{AreMade, AreOf, AreSpecified}
use Rattle.clu_check_mod.specs.Notes.{operations_of}
use Rattle.clu_check_mod.specs.declared.checking.Found.{Found}
use Rattle.clu_check_mod.proofs.Answered.{error_more, first_by, found_by, no_more, not_of_tree}
use Rattle.clu_check_mod.proofs.Losing.{specified_later}
use Rattle.clu_check_mod.proofs.checking.check_headed.Goals as goal

pub returns-clause-found : goal.returns-clause-found
returns-clause-found c =
    let made = c.in_ok-new.ensures.ok in
    let put = c.found_of.ensures.own in
    let own : c.in_ok-own.own.items ≡ c.in_ok-new.field-0.value.own.items = cc in
    let nodes : List Node = c.args.headed.file.syntax.now in
    let P : List Node → Type 0 = λ ns. AreOf ns (modules ns) c.in_ok-own.own.items in
    let Q : List Spec → Type 0 = λ specs. AreOf nodes (modules nodes) specs in
    (subst Q own (subst P c.tree-2.ensures.same c.in_ok-own.ensures.own), c.in_ok-ask.ensures.closed)

pub returns-in_err-own-clause-refused : goal.returns-in_err-own-clause-refused
returns-in_err-own-clause-refused c =
    let p = err_from_is_err_and c.from_residual-in_err-own.result c.from_residual-in_err-own.ensures.1 in
    rw (p.1, p.2) (not_of_tree c.args.headed.file.syntax.now c.in_err-own.field-0.0 c.in_err-own.ensures.refused)

pub returns-in_err-own-clause-first : goal.returns-in_err-own-clause-first
returns-in_err-own-clause-first c =
    let p = err_from_is_err_and c.from_residual-in_err-own.result c.from_residual-in_err-own.ensures.1 in
    let headed = c.args.headed in
    let before : List Term = c.args.types.now in
    let grows : Grows before c.ask.new.types = grows_on before c.facts_of.new.types c.ask.new.types c.in_ok-facts.ensures.kept c.in_ok-ask.ensures.kept in
    let said : IfLost c.in_err-own.field-0.0 (AreSpecified headed.file.syntax.now c.ask.new.types headed.heads.now.modules.items → ⊥) =
    subst (λ (ns : List Node). IfLost c.in_err-own.field-0.0 (AreSpecified ns c.ask.new.types headed.heads.now.modules.items → ⊥)) c.tree-2.ensures.same
    (subst (λ (hs : List Head). IfLost c.in_err-own.field-0.0 (AreSpecified c.tree-2.result.now c.ask.new.types hs → ⊥)) c.as_slice-heads.ensures.value c.in_err-own.ensures.lost) in
    rw (p.1, p.2)
    (no_more (IsFirstBy headed before c.args.lists.now c.args.long.now c.args.extent) (AreSpecified headed.file.syntax.now c.ask.new.types headed.heads.now.modules.items → ⊥) (IsUnspecifiedBy headed before c.args.lists.now c.args.long.now c.args.extent) c.in_err-own.field-0.0
    (λ none. record {
      is =
          first_by headed before c.facts_of.new.types c.args.lists.now c.args.long.now c.args.extent c.in_ok-facts.facts.value c.deref_mut.result.now c.deref_mut.ensures.value
          c.in_ok-facts.ensures.known c.in_ok-facts.ensures.sound c.in_ok-facts.ensures.kept None c.in_ok-ask.ensures.first.is;
      lost = λ are. none (specified_later before c.ask.new.types grows headed.file.syntax.now headed.heads.now.modules.items are);
    })
    c.in_err-own.ensures.refused said)

pub returns-in_err-ask-clause-first : goal.returns-in_err-ask-clause-first
returns-in_err-ask-clause-first c =
    let p = err_from_is_err_and c.from_residual-in_err-ask.result c.from_residual-in_err-ask.ensures.1 in
    rw (p.1, p.2)
    (error_more (IsFirstOf c.args.headed c.facts_of.new.types c.deref_mut.result.now c.args.lists.now c.args.long.now c.args.extent) (IsFirstBy c.args.headed c.args.types.now c.args.lists.now c.args.long.now c.args.extent) ⊥ (IsUnspecifiedBy c.args.headed c.args.types.now c.args.lists.now c.args.long.now c.args.extent)
    (first_by c.args.headed c.args.types.now c.facts_of.new.types c.args.lists.now c.args.long.now c.args.extent c.in_ok-facts.facts.value c.deref_mut.result.now c.deref_mut.ensures.value
    c.in_ok-facts.ensures.known c.in_ok-facts.ensures.sound c.in_ok-facts.ensures.kept) (λ none. absurd none)
    c.in_err-ask.field-0.0 c.in_err-ask.ensures.first)

pub returns-clause-first : goal.returns-clause-first
returns-clause-first c =
    let made = c.in_ok-new.ensures.ok in
    let put = c.found_of.ensures in
    let nodes : List Node = c.args.headed.file.syntax.now in
    let found : Found = c.in_ok-new.field-0.value in
    let own : c.in_ok-own.own.items ≡ found.own.items = sym (ap (λ (f : Found). f.own.items) made ∙ put.own) in
    let box : c.deref.result.now ≡ c.ask.new.facts = c.deref.ensures in
    found_by c.args.headed c.args.types.now c.facts_of.new.types c.args.lists.now c.args.long.now c.args.extent c.in_ok-facts.facts.value c.deref_mut.result.now c.deref_mut.ensures.value
    c.in_ok-facts.ensures.known c.in_ok-facts.ensures.sound c.in_ok-facts.ensures.kept c.ask.new.types c.ask.new.facts found c.in_ok-ask.ensures.first
    (ap (λ (f : Found). f.type_of.items) made ∙ ap vec_items put.types)
    (ap (λ (f : Found). f.op_of.items) made ∙ ap vec_items put.operations ∙ c.in_ok-op_of.ensures ∙ ap (λ (f : Facts). operations_of c.ask.new.types f c.tree.result.now) box ∙ ap (operations_of c.ask.new.types c.ask.new.facts) c.tree.ensures.same)
    (subst (AreMade c.ask.new.types c.args.headed.heads.now.modules.items) own (subst (λ (hs : List Head). AreMade c.ask.new.types hs c.in_ok-own.own.items) c.as_slice-heads.ensures.value c.in_ok-own.ensures.made))
