use Rattle.std.proofs.Common.{List, length, refl, subst, sym}
use Rattle.clu_tree.specs.declared.node.Node.{Node}
use Rattle.clu_settle.specs.declared.value.Value.{Value}
use Rattle.clu_bindings.specs.declared.bindings.Bindings.{Bindings}
use Rattle.clu_bindings.specs.Bindings.{AreBindings}
use Rattle.clu_bindings.specs.Modules.{AreModules, modules_in}
use Rattle.clu_bindings.specs.Numbered.{AreNumbered}
use Rattle.clu_bindings.specs.Owned.{AreOwned}
use Rattle.clu_check_mod.specs.Answered.{AreLists}
use Rattle.clu_check_mod.proofs.Answered.{first_with}
use Rattle.clu_check_mod.proofs.checking.check_settled.Goals as goal

pub returns-clause-first : goal.returns-clause-first
returns-clause-first c =
    let nodes : List Node = c.args.syntax.now in
    let values = c.as_slice-values.ensures.value in
    let bindings = c.deref.ensures in
    first_with nodes c.args.rounds.now c.args.names.now c.args.settled.now c.args.library.now c.args.extent c.check_file.result _ _ _ c.check_file.new.types (λ found. found.value) c.check_file.ensures.first
    refl refl refl values refl refl
    (subst (λ (b : Bindings). AreBindings nodes c.args.rounds.now c.args.names.now c.args.settled.now.values.items b) (sym bindings)
    (subst (λ (v : List Value). AreBindings nodes c.args.rounds.now c.args.names.now v c.in_ok-bindings.bindings.value) values c.in_ok-bindings.ensures.tables))
    (subst (λ (b : Bindings). AreModules b.modules (modules_in c.args.settled.now.types c.args.settled.now.values.items nodes c.args.library.now)) (sym bindings)
    (subst (λ (v : List Value). AreModules c.in_ok-bindings.bindings.value.modules (modules_in c.args.settled.now.types v nodes c.args.library.now)) values c.in_ok-bindings.ensures.modules))
    (subst (λ (b : Bindings). AreNumbered nodes b.modules) (sym bindings) c.in_ok-bindings.ensures.numbered)
    (subst (λ (b : Bindings). AreOwned c.bindings_of.new.types c.args.settled.now.values.items nodes (length nodes) b.own.items) (sym bindings)
    (subst (λ (v : List Value). AreOwned c.bindings_of.new.types v nodes (length nodes) c.in_ok-bindings.bindings.value.own.items) values c.in_ok-bindings.ensures.own))
    c.in_ok-bindings.ensures.kept
    (subst (AreLists nodes c.args.rounds.now c.args.names.now) (sym c.deref-2.ensures) c.in_ok-lists.ensures)
