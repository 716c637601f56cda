use Rattle.std.proofs.Common.{◌≡◌, ◌∙◌, ℕ, Bool, false, List, None, Option, OnOk, IfErr, ap, length, replicate, subst, sym}
use Rattle.clu_base.specs.declared.rules.Refused.{Refused}
use Rattle.clu_tree.specs.declared.node.Node.{Node}
use Rattle.clu_types.specs.declared.term.Term.{Term}
use Rattle.clu_types.specs.Arena.{Grows, IsArena}
use Rattle.clu_syntax.specs.Items.{Item}
use Rattle.clu_bindings.specs.declared.file.File.{File}
use Rattle.clu_name_rules.specs.declared.tables.Tables.{Tables}
use Rattle.clu_typing.specs.declared.facts.Facts.{Facts}
use Rattle.clu_type_rules.specs.declared.unmet.Unmet.{Unmet}
use Rattle.clu_type_rules.specs.Askers.{AreFoundAt, FindsOn, with_finding}
use Rattle.clu_type_rules.specs.Disagreeing.{with_clauses}
use Rattle.clu_type_rules.specs.Needs.{world}
use Rattle.clu_check_mod.specs.Answered.{AreAsked, AreTables, IsFirstOf, IsFoundOf}
use Rattle.clu_check_mod.specs.Bad.{EquatesAscend, bad_of_all}
use Rattle.clu_check_mod.specs.Refusals.{IsOfTree, IsTold}
use Rattle.clu_check_mod.specs.Walks.{AreClosed, WalksAscend, first_in}
use Rattle.clu_check_mod.proofs.Answered.{told_answer}
use Rattle.clu_check_mod.proofs.checking.ask.Goals as goal

pub returns-clause-closed : goal.returns-clause-closed
returns-clause-closed c whole =
    let same = ap (λ (t : Tables). t.file) c.known_of-known.ensures.tables ∙ c.tables-tables.ensures.file in
    subst (λ (f : File). OnOk c.ask_rules.result (AreClosed f.syntax.now)) same (c.ask_rules.ensures.closed whole)

pub returns-clause-refused : goal.returns-clause-refused
returns-clause-refused c =
    let same = ap (λ (t : Tables). t.file) c.known_of-known.ensures.tables ∙ c.tables-tables.ensures.file in
    subst (λ (f : File). IfErr c.ask_rules.result (IsOfTree f.syntax.now)) same c.ask_rules.ensures.refused

pub returns-clause-first : goal.returns-clause-first
returns-clause-first c =
    let made = c.tables-tables.ensures in
    let headed = c.args.headed in
    let facts : Facts = c.args.facts.now in
    let known = c.known_of-known.result in
    let start = world c.args.types.now facts.finding in
    let unmet_are : known.unmet.now ≡ c.in_ok-unmet.unmet.items = c.known_of-known.ensures.unmet ∙ c.as_slice-2.ensures.value in
    let types_are : known.tables.types.now ≡ c.unmet_of.new.types = ap (λ (t : Tables). t.types.now) c.known_of-known.ensures.tables ∙ made.types in
    let facts_are : known.facts.now ≡ c.unmet_of.new.facts = c.known_of-known.ensures.facts in
    let asks : AreAsked headed c.args.types.now facts known = record {
      size = ap (λ (all : List Unmet). length all) unmet_are ∙ c.in_ok-unmet.ensures.size;
      unmet = λ s looks began finding askers. subst (λ (all : List Unmet). AreFoundAt headed s start facts.invocations all) (sym unmet_are) (c.in_ok-unmet.ensures.unmet s looks began finding askers);
      later = λ s looks began finding askers.
          subst (λ (f : Facts). FindsOn headed start (world known.tables.types.now f.finding)) (sym facts_are)
          (subst (λ (terms : List Term). FindsOn headed start (world terms c.unmet_of.new.facts.finding)) (sym types_are) (c.in_ok-unmet.ensures.later s looks began finding askers));
      same = subst (λ (f : Facts). f ≡ with_finding facts f.finding) (sym facts_are) c.in_ok-unmet.ensures.same;
      grows = subst (λ (terms : List Term). Grows c.args.types.now terms) (sym types_are) c.in_ok-unmet.ensures.kept;
      disagrees =
          c.known_of-known.ensures.disagrees ∙ c.as_slice.ensures.value ∙ c.in_ok-disagrees.ensures
          ∙ ap (λ (nodes : ℕ). with_clauses headed.heads.now.asked nodes (replicate nodes false)) (c.len-nodes.ensures.len ∙ ap (λ (all : List Node). length all) c.tree.ensures.same);
    } in
    let Ascend : (ℕ → Item) → Type 0 = λ items. EquatesAscend known × WalksAscend known (bad_of_all known items c.args.lists.now.circles.order.items) items c.args.extent in
    let first : (ℕ → Item) → Option Refused = λ items. first_in known (bad_of_all known items c.args.lists.now.circles.order.items) items c.args.extent in
    let gives : (o : Option Refused) → ((items : ℕ → Item) → Ascend items → first items ≡ o) → IsFirstOf headed c.args.types.now facts c.args.lists.now c.args.long.now c.args.extent o = λ o is. record {
      known = known;
      headed_is = c.known_of-known.ensures.headed;
      tables = subst (λ (t : Tables). AreTables t c.args.headed.file c.args.lists.now c.args.long.now) (sym c.known_of-known.ensures.tables) (record {
        file_is = made.file;
        long_types = made.long_types;
        long_constants = made.long_constants;
        circular = made.circular;
        own = made.own;
        words = made.words;
        items = made.items;
      });
      arena = subst (λ (terms : List Term). IsArena terms) (sym types_are) c.sound.ensures;
      routines = c.known_of-known.ensures.routines;
      asks = asks;
      is = λ items equates walks. is items (equates, walks);
    } in
    told_answer {P = Ascend} (IsFoundOf headed c.args.types.now facts c.args.lists.now c.args.long.now c.args.extent c.unmet_of.new.types c.unmet_of.new.facts) (IsFirstOf headed c.args.types.now facts c.args.lists.now c.args.long.now c.args.extent)
    first
    c.ask_rules.result c.ask_rules.ensures.decided
    (λ items ascend.
    let same = c.as_slice-4.ensures.value ∙ c.in_ok-bad.ensures items ascend.0 ∙ ap (bad_of_all c.known_of-known.result items) c.as_slice-3.ensures.value in
    subst (λ (bad : List Bool). IsTold c.ask_rules.result (first_in c.known_of-known.result bad items c.args.extent)) same
    (c.ask_rules.ensures.exact items ascend.0.0 (subst (λ (bad : List Bool). WalksAscend c.known_of-known.result bad items c.args.extent) (sym same) ascend.1)))
    gives (λ told. record { is = gives None told; types_are = types_are; facts_are = facts_are })
