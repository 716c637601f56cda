use Rattle.std.proofs.Common.{◌≡◌, ◌∷◌, [], List, reverse, refl, sym, ap, ◌∙◌, subst, rules}
use Rattle.clu_grammar.specs.declared.items.Item.{Item}
use Rattle.clu_grammar.specs.Choice.{step}
use Rattle.clu_grammar.specs.Grammar.{productions}
use Rattle.clu_grammar.proofs.Runs.{Runs, runs_none, runs_terminal, runs_action, runs_take, runs_go, fails_terminal, fails_no, fails_rest, ends, take_below}
use Rattle.clu_grammar.proofs.Weights.{smaller_terminal, smaller_take, smaller_go}
use Rattle.clu_parser.specs.Trees.{text}
use Rattle.clu_parser.proofs.Means.{HasMeans, means_none, means_terminal, means_action, means_take, means_go}
use Rattle.clu_parser.proofs.OnWay.{IsOnWay, way_none, way_terminal, way_action, way_take, way_go, way_end}
use Rattle.clu_parser.proofs.Stack.{popped}
use Rattle.clu_parser.proofs.reader.read.Goals as goal

pub items-init : goal.items-init
items-init c = rw (c.in_ok-push_row.ensures, c.new-stack.ensures.items) (record {
  runs = runs_none c.args.source.now.symbols.now;
  builds = rw c.requires.nothing (way_none (text c.args.source.now));
  means = rw c.requires.nothing (means_none (text c.args.source.now));
})

pub returns-then-not-is_at-clause-fault : goal.returns-then-not-is_at-clause-fault
returns-then-not-is_at-clause-fault c =
    let top = popped c.items.stack.items c.pop.new.self.items c.in-Some.item c.in-Some.ensures.items ∙ ap (λ x. x ∷ reverse c.pop.new.self.items) c.in-Terminal.is in
    fails_terminal c.args.source.now.symbols.now c.items.at c.in-Terminal.symbol (reverse c.pop.new.self.items) (subst (Runs c.args.source.now.symbols.now c.items.at) top c.items.invariant.runs)
    (λ is. let no = c.if-not-is_at.ensures.1 is in cc)

pub items-preserved-in-Terminal : goal.items-preserved-in-Terminal
items-preserved-in-Terminal c =
    let top = popped c.items.stack.items c.pop.new.self.items c.in-Some.item c.in-Some.ensures.items ∙ ap (λ x. x ∷ reverse c.pop.new.self.items) c.in-Terminal.is in
    record {
      runs = runs_terminal c.args.source.now.symbols.now c.items.at c.in-Terminal.symbol (reverse c.pop.new.self.items) (subst (Runs c.args.source.now.symbols.now c.items.at) top c.items.invariant.runs)
          (c.if-not-is_at.ensures.0 refl);
      builds = way_terminal (text c.args.source.now) c.in-Terminal.symbol (reverse c.pop.new.self.items) c.items.at c.items.builder (subst (λ (x : List Item). IsOnWay (text c.args.source.now) x c.items.at c.items.builder) top c.items.invariant.builds) (c.if-not-is_at.ensures.0 refl);
      means = means_terminal (text c.args.source.now) c.in-Terminal.symbol (reverse c.pop.new.self.items) c.items.at c.items.builder (subst (λ (x : List Item). HasMeans (text c.args.source.now) x c.items.at c.items.builder) top c.items.invariant.means) (c.if-not-is_at.ensures.0 refl);
    }

pub items-smaller-in-Terminal : goal.items-smaller-in-Terminal
items-smaller-in-Terminal c =
    let top = popped c.items.stack.items c.pop.new.self.items c.in-Some.item c.in-Some.ensures.items ∙ ap (λ x. x ∷ reverse c.pop.new.self.items) c.in-Terminal.is in
    rw top (smaller_terminal c.args.source.now.symbols.now c.items.at c.in-Terminal.symbol (reverse c.pop.new.self.items) (c.if-not-is_at.ensures.0 refl))

pub items-preserved-in-Continue-branch-2 : goal.items-preserved-in-Continue-branch-2
items-preserved-in-Continue-branch-2 c =
    let top = popped c.items.stack.items c.pop.new.self.items c.in-Some.item c.in-Some.ensures.items ∙ ap (λ x. x ∷ reverse c.pop.new.self.items) c.in-Action.is in
    record {
      runs = runs_action c.args.source.now.symbols.now c.items.at c.in-Action.action (reverse c.pop.new.self.items) (subst (Runs c.args.source.now.symbols.now c.items.at) top c.items.invariant.runs);
      builds = way_action (text c.args.source.now) c.in-Action.action (reverse c.pop.new.self.items) c.items.at c.items.builder c.act.new.self (subst (λ (x : List Item). IsOnWay (text c.args.source.now) x c.items.at c.items.builder) top c.items.invariant.builds) c.in_ok-act-in-Action.ensures;
      means = means_action (text c.args.source.now) c.in-Action.action (reverse c.pop.new.self.items) c.items.at c.items.builder c.act.new.self (subst (λ (x : List Item). HasMeans (text c.args.source.now) x c.items.at c.items.builder) top c.items.invariant.means) c.in_ok-act-in-Action.ensures;
    }

pub items-preserved-in-Continue-branch-3 : goal.items-preserved-in-Continue-branch-3
items-preserved-in-Continue-branch-3 c =
    let top = popped c.items.stack.items c.pop.new.self.items c.in-Some.item c.in-Some.ensures.items ∙ ap (λ x. x ∷ reverse c.pop.new.self.items) c.in-Nonterminal.is in
    let is = ap (step (productions c.in-Nonterminal.nonterminal)) (sym c.symbol_at.ensures) ∙ sym c.in-Take.ensures in
    rw c.in_ok-push_row-in-Take.ensures
    (record {
      runs = (runs_take c.args.source.now.symbols.now c.items.at c.in-Nonterminal.nonterminal (reverse c.pop.new.self.items) c.in-Take.items.now (subst (Runs c.args.source.now.symbols.now c.items.at) top c.items.invariant.runs) is);
      builds = way_take (text c.args.source.now) c.in-Nonterminal.nonterminal (reverse c.pop.new.self.items) c.in-Take.items.now c.items.at c.items.builder (subst (λ (x : List Item). IsOnWay (text c.args.source.now) x c.items.at c.items.builder) top c.items.invariant.builds) is;
      means = means_take (text c.args.source.now) c.in-Nonterminal.nonterminal (reverse c.pop.new.self.items) c.in-Take.items.now c.items.at c.items.builder (subst (λ (x : List Item). HasMeans (text c.args.source.now) x c.items.at c.items.builder) top c.items.invariant.means) (take_below c.args.source.now.symbols.now c.items.at c.in-Nonterminal.nonterminal c.in-Take.items.now is) is;
    })

pub items-smaller-in-Continue-branch-3 : goal.items-smaller-in-Continue-branch-3
items-smaller-in-Continue-branch-3 c =
    let top = popped c.items.stack.items c.pop.new.self.items c.in-Some.item c.in-Some.ensures.items ∙ ap (λ x. x ∷ reverse c.pop.new.self.items) c.in-Nonterminal.is in
    let is = ap (step (productions c.in-Nonterminal.nonterminal)) (sym c.symbol_at.ensures) ∙ sym c.in-Take.ensures in
    rw (top, c.in_ok-push_row-in-Take.ensures)
    (smaller_take c.args.source.now.symbols.now c.items.at c.in-Nonterminal.nonterminal (reverse c.pop.new.self.items) c.in-Take.items.now (take_below c.args.source.now.symbols.now c.items.at c.in-Nonterminal.nonterminal c.in-Take.items.now is) is)

pub items-preserved : goal.items-preserved
items-preserved c =
    let top = popped c.items.stack.items c.pop.new.self.items c.in-Some.item c.in-Some.ensures.items ∙ ap (λ x. x ∷ reverse c.pop.new.self.items) c.in-Nonterminal.is in
    let is = ap (step (productions c.in-Nonterminal.nonterminal)) (sym c.symbol_at.ensures) ∙ sym c.in-Go.ensures in
    rw c.in_ok-push_row-in-Go.ensures
    (record {
      runs = (runs_go c.args.source.now.symbols.now c.items.at c.in-Nonterminal.nonterminal (reverse c.pop.new.self.items) c.in-Go.items.now (subst (Runs c.args.source.now.symbols.now c.items.at) top c.items.invariant.runs) is);
      builds = way_go (text c.args.source.now) c.in-Nonterminal.nonterminal (reverse c.pop.new.self.items) c.in-Go.items.now c.items.at c.items.builder (subst (λ (x : List Item). IsOnWay (text c.args.source.now) x c.items.at c.items.builder) top c.items.invariant.builds) is;
      means = means_go (text c.args.source.now) c.in-Nonterminal.nonterminal (reverse c.pop.new.self.items) c.in-Go.items.now c.items.at c.items.builder (subst (λ (x : List Item). HasMeans (text c.args.source.now) x c.items.at c.items.builder) top c.items.invariant.means) is;
    })

pub items-smaller : goal.items-smaller
items-smaller c =
    let top = popped c.items.stack.items c.pop.new.self.items c.in-Some.item c.in-Some.ensures.items ∙ ap (λ x. x ∷ reverse c.pop.new.self.items) c.in-Nonterminal.is in
    let is = ap (step (productions c.in-Nonterminal.nonterminal)) (sym c.symbol_at.ensures) ∙ sym c.in-Go.ensures in
    rw (top, c.in_ok-push_row-in-Go.ensures)
    (smaller_go c.args.source.now.symbols.now c.items.at c.in-Nonterminal.nonterminal (reverse c.pop.new.self.items) c.in-Go.items.now is)

pub returns-in-No-clause-fault : goal.returns-in-No-clause-fault
returns-in-No-clause-fault c =
    let top = popped c.items.stack.items c.pop.new.self.items c.in-Some.item c.in-Some.ensures.items ∙ ap (λ x. x ∷ reverse c.pop.new.self.items) c.in-Nonterminal.is in
    let is = ap (step (productions c.in-Nonterminal.nonterminal)) (sym c.symbol_at.ensures) ∙ sym c.in-No.ensures in
    fails_no c.args.source.now.symbols.now c.items.at c.in-Nonterminal.nonterminal (reverse c.pop.new.self.items) (subst (Runs c.args.source.now.symbols.now c.items.at) top c.items.invariant.runs) is

pub returns-then-at-symbols-clause-fault : goal.returns-then-at-symbols-clause-fault
returns-then-at-symbols-clause-fault c =
    let none : c.items.stack.items ≡ [] = search rules in
    fails_rest c.args.source.now.symbols.now c.items.at (subst (λ (x : List Item). Runs c.args.source.now.symbols.now c.items.at (reverse x)) none c.items.invariant.runs) c.if-at-symbols.true

pub returns-clause-file : goal.returns-clause-file
returns-clause-file c =
    let none : c.items.stack.items ≡ [] = search rules in
    ends c.args.source.now.symbols.now c.items.at (subst (λ (x : List Item). Runs c.args.source.now.symbols.now c.items.at (reverse x)) none c.items.invariant.runs) c.if-at-symbols.false

pub returns-clause-tree : goal.returns-clause-tree
returns-clause-tree c =
    let none : c.items.stack.items ≡ [] = search rules in
    way_end (text c.args.source.now) c.items.at c.items.builder (subst (λ (x : List Item). IsOnWay (text c.args.source.now) (reverse x) c.items.at c.items.builder) none c.items.invariant.builds) c.items.invariant.runs.within c.if-at-symbols.false
