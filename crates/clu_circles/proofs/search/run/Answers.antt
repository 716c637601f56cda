use Rattle.std.proofs.Common.{◌≡◌, List, [], subst, rules}
use Rattle.clu_circles.specs.declared.states.Begun.{Begun}
use Rattle.clu_circles.specs.Search.{IsSearch}
use Rattle.clu_circles.proofs.search.run.Goals as goal

pub stack-init : goal.stack-init
stack-init c = record { search = c.requires.search; ordered = c.requires.ordered; fewer = λ k e. e }

pub step-requires-clause-search : goal.step-requires-clause-search
step-requires-clause-search c = subst (λ (x : List Begun). IsSearch c.args.targets.now c.args.spans.now c.stack.states x) c.in-Some.ensures.items c.stack.invariant.search

pub stack-preserved : goal.stack-preserved
stack-preserved c = record {
  search = c.in_ok-step.ensures.search;
  ordered = c.in_ok-step.ensures.ordered;
  fewer = λ k e. c.stack.invariant.fewer k (c.in_ok-step.ensures.fewer k e);
}

pub returns-clause-search : goal.returns-clause-search
returns-clause-search c =
    let none : c.stack.begun.items ≡ [] = search rules in
    subst (λ (x : List Begun). IsSearch c.args.targets.now c.args.spans.now c.stack.states x) none c.stack.invariant.search
