use Rattle.std.proofs.Common.{◌∙◌, Option, IfSome, IsSome, sym, subst}
use Rattle.std.proofs.lemmas.Bool.{true≢false}
use Rattle.clu_types.specs.declared.term.TypeId.{TypeId}
use Rattle.clu_head.specs.Kept.{IsMoved}
use Rattle.clu_head.specs.Whole.{IsRoutineTerm, HasRoutineType}
use Rattle.clu_head.proofs.Keeping.{parts_moved}
use Rattle.clu_head.proofs.Whole.{found_under, routine_there, routine_moved, moved_within}
use Rattle.clu_head.proofs.specs.moved_parts.Goals as goal

pub returns-then-contains-clause-parts : goal.returns-then-contains-clause-parts
returns-then-contains-clause-parts c =
    parts_moved c.args.from.now _ c.args.of_type c.in-Some.id c.view.result.now (subst (λ (o : Option TypeId). IfSome o (IsMoved c.args.from.now c.moved.new.to c.args.of_type)) c.in-Some.is c.in_ok-id.ensures.moved) c.view.ensures.parts c.view.ensures.of_type c.parts_of.result c.parts_of.ensures.heading

pub returns-then-contains-clause-whole : goal.returns-then-contains-clause-whole
returns-then-contains-clause-whole c =
    found_under (IsRoutineTerm c.view.result.now) (HasRoutineType c.args.from.now c.args.of_type)
    (routine_moved c.args.from.now c.moved.new.to c.args.of_type c.in-Some.id c.view.result.now (subst (λ (o : Option TypeId). IfSome o (IsMoved c.args.from.now c.moved.new.to c.args.of_type)) c.in-Some.is c.in_ok-id.ensures.moved) c.view.ensures.of_type)
    c.parts_of.result c.parts_of.ensures.whole

pub returns-else-contains-clause-whole : goal.returns-else-contains-clause-whole
returns-else-contains-clause-whole c = λ has.
    absurd (true≢false (sym (c.contains.ensures.1 (moved_within c.args.from.now c.moved.new.to c.args.of_type c.in-Some.id (subst (λ (o : Option TypeId). IfSome o (IsMoved c.args.from.now c.moved.new.to c.args.of_type)) c.in-Some.is c.in_ok-id.ensures.moved))) ∙ c.if-contains.false))

pub returns-in-None-clause-whole : goal.returns-in-None-clause-whole
returns-in-None-clause-whole c = λ has. subst (λ (o : Option TypeId). IsSome o) c.in-None.is (c.in_ok-id.ensures.whole (routine_there c.args.from.now c.args.of_type has))
