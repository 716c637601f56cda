use Rattle.std.proofs.Common.{◌∙◌, subst}
use Rattle.clu_settle.specs.Operators.{IsJoinedBy}
use Rattle.clu_settle.proofs.Made.{ok_more}
use Rattle.clu_settle.proofs.Joined.{folded_still, joined_told, joined_within, kept_still}
use Rattle.clu_settle.proofs.operators.folded_value.Goals as goal

pub returns-in-Some-clause-known : goal.returns-in-Some-clause-known
returns-in-Some-clause-known c = joined_told c.args.operator c.args.constants.now c.joined_place.new.constants c.args.a c.args.b c.in-Some.place
    (subst (IsJoinedBy c.args.operator c.args.constants.now c.joined_place.new.constants c.args.a c.args.b) c.in-Some.is c.in_ok-place.ensures.joined)

pub returns-in-Some-clause-constant_in : goal.returns-in-Some-clause-constant_in
returns-in-Some-clause-constant_in c = joined_within c.args.operator c.args.constants.now c.joined_place.new.constants c.args.a c.args.b c.in-Some.place
    (subst (IsJoinedBy c.args.operator c.args.constants.now c.joined_place.new.constants c.args.a c.args.b) c.in-Some.is c.in_ok-place.ensures.joined)

pub returns-in-None-clause-known : goal.returns-in-None-clause-known
returns-in-None-clause-known c =
    let same = subst (IsJoinedBy c.args.operator c.args.constants.now c.joined_place.new.constants c.args.a c.args.b) c.in-None.is c.in_ok-place.ensures.joined in
    ok_more _ _ c.folded_constants.result c.folded_constants.ensures.known (λ v p types. p types ∙ folded_still c.args.constants.now c.joined_place.new.constants same c.args.operator c.args.a c.args.b)

pub returns-in-None-clause-kept : goal.returns-in-None-clause-kept
returns-in-None-clause-kept c =
    let same = subst (IsJoinedBy c.args.operator c.args.constants.now c.joined_place.new.constants c.args.a c.args.b) c.in-None.is c.in_ok-place.ensures.joined in
    kept_still c.args.constants.now c.joined_place.new.constants same c.folded_constants.new.constants c.folded_constants.ensures.kept
