use Rattle.std.proofs.Common.{◌++◌, ◌∷◌, [], slice_get, subst, sym, arith}
use Rattle.clu_base.specs.declared.constants.Const.TheVariants as constant
use Rattle.clu_constants.specs.Held.{AreJoined, IsJoin, listed, text_at}
use Rattle.clu_constants.proofs.Joining.{both_joined, may_join, pushed_held, pushed_listed, string_of}
use Rattle.clu_constants.proofs.constants.Constants.join.Goals as goal

pub invariant_of-self-2 : goal.invariant_of-self-2
invariant_of-self-2 c =
    let l = string_of (slice_get c.args.self.now c.args.left) c.in-Some.first c.in-Some.ensures in
    let r = string_of (slice_get c.args.self.now c.args.right) c.in-Some-length.second c.in-Some-length.ensures in
    let join = may_join c.args.self.now c.args.left c.args.right c.in-Some.first c.in-Some-length.second l r (omega (arith, c.if-first-eq0.false)) (omega (arith, c.if-second-eq0.false)) in
    pushed_held c.self.inside.held.items c.push.new.self.items c.args.self.now c.self.view_is c.args.left c.args.right c.saturating_add.result c.in_ok-push.ensures.items c.self.invariant
    (subst (IsJoin (text_at c.args.self.now c.args.left) (text_at c.args.self.now c.args.right)) (sym c.saturating_add.ensures) join)

pub returns-clause-joined : goal.returns-clause-joined
returns-clause-joined c =
    let l = string_of (slice_get c.args.self.now c.args.left) c.in-Some.first c.in-Some.ensures in
    let r = string_of (slice_get c.args.self.now c.args.right) c.in-Some-length.second c.in-Some-length.ensures in
    subst (AreJoined c.args.self.now (listed c.push.new.self.items) c.args.left c.args.right) (sym c.len-place.ensures)
    (both_joined c.args.self.now c.args.left c.args.right c.in-Some.first c.in-Some-length.second l r (listed c.push.new.self.items)
    (pushed_listed c.self.inside.held.items c.push.new.self.items c.args.self.now c.self.view_is c.args.left c.args.right c.saturating_add.result c.in_ok-push.ensures.items))

pub returns-clause-kept : goal.returns-clause-kept
returns-clause-kept c = (
  constant.Str (text_at c.args.self.now c.args.left ++ text_at c.args.self.now c.args.right) ∷ [],
  pushed_listed c.self.inside.held.items c.push.new.self.items c.args.self.now c.self.view_is c.args.left c.args.right c.saturating_add.result c.in_ok-push.ensures.items,
)
