use Rattle.std.proofs.Common.{◌∙◌, ℕ, length, sym, subst, arith, add-one}
use Rattle.std.specs.Str.{bytes_eq}
use Rattle.indexmap.specs.IndexMap.{get}
use Rattle.clu_names.specs.Latest.{AreLocals}
use Rattle.clu_names.proofs.Grown.{bound_next, starts_next}
use Rattle.clu_names.proofs.Counts.{passed}
use Rattle.clu_names.proofs.binding.walk.Goals as goal

pub loop-n-preserved : goal.loop-n-preserved
loop-n-preserved c = record {
  bound = bound_next c.args.tree.now c.args.declared.now c.loop-n.n c.node.result.now c.loop-n.bound.items c.bind_node.new.bound.items c.node.ensures.node c.loop-n.invariant.bound c.in_ok-bind_node.ensures;
  starts = starts_next c.args.tree.now c.args.declared.now c.loop-n.n c.len.result c.loop-n.starts.items c.push.new.self.items c.loop-n.bound.items c.loop-n.invariant.starts c.loop-n.invariant.bound (c.len.ensures ∙ c.loop-n.bound.ok.0) c.in_ok-push.ensures.items;
  locals = subst (λ (x : ℕ). AreLocals c.args.declared.now x 0 (get bytes_eq c.enter_from.new.locals)) (sym (add-one c.loop-n.n)) (passed c.args.declared.now c.loop-n.n (length c.args.declared.now) (get bytes_eq c.enter_from.new.locals) (omega arith) c.in_ok-enter_from.ensures);
}
