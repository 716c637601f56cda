use Rattle.std.proofs.Common.{Bool, arith, subst}
use Rattle.clu_type_rules.specs.Needs.{world, Comes}
use Rattle.clu_type_rules.proofs.Needing.{one_stands, one_answered, one_under, one_met, one_not_met}
use Rattle.clu_type_rules.proofs.unmet.is_met.Goals as goal

pub returns-then-all : goal.returns-then-all
returns-then-all c = record {
  asked = λ s place under rests there.
      (let start = world c.args.types.now c.args.finding.now in
      let keys = c.in_ok-insert.ensures.keys in
      let size = c.len-before.ensures.len in
      one_met c.args.place.headed s start c.args.met.now.keys c.args.need rests there c.insert.new.self.keys keys c.len-before.result size (world c.are_met_from.new.types c.are_met_from.new.finding) c.are_met_from.new.met.keys
      (subst (λ (b : Bool). Comes c.args.place.headed s start (world c.are_met_from.new.types c.are_met_from.new.finding) c.insert.new.self.keys c.are_met_from.new.met.keys c.len-before.result b) c.if-all.true
      (c.in_ok-all.ensures.asked s place (one_stands c.args.place.headed s start c.args.met.now.keys c.args.need rests there c.insert.new.self.keys keys c.len-before.result size) (omega (arith, c.len-before.ensures.small))
      (one_under c.args.place.headed s start c.args.met.now.keys c.args.need rests there c.insert.new.self.keys keys c.len-before.result size c.args.place.clauses under)
      (one_answered c.args.place.headed s start c.args.met.now.keys c.args.need rests there c.insert.new.self.keys keys c.len-before.result size))));
  kept = c.in_ok-all.ensures.kept;
}

pub returns-else-all : goal.returns-else-all
returns-else-all c = record {
  asked = λ s place under rests there.
      (let start = world c.args.types.now c.args.finding.now in
      let keys = c.in_ok-insert.ensures.keys in
      let size = c.len-before.ensures.len in
      one_not_met c.args.place.headed s start c.args.met.now.keys c.args.need rests there c.insert.new.self.keys keys c.len-before.result size (world c.are_met_from.new.types c.are_met_from.new.finding) c.are_met_from.new.met.keys
      (subst (λ (b : Bool). Comes c.args.place.headed s start (world c.are_met_from.new.types c.are_met_from.new.finding) c.insert.new.self.keys c.are_met_from.new.met.keys c.len-before.result b) c.if-all.false
      (c.in_ok-all.ensures.asked s place (one_stands c.args.place.headed s start c.args.met.now.keys c.args.need rests there c.insert.new.self.keys keys c.len-before.result size) (omega (arith, c.len-before.ensures.small))
      (one_under c.args.place.headed s start c.args.met.now.keys c.args.need rests there c.insert.new.self.keys keys c.len-before.result size c.args.place.clauses under)
      (one_answered c.args.place.headed s start c.args.met.now.keys c.args.need rests there c.insert.new.self.keys keys c.len-before.result size)))
      c.truncate.new.self.keys c.truncate.ensures.keys);
  kept = c.in_ok-all.ensures.kept;
}
