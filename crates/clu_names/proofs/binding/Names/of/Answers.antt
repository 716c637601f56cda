use Rattle.std.proofs.Common.{◌∙◌, length, ap, arith}
use Rattle.clu_names.proofs.Pieces.{starts_size, piece_at, no_gap}
use Rattle.clu_names.proofs.binding.Names.of.Goals as goal

pub bounds-starts-at : goal.bounds-starts-at
bounds-starts-at c = omega (arith, starts_size c.args.tree.now c.args.self.now.declared.items (length c.args.tree.now), ap length (c.as_slice-starts.ensures.value ∙ c.requires.starts))

pub end_of-to-requires : goal.end_of-to-requires
end_of-to-requires c = omega (arith, starts_size c.args.tree.now c.args.self.now.declared.items (length c.args.tree.now), ap length (c.as_slice-starts.ensures.value ∙ c.requires.starts))

pub returns-in-Some : goal.returns-in-Some
returns-in-Some c = c.in-Some.ensures.lookup.0.2 ∙ piece_at c.args.tree.now c.args.self.now.declared.items c.args.n (length c.args.tree.now) c.end_of-to.result c.as_slice-starts.result.now c.as_slice-bound.result.now
    c.requires.inside (c.as_slice-starts.ensures.value ∙ c.requires.starts) (c.as_slice-bound.ensures.value ∙ c.requires.bound) c.end_of-to.ensures

pub returns-in-None : goal.returns-in-None
returns-in-None c = absurd (no_gap c.args.tree.now c.args.self.now.declared.items c.args.n (length c.args.tree.now) c.end_of-to.result c.as_slice-starts.result.now c.as_slice-bound.result.now
    c.requires.inside (c.as_slice-starts.ensures.value ∙ c.requires.starts) (c.as_slice-bound.ensures.value ∙ c.requires.bound) c.end_of-to.ensures c.in-None.ensures.lookup.0)
