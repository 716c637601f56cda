use Rattle.std.proofs.Common.{◌≡◌, drop, map}
use Rattle.rv_select.specs.Finished.{all_landed, have_places}
use Rattle.rv_select.specs.Instructions.{AreInstructions, read}
use Rattle.rv_select.proofs.words.Words.finish.Given as goal

-- the references that are left give the words of all
abbrev pub invariant-loop-reference : goal.invariant-loop-reference
invariant-loop-reference l =
    AreInstructions l.code.items
    × (all_landed l.labels.items (drop l.reference-index l.reference-items) (map read l.code.items) ≡ all_landed l.fn.self.labels.items l.fn.self.references.items (map read l.fn.self.code.items))
    × (have_places l.labels.items (drop l.reference-index l.reference-items) ≡ have_places l.fn.self.labels.items l.fn.self.references.items)
