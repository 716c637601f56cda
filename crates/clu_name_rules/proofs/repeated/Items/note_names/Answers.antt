use Rattle.std.proofs.Common.{ℕ, ◌∷◌, List, subst}
use Rattle.clu_name_rules.specs.Repeated.{Note, Notes, with_name}
use Rattle.clu_name_rules.proofs.Noting.{stepped, ended, item_at}
use Rattle.clu_name_rules.proofs.repeated.Items.note_names.Goals as goal

pub loop-name-preserved : goal.loop-name-preserved
loop-name-preserved c =
    stepped (with_name c.args.words.now c.args.list c.args.kind c.args.n) c.args.names.now c.loop-name.name-index c.name-item.result c.args.self.now c.loop-name.self c.note.new.self
    (item_at c.args.names.now c.loop-name.name-index c.name-item.result c.loop-name-test.true c.name-item.is) c.loop-name.invariant
    (subst (λ (word : ℕ). Notes (λ before. record { name = record { list = c.args.list; kind = c.args.kind; word = word }; node = c.args.n } ∷ before) c.loop-name.self c.note.new.self) c.number-word.ensures c.in_ok-note.ensures)

pub returns : goal.returns
returns c = ended (with_name c.args.words.now c.args.list c.args.kind c.args.n) c.args.names.now c.loop-name.name-index c.args.self.now c.loop-name.self c.loop-name-test.false c.loop-name.invariant
