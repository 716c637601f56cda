use Rattle.std.proofs.Common.{◌≡◌, length, sym}
use Rattle.clu_syntax.specs.Rounds.{round_at}
use Rattle.clu_name_rules.specs.Words.{place_of}
use Rattle.clu_type_rules.proofs.Arms.{arm_of_none}
use Rattle.clu_type_rules.proofs.exception_rules.arm_named.Goals as goal

pub returns-in-None : goal.returns-in-None
returns-in-None c =
    sym
    (arm_of_none c.args.k.now (place_of c.args.k.now.tables.words.now c.args.name.now) (round_at c.args.k.now.tables.file.rounds.now c.args.n).guard (length c.args.k.now.tables.file.rounds.now) (sym c.in-None.ensures))
