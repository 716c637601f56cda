use Rattle.clu_parts.proofs.Ifs.{if_parts}
use Rattle.clu_parts.proofs.ifs_stand.Goals as goal

pub returns : goal.returns
returns c t nodes tree shaped i n at is = if_parts t nodes shaped tree i n at (shaped i n at) is
