use Rattle.clu_parts.proofs.Gathered.{all_gathered}
use Rattle.clu_parts.proofs.Ifs.{if_parts}
use Rattle.clu_parts.proofs.parts_gathered.Goals as goal

pub returns : goal.returns
returns c t nodes tree shaped forms i n at = all_gathered nodes tree i n at (forms i n at) (λ is. if_parts t nodes shaped tree i n at (shaped i n at) is)
