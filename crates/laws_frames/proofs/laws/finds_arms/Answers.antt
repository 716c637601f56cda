use Rattle.laws_frames.proofs.Finding.{found_is, none_is}
use Rattle.laws_frames.proofs.laws.finds_arms.Goals as goal

pub returns-clause-found : goal.returns-clause-found
returns-clause-found c word rs pc v name tell found is r a er ea = found_is word pc v name rs tell found is r a er ea

pub returns-clause-none : goal.returns-clause-none
returns-clause-none c word rs pc v name tell none = none_is word pc v name rs tell none
