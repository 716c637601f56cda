use Rattle.clu_types.proofs.included.after_wanted.Goals as goal

pub returns-in-Some : goal.returns-in-Some
returns-in-Some c = let found = c.in-Some.ensures in (c.requires _ found.0, λ e h. c.requires e (found.1 e h))
