use Rattle.clu_name_rules.proofs.repeated.Items.note_file.Goals as goal

pub returns : goal.returns
returns c = c.in_ok-note_modules.ensures _ _ (c.in_ok-note_nodes.ensures _ _ c.requires)
