use Rattle.std.proofs.Common.{rules, ◌∙◌, sym, ap, option_map, take}
use Rattle.clu_base.specs.Outside.{Files}
use Rattle.clu_base.proofs.files.MemStoreStore.get_first.Goals as goal

-- counting the call changed no file, and `file` found the content
pub returns-in_ok-first_bytes-in-Some-clause-found : goal.returns-in_ok-first_bytes-in-Some-clause-found
returns-in_ok-first_bytes-in-Some-clause-found c =
    ap (λ (f : Files). option_map (take c.args.most) (f c.args.name.now)) (sym c.next_call_fails.ensures.files)
    ∙ (ap (option_map (take c.args.most)) (sym c.file.ensures) ∙ search rules)

pub returns-in-None-clause-found : goal.returns-in-None-clause-found
returns-in-None-clause-found c =
    ap (λ (f : Files). option_map (take c.args.most) (f c.args.name.now)) (sym c.next_call_fails.ensures.files)
    ∙ (ap (option_map (take c.args.most)) (sym c.file.ensures) ∙ search rules)
