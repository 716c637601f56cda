use Rattle.std.proofs.Common.{arith, ◌≡◌, ◌+◌, ◌-◌, ◌*◌, length, Some, ◌∙◌, ap, sym}
use Rattle.clu_image.proofs.FileLemmas.{no_fault, three_parts}
use Rattle.clu_image.proofs.loading.Parts.find.Goals as goal

pub returns-clause-good : goal.returns-clause-good
returns-clause-good c =
    let h = c.in_ok-header.header in
    let head = c.in_ok-header.ensures.good in
    let b = c.args.b.now in
    let cut = three_parts b h.code_at (4 * h.words) h.fixed (omega arith) in
    let area : length b - (h.code_at + 4 * h.words + h.fixed) ≡ h.area = omega arith in
    record {
      good = no_fault b h.words h.fixed h.area head.good head.words head.fixed head.area (omega (arith, head.code_at));
      words = h.words;
      words_is = head.words;
      code = cut.first;
      entry = head.entry;
      fixed = head.fixed ∙ ap Some (sym cut.second);
      area = head.area ∙ ap Some (sym (cut.third ∙ area));
      rest = rw head.code_at cut.all;
      bounded = rw (cut.second, cut.third, area) head.bounded;
    }
