use Rattle.std.proofs.Common.{rules, ◌≡◌, ◌*◌, take, drop}
use Rattle.clu_image.specs.ImageFile.{number_bytes}
use Rattle.clu_image.proofs.FileLemmas.{numbers_more}
use Rattle.clu_image.proofs.loading.numbers.Goals as goal

pub loop-i-preserved : goal.loop-i-preserved
loop-i-preserved c =
    let read : number_bytes c.unwrap.result ≡ take 4 (drop (4 * c.loop-i.i) c.args.bytes.now) = rw c.unwrap.ensures at c.u32_at.ensures.bytes in
    record {
      count = search rules;
      bytes = rw c.in_ok-push.ensures.items (numbers_more c.loop-i.numbers.items c.args.bytes.now c.unwrap.result c.loop-i.i c.loop-i.invariant.bytes read);
    }
