use Rattle.std.proofs.Common.{◌≡◌, ◌-◌, ◌<◌, ◌++◌, length, vec_len, List, ℕ, arith, ap, ◌∙◌, sym}
use Rattle.rv_isa.specs.Image.{AreBytes, AreWords, IsImage, contents, max_bytes}
use Rattle.clu_asm.proofs.LineLemmas.{fixed_free, data_free}
use Rattle.clu_asm.proofs.FaultLemmas.{place_after_parts, parts_are, next_are}
use Rattle.clu_asm.proofs.Unique.{Read, image_same, read_is}
use Rattle.clu_asm.proofs.reading.read_parts.Goals as goal
use Rattle.clu_asm.proofs.reading.read_parts.Goals.{else-is_empty-via-then-is_empty+else-room-gt0, else-is_empty-via-else-is_empty}

pub read_rows-requires-clause-word : goal.read_rows-requires-clause-word
read_rows-requires-clause-word c = fixed_free

pub read_rows-requires-2-clause-word : goal.read_rows-requires-2-clause-word
read_rows-requires-2-clause-word c = data_free

pub returns-then-room-gt0-clause-every_text : goal.returns-then-room-gt0-clause-every_text
returns-then-room-gt0-clause-every_text c = λ i is e.
    let code = c.in_ok-rest.ensures {u = tt} in
    let fixed = c.in_ok-rest-2.ensures {u = tt} in
    let area = c.in_ok-rest-3.ensures {u = tt} in
    let made : IsImage (contents c.args.entry c.read_code.new.code.items c.read_rows.new.bytes.items c.read_rows-2.new.bytes.items) = rw c.image.ensures.value at c.image.ensures.image in
    let room_is = rw c.deref.ensures.value at c.room_of-room.ensures.all in
    let read : Read c.args.entry c.read_code.new.code.items c.read_rows.new.bytes.items c.read_rows-2.new.bytes.items c.args.b.now c.room_of-room.result c.in_ok-rest-3.rest.now =
    read_is c.args.entry c.read_code.new.code.items c.read_rows.new.bytes.items c.read_rows-2.new.bytes.items c.args.b.now c.in_ok-rest.rest.now c.in_ok-rest-2.rest.now c.in_ok-rest-3.rest.now
    c.room_of-room.result (c.room_of-room.result - c.len.result) (vec_len c.read_code.new.code) (vec_len c.read_rows.new.bytes) (vec_len c.read_rows-2.new.bytes)
    c.read_code.new.code.ok.0 c.read_rows.new.bytes.ok.0 c.read_rows-2.new.bytes.ok.0 (ap (λ (n : ℕ). c.room_of-room.result - n) c.len.ensures) c.requires.entry made.code_words made.fixed_bytes made.area_bytes
    code.text code.stops room_is fixed.text fixed.whole fixed.stops area.text area.whole area.stops in
    c.image.ensures.value ∙ (image_same c.args.entry c.read_code.new.code.items c.read_rows.new.bytes.items c.read_rows-2.new.bytes.items c.args.b.now c.room_of-room.result c.in_ok-rest-3.rest.now i read is e).0

pub returns-clause-every_text : goal.returns-clause-every_text
returns-clause-every_text c = λ i is e.
    let code = c.in_ok-rest.ensures {u = tt} in
    let fixed = c.in_ok-rest-2.ensures {u = tt} in
    let area = c.in_ok-rest-3.ensures {u = tt} in
    let words = rw c.deref.ensures.value at c.room_of-room.ensures.words in
    let room_is = rw c.deref.ensures.value at c.room_of-room.ensures.all in
    let fixed_bytes = rw c.deref-2.ensures.value at c.new-next.ensures.fixed_bytes in
    let area_bytes = rw c.deref-3.ensures.value at c.new-next.ensures.area_bytes in
    let read : Read c.args.entry c.read_code.new.code.items c.read_rows.new.bytes.items c.read_rows-2.new.bytes.items c.args.b.now c.room_of-room.result c.in_ok-rest-3.rest.now =
    read_is c.args.entry c.read_code.new.code.items c.read_rows.new.bytes.items c.read_rows-2.new.bytes.items c.args.b.now c.in_ok-rest.rest.now c.in_ok-rest-2.rest.now c.in_ok-rest-3.rest.now
    c.room_of-room.result (c.room_of-room.result - c.len.result) (vec_len c.read_code.new.code) (vec_len c.read_rows.new.bytes) (vec_len c.read_rows-2.new.bytes)
    c.read_code.new.code.ok.0 c.read_rows.new.bytes.ok.0 c.read_rows-2.new.bytes.ok.0 (ap (λ (n : ℕ). c.room_of-room.result - n) c.len.ensures) c.requires.entry words fixed_bytes area_bytes
    code.text code.stops room_is fixed.text fixed.whole fixed.stops area.text area.whole area.stops in
    let same = image_same c.args.entry c.read_code.new.code.items c.read_rows.new.bytes.items c.read_rows-2.new.bytes.items c.args.b.now c.room_of-room.result c.in_ok-rest-3.rest.now i read is e in
    let all : c.room_of-room.result ≡ max_bytes = room_is same.2 in
    let none : length c.in_ok-rest-3.rest.now ≡ 0 = ap length same.1 in
    elim c.else-is_empty.branch [
      | else-is_empty-via-then-is_empty+else-room-gt0 w ↦ absurd (omega (arith, all, w.if-room-gt0.false))
      | else-is_empty-via-else-is_empty w ↦ absurd (grind (arith, none, c.is_empty.ensures, w.if-is_empty.false))
    ]

pub returns-clause-place : goal.returns-clause-place
returns-clause-place c =
    let code = c.in_ok-rest.ensures {u = tt} in
    let fixed = c.in_ok-rest-2.ensures {u = tt} in
    let area = c.in_ok-rest-3.ensures {u = tt} in
    let words = rw c.deref.ensures.value at c.room_of-room.ensures.words in
    let room_is = rw c.deref.ensures.value at c.room_of-room.ensures.all in
    let entered = rw c.deref.ensures.value at c.room_of-room.ensures.entered in
    let fixed_bytes = rw c.deref-2.ensures.value at c.new-next.ensures.fixed_bytes in
    let area_bytes = rw c.deref-3.ensures.value at c.new-next.ensures.area_bytes in
    let code_len = c.read_code.new.code.ok.0 in
    let fixed_len = c.read_rows.new.bytes.ok.0 in
    let area_len = c.read_rows-2.new.bytes.ok.0 in
    let left = ap (λ (n : ℕ). c.room_of-room.result - n) c.len.ensures in
    let read : Read c.args.entry c.read_code.new.code.items c.read_rows.new.bytes.items c.read_rows-2.new.bytes.items c.args.b.now c.room_of-room.result c.in_ok-rest-3.rest.now =
    read_is c.args.entry c.read_code.new.code.items c.read_rows.new.bytes.items c.read_rows-2.new.bytes.items c.args.b.now c.in_ok-rest.rest.now c.in_ok-rest-2.rest.now c.in_ok-rest-3.rest.now
    c.room_of-room.result (c.room_of-room.result - c.len.result) (vec_len c.read_code.new.code) (vec_len c.read_rows.new.bytes) (vec_len c.read_rows-2.new.bytes)
    code_len fixed_len area_len left c.requires.entry words fixed_bytes area_bytes
    code.text code.stops room_is fixed.text fixed.whole fixed.stops area.text area.whole area.stops in
    let parts = parts_are c.args.entry c.read_code.new.code.items c.read_rows.new.bytes.items c.read_rows-2.new.bytes.items c.room_of-room.result
    (vec_len c.read_code.new.code) (vec_len c.read_rows.new.bytes) (vec_len c.read_rows-2.new.bytes) code_len fixed_len area_len
    c.requires.entry words code.few fixed_bytes area_bytes fixed.whole area.whole fixed.few (rw left at area.few) c.room_of-room.ensures.bound entered in
    let next = next_are c.read_code.new.code.items c.read_rows.new.bytes.items c.read_rows-2.new.bytes.items c.deref-2.result.now c.deref-3.result.now c.room_of-room.result c.len-2.result
    c.new-next.result.code c.new-next.result.fixed c.new-next.result.area (c.len-2.ensures ∙ code_len) c.deref-2.ensures.value c.deref-3.ensures.value
    c.new-next.ensures.code c.new-next.ensures.fixed c.new-next.ensures.area in
    place_after_parts c.args.entry c.read_code.new.code.items c.read_rows.new.bytes.items c.read_rows-2.new.bytes.items c.args.b.now c.room_of-room.result c.in_ok-rest-3.rest.now
    c.new-next.result.code c.new-next.result.fixed c.new-next.result.area c.args.end c.fault.result read parts next c.requires.end c.fault.ensures
