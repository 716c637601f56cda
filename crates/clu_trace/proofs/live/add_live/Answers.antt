use Rattle.std.proofs.Common.{◌≡◌, ◌∙◌, ◌+◌, ◌-◌, ℕ, List, suc, refl, sym, ap, arith, vec_capacity}
use Rattle.clu_trace.specs.Walk.{entries_after, walk}
use Rattle.clu_trace.proofs.Walking.{at_bottom, one_down}
use Rattle.clu_trace.proofs.live.add_live.Goals as goal

pub loop-done-init : goal.loop-done-init
loop-done-init c =
    let room = vec_capacity c.args.entries.now in
    let all : room ≡ room - 0 = omega arith in
    record {
      known = c.requires.known;
      room = refl;
      walked = ap (λ (n : ℕ). walk room c.args.map.now c.args.bytes c.args.m.now.state n c.args.entries.now.items c.args.from) all;
    }

pub loop-done-preserved : goal.loop-done-preserved
loop-done-preserved c =
    let room = vec_capacity c.args.entries.now in
    let left : room - c.loop-done.done ≡ suc (room - (c.loop-done.done + 1)) = omega (arith, c.loop-done-test.true, c.capacity-done-end.ensures) in
    let down = one_down room c.args.map.now c.args.bytes c.args.m.now.state (room - c.loop-done.done) (room - (c.loop-done.done + 1))
    c.loop-done.entries.items c.loop-done.place c.in-Some.below left (sym c.descend.ensures.below ∙ c.in-Some.is) in
    let added = c.descend.ensures.added
    ∙ ap (λ (r : ℕ). entries_after r c.args.map.now c.args.bytes c.args.m.now.state c.loop-done.entries.items c.loop-done.place) c.loop-done.invariant.room in
    record {
      known = c.descend.ensures.known;
      room = c.descend.ensures.room ∙ c.loop-done.invariant.room;
      walked = c.loop-done.invariant.walked ∙ down
          ∙ ap (λ (xs : List ℕ). walk room c.args.map.now c.args.bytes c.args.m.now.state (room - (c.loop-done.done + 1)) xs c.in-Some.below) (sym added);
    }

pub returns-in-None : goal.returns-in-None
returns-in-None c =
    let room = vec_capacity c.args.entries.now in
    let left : room - c.loop-done.done ≡ suc (room - (c.loop-done.done + 1)) = omega (arith, c.loop-done-test.true, c.capacity-done-end.ensures) in
    let bottom = at_bottom room c.args.map.now c.args.bytes c.args.m.now.state (room - c.loop-done.done) (room - (c.loop-done.done + 1))
    c.loop-done.entries.items c.loop-done.place left (sym c.descend.ensures.below ∙ c.in-None.is) in
    let added = c.descend.ensures.added
    ∙ ap (λ (r : ℕ). entries_after r c.args.map.now c.args.bytes c.args.m.now.state c.loop-done.entries.items c.loop-done.place) c.loop-done.invariant.room in
    record {
      known = c.descend.ensures.known;
      room = c.descend.ensures.room ∙ c.loop-done.invariant.room;
      walked = added ∙ sym (c.loop-done.invariant.walked ∙ bottom);
    }

pub returns-clause-walked : goal.returns-clause-walked
returns-clause-walked c =
    let room = vec_capacity c.args.entries.now in
    let none : room - c.loop-done.done ≡ 0 = omega (arith, c.capacity-done-end.ensures) in
    sym (c.loop-done.invariant.walked
    ∙ ap (λ (n : ℕ). walk room c.args.map.now c.args.bytes c.args.m.now.state n c.loop-done.entries.items c.loop-done.place) none)
