-- A word goes into a slot.
use Rattle.std.proofs.Common.{◌≡◌, ◌∙◌, ℕ, ◌+◌, ◌^◌, ◌<◌, true, false, [], length, Some, None, refl, sym, subst, arith}
use Rattle.std.specs.Prelude.{if◌then◌else◌, nat_lt}
use Rattle.std.proofs.lemmas.Bool.Decides.{nat_tests}
use Rattle.clu_wir.specs.Plain.{Expr}
use Rattle.clu_wir.specs.Value.{Gives, Raises, Stuck, Value, meant, value}
use Rattle.clu_frames.specs.Plain.{Step}
use Rattle.clu_frames.specs.Plain as flat
use Rattle.clu_flat_meaning.specs.Image.{Body, Image}
use Rattle.clu_flat_meaning.specs.Machine.{Machine, put_in, slots_at, view_of}
use Rattle.rv_machine.specs.State.{State}
use Rattle.rv_select.specs.declared.register.Register.TheVariants as name
use Rattle.rv_select.specs.Evaluation.{at_of, in_register_at, onto_of, part_of}
use Rattle.rv_select.specs.Operands.{free, register_onto, taking, unbound}
use Rattle.rv_select.specs.Selection.{set_onto}
use Rattle.rv_select.specs.Slots.{save_slot_onto, slot_distance}
use Rattle.rv_select.specs.Written.{Written}
use Rattle.laws_selection.specs.Evaluating.{Gave, Outcome}
use Rattle.laws_selection.specs.Fitting.{Fits, is_inside, step_fits, value_fits}
use Rattle.laws_selection.specs.Growing.{Front, Sound, address}
use Rattle.laws_selection.specs.Holding.{Held}
use Rattle.laws_selection.specs.Sized.{is_sized}
use Rattle.laws_selection.specs.Standing.{Standing, body_words}
use Rattle.laws_selection.proofs.Adding.{into_adds, save_adds}
use Rattle.laws_selection.proofs.Combining.{register_gives}
use Rattle.laws_selection.proofs.Expressions.{evaluates}
use Rattle.laws_selection.proofs.Fronts.{upto}
use Rattle.laws_selection.proofs.Growing.{Stood, and_true, front_adds}
use Rattle.laws_selection.proofs.Holding.{held_done, own_slots, seen_bounded}
use Rattle.laws_selection.proofs.Inside.{inside_same}
use Rattle.laws_selection.proofs.Known.{number_adds, numbers}
use Rattle.laws_selection.proofs.Meaning.{said_is}
use Rattle.laws_selection.proofs.Parts.{gives_of, here_taking, taken}
use Rattle.laws_selection.proofs.Running.{done_then, reaches_then}
use Rattle.laws_selection.proofs.Stepping.{Came, Framed, base, cells, here, linked, nothing_bound, placed, save_gives, stands, trap_at, traps, view}

own_is : (frame n : ℕ) (x : ℕ) → nat_lt n frame ≡ true → Some x ≡ (if nat_lt n frame then Some x else None)
own_is frame n x e = rw e refl

module _ (image : Image) (m : State) (standing : Standing image m) (c : Machine) (b : Body) (is : image.body c.who.body ≡ Some b) (fits : Fits b) (instance : standing.is_instance c.who.body c.who.table ≡ true) where
  abbrev W : Written
  W = body_words b

  abbrev base' : ℕ
  base' = base image m standing c b is fits instance

  abbrev stands' : Stood W m.code base' (cells image m standing c b is fits instance)
  stands' = stands image m standing c b is fits instance

  abbrev view' : Rattle.clu_wir.specs.Value.View
  view' = view image m standing c b is fits instance

  -- what flat code means by an expression, its own slots alone seen
  pub value_is : (e : Expr) → value_fits b.frame e ≡ true → value (view_of image (slots_at image c) c.who.table c.world) e ≡ meant view' e []
  value_is e h = inside_same (view_of image (slots_at image c) c.who.table c.world) (own_slots image m standing b.frame c) b.frame (λ n l. own_is b.frame n (c.stack (c.fp + 4 + n)) l) e [] (and_true (is_inside b.frame e) (is_sized e) h).0

  abbrev pub Outcome' : Written → Written → State → Rattle.rv_select.specs.declared.operand.Operand.Operand → ℕ → Value → Type 0
  Outcome' w v s o kept x = Outcome view' m.code base' (cells image m standing c b is fits instance) false (trap_at standing) kept w v s o x

  -- the words of an expression at the start of a step
  pub evaluated : (e : Expr) → value_fits b.frame e ≡ true → (w : Written) (s : State) → Framed image m b.frame c → Held image m c s → Sound w → s.pc ≡ address base' (length w.code) → Front (onto_of (part_of e) (unbound false) w) W →
      Outcome' w (onto_of (part_of e) (unbound false) w) s (at_of (part_of e) (unbound false)) 0 (meant view' e [])
  evaluated e h w s framed held sound pc f =
      let sized = (and_true (is_inside b.frame e) (is_sized e) h).1 in
      let bounded = seen_bounded image m standing b.frame fits.frame c s (cells image m standing c b is fits instance) held (linked image m standing c b is fits instance) in
      let x = evaluates view' m.code base' W (cells image m standing c b is fits instance) stands' (trap_at standing) (placed image m standing c b is fits instance).stands.few bounded (traps image m standing c b is fits instance) e sized in
      subst (λ (v : Value). Outcome' w (onto_of (part_of e) (unbound false) w) s (at_of (part_of e) (unbound false)) 0 v) (sym (said_is view' e []))
      (gives_of view' m.code base' W (cells image m standing c b is fits instance) stands' false (trap_at standing) (part_of e) x.good (unbound false) [] w s (nothing_bound s) (here image m standing c b is fits instance w s framed held sound pc) f)

  pub value_small : (e : Expr) (s : State) (n : ℕ) → value_fits b.frame e ≡ true → Held image m c s → meant view' e [] ≡ Gives n → n < 2 ^ 64
  value_small e s n h held gives =
      let sized = (and_true (is_inside b.frame e) (is_sized e) h).1 in
      let bounded = seen_bounded image m standing b.frame fits.frame c s (cells image m standing c b is fits instance) held (linked image m standing c b is fits instance) in
      let x = evaluates view' m.code base' W (cells image m standing c b is fits instance) stands' (trap_at standing) (placed image m standing c b is fits instance).stands.few bounded (traps image m standing c b is fits instance) e sized in
      x.good.small [] n (λ k v e. absurd (cc)) (sym (said_is view' e []) ∙ gives)

  -- SET
  pub set_then : (to n : ℕ) (e : Expr) (s : State) → step_fits b.frame (flat.Set to e) ≡ true → Framed image m b.frame c → Held image m c s →
      Front (set_onto to (part_of e) (unbound false) (upto b c.pc)) W → meant view' e [] ≡ Gives n →
      Gave view' m.code base' (cells image m standing c b is fits instance) false 0 (onto_of (part_of e) (unbound false) (upto b c.pc)) s (at_of (part_of e) (unbound false)) n →
      Came image m standing c b is fits instance (set_onto to (part_of e) (unbound false) (upto b c.pc)) s (put_in to n c)
  set_then to n e s h framed held f gives g =
      let p = part_of e in
      let sc = unbound false in
      let w = upto b c.pc in
      let both = and_true (nat_lt to b.frame) (value_fits b.frame e) h in
      let u = onto_of p sc w in
      let u1 = taking sc u in
      let v = register_onto (at_of p sc) (free sc) u1 in
      let fv = front_adds v (save_slot_onto (in_register_at p sc) to v) W (save_adds m.code base' W (cells image m standing c b is fits instance) stands' (trap_at standing) (placed image m standing c b is fits instance).stands.few (traps image m standing c b is fits instance) (in_register_at p sc) name.Frame (slot_distance to) v) f in
      let fu = front_adds u1 v W (into_adds m.code base' W (cells image m standing c b is fits instance) stands' (trap_at standing) (placed image m standing c b is fits instance).stands.few (traps image m standing c b is fits instance) e sc u1) fv in
      let spare = taken view' m.code base' W (cells image m standing c b is fits instance) stands' false (trap_at standing) sc u fu in
      let there' = here_taking view' m.code base' W (cells image m standing c b is fits instance) stands' false (trap_at standing) sc u g.state g.here in
      let y = register_gives view' m.code base' W (cells image m standing c b is fits instance) stands' false (numbers view' m.code base' W (cells image m standing c b is fits instance) stands' false) number_adds 0 u1 g.state (at_of p sc) (free sc) n g.placed there' g.holds fv spare.spare spare.near in
      let ht = held_done image m standing 0 c s y.state (done_then g.done y.done) held in
      let z = save_gives image m standing c b is fits instance v y.state (in_register_at p sc) to n framed y.placed y.here.sound y.here.pc ht f y.holds (value_small e s n (both.1) held gives) (grind (arith, nat_tests, both.0)) in
      record { state = z.state; reaches = reaches_then g.reaches (reaches_then y.reaches z.reaches); held = z.held; sound = z.sound; pc = z.pc }
