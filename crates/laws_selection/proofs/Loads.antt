-- Words and bytes at addresses, and what the linker knows.
use Rattle.std.proofs.Common.{◌≡◌, ◌∙◌, ℕ, ℤ, pos, negsuc, ◌+◌, ◌%◌, ◌^◌, ◌<◌, Bool, true, false, List, [], ◌∷◌, Option, Some, None, refl, ap, sym, subst, arith}
use Rattle.std.specs.Prelude.{if◌then◌else◌, ◌+ℤ◌}
use Rattle.std.specs.Int.{w8, w32, w64, saturate_signed}
use Rattle.std.proofs.lemmas.Bool.Decides.{nat_tests}
use Rattle.clu_wir.specs.declared.hole.HoleKind.{HoleKind}
use Rattle.clu_wir.specs.declared.hole.HoleKind.TheVariants as kind
use Rattle.clu_wir.specs.declared.trap.Trap.{Trap}
use Rattle.rv_isa.specs.declared.instr.Instr.TheVariants as instr
use Rattle.rv_isa.specs.declared.op.Op.TheVariants as op
use Rattle.rv_machine.specs.State.{State, read_at, register}
use Rattle.rv_machine.specs.Steps.{word_of}
use Rattle.rv_machine.specs.Values.{sum, unsigned}
use Rattle.rv_select.specs.declared.operand.Operand.{Operand}
use Rattle.rv_select.specs.declared.operand.Operand.TheVariants.{At as In}
use Rattle.rv_select.specs.declared.operand.Scope.{Scope}
use Rattle.rv_select.specs.declared.register.Register.{Register}
use Rattle.rv_select.specs.declared.register.Register.TheVariants as name
use Rattle.rv_select.specs.Registers.{register_number}
use Rattle.rv_select.specs.Evaluation.{Part, Sum, at_of, byte_at_onto, byte_of, byte_onto, cell_onto, hole_word_onto, load_word_onto, loaded, loaded_by, loaded_whole_onto, onto_of, plain}
use Rattle.rv_select.specs.Operands.{free, register_of, register_onto, taking}
use Rattle.rv_select.specs.Slots.{is_reached, near_onto, reaching}
use Rattle.rv_select.specs.Written.{Written, hole_onto, in_turn, ld_onto, three_onto}
use Rattle.clu_wir.specs.Value.{Gives, Raises, Stuck, Value, View, of_option, then_word}
use Rattle.laws_selection.proofs.Meaning.{Meant}
use Rattle.laws_selection.specs.Registers.{stays}
use Rattle.laws_selection.specs.Running.{Code, Done}
use Rattle.laws_selection.specs.Growing.{Adds, Front}
use Rattle.laws_selection.specs.Evaluating.{Bounded, Gave, Here, HoldsWord, IsCell, IsPlaced, Outcome, Scoped}
use Rattle.laws_selection.proofs.Running.{byte_goes, done_same, done_then, load_goes, reaches_same, reaches_then, read_same}
use Rattle.laws_selection.proofs.Growing.{Stood, adds_same, adds_then, emitted_adds, front_adds, hole_adds, taking_adds, tested}
use Rattle.laws_selection.proofs.Numbers.{IsRanged}
use Rattle.laws_selection.proofs.Evaluating.{Puts, hole_puts, load_at_adds, load_at_gives, nearer_adds, puts, three_gives}
use Rattle.laws_selection.proofs.Combining.{Numbers, register_adds, register_gives, register_placed}
use Rattle.laws_selection.proofs.Known.{number_adds, numbers}
use Rattle.laws_selection.proofs.Parts.{Good, adds_of, gives_of, here_taking, of_small, raised_in, taken}

module _ (view : View) (image : Code) (base : ℕ) (W : Written) (hole : HoleKind → ℕ → ℕ) (stands : Stood W image base hole) (is_leaf : Bool) (trap_address : Trap → ℕ) where
  abbrev Here' : Written → State → Type 0
  Here' = Here view image base hole is_leaf

  abbrev Gave' : ℕ → Written → State → Operand → ℕ → Type 0
  Gave' = Gave view image base hole is_leaf

  abbrev Puts' : ℕ → Written → State → Register → ℕ → Type 0
  Puts' = Puts view image base W hole stands is_leaf

  abbrev Outcome' : ℕ → Written → Written → State → Operand → Value → Type 0
  Outcome' = Outcome view image base hole is_leaf trap_address

  abbrev Good' : Part → Meant → Type 0
  Good' = Good view image base W hole stands is_leaf trap_address

  abbrev nums : Numbers view image base W hole stands is_leaf
  nums = numbers view image base W hole stands is_leaf

  abbrev regs_add : (o : Operand) (to : Register) (w : Written) → Adds w (register_onto o to w)
  regs_add = register_adds view image base W hole stands is_leaf nums number_adds

  -- What the linker knows.

  cell_adds : (k : HoleKind) (to : Register) (w : Written) → Adds w (cell_onto k to w)
  cell_adds kind.Regions to w = adds_same w
  cell_adds kind.Runtime to w = adds_same w
  cell_adds kind.Code to w = adds_same w
  cell_adds kind.TypeCell to w = emitted_adds _ w
  cell_adds _ to w = adds_then w _ _ (emitted_adds (instr.Three op.Add (register_number to) (register_number to) 9) w) (emitted_adds _ _)

  table_stays : (kept : ℕ) → stays kept name.Table ≡ true
  unfolding stays
  table_stays kept = refl

  same_put : (kept : ℕ) (w : Written) (s : State) (to : Register) (n v : ℕ) → n ≡ v → Here' w s → register s (register_number to) ≡ n → Puts' kept w s to v
  same_put kept w s to n v e h r = record { state = s; reaches = reaches_same s; here = h; done = done_same kept s; holds = r ∙ e }

  -- an address in the link table
  added : (kept : ℕ) (w : Written) (s : State) (to : Register) (n : ℕ) → Here' w s → register s (register_number to) ≡ n → stays kept to ≡ false → Front (three_onto op.Add to to name.Table w) W →
      Puts' kept (three_onto op.Add to to name.Table w) s to (sum n (register s 9))
  added kept w s to n h r spare f =
      let x = three_gives view image base W hole stands is_leaf kept w s op.Add to to name.Table h f spare in
      record { state = x.state; reaches = x.reaches; here = x.here; done = x.done; holds = x.holds ∙ ap (λ m. sum m (register s 9)) r }

  pass_zero : (a b : ℕ) → sum (sum a b) 0 ≡ sum a b
  pass_zero a b = omega arith

  -- a word of the link table
  loaded_cell : (kept : ℕ) (w : Written) (s : State) (to : Register) (n v : ℕ) → Here' w s → register s (register_number to) ≡ n → read_at w64 s (sum n (register s 9)) ≡ Some v → stays kept to ≡ false →
      Front (in_turn (three_onto op.Add to to name.Table ∷ ld_onto to to (pos 0) ∷ []) w) W → Puts' kept (in_turn (three_onto op.Add to to name.Table ∷ ld_onto to to (pos 0) ∷ []) w) s to v
  loaded_cell kept w s to n v h r read spare f =
      let u = three_onto op.Add to to name.Table w in
      let x = added kept w s to n h r spare (front_adds u _ W (emitted_adds _ u) f) in
      let at : sum (register x.state (register_number to)) (word_of (pos 0)) ≡ sum n (register s 9) = ap (λ m. sum m 0) x.holds ∙ pass_zero n (register s 9) in
      let y = puts view image base W hole stands is_leaf kept u x.state to v (instr.Load op.Ld (register_number to) (register_number to) (pos 0)) x.here f spare
      (λ there. load_goes x.state (register_number to) (register_number to) (pos 0) v there (ap (read_at w64 x.state) at ∙ read_same w64 s x.state (sum n (register s 9)) x.done.same ∙ read)) in
      record { state = y.state; reaches = reaches_then x.reaches y.reaches; here = y.here; done = done_then x.done y.done; holds = y.holds }

  cell_gives : (k : HoleKind) (kept : ℕ) (w : Written) (s : State) (to : Register) (n v : ℕ) → Here' w s → register s (register_number to) ≡ n → IsCell k n s v → stays kept to ≡ false → Front (cell_onto k to w) W → Puts' kept (cell_onto k to w) s to v
  cell_gives kind.Regions kept w s to n v h r c spare f = same_put kept w s to n v c h r
  cell_gives kind.Runtime kept w s to n v h r c spare f = same_put kept w s to n v c h r
  cell_gives kind.Code kept w s to n v h r c spare f = same_put kept w s to n v c h r
  cell_gives kind.TypeCell kept w s to n v h r c spare f = let x = added kept w s to n h r spare f in record { state = x.state; reaches = x.reaches; here = x.here; done = x.done; holds = x.holds ∙ c }
  cell_gives kind.Entry kept w s to n v h r c spare f = loaded_cell kept w s to n v h r c spare f
  cell_gives kind.Descriptor kept w s to n v h r c spare f = loaded_cell kept w s to n v h r c spare f
  cell_gives kind.Constant kept w s to n v h r c spare f = loaded_cell kept w s to n v h r c spare f
  cell_gives kind.RoutineOwn kept w s to n v h r c spare f = loaded_cell kept w s to n v h r c spare f
  cell_gives kind.ClusterOwn kept w s to n v h r c spare f = loaded_cell kept w s to n v h r c spare f
  cell_gives kind.TypeWord kept w s to n v h r c spare f = loaded_cell kept w s to n v h r c spare f

  cell_then : (k : HoleKind) (kept : ℕ) (s t : State) (n v : ℕ) → Done kept s t → IsCell k n s v → IsCell k n t v
  cell_then kind.Regions kept s t n v d c = c
  cell_then kind.Runtime kept s t n v d c = c
  cell_then kind.Code kept s t n v d c = c
  cell_then kind.TypeCell kept s t n v d c = ap (sum n) (d.stays name.Table (table_stays kept)) ∙ c
  cell_then _ kept s t n v d c = ap (λ m. read_at w64 t (sum n m)) (d.stays name.Table (table_stays kept)) ∙ read_same w64 s t (sum n (register s 9)) d.same ∙ c

  hole_word_adds : (k : HoleKind) (number : ℕ) (sc : Scope) (w : Written) → Adds w (hole_word_onto k number sc w)
  unfolding hole_word_onto
  hole_word_adds k number sc w =
      let v = taking sc w in
      adds_then w v _ (taking_adds sc w) (adds_then v (hole_onto (free sc) k number v) _ (hole_adds (free sc) k number v) (cell_adds k (free sc) (hole_onto (free sc) k number v)))

  hole_gives : (k : HoleKind) (number : ℕ) (sc : Scope) (w : Written) (s : State) → Here' w s → Front (hole_word_onto k number sc w) W → (v : Option ℕ) → view.hole k number ≡ v → Outcome' sc.kept w (hole_word_onto k number sc w) s (In (free sc)) (of_option v)
  unfolding hole_word_onto
  hole_gives k number sc w s h f None e = tt
  hole_gives k number sc w s h f (Some n) e =
      let v = taking sc w in
      let to = free sc in
      let u = hole_onto to k number v in
      let fu = front_adds u _ W (cell_adds k to u) f in
      let spare = taken view image base W hole stands is_leaf trap_address sc w (front_adds v u W (hole_adds to k number v) fu) in
      let x = hole_puts view image base W hole stands is_leaf sc.kept v s to k number (here_taking view image base W hole stands is_leaf trap_address sc w s h) fu spare.spare in
      let y = cell_gives k sc.kept u x.state to (hole k number) n x.here x.holds (cell_then k sc.kept s x.state (hole k number) n x.done (h.sees.cell k number n e)) spare.spare f in
      record { state = y.state; reaches = reaches_then x.reaches y.reaches; here = y.here; done = done_then x.done y.done; holds = y.holds; placed = spare.near }

  pub hole_good : Bounded view → (k : HoleKind) (number : ℕ) → Good' (plain 4 (λ s. None) (λ s. In (free s)) (hole_word_onto k number)) (λ bound. of_option (view.hole k number))
  hole_good bounded k number = record {
    known = λ sc bound s n h e. absurd (cc);
    adds = λ sc w. hole_word_adds k number sc w;
    gives = λ sc bound w s scoped h f. hole_gives k number sc w s h f (view.hole k number) refl;
    small = λ bound n h e. of_small view image base W hole stands is_leaf trap_address (view.hole k number) n (λ v is. bounded.hole k number v is) e;
    ready = λ sc bound s o h e. absurd (cc);
    truth = λ t bound n e. absurd (cc);
  }

  -- Bytes.

  byte_at_adds : (o : Operand) (sc : Scope) (w : Written) → Adds w (byte_at_onto o sc w)
  unfolding byte_at_onto
  byte_at_adds o sc w =
      let v = taking sc w in
      adds_then w v _ (taking_adds sc w) (adds_then v (register_onto o (free sc) v) _ (regs_add o (free sc) v) (emitted_adds _ _))

  pass : (a : ℕ) → a < 2 ^ 64 → sum a 0 ≡ a
  pass a h = omega arith

  byte_at_gives : (o : Operand) (sc : Scope) (w : Written) (s : State) (a n : ℕ) → IsPlaced o → a < 2 ^ 64 → Here' w s → HoldsWord o s a → view.byte a ≡ Some n → Front (byte_at_onto o sc w) W → Gave' sc.kept (byte_at_onto o sc w) s (In (free sc)) n
  unfolding byte_at_onto
  byte_at_gives o sc w s a n p small h r e f =
      let v = taking sc w in
      let to = free sc in
      let u = register_onto o to v in
      let fu = front_adds u _ W (emitted_adds _ u) f in
      let spare = taken view image base W hole stands is_leaf trap_address sc w (front_adds v u W (regs_add o to v) fu) in
      let x = register_gives view image base W hole stands is_leaf nums number_adds sc.kept v s o to a p (here_taking view image base W hole stands is_leaf trap_address sc w s h) r fu spare.spare spare.near in
      let at : sum (register x.state (register_number (register_of o to))) (word_of (pos 0)) ≡ a = ap (λ m. sum m 0) x.holds ∙ pass a small in
      let y = puts view image base W hole stands is_leaf sc.kept u x.state to n (instr.Load op.Lbu (register_number to) (register_number (register_of o to)) (pos 0)) x.here f spare.spare
      (λ there. byte_goes x.state (register_number to) (register_number (register_of o to)) (pos 0) n there (ap (read_at w8 x.state) at ∙ x.here.sees.byte a n e)) in
      record { state = y.state; reaches = reaches_then x.reaches y.reaches; here = y.here; done = done_then x.done y.done; holds = y.holds; placed = spare.near }

  -- Words, so many bytes from an address.

  load_word_adds : (o : Operand) (d : ℤ) (sc : Scope) (w : Written) → Adds w (load_word_onto o d sc w)
  unfolding load_word_onto
  load_word_adds o d sc w =
      let v = taking sc w in
      adds_then w v _ (taking_adds sc w) (adds_then v (register_onto o (free sc) v) _ (regs_add o (free sc) v) (load_at_adds view image base W hole stands is_leaf (free sc) (register_of o (free sc)) d _))

  load_word_gives : (o : Operand) (d : ℤ) (sc : Scope) (w : Written) (s : State) (a n : ℕ) → IsPlaced o → Here' w s → HoldsWord o s a → IsRanged d → view.word (sum a (unsigned d)) ≡ Some n → Front (load_word_onto o d sc w) W → Gave' sc.kept (load_word_onto o d sc w) s (In (free sc)) n
  unfolding load_word_onto
  load_word_gives o d sc w s a n p h r ranged e f =
      let v = taking sc w in
      let to = free sc in
      let u = register_onto o to v in
      let from = register_of o to in
      let fu = front_adds u _ W (load_at_adds view image base W hole stands is_leaf to from d u) f in
      let spare = taken view image base W hole stands is_leaf trap_address sc w (front_adds v u W (regs_add o to v) fu) in
      let x = register_gives view image base W hole stands is_leaf nums number_adds sc.kept v s o to a p (here_taking view image base W hole stands is_leaf trap_address sc w s h) r fu spare.spare spare.near in
      let y = load_at_gives view image base W hole stands is_leaf sc.kept u x.state to from d n x.here f (register_placed o to p spare.near) spare.spare spare.near ranged
      (ap (λ m. read_at w64 x.state (sum m (unsigned d))) x.holds ∙ x.here.sees.word (sum a (unsigned d)) n e) in
      record { state = y.state; reaches = reaches_then x.reaches y.reaches; here = y.here; done = done_then x.done y.done; holds = y.holds; placed = y.placed }

  -- the distance of a load is reached
  load_reached : (o : Operand) (d : ℤ) (sc : Scope) (w : Written) → Front (load_word_onto o d sc w) W → is_reached d ≡ true
  unfolding load_word_onto
  load_reached o d sc w f =
      let u = register_onto o (free sc) (taking sc w) in
      let from = register_of o (free sc) in
      let v = near_onto from d u in
      let fv = front_adds v _ W (emitted_adds _ v) f in
      tested (is_reached d) u W stands.fits (front_adds (reaching d u) v W (nearer_adds view image base W hole stands is_leaf from d (reaching d u)) fv)

  module _ (bounded : Bounded view) (a : Part) {ma : Meant} (ga : Good' a ma) where
    byte_small : (v : Option ℕ) (n : ℕ) → ((k : ℕ) → v ≡ Some k → k < 2 ^ 8) → of_option v ≡ Gives n → n < 2 ^ 64
    byte_small None n h e = absurd (cc)
    byte_small (Some k) n h e = let small = h k refl in let wide : k < 2 ^ 64 = omega arith in subst (λ m. m < 2 ^ 64) (cc) wide

    abbrev pub byte_meant : Meant
    byte_meant bound = then_word (ma bound) (λ n. of_option (view.byte n))

    byte_then : (sc : Scope) (bound : List ℕ) (w : Written) (s : State) → Scoped is_leaf sc bound s → Front (byte_onto a sc w) W → (x : Value) → ma bound ≡ x → Outcome' sc.kept w (onto_of a sc w) s (at_of a sc) x →
        Outcome' sc.kept w (byte_onto a sc w) s (In (free sc)) (then_word x (λ n. of_option (view.byte n)))
    byte_then sc bound w s scoped f (Gives n) e x = by (view.byte n) refl
      where
        by : (v : Option ℕ) → view.byte n ≡ v → Outcome' sc.kept w (byte_onto a sc w) s (In (free sc)) (of_option v)
        by None is = tt
        by (Some v) is =
            let y = byte_at_gives (at_of a sc) sc (onto_of a sc w) x.state n v x.placed (ga.small bound n scoped.small e) x.here x.holds is f in
            record { state = y.state; reaches = reaches_then x.reaches y.reaches; here = y.here; done = done_then x.done y.done; holds = y.holds; placed = y.placed }
    byte_then sc bound w s scoped f (Raises t) e x =
        raised_in view image base W hole stands is_leaf trap_address sc.kept w w (onto_of a sc w) (byte_onto a sc w) (adds_same w) (byte_at_adds (at_of a sc) sc (onto_of a sc w)) (reaches_same s) (done_same sc.kept s) x
    byte_then sc bound w s scoped f Stuck e x = tt

    bytes_small : (x : Value) (n : ℕ) → then_word x (λ m. of_option (view.byte m)) ≡ Gives n → n < 2 ^ 64
    bytes_small (Gives m) n e = byte_small (view.byte m) n (λ k is. bounded.byte m k is) e
    bytes_small (Raises t) n e = absurd (cc)
    bytes_small Stuck n e = absurd (cc)

    pub byte_good : Good' (byte_of a) byte_meant
    byte_good = record {
      known = λ sc bound s n h e. absurd (cc);
      adds = λ sc w. adds_then w (onto_of a sc w) _ (adds_of view image base W hole stands is_leaf trap_address a ga sc w) (byte_at_adds (at_of a sc) sc (onto_of a sc w));
      gives = λ sc bound w s scoped h f. byte_then sc bound w s scoped f (ma bound) refl
          (gives_of view image base W hole stands is_leaf trap_address a ga sc bound w s scoped h (front_adds (onto_of a sc w) _ W (byte_at_adds (at_of a sc) sc (onto_of a sc w)) f));
      small = λ bound n h e. bytes_small (ma bound) n e;
      ready = λ sc bound s o h e. absurd (cc);
      truth = λ t bound n e. absurd (cc);
    }

    -- a small number that is added last
    pub record SumOf (sc : Scope) (b : Sum) : Type 0 where
      pub inner : Meant
      pub sum_adds : (w : Written) → Adds w (b.onto w)
      pub sum_gives : (bound : List ℕ) (w : Written) (s : State) → Scoped is_leaf sc bound s → Here' w s → Front (b.onto w) W → Outcome' sc.kept w (b.onto w) s b.at (inner bound)
      pub so : (bound : List ℕ) (s : State) → Scoped is_leaf sc bound s → (c : Bool) × (ma bound ≡ then_word (inner bound) (λ n. if c then Gives (sum n (unsigned b.added)) else Stuck))
      pub least : (n : ℕ) → b.added ≡ negsuc n → n < 2048

    abbrev pub Sums : Type 0
    Sums = (sc : Scope) (b : Sum) → a.sum sc ≡ Some b → SumOf sc b

    abbrev pub load_meant : ℕ → Meant
    load_meant bytes bound = then_word (ma bound) (λ n. of_option (view.word ((n + bytes) % 2 ^ 64)))

    pub by_adds : (b : Option Sum) (d : ℤ) (sc : Scope) (w : Written) → ((x : Sum) → b ≡ Some x → SumOf sc x) → Adds w (loaded_by b a d sc w)
    by_adds None d sc w sums = adds_then w (onto_of a sc w) _ (adds_of view image base W hole stands is_leaf trap_address a ga sc w) (load_word_adds (at_of a sc) d sc (onto_of a sc w))
    by_adds (Some b) d sc w sums = let x = sums b refl in adds_then w (b.onto w) _ (x.sum_adds w) (load_word_adds b.at (saturate_signed w32 (d +ℤ b.added)) sc (b.onto w))

    distance_is : (n bytes : ℕ) → sum n (unsigned (pos bytes)) ≡ (n + bytes) % 2 ^ 64
    distance_is n bytes = grind arith

    whole_then : (bytes : ℕ) (sc : Scope) (w : Written) (s : State) → Front (loaded_whole_onto a (pos bytes) sc w) W → (x : Value) → Outcome' sc.kept w (onto_of a sc w) s (at_of a sc) x →
        Outcome' sc.kept w (loaded_whole_onto a (pos bytes) sc w) s (In (free sc)) (then_word x (λ n. of_option (view.word ((n + bytes) % 2 ^ 64))))
    whole_then bytes sc w s f (Gives n) x = by (view.word ((n + bytes) % 2 ^ 64)) refl
      where
        by : (v : Option ℕ) → view.word ((n + bytes) % 2 ^ 64) ≡ v → Outcome' sc.kept w (loaded_whole_onto a (pos bytes) sc w) s (In (free sc)) (of_option v)
        by None is = tt
        by (Some v) is =
            let y = load_word_gives (at_of a sc) (pos bytes) sc (onto_of a sc w) x.state n v x.placed x.here x.holds tt (ap view.word (distance_is n bytes) ∙ is) f in
            record { state = y.state; reaches = reaches_then x.reaches y.reaches; here = y.here; done = done_then x.done y.done; holds = y.holds; placed = y.placed }
    whole_then bytes sc w s f (Raises t) x =
        raised_in view image base W hole stands is_leaf trap_address sc.kept w w (onto_of a sc w) (loaded_whole_onto a (pos bytes) sc w) (adds_same w) (load_word_adds (at_of a sc) (pos bytes) sc (onto_of a sc w)) (reaches_same s) (done_same sc.kept s) x
    whole_then bytes sc w s f Stuck x = tt

    -- a distance that is reached is no more than its sum
    exact : (bytes : ℕ) (y : ℤ) → ((n : ℕ) → y ≡ negsuc n → n < 2048) → is_reached (saturate_signed w32 (pos bytes +ℤ y)) ≡ true → saturate_signed w32 (pos bytes +ℤ y) ≡ pos bytes +ℤ y
    exact bytes (pos n) least e = grind (arith, nat_tests)
    exact bytes (negsuc n) least e = let small = least n refl in grind (arith, nat_tests)

    ranged : (bytes : ℕ) (y : ℤ) → ((n : ℕ) → y ≡ negsuc n → n < 2048) → (z : ℤ) → z ≡ pos bytes +ℤ y → IsRanged z
    ranged bytes y least (pos n) e = tt
    ranged bytes (pos m) least (negsuc n) e = absurd (grind arith)
    ranged bytes (negsuc m) least (negsuc n) e = let small = least m refl in grind arith

    apart : (n bytes : ℕ) (y : ℤ) → ((k : ℕ) → y ≡ negsuc k → k < 2048) → sum n (unsigned (pos bytes +ℤ y)) ≡ (sum n (unsigned y) + bytes) % 2 ^ 64
    apart n bytes (pos m) least = grind arith
    apart n bytes (negsuc m) least = let small = least m refl in grind arith

    sum_then : (bytes : ℕ) (b : Sum) (sc : Scope) (bound : List ℕ) (w : Written) (s : State) → (x : SumOf sc b) → Front (loaded_by (Some b) a (pos bytes) sc w) W → (c : Bool) → (v : Value) → Outcome' sc.kept w (b.onto w) s b.at v →
        Outcome' sc.kept w (loaded_by (Some b) a (pos bytes) sc w) s (In (free sc)) (then_word (then_word v (λ n. if c then Gives (sum n (unsigned b.added)) else Stuck)) (λ n. of_option (view.word ((n + bytes) % 2 ^ 64))))
    sum_then bytes b sc bound w s x f true (Gives n) y = by (view.word ((sum n (unsigned b.added) + bytes) % 2 ^ 64)) refl
      where
        by : (v : Option ℕ) → view.word ((sum n (unsigned b.added) + bytes) % 2 ^ 64) ≡ v → Outcome' sc.kept w (loaded_by (Some b) a (pos bytes) sc w) s (In (free sc)) (of_option v)
        by None is = tt
        by (Some v) is =
            let d = saturate_signed w32 (pos bytes +ℤ b.added) in
            let same = exact bytes b.added x.least (load_reached b.at d sc (b.onto w) f) in
            let there : view.word (sum n (unsigned d)) ≡ Some v = ap (λ z. view.word (sum n (unsigned z))) same ∙ ap view.word (apart n bytes b.added x.least) ∙ is in
            let z = load_word_gives b.at d sc (b.onto w) y.state n v y.placed y.here y.holds (ranged bytes b.added x.least d same) there f in
            record { state = z.state; reaches = reaches_then y.reaches z.reaches; here = z.here; done = done_then y.done z.done; holds = z.holds; placed = z.placed }
    sum_then bytes b sc bound w s x f false (Gives n) y = tt
    sum_then bytes b sc bound w s x f c (Raises t) y =
        raised_in view image base W hole stands is_leaf trap_address sc.kept w w (b.onto w) (loaded_by (Some b) a (pos bytes) sc w) (adds_same w) (load_word_adds b.at (saturate_signed w32 (pos bytes +ℤ b.added)) sc (b.onto w)) (reaches_same s) (done_same sc.kept s) y
    sum_then bytes b sc bound w s x f c Stuck y = tt

    load_by : (bytes : ℕ) (o : Option Sum) (sc : Scope) (bound : List ℕ) (w : Written) (s : State) → ((x : Sum) → o ≡ Some x → SumOf sc x) → Scoped is_leaf sc bound s → Here' w s → Front (loaded_by o a (pos bytes) sc w) W →
        Outcome' sc.kept w (loaded_by o a (pos bytes) sc w) s (In (free sc)) (load_meant bytes bound)
    load_by bytes None sc bound w s sums scoped h f =
        whole_then bytes sc w s f (ma bound) (gives_of view image base W hole stands is_leaf trap_address a ga sc bound w s scoped h (front_adds (onto_of a sc w) _ W (load_word_adds (at_of a sc) (pos bytes) sc (onto_of a sc w)) f))
    load_by bytes (Some b) sc bound w s sums scoped h f =
        let x = sums b refl in
        let c = x.so bound s scoped in
        subst (λ v. Outcome' sc.kept w (loaded_by (Some b) a (pos bytes) sc w) s (In (free sc)) (then_word v (λ n. of_option (view.word ((n + bytes) % 2 ^ 64))))) (sym c.1)
        (sum_then bytes b sc bound w s x f c.0 (x.inner bound) (x.sum_gives bound w s scoped h (front_adds (b.onto w) _ W (load_word_adds b.at (saturate_signed w32 (pos bytes +ℤ b.added)) sc (b.onto w)) f)))

    loads_small : (bytes : ℕ) (x : Value) (n : ℕ) → then_word x (λ m. of_option (view.word ((m + bytes) % 2 ^ 64))) ≡ Gives n → n < 2 ^ 64
    loads_small bytes (Gives m) n e = of_small view image base W hole stands is_leaf trap_address (view.word ((m + bytes) % 2 ^ 64)) n (λ k is. bounded.word ((m + bytes) % 2 ^ 64) k is) e
    loads_small bytes (Raises t) n e = absurd (cc)
    loads_small bytes Stuck n e = absurd (cc)

    pub load_good : Sums → (bytes : ℕ) → Good' (loaded a bytes) (load_meant bytes)
    load_good sums bytes = record {
      known = λ sc bound s n h e. absurd (cc);
      adds = λ sc w. by_adds (a.sum sc) (pos bytes) sc w (λ x e. sums sc x e);
      gives = λ sc bound w s scoped h f. load_by bytes (a.sum sc) sc bound w s (λ x e. sums sc x e) scoped h f;
      small = λ bound n h e. loads_small bytes (ma bound) n e;
      ready = λ sc bound s o h e. absurd (cc);
      truth = λ t bound n e. absurd (cc);
    }
