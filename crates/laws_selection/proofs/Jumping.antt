-- What branches and jumps do.
use Rattle.std.proofs.Common.{◌≡◌, ◌∙◌, ℕ, ℤ, pos, ◌%◌, ◌^◌, ◌<◌, ◌==◌, Bool, true, false, not, length, slice_get, Some, refl, ap, ap₂, sym, subst, arith}
use Rattle.std.specs.Prelude.{if◌then◌else◌, nat_lt, nat_le, int_lt, int_le}
use Rattle.std.specs.Int.{from_bool, w64, cast_signed}
use Rattle.std.proofs.lemmas.Bool.Decides.{nat_tests}
use Rattle.clu_wir.specs.declared.expression.WOp.{WOp}
use Rattle.clu_wir.specs.declared.expression.WOp.TheVariants as operation
use Rattle.clu_wir.specs.declared.hole.HoleKind.{HoleKind}
use Rattle.rv_isa.specs.declared.instr.Instr.TheVariants as instr
use Rattle.rv_isa.specs.declared.op.Op.{Op}
use Rattle.rv_machine.specs.State.{State, register}
use Rattle.rv_machine.specs.Values.{is_taken, sum, unsigned}
use Rattle.rv_machine.specs.Steps.{advanced, word_of}
use Rattle.rv_select.specs.declared.conditions.Target.{Target}
use Rattle.rv_select.specs.declared.register.Register.{Register}
use Rattle.rv_select.specs.Registers.{register_number}
use Rattle.rv_select.specs.Conditions.{branching, jump_onto}
use Rattle.rv_select.specs.Evaluation.{same}
use Rattle.rv_select.specs.Finished.{bytes_between}
use Rattle.rv_select.specs.Written.{Written, branch_onto, fresh, go_onto, go_unless_onto, referred}
use Rattle.clu_wir.specs.Value.{View, op_word}
use Rattle.laws_selection.specs.Running.{At, Code, Done}
use Rattle.laws_selection.proofs.Running.{branch_goes, branch_passes, done_then, jal_goes, reaches_one, reaches_then}
use Rattle.laws_selection.specs.Growing.{Adds, Front, Sound, address}
use Rattle.laws_selection.proofs.Growing.{Stood}
use Rattle.laws_selection.proofs.Growing.{adds_same, adds_then, fresh_adds, fresh_label, fresh_length, front_adds, front_placed, placed_adds, placed_length, placed_sound, placed_there, referred_adds, referred_length, sound_then}
use Rattle.laws_selection.specs.Evaluating.{Here, Sees, Went, is_so}
use Rattle.laws_selection.proofs.Evaluating.{next_address, sees_done}

lands : (base k p : ℕ) → k < 2 ^ 32 → p < 2 ^ 32 → sum (address base k) (unsigned (bytes_between k p)) ≡ address base p
lands base k p sk sp = grind arith

aligned : (base p : ℕ) → base % 4 ≡ 0 → (address base p % 4 == 0) ≡ true
aligned base p e = grind (arith, nat_tests)

-- comparisons

so_bool : (b : Bool) → is_so (from_bool b) ≡ b
so_bool true = refl
so_bool false = refl

not_lt : (a b : ℕ) → nat_le b a ≡ not (nat_lt a b)
not_lt a b = grind (arith, nat_tests)

abbrev pub IsComparison : WOp → Type 0
IsComparison operation.Slt = Unit {0}
IsComparison operation.Sltu = Unit {0}
IsComparison operation.Equal = Unit {0}
IsComparison _ = ⊥

not_int_lt : (a b : ℤ) → int_le b a ≡ not (int_lt a b)
not_int_lt a b = grind arith

same_true : (b : Bool) → same true b ≡ b
same_true true = refl
same_true false = refl

same_false : (b : Bool) → same false b ≡ not b
same_false true = refl
same_false false = refl

taken_of : (o : WOp) (sense : Bool) (a b : ℕ) → IsComparison o → (t : Bool) → op_word o a b ≡ from_bool t → is_taken (branching o true) a b ≡ t → is_taken (branching o false) a b ≡ not t → is_taken (branching o sense) a b ≡ same sense (is_so (op_word o a b))
taken_of o true a b c t e p q = p ∙ sym (so_bool t) ∙ ap is_so (sym e) ∙ sym (same_true (is_so (op_word o a b)))
taken_of o false a b c t e p q = q ∙ ap not (sym (so_bool t) ∙ ap is_so (sym e)) ∙ sym (same_false (is_so (op_word o a b)))

pub taken_is : (o : WOp) (sense : Bool) (a b : ℕ) → IsComparison o → is_taken (branching o sense) a b ≡ same sense (is_so (op_word o a b))
taken_is operation.Slt sense a b c = taken_of operation.Slt sense a b c (int_lt (cast_signed w64 a) (cast_signed w64 b)) refl refl (not_int_lt (cast_signed w64 a) (cast_signed w64 b))
taken_is operation.Sltu sense a b c = taken_of operation.Sltu sense a b c (nat_lt a b) refl refl (not_lt a b)
taken_is operation.Equal sense a b c = taken_of operation.Equal sense a b c (a == b) refl refl refl
taken_is _ sense a b c = absurd c

not_same : (o : WOp) (sense : Bool) (a b : ℕ) → IsComparison o → is_taken (branching o (not sense)) a b ≡ not (same sense (is_so (op_word o a b)))
not_same o true a b c = taken_is o false a b c ∙ same_false (is_so (op_word o a b)) ∙ ap not (sym (same_true (is_so (op_word o a b))))
not_same o false a b c = taken_is o true a b c ∙ same_true (is_so (op_word o a b)) ∙ double (is_so (op_word o a b)) ∙ ap not (sym (same_false (is_so (op_word o a b))))
  where
    double : (b : Bool) → b ≡ not (not b)
    double true = refl
    double false = refl

module _ (view : View) (image : Code) (base : ℕ) (W : Written) (hole : HoleKind → ℕ → ℕ) (stands : Stood W image base hole) (is_leaf : Bool) (few : length W.code < 2 ^ 32) where
  abbrev Here' : Written → State → Type 0
  Here' = Here view image base hole is_leaf

  abbrev Sees' : State → Type 0
  Sees' = Sees view image hole is_leaf

  abbrev Went' : ℕ → Written → State → Bool → ℕ → Type 0
  Went' = Went view image base hole is_leaf

  pc_done : (kept : ℕ) (s : State) (pc : ℕ) → Done kept s (record s { pc = pc })
  pc_done kept s pc = record { same = record { code = refl; image = refl; store = refl; stack = refl; start = refl; registers = refl }; stays = λ r h. refl }

  pub inside : (v : Written) → Front v W → length v.code < 2 ^ 32
  inside v f = let parts = Rattle.laws_selection.proofs.Growing.extends_longer v W f.extends in omega arith

  -- a jump
  pub go_goes : (kept : ℕ) (w : Written) (s : State) (label place : ℕ) → Here' w s → Front (go_onto label w) W → slice_get W.labels label ≡ Some (Some place) → place < 2 ^ 32 → Went' kept (go_onto label w) s true place
  go_goes kept w s label place h f l small =
      let i = instr.Jal 0 (pos 0) in
      let k = length w.code in
      let there : At s.code s.pc (instr.Jal 0 (bytes_between k place)) = subst (λ c. At c s.pc (instr.Jal 0 (bytes_between k place))) (sym h.sees.code) (subst (λ a. At image a (instr.Jal 0 (bytes_between k place))) (sym h.pc) (stands.named i label place w h.sound f l)) in
      let short = inside w (front_adds w (go_onto label w) W (referred_adds i label w) f) in
      let to : sum s.pc (word_of (bytes_between k place)) ≡ address base place = ap (λ a. sum a (word_of (bytes_between k place))) h.pc ∙ lands base k place short small in
      let d = pc_done kept s (sum s.pc (word_of (bytes_between k place))) in
      record {
        state = record s { pc = sum s.pc (word_of (bytes_between k place)) };
        reaches = reaches_one s _ (jal_goes s 0 (bytes_between k place) there (ap (λ a. a % 4 == 0) to ∙ aligned base place stands.aligned));
        done = d;
        sees = sees_done view image base W hole stands is_leaf kept s _ d h.sees;
        pc = to;
      }

  -- a branch
  pub branch_by : (kept : ℕ) (w : Written) (s : State) (o : Op) (a b : Register) (label place : ℕ) (t : Bool) → Here' w s → Front (branch_onto o a b label w) W → slice_get W.labels label ≡ Some (Some place) → place < 2 ^ 32 →
      is_taken o (register s (register_number a)) (register s (register_number b)) ≡ t → Went' kept (branch_onto o a b label w) s t place
  branch_by kept w s o a b label place true h f l small e =
      let i = instr.Branch o (register_number a) (register_number b) (pos 0) in
      let k = length w.code in
      let j = instr.Branch o (register_number a) (register_number b) (bytes_between k place) in
      let there : At s.code s.pc j = subst (λ c. At c s.pc j) (sym h.sees.code) (subst (λ a. At image a j) (sym h.pc) (stands.named i label place w h.sound f l)) in
      let short = inside w (front_adds w (referred i label w) W (referred_adds i label w) f) in
      let to : sum s.pc (word_of (bytes_between k place)) ≡ address base place = ap (λ a. sum a (word_of (bytes_between k place))) h.pc ∙ lands base k place short small in
      let d = pc_done kept s (sum s.pc (word_of (bytes_between k place))) in
      record {
        state = record s { pc = sum s.pc (word_of (bytes_between k place)) };
        reaches = reaches_one s _ (branch_goes s o (register_number a) (register_number b) (bytes_between k place) there e (ap (λ a. a % 4 == 0) to ∙ aligned base place stands.aligned));
        done = d;
        sees = sees_done view image base W hole stands is_leaf kept s _ d h.sees;
        pc = to;
      }
  branch_by kept w s o a b label place false h f l small e =
      let i = instr.Branch o (register_number a) (register_number b) (pos 0) in
      let k = length w.code in
      let j = instr.Branch o (register_number a) (register_number b) (bytes_between k place) in
      let there : At s.code s.pc j = subst (λ c. At c s.pc j) (sym h.sees.code) (subst (λ a. At image a j) (sym h.pc) (stands.named i label place w h.sound f l)) in
      let d = pc_done kept s (sum s.pc 4) in
      record {
        state = advanced s;
        reaches = reaches_one s _ (branch_passes s o (register_number a) (register_number b) (bytes_between k place) there e);
        done = d;
        sees = sees_done view image base W hole stands is_leaf kept s _ d h.sees;
        pc = ap (λ a. sum a 4) h.pc ∙ next_address base k ∙ ap (address base) (sym (referred_length i label w));
      }

  went_here : (kept : ℕ) (v : Written) (s : State) (so : Bool) (place : ℕ) → so ≡ false → Sound v → (g : Went' kept v s so place) → Here' v g.state
  went_here kept v s true place e sound g = absurd (cc)
  went_here kept v s false place e sound g = record { sound = sound; pc = g.pc; sees = g.sees }

  -- a branch over a jump
  pub go_unless_adds : (o : Op) (a b : Register) (label : ℕ) (w : Written) → Adds w (go_unless_onto o a b label w)
  go_unless_adds o a b label w =
      let w1 = fresh w in
      let w2 = branch_onto o a b (length w.labels) w1 in
      placed_adds w (go_onto label w2) (length w.labels)
      (adds_then w w1 (go_onto label w2) (fresh_adds w) (adds_then w1 w2 (go_onto label w2) (referred_adds _ (length w.labels) w1) (referred_adds _ label w2))) (omega arith)

  -- its words, one after the other
  record Unless (o : Op) (a b : Register) (label : ℕ) (w : Written) : Type 0 where
    front3 : Front (go_onto label (branch_onto o a b (length w.labels) (fresh w))) W
    front2 : Front (branch_onto o a b (length w.labels) (fresh w)) W
    front1 : Front (fresh w) W
    over : slice_get W.labels (length w.labels) ≡ Some (Some (length (go_onto label (branch_onto o a b (length w.labels) (fresh w))).code))
    short : length (go_onto label (branch_onto o a b (length w.labels) (fresh w))).code < 2 ^ 32

  unless_is : (o : Op) (a b : Register) (label : ℕ) (w : Written) → Front (go_unless_onto o a b label w) W → Unless o a b label w
  unless_is o a b label w f =
      let l = length w.labels in
      let w1 = fresh w in
      let w2 = branch_onto o a b l w1 in
      let w3 = go_onto label w2 in
      let a2 = referred_adds (instr.Branch o (register_number a) (register_number b) (pos 0)) l w1 in
      let a3 = referred_adds (instr.Jal 0 (pos 0)) label w2 in
      let is = fresh_label w in
      let a13 = adds_then w1 w2 w3 a2 a3 in
      let count = a13.count in
      let first = is.0 in
      let f3 = front_placed w3 W l (a13.below l is.0 ∙ is.1) f in
      let f2 = front_adds w2 w3 W a3 f3 in
      record { front3 = f3; front2 = f2; front1 = front_adds w1 w2 W a2 f2; over = placed_there w3 W l (omega arith) f; short = inside w3 f3 }

  unless_by : (kept : ℕ) (w : Written) (s : State) (o : Op) (a b : Register) (label place : ℕ) (t : Bool) → Here' w s → Unless o a b label w → slice_get W.labels label ≡ Some (Some place) → place < 2 ^ 32 →
      Went' kept (branch_onto o a b (length w.labels) (fresh w)) s t (length (go_onto label (branch_onto o a b (length w.labels) (fresh w))).code) → Went' kept (go_unless_onto o a b label w) s (not t) place
  unless_by kept w s o a b label place true h u l small g =
      let w3 = go_onto label (branch_onto o a b (length w.labels) (fresh w)) in
      record { state = g.state; reaches = g.reaches; done = g.done; sees = g.sees; pc = g.pc ∙ ap (address base) (sym (placed_length (length w.labels) w3)) }
  unless_by kept w s o a b label place false h u l small g =
      let w1 = fresh w in
      let w2 = branch_onto o a b (length w.labels) w1 in
      let sound = sound_then w1 w2 (referred_adds _ (length w.labels) w1).extends (sound_then w w1 (fresh_adds w).extends h.sound) in
      let j = go_goes kept w2 g.state label place (record { sound = sound; pc = g.pc; sees = g.sees }) u.front3 l small in
      record { state = j.state; reaches = reaches_then g.reaches j.reaches; done = done_then g.done j.done; sees = j.sees; pc = j.pc }

  pub fresh_here : (w : Written) (s : State) → Here' w s → Here' (fresh w) s
  fresh_here w s h = record { sound = sound_then w (fresh w) (fresh_adds w).extends h.sound; pc = h.pc ∙ ap (address base) (sym (fresh_length w)); sees = h.sees }

  pub go_unless_goes : (kept : ℕ) (w : Written) (s : State) (o : Op) (a b : Register) (label place : ℕ) (t : Bool) → Here' w s → Front (go_unless_onto o a b label w) W → slice_get W.labels label ≡ Some (Some place) → place < 2 ^ 32 →
      is_taken o (register s (register_number a)) (register s (register_number b)) ≡ t → Went' kept (go_unless_onto o a b label w) s (not t) place
  go_unless_goes kept w s o a b label place t h f l small e =
      let u = unless_is o a b label w f in
      unless_by kept w s o a b label place t h u l small
      (branch_by kept (fresh w) s o a b (length w.labels) (length (go_onto label (branch_onto o a b (length w.labels) (fresh w))).code) t (fresh_here w s h) u.front2 u.over u.short e)

  -- on a comparison
  pub jump_adds : (o : WOp) (a b : Register) (sense : Bool) (t : Target) (w : Written) → Adds w (jump_onto o a b sense t w)
  jump_adds o a b sense t w = by t.is_near
    where
      by : (near : Bool) → Adds w (if near then branch_onto (branching o sense) a b t.label w else go_unless_onto (branching o (not sense)) a b t.label w)
      by true = referred_adds _ t.label w
      by false = go_unless_adds (branching o (not sense)) a b t.label w

  double : (b : Bool) → not (not b) ≡ b
  double true = refl
  double false = refl

  pub jump_goes : (kept : ℕ) (w : Written) (s : State) (o : WOp) (a b : Register) (x y : ℕ) (sense : Bool) (t : Target) (place : ℕ) → IsComparison o → Here' w s → Front (jump_onto o a b sense t w) W → slice_get W.labels t.label ≡ Some (Some place) → place < 2 ^ 32 →
      register s (register_number a) ≡ x → register s (register_number b) ≡ y → Went' kept (jump_onto o a b sense t w) s (same sense (is_so (op_word o x y))) place
  jump_goes kept w s o a b x y sense t place c h f l small ax by' = by t.is_near f
    where
      by : (near : Bool) → Front (if near then branch_onto (branching o sense) a b t.label w else go_unless_onto (branching o (not sense)) a b t.label w) W →
          Went' kept (if near then branch_onto (branching o sense) a b t.label w else go_unless_onto (branching o (not sense)) a b t.label w) s (same sense (is_so (op_word o x y))) place
      by true f = branch_by kept w s (branching o sense) a b t.label place (same sense (is_so (op_word o x y))) h f l small (ap₂ (is_taken (branching o sense)) ax by' ∙ taken_is o sense x y c)
      by false f = subst (λ z. Went' kept (go_unless_onto (branching o (not sense)) a b t.label w) s z place) (double (same sense (is_so (op_word o x y))))
          (go_unless_goes kept w s (branching o (not sense)) a b t.label place (not (same sense (is_so (op_word o x y)))) h f l small (ap₂ (is_taken (branching o (not sense))) ax by' ∙ not_same o sense x y c))
