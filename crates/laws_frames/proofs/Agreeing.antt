-- A value in a larger view is the same where it isn't stuck.
use Rattle.std.proofs.Common.{◌≡◌, ◌∙◌, ℕ, ◌+◌, ◌%◌, ◌^◌, ◌<◌, ◌==◌, ◌++◌, Bool, true, false, List, [], ◌∷◌, Option, Some, None, refl, ap, sym, subst}
use Rattle.std.specs.Prelude.{if◌then◌else◌}
use Rattle.clu_wir.specs.Plain.{Expr, Exprs, expr_and, no_exprs}
use Rattle.clu_wir.specs.Plain as plain
use Rattle.clu_wir.specs.Value.{Gives, Raises, Stuck, Value, View, binds, meant, of_option, then_word}

-- the second is the first, where that is not stuck
abbrev pub Agree : Value → Value → Type 0
Agree (Gives w) v = v ≡ Gives w
Agree (Raises t) v = v ≡ Raises t
Agree Stuck v = Unit {0}

same : (v : Value) → Agree v v
same (Gives w) = refl
same (Raises t) = refl
same Stuck = tt

on_then : (a b : Value) (f g : ℕ → Value) → Agree a b → ((w : ℕ) → Agree (f w) (g w)) → Agree (then_word a f) (then_word b g)
on_then (Gives w) b f g l h = subst (λ x. Agree (f w) (then_word x g)) (sym l) (h w)
on_then (Raises t) b f g l h = subst (λ x. then_word x g ≡ Raises t) (sym l) refl
on_then Stuck b f g l h = tt

on_bool : (b : Bool) (x y x' y' : Value) → Agree x x' → Agree y y' → Agree (if b then y else x) (if b then y' else x')
on_bool true x y x' y' p q = q
on_bool false x y x' y' p q = p

on_option : (o o' : Option ℕ) → ((w : ℕ) → o ≡ Some w → o' ≡ Some w) → Agree (of_option o) (of_option o')
on_option None o' h = tt
on_option (Some w) o' h = ap of_option (h w refl)

-- the slots that an expression names are below a number
abbrev mutual
  pub Within : ℕ → Expr → Type 0
  Within base (plain.slot n) = n < base
  Within base (plain.word w) = Unit {0}
  Within base (plain.hole kind number) = Unit {0}
  Within base (plain.load e bytes) = Within base e
  Within base (plain.byte e) = Within base e
  Within base (plain.binary o left right) = Within base left × Within base right
  Within base (plain.choice e first other) = Within base e × Within base first × Within base other
  Within base (plain.check e trap value) = Within base e × Within base value
  Within base (plain.binding es e) = AllWithin base es × Within base e
  Within base (plain.bound n) = Unit {0}

  pub AllWithin : ℕ → Exprs → Type 0
  AllWithin base no_exprs = Unit {0}
  AllWithin base (expr_and e es) = Within base e × AllWithin base es

module _ (v v' : View) (base : ℕ) (slots : (n w : ℕ) → n < base → v.slot n ≡ Some w → v'.slot n ≡ Some w) (holes : v'.hole ≡ v.hole) (words : v'.word ≡ v.word) (bytes : v'.byte ≡ v.byte) where
  mutual
    unfolding meant binds

    pub agrees : (e : Expr) → Within base e → (ws : List ℕ) → Agree (meant v e ws) (meant v' e ws)
    agrees (plain.slot n) l ws = on_option (v.slot n) (v'.slot n) (λ w e. slots n w l e)
    agrees (plain.word w) l ws = refl
    agrees (plain.hole kind number) l ws = on_option (v.hole kind number) (v'.hole kind number) (λ w e. ap (λ f. f kind number) holes ∙ e)
    agrees (plain.load e n) l ws = on_then _ _ _ _ (agrees e l ws) (λ a. on_option (v.word ((a + n) % 2 ^ 64)) (v'.word ((a + n) % 2 ^ 64)) (λ w x. ap (λ f. f ((a + n) % 2 ^ 64)) words ∙ x))
    agrees (plain.byte e) l ws = on_then _ _ _ _ (agrees e l ws) (λ a. on_option (v.byte a) (v'.byte a) (λ w x. ap (λ f. f a) bytes ∙ x))
    agrees (plain.binary o left right) l ws = on_then _ _ _ _ (agrees left l.0 ws) (λ a. on_then _ _ _ _ (agrees right l.1 ws) (λ b. refl))
    agrees (plain.choice e first other) l ws = on_then _ _ _ _ (agrees e l.0 ws) (λ c. on_bool (c == 0) _ _ _ _ (agrees first l.1 ws) (agrees other l.2 ws))
    agrees (plain.check e trap value) l ws = on_then _ _ _ _ (agrees e l.0 ws) (λ c. on_bool (c == 0) _ _ _ _ (agrees value l.1 ws) (same (Raises trap)))
    agrees (plain.binding es e) l ws = all_agree es l.0 ws [] (meant v e) (meant v' e) (agrees e l.1)
    agrees (plain.bound n) l ws = same _

    pub all_agree : (es : Exprs) → AllWithin base es → (ws new : List ℕ) (f f' : List ℕ → Value) → ((ws : List ℕ) → Agree (f ws) (f' ws)) → Agree (binds v es ws new f) (binds v' es ws new f')
    all_agree no_exprs l ws new f f' h = h new
    all_agree (expr_and x es) l ws new f f' h = on_then _ _ _ _ (agrees x l.0 ws) (λ w. all_agree es l.1 ws (new ++ w ∷ []) f f' h)
