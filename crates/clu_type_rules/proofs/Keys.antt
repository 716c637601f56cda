-- That `==` of the keys of needs and of what asks decides.
use Rattle.std.proofs.Common.{◌≡◌, ◌==◌, ℕ, Bool, true, true≢false, Option, Some, None, unwrap_or, refl, sym, ap, ap₂}
use Rattle.std.specs.Bool.{Decides}
use Rattle.std.specs.Option.{option_eq}
use Rattle.std.proofs.lemmas.Bool.Decides.{Decides-like, Decides-and, Decides-eqb}
use Rattle.std.proofs.lemmas.Option.{none-some}
use Rattle.clu_types.specs.declared.term.TypeId.{TypeId}
use Rattle.clu_types.proofs.Equality.{same_id}
use Rattle.clu_operations.specs.declared.found.FoundId.{FoundId}
use Rattle.clu_operations.specs.declared.words.NameId.{NameId}
use Rattle.clu_type_rules.specs.declared.unmet.Asker.{Asker}
use Rattle.clu_type_rules.specs.declared.unmet.Clauses.{Clauses}
use Rattle.clu_type_rules.specs.declared.unmet.Need.{Need}
use Rattle.clu_type_rules.specs.contracts.unmet.ClausesPartialEq.TheImpl as clauses
use Rattle.clu_type_rules.specs.Askers.{same_asker}
use Rattle.clu_type_rules.specs.Needs.{same_need}

join3 : {A B C D : Type 0} (f : A → B → C → D) {a a' : A} {b b' : B} {c c' : C} → a ≡ a' → b ≡ b' → c ≡ c' → f a b c ≡ f a' b' c'
join3 f p q r = cc

join4 : {A B C D E : Type 0} (f : A → B → C → D → E) {a a' : A} {b b' : B} {c c' : C} {d d' : D} → a ≡ a' → b ≡ b' → c ≡ c' → d ≡ d' → f a b c d ≡ f a' b' c' d'
join4 f p q r s = cc

number_decided : (a b : Option ℕ) → Decides (option_eq (λ (x y : ℕ). x == y) a b) (a ≡ b)
number_decided None None = (λ _. refl, λ _. refl)
number_decided None (Some w) = (λ e. absurd (true≢false (sym e)), λ e. absurd (none-some w e))
number_decided (Some v) None = (λ e. absurd (true≢false (sym e)), λ e. absurd (none-some v (sym e)))
number_decided (Some v) (Some w) = (λ e. ap Some ((Decides-eqb v w).0 e), λ e. (Decides-eqb v w).1 (ap (λ u. unwrap_or u v) e))

abbrev pub same_clauses : Clauses → Clauses → Bool
same_clauses = (clauses.ghosts).eq

clauses_decided : (a b : Clauses) → Decides (same_clauses a b) (a ≡ b)
clauses_decided a b =
    Decides-like _ (λ e. join3 (λ (x y z : Option ℕ). let c : Clauses = record { routine = x; cluster = y; set = z } in c) e.0 e.1.0 e.1.1)
    (λ e. (ap (λ (c : Clauses). c.routine) e, (ap (λ (c : Clauses). c.cluster) e, ap (λ (c : Clauses). c.set) e)))
    (Decides-and _ _ (number_decided a.routine b.routine) (Decides-and _ _ (number_decided a.cluster b.cluster) (number_decided a.set b.set)))

pub clauses_equal : (a b : Clauses) → same_clauses a b ≡ true → a ≡ b
clauses_equal a b e = (clauses_decided a b).0 e

pub clauses_self : (a : Clauses) → same_clauses a a ≡ true
clauses_self a = (clauses_decided a a).1 refl

name_decided : (a b : NameId) → Decides (a.0 == b.0) (a ≡ b)
name_decided a b = Decides-like _ (ap (λ (n : ℕ). let id : NameId = record { 0 = n } in id)) (ap (λ (id : NameId). id.0)) (Decides-eqb a.0 b.0)

found_decided : (a b : FoundId) → Decides (a.0 == b.0) (a ≡ b)
found_decided a b = Decides-like _ (ap (λ (n : ℕ). let id : FoundId = record { 0 = n } in id)) (ap (λ (id : FoundId). id.0)) (Decides-eqb a.0 b.0)

need_decided : (a b : Need) → Decides (same_need a b) (a ≡ b)
need_decided a b =
    Decides-like _ (λ e. join4 (λ (x : TypeId) (n : NameId) (y : TypeId) (u : Clauses). let c : Need = record { of = x; operation = n; wanted = y; under = u } in c) e.0 e.1.0 e.1.1.0 e.1.1.1)
    (λ e. (ap (λ (c : Need). c.of) e, (ap (λ (c : Need). c.operation) e, (ap (λ (c : Need). c.wanted) e, ap (λ (c : Need). c.under) e))))
    (Decides-and _ _ (same_id a.of b.of) (Decides-and _ _ (name_decided a.operation b.operation) (Decides-and _ _ (same_id a.wanted b.wanted) (clauses_decided a.under b.under))))

pub need_equal : (a b : Need) → same_need a b ≡ true → a ≡ b
need_equal a b e = (need_decided a b).0 e

asker_decided : (a b : Asker) → Decides (same_asker a b) (a ≡ b)
asker_decided a b =
    Decides-like _ (λ e. ap₂ (λ (x : FoundId) (u : Clauses). let c : Asker = record { found = x; under = u } in c) e.0 e.1)
    (λ e. (ap (λ (c : Asker). c.found) e, ap (λ (c : Asker). c.under) e))
    (Decides-and _ _ (found_decided a.found b.found) (clauses_decided a.under b.under))

pub asker_equal : (a b : Asker) → same_asker a b ≡ true → a ≡ b
asker_equal a b e = (asker_decided a b).0 e
