-- Uses: where one is refused, the bytes before that begin one of the grammar.
use Rattle.std.proofs.Common.{◌≡◌, ℕ, ◌==◌, true, List, [], ◌∷◌, ◌++◌, length, codes, Ok, Err, if◌then◌else◌, refl, sym, ap, ◌∙◌, arith, append-nil, inl, inr}
use Rattle.std.specs.Str.{bytes_eq}
use Rattle.std.proofs.lemmas.Bool.{eqb-true}
use Rattle.clu_base.proofs.Lists.{same_bytes}
use Rattle.clu_types.specs.CluType.{CluType, cluster_of}
use Rattle.clu_specs.specs.Reading.{◌>>=◌, literal_at, end_at}
use Rattle.clu_specs.specs.Names.{first_word, behind_word, name_after}
use Rattle.clu_specs.specs.Scopes.{any_scope}
use Rattle.clu_specs.specs.Texts.{type_text}
use Rattle.clu_specs.specs.TypeReading.{type_read}
use Rattle.clu_specs.specs.Seen.{Used, a_module, an_operation, own_set_up, force_of, use_text}
use Rattle.clu_specs.specs.UseReading.{module_of, operation_seen, operation_read, whole_use}
use Rattle.clu_specs.specs.declared.read_uses.Operation.{Operation}
use Rattle.clu_specs.specs.declared.read_uses.Operation.TheVariants as operation
use Rattle.clu_specs.specs.Grammar.{IsType, IsUse}
use Rattle.clu_specs.proofs.Outcomes.{either, literal_spelled}
use Rattle.clu_specs.proofs.Spelled.{word_spelled, name_read}
use Rattle.clu_specs.proofs.ActualsSpelled.{type_spelled}
use Rattle.clu_specs.proofs.Fronts.{Front, Fronts, same_left, never, front_on, front_as, and_fails, shown, shown_on, shown_before, literal_front, ended_front}
use Rattle.clu_specs.proofs.FrontsNames.{earlier_none, name_front}
use Rattle.clu_specs.proofs.FrontsNumbers.{any_leads}
use Rattle.clu_specs.proofs.FrontsActuals.{type_front}

-- a use goes on from the bytes
pub record UseBegun (q : List ℕ) : Type 0 where
  pub u : Used
  pub rest : List ℕ
  pub is : IsUse u
  pub spelled : use_text u ≡ q ++ rest

module_left : (t : CluType) (left : ℕ) → module_of t ≡ Err left → 0 ≡ left
module_left (cluster_of name given) left e = absurd (never (a_module name given) left e)
module_left _ left e = same_left {A = Used} (Err 0) 0 left refl e

module _ (t : CluType) (is : IsType any_scope t) where
  -- after the type
  abbrev Behind : List ℕ → Type 0
  Behind q = UseBegun (type_text t ++ q)

  -- after the $
  named_front : (rest : List ℕ) (left : ℕ) → (name_after [] 204 rest >>= λ name. end_at (operation.Named name.0) name.1) ≡ Err left → Front (λ q. Behind (36 ∷ q)) rest left
  named_front rest left e =
      elim (and_fails (name_after [] 204 rest) (λ (name : List ℕ × List ℕ). end_at (operation.Named name.0) name.1) left e) [
        | inl h ↦ front_as rest left (name_front [] 204 (omega arith) earlier_none rest left h)
            (λ q n. record { u = an_operation t n.name; rest = n.rest; is = (is, n.is); spelled = shown_on (type_text t) (36 ∷ n.name) (36 ∷ q) n.rest (ap (λ (y : List ℕ). 36 ∷ y) n.spelled) })
        | inr h ↦ (let named = name_read [] 204 rest h.0.0 h.0.1 h.1 in
            record {
              front = h.0.0;
              back = h.0.1;
              whole = named.spelled;
              rest = ended_front (operation.Named h.0.0) h.0.1 left h.2;
              begun = record { u = an_operation t h.0.0; rest = []; is = (is, named.is); spelled = sym (append-nil (type_text t ++ 36 ∷ h.0.0)) };
            })
      ]

  word_front : (rest word : List ℕ) (u : Used) (op : Operation) (left : ℕ) → IsUse u → use_text u ≡ type_text t ++ 36 ∷ word → bytes_eq (first_word rest) word ≡ true → end_at op (behind_word rest) ≡ Err left → Front (λ q. Behind (36 ∷ q)) rest left
  word_front rest word u op left made text same e = record {
    front = word;
    back = behind_word rest;
    whole = word_spelled rest ∙ ap (λ (x : List ℕ). x ++ behind_word rest) (same_bytes (first_word rest) word same);
    rest = ended_front op (behind_word rest) left e;
    begun = record { u = u; rest = []; is = made; spelled = text ∙ sym (append-nil (type_text t ++ 36 ∷ word)) };
  }

  marked_front : (rest : List ℕ) (left : ℕ) → (if bytes_eq (first_word rest) (codes "own") then end_at operation.Own (behind_word rest) else if bytes_eq (first_word rest) (codes "force") then end_at operation.Force (behind_word rest) else name_after [] 204 rest >>= λ name. end_at (operation.Named name.0) name.1) ≡ Err left
      → Front (λ q. Behind (36 ∷ q)) rest left
  marked_front rest left e =
      elim (either (bytes_eq (first_word rest) (codes "own")) (end_at operation.Own (behind_word rest))
      (if bytes_eq (first_word rest) (codes "force") then end_at operation.Force (behind_word rest) else name_after [] 204 rest >>= λ name. end_at (operation.Named name.0) name.1) (Err left) e) [
        | inl h ↦ word_front rest (codes "own") (own_set_up t) operation.Own left is refl h.0 h.1
        | inr h ↦ elim (either (bytes_eq (first_word rest) (codes "force")) (end_at operation.Force (behind_word rest)) (name_after [] 204 rest >>= λ name. end_at (operation.Named name.0) name.1) (Err left) h.1) [
          | inl g ↦ word_front rest (codes "force") (force_of t) operation.Force left is refl g.0 g.1
          | inr g ↦ named_front rest left g.1
        ]
      ]

  operation_front : (bytes : List ℕ) (left : ℕ) → operation_read bytes ≡ Err left → Front Behind bytes left
  unfolding operation_read
  operation_front bytes left e =
      elim (and_fails (literal_at (36 ∷ []) bytes) (λ (rest : List ℕ).
      if bytes_eq (first_word rest) (codes "own") then end_at operation.Own (behind_word rest) else
      if bytes_eq (first_word rest) (codes "force") then end_at operation.Force (behind_word rest) else
      name_after [] 204 rest >>= λ name. end_at (operation.Named name.0) name.1) left e) [
        | inl h ↦ front_as bytes left (literal_front (36 ∷ []) bytes left h) (λ q x. record { u = own_set_up t; rest = x.0 ++ codes "own"; is = is; spelled = shown (type_text t) (36 ∷ []) (codes "own") q x.0 x.1 })
        | inr h ↦ front_on (36 ∷ []) bytes h.0 left (literal_spelled (36 ∷ []) bytes h.0 h.1) (marked_front h.0 left h.2) (λ q x. x)
      ]

-- read alone
pub whole_use_front : Fronts UseBegun whole_use
unfolding whole_use
whole_use_front bytes left e =
    elim (and_fails (type_read any_scope (length bytes) bytes) (λ (t : CluType × List ℕ). if length t.1 == 0 then module_of t.0 else (operation_read t.1 >>= λ op. Ok (operation_seen t.0 op))) left e) [
      | inl h ↦ front_as bytes left (type_front any_scope any_leads (length bytes) bytes left h) (λ q x. record { u = own_set_up x.t; rest = x.rest ++ codes "$own"; is = x.is; spelled = shown_before (type_text x.t) (codes "$own") q x.rest x.spelled })
      | inr h ↦ (let t : CluType = h.0.0 in
          let read = type_spelled any_scope (length bytes) bytes t h.0.1 h.1 in
          elim (either (length h.0.1 == 0) (module_of t) (operation_read h.0.1 >>= λ op. Ok (operation_seen t op)) (Err left) h.2) [
            | inl g ↦ record {
              front = type_text t;
              back = h.0.1;
              whole = read.spelled;
              rest = eqb-true (length h.0.1) 0 g.0 ∙ module_left t left g.1;
              begun = record { u = own_set_up t; rest = codes "$own"; is = read.is; spelled = refl };
            }
            | inr g ↦ elim (and_fails (operation_read h.0.1) (λ (op : Operation). Ok (operation_seen t op)) left g.1) [
              | inl k ↦ front_on (type_text t) bytes h.0.1 left read.spelled (operation_front t read.is h.0.1 left k) (λ q x. x)
              | inr k ↦ absurd (never (operation_seen t k.0) left k.2)
            ]
          ])
    ]
