-- Uses: what was read is of the grammar, and spelled by the bytes that were read.
use Rattle.std.proofs.Common.{◌≡◌, ℕ, ◌==◌, List, [], ◌∷◌, ◌++◌, length, codes, Ok, if◌then◌else◌, refl, ap, subst, ◌∙◌, append-nil, inl, inr}
use Rattle.std.specs.Str.{bytes_eq}
use Rattle.clu_base.proofs.Lists.{same_bytes}
use Rattle.clu_types.specs.CluType.{CluType, cluster_of}
use Rattle.clu_specs.specs.Reading.{◌>>=◌, literal_at, end_at}
use Rattle.clu_specs.specs.Names.{first_word, behind_word, name_after}
use Rattle.clu_specs.specs.Scopes.{any_scope}
use Rattle.clu_specs.specs.Texts.{type_text}
use Rattle.clu_specs.specs.TypeReading.{type_read}
use Rattle.clu_specs.specs.Seen.{Used, a_module, use_text}
use Rattle.clu_specs.specs.UseReading.{module_of, operation_seen, operation_read, whole_use}
use Rattle.clu_specs.specs.declared.read_uses.Operation.{Operation}
use Rattle.clu_specs.specs.declared.read_uses.Operation.TheVariants as operation
use Rattle.clu_specs.specs.Grammar.{IsType, IsUse}
use Rattle.clu_specs.proofs.Outcomes.{and_then, ok_same, either, literal_spelled, none_left, ended_spelled}
use Rattle.clu_specs.proofs.Spelled.{word_spelled, name_read}
use Rattle.clu_specs.proofs.ActualsSpelled.{type_spelled}

word_alone : (bytes word : List ℕ) → first_word bytes ≡ word → behind_word bytes ≡ [] → bytes ≡ word
word_alone bytes word f b = word_spelled bytes ∙ ap (λ (x : List ℕ). x ++ behind_word bytes) f ∙ ap (λ (x : List ℕ). word ++ x) b ∙ append-nil word

module_spelled : (t : CluType) (u : Used) → IsType any_scope t → module_of t ≡ Ok u → IsUse u × (type_text t ≡ use_text u)
module_spelled (cluster_of name given) u is e =
    let made : Used = a_module name given in
    subst (λ (x : Used). IsUse x × (type_text (cluster_of name given) ≡ use_text x)) (ok_same (Ok made) made u refl e) (is, refl)
module_spelled _ u is e = absurd (cc)

operation_spelled : (t : CluType) (bytes : List ℕ) (op : Operation) → IsType any_scope t → operation_read bytes ≡ Ok op → IsUse (operation_seen t op) × (type_text t ++ bytes ≡ use_text (operation_seen t op))
unfolding operation_read
operation_spelled t bytes op is e =
    let a = and_then (literal_at (36 ∷ []) bytes) (λ (rest : List ℕ).
    if bytes_eq (first_word rest) (codes "own") then end_at operation.Own (behind_word rest) else
    if bytes_eq (first_word rest) (codes "force") then end_at operation.Force (behind_word rest) else
    name_after [] 204 rest >>= λ name. end_at (operation.Named name.0) name.1) op e in
    let rest : List ℕ = a.0 in
    let mark : bytes ≡ 36 ∷ rest = literal_spelled (36 ∷ []) bytes rest a.1 in
    let given : (x : Operation) (text : List ℕ) → IsUse (operation_seen t x) → rest ≡ text → type_text t ++ 36 ∷ text ≡ use_text (operation_seen t x) → x ≡ op → IsUse (operation_seen t op) × (type_text t ++ bytes ≡ use_text (operation_seen t op)) = λ x text made whole shown same.
    subst (λ (y : Operation). IsUse (operation_seen t y) × (type_text t ++ bytes ≡ use_text (operation_seen t y))) same (made, ap (λ (y : List ℕ). type_text t ++ y) (mark ∙ ap (λ (y : List ℕ). 36 ∷ y) whole) ∙ shown) in
    elim (either (bytes_eq (first_word rest) (codes "own")) (end_at operation.Own (behind_word rest))
    (if bytes_eq (first_word rest) (codes "force") then end_at operation.Force (behind_word rest) else name_after [] 204 rest >>= λ name. end_at (operation.Named name.0) name.1) (Ok op) a.2) [
      | inl h ↦ (let ended = ended_spelled operation.Own (behind_word rest) op h.1 in
          given operation.Own (codes "own") is (word_alone rest (codes "own") (same_bytes (first_word rest) (codes "own") h.0) ended.1) refl ended.0)
      | inr h ↦ elim (either (bytes_eq (first_word rest) (codes "force")) (end_at operation.Force (behind_word rest)) (name_after [] 204 rest >>= λ name. end_at (operation.Named name.0) name.1) (Ok op) h.1) [
        | inl q ↦ (let ended = ended_spelled operation.Force (behind_word rest) op q.1 in
            given operation.Force (codes "force") is (word_alone rest (codes "force") (same_bytes (first_word rest) (codes "force") q.0) ended.1) refl ended.0)
        | inr q ↦ (let b = and_then (name_after [] 204 rest) (λ (name : List ℕ × List ℕ). end_at (operation.Named name.0) name.1) op q.1 in
            let named = name_read [] 204 rest b.0.0 b.0.1 b.1 in
            let ended = ended_spelled (operation.Named b.0.0) b.0.1 op b.2 in
            given (operation.Named b.0.0) b.0.0 (is, named.is) (named.spelled ∙ ap (λ (x : List ℕ). b.0.0 ++ x) ended.1 ∙ append-nil b.0.0) refl ended.0)
      ]
    ]

pub whole_use_spelled : (bytes : List ℕ) (u : Used) → whole_use bytes ≡ Ok u → IsUse u × (bytes ≡ use_text u)
unfolding whole_use
whole_use_spelled bytes u e =
    let h = and_then (type_read any_scope (length bytes) bytes) (λ (t : CluType × List ℕ). if length t.1 == 0 then module_of t.0 else (operation_read t.1 >>= λ op. Ok (operation_seen t.0 op))) u e in
    let t : CluType = h.0.0 in
    let read = type_spelled any_scope (length bytes) bytes t h.0.1 h.1 in
    elim (either (length h.0.1 == 0) (module_of t) (operation_read h.0.1 >>= λ op. Ok (operation_seen t op)) (Ok u) h.2) [
      | inl q ↦ (let m = module_spelled t u read.is q.1 in (m.0, read.spelled ∙ ap (λ (x : List ℕ). type_text t ++ x) (none_left h.0.1 q.0) ∙ append-nil (type_text t) ∙ m.1))
      | inr q ↦ (let g = and_then (operation_read h.0.1) (λ (op : Operation). Ok (operation_seen t op)) u q.1 in
          let o = operation_spelled t h.0.1 g.0 read.is g.1 in
          subst (λ (x : Used). IsUse x × (bytes ≡ use_text x)) (ok_same (Ok (operation_seen t g.0)) (operation_seen t g.0) u refl g.2) (o.0, read.spelled ∙ o.1))
    ]
