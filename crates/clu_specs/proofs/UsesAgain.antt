-- Uses: what is written of one is read again.
use Rattle.std.proofs.Common.{◌≡◌, ℕ, ◌≤◌, true, List, [], ◌∷◌, ◌++◌, length, codes, Ok, refl, sym, ap, ◌∙◌, arith, length-append, append-nil}
use Rattle.std.proofs.lemmas.Bool.{ne_eqb}
use Rattle.clu_types.specs.CluType.{CluType, cluster_of}
use Rattle.clu_specs.specs.Reading.{literal_at}
use Rattle.clu_specs.specs.Names.{word_len, first_word, is_reserved, name_after}
use Rattle.clu_specs.specs.Scopes.{any_scope}
use Rattle.clu_specs.specs.Texts.{type_text}
use Rattle.clu_specs.specs.TypeReading.{type_read}
use Rattle.clu_specs.specs.Seen.{Used, a_module, an_operation, own_set_up, force_of, use_text}
use Rattle.clu_specs.specs.UseReading.{operation_seen, operation_read, whole_use}
use Rattle.clu_specs.specs.declared.read_uses.Operation.{Operation}
use Rattle.clu_specs.specs.declared.read_uses.Operation.TheVariants as operation
use Rattle.clu_specs.specs.Grammar.{IsName, IsType, IsUse}
use Rattle.clu_specs.proofs.Words.{word_first, name_again}
use Rattle.clu_specs.proofs.ActualsAgain.{differs_from}
use Rattle.clu_specs.proofs.TypesAgain.{type_again, any_has, before_any}

reserved_own : is_reserved (codes "own") ≡ true
unfolding is_reserved
reserved_own = refl

reserved_force : is_reserved (codes "force") ≡ true
unfolding is_reserved
reserved_force = refl

word_alone : (name : List ℕ) → word_len name ≡ length name → first_word name ≡ name
word_alone name e = ap first_word (sym (append-nil name)) ∙ word_first name [] e refl

name_alone : (name : List ℕ) (limit : ℕ) → IsName limit name → name_after [] limit name ≡ Ok (name, [])
name_alone name limit is = ap (name_after [] limit) (sym (append-nil name)) ∙ name_again [] name [] limit is (before_any name is.begins) refl

operation_again : (name : List ℕ) → IsName 204 name → operation_read (36 ∷ name) ≡ Ok (operation.Named name)
unfolding operation_read literal_at
operation_again name is =
    rw (word_alone name is.goes_on, differs_from name (codes "own") is.free reserved_own, differs_from name (codes "force") is.free reserved_force, name_alone name 204 is) refl

own_again : operation_read (codes "$own") ≡ Ok operation.Own
unfolding operation_read literal_at
own_again = refl

force_again : operation_read (codes "$force") ≡ Ok operation.Force
unfolding operation_read literal_at
force_again = refl

-- a type, and what stands after it
use_by : (t : CluType) (bytes behind_type : List ℕ) (op : Operation) → IsType any_scope t → bytes ≡ type_text t ++ 36 ∷ behind_type → operation_read (36 ∷ behind_type) ≡ Ok op → whole_use bytes ≡ Ok (operation_seen t op)
unfolding whole_use
use_by t bytes behind_type op h e r =
    let long : length (type_text t) ≤ length bytes = omega (arith, ap length e, length-append (type_text t) (36 ∷ behind_type)) in
    let read : type_read any_scope (length bytes) bytes ≡ Ok (t, 36 ∷ behind_type) = ap (type_read any_scope (length bytes)) e ∙ type_again any_scope any_has t h (length bytes) long (36 ∷ behind_type) refl in
    rw (read, ne_eqb (length (36 ∷ behind_type)) 0 (λ z. absurd (omega (arith, z))), r) refl

pub use_again : (u : Used) (bytes : List ℕ) → IsUse u → bytes ≡ use_text u → whole_use bytes ≡ Ok u
unfolding whole_use
use_again (a_module name given) bytes h e =
    let t : CluType = cluster_of name given in
    let read : type_read any_scope (length bytes) bytes ≡ Ok (t, []) =
    ap (type_read any_scope (length bytes)) (e ∙ sym (append-nil (type_text t))) ∙ type_again any_scope any_has t h (length bytes) (omega (arith, ap length e)) [] refl in
    rw read refl
use_again (an_operation t name) bytes h e = use_by t bytes name (operation.Named name) h.0 e (operation_again name h.1)
use_again (own_set_up t) bytes h e = use_by t bytes (codes "own") operation.Own h e own_again
use_again (force_of t) bytes h e = use_by t bytes (codes "force") operation.Force h e force_again
