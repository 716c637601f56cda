-- Each step of reading takes some bytes.
use Rattle.std.proofs.Common.{◌≡◌, ℕ, suc, ◌+◌, ◌*◌, ◌-◌, ◌<◌, ◌≤◌, Bool, true, false, not, ◌&&◌, ◌==◌, if◌then◌else◌, List, [], ◌∷◌, length, codes, decimal, Option, Some, None, Result, Ok, Err, refl, sym, ap, ◌∙◌, arith, length-append, inl, inr}
use Rattle.clu_base.specs.declared.constants.Const.{Const}
use Rattle.clu_types.specs.CluType.{CluType, CluTypes, no_types, Fields, Actuals}
use Rattle.clu_specs.specs.declared.keywords.Selecting.{Selecting}
use Rattle.clu_specs.specs.declared.keywords.Keyword.{Keyword}
use Rattle.clu_specs.specs.declared.keywords.Keyword.TheVariants as keyword
use Rattle.clu_specs.specs.declared.actuals.Lead.{Lead}
use Rattle.clu_specs.specs.declared.scope.Sort.TheVariants as sort
use Rattle.clu_specs.specs.declared.scope.Scope.{Scope}
use Rattle.clu_specs.specs.Reading.{◌>>=◌, Read, literal_at, behind, begins_with}
use Rattle.clu_specs.specs.Names.{has_later, name_after, first_word, behind_word}
use Rattle.clu_specs.specs.Keywords.{keyword_of}
use Rattle.clu_specs.specs.Constants.{word_constant}
use Rattle.clu_specs.specs.Scopes.{parameter_at}
use Rattle.clu_specs.specs.TypeReading.{actuals_joined, next_after, signal_name_after, lead_of, is_marked, marked_actual_read}
use Rattle.clu_specs.specs.Pending.{SignalsMade, Waiting, element, field, argument, outcome, object, given, Reached, item, signals_begun, results_begun, arguments_begun, keyword_begun, actuals_begun, cluster_begun, word_begun, field_ended, argument_ended, result_ended, with_signal, signal_ended, signal_made, object_ended, actual_ended, resumed, with_name, objects_begun, signal_begun, type_begun_by, type_begun, word_actual_begun, actual_begun, item_begun}
use Rattle.clu_specs.proofs.Outcomes.{and_then, not_refused, either, literal_spelled, behind_spelled}
use Rattle.clu_specs.proofs.Spelled.{word_spelled, parameter_read}
use Rattle.clu_specs.proofs.Local.{left_of}
use Rattle.clu_specs.proofs.LocalNames.{name_consumes}
use Rattle.clu_specs.proofs.LocalActuals.{marked_bound}

-- how much is left to do: an item counts one beside the bytes, since its front may be empty
abbrev pub weight : Reached → ℕ
weight (item w) = 1
weight _ = 0

abbrev pub cost : Reached → List ℕ → ℕ
cost reached bytes = 2 * length bytes + weight reached

abbrev pub Falls : ℕ → Read Reached → Type 0
Falls n (Ok x) = cost x.0 x.1 < n
Falls n (Err left) = Unit {0}

falls_more : (m n : ℕ) (r : Read Reached) → m ≤ n → Falls m r → Falls n r
falls_more m n (Ok x) le f = omega (arith, le, f)
falls_more m n (Err left) le f = tt

falls_bind : {A : Type 0} (n : ℕ) (r : Result A ℕ) (f : A → Read Reached) → ((x : A) → r ≡ Ok x → Falls n (f x)) → Falls n (r >>= f)
falls_bind n (Ok x) f h = h x refl
falls_bind n (Err left) f h = tt

falls_if : (n : ℕ) (c : Bool) (r s : Read Reached) → Falls n r → Falls n s → Falls n (if c then r else s)
falls_if n true r s p q = p
falls_if n false r s p q = q

literal_takes : (fixed bytes rest : List ℕ) → literal_at fixed bytes ≡ Ok rest → length bytes ≡ length fixed + length rest
literal_takes fixed bytes rest e = ap length (literal_spelled fixed bytes rest e) ∙ length-append fixed rest

mark_takes : (mark : ℕ) (bytes rest : List ℕ) → literal_at (mark ∷ []) bytes ≡ Ok rest → length bytes ≡ suc (length rest)
mark_takes mark bytes rest e = ap length (literal_spelled (mark ∷ []) bytes rest e)

behind_takes : (mark : ℕ) (bytes rest : List ℕ) → behind mark bytes ≡ Some rest → length bytes ≡ suc (length rest)
behind_takes mark bytes rest e = ap length (behind_spelled mark bytes rest e)

next_takes : (name bytes rest : List ℕ) → next_after name bytes ≡ Some rest → length bytes ≡ suc (length rest)
next_takes name bytes rest e = elim (either (has_later name) (behind 44 bytes) None (Some rest) e) [
  | inl h ↦ behind_takes 44 bytes rest h.1
  | inr h ↦ absurd (cc)
]

name_takes : (previous bytes name rest : List ℕ) → name_after previous 200 bytes ≡ Ok (name, rest) → suc (length rest) ≤ length bytes
name_takes previous bytes name rest e = omega (arith, name_consumes previous 200 bytes (name, rest) e)

signal_name_takes : (previous bytes name rest : List ℕ) → signal_name_after previous bytes ≡ Ok (name, rest) → suc (length rest) ≤ length bytes
unfolding signal_name_after
signal_name_takes previous bytes name rest e =
    let h = and_then (name_after previous 200 bytes) _ (name, rest) e in
    let g = not_refused _ _ (Ok h.0) (name, rest) h.2 in
    let same : h.0 ≡ (name, rest) = cc in
    name_takes previous bytes name rest (h.1 ∙ ap (λ (x : List ℕ × List ℕ). Ok x) same)

word_left : (bytes : List ℕ) → length bytes ≡ length (first_word bytes) + length (behind_word bytes)
word_left bytes = ap length (word_spelled bytes) ∙ length-append (first_word bytes) (behind_word bytes)

keyword_some : (word : List ℕ) (k : Keyword) → keyword_of word ≡ Some k → 0 < length word
unfolding keyword_of
keyword_some [] k e = absurd (cc)
keyword_some (b ∷ word) k e = omega arith

-- what an option of the bytes after a mark takes
abbrev Takes : Option (List ℕ) → List ℕ → Type 0
Takes o bytes = (rest : List ℕ) → o ≡ Some rest → length bytes ≡ suc (length rest)

signals_falls : (iter : Bool) (args results : CluTypes) (bytes : List ℕ) → Falls (2 * length bytes + 2) (signals_begun iter args results bytes)
unfolding signals_begun
signals_falls iter args results bytes = falls_if _ (begins_with 115 bytes) _ _
    (falls_bind _ (literal_at (codes "signals(") bytes) _ (λ rest e. omega (arith, literal_takes (codes "signals(") bytes rest e)))
    (omega arith)

results_falls : (iter : Bool) (args : CluTypes) (bytes : List ℕ) → Falls (2 * length bytes + 2) (results_begun iter args bytes)
unfolding results_begun
results_falls iter args bytes = falls_if _ (iter && begins_with 121 bytes) _ _
    (falls_bind _ (literal_at (codes "yields(") bytes) _ (λ rest e. omega (arith, literal_takes (codes "yields(") bytes rest e)))
    (falls_if _ (not iter && begins_with 114 bytes) _ _
    (falls_bind _ (literal_at (codes "returns(") bytes) _ (λ rest e. omega (arith, literal_takes (codes "returns(") bytes rest e)))
    (signals_falls iter args no_types bytes))

arguments_falls : (iter : Bool) (o : Option (List ℕ)) (bytes : List ℕ) → Takes o bytes → Falls (2 * length bytes + 2) (arguments_begun iter o bytes)
unfolding arguments_begun
arguments_falls iter None bytes t = omega arith
arguments_falls iter (Some rest) bytes t = falls_more (2 * length rest + 2) (2 * length bytes + 2) (results_begun iter no_types rest) (omega (arith, t rest refl)) (results_falls iter no_types rest)

keyword_falls : (word : Keyword) (bytes : List ℕ) → Falls (2 * length bytes + 2) (keyword_begun word bytes)
unfolding keyword_begun
keyword_falls (keyword.Simple word) bytes = omega arith
keyword_falls (keyword.Listing word) bytes = falls_bind _ (literal_at (91 ∷ []) bytes) _ (λ rest e. omega (arith, mark_takes 91 bytes rest e))
keyword_falls (keyword.Selecting word) bytes = falls_bind _ (literal_at (91 ∷ []) bytes) _ (λ rest e. omega (arith, mark_takes 91 bytes rest e))
keyword_falls (keyword.Routine iter) bytes = falls_bind _ (literal_at (40 ∷ []) bytes) _ (λ rest e.
    falls_more (2 * length rest + 2) (2 * length bytes + 2) (arguments_begun iter (behind 41 rest) rest) (omega (arith, mark_takes 40 bytes rest e)) (arguments_falls iter (behind 41 rest) rest (behind_takes 41 rest)))

actuals_falls : (name : List ℕ) (o : Option (List ℕ)) (bytes : List ℕ) → Takes o bytes → Falls (2 * length bytes + 2) (actuals_begun name o bytes)
unfolding actuals_begun
actuals_falls name None bytes t = omega arith
actuals_falls name (Some rest) bytes t = omega (arith, t rest refl)

word_falls : (o : Option Keyword) (bytes : List ℕ) → keyword_of (first_word bytes) ≡ o → Falls (2 * length bytes) (word_begun o bytes)
unfolding word_begun cluster_begun
word_falls None bytes e = falls_bind _ (name_after [] 200 bytes) _ (λ name e.
    falls_more (2 * length name.1 + 2) (2 * length bytes) (actuals_begun name.0 (behind 91 name.1) name.1) (omega (arith, name_takes [] bytes name.0 name.1 e)) (actuals_falls name.0 (behind 91 name.1) name.1 (behind_takes 91 name.1)))
word_falls (Some k) bytes e =
    falls_more (2 * length (behind_word bytes) + 2) (2 * length bytes) (keyword_begun k (behind_word bytes)) (omega (arith, word_left bytes, keyword_some (first_word bytes) k e)) (keyword_falls k (behind_word bytes))

type_falls_by : (scope : Scope) (o : Option (List ℕ)) (bytes : List ℕ) → behind 35 bytes ≡ o → Falls (2 * length bytes) (type_begun_by scope o bytes)
unfolding type_begun_by
type_falls_by scope None bytes e = word_falls (keyword_of (first_word bytes)) bytes refl
type_falls_by scope (Some rest) bytes e = falls_bind _ (parameter_at scope sort.Type bytes rest) _ (λ n h.
    (let read = parameter_read scope sort.Type bytes rest n.0 n.1 h in
    omega (arith, behind_takes 35 bytes rest e, ap length read.spelled, length-append (decimal n.0) n.1)))

pub type_falls : (scope : Scope) (bytes : List ℕ) → Falls (2 * length bytes) (type_begun scope bytes)
type_falls scope bytes = type_falls_by scope (behind 35 bytes) bytes refl

signal_ended_falls : (s : SignalsMade) (o : Option (List ℕ)) (bytes : List ℕ) → Takes o bytes → Falls (2 * length bytes) (signal_ended s o bytes)
unfolding signal_ended
signal_ended_falls s None bytes t = falls_bind _ (literal_at (41 ∷ []) bytes) _ (λ rest e. omega (arith, mark_takes 41 bytes rest e))
signal_ended_falls s (Some rest) bytes t = omega (arith, t rest refl)

signal_made_falls : (s : SignalsMade) (objects : CluTypes) (bytes : List ℕ) → Falls (2 * length bytes) (signal_made s objects bytes)
signal_made_falls s objects bytes = signal_ended_falls (with_signal s objects) (next_after s.name bytes) bytes (next_takes s.name bytes)

actual_ended_falls : (name : List ℕ) (left : ℕ) (made : Actuals) (o : Option (List ℕ)) (bytes : List ℕ) → Takes o bytes → Falls (2 * length bytes) (actual_ended name left made o bytes)
unfolding actual_ended
actual_ended_falls name left made None bytes t = falls_bind _ (literal_at (93 ∷ []) bytes) _ (λ rest e. omega (arith, mark_takes 93 bytes rest e))
actual_ended_falls name left made (Some rest) bytes t = omega (arith, t rest refl)

field_ended_falls : (word : Selecting) (left : ℕ) (made : Fields) (name : List ℕ) (o : Option (List ℕ)) (bytes : List ℕ) → Takes o bytes → Falls (2 * length bytes) (field_ended word left made name o bytes)
unfolding field_ended
field_ended_falls word left made name None bytes t = falls_bind _ (literal_at (93 ∷ []) bytes) _ (λ rest e. omega (arith, mark_takes 93 bytes rest e))
field_ended_falls word left made name (Some rest) bytes t = omega (arith, t rest refl)

argument_ended_falls : (iter : Bool) (left : ℕ) (made : CluTypes) (o : Option (List ℕ)) (bytes : List ℕ) → Takes o bytes → Falls (2 * length bytes) (argument_ended iter left made o bytes)
unfolding argument_ended
argument_ended_falls iter left made None bytes t = falls_bind _ (literal_at (41 ∷ []) bytes) _ (λ rest e.
    falls_more (2 * length rest + 2) (2 * length bytes) (results_begun iter made rest) (omega (arith, mark_takes 41 bytes rest e)) (results_falls iter made rest))
argument_ended_falls iter left made (Some rest) bytes t = omega (arith, t rest refl)

result_ended_falls : (iter : Bool) (args : CluTypes) (left : ℕ) (made : CluTypes) (o : Option (List ℕ)) (bytes : List ℕ) → Takes o bytes → Falls (2 * length bytes) (result_ended iter args left made o bytes)
unfolding result_ended
result_ended_falls iter args left made None bytes t = falls_bind _ (literal_at (41 ∷ []) bytes) _ (λ rest e.
    falls_more (2 * length rest + 2) (2 * length bytes) (signals_begun iter args made rest) (omega (arith, mark_takes 41 bytes rest e)) (signals_falls iter args made rest))
result_ended_falls iter args left made (Some rest) bytes t = omega (arith, t rest refl)

object_ended_falls : (s : SignalsMade) (left : ℕ) (made : CluTypes) (o : Option (List ℕ)) (bytes : List ℕ) → Takes o bytes → Falls (2 * length bytes) (object_ended s left made o bytes)
unfolding object_ended
object_ended_falls s left made None bytes t = falls_bind _ (literal_at (41 ∷ []) bytes) _ (λ rest e.
    falls_more (2 * length rest) (2 * length bytes) (signal_made s made rest) (omega (arith, mark_takes 41 bytes rest e)) (signal_made_falls s made rest))
object_ended_falls s left made (Some rest) bytes t = omega (arith, t rest refl)

pub resumed_falls : (w : Waiting) (t : CluType) (bytes : List ℕ) → Falls (2 * length bytes) (resumed w t bytes)
unfolding resumed
resumed_falls (element word) t bytes = falls_bind _ (literal_at (93 ∷ []) bytes) _ (λ rest e. omega (arith, mark_takes 93 bytes rest e))
resumed_falls (field word left made name) t bytes = field_ended_falls word left _ name (next_after name bytes) bytes (next_takes name bytes)
resumed_falls (argument iter left made) t bytes = argument_ended_falls iter left _ (behind 44 bytes) bytes (behind_takes 44 bytes)
resumed_falls (outcome iter args left made) t bytes = result_ended_falls iter args left _ (behind 44 bytes) bytes (behind_takes 44 bytes)
resumed_falls (object s left made) t bytes = object_ended_falls s left _ (behind 44 bytes) bytes (behind_takes 44 bytes)
resumed_falls (given name left made) t bytes = actual_ended_falls name left _ (behind 44 bytes) bytes (behind_takes 44 bytes)

objects_falls : (s : SignalsMade) (o : Option (List ℕ)) (bytes : List ℕ) → Takes o bytes → Falls (2 * length bytes + 2) (objects_begun s o bytes)
unfolding objects_begun
objects_falls s None bytes t = falls_more (2 * length bytes) (2 * length bytes + 2) (signal_made s no_types bytes) (omega arith) (signal_made_falls s no_types bytes)
objects_falls s (Some rest) bytes t = omega (arith, t rest refl)

pub signal_falls : (s : SignalsMade) (bytes : List ℕ) → Falls (2 * length bytes) (signal_begun s bytes)
unfolding signal_begun
signal_falls s bytes = falls_if _ (s.left == 0) (Err (length bytes)) _ tt
    (falls_bind _ (signal_name_after s.name bytes) _ (λ name e.
    falls_more (2 * length name.1 + 2) (2 * length bytes) (objects_begun (with_name s name.0) (behind 40 name.1) name.1) (omega (arith, signal_name_takes s.name bytes name.0 name.1 e)) (objects_falls (with_name s name.0) (behind 40 name.1) name.1 (behind_takes 40 name.1))))

word_actual_falls : (scope : Scope) (name : List ℕ) (left : ℕ) (made : Actuals) (o : Option Const) (bytes : List ℕ) → Falls (2 * length bytes + 1) (word_actual_begun name left made o bytes)
unfolding word_actual_begun
word_actual_falls scope name left made None bytes = omega arith
word_actual_falls scope name left made (Some c) bytes =
    falls_more (2 * length (behind_word bytes)) (2 * length bytes + 1) (actual_ended name left _ (behind 44 (behind_word bytes)) (behind_word bytes)) (omega (arith, word_left bytes)) (actual_ended_falls name left _ (behind 44 (behind_word bytes)) (behind_word bytes) (behind_takes 44 (behind_word bytes)))

actual_falls : (scope : Scope) (name : List ℕ) (left : ℕ) (made : Actuals) (of : Lead) (bytes : List ℕ) → Falls (2 * length bytes + 1) (actual_begun scope name left made of bytes)
unfolding actual_begun
actual_falls scope name left made of bytes = falls_if _ (is_marked of) _ _
    (falls_bind _ (marked_actual_read scope of bytes) _ (λ a e.
    (let shorter : length a.1 ≤ length bytes = omega (arith, ap left_of (sym e), marked_bound scope of bytes) in
    falls_more (2 * length a.1) (2 * length bytes + 1) (actual_ended name left (actuals_joined made a.0) (behind 44 a.1) a.1) (omega (arith, shorter)) (actual_ended_falls name left _ (behind 44 a.1) a.1 (behind_takes 44 a.1)))))
    (word_actual_falls scope name left made (word_constant (first_word bytes)) bytes)

pub item_falls : (scope : Scope) (w : Waiting) (bytes : List ℕ) → Falls (2 * length bytes + 1) (item_begun scope w bytes)
unfolding item_begun
item_falls scope (element word) bytes = omega arith
item_falls scope (field word left made previous) bytes = falls_if _ (left == 0) (Err (length bytes)) _ tt
    (falls_bind _ (name_after previous 200 bytes) _ (λ name e. falls_bind _ (literal_at (58 ∷ []) name.1) _ (λ rest h. omega (arith, name_takes previous bytes name.0 name.1 e, mark_takes 58 name.1 rest h))))
item_falls scope (argument iter left made) bytes = falls_if _ (left == 0) (Err (length bytes)) _ tt (omega arith)
item_falls scope (outcome iter args left made) bytes = falls_if _ (left == 0) (Err (length bytes)) _ tt (omega arith)
item_falls scope (object s left made) bytes = falls_if _ (left == 0) (Err (length bytes)) _ tt (omega arith)
item_falls scope (given name left made) bytes = falls_if _ (left == 0) (Err (length bytes)) _ tt (actual_falls scope name (left - 1) made (lead_of bytes) bytes)
