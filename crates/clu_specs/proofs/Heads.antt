-- Types at the front of a text: what is written of a type of the grammar is read again.
use Rattle.std.proofs.Common.{◌≡◌, ℕ, suc, Bool, true, false, not, ◌||◌, ◌&&◌, ◌==◌, List, [], ◌∷◌, ◌++◌, codes, Option, Some, None, Ok, refl, sym, ap, subst, ◌∙◌, append_assoc}
use Rattle.std.proofs.lemmas.Bool.{or_left, and_parts, not-true, both_ways, ne_eqb}
use Rattle.clu_types.specs.CluType.{CluType, null_type, bool_type, int_type, char_type, string_type, any_type, stream_type, array_of, sequence_of, record_of, struct_of, oneof_of, variant_of, proc_of, iter_of, cluster_of, parameter, CluTypes, no_types, type_and, Fields, no_fields, field_and, Signals, no_signals, signal_and, Actuals, no_actuals, actual_type, actual_const, actual_param}
use Rattle.clu_specs.specs.declared.keywords.Keyword.TheVariants as keyword
use Rattle.clu_specs.specs.declared.keywords.Simple.TheVariants as simple
use Rattle.clu_specs.specs.declared.keywords.Listing.TheVariants as listing
use Rattle.clu_specs.specs.declared.keywords.Selecting.TheVariants as selecting
use Rattle.clu_specs.specs.declared.scope.Scope.{Scope}
use Rattle.clu_specs.specs.Reading.{Read, behind, begins_with, several, go_on}
use Rattle.clu_specs.specs.Names.{begins_name, goes_on_name, is_named, word_len}
use Rattle.clu_specs.specs.Keywords.{keyword_of}
use Rattle.clu_specs.specs.Texts.{type_text, all_actuals_text}
use Rattle.clu_specs.specs.TypeReading.{types_joined, fields_joined, signals_joined, actuals_joined}
use Rattle.clu_specs.specs.Grammar.{IsType}

-- what may follow a type: no byte of a name, and no [ (91)
abbrev pub is_stop : List ℕ → Bool
is_stop [] = true
is_stop (b ∷ bytes) = not (goes_on_name b) && not (b == 91)

pub stop_word : (rest : List ℕ) → is_stop rest ≡ true → word_len rest ≡ 0
stop_word [] e = refl
stop_word (b ∷ rest) e = rw (not-true (goes_on_name b) (and_parts (not (goes_on_name b)) (not (b == 91)) e).0) refl

pub stop_bracket : (rest : List ℕ) → is_stop rest ≡ true → behind 91 rest ≡ None
stop_bracket [] e = refl
stop_bracket (b ∷ rest) e = rw (not-true (b == 91) (and_parts (not (goes_on_name b)) (not (b == 91)) e).1) refl

-- one list after another after a third
pub types_joined_assoc : (a b c : CluTypes) → types_joined (types_joined a b) c ≡ types_joined a (types_joined b c)
types_joined_assoc no_types b c = refl
types_joined_assoc (type_and t a) b c = ap (type_and t) (types_joined_assoc a b c)

pub fields_joined_assoc : (a b c : Fields) → fields_joined (fields_joined a b) c ≡ fields_joined a (fields_joined b c)
fields_joined_assoc no_fields b c = refl
fields_joined_assoc (field_and n t a) b c = ap (field_and n t) (fields_joined_assoc a b c)

pub signals_joined_assoc : (a b c : Signals) → signals_joined (signals_joined a b) c ≡ signals_joined a (signals_joined b c)
signals_joined_assoc no_signals b c = refl
signals_joined_assoc (signal_and n ts a) b c = ap (signal_and n ts) (signals_joined_assoc a b c)

pub actuals_joined_assoc : (a b c : Actuals) → actuals_joined (actuals_joined a b) c ≡ actuals_joined a (actuals_joined b c)
actuals_joined_assoc no_actuals b c = refl
actuals_joined_assoc (actual_type t a) b c = ap (actual_type t) (actuals_joined_assoc a b c)
actuals_joined_assoc (actual_const k a) b c = ap (actual_const k) (actuals_joined_assoc a b c)
actuals_joined_assoc (actual_param n a) b c = ap (actual_param n) (actuals_joined_assoc a b c)

pub types_joined_none : (a : CluTypes) → types_joined a no_types ≡ a
types_joined_none no_types = refl
types_joined_none (type_and t a) = ap (type_and t) (types_joined_none a)

pub fields_joined_none : (a : Fields) → fields_joined a no_fields ≡ a
fields_joined_none no_fields = refl
fields_joined_none (field_and n t a) = ap (field_and n t) (fields_joined_none a)

pub signals_joined_none : (a : Signals) → signals_joined a no_signals ≡ a
signals_joined_none no_signals = refl
signals_joined_none (signal_and n ts a) = ap (signal_and n ts) (signals_joined_none a)

pub actuals_joined_none : (a : Actuals) → actuals_joined a no_actuals ≡ a
actuals_joined_none no_actuals = refl
actuals_joined_none (actual_type t a) = ap (actual_type t) (actuals_joined_none a)
actuals_joined_none (actual_const k a) = ap (actual_const k) (actuals_joined_none a)
actuals_joined_none (actual_param n a) = ap (actual_param n) (actuals_joined_none a)

-- a turn over a row, and its end
module _ {A : Type 0} (step : A → List ℕ → Read A) (next : A → List ℕ → Option (List ℕ)) where
  -- what comes after an item
  abbrev pub behind_item : ℕ → A → List ℕ → Read A
  behind_item n made bytes = go_on (next made bytes) (made, bytes) (λ rest. several step next n made rest)

  pub item : (n : ℕ) (made more : A) (bytes after : List ℕ) → step made bytes ≡ Ok (more, after) → several step next (suc n) made bytes ≡ behind_item n more after
  unfolding several
  item n made more bytes after s = rw s refl

-- the words of types
pub null_word : keyword_of (codes "null") ≡ Some (keyword.Simple simple.Null)
unfolding keyword_of
null_word = refl

pub bool_word : keyword_of (codes "bool") ≡ Some (keyword.Simple simple.Bool)
unfolding keyword_of
bool_word = refl

pub int_word : keyword_of (codes "int") ≡ Some (keyword.Simple simple.Int)
unfolding keyword_of
int_word = refl

pub char_word : keyword_of (codes "char") ≡ Some (keyword.Simple simple.Char)
unfolding keyword_of
char_word = refl

pub string_word : keyword_of (codes "string") ≡ Some (keyword.Simple simple.Str)
unfolding keyword_of
string_word = refl

pub any_word : keyword_of (codes "any") ≡ Some (keyword.Simple simple.Any)
unfolding keyword_of
any_word = refl

pub stream_word : keyword_of (codes "stream") ≡ Some (keyword.Simple simple.Stream)
unfolding keyword_of
stream_word = refl

pub array_word : keyword_of (codes "array") ≡ Some (keyword.Listing listing.Array)
unfolding keyword_of
array_word = refl

pub sequence_word : keyword_of (codes "sequence") ≡ Some (keyword.Listing listing.Sequence)
unfolding keyword_of
sequence_word = refl

pub record_word : keyword_of (codes "record") ≡ Some (keyword.Selecting selecting.Record)
unfolding keyword_of
record_word = refl

pub struct_word : keyword_of (codes "struct") ≡ Some (keyword.Selecting selecting.Struct)
unfolding keyword_of
struct_word = refl

pub oneof_word : keyword_of (codes "oneof") ≡ Some (keyword.Selecting selecting.Oneof)
unfolding keyword_of
oneof_word = refl

pub variant_word : keyword_of (codes "variant") ≡ Some (keyword.Selecting selecting.Variant)
unfolding keyword_of
variant_word = refl

pub proctype_word : keyword_of (codes "proctype") ≡ Some (keyword.Routine false)
unfolding keyword_of
proctype_word = refl

pub itertype_word : keyword_of (codes "itertype") ≡ Some (keyword.Routine true)
unfolding keyword_of
itertype_word = refl

-- the first byte of a type: # or one that begins a name
abbrev pub is_head : ℕ → Bool
is_head b = begins_name b || b == 35

pub record Head (bytes : List ℕ) : Type 0 where
  pub first : ℕ
  pub others : List ℕ
  pub whole : bytes ≡ first ∷ others
  pub is : is_head first ≡ true

pub head_of_name : (name rest : List ℕ) → is_named name ≡ true → Head (name ++ rest)
head_of_name [] rest e = absurd (cc)
head_of_name (b ∷ name) rest e = record { first = b; others = name ++ rest; whole = refl; is = or_left (begins_name b) (b == 35) e }

headed : (first : ℕ) (others : List ℕ) → is_head first ≡ true → Head (first ∷ others)
headed first others e = record { first = first; others = others; whole = refl; is = e }

module _ (scope : Scope) where
  pub head_of : (t : CluType) (rest : List ℕ) → IsType scope t → Head (type_text t ++ rest)
  head_of null_type rest h = headed _ _ refl
  head_of bool_type rest h = headed _ _ refl
  head_of int_type rest h = headed _ _ refl
  head_of char_type rest h = headed _ _ refl
  head_of string_type rest h = headed _ _ refl
  head_of any_type rest h = headed _ _ refl
  head_of stream_type rest h = headed _ _ refl
  head_of (array_of t) rest h = headed _ _ refl
  head_of (sequence_of t) rest h = headed _ _ refl
  head_of (record_of fs) rest h = headed _ _ refl
  head_of (struct_of fs) rest h = headed _ _ refl
  head_of (oneof_of fs) rest h = headed _ _ refl
  head_of (variant_of fs) rest h = headed _ _ refl
  head_of (proc_of args results signals) rest h = headed _ _ refl
  head_of (iter_of args results signals) rest h = headed _ _ refl
  head_of (cluster_of name given) rest h = subst Head (sym (append_assoc name (all_actuals_text given) rest)) (head_of_name name (all_actuals_text given ++ rest) h.0.begins)
  head_of (parameter n) rest h = headed _ _ refl

-- what begins a type is no mark
pub head_differs : (b m : ℕ) → is_head b ≡ true → is_head m ≡ false → (b == m) ≡ false
head_differs b m h n = ne_eqb b m (λ e. both_ways (is_head m) n (sym (ap is_head e) ∙ h))

pub head_no_mark : (m : ℕ) (bytes : List ℕ) → Head bytes → is_head m ≡ false → behind m bytes ≡ None
head_no_mark m bytes h n = ap (behind m) h.whole ∙ rw (head_differs h.first m h.is n) refl

pub stop_begins : (m : ℕ) (rest : List ℕ) → is_stop rest ≡ true → goes_on_name m ≡ true → begins_with m rest ≡ false
stop_begins m [] e g = refl
stop_begins m (b ∷ rest) e g =
    let no_name : goes_on_name b ≡ false = not-true (goes_on_name b) (and_parts (not (goes_on_name b)) (not (b == 91)) e).0 in
    ne_eqb b m (λ same. both_ways (goes_on_name m) (sym (ap goes_on_name same) ∙ no_name) g)
