-- Types: what is written of a type of the grammar is read again, whatever may follow it.
use Rattle.std.proofs.Common.{◌≡◌, ℕ, zero, suc, ◌+◌, ◌≤◌, nat_le, Bool, true, false, List, [], ◌∷◌, ◌++◌, length, codes, decimal, Some, None, Ok, refl, sym, ap, ◌∙◌, arith, length-append, append_assoc, append-nil}
use Rattle.std.proofs.lemmas.Bool.{ne_eqb, both_ways}
use Rattle.clu_types.specs.CluType.{CluType, null_type, bool_type, int_type, char_type, string_type, any_type, stream_type, array_of, sequence_of, record_of, struct_of, oneof_of, variant_of, proc_of, iter_of, cluster_of, parameter, CluTypes, no_types, type_and, Fields, no_fields, field_and, Signals, no_signals, signal_and, Actuals, no_actuals, actual_type, actual_const, actual_param}
use Rattle.clu_specs.specs.declared.keywords.Keyword.{Keyword}
use Rattle.clu_specs.specs.declared.keywords.Keyword.TheVariants as keyword
use Rattle.clu_specs.specs.declared.keywords.Simple.{Simple}
use Rattle.clu_specs.specs.declared.keywords.Simple.TheVariants as simple
use Rattle.clu_specs.specs.declared.keywords.Listing.{Listing}
use Rattle.clu_specs.specs.declared.keywords.Listing.TheVariants as listing
use Rattle.clu_specs.specs.declared.keywords.Selecting.{Selecting}
use Rattle.clu_specs.specs.declared.keywords.Selecting.TheVariants as selecting
use Rattle.clu_specs.specs.declared.scope.Sort.{Sort}
use Rattle.clu_specs.specs.declared.scope.Sort.TheVariants as sort
use Rattle.clu_specs.specs.declared.scope.Scope.{Scope}
use Rattle.clu_specs.specs.Reading.{Read, behind, literal_at}
use Rattle.clu_specs.specs.Names.{begins_name, is_named, is_before, word_len, first_word}
use Rattle.clu_specs.specs.Keywords.{keyword_of}
use Rattle.clu_specs.specs.Scopes.{names, last_in, any_scope}
use Rattle.clu_specs.specs.Constants.{constant_text}
use Rattle.clu_specs.specs.Texts.{type_text, types_text, more_types_text, closed_text, fields_text, more_fields_text, more_signals_text, all_signals_text, more_actuals_text, all_actuals_text, heading_text, results_word}
use Rattle.clu_specs.specs.TypeReading.{Reader, simple_type, listing_type, selecting_type, routine_type, type_read, one_type_by, word_type_by, keyword_type_read, cluster_type_read, fields_read, whole_type}
use Rattle.clu_specs.specs.Grammar.{IsName, IsParameter, HasFields, IsType, AreTypes, AreFields, AreSignals, AreActuals}
use Rattle.clu_specs.proofs.Words.{word_first, word_behind, name_again}
use Rattle.clu_specs.proofs.Decimals.{ended, parameter_again}
use Rattle.clu_specs.proofs.Heads.{is_stop, stop_word, null_word, bool_word, int_word, char_word, string_word, any_word, stream_word, array_word, sequence_word, record_word, struct_word, oneof_word, variant_word, proctype_word, itertype_word}
use Rattle.clu_specs.proofs.Lists.{Again, AllTypes, AllFields, AllSignals, fields_again, heading_again}
use Rattle.clu_specs.proofs.ActualsAgain.{AllActuals, all_actuals_again, actuals_stop}

name_no_hash : (name rest : List ℕ) → is_named name ≡ true → behind 35 (name ++ rest) ≡ None
name_no_hash [] rest e = absurd (cc)
name_no_hash (b ∷ name) rest e = rw (ne_eqb b 35 (λ same. both_ways (begins_name 35) refl (sym (ap begins_name same) ∙ e))) refl

named_long : (name : List ℕ) → is_named name ≡ true → 1 ≤ length name
named_long [] e = absurd (cc)
named_long (b ∷ name) e = omega arith

pub before_any : (name : List ℕ) → is_named name ≡ true → is_before [] name ≡ true
before_any [] e = absurd (cc)
before_any (b ∷ name) e = refl

types_fewer : (ts : CluTypes) → length (more_types_text ts) ≤ suc (length (types_text ts))
types_fewer no_types = omega arith
types_fewer (type_and t ts) = omega arith

closed_fewer : (word : List ℕ) (ts : CluTypes) → length (more_types_text ts) ≤ length (closed_text word ts)
closed_fewer word no_types = omega arith
closed_fewer word (type_and t ts) = omega (arith, length-append word ((type_text t ++ more_types_text ts) ++ 41 ∷ []), length-append (type_text t ++ more_types_text ts) (41 ∷ []))

fields_fewer : (fs : Fields) → length (more_fields_text fs) ≤ suc (length (fields_text fs))
fields_fewer no_fields = omega arith
fields_fewer (field_and name t fs) = omega arith

signals_fewer : (ss : Signals) → length (more_signals_text ss) ≤ length (all_signals_text ss)
signals_fewer no_signals = omega arith
signals_fewer (signal_and name ts ss) = omega (arith, length-append ((name ++ closed_text (40 ∷ []) ts) ++ more_signals_text ss) (41 ∷ []))

actuals_fewer : (given : Actuals) → length (more_actuals_text given) ≤ length (all_actuals_text given)
actuals_fewer no_actuals = omega arith
actuals_fewer (actual_type t given) = omega (arith, length-append (type_text t ++ more_actuals_text given) (93 ∷ []))
actuals_fewer (actual_const c given) = omega (arith, length-append (constant_text c ++ more_actuals_text given) (93 ∷ []))
actuals_fewer (actual_param n given) = omega (arith, length-append ((37 ∷ decimal n) ++ more_actuals_text given) (93 ∷ []))

-- how long the parts of a heading are, with a comma for each
pub heading_parts : (iter : Bool) (args results : CluTypes) (signals : Signals) → length (more_types_text args) + length (more_types_text results) + length (more_signals_text signals) ≤ length (heading_text iter args results signals)
heading_parts iter args results signals =
    let r : List ℕ = closed_text (results_word iter) results in
    let s : List ℕ = all_signals_text signals in
    omega (arith, types_fewer args, closed_fewer (results_word iter) results, signals_fewer signals, length-append (types_text args) (41 ∷ (r ++ s)), length-append r s)

module _ (scope : Scope) (has : (of : Sort) (n : ℕ) → names scope of n ≡ true → nat_le 1 (last_in scope of) ≡ true) where
  -- with a word of its own
  begins_by : (d : ℕ) (word rest : List ℕ) (k : Keyword) (read : Read CluType) → word_len word ≡ length word → word_len rest ≡ 0 → keyword_of word ≡ Some k → behind 35 (word ++ rest) ≡ None
      → keyword_type_read scope (type_read scope d) k rest ≡ read → type_read scope (suc d) (word ++ rest) ≡ read
  unfolding type_read one_type_by word_type_by
  begins_by d word rest k read w r e none h =
      let first : keyword_of (first_word (word ++ rest)) ≡ Some k = ap keyword_of (word_first word rest w r) ∙ e in
      rw (none, first, word_behind word rest w r) h

  module _ (part : Reader CluType) where
    simple_by : (word : Simple) (rest : List ℕ) → keyword_type_read scope part (keyword.Simple word) rest ≡ Ok (simple_type word, rest)
    unfolding keyword_type_read
    simple_by word rest = refl

    listing_by : (word : Listing) (t : CluType) (rest : List ℕ) → Again scope part t → keyword_type_read scope part (keyword.Listing word) (91 ∷ ((type_text t ++ 93 ∷ []) ++ rest)) ≡ Ok (listing_type word t, rest)
    unfolding keyword_type_read literal_at
    listing_by word t rest again =
        let read : part ((type_text t ++ 93 ∷ []) ++ rest) ≡ Ok (t, 93 ∷ rest) = ap part (append_assoc (type_text t) (93 ∷ []) rest) ∙ again (93 ∷ rest) refl in
        rw read refl

    selecting_by : (word : Selecting) (fs : Fields) (rest : List ℕ) → HasFields fs → AreFields scope [] fs → AllFields scope part fs
        → keyword_type_read scope part (keyword.Selecting word) (91 ∷ ((fields_text fs ++ 93 ∷ []) ++ rest)) ≡ Ok (selecting_type word fs, rest)
    unfolding keyword_type_read literal_at
    selecting_by word fs rest has are all =
        let read : fields_read part ((fields_text fs ++ 93 ∷ []) ++ rest) ≡ Ok (fs, 93 ∷ rest) = ap (fields_read part) (append_assoc (fields_text fs) (93 ∷ []) rest) ∙ fields_again scope part fs rest has are all in
        rw read refl

    routine_by : (iter : Bool) (args results : CluTypes) (signals : Signals) (rest : List ℕ) → AreTypes scope args → AreSignals scope [] signals → AllTypes scope part args → AllTypes scope part results → AllSignals scope part signals → is_stop rest ≡ true
        → keyword_type_read scope part (keyword.Routine iter) (heading_text iter args results signals ++ rest) ≡ Ok (routine_type iter args results signals, rest)
    unfolding keyword_type_read
    routine_by iter args results signals rest a s all_args all_results all_signals stop = rw (heading_again scope part iter args results signals rest a s all_args all_results all_signals stop) refl

  cluster_by : (d : ℕ) (name rest : List ℕ) (given : Actuals) → IsName 200 name → keyword_of name ≡ None → AreActuals scope given → AllActuals scope (type_read scope d) has given → is_stop rest ≡ true
      → type_read scope (suc d) ((name ++ all_actuals_text given) ++ rest) ≡ Ok (cluster_of name given, rest)
  unfolding type_read one_type_by word_type_by cluster_type_read
  cluster_by d name rest given is free are all stop =
      let behind_name : List ℕ = all_actuals_text given ++ rest in
      let none : behind 35 (name ++ behind_name) ≡ None = name_no_hash name behind_name is.begins in
      let first : keyword_of (first_word (name ++ behind_name)) ≡ None = ap keyword_of (word_first name behind_name is.goes_on (actuals_stop given rest stop)) ∙ free in
      ap (type_read scope (suc d)) (append_assoc name (all_actuals_text given) rest)
      ∙ rw (none, first, name_again [] name behind_name 200 is (before_any name is.begins) (actuals_stop given rest stop), all_actuals_again scope (type_read scope d) has given rest are all stop) refl

  parameter_by : (d n : ℕ) (rest : List ℕ) → IsParameter scope sort.Type n → is_stop rest ≡ true → type_read scope (suc d) ((35 ∷ decimal n) ++ rest) ≡ Ok (parameter n, rest)
  unfolding type_read one_type_by
  parameter_by d n rest is stop = rw (parameter_again scope sort.Type n (35 ∷ (decimal n ++ rest)) rest is (has sort.Type n is.named) (ended rest (stop_word rest stop))) refl

  mutual
    pub type_again : (t : CluType) → IsType scope t → (d : ℕ) → length (type_text t) ≤ d → Again scope (type_read scope d) t
    type_again null_type h zero le rest stop = absurd (omega (arith, le))
    type_again null_type h (suc d) le rest stop = begins_by d (codes "null") rest (keyword.Simple simple.Null) (Ok (null_type, rest)) refl (stop_word rest stop) null_word refl (simple_by (type_read scope d) simple.Null rest)
    type_again bool_type h zero le rest stop = absurd (omega (arith, le))
    type_again bool_type h (suc d) le rest stop = begins_by d (codes "bool") rest (keyword.Simple simple.Bool) (Ok (bool_type, rest)) refl (stop_word rest stop) bool_word refl (simple_by (type_read scope d) simple.Bool rest)
    type_again int_type h zero le rest stop = absurd (omega (arith, le))
    type_again int_type h (suc d) le rest stop = begins_by d (codes "int") rest (keyword.Simple simple.Int) (Ok (int_type, rest)) refl (stop_word rest stop) int_word refl (simple_by (type_read scope d) simple.Int rest)
    type_again char_type h zero le rest stop = absurd (omega (arith, le))
    type_again char_type h (suc d) le rest stop = begins_by d (codes "char") rest (keyword.Simple simple.Char) (Ok (char_type, rest)) refl (stop_word rest stop) char_word refl (simple_by (type_read scope d) simple.Char rest)
    type_again string_type h zero le rest stop = absurd (omega (arith, le))
    type_again string_type h (suc d) le rest stop = begins_by d (codes "string") rest (keyword.Simple simple.Str) (Ok (string_type, rest)) refl (stop_word rest stop) string_word refl (simple_by (type_read scope d) simple.Str rest)
    type_again any_type h zero le rest stop = absurd (omega (arith, le))
    type_again any_type h (suc d) le rest stop = begins_by d (codes "any") rest (keyword.Simple simple.Any) (Ok (any_type, rest)) refl (stop_word rest stop) any_word refl (simple_by (type_read scope d) simple.Any rest)
    type_again stream_type h zero le rest stop = absurd (omega (arith, le))
    type_again stream_type h (suc d) le rest stop = begins_by d (codes "stream") rest (keyword.Simple simple.Stream) (Ok (stream_type, rest)) refl (stop_word rest stop) stream_word refl (simple_by (type_read scope d) simple.Stream rest)
    type_again (array_of t) h zero le rest stop = absurd (omega (arith, le))
    type_again (array_of t) h (suc d) le rest stop =
        begins_by d (codes "array") (91 ∷ ((type_text t ++ 93 ∷ []) ++ rest)) (keyword.Listing listing.Array) (Ok (array_of t, rest)) refl refl array_word refl
        (listing_by (type_read scope d) listing.Array t rest (type_again t h d (omega (arith, le, length-append (type_text t) (93 ∷ [])))))
    type_again (sequence_of t) h zero le rest stop = absurd (omega (arith, le))
    type_again (sequence_of t) h (suc d) le rest stop =
        begins_by d (codes "sequence") (91 ∷ ((type_text t ++ 93 ∷ []) ++ rest)) (keyword.Listing listing.Sequence) (Ok (sequence_of t, rest)) refl refl sequence_word refl
        (listing_by (type_read scope d) listing.Sequence t rest (type_again t h d (omega (arith, le, length-append (type_text t) (93 ∷ [])))))
    type_again (record_of fs) h zero le rest stop = absurd (omega (arith, le))
    type_again (record_of fs) h (suc d) le rest stop =
        begins_by d (codes "record") (91 ∷ ((fields_text fs ++ 93 ∷ []) ++ rest)) (keyword.Selecting selecting.Record) (Ok (record_of fs, rest)) refl refl record_word refl
        (selecting_by (type_read scope d) selecting.Record fs rest h.0 h.1 (fields_all fs [] h.1 d (omega (arith, le, fields_fewer fs, length-append (fields_text fs) (93 ∷ [])))))
    type_again (struct_of fs) h zero le rest stop = absurd (omega (arith, le))
    type_again (struct_of fs) h (suc d) le rest stop =
        begins_by d (codes "struct") (91 ∷ ((fields_text fs ++ 93 ∷ []) ++ rest)) (keyword.Selecting selecting.Struct) (Ok (struct_of fs, rest)) refl refl struct_word refl
        (selecting_by (type_read scope d) selecting.Struct fs rest h.0 h.1 (fields_all fs [] h.1 d (omega (arith, le, fields_fewer fs, length-append (fields_text fs) (93 ∷ [])))))
    type_again (oneof_of fs) h zero le rest stop = absurd (omega (arith, le))
    type_again (oneof_of fs) h (suc d) le rest stop =
        begins_by d (codes "oneof") (91 ∷ ((fields_text fs ++ 93 ∷ []) ++ rest)) (keyword.Selecting selecting.Oneof) (Ok (oneof_of fs, rest)) refl refl oneof_word refl
        (selecting_by (type_read scope d) selecting.Oneof fs rest h.0 h.1 (fields_all fs [] h.1 d (omega (arith, le, fields_fewer fs, length-append (fields_text fs) (93 ∷ [])))))
    type_again (variant_of fs) h zero le rest stop = absurd (omega (arith, le))
    type_again (variant_of fs) h (suc d) le rest stop =
        begins_by d (codes "variant") (91 ∷ ((fields_text fs ++ 93 ∷ []) ++ rest)) (keyword.Selecting selecting.Variant) (Ok (variant_of fs, rest)) refl refl variant_word refl
        (selecting_by (type_read scope d) selecting.Variant fs rest h.0 h.1 (fields_all fs [] h.1 d (omega (arith, le, fields_fewer fs, length-append (fields_text fs) (93 ∷ [])))))
    type_again (proc_of args results signals) h zero le rest stop = absurd (omega (arith, le))
    type_again (proc_of args results signals) h (suc d) le rest stop =
        let len = heading_parts false args results signals in
        begins_by d (codes "proctype") (heading_text false args results signals ++ rest) (keyword.Routine false) (Ok (proc_of args results signals, rest)) refl refl proctype_word refl
        (routine_by (type_read scope d) false args results signals rest h.0 h.2 (types_all args h.0 d (omega (arith, le, len))) (types_all results h.1 d (omega (arith, le, len))) (signals_all signals [] h.2 d (omega (arith, le, len))) stop)
    type_again (iter_of args results signals) h zero le rest stop = absurd (omega (arith, le))
    type_again (iter_of args results signals) h (suc d) le rest stop =
        let len = heading_parts true args results signals in
        begins_by d (codes "itertype") (heading_text true args results signals ++ rest) (keyword.Routine true) (Ok (iter_of args results signals, rest)) refl refl itertype_word refl
        (routine_by (type_read scope d) true args results signals rest h.0 h.2 (types_all args h.0 d (omega (arith, le, len))) (types_all results h.1 d (omega (arith, le, len))) (signals_all signals [] h.2 d (omega (arith, le, len))) stop)
    type_again (cluster_of name given) h zero le rest stop = absurd (omega (arith, le, named_long name h.0.begins, length-append name (all_actuals_text given)))
    type_again (cluster_of name given) h (suc d) le rest stop =
        cluster_by d name rest given h.0 h.1 h.2 (actuals_all given h.2 d (omega (arith, le, named_long name h.0.begins, actuals_fewer given, length-append name (all_actuals_text given)))) stop
    type_again (parameter n) h zero le rest stop = absurd (omega (arith, le))
    type_again (parameter n) h (suc d) le rest stop = parameter_by d n rest h stop

    pub types_all : (ts : CluTypes) → AreTypes scope ts → (d : ℕ) → length (more_types_text ts) ≤ suc d → AllTypes scope (type_read scope d) ts
    types_all no_types h d le = tt
    types_all (type_and t ts) h d le = (
      type_again t h.0 d (omega (arith, le, length-append (type_text t) (more_types_text ts))),
      types_all ts h.1 d (omega (arith, le, length-append (type_text t) (more_types_text ts))),
    )

    fields_all : (fs : Fields) (before : List ℕ) → AreFields scope before fs → (d : ℕ) → length (more_fields_text fs) ≤ suc d → AllFields scope (type_read scope d) fs
    fields_all no_fields before h d le = tt
    fields_all (field_and name t fs) before h d le =
        let len = length-append (name ++ 58 ∷ type_text t) (more_fields_text fs) in
        let name_len = length-append name (58 ∷ type_text t) in
        (type_again t h.2 d (omega (arith, le, len, name_len)), fields_all fs name h.3 d (omega (arith, le, len)))

    pub signals_all : (ss : Signals) (before : List ℕ) → AreSignals scope before ss → (d : ℕ) → length (more_signals_text ss) ≤ suc d → AllSignals scope (type_read scope d) ss
    signals_all no_signals before h d le = tt
    signals_all (signal_and name ts ss) before h d le =
        let len = length-append (name ++ closed_text (40 ∷ []) ts) (more_signals_text ss) in
        let name_len = length-append name (closed_text (40 ∷ []) ts) in
        (types_all ts h.3 d (omega (arith, le, len, name_len, closed_fewer (40 ∷ []) ts)), signals_all ss name h.4 d (omega (arith, le, len)))

    actuals_all : (given : Actuals) → AreActuals scope given → (d : ℕ) → length (more_actuals_text given) ≤ suc d → AllActuals scope (type_read scope d) has given
    actuals_all no_actuals h d le = tt
    actuals_all (actual_type t given) h d le = (
      type_again t h.0 d (omega (arith, le, length-append (type_text t) (more_actuals_text given))),
      actuals_all given h.1 d (omega (arith, le, length-append (type_text t) (more_actuals_text given))),
    )
    actuals_all (actual_const c given) h d le = actuals_all given h.1 d (omega (arith, le, length-append (constant_text c) (more_actuals_text given)))
    actuals_all (actual_param n given) h d le = actuals_all given h.1 d (omega (arith, le, length-append (37 ∷ decimal n) (more_actuals_text given)))

-- read alone
pub any_has : (of : Sort) (n : ℕ) → names any_scope of n ≡ true → nat_le 1 (last_in any_scope of) ≡ true
any_has sort.Type n e = refl
any_has sort.Constant n e = refl

pub whole_again : (t : CluType) (bytes : List ℕ) → IsType any_scope t → bytes ≡ type_text t → whole_type bytes ≡ Ok t
unfolding whole_type
whole_again t bytes h e =
    let read : type_read any_scope (length bytes) bytes ≡ Ok (t, []) =
    ap (type_read any_scope (length bytes)) (e ∙ sym (append-nil (type_text t))) ∙ type_again any_scope any_has t h (length bytes) (omega (arith, ap length e)) [] refl in
    rw read refl
