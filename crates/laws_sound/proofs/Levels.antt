-- At each level statements end as they may, and routines that are called well give objects of their headings' results.
use Rattle.std.proofs.Common.{◌≡◌, ℕ, zero, suc, Bool, true, false, List, Option, None, Some, refl, sym, ap, subst, ◌∙◌, cond}
use Rattle.std.proofs.lemmas.Bool.{false≢true}
use Rattle.clu_types.specs.CluType.{CluType, null_type, bool_type, int_type, char_type, string_type, any_type, stream_type, array_of, sequence_of, record_of, struct_of, oneof_of, variant_of, proc_of, iter_of, cluster_of, parameter, CluTypes, Signals}
use Rattle.clu_builtin.specs.Operation.{Operation}
use Rattle.clu_builtin.specs.Table.{operation}
use Rattle.clu_layout.specs.Objects.{Routine, module_routine, operation_of, force_of, Object, Cell, own_types}
use Rattle.clu_layout.specs.SameType.{all_fit}
use Rattle.clu_layout.specs.Actions.{Primitive}
use Rattle.clu_layout.specs.Primitive.{primitives, primitive, force_heading, heading_type}
use Rattle.clu_meaning.specs.Programs.{RoutineDefinition, Program}
use Rattle.clu_meaning.specs.State.{of_routine}
use Rattle.clu_meaning.specs.Texts.{text_of, text_given}
use Rattle.clu_meaning.specs.Operations.{with_definition, defined, heading_of, headed}
use Rattle.clu_meaning.specs.Calls.{Round, Level}
use Rattle.clu_meaning.specs.Expressions.{invokes}
use Rattle.clu_meaning.specs.Typed.{AllTyped}
use Rattle.clu_meaning.specs.Run.{level}
use Rattle.clu_meaning.proofs.TypedFine.{fine_defined}
use Rattle.laws_sound.specs.Raises.{raised_by}
use Rattle.laws_sound.specs.Sound.{ProgramWellTyped}
use Rattle.laws_sound.proofs.Safe.{Sound, sound_if_there, AreOf}
use Rattle.laws_sound.proofs.Moves.{OnlyRaises}
use Rattle.laws_sound.proofs.PlainWorks.{AllWork, nulls_work, procs_work, iters_work, bools_work, ints_work, chars_work, strings_work, streams_work}
use Rattle.laws_sound.proofs.ElementsWork.{arrays_work, sequences_work}
use Rattle.laws_sound.proofs.SelectorsWork.{structs_work, records_work, oneofs_work, variants_work}
use Rattle.laws_sound.proofs.Invoking.{Covered, sound_primitive, sound_force}
use Rattle.laws_sound.proofs.Evaluating.{CalledWell}
use Rattle.laws_sound.proofs.Endings.{LevelGoes}
use Rattle.laws_sound.proofs.TextHeadings.{is_cluster, text_runs, IsTold, told, of_type_is, headed_is, Heads, heads_by, row_of}
use Rattle.laws_sound.proofs.Looping.{is_proc, arguments_in, results_in, signals_in, proc_is, sound_procedure}
use Rattle.laws_sound.proofs.Executing.{sound_statements}

none_some : {A : Type 0} {x : A} → None ≡ Some x → ⊥
none_some e = subst is_none e tt
  where
    is_none : {A : Type 0} → Option A → Type 0
    is_none None = Unit {0}
    is_none (Some x) = ⊥

some_is : {A : Type 0} {x y : A} → Some x ≡ Some y → x ≡ y
some_is {A} {x} {y} e = ap (λ o. get o x) e
  where
    get : Option A → A → A
    get (Some z) other = z
    get None other = other

-- a row of a table with the heading of a procedure
record IsProcRow (h : Operation) (args results : CluTypes) (ss : Signals) : Type 0 where
  formals : h.args ≡ args
  given : h.results ≡ results
  signals : h.signals ≡ ss

proc_row : (h : Operation) (args results : CluTypes) (ss : Signals) (b : Bool) → h.iter ≡ b → cond b (iter_of h.args h.results h.signals) (proc_of h.args h.results h.signals) ≡ proc_of args results ss → IsProcRow h args results ss
proc_row h args results ss true is e = absurd (false≢true (ap is_proc e))
proc_row h args results ss false is e = record { formals = ap arguments_in e; given = ap results_in e; signals = ap signals_in e }

row_proc : (h : Operation) (args results : CluTypes) (ss : Signals) → heading_type h ≡ proc_of args results ss → IsProcRow h args results ss
row_proc h args results ss e = proc_row h args results ss h.iter refl e

module _ (program : Program) (lawful : Routine → Type 0) where
  all_work : (T : CluType) → AllWork program lawful (operation T) (primitives T)
  all_work null_type = nulls_work program lawful
  all_work bool_type = bools_work program lawful
  all_work int_type = ints_work program lawful
  all_work char_type = chars_work program lawful
  all_work string_type = strings_work program lawful
  all_work any_type = tt
  all_work stream_type = streams_work program lawful
  all_work (array_of t) = arrays_work program lawful t
  all_work (sequence_of t) = sequences_work program lawful t
  all_work (record_of fs) = records_work program lawful fs
  all_work (struct_of fs) = structs_work program lawful fs
  all_work (oneof_of fs) = oneofs_work program lawful fs
  all_work (variant_of fs) = variants_work program lawful fs
  all_work (proc_of args results ss) = procs_work program lawful args results ss
  all_work (iter_of args results ss) = iters_work program lawful args results ss
  all_work (cluster_of c given) = tt
  all_work (parameter n) = tt

  module _ (whole : ProgramWellTyped program lawful) (low : Level) (lows : LevelGoes program lawful low) where
    abbrev Comes : Routine → CluTypes → CluTypes → Signals → Type 0
    Comes r args results ss = (round : Round) (base : List Cell) (os : List Object) → AllTyped program lawful base os → all_fit (own_types os) args ≡ true →
        Sound program lawful round base (AreOf program lawful results) (OnlyRaises program lawful (raised_by ss)) (invokes program low round r os)

    -- a routine that has a definition
    defined_comes : (r : Routine) (args results : CluTypes) (ss : Signals) → lawful r → Heads program r (proc_of args results ss) → Comes r args results ss
    defined_comes r args results ss law h round base os typed fit = sound_if_there program lawful round base (AreOf program lawful results) (OnlyRaises program lawful (raised_by ss)) (defined program r) _ _
        (λ callee found. let same : h.callee ≡ callee = some_is (sym h.there ∙ found) in
        sound_procedure program lawful low lows callee (fine_defined program whole.headings r callee found) (whole.routines r callee found law) args results ss
        (proc_is callee args results ss (subst (λ c. heading_of c ≡ proc_of args results ss) same h.is)) round base os typed fit)
        (λ none. absurd (none_some (sym none ∙ h.there)))

    -- an operation of a built-in type
    row_comes : (T : CluType) (op : List ℕ) (h : Operation) (args results : CluTypes) (ss : Signals) → lawful (operation_of T op) → is_cluster T ≡ false → operation T op ≡ Some h → heading_type h ≡ proc_of args results ss →
        (text : Option RoutineDefinition) (p : Option Primitive) → text_of T op ≡ text → primitive T op ≡ p → IsTold T h text p → Comes (operation_of T op) args results ss
    row_comes T op h args results ss law plain there is (Some d) p e k t = defined_comes (operation_of T op) args results ss law (record {
      callee = text_runs (of_routine (operation_of T op)) T d;
      there = of_type_is program (operation_of T op) T op plain ∙ ap (with_definition (operation_of T op) (text_given T) None) e;
      is = t (of_routine (operation_of T op)) ∙ is;
    })
    row_comes T op h args results ss law plain there is None (Some p) e k t =
        let row = row_proc h args results ss is in
        λ round base os typed fit. subst (λ s. Sound program lawful round base (AreOf program lawful results) (OnlyRaises program lawful (raised_by s)) (invokes program low round (operation_of T op) os)) row.signals
        (subst (λ ts. Sound program lawful round base (AreOf program lawful ts) (OnlyRaises program lawful (raised_by h.signals)) (invokes program low round (operation_of T op) os)) row.given
        (sound_primitive program lawful low round T op h base os plain e there (all_work T) (covered e k) typed (subst (λ ts. all_fit (own_types os) ts ≡ true) (sym row.formals) fit)))
      where
        covered : text_of T op ≡ None → primitive T op ≡ Some p → Covered (text_of T op) (primitive T op)
        covered e k = subst (λ f. Covered f (primitive T op)) (sym e) (subst (Covered None) (sym k) tt)
    row_comes T op h args results ss law plain there is None None e k t = absurd t

    type_comes : (T : CluType) (op : List ℕ) (args results : CluTypes) (ss : Signals) → lawful (operation_of T op) → headed program (operation_of T op) ≡ Some (proc_of args results ss) → (b : Bool) → is_cluster T ≡ b → Comes (operation_of T op) args results ss
    type_comes (cluster_of c given) op args results ss law e b is =
        defined_comes (operation_of (cluster_of c given) op) args results ss law (heads_by program (operation_of (cluster_of c given) op) (defined program (operation_of (cluster_of c given) op)) (proc_of args results ss) refl e)
    type_comes T op args results ss law e true is = absurd (false≢true is)
    type_comes T op args results ss law e false is =
        let row = row_of T op (operation T op) (proc_of args results ss) refl (sym (headed_is program T op is) ∙ e) in
        row_comes T op row.row args results ss law is row.there row.is (text_of T op) (primitive T op) refl refl (told T op row.row row.there)

    force_comes : (t : CluType) (args results : CluTypes) (ss : Signals) → headed program (force_of t) ≡ Some (proc_of args results ss) → Comes (force_of t) args results ss
    force_comes t args results ss e round base os typed fit =
        let is = some_is e in
        subst (λ s. Sound program lawful round base (AreOf program lawful results) (OnlyRaises program lawful (raised_by s)) (invokes program low round (force_of t) os)) (ap signals_in is)
        (subst (λ ts. Sound program lawful round base (AreOf program lawful ts) (OnlyRaises program lawful (raised_by (signals_in (heading_type (force_heading t))))) (invokes program low round (force_of t) os)) (ap results_in is)
        (sound_force program lawful low round t base os typed (subst (λ ts. all_fit (own_types os) ts ≡ true) (sym (ap arguments_in is)) fit)))

    comes : (r : Routine) (args results : CluTypes) (ss : Signals) → headed program r ≡ Some (proc_of args results ss) → lawful r → Comes r args results ss
    comes (module_routine m given) args results ss e law = defined_comes (module_routine m given) args results ss law (heads_by program (module_routine m given) (defined program (module_routine m given)) (proc_of args results ss) refl e)
    comes (operation_of T op) args results ss e law = type_comes T op args results ss law e (is_cluster T) refl
    comes (force_of t) args results ss e law = force_comes t args results ss e

    pub called_well : CalledWell program lawful low
    called_well = record { calls = comes }

  -- ---- each level

  pub level_goes : ProgramWellTyped program lawful → (n : ℕ) → LevelGoes program lawful (level program n)
  unfolding level
  level_goes whole zero = record { at = λ round nest stands p ss h base. record { at = λ turns st t l. tt } }
  level_goes whole (suc n) =
      let lows = level_goes whole n in
      record {
        at = λ round nest stands p ss h base.
            let now = sound_statements program lawful whole (level program n) lows (called_well whole (level program n) lows) round nest stands ss p h base in record { at = now.at };
      }

  pub level_called : ProgramWellTyped program lawful → (n : ℕ) → CalledWell program lawful (level program n)
  level_called whole n = called_well whole (level program n) (level_goes whole n)
