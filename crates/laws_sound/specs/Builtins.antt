-- What is asked of the routine objects that are lawful, so that the texts and schemes of built-in operations are well typed.
use Rattle.std.specs.Prelude.{◌≡◌, ℕ, Bool, true, List, [], ◌∷◌, None, Some}
use Rattle.clu_types.specs.CluType.{CluType, int_type, bool_type, array_of, sequence_of, record_of, struct_of, oneof_of, variant_of, cluster_of, Fields, no_fields, field_and, Actuals}
use Rattle.clu_builtin.specs.Operation.{Needed, Operation}
use Rattle.clu_builtin.specs.Table.{operation}
use Rattle.clu_layout.specs.Objects.{Routine, module_routine, operation_of}
use Rattle.clu_layout.specs.SameType.{fits}
use Rattle.clu_meaning.specs.Programs.{RoutineDefinition, Program}
use Rattle.clu_meaning.specs.State.{Instance}
use Rattle.clu_meaning.specs.Binding.{Running}
use Rattle.clu_meaning.specs.Texts.{text_of, text_given}
use Rattle.clu_meaning.specs.Operations.{defined, headed, may_name}
use Rattle.clu_meaning.specs.Headings.{HeadingsStand}
use Rattle.clu_meaning.specs.Typed.{type_of_selector}
use Rattle.laws_sound.specs.Sound.{RoutineWellTyped, LawfulBy}

-- selectors and tags that differ from each other
abbrev pub AreDistinct : Fields → Type 0
AreDistinct no_fields = Unit {0}
AreDistinct (field_and s t rest) = (type_of_selector rest s ≡ None) × AreDistinct rest

abbrev pub HasDistinct : CluType → Type 0
HasDistinct (struct_of fs) = AreDistinct fs
HasDistinct (record_of fs) = AreDistinct fs
HasDistinct (oneof_of fs) = AreDistinct fs
HasDistinct (variant_of fs) = AreDistinct fs
HasDistinct _ = Unit {0}

module _ (program : Program) (lawful : Routine → Type 0) where
  -- the type that an operation asks has the wanted operation, which is lawful
  pub record IsMet (n : Needed) : Type 0 where
    pub heading : CluType
    pub there : headed program (operation_of n.of n.op) ≡ Some heading
    pub fit : fits heading n.wanted ≡ true
    pub may : may_name program None (operation_of n.of n.op) ≡ true
    pub law : lawful (operation_of n.of n.op)

  abbrev pub AreMet : List Needed → Type 0
  AreMet [] = Unit {0}
  AreMet (n ∷ ns) = IsMet n × AreMet ns

  pub record BuiltinsLawful : Type 0 where
    pub ints : (op : List ℕ) → lawful (operation_of int_type op)
    pub bools : (op : List ℕ) → lawful (operation_of bool_type op)
    -- of a type that has a lawful operation, each that asks nothing is lawful
    pub same : (T : CluType) (op other : List ℕ) (h : Operation) → lawful (operation_of T op) → operation T other ≡ Some h → h.needs ≡ [] → lawful (operation_of T other)
    pub arrays : (t : CluType) (op other : List ℕ) (h : Operation) → lawful (operation_of (sequence_of t) op) → operation (array_of t) other ≡ Some h → h.needs ≡ [] → lawful (operation_of (array_of t) other)
    pub distinct : (T : CluType) (op : List ℕ) → lawful (operation_of T op) → HasDistinct T
    pub needs : (T : CluType) (op : List ℕ) (h : Operation) → lawful (operation_of T op) → operation T op ≡ Some h → AreMet h.needs

  -- ---- a program whose modules are well typed

  pub record ModulesWellTyped : Type 0 where
    pub headings : HeadingsStand program
    pub builtins : BuiltinsLawful
    pub of_routines : (m : List ℕ) (given : Actuals) (r : Running) → defined program (module_routine m given) ≡ Some r → lawful (module_routine m given) → RoutineWellTyped program lawful r
    pub of_clusters : (c : List ℕ) (given : Actuals) (op : List ℕ) (r : Running) → defined program (operation_of (cluster_of c given) op) ≡ Some r → lawful (operation_of (cluster_of c given) op) → RoutineWellTyped program lawful r

-- ---- texts and schemes

-- a routine that a text of a type defines
abbrev pub text_running : Instance → CluType → RoutineDefinition → Running
text_running i T d = record { instance = i; given = text_given T; home = None; definition = d }

abbrev pub TextsWellTyped : Program → (Routine → Bool) → Type 0
TextsWellTyped program lawful = (T : CluType) (op : List ℕ) (d : RoutineDefinition) (i : Instance) → text_of T op ≡ Some d → lawful (operation_of T op) ≡ true →
    RoutineWellTyped program (LawfulBy lawful) (text_running i T d)
