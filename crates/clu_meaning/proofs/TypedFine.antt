-- What holds of each routine that a program defines, if its headings stand.
use Rattle.std.proofs.Common.{◌≡◌, refl, ap, subst, ◌∙◌}
use Rattle.std.proofs.lemmas.Slice.Eq.{bytes_eq-Decides}
use Rattle.std.specs.Prelude.{ℕ, Bool, true, false, List, [], ◌∷◌, Option, Some, None, cond, bytes_eq, codes}
use Rattle.std.specs.Option.{option_map}
use Rattle.clu_types.specs.CluType.{CluType, array_of, sequence_of, record_of, struct_of, oneof_of, variant_of, int_type, string_type, cluster_of, Fields, Actuals}
use Rattle.clu_types.specs.Substituted.{substituted}
use Rattle.clu_syntax.specs.Syntax as syntax
use Rattle.clu_layout.specs.Objects.{Routine, module_routine, operation_of, force_of}
use Rattle.clu_meaning.specs.Lists.{is_among}
use Rattle.clu_meaning.specs.Programs.{Statements, RoutineDefinition, ClusterDefinition, Module, routine_module, cluster_module, Program}
use Rattle.clu_meaning.specs.State.{of_routine, own_set_up}
use Rattle.clu_meaning.specs.Binding.{Running, declared_in, owns_of, put_in, name_of}
use Rattle.clu_meaning.specs.Schemes.{comparison, copy, scheme_among, immutable_comparisons, mutable_comparisons}
use Rattle.clu_meaning.specs.Texts.{Texts, int_texts, string_texts, array_texts, sequence_texts, text_named, defined_by, text_of, text_given}
use Rattle.clu_meaning.specs.Operations.{name_of_module, module_named, routine_named, with_definition, of_module, of_cluster, of_type, defined}
use Rattle.clu_meaning.specs.Calls.{Round, in_procedure, in_iterator, here, setting_up}
use Rattle.clu_meaning.specs.Typed.{own_of_definition, own_of_module, own_type_of}
use Rattle.clu_meaning.specs.Headings.{HeadingStands, RoutinesStand, ModuleStands, HeadingsStand}
use Rattle.clu_meaning.proofs.TypedElements.{IfThere, if_found}
use Rattle.clu_meaning.proofs.TypedComputing.{Belongs}
use Rattle.clu_meaning.proofs.TypedHeadings.{HomeIs}

-- a routine that runs: its own variables are those of its instance, its cluster is the program's, and its heading stands
pub record Fine (program : Program) (r : Running) : Type 0 where
  pub belongs : Belongs program r
  pub home : HomeIs program r.home
  pub heading : HeadingStands r.home r.definition

-- the same of the routine that runs and of those whose loops called it
abbrev pub Stands : Program → Round → Type 0
Stands program (in_procedure r) = Fine program r
Stands program (in_iterator r body declared xs caller) = Fine program r × Stands program caller

pub fine_here : (program : Program) (round : Round) → Stands program round → Fine program (here round)
fine_here program (in_procedure r) s = s
fine_here program (in_iterator r body declared xs caller) s = s.0

-- ---- own variables

none_some : {A : Type 0} {x : A} → None ≡ Some x → ⊥
none_some e = subst is_none e tt
  where
    is_none : {A : Type 0} → Option A → Type 0
    is_none None = Unit {0}
    is_none (Some x) = ⊥

module _ (program : Program) (r : Running) where
  put_like : (t : Option CluType) → option_map (substituted r.given) t ≡ put_in r t
  put_like (Some t) = refl
  put_like None = refl

  -- those of the cluster, which is the program's
  shared_of : (home : Option ClusterDefinition) → HomeIs program home → (n : ℕ) (t : CluType) → put_in r (declared_in (owns_of home) n) ≡ Some t →
      own_type_of program (own_set_up (name_of home) r.given) n ≡ Some t
  shared_of (Some cluster) h n t e = ap (λ m. own_of_module r.given m n) h ∙ put_like (declared_in cluster.owns n) ∙ e
  shared_of None h n t e = absurd (none_some e)

pub set_up_fine : (program : Program) (r : Running) (cluster : ClusterDefinition) → r.home ≡ Some cluster → HomeIs program r.home → Fine program (setting_up r cluster)
set_up_fine program r cluster e h =
    let home : HomeIs program (Some cluster) = subst (HomeIs program) e h in
    record {
      belongs = record { own = λ n t e. absurd (none_some e); shared = shared_of program (setting_up r cluster) (Some cluster) home };
      home = home;
      heading = record { declared = tt; formals = tt; results = tt; signals = tt };
    }

-- ---- texts and schemes

abbrev TextsStand : Texts → Type 0
TextsStand [] = Unit {0}
TextsStand (r ∷ rs) = HeadingStands None (defined_by r) × TextsStand rs

chosen_text : (b : Bool) (r : syntax.Routine) (others : Option syntax.Routine) → HeadingStands None (defined_by r) → IfThere (HeadingStands None) (option_map defined_by others) →
    IfThere (HeadingStands None) (option_map defined_by (cond b (Some r) others))
chosen_text true r others h k = h
chosen_text false r others h k = k

text_stands : (rs : Texts) (op : List ℕ) → TextsStand rs → IfThere (HeadingStands None) (option_map defined_by (text_named rs op))
text_stands [] op h = tt
text_stands (r ∷ rs) op h = chosen_text (bytes_eq r.name op) r (text_named rs op) h.0 (text_stands rs op h.1)

ints_stand : TextsStand int_texts
ints_stand = (
  record { declared = (refl, (refl, tt)); formals = (tt, (tt, tt)); results = (tt, tt); signals = tt },
  (record { declared = (refl, (refl, (refl, tt))); formals = (tt, (tt, (tt, tt))); results = (tt, tt); signals = tt }, tt),
)

strings_stand : TextsStand string_texts
strings_stand = (record { declared = (refl, tt); formals = (tt, tt); results = (tt, tt); signals = tt }, tt)

arrays_stand : TextsStand array_texts
arrays_stand = (
  record { declared = (refl, tt); formals = (tt, tt); results = (tt, tt); signals = tt },
  (
    record { declared = (refl, tt); formals = (tt, tt); results = (tt, tt); signals = tt },
    (
      record { declared = (refl, (refl, tt)); formals = (tt, (tt, tt)); results = (tt, tt); signals = tt },
      (
        record { declared = (refl, (refl, tt)); formals = (tt, (tt, tt)); results = (tt, tt); signals = tt },
        (record { declared = (refl, tt); formals = (tt, tt); results = (tt, tt); signals = tt }, tt),
      ),
    ),
  ),
)

sequences_stand : TextsStand sequence_texts
sequences_stand = (
  record { declared = (refl, tt); formals = (tt, tt); results = (tt, tt); signals = tt },
  (
    record { declared = (refl, tt); formals = (tt, tt); results = (tt, tt); signals = tt },
    (
      record { declared = (refl, (refl, tt)); formals = (tt, (tt, tt)); results = (tt, tt); signals = tt },
      (
        record { declared = (refl, (refl, tt)); formals = (tt, (tt, tt)); results = (tt, tt); signals = tt },
        (record { declared = (refl, tt); formals = (tt, tt); results = (tt, tt); signals = tt }, tt),
      ),
    ),
  ),
)

scheme_chosen : (compares copies : Bool) (a b : Option RoutineDefinition) → IfThere (HeadingStands None) a → IfThere (HeadingStands None) b →
    IfThere (HeadingStands None) (cond compares a (cond copies b None))
scheme_chosen true copies a b h k = h
scheme_chosen false true a b h k = k
scheme_chosen false false a b h k = tt

scheme_stands : (comparisons : List (List ℕ)) (op : List ℕ) (T : CluType) (fs : Fields) (compares copies : Statements) → IfThere (HeadingStands None) (scheme_among comparisons op T fs compares copies)
scheme_stands comparisons op T fs compares copies = scheme_chosen (is_among comparisons op) (bytes_eq op (codes "copy")) (comparison op T fs compares) (copy T fs copies)
    (record { declared = (refl, (refl, tt)); formals = (tt, (tt, tt)); results = (tt, tt); signals = tt })
    (record { declared = (refl, tt); formals = (tt, tt); results = (tt, tt); signals = tt })

text_of_stands : (T : CluType) (op : List ℕ) → IfThere (HeadingStands None) (text_of T op)
text_of_stands (record_of fs) op = scheme_stands mutable_comparisons op (record_of fs) fs _ _
text_of_stands (struct_of fs) op = scheme_stands immutable_comparisons op (struct_of fs) fs _ _
text_of_stands (oneof_of fs) op = scheme_stands immutable_comparisons op (oneof_of fs) fs _ _
text_of_stands (variant_of fs) op = scheme_stands mutable_comparisons op (variant_of fs) fs _ _
text_of_stands int_type op = text_stands int_texts op ints_stand
text_of_stands string_type op = text_stands string_texts op strings_stand
text_of_stands (array_of t) op = text_stands array_texts op arrays_stand
text_of_stands (sequence_of t) op = text_stands sequence_texts op sequences_stand
text_of_stands _ op = tt

-- ---- modules

chosen_module : (P : Module → Type 0) (b : Bool) (m : Module) (others : Option Module) → (b ≡ true → P m) → IfThere P others → IfThere P (cond b (Some m) others)
chosen_module P true m others h k = h refl
chosen_module P false m others h k = k

found_stands : (ms : Program) (name : List ℕ) → HeadingsStand ms → IfThere ModuleStands (module_named ms name)
found_stands [] name h = tt
found_stands (m ∷ ms) name h = chosen_module ModuleStands (bytes_eq (name_of_module m) name) m (module_named ms name) (λ e. h.0) (found_stands ms name h.1)

found_named : (ms : Program) (name : List ℕ) → IfThere (λ m. name_of_module m ≡ name) (module_named ms name)
found_named [] name = tt
found_named (m ∷ ms) name = chosen_module (λ n. name_of_module n ≡ name) (bytes_eq (name_of_module m) name) m (module_named ms name)
    (λ e. (bytes_eq-Decides (name_of_module m) name).0 e) (found_named ms name)

chosen_routine : (home : Option ClusterDefinition) (b : Bool) (r : RoutineDefinition) (others : Option RoutineDefinition) → HeadingStands home r → IfThere (HeadingStands home) others →
    IfThere (HeadingStands home) (cond b (Some r) others)
chosen_routine home true r others h k = h
chosen_routine home false r others h k = k

routine_stands : (home : Option ClusterDefinition) (rs : List RoutineDefinition) (op : List ℕ) → RoutinesStand home rs → IfThere (HeadingStands home) (routine_named rs op)
routine_stands home [] op h = tt
routine_stands home (r ∷ rs) op h = chosen_routine home (bytes_eq r.name op) r (routine_named rs op) h.0 (routine_stands home rs op h.1)

-- ---- what is defined

module _ (program : Program) (stand : HeadingsStand program) (routine : Routine) where
  -- what a definition says of the routine as it runs
  pub record Known (r : Running) : Type 0 where
    pub instance : r.instance ≡ of_routine routine
    pub home : HomeIs program r.home
    pub heading : HeadingStands r.home r.definition

  with_definition_known : (given : Actuals) (home : Option ClusterDefinition) (definition : Option RoutineDefinition) → HomeIs program home → IfThere (HeadingStands home) definition →
      IfThere Known (with_definition routine given home definition)
  with_definition_known given home None h k = tt
  with_definition_known given home (Some definition) h k = record { instance = refl; home = h; heading = k }

  of_module_known : (given : Actuals) (m : Option Module) → IfThere ModuleStands m → IfThere Known (of_module routine given m)
  of_module_known given (Some (routine_module definition)) h = with_definition_known given None (Some definition) tt h
  of_module_known given (Some (cluster_module cluster)) h = tt
  of_module_known given None h = tt

  of_cluster_known : (op : List ℕ) (given : Actuals) (name : List ℕ) (m : Option Module) → module_named program name ≡ m → IfThere (λ n. name_of_module n ≡ name) m → IfThere ModuleStands m →
      IfThere Known (of_cluster routine op given m)
  of_cluster_known op given name (Some (cluster_module cluster)) e n h =
      with_definition_known given (Some cluster) (routine_named cluster.routines op) (ap (module_named program) n ∙ e) (routine_stands (Some cluster) cluster.routines op h)
  of_cluster_known op given name (Some (routine_module definition)) e n h = tt
  of_cluster_known op given name None e n h = tt

  of_type_known : (T : CluType) (op : List ℕ) → IfThere Known (of_type program routine T op)
  of_type_known (cluster_of cluster given) op =
      of_cluster_known op given cluster (module_named program cluster) refl (found_named program cluster) (found_stands program cluster stand)
  of_type_known T op = with_definition_known (text_given T) None (text_of T op) tt (text_of_stands T op)

module _ (program : Program) (stand : HeadingsStand program) where
  known : (routine : Routine) → IfThere (Known program stand routine) (defined program routine)
  known (module_routine m given) = of_module_known program stand (module_routine m given) given (module_named program m) (found_stands program m stand)
  known (operation_of T op) = of_type_known program stand (operation_of T op) T op
  known (force_of t) = tt

  pub fine_defined : (routine : Routine) (r : Running) → defined program routine ≡ Some r → Fine program r
  fine_defined routine r e =
      let k = if_found (Known program stand routine) (defined program routine) r e (known routine) in
      record {
        belongs = record {
          own = λ n t f. ap (λ i. own_type_of program i n) k.instance ∙ ap (λ found. own_of_definition found n) e ∙ f;
          shared = shared_of program r r.home k.home;
        };
        home = k.home;
        heading = k.heading;
      }
