-- What is known of an instance of a text: its actuals are of the kinds of the parameters and meet what the where clauses round
-- the text give; and the cluster round it is the one in which it runs.
use Rattle.std.specs.Prelude.{◌≡◌, ℕ, true, false, not, List, Option, Some, None}
use Rattle.std.specs.List.{list_any}
use Rattle.clu_types.specs.CluType.{CluType}
use Rattle.clu_syntax.specs.Syntax.{Cluster}
use Rattle.clu_types.specs.Substituted.{substituted}
use Rattle.clu_layout.specs.Objects.{Routine, operation_of}
use Rattle.clu_layout.specs.SameType.{fits}
use Rattle.clu_meaning.specs.Programs.{Program}
use Rattle.clu_meaning.specs.Resolving.{cluster_definition}
use Rattle.clu_meaning.specs.Binding.{Running}
use Rattle.clu_meaning.specs.Operations.{headed, may_name}
use Rattle.clu_checking.specs.Specifications.{Demand, Heading, Specification, heading_named}
use Rattle.clu_checking.specs.Files.{File, round, parameters_round, routine_round, cluster_round}
use Rattle.clu_checking.specs.Headings.{kinds_in, routines_of, specification}
use Rattle.clu_checking.specs.Operations.{Asked, Found, operation_found, where_at, given_of, given_by_routine, given_by_cluster, given_by_sets, is_met}
use Rattle.laws_sound.specs.Sound.{LawfulBy}
use Rattle.laws_accepted.specs.Legal.{Specified, Context, closed, context_of, is_legal}
use Rattle.laws_accepted.specs.Specified.{HeadingLegal, AllLegal, PutsIn}
use Rattle.laws_accepted.specs.Lawful.{Routines, is_lawful, HasTexts}

-- ---- headings

-- the headings of all routines of clusters are legal
abbrev pub RoutinesLegal : Specified → Routines → Type 0
RoutinesLegal specified routines = (c op : List ℕ) (h : Heading) → routines c op ≡ Some h → (s : Specification) × (specified c ≡ Some s) × HeadingLegal specified (context_of s h.demands) h

-- ---- where a text stands

module _ (f : File) (n : ℕ) where
  abbrev pub context_at : Context
  context_at = record { kinds = kinds_in f (parameters_round f.nodes (round f n).unit); clauses = where_at f n }

  -- the types that a where clause wants are known and legal
  abbrev pub ClauseLegal : List Demand → Type 0
  ClauseLegal clause = (k : ℕ) (name : List ℕ) (d : Demand) → given_of clause k name ≡ Some d → (wanted : CluType) × (d.wanted ≡ Some wanted) × (is_legal context_at (specification f) wanted ≡ true)

  -- what a type asks at the node is met
  abbrev pub AllMet : List Asked → Type 0
  AllMet asks = list_any (λ a. not (is_met f n a)) asks ≡ false

  abbrev pub RunsInside : Routines → Running → Option Cluster → Type 0
  RunsInside routines r (Some c) = (r.home ≡ Some (cluster_definition f.scope c)) × ((op : List ℕ) → routines c.name op ≡ heading_named (routines_of f c) op)
  RunsInside routines r None = r.home ≡ None

  pub record RunsAt (routines : Routines) (r : Running) : Type 0 where
    pub actuals : PutsIn (specification f) context_at closed r.given
    pub first : ClauseLegal (given_by_routine f (routine_round f n))
    pub second : ClauseLegal (given_by_cluster f (cluster_round f n))
    pub third : ClauseLegal (given_by_sets f n)
    pub inside : RunsInside routines r (cluster_round f n)

-- A program as the specifications say that a file goes by: these and the headings of its clusters' routines are legal, and each
-- routine has, when it runs, the heading that is specified.
pub record AsSpecified (f : File) (program : Program) (routines : Routines) : Type 0 where
  pub specifications : AllLegal (specification f)
  pub of_clusters : RoutinesLegal (specification f) routines
  pub texts : HasTexts (specification f) routines program

-- a routine that is there when a text names it, with a heading that is included in what is wanted
pub record Runs (program : Program) (lawful : Routine → Type 0) (r : Running) (p : Routine) (wanted : CluType) : Type 0 where
  pub heading : CluType
  pub there : headed program p ≡ Some heading
  pub fit : fits heading wanted ≡ true
  pub may : may_name program r.home p ≡ true
  pub law : lawful p

-- Each operation that the rules find of a legal type at a node, and of which what it asks is met there: it has a legal type, and
-- the type with the actuals put in has it when the instance runs.
abbrev pub FoundRun : File → Program → Routines → ℕ → Running → Type 0
FoundRun f program routines n r = (t : CluType) (name : List ℕ) (x : Found) (T : CluType) → is_legal (context_at f n) (specification f) t ≡ true → operation_found f n t name ≡ Some x → x.type ≡ Some T → AllMet f n x.asks →
    Runs program (LawfulBy (is_lawful (specification f) routines)) r (operation_of (substituted r.given t) name) (substituted r.given T) × (is_legal (context_at f n) (specification f) T ≡ true)

abbrev pub FoundOperationsRun : Type 0
FoundOperationsRun = (f : File) (program : Program) (routines : Routines) → AsSpecified f program routines → (n : ℕ) (r : Running) → RunsAt f n routines r → FoundRun f program routines n r
