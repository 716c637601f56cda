-- A module of a name shows the form of its specification: it is one of the file, whose heads tell its specifications, or of the library.
use Rattle.std.proofs.Common.{◌≡◌, ◌∙◌, ℕ, zero, suc, ◌+◌, ◌-◌, ◌^◌, ◌<◌, ◌≤◌, nat_lt, min, Bool, true, false, cond, if◌then◌else◌, List, [], ◌∷◌, ◌++◌, length, map, bytes_eq, Option, Some, None, refl, sym, ap, subst, arith, length-append, lt-ltb}
use Rattle.std.specs.Prelude.{slice_get}
use Rattle.std.specs.Option.{option_and_then, option_map}
use Rattle.std.proofs.Math.Nat.{min-eq_left}
use Rattle.std.proofs.lemmas.Bool.{ltb-false, ltb-true}
use Rattle.std.proofs.lemmas.List.{length-map}
use Rattle.std.proofs.lemmas.Option.{slice_get-map}
use Rattle.clu_base.proofs.Lists.{front_get}
use Rattle.clu_tree.specs.declared.node.Node.{Node}
use Rattle.clu_tree.specs.Nodes.{modules}
use Rattle.clu_parser.specs.Trees.{Text}
use Rattle.clu_types.specs.Arena.{types_of}
use Rattle.clu_types.specs.CluType.{CluType}
use Rattle.clu_types.specs.declared.spec.Spec.{Spec}
use Rattle.clu_types.specs.declared.term.Term.{Term}
use Rattle.clu_syntax.specs.declared.round.Round.{Round}
use Rattle.clu_syntax.specs.Items.{modules_at}
use Rattle.clu_syntax.specs.Nodes.{item_at}
use Rattle.clu_syntax.specs.Syntax as Syntax
use Rattle.clu_syntax.specs.Syntax.{Identifier}
use Rattle.clu_names.specs.Scopes.{is_stream}
use Rattle.clu_meaning.specs.Scoping.{Scope}
use Rattle.clu_checking.specs.Specifications.{Form, Specification, specification_in, specification_told}
use Rattle.clu_checking.specs.Files.{File, scope_in}
use Rattle.clu_checking.specs.Headings.{or_kept, own_specifications, specification, specification_of}
use Rattle.clu_declares.proofs.Facts.{root_parts, top}
use Rattle.clu_head.specs.declared.head.Head.{Head}
use Rattle.clu_bindings.specs.declared.bindings.ModuleKnown.{ModuleKnown}
use Rattle.clu_bindings.specs.declared.file.File.{File as Read}
use Rattle.clu_bindings.specs.declared.file.Headed.{Headed}
use Rattle.clu_bindings.specs.declared.meaning.ModuleId.{ModuleId}
use Rattle.clu_bindings.specs.Modules.{module_id, modules_in, named, place_from}
use Rattle.clu_operations.specs.Modules.{Module, kept, known_of, own}
use Rattle.clu_passes.specs.ConstantTables.{file_with}
use Rattle.clu_passes.specs.FoundTold.{form_seen, module_named}
use Rattle.clu_passes.specs.Legal.{AreLegalKnown}
use Rattle.clu_passes.specs.Made.{IsMade}
use Rattle.clu_passes.specs.OwnModules.{AreOwnModules}
use Rattle.clu_passes.specs.Told.{head_told}
use Rattle.clu_passes.proofs.FileModules.{modules_are, root}
use Rattle.clu_passes.proofs.ModulesSaid.{AreAlike, all_alike, few_all, kept_more}

-- ---- lists

behind_got : {X : Type 0} (xs ys : List X) (i : ℕ) → length xs ≤ i → slice_get (xs ++ ys) i ≡ slice_get ys (i - length xs)
behind_got [] ys i l = let same : i ≡ i - 0 = omega arith in ap (slice_get ys) same
behind_got (x ∷ xs) ys zero l = absurd (omega (arith, l))
behind_got (x ∷ xs) ys (suc i) l = let same : i - length xs ≡ suc i - suc (length xs) = omega arith in behind_got xs ys i (omega (arith, l)) ∙ ap (slice_get ys) same

-- ---- the place of a name is that of the first specification of this name

abbrev PlaceShows : ℕ → List (Identifier × ModuleKnown) → List Specification → Option ℕ → Option Specification → Type 0
PlaceShows k ms ss None o = o ≡ None
PlaceShows k ms ss (Some j) o = (i : ℕ) × (j ≡ k + i) × (i < length ms) × (slice_get ss i ≡ o)

later_shows : (k : ℕ) (m : Identifier × ModuleKnown) (ms : List (Identifier × ModuleKnown)) (s : Specification) (ss : List Specification) (place : Option ℕ) (o : Option Specification) → PlaceShows (suc k) ms ss place o → PlaceShows k (m ∷ ms) (s ∷ ss) place o
later_shows k m ms s ss None o e = e
later_shows k m ms s ss (Some j) o (i, e, l, at) = (suc i, omega (arith, e), omega (arith, l), at)

place_shows : (P : Type 0) (k : ℕ) (ms : List (Identifier × ModuleKnown)) (ss : List Specification) → AreAlike P ms ss → (name : Identifier) → PlaceShows k ms ss (place_from k ms name) (specification_in ss name)
place_shows P k [] [] a name = refl
place_shows P k [] (s ∷ ss) a name = absurd a
place_shows P k (m ∷ ms) [] a name = absurd a
place_shows P k (m ∷ ms) (s ∷ ss) a name =
    subst (λ (x : Identifier). PlaceShows k (m ∷ ms) (s ∷ ss) (if bytes_eq x name then Some k else place_from (suc k) ms name) (specification_in (s ∷ ss) name)) (sym a.0.name)
    (by (bytes_eq s.name name) (place_shows P (suc k) ms ss a.1 name))
  where
    by : (b : Bool) → PlaceShows (suc k) ms ss (place_from (suc k) ms name) (specification_in ss name) → PlaceShows k (m ∷ ms) (s ∷ ss) (if b then Some k else place_from (suc k) ms name) (cond b (Some s) (specification_in ss name))
    by true rest = (0, omega arith, omega arith, refl)
    by false rest = later_shows k m ms s ss (place_from (suc k) ms name) (specification_in ss name) rest

modules_size : (nodes : List Node) (ns : List ℕ) → length (modules_at (item_at nodes) ns) ≡ length ns
modules_size nodes [] = refl
modules_size nodes (n ∷ ns) = ap suc (modules_size nodes ns)

alike_size : (P : Type 0) (ms : List (Identifier × ModuleKnown)) (ss : List Specification) → AreAlike P ms ss → length ms ≡ length ss
alike_size P [] [] a = refl
alike_size P [] (s ∷ ss) a = absurd a
alike_size P (m ∷ ms) [] a = absurd a
alike_size P (m ∷ ms) (s ∷ ss) a = ap suc (alike_size P ms ss a.1)

-- ---- the forms

module _ (types : List CluType) where
  own_form : (o : Option Head) → option_map (form_seen types) (option_map own o) ≡ option_map (λ (s : Specification). s.form) (option_map (head_told types) o)
  own_form (Some h) = refl
  own_form None = refl

  kept_form : (o : Option Spec) → option_map (form_seen types) (option_map kept o) ≡ option_map (λ (s : Specification). s.form) (option_map specification_told o)
  kept_form (Some s) = refl
  kept_form None = refl

module _ (t : Text) (h : Headed) (library : List Specification) (refused : List ℕ) (types : List Term) (made : IsMade t h.file library refused types) (owned : AreOwnModules h.file.bindings.now.modules (modules h.file.syntax.now))
    (seen : List CluType) (told : map (head_told seen) h.heads.now.modules.items ≡ own_specifications (file_with h.file (scope_in h.file.syntax.now h.file.rounds.now) library refused)) where
  abbrev r : Read
  r = h.file

  abbrev nodes : List Node
  nodes = h.file.syntax.now

  abbrev rounds : List Round
  rounds = h.file.rounds.now

  abbrev scope : Scope
  scope = scope_in h.file.syntax.now h.file.rounds.now

  abbrev f : File
  f = file_with h.file (scope_in h.file.syntax.now h.file.rounds.now) library refused

  abbrev all : List (Identifier × ModuleKnown)
  all = modules_in types r.values.now nodes r.library.now

  abbrev specifications : List Specification
  specifications = own_specifications f ++ library

  alike : AreAlike (AreLegalKnown f r.values.now) all specifications
  alike =
      all_alike t r scope library refused types made.arena made.values made.parsed made.rounds made.bindings (top t nodes rounds made.parsed made.rounds) (root t nodes rounds made.parsed made.rounds).children
      (root_parts t nodes rounds made.parsed made.rounds).0 (modules_are t nodes rounds made.parsed made.rounds) (root_parts t nodes rounds made.parsed made.rounds).1 made.kept made.modules made.few_modules

  few : length all < 2 ^ 32 - 1
  few =
      few_all t r scope library refused types made.arena made.values made.parsed made.rounds made.bindings (top t nodes rounds made.parsed made.rounds) (root t nodes rounds made.parsed made.rounds).children
      (root_parts t nodes rounds made.parsed made.rounds).0 (modules_are t nodes rounds made.parsed made.rounds) (root_parts t nodes rounds made.parsed made.rounds).1 made.kept made.modules made.few_modules

  -- as many specifications of its own as Modules
  own_size : length (own_specifications f) ≡ h.file.bindings.now.modules.of_file
  own_size =
      ap (λ (ms : List Syntax.Module). length (map (specification_of f) ms)) (root_parts t nodes rounds made.parsed made.rounds).1
      ∙ length-map (modules_at (item_at nodes) (root t nodes rounds made.parsed made.rounds).children) (specification_of f)
      ∙ modules_size nodes (root t nodes rounds made.parsed made.rounds).children
      ∙ ap length (sym (modules_are t nodes rounds made.parsed made.rounds))
      ∙ sym owned.of_file

  -- the module of a number
  abbrev known_by : ℕ → Option Module
  known_by k = if nat_lt k h.file.bindings.now.modules.of_file then option_map own (slice_get h.heads.now.modules.items k) else option_map kept (slice_get h.file.library.now (k - h.file.bindings.now.modules.of_file))

  -- one of the file, by its place
  pub known_own : (i : ℕ) → i < h.file.bindings.now.modules.of_file → known_of h (module_id i) ≡ option_map own (slice_get h.heads.now.modules.items i)
  known_own i less =
      let size : length (own_specifications f) ≡ h.file.bindings.now.modules.of_file = own_size in
      let whole : length all ≡ length specifications = alike_size (AreLegalKnown f r.values.now) all specifications alike in
      let joined : length specifications ≡ length (own_specifications f) + length library = length-append (own_specifications f) library in
      let most : length all < 2 ^ 32 - 1 = few in
      let small : i ≤ 2 ^ 32 - 1 = omega (arith, less, size, whole, joined, most) in
      ap known_by (min-eq_left small)
      ∙ ap (λ (b : Bool). if b then option_map own (slice_get h.heads.now.modules.items i) else option_map kept (slice_get h.file.library.now (i - h.file.bindings.now.modules.of_file))) (lt-ltb i h.file.bindings.now.modules.of_file less)

  abbrev form_of : Option Specification → Option Form
  form_of o = option_map (λ (s : Specification). s.form) o

  shown_by : (k : ℕ) → option_map (form_seen seen) (known_by k) ≡ form_of (slice_get specifications k)
  shown_by k = by (nat_lt k h.file.bindings.now.modules.of_file) refl
    where
      size : length (own_specifications f) ≡ h.file.bindings.now.modules.of_file
      size = own_size

      by : (b : Bool) → nat_lt k h.file.bindings.now.modules.of_file ≡ b
          → option_map (form_seen seen) (if b then option_map own (slice_get h.heads.now.modules.items k) else option_map kept (slice_get h.file.library.now (k - h.file.bindings.now.modules.of_file))) ≡ form_of (slice_get specifications k)
      by true e =
          let less : k < h.file.bindings.now.modules.of_file = ltb-true k h.file.bindings.now.modules.of_file e in
          own_form seen (slice_get h.heads.now.modules.items k)
          ∙ ap form_of (sym (slice_get-map (head_told seen) h.heads.now.modules.items k) ∙ ap (λ (ss : List Specification). slice_get ss k) told ∙ sym (front_get (own_specifications f) library k (omega (arith, less, size))))
      by false e =
          let more : h.file.bindings.now.modules.of_file ≤ k = ltb-false k h.file.bindings.now.modules.of_file e in
          kept_form seen (slice_get h.file.library.now (k - h.file.bindings.now.modules.of_file))
          ∙ ap form_of
          (sym (slice_get-map specification_told h.file.library.now (k - h.file.bindings.now.modules.of_file))
          ∙ ap (λ (ss : List Specification). slice_get ss (k - h.file.bindings.now.modules.of_file)) (sym made.kept)
          ∙ ap (λ (many : ℕ). slice_get library (k - many)) (sym size)
          ∙ sym (behind_got (own_specifications f) library k (omega (arith, more, size))))

  at_place : (place : Option ℕ) (o : Option Specification) → PlaceShows 0 all specifications place o → option_map (form_seen seen) (option_and_then (known_of h) (option_map module_id place)) ≡ form_of o
  at_place None o e = sym (ap form_of e)
  at_place (Some j) o (i, e, l, at) =
      let less : length all < 2 ^ 32 - 1 = few in
      let small : j ≤ 2 ^ 32 - 1 = omega (arith, e, l, less) in
      let itself : j ≡ i = omega (arith, e) in
      ap (λ (k : ℕ). option_map (form_seen seen) (known_by k)) (min-eq_left small ∙ itself) ∙ shown_by i ∙ ap form_of at

  pub forms_shown : (name : Identifier) → option_map (form_seen seen) (module_named h name) ≡ form_of (specification f name)
  forms_shown name =
      ap (λ (o : Option ModuleId). option_map (form_seen seen) (option_and_then (known_of h) o)) (made.modules.named name)
      ∙ by (is_stream name) (at_place (place_from 0 all name) (specification_in specifications name) (place_shows (AreLegalKnown f r.values.now) 0 all specifications alike name) ∙ ap form_of (sym (kept_more f (own_specifications f) name)))
    where
      by : (s : Bool) → option_map (form_seen seen) (option_and_then (known_of h) (option_map module_id (place_from 0 all name))) ≡ form_of (or_kept f (specification_in (own_specifications f) name) name)
          → option_map (form_seen seen) (option_and_then (known_of h) (if s then None else option_map module_id (place_from 0 all name))) ≡ form_of (if s then None else or_kept f (specification_in (own_specifications f) name) name)
      by true e = refl
      by false e = e
