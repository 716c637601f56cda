-- The specifications that a check makes of the heads of a file are those of its modules by the definitions.
use Rattle.std.proofs.Common.{◌≡◌, ◌∙◌, ◌+◌, ◌-◌, ◌^◌, ◌<◌, ℕ, zero, suc, Bool, if◌then◌else◌, List, [], ◌∷◌, length, map, Option, Some, None, ap, ap₂, arith, lt-ltb, refl, subst, sym}
use Rattle.std.specs.Prelude.{slice_get}
use Rattle.std.specs.List.{AllByRecursion}
use Rattle.std.specs.Option.{option_map}
use Rattle.std.proofs.lemmas.List.{length-map}
use Rattle.std.proofs.lemmas.Option.{none-some, same_Some, slice_get-map, slice_get_within}
use Rattle.clu_tree.specs.declared.node.Node.{Node}
use Rattle.clu_tree.specs.Nodes.{modules}
use Rattle.clu_parser.specs.Trees.{Text}
use Rattle.clu_syntax.specs.declared.round.Round.{Round}
use Rattle.clu_syntax.specs.Items.{Item, modules_at}
use Rattle.clu_syntax.specs.Nodes.{item_at}
use Rattle.clu_syntax.specs.Rounds.{AreRounds}
use Rattle.clu_syntax.proofs.Unique.{unique}
use Rattle.clu_names.specs.declared.scopes.Declared.{Declared}
use Rattle.clu_types.specs.declared.spec.Spec.{Spec}
use Rattle.clu_types.specs.declared.term.Term.{Term}
use Rattle.clu_types.specs.declared.term.TypeId.{TypeId}
use Rattle.clu_types.specs.Arena.{Grows, IsArena, types_of}
use Rattle.clu_types.proofs.Arenas.{types_grown}
use Rattle.clu_types.proofs.Carrying.{grows_on}
use Rattle.clu_checking.specs.Specifications.{Specification, specification_kept, specification_told}
use Rattle.clu_checking.specs.Files.{File}
use Rattle.clu_checking.specs.Headings.{own_specifications, specification_of}
use Rattle.clu_checking.specs.Refusals.{checked_file}
use Rattle.clu_declares.specs.Declares.{AreFew, IsParsed}
use Rattle.clu_declares.proofs.Facts.{root_parts}
use Rattle.clu_settle.specs.declared.value.Value.{Value}
use Rattle.clu_head.specs.declared.head.Head.{Head}
use Rattle.clu_head.specs.declared.head.HeadForm.{HeadForm}
use Rattle.clu_head.specs.declared.head.HeadForm.TheVariants as form
use Rattle.clu_head.specs.declared.head.RoutineHead.{RoutineHead}
use Rattle.clu_head.specs.declared.heads.Heads.{Heads}
use Rattle.clu_head.specs.Modules.{AreHeadsOf}
use Rattle.clu_bindings.specs.declared.file.File.{File as Read}
use Rattle.clu_bindings.specs.declared.file.Headed.{Headed}
use Rattle.clu_bindings.specs.declared.meaning.ModuleId.{ModuleId}
use Rattle.clu_operations.specs.Bundles.{FormBelow, RoutinesBelow}
use Rattle.clu_operations.specs.Finding.{IsBelowIf}
use Rattle.clu_operations.specs.Modules.{Module, kept, own}
use Rattle.clu_passes.specs.RoutineTypes.{HasType, HaveTypes, IsOfRoutines, IsTypeOf}
use Rattle.clu_passes.specs.Told.{head_told}
use Rattle.clu_passes.proofs.FileModules.{modules_are, root}
use Rattle.clu_passes.proofs.HeadTypesFit.{types_fit}
use Rattle.clu_passes.proofs.HeadsLater.{heads_later}
use Rattle.clu_passes.proofs.SpecsKept.{specification_is}
use Rattle.clu_check_mod.specs.Answered.{AreOwn, IsFirst}
use Rattle.clu_check_mod.specs.Modules.{AreMade, IsMade, IsMadeIf, name_of}
use Rattle.clu_check_mod.specs.declared.walk.Extent.{Extent}
use Rattle.clu_checked.specs.Checked.{IsLibrary, IsOfGrammar, file}
use Rattle.clu_checked.specs.Specified.{AreSpecifications}
use Rattle.clu_checked.proofs.FactsRight.{heads_there}
use Rattle.clu_checked.proofs.HeadsRight.{heads_right, own_right}
use Rattle.clu_checked.proofs.Whole.{headed_arena}

-- ---- types of routines stay so while the arena grows

module _ (old new : List Term) (grows : Grows old new) where
  type_later : (iter : Bool) (o : Option TypeId) → IsBelowIf (length old) o → IsTypeOf (types_of old) iter o → IsTypeOf (types_of new) iter o
  type_later iter (Some id) below have = subst (IsOfRoutines iter) (sym (types_grown old new grows id below)) have
  type_later iter None below have = tt

  routines_later : (rs : List RoutineHead) → RoutinesBelow (length old) rs → AllByRecursion (HasType (types_of old)) rs → AllByRecursion (HasType (types_of new)) rs
  routines_later [] below have = tt
  routines_later (r ∷ rs) below have = (type_later r.iter r.of_type below.0.1 have.0, routines_later rs below.1 have.1)

  have_later : (f : HeadForm) → FormBelow (length old) f → HaveTypes (types_of old) f → HaveTypes (types_of new) f
  have_later (form.Routine r) below have = type_later r.iter r.of_type below.0.1 have
  have_later (form.Cluster ds rs) below have = routines_later rs below.1 have

  -- and a head tells the same
  head_later : (h : Head) → FormBelow (length old) h.form → head_told (types_of new) h ≡ head_told (types_of old) h
  head_later h below = first_of (head_told (types_of new) h) (head_told (types_of old) h) (heads_later old new grows (h ∷ []) (one h below))
    where
      first_of : (a b : Specification) → a ∷ [] ≡ b ∷ [] → a ≡ b
      first_of a b e = cc

      one : (h : Head) → FormBelow (length old) h.form → (i : ℕ) (g : Head) → slice_get (h ∷ []) i ≡ Some g → FormBelow (length old) g.form
      one h below zero g at = subst (λ (x : Head). FormBelow (length old) x.form) (same_Some h g at) below
      one h below (suc i) g at = absurd (none-some g at)

types_there : (nodes : List Node) (rounds : List Round) (ds : List Declared) (values : List Value) (bits : List Bool) (old new : List Term) → IsArena new → (heads : Heads) → AreHeadsOf nodes rounds ds values bits old new heads
    → (i : ℕ) (h : Head) → slice_get heads.modules.items i ≡ Some h → HaveTypes (types_of new) h.form
unfolding AreHeadsOf
types_there nodes rounds ds values bits old new arena heads are = types_fit are.0 old new arena heads are.2

-- ---- lists that are the same at each place

record IsSame {A B C : Type 0} (f : A → C) (g : B → C) (ys : List B) (i : ℕ) (x : A) : Type 0 where
  its : B
  there_is : slice_get ys i ≡ Some its
  same_is : f x ≡ g its

module _ {A B C : Type 0} (f : A → C) (g : B → C) where
  rest_same : (x : A) (xs : List A) (y : B) (ys : List B) → ((i : ℕ) (z : A) → slice_get (x ∷ xs) i ≡ Some z → IsSame f g (y ∷ ys) i z) → (i : ℕ) (z : A) → slice_get xs i ≡ Some z → IsSame f g ys i z
  rest_same x xs y ys each i z at =
      let s : IsSame f g (y ∷ ys) (suc i) z = each (suc i) z at in
      record { its = s.its; there_is = s.there_is; same_is = s.same_is }

  all_same : (xs : List A) (ys : List B) → length xs ≡ length ys → ((i : ℕ) (x : A) → slice_get xs i ≡ Some x → IsSame f g ys i x) → map f xs ≡ map g ys
  all_same [] [] size each = refl
  all_same [] (y ∷ ys) size each = absurd (omega (arith, size))
  all_same (x ∷ xs) [] size each = absurd (omega (arith, size))
  all_same (x ∷ xs) (y ∷ ys) size each =
      let s : IsSame f g (y ∷ ys) zero x = each zero x refl in
      ap₂ (λ (c : C) (cs : List C). c ∷ cs) (s.same_is ∙ ap g (sym (same_Some y s.its s.there_is))) (all_same xs ys (omega (arith, size)) (rest_same x xs y ys each))

modules_size : (items : ℕ → Item) (ns : List ℕ) → length (modules_at items ns) ≡ length ns
modules_size items [] = refl
modules_size items (n ∷ ns) = ap (λ (k : ℕ). suc k) (modules_size items ns)

own_size : (t : Text) (f : File) (parsed : IsParsed t f.nodes) → AreRounds f.nodes f.rounds → length (own_specifications f) ≡ length (modules f.nodes)
own_size t f parsed are =
    let ns : List ℕ = (root t f.nodes f.rounds parsed are).children in
    ap (λ (ss : List Specification). length ss) (ap (map (specification_of f)) (root_parts t f.nodes f.rounds parsed are).1)
    ∙ length-map (modules_at (item_at f.nodes) ns) (specification_of f) ∙ modules_size (item_at f.nodes) ns
    ∙ ap (λ (ms : List ℕ). length ms) (sym (modules_are t f.nodes f.rounds parsed are))

-- ---- by the tables of a check

module _ (t : Text) (nodes : List Node) (parsed : IsParsed t nodes) (library : List Spec) (asked : Extent) (all : List Spec) (has : AreOwn nodes library asked all)
    (few : AreFew nodes has.is.rounds) (few_modules : length (modules nodes) + length library < 2 ^ 32 - 1) (grammar : IsOfGrammar nodes has.is.rounds) (held : IsLibrary library) where
  abbrev is : IsFirst nodes library asked None
  is = has.is

  abbrev h : Headed
  h = is.is.is.headed

  abbrev heads : List Head
  heads = h.heads.now.modules.items

  abbrev terms : List Term
  terms = is.is.is.terms

  abbrev last : List Term
  last = is.is.is.is.is.known.tables.types.now

  abbrev checked : File
  checked = file nodes library asked None is (map specification_told library)

  grown : Grows terms last
  grown = grows_on terms is.is.is.is.terms last is.is.is.is.grows is.is.is.is.is.asks.grows

  made : AreMade last heads all
  made = subst (λ (g : Headed). AreMade last g.heads.now.modules.items all) is.is.is.is.is.headed_is has.made

  same_nodes : h.file.syntax.now ≡ nodes
  same_nodes = ap (λ (g : Read). g.syntax.now) is.is.is.file_is ∙ is.is.nodes_are

  size : length all ≡ length (modules nodes)
  size = sym (sym (length-map (modules nodes) (name_of nodes)) ∙ ap (λ (xs : List (Option (List ℕ))). length xs) has.named ∙ length-map all (λ (s : Spec). Some s.name))

  -- the numbers of a head are those of the arena in which heads are made
  below : (i : ℕ) (g : Head) → i < length all → slice_get heads i ≡ Some g → FormBelow (length terms) g.form
  below i g inside at =
      let count : ℕ = h.file.bindings.now.modules.of_file in
      let many : count ≡ length (modules nodes) = (own_right t nodes parsed library asked None is few few_modules grammar.parameters).of_file ∙ ap (λ (ns : List Node). length (modules ns)) same_nodes in
      let less : i < count = omega (arith, inside, size, many) in
      let id : ModuleId = record { 0 = i } in
      (heads_there t nodes parsed library asked None is few few_modules held.operations).below id (own g)
      (ap (λ (b : Bool). if◌then◌else◌ {A = Option Module} b (option_map own (slice_get heads i)) (option_map kept (slice_get h.file.library.now (i - count)))) (lt-ltb i count less) ∙ ap (option_map own) at)

  typed : (i : ℕ) (g : Head) → slice_get heads i ≡ Some g → HaveTypes (types_of terms) g.form
  typed =
      types_there is.is.file.syntax.now is.is.file.rounds.now is.is.file.names.now.declared.items is.is.file.values.now is.is.is.refused is.is.types terms (headed_arena t nodes parsed library asked None is few few_modules) h.heads.now
      is.is.is.heads

  -- one of them is what its head tells
  one : (i : ℕ) (s : Spec) → i < length all → (o : Option Head) → slice_get heads i ≡ o → IsMadeIf last o s → IsSame specification_told specification_kept (own_specifications checked) i s
  one i s inside None at is_made = absurd is_made
  one i s inside (Some g) at is_made =
      let made_of : IsMade last g s = is_made in
      let under : FormBelow (length terms) g.form = below i g inside at in
      let tells : head_told (types_of last) g ≡ head_told (types_of terms) g = head_later terms last grown g under in
      record {
        its = head_told (types_of terms) g;
        there_is = ap (λ (ss : List Specification). slice_get ss i) (sym (heads_right t nodes parsed library asked None is few few_modules grammar.parameters)) ∙ slice_get-map (head_told (types_of terms)) heads i ∙ ap (option_map (head_told (types_of terms))) at;
        same_is = specification_is last g s made_of.name made_of.kinds (have_later terms last grown g.form under (typed i g at)) made_of.form ∙ ap specification_kept tells;
      }

  specified : AreSpecifications checked all
  specified =
      all_same specification_told specification_kept all (own_specifications checked) (size ∙ sym (own_size t checked parsed is.surrounded))
      (λ i s at. one i s (slice_get_within all i s at) (slice_get heads i) refl (made i s at))

-- so it is of each file of a text that is accepted
pub all_specified : (t : Text) (nodes : List Node) → IsParsed t nodes → (rounds : List Round) → AreRounds nodes rounds → AreFew nodes rounds → (library : List Spec) → length (modules nodes) + length library < 2 ^ 32 - 1 → IsOfGrammar nodes rounds → IsLibrary library
    → (asked : Extent) (all : List Spec) → AreOwn nodes library asked all → AreSpecifications (checked_file nodes rounds (map specification_told library)) all
all_specified t nodes parsed rounds are few library few_modules grammar held asked all has =
    let same : has.is.rounds ≡ rounds = unique nodes parsed.tree rounds are has.is.rounds has.is.surrounded in
    subst (λ (rs : List Round). AreSpecifications (checked_file nodes rs (map specification_told library)) all) same
    (specified t nodes parsed library asked all has (subst (AreFew nodes) (sym same) few) few_modules (subst (IsOfGrammar nodes) (sym same) grammar) held)
