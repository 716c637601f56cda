-- Whether a name is defined twice at a node, by the bits of names that stand twice and by the places of declarations.
use Rattle.std.proofs.Common.{◌≡◌, ◌∙◌, ℕ, zero, suc, ◌-◌, ◌^◌, ◌<◌, ◌≤◌, ◌&&◌, ◌||◌, Bool, true, false, List, [], ◌∷◌, length, get_or, take, drop, slice_get, Option, Some, None, refl, sym, ap, ap₂, subst, arith}
use Rattle.std.specs.List.{list_any}
use Rattle.std.proofs.Math.Bool.{or-false, or_comm, or-true}
use Rattle.std.proofs.lemmas.Bool.{true≢false, and_parts, and_from}
use Rattle.clu_tree.specs.declared.node.Node.{Node}
use Rattle.clu_tree.specs.declared.node.NodeKind.{NodeKind}
use Rattle.clu_tree.specs.declared.node.NodeKind.TheVariants as kind
use Rattle.clu_parser.specs.Trees.{Text}
use Rattle.clu_syntax.specs.Enough.{HasEnough, least_names}
use Rattle.clu_syntax.proofs.Enough.{enough}
use Rattle.clu_syntax.specs.Kinds.{kind_of, kind_at}
use Rattle.clu_syntax.specs.Rounds.{AreRounds, round_at}
use Rattle.clu_syntax.specs.Splits.{is_of, first_name, but_last}
use Rattle.clu_syntax.specs.Syntax.{Identifier, Variable}
use Rattle.clu_syntax.specs.Items.{Item, no_item}
use Rattle.clu_syntax.specs.Nodes.{before, item_at, item_with, cluster_of}
use Rattle.clu_names.specs.declared.binding.Names.{Names}
use Rattle.clu_names.specs.declared.scopes.Declared.{Declared}
use Rattle.clu_names.specs.Scopes.{kind_at_parent, is_stream, is_module, declarations}
use Rattle.clu_meaning.specs.Counting.{variable_names}
use Rattle.clu_settle.specs.Names.{names_of}
use Rattle.clu_checking.specs.Files.{File, kind_in, is_kind_at, names, node_names}
use Rattle.clu_checking.specs.Files as checking
use Rattle.clu_checking.specs.NameRules as rules_of
use Rattle.clu_checking.specs.NameRules.{stands_twice, stands_before, names_defined, module_before, exports}
use Rattle.clu_declares.specs.Declares.{IsParsed}
use Rattle.clu_declares.proofs.Below.{item_there}
use Rattle.clu_declares.proofs.Facts.{There, there}
use Rattle.clu_declares.proofs.Haves.{module_of}
use Rattle.clu_head.specs.Refused.{is_set}
use Rattle.clu_head.specs.There.{is_there}
use Rattle.clu_bindings.specs.Files.{bound_in, is_there_at, stands_in}
use Rattle.clu_name_rules.specs.NameRules as tables
use Rattle.clu_name_rules.specs.NameRules.{has_redefined, bound_defined, declares_variable, is_listed_once, is_module_node, begins_with_stream}
use Rattle.clu_name_rules.specs.Own.{own_places}
use Rattle.clu_name_rules.specs.Repeated.{exports_at}
use Rattle.clu_passes.specs.Notes.{AreRepeated, HaveParents, DeclareModules}
use Rattle.clu_passes.specs.Tables.{AreNames}
use Rattle.clu_passes.proofs.ByNotes.{items_told, arms_told, names_told}
use Rattle.clu_passes.proofs.Known.{is_known, are_known, twice_is}
use Rattle.clu_passes.proofs.ModuleNames.{words, inner_bit, module_bit, routine_noted, cluster_noted, names_known}
use Rattle.clu_passes.proofs.Noted.{stand_twice}
use Rattle.clu_passes.proofs.OfParents.{have_parents}
use Rattle.clu_passes.proofs.OwnPlaces.{there_is}
use Rattle.clu_passes.proofs.RedeclaredInside.{redefined_told}
use Rattle.clu_passes.proofs.Units.{declare_modules, around_child}

-- ---- tests

own_case : (t r h : Bool) → (t ≡ false → r ≡ h) → ((t || r) || false) ≡ (t || (false || h))
own_case true r h e = refl
own_case false r h e = or-false r ∙ e refl

decl_case : (t r h s : Bool) → (t ≡ false → r ≡ h) → ((t || r) || s) ≡ ((t || s) || (false || h))
decl_case true r h s e = refl
decl_case false r h true e = or-true r
decl_case false r h false e = or-false r ∙ e refl

alone_case : (t r h : Bool) → t ≡ false → (t ≡ false → r ≡ h) → ((t || r) || false) ≡ h
alone_case true r h none e = absurd (true≢false none)
alone_case false r h none e = or-false r ∙ e refl

routine_case : (t r h s st mb b m : Bool) → t ≡ false → (t ≡ false → r ≡ h) → m ≡ s → (s ≡ true → st ≡ false → b ≡ mb) → (s ≡ false → b ≡ false) → ((t || r) || (s && (st || mb))) ≡ (b || ((m && st) || h))
routine_case true r h s st mb b m none e is one other = absurd (true≢false none)
routine_case false r h true true mb b m none e is one other = or-true r ∙ sym (ap (λ (x : Bool). b || ((x && true) || h)) is ∙ or-true b)
routine_case false r h true false mb b m none e is one other = or_comm r mb ∙ ap₂ (λ (x y : Bool). x || y) (sym (one refl refl)) (e refl) ∙ sym (ap (λ (x : Bool). b || ((x && false) || h)) is)
routine_case false r h false st mb b m none e is one other = or-false r ∙ e refl ∙ sym (ap₂ (λ (x y : Bool). x || ((y && st) || h)) (other refl) is)

cluster_case : (st mb tw b m : Bool) → m ≡ true → (st ≡ false → b ≡ (mb || tw)) → ((st || mb) || tw) ≡ (b || ((m && st) || false))
cluster_case true mb tw b m is one = sym (ap (λ (x : Bool). b || ((x && true) || false)) is ∙ or-true b)
cluster_case false mb tw b m is one = sym (one refl) ∙ sym (ap (λ (x : Bool). b || ((x && false) || false)) is ∙ or-false b)

once_alone : (names : List Identifier) → stands_twice (take 1 names) ≡ false
once_alone [] = refl
once_alone (x ∷ names) = refl

variable_alone : (x : Option Variable) → stands_twice (variable_names x) ≡ false
variable_alone None = refl
variable_alone (Some x) = refl

known_take : (all : List Identifier) (k : ℕ) (names : List Identifier) → are_known all names ≡ true → are_known all (take k names) ≡ true
known_take all zero names h = refl
known_take all (suc k) [] h = refl
known_take all (suc k) (x ∷ names) h = let parts = and_parts (is_known all x) (are_known all names) h in and_from (is_known all x) (are_known all (take k names)) parts.0 (known_take all k names parts.1)

known_drop : (all : List Identifier) (k : ℕ) (names : List Identifier) → are_known all names ≡ true → are_known all (drop k names) ≡ true
known_drop all zero names h = h
known_drop all (suc k) [] h = refl
known_drop all (suc k) (x ∷ names) h = known_drop all k names (and_parts (is_known all x) (are_known all names) h).1

some_first : {A : Type 0} (names : List A) → 1 ≤ length names → (x : A) × (rest : List A) × (names ≡ x ∷ rest)
some_first [] le = absurd (omega (arith, le))
some_first (x ∷ rest) le = (x, rest, refl)

same_module : (k : NodeKind) → is_of kind.Module k ≡ is_module k kind.Routine
same_module kind.Module = refl
same_module _ = refl

module _ (t : Text) (f : File) (parsed : IsParsed t f.nodes) (are : AreRounds f.nodes f.rounds) (same : f.scope.declarations ≡ declarations f.nodes f.rounds) (few : length f.nodes < 2 ^ 32)
    (table : Names) (named : AreNames f table) (bits : List Bool) (repeated : AreRepeated f bits) (items : ℕ → Item) where
  abbrev ds : List Declared
  ds = f.scope.declarations

  abbrev bit : ℕ → Bool
  bit n = is_set (slice_get bits n)

  abbrev twice : NodeKind → ℕ → Bool
  twice k n = stands_twice (names_defined f k n)

  abbrev redefined : NodeKind → ℕ → Bool
  redefined k n = list_any (rules_of.is_redefined f n) (names_defined f k n)

  abbrev by_places : NodeKind → ℕ → Bool
  by_places k n = has_redefined ds (get_or (own_places ds (length f.nodes)) n (length ds)) (bound_defined k (names_of (slice_get f.nodes n)) (declares_variable items f.nodes n) (bound_in table n))

  abbrev of_module : ℕ → Bool
  of_module n = is_module_node f.nodes f.rounds n

  abbrev of_stream : ℕ → Bool
  of_stream n = begins_with_stream (names_of (slice_get f.nodes n))

  abbrev Goal : NodeKind → ℕ → Type 0
  Goal k n = ((twice k n || redefined k n) || rules_of.v6_by f k n) ≡ ((is_listed_once k && bit n) || ((of_module n && of_stream n) || by_places k n))

  parents : HaveParents f
  parents = have_parents t f parsed are

  modules : DeclareModules f
  modules = declare_modules t f parsed are same

  placed : (n : ℕ) (k : NodeKind) → kind_in f n ≡ k → twice k n ≡ false → redefined k n ≡ by_places k n
  placed n k e = subst (λ (j : NodeKind). twice j n ≡ false → redefined j n ≡ by_places j n) e (redefined_told t f parsed are same few table named items n)

  no_module : (n : ℕ) (k : NodeKind) → kind_in f n ≡ k → is_of kind.Cluster k ≡ false → is_of kind.Routine k ≡ false → of_module n ≡ false
  no_module n k e cluster routine =
      ap₂ (λ (a b : Bool). a || (b && stands_in f.nodes f.rounds kind.Module n))
      (sym (there_is kind.Cluster refl (slice_get f.nodes n)) ∙ ap (is_of kind.Cluster) e ∙ cluster)
      (sym (there_is kind.Routine refl (slice_get f.nodes n)) ∙ ap (is_of kind.Routine) e ∙ routine)

  of_own_list : (n : ℕ) (k : NodeKind) → kind_in f n ≡ k → bit n ≡ twice k n → of_module n ≡ false → ((twice k n || redefined k n) || false) ≡ (bit n || ((of_module n && of_stream n) || by_places k n))
  of_own_list n k e is other = own_case (twice k n) (redefined k n) (by_places k n) (placed n k e) ∙ sym (ap₂ (λ (b m : Bool). b || ((m && of_stream n) || by_places k n)) is other)

  alone : (n : ℕ) (k : NodeKind) → kind_in f n ≡ k → twice k n ≡ false → of_module n ≡ false → ((twice k n || redefined k n) || false) ≡ ((of_module n && of_stream n) || by_places k n)
  alone n k e none other = alone_case (twice k n) (redefined k n) (by_places k n) none (placed n k e) ∙ sym (ap (λ (m : Bool). (m && of_stream n) || by_places k n) other)

  in_same : (o : Option ℕ) → is_kind_at f kind.Module o ≡ is_there_at f.nodes kind.Module o
  in_same None = refl
  in_same (Some n) = there_is kind.Module refl (slice_get f.nodes n)

  above_is : (o : Option ℕ) → is_kind_at f kind.Module o ≡ is_module (kind_at_parent f.nodes o) kind.Routine
  above_is None = refl
  above_is (Some p) = same_module (kind_at f.nodes p)

  routine_told : (n : ℕ) → kind_in f n ≡ kind.Routine → Goal kind.Routine n
  routine_told n e =
      let its : There f.nodes n kind.Routine = there f.nodes n kind.Routine refl e in
      let least : least_names its.node.kind ≡ 2 = ap least_names its.is in
      let many : HasEnough its.node = enough f.nodes parsed.forms n its.node its.at in
      let first = some_first its.node.names (omega (arith, least, many.names)) in
      let names_is : names f n ≡ first.0 ∷ first.1 = ap (node_names f) its.at ∙ first.2 in
      let table_names : names_of (slice_get f.nodes n) ≡ first.0 ∷ first.1 = ap names_of its.at ∙ first.2 in
      let in_module : of_module n ≡ checking.stands_in f kind.Module n =
      ap₂ (λ (a b : Bool). a || (b && stands_in f.nodes f.rounds kind.Module n))
      (sym (there_is kind.Cluster refl (slice_get f.nodes n)) ∙ ap (is_of kind.Cluster) e)
      (sym (there_is kind.Routine refl (slice_get f.nodes n)) ∙ ap (is_of kind.Routine) e)
      ∙ sym (in_same (round_at f.rounds n).parent) in
      let module_is : checking.stands_in f kind.Module n ≡ is_module (kind_at_parent f.nodes (round_at f.rounds n).parent) its.node.kind =
      above_is (round_at f.rounds n).parent ∙ ap (is_module (kind_at_parent f.nodes (round_at f.rounds n).parent)) (sym its.is) in
      let noted = routine_noted t f parsed are same bits repeated n its.node its.at its.is in
      ap (λ (xs : List Identifier). (twice kind.Routine n || redefined kind.Routine n) || (checking.stands_in f kind.Module n && (is_stream (first_name xs) || module_before f n (first_name xs)))) names_is
      ∙ routine_case (twice kind.Routine n) (redefined kind.Routine n) (by_places kind.Routine n) (checking.stands_in f kind.Module n) (is_stream first.0) (module_before f n first.0) (bit n) (of_module n)
      (once_alone (names f n)) (placed n kind.Routine e) in_module
      (λ is plain. module_bit t f parsed are same bits repeated n its.node its.at first.0 first.1 first.2 plain (sym module_is ∙ is) ∙ ap (λ (b : Bool). module_before f n first.0 || b) noted ∙ or-false (module_before f n first.0))
      (λ other. inner_bit t f parsed are same bits repeated n its.node its.at (sym module_is ∙ other) ∙ noted)
      ∙ sym (ap (λ (xs : List Identifier). bit n || ((of_module n && begins_with_stream xs) || by_places kind.Routine n)) table_names)

  cluster_told : (n : ℕ) → kind_in f n ≡ kind.Cluster → Goal kind.Cluster n
  cluster_told n e =
      let its : There f.nodes n kind.Cluster = there f.nodes n kind.Cluster refl e in
      let least : least_names its.node.kind ≡ 3 = ap least_names its.is in
      let many : HasEnough its.node = enough f.nodes parsed.forms n its.node its.at in
      let first = some_first its.node.names (omega (arith, least, many.names)) in
      let names_is : names f n ≡ first.0 ∷ first.1 = ap (node_names f) its.at ∙ first.2 in
      let table_names : names_of (slice_get f.nodes n) ≡ first.0 ∷ first.1 = ap names_of its.at ∙ first.2 in
      let m = module_of t f.nodes f.rounds parsed are 0 [] n e in
      let up : kind_at_parent f.nodes (round_at f.rounds n).parent ≡ kind.Module =
      ap (kind_at_parent f.nodes) (around_child t f.nodes f.rounds parsed are n m.0).parent ∙ ap kind_of m.0.at ∙ m.1 in
      let is : is_module (kind_at_parent f.nodes (round_at f.rounds n).parent) its.node.kind ≡ true = ap₂ is_module up its.is in
      let in_module : of_module n ≡ true =
      ap (λ (a : Bool). a || (is_there kind.Routine (slice_get f.nodes n) && stands_in f.nodes f.rounds kind.Module n)) (sym (there_is kind.Cluster refl (slice_get f.nodes n)) ∙ ap (is_of kind.Cluster) e) in
      let exports_is : exports f n ≡ drop 1 (but_last its.node.names) =
      ap (λ (i : Item). i.cluster.exports) (item_there f.nodes n its.node its.at) ∙ ap (λ (k : NodeKind). (cluster_of (before n (item_at f.nodes)) f.nodes n its.node k).exports) its.is in
      let table_exports : exports_at f.nodes n ≡ drop 1 (but_last its.node.names) =
      ap (λ (o : Option Node). (item_with (λ m. no_item) f.nodes n o).cluster.exports) its.at ∙ ap (λ (k : NodeKind). (cluster_of (λ m. no_item) f.nodes n its.node k).exports) its.is in
      let known : are_known (words t f parsed are same bits repeated) (drop 1 (but_last its.node.names)) ≡ true =
      known_drop (words t f parsed are same bits repeated) 1 (but_last its.node.names)
      (known_take (words t f parsed are same bits repeated) (length its.node.names - 1) its.node.names (names_known t f parsed are same bits repeated n its.node its.at)) in
      let noted =
      cluster_noted t f parsed are same bits repeated n its.node its.at its.is
      ∙ ap (λ (xs : List Identifier). stand_twice (words t f parsed are same bits repeated) xs) table_exports
      ∙ twice_is (words t f parsed are same bits repeated) (drop 1 (but_last its.node.names)) known ∙ ap stands_twice (sym exports_is) in
      ap (λ (xs : List Identifier). (is_stream (first_name xs) || module_before f n (first_name xs)) || stands_twice (exports f n)) names_is
      ∙ cluster_case (is_stream first.0) (module_before f n first.0) (stands_twice (exports f n)) (bit n) (of_module n) in_module
      (λ plain. module_bit t f parsed are same bits repeated n its.node its.at first.0 first.1 first.2 plain is ∙ ap (λ (b : Bool). module_before f n first.0 || b) noted)
      ∙ sym (ap (λ (xs : List Identifier). bit n || ((of_module n && begins_with_stream xs) || false)) table_names)

  by_kind : (n : ℕ) (k : NodeKind) → kind_in f n ≡ k → Goal k n
  by_kind n kind.Equate e = of_own_list n kind.Equate e (names_told f parents modules bits repeated n kind.Equate e refl) (no_module n kind.Equate e refl refl)
  by_kind n kind.Parm e = of_own_list n kind.Parm e (names_told f parents modules bits repeated n kind.Parm e refl) (no_module n kind.Parm e refl refl)
  by_kind n kind.Init e = of_own_list n kind.Init e (names_told f parents modules bits repeated n kind.Init e refl) (no_module n kind.Init e refl refl)
  by_kind n kind.Own e = of_own_list n kind.Own e (names_told f parents modules bits repeated n kind.Own e refl) (no_module n kind.Own e refl refl)
  by_kind n kind.Others e = of_own_list n kind.Others e (names_told f parents modules bits repeated n kind.Others e refl) (no_module n kind.Others e refl refl)
  by_kind n kind.Decl e =
      decl_case (twice kind.Decl n) (redefined kind.Decl n) (by_places kind.Decl n) (stands_before f kind.Decl n) (placed n kind.Decl e)
      ∙ sym (ap₂ (λ (b m : Bool). b || ((m && of_stream n) || by_places kind.Decl n)) (items_told f parents modules bits repeated n kind.Decl e refl) (no_module n kind.Decl e refl refl))
  by_kind n kind.Exc e =
      sym (ap₂ (λ (b m : Bool). b || ((m && of_stream n) || false)) (arms_told f parents modules bits repeated n kind.Exc e refl) (no_module n kind.Exc e refl refl) ∙ or-false (stands_before f kind.Exc n))
  by_kind n kind.TagArm e = alone n kind.TagArm e (variable_alone (item_at f.nodes n).tag_arm.variable) (no_module n kind.TagArm e refl refl)
  by_kind n kind.TypeSet e = alone n kind.TypeSet e (once_alone (names f n)) (no_module n kind.TypeSet e refl refl)
  by_kind n kind.Routine e = routine_told n e
  by_kind n kind.Cluster e = cluster_told n e
  by_kind n _ e = sym (ap (λ (m : Bool). (m && of_stream n) || false) (no_module n _ e refl refl))

  pub defined_told : (n : ℕ) → rules_of.is_defined_twice f n ≡ tables.is_defined_twice items f.nodes f.rounds table bits (own_places ds (length f.nodes)) n
  defined_told n =
      by_kind n (kind_in f n) refl
      ∙ ap (λ (l : List Declared). (is_listed_once (kind_in f n) && bit n) || ((of_module n && of_stream n)
      || has_redefined l (get_or (own_places ds (length f.nodes)) n (length l)) (bound_defined (kind_in f n) (names_of (slice_get f.nodes n)) (declares_variable items f.nodes n) (bound_in table n)))) (sym named.declared)
