-- The bits that come of asking equates in their order say in which a type is refused, and so the nodes at which types are refused by tables
-- are those at which they are.
use Rattle.std.proofs.Common.{◌≡◌, ◌∙◌, ℕ, ◌<◌, ◌&&◌, ◌||◌, not, Bool, true, false, List, [], ◌∷◌, length, codes, is_some, Some, None, refl, sym, ap, arith}
use Rattle.std.specs.Prelude.{slice_get}
use Rattle.std.specs.List.{AllByRecursion, list_any}
use Rattle.std.proofs.lemmas.Option.{slice_get_within}
use Rattle.clu_base.specs.declared.rules.Rule.{Rule}
use Rattle.clu_base.specs.declared.rules.Rule.TheVariants as rule
use Rattle.clu_tree.specs.declared.node.Node.{Node}
use Rattle.clu_tree.specs.declared.node.NodeKind.{NodeKind}
use Rattle.clu_tree.specs.declared.node.NodeKind.TheVariants as kind
use Rattle.clu_parser.specs.Trees.{Text}
use Rattle.clu_syntax.specs.declared.words.SimpleType.TheVariants as simple
use Rattle.clu_syntax.specs.Items.{Item}
use Rattle.clu_syntax.specs.Syntax.{Identifier}
use Rattle.clu_names.specs.Scopes.{declarations}
use Rattle.clu_checking.specs.Specifications.{Specification}
use Rattle.clu_checking.specs.Files.{File, scope_in, is_kind, item, kind_in, names, round}
use Rattle.clu_checking.specs.Equates.{is_bad_name, is_circular, names_unfolded}
use Rattle.clu_checking.specs.ConstantRules.{has_bad_constant, has_bad_type, is_bad_rep, is_long_constant, is_long_type, is_neither, is_no_type as has_no_type, is_too_long, is_type_wanted, is_word}
use Rattle.clu_checking.specs.Wanted.{first_name_at, wanted, wants_type}
use Rattle.clu_checking.specs.Rules as definition
use Rattle.clu_checking.specs.Rules.{least}
use Rattle.clu_checking.specs.Refusals.{is_bad_of, is_no_type_at, rules_of_types}
use Rattle.clu_settle.specs.declared.value.Value.TheVariants as value
use Rattle.clu_settle.specs.Lists.{value_of}
use Rattle.clu_settle.specs.Lost.{IsLost}
use Rattle.clu_settle.specs.Meant.{meanings_of}
use Rattle.clu_name_rules.specs.declared.tables.Tables.{Tables}
use Rattle.clu_type_rules.specs.Asked.{rules_at}
use Rattle.clu_type_rules.specs.Rules.{violates_of_types}
use Rattle.clu_passes.specs.Clear.{IsOutside}
use Rattle.clu_passes.specs.ConstantTables.{file_with}
use Rattle.clu_passes.specs.Made.{AreMade}
use Rattle.clu_passes.specs.Notes.{AreRepeated}
use Rattle.clu_passes.specs.Refusing.{AgreeInEquates, AgreeWithin, IsOrder, bits_in, is_no_type, is_of_types, of_types}
use Rattle.clu_passes.specs.Tables.{AreMeanings}
use Rattle.clu_passes.specs.Trees.{IsFileOfTree}
use Rattle.clu_passes.specs.Turns.{bit}
use Rattle.clu_passes.proofs.BadEquates.{names_are, violates_same}
use Rattle.clu_passes.proofs.ValuesKnown as at
use Rattle.clu_passes.proofs.ClearBelow.{equate_inside, from_equate, from_upto}
use Rattle.clu_passes.proofs.FaultsFound.{least_of_types}
use Rattle.clu_passes.proofs.ReadBits.{faults_of_types_alone}
use Rattle.clu_passes.proofs.RightBits as right
use Rattle.clu_passes.proofs.RightBits.{agree_same}
use Rattle.clu_passes.proofs.StepsEnough.{in_equate}
use Rattle.clu_passes.proofs.TypesAgree.{types_agree}

-- ---- rules by which types are refused read bad equates by their names alone

module _ (f : File) (b c : ℕ → Bool) (n : ℕ) (same : (name : Identifier) → is_bad_name f b n name ≡ is_bad_name f c n name) where
  constant_same : (k : NodeKind) → has_bad_constant f b k n ≡ has_bad_constant f c k n
  constant_same kind.Name = ap (λ (x : Bool). x && not (is_type_wanted f b (wanted f n) n)) (same (first_name_at f n))
  constant_same kind.File = refl
  constant_same _ = refl

  any_same : (its : List Identifier) → list_any (is_bad_name f b n) its ≡ list_any (is_bad_name f c n) its
  any_same [] = refl
  any_same (name ∷ its) = ap (λ (x : Bool). x || list_any (is_bad_name f b n) its) (same name) ∙ ap (λ (x : Bool). is_bad_name f c n name || x) (any_same its)

  type_same : (k : NodeKind) → has_bad_type f b k n ≡ has_bad_type f c k n
  type_same kind.Name = ap (λ (x : Bool). x && is_type_wanted f b (wanted f n) n) (same (first_name_at f n))
  type_same kind.NameT = same (first_name_at f n)
  type_same kind.Simple = ap (λ (x : Bool). is_word simple.Rep (item f n).type && x) (same (codes "rep"))
  type_same kind.Restrict = any_same (names f n)
  type_same kind.File = refl
  type_same _ = refl

  pub types_same : (r : Rule) → of_types (definition.violates f b n) r ≡ of_types (definition.violates f c n) r
  types_same rule.NotConstant = ap (λ (x : Bool). (is_neither f n && not (wants_type f n)) || x || is_too_long f is_long_constant n) (constant_same (kind_in f n))
  types_same rule.NotType = ap (λ (x : Bool). (is_neither f n && wants_type f n) || is_bad_rep f n || has_no_type f (kind_in f n) n || x || is_too_long f is_long_type n) (type_same (kind_in f n))
  types_same rule.LiteralRange = refl
  types_same _ = refl

module _ (t : Text) (its : Tables) (library : List Specification) (refused : List ℕ) (all : AreMade t its library refused)
    (lost : (n : ℕ) → n < length its.file.syntax.now → value_of its.file.values.now n ≡ value.Lost → IsLost its.file.syntax.now (meanings_of its.file.syntax.now its.file.rounds.now (declarations its.file.syntax.now its.file.rounds.now)) n)
    (meant : AreMeanings (file_with its.file (scope_in its.file.syntax.now its.file.rounds.now) library refused) its.file.names.now its.file.bindings.now.meanings.items)
    (repeated : AreRepeated (file_with its.file (scope_in its.file.syntax.now its.file.rounds.now) library refused) its.items.now.repeated.items)
    (items : ℕ → Item) (order : List ℕ) (circular : List Bool) (its_order : IsOrder (file_with its.file (scope_in its.file.syntax.now its.file.rounds.now) library refused) its.file.names.now order circular) where
  abbrev f : File
  f = file_with its.file (scope_in its.file.syntax.now its.file.rounds.now) library refused

  abbrev of_file : IsFileOfTree f
  of_file = at.of_tree t its library refused all lost

  abbrev types_bad : ℕ → Bool
  types_bad = is_bad_of f (rules_of_types f)

  abbrev bits : List Bool
  bits = bits_in f order (is_no_type its items)

  abbrev found : ℕ → Rule → Bool
  found n = violates_of_types its bits items n

  abbrev violated : (ℕ → Bool) → ℕ → Rule → Bool
  violated bad n = of_types (definition.violates f bad n)

  more_read : (n : ℕ) (its_names : List Identifier) → AllByRecursion (λ (name : Identifier). is_bad_name f (bit bits) n name ≡ is_bad_name f types_bad n name) its_names →
      AllByRecursion (λ (name : Identifier). is_bad_name f types_bad n name ≡ true → is_bad_name f (bit bits) n name ≡ true) its_names
  more_read n [] same = tt
  more_read n (name ∷ rest) same = (λ hit. same.0 ∙ hit, more_read n rest same.1)

  once : right.AgreeOnce f of_file its.file.names.now order circular its_order (is_no_type its items) (faults_of_types_alone its items) found (λ n. refl) (rules_of_types f) violated
      (λ bad n. least_of_types f of_file bad n) (λ b c n same r. ap (λ (x : Bool). is_of_types r && x) (same r))
  once e equate read n low inside before =
      let bound : e < length f.nodes = equate_inside f of_file e equate in
      agree_same (found n) (violated (bit bits) n) (violated types_bad n)
      (λ r. ap (λ (x : Bool). is_of_types r && x) (violates_same f of_file (bit bits) types_bad n (in_equate f of_file e equate n low inside) (read n low inside) r)) (rules_at (kind_in f n))
      (types_agree t its library refused all lost meant repeated items bits (bit bits) (λ e is. refl) n (omega (arith, inside, bound)) (record { low = (round f e).first; from = from_equate f of_file (at.parents t its library refused all lost) e equate n low inside; clear = before }) (more_read n (names_unfolded f (kind_in f n) n) (read n low inside)))

  pub bits_right : (e : ℕ) → is_kind f kind.Equate e ≡ true → is_circular f e ≡ false → bit bits e ≡ types_bad e
  bits_right =
      right.bits_are f of_file its.file.names.now order circular its_order (is_no_type its items) (faults_of_types_alone its items) found (λ n. refl) (rules_of_types f) violated
      (λ bad n. least_of_types f of_file bad n) (λ b c n same r. ap (λ (x : Bool). is_of_types r && x) (same r)) once

  pub agree_in_equates : AgreeInEquates f found (violated (bit bits))
  agree_in_equates =
      right.agree_in f of_file its.file.names.now order circular its_order (is_no_type its items) (faults_of_types_alone its items) found (λ n. refl) (rules_of_types f) violated
      (λ bad n. least_of_types f of_file bad n) (λ b c n same r. ap (λ (x : Bool). is_of_types r && x) (same r)) once

  -- ---- at other nodes

  named : (n : ℕ) (name : Identifier) → is_bad_name f (bit bits) n name ≡ is_bad_name f types_bad n name
  named = names_are f (bit bits) types_bad bits_right

  all_named : (n : ℕ) (its_names : List Identifier) → AllByRecursion (λ (name : Identifier). is_bad_name f (bit bits) n name ≡ is_bad_name f types_bad n name) its_names
  all_named n [] = tt
  all_named n (name ∷ rest) = (named n name, all_named n rest)

  no_fault : (m : ℕ) → least (violated types_bad m) (rules_at (kind_in f m)) ≡ None → is_no_type_at f m ≡ false
  no_fault m none_there = ap is_some (sym (least_of_types f of_file types_bad m) ∙ none_there)

  pub agree_within : (n : ℕ) (node : Node) → slice_get f.nodes n ≡ Some node → IsOutside f n → AgreeWithin f found (violated types_bad) n
  agree_within n node there outside m low high before =
      let inside : n < length f.nodes = slice_get_within f.nodes n node there in
      agree_same (found m) (violated (bit bits) m) (violated types_bad m) (types_same f (bit bits) types_bad m (named m)) (rules_at (kind_in f m))
      (types_agree t its library refused all lost meant repeated items bits (bit bits) (λ e is. refl) m (omega (arith, high, inside))
      (record { low = (round f n).first; from = from_upto f of_file n node there outside m low (omega (arith, high)); clear = λ i from less. no_fault i (before i from less) }) (more_read m (names_unfolded f (kind_in f m) m) (all_named m (names_unfolded f (kind_in f m) m))))
