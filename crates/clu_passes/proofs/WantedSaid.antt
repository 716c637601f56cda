-- What is wanted at each node is what the table says.
use Rattle.std.proofs.Common.{◌≡◌, ◌∙◌, ◌⊎◌, ℕ, ◌<◌, ◌≤◌, ◌&&◌, ◌==◌, Bool, true, false, if◌then◌else◌, List, [], ◌∷◌, length, get_or, Option, Some, None, slice_get, refl, ap, sym, subst, inl, inr, arith}
use Rattle.std.proofs.lemmas.Bool.{cases_Bool, cases_lt, eq-eqb}
use Rattle.std.proofs.lemmas.List.{get_or_past}
use Rattle.std.proofs.lemmas.Option.{get_or_from_slice_get}
use Rattle.clu_tree.specs.declared.node.Node.{Node}
use Rattle.clu_tree.specs.declared.node.NodeKind.TheVariants as kind
use Rattle.clu_syntax.specs.declared.round.Round.{Round}
use Rattle.clu_syntax.specs.declared.round.Role.{Role}
use Rattle.clu_syntax.specs.declared.round.Role.TheVariants as role
use Rattle.clu_syntax.specs.Rounds.{AreRounds, round_at, outside}
use Rattle.clu_syntax.specs.Kinds.{kind_of, kind_at}
use Rattle.clu_syntax.specs.Splits.{is_of, children_of}
use Rattle.clu_meaning.specs.Scoping.{Scope}
use Rattle.clu_checking.specs.Specifications.{Specification}
use Rattle.clu_checking.specs.Files.{File, is_kind, is_kind_at, node_children, children, children_at, round}
use Rattle.clu_checking.specs.Typing as typing
use Rattle.clu_checking.specs.Wanted as wants
use Rattle.clu_checking.specs.Wanted.{Wanted, as_role, first_name_at, begins_instance, is_first_of}
use Rattle.clu_checking.specs.ConstantRules as rules_of
use Rattle.clu_declares.proofs.Below.{same_kind}
use Rattle.clu_head.specs.There.{is_there}
use Rattle.clu_head.specs.Refused.{is_set}
use Rattle.clu_bindings.specs.declared.file.File.{File as Read}
use Rattle.clu_bindings.specs.declared.wanted.Wanted.{Wanted as WantedThere}
use Rattle.clu_bindings.specs.declared.wanted.Wanted.TheVariants as wanted
use Rattle.clu_bindings.specs.Tables.{table_to}
use Rattle.clu_bindings.specs.Wanting as said
use Rattle.clu_bindings.specs.Bindings.{AreBindings}
use Rattle.clu_bindings.specs.Readers as read
use Rattle.clu_bindings.specs.Readers.{meaning_in, wanted_in}
use Rattle.clu_name_rules.specs.ConstantRules as of_tables
use Rattle.clu_passes.specs.ConstantTables.{wanted_told, file_with, IsEquateKnown, IsFirstKnown, IsIndexKnownAt, IsWantedKnown}
use Rattle.clu_passes.proofs.Joined.{table_size, table_at}

role_told : (r : Role) → wanted_told (said.wanted_by_role r) ≡ as_role r
role_told role.Part = refl
role_told role.Object = refl
role_told role.Constant = refl
role_told role.Type = refl
role_told role.Instance = refl
role_told role.Results = refl
role_told role.LoopCall = refl

children_same : (file : File) (its : Option Node) → children_of its ≡ node_children file its
children_same file (Some node) = refl
children_same file None = refl

module _ (r : Read) (scope : Scope) (library : List Specification) (refused : List ℕ) where
  abbrev f : File
  f = file_with r scope library refused

  index_same : (p : ℕ) → is_there kind.Index (slice_get r.syntax.now p) ≡ is_kind f kind.Index p
  index_same p = by (slice_get r.syntax.now p) refl
    where
      by : (its : Option Node) → slice_get r.syntax.now p ≡ its → is_there kind.Index its ≡ is_kind f kind.Index p
      by None e = sym (ap (λ (o : Option Node). is_of kind.Index (kind_of o)) e)
      by (Some node) e = sym (ap (λ (o : Option Node). is_of kind.Index (kind_of o)) e)

  module _ (takers : (n : ℕ) → IsEquateKnown r (meaning_in r n) → read.takes_actuals r n ≡ (is_kind f kind.Name n && typing.takes_actuals f n (first_name_at f n))) where
    in_brackets : (t first : Bool) → wanted_told (if t then (if first then wanted.NameWithActuals else wanted.Constant) else wanted.Object) ≡ wants.wanted_in_brackets f t first
    in_brackets true true = refl
    in_brackets true false = refl
    in_brackets false first = refl

    brackets_told : (cs : List ℕ) (n : ℕ) → IsFirstKnown r cs → wanted_told (said.wanted_in_brackets r.bindings.now.takes_actuals.items cs n) ≡ wants.wanted_in_brackets f (begins_instance f cs) (is_first_of f cs n)
    brackets_told [] n known = refl
    brackets_told (c ∷ cs) n known = in_brackets (read.takes_actuals r c) (c == n) ∙ ap (λ (t : Bool). wants.wanted_in_brackets f t (c == n)) (takers c known)

    below_told : (n : ℕ) (o : Option ℕ) → (round f n).parent ≡ o → IsIndexKnownAt r o → wanted_told (said.wanted_below r.bindings.now.takes_actuals.items r.syntax.now o (round_at r.rounds.now n).role n) ≡ wants.wanted f n
    below_told n None e known =
        role_told (round_at r.rounds.now n).role ∙ sym (ap (λ (o : Option ℕ). wants.wanted_by f (is_kind_at f kind.Index o) n) e)
    below_told n (Some p) e known = elim (cases_Bool (is_kind f kind.Index p)) [
      | inl hit ↦
          (ap (λ (b : Bool). wanted_told (if b then said.wanted_in_brackets r.bindings.now.takes_actuals.items (children_of (slice_get r.syntax.now p)) n else said.wanted_by_role (round_at r.rounds.now n).role)) (index_same p ∙ hit)
          ∙ ap (λ (cs : List ℕ). wanted_told (said.wanted_in_brackets r.bindings.now.takes_actuals.items cs n)) (children_same f (slice_get r.syntax.now p))
          ∙ brackets_told (children f p) n (subst (IsFirstKnown r) (children_same f (slice_get r.syntax.now p)) (known (same_kind kind.Index (kind_at r.syntax.now p) hit)))
          ∙ sym (ap (λ (o : Option ℕ). wants.wanted_in_brackets f (begins_instance f (children_at f o)) (is_first_of f (children_at f o) n)) e)
          ∙ sym (ap (λ (b : Bool). wants.wanted_by f b n) (ap (is_kind_at f kind.Index) e ∙ hit)))
      | inr miss ↦
          (ap (λ (b : Bool). wanted_told (if b then said.wanted_in_brackets r.bindings.now.takes_actuals.items (children_of (slice_get r.syntax.now p)) n else said.wanted_by_role (round_at r.rounds.now n).role)) (index_same p ∙ miss)
          ∙ role_told (round_at r.rounds.now n).role
          ∙ sym (ap (λ (b : Bool). wants.wanted_by f b n) (ap (is_kind_at f kind.Index) e ∙ miss)))
    ]

    module _ (are : AreRounds r.syntax.now r.rounds.now) (tables : AreBindings r.syntax.now r.rounds.now r.names.now r.values.now r.bindings.now) where
      abbrev at : ℕ → WantedThere
      at n = said.wanted_at r.bindings.now.takes_actuals.items r.syntax.now r.rounds.now n

      pub wanted_said : (n : ℕ) → IsWantedKnown r n → wanted_told (wanted_in r n) ≡ wants.wanted f n
      wanted_said n known = elim (cases_lt n (length r.syntax.now)) [
        | inl less ↦
            (ap (λ (xs : List WantedThere). wanted_told (get_or xs n wanted.Nothing)) tables.wanted
            ∙ ap wanted_told (get_or_from_slice_get (table_to at (length r.syntax.now)) n (at n) wanted.Nothing (table_at at (length r.syntax.now) n less))
            ∙ below_told n (round f n).parent refl known)
        | inr past ↦
            (let size : length (table_to at (length r.syntax.now)) ≡ length r.syntax.now = table_size at (length r.syntax.now) in
            let rounds : length r.rounds.now ≡ length r.syntax.now = are.size in
            let none : round_at r.rounds.now n ≡ outside = get_or_past r.rounds.now n outside (omega (arith, rounds, past)) in
            ap (λ (xs : List WantedThere). wanted_told (get_or xs n wanted.Nothing)) tables.wanted
            ∙ ap wanted_told (get_or_past (table_to at (length r.syntax.now)) n wanted.Nothing (omega (arith, size, past)))
            ∙ sym (ap (λ (r : Round). wants.wanted_by f (is_kind_at f kind.Index r.parent) n) none ∙ ap (λ (r : Round). as_role r.role) none))
      ]

  -- ---- the first in brackets stands for no constant as a whole, whatever is known of it

  bracket_first : (b : Bool) → of_tables.is_constant_wanted (if b then wanted.NameWithActuals else wanted.Object) ≡ false
  bracket_first true = refl
  bracket_first false = refl

  instance_first : (b : Bool) → rules_of.is_constant_wanted (wants.wanted_in_brackets f b true) ≡ false
  instance_first true = refl
  instance_first false = refl

  module _ (n p : ℕ) (cs : List ℕ) (up : (round f n).parent ≡ Some p) (is : kind_at r.syntax.now p ≡ kind.Index) (begins : children f p ≡ n ∷ cs) where
    abbrev takes : List Bool
    takes = r.bindings.now.takes_actuals.items

    abbrev wanted_first : ℕ → WantedThere
    wanted_first m = said.wanted_at r.bindings.now.takes_actuals.items r.syntax.now r.rounds.now m

    pub first_said : AreBindings r.syntax.now r.rounds.now r.names.now r.values.now r.bindings.now → n < length r.syntax.now → of_tables.is_constant_wanted (wanted_in r n) ≡ false
    first_said tables less =
        ap (λ (xs : List WantedThere). of_tables.is_constant_wanted (get_or xs n wanted.Nothing)) tables.wanted
        ∙ ap of_tables.is_constant_wanted (get_or_from_slice_get (table_to wanted_first (length r.syntax.now)) n (wanted_first n) wanted.Nothing (table_at wanted_first (length r.syntax.now) n less))
        ∙ ap (λ (o : Option ℕ). of_tables.is_constant_wanted (said.wanted_below takes r.syntax.now o (round_at r.rounds.now n).role n)) up
        ∙ ap (λ (b : Bool). of_tables.is_constant_wanted (if b then said.wanted_in_brackets takes (children_of (slice_get r.syntax.now p)) n else said.wanted_by_role (round_at r.rounds.now n).role)) (index_same p ∙ ap (is_of kind.Index) is)
        ∙ ap (λ (xs : List ℕ). of_tables.is_constant_wanted (said.wanted_in_brackets takes xs n)) (children_same f (slice_get r.syntax.now p) ∙ begins)
        ∙ ap (λ (b : Bool). of_tables.is_constant_wanted (if is_set (slice_get takes n) then (if b then wanted.NameWithActuals else wanted.Constant) else wanted.Object)) (eq-eqb n n refl)
        ∙ bracket_first (is_set (slice_get takes n))

    pub first_asked : rules_of.is_constant_wanted (wants.wanted f n) ≡ false
    first_asked =
        ap (λ (b : Bool). rules_of.is_constant_wanted (wants.wanted_by f b n)) (ap (is_kind_at f kind.Index) up ∙ ap (is_of kind.Index) is)
        ∙ ap (λ (o : Option ℕ). rules_of.is_constant_wanted (wants.wanted_in_brackets f (begins_instance f (children_at f o)) (is_first_of f (children_at f o) n))) up
        ∙ ap (λ (xs : List ℕ). rules_of.is_constant_wanted (wants.wanted_in_brackets f (begins_instance f xs) (is_first_of f xs n))) begins
        ∙ ap (λ (b : Bool). rules_of.is_constant_wanted (wants.wanted_in_brackets f (begins_instance f (n ∷ cs)) b)) (eq-eqb n n refl)
        ∙ instance_first (begins_instance f (n ∷ cs))
