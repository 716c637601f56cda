-- In an accepted file no node violates a rule, whatever walk asks of it.
use Rattle.std.proofs.Common.{◌≡◌, ℕ, zero, suc, ◌+◌, ◌<◌, ◌≤◌, Bool, true, false, List, [], ◌∷◌, length, Option, None, Some, refl, sym, ap, subst, ◌∙◌, arith, inl, inr}
use Rattle.std.proofs.lemmas.Bool.{cases_order}
use Rattle.std.specs.List.{range_with_len}
use Rattle.clu_base.proofs.Lists.{some_at, none_is_not}
use Rattle.clu_base.specs.declared.rules.Rule.{Rule}
use Rattle.clu_base.specs.declared.rules.Rule.TheVariants as rule
use Rattle.clu_tree.specs.declared.node.NodeKind.{NodeKind}
use Rattle.clu_tree.specs.declared.node.NodeKind.TheVariants as kind
use Rattle.clu_checking.specs.Files.{File, kind_in, round}
use Rattle.clu_checking.specs.Rules.{violates, all_rules, least}
use Rattle.clu_checking.specs.Refusals.{headings, rest, Fault, first_among, is_bad, rules_by, rules_asked, fault_at, first_on, refused_by, refused_at, first_fault, IsAccepted}
use Rattle.laws_accepted.specs.Accepted.{KeepsRules}

-- ---- the rules of a list

abbrev NoneOf : (Rule → Bool) → List Rule → Type 0
NoneOf test [] = Unit {0}
NoneOf test (r ∷ rs) = (test r ≡ false) × NoneOf test rs

none_least : (test : Rule → Bool) (rules : List Rule) → least test rules ≡ None → NoneOf test rules
none_least test [] e = tt
none_least test (r ∷ rs) e = by (test r) refl e (λ k. none_least test rs k)
  where
    by : (b : Bool) → test r ≡ b → elim b as (λ _. Option Rule) [ true ↦ Some r | false ↦ least test rs ] ≡ None → (least test rs ≡ None → NoneOf test rs) → NoneOf test (r ∷ rs)
    by true is e later = none_is_not r (sym e)
    by false is e later = (is, later e)

-- rules that are asked before there is a tree
record Others (test : Rule → Bool) : Type 0 where
  token : test rule.Token ≡ false
  syntax : test rule.Syntax ≡ false
  depth : test rule.TooDeep ≡ false

each : (test : Rule → Bool) → NoneOf test all_rules → Others test → (x : Rule) → test x ≡ false
each test h others rule.Token = others.token
each test h others rule.Syntax = others.syntax
each test h others rule.TooDeep = others.depth
each test h others rule.LiteralRange = h.0
each test h others rule.UnknownName = h.1.0
each test h others rule.DefinedTwice = h.1.1.0
each test h others rule.CircularEquate = h.1.1.1.0
each test h others rule.NotConstant = h.1.1.1.1.0
each test h others rule.NotType = h.1.1.1.1.1.0
each test h others rule.Real = h.1.1.1.1.1.1.0
each test h others rule.NoOperation = h.1.1.1.1.1.1.1.0
each test h others rule.ArgumentCount = h.1.1.1.1.1.1.1.1.0
each test h others rule.ArgumentType = h.1.1.1.1.1.1.1.1.1.0
each test h others rule.ResultCount = h.1.1.1.1.1.1.1.1.1.1.0
each test h others rule.AssignType = h.1.1.1.1.1.1.1.1.1.1.1.0
each test h others rule.NotBool = h.1.1.1.1.1.1.1.1.1.1.1.1.0
each test h others rule.Selectors = h.1.1.1.1.1.1.1.1.1.1.1.1.1.0
each test h others rule.WhereNotMet = h.1.1.1.1.1.1.1.1.1.1.1.1.1.1.0
each test h others rule.ParameterKind = h.1.1.1.1.1.1.1.1.1.1.1.1.1.1.1.0
each test h others rule.NotInTypeSet = h.1.1.1.1.1.1.1.1.1.1.1.1.1.1.1.1.0
each test h others rule.NotTagged = h.1.1.1.1.1.1.1.1.1.1.1.1.1.1.1.1.1.0
each test h others rule.TagMissingOrTwice = h.1.1.1.1.1.1.1.1.1.1.1.1.1.1.1.1.1.1.0
each test h others rule.ArmTypes = h.1.1.1.1.1.1.1.1.1.1.1.1.1.1.1.1.1.1.1.0
each test h others rule.ArmTwice = h.1.1.1.1.1.1.1.1.1.1.1.1.1.1.1.1.1.1.1.1.0
each test h others rule.SignalNotListed = h.1.1.1.1.1.1.1.1.1.1.1.1.1.1.1.1.1.1.1.1.1.0
each test h others rule.SignalTypes = h.1.1.1.1.1.1.1.1.1.1.1.1.1.1.1.1.1.1.1.1.1.1.0
each test h others rule.ExitNoArm = h.1.1.1.1.1.1.1.1.1.1.1.1.1.1.1.1.1.1.1.1.1.1.1.0
each test h others rule.NotInLoop = h.1.1.1.1.1.1.1.1.1.1.1.1.1.1.1.1.1.1.1.1.1.1.1.1.0
each test h others rule.NotInIterator = h.1.1.1.1.1.1.1.1.1.1.1.1.1.1.1.1.1.1.1.1.1.1.1.1.1.0
each test h others rule.ReturnValues = h.1.1.1.1.1.1.1.1.1.1.1.1.1.1.1.1.1.1.1.1.1.1.1.1.1.1.0
each test h others rule.CvtPlace = h.1.1.1.1.1.1.1.1.1.1.1.1.1.1.1.1.1.1.1.1.1.1.1.1.1.1.1.0
each test h others rule.UpDown = h.1.1.1.1.1.1.1.1.1.1.1.1.1.1.1.1.1.1.1.1.1.1.1.1.1.1.1.1.0
each test h others rule.ExportMissing = h.1.1.1.1.1.1.1.1.1.1.1.1.1.1.1.1.1.1.1.1.1.1.1.1.1.1.1.1.1.0
each test h others rule.EndName = h.1.1.1.1.1.1.1.1.1.1.1.1.1.1.1.1.1.1.1.1.1.1.1.1.1.1.1.1.1.1.0
each test h others rule.RoutineTooLarge = h.1.1.1.1.1.1.1.1.1.1.1.1.1.1.1.1.1.1.1.1.1.1.1.1.1.1.1.1.1.1.1.0
each test h others rule.IteratorUse = h.1.1.1.1.1.1.1.1.1.1.1.1.1.1.1.1.1.1.1.1.1.1.1.1.1.1.1.1.1.1.1.1.0
each test h others rule.OwnPlace = h.1.1.1.1.1.1.1.1.1.1.1.1.1.1.1.1.1.1.1.1.1.1.1.1.1.1.1.1.1.1.1.1.1.0

-- at a node of a definition each walk asks a part of the rules, elsewhere one of them asks all
all_asked : (test : Rule → Bool) (k : NodeKind) (in_heading : Bool) → NoneOf test (rules_by k headings in_heading) → NoneOf test (rules_by k rest in_heading) → NoneOf test all_rules
all_asked test kind.Module in_heading a b = (b.0, (b.1.0, (a.0, (b.1.1.0, (b.1.1.1.0, (b.1.1.1.1.0, (b.1.1.1.1.1.0, (b.1.1.1.1.1.1.0, (b.1.1.1.1.1.1.1.0, (b.1.1.1.1.1.1.1.1.0, (b.1.1.1.1.1.1.1.1.1.0, (b.1.1.1.1.1.1.1.1.1.1.0, (b.1.1.1.1.1.1.1.1.1.1.1.0, (b.1.1.1.1.1.1.1.1.1.1.1.1.0, (b.1.1.1.1.1.1.1.1.1.1.1.1.1.0, (b.1.1.1.1.1.1.1.1.1.1.1.1.1.1.0, (b.1.1.1.1.1.1.1.1.1.1.1.1.1.1.1.0, (b.1.1.1.1.1.1.1.1.1.1.1.1.1.1.1.1.0, (b.1.1.1.1.1.1.1.1.1.1.1.1.1.1.1.1.1.0, (b.1.1.1.1.1.1.1.1.1.1.1.1.1.1.1.1.1.1.0, (b.1.1.1.1.1.1.1.1.1.1.1.1.1.1.1.1.1.1.1.0, (b.1.1.1.1.1.1.1.1.1.1.1.1.1.1.1.1.1.1.1.1.0, (b.1.1.1.1.1.1.1.1.1.1.1.1.1.1.1.1.1.1.1.1.1.0, (b.1.1.1.1.1.1.1.1.1.1.1.1.1.1.1.1.1.1.1.1.1.1.0, (b.1.1.1.1.1.1.1.1.1.1.1.1.1.1.1.1.1.1.1.1.1.1.1.0, (b.1.1.1.1.1.1.1.1.1.1.1.1.1.1.1.1.1.1.1.1.1.1.1.1.0, (b.1.1.1.1.1.1.1.1.1.1.1.1.1.1.1.1.1.1.1.1.1.1.1.1.1.0, (b.1.1.1.1.1.1.1.1.1.1.1.1.1.1.1.1.1.1.1.1.1.1.1.1.1.1.0, (b.1.1.1.1.1.1.1.1.1.1.1.1.1.1.1.1.1.1.1.1.1.1.1.1.1.1.1.0, (a.1.0, (b.1.1.1.1.1.1.1.1.1.1.1.1.1.1.1.1.1.1.1.1.1.1.1.1.1.1.1.1.0, (b.1.1.1.1.1.1.1.1.1.1.1.1.1.1.1.1.1.1.1.1.1.1.1.1.1.1.1.1.1.0, (b.1.1.1.1.1.1.1.1.1.1.1.1.1.1.1.1.1.1.1.1.1.1.1.1.1.1.1.1.1.1.0, (b.1.1.1.1.1.1.1.1.1.1.1.1.1.1.1.1.1.1.1.1.1.1.1.1.1.1.1.1.1.1.1.0, tt))))))))))))))))))))))))))))))))))
all_asked test kind.Routine in_heading a b = (b.0, (b.1.0, (a.0, (b.1.1.0, (b.1.1.1.0, (b.1.1.1.1.0, (b.1.1.1.1.1.0, (b.1.1.1.1.1.1.0, (b.1.1.1.1.1.1.1.0, (b.1.1.1.1.1.1.1.1.0, (b.1.1.1.1.1.1.1.1.1.0, (b.1.1.1.1.1.1.1.1.1.1.0, (b.1.1.1.1.1.1.1.1.1.1.1.0, (b.1.1.1.1.1.1.1.1.1.1.1.1.0, (b.1.1.1.1.1.1.1.1.1.1.1.1.1.0, (b.1.1.1.1.1.1.1.1.1.1.1.1.1.1.0, (b.1.1.1.1.1.1.1.1.1.1.1.1.1.1.1.0, (b.1.1.1.1.1.1.1.1.1.1.1.1.1.1.1.1.0, (b.1.1.1.1.1.1.1.1.1.1.1.1.1.1.1.1.1.0, (b.1.1.1.1.1.1.1.1.1.1.1.1.1.1.1.1.1.1.0, (b.1.1.1.1.1.1.1.1.1.1.1.1.1.1.1.1.1.1.1.0, (b.1.1.1.1.1.1.1.1.1.1.1.1.1.1.1.1.1.1.1.1.0, (b.1.1.1.1.1.1.1.1.1.1.1.1.1.1.1.1.1.1.1.1.1.0, (b.1.1.1.1.1.1.1.1.1.1.1.1.1.1.1.1.1.1.1.1.1.1.0, (b.1.1.1.1.1.1.1.1.1.1.1.1.1.1.1.1.1.1.1.1.1.1.1.0, (b.1.1.1.1.1.1.1.1.1.1.1.1.1.1.1.1.1.1.1.1.1.1.1.1.0, (b.1.1.1.1.1.1.1.1.1.1.1.1.1.1.1.1.1.1.1.1.1.1.1.1.1.0, (b.1.1.1.1.1.1.1.1.1.1.1.1.1.1.1.1.1.1.1.1.1.1.1.1.1.1.0, (b.1.1.1.1.1.1.1.1.1.1.1.1.1.1.1.1.1.1.1.1.1.1.1.1.1.1.1.0, (a.1.0, (b.1.1.1.1.1.1.1.1.1.1.1.1.1.1.1.1.1.1.1.1.1.1.1.1.1.1.1.1.0, (b.1.1.1.1.1.1.1.1.1.1.1.1.1.1.1.1.1.1.1.1.1.1.1.1.1.1.1.1.1.0, (b.1.1.1.1.1.1.1.1.1.1.1.1.1.1.1.1.1.1.1.1.1.1.1.1.1.1.1.1.1.1.0, (b.1.1.1.1.1.1.1.1.1.1.1.1.1.1.1.1.1.1.1.1.1.1.1.1.1.1.1.1.1.1.1.0, tt))))))))))))))))))))))))))))))))))
all_asked test kind.Cluster in_heading a b = (b.0, (b.1.0, (a.0, (b.1.1.0, (b.1.1.1.0, (b.1.1.1.1.0, (b.1.1.1.1.1.0, (b.1.1.1.1.1.1.0, (b.1.1.1.1.1.1.1.0, (b.1.1.1.1.1.1.1.1.0, (b.1.1.1.1.1.1.1.1.1.0, (b.1.1.1.1.1.1.1.1.1.1.0, (b.1.1.1.1.1.1.1.1.1.1.1.0, (b.1.1.1.1.1.1.1.1.1.1.1.1.0, (b.1.1.1.1.1.1.1.1.1.1.1.1.1.0, (b.1.1.1.1.1.1.1.1.1.1.1.1.1.1.0, (b.1.1.1.1.1.1.1.1.1.1.1.1.1.1.1.0, (b.1.1.1.1.1.1.1.1.1.1.1.1.1.1.1.1.0, (b.1.1.1.1.1.1.1.1.1.1.1.1.1.1.1.1.1.0, (b.1.1.1.1.1.1.1.1.1.1.1.1.1.1.1.1.1.1.0, (b.1.1.1.1.1.1.1.1.1.1.1.1.1.1.1.1.1.1.1.0, (b.1.1.1.1.1.1.1.1.1.1.1.1.1.1.1.1.1.1.1.1.0, (b.1.1.1.1.1.1.1.1.1.1.1.1.1.1.1.1.1.1.1.1.1.0, (b.1.1.1.1.1.1.1.1.1.1.1.1.1.1.1.1.1.1.1.1.1.1.0, (b.1.1.1.1.1.1.1.1.1.1.1.1.1.1.1.1.1.1.1.1.1.1.1.0, (b.1.1.1.1.1.1.1.1.1.1.1.1.1.1.1.1.1.1.1.1.1.1.1.1.0, (b.1.1.1.1.1.1.1.1.1.1.1.1.1.1.1.1.1.1.1.1.1.1.1.1.1.0, (b.1.1.1.1.1.1.1.1.1.1.1.1.1.1.1.1.1.1.1.1.1.1.1.1.1.1.0, (b.1.1.1.1.1.1.1.1.1.1.1.1.1.1.1.1.1.1.1.1.1.1.1.1.1.1.1.0, (a.1.0, (b.1.1.1.1.1.1.1.1.1.1.1.1.1.1.1.1.1.1.1.1.1.1.1.1.1.1.1.1.0, (b.1.1.1.1.1.1.1.1.1.1.1.1.1.1.1.1.1.1.1.1.1.1.1.1.1.1.1.1.1.0, (b.1.1.1.1.1.1.1.1.1.1.1.1.1.1.1.1.1.1.1.1.1.1.1.1.1.1.1.1.1.1.0, (b.1.1.1.1.1.1.1.1.1.1.1.1.1.1.1.1.1.1.1.1.1.1.1.1.1.1.1.1.1.1.1.0, tt))))))))))))))))))))))))))))))))))
all_asked test _ true a b = a
all_asked test _ false a b = b

-- ---- the nodes of a walk

module _ (f : File) where
  -- no node of a range has a fault
  record NoneFrom (fault : ℕ → Option Rule) (a k : ℕ) : Type 0 where
    none : first_among fault (range_with_len a k) ≡ None
    at : (n : ℕ) → a ≤ n → n < a + k → fault n ≡ None

  none_from : (fault : ℕ → Option Rule) (a k : ℕ) → a + k ≤ length f.nodes → refused_at f (first_among fault (range_with_len a k)) ≡ None → NoneFrom fault a k
  none_from fault a zero le e = record { none = refl; at = λ n from to. absurd (omega (arith, from, to)) }
  none_from fault a (suc k) le e = by (fault a) refl e (λ m. none_from fault (a + 1) k (omega (arith, le)) m)
    where
      by : (o : Option Rule) → fault a ≡ o → refused_at f (elim o [ Some r ↦ Some (a, r) | None ↦ first_among fault (range_with_len (a + 1) k) ]) ≡ None →
          (refused_at f (first_among fault (range_with_len (a + 1) k)) ≡ None → NoneFrom fault (a + 1) k) → NoneFrom fault a (suc k)
      by (Some r) is e later =
          let x = some_at f.nodes a (omega (arith, le)) in
          none_is_not (record { rule = r; place = x.0.place }) (sym e ∙ ap (refused_by f r) x.1)
      by None is e later =
          let m = later e in
          record {
            none = ap (λ (o : Option Rule). elim o as (λ _. Option Fault) [ Some r ↦ Some (a, r) | None ↦ first_among fault (range_with_len (a + 1) k) ]) is ∙ m.none;
            at = λ n from to. first n from to m;
          }
        where
          first : (n : ℕ) → a ≤ n → n < a + suc k → NoneFrom fault (a + 1) k → fault n ≡ None
          first n from to m = elim (cases_order a n) [
            | inl same ↦ subst (λ x. fault x ≡ None) same is
            | inr (inl less) ↦ m.at n (omega (arith, less)) (omega (arith, to))
            | inr (inr more) ↦ absurd (omega (arith, from, more))
          ]

  both_walks : refused_at f (first_fault f) ≡ None → (refused_at f (first_on f headings) ≡ None → first_on f headings ≡ None) → (refused_at f (first_on f headings) ≡ None) × (refused_at f (first_on f rest) ≡ None)
  both_walks e known = by (first_on f headings) refl e
    where
      by : (o : Option Fault) → first_on f headings ≡ o → refused_at f (elim o [ Some fault ↦ Some fault | None ↦ first_on f rest ]) ≡ None → (refused_at f (first_on f headings) ≡ None) × (refused_at f (first_on f rest) ≡ None)
      by (Some x) is e = none_is_not x (sym (known (ap (refused_at f) is ∙ e)) ∙ is)
      by None is e = (ap (refused_at f) is, e)

  -- what is asked at a node
  pub accepted_keeps : IsAccepted f → (n : ℕ) → n < length f.nodes → KeepsRules f n
  accepted_keeps e n lt =
      let whole : 0 + length f.nodes ≤ length f.nodes = omega arith in
      let walks = both_walks e (λ m. (none_from (fault_at f headings) 0 (length f.nodes) whole m).none) in
      let first = (none_from (fault_at f headings) 0 (length f.nodes) whole walks.0).at n (omega arith) (omega (arith, lt)) in
      let second = (none_from (fault_at f rest) 0 (length f.nodes) whole walks.1).at n (omega arith) (omega (arith, lt)) in
      each (violates f (is_bad f) n) (all_asked (violates f (is_bad f) n) (kind_in f n) (round f n).heading (none_least (violates f (is_bad f) n) (rules_asked f headings n) first) (none_least (violates f (is_bad f) n) (rules_asked f rest n) second))
      (record { token = refl; syntax = refl; depth = refl })
