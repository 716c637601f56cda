-- The numbers of parameters are those of their places among the parameters of their module.
use Rattle.std.proofs.Common.{◌≡◌, ◌∙◌, ℕ, zero, suc, ◌+◌, ◌-◌, ◌^◌, ◌<◌, ◌≤◌, ◌&&◌, ◌==◌, Bool, true, false, if◌then◌else◌, nat_lt, List, [], ◌∷◌, length, take, Option, Some, None, slice_get, refl, ap, ap₂, sym, inl, inr, arith, add-one, eq-eqb, eqb-true, lt-ltb}
use Rattle.std.specs.List.{AllByRecursion}
use Rattle.std.proofs.Math.Seq.{take-length}
use Rattle.std.proofs.lemmas.Bool.{true≢false, cases_Bool, cases_lt}
use Rattle.std.proofs.lemmas.Option.{slice_get_within}
use Rattle.clu_tree.specs.declared.node.Node.{Node}
use Rattle.clu_tree.specs.declared.node.NodeKind.{NodeKind}
use Rattle.clu_tree.specs.declared.node.NodeKind.TheVariants as kind
use Rattle.clu_parser.specs.Trees.{Text}
use Rattle.clu_syntax.specs.declared.round.Round.{Round}
use Rattle.clu_syntax.specs.Kinds.{kind_at}
use Rattle.clu_syntax.specs.Rounds.{AreRounds, round_at}
use Rattle.clu_syntax.specs.Splits.{is_of}
use Rattle.clu_syntax.specs.Syntax.{Identifier, Parameter}
use Rattle.clu_syntax.specs.Items.{Item, parameters_at}
use Rattle.clu_syntax.specs.Nodes.{before, item_at, parameter_of}
use Rattle.clu_names.specs.declared.scopes.Declared.{Declared}
use Rattle.clu_names.specs.Scopes.{declared_as}
use Rattle.clu_meaning.specs.Scoping.{parameter_number}
use Rattle.clu_checking.specs.Files.{parameters_in}
use Rattle.clu_parts.proofs.Fitting.{AreParts, AreBefore}
use Rattle.clu_settle.specs.Names.{names_of}
use Rattle.clu_settle.specs.Parameters.{is_parameter, is_unit, counted}
use Rattle.clu_declares.specs.Declares.{IsParsed, numbered}
use Rattle.clu_declares.proofs.Below.{same_kind, before_is, item_there}
use Rattle.clu_declares.proofs.Facts.{There, there}
use Rattle.clu_declares.proofs.Owned.{numbered_first, numbered_later, parameter_node}
use Rattle.clu_declares.proofs.Parents.{IsIn}
use Rattle.clu_declares.proofs.Amounts.{and_left, and_right, amount, amount_at, at_node, up_to, weight, weights, amounts, counted_is, all_counted}
use Rattle.clu_declares.proofs.Modules.{Ascends, above, HasParameters, has_parameters}

take_size : {X : Type 0} (xs : List X) (k : ℕ) → k ≤ length xs → length (take k xs) ≡ k
take_size xs zero l = refl
take_size [] (suc k) l = absurd (omega (arith, l))
take_size (x ∷ xs) (suc k) l = let rest : length (take k xs) ≡ k = take_size xs k (omega (arith, l)) in omega (arith, rest)

declared_take : (n : ℕ) (unit : Option ℕ) (scope : ℕ × ℕ) (names : List Identifier) (k : ℕ) → take k (declared_as n unit (Some scope) names) ≡ declared_as n unit (Some scope) (take k names)
declared_take n unit scope names zero = refl
declared_take n unit scope [] (suc k) = refl
declared_take n unit scope (name ∷ names) (suc k) = ap (λ (ds : List Declared). record { name = name; node = n; from = scope.0; to = scope.1; unit = unit } ∷ ds) (declared_take n unit scope names k)

declared_size : (n : ℕ) (unit : Option ℕ) (scope : ℕ × ℕ) (names : List Identifier) → length (declared_as n unit (Some scope) names) ≡ length names
declared_size n unit scope [] = refl
declared_size n unit scope (name ∷ names) = let rest : length (declared_as n unit (Some scope) names) ≡ length names = declared_size n unit scope names in omega (arith, rest)

unit_true : (all u : ℕ) → u < all → is_unit all u (Some u) ≡ true
unit_true all u l = ap₂ (λ (a b : Bool). a && b) (eq-eqb u u refl) (lt-ltb u all l)

unit_so : (all u : ℕ) (o : Option ℕ) → is_unit all u o ≡ true → o ≡ Some u
unit_so all u None e = absurd (true≢false (sym e))
unit_so all u (Some x) e = ap Some (eqb-true x u (and_left (x == u) (nat_lt x all) e))

module _ (t : Text) (nodes : List Node) (rounds : List Round) (parsed : IsParsed t nodes) (are : AreRounds nodes rounds) where
  abbrev w : ℕ → ℕ → ℕ
  w = weight nodes rounds

  abbrev ws : ℕ → ℕ → ℕ
  ws = weights nodes rounds

  abbrev params : ℕ → List ℕ → List Parameter
  params d cs = parameters_at (before d (item_at nodes)) cs

  abbrev pub IsOf : ℕ → ℕ → Type 0
  IsOf u c = (is_parameter nodes rounds c ≡ true) × ((round_at rounds c).unit ≡ Some u)

  weight_is : (u c : ℕ) → u < length nodes → IsOf u c → w u c ≡ length (names_of (slice_get nodes c))
  weight_is u c l is =
      let both : (is_parameter nodes rounds c && is_unit (length nodes) u (round_at rounds c).unit) ≡ true = ap₂ (λ (a b : Bool). a && b) is.0 (ap (is_unit (length nodes) u) is.1 ∙ unit_true (length nodes) u l) in
      ap (λ (b : Bool). if b then length (names_of (slice_get nodes c)) else 0) both

  weight_none : (u n : ℕ) → (IsOf u n → ⊥) → w u n ≡ 0
  weight_none u n never = by (is_parameter nodes rounds n && is_unit (length nodes) u (round_at rounds n).unit) refl
    where
      by : (b : Bool) → (is_parameter nodes rounds n && is_unit (length nodes) u (round_at rounds n).unit) ≡ b → (if b then length (names_of (slice_get nodes n)) else 0) ≡ 0
      by true e = absurd (never (and_left (is_parameter nodes rounds n) (is_unit (length nodes) u (round_at rounds n).unit) e, unit_so (length nodes) u (round_at rounds n).unit (and_right (is_parameter nodes rounds n) (is_unit (length nodes) u (round_at rounds n).unit) e)))
      by false e = refl

  quiet : (u a b : ℕ) → a ≤ b → ((x : ℕ) → a ≤ x → x < b → w u x ≡ 0) → ws u b ≡ ws u a
  quiet u a zero l f = let same : 0 ≡ a = omega (arith, l) in ap (ws u) same
  quiet u a (suc b) l f = elim (cases_lt b a) [
    | inl less ↦ (let same : suc b ≡ a = omega (arith, l, less) in ap (ws u) same)
    | inr more ↦
        (let before : ws u b ≡ ws u a = quiet u a b more (λ x p q. f x p (omega (arith, q))) in
        let here : w u b ≡ 0 = f b more (omega arith) in
        omega (arith, before, here))
  ]

  pub record ParmIs (d c : ℕ) : Type 0 where
    pub node : (before d (item_at nodes) c).parameter.node ≡ c
    pub names : (before d (item_at nodes) c).parameter.names ≡ names_of (slice_get nodes c)

  parm_is : (d c : ℕ) → c < d → is_of kind.Parm (kind_at nodes c) ≡ true → ParmIs d c
  parm_is d c l e =
      let th : There nodes c kind.Parm = there nodes c kind.Parm refl (same_kind kind.Parm (kind_at nodes c) e) in
      let same : (before d (item_at nodes) c).parameter ≡ (item_at nodes c).parameter = ap (λ (i : Item). i.parameter) (before_is nodes d c l) in
      record {
        node = ap (λ (p : Parameter). p.node) same ∙ parameter_node nodes rounds c th.node th.at th.is;
        names =
            ap (λ (p : Parameter). p.names) same ∙ ap (λ (i : Item). i.parameter.names) (item_there nodes c th.node th.at)
            ∙ ap (λ (k : NodeKind). (parameter_of (before c (item_at nodes)) nodes c th.node k).names) th.is ∙ sym (ap names_of th.at);
      }

  not_before : (c x : ℕ) (cs : List ℕ) → Ascends (c + 1) cs → x < c → IsIn x (c ∷ cs) → ⊥
  not_before c x cs s l i = let m : c ≤ x = above c x (c ∷ cs) (omega arith, s) i in omega (arith, l, m)

  not_here : (c x : ℕ) (cs : List ℕ) → c + 1 ≤ x → (IsIn x cs → ⊥) → IsIn x (c ∷ cs) → ⊥
  not_here c x cs l f (inl e) = omega (arith, l, e)
  not_here c x cs l f (inr i) = f i

  number_in : (u d : ℕ) → u < length nodes → (cs : List ℕ) (a k m : ℕ) → Ascends a cs → AreParts nodes (is_of kind.Parm) d cs → AllByRecursion (IsOf u) cs → ((x : ℕ) → a ≤ x → (IsIn x cs → ⊥) → w u x ≡ 0) → IsIn m cs →
      numbered k (params d cs) m + ws u a ≡ k + ws u m
  number_in u d l [] a k m s ps os f i = absurd i
  number_in u d l (c ∷ cs) a k m s ps os f i =
      let is : ParmIs d c = parm_is d c ps.0.0 ps.0.1 in
      let first : ws u c ≡ ws u a = quiet u a c s.0 (λ x more less. f x more (not_before c x cs s.1 less)) in
      elim (cases_Bool (c == m)) [
        | inl e ↦
            (let same : c ≡ m = eqb-true c m e in
            let its : numbered k (params d (c ∷ cs)) m ≡ k = numbered_first k (before d (item_at nodes) c).parameter (params d cs) m (is.node ∙ same) in
            let at : ws u c ≡ ws u m = ap (ws u) same in
            omega (arith, its, first, at))
        | inr other ↦
            (let apart : c ≡ m → ⊥ = λ e. true≢false (sym (eq-eqb c m e) ∙ other) in
            let later : IsIn m cs = elim i [ inl e ↦ absurd (apart e) | inr j ↦ j ] in
            let its : numbered k (params d (c ∷ cs)) m ≡ numbered (k + length (before d (item_at nodes) c).parameter.names) (params d cs) m = numbered_later k (before d (item_at nodes) c).parameter (params d cs) m (λ e. apart (sym is.node ∙ e)) in
            let low : a ≤ c = s.0 in
            let more : numbered (k + length (before d (item_at nodes) c).parameter.names) (params d cs) m + ws u (c + 1) ≡ (k + length (before d (item_at nodes) c).parameter.names) + ws u m =
            number_in u d l cs (c + 1) (k + length (before d (item_at nodes) c).parameter.names) m s.1 ps.1 os.1 (λ x above g. f x (omega (arith, low, above)) (not_here c x cs above g)) later in
            let next : ws u (c + 1) ≡ ws u c + w u c = ap (ws u) (add-one c) in
            let here : w u c ≡ length (before d (item_at nodes) c).parameter.names = weight_is u c l os.0 ∙ sym (ap length is.names) in
            omega (arith, its, more, next, here, first))
      ]

  total_in : (u d b : ℕ) → u < length nodes → (cs : List ℕ) (a : ℕ) → a ≤ b → Ascends a cs → AreBefore b cs → AreParts nodes (is_of kind.Parm) d cs → AllByRecursion (IsOf u) cs → ((x : ℕ) → a ≤ x → (IsIn x cs → ⊥) → w u x ≡ 0) →
      parameter_number (params d cs) + ws u a ≡ ws u b
  total_in u d b l [] a up s bs ps os f = let same : ws u b ≡ ws u a = quiet u a b up (λ x more less. f x more (λ i. i)) in omega (arith, same)
  total_in u d b l (c ∷ cs) a up s bs ps os f =
      let is : ParmIs d c = parm_is d c ps.0.0 ps.0.1 in
      let low : a ≤ c = s.0 in
      let high : c < b = bs.0 in
      let first : ws u c ≡ ws u a = quiet u a c s.0 (λ x more less. f x more (not_before c x cs s.1 less)) in
      let more : parameter_number (params d cs) + ws u (c + 1) ≡ ws u b = total_in u d b l cs (c + 1) (omega (arith, high)) s.1 bs.1 ps.1 os.1 (λ x above g. f x (omega (arith, low, above)) (not_here c x cs above g)) in
      let next : ws u (c + 1) ≡ ws u c + w u c = ap (ws u) (add-one c) in
      let here : w u c ≡ length (before d (item_at nodes) c).parameter.names = weight_is u c l os.0 ∙ sym (ap length is.names) in
      omega (arith, more, next, here, first)

  parts_inside : (d : ℕ) (cs : List ℕ) → AreParts nodes (is_of kind.Parm) d cs → AreBefore (length nodes) cs
  parts_inside d [] ps = tt
  parts_inside d (c ∷ cs) ps =
      let th : There nodes c kind.Parm = there nodes c kind.Parm refl (same_kind kind.Parm (kind_at nodes c) ps.0.1) in
      (slice_get_within nodes c th.node th.at, parts_inside d cs ps.1)

  abbrev pub ds : List Declared
  ds = up_to nodes rounds (length nodes)

  module _ (few : length ds < 2 ^ 32) where
    -- the parameters of a module are counted
    pub count_is : (u : ℕ) (node : Node) → slice_get nodes u ≡ Some node → node.kind ≡ kind.Module → counted nodes rounds ds u (length ds) ≡ parameter_number (parameters_in (item_at nodes u).module_)
    count_is u node at is =
        let h : HasParameters t nodes rounds parsed are u = has_parameters t nodes rounds parsed are u node at is in
        let l : u < length nodes = slice_get_within nodes u node at in
        let sum : parameter_number (params h.d h.cs) + ws u 0 ≡ ws u (length nodes) = total_in u h.d (length nodes) l h.cs 0 (omega arith) h.ascend (parts_inside h.d h.cs h.parts) h.parts h.each (λ x low g. weight_none u x (λ o. g (h.only x o.0 o.1))) in
        let number : parameter_number (parameters_in (item_at nodes u).module_) ≡ parameter_number (params h.d h.cs) = ap parameter_number h.parameters in
        (counted_is nodes rounds ds few u (length ds) (omega arith)).0 ∙ ap (amount nodes rounds u) (take-length ds) ∙ amounts nodes rounds u (length nodes) ∙ omega (arith, sum, number)

    -- the number of the parameter at the place i among the names of the Parm m
    pub number_is : (m i p u : ℕ) (node module_node : Node) (scope : ℕ × ℕ) → slice_get nodes m ≡ Some node → slice_get nodes u ≡ Some module_node → module_node.kind ≡ kind.Module → IsOf u m → at_node nodes rounds m ≡ declared_as m (Some u) (Some scope) node.names →
        i < length node.names → p ≡ length (up_to nodes rounds m) + i → p < length ds → counted nodes rounds ds u (suc p) ≡ numbered 1 (parameters_in (item_at nodes u).module_) m + i
    number_is m i p u node module_node scope at there_u is_module is declares inside place l =
        let h : HasParameters t nodes rounds parsed are u = has_parameters t nodes rounds parsed are u module_node there_u is_module in
        let few_u : u < length nodes = slice_get_within nodes u module_node there_u in
        let few_m : m < length nodes = slice_get_within nodes m node at in
        let sum : numbered 1 (params h.d h.cs) m + ws u 0 ≡ 1 + ws u m = number_in u h.d few_u h.cs 0 1 m h.ascend h.parts h.each (λ x low g. weight_none u x (λ o. g (h.only x o.0 o.1))) (h.only m is.0 is.1) in
        let number : numbered 1 (parameters_in (item_at nodes u).module_) m ≡ numbered 1 (params h.d h.cs) m = ap (λ (ps : List Parameter). numbered 1 ps m) h.parameters in
        let size : length (at_node nodes rounds m) ≡ length node.names = ap length declares ∙ declared_size m (Some u) scope node.names in
        let both : (is_parameter nodes rounds m && is_unit (length nodes) u (Some u)) ≡ true = ap₂ (λ (a b : Bool). a && b) is.0 (unit_true (length nodes) u few_u) in
        let own : amount nodes rounds u (take (suc i) (at_node nodes rounds m)) ≡ suc i =
        ap (λ (xs : List Declared). amount nodes rounds u (take (suc i) xs)) declares ∙ ap (amount nodes rounds u) (declared_take m (Some u) scope node.names (suc i))
        ∙ all_counted nodes rounds u m (Some u) scope (take (suc i) node.names) both ∙ take_size node.names (suc i) (omega (arith, inside)) in
        let up : amount nodes rounds u (up_to nodes rounds m) ≡ ws u m = amounts nodes rounds u m in
        let at_place : suc p ≡ length (up_to nodes rounds m) + suc i = omega (arith, place) in
        (counted_is nodes rounds ds few u (suc p) (omega (arith, l))).0
        ∙ ap (λ (k : ℕ). amount nodes rounds u (take k ds)) at_place
        ∙ amount_at nodes rounds u m (suc i) few_m (omega (arith, size, inside))
        ∙ omega (arith, own, up, sum, number)
