-- Parameters, where clauses and operations: where one is refused, the bytes before that begin one of the grammar.
use Rattle.std.proofs.Common.{◌≡◌, ℕ, ◌+◌, ◌<◌, ◌≤◌, ◌⊎◌, ◌==◌, nat_le, not, ◌||◌, Bool, true, false, List, [], ◌∷◌, ◌++◌, length, map, codes, decimal, Option, Some, None, Ok, Err, if◌then◌else◌, refl, sym, ap, subst, ◌∙◌, arith, length-append, append_assoc, append-nil, inl, inr}
use Rattle.std.proofs.lemmas.Bool.{cases_Bool, eqb-true, leb-true, le-leb, not-false, or_parts}
use Rattle.clu_types.specs.declared.spec.ParamKind.{ParamKind}
use Rattle.clu_types.specs.declared.spec.ParamKind.TheVariants as kind
use Rattle.clu_types.specs.CluType.{CluType, any_type}
use Rattle.clu_specs.specs.declared.read_kinds.TheConstants.{KINDS}
use Rattle.clu_specs.specs.declared.scope.Sort.TheVariants as sort
use Rattle.clu_specs.specs.declared.scope.Scope.{Scope}
use Rattle.clu_specs.specs.Reading.{◌>>=◌, Read, literal_at, behind, begins_with, several}
use Rattle.clu_specs.specs.Names.{is_before, shared_with_later, has_later, name_after}
use Rattle.clu_specs.specs.Scopes.{last_in, number_at, scope_of}
use Rattle.clu_specs.specs.TypeReading.{Reader}
use Rattle.clu_specs.specs.Seen.{Demanded, kind_text, kinds_text, demand_text, demands_text, routine_word}
use Rattle.clu_specs.specs.SpecReading.{routine_word_read, begin_alike, kind_in, kind_read, kinds_step, kinds_next, kinds_read, parameters_by, parameters_read, least_behind, asked_read, demand_read, demands_step, demands_next, demands_read, all_demands_read}
use Rattle.clu_specs.specs.Grammar.{IsName, IsParameter, IsType, AreDemands}
use Rattle.clu_specs.proofs.Outcomes.{either, literal_spelled, behind_spelled}
use Rattle.clu_specs.proofs.Spelled.{name_read, parameter_number}
use Rattle.clu_specs.proofs.TypesSpelled.{Sound}
use Rattle.clu_specs.proofs.KindsSpelled.{joined_some, worded, listed, led, listed_joined, AllKinds, KindsRead, KindsBefore, kinds_on, tested, kinds_more, kinds_spelled, kinds_shown}
use Rattle.clu_specs.proofs.SpecsSpelled.{Follows, last_demand, demands_joined, at_least, follows_by, asked_spelled, State, DemandsAfter, DemandsBefore, demands_on, demands_more, demands_spelled, demands_shown}
use Rattle.clu_specs.proofs.Fronts.{Front, Fronts, Part, same_left, never, at_once, front_on, front_as, and_fails, shown, shown_on, shown_before, literal_front, closing_front, row_front}
use Rattle.clu_specs.proofs.FrontsNames.{NameBegun, Earlier, earlier_none, name_front}
use Rattle.clu_specs.proofs.FrontsNumbers.{ParameterBegun, spec_goes, spec_some, number_front}
use Rattle.clu_specs.proofs.FrontsTypes.{TypeBegun, first_name, earlier_by}

-- proc and iter
pub record WordBegun (q : List ℕ) : Type 0 where
  pub iter : Bool
  pub rest : List ℕ
  pub spelled : routine_word iter ≡ q ++ rest

word_by : (x : Bool) (word bytes : List ℕ) (left : ℕ) → word ≡ routine_word x → (literal_at word bytes >>= λ rest. worded x rest) ≡ Err left → Front WordBegun bytes left
word_by x word bytes left w e =
    elim (and_fails (literal_at word bytes) (λ (rest : List ℕ). Ok (x, rest)) left e) [
      | inl h ↦ front_as bytes left (literal_front word bytes left h) (λ q p. record { iter = x; rest = p.0; spelled = sym w ∙ p.1 })
      | inr h ↦ absurd (never (x, h.0) left h.2)
    ]

pub word_front : Fronts WordBegun routine_word_read
unfolding routine_word_read
word_front bytes left e =
    elim (either (begins_with 105 bytes) (literal_at (codes "iter") bytes >>= λ rest. Ok (true, rest)) (literal_at (codes "proc") bytes >>= λ rest. Ok (false, rest)) (Err left) e) [
      | inl h ↦ word_by true (codes "iter") bytes left refl h.1
      | inr h ↦ word_by false (codes "proc") bytes left refl h.1
    ]

-- kinds
record KindBegun (q : List ℕ) : Type 0 where
  pub k : ParamKind
  pub rest : List ℕ
  pub spelled : kind_text k ≡ q ++ rest

any_kind : KindBegun []
any_kind = record { k = kind.OfType; rest = codes "type"; spelled = refl }

kind_by : (table : List (List ℕ × ParamKind)) → AllKinds table → Fronts KindBegun (kind_in table)
kind_by [] all bytes left e = at_once bytes left (same_left {A = ParamKind × List ℕ} (Err (length bytes)) (length bytes) left refl e) any_kind
kind_by (entry ∷ table) all bytes left e =
    elim (either (begin_alike entry.0 bytes) (literal_at entry.0 bytes >>= λ rest. Ok (entry.1, rest)) (kind_in table bytes) (Err left) e) [
      | inl h ↦ elim (and_fails (literal_at entry.0 bytes) (λ (rest : List ℕ). Ok (entry.1, rest)) left h.1) [
        | inl g ↦ front_as bytes left (literal_front entry.0 bytes left g) (λ q p. record { k = entry.1; rest = p.0; spelled = sym all.0 ∙ p.1 })
        | inr g ↦ absurd (never (entry.1, g.0) left g.2)
      ]
      | inr h ↦ kind_by table all.1 bytes left h.1
    ]

kind_front : Fronts KindBegun kind_read
unfolding kind_read
kind_front bytes left e = kind_by (map (λ entry. (entry.0.now, entry.1)) KINDS) (refl, (refl, (refl, (refl, (refl, (refl, tt)))))) bytes left e

record KindsBegun (q : List ℕ) : Type 0 where
  pub ks : List ParamKind
  pub rest : List ℕ
  pub few : length ks ≤ 4294967295
  pub some : 0 < length ks
  pub spelled : listed kind_text ks ≡ q ++ rest

kinds_item : (made : List ParamKind) → length made < 4294967295 → (q : List ℕ) → KindBegun q → KindsBegun (led kind_text made ++ q)
kinds_item made few q x = record {
  ks = made ++ x.k ∷ [];
  rest = x.rest ++ [];
  few = omega (arith, few, length-append made (x.k ∷ []));
  some = joined_some made x.k;
  spelled = sym (append-nil (listed kind_text (made ++ x.k ∷ []))) ∙ listed_joined kind_text made x.k [] ∙ shown (led kind_text made) (kind_text x.k) [] q x.rest x.spelled;
}

kinds_fails : (whole : List ℕ) (made : List ParamKind) (bytes : List ℕ) (left : ℕ) → KindsBefore whole made bytes → kinds_step made bytes ≡ Err left → Front KindsBegun whole left
kinds_fails whole made bytes left b e =
    elim (and_fails (kind_read bytes) (λ (k : ParamKind × List ℕ). Ok (made ++ k.0 ∷ [], k.1)) left e) [
      | inl h ↦ front_on (led kind_text made) whole bytes left b.1 (kind_front bytes left h) (λ q x. kinds_item made b.0 q x)
      | inr h ↦ absurd (never (made ++ h.0.0 ∷ [], h.0.1) left h.2)
    ]

kinds_out : (whole : List ℕ) (made : List ParamKind) (bytes : List ℕ) → KindsBefore whole made bytes → Front KindsBegun whole (length bytes)
kinds_out whole made bytes b =
    let now : Front KindBegun bytes (length bytes) = at_once bytes (length bytes) refl any_kind in
    front_on (led kind_text made) whole bytes (length bytes) b.1 now (λ q x. kinds_item made b.0 q x)

kinds_front : Fronts KindsBegun kinds_read
unfolding kinds_read
kinds_front bytes left e =
    row_front kinds_step kinds_next (KindsBefore bytes) (KindsRead bytes) (Front KindsBegun bytes) (kinds_on bytes) (kinds_more bytes) (kinds_fails bytes) (kinds_out bytes) (length bytes) [] bytes left (omega arith, refl) e

pub record ParametersBegun (q : List ℕ) : Type 0 where
  pub ks : List ParamKind
  pub rest : List ℕ
  pub few : length ks ≤ 4294967295
  pub spelled : kinds_text ks ≡ q ++ rest

parameters_in : (o : Option (List ℕ)) (bytes : List ℕ) (left : ℕ) → behind 91 bytes ≡ o → parameters_by o bytes ≡ Err left → Front ParametersBegun bytes left
unfolding parameters_by
parameters_in None bytes left o e = absurd (never ([], bytes) left e)
parameters_in (Some inner) bytes left o e =
    let mark = behind_spelled 91 bytes inner o in
    elim (and_fails (kinds_read inner) (λ (ks : List ParamKind × List ℕ). literal_at (93 ∷ []) ks.1 >>= λ rest. Ok (ks.0, rest)) left e) [
      | inl h ↦ front_on (91 ∷ []) bytes inner left mark (kinds_front inner left h)
          (λ q x. record { ks = x.ks; rest = x.rest ++ 93 ∷ []; few = x.few; spelled = sym (append-nil (kinds_text x.ks)) ∙ sym (kinds_shown x.ks [] x.some) ∙ shown (91 ∷ []) (listed kind_text x.ks) (93 ∷ []) q x.rest x.spelled })
      | inr h ↦ (let ks : List ParamKind = h.0.0 in
          let read = kinds_spelled inner ks h.0.1 h.1 in
          let whole : bytes ≡ (91 ∷ listed kind_text ks) ++ h.0.1 = mark ∙ ap (λ (x : List ℕ). 91 ∷ x) read.spelled in
          front_on (91 ∷ listed kind_text ks) bytes h.0.1 left whole (closing_front 93 ks h.0.1 left h.2)
          (λ q x. record { ks = ks; rest = x.0; few = read.few; spelled = sym (append-nil (kinds_text ks)) ∙ sym (kinds_shown ks [] read.some) ∙ shown_on (91 ∷ listed kind_text ks) (93 ∷ []) q x.0 x.1 }))
    ]

pub parameters_front : Fronts ParametersBegun parameters_read
parameters_front bytes left e = parameters_in (behind 91 bytes) bytes left refl e

-- demands
pub record DemandBegun (scope : Scope) (param : ℕ) (previous q : List ℕ) : Type 0 where
  pub d : Demanded
  pub rest : List ℕ
  pub is : IsParameter scope sort.Type d.param
  pub named : IsName 200 d.op
  pub follows : Follows param previous d.param d.op
  pub typed : IsType scope d.wanted
  pub spelled : demand_text d ≡ q ++ rest

pub record DemandsBegun (scope : Scope) (q : List ℕ) : Type 0 where
  pub ds : List Demanded
  pub rest : List ℕ
  pub are : AreDemands scope 0 [] ds
  pub some : 0 < length ds
  pub spelled : listed demand_text ds ≡ q ++ rest

pub record WhereBegun (scope : Scope) (q : List ℕ) : Type 0 where
  pub ds : List Demanded
  pub rest : List ℕ
  pub are : AreDemands scope 0 [] ds
  pub spelled : demands_text ds ≡ q ++ rest

last_demand_named : (scope : Scope) (ds : List Demanded) (param : ℕ) (name : List ℕ) → AreDemands scope param name ds → ((last_demand param name ds).1 ≡ name) ⊎ IsName 200 (last_demand param name ds).1
last_demand_named scope [] param name are = inl refl
last_demand_named scope (d ∷ ds) param name are = elim (last_demand_named scope ds d.param d.op are.4) [ inl same ↦ inr (subst (IsName 200) (sym same) are.1) | inr is ↦ inr is ]

-- the first demand may be of any parameter
first_least : least_behind 0 [] ≡ 0
unfolding shared_with_later
first_least = refl

module _ (kinds : List ParamKind) (few : length kinds ≤ 4294967295) where
  abbrev scope : Scope
  scope = scope_of kinds

  -- a demand may come after that of a parameter and a name
  record Ready (param : ℕ) (previous : List ℕ) : Type 0 where
    pub name : (previous ≡ []) ⊎ IsName 200 previous
    pub some : nat_le 1 (last_in scope sort.Type) ≡ true
    pub least : nat_le (least_behind param previous) (last_in scope sort.Type) ≡ true

  -- the name before that of a demand of this parameter
  abbrev before : ℕ → List ℕ → ℕ → List ℕ
  before param previous asked = if asked == param then previous else []

  earlier_of : (param : ℕ) (previous : List ℕ) (asked : ℕ) → (previous ≡ []) ⊎ IsName 200 previous → least_behind param previous ≤ asked → Earlier (before param previous asked)
  earlier_of param previous asked name le = elim (cases_Bool (asked == param)) [
    | inl same ↦ rw same (elim (cases_Bool (has_later previous)) [
      | inl later ↦ earlier_by scope previous name later
      | inr last ↦ (let above : param + 1 ≤ asked = rw last at le in absurd (omega (arith, above, eqb-true asked param same)))
    ])
    | inr other ↦ rw other earlier_none
  ]

  abbrev tail : List ℕ → List ℕ
  tail name = codes " has " ++ (name ++ 58 ∷ codes "any")

  -- the demand of any type
  any_demand : (param : ℕ) (previous : List ℕ) (n : ℕ) (name q rest : List ℕ) → IsParameter scope sort.Type n → least_behind param previous ≤ n → IsName 200 name → is_before (before param previous n) name ≡ true → (35 ∷ decimal n) ++ tail name ≡ q ++ rest
      → DemandBegun scope param previous q
  any_demand param previous n name q rest is le named after e = record {
    d = record { param = n; op = name; wanted = any_type };
    rest = rest;
    is = is;
    named = named;
    follows = follows_by scope param n previous name (at_least scope param n previous le) after;
    typed = tt;
    spelled = e;
  }

  module _ (param : ℕ) (previous : List ℕ) (ready : Ready param previous) where
    mark_part : (q : List ℕ) → Part (35 ∷ []) q → DemandBegun scope param previous q
    mark_part q x =
        let n = spec_some kinds few sort.Type (least_behind param previous) ready.some ready.least in
        let name = first_name (before param previous n.n) (earlier_of param previous n.n ready.name n.after) in
        let text : List ℕ = decimal n.n ++ tail name.name in
        any_demand param previous n.n name.name q (x.0 ++ text) n.is n.after name.is name.after (shown_before (35 ∷ []) text q x.0 x.1)

    number_part : (q : List ℕ) → ParameterBegun scope sort.Type (least_behind param previous) q → DemandBegun scope param previous (35 ∷ q)
    number_part q n =
        let name = first_name (before param previous n.n) (earlier_of param previous n.n ready.name n.after) in
        any_demand param previous n.n name.name (35 ∷ q) (n.rest ++ tail name.name) n.is n.after name.is name.after (ap (λ (y : List ℕ). 35 ∷ y) (shown_before (decimal n.n) (tail name.name) q n.rest n.spelled))

    module _ (n : ℕ) (is : IsParameter scope sort.Type n) (le : least_behind param previous ≤ n) where
      abbrev u : List ℕ
      u = 35 ∷ decimal n

      has_part : (q : List ℕ) → Part (codes " has ") q → DemandBegun scope param previous (u ++ q)
      has_part q x =
          let name = first_name (before param previous n) (earlier_of param previous n ready.name le) in
          let text : List ℕ = name.name ++ 58 ∷ codes "any" in
          any_demand param previous n name.name (u ++ q) (x.0 ++ text) is le name.is name.after (shown u (codes " has ") text q x.0 x.1)

      name_part : (q : List ℕ) → NameBegun (before param previous n) 200 q → DemandBegun scope param previous ((u ++ codes " has ") ++ q)
      name_part q x =
          any_demand param previous n x.name ((u ++ codes " has ") ++ q) (x.rest ++ 58 ∷ codes "any") is le x.is x.after
          (sym (append_assoc u (codes " has ") (x.name ++ 58 ∷ codes "any")) ∙ shown (u ++ codes " has ") x.name (58 ∷ codes "any") q x.rest x.spelled)

      colon_part : (name : List ℕ) → IsName 200 name → is_before (before param previous n) name ≡ true → (q : List ℕ) → Part (58 ∷ []) q → DemandBegun scope param previous (((u ++ codes " has ") ++ name) ++ q)
      colon_part name named after q x =
          let whole : u ++ (codes " has " ++ (name ++ 58 ∷ codes "any")) ≡ ((u ++ codes " has ") ++ name) ++ 58 ∷ codes "any" = simp append_assoc in
          any_demand param previous n name (((u ++ codes " has ") ++ name) ++ q) (x.0 ++ codes "any") is le named after (whole ∙ shown ((u ++ codes " has ") ++ name) (58 ∷ []) (codes "any") q x.0 x.1)

    asked_front : (bytes : List ℕ) (left : ℕ) → asked_read scope param previous bytes ≡ Err left → Front (DemandBegun scope param previous) bytes left
    unfolding asked_read
    asked_front bytes left e =
        let least : ℕ = least_behind param previous in
        elim (and_fails (literal_at (35 ∷ []) bytes) (λ (rest : List ℕ). number_at scope sort.Type least rest >>= λ asked. literal_at (codes " has ") asked.1 >>= λ rest. name_after (if asked.0 == param then previous else []) 200 rest >>= λ name. literal_at (58 ∷ []) name.1 >>= λ rest. Ok ((asked.0, name.0), rest)) left e) [
          | inl a ↦ front_as bytes left (literal_front (35 ∷ []) bytes left a) mark_part
          | inr a ↦ (let mark = literal_spelled (35 ∷ []) bytes a.0 a.1 in
              elim (and_fails (number_at scope sort.Type least a.0) (λ (asked : ℕ × List ℕ). literal_at (codes " has ") asked.1 >>= λ rest. name_after (if asked.0 == param then previous else []) 200 rest >>= λ name. literal_at (58 ∷ []) name.1 >>= λ rest. Ok ((asked.0, name.0), rest)) left a.2) [
                | inl b ↦ front_on (35 ∷ []) bytes a.0 left mark (number_front scope sort.Type least (spec_some kinds few sort.Type least ready.some ready.least) (λ m h. spec_goes kinds few sort.Type least m h) a.0 left b) number_part
                | inr b ↦ (let n : ℕ = b.0.0 in
                    let number = parameter_number scope sort.Type least a.0 n b.0.1 b.1 in
                    let at_number : bytes ≡ (35 ∷ decimal n) ++ b.0.1 = mark ∙ ap (λ (x : List ℕ). 35 ∷ x) number.spelled in
                    elim (and_fails (literal_at (codes " has ") b.0.1) (λ (rest : List ℕ). name_after (if n == param then previous else []) 200 rest >>= λ name. literal_at (58 ∷ []) name.1 >>= λ rest. Ok ((n, name.0), rest)) left b.2) [
                      | inl c ↦ front_on (35 ∷ decimal n) bytes b.0.1 left at_number (literal_front (codes " has ") b.0.1 left c) (has_part n number.is number.after)
                      | inr c ↦ (let w : List ℕ = (35 ∷ decimal n) ++ codes " has " in
                          let at_has : bytes ≡ w ++ c.0 = at_number ∙ ap (λ (x : List ℕ). (35 ∷ decimal n) ++ x) (literal_spelled (codes " has ") b.0.1 c.0 c.1) ∙ sym (append_assoc (35 ∷ decimal n) (codes " has ") c.0) in
                          elim (and_fails (name_after (if n == param then previous else []) 200 c.0) (λ (name : List ℕ × List ℕ). literal_at (58 ∷ []) name.1 >>= λ rest. Ok ((n, name.0), rest)) left c.2) [
                            | inl d ↦ front_on w bytes c.0 left at_has (name_front (before param previous n) 200 (omega arith) (earlier_of param previous n ready.name number.after) c.0 left d) (name_part n number.is number.after)
                            | inr d ↦ (let named = name_read (before param previous n) 200 c.0 d.0.0 d.0.1 d.1 in
                                let at_name : bytes ≡ (w ++ d.0.0) ++ d.0.1 = at_has ∙ ap (λ (x : List ℕ). w ++ x) named.spelled ∙ sym (append_assoc w d.0.0 d.0.1) in
                                front_on (w ++ d.0.0) bytes d.0.1 left at_name (closing_front 58 (n, d.0.0) d.0.1 left d.2) (colon_part n number.is number.after d.0.0 named.is named.after))
                          ])
                    ])
              ])
        ]

  module _ (part : Reader CluType) (sound : Sound scope part) (fronts : Fronts (TypeBegun scope) part) where
    demand_front : (param : ℕ) (previous : List ℕ) → Ready param previous → Fronts (DemandBegun scope param previous) (demand_read scope part param previous)
    unfolding demand_read
    demand_front param previous ready bytes left e =
        elim (and_fails {B = Demanded × List ℕ} (asked_read scope param previous bytes) (λ (asked : (ℕ × List ℕ) × List ℕ). part asked.1 >>= λ t. Ok (record { param = asked.0.0; op = asked.0.1; wanted = t.0 }, t.1)) left e) [
          | inl h ↦ asked_front param previous ready bytes left h
          | inr h ↦ (let n : ℕ = h.0.0.0 in
              let op : List ℕ = h.0.0.1 in
              let asked = asked_spelled scope param previous bytes n op h.0.1 h.1 in
              let u : List ℕ = (35 ∷ decimal n) ++ (codes " has " ++ (op ++ 58 ∷ [])) in
              let whole : bytes ≡ u ++ h.0.1 = asked.spelled ∙ simp append_assoc in
              elim (and_fails {B = Demanded × List ℕ} (part h.0.1) (λ (t : CluType × List ℕ). Ok (record { param = n; op = op; wanted = t.0 }, t.1)) left h.2) [
                | inl g ↦ front_on u bytes h.0.1 left whole (fronts h.0.1 left g)
                    (λ q x. record {
                      d = record { param = n; op = op; wanted = x.t };
                      rest = x.rest;
                      is = asked.is;
                      named = asked.named;
                      follows = asked.follows;
                      typed = x.is;
                      spelled = ap (λ (y : List ℕ). (35 ∷ decimal n) ++ (codes " has " ++ (op ++ 58 ∷ y))) x.spelled ∙ simp append_assoc;
                    })
                | inr g ↦ (let made : Demanded × List ℕ = (record { param = n; op = op; wanted = g.0.0 }, g.0.1) in absurd (never made left g.2))
              ])
        ]

    abbrev DemandsStart : List ℕ → State scope part sound → List ℕ → Type 0
    DemandsStart whole made bytes = DemandsBefore scope part sound whole made bytes × Ready made.1 made.2

    demands_item : (whole : List ℕ) (made : State scope part sound) (bytes : List ℕ) → DemandsBefore scope part sound whole made bytes → (q : List ℕ) → DemandBegun scope made.1 made.2 q → DemandsBegun scope (led demand_text made.0 ++ q)
    demands_item whole made bytes b q x =
        let follows : Follows (last_demand 0 [] made.0).0 (last_demand 0 [] made.0).1 x.d.param x.d.op = subst (λ (p : ℕ × List ℕ). Follows p.0 p.1 x.d.param x.d.op) (sym b.last) x.follows in
        record {
          ds = made.0 ++ x.d ∷ [];
          rest = x.rest ++ [];
          are = demands_joined scope made.0 0 [] x.d b.are x.is x.named follows x.typed;
          some = joined_some made.0 x.d;
          spelled = sym (append-nil (listed demand_text (made.0 ++ x.d ∷ []))) ∙ listed_joined demand_text made.0 x.d [] ∙ shown (led demand_text made.0) (demand_text x.d) [] q x.rest x.spelled;
        }

    demands_fails : (whole : List ℕ) (made : State scope part sound) (bytes : List ℕ) (left : ℕ) → DemandsStart whole made bytes → demands_step scope part made bytes ≡ Err left → Front (DemandsBegun scope) whole left
    demands_fails whole made bytes left b e =
        elim (and_fails (demand_read scope part made.1 made.2 bytes) (λ (d : Demanded × List ℕ). Ok ((made.0 ++ d.0 ∷ [], d.0.param, d.0.op), d.1)) left e) [
          | inl h ↦ front_on (led demand_text made.0) whole bytes left b.0.spelled (demand_front made.1 made.2 b.1 bytes left h) (demands_item whole made bytes b.0)
          | inr h ↦ absurd (never ((made.0 ++ h.0.0 ∷ [], h.0.0.param, h.0.0.op), h.0.1) left h.2)
        ]

    any_of : (param : ℕ) (previous : List ℕ) → Ready param previous → DemandBegun scope param previous []
    any_of param previous ready = mark_part param previous ready [] (35 ∷ [], refl)

    demands_out : (whole : List ℕ) (made : State scope part sound) (bytes : List ℕ) → DemandsStart whole made bytes → Front (DemandsBegun scope) whole (length bytes)
    demands_out whole made bytes b =
        let now : Front (DemandBegun scope made.1 made.2) bytes (length bytes) = at_once bytes (length bytes) refl (any_of made.1 made.2 b.1) in
        front_on (led demand_text made.0) whole bytes (length bytes) b.0.spelled now (demands_item whole made bytes b.0)

    demands_again : (one : nat_le 1 (last_in scope sort.Type) ≡ true) (whole : List ℕ) (made : State scope part sound) (bytes rest : List ℕ) → DemandsAfter scope part sound whole made bytes → demands_next scope part made bytes ≡ Some rest → DemandsStart whole made rest
    demands_again one whole made bytes rest r e =
        let h = tested (nat_le (least_behind made.1 made.2) (last_in scope sort.Type)) bytes rest e in
        let name : (made.2 ≡ []) ⊎ IsName 200 made.2 = subst (λ (p : ℕ × List ℕ). (p.1 ≡ []) ⊎ IsName 200 p.1) r.last (last_demand_named scope made.0 0 [] r.are) in
        (demands_more scope part sound whole made bytes rest r e, record { name = name; some = one; least = h.0 })

    -- the first demand
    ready : nat_le 1 (last_in scope sort.Type) ≡ true → Ready 0 []
    ready one = record { name = inl refl; some = one; least = le-leb (least_behind 0 []) (last_in scope sort.Type) (omega (arith, leb-true 1 (last_in scope sort.Type) one, first_least)) }

    demands_front : nat_le 1 (last_in scope sort.Type) ≡ true → Fronts (DemandsBegun scope) (demands_read scope part)
    unfolding demands_read
    demands_front one bytes left e =
        elim (and_fails (several (demands_step scope part) (demands_next scope part) (length bytes) ([], 0, []) bytes) (λ (x : State scope part sound × List ℕ). Ok (x.0.0, x.1)) left e) [
          | inl h ↦ row_front (demands_step scope part) (demands_next scope part) (DemandsStart bytes) (DemandsAfter scope part sound bytes) (Front (DemandsBegun scope) bytes)
              (λ made b more after s q. demands_on scope part sound bytes made b more after s.0 q) (demands_again one bytes) (demands_fails bytes) (demands_out bytes) (length bytes) ([], 0, []) bytes left (record { are = tt; last = refl; spelled = refl }, ready one) h
          | inr h ↦ absurd (never (h.0.0.0, h.0.1) left h.2)
        ]

    where_part : nat_le 1 (last_in scope sort.Type) ≡ true → (q : List ℕ) → Part (codes " where ") q → WhereBegun scope q
    where_part one q x =
        let d = any_of 0 [] (ready one) in
        let text : List ℕ = (demand_text d.d ++ []) ++ 32 ∷ [] in
        record { ds = d.d ∷ []; rest = x.0 ++ text; are = (d.is, d.named, d.follows, d.typed, tt); spelled = shown_before (codes " where ") text q x.0 x.1 }

    where_inner : (q : List ℕ) → DemandsBegun scope q → WhereBegun scope (codes " where " ++ q)
    where_inner q x = record {
      ds = x.ds;
      rest = x.rest ++ 32 ∷ [];
      are = x.are;
      spelled = sym (append-nil (demands_text x.ds)) ∙ sym (demands_shown scope part sound x.ds [] x.some) ∙ shown (codes " where ") (listed demand_text x.ds) (32 ∷ []) q x.rest x.spelled;
    }

    where_end : (ds : List Demanded) → AreDemands scope 0 [] ds → 0 < length ds → (q : List ℕ) → Part (32 ∷ []) q → WhereBegun scope ((codes " where " ++ listed demand_text ds) ++ q)
    where_end ds are some q x = record {
      ds = ds;
      rest = x.0;
      are = are;
      spelled = sym (append-nil (demands_text ds)) ∙ sym (demands_shown scope part sound ds [] some) ∙ sym (append_assoc (codes " where ") (listed demand_text ds) (32 ∷ [])) ∙ shown_on (codes " where " ++ listed demand_text ds) (32 ∷ []) q x.0 x.1;
    }

    pub where_front : Fronts (WhereBegun scope) (all_demands_read scope part)
    unfolding all_demands_read
    where_front bytes left e =
        let by : List ℕ → Read (List Demanded) = λ (rest : List ℕ). demands_read scope part rest >>= λ ds. literal_at (32 ∷ []) ds.1 >>= λ rest. Ok (ds.0, rest) in
        elim (either (not (begins_with 32 bytes) || not (nat_le 1 (last_in scope sort.Type))) (Ok ([], bytes)) (literal_at (codes " where ") bytes >>= by) (Err left) e) [
          | inl h ↦ absurd (never ([], bytes) left h.1)
          | inr h ↦ (let one = not-false (nat_le 1 (last_in scope sort.Type)) (or_parts (not (begins_with 32 bytes)) (not (nat_le 1 (last_in scope sort.Type))) h.0).1 in
              elim (and_fails (literal_at (codes " where ") bytes) by left h.1) [
                | inl a ↦ front_as bytes left (literal_front (codes " where ") bytes left a) (where_part one)
                | inr a ↦ (let word = literal_spelled (codes " where ") bytes a.0 a.1 in
                    elim (and_fails (demands_read scope part a.0) (λ (ds : List Demanded × List ℕ). literal_at (32 ∷ []) ds.1 >>= λ rest. Ok (ds.0, rest)) left a.2) [
                      | inl b ↦ front_on (codes " where ") bytes a.0 left word (demands_front one a.0 left b) where_inner
                      | inr b ↦ (let ds : List Demanded = b.0.0 in
                          let read = demands_spelled scope part sound a.0 ds b.0.1 b.1 in
                          let whole : bytes ≡ (codes " where " ++ listed demand_text ds) ++ b.0.1 = word ∙ ap (λ (x : List ℕ). codes " where " ++ x) read.spelled ∙ sym (append_assoc (codes " where ") (listed demand_text ds) b.0.1) in
                          front_on (codes " where " ++ listed demand_text ds) bytes b.0.1 left whole (closing_front 32 ds b.0.1 left b.2) (where_end ds read.are read.some))
                    ])
              ])
        ]
