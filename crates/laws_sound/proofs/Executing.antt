-- A statement that is well typed ends as it may where it stands, if the routines that it calls and the level below do.
use Rattle.std.proofs.Common.{◌≡◌, ℕ, Bool, true, false, List, [], ◌∷◌, ◌++◌, Some, refl, sym, ap, subst, ◌∙◌, inl}
use Rattle.std.specs.Prelude.{◌||◌}
use Rattle.std.proofs.lemmas.Bool.{false≢true, and_from}
use Rattle.clu_types.specs.CluType.{CluType, bool_type, string_type, iter_of, CluTypes, no_types, Fields}
use Rattle.clu_builtin.specs.Operation.{one}
use Rattle.clu_layout.specs.Objects.{Routine, Object, string_object, Cell, own_type, own_types}
use Rattle.clu_layout.specs.SameType.{fits, all_fit}
use Rattle.clu_layout.specs.Places.{is_empty}
use Rattle.clu_layout.proofs.CellLaws.{Longer, longer_refl, longer_trans}
use Rattle.clu_meaning.specs.Lists.{is_among}
use Rattle.clu_meaning.specs.Programs.{Variable, Expression, Expressions, Taken, named, dropped, Statement, declaration, initialisation, assignment, assignment_of_results, update, call_statement, while_statement, for_statement, if_statement, tagcase_statement, return_statement, yield_statement, signal_statement, exit_statement, break_statement, continue_statement, begin_statement, resignal_statement, except_statement, Statements, no_statements, statement_and, Clauses, no_clauses, clause_and, Otherwise, nothing_else, otherwise, TagArms, no_tag_arms, tag_arm_and, Whens, no_whens, when_and, Others, no_others, others, Program}
use Rattle.clu_meaning.specs.Computations.{Ending, broken, continued, returned, signalled, raised, exited, through, wrong, Computation, gives, goes_wrong, counts}
use Rattle.clu_meaning.specs.Binding.{Running, inward, assigned}
use Rattle.clu_meaning.specs.Calls.{Round, in_procedure, in_iterator, here, Level, yields}
use Rattle.clu_meaning.specs.Expressions.{eval, eval_all}
use Rattle.clu_meaning.specs.Statements.{types_of_signal, turn_ending, handled, raises_on, arm_if_named, taken_by, returns, signals, resignals, exec, exec_all, exec_clauses, exec_otherwise, exec_tag_arms, exec_whens, exec_others}
use Rattle.clu_meaning.specs.Typed.{type_of_selector, AllTyped}
use Rattle.clu_meaning.proofs.TypedFacts.{typed_on}
use Rattle.clu_meaning.proofs.TypedFine.{Fine}
use Rattle.laws_sound.specs.Raises.{Raise, Takes}
use Rattle.laws_sound.specs.WellTyped.{has_arm, Exhausts, is_handled, Site, Bind, MayBind, HasTypes, HaveTypes, TakesObjects, PassesOn, Returns, MaySignal, Resignals, WellTyped, AllWellTyped, ClausesWellTyped, OtherwiseWellTyped, ArmsWellTyped, WhensWellTyped, OthersWellTyped}
use Rattle.laws_sound.specs.Sound.{ProgramWellTyped}
use Rattle.laws_sound.proofs.Safe.{Sound, sound_as, sound_need, sound_needed, sound_either, sound_spends, sound_counts, sound_and_then, sound_either_way, AreOf, IsOf}
use Rattle.laws_sound.proofs.Moves.{takes_left, takes_right, sound_assigned, sound_forgets}
use Rattle.laws_sound.proofs.Transitive.{trans_all}
use Rattle.laws_sound.proofs.Evaluating.{CalledWell, sound_value, sound_condition, with_iter, sound_operation, sound_expression, sound_expressions}
use Rattle.laws_sound.proofs.Handing.{sound_handed_out, signalled_here}
use Rattle.laws_sound.proofs.Calling.{Done, results_of}
use Rattle.laws_sound.proofs.Invoking.{fit_same}
use Rattle.laws_sound.proofs.Endings.{Nest, no_loop, loop_at, Permits, RoundTyped, fine_of, Ends, Goes, of_objects, end_on, done, LevelGoes}
use Rattle.laws_sound.proofs.Iterating.{YieldEnds, sound_yields}
use Rattle.laws_sound.proofs.Looping.{sound_for}
use Rattle.laws_sound.proofs.Tags.{sound_tagged}

-- ---- the first arm of a name

or_by : (a b : Bool) → a ≡ false → b ≡ false → (a || b) ≡ false
or_by a b e f = ap (λ x. x || b) e ∙ f

module _ (program : Program) (lawful : Routine → Type 0) (round : Round) (nest : Nest) where
  -- ---- endings that pass

  -- of a turn of a while statement
  turn_passes : (p : Site) (base : List Cell) (again : Computation (Unit {0})) → Goes program lawful round nest p base again → (e : Ending) → Ends program lawful round nest (record p { in_loop = true }) base e → Goes program lawful round nest p base (turn_ending again e)
  unfolding turn_ending
  turn_passes p base again g broken h = done program lawful round nest p base
  turn_passes p base again g continued h = g
  turn_passes p base again g (returned os) h = end_on program lawful round nest p base (returned os) h
  turn_passes p base again g (signalled name os) h = end_on program lawful round nest p base (signalled name os) h
  turn_passes p base again g (raised name os) h = end_on program lawful round nest p base (raised name os) h
  turn_passes p base again g (exited name os) h = end_on program lawful round nest p base (exited name os) h
  turn_passes p base again g (through e) h = end_on program lawful round nest p base (through e) h
  turn_passes p base again g wrong h = absurd h.1

  -- of a statement with handlers
  handled_passes : (p : Site) (inner exits : List Raise) (base : List Cell) (on_raise on_exit : List ℕ → List Object → Computation (Unit {0})) (e : Ending) → Ends program lawful round nest (record p { raises = inner; exits = exits }) base e →
      ((name : List ℕ) (os : List Object) → AllTyped program lawful base os → Takes inner name os → Goes program lawful round nest p base (on_raise name os)) →
      ((name : List ℕ) (os : List Object) → AllTyped program lawful base os → Takes exits name os → Goes program lawful round nest p base (on_exit name os)) → Goes program lawful round nest p base (handled on_raise on_exit e)
  unfolding handled
  handled_passes p inner exits base on_raise on_exit (raised name os) h f g = f name os h.0 h.1
  handled_passes p inner exits base on_raise on_exit (exited name os) h f g = g name os h.0 h.1
  handled_passes p inner exits base on_raise on_exit broken h f g = end_on program lawful round nest p base broken h
  handled_passes p inner exits base on_raise on_exit continued h f g = end_on program lawful round nest p base continued h
  handled_passes p inner exits base on_raise on_exit (returned os) h f g = end_on program lawful round nest p base (returned os) h
  handled_passes p inner exits base on_raise on_exit (signalled name os) h f g = end_on program lawful round nest p base (signalled name os) h
  handled_passes p inner exits base on_raise on_exit (through e) h f g = end_on program lawful round nest p base (through e) h
  handled_passes p inner exits base on_raise on_exit wrong h f g = absurd h.1

  counted_goes : (p : Site) (base : List Cell) (n : ℕ) (m : Computation (Unit {0})) → Goes program lawful round nest p base m → Goes program lawful round nest p base (counts n m)
  counted_goes p base n m h = sound_counts program lawful round base Done (Ends program lawful round nest p) n m h

  module _ (stands : RoundTyped program lawful round nest) where
    fine_here : Fine program (here round)
    fine_here = fine_of program lawful round nest stands

    bind_goes : (p : Site) (base : List Cell) (xs : List Variable) (us : CluTypes) (os : List Object) (m : Computation (Unit {0})) → Bind program lawful (here round) xs us → AreOf program lawful us base os → Goes program lawful round nest p base m →
        Goes program lawful round nest p base (assigned (here round) xs os m)
    bind_goes p base xs us os m b h g = sound_assigned program lawful round fine_here.belongs base Done (Ends program lawful round nest p) m g xs os b.types b.declared h.0 (trans_all (own_types os) us b.types h.1 b.fit)

    arm_goes : (p : Site) (base : List Cell) (xs : List Variable) (u : CluType) (o : Object) (m : Computation (Unit {0})) → MayBind program lawful (here round) xs u → IsOf program lawful u base o → Goes program lawful round nest p base m →
        Goes program lawful round nest p base (arm_if_named (here round) xs o m)
    unfolding arm_if_named
    arm_goes p base [] u o m b h g = g
    arm_goes p base (x ∷ xs) u o m b h g = counted_goes p base _ _ (bind_goes p base (x ∷ xs) (one u) (o ∷ []) m b ((h.0, tt), and_from (fits (own_type o) u) true h.1 refl) g)

    taken_goes : (p : Site) (base : List Cell) (names : List (List ℕ)) (taken : Taken) (inner : List Raise) (name : List ℕ) (os : List Object) (m : Computation (Unit {0})) → TakesObjects program lawful (here round) names taken inner →
        is_among names name ≡ true → AllTyped program lawful base os → Takes inner name os → Goes program lawful round nest p base m → Goes program lawful round nest p base (taken_by (here round) taken os m)
    unfolding taken_by
    taken_goes p base names (named xs) inner name os m (ts, declared, takes) is typed t g = counted_goes p base _ _
        (sound_assigned program lawful round fine_here.belongs base Done (Ends program lawful round nest p) m g xs os ts declared typed (takes name os is t))
    taken_goes p base names dropped inner name os m h is typed t g = g

    -- ---- ends of routines

    return_permitted : (p : Site) (os : List Object) → p.may_end ≡ true → (here round).definition.is_iterator ≡ false → all_fit (own_types os) (results_of (here round)) ≡ true → Permits (returned os) round nest p
    return_permitted p os may iter fit = by round nest stands iter fit
      where
        by : (place : Round) (n : Nest) → RoundTyped program lawful place n → (here place).definition.is_iterator ≡ false → all_fit (own_types os) (results_of (here place)) ≡ true → Permits (returned os) place n p
        by (in_procedure r) n s iter fit = (may, fit)
        by (in_iterator r body declared xs caller) n s iter fit = may

    nothing_permitted : (p : Site) → p.may_end ≡ true → (here round).definition.is_iterator ≡ true → Permits (returned []) round nest p
    nothing_permitted p may iter = by round nest stands iter
      where
        by : (place : Round) (n : Nest) → RoundTyped program lawful place n → (here place).definition.is_iterator ≡ true → Permits (returned []) place n p
        by (in_procedure r) no_loop s iter = absurd (false≢true (sym s.1 ∙ iter))
        by (in_procedure r) (loop_at q n) s iter = absurd s
        by (in_iterator r body declared xs caller) n s iter = may

    returns_goes : (p : Site) (base : List Cell) (us : CluTypes) (os : List Object) → p.may_end ≡ true → Returns program lawful (here round) (here round).definition.is_iterator us → AreOf program lawful us base os → Goes program lawful round nest p base (returns (here round) os)
    returns_goes p base us os may r h = sound_either program lawful round base Done (Ends program lawful round nest p) (here round).definition.is_iterator _ _
        (λ iter. sound_need program lawful round base Done (Ends program lawful round nest p) _ _ (empty os (subst (λ vs. all_fit (own_types os) vs ≡ true) (none_returned iter) h.1))
        (end_on program lawful round nest p base (returned []) (tt, nothing_permitted p may iter)))
        (λ proc. sound_handed_out program lawful round fine_here base Done (Ends program lawful round nest p) (here round).definition.results os _ fine_here.heading.results h.0
        (trans_all (own_types os) us _ h.1 (subst (λ b. Returns program lawful (here round) b us) proc r)) (λ handed all fit. end_on program lawful round nest p base (returned handed) (all, return_permitted p handed may proc fit)))
      where
        none_returned : (here round).definition.is_iterator ≡ true → us ≡ no_types
        none_returned iter = subst (λ b. Returns program lawful (here round) b us) iter r

        empty : (xs : List Object) → all_fit (own_types xs) no_types ≡ true → is_empty xs ≡ true
        empty [] e = refl
        empty (x ∷ xs) e = absurd (false≢true e)

    signals_goes : (p : Site) (base : List Cell) (name : List ℕ) (us : CluTypes) (os : List Object) → p.may_end ≡ true → MaySignal program lawful (here round) name us → AreOf program lawful us base os → Goes program lawful round nest p base (signals (here round) name os)
    signals_goes p base name us os may s h =
        let known = signalled_here (here round) name s.types fine_here.heading.signals s.there in
        sound_needed program lawful round base Done (Ends program lawful round nest p) (types_of_signal (here round) name) _ s.types s.there
        (sound_handed_out program lawful round fine_here base Done (Ends program lawful round nest p) s.types os _ known.stand h.0 (trans_all (own_types os) us _ h.1 s.fit)
        (λ handed all fit. end_on program lawful round nest p base (signalled name handed) (all, (may, known.takes handed fit, known.text handed fit))))

    resignals_goes : (p : Site) (base : List Cell) (names : List (List ℕ)) (inner : List Raise) (name : List ℕ) (os : List Object) → p.may_end ≡ true → Resignals program lawful (here round) p names inner → AllTyped program lawful base os → Takes inner name os →
        Goes program lawful round nest p base (resignals (here round) names name os)
    resignals_goes p base names inner name os may r typed t = counted_goes p base _ _ (sound_either program lawful round base Done (Ends program lawful round nest p) (is_among names name) _ _
        (λ yes. signals_goes p base name (own_types os) os may (r.signalled name os yes t) (typed, fit_same (own_types os)))
        (λ no_. end_on program lawful round nest p base (raised name os) (typed, r.raised name os no_ t)))

-- ---- the step

module _ (program : Program) (lawful : Routine → Type 0) (whole : ProgramWellTyped program lawful) (low : Level) (lows : LevelGoes program lawful low) (called : CalledWell program lawful low) (round : Round) (nest : Nest) (stands : RoundTyped program lawful round nest) where
  fine : Fine program (here round)
  fine = fine_of program lawful round nest stands

  gives_types : (p : Site) (e : Expression) (ts : CluTypes) → HasTypes program lawful (here round) p.raises e ts → (base : List Cell) → Sound program lawful round base (AreOf program lawful ts) (Ends program lawful round nest p) (eval program low round e)
  gives_types p e ts h base = of_objects program lawful round nest (AreOf program lawful ts) p base _ (sound_expression program lawful low called round fine.belongs fine.home p.raises e ts h base)

  give_types : (p : Site) (es : Expressions) (ts : CluTypes) → HaveTypes program lawful (here round) p.raises es ts → (base : List Cell) → Sound program lawful round base (AreOf program lawful ts) (Ends program lawful round nest p) (eval_all program low round es)
  give_types p es ts h base = of_objects program lawful round nest (AreOf program lawful ts) p base _ (sound_expressions program lawful low called round fine.belongs fine.home p.raises es ts h base)

  finished : (p : Site) (base : List Cell) → Goes program lawful round nest p base (gives tt)
  finished p base = done program lawful round nest p base

  bound_done : (p : Site) (base : List Cell) (xs : List Variable) (us : CluTypes) (os : List Object) → Bind program lawful (here round) xs us → AreOf program lawful us base os → Goes program lawful round nest p base (assigned (here round) xs os (gives tt))
  bound_done p base xs us os b h = bind_goes program lawful round nest stands p base xs us os (gives tt) b h (finished p base)

  counted : (p : Site) (base : List Cell) (n : ℕ) (m : Computation (Unit {0})) → Goes program lawful round nest p base m → Goes program lawful round nest p base (counts n m)
  counted p base n m h = counted_goes program lawful round nest p base n m h

  yields_goes : (p : Site) (base : List Cell) (us : CluTypes) (os : List Object) → p.may_end ≡ true → (here round).definition.is_iterator ≡ true → all_fit us (inward (here round).given (here round).definition.results) ≡ true → AreOf program lawful us base os →
      Goes program lawful round nest p base (yields low round os)
  yields_goes p base us os may iter fit h = by round nest stands iter (trans_all (own_types os) us _ h.1 fit)
    where
      passed : (r : Running) (body : Statements) (declared : ℕ) (xs : List Variable) (caller : Round) (q : Site) (n : Nest) (cells : List Cell) (e : Ending) → YieldEnds program lawful (λ c x. Permits x caller n q) (λ c x. x) (λ a b l x k. k) cells e →
          Ends program lawful (in_iterator r body declared xs caller) (loop_at q n) p cells e
      passed r body declared xs caller q n cells (through broken) k = k
      passed r body declared xs caller q n cells (through continued) k = k
      passed r body declared xs caller q n cells (through (returned xs')) k = k
      passed r body declared xs caller q n cells (through (signalled name xs')) k = k
      passed r body declared xs caller q n cells (through (raised name xs')) k = k
      passed r body declared xs caller q n cells (through (exited name xs')) k = k
      passed r body declared xs caller q n cells (through (through x)) k = k
      passed r body declared xs caller q n cells (through wrong) k = k
      passed r body declared xs caller q n cells _ k = absurd k.1

      by : (place : Round) (m : Nest) → RoundTyped program lawful place m → (here place).definition.is_iterator ≡ true → all_fit (own_types os) (inward (here place).given (here place).definition.results) ≡ true → Goes program lawful place m p base (yields low place os)
      by (in_procedure r) no_loop s iter fit = absurd (false≢true (sym s.1 ∙ iter))
      by (in_procedure r) (loop_at q n) s iter fit = absurd s
      by (in_iterator r body declared xs caller) no_loop s iter fit = absurd s
      by (in_iterator r body declared xs caller) (loop_at q n) s iter fit =
          sound_as program lawful (in_iterator r body declared xs caller) base Done Done (YieldEnds program lawful (λ c x. Permits x caller n q) (λ c x. x) (λ a b l x k. k)) (Ends program lawful (in_iterator r body declared xs caller) (loop_at q n) p) _
          (λ c a k. k) (passed r body declared xs caller q n)
          (sound_yields program lawful (λ c x. Permits x caller n q) (λ c x. x) (λ a b l x k. k) low r body declared xs caller s.0 base os h.0 fit (λ cells l handed all same.
          counted_goes program lawful caller n q cells declared _ (bind_goes program lawful caller n s.2 q cells xs _ handed _ s.4 (all, same) (lows.at caller n s.2 q body s.3 cells))))

  -- nothing else: each tag has an arm
  exhausted : (fs : Fields) (arms : TagArms) (o : Otherwise) (tag : List ℕ) (u : CluType) → Exhausts fs arms o → type_of_selector fs tag ≡ Some u → has_arm arms tag ≡ false → o ≡ nothing_else → ⊥
  exhausted fs arms o tag u full found none e = by o e full
    where
      is_nothing : Otherwise → Bool
      is_nothing nothing_else = true
      is_nothing (otherwise body) = false

      by : (x : Otherwise) → x ≡ nothing_else → Exhausts fs arms x → ⊥
      by nothing_else f k = false≢true (sym none ∙ k tag u found)
      by (otherwise body) f k = false≢true (ap is_nothing f)

  mutual
    unfolding exec exec_all exec_clauses exec_otherwise exec_tag_arms exec_whens exec_others

    pub sound_statement : (s : Statement) (p : Site) → WellTyped program lawful (here round) p s → (base : List Cell) → Goes program lawful round nest p base (exec program low round s)
    sound_statement (declaration xs) p h base = counted p base 1 _ (counted p base _ _ (sound_forgets program lawful round base Done (Ends program lawful round nest p) _ (finished p base) xs))
    sound_statement (initialisation xs e) p (us, he, b) base = counted p base 1 _ (counted p base _ _ (sound_forgets program lawful round base Done (Ends program lawful round nest p) _
        (sound_and_then program lawful round base (AreOf program lawful us) Done (Ends program lawful round nest p) _ _ (gives_types p e us he base) (λ cells l os hos. bound_done p cells xs us os b hos)) xs))
    sound_statement (assignment xs es) p (us, hes, b) base = counted p base 1 _
        (sound_and_then program lawful round base (AreOf program lawful us) Done (Ends program lawful round nest p) _ _ (give_types p es us hes base) (λ cells l os hos. bound_done p cells xs us os b hos))
    sound_statement (assignment_of_results xs e) p (us, he, b) base = counted p base 1 _
        (sound_and_then program lawful round base (AreOf program lawful us) Done (Ends program lawful round nest p) _ _ (gives_types p e us he base) (λ cells l os hos. bound_done p cells xs us os b hos))
    sound_statement (update name e es) p (t, us, ts, he, hes, i) base = counted p base 1 _
        (sound_value program lawful round base Done (Ends program lawful round nest p) t _ _ (gives_types p e (one t) he base) (λ cells l o ho.
        sound_and_then program lawful round cells (AreOf program lawful us) Done (Ends program lawful round nest p) _ _ (give_types p es us hes cells) (λ more k os hos.
        sound_and_then program lawful round more (AreOf program lawful ts) Done (Ends program lawful round nest p) _ _
        (of_objects program lawful round nest (AreOf program lawful ts) p more _ (sound_operation program lawful low called round fine.belongs fine.home p.raises name t us ts i more o os (typed_on program lawful cells more k o ho.0, ho.1) hos))
        (λ last m results hr. finished p last))))
    sound_statement (call_statement e) p (ts, he) base = counted p base 1 _
        (sound_and_then program lawful round base (AreOf program lawful ts) Done (Ends program lawful round nest p) _ _ (gives_types p e ts he base) (λ cells l os hos. finished p cells))
    sound_statement (while_statement e body) p (he, hb) base = counted p base 1 _
        (sound_condition program lawful round base Done (Ends program lawful round nest p) _ _ (gives_types p e (one bool_type) he base) (λ cells l b.
        sound_either program lawful round cells Done (Ends program lawful round nest p) b _ _
        (λ yes. sound_spends program lawful round cells Done (Ends program lawful round nest p) _
        (sound_either_way program lawful round cells Done Done (Ends program lawful round nest (record p { in_loop = true })) (Ends program lawful round nest p) _ _ _ (sound_statements body (record p { in_loop = true }) hb cells)
        (λ more k d u. lows.at round nest stands p (statement_and (while_statement e body) no_statements) ((he, hb), tt) more)
        (λ more k ending h. turn_passes program lawful round nest p more _ (lows.at round nest stands p (statement_and (while_statement e body) no_statements) ((he, hb), tt) more) ending h)))
        (λ no_. finished p cells)))
    sound_statement (for_statement declared xs e es body) p (args, ts, ss, us, he, hes, c, b, hb) base = counted p base 1 _ (counted p base 1 _
        (sound_value program lawful round base Done (Ends program lawful round nest p) (iter_of args ts ss) _ _ (gives_types p e (one (iter_of args ts ss)) he base) (λ cells l o ho.
        sound_and_then program lawful round cells (AreOf program lawful us) Done (Ends program lawful round nest p) _ _ (give_types p es us hes cells) (λ more k os hos.
        with_iter program lawful round more Done (Ends program lawful round nest p) args ts ss o _ (typed_on program lawful cells more k o ho.0, ho.1) (λ r few heading law among.
        sound_for program lawful whole low lows round nest stands p declared xs body args ts few ss us r heading law among c b hb more os hos)))))
    sound_statement (if_statement clauses other) p (hc, ho) base = counted p base 1 _ (sound_clauses clauses p hc base _ (λ cells l. sound_otherwise other p ho cells (gives tt) (λ none. finished p cells)))
    sound_statement (tagcase_statement e arms other) p (t, fs, he, is, full, ha, ho) base = counted p base 1 _
        (sound_value program lawful round base Done (Ends program lawful round nest p) t _ _ (gives_types p e (one t) he base) (λ cells l o ho'.
        sound_tagged program lawful round cells Done (Ends program lawful round nest p) t fs o _ is ho' (λ more k tag x u found typed fit.
        sound_arms arms p fs ha more tag x u found (typed, fit) _ (λ none. sound_otherwise other p ho more goes_wrong (λ nothing. absurd (exhausted fs arms other tag u full found none nothing))))))
    sound_statement (return_statement es) p (us, hes, may, r) base = counted p base 1 _
        (sound_and_then program lawful round base (AreOf program lawful us) Done (Ends program lawful round nest p) _ _ (give_types p es us hes base) (λ cells l os hos. returns_goes program lawful round nest stands p cells us os may r hos))
    sound_statement (yield_statement es) p (us, hes, may, iter, fit) base = counted p base 1 _
        (sound_and_then program lawful round base (AreOf program lawful us) Done (Ends program lawful round nest p) _ _ (give_types p es us hes base) (λ cells l os hos. yields_goes p cells us os may iter fit hos))
    sound_statement (signal_statement name es) p (us, hes, may, s) base = counted p base 1 _
        (sound_and_then program lawful round base (AreOf program lawful us) Done (Ends program lawful round nest p) _ _ (give_types p es us hes base) (λ cells l os hos. signals_goes program lawful round nest stands p cells name us os may s hos))
    sound_statement (exit_statement name es) p (us, hes, c) base = counted p base 1 _
        (sound_and_then program lawful round base (AreOf program lawful us) Done (Ends program lawful round nest p) _ _ (give_types p es us hes base) (λ cells l os hos.
        end_on program lawful round nest p cells (exited name os) (hos.0, c.at name os (inl (refl, hos.1)))))
    sound_statement break_statement p h base = counted p base 1 _ (end_on program lawful round nest p base broken (tt, h))
    sound_statement continue_statement p h base = counted p base 1 _ (end_on program lawful round nest p base continued (tt, h))
    sound_statement (begin_statement body) p h base = counted p base 1 _ (sound_statements body p h base)
    sound_statement (resignal_statement s names) p (inner, hs, may, r) base = counted p base 1 _
        (sound_either_way program lawful round base Done Done (Ends program lawful round nest (record p { raises = inner })) (Ends program lawful round nest p) _ _ _ (sound_statement s (record p { raises = inner }) hs base)
        (λ cells l d u. finished p cells)
        (λ cells l ending h. handled_passes program lawful round nest p inner p.exits cells _ _ ending h
        (λ name os typed t. resignals_goes program lawful round nest stands p cells names inner name os may r typed t)
        (λ name os typed t. end_on program lawful round nest p cells (exited name os) (typed, t))))
    sound_statement (except_statement s whens other) p (inner, exits, hs, hw, raised_on, exited_on, ho) base = counted p base 1 _
        (sound_either_way program lawful round base Done Done (Ends program lawful round nest (record p { raises = inner; exits = exits })) (Ends program lawful round nest p) _ _ _ (sound_statement s (record p { raises = inner; exits = exits }) hs base)
        (λ cells l d u. finished p cells)
        (λ cells l ending h. handled_passes program lawful round nest p inner exits cells _ _ ending h
        (λ name os typed t. counted p cells _ _ (sound_whens whens p (inner ++ exits) hw cells name os typed (takes_left inner exits name os t) _
        (λ none. sound_others other p ho cells name os typed whens none (inner, raised_on, t))))
        (λ name os typed t. sound_whens whens p (inner ++ exits) hw cells name os typed (takes_right inner exits name os t) _
        (λ none. end_on program lawful round nest p cells (exited name os) (typed, exited_on name os none t)))))

    pub sound_statements : (ss : Statements) (p : Site) → AllWellTyped program lawful (here round) p ss → (base : List Cell) → Goes program lawful round nest p base (exec_all program low round ss)
    sound_statements no_statements p h base = finished p base
    sound_statements (statement_and s rest) p h base = sound_and_then program lawful round base Done Done (Ends program lawful round nest p) _ _ (sound_statement s p h.0 base) (λ cells l d u. sound_statements rest p h.1 cells)

    sound_clauses : (cs : Clauses) (p : Site) → ClausesWellTyped program lawful (here round) p cs → (base : List Cell) (m : Computation (Unit {0})) → ((cells : List Cell) → Longer base cells → Goes program lawful round nest p cells m) →
        Goes program lawful round nest p base (exec_clauses program low round cs m)
    sound_clauses no_clauses p h base m g = g base (longer_refl base)
    sound_clauses (clause_and e body cs) p h base m g = sound_condition program lawful round base Done (Ends program lawful round nest p) _ _ (gives_types p e (one bool_type) h.0 base) (λ cells l b.
        sound_either program lawful round cells Done (Ends program lawful round nest p) b _ _ (λ yes. sound_statements body p h.1 cells)
        (λ no_. sound_clauses cs p h.2 cells m (λ more k. g more (longer_trans base cells more l k))))

    sound_otherwise : (o : Otherwise) (p : Site) → OtherwiseWellTyped program lawful (here round) p o → (base : List Cell) (m : Computation (Unit {0})) → (o ≡ nothing_else → Goes program lawful round nest p base m) →
        Goes program lawful round nest p base (exec_otherwise program low round o m)
    sound_otherwise nothing_else p h base m g = g refl
    sound_otherwise (otherwise body) p h base m g = sound_statements body p h base

    sound_arms : (arms : TagArms) (p : Site) (fs : Fields) → ArmsWellTyped program lawful (here round) p fs arms → (base : List Cell) (tag : List ℕ) (x : Object) (u : CluType) → type_of_selector fs tag ≡ Some u → IsOf program lawful u base x →
        (m : Computation (Unit {0})) → (has_arm arms tag ≡ false → Goes program lawful round nest p base m) → Goes program lawful round nest p base (exec_tag_arms program low round arms tag x m)
    sound_arms no_tag_arms p fs h base tag x u found is m g = g refl
    sound_arms (tag_arm_and tags xs body arms) p fs h base tag x u found is m g = sound_either program lawful round base Done (Ends program lawful round nest p) (is_among tags tag) _ _
        (λ yes. arm_goes program lawful round nest stands p base xs u x _ (h.0 tag u yes found) is (sound_statements body p h.1 base))
        (λ no_. sound_arms arms p fs h.2 base tag x u found is m (λ none. g (or_by (is_among tags tag) (has_arm arms tag) no_ none)))

    sound_whens : (ws : Whens) (p : Site) (inner : List Raise) → WhensWellTyped program lawful (here round) p ws inner → (base : List Cell) (name : List ℕ) (os : List Object) → AllTyped program lawful base os → Takes inner name os →
        (m : Computation (Unit {0})) → (is_handled ws name ≡ false → Goes program lawful round nest p base m) → Goes program lawful round nest p base (exec_whens program low round ws name os m)
    sound_whens no_whens p inner h base name os typed t m g = g refl
    sound_whens (when_and names taken body ws) p inner h base name os typed t m g = sound_either program lawful round base Done (Ends program lawful round nest p) (is_among names name) _ _
        (λ yes. taken_goes program lawful round nest stands p base names taken inner name os _ h.0 yes typed t (sound_statements body p h.1 base))
        (λ no_. sound_whens ws p inner h.2 base name os typed t m (λ none. g (or_by (is_among names name) (is_handled ws name) no_ none)))

    sound_others : (o : Others) (p : Site) → OthersWellTyped program lawful (here round) p o → (base : List Cell) (name : List ℕ) (os : List Object) → AllTyped program lawful base os → (ws : Whens) → is_handled ws name ≡ false →
        ((inner : List Raise) × PassesOn program lawful (here round) p ws o inner × Takes inner name os) → Goes program lawful round nest p base (exec_others program low round o name (raises_on name os))
    sound_others no_others p h base name os typed ws none (inner, on, t) = end_on program lawful round nest p base (raised name os) (typed, on name os none t)
    sound_others (others xs body) p h base name os typed ws none k = arm_goes program lawful round nest stands p base xs string_type (string_object name) _ h.0 (tt, refl) (sound_statements body p h.1 base)
