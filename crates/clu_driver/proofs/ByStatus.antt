-- What a status alone says, by the outcome that has it.
use Rattle.std.proofs.Common.{◌≡◌, ◌⊎◌, ◌∙◌, ◌==◌, ℕ, Bool, true, List, [], ◌∷◌, Option, Some, None, inl, inr, refl, sym, ap, subst, arith, map}
use Rattle.clu_base.proofs.Written.{appended-nil}
use Rattle.clu_base.specs.Outside.{Files, appended}
use Rattle.clu_base.specs.declared.tokens.Token.{Token}
use Rattle.clu_build.specs.Entering.{text_at}
use Rattle.clu_types.specs.declared.spec.Spec.{Spec}
use Rattle.std.specs.Char.{to_ascii_lowercase}
use Rattle.std.specs.List.{list_any}
use Rattle.clu_library.specs.Contents as library
use Rattle.clu_tree.specs.declared.node.Node.{Node}
use Rattle.rv_isa.specs.Image.{Contents}
use Rattle.clu_words.specs.Command.{Limits, Meant}
use Rattle.clu_words.specs.Command as command
use Rattle.clu_driver.specs.Commands.{CluShows, CommandShows, GenShows, GoShows, IsRefusal}
use Rattle.clu_driver.specs.Shows.{Reported, RunShows, TextShows, untraced}
use Rattle.clu_driver.specs.Libraries.{CompileShows, CompiledShows, EnteredShows, LibraryShows, LinkShows, LinkedShows, NotGathered, SpecifiedShows, SpecifyShows, SpecsShow}
use Rattle.clu_driver.specs.Held.{NotLibrary}
use Rattle.clu_driver.specs.Refusals.{IsRefusalBy}
use Rattle.clu_driver.specs.declared.specifying.Kept.{Kept}
use Rattle.clu_driver.specs.declared.specifying.Kept.TheVariants as kept
use Rattle.clu_build.specs.declared.errors.BuildError.{BuildError}
use Rattle.clu_build.specs.declared.errors.BuildError.TheVariants as build
use Rattle.clu_outcome.specs.Outcome.{IsTold, line_of, status_of, text_of}
use Rattle.clu_driver.specs.Sources.{NotCompiled}
use Rattle.clu_driver.specs.World.{Streams, World}
use Rattle.clu_outcome.specs.declared.outcome.Outcome.{Outcome}
use Rattle.clu_outcome.specs.declared.outcome.Outcome.TheVariants as outcome

-- Usage is the one outcome of its status
usage_of : (how : Outcome) → status_of how ≡ 2 → how ≡ outcome.Usage
usage_of outcome.Usage is = refl
usage_of outcome.Done is = cc
usage_of (outcome.Failure text) is = cc
usage_of (outcome.Traced text trace) is = cc
usage_of _ is = cc

-- no source comes to Usage
not_compiled : (name : List ℕ) (files : Option Files) (faults faults' : ℕ) → NotCompiled outcome.Usage name files faults faults' → ⊥
not_compiled name files faults faults' (inl unread) = unread
not_compiled name files faults faults' (inr unmade) = elim unmade.2 [ inl refused ↦ refused | inr unbuilt ↦ unbuilt.1.2 ]

-- nor does what is read of a library and a source, nor an entry
not_library : (name : List ℕ) (files : Option Files) (faults faults' : ℕ) → NotLibrary outcome.Usage name files faults faults' → ⊥
not_library name files faults faults' unknown = unknown

not_gathered : (library file : List ℕ) (files : Option Files) (faults faults' : ℕ) → NotGathered outcome.Usage library file files faults faults' → ⊥
not_gathered library file files faults faults' (inl unread) = not_library library files faults faults' unread
not_gathered library file files faults faults' (inr unparsed) = unparsed.2

not_put : (name : List ℕ) (kept : library.Contents) (files files' : Option Files) (faults faults' : ℕ) → LibraryShows outcome.Usage name kept files files' faults faults' → ⊥
not_put name kept files files' faults faults' (inl unwritable) = unwritable.0
not_put name kept files files' faults faults' (inr torn) = torn.1

-- no refusal of an entry comes to it
not_refused : (e : BuildError) → IsRefusalBy e outcome.Usage → ⊥
not_refused (build.SpecDiffers d) by = by
not_refused (build.SpecNeeded name) by = by
not_refused (build.NoModule name) by = by
not_refused (build.BadStart name) by = by
not_refused (build.NoBody name) by = by
not_refused (build.Stale body) by = by
not_refused (build.Misfit name) by = by
not_refused build.LibraryFull by = let no : outcome.Usage ≡ outcome.LibraryFull = by in cc
not_refused build.TooManyInstances by = let no : outcome.Usage ≡ outcome.TooManyInstances = by in cc
not_refused build.ProgramTooLarge by = let no : outcome.Usage ≡ outcome.ProgramTooLarge = by in cc
not_refused build.Memory by = let no : outcome.Usage ≡ outcome.Memory = by in cc
not_refused build.NotYet by = let no : outcome.Usage ≡ outcome.NotYet = by in cc

not_linked : (name program start : List ℕ) (known : library.Contents) (files files' : Option Files) (faults faults' : ℕ) → LinkedShows outcome.Usage name program start known files faults files' faults' → ⊥
not_linked name program start known files files' faults faults' (inl refused) = not_refused refused.0.0 refused.0.2
not_linked name program start known files files' faults faults' (inr linked) = not_put name linked.0 files files' faults faults' linked.2

not_entered : (name : List ℕ) (known : library.Contents) (own : List Spec) (texts : ℕ → Option (List ℕ)) (files files' : Option Files) (faults faults' : ℕ) → EnteredShows outcome.Usage name known own texts files faults files' faults' → ⊥
not_entered name known own texts files files' faults faults' (inl refused) = not_refused refused.0.0 refused.0.2
not_entered name known own texts files files' faults faults' (inr put) = not_put name put.0 files files' faults faults' put.2

specs_not_entered : (kept : Kept) (name : List ℕ) (known : library.Contents) (specs : List Spec) (files files' : Option Files) (faults faults' : ℕ) → SpecsShow kept outcome.Usage name known specs files faults files' faults' → ⊥
specs_not_entered kept name known specs files files' faults faults' (inl refused) = not_refused refused.0.0 refused.0.2
specs_not_entered kept name known specs files files' faults faults' (inr put) = not_put name put.0 files files' faults faults' put.2

not_specified : (kept : Kept) (name file : List ℕ) (nodes : List Node) (known : library.Contents) (files files' : Option Files) (faults faults' : ℕ) → SpecifiedShows kept outcome.Usage name file nodes known files faults files' faults' → ⊥
not_specified kept name file nodes known files files' faults faults' (inl refused) = refused.0
not_specified kept name file nodes known files files' faults faults' (inr entered) = specs_not_entered kept name known entered.1.0 files files' faults faults' entered.1.2

not_accepted : (name file : List ℕ) (known : library.Contents) (bytes : List ℕ) (tokens : List Token) (nodes : List Node) (files files' : Option Files) (faults faults' : ℕ) → CompiledShows outcome.Usage name file known bytes tokens nodes files faults files' faults' → ⊥
not_accepted name file known bytes tokens nodes files files' faults faults' (inl refused) = refused.0
not_accepted name file known bytes tokens nodes files files' faults faults' (inr entered) = not_entered name known entered.1.0 (text_at bytes tokens nodes) files files' faults faults' entered.1.2

-- only words that are no command come to Usage
usage_shown : (meant : Option Meant) (before after : World) → CommandShows meant outcome.Usage before after → meant ≡ None
unfolding SpecifyShows CompileShows LinkShows
usage_shown None before after shown = refl
usage_shown (Some (command.go file image limits peep trace)) before after shown = elim shown.1 [
  | inl refused ↦ elim (not_compiled file before.files before.store_faults after.store_faults refused.0) [ ]
  | inr put ↦ elim put.1.3 [ inl notput ↦ elim notput.0 [ ] | inr ran ↦ elim ran.1.ends [ ] ]
]
usage_shown (Some (command.exec image limits)) before after (inl refused) = elim refused.0 [ ]
usage_shown (Some (command.exec image limits)) before after (inr ran) = elim ran.1.2.ends [ ]
usage_shown (Some (command.gen procedures)) before after shown = elim shown.2 [ ]
usage_shown (Some (command.spec a b)) before after shown = elim shown.1 [
  | inl refused ↦ elim (not_gathered a b before.files before.store_faults after.store_faults refused.0) [ ]
  | inr entered ↦ elim (not_specified kept.Stays a b entered.2.0 entered.0 before.files after.files entered.2.2.0 after.store_faults entered.2.2.2) [ ]
]
usage_shown (Some (command.replace a b)) before after shown = elim shown.1 [
  | inl refused ↦ elim (not_gathered a b before.files before.store_faults after.store_faults refused.0) [ ]
  | inr entered ↦ elim (not_specified kept.Goes a b entered.2.0 entered.0 before.files after.files entered.2.2.0 after.store_faults entered.2.2.2) [ ]
]
usage_shown (Some (command.compile a b p)) before after shown = elim shown.1 [
  | inl refused ↦ elim (not_gathered a b before.files before.store_faults after.store_faults refused.0) [ ]
  | inr entered ↦ elim (not_accepted a b entered.0 entered.2.0 entered.2.1 entered.2.2 before.files after.files entered.2.5.0 after.store_faults entered.2.5.2) [ ]
]
usage_shown (Some (command.link a b d)) before after shown = elim shown.1 [
  | inl refused ↦ elim (not_library a before.files before.store_faults after.store_faults refused.0) [ ]
  | inr entered ↦ elim (not_linked a b (map to_ascii_lowercase d) entered.0 before.files after.files entered.2.0 after.store_faults entered.2.2) [ ]
]
usage_shown (Some (command.run a b l)) before after shown = elim shown.1 [
  | inl refused ↦ elim (not_library a before.files before.store_faults after.store_faults refused.0) [ ]
  | inr program ↦ elim program.2 [ inl none ↦ elim none.0 [ ] | inr ran ↦ elim ran.2.ends [ ] ]
]
usage_shown (Some (command.list a)) before after shown = elim shown.1.1 [ inl refused ↦ elim refused.0 [ ] | inr written ↦ elim written.2 [ ] ]
usage_shown (Some (command.asm a b)) before after shown = elim shown.1 [ inl refused ↦ elim refused.0 [ ] | inr put ↦ elim put.2.2 [ ] ]
usage_shown (Some (command.print a)) before after shown = elim shown.1.1 [ inl refused ↦ elim refused.0 [ ] | inr written ↦ elim written.2 [ ] ]
usage_shown (Some (command.xref a)) before after shown = elim shown.1.1 [
  | inl refused ↦ elim (not_library a before.files before.store_faults after.store_faults refused.0) [ ]
  | inr written ↦ elim written.2 [ ]
]

-- the status is the outcome's, or the line could not be written
status_is : (how : Outcome) (status : ℕ) (old new : Option (List ℕ)) (faults faults' : ℕ) → IsTold how status old new faults faults' → (status ≡ status_of how) ⊎ (status ≡ 23)
status_is how status old new faults faults' (inl told) = inl told.0
status_is how status old new faults faults' (inr fault) = inr fault.0

shown_usage : (meant : Option Meant) (before after : World) (how : Outcome) → how ≡ outcome.Usage → CluShows meant how before after → meant ≡ None
shown_usage meant before after how usage (inl memory) = let no : outcome.Memory ≡ outcome.Usage = sym memory.0 ∙ usage in cc
shown_usage meant before after how usage (inr shown) = let P : Outcome → Type 0 = λ o. CommandShows meant o before after in usage_shown meant before after (subst P usage shown)

pub usage_only : (meant : Option Meant) (before after : World) (status : ℕ) (old new : Option (List ℕ)) (faults faults' : ℕ)
    → Reported (λ how. CluShows meant how before after) status old new faults faults' → status ≡ 2 → meant ≡ None
usage_only meant before after status old new faults faults' r two = elim (status_is r.how status old new faults faults' r.told) [
  | inl is ↦ shown_usage meant before after r.how (usage_of r.how (sym is ∙ two)) r.shown
  | inr is ↦ let no : 23 ≡ 2 = sym is ∙ two in absurd (omega (arith, no))
]

-- words that are no command come to Usage or run out of memory
none_shown : (meant : Option Meant) (before after : World) (how : Outcome) → meant ≡ None → CluShows meant how before after → (how ≡ outcome.Usage) ⊎ (how ≡ outcome.Memory)
none_shown meant before after how none (inl memory) = inr memory.0
none_shown None before after how none (inr shown) = inl shown.0
none_shown (Some m) before after how none (inr shown) = cc

pub usage_always : (meant : Option Meant) (before after : World) (status : ℕ) (old new : Option (List ℕ)) (faults faults' : ℕ)
    → Reported (λ how. CluShows meant how before after) status old new faults faults' → meant ≡ None → (status ≡ 2) ⊎ ((status ≡ 23) ⊎ (status ≡ 25))
usage_always meant before after status old new faults faults' r none = elim (status_is r.how status old new faults faults' r.told) [
  | inl is ↦ elim (none_shown meant before after r.how none r.shown) [
    | inl usage ↦ inl (is ∙ ap status_of usage)
    | inr memory ↦ inr (inr (is ∙ ap status_of memory))
  ]
  | inr is ↦ inr (inl is)
]

-- a command that was done has no line
done_of : (how : Outcome) → status_of how ≡ 0 → how ≡ outcome.Done
done_of outcome.Done is = refl
done_of _ is = cc

no_line : (old : Option (List ℕ)) → appended old (line_of outcome.Done) ≡ old
unfolding text_of
no_line old = appended-nil old

pub quiet : (Shows : Outcome → Type 0) (status : ℕ) (old new : Option (List ℕ)) (faults faults' : ℕ) → Reported Shows status old new faults faults' → status ≡ 0 → new ≡ old
quiet Shows status old new faults faults' r zero = elim r.told [
  | inl told ↦ told.1 ∙ ap (λ (o : Outcome). appended old (line_of o)) (done_of r.how (sym told.0 ∙ zero)) ∙ no_line old
  | inr fault ↦ let no : 23 ≡ 0 = sym fault.0 ∙ zero in absurd (omega (arith, no))
]

-- a status with which a command is refused is one of these numbers
abbrev refusing : ℕ → Bool
refusing n = list_any (λ m. m == n) (2 ∷ 10 ∷ 11 ∷ 12 ∷ 13 ∷ 14 ∷ 15 ∷ 16 ∷ 17 ∷ 18 ∷ 19 ∷ 20 ∷ 21 ∷ 24 ∷ 25 ∷ 26 ∷ 27 ∷ 28 ∷ 29 ∷ 30 ∷ 31 ∷ [])

refusal_test : (n : ℕ) → IsRefusal n → refusing n ≡ true
refusal_test n (inl e) = rw e refl
refusal_test n (inr (inl e)) = rw e refl
refusal_test n (inr (inr (inl e))) = rw e refl
refusal_test n (inr (inr (inr (inl e)))) = rw e refl
refusal_test n (inr (inr (inr (inr (inl e))))) = rw e refl
refusal_test n (inr (inr (inr (inr (inr (inl e)))))) = rw e refl
refusal_test n (inr (inr (inr (inr (inr (inr (inl e))))))) = rw e refl
refusal_test n (inr (inr (inr (inr (inr (inr (inr (inl e)))))))) = rw e refl
refusal_test n (inr (inr (inr (inr (inr (inr (inr (inr (inl e))))))))) = rw e refl
refusal_test n (inr (inr (inr (inr (inr (inr (inr (inr (inr (inl e)))))))))) = rw e refl
refusal_test n (inr (inr (inr (inr (inr (inr (inr (inr (inr (inr (inl e))))))))))) = rw e refl
refusal_test n (inr (inr (inr (inr (inr (inr (inr (inr (inr (inr (inr (inl e)))))))))))) = rw e refl
refusal_test n (inr (inr (inr (inr (inr (inr (inr (inr (inr (inr (inr (inr (inl e))))))))))))) = rw e refl
refusal_test n (inr (inr (inr (inr (inr (inr (inr (inr (inr (inr (inr (inr (inr (inl e)))))))))))))) = rw e refl
refusal_test n (inr (inr (inr (inr (inr (inr (inr (inr (inr (inr (inr (inr (inr (inr (inl e))))))))))))))) = rw e refl
refusal_test n (inr (inr (inr (inr (inr (inr (inr (inr (inr (inr (inr (inr (inr (inr (inr (inl e)))))))))))))))) = rw e refl
refusal_test n (inr (inr (inr (inr (inr (inr (inr (inr (inr (inr (inr (inr (inr (inr (inr (inr (inl e))))))))))))))))) = rw e refl
refusal_test n (inr (inr (inr (inr (inr (inr (inr (inr (inr (inr (inr (inr (inr (inr (inr (inr (inr (inl e)))))))))))))))))) = rw e refl
refusal_test n (inr (inr (inr (inr (inr (inr (inr (inr (inr (inr (inr (inr (inr (inr (inr (inr (inr (inr (inl e))))))))))))))))))) = rw e refl
refusal_test n (inr (inr (inr (inr (inr (inr (inr (inr (inr (inr (inr (inr (inr (inr (inr (inr (inr (inr (inr (inl e)))))))))))))))))))) = rw e refl
refusal_test n (inr (inr (inr (inr (inr (inr (inr (inr (inr (inr (inr (inr (inr (inr (inr (inr (inr (inr (inr (inr e)))))))))))))))))))) = rw e refl

-- a run that is refused has written nothing
ran_refused : (how : Outcome) (image : Contents) (limits : Limits) (before after : Streams) → IsRefusal (status_of how) → RunShows how image limits before after → after.written ≡ before.written
ran_refused outcome.Memory image limits before after h r = r
ran_refused outcome.Done image limits before after h r = cc (refusal_test 0 h)
ran_refused (outcome.Failure text) image limits before after h r = cc (refusal_test 1 h)
ran_refused outcome.StoreFull image limits before after h r = cc (refusal_test 3 h)
ran_refused outcome.StackFull image limits before after h r = cc (refusal_test 4 h)
ran_refused outcome.StepsSpent image limits before after h r = cc (refusal_test 5 h)
ran_refused (outcome.BadInstruction at) image limits before after h r = cc (refusal_test 6 h)
ran_refused (outcome.BadAccess at) image limits before after h r = cc (refusal_test 7 h)
ran_refused (outcome.BadJump at) image limits before after h r = cc (refusal_test 8 h)
ran_refused (outcome.BadEcall n) image limits before after h r = cc (refusal_test 9 h)
ran_refused outcome.ReadFault image limits before after h r = cc (refusal_test 22 h)
ran_refused outcome.WriteFault image limits before after h r = cc (refusal_test 23 h)
ran_refused _ image limits before after h r = elim r.ends [ ]

-- nor has gen, nor what writes a text
gen_refused : (how : Outcome) (n : ℕ) (written written' : Option (List ℕ)) (faults faults' : ℕ) → IsRefusal (status_of how) → GenShows how n written written' faults faults' → written' ≡ written
gen_refused outcome.Done n written written' faults faults' h r = cc (refusal_test 0 h)
gen_refused outcome.WriteFault n written written' faults faults' h r = cc (refusal_test 23 h)
gen_refused _ n written written' faults faults' h r = elim r [ ]

text_refused : (how : Outcome) (text : List ℕ) (written : Option (List ℕ)) (faults : ℕ) (written' : Option (List ℕ)) (faults' : ℕ) → IsRefusal (status_of how) → TextShows how text written faults written' faults' → written' ≡ written
text_refused outcome.Done text written faults written' faults' h r = cc (refusal_test 0 h)
text_refused outcome.WriteFault text written faults written' faults' h r = cc (refusal_test 23 h)
text_refused _ text written faults written' faults' h r = elim r [ ]

-- a trace changes no status
status_untraced : (how : Outcome) → status_of (untraced how) ≡ status_of how
status_untraced (outcome.Traced text trace) = refl
status_untraced _ = refl

go_refused : (how : Outcome) (file image : List ℕ) (limits : Limits) (before after : World) → IsRefusal (status_of how) → GoShows how file image limits before after → after.streams.written ≡ before.streams.written
go_refused how file image limits before after h (inl refused) = refused.1.1.written
go_refused how file image limits before after h (inr put) = elim put.1.3 [ inl notput ↦ notput.1.written | inr ran ↦ ran_refused how put.1.0 limits before.streams after.streams h ran.1 ]

refused_shown : (meant : Option Meant) (before after : World) (how : Outcome) → IsRefusal (status_of how) → CommandShows meant how before after → after.streams.written ≡ before.streams.written
refused_shown None before after how h shown = shown.1.1.written
refused_shown (Some (command.go file image limits peep trace)) before after how h shown =
    let P : ℕ → Type 0 = λ n. IsRefusal n in go_refused (untraced how) file image limits before after (subst P (sym (status_untraced how)) h) shown.1
refused_shown (Some (command.exec image limits)) before after how h (inl refused) = refused.1.1.written
refused_shown (Some (command.exec image limits)) before after how h (inr ran) = ran_refused how ran.1.0 limits before.streams after.streams h ran.1.2
refused_shown (Some (command.gen procedures)) before after how h shown = gen_refused how procedures before.streams.written after.streams.written before.streams.write_faults after.streams.write_faults h shown.2
refused_shown (Some (command.print a)) before after how h shown = elim shown.1.1 [
  | inl refused ↦ refused.1
  | inr text ↦ text_refused how text.0 before.streams.written before.streams.write_faults after.streams.written after.streams.write_faults h text.2
]
refused_shown (Some (command.list a)) before after how h shown = elim shown.1.1 [
  | inl refused ↦ refused.1
  | inr text ↦ text_refused how text.0 before.streams.written before.streams.write_faults after.streams.written after.streams.write_faults h text.2
]
refused_shown (Some (command.asm a b)) before after how h shown = shown.0.written
refused_shown (Some (command.spec a b)) before after how h shown = shown.0.written
refused_shown (Some (command.replace a b)) before after how h shown = shown.0.written
refused_shown (Some (command.compile a b p)) before after how h shown = shown.0.written
refused_shown (Some (command.link a b d)) before after how h shown = shown.0.written
refused_shown (Some (command.run a b l)) before after how h shown = elim shown.1 [
  | inl refused ↦ refused.1.written
  | inr program ↦ elim program.2 [ inl none ↦ none.1.written | inr ran ↦ ran_refused how ran.0.image l before.streams after.streams h ran.2 ]
]
refused_shown (Some (command.xref a)) before after how h shown = elim shown.1.1 [
  | inl refused ↦ refused.1
  | inr text ↦ text_refused how text.0 before.streams.written before.streams.write_faults after.streams.written after.streams.write_faults h text.2
]

refused_by : (meant : Option Meant) (before after : World) (how : Outcome) → IsRefusal (status_of how) → CluShows meant how before after → after.streams.written ≡ before.streams.written
refused_by meant before after how h (inl memory) = memory.1.1.written
refused_by meant before after how h (inr shown) = refused_shown meant before after how h shown

pub refused : (meant : Option Meant) (before after : World) (status : ℕ) (old new : Option (List ℕ)) (faults faults' : ℕ)
    → Reported (λ how. CluShows meant how before after) status old new faults faults' → IsRefusal status → after.streams.written ≡ before.streams.written
refused meant before after status old new faults faults' r h =
    let P : ℕ → Type 0 = λ n. IsRefusal n in
    elim (status_is r.how status old new faults faults' r.told) [
      | inl is ↦ refused_by meant before after r.how (subst P is h) r.shown
      | inr is ↦ cc (refusal_test 23 (subst P is h))
    ]
