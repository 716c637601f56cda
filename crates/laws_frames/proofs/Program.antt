-- At each level each routine of a program does in flat code what it means in word code.
use Rattle.std.proofs.Common.{◌≡◌, ℕ, zero, suc, List, Option, None, Some, refl, arith, inl}
use Rattle.clu_base.proofs.Lists.{none_is_not}
use Rattle.clu_base.specs.declared.constants.ObjConst.{ObjConst}
use Rattle.clu_frames.specs.Plain as flat
use Rattle.clu_frames.specs.Flattening.{all_onto, begun, outermost, pushed}
use Rattle.clu_wir.specs.Plain.{Deed, Expr}
use Rattle.clu_word_meaning.specs.Words.{Body, Linked, ends}
use Rattle.clu_word_meaning.specs.Words.{Entry as WordEntry}
use Rattle.clu_word_meaning.specs.Levels.{Callee, WordRoutine, bare, entered, enters, framed, level, no_entries, unentered}
use Rattle.clu_flat_meaning.specs.Image.{FlatArm, Image, Instance, at_step}
use Rattle.clu_flat_meaning.specs.Image as parts
use Rattle.clu_flat_meaning.proofs.Runs.{Front}
use Rattle.laws_frames.specs.Calls.{Context}
use Rattle.laws_frames.proofs.Relation.{Fit}
use Rattle.laws_frames.proofs.Entering.{BodyOk, EntryOk, FrameOk, Local}
use Rattle.laws_frames.proofs.Framing.{Compiled, enter_ok, laws_on, place_on}
use Rattle.laws_frames.proofs.Fronts.{front_all}
use Rattle.laws_frames.proofs.Bare.{Bare, bare_ok, frame_call, frame_stops}
use Rattle.laws_frames.proofs.Whole.{OkAll, does_all}

module _ (image : Image) where
  -- the flat code of a routine in word code, with its regions, as it lies in the image
  pub record Flattened (w : ℕ) (q : WordRoutine) : Type 1 where
    pub who : Instance
    pub there : image.descriptor w ≡ Some (record { entry = at_step who.body 0; table = who.table })
    pub shape : parts.Body
    pub seek : Option ℕ → ℕ → Option FlatArm
    pub Good : Expr → Type 0
    pub constants : List ObjConst
    pub compiled : Compiled image who q shape seek Good
    pub front : Front (pushed (flat.Leave q.slots 0) (all_onto q.body (outermost constants q.slots) (begun q.args))).code shape.code
    pub ok : (k : Context) (local : Local image k) (entries : ℕ → WordEntry) (entry_ok : (v : ℕ) → EntryOk image v (entries v)) (yielded : Body) (yielded_ok : BodyOk image k yielded) →
        OkAll (place_on image who q shape seek Good k) Good (laws_on image who q shape seek Good compiled constants (all_onto q.body) front (front_all q.body) k local 0) compiled.once entries entry_ok yielded yielded_ok q.body (outermost constants q.slots) (begun q.args)

  fit_outermost : (w : ℕ) (q : WordRoutine) (f : Flattened w q) (k : Context) → Fit (place_on image f.who q f.shape f.seek f.Good k) (outermost f.constants q.slots)
  fit_outermost w q f k = record { work = omega arith; mark = inl (omega arith); turns = tt; guards = λ n g e. absurd (none_is_not g e) }

  pub routine_ok : (w : ℕ) (q : WordRoutine) (f : Flattened w q) (entries : ℕ → WordEntry) → ((v : ℕ) → EntryOk image v (entries v)) → FrameOk image f.who (enters entries q)
  routine_ok w q f entries entry_ok =
      enter_ok image f.who q f.shape f.seek f.Good f.compiled f.constants (all_onto q.body) f.front (front_all q.body) entries
      (λ k local live body ok.
      let p = place_on image f.who q f.shape f.seek f.Good k in
      let laws0 = laws_on image f.who q f.shape f.seek f.Good f.compiled f.constants (all_onto q.body) f.front (front_all q.body) k local 0 in
      does_all p f.Good laws0 f.compiled.once entries entry_ok body ok live q.body (outermost f.constants q.slots) (begun q.args) (fit_outermost w q f k) (f.ok k local entries entry_ok body ok))

  module _ (program : ℕ → Option Callee) (frames : (w : ℕ) (q : WordRoutine) → program w ≡ Some (framed q) → Flattened w q) (bares : (w : ℕ) (l : Linked) (deed : Deed) → program w ≡ Some (bare l deed) → Bare image w l deed) where
    entered_ok : (w : ℕ) (o : Option Callee) → program w ≡ o → (entries : ℕ → WordEntry) → ((v : ℕ) → EntryOk image v (entries v)) → EntryOk image w (entered entries o)
    unfolding entered ends
    entered_ok w None e entries ok = record { runs = λ k local live room body bok ws t st c slot at. tt }
    entered_ok w (Some (framed q)) e entries ok = record {
      runs = λ k local live room body bok ws t st c slot at.
          let f = frames w q e in (frame_call image w f.who (enters entries q) f.there (routine_ok w q f entries ok)).runs k local live room body bok ws t st c slot at;
    }
    entered_ok w (Some (bare l deed)) e entries ok = record {
      runs = λ k local live room body bok ws t st c slot at.
          (bare_ok image w l deed entries (bares w l deed e)).runs k local live room body bok ws t st c slot at;
    }

    unentered_ok : (w : ℕ) (o : Option Callee) → program w ≡ o → EntryOk image w (unentered o)
    unfolding unentered ends
    unentered_ok w None e = record { runs = λ k local live room body bok ws t st c slot at. tt }
    unentered_ok w (Some (framed q)) e = record {
      runs = λ k local live room body bok ws t st c slot at.
          let f = frames w q e in (frame_stops image w f.who f.shape f.compiled.there f.there).runs k local live room body bok ws t st c slot at;
    }
    unentered_ok w (Some (bare l deed)) e = record {
      runs = λ k local live room body bok ws t st c slot at.
          (bare_ok image w l deed no_entries (bares w l deed e)).runs k local live room body bok ws t st c slot at;
    }

    pub levels : (n w : ℕ) → EntryOk image w (level program n w)
    unfolding level
    levels zero w = record { runs = λ k local live room body bok ws t st c slot at. (unentered_ok w (program w) refl).runs k local live room body bok ws t st c slot at }
    levels (suc n) w = record { runs = λ k local live room body bok ws t st c slot at. (entered_ok w (program w) refl (level program n) (levels n)).runs k local live room body bok ws t st c slot at }
