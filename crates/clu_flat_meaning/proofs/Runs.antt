-- Runs of flat code, one after the other, and the steps of code that begins a longer one.
use Rattle.std.proofs.Common.{◌≡◌, ◌≢◌, ◌∙◌, ℕ, zero, suc, ◌+◌, ◌*◌, ◌%◌, ◌≤◌, ◌==◌, Bool, true, false, List, [], ◌∷◌, ◌++◌, length, Option, Some, slice_get, refl, ap, sym, arith, append_assoc, append-nil, true≢false}
use Rattle.std.specs.Prelude.{if◌then◌else◌, ◌&&◌, nat_le}
use Rattle.std.proofs.lemmas.List.{length-append}
use Rattle.std.proofs.lemmas.Bool.{eqb-true}
use Rattle.std.proofs.lemmas.Bool.Decides.{nat_tests}
use Rattle.clu_frames.specs.Plain.{Step}
use Rattle.clu_frames.specs.Plain as flat
use Rattle.clu_flat_meaning.specs.Image.{Body, Image}
use Rattle.clu_flat_meaning.specs.Machine.{Comes, Machine, Mode, address_of, arm_at, in_body, in_frame, is_address, is_frame, is_label, number_at, on_arm, on_found, on_mode, on_step, place_of, put_at, run, running, searches, searching, stands, stepped, where_room, where_so, Ended}

-- the first list begins the second
pub record Front {A : Type 0} (a b : List A) : Type 0 where
  pub more : List A
  pub parts : b ≡ a ++ more

pub front_same : {A : Type 0} (a : List A) → Front a a
front_same a = record { more = []; parts = sym (append-nil a) }

pub front_more : {A : Type 0} (a b c : List A) → Front a b → Front b c → Front a c
front_more a b c p q = record { more = p.more ++ q.more; parts = q.parts ∙ ap (λ x. x ++ q.more) p.parts ∙ append_assoc a p.more q.more }

pub front_push : {A : Type 0} (a : List A) (x : A) → Front a (a ++ x ∷ [])
front_push a x = record { more = x ∷ []; parts = refl }

-- what begins with one step more begins without it
pub front_back : {A : Type 0} (a b : List A) (x : A) → Front (a ++ x ∷ []) b → Front a b
front_back a b x f = front_more a (a ++ x ∷ []) b (front_push a x) f

pub found : {A : Type 0} (a : List A) (x : A) (more : List A) → slice_get (a ++ x ∷ more) (length a) ≡ Some x
found [] x more = refl
found (y ∷ a) x more = found a x more

pub at_push : {A : Type 0} (a b : List A) (x : A) → Front (a ++ x ∷ []) b → slice_get b (length a) ≡ Some x
at_push a b x f = ap (λ c. slice_get c (length a)) (f.parts ∙ append_assoc a (x ∷ []) f.more) ∙ found a x f.more

pub length_push : {A : Type 0} (a : List A) (x : A) → length (a ++ x ∷ []) ≡ suc (length a)
length_push a x = omega (arith, length-append a (x ∷ []))

-- Words that are put.

by_equal : (b : Bool) (w x : ℕ) → b ≡ true → (if b then w else x) ≡ w
by_equal b w x e = rw e refl

by_other : (b : Bool) (w x : ℕ) → b ≡ false → (if b then w else x) ≡ x
by_other b w x e = rw e refl

pub put_same : (a b w : ℕ) (s : ℕ → ℕ) → b ≡ a → put_at a w s b ≡ w
put_same a b w s e = let t : (b == a) ≡ true = grind (arith, nat_tests, e) in by_equal (b == a) w (s b) t

pub put_other : (a b w : ℕ) (s : ℕ → ℕ) → b ≢ a → put_at a w s b ≡ s b
put_other a b w s d = let t : (b == a) ≡ false = grind (arith, nat_tests, d) in by_other (b == a) w (s b) t

-- Addresses of words.

pub address_is : (n : ℕ) → is_address (address_of n) ≡ true
address_is n = let e : (8 * n) % 8 ≡ 0 = omega arith in grind (arith, nat_tests, e)

pub number_is : (n : ℕ) → number_at (address_of n) ≡ n
number_is n = omega arith

pub address_so : (a n : ℕ) → a ≡ address_of n → is_address a ≡ true
address_so a n e = ap is_address e ∙ address_is n

pub number_so : (a n : ℕ) → a ≡ address_of n → number_at a ≡ n
number_so a n e = ap number_at e ∙ number_is n

-- Labels.

-- no label stands twice
pub record Once (code : List Step) : Type 0 where
  pub at : (l i j : ℕ) → slice_get code i ≡ Some (flat.Label l) → slice_get code j ≡ Some (flat.Label l) → i ≡ j

label_is : (l : ℕ) (step : Step) → is_label l step ≡ true → step ≡ flat.Label l
label_is l (flat.Label n) e = ap flat.Label (eqb-true n l e)
label_is l _ e = absurd (cc)

is_its_label : (l : ℕ) (step : Step) → Some step ≡ Some (flat.Label l) → is_label l step ≡ true
is_its_label l step e =
    let same : step ≡ flat.Label l = cc in
    let itself : (l == l) ≡ true = grind (arith, nat_tests) in
    ap (is_label l) same ∙ itself

by_test : (b : Bool) (step : Step) (rest : List Step) (l at : ℕ) → (b ≡ true → step ≡ flat.Label l) → (b ≡ false → slice_get rest at ≡ Some (flat.Label l)) →
    slice_get (step ∷ rest) (if b then 0 else suc at) ≡ Some (flat.Label l)
by_test true step rest l at p q = ap Some (p refl)
by_test false step rest l at p q = q refl

place_there : (code : List Step) (i l : ℕ) → slice_get code i ≡ Some (flat.Label l) → slice_get code (place_of code l) ≡ Some (flat.Label l)
unfolding place_of
place_there [] i l e = absurd (cc)
place_there (step ∷ rest) zero l e = by_test (is_label l step) step rest l (place_of rest l) (label_is l step) (λ no. absurd (true≢false (sym (is_its_label l step e) ∙ no)))
place_there (step ∷ rest) (suc i) l e = by_test (is_label l step) step rest l (place_of rest l) (label_is l step) (λ no. place_there rest i l e)

pub label_place : (code : List Step) → Once code → (i l : ℕ) → slice_get code i ≡ Some (flat.Label l) → place_of code l ≡ i
label_place code once i l e = once.at l (place_of code l) i (place_there code i l e) e

-- Where a test holds.

pub so_is : (b : Bool) (d c : Machine) → b ≡ true → where_so b d c ≡ d
unfolding where_so
so_is b d c e = rw e refl

pub room_is : (b : Bool) (how : Ended) (d c : Machine) → b ≡ true → where_room b how d c ≡ d
unfolding where_room
room_is b how d c e = rw e refl

pub both_so : (a b : Bool) → a ≡ true → b ≡ true → a && b ≡ true
both_so a b e f = rw (e, f) refl

pub le_so : (a b : ℕ) → a ≤ b → nat_le a b ≡ true
le_so a b l = grind (arith, nat_tests, l)

module _ (image : Image) where
  pub run_more : (n m : ℕ) (c : Machine) → run image (n + m) c ≡ run image m (run image n c)
  unfolding run
  run_more zero m c = let e : 0 + m ≡ m = omega arith in ap (λ k. run image k c) e
  run_more (suc n) m c = let e : suc n + m ≡ suc (n + m) = omega arith in ap (λ k. run image k c) e ∙ run_more n m (stepped image c)

  pub comes_same : (c : Machine) → Comes image c c
  unfolding run
  comes_same c = record { steps = 0; come = refl }

  pub comes_then : (a b c : Machine) → Comes image a b → Comes image b c → Comes image a c
  comes_then a b c p q = record { steps = p.steps + q.steps; come = run_more p.steps q.steps a ∙ ap (run image q.steps) p.come ∙ q.come }

  -- a machine that is the same in other words
  pub comes_as : (a b c : Machine) → b ≡ c → Comes image a b → Comes image a c
  comes_as a b c e k = record { steps = k.steps; come = k.come ∙ e }

  -- One step of running code.

  stands_is : (b : Body) (step : Step) (c : Machine) → is_frame image b c ≡ true → stands image b step c ≡ true
  stands_is b (flat.Enter n) c e = refl
  stands_is b _ c e = e

  found_is : (b : Body) (o : Option Step) (step : Step) (c : Machine) → o ≡ Some step → stands image b step c ≡ true → on_found image b o c ≡ on_step image b step c
  unfolding on_found
  found_is b o step c e s = ap (λ x. on_found image b x c) e ∙ so_is (stands image b step c) (on_step image b step c) c s

  body_is : (f : Body → Machine → Machine) (o : Option Body) (b : Body) (c : Machine) → o ≡ Some b → in_body image f o c ≡ f b c
  unfolding in_body
  body_is f o b c e = rw e refl

  mode_is : (b : Body) (mode : Mode) (c : Machine) → mode ≡ running → image.body c.who.body ≡ Some b → on_mode image mode c ≡ on_found image b (slice_get b.code c.pc) c
  unfolding on_mode
  mode_is b mode c m e = ap (λ x. on_mode image x c) m ∙ body_is (λ b c. on_found image b (slice_get b.code c.pc) c) (image.body c.who.body) b c e

  pub first_step : (b : Body) (step : Step) (c : Machine) → image.body c.who.body ≡ Some b → c.mode ≡ running → slice_get b.code c.pc ≡ Some step → stands image b step c ≡ true →
      Comes image c (on_step image b step c)
  unfolding run stepped
  first_step b step c w m e s = record { steps = 1; come = mode_is b c.mode c m w ∙ found_is b (slice_get b.code c.pc) step c e s }

  pub one : (b : Body) (step : Step) (c : Machine) → image.body c.who.body ≡ Some b → c.mode ≡ running → slice_get b.code c.pc ≡ Some step → is_frame image b c ≡ true →
      Comes image c (on_step image b step c)
  one b step c w m e s = first_step b step c w m e (stands_is b step c s)

  -- One step of the search, in a frame.

  search_is : (b : Body) (mode : Mode) (inside : Bool) (c : Machine) → mode ≡ searching → (c.fp == 0) ≡ inside → inside ≡ false → image.body c.who.body ≡ Some b → is_frame image b c ≡ true →
      on_mode image mode c ≡ on_arm image (arm_at (image.regions c.who.table) c.pc c.value) c
  unfolding on_mode in_frame searches
  search_is b mode inside c m f i e s =
      ap (λ x. on_mode image x c) m ∙ ap (λ x. in_frame image x c) (f ∙ i) ∙ body_is (searches image) (image.body c.who.body) b c e
      ∙ so_is (is_frame image b c) (on_arm image (arm_at (image.regions c.who.table) c.pc c.value) c) c s

  pub one_search : (b : Body) (c : Machine) → image.body c.who.body ≡ Some b → c.mode ≡ searching → (c.fp == 0) ≡ false → is_frame image b c ≡ true →
      Comes image c (on_arm image (arm_at (image.regions c.who.table) c.pc c.value) c)
  unfolding run stepped
  one_search b c w m f s = record { steps = 1; come = search_is b c.mode (c.fp == 0) c m refl f w s }
