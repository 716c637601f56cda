-- Word code that is well formed is so over its plain trees.
use Rattle.std.proofs.Common.{◌≡◌, ◌∙◌, ℕ, List, [], ◌∷◌, length, map, refl, ap, sym, subst}
use Rattle.std.specs.Prelude.{◌&&◌, slice_get}
use Rattle.std.proofs.lemmas.List.{length-map}
use Rattle.clu_wir.specs.Formed.{ArmTest, Standing, Test, all_formed, arm_formed_of, arm_formed_step, arms_formed, counts, formed_of, formed_step, has_arm, in_a_guard, in_a_loop}
use Rattle.clu_wir.specs.Plain.{OneArm, Stmt, arm_of, arm_step, arms_of, body_of, expr_of, stmt_of, stmt_step, stmts_of}
use Rattle.clu_wir.specs.declared.statement.WStmt.{WStmt, WStmt-F, fold-roll-WStmt, ind-WStmt, map-WStmt, roll-WStmt}
use Rattle.clu_wir.specs.declared.statement.WArm.{WArm, WArm-F, fold-roll-WArm, map-WArm, roll-WArm}
use Rattle.laws_frames.specs.Formed.{all_form, arms_form, counts_in, forms}

abbrev SameForm : WStmt → Type 0
SameForm s = (x : Standing) → forms x (stmt_of s) ≡ formed_of s x

abbrev SameArm : WArm → Type 0
SameArm a = (length (arm_of a).slots ≡ (arm_formed_of a).slots) × ((x : Standing) → all_form x (arm_of a).body ≡ all_formed (arm_formed_of a).body x)

abbrev One : Type 0
One = (s : WStmt) × SameForm s

abbrev Arm : Type 0
Arm = (a : WArm) × SameArm a

abbrev stmt : One → WStmt
stmt s = s.0

abbrev arm : Arm → WArm
arm a = a.0

list_same : (ss : List One) (x : Standing) → all_form x (stmts_of (map stmt_of (map stmt ss))) ≡ all_formed (map formed_of (map stmt ss)) x
list_same [] x = refl
list_same (s ∷ ss) x = rw (s.1 x, list_same ss x) refl

arms_same : (arms : List Arm) (x : Standing) → arms_form x (arms_of (map arm_of (map arm arms))) ≡ arms_formed (map arm_formed_of (map arm arms)) x
arms_same [] x = refl
arms_same (a ∷ arms) x = rw (a.1.1 x, arms_same arms x) refl

counts_same : (arms : List Arm) → counts_in (arms_of (map arm_of (map arm arms))) ≡ counts (map arm_formed_of (map arm arms))
counts_same [] = refl
counts_same (a ∷ arms) = rw (a.1.0, counts_same arms) refl

abbrev AtLayer : WStmt-F WStmt WArm → Type 0
AtLayer z = (x : Standing) → forms x (stmt_step (map-WStmt WStmt WArm Stmt OneArm stmt_of arm_of z)) ≡ formed_step (map-WStmt WStmt WArm Test ArmTest formed_of arm_formed_of z) x

layer : (y : WStmt-F One Arm) → AtLayer (map-WStmt One Arm WStmt WArm stmt arm y)
layer (WStmt-F.Set to value) x = refl
layer (WStmt-F.Put address bytes value) x = refl
layer (WStmt-F.Call routine values results) x = refl
layer (WStmt-F.Prim number values results) x = refl
layer (WStmt-F.Bind number value to) x = refl
layer (WStmt-F.If condition first other) x = rw (list_same first.items x, list_same other.items x) refl
layer (WStmt-F.Loop body) x = list_same body.items (in_a_loop x)
layer WStmt-F.Break x = refl
layer WStmt-F.Continue x = refl
layer (WStmt-F.Iterate routine values items body) x = list_same body.items (in_a_loop x)
layer (WStmt-F.Yield words) x = refl
layer (WStmt-F.Raise name objects) x = refl
layer (WStmt-F.Signal name objects) x = refl
layer (WStmt-F.Exit inside n words) x = ap (λ count. has_arm n count (slice_get x.guards inside)) (length-map words.items expr_of)
layer (WStmt-F.Guard body arms) x =
    ap (λ (l : List ℕ). all_form (in_a_guard l x) (stmts_of (map stmt_of (map stmt body.items))) && arms_form x (arms_of (map arm_of (map arm arms.items)))) (counts_same arms.items)
    ∙ ap (λ b. b && arms_form x (arms_of (map arm_of (map arm arms.items)))) (list_same body.items (in_a_guard (counts (map arm_formed_of (map arm arms.items))) x))
    ∙ ap (λ b. all_formed (map formed_of (map stmt body.items)) (in_a_guard (counts (map arm_formed_of (map arm arms.items))) x) && b) (arms_same arms.items x)
layer (WStmt-F.Resignal body names) x = list_same body.items x
layer (WStmt-F.Return results) x = refl

abbrev AtArm : WArm-F WStmt WArm → Type 0
AtArm z =
    (length (arm_step (map-WArm WStmt WArm Stmt OneArm stmt_of arm_of z)).slots ≡ (arm_formed_step (map-WArm WStmt WArm Test ArmTest formed_of arm_formed_of z)).slots)
    × ((x : Standing) → all_form x (arm_step (map-WArm WStmt WArm Stmt OneArm stmt_of arm_of z)).body ≡ all_formed (arm_formed_step (map-WArm WStmt WArm Test ArmTest formed_of arm_formed_of z)).body x)

arm_layer : (y : WArm-F One Arm) → AtArm (map-WArm One Arm WStmt WArm stmt arm y)
arm_layer y = (refl, λ x. list_same y.body.items x)

stmt_same : (s : WStmt) → SameForm s
stmt_same = ind-WStmt SameForm SameArm
    (λ x y is. subst (λ (s : Stmt). (z : Standing) → forms z s ≡ formed_of (roll-WStmt x) z) (sym (fold-roll-WStmt Stmt OneArm stmt_step arm_step x))
    (subst (λ (t : Test). (z : Standing) → forms z (stmt_step (map-WStmt WStmt WArm Stmt OneArm stmt_of arm_of x)) ≡ t z) (sym (fold-roll-WStmt Test ArmTest formed_step arm_formed_step x)) (subst AtLayer is (layer y))))
    (λ x y is. subst (λ (a : OneArm). (length a.slots ≡ (arm_formed_of (roll-WArm x)).slots) × ((z : Standing) → all_form z a.body ≡ all_formed (arm_formed_of (roll-WArm x)).body z)) (sym (fold-roll-WArm Stmt OneArm stmt_step arm_step x))
    (subst (λ (t : ArmTest). (length (arm_step (map-WArm WStmt WArm Stmt OneArm stmt_of arm_of x)).slots ≡ t.slots) × ((z : Standing) → all_form z (arm_step (map-WArm WStmt WArm Stmt OneArm stmt_of arm_of x)).body ≡ all_formed t.body z))
    (sym (fold-roll-WArm Test ArmTest formed_step arm_formed_step x)) (subst AtArm is (arm_layer y))))

pub body_same : (ss : List WStmt) (x : Standing) → all_form x (body_of ss) ≡ all_formed (map formed_of ss) x
body_same [] x = refl
body_same (s ∷ ss) x = rw (stmt_same s x, body_same ss x) refl
