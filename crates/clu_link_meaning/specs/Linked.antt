-- An image that is that of a start over a library.
use Rattle.std.specs.Prelude.{◌≡◌, ℕ, List, Option, None}
use Rattle.clu_types.specs.CluType.{CluType}
use Rattle.clu_specs.specs.Seen.{Used}
use Rattle.clu_library.specs.Contents.{Contents}
use Rattle.rv_isa.specs.Image.{Contents as Image}
use Rattle.clu_link_meaning.specs.Plan.{Plan}
use Rattle.clu_link_meaning.specs.Image.{IsImageOf}
use Rattle.clu_link_meaning.specs.Reach.{Fate, Made, IsReach, refusal_of}
use Rattle.clu_link_meaning.specs.Program.{MadeCode, IsProgram}

module _ (texts : CluType → List ℕ → Option Made) (made : CluType → List ℕ → Option MadeCode) (own_type : Used → List (List ℕ) → CluType) where
  -- what is reached is not refused, the plan is that of it, and the image that of the plan
  pub record IsLinked (library : Contents) (start : List ℕ) (image : Image) (plan : Plan) : Type 0 where
    pub instances : List Used
    pub fates : List Fate
    pub reached : IsReach texts library start instances fates
    pub accepted : refusal_of instances fates ≡ None
    pub program : IsProgram made own_type library instances plan
    pub words : IsImageOf plan image
