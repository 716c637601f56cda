-- What a routine of flat code hands on to its object, and what the parts of the runtime are.
use Rattle.std.specs.Prelude.{◌≡◌, ◌≤◌, ℕ, List, [], length, map, IsTrue}
use Rattle.clu_base.specs.declared.constants.ObjConst.{ObjConst}
use Rattle.clu_wir.specs.declared.routine.WLeaf.{WLeaf}
use Rattle.clu_frames.specs.Plain.{plain_code}
use Rattle.clu_frames.specs.Steps.{code_words}
use Rattle.clu_frames.specs.declared.flat.FlatRoutine.{FlatRoutine}
use Rattle.clu_object.specs.Holes.{has_holes}
use Rattle.clu_object.specs.declared.object.ObjRoutine.{ObjRoutine}
use Rattle.rv_select.specs.Finished.{all_onto, all_starts, finished, is_landed}
use Rattle.rv_select.specs.Mapped.{mapped_regions}
use Rattle.clu_handlers.specs.declared.region.Region.{Region as StepRegion}
use Rattle.rv_select.specs.Instructions.{AreInstructions, read}

-- all but its steps: the name, the number of nodes, and what holes name
pub record HandsOn (flat : FlatRoutine) (object : ObjRoutine) : Type 0 where
  pub name : object.name ≡ flat.name
  pub nodes : object.nodes ≡ flat.nodes
  pub uses : object.uses ≡ flat.uses.items
  pub constants : object.constants ≡ flat.constants.items
  pub types : object.types ≡ flat.types.items

-- its words and holes are those of its steps, one after the other; the words are those of instructions, no more than are
-- counted for the steps, and each hole is where the linker fills in what it names
pub record IsSelected (flat : FlatRoutine) (regions : List StepRegion) (object : ObjRoutine) : Type 0 where
  pub of_steps : map read object.code ≡ finished (all_onto flat.frame (plain_code flat.code.items))
  pub holes_of_steps : object.holes ≡ (all_onto flat.frame (plain_code flat.code.items)).holes
  pub landed : IsTrue (is_landed (all_onto flat.frame (plain_code flat.code.items)))
  pub fits : IsTrue (all_onto flat.frame (plain_code flat.code.items)).fits
  pub regions_of_steps : object.regions ≡ mapped_regions (all_starts flat.frame (plain_code flat.code.items)) regions
  pub words : length object.code ≤ code_words flat.code.items
  pub instructions : AreInstructions object.code
  pub holes : IsTrue (has_holes object)

-- a routine has a name, constants, and the words of instructions with holes, and nothing else
pub record IsBare (name : List ℕ) (items : List ObjConst) (object : ObjRoutine) : Type 0 where
  pub named : object.name ≡ name
  pub nodes : object.nodes ≡ 0
  pub uses : object.uses ≡ []
  pub constants : object.constants ≡ items
  pub types : object.types ≡ []
  pub regions : object.regions ≡ []
  pub instructions : AreInstructions object.code
  pub holes : IsTrue (has_holes object)

-- a part names no constants, and a routine without a frame has its own
abbrev pub IsPart : List ℕ → ObjRoutine → Type 0
IsPart name = IsBare name []

abbrev pub IsLeaf : WLeaf → ObjRoutine → Type 0
IsLeaf leaf = IsBare leaf.name leaf.constants.items
