use Rattle.std.proofs.Common.{◌≡◌, ◌++◌, take}
use Rattle.std.specs.List.{flat_map}
use Rattle.clu_asm.specs.AssemblyText.{code_line}
use Rattle.clu_asm.proofs.writing.code_lines_add.Given as goal

abbrev pub invariant-loop-w : goal.invariant-loop-w
invariant-loop-w l = l.out.items ≡ l.initial.out.items ++ flat_map code_line (take l.w-index l.code)
