use Rattle.std.proofs.Common.{◌↔◌, drop}
use Rattle.clu_asm.specs.CutLines.{OneBegins}
use Rattle.clu_asm.proofs.cut_lines.begins_one.Given as goal

abbrev pub invariant-loop-m : goal.invariant-loop-m
invariant-loop-m l = OneBegins (drop l.m-index l.mnemonics) l.cut ↔ OneBegins l.mnemonics l.cut
