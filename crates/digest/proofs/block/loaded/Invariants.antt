use Rattle.std.proofs.Common.{◌≡◌, length, take}
use Rattle.digest.specs.Words.{words_of}
use Rattle.digest.proofs.block.loaded.Given as goal

abbrev pub invariant-loop-i : goal.invariant-loop-i
invariant-loop-i l = (length l.w ≡ 80) × (take l.i l.w ≡ words_of l.i l.block)
