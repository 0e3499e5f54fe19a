use Rattle.std.proofs.Common.{◌≡◌, ℕ, ◌+◌, List, length, take}
use Rattle.digest.specs.Sha1.{grown}
use Rattle.digest.proofs.block.grow.Given as goal

abbrev pub invariant-loop-n : goal.invariant-loop-n
invariant-loop-n g l =
    (length l.w ≡ 80)
    × ((ws : List ℕ) → take (g.row.FROM + 16) l.initial.w ≡ grown g.row.FROM ws → take (l.n + 16) l.w ≡ grown l.n ws)
