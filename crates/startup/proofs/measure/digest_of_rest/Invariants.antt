use Rattle.std.proofs.Common.{◌≡◌, length}
use Rattle.startup.proofs.measure.digest_of_rest.Given as goal

abbrev pub invariant-loop : goal.invariant-loop
invariant-loop l = length l.piece ≡ 16384
