use Rattle.std.proofs.Common.{◌≡◌, ◌++◌, take, drop}
use Rattle.digest.specs.Hmac.{masked}
use Rattle.digest.proofs.key_block.KeyBlock.mask.Given as goal

abbrev pub invariant-loop-b : goal.invariant-loop-b
invariant-loop-b l = l.b-items ≡ masked l.by (take l.b-index l.initial.b-items) ++ drop l.b-index l.initial.b-items
