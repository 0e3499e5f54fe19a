use Rattle.std.proofs.Common.{◌-◌, ◌%◌, arith}
use Rattle.digest.proofs.Buffers.{take-padding}
use Rattle.digest.proofs.padding.padding.Goals as goal

pub returns : goal.returns
returns c = take-padding ((119 - c.args.fill) % 64) (omega arith)
