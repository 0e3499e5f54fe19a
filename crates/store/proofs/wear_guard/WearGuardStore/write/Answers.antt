use Rattle.std.proofs.Common.{◌≡◌, ◌<◌, min, length, get_or, arith}
use Rattle.std.proofs.lemmas.Grind.{common_steps}
use Rattle.store.specs.Cells.{at}
use Rattle.store.proofs.Guards.{length-guard, at-guard, guard_settled}
use Rattle.store.proofs.wear_guard.WearGuardStore.write.Goals as goal

pub returns-then-of-eq0-clause-answer : goal.returns-then-of-eq0-clause-answer
returns-then-of-eq0-clause-answer g c = grind (arith, common_steps, length-guard, at-guard)

pub returns-in_err-map_err-clause-answer : goal.returns-in_err-map_err-clause-answer
returns-in_err-map_err-clause-answer g c = grind (arith, common_steps, length-guard, at-guard)

pub returns-in_err-map_err-clause-after : goal.returns-in_err-map_err-clause-after
returns-in_err-map_err-clause-after g c = grind (arith, common_steps, length-guard, at-guard)

pub returns-clause-answer : goal.returns-clause-answer
returns-clause-answer g c = grind (arith, common_steps, length-guard, at-guard)

pub returns-clause-settled : goal.returns-clause-settled
returns-clause-settled g c =
    let m = g.S.Store in
    let w = c.args.self.now in
    let rest = w.allowances.rest in
    let cs = m.cells w.below in
    let k = c.args.cell in
    let v = c.args.from.now in
    let h : k < min 32 (length cs) = grind (arith, common_steps, length-guard) in
    let r : 0 < get_or rest k 0 = omega arith in
    let l : 0 < (at cs k).left = grind (arith, common_steps) in
    let t : length v ≡ 20 = grind (arith, common_steps) in
    guard_settled rest cs k h v r l t _ _ c.spend.ensures c.write.ensures.after (m.place w.below) (m.place c.write.new.self) c.write.ensures.settled
