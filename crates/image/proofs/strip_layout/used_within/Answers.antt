use Rattle.std.proofs.Common.{◌<◌, ◌≤◌, refl, arith, rules}
use Rattle.std.proofs.lemmas.Iterator.{cases_from_all, YieldsList-from_range}
use borrow.Author.Tests.{tests}
use Rattle.image.specs.Bytes.{number}
use Rattle.image.proofs.StripImages.{used_by_all}
use Rattle.image.proofs.strip_layout.used_within.Goals as goal

pub returns : goal.returns
returns c =
    let bs = c.args.bytes.now in
    let w = c.args.width in
    let n = c.args.count in
    used_by_all bs w n _
    (cases_from_all _ _ _ (λ k. number bs k ≤ w) (λ k. w < number bs k) c.all.ensures.ran (YieldsList-from_range 0 n n refl (omega arith)) (λ k q r. search (rules, tests)) (λ k q r. search (rules, tests)))
