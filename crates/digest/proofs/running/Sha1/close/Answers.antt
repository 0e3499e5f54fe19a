use Rattle.std.proofs.Common.{ℕ, ◌-◌, ◌%◌, ◌*◌, ◌^◌, ◌<◌, ◌∷◌, length, replicate, ap, ◌∙◌, arith, rules}
use Rattle.digest.specs.Words.{be64, bytes_of}
use Rattle.digest.specs.Running.{Running}
use Rattle.digest.proofs.Absorbed.{finish_fed, padding_leaves_eight}
use Rattle.digest.proofs.Joins.{closing_joins, closing_fed}
use Rattle.digest.proofs.running.Sha1.close.Goals as goal

pub complete-last-requires : goal.complete-last-requires
complete-last-requires c =
    let pad = c.padding.ensures ∙ ap (λ (n : ℕ). 0x80 ∷ replicate {A = ℕ} ((119 - n) % 64) 0) c.fill-fill.ensures.value in
    let part : length c.args.self.pending < 64 = omega arith in
    padding_leaves_eight c.args.self c.feed.result c.padding.result.now c.bit_count-bits.result part pad (search rules) c.feed.ensures.value

pub returns : goal.returns
returns c =
    let pad = c.padding.ensures ∙ ap (λ (n : ℕ). 0x80 ∷ replicate {A = ℕ} ((119 - n) % 64) 0) c.fill-fill.ensures.value in
    let bits = c.bit_count-bits.ensures ∙ ap (λ (n : ℕ). be64 (n * 8 % 2 ^ 64)) (omega (arith, ap (λ (v : Running). v.total) c.self.view_is)) in
    let value =
    c.bytes.ensures
    ∙ (ap (λ (v : Running). bytes_of 5 v.words) c.last.view_is
    ∙ finish_fed c.args.self c.feed.result c.complete-last.result c.padding.result.now c.bit_count-bits.result pad bits c.feed.ensures.value c.complete-last.ensures.fed) in
    record { value = value; digest = closing_fed c.args.self c.bytes.result value; joins = closing_joins }
