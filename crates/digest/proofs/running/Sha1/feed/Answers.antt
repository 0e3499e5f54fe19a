use Rattle.std.proofs.Common.{ℕ, ◌-◌, List, take, drop, ap, ◌∙◌, ap₂}
use Rattle.std.proofs.lemmas.List.{take-append-drop}
use Rattle.digest.specs.Running.{Running, absorb}
use Rattle.digest.proofs.Absorbed.{absorb-append}
use Rattle.digest.proofs.Joins.{feeding_fed}
use Rattle.digest.proofs.running.Sha1.feed.Goals as goal

pub returns-then-piece-room : goal.returns-then-piece-room
returns-then-piece-room c = record { value = c.keep.ensures; fed = feeding_fed c.args.self _ c.args.piece.now c.keep.ensures; joins = absorb-append }

pub returns-then-room-eq64 : goal.returns-then-room-eq64
returns-then-room-eq64 c = record { value = c.take_blocks.ensures; fed = feeding_fed c.args.self _ c.args.piece.now c.take_blocks.ensures; joins = absorb-append }

pub returns : goal.returns
returns c =
    let room = 64 - c.fill-room.result in
    let value =
    c.take_blocks-2.ensures
    ∙ (ap₂ (λ (v : Running) (x : List ℕ). absorb v x) (c.complete.ensures.fed ∙ ap (λ (x : List ℕ). absorb c.args.self x) c.split_at.ensures.front) c.split_at.ensures.back
    ∙ (absorb-append c.args.self (take room c.args.piece.now) (drop room c.args.piece.now)
    ∙ ap (λ (x : List ℕ). absorb c.args.self x) (take-append-drop room c.args.piece.now))) in
    record { value = value; fed = feeding_fed c.args.self _ c.args.piece.now value; joins = absorb-append }
