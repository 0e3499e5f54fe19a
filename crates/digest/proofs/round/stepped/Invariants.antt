use Rattle.std.proofs.Common.{◌≡◌, ℕ, [], ◌∷◌, take}
use Rattle.digest.specs.Sha1.{steps}
use Rattle.digest.proofs.round.stepped.Given as goal

abbrev pub invariant-loop-word : goal.invariant-loop-word
invariant-loop-word g l =
    (f : ℕ → ℕ → ℕ → ℕ) → ((x y z r : ℕ) → goal.F-post g l.mix x y z r → r ≡ f x y z)
    → l.a ∷ l.b ∷ l.c ∷ l.d ∷ l.e ∷ []
    ≡ steps f g.row.ADDED (l.initial.a ∷ l.initial.b ∷ l.initial.c ∷ l.initial.d ∷ l.initial.e ∷ []) (take l.word-index l.word-items)
