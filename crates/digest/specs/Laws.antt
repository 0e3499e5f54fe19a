-- What the users of a digest under way go by.
use Rattle.std.specs.Prelude.{◌≡◌, ℕ, List, ◌++◌, fold}
use Rattle.std.specs.List.{flat_map}
use Rattle.digest.specs.Sha1.{sha1}
use Rattle.digest.specs.Running.{Running, fresh, absorb, finish}

-- two pieces, one after the other, are one piece
abbrev pub FeedingJoins : Type 0
FeedingJoins = (v : Running) (a b : List ℕ) → absorb (absorb v a) b ≡ absorb v (a ++ b)

-- a digest that was opened, fed a list of pieces and closed is SHA-1 of the pieces joined; the list and the pieces may be empty
abbrev pub ClosingJoins : Type 0
ClosingJoins = (pieces : List (List ℕ)) → finish (fold absorb fresh pieces) ≡ sha1 (flat_map (λ p. p) pieces)
