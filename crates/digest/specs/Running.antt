-- A digest under way, which takes its message piece by piece. Its users go by the laws of `fresh`, `absorb` and `finish`, or by what it was `Fed`, and not by what these are.
use Rattle.std.specs.Prelude.{◌≡◌, ℕ, ◌+◌, ◌*◌, ◌/◌, ◌%◌, ◌^◌, List, [], ◌++◌, length, drop}
use Rattle.digest.specs.Words.{bytes_of}
use Rattle.digest.specs.Sha1.{blocks, start, padding}

-- the words after the whole blocks so far, the bytes since, and the number of bytes in all, of which 64 bits are kept
pub record Running : Type 0 where
  pub words : List ℕ
  pub pending : List ℕ
  pub total : ℕ

abbrev pub running : List ℕ → List ℕ → ℕ → Running
running h p t = record { words = h; pending = p; total = t }

-- before the first piece
unfoldable pub fresh : Running
fresh = running start [] 0

-- after one more piece: each block that it fills goes into the words
unfoldable pub absorb : Running → List ℕ → Running
absorb v piece =
    let all = v.pending ++ piece in
    let n = length all / 64 in
    running (blocks n v.words all) (drop (64 * n) all) ((v.total + length piece) % 2 ^ 64)

-- the twenty bytes when no piece is to come
unfoldable pub finish : Running → List ℕ
unfolding absorb
finish v = bytes_of 5 (absorb v (padding (length v.pending) v.total)).words

-- a digest that was opened and then fed a message, in whatever pieces
unfoldable pub Fed : Running → List ℕ → Type 0
Fed d m = d ≡ absorb fresh m
