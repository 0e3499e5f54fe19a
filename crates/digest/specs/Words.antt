-- Words of 32 bits, as numbers below 2 ^ 32, and their bytes, the high byte first.
use Rattle.std.specs.Prelude.{ℕ, zero, suc, ◌+◌, ◌-◌, ◌*◌, ◌/◌, ◌%◌, ◌^◌, List, [], ◌∷◌, ◌++◌, bit_or, slice_index}

-- the sum of two words; what passes 32 bits is dropped
abbrev pub plus : ℕ → ℕ → ℕ
plus a b = (a + b) % 2 ^ 32

-- a word turned left by n bits, 0 < n < 32
abbrev pub rotated : ℕ → ℕ → ℕ
rotated x n = bit_or ((x * 2 ^ n) % 2 ^ 32) (x / 2 ^ (32 - n))

-- the i-th word of a list of bytes
abbrev pub word_at : List ℕ → ℕ → ℕ
word_at bs i = slice_index bs (4 * i) * 16777216 + slice_index bs (4 * i + 1) * 65536 + slice_index bs (4 * i + 2) * 256 + slice_index bs (4 * i + 3)

-- the first n words of a list of bytes
unfoldable pub words_of : ℕ → List ℕ → List ℕ
words_of zero bs = []
words_of (suc n) bs = words_of n bs ++ word_at bs n ∷ []

-- the four bytes of a word
abbrev pub be32 : ℕ → List ℕ
be32 x = (x / 16777216 % 256) ∷ (x / 65536 % 256) ∷ (x / 256 % 256) ∷ (x % 256) ∷ []

-- the eight bytes of a number of 64 bits
abbrev pub be64 : ℕ → List ℕ
be64 x =
    (x / 72057594037927936 % 256) ∷ (x / 281474976710656 % 256) ∷ (x / 1099511627776 % 256) ∷ (x / 4294967296 % 256)
    ∷ (x / 16777216 % 256) ∷ (x / 65536 % 256) ∷ (x / 256 % 256) ∷ (x % 256) ∷ []

-- the bytes of the first n words of a list
unfoldable pub bytes_of : ℕ → List ℕ → List ℕ
bytes_of zero ws = []
bytes_of (suc n) ws = bytes_of n ws ++ be32 (slice_index ws n)
