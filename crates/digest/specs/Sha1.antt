-- SHA-1 (FIPS 180) of a list of bytes.
use Rattle.std.specs.Prelude.{ℕ, zero, suc, ◌+◌, ◌-◌, ◌*◌, ◌/◌, ◌%◌, ◌^◌, List, [], ◌∷◌, ◌++◌, length, take, drop, replicate, fold, bit_and, bit_xor, slice_index}
use Rattle.digest.specs.Words.{plus, rotated, words_of, be64, bytes_of}

-- ---- the functions of the four rounds

abbrev pub choose : ℕ → ℕ → ℕ → ℕ
choose b c d = bit_xor (bit_and b c) (bit_and (2 ^ 32 - 1 - b) d)

abbrev pub parity : ℕ → ℕ → ℕ → ℕ
parity b c d = bit_xor (bit_xor b c) d

abbrev pub majority : ℕ → ℕ → ℕ → ℕ
majority b c d = bit_xor (bit_xor (bit_and b c) (bit_and b d)) (bit_and c d)

-- ---- the schedule: eighty words from the sixteen of a block

-- word 16 + n, from those before it
abbrev pub next_word : List ℕ → ℕ → ℕ
next_word w n = rotated (bit_xor (bit_xor (bit_xor (slice_index w (n + 13)) (slice_index w (n + 8))) (slice_index w (n + 2))) (slice_index w n)) 1

-- n words more
unfoldable pub grown : ℕ → List ℕ → List ℕ
grown zero w = w
grown (suc n) w = let v = grown n w in v ++ next_word v n ∷ []

unfoldable pub schedule : List ℕ → List ℕ
schedule block = grown 64 (words_of 16 block)

-- ---- the eighty steps, on the five words a, b, c, d, e

abbrev pub step : (ℕ → ℕ → ℕ → ℕ) → ℕ → List ℕ → ℕ → List ℕ
step f k s w =
    plus (plus (plus (plus (rotated (slice_index s 0) 5) (f (slice_index s 1) (slice_index s 2) (slice_index s 3))) (slice_index s 4)) k) w
    ∷ slice_index s 0 ∷ rotated (slice_index s 1) 30 ∷ slice_index s 2 ∷ slice_index s 3 ∷ []

-- a step for each word of a part of the schedule
abbrev pub steps : (ℕ → ℕ → ℕ → ℕ) → ℕ → List ℕ → List ℕ → List ℕ
steps f k s ws = fold (step f k) s ws

-- the twenty words of round n of the schedule
abbrev pub quarter : ℕ → List ℕ → List ℕ
quarter n w = take 20 (drop (20 * n) w)

abbrev pub rounds : List ℕ → List ℕ → List ℕ
rounds w h =
    steps parity 0xca62c1d6 (steps majority 0x8f1bbcdc (steps parity 0x6ed9eba1 (steps choose 0x5a827999 h (quarter 0 w)) (quarter 1 w)) (quarter 2 w)) (quarter 3 w)

-- five words, each added to its like
abbrev pub summed : List ℕ → List ℕ → List ℕ
summed h s =
    plus (slice_index h 0) (slice_index s 0) ∷ plus (slice_index h 1) (slice_index s 1) ∷ plus (slice_index h 2) (slice_index s 2)
    ∷ plus (slice_index h 3) (slice_index s 3) ∷ plus (slice_index h 4) (slice_index s 4) ∷ []

-- the five words after a block of 64 bytes
unfoldable pub compress : List ℕ → List ℕ → List ℕ
unfolding schedule
compress h block = summed h (rounds (schedule block) h)

-- ---- whole messages

abbrev pub start : List ℕ
start = 0x67452301 ∷ 0xefcdab89 ∷ 0x98badcfe ∷ 0x10325476 ∷ 0xc3d2e1f0 ∷ []

-- the five words after n blocks, one after another
unfoldable pub blocks : ℕ → List ℕ → List ℕ → List ℕ
blocks zero h bs = h
blocks (suc n) h bs = blocks n (compress h (take 64 bs)) (drop 64 bs)

-- what is put behind a message of n bytes, whose last block has `fill` of them: a one bit, zeros up to eight bytes before the end of a block, and the number of bits, of which 64 are kept
unfoldable pub padding : ℕ → ℕ → List ℕ
padding fill n = (0x80 ∷ replicate ((119 - fill) % 64) 0) ++ be64 (n * 8 % 2 ^ 64)

unfoldable pub sha1 : List ℕ → List ℕ
sha1 m = let p = m ++ padding (length m % 64) (length m) in bytes_of 5 (blocks (length p / 64) start p)
