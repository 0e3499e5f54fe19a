-- HMAC over SHA-1 (RFC 2104), for keys of every length.
use Rattle.std.specs.Prelude.{ℕ, ◌-◌, cond, List, ◌++◌, map, length, replicate, bit_xor, nat_lt}
use Rattle.digest.specs.Sha1.{sha1}

-- bytes, and zeros behind them up to a block of 64
abbrev pub zero_filled : List ℕ → List ℕ
zero_filled bs = bs ++ replicate (64 - length bs) 0

-- a key as a block: one that is longer than a block is digested first
unfoldable pub key_block : List ℕ → List ℕ
key_block key = cond (nat_lt 64 (length key)) (zero_filled (sha1 key)) (zero_filled key)

-- each byte of a block, xor a mask
abbrev pub masked : ℕ → List ℕ → List ℕ
masked mask block = map (λ b. bit_xor b mask) block

-- the code of a message under a key
unfoldable pub hmac : List ℕ → List ℕ → List ℕ
hmac key message = sha1 (masked 0x5c (key_block key) ++ sha1 (masked 0x36 (key_block key) ++ message))
