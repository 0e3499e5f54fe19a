-- A key's block: loaded, masked in place, and fed to the two digests of a code.
use Rattle.std.proofs.Common.{◌≡◌, ℕ, ◌+◌, ◌-◌, ◌<◌, ◌≤◌, ltb, List, [], ◌∷◌, ◌++◌, length, get_or, take, drop, set, replicate, sym, refl, ap, ◌∙◌, arith}
use lib.Bits.{bit_xor, xor_assoc, xor_self, xor_zero_r}
use Rattle.std.proofs.lemmas.List.{append_assoc, length-map, length-take, drop_more, drop-replicate, set_at, get_or_at, map_more}
use Rattle.std.proofs.lemmas.Bool.{cond-true, cond-false, lt-ltb, le-ltb}
use Rattle.digest.specs.Sha1.{sha1}
use Rattle.digest.specs.Hmac.{zero_filled, key_block, masked, hmac}

-- a key laid over the front of n zeros
pub filled : (key put : List ℕ) (n k : ℕ) → put ≡ key → k ≡ length key → put ++ drop k (replicate n 0) ≡ key ++ replicate (n - length key) 0
filled key put n k e l =
    ap (λ (x : List ℕ). x ++ drop k (replicate n 0)) e
    ∙ ap (λ (x : List ℕ). key ++ x) (drop-replicate k n 0 ∙ ap (λ (x : ℕ). replicate (n - x) 0) l)

pub long_key : (key short r : List ℕ) → 64 < length key → short ≡ sha1 key → r ≡ zero_filled short → r ≡ key_block key
unfolding key_block
long_key key short r l e q = q ∙ (ap (λ (x : List ℕ). zero_filled x) e ∙ sym (cond-true (ltb 64 (length key)) _ _ (lt-ltb 64 (length key) l)))

pub short_key : (key r : List ℕ) → length key ≤ 64 → r ≡ zero_filled key → r ≡ key_block key
unfolding key_block
short_key key r l q = q ∙ sym (cond-false (ltb 64 (length key)) _ _ (le-ltb 64 (length key) l))

-- ---- a mask, byte by byte in place

pub masked_more : (by : ℕ) (was bytes : List ℕ) (i : ℕ) → i < length was → bytes ≡ masked by (take i was) ++ drop i was
    → set bytes i (bit_xor (get_or bytes i 0) by) ≡ masked by (take (i + 1) was) ++ drop (i + 1) was
masked_more by was bytes i l e =
    let done : List ℕ = masked by (take i was) in
    let n : length (masked by (take i was)) ≡ i = simp (length-map, length-take) (omega arith) in
    let f : bytes ≡ masked by (take i was) ++ get_or was i 0 ∷ drop (i + 1) was = e ∙ ap (λ (x : List ℕ). masked by (take i was) ++ x) (drop_more was i 0 l) in
    ap (λ (x : List ℕ). set x i (bit_xor (get_or x i 0) by)) f
    ∙ (set_at done (get_or was i 0) (drop (i + 1) was) _ i n
    ∙ (ap (λ (x : ℕ). masked by (take i was) ++ bit_xor x by ∷ drop (i + 1) was) (get_or_at done (get_or was i 0) (drop (i + 1) was) 0 i n)
    ∙ (sym (append_assoc done (bit_xor (get_or was i 0) by ∷ []) (drop (i + 1) was))
    ∙ ap (λ (x : List ℕ). x ++ drop (i + 1) was) (sym (map_more (λ (b : ℕ). bit_xor b by) was i 0 l)))))

-- a mask that is put on twice is taken off
pub masked_twice : (by : ℕ) (block : List ℕ) → masked by (masked by block) ≡ block
masked_twice by [] = refl
masked_twice by (b ∷ block) =
    ap (λ (x : ℕ). x ∷ masked by (masked by block)) (xor_assoc b by by ∙ (ap (λ (x : ℕ). bit_xor b x) (xor_self by) ∙ xor_zero_r b))
    ∙ ap (λ (x : List ℕ). b ∷ x) (masked_twice by block)

-- the code, from the loaded block and the two digests
pub code_is_hmac : (key message block after inner r : List ℕ) → block ≡ key_block key → after ≡ block
    → inner ≡ sha1 (masked 0x36 block ++ message) → r ≡ sha1 (masked 0x5c after ++ inner) → r ≡ hmac key message
unfolding hmac
code_is_hmac key message block after inner r a b c d =
    d ∙ (ap (λ (x : List ℕ). sha1 (masked 0x5c x ++ inner)) (b ∙ a)
    ∙ ap (λ (x : List ℕ). sha1 (masked 0x5c (key_block key) ++ x)) (c ∙ ap (λ (x : List ℕ). sha1 (masked 0x36 x ++ message)) a))
