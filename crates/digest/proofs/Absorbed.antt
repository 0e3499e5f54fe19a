-- The laws of a digest under way: two pieces are one, and a message in pieces has the digest of the message.
use Rattle.std.proofs.Common.{◌≡◌, ℕ, ◌+◌, ◌-◌, ◌*◌, ◌/◌, ◌%◌, ◌^◌, ◌<◌, ◌≤◌, List, [], ◌∷◌, ◌++◌, length, drop, replicate, sym, refl, ap, ◌∙◌, append_assoc, arith}
use Rattle.std.proofs.lemmas.List.{length-append, length-drop, length-replicate, drop-append-le, drop-drop, drop_all, take_all}
use Rattle.digest.specs.Words.{bytes_of, be64}
use Rattle.digest.specs.Sha1.{compress, blocks, start, padding, sha1}
use Rattle.digest.specs.Running.{Running, running, fresh, absorb, finish}
use Rattle.digest.proofs.Blocks.{blocks-add, blocks-append}

running_same : (h g p q : List ℕ) (t u : ℕ) → h ≡ g → p ≡ q → t ≡ u → running h p t ≡ running g q u
running_same h g p q t u a b c = cc

-- n blocks of `all` and then m blocks of what is left and more are n + m blocks
two_runs : (h all more : List ℕ) (n m : ℕ) → 64 * n ≤ length all → blocks m (blocks n h all) (drop (64 * n) all ++ more) ≡ blocks (n + m) h (all ++ more)
two_runs h all more n m l =
    ap (λ (x : List ℕ). blocks m x (drop (64 * n) all ++ more)) (sym (blocks-append n h all more l))
    ∙ (ap (λ (x : List ℕ). blocks m (blocks n h (all ++ more)) x) (sym (drop-append-le (64 * n) all more l))
    ∙ sym (blocks-add n m h (all ++ more)))

two_drops : (all more : List ℕ) (n m : ℕ) → 64 * n ≤ length all → drop (64 * m) (drop (64 * n) all ++ more) ≡ drop (64 * (n + m)) (all ++ more)
two_drops all more n m l =
    let e : 64 * n + 64 * m ≡ 64 * (n + m) = omega arith in
    ap (λ (x : List ℕ). drop (64 * m) x) (sym (drop-append-le (64 * n) all more l))
    ∙ (drop-drop (64 * m) (64 * n) (all ++ more) ∙ ap (λ (k : ℕ). drop k (all ++ more)) e)

-- two pieces, where `all` is what was pending with the first of them
two_pieces : (h all more : List ℕ) (n m k t u : ℕ) → n ≡ length all / 64 → m ≡ length (drop (64 * n) all ++ more) / 64 → k ≡ length (all ++ more) / 64 → t ≡ u
    → running (blocks m (blocks n h all) (drop (64 * n) all ++ more)) (drop (64 * m) (drop (64 * n) all ++ more)) t
    ≡ running (blocks k h (all ++ more)) (drop (64 * k) (all ++ more)) u
two_pieces h all more n m k t u a b c d =
    let l : 64 * n ≤ length all = omega arith in
    let p = length-append (drop (64 * n) all) more in
    let q = length-drop (64 * n) all in
    let r = length-append all more in
    let e : n + m ≡ k = omega arith in
    running_same _ _ _ _ t u
    (two_runs h all more n m l ∙ ap (λ (x : ℕ). blocks x h (all ++ more)) e)
    (two_drops all more n m l ∙ ap (λ (x : ℕ). drop (64 * x) (all ++ more)) e)
    d

pub absorb-append : (v : Running) (a b : List ℕ) → absorb (absorb v a) b ≡ absorb v (a ++ b)
unfolding absorb
absorb-append v a b =
    let p = length-append a b in
    let t : ((v.total + length a) % 2 ^ 64 + length b) % 2 ^ 64 ≡ (v.total + length (a ++ b)) % 2 ^ 64 = omega arith in
    two_pieces v.words (v.pending ++ a) b (length (v.pending ++ a) / 64) _ (length ((v.pending ++ a) ++ b) / 64) _ _ refl refl refl t
    ∙ ap (λ (x : List ℕ). running (blocks (length x / 64) v.words x) (drop (64 * (length x / 64)) x) ((v.total + length (a ++ b)) % 2 ^ 64))
    (append_assoc v.pending a b)

-- ---- pieces that fill no block, one block, or whole blocks

pub absorb_part : (h p bs : List ℕ) (t : ℕ) → length p + length bs < 64 → absorb (running h p t) bs ≡ running h (p ++ bs) ((t + length bs) % 2 ^ 64)
unfolding absorb blocks
absorb_part h p bs t l =
    let a = length-append p bs in
    let e : length (p ++ bs) / 64 ≡ 0 = omega arith in
    ap (λ (n : ℕ). running (blocks n h (p ++ bs)) (drop (64 * n) (p ++ bs)) ((t + length bs) % 2 ^ 64)) e

pub absorb_block : (h p bs : List ℕ) (t : ℕ) → length p + length bs ≡ 64 → absorb (running h p t) bs ≡ running (compress h (p ++ bs)) [] ((t + length bs) % 2 ^ 64)
unfolding absorb blocks
absorb_block h p bs t l =
    let a = length-append p bs in
    let e : length (p ++ bs) / 64 ≡ 1 = omega arith in
    let m : length (p ++ bs) ≤ 64 = omega arith in
    ap (λ (n : ℕ). running (blocks n h (p ++ bs)) (drop (64 * n) (p ++ bs)) ((t + length bs) % 2 ^ 64)) e
    ∙ running_same _ _ _ _ _ _ (ap (λ (x : List ℕ). compress h x) (take_all 64 (p ++ bs) m)) (drop_all 64 (p ++ bs) m) refl

pub absorb-blocks : (h bs : List ℕ) (t : ℕ) → length bs % 64 ≡ 0 → absorb (running h [] t) bs ≡ running (blocks (length bs / 64) h bs) [] ((t + length bs) % 2 ^ 64)
unfolding absorb
absorb-blocks h bs t l =
    let m : length bs ≤ 64 * (length bs / 64) = omega arith in
    running_same _ _ _ _ _ _ refl (drop_all (64 * (length bs / 64)) bs m) refl

-- ---- whole messages

padding_same : (f g n m : ℕ) → f ≡ g → n * 8 % 2 ^ 64 ≡ m * 8 % 2 ^ 64 → padding f n ≡ padding g m
unfolding padding
padding_same f g n m p q =
    ap (λ (x : ℕ). (0x80 ∷ replicate ((119 - x) % 64) 0) ++ be64 (n * 8 % 2 ^ 64)) p
    ∙ ap (λ (x : ℕ). (0x80 ∷ replicate ((119 - g) % 64) 0) ++ be64 x) q

-- the padding that a digest under way ends with is that of its message
padding-absorb : (m : List ℕ) → padding (length (absorb fresh m).pending) (absorb fresh m).total ≡ padding (length m % 64) (length m)
unfolding absorb fresh
padding-absorb m =
    let a = length-drop (64 * (length m / 64)) m in
    padding_same _ _ _ _ (omega arith) (omega arith)

words_whole : (bs : List ℕ) → bytes_of 5 (absorb fresh bs).words ≡ bytes_of 5 (blocks (length bs / 64) start bs)
unfolding absorb fresh
words_whole bs = refl

pub finish-absorb : (m : List ℕ) → finish (absorb fresh m) ≡ sha1 m
unfolding finish sha1
finish-absorb m =
    ap (λ (x : List ℕ). bytes_of 5 (absorb (absorb fresh m) x).words) (padding-absorb m)
    ∙ (ap (λ (x : Running). bytes_of 5 x.words) (absorb-append fresh m (padding (length m % 64) (length m)))
    ∙ words_whole (m ++ padding (length m % 64) (length m)))

-- the padding in two pieces: a one bit and zeros, and then the number of bits
pub finish_fed : (v a b : Running) (pad bits : List ℕ) → pad ≡ 0x80 ∷ replicate ((119 - length v.pending) % 64) 0 → bits ≡ be64 (v.total * 8 % 2 ^ 64) → a ≡ absorb v pad → b ≡ absorb a bits
    → bytes_of 5 b.words ≡ finish v
unfolding finish padding
finish_fed v a b pad bits p q d e =
    ap (λ (x : Running). bytes_of 5 x.words) (e ∙ (ap (λ (x : Running). absorb x bits) d ∙ absorb-append v pad bits))
    ∙ (ap (λ (x : List ℕ). bytes_of 5 (absorb v (x ++ bits)).words) p
    ∙ ap (λ (x : List ℕ). bytes_of 5 (absorb v ((0x80 ∷ replicate ((119 - length v.pending) % 64) 0) ++ x)).words) q)

-- the padding's first piece leaves room for the number of bits, and for no byte more
pub padding_leaves_eight : (v a : Running) (pad bits : List ℕ) → length v.pending < 64 → pad ≡ 0x80 ∷ replicate ((119 - length v.pending) % 64) 0 → length bits ≡ 8 → a ≡ absorb v pad
    → length a.pending + length bits ≡ 64
unfolding absorb
padding_leaves_eight v a pad bits l p e d =
    let n = length-append v.pending pad in
    let k = ap (λ (x : List ℕ). length x) p in
    let z = length-replicate {A = ℕ} ((119 - length v.pending) % 64) 0 in
    let m = length-drop (64 * (length (v.pending ++ pad) / 64)) (v.pending ++ pad) in
    let q = ap (λ (x : Running). length x.pending) d in
    omega arith
