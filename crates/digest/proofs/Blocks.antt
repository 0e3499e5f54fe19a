-- Blocks one after another: in two runs, and with bytes behind them.
use Rattle.std.proofs.Common.{◌≡◌, ℕ, zero, suc, ◌+◌, ◌*◌, ◌≤◌, List, ◌++◌, length, take, drop, fold, refl, ap, ◌∙◌, zero-add, arith}
use Rattle.std.proofs.lemmas.List.{take-append-le, drop-append-le, drop-drop, length-drop}
use Rattle.std.specs.Simd.{first_chunks}
use Rattle.digest.specs.Sha1.{compress, blocks}

pub blocks-add : (n m : ℕ) (h bs : List ℕ) → blocks (n + m) h bs ≡ blocks m (blocks n h bs) (drop (64 * n) bs)
unfolding blocks
blocks-add zero m h bs = ap (λ (k : ℕ). blocks k h bs) (zero-add m)
blocks-add (suc n) m h bs =
    let e : suc n + m ≡ suc (n + m) = omega arith in
    let f : 64 + 64 * n ≡ 64 * suc n = omega arith in
    ap (λ (k : ℕ). blocks k h bs) e
    ∙ (blocks-add n m (compress h (take 64 bs)) (drop 64 bs)
    ∙ ap (λ (x : List ℕ). blocks m (blocks n (compress h (take 64 bs)) (drop 64 bs)) x)
    (drop-drop (64 * n) 64 bs ∙ ap (λ (k : ℕ). drop k bs) f))

-- what lies behind the blocks does not count
pub blocks-append : (n : ℕ) (h xs ys : List ℕ) → 64 * n ≤ length xs → blocks n h (xs ++ ys) ≡ blocks n h xs
unfolding blocks
blocks-append zero h xs ys l = refl
blocks-append (suc n) h xs ys l =
    let a : 64 ≤ length xs = omega arith in
    let b : 64 * n ≤ length (drop 64 xs) = simp length-drop (omega arith) in
    ap (λ (x : List ℕ). blocks n (compress h x) (drop 64 (xs ++ ys))) (take-append-le 64 xs ys a)
    ∙ (ap (λ (x : List ℕ). blocks n (compress h (take 64 xs)) x) (drop-append-le 64 xs ys a)
    ∙ blocks-append n (compress h (take 64 xs)) (drop 64 xs) ys b)

-- blocks one after another are a fold over the pieces of 64 bytes
pub fold-first_chunks : (n : ℕ) (h bs : List ℕ) → fold compress h (first_chunks 64 n bs) ≡ blocks n h bs
unfolding blocks
fold-first_chunks zero h bs = refl
fold-first_chunks (suc n) h bs = fold-first_chunks n (compress h (take 64 bs)) (drop 64 bs)
