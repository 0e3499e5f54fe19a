-- What is laid into a block of 64 bytes.
use Rattle.std.proofs.Common.{◌≡◌, ℕ, ◌+◌, ◌-◌, ◌≤◌, List, ◌∷◌, ◌++◌, length, take, drop, replicate, sym, ap, ◌∙◌, append_assoc, add-one, arith}
use borrow.Rule.Slice.PartMut.{put_mid}
use Rattle.std.proofs.lemmas.List.{append-nil, drop-drop, drop_all, length-take, length-append, take_at, take-replicate}

-- the front of a block that a piece was laid into, as far as the piece goes
pub take-put_mid : (block piece put : List ℕ) (at n : ℕ) → at ≤ length block → put ≡ piece → take (at + length piece) (put_mid at n block put) ≡ take at block ++ piece
take-put_mid block piece put at n l e =
    let front = take at block ++ piece in
    let rest = drop n (drop at block) in
    let k : length (take at block ++ piece) ≡ at + length piece = simp (length-append, length-take) (omega arith) in
    ap (λ (x : List ℕ). take (at + length piece) (take at block ++ (x ++ rest))) e
    ∙ (ap (λ (x : List ℕ). take (at + length piece) x) (sym (append_assoc (take at block) piece rest)) ∙ take_at front rest (at + length piece) k)

-- a piece that reaches the end of the block
pub put_mid-end : (block piece put : List ℕ) (at : ℕ) → at ≤ length block → put ≡ piece → put_mid at (length block - at) block put ≡ take at block ++ piece
put_mid-end block piece put at l e =
    let m : length block ≤ at + (length block - at) = omega arith in
    ap (λ (x : List ℕ). take at block ++ (x ++ drop (length block - at) (drop at block))) e
    ∙ ap (λ (x : List ℕ). take at block ++ x)
    (ap (λ (x : List ℕ). piece ++ x) (drop-drop (length block - at) at block ∙ drop_all (at + (length block - at)) block m) ∙ append-nil piece)

-- a one bit and n zeros, cut from a one bit and 63 of them
pub take-padding : (n : ℕ) → n ≤ 63 → take {A = ℕ} (n + 1) (0x80 ∷ replicate 63 0) ≡ 0x80 ∷ replicate n 0
take-padding n l = ap (λ (k : ℕ). take {A = ℕ} k (0x80 ∷ replicate 63 0)) (add-one n) ∙ ap (λ (zs : List ℕ). 0x80 ∷ zs) (take-replicate n 63 0 l)
