-- What `feed` does to the block and the count, as the laws of `absorb` have it.
use Rattle.std.proofs.Common.{◌≡◌, ℕ, ◌+◌, ◌-◌, ◌*◌, ◌/◌, ◌%◌, ◌^◌, ◌<◌, ◌≤◌, List, [], ◌++◌, length, take, drop, fold, sym, ap, ◌∙◌, arith}
use borrow.Rule.Slice.PartMut.{put_mid}
use Rattle.std.specs.Simd.{first_chunks}
use Rattle.std.proofs.lemmas.List.{length-take, length-drop, take-append-drop}
use Rattle.digest.specs.Sha1.{compress, blocks}
use Rattle.digest.specs.Running.{Running, running, absorb}
use Rattle.digest.proofs.Absorbed.{absorb-append, absorb_part, absorb_block, absorb-blocks}
use Rattle.digest.proofs.Blocks.{blocks-append, fold-first_chunks}
use Rattle.digest.proofs.Buffers.{take-put_mid, put_mid-end}

module _ (h block : List ℕ) (t : ℕ) (v : Running) (whole : length block ≡ 64) (seen : running h (take (t % 64) block) t ≡ v) where
  -- the count says how far the block is filled
  filled_is : (fill : ℕ) → fill ≡ length v.pending → fill ≡ t % 64
  filled_is fill e =
      let n : length (take (t % 64) block) ≡ t % 64 = simp length-take (omega arith) in
      e ∙ (sym (ap (λ (x : Running). length x.pending) seen) ∙ n)

  module _ (fill : ℕ) (piece put : List ℕ) (filled : fill ≡ length v.pending) (laid : put ≡ piece) where
    -- a piece that leaves room in the block
    pub keep_absorbs : (n : ℕ) → length v.pending + length piece < 64
        → running h (take ((t + length piece) % 2 ^ 64 % 64) (put_mid fill n block put)) ((t + length piece) % 2 ^ 64) ≡ absorb v piece
    keep_absorbs n l =
        let f = filled_is fill filled in
        let m : (t + length piece) % 2 ^ 64 % 64 ≡ fill + length piece = omega arith in
        let p : length (take fill block) + length piece < 64 = simp length-take (omega arith) in
        ap (λ (k : ℕ). running h (take k (put_mid fill n block put)) ((t + length piece) % 2 ^ 64)) m
        ∙ (ap (λ (x : List ℕ). running h x ((t + length piece) % 2 ^ 64)) (take-put_mid block piece put fill n (omega arith) laid)
        ∙ (sym (absorb_part h (take fill block) piece t p)
        ∙ ap (λ (x : Running). absorb x piece) (ap (λ (k : ℕ). running h (take k block) t) f ∙ seen)))

    -- a piece that fills the block
    pub complete_absorbs : (w out : List ℕ) → length v.pending + length piece ≡ 64 → out ≡ put_mid fill (length block - fill) block put → w ≡ compress h out
        → running w (take ((t + length piece) % 2 ^ 64 % 64) out) ((t + length piece) % 2 ^ 64) ≡ absorb v piece
    complete_absorbs w out l o e =
        let f = filled_is fill filled in
        let m : (t + length piece) % 2 ^ 64 % 64 ≡ 0 = omega arith in
        let p : length (take fill block) + length piece ≡ 64 = simp length-take (omega arith) in
        ap (λ (k : ℕ). running w (take k out) ((t + length piece) % 2 ^ 64)) m
        ∙ (ap (λ (x : List ℕ). running x [] ((t + length piece) % 2 ^ 64)) (e ∙ ap (λ (x : List ℕ). compress h x) (o ∙ put_mid-end block piece put fill (omega arith) laid))
        ∙ (sym (absorb_block h (take fill block) piece t p)
        ∙ ap (λ (x : Running). absorb x piece) (ap (λ (k : ℕ). running h (take k block) t) f ∙ seen)))

  -- the whole blocks of a piece, with nothing pending, and then what is left of it
  pub blocks-absorb : (piece w rest : List ℕ) (r : Running) → v.pending ≡ [] → w ≡ fold compress h (first_chunks 64 (length piece / 64) piece) → rest ≡ drop (length piece / 64 * 64) piece
      → r ≡ absorb (running w (take ((t + (length piece - length rest)) % 2 ^ 64 % 64) block) ((t + (length piece - length rest)) % 2 ^ 64)) rest
      → r ≡ absorb v piece
  blocks-absorb piece w rest r none e d q =
      let n = length piece / 64 in
      let front = take (n * 64) piece in
      let none_filled : 0 ≡ t % 64 = filled_is 0 (sym (ap (λ (x : List ℕ). length x) none)) in
      let long : length (take (n * 64) piece) ≡ n * 64 = simp length-take (omega arith) in
      let left : length rest ≡ length piece - n * 64 = ap (λ (x : List ℕ). length x) d ∙ length-drop (n * 64) piece in
      let total : (t + (length piece - length rest)) % 2 ^ 64 ≡ (t + length (take (n * 64) piece)) % 2 ^ 64 = omega arith in
      let empty : (t + (length piece - length rest)) % 2 ^ 64 % 64 ≡ 0 = omega arith in
      let joined : front ++ drop (n * 64) piece ≡ piece = take-append-drop (n * 64) piece in
      let within : 64 * n ≤ length (take (n * 64) piece) = omega arith in
      let count : length (take (n * 64) piece) / 64 ≡ n = omega arith in
      let words : w ≡ blocks (length front / 64) h front =
      e ∙ (fold-first_chunks n h piece
      ∙ (ap (λ (x : List ℕ). blocks n h x) (sym joined)
      ∙ (blocks-append n h front (drop (n * 64) piece) within ∙ sym (ap (λ (k : ℕ). blocks k h front) count)))) in
      let start : running h [] t ≡ v = ap (λ (k : ℕ). running h (take k block) t) none_filled ∙ seen in
      let before : running w (take ((t + (length piece - length rest)) % 2 ^ 64 % 64) block) ((t + (length piece - length rest)) % 2 ^ 64) ≡ absorb v front =
      ap (λ (k : ℕ). running w (take k block) ((t + (length piece - length rest)) % 2 ^ 64)) empty
      ∙ (ap (λ (k : ℕ). running w [] k) total
      ∙ (ap (λ (x : List ℕ). running x [] ((t + length front) % 2 ^ 64)) words
      ∙ (sym (absorb-blocks h front t (omega arith)) ∙ ap (λ (x : Running). absorb x front) start))) in
      q ∙ (ap (λ (x : Running). absorb x rest) before
      ∙ (absorb-append v front rest ∙ ap (λ (x : List ℕ). absorb v x) (ap (λ (x : List ℕ). front ++ x) d ∙ joined)))
