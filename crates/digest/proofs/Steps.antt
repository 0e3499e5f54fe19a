-- The steps of a round: the loop over the words of its part of the schedule, and the four rounds of a block.
use Rattle.std.proofs.Common.{◌≡◌, ℕ, ◌+◌, ◌-◌, ◌<◌, ◌≤◌, List, [], ◌∷◌, length, get_or, take, drop, sym, refl, ap, ◌∙◌, arith}
use Rattle.std.proofs.lemmas.List.Sums.{fold_more}
use Rattle.std.proofs.lemmas.List.{take_all}
use Rattle.digest.specs.Words.{words_of}
use Rattle.digest.specs.Sha1.{choose, parity, majority, step, steps, summed, schedule, grown, compress}
use Rattle.digest.proofs.Schedule.{quarter-grown}

-- a step with word i of a list
pub steps_more : (f : ℕ → ℕ → ℕ → ℕ) (k : ℕ) (h s ws : List ℕ) (i : ℕ) (r : List ℕ) → i < length ws → s ≡ steps f k h (take i ws) → r ≡ step f k s (get_or ws i 0)
    → r ≡ steps f k h (take (i + 1) ws)
steps_more f k h s ws i r l e q =
    q ∙ (ap (λ (y : List ℕ). step f k y (get_or ws i 0)) e ∙ sym (fold_more (step f k) h ws i 0 l))

-- all twenty of them, which are those of a list from m on
pub steps_all : (f : ℕ → ℕ → ℕ → ℕ) (k : ℕ) (h g s w : List ℕ) (m i : ℕ) → length (take (m + 20 - m) (drop m w)) ≤ i → h ≡ g → s ≡ steps f k h (take i (take (m + 20 - m) (drop m w)))
    → s ≡ steps f k g (take 20 (drop m w))
steps_all f k h g s w m i l e q =
    let n : m + 20 - m ≡ 20 = omega arith in
    q ∙ (ap (λ (y : List ℕ). steps f k h y) (take_all i _ l)
    ∙ (ap (λ (y : List ℕ). steps f k y (take (m + 20 - m) (drop m w))) e ∙ ap (λ (y : ℕ). steps f k g (take y (drop m w))) n))

-- five words, written out
pub five_words : (s : List ℕ) → length s ≡ 5 → get_or s 0 0 ∷ get_or s 1 0 ∷ get_or s 2 0 ∷ get_or s 3 0 ∷ get_or s 4 0 ∷ [] ≡ s
five_words [] e = absurd (omega arith)
five_words (a ∷ []) e = absurd (omega arith)
five_words (a ∷ b ∷ []) e = absurd (omega arith)
five_words (a ∷ b ∷ c ∷ []) e = absurd (omega arith)
five_words (a ∷ b ∷ c ∷ d ∷ []) e = absurd (omega arith)
five_words (a ∷ b ∷ c ∷ d ∷ x ∷ []) e = refl
five_words (a ∷ b ∷ c ∷ d ∷ x ∷ y ∷ r) e = absurd (omega arith)

-- a round over a part of the schedule as far as it had grown is that round over the whole schedule
round_grown : (f : ℕ → ℕ → ℕ → ℕ) (k : ℕ) (block w s g r : List ℕ) (d n m : ℕ) → d + n ≡ 64 → n + 16 ≡ m + 20 → take (n + 16) w ≡ grown n (words_of 16 block)
    → s ≡ g → r ≡ steps f k s (take 20 (drop m w)) → r ≡ steps f k g (take 20 (drop m (schedule block)))
round_grown f k block w s g r d n m a b e p q =
    q ∙ (ap (λ (x : List ℕ). steps f k x (take 20 (drop m w))) p
    ∙ ap (λ (x : List ℕ). steps f k g x) (quarter-grown block w d n m a b e))

-- the four rounds, each over the schedule as far as it had grown
pub rounds-grown : (h block w₁ w₂ w₃ w₄ s₁ s₂ s₃ s₄ : List ℕ)
    → take 20 w₁ ≡ grown 4 (words_of 16 block) → take 40 w₂ ≡ grown 24 (words_of 16 block) → take 60 w₃ ≡ grown 44 (words_of 16 block) → take 80 w₄ ≡ grown 64 (words_of 16 block)
    → s₁ ≡ steps choose 0x5a827999 h (take 20 (drop 0 w₁)) → s₂ ≡ steps parity 0x6ed9eba1 s₁ (take 20 (drop 20 w₂))
    → s₃ ≡ steps majority 0x8f1bbcdc s₂ (take 20 (drop 40 w₃)) → s₄ ≡ steps parity 0xca62c1d6 s₃ (take 20 (drop 60 w₄))
    → summed h s₄ ≡ compress h block
unfolding compress
rounds-grown h block w₁ w₂ w₃ w₄ s₁ s₂ s₃ s₄ a b c d p q r s =
    ap (λ (x : List ℕ). summed h x)
    (round_grown parity 0xca62c1d6 block w₄ s₃ _ s₄ 0 64 60 refl refl d
    (round_grown majority 0x8f1bbcdc block w₃ s₂ _ s₃ 20 44 40 refl refl c
    (round_grown parity 0x6ed9eba1 block w₂ s₁ _ s₂ 40 24 20 refl refl b
    (round_grown choose 0x5a827999 block w₁ h h s₁ 60 4 0 refl refl a refl p)
    q) r) s)
