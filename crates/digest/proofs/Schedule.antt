-- The schedule: one word more, and its quarters as it grows.
use Rattle.std.proofs.Common.{◌≡◌, ℕ, zero, suc, ◌+◌, ◌<◌, List, [], ◌∷◌, ◌++◌, length, take, drop, set, sym, refl, ap, ◌∙◌, zero-add, add-one, arith}
use Rattle.std.proofs.lemmas.List.{take_more_set, take_all, take-append-le, drop-take, length_push, get_or-take}
use Rattle.digest.specs.Words.{words_of}
use Rattle.digest.specs.Sha1.{next_word, grown, schedule}
use Rattle.digest.proofs.Words.{length-words_of}

pub grown_none : (ws : List ℕ) → ws ≡ grown 0 ws
unfolding grown
grown_none ws = refl

-- the next word depends on the words before it alone
next_word-take : (w : List ℕ) (n : ℕ) → next_word (take (n + 16) w) n ≡ next_word w n
next_word-take w n =
    let a : n + 13 < n + 16 = omega arith in
    let b : n + 8 < n + 16 = omega arith in
    let c : n + 2 < n + 16 = omega arith in
    let d : n < n + 16 = omega arith in
    simp get_or-take

pub grown_more : (ws w : List ℕ) (n x : ℕ) → n + 16 < length w → take (n + 16) w ≡ grown n ws → x ≡ next_word w n → take ((n + 1) + 16) (set w (n + 16) x) ≡ grown (n + 1) ws
unfolding grown
grown_more ws w n x l e q =
    let s : (n + 1) + 16 ≡ (n + 16) + 1 = omega arith in
    ap (λ (k : ℕ). take k (set w (n + 16) x)) s
    ∙ (take_more_set w (n + 16) x l
    ∙ (ap (λ (y : ℕ). take (n + 16) w ++ y ∷ []) (q ∙ sym (next_word-take w n))
    ∙ (ap (λ (v : List ℕ). v ++ next_word v n ∷ []) e
    ∙ sym (ap (λ (k : ℕ). grown k ws) (add-one n)))))

length-grown : (ws : List ℕ) (n : ℕ) → length (grown n ws) ≡ n + length ws
unfolding grown
length-grown ws zero = sym (zero-add (length ws))
length-grown ws (suc n) =
    let e = length-grown ws n in
    let k = length_push (grown n ws) (next_word (grown n ws) n) in
    omega arith

-- words that stand stay as the schedule grows
grown_front : (ws : List ℕ) (d n : ℕ) → length ws ≡ 16 → take (n + 16) (grown (d + n) ws) ≡ grown n ws
unfolding grown
grown_front ws zero n l =
    let g = length-grown ws n in
    ap (λ (k : ℕ). take (n + 16) (grown k ws)) (zero-add n) ∙ take_all (n + 16) (grown n ws) (omega arith)
grown_front ws (suc d) n l =
    let g = length-grown ws (d + n) in
    let e : suc d + n ≡ suc (d + n) = omega arith in
    ap (λ (k : ℕ). take (n + 16) (grown k ws)) e
    ∙ (take-append-le (n + 16) (grown (d + n) ws) _ (omega arith) ∙ grown_front ws d n l)

-- twenty words of a schedule that has grown past them, with d still to come, are those of the whole schedule
pub quarter-grown : (block w : List ℕ) (d n m : ℕ) → d + n ≡ 64 → n + 16 ≡ m + 20 → take (n + 16) w ≡ grown n (words_of 16 block) → take 20 (drop m w) ≡ take 20 (drop m (schedule block))
unfolding schedule
quarter-grown block w d n m a b e =
    let f : take (n + 16) (grown 64 (words_of 16 block)) ≡ grown n (words_of 16 block) =
    ap (λ (k : ℕ). take (n + 16) (grown k (words_of 16 block))) (sym a) ∙ grown_front (words_of 16 block) d n (length-words_of block 16) in
    let g : take (m + 20) w ≡ take (m + 20) (grown 64 (words_of 16 block)) =
    ap (λ (k : ℕ). take k w) (sym b) ∙ (e ∙ (sym f ∙ ap (λ (k : ℕ). take k (grown 64 (words_of 16 block))) b)) in
    sym (drop-take m 20 w) ∙ (ap (λ (x : List ℕ). drop m x) g ∙ drop-take m 20 (grown 64 (words_of 16 block)))
