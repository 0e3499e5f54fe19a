-- Words and their bytes.
use Rattle.std.proofs.Common.{◌≡◌, ℕ, zero, suc, ◌+◌, ◌*◌, ◌<◌, List, [], ◌∷◌, ◌++◌, map, length, get_or, take, drop, set, sym, refl, ap, ◌∙◌, zero-add, add-one, lit<, arith}
use Rattle.std.specs.List.{flat_map}
use Rattle.std.specs.Simd.{first_chunks}
use Rattle.std.proofs.lemmas.List.{take_more_set, length_push, get_or-take, get_or-drop}
use Rattle.digest.specs.Words.{word_at, words_of, be32, bytes_of}

-- ---- words from bytes

pub words_none : (bs : List ℕ) → ◌≡◌ {A = List ℕ} [] (words_of 0 bs)
unfolding words_of
words_none bs = refl

pub words_more : (bs w : List ℕ) (i x : ℕ) → i < length w → take i w ≡ words_of i bs → x ≡ word_at bs i → take (i + 1) (set w i x) ≡ words_of (i + 1) bs
unfolding words_of
words_more bs w i x lt e q =
    let a = take_more_set w i x lt in
    let b : words_of (i + 1) bs ≡ words_of i bs ++ word_at bs i ∷ [] = ap (λ (k : ℕ). words_of k bs) (add-one i) in
    cc

pub length-words_of : (bs : List ℕ) (n : ℕ) → length (words_of n bs) ≡ n
unfolding words_of
length-words_of bs zero = refl
length-words_of bs (suc n) =
    let e = length-words_of bs n in
    let k = length_push (words_of n bs) (word_at bs n) in
    omega arith

-- what lies in the i-th of the pieces of four bytes
get_or-first_chunks : (k i j : ℕ) (bs d : List ℕ) → i < k → j < 4 → get_or (get_or (first_chunks 4 k bs) i d) j 0 ≡ get_or bs (4 * i + j) 0
get_or-first_chunks zero i j bs d l m = absurd (omega arith)
get_or-first_chunks (suc k) zero j bs d l m = get_or-take 4 bs j 0 m ∙ ap (λ (n : ℕ). get_or bs n 0) (sym (zero-add j))
get_or-first_chunks (suc k) (suc i) j bs d l m =
    let e : 4 + (4 * i + j) ≡ 4 * suc i + j = omega arith in
    get_or-first_chunks k i j (drop 4 bs) d (omega arith) m ∙ (get_or-drop 4 bs (4 * i + j) 0 ∙ ap (λ (n : ℕ). get_or bs n 0) e)

-- the i-th word, read from the i-th of these pieces
pub word_at-first_chunks : (k i : ℕ) (bs d : List ℕ) → i < k
    → get_or (get_or (first_chunks 4 k bs) i d) 0 0 * 16777216 + get_or (get_or (first_chunks 4 k bs) i d) 1 0 * 65536 + get_or (get_or (first_chunks 4 k bs) i d) 2 0 * 256 + get_or (get_or (first_chunks 4 k bs) i d) 3 0
    ≡ word_at bs i
word_at-first_chunks k i bs d l =
    let p0 = get_or-first_chunks k i 0 bs d l (lit< tt) in
    let p1 = get_or-first_chunks k i 1 bs d l (lit< tt) in
    let p2 = get_or-first_chunks k i 2 bs d l (lit< tt) in
    let p3 = get_or-first_chunks k i 3 bs d l (lit< tt) in
    let zero : 4 * i + 0 ≡ 4 * i = omega arith in
    omega (arith, p0, p1, p2, p3, ap (λ (n : ℕ). get_or bs n 0) zero)

-- ---- bytes from words

-- the bytes of five words, one word after another
pub flat_map-be32 : (ws : List ℕ) → length ws ≡ 5 → flat_map (λ bs. bs) (map be32 ws) ≡ bytes_of 5 ws
unfolding bytes_of
flat_map-be32 [] e = absurd (omega arith)
flat_map-be32 (a ∷ []) e = absurd (omega arith)
flat_map-be32 (a ∷ b ∷ []) e = absurd (omega arith)
flat_map-be32 (a ∷ b ∷ c ∷ []) e = absurd (omega arith)
flat_map-be32 (a ∷ b ∷ c ∷ d ∷ []) e = absurd (omega arith)
flat_map-be32 (a ∷ b ∷ c ∷ d ∷ x ∷ []) e = refl
flat_map-be32 (a ∷ b ∷ c ∷ d ∷ x ∷ y ∷ r) e = absurd (omega arith)
