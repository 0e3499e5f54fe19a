-- A table's length and its entries, and a table with one of them altered.
use Rattle.std.proofs.Common.{◌≡◌, ℕ, ◌<◌, length, get_or, set, sym, ◌∙◌, inl, inr, arith, length-set}
use Rattle.std.proofs.lemmas.List.{same_lists, get_or-set_same, get_or-set_other}
use Rattle.std.proofs.lemmas.List.FromFn.{length-map-range_with_len, get_or-map-range_with_len}
use Rattle.std.proofs.lemmas.Bool.{cases_eq}
use Rattle.store.specs.Tables.{table}

pub length-table : {A : Type 0} (n : ℕ) (f : ℕ → A) → length (table n f) ≡ n
length-table n f = length-map-range_with_len f 0 n

pub get_or-table : {A : Type 0} (n : ℕ) (f : ℕ → A) (k : ℕ) (d : A) → k < n → get_or (table n f) k d ≡ f k
get_or-table n f k d h = get_or-map-range_with_len f 0 n k k d h (omega arith)

pub table-set : {A : Type 0} (n : ℕ) (f e : ℕ → A) (k : ℕ) (x : A) → k < n → e k ≡ x → ((j : ℕ) → j < n → (j ≡ k → ⊥) → e j ≡ f j)
    → table n e ≡ set (table n f) k x
table-set n f e k x h here there =
    same_lists (table n e) (set (table n f) k x)
    (length-table n e ∙ sym (length-set (table n f) k x ∙ length-table n f))
    (λ j d l.
    let jn : j < n = omega (arith, length-table n e) in
    let kl : k < length (table n f) = omega (arith, length-table n f) in
    let left = get_or-table n e j d jn in
    elim (cases_eq j k) [
      | inl q ↦ let s = get_or-set_same (table n f) k x d kl in cc
      | inr q ↦ let s = get_or-set_other (table n f) k j x d q in let t = get_or-table n f j d jn in let u = there j jn q in cc
    ])
