-- Two lists whose differences are none are the same.
use Rattle.std.proofs.Common.{◌≡◌, ℕ, eqb, List, [], ◌∷◌, length, fold, Decides, sym, refl, ap, ap₂, ◌∙◌, arith}
use Rattle.std.specs.List.{zip}
use lib.Bits.{bit_or, bit_xor, or_add_and, xor_add_and, and_le_l, and_le_r, xor_self}
use Rattle.std.proofs.lemmas.Bool.{eqb-true, eq-eqb}
use Rattle.digest.specs.Codes.{differences}

or_none : (x y : ℕ) → bit_or x y ≡ 0 → (x ≡ 0) × (y ≡ 0)
or_none x y e =
    let a = or_add_and x y in
    let b = and_le_l x y in
    let c = and_le_r x y in
    (omega arith, omega arith)

xor_none : (x y : ℕ) → bit_xor x y ≡ 0 → x ≡ y
xor_none x y e =
    let a = xor_add_and x y in
    let b = and_le_l x y in
    let c = and_le_r x y in
    omega arith

-- bits that are gathered from none are none only where all bytes are the same
same_bytes : (bits : ℕ) (a b : List ℕ) → length a ≡ length b → fold (λ bits p. bit_or bits (bit_xor p.0 p.1)) bits (zip a b) ≡ 0 → (bits ≡ 0) × (a ≡ b)
same_bytes bits [] [] l e = (e, refl)
same_bytes bits [] (y ∷ b) l e = absurd (omega arith)
same_bytes bits (x ∷ a) [] l e = absurd (omega arith)
same_bytes bits (x ∷ a) (y ∷ b) l e =
    let rest = same_bytes (bit_or bits (bit_xor x y)) a b (omega arith) e in
    let here = or_none bits (bit_xor x y) rest.0 in
    (here.0, ap₂ (λ z zs. z ∷ zs) (xor_none x y here.1) rest.1)

differences-self : (a : List ℕ) → differences a a ≡ 0
differences-self [] = refl
differences-self (x ∷ a) = ap (λ (bits : ℕ). fold (λ bits p. bit_or bits (bit_xor p.0 p.1)) bits (zip a a)) (xor_self x) ∙ differences-self a

pub decides_agreement : (a b : List ℕ) (d : ℕ) → length a ≡ length b → d ≡ differences a b → Decides (eqb d 0) (a ≡ b)
decides_agreement a b d l e = (
  λ t. (same_bytes 0 a b l (sym e ∙ eqb-true d 0 t)).1,
  λ s. eq-eqb d 0 (e ∙ (ap (λ (x : List ℕ). differences a x) (sym s) ∙ differences-self a)),
)
