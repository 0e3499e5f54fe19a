-- Pieces joined: the laws that users of a digest under way go by.
use Rattle.std.proofs.Common.{◌≡◌, ℕ, List, [], ◌∷◌, ◌++◌, fold, sym, refl, ap, ◌∙◌, append_assoc}
use Rattle.std.specs.List.{flat_map}
use Rattle.std.proofs.lemmas.List.{append-nil}
use Rattle.digest.specs.Sha1.{blocks, sha1}
use Rattle.digest.specs.Running.{Running, fresh, absorb, finish, Fed}
use Rattle.digest.specs.Laws.{ClosingJoins}
use Rattle.digest.proofs.Absorbed.{absorb-append, finish-absorb}

pub absorb_nothing : fresh ≡ absorb fresh []
unfolding fresh absorb blocks
absorb_nothing = refl

-- pieces after a message so far
absorb-flat_map : {X : Type 0} (f : X → List ℕ) (m : List ℕ) (pieces : List X) → fold (λ v p. absorb v (f p)) (absorb fresh m) pieces ≡ absorb fresh (m ++ flat_map f pieces)
absorb-flat_map f m [] = ap (λ (x : List ℕ). absorb fresh x) (sym (append-nil m))
absorb-flat_map f m (p ∷ pieces) =
    ap (λ (v : Running). fold (λ w q. absorb w (f q)) v pieces) (absorb-append fresh m (f p))
    ∙ (absorb-flat_map f (m ++ f p) pieces ∙ ap (λ (x : List ℕ). absorb fresh x) (append_assoc m (f p) (flat_map f pieces)))

pub finish-flat_map : {X : Type 0} (f : X → List ℕ) (pieces : List X) → finish (fold (λ v p. absorb v (f p)) fresh pieces) ≡ sha1 (flat_map f pieces)
finish-flat_map f pieces =
    ap (λ (v : Running). finish (fold (λ w p. absorb w (f p)) v pieces)) absorb_nothing
    ∙ (ap (λ (v : Running). finish v) (absorb-flat_map f [] pieces) ∙ finish-absorb (flat_map f pieces))

pub closing_joins : ClosingJoins
closing_joins pieces = finish-flat_map (λ p. p) pieces

-- ---- by the message that a digest was fed

pub feeding_fed : (d e : Running) (piece : List ℕ) → e ≡ absorb d piece → (m : List ℕ) → Fed d m → Fed e (m ++ piece)
unfolding Fed
feeding_fed d e piece p m f = p ∙ (ap (λ (v : Running). absorb v piece) f ∙ absorb-append fresh m piece)

pub closing_fed : (d : Running) (r : List ℕ) → r ≡ finish d → (m : List ℕ) → Fed d m → r ≡ sha1 m
unfolding Fed
closing_fed d r p m f = p ∙ (ap (λ (v : Running). finish v) f ∙ finish-absorb m)
