-- Lists of spaces: with another space in the place of one, and chains that are empty.
use Rattle.std.proofs.Common.{◌≡◌, ℕ, suc, ◌≤◌, ◌==◌, Bool, true, false, cond, length, [], ◌∷◌, None, refl, ap, arith}
use Rattle.std.proofs.lemmas.Bool.{ne_eqb}
use Rattle.model_cred.specs.Space.{Space, Spaces, put_space, chain_from, chain}

-- there are as many spaces with another in the place of one
pub length_put : (n : ℕ) (new : Space) (spaces : Spaces) → length (put_space n new spaces) ≡ length spaces
length_put n new [] = refl
length_put n new (s ∷ older) =
    elim (n == length older) as (λ (b : Bool). length (cond b (new ∷ older) (s ∷ put_space n new older)) ≡ suc (length older)) [
      | true ↦ refl
      | false ↦ ap suc (length_put n new older)
    ]

-- no chain begins at no space
pub chain_none : (spaces : Spaces) → chain_from spaces None ≡ []
chain_none [] = refl
chain_none (s ∷ older) = chain_none older

-- a space that doesn't stand has no chain
pub chain_empty : (spaces : Spaces) (n : ℕ) → length spaces ≤ n → chain spaces n ≡ []
chain_empty [] n past = refl
chain_empty (s ∷ older) n past = rw (ne_eqb (length older) n (λ same. omega arith)) (chain_empty older n (omega arith))
