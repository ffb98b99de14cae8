-- Spaces by their places: they are listed newest first, and space n stands at place n from the end.
use Rattle.std.proofs.Common.{◌≡◌, ℕ, ◌<◌, ◌≤◌, ◌-◌, suc, length, [], ◌∷◌, Some, None, refl, sym, ap, ◌∙◌, inl, inr, arith, get_or, reverse}
use Rattle.std.proofs.lemmas.Bool.{cases_eq, eq-eqb, ne_eqb, cond-true, cond-false}
use Rattle.std.proofs.lemmas.List.{length-reverse, get_or-reverse}
use Rattle.model_cred.specs.Space.{Space, Spaces, space_at}

-- the space of a number that stands
found : (spaces : Spaces) (n : ℕ) (d : Space) → n < length spaces → space_at spaces n ≡ Some (get_or spaces (length spaces - 1 - n) d)
found [] n d h = absurd (omega arith)
found (s ∷ older) n d h =
    elim (cases_eq n (length older)) [
      | inl newest ↦
          let first : length (s ∷ older) - 1 - n ≡ 0 = omega (arith, newest) in
          rw first (cond-true _ (Some s) (space_at older n) (eq-eqb n (length older) newest))
      | inr apart ↦
          let later : length (s ∷ older) - 1 - n ≡ suc (length older - 1 - n) = omega (arith, apart) in
          rw later (cond-false _ (Some s) (space_at older n) (ne_eqb n (length older) apart) ∙ found older n d (omega (arith, apart)))
    ]

-- none has a number past theirs
pub not_found : (spaces : Spaces) (n : ℕ) → length spaces ≤ n → space_at spaces n ≡ None
not_found [] n h = refl
not_found (s ∷ older) n h =
    let rest : space_at older n ≡ None = not_found older n (omega arith) in
    grind (arith, rest)

-- of spaces that are listed oldest first, space n is the one at place n
pub space_at_place : (list : Spaces) (n : ℕ) (s : Space) → n < length list → s ≡ get_or list n s → Some s ≡ space_at (reverse list) n
space_at_place list n s h is =
    let back : length list - 1 - (length list - 1 - n) ≡ n = omega arith in
    let counted : length (reverse list) ≡ length list = length-reverse list in
    let there : space_at (reverse list) n ≡ Some (get_or (reverse list) (length (reverse list) - 1 - n) s)
    = found (reverse list) n s (omega (arith, counted)) in
    let turned : get_or (reverse list) (length list - 1 - n) s ≡ get_or list (length list - 1 - (length list - 1 - n)) s
    = get_or-reverse list (length list - 1 - n) s (omega arith) in
    sym (there ∙ ap Some (rw (counted, turned, back) (sym is)))

-- and there is none past the end
pub no_space_at_place : (list : Spaces) (n : ℕ) → length list ≤ n → None ≡ space_at (reverse list) n
no_space_at_place list n h = sym (not_found (reverse list) n (omega (arith, length-reverse list)))
