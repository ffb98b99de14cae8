-- Spaces by their places, where one of them is changed, or one more stands after the last.
use Rattle.std.proofs.Common.{◌≡◌, ◌≢◌, ℕ, zero, suc, ◌<◌, ◌+◌, ◌++◌, ◌≤◌, ◌==◌, [], ◌∷◌, length, refl, sym, ap, subst}
use Rattle.std.proofs.Common.{◌∙◌, arith, get_or, reverse, slice_set}
use Rattle.std.specs.Prelude.{unwrap_or}
use Rattle.std.proofs.lemmas.Bool.{ne_eqb, cond-false}
use Rattle.std.proofs.lemmas.List.{length-append, length-reverse, length-set, reverse-append}
use Rattle.cm_base.specs.Limits.{greatest_number}
use Rattle.cm_state.proofs.SpacePlaces.{space_at_place}
use Rattle.model_cred.proofs.Trees.{tree_put}
use Rattle.model_cred.specs.Space.{Space, Spaces, IsTree, no_space, put_space, space_of}

-- the initial space is the last of the list
put_first : (newer : Spaces) (s new : Space) → put_space 0 new (newer ++ s ∷ []) ≡ newer ++ new ∷ []
put_first [] s new = refl
put_first (t ∷ newer) s new =
    let counted : length (newer ++ s ∷ []) ≡ length newer + 1 = length-append newer (s ∷ []) in
    let other : 0 ≢ length (newer ++ s ∷ []) = λ same. absurd (omega (arith, counted)) in
    cond-false _ _ _ (ne_eqb 0 (length (newer ++ s ∷ [])) other) ∙ ap (λ (l : Spaces). t ∷ l) (put_first newer s new)

-- the others stand before it
put_later : (newer : Spaces) (n : ℕ) (s new : Space) → put_space (suc n) new (newer ++ s ∷ []) ≡ put_space n new newer ++ s ∷ []
put_later [] n s new = cond-false (suc n == 0) (new ∷ []) (s ∷ []) (ne_eqb (suc n) 0 (λ same. absurd (omega arith)))
put_later (t ∷ newer) n s new =
    let counted : length (newer ++ s ∷ []) ≡ suc (length newer) = length-append newer (s ∷ []) ∙ omega arith in
    let rest : put_space (suc n) new (newer ++ s ∷ []) ≡ put_space n new newer ++ s ∷ [] = put_later newer n s new in
    grind (arith, counted, rest)

-- of spaces that are listed oldest first, space n is changed at place n
pub put_at_place : (list : Spaces) (n : ℕ) (new : Space) → put_space n new (reverse list) ≡ reverse (slice_set list n new)
put_at_place [] n new = refl
put_at_place (s ∷ list) zero new =
    ap (put_space 0 new) (reverse-append (s ∷ []) list) ∙ put_first (reverse list) s new ∙ sym (reverse-append (new ∷ []) list)
put_at_place (s ∷ list) (suc n) new =
    ap (put_space (suc n) new) (reverse-append (s ∷ []) list) ∙ put_later (reverse list) n s new
    ∙ ap (λ (l : Spaces). l ++ s ∷ []) (put_at_place list n new) ∙ sym (reverse-append (s ∷ []) (slice_set list n new))

-- a space that stands has its place
pub stands_at : (list spaces : Spaces) (n : ℕ) → n < length spaces → reverse list ≡ spaces → n < length list
stands_at list spaces n low same = omega (arith, length-reverse list, ap length same)

-- the space at a place is the one of that number
pub space_here : (list : Spaces) (n : ℕ) (s : Space) → n < length list → s ≡ get_or list n s → space_of (reverse list) n ≡ s
space_here list n s low is = ap (λ o. unwrap_or o no_space) (sym (space_at_place list n s low is))

-- a space that is changed at its place
pub put_here : (list spaces : Spaces) (n : ℕ) (s : Space) (change : Space → Space) → n < length spaces → s ≡ get_or list n s → reverse list ≡ spaces
    → reverse (slice_set list n (change s)) ≡ put_space n (change (space_of spaces n)) spaces
put_here list spaces n s change low is same =
    sym (put_at_place list n (change s))
    ∙ ap (λ (t : Space). put_space n (change t) (reverse list)) (sym (space_here list n s (stands_at list spaces n low same) is))
    ∙ ap (λ (l : Spaces). put_space n (change (space_of l n)) l) same

-- with the parent kept, the spaces stay a tree of as many
pub keeps_here : (list spaces : Spaces) (n : ℕ) (s new : Space) → n < length spaces → s ≡ get_or list n s → reverse list ≡ spaces → new.parent ≡ s.parent
    → IsTree (reverse list) × (length list ≤ greatest_number) → IsTree (reverse (slice_set list n new)) × (length (slice_set list n new) ≤ greatest_number)
keeps_here list spaces n s new high is view same kept =
    let low : n < length list = stands_at list spaces n high view in
    let counted : length (reverse list) ≡ length list = length-reverse list in
    let parent : new.parent ≡ (space_of (reverse list) n).parent = same ∙ ap (λ (t : Space). t.parent) (sym (space_here list n s low is)) in
    let tree : IsTree (put_space n new (reverse list)) = tree_put n new (reverse list) (omega (arith, counted)) parent kept.0 in
    (subst IsTree (put_at_place list n new) tree, rw (length-set list n new) kept.1)
