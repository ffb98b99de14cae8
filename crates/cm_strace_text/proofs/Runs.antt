-- Runs of bytes of which none is one of two, in what is left of a text, and what such runs leave as it is.
use Rattle.std.proofs.Common.{◌≡◌, ◌≢◌, ◌∙◌, ◌<◌, ◌≤◌, ◌+◌, ◌-◌, ℕ, zero, suc, true, get_or, drop, List, ap, sym, subst, arith}
use Rattle.std.proofs.lemmas.List.{get_or-drop}
use Rattle.memchr.specs.Find.{Nowhere, Passes, is_byte2}

-- a byte that is none of two
is_neither : (a b byte : ℕ) → ((is_byte2 a b byte ≡ true) → ⊥) → (byte ≢ a) × (byte ≢ b)
is_neither a b byte none = (λ is. none (grind (arith, is)), λ is. none (grind (arith, is)))

-- the byte of what is left at a place
left_at : (text rest : List ℕ) (from k : ℕ) → rest ≡ drop from text → get_or rest k 0 ≡ get_or text (from + k) 0
left_at text rest from k is = ap (λ (l : List ℕ). get_or l k 0) is ∙ get_or-drop from text k 0

-- none of them is
pub none_of : (a b : ℕ) (text rest : List ℕ) (from n : ℕ) → rest ≡ drop from text
    → Nowhere (Passes (is_byte2 a b) rest) 0 n → (k : ℕ) → from ≤ k → k < from + n
    → (get_or text k 0 ≢ a) × (get_or text k 0 ≢ b)
none_of a b text rest from n is none k low below =
    let place : from + (k - from) ≡ k = omega arith in
    let here : get_or rest (k - from) 0 ≡ get_or text k 0 =
    left_at text rest from (k - from) is ∙ ap (λ (i : ℕ). get_or text i 0) place in
    is_neither a b (get_or text k 0)
    (λ one. none (k - from) (omega arith) (omega arith) (subst (λ (byte : ℕ). is_byte2 a b byte ≡ true) (sym here) one))

-- the byte that ends a run is one of the two
pub ended_at : (a b : ℕ) (text rest : List ℕ) (from n : ℕ) → rest ≡ drop from text
    → is_byte2 a b (get_or rest n 0) ≡ true → get_or text (from + n) 0 ≢ a → get_or text (from + n) 0 ≡ b
ended_at a b text rest from n is ends other =
    let here : is_byte2 a b (get_or text (from + n) 0) ≡ true =
    subst (λ (byte : ℕ). is_byte2 a b byte ≡ true) (left_at text rest from n is) ends in
    grind (arith, here, other)

-- what each of so many places leaves as it is
same_for : {A : Type 0} (f : ℕ → A) (from n : ℕ) → ((k : ℕ) → from ≤ k → k < from + n → f k ≡ f (k + 1))
    → f from ≡ f (from + n)
same_for f from zero steps = let same : from ≡ from + 0 = omega arith in ap f same
same_for f from (suc n) steps =
    let next : from + n + 1 ≡ from + suc n = omega arith in
    same_for f from n (λ k low below. steps k low (omega arith))
    ∙ steps (from + n) (omega arith) (omega arith)
    ∙ ap f next

-- what each place of a run leaves as it is
pub same_along : {A : Type 0} (f : ℕ → A) (from to : ℕ) → from ≤ to
    → ((k : ℕ) → from ≤ k → k < to → f k ≡ f (k + 1)) → f from ≡ f to
same_along f from to up steps =
    let place : from + (to - from) ≡ to = omega arith in
    same_for f from (to - from) (λ k low below. steps k low (omega arith)) ∙ ap f place
