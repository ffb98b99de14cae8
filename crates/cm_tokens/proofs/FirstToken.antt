-- The first token of a line.
use Rattle.std.proofs.Common.{◌≡◌, ℕ, zero, suc, ◌<◌, ◌≤◌, true, false, length, List, [], ◌∷◌, refl, arith, get_or}
use Rattle.std.proofs.Common.{take, drop}
use Rattle.model_text.specs.Cut.{tokens_of, is_blank, goes_on}
use Rattle.model_text.proofs.Tokens.{ends_here, extends}

-- the bytes before the first blank are the first token
pub token_front : (text : List ℕ) (n : ℕ) → n ≤ length text → ((k : ℕ) → k < n → is_blank (get_or text k 0) ≡ false)
    → (n < length text → is_blank (get_or text n 0) ≡ true) → goes_on text ≡ true
    → tokens_of text ≡ take n text ∷ tokens_of (drop n text)
token_front [] n within plain ended goes = absurd (cc)
token_front (b ∷ bs) zero within plain ended goes = let blank : is_blank b ≡ true = ended (omega arith) in absurd (grind (arith, blank, goes))
token_front (b ∷ []) (suc zero) within plain ended goes = ends_here b [] (plain 0 (omega arith)) refl
token_front (b ∷ []) (suc (suc n)) within plain ended goes = absurd (omega arith)
token_front (b ∷ c ∷ cs) (suc zero) within plain ended goes =
    let blank : is_blank c ≡ true = ended (omega arith) in
    ends_here b (c ∷ cs) (plain 0 (omega arith)) (rw blank refl)
token_front (b ∷ c ∷ cs) (suc (suc n)) within plain ended goes =
    let after : is_blank c ≡ false = plain 1 (omega arith) in
    let goes_after : goes_on (c ∷ cs) ≡ true = rw after refl in
    extends b (c ∷ cs) _ _ (plain 0 (omega arith)) goes_after
    (token_front (c ∷ cs) (suc n) (omega arith) (λ k lt. plain (suc k) (omega arith)) (λ lt. ended (omega arith)) goes_after)
