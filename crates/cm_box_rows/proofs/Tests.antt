-- What tests tell, and how tests are put together.
use Rattle.std.proofs.Common.{◌≡◌, ℕ, Bool, true, false, refl}
use Rattle.std.specs.Prelude.{◌↔◌, IsTrue}
use Rattle.std.proofs.lemmas.Bool.{false≢true, true_from_ne_false}
use Rattle.cm_sets.specs.Sets.{IsWithin, Exceeds}

-- the test of inclusion
pub within_told : (b : Bool) (One Wider : ℕ → Type 0) → (IsTrue b → IsWithin One Wider)
    → (b ≡ false → Exceeds One Wider)
    → IsTrue b ↔ IsWithin One Wider
within_told b One Wider if_yes if_no =
    (if_yes, λ within. true_from_ne_false b (λ is. let out : Exceeds One Wider = if_no is in out.2 (within out.0 out.1)))

-- one after the other
pub on : {P Q R : Type 0} → P ↔ Q → Q ↔ R → P ↔ R
on a b = (λ p. b.0 (a.0 p), λ r. a.1 (b.1 r))

-- what is known not to hold is answered no, what is known to hold yes
pub no : (P : Type 0) → ¬ P → IsTrue false ↔ P
no P not_p = (λ wrong. absurd (false≢true wrong), λ p. absurd (not_p p))

pub yes : (P : Type 0) → P → IsTrue true ↔ P
yes P p = (λ _. p, λ _. refl)
