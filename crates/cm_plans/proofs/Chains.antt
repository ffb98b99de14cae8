-- Walks up the chain of a space.
use Rattle.std.proofs.Common.{◌≡◌, ℕ, Bool, false, List, ◌∷◌, Option, None, Some, if◌then◌else◌, refl, ap, ◌∙◌}
use Rattle.std.specs.Prelude.{unwrap_or, find}
use Rattle.model_cred.specs.IdMap.{is_the}
use Rattle.model_cred.proofs.Spaces.{chain_none}
use Rattle.model_cred.specs.Space.{Space, Spaces, chain, is_child, next_below, no_space, space_at, space_of, chain_from}

no_child : (o : Option Space) (a : ℕ) → (unwrap_or o no_space).parent ≡ None → is_child o a ≡ false
no_child None a is = refl
no_child (Some s) a is = ap (λ (p : Option ℕ). is_the p a) is

-- the chain of a space without a parent has no space whose parent is the other
pub none_below : (spaces : Spaces) (a at : ℕ) → chain spaces at ≡ at ∷ chain_from spaces None → (space_of spaces at).parent ≡ None → next_below spaces a at ≡ None
none_below spaces a at alone top =
    ap (λ (ms : List ℕ). find (λ m. is_child (space_at spaces m) a) ms) (alone ∙ ap (λ (ms : List ℕ). at ∷ ms) (chain_none spaces))
    ∙ ap (λ (b : Bool). if b then Some at else None) (no_child (space_at spaces at) a top)
