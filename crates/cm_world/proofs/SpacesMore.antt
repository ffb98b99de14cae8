-- One declared space more.
use Rattle.std.proofs.Common.{◌≡◌, ℕ, List, [], ◌∷◌, ◌++◌}
use Rattle.model_cred.specs.Space.{Space}
use Rattle.model_text.specs.SpaceText.{Declared}

pub one_more : (d : Declared) (name named : List ℕ) (s made : Space) (out : Declared) → name ≡ named → made ≡ s
    → out ≡ record { names = d.names ++ name ∷ []; spaces = s ∷ d.spaces }
    → record { names = d.names ++ named ∷ []; spaces = made ∷ d.spaces } ≡ out
one_more d name named s made out same is all = cc
