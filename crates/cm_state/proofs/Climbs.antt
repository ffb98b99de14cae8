-- From a space to its parent.
use Rattle.std.proofs.Common.{◌≡◌, ℕ, ◌<◌, ◌+◌, ◌||◌, Bool, false, ◌∷◌, length, Option, Some, None, sym, subst, ap, ◌∙◌, arith, get_or, reverse}
use Rattle.std.specs.Prelude.{IfSome, option_map}
use Rattle.std.specs.List.{list_any}
use Rattle.cm_base.specs.declared.id.SpaceId.{SpaceId}
use Rattle.cm_state.proofs.SpacePlaces.{space_at_place}
use Rattle.cm_state.proofs.SpaceWrites.{stands_at}
use Rattle.model_cred.proofs.Chains.{chain_step, parent_older}
use Rattle.model_cred.proofs.Spaces.{chain_none}
use Rattle.model_cred.specs.Space.{Space, Spaces, IsTree, space_at, chain, chain_from, level}

-- the chain of the space at a place goes on from its parent
pub chain_here : (list spaces : Spaces) (n : ℕ) (s t : Space) → n < length spaces → s ≡ get_or list n s → t ≡ s → reverse list ≡ spaces
    → IsTree (reverse list) → chain spaces n ≡ n ∷ chain_from spaces t.parent
chain_here list spaces n s t high is same view tree =
    let low : n < length list = stands_at list spaces n high view in
    let at : space_at (reverse list) n ≡ Some t = sym (space_at_place list n s low is) ∙ ap Some (sym same) in
    subst (λ (l : Spaces). chain l n ≡ n ∷ chain_from l t.parent) view (chain_step (reverse list) n t tree at)

-- its parent is older
pub older_here : (list spaces : Spaces) (n : ℕ) (s t : Space) (parent : Option SpaceId)
    → n < length spaces → s ≡ get_or list n s → t ≡ s → reverse list ≡ spaces
    → t.parent ≡ option_map (λ (p : SpaceId). p.0) parent → IsTree (reverse list) → IfSome parent (λ p. p.0 < n)
older_here list spaces n s t None high is same view its tree = tt
older_here list spaces n s t (Some p) high is same view its tree =
    let low : n < length list = stands_at list spaces n high view in
    parent_older (reverse list) n p.0 t tree (sym (space_at_place list n s low is) ∙ ap Some (sym same)) its

-- where the chain ends, as many spaces are above the first one as were passed
pub level_passed : (spaces : Spaces) (s at above : ℕ) → chain spaces at ≡ at ∷ chain_from spaces None
    → above + length (chain spaces at) ≡ length (chain spaces s) → above ≡ level spaces s
level_passed spaces s at above ends rest =
    let one : length (chain spaces at) ≡ 1 = ap length (ends ∙ ap (λ l. at ∷ l) (chain_none spaces)) in
    omega (arith, one, rest)

-- where the chain ends and its last space fails a test, none of it passes
pub none_passes : (test : ℕ → Bool) (spaces : Spaces) (at : ℕ) → chain spaces at ≡ at ∷ chain_from spaces None → test at ≡ false
    → false ≡ list_any test (chain spaces at)
none_passes test spaces at ends fails =
    sym (ap (list_any test) (ends ∙ ap (λ l. at ∷ l) (chain_none spaces)) ∙ ap (λ b. b || false) fails)
