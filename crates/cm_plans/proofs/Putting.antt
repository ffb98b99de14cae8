-- Lists of choices that are put together, choice by choice.
use Rattle.std.proofs.Common.{◌≡◌, ℕ, ◌==◌, Bool, true, false, List, [], ◌∷◌, ◌++◌, map, if◌then◌else◌, refl, sym, ap, ◌∙◌, subst}
use Rattle.std.specs.Prelude.{All, filter, not}
use Rattle.std.proofs.lemmas.List.{append_assoc, append-nil, map-append}
use Rattle.std.proofs.lemmas.List.Elements.{All-push}
use Rattle.cm_plans.specs.Choices.{choice_of, join_of, IsChoiceOfWalk}
use Rattle.cm_plans.specs.Middles.{Lists, Adds}
use Rattle.cm_plans.specs.declared.choices.Choice.{Choice as CodeChoice}
use Rattle.model_cred.specs.Space.{Spaces}
use Rattle.model_plans.specs.Move.{JoinSpace}
use Rattle.model_plans.specs.Plan.{Choice}

-- the choices to join these spaces but for one
abbrev pub joins_of : ℕ → List ℕ → List Choice
joins_of at ns = map (λ n. JoinSpace n ∷ []) (filter (λ n. not (n == at)) ns)

pub join_step : (at n : ℕ) (ns : List ℕ) → joins_of at (n ∷ ns) ≡ join_of at n ++ joins_of at ns
join_step at n ns =
    elim (n == at)
    as (λ (b : Bool). map (λ k. JoinSpace k ∷ []) (if not b then n ∷ filter (λ k. not (k == at)) ns else filter (λ k. not (k == at)) ns)
    ≡ (if b then [] else (JoinSpace n ∷ []) ∷ []) ++ joins_of at ns) [
      | true ↦ refl
      | false ↦ refl
    ]

pub adds_one : (spaces : Spaces) (c : CodeChoice) (old new : List CodeChoice) → new ≡ old ++ c ∷ [] → IsChoiceOfWalk spaces c
    → Adds spaces (choice_of c ∷ []) old new
adds_one spaces c old new is walks choices before = record {
  same = ap (map choice_of) is ∙ map-append choice_of old (c ∷ []) ∙ ap (λ (cs : List Choice). cs ++ choice_of c ∷ []) before.same;
  walks = subst (All (IsChoiceOfWalk spaces)) (sym is) (All-push (IsChoiceOfWalk spaces) old c before.walks walks);
}

-- what was put at the end so far, with what is left to be put, is all
abbrev pub Towards : Spaces → List Choice → List Choice → List CodeChoice → List CodeChoice → Type 0
Towards spaces rest all old now = (choices : List Choice) → Lists spaces old choices
    → (so_far : List Choice) × Lists spaces now so_far × (so_far ++ rest ≡ choices ++ all)

pub towards_start : (spaces : Spaces) (all : List Choice) (old : List CodeChoice) → Towards spaces all all old old
towards_start spaces all old choices before = (choices, before, refl)

pub towards_more : (spaces : Spaces) (add rest all left : List Choice) (old now new : List CodeChoice) → left ≡ add ++ rest
    → Towards spaces left all old now → Adds spaces add now new → Towards spaces rest all old new
towards_more spaces add rest all left old now new is to adds choices before =
    let so_far = to choices before in
    (so_far.0 ++ add, adds so_far.0 so_far.1, append_assoc so_far.0 add rest ∙ ap (λ (cs : List Choice). so_far.0 ++ cs) (sym is) ∙ so_far.2)

pub towards_end : (spaces : Spaces) (all left : List Choice) (old now : List CodeChoice) → left ≡ [] → Towards spaces left all old now → Adds spaces all old now
towards_end spaces all left old now is to choices before =
    let so_far = to choices before in
    subst (Lists spaces now) (sym (append-nil so_far.0) ∙ ap (λ (cs : List Choice). so_far.0 ++ cs) (sym is) ∙ so_far.2) so_far.1
