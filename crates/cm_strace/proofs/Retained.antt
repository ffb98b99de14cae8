-- Lines that were taken go out of a list, as an iterator over their flags says.
use Rattle.std.proofs.Common.{◌≡◌, suc, Bool, true, false, not, length, List, [], ◌∷◌, refl, ◌∙◌, ap, arith}
use Rattle.std.specs.List.{items_where_true}
use Rattle.std.specs.List.Retain.{ReturnsInTurn}
use Rattle.cm_strace.specs.Taken.{NextFlag, untaken}
use Rattle.model_strace.specs.Lines.{Line}

-- a line more, and its flag
one_more : (l : Line) (stays : Bool) (lines : List Line) (bs : List Bool) (taken rest : List Bool)
    → length taken ≡ suc (length lines) → NextFlag taken stays rest
    → (length rest ≡ length lines → items_where_true bs lines ≡ untaken lines rest)
    → items_where_true (stays ∷ bs) (l ∷ lines) ≡ untaken (l ∷ lines) taken
one_more l stays lines bs [] rest long next others = absurd (omega arith)
one_more l stays lines bs (t ∷ taken) rest long next others =
    let left : items_where_true bs lines ≡ untaken lines taken =
    others (ap length next.1 ∙ omega arith) ∙ ap (untaken lines) next.1 in
    rw (next.0) (elim t as (λ t. items_where_true (not t ∷ bs) (l ∷ lines) ≡ untaken (l ∷ lines) (t ∷ taken)) [
      | true ↦ left
      | false ↦ ap (λ ls. l ∷ ls) left
    ])

-- what stays where each flag says so in turn
pub left_in_turn : {P : Type 0} (R : P → Line → Bool → P → Type 0) (flags : P → List Bool)
    (says : (p : P) (l : Line) (stays : Bool) (q : P) → R p l stays q → NextFlag (flags p) stays (flags q))
    (bs : List Bool) (lines : List Line) (p q : P) → length bs ≡ length lines → length (flags p) ≡ length lines
    → ReturnsInTurn R p bs lines q → items_where_true bs lines ≡ untaken lines (flags p)
left_in_turn R flags says [] [] p q size long turns = refl
left_in_turn R flags says [] (x ∷ lines) p q size long turns = absurd (omega arith)
left_in_turn R flags says (b ∷ bs) [] p q size long turns = absurd (omega arith)
left_in_turn R flags says (b ∷ bs) (x ∷ lines) p q size long turns =
    one_more x b lines bs (flags p) (flags turns.0) (omega arith) (says p x b turns.0 turns.1)
    (λ long. left_in_turn R flags says bs lines turns.0 q (omega arith) long turns.2)
