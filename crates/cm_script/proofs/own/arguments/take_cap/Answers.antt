use Rattle.std.proofs.Common.{ℕ, List, ◌++◌, sym, ap, ◌∙◌, arith}
use Rattle.cm_script.proofs.CapNumbers.{unnamed}
use Rattle.cm_script.proofs.OwnWords.{cap_named}
use Rattle.cm_script.proofs.own.arguments.take_cap.Goals as goal

pub returns-in-Some : goal.returns-in-Some
returns-in-Some c =
    c.in-Some.ensures
    ∙ ap (λ (t : List ℕ). t ++ c.in-Some.rest.now) (sym (unnamed c.in-Some.number (λ low. omega (arith, low, c.if-number.false))))

pub returns-in-Some-from_name : goal.returns-in-Some-from_name
returns-in-Some-from_name c =
    rw c.number.ensures.value
    (c.in_ok-name.ensures.text
    ∙ ap (λ (t : List ℕ). t ++ c.in_ok-name.rest.now) (sym (cap_named _ _ (sym c.in-Some-from_name.ensures))))
