-- The text of a row by its number, and of the line of what is blamed.
use Rattle.std.proofs.Common.{◌≡◌, ℕ, ◌<◌, ◌≤◌, ◌/◌, ◌%◌, nat_eq, Bool, true, false, cond, length, List, ◌∷◌, [], ◌++◌}
use Rattle.std.proofs.Common.{Option, Some, None, refl, sym, ap, ◌∙◌, arith}
use Rattle.std.specs.Prelude.{codes}
use Rattle.cm_box.specs.declared.rules.Rule.{Rule}
use Rattle.cm_maker.specs.Sweeping.{blame_told}
use Rattle.cm_cli.specs.Checking.{not_closed_report}
use Rattle.cm_report.proofs.ReportText.{joined_four, text_of_one}
use Rattle.model_box.proofs.Numbers.{under_half}
use Rattle.model_box.specs.Row.{Row, Standing, Fresh, row_at, space_under}
use Rattle.model_box.specs.Rule.{Rule as ClosureRule}
use Rattle.model_box.specs.RuleNames.{rule_name}
use Rattle.model_cred.specs.Space.{Spaces, stands}
use Rattle.model_report.specs.Answer.{row_text, row_token, blamed_rule, blamed_row, undecided_text}
use Rattle.model_report.specs.Replay.{Plain, text_of}
use Rattle.model_text.specs.SpaceToken.{space_token}

-- ---- one row

text_by : (names : List (List ℕ)) (spaces : Spaces) (row : Row) (b : Bool) → stands spaces (space_under row) ≡ b
    → row_text names spaces (Some row) ≡ cond b (row_token names row) (codes "document")
text_by names spaces row b is = ap (λ (c : Bool). cond c (row_token names row) (codes "document")) is

low : (spaces : Spaces) (n : ℕ) → n < length spaces → stands spaces n ≡ true
low spaces n is = grind (arith, is)

past : (spaces : Spaces) (n : ℕ) → length spaces ≤ n → stands spaces n ≡ false
past spaces n is = grind (arith, is)

pub text_past : (names : List (List ℕ)) (spaces : Spaces) (row : ℕ) → length spaces ≤ row / 2
    → row_text names spaces (Some (row_at row)) ≡ codes "document"
text_past names spaces row over =
    text_by names spaces (row_at row) false (ap (λ (n : ℕ). stands spaces n) (under_half row) ∙ past spaces (row / 2) over)

pub text_standing : (names : List (List ℕ)) (spaces : Spaces) (row : ℕ) → row / 2 < length spaces
    → nat_eq (row % 2) 0 ≡ true
    → row_text names spaces (Some (row_at row)) ≡ space_token names (row / 2)
text_standing names spaces row is even =
    ap (λ (b : Bool). row_text names spaces (Some (cond b (Standing (row / 2)) (Fresh (row / 2))))) even
    ∙ text_by names spaces (Standing (row / 2)) true (low spaces (row / 2) is)

pub text_fresh : (names : List (List ℕ)) (spaces : Spaces) (row : ℕ) → row / 2 < length spaces
    → nat_eq (row % 2) 0 ≡ false
    → row_text names spaces (Some (row_at row)) ≡ codes "fresh(" ++ space_token names (row / 2) ++ codes ")"
text_fresh names spaces row is odd =
    ap (λ (b : Bool). row_text names spaces (Some (cond b (Standing (row / 2)) (Fresh (row / 2))))) odd
    ∙ text_by names spaces (Fresh (row / 2)) true (low spaces (row / 2) is)

-- ---- what is blamed
told_row : (rule : Option Rule) (row : ℕ) → blamed_row (blame_told rule row) ≡ row_at row
told_row None row = refl
told_row (Some x) row = refl

-- the line, piece by piece
pub undecided_pieces : (names : List (List ℕ)) (spaces : Spaces) (rule : Option Rule) (row : ℕ)
    (old one two three four : List ℕ)
    → one ≡ old ++ codes "undecided " → two ≡ one ++ blamed_rule (blame_told rule row) → three ≡ two ++ codes " "
    → four ≡ three ++ row_text names spaces (Some (row_at row))
    → four ++ codes "\n" ≡ old ++ (undecided_text names spaces (blame_told rule row) ++ 10 ∷ [])
undecided_pieces names spaces rule row old one two three four a b c d =
    joined_four old one two three four (codes "undecided ") (blamed_rule (blame_told rule row)) (codes " ")
    (row_text names spaces (Some (blamed_row (blame_told rule row)))) (codes "\n") a b c
    (d ∙ ap (λ (r : Row). three ++ row_text names spaces (Some r)) (sym (told_row rule row)))

-- ---- what isn't closed
pub not_closed_pieces : (names : List (List ℕ)) (spaces : Spaces) (rule : ClosureRule) (row : Row)
    (old one two three four new : List ℕ)
    → one ≡ old ++ codes "refused not-closed " → two ≡ one ++ rule_name rule → three ≡ two ++ codes " "
    → four ≡ three ++ row_text names spaces (Some row) → new ≡ four ++ codes "\n"
    → new ≡ old ++ text_of (not_closed_report names spaces rule row).lines
not_closed_pieces names spaces rule row old one two three four new a b c d e =
    let why : List ℕ = codes "not-closed " ++ rule_name rule ++ codes " " ++ row_text names spaces (Some row) in
    e
    ∙ joined_four old one two three four (codes "refused not-closed ") (rule_name rule) (codes " ")
    (row_text names spaces (Some row)) (codes "\n") a b c d
    ∙ ap (λ (t : List ℕ). old ++ t) (sym (text_of_one (Plain (codes "refused " ++ why))))
