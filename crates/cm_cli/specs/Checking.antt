-- What bounds are found to be, in the words of the definitions.
use Rattle.std.specs.Prelude.{ℕ, codes, List, ◌++◌, Some}
use Rattle.cm_box.specs.Rules.{rule_of}
use Rattle.cm_sound.specs.declared.checked.Checked.{Checked}
use Rattle.cm_sound.specs.declared.checked.Checked.TheVariants as code
use Rattle.model_box.specs.Row.{Row, row_at}
use Rattle.model_box.specs.Rule.{Rule}
use Rattle.model_box.specs.RuleNames.{rule_name}
use Rattle.model_cred.specs.Space.{Spaces}
use Rattle.model_report.specs.Answer.{refused, row_text}
use Rattle.model_report.specs.Checked as model
use Rattle.model_report.specs.Replay.{Report}

-- what bounds are found to be
abbrev pub checked_of : Checked → model.Checked
checked_of (code.NotStart row) = model.NotStart (row_at row)
checked_of (code.NotClosed rule row) = model.NotClosed (record { rule = rule_of rule; row = row_at row })
checked_of (code.Meets row) = model.MeetsRight (row_at row)
checked_of code.Holds = model.Holds

-- the report of rows that aren't closed by the rule at the row
abbrev pub not_closed_report : List (List ℕ) → Spaces → Rule → Row → Report
not_closed_report names spaces rule row =
    refused (codes "not-closed " ++ rule_name rule ++ codes " " ++ row_text names spaces (Some row))
