-- Worked cases of command lines, by computation.
use Rattle.std.proofs.Common.{◌≡◌, [], ◌∷◌}
use Rattle.std.specs.Prelude.{codes}
use Rattle.model_report.specs.Command.{Replay, Audit, Check, Confirm, Drill, NoForm, command_of}

pub commands : record {
  replay_of_a_log : command_of (codes "replay" ∷ codes "w" ∷ codes "l" ∷ []) ≡ Replay (codes "w") (codes "l");
  replay_needs_a_log : command_of (codes "replay" ∷ codes "w" ∷ []) ≡ NoForm;
  replay_of_three_words : command_of (codes "replay" ∷ codes "w" ∷ codes "l" ∷ codes "x" ∷ []) ≡ NoForm;
  audit_of_four_words : command_of (codes "audit" ∷ codes "w" ∷ codes "l" ∷ codes "100" ∷ codes "r" ∷ [])
      ≡ Audit (codes "w") (codes "l") (codes "100") (codes "r");
  audit_of_three_words : command_of (codes "audit" ∷ codes "w" ∷ codes "l" ∷ codes "100" ∷ []) ≡ NoForm;
  check_of_five_words : command_of (codes "check" ∷ codes "w" ∷ codes "l" ∷ codes "100" ∷ codes "r" ∷ codes "c" ∷ [])
      ≡ Check (codes "w") (codes "l") (codes "100") (codes "r") (codes "c");
  check_needs_a_certificate : command_of (codes "check" ∷ codes "w" ∷ codes "l" ∷ codes "100" ∷ codes "r" ∷ [])
      ≡ NoForm;
  confirm_of_five_words : command_of
      (codes "confirm" ∷ codes "w" ∷ codes "l" ∷ codes "100" ∷ codes "r" ∷ codes "p" ∷ [])
      ≡ Confirm (codes "w") (codes "l") (codes "100") (codes "r") (codes "p");
  confirm_needs_a_run : command_of (codes "confirm" ∷ codes "w" ∷ codes "l" ∷ codes "100" ∷ codes "r" ∷ []) ≡ NoForm;
  drill_of_the_most_events : command_of (codes "drill" ∷ codes "100000" ∷ []) ≡ Drill 100000;
  drill_too_large : command_of (codes "drill" ∷ codes "100001" ∷ []) ≡ NoForm;
  drill_with_leading_zero : command_of (codes "drill" ∷ codes "0100" ∷ []) ≡ Drill 100;
  drill_of_no_number : command_of (codes "drill" ∷ codes "x" ∷ []) ≡ NoForm;
  no_words : command_of [] ≡ NoForm;
  help_is_no_form : command_of (codes "--help" ∷ []) ≡ NoForm;
}
commands = search
