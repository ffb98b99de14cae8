-- Valid input is answered as asked.
use Rattle.std.proofs.Common.{◌≡◌, ℕ, inl, inr, List, refl}
use Rattle.cm_base.specs.declared.status.Status.{Status}
use Rattle.cm_base.specs.declared.status.Status.TheVariants as status
use Rattle.model_cred.specs.Process.{State}
use Rattle.model_cred.specs.World.{World}
use Rattle.model_report.specs.Causes.{Cause, IsAnsweredNo, IsLeftOpen, IsRefused}
use Rattle.model_report.specs.Command.{Command, Replay, Audit, Check, Confirm, Drill, NoForm, command_of, task_of}
use Rattle.model_report.specs.Report.{report}
use Rattle.model_report_laws.proofs.Statuses.{has_its_cause}
use Rattle.model_report_laws.specs.Laws.{IsAsAsked, IsValid, ValidIsAnswered}

module _ (words : List (List ℕ)) (bytes : List ℕ → List ℕ) where
  -- an accepted command has a form
  accepted_form : (command : Command) → command_of words ≡ command → (¬ Cause words bytes status.Usage) → IsAsAsked command status.Accepted
  accepted_form (Replay world log) is form = refl
  accepted_form (Drill n) is form = refl
  accepted_form NoForm is form = absurd (form is)
  accepted_form _ is form = inl refl

  no_form : (command : Command) → (w : World) (s : State) → IsAnsweredNo (task_of command bytes) w s → IsAsAsked command status.No
  no_form (Audit world log pid right) w s is = inr (inl refl)
  no_form _ w s is = absurd is

  open_form : (command : Command) → (w : World) (s : State) → IsLeftOpen (task_of command bytes) w s → IsAsAsked command status.Undecided
  open_form (Audit world log pid right) w s is = inr (inr refl)
  open_form _ w s is = absurd is

  refused_form : (command : Command) → (w : World) (s : State) → IsRefused (task_of command bytes) w s → IsAsAsked command status.Refused
  refused_form (Check world log pid right text) w s is = inr refl
  refused_form (Confirm world log pid right text) w s is = inr refl
  refused_form _ w s is = absurd is

  as_asked : (st : Status) → IsValid words bytes → Cause words bytes st → IsAsAsked (command_of words) st
  as_asked status.Accepted valid cause = accepted_form (command_of words) refl valid.usage
  as_asked status.No valid (is, h) = no_form (command_of words) is.world is.state h
  as_asked status.Undecided valid (is, h) = open_form (command_of words) is.world is.state h
  as_asked status.Refused valid (is, h) = refused_form (command_of words) is.world is.state h
  as_asked status.Impossible valid cause = absurd (valid.impossible cause)
  as_asked status.BadWorld valid cause = absurd (valid.bad_world cause)
  as_asked status.BadLog valid cause = absurd (valid.bad_log cause)
  as_asked status.Usage valid cause = absurd (valid.usage cause)
  as_asked status.Limit valid cause = absurd (valid.limit cause)
  as_asked status.BadQuery valid cause = absurd (valid.bad_query cause)
  as_asked _ valid never = absurd never

pub valid_is_answered : ValidIsAnswered
unfolding ValidIsAnswered
valid_is_answered words bytes j gives valid = as_asked words bytes (report words bytes j).status valid (has_its_cause words bytes j gives)
