-- What is answered where the report of a log isn't told to its end, and what is written of it.
use Rattle.std.proofs.Common.{◌≡◌, ◌≢◌, ℕ, List, [], Option, refl, sym, ap, ◌∙◌, append-nil, arith, le_of_eq}
use Rattle.std.proofs.Common.{Result, Err}
use Rattle.cm_base.specs.declared.status.Status.{Status}
use Rattle.cm_base.specs.declared.status.Status.TheVariants as answers
use Rattle.cm_cli.specs.LogReport.{TellsLog}
use Rattle.cm_io.specs.Sink.{WriteFaults, then_written}
use Rattle.cm_io.specs.declared.outside.Outside.{Outside}
use Rattle.cm_io.specs.declared.outside.Outside.TheVariants as outside
use Rattle.cm_replay.proofs.Stopping.{stops_at}
use Rattle.cm_replay.specs.Untold.{UntoldFaults, status_by}
use Rattle.cm_replay.specs.declared.untold.Untold.{Untold}
use Rattle.cm_replay.specs.declared.untold.Untold.TheVariants as untold
use Rattle.cm_report.specs.Sent.{IsFront, IsSent}
use Rattle.cm_report.specs.Telling.{CountsWrites, IsOfReport, stopped_by}
use Rattle.model_report.specs.Replay.{Report, text_of}

-- ---- the answer
-- the answer where a report isn't told, and where the sink failed at its end
pub untold_counts : {T : Type 0} (why : Untold) (before now : ℕ) → UntoldFaults {T = T} before now (Err why)
    → CountsWrites (status_by why) before now
untold_counts untold.ReadFault before now cause = record {
  fault = λ is. absurd (cc);
  later = cause.later;
  stay = λ _. cause.others (λ is. cc);
}
untold_counts untold.WriteFault before now cause = record {
  fault = λ _. cause.failed refl;
  later = cause.later;
  stay = λ other. absurd (other refl);
}
untold_counts untold.NoMemory before now cause = record {
  fault = λ is. absurd (cc);
  later = cause.later;
  stay = λ _. cause.others (λ is. cc);
}

pub untold_none : (why : Untold) → IsOfReport (status_by why) → ⊥
untold_none untold.ReadFault is = is.not_read_fault refl
untold_none untold.WriteFault is = is.not_write_fault refl
untold_none untold.NoMemory is = is.not_memory refl

pub untold_not_usage : (why : Untold) → status_by why ≢ answers.Usage
untold_not_usage untold.ReadFault is = cc
untold_not_usage untold.WriteFault is = cc
untold_not_usage untold.NoMemory is = cc

pub untold_read : {T : Type 0} (why : Untold) (r : Result T Untold) → r ≡ Err why → status_by why ≡ answers.ReadFault
    → r ≡ Err untold.ReadFault
untold_read untold.ReadFault r same is = same
untold_read untold.WriteFault r same is = absurd (cc)
untold_read untold.NoMemory r same is = absurd (cc)

pub read_untold : {T : Type 0} (why : Untold) (r : Result T Untold) → r ≡ Err why → r ≡ Err untold.ReadFault
    → status_by why ≡ answers.ReadFault
read_untold untold.ReadFault r same is = refl
read_untold untold.WriteFault r same is = let two = sym same ∙ is in absurd (cc)
read_untold untold.NoMemory r same is = let two = sym same ∙ is in absurd (cc)

pub stopped_none : (why : Outside) → IsOfReport (stopped_by why) → ⊥
stopped_none outside.Failed is = is.not_write_fault refl
stopped_none outside.NoMemory is = is.not_memory refl

pub stopped_not_usage : (why : Outside) → stopped_by why ≢ answers.Usage
stopped_not_usage outside.Failed is = cc
stopped_not_usage outside.NoMemory is = cc

pub stopped_no_read : (why : Outside) → stopped_by why ≢ answers.ReadFault
stopped_no_read outside.Failed is = cc
stopped_no_read outside.NoMemory is = cc

pub stopped_counts : {T : Type 0} (why : Outside) (before mid now : ℕ) → mid ≡ before
    → WriteFaults {T = T} mid now (Err why)
    → CountsWrites (stopped_by why) before now
stopped_counts outside.Failed before mid now same cause =
    untold_counts {T = Unit {0}} untold.WriteFault before now (stops_at outside.Failed before mid now same cause)
stopped_counts outside.NoMemory before mid now same cause =
    untold_counts {T = Unit {0}} untold.NoMemory before now (stops_at outside.NoMemory before mid now same cause)

pub wrote_counts : (answer : Status) (before now : ℕ) → IsOfReport answer → now ≡ before
    → CountsWrites answer before now
wrote_counts answer before now told same = record {
  fault = λ is. absurd (told.not_write_fault is);
  later = le_of_eq (sym same);
  stay = λ _. same;
}

-- ---- what is told
-- a report that stopped: a front of it is written
pub front_told : (r : Report) (answer : Status) (w w' : Option (List ℕ)) → (IsOfReport answer → ⊥)
    → IsFront w w' (text_of r.lines)
    → TellsLog r answer w w'
front_told r answer w w' none front = record {
  status = λ is. absurd (none is);
  text = record { whole = λ is. absurd (none is); front = front };
}

-- one that is told whole
pub whole_told : (r : Report) (answer : Status) (w w' : Option (List ℕ)) → r.status ≡ answer
    → IsSent w w' [] (text_of r.lines)
    → TellsLog r answer w w'
whole_told r answer w w' is sent = record {
  status = λ _. sym is;
  text = record {
    whole = λ _. sent.written ∙ ap (then_written w) (sym (append-nil sent.front) ∙ sym sent.parts);
    front = ([], sent);
  };
}

-- nothing was written, and that wasn't the sink's fault
pub wrote_none : (answer : Status) (faults : ℕ) → answer ≢ answers.WriteFault → CountsWrites answer faults faults
wrote_none answer faults other = record { fault = λ is. absurd (other is); later = omega arith; stay = λ _. refl }
