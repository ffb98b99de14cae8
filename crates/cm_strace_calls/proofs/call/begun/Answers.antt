use Rattle.std.proofs.Common.{rules, refl, tests}
use Rattle.cm_strace_calls.proofs.call.begun.Goals as goal
use Rattle.cm_strace_calls.proofs.call.begun.Goals.{in_default-via-in-99+in_default, in_default-via-in-100+in_default}
use Rattle.cm_strace_calls.proofs.call.begun.Goals.{in_default-via-in-101+in_default, in_default-via-in-102+in_default}
use Rattle.cm_strace_calls.proofs.call.begun.Goals.{in_default-via-in-111+in_default, in_default-via-in-112+in_default}
use Rattle.cm_strace_calls.proofs.call.begun.Goals.{in_default-via-in-115+in_default, in_default-via-in-117+in_default}
use Rattle.cm_strace_calls.proofs.call.begun.Goals.{in_default-via-in-118+in_default, in_default-via-in-119+in_default}
use Rattle.cm_strace_calls.proofs.call.begun.Goals.{in_default-via-in_default}

pub returns-in-115-eq101-clause-same : goal.returns-in-115-eq101-clause-same
returns-in-115-eq101-clause-same c = λ name. rw (c.in-115-eq101.is-0, c.in-115-eq101.is-1) refl

pub returns-in_default-clause-same : goal.returns-in_default-clause-same
returns-in_default-clause-same c = λ name.
    elim c.in_default.branch [
      | in_default-via-in-99+in_default w ↦ search (tests, rules, w.in_default)
      | in_default-via-in-100+in_default w ↦ search (tests, rules, w.in_default)
      | in_default-via-in-101+in_default w ↦ search (tests, rules, w.in_default)
      | in_default-via-in-102+in_default w ↦ search (tests, rules, w.in_default)
      | in_default-via-in-111+in_default w ↦ search (tests, rules, w.in_default)
      | in_default-via-in-112+in_default w ↦ search (tests, rules, w.in_default)
      | in_default-via-in-115+in_default w ↦ search (tests, rules, w.in_default)
      | in_default-via-in-117+in_default w ↦ search (tests, rules, w.in_default)
      | in_default-via-in-118+in_default w ↦ search (tests, rules, w.in_default)
      | in_default-via-in-119+in_default w ↦ search (tests, rules, w.in_default)
      | in_default-via-in_default w ↦ search (tests, rules, w.in_default)
    ]
