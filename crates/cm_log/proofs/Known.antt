-- How many user namespaces a log knows of.
use Rattle.std.proofs.Common.{◌≡◌, ◌≤◌, ℕ, ◌+◌, refl, arith}
use Rattle.cm_base.specs.Limited.{limit_number}
use Rattle.cm_base.specs.declared.limited.Limited.TheVariants as limit
use Rattle.cm_log.specs.Counts.{KnowsWithin, spaces_in}
use Rattle.cm_log.specs.declared.log.Log.{Log}
use Rattle.cm_log.specs.declared.log.Log.TheVariants.{Script, Strace}
use Rattle.model_strace.specs.Counts.{held_count, spaces_counted, spaces_known}
use Rattle.model_strace.specs.Rest.{Session, Going, Stopped, Finished}

-- it knows of no more than more
pub knows_more : (n m : ℕ) (log : Log) → n ≤ m → KnowsWithin n log → KnowsWithin m log
knows_more n m (Script log) up within = tt
knows_more n m (Strace log) up within =
    let known : spaces_known log.tracer ≤ n = within.spaces in
    record { spaces = omega (arith, known, up); held = within.held }

-- a session counts those that it knows of and the lines that it holds
counted : (session : Session) → spaces_counted session ≡ spaces_known session + held_count session
counted (Going t) = refl
counted (Stopped count stop) = refl
counted (Finished count) = refl

-- So many are known, and so many lines may be held.
pub spaces_few : (n : ℕ) (log : Log) → KnowsWithin n log → spaces_in log ≤ n + limit_number limit.Held
spaces_few n (Script log) within = omega arith
spaces_few n (Strace log) within =
    let known : spaces_known log.tracer ≤ n = within.spaces in
    let held : held_count log.tracer ≤ limit_number limit.Held = within.held in
    let all : spaces_counted log.tracer ≡ spaces_known log.tracer + held_count log.tracer = counted log.tracer in
    omega (arith, known, held, all)
