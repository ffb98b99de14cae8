-- The world of a command, and then its log and a third file: which counts of faults rose, and what was read.
use Rattle.std.proofs.Common.{◌≡◌, ◌≢◌, ◌≤◌, ◌<◌, ◌∙◌, ℕ, Bool, List, [], ◌∷◌, Option, Ok, arith}
use Rattle.std.proofs.Common.{inl, inr, le_of_eq, refl, subst, sym}
use Rattle.std.specs.Prelude.{IfSome}
use Rattle.std.proofs.lemmas.Option.{IfSome_then}
use Rattle.cm_base.specs.declared.limited.Limited.{Limited}
use Rattle.cm_base.specs.declared.limited.Limited.TheVariants as limit
use Rattle.cm_base.specs.declared.status.Status.{Status}
use Rattle.cm_base.specs.declared.status.Status.TheVariants as answers
use Rattle.cm_cli.proofs.FileReads.{reads_more, reads_then, rose_later, rose_since, takes_more, takes_then}
use Rattle.cm_cli.proofs.FileReads.{unread_apart}
use Rattle.cm_cli.proofs.Replaying.{asking_names, claiming_query}
use Rattle.cm_cli.specs.Answers.{CountsReads, FailsInOrder, at_world, at_log, at_third}
use Rattle.cm_cli.specs.Files.{BothApart}
use Rattle.cm_cli.specs.LogReading.{LogFails, ThirdStaysUnread}
use Rattle.cm_cli.specs.Query.{file_of, limit_of, query_view}
use Rattle.cm_cli.specs.Reading.{AnyRose, ApartFor, FilesFaults, IsWorldRead, LogRefused, LogWaits}
use Rattle.cm_cli.specs.Reading.{ReadsFor, ReadsInOrder, TakesFor, ThirdWaits}
use Rattle.cm_cli.specs.Words.{asking, claiming}
use Rattle.cm_cli.specs.declared.query.Claim.{Claim}
use Rattle.cm_cli.specs.declared.query.ClaimKind.{ClaimKind}
use Rattle.cm_cli.specs.declared.query.ClaimKind.TheVariants as kind
use Rattle.cm_cli.specs.declared.query.Task.{Task}
use Rattle.cm_cli.specs.declared.query.Task.TheVariants as task
use Rattle.cm_declared.specs.World.{world_of}
use Rattle.cm_declared.specs.declared.world.World as code
use Rattle.cm_io.specs.Shelf.{CountsApart, Files, Rose, bytes_at}
use Rattle.cm_replay.proofs.Held.{always, if_both}
use Rattle.model_report.specs.Command.{files_of}
use Rattle.model_report.specs.Query.{Query}

-- ---- what is read of the files
asked : (t : Task) (world log : List ℕ) (Holds : List (List ℕ × Limited) → Type 0)
    → Holds ((world, limit.World) ∷ (log, limit.Log) ∷ file_of t) → Holds (files_of (asking t world log))
asked t world log Holds is = subst Holds (sym (asking_names t world log)) is

-- the world alone
pub world_taken : (t : Task) (world log : List ℕ) (taken taken' : List ℕ → ℕ)
    → TakesFor ((world, limit.World) ∷ []) taken taken' → TakesFor (files_of (asking t world log)) taken taken'
world_taken t world log taken taken' takes =
    asked t world log (λ files. TakesFor files taken taken')
    (takes_more ((world, limit.World) ∷ []) ((log, limit.Log) ∷ file_of t) taken taken' takes)

pub world_reads : (t : Task) (world log : List ℕ) (reads reads' taken taken' : List ℕ → ℕ)
    → ReadsFor ((world, limit.World) ∷ []) reads reads' taken taken'
    → ReadsFor (files_of (asking t world log)) reads reads' taken taken'
world_reads t world log reads reads' taken taken' gives =
    asked t world log (λ files. ReadsFor files reads reads' taken taken')
    (reads_more ((world, limit.World) ∷ []) ((log, limit.Log) ∷ file_of t) reads reads' taken taken' gives)

-- the world, and then the others
pub all_taken : (t : Task) (world log : List ℕ) (taken taken' taken'' : List ℕ → ℕ)
    → TakesFor ((world, limit.World) ∷ []) taken taken' → TakesFor ((log, limit.Log) ∷ file_of t) taken' taken''
    → TakesFor (files_of (asking t world log)) taken taken''
all_taken t world log taken taken' taken'' first second =
    asked t world log (λ files. TakesFor files taken taken'')
    (takes_then ((world, limit.World) ∷ []) ((log, limit.Log) ∷ file_of t) taken taken' taken'' first second)

pub all_reads : (t : Task) (world log : List ℕ) (reads reads' reads'' taken taken' taken'' : List ℕ → ℕ)
    → ReadsFor ((world, limit.World) ∷ []) reads reads' taken taken'
    → ReadsFor ((log, limit.Log) ∷ file_of t) reads' reads'' taken' taken''
    → ReadsFor (files_of (asking t world log)) reads reads'' taken taken''
all_reads t world log reads reads' reads'' taken taken' taken'' first second =
    asked t world log (λ files. ReadsFor files reads reads'' taken taken'')
    (reads_then ((world, limit.World) ∷ []) ((log, limit.Log) ∷ file_of t) reads reads' reads'' taken taken' taken''
    first second)

-- ---- faults
-- a read of the world failed
pub world_fault : (held : Option Files) (t : Task) (world log : List ℕ) (before now : List ℕ → ℕ)
    → Rose (before world) (now world) → ((n : List ℕ) → before n ≤ now n)
    → CountsReads held (asking t world log) answers.ReadFault before now
world_fault held t world log before now rose later = record {
  fault = λ _. asked t world log (λ files. AnyRose files before now) (inl rose);
  order = always held (λ files _. at_world world ((log, limit.Log) ∷ file_of t) (asking_names t world log) rose);
  later = later;
  stay = λ other. absurd (other refl);
}

-- no read failed
pub no_read_fault : (held : Option Files) (t : Task) (world log : List ℕ) (answer : Status) (before now : List ℕ → ℕ)
    → answer ≢ answers.ReadFault → ((n : List ℕ) → now n ≡ before n)
    → CountsReads held (asking t world log) answer before now
no_read_fault held t world log answer before now other same = record {
  fault = λ is. absurd (other is);
  order = always held (λ files is. absurd (other is));
  later = λ n. le_of_eq (sym (same n));
  stay = λ _. same;
}

-- The world was read without a fault, and then the report was told, by which the log and a third file may be read.
module _ (held : Option Files) (world log : List ℕ) (w : code.World)
    (stands : IfSome held (λ files. IsWorldRead (Ok w) (bytes_at files world)))
    (faults faults' faults'' : List ℕ → ℕ) (same : (n : List ℕ) → faults' n ≡ faults n) where
  -- the log or a third file failed, in the order of their reads
  fails : (files : Files) (t : Task) → IsWorldRead (Ok w) (bytes_at files world)
      → LogFails t (world_of w) log (bytes_at files log) faults' faults''
      → FailsInOrder (asking t world log) files faults faults''
  fails files t read (inl rose) =
      at_log world log (file_of t) (asking_names t world log) (world_of w, read)
      (rose_since faults faults' faults'' log (same log) rose)
  fails files task.Nothing read (inr (after, rose)) = absurd after.holds
  fails files (task.Judge q) read (inr (after, rose)) = absurd after.holds
  fails files (task.Claims claim) read (inr (after, rose)) =
      at_third world log claim.file.now (limit_of claim.kind) (query_view claim.query)
      (asking_names (task.Claims claim) world log) (claiming_query claim.kind claim world log)
      (record { w = world_of w; reads = read; after = after })
      (elim rose [
        | inl third ↦ rose_since faults faults' faults'' claim.file.now (same claim.file.now) third
        | inr never ↦ absurd never
      ])

  pub told_faults : (answer : Status) (t : Task)
      → FilesFaults faults' faults'' ((log, limit.Log) ∷ file_of t) (answer ≡ answers.ReadFault)
      → IfSome held (λ files. answer ≡ answers.ReadFault
      → LogFails t (world_of w) log (bytes_at files log) faults' faults'')
      → CountsReads held (asking t world log) answer faults faults''
  told_faults answer t second order = record {
    fault = λ is.
        asked t world log (λ files. AnyRose files faults faults'')
        (rose_later ((world, limit.World) ∷ []) ((log, limit.Log) ∷ file_of t) faults faults' faults'' same
        (second.fault is));
    order = if_both held stands order (λ files read failed is. fails files t read (failed is));
    later = λ n. let a = second.later n in let b = same n in omega (arith, a, b);
    stay = λ other n. second.others other n ∙ same n;
  }

  -- ---- the order of reads
  module _ (counted : List ℕ → Bool) (reads reads' reads'' taken taken' : List ℕ → ℕ)
      (first : ReadsFor ((world, limit.World) ∷ []) reads reads' taken taken') where
    -- a name other than the world's wasn't read before
    unread : (n : List ℕ) → world ≢ n → reads' n ≡ reads n
    unread n other = first.others n (λ is. elim is [
      | inl it ↦ other (sym it)
      | inr never ↦ absurd never
    ])

    risen : (n : List ℕ) → faults n < faults'' n → faults' n < faults'' n
    risen n rose = let was = same n in omega (arith, was, rose)

    log_refused : LogRefused held world log reads reads''
    log_refused = IfSome_then held stands (λ files read none. absurd (none (world_of w, read)))

    third_in_order : (claim : Claim) → BothApart counted faults' faults'' reads' reads'' log claim.file.now
        → IfSome held (λ files. ThirdStaysUnread (task.Claims claim) (world_of w) log (bytes_at files log) reads' reads'')
        → world ≢ claim.file.now → log ≢ claim.file.now
        → ThirdWaits held (query_view claim.query) world log claim.file.now faults faults'' reads reads''
    third_in_order claim apart waits not_world not_log =
        let before : reads' claim.file.now ≡ reads claim.file.now = unread claim.file.now not_world in
        let not_it : claim.file.now ≢ log = λ is. not_log (sym is) in
        record {
          no_world = λ rose. apart.file_unread not_it world not_world (risen world rose) ∙ before;
          no_log = λ rose. apart.file_unread not_it log not_log (risen log rose) ∙ before;
          refused = if_both held stands waits (λ files read third none.
              third (λ after. none (record { w = world_of w; reads = read; after = after })) claim.file.now not_it
              ∙ before);
        }

    claim_waits : (k : ClaimKind) (claim : Claim) → claim.kind ≡ k
        → BothApart counted faults' faults'' reads' reads'' log claim.file.now
        → IfSome held (λ files. ThirdStaysUnread (task.Claims claim) (world_of w) log (bytes_at files log) reads' reads'')
        → ReadsInOrder held counted (claiming k claim.query world log claim.file.now) faults faults'' reads reads''
    claim_waits kind.Certificate claim is apart waits = (
      λ _. log_refused,
      λ not_log not_third counts rose.
          apart.log_unread counts world not_log not_third (risen world rose) ∙ unread log not_log,
      third_in_order claim apart waits,
    )
    claim_waits kind.Run claim is apart waits = (
      λ _. log_refused,
      λ not_log not_third counts rose.
          apart.log_unread counts world not_log not_third (risen world rose) ∙ unread log not_log,
      third_in_order claim apart waits,
    )

    -- with no third file
    log_in_order : CountsApart counted faults' faults'' reads' reads'' log → world ≢ log
        → LogWaits held world log faults faults'' reads reads''
    log_in_order apart other = record {
      unread = λ rose.
          unread_apart counted faults' faults'' reads' reads'' log world apart other (risen world rose)
          ∙ unread log other;
      refused = log_refused;
    }

    pub told_waits : (t : Task) → ApartFor ((log, limit.Log) ∷ file_of t) counted faults' faults'' reads' reads''
        → IfSome held (λ files. ThirdStaysUnread t (world_of w) log (bytes_at files log) reads' reads'')
        → ReadsInOrder held counted (asking t world log) faults faults'' reads reads''
    told_waits task.Nothing apart waits = λ other. log_in_order apart other
    told_waits (task.Judge q) apart waits = λ other. log_in_order apart other
    told_waits (task.Claims claim) apart waits = claim_waits claim.kind claim refl apart waits

-- ---- where the world alone was read
module _ (held : Option Files) (counted : List ℕ → Bool) (world log : List ℕ)
    (faults faults' reads reads' taken taken' : List ℕ → ℕ)
    (first : ReadsFor ((world, limit.World) ∷ []) reads reads' taken taken') where
  still : (n : List ℕ) → world ≢ n → reads' n ≡ reads n
  still n other = first.others n (λ is. elim is [
    | inl it ↦ other (sym it)
    | inr never ↦ absurd never
  ])

  log_still : world ≢ log → LogWaits held world log faults faults' reads reads'
  log_still other = record { unread = λ _. still log other; refused = always held (λ files _. still log other) }

  third_still : (q : Query) (third : List ℕ) → world ≢ third
      → ThirdWaits held q world log third faults faults' reads reads'
  third_still q third other = record {
    no_world = λ _. still third other;
    no_log = λ _. still third other;
    refused = always held (λ files _. still third other);
  }

  claim_still : (k : ClaimKind) (claim : Claim)
      → ReadsInOrder held counted (claiming k claim.query world log claim.file.now) faults faults' reads reads'
  claim_still kind.Certificate claim = (
    λ other. (log_still other).refused,
    λ other _ _. (log_still other).unread,
    λ other _. third_still (query_view claim.query) claim.file.now other,
  )
  claim_still kind.Run claim = (
    λ other. (log_still other).refused,
    λ other _ _. (log_still other).unread,
    λ other _. third_still (query_view claim.query) claim.file.now other,
  )

  pub world_waits : (t : Task) → ReadsInOrder held counted (asking t world log) faults faults' reads reads'
  world_waits task.Nothing = log_still
  world_waits (task.Judge q) = log_still
  world_waits (task.Claims claim) = claim_still claim.kind claim
