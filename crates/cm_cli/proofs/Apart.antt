-- The counts of a log, alone and before a third file.
use Rattle.std.proofs.Common.{◌≡◌, ◌∙◌, ℕ, Bool, IsTrue, List, [], ◌∷◌, arith, not, subst, sym}
use Rattle.cm_base.specs.declared.limited.Limited.{Limited}
use Rattle.cm_base.specs.declared.limited.Limited.TheVariants as limit
use Rattle.cm_cli.proofs.FileReads.{faults_more, faults_one, faults_then, reads_more, reads_one, reads_then, takes_more, takes_one}
use Rattle.cm_cli.proofs.FileReads.{takes_then, unread_apart}
use Rattle.cm_cli.specs.Files.{ApartFor, FilesFaults, ReadsFiles, ReadsFor, one_past}
use Rattle.cm_cli.specs.Query.{file_of}
use Rattle.cm_cli.specs.declared.query.Task.{Task}
use Rattle.cm_cli.specs.declared.query.Task.TheVariants as task
use Rattle.cm_io.proofs.ReadCounts.{pieces_then}
use Rattle.cm_io.specs.Account.{Account, ReadsFile}
use Rattle.cm_io.specs.Shelf.{CountsApart, OthersStay}

-- the same names are counted
pub counts_as : (counted counted' : List ℕ → Bool) (faults faults' reads reads' : List ℕ → ℕ) (name : List ℕ)
    → ((n : List ℕ) → counted' n ≡ counted n) → CountsApart counted' faults faults' reads reads' name
    → CountsApart counted faults faults' reads reads' name
counts_as counted counted' faults faults' reads reads' name same apart = record {
  faults_stay = λ is. apart.faults_stay (subst IsTrue (sym (same name)) is);
  reads_stay = λ isnt. apart.reads_stay (subst (λ (b : Bool). IsTrue (not b)) (sym (same name)) isnt);
}

pub apart_as : (files : List (List ℕ × Limited)) (log : List ℕ) (counted counted' : List ℕ → Bool)
    (faults faults' reads reads' : List ℕ → ℕ)
    → ((n : List ℕ) → counted' n ≡ counted n) → ApartFor ((log, limit.Log) ∷ files) counted' faults faults' reads reads'
    → ApartFor ((log, limit.Log) ∷ files) counted faults faults' reads reads'
apart_as [] log counted counted' faults faults' reads reads' same apart =
    counts_as counted counted' faults faults' reads reads' log same apart
apart_as (file ∷ files) log counted counted' faults faults' reads reads' same apart = record {
  log_unread = λ is. apart.log_unread (subst IsTrue (sym (same file.0)) is);
  file_unread = apart.file_unread;
}

-- a log after which no file was read
pub apart_alone : (files : List (List ℕ × Limited)) (log : List ℕ) (counted : List ℕ → Bool)
    (faults faults' reads reads' : List ℕ → ℕ)
    → CountsApart counted faults faults' reads reads' log → OthersStay reads reads' log
    → ApartFor ((log, limit.Log) ∷ files) counted faults faults' reads reads'
apart_alone [] log counted faults faults' reads reads' apart others = apart
apart_alone (file ∷ files) log counted faults faults' reads reads' apart others = record {
  log_unread = λ _ n other _ rose. unread_apart counted faults faults' reads reads' log n apart other rose;
  file_unread = λ not_log n _ _. others file.0 not_log;
}

-- A log that was read without a fault, and then the file of a claim.
module _ (log : List ℕ) (counted counted' : List ℕ → Bool) (faults faults' faults'' reads reads' reads'' : List ℕ → ℕ)
    (same_counted : (n : List ℕ) → counted' n ≡ counted n) (first : CountsApart counted faults faults' reads reads' log)
    (others : OthersStay reads reads' log) (same : (n : List ℕ) → faults' n ≡ faults n) where
  none_after : ((n : List ℕ) → faults'' n ≡ faults' n) → ((n : List ℕ) → reads'' n ≡ reads' n)
      → CountsApart counted faults faults'' reads reads'' log
  none_after faults_still still = record {
    faults_stay = λ is n other. faults_still n ∙ first.faults_stay is n other;
    reads_stay = λ isnt. still log ∙ first.reads_stay isnt;
  }

  pub apart_then : (t : Task) (taken taken' : List ℕ → ℕ) (failed : Type 0)
      → ApartFor (file_of t) counted' faults' faults'' reads' reads'' → ReadsFor (file_of t) reads' reads'' taken taken'
      → FilesFaults faults' faults'' (file_of t) failed
      → ApartFor ((log, limit.Log) ∷ file_of t) counted faults faults'' reads reads''
  apart_then task.Nothing taken taken' failed apart second more =
      none_after (more.others (λ is. more.fault is)) (λ n. second.others n (λ is. is))
  apart_then (task.Judge q) taken taken' failed apart second more =
      none_after (more.others (λ is. more.fault is)) (λ n. second.others n (λ is. is))
  apart_then (task.Claims claim) taken taken' failed apart second more =
      let file = claim.file.now in
      let counts = counts_as counted counted' faults' faults'' reads' reads'' file same_counted apart in
      record {
        log_unread = λ is n _ other rose.
            let stays = counts.faults_stay is n other in
            let was = same n in
            absurd (omega (arith, stays, was, rose));
        file_unread = λ not_log n other rose.
            let was = same n in
            unread_apart counted faults' faults'' reads' reads'' file n counts other (omega (arith, was, rose))
            ∙ others file not_log;
      }

-- ---- accounts
-- a log, and nothing after it
pub log_alone : (more : List (List ℕ × Limited)) (a b : Account) (log : List ℕ) (failed : Type 0)
    → ReadsFile a b log (one_past limit.Log) 1 failed → ReadsFiles a b ((log, limit.Log) ∷ more) failed
log_alone more a b log failed file = record {
  held = file.held;
  faults = faults_more ((log, limit.Log) ∷ []) more a.faults b.faults failed
      (faults_one a.faults b.faults log limit.Log failed file.faults);
  takes = takes_more ((log, limit.Log) ∷ []) more a.taken b.taken (takes_one a.taken b.taken log limit.Log file.takes);
  reads = reads_more ((log, limit.Log) ∷ []) more a.reads b.reads a.taken b.taken
      (reads_one a.reads b.reads a.taken b.taken log limit.Log (one_past limit.Log) file.reads file.takes);
  apart = apart_alone more log a.counted a.faults b.faults a.reads b.reads file.apart file.reads.others;
  pieces = file.pieces;
}

-- a log without a fault, and then the file of a claim
pub log_then : (t : Task) (a b c : Account) (log : List ℕ) (first failed : Type 0) → (first → ⊥)
    → ReadsFile a b log (one_past limit.Log) 1 first → ReadsFiles b c (file_of t) failed
    → ReadsFiles a c ((log, limit.Log) ∷ file_of t) failed
log_then t a b c log first failed never file files =
    let same = file.faults.others never in
    record {
      held = files.held ∙ file.held;
      faults = faults_then ((log, limit.Log) ∷ []) (file_of t) a.faults b.faults c.faults failed same files.faults;
      takes = takes_then ((log, limit.Log) ∷ []) (file_of t) a.taken b.taken c.taken
          (takes_one a.taken b.taken log limit.Log file.takes) files.takes;
      reads = reads_then ((log, limit.Log) ∷ []) (file_of t) a.reads b.reads c.reads a.taken b.taken c.taken
          (reads_one a.reads b.reads a.taken b.taken log limit.Log (one_past limit.Log) file.reads file.takes) files.reads;
      apart = apart_then log a.counted b.counted a.faults b.faults c.faults a.reads b.reads c.reads file.counted file.apart
          file.reads.others same t b.taken c.taken failed files.apart files.reads files.faults;
      pieces = pieces_then a.widest b.widest c.widest file.pieces files.pieces;
    }
