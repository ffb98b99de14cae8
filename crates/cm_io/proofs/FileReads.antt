-- A file that is read in several calls.
use Rattle.std.proofs.Common.{ℕ, ◌+◌, ◌≤◌, List, arith, refl, ◌∙◌, subst}
use Rattle.cm_io.specs.Account.{Account, ReadsFile}
use Rattle.cm_io.specs.Shelf.{Rose, TakesAtMost}
use Rattle.cm_io.proofs.ReadCounts.{apart_then, pieces_none, pieces_then, reads_none, reads_then, reads_within}

-- bytes that are taken
takes_on : (a b c : List ℕ → ℕ) (name : List ℕ) (m n k : ℕ) → TakesAtMost a b name m → TakesAtMost b c name n → m + n ≤ k → TakesAtMost a c name k
takes_on a b c name m n k first then few = record {
  here = omega (arith, first.here, then.here, few);
  others = λ other isnt. then.others other isnt ∙ first.others other isnt;
}

-- no call was made
pub none_read : (a : Account) (name : List ℕ) (most idle : ℕ) (failed : Type 0) → (failed → ⊥) → ReadsFile a a name most idle failed
none_read a name most idle failed never = record {
  held = refl;
  counted = λ n. refl;
  faults = record { later = λ n. omega arith; fault = λ is. absurd (never is); others = λ _ n. refl };
  takes = record { here = omega arith; others = λ n other. refl };
  reads = reads_none a.reads a.taken name idle;
  apart = record { faults_stay = λ is n other. refl; reads_stay = λ isnt. refl };
  pieces = pieces_none a.widest;
}

-- after a call that didn't fail another one
pub file_then : {F G K : Type 0} → (a b c : Account) (name : List ℕ) (m n most i j idle : ℕ) → (F → ⊥)
    → ReadsFile a b name m i F → ReadsFile b c name n j G → m + n ≤ most → i + j ≤ idle → (G → K) → (K → G) → ReadsFile a c name most idle K
file_then {F} {G} {K} a b c name m n most i j idle never first then few fewer to from =
    let same = first.faults.others never in
    record {
      held = then.held ∙ first.held;
      counted = λ other. then.counted other ∙ first.counted other;
      faults = record {
        later = λ other. omega (arith, same other, then.faults.later other);
        fault = λ failed. subst (λ (k : ℕ). Rose k (c.faults name)) (same name) (then.faults.fault (from failed));
        others = λ isnt other. then.faults.others (λ is. isnt (to is)) other ∙ same other;
      };
      takes = takes_on a.taken b.taken c.taken name m n most first.takes then.takes few;
      reads = reads_within a.reads c.reads a.taken c.taken name (i + j) idle fewer
          (reads_then a.reads b.reads c.reads a.taken b.taken c.taken name i j first.reads then.reads);
      apart = apart_then a.counted b.counted a.faults b.faults c.faults a.reads b.reads c.reads name (first.counted name) first.apart then.apart;
      pieces = pieces_then a.widest b.widest c.widest first.pieces then.pieces;
    }

-- more are allowed, and another word for what failed
pub file_within : {F G : Type 0} → (a b : Account) (name : List ℕ) (m most i idle : ℕ) → ReadsFile a b name m i F → m ≤ most → i ≤ idle
    → (F → G) → (G → F) → ReadsFile a b name most idle G
file_within {F} {G} a b name m most i idle file few fewer to from = record {
  held = file.held;
  counted = file.counted;
  faults = record {
    later = file.faults.later;
    fault = λ failed. file.faults.fault (from failed);
    others = λ isnt. file.faults.others (λ is. isnt (to is));
  };
  takes = record { here = omega (arith, file.takes.here, few); others = file.takes.others };
  reads = reads_within a.reads b.reads a.taken b.taken name i idle fewer file.reads;
  apart = file.apart;
  pieces = file.pieces;
}
