-- Why the report of a log isn't told to its end, in the sink's count of faults.
use Rattle.std.proofs.Common.{◌≡◌, ◌≢◌, ℕ, refl, sym, subst, ap, ◌∙◌, arith, inl, inr, le_of_eq, Result, Err}
use Rattle.cm_io.specs.Sink.{WriteFaults}
use Rattle.cm_io.specs.declared.outside.Outside.{Outside}
use Rattle.cm_io.specs.declared.outside.Outside.TheVariants as outside
use Rattle.cm_replay.specs.Untold.{UntoldFaults, untold_by}
use Rattle.cm_replay.specs.declared.untold.Untold.{Untold}
use Rattle.cm_replay.specs.declared.untold.Untold.TheVariants as untold

-- no error of the sink is a fault of reading
pub stops_no_read : {T : Type 0} (why : Outside) (r : Result T Untold) → r ≡ Err (untold_by why)
    → r ≢ Err untold.ReadFault
stops_no_read outside.Failed r same is = let two = sym same ∙ is in cc
stops_no_read outside.NoMemory r same is = let two = sym same ∙ is in cc

pub stops_at : {T U : Type 0} (why : Outside) (before mid now : ℕ) → mid ≡ before
    → WriteFaults {T = T} mid now (Err why)
    → UntoldFaults {T = U} before now (Err (untold_by why))
stops_at outside.Failed before mid now same cause = record {
  later = let after = cause.later in omega (arith, same, after);
  failed = λ _. elim (cause.failed refl) [
    | inl less ↦ inl (omega (arith, same, less))
    | inr last ↦ inr last
  ];
  others = λ other. absurd (other refl);
}
stops_at outside.NoMemory before mid now same cause = record {
  later = let after = cause.later in omega (arith, same, after);
  failed = λ is. absurd (cc);
  others = λ _. cause.no_memory refl ∙ same;
}

-- nothing failed at the sink
pub none_failed : {T : Type 0} (before now : ℕ) (r : Result T Untold) → now ≡ before → r ≢ Err untold.WriteFault
    → UntoldFaults before now r
none_failed before now r same other = record {
  later = le_of_eq
      (sym same);
  failed = λ is. absurd (other is);
  others = λ _. same;
}

pub untold_as : {T U : Type 0} (why : Untold) (before now : ℕ) (r : Result T Untold) (s : Result U Untold) → r ≡ Err why
    → s ≡ Err why
    → UntoldFaults before now r → UntoldFaults before now s
untold_as why before now r s one two cause = record {
  later = cause.later;
  failed = λ is. cause.failed (let same : why ≡ untold.WriteFault = cc in one ∙ ap (λ (e : Untold). Err e) same);
  others = λ other.
      cause.others (λ is. other (let same : why ≡ untold.WriteFault = cc in two ∙ ap (λ (e : Untold). Err e) same));
}

pub err_as : {T U : Type 0} (why one : Untold) (r : Result T Untold) (s : Result U Untold) → r ≡ Err why → s ≡ Err why
    → r ≡ Err one → s ≡ Err one
err_as why one r s is so same =
    let why_is : why ≡ one = cc in
    so ∙ ap (λ (e : Untold). Err e) why_is

-- the sink's count, after one that stayed
pub untold_since : {T : Type 0} (before mid now : ℕ) (r : Result T Untold) → mid ≡ before → UntoldFaults mid now r
    → UntoldFaults before now r
untold_since before mid now r same cause = subst (λ (n : ℕ). UntoldFaults n now r) same cause
