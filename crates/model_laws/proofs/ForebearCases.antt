-- Why the laws of families ask that chains of forebears end: without it a birth can bring more into a family than its child.
use Rattle.std.proofs.Common.{◌≡◌, Some, [], ◌∷◌, refl}
use Rattle.cm_base.specs.declared.res.Res.TheVariants.{Child}
use Rattle.model_cred.specs.Call.{Fork}
use Rattle.model_cred.specs.Process.{Process, State}
use Rattle.model_run.specs.Family.{family}
use Rattle.model_run.proofs.Worlds.{user, process, with_processes, world, gives, Leads}

-- a process whose forebear isn't alive
abbrev adrift : Process
adrift = record (process 200 (user 0)) { forebear = Some 101 }

abbrev before : State
before = with_processes (process 100 (user 0) ∷ adrift ∷ [])

abbrev after : State
after = with_processes (process 100 (user 0) ∷ record (process 101 (user 0)) { forebear = Some 100 } ∷ adrift ∷ [])

pub the_family_is_one : family before 100 ≡ 100 ∷ []
the_family_is_one = refl

-- the one that is born has the pid of the forebear that isn't alive
pub the_forebear_is_born : Leads world before (gives 100 Fork (Child 101) ∷ []) after
the_forebear_is_born = refl

-- so that the family gains two, of which the birth tells one
pub the_family_is_three : family after 100 ≡ 100 ∷ 101 ∷ 200 ∷ []
the_family_is_three = refl
