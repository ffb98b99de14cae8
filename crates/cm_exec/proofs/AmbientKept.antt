-- What is ambient stays permitted.
use Rattle.std.proofs.Common.{◌≡◌, ℕ, true, sym, subst}
use Rattle.cm_base.specs.CapSet.{is_within, union, meet}
use Rattle.cm_base.proofs.CapSets.{second_within_union, within_meet}

-- the set is within a union with it
pub within_gained : (set some gained : ℕ) → gained ≡ union some set → is_within set gained ≡ true
within_gained set some gained is = subst (λ g. is_within set g ≡ true) (sym is) (second_within_union some set)

-- and where it is within another, within what both have
pub within_cut : (set some gained permitted cut : ℕ) → cut ≡ meet gained permitted
    → gained ≡ union some set → is_within set permitted ≡ true → is_within set cut ≡ true
within_cut set some gained permitted cut is made within =
    subst (λ g. is_within set g ≡ true) (sym is) (within_meet gained permitted set (within_gained set some gained made) within)
