-- The effective set stays within the permitted one where the capabilities of the fs user id leave it or come in.
use Rattle.std.proofs.Common.{◌≡◌, ℕ, true, sym, subst}
use Rattle.cm_base.specs.CapSet.{is_within, minus, union, meet}
use Rattle.cm_base.proofs.CapSets.{minus_within, meet_within_first, union_within, within_transitive}

pub less_within : (effective permitted some w : ℕ) → w ≡ minus effective some → is_within effective permitted ≡ true → is_within w permitted ≡ true
less_within effective permitted some w is within =
    subst (λ x. is_within x permitted ≡ true) (sym is) (within_transitive (minus effective some) effective permitted (minus_within effective some) within)

pub more_within : (effective permitted some met w : ℕ) → w ≡ union effective met → met ≡ meet permitted some
    → is_within effective permitted ≡ true → is_within w permitted ≡ true
more_within effective permitted some met w is met_is within =
    subst (λ x. is_within x permitted ≡ true) (sym is)
    (union_within effective met permitted within (subst (λ x. is_within x permitted ≡ true) (sym met_is) (meet_within_first permitted some)))
