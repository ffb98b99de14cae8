-- The row that newcomers bring.
use Rattle.std.proofs.Common.{◌≡◌, ℕ, ◌==◌, ◌&&◌, true, List, [], refl, sym, ◌∙◌}
use Rattle.std.specs.Prelude.{◌↔◌, IsTrue}
use Rattle.std.proofs.lemmas.Bool.{false≢true, and_parts, and_from, eqb-true, eq-eqb}
use Rattle.cm_base.specs.CapSet.{full, none}
use Rattle.cm_base.proofs.CapSets.{holds_none}
use Rattle.cm_sets.specs.Sets.{HoldsNone, HoldsSome}
use Rattle.cm_idset.specs.Held.{Held}
use Rattle.model_cred.specs.Intervals.{Interval}
use Rattle.model_box.specs.Bounds.{BoxRow}
use Rattle.model_box.specs.Row.{Part, MappedUids, MappedGids, PermittedCaps, InheritableCaps, BoundingCaps, RootCounts}
use Rattle.model_box.specs.Row.{LockClear, HasMembers}
use Rattle.model_box.specs.Spread.{Brings}
use Rattle.cm_box_rows.specs.Rows.{RowHolds, AreSameRows}

-- the unit is that of each flag that is raised
raised : (x : ℕ) → IsTrue (x == 0 && true) ↔ (x ≡ 0)
raised x = (λ held. eqb-true x 0 (and_parts (x == 0) true held).0, λ is. and_from (x == 0) true (eq-eqb x 0 is) refl)

-- the row that newcomers bring
pub brought_row : (from : Part → ℕ → Type 0) (r copy : BoxRow) (mu mg : List Interval) (p i b : ℕ) → r ≡ copy
    → AreSameRows (RowHolds copy) from
    → mu ≡ [] → mg ≡ [] → p ≡ full → i ≡ none → b ≡ full
    → AreSameRows (RowHolds (record r {
      mapped_uids = mu;
      mapped_gids = mg;
      permitted = p;
      inheritable = i;
      bounding = b;
      root_counts = true;
      lock_clear = true;
    })) (Brings from)
brought_row from r copy mu mg p i b r_is same mu_is mg_is p_is i_is b_is MappedUids x =
    rw mu_is (λ held. false≢true held, λ wrong. absurd wrong)
brought_row from r copy mu mg p i b r_is same mu_is mg_is p_is i_is b_is MappedGids x =
    rw mg_is (λ held. false≢true held, λ wrong. absurd wrong)
brought_row from r copy mu mg p i b r_is same mu_is mg_is p_is i_is b_is PermittedCaps x =
    rw p_is (λ held. held, λ held. held)
brought_row from r copy mu mg p i b r_is same mu_is mg_is p_is i_is b_is InheritableCaps x =
    rw i_is (λ held. false≢true (sym (holds_none x) ∙ held), λ wrong. absurd wrong)
brought_row from r copy mu mg p i b r_is same mu_is mg_is p_is i_is b_is BoundingCaps x =
    rw b_is (λ held. held, λ held. held)
brought_row from r copy mu mg p i b r_is same mu_is mg_is p_is i_is b_is RootCounts x = raised x
brought_row from r copy mu mg p i b r_is same mu_is mg_is p_is i_is b_is LockClear x = raised x
brought_row from r copy mu mg p i b r_is same mu_is mg_is p_is i_is b_is part x = rw r_is (same part x)

-- that a row has members, or none, as its sets are read
pub members_read : (r row : BoxRow) → r ≡ row → HoldsSome (Held r.effective_uids) → HasMembers (RowHolds row)
members_read r row is some = rw (← is) some

pub none_read : (r row : BoxRow) → r ≡ row → HoldsNone (Held r.effective_uids) → HasMembers (RowHolds row) → ⊥
none_read r row is none = rw (← is) (λ (some : HasMembers (RowHolds r)). none some.0 some.1)
