-- What newcomers bring, and who can join a space from above it.
use Rattle.std.proofs.Common.{◌≡◌, ℕ, ◌∷◌, Some, refl, sym, inl, inr}
use Rattle.std.specs.Prelude.{◌↔◌, ◌⊎◌}
use Rattle.model_cred.specs.Space.{Spaces, chain, chain_from, space_of}
use Rattle.model_box.specs.Closed.{ByJoining}
use Rattle.model_box.specs.Row.{Part, Uids, EffectiveUids, FsUids, Gids, EffectiveGids, FsGids, Groups, PermittedCaps}
use Rattle.model_box.specs.Row.{BoundingCaps, NewPrivs, RootCounts, LockClear, Row, Standing}
use Rattle.model_box.specs.Spread.{Brings}
use Rattle.cm_box_rows.specs.Rows.{HoldsAll, InEitherRow, AreSameRows}
use Rattle.cm_box_rows.specs.Spread.{IdsHeld, FullHeld, CanJoinBy, JoinsHeld, JoinedBy, ByJoiningTo}
use Rattle.cm_box_rows.proofs.Chains.{next_step}

-- a row holds all that newcomers bring where it holds their ids and flag, and is full
pub brings_held : (from row : Part → ℕ → Type 0)
    → (IdsHeld from row × ((x : ℕ) → from NewPrivs x → row NewPrivs x) × FullHeld row) ↔ HoldsAll row (Brings from)
brings_held from row = (to, back) where
  to : IdsHeld from row × ((x : ℕ) → from NewPrivs x → row NewPrivs x) × FullHeld row → HoldsAll row (Brings from)
  to (ids, flag, full) Uids x has = ids.uids x has
  to (ids, flag, full) EffectiveUids x has = ids.effective_uids x has
  to (ids, flag, full) FsUids x has = ids.fs_uids x has
  to (ids, flag, full) Gids x has = ids.gids x has
  to (ids, flag, full) EffectiveGids x has = ids.effective_gids x has
  to (ids, flag, full) FsGids x has = ids.fs_gids x has
  to (ids, flag, full) Groups x has = ids.groups x has
  to (ids, flag, full) PermittedCaps x has = full.permitted x has
  to (ids, flag, full) BoundingCaps x has = full.bounding x has
  to (ids, flag, full) NewPrivs x has = flag x has
  to (ids, flag, full) RootCounts x has = rw has full.root_counts
  to (ids, flag, full) LockClear x has = rw has full.lock_clear
  to (ids, flag, full) _ x none = absurd none

  back : HoldsAll row (Brings from) → IdsHeld from row × ((x : ℕ) → from NewPrivs x → row NewPrivs x) × FullHeld row
  back all = (
    record {
      uids = all Uids;
      effective_uids = all EffectiveUids;
      fs_uids = all FsUids;
      gids = all Gids;
      effective_gids = all EffectiveGids;
      fs_gids = all FsGids;
      groups = all Groups;
    },
    all NewPrivs,
    record { permitted = all PermittedCaps; bounding = all BoundingCaps; root_counts = all RootCounts 0 refl; lock_clear = all LockClear 0 refl },
  )

module _ (spaces : Spaces) (bounds : Row → Part → ℕ → Type 0) (row : Part → ℕ → Type 0) where
  -- all who can join hold where those in the parent do, and those above it
  pub joins_step : (n p : ℕ) → chain spaces n ≡ n ∷ chain_from spaces (Some p) → (space_of spaces n).parent ≡ Some p
      → ((CanJoinBy (bounds (Standing p)) (space_of spaces n) → HoldsAll row (Brings (bounds (Standing p)))) × JoinsHeld spaces bounds row p)
      ↔ JoinsHeld spaces bounds row n
  joins_step n p is parent = (to, from) where
    to : (CanJoinBy (bounds (Standing p)) (space_of spaces n) → HoldsAll row (Brings (bounds (Standing p)))) × JoinsHeld spaces bounds row p
        → JoinsHeld spaces bounds row n
    to (here, later) a m next = elim ((next_step spaces a n p m is parent).1 next) [
      | inl (same, at) ↦ rw (same, sym at) here
      | inr up ↦ later a m up
    ]

    from : JoinsHeld spaces bounds row n
        → (CanJoinBy (bounds (Standing p)) (space_of spaces n) → HoldsAll row (Brings (bounds (Standing p)))) × JoinsHeld spaces bounds row p
    from all = (
      all p n ((next_step spaces p n p n is parent).0 (inl (refl, refl))),
      λ a m up. all a m ((next_step spaces a n p m is parent).0 (inr up)),
    )

-- what comes by joining is what comes from the parent, and what comes to the parent
module _ (spaces : Spaces) (bounds : Row → Part → ℕ → Type 0) where
  pub joining_step : (n p : ℕ) → chain spaces n ≡ n ∷ chain_from spaces (Some p) → (space_of spaces n).parent ≡ Some p
      → AreSameRows (InEitherRow (JoinedBy (bounds (Standing p)) (space_of spaces n)) (ByJoiningTo spaces bounds p)) (ByJoiningTo spaces bounds n)
  joining_step n p is parent part x = (to, from) where
    to : JoinedBy (bounds (Standing p)) (space_of spaces n) part x ⊎ ByJoiningTo spaces bounds p part x → ByJoiningTo spaces bounds n part x
    to (inl (can, brings)) = (p, n, (next_step spaces p n p n is parent).0 (inl (refl, refl)), can, brings)
    to (inr (a, m, up, can, brings)) = (a, m, (next_step spaces a n p m is parent).0 (inr up), can, brings)

    from : ByJoiningTo spaces bounds n part x → JoinedBy (bounds (Standing p)) (space_of spaces n) part x ⊎ ByJoiningTo spaces bounds p part x
    from (a, m, next, can, brings) = elim ((next_step spaces a n p m is parent).1 next) [
      | inl (same, at) ↦ inl (rw (at, sym same) (can, brings))
      | inr up ↦ inr (a, m, up, can, brings)
    ]

-- a row holds what comes by joining where it holds what comes by each that can join
pub joining_held : (spaces : Spaces) (bounds : Row → Part → ℕ → Type 0) (row : Part → ℕ → Type 0) (n : ℕ)
    → JoinsHeld spaces bounds row n ↔ HoldsAll row (ByJoining spaces bounds n)
joining_held spaces bounds row n = (to, from) where
  to : JoinsHeld spaces bounds row n → HoldsAll row (ByJoining spaces bounds n)
  to all part x (a, can, brings) = all a can.0 can.1 (can.2, can.3) part x brings

  from : HoldsAll row (ByJoining spaces bounds n) → JoinsHeld spaces bounds row n
  from all a m next can part x brings = all part x (a, (m, next, can.0, can.1), brings)
