-- The saved id after setreuid and setregid.
use Rattle.std.proofs.Common.{arith, ◌≡◌, ℕ, ◌&&◌, not, Bool, List, refl, sym, ◌∙◌, subst}
use Rattle.std.specs.Prelude.{Result, Ok}
use Rattle.std.specs.declared.result.Result.TheVariants.{Err as Failed}
use Rattle.cm_base.specs.declared.errno.Errno.{Errno}
use Rattle.cm_base.specs.declared.res.Res.TheVariants.{Done}
use Rattle.model_cred.specs.Credential.{Credential, FourIds}
use Rattle.model_cred.specs.IdMap.{Extent, extents_of}
use Rattle.model_cred.specs.Space.{Space}
use Rattle.model_rules.specs.Fixups.{fixed_up, following_effective, after_losing_root, without_root}
use Rattle.model_rules.specs.Securebits.{has_flag, keep_caps, no_setuid_fixup}
use Rattle.model_rules.specs.SetId.{setreid, with_uids, with_gids, has_setuid, has_setgid}
use Rattle.model_rules.specs.Zero.{has_zero}
use Rattle.model_laws.specs.Sentences.{SavedId, SavedAfterSetReUid, SavedAfterSetReGid}
use Rattle.model_laws.proofs.Ids.{either}

-- ---- the fixups leave the user ids
without_root_uid : (c : Credential) → (without_root c).uid ≡ c.uid
without_root_uid c =
    either (λ (d : Credential). d.uid ≡ c.uid) (has_flag c keep_caps) (record c { ambient = 0 })
    (record c { permitted = 0; effective = 0; ambient = 0 }) refl refl

losing_uid : (s : Space) (old : FourIds) (c : Credential) → (after_losing_root s old c).uid ≡ c.uid
losing_uid s old c = either (λ (d : Credential). d.uid ≡ c.uid) (has_zero s old && not (has_zero s c.uid)) (without_root c) c (without_root_uid c) refl

following_uid : (s : Space) (old : FourIds) (c : Credential) → (following_effective s old c).uid ≡ c.uid
following_uid s old c = grind arith

pub fixed_uid : (s : Space) (old : FourIds) (c : Credential) → (fixed_up s old c).uid ≡ c.uid
fixed_uid s old c =
    either (λ (d : Credential). d.uid ≡ c.uid) (has_flag c no_setuid_fixup) c (following_effective s old (after_losing_root s old c)) refl
    (following_uid s old (after_losing_root s old c) ∙ losing_uid s old c)

-- ---- the saved id
-- the new ids, if there are any, have the saved id as the sentence says
record Saves (old : FourIds) (r e : ℕ) (result : Result FourIds Errno) : Type 0 where
  ids : (ids : FourIds) → result ≡ Ok ids → SavedId old ids r e

setreid_saves : (map : List Extent) (privileged : Bool) (old : FourIds) (r e : ℕ) → Saves old r e (setreid map privileged old r e)
setreid_saves map privileged old r e = grind arith

of_uids : (s : Space) (c : Credential) (r e : ℕ) (result : Result FourIds Errno) → Saves c.uid r e result → (with_uids s c result).res ≡ Done
    → SavedId c.uid (with_uids s c result).cred.uid r e
of_uids s c r e (Ok ids) saves is =
    subst (λ (new : FourIds). SavedId c.uid new r e) (sym (fixed_uid s c.uid (record c { uid = ids }))) (saves.ids ids refl)
of_uids s c r e (Failed k) saves wrong = absurd (cc)

of_gids : (c : Credential) (r e : ℕ) (result : Result FourIds Errno) → Saves c.gid r e result → (with_gids c result).res ≡ Done
    → SavedId c.gid (with_gids c result).cred.gid r e
of_gids c r e (Ok ids) saves is = saves.ids ids refl
of_gids c r e (Failed k) saves wrong = absurd (cc)

-- ---- as the contracts of `sentence` state them
pub saved_after_setreuid : SavedAfterSetReUid
unfolding SavedAfterSetReUid
saved_after_setreuid s c r e is =
    of_uids s c r e (setreid (extents_of s.uids) (has_setuid c) c.uid r e) (setreid_saves (extents_of s.uids) (has_setuid c) c.uid r e) is

pub saved_after_setregid : SavedAfterSetReGid
unfolding SavedAfterSetReGid
saved_after_setregid s c r e is =
    of_gids c r e (setreid (extents_of s.gids) (has_setgid c) c.gid r e) (setreid_saves (extents_of s.gids) (has_setgid c) c.gid r e) is
