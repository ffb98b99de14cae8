-- setgroups alone changes groups, and it doesn't look at the old ones.
use Rattle.std.proofs.Common.{◌≡◌, ℕ, ◌||◌, not, length, List, Bool, true, false, Option, Some, None, Result, Ok, if◌then◌else◌, refl, sym, ◌∙◌, ap, arith}
use Rattle.std.specs.Prelude.{nat_lt, is_none}
use Rattle.std.specs.declared.result.Result.TheVariants as result
use Rattle.cm_base.specs.declared.errno.Errno.{Errno}
use Rattle.cm_base.specs.declared.errno.Errno.TheVariants.{EPERM, EINVAL}
use Rattle.cm_base.specs.declared.res.Res.{Res}
use Rattle.cm_base.specs.declared.res.Res.TheVariants.{Done, Id, Child, Err}
use Rattle.model_cred.specs.Credential.{Credential, FourIds}
use Rattle.model_cred.specs.IdMap.{extents_of}
use Rattle.model_cred.specs.Space.{Space}
use Rattle.model_rules.specs.Answer.{Answer, refused}
use Rattle.model_rules.specs.Fixups.{fixed_up, following_effective, after_losing_root, fs_fixed_up}
use Rattle.model_rules.specs.SetGroups.{setgroups, with_groups, all_down, most_groups}
use Rattle.model_rules.specs.SetId.{has_setgid, with_uids, with_gids}

losing : (s : Space) (old : FourIds) (c : Credential) → (after_losing_root s old c).groups ≡ c.groups
losing s old c = grind arith

following : (s : Space) (old : FourIds) (c : Credential) → (following_effective s old c).groups ≡ c.groups
following s old c = grind arith

fixed : (s : Space) (old : FourIds) (c : Credential) → (fixed_up s old c).groups ≡ c.groups
fixed s old c = grind (arith, following s old (after_losing_root s old c), losing s old c)

-- the groups stay where user ids, an fs user id or group ids are set
pub fs_fixed : (s : Space) (old : ℕ) (c : Credential) → (fs_fixed_up s old c).groups ≡ c.groups
fs_fixed s old c = grind arith

pub uids_keep : (s : Space) (c : Credential) (r : Result FourIds Errno) → (with_uids s c r).cred.groups ≡ c.groups
uids_keep s c (Ok ids) = fixed s c.uid (record c { uid = ids })
uids_keep s c (result.Err e) = refl

pub gids_keep : (c : Credential) (r : Result FourIds Errno) → (with_gids c r).cred.groups ≡ c.groups
gids_keep c (Ok ids) = refl
gids_keep c (result.Err e) = refl

-- ---- setgroups

-- the same credential with those groups
abbrev pub regrouped : Credential → List ℕ → Credential
regrouped c groups = record c { groups = groups }

-- the answer to a credential with other groups is the same, where it is done the same is left, and else nothing changes
record Alike (c : Credential) (groups : List ℕ) (other answer : Answer) : Type 0 where
  res : other.res ≡ answer.res
  done : answer.res ≡ Done → other.cred ≡ answer.cred
  same : (answer.res ≡ Done → ⊥) → (other.cred ≡ regrouped c groups) × (answer.cred ≡ c)

refused_alike : (c : Credential) (groups : List ℕ) (e : Errno) → Alike c groups (refused e (regrouped c groups)) (refused e c)
refused_alike c groups e = record { res = refl; done = λ wrong. absurd (cc); same = λ _. (refl, refl) }

mapped_alike : (c : Credential) (groups : List ℕ) (o : Option (List ℕ)) → Alike c groups (with_groups (regrouped c groups) o) (with_groups c o)
mapped_alike c groups None = refused_alike c groups EINVAL
mapped_alike c groups (Some ids) = record { res = refl; done = λ _. refl; same = λ other. absurd (other refl) }

choose : (c : Credential) (groups : List ℕ) (b : Bool) (other answer other' answer' : Answer) → Alike c groups other answer → Alike c groups other' answer'
    → Alike c groups (if b then other else other') (if b then answer else answer')
choose c groups true other answer other' answer' first second = first
choose c groups false other answer other' answer' first second = second

alike : (s : Space) (c : Credential) (groups ids : List ℕ) → Alike c groups (setgroups s (regrouped c groups) ids) (setgroups s c ids)
alike s c groups ids =
    choose c groups (not (has_setgid c) || is_none s.gids || s.deny) (refused EPERM (regrouped c groups)) (refused EPERM c) _ _ (refused_alike c groups EPERM)
    (choose c groups (nat_lt most_groups (length ids)) (refused EINVAL (regrouped c groups)) (refused EINVAL c) _ _ (refused_alike c groups EINVAL)
    (mapped_alike c groups (all_down (extents_of s.gids) ids)))

-- What setgroups does where the old groups are moved out before it, and back where it isn't done.
pub record MovesGroups (s : Space) (c before new after : Credential) (groups ids : List ℕ) (res : Res) : Type 0 where
  pub out : before ≡ regrouped c groups
  pub answers : res ≡ (setgroups s before ids).res
  pub leaves : new ≡ (setgroups s before ids).cred
  pub done : res ≡ Done → after ≡ new
  pub back : (res ≡ Done → ⊥) → after ≡ regrouped new c.groups

-- it is setgroups
pub moved_cred : (s : Space) (c before new after : Credential) (groups ids : List ℕ) (res : Res) → MovesGroups s c before new after groups ids res
    → after ≡ (setgroups s c ids).cred
moved_cred s c before new after groups ids res moves = by res refl
  where
    told : res ≡ (setgroups s c ids).res
    told = moves.answers ∙ ap (λ (k : Credential). (setgroups s k ids).res) moves.out ∙ (alike s c groups ids).res

    left : new ≡ (setgroups s (regrouped c groups) ids).cred
    left = moves.leaves ∙ ap (λ (k : Credential). (setgroups s k ids).cred) moves.out

    else_same : (res ≡ Done → ⊥) → after ≡ (setgroups s c ids).cred
    else_same other =
        let kept = (alike s c groups ids).same (λ done. other (told ∙ done)) in
        moves.back other ∙ ap (λ (k : Credential). regrouped k c.groups) (left ∙ kept.0) ∙ sym kept.1

    by : (r : Res) → res ≡ r → after ≡ (setgroups s c ids).cred
    by Done is = moves.done is ∙ left ∙ (alike s c groups ids).done (sym told ∙ is)
    by (Id n) is = else_same (λ wrong. let no : Id n ≡ Done = sym is ∙ wrong in absurd (cc))
    by (Child n) is = else_same (λ wrong. let no : Child n ≡ Done = sym is ∙ wrong in absurd (cc))
    by (Err e) is = else_same (λ wrong. let no : Err e ≡ Done = sym is ∙ wrong in absurd (cc))
