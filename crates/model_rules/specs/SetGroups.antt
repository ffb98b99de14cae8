-- The call that sets the supplementary groups (setgroups(2)).
use Rattle.std.specs.Prelude.{ℕ, ◌||◌, not, nat_lt, is_none, length, List, [], ◌∷◌, Option, None, Some, option_map, option_and_then, if◌then◌else◌}
use Rattle.cm_base.specs.declared.errno.Errno.TheVariants.{EPERM, EINVAL}
use Rattle.model_cred.specs.Credential.{Credential, id_set}
use Rattle.model_cred.specs.IdMap.{Extent, down, extents_of}
use Rattle.model_cred.specs.Space.{Space}
use Rattle.model_rules.specs.Answer.{Answer, done, refused}
use Rattle.model_rules.specs.SetId.{has_setgid}

-- the most groups that a process has (setgroups(2), NGROUPS_MAX)
abbrev pub most_groups : ℕ
most_groups = 65536

-- what all ids of a list are mapped to, None where one has no mapping
abbrev pub all_down : List Extent → List ℕ → Option (List ℕ)
all_down map [] = Some []
all_down map (id ∷ ids) = option_and_then (λ first. option_map (λ rest. first ∷ rest) (all_down map ids)) (down map id)

-- the groups become those that the ids are mapped to, or EINVAL
abbrev pub with_groups : Credential → Option (List ℕ) → Answer
with_groups c None = refused EINVAL c
with_groups c (Some ids) = done (record c { groups = id_set ids })

-- setgroups(2): EPERM without CAP_SETGID, a written map of group ids and the word "allow"; then EINVAL for too many or
-- for an id without a mapping (the order is a choice).
abbrev pub setgroups : Space → Credential → List ℕ → Answer
setgroups s c ids =
    if not (has_setgid c) || is_none s.gids || s.deny then refused EPERM c
    else if nat_lt most_groups (length ids) then refused EINVAL c
    else with_groups c (all_down (extents_of s.gids) ids)
