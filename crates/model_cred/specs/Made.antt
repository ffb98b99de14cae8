-- The user namespaces that events tell of as made (unshare(2), clone(2), CLONE_NEWUSER).
use Rattle.std.specs.Prelude.{ℕ, Bool, true, false, count_by, List}
use Rattle.cm_base.specs.declared.res.Res.{Res}
use Rattle.cm_base.specs.declared.res.Res.TheVariants.{Done, Child}
use Rattle.model_cred.specs.Call.{Call, CloneUser, Unshare, Event}

-- a call with that result makes a user namespace: an unshare that is done, or a birth into a new one that has a child
abbrev pub makes_space : Call → Res → Bool
makes_space Unshare Done = true
makes_space CloneUser (Child pid) = true
makes_space _ _ = false

-- how many of the events make one
abbrev pub spaces_made : List Event → ℕ
spaces_made events = count_by (λ e. makes_space e.call e.res) events
