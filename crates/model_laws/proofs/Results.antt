-- What the rules answer: no child, no error but four, and a refusal leaves the caller and the spaces as they were.
use Rattle.std.proofs.Common.{arith, ◌≡◌, ℕ, Bool, true, false, List, length, Option, Some, None, if◌then◌else◌, refl, ap, subst}
use Rattle.std.specs.Prelude.{Result, Ok}
use Rattle.std.specs.declared.result.Result.TheVariants.{Err as Failed}
use Rattle.cm_base.specs.declared.errno.Errno.{Errno}
use Rattle.cm_base.specs.declared.errno.Errno.TheVariants.{EPERM, EINVAL, ENOSPC, EACCES}
use Rattle.cm_base.specs.declared.res.Res.{Res}
use Rattle.cm_base.specs.declared.res.Res.TheVariants.{Done, Id, Child, Err}
use Rattle.model_cred.specs.Call.{Call, SetUid, SetReUid, SetResUid, SetFsUid, SetGid, SetReGid, SetResGid, SetFsGid}
use Rattle.model_cred.specs.Call.{SetGroups, CapSet, BsetDrop, AmbRaise, AmbLower, AmbClear, SecureBits, KeepCaps}
use Rattle.model_cred.specs.Call.{NoNewPrivs, Fork, CloneUser, Unshare, SetNs, WriteUidMap, WriteGidMap, WriteSetgroups}
use Rattle.model_cred.specs.Call.{Exec, Exit, Install}
use Rattle.cm_filter.specs.Filters.{Filter}
use Rattle.model_cred.specs.Credential.{Credential, FourIds}
use Rattle.model_cred.specs.Files.{FileTable}
use Rattle.model_cred.specs.IdMap.{Extent, extents_of}
use Rattle.model_cred.specs.Space.{Space, Spaces, space_of}
use Rattle.model_rules.specs.Answer.{Answer, done, refused}
use Rattle.model_rules.specs.Install.{installed}
use Rattle.model_rules.specs.Maps.{MapFile, UidMap, GidMap, Written, write_map, write_stored, write_setgroups, write_done, write_refused}
use Rattle.model_rules.specs.Namespaces.{unshare, clone_user, join}
use Rattle.model_rules.specs.Reply.{Reply, reply, spaces_after, filter_after, stays, place_after, spaces_with, writes}
use Rattle.model_rules.specs.SetGroups.{with_groups}
use Rattle.model_rules.specs.SetId.{one_mapped, both_mapped, all_mapped, setresid, setreid, setid}
use Rattle.model_rules.specs.SetId.{with_uids, with_gids, has_setuid, has_setgid}

-- the errors of the rules
abbrev pub IsRuleError : Errno → Type 0
IsRuleError EPERM = Unit {0}
IsRuleError EINVAL = Unit {0}
IsRuleError ENOSPC = Unit {0}
IsRuleError EACCES = Unit {0}
IsRuleError _ = ⊥

-- a result of the rules for a call that is no birth
abbrev pub IsRuled : Res → Type 0
IsRuled Done = Unit {0}
IsRuled (Id n) = Unit {0}
IsRuled (Child n) = ⊥
IsRuled (Err e) = IsRuleError e

-- ---- answers
-- an answer of the rules, which leaves the credential where it refuses
record Plain (c : Credential) (a : Answer) : Type 0 where
  ruled : IsRuled a.res
  keeps : (e : Errno) → a.res ≡ Err e → a.cred ≡ c

plain_done : (c d : Credential) → Plain c (done d)
plain_done c d = record { ruled = tt; keeps = λ e wrong. absurd (let no : Done ≡ Err e = wrong in cc) }

plain_refused : (e : Errno) (c : Credential) → IsRuleError e → Plain c (refused e c)
plain_refused e c is = record { ruled = is; keeps = λ _ _. refl }

plain_if : (c : Credential) (b : Bool) (x y : Answer) → Plain c x → Plain c y → Plain c (if b then x else y)
plain_if c true x y first second = first
plain_if c false x y first second = second

-- the error of a change of ids, if there is one, is of the rules
record PlainIds (r : Result FourIds Errno) : Type 0 where
  error : (e : Errno) → r ≡ Failed e → IsRuleError e

ids_ok : (ids : FourIds) → PlainIds (Ok ids)
ids_ok ids = record { error = λ e wrong. absurd (cc) }

ids_failed : (e : Errno) → IsRuleError e → PlainIds (Failed e)
ids_failed e is = record { error = λ k same. let it : e ≡ k = cc in subst IsRuleError it is }

ids_one : (o : Option ℕ) (f : ℕ → Result FourIds Errno) → ((a : ℕ) → PlainIds (f a)) → PlainIds (one_mapped o f)
ids_one None f all = ids_failed EINVAL tt
ids_one (Some a) f all = all a

ids_both : (o p : Option ℕ) (f : ℕ → ℕ → Result FourIds Errno) → ((a b : ℕ) → PlainIds (f a b)) → PlainIds (both_mapped o p f)
ids_both None p f all = ids_failed EINVAL tt
ids_both (Some a) None f all = ids_failed EINVAL tt
ids_both (Some a) (Some b) f all = all a b

ids_all : (o p q : Option ℕ) (f : ℕ → ℕ → ℕ → Result FourIds Errno) → ((a b c : ℕ) → PlainIds (f a b c)) → PlainIds (all_mapped o p q f)
ids_all o p q f all = grind arith

ok_or_perm : (b : Bool) (ids : FourIds) → PlainIds (if b then Ok ids else Failed EPERM)
ok_or_perm true ids = ids_ok ids
ok_or_perm false ids = ids_failed EPERM tt

setresid_plain : (map : List Extent) (privileged : Bool) (old : FourIds) (r e s : ℕ) → PlainIds (setresid map privileged old r e s)
setresid_plain map privileged old r e s = grind arith

setreid_plain : (map : List Extent) (privileged : Bool) (old : FourIds) (r e : ℕ) → PlainIds (setreid map privileged old r e)
setreid_plain map privileged old r e = grind arith

setid_plain : (map : List Extent) (privileged : Bool) (old : FourIds) (argument : ℕ) → PlainIds (setid map privileged old argument)
setid_plain map privileged old argument = grind arith

plain_uids : (s : Space) (c : Credential) (r : Result FourIds Errno) → PlainIds r → Plain c (with_uids s c r)
plain_uids s c (Ok ids) plain = plain_done c _
plain_uids s c (Failed e) plain = plain_refused e c (plain.error e refl)

plain_gids : (c : Credential) (r : Result FourIds Errno) → PlainIds r → Plain c (with_gids c r)
plain_gids c (Ok ids) plain = plain_done c _
plain_gids c (Failed e) plain = plain_refused e c (plain.error e refl)

plain_groups : (c : Credential) (o : Option (List ℕ)) → Plain c (with_groups c o)
plain_groups c None = plain_refused EINVAL c tt
plain_groups c (Some ids) = plain_done c _

plain_unshare : (spaces : Spaces) (at : ℕ) (c : Credential) → Plain c (unshare spaces at c)
plain_unshare spaces at c = plain_if c _ _ _ (plain_refused ENOSPC c tt) (plain_if c _ _ _ (plain_refused EPERM c tt) (plain_done c _))

-- the refusal of clone_user
pub clone_ruled : (spaces : Spaces) (at : ℕ) (c : Credential) → IsRuled (clone_user spaces at c)
clone_ruled spaces at c = (plain_unshare spaces at c).ruled

plain_join : (spaces : Spaces) (at : ℕ) (c : Credential) (target : ℕ) → Plain c (join spaces at c target)
plain_join spaces at c target = plain_if c _ _ _ (plain_refused EINVAL c tt) (plain_if c _ _ _ (plain_refused EPERM c tt) (plain_done c _))

-- ---- writes
-- an answer of the rules, which leaves the spaces where it refuses
record PlainWrite (spaces : Spaces) (a : Written) : Type 0 where
  ruled : IsRuled a.res
  keeps : (e : Errno) → a.res ≡ Err e → a.spaces ≡ spaces

write_if : (spaces : Spaces) (b : Bool) (x y : Written) → PlainWrite spaces x → PlainWrite spaces y → PlainWrite spaces (if b then x else y)
write_if spaces true x y first second = first
write_if spaces false x y first second = second

plain_write : (spaces : Spaces) (n : ℕ) (t : Space) → PlainWrite spaces (write_done spaces n t)
plain_write spaces n t = record { ruled = tt; keeps = λ e wrong. absurd (let no : Done ≡ Err e = wrong in cc) }

plain_no_write : (e : Errno) (spaces : Spaces) → IsRuleError e → PlainWrite spaces (write_refused e spaces)
plain_no_write e spaces is = record { ruled = is; keeps = λ _ _. refl }

plain_mapped : (file : MapFile) (spaces : Spaces) (at : ℕ) (c : Credential) (target : ℕ) (list : List Extent) (o : Option (List Extent))
    → PlainWrite spaces (write_stored file spaces at c target list o)
plain_mapped file spaces at c target list None = plain_no_write EPERM spaces tt
plain_mapped file spaces at c target list (Some mapped) = write_if spaces _ _ _ (plain_write spaces target _) (plain_no_write EPERM spaces tt)

plain_map : (file : MapFile) (spaces : Spaces) (at : ℕ) (c : Credential) (target : ℕ) (list : List Extent)
    → PlainWrite spaces (write_map file spaces at c target list)
plain_map file spaces at c target list =
    write_if spaces _ _ _ (plain_no_write EPERM spaces tt)
    (write_if spaces _ _ _ (plain_no_write EINVAL spaces tt) (plain_mapped file spaces at c target list _))

plain_word : (spaces : Spaces) (at : ℕ) (c : Credential) (target : ℕ) (deny : Bool) → PlainWrite spaces (write_setgroups spaces at c target deny)
plain_word spaces at c target deny = write_if spaces _ _ _ (plain_write spaces target _) (plain_no_write EPERM spaces tt)

-- ---- replies
-- the caller's place and credential, and the spaces, are as they were
pub record Kept (before : Spaces) (at : ℕ) (c : Credential) (r : Reply) (after : Spaces) : Type 0 where
  pub space : r.space ≡ at
  pub cred : r.cred ≡ c
  pub spaces : after ≡ before

-- a reply of the rules, which leaves all where it refuses
pub record PlainReply (before : Spaces) (at : ℕ) (c : Credential) (r : Reply) (after : Spaces) : Type 0 where
  pub ruled : IsRuled r.res
  pub kept : (e : Errno) → r.res ≡ Err e → Kept before at c r after

stays_plain : (spaces : Spaces) (at : ℕ) (c : Credential) (a : Answer) → Plain c a → PlainReply spaces at c (stays at a) spaces
stays_plain spaces at c a plain = record { ruled = plain.ruled; kept = λ e is. record { space = refl; cred = plain.keeps e is; spaces = refl } }

writes_plain : (spaces : Spaces) (at : ℕ) (c : Credential) (a : Written) → PlainWrite spaces a → PlainReply spaces at c (writes at c a) a.spaces
writes_plain spaces at c a plain = record { ruled = plain.ruled; kept = λ e is. record { space = refl; cred = refl; spaces = plain.keeps e is } }

pub reply_plain : (files : FileTable) (spaces : Spaces) (at : ℕ) (c : Credential) (call : Call)
    → PlainReply spaces at c (reply files spaces at c call) (spaces_after spaces at c call)
reply_plain files spaces at c (SetUid id) =
    stays_plain spaces at c _ (plain_uids (space_of spaces at) c _ (setid_plain (extents_of (space_of spaces at).uids) (has_setuid c) c.uid id))
reply_plain files spaces at c (SetReUid r e) =
    stays_plain spaces at c _ (plain_uids (space_of spaces at) c _ (setreid_plain (extents_of (space_of spaces at).uids) (has_setuid c) c.uid r e))
reply_plain files spaces at c (SetResUid r e v) =
    stays_plain spaces at c _ (plain_uids (space_of spaces at) c _ (setresid_plain (extents_of (space_of spaces at).uids) (has_setuid c) c.uid r e v))
reply_plain files spaces at c (SetFsUid id) = record { ruled = tt; kept = λ e wrong. absurd (cc) }
reply_plain files spaces at c (SetGid id) =
    stays_plain spaces at c _
    (plain_gids c _ (setid_plain (extents_of (space_of spaces at).gids) (has_setgid c) c.gid id))
reply_plain files spaces at c (SetReGid r e) =
    stays_plain spaces at c _ (plain_gids c _ (setreid_plain (extents_of (space_of spaces at).gids) (has_setgid c) c.gid r e))
reply_plain files spaces at c (SetResGid r e v) =
    stays_plain spaces at c _ (plain_gids c _ (setresid_plain (extents_of (space_of spaces at).gids) (has_setgid c) c.gid r e v))
reply_plain files spaces at c (SetFsGid id) = record { ruled = tt; kept = λ e wrong. absurd (cc) }
reply_plain files spaces at c (SetGroups ids) =
    stays_plain spaces at c _ (plain_if c _ _ _ (plain_refused EPERM c tt) (plain_if c _ _ _ (plain_refused EINVAL c tt) (plain_groups c _)))
reply_plain files spaces at c (CapSet f p i) = stays_plain spaces at c _ (plain_if c _ _ _ (plain_done c _) (plain_refused EPERM c tt))
reply_plain files spaces at c (BsetDrop cap) =
    stays_plain spaces at c _ (plain_if c _ _ _ (plain_refused EPERM c tt) (plain_if c _ _ _ (plain_refused EINVAL c tt) (plain_done c _)))
reply_plain files spaces at c (AmbRaise cap) =
    stays_plain spaces at c _ (plain_if c _ _ _ (plain_refused EINVAL c tt) (plain_if c _ _ _ (plain_done c _) (plain_refused EPERM c tt)))
reply_plain files spaces at c (AmbLower cap) = stays_plain spaces at c _ (plain_if c _ _ _ (plain_refused EINVAL c tt) (plain_done c _))
reply_plain files spaces at c AmbClear = stays_plain spaces at c _ (plain_done c _)
reply_plain files spaces at c (SecureBits bits) = stays_plain spaces at c _ (plain_if c _ _ _ (plain_done c _) (plain_refused EPERM c tt))
reply_plain files spaces at c (KeepCaps argument) =
    stays_plain spaces at c _
    (plain_if c _ _ _ (plain_refused EINVAL c tt)
    (plain_if c _ _ _ (plain_refused EPERM c tt) (plain_if c _ _ _ (plain_done c _) (plain_done c _))))
reply_plain files spaces at c (NoNewPrivs argument) = stays_plain spaces at c _ (plain_if c _ _ _ (plain_done c _) (plain_refused EINVAL c tt))
reply_plain files spaces at c Fork = stays_plain spaces at c _ (plain_done c c)
reply_plain files spaces at c CloneUser = record { ruled = tt; kept = λ e wrong. absurd (let no : Done ≡ Err e = wrong in cc) }
reply_plain files spaces at c Unshare = record {
  ruled = (plain_unshare spaces at c).ruled;
  kept = λ e is. record {
    space = ap (λ (r : Res). place_after r at (length spaces)) is;
    cred = (plain_unshare spaces at c).keeps e is;
    spaces = ap (λ (r : Res). spaces_with r spaces at c) is;
  };
}
reply_plain files spaces at c (SetNs target) = record {
  ruled = (plain_join spaces at c target).ruled;
  kept = λ e is. record { space = ap (λ (r : Res). place_after r at target) is; cred = (plain_join spaces at c target).keeps e is; spaces = refl };
}
reply_plain files spaces at c (WriteUidMap target list) = writes_plain spaces at c _ (plain_map UidMap spaces at c target list)
reply_plain files spaces at c (WriteGidMap target list) = writes_plain spaces at c _ (plain_map GidMap spaces at c target list)
reply_plain files spaces at c (WriteSetgroups target deny) = writes_plain spaces at c _ (plain_word spaces at c target deny)
reply_plain files spaces at c (Exec f) =
    stays_plain spaces at c _ (plain_if c _ _ _ (plain_refused EACCES c tt) (plain_if c _ _ _ (plain_refused EPERM c tt) (plain_done c _)))
reply_plain files spaces at c Exit = stays_plain spaces at c _ (plain_done c c)
reply_plain files spaces at c (Install more) = stays_plain spaces at c _ (plain_if c _ _ _ (plain_done c c) (plain_refused EACCES c tt))

-- a refusal leaves the caller's filter too
pub filter_kept : (files : FileTable) (spaces : Spaces) (at : ℕ) (filter : Filter) (c : Credential) (call : Call) (e : Errno)
    → (reply files spaces at c call).res ≡ Err e → filter_after filter c call ≡ filter
filter_kept files spaces at filter c (Install more) e is = ap (λ (r : Res). installed r filter more) is
filter_kept files spaces at filter c _ e is = refl
