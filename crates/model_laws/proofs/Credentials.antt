-- Each call keeps what a credential keeps.
use Rattle.std.proofs.Common.{◌≡◌, ℕ, ◌^◌, ◌<◌, ◌≤◌, ◌==◌, ◌&&◌, ◌||◌, not, Bool, true, false, List, Option, Some, None}
use Rattle.std.proofs.Common.{if◌then◌else◌, refl, sym, ap, ◌∙◌, inl, inr, subst, arith, lit<}
use Rattle.std.specs.Prelude.{Result, Ok, IsTrue, nat_lt, All, IfSome, option_and_then, option_map, slice_get}
use Rattle.std.specs.Prelude.{unwrap_or, bit_and}
use Rattle.std.specs.declared.result.Result.TheVariants.{Err}
use Rattle.std.proofs.lemmas.Bool.{eqb-true, and_parts, or_cases}
use Rattle.std.proofs.lemmas.List.Elements.{All-get_or}
use Rattle.std.proofs.lemmas.Nat.{and_le_l, and_le_r, or_lt, xor_lt}
use Rattle.std.proofs.lemmas.Option.{slice_get_within, get_or_from_slice_get}
use Rattle.cm_base.specs.CapSet.{is_within, IsCapSet, union, meet, minus, none, with, without, holds}
use Rattle.cm_base.specs.declared.errno.Errno.{Errno}
use Rattle.cm_base.specs.declared.errno.Errno.TheVariants.{EPERM, EINVAL, ENOSPC, EACCES}
use Rattle.cm_base.specs.declared.res.FileRef.{FileRef}
use Rattle.cm_base.specs.declared.res.FileRef.TheVariants.{Row, Plain}
use Rattle.cm_base.proofs.CapSets.{within_reflexive, within_transitive, none_within, within_meet, meet_within_first}
use Rattle.cm_base.proofs.CapSets.{meet_within_second, second_within_union, union_within, minus_within}
use Rattle.cm_base.proofs.CapSets.{within_from_members, member_of_wider, holds_with, union_is_cap_set, meet_is_cap_set}
use Rattle.cm_base.proofs.CapSets.{minus_is_cap_set}
use Rattle.model_cred.specs.Credential.{Credential, FourIds, Keeps, AreIds, AscendFrom, IsId, id_set}
use Rattle.model_cred.specs.Files.{FileTable, FileRow, Mount, MapPair, KeepsFiles, KeepsRow, KeepsMount, KeepsPair}
use Rattle.model_cred.specs.IdMap.{Extent, HasIds, extents_of, down, up}
use Rattle.model_cred.specs.Space.{Space, Spaces, KeepsSpace}
use Rattle.model_rules.specs.Answer.{Answer, done, refused}
use Rattle.model_rules.specs.CapCalls.{capset, may_capset, has_setpcap, bset_drop, amb_raise, may_raise, amb_lower}
use Rattle.model_rules.specs.CapCalls.{amb_clear, secure_bits, set_keep_caps, set_no_new_privs, with_keep_caps}
use Rattle.model_rules.specs.CapCalls.{without_keep_caps}
use Rattle.model_rules.specs.Caps.{fs_caps, last_cap}
use Rattle.model_rules.specs.Exec.{FileSets, execve, cred_after, uids_after, gids_after, with_effective, with_sets}
use Rattle.model_rules.specs.Exec.{permitted_after, ambient_after, sets_for, is_privileged, setuid_counts}
use Rattle.model_rules.specs.Exec.{setgid_counts, run_file, interpreter_of}
use Rattle.model_rules.specs.FileView.{FileView, view, view_in, view_if, view_on, plain_view, id_on, mount_uids, mount_gids}
use Rattle.model_rules.specs.Fixups.{fixed_up, fs_fixed_up, following_effective, following_fs, after_losing_root, without_root}
use Rattle.model_rules.specs.Install.{install}
use Rattle.model_rules.specs.Namespaces.{as_newcomer, unshare, join}
use Rattle.model_rules.specs.Securebits.{has_flag, keep_caps, no_setuid_fixup}
use Rattle.model_rules.specs.SetGroups.{all_down, with_groups, setgroups}
use Rattle.model_rules.specs.SetId.{with_uids, with_gids, has_setuid, has_setgid, setfsid, setfsuid, setfsgid}
use Rattle.model_rules.specs.Zero.{is_zero, has_zero}
use Rattle.model_cred.proofs.IdSets.{set_ascends}
use Rattle.model_laws.proofs.Ids.{either, down_id, GivesIds, setfsid_ids, all_down_ids}

-- a set within a set of capabilities is one
pub within_is_cap_set : (a b : ℕ) → IsTrue (is_within a b) → IsCapSet b → IsCapSet a
within_is_cap_set a b within small =
    let e : bit_and a b ≡ a = eqb-true (bit_and a b) a within in
    let le : bit_and a b ≤ b = and_le_r a b in
    omega arith

-- a credential keeps what it keeps with other permitted, effective and ambient sets that are included as they must be
pub keeps_sets : (c : Credential) (p e a : ℕ) → Keeps c → IsCapSet p → IsTrue (is_within e p) → IsTrue (is_within a p)
    → IsTrue (is_within a c.inheritable) → Keeps (record c { permitted = p; effective = e; ambient = a })
keeps_sets c p e a keeps small effective ambient inherited = search

-- with another effective set
keeps_effective : (c : Credential) (e : ℕ) → Keeps c → IsTrue (is_within e c.permitted) → Keeps (record c { effective = e })
keeps_effective c e keeps within =
    keeps_sets c c.permitted e c.ambient keeps keeps.permitted within keeps.included.ambient_permitted keeps.included.ambient_inheritable

-- with another ambient set
keeps_ambient : (c : Credential) (a : ℕ) → Keeps c → IsTrue (is_within a c.permitted) → IsTrue (is_within a c.inheritable) → Keeps (record c { ambient = a })
keeps_ambient c a keeps permitted inherited = keeps_sets c c.permitted c.effective a keeps keeps.permitted keeps.included.effective permitted inherited

-- with other ids, groups, bounding set and securebits
keeps_others : (c : Credential) (uids gids : FourIds) (groups : List ℕ) (b bits : ℕ) → Keeps c → AreIds uids → AreIds gids → AscendFrom 0 groups
    → IsCapSet b → bits < 2 ^ 8 → Keeps (record c { uid = uids; gid = gids; groups = groups; bounding = b; securebits = bits })
keeps_others c uids gids groups b bits keeps are_uids are_gids ascends small few = search

-- with other user ids
pub keeps_uids : (c : Credential) (ids : FourIds) → Keeps c → AreIds ids → Keeps (record c { uid = ids })
keeps_uids c ids keeps are =
    keeps_others c ids c.gid c.groups c.bounding c.securebits keeps are keeps.gid keeps.groups keeps.bounding keeps.securebits

-- with other group ids
keeps_gids : (c : Credential) (ids : FourIds) → Keeps c → AreIds ids → Keeps (record c { gid = ids })
keeps_gids c ids keeps are =
    keeps_others c c.uid ids c.groups c.bounding c.securebits keeps keeps.uid are keeps.groups keeps.bounding keeps.securebits

-- with other groups
keeps_groups : (c : Credential) (groups : List ℕ) → Keeps c → AscendFrom 0 groups → Keeps (record c { groups = groups })
keeps_groups c groups keeps ascends =
    keeps_others c c.uid c.gid groups c.bounding c.securebits keeps keeps.uid keeps.gid ascends keeps.bounding keeps.securebits

-- with another bounding set
keeps_bounding : (c : Credential) (b : ℕ) → Keeps c → IsCapSet b → Keeps (record c { bounding = b })
keeps_bounding c b keeps small =
    keeps_others c c.uid c.gid c.groups b c.securebits keeps keeps.uid keeps.gid keeps.groups small keeps.securebits

-- with other securebits
keeps_bits : (c : Credential) (bits : ℕ) → Keeps c → bits < 2 ^ 8 → Keeps (record c { securebits = bits })
keeps_bits c bits keeps few =
    keeps_others c c.uid c.gid c.groups c.bounding bits keeps keeps.uid keeps.gid keeps.groups keeps.bounding few

-- with no_new_privs set
keeps_flag : (c : Credential) (flag : Bool) → Keeps c → Keeps (record c { no_new_privs = flag })
keeps_flag c flag keeps = search

-- ---- the fixups
keeps_without_root : (c : Credential) → Keeps c → Keeps (without_root c)
keeps_without_root c keeps = grind arith

keeps_losing : (s : Space) (old : FourIds) (c : Credential) → Keeps c → Keeps (after_losing_root s old c)
keeps_losing s old c keeps = either Keeps (has_zero s old && not (has_zero s c.uid)) (without_root c) c (keeps_without_root c keeps) keeps

keeps_following : (s : Space) (old : FourIds) (c : Credential) → Keeps c → Keeps (following_effective s old c)
keeps_following s old c keeps =
    either Keeps (is_zero s old.effective && not (is_zero s c.uid.effective)) (record c { effective = none })
    (if not (is_zero s old.effective) && is_zero s c.uid.effective then record c { effective = c.permitted } else c)
    (keeps_effective c none keeps (none_within c.permitted))
    (either Keeps (not (is_zero s old.effective) && is_zero s c.uid.effective) (record c { effective = c.permitted }) c
    (keeps_effective c c.permitted keeps (within_reflexive c.permitted)) keeps)

pub keeps_fixed : (s : Space) (old : FourIds) (c : Credential) → Keeps c → Keeps (fixed_up s old c)
keeps_fixed s old c keeps =
    either Keeps (has_flag c no_setuid_fixup) c (following_effective s old (after_losing_root s old c)) keeps
    (keeps_following s old (after_losing_root s old c) (keeps_losing s old c keeps))

keeps_following_fs : (s : Space) (old : ℕ) (c : Credential) → Keeps c → Keeps (following_fs s old c)
keeps_following_fs s old c keeps =
    either Keeps (is_zero s old && not (is_zero s c.uid.fs)) (record c { effective = minus c.effective fs_caps })
    (if not (is_zero s old) && is_zero s c.uid.fs then record c { effective = union c.effective (meet c.permitted fs_caps) } else c)
    (keeps_effective c (minus c.effective fs_caps) keeps
    (within_transitive (minus c.effective fs_caps) c.effective c.permitted (minus_within c.effective fs_caps) keeps.included.effective))
    (either Keeps (not (is_zero s old) && is_zero s c.uid.fs) (record c { effective = union c.effective (meet c.permitted fs_caps) }) c
    (keeps_effective c (union c.effective (meet c.permitted fs_caps)) keeps
    (union_within c.effective (meet c.permitted fs_caps) c.permitted keeps.included.effective (meet_within_first c.permitted fs_caps))) keeps)

keeps_fs_fixed : (s : Space) (old : ℕ) (c : Credential) → Keeps c → Keeps (fs_fixed_up s old c)
keeps_fs_fixed s old c keeps = either Keeps (has_flag c no_setuid_fixup) c (following_fs s old c) keeps (keeps_following_fs s old c keeps)

-- ---- answers
-- the credential that an answer leaves keeps what a credential keeps
pub record Good (a : Answer) : Type 0 where
  pub cred : Keeps a.cred

good_done : (c : Credential) → Keeps c → Good (done c)
good_done c keeps = record { cred = keeps }

good_refused : (e : Errno) (c : Credential) → Keeps c → Good (refused e c)
good_refused e c keeps = record { cred = keeps }

good_if : (b : Bool) (x y : Answer) → (b ≡ true → Good x) → (b ≡ false → Good y) → Good (if b then x else y)
good_if true x y first second = first refl
good_if false x y first second = second refl

good_either : (b : Bool) (x y : Answer) → Good x → Good y → Good (if b then x else y)
good_either true x y first second = first
good_either false x y first second = second

pub good_uids : (s : Space) (c : Credential) (r : Result FourIds Errno) → Keeps c → GivesIds r → Good (with_uids s c r)
good_uids s c (Ok ids) keeps gives =
    good_done (fixed_up s c.uid (record c { uid = ids }))
    (keeps_fixed s c.uid (record c { uid = ids }) (keeps_uids c ids keeps (gives.ids ids refl)))
good_uids s c (Err e) keeps gives = good_refused e c keeps

pub good_gids : (c : Credential) (r : Result FourIds Errno) → Keeps c → GivesIds r → Good (with_gids c r)
good_gids c (Ok ids) keeps gives = good_done (record c { gid = ids }) (keeps_gids c ids keeps (gives.ids ids refl))
good_gids c (Err e) keeps gives = good_refused e c keeps

pub good_setfsuid : (s : Space) (c : Credential) (id : ℕ) → KeepsSpace s → Keeps c → Good (setfsuid s c id)
good_setfsuid s c id space keeps = record {
  cred = keeps_fs_fixed s c.uid.fs (record c { uid = setfsid (extents_of s.uids) (has_setuid c) c.uid id })
      (keeps_uids c (setfsid (extents_of s.uids) (has_setuid c) c.uid id) keeps (setfsid_ids (extents_of s.uids) (has_setuid c) c.uid id space.uids keeps.uid));
}

pub good_setfsgid : (s : Space) (c : Credential) (id : ℕ) → KeepsSpace s → Keeps c → Good (setfsgid s c id)
good_setfsgid s c id space keeps = record {
  cred =
      keeps_gids c (setfsid (extents_of s.gids) (has_setgid c) c.gid id) keeps
      (setfsid_ids (extents_of s.gids) (has_setgid c) c.gid id space.gids keeps.gid);
}

good_groups : (c : Credential) (o : Option (List ℕ)) → Keeps c → ((ids : List ℕ) → o ≡ Some ids → All IsId ids) → Good (with_groups c o)
good_groups c None keeps small = good_refused EINVAL c keeps
good_groups c (Some ids) keeps small = good_done (record c { groups = id_set ids }) (keeps_groups c (id_set ids) keeps (set_ascends ids (small ids refl)))

pub good_setgroups : (s : Space) (c : Credential) (ids : List ℕ) → KeepsSpace s → Keeps c → Good (setgroups s c ids)
good_setgroups s c ids space keeps =
    good_either _ _ _ (good_refused EPERM c keeps)
    (good_either _ _ _ (good_refused EINVAL c keeps)
    (good_groups c (all_down (extents_of s.gids) ids) keeps (λ out is. all_down_ids (extents_of s.gids) ids out space.gids is)))

-- the four facts of new sets that capset allows
pub good_capset : (c : Credential) (e p i : ℕ) → Keeps c → Good (capset c e p i)
good_capset c e p i keeps =
    good_if (may_capset c e p i) _ _ (λ may.
    let first
    = and_parts ((has_setpcap c || is_within i (union c.inheritable c.permitted))
    && is_within i (union c.inheritable c.bounding) && is_within p c.permitted)
    (is_within e p) may in
    let second
    = and_parts ((has_setpcap c || is_within i (union c.inheritable c.permitted))
    && is_within i (union c.inheritable c.bounding))
    (is_within p c.permitted) first.0 in
    let third = and_parts (has_setpcap c || is_within i (union c.inheritable c.permitted)) (is_within i (union c.inheritable c.bounding)) second.0 in
    record {
      cred = record {
        included = record {
          effective = first.1;
          ambient_permitted =
              within_transitive (meet (meet c.ambient p) i) (meet c.ambient p) p
              (meet_within_first (meet c.ambient p) i) (meet_within_second c.ambient p);
          ambient_inheritable = meet_within_second (meet c.ambient p) i;
        };
        uid = keeps.uid;
        gid = keeps.gid;
        groups = keeps.groups;
        inheritable = within_is_cap_set i (union c.inheritable c.bounding) third.1 (union_is_cap_set c.inheritable c.bounding keeps.inheritable keeps.bounding);
        permitted = within_is_cap_set p c.permitted second.1 keeps.permitted;
        bounding = keeps.bounding;
        securebits = keeps.securebits;
      };
    })
    (λ _. good_refused EPERM c keeps)

pub good_bset_drop : (c : Credential) (cap : ℕ) → Keeps c → Good (bset_drop c cap)
good_bset_drop c cap keeps =
    good_either _ _ _ (good_refused EPERM c keeps)
    (good_either _ _ _ (good_refused EINVAL c keeps)
    (good_done (record c { bounding = without c.bounding cap })
    (keeps_bounding c (without c.bounding cap) keeps (minus_is_cap_set c.bounding (2 ^ cap) keeps.bounding))))

-- a set and a capability that are both within another are within it together
with_within : (a k b : ℕ) → IsTrue (is_within a b) → IsTrue (holds b k) → IsTrue (is_within (with a k) b)
with_within a k b within held =
    within_from_members (with a k) b (λ c is.
    elim (or_cases (holds a c) (c == k) (sym (holds_with a k c) ∙ is)) [
      | inl member ↦ member_of_wider a b within c member
      | inr same ↦ let e : c ≡ k = eqb-true c k same in ap (holds b) e ∙ held
    ])

pub good_amb_raise : (c : Credential) (cap : ℕ) → Keeps c → Good (amb_raise c cap)
good_amb_raise c cap keeps =
    good_if (nat_lt last_cap cap) _ _ (λ _. good_refused EINVAL c keeps)
    (λ _. good_if (may_raise c cap) _ _ (λ may.
    let first = and_parts (holds c.permitted cap && holds c.inheritable cap) (not (has_flag c 64)) may in
    let second = and_parts (holds c.permitted cap) (holds c.inheritable cap) first.0 in
    good_done (record c { ambient = with c.ambient cap })
    (keeps_ambient c (with c.ambient cap) keeps (with_within c.ambient cap c.permitted keeps.included.ambient_permitted second.0)
    (with_within c.ambient cap c.inheritable keeps.included.ambient_inheritable second.1)))
    (λ _. good_refused EPERM c keeps))

pub good_amb_lower : (c : Credential) (cap : ℕ) → Keeps c → Good (amb_lower c cap)
good_amb_lower c cap keeps =
    good_if (nat_lt last_cap cap) _ _ (λ _. good_refused EINVAL c keeps)
    (λ _. good_done (record c { ambient = without c.ambient cap })
    (keeps_ambient c (without c.ambient cap) keeps
    (within_transitive (without c.ambient cap) c.ambient c.permitted (minus_within c.ambient (2 ^ cap)) keeps.included.ambient_permitted)
    (within_transitive (without c.ambient cap) c.ambient c.inheritable (minus_within c.ambient (2 ^ cap)) keeps.included.ambient_inheritable)))

pub good_amb_clear : (c : Credential) → Keeps c → Good (amb_clear c)
good_amb_clear c keeps = good_done (record c { ambient = none }) (keeps_ambient c none keeps (none_within c.permitted) (none_within c.inheritable))

pub good_secure_bits : (c : Credential) (bits : ℕ) → Keeps c → Good (secure_bits c bits)
good_secure_bits c bits keeps = grind arith

keeps_without_keep_caps : (c : Credential) → Keeps c → Keeps (without_keep_caps c)
keeps_without_keep_caps c keeps =
    keeps_bits c (minus c.securebits keep_caps) keeps
    (xor_lt 8 c.securebits (bit_and c.securebits keep_caps) keeps.securebits
    (let le : bit_and c.securebits keep_caps ≤ c.securebits = and_le_l c.securebits keep_caps in
    let small : c.securebits < 2 ^ 8 = keeps.securebits in
    omega arith))

pub good_keep_caps : (c : Credential) (argument : ℕ) → Keeps c → Good (set_keep_caps c argument)
good_keep_caps c argument keeps =
    good_either _ _ _ (good_refused EINVAL c keeps)
    (good_either _ _ _ (good_refused EPERM c keeps)
    (good_either (argument == 0) _ _ (good_done (without_keep_caps c) (keeps_without_keep_caps c keeps))
    (good_done (with_keep_caps c) (keeps_bits c (union c.securebits keep_caps) keeps (or_lt 8 c.securebits 16 keeps.securebits (lit< tt))))))

pub good_no_new_privs : (c : Credential) (argument : ℕ) → Keeps c → Good (set_no_new_privs c argument)
good_no_new_privs c argument keeps =
    good_either _ _ _ (good_done (record c { no_new_privs = true }) (keeps_flag c true keeps)) (good_refused EINVAL c keeps)

pub good_install : (c : Credential) → Keeps c → Good (install c)
good_install c keeps = good_either _ _ _ (good_done c keeps) (good_refused EACCES c keeps)

pub keeps_newcomer : (c : Credential) → Keeps c → Keeps (as_newcomer c)
keeps_newcomer c keeps = grind arith

pub good_unshare : (spaces : Spaces) (at : ℕ) (c : Credential) → Keeps c → Good (unshare spaces at c)
good_unshare spaces at c keeps =
    good_either _ _ _ (good_refused ENOSPC c keeps)
    (good_either _ _ _ (good_refused EPERM c keeps) (good_done (as_newcomer c) (keeps_newcomer c keeps)))

pub good_join : (spaces : Spaces) (at : ℕ) (c : Credential) (target : ℕ) → Keeps c → Good (join spaces at c target)
good_join spaces at c target keeps =
    good_either _ _ _ (good_refused EINVAL c keeps)
    (good_either _ _ _ (good_refused EPERM c keeps) (good_done (as_newcomer c) (keeps_newcomer c keeps)))

-- ---- execve
-- owner and group of a file as it is seen are ids
record GoodView (f : FileView) : Type 0 where
  owner : (id : ℕ) → f.owner ≡ Some id → IsId id
  group : (id : ℕ) → f.group ≡ Some id → IsId id

id_on_id : (fs : List Extent) (o : Option (List Extent)) (id out : ℕ) → IsId id
    → ((map : List Extent) → o ≡ Some map → HasIds map) → id_on fs o id ≡ Some out → IsId out
id_on_id fs None id out small has is = let e : id ≡ out = cc in omega arith
id_on_id fs (Some map) id out small has is = through (up fs id) is
  where
    through : (u : Option ℕ) → option_and_then (down map) u ≡ Some out → IsId out
    through None wrong = absurd (cc)
    through (Some k) it = down_id map k out (has map refl) it

-- the maps of an idmapped mount have ids
mount_uids_ids : (o : Option MapPair) → IfSome o KeepsPair → (map : List Extent) → option_map (λ m. m.uids) o ≡ Some map → HasIds map
mount_uids_ids None keeps map wrong = absurd (cc)
mount_uids_ids (Some pair) keeps map is = let e : pair.uids ≡ map = cc in subst HasIds e keeps.uids

mount_gids_ids : (o : Option MapPair) → IfSome o KeepsPair → (map : List Extent) → option_map (λ m. m.gids) o ≡ Some map → HasIds map
mount_gids_ids None keeps map wrong = absurd (cc)
mount_gids_ids (Some pair) keeps map is = let e : pair.gids ≡ map = cc in subst HasIds e keeps.gids

good_on : (m : Mount) (f : FileRow) → KeepsMount m → KeepsRow f → GoodView (view_on m f)
good_on m f mount row = record {
  owner = λ id is. id_on_id m.fs.uids (mount_uids m) f.uid id row.uid (mount_uids_ids m.map mount.map) is;
  group = λ id is. id_on_id m.fs.gids (mount_gids m) f.gid id row.gid (mount_gids_ids m.map mount.map) is;
}

good_plain : GoodView plain_view
good_plain = record { owner = λ id wrong. absurd (cc); group = λ id wrong. absurd (cc) }

good_view_if : (o : Option Mount) (f : FileRow) → ((m : Mount) → o ≡ Some m → KeepsMount m) → KeepsRow f → GoodView (view_if o f)
good_view_if None f mounts row = good_plain
good_view_if (Some m) f mounts row = good_on m f (mounts m refl) row

-- what is found in a list holds what each of it holds
found_holds : {A : Type 0} (P : A → Type 0) (xs : List A) (k : ℕ) (x : A) → All P xs → slice_get xs k ≡ Some x → P x
found_holds P xs k x all is = subst P (get_or_from_slice_get xs k x x is) (All-get_or P xs k x (slice_get_within xs k x is) all)

good_view_in : (files : FileTable) (o : Option FileRow) → KeepsFiles files → ((f : FileRow) → o ≡ Some f → KeepsRow f) → GoodView (view_in files o)
good_view_in files None keeps rows = good_plain
good_view_in files (Some f) keeps rows =
    good_view_if (slice_get files.mounts f.mount) f (λ m is. found_holds KeepsMount files.mounts f.mount m keeps.mounts is) (rows f refl)

good_view : (files : FileTable) (row : ℕ) → KeepsFiles files → GoodView (view files row)
good_view files row keeps = good_view_in files (slice_get files.rows row) keeps (λ f is. found_holds KeepsRow files.rows row f keeps.rows is)

good_run_file : (files : FileTable) (f : FileRef) → KeepsFiles files → GoodView (run_file files f)
good_run_file files (Row row) keeps = good_view files (unwrap_or (interpreter_of files row) row) keeps
good_run_file files Plain keeps = good_plain

-- the default or the number that is there
unwrap_id : (o : Option ℕ) (id : ℕ) → ((k : ℕ) → o ≡ Some k → IsId k) → IsId id → IsId (unwrap_or o id)
unwrap_id None id there default = default
unwrap_id (Some k) id there default = there k refl

ids_with_effective : (old : FourIds) (id : ℕ) → AreIds old → IsId id → AreIds (with_effective old id)
ids_with_effective old id are small = record { real = are.real; effective = small; saved = small; fs = small }

-- the sets after execve
keeps_exec_sets : (c : Credential) (f : FileSets) (a : ℕ) → Keeps c → IsTrue (is_within a c.ambient) → Keeps (with_sets c f a)
keeps_exec_sets c f a keeps within =
    let permitted : IsTrue (is_within a c.permitted) = within_transitive a c.ambient c.permitted within keeps.included.ambient_permitted in
    let inherited : IsTrue (is_within a c.inheritable) = within_transitive a c.ambient c.inheritable within keeps.included.ambient_inheritable in
    let gained : ℕ = union (union (meet c.inheritable f.inheritable) (meet f.permitted c.bounding)) a in
    let small : IsCapSet gained
    = union_is_cap_set (union (meet c.inheritable f.inheritable) (meet f.permitted c.bounding)) a
    (union_is_cap_set (meet c.inheritable f.inheritable) (meet f.permitted c.bounding)
    (meet_is_cap_set c.inheritable f.inheritable keeps.inheritable)
    (within_is_cap_set (meet f.permitted c.bounding) c.bounding (meet_within_second f.permitted c.bounding) keeps.bounding))
    (within_is_cap_set a c.permitted permitted keeps.permitted) in
    let in_gained : IsTrue (is_within a gained) = second_within_union (union (meet c.inheritable f.inheritable) (meet f.permitted c.bounding)) a in
    let in_after : IsTrue (is_within a (permitted_after c f a))
    = either (λ set. IsTrue (is_within a set)) c.no_new_privs (meet gained c.permitted) gained
    (within_meet gained c.permitted a in_gained permitted) in_gained in
    keeps_sets c (permitted_after c f a) (if f.effective then permitted_after c f a else a) a keeps
    (either IsCapSet c.no_new_privs (meet gained c.permitted) gained (meet_is_cap_set gained c.permitted small) small)
    (either (λ set. IsTrue (is_within set (permitted_after c f a))) f.effective (permitted_after c f a) a (within_reflexive (permitted_after c f a)) in_after)
    in_after inherited

keeps_cred_after : (spaces : Spaces) (at : ℕ) (c : Credential) (f : FileView) → GoodView f → Keeps c → Keeps (cred_after spaces at c f)
keeps_cred_after spaces at c f view keeps =
    let ambient : ℕ = ambient_after c (is_privileged spaces at c f) in
    let within : IsTrue (is_within ambient c.ambient)
    = either (λ set. IsTrue (is_within set c.ambient)) (is_privileged spaces at c f) none c.ambient (none_within c.ambient) (within_reflexive c.ambient) in
    let sets : Credential = with_sets c (sets_for spaces at c f) ambient in
    let kept : Keeps (without_keep_caps sets) = keeps_without_keep_caps sets (keeps_exec_sets c (sets_for spaces at c f) ambient keeps within) in
    keeps_gids (record (without_keep_caps sets) { uid = uids_after spaces at c f }) (gids_after spaces at c f)
    (keeps_uids (without_keep_caps sets) (uids_after spaces at c f) kept
    (ids_with_effective c.uid (if setuid_counts spaces at c f then unwrap_or f.owner c.uid.effective else c.uid.effective) keeps.uid
    (either IsId (setuid_counts spaces at c f) (unwrap_or f.owner c.uid.effective) c.uid.effective
    (unwrap_id f.owner c.uid.effective view.owner keeps.uid.effective) keeps.uid.effective)))
    (ids_with_effective c.gid (if setgid_counts spaces at c f then unwrap_or f.group c.gid.effective else c.gid.effective) keeps.gid
    (either IsId (setgid_counts spaces at c f) (unwrap_or f.group c.gid.effective) c.gid.effective
    (unwrap_id f.group c.gid.effective view.group keeps.gid.effective) keeps.gid.effective))

pub good_execve : (files : FileTable) (spaces : Spaces) (at : ℕ) (c : Credential) (f : FileRef) → KeepsFiles files → Keeps c → Good (execve files spaces at c f)
good_execve files spaces at c f has keeps =
    good_either _ _ _ (good_refused EACCES c keeps)
    (good_either _ _ _ (good_refused EPERM c keeps)
    (good_done (cred_after spaces at c (run_file files f)) (keeps_cred_after spaces at c (run_file files f) (good_run_file files f has) keeps)))
