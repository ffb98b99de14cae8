-- What holds of the filters of processes: those of several exclude what they share, and no call takes from a filter.
use Rattle.std.proofs.Common.{◌≡◌, ℕ, ◌==◌, ◌&&◌, ◌||◌, not, Bool, true, false, List, [], ◌∷◌, Some, refl, sym, ap, ◌∙◌, inl, inr}
use Rattle.std.specs.Prelude.{IsTrue}
use Rattle.std.proofs.lemmas.Bool.{and_parts, and_from, or_cases, or_left, or_right, eqb-true, eq-eqb, not-true, not_from_false}
use Rattle.std.proofs.lemmas.Bool.{false_from_ne_true, false≢true}
use Rattle.cm_base.proofs.CapSets.{holds_union, holds_meet, same_tests}
use Rattle.cm_base.specs.declared.res.Res.{Res}
use Rattle.cm_base.specs.declared.res.Res.TheVariants.{Done, Id, Child, Err}
use Rattle.cm_filter.specs.Filters.{Filter, excludes, permits, every_kind, either, both, permitting}
use Rattle.cm_filter.specs.Kinds.{kind_number}
use Rattle.cm_filter.specs.declared.kind.CallKind.{CallKind}
use Rattle.cm_filter.specs.declared.kind.CallKind.TheVariants.{Exit}
use Rattle.model_cred.specs.Call.{Call, Install}
use Rattle.model_cred.specs.Credential.{Credential}
use Rattle.model_cred.specs.Process.{Process, State, process_at}
use Rattle.model_cred.specs.World.{World}
use Rattle.model_rules.specs.Install.{install, installed}
use Rattle.model_rules.specs.Reply.{filter_after}
use Rattle.model_run.specs.Later.{is_member}
use Rattle.model_run.specs.Own.{filter_in, filter_of, permitted_under, may_call, shared_filter, common_filter}

-- what either filter excludes
pub excludes_either : (f g : Filter) (kind : CallKind) → excludes (either f g) kind ≡ (excludes f kind || excludes g kind)
excludes_either f g kind = holds_union f g (kind_number kind)

-- what both do
pub excludes_both : (f g : Filter) (kind : CallKind) → excludes (both f g) kind ≡ (excludes f kind && excludes g kind)
excludes_both f g kind = holds_meet f g (kind_number kind)

-- the filter of each member excludes what they share
pub member_excludes : (s : State) (members : List ℕ) (pid : ℕ) (kind : CallKind) → IsTrue (is_member members pid)
    → IsTrue (excludes (shared_filter s members) kind) → IsTrue (excludes (filter_of s pid) kind)
member_excludes s [] pid kind member held = absurd (cc)
member_excludes s (m ∷ members) pid kind member held =
    let parts = and_parts (excludes (filter_of s m) kind) (excludes (shared_filter s members) kind)
    (sym (excludes_both (filter_of s m) (shared_filter s members) kind) ∙ held) in
    elim (or_cases (m == pid) (is_member members pid) member) [
      | inl same ↦ rw (eqb-true m pid same) at parts.0
      | inr more ↦ member_excludes s members pid kind more parts.1
    ]

-- an install leaves what the filter excludes
installed_excludes : (res : Res) (filter more : Filter) (kind : CallKind) → IsTrue (excludes filter kind) → IsTrue (excludes (installed res filter more) kind)
installed_excludes Done filter more kind held =
    excludes_either filter (permitting more Exit) kind ∙ or_left (excludes filter kind) (excludes (permitting more Exit) kind) held
installed_excludes (Id n) filter more kind held = held
installed_excludes (Child n) filter more kind held = held
installed_excludes (Err e) filter more kind held = held

-- so does each call
pub filter_grows : (filter : Filter) (c : Credential) (call : Call) (kind : CallKind) → IsTrue (excludes filter kind)
    → IsTrue (excludes (filter_after filter c call) kind)
filter_grows filter c (Install more) kind held = installed_excludes (install c).res filter more kind held
filter_grows filter c _ kind held = held

-- the filter of a process that is found
pub filter_found : (s : State) (pid : ℕ) (p : Process) → process_at s.processes pid ≡ Some p → filter_of s pid ≡ p.filter
filter_found s pid p at = ap filter_in at

-- What the world permits and not all members exclude is permitted in common.
pub commonly_permitted : (w : World) (s : State) (members : List ℕ) (kind : CallKind) → IsTrue (permits w.filter kind)
    → excludes (shared_filter s members) kind ≡ false → IsTrue (permits (common_filter w s members) kind)
commonly_permitted w s members kind allowed free =
    not_from_false (excludes (common_filter w s members) kind)
    (excludes_either w.filter (shared_filter s members) kind
    ∙ ap (λ (b : Bool). b || excludes (shared_filter s members) kind) (not-true (excludes w.filter kind) allowed) ∙ free)

-- what a caller may call its own filter doesn't exclude
pub own_permits : (permitted : CallKind → Bool) (s : State) (pid : ℕ) (p : Process) (kind : CallKind) → process_at s.processes pid ≡ Some p
    → IsTrue (may_call permitted s pid kind) → IsTrue (permitted kind) × (excludes p.filter kind ≡ false)
own_permits permitted s pid p kind at may =
    let parts = and_parts (permitted kind) (permits (filter_of s pid) kind) may in (
      parts.0,
      sym (ap (λ (f : Filter). excludes f kind) (filter_found s pid p at)) ∙ not-true (excludes (filter_of s pid) kind) parts.1,
    )

-- every kind is among all
pub every_kind_excludes : (kind : CallKind) → IsTrue (excludes every_kind kind)
every_kind_excludes Exit = refl
every_kind_excludes _ = refl

-- what the filters of all members exclude they share
pub shared_excludes : (s : State) (members : List ℕ) (kind : CallKind)
    → ((pid : ℕ) → IsTrue (is_member members pid) → IsTrue (excludes (filter_of s pid) kind)) → IsTrue (excludes (shared_filter s members) kind)
shared_excludes s [] kind all = every_kind_excludes kind
shared_excludes s (m ∷ members) kind all =
    excludes_both (filter_of s m) (shared_filter s members) kind
    ∙ and_from (excludes (filter_of s m) kind) (excludes (shared_filter s members) kind)
    (all m (or_left (m == m) (is_member members m) (eq-eqb m m refl)))
    (shared_excludes s members kind (λ pid member. all pid (or_right (m == pid) (is_member members pid) member)))

-- members with the same filters in two states share the same
pub shared_alike : (s t : State) (members : List ℕ) → ((pid : ℕ) → IsTrue (is_member members pid) → filter_of s pid ≡ filter_of t pid)
    → shared_filter s members ≡ shared_filter t members
shared_alike s t [] alike = refl
shared_alike s t (m ∷ members) alike =
    ap (λ (f : Filter). both f (shared_filter s members)) (alike m (or_left (m == m) (is_member members m) (eq-eqb m m refl)))
    ∙ ap (both (filter_of t m)) (shared_alike s t members (λ pid member. alike pid (or_right (m == pid) (is_member members pid) member)))

-- what either filter excludes isn't permitted
not_either : (a b : Bool) → not (a || b) ≡ (not a && not b)
not_either true b = refl
not_either false b = refl

-- A member may call what is permitted in common where the filters of all members are as its own.
pub common_is_own : (w : World) (s : State) (members : List ℕ) (pid : ℕ) (p : Process) (kind : CallKind) → IsTrue (is_member members pid)
    → process_at s.processes pid ≡ Some p
    → ((other : ℕ) → IsTrue (is_member members other) → IsTrue (excludes p.filter kind) → IsTrue (excludes (filter_of s other) kind))
    → permits (common_filter w s members) kind ≡ permitted_under p.filter (permits w.filter) kind
common_is_own w s members pid p kind member at same =
    ap not (excludes_either w.filter (shared_filter s members) kind
    ∙ ap (λ (b : Bool). excludes w.filter kind || b)
    (same_tests (excludes (shared_filter s members) kind) (excludes p.filter kind)
    (λ held. sym (ap (λ (f : Filter). excludes f kind) (filter_found s pid p at)) ∙ member_excludes s members pid kind member held)
    (λ held. shared_excludes s members kind (λ other it. same other it held))))
    ∙ not_either (excludes w.filter kind) (excludes p.filter kind)

-- Whatever a member may call is permitted in common.
pub own_is_common : (w : World) (s : State) (members : List ℕ) (pid : ℕ) (kind : CallKind) → IsTrue (is_member members pid)
    → IsTrue (may_call (permits w.filter) s pid kind) → IsTrue (permits (common_filter w s members) kind)
own_is_common w s members pid kind member may =
    let parts = and_parts (permits w.filter kind) (permits (filter_of s pid) kind) may in
    commonly_permitted w s members kind parts.0
    (false_from_ne_true (excludes (shared_filter s members) kind) (λ held.
    false≢true (sym (not-true (excludes (filter_of s pid) kind) parts.1) ∙ member_excludes s members pid kind member held)))
