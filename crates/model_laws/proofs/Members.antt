-- Members in later runs: they are the family of the root, and whoever is none stays as it is.
use Rattle.std.proofs.Common.{arith, ◌≡◌, ◌≢◌, ℕ, ◌==◌, ◌&&◌, not, Bool, true, false, List, [], ◌∷◌, ◌++◌, filter, Some}
use Rattle.std.proofs.Common.{if◌then◌else◌, refl, sym, ap, ◌∙◌, inl, inr, subst}
use Rattle.std.specs.Prelude.{IsTrue, is_some}
use Rattle.std.proofs.lemmas.Bool.{cases_eq, eqb-true, eqb-false, eq-eqb, ne_eqb, and_parts, and_from, and_right}
use Rattle.std.proofs.lemmas.Bool.{or_cases, or_left, or_right, or_from, false_from_ne_true, not-true, not_from_false}
use Rattle.std.proofs.lemmas.Map.Views.{any-filter_same}
use Rattle.cm_base.specs.declared.res.Res.TheVariants.{Done, Child}
use Rattle.model_cred.specs.Call.{Event, Exit}
use Rattle.cm_filter.specs.declared.kind.CallKind.{CallKind}
use Rattle.model_cred.specs.IdMap.{is_the}
use Rattle.model_cred.specs.Process.{Process, State, process_at, is_alive, after_exit}
use Rattle.model_cred.specs.World.{World}
use Rattle.model_run.specs.Family.{Family, child, family}
use Rattle.model_run.specs.Later.{Later, is_member, members_after}
use Rattle.model_run.specs.Step.{Step}
use Rattle.model_laws.specs.Families.{ChainEnds, next, ChainsEnd, AreFamily, NeverExits, StepKeepsChains}
use Rattle.model_laws.specs.Families.{MembersAreFamily, MemberAt, CallersAreMembers, ChildrenAreMembers, StaysOutside}
use Rattle.model_laws.specs.Families.{OthersStay, IsForebearOutside, OthersStayWhole, StrangersStay}
use Rattle.model_laws.proofs.Effects.{Effect, Does, IsChildless, does}
use Rattle.model_laws.proofs.Reaching.{family_is}
use Rattle.model_laws.proofs.Kin.{there, alive_found, after_other, KinStay, family_stays, chain_stays, call_kin}
use Rattle.model_laws.proofs.Kin.{call_kin_back, other_after, new_after, old_after, is_old, birth_kin}
use Rattle.model_laws.proofs.Kin.{family_after_birth, rest_after, family_after_exit, family_before_exit}
use Rattle.model_laws.proofs.Kin.{chains_after_exit}

-- ---- the caller of a step, by its own pid
caller_lives : (w : World) (s : State) (e : Event) (s' : State) (d : Does w s e s') → process_at s.processes d.caller.pid ≡ Some d.caller
caller_lives w s e s' d = ap (process_at s.processes) d.named ∙ d.lives

-- ---- members after an exit
-- whoever is another is a member as before
filter_member : (members : List ℕ) (gone pid : ℕ)
    → is_member (filter (λ member. not (member == gone)) members) pid ≡ (not (pid == gone) && is_member members pid)
filter_member members gone pid =
    any-filter_same (λ member. member == pid) (λ member. not (member == gone)) (not (pid == gone))
    (λ member same. ap (λ (n : ℕ). not (n == gone)) (eqb-true member pid same)) members

member_after : (members : List ℕ) (gone pid : ℕ) → pid ≢ gone → is_member members pid ≡ true
    → is_member (filter (λ member. not (member == gone)) members) pid ≡ true
member_after members gone pid other is =
    filter_member members gone pid ∙ and_from (not (pid == gone)) (is_member members pid) (not_from_false (pid == gone) (ne_eqb pid gone other)) is

member_before : (members : List ℕ) (gone pid : ℕ)
    → is_member (filter (λ member. not (member == gone)) members) pid ≡ true
    → (pid ≢ gone) × (is_member members pid ≡ true)
member_before members gone pid is =
    let parts : (not (pid == gone) ≡ true) × (is_member members pid ≡ true)
    = and_parts (not (pid == gone)) (is_member members pid) (sym (filter_member members gone pid) ∙ is) in
    (eqb-false pid gone (not-true (pid == gone) parts.0), parts.1)

-- ---- the members are the family
family_effect : (w : World) (s : State) (e : Event) (s' : State) (root : ℕ) (members : List ℕ) (d : Does w s e s') → ChainsEnd s → AreFamily s root members
    → is_member members e.pid ≡ true → (e.pid ≡ root → e.call ≢ Exit) → Effect s.processes d.caller e.call e.res s'.processes
    → AreFamily s' root (members_after members e.pid e.call e.res)
family_effect w s e s' root members d chains are member stays (inl calls) =
    subst (AreFamily s' root) (sym (calls.members members e.pid))
    (λ pid. (
      λ is. family_stays s s' root pid (call_kin s s' d.caller (caller_lives w s e s' d) calls.space calls.cred calls.filter calls.processes) ((are pid).0 is),
      λ of_it. (are pid).1 (family_stays s' s root pid (call_kin_back s s' d.caller (caller_lives w s e s' d) calls.space calls.cred calls.filter calls.processes) of_it),
    ))
family_effect w s e s' root members d chains are member stays (inr (inl births)) =
    subst (AreFamily s' root) (sym (births.members members e.pid))
    (λ pid. (
      λ is. elim (or_cases (births.child.pid == pid) (is_member members pid) is) [
        | inl same ↦
            let parent : Family s' root d.caller.pid
            = family_stays s s' root d.caller.pid (birth_kin s s' births.child births.fresh births.processes)
            (subst (λ (n : ℕ). Family s root n) (sym d.named) ((are e.pid).0 member)) in
            subst (λ (n : ℕ). Family s' root n) (eqb-true births.child.pid pid same)
            (child births.child.pid d.caller.pid births.child (new_after s s' births.child births.fresh births.processes) births.forebear parent)
        | inr old ↦ family_stays s s' root pid (birth_kin s s' births.child births.fresh births.processes) ((are pid).0 old)
      ],
      λ of_it. elim (family_after_birth s s' births.child births.fresh births.processes chains root pid of_it) [
        | inl before ↦ or_right (births.child.pid == pid) (is_member members pid) ((are pid).1 before)
        | inr same ↦ or_left (births.child.pid == pid) (is_member members pid) (eq-eqb births.child.pid pid (sym same))
      ],
    ))
family_effect w s e s' root members d chains are member stays (inr (inr exits)) =
    subst (AreFamily s' root) (sym (exits.members members e.pid))
    (λ pid. (
      λ is.
          let parts : (pid ≢ e.pid) × (is_member members pid ≡ true) = member_before members e.pid pid is in
          elim (family_after_exit s s' d.caller (caller_lives w s e s' d) exits.processes root pid
          (λ same. stays (sym (same ∙ d.named)) exits.exit) ((are pid).0 parts.1)) [
            | inl it ↦ it.1
            | inr through ↦ absurd (parts.0 (through.same ∙ d.named))
          ],
      λ of_it.
          let parts : (pid ≢ d.caller.pid) × Family s root pid = family_before_exit s s' d.caller (caller_lives w s e s' d) exits.processes root pid of_it in
          member_after members e.pid pid (λ same. parts.0 (same ∙ sym d.named)) ((are pid).1 parts.1),
    ))

-- ---- chains of forebears
chains_effect : (w : World) (s : State) (e : Event) (s' : State) (d : Does w s e s') → ChainsEnd s
    → Effect s.processes d.caller e.call e.res s'.processes → ChainsEnd s'
chains_effect w s e s' d chains (inl calls) pid alive =
    let q : (q : Process) × (process_at s'.processes pid ≡ Some q) = there (process_at s'.processes pid) alive in
    let was = call_kin_back s s' d.caller (caller_lives w s e s' d) calls.space calls.cred calls.filter calls.processes pid q.0 q.1 in
    chain_stays s s' pid (call_kin s s' d.caller (caller_lives w s e s' d) calls.space calls.cred calls.filter calls.processes)
    (chains pid (alive_found s.processes pid was.process was.lives))
chains_effect w s e s' d chains (inr (inl births)) pid alive =
    let stay : KinStay s s' = birth_kin s s' births.child births.fresh births.processes in
    elim (cases_eq pid births.child.pid) [
      | inl same ↦
          subst (ChainEnds s') (sym same)
          (next births.child.pid d.caller.pid births.child (new_after s s' births.child births.fresh births.processes) births.forebear
          (chain_stays s s' d.caller.pid stay (chains d.caller.pid (alive_found s.processes d.caller.pid d.caller (caller_lives w s e s' d)))))
      | inr other ↦ chain_stays s s' pid stay (chains pid (sym (ap is_some (old_after s s' births.child births.fresh births.processes pid other)) ∙ alive))
    ]
chains_effect w s e s' d chains (inr (inr exits)) pid alive = chains_after_exit s s' d.caller (caller_lives w s e s' d) exits.processes chains pid alive

chains_step : (w : World) (s : State) (e : Event) (s' : State) → ChainsEnd s → Step w s e s' → ChainsEnd s'
chains_step w s e s' chains step = let d : Does w s e s' = does w s e s' step in chains_effect w s e s' d chains d.effect

pub step_keeps_chains : StepKeepsChains
unfolding StepKeepsChains
step_keeps_chains = chains_step

family_later : (permitted : CallKind → Bool) (w : World) (s : State) (members : List ℕ) (es : List Event) (s' : State) (members' : List ℕ) (root : ℕ)
    → ChainsEnd s → AreFamily s root members → NeverExits root es → Later permitted w s members es s' members' → AreFamily s' root members'
family_later permitted w s members [] s' members' root chains are stays later =
    subst (λ (t : State). AreFamily t root members') (sym later.0) (subst (AreFamily s root) (sym later.1) are)
family_later permitted w s members (e ∷ es) s' members' root chains are stays later =
    let d : Does w s e later.0 = does w s e later.0 later.3 in
    family_later permitted w later.0 (members_after members e.pid e.call e.res) es s' members' root (chains_step w s e later.0 chains later.3)
    (family_effect w s e later.0 root members d chains are later.1 stays.0 d.effect) stays.1 later.4

pub members_are_family : MembersAreFamily
unfolding MembersAreFamily
members_are_family = family_later

-- ---- callers and children
callers : (permitted : CallKind → Bool) (w : World) (s : State) (members : List ℕ) (before : List Event) (e : Event) (after : List Event) (s' : State)
    (members' : List ℕ) → Later permitted w s members (before ++ e ∷ after) s' members' → MemberAt permitted w s members before e after s' members'
callers permitted w s members [] e after s' members' later = record {
  state = s;
  members_then = members;
  earlier = (refl, refl);
  member = later.1;
  later = later;
}
callers permitted w s members (b ∷ before) e after s' members' later =
    let rest : MemberAt permitted w later.0 (members_after members b.pid b.call b.res) before e after s' members'
    = callers permitted w later.0 (members_after members b.pid b.call b.res) before e after s' members' later.4 in
    record {
      state = rest.state;
      members_then = rest.members_then;
      earlier = (later.0, later.1, later.2, later.3, rest.earlier);
      member = rest.member;
      later = rest.later;
    }

pub callers_are_members : CallersAreMembers
unfolding CallersAreMembers
callers_are_members = callers

children : (w : World) (s : State) (e : Event) (s' : State) (members : List ℕ) (n : ℕ) (d : Does w s e s') → e.res ≡ Child n
    → Effect s.processes d.caller e.call e.res s'.processes
    → IsTrue (is_member (members_after members e.pid e.call e.res) n) × IsTrue (is_alive s'.processes n)
children w s e s' members n d is (inl calls) = absurd (subst IsChildless is calls.childless)
children w s e s' members n d is (inr (inl births)) =
    let it : Child births.child.pid ≡ Child n = sym births.result ∙ is in
    let same : births.child.pid ≡ n = cc in (
      ap (λ (m : List ℕ). is_member m n) (births.members members e.pid)
          ∙ or_left (births.child.pid == n) (is_member members n) (eq-eqb births.child.pid n same),
      alive_found s'.processes n births.child (sym (ap (process_at s'.processes) same) ∙ new_after s s' births.child births.fresh births.processes),
    )
children w s e s' members n d is (inr (inr exits)) = absurd (let wrong : Done ≡ Child n = sym exits.result ∙ is in cc)

pub children_are_members : ChildrenAreMembers
unfolding ChildrenAreMembers
children_are_members w s e s' members n step is = let d : Does w s e s' = does w s e s' step in children w s e s' members n d is d.effect

-- ---- whoever isn't a member
-- two pids of which the one is a member
apart_by : (members : List ℕ) (pid caller : ℕ) → is_member members pid ≡ false → is_member members caller ≡ true → pid ≢ caller
apart_by members pid caller outside member same = let wrong : is_member members pid ≡ true = ap (is_member members) same ∙ member in cc

-- after one step: still there, with its forebear unless that exits
record StaysOne (pid : ℕ) (p : Process) (s : State) (members : List ℕ) (gone : ℕ) : Type 0 where
  outside : StaysOutside pid p s members
  whole : (p.forebear ≢ Some gone) → outside.process ≡ p

others_effect : (w : World) (s : State) (e : Event) (s' : State) (members : List ℕ) (pid : ℕ) (p : Process) (d : Does w s e s') → is_member members e.pid ≡ true
    → process_at s.processes pid ≡ Some p → is_member members pid ≡ false → Effect s.processes d.caller e.call e.res s'.processes
    → StaysOne pid p s' (members_after members e.pid e.call e.res) e.pid
others_effect w s e s' members pid p d member lives outside (inl calls) = record {
  outside = record {
    process = p;
    lives =
        other_after s s' d.caller (caller_lives w s e s' d) calls.space calls.cred calls.filter calls.processes pid
        (λ same. apart_by members pid e.pid outside member (same ∙ d.named))
        ∙ lives;
    space = refl;
    cred = refl;
    filter = refl;
    outside = ap (λ (m : List ℕ). is_member m pid) (calls.members members e.pid) ∙ outside;
  };
  whole = λ _. refl;
}
others_effect w s e s' members pid p d member lives outside (inr (inl births)) =
    let other : pid ≢ births.child.pid = is_old s s' births.child births.fresh births.processes pid p lives in
    record {
      outside = record {
        process = p;
        lives = old_after s s' births.child births.fresh births.processes pid other ∙ lives;
        space = refl;
        cred = refl;
        filter = refl;
        outside = ap (λ (m : List ℕ). is_member m pid) (births.members members e.pid)
            ∙ or_from (births.child.pid == pid) (is_member members pid) (ne_eqb births.child.pid pid (λ same. other (sym same))) outside;
      };
      whole = λ _. refl;
    }
others_effect w s e s' members pid p d member lives outside (inr (inr exits)) = record {
  outside = record {
    process = after_exit d.caller p;
    lives = rest_after s s' d.caller (caller_lives w s e s' d) exits.processes pid p (λ same. apart_by members pid e.pid outside member (same ∙ d.named)) lives;
    space = same_place d.caller p (is_the p.forebear d.caller.pid);
    cred = same_cred d.caller p (is_the p.forebear d.caller.pid);
    filter = same_filter d.caller p (is_the p.forebear d.caller.pid);
    outside =
        ap (λ (m : List ℕ). is_member m pid) (exits.members members e.pid) ∙ filter_member members e.pid pid
        ∙ and_right (not (pid == e.pid)) (is_member members pid) outside;
  };
  whole = λ other. after_other d.caller p (λ wrong. other (wrong ∙ ap (λ (n : ℕ). Some n) d.named));
}
  where
    same_place : (gone q : Process) (b : Bool) → (let r : Process = if b then record q { forebear = gone.forebear } else q in r).space ≡ q.space
    same_place gone q true = refl
    same_place gone q false = refl

    same_cred : (gone q : Process) (b : Bool) → (let r : Process = if b then record q { forebear = gone.forebear } else q in r).cred ≡ q.cred
    same_cred gone q true = refl
    same_cred gone q false = refl

    same_filter : (gone q : Process) (b : Bool) → (let r : Process = if b then record q { forebear = gone.forebear } else q in r).filter ≡ q.filter
    same_filter gone q true = refl
    same_filter gone q false = refl

others_step : (w : World) (s : State) (e : Event) (s' : State) (members : List ℕ) (pid : ℕ) (p : Process) → is_member members e.pid ≡ true → Step w s e s'
    → process_at s.processes pid ≡ Some p → is_member members pid ≡ false → StaysOne pid p s' (members_after members e.pid e.call e.res) e.pid
others_step w s e s' members pid p member step lives outside =
    let d : Does w s e s' = does w s e s' step in others_effect w s e s' members pid p d member lives outside d.effect

others_later : (permitted : CallKind → Bool) (w : World) (s : State) (members : List ℕ) (es : List Event) (s' : State)
    (members' : List ℕ) (pid : ℕ) (p : Process)
    → Later permitted w s members es s' members' → process_at s.processes pid ≡ Some p → is_member members pid ≡ false → StaysOutside pid p s' members'
others_later permitted w s members [] s' members' pid p later lives outside = record {
  process = p;
  lives = ap (λ (t : State). process_at t.processes pid) later.0 ∙ lives;
  space = refl;
  cred = refl;
  filter = refl;
  outside = ap (λ (m : List ℕ). is_member m pid) later.1 ∙ outside;
}
others_later permitted w s members (e ∷ es) s' members' pid p later lives outside =
    let now : StaysOne pid p later.0 (members_after members e.pid e.call e.res) e.pid = others_step w s e later.0 members pid p later.1 later.3 lives outside in
    let rest : StaysOutside pid now.outside.process s' members'
    = others_later permitted w later.0
    (members_after members e.pid e.call e.res) es s' members' pid now.outside.process later.4 now.outside.lives now.outside.outside in
    record {
      process = rest.process;
      lives = rest.lives;
      space = rest.space ∙ now.outside.space;
      cred = rest.cred ∙ now.outside.cred;
      filter = rest.filter ∙ now.outside.filter;
      outside = rest.outside;
    }

pub others_stay : OthersStay
unfolding OthersStay
others_stay = others_later

-- the forebear stays outside too
forebear_step : (w : World) (s : State) (e : Event) (s' : State) (members : List ℕ) (p : Process) → is_member members e.pid ≡ true → Step w s e s'
    → IsForebearOutside s members p → IsForebearOutside s' (members_after members e.pid e.call e.res) p
forebear_step w s e s' members p member step outside f forebear =
    let fore = outside f forebear in
    let q : (q : Process) × (process_at s.processes f ≡ Some q) = there (process_at s.processes f) fore.0 in
    let now : StaysOne f q.0 s' (members_after members e.pid e.call e.res) e.pid = others_step w s e s' members f q.0 member step q.1 fore.1 in
    (alive_found s'.processes f now.outside.process now.outside.lives, now.outside.outside)

whole_later : (permitted : CallKind → Bool) (w : World) (s : State) (members : List ℕ) (es : List Event) (s' : State)
    (members' : List ℕ) (pid : ℕ) (p : Process)
    → Later permitted w s members es s' members' → process_at s.processes pid ≡ Some p → is_member members pid ≡ false → IsForebearOutside s members p
    → process_at s'.processes pid ≡ Some p
whole_later permitted w s members [] s' members' pid p later lives outside fore = ap (λ (t : State). process_at t.processes pid) later.0 ∙ lives
whole_later permitted w s members (e ∷ es) s' members' pid p later lives outside fore =
    let now : StaysOne pid p later.0 (members_after members e.pid e.call e.res) e.pid = others_step w s e later.0 members pid p later.1 later.3 lives outside in
    let same : now.outside.process ≡ p = now.whole (λ wrong. apart_by members e.pid e.pid ((fore e.pid wrong).1) later.1 refl) in
    whole_later permitted w later.0 (members_after members e.pid e.call e.res) es s' members' pid p later.4
    (now.outside.lives ∙ ap (λ (q : Process). Some q) same) now.outside.outside (forebear_step w s e later.0 members p later.1 later.3 fore)

pub others_stay_whole : OthersStayWhole
unfolding OthersStayWhole
others_stay_whole = whole_later

-- ---- whoever isn't of the family
forebear_lives : (s : State) (pid f : ℕ) (p : Process) → process_at s.processes pid ≡ Some p → p.forebear ≡ Some f
    → ChainEnds s pid → is_alive s.processes f ≡ true
forebear_lives s pid f p at forebear ends = grind arith

-- who isn't of the family has no forebear in it
stranger_forebear : (s : State) (root pid : ℕ) (p : Process) → ChainsEnd s → process_at s.processes pid ≡ Some p → is_member (family s root) pid ≡ false
    → IsForebearOutside s (family s root) p
stranger_forebear s root pid p chains at outside f forebear = (
  forebear_lives s pid f p at forebear (chains pid (alive_found s.processes pid p at)),
  false_from_ne_true (is_member (family s root) f) (λ member.
      let of_it : Family s root pid = child pid f p at forebear ((family_is s root f).0 member) in
      let wrong : true ≡ false = sym ((family_is s root pid).1 of_it) ∙ outside in
      cc),
)

pub strangers_stay : StrangersStay
unfolding StrangersStay
strangers_stay permitted w s es s' members' root pid p chains later at outside =
    whole_later permitted w s (family s root) es s' members' pid p later at outside (stranger_forebear s root pid p chains at outside)
