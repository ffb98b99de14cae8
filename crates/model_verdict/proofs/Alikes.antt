-- On what a verdict depends.
use Rattle.std.proofs.Common.{◌≡◌, ℕ, zero, suc, Bool, true, false, List, Option, None, Some, option_map, refl, sym, ap, ◌∙◌, inl, inr, subst}
use Rattle.std.specs.Prelude.{IsTrue}
use Rattle.cm_filter.specs.Filters.{Filter, permits, either}
use Rattle.cm_filter.specs.declared.kind.CallKind.{CallKind}
use Rattle.model_cred.specs.Credential.{Credential}
use Rattle.model_cred.specs.Files.{FileTable}
use Rattle.cm_base.specs.CapSet.{none}
use Rattle.model_cred.specs.Process.{Process, State, process_at}
use Rattle.model_cred.specs.Right.{Right}
use Rattle.model_cred.specs.Space.{Spaces, space_of, is_at_or_above}
use Rattle.model_cred.specs.World.{World}
use Rattle.model_rules.specs.Securebits.{has_flag, noroot}
use Rattle.model_rules.specs.Zero.{has_zero}
use Rattle.model_run.specs.Family.{family}
use Rattle.model_run.specs.Later.{is_member}
use Rattle.model_run.specs.Own.{filter_in, common_filter}
use Rattle.model_run.proofs.Filters.{shared_alike}
use Rattle.model_box.specs.Row.{Part, Row, Standing, Fresh, CredHas, IsWithin}
use Rattle.model_box.specs.Covers.{StateFits}
use Rattle.model_box.specs.Encloses.{Encloses}
use Rattle.model_box.specs.Files.{is_program}
use Rattle.model_box.specs.Laws.{tested}
use Rattle.model_box.specs.Start.{StartHas}
use Rattle.model_box.proofs.Monotone.{adds_more, meets_more, meets_at_more}
use Rattle.model_box.proofs.Starts.{covers_start, holds_start}
use Rattle.model_plans.specs.Move.{Seat, seat_of}
use Rattle.model_plans.specs.PlanRun.{first_found}
use Rattle.model_plans.specs.Shortcuts.{AreSeatedAlike, MembersSeatsDecide}
use Rattle.model_plans.proofs.Isolated.{members_seats_decide}
use Rattle.model_verdict.specs.Least.{Test, Says, IsLeast, AllMeet}
use Rattle.model_verdict.specs.Sweep.{turn_at, swept}
use Rattle.model_verdict.specs.Blame.{Blame, AtStart, ByTurn, IsBlame}
use Rattle.model_verdict.specs.Settled.{EachMember, HasNone, IsPlain, Settled, SettledIn, serves, NoneServes, RootGainsNone, ProgramsGiveNone}
use Rattle.model_verdict.specs.Verdict.{Verdict, No, Yes, Undecided, VerdictIn, BlameIn}
use Rattle.model_verdict.specs.Decides.{AllMeetIn, LeastIn}
use Rattle.model_verdict.specs.Alike.{SameVerdict, AlikeFamilies}

-- a process at the same seat, under the same filter
record Like (p : Process) (o : Option Process) : Type 0 where
  other : Process
  is : o ≡ Some other
  space : p.space ≡ other.space
  cred : p.cred ≡ other.cred
  filter : p.filter ≡ other.filter

like : (p : Process) (o : Option Process) → Some (seat_of p) ≡ option_map seat_of o → p.filter ≡ filter_in o → Like p o
like p None same filter = absurd (cc)
like p (Some other) same filter =
    let one : seat_of p ≡ seat_of other = cc in
    record { other = other; is = refl; space = ap (λ (x : Seat). x.space) one; cred = ap (λ (x : Seat). x.cred) one; filter = filter }

-- the test says what bounds of the same meaning hold
says_same : (below : Test) (one two : Row → Part → ℕ → Type 0) → IsWithin one two → IsWithin two one → Says below one → Says below two
says_same below one two forth back says row part x =
    (λ held. forth row part x ((says row part x).0 held), λ held. (says row part x).1 (back row part x held))

-- ---- two states over the same spaces
abbrev state_of : List Process → Spaces → State
state_of ps spaces = record { processes = ps; spaces = spaces }

module _ (spaces : Spaces) (ps qs : List Process) (members : List ℕ) (seated : AreSeatedAlike (state_of ps spaces) (state_of qs spaces) members) where
  like_in : (pid : ℕ) (p : Process) → IsTrue (is_member members pid) → process_at ps pid ≡ Some p → Like p (process_at qs pid)
  like_in pid p member at =
      like p (process_at qs pid) (sym (ap (option_map seat_of) at) ∙ (seated pid member).0) (sym (ap filter_in at) ∙ (seated pid member).1)

  start_like : IsWithin (StartHas (state_of ps spaces) members) (StartHas (state_of qs spaces) members)
  start_like (Standing n) part x (inl (pid, p, member, at, space, has)) =
      let it : Like p (process_at qs pid) = like_in pid p member at in
      inl (pid, it.other, member, it.is, sym it.space ∙ space, subst (λ (c : Credential). CredHas c part x) it.cred has)
  start_like (Standing n) part x (inr maps) = inr maps
  start_like (Fresh n) part x wrong = wrong

  -- what is so of each member of the second state is so of each of the first, where it rests on seats alone
  each_like : (P : Process → Type 0) → ((p other : Process) → p.space ≡ other.space → p.cred ≡ other.cred → P other → P p)
      → EachMember (state_of qs spaces) members P → EachMember (state_of ps spaces) members P
  each_like P more all pid p member at =
      let it : Like p (process_at qs pid) = like_in pid p member at in
      more p it.other it.space it.cred (all pid it.other member it.is)

plain_like : (spaces : Spaces) (p other : Process) → p.space ≡ other.space → p.cred ≡ other.cred → IsPlain spaces other → IsPlain spaces p
plain_like spaces p other space cred it = record {
  has_none = subst HasNone (sym cred) it.has_none;
  written = λ n above. it.written n (subst (λ (m : ℕ). IsTrue (is_at_or_above spaces n m)) space above);
}

-- ---- one way
module _ (permitted : CallKind → Bool) (files : FileTable) (spaces : Spaces) (ps qs : List Process) (members : List ℕ) (right : Right)
    (forth : AreSeatedAlike (state_of ps spaces) (state_of qs spaces) members) (back : AreSeatedAlike (state_of qs spaces) (state_of ps spaces) members) where
  abbrev s : State
  s = record { processes = ps; spaces = spaces }

  abbrev t : State
  t = record { processes = qs; spaces = spaces }

  abbrev starts : IsWithin (StartHas s members) (StartHas t members)
  starts = start_like spaces ps qs members forth

  abbrev starts_back : IsWithin (StartHas t members) (StartHas s members)
  starts_back = start_like spaces qs ps members back

  encloses_like : StateFits t → (bounds : Test) → Encloses permitted files s members (tested bounds) → Encloses permitted files t members (tested bounds)
  encloses_like fits bounds it = record {
    closed = it.closed;
    covers = covers_start t members (tested bounds) fits (λ row standing part x has.
        holds_start s members (tested bounds) it.covers row standing part x (starts_back row part x has));
  }

  swept_like : (k : ℕ) → IsWithin (swept permitted files s members k) (swept permitted files t members k)
  swept_like zero row part x has = starts row part x has
  swept_like (suc k) row part x (inl has) = inl (swept_like k row part x has)
  swept_like (suc k) row part x (inr (same, added)) = inr (
    same,
    adds_more permitted files spaces (swept permitted files s members k) (swept permitted files t members k) (swept_like k)
        (turn_at spaces k).rule (turn_at spaces k).row part x added,
  )

  settled_like : Settled permitted files t members → Settled permitted files s members
  settled_like it = record {
    plain = each_like spaces ps qs members forth (IsPlain spaces) (plain_like spaces) it.plain;
    excluded = it.excluded;
    programs = programs it.programs;
    same = λ pid p member at other q member_too at_too.
        let one : Like p (process_at qs pid) = like_in spaces ps qs members forth pid p member at in
        let two : Like q (process_at qs other) = like_in spaces ps qs members forth other q member_too at_too in
        one.filter ∙ it.same pid one.other member one.is other two.other member_too two.is ∙ sym two.filter;
  } where
    serves_like : NoneServes files t members → NoneServes files s members
    serves_like none =
        each_like spaces ps qs members forth (λ p. (row : ℕ) → IsTrue (is_program files row) → serves files spaces p.space row ≡ false)
        (λ p other space cred given row program. subst (λ (n : ℕ). serves files spaces n row ≡ false) (sym space) (given row program)) none

    root_like : RootGainsNone t members → RootGainsNone s members
    root_like (inl zero_none) =
        inl (each_like spaces ps qs members forth (λ p. has_zero (space_of spaces p.space) p.cred.uid ≡ false)
        (λ p other space cred given. ap (λ (n : ℕ). has_zero (space_of spaces n) p.cred.uid) space
        ∙ ap (λ (c : Credential). has_zero (space_of spaces other.space) c.uid) cred ∙ given) zero_none)
    root_like (inr (inl all)) =
        inr (inl (each_like spaces ps qs members forth (λ p. has_flag p.cred noroot ≡ true)
        (λ p other space cred given. ap (λ (c : Credential). has_flag c noroot) cred ∙ given) all))
    root_like (inr (inr all)) =
        inr (inr (each_like spaces ps qs members forth (λ p. p.cred.bounding ≡ none)
        (λ p other space cred given. ap (λ (c : Credential). c.bounding) cred ∙ given) all))

    programs : ProgramsGiveNone files t members → ProgramsGiveNone files s members
    programs (inl all) =
        inl (each_like spaces ps qs members forth (λ p. p.cred.no_new_privs ≡ true)
        (λ p other space cred given. ap (λ (c : Credential). c.no_new_privs) cred ∙ given) all)
    programs (inr (none_serve, root)) = inr (serves_like none_serve, root_like root)

-- ---- what rests on both ways
module _ (permitted : CallKind → Bool) (files : FileTable) (spaces : Spaces) (ps qs : List Process) (members : List ℕ) (right : Right)
    (forth : AreSeatedAlike (state_of ps spaces) (state_of qs spaces) members) (back : AreSeatedAlike (state_of qs spaces) (state_of ps spaces) members) where
  least_like : StateFits (state_of ps spaces) → StateFits (state_of qs spaces) → (bounds : Test)
      → IsLeast permitted files (state_of ps spaces) members bounds → IsLeast permitted files (state_of qs spaces) members bounds
  least_like fits fits_too bounds it = record {
    encloses = encloses_like permitted files spaces ps qs members right forth back fits_too bounds it.encloses;
    within = λ other given. it.within other (encloses_like permitted files spaces qs ps members right back forth fits other given);
  }

  blame_like : (blame : Blame) (below : Test) → IsBlame permitted files (state_of ps spaces) members right blame below
      → IsBlame permitted files (state_of qs spaces) members right blame below
  blame_like (AtStart row) below (first, says) = (
    record {
      standing = first.standing;
      meets = meets_at_more spaces _ _ (start_like spaces ps qs members forth) right row first.meets;
      first = λ earlier less met. first.first earlier less (meets_at_more spaces _ _ (start_like spaces qs ps members back) right earlier met);
    },
    says_same below _ _ (start_like spaces ps qs members forth) (start_like spaces qs ps members back) says,
  )
  blame_like (ByTurn turn) below (k, is, first, says) = (
    k,
    is,
    record {
      before = λ j low met. first.before j low
          (meets_more spaces _ _ (swept_like permitted files spaces qs ps members right back forth j) right met);
      meets = meets_more spaces _ _ (swept_like permitted files spaces ps qs members right forth back (suc k)) right first.meets;
    },
    says_same below _ _ (swept_like permitted files spaces ps qs members right forth back k)
        (swept_like permitted files spaces qs ps members right back forth k) says,
  )

  all_meet_like : StateFits (state_of ps spaces) → AllMeet permitted files (state_of ps spaces) members right
      → AllMeet permitted files (state_of qs spaces) members right
  all_meet_like fits all bounds given = all bounds (encloses_like permitted files spaces qs ps members right back forth fits bounds given)

-- what the members may call together
same_common : (w : World) (spaces : Spaces) (ps qs : List Process) (members : List ℕ) → AreSeatedAlike (state_of ps spaces) (state_of qs spaces) members
    → common_filter w (state_of ps spaces) members ≡ common_filter w (state_of qs spaces) members
same_common w spaces ps qs members forth =
    ap (either w.filter) (shared_alike (state_of ps spaces) (state_of qs spaces) members (λ pid member. (forth pid member).1))

-- ---- in a world, one way
module _ (w : World) (spaces : Spaces) (ps qs : List Process) (members : List ℕ) (right : Right)
    (forth : AreSeatedAlike (state_of ps spaces) (state_of qs spaces) members) (back : AreSeatedAlike (state_of qs spaces) (state_of ps spaces) members)
    (fits : StateFits (state_of ps spaces)) (fits_too : StateFits (state_of qs spaces)) where
  abbrev may : CallKind → Bool
  may = permits (common_filter w (state_of ps spaces) members)

  least_in : (bounds : Test) → LeastIn w (state_of ps spaces) members bounds → LeastIn w (state_of qs spaces) members bounds
  least_in bounds it =
      subst (λ (f : Filter). IsLeast (permits f) w.files (state_of qs spaces) members bounds) (same_common w spaces ps qs members forth)
      (least_like may w.files spaces ps qs members right forth back fits fits_too bounds it)

  blame_in : (blame : Blame) (below : Test) → BlameIn w (state_of ps spaces) members right blame below → BlameIn w (state_of qs spaces) members right blame below
  blame_in blame below it =
      subst (λ (f : Filter). IsBlame (permits f) w.files (state_of qs spaces) members right blame below) (same_common w spaces ps qs members forth)
      (blame_like may w.files spaces ps qs members right forth back blame below it)

  all_meet_in : AllMeetIn w (state_of ps spaces) members right → AllMeetIn w (state_of qs spaces) members right
  all_meet_in all =
      subst (λ (f : Filter). AllMeet (permits f) w.files (state_of qs spaces) members right) (same_common w spaces ps qs members forth)
      (all_meet_like may w.files spaces ps qs members right forth back fits all)

  settled_in : SettledIn w (state_of ps spaces) members → SettledIn w (state_of qs spaces) members
  settled_in it =
      subst (λ (f : Filter). Settled (permits f) w.files (state_of qs spaces) members) (same_common w spaces ps qs members forth)
      (settled_like may w.files spaces qs ps members right back forth it)

  verdict_in : first_found (permits w.filter) w (state_of ps spaces) members right ≡ first_found (permits w.filter) w (state_of qs spaces) members right
      → (verdict : Verdict) → VerdictIn w (state_of ps spaces) members right verdict → VerdictIn w (state_of qs spaces) members right verdict
  verdict_in found (No x) is = sym found ∙ is
  verdict_in found (Yes bounds) (none_found, least, apart) = (sym found ∙ none_found, least_in bounds least, apart)
  verdict_in found (Undecided blame below) (none_found, met, is) = (sym found ∙ none_found, all_meet_in met, blame_in blame below is)

-- ---- all of it
same_verdict : (w : World) (spaces : Spaces) (ps qs : List Process) (members : List ℕ) (right : Right)
    → StateFits (state_of ps spaces) → StateFits (state_of qs spaces) → AreSeatedAlike (state_of ps spaces) (state_of qs spaces) members
    → SameVerdict w (state_of ps spaces) (state_of qs spaces) members members right
unfolding MembersSeatsDecide
same_verdict w spaces ps qs members right fits fits_too forth =
    let back : AreSeatedAlike (state_of qs spaces) (state_of ps spaces) members = λ pid member. (sym (forth pid member).0, sym (forth pid member).1) in
    let found : first_found (permits w.filter) w (state_of ps spaces) members right ≡ first_found (permits w.filter) w (state_of qs spaces) members right
    = members_seats_decide (permits w.filter) w (state_of ps spaces) (state_of qs spaces) members right refl forth in
    record {
      verdict = λ verdict. (
        verdict_in w spaces ps qs members right forth back fits fits_too found verdict,
        verdict_in w spaces qs ps members right back forth fits_too fits (sym found) verdict,
      );
      found = found;
      least = λ bounds. (
        least_in w spaces ps qs members right forth back fits fits_too bounds,
        least_in w spaces qs ps members right back forth fits_too fits bounds,
      );
      blame = λ blame below. (
        blame_in w spaces ps qs members right forth back fits fits_too blame below,
        blame_in w spaces qs ps members right back forth fits_too fits blame below,
      );
      settled = (
        settled_in w spaces ps qs members right forth back fits fits_too,
        settled_in w spaces qs ps members right back forth fits_too fits,
      );
    }

pub alike_families : AlikeFamilies
unfolding AlikeFamilies
alike_families w s t root right fits fits_too alike =
    subst (λ (others : List ℕ). SameVerdict w s t (family s root) others right) alike.pids
    (subst (λ (spaces : Spaces). StateFits (state_of t.processes spaces)
    → SameVerdict w s (state_of t.processes spaces) (family s root) (family s root) right) alike.spaces
    (λ given. same_verdict w s.spaces s.processes t.processes (family s root) right fits given alike.members)
    fits_too)
