-- For a settled family what the bounds allow is found by a plan.
use Rattle.std.proofs.Common.{◌≡◌, ℕ, suc, ◌<◌, ◌==◌, ◌&&◌, ◌||◌, Bool, true, false, List, [], ◌∷◌, Option, None, Some, length}
use Rattle.std.proofs.Common.{if◌then◌else◌, refl, sym, ap, ◌∙◌, inl, inr, subst, arith}
use Rattle.std.specs.Prelude.{IsTrue, is_some, All, unwrap_or}
use Rattle.std.specs.List.{list_any}
use Rattle.std.proofs.lemmas.Bool.{and_parts, and_from, or_cases, or_left, or_right, eqb-true, eq-eqb, false≢true}
use Rattle.cm_base.specs.CapSet.{holds}
use Rattle.cm_filter.specs.Filters.{Filter, excludes, permits}
use Rattle.cm_filter.specs.declared.kind.CallKind.{CallKind}
use Rattle.cm_filter.specs.declared.kind.CallKind.TheVariants as kind
use Rattle.model_cred.specs.Credential.{Credential, is_one_of_three}
use Rattle.model_cred.specs.IdMap.{Extent, extents_of}
use Rattle.model_cred.specs.Process.{Process, State, process_at}
use Rattle.model_cred.specs.Right.{Right, Cap, Uid, Gid}
use Rattle.model_cred.specs.Space.{Space, Spaces, space_at, space_of, no_space, chain}
use Rattle.model_cred.specs.World.{World}
use Rattle.model_cred.proofs.Chains.{is_the_same}
use Rattle.model_rules.specs.Power.{has_over, gives_power, is_owned}
use Rattle.model_run.specs.Holds.{holds_right, holds_for}
use Rattle.model_run.specs.Later.{is_member}
use Rattle.model_run.specs.Own.{filter_in, permitted_under, common_filter}
use Rattle.model_run.proofs.Filters.{common_is_own, every_kind_excludes}
use Rattle.model_box.specs.Row.{EffectiveUids, EffectiveGids, Groups, Row, Standing, Fresh}
use Rattle.model_box.specs.Covers.{StateFits}
use Rattle.model_box.specs.Laws.{tested}
use Rattle.model_box.specs.Meets.{MeetsAt, Meets}
use Rattle.model_box.specs.Spread.{IsNext}
use Rattle.model_box.proofs.Excludes.{all_named, tree_earlier}
use Rattle.model_box.proofs.Monotone.{meets_more}
use Rattle.model_box.proofs.Trees.{at_or_above_self}
use Rattle.model_plans.specs.Effects.{StandsFor}
use Rattle.model_plans.specs.Move.{Seat, seat_of, Setting, BecomeSought, BecomeGroup, sought_uid}
use Rattle.model_plans.specs.PlanRun.{setting_in}
use Rattle.model_plans.specs.Sought.{OwnersAreSought}
use Rattle.model_plans.specs.Walk.{after_moves}
use Rattle.model_plans.proofs.Becomes.{becomes_are_done}
use Rattle.model_plans.proofs.Owners.{owners_are_sought}
use Rattle.model_verdict.specs.Back.{TakesBack, TakeBack}
use Rattle.model_verdict.specs.Decides.{FoundIn, SettledIsFound, SettledDecides, SettledIsNeverOpen}
use Rattle.model_verdict.specs.Settled.{SettledIn, IsPlain, AreWritten}
use Rattle.model_verdict.proofs.Members.{any_at, MemberIn, some_which}
use Rattle.model_verdict.proofs.SettledBounds.{may_map, reached, reached_test, uid_calls_permitted, gid_calls_permitted, reached_encloses, test_reached}
use Rattle.model_verdict.proofs.SettledPlans.{of_uid, of_cap, of_gid, last_alone, after_alone, sought_stays, holds_now, holds_after}

-- ---- tests
any_of_three : (a b c : Bool) → (a || b || c) ≡ true → (c || b || a) ≡ true
any_of_three true b c some = or_right (c || b) true refl
any_of_three false true c some = or_left (c || true) false (or_right c true refl)
any_of_three false false c some = or_left (c || false) false (or_left c false some)

-- an id that a written map may hold has an inside id
written_map : (o : Option (List Extent)) (id : ℕ) → is_some o ≡ true → TakesBack (extents_of o) → may_map o id ≡ true
    → (inside : ℕ) × StandsFor (extents_of o) inside id
written_map None id wrong back mapped = absurd (cc)
written_map (Some map) id written back mapped = back id mapped

pub no_outside : TakesBack []
no_outside id wrong = absurd (false≢true wrong)

pub all_spaces : (P : Space → Type 0) (spaces : Spaces) (n : ℕ) → P no_space → All P spaces → P (space_of spaces n)
all_spaces P [] n none all = none
all_spaces P (t ∷ older) n none all =
    elim (n == length older) as (λ (b : Bool). P (unwrap_or (if b then Some t else space_at older n) no_space)) [
      | true ↦ all 0 t (omega arith)
      | false ↦ all_spaces P older n none (λ k d low. all (suc k) d (omega arith))
    ]

-- who owns the next space on the way down has each capability over the space
owner_has : (spaces : Spaces) (at m n cap : ℕ) (c : Credential) → IsNext spaces at n m → c.uid.effective ≡ (space_of spaces m).owner
    → has_over spaces at c cap n ≡ true
owner_has spaces at m n cap c (above, parent) owner =
    any_at (gives_power spaces at c.effective c.uid.effective cap) (chain spaces n) m above
    (or_right (m == at && holds c.effective cap) (is_owned at c.uid.effective (space_at spaces m)) (by (space_at spaces m) parent owner))
  where
    by : (o : Option Space) → (unwrap_or o no_space).parent ≡ Some at → c.uid.effective ≡ (unwrap_or o no_space).owner → is_owned at c.uid.effective o ≡ true
    by None wrong owns = absurd (cc)
    by (Some t) is owns = and_from _ _ (is_the_same t.parent at is) (eq-eqb t.owner c.uid.effective (sym owns))

module _ (w : World) (s : State) (members : List ℕ) (fits : StateFits s) (maps : All TakeBack s.spaces) (settled : SettledIn w s members) where
  -- what the members may call together
  abbrev permitted : CallKind → Bool
  permitted = permits (common_filter w s members)

  -- with equal filters each of them may call it
  calls : (pid : ℕ) (p : Process) → IsTrue (is_member members pid) → process_at s.processes pid ≡ Some p
      → permitted ≡ permitted_under p.filter (permits w.filter)
  calls pid p member at = λ i kind. common_is_own w s members pid p kind member at
      (λ other it held. by_filter kind held (process_at s.processes other) (λ q is. settled.same pid p member at other q it is)) i where
        by_filter : (kind : CallKind) → IsTrue (excludes p.filter kind) → (o : Option Process) → ((q : Process) → o ≡ Some q → p.filter ≡ q.filter)
            → IsTrue (excludes (filter_in o) kind)
        by_filter kind held None same = every_kind_excludes kind
        by_filter kind held (Some q) same = subst (λ (f : Filter). IsTrue (excludes f kind)) (same q refl) held

  -- ---- one member
  module _ (right : Right) (pid : ℕ) (p : Process) (member : IsTrue (is_member members pid)) (at : process_at s.processes pid ≡ Some p) where
    abbrev q : Setting
    q = setting_in (permits w.filter) w s right p

    plain : IsPlain s.spaces p
    plain = settled.plain pid p member at

    written : AreWritten (space_of s.spaces p.space)
    written =
        plain.written p.space
        (at_or_above_self s.spaces (tree_earlier s.spaces fits.tree) p.space
        (all_named (λ (x : Process). x.space < length s.spaces) s.processes fits.stands pid p at))

    has_maps : TakeBack (space_of s.spaces p.space)
    has_maps = all_spaces TakeBack s.spaces p.space (record { uids = no_outside; gids = no_outside }) maps

    no_raise : p.cred.effective ≡ p.cred.permitted
    no_raise = plain.has_none.effective ∙ sym plain.has_none.permitted

    -- one of its three user ids becomes the effective one
    becomes_uid : (id : ℕ) → sought_uid s.spaces p.space right ≡ Some id → uid_calls_permitted permitted ≡ true
        → may_map (space_of s.spaces p.space).uids id ≡ true → is_one_of_three p.cred.uid id ≡ true
        → (after_moves q (seat_of p) (last_alone BecomeSought)).cred.uid.effective ≡ id
    becomes_uid id sought may mapped own =
        let up = written_map (space_of s.spaces p.space).uids id written.uids has_maps.uids mapped in
        ap (λ ids. ids.effective) (after_alone q (seat_of p) BecomeSought no_raise).uid
        ∙ becomes_are_done.sought q (seat_of p) up.0 id sought
        (record {
          mapped = up.1;
          allowed = inr own;
          permitted = subst (λ (may : CallKind → Bool). (may kind.SetResUid || may kind.SetReUid || may kind.SetUid) ≡ true) (calls pid p member at)
              (any_of_three (permitted kind.SetUid) (permitted kind.SetReUid) (permitted kind.SetResUid) may);
        })

    -- and leaves it in its space
    sought_here : (after_moves q (seat_of p) (last_alone BecomeSought)).space ≡ p.space
    sought_here = (after_alone q (seat_of p) BecomeSought no_raise).space ∙ sought_stays q (seat_of p) no_raise

  becomes_gid : (id pid : ℕ) (p : Process) → IsTrue (is_member members pid) → process_at s.processes pid ≡ Some p → gid_calls_permitted permitted ≡ true
      → may_map (space_of s.spaces p.space).gids id ≡ true → is_one_of_three p.cred.gid id ≡ true
      → (after_moves (setting_in (permits w.filter) w s (Gid id) p) (seat_of p) (last_alone BecomeGroup)).cred.gid.effective ≡ id
  becomes_gid id pid p member at may mapped own =
      let up = written_map (space_of s.spaces p.space).gids id (written (Gid id) pid p member at).gids (has_maps (Gid id) pid p member at).gids mapped in
      ap (λ ids. ids.effective)
      (after_alone (setting_in (permits w.filter) w s (Gid id) p) (seat_of p) BecomeGroup (no_raise (Gid id) pid p member at)).gid
      ∙ becomes_are_done.group (setting_in (permits w.filter) w s (Gid id) p) (seat_of p) up.0 id refl
      (record {
        mapped = up.1;
        allowed = inr own;
        permitted = subst (λ (may : CallKind → Bool). (may kind.SetResGid || may kind.SetReGid || may kind.SetGid) ≡ true) (calls pid p member at)
            (any_of_three (permitted kind.SetGid) (permitted kind.SetReGid) (permitted kind.SetResGid) may);
      })

  -- who holds a right now
  found_now : (right : Right) (pid : ℕ) (p : Process) → IsTrue (is_member members pid) → process_at s.processes pid ≡ Some p
      → holds_right s.spaces p.space p.cred right ≡ true → FoundIn w s members right
  found_now right pid p member at holds =
      holds_now (permits w.filter) w s members right pid member (ap (λ (o : Option Process). holds_for s.spaces o right) at ∙ holds)

  -- ---- the three rights
  uid_found : (id n : ℕ) → IsTrue (reached permitted s members (Standing n) EffectiveUids id) → FoundIn w s members (Uid id)
  uid_found id n held = elim (or_cases _ _ held) [
    | inl now ↦
        let it : MemberIn s members n (λ c. id == c.uid.effective) = some_which s members n (λ c. id == c.uid.effective) now in
        found_now (Uid id) it.pid it.p it.member it.at (eq-eqb it.p.cred.uid.effective id (sym (eqb-true id it.p.cred.uid.effective it.passes)))
    | inr later ↦
        let two = and_parts _ _ later in
        let both = and_parts _ _ two.0 in
        let it : MemberIn s members n (λ c. is_one_of_three c.uid id) = some_which s members n (λ c. is_one_of_three c.uid id) two.1 in
        holds_after (permits w.filter) w s members (Uid id) it.pid it.p BecomeSought it.member it.at (of_uid id)
        (eq-eqb _ id
        (becomes_uid (Uid id) it.pid it.p it.member it.at id refl both.0
        (subst (λ (m : ℕ). may_map (space_of s.spaces m).uids id ≡ true) (sym it.space) both.1) it.passes))
  ]

  gid_found : (id n : ℕ) → IsTrue (reached permitted s members (Standing n) EffectiveGids id) → FoundIn w s members (Gid id)
  gid_found id n held = elim (or_cases _ _ held) [
    | inl now ↦
        let it : MemberIn s members n (λ c. id == c.gid.effective) = some_which s members n (λ c. id == c.gid.effective) now in
        found_now (Gid id) it.pid it.p it.member it.at
        (or_left _ (list_any (λ group. group == id) it.p.cred.groups)
        (eq-eqb it.p.cred.gid.effective id (sym (eqb-true id it.p.cred.gid.effective it.passes))))
    | inr later ↦
        let two = and_parts _ _ later in
        let both = and_parts _ _ two.0 in
        let it : MemberIn s members n (λ c. is_one_of_three c.gid id) = some_which s members n (λ c. is_one_of_three c.gid id) two.1 in
        let done = becomes_gid id it.pid it.p it.member it.at both.0
        (subst (λ (m : ℕ). may_map (space_of s.spaces m).gids id ≡ true) (sym it.space) both.1) it.passes in
        holds_after (permits w.filter) w s members (Gid id) it.pid it.p BecomeGroup it.member it.at (of_gid id)
        (or_left _ _ (eq-eqb _ id done))
  ]

  group_found : (id n : ℕ) → IsTrue (reached permitted s members (Standing n) Groups id) → FoundIn w s members (Gid id)
  group_found id n held =
      let it : MemberIn s members n (λ c. list_any (λ group. group == id) c.groups)
      = some_which s members n (λ c. list_any (λ group. group == id) c.groups) held in
      found_now (Gid id) it.pid it.p it.member it.at (or_right (it.p.cred.gid.effective == id) _ it.passes)

  cap_found : (cap n a m : ℕ) → IsNext s.spaces a n m → IsTrue (reached permitted s members (Standing a) EffectiveUids (space_of s.spaces m).owner)
      → FoundIn w s members (Cap cap n)
  unfolding OwnersAreSought
  cap_found cap n a m next held = elim (or_cases _ _ held) [
    | inl now ↦
        let it : MemberIn s members a (λ c. owner == c.uid.effective) = some_which s members a (λ c. owner == c.uid.effective) now in
        found_now (Cap cap n) it.pid it.p it.member it.at
        (owner_has s.spaces it.p.space m n cap it.p.cred (here it.p it.space) (sym (eqb-true owner it.p.cred.uid.effective it.passes)))
    | inr later ↦
        let two = and_parts _ _ later in
        let both = and_parts _ _ two.0 in
        let it : MemberIn s members a (λ c. is_one_of_three c.uid owner) = some_which s members a (λ c. is_one_of_three c.uid owner) two.1 in
        let end : Seat = after_moves (setting_in (permits w.filter) w s (Cap cap n) it.p) (seat_of it.p) (last_alone BecomeSought) in
        let stays : end.space ≡ it.p.space = sought_here (Cap cap n) it.pid it.p it.member it.at in
        let effective : end.cred.uid.effective ≡ owner
        = becomes_uid (Cap cap n) it.pid it.p it.member it.at owner
        ((owners_are_sought s.spaces it.p.space cap n fits.tree).owner m (here it.p it.space)) both.0
        (subst (λ (k : ℕ). may_map (space_of s.spaces k).uids owner ≡ true) (sym it.space) both.1) it.passes in
        holds_after (permits w.filter) w s members (Cap cap n) it.pid it.p BecomeSought it.member it.at (of_cap cap n)
        (owner_has s.spaces end.space m n cap end.cred
        (subst (λ (k : ℕ). IsNext s.spaces k n m) (sym stays) (here it.p it.space)) effective)
  ] where
    owner : ℕ
    owner = (space_of s.spaces m).owner

    here : (p : Process) → p.space ≡ a → IsNext s.spaces p.space n m
    here p same = subst (λ (k : ℕ). IsNext s.spaces k n m) (sym same) next

  -- what the bounds of a settled family meet is found
  met_found : (right : Right) (row : Row) → MeetsAt s.spaces (λ r part x. IsTrue (reached permitted s members r part x)) right row
      → FoundIn w s members right
  met_found (Cap cap n) (Standing a) (inl (above, has, held)) = absurd (false≢true held)
  met_found (Cap cap n) (Standing a) (inr (m, next, held)) = cap_found cap n a m next held
  met_found (Cap cap n) (Fresh a) wrong = absurd wrong
  met_found (Uid id) (Standing n) held = uid_found id n held
  met_found (Uid id) (Fresh n) wrong = absurd (false≢true wrong)
  met_found (Gid id) (Standing n) (inl held) = gid_found id n held
  met_found (Gid id) (Standing n) (inr held) = group_found id n held
  met_found (Gid id) (Fresh n) (inl wrong) = absurd (false≢true wrong)
  met_found (Gid id) (Fresh n) (inr wrong) = absurd (false≢true wrong)

-- what all bounds meet is found
pub settled_is_found : SettledIsFound
unfolding SettledIsFound
settled_is_found w s members right fits maps settled all =
    let may : CallKind → Bool = permits (common_filter w s members) in
    let met : Meets s.spaces (tested (reached_test may s members)) right
    = all (reached_test may s members) (reached_encloses may w.files s members settled fits.tree fits) in
    let here : Meets s.spaces (λ r part x. IsTrue (reached may s members r part x)) right
    = meets_more s.spaces (tested (reached_test may s members)) (λ r part x. IsTrue (reached may s members r part x))
    (test_reached may w.files s members settled fits.tree) right met in
    met_found w s members fits maps settled right here.0 here.2

pub settled_decides : SettledDecides
unfolding SettledDecides SettledIsFound
settled_decides w s members right least fits maps settled is met =
    settled_is_found w s members right fits maps settled
    (λ bounds encloses. meets_more s.spaces (tested least) (tested bounds) (is.within bounds encloses) right met)

pub settled_is_never_open : SettledIsNeverOpen
unfolding SettledIsNeverOpen SettledIsFound
settled_is_never_open w s members right fits maps settled open_on =
    let (found, is) = settled_is_found w s members right fits maps settled open_on.met in
    let no : Some found ≡ None = sym is ∙ open_on.unfound in
    absurd (cc)
