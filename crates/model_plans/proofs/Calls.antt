-- What holds of the calls of moves: they change their caller alone, and are permitted; and they name spaces that stand, where
-- the move to join a space does.
use Rattle.std.proofs.Common.{◌≡◌, ℕ, ◌==◌, not, Bool, true, false, List, [], ◌∷◌, Option, None, Some, if◌then◌else◌}
use Rattle.std.proofs.Common.{refl, sym, ap, ◌∙◌, inl, inr, subst}
use Rattle.std.proofs.lemmas.Bool.{cases_Bool, cond-true, cond-false}
use Rattle.std.specs.Prelude.{find}
use Rattle.cm_base.specs.declared.res.FileRef.{FileRef}
use Rattle.model_cred.specs.Call.{Call, CapSet, SetNs, Exec, kind_of}
use Rattle.model_cred.specs.Credential.{Credential}
use Rattle.model_cred.specs.IdMap.{Extent, up, extents_of}
use Rattle.model_cred.specs.Space.{Space, Spaces, space_of, stands}
use Rattle.model_rules.specs.Zero.{zero_of}
use Rattle.model_run.specs.Step.{names_no_space}
use Rattle.model_plans.specs.Move.{Seat, Setting, Move, Raise, BecomeZero, BecomeSought, BecomeGroup, TakeGroup, RunFile}
use Rattle.model_plans.specs.Move.{JoinSpace, uid_calls, gid_calls, group_calls, calls_with, becoming, taking_group}
use Rattle.model_plans.specs.Move.{sought_uid, sought_gid, raising, calls_of, call_of}
use Rattle.model_plans.specs.Changes.{changes_caller_alone, CallsOfMoves}

-- it holds of each of the calls
abbrev pub Each : (Call → Type 0) → List Call → Type 0
Each P [] = Unit {0}
Each P (call ∷ calls) = P call × Each P calls

-- it holds of the calls of moves, but maybe not of setns
pub record OfCalls (P : Call → Type 0) : Type 0 where
  pub raise : (e p i : ℕ) → P (CapSet e p i)
  pub uid : (id : ℕ) → Each P (uid_calls id)
  pub gid : (id : ℕ) → Each P (gid_calls id)
  pub group : (id : ℕ) → Each P (group_calls id)
  pub exec : (file : FileRef) → P (Exec file)

-- it holds of setns, where the move is to join a space
abbrev pub OfJoin : (Call → Type 0) → Move → Type 0
OfJoin P (JoinSpace n) = P (SetNs n)
OfJoin P _ = Unit {0}

each_raising : (P : Call → Type 0) (c : Credential) → OfCalls P → Each P (raising c)
each_raising P c of =
    elim (c.effective == c.permitted) as (λ (b : Bool). Each P (if b then [] else CapSet c.permitted c.permitted c.inheritable ∷ [])) [
      | true ↦ tt
      | false ↦ (of.raise c.permitted c.permitted c.inheritable, tt)
    ]

each_with : (P : Call → Type 0) (calls : ℕ → List Call) (o : Option ℕ) → ((id : ℕ) → Each P (calls id)) → Each P (calls_with calls o)
each_with P calls None each = tt
each_with P calls (Some id) each = each id

each_becoming : (P : Call → Type 0) (calls : ℕ → List Call) (map : List Extent) (now : ℕ) (o : Option ℕ) → ((id : ℕ) → Each P (calls id))
    → Each P (becoming calls map now o)
each_becoming P calls map now None each = tt
each_becoming P calls map now (Some id) each =
    elim (now == id) as (λ (b : Bool). Each P (if b then [] else calls_with calls (up map id))) [
      | true ↦ tt
      | false ↦ each_with P calls (up map id) each
    ]

each_taking : (P : Call → Type 0) (s : Space) (o : Option ℕ) → OfCalls P → Each P (taking_group s o)
each_taking P s None of = tt
each_taking P s (Some id) of = each_with P group_calls (up (extents_of s.gids) id) of.group

each_call : (P : Call → Type 0) (q : Setting) (seat : Seat) (move : Move) → OfCalls P → OfJoin P move → Each P (calls_of q seat move)
each_call P q seat Raise of join = each_raising P seat.cred of
each_call P q seat BecomeZero of join =
    each_becoming P uid_calls (extents_of (space_of q.spaces seat.space).uids) seat.cred.uid.effective (zero_of (space_of q.spaces seat.space)) of.uid
each_call P q seat BecomeSought of join =
    each_becoming P uid_calls (extents_of (space_of q.spaces seat.space).uids) seat.cred.uid.effective (sought_uid q.spaces seat.space q.right) of.uid
each_call P q seat BecomeGroup of join =
    each_becoming P gid_calls (extents_of (space_of q.spaces seat.space).gids) seat.cred.gid.effective (sought_gid q.right) of.gid
each_call P q seat TakeGroup of join = each_taking P (space_of q.spaces seat.space) (sought_gid q.right) of
each_call P q seat (RunFile file) of join = (of.exec file, tt)
each_call P q seat (JoinSpace n) of join = (join, tt)

-- the first of the calls that passes a test
pub found_call : (P : Call → Type 0) (test : Call → Bool) (calls : List Call) (call : Call) → Each P calls → find test calls ≡ Some call
    → P call × (test call ≡ true)
found_call P test [] call each is = absurd (cc)
found_call P test (c ∷ calls) call each is =
    elim (cases_Bool (test c)) [
      | inl passes ↦
          let it : Some c ≡ Some call = sym (cond-true (test c) (Some c) (find test calls) passes) ∙ is in
          let same : c ≡ call = cc in
          subst (λ (x : Call). P x × (test x ≡ true)) same (each.0, passes)
      | inr fails ↦ found_call P test calls call each.1 (sym (cond-false (test c) (Some c) (find test calls) fails) ∙ is)
    ]

pub call_has : (P : Call → Type 0) (q : Setting) (seat : Seat) (move : Move) (call : Call) → OfCalls P → OfJoin P move → call_of q seat move ≡ Some call
    → P call × (q.permitted (kind_of call) ≡ true)
call_has P q seat move call of join is =
    found_call P (λ c. q.permitted (kind_of c)) (calls_of q seat move) call (each_call P q seat move of join) is

-- ---- they change their caller alone
abbrev IsAlone : Call → Type 0
IsAlone call = changes_caller_alone call ≡ true

alone_of : OfCalls IsAlone
alone_of = record {
  raise = λ e p i. refl;
  uid = λ id. (refl, (refl, (refl, tt)));
  gid = λ id. (refl, (refl, (refl, tt)));
  group = λ id. (refl, tt);
  exec = λ file. refl;
}

alone_join : (move : Move) → OfJoin IsAlone move
alone_join (JoinSpace n) = refl
alone_join _ = tt

pub call_plain : (q : Setting) (seat : Seat) (move : Move) (call : Call) → call_of q seat move ≡ Some call
    → (changes_caller_alone call ≡ true) × (q.permitted (kind_of call) ≡ true)
call_plain q seat move call is = call_has IsAlone q seat move call alone_of (alone_join move) is

pub calls_of_moves : CallsOfMoves
unfolding CallsOfMoves
calls_of_moves = call_plain

-- ---- they name spaces that stand
-- the space that a move is to join stands
abbrev pub JoinStands : Spaces → Move → Type 0
JoinStands spaces (JoinSpace n) = stands spaces n ≡ true
JoinStands spaces _ = Unit {0}

abbrev IsNamed : Spaces → Call → Type 0
IsNamed spaces call = names_no_space spaces call ≡ false

named_of : (spaces : Spaces) → OfCalls (IsNamed spaces)
named_of spaces = record {
  raise = λ e p i. refl;
  uid = λ id. (refl, (refl, (refl, tt)));
  gid = λ id. (refl, (refl, (refl, tt)));
  group = λ id. (refl, tt);
  exec = λ file. refl;
}

named_join : (spaces : Spaces) (move : Move) → JoinStands spaces move → OfJoin (IsNamed spaces) move
named_join spaces (JoinSpace n) there = ap not there
named_join spaces _ there = tt

pub call_named : (q : Setting) (seat : Seat) (move : Move) (call : Call) → JoinStands q.spaces move → call_of q seat move ≡ Some call
    → names_no_space q.spaces call ≡ false
call_named q seat move call there is = (call_has (IsNamed q.spaces) q seat move call (named_of q.spaces) (named_join q.spaces move there) is).0
