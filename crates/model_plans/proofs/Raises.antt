-- A raise is never refused.
use Rattle.std.proofs.Common.{◌≡◌, ℕ, ◌==◌, true, List, [], ◌∷◌, Option, None, Some, ap, ◌∙◌, inl, inr}
use Rattle.std.specs.Prelude.{find}
use Rattle.std.proofs.lemmas.Bool.{cases_Bool, cond-true, cond-false, eqb-true, and_from, or_right}
use Rattle.cm_base.proofs.CapSets.{within_reflexive, first_within_union}
use Rattle.cm_base.specs.CapSet.{is_within, union, meet}
use Rattle.cm_filter.specs.declared.kind.CallKind.TheVariants as kind
use Rattle.model_cred.specs.Call.{Call, CapSet, kind_of}
use Rattle.model_cred.specs.Credential.{Credential, Included}
use Rattle.model_rules.specs.Answer.{Answer, done, refused}
use Rattle.model_rules.specs.CapCalls.{capset, may_capset, with_capset, has_setpcap}
use Rattle.cm_base.specs.declared.errno.Errno.TheVariants.{EPERM}
use Rattle.model_plans.specs.Move.{Seat}
use Rattle.model_plans.specs.Walk.{seat_after}
use Rattle.model_plans.specs.Effects.{RaisesAreDone}

-- the call of a raise is allowed
may_raise_all : (c : Credential) → may_capset c c.permitted c.permitted c.inheritable ≡ true
may_raise_all c =
    and_from _ _
    (and_from _ _
    (and_from _ _
    (or_right (has_setpcap c) (is_within c.inheritable (union c.inheritable c.permitted)) (first_within_union c.inheritable c.permitted))
    (first_within_union c.inheritable c.bounding))
    (within_reflexive c.permitted))
    (within_reflexive c.permitted)

-- and leaves the ambient set
ambient_stays : (c : Credential) → Included c → meet (meet c.ambient c.permitted) c.inheritable ≡ c.ambient
ambient_stays c in_it =
    let one : meet c.ambient c.permitted ≡ c.ambient = eqb-true (meet c.ambient c.permitted) c.ambient in_it.ambient_permitted in
    ap (λ (set : ℕ). meet set c.inheritable) one ∙ eqb-true (meet c.ambient c.inheritable) c.ambient in_it.ambient_inheritable

capset_raises : (c : Credential) → Included c → capset c c.permitted c.permitted c.inheritable ≡ done (record c { effective = c.permitted })
capset_raises c in_it =
    cond-true (may_capset c c.permitted c.permitted c.inheritable) (done (with_capset c c.permitted c.permitted c.inheritable)) (refused EPERM c)
    (may_raise_all c)
    ∙ ap (λ (set : ℕ). done (record c { effective = c.permitted; ambient = set })) (ambient_stays c in_it)

pub raises_are_done : RaisesAreDone
unfolding RaisesAreDone
raises_are_done q seat in_it permitted =
    let c : Credential = seat.cred in
    let raised : Seat = record { space = seat.space; cred = record c { effective = c.permitted } } in
    let call : Call = CapSet c.permitted c.permitted c.inheritable in
    let first : List Call → Option Call = find (λ x. q.permitted (kind_of x)) in
    elim (cases_Bool (c.effective == c.permitted)) [
      | inl same ↦
          ap (λ (calls : List Call). seat_after q seat (first calls)) (cond-true (c.effective == c.permitted) [] (call ∷ []) same)
          ∙ ap (λ (set : ℕ). record { space = seat.space; cred = record c { effective = set } }) (eqb-true c.effective c.permitted same)
      | inr other ↦
          ap (λ (calls : List Call). seat_after q seat (first calls)) (cond-false (c.effective == c.permitted) [] (call ∷ []) other)
          ∙ ap (seat_after q seat) (cond-true (q.permitted kind.CapSet) (Some call) None permitted)
          ∙ ap (λ (a : Answer). record { space = seat.space; cred = a.cred }) (capset_raises c in_it)
    ]
