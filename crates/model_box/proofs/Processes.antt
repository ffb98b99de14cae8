-- Which process a pid names, after a change of the processes.
use Rattle.std.proofs.Common.{◌≡◌, ℕ, Bool, true, false, not, Some, List, [], ◌∷◌, refl, sym, ap, ◌∙◌, inl, inr, eqb, ltb}
use Rattle.std.specs.Prelude.{◌⊎◌, ◌==◌, IsTrue, filter, map}
use Rattle.std.proofs.lemmas.Bool.{false≢true, or_cases, or_left, or_right, eqb-true, eqb-false, ne_eqb, cases_Bool, not-true}
use Rattle.std.specs.List.{list_any}
use Rattle.cm_base.specs.declared.res.Res.{Res}
use Rattle.cm_base.specs.declared.res.Res.TheVariants.{Done, Child}
use Rattle.model_cred.specs.Call.{Call, Exit}
use Rattle.model_cred.specs.IdMap.{is_the}
use Rattle.model_cred.specs.Process.{Process, process_at, put_process, is_alive, insert_process, after_exit, without_process}
use Rattle.model_run.specs.Later.{is_member, members_with, members_without, members_after}
use Rattle.model_run.specs.Step.{is_living_child}
use Rattle.model_box.proofs.Writing.{choose}

at_head : (p : Process) (ps : List Process) (q : ℕ) → eqb p.pid q ≡ true → process_at (p ∷ ps) q ≡ Some p
at_head p ps q same = rw same

at_tail : (p : Process) (ps : List Process) (q : ℕ) → eqb p.pid q ≡ false → process_at (p ∷ ps) q ≡ process_at ps q
at_tail p ps q other = rw other

one_of : (p new : Process) → Some p ≡ Some new → p ≡ new
one_of p new same = cc

-- the first of some processes, or one of the others
first_found : (new : Process) (ps : List Process) (q : ℕ) (found : Process) → process_at (new ∷ ps) q ≡ Some found
    → (found ≡ new) ⊎ ((eqb new.pid q ≡ false) × (process_at ps q ≡ Some found))
first_found new ps q found at =
    elim (cases_Bool (eqb new.pid q)) [
      | inl is ↦ inl (sym (one_of new found (sym (at_head new ps q is) ∙ at)))
      | inr not_it ↦ inr (not_it, sym (at_tail new ps q not_it) ∙ at)
    ]

-- what is found after a change is the new one or one from before, also with one process before all
found_behind : (new p : Process) (ps after : List Process) (q : ℕ) (found : Process)
    → (process_at after q ≡ Some found → (found ≡ new) ⊎ (process_at ps q ≡ Some found))
    → process_at (p ∷ after) q ≡ Some found → (found ≡ new) ⊎ (process_at (p ∷ ps) q ≡ Some found)
found_behind new p ps after q found rest at =
    elim (cases_Bool (eqb p.pid q)) [
      | inl is ↦ inr (at_head p ps q is ∙ sym (at_head p after q is) ∙ at)
      | inr not_it ↦ elim (rest (sym (at_tail p after q not_it) ∙ at)) [
        | inl same ↦ inl same
        | inr old ↦ inr (at_tail p ps q not_it ∙ old)
      ]
    ]

pub put_found : (new : Process) (ps : List Process) (q : ℕ) (found : Process) → process_at (put_process new ps) q ≡ Some found
    → (found ≡ new) ⊎ (process_at ps q ≡ Some found)
put_found new [] q found at = inr at
put_found new (p ∷ ps) q found at =
    choose (λ (after : List Process). process_at after q ≡ Some found → (found ≡ new) ⊎ (process_at (p ∷ ps) q ≡ Some found))
    (eqb p.pid new.pid) (new ∷ ps) (p ∷ put_process new ps) here
    (λ _. found_behind new p ps (put_process new ps) q found (put_found new ps q found)) at where
      here : eqb p.pid new.pid ≡ true → process_at (new ∷ ps) q ≡ Some found → (found ≡ new) ⊎ (process_at (p ∷ ps) q ≡ Some found)
      here same at' =
          elim (first_found new ps q found at') [
            | inl is ↦ inl is
            | inr others ↦
                let pids : p.pid ≡ new.pid = eqb-true p.pid new.pid same in
                inr (at_tail p ps q (ap (λ (k : ℕ). eqb k q) pids ∙ others.0) ∙ others.1)
          ]

pub insert_found : (new : Process) (ps : List Process) (q : ℕ) (found : Process) → process_at (insert_process new ps) q ≡ Some found
    → (found ≡ new) ⊎ (process_at ps q ≡ Some found)
insert_found new [] q found at = elim (first_found new [] q found at) [ inl is ↦ inl is | inr others ↦ inr others.1 ]
insert_found new (p ∷ ps) q found at =
    choose (λ (after : List Process). process_at after q ≡ Some found → (found ≡ new) ⊎ (process_at (p ∷ ps) q ≡ Some found))
    (ltb new.pid p.pid) (new ∷ p ∷ ps) (p ∷ insert_process new ps)
    (λ _ at'. elim (first_found new (p ∷ ps) q found at') [ inl is ↦ inl is | inr others ↦ inr others.1 ])
    (λ _. found_behind new p ps (insert_process new ps) q found (insert_found new ps q found)) at

-- what stays of a process at another's exit
pub record Remains (ps : List Process) (q : ℕ) (found : Process) : Type 0 where
  pub was : Process
  pub named : process_at ps q ≡ Some was
  pub space : found.space ≡ was.space
  pub cred : found.cred ≡ was.cred
  pub filter : found.filter ≡ was.filter

pub without_found : (gone : Process) (ps : List Process) (q : ℕ) (found : Process) → process_at (without_process gone ps) q ≡ Some found
    → (q ≡ gone.pid → ⊥) × Remains ps q found
without_found gone [] q found at = absurd (cc)
without_found gone (p ∷ ps) q found at =
    choose (λ (kept : List Process). process_at (map (after_exit gone) kept) q ≡ Some found → (q ≡ gone.pid → ⊥) × Remains (p ∷ ps) q found)
    (not (eqb p.pid gone.pid)) (p ∷ filter (λ x. not (x.pid == gone.pid)) ps) (filter (λ x. not (x.pid == gone.pid)) ps)
    (here (without_found gone ps q found)) (there (without_found gone ps q found)) at where
      lifted : eqb p.pid q ≡ false → (q ≡ gone.pid → ⊥) × Remains ps q found → (q ≡ gone.pid → ⊥) × Remains (p ∷ ps) q found
      lifted not_it rest = (rest.0, record { was = rest.1.was; named = at_tail p ps q not_it ∙ rest.1.named; space = rest.1.space; cred = rest.1.cred; filter = rest.1.filter })

      there : (process_at (without_process gone ps) q ≡ Some found → (q ≡ gone.pid → ⊥) × Remains ps q found)
          → not (eqb p.pid gone.pid) ≡ false → process_at (without_process gone ps) q ≡ Some found → (q ≡ gone.pid → ⊥) × Remains (p ∷ ps) q found
      there rest goes at' =
          let more = rest at' in
          lifted (ne_eqb p.pid q (λ same. more.0 (sym same ∙ eqb-true p.pid gone.pid (not_false (eqb p.pid gone.pid) goes)))) more where
            not_false : (b : Bool) → not b ≡ false → b ≡ true
            not_false true e = refl
            not_false false e = absurd (false≢true (sym e))

      pid_stays : (after_exit gone p).pid ≡ p.pid
      pid_stays = choose (λ (x : Process). x.pid ≡ p.pid) (is_the p.forebear gone.pid) (record p { forebear = gone.forebear }) p (λ _. refl) (λ _. refl)

      space_stays : (after_exit gone p).space ≡ p.space
      space_stays = choose (λ (x : Process). x.space ≡ p.space) (is_the p.forebear gone.pid) (record p { forebear = gone.forebear }) p (λ _. refl) (λ _. refl)

      cred_stays : (after_exit gone p).cred ≡ p.cred
      cred_stays = choose (λ (x : Process). x.cred ≡ p.cred) (is_the p.forebear gone.pid) (record p { forebear = gone.forebear }) p (λ _. refl) (λ _. refl)

      filter_stays : (after_exit gone p).filter ≡ p.filter
      filter_stays = choose (λ (x : Process). x.filter ≡ p.filter) (is_the p.forebear gone.pid) (record p { forebear = gone.forebear }) p (λ _. refl) (λ _. refl)

      here : (process_at (without_process gone ps) q ≡ Some found → (q ≡ gone.pid → ⊥) × Remains ps q found)
          → not (eqb p.pid gone.pid) ≡ true → process_at (after_exit gone p ∷ without_process gone ps) q ≡ Some found
          → (q ≡ gone.pid → ⊥) × Remains (p ∷ ps) q found
      here rest stays at' =
          elim (cases_Bool (eqb p.pid q)) [
            | inl is ↦
                let same : after_exit gone p ≡ found
                = one_of (after_exit gone p) found
                (sym (at_head (after_exit gone p) (without_process gone ps) q (ap (λ (k : ℕ). eqb k q) pid_stays ∙ is))
                ∙ at') in (
                  λ gone_is. eqb-false p.pid gone.pid (not-true (eqb p.pid gone.pid) stays) (eqb-true p.pid q is ∙ gone_is),
                  record {
                    was = p;
                    named = at_head p ps q is;
                    space = sym (ap (λ (x : Process). x.space) same) ∙ space_stays;
                    cred = sym (ap (λ (x : Process). x.cred) same) ∙ cred_stays;
                    filter = sym (ap (λ (x : Process). x.filter) same) ∙ filter_stays;
                  },
                )
            | inr not_it ↦
                lifted not_it (rest (sym
                (at_tail (after_exit gone p) (without_process gone ps) q (ap (λ (k : ℕ). eqb k q) pid_stays ∙ not_it))
                ∙ at'))
          ]

-- ---- members
kept_member : (members : List ℕ) (pid q : ℕ)
    → IsTrue (list_any (λ m. eqb m q) (filter (λ member. not (eqb member pid)) members))
    → IsTrue (list_any (λ m. eqb m q) members)
kept_member [] pid q held = held
kept_member (m ∷ members) pid q held =
    choose (λ (kept : List ℕ). IsTrue (list_any (λ k. eqb k q) kept) → IsTrue (list_any (λ k. eqb k q) (m ∷ members)))
    (not (eqb m pid)) (m ∷ filter (λ member. not (eqb member pid)) members) (filter (λ member. not (eqb member pid)) members)
    (λ _. both (kept_member members pid q)) (λ _ held'. or_right (eqb m q) (list_any (λ k. eqb k q) members) (kept_member members pid q held')) held where
      both : (IsTrue (list_any (λ k. eqb k q) (filter (λ member. not (eqb member pid)) members)) → IsTrue (list_any (λ k. eqb k q) members))
          → IsTrue (list_any (λ k. eqb k q) (m ∷ filter (λ member. not (eqb member pid)) members)) → IsTrue (list_any (λ k. eqb k q) (m ∷ members))
      both rest held' =
          elim (or_cases (eqb m q) (list_any (λ k. eqb k q) (filter (λ member. not (eqb member pid)) members)) held') [
            | inl is ↦ or_left (eqb m q) (list_any (λ k. eqb k q) members) is
            | inr more ↦ or_right (eqb m q) (list_any (λ k. eqb k q) members) (rest more)
          ]

without_member : (members : List ℕ) (pid q : ℕ) (res : Res) → IsTrue (is_member (members_without members pid res) q) → IsTrue (is_member members q)
without_member members pid q Done held = kept_member members pid q held
without_member members pid q _ held = held

with_member : (ps : List Process) (members : List ℕ) (q : ℕ) (res : Res) → is_living_child ps res ≡ false
    → IsTrue (is_alive ps q) → IsTrue (is_member (members_with members res) q)
    → IsTrue (is_member members q)
with_member ps members q (Child k) free alive held =
    elim (or_cases (eqb k q) (is_member members q) held) [
      | inl is ↦ absurd (false≢true (sym free ∙ ap (is_alive ps) (eqb-true k q is) ∙ alive))
      | inr more ↦ more
    ]
with_member ps members q _ free alive held = held

-- Who is a member after a call and was alive before it was a member.
pub was_member : (ps : List Process) (members : List ℕ) (pid q : ℕ) (call : Call) (res : Res) → is_living_child ps res ≡ false → IsTrue (is_alive ps q)
    → IsTrue (is_member (members_after members pid call res) q) → IsTrue (is_member members q)
was_member ps members pid q Exit res free alive held = without_member members pid q res held
was_member ps members pid q call res free alive held = with_member ps members q res free alive held
