-- How a drill goes on, from the events so far to one more.
use Rattle.std.proofs.Common.{◌≡◌, ℕ, ◌+◌, ◌≤◌, Bool, true, false, cond, List, [], ◌∷◌, ◌++◌, sym, ap, ◌∙◌, subst, arith, append_assoc}
use Rattle.std.proofs.lemmas.List.{append-nil}
use Rattle.std.proofs.lemmas.Grind.{flat_map-append}
use Rattle.std.proofs.lemmas.List.Sums.{count_by-le-length, sum_by-append}
use Rattle.std.specs.Prelude.{count_by}
use Rattle.model_cred.specs.Call.{Event}
use Rattle.model_cred.specs.World.{World}
use Rattle.model_drill.proofs.Counts.{events_from_one_more, events_length, stand_after_one_more}
use Rattle.model_drill.proofs.Ends.{drill_state_keeps}
use Rattle.model_drill.specs.DrillWorld.{drill_world}
use Rattle.model_drill.specs.Drill.{Stand, drill_start, events_from, is_refusal, stand_after, turn}
use Rattle.model_drill.specs.Laws.{DrillStateKeeps, IsDrillState}
use Rattle.model_text.specs.Print.{event_text}
use Rattle.model_text.specs.Written.{events_text}

-- the event was refused
abbrev pub is_refused : Event → Bool
is_refused e = is_refusal e.res

module _ (n k : ℕ) (at : Stand) (so_far : at ≡ stand_after k (drill_start n)) where
  -- each state keeps what the drill's states keep
  pub state_keeps : IsDrillState at.state
  unfolding DrillStateKeeps
  state_keeps = subst (λ (s : Stand). IsDrillState s.state) (sym so_far) (drill_state_keeps n k)

  -- where the drill stands, one event more
  pub goes_on : (next : Stand) → next ≡ (turn at).after → next ≡ stand_after (k + 1) (drill_start n)
  goes_on next is = is ∙ ap (λ (s : Stand). (turn s).after) so_far ∙ sym (stand_after_one_more k (drill_start n))

  -- the events, one more
  events_on : (e : Event) → e ≡ (turn at).event → events_from (k + 1) (drill_start n) ≡ events_from k (drill_start n) ++ e ∷ []
  events_on e is =
      events_from_one_more k (drill_start n)
      ∙ ap (λ (last : Event). events_from k (drill_start n) ++ last ∷ []) (ap (λ (s : Stand). (turn s).event) (sym so_far) ∙ sym is)

  -- how many were refused, with that one
  refused_on : (e : Event) → e ≡ (turn at).event
      → count_by is_refused (events_from (k + 1) (drill_start n)) ≡ count_by is_refused (events_from k (drill_start n)) + cond (is_refused e) 1 0
  refused_on e is =
      let more = sum_by-append (λ (x : Event). cond (is_refused x) 1 0) (events_from k (drill_start n)) (e ∷ []) in
      ap (count_by is_refused) (events_on e is) ∙ grind (arith, more)

  pub refused_more : (e : Event) (refused : ℕ) → e ≡ (turn at).event → refused ≡ count_by is_refused (events_from k (drill_start n))
      → is_refused e ≡ true → refused + 1 ≡ count_by is_refused (events_from (k + 1) (drill_start n))
  refused_more e refused is count was =
      let on = refused_on e is in let one : ◌≡◌ {A = ℕ} (cond (is_refused e) 1 0) 1 = rw was in omega (arith, on, count, one)

  pub refused_same : (e : Event) (refused : ℕ) → e ≡ (turn at).event → refused ≡ count_by is_refused (events_from k (drill_start n))
      → is_refused e ≡ false → refused ≡ count_by is_refused (events_from (k + 1) (drill_start n))
  refused_same e refused is count was =
      let on = refused_on e is in let none : ◌≡◌ {A = ℕ} (cond (is_refused e) 1 0) 0 = rw was in omega (arith, on, count, none)

  -- the lines, with that of one more
  pub text_more : (e : Event) (w : World) (before after : List ℕ) → e ≡ (turn at).event → w ≡ drill_world
      → before ≡ events_text drill_world (events_from k (drill_start n)) → after ≡ before ++ event_text w e ++ 10 ∷ []
      → after ≡ events_text drill_world (events_from (k + 1) (drill_start n))
  text_more e w before after is world so text =
      let line : Event → List ℕ = λ x. event_text drill_world x ++ 10 ∷ [] in
      let split : events_text drill_world (events_from (k + 1) (drill_start n))
      ≡ events_text drill_world (events_from k (drill_start n)) ++ (line e ++ [])
      = ap (events_text drill_world) (events_on e is) ∙ flat_map-append line (events_from k (drill_start n)) (e ∷ []) in
      text ∙ rw (so, world) (sym (split ∙ simp (append_assoc, append-nil)))

-- no more were refused than were made
pub refused_few : (n k refused : ℕ) → refused ≡ count_by is_refused (events_from k (drill_start n)) → refused ≤ k
refused_few n k refused count =
    let few = count_by-le-length is_refused (events_from k (drill_start n)) in
    let all = events_length k (drill_start n) in
    omega (arith, few, all, count)
