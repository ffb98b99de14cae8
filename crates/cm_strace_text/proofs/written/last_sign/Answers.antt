use Rattle.std.proofs.Common.{◌∙◌, ◌<◌, ℕ, Option, ap, arith, length, subst, sym}
use Rattle.std.specs.Option.{option_or}
use Rattle.std.specs.Prelude.{IfSome}
use Rattle.model_rules.proofs.Options.{or_assoc}
use Rattle.cm_strace_text.proofs.SignSteps.{none_left, or_keeps, plain_run}
use Rattle.cm_strace_text.proofs.written.last_sign.Goals as goal
use Rattle.cm_strace_text.specs.Places.{sign_from}
use Rattle.model_strace.specs.Written.{Plain}

pub returns-then-at-text-clause-places : goal.returns-then-at-text-clause-places
returns-then-at-text-clause-places c =
    let text = c.args.text.now in
    let at = c.next_of-at in
    let run = plain_run text c.signs.from at.result at.ensures.after at.ensures.within at.ensures.before in
    sym (ap (λ (o : Option (ℕ × ℕ)). option_or o c.signs.last) (run ∙ none_left Plain text at.result (omega arith)))
    ∙ c.signs.invariant.places

pub signs-preserved : goal.signs-preserved
signs-preserved c =
    let text = c.args.text.now in
    let at = c.next_of-at in
    let last = c.signs.last in
    let sign = c.sign_at-sign.result.0 in
    let left = sign_from Plain c.sign_at-sign.result.1 text in
    let run = plain_run text c.signs.from at.result at.ensures.after at.ensures.within at.ensures.before in
    let Stands : ℕ × ℕ → Type 0 = λ places. (places.0 < places.1) × (places.1 < length text) in
    record {
      places = ap (option_or left) c.or-last.ensures
          ∙ sym (or_assoc left sign last)
          ∙ sym (ap (λ (o : Option (ℕ × ℕ)). option_or o last) (run ∙ c.sign_at-sign.ensures.same))
          ∙ c.signs.invariant.places;
      within = subst (λ (o : Option (ℕ × ℕ)). IfSome o Stands) (sym c.or-last.ensures)
          (or_keeps Stands sign last c.sign_at-sign.ensures.places c.signs.invariant.within);
      inside = c.sign_at-sign.ensures.within;
    }
