-- A held line that is read at the log's end: it tells something, or nothing.
use Rattle.std.proofs.Common.{◌≡◌, ◌<◌, ◌+◌, ◌==◌, ◌∙◌, ℕ, true, false, List, [], ◌∷◌, length, drop}
use Rattle.std.proofs.Common.{get_or, refl, sym, ap}
use Rattle.std.proofs.lemmas.Bool.{eqb-true, false≢true}
use Rattle.std.proofs.lemmas.List.{at_drop_more, nil_from_length}
use Rattle.cm_strace.specs.Answers.{reading_is}
use Rattle.cm_strace.specs.Given.{Gave}
use Rattle.cm_strace.specs.declared.stage.Stage.{Stage}
use Rattle.cm_strace.specs.declared.stage.Stage.TheVariants as stage
use Rattle.model_cred.specs.World.{World}
use Rattle.model_strace.specs.After.{preceded}
use Rattle.model_strace.specs.Lines.{Line, Read, at_end, at_end_turn, given_at}
use Rattle.model_strace.specs.Parts.{Parts}
use Rattle.model_strace.specs.Turn.{Turn, Quiet, turn}
use Rattle.model_text.specs.Reading.{Placed, Reading}

-- a list that is told not to be empty has something
pub some_told : {A : Type 0} (xs : List A) (n : ℕ) → n ≡ length xs → (n == 0) ≡ false → xs ≡ [] → ⊥
some_told xs n len told none = false≢true (sym told ∙ ap (λ m. m == 0) (len ∙ ap (λ ls. length ls) none))

-- one that is told to be empty has nothing
pub none_told : {A : Type 0} (xs : List A) (n : ℕ) → n ≡ length xs → (n == 0) ≡ true → xs ≡ []
none_told xs n len told = nil_from_length xs (sym len ∙ eqb-true n 0 told)

-- the held lines from that one on
pub from_line : (w : World) (held : List Line) (i : ℕ) (l : Line) (p : Parts) → i < length held → l ≡ get_or held i l
    → at_end_turn l.number (turn w l.pid l.body p) (λ q. at_end w (drop (i + 1) held) q) ≡ at_end w (drop i held) p
from_line w held i l p within is =
    ap (λ (m : Line). at_end w (m ∷ drop (i + 1) held) p) is
    ∙ sym (at_drop_more (λ ls. at_end w ls p) held i l within)

module _ (events : List Placed) (s : Read) (number : ℕ) (later : Parts → Reading) where
  -- it stops the reading
  pub stopped_line : (at : Stage) (t : Turn) → (at ≡ stage.Going → ⊥)
      → Gave at events s (preceded [] (given_at number t)) → reading_is events at ≡ at_end_turn number t later
  stopped_line stage.Going t stops is = absurd (stops refl)
  stopped_line (stage.Stopped stop) (Quiet p) stops is = cc
  stopped_line (stage.Stopped stop) _ stops is = cc
  stopped_line stage.Finished t stops is = absurd is

  -- it tells an event
  pub told_line : (t : Turn) → (events ≡ [] → ⊥) → Gave stage.Going events s (preceded [] (given_at number t))
      → reading_is events stage.Finished ≡ at_end_turn number t later
  told_line (Quiet p) some is = absurd (some (cc))
  told_line _ some is = cc

  -- it tells nothing
  pub silent_line : (t : Turn) → events ≡ [] → Gave stage.Going events s (preceded [] (given_at number t))
      → later s.parts ≡ at_end_turn number t later
  silent_line (Quiet p) none is = let same : s.parts ≡ p = cc in ap later same
  silent_line _ none is = cc
