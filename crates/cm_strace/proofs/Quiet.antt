-- Lines that tell nothing, whatever is known.
use Rattle.std.proofs.Common.{◌≡◌, ℕ, ◌+◌, ◌++◌, true, false, length, List, [], Some, None, refl, sym, ◌∙◌, ap}
use Rattle.std.proofs.Common.{append-nil}
use Rattle.std.proofs.lemmas.Bool.{cond-true}
use Rattle.std.specs.Prelude.{bytes_eq, is_some}
use Rattle.cm_base.specs.declared.faults.LineFault.TheVariants as fault
use Rattle.cm_strace.proofs.Released.{released_none}
use Rattle.model_cred.specs.World.{World}
use Rattle.model_strace.specs.After.{Goes, and_then, preceded}
use Rattle.model_strace.specs.Body.{Whole}
use Rattle.model_strace.specs.Calls.{call_told, listed_named, listed_told}
use Rattle.model_strace.specs.Lines.{given_at}
use Rattle.model_strace.specs.Marks.{name_at}
use Rattle.model_strace.specs.Parts.{Parts, without_kept}
use Rattle.model_strace.specs.Rest.{Work, read_fed, released}
use Rattle.model_strace.specs.Turn.{Turn, Quiet, Refused, body_turn, resumes, told_turn, turn}
use Rattle.model_strace.specs.Written.{call_name, without_32}
use Rattle.model_text.specs.Reading.{Placed}

-- a call that isn't read
pub unread_call : (w : World) (pid : ℕ) (text : List ℕ) (p : Parts) → is_some (listed_named (call_name text)) ≡ false
    → body_turn w pid (Whole text) p ≡ Quiet p
unread_call w pid text p unread =
    (elim (listed_named (call_name text)) as (λ call. is_some call ≡ false
    → told_turn pid (listed_told w pid call text) p ≡ Quiet p) [
      | None ↦ λ h. refl
      | Some call ↦ λ h. absurd (cc)
    ]) unread

-- the line is counted, and nothing else is done
pub quiet_read : (w : World) (pid : ℕ) (body : List ℕ) (p : Parts) (t : Work) (events : List Placed)
    → turn w pid body t.parts ≡ Quiet p
    → Goes events (let u : Work = record t { parts = p; count = t.count + 1 } in u)
    ≡ preceded events (read_fed w (record { number = t.count + 1; pid = pid; body = body })
    (record t { count = t.count + 1 }))
quiet_read w pid body p t events quiet =
    let now : Work = record t { parts = p; count = t.count + 1 } in
    ap (λ es. Goes es now) (sym (append-nil events))
    ∙ ap (λ after. preceded events (preceded [] after)) (sym (released_none w (length t.held) [] now refl))
    ∙ ap (λ (turned : Turn). preceded events (and_then (given_at (t.count + 1) turned) (λ r. released w (length t.held) r.born
    (record now { parts = r.parts })))) (sym quiet)

-- a call that isn't read is resumed
pub unread_resumed : (w : World) (pid : ℕ) (name rest kept : List ℕ) (p : Parts)
    → ((more : List ℕ) → name_at (kept ++ more) ≡ name_at kept) → is_some (listed_named (call_name kept)) ≡ false
    → bytes_eq (call_name kept) (without_32 name) ≡ true
    → resumes w pid name rest (Some kept) p ≡ Quiet (without_kept pid p)
unread_resumed w pid name rest kept p ends unread same =
    cond-true (bytes_eq (call_name kept) (without_32 name)) (told_turn pid (call_told w pid (kept ++ rest))
    (without_kept pid p)) (Refused fault.Unfinished) same
    ∙ unread_call w pid (kept ++ rest) (without_kept pid p)
    (ap (λ named. is_some (listed_named (without_32 named))) (ends rest) ∙ unread)
