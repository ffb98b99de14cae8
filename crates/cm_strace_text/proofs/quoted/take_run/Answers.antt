use Rattle.std.proofs.Common.{◌∙◌, ◌++◌, ℕ, List, ap, take}
use Rattle.std.specs.Prelude.{option_map}
use Rattle.cm_strace_text.proofs.QuoteSteps.{plain_run}
use Rattle.cm_strace_text.proofs.quoted.take_run.Goals as goal
use Rattle.model_strace.specs.Quoted.{Text, after_bytes, unquoted}

pub returns-clause-same : goal.returns-clause-same
returns-clause-same c =
    let old = c.args.bytes.now.items in
    let text = c.args.text.now in
    let n = c.next_of.result in
    ap (λ (bytes : List ℕ). option_map (after_bytes bytes) (unquoted Text c.split_at.result.1.now))
    (c.in_ok-put.ensures ∙ ap (λ (run : List ℕ). old ++ run) c.split_at.ensures.front)
    ∙ ap (λ (left : List ℕ). option_map (after_bytes (old ++ take n text)) (unquoted Text left)) c.split_at.ensures.back
    ∙ plain_run old text n c.next_of.ensures.within c.next_of.ensures.before
