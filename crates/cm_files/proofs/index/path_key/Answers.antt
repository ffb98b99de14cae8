-- The loop ends with the key of all the last bytes.
use Rattle.std.proofs.Common.{◌≡◌, ◌-◌, ◌≤◌, length, take, drop, ap, arith, ◌∙◌}
use Rattle.std.proofs.lemmas.List.{length-drop, take_all}
use Rattle.std.specs.List.{fold}
use Rattle.cm_files.specs.Index.{path_key, with_byte}
use Rattle.cm_files.proofs.index.path_key.Goals as goal

pub returns : goal.returns
unfolding path_key
returns c =
    let path = c.args.path.now in
    let at = c.saturating_sub.result in
    let all : take (length path - at) (drop at path) ≡ drop at path = take_all (length path - at) (drop at path) (omega (arith, length-drop at path)) in
    let read : length (take (length path - at) (drop at path)) ≤ c.loop-byte.byte-index = omega (arith, c.loop-byte-test.false) in
    c.loop-byte.invariant
    ∙ ap (fold with_byte 0) (take_all c.loop-byte.byte-index (take (length path - at) (drop at path)) read ∙ all)
    ∙ ap (λ n. fold with_byte 0 (drop n path)) c.saturating_sub.ensures
