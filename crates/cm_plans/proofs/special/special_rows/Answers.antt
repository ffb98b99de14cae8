use Rattle.std.proofs.Common.{ℕ, suc, ◌+◌, List, [], ◌∷◌, ◌++◌, take, length, sym, ap, ◌∙◌, arith}
use Rattle.std.specs.List.{range_with_len}
use Rattle.std.proofs.lemmas.List.{append_assoc, append-nil}
use Rattle.cm_plans.proofs.SpecialRows.{special_step}
use Rattle.cm_plans.proofs.special.special_rows.Goals as goal
use Rattle.cm_plans.specs.Special.{special_of}
use Rattle.model_cred.specs.Files.{FileRow}
use Rattle.model_plans.specs.Plan.{special_rows}

pub loop-n-preserved : goal.loop-n-preserved
loop-n-preserved c m is =
    let rows = c.rows-rows.result.now in
    let k : ℕ = c.loop-n.n in
    let rest : List ℕ = special_of rows (range_with_len (k + 1) m) in
    ap (λ (ns : List ℕ). ns ++ rest) c.in_ok-put_special.ensures
    ∙ append_assoc c.loop-n.list.items (special_of rows (k ∷ [])) rest
    ∙ ap (λ (ns : List ℕ). c.loop-n.list.items ++ ns) (sym (special_step rows k (range_with_len (k + 1) m)))
    ∙ c.loop-n.invariant (suc m) (omega (arith, is))

pub returns : goal.returns
returns c =
    let count = ap (λ (rows : List FileRow). length rows) c.rows-rows.ensures.value in
    c.truncate.ensures.items
    ∙ ap (λ (ns : List ℕ). take 64 ns) (sym (append-nil c.loop-n.list.items) ∙ c.loop-n.invariant 0 (omega (arith, count)))
    ∙ ap (λ (rows : List FileRow). special_rows rows) c.rows-rows.ensures.value
