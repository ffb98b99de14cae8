-- Lists of ids that ascend, each once.
use Rattle.std.proofs.Common.{ℕ, ◌+◌, ◌≤◌, ◌==◌, List, [], ◌∷◌, if◌then◌else◌, arith, nat_lt, All}
use Rattle.std.proofs.lemmas.Bool.{cond_both, eqb-false, ltb-true, ltb-false}
use Rattle.std.proofs.lemmas.List.Elements.{All-head, All-tail}
use Rattle.model_cred.specs.Credential.{AscendFrom, IsId, insert_id, id_set}

-- a list of ids that ascend does so with one more put in
insert_ascends : (low id : ℕ) (ids : List ℕ) → low ≤ id → IsId id → AscendFrom low ids → AscendFrom low (insert_id id ids)
insert_ascends low id [] above small rise = (above, small, tt)
insert_ascends low id (other ∷ ids) above small rise =
    cond_both (nat_lt id other) (id ∷ other ∷ ids) (if id == other then other ∷ ids else other ∷ insert_id id ids) (AscendFrom low)
    (λ less. let below = ltb-true id other less in (above, small, (omega arith, rise.1, rise.2)))
    (λ not_less. cond_both (id == other) (other ∷ ids) (other ∷ insert_id id ids) (AscendFrom low)
    (λ _. rise)
    (λ differs.
    let high = ltb-false id other not_less in
    let apart = eqb-false id other differs in
    (rise.0, rise.1, insert_ascends (other + 1) id ids (omega arith) small rise.2)))

-- the set of a list of ids ascends
pub set_ascends : (ids : List ℕ) → All IsId ids → AscendFrom 0 (id_set ids)
set_ascends [] small = tt
set_ascends (id ∷ ids) small =
    insert_ascends 0 id (id_set ids) (omega arith) (All-head IsId id ids small) (set_ascends ids (All-tail IsId id ids small))
