use Rattle.std.proofs.Common.{List, [], ◌∷◌, ◌++◌, map, refl, sym, subst}
use Rattle.std.proofs.lemmas.List.{append_assoc}
use Rattle.std.proofs.lemmas.List.Elements.{All-nil}
use Rattle.cm_base.specs.declared.res.FileRef.TheVariants.{Plain}
use Rattle.cm_plans.proofs.middles.single_list.Goals as goal
use Rattle.cm_plans.specs.Choices.{IsChoiceOfWalk}
use Rattle.cm_plans.specs.Middles.{Lists}
use Rattle.cm_plans.specs.declared.choices.Choice.{Choice as CodeChoice}
use Rattle.model_plans.specs.Move.{RunFile}
use Rattle.model_plans.specs.Plan.{Choice, joins, numbers, run_row}

pub returns : goal.returns
returns c =
    let spaces = c.args.q.now.spaces.now in
    let rows : List Choice = map run_row (numbers c.args.q.now.world.now.files.rows) in
    let plain : Choice = RunFile Plain ∷ [] in
    let to : List Choice = joins spaces c.args.at.0 in
    let at0 : Lists spaces c.new-list.result.items []
    = subst (λ (list : List CodeChoice). Lists spaces list []) (sym c.new-list.ensures.items) (record { same = refl; walks = All-nil (IsChoiceOfWalk spaces) }) in
    let at1 : Lists spaces c.put.new.list.items ([] ∷ []) = c.in_ok-put.ensures spaces tt [] at0 in
    let at2 : Lists spaces c.put_rows.new.list.items ([] ∷ rows) = c.in_ok-put_rows.ensures spaces ([] ∷ []) at1 in
    let at3 : Lists spaces c.put_plain.new.list.items (([] ∷ rows) ++ plain ∷ []) = c.in_ok-put_plain.ensures spaces ([] ∷ rows) at2 in
    let at4 : Lists spaces c.put_joins.new.list.items ((([] ∷ rows) ++ plain ∷ []) ++ to) = c.in_ok-put_joins.ensures (([] ∷ rows) ++ plain ∷ []) at3 in
    subst (Lists spaces c.put_joins.new.list.items) (append_assoc ([] ∷ rows) (plain ∷ []) to) at4
