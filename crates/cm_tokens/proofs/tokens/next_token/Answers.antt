use Rattle.std.proofs.Common.{◌≡◌, sym, ◌∙◌, true, arith, refl}
use Rattle.cm_tokens.proofs.FirstToken.{token_front}
use Rattle.cm_tokens.proofs.tokens.next_token.Goals as goal
use Rattle.model_text.specs.Cut.{goes_on}

pub returns-clause-parts : goal.returns-clause-parts
returns-clause-parts c =
    let goes : goes_on c.skip_blanks-text.result.now ≡ true = grind (arith, c.skip_blanks-text.ensures.begins, c.is_empty.ensures, c.if-is_empty.false) in
    sym c.skip_blanks-text.ensures.same
    ∙ token_front c.skip_blanks-text.result.now c.token_len-end.result
    c.token_len-end.ensures.within c.token_len-end.ensures.token c.token_len-end.ensures.ended goes
    ∙ rw (sym c.split_at.ensures.front, sym c.split_at.ensures.back) refl
