use Rattle.std.proofs.Common.{◌++◌, decimal, ap, ◌∙◌}
use Rattle.cm_credentials.proofs.Texts.{digits_before}
use Rattle.cm_credentials.proofs.short_text.ShortText.write_decimal_before.Goals as goal

pub returns : goal.returns
returns c =
    let written = c.write_digits-self-inside in
    digits_before c.self.inside.bytes written.new.buf (decimal c.args.n) written.result c.self.inside.from written.ensures.written
    written.ensures.start c.self.invariant
    ∙ ap (λ t. decimal c.args.n ++ t) c.self.view_is
