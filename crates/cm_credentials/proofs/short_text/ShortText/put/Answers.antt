use Rattle.std.proofs.Common.{◌+◌, ◌-◌, drop, ◌∙◌, arith}
use Rattle.std.proofs.lemmas.List.{take-take}
use Rattle.cm_credentials.proofs.Texts.{put_and_cut}
use Rattle.cm_credentials.proofs.short_text.ShortText.put.Goals as goal

pub returns : goal.returns
returns c =
    let from = c.self.inside.from in
    put_and_cut _ _ _ _ _ _ (48 - from) c.in_ok-put.ensures c.truncate.ensures.items (omega (arith, c.len.ensures))
    (take-take (48 - from) (from + 48 - from) (drop from c.self.inside.bytes) (omega arith) ∙ c.self.view_is)
