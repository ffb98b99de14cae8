use Rattle.std.proofs.Common.{ℕ, List, IsUtf8, subst, sym}
use Rattle.cm_cert.proofs.caps.caps_value.Goals as goal
use Rattle.model_cert.proofs.Ascii.{set_utf8}

pub unwrap-text-requires : goal.unwrap-text-requires
unwrap-text-requires c =
    c.from_utf8.ensures.succeeds
    (subst (λ (text : List ℕ). IsUtf8 text) (sym c.in_ok-digits.ensures) (set_utf8 c.args.set))
