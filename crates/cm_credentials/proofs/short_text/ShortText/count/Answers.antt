use Rattle.std.proofs.Common.{◌≤◌, ◌<◌, ◌+◌, ◌-◌, ◌%◌, ◌^◌, ◌++◌, codes, decimal, length, ◌∙◌, arith, length-append}
use Rattle.std.proofs.lemmas.Fmt.{decimal_nonempty}
use Rattle.cm_credentials.proofs.Decimals.{next_decimal}
use Rattle.cm_credentials.proofs.Texts.{third_last}
use Rattle.cm_credentials.proofs.short_text.ShortText.count.Goals as goal

pub returns : goal.returns
returns c =
    let n = c.args.number in
    let small : n < 2 ^ 64 = omega arith in
    let some : 0 < length (decimal (n - 1)) = decimal_nonempty (n - 1) (omega arith) in
    let long : 3 ≤ length (decimal (n - 1) ++ codes ": ") = simp length-append (omega (arith, some)) in
    third_last c.self.inside.bytes (decimal (n - 1) ++ codes ": ") c.self.inside.from (48 + n % 10) (c.self.view_is ∙ c.requires.last)
    c.self.invariant (omega arith) long
    ∙ next_decimal n small c.requires.digit
