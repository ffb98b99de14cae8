use Rattle.std.proofs.Common.{append_assoc, decimal, ◌≡◌, get_or}
use Rattle.std.proofs.lemmas.Result.{IfOk-equal}
use Rattle.cm_credentials.proofs.GroupText.{groups_text-first}
use Rattle.cm_credentials.proofs.credential_line.put_groups.Goals as goal

pub returns-in_ok-put_decimal-in-len1-up : goal.returns-in_ok-put_decimal-in-len1-up
returns-in_ok-put_decimal-in-len1-up c =
    let first : c.number.result ≡ get_or c.args.groups.now 0 c.number.result = rw c.number.ensures.value c.first-item.is in
    let whole = groups_text-first c.args.groups.now c.number.result c.in-len1-up.len_at_least first in
    IfOk-equal _ _ _ _ c.put_rest.ensures
    (rw (c.in_ok-put_decimal-in-len1-up.ensures, whole) (append_assoc c.args.text.now.items (decimal c.number.result) _))
