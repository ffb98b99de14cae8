use Rattle.cm_cert.proofs.fields.key_count.Goals as goal
use Rattle.serde_json.proofs.Views.{members_len-members_view}

pub returns-in-Some : goal.returns-in-Some
returns-in-Some c = rw (← c.in-Some.ensures, members_len-members_view c.in-Some.members.now.entries) c.len.ensures.len
