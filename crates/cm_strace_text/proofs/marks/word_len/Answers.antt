use Rattle.std.proofs.Common.{sym}
use Rattle.cm_strace_text.proofs.Cuts.{word_ends}
use Rattle.cm_strace_text.proofs.marks.word_len.Goals as goal

pub returns-clause-len : goal.returns-clause-len
returns-clause-len c =
    let cut = c.token_len.ensures in
    sym (word_ends c.args.text.now c.token_len.result cut.within cut.token cut.ended)
