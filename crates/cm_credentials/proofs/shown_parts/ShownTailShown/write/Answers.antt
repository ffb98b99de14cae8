use Rattle.std.proofs.Common.{◌≡◌, ◌-◌, length, take, drop, ap, ◌∙◌, arith, length-take-le}
use Rattle.std.proofs.lemmas.List.{take_at}
use Rattle.cm_credentials.proofs.Ends.{end_fits, end_is}
use Rattle.cm_credentials.proofs.TailText.{tail_length}
use Rattle.cm_credentials.specs.Shown.{tail_of, tail_text}
use Rattle.model_text.specs.Hex.{hex_set}
use Rattle.model_text.specs.Print.{sets_text, bounds_text, flags_text}
use Rattle.cm_credentials.proofs.shown_parts.ShownTailShown.write.Goals as goal

pub keep_end-requires : goal.keep_end-requires
unfolding sets_text bounds_text flags_text hex_set
keep_end-requires c =
    let room : length (take 119 c.self.inside.text) ≡ 119 = length-take-le 119 c.self.inside.text (omega arith) in
    rw room (end_fits c.deref.result.now c.args.text.now.items (tail_text (tail_of c.args.cred.now)) 119
    (c.deref.ensures.value ∙ c.in_ok-put_end.ensures) (tail_length (tail_of c.args.cred.now)))

pub invariant_of-self : goal.invariant_of-self
unfolding sets_text bounds_text flags_text hex_set
invariant_of-self c =
    let tail = tail_of c.args.cred.now in
    let room : length (take 119 c.self.inside.text) ≡ 119 = length-take-le 119 c.self.inside.text (omega arith) in
    let end : drop (length c.deref.result.now - 119) c.deref.result.now ≡ tail_text tail =
    end_is c.deref.result.now c.args.text.now.items (tail_text tail) 119 (c.deref.ensures.value ∙ c.in_ok-put_end.ensures) (tail_length tail) in
    let kept : c.keep_end.new.room ≡ tail_text tail = c.keep_end.ensures ∙ rw room end in
    rw c.of.ensures (take_at c.keep_end.new.room _ 119 (ap length kept ∙ tail_length tail) ∙ kept)
