-- One write after another.
use Rattle.std.proofs.Common.{◌≡◌, ◌+◌, ◌-◌, List, ◌++◌, ℕ, length, take, drop, Option, Some, None, refl, ap, append_assoc}
use Rattle.std.proofs.lemmas.List.{take_rest}
use Rattle.std.proofs.Math.Seq.{take-add}
use Rattle.cm_io.specs.Sink.{then_written}

-- two pieces are one
pub then_written_twice : (written : Option (List ℕ)) (a b : List ℕ) → then_written (then_written written a) b ≡ then_written written (a ++ b)
then_written_twice None a b = refl
then_written_twice (Some old) a b = ap Some (append_assoc old a b)

-- a write more from a place in the piece
pub written_more : (start old new : Option (List ℕ)) (piece : List ℕ) (done n : ℕ) → old ≡ then_written start (take done piece)
    → new ≡ then_written old (take n (take (length piece - done) (drop done piece))) → new ≡ then_written start (take (done + n) piece)
written_more start old new piece done n before now =
    let rest = take_rest piece done in
    let twice = then_written_twice start (take done piece) (take n (drop done piece)) in
    let sum = take-add done n piece in
    cc
