-- What was written last, found at the end of a text.
use Rattle.std.proofs.Common.{◌≡◌, ℕ, ◌-◌, ◌≤◌, List, ◌++◌, length, drop, arith, length-append}
use Rattle.std.proofs.lemmas.List.{drop_at}

-- there are as many bytes
pub end_fits : (text front piece : List ℕ) (room : ℕ) → text ≡ front ++ piece → length piece ≡ room → room ≤ length text
end_fits text front piece room is long = rw is (omega (arith, length-append front piece))

-- and they are the piece
pub end_is : (text front piece : List ℕ) (room : ℕ) → text ≡ front ++ piece → length piece ≡ room
    → drop (length text - room) text ≡ piece
end_is text front piece room is long =
    let before : length front ≡ length (front ++ piece) - room = omega (arith, length-append front piece) in
    rw is (drop_at front piece (length (front ++ piece) - room) before)
