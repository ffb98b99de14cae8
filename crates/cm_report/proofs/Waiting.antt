-- A text on its way: what sending does to what is sent and what waits.
use Rattle.std.proofs.Common.{◌≡◌, ℕ, List, [], ◌++◌, take, drop, Option, None, Some, refl, sym, ◌∙◌, ap, append_assoc, append-nil}
use Rattle.std.proofs.lemmas.List.{take-append-drop}
use Rattle.cm_report.specs.Sent.{IsSent, IsFront}
use Rattle.cm_io.proofs.Written.{then_written_twice}
use Rattle.cm_io.specs.Sink.{then_written}

pub written_nothing : (w : Option (List ℕ)) → then_written w [] ≡ w
written_nothing None = refl
written_nothing (Some old) = ap Some (append-nil old)

-- at first all waits
pub all_waits : (w : Option (List ℕ)) (whole : List ℕ) → IsSent w w whole whole
all_waits w whole = record { front = []; parts = refl; written = sym (written_nothing w) }

-- in the end nothing waits
pub none_waits : (w0 w1 : Option (List ℕ)) (whole : List ℕ) → w1 ≡ then_written w0 whole → IsSent w0 w1 [] whole
none_waits w0 w1 whole is = record { front = whole; parts = sym (append-nil whole); written = is }

-- what waits is sent on
pub sent_on : {w0 w1 w2 : Option (List ℕ)} {whole p q : List ℕ} → IsSent w0 w1 p whole → IsSent w1 w2 q p → IsSent w0 w2 q whole
sent_on {w0} {w1} {w2} {whole} {p} {q} a b = record {
  front = a.front ++ b.front;
  parts = a.parts ∙ ap (λ t. a.front ++ t) b.parts ∙ sym (append_assoc a.front b.front q);
  written = b.written ∙ ap (λ w. then_written w b.front) a.written ∙ then_written_twice w0 a.front b.front;
}

-- or a front of it is
pub front_on : {w0 w1 w2 : Option (List ℕ)} {whole p : List ℕ} → IsSent w0 w1 p whole → IsFront w1 w2 p → IsFront w0 w2 whole
front_on a b = (b.0, sent_on a b.1)

-- more text waits after what waits
pub more_waits : {w0 w1 : Option (List ℕ)} {whole p : List ℕ} → IsSent w0 w1 p whole → (more : List ℕ) → IsSent w0 w1 (p ++ more) (whole ++ more)
more_waits {w0} {w1} {whole} {p} a more = record {
  front = a.front;
  parts = ap (λ t. t ++ more) a.parts ∙ append_assoc a.front p more;
  written = a.written;
}

pub front_of_more : {w0 w1 : Option (List ℕ)} {whole : List ℕ} → IsFront w0 w1 whole → (more : List ℕ) → IsFront w0 w1 (whole ++ more)
front_of_more a more = (a.0 ++ more, more_waits a.1 more)

-- a front is a front of what the whole goes on to, too
pub front_of_longer : {w0 w1 : Option (List ℕ)} (whole more longer : List ℕ) → longer ≡ whole ++ more → IsFront w0 w1 whole → IsFront w0 w1 longer
front_of_longer whole more longer is a = rw is (front_of_more a more)

-- what waits, written another way
pub waits_as : {w0 w1 : Option (List ℕ)} {whole : List ℕ} (p q : List ℕ) → p ≡ q → IsSent w0 w1 p whole → IsSent w0 w1 q whole
waits_as p q is a = record { front = a.front; parts = a.parts ∙ ap (λ t. a.front ++ t) is; written = a.written }

-- so many bytes of it are written
pub taken : (w0 w1 : Option (List ℕ)) (k : ℕ) (whole : List ℕ) → w1 ≡ then_written w0 (take k whole) → IsFront w0 w1 whole
taken w0 w1 k whole is = (drop k whole, record { front = take k whole; parts = sym (take-append-drop k whole); written = is })
