-- Why a certificate is refused, and parts that are read one after the other.
use Rattle.std.specs.Prelude.{ℕ, Option, Result, Ok, Err}

-- the text is no JSON; the document, or the row of that number, isn't of the form; the sets of that row aren't in order
pub data CertFault : Type 0 where
  Json : CertFault
  Shape : Option ℕ → CertFault
  Order : ℕ → CertFault

-- the one part, and then the other; the first refusal stands
infixl 10 ◌>>=◌
abbrev pub ◌>>=◌ : {A B : Type 0} → Result A CertFault → (A → Result B CertFault) → Result B CertFault
(Ok x) >>= f = f x
(Err e) >>= f = Err e
