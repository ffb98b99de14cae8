-- The first of two answers, and an answer by a test: where there is none, and where there is only one.
use Rattle.std.proofs.Common.{◌≡◌, Bool, true, false, Option, None, Some, if◌then◌else◌, refl}
use Rattle.std.specs.Prelude.{is_none, is_some}
use Rattle.std.specs.Option.{option_or}

-- no answer of two: neither of them is there
pub both_none : {A : Type 0} (x y : Option A) → option_or x y ≡ None → (x ≡ None) × (y ≡ None)
both_none None y is = (refl, is)
both_none (Some a) y is = absurd (cc)

-- no answer by a test: the test fails, and there is none after it
pub not_some : {A : Type 0} (b : Bool) (a : A) (rest : Option A) → (if b then Some a else rest) ≡ None → (b ≡ false) × (rest ≡ None)
not_some true a rest is = absurd (cc)
not_some false a rest is = (refl, is)

pub none_is : {A : Type 0} (x : Option A) → is_none x ≡ true → x ≡ None
none_is None is = refl
none_is (Some a) is = absurd (cc)

pub none_there : {A : Type 0} (x : Option A) → is_some x ≡ false → x ≡ None
none_there None is = refl
none_there (Some a) is = absurd (cc)

-- an answer, or none
pub or_none : {A : Type 0} (x : Option A) → option_or x None ≡ x
or_none None = refl
or_none (Some a) = refl

pub or_assoc : {A : Type 0} (x y z : Option A) → option_or (option_or x y) z ≡ option_or x (option_or y z)
or_assoc None y z = refl
or_assoc (Some a) y z = refl
