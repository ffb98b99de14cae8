-- Facts of what an option holds, from others.
use Rattle.std.proofs.Common.{Option, Some, None, IfSome}

-- what holds of each holds of what is there
pub always : {T : Type 0} {P : T → Type 0} (o : Option T) → ((x : T) → P x) → IfSome o P
always None f = tt
always (Some x) f = f x

-- a fact of what is there, from two others
pub if_both : {T : Type 0} {P Q R : T → Type 0} (o : Option T) → IfSome o P → IfSome o Q → ((x : T) → P x → Q x → R x)
    → IfSome o R
if_both None p q f = tt
if_both (Some x) p q f = f x p q
