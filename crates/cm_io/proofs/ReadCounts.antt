-- How often a name is read, by the bytes that the reads give, and which counts that leaves.
use Rattle.std.proofs.Common.{◌≡◌, ◌+◌, ◌≤◌, ℕ, List, Bool, not, IsTrue, inl, inr, arith, refl, subst, sym, ◌∙◌}
use Rattle.cm_io.specs.Shelf.{AsksForPieces, CountsApart, EachGives, ReadsByBytes}

-- counts that stay
pub reads_none : (reads taken : List ℕ → ℕ) (name : List ℕ) (idle : ℕ) → ReadsByBytes reads reads taken taken name idle
reads_none reads taken name idle = record { later = omega arith; here = inl (omega arith); others = λ n other. refl }

-- some reads of a name, and then some more
pub each_then : (reads reads' reads'' taken taken' taken'' a b : ℕ) → taken' ≤ taken'' → EachGives reads reads' taken taken' a
    → EachGives reads' reads'' taken' taken'' b → EachGives reads reads'' taken taken'' (a + b)
each_then reads reads' reads'' taken taken' taken'' a b later (inl gives) (inl gives') = inl (omega (arith, gives, gives'))
each_then reads reads' reads'' taken taken' taken'' a b later (inl gives) (inr last) = inr last
each_then reads reads' reads'' taken taken' taken'' a b later (inr last) second = inr (omega (arith, last, later))

pub reads_then : (reads reads' reads'' taken taken' taken'' : List ℕ → ℕ) (name : List ℕ) (a b : ℕ)
    → ReadsByBytes reads reads' taken taken' name a → ReadsByBytes reads' reads'' taken' taken'' name b
    → ReadsByBytes reads reads'' taken taken'' name (a + b)
reads_then reads reads' reads'' taken taken' taken'' name a b first second = record {
  later = omega (arith, first.later, second.later);
  here = each_then (reads name) (reads' name) (reads'' name) (taken name) (taken' name) (taken'' name) a b second.later first.here second.here;
  others = λ n other. second.others n other ∙ first.others n other;
}

-- more that give nothing are allowed
pub each_within : (reads reads' taken taken' a b : ℕ) → a ≤ b → EachGives reads reads' taken taken' a → EachGives reads reads' taken taken' b
each_within reads reads' taken taken' a b within (inl gives) = inl (omega (arith, within, gives))
each_within reads reads' taken taken' a b within (inr last) = inr last

pub reads_within : (reads reads' taken taken' : List ℕ → ℕ) (name : List ℕ) (a b : ℕ) → a ≤ b → ReadsByBytes reads reads' taken taken' name a
    → ReadsByBytes reads reads' taken taken' name b
reads_within reads reads' taken taken' name a b within gives = record {
  later = gives.later;
  here = each_within (reads name) (reads' name) (taken name) (taken' name) a b within gives.here;
  others = gives.others;
}

-- counts that stay apart by some reads, and then by some more, are apart
pub apart_then : (counted counted' : List ℕ → Bool) (faults faults' faults'' reads reads' reads'' : List ℕ → ℕ) (name : List ℕ)
    → counted' name ≡ counted name → CountsApart counted faults faults' reads reads' name → CountsApart counted' faults' faults'' reads' reads'' name
    → CountsApart counted faults faults'' reads reads'' name
apart_then counted counted' faults faults' faults'' reads reads' reads'' name same first second = record {
  faults_stay = λ is n other. second.faults_stay (subst (λ (t : Bool). IsTrue t) (sym same) is) n other ∙ first.faults_stay is n other;
  reads_stay = λ isnt. second.reads_stay (subst (λ (t : Bool). IsTrue (not t)) (sym same) isnt) ∙ first.reads_stay isnt;
}

-- ---- the longest buffer
pub pieces_none : (n : ℕ) → AsksForPieces n n
pieces_none n = grind (arith)

pub pieces_then : (a b c : ℕ) → AsksForPieces a b → AsksForPieces b c → AsksForPieces a c
pieces_then a b c first second = grind (arith, first, second)
