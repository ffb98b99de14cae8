-- Numbers joined by commas: the first, and each further one after a comma.
use Rattle.std.proofs.Common.{◌≡◌, ℕ, ◌≤◌, ◌-◌, List, [], ◌∷◌, ◌++◌, length, get_or, take, drop, sym, ap, arith, append-nil, decimal, flat_map}
use Rattle.std.proofs.lemmas.List.{take_all}
use Rattle.model_text.specs.Print.{comma_list, groups_text}

-- the numbers, each after a comma
abbrev pub after_commas : List ℕ → List ℕ
after_commas ns = flat_map (λ n. 44 ∷ decimal n) ns

-- the first number, and the others after it
pub comma_list-cons : (n : ℕ) (ns : List ℕ) → comma_list (n ∷ ns) ≡ decimal n ++ after_commas ns
comma_list-cons n [] = sym (append-nil (decimal n))
comma_list-cons n (m ∷ more) = ap (λ t. decimal n ++ 44 ∷ t) (comma_list-cons m more)

-- the groups by their first one, and the others as a slice pattern has them
pub groups_text-first : (gs : List ℕ) (g : ℕ) → 1 ≤ length gs → g ≡ get_or gs 0 g
    → groups_text gs ≡ decimal g ++ after_commas (take (length gs - 1) (drop 1 gs))
groups_text-first [] g some first = absurd (omega arith)
groups_text-first (x ∷ gs) g some first =
    let others : length (x ∷ gs) - 1 ≡ length gs = omega arith in
    rw (first, others, take_all (length gs) gs (omega arith)) (comma_list-cons x gs)
