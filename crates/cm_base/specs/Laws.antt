-- What holds of sets of capabilities, in the words of membership, and of the tables of names; proved once, for all that
-- is built on them.
use Rattle.std.specs.Prelude.{◌≡◌, ℕ, ◌==◌, ◌<◌, ◌&&◌, ◌||◌, ◌↔◌, IsTrue, false, not, nat_lt, Some, option_and_then}
use Rattle.cm_base.specs.declared.errno.Errno.{Errno}
use Rattle.cm_base.specs.CapSet.{cap_count, full, none, holds, union, meet, minus, single, with, without, is_within, IsCapSet}
use Rattle.cm_base.specs.Names.{cap_name, cap_of, errno_name, errno_of}

-- which capabilities each set holds
pub record Membership : Type 0 where
  pub in_none : (c : ℕ) → holds none c ≡ false
  pub in_full : (c : ℕ) → holds full c ≡ nat_lt c cap_count
  pub in_single : (k c : ℕ) → holds (single k) c ≡ (c == k)
  pub in_union : (a b c : ℕ) → holds (union a b) c ≡ (holds a c || holds b c)
  pub in_meet : (a b c : ℕ) → holds (meet a b) c ≡ (holds a c && holds b c)
  pub in_minus : (a b c : ℕ) → holds (minus a b) c ≡ (holds a c && not (holds b c))
  pub in_with : (a k c : ℕ) → holds (with a k) c ≡ (holds a c || c == k)
  pub in_without : (a k c : ℕ) → holds (without a k) c ≡ (holds a c && not (c == k))

-- A set is within another exactly where each member of the first is a member of the second.
abbrev pub InclusionByMembers : Type 0
InclusionByMembers = (a b : ℕ) → IsTrue (is_within a b) ↔ ((c : ℕ) → IsTrue (holds a c) → IsTrue (holds b c))

-- Two words with the same members are one.
abbrev pub EqualityByMembers : Type 0
EqualityByMembers = (a b : ℕ) → ((c : ℕ) → holds a c ≡ holds b c) → a ≡ b

-- Inclusion is an order, with none at its foot and the set of all capabilities at its head; a meet is the greatest set
-- within both, a union the least that both are within.
pub record InclusionOrder : Type 0 where
  pub reflexive : (a : ℕ) → IsTrue (is_within a a)
  pub transitive : (a b c : ℕ) → IsTrue (is_within a b) → IsTrue (is_within b c) → IsTrue (is_within a c)
  pub antisymmetric : (a b : ℕ) → IsTrue (is_within a b) → IsTrue (is_within b a) → a ≡ b
  pub none_within : (a : ℕ) → IsTrue (is_within none a)
  pub within_full : (a : ℕ) → IsCapSet a → IsTrue (is_within a full)
  pub meet_within_first : (a b : ℕ) → IsTrue (is_within (meet a b) a)
  pub meet_within_second : (a b : ℕ) → IsTrue (is_within (meet a b) b)
  pub within_meet : (a b c : ℕ) → IsTrue (is_within c a) → IsTrue (is_within c b) → IsTrue (is_within c (meet a b))
  pub first_within_union : (a b : ℕ) → IsTrue (is_within a (union a b))
  pub second_within_union : (a b : ℕ) → IsTrue (is_within b (union a b))
  pub union_within : (a b c : ℕ) → IsTrue (is_within a c) → IsTrue (is_within b c) → IsTrue (is_within (union a b) c)
  pub minus_within : (a b : ℕ) → IsTrue (is_within (minus a b) a)

-- The operations give sets of capabilities.
pub record CapSetsKept : Type 0 where
  pub none_is : IsCapSet none
  pub full_is : IsCapSet full
  pub union_is : (a b : ℕ) → IsCapSet a → IsCapSet b → IsCapSet (union a b)
  pub meet_is : (a b : ℕ) → IsCapSet a → IsCapSet (meet a b)
  pub minus_is : (a b : ℕ) → IsCapSet a → IsCapSet (minus a b)
  pub with_is : (a k : ℕ) → IsCapSet a → k < cap_count → IsCapSet (with a k)
  pub without_is : (a k : ℕ) → IsCapSet a → IsCapSet (without a k)

-- A name, read back, gives what has it: no name stands for two capabilities, or for two errors.
pub record NamesReadBack : Type 0 where
  pub capability : (c : ℕ) → c < cap_count → option_and_then cap_of (cap_name c) ≡ Some c
  pub error : (e : Errno) → errno_of (errno_name e) ≡ Some e
