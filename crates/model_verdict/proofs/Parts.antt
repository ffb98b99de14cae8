-- Parts by number.
use Rattle.std.proofs.Common.{◌≡◌, ℕ, zero, suc, ◌<◌, refl, arith}
use Rattle.model_box.specs.Row.{Part, Uids, EffectiveUids, FsUids, Gids, EffectiveGids, FsGids, Groups, MappedUids, MappedGids}
use Rattle.model_box.specs.Row.{PermittedCaps, InheritableCaps, BoundingCaps, NewPrivs, RootCounts, LockClear}

-- the part of that number
abbrev pub part_at : ℕ → Part
part_at zero = Uids
part_at (suc zero) = EffectiveUids
part_at (suc (suc zero)) = FsUids
part_at (suc (suc (suc zero))) = Gids
part_at (suc (suc (suc (suc zero)))) = EffectiveGids
part_at (suc (suc (suc (suc (suc zero))))) = FsGids
part_at (suc (suc (suc (suc (suc (suc zero)))))) = Groups
part_at (suc (suc (suc (suc (suc (suc (suc zero))))))) = MappedUids
part_at (suc (suc (suc (suc (suc (suc (suc (suc zero)))))))) = MappedGids
part_at (suc (suc (suc (suc (suc (suc (suc (suc (suc zero))))))))) = PermittedCaps
part_at (suc (suc (suc (suc (suc (suc (suc (suc (suc (suc zero)))))))))) = InheritableCaps
part_at (suc (suc (suc (suc (suc (suc (suc (suc (suc (suc (suc zero))))))))))) = BoundingCaps
part_at (suc (suc (suc (suc (suc (suc (suc (suc (suc (suc (suc (suc zero)))))))))))) = NewPrivs
part_at (suc (suc (suc (suc (suc (suc (suc (suc (suc (suc (suc (suc (suc zero))))))))))))) = RootCounts
part_at (suc (suc (suc (suc (suc (suc (suc (suc (suc (suc (suc (suc (suc (suc n)))))))))))))) = LockClear

-- the number of a part
pub record Numbered (part : Part) : Type 0 where
  pub number : ℕ
  pub low : number < 15
  pub back : part_at number ≡ part

pub numbered : (part : Part) → Numbered part
numbered Uids = record { number = 0; low = omega arith; back = refl }
numbered EffectiveUids = record { number = 1; low = omega arith; back = refl }
numbered FsUids = record { number = 2; low = omega arith; back = refl }
numbered Gids = record { number = 3; low = omega arith; back = refl }
numbered EffectiveGids = record { number = 4; low = omega arith; back = refl }
numbered FsGids = record { number = 5; low = omega arith; back = refl }
numbered Groups = record { number = 6; low = omega arith; back = refl }
numbered MappedUids = record { number = 7; low = omega arith; back = refl }
numbered MappedGids = record { number = 8; low = omega arith; back = refl }
numbered PermittedCaps = record { number = 9; low = omega arith; back = refl }
numbered InheritableCaps = record { number = 10; low = omega arith; back = refl }
numbered BoundingCaps = record { number = 11; low = omega arith; back = refl }
numbered NewPrivs = record { number = 12; low = omega arith; back = refl }
numbered RootCounts = record { number = 13; low = omega arith; back = refl }
numbered LockClear = record { number = 14; low = omega arith; back = refl }
