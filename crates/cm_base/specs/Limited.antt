-- The limits of what is read and of what is asked about: their names, and the number that a count may reach (choice).
use Rattle.std.specs.Prelude.{ℕ, codes, List}
use Rattle.cm_base.specs.declared.limited.Limited.{Limited}
use Rattle.cm_base.specs.declared.limited.Limited.TheVariants as limit

-- the name of a limit
abbrev pub limit_name : Limited → List ℕ
limit_name limit.World = codes "world"
limit_name limit.Log = codes "log"
limit_name limit.Line = codes "line"
limit_name limit.Processes = codes "processes"
limit_name limit.Spaces = codes "spaces"
limit_name limit.Mounts = codes "mounts"
limit_name limit.Files = codes "files"
limit_name limit.Groups = codes "groups"
limit_name limit.Held = codes "held"
limit_name limit.Descriptors = codes "descriptors"
limit_name limit.Family = codes "family"
limit_name limit.Certificate = codes "certificate"
limit_name limit.Run = codes "run"

-- the number of a limit: it is hit where the count exceeds it
abbrev pub limit_number : Limited → ℕ
limit_number limit.World = 1048576
limit_number limit.Log = 1099511627776
limit_number limit.Line = 1048576
limit_number limit.Processes = 4096
limit_number limit.Spaces = 256
limit_number limit.Mounts = 64
limit_number limit.Files = 4096
limit_number limit.Groups = 1024
limit_number limit.Held = 4096
limit_number limit.Descriptors = 65536
limit_number limit.Family = 256
limit_number limit.Certificate = 67108864
limit_number limit.Run = 67108864
