-- The numbers that bound ids, pids and securebits, each named once.
use Rattle.std.specs.Prelude.{ℕ}

-- the greatest number of 32 bits
abbrev pub greatest_number : ℕ
greatest_number = 4294967295

-- -1 as a number of 32 bits: as an argument it leaves an id as it is (setresuid(2))
abbrev pub minus_one : ℕ
minus_one = greatest_number

-- How many ids there are: all numbers of 32 bits but -1, which stands for none (user_namespaces(7), "User and group ID
-- mappings: uid_map and gid_map").
abbrev pub id_count : ℕ
id_count = minus_one

-- the last pid (proc(5), pid_max; that 4194304 is one is a choice)
abbrev pub last_pid : ℕ
last_pid = 4194304

-- how many securebits there are: four flags, each with its lock (capabilities(7), "The securebits flags")
abbrev pub securebit_count : ℕ
securebit_count = 8
