-- Day names (02 §3): the label of a day of the sixty from one of two lent lists of names, theirs and the house's.
-- Assumes nothing.
use Rattle.std.specs.Prelude.{Result, Ok, Err, Bool, List, ℕ, suc, ◌+◌, ◌-◌, ◌*◌, eqb, length, take, drop}
use Rattle.std.specs.Borrow.{Bor}
use Rattle.reckoning.specs.Search.{pick, between}
use Rattle.refusal.specs.Numbers.{answer_number}
use Rattle.refusal.specs.declared.Refusal.{Refusal}
use Rattle.lunisolar.specs.Sixty.{sixty}
use Rattle.names.specs.declared.Whose.{Whose}
use Rattle.names.specs.declared.NameLocation.{NameLocation}

-- a name is six bytes, and a list is sixty names
abbrev pub name_bytes : ℕ
name_bytes = 6

abbrev pub list_bytes : ℕ
list_bytes = sixty * name_bytes

-- lent bytes, a list or a part of one: the memory they lie in, where they begin in it, and what they are
pub record Bytes : Type 0 where
  pub block : ℕ
  pub offset : ℕ
  pub contents : List ℕ

-- those that a slice refers to
abbrev pub bytes_of : Bor (List ℕ) → Bytes
bytes_of s = record { block = s.ref_ptr.0; offset = s.ref_ptr.1; contents = s.now }

-- how many they are
abbrev pub size : Bytes → ℕ
size s = length s.contents

-- the part of them from byte a up to byte e, which is left out
abbrev pub slice : Bytes → ℕ → ℕ → Bytes
slice s a e = record { block = s.block; offset = a + s.offset; contents = take (e - a) (drop a s.contents) }

-- n bytes are a list of sixty names if n is 360, whatever bytes they are
abbrev pub is_list : ℕ → Bool
is_list n = eqb n list_bytes

-- i is a day of the sixty
abbrev pub in_sixty : ℕ → Bool
in_sixty i = between 1 i (suc sixty)

-- where the name of day i begins in somebody's list: at byte 6(i − 1)
abbrev pub name_at : Whose → ℕ → NameLocation
name_at whose i = record { whose = whose; from = name_bytes * (i - 1) }

-- where the name of day i is found, by the sizes of the two lists: in theirs if that list is exactly 360 bytes, in the house's otherwise.
-- Refused under 3 for a day outside 1 to 60, then under 10 if neither list is 360 bytes
unfoldable pub location_for : ℕ → ℕ → ℕ → Result NameLocation Refusal
location_for i theirSize houseSize =
    pick (in_sixty i)
    (pick (is_list theirSize) (Ok (name_at Whose.Theirs i)) (pick (is_list houseSize) (Ok (name_at Whose.House i)) (Err Refusal.Names)))
    (Err Refusal.DayOfSixty)

-- somebody's list
abbrev pub list_of : Whose → Bytes → Bytes → Bytes
list_of Whose.Theirs theirs house = theirs
list_of Whose.House theirs house = house

-- and whose it is, as a number
abbrev pub whose_number : Whose → ℕ
whose_number Whose.Theirs = 1
whose_number Whose.House = 2

-- the name that is found there; refused, the empty part at the beginning of theirs
abbrev pub name_from : Result NameLocation Refusal → Bytes → Bytes → Bytes
name_from (Ok location) theirs house = slice (list_of location.whose theirs house) location.from (location.from + name_bytes)
name_from (Err e) theirs house = slice theirs 0 0

-- where the label of day i is found in two lists, the label, and its number, which is a call of its own
abbrev pub label_location : ℕ → Bytes → Bytes → Result NameLocation Refusal
label_location i theirs house = location_for i (size theirs) (size house)

abbrev pub label_of : ℕ → Bytes → Bytes → Bytes
label_of i theirs house = name_from (label_location i theirs house) theirs house

abbrev pub label_number : ℕ → Bytes → Bytes → ℕ
label_number i theirs house = answer_number (label_location i theirs house)
