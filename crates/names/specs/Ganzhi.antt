-- A list of day names for those who have none: the sixty stem and branch names (六十甲子, 干支) from 甲子 to 癸亥, in UTF-8.
-- Assumes nothing.
use mathlib.Core.List.{List, [], ◌∷◌, ◌++◌, flatten}
use Rattle.std.specs.Prelude.{ℕ, ◌+◌, ◌/◌, ◌%◌, length, get_or}
use Prim.Native.Char.{Char, code}
use Rattle.reckoning.specs.Search.{list_from}
use Rattle.lunisolar.specs.Sixty.{sixty}

-- the ten stems (天干) and the twelve branches (地支)
abbrev pub stems : List Char
stems = "甲" ∷ "乙" ∷ "丙" ∷ "丁" ∷ "戊" ∷ "己" ∷ "庚" ∷ "辛" ∷ "壬" ∷ "癸" ∷ []

abbrev pub branches : List Char
branches = "子" ∷ "丑" ∷ "寅" ∷ "卯" ∷ "辰" ∷ "巳" ∷ "午" ∷ "未" ∷ "申" ∷ "酉" ∷ "戌" ∷ "亥" ∷ []

-- the three bytes that UTF-8 has for a character from U+0800 to U+FFFF
abbrev pub utf8 : Char → List ℕ
utf8 c = (0xe0 + code c / 0x1000) ∷ (0x80 + code c / 0x40 % 0x40) ∷ (0x80 + code c % 0x40) ∷ []

-- the name of day d, counted from 0, which is jiazi: its stem and its branch, which go round by themselves
abbrev pub ganzhi_of : ℕ → List ℕ
ganzhi_of d = utf8 (get_or stems (d % length stems) "甲") ++ utf8 (get_or branches (d % length branches) "子")

-- all sixty, one after the other
unfoldable pub ganzhi : List ℕ
ganzhi = flatten (list_from ganzhi_of 0 sixty)
