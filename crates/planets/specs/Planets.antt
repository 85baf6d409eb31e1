-- The five planets (02 §1): each one's number (數) over D, as 000 prints it with its editors' mendings, and whether half of it is taken off.
-- Assumes nothing.
use Rattle.std.specs.Prelude.{Bool, true, false, List, [], ◌∷◌, ℕ, suc, ◌-◌, ◌<◌, get_or, length}
use Rattle.reckoning.specs.Search.{between}
use Rattle.planets.specs.Law.{SoundPeriod}
use Rattle.planets.specs.declared.synodic.Planet.{Planet}

-- 木精曰歲星，其數六百七十二萬三千八百八十八
abbrev pub jupiter : Planet
jupiter = record { period = 6723888; halved = false }

-- 火精曰熒惑，其數一千三百一十四萬九千八十三
abbrev pub mars : Planet
mars = record { period = 13149083; halved = false }

-- 土精曰鎮星，其數六百三十七萬四千六十一
abbrev pub saturn : Planet
saturn = record { period = 6374061; halved = false }

-- 金精曰太白，其數九百八十四萬三千八百八十二
abbrev pub venus : Planet
venus = record { period = 9843882; halved = true }

-- 水精曰辰星，其數一百九十五萬三千七百一十六
abbrev pub mercury : Planet
mercury = record { period = 1953716; halved = true }

-- numbered from 1 as 02 lists them
abbrev pub planets : List Planet
planets = jupiter ∷ mars ∷ saturn ∷ venus ∷ mercury ∷ []

-- of the numbers, those that a planet has
abbrev pub is_planet : ℕ → Bool
is_planet p = between 1 p (suc (length planets))

-- the planet with that number; asked for only where one has it
abbrev pub planet_of : ℕ → Planet
planet_of p = get_or planets (p - 1) jupiter

-- what the code asks of a planet: what the law asks of its number, and room in 64 bits for the round and two of them
pub record SoundPlanet (k : Planet) : Type 0 where
  pub number : SoundPeriod k.period k.halved
  pub room : k.period < 16777216
