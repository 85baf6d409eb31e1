-- The stages of each planet (02 §1; 000, 推五星見伏術), in print order, each under the characters it comes from. A stage has days; phrases that
-- only begin or end one have none and stand with it. What isn't printed is 0; a fraction printed by its numerator alone has the
-- denominator of the planet's direct motion before it.
-- Assumes nothing.
use Rattle.std.specs.Prelude.{List, [], ◌∷◌, ◌++◌, ℕ, ◌-◌, ℤ, pos, neg_ℤ, get_or, take, replicate}
use Rattle.planets.specs.declared.Apparition.{Apparition}
use Rattle.planets.specs.declared.Apparition.TheVariants.{Neither, Morning, Evening}
use Rattle.planets.specs.declared.StageKind.{StageKind}
use Rattle.planets.specs.declared.StageKind.TheVariants.{Unused, Hidden, Direct, Station, Retrograde}
use Rattle.planets.specs.declared.Stage.{Stage}

-- degrees gone back (退)
abbrev pub retreat : ℕ → ℤ
retreat n = neg_ℤ (pos n)

-- days and remainder (日餘), degrees and remainder (度餘), daily motion (日行) as whole degrees, numerator and denominator; what the planet
-- does, hidden (伏) before all else that is said of it; and morning (晨) or evening (夕), whichever its line has first
abbrev pub stage : ℕ → ℕ → ℤ → ℕ → ℕ → ℕ → ℕ → StageKind → Apparition → Stage
stage days remainder degrees excess whole numerator denominator kind apparition =
    record {
      days = days;
      remainder = record { parts = remainder };
      degrees = degrees;
      excess = record { parts = excess };
      whole = whole;
      numerator = numerator;
      denominator = denominator;
      kind = kind;
      apparition = apparition;
    }

-- Jupiter (歲星)
abbrev pub jupiter_stages : List Stage
jupiter_stages =
    -- 晨與日合，在日後伏，十六日、日餘六千八百四，行星二度、度餘一萬三千一百七十五
    stage 16 6804 (pos 2) 13175 0 0 0 Hidden Morning
    -- 晨見東方，順，疾，日行五十八分之十一，五十八日行十一度
    ∷ stage 58 0 (pos 11) 0 0 11 58 Direct Morning
    -- 順，遲，日行九分，五十八日行九度而留
    ∷ stage 58 0 (pos 9) 0 0 9 58 Direct Neither
    -- 不行，二十五日而旋
    ∷ stage 25 0 (pos 0) 0 0 0 0 Station Neither
    -- 逆，日行七分之一，八十四日退十二度
    ∷ stage 84 0 (retreat 12) 0 0 1 7 Retrograde Neither
    -- 復留，二十五日
    ∷ stage 25 0 (pos 0) 0 0 0 0 Station Neither
    -- 復順，遲，日行九分，五十八日行九度
    ∷ stage 58 0 (pos 9) 0 0 9 58 Direct Neither
    -- 復順，疾，日行十一分，五十八日行十一度
    ∷ stage 58 0 (pos 11) 0 0 11 58 Direct Neither
    -- 在日前，夕伏西方，順，十六日、日餘六千八百四，行星二度、度餘一萬三千一百七十六，而與日合
    ∷ stage 16 6804 (pos 2) 13176 0 0 0 Hidden Evening
    ∷ []

-- Mars (熒惑)
abbrev pub mars_stages : List Stage
mars_stages =
    -- 晨與日合，在日後伏，七十一日、日餘一萬六千一，行星五十五度、度餘一萬三千九百四十三
    stage 71 16001 (pos 55) 13943 0 0 0 Hidden Morning
    -- 晨見東方，順，疾，日行二十三分之十四，一百八十四日行一百一十二度
    ∷ stage 184 0 (pos 112) 0 0 14 23 Direct Morning
    -- 順，遲，日行十二分，九十二日行四十八度而留
    ∷ stage 92 0 (pos 48) 0 0 12 23 Direct Neither
    -- 不行，十一日而旋
    ∷ stage 11 0 (pos 0) 0 0 0 0 Station Neither
    -- 逆，日行六十二分之十七，六十二日退十七度
    ∷ stage 62 0 (retreat 17) 0 0 17 62 Retrograde Neither
    -- 復留，十一日
    ∷ stage 11 0 (pos 0) 0 0 0 0 Station Neither
    -- 復順，遲，日行十二分，九十二日行四十八度
    ∷ stage 92 0 (pos 48) 0 0 12 23 Direct Neither
    -- 復順，疾，日行十四分，一百八十四日行一百一十二度
    ∷ stage 184 0 (pos 112) 0 0 14 23 Direct Neither
    -- 在日前，夕伏西方，順，七十一日、日餘一萬六千二，行星五十五度、度餘一萬三千九百四十三，而與日合
    ∷ stage 71 16002 (pos 55) 13943 0 0 0 Hidden Evening
    ∷ []

-- Saturn (鎮星)
abbrev pub saturn_stages : List Stage
saturn_stages =
    -- 晨與日合，在日後伏，十八日、日餘四百九十，行星二度、度餘六千八百六十二
    stage 18 490 (pos 2) 6862 0 0 0 Hidden Morning
    -- 晨見東方，順，日行十二分之一，八十四日行七度而留
    ∷ stage 84 0 (pos 7) 0 0 1 12 Direct Morning
    -- 不行，三十六日而旋
    ∷ stage 36 0 (pos 0) 0 0 0 0 Station Neither
    -- 逆，日行十七分之一，一百二日退六度
    ∷ stage 102 0 (retreat 6) 0 0 1 17 Retrograde Neither
    -- 復留，三十六日
    ∷ stage 36 0 (pos 0) 0 0 0 0 Station Neither
    -- 復順，日行十二分之一，八十四日行七度
    ∷ stage 84 0 (pos 7) 0 0 1 12 Direct Neither
    -- 在日前，夕伏西方，順，十八日、日餘四百九十一，行星二度、度餘六千八百六十二而與日合
    ∷ stage 18 491 (pos 2) 6862 0 0 0 Hidden Evening
    ∷ []

-- Venus (太白): the evening half, then the morning half
abbrev pub venus_stages : List Stage
venus_stages =
    -- 夕與日合，在日前伏，四十一日、日餘一萬五千六百八十一，行星五十一度、度餘一萬五千六百八十一
    stage 41 15681 (pos 51) 15681 0 0 0 Hidden Evening
    -- 夕見西方，順，疾，日行一度十三分之三，九十一日行一百一十二度
    ∷ stage 91 0 (pos 112) 0 1 3 13 Direct Evening
    -- 順，遲，日行一度十三分之二，九十一日行一百五度
    ∷ stage 91 0 (pos 105) 0 1 2 13 Direct Neither
    -- 順，大遲，日行十五分之十一，四十五日行三十三度而留
    ∷ stage 45 0 (pos 33) 0 0 11 15 Direct Neither
    -- 不行，八日而旋
    ∷ stage 8 0 (pos 0) 0 0 0 0 Station Neither
    -- 逆，日行三分之二，九日退六度
    ∷ stage 9 0 (retreat 6) 0 0 2 3 Retrograde Neither
    -- 在日前，夕伏西方，伏六日，退四度，而與日晨合
    ∷ stage 6 0 (retreat 4) 0 0 0 0 Hidden Evening
    -- 晨與日合，在日後，伏六日，退四度
    ∷ stage 6 0 (retreat 4) 0 0 0 0 Hidden Morning
    -- 晨見東方，逆，日行三分之二，九日退六度而留
    ∷ stage 9 0 (retreat 6) 0 0 2 3 Retrograde Morning
    -- 不行，八日
    ∷ stage 8 0 (pos 0) 0 0 0 0 Station Neither
    -- 順，日行十五分之十一，四十五日行三十三度
    ∷ stage 45 0 (pos 33) 0 0 11 15 Direct Neither
    -- 順，疾，日行一度十三分之二，九十一日行一百五度
    ∷ stage 91 0 (pos 105) 0 1 2 13 Direct Neither
    -- 順，大疾，日行一度十三分之三，九十一日行一百一十二度
    ∷ stage 91 0 (pos 112) 0 1 3 13 Direct Neither
    -- 在日後，晨伏東方，順，四十一日、日餘一萬五千六百八十一，行星五十一度、度餘一萬五千六百八十一，而與日夕合
    ∷ stage 41 15681 (pos 51) 15681 0 0 0 Hidden Morning
    ∷ []

-- Mercury (辰星): the evening half, then the morning half
abbrev pub mercury_stages : List Stage
mercury_stages =
    -- 夕與日合，在日前伏，十七日、日餘一萬五千八百三十八，行星三十四度、度餘一萬五千八百三十八
    stage 17 15838 (pos 34) 15838 0 0 0 Hidden Evening
    -- 夕見西方，順，疾，日行一度三分之一，十八日行二十四度
    ∷ stage 18 0 (pos 24) 0 1 1 3 Direct Evening
    -- 順，遲，日行七分之五，七日行五度而留
    ∷ stage 7 0 (pos 5) 0 0 5 7 Direct Neither
    -- 不行，四日
    ∷ stage 4 0 (pos 0) 0 0 0 0 Station Neither
    -- 在日前，夕伏西方，逆，十一日退六度，而與日晨合
    ∷ stage 11 0 (retreat 6) 0 0 0 0 Hidden Evening
    -- 晨與日合，在日後伏，十一日，退六度
    ∷ stage 11 0 (retreat 6) 0 0 0 0 Hidden Morning
    -- 晨見東方而留，不行，四日
    ∷ stage 4 0 (pos 0) 0 0 0 0 Station Morning
    -- 順，遲，日行七分之五，七日行五度
    ∷ stage 7 0 (pos 5) 0 0 5 7 Direct Neither
    -- 順，疾，日行一度三分之一，十八日行二十四度
    ∷ stage 18 0 (pos 24) 0 1 1 3 Direct Neither
    -- 在日後，晨伏東方，順，十七日、日餘一萬五千八百三十八，行星三十四度、度餘一萬五千八百三十八，而與日夕合
    ∷ stage 17 15838 (pos 34) 15838 0 0 0 Hidden Morning
    ∷ []

-- numbered as the planets are; asked for only where a planet has that number
abbrev pub stages_of : ℕ → List Stage
stages_of p = get_or (jupiter_stages ∷ mars_stages ∷ saturn_stages ∷ venus_stages ∷ mercury_stages ∷ []) (p - 1) []

-- the room that an answer has: that of the longest list
abbrev pub room : ℕ
room = 14

-- what a place has that no stage takes: zero throughout, its kind "unused"; and all places so
abbrev pub zero_stage : Stage
zero_stage = stage 0 0 (pos 0) 0 0 0 0 Unused Neither

abbrev pub no_stages : List Stage
no_stages = replicate room zero_stage

-- a list in that room: zero past its end
abbrev pub in_room : List Stage → List Stage
in_room s = take room (s ++ no_stages)
