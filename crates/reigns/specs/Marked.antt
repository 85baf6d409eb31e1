-- How many in a reign (02 §7): the marked new moons and the marked full moons from one year of a volume to another, both included, from the totals
-- of its blocks.
-- Assumes nothing.
use Rattle.std.specs.Prelude.{Result, Ok, Err, Bool, ◌&&◌, List, [], ◌∷◌, ℕ, ◌+◌, ◌-◌, leb, ltb, eqb, length}
use Rattle.reckoning.specs.Search.{pick}
use Rattle.refusal.specs.declared.Refusal.{Refusal}
use Rattle.totals.specs.declared.Totals.{Totals}
use Rattle.blocks.specs.Check.{right_check}
use Rattle.blocks.specs.Block.{totals_in}
use Rattle.volumes.specs.Volume.{block_in}
use Rattle.volumes.specs.Reader.{whole_blocks, block_count, first_year}

-- the first four bytes of a volume name its first year, and each block of it one year more: the year after its last, and the block of a year
abbrev pub end_year : List ℕ → ℕ
end_year bytes = first_year bytes + block_count bytes

abbrev pub block_of_year : List ℕ → ℕ → List ℕ
block_of_year bytes year = block_in bytes (year - first_year bytes)

-- two years, in order, of those from a first one to the one before the end
unfoldable pub in_volume : ℕ → ℕ → ℕ → ℕ → Bool
in_volume first end from to = leb first from && (leb from to && ltb to end)

-- none of the three later totals is below the earlier one
unfoldable pub none_below : Totals → Totals → Bool
none_below earlier later = leb earlier.leaps later.leaps && (leb earlier.news later.news && leb earlier.fulls later.fulls)

-- from the totals of the last year alone: refused under 12 if its block's check is wrong
unfoldable pub from_last : List ℕ → Result (ℕ × ℕ) Refusal
from_last last = pick (right_check last) (Ok ((totals_in last).news, (totals_in last).fulls)) (Err Refusal.Block)

-- from the totals of the last year and of the one before the first: refused under 12 if either block's check is wrong or a later total is below the
-- earlier one
unfoldable pub from_both : List ℕ → List ℕ → Result (ℕ × ℕ) Refusal
from_both before last =
    pick (right_check before && (right_check last && none_below (totals_in before) (totals_in last)))
    (Ok (((totals_in last).news - (totals_in before).news), ((totals_in last).fulls - (totals_in before).fulls)))
    (Err Refusal.Block)

-- refused under 11 where the bytes are no whole number of blocks or none, then under 2 for years not in the volume or in the wrong order, then
-- under 12; from the last year alone if the span starts the volume
unfoldable pub marked_answer : List ℕ → ℕ → ℕ → Result (ℕ × ℕ) Refusal
marked_answer bytes from to =
    pick (whole_blocks (length bytes))
    (pick (in_volume (first_year bytes) (end_year bytes) from to)
    (pick (eqb from (first_year bytes))
    (from_last (block_of_year bytes to))
    (from_both (block_of_year bytes (from - 1)) (block_of_year bytes to)))
    (Err Refusal.Span))
    (Err Refusal.Volume)

-- the new moons and the full moons, 0 where it is refused
abbrev pub marked_moons : Result (ℕ × ℕ) Refusal → List ℕ
marked_moons (Ok (news, fulls)) = news ∷ fulls ∷ []
marked_moons (Err e) = 0 ∷ 0 ∷ []
