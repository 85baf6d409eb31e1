-- The moon's side of the road at a new moon (01, "Nodes and eclipses").
-- Assumes nothing.
use Rattle.std.specs.Prelude.{List, [], ◌∷◌, ℕ, ◌+◌, ◌*◌, ◌/◌, ◌%◌, eqb, get_or}
use Rattle.reckoning.specs.Search.{pick}
use Rattle.units.specs.Xinghe.{N, P, M, era_months}
use Rattle.node.specs.Eclipses.{since_node}
use Rattle.node.specs.declared.Side.{Side}

-- the side as a number, 0 at the node, 1 outside, 2 inside: so lists and lines have it
abbrev pub side_number : Side → ℕ
side_number Side.AtNode = 0
side_number Side.Outside = 1
side_number Side.Inside = 2

-- the distance in degrees and remainder, and the side, with which an era begins
pub record Head : Type 0 where
  pub degrees : ℕ
  pub remainder : ℕ
  pub side : Side

abbrev head : ℕ → ℕ → Side → Head
head degrees remainder side = record { degrees = degrees; remainder = remainder; side = side }

-- the era heads as 000 prints them: jiazi (at the node, read as outside), jiaxu, jiashen, jiawu, jiachen, jiayin
abbrev pub heads : List Head
heads =
    head 0 0 Side.Outside
    ∷ head 127 39339 Side.Outside
    ∷ head 81 11561 Side.Inside
    ∷ head 34 192313 Side.Inside
    ∷ head 162 23122 Side.Outside
    ∷ head 115 203874 Side.Outside
    ∷ []

-- the head of era e, counted from 0, and that of the month's own era
abbrev pub head_in : ℕ → Head
head_in e = get_or heads e (head 0 0 Side.AtNode)

abbrev pub own_head : ℕ → Head
own_head m = head_in (m / era_months)

abbrev pub head_distance : Head → ℕ
head_distance h = h.degrees * N + h.remainder

-- the whole M's, where P is added to the head's distance for each month since
unfoldable pub passed : ℕ → ℕ
passed m = (head_distance (own_head m) + m % era_months * P) / M

abbrev pub turned : Side → Side
turned Side.AtNode = Side.AtNode
turned Side.Outside = Side.Inside
turned Side.Inside = Side.Outside

-- an even count of whole M's leaves the head's side, an odd one turns it
abbrev pub counted_side : ℕ → Side
counted_side m = pick (eqb (passed m % 2) 0) (own_head m).side (turned (own_head m).side)

-- distance exactly 0 is at the node
unfoldable pub side_of : ℕ → Side
side_of m = pick (eqb (since_node m) 0) Side.AtNode (counted_side m)
