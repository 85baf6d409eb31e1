-- What a month's row keeps of its new moon is what its pages say: the eclipse page and the correction page of the row's year and place.
-- Assumes nothing.
use Rattle.std.specs.Prelude.{Ok}
use mathlib.Core.Path.{◌≡◌, sym, ap}
use Prim.Native.Nat.{ℕ}
use Rattle.mean_calendar.specs.Months.{month_of}
use Rattle.node.specs.Eclipses.{node_at}
use Rattle.node.specs.Nodes.{nodes_of}
use Rattle.node.specs.declared.Nodes.{Nodes}
use Rattle.anomaly.specs.Corrections.{corrected_at, corrections_of}
use Rattle.anomaly.specs.declared.Corrections.{Corrections}
use Rattle.calendar.specs.Rows.{row_of, month_row}
use Rattle.calendar.specs.declared.MonthRow.{MonthRow}
use Rattle.calendar.proofs.Round.{row_found}
use Rattle.ephemeris.specs.Jobs.{nodes_for, nodes_at, corrections_for, corrections_at}

-- both pages are answered where the row is, and of the new moon they say the same
pub record Pages (n p : ℕ) (row : MonthRow) : Type 0 where
  pub eclipses : Nodes
  pub eclipse_page : nodes_at n p ≡ Ok eclipses
  pub corrections : Corrections
  pub correction_page : corrections_at n p ≡ Ok corrections
  pub degrees : row.degrees ≡ eclipses.new.distance.degrees
  pub residue : row.residue ≡ eclipses.new.distance.remainder
  pub side : row.side ≡ eclipses.side
  pub anomaly : row.anomaly ≡ corrections.new.anomaly.day
  pub rest : row.rest ≡ corrections.new.anomaly.rest

pub row_pages : (n p : ℕ) (row : MonthRow) → Ok row ≡ month_row n p → Pages n p row
unfolding row_of nodes_of node_at corrections_of corrected_at nodes_for corrections_for month_of
row_pages n p row e =
    let f = row_found n p row e in
    let m : ℕ = f.month in
    let is : row ≡ row_of m = f.is_row in
    record {
      eclipses = nodes_of m;
      eclipse_page = ap nodes_for (sym f.at);
      corrections = corrections_of m;
      correction_page = ap corrections_for (sym f.at);
      degrees = ap (λ (r : MonthRow). r.degrees) is;
      residue = ap (λ (r : MonthRow). r.residue) is;
      side = ap (λ (r : MonthRow). r.side) is;
      anomaly = ap (λ (r : MonthRow). r.anomaly) is;
      rest = ap (λ (r : MonthRow). r.rest) is;
    }
