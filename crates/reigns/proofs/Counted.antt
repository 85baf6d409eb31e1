-- For a volume that the reader accepts the answer is the count over every month of the span.
-- Assumes nothing.
use Rattle.std.specs.Prelude.{Result, Ok}
use Rattle.refusal.specs.declared.Refusal.{Refusal}
use Rattle.refusal.specs.Numbers.{answer_number}
use mathlib.Core.Path.{◌≡◌, sym, ap, ◌∙◌}
use mathlib.Core.Logic.{⊎_elim}
use mathlib.Core.List.{List}
use Prim.Native.Nat.{ℕ, suc, ◌+◌, ◌-◌, ◌≤◌, ◌<◌}
use native.Mathlib.Nat.{eq-or-lt_of_le}
use native.Mathlib.Omega.{arith}
use borrow.Author.Tests.{eq-eqb, ne_eqb}
use lib.Dec.{T, eqb}
use lib.ListN.{length}
use Rattle.reckoning.specs.Search.{pick}
use Rattle.reckoning.proofs.Searches.{T_true}
use Rattle.node.specs.Marks.{new_marked, full_marked}
use Rattle.totals.specs.Totals.{plus, totals, over_months}
use Rattle.totals.specs.declared.Totals.{Totals}
use Rattle.totals.proofs.Years.{few_totals, totals_on}
use Rattle.totals.proofs.Months.{news_counted, fulls_counted}
use Rattle.blocks.specs.Check.{right_check}
use Rattle.blocks.specs.Block.{totals_in}
use Rattle.blocks.proofs.Values.{totals_back}
use Rattle.volumes.specs.Volume.{Run, block_at, block_in}
use Rattle.volumes.specs.Reader.{whole_blocks, first_year, read_answer}
use Rattle.volumes.proofs.Parts.{block_in_lem, right_at}
use Rattle.volumes.proofs.Answered.{accepted}
use Rattle.reigns.specs.Marked.{end_year, block_of_year, in_volume, none_below, from_last, from_both, marked_answer}
use Rattle.reigns.proofs.Spans.{Inside, is_inside, is_grown}

-- a block with a right check that holds these totals
pub record Holds (block : List ℕ) (t : Totals) : Type 0 where
  pub right : T (right_check block)
  pub totals : totals_in block ≡ t

-- each of the writer's holds those since its volume's first year
pub holds : (start year : ℕ) → Run start year → Holds (block_at start (year - start)) (totals start (year + 1 - start))
unfolding block_at
holds start year r =
    let k : ℕ = year - start in
    let e : suc k ≡ year + 1 - start = omega (arith, r.order) in
    let few = few_totals start (suc k) r.least (omega (arith, r.order, r.most)) in
    rw (← e)
    (record {
      right = right_at start k;
      totals = totals_back (start + k) (totals start (suc k)) (omega (arith, few.leaps)) (omega (arith, few.news)) (omega (arith, few.fulls));
    })

abbrev pub moons : Totals → Result (ℕ × ℕ) Refusal
moons t = Ok (t.news, t.fulls)

pub one : (last : List ℕ) (t : Totals) → Holds last t → from_last last ≡ moons t
unfolding from_last
one last t h = rw (T_true (right_check last) h.right, h.totals)

two : (before last : List ℕ) (s d : Totals) → Holds before s → Holds last (plus s d) → from_both before last ≡ moons d
unfolding from_both
two before last s d b l =
    let news : s.news + d.news - s.news ≡ d.news = omega arith in
    let fulls : s.fulls + d.fulls - s.fulls ≡ d.fulls = omega arith in
    let grown = is_grown s (plus s d) (record { leaps = omega arith; news = omega arith; fulls = omega arith }) in
    rw (T_true (right_check before) b.right, T_true (right_check last) l.right, b.totals, l.totals, T_true (none_below s (plus s d)) grown, news, fulls)

-- whatever else the bytes hold
module _ (bytes : List ℕ) (from to : ℕ) (whole : T (whole_blocks (length bytes))) (years : Inside (first_year bytes) (end_year bytes) from to) where
  pub looks : marked_answer bytes from to ≡ pick (eqb from (first_year bytes)) (from_last (block_of_year bytes to)) (from_both (block_of_year bytes (from - 1)) (block_of_year bytes to))
  unfolding marked_answer
  looks =
      rw (T_true (whole_blocks (length bytes)) whole, T_true (in_volume (first_year bytes) (end_year bytes) from to) (is_inside (first_year bytes) (end_year bytes) from to years))

  -- A SPAN THAT STARTS THE VOLUME IS COUNTED where the block of its last year is that of the volume that begins with it
  pub from_start : Run from to → from ≡ first_year bytes → block_of_year bytes to ≡ block_at from (to - from) → marked_answer bytes from to ≡ moons (totals from (to + 1 - from))
  from_start r e last =
      looks ∙ rw (eq-eqb from (first_year bytes) e, last) (one (block_at from (to - from)) (totals from (to + 1 - from)) (holds from to r))

  -- ANY OTHER IS COUNTED where the two blocks are those of their years in one volume, in whatever year that begins
  pub from_within : (start : ℕ) → Run start to → start < from → first_year bytes < from → block_of_year bytes (from - 1) ≡ block_at start (from - 1 - start) → block_of_year bytes to ≡ block_at start (to - start) → marked_answer bytes from to ≡ moons (totals from (to + 1 - from))
  from_within start r past later before last =
      let ne = ne_eqb from (first_year bytes) (λ (q : from ≡ first_year bytes). omega arith) in
      let b = holds start (from - 1) (record { least = r.least; order = omega arith; most = omega (arith, r.most, years.order) }) in
      let k : from - 1 + 1 - start ≡ from - start = omega arith in
      let f : start + (from - start) ≡ from = omega arith in
      let all : from - start + (to + 1 - from) ≡ to + 1 - start = omega (arith, years.order) in
      let sum : totals start (to + 1 - start) ≡ plus (totals start (from - start)) (totals from (to + 1 - from)) = rw (all, f) at (totals_on start (from - start) (to + 1 - from)) in
      looks
      ∙ rw (ne, before, last)
      (two (block_at start (from - 1 - start)) (block_at start (to - start)) (totals start (from - start)) (totals from (to + 1 - from)) (rw k at b) (rw sum at (holds start to r)))

-- a span inside an accepted volume
module _ (bytes : List ℕ) (first last from to : ℕ) (read : read_answer bytes ≡ Ok (first, last)) (after : first ≤ from) (order : from ≤ to) (before : to ≤ last) where
  own : (year : ℕ) → first ≤ year → year ≤ last → block_of_year bytes year ≡ block_at first (year - first)
  own year lo hi =
      let a = accepted bytes first last read in
      rw a.named (ap (λ (l : List ℕ). block_in l (year - first)) a.is ∙ block_in_lem first (last + 1 - first) (year - first) (omega arith))

  -- FOR A VOLUME THAT THE READER ACCEPTS the answer is the count of the marks on the eclipse pages of all months of the years from one to the other
  pub marks_counted : marked_answer bytes from to ≡ moons (totals from (to + 1 - from))
  marks_counted =
      let a = accepted bytes first last read in
      let years : Inside (first_year bytes) (end_year bytes) from to = record { after = omega (arith, a.named); order = order; before = omega (arith, a.named, a.count, a.run.order) } in
      ⊎_elim
      (λ (e : first ≡ from).
      let r : Run from to = record { least = omega (arith, a.run.least); order = order; most = omega (arith, a.run.most) } in
      from_start bytes from to a.whole years r (sym e ∙ sym a.named) (rw (← e) (own to (omega arith) before)))
      (λ (l : first < from).
      let r : Run first to = record { least = a.run.least; order = omega arith; most = omega (arith, a.run.most) } in
      from_within bytes from to a.whole years first r l (omega (arith, a.named)) (own (from - 1) (omega arith) (omega arith)) (own to (omega arith) before))
      (eq-or-lt_of_le after)

  -- WHICH IS THE COUNT OVER EVERY MONTH OF THE SPAN, from the first of its first year to the last of its last, by the eclipse definition
  pub months_counted : marked_answer bytes from to ≡ Ok ((over_months new_marked from to), (over_months full_marked from to))
  months_counted =
      let r = (accepted bytes first last read).run in
      marks_counted ∙ rw (news_counted from to (omega (arith, r.least)) order (omega (arith, r.most)), fulls_counted from to (omega (arith, r.least)) order (omega (arith, r.most)))

  -- AND IS NEVER REFUSED
  pub never_refused : answer_number (marked_answer bytes from to) ≡ 0
  never_refused = ap answer_number marks_counted
