-- The marks of a year, and the totals of the round's first years, by the months before a year.
-- Assumes nothing.
use Rattle.std.specs.Prelude.{Result}
use Rattle.refusal.specs.declared.Refusal.{Refusal}
use Rattle.std.specs.Result.{result_unwrap_or}
use mathlib.Core.Path.{◌≡◌, refl, ap, ◌∙◌}
use mathlib.Core.Logic.{⊎_elim}
use mathlib.Core.Bool.{Bool}
use Prim.Native.Nat.{ℕ, zero, suc, ◌+◌, ◌-◌, ◌*◌, ◌≤◌, ◌<◌}
use native.Mathlib.Nat.{add-zero}
use native.Mathlib.Omega.{arith}
use Rattle.reckoning.specs.Search.{count}
use Rattle.reckoning.specs.Rule.{month_count, is_leap, leap_place}
use Rattle.reckoning.proofs.Counts.{count_small, count_on, count_same, count_none, count_one}
use Rattle.reckoning.proofs.Climbs.{climb_by}
use Rattle.reckoning.proofs.Leaps.{years_climb, year_ends, Common, Long, two_kinds}
use Rattle.reckoning.proofs.Rows.{year_of_lem}
use Rattle.lunisolar.specs.Names.{name_of}
use Rattle.lunisolar.proofs.Laws.{year_at_lem, lunation_at_lem}
use Rattle.mean_calendar.specs.Months.{month_of}
use Rattle.units.specs.Xinghe.{xinghe, rule, round_years, round_months}
use Rattle.units.proofs.Sound.{laws}
use Rattle.node.specs.Nodes.{nodes_of}
use Rattle.node.specs.declared.Nodes.{Nodes}
use Rattle.node.specs.Marks.{new_marked, full_marked, new_moons_marked, full_moons_marked}
use Rattle.calendar.specs.Heads.{head_of, head_for}
use Rattle.calendar.specs.Answers.{zero_head}
use Rattle.calendar.specs.Rows.{row_of, row_for}
use Rattle.calendar.proofs.Round.{round_months_lem}
use Rattle.ephemeris.specs.Jobs.{nodes_for, nodes_at}
use Rattle.ephemeris.specs.Answers.{zero_nodes}
use Rattle.year_list.specs.Filled.{row_at}
use Rattle.totals.specs.Totals.{months_of, marks_of, plus, totals}
use Rattle.totals.specs.declared.Totals.{Totals}

-- the year with y years past
module _ (y : ℕ) (in_round_lem : y < round_years) where
  months_is : months_of (1 + y) ≡ month_count rule y
  unfolding head_for head_of
  months_is =
      let e : 1 + y ≡ y + 1 = omega arith in
      ap months_of e ∙ ap (λ (a : Result ℕ Refusal). (result_unwrap_or (head_for a) zero_head).months) (year_at_lem xinghe y in_round_lem)

  -- its rows are those of its months, and so are its eclipse pages
  row_leap : (p : ℕ) → p < month_count rule y → (row_at (1 + y) p).leap ≡ is_leap rule y (rule.before y + p)
  unfolding row_for row_of name_of month_of
  row_leap p h =
      let e : 1 + y ≡ y + 1 = omega arith in
      rw (e, lunation_at_lem xinghe y p in_round_lem h, year_of_lem rule laws y p h)

  page : (p : ℕ) → p < month_count rule y → result_unwrap_or (nodes_at (1 + y) p) zero_nodes ≡ nodes_of (rule.before y + p)
  unfolding nodes_for
  page p h = let e : 1 + y ≡ y + 1 = omega arith in rw (e, lunation_at_lem xinghe y p in_round_lem h)

  -- a year has a leap month for each month past twelve
  leaps_is : 12 + (marks_of (1 + y)).leaps ≡ month_count rule y
  unfolding marks_of
  leaps_is =
      let same = count_same (λ (p : ℕ). (row_at (1 + y) p).leap) (λ (p : ℕ). is_leap rule y (rule.before y + p)) (month_count rule y) row_leap in
      rw (months_is, same)
      (⊎_elim
      (λ (c : Common rule laws y).
      rw c.count (omega (arith, count_none (λ (p : ℕ). is_leap rule y (rule.before y + p)) 12 c.none)))
      (λ (c : Long rule laws y).
      rw c.count (omega (arith, count_one (λ (p : ℕ). is_leap rule y (rule.before y + p)) 13 (leap_place rule y) (omega (arith, c.leap.upto)) c.leap.leap c.leap.alone)))
      (two_kinds rule laws y))

  -- what is marked on its eclipse pages is what comes to be marked in the months up to the next year
  marks_is : (f : Nodes → Bool) →
      count (λ (m : ℕ). f (nodes_of m)) (rule.before y) + count (λ (p : ℕ). f (result_unwrap_or (nodes_at (1 + y) p) zero_nodes)) (months_of (1 + y)) ≡ count (λ (m : ℕ). f (nodes_of m)) (rule.before (suc y))
  marks_is f =
      let marked : ℕ → Bool = λ (m : ℕ). f (nodes_of m) in
      rw (months_is, ← (year_ends rule laws y), count_on marked (rule.before y) (month_count rule y))
      (ap (λ (k : ℕ). count marked (rule.before y) + k)
      (count_same (λ (p : ℕ). f (result_unwrap_or (nodes_at (1 + y) p) zero_nodes)) (λ (p : ℕ). marked (rule.before y + p)) (month_count rule y) (λ p h. ap f (page p h))))

-- THE TOTALS OF THE ROUND'S FIRST y YEARS: the months past twelve a year, and the marked moons of all months before the next year
pub record OfFirst (y : ℕ) (t : Totals) : Type 0 where
  pub leaps : 12 * y + t.leaps ≡ rule.before y
  pub news : t.news ≡ new_moons_marked (rule.before y)
  pub fulls : t.fulls ≡ full_moons_marked (rule.before y)

pub of_first : (y : ℕ) → y ≤ round_years → OfFirst y (totals 1 y)
unfolding totals marks_of count
of_first zero h = record { leaps = omega (arith, laws.opens 0, laws.start); news = start new_marked; fulls = start full_marked }
  where
    start : (f : ℕ → Bool) → 0 ≡ count f (rule.before 0)
    start f = let e : rule.before 0 ≡ 0 = laws.opens 0 ∙ laws.start in rw e
of_first (suc y) h =
    let t = of_first y (omega arith) in
    record {
      leaps = omega (arith, t.leaps, leaps_is y h, year_ends rule laws y);
      news = rw t.news (marks_is y h (λ (x : Nodes). x.new.eclipse.marked));
      fulls = rw t.fulls (marks_is y h (λ (x : Nodes). x.full.eclipse.marked));
    }

-- the totals of a run, and of the run that follows it
pub totals_on : (first a b : ℕ) → totals first (a + b) ≡ plus (totals first a) (totals (first + a) b)
unfolding totals
totals_on first a zero = rw (add-zero a) (let l = add-zero (totals first a).leaps in let n = add-zero (totals first a).news in let f = add-zero (totals first a).fulls in rw (l, n, f) refl)
totals_on first a (suc b) =
    let e : a + suc b ≡ suc (a + b) = omega arith in
    let q : first + (a + b) ≡ first + a + b = omega arith in
    rw (e, totals_on first a b, q) (plus_assoc (totals first a) (totals (first + a) b) (marks_of (first + a + b)))
  where
    plus_assoc : (x z w : Totals) → plus (plus x z) w ≡ plus x (plus z w)
    plus_assoc x z w = let l : x.leaps + z.leaps + w.leaps ≡ x.leaps + (z.leaps + w.leaps) = omega arith in
        let n : x.news + z.news + w.news ≡ x.news + (z.news + w.news) = omega arith in
        let f : x.fulls + z.fulls + w.fulls ≡ x.fulls + (z.fulls + w.fulls) = omega arith in
        rw (l, n, f)

-- a year's months are within the round's
pub months_in_round : (y : ℕ) → y ≤ round_years → rule.before y ≤ round_months
months_in_round y h =
    let e : y + (round_years - y) ≡ round_years = omega arith in
    omega (arith, rw (e, round_months_lem) at (climb_by rule.before (years_climb rule laws) (round_years - y) y))

-- what the totals of the round's years up to one have more than those before a first one
module _ (first year : ℕ) (all start : Totals) (written : 1 ≤ first) (order : first ≤ year) (up_to_lem : all ≡ totals 1 year) (up-to-first : start ≡ totals 1 (first - 1)) where
  abbrev run : Totals
  run = totals first (year + 1 - first)

  parts : all ≡ plus start run
  parts =
      let e : year ≡ first - 1 + (year + 1 - first) = omega arith in
      let q : 1 + (first - 1) ≡ first = omega arith in
      up_to_lem ∙ ap (λ (k : ℕ). totals 1 k) e ∙ totals_on 1 (first - 1) (year + 1 - first) ∙ rw (up-to-first, q) refl

  pub more_leaps : all.leaps ≡ start.leaps + run.leaps
  more_leaps = ap (λ (t : Totals). t.leaps) parts

  pub more_news : all.news ≡ start.news + run.news
  more_news = ap (λ (t : Totals). t.news) parts

  pub more_fulls : all.fulls ≡ start.fulls + run.fulls
  more_fulls = ap (λ (t : Totals). t.fulls) parts

  pub the_rest : record { leaps = all.leaps - start.leaps; news = all.news - start.news; fulls = all.fulls - start.fulls } ≡ run
  the_rest =
      let l : all.leaps - start.leaps ≡ run.leaps = omega (arith, more_leaps) in
      let n : all.news - start.news ≡ run.news = omega (arith, more_news) in
      let f : all.fulls - start.fulls ≡ run.fulls = omega (arith, more_fulls) in
      rw (l, n, f)

-- THE TOTALS OF A RUN OF THE ROUND'S YEARS are at most the round's months
pub record Few (t : Totals) : Type 0 where
  pub leaps : t.leaps ≤ round_months
  pub news : t.news ≤ round_months
  pub fulls : t.fulls ≤ round_months

pub few_totals : (first k : ℕ) → 1 ≤ first → first + k ≤ round_years + 1 → Few (totals first k)
few_totals first k written h =
    let y : ℕ = first - 1 + k in
    let in_round_lem : y ≤ round_years = omega arith in
    let o = of_first y in_round_lem in
    let months = months_in_round y in_round_lem in
    let q : 1 + (first - 1) ≡ first = omega arith in
    let e : totals 1 y ≡ plus (totals 1 (first - 1)) (totals first k) = totals_on 1 (first - 1) k ∙ rw q refl in
    record {
      leaps = omega (arith, ap (λ (t : Totals). t.leaps) e, o.leaps, months);
      news = omega (arith, ap (λ (t : Totals). t.news) e, o.news, count_small new_marked (rule.before y), months);
      fulls = omega (arith, ap (λ (t : Totals). t.fulls) e, o.fulls, count_small full_marked (rule.before y), months);
    }
