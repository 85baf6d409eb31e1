-- What the tests of a span and of two totals say.
-- Assumes nothing.
use mathlib.Core.Bool.{◌&&◌}
use Prim.Native.Nat.{ℕ, ◌≤◌, ◌<◌}
use lib.Dec.{T, leb, ltb, leb→le, le→leb, ltb→lt, lt→ltb}
use Rattle.reckoning.proofs.Searches.{both_left, both_right, both_T}
use Rattle.totals.specs.declared.Totals.{Totals}
use Rattle.reigns.specs.Marked.{in_volume, none_below}

pub record Inside (first end from to : ℕ) : Type 0 where
  pub after : first ≤ from
  pub order : from ≤ to
  pub before : to < end

module _ (first end from to : ℕ) where
  pub inside : T (in_volume first end from to) → Inside first end from to
  unfolding in_volume
  inside t =
      let r = both_right (leb first from) (leb from to && ltb to end) t in
      record {
        after = leb→le first from (both_left (leb first from) (leb from to && ltb to end) t);
        order = leb→le from to (both_left (leb from to) (ltb to end) r);
        before = ltb→lt to end (both_right (leb from to) (ltb to end) r);
      }

  pub is_inside : Inside first end from to → T (in_volume first end from to)
  unfolding in_volume
  is_inside i =
      both_T (leb first from) (leb from to && ltb to end) (le→leb first from i.after)
      (both_T (leb from to) (ltb to end) (le→leb from to i.order) (lt→ltb to end i.before))

pub record Grown (earlier later : Totals) : Type 0 where
  pub leaps : earlier.leaps ≤ later.leaps
  pub news : earlier.news ≤ later.news
  pub fulls : earlier.fulls ≤ later.fulls

module _ (a z : Totals) where
  pub grown : T (none_below a z) → Grown a z
  unfolding none_below
  grown t =
      let r = both_right (leb a.leaps z.leaps) (leb a.news z.news && leb a.fulls z.fulls) t in
      record {
        leaps = leb→le a.leaps z.leaps (both_left (leb a.leaps z.leaps) (leb a.news z.news && leb a.fulls z.fulls) t);
        news = leb→le a.news z.news (both_left (leb a.news z.news) (leb a.fulls z.fulls) r);
        fulls = leb→le a.fulls z.fulls (both_right (leb a.news z.news) (leb a.fulls z.fulls) r);
      }

  pub is_grown : Grown a z → T (none_below a z)
  unfolding none_below
  is_grown g =
      both_T (leb a.leaps z.leaps) (leb a.news z.news && leb a.fulls z.fulls) (le→leb a.leaps z.leaps g.leaps)
      (both_T (leb a.news z.news) (leb a.fulls z.fulls) (le→leb a.news z.news g.news) (le→leb a.fulls z.fulls g.fulls))
